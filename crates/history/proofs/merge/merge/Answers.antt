-- Why `merge` meets its contract.
use Rattle.std.proofs.Common.{◌≡◌, ◌∙◌, ◌++◌, ◌∷◌, [], subst, arith}
use Rattle.history.specs.Merge.{Breaks}
use Rattle.history.specs.Picks.{IsLeast, act_of, acts_of, rows_of}
use Rattle.history.proofs.Merging.{breaks, least_within, left_fewer, picked}
use Rattle.history.proofs.merge.merge.Goals as goal

pub returns-then-from-low-clause-why : goal.returns-then-from-low-clause-why
returns-then-from-low-clause-why g c = λ k e.
    let number = g.T.Numbered.number in
    let rest = c.loop-pick.rest.items in
    let act = act_of c.in-Some.pick in
    let least = subst (λ rows. IsLeast number (rows_of rows) act) c.as_slice.ensures.value c.in-Some.ensures in
    let is : number act.entry ≡ k = cc in
    subst (Breaks number (rows_of c.args.rows.now)) is (breaks number (rows_of c.args.rows.now) (rows_of rest) (acts_of c.loop-pick.picks.items) c.loop-pick.low act c.loop-pick.invariant least (omega (arith, c.number-number.ensures)))

pub index-items-requires : goal.index-items-requires
index-items-requires g c =
    let number = g.T.Numbered.number in
    let rest = c.loop-pick.rest in
    let act = act_of c.in-Some.pick in
    let least = subst (λ rows. IsLeast number (rows_of rows) act) c.as_slice.ensures.value c.in-Some.ensures in
    omega (arith, rest.ok.0, least_within number rest.items act least)

pub index_mut-requires : goal.index_mut-requires
index_mut-requires g c =
    let number = g.T.Numbered.number in
    let rest = c.loop-pick.rest in
    let act = act_of c.in-Some.pick in
    let least = subst (λ rows. IsLeast number (rows_of rows) act) c.as_slice.ensures.value c.in-Some.ensures in
    omega (arith, rest.ok.0, least_within number rest.items act least)

pub loop-pick-smaller : goal.loop-pick-smaller
loop-pick-smaller g c =
    let number = g.T.Numbered.number in
    let rest = c.loop-pick.rest.items in
    let act = act_of c.in-Some.pick in
    let least = subst (λ rows. IsLeast number (rows_of rows) act) c.as_slice.ensures.value c.in-Some.ensures in
    left_fewer number rest act c.index-items.result.now c.behind_first.result least c.index-items.ensures c.behind_first.ensures

pub loop-pick-preserved : goal.loop-pick-preserved
loop-pick-preserved g c =
    let number = g.T.Numbered.number in
    let rest = c.loop-pick.rest.items in
    let pick = c.in-Some.pick in
    let least = subst (λ rows. IsLeast number (rows_of rows) (act_of pick)) c.as_slice.ensures.value c.in-Some.ensures in
    let items : c.push.new.self.items ≡ c.loop-pick.picks.items ++ pick ∷ [] = c.in_ok-push.ensures.items in
    let low : c.from-low.result ≡ number pick.item.now = c.from-low.ensures ∙ c.number-number.ensures in
    rw (items, low) (picked number (rows_of c.args.rows.now) rest c.loop-pick.picks.items c.loop-pick.low pick c.index-items.result.now c.behind_first.result c.loop-pick.invariant least (omega (arith, c.number-number.ensures, c.from.ensures)) c.index-items.ensures c.behind_first.ensures)
