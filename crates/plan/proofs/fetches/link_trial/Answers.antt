-- Why `fetches::link_trial` meets its contract.
use Rattle.std.proofs.Common.{◌≡◌, ◌==◌, ℕ, Bool, true, false, cond, List, Some, None, option_map, length, refl, ap, sym, ◌∙◌, rules}
use Rattle.std.proofs.lemmas.Option.{slice_get_read}
use Rattle.std.specs.List.{slice_get}
use Rattle.catalog.specs.Relation.{catalogue_of}
use Rattle.plan.specs.declared.link.Link.{Link}
use Rattle.plan.specs.declared.need.Need.{Need}
use Rattle.plan.specs.declared.stated.Trial.{Trial}
use Rattle.plan.specs.Picked.{tie_trial}
use Rattle.plan.specs.Stated.{ByColumn, ByKey, tie_of}
use Rattle.plan.proofs.fetches.link_trial.Goals as goal

-- an ON by the key of the need of a number
by_key : (needs : List Need) (number : ℕ) (link : Link) (other : Need) → (link.from == number) ≡ false → (link.joined == number) ≡ true → slice_get needs link.from ≡ Some other → tie_of needs number link ≡ Some (ByKey link.col other)
by_key needs number link other from joined there =
    ap (λ (t : Bool). cond t (option_map (ByColumn link.col) (slice_get needs link.joined)) (cond (link.joined == number) (option_map (ByKey link.col) (slice_get needs link.from)) None)) from
    ∙ ap (λ (t : Bool). cond t (option_map (ByKey link.col) (slice_get needs link.from)) None) joined
    ∙ ap (option_map (ByKey link.col)) there

pub returns-then-link-number-2 : goal.returns-then-link-number-2
returns-then-link-number-2 c =
    let from : (c.args.link.now.from == c.args.number) ≡ false = search rules in
    let joined : (c.args.link.now.joined == c.args.number) ≡ true = search rules in
    let there : slice_get c.args.needs.now c.args.link.now.from ≡ Some c.in-Some-get.other.now =
    slice_get_read c.args.needs.now (length c.args.needs.now) c.args.link.now.from c.in-Some-get.other.now refl c.in-Some-get.ensures.lookup.3.0 c.in-Some-get.ensures.lookup.1 in
    let tie = by_key c.args.needs.now c.args.number c.args.link.now c.in-Some-get.other.now from joined there in
    ap (λ (trial : Trial). Some trial) c.in_ok-key_trial.ensures ∙ ap (option_map (tie_trial (catalogue_of c.args.catalog.now) c.args.need.now)) (sym tie)
