-- Why `link::links_behind` meets its contract.
use Rattle.std.proofs.Common.{◌≡◌, ℕ, suc, ◌+◌, ◌<◌, List, ◌++◌, ◌∷◌, [], length, drop, get_or, ap, ap₂, sym, ◌∙◌, rules, append_assoc, drop-cons, add-one}
use Rattle.meaning.specs.declared.statement.Join.{Join}
use Rattle.plan.specs.declared.link.Link.{Link}
use Rattle.plan.specs.Need.{link_of, links_behind, width_of}
use Rattle.plan.proofs.Places.{width_more}
use Rattle.plan.proofs.link.links_behind.Goals as goal

-- a round puts out the ON of one join
one_more : (links all : List Link) (widths : List ℕ) (joins : List Join) (i : ℕ) (join : Join) → i < length joins → join ≡ get_or joins i join → links ++ links_behind widths (drop i joins) ≡ all →
    (links ++ link_of widths join ∷ []) ++ links_behind (widths ++ length join.relation.columns ∷ []) (drop (i + 1) joins) ≡ all
one_more links all widths joins i join within is found =
    let split : drop i joins ≡ join ∷ drop (i + 1) joins = rw add-one (drop-cons joins i join within ∙ ap (λ (first : Join). first ∷ drop (suc i) joins) (sym is)) in
    append_assoc links (link_of widths join ∷ []) (links_behind (widths ++ length join.relation.columns ∷ []) (drop (i + 1) joins)) ∙ ap (λ (rest : List Join). links ++ links_behind widths rest) (sym split) ∙ found

pub loop-join-preserved : goal.loop-join-preserved
loop-join-preserved c =
    let more = width_more c.loop-join.widths.items (length c.join-item.result.relation.columns) in
    let is : c.in_ok-before.before ≡ width_of c.loop-join.widths.items + length c.join-item.result.relation.columns = search rules in
    let link_is : c.link_of.result ≡ link_of c.loop-join.widths.items c.join-item.result = search rules in
    let put : c.push.new.self.items ≡ c.loop-join.links.items ++ link_of c.loop-join.widths.items c.join-item.result ∷ [] = search rules in
    let pushed : c.push-in-loop-join.new.self.items ≡ c.loop-join.widths.items ++ length c.join-item.result.relation.columns ∷ [] = search rules in
    let step = one_more c.loop-join.links.items (links_behind c.args.widths.items c.args.joins.now) c.loop-join.widths.items c.args.joins.now c.loop-join.join-index c.join-item.result c.loop-join-test.true c.join-item.is c.loop-join.invariant.found in
    record {
      width = is ∙ sym more ∙ ap width_of (sym pushed);
      found = ap₂ (λ (links : List Link) (widths : List ℕ). links ++ links_behind widths (drop (c.loop-join.join-index + 1) c.args.joins.now)) put pushed ∙ step;
    }
