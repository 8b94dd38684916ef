use Rattle.std.proofs.Common.{◌≡◌, ℕ, List, None, Option, Some, IfOk, ap, inl, string_bytes, subst, sym, ◌∙◌}
use Rattle.std.proofs.lemmas.Result.{IfOk-weaker}
use Rattle.terms.specs.declared.leaf.Leaf.{Leaf}
use Rattle.catalog.specs.declared.fragment_leaf.FragmentLeaf.{FragmentLeaf}
use Rattle.catalog.specs.FragmentLeaf.{catalogue_leaves}
use Rattle.catalog.specs.Relation.{catalogue_of}
use Rattle.databases.specs.Schedule.{world_over}
use Rattle.databases.specs.Shown.{IsShownAs, IsShownParts, ShownUnlessRefused, sight_of, written_leaf}
use Rattle.databases.proofs.schedule.Schedule.leaf.Goals as goal

pub returns-in-Some-clause-shown : goal.returns-in-Some-clause-shown
returns-in-Some-clause-shown g c = λ db whole clean has.
    let seen = world_over g.D.DeskStore.is_clean g.S.SiteStore.is_clean g.D.DeskStore.is_sound g.S.SiteStore.is_sound g.D.DeskStore.kept g.S.SiteStore.kept g.D.DeskStore.refused g.S.SiteStore.refused in
    let old = c.args.self.now.world in
    let refused = seen.refused old in
    let now = seen.refused c.parts.new.self.world in
    let catalogue = seen.catalogue old in
    let sight = sight_of seen db whole old in
    let name = c.args.name.now in
    let leaves = c.leaves.ensures.leaves ∙ ap (λ catalog. catalogue_leaves (catalogue_of catalog)) c.catalog.ensures in
    let named : Some c.in-Some.leaf ≡ written_leaf name (catalogue_leaves catalogue) = sym c.in-Some.is ∙ c.in_ok-leaf.ensures ∙ ap (λ (n : List ℕ). written_leaf n c.leaves.result.now) c.as_str.ensures ∙ ap (λ (all : List FragmentLeaf). written_leaf name all) leaves in
    subst (λ (found : Option Leaf). IfOk c.parts.result (λ text. ShownUnlessRefused refused now name (IsShownAs sight name found) (string_bytes text))) named
    (subst (λ (n : List ℕ). IfOk c.parts.result (λ text. ShownUnlessRefused refused now n (IsShownParts sight n c.in-Some.leaf) (string_bytes text))) c.as_str-in-Some.ensures (c.parts.ensures.shown db whole clean has))

pub returns-in-None-clause-shown : goal.returns-in-None-clause-shown
returns-in-None-clause-shown g c = λ db whole clean has.
    let seen = world_over g.D.DeskStore.is_clean g.S.SiteStore.is_clean g.D.DeskStore.is_sound g.S.SiteStore.is_sound g.D.DeskStore.kept g.S.SiteStore.kept g.D.DeskStore.refused g.S.SiteStore.refused in
    let old = c.args.self.now.world in
    let catalogue = seen.catalogue old in
    let sight = sight_of seen db whole old in
    let name = c.args.name.now in
    let leaves = c.leaves.ensures.leaves ∙ ap (λ catalog. catalogue_leaves (catalogue_of catalog)) c.catalog.ensures in
    let named : None ≡ written_leaf name (catalogue_leaves catalogue) = sym c.in-None.is ∙ c.in_ok-leaf.ensures ∙ ap (λ (n : List ℕ). written_leaf n c.leaves.result.now) c.as_str.ensures ∙ ap (λ (all : List FragmentLeaf). written_leaf name all) leaves in
    let shown = subst (λ (n : List ℕ). IfOk c.no_leaf.result (λ text. IsShownAs sight n None (string_bytes text))) c.as_str-in-None.ensures c.no_leaf.ensures in
    subst (λ (found : Option Leaf). IfOk c.no_leaf.result (λ text. ShownUnlessRefused (seen.refused old) (seen.refused old) name (IsShownAs sight name found) (string_bytes text))) named
    (IfOk-weaker c.no_leaf.result _ _ (λ text h. inl h) shown)
