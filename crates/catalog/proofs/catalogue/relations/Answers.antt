use Rattle.std.proofs.Common.{◌≡◌, ◌⊎◌, true, List, [], ◌∷◌, ◌++◌, ℕ, Some, ap, sym, subst, ◌∙◌, append_assoc, map, string_bytes}
use Rattle.std.proofs.lemmas.List.{map-append}
use Rattle.std.specs.List.{AllByRecursion}
use Rattle.toml.specs.Data.{Data}
use Rattle.toml.specs.View.{view, members_view}
use Rattle.catalog.specs.declared.fault.Rule.TheVariants.{Memory}
use Rattle.reader.specs.Breaks.{SomeOf}
use Rattle.catalog.specs.Breaks.{RelationBreaks}
use Rattle.catalog.specs.Refuses.{is_of_text}
use Rattle.catalog.proofs.TextBreaks.{one_breaks}
use Rattle.catalog.specs.Catalogue.{SplitRelation, IsRelationIn, IsValidRelation, entries}
use Rattle.catalog.specs.Describes.{Each}
use Rattle.catalog.specs.Document.{RefusesRelations, TellsRelation}
use Rattle.catalog.specs.Relation.{RefusesRelation, relation_of}
use Rattle.catalog.proofs.Entries.{Entry, entries_both, each_last, all_last, refuses_all, same_or_memory, told_or_memory}
use Rattle.catalog.proofs.catalogue.relations.Goals as goal

pub loop-name-preserved : goal.loop-name-preserved
loop-name-preserved c =
    let l = c.loop-name in
    let done = l.invariant.0 in
    let e : Entry = (c.in-Some.name.now, c.in-Some.node.now) in
    let left = c.next.new.self in
    let all : c.args.table.now.entries ≡ done ++ e ∷ left = l.invariant.1 ∙ ap (λ es. done ++ es) c.in-Some.ensures.steps in
    let R = IsRelationIn c.args.sites.now in
    let found = map relation_of l.relations.items in
    let pushed : map relation_of c.push.new.self.items ≡ found ++ relation_of c.in-Ok.next ∷ [] = ap (map relation_of) c.in_ok-push-in-Ok.ensures.items ∙ map-append relation_of l.relations.items (c.in-Ok.next ∷ []) in
    let P : List ℕ → Type 0 = λ name. R (name, view c.in-Some.node.now) (relation_of c.in-Ok.next) in
    let here : R (string_bytes c.in-Some.name.now, view c.in-Some.node.now) (relation_of c.in-Ok.next) = subst P c.as_str.ensures.value c.in-Ok.ensures.found in
    let Q : List (List ℕ × Data) → Type 0 = λ said. Each R said (found ++ relation_of c.in-Ok.next ∷ []) in
    let S : List SplitRelation → Type 0 = λ relations. Each R (entries (members_view (done ++ e ∷ []))) relations in
    let T : List SplitRelation → Type 0 = AllByRecursion IsValidRelation in (
      done ++ e ∷ [],
      all ∙ sym (append_assoc done (e ∷ []) left),
      subst S (sym pushed) (subst Q (sym (entries_both done e [])) (each_last R (entries (members_view done)) found _ _ l.invariant.2 here)),
      subst T (sym pushed) (all_last IsValidRelation found _ l.invariant.3 c.in-Ok.ensures.valid),
    )

pub returns-in-Err-clause-none : goal.returns-in-Err-clause-none
returns-in-Err-clause-none c =
    let l = c.loop-name in
    let done = l.invariant.0 in
    let e : Entry = (c.in-Some.name.now, c.in-Some.node.now) in
    let left = c.next.new.self in
    let all : c.args.table.now.entries ≡ done ++ e ∷ left = l.invariant.1 ∙ ap (λ es. done ++ es) c.in-Some.ensures.steps in
    let P : List ℕ → Type 0 = λ name. RefusesRelation c.args.sites.now (name, view c.in-Some.node.now) c.in-Err.rule in
    let here : RefusesRelation c.args.sites.now (string_bytes c.in-Some.name.now, view c.in-Some.node.now) c.in-Err.rule = subst P c.as_str.ensures.value c.in-Err.ensures.none in
    let name = string_bytes c.in-Some.name.now in
    let R : List ℕ → Type 0 = λ own. ((c.in_relation.result.rule ≡ c.in-Err.rule) × (c.in_relation.result.relation ≡ Some own)) ⊎ (c.in_relation.result.rule ≡ Memory) in
    let Q : List (List ℕ × Data) → Type 0 = λ said. RefusesRelations c.args.sites.now said (Some name) c.in-Err.rule in
    same_or_memory c.args.sites.now _ name c.in-Err.rule c.in_relation.result.relation c.in_relation.result.rule (subst R c.as_str-in-Err.ensures.value c.in_relation.ensures)
    (subst Q (sym (ap (λ es. entries (members_view es)) all ∙ entries_both done e left)) (refuses_all c.one_list_of_conds.ensures c.args.sites.now (entries (members_view done)) (entries (members_view left)) _ c.in-Err.rule (map relation_of l.relations.items) l.invariant.2 l.invariant.3 here))

pub returns-in-Err-clause-told : goal.returns-in-Err-clause-told
returns-in-Err-clause-told c =
    let l = c.loop-name in
    let done = l.invariant.0 in
    let e : Entry = (c.in-Some.name.now, c.in-Some.node.now) in
    let left = c.next.new.self in
    let all : c.args.table.now.entries ≡ done ++ e ∷ left = l.invariant.1 ∙ ap (λ es. done ++ es) c.in-Some.ensures.steps in
    let P : List ℕ → Type 0 = λ name. RefusesRelation c.args.sites.now (name, view c.in-Some.node.now) c.in-Err.rule in
    let here : RefusesRelation c.args.sites.now (string_bytes c.in-Some.name.now, view c.in-Some.node.now) c.in-Err.rule = subst P c.as_str.ensures.value c.in-Err.ensures.none in
    let R : List ℕ → Type 0 = λ own. ((c.in_relation.result.rule ≡ c.in-Err.rule) × (c.in_relation.result.relation ≡ Some own)) ⊎ (c.in_relation.result.rule ≡ Memory) in
    let Q : List (List ℕ × Data) → Type 0 = λ said. TellsRelation c.args.sites.now said c.in_relation.result.relation c.in_relation.result.rule in
    subst Q (sym (ap (λ es. entries (members_view es)) all ∙ entries_both done e left))
    (told_or_memory c.args.sites.now (entries (members_view done)) (entries (members_view left)) _ c.in-Err.rule c.in_relation.result.relation c.in_relation.result.rule (subst R c.as_str-in-Err.ensures.value c.in_relation.ensures) here)

pub returns-in-Err-clause-breaks : goal.returns-in-Err-clause-breaks
returns-in-Err-clause-breaks c of_text =
    let l = c.loop-name in
    let done = l.invariant.0 in
    let e : Entry = (c.in-Some.name.now, c.in-Some.node.now) in
    let left = c.next.new.self in
    let all : c.args.table.now.entries ≡ done ++ e ∷ left = l.invariant.1 ∙ ap (λ es. done ++ es) c.in-Some.ensures.steps in
    let P : List ℕ → Type 0 = λ name. is_of_text c.in-Err.rule ≡ true → RelationBreaks c.in-Err.rule c.args.sites.now (name, view c.in-Some.node.now) in
    let name = string_bytes c.in-Some.name.now in
    let R : List ℕ → Type 0 = λ own. ((c.in_relation.result.rule ≡ c.in-Err.rule) × (c.in_relation.result.relation ≡ Some own)) ⊎ (c.in_relation.result.rule ≡ Memory) in
    let Q : List (List ℕ × Data) → Type 0 = SomeOf (RelationBreaks c.in_relation.result.rule c.args.sites.now) in
    subst Q (sym (ap (λ es. entries (members_view es)) all ∙ entries_both done e left))
    (one_breaks c.args.sites.now (entries (members_view done)) (entries (members_view left)) name (view c.in-Some.node.now) c.in-Err.rule c.in_relation.result.rule c.in_relation.result.relation (subst R c.as_str-in-Err.ensures.value c.in_relation.ensures) (subst P c.as_str.ensures.value c.in-Err.ensures.breaks) of_text)
