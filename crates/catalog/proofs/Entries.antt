-- The relations of a table, one after another.
use Rattle.std.proofs.Common.{◌≡◌, List, [], ◌∷◌, ◌++◌, ℕ, suc, Option, Some, refl, ap, sym, subst, String, Global, string_bytes, ◌⊎◌, inl, inr, arith}
use Rattle.std.specs.Prelude.{Contains}
use Rattle.std.specs.List.{AllByRecursion}
use Rattle.toml.specs.Data.{Data}
use Rattle.toml.specs.View.{view, members_view}
use Rattle.toml.specs.declared.value.Value.{Value}
use Rattle.catalog.specs.declared.fault.Rule.{Rule}
use Rattle.catalog.specs.declared.fault.Rule.TheVariants.{Memory}
use Rattle.catalog.specs.Catalogue.{SplitRelation, IsRelationIn, IsValidRelation, entries}
use Rattle.reader.specs.Conds.{OneListOfCondsOfText}
use Rattle.catalog.specs.Inexact.{IsFirstFaulty, IsFirstInexact, row_splits}
use Rattle.catalog.proofs.Refusals.{refuses_known, refuses_map}
use Rattle.catalog.proofs.RelationTexts.{one_relation}
use Rattle.catalog.specs.Describes.{Each}
use Rattle.catalog.specs.Document.{IsToldOf, RefusesRelations, SaysNoRelations, TellsRelation}
use Rattle.catalog.specs.Relation.{RefusesRelation, SaysNoRelation}

abbrev pub Entry : Type 0
Entry = String Global × Value

-- one entry, and others behind it
pub entries_both : (es : List Entry) (e : Entry) (more : List Entry) → entries (members_view (es ++ e ∷ more)) ≡ entries (members_view es) ++ (string_bytes e.0, view e.1) ∷ entries (members_view more)
entries_both [] e more = refl
entries_both (x ∷ es) e more = ap (λ rest. (string_bytes x.0, view x.1) ∷ rest) (entries_both es e more)

-- one more on both sides
pub each_last : {A B : Type 0} (R : A → B → Type 0) (xs : List A) (ys : List B) (x : A) (y : B) → Each R xs ys → R x y → Each R (xs ++ x ∷ []) (ys ++ y ∷ [])
each_last R [] [] x y each here = (here, tt)
each_last R [] (z ∷ ys) x y each here = absurd each
each_last R (w ∷ xs) [] x y each here = absurd each
each_last R (w ∷ xs) (z ∷ ys) x y each here = (each.0, each_last R xs ys x y each.1 here)

pub all_last : {B : Type 0} (P : B → Type 0) (ys : List B) (y : B) → AllByRecursion P ys → P y → AllByRecursion P (ys ++ y ∷ [])
all_last P [] y all here = (here, tt)
all_last P (z ∷ ys) y all here = (all.0, all_last P ys y all.1 here)

-- one with which nothing goes, or nothing that passes
none_at : {A B : Type 0} (R : A → B → Type 0) (xs more : List A) (x : A) → ((y : B) → R x y → ⊥) → (ys : List B) → Each R (xs ++ x ∷ more) ys → ⊥
none_at R [] more x none [] each = each
none_at R [] more x none (y ∷ ys) each = none y each.0
none_at R (w ∷ xs) more x none [] each = each
none_at R (w ∷ xs) more x none (y ∷ ys) each = none_at R xs more x none ys each.1

-- the relations before are valid, and the first split of this one that is not exact is the first of all
relations_inexact : OneListOfCondsOfText → (sites : List (List ℕ)) (before more : List (List ℕ × Data)) (entry : List ℕ × Data) (rule : Rule) (found relations : List SplitRelation) →
    Each (IsRelationIn sites) before found → AllByRecursion IsValidRelation found →
    ((relation : SplitRelation) → IsRelationIn sites entry relation → IsFirstInexact (record { sites = sites; columns = relation.schema.columns }) rule (row_splits [] relation.tree)) →
    Each (IsRelationIn sites) (before ++ entry ∷ more) relations → IsFirstFaulty sites (Some entry.0) rule relations
relations_inexact law sites [] more entry rule found [] each valid first said = said
relations_inexact law sites [] more entry rule found (relation ∷ relations) each valid first said = inl (ap Some (sym said.0.named), first relation said.0)
relations_inexact law sites (x ∷ before) more entry rule [] relations each valid first said = absurd each
relations_inexact law sites (x ∷ before) more entry rule (own ∷ found) [] each valid first said = said
relations_inexact law sites (x ∷ before) more entry rule (own ∷ found) (relation ∷ relations) each valid first said =
    let same : own ≡ relation = one_relation law sites x own relation each.0 said.0 in
    inr (subst IsValidRelation same valid.0, relations_inexact law sites before more entry rule found relations each.1 valid.1 first said.1)

-- a refusal of one relation is one of all
pub refuses_all : OneListOfCondsOfText → (sites : List (List ℕ)) (before more : List (List ℕ × Data)) (entry : List ℕ × Data) (rule : Rule) (found : List SplitRelation) →
    Each (IsRelationIn sites) before found → AllByRecursion IsValidRelation found → RefusesRelation sites entry rule → RefusesRelations sites (before ++ entry ∷ more) (Some entry.0) rule
refuses_all law sites before more entry rule found each valid refused =
    refuses_map
    ((relation : SplitRelation) → IsRelationIn sites entry relation → IsFirstInexact (record { sites = sites; columns = relation.schema.columns }) rule (row_splits [] relation.tree))
    ((relations : List SplitRelation) → Each (IsRelationIn sites) (before ++ entry ∷ more) relations → IsFirstFaulty sites (Some entry.0) rule relations)
    (SaysNoRelation sites entry) (SaysNoRelations sites (before ++ entry ∷ more)) rule
    (λ first relations said. relations_inexact law sites before more entry rule found relations each valid first said)
    (none_at (IsRelationIn sites) before more entry) refused

-- the same rule of the same relation, or want of memory
pub same_or_memory : (sites : List (List ℕ)) (said : List (List ℕ × Data)) (name : List ℕ) (rule : Rule) (told : Option (List ℕ)) (answered : Rule) →
    ((answered ≡ rule) × (told ≡ Some name)) ⊎ (answered ≡ Memory) → RefusesRelations sites said (Some name) rule → RefusesRelations sites said told answered
same_or_memory sites said name rule told answered (inl same) h =
    let P : Option (List ℕ) → Type 0 = λ one. RefusesRelations sites said one rule in
    let Q : Rule → Type 0 = RefusesRelations sites said told in
    subst Q (sym same.0) (subst P (sym same.1) h)
same_or_memory sites said name rule told answered (inr memory) h = let Q : Rule → Type 0 = RefusesRelations sites said told in subst Q (sym memory) tt

-- an item stands between those before and behind it
stands_among : {A : Type 0} (before more : List A) (x : A) → Contains (before ++ x ∷ more) x
stands_among [] more x = (0, omega arith, refl)
stands_among (y ∷ before) more x = let rest = stands_among before more x in (suc rest.0, omega (arith, rest.1), rest.2)

-- the relation that is refused is told
tells_here : (sites : List (List ℕ)) (before more : List (List ℕ × Data)) (entry : List ℕ × Data) (rule : Rule) → RefusesRelation sites entry rule → TellsRelation sites (before ++ entry ∷ more) (Some entry.0) rule
tells_here sites before more entry rule refused =
    refuses_known (IsToldOf sites (before ++ entry ∷ more) (Some entry.0) rule) rule (entry, stands_among before more entry, refl, refused)

-- the same rule of the same relation, or want of memory
pub told_or_memory : (sites : List (List ℕ)) (before more : List (List ℕ × Data)) (entry : List ℕ × Data) (rule : Rule) (told : Option (List ℕ)) (answered : Rule) →
    ((answered ≡ rule) × (told ≡ Some entry.0)) ⊎ (answered ≡ Memory) → RefusesRelation sites entry rule → TellsRelation sites (before ++ entry ∷ more) told answered
told_or_memory sites before more entry rule told answered (inl same) refused =
    let P : Option (List ℕ) → Type 0 = λ one. TellsRelation sites (before ++ entry ∷ more) one rule in
    let Q : Rule → Type 0 = TellsRelation sites (before ++ entry ∷ more) told in
    subst Q (sym same.0) (subst P (sym same.1) (tells_here sites before more entry rule refused))
told_or_memory sites before more entry rule told answered (inr memory) refused = let Q : Rule → Type 0 = TellsRelation sites (before ++ entry ∷ more) told in subst Q (sym memory) tt
