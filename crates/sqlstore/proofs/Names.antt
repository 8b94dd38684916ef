-- No two leaves have one name.
use Rattle.std.proofs.Common.{◌≡◌, ℕ, ◌<◌, ◌^◌, true, cond, List, [], ◌∷◌, ◌++◌, Some, refl, sym, ap, ◌∙◌, subst, inl, inr, arith}
use Rattle.std.specs.Fmt.{decimal}
use Rattle.std.specs.List.{AllByRecursion}
use Rattle.std.specs.Ordering.{is_eq}
use Rattle.std.specs.Str.Parse.{AllDigits}
use Rattle.std.proofs.lemmas.Bool.{cases_Bool, or_cases}
use Rattle.std.proofs.lemmas.Fmt.{decimal_is_IsNumeral, decimal_injective}
use Rattle.sqlite_rules.specs.Lists.{Has}
use Rattle.sqlite_rules.proofs.ListLemmas.{has_right}
use Rattle.store.specs.Orders.{leaf_cmp-IsAntisymmetric}
use Rattle.terms.specs.declared.leaf.Leaf.{Leaf}
use Rattle.terms.specs.Leaf.{leaf_text, leaf_cmp}
use Rattle.sqlstore.specs.Cells.{is_text}
use Rattle.sqlstore.specs.Content.{leaf_named, has_leaf, AreNamed}
use Rattle.sqlstore.proofs.Bridge.{text_same, same_text}
use Rattle.sqlstore.proofs.Deleting.{is_equal}

no_dot : (digits : List ℕ) → AllDigits 10 digits → Has digits 46 → ⊥
no_dot [] all there = there
no_dot (digit ∷ digits) all (inl same) = absurd (let wrong = subst (λ d. AllDigits 10 (d ∷ [])) (sym same) (all.0, tt) in omega (arith, wrong.0))
no_dot (digit ∷ digits) all (inr later) = no_dot digits all.1 later

-- texts that end alike behind their last dots
split : (one other front behind : List ℕ) → (Has front 46 → ⊥) → (Has behind 46 → ⊥) → one ++ 46 ∷ front ≡ other ++ 46 ∷ behind → (one ≡ other) × (front ≡ behind)
split [] [] front behind a b same = (refl, cc)
split [] (y ∷ other) front behind a b same =
    let rest : front ≡ other ++ 46 ∷ behind = cc in
    absurd (a (subst (λ l. Has l 46) (sym rest) (has_right other (46 ∷ behind) 46 (inl refl))))
split (x ∷ one) [] front behind a b same =
    let rest : one ++ 46 ∷ front ≡ behind = cc in
    absurd (b (subst (λ l. Has l 46) rest (has_right one (46 ∷ front) 46 (inl refl))))
split (x ∷ one) (y ∷ other) front behind a b same =
    let head : x ≡ y = cc in
    let tail : one ++ 46 ∷ front ≡ other ++ 46 ∷ behind = cc in
    let parts = split one other front behind a b tail in
    (ap (λ t. x ∷ t) parts.0 ∙ ap (λ h. h ∷ other) head, parts.1)

leaf_of : (one other : Leaf) → one.relation ≡ other.relation → one.number ≡ other.number → one ≡ other
leaf_of one other relation number = λ i. record { relation = relation i; number = number i }

-- leaves of one name are one
pub name_once : (one other : Leaf) → one.number < 2 ^ 64 → other.number < 2 ^ 64 → leaf_text one ≡ leaf_text other → one ≡ other
name_once one other low high same =
    let a = (decimal_is_IsNumeral one.number low).0 in
    let b = (decimal_is_IsNumeral other.number high).0 in
    let parts = split one.relation other.relation (decimal one.number) (decimal other.number) (no_dot (decimal one.number) a.1) (no_dot (decimal other.number) b.1) same in
    leaf_of one other parts.0 (decimal_injective one.number other.number low high parts.1)

-- so each leaf of a list goes by its own name
pub are_named : (leaves : List Leaf) → AllByRecursion (λ leaf. leaf.number < 2 ^ 64) leaves → AreNamed leaves
are_named leaves small leaf has = (found leaves small leaf has).0
  where
    found : (leaves : List Leaf) → AllByRecursion (λ leaf. leaf.number < 2 ^ 64) leaves → (leaf : Leaf) → has_leaf leaves leaf ≡ true → (leaf_named leaves (leaf_text leaf) ≡ Some leaf) × (leaf.number < 2 ^ 64)
    found [] small leaf has = absurd cc
    found (one ∷ leaves) small leaf has =
        elim (or_cases (is_eq (leaf_cmp leaf one)) (has_leaf leaves leaf) has) [
          | inl here ↦
              let same : leaf ≡ one = leaf_cmp-IsAntisymmetric leaf one (is_equal _ here) in
              let named : is_text (leaf_text leaf) (leaf_text one) ≡ true = same_text (leaf_text leaf) (leaf_text one) (ap leaf_text same) in
              (ap (λ b. cond b (Some one) (leaf_named leaves (leaf_text leaf))) named ∙ ap Some (sym same), subst (λ l. l.number < 2 ^ 64) (sym same) small.0)
          | inr later ↦
              let rest = found leaves small.1 leaf later in (
                elim (cases_Bool (is_text (leaf_text leaf) (leaf_text one))) [
                  | inl alike ↦
                      let same : leaf ≡ one = name_once leaf one rest.1 small.0 (text_same (leaf_text leaf) (leaf_text one) alike) in
                      ap (λ b. cond b (Some one) (leaf_named leaves (leaf_text leaf))) alike ∙ ap Some (sym same)
                  | inr differ ↦ ap (λ b. cond b (Some one) (leaf_named leaves (leaf_text leaf))) differ ∙ rest.0
                ],
                rest.1,
              )
        ]
