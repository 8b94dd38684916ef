-- The leaf of a name is looked for from the front.
use Rattle.std.proofs.Common.{◌≡◌, ℕ, suc, ◌+◌, ◌<◌, nat_eq, Bool, true, false, cond, List, ◌∷◌, ◌++◌, length, get_or, take, drop, drop-cons, add-one, Option, Some, refl, sym, ap, ◌∙◌}
use Rattle.std.specs.Cmp.Lexicographic.{pointwise}
use Rattle.std.specs.Fmt.{decimal}
use Rattle.std.specs.Bool.{Decides}
use Rattle.std.proofs.lemmas.Bool.{eq-eqb, eqb-true}
use Rattle.std.proofs.lemmas.Map.Text.{is_eq-slice_cmp}
use Rattle.std.proofs.lemmas.Slice.Eq.{bytes_eq-Decides, starts_is}
use Rattle.terms.specs.declared.leaf.Leaf.{Leaf}
use Rattle.terms.specs.Leaf.{leaf_text}
use Rattle.sqlstore.specs.Cells.{is_text}
use Rattle.sqlstore.specs.Content.{leaf_named}

next : (leaves : List Leaf) (i : ℕ) (leaf : Leaf) → i < length leaves → leaf ≡ get_or leaves i leaf → drop i leaves ≡ leaf ∷ drop (suc i) leaves
next leaves i leaf lt is = drop-cons leaves i leaf lt ∙ ap (λ l. l ∷ drop (suc i) leaves) (sym is)

pub named_here : (leaves : List Leaf) (i : ℕ) (leaf : Leaf) (name : List ℕ) (total : Option Leaf) → i < length leaves → leaf ≡ get_or leaves i leaf → leaf_named (drop i leaves) name ≡ total → is_text name (leaf_text leaf) ≡ true → total ≡ Some leaf
named_here leaves i leaf name total lt is so_far same =
    sym so_far ∙ ap (λ ls. leaf_named ls name) (next leaves i leaf lt is) ∙ ap (λ b. cond b (Some leaf) (leaf_named (drop (suc i) leaves) name)) same

pub named_past : (leaves : List Leaf) (i : ℕ) (leaf : Leaf) (name : List ℕ) (total : Option Leaf) → i < length leaves → leaf ≡ get_or leaves i leaf → leaf_named (drop i leaves) name ≡ total → is_text name (leaf_text leaf) ≡ false → leaf_named (drop (i + 1) leaves) name ≡ total
named_past leaves i leaf name total lt is so_far differ =
    rw add-one (sym (ap (λ ls. leaf_named ls name) (next leaves i leaf lt is) ∙ ap (λ b. cond b (Some leaf) (leaf_named (drop (suc i) leaves) name)) differ) ∙ so_far)

numbers_decide : (a b : ℕ) → Decides (nat_eq a b) (a ≡ b)
numbers_decide a b = (eqb-true a b, eq-eqb a b)

-- a name that doesn't begin with a leaf's relation is another one
pub other_front : (leaf : Leaf) (name front : List ℕ) (begins : Bool) → front ≡ leaf.relation → begins ≡ pointwise nat_eq front (take (length front) name) → begins ≡ false → false ≡ is_text name (leaf_text leaf)
other_front leaf name front begins is_front is none = go (is_text name (leaf_text leaf)) refl
  where
    go : (b : Bool) → is_text name (leaf_text leaf) ≡ b → false ≡ b
    go false e = refl
    go true e =
        let same : name ≡ leaf.relation ++ 46 ∷ decimal leaf.number = (bytes_eq-Decides name (leaf_text leaf)).0 (sym (is_eq-slice_cmp name (leaf_text leaf)) ∙ e) in
        sym none ∙ (starts_is numbers_decide name front begins is).1 (46 ∷ decimal leaf.number) (same ∙ ap (λ (relation : List ℕ). relation ++ 46 ∷ decimal leaf.number) (sym is_front))
