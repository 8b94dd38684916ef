-- Parts and changes gone through side by side: what each comparison of two keys keeps.
use Rattle.std.proofs.Common.{◌≡◌, nat_eq, ◌⊎◌, inl, inr, ℕ, suc, ℤ, int_lt, Some, None, append-nil, true, false, List, [], ◌∷◌, ◌++◌, Option, drop, length, map, refl, ap, ap₂, sym, ◌∙◌, subst, append_assoc, arith}
use Rattle.std.proofs.lemmas.Bool.Decides.{nat_tests}
use Rattle.std.proofs.lemmas.Int.{ints}
use Rattle.std.specs.Borrow.{Bor}
use Rattle.std.specs.List.{AllByRecursion}
use Rattle.std.specs.List.Sorted.{IsStrictlySortedBy}
use Rattle.std.specs.Ordering.{int_cmp}
use Rattle.std.specs.Slice.{IsItemAt}
use Rattle.std.specs.declared.cmp.Ordering.TheVariants.{Less, Equal, Greater}
use Rattle.std.proofs.lemmas.Map.Keys.{sorted_head, sorted_tail}
use Rattle.terms.specs.declared.cond.Cond.{Cond}
use Rattle.terms.specs.declared.value.Value.{Value}
use Rattle.terms.specs.Row.{key_of}
use Rattle.site.specs.Overlay.{overlaid, parts_above, parts_below, put_of, puts}

-- numbers by how they compare

less_before : (a b : ℤ) → int_cmp a b ≡ Less → int_lt a b ≡ true
less_before a b is = grind (arith, ints)

less_behind : (a b : ℤ) → int_cmp a b ≡ Less → int_lt b a ≡ false
less_behind a b is = grind (arith, ints)

equal_before : (a b : ℤ) → int_cmp a b ≡ Equal → int_lt a b ≡ false
equal_before a b is = grind (arith, ints)

equal_behind : (a b : ℤ) → int_cmp a b ≡ Equal → int_lt b a ≡ false
equal_behind a b is = grind (arith, ints)

greater_before : (a b : ℤ) → int_cmp a b ≡ Greater → int_lt a b ≡ false
greater_before a b is = grind (arith, ints)

greater_behind : (a b : ℤ) → int_cmp a b ≡ Greater → int_lt b a ≡ true
greater_behind a b is = grind (arith, ints)

later_greater : (a b c : ℤ) → int_cmp a b ≡ Greater → int_cmp a c ≡ Less → int_cmp c b ≡ Greater
later_greater a b c above below = grind (arith, ints)

-- where all keys are above one, the parts below it are none, and those above it all

none_below : (key : ℤ) (parts : List (List Value)) → AllByRecursion (λ other. int_cmp other key ≡ Greater) (map key_of parts) → parts_below key parts ≡ []
none_below key [] above = refl
none_below key (part ∷ parts) above = rw (greater_before (key_of part) key above.0) (none_below key parts above.1)

all_above : (key : ℤ) (parts : List (List Value)) → AllByRecursion (λ other. int_cmp other key ≡ Greater) (map key_of parts) → parts_above key parts ≡ parts
all_above key [] above = refl
all_above key (part ∷ parts) above = rw (greater_behind (key_of part) key above.0) (ap (λ (rest : List (List Value)). part ∷ rest) (all_above key parts above.1))

-- so they are where the first of ascending parts is
all_greater : (key : ℤ) (part : List Value) (parts : List (List Value)) → IsStrictlySortedBy int_cmp (map key_of (part ∷ parts)) → int_cmp (key_of part) key ≡ Greater → AllByRecursion (λ other. int_cmp other key ≡ Greater) (map key_of (part ∷ parts))
all_greater key part parts order above = (above, further parts (sorted_head int_cmp (key_of part) (map key_of parts) order))
  where
    further : (rest : List (List Value)) → AllByRecursion (λ later. int_cmp (key_of part) later ≡ Less) (map key_of rest) → AllByRecursion (λ other. int_cmp other key ≡ Greater) (map key_of rest)
    further [] all = tt
    further (next ∷ rest) all = (later_greater (key_of part) key (key_of next) above all.0, further rest all.1)

module _ (conds : List Cond) where
  -- what is made, by the first of both

  first_less : (part : List Value) (parts : List (List Value)) (change : ℤ × Option (List Value)) (changes : List (ℤ × Option (List Value))) → int_cmp (key_of part) change.0 ≡ Less → overlaid conds (part ∷ parts) (change ∷ changes) ≡ part ∷ overlaid conds parts (change ∷ changes)
  first_less part parts change changes is = rw (less_before (key_of part) change.0 is) (rw (less_behind (key_of part) change.0 is) refl)

  first_equal : (part : List Value) (parts : List (List Value)) (change : ℤ × Option (List Value)) (changes : List (ℤ × Option (List Value))) → int_cmp (key_of part) change.0 ≡ Equal → overlaid conds (part ∷ parts) (change ∷ changes) ≡ overlaid conds parts (change ∷ changes)
  first_equal part parts change changes is = rw (equal_before (key_of part) change.0 is) (rw (equal_behind (key_of part) change.0 is) refl)

  first_greater : (part : List Value) (parts : List (List Value)) (change : ℤ × Option (List Value)) (changes : List (ℤ × Option (List Value))) → IsStrictlySortedBy int_cmp (map key_of (part ∷ parts)) → int_cmp (key_of part) change.0 ≡ Greater →
      overlaid conds (part ∷ parts) (change ∷ changes) ≡ put_of conds change ++ overlaid conds (part ∷ parts) changes
  first_greater part parts change changes order is =
      let all = all_greater change.0 part parts order is in
      ap₂ (λ (front back : List (List Value)). front ++ (put_of conds change ++ overlaid conds back changes)) (none_below change.0 (part ∷ parts) all) (all_above change.0 (part ∷ parts) all)

  -- changes alone put what they put
  made_alone : (changes : List (ℤ × Option (List Value))) → overlaid conds [] changes ≡ puts conds changes
  made_alone [] = refl
  made_alone (change ∷ changes) = ap (λ (back : List (List Value)). put_of conds change ++ back) (made_alone changes)

  -- what is made so far, and what the rest of both makes, are what all of both make
  pub record IsMerging (all : List (List Value)) (all_changes : List (ℤ × Option (List Value))) (found rest : List (List Value)) (changes : List (ℤ × Option (List Value))) : Type 0 where
    pub so_far : found ++ overlaid conds rest changes ≡ overlaid conds all all_changes
    pub order : IsStrictlySortedBy int_cmp (map key_of rest)

  module _ (all : List (List Value)) (all_changes : List (ℤ × Option (List Value))) where
    pub merge_less : (found made rest left : List (List Value)) (changes later : List (ℤ × Option (List Value))) (part : List Value) (change : ℤ × Option (List Value)) → IsMerging all all_changes found rest changes → rest ≡ part ∷ left → changes ≡ change ∷ later →
        int_cmp (key_of part) change.0 ≡ Less → made ≡ found ++ part ∷ [] → IsMerging all all_changes made left changes
    merge_less found made rest left changes later part change before is is_changes less is_made = record {
      so_far =
          ap₂ (λ (front : List (List Value)) (cs : List (ℤ × Option (List Value))). front ++ overlaid conds left cs) is_made is_changes
          ∙ append_assoc found (part ∷ []) (overlaid conds left (change ∷ later))
          ∙ ap (λ (back : List (List Value)). found ++ back) (sym (first_less part left change later less))
          ∙ ap₂ (λ (ps : List (List Value)) (cs : List (ℤ × Option (List Value))). found ++ overlaid conds ps cs) (sym is) (sym is_changes)
          ∙ before.so_far;
      order = sorted_tail int_cmp (key_of part) (map key_of left) (subst (λ (ps : List (List Value)). IsStrictlySortedBy int_cmp (map key_of ps)) is before.order);
    }

    pub merge_equal : (found rest left : List (List Value)) (changes later : List (ℤ × Option (List Value))) (part : List Value) (change : ℤ × Option (List Value)) → IsMerging all all_changes found rest changes → rest ≡ part ∷ left → changes ≡ change ∷ later →
        int_cmp (key_of part) change.0 ≡ Equal → IsMerging all all_changes found left changes
    merge_equal found rest left changes later part change before is is_changes equal = record {
      so_far =
          ap (λ (cs : List (ℤ × Option (List Value))). found ++ overlaid conds left cs) is_changes
          ∙ ap (λ (back : List (List Value)). found ++ back) (sym (first_equal part left change later equal))
          ∙ ap₂ (λ (ps : List (List Value)) (cs : List (ℤ × Option (List Value))). found ++ overlaid conds ps cs) (sym is) (sym is_changes)
          ∙ before.so_far;
      order = sorted_tail int_cmp (key_of part) (map key_of left) (subst (λ (ps : List (List Value)). IsStrictlySortedBy int_cmp (map key_of ps)) is before.order);
    }

    pub merge_greater : (found made rest left : List (List Value)) (changes later : List (ℤ × Option (List Value))) (part : List Value) (change : ℤ × Option (List Value)) → IsMerging all all_changes found rest changes → rest ≡ part ∷ left → changes ≡ change ∷ later →
        int_cmp (key_of part) change.0 ≡ Greater → made ≡ found ++ puts conds (change ∷ []) → IsMerging all all_changes made rest later
    merge_greater found made rest left changes later part change before is is_changes greater is_made =
        let order = subst (λ (ps : List (List Value)). IsStrictlySortedBy int_cmp (map key_of ps)) is before.order in
        record {
          so_far =
              ap₂ (λ (front ps : List (List Value)). front ++ overlaid conds ps later) (is_made ∙ ap (λ (back : List (List Value)). found ++ back) (append-nil (put_of conds change))) is
              ∙ append_assoc found (put_of conds change) (overlaid conds (part ∷ left) later)
              ∙ ap (λ (back : List (List Value)). found ++ back) (sym (first_greater part left change later order greater))
              ∙ ap₂ (λ (ps : List (List Value)) (cs : List (ℤ × Option (List Value))). found ++ overlaid conds ps cs) (sym is) (sym is_changes)
              ∙ before.so_far;
          order = before.order;
        }

    -- where one of both is gone through, the rest is as it is
    pub both_made : (found rest : List (List Value)) (changes : List (ℤ × Option (List Value))) → IsMerging all all_changes found rest changes → (rest ≡ []) ⊎ (changes ≡ []) → (found ++ puts conds changes) ++ rest ≡ overlaid conds all all_changes
    both_made found rest changes before (inl none) =
        ap (λ (r : List (List Value)). (found ++ puts conds changes) ++ r) none ∙ append-nil (found ++ puts conds changes)
        ∙ ap (λ (back : List (List Value)). found ++ back) (sym (made_alone changes))
        ∙ ap (λ (r : List (List Value)). found ++ overlaid conds r changes) (sym none)
        ∙ before.so_far
    both_made found rest changes before (inr none) =
        ap (λ (cs : List (ℤ × Option (List Value))). (found ++ puts conds cs) ++ rest) none
        ∙ ap (λ (front : List (List Value)). front ++ rest) (append-nil found)
        ∙ ap (λ (cs : List (ℤ × Option (List Value))). found ++ overlaid conds rest cs) (sym none)
        ∙ before.so_far

-- the first of some items, and the others
pub first_of : {A : Type 0} (items : List A) (first : Bor A) → IsItemAt items 0 (Some first) → items ≡ first.now ∷ drop 1 items
first_of [] first is = let some = is.3.0 in absurd (omega (arith, some))
first_of (item ∷ items) first is = ap (λ (head : _). head ∷ items) (sym is.1)

-- where no first is there are none
pub none_first : {A : Type 0} (items : List A) → IsItemAt items 0 None → items ≡ []
none_first [] is = refl
none_first (item ∷ items) is = let none = is.3 in absurd (omega (arith, none))

-- so it is where they are counted
pub none_counted : {A : Type 0} (items : List A) → nat_eq (length items) 0 ≡ true → items ≡ []
none_counted [] is = refl
none_counted (item ∷ items) is = let never : false ≡ true = sym (more (length items)) ∙ is in cc
  where
    more : (n : ℕ) → nat_eq (suc n) 0 ≡ false
    more n = grind (arith, nat_tests)
