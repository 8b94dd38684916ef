-- Writes that are applied one after another, and what the write between two parts is.
use Rattle.std.proofs.Common.{◌≡◌, ℤ, Bool, true, false, cond, ◌&&◌, ◌||◌, List, [], ◌∷◌, ◌++◌, map, Option, Some, None, refl, ap, ap₂, sym, ◌∙◌, arith}
use Rattle.std.specs.declared.cmp.Ordering.{Ordering}
use Rattle.std.specs.declared.cmp.Ordering.TheVariants.{Less, Equal, Greater}
use Rattle.std.specs.List.{AllByRecursion, cons_option, filter_map, list_any}
use Rattle.std.specs.Option.{option_or}
use Rattle.std.specs.Ordering.{int_cmp, int_eq, is_eq}
use Rattle.std.proofs.lemmas.Int.{ints}
use Rattle.std.proofs.lemmas.Map.Text.{is_eq-slice_cmp}
use Rattle.std.proofs.lemmas.Slice.Eq.{bytes_eq-Decides}
use Rattle.terms.specs.declared.leaf.Leaf.{Leaf}
use Rattle.terms.specs.declared.value.Value.{Value}
use Rattle.terms.specs.declared.value.Value.TheVariants.{Int, Text}
use Rattle.terms.specs.declared.write.Write.{Write}
use Rattle.terms.specs.declared.write.Write.TheVariants.{Put, Del}
use Rattle.terms.specs.Row.{key_of}
use Rattle.terms.specs.Value.{value_cmp}
use Rattle.catalog.specs.Keyed.{row_at}
use Rattle.plan.specs.Reduced.{same_leaf}
use Rattle.plan.proofs.CarriedConds.{both}
use Rattle.plan.proofs.Covered.{or_second}
use Rattle.answers.proofs.Mapped.{one_key}
use Rattle.answers.specs.Writes.{applied, key_written, leaf_of, part_written, same_part, write_between}

-- whether a write is to this key of this leaf
abbrev pub touches : Leaf → ℤ → Write → Bool
touches leaf key write = same_leaf (leaf_of write) leaf && int_eq (key_written write) key

-- each write to this key leaves this part there
abbrev pub Leaves : Leaf → ℤ → Option (List Value) → Write → Type 0
Leaves leaf key value write = touches leaf key write ≡ true → part_written write ≡ value

-- what is there already stays
pub stays : (leaf : Leaf) (key : ℤ) (value : Option (List Value)) (writes : List Write) (before : ℤ → Option (List Value)) → AllByRecursion (Leaves leaf key value) writes → before key ≡ value → applied leaf writes before key ≡ value
stays leaf key value [] before each is = is
stays leaf key value (write ∷ writes) before each is =
    stays leaf key value writes (λ at. cond (same_leaf (leaf_of write) leaf && int_eq (key_written write) at) (part_written write) (before at)) each.1 (here (touches leaf key write) refl)
  where
    here : (t : Bool) → touches leaf key write ≡ t → cond t (part_written write) (before key) ≡ value
    here true touched = each.0 touched
    here false other = is

-- and where some write is to the key it comes
pub comes : (leaf : Leaf) (key : ℤ) (value : Option (List Value)) (writes : List Write) (before : ℤ → Option (List Value)) → AllByRecursion (Leaves leaf key value) writes → list_any (touches leaf key) writes ≡ true → applied leaf writes before key ≡ value
comes leaf key value [] before each some = absurd (cc)
comes leaf key value (write ∷ writes) before each some = at (comes leaf key value writes then each.1) (touches leaf key write) refl some
  where
    then : ℤ → Option (List Value)
    then at = cond (same_leaf (leaf_of write) leaf && int_eq (key_written write) at) (part_written write) (before at)

    at : (list_any (touches leaf key) writes ≡ true → applied leaf writes then key ≡ value) → (t : Bool) → touches leaf key write ≡ t → (t || list_any (touches leaf key) writes) ≡ true → applied leaf writes then key ≡ value
    at more true touched h = stays leaf key value writes then each.1 (ap (λ (t : Bool). cond t (part_written write) (before key)) touched ∙ each.0 touched)
    at more false other h = more h

-- parts with the same values are the same

is_equal : (o : Ordering) → is_eq o ≡ true → o ≡ Equal
is_equal Less h = absurd (cc)
is_equal Equal h = refl
is_equal Greater h = absurd (cc)

one_number : (m n : ℤ) → int_cmp m n ≡ Equal → m ≡ n
one_number m n is = grind (arith, ints)

one_value : (one other : Value) → is_eq (value_cmp one other) ≡ true → one ≡ other
one_value (Int m) (Int n) h = ap Int (one_number m n (is_equal (int_cmp m n) h))
one_value (Int m) (Text t) h = absurd (cc)
one_value (Text s) (Int n) h = absurd (cc)
one_value (Text s) (Text t) h = ap Text ((bytes_eq-Decides s t).0 (sym (is_eq-slice_cmp s t) ∙ h))

one_part : (one other : List Value) → same_part one other ≡ true → one ≡ other
one_part [] [] h = refl
one_part [] (other ∷ others) h = absurd (cc)
one_part (one ∷ ones) [] h = absurd (cc)
one_part (one ∷ ones) (other ∷ others) h =
    let parts = both (is_eq (value_cmp one other)) (same_part ones others) h in
    ap₂ (λ (first : Value) (rest : List Value). first ∷ rest) (one_value one other parts.0) (one_part ones others parts.1)

-- where nothing is to be written, nothing changes
pub unchanged : (leaf : Leaf) (key : ℤ) (before after : Option (List Value)) → write_between leaf key before after ≡ None → before ≡ after
unchanged leaf key None None none = refl
unchanged leaf key (Some part) None none = absurd (cc)
unchanged leaf key None (Some part) none = absurd (cc)
unchanged leaf key (Some part) (Some new) none = at (same_part part new) refl none
  where
    at : (t : Bool) → same_part part new ≡ t → cond t None (Some (Put leaf new)) ≡ None → ◌≡◌ {A = Option (List Value)} (Some part) (Some new)
    at true same h = ap (λ (p : List Value). Some p) (one_part part new same)
    at false other h = absurd (cc)

-- what the write between two parts is
pub record IsBetween (leaf : Leaf) (key : ℤ) (after : Option (List Value)) (write : Write) : Type 0 where
  pub to : leaf_of write ≡ leaf
  pub there : key_written write ≡ key
  pub value : part_written write ≡ after

pub between : (leaf : Leaf) (key : ℤ) (before after : Option (List Value)) (write : Write) → ((part : List Value) → after ≡ Some part → key_of part ≡ key) → write_between leaf key before after ≡ Some write → IsBetween leaf key after write
between leaf key None None write own is = absurd (cc)
between leaf key (Some part) None write own is = let one : Del leaf key ≡ write = cc in record { to = ap leaf_of (sym one); there = ap key_written (sym one); value = ap part_written (sym one) }
between leaf key None (Some new) write own is =
    let one : Put leaf new ≡ write = cc in record { to = ap leaf_of (sym one); there = ap key_written (sym one) ∙ own new refl; value = ap part_written (sym one) }
between leaf key (Some part) (Some new) write own is = at (same_part part new) is
  where
    at : (t : Bool) → cond t None (Some (Put leaf new)) ≡ Some write → IsBetween leaf key (Some new) write
    at true h = absurd (cc)
    at false h = let one : Put leaf new ≡ write = cc in record { to = ap leaf_of (sym one); there = ap key_written (sym one) ∙ own new refl; value = ap part_written (sym one) }

-- where something is to be written, one of the parts is there
pub one_is_there : (leaf : Leaf) (key : ℤ) (before after : Option (List Value)) (write : Write) → write_between leaf key before after ≡ Some write → (part : List Value) × (option_or before after ≡ Some part)
one_is_there leaf key None None write is = absurd (cc)
one_is_there leaf key None (Some new) write is = (new, refl)
one_is_there leaf key (Some part) after write is = (part, refl)

-- of what a function gives of items

pub all_given : {A B : Type 0} (P : B → Type 0) (give : A → Option B) (items : List A) → ((item : A) (made : B) → give item ≡ Some made → P made) → AllByRecursion P (filter_map give items)
all_given P give [] each = tt
all_given {A} {B} P give (item ∷ items) each = at (give item) refl (all_given P give items each)
  where
    at : (o : Option B) → give item ≡ o → AllByRecursion P (filter_map give items) → AllByRecursion P (cons_option o (filter_map give items))
    at None is more = more
    at (Some made) is more = (each item made is, more)

pub some_given : {B : Type 0} (test : B → Bool) (first : Option B) (rest : List B) → list_any test rest ≡ true → list_any test (cons_option first rest) ≡ true
some_given test None rest h = h
some_given test (Some made) rest h = or_second (test made) (list_any test rest) h

pub own_key : (key : ℤ) → int_eq key key ≡ true
own_key key = grind (arith, ints)

-- what is given at the key of some row
pub given_there : (test : Write → Bool) (give : ℤ → Option Write) (key : ℤ) (rows : List (List Value)) (row : List Value) (write : Write) → row_at key rows ≡ Some row → give key ≡ Some write → test write ≡ true → list_any test (filter_map give (map key_of rows)) ≡ true
given_there test give key [] row write there is passes = absurd (cc)
given_there test give key (first ∷ rest) row write there is passes = at (given_there test give key rest row write) (int_eq (key_of first) key) refl there
  where
    later : List Write
    later = filter_map give (map key_of rest)

    at : (row_at key rest ≡ Some row → give key ≡ Some write → test write ≡ true → list_any test later ≡ true) → (t : Bool) → int_eq (key_of first) key ≡ t → cond t (Some first) (row_at key rest) ≡ Some row → list_any test (cons_option (give (key_of first)) later) ≡ true
    at more true same h =
        ap (λ (o : Option Write). list_any test (cons_option o later)) (ap give (one_key (key_of first) key same) ∙ is) ∙ ap (λ (t : Bool). t || list_any test later) passes
    at more false other h = some_given test (give (key_of first)) later (more h is passes)

pub any_front : {A : Type 0} (test : A → Bool) (items others : List A) → list_any test items ≡ true → list_any test (items ++ others) ≡ true
any_front test [] others h = absurd (cc)
any_front {A} test (item ∷ items) others h = at (any_front test items others) (test item) h
  where
    at : (list_any test items ≡ true → list_any test (items ++ others) ≡ true) → (t : Bool) → (t || list_any test items) ≡ true → (t || list_any test (items ++ others)) ≡ true
    at more true h = refl
    at more false h = more h

pub any_back : {A : Type 0} (test : A → Bool) (items others : List A) → list_any test others ≡ true → list_any test (items ++ others) ≡ true
any_back test [] others h = h
any_back test (item ∷ items) others h = or_second (test item) (list_any test (items ++ others)) (any_back test items others h)
