-- Assignments that were written, one by one, and that no two of them are to one column.
use Rattle.std.proofs.Common.{◌≡◌, ◌≢◌, ℕ, zero, suc, ◌<◌, true, false, not, cond, List, [], ◌∷◌, ◌++◌, Option, Some, None, option_and_then, option_map, map, take, length, get_or, nat_eq, inl, inr, refl, ap, sym, subst, ◌∙◌, arith}
use Rattle.std.specs.List.{AllByRecursion}
use Rattle.std.proofs.lemmas.Bool.{and_parts, and_from, and_left, and_right, or_parts, or_from, or_left, or_right, or_cases, not-true, not_from_true, not_from_false, eqb-true, eqb-false, eq-eqb, ne_eqb}
use Rattle.std.proofs.lemmas.List.Folds.{list_any-append}
use Rattle.meaning.specs.declared.schema.Column as schema
use Rattle.meaning.specs.declared.statement.Assigned.{Assigned}
use Rattle.meaning.specs.declared.statement.Assignment.{Assignment}
use Rattle.meaning.specs.Statement.{AreApart}
use Rattle.reader.specs.declared.scope.Found.{Found}
use Rattle.reader.specs.declared.tree.Assignment as code_assignment
use Rattle.reader.specs.Names.{all_of, settable, assigned_of, assignment_of, is_set, are_apart, sets_of}
use Rattle.reader.specs.Tree as tree
use Rattle.reader.proofs.Chains.{first_step, mapped_step}
use Rattle.reader.proofs.Each.{all_of_more, all_of_stop}

-- ---- no two to one column

-- one more, to a column that none of them sets
pub apart_more : (sets : List Assignment) (set : Assignment) → are_apart sets ≡ true → is_set set.col sets ≡ false → are_apart (sets ++ set ∷ []) ≡ true
apart_more [] set apart new = refl
apart_more (first ∷ others) set apart new =
    let parts = and_parts (not (is_set first.col others)) (are_apart others) apart in
    let news = or_parts (nat_eq first.col set.col) (is_set set.col others) new in
    let unequal : nat_eq set.col first.col ≡ false = ne_eqb set.col first.col (λ same. eqb-false first.col set.col news.0 (sym same)) in
    let none : is_set first.col (others ++ set ∷ []) ≡ false =
    list_any-append (λ s. nat_eq s.col first.col) others (set ∷ [])
    ∙ or_from (is_set first.col others) (is_set first.col (set ∷ [])) (not-true (is_set first.col others) parts.0) (or_from (nat_eq set.col first.col) false unequal refl) in
    and_from (not (is_set first.col (others ++ set ∷ []))) (are_apart (others ++ set ∷ [])) (not_from_false (is_set first.col (others ++ set ∷ [])) none) (apart_more others set parts.1 news.1)

-- a column that none of them sets
not_among : (column : ℕ) (sets : List Assignment) → is_set column sets ≡ false → AllByRecursion (λ set. column ≢ set.col) sets
not_among column [] none = tt
not_among column (set ∷ sets) none =
    let parts = or_parts (nat_eq set.col column) (is_set column sets) none in
    ((λ same. eqb-false set.col column parts.0 (sym same)), not_among column sets parts.1)

pub are_apart_fits : (sets : List Assignment) → are_apart sets ≡ true → AreApart sets
are_apart_fits [] apart = tt
are_apart_fits (first ∷ others) apart =
    let parts = and_parts (not (is_set first.col others)) (are_apart others) apart in
    (not_among first.col others (not-true (is_set first.col others) parts.0), are_apart_fits others parts.1)

-- ---- one by one

-- an assignment to a column that was found
to_found : (columns : List schema.Column) (written : tree.Assignment) (found : Found) → settable columns written.column ≡ Some found → assignment_of columns written ≡ option_and_then (λ (v : Assigned). Some (record { col = found.place; value = v })) (assigned_of columns found.kind written.value)
to_found columns written found is = ap (option_and_then (λ (f : Found). option_and_then (λ (v : Assigned). Some (record { col = f.place; value = v })) (assigned_of columns f.kind written.value))) is

-- an assignment sets the column that was found
sets_found : (columns : List schema.Column) (written : tree.Assignment) (found : Found) (set : Assignment) → settable columns written.column ≡ Some found → assignment_of columns written ≡ Some set → set.col ≡ found.place
sets_found columns written found set there is =
    let value = first_step (λ (v : Assigned). Some (record { col = found.place; value = v })) (assigned_of columns found.kind written.value) set (sym (to_found columns written found there) ∙ is) in
    cc value.2

-- no list of assignments, no assignments that are apart
pub no_list : (sets : Option (List Assignment)) → sets ≡ None → option_and_then (λ (s : List Assignment). cond (are_apart s) (Some s) None) sets ≡ None
no_list None none = refl
no_list (Some sets) none = cc

-- a column that cannot be set
pub no_column : (columns : List schema.Column) (written : List code_assignment.Assignment) (i : ℕ) (d : code_assignment.Assignment) → i < length written → settable columns (get_or written i d).column.name.now ≡ None → sets_of columns (map tree.assignment_tree written) ≡ None
no_column columns written i d within none =
    no_list (all_of (assignment_of columns) (map tree.assignment_tree written))
    (all_of_stop (assignment_of columns) tree.assignment_tree written i d within
    (ap (option_and_then (λ (f : Found). option_and_then (λ (v : Assigned). Some (record { col = f.place; value = v })) (assigned_of columns f.kind (tree.assigned_tree (get_or written i d).value)))) none))

-- what it cannot be set to
pub no_value : (columns : List schema.Column) (written : List code_assignment.Assignment) (i : ℕ) (d : code_assignment.Assignment) (found : Found) → i < length written → settable columns (get_or written i d).column.name.now ≡ Some found → assigned_of columns found.kind (tree.assigned_tree (get_or written i d).value) ≡ None → sets_of columns (map tree.assignment_tree written) ≡ None
no_value columns written i d found within there none =
    no_list (all_of (assignment_of columns) (map tree.assignment_tree written))
    (all_of_stop (assignment_of columns) tree.assignment_tree written i d within
    (to_found columns (tree.assignment_tree (get_or written i d)) found there ∙ ap (option_and_then (λ (v : Assigned). Some (record { col = found.place; value = v }))) none))

-- one assignment more
pub one_more : (columns : List schema.Column) (written : List code_assignment.Assignment) (i : ℕ) (d : code_assignment.Assignment) (found : Found) (sets : List Assignment) (value : Assigned) → i < length written → all_of (assignment_of columns) (map tree.assignment_tree (take i written)) ≡ Some sets → settable columns (get_or written i d).column.name.now ≡ Some found → assigned_of columns found.kind (tree.assigned_tree (get_or written i d).value) ≡ Some value → all_of (assignment_of columns) (map tree.assignment_tree (take (suc i) written)) ≡ Some (sets ++ record { col = found.place; value = value } ∷ [])
one_more columns written i d found sets value within so_far there is =
    all_of_more (assignment_of columns) tree.assignment_tree written i d sets (record { col = found.place; value = value }) within so_far
    (to_found columns (tree.assignment_tree (get_or written i d)) found there ∙ ap (option_and_then (λ (v : Assigned). Some (record { col = found.place; value = v }))) is)

-- ---- a column that is set a second time

-- the assignments have one to the column of each that was written
is_among : (columns : List schema.Column) (written : List code_assignment.Assignment) (i : ℕ) (d : code_assignment.Assignment) (found : Found) (sets : List Assignment) → i < length written → settable columns (get_or written i d).column.name.now ≡ Some found → all_of (assignment_of columns) (map tree.assignment_tree written) ≡ Some sets → is_set found.place sets ≡ true
is_among columns [] i d found sets within there is = absurd (omega arith)
is_among columns (a ∷ written) zero d found sets within there is =
    let first = first_step (λ (s : Assignment). option_map (λ (ss : List Assignment). s ∷ ss) (all_of (assignment_of columns) (map tree.assignment_tree written))) (assignment_of columns (tree.assignment_tree a)) sets is in
    let rest = mapped_step (λ (ss : List Assignment). first.0 ∷ ss) (all_of (assignment_of columns) (map tree.assignment_tree written)) sets first.2 in
    let P : List Assignment → Type 0 = λ s. is_set found.place s ≡ true in
    subst P rest.2 (or_left (nat_eq first.0.col found.place) (is_set found.place rest.0) (eq-eqb first.0.col found.place (sets_found columns (tree.assignment_tree a) found first.0 there first.1)))
is_among columns (a ∷ written) (suc i) d found sets within there is =
    let first = first_step (λ (s : Assignment). option_map (λ (ss : List Assignment). s ∷ ss) (all_of (assignment_of columns) (map tree.assignment_tree written))) (assignment_of columns (tree.assignment_tree a)) sets is in
    let rest = mapped_step (λ (ss : List Assignment). first.0 ∷ ss) (all_of (assignment_of columns) (map tree.assignment_tree written)) sets first.2 in
    let P : List Assignment → Type 0 = λ s. is_set found.place s ≡ true in
    subst P rest.2 (or_right (nat_eq first.0.col found.place) (is_set found.place rest.0) (is_among columns written i d found rest.0 (omega arith) there rest.1))

-- where the column is set by those before, the whole has two to it
pub set_again : (columns : List schema.Column) (written : List code_assignment.Assignment) (i : ℕ) (d : code_assignment.Assignment) (found : Found) (before sets : List Assignment) → i < length written → settable columns (get_or written i d).column.name.now ≡ Some found → all_of (assignment_of columns) (map tree.assignment_tree (take i written)) ≡ Some before → is_set found.place before ≡ true → all_of (assignment_of columns) (map tree.assignment_tree written) ≡ Some sets → are_apart sets ≡ false
set_again columns [] i d found before sets within there so_far set is = absurd (omega arith)
set_again columns (a ∷ written) zero d found before sets within there so_far set is =
    let none : [] ≡ before = cc in
    let P : List Assignment → Type 0 = λ s. is_set found.place s ≡ true in
    let impossible : false ≡ true = subst P (sym none) set in
    cc
set_again columns (a ∷ written) (suc i) d found before sets within there so_far set is =
    let first = first_step (λ (s : Assignment). option_map (λ (ss : List Assignment). s ∷ ss) (all_of (assignment_of columns) (map tree.assignment_tree written))) (assignment_of columns (tree.assignment_tree a)) sets is in
    let rest = mapped_step (λ (ss : List Assignment). first.0 ∷ ss) (all_of (assignment_of columns) (map tree.assignment_tree written)) sets first.2 in
    let front = first_step (λ (s : Assignment). option_map (λ (ss : List Assignment). s ∷ ss) (all_of (assignment_of columns) (map tree.assignment_tree (take i written)))) (assignment_of columns (tree.assignment_tree a)) before so_far in
    let tail = mapped_step (λ (ss : List Assignment). front.0 ∷ ss) (all_of (assignment_of columns) (map tree.assignment_tree (take i written))) before front.2 in
    let same : front.0 ≡ first.0 = cc (front.1, first.1) in
    let P : List Assignment → Type 0 = λ s. is_set found.place s ≡ true in
    let Q : List Assignment → Type 0 = λ s. are_apart s ≡ false in
    let either = or_cases (nat_eq front.0.col found.place) (is_set found.place tail.0) (subst P (sym tail.2) set) in
    subst Q rest.2 (elim either [
      | inl here ↦
          let column : first.0.col ≡ found.place = ap (λ (s : Assignment). s.col) (sym same) ∙ eqb-true front.0.col found.place here in
          let R : ℕ → Type 0 = λ n. is_set n rest.0 ≡ true in
          and_left (not (is_set first.0.col rest.0)) (are_apart rest.0) (not_from_true (is_set first.0.col rest.0) (subst R (sym column) (is_among columns written i d found rest.0 (omega arith) there rest.1)))
      | inr later ↦
          and_right (not (is_set first.0.col rest.0)) (are_apart rest.0) (set_again columns written i d found tail.0 rest.0 (omega arith) there tail.1 later rest.1)
    ])

pub set_twice : (columns : List schema.Column) (written : List code_assignment.Assignment) (i : ℕ) (d : code_assignment.Assignment) (found : Found) (before : List Assignment) → i < length written → all_of (assignment_of columns) (map tree.assignment_tree (take i written)) ≡ Some before → settable columns (get_or written i d).column.name.now ≡ Some found → is_set found.place before ≡ true → sets_of columns (map tree.assignment_tree written) ≡ None
set_twice columns written i d found before within so_far there set =
    elim (all_of (assignment_of columns) (map tree.assignment_tree written)) as (λ o. all_of (assignment_of columns) (map tree.assignment_tree written) ≡ o → option_and_then (λ (s : List Assignment). cond (are_apart s) (Some s) None) o ≡ None) [
      | None ↦ λ none. refl
      | Some sets ↦ λ is. let twice = set_again columns written i d found before sets within there so_far set is in ap (λ t. cond t (Some sets) None) twice
    ] refl
