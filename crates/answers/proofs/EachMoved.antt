-- Each move is to a leaf that one of the catalogues has at the move's site.
use Rattle.std.proofs.Common.{◌≡◌, ℕ, ℤ, Bool, true, false, cond, ◌||◌, List, [], ◌∷◌, flat_map, Option, Some, None, option_map, Result, Ok, Err, IfOk, refl, ap, sym, ◌∙◌, subst}
use Rattle.std.specs.List.{AllByRecursion}
use Rattle.terms.specs.declared.leaf.Leaf.{Leaf}
use Rattle.terms.specs.declared.memory.Memory.{Memory}
use Rattle.terms.specs.declared.value.Value.{Value}
use Rattle.terms.specs.declared.write.Write.{Write}
use Rattle.terms.specs.Row.{key_of}
use Rattle.catalog.specs.declared.fragment_leaf.FragmentLeaf.{FragmentLeaf}
use Rattle.catalog.specs.Catalogue.{Catalogue}
use Rattle.catalog.specs.FragmentLeaf.{catalogue_leaves, leaf_named}
use Rattle.catalog.proofs.FormedTrees.{all_both}
use Rattle.answers.specs.declared.moves.Move.{Move}
use Rattle.answers.specs.Moved.{moves_by, part_held, row_move, rows_moved, site_moves}
use Rattle.answers.specs.Moves.{at_site, is_there, is_to_either, leaf_numbered, leaf_there, numbers}
use Rattle.answers.specs.Writes.{write_between}
use Rattle.answers.proofs.Applied.{all_given}
use Rattle.answers.proofs.LeavesWritten.{one_leaf}

-- the write of a move
record IsOfWrite (site : List ℕ) (o : Option Write) (move : Move) : Type 0 where
  write : Write
  is : o ≡ Some write
  made : at_site site write ≡ move

of_write : (site : List ℕ) (o : Option Write) (move : Move) → option_map (at_site site) o ≡ Some move → IsOfWrite site o move
of_write site None move is = absurd (cc)
of_write site (Some write) move is = let same : at_site site write ≡ move = cc in record { write = write; is = refl; made = same }

-- where neither leaf is there, nothing is written
some_there : (t u : Bool) (one other : Option FragmentLeaf) (name : Leaf) (key : ℤ) (row : List Value) (write : Write) →
    write_between name key (part_held (cond t one None) row) (part_held (cond u other None) row) ≡ Some write → (t || u) ≡ true
some_there true u one other name key row write is = refl
some_there false true one other name key row write is = refl
some_there false false one other name key row write is = absurd (cc)

one_moved : (old new : Catalogue) (site : List ℕ) (name : Leaf) (row : List Value) (move : Move) → row_move site name (leaf_there old site name) (leaf_there new site name) row ≡ Some move → is_to_either old new move ≡ true
one_moved old new site name row move is =
    let before = part_held (leaf_there old site name) row in
    let after = part_held (leaf_there new site name) row in
    let of = of_write site (write_between name (key_of row) before after) move is in
    let to = one_leaf name (key_of row) before after of.write of.is in
    ap (is_to_either old new) (sym of.made)
    ∙ ap (λ (leaf : Leaf). is_there old site leaf || is_there new site leaf) to
    ∙ some_there (is_there old site name) (is_there new site name) (leaf_named name (catalogue_leaves old)) (leaf_named name (catalogue_leaves new)) name (key_of row) row of.write of.is

-- what holds of the items of each list
pub all_flat : {A B : Type 0} (P : B → Type 0) (f : A → List B) (items : List A) → ((item : A) → AllByRecursion P (f item)) → AllByRecursion P (flat_map f items)
all_flat P f [] each = tt
all_flat P f (item ∷ items) each = all_both P (f item) (flat_map f items) (each item) (all_flat P f items each)

each_moved : (old new : Catalogue) (relation : List ℕ) (rows : List (List Value)) → AllByRecursion (λ move. is_to_either old new move ≡ true) (moves_by old new relation rows)
each_moved old new relation rows =
    let P : Move → Type 0 = λ move. is_to_either old new move ≡ true in
    all_flat P (site_moves old new relation rows) old.sites
    (λ site.
    all_flat P (λ number. rows_moved old new rows site (leaf_numbered relation number)) numbers
    (λ number.
    let name = leaf_numbered relation number in
    all_given P (row_move site name (leaf_there old site name) (leaf_there new site name)) rows (one_moved old new site name)))

pub moves_held : {V : Type 0} (result : Result V Memory) (items : V → List Move) (old new : Catalogue) (relation : List ℕ) (rows : List (List Value)) → IfOk result (λ moves. items moves ≡ moves_by old new relation rows) →
    IfOk result (λ moves. AllByRecursion (λ one. is_to_either old new one ≡ true) (items moves))
moves_held (Ok moves) items old new relation rows is =
    let P : List Move → Type 0 = λ all. AllByRecursion (λ one. is_to_either old new one ≡ true) all in subst P (sym is) (each_moved old new relation rows)
moves_held (Err error) items old new relation rows is = tt
