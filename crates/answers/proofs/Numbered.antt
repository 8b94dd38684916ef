-- Moves that are put behind others, number by number.
use Rattle.std.proofs.Common.{◌≡◌, ℕ, suc, ◌+◌, List, [], ◌∷◌, ◌++◌, append_assoc, flat_map, false, Bor, Option, Some, None, is_some, refl, ap, ap₂, sym, ◌∙◌, arith}
use Rattle.std.proofs.lemmas.List.{append-nil}
use Rattle.std.specs.List.{filter_map, range_with_len}
use Rattle.std.specs.Option.{option_copied}
use Rattle.terms.specs.declared.leaf.Leaf.{Leaf}
use Rattle.terms.specs.declared.value.Value.{Value}
use Rattle.catalog.specs.declared.fragment_leaf.FragmentLeaf.{FragmentLeaf}
use Rattle.catalog.specs.Catalogue.{Catalogue}
use Rattle.answers.specs.declared.moves.Move.{Move}
use Rattle.answers.specs.Moved.{row_move, rows_moved}
use Rattle.answers.specs.Moves.{leaf_numbered, leaf_there, numbers}

-- with the moves of the numbers from one on, so far as they go, all are there
pub record LeavesRest (give : ℕ → List Move) (all so_far : List Move) (number : ℕ) : Type 0 where
  pub rest : (count : ℕ) → number + count ≡ 33 → so_far ++ flat_map give (range_with_len number count) ≡ all

pub none_put : (give : ℕ → List Move) (before : List Move) → LeavesRest give (before ++ flat_map give numbers) before 1
unfolding numbers
none_put give before = record { rest = λ count is. let all : count ≡ 32 = omega arith in ap (λ (n : ℕ). before ++ flat_map give (range_with_len 1 n)) all }

pub one_put : (give : ℕ → List Move) (all so_far next : List Move) (number : ℕ) → next ≡ so_far ++ give number → LeavesRest give all so_far number → LeavesRest give all next (number + 1)
one_put give all so_far next number is leaves = record {
  rest = λ count sum.
      let one_more : number + suc count ≡ 33 = omega arith in
      ap (λ (items : List Move). items ++ flat_map give (range_with_len (number + 1) count)) is ∙ append_assoc so_far (give number) (flat_map give (range_with_len (number + 1) count)) ∙ leaves.rest (suc count) one_more;
}

pub all_put : (give : ℕ → List Move) (all so_far : List Move) (number : ℕ) → number ≡ 33 → LeavesRest give all so_far number → so_far ≡ all
all_put give all so_far number is leaves =
    let sum : number + 0 ≡ 33 = omega arith in sym (append-nil so_far) ∙ leaves.rest 0 sum

-- the moves of one number
pub number_put : (old new : Catalogue) (rows : List (List Value)) (site relation copy : List ℕ) (number : ℕ) (before after : Option FragmentLeaf) (so_far next : List Move) → copy ≡ relation → before ≡ leaf_there old site (leaf_numbered copy number) →
    after ≡ leaf_there new site (leaf_numbered copy number) → next ≡ so_far ++ filter_map (row_move site (leaf_numbered copy number) before after) rows → next ≡ so_far ++ rows_moved old new rows site (leaf_numbered relation number)
number_put old new rows site relation copy number before after so_far next copied before_is after_is is =
    is
    ∙ ap (λ (items : List Move). so_far ++ items)
    (ap₂ (λ (b a : Option FragmentLeaf). filter_map (row_move site (leaf_numbered copy number) b a) rows) before_is after_is ∙ ap (λ (r : List ℕ). rows_moved old new rows site (leaf_numbered r number)) copied)

-- where neither leaf is there, nothing is put
nothing_moved : (site : List ℕ) (name : Leaf) (rows : List (List Value)) → filter_map (row_move site name None None) rows ≡ []
nothing_moved site name [] = refl
nothing_moved site name (row ∷ rows) = nothing_moved site name rows

none_copied : (o : Option (Bor FragmentLeaf)) → is_some o ≡ false → option_copied o ≡ None
none_copied None none = refl
none_copied (Some leaf) none = absurd (cc)

pub nothing_put : (site : List ℕ) (name : Leaf) (before after : Option (Bor FragmentLeaf)) (rows : List (List Value)) (items : List Move) → is_some before ≡ false → is_some after ≡ false →
    items ≡ items ++ filter_map (row_move site name (option_copied before) (option_copied after)) rows
nothing_put site name before after rows items none none_after =
    sym (append-nil items)
    ∙ ap (λ (more : List Move). items ++ more) (sym (ap₂ (λ (b a : Option FragmentLeaf). filter_map (row_move site name b a) rows) (none_copied before none) (none_copied after none_after) ∙ nothing_moved site name rows))
