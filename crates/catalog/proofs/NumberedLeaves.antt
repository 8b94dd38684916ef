-- Leaves under their names and numbers.
use Rattle.std.proofs.Common.{◌≡◌, ◌+◌, ℕ, suc, List, [], ◌∷◌, ◌++◌, length, refl, ap, ◌∙◌, arith}
use Rattle.catalog.specs.declared.fragment_leaf.FragmentLeaf.{FragmentLeaf}
use Rattle.catalog.specs.declared.path.Path.{Path}
use Rattle.catalog.specs.FragmentLeaf.{leaf_of, leaves_from}

-- one more
pub leaves_last : (relation columns : List ℕ) (number : ℕ) (paths : List Path) (path : Path) →
    leaves_from relation columns number (paths ++ path ∷ []) ≡ leaves_from relation columns number paths ++ leaf_of relation columns (number + length paths) path ∷ []
leaves_last relation columns number [] path =
    let same : number ≡ number + 0 = omega arith in
    ap (λ (n : ℕ). leaf_of relation columns n path ∷ []) same
leaves_last relation columns number (first ∷ paths) path =
    let same : suc number + length paths ≡ number + suc (length paths) = omega arith in
    ap (λ (others : List FragmentLeaf). leaf_of relation columns number first ∷ others)
    (leaves_last relation columns (suc number) paths path ∙ ap (λ (n : ℕ). leaves_from relation columns (suc number) paths ++ leaf_of relation columns n path ∷ []) same)

pub leaves_length : (relation columns : List ℕ) (number : ℕ) (paths : List Path) → length (leaves_from relation columns number paths) ≡ length paths
leaves_length relation columns number [] = refl
leaves_length relation columns number (path ∷ paths) = ap suc (leaves_length relation columns (suc number) paths)
