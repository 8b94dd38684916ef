-- At most one relation is rebuilt from the contents of a valid tree.
use Rattle.std.proofs.Common.{◌≡◌, ◌<◌, ℕ, ℤ, suc, zero, Bool, true, false, cond, ◌&&◌, ◌||◌, ◌==◌, List, [], ◌∷◌, length, map, Option, Some, None, is_some, option_and_then, subst, refl, ap, sym, ◌∙◌}
use Rattle.std.specs.List.{AllByRecursion, list_any, slice_get}
use Rattle.std.specs.Ordering.{int_eq}
use Rattle.std.proofs.Math.Bool.{or-true}
use Rattle.std.proofs.Math.Dec.{eqb-zero-suc}
use Rattle.std.proofs.lemmas.Option.{slice_get_within}
use Rattle.terms.specs.declared.value.Kind.{Kind}
use Rattle.terms.specs.declared.value.Value.{Value}
use Rattle.terms.specs.Cond.{conds_hold}
use Rattle.terms.specs.Row.{FitsKinds, key_of}
use Rattle.meaning.specs.Listed.{listed}
use Rattle.meaning.specs.Relation.{IsRelation}
use Rattle.catalog.specs.Counts.{how_many, has}
use Rattle.catalog.specs.Fragment.{Fragment, part, content, Rebuilds}
use Rattle.catalog.specs.Split.{Tree}
use Rattle.catalog.specs.declared.path.Path.{Path}
use Rattle.catalog.specs.Path.{paths, path_conds, path_columns, columns_beside_key, leaf_at}
use Rattle.catalog.specs.Valid.{IsValid}
use Rattle.catalog.specs.Keyed.{row_at}
use Rattle.catalog.specs.Laws.{ExactlyOneLeaf, SomeLeaf, OneRebuilt}
use Rattle.catalog.proofs.Counts.{how_many-map, how_many-same, any-map, any-from_one, and_true, same_at_one}
use Rattle.catalog.specs.Cover.{leads, covers}
use Rattle.catalog.proofs.Exactly.{exactly}
use Rattle.catalog.proofs.Somewhere.{somewhere}
use Rattle.catalog.proofs.Keyed.{content-at, same_listing}
use Rattle.catalog.proofs.Columns.{has-beside_key, filled, same_values, listed_agree}

-- exactly one way covers a column beside the key
one_way : (kinds : List Kind) (tree : Tree) (row : List Value) (i : ℕ) → IsValid kinds tree → FitsKinds kinds row → suc i < length kinds → how_many (covers row (suc i) (columns_beside_key kinds)) (paths tree) ≡ 1
one_way kinds tree row i valid fits within =
    exactly kinds [] (columns_beside_key kinds) tree row (suc i) valid fits refl ∙ ap (λ b. cond b 1 0) (has-beside_key kinds i within)

pub exactly_one_leaf : ExactlyOneLeaf
exactly_one_leaf kinds tree row zero valid fits other within = absurd (other refl)
exactly_one_leaf kinds tree row (suc i) valid fits other within =
    how_many-map (λ leaf. conds_hold leaf.conds row && has leaf.columns (suc i)) (leaf_at (columns_beside_key kinds)) (paths tree)
    ∙ how_many-same (λ path. conds_hold (path_conds path.steps) row && has (0 ∷ path_columns (columns_beside_key kinds) path.steps) (suc i)) (covers row (suc i) (columns_beside_key kinds)) (paths tree)
    (λ path. ap (λ b. leads row path && (b || has (path_columns (columns_beside_key kinds) path.steps) (suc i))) (eqb-zero-suc i))
    ∙ one_way kinds tree row i valid fits within

-- some way leads to a row that fits
some_way : (kinds : List Kind) (tree : Tree) (row : List Value) → IsValid kinds tree → FitsKinds kinds row → list_any (leads row) (paths tree) ≡ true
some_way kinds tree row valid fits = somewhere kinds [] (columns_beside_key kinds) tree row valid fits refl

pub some_leaf : SomeLeaf
some_leaf kinds tree row valid fits = any-map (λ leaf. conds_hold leaf.conds row) (leaf_at (columns_beside_key kinds)) (paths tree) ∙ some_way kinds tree row valid fits

-- the content of the leaf at the end of a way
abbrev content_by : List ℕ → List (List Value) → Path → List (List Value)
content_by columns rows path = content (leaf_at columns path) rows

map-map : {A B C : Type 0} (f : B → C) (g : A → B) (xs : List A) → map f (map g xs) ≡ map (λ x. f (g x)) xs
map-map f g [] = refl
map-map f g (x ∷ xs) = ap (λ ys. f (g x) ∷ ys) (map-map f g xs)

-- relations rebuilt from the same contents have the same content at the end of each way
same_contents : (columns : List ℕ) (ways : List Path) (contents : List (List (List Value))) (one other : List (List Value)) → Rebuilds (map (leaf_at columns) ways) contents one → Rebuilds (map (leaf_at columns) ways) contents other →
    map (content_by columns one) ways ≡ map (content_by columns other) ways
same_contents columns ways contents one other first second =
    sym (map-map (λ leaf. content leaf one) (leaf_at columns) ways) ∙ sym first ∙ second ∙ map-map (λ leaf. content leaf other) (leaf_at columns) ways

-- equal contents of a leaf have the same parts at each key
same_parts : (columns : List ℕ) (path : Path) (key : ℤ) (one other : List (List Value)) {kinds : List Kind} → IsRelation kinds one → IsRelation kinds other → content_by columns one path ≡ content_by columns other path →
    option_and_then (part (leaf_at columns path)) (row_at key one) ≡ option_and_then (part (leaf_at columns path)) (row_at key other)
same_parts columns path key one other is is_other same =
    sym (content-at (path_conds path.steps) (path_columns columns path.steps) key one is.ascends) ∙ ap (row_at key) same ∙ content-at (path_conds path.steps) (path_columns columns path.steps) key other is_other.ascends

-- what is at a key fits
fits_at : (kinds : List Kind) (key : ℤ) (rows : List (List Value)) (row : List Value) → AllByRecursion (FitsKinds kinds) rows → row_at key rows ≡ Some row → FitsKinds kinds row
fits_at kinds key [] row all there = cc
fits_at kinds key (first ∷ rows) row all there =
    elim (int_eq (key_of first) key) as (λ b. cond b (Some first) (row_at key rows) ≡ Some row → FitsKinds kinds row) [
      | true ↦ λ is. let same : first ≡ row = cc in let P : List Value → Type 0 = FitsKinds kinds in subst P same all.0
      | false ↦ λ is. fits_at kinds key rows row all.1 is
    ] there

-- where a leaf's conditions hold of a row, another with the same part has the same in the leaf's columns
same_listed : (leaf : Fragment) (row other : List Value) → conds_hold leaf.conds row ≡ true → part leaf row ≡ part leaf other → listed leaf.columns row ≡ listed leaf.columns other
same_listed leaf row other holds same =
    let here : part leaf row ≡ Some (listed leaf.columns row) = rw holds refl in
    elim (conds_hold leaf.conds other) as (λ b. part leaf row ≡ cond b (Some (listed leaf.columns other)) None → listed leaf.columns row ≡ listed leaf.columns other) [
      | true ↦ λ is. cc
      | false ↦ λ is. cc
    ] same

-- where a leaf's conditions hold of a row, what has the same part is a row
part_there : (leaf : Fragment) (row : List Value) (found : Option (List Value)) → conds_hold leaf.conds row ≡ true → part leaf row ≡ option_and_then (part leaf) found → (other : List Value) × (found ≡ Some other)
part_there leaf row None holds same =
    let here : part leaf row ≡ Some (listed leaf.columns row) = rw holds refl in cc
part_there leaf row (Some other) holds same = (other, refl)

-- two relations that are rebuilt from the same contents of a valid tree
record AreRebuilt (kinds : List Kind) (tree : Tree) (one other : List (List Value)) : Type 0 where
  valid : IsValid kinds tree
  first : IsRelation kinds one
  second : IsRelation kinds other
  same : map (content_by (columns_beside_key kinds) one) (paths tree) ≡ map (content_by (columns_beside_key kinds) other) (paths tree)

-- either of them may come first
turned : {kinds : List Kind} {tree : Tree} {one other : List (List Value)} → AreRebuilt kinds tree one other → AreRebuilt kinds tree other one
turned are = record { valid = are.valid; first = are.second; second = are.first; same = sym are.same }

-- a way that passes a test is there, with the same content by both
same_way : (kinds : List Kind) (tree : Tree) (one other : List (List Value)) (passes : Path → Bool) → AreRebuilt kinds tree one other → list_any passes (paths tree) ≡ true →
    (path : Path) × (passes path ≡ true) × (content_by (columns_beside_key kinds) one path ≡ content_by (columns_beside_key kinds) other path)
same_way kinds tree one other passes are some = same_at_one passes (content_by (columns_beside_key kinds) one) (content_by (columns_beside_key kinds) other) (paths tree) are.same some

-- where one has a row at a key, the other has one too
there_too : (kinds : List Kind) (tree : Tree) (key : ℤ) (one other : List (List Value)) (row : List Value) → AreRebuilt kinds tree one other → row_at key one ≡ Some row → (found : List Value) × (row_at key other ≡ Some found)
there_too kinds tree key one other row are there =
    let columns = columns_beside_key kinds in
    let way = same_way kinds tree one other (leads row) are (some_way kinds tree row are.valid (fits_at kinds key one row are.first.fit there)) in
    let parts = same_parts columns way.0 key one other are.first are.second way.2 in
    part_there (leaf_at columns way.0) row (row_at key other) way.1 (ap (option_and_then (part (leaf_at columns way.0))) (sym there) ∙ parts)

-- where both have a row at a key, the rows have the same in the columns of a leaf whose conditions hold of the first
same_in_leaf : (kinds : List Kind) (key : ℤ) (one other : List (List Value)) (row found : List Value) (path : Path) (col : ℕ) → IsRelation kinds one → IsRelation kinds other →
    content_by (columns_beside_key kinds) one path ≡ content_by (columns_beside_key kinds) other path → row_at key one ≡ Some row → row_at key other ≡ Some found →
    leads row path ≡ true → has (0 ∷ path_columns (columns_beside_key kinds) path.steps) col ≡ true → slice_get row col ≡ slice_get found col
same_in_leaf kinds key one other row found path col first second same there there_other led within =
    let leaf = leaf_at (columns_beside_key kinds) path in
    let parts = same_parts (columns_beside_key kinds) path key one other first second same in
    let both : part leaf row ≡ part leaf found = ap (option_and_then (part leaf)) (sym there) ∙ parts ∙ ap (option_and_then (part leaf)) there_other in
    let alike : (c : ℕ) → is_some (slice_get row c) ≡ is_some (slice_get found c) = λ c. filled kinds row c (fits_at kinds key one row first.fit there) ∙ sym (filled kinds found c (fits_at kinds key other found second.fit there_other)) in
    listed_agree leaf.columns row found alike (same_listed leaf row found led both) col within

-- a row has nothing past its columns
past : (kinds : List Kind) (row : List Value) (col : ℕ) → FitsKinds kinds row → slice_get kinds col ≡ None → slice_get row col ≡ None
past kinds row col fits none =
    elim (slice_get row col) as (λ o. is_some o ≡ false → o ≡ None) [
      | None ↦ λ h. refl
      | Some value ↦ λ h. cc
    ] (filled kinds row col fits ∙ ap is_some none)

-- where both have a row at a key, the rows have the same in each column
same_in : (kinds : List Kind) (tree : Tree) (key : ℤ) (one other : List (List Value)) (row found : List Value) → AreRebuilt kinds tree one other → row_at key one ≡ Some row → row_at key other ≡ Some found →
    (col : ℕ) → slice_get row col ≡ slice_get found col
same_in kinds tree key one other row found are there there_other zero =
    let way = same_way kinds tree one other (leads row) are (some_way kinds tree row are.valid (fits_at kinds key one row are.first.fit there)) in
    same_in_leaf kinds key one other row found way.0 0 are.first are.second way.2 there there_other way.1 refl
same_in kinds tree key one other row found are there there_other (suc i) =
    let columns = columns_beside_key kinds in
    let fits = fits_at kinds key one row are.first.fit there in
    elim (slice_get kinds (suc i)) as (λ o. slice_get kinds (suc i) ≡ o → slice_get row (suc i) ≡ slice_get found (suc i)) [
      | None ↦ λ none. past kinds row (suc i) fits none ∙ sym (past kinds found (suc i) (fits_at kinds key other found are.second.fit there_other) none)
      | Some kind ↦ λ some.
          let one_way = one_way kinds tree row i are.valid fits (slice_get_within kinds (suc i) kind some) in
          let way = same_way kinds tree one other (covers row (suc i) columns) are (any-from_one (covers row (suc i) columns) (paths tree) one_way) in
          let both = and_true (leads row way.0) (has (path_columns columns way.0.steps) (suc i)) way.1 in
          same_in_leaf kinds key one other row found way.0 (suc i) are.first are.second way.2 there there_other both.0 (ap (λ b. (0 == suc i) || b) both.1 ∙ or-true (0 == suc i))
    ] refl

-- both have the same at a key
same_at : (kinds : List Kind) (tree : Tree) (key : ℤ) (one other : List (List Value)) → AreRebuilt kinds tree one other → row_at key one ≡ row_at key other
same_at kinds tree key one other are =
    elim (row_at key one) as (λ o. row_at key one ≡ o → row_at key one ≡ row_at key other) [
      | None ↦ λ none. elim (row_at key other) as (λ o. row_at key other ≡ o → row_at key one ≡ row_at key other) [
        | None ↦ λ none_other. none ∙ sym none_other
        | Some row ↦ λ there. let back = there_too kinds tree key other one row (turned are) there in cc (none, back.1)
      ] refl
      | Some row ↦ λ there.
          let far = there_too kinds tree key one other row are there in
          there ∙ ap Some (same_values row far.0 (same_in kinds tree key one other row far.0 are there far.1)) ∙ sym far.1
    ] refl

pub one_rebuilt : OneRebuilt
one_rebuilt kinds tree contents one other valid is is_other first second =
    let are : AreRebuilt kinds tree one other = record { valid = valid; first = is; second = is_other; same = same_contents (columns_beside_key kinds) (paths tree) contents one other first second } in
    same_listing one other is.ascends is_other.ascends (λ key. same_at kinds tree key one other are)
