-- What plans over leaves have at one key: a need's plan has the row of which all that serve it is fetched.
use Rattle.std.proofs.Common.{◌≡◌, ℕ, ℤ, Bool, true, false, cond, ◌&&◌, ◌||◌, ◌==◌, List, [], ◌∷◌, ◌++◌, filter, map, Option, Some, None, option_map, option_and_then, refl, ap, ap₂, sym, subst, ◌∙◌}
use Rattle.std.specs.List.{AllByRecursion, list_all, list_any, slice_get}
use Rattle.std.specs.Option.{option_or}
use Rattle.std.proofs.Math.Path.{fun_ext}
use Rattle.terms.specs.declared.leaf.Leaf.{Leaf}
use Rattle.terms.specs.declared.value.Value.{Value}
use Rattle.catalog.specs.declared.fragment_leaf.FragmentLeaf.{FragmentLeaf}
use Rattle.catalog.specs.Counts.{has}
use Rattle.catalog.specs.Path.{wanted}
use Rattle.plan.specs.declared.need.Need.{Need}
use Rattle.plan.specs.Fetch.{fetch_of}
use Rattle.plan.specs.Located.{AreGroups, IsByColumns, IsByGroups, apart, covers, has_alike, reaches, together, united}
use Rattle.plan.specs.Rows.{Seen, seen_of, is_seen, restricted, merged, rows}
use Rattle.plan.specs.Shape.{Shape, Empty, Fetch, Filter, Project, Union, KeyJoin, Lookup}
use Rattle.plan.specs.Reduced.{reduced}
use Rattle.plan.proofs.CarriedConds.{both}
use Rattle.plan.proofs.CutColumns.{all_has}
use Rattle.plan.proofs.Grouped.{all_passed, has_either, of_first_leaf, of_other_leaves, parted_all, reaches_group, reaches_like}

-- a row, where it is there
abbrev pub one_seen : Bool → List ℕ → List Value → Option Seen
one_seen there columns row = cond there (Some (seen_of columns row)) None

-- cut to some of the columns
cut_at : (a b : Bool) (seen : Option Value) → (a ≡ true → b ≡ true) → cond a (cond b seen None) None ≡ cond a seen None
cut_at true b seen more = let is : b ≡ true = more refl in rw is refl
cut_at false b seen more = refl

seen_more : (zero there other : Bool) → (there ≡ true → other ≡ true) → (zero || there) ≡ true → (zero || other) ≡ true
seen_more true there other more h = refl
seen_more false there other more h = more h

pub restricted_seen : (columns all : List ℕ) (row : List Value) → ((col : ℕ) → has columns col ≡ true → has all col ≡ true) → restricted columns (seen_of all row) ≡ seen_of columns row
restricted_seen columns all row more =
    fun_ext (λ col. cut_at (is_seen columns col) (is_seen all col) (slice_get row col) (seen_more (col == 0) (has columns col) (has all col) (more col)))

pub restricted_one : (there : Bool) (columns all : List ℕ) (row : List Value) → ((col : ℕ) → has columns col ≡ true → has all col ≡ true) → option_map (restricted columns) (one_seen there all row) ≡ one_seen there columns row
restricted_one true columns all row more = ap (λ (s : Seen). Some s) (restricted_seen columns all row more)
restricted_one false columns all row more = refl

union_one : (a b : Bool) (columns : List ℕ) (row : List Value) → option_or (one_seen a columns row) (one_seen b columns row) ≡ one_seen (a || b) columns row
union_one true b columns row = refl
union_one false b columns row = refl

-- put together
merged_at : (zero a b : Bool) (value : Option Value) → option_or (cond (zero || a) value None) (cond (zero || b) value None) ≡ cond (zero || (a || b)) value None
merged_at true a b None = refl
merged_at true a b (Some v) = refl
merged_at false true true None = refl
merged_at false true true (Some v) = refl
merged_at false true false None = refl
merged_at false true false (Some v) = refl
merged_at false false true None = refl
merged_at false false true (Some v) = refl
merged_at false false false None = refl
merged_at false false false (Some v) = refl

merged_seen : (columns others all : List ℕ) (row : List Value) → ((place : ℕ) → has all place ≡ (has columns place || has others place)) → merged (seen_of columns row) (seen_of others row) ≡ seen_of all row
merged_seen columns others all row either =
    fun_ext (λ place. merged_at (place == 0) (has columns place) (has others place) (slice_get row place)
    ∙ ap (λ (t : Bool). cond ((place == 0) || t) (slice_get row place) None) (sym (either place)))

joined_one : (a b : Bool) (columns others : List ℕ) (row : List Value) →
    option_and_then (λ seen. option_map (merged seen) (one_seen b others row)) (one_seen a columns row) ≡ cond (a && b) (Some (merged (seen_of columns row) (seen_of others row))) None
joined_one true true columns others row = refl
joined_one true false columns others row = refl
joined_one false b columns others row = refl

-- what the reduced reads of leaves have at a key: the row in the leaf's columns, where the leaf gives it
abbrev pub Reads : (Leaf → Bool) → (Leaf → List (List Value)) → ℤ → Need → List Value → (FragmentLeaf → Bool) → FragmentLeaf → Type 0
Reads marked contents key need row gives leaf = rows (reduced marked (Fetch (fetch_of need leaf))) contents key ≡ one_seen (gives leaf) leaf.columns row

-- whether some leaf that reaches the columns gives the row
abbrev pub covered : Need → List ℕ → (FragmentLeaf → Bool) → List FragmentLeaf → Bool
covered need columns gives leaves = list_any (λ leaf. reaches need columns leaf && gives leaf) leaves

-- what united plans have at a key: the row of the first that has one
abbrev united_rows : (Leaf → Bool) → (Leaf → List (List Value)) → ℤ → List Shape → Option Seen
united_rows marked contents key [] = None
united_rows marked contents key (plan ∷ plans) = option_or (rows (reduced marked plan) contents key) (united_rows marked contents key plans)

or_none : {A : Type 0} (o : Option A) → o ≡ option_or o None
or_none None = refl
or_none (Some a) = refl

or_either : {A : Type 0} (one other more : Option A) → option_or one (option_or other more) ≡ option_or (option_or one other) more
or_either None other more = refl
or_either (Some a) other more = refl

united_behind : (marked : Leaf → Bool) (contents : Leaf → List (List Value)) (key : ℤ) (plans others : List Shape) →
    united_rows marked contents key (plans ++ others) ≡ option_or (united_rows marked contents key plans) (united_rows marked contents key others)
united_behind marked contents key [] others = refl
united_behind marked contents key (plan ∷ plans) others =
    let first = rows (reduced marked plan) contents key in
    ap (option_or first) (united_behind marked contents key plans others) ∙ or_either first (united_rows marked contents key plans) (united_rows marked contents key others)

-- a union has it too, whatever its tree
rows_united : (marked : Leaf → Bool) (contents : Leaf → List (List Value)) (key : ℤ) (plan : Shape) → rows (reduced marked plan) contents key ≡ united_rows marked contents key (united plan)
rows_united marked contents key Empty = refl
rows_united marked contents key (Fetch read) = or_none (rows (reduced marked (Fetch read)) contents key)
rows_united marked contents key (Filter conds below) = or_none (rows (reduced marked (Filter conds below)) contents key)
rows_united marked contents key (Project columns below) = or_none (rows (reduced marked (Project columns below)) contents key)
rows_united marked contents key (Union one other) =
    ap₂ (λ (o p : Option Seen). option_or o p) (rows_united marked contents key one) (rows_united marked contents key other) ∙ sym (united_behind marked contents key (united one) (united other))
rows_united marked contents key (KeyJoin one other) = or_none (rows (reduced marked (KeyJoin one other)) contents key)
rows_united marked contents key (Lookup col width left right) = or_none (rows (reduced marked (Lookup col width left right)) contents key)

-- the reads of the leaves that reach columns have the row where one of them gives it
covers_row : (marked : Leaf → Bool) (contents : Leaf → List (List Value)) (key : ℤ) (need : Need) (row : List Value) (gives : FragmentLeaf → Bool) (columns : List ℕ) (leaves : List FragmentLeaf) →
    AllByRecursion (Reads marked contents key need row gives) leaves → united_rows marked contents key (covers need columns leaves) ≡ one_seen (covered need columns gives leaves) columns row
covers_row marked contents key need row gives columns [] all = refl
covers_row marked contents key need row gives columns (leaf ∷ leaves) all =
    let rest = covers_row marked contents key need row gives columns leaves all.1 in
    let cut : FragmentLeaf → Shape = λ one. Project columns (Fetch (fetch_of need one)) in
    elim (reaches need columns leaf) as (λ t. reaches need columns leaf ≡ t →
    united_rows marked contents key (map cut (cond t (leaf ∷ filter (reaches need columns) leaves) (filter (reaches need columns) leaves))) ≡ one_seen ((t && gives leaf) || covered need columns gives leaves) columns row) [
      | true ↦ λ is.
          let within = (both (wanted need.columns leaf.steps) (list_all (has leaf.columns) columns) is).1 in
          ap₂ option_or (ap (option_map (restricted columns)) all.0 ∙ restricted_one (gives leaf) columns leaf.columns row (all_has columns leaf.columns within)) rest
          ∙ union_one (gives leaf) (covered need columns gives leaves) columns row
      | false ↦ λ is. rest
    ] refl

-- and so has each union of them
cover_row : (marked : Leaf → Bool) (contents : Leaf → List (List Value)) (key : ℤ) (need : Need) (row : List Value) (gives : FragmentLeaf → Bool) (columns : List ℕ) (leaves : List FragmentLeaf) (plan : Shape) → united plan ≡ covers need columns leaves →
    AllByRecursion (Reads marked contents key need row gives) leaves → rows (reduced marked plan) contents key ≡ one_seen (covered need columns gives leaves) columns row
cover_row marked contents key need row gives columns leaves plan is all = rows_united marked contents key plan ∙ ap (united_rows marked contents key) is ∙ covers_row marked contents key need row gives columns leaves all

-- and of all columns, put together by the key
abbrev pub covered_all : Need → (FragmentLeaf → Bool) → List FragmentLeaf → List ℕ → Bool
covered_all need gives leaves [] = covered need [] gives leaves
covered_all need gives leaves (col ∷ []) = covered need (col ∷ []) gives leaves
covered_all need gives leaves (col ∷ next ∷ columns) = covered need (col ∷ []) gives leaves && covered_all need gives leaves (next ∷ columns)

-- so each column
abbrev each_covered : Need → (FragmentLeaf → Bool) → List FragmentLeaf → List ℕ → Bool
each_covered need gives leaves columns = list_all (λ col. covered need (col ∷ []) gives leaves) columns

and_off : (a : Bool) → (a && true) ≡ a
and_off true = refl
and_off false = refl

all_each : (need : Need) (gives : FragmentLeaf → Bool) (leaves : List FragmentLeaf) (col : ℕ) (columns : List ℕ) → covered_all need gives leaves (col ∷ columns) ≡ each_covered need gives leaves (col ∷ columns)
all_each need gives leaves col [] = sym (and_off (covered need (col ∷ []) gives leaves))
all_each need gives leaves col (next ∷ columns) = ap (λ (t : Bool). covered need (col ∷ []) gives leaves && t) (all_each need gives leaves next columns)

-- a group is covered where its first column is
group_covered : (need : Need) (gives : FragmentLeaf → Bool) (first : ℕ) (others : List ℕ) (leaves : List FragmentLeaf) → AllByRecursion (λ col. together need leaves first col ≡ true) others →
    covered need (first ∷ others) gives leaves ≡ covered need (first ∷ []) gives leaves
group_covered need gives first others [] all = refl
group_covered need gives first others (leaf ∷ leaves) all =
    ap₂ (λ (reached rest : Bool). (reached && gives leaf) || rest) (reaches_group need first leaf others (of_first_leaf need first leaf leaves others all))
    (group_covered need gives first others leaves (of_other_leaves need first leaf leaves others all))

-- and so is each of its columns
like_covered : (need : Need) (gives : FragmentLeaf → Bool) (first col : ℕ) (leaves : List FragmentLeaf) → together need leaves first col ≡ true → covered need (first ∷ []) gives leaves ≡ covered need (col ∷ []) gives leaves
like_covered need gives first col [] alike = refl
like_covered need gives first col (leaf ∷ leaves) alike =
    let each = both (has_alike need first col leaf) (together need leaves first col) alike in
    ap₂ (λ (reached rest : Bool). (reached && gives leaf) || rest) (reaches_like need first col leaf each.0) (like_covered need gives first col leaves each.1)

and_again : (a b rest : Bool) → a ≡ b → (a && rest) ≡ a → (a && (b && rest)) ≡ a
and_again true true rest same more = more
and_again true false rest same more = absurd (cc)
and_again false b rest same more = refl

likes_covered : (need : Need) (gives : FragmentLeaf → Bool) (first : ℕ) (leaves : List FragmentLeaf) (others : List ℕ) → AllByRecursion (λ col. together need leaves first col ≡ true) others →
    (covered need (first ∷ []) gives leaves && each_covered need gives leaves others) ≡ covered need (first ∷ []) gives leaves
likes_covered need gives first leaves [] all = and_off (covered need (first ∷ []) gives leaves)
likes_covered need gives first leaves (col ∷ others) all =
    and_again (covered need (first ∷ []) gives leaves) (covered need (col ∷ []) gives leaves) (each_covered need gives leaves others) (like_covered need gives first col leaves all.0)
    (likes_covered need gives first leaves others all.1)

and_apart : (here one other all : Bool) → all ≡ (one && other) → (here && all) ≡ ((here && one) && other)
and_apart true one other all is = is
and_apart false one other all is = refl

-- columns are covered where their first group and all others are
group_and : (need : Need) (gives : FragmentLeaf → Bool) (leaves : List FragmentLeaf) (first : ℕ) (rest : List ℕ) →
    (covered need (first ∷ filter (together need leaves first) rest) gives leaves && each_covered need gives leaves (filter (apart need leaves first) rest)) ≡ covered_all need gives leaves (first ∷ rest)
group_and need gives leaves first rest =
    let like = filter (together need leaves first) rest in
    let others = filter (apart need leaves first) rest in
    let each : ℕ → Bool = λ col. covered need (col ∷ []) gives leaves in
    let all = all_passed (together need leaves first) rest in
    ap (λ (t : Bool). t && list_all each others) (group_covered need gives first like leaves all ∙ sym (likes_covered need gives first leaves like all))
    ∙ sym (and_apart (each first) (list_all each like) (list_all each others) (list_all each rest) (parted_all each (together need leaves first) rest))
    ∙ sym (all_each need gives leaves first rest)

or_off : (a : Bool) → (a || false) ≡ a
or_off true = refl
or_off false = refl

-- the last group has all columns
last_group : (need : Need) (gives : FragmentLeaf → Bool) (leaves : List FragmentLeaf) (first : ℕ) (rest : List ℕ) (row : List Value) → filter (apart need leaves first) rest ≡ [] →
    one_seen (covered need (first ∷ filter (together need leaves first) rest) gives leaves) (first ∷ filter (together need leaves first) rest) row ≡ one_seen (covered_all need gives leaves (first ∷ rest)) (first ∷ rest) row
last_group need gives leaves first rest row none =
    let group = first ∷ filter (together need leaves first) rest in
    let others = filter (apart need leaves first) rest in
    let same : (place : ℕ) → has group place ≡ has (first ∷ rest) place = λ place.
    sym (or_off (has group place)) ∙ ap (λ (columns : List ℕ). has group place || has columns place) (sym none) ∙ sym (has_either first (together need leaves first) rest place) in
    ap₂ (λ (there : Bool) (seen : Seen). let o : Option Seen = cond there (Some seen) None in o)
    (sym (and_off (covered need group gives leaves)) ∙ ap (λ (columns : List ℕ). covered need group gives leaves && each_covered need gives leaves columns) (sym none) ∙ group_and need gives leaves first rest)
    (fun_ext (λ place. ap (λ (t : Bool). let value : Option Value = cond ((place == 0) || t) (slice_get row place) None in value) (same place)))

-- the columns of the other groups
others_each : (need : Need) (gives : FragmentLeaf → Bool) (leaves : List FragmentLeaf) (columns next : List ℕ) (groups : List (List ℕ)) → AreGroups need leaves columns (next ∷ groups) → covered_all need gives leaves columns ≡ each_covered need gives leaves columns
others_each need gives leaves columns next groups (first, rest, same, own, more) =
    subst (λ columns. covered_all need gives leaves columns ≡ each_covered need gives leaves columns) (sym same) (all_each need gives leaves first rest)

groups_row : (marked : Leaf → Bool) (contents : Leaf → List (List Value)) (key : ℤ) (need : Need) (row : List Value) (gives : FragmentLeaf → Bool) (leaves : List FragmentLeaf) (columns : List ℕ) (groups : List (List ℕ)) (plan : Shape) →
    AreGroups need leaves columns groups → IsByGroups need leaves groups plan → AllByRecursion (Reads marked contents key need row gives) leaves → rows (reduced marked plan) contents key ≡ one_seen (covered_all need gives leaves columns) columns row
groups_row marked contents key need row gives leaves columns [] plan none is all =
    let P : List ℕ → Type 0 = λ columns. rows (reduced marked plan) contents key ≡ one_seen (covered_all need gives leaves columns) columns row in
    subst P (sym none) (cover_row marked contents key need row gives [] leaves plan is all)
groups_row marked contents key need row gives leaves columns (group ∷ []) plan (first, rest, same, own, none) is all =
    let P : List ℕ → Type 0 = λ columns. rows (reduced marked plan) contents key ≡ one_seen (covered_all need gives leaves columns) columns row in
    subst P (sym same) (
    cover_row marked contents key need row gives group leaves plan is all ∙ ap (λ (columns : List ℕ). one_seen (covered need columns gives leaves) columns row) own
    ∙ last_group need gives leaves first rest row none
    )
groups_row marked contents key need row gives leaves columns (group ∷ next ∷ groups) plan (first, rest, same, own, more) (one, other, is, here, beyond) all =
    let P : List ℕ → Type 0 = λ columns. rows (reduced marked plan) contents key ≡ one_seen (covered_all need gives leaves columns) columns row in
    let front = first ∷ filter (together need leaves first) rest in
    let others = filter (apart need leaves first) rest in
    subst P (sym same) (
    ap (λ (p : Shape). rows (reduced marked p) contents key) is
    ∙ ap₂ (λ (first second : Option Seen). option_and_then (λ seen. option_map (merged seen) second) first)
    (cover_row marked contents key need row gives group leaves one here all ∙ ap (λ (columns : List ℕ). one_seen (covered need columns gives leaves) columns row) own)
    (groups_row marked contents key need row gives leaves others (next ∷ groups) other more beyond all)
    ∙ joined_one (covered need front gives leaves) (covered_all need gives leaves others) front others row
    ∙ ap₂ (λ (there : Bool) (seen : Seen). let o : Option Seen = cond there (Some seen) None in o)
    (ap (λ (t : Bool). covered need front gives leaves && t) (others_each need gives leaves others next groups more) ∙ group_and need gives leaves first rest)
    (merged_seen front others (first ∷ rest) row (has_either first (together need leaves first) rest))
    )

pub columns_row : (marked : Leaf → Bool) (contents : Leaf → List (List Value)) (key : ℤ) (need : Need) (row : List Value) (gives : FragmentLeaf → Bool) (leaves : List FragmentLeaf) (columns : List ℕ) (plan : Shape) → IsByColumns need leaves columns plan →
    AllByRecursion (Reads marked contents key need row gives) leaves → rows (reduced marked plan) contents key ≡ one_seen (covered_all need gives leaves columns) columns row
columns_row marked contents key need row gives leaves columns plan (groups, are, is) all = groups_row marked contents key need row gives leaves columns groups plan are is all
