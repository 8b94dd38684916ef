-- Each node of a plan makes of the tables below it what the plan's rows are.
use Rattle.std.proofs.Common.{◌≡◌, ◌⊎◌, inl, inr, ℕ, ◌+◌, ◌<◌, ℤ, Bool, true, false, cond, not, List, [], ◌∷◌, length, filter, map, Option, Some, None, option_map, option_and_then, refl, ap, ap₂, sym, ◌∙◌, subst, arith}
use Rattle.std.specs.List.{AllByRecursion, cons_option, filter_map, slice_get}
use Rattle.std.specs.Option.{option_or}
use Rattle.std.proofs.lemmas.List.{length-append, length-map}
use Rattle.terms.specs.declared.cond.Cond.{Cond}
use Rattle.terms.specs.declared.leaf.Leaf.{Leaf}
use Rattle.terms.specs.declared.value.Value.{Value}
use Rattle.terms.specs.declared.value.Value.TheVariants.{Int, Text}
use Rattle.terms.specs.Cond.{conds_hold}
use Rattle.terms.specs.Row.{key_of}
use Rattle.meaning.specs.Relation.{Ascends}
use Rattle.meaning.specs.Selected.{partner}
use Rattle.meaning.proofs.Rows.{All-passed, Ascends-passed}
use Rattle.catalog.specs.Counts.{has}
use Rattle.catalog.specs.Keyed.{row_at}
use Rattle.plan.specs.declared.fetch.Fetch as fetch
use Rattle.plan.specs.Rows.{Seen, at_value, is_seen, kept, merged, met, restricted, rows, seen_meets, seen_part, shifted}
use Rattle.plan.specs.Shape.{Shape, Fetch, Filter, Project, Union, KeyJoin, Lookup}
use Rattle.plan.specs.Uniform.{Agree, IsUniform, beside, both_columns, columns_had, past, StayWithin}
use Rattle.plan.proofs.OneSide.{all_at}
use Rattle.answers.specs.Laid.{Table}
use Rattle.answers.specs.Evaluated.{IsMade, cut, filtered, keyed, key_pairs, meeting, pair, partner_pairs, partnered, partnered_with, picked, united, united_with}
use Rattle.answers.specs.Table.{AreParts, seen_rows}
use Rattle.answers.proofs.Mapped.{KeepsKeyOf, ascends_kept, each, each_from, filter_is, found_key, map_is, passing, passing_keys, seen_mapped}
use Rattle.answers.proofs.Merged.{merged_all, merged_ascends, merged_at}
use Rattle.answers.proofs.Once.{once_beside, once_left, once_past}
use Rattle.answers.proofs.Picked.{beside_first, cut_first, cut_key, cut_seen, or_none, pair_key, pair_seen, past_seen, picked_wide}

-- a read
pub fetch_made : (read : fetch.Fetch) (contents : Leaf → List (List Value)) → IsUniform (Fetch read) → AreParts read.columns (contents read.leaf) →
    IsMade (Fetch read) contents (record { columns = read.columns; rows = met read.conds (contents read.leaf) })
fetch_made read contents uniform parts = record {
  has_rows = record {
    key = uniform.0;
    once = uniform.1;
    wide = All-passed (λ part. length part ≡ length read.columns) (conds_hold read.conds) (contents read.leaf) parts.wide;
    order = Ascends-passed (conds_hold read.conds) (contents read.leaf) parts.order;
    seen = λ k. refl;
  };
  had = inr refl;
}

-- a filter

kept_seen : (test : Bool) (conds : List Cond) (columns : List ℕ) (row : List Value) → seen_meets conds (seen_part columns row) ≡ test → option_map (seen_part columns) (cond test (Some row) None) ≡ kept conds (Some (seen_part columns row))
kept_seen true conds columns row is = rw is refl
kept_seen false conds columns row is = rw is refl

and_then_kept : (conds : List Cond) (o : Option Seen) → option_and_then (λ seen. kept conds (Some seen)) o ≡ kept conds o
and_then_kept conds None = refl
and_then_kept conds (Some seen) = refl

none_met : (conds : List Cond) (columns : List ℕ) (all : List (List Value)) → all ≡ [] → meeting conds columns all ≡ []
none_met conds columns all none = ap (meeting conds columns) none

had_kept : {A : Type 0} (rows made : List (List Value)) (had : Option A) (columns : A) → (rows ≡ [] → made ≡ []) → (rows ≡ []) ⊎ (had ≡ Some columns) → (made ≡ []) ⊎ (had ≡ Some columns)
had_kept rows made had columns none (inl is) = inl (none is)
had_kept rows made had columns none (inr is) = inr is

pub filter_made : (conds : List Cond) (below : Shape) (contents : Leaf → List (List Value)) (table : Table) → IsMade below contents table → IsMade (Filter conds below) contents (filtered conds table)
filter_made conds below contents table made =
    let test : List Value → Bool = λ row. seen_meets conds (seen_part table.columns row) in
    record {
      has_rows = record {
        key = made.has_rows.key;
        once = made.has_rows.once;
        wide = All-passed (λ row. length row ≡ length table.columns) test table.rows made.has_rows.wide;
        order = Ascends-passed test table.rows made.has_rows.order;
        seen = λ k.
            ap (λ (all : List (List Value)). seen_rows table.columns all k) (filter_is test table.rows)
            ∙ seen_mapped (passing test) (λ seen. kept conds (Some seen)) table.columns table.columns table.rows k (each (KeepsKeyOf (passing test)) table.rows (passing_keys test)) made.has_rows.order
            (λ row is. kept_seen (test row) conds table.columns row refl)
            ∙ and_then_kept conds (seen_rows table.columns table.rows k) ∙ ap (kept conds) (made.has_rows.seen k);
      };
      had = had_kept table.rows (meeting conds table.columns table.rows) (columns_had below) table.columns (none_met conds table.columns table.rows) made.had;
    }

-- a cut

map_restricted : (wanted : List ℕ) (o : Option Seen) → option_and_then (λ seen. Some (restricted wanted seen)) o ≡ option_map (restricted wanted) o
map_restricted wanted None = refl
map_restricted wanted (Some seen) = refl

some_key : (make : List Value → List Value) (row : List Value) → key_of (make row) ≡ key_of row → KeepsKeyOf (λ r. Some (make r)) row
some_key make row same made is = let one : make row ≡ made = cc in ap key_of (sym one) ∙ same

All-made : (P Q : List Value → Type 0) (make : List Value → List Value) (rows : List (List Value)) → ((row : List Value) → P row → Q (make row)) → AllByRecursion P rows → AllByRecursion Q (map make rows)
All-made P Q make [] more all = tt
All-made P Q make (row ∷ rows) more all = (more row all.0, All-made P Q make rows more all.1)

had_cut : (wanted : List ℕ) (rows made : List (List Value)) (had : Option (List ℕ)) (columns : List ℕ) → (rows ≡ [] → made ≡ []) → (rows ≡ []) ⊎ (had ≡ Some columns) → (made ≡ []) ⊎ (option_map (filter (is_seen wanted)) had ≡ Some (filter (is_seen wanted) columns))
had_cut wanted rows made had columns none (inl is) = inl (none is)
had_cut wanted rows made had columns none (inr is) = inr (ap (option_map (filter (is_seen wanted))) is)

pub cut_made : (wanted : List ℕ) (below : Shape) (contents : Leaf → List (List Value)) (table : Table) → IsMade below contents table → IsMade (Project wanted below) contents (cut wanted table)
cut_made wanted below contents table made =
    let make : List Value → List Value = picked (is_seen wanted) table.columns in
    let columns : List ℕ = filter (is_seen wanted) table.columns in
    let keeps : AllByRecursion (KeepsKeyOf (λ r. Some (make r))) table.rows = each (KeepsKeyOf (λ r. Some (make r))) table.rows (λ row. some_key make row (cut_key wanted table.columns row made.has_rows.key)) in
    record {
      has_rows = record {
        key = cut_first wanted table.columns made.has_rows.key;
        once = once_left (is_seen wanted) table.columns made.has_rows.once;
        wide = All-made (λ row. length row ≡ length table.columns) (λ row. length row ≡ length columns) make table.rows (λ row wide. picked_wide (is_seen wanted) table.columns row wide) made.has_rows.wide;
        order = let P : List (List Value) → Type 0 = Ascends in subst P (sym (map_is make table.rows)) (ascends_kept (λ r. Some (make r)) table.rows keeps made.has_rows.order);
        seen = λ k.
            ap (λ (all : List (List Value)). seen_rows columns all k) (map_is make table.rows)
            ∙ seen_mapped (λ r. Some (make r)) (λ seen. Some (restricted wanted seen)) table.columns columns table.rows k keeps made.has_rows.order
            (λ row is. ap (λ (s : Seen). Some s) (cut_seen wanted table.columns row))
            ∙ map_restricted wanted (seen_rows table.columns table.rows k) ∙ ap (option_map (restricted wanted)) (made.has_rows.seen k);
      };
      had = had_cut wanted table.rows (map make table.rows) (columns_had below) table.columns (λ is. ap (map make) is) made.had;
    }

-- a union

agree_first : (one other : Option (List ℕ)) (columns : List ℕ) → one ≡ Some columns → option_or one other ≡ Some columns
agree_first None other columns is = absurd (cc)
agree_first (Some first) other columns is = is

agree_second : (one other : Option (List ℕ)) (columns : List ℕ) → Agree one other → other ≡ Some columns → option_or one other ≡ Some columns
agree_second None other columns agree is = is
agree_second (Some first) None columns agree is = absurd (cc)
agree_second (Some first) (Some second) columns agree is = ap (λ (c : List ℕ). Some c) agree ∙ is

agree_same : (one other : Option (List ℕ)) (columns others : List ℕ) → Agree one other → one ≡ Some columns → other ≡ Some others → columns ≡ others
agree_same None other columns others agree is is_other = absurd (cc)
agree_same (Some first) None columns others agree is is_other = absurd (cc)
agree_same (Some first) (Some second) columns others agree is is_other = let e : first ≡ columns = cc in let k : second ≡ others = cc in sym e ∙ agree ∙ k

map_or : (see : List Value → Seen) (one other : Option (List Value)) → option_map see (option_or one other) ≡ option_or (option_map see one) (option_map see other)
map_or see None other = refl
map_or see (Some row) other = refl

had_there : (all rest : List (List Value)) (first : List Value) (had : Option (List ℕ)) (columns : List ℕ) → all ≡ first ∷ rest → (all ≡ []) ⊎ (had ≡ Some columns) → had ≡ Some columns
had_there all rest first had columns some (inl none) = absurd (let e : first ∷ rest ≡ [] = sym some ∙ none in cc)
had_there all rest first had columns some (inr is) = is

-- a plan without rows has none at a key
none_made : (plan : Shape) (contents : Leaf → List (List Value)) (table : Table) (k : ℤ) → IsMade plan contents table → table.rows ≡ [] → rows plan contents k ≡ None
none_made plan contents table k made none = sym (made.has_rows.seen k) ∙ ap (λ (all : List (List Value)). seen_rows table.columns all k) none

pub union_made : (one other : Shape) (contents : Leaf → List (List Value)) (table others : Table) → IsMade one contents table → IsMade other contents others → Agree (columns_had one) (columns_had other) → IsMade (Union one other) contents (united table others)
union_made one other contents table others made made_other agree = at table.rows others.rows refl refl
  where
    at : (mine theirs : List (List Value)) → table.rows ≡ mine → others.rows ≡ theirs → IsMade (Union one other) contents (united_with mine theirs table others)
    at [] theirs is is_other = record {
      has_rows = record {
        key = made_other.has_rows.key;
        once = made_other.has_rows.once;
        wide = made_other.has_rows.wide;
        order = made_other.has_rows.order;
        seen = λ k. made_other.has_rows.seen k ∙ ap (λ (o : Option Seen). option_or o (rows other contents k)) (sym (none_made one contents table k made is));
      };
      had = elim made_other.had [ inl none ↦ inl none | inr had ↦ inr (agree_second (columns_had one) (columns_had other) others.columns agree had) ];
    }
    at (first ∷ mine) [] is is_other = record {
      has_rows = record {
        key = made.has_rows.key;
        once = made.has_rows.once;
        wide = made.has_rows.wide;
        order = made.has_rows.order;
        seen = λ k. made.has_rows.seen k ∙ sym (ap (option_or (rows one contents k)) (none_made other contents others k made_other is_other) ∙ or_none (rows one contents k));
      };
      had = elim made.had [ inl none ↦ inl none | inr had ↦ inr (agree_first (columns_had one) (columns_had other) table.columns had) ];
    }
    at (first ∷ mine) (second ∷ theirs) is is_other =
        let had = had_there table.rows mine first (columns_had one) table.columns is made.had in
        let had_other = had_there others.rows theirs second (columns_had other) others.columns is_other made_other.had in
        let same : table.columns ≡ others.columns = agree_same (columns_had one) (columns_had other) table.columns others.columns agree had had_other in
        let P : List ℕ → Type 0 = λ columns. AllByRecursion (λ row. length row ≡ length columns) others.rows in
        record {
          has_rows = record {
            key = made.has_rows.key;
            once = made.has_rows.once;
            wide = merged_all (λ row. length row ≡ length table.columns) table.rows others.rows made.has_rows.wide (subst P (sym same) made_other.has_rows.wide);
            order = merged_ascends table.rows others.rows made.has_rows.order made_other.has_rows.order;
            seen = λ k.
                ap (option_map (seen_part table.columns)) (merged_at k table.rows others.rows made.has_rows.order)
                ∙ map_or (seen_part table.columns) (row_at k table.rows) (row_at k others.rows)
                ∙ ap₂ (λ (o p : Option Seen). option_or o p) (made.has_rows.seen k) (ap (λ (columns : List ℕ). seen_rows columns others.rows k) same ∙ made_other.has_rows.seen k);
          };
          had = inr (agree_first (columns_had one) (columns_had other) table.columns had);
        }

-- pairs

-- pairs of a row with some other have its key, and a value for each column
pair_keeps : (columns others : List ℕ) (row : List Value) (o : Option (List Value)) (made : List Value) → slice_get columns 0 ≡ Some 0 → length row ≡ length columns → option_map (pair columns others row) o ≡ Some made → key_of made ≡ key_of row
pair_keeps columns others row None made key wide is = absurd (cc)
pair_keeps columns others row (Some other) made key wide is = let one : pair columns others row other ≡ made = cc in ap key_of (sym one) ∙ pair_key columns others row other key wide

pair_wide : (columns others : List ℕ) (row other : List Value) → length row ≡ length columns → length other ≡ length others → length (pair columns others row other) ≡ length (beside columns others)
pair_wide columns others row other wide wide_other =
    let new = picked_wide (λ col. not (has columns col)) others other wide_other in
    omega (arith, new, wide, length-append row (picked (λ col. not (has columns col)) others other), length-append columns (filter (λ col. not (has columns col)) others))

pair_fits : (columns others : List ℕ) (row : List Value) (o : Option (List Value)) (made : List Value) → length row ≡ length columns → ((other : List Value) → o ≡ Some other → length other ≡ length others) → option_map (pair columns others row) o ≡ Some made →
    length made ≡ length (beside columns others)
pair_fits columns others row None made wide fits is = absurd (cc)
pair_fits columns others row (Some other) made wide fits is =
    let one : pair columns others row other ≡ made = cc in
    ap length (sym one) ∙ pair_wide columns others row other wide (fits other refl)

All-kept : (P Q : List Value → Type 0) (f : List Value → Option (List Value)) (rows : List (List Value)) → ((row made : List Value) → P row → f row ≡ Some made → Q made) → AllByRecursion P rows → AllByRecursion Q (filter_map f rows)
All-kept P Q f [] more all = tt
All-kept P Q f (row ∷ rows) more all = one (f row) refl (All-kept P Q f rows more all.1)
  where
    one : (o : Option (List Value)) → f row ≡ o → AllByRecursion Q (filter_map f rows) → AllByRecursion Q (cons_option o (filter_map f rows))
    one None is rest = rest
    one (Some made) is rest = (more row made all.0 is, rest)

pairs_seen : (columns others : List ℕ) (row : List Value) (theirs : List Value → Seen) (o : Option (List Value)) → length row ≡ length columns → ((other : List Value) → seen_part others other ≡ theirs other) →
    option_map (seen_part (beside columns others)) (option_map (pair columns others row) o) ≡ option_map (λ other. merged (seen_part columns row) (theirs other)) o
pairs_seen columns others row theirs None wide same = refl
pairs_seen columns others row theirs (Some other) wide same =
    ap (λ (s : Seen). Some s) (pair_seen columns others row other wide ∙ ap (merged (seen_part columns row)) (same other))

map_twice : {A B C : Type 0} (f : A → B) (g : B → C) (o : Option A) → option_map (λ a. g (f a)) o ≡ option_map g (option_map f o)
map_twice f g None = refl
map_twice f g (Some a) = refl

had_both : (rows others made : List (List Value)) (had had_other : Option (List ℕ)) (columns columns_other : List ℕ) → (rows ≡ [] → made ≡ []) → (others ≡ [] → made ≡ []) → (rows ≡ []) ⊎ (had ≡ Some columns) → (others ≡ []) ⊎ (had_other ≡ Some columns_other) →
    (made ≡ []) ⊎ (both_columns had had_other ≡ Some (beside columns columns_other))
had_both rows others made had had_other columns columns_other none none_other (inl is) is_other = inl (none is)
had_both rows others made had had_other columns columns_other none none_other (inr is) (inl is_other) = inl (none_other is_other)
had_both rows others made had had_other columns columns_other none none_other (inr is) (inr is_other) = inr (ap₂ both_columns is is_other)

no_pairs : (columns columns_other : List ℕ) (rows others : List (List Value)) → others ≡ [] → key_pairs columns columns_other rows others ≡ []
no_pairs columns columns_other [] others none = refl
no_pairs columns columns_other (row ∷ rows) others none =
    ap₂ (λ (o : Option (List Value)) (rest : List (List Value)). cons_option (option_map (pair columns columns_other row) o) rest) (ap (row_at (key_of row)) none) (no_pairs columns columns_other rows others none)

pub key_join_made : (one other : Shape) (contents : Leaf → List (List Value)) (table others : Table) → IsMade one contents table → IsMade other contents others → IsMade (KeyJoin one other) contents (keyed table others)
key_join_made one other contents table others made made_other =
    let f : List Value → Option (List Value) = λ row. option_map (pair table.columns others.columns row) (row_at (key_of row) others.rows) in
    let keeps : AllByRecursion (KeepsKeyOf f) table.rows =
    each_from (λ row. length row ≡ length table.columns) (KeepsKeyOf f) table.rows (λ row wide made_row is. pair_keeps table.columns others.columns row (row_at (key_of row) others.rows) made_row made.has_rows.key wide is) made.has_rows.wide in
    record {
      has_rows = record {
        key = beside_first table.columns others.columns made.has_rows.key;
        once = once_beside table.columns others.columns made.has_rows.once made_other.has_rows.once;
        wide =
            All-kept (λ row. length row ≡ length table.columns) (λ row. length row ≡ length (beside table.columns others.columns)) f table.rows
            (λ row made_row wide is. pair_fits table.columns others.columns row (row_at (key_of row) others.rows) made_row wide
            (λ other_row found. all_at (λ r. length r ≡ length others.columns) (key_of row) others.rows other_row made_other.has_rows.wide found) is) made.has_rows.wide;
        order = ascends_kept f table.rows keeps made.has_rows.order;
        seen = λ k.
            seen_mapped f (λ seen. option_map (merged seen) (rows other contents k)) table.columns (beside table.columns others.columns) table.rows k keeps made.has_rows.order
            (λ row is.
            ap (λ (j : ℤ). option_map (seen_part (beside table.columns others.columns)) (option_map (pair table.columns others.columns row) (row_at j others.rows))) (found_key k table.rows row is)
            ∙ pairs_seen table.columns others.columns row (seen_part others.columns) (row_at k others.rows) (all_at (λ r. length r ≡ length table.columns) k table.rows row made.has_rows.wide is) (λ other_row. refl)
            ∙ map_twice (seen_part others.columns) (merged (seen_part table.columns row)) (row_at k others.rows)
            ∙ ap (option_map (merged (seen_part table.columns row))) (made_other.has_rows.seen k))
            ∙ ap (option_and_then (λ seen. option_map (merged seen) (rows other contents k))) (made.has_rows.seen k);
      };
      had =
          had_both table.rows others.rows (key_pairs table.columns others.columns table.rows others.rows) (columns_had one) (columns_had other) table.columns others.columns
          (λ none. ap (λ (all : List (List Value)). key_pairs table.columns others.columns all others.rows) none) (no_pairs table.columns others.columns table.rows others.rows) made.had made_other.had;
    }

-- a look-up

partner_fits : (others : List (List Value)) (value : Option Value) (other : List Value) (P : List Value → Type 0) → AllByRecursion P others → partner others value ≡ Some other → P other
partner_fits others None other P all is = absurd (cc)
partner_fits others (Some (Text bytes)) other P all is = absurd (cc)
partner_fits others (Some (Int n)) other P all is = all_at P n others other all is

no_value_at : (at : ℤ → Option Seen) (value : Option Value) → ((k : ℤ) → at k ≡ None) → at_value at value ≡ None
no_value_at at None none = refl
no_value_at at (Some (Text bytes)) none = refl
no_value_at at (Some (Int n)) none = none n

no_partner : (width col : ℕ) (at : ℤ → Option Seen) (o : Option Seen) → ((k : ℤ) → at k ≡ None) → option_and_then (λ seen. option_map (λ found. merged seen (shifted width found)) (at_value at (seen col))) o ≡ None
no_partner width col at None none = refl
no_partner width col at (Some seen) none = ap (option_map (λ found. merged seen (shifted width found))) (no_value_at at (seen col) none)

partner_seen : (width : ℕ) (columns others : List ℕ) (row : List Value) (all : List (List Value)) (at : ℤ → Option Seen) (value : Option Value) → length row ≡ length columns → ((k : ℤ) → seen_rows others all k ≡ at k) →
    option_map (seen_part (beside columns (past width others))) (option_map (pair columns (past width others) row) (partner all value)) ≡ option_map (λ found. merged (seen_part columns row) (shifted width found)) (at_value at value)
partner_seen width columns others row all at None wide same = refl
partner_seen width columns others row all at (Some (Text bytes)) wide same = refl
partner_seen width columns others row all at (Some (Int n)) wide same =
    pairs_seen columns (past width others) row (λ other. shifted width (seen_part others other)) (row_at n all) wide (past_seen width others)
    ∙ map_twice (seen_part others) (λ found. merged (seen_part columns row) (shifted width found)) (row_at n all)
    ∙ ap (option_map (λ found. merged (seen_part columns row) (shifted width found))) (same n)

past_wide : (width : ℕ) (others : List ℕ) (other : List Value) → length other ≡ length others → length other ≡ length (past width others)
past_wide width others other wide = wide ∙ sym (length-map others (λ col. width + col))

pub lookup_made : (col width : ℕ) (left right : Shape) (contents : Leaf → List (List Value)) (table others : Table) → IsMade left contents table → IsMade right contents others → IsMade (Lookup col width left right) contents (partnered col width table others)
lookup_made col width left right contents table others made made_other = at others.rows refl
  where
    f : List Value → Option (List Value)
    f row = option_map (pair table.columns (past width others.columns) row) (partner others.rows (seen_part table.columns row col))

    looked : Seen → Option Seen
    looked seen = option_map (λ found. merged seen (shifted width found)) (at_value (λ k. rows right contents k) (seen col))

    keeps : AllByRecursion (KeepsKeyOf f) table.rows
    keeps =
        each_from (λ row. length row ≡ length table.columns) (KeepsKeyOf f) table.rows
        (λ row wide made_row is. pair_keeps table.columns (past width others.columns) row (partner others.rows (seen_part table.columns row col)) made_row made.has_rows.key wide is) made.has_rows.wide

    at : (theirs : List (List Value)) → others.rows ≡ theirs → IsMade (Lookup col width left right) contents (partnered_with theirs col width table others)
    at [] is = record {
      has_rows = record { key = made.has_rows.key; once = made.has_rows.once; wide = tt; order = tt; seen = λ k. sym (no_partner width col (λ j. rows right contents j) (rows left contents k) (λ j. none_made right contents others j made_other is)) };
      had = inl refl;
    }
    at (first ∷ theirs) is = record {
      has_rows = record {
        key = beside_first table.columns (past width others.columns) made.has_rows.key;
        once = once_beside table.columns (past width others.columns) made.has_rows.once (once_past width others.columns made_other.has_rows.once);
        wide =
            All-kept (λ row. length row ≡ length table.columns) (λ row. length row ≡ length (beside table.columns (past width others.columns))) f table.rows
            (λ row made_row wide found_row. pair_fits table.columns (past width others.columns) row (partner others.rows (seen_part table.columns row col)) made_row wide
            (λ other_row found. past_wide width others.columns other_row (partner_fits others.rows (seen_part table.columns row col) other_row (λ r. length r ≡ length others.columns) made_other.has_rows.wide found)) found_row) made.has_rows.wide;
        order = ascends_kept f table.rows keeps made.has_rows.order;
        seen = λ k.
            seen_mapped f looked table.columns (beside table.columns (past width others.columns)) table.rows k keeps made.has_rows.order
            (λ row found. partner_seen width table.columns others.columns row others.rows (λ j. rows right contents j) (seen_part table.columns row col)
            (all_at (λ r. length r ≡ length table.columns) k table.rows row made.has_rows.wide found) made_other.has_rows.seen)
            ∙ ap (option_and_then looked) (made.has_rows.seen k);
      };
      had =
          had_both table.rows others.rows (partner_pairs col table.columns (past width others.columns) table.rows others.rows) (columns_had left) (option_map (past width) (columns_had right)) table.columns (past width others.columns)
          (λ none. ap (λ (all : List (List Value)). partner_pairs col table.columns (past width others.columns) all others.rows) none)
          (λ none. absurd (let e : first ∷ theirs ≡ [] = sym is ∙ none in cc)) made.had
          (inr (ap (option_map (past width)) (had_there others.rows theirs first (columns_had right) others.columns is made_other.had)));
    }

-- the columns of a table on the right stay numbers of 64 bits
pub stays_within : (width : ℕ) (had : Option (List ℕ)) (columns : List ℕ) (all : List (List Value)) → StayWithin width had → (all ≡ []) ⊎ (had ≡ Some columns) → (all ≡ []) ⊎ AllByRecursion (λ col. width + col < 18446744073709551616) columns
stays_within width had columns all within (inl none) = inl none
stays_within width had columns all within (inr is) = let P : Option (List ℕ) → Type 0 = StayWithin width in inr (subst P is within)
