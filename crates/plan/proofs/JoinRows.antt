-- The reduced plan of a join has at each key the row that is to be found there, one relation after another.
use Rattle.std.proofs.Common.{◌≡◌, ℕ, ℤ, ◌+◌, ◌-◌, ◌<◌, ◌≤◌, ◌==◌, ◌||◌, Bool, true, false, cond, ◌&&◌, List, [], ◌∷◌, ◌++◌, length, length-append, Option, Some, None, option_map, option_and_then, refl, ap, ap₂, sym, ◌∙◌, subst, arith}
use Rattle.std.specs.List.{AllByRecursion, slice_get}
use Rattle.std.specs.Ordering.{int_eq}
use Rattle.std.proofs.lemmas.Bool.Decides.{nat_tests}
use Rattle.std.proofs.lemmas.Int.{ints}
use Rattle.std.proofs.lemmas.Option.{slice_get_within}
use Rattle.terms.specs.declared.leaf.Leaf.{Leaf}
use Rattle.terms.specs.declared.value.Kind.{Kind}
use Rattle.terms.specs.declared.value.Kind.TheVariants as kinds
use Rattle.terms.specs.declared.value.Value.{Value}
use Rattle.terms.specs.declared.value.Value.TheVariants.{Int}
use Rattle.terms.specs.Cond.{conds_hold}
use Rattle.terms.specs.Row.{FitsKinds, key_of}
use Rattle.meaning.specs.declared.statement.Join.{Join}
use Rattle.meaning.specs.declared.statement.Select.{Select}
use Rattle.meaning.specs.Relation.{Ascends}
use Rattle.meaning.specs.Schema.{kinds_of}
use Rattle.meaning.specs.Selected.{joined, paired, partner, rows_joined}
use Rattle.meaning.specs.Statement.{AreJoinsOf}
use Rattle.meaning.specs.Whole.{Relations, rows_of}
use Rattle.catalog.specs.Catalogue.{Catalogue}
use Rattle.catalog.specs.Counts.{has}
use Rattle.catalog.specs.Cover.{OneServes, SomeServes}
use Rattle.catalog.specs.FragmentLeaf.{schemas_of}
use Rattle.catalog.specs.Keyed.{row_at}
use Rattle.plan.specs.declared.link.Link.{Link}
use Rattle.plan.specs.declared.need.Need.{Need}
use Rattle.plan.specs.declared.need.Needs.{Needs}
use Rattle.plan.specs.Found.{found_of}
use Rattle.plan.specs.Located.{IsOfJoined}
use Rattle.plan.specs.Need.{columns_of, columns_read, link_of, links_behind, links_of, need_of, needs_behind, needs_of_select, places_on, width_of}
use Rattle.plan.specs.Reduced.{reduced}
use Rattle.plan.specs.Rows.{Seen, at_value, is_seen, kept, merged, rows, seen_of, shifted}
use Rattle.plan.specs.Shape.{Shape, Filter, Lookup}
use Rattle.plan.proofs.AtKey.{ascends_mapped, at_mapped}
use Rattle.plan.proofs.Columns.{fits_at}
use Rattle.plan.proofs.Covered.{or_second}
use Rattle.plan.proofs.JoinAsked.{IsWide, all_asked}
use Rattle.plan.proofs.JoinFound.{fits_long, lookup_none, lookup_one, pair_keeps}
use Rattle.plan.proofs.JoinMarks.{Holds, IsGiven, IsPart, all_there, are_there, is_there, part_fits, part_none, part_row}
use Rattle.plan.proofs.JoinSeen.{last_seen}
use Rattle.plan.proofs.Joining.{Each, all_last, all_more, append_more, append_none, count_is, each_last, get_last, get_still, lengths, lengths_last, placed, together, together_last, width_is}
use Rattle.plan.proofs.Marks.{AreMarkedFrom}
use Rattle.plan.proofs.Meeting.{first_of, integer, rest_of}
use Rattle.plan.proofs.NeedsFit.{get_past}
use Rattle.plan.proofs.OneFound.{own_seen}
use Rattle.plan.proofs.OneSide.{kept_one, seen_conds}
use Rattle.plan.proofs.Origins.{AreSame}
use Rattle.plan.proofs.PutOn.{fits_both}
use Rattle.plan.proofs.StatementFits.{wide_as}

-- a row that is found at a key has it
key_step : (key : ℤ) (t : Bool) (first : List Value) (rest : Option (List Value)) (row : List Value) → int_eq (key_of first) key ≡ t → (rest ≡ Some row → int_eq (key_of row) key ≡ true) → cond t (Some first) rest ≡ Some row → int_eq (key_of row) key ≡ true
key_step key true first rest row here more is = let one : first ≡ row = cc in ap (λ r. int_eq (key_of r) key) (sym one) ∙ here
key_step key false first rest row here more is = more is

key_at : (key : ℤ) (all : List (List Value)) (row : List Value) → row_at key all ≡ Some row → int_eq (key_of row) key ≡ true
key_at key [] row is = absurd (cc)
key_at key (first ∷ all) row is = key_step key (int_eq (key_of first) key) first (row_at key all) row refl (key_at key all row) is

same_key : (one key : ℤ) → int_eq one key ≡ true → one ≡ key
same_key one key h = grind (arith, ints)

-- the key of a row that is found stands in its first column
pub key_there : (others : List Kind) (n : ℤ) (all : List (List Value)) (other : List Value) → slice_get others 0 ≡ Some kinds.Int → FitsKinds others other → row_at n all ≡ Some other → (key_of other ≡ n) × (slice_get other 0 ≡ Some (Int n))
key_there others n all other key fits is =
    let found = integer other 0 (fits_at others other 0 kinds.Int fits key) in
    let split : other ≡ Int found.0 ∷ rest_of other = first_of other (Int found.0) found.1 in
    let here : key_of other ≡ found.0 = ap key_of split in
    let own : key_of other ≡ n = same_key (key_of other) n (key_at n all other is) in
    let same : found.0 ≡ n = sym here ∙ own in
    (own, found.1 ∙ ap (λ (k : ℤ). Some (Int k)) same)

-- both places of an ON have one integer
abbrev AreOne : List Value → Link → Type 0
AreOne row link = (n : ℤ) × (slice_get row link.place ≡ Some (Int n)) × (slice_get row link.key ≡ Some (Int n))

are_same : (row : List Value) (links : List Link) → AllByRecursion (AreOne row) links → AreSame row links
are_same row [] all = tt
are_same row (link ∷ links) all = (all.0.1 ∙ sym all.0.2, are_same row links all.1)

-- a row of the relations so far
pub record IsRow (catalogue : Catalogue) (whole : Relations) (marked : Leaf → Bool) (contents : Leaf → List (List Value)) (types : List Kind) (done : List Need) (links : List Link) (parts : List (List Value)) (row : List Value) : Type 0 where
  pub are : Each (IsPart catalogue whole marked contents) done parts
  pub is : row ≡ together parts
  pub fits : FitsKinds types row
  pub holds : AllByRecursion (Holds parts) links
  pub ones : AllByRecursion (AreOne row) links

still_holds : (parts : List (List Value)) (last : List Value) (link : Link) → Holds parts link → Holds (parts ++ last ∷ []) link
still_holds parts last link h = record {
  one = h.one;
  other = h.other;
  from = get_still parts (last ∷ []) link.from h.one h.from;
  joined = get_still parts (last ∷ []) link.joined h.other h.joined;
  same = h.same;
}

-- with the row that it finds in one more
next_row : (catalogue : Catalogue) (whole : Relations) (marked : Leaf → Bool) (contents : Leaf → List (List Value)) (types others : List Kind) (done : List Need) (links : List Link) (parts : List (List Value)) (row other : List Value) (widths : List ℕ) (join : Join) (need : Need) (n : ℤ) →
    IsRow catalogue whole marked contents types done links parts row → widths ≡ lengths parts → IsPart catalogue whole marked contents need other → FitsKinds others other → slice_get row join.col ≡ Some (Int n) → key_of other ≡ n → slice_get other 0 ≡ Some (Int n) →
    IsRow catalogue whole marked contents (types ++ others) (done ++ need ∷ []) (links ++ link_of widths join ∷ []) (parts ++ other ∷ []) (row ++ other)
next_row catalogue whole marked contents types others done links parts row other widths join need n s widths_are part fits_other at key key_at_first =
    let link = link_of widths join in
    let found = placed parts join.col (Int n) (sym (ap (λ r. slice_get r join.col) s.is) ∙ at) in
    let Number : List ℕ → Type 0 = λ ws. slice_get parts (link_of ws join).from ≡ Some found.part in
    let Column : List ℕ → Type 0 = λ ws. slice_get found.part (link_of ws join).col ≡ Some (Int n) in
    let number = subst Number (sym widths_are) found.here in
    let column = subst Column (sym widths_are) found.at in
    let count : length widths ≡ length parts = ap length widths_are ∙ count_is parts in
    let At : ℕ → Type 0 = λ i. slice_get (parts ++ other ∷ []) i ≡ Some other in
    let width : width_of widths ≡ length row = ap width_of widths_are ∙ width_is parts ∙ ap length (sym s.is) in
    let zero_is : length row + 0 ≡ width_of widths = omega (arith, width) in
    let behind : length row ≤ width_of widths = omega (arith, width) in
    let none : width_of widths - length row ≡ 0 = omega (arith, width) in
    let Key : ℤ → Type 0 = λ k. slice_get found.part link.col ≡ Some (Int k) in
    record {
      are = each_last (IsPart catalogue whole marked contents) done parts need other s.are part;
      is = ap (λ r. r ++ other) s.is ∙ sym (together_last parts other);
      fits = fits_both types others row other s.fits fits_other;
      holds = all_last (Holds (parts ++ other ∷ [])) links link (all_more (Holds parts) (Holds (parts ++ other ∷ [])) links (still_holds parts other) s.holds)
          (record { one = found.part; other = other; from = get_still parts (other ∷ []) link.from found.part number; joined = subst At (sym count) (get_last parts other); same = subst Key (sym key) column });
      ones = all_last (AreOne (row ++ other)) links link (all_more (AreOne row) (AreOne (row ++ other)) links (λ l one. (one.0, get_still row other l.place (Int one.0) one.1, get_still row other l.key (Int one.0) one.2)) s.ones)
          (n, get_still row other join.col (Int n) at, get_past row other (width_of widths) behind ∙ ap (slice_get other) none ∙ key_at_first);
    }

-- the columns of an ON are read
has_front : (xs ys : List ℕ) (p : ℕ) → has xs p ≡ true → has (xs ++ ys) p ≡ true
has_front [] ys p h = absurd (cc)
has_front (x ∷ xs) ys p h = at (x == p) (has_front xs ys p) h
  where
    at : (t : Bool) → (has xs p ≡ true → has (xs ++ ys) p ≡ true) → (t || has xs p) ≡ true → (t || has (xs ++ ys) p) ≡ true
    at true more h = refl
    at false more h = more h

own_has : (p : ℕ) (xs : List ℕ) → has (p ∷ xs) p ≡ true
own_has p xs = let same : (p == p) ≡ true = grind (arith, nat_tests) in rw same refl

on_has : (front : List Link) (link : Link) (rest : List Link) → (has (places_on (front ++ link ∷ rest)) link.place ≡ true) × (has (places_on (front ++ link ∷ rest)) link.key ≡ true)
on_has [] link rest = (own_has link.place (link.key ∷ places_on rest), or_second (link.place == link.key) (has (link.key ∷ places_on rest) link.key) (own_has link.key (places_on rest)))
on_has (first ∷ front) link rest =
    let more = on_has front link rest in
    let others = places_on (front ++ link ∷ rest) in (
      or_second (first.place == link.place) (has (first.key ∷ others) link.place) (or_second (first.key == link.place) (has others link.place) more.0),
      or_second (first.place == link.key) (has (first.key ∷ others) link.key) (or_second (first.key == link.key) (has others link.key) more.1),
    )

seen_col : (t : Bool) (value : Option Value) (n : ℤ) → t ≡ true → value ≡ Some (Int n) → cond t value None ≡ Some (Int n)
seen_col true value n is there = there
seen_col false value n is there = absurd (cc)

-- the last of the rows is there too
there_last : (catalogue : Catalogue) (whole : Relations) (marked : Leaf → Bool) (contents : Leaf → List (List Value)) (done : List Need) (parts : List (List Value)) (need : Need) (row : List Value) → Each (IsPart catalogue whole marked contents) done parts →
    are_there catalogue marked (done ++ need ∷ []) (parts ++ row ∷ []) ≡ (are_there catalogue marked done parts && is_there catalogue marked need row)
there_last catalogue whole marked contents [] [] need row all = at (is_there catalogue marked need row)
  where
    at : (t : Bool) → (t && true) ≡ t
    at true = refl
    at false = refl
there_last catalogue whole marked contents [] (part ∷ parts) need row all = absurd all
there_last catalogue whole marked contents (first ∷ done) [] need row all = absurd all
there_last catalogue whole marked contents (first ∷ done) (part ∷ parts) need row all = at (is_there catalogue marked first part) (there_last catalogue whole marked contents done parts need row all.1)
  where
    at : (t : Bool) → are_there catalogue marked (done ++ need ∷ []) (parts ++ row ∷ []) ≡ (are_there catalogue marked done parts && is_there catalogue marked need row) →
        (t && are_there catalogue marked (done ++ need ∷ []) (parts ++ row ∷ [])) ≡ ((t && are_there catalogue marked done parts) && is_there catalogue marked need row)
    at true rest = rest
    at false rest = refl

-- where nothing is found, nothing is found further on
pub nothing_joined : (whole : Relations) (joins : List Join) (all : List (List Value)) (key : ℤ) → Ascends all → row_at key all ≡ None → row_at key (rows_joined whole joins all) ≡ None
nothing_joined whole [] all key order none = none
nothing_joined whole (join ∷ joins) all key order none =
    let others = rows_of whole join.relation.name in
    nothing_joined whole joins (joined join.col others all) key (ascends_mapped (paired join.col others) all (pair_keeps join.col others) order)
    (at_mapped (paired join.col others) key all (pair_keeps join.col others) order ∙ ap (option_and_then (paired join.col others)) none)

pub nothing_looked : (catalogue : Catalogue) (marked : Leaf → Bool) (contents : Leaf → List (List Value)) (key : ℤ) (links : List Link) (needs : List Need) (left plan : Shape) → IsOfJoined catalogue links needs left plan → rows (reduced marked left) contents key ≡ None → rows (reduced marked plan) contents key ≡ None
nothing_looked catalogue marked contents key [] needs left plan is none = ap (λ (p : Shape). rows (reduced marked p) contents key) is ∙ none
nothing_looked catalogue marked contents key (link ∷ links) [] left plan is none = ap (λ (p : Shape). rows (reduced marked p) contents key) is ∙ none
nothing_looked catalogue marked contents key (link ∷ links) (need ∷ needs) left plan (right, is_right, more) none =
    nothing_looked catalogue marked contents key links needs (Lookup link.place link.key left right) plan more
    (ap (option_and_then (λ seen. option_map (λ found. merged seen (shifted link.key found)) (at_value (λ other. rows (reduced marked right) contents other) (seen link.place)))) none)

-- what is known of the whole statement
pub record IsAll (catalogue : Catalogue) (whole : Relations) (marked : Leaf → Bool) (contents : Leaf → List (List Value)) (select : Select) : Type 0 where
  pub cover : SomeServes
  pub one : OneServes
  pub marks : AreMarkedFrom catalogue (needs_of_select select (links_of select)) 0 (needs_of_select select (links_of select)).relations marked

-- how far it was joined
pub record IsSoFar (catalogue : Catalogue) (whole : Relations) (marked : Leaf → Bool) (contents : Leaf → List (List Value)) (select : Select) (types : List Kind) (done : List Need) (links : List Link) (first : List Value) (parts : List (List Value)) (row : List Value)
    (before later : List Join) (widths : List ℕ) (width : ℕ) : Type 0 where
  pub is_row : IsRow catalogue whole marked contents types done links (first ∷ parts) row
  pub all_links : links_of select ≡ links ++ links_behind widths later
  pub all_needs : (needs_of_select select (links_of select)).relations ≡ done ++ needs_behind select (links_of select) width later
  pub all_joins : select.joins ≡ before ++ later
  pub widths_are : widths ≡ lengths (first ∷ parts)
  pub width_is : width ≡ length row
  pub first_wide : length select.from.columns ≡ length first
  pub wide : Each IsWide before parts

-- at the end
joined_all : (catalogue : Catalogue) (whole : Relations) (marked : Leaf → Bool) (contents : Leaf → List (List Value)) (select : Select) (types : List Kind) (done : List Need) (links : List Link) (first : List Value) (parts : List (List Value)) (row : List Value) (before : List Join) (widths : List ℕ) (width : ℕ) →
    IsAll catalogue whole marked contents select → IsSoFar catalogue whole marked contents select types done links first parts row before [] widths width →
    kept select.conds (cond (are_there catalogue marked done (first ∷ parts)) (Some (seen_of (columns_read (links_of select) select) row)) None) ≡ found_of select.conds (columns_read (links_of select) select) row
joined_all catalogue whole marked contents select types done links first parts row before widths width all s =
    let read = columns_read (links_of select) select in
    let needs : Needs = needs_of_select select (links_of select) in
    let needs_are : done ≡ needs.relations = sym (s.all_needs ∙ append_none done) in
    let links_are : links ≡ links_of select = sym (s.all_links ∙ append_none links) in
    let Wide : List Join → Type 0 = λ joins. Each IsWide joins parts in
    let wide = subst Wide (sym (s.all_joins ∙ append_none before)) s.wide in
    let Parts : List Need → Type 0 = λ ns. Each (IsPart catalogue whole marked contents) ns (first ∷ parts) in
    let Held : List Link → Type 0 = λ ls. AllByRecursion (Holds (first ∷ parts)) ls in
    let Same : List Link → Type 0 = λ ls. AreSame row ls in
    kept_one select.conds (seen_of read row) (are_there catalogue marked done (first ∷ parts)) (conds_hold select.conds row) (seen_conds read select.conds row (own_seen (places_on (links_of select) ++ select.columns) select.conds))
    (λ asked.
    ap (λ (ns : List Need). are_there catalogue marked ns (first ∷ parts)) needs_are
    ∙ all_there catalogue whole marked contents needs (first ∷ parts) all.cover all.one
    (record {
      are = subst Parts needs_are s.is_row.are;
      asked = all_asked select (links_of select) row first parts s.is_row.is s.first_wide wide (subst Same links_are (are_same row links s.is_row.ones)) asked;
      links = subst Held links_are s.is_row.holds;
    }) all.marks)

pub joined_rows : (catalogue : Catalogue) (whole : Relations) (marked : Leaf → Bool) (contents : Leaf → List (List Value)) (select : Select) (earlier : List (List ℕ)) (types all_types : List Kind) (done : List Need) (links : List Link) (first : List Value) (parts : List (List Value)) (row : List Value) (before later : List Join) (widths : List ℕ) (width : ℕ)
    (all : List (List Value)) (key : ℤ) (left plan : Shape) →
    IsAll catalogue whole marked contents select → IsSoFar catalogue whole marked contents select types done links first parts row before later widths width → AreJoinsOf (schemas_of catalogue) earlier types later all_types →
    AllByRecursion (IsGiven catalogue whole marked contents) (needs_behind select (links_of select) width later) → Ascends all → row_at key all ≡ Some row →
    rows (reduced marked left) contents key ≡ cond (are_there catalogue marked done (first ∷ parts)) (Some (seen_of (columns_read (links_of select) select) row)) None →
    IsOfJoined catalogue (links_behind widths later) (needs_behind select (links_of select) width later) left plan →
    rows (reduced marked (Filter select.conds plan)) contents key ≡ option_and_then (found_of select.conds (columns_read (links_of select) select)) (row_at key (rows_joined whole later all))
joined_rows catalogue whole marked contents select earlier types all_types done links first parts row before [] widths width all key left plan a s joins given order at is_left is_plan =
    ap (λ (p : Shape). kept select.conds (rows (reduced marked p) contents key)) is_plan ∙ ap (kept select.conds) is_left
    ∙ joined_all catalogue whole marked contents select types done links first parts row before widths width a s
    ∙ ap (option_and_then (found_of select.conds (columns_read (links_of select) select))) (sym at)
joined_rows catalogue whole marked contents select earlier types all_types done links first parts row before (join ∷ later) widths width all key left plan a s (other, join_is, more) given order at is_left (right, is_right, is_plan) =
    let found = integer row join.col (fits_at types row join.col kinds.Int s.is_row.fits join_is.column) in
    at_partner found.0 found.1 (row_at found.0 others) refl (λ beyond there. joined_rows catalogue whole marked contents select (earlier ++ other.name ∷ []) (types ++ kinds_of other) all_types (done ++ need ∷ []) (links ++ link ∷ []) first (parts ++ beyond ∷ []) (row ++ beyond)
    (before ++ join ∷ []) later (widths ++ length join.relation.columns ∷ []) (width + length join.relation.columns) (joined join.col others all) key (Lookup link.place link.key left right) plan a)
  where
    read : List ℕ
    read = columns_read (links_of select) select

    others : List (List Value)
    others = rows_of whole join.relation.name

    link : Link
    link = link_of widths join

    need : Need
    need = need_of select (links_of select) width join.relation

    long : length join.relation.columns ≡ length (kinds_of other)
    long = wide_as join.relation other join_is.names

    key_is : width_of widths ≡ width
    key_is = ap width_of s.widths_are ∙ width_is (first ∷ parts) ∙ ap length (sym s.is_row.is) ∙ sym s.width_is

    looked : Option Seen → Option Seen
    looked seen = option_and_then (λ one. option_map (λ partner_seen. merged one (shifted link.key partner_seen)) (at_value (λ k. rows (reduced marked right) contents k) (one link.place))) seen

    at_pair : (n : ℤ) → slice_get row join.col ≡ Some (Int n) → (found : Option (List Value)) → row_at n others ≡ found → row_at key (joined join.col others all) ≡ option_map (λ beyond. row ++ beyond) found
    at_pair n there found is =
        at_mapped (paired join.col others) key all (pair_keeps join.col others) order ∙ ap (option_and_then (paired join.col others)) at ∙ ap (λ (o : Option Value). option_map (λ beyond. row ++ beyond) (partner others o)) there
        ∙ ap (option_map (λ beyond. row ++ beyond)) is

    on_read : (has (places_on (links_of select)) link.place ≡ true) × (has (places_on (links_of select)) link.key ≡ true)
    on_read =
        let Read : List Link → Type 0 = λ ls. (has (places_on ls) link.place ≡ true) × (has (places_on ls) link.key ≡ true) in
        subst Read (sym s.all_links) (on_has links link (links_behind (widths ++ length join.relation.columns ∷ []) later))

    is_read : (p : ℕ) → has (places_on (links_of select)) p ≡ true → has read p ≡ true
    is_read p there = has_front (places_on (links_of select) ++ select.columns) (columns_of select.conds) p (has_front (places_on (links_of select)) select.columns p there)

    col_seen : (n : ℤ) → slice_get row join.col ≡ Some (Int n) → seen_of read row join.col ≡ Some (Int n)
    col_seen n there = seen_col (is_seen read join.col) (slice_get row join.col) n (or_second (join.col == 0) (has read join.col) (is_read join.col on_read.0)) there

    next : (n : ℤ) → slice_get row join.col ≡ Some (Int n) → (beyond : List Value) → row_at n others ≡ Some beyond → IsPart catalogue whole marked contents need beyond
    next n there beyond is = record { given = given.0; key = n; at = is }

    beyond_fits : (n : ℤ) (beyond : List Value) → IsPart catalogue whole marked contents need beyond → FitsKinds (kinds_of other) beyond
    beyond_fits n beyond part =
        let schema_is : Some part.given.of.schema ≡ Some other = sym part.given.of.there ∙ join_is.there in
        let alike : part.given.of.schema ≡ other = cc in
        subst (λ s. FitsKinds (kinds_of s) beyond) alike (part_fits catalogue whole marked contents need beyond part)

    Rest : List Value → Type 0
    Rest beyond =
        IsSoFar catalogue whole marked contents select (types ++ kinds_of other) (done ++ need ∷ []) (links ++ link ∷ []) first (parts ++ beyond ∷ []) (row ++ beyond) (before ++ join ∷ []) later (widths ++ length join.relation.columns ∷ []) (width + length join.relation.columns) →
        AreJoinsOf (schemas_of catalogue) (earlier ++ other.name ∷ []) (types ++ kinds_of other) later all_types → AllByRecursion (IsGiven catalogue whole marked contents) (needs_behind select (links_of select) (width + length join.relation.columns) later) →
        Ascends (joined join.col others all) → row_at key (joined join.col others all) ≡ Some (row ++ beyond) →
        rows (reduced marked (Lookup link.place link.key left right)) contents key ≡ cond (are_there catalogue marked (done ++ need ∷ []) (first ∷ (parts ++ beyond ∷ []))) (Some (seen_of read (row ++ beyond))) None →
        IsOfJoined catalogue (links_behind (widths ++ length join.relation.columns ∷ []) later) (needs_behind select (links_of select) (width + length join.relation.columns) later) (Lookup link.place link.key left right) plan →
        rows (reduced marked (Filter select.conds plan)) contents key ≡ option_and_then (found_of select.conds read) (row_at key (rows_joined whole later (joined join.col others all)))

    ascends : Ascends (joined join.col others all)
    ascends = ascends_mapped (paired join.col others) all (pair_keeps join.col others) order

    some_before : 0 < width
    some_before =
        let within = slice_get_within types join.col kinds.Int join_is.column in
        let fit = fits_long types row s.is_row.fits in
        let wide = s.width_is in
        omega (arith, within, fit, wide)

    so_far : (n : ℤ) → slice_get row join.col ≡ Some (Int n) → (beyond : List Value) → row_at n others ≡ Some beyond →
        IsSoFar catalogue whole marked contents select (types ++ kinds_of other) (done ++ need ∷ []) (links ++ link ∷ []) first (parts ++ beyond ∷ []) (row ++ beyond) (before ++ join ∷ []) later (widths ++ length join.relation.columns ∷ []) (width + length join.relation.columns)
    so_far n there beyond is =
        let part = next n there beyond is in
        let fits = beyond_fits n beyond part in
        let keyed = key_there (kinds_of other) n others beyond join_is.key fits is in
        let beyond_long : length join.relation.columns ≡ length beyond = long ∙ sym (fits_long (kinds_of other) beyond fits) in
        record {
          is_row = next_row catalogue whole marked contents types (kinds_of other) done links (first ∷ parts) row beyond widths join need n s.is_row s.widths_are part fits there keyed.0 keyed.1;
          all_links = s.all_links ∙ sym (append_more links (link ∷ []) (links_behind (widths ++ length join.relation.columns ∷ []) later));
          all_needs = s.all_needs ∙ sym (append_more done (need ∷ []) (needs_behind select (links_of select) (width + length join.relation.columns) later));
          all_joins = s.all_joins ∙ sym (append_more before (join ∷ []) later);
          widths_are = ap₂ (λ (ws : List ℕ) (w : ℕ). ws ++ w ∷ []) s.widths_are beyond_long ∙ sym (lengths_last (first ∷ parts) beyond);
          width_is = ap₂ (λ (a b : ℕ). a + b) s.width_is beyond_long ∙ sym (length-append row beyond);
          first_wide = s.first_wide;
          wide = each_last IsWide before parts join beyond s.wide beyond_long;
        }

    looked_up : (n : ℤ) → slice_get row join.col ≡ Some (Int n) → (beyond : List Value) → row_at n others ≡ Some beyond →
        rows (reduced marked (Lookup link.place link.key left right)) contents key ≡ cond (are_there catalogue marked (done ++ need ∷ []) (first ∷ (parts ++ beyond ∷ []))) (Some (seen_of read (row ++ beyond))) None
    looked_up n there beyond is =
        let part = next n there beyond is in
        let fits = beyond_fits n beyond part in
        let beyond_long : length join.relation.columns ≡ length beyond = long ∙ sym (fits_long (kinds_of other) beyond fits) in
        let here = are_there catalogue marked done (first ∷ parts) in
        let there_too = is_there catalogue marked need beyond in
        let seen : merged (seen_of read row) (shifted link.key (seen_of need.columns beyond)) ≡ seen_of read (row ++ beyond) =
        ap (λ (w : ℕ). merged (seen_of read row) (shifted w (seen_of need.columns beyond))) key_is
        ∙ last_seen read (length join.relation.columns) width row beyond s.width_is some_before beyond_long (ap (has read) (sym key_is) ∙ is_read link.key on_read.1) in
        ap looked is_left
        ∙ lookup_one here there_too link.key join.col (seen_of read row) (seen_of need.columns beyond) (λ k. rows (reduced marked right) contents k) n (col_seen n there)
        (part_row catalogue whole marked contents need beyond n right is_right given.0 is)
        ∙ ap₂ (λ (t : Bool) (o : Seen). let found : Option Seen = cond t (Some o) None in found) (sym (there_last catalogue whole marked contents done (first ∷ parts) need beyond s.is_row.are)) seen

    at_partner : (n : ℤ) → slice_get row join.col ≡ Some (Int n) → (found : Option (List Value)) → row_at n others ≡ found → ((beyond : List Value) → row_at n others ≡ Some beyond → Rest beyond) →
        rows (reduced marked (Filter select.conds plan)) contents key ≡ option_and_then (found_of select.conds read) (row_at key (rows_joined whole later (joined join.col others all)))
    at_partner n there None is rest =
        let none_here : rows (reduced marked (Lookup link.place link.key left right)) contents key ≡ None =
        ap looked is_left
        ∙ lookup_none (are_there catalogue marked done (first ∷ parts)) link.key join.col (seen_of read row) (λ k. rows (reduced marked right) contents k) n (col_seen n there) (part_none catalogue whole marked contents need n right is_right given.0 is) in
        ap (kept select.conds) (nothing_looked catalogue marked contents key (links_behind (widths ++ length join.relation.columns ∷ []) later) (needs_behind select (links_of select) (width + length join.relation.columns) later) (Lookup link.place link.key left right) plan is_plan none_here)
        ∙ ap (option_and_then (found_of select.conds read)) (sym (nothing_joined whole later (joined join.col others all) key ascends (at_pair n there None is)))
    at_partner n there (Some beyond) is rest =
        rest beyond is (so_far n there beyond is) more given.1 ascends (at_pair n there (Some beyond) is) (looked_up n there beyond is) is_plan
