-- The texts of columns, as a loop goes over them.
use Rattle.std.proofs.Common.{◌≡◌, refl, sym, ap, ap₂, subst, ◌∙◌, ℕ, zero, suc, ◌<◌, ◌==◌, true, false, ◌||◌, List, [], ◌∷◌, ◌++◌, map, take, length, get_or, Option, Some, None, arith}
use Rattle.std.specs.List.{position_or_len, before_first, after_first}
use Rattle.std.specs.Cmp.Lexicographic.{pointwise}
use Rattle.std.specs.Bool.{nat_eq}
use Rattle.std.proofs.lemmas.List.{map-append}
use Rattle.terms.specs.declared.value.Kind.{Kind}
use Rattle.terms.specs.declared.value.Kind.TheVariants as kinds
use Rattle.meaning.specs.declared.schema.Column.{Column}
use Rattle.reader.specs.Class.{is_in, AreAll}
use Rattle.reader.specs.declared.class.Class.TheVariants.{Letter, WordByte}
use Rattle.reader.specs.Printable.{AreDistinct}
use Rattle.reader.specs.Tokens.{IsName, IsWord}
use Rattle.std.proofs.lemmas.Bool.{eqb-true}
use Rattle.std.proofs.lemmas.List.Sums.{passes_at_first, split_at_first}
use Rattle.std.proofs.lemmas.Str.Pattern.{IsSplitOnceResult, split_once_first}
use Rattle.std.specs.Borrow.{Bor}
use Rattle.catalog.specs.Catalogue.{IsColumnText, kind_word}
use Rattle.catalog.proofs.Refusals.{refuses_also}
use Rattle.catalog.specs.Columns.{AreColumns, RefusesColumns, has_column, IsNextColumn, RefusesColumn, FitRelation, RefusesFit, HasNoBlank, HasNoForm}
use Rattle.catalog.specs.Describes.{Each}
use Rattle.catalog.specs.Sites.{has_name}
use Rattle.catalog.specs.declared.fault.Rule.{Rule}
use Rattle.catalog.specs.declared.fault.Rule.TheVariants.{Toml, Field, Name, Twice, NoSite, KeyType, ColumnTwice, ColumnLost, ColumnAbsent, WrongType, Gap, Overlap, Limit, Memory}
use Rattle.catalog.proofs.Pairs.{each_one}
use Rattle.catalog.proofs.Distinct.{new_at, distinct_more}

-- ---- one blank

letter_no_blank : (b : ℕ) → is_in Letter b ≡ true → (b == 32) ≡ false
letter_no_blank b letter =
    elim (b == 32) as (λ t. (b == 32) ≡ t → t ≡ false) [
      | true ↦ λ is. let h = subst (λ (n : ℕ). is_in Letter n ≡ true) (eqb-true b 32 is) letter in absurd cc
      | false ↦ λ is. refl
    ] refl

word_byte_no_blank : (b : ℕ) → is_in WordByte b ≡ true → (b == 32) ≡ false
word_byte_no_blank b byte =
    elim (b == 32) as (λ t. (b == 32) ≡ t → t ≡ false) [
      | true ↦ λ is. let h = subst (λ (n : ℕ). is_in WordByte n ≡ true) (eqb-true b 32 is) byte in absurd cc
      | false ↦ λ is. refl
    ] refl

word_bytes_no_blank : (bytes : List ℕ) → AreAll WordByte bytes → HasNoBlank bytes
word_bytes_no_blank [] all = tt
word_bytes_no_blank (b ∷ bytes) all = (word_byte_no_blank b all.0, word_bytes_no_blank bytes all.1)

word_no_blank : (bytes : List ℕ) → IsWord bytes → HasNoBlank bytes
word_no_blank [] word = absurd word
word_no_blank (b ∷ bytes) word = (letter_no_blank b word.0, word_bytes_no_blank bytes word.1)

kind_no_blank : (kind : Kind) → HasNoBlank (kind_word kind)
kind_no_blank kinds.Int = (refl, (refl, (refl, tt)))
kind_no_blank kinds.Text = (refl, (refl, (refl, (refl, tt))))

no_blank_within : (us vs : List ℕ) → HasNoBlank (us ++ 32 ∷ vs) → ⊥
no_blank_within [] vs none = let h = none.0 in cc
no_blank_within (u ∷ us) vs none = no_blank_within us vs none.1

-- bytes of one blank are parted by it in one way
one_blank : (xs ys us vs : List ℕ) → HasNoBlank xs → HasNoBlank ys → xs ++ 32 ∷ ys ≡ us ++ 32 ∷ vs → (xs ≡ us) × (ys ≡ vs)
one_blank [] ys [] vs before behind same = (refl, let h : ys ≡ vs = cc in h)
one_blank [] ys (u ∷ us) vs before behind same =
    let h : ys ≡ us ++ 32 ∷ vs = cc in absurd (no_blank_within us vs (subst HasNoBlank h behind))
one_blank (x ∷ xs) ys [] vs before behind same =
    let h : x ≡ 32 = cc in let P : ℕ → Type 0 = λ n. (n == 32) ≡ false in let none = subst P h before.0 in absurd cc
one_blank (x ∷ xs) ys (u ∷ us) vs before behind same =
    let first : x ≡ u = cc in
    let rest : xs ++ 32 ∷ ys ≡ us ++ 32 ∷ vs = cc in
    let both = one_blank xs ys us vs before.1 behind rest in
    (rw (first, both.0) refl, both.1)

-- a name and a type's word are parted so by any blank
pub form_parts : (text name : List ℕ) (kind : Kind) (before behind : List ℕ) → HasNoBlank name → text ≡ name ++ 32 ∷ kind_word kind → text ≡ before ++ 32 ∷ behind → (name ≡ before) × (kind_word kind ≡ behind)
form_parts text name kind before behind none spelled parted = one_blank name (kind_word kind) before behind none (kind_no_blank kind) (sym spelled ∙ parted)

-- a text without form says no column
pub no_column : (text : List ℕ) → HasNoForm text → (column : Column) → IsColumnText text column → ⊥
no_column text none column says = none column.name column.kind (word_no_blank column.name says.name.is_word) says.spelled

-- a column's text is parted so by any blank
pub parts_of : (text : List ℕ) (column : Column) (before behind : List ℕ) → IsColumnText text column → text ≡ before ++ 32 ∷ behind → (column.name ≡ before) × (kind_word column.kind ≡ behind)
parts_of text column before behind says parted =
    form_parts text column.name column.kind before behind (word_no_blank column.name says.name.is_word) says.spelled parted

one_kind : (one other : Kind) → kind_word one ≡ kind_word other → one ≡ other
one_kind kinds.Int kinds.Int same = refl
one_kind kinds.Int kinds.Text same = absurd cc
one_kind kinds.Text kinds.Int same = absurd cc
one_kind kinds.Text kinds.Text same = refl

abbrev column_of : List ℕ → Kind → Column
column_of name kind = record { name = name; kind = kind }

-- a text says one column at most
pub one_column : (text : List ℕ) (one other : Column) → IsColumnText text one → IsColumnText text other → one ≡ other
one_column text one other says too =
    let both = parts_of text one other.name (kind_word other.kind) says too.spelled in
    ap₂ column_of both.0 (one_kind one.kind other.kind both.1)

-- ---- refusals

-- what columns can't be those of a relation says of their texts
pub refuses_relation : (texts : List (List ℕ)) (columns : List Column) (rule : Rule) → Each IsColumnText texts columns → RefusesFit columns rule → RefusesColumns texts rule
refuses_relation texts columns rule each none = by_rule rule none
  where
    never : (FitRelation columns → ⊥) → (others : List Column) → AreColumns texts others → ⊥
    never unfit others are =
        let same : others ≡ columns = each_one IsColumnText one_column texts others columns are.each each in
        unfit (subst FitRelation same (record { few = are.few; key = are.key }))

    by_rule : (r : Rule) → RefusesFit columns r → RefusesColumns texts r
    by_rule Memory unfit = tt
    by_rule (Gap cell) unfit = unfit
    by_rule (Overlap cell) unfit = unfit
    by_rule Toml unfit = never unfit
    by_rule Field unfit = never unfit
    by_rule Name unfit = never unfit
    by_rule Twice unfit = never unfit
    by_rule NoSite unfit = never unfit
    by_rule KeyType unfit = never unfit
    by_rule ColumnTwice unfit = never unfit
    by_rule ColumnLost unfit = never unfit
    by_rule ColumnAbsent unfit = never unfit
    by_rule WrongType unfit = never unfit
    by_rule Limit unfit = never unfit

-- whether a name is that of one of the columns
has_column_named : (columns : List Column) (name : List ℕ) → has_column columns name ≡ has_name (map (λ column. column.name) columns) name
has_column_named [] name = refl
has_column_named (column ∷ columns) name = ap (λ rest. pointwise nat_eq column.name name || rest) (has_column_named columns name)

-- the name before the blank is that of any column that the text says behind others
pub named_so : (before : List Column) (text name : List ℕ) (kind : Kind) (column : Column) → text ≡ name ++ 32 ∷ kind_word kind → IsNextColumn before text column → IsName name × (has_column before name ≡ false)
named_so before text name kind column parted next =
    let same = (parts_of text column name (kind_word kind) next.says parted).0 in
    let P : List ℕ → Type 0 = λ n. IsName n × (has_column before n ≡ false) in
    subst P same (next.says.name, next.new)

-- ---- a loop over the texts

-- each of the texts says a column behind those before it
pub next_of_columns : {A : Type 0} (view : A → List ℕ) (texts : List A) (i : ℕ) (d x : A) (before shown : List Column) → x ≡ get_or texts i d → i < length texts →
    shown ≡ before → Each IsColumnText (map view (take i texts)) before → (columns : List Column) → AreColumns (map view texts) columns → (column : Column) × IsNextColumn shown (view x) column
next_of_columns {A} view texts i d x before shown is within same so_far columns are =
    let first = each_at view texts i d within columns are.each in
    let front : take i columns ≡ before = each_one IsColumnText one_column (map view (take i texts)) (take i columns) before first.1 so_far in
    let P : A → Type 0 = λ t. IsColumnText (view t) (get_or columns i default) in
    let Q : List Column → Type 0 = λ others. has_column others (get_or columns i default).name ≡ false in (
      get_or columns i default,
      record {
        says = subst P (sym is) first.0;
        new = subst Q (front ∙ sym same) (has_column_named (take i columns) _ ∙ new_at (λ column. column.name) columns i default (shorter view texts i within columns are.each) are.distinct);
      },
    )
  where
    default : Column
    default = record { name = []; kind = kinds.Int }

    each_at : (see : A → List ℕ) (items : List A) (j : ℕ) (e : A) → j < length items → (cs : List Column) → Each IsColumnText (map see items) cs →
        IsColumnText (see (get_or items j e)) (get_or cs j default) × Each IsColumnText (map see (take j items)) (take j cs)
    each_at see [] j e inside cs each = absurd (omega arith)
    each_at see (item ∷ items) j e inside [] each = absurd each
    each_at see (item ∷ items) zero e inside (c ∷ cs) each = (each.0, tt)
    each_at see (item ∷ items) (suc j) e inside (c ∷ cs) each =
        let rest = each_at see items j e (omega arith) cs each.1 in (rest.0, (each.0, rest.1))

    shorter : (see : A → List ℕ) (items : List A) (j : ℕ) → j < length items → (cs : List Column) → Each IsColumnText (map see items) cs → j < length cs
    shorter see [] j inside cs each = absurd (omega arith)
    shorter see (item ∷ items) j inside [] each = absurd each
    shorter see (item ∷ items) zero inside (c ∷ cs) each = omega arith
    shorter see (item ∷ items) (suc j) inside (c ∷ cs) each = let rest = shorter see items j (omega arith) cs each.1 in omega arith

-- a text that is refused, and what that says of all
pub refuses_columns : (texts : List (List ℕ)) (before : List Column) (text : List ℕ) (rule : Rule) → ((columns : List Column) → AreColumns texts columns → (column : Column) × IsNextColumn before text column) →
    RefusesColumn before text rule → RefusesColumns texts rule
refuses_columns texts before text rule next refused =
    refuses_also ⊥ ((column : Column) → IsNextColumn before text column → ⊥) ((columns : List Column) → AreColumns texts columns → ⊥) rule (λ none columns are. let n = next columns are in none n.0 n.1) refused

-- the names of columns are distinct with one more
pub distinct_column : (columns : List Column) (column : Column) → AreDistinct (map (λ other. other.name) columns) → has_column columns column.name ≡ false → AreDistinct (map (λ other. other.name) (columns ++ column ∷ []))
distinct_column columns column distinct new =
    rw (map-append (λ (other : Column). other.name) columns (column ∷ [])) (distinct_more (map (λ other. other.name) columns) column.name distinct (sym (has_column_named columns column.name) ∙ new))

-- bytes with a blank have a first one
has_a_blank : (text name : List ℕ) (kind : Kind) → text ≡ name ++ 32 ∷ kind_word kind → position_or_len (λ b. b == 32) text ≡ length text → ⊥
has_a_blank text name kind spelled none = let P : List ℕ → Type 0 = λ t. position_or_len (λ b. b == 32) t ≡ length t in within name (kind_word kind) (subst P spelled none)
  where
    within : (before behind : List ℕ) → position_or_len (λ b. b == 32) (before ++ 32 ∷ behind) ≡ length (before ++ 32 ∷ behind) → ⊥
    within [] behind none = cc
    within (b ∷ before) behind none =
        elim (b == 32) as (λ t. (b == 32) ≡ t → ⊥) [
          | true ↦ λ is. let h = rw is at none in cc
          | false ↦ λ is. let h = rw is at none in within before behind (omega (arith, h))
        ] refl

-- ---- the parts about the first blank

pub no_parts : (text : List ℕ) (r : Option (Bor (List ℕ) × Bor (List ℕ))) → IsSplitOnceResult 32 text r → r ≡ None → HasNoForm text
no_parts text r split none name kind blankless spelled =
    let P : Option (Bor (List ℕ) × Bor (List ℕ)) → Type 0 = IsSplitOnceResult 32 text in
    has_a_blank text name kind spelled (split_once_first 32 text None (subst P none split) (omega arith))

pub two_parts : (text : List ℕ) (r : Option (Bor (List ℕ) × Bor (List ℕ))) (x : Bor (List ℕ) × Bor (List ℕ)) → IsSplitOnceResult 32 text r → r ≡ Some x → text ≡ x.0.now ++ 32 ∷ x.1.now
two_parts text r x split some =
    let P : Option (Bor (List ℕ) × Bor (List ℕ)) → Type 0 = IsSplitOnceResult 32 text in
    let at = split_once_first 32 text (Some x) (subst P some split) (omega arith) in
    let blank = eqb-true _ _ (passes_at_first (λ b. b == 32) text 0 at.0) in
    let Q : ℕ → Type 0 = λ b. text ≡ before_first (λ other. other == 32) text ++ b ∷ after_first (λ other. other == 32) text in
    rw (at.1, at.2) (subst Q blank (split_at_first (λ b. b == 32) text 0 at.0))
