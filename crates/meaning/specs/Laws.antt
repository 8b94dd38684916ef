-- Laws: what follows from the meaning, in the words of its user.
use Rattle.std.specs.Prelude.{◌≡◌, ◌↔◌, ◌≤◌, ◌<◌, ◌+◌, ◌⊎◌, ℕ, ℤ, List, [], ◌∷◌, ◌++◌, Some, None, false, map, take, drop, length}
use Rattle.std.specs.List.{AllByRecursion, Contains, range_with_len, slice_get}
use Rattle.terms.specs.declared.cond.Cmp.TheVariants.{Eq}
use Rattle.terms.specs.declared.value.Value.{Value}
use Rattle.terms.specs.declared.value.Value.TheVariants.{Int}
use Rattle.terms.specs.Cond.{conds_hold}
use Rattle.terms.specs.Row.{key_of}
use Rattle.meaning.specs.declared.answer.Answer.TheVariants as answer
use Rattle.meaning.specs.declared.statement.Statement.{Statement}
use Rattle.meaning.specs.declared.statement.Statement.TheVariants as statement
use Rattle.meaning.specs.declared.statement.Join.{Join}
use Rattle.meaning.specs.declared.statement.Select.{Select}
use Rattle.meaning.specs.declared.statement.Source.{Source}
use Rattle.meaning.specs.declared.statement.Insert.{Insert}
use Rattle.meaning.specs.declared.statement.Update.{Update}
use Rattle.meaning.specs.declared.statement.Delete.{Delete}
use Rattle.meaning.specs.Listed.{listed}
use Rattle.meaning.specs.Meaning.{meaning}
use Rattle.meaning.specs.Relation.{Ascends, has_key}
use Rattle.meaning.specs.Selected.{joined, partner, rows_joined, rows_read}
use Rattle.meaning.specs.Whole.{Relations, rows_of}

-- a SELECT of all columns of a relation, on the one condition that the key is this integer
pub record IsSelectByKey (select : Select) (name : List ℕ) (width : ℕ) (key : ℤ) : Type 0 where
  pub relation : select.from.name ≡ name
  pub alone : select.joins ≡ []
  pub columns : select.columns ≡ range_with_len 0 width
  pub cond : select.conds ≡ record { col = 0; cmp = Eq; value = Int key } ∷ []

-- after an INSERT whose key was not there, a SELECT by that key answers the row that went in, and nothing else
abbrev pub InsertedIsSelected : Type 0
InsertedIsSelected = (insert : Insert) (select : Select) (whole : Relations) (key : ℤ) (values : List Value)
    → insert.row ≡ Int key ∷ values
    → has_key key (rows_of whole insert.into) ≡ false
    → IsSelectByKey select insert.into (length insert.row) key
    → (meaning (statement.Select select) (meaning (statement.Insert insert) whole).1).0 ≡ answer.Rows (listed select.columns select.from.columns) (insert.row ∷ [])

-- the rows after a DELETE are those before that don't meet its conditions
abbrev pub DeletedAreGone : Type 0
DeletedAreGone = (delete : Delete) (whole : Relations) (row : List Value)
    → Contains (rows_of (meaning (statement.Delete delete) whole).1 delete.relation.name) row ↔ (Contains (rows_of whole delete.relation.name) row × (conds_hold delete.conds row ≡ false))

-- an UPDATE leaves the same keys in the same order, under every name
abbrev pub UpdateKeepsKeys : Type 0
UpdateKeepsKeys = (update : Update) (whole : Relations) (name : List ℕ)
    → map key_of (rows_of (meaning (statement.Update update) whole).1 name) ≡ map key_of (rows_of whole name)

-- a SELECT answers at most one row for each row after FROM, with JOINs too
abbrev pub SelectAddsNoRow : Type 0
SelectAddsNoRow = (select : Select) (whole : Relations) (header : List (List ℕ)) (rows : List (List Value))
    → (meaning (statement.Select select) whole).0 ≡ answer.Rows header rows
    → length rows ≤ length (rows_of whole select.from.name)

-- the rows that a SELECT reads ascend by the keys of those after FROM, with JOINs too
abbrev pub ReadsInOrder : Type 0
ReadsInOrder = (from : Source) (joins : List Join) (whole : Relations) → Ascends (rows_of whole from.name) → Ascends (rows_read from joins whole)

-- a JOIN drops a row whose column has no key of the joined relation
abbrev pub UnmatchedIsDropped : Type 0
UnmatchedIsDropped = (col : ℕ) (others rows : List (List Value)) (row : List Value) → partner others (slice_get row col) ≡ None → joined col others (row ∷ rows) ≡ joined col others rows

-- a row whose columns behind some change places: behind the first so many columns some stand, and then the others
abbrev pub turned : ℕ → ℕ → List Value → List Value
turned width count row = take width row ++ (drop (width + count) row ++ take count (drop width row))

-- two JOINs by columns of the rows before both may come in either order: but for the order of their columns they read the same rows
abbrev pub JoinsMayTurn : Type 0
JoinsMayTurn = (whole : Relations) (one other : Join) (width count more : ℕ) (rows : List (List Value))
    → AllByRecursion (λ row. length row ≡ width) rows
    → AllByRecursion (λ row. length row ≡ count) (rows_of whole one.relation.name)
    → AllByRecursion (λ row. length row ≡ more) (rows_of whole other.relation.name)
    → one.col < width → other.col < width
    → rows_joined whole (one ∷ other ∷ []) rows ≡ map (turned width more) (rows_joined whole (other ∷ one ∷ []) rows)

-- among ascending rows the partner by a key is the row with that key
abbrev pub PartnerHasKey : Type 0
PartnerHasKey = (rows : List (List Value)) (row : List Value) → Ascends rows → Contains rows row → partner rows (Some (Int (key_of row))) ≡ Some row

-- a SELECT changes nothing, and neither does a statement that answers Exists or Overflow
abbrev pub SelectChangesNothing : Type 0
SelectChangesNothing = (select : Select) (whole : Relations) → (meaning (statement.Select select) whole).1 ≡ whole

abbrev pub RefusalChangesNothing : Type 0
RefusalChangesNothing = (s : Statement) (whole : Relations)
    → ((meaning s whole).0 ≡ answer.Exists) ⊎ ((meaning s whole).0 ≡ answer.Overflow)
    → (meaning s whole).1 ≡ whole
