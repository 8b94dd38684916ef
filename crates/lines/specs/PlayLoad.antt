-- The whole relations that a script of schedules loads.
use Rattle.std.specs.Prelude.{◌≡◌, ◌⊎◌, ℕ, Bool, true, false, List, [], ◌∷◌, ◌++◌, Option, Some, None}
use Rattle.std.specs.FinMap as finite
use Rattle.meaning.specs.declared.answer.Answer.{Answer}
use Rattle.meaning.specs.declared.answer.Answer.TheVariants.{Changed, Exists}
use Rattle.meaning.specs.declared.schema.RelationSchema.{RelationSchema}
use Rattle.meaning.specs.declared.statement.Insert.{Insert}
use Rattle.meaning.specs.declared.statement.Statement.TheVariants as statement
use Rattle.meaning.specs.Meaning.{meaning}
use Rattle.meaning.specs.Whole.{Relations}
use Rattle.reader.specs.declared.command.Command.TheVariants.{Run}
use Rattle.reader.specs.Command.{IsTextOf}
use Rattle.lines.specs.declared.play_items.Placed.{Placed}
use Rattle.lines.specs.declared.play_script.Item.{Item}
use Rattle.lines.specs.declared.play_script.Item.TheVariants.{Load}

-- whether rows were added, changed or removed
abbrev pub is_changed : Answer → Bool
is_changed (Changed count) = true
is_changed _ = false

-- the relations of a schema, with no row, beside others
abbrev pub emptied : List RelationSchema → Relations → Relations
emptied [] whole = whole
emptied (relation ∷ relations) whole = emptied relations (finite.insert whole relation.name [])

-- the text is that of an INSERT of a new row, which leads from one whole database to the other
pub record Loads (schema : List RelationSchema) (text : List ℕ) (before after : Relations) : Type 0 where
  pub insert : Insert
  pub read : IsTextOf schema text (Run (statement.Insert insert))
  pub added : meaning (statement.Insert insert) before ≡ (Changed 1, after)

-- the text is that of no INSERT, or its row's key is there
abbrev pub LoadsNothing : List RelationSchema → List ℕ → Relations → Type 0
LoadsNothing schema text before =
    (insert : Insert) → IsTextOf schema text (Run (statement.Insert insert)) → (meaning (statement.Insert insert) before).0 ≡ Exists

-- the same of an item: one that loads nothing leaves the database as it is, and always may
abbrev pub LoadsItem : List RelationSchema → Item → Relations → Relations → Type 0
LoadsItem schema (Load text) before after = Loads schema text before after
LoadsItem schema _ before after = after ≡ before

abbrev pub FailsItem : List RelationSchema → Item → Relations → Type 0
FailsItem schema (Load text) before = LoadsNothing schema text before
FailsItem schema _ before = ⊥

-- items, one after another
abbrev pub LoadsAll : List RelationSchema → List Placed → Relations → Relations → Type 0
LoadsAll schema [] before after = after ≡ before
LoadsAll schema (placed ∷ rest) before after = (middle : Relations) × LoadsItem schema placed.item before middle × LoadsAll schema rest middle after

-- the first item that fails is on this line
pub record StopsAt (schema : List RelationSchema) (items : List Placed) (before : Relations) (line : ℕ) : Type 0 where
  pub past : List Placed
  pub here : Placed
  pub rest : List Placed
  pub of : items ≡ past ++ here ∷ rest
  pub middle : Relations
  pub loaded : LoadsAll schema past before middle
  pub fails : FailsItem schema here.item middle
  pub numbered : here.line ≡ line

-- Why a script is malformed: what it loads fails at this line, or all that can be read is loaded and this is the first line
-- that can't stand where it does.
abbrev pub IsMalformedAt : List RelationSchema → List Placed × Option ℕ → ℕ → Type 0
IsMalformedAt schema read line =
    StopsAt schema read.0 (emptied schema finite.empty) line ⊎ (((whole : Relations) × LoadsAll schema read.0 (emptied schema finite.empty) whole) × (read.1 ≡ Some line))

-- all of a script can be read, and it loads this whole database
pub record IsLoaded (schema : List RelationSchema) (read : List Placed × Option ℕ) (whole : Relations) : Type 0 where
  pub readable : read.1 ≡ None
  pub loaded : LoadsAll schema read.0 (emptied schema finite.empty) whole
