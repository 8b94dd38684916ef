-- A relation gets another split in a transaction of its own.
use Rattle.std.specs.Prelude.{◌≡◌, ◌⊎◌, ⊤, ℕ, suc, Bool, true, false, List, [], ◌∷◌, Option, Some, None, map}
use Rattle.std.specs.List.{filter_map}
use Rattle.meaning.specs.declared.statement.Refragment.{Refragment}
use Rattle.meaning.specs.declared.schema.RelationSchema.{RelationSchema}
use Rattle.meaning.specs.declared.statement.Statement.TheVariants as statements
use Rattle.meaning.specs.Statement.{is_refragment}
use Rattle.reader.specs.declared.command.Command.{Command}
use Rattle.reader.specs.declared.command.Command.TheVariants as command
use Rattle.reader.specs.declared.fault.Rule.TheVariants as rules
use Rattle.reader.specs.Breaks.{TextBreaks}
use Rattle.reader.specs.Command.{IsTextOf}
use Rattle.reader.specs.Fault.{Fault}
use Rattle.catalog.specs.declared.relation.SplitRelation.{SplitRelation}
use Rattle.catalog.specs.Catalogue.{Catalogue}
use Rattle.catalog.specs.Chain.{IsNext}
use Rattle.catalog.specs.Relation.{catalogue_of}
use Rattle.store.specs.DeskContent.{DeskContent}
use Rattle.store.specs.declared.letter.Letter.{Letter}
use Rattle.protocol.specs.Desk as protocol
use Rattle.protocol.specs.Serial.{AllExplained}
use Rattle.desk.specs.declared.refusal.Refusal as refusals
use Rattle.desk.specs.declared.refusal.Refusal.TheVariants as refusal
use Rattle.desk.specs.declared.reply.Notice.{Notice}
use Rattle.desk.specs.Database.{Database, language, sent}
use Rattle.desk.specs.Does.{ArePlaced}
use Rattle.desk.specs.State.{Fits, VolatileState, desk_of, notice_of}
use Rattle.desk.specs.Transition.{told}

-- no catalogue comes next, or the one that does is no next one by this relation
abbrev pub IsNoNext : Catalogue → Option (List (List ℕ) × List SplitRelation) → List ℕ → Type 0
IsNoNext catalogue None relation = ⊤
IsNoNext catalogue (Some next) relation = IsNext catalogue (catalogue_of next) relation → ⊥

-- whether a command is a REFRAGMENT
abbrev pub is_refragment_command : Command → Bool
is_refragment_command (command.Run statement) = is_refragment statement
is_refragment_command other = false

-- a text that is no REFRAGMENT's: as the reader tells it, it breaks a rule and is no command's, or it is another command's
pub record IsNoRefragment (schema : List RelationSchema) (text : List ℕ) (told : refusals.Refusal) : Type 0 where
  pub fault : Fault
  pub is : told ≡ refusal.Read fault
  pub why : (TextBreaks fault.rule schema text × ((given : Command) → IsTextOf schema text given → ⊥))
      ⊎ ((fault ≡ record { rule = rules.Syntax; offset = 0 }) × (given : Command) × IsTextOf schema text given × (is_refragment_command given ≡ false))

-- what the one statement of a new transaction makes of it
abbrev pub first_turn : (db : Database) → VolatileState → Refragment → protocol.Choice (language db) → protocol.Transition (language db)
first_turn db before refragment choice = protocol.on_state (protocol.next_txn (desk_of db before)) (protocol.fresh_as true) (before.version, statements.Refragment refragment) choice protocol.Idle

-- the coordinator after it
abbrev pub desk_moved : (db : Database) → VolatileState → protocol.Transition (language db) → protocol.Desk (language db)
desk_moved db before turn = protocol.desk_after (protocol.began_as true (desk_of db before)) (protocol.next_txn (desk_of db before)) turn.txn

-- a transaction begins and states its one statement: the state after both is the protocol's, and so are the letters and the replies
pub record Refragments (db : Database) (before : VolatileState) (kept : DeskContent) (after : VolatileState) (refragment : Refragment) (written : List Letter) (heard : List Notice) : Type 0 where
  pub alone : before.txns ≡ []
  pub next : IsNext (db.catalogue before.version) (db.catalogue (suc before.version)) refragment.relation.name
  pub choice : protocol.Choice (language db)
  pub fits : Fits db kept after
  pub within : protocol.is_desk_within (desk_of db after) ≡ true
  pub begun : protocol.is_desk_within (protocol.began_as true (desk_of db before)) ≡ true
  pub state : desk_of db after ≡ desk_moved db before (first_turn db before refragment choice)
  pub version : after.version ≡ before.version
  pub letters : map (sent db) written ≡ (first_turn db before refragment choice).letters
  pub replies : map notice_of heard ≡ filter_map (told db) (protocol.Began (protocol.next_txn (desk_of db before)) ∷ (first_turn db before refragment choice).deeds)
  pub explained : AllExplained (first_turn db before refragment choice).deeds
  pub placed : ArePlaced db choice.1

-- so by its text
pub record RefragmentsBy (db : Database) (before : VolatileState) (kept : DeskContent) (after : VolatileState) (text : List ℕ) (written : List Letter) (heard : List Notice) : Type 0 where
  pub refragment : Refragment
  pub spelled : IsTextOf db.schemas text (command.Run (statements.Refragment refragment))
  pub does : Refragments db before kept after refragment written heard

-- a text is a REFRAGMENT of a relation that the next catalogue, if there is one, doesn't split otherwise
pub record FindsNoNext (catalogue : Catalogue) (schema : List RelationSchema) (next : Option (List (List ℕ) × List SplitRelation)) (text : List ℕ) : Type 0 where
  pub refragment : Refragment
  pub spelled : IsTextOf schema text (command.Run (statements.Refragment refragment))
  pub none : IsNoNext catalogue next refragment.relation.name
