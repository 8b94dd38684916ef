-- How the code decides whether what clients were told stands in the coordinator's history: entry by entry, with each transaction's last call.
use Rattle.std.specs.Prelude.{◌≡◌, ℕ, List, Option, Some, None}
use Rattle.std.specs.Borrow.{Bor}
use Rattle.std.specs.BTreeMap.{BTreeMap, get}
use Rattle.std.specs.Option.{option_copied}
use Rattle.std.specs.Ordering.{nat_cmp}
use Rattle.meaning.specs.declared.schema.RelationSchema.{RelationSchema}
use Rattle.reader.specs.declared.command.Command.{Command}
use Rattle.reader.specs.Command.{IsTextOf}
use Rattle.store.specs.declared.name.Txn.{Txn}
use Rattle.store.specs.Name.{txn_cmp}
use Rattle.protocol.specs.Parts.{In}
use Rattle.desk.specs.declared.reply.Notice.{Notice}
use Rattle.world.specs.declared.event.Call as calls
use Rattle.history.specs.declared.entry.Entry.{Entry}
use Rattle.history.specs.declared.merge.Unmerged as unmerged
use Rattle.history.specs.declared.merge.Unmerged.TheVariants as unmerged_why
use Rattle.history.specs.declared.told.NotStanding as standing
use Rattle.history.specs.declared.told.NotStanding.TheVariants as standing_why
use Rattle.history.specs.declared.told.Told.{Told}
use Rattle.history.specs.Merge.{Act, of_cell}
use Rattle.history.specs.Told.{IsAskedFor}

-- a text's command, if it has one
abbrev pub IsCommandIn : List RelationSchema → List ℕ → Option Command → Type 0
IsCommandIn schema text None = (command : Command) → IsTextOf schema text command → ⊥
IsCommandIn schema text (Some command) = IsTextOf schema text command

-- the last call of a transaction's client, as far as a map has it
abbrev pub known_call : BTreeMap Txn (Bor calls.Call) → Txn → Option calls.Call
known_call last txn = option_copied (get txn_cmp last txn)

-- what was told under a number and isn't found yet
abbrev pub told_under : BTreeMap ℕ (Bor Told) → ℕ → Option Told
told_under waiting k = option_copied (get nat_cmp waiting k)

module _ (schema : List RelationSchema) (known : Txn → Option calls.Call) (told : Told) where
  -- it is the reply to a call of the notice's transaction
  pub record IsHeardIn (notice : Notice) : Type 0 where
    pub reply : notice.reply ≡ told.reply
    pub call : calls.Call
    pub last : known notice.txn ≡ Some call
    pub asked : IsAskedFor schema told.text call

  -- it is one of these
  pub record IsAmong (notices : List Notice) : Type 0 where
    pub notice : Notice
    pub there : In notice notices
    pub heard : IsHeardIn notice

-- what was told under an entry's number, and isn't found yet, is one of the entry's replies
pub record IsFoundIn (schema : List RelationSchema) (known : Txn → Option calls.Call) (under : ℕ → Option Told) (entry : Entry) : Type 0 where
  pub told : Told
  pub waits : under entry.number ≡ Some told
  pub among : IsAmong schema known told entry.replies

-- each that was told waits under its number, and no other
pub record AreUnder (under : ℕ → Option Told) (acts : List (Act Told)) : Type 0 where
  pub each : (act : Act Told) → In act acts → under act.entry.number ≡ Some act.entry
  pub known : (k : ℕ) (told : Told) → under k ≡ Some told → (told.number ≡ k) × ((c : ℕ) × In told (of_cell c acts))

-- why what was told isn't found, where the numbers are out of order
abbrev pub untold : unmerged.Unmerged → standing.NotStanding
untold unmerged_why.Memory = standing_why.Memory
untold (unmerged_why.OutOfOrder k) = standing_why.NotTold k
