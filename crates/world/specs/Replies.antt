-- What the entries of a world tell: what clients asked for, and what they heard.
use Rattle.std.specs.Prelude.{◌≡◌, ℕ, ◌&&◌, Bool, false, List, [], ◌∷◌, map, Option, Some, None, if◌then◌else◌}
use Rattle.std.specs.List.{AllZip, filter, filter_map, flat_map, list_any}
use Rattle.meaning.specs.declared.answer.Answer.{Answer}
use Rattle.meaning.specs.declared.statement.Statement.{Statement}
use Rattle.reader.specs.declared.command.Command.TheVariants as command
use Rattle.reader.specs.Command.{IsTextOf}
use Rattle.store.specs.declared.name.Txn.{Txn}
use Rattle.protocol.specs.Desk as protocol
use Rattle.protocol.specs.Language.{Name, same}
use Rattle.protocol.specs.Letters.{txn_name}
use Rattle.protocol.specs.Accepted.{stated_of}
use Rattle.protocol.specs.Serial.{phases_of}
use Rattle.desk.specs.declared.reply.Notice.{Notice}
pub use Rattle.desk.specs.Reply.{answer_of, is_commit}
use Rattle.desk.specs.Database.{Database, language}
use Rattle.desk.specs.State.{notice_of}
use Rattle.desk.specs.Transition.{told}
use Rattle.world.specs.declared.event.Call.TheVariants as call
use Rattle.world.specs.declared.event.Entry.{Entry}
use Rattle.world.specs.declared.event.Event as events
use Rattle.world.specs.declared.event.Event.TheVariants as event

-- what clients heard, oldest first
abbrev pub notices_in : List Entry → List Notice
notices_in entries = flat_map (λ entry. entry.out.replies) entries

-- the transaction whose first phase an event begins: its client asks for the commit
abbrev pub phased_by : events.Event → List Txn
phased_by (event.Call (call.Commit txn)) = txn ∷ []
phased_by other = []

-- the transactions whose commit was asked for, in this order
abbrev pub phased_in : List Entry → List Txn
phased_in entries = flat_map (λ entry. phased_by entry.event) entries

-- the statement of a transaction that an event brings, by its text; a REFRAGMENT is that of the transaction that begins with it, which the first reply names. heard: what clients heard
abbrev pub text_by : events.Event → List Notice → List (Txn × List ℕ)
text_by (event.Call (call.State txn text)) heard = (txn, text) ∷ []
text_by (event.Call (call.Refragment text)) (first ∷ heard) = (first.txn, text) ∷ []
text_by other heard = []

-- the statements, by their texts, oldest first
abbrev pub texts_in : List Entry → List (Txn × List ℕ)
texts_in entries = flat_map (λ entry. text_by entry.event entry.out.replies) entries

-- whether it is this transaction
abbrev pub is_txn : Txn → Txn → Bool
is_txn one other = same (txn_name one) (txn_name other)

-- whether a transaction's client heard that it is committed
abbrev pub is_told_committed : List Entry → Txn → Bool
is_told_committed entries txn = list_any (λ notice. is_txn notice.txn txn && is_commit notice.reply) (notices_in entries)

-- the committed transactions, in the order in which their commits were asked for
abbrev pub committed_in : List Entry → List Txn
committed_in entries = filter (λ txn. list_any (λ notice. same (txn_name notice.txn) (txn_name txn) && is_commit notice.reply) (notices_in entries)) (flat_map (λ entry. phased_by entry.event) entries)

-- whether the first of these replies is one to this transaction's client
abbrev pub is_begun_by : List Notice → Txn → Bool
is_begun_by [] txn = false
is_begun_by (first ∷ heard) txn = is_txn first.txn txn

-- the text of this transaction that an entry brings, if it brings one
abbrev pub text_if : events.Event → List Notice → Txn → Option (List ℕ)
text_if (event.Call (call.State of text)) heard txn = if is_txn of txn then Some text else None
text_if (event.Call (call.Refragment text)) heard txn = if is_begun_by heard txn then Some text else None
text_if other heard txn = None

abbrev pub own_text : Entry → Txn → Option (List ℕ)
own_text entry txn = text_if entry.event entry.out.replies txn

-- the answers that a transaction's client heard
abbrev pub answers_to : List Entry → Txn → List Answer
answers_to entries txn = flat_map (λ notice. if same (txn_name notice.txn) (txn_name txn) then answer_of notice.reply else []) (notices_in entries)

-- the texts of a transaction's statements
abbrev pub texts_of : List Entry → Txn → List (List ℕ)
texts_of entries txn = flat_map (λ text. if same (txn_name text.0) (txn_name txn) then text.1 ∷ [] else []) (flat_map (λ entry. text_by entry.event entry.out.replies) entries)

-- texts of transactions are those of statements, one by one
abbrev pub AreStated : (db : Database) → List (Txn × List ℕ) → List (Name × (ℕ × Statement)) → Type 0
AreStated db texts statements = AllZip (λ (text : Txn × List ℕ) (stated : Name × (ℕ × Statement)). (txn_name text.0 ≡ stated.0) × IsTextOf db.schemas text.1 (command.Run stated.1.1)) texts statements

-- the deeds that an event did: the first phase and the statement that it brings, and no others. heard: what clients heard
pub record Shows (db : Database) (what : events.Event) (heard : List Notice) (deeds : List (protocol.Deed (language db))) : Type 0 where
  pub phased : map txn_name (phased_by what) ≡ phases_of deeds
  pub stated : AreStated db (text_by what heard) (stated_of deeds)

-- entries tell what happened to transactions: their first phases, their statements, and what their clients heard
pub record Tells (db : Database) (entries : List Entry) (past : List (protocol.Deed (language db))) : Type 0 where
  pub phased : map txn_name (flat_map (λ entry. phased_by entry.event) entries) ≡ phases_of past
  pub stated : AllZip (λ (text : Txn × List ℕ) (stated : Name × (ℕ × Statement)). (txn_name text.0 ≡ stated.0) × IsTextOf db.schemas text.1 (command.Run stated.1.1)) (flat_map (λ entry. text_by entry.event entry.out.replies) entries) (stated_of past)
  pub heard : map notice_of (notices_in entries) ≡ filter_map (told db) past
