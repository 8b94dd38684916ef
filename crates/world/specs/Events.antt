-- The events of a world as the protocol's.
use Rattle.std.specs.Prelude.{◌≡◌, ℕ, Bool, true, false, not, List, slice_get}
use Rattle.std.specs.Option.{option_map_or}
use Rattle.meaning.specs.declared.statement.Refragment.{Refragment}
use Rattle.meaning.specs.declared.statement.Statement.{Statement}
use Rattle.meaning.specs.declared.statement.Statement.TheVariants as statements
use Rattle.reader.specs.declared.command.Command.TheVariants as command
use Rattle.reader.specs.Command.{IsTextOf}
use Rattle.protocol.specs.Desk as protocol
use Rattle.protocol.specs.Letters.{name_of, txn_name}
use Rattle.protocol.specs.World as world
use Rattle.desk.specs.Database.{Database, language}
use Rattle.world.specs.declared.event.Call.TheVariants as call
use Rattle.world.specs.declared.event.Entry.{Entry}
use Rattle.world.specs.declared.event.Event as events
use Rattle.world.specs.declared.event.Event.TheVariants as event
use Rattle.world.specs.Posted.{letters_in}
use Rattle.world.specs.Sites.{has_site}

-- an event; a statement's text is that of the statement, and it is for the catalogue in force. n: the number of that; kept: whether the store did not refuse
abbrev pub IsEvent : (db : Database) → ℕ → events.Event → Bool → world.Event (language db) → Type 0
IsEvent db n (event.Call call.Begin) kept e = e ≡ world.Begin
IsEvent db n (event.Call (call.State txn text)) kept e = (statement : Statement) × (choice : protocol.Choice (language db)) × (IsTextOf db.schemas text (command.Run statement) × (e ≡ world.Call (txn_name txn) (protocol.State (n, statement)) choice))
IsEvent db n (event.Call (call.Commit txn)) kept e = (choice : protocol.Choice (language db)) × (e ≡ world.Call (txn_name txn) protocol.Commit_call choice)
IsEvent db n (event.Call (call.Rollback txn)) kept e = (choice : protocol.Choice (language db)) × (e ≡ world.Call (txn_name txn) protocol.Rollback choice)
IsEvent db n (event.Call (call.GiveUp txn)) kept e = (choice : protocol.Choice (language db)) × (e ≡ world.Call (txn_name txn) protocol.Give_up choice)
IsEvent db n (event.Call (call.Refragment text)) kept e = (refragment : Refragment) × (choice : protocol.Choice (language db)) × (IsTextOf db.schemas text (command.Run (statements.Refragment refragment)) × (e ≡ world.Refragment (n, statements.Refragment refragment) choice))
IsEvent db n (event.Deliver number whether) kept e = (choice : protocol.Choice (language db)) × (e ≡ world.Deliver number kept choice)
IsEvent db n (event.SiteGivesUp site ticket) kept e = e ≡ world.Site_gives_up site (name_of ticket)
IsEvent db n (event.SiteInquires site) kept e = e ≡ world.Site_inquires site
IsEvent db n (event.SiteRestarts site whether) kept e = e ≡ world.Site_restarts site whether
IsEvent db n (event.DeskRestarts whether) kept e = e ≡ world.Desk_restarts whether

-- whether an event is of a letter that wasn't sent, or of a site that is none of these
abbrev pub is_unsent : List (List ℕ) → List Entry → events.Event → Bool
is_unsent sites entries (event.Call asked) = false
is_unsent sites entries (event.Deliver number whether) = option_map_or (λ letter. not (has_site sites letter.site)) (slice_get (letters_in entries) number) true
is_unsent sites entries (event.SiteGivesUp site ticket) = not (has_site sites site)
is_unsent sites entries (event.SiteInquires site) = not (has_site sites site)
is_unsent sites entries (event.SiteRestarts site whether) = not (has_site sites site)
is_unsent sites entries (event.DeskRestarts whether) = false
