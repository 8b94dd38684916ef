-- The texts of a transaction, entry by entry.
use Rattle.std.proofs.Common.{◌≡◌, refl, ℕ, Bool, true, false, List, [], ◌∷◌, ◌++◌, Option, Some, None, if◌then◌else◌}
use Rattle.std.specs.List.{flat_map}
use Rattle.store.specs.declared.name.Txn.{Txn}
use Rattle.protocol.specs.Language.{same}
use Rattle.protocol.specs.Letters.{txn_name}
use Rattle.desk.specs.declared.reply.Notice.{Notice}
use Rattle.world.specs.declared.event.Call.TheVariants as call
use Rattle.world.specs.declared.event.Entry.{Entry}
use Rattle.world.specs.declared.event.Event as events
use Rattle.world.specs.declared.event.Event.TheVariants as event
use Rattle.world.specs.Replies.{is_txn, own_text, text_by, text_if, texts_of}

-- one text, or none
abbrev pub one_or_none : Option (List ℕ) → List (List ℕ)
one_or_none None = []
one_or_none (Some text) = text ∷ []

abbrev texts_among : List (Txn × List ℕ) → Txn → List (List ℕ)
texts_among texts txn = flat_map (λ text. if same (txn_name text.0) (txn_name txn) then text.1 ∷ [] else []) texts

by_bool : (b : Bool) (text : List ℕ) (rest : List (List ℕ)) → (if b then text ∷ [] else []) ++ rest ≡ one_or_none (if b then Some text else None) ++ rest
by_bool true text rest = refl
by_bool false text rest = refl

by_event : (what : events.Event) (heard : List Notice) (txn : Txn) (rest : List (Txn × List ℕ)) → texts_among (text_by what heard ++ rest) txn ≡ one_or_none (text_if what heard txn) ++ texts_among rest txn
by_event (event.Call call.Begin) heard txn rest = refl
by_event (event.Call (call.State of text)) heard txn rest = by_bool (is_txn of txn) text (texts_among rest txn)
by_event (event.Call (call.Commit of)) heard txn rest = refl
by_event (event.Call (call.Rollback of)) heard txn rest = refl
by_event (event.Call (call.GiveUp of)) heard txn rest = refl
by_event (event.Call (call.Refragment text)) [] txn rest = refl
by_event (event.Call (call.Refragment text)) (first ∷ heard) txn rest = by_bool (is_txn first.txn txn) text (texts_among rest txn)
by_event (event.Deliver number kept) heard txn rest = refl
by_event (event.SiteGivesUp site ticket) heard txn rest = refl
by_event (event.SiteInquires site) heard txn rest = refl
by_event (event.SiteRestarts site kept) heard txn rest = refl
by_event (event.DeskRestarts kept) heard txn rest = refl

pub texts_next : (entry : Entry) (entries : List Entry) (txn : Txn) → texts_of (entry ∷ entries) txn ≡ one_or_none (own_text entry txn) ++ texts_of entries txn
texts_next entry entries txn = by_event entry.event entry.out.replies txn (flat_map (λ (e : Entry). text_by e.event e.out.replies) entries)
