-- Replies that are handed out are an entry's.
use Rattle.std.proofs.Common.{◌≡◌, ◌<◌, ◌++◌, ◌∙◌, ℕ, Some, List, [], ◌∷◌, All, IfOk, IfSome, OnErr, Result, Ok, Err, length, get_or, sym, ap, inl, inr}
use Rattle.std.proofs.lemmas.List.Elements.{All-push}
use Rattle.std.proofs.lemmas.Option.{slice_get-get_or}
use Rattle.desk.specs.declared.reply.Notice.{Notice}
use Rattle.terms.specs.declared.memory.Memory.{Memory}
use Rattle.store.specs.declared.name.Txn.{Txn}
use Rattle.store.specs.DeskContent.{DeskContent}
use Rattle.protocol.specs.Parts.{In}
use Rattle.world.specs.declared.event.Call.TheVariants as call
use Rattle.protocol.proofs.Basics.{in_at}
use Rattle.history.specs.declared.entry.Entry.{Entry}
use Rattle.history.specs.declared.entry.Input.TheVariants as input
use Rattle.history.specs.DeskHistory.{DeskHistory, StaysDesk}
use Rattle.wire.specs.declared.front.Put.{Put}
use Rattle.wire.specs.declared.seat.Given.{Given}
use Rattle.wire.specs.Front.{IsCalled, IsGivenUp, IsOf}

-- what stands at a place is among them
pub is_among : (notices : List Notice) (i : ℕ) (notice : Notice) → i < length notices → notice ≡ get_or notices i notice → In notice notices
is_among notices i notice within at = in_at notices i notice (slice_get-get_or notices i notice within ∙ ap Some (sym at))

-- a copy behind others
pub copy_more : (entry : Entry) (notice : Notice) (given : List Given) (copy : Given) → In notice entry.replies → copy.number ≡ entry.number → copy.txn ≡ notice.txn → IfSome copy.reply (λ reply. reply ≡ notice.reply) → All (IsOf entry) given → All (IsOf entry) (given ++ copy ∷ [])
copy_more entry notice given copy there number txn reply others = All-push (IsOf entry) given copy others (record { number = number; notice = notice; there = there; txn = txn; reply = reply })

-- a call that gives a transaction up has done so, or there was no memory for it
pub gives_up : {D : Type 0} (is_clean : D → Type 0) (content : D → DeskContent) (txn : Txn) (old new : DeskHistory D) (given : List Given) (result : Result Put Memory)
    → IfOk result (λ put. IsCalled is_clean content (input.Call (call.GiveUp txn)) put.fault old new given) → OnErr result (StaysDesk is_clean content old new) → OnErr result (given ≡ []) → IsGivenUp is_clean content old new given
gives_up is_clean content txn old new given (Ok put) called stays none = inr (txn, put.fault, called)
gives_up is_clean content txn old new given (Err memory) called stays none = inl (none, stays)
