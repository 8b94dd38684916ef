-- Whether what a client was told is one of some notices, and whether a text asks for a command.
use Rattle.std.proofs.Common.{◌≡◌, ◌⊎◌, ◌∷◌, ◌∙◌, ◌<◌, ◌+◌, ℕ, List, Bool, Option, Some, Decides, length, get_or, drop, sym, ap, subst, inl, inr}
use Rattle.std.proofs.lemmas.List.{drop_more}
use Rattle.std.proofs.lemmas.Option.{slice_get-get_or}
use Rattle.meaning.specs.declared.schema.RelationSchema.{RelationSchema}
use Rattle.reader.specs.declared.command.Command.{Command}
use Rattle.reader.specs.Command.{IsTextOf}
use Rattle.reader.proofs.Unique.{unique}
use Rattle.store.specs.declared.name.Txn.{Txn}
use Rattle.protocol.specs.Parts.{In}
use Rattle.protocol.proofs.Basics.{in_at}
use Rattle.desk.specs.declared.reply.Notice.{Notice}
use Rattle.world.specs.declared.event.Call as calls
use Rattle.history.specs.declared.told.Told.{Told}
use Rattle.history.specs.Standing.{IsAmong, IsHeardIn}

-- a text of one command is one of another where these are the same
pub text_of : (schema : List RelationSchema) (text : List ℕ) (command wanted : Command) (is : Bool) → IsTextOf schema text command → Decides is (command ≡ wanted) → Decides is (IsTextOf schema text wanted)
text_of schema text command wanted is so same = (λ e. subst (IsTextOf schema text) (same.0 e) so, λ other. same.1 (unique schema text command wanted so other))

module _ (schema : List RelationSchema) (known : Txn → Option calls.Call) (told : Told) where
  -- a notice that isn't it stands aside
  pub among_rest : (notices : List Notice) (i : ℕ) (notice : Notice) → i < length notices → notice ≡ get_or notices i notice → (IsHeardIn schema known told notice → ⊥) → IsAmong schema known told (drop i notices) → IsAmong schema known told (drop (i + 1) notices)
  among_rest notices i notice h at not so =
      let here : drop i notices ≡ notice ∷ drop (i + 1) notices = drop_more notices i notice h ∙ ap (λ first. first ∷ drop (i + 1) notices) (sym at) in
      let there : (so.notice ≡ notice) ⊎ In so.notice (drop (i + 1) notices) = subst (In so.notice) here so.there in
      elim there [ inl same ↦ absurd (not (subst (IsHeardIn schema known told) same so.heard)) | inr later ↦ record { notice = so.notice; there = later; heard = so.heard } ]

  -- it is among them where it is the one at a place
  pub among_at : (notices : List Notice) (i : ℕ) (notice : Notice) → i < length notices → notice ≡ get_or notices i notice → IsHeardIn schema known told notice → IsAmong schema known told notices
  among_at notices i notice h at heard = record { notice = notice; there = in_at notices i notice (slice_get-get_or notices i notice h ∙ ap Some (sym at)); heard = heard }
