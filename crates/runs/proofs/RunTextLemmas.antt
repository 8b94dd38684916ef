-- Lemmas on what is printed of sessions at once.
use Rattle.std.proofs.Common.{◌≡◌, ◌≢◌, ◌++◌, codes, refl}
use Rattle.std.specs.Fmt.{decimal}
use Rattle.reader.specs.Fault.{Fault}
use Rattle.desk.specs.declared.reply.Why.{Why}
use Rattle.wire.specs.declared.fault.CallFault.{CallFault}
use Rattle.wire.specs.declared.fault.CallFault.TheVariants as call
use Rattle.wire.specs.Fault.{call_name}
use Rattle.runs.specs.RunText.{denied_text, told_number}

-- a fault that is no abort and not the reader's is told by its number and name
pub denied_text-other : (denied : CallFault) → ((why : Why) → denied ≢ call.Aborted why) → ((fault : Fault) → denied ≢ call.Read fault) → denied_text denied ≡ codes "refused " ++ decimal (told_number denied) ++ codes " " ++ call_name denied
denied_text-other call.NoTransaction not_aborted not_read = refl
denied_text-other call.Busy not_aborted not_read = refl
denied_text-other call.Ended not_aborted not_read = refl
denied_text-other call.Full not_aborted not_read = refl
denied_text-other (call.Read fault) not_aborted not_read = absurd (not_read fault refl)
denied_text-other (call.Aborted why) not_aborted not_read = absurd (not_aborted why refl)
denied_text-other call.Memory not_aborted not_read = refl
denied_text-other (call.Store fault) not_aborted not_read = refl
denied_text-other call.Closed not_aborted not_read = refl
denied_text-other call.NotAlone not_aborted not_read = refl
denied_text-other call.NoNext not_aborted not_read = refl
denied_text-other call.Chain not_aborted not_read = refl
