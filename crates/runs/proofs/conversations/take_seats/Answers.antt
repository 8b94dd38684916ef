-- Each conversation is the one of its seat, and seats may go to threads.
use denote.Exit.{no}
use denote.RattleType.{RattleType}
use denote.Ref.{NamedLft}
use denote.Param.{param}
use denote.Param.Send.{IsSend, IsSync, sendable, arg_send, param_send}
use denote.Param.SendFields.{declared_send}
use Rattle.std.proofs.Common.{◌≡◌, arith, length}
use Rattle.std.proofs.Crossing
use Rattle.store.specs.declared.desk_store.DeskStore
use Rattle.wire.proofs.Sent.{session_send}
use Rattle.runs.specs.Conversations.{IsHeld}
use Rattle.lines.specs.RunScript.{part_of}
use Rattle.runs.specs.contracts.conversations.Seat as seat
use Rattle.runs.proofs.RunLemmas.{both_given, zip_each}
use Rattle.runs.proofs.conversations.take_seats.Goals as goal

seat_send : (s p t : NamedLft) (D G : RattleType) (store : DeskStore.Ghosts D.Denot) → IsSend D → IsSend G → IsSync G → IsSend (seat.the_row s p t D G store)
seat_send s p t D G store d g asked =
    let own = session_send s D G store d g asked in
    declared_send (seat.the_type s p t D G store) (search (own, sendable) depth 20, (search (Crossing.crosses, sendable) depth 60 fits 20000, tt))

pub map_vec-requires-send-J : goal.map_vec-requires-send-J
map_vec-requires-send-J g c κs within =
    let d : IsSend (param 1 g.row.D) = c.type_bounds.send-D in
    let gate : IsSend (param 2 g.row.G) = c.type_bounds.send-G in
    let asked : IsSync (param 2 g.row.G) = c.type_bounds.sync-G in
    param_send 1 _ (arg_send _ no _ (seat_send _ _ _ (param 1 g.row.D) (param 2 g.row.G) g.D.DeskStore d gate asked))

pub returns : goal.returns
returns g c = both_given c.map_vec.result c.map_vec.ensures.len c.map_vec.ensures.each (λ held len each.
    let same : length held.items ≡ length c.args.seats.items = omega (arith, len, held.ok, c.args.seats.ok) in
    zip_each IsHeld (λ seat. part_of seat.part.now) c.args.seats.items held.items same (λ i d inside. let job = (each i d inside).1 in (job.job, job.job_is, job.call.met)))
