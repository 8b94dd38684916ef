-- Why `threads::take_seats` may give its seats to threads.
use denote.Exit.{no}
use denote.RattleType.{RattleType}
use denote.Ref.{NamedLft}
use denote.Param.{param}
use denote.Param.Send.{IsSend, IsSync, sendable, arg_send, param_send}
use denote.Param.SendFields.{declared_send}
use Rattle.std.proofs.Crossing
use Rattle.store.specs.declared.desk_store.DeskStore
use Rattle.wire.proofs.Sent.{session_send}
use Rattle.thread_tests.specs.contracts.threads.Seat as seat
use Rattle.thread_tests.proofs.threads.take_seats.Goals as goal

seat_send : (s : NamedLft) (D G : RattleType) (store : DeskStore.Ghosts D.Denot) → IsSend D → IsSend G → IsSync G → IsSend (seat.the_row s D G store)
seat_send s D G store d g asked =
    let own = session_send s D G store d g asked in
    declared_send (seat.the_type s D G store) (search (own, sendable) depth 20, (search (Crossing.crosses, sendable) depth 60 fits 20000, tt))

pub map_vec-requires-send-J : goal.map_vec-requires-send-J
map_vec-requires-send-J g c κs within =
    let d : IsSend (param 1 g.row.D) = c.type_bounds.send-D in
    let gate : IsSend (param 2 g.row.G) = c.type_bounds.send-G in
    let asked : IsSync (param 2 g.row.G) = c.type_bounds.sync-G in
    param_send 1 _ (arg_send _ no _ (seat_send _ (param 1 g.row.D) (param 2 g.row.G) g.D.DeskStore d gate asked))
