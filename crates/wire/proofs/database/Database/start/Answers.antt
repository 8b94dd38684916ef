-- Why `start` meets its contract.
use denote.Exit.{no}
use denote.Param.{copied, param}
use denote.Param.Send.{IsSend, IsSync, sendable, arg_send, param_send}
use Rattle.std.proofs.Crossing
use Rattle.std.specs.contracts.alloc.Global as heap
use Rattle.std.specs.contracts.impls.GlobalAllocator.TheImpl.{ghosts}
use Rattle.crossbeam_channel.proofs.channel.Receiver.TheSendSync as receiver
use Rattle.wire.proofs.front.Word.TheSendSync as word
use Rattle.wire.specs.contracts.front.Word as word_row
use Rattle.wire.proofs.Sent.{four_send, shared_send, shared_sync, site_cell_send}
use Rattle.wire.proofs.database.Database.start.Goals as goal

pub spawn-started-requires-send-F : goal.spawn-started-requires-send-F
spawn-started-requires-send-F g c κs within =
    let d : IsSend (param 1 g.row.D) = c.type_bounds.send-D in
    let s : IsSend (param 0 g.row.S) = c.type_bounds.send-S in
    let gate : IsSend (param 2 g.row.G) = c.type_bounds.send-G in
    let asked : IsSync (param 2 g.row.G) = c.type_bounds.sync-G in
    let own = shared_send (param 1 g.row.D) (param 2 g.row.G) g.D.DeskStore d gate in
    let common = shared_sync (param 1 g.row.D) (param 2 g.row.G) g.D.DeskStore d asked in
    let handle : IsSend (copied 3 g.row.R) = search (c.type_bounds.send-R, sendable) in
    let cell = site_cell_send (param 0 g.row.S) g.S.SiteStore s in
    let words = receiver.the_send word_row.the_row heap.the_row ghosts word.the_send Crossing.send Crossing.sync Crossing.frees in
    param_send 1 _ (arg_send _ no _ (four_send _ _ _ _ _ handle (Crossing.Arc-send _ own common) words cell))
