-- What threads may share or hand over, where the stores and the gate may.
use denote.Ref.{NamedLft}
use denote.RattleType.{RattleType}
use mathlib.Core.List.{List, [], ◌∷◌}
use Prim.Native.Nat.{ℕ}
use denote.Struct.Field.{row_field}
use denote.Struct.Tuple.{TupleAt, type_at}
use denote.Param.Send.{IsSend, IsSync, sendable, struct_send, view_send}
use denote.Param.SendFields.{as_row_send, declared_send, declared_sync}
use denote.Struct.Declared.{shape}
use Rattle.std.proofs.Crossing
use Rattle.catalog.proofs.fragment_leaf.FragmentLeaf.TheSendSync as leaf
use Rattle.catalog.proofs.split.Split.TheLaws.TheKnot as knot
use Rattle.meaning.proofs.schema.Column.TheSendSync as column
use Rattle.meaning.proofs.schema.Schema.TheSendSync as schema
use Rattle.terms.proofs.cond.Conds.TheSendSync as conds
use Rattle.terms.proofs.seq.Seq.TheSendSync as seq
use Rattle.terms.proofs.text.Text.TheSendSync as text
use Rattle.desk.proofs.volatile.Volatile.TheSendSync as volatile
use Rattle.desk.specs.contracts.desk.Desk as desk
use Rattle.store.proofs.commit.DeskKept.TheSendSync as kept
use Rattle.store.proofs.name.Txn.TheSendSync as txn
use Rattle.store.specs.contracts.commit.DeskKept as kept_row
use Rattle.store.specs.declared.desk_store.DeskStore
use Rattle.history.proofs.entry.Entry.TheSendSync as entry
use Rattle.history.specs.contracts.desk_cell.DeskCell as cell
use Rattle.history.specs.contracts.desk_cell.DeskCell.TheInside as inside
use Rattle.std.proofs.sync.Mutex.TheSendSync as mutex
use Rattle.terms.proofs.leaf.Leaf.TheSendSync as leaf_name
use Rattle.site.proofs.volatile.Volatile.TheSendSync as site_volatile
use Rattle.site.specs.contracts.site.Site as site
use Rattle.store.proofs.prepared.SiteKept.TheSendSync as site_kept
use Rattle.store.specs.contracts.prepared.SiteKept as site_kept_row
use Rattle.store.specs.declared.site_store.SiteStore
use Rattle.history.specs.contracts.site_cell.SiteCell as site_cell
use Rattle.history.specs.contracts.site_cell.SiteCell.TheInside as site_inside
use Rattle.history.proofs.told.Told.TheSendSync as told
use Rattle.crossbeam_channel.proofs.channel.Receiver.TheSendSync as receiver
use Rattle.crossbeam_channel.proofs.channel.Sender.TheSendSync as sender
use Rattle.wire.proofs.front.Way.TheSendSync as way
use Rattle.wire.proofs.seat.Given.TheSendSync as given
use Rattle.wire.specs.contracts.session.Session as session
use Rattle.wire.specs.contracts.session.Session.TheInside as session_inside
use Rattle.wire.specs.contracts.talk.Talk as talk
use Rattle.wire.proofs.seat.Seats.TheSendSync as seats
use Rattle.wire.specs.contracts.front.Front as front
use Rattle.wire.specs.contracts.shared.Shared as shared

-- the coordinator
desk_send : (D : RattleType) → IsSend D → IsSend (desk.the_field D).row
desk_send D s = struct_send (shape (desk.the_type D)) (
  s,
  (
    search (Crossing.crosses, knot.crosses, leaf.the_send, schema.the_field_send, text.the_send, conds.the_send, column.the_send, seq.the_send, sendable) depth 60 fits 20000,
    (
      search (Crossing.crosses, knot.crosses, leaf.the_send, schema.the_field_send, text.the_send, conds.the_send, column.the_send, seq.the_send, sendable) depth 60 fits 20000,
      (volatile.the_field_send, tt),
    ),
  ),
)

-- its cell
pub desk_cell_send : (D : RattleType) (store : DeskStore.Ghosts D.Denot) → IsSend D → IsSend (cell.the_row D store)
desk_cell_send D store s =
    let fields : IsSend (inside.the_row D store) = declared_send (inside.the_type D store) (
      search sendable,
      (
        search (Crossing.crosses, knot.crosses, leaf.the_send, schema.the_field_send, text.the_send, conds.the_send, column.the_send, seq.the_send, sendable) depth 60 fits 20000,
        (
          as_row_send kept_row.the_field kept.the_field_send,
          (
            search (Crossing.crosses, entry.the_send, sendable) depth 60 fits 20000,
            (as_row_send (desk.the_field D) (desk_send D s), tt),
          ),
        ),
      ),
    ) in
    view_send _ _ _ _ _ fields

-- what lies under its lock
front_send : (D : RattleType) (store : DeskStore.Ghosts D.Denot) → IsSend D → IsSend (front.the_row D store)
front_send D store s =
    let own = desk_cell_send D store s in
    declared_send (front.the_type D store) (search (own, sendable) depth 20, (search (Crossing.crosses, way.the_send, sendable) depth 20, (search (Crossing.crosses, txn.the_send, sendable) depth 20, tt)))

-- what threads share
pub shared_send : (D G : RattleType) (store : DeskStore.Ghosts D.Denot) → IsSend D → IsSend G → IsSend (shared.the_row D G store)
shared_send D G store d g =
    let lock = front_send D store d in
    declared_send (shared.the_type D G store) (search sendable, (search (schema.the_field_send, sendable), (search (mutex.the_send, lock, sendable) depth 20, (search (mutex.the_send, seats.the_send, sendable) depth 20, (search (Crossing.crosses, sendable) depth 20, (search (Crossing.crosses, sendable) depth 20, (search (g, sendable), tt)))))))

pub shared_sync : (D G : RattleType) (store : DeskStore.Ghosts D.Denot) → IsSend D → IsSync G → IsSync (shared.the_row D G store)
shared_sync D G store d g =
    let lock = front_send D store d in
    declared_sync (shared.the_type D G store) (search (Crossing.sync, sendable) depth 20, (search (schema.the_field_sync, sendable), (search (mutex.the_sync, lock, sendable) depth 20, (search (mutex.the_sync, seats.the_send, sendable) depth 20, (search (Crossing.crosses, sendable) depth 20, (search (Crossing.crosses, sendable) depth 20, (search (g, sendable), tt)))))))

-- a session
pub session_send : (a : NamedLft) (D G : RattleType) (store : DeskStore.Ghosts D.Denot) → IsSend D → IsSend G → IsSync G → IsSend (session.the_row a D G store)
session_send a D G store d g asked =
    let common = shared_sync D G store d asked in
    let own : IsSend (talk.the_row a D G store) = declared_send (talk.the_type a D G store) (
      search (common, sendable) depth 20,
      (
        search (Crossing.crosses, sender.the_send, given.the_send, sendable) depth 60 fits 20000,
        (search (Crossing.crosses, receiver.the_send, given.the_send, sendable) depth 60 fits 20000, (search sendable depth 20, tt)),
      ),
    ) in
    let fields : IsSend (session_inside.the_row a D G store) = declared_send (session_inside.the_type a D G store) (
      search (own, sendable) depth 20,
      (search (Crossing.crosses, told.the_send, sendable) depth 60 fits 20000, tt),
    ) in
    view_send _ _ _ _ _ fields

-- a site
site_send : (S : RattleType) → IsSend S → IsSend (site.the_field S).row
site_send S s = struct_send (shape (site.the_type S)) (s, (site_volatile.the_field_send, tt))

-- its cell
pub site_cell_send : (S : RattleType) (store : SiteStore.Ghosts S.Denot) → IsSend S → IsSend (site_cell.the_row S store)
site_cell_send S store s =
    let fields : IsSend (site_inside.the_row S store) = declared_send (site_inside.the_type S store) (
      search sendable,
      (
        as_row_send site_kept_row.the_field site_kept.the_field_send,
        (
          search (Crossing.crosses, leaf_name.the_send, sendable) depth 60 fits 20000,
          (
            search (Crossing.crosses, entry.the_send, sendable) depth 60 fits 20000,
            (as_row_send (site.the_field S) (site_send S s), tt),
          ),
        ),
      ),
    ) in
    view_send _ _ _ _ _ fields

-- what a closure has taken of four types
pub four_send : (name : List ℕ) (A B C E : RattleType) → IsSend A → IsSend B → IsSend C → IsSend E → IsSend (TupleAt name (A ∷ B ∷ C ∷ E ∷ []))
four_send name A B C E a b c e = declared_send (type_at name (A ∷ B ∷ C ∷ E ∷ [])) (as_row_send (row_field A) a, (as_row_send (row_field B) b, (as_row_send (row_field C) c, (as_row_send (row_field E) e, tt))))
