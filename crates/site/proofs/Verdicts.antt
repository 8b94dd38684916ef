-- What the table says of an operation, by its turn.
use Rattle.std.proofs.Common.{◌≡◌, refl, sym, ap, ◌∙◌, ℕ, suc, ◌==◌, Bool, true, false, List, [], ◌∷◌, Option, Some, None, if◌then◌else◌}
use Rattle.std.specs.Option.{option_map}
use Rattle.std.specs.Ordering.{is_eq}
use Rattle.terms.specs.declared.cond.Cond.{Cond}
use Rattle.terms.specs.declared.leaf.Leaf.{Leaf}
use Rattle.terms.specs.Leaf.{leaf_cmp}
use Rattle.store.specs.declared.name.Ticket.{Ticket}
use Rattle.store.specs.declared.prepared.Prepared.{Prepared as Row}
use Rattle.store.specs.declared.reply.Reason.{Reason}
use Rattle.store.specs.declared.reply.Reason.TheVariants as reasons
use Rattle.store.specs.Content.{changed, parts}
use Rattle.store.specs.SiteContent.{SiteContent}
use Rattle.store.specs.Slot.{slot_of}
use Rattle.std.specs.FinMap as fin
use Rattle.protocol.specs.Language.{put}
use Rattle.protocol.specs.Letter as protocol
use Rattle.protocol.specs.Site.{SiteState, Status, Dead, Active, Prepared, Act, Says, Locks, Ends, on_fetch, on_write}
use Rattle.protocol.specs.Site as acts
use Rattle.site.specs.declared.tickets.TicketState as standings
use Rattle.site.specs.declared.tickets.TicketState.TheVariants as standing
use Rattle.site.specs.declared.tickets.Visit as visits
use Rattle.site.specs.declared.verdict.Verdict.TheVariants.{Pass, Gone, Refuse, Go}
use Rattle.site.specs.declared.verdict.Verdict.{Verdict}
use Rattle.protocol.specs.Letters.{name_of, reason_of}
use Rattle.protocol.specs.Local.{local, AtKey, is_full}
use Rattle.site.specs.Locks.{reads, is_foreign, others_write}
use Rattle.site.specs.State.{VolatileState, Fits, state_of, stands, visiting, is_visit, txn_in}
use Rattle.site.specs.Verdict.{read_verdict, write_verdict}
use Rattle.site.proofs.Listed.{row_none, exclusive_is}

-- the status by what stands there
pub stands_dead : (kept : SiteContent) (table : VolatileState) → Fits kept table → (k : Ticket) → table.standing k ≡ None → stands table k (kept.prepared k) ≡ Dead
stands_dead kept table fits k e = ap (stands table k) (row_none kept table fits k (ap txn_in e)) ∙ ap (visiting table.locks k) e

-- a visit as the protocol has it
abbrev pub visit_of : VolatileState → Ticket → visits.Visit → acts.Visit local
visit_of table k v = record { done = v.done; changes = v.changes; shared = λ g. reads k (table.locks g); foreign = λ g. is_foreign k (table.locks g) }

pub stands_alive : (kept : SiteContent) (table : VolatileState) → Fits kept table → (k : Ticket) (v : visits.Visit) → table.standing k ≡ Some (standing.Active v) → stands table k (kept.prepared k) ≡ Active (visit_of table k v)
stands_alive kept table fits k v e = ap (stands table k) (row_none kept table fits k (ap txn_in e)) ∙ ap (visiting table.locks k) e

pub stands_prepared : (kept : SiteContent) (table : VolatileState) → Fits kept table → (k : Ticket) (t : _) → table.standing k ≡ Some (standing.Prepared t) → (row : Row) × (kept.prepared k ≡ Some row) × (row.txn ≡ t)
stands_prepared kept table fits k t e = go (kept.prepared k) refl (sym (fits.prepared k) ∙ ap txn_in e)
  where
    go : (o : Option Row) → kept.prepared k ≡ o → option_map (λ r. r.txn) o ≡ Some t → (row : Row) × (kept.prepared k ≡ Some row) × (row.txn ≡ t)
    go None f g = cc
    go (Some row) f g = (row, f, (let h : row.txn ≡ t = cc in h))

module _ (kept : SiteContent) (table : VolatileState) (fits : Fits kept table) (k : Ticket) (op : ℕ) (leaf : Leaf) where
  abbrev s : SiteState local
  s = state_of kept table

  module _ (at : AtKey) where
    abbrev written : Option standings.TicketState → Verdict
    written o = write_verdict k op leaf at (table.locks leaf) o

    abbrev act : Act local
    act = on_write (name_of k) op leaf at (stands table k (kept.prepared k))

    -- an operation that changes a visit
    pub record Changes_visit : Type 0 where
      pub visit : visits.Visit
      pub stands_there : table.standing k ≡ Some (standing.Active visit)
      pub free : is_foreign k (table.locks leaf) ≡ false
      pub act_is : act ≡ Locks (name_of k) (record (visit_of table k visit) { done = op; changes = fin.insert visit.changes (slot_of leaf at.0) at.1 }) leaf []

    pub write_passes : (o : Option standings.TicketState) → table.standing k ≡ o → written o ≡ Pass → act ≡ Says []
    write_passes None e is = ap (on_write (name_of k) op leaf at) (stands_dead kept table fits k e)
    write_passes (Some (standing.Prepared t)) e is = let p = stands_prepared kept table fits k t e in ap (λ row. on_write (name_of k) op leaf at (stands table k row)) p.1
    write_passes (Some (standing.Active v)) e is = ap (on_write (name_of k) op leaf at) (stands_alive kept table fits k v e) ∙ go (op == suc v.done) (is_foreign k (table.locks leaf)) (is_full leaf at v.changes) _ _ _ is
      where
        go : (b c d : Bool) (x y z : Act local) → (if b then (if c then Refuse reasons.Lock else (if d then Refuse reasons.Full else Go)) else Pass) ≡ Pass → (if b then (if c then x else (if d then y else z)) else Says []) ≡ Says []
        go true true d x y z f = cc
        go true false true x y z f = cc
        go true false false x y z f = cc
        go false c d x y z f = refl

    pub write_never_gone : (o : Option standings.TicketState) → written o ≡ Gone → ⊥
    write_never_gone None is = cc
    write_never_gone (Some (standing.Prepared t)) is = cc
    write_never_gone (Some (standing.Active v)) is = go (op == suc v.done) (is_foreign k (table.locks leaf)) (is_full leaf at v.changes) is
      where
        go : (b c d : Bool) → (if b then (if c then Refuse reasons.Lock else (if d then Refuse reasons.Full else Go)) else Pass) ≡ Gone → ⊥
        go true true d f = cc
        go true false true f = cc
        go true false false f = cc
        go false c d f = cc

    pub write_refused : (o : Option standings.TicketState) (reason : Reason) → table.standing k ≡ o → written o ≡ Refuse reason → (act ≡ Ends (name_of k) (protocol.Refused (name_of k) (reason_of reason) ∷ [])) × (is_visit o ≡ true)
    write_refused None reason e is = cc
    write_refused (Some (standing.Prepared t)) reason e is = cc
    write_refused (Some (standing.Active v)) reason e is = (ap (on_write (name_of k) op leaf at) (stands_alive kept table fits k v e) ∙ go (op == suc v.done) (is_foreign k (table.locks leaf)) (is_full leaf at v.changes) _ is, refl)
      where
        go : (b c d : Bool) (z : Act local) → (if b then (if c then Refuse reasons.Lock else (if d then Refuse reasons.Full else Go)) else Pass) ≡ Refuse reason →
            (if b then (if c then Ends (name_of k) (protocol.Refused (name_of k) protocol.Lock ∷ []) else (if d then Ends (name_of k) (protocol.Refused (name_of k) protocol.Full ∷ []) else z)) else Says []) ≡ Ends (name_of k) (protocol.Refused (name_of k) (reason_of reason) ∷ [])
        go true true d z f = ap (λ r. Ends (name_of k) (protocol.Refused (name_of k) (reason_of r) ∷ [])) (let h : reasons.Lock ≡ reason = cc in h)
        go true false true z f = ap (λ r. Ends (name_of k) (protocol.Refused (name_of k) (reason_of r) ∷ [])) (let h : reasons.Full ≡ reason = cc in h)
        go true false false z f = cc
        go false c d z f = cc

    pub write_goes : (o : Option standings.TicketState) → table.standing k ≡ o → written o ≡ Go → Changes_visit
    write_goes None e is = cc
    write_goes (Some (standing.Prepared t)) e is = cc
    write_goes (Some (standing.Active v)) e is =
        let f = go (op == suc v.done) (is_foreign k (table.locks leaf)) (is_full leaf at v.changes) _ _ _ is in
        record { visit = v; stands_there = e; free = f.0; act_is = ap (on_write (name_of k) op leaf at) (stands_alive kept table fits k v e) ∙ f.1 }
      where
        go : (b c d : Bool) (x y z : Act local) → (if b then (if c then Refuse reasons.Lock else (if d then Refuse reasons.Full else Go)) else Pass) ≡ Go → (c ≡ false) × ((if b then (if c then x else (if d then y else z)) else Says []) ≡ z)
        go true true d x y z f = cc
        go true false true x y z f = cc
        go true false false x y z f = (refl, refl)
        go false c d x y z f = cc

  -- one that reads, with the store's call kept
  module _ (conds : List Cond) where
    abbrev looked : Option standings.TicketState → Verdict
    looked o = read_verdict k op (table.locks leaf) o

    abbrev fetched : Act local
    fetched = on_fetch s true (name_of k) op leaf conds (stands table k (kept.prepared k))

    pub record Reads_visit : Type 0 where
      pub visit : visits.Visit
      pub stands_there : table.standing k ≡ Some (standing.Active visit)
      pub act_is : fetched ≡ Locks (name_of k) (record (visit_of table k visit) { done = op; shared = put (λ a b. is_eq (leaf_cmp a b)) leaf true (visit_of table k visit).shared }) leaf
          (protocol.Rows (name_of k) op (parts conds (changed leaf visit.changes (kept.content leaf))) ∷ [])
      -- and without it nothing happens
      pub unkept : on_fetch s false (name_of k) op leaf conds (stands table k (kept.prepared k)) ≡ Says []

    -- a visit's turn, by whether others have the leaf
    alive_is : (kept_call : Bool) (v : visits.Visit) → table.standing k ≡ Some (standing.Active v) → on_fetch s kept_call (name_of k) op leaf conds (stands table k (kept.prepared k)) ≡
        (if op == suc v.done then (if others_write k (table.locks leaf) then Ends (name_of k) (protocol.Refused (name_of k) protocol.Lock ∷ []) else (if kept_call
        then Locks (name_of k) (record (visit_of table k v) { done = op; shared = put (λ a b. is_eq (leaf_cmp a b)) leaf true (visit_of table k v).shared }) leaf (protocol.Rows (name_of k) op (parts conds (changed leaf v.changes (kept.content leaf))) ∷ [])
        else Says [])) else Says [])
    alive_is kept_call v e =
        ap (on_fetch s kept_call (name_of k) op leaf conds) (stands_alive kept table fits k v e)
        ∙ ap (λ b. if op == suc v.done then (if b then Ends (name_of k) (protocol.Refused (name_of k) protocol.Lock ∷ []) else (if kept_call
        then Locks (name_of k) (record (visit_of table k v) { done = op; shared = put (λ a c. is_eq (leaf_cmp a c)) leaf true (visit_of table k v).shared }) leaf (protocol.Rows (name_of k) op (parts conds (changed leaf v.changes (kept.content leaf))) ∷ [])
        else Says [])) else Says []) (exclusive_is kept table fits k leaf)

    pub read_gone : (o : Option standings.TicketState) → table.standing k ≡ o → looked o ≡ Gone → fetched ≡ Says (protocol.Refused (name_of k) protocol.Gone ∷ [])
    read_gone None e is = ap (on_fetch s true (name_of k) op leaf conds) (stands_dead kept table fits k e)
    read_gone (Some (standing.Prepared t)) e is = cc
    read_gone (Some (standing.Active v)) e is = absurd (go (op == suc v.done) (others_write k (table.locks leaf)) is)
      where
        go : (b c : Bool) → (if b then (if c then Refuse reasons.Lock else Go) else Pass) ≡ Gone → ⊥
        go true true f = cc
        go true false f = cc
        go false c f = cc

    pub read_passes : (o : Option standings.TicketState) → table.standing k ≡ o → looked o ≡ Pass → fetched ≡ Says []
    read_passes None e is = cc
    read_passes (Some (standing.Prepared t)) e is = let p = stands_prepared kept table fits k t e in ap (λ row. on_fetch s true (name_of k) op leaf conds (stands table k row)) p.1
    read_passes (Some (standing.Active v)) e is = alive_is true v e ∙ go (op == suc v.done) (others_write k (table.locks leaf)) _ _ is
      where
        go : (b c : Bool) (x y : Act local) → (if b then (if c then Refuse reasons.Lock else Go) else Pass) ≡ Pass → (if b then (if c then x else y) else Says []) ≡ Says []
        go true true x y f = cc
        go true false x y f = cc
        go false c x y f = refl

    pub read_refused : (o : Option standings.TicketState) (reason : Reason) → table.standing k ≡ o → looked o ≡ Refuse reason → (fetched ≡ Ends (name_of k) (protocol.Refused (name_of k) (reason_of reason) ∷ [])) × (is_visit o ≡ true)
    read_refused None reason e is = cc
    read_refused (Some (standing.Prepared t)) reason e is = cc
    read_refused (Some (standing.Active v)) reason e is = (alive_is true v e ∙ go (op == suc v.done) (others_write k (table.locks leaf)) _ is, refl)
      where
        go : (b c : Bool) (y : Act local) → (if b then (if c then Refuse reasons.Lock else Go) else Pass) ≡ Refuse reason →
            (if b then (if c then Ends (name_of k) (protocol.Refused (name_of k) protocol.Lock ∷ []) else y) else Says []) ≡ Ends (name_of k) (protocol.Refused (name_of k) (reason_of reason) ∷ [])
        go true true y f = ap (λ r. Ends (name_of k) (protocol.Refused (name_of k) (reason_of r) ∷ [])) (let h : reasons.Lock ≡ reason = cc in h)
        go true false y f = cc
        go false c y f = cc

    pub read_goes : (o : Option standings.TicketState) → table.standing k ≡ o → looked o ≡ Go → Reads_visit
    read_goes None e is = cc
    read_goes (Some (standing.Prepared t)) e is = cc
    read_goes (Some (standing.Active v)) e is = record { visit = v; stands_there = e; act_is = alive_is true v e ∙ go (op == suc v.done) (others_write k (table.locks leaf)) _ _ is; unkept = alive_is false v e ∙ go (op == suc v.done) (others_write k (table.locks leaf)) _ _ is }
      where
        go : (b c : Bool) (x y : Act local) → (if b then (if c then Refuse reasons.Lock else Go) else Pass) ≡ Go → (if b then (if c then x else y) else Says []) ≡ y
        go true true x y f = cc
        go true false x y f = refl
        go false c x y f = cc
