-- Steps by which a visit is prepared or ends, and what the table says of them.
use Rattle.std.proofs.Common.{Result, Ok, Err, IfOk, ◌≡◌, ◌≢◌, refl, sym, ap, ◌∙◌, subst, ℕ, ◌-◌, ◌==◌, nat_eq, Bool, true, false, List, [], ◌∷◌, map, Option, Some, None, if◌then◌else◌, cond, inl, inr}
use Rattle.std.specs.BTreeMap.{is_at}
use Rattle.std.specs.FinMap as fin
use Rattle.std.specs.List.Sorted.{IsStrictlySortedBy}
use Rattle.std.specs.Map.{keys_of, set_value, remove_entry}
use Rattle.std.specs.Option.{option_map}
use Rattle.terms.specs.declared.leaf.Leaf.{Leaf}
use Rattle.store.specs.declared.name.Ticket.{Ticket}
use Rattle.store.specs.declared.name.Txn.{Txn}
use Rattle.store.specs.declared.prepared.Prepared.{Prepared as Row}
use Rattle.store.specs.declared.reply.Reply.{Reply}
use Rattle.store.specs.declared.reply.Reply.TheVariants as reply
use Rattle.store.specs.declared.reply.Vote.{Vote}
use Rattle.store.specs.declared.reply.Vote.TheVariants as votes
use Rattle.store.specs.Content.{Changes, Content, changed}
use Rattle.store.specs.Name.{ticket_cmp}
use Rattle.store.specs.SiteContent as content
use Rattle.store.specs.Slot.{slot_cmp}
use Rattle.terms.specs.declared.value.Value.{Value}
use Rattle.store.specs.SiteContent.{SiteContent, IsUnchanged, is_ticket}
use Rattle.protocol.specs.Language.{put, same}
use Rattle.protocol.specs.Letter as protocol
use Rattle.protocol.specs.Site as acts
use Rattle.protocol.specs.Site.{SiteState, Status, Dead, Active, Act, Says, Ends, site_after, said, with_status, on_prepare, on_commit, on_abort, on_give_up}
use Rattle.protocol.proofs.Basics.{if_true, if_false}
use Rattle.site.specs.declared.locks.Locks as locks
use Rattle.site.specs.declared.tickets.TicketState as standings
use Rattle.site.specs.declared.tickets.TicketState.TheVariants as standing
use Rattle.site.specs.declared.tickets.Visit as visits
use Rattle.site.specs.declared.verdict.Ballot.TheVariants as ballots
use Rattle.protocol.specs.Letters.{name_of, txn_name, said_by, vote_of, kept_by}
use Rattle.protocol.specs.Local.{local}
use Rattle.site.specs.Locks.{stops, stops_reading}
use Rattle.site.specs.Moves.{gone, prepared}
use Rattle.site.specs.State.{VolatileState, Fits, Steps, volatile_from, state_of, stands, is_visit, is_row, txn_in}
use Rattle.site.specs.Verdict.{ballot}
use Rattle.site.proofs.Acts.{steps_at, gone_table}
use Rattle.site.proofs.Endings.{ended_state, prepared_state}
use Rattle.site.proofs.Fitting.{Left, fits_gone, fits_prepared}
use Rattle.site.proofs.LeavesKept.{leaves_stop_reading}
use Rattle.site.proofs.Listed.{row_none}
use Rattle.site.proofs.TicketStates.{Entries, at_ticket, set_there, set_keys, all_stop_reading}
use Rattle.site.proofs.TicketOrder.{ticket_is, ticket_self}
use Rattle.site.proofs.Verdicts.{stands_alive, stands_prepared}

-- one entry set twice, or set and then removed
pub set_twice : (k : Ticket) (entries : Entries) (one other : standings.TicketState) → set_value (is_at (ticket_cmp k)) (set_value (is_at (ticket_cmp k)) entries one) other ≡ set_value (is_at (ticket_cmp k)) entries other
set_twice k [] one other = refl
set_twice k (e ∷ entries) one other = go (is_ticket k e.0) refl (set_twice k entries one other)
  where
    test : Ticket → Bool
    test = is_at (ticket_cmp k)

    go : (b : Bool) → is_ticket k e.0 ≡ b → set_value test (set_value test entries one) other ≡ set_value test entries other →
        set_value test (cond b ((e.0, one) ∷ entries) (e ∷ set_value test entries one)) other ≡ cond b ((e.0, other) ∷ entries) (e ∷ set_value test entries other)
    go true is rest = if_true (is_ticket k e.0) ((e.0, other) ∷ entries) ((e.0, one) ∷ set_value test entries other) is
    go false is rest = if_false (is_ticket k e.0) ((e.0, other) ∷ set_value test entries one) (e ∷ set_value test (set_value test entries one) other) is ∙ ap (λ l. e ∷ l) rest

pub set_removed : (k : Ticket) (entries : Entries) (one : standings.TicketState) → remove_entry (is_at (ticket_cmp k)) (set_value (is_at (ticket_cmp k)) entries one) ≡ remove_entry (is_at (ticket_cmp k)) entries
set_removed k [] one = refl
set_removed k (e ∷ entries) one = go (is_ticket k e.0) refl (set_removed k entries one)
  where
    test : Ticket → Bool
    test = is_at (ticket_cmp k)

    go : (b : Bool) → is_ticket k e.0 ≡ b → remove_entry test (set_value test entries one) ≡ remove_entry test entries →
        remove_entry test (cond b ((e.0, one) ∷ entries) (e ∷ set_value test entries one)) ≡ cond b entries (e ∷ remove_entry test entries)
    go true is rest = if_true (is_ticket k e.0) entries ((e.0, one) ∷ remove_entry test entries) is
    go false is rest = if_false (is_ticket k e.0) (set_value test entries one) (e ∷ remove_entry test (set_value test entries one)) is ∙ ap (λ l. e ∷ l) rest

-- what is to be kept is a visit's that intends something
pub kept_visit : (count : ℕ) (o : Option standings.TicketState) → ballot count o ≡ ballots.Keeps → (v : visits.Visit) × (o ≡ Some (standing.Active v)) × (v.changes ≢ fin.empty)
kept_visit count None is = cc
kept_visit count (Some (standing.Prepared t)) is = cc
kept_visit count (Some (standing.Active v)) is = (v, refl, λ none. go (v.done == count) (nat_eq (fin.len v.changes) 0) (ap (λ (changes : Changes). nat_eq (fin.len changes) 0) none ∙ ap (λ n. nat_eq n 0) (fin.len-empty slot_cmp (Option (List Value)))) is)
  where
    go : (b c : Bool) → c ≡ true → (if b then (if c then ballots.Ends votes.Read else ballots.Keeps) else ballots.Ends votes.No) ≡ ballots.Keeps → ⊥
    go true true e f = cc
    go true false e f = cc
    go false c e f = cc

module _ (kept : SiteContent) (entries : Entries) (ls : List locks.Locks) (active life number : ℕ) (fits : Fits kept (volatile_from entries ls active life number)) (k : Ticket) where
  abbrev table : VolatileState
  table = volatile_from entries ls active life number

  abbrev s : SiteState local
  s = state_of kept table

  no_txn : (o : Option standings.TicketState) → is_visit o ≡ true → txn_in o ≡ None
  no_txn None e = cc
  no_txn (Some (standing.Active v)) e = refl
  no_txn (Some (standing.Prepared t)) e = cc

  -- a visit has no row, so none goes
  pub visit_rows : is_visit (table.standing k) ≡ true → (after : SiteContent) → IsUnchanged kept after → (j : Ticket) → after.prepared j ≡ (if is_ticket k j then None else kept.prepared j)
  visit_rows visit after same j = same.prepared j ∙ go (is_ticket k j) refl
    where
      go : (b : Bool) → is_ticket k j ≡ b → kept.prepared j ≡ (if b then None else kept.prepared j)
      go true e = subst (λ i. kept.prepared i ≡ None) (ticket_is k j e) (row_none kept table fits k (no_txn (table.standing k) visit))
      go false e = refl

  -- what stood there is gone
  pub ended_steps : (after : SiteContent) (left : ℕ) → Left kept table fits k left → IsStrictlySortedBy ticket_cmp (keys_of entries) → ((j : Ticket) → after.prepared j ≡ (if is_ticket k j then None else kept.prepared j)) → after.life ≡ kept.life → ((g : Leaf) → after.has g ≡ kept.has g) →
      (contents : Leaf → Content) → ((g : Leaf) → after.content g ≡ contents g) → (act : Act local) (answer : Option Reply) →
      site_after s act ≡ record (with_status s (put same (name_of k) Dead s.status) s.known) { kept = contents } → said s act ≡ said_by answer →
      Steps kept table after (volatile_from (remove_entry (is_at (ticket_cmp k)) entries) (map (stops k number) ls) left life number) act answer
  ended_steps after left left_so sorted rows life_is has_is contents same act answer state says =
      steps_at kept after table _ (gone k left table) act answer (gone_table kept entries ls active life number fits k left sorted)
      (record { fits = fits_gone kept table fits k after left left_so rows life_is has_is; state = ended_state kept table fits k after left contents rows same ∙ sym state; says = says })

  -- a visit ends, whatever the store's call left as it was
  pub visit_ends : (after : SiteContent) (left : ℕ) → left ≡ active - 1 → IsStrictlySortedBy ticket_cmp (keys_of entries) → is_visit (table.standing k) ≡ true → IsUnchanged kept after → (act : Act local) (answer : Option Reply) → act ≡ Ends (name_of k) (said_by answer) →
      Steps kept table after (volatile_from (remove_entry (is_at (ticket_cmp k)) entries) (map (stops k number) ls) left life number) act answer
  visit_ends after left fewer sorted visit same act answer is =
      ended_steps after left (inr (visit, fewer)) sorted (visit_rows visit after same) same.life same.has kept.content same.content act answer (ap (site_after s) is) (ap (said s) is)

  -- a visit is prepared
  pub prepares_steps : (after : SiteContent) (txn : Txn) (visit : visits.Visit) → table.standing k ≡ Some (standing.Active visit) → content.Prepares k (record { txn = txn; changes = visit.changes }) kept after → (act : Act local) (answer : Option Reply) →
      act ≡ acts.Prepares (name_of k) (txn_name txn) visit.changes → answer ≡ Some (reply.Voted (record { ticket = k; vote = votes.Yes })) →
      Steps kept table after (volatile_from (set_value (is_at (ticket_cmp k)) entries (standing.Prepared txn)) (map (stops_reading k number) ls) (active - 1) life number) act answer
  prepares_steps after txn visit is keeps act answer act_is says =
      let new = fits_prepared kept table fits k txn visit is after keeps.prepared keeps.life keeps.has in
      steps_at kept after table _ (prepared k txn table) act answer
      (λ i. record { standing = λ j. set_there k entries (standing.Prepared txn) (standing.Active visit) is j i; tickets = set_keys k entries (standing.Prepared txn) i; leaves = leaves_stop_reading k number ls i; locks = λ g. all_stop_reading k number ls g i; active = active - 1; life = life; number = number })
      (record { fits = new; state = prepared_state kept table fits k txn visit.changes after new keeps.prepared keeps.content ∙ ap (site_after s) (sym act_is); says = ap (said s) act_is ∙ ap said_by (sym says) })

  -- the rows of the table
  row_there : (o : Option standings.TicketState) → table.standing k ≡ o → is_row o ≡ true → (row : Row) × (kept.prepared k ≡ Some row)
  row_there None e is = cc
  row_there (Some (standing.Active v)) e is = cc
  row_there (Some (standing.Prepared t)) e is = let p = stands_prepared kept table fits k t e in (p.0, p.1)

  pub row_of : is_row (table.standing k) ≡ true → (row : Row) × (kept.prepared k ≡ Some row)
  row_of is = row_there (table.standing k) refl is

  no_visit : (o : Option standings.TicketState) (t : Txn) → txn_in o ≡ Some t → is_visit o ≡ false
  no_visit None t e = refl
  no_visit (Some (standing.Active v)) t e = cc
  no_visit (Some (standing.Prepared u)) t e = refl

  row_no_visit : (row : Row) → kept.prepared k ≡ Some row → is_visit (table.standing k) ≡ false
  row_no_visit row is = no_visit (table.standing k) row.txn (fits.prepared k ∙ ap (option_map (λ (r : Row). r.txn)) is)

  pub commit_steps : (after : SiteContent) (row : Row) → IsStrictlySortedBy ticket_cmp (keys_of entries) → kept.prepared k ≡ Some row → content.Applies k row.changes kept after →
      Steps kept table after (volatile_from (remove_entry (is_at (ticket_cmp k)) entries) (map (stops k number) ls) active life number) (on_commit true (name_of k) (s.status (name_of k))) (Some (reply.Ack k))
  commit_steps after row sorted is applies =
      let act = ap (λ r. on_commit true (name_of k) (stands table k r)) is in
      ended_steps after active (inl (row_no_visit row is, refl)) sorted applies.prepared applies.life applies.has (λ g. changed g row.changes (kept.content g)) applies.content _ (Some (reply.Ack k)) (ap (site_after s) act) (ap (said s) act)

  pub abort_steps : (after : SiteContent) (row : Row) → IsStrictlySortedBy ticket_cmp (keys_of entries) → kept.prepared k ≡ Some row → content.Discards k kept after →
      Steps kept table after (volatile_from (remove_entry (is_at (ticket_cmp k)) entries) (map (stops k number) ls) active life number) (on_abort true (name_of k) (s.status (name_of k))) None
  abort_steps after row sorted is discards =
      let act = ap (λ r. on_abort true (name_of k) (stands table k r)) is in
      ended_steps after active (inl (row_no_visit row is, refl)) sorted discards.prepared discards.life discards.has kept.content discards.content _ None (ap (site_after s) act) (ap (said s) act)

  visit_there : (o : Option standings.TicketState) → table.standing k ≡ o → is_visit o ≡ true → (v : visits.Visit) × (table.standing k ≡ Some (standing.Active v))
  visit_there None e is = cc
  visit_there (Some (standing.Active v)) e is = (v, e)
  visit_there (Some (standing.Prepared t)) e is = cc

  pub given_up : is_visit (table.standing k) ≡ true → on_give_up {L = local} (name_of k) (s.status (name_of k)) ≡ Ends (name_of k) []
  given_up is = let v = visit_there (table.standing k) refl is in ap (on_give_up (name_of k)) (stands_alive kept table fits k v.0 v.1)

  -- what the table says of a prepare
  module _ (kept_call : Bool) (txn : Txn) (count : ℕ) where
    abbrev asked : Act local
    asked = on_prepare kept_call (txn_name txn) (name_of k) count (s.status (name_of k))

    pub prepare_ends : (o : Option standings.TicketState) (vote : Vote) → table.standing k ≡ o → ballot count o ≡ ballots.Ends vote → (asked ≡ Ends (name_of k) (protocol.Voted (name_of k) (vote_of vote) ∷ [])) × (is_visit o ≡ true)
    prepare_ends None vote e is = cc
    prepare_ends (Some (standing.Prepared t)) vote e is = cc
    prepare_ends (Some (standing.Active v)) vote e is = (ap (on_prepare kept_call (txn_name txn) (name_of k) count) (stands_alive kept table fits k v e) ∙ go (v.done == count) (nat_eq (fin.len v.changes) 0) _ is, refl)
      where
        ends : Vote → Act local
        ends w = Ends (name_of k) (protocol.Voted (name_of k) (vote_of w) ∷ [])

        go : (b c : Bool) (x : Act local) → (if b then (if c then ballots.Ends votes.Read else ballots.Keeps) else ballots.Ends votes.No) ≡ ballots.Ends vote →
            (if b then (if c then ends votes.Read else x) else ends votes.No) ≡ ends vote
        go true true x f = ap ends (let h : votes.Read ≡ vote = cc in h)
        go true false x f = cc
        go false c x f = ap ends (let h : votes.No ≡ vote = cc in h)

    pub prepare_keeps : (o : Option standings.TicketState) → table.standing k ≡ o → ballot count o ≡ ballots.Keeps →
        (v : visits.Visit) × (table.standing k ≡ Some (standing.Active v)) × (asked ≡ (if kept_call then acts.Prepares (name_of k) (txn_name txn) v.changes else Ends (name_of k) (protocol.Voted (name_of k) protocol.No ∷ [])))
    prepare_keeps None e is = cc
    prepare_keeps (Some (standing.Prepared t)) e is = cc
    prepare_keeps (Some (standing.Active v)) e is = (v, e, ap (on_prepare kept_call (txn_name txn) (name_of k) count) (stands_alive kept table fits k v e) ∙ go (v.done == count) (nat_eq (fin.len v.changes) 0) _ _ _ is)
      where
        go : (b c : Bool) (x y z : Act local) → (if b then (if c then ballots.Ends votes.Read else ballots.Keeps) else ballots.Ends votes.No) ≡ ballots.Keeps → (if b then (if c then x else y) else z) ≡ y
        go true true x y z f = cc
        go true false x y z f = refl
        go false c x y z f = cc

-- what was kept or not, as the table says it
pub act_kept : (kept after : SiteContent) (entries : Entries) (ls : List locks.Locks) (active life number : ℕ) (fits : Fits kept (volatile_from entries ls active life number)) (k : Ticket) (new : VolatileState) (txn : Txn) (count : ℕ) → ballot count (at_ticket entries k) ≡ ballots.Keeps →
    {E : Type 0} (result : Result (Option Reply) E) →
    ((visit : visits.Visit) → at_ticket entries k ≡ Some (standing.Active visit) → IfOk result (λ answer. Steps kept (volatile_from entries ls active life number) after new (if kept_by answer then acts.Prepares (name_of k) (txn_name txn) visit.changes else Ends (name_of k) (protocol.Voted (name_of k) protocol.No ∷ [])) answer)) →
    IfOk result (λ answer. Steps kept (volatile_from entries ls active life number) after new (on_prepare (kept_by answer) (txn_name txn) (name_of k) count ((state_of kept (volatile_from entries ls active life number)).status (name_of k))) answer)
act_kept kept after entries ls active life number fits k new txn count is (Ok answer) steps =
    let r = prepare_keeps kept entries ls active life number fits k (kept_by answer) txn count (at_ticket entries k) refl is in
    subst (λ act. Steps kept (volatile_from entries ls active life number) after new act answer) (sym r.2) (steps r.0 r.1)
act_kept kept after entries ls active life number fits k new txn count is (Err e) steps = tt

-- the act of a vote NO, and of another
pub no_act : (k : Ticket) (answer : Option Reply) (done : Act local) → answer ≡ Some (reply.Voted (record { ticket = k; vote = votes.No })) → (if kept_by answer then done else Ends (name_of k) (protocol.Voted (name_of k) protocol.No ∷ [])) ≡ Ends (name_of k) (said_by answer)
no_act k answer done is = subst (λ a. (if kept_by a then done else Ends (name_of k) (protocol.Voted (name_of k) protocol.No ∷ [])) ≡ Ends (name_of k) (said_by a)) (sym is) refl

pub yes_act : (k : Ticket) (answer : Option Reply) (done undone : Act local) → answer ≡ Some (reply.Voted (record { ticket = k; vote = votes.Yes })) → (if kept_by answer then done else undone) ≡ done
yes_act k answer done undone is = subst (λ a. (if kept_by a then done else undone) ≡ done) (sym is) refl

-- what stands there is a visit
pub is_visiting : (entries : Entries) (k : Ticket) (v : visits.Visit) → at_ticket entries k ≡ Some (standing.Active v) → is_visit (at_ticket entries k) ≡ true
is_visiting entries k v e = ap is_visit e

-- what was set stands there
pub set_here : (entries swapped : Entries) (k : Ticket) (old new : standings.TicketState) → at_ticket entries k ≡ Some old → swapped ≡ set_value (is_at (ticket_cmp k)) entries new → at_ticket swapped k ≡ Some new
set_here entries swapped k old new is same = ap (λ es. at_ticket es k) same ∙ set_there k entries new old is k ∙ if_true (is_ticket k k) (Some new) (at_ticket entries k) (ticket_self k)
