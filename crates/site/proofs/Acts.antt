-- Steps of the machine, from what the code makes of entries and locks.
use Rattle.std.proofs.Common.{◌≡◌, refl, sym, ap, ◌∙◌, subst, ℕ, suc, inr, ◌+◌, ◌-◌, ◌^◌, ◌<◌, ◌≤◌, ◌||◌, add-one, Bool, true, false, not, List, [], ◌∷◌, map, Option, Some, None, if◌then◌else◌, slice_set, ⊎_elim, arith}
use Rattle.std.specs.BTreeMap.{is_at, insert_entry}
use Rattle.std.specs.FinMap as fin
use Rattle.std.specs.List.{AllByRecursion}
use Rattle.std.specs.List.Sorted.{IsStrictlySortedBy}
use Rattle.std.specs.Map.{keys_of, set_value, remove_entry}
use Rattle.std.specs.Ordering.{is_eq, nat_cmp}
use Rattle.std.specs.declared.cmp.Ordering.TheVariants.{Greater}
use Rattle.terms.specs.declared.leaf.Leaf.{Leaf}
use Rattle.terms.specs.Leaf.{leaf_cmp}
use Rattle.store.specs.declared.name.Ticket.{Ticket}
use Rattle.store.specs.declared.reply.Reply.{Reply}
use Rattle.store.specs.declared.reply.Reply.TheVariants as reply
use Rattle.store.specs.declared.reply.Reason.{Reason}
use Rattle.store.specs.Content.{Changes, touches}
use Rattle.store.specs.Name.{ticket_cmp}
use Rattle.store.specs.SiteContent.{SiteContent, is_ticket}
use Rattle.store.specs.Slot.{slot_of}
use Rattle.store.proofs.Changing.{touches_more}
use Rattle.protocol.specs.Language.{put}
use Rattle.protocol.specs.Letter as protocol
use Rattle.protocol.specs.Letter.{Body}
use Rattle.protocol.specs.Parts.{In}
use Rattle.protocol.specs.Site.{SiteState, Status, Dead, Active, Prepared, Act, Says, Opens, Ends, site_after, said, on_fetch, on_write, others_exclusive}
use Rattle.protocol.specs.Site as acts
use Rattle.protocol.proofs.Basics.{clash, every_self}
use Rattle.site.specs.declared.locks.Locks as locks
use Rattle.site.specs.declared.tickets.TicketState as standings
use Rattle.site.specs.declared.tickets.TicketState.TheVariants as standing
use Rattle.site.specs.declared.tickets.Visit as visits
use Rattle.protocol.specs.Local.{local, AtKey}
use Rattle.protocol.specs.Letters.{name_of, said_by, reason_of}
use Rattle.site.specs.Locks.{reads, writes, is_writer, is_other, is_foreign, leaves_in, locks_in, place_in, with_reader, with_writer, stops}
use Rattle.site.specs.State.{VolatileState, Fits, Steps, volatile_from, state_of, stands, visiting, is_visit, txn_in}
use Rattle.site.specs.Moves.{next_of, stood, locked, opened, gone}
use Rattle.site.proofs.Endings.{ended_state}
use Rattle.site.proofs.Fitting.{fits_opened, fits_operated, fits_gone}
use Rattle.site.proofs.LeavesKept.{leaves_set, leaves_stop}
use Rattle.site.proofs.Listed.{row_none}
use Rattle.site.proofs.LockLaws.{reads-with_reader, foreign-with_reader, foreign-with_reader-others, foreign-with_writer, foreign-with_writer-others}
use Rattle.site.proofs.Steps.{opens_state, locks_state}
use Rattle.site.proofs.TicketStates.{Entries, at_ticket, set_there, set_keys, removed_there, removed_keys, put_last, last_keys, last_there, all_stop, got, is_place, locked_there}
use Rattle.site.proofs.TicketOrder.{ticket_is, ticket_self, ticket_sym, leaf_is}

-- ---- nothing happens but something is said
pub says_steps : (kept : SiteContent) (table : VolatileState) → Fits kept table → (act : Act local) (answer : Option Reply) → act ≡ Says (said_by answer) → Steps kept table kept table act answer
says_steps kept table fits act answer is = record { fits = fits; state = ap (site_after (state_of kept table)) (sym is); says = ap (said (state_of kept table)) is }

-- ---- where a table ends up, the step does
pub steps_at : (old new : SiteContent) (before after other : VolatileState) (act : Act local) (answer : Option Reply) → after ≡ other → Steps old before new other act answer → Steps old before new after act answer
steps_at old new before after other act answer is steps = subst (λ t. Steps old before new t act answer) (sym is) steps

module _ (kept : SiteContent) (entries : Entries) (ls : List locks.Locks) (active life number : ℕ) (fits : Fits kept (volatile_from entries ls active life number)) where
  abbrev table : VolatileState
  table = volatile_from entries ls active life number

  -- ---- a visit ends
  pub gone_table : (k : Ticket) (left : ℕ) → IsStrictlySortedBy ticket_cmp (keys_of entries) → volatile_from (remove_entry (is_at (ticket_cmp k)) entries) (map (stops k number) ls) left life number ≡ gone k left table
  gone_table k left sorted = λ i. record { standing = λ j. removed_there k entries sorted j i; tickets = removed_keys k entries sorted i; leaves = leaves_stop k number ls i; locks = λ g. all_stop k number ls g i; active = left; life = life; number = number }

  pub ends_steps : (k : Ticket) (left : ℕ) → left ≡ active - 1 → IsStrictlySortedBy ticket_cmp (keys_of entries) → is_visit (table.standing k) ≡ true → (act : Act local) (answer : Option Reply) → act ≡ Ends (name_of k) (said_by answer) →
      Steps kept table kept (volatile_from (remove_entry (is_at (ticket_cmp k)) entries) (map (stops k number) ls) left life number) act answer
  ends_steps k left fewer sorted visit act answer is =
      steps_at kept kept table _ (gone k left table) act answer (gone_table k left sorted)
      (record {
        fits = fits_gone kept table fits k kept left (inr (visit, fewer)) rows refl (λ g. refl);
        state = ended_state kept table fits k kept left kept.content rows (λ g. refl) ∙ ap (site_after (state_of kept table)) (sym is);
        says = ap (said (state_of kept table)) is;
      })
    where
      no_txn : (o : Option standings.TicketState) → is_visit o ≡ true → txn_in o ≡ None
      no_txn None e = cc
      no_txn (Some (standing.Active v)) e = refl
      no_txn (Some (standing.Prepared t)) e = cc

      rows : (j : Ticket) → kept.prepared j ≡ (if is_ticket k j then None else kept.prepared j)
      rows j = go (is_ticket k j) refl
        where
          go : (b : Bool) → is_ticket k j ≡ b → kept.prepared j ≡ (if b then None else kept.prepared j)
          go true e = subst (λ i. kept.prepared i ≡ None) (ticket_is k j e) (row_none kept table fits k (no_txn (table.standing k) visit))
          go false e = refl

  -- ---- a visit begins
  above_all : (j : Ticket) → In j (keys_of entries) → ticket_cmp (next_of table) j ≡ Greater
  above_all j here = ⊎_elim
      (λ (below : j.life < life). grind (arith, nat_cmp))
      (λ here. let f : j.visit ≤ number = here.1 in let e : j.life ≡ life = here.0 in grind (arith, nat_cmp))
      (fits.drawn j (fits.lives j here))

  above : AllByRecursion (λ j. ticket_cmp (next_of table) j ≡ Greater) (keys_of entries)
  above = every_self (λ j. ticket_cmp (next_of table) j ≡ Greater) (keys_of entries) above_all

  abbrev begun : standings.TicketState
  begun = standing.Active (record { done = 0; changes = fin.empty })

  pub opened_table : volatile_from (insert_entry ticket_cmp entries (next_of table) begun) ls (active + 1) life (number + 1) ≡ opened table
  opened_table =
      ap (λ es. volatile_from es ls (active + 1) life (number + 1)) (put_last (next_of table) begun entries above)
      ∙ (λ i. record { standing = λ j. last_there (next_of table) begun entries above j i; tickets = last_keys (next_of table) begun entries i; leaves = leaves_in ls; locks = λ g. locks_in g ls; active = add-one active i; life = life; number = add-one number i })

  pub opens_steps : suc active ≤ 1024 → suc number < 2 ^ 63 → (answer : Option Reply) → answer ≡ Some (reply.Ticket (next_of table)) → Steps kept table kept (volatile_from (insert_entry ticket_cmp entries (next_of table) begun) ls (active + 1) life (number + 1)) Opens answer
  opens_steps room lower answer is =
      steps_at kept kept table _ (opened table) Opens answer opened_table
      (record { fits = fits_opened kept table fits room lower; state = opens_state kept table fits (fits_opened kept table fits room lower); says = ap said_by (sym is) })

  -- ---- an operation
  module _ (k : Ticket) (v : visits.Visit) (visit : at_ticket entries k ≡ Some (standing.Active v)) (op : ℕ) (low_op : op < 2 ^ 63) (leaf : Leaf) (place : ℕ) (place_is : place_in leaf ls ≡ Some place) where
    operated_table : (changes : Changes) (step : locks.Locks → locks.Locks) → ((l : locks.Locks) → (step l).leaf ≡ l.leaf) →
        volatile_from (set_value (is_at (ticket_cmp k)) entries (standing.Active (record { done = op; changes = changes }))) (slice_set ls place (step (locks_in leaf ls))) active life number
        ≡ record table { standing = stood k (Some (standing.Active (record { done = op; changes = changes }))) table.standing; locks = locked leaf step table.locks }
    operated_table changes step keeps =
        λ i. record {
          standing = λ j. set_there k entries (standing.Active (record { done = op; changes = changes })) (standing.Active v) visit j i;
          tickets = set_keys k entries (standing.Active (record { done = op; changes = changes })) i;
          leaves = same_leaves i;
          locks = λ g. locked_there leaf ls place place_is step keeps g i;
          active = active;
          life = life;
          number = number;
        }
      where
        same_leaves : leaves_in (slice_set ls place (step (locks_in leaf ls))) ≡ leaves_in ls
        same_leaves = leaves_set ls place (step (locks_in leaf ls)) (locks_in leaf ls) (sym (got ls place _ (locks_in leaf ls) (is_place leaf ls place place_is).here)) (keeps (locks_in leaf ls))

    no_row : kept.prepared k ≡ None
    no_row = row_none kept table fits k (ap txn_in visit)

    -- what a visit writes it has exclusively
    writes_touch : (g : Leaf) → writes k (table.locks g) ≡ touches g v.changes
    writes_touch g = fits.writers g k ∙ ap (λ r. acts.has_exclusive g (stands table k r)) no_row ∙ ap (λ o. acts.has_exclusive g (visiting table.locks k o)) visit

    -- one that reads
    abbrev v_of : acts.Visit local
    v_of = record { done = v.done; changes = v.changes; shared = λ g. reads k (table.locks g); foreign = λ g. is_foreign k (table.locks g) }

    same_writes : (g : Leaf) (j : Ticket) → writes j (locked leaf (with_reader k) table.locks g) ≡ writes j (table.locks g)
    same_writes g j = go (is_eq (leaf_cmp g leaf))
      where
        go : (b : Bool) → writes j (if b then with_reader k (table.locks g) else table.locks g) ≡ writes j (table.locks g)
        go true = refl
        go false = refl

    apart_reads : (j : Ticket) (l : locks.Locks) → is_ticket j k ≡ false → reads j (with_reader k l) ≡ reads j l
    apart_reads j l apart = reads-with_reader j k l ∙ ap (λ b. b || reads j l) apart

    own_read : (g : Leaf) → reads k (locked leaf (with_reader k) table.locks g) ≡ put (λ a b. is_eq (leaf_cmp a b)) leaf true (λ h. reads k (table.locks h)) g
    own_read g = go (is_eq (leaf_cmp g leaf))
      where
        go : (b : Bool) → reads k (if b then with_reader k (table.locks g) else table.locks g) ≡ (if b then true else reads k (table.locks g))
        go true = reads-with_reader k k (table.locks g) ∙ ap (λ b. b || reads k (table.locks g)) (ticket_self k)
        go false = refl

    own_see : (g : Leaf) → is_foreign k (locked leaf (with_reader k) table.locks g) ≡ is_foreign k (table.locks g)
    own_see g = go (is_eq (leaf_cmp g leaf))
      where
        go : (b : Bool) → is_foreign k (if b then with_reader k (table.locks g) else table.locks g) ≡ is_foreign k (table.locks g)
        go true = foreign-with_reader k (table.locks g)
        go false = refl

    pub reads_steps : (act : Act local) (answer : Option Reply) → act ≡ acts.Locks (name_of k) (record v_of { done = op; shared = put (λ a b. is_eq (leaf_cmp a b)) leaf true v_of.shared }) leaf (said_by answer) →
        Steps kept table kept (volatile_from (set_value (is_at (ticket_cmp k)) entries (standing.Active (record v { done = op }))) (slice_set ls place (with_reader k (locks_in leaf ls))) active life number) act answer
    reads_steps act answer is =
        let new : Fits kept (record table { standing = stood k (Some (standing.Active (record v { done = op }))) table.standing; locks = locked leaf (with_reader k) table.locks }) =
        fits_operated kept table fits k op v.changes v.changes v.done leaf (with_reader k) visit
        (λ j l apart. apart_reads j l (ticket_sym j k ∙ apart)) (λ l. refl) (λ g j apart. same_writes g j) (λ g. same_writes g k ∙ writes_touch g) low_op in
        steps_at kept kept table _ _ act answer (operated_table v.changes (with_reader k) (λ l. refl))
        (record {
          fits = new;
          state = locks_state kept table fits k (standing.Active v) op v.changes leaf (with_reader k) apart_reads (λ j l apart. foreign-with_reader-others j k l apart)
              (put (λ a b. is_eq (leaf_cmp a b)) leaf true v_of.shared) own_read own_see no_row new (said_by answer)
              ∙ ap (site_after (state_of kept table)) (sym is);
          says = ap (said (state_of kept table)) is;
        })

    -- one that writes, where the leaf isn't foreign
    module _ (at : AtKey) (free : is_foreign k (locks_in leaf ls) ≡ false) where
      abbrev more : Changes
      more = fin.insert v.changes (slot_of leaf at.0) at.1

      no_other : (a b c : Bool) → (a || (b || c)) ≡ false → b ≡ false
      no_other true b c e = cc
      no_other false true c e = cc
      no_other false false c e = refl

      not_writing : (j : Ticket) (w : Option Ticket) → is_ticket k j ≡ false → is_other k w ≡ false → is_writer j w ≡ false
      not_writing j None apart none = refl
      not_writing j (Some w) apart none = go (is_writer j (Some w)) refl
        where
          go : (b : Bool) → is_ticket j w ≡ b → b ≡ false
          go true e = clash (ap not (subst (λ x. is_ticket k x ≡ false) (ticket_is j w e) apart)) none
          go false e = refl

      others_write_same : (g : Leaf) (j : Ticket) → is_ticket k j ≡ false → writes j (locked leaf (with_writer k) table.locks g) ≡ writes j (table.locks g)
      others_write_same g j apart = go (is_eq (leaf_cmp g leaf)) refl
        where
          go : (b : Bool) → is_eq (leaf_cmp g leaf) ≡ b → writes j (if b then with_writer k (table.locks g) else table.locks g) ≡ writes j (table.locks g)
          go true e = ticket_sym j k ∙ apart ∙ sym (subst (λ h. writes j (locks_in h ls) ≡ false) (sym (leaf_is g leaf e)) (not_writing j (locks_in leaf ls).writer apart (no_other _ _ _ free)))
          go false e = refl

      own_write : (g : Leaf) → writes k (locked leaf (with_writer k) table.locks g) ≡ touches g more
      own_write g = go (is_eq (leaf_cmp g leaf)) refl ∙ sym (touches_more g (slot_of leaf at.0) at.1 v.changes)
        where
          go : (b : Bool) → is_eq (leaf_cmp g leaf) ≡ b → writes k (if b then with_writer k (table.locks g) else table.locks g) ≡ (is_eq (leaf_cmp g leaf) || touches g v.changes)
          go true e = ticket_self k ∙ sym (ap (λ b. b || touches g v.changes) e)
          go false e = writes_touch g ∙ sym (ap (λ b. b || touches g v.changes) e)

      same_reads : (g : Leaf) → reads k (locked leaf (with_writer k) table.locks g) ≡ reads k (table.locks g)
      same_reads g = go (is_eq (leaf_cmp g leaf))
        where
          go : (b : Bool) → reads k (if b then with_writer k (table.locks g) else table.locks g) ≡ reads k (table.locks g)
          go true = refl
          go false = refl

      same_see : (g : Leaf) → is_foreign k (locked leaf (with_writer k) table.locks g) ≡ is_foreign k (table.locks g)
      same_see g = go (is_eq (leaf_cmp g leaf)) refl
        where
          go : (b : Bool) → is_eq (leaf_cmp g leaf) ≡ b → is_foreign k (if b then with_writer k (table.locks g) else table.locks g) ≡ is_foreign k (table.locks g)
          go true e = let none : is_foreign k (table.locks g) ≡ false = subst (λ h. is_foreign k (locks_in h ls) ≡ false) (sym (leaf_is g leaf e)) free in foreign-with_writer k (table.locks g) none ∙ sym none
          go false e = refl

      pub writes_steps : (act : Act local) → act ≡ acts.Locks (name_of k) (record v_of { done = op; changes = more }) leaf [] →
          Steps kept table kept (volatile_from (set_value (is_at (ticket_cmp k)) entries (standing.Active (record { done = op; changes = more }))) (slice_set ls place (with_writer k (locks_in leaf ls))) active life number) act None
      writes_steps act is =
          let new : Fits kept (record table { standing = stood k (Some (standing.Active (record { done = op; changes = more }))) table.standing; locks = locked leaf (with_writer k) table.locks }) =
          fits_operated kept table fits k op v.changes more v.done leaf (with_writer k) visit (λ j l apart. refl) (λ l. refl) others_write_same own_write low_op in
          steps_at kept kept table _ _ act None (operated_table more (with_writer k) (λ l. refl))
          (record {
            fits = new;
            state = locks_state kept table fits k (standing.Active v) op more leaf (with_writer k) (λ j l apart. refl) (λ j l apart. foreign-with_writer-others j k l apart)
                v_of.shared same_reads same_see no_row new []
                ∙ ap (site_after (state_of kept table)) (sym is);
            says = ap (said (state_of kept table)) is;
          })

  -- ---- an operation is refused, and the visit ends
  pub refused_steps : (k : Ticket) (left : ℕ) → left ≡ active - 1 → IsStrictlySortedBy ticket_cmp (keys_of entries) → is_visit (table.standing k) ≡ true → (act : Act local) (reason : Reason) (answer : Option Reply) →
      answer ≡ Some (reply.Refused (record { ticket = k; reason = reason })) → act ≡ Ends (name_of k) (protocol.Refused (name_of k) (reason_of reason) ∷ []) →
      Steps kept table kept (volatile_from (remove_entry (is_at (ticket_cmp k)) entries) (map (stops k number) ls) left life number) act answer
  refused_steps k left fewer sorted visit act reason answer said is = ends_steps k left fewer sorted visit act answer (is ∙ ap ends (sym said))
    where
      ends : Option Reply → Act local
      ends a = Ends (name_of k) (said_by a)
