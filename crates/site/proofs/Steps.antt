-- What the memory's moves make of the state.
use Rattle.std.proofs.Common.{◌≡◌, refl, sym, ap, ◌∙◌, subst, ℕ, suc, ◌≤◌, ◌<◌, ◌||◌, nat_le, Bool, true, false, not, List, [], ◌∷◌, ◌++◌, map, Option, Some, None, is_some, filter, if◌then◌else◌, ⊎_elim, arith}
use Rattle.std.specs.FinMap as fin
use Rattle.std.specs.Ordering.{is_eq}
use Rattle.terms.specs.declared.leaf.Leaf.{Leaf}
use Rattle.terms.specs.Leaf.{leaf_cmp}
use Rattle.store.specs.declared.name.Ticket.{Ticket}
use Rattle.store.specs.declared.prepared.Prepared.{Prepared as Row}
use Rattle.store.specs.Content.{Changes}
use Rattle.store.specs.SiteContent.{SiteContent, is_ticket}
use Rattle.protocol.specs.Language.{Name, same, put}
use Rattle.protocol.specs.Letter.{Body}
use Rattle.protocol.specs.Site.{SiteState, Status, Active, Visit, Opens, Locks, is_dead, sees, new_visit, others_lock, site_after}
use Rattle.protocol.proofs.Basics.{if_true, if_false, clash}
use Rattle.site.specs.declared.locks.Locks as locks
use Rattle.site.specs.declared.tickets.TicketState as standings
use Rattle.site.specs.declared.tickets.TicketState.TheVariants as standing
use Rattle.protocol.specs.Local.{local}
use Rattle.protocol.specs.Letters.{name_of, ticket_of}
use Rattle.site.specs.Locks.{reads, is_foreign, others_have}
use Rattle.site.specs.State.{VolatileState, Fits, state_of, stands, visiting, is_visit, txn_in}
use Rattle.site.specs.Moves.{next_of, stood, locked, opened}
use Rattle.site.proofs.TicketOrder.{same_is, ticket_is, ticket_self, ticket_sym}
use Rattle.site.proofs.Listed.{filter_all, from_names, lives_listed, row_none, lock_is}

map_more : {A B : Type 0} (f : A → B) (xs ys : List A) → map f (xs ++ ys) ≡ map f xs ++ map f ys
map_more f [] ys = refl
map_more f (x ∷ xs) ys = ap (λ l. f x ∷ l) (map_more f xs ys)

-- what stands at each ticket after a change at one
pub stood_all : (k : Ticket) (o : Option standings.TicketState) (f : Ticket → Option standings.TicketState) (Q : Ticket → Option standings.TicketState → Type 0) → Q k o → ((j : Ticket) → is_ticket k j ≡ false → Q j (f j)) → (j : Ticket) → Q j (stood k o f j)
stood_all k o f Q here there j = go (is_ticket k j) refl
  where
    go : (b : Bool) → is_ticket k j ≡ b → Q j (if b then o else f j)
    go true e = subst (λ i. Q i o) (ticket_is k j e) here
    go false e = there j e

-- a visit's status
abbrev pub a_visit : ℕ → Changes → (Leaf → Bool) → (Leaf → Bool) → Status local
a_visit done changes shared foreign = Active (record { done = done; changes = changes; shared = shared; foreign = foreign })

pub visit_is : (done : ℕ) (changes : Changes) (shared shared' foreign foreign' : Leaf → Bool) → ((g : Leaf) → shared g ≡ shared' g) → ((g : Leaf) → foreign g ≡ foreign' g) → a_visit done changes shared foreign ≡ a_visit done changes shared' foreign'
visit_is done changes shared shared' foreign foreign' same seen = λ i. a_visit done changes (λ g. same g i) (λ g. seen g i)

-- who isn't concerned stands as before
pub stays : (old new : VolatileState) (j : Ticket) (row : Option Row) → new.standing j ≡ old.standing j →
    ((g : Leaf) → reads j (new.locks g) ≡ reads j (old.locks g)) → (is_visit (old.standing j) ≡ true → (g : Leaf) → is_foreign j (new.locks g) ≡ is_foreign j (old.locks g)) →
    stands new j row ≡ stands old j row
stays old new j (Some row) same reading seen = refl
stays old new j None same reading seen = ap (visiting new.locks j) same ∙ go (old.standing j) refl
  where
    go : (o : Option standings.TicketState) → old.standing j ≡ o → visiting new.locks j o ≡ visiting old.locks j o
    go None e = refl
    go (Some (standing.Prepared t)) e = refl
    go (Some (standing.Active v)) e = visit_is v.done v.changes _ _ _ _ reading (seen (ap is_visit e))

-- the status of each name
abbrev pub statuses : SiteContent → VolatileState → Name → Status local
statuses kept table = (state_of kept table).status

-- where all that is listed stands, nothing is dropped from the list
pub known_all : (kept : SiteContent) (table : VolatileState) → Fits kept table → (status : Name → Status local) → ((name : Name) → statuses kept table name ≡ status name) →
    map name_of table.tickets ≡ filter (λ j. not (is_dead (status j))) (map name_of table.tickets)
known_all kept table fits status is =
    sym (filter_all (λ j. not (is_dead (status j))) (map name_of table.tickets)
    (λ name here. ap (λ st. not (is_dead st)) (sym (is name)) ∙ ap not (lives_listed kept table fits (ticket_of name) (from_names name table.tickets here))))

module _ (kept : SiteContent) (table : VolatileState) (fits : Fits kept table) where
  abbrev s : SiteState local
  s = state_of kept table

  abbrev next : Ticket
  next = next_of table

  -- nothing stands behind a ticket that isn't drawn
  pub nothing_next : table.standing next ≡ None
  nothing_next = go (table.standing next) refl
    where
      go : (o : Option standings.TicketState) → table.standing next ≡ o → o ≡ None
      go None e = refl
      go (Some o) e = ⊎_elim (λ below. absurd (omega (arith, below))) (λ here. absurd (omega (arith, here.1))) (fits.drawn next (ap is_some e))

  no_reader : (g : Leaf) → reads next (table.locks g) ≡ false
  no_reader g = go (reads next (table.locks g)) refl
    where
      go : (b : Bool) → reads next (table.locks g) ≡ b → b ≡ false
      go true e = clash (fits.readers g next e) (ap is_visit nothing_next)
      go false e = refl

  le_false : (a b : ℕ) → b < a → nat_le a b ≡ false
  le_false a b lt = grind (arith)

  foreign_next : (g : Leaf) → is_foreign next (table.locks g) ≡ others_lock s (name_of next) g
  foreign_next g =
      ap (λ b. b || others_have next (table.locks g)) (le_false (suc table.number) (table.locks g).released (let r : (table.locks g).released ≤ table.number = fits.released g in omega arith))
      ∙ sym (lock_is kept table fits next g)

  opened_at : (j : Ticket) → stands (opened table) j (kept.prepared j) ≡ (if same (name_of j) (name_of next) then Active (new_visit s) else stands table j (kept.prepared j))
  opened_at j = go (is_ticket next j) refl
    where
      go : (b : Bool) → is_ticket next j ≡ b → stands (opened table) j (kept.prepared j) ≡ (if same (name_of j) (name_of next) then Active (new_visit s) else stands table j (kept.prepared j))
      go true e = subst (λ i. stands (opened table) i (kept.prepared i) ≡ (if same (name_of i) (name_of next) then Active (new_visit s) else stands table i (kept.prepared i))) (ticket_is next j e)
          (ap (stands (opened table) next) (row_none kept table fits next (ap txn_in nothing_next))
          ∙ ap (visiting table.locks next) (if_true (is_ticket next next) _ (table.standing next) (ticket_self next))
          ∙ visit_is 0 fin.empty _ _ _ _ no_reader foreign_next
          ∙ sym (if_true (same (name_of next) (name_of next)) (Active (new_visit s)) _ (same_is next next ∙ ticket_self next)))
      go false e =
          stays table (opened table) j (kept.prepared j) (if_false (is_ticket next j) _ (table.standing j) e) (λ g. refl) (λ visit g. refl)
          ∙ sym (if_false (same (name_of j) (name_of next)) (Active (new_visit s)) _ (same_is j next ∙ ticket_sym j next ∙ e))

  -- a ticket is drawn
  pub opens_state : Fits kept (opened table) → state_of kept (opened table) ≡ site_after s Opens
  opens_state new =
      let known = ap (map name_of) refl ∙ known_all kept (opened table) new (put same (name_of next) (Active (new_visit s)) s.status) (λ name. opened_at (ticket_of name))
      ∙ ap (filter (λ j. not (is_dead (put same (name_of next) (Active (new_visit s)) s.status j)))) (map_more name_of table.tickets (next ∷ [])) in
      λ i. record { kept = kept.content; status = λ name. opened_at (ticket_of name) i; known = known i; life = table.life; number = suc table.number }

  -- an operation: the visit has locked a leaf
  module _ (k : Ticket) (visit : standings.TicketState) (op : ℕ) (changes : Changes) (leaf : Leaf) (step : locks.Locks → locks.Locks) where
    abbrev operated : VolatileState
    operated = record table { standing = stood k (Some (standing.Active (record { done = op; changes = changes }))) table.standing; locks = locked leaf step table.locks }

    at_leaf : (Q : locks.Locks → locks.Locks → Type 0) → ((l : locks.Locks) → Q (step l) l) → (g : Leaf) → is_eq (leaf_cmp g leaf) ≡ true → Q (locked leaf step table.locks g) (table.locks g)
    at_leaf Q all g e = subst (λ l. Q l (table.locks g)) (sym (if_true (is_eq (leaf_cmp g leaf)) (step (table.locks g)) (table.locks g) e)) (all (table.locks g))

    off_leaf : (g : Leaf) → is_eq (leaf_cmp g leaf) ≡ false → locked leaf step table.locks g ≡ table.locks g
    off_leaf g e = if_false (is_eq (leaf_cmp g leaf)) (step (table.locks g)) (table.locks g) e

    module _ (others_read : (j : Ticket) (l : locks.Locks) → is_ticket j k ≡ false → reads j (step l) ≡ reads j l)
        (others_see : (j : Ticket) (l : locks.Locks) → is_ticket j k ≡ false → is_foreign j (step l) ≡ true) where
      read_at : (j : Ticket) → is_ticket j k ≡ false → (g : Leaf) → reads j (locked leaf step table.locks g) ≡ reads j (table.locks g)
      read_at j apart g = go (is_eq (leaf_cmp g leaf)) refl
        where
          go : (b : Bool) → is_eq (leaf_cmp g leaf) ≡ b → reads j (if b then step (table.locks g) else table.locks g) ≡ reads j (table.locks g)
          go true e = others_read j (table.locks g) apart
          go false e = refl

      see_at : (j : Ticket) → is_ticket j k ≡ false → (g : Leaf) → is_foreign j (locked leaf step table.locks g) ≡ put (λ a b. is_eq (leaf_cmp a b)) leaf true (λ h. is_foreign j (table.locks h)) g
      see_at j apart g = go (is_eq (leaf_cmp g leaf)) refl
        where
          go : (b : Bool) → is_eq (leaf_cmp g leaf) ≡ b → is_foreign j (if b then step (table.locks g) else table.locks g) ≡ (if b then true else is_foreign j (table.locks g))
          go true e = others_see j (table.locks g) apart
          go false e = refl

      other_sees : (j : Ticket) → is_ticket j k ≡ false → (row : Option Row) → stands operated j row ≡ sees leaf (stands table j row)
      other_sees j apart (Some row) = refl
      other_sees j apart None = ap (visiting (locked leaf step table.locks) j) (if_false (is_ticket k j) _ (table.standing j) (ticket_sym k j ∙ apart)) ∙ go (table.standing j)
        where
          go : (o : Option standings.TicketState) → visiting (locked leaf step table.locks) j o ≡ sees leaf (visiting table.locks j o)
          go None = refl
          go (Some (standing.Prepared t)) = refl
          go (Some (standing.Active v)) = visit_is v.done v.changes _ _ _ _ (read_at j apart) (see_at j apart)

      module _ (shared : Leaf → Bool) (own_read : (g : Leaf) → reads k (locked leaf step table.locks g) ≡ shared g) (own_see : (g : Leaf) → is_foreign k (locked leaf step table.locks g) ≡ is_foreign k (table.locks g)) (row : kept.prepared k ≡ None) where
        abbrev did : Visit local
        did = record { done = op; changes = changes; shared = shared; foreign = λ g. is_foreign k (table.locks g) }

        operated_at : (j : Ticket) → stands operated j (kept.prepared j) ≡ put same (name_of k) (Active did) (λ n. sees leaf (s.status n)) (name_of j)
        operated_at j = go (is_ticket k j) refl
          where
            go : (b : Bool) → is_ticket k j ≡ b → stands operated j (kept.prepared j) ≡ (if same (name_of j) (name_of k) then Active did else sees leaf (stands table j (kept.prepared j)))
            go true e = subst (λ i. stands operated i (kept.prepared i) ≡ (if same (name_of i) (name_of k) then Active did else sees leaf (stands table i (kept.prepared i)))) (ticket_is k j e)
                (ap (stands operated k) row
                ∙ ap (visiting (locked leaf step table.locks) k) (if_true (is_ticket k k) _ (table.standing k) (ticket_self k))
                ∙ visit_is op changes _ _ _ _ own_read own_see
                ∙ sym (if_true (same (name_of k) (name_of k)) (Active did) _ (same_is k k ∙ ticket_self k)))
            go false e =
                other_sees j (ticket_sym j k ∙ e) (kept.prepared j)
                ∙ sym (if_false (same (name_of j) (name_of k)) (Active did) _ (same_is j k ∙ ticket_sym j k ∙ e))

        pub locks_state : Fits kept operated → (replies : List (Body local)) → state_of kept operated ≡ site_after s (Locks (name_of k) did leaf replies)
        locks_state new replies =
            let known = known_all kept operated new (put same (name_of k) (Active did) (λ n. sees leaf (s.status n))) (λ name. operated_at (ticket_of name)) in
            λ i. record { kept = kept.content; status = λ name. operated_at (ticket_of name) i; known = known i; life = table.life; number = table.number }

  -- what a ticket that lets go of locks leaves to the others
  module _ (k : Ticket) (o : Option standings.TicketState) (step : locks.Locks → locks.Locks) (row : Option Row) (status : Status local)
      (others_read : (j : Ticket) (l : locks.Locks) → is_ticket j k ≡ false → reads j (step l) ≡ reads j l)
      (others_see : (j : Ticket) (l : locks.Locks) → is_ticket j k ≡ false → j.visit ≤ table.number → is_foreign j (step l) ≡ is_foreign j l)
      (new : VolatileState) (standing_is : new.standing ≡ stood k o table.standing) (locks_are : new.locks ≡ (λ g. step (table.locks g)))
      (after : SiteContent) (rows : (j : Ticket) → after.prepared j ≡ (if is_ticket k j then row else kept.prepared j)) (here : stands new k row ≡ status) where
    pub let_go_at : (j : Ticket) → stands new j (after.prepared j) ≡ put same (name_of k) status s.status (name_of j)
    let_go_at j = go (is_ticket k j) refl
      where
        go : (b : Bool) → is_ticket k j ≡ b → stands new j (after.prepared j) ≡ (if same (name_of j) (name_of k) then status else stands table j (kept.prepared j))
        go true e = subst (λ i. stands new i (after.prepared i) ≡ (if same (name_of i) (name_of k) then status else stands table i (kept.prepared i))) (ticket_is k j e)
            (ap (stands new k) (rows k ∙ if_true (is_ticket k k) row _ (ticket_self k)) ∙ here
            ∙ sym (if_true (same (name_of k) (name_of k)) status _ (same_is k k ∙ ticket_self k)))
        go false e =
            let apart = ticket_sym j k ∙ e in
            ap (stands new j) (rows j ∙ if_false (is_ticket k j) row (kept.prepared j) e)
            ∙ stays table new j (kept.prepared j)
            (ap (λ f. f j) standing_is ∙ if_false (is_ticket k j) o (table.standing j) e)
            (λ g. ap (λ f. reads j (f g)) locks_are ∙ others_read j (table.locks g) apart)
            (λ visit g. ap (λ f. is_foreign j (f g)) locks_are ∙ others_see j (table.locks g) apart (fits.fresh j visit).1)
            ∙ sym (if_false (same (name_of j) (name_of k)) status _ (same_is j k ∙ apart))
