-- A letter that asks for no store call does the same whether one would be kept or not.
use Rattle.std.proofs.Common.{◌≡◌, refl, sym, ap, ◌∙◌, subst, ◌==◌, nat_eq, Bool, true, false, List, [], Option, Some, None, inl, inr, ◌⊎◌, ⊎_elim, if◌then◌else◌, ℕ}
use Rattle.std.specs.FinMap as fin
use Rattle.store.specs.declared.letter.Body as bodies
use Rattle.store.specs.declared.letter.Body.TheVariants as body
use Rattle.store.specs.declared.letter.Letter as letters
use Rattle.store.specs.declared.order.Order.TheVariants as order
use Rattle.store.specs.declared.order.Prepare.{Prepare as ToPrepare}
use Rattle.store.specs.declared.prepared.Prepared.{Prepared as Row}
use Rattle.protocol.specs.Language.{Lang, Name}
use Rattle.protocol.specs.Letter.{Body, Letter, Open, Fetch, Write, Prepare, Commit, Abort, Ticket as GivesTicket, Rows, Refused, Voted, Ack, Inquire, is_for_desk}
use Rattle.protocol.specs.Letters.{body_of, name_of, txn_name}
use Rattle.protocol.specs.Site.{SiteState, is_within, on_letter, on_prepare, said, site_after}
use Rattle.protocol.specs.Catalogues.{body_at, status_at}
use Rattle.protocol.specs.Local.{local}
use Rattle.protocol.proofs.Placing.{empty_placed}
use Rattle.protocol.specs.Desk.{Choice, Deed}
use Rattle.protocol.specs.World.{addressed, comes, comes_to, site_steps}
use Rattle.protocol.specs.StatementCourse.{passes, passes_to}
use Rattle.desk.specs.declared.reply.Notice.{Notice}
use Rattle.desk.specs.Database.{Database, language, sent, statements}
use Rattle.site.proofs.Lawful.{local_lawful}
use Rattle.site.specs.declared.tickets.TicketState as standings
use Rattle.site.specs.declared.tickets.TicketState.TheVariants as standing
use Rattle.site.specs.Refusals.{AsksToKeep}
use Rattle.site.specs.State.{VolatileState, stands, visiting}
use Rattle.protocol.specs.Delivery.{CallKept}
use Rattle.world.specs.Machines.{Came, Machines, is_order, world_of}
use Rattle.world.specs.Sites.{Seat, seat_of, state_at, states_of}
use Rattle.world.specs.Listed.{ListCame}
use Rattle.world.specs.Taking.{CameUnless, CameUnlessBy, ListCameUnless}
use Rattle.world.proofs.Reasoned.{order_is}
use Rattle.world.proofs.Seating.{state_there}

-- whether a Prepare of what stands there asks for a store call
abbrev Asks : VolatileState → ToPrepare → Option standings.TicketState → Type 0
Asks table prepare o = AsksToKeep (record table { standing = λ ticket. o }) (body.Order (order.Prepare prepare))

one_or_not : {B : Type 0} (b c : Bool) (read keeps none : B) → (read ≡ keeps → ⊥) → (none ≡ keeps → ⊥) → ((if b then (if c then read else keeps) else none) ≡ keeps) ⊎ (((if b then (if c then read else keeps) else none) ≡ keeps) → ⊥)
one_or_not true true read keeps none apart other = inr apart
one_or_not true false read keeps none apart other = inl refl
one_or_not false c read keeps none apart other = inr other

prepare_or_not : (table : VolatileState) (prepare : ToPrepare) (o : Option standings.TicketState) → Asks table prepare o ⊎ (Asks table prepare o → ⊥)
prepare_or_not table prepare None = inr (λ e. cc)
prepare_or_not table prepare (Some (standing.Prepared txn)) = inr (λ e. cc)
prepare_or_not table prepare (Some (standing.Active visit)) = one_or_not (visit.done == prepare.count) (nat_eq (fin.len visit.changes) 0) _ _ _ (λ e. cc) (λ e. cc)

-- whether a letter does
pub asks_or_not : (table : VolatileState) (told : bodies.Body) → AsksToKeep table told ⊎ (AsksToKeep table told → ⊥)
asks_or_not table (body.Order order.Open) = inr (λ no_call. no_call)
asks_or_not table (body.Order (order.Fetch fetch)) = inr (λ no_call. no_call)
asks_or_not table (body.Order (order.Intend intention)) = inr (λ no_call. no_call)
asks_or_not table (body.Order (order.Prepare prepare)) = prepare_or_not table prepare (table.standing prepare.ticket)
asks_or_not table (body.Order (order.Commit ticket)) = inr (λ no_call. no_call)
asks_or_not table (body.Order (order.Abort ticket)) = inr (λ no_call. no_call)
asks_or_not table (body.Reply reply) = inr (λ no_call. no_call)

-- what is done with a visit where no row is kept
same_choice : {A B : Type 0} (b c also : Bool) → also ≡ c → (read keeps none : B) (x y z n : A) → ((if b then (if c then read else keeps) else none) ≡ keeps → ⊥) → (if b then (if also then x else y) else n) ≡ (if b then (if also then x else z) else n)
same_choice true c true is read keeps none x y z n not_so = refl
same_choice true true false is read keeps none x y z n not_so = absurd cc
same_choice true false false is read keeps none x y z n not_so = absurd (not_so refl)
same_choice false c also is read keeps none x y z n not_so = refl

module _ (db : Database) where
  -- a Prepare of what stands there
  same_prepare : (a : List ℕ) (table : VolatileState) (prepare : ToPrepare) (t k : Name) (row : Option Row) (o : Option standings.TicketState) → table.standing prepare.ticket ≡ o → (Asks table prepare o → ⊥) →
      on_prepare false t k prepare.count (status_at local (statements db) a (stands table prepare.ticket row)) ≡ on_prepare true t k prepare.count (status_at local (statements db) a (stands table prepare.ticket row))
  same_prepare a table prepare t k (Some row) o is keeps_nothing = refl
  same_prepare a table prepare t k None o is keeps_nothing =
      ap (λ x. on_prepare false t k prepare.count (status_at local (statements db) a (visiting table.locks prepare.ticket x))) is ∙ of_standing o keeps_nothing
      ∙ sym (ap (λ x. on_prepare true t k prepare.count (status_at local (statements db) a (visiting table.locks prepare.ticket x))) is)
    where
      of_standing : (o : Option standings.TicketState) → (Asks table prepare o → ⊥) →
          on_prepare false t k prepare.count (status_at local (statements db) a (visiting table.locks prepare.ticket o)) ≡ on_prepare true t k prepare.count (status_at local (statements db) a (visiting table.locks prepare.ticket o))
      of_standing None not_so = refl
      of_standing (Some (standing.Prepared txn)) not_so = refl
      of_standing (Some (standing.Active visit)) not_so = same_choice (visit.done == prepare.count) (nat_eq (fin.len visit.changes) 0) _ (empty_placed local (statements db) local_lawful a visit.changes) _ _ _ _ _ _ _ not_so

  -- a letter at a site
  same_act : (site : List ℕ) (seat : Seat) (t : Name) (told : bodies.Body) → is_order told ≡ true → CallKept {L = language db} false (body_at local (statements db) site (body_of told)) → (AsksToKeep seat.table told → ⊥) →
      on_letter (state_at (statements db) seat) t false (body_at local (statements db) site (body_of told)) ≡ on_letter (state_at (statements db) seat) t true (body_at local (statements db) site (body_of told))
  same_act site seat t (body.Order order.Open) is kept asks_nothing = refl
  same_act site seat t (body.Order (order.Fetch fetch)) is kept asks_nothing = cc
  same_act site seat t (body.Order (order.Intend intention)) is kept asks_nothing = refl
  same_act site seat t (body.Order (order.Prepare prepare)) is kept asks_nothing =
      same_prepare seat.name seat.table prepare t (name_of prepare.ticket) (seat.kept.prepared prepare.ticket) (seat.table.standing prepare.ticket) refl asks_nothing
  same_act site seat t (body.Order (order.Commit ticket)) is kept asks_nothing = cc
  same_act site seat t (body.Order (order.Abort ticket)) is kept asks_nothing = cc
  same_act site seat t (body.Reply reply) is kept asks_nothing = cc

  -- so it may be said to be kept
  module _ (letter : letters.Letter) (before : Machines) (seat : Seat) (there : seat_of letter.site before.seats ≡ Some seat) (is : is_order letter.body ≡ true) (ends : CallKept false (sent db letter).body) (asks_nothing : AsksToKeep seat.table letter.body → ⊥) where
    abbrev here : List Seat → SiteState (language db)
    here seats = states_of (statements db) seats letter.site

    no_desk : is_for_desk (sent db letter).body ≡ false
    no_desk = order_is db letter.site letter.body is

    act_same : on_letter (here before.seats) (txn_name letter.txn) false (sent db letter).body ≡ on_letter (here before.seats) (txn_name letter.txn) true (sent db letter).body
    act_same = subst (λ s. on_letter s (txn_name letter.txn) false (sent db letter).body ≡ on_letter s (txn_name letter.txn) true (sent db letter).body) (sym (state_there (statements db) letter.site before.seats seat there)) (same_act letter.site seat (txn_name letter.txn) letter.body is ends asks_nothing)

    passes_kept : (choice : Choice (language db)) → passes (world_of db before [] []) false choice (sent db letter) ≡ true → passes (world_of db before [] []) true choice (sent db letter) ≡ true
    passes_kept choice within =
        let w = world_of db before [] [] in
        ap (λ (b : Bool). passes_to b w true choice (sent db letter)) no_desk ∙ ap (λ act. is_within (site_after (here before.seats) act)) (sym act_same)
        ∙ sym (ap (λ (b : Bool). passes_to b w false choice (sent db letter)) no_desk) ∙ within

    comes_kept : (choice : Choice (language db)) (waiting : List (Letter (language db))) (past : List (Deed (language db))) → comes (world_of db before waiting past) true choice (sent db letter) ≡ comes (world_of db before waiting past) false choice (sent db letter)
    comes_kept choice waiting past =
        let v = world_of db before waiting past in
        ap (λ (b : Bool). comes_to b v true choice (sent db letter)) no_desk
        ∙ ap (λ act. site_steps v letter.site (site_after (here before.seats) act) (addressed letter.site (txn_name letter.txn) (said (here before.seats) act))) (sym act_same)
        ∙ sym (ap (λ (b : Bool). comes_to b v false choice (sent db letter)) no_desk)

    pub came_kept : (after : Machines) (out : List letters.Letter) (notices : List Notice) → Came db letter false before after out notices → Came db letter true before after out notices
    came_kept after out notices came = record {
      choice = came.choice;
      within = passes_kept came.choice came.within;
      leads = record {
        deeds = came.leads.deeds;
        fit = came.leads.fit;
        is = λ waiting past. comes_kept came.choice waiting past ∙ came.leads.is waiting past;
        version = came.leads.version;
        placed = came.leads.placed;
        explained = came.leads.explained;
        replies = came.leads.replies;
      };
    }

    pub list_came_kept : (after : Machines) (out : List letters.Letter) (notices : List Notice) → ListCame db letter false before after out notices → ListCame db letter true before after out notices
    list_came_kept after out notices came = record {
      choice = came.choice;
      within = passes_kept came.choice came.within;
      leads = record {
        deeds = came.leads.deeds;
        fit = came.leads.fit;
        is = λ waiting past. comes_kept came.choice waiting past ∙ came.leads.is waiting past;
        placed = came.leads.placed;
        explained = came.leads.explained;
        replies = came.leads.replies;
      };
    }

-- a store call that is kept
true_keeps : {L : Lang} (said : Body L) → CallKept true said
true_keeps (Open) = tt
true_keeps (Fetch k op g q) = refl
true_keeps (Write k op g w) = tt
true_keeps (Prepare k n) = tt
true_keeps (Commit k) = refl
true_keeps (Abort k) = refl
true_keeps (GivesTicket k) = tt
true_keeps (Rows k n rows) = tt
true_keeps (Refused k reason) = tt
true_keeps (Voted k vote) = tt
true_keeps (Ack k) = tt
true_keeps (Inquire k) = tt

kept_or : {R : Type 0} (kept : Bool) → (kept ≡ false → R) → (kept ≡ true) ⊎ R
kept_or true refuses = inl refl
kept_or false refuses = inr (refuses refl)

-- it comes so, by whether its store call is kept
module _ (R : Type 0) (db : Database) (letter : letters.Letter) (Comes : Bool → Type 0) where
  comes_spared : (kept : Bool) → CallKept kept (sent db letter).body → Comes kept → (kept ≡ false → R) → CameUnlessBy R db letter Comes
  comes_spared kept ends came refuses = record { kept = kept; came = came; ends = ends; spared = kept_or kept refuses }

  goes_spared : (kept : Bool) (seat : Seat) → CallKept kept (sent db letter).body → Comes kept → (CallKept false (sent db letter).body → (AsksToKeep seat.table letter.body → ⊥) → Comes false → Comes true) → (AsksToKeep seat.table letter.body → kept ≡ false → R) → CameUnlessBy R db letter Comes
  goes_spared true seat ends came same refuses = record { kept = true; came = came; ends = ends; spared = inl refl }
  goes_spared false seat ends came same refuses = ⊎_elim
      (λ asks. record { kept = false; came = came; ends = ends; spared = inr (refuses asks refl) })
      (λ asks_nothing. record { kept = true; came = same ends asks_nothing came; ends = true_keeps (sent db letter).body; spared = inl refl })
      (asks_or_not seat.table letter.body)

module _ (R : Type 0) (db : Database) (letter : letters.Letter) (before after : Machines) (out : List letters.Letter) (notices : List Notice) where
  -- a reply comes to the coordinator
  pub reply_spared : (kept : Bool) → CallKept kept (sent db letter).body → Came db letter kept before after out notices → (kept ≡ false → R) → CameUnless R db letter before after out notices
  reply_spared = comes_spared R db letter (λ kept. Came db letter kept before after out notices)

  pub list_reply_spared : (kept : Bool) → CallKept kept (sent db letter).body → ListCame db letter kept before after out notices → (kept ≡ false → R) → ListCameUnless R db letter before after out notices
  list_reply_spared = comes_spared R db letter (λ kept. ListCame db letter kept before after out notices)

  -- an order comes to its site
  pub order_spared : (kept : Bool) (seat : Seat) → seat_of letter.site before.seats ≡ Some seat → is_order letter.body ≡ true → CallKept kept (sent db letter).body → Came db letter kept before after out notices → (AsksToKeep seat.table letter.body → kept ≡ false → R) →
      CameUnless R db letter before after out notices
  order_spared kept seat there is ends came refuses =
      goes_spared R db letter (λ kept. Came db letter kept before after out notices) kept seat ends came (λ unkept asks_nothing. came_kept db letter before seat there is unkept asks_nothing after out notices) refuses

  pub list_order_spared : (kept : Bool) (seat : Seat) → seat_of letter.site before.seats ≡ Some seat → is_order letter.body ≡ true → CallKept kept (sent db letter).body → ListCame db letter kept before after out notices → (AsksToKeep seat.table letter.body → kept ≡ false → R) →
      ListCameUnless R db letter before after out notices
  list_order_spared kept seat there is ends came refuses =
      goes_spared R db letter (λ kept. ListCame db letter kept before after out notices) kept seat ends came (λ unkept asks_nothing. list_came_kept db letter before seat there is unkept asks_nothing after out notices) refuses
