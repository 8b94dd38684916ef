-- Why a letter isn't taken, from what the machines tell.
use Rattle.std.proofs.Common.{◌≡◌, ◌≢◌, ◌≤◌, refl, sym, ap, ◌∙◌, subst, ℕ, ◌+◌, ◌&&◌, ◌||◌, not, Bool, true, false, cond, List, [], ◌∷◌, ◌++◌, if◌then◌else◌, inl, inr, ◌⊎◌, ⊎_elim, Some, None, Result, Ok, Err, IfErr, arith}
use Rattle.std.specs.Ordering.{is_eq}
use Rattle.std.specs.List.{AllByRecursion, list_any, position_from}
use Rattle.terms.specs.declared.leaf.Leaf.{Leaf}
use Rattle.terms.specs.Leaf.{leaf_cmp}
use Rattle.store.specs.declared.letter.Body as bodies
use Rattle.store.specs.declared.letter.Body.TheVariants as body
use Rattle.store.specs.declared.letter.Letter as letters
use Rattle.store.specs.declared.fault.StoreFault.{StoreFault}
use Rattle.store.specs.declared.order.Order as orders
use Rattle.store.specs.declared.order.Order.TheVariants as order
use Rattle.store.specs.declared.reply.Reply as replies
use Rattle.store.specs.declared.reply.Reply.TheVariants as reply_kinds
use Rattle.meaning.specs.declared.answer.Answer.TheVariants.{Exists}
use Rattle.protocol.specs.StatementCourse.{passes, passes_to}
use Rattle.protocol.specs.Delivery.{IsAtLimit}
use Rattle.protocol.specs.Desk.{Choice, Deed, Desk, Idle, Known, Reading, Row, Stage, Transition, Txn, Unknown, Voting, Writing, are_acked, desk_after, is_desk_within, is_named, is_pair, is_short_txn, is_undecided, on_desk_letter, on_rows}
use Rattle.protocol.specs.Language.{Lang, Name}
use Rattle.protocol.specs.Home.{IsAtHome, IsHomed}
use Rattle.protocol.specs.Letter.{Abort, Ack, Body, Commit, Fetch, Inquire, Letter, Open, Prepare, Refused, Rows, Ticket, Voted, Write, is_for_desk}
use Rattle.protocol.specs.Letters.{body_of, leaf_of, txn_name}
use Rattle.protocol.specs.Rounds.{is_reading, rank, rank_in}
use Rattle.protocol.specs.Local.{local}
use Rattle.protocol.specs.Serial.{AllExplained}
use Rattle.protocol.specs.Site.{Act, SiteState, is_within, on_letter, site_after}
use Rattle.protocol.specs.Catalogues.{body_at, site_at}
use Rattle.protocol.specs.World.{World}
use Rattle.protocol.proofs.Basics.{by_test, clash, either}
use Rattle.protocol.proofs.Limits.{OfTheEnd, end_within, turn_within}
use Rattle.protocol.proofs.Placing.{act_same, after_same, within_same}
use Rattle.site.specs.declared.fault.SiteFault as site_faults
use Rattle.site.specs.declared.fault.SiteFault.TheVariants as site_fault
use Rattle.site.specs.declared.locks.Locks.{Locks}
use Rattle.site.specs.Refusals as site
use Rattle.site.specs.Locks.{leaves_in}
use Rattle.site.specs.State.{state_of}
use Rattle.site.proofs.Lawful.{local_lawful}
use Rattle.site.proofs.Limited.{fits_within}
use Rattle.desk.specs.declared.refusal.Refusal as refusals
use Rattle.desk.specs.declared.refusal.Refusal.TheVariants as refusal
use Rattle.desk.specs.Request.{txn_in}
use Rattle.desk.specs.Database.{Database, IsPlace, language, replied, sent, statements}
use Rattle.desk.specs.Does.{IsPastLimits}
use Rattle.desk.specs.State.{desk_of}
use Rattle.world.specs.declared.fault.Fault as faults
use Rattle.world.specs.declared.fault.Fault.TheVariants as fault
use Rattle.world.specs.Listed.{FitsList}
use Rattle.world.specs.Machines.{Machines, is_order, world_of}
use Rattle.world.specs.Reasons.{SiteTells, Tells, TurnsAway}
use Rattle.world.specs.declared.sites.SiteAction as doing
use Rattle.world.specs.declared.sites.SiteAction.TheVariants.{Take}
use Rattle.world.specs.Sites.{IsSeated, Seat, has_site, is_called, seat_of, state_at, states_of}
use Rattle.world.specs.Taking.{stop_of, turns_away}
use Rattle.world.proofs.Seating.{HasItsLeaves, name_is, seat_has, seat_named, state_there}

-- any answer, where none is asked for
abbrev pub no_choice : (db : Database) → Choice (language db)
no_choice db = (Exists, [])

-- an order is for no coordinator
pub order_is : (db : Database) (site : List ℕ) (body : bodies.Body) → is_order body ≡ true → is_for_desk (body_at local (statements db) site (body_of body)) ≡ false
order_is db site (body.Order order.Open) is = refl
order_is db site (body.Order (order.Fetch fetch)) is = refl
order_is db site (body.Order (order.Intend intention)) is = refl
order_is db site (body.Order (order.Prepare prepare)) is = refl
order_is db site (body.Order (order.Commit ticket)) is = refl
order_is db site (body.Order (order.Abort ticket)) is = refl
order_is db site (body.Reply reply) is = absurd cc

-- sites that fit are within their limits
pub seats_within : (db : Database) (seats : List Seat) (name : List ℕ) → AllByRecursion IsSeated seats → is_within (states_of (statements db) seats name) ≡ true
seats_within db [] name seated = refl
seats_within db (seat ∷ seats) name seated = go (is_called name seat) (within_same local (statements db) local_lawful seat.name (state_of seat.kept seat.table) ∙ fits_within seat.kept seat.table seated.0) (seats_within db seats name seated.1)
  where
    go : (b : Bool) → is_within (state_at (statements db) seat) ≡ true → is_within (states_of (statements db) seats name) ≡ true →
        is_within (if b then state_at (statements db) seat else states_of (statements db) seats name) ≡ true
    go true here later = here
    go false here later = later

-- ---- what a site tells
-- a letter in the world of these machines is at a limit
abbrev AreAtLimit : Database → Machines → letters.Letter → Type 0
AreAtLimit db machines letter = IsAtLimit (world_of db machines [] []) (sent db letter)

-- an operation on a leaf that isn't one of these
abbrev IsElsewhere : List Leaf → orders.Order → Type 0
IsElsewhere leaves order.Open = ⊥
IsElsewhere leaves (order.Fetch fetch) = list_any (λ leaf. is_eq (leaf_cmp fetch.leaf leaf)) leaves ≡ false
IsElsewhere leaves (order.Intend intention) = list_any (λ leaf. is_eq (leaf_cmp (leaf_of intention.write) leaf)) leaves ≡ false
IsElsewhere leaves (order.Prepare prepare) = ⊥
IsElsewhere leaves (order.Commit ticket) = ⊥
IsElsewhere leaves (order.Abort ticket) = ⊥

abbrev AsksElsewhere : List Leaf → bodies.Body → Type 0
AsksElsewhere leaves (body.Order order) = IsElsewhere leaves order
AsksElsewhere leaves (body.Reply reply) = ⊥

none_among : (leaf : Leaf) (locks : List Locks) (place : ℕ) → position_from (λ (other : Locks). is_eq (leaf_cmp leaf other.leaf)) place locks ≡ None → list_any (λ other. is_eq (leaf_cmp leaf other)) (leaves_in locks) ≡ false
none_among leaf [] place none = refl
none_among leaf (first ∷ locks) place none = go (is_eq (leaf_cmp leaf first.leaf)) none (none_among leaf locks (place + 1))
  where
    go : (b : Bool) → cond b (Some place) (position_from (λ (other : Locks). is_eq (leaf_cmp leaf other.leaf)) (place + 1) locks) ≡ None →
        (position_from (λ (other : Locks). is_eq (leaf_cmp leaf other.leaf)) (place + 1) locks ≡ None → list_any (λ other. is_eq (leaf_cmp leaf other)) (leaves_in locks) ≡ false) →
        (b || list_any (λ other. is_eq (leaf_cmp leaf other)) (leaves_in locks)) ≡ false
    go true e later = cc
    go false e later = later e

elsewhere : (locks : List Locks) (said : bodies.Body) → site.AsksElsewhere locks said → AsksElsewhere (leaves_in locks) said
elsewhere locks (body.Order order.Open) none = none
elsewhere locks (body.Order (order.Fetch fetch)) none = none_among fetch.leaf locks 0 none
elsewhere locks (body.Order (order.Intend intention)) none = none_among (leaf_of intention.write) locks 0 none
elsewhere locks (body.Order (order.Prepare prepare)) none = none
elsewhere locks (body.Order (order.Commit ticket)) none = none
elsewhere locks (body.Order (order.Abort ticket)) none = none
elsewhere locks (body.Reply reply) none = none

pub site_tells : {T : Type 0} (result : Result T site_faults.SiteFault) (seat : Seat) (locks : List Locks) (letter : letters.Letter) → seat.leaves ≡ leaves_in locks →
    (IsSeated seat → result ≡ Err site_fault.Full → site.IsPastLimits seat.kept seat.table letter) → (result ≡ Err site_fault.Stranger → site.AsksElsewhere locks letter.body) → ((fault : StoreFault) → result ≡ Err (site_fault.Store fault) → site.AsksStore seat.table letter.body) → IfErr result (SiteTells seat letter)
site_tells (Ok x) seat locks letter same full strange calls = tt
site_tells (Err site_fault.Memory) seat locks letter same full strange calls = tt
site_tells (Err (site_fault.Store why)) seat locks letter same full strange calls = calls why refl
site_tells (Err site_fault.Full) seat locks letter same full strange calls = λ seated. full seated refl
site_tells (Err site_fault.Stranger) seat locks letter same full strange calls = (locks, sym same, strange refl)

-- ---- what the coordinator tells
pub passes_is : (db : Database) (machines : Machines) (letter : letters.Letter) (reply : replies.Reply) → letter.body ≡ body.Reply reply → (kept : Bool) (choice : Choice (language db)) →
    passes (world_of db machines [] []) kept choice (sent db letter) ≡ is_desk_within (desk_after (desk_of db machines.table) (txn_name letter.txn) (on_desk_letter (txn_name letter.txn) letter.site kept choice (replied db letter.site reply) (txn_in db machines.table letter.txn)).txn)
passes_is db machines letter reply is kept choice = ap (λ said. passes (world_of db machines [] []) kept choice (as_sent said)) is ∙ go reply
  where
    as_sent : bodies.Body → Letter (language db)
    as_sent said = record { site = letter.site; txn = txn_name letter.txn; body = body_at local (statements db) letter.site (body_of said) }

    go : (r : replies.Reply) → passes (world_of db machines [] []) kept choice (as_sent (body.Reply r)) ≡ is_desk_within (desk_after (desk_of db machines.table) (txn_name letter.txn) (on_desk_letter (txn_name letter.txn) letter.site kept choice (replied db letter.site r) (txn_in db machines.table letter.txn)).txn)
    go (reply_kinds.Ticket ticket) = refl
    go (reply_kinds.Rows rows) = refl
    go (reply_kinds.Refused refusal) = refl
    go (reply_kinds.Voted voted) = refl
    go (reply_kinds.Ack ticket) = refl
    go (reply_kinds.Inquire ticket) = refl

pub desk_tells : {T : Type 0} (db : Database) (machines : Machines) (letter : letters.Letter) (result : Result T refusals.Refusal) (reply : replies.Reply) → letter.body ≡ body.Reply reply → is_order letter.body ≡ false →
    IfErr result (λ told. (told ≡ refusal.Memory) ⊎ (told ≡ refusal.Full)) →
    (result ≡ Err refusal.Full → IsPastLimits db machines.table letter.txn (λ choice. on_desk_letter (txn_name letter.txn) letter.site true choice (replied db letter.site reply) (txn_in db machines.table letter.txn))) → IfErr result (λ told. Tells db machines letter (fault.Desk told))
desk_tells db machines letter (Ok x) reply is for_desk own full = tt
desk_tells db machines letter (Err told) reply is for_desk (inl memory) full = inl memory
desk_tells db machines letter (Err told) reply is for_desk (inr limit) full =
    let past = full (ap Err limit) in
    inr (
      limit,
      record {
        choice = past.choice;
        explained = subst (λ (said : bodies.Body). AllExplained (on_desk_letter (txn_name letter.txn) letter.site true past.choice (body_at local (statements db) letter.site (body_of said)) (txn_in db machines.table letter.txn)).deeds) (sym is) past.explained;
        past = passes_is db machines letter reply is true past.choice ∙ past.past;
      },
    )

-- ---- what a site tells, as the protocol has it
order_deeds : (db : Database) (t : Name) (a : List ℕ) (choice : Choice (language db)) (order : orders.Order) (x : Txn (language db)) → AllExplained (on_desk_letter t a true choice (body_at local (statements db) a (body_of (body.Order order))) x).deeds
order_deeds db t a choice order.Open Unknown = tt
order_deeds db t a choice order.Open (Known u) = tt
order_deeds db t a choice order.Open (Row voters acked) = tt
order_deeds db t a choice (order.Fetch fetch) Unknown = tt
order_deeds db t a choice (order.Fetch fetch) (Known u) = tt
order_deeds db t a choice (order.Fetch fetch) (Row voters acked) = tt
order_deeds db t a choice (order.Intend intention) Unknown = tt
order_deeds db t a choice (order.Intend intention) (Known u) = tt
order_deeds db t a choice (order.Intend intention) (Row voters acked) = tt
order_deeds db t a choice (order.Prepare prepare) Unknown = tt
order_deeds db t a choice (order.Prepare prepare) (Known u) = tt
order_deeds db t a choice (order.Prepare prepare) (Row voters acked) = tt
order_deeds db t a choice (order.Commit ticket) Unknown = tt
order_deeds db t a choice (order.Commit ticket) (Known u) = tt
order_deeds db t a choice (order.Commit ticket) (Row voters acked) = tt
order_deeds db t a choice (order.Abort ticket) Unknown = tt
order_deeds db t a choice (order.Abort ticket) (Known u) = tt
order_deeds db t a choice (order.Abort ticket) (Row voters acked) = tt

-- a reply leads no site past its limits
reply_within : (s : SiteState local) (t : Name) (reply : replies.Reply) → is_within (site_after s (on_letter s t true (body_of (body.Reply reply)))) ≡ is_within s
reply_within s t (reply_kinds.Ticket ticket) = refl
reply_within s t (reply_kinds.Rows rows) = refl
reply_within s t (reply_kinds.Refused refusal) = refl
reply_within s t (reply_kinds.Voted voted) = refl
reply_within s t (reply_kinds.Ack ticket) = refl
reply_within s t (reply_kinds.Inquire ticket) = refl

module _ (db : Database) (machines : Machines) (letter : letters.Letter) (fit : FitsList db machines) (seat : Seat) (there : seat_of letter.site machines.seats ≡ Some seat) where
  abbrev here : SiteState local
  here = state_of seat.kept seat.table

  abbrev act : Act local
  act = on_letter here (txn_name letter.txn) true (body_of letter.body)

  named : seat.name ≡ letter.site
  named = seat_named letter.site machines.seats seat there

  past_there : is_order letter.body ≡ true → (choice : Choice (language db)) → is_within (site_after here act) ≡ false → passes (world_of db machines [] []) true choice (sent db letter) ≡ false
  past_there order choice past =
      let S = statements db in
      ap (λ (b : Bool). passes_to b (world_of db machines [] []) true choice (sent db letter)) (order_is db letter.site letter.body order)
      ∙ ap (λ (s : SiteState (language db)). is_within (site_after s (on_letter s (txn_name letter.txn) true (body_at local S letter.site (body_of letter.body))))) (state_there S letter.site machines.seats seat there ∙ ap (λ n. site_at local S n here) named)
      ∙ ap (λ (a : Act (language db)). is_within (site_after (site_at local S letter.site here) a)) (sym (act_same local S local_lawful letter.site here (txn_name letter.txn) true (body_of letter.body)))
      ∙ ap is_within (sym (after_same local S local_lawful letter.site here act))
      ∙ within_same local S local_lawful letter.site (site_after here act)
      ∙ past

  -- a site that is full
  limit_at : site.IsPastLimits seat.kept seat.table letter → AreAtLimit db machines letter
  limit_at past = go letter.body refl
    where
      go : (said : bodies.Body) → letter.body ≡ said → AreAtLimit db machines letter
      go (body.Order order) is = record {
        choice = no_choice db;
        explained = subst (λ (said : bodies.Body). AllExplained (on_desk_letter (txn_name letter.txn) letter.site true (no_choice db) (body_at local (statements db) letter.site (body_of said)) (txn_in db machines.table letter.txn)).deeds) (sym is) (order_deeds db (txn_name letter.txn) letter.site (no_choice db) order (txn_in db machines.table letter.txn));
        past = past_there (ap is_order is) (no_choice db) past;
      }
      go (body.Reply reply) is = absurd (clash (fits_within seat.kept seat.table (seat_has IsSeated letter.site machines.seats seat there fit.sites))
          (sym (reply_within here (txn_name letter.txn) reply) ∙ subst (λ (said : bodies.Body). is_within (site_after here (on_letter here (txn_name letter.txn) true (body_of said))) ≡ false) is past))

  -- where a site hasn't the leaf no catalogue puts it
  astray_at : SiteTells seat letter site_fault.Stranger → IsHomed (language db) (IsPlace db) (sent db letter) → ⊥
  astray_at strange homed = go letter.body (subst (λ (leaves : List Leaf). AsksElsewhere leaves letter.body) strange.1 (elsewhere strange.0 letter.body strange.2)) homed
    where
      here_is : (leaf : Leaf) → IsPlace db (letter.site, leaf) → list_any (λ other. is_eq (leaf_cmp leaf other)) seat.leaves ≡ false → ⊥
      here_is leaf home none = clash (seat_has (HasItsLeaves db) letter.site machines.seats seat there fit.leaves leaf (subst (λ n. IsPlace db (n, leaf)) (sym named) home)) none

      go : (said : bodies.Body) → AsksElsewhere seat.leaves said → IsAtHome (language db) (IsPlace db) (body_at local (statements db) letter.site (body_of said)) → ⊥
      go (body.Order order.Open) none home = none
      go (body.Order (order.Fetch fetch)) none home = here_is fetch.leaf home none
      go (body.Order (order.Intend intention)) none home = here_is (leaf_of intention.write) home none
      go (body.Order (order.Prepare prepare)) none home = none
      go (body.Order (order.Commit ticket)) none home = none
      go (body.Order (order.Abort ticket)) none home = none
      go (body.Reply reply) none home = none

-- ---- which case it is
pub turned_away : (db : Database) (machines : Machines) (letter : letters.Letter) → FitsList db machines → (told : faults.Fault) → Tells db machines letter told → turns_away told ≡ true → TurnsAway db machines letter
turned_away db machines letter fit (fault.Desk told) (inl memory) is = clash is (ap (λ t. turns_away (fault.Desk t)) memory)
turned_away db machines letter fit (fault.Desk told) (inr full) is = inl full.1
turned_away db machines letter fit (fault.Site site_fault.Full) tells is = inl (limit_at db machines letter fit tells.0 tells.1.0 (tells.1.1 (seat_has IsSeated letter.site machines.seats tells.0 tells.1.0 fit.sites)))
turned_away db machines letter fit (fault.Site site_fault.Stranger) tells is = inr (astray_at db machines letter fit tells.0 tells.1.0 tells.1.1)
turned_away db machines letter fit (fault.Site site_fault.Memory) tells is = cc
turned_away db machines letter fit (fault.Site (site_fault.Store why)) tells is = cc
turned_away db machines letter fit fault.Unsent tells is = cc

pub is_unsent : (db : Database) (machines : Machines) (letter : letters.Letter) (told : faults.Fault) → Tells db machines letter told → stop_of told ≡ None → turns_away told ≡ false → has_site db.sites letter.site ≡ false
is_unsent db machines letter (fault.Desk told) (inl memory) goes_on is = let e = sym (ap (λ t. stop_of (fault.Desk t)) memory) ∙ goes_on in cc
is_unsent db machines letter (fault.Desk told) (inr full) goes_on is = let e = sym (ap (λ t. turns_away (fault.Desk t)) full.0) ∙ is in cc
is_unsent db machines letter (fault.Site site_fault.Full) tells goes_on is = cc
is_unsent db machines letter (fault.Site site_fault.Stranger) tells goes_on is = cc
is_unsent db machines letter (fault.Site site_fault.Memory) tells goes_on is = cc
is_unsent db machines letter (fault.Site (site_fault.Store why)) tells goes_on is = cc
is_unsent db machines letter fault.Unsent tells goes_on is = tells

-- what waits, and what happened, doesn't matter to limits
pub same_passes : (db : Database) (b : Bool) (machines : Machines) (waiting : List (Letter (language db))) (past : List (Deed (language db))) (kept : Bool) (choice : Choice (language db)) (l : Letter (language db)) → passes_to b (world_of db machines waiting past) kept choice l ≡ passes_to b (world_of db machines [] []) kept choice l
same_passes db true machines waiting past kept choice l = refl
same_passes db false machines waiting past kept choice l = refl

-- ---- a letter that is turned away ranks at least two
module _ {L : Lang} where
  end_for_site : (c : Body L) → OfTheEnd c → is_for_desk c ≡ false
  end_for_site (Prepare k n) end = refl
  end_for_site (Commit k) end = refl
  end_for_site (Abort k) end = refl
  end_for_site Open end = absurd end
  end_for_site (Fetch k op g q) end = absurd end
  end_for_site (Write k op g x) end = absurd end
  end_for_site (Ticket k) end = absurd end
  end_for_site (Rows k n rows) end = absurd end
  end_for_site (Refused k reason) end = absurd end
  end_for_site (Voted k x) end = absurd end
  end_for_site (Ack k) end = absurd end
  end_for_site (Inquire k) end = absurd end

  -- what ends a visit leads no site past its limits
  pub end_passes : (w : World L) (kept : Bool) (choice : Choice L) (l : Letter L) → is_within (w.sites l.site) ≡ true → OfTheEnd l.body → passes w kept choice l ≡ true
  end_passes w kept choice l within end = ap (λ (b : Bool). passes_to b w kept choice l) (end_for_site l.body end) ∙ end_within (w.sites l.site) within l.txn kept l.body end

  -- no more operations, and nobody begins
  abbrev Calms : Txn L → Txn L → Type 0
  Calms x y = (is_short_txn x ≡ true → is_short_txn y ≡ true) × (is_undecided y ≡ true → is_undecided x ≡ true)

  same_calms : (x y : Txn L) → y ≡ x → Calms x y
  same_calms x y e = (λ is. ap is_short_txn e ∙ is, λ is. sym (ap is_undecided e) ∙ is)

  rows_calm : (t : Name) (a : L.Site) (kept : Bool) (choice : Choice L) (k : Name) (n : ℕ) (rows : L.Rows) (x : Txn L) → is_reading x ≡ false → (on_desk_letter t a kept choice (Rows k n rows) x).txn ≡ x
  rows_calm t a kept choice k n rows Unknown idle = refl
  rows_calm t a kept choice k n rows (Row voters acked) idle = refl
  rows_calm t a kept choice k n rows (Known u) idle = either (λ (turn : Transition L). turn.txn ≡ Known u) (is_named (u.ticket a) k) _ _ (go u.stage idle) refl
    where
      go : (stage : Stage L) → Rattle.protocol.specs.Rounds.is_stage_reading stage ≡ false → (on_rows t u a n rows choice stage).txn ≡ Known u
      go Idle idle = refl
      go (Reading s asks) idle = cc
      go (Writing answer ws) idle = refl
      go (Voting votes) idle = refl

  ack_calm : (t : Name) (a : L.Site) (kept : Bool) (choice : Choice L) (k : Name) (x : Txn L) → Calms x (on_desk_letter t a kept choice (Ack k) x).txn
  ack_calm t a kept choice k Unknown = same_calms Unknown Unknown refl
  ack_calm t a kept choice k (Known u) = same_calms (Known u) (Known u) refl
  ack_calm t a kept choice k (Row voters acked) =
      let none : Calms (Row voters acked) Unknown = (λ is. refl, λ is. cc) in
      let row : (more : List (L.Site × Name)) → Calms (Row voters acked) (Row voters more) = λ more. (λ is. refl, λ is. is) in
      either (λ (turn : Transition L). Calms (Row voters acked) turn.txn) (list_any (is_pair L a k) voters && not (list_any (is_pair L a k) acked)) _ _
      (either (λ (turn : Transition L). Calms (Row voters acked) turn.txn) (are_acked L voters (acked ++ (a, k) ∷ [])) _ _ (either (λ (turn : Transition L). Calms (Row voters acked) turn.txn) kept _ _ none (row acked)) (row (acked ++ (a, k) ∷ []))) (row acked)

  calms_within : (d : Desk L) (t : Name) (y : Txn L) → Calms (d.txn t) y → is_desk_within d ≡ true → is_desk_within (desk_after d t y) ≡ true
  calms_within d t y calms within = turn_within d t y calms.0 calms.1 within

pub turned_ranks : (db : Database) (machines : Machines) (letter : letters.Letter) → FitsList db machines → TurnsAway db machines letter → 2 ≤ rank_in (desk_of db machines.table).txn (sent db letter)
turned_ranks db machines letter fit why = by_reason why
  where
    d : Desk (language db)
    d = desk_of db machines.table

    x : Txn (language db)
    x = d.txn (txn_name letter.txn)

    open_rank : (r : Bool) → 2 ≤ rank {L = language db} r Rattle.protocol.specs.Letter.Open
    open_rank true = omega arith
    open_rank false = omega arith

    fetch_rank : (r : Bool) (k : Name) (n : ℕ) (g : (language db).Leaf) (q : (language db).Query) → 2 ≤ rank {L = language db} r (Rattle.protocol.specs.Letter.Fetch k n g q)
    fetch_rank true k n g q = omega arith
    fetch_rank false k n g q = omega arith

    ticket_rank : (r : Bool) (k : Name) → 2 ≤ rank {L = language db} r (Rattle.protocol.specs.Letter.Ticket k)
    ticket_rank true k = omega arith
    ticket_rank false k = omega arith

    at_desk : (choice : Choice (language db)) (reply : replies.Reply) → is_desk_within (desk_after d (txn_name letter.txn) (on_desk_letter (txn_name letter.txn) letter.site true choice (replied db letter.site reply) x).txn) ≡ false → 2 ≤ rank (is_reading x) (replied db letter.site reply)
    at_desk choice (reply_kinds.Ticket ticket) past = ticket_rank (is_reading x) _
    at_desk choice (reply_kinds.Refused refusal) past = omega arith
    at_desk choice (reply_kinds.Voted voted) past = omega arith
    at_desk choice (reply_kinds.Inquire ticket) past = omega arith
    at_desk choice (reply_kinds.Ack ticket) past = clash (calms_within d (txn_name letter.txn) _ (ack_calm (txn_name letter.txn) letter.site true choice _ x) fit.within) past
    at_desk choice (reply_kinds.Rows rows) past = ⊎_elim
        (λ reads. subst (λ (r : Bool). 2 ≤ rank {L = language db} r (replied db letter.site (reply_kinds.Rows rows))) (sym reads) (omega arith))
        (λ idle. clash (calms_within d (txn_name letter.txn) _ (same_calms x _ (rows_calm (txn_name letter.txn) letter.site true choice _ _ _ x idle)) fit.within) past)
        (by_test (is_reading x))

    -- the first phase and the second lead no site past its limits
    no_end : (limit : AreAtLimit db machines letter) → OfTheEnd (sent db letter).body → ⊥
    no_end limit end = clash (end_passes (world_of db machines [] []) true limit.choice (sent db letter) (seats_within db machines.seats letter.site fit.sites) end) limit.past

    at_limit : AreAtLimit db machines letter → (said : bodies.Body) → letter.body ≡ said → 2 ≤ rank (is_reading x) (body_at local (statements db) letter.site (body_of said))
    at_limit limit (body.Order order.Open) is = open_rank (is_reading x)
    at_limit limit (body.Order (order.Fetch fetch)) is = fetch_rank (is_reading x) _ _ _ _
    at_limit limit (body.Order (order.Intend intention)) is = omega arith
    at_limit limit (body.Order (order.Prepare prepare)) is = absurd (no_end limit (subst (λ said. OfTheEnd {L = language db} (body_at local (statements db) letter.site (body_of said))) (sym is) tt))
    at_limit limit (body.Order (order.Commit ticket)) is = absurd (no_end limit (subst (λ said. OfTheEnd {L = language db} (body_at local (statements db) letter.site (body_of said))) (sym is) tt))
    at_limit limit (body.Order (order.Abort ticket)) is = absurd (no_end limit (subst (λ said. OfTheEnd {L = language db} (body_at local (statements db) letter.site (body_of said))) (sym is) tt))
    at_limit limit (body.Reply reply) is = at_desk limit.choice reply (sym (passes_is db machines letter reply is true limit.choice) ∙ limit.past)

    -- an operation ranks so
    astray : (IsHomed (language db) (IsPlace db) (sent db letter) → ⊥) → (said : bodies.Body) → letter.body ≡ said → 2 ≤ rank (is_reading x) (body_at local (statements db) letter.site (body_of said))
    astray away (body.Order order.Open) is = open_rank (is_reading x)
    astray away (body.Order (order.Fetch fetch)) is = fetch_rank (is_reading x) _ _ _ _
    astray away (body.Order (order.Intend intention)) is = omega arith
    astray away (body.Order (order.Prepare prepare)) is = absurd (away (subst (λ said. IsAtHome (language db) (IsPlace db) (body_at local (statements db) letter.site (body_of said))) (sym is) tt))
    astray away (body.Order (order.Commit ticket)) is = absurd (away (subst (λ said. IsAtHome (language db) (IsPlace db) (body_at local (statements db) letter.site (body_of said))) (sym is) tt))
    astray away (body.Order (order.Abort ticket)) is = absurd (away (subst (λ said. IsAtHome (language db) (IsPlace db) (body_at local (statements db) letter.site (body_of said))) (sym is) tt))
    astray away (body.Reply reply) is = absurd (away (subst (λ said. IsAtHome (language db) (IsPlace db) (body_at local (statements db) letter.site (body_of said))) (sym is) (reply_homed reply)))
      where
        reply_homed : (r : replies.Reply) → IsAtHome (language db) (IsPlace db) (body_at local (statements db) letter.site (body_of (body.Reply r)))
        reply_homed (reply_kinds.Ticket ticket) = tt
        reply_homed (reply_kinds.Rows rows) = tt
        reply_homed (reply_kinds.Refused refusal) = tt
        reply_homed (reply_kinds.Voted voted) = tt
        reply_homed (reply_kinds.Ack ticket) = tt
        reply_homed (reply_kinds.Inquire ticket) = tt

    by_reason : TurnsAway db machines letter → 2 ≤ rank_in d.txn (sent db letter)
    by_reason (inl limit) = at_limit limit letter.body refl
    by_reason (inr away) = astray away letter.body refl

-- ---- the site of a name
pub taken_same : (one other : letters.Letter) → Take one ≡ Take other → one ≡ other
taken_same one other is = cc

-- a letter that comes to the site of its name
pub named_tells : {T : Type 0} (result : Result T site_faults.SiteFault) (seat : Seat) (locks : List Locks) (letter mine : letters.Letter) (what : doing.SiteAction) → what ≡ Take mine → what ≡ Take letter → seat.leaves ≡ leaves_in locks → is_called letter.site seat ≡ true →
    (IsSeated seat → result ≡ Err site_fault.Full → site.IsPastLimits seat.kept seat.table mine) → (result ≡ Err site_fault.Stranger → (mine.site ≢ seat.name) ⊎ site.AsksElsewhere locks mine.body) → ((fault : StoreFault) → result ≡ Err (site_fault.Store fault) → site.AsksStore seat.table mine.body) → IfErr result (SiteTells seat letter)
named_tells result seat locks letter mine what own is same called full strange calls =
    let one : mine ≡ letter = taken_same mine letter (sym own ∙ is) in
    subst (λ (l : letters.Letter). IfErr result (SiteTells seat l)) one
    (site_tells result seat locks mine same full (λ e. ⊎_elim (λ apart. absurd (apart (ap (λ (l : letters.Letter). l.site) one ∙ name_is letter.site seat.name called))) (λ there. there) (strange e)) calls)
