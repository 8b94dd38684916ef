-- A statement of one client, whatever becomes of its letters: its transaction is ready for more, or it has ended and all is quiet.
use Rattle.std.proofs.Common.{◌≡◌, refl, sym, ap, ◌∙◌, subst, Bool, true, false, List, [], ◌∷◌, ◌++◌, ◌⊎◌, inl, inr, ⊎_elim, ℕ, Option, map}
use Rattle.meaning.specs.declared.statement.Statement.{Statement}
use Rattle.meaning.specs.Whole.{Relations}
use Rattle.store.specs.Content.{Content}
use Rattle.protocol.specs.Client.{IsQuiet, IsReached, first, next}
use Rattle.protocol.specs.StatementCourse.{InStatement, RoomOr, passes, passes_to}
use Rattle.std.specs.List.{list_any}
use Rattle.meaning.specs.declared.answer.Answer.{Answer as AnswerNow}
use Rattle.desk.specs.declared.reply.Reply.{Reply}
use Rattle.desk.specs.declared.reply.Reply.TheVariants.{Answer}
use Rattle.protocol.specs.Desk.{Aborted, Answered, Ask, Stated, Worked, Choice, Deed, Give_up, Given_up, Known, Row, State, Txn, Unknown, desk_after, is_desk_within, on_desk_letter, on_request}
use Rattle.protocol.specs.Language.{IsLawful, Lang, Name}
use Rattle.protocol.specs.AfterAbort.{Doomed, EndKept, Ending, Failing, Loose, Within, doomed, has_ended}
use Rattle.protocol.specs.Letter.{Body, Letter, Open, Fetch, Write, Prepare, Commit, Abort, Ticket, Rows, Refused, Voted, Ack, Inquire, is_for_desk}
use Rattle.protocol.specs.Rounds.{is_reading}
use Rattle.protocol.specs.Serial.{AllExplained}
use Rattle.protocol.specs.Site.{SiteState, Status, is_within, on_letter, said, site_after}
use Rattle.protocol.specs.WithoutRefusal.{InCourse, IsHoused, Ready, SmoothLaw}
use Rattle.protocol.specs.VisitPlaces.{Flow, VisitPlace, asked, at, away, offered, works}
use Rattle.protocol.specs.World.{World, addressed, called, comes_to, site_steps, turns}
use Rattle.protocol.proofs.Basics.{Every, by_test, clash}
use Rattle.protocol.proofs.Ended.{ending_goes_on, ending_quiet, in_front}
use Rattle.protocol.proofs.Failing.{failing_ends, failing_goes_on}
use Rattle.protocol.proofs.Fitting.{fitting_law}
use Rattle.protocol.proofs.Limits.{called_within, next_within}
use Rattle.protocol.proofs.Locks.{Once}
use Rattle.protocol.proofs.Loose.{give_up_ends, loose_lost, statement_loose}
use Rattle.protocol.proofs.Overflow.{went_on}
use Rattle.protocol.proofs.ForgottenLetters.{reached_law}
use Rattle.protocol.proofs.WithoutRefusal.{smooth_law}
use Rattle.desk.specs.declared.reply.Notice.{Notice}
use Rattle.desk.specs.Database.{Database, IsOrdinary, language}
use Rattle.desk.specs.Place.{Place}
use Rattle.desk.specs.State.{desk_of, notice_of}
use Rattle.protocol.specs.Delivery.{AllFounded, Coming, FindsNoRoom, FirstIsFounded, IsFounded, Passed_over, Taken, Turned_away, all_come, come, first_comes}
use Rattle.world.specs.Mailbox.{Serves, To_do}
use Rattle.world.specs.Machines.{Machines}
use Rattle.world.specs.Client.{IsServed, is_end, tells}
use Rattle.world.specs.Smoothly.{IsReady, rests}
use Rattle.world.proofs.CallsKept.{FetchKept, fetch_kept}
use Rattle.world.proofs.Sited.{Sited, called_sited, come_sited, first_is_sited, not_passed, steady_sited}
use Rattle.world.proofs.NoWrites.{NoWrites, bare, comes_bare, is_write, reads_on, state_reads}
use Rattle.world.proofs.Quieting.{ended_gives_up, ending_lost, kept_end_of, lost_within, turned_no_end}
use Rattle.world.proofs.Reaching.{all_explained, all_reached}
use Rattle.world.proofs.EndsTold.{Told, all_told, end_heard, ends_it, state_told}
use Rattle.world.proofs.Executed.{tells_by}
use Rattle.world.proofs.Smoothly.{all_here, asked_here, fit_within, heard_of, ready_at, room_or_full, same_behind}
use Rattle.desk.proofs.Explaining.{stated_plainly}

module _ {L : Lang} where
  -- a letter that may wait while a statement works
  abbrev OfStatement : Body L → Type 0
  OfStatement Open = Unit {0}
  OfStatement (Fetch k n g q) = Unit {0}
  OfStatement (Write k n g x) = Unit {0}
  OfStatement (Ticket k) = Unit {0}
  OfStatement (Rows k n rows) = Unit {0}
  OfStatement said = ⊥

  flow_front : (k : Name) (d n : ℕ) (c : Body L) (bs : List (Body L)) → Flow k d n (c ∷ bs) → OfStatement c
  flow_front k d n (Fetch j m g q) bs flow = tt
  flow_front k d n (Write j m g x) bs flow = tt
  flow_front k d n (Rows j m rows) bs flow = tt
  flow_front k d n Open bs flow = tt
  flow_front k d n (Ticket j) bs flow = tt
  flow_front k d n (Prepare j m) bs flow = flow
  flow_front k d n (Commit j) bs flow = flow
  flow_front k d n (Abort j) bs flow = flow
  flow_front k d n (Refused j reason) bs flow = flow
  flow_front k d n (Voted j x) bs flow = flow
  flow_front k d n (Ack j) bs flow = flow
  flow_front k d n (Inquire j) bs flow = flow

  abbrev head_or : Body L → List (Body L) → Body L
  head_or c [] = c
  head_or c (b ∷ bs) = b

  spot_front : (f : Name → Status L) (b : Bool) (tk : Option Name) (n : ℕ) (c : Body L) (bs : List (Body L)) → VisitPlace f b tk n (c ∷ bs) → OfStatement c
  spot_front f b tk n c bs (away s) = let e : c ∷ bs ≡ [] = s.silent in cc
  spot_front f b tk n c bs (asked s) = subst OfStatement (sym (ap (head_or c) s.waits)) tt
  spot_front f b tk n c bs (offered k s) = subst OfStatement (sym (ap (head_or c) s.waits)) tt
  spot_front f b tk n c bs (works k s) = flow_front k s.visit.done n c bs s.flow

  -- of such a letter nothing but a Fetch has a store call
  site_same : (s : SiteState L) (t : Name) (kept : Bool) (b : Body L) → OfStatement b → FetchKept kept b → on_letter s t kept b ≡ on_letter s t true b
  site_same s t kept Open of keeps = refl
  site_same s t kept (Fetch k n g q) of keeps = ap (λ (x : Bool). on_letter s t x (Fetch k n g q)) keeps
  site_same s t kept (Write k n g x) of keeps = refl
  site_same s t kept (Ticket k) of keeps = refl
  site_same s t kept (Rows k n rows) of keeps = refl
  site_same s t kept (Prepare k n) of keeps = absurd of
  site_same s t kept (Commit k) of keeps = absurd of
  site_same s t kept (Abort k) of keeps = absurd of
  site_same s t kept (Refused k reason) of keeps = absurd of
  site_same s t kept (Voted k x) of keeps = absurd of
  site_same s t kept (Ack k) of keeps = absurd of
  site_same s t kept (Inquire k) of keeps = absurd of

  desk_same : (t : Name) (a : L.Site) (kept : Bool) (c : Choice L) (b : Body L) (x : Txn L) → OfStatement b → on_desk_letter t a kept c b x ≡ on_desk_letter t a true c b x
  desk_same t a kept c b Unknown of = refl
  desk_same t a kept c Open (Row voters acked) of = refl
  desk_same t a kept c (Fetch k n g q) (Row voters acked) of = refl
  desk_same t a kept c (Write k n g x) (Row voters acked) of = refl
  desk_same t a kept c (Ticket k) (Row voters acked) of = refl
  desk_same t a kept c (Rows k n rows) (Row voters acked) of = refl
  desk_same t a kept c (Prepare k n) (Row voters acked) of = absurd of
  desk_same t a kept c (Commit k) (Row voters acked) of = absurd of
  desk_same t a kept c (Abort k) (Row voters acked) of = absurd of
  desk_same t a kept c (Refused k reason) (Row voters acked) of = absurd of
  desk_same t a kept c (Voted k x) (Row voters acked) of = absurd of
  desk_same t a kept c (Ack k) (Row voters acked) of = absurd of
  desk_same t a kept c (Inquire k) (Row voters acked) of = absurd of
  desk_same t a kept c Open (Known u) of = refl
  desk_same t a kept c (Fetch k n g q) (Known u) of = refl
  desk_same t a kept c (Write k n g x) (Known u) of = refl
  desk_same t a kept c (Ticket k) (Known u) of = refl
  desk_same t a kept c (Rows k n rows) (Known u) of = refl
  desk_same t a kept c (Prepare k n) (Known u) of = absurd of
  desk_same t a kept c (Commit k) (Known u) of = absurd of
  desk_same t a kept c (Abort k) (Known u) of = absurd of
  desk_same t a kept c (Refused k reason) (Known u) of = absurd of
  desk_same t a kept c (Voted k x) (Known u) of = absurd of
  desk_same t a kept c (Ack k) (Known u) of = absurd of
  desk_same t a kept c (Inquire k) (Known u) of = absurd of

  same_comes : (b : Bool) (w : World L) (kept : Bool) (c : Choice L) (l : Letter L) → OfStatement l.body → FetchKept kept l.body → comes_to b w kept c l ≡ comes_to b w true c l
  same_comes true w kept c l of keeps = ap (turns w l.txn) (desk_same l.txn l.site kept c l.body (w.desk.txn l.txn) of)
  same_comes false w kept c l of keeps = ap (λ act. site_steps w l.site (site_after (w.sites l.site) act) (addressed l.site l.txn (said (w.sites l.site) act))) (site_same (w.sites l.site) l.txn kept l.body of keeps)

  same_within : (b : Bool) (w : World L) (kept : Bool) (c : Choice L) (l : Letter L) → OfStatement l.body → FetchKept kept l.body → passes_to b w kept c l ≡ passes_to b w true c l
  same_within true w kept c l of keeps = ap (λ turn. is_desk_within (desk_after w.desk l.txn turn.txn)) (desk_same l.txn l.site kept c l.body (w.desk.txn l.txn) of)
  same_within false w kept c l of keeps = ap (λ act. is_within (site_after (w.sites l.site) act)) (site_same (w.sites l.site) l.txn kept l.body of keeps)

  -- a write for which there is no excuse to ask
  room_anyhow : (s : SiteState L) (b : Body L) → RoomOr (Unit {0}) s b
  room_anyhow s (Write k n g x) = λ v active. inr tt
  room_anyhow s Open = tt
  room_anyhow s (Fetch k n g q) = tt
  room_anyhow s (Prepare k n) = tt
  room_anyhow s (Commit k) = tt
  room_anyhow s (Abort k) = tt
  room_anyhow s (Ticket k) = tt
  room_anyhow s (Rows k n rows) = tt
  room_anyhow s (Refused k reason) = tt
  room_anyhow s (Voted k x) = tt
  room_anyhow s (Ack k) = tt
  room_anyhow s (Inquire k) = tt

module _ (db : Database) where
  abbrev pub D : Lang
  D = language db

  -- what finds no room is a write
  full_write : (s : SiteState D) (b : Body D) → FindsNoRoom s b → is_write b ≡ true
  full_write s (Write k n g x) full = refl
  full_write s Open full = absurd full
  full_write s (Fetch k n g q) full = absurd full
  full_write s (Prepare k n) full = absurd full
  full_write s (Commit k) full = absurd full
  full_write s (Abort k) full = absurd full
  full_write s (Ticket k) full = absurd full
  full_write s (Rows k n rows) full = absurd full
  full_write s (Refused k reason) full = absurd full
  full_write s (Voted k x) full = absurd full
  full_write s (Ack k) full = absurd full
  full_write s (Inquire k) full = absurd full

  for_site : (b : Body D) → is_write b ≡ true → is_for_desk b ≡ false
  for_site (Write k n g x) is = refl
  for_site Open is = refl
  for_site (Fetch k n g q) is = refl
  for_site (Prepare k n) is = refl
  for_site (Commit k) is = refl
  for_site (Abort k) is = refl
  for_site (Ticket k) is = let e : false ≡ true = is in cc
  for_site (Rows k n rows) is = let e : false ≡ true = is in cc
  for_site (Refused k reason) is = let e : false ≡ true = is in cc
  for_site (Voted k x) is = let e : false ≡ true = is in cc
  for_site (Ack k) is = let e : false ≡ true = is in cc
  for_site (Inquire k) is = let e : false ≡ true = is in cc

  module _ (fits : Place → Content → Bool) (law : IsLawful D) (once : Once D.sites) (housed : (n : ℕ) → IsHoused D n fits) (n : ℕ) (whole : D.Whole) (t : Name) (s : D.Statement) (stays : D.raises s ≡ false) (before : List (Deed D)) where
    abbrev smooth : SmoothLaw D n fits
    smooth = smooth_law law once n fits (housed n)

    -- where a statement stands: it works as it should; it is doomed, reads no more, and the coordinator will hear of it; or its transaction has ended
    data Stand (w : World D) : Type 0 where
      in_course : InCourse D n fits t s before w → (is_reading (w.desk.txn t) ≡ true → NoWrites w.letters) → Stand w
      is_doomed : Doomed t before w → is_reading (w.desk.txn t) ≡ false → Stand w
      has_left : (deeds : List (Deed D)) → Ending deeds w → Stand w

    of_failing : (w : World D) → is_reading (w.desk.txn t) ≡ false → Failing t before w → Stand w
    of_failing w idle (doomed d) = is_doomed d idle
    of_failing w idle (has_ended deeds since ending) = has_left deeds ending

    module _ (w : World D) (l : Letter D) (q : List (Letter D)) (e : w.letters ≡ l ∷ q) (within : Within w) where
      -- the transaction is given up
      gives_up : Loose t before w → (choice : Choice D) → IsFounded w (Turned_away choice) l → Stand (called (record w { letters = q }) l.txn choice Give_up)
      gives_up loose choice founded =
          let lost = loose_lost law t before w l q e (turned_no_end db w l choice within founded) loose in
          has_left (w.past ++ Aborted t Given_up ∷ []) (subst (λ (j : Name). Ending (w.past ++ Aborted t Given_up ∷ []) (called (record w { letters = q }) j choice Give_up)) (sym (subst (Every (λ (x : Letter D). x.txn ≡ t)) e loose.alone).0)
          (give_up_ends law once t before (record w { letters = q }) choice lost (lost_within db law once w q within)))

      -- once it doesn't read it won't
      idle_on : (kept : Bool) (choice : Choice D) → l.txn ≡ t → is_reading (w.desk.txn t) ≡ false → is_reading ((next w kept choice).desk.txn t) ≡ false
      idle_on kept choice own idle = ⊎_elim
          (λ reads. clash (subst (λ (j : Name). is_reading ((next w kept choice).desk.txn j) ≡ true → is_reading (w.desk.txn j) ≡ true) own (reads_on w l q e kept choice).falls reads) idle)
          (λ none. none) (by_test (is_reading ((next w kept choice).desk.txn t)))

      -- a letter comes in the course of a statement
      module _ (here : InCourse D n fits t s before w) (none : is_reading (w.desk.txn t) ≡ true → NoWrites w.letters) (kept : Bool) (choice : Choice D) (keeps : FetchKept kept l.body) (goes : passes w kept choice l ≡ true) (reached : IsReached whole (next w kept choice)) where
        of : OfStatement l.body
        of = spot_front _ _ _ _ l.body (at l.site q) (subst (VisitPlace (w.sites l.site).status (here.course.u.visited l.site) (here.course.u.ticket l.site) (here.course.u.sent l.site)) (ap (at l.site) e ∙ in_front law l q) (here.course.stands.spots l.site))

        own : l.txn ≡ t
        own = (subst (Every (λ (x : Letter D). x.txn ≡ t)) e here.course.stands.alone).0

        same_next : next w kept choice ≡ next w true choice
        same_next = ap (first w kept choice) e ∙ same_comes (is_for_desk l.body) (record w { letters = q }) kept choice l of keeps ∙ sym (ap (first w true choice) e)

        goes_true : passes w true choice l ≡ true
        goes_true = sym (same_within (is_for_desk l.body) w kept choice l of keeps) ∙ goes

        reads_no_write : (c : Choice D) → is_reading ((next w true c).desk.txn t) ≡ true → NoWrites (next w true c).letters
        reads_no_write c is =
            let on = reads_on w l q e true c in
            let at_t : is_reading ((next w true c).desk.txn l.txn) ≡ true = ap (λ (j : Name). is_reading ((next w true c).desk.txn j)) own ∙ is in
            on.none at_t (subst NoWrites e (none (sym (ap (λ (j : Name). is_reading (w.desk.txn j)) own) ∙ on.falls at_t))).1

        overflows : FindsNoRoom (w.sites l.site) l.body → Stand (next w true choice)
        overflows full =
            let write = full_write (w.sites l.site) l.body full in
            let to_site = for_site l.body write in
            let c = bare D choice in
            let same_bare : next w true choice ≡ next w true c = ap (first w true choice) e ∙ ap (λ b. comes_to b (record w { letters = q }) true choice l) to_site ∙ sym (ap (λ b. comes_to b (record w { letters = q }) true c l) to_site) ∙ sym (ap (first w true c) e) in
            let passes_bare : passes w true c l ≡ true = ap (λ b. passes_to b w true c l) to_site ∙ sym (ap (λ b. passes_to b w true choice l) to_site) ∙ goes_true in
            let idle : is_reading (w.desk.txn t) ≡ false = ⊎_elim (λ reads. clash write (subst NoWrites e (none reads)).0) (λ is. is) (by_test (is_reading (w.desk.txn t))) in
            subst Stand (sym same_bare) (⊎_elim
            (λ (on : InStatement t s before (next w true c)). in_course (record { course = on; tag = here.tag; fitting = λ case. (fitting_law law fits).came w true c tt (here.fitting (inl stays)) }) (reads_no_write c))
            (λ failing. of_failing (next w true c) (idle_on true c own idle) failing.1)
            (went_on law once (Unit {0}) t s before w within true c l q e (record {
              is_kept = refl;
              within = passes_bare;
              room = room_anyhow (w.sites l.site) l.body;
              fit = λ reading. (fitting_law law fits).rows s w l ((housed n).rows s here.tag) (here.fitting (inl stays));
              homes = λ g there. absurd there;
            }) (inl here.course)))

        came_on : Stand (next w kept choice)
        came_on = subst Stand (sym same_next) (⊎_elim
            (λ room. in_course (smooth.came whole w t s before true choice l q e within (record { is_kept = refl; within = goes_true; room = room }) (subst (IsReached whole) same_next reached) here) (reads_no_write choice))
            (λ full. overflows full) (room_or_full db (w.sites l.site) l.body))

      -- a letter comes while it is doomed
      doomed_on : (d : Doomed t before w) → is_reading (w.desk.txn t) ≡ false → (kept : Bool) (choice : Choice D) → EndKept kept l.body → Stand (next w kept choice)
      doomed_on d idle kept choice end =
          let own : l.txn ≡ t = (subst (Every (λ (x : Letter D). x.txn ≡ t)) e d.loose.alone).0 in
          let same_bare : next w kept choice ≡ next w kept (bare D choice) = ap (first w kept choice) e ∙ comes_bare (is_for_desk l.body) (record w { letters = q }) kept choice l (ap (λ (j : Name). is_reading (w.desk.txn j)) own ∙ idle) ∙ sym (ap (first w kept (bare D choice)) e) in
          subst Stand (sym same_bare) (of_failing (next w kept (bare D choice)) (idle_on kept (bare D choice) own idle) (failing_goes_on law once t before w l q e within kept (bare D choice) end (λ g there. absurd there) (doomed d)))

    fetch_kept_of : (w : World D) (kept : Bool) (choice : Choice D) (l : Letter D) → IsFounded w (Taken kept choice) l → FetchKept kept l.body
    fetch_kept_of w kept choice l founded = fetch_kept kept l.body founded.1

    -- whatever becomes of a letter
    taken_on : (w : World D) (l : Letter D) (q : List (Letter D)) (e : w.letters ≡ l ∷ q) (within : Within w) (kept : Bool) (choice : Choice D) → IsFounded w (Taken kept choice) l → IsReached whole (next w kept choice) → Stand w → Stand (next w kept choice)
    taken_on w l q e within kept choice founded reached (in_course here none) = came_on w l q e within here none kept choice (fetch_kept_of w kept choice l founded) founded.0 reached
    taken_on w l q e within kept choice founded reached (is_doomed d idle) = doomed_on w l q e within d idle kept choice (kept_end_of db law once w kept choice l founded)
    taken_on w l q e within kept choice founded reached (has_left deeds ending) = has_left deeds (ending_goes_on law deeds w l q e ending law.touches_none within kept choice (kept_end_of db law once w kept choice l founded))

    turned_on : (w : World D) (l : Letter D) (q : List (Letter D)) (e : w.letters ≡ l ∷ q) (within : Within w) (choice : Choice D) → IsFounded w (Turned_away choice) l → Stand w → Stand (called (record w { letters = q }) l.txn choice Give_up)
    turned_on w l q e within choice founded (in_course here none) = gives_up w l q e within (statement_loose t s before w here.course) choice founded
    turned_on w l q e within choice founded (is_doomed d idle) = gives_up w l q e within d.loose choice founded
    turned_on w l q e within choice founded (has_left deeds ending) = has_left deeds (ended_gives_up l.txn (record w { letters = q }) choice deeds (ending_lost db law once deeds w l q e (turned_no_end db w l choice within founded) ending))

    one_stands : (w : World D) (c : Coming D) (letters : List (Letter D)) → w.letters ≡ letters → Within w → Sited w → FirstIsFounded w c letters → IsReached whole (first_comes w c letters) → Stand w → Within (first_comes w c letters) × Stand (first_comes w c letters)
    one_stands w c [] e within sited founded reached here = (within, here)
    one_stands w (Taken kept choice) (l ∷ q) e within sited founded reached here = (
      subst (λ (letters : List (Letter D)). Within (first w kept choice letters)) e (next_within law w kept choice within),
      subst (λ (letters : List (Letter D)). Stand (first w kept choice letters)) e (taken_on w l q e within kept choice founded (subst (λ (letters : List (Letter D)). IsReached whole (first w kept choice letters)) (sym e) reached) here),
    )
    one_stands w (Turned_away choice) (l ∷ q) e within sited founded reached here = (called_within (record w { letters = q }) l.txn choice Give_up (lost_within db law once w q within), turned_on w l q e within choice founded here)
    one_stands w Passed_over (l ∷ q) e within sited founded reached here = absurd (not_passed db law w l (first_is_sited w l q e sited) founded)

    all_stand : (cs : List (Coming D)) (w : World D) → Within w → Sited w → AllFounded cs w → IsReached whole w → AllExplained (all_come cs w).past → Stand w → Stand (all_come cs w)
    all_stand [] w within sited founded reached explained here = here
    all_stand (c ∷ cs) w within sited founded reached explained here =
        let there : IsReached whole (come w c) = all_reached (reached_law law) whole (c ∷ []) w reached (all_explained cs (come w c) explained) in
        let one = one_stands w c w.letters refl within sited founded.0 there here in
        all_stand cs (come w c) one.0 (come_sited law w c w.letters refl sited) founded.1 there explained one.1

    -- no letter waits
    stand_ends : (w : World D) → Stand w → w.letters ≡ [] → (Ready D n fits t w × ((asks : List (Ask D)) × (choice : Choice D) × (w.past ≡ before ++ Stated t s ∷ Worked t s asks choice ∷ Answered t choice.0 ∷ []))) ⊎ IsQuiet w
    stand_ends w (in_course here none) silent = inl (smooth.answered w t s before here silent stays)
    stand_ends w (is_doomed d idle) silent = inr (failing_ends law once t before w (doomed d) silent).0
    stand_ends w (has_left deeds ending) silent = inr (ending_quiet law deeds w ending silent)

  -- a statement, and all its letters
  pub quiet_or_ready : (fits : Place → Content → Bool) (law : IsLawful D) (once : Once D.sites) (housed : (n : ℕ) → IsHoused D n fits) (whole : Relations) (before after : Machines) (past : List (Deed D)) (txn : Name) (statement : Statement) (choice : Choice D) (heard : List Notice) → (served : IsServed db whole before past) →
      IsReady db fits txn before past → IsOrdinary db statement →
      is_desk_within (desk_after (desk_of db before.table) txn (on_request txn choice (State (before.table.version, statement)) ((desk_of db before.table).txn txn)).txn) ≡ true → (serves : Serves db (To_do txn (State (before.table.version, statement)) choice) before after heard) →
      (IsReady db fits txn after (past ++ serves.deeds) × ((answer : AnswerNow) × (map notice_of heard ≡ (txn, Answer answer) ∷ []))) ⊎ (IsQuiet (rests db after (past ++ serves.deeds)) × (tells is_end heard ≡ true))
  quiet_or_ready fits law once housed whole before after past txn statement choice heard served ready is room serves =
      let n = before.table.version in
      let opened : D.Whole = (served.version, whole) in
      let s : D.Statement = (n, statement) in
      let here = rests db before past in
      let ask = To_do txn (State s) choice in
      let start = called here txn choice (State s) in
      let reached = asked_here db fits law once housed whole before after past heard served ask serves (refl, is.stays) in
      let explained = all_here db fits law once housed whole before after past heard served ask serves in
      let within = called_within here txn choice (State s) (fit_within db before [] past served.fit) in
      let begins : Stand fits law once housed n opened txn s is.stays past start = in_course ((smooth_law law once n fits (housed n)).stated opened here txn s choice ready (stated_plainly db n statement is) refl is.stays room reached) (state_reads here txn choice s refl) in
      let ends : Told txn past (rests db after (past ++ serves.deeds)) = subst (Told txn past) (serves.is past) (all_told txn past serves.comings start (state_told here txn choice s ready.steady.u ready.steady.known)) in
      let tells_end : IsQuiet (rests db after (past ++ serves.deeds)) → tells is_end heard ≡ true = λ quiet. ⊎_elim (λ undecided. clash undecided (quiet.decided txn))
      (λ ended. tells_by is_end heard ∙ ap (list_any (λ (x : Name × Reply). is_end x.1)) serves.replies ∙ end_heard db serves.deeds (subst (λ (deeds : List (Deed D)). list_any ends_it deeds ≡ true) (sym (same_behind past serves.deeds ends.more ends.is)) ended)) ends.says in
      let sited = called_sited here txn choice (State s) (steady_sited txn here ready.steady) in
      let stand = all_stand fits law once housed n opened txn s is.stays past serves.comings start within sited (serves.founded past) reached explained begins in
      ⊎_elim
      (λ answered. inl (ready_at n after.table.version txn (rests db after (past ++ serves.deeds)) answered.0, (answered.1.1.0, heard_of db fits law once housed whole before after past heard served ask serves _ answered.1.2)))
      (λ quiet. inr (quiet, tells_end quiet))
      (stand_ends fits law once housed n opened txn s is.stays past (rests db after (past ++ serves.deeds)) (subst (Stand fits law once housed n opened txn s is.stays past) (serves.is past) stand) refl)
