-- A world without its delivered letters stays that of a run, through every step of one client and every restart.
use Rattle.std.proofs.Common.{◌≡◌, refl, sym, ap, ◌∙◌, subst, Bool, true, false, List, [], ◌∷◌, ◌++◌, length, map, flat_map, if◌then◌else◌, Some, slice_get, append_assoc, append-nil, ◌&&◌}
use Rattle.protocol.specs.Language.{Lang, IsLawful, Name}
use Rattle.protocol.specs.Letter.{Letter, is_for_desk}
use Rattle.protocol.specs.Site.{SiteState, inquiries, is_within, on_letter, site_after, site_restarted, said}
use Rattle.protocol.specs.Desk.{Choice, Began, Known, Request, Row, Transition, Txn, Unknown, desk_after, desk_began, desk_restarted, is_desk_within, next_txn, on_request, txn_restarted}
use Rattle.protocol.specs.World.{World, Event, Begin, Call, Deliver, begins, begun, called, comes, comes_to, delivered, happens, run, turns, turned, site_steps, with_site, addressed, desk_lives, desk_restarts, inquires, is_site, refragments, restarts, may_begin, may_move, may_ask, first_turn, Desk_restarts, Refragment, Site_inquires, Site_restarts}
use Rattle.protocol.specs.Serial.{Explained, AllExplained, IsOpening, IsSerial, SerialLaw, committed, serial_whole, statements_of}
use Rattle.protocol.specs.Client.{first, next, rest_of, loses, IsReached, ReachedLaw}
use Rattle.protocol.proofs.Basics.{either, every_append, every_flat, if_true}
use Rattle.protocol.proofs.SerialLaw.{run_whole, serial_law}

module _ {L : Lang} where
  -- the letters that have gone, in front of those that wait
  abbrev pub behind : List (Letter L) → World L → World L
  behind gone w = record w { letters = gone ++ w.letters }

  -- the same world with other letters
  abbrev with_letters : World L → List (Letter L) → World L
  with_letters w letters = record w { letters = letters }

  run_append : (events more : List (Event L)) (w : World L) → run (events ++ more) w ≡ run more (run events w)
  run_append [] more w = refl
  run_append (e ∷ events) more w = run_append events more (happens w e)

  letter_at : (gone : List (Letter L)) (l : Letter L) (q : List (Letter L)) → slice_get (gone ++ l ∷ q) (length gone) ≡ Some l
  letter_at [] l q = refl
  letter_at (g ∷ gone) l q = letter_at gone l q

  -- what is done behind letters that have gone
  turns_behind : (gone : List (Letter L)) (w : World L) (t : Name) (turn : Transition L) → turns (behind gone w) t turn ≡ behind gone (turns w t turn)
  turns_behind gone w t turn = go (is_desk_within (desk_after w.desk t turn.txn))
    where
      go : (b : Bool) → (if b then turned (behind gone w) t turn else behind gone w) ≡ behind gone (if b then turned w t turn else w)
      go true = ap (with_letters (turned w t turn)) (append_assoc gone w.letters turn.letters)
      go false = refl

  steps_behind : (gone : List (Letter L)) (w : World L) (a : L.Site) (s : SiteState L) (letters : List (Letter L)) → site_steps (behind gone w) a s letters ≡ behind gone (site_steps w a s letters)
  steps_behind gone w a s letters = go (is_within s)
    where
      go : (b : Bool) → (if b then with_site (behind gone w) a s letters else behind gone w) ≡ behind gone (if b then with_site w a s letters else w)
      go true = ap (with_letters (with_site w a s letters)) (append_assoc gone w.letters letters)
      go false = refl

  comes_behind : (gone : List (Letter L)) (w : World L) (kept : Bool) (choice : Choice L) (l : Letter L) (b : Bool) → comes_to b (behind gone w) kept choice l ≡ behind gone (comes_to b w kept choice l)
  comes_behind gone w kept choice l true = turns_behind gone w l.txn _
  comes_behind gone w kept choice l false = let act = on_letter (w.sites l.site) l.txn kept l.body in steps_behind gone w l.site (site_after (w.sites l.site) act) (addressed l.site l.txn (said (w.sites l.site) act))

  begins_behind : (gone : List (Letter L)) (w : World L) → begins (behind gone w) ≡ behind gone (begins w)
  begins_behind gone w = go (is_desk_within (desk_began w.desk))
    where
      go : (b : Bool) → (if b then begun false (behind gone w) else behind gone w) ≡ behind gone (if b then begun false w else w)
      go true = refl
      go false = refl

  moves_behind : (gone : List (Letter L)) (w : World L) (s : L.Statement) (choice : Choice L) → refragments (behind gone w) s choice ≡ behind gone (refragments w s choice)
  moves_behind gone w s choice = go (is_desk_within (begun true w).desk && is_desk_within (desk_after (begun true w).desk (next_txn w.desk) (first_turn w s choice).txn))
    where
      after : World L
      after = turned (begun true w) (next_txn w.desk) (first_turn w s choice)

      go : (b : Bool) → (if b then turned (begun true (behind gone w)) (next_txn w.desk) (first_turn w s choice) else behind gone w) ≡ behind gone (if b then after else w)
      go true = ap (with_letters after) (append_assoc gone w.letters (first_turn w s choice).letters)
      go false = refl

  module _ (whole : L.Whole) (w : World L) (reached : IsReached whole w) where
    -- one more event
    goes_on : (e : Event L) (new : World L) (gone : List (Letter L)) → happens (behind reached.gone w) e ≡ behind gone new → AllExplained new.past → IsReached whole new
    goes_on e new gone is explained = record {
      opening = reached.opening;
      opens = reached.opens;
      events = reached.events ++ e ∷ [];
      gone = gone;
      is = run_append reached.events (e ∷ []) reached.opening ∙ ap (λ v. happens v e) reached.is ∙ is;
      explained = explained;
    }

    began_explained : (b : Bool) → AllExplained (if b then begun false w else w).past
    began_explained true = every_append Explained w.past (Began (next_txn w.desk) ∷ []) reached.explained (tt, tt)
    began_explained false = reached.explained

    pub begin_reached : may_begin w ≡ true → IsReached whole (begins w)
    begin_reached may = goes_on Begin (begins w) reached.gone (if_true (may_begin w) (begins (behind reached.gone w)) (behind reached.gone w) may ∙ begins_behind reached.gone w) (began_explained (is_desk_within (desk_began w.desk)))

    pub move_reached : (s : L.Statement) (choice : Choice L) → may_move w s ≡ true → AllExplained (refragments w s choice).past → IsReached whole (refragments w s choice)
    move_reached s choice may explained = goes_on (Refragment s choice) (refragments w s choice) reached.gone (if_true (may_move w s) (refragments (behind reached.gone w) s choice) (behind reached.gone w) may ∙ moves_behind reached.gone w s choice) explained

    pub call_reached : (t : Name) (choice : Choice L) (request : Request L) → may_ask w t request ≡ true → AllExplained (called w t choice request).past → IsReached whole (called w t choice request)
    call_reached t choice request may explained = goes_on (Call t request choice) (called w t choice request) reached.gone (if_true (may_ask w t request) (called (behind reached.gone w) t choice request) (behind reached.gone w) may ∙ turns_behind reached.gone w t (on_request t choice request (w.desk.txn t))) explained

    pub next_reached : (kept : Bool) (choice : Choice L) → AllExplained (next w kept choice).past → IsReached whole (next w kept choice)
    next_reached kept choice = go w.letters refl
      where
        go : (letters : List (Letter L)) → w.letters ≡ letters → AllExplained (first w kept choice letters).past → IsReached whole (first w kept choice letters)
        go [] e explained = reached
        go (l ∷ q) e explained =
            let both : behind reached.gone w ≡ behind (reached.gone ++ l ∷ []) (with_letters w q) = ap (λ x. with_letters w (reached.gone ++ x)) e ∙ ap (with_letters w) (sym (append_assoc reached.gone (l ∷ []) q)) in
            let found : slice_get (reached.gone ++ w.letters) (length reached.gone) ≡ Some l = ap (λ x. slice_get (reached.gone ++ x) (length reached.gone)) e ∙ letter_at reached.gone l q in
            goes_on (Deliver (length reached.gone) kept choice) (comes (with_letters w q) kept choice l) (reached.gone ++ l ∷ [])
            (ap (delivered (behind reached.gone w) kept choice) found ∙ ap (λ v. comes v kept choice l) both ∙ comes_behind (reached.gone ++ l ∷ []) (with_letters w q) kept choice l (is_for_desk l.body)) explained

    pub lost_reached : IsReached whole (loses w)
    lost_reached = go w.letters refl
      where
        go : (letters : List (Letter L)) → w.letters ≡ letters → IsReached whole (with_letters w (rest_of letters))
        go [] e = record {
          opening = reached.opening;
          opens = reached.opens;
          events = reached.events;
          gone = reached.gone;
          is = reached.is ∙ ap (λ x. with_letters w (reached.gone ++ x)) e;
          explained = reached.explained;
        }
        go (l ∷ q) e = record {
          opening = reached.opening;
          opens = reached.opens;
          events = reached.events;
          gone = reached.gone ++ l ∷ [];
          is = reached.is ∙ ap (λ x. with_letters w (reached.gone ++ x)) e ∙ ap (with_letters w) (sym (append_assoc reached.gone (l ∷ []) q));
          explained = reached.explained;
        }

    -- all letters that wait are lost
    pub silent_reached : IsReached whole (with_letters w [])
    silent_reached = record {
      opening = reached.opening;
      opens = reached.opens;
      events = reached.events;
      gone = reached.gone ++ w.letters;
      is = reached.is ∙ ap (with_letters w) (sym (append-nil (reached.gone ++ w.letters)));
      explained = reached.explained;
    }

    -- a site restarts, or asks; the coordinator restarts
    steps_past : (a : L.Site) (s : SiteState L) (letters : List (Letter L)) → AllExplained (site_steps w a s letters).past
    steps_past a s letters = either (λ (v : World L). AllExplained v.past) (is_within s) (with_site w a s letters) w reached.explained reached.explained

    pub restart_reached : (a : L.Site) → is_site L a L.sites ≡ true → IsReached whole (restarts w a)
    restart_reached a is =
        goes_on (Site_restarts a true) (restarts w a) reached.gone
        (if_true (is_site L a L.sites) (restarts (behind reached.gone w) a) (behind reached.gone w) is ∙ steps_behind reached.gone w a (site_restarted (w.sites a)) []) (steps_past a (site_restarted (w.sites a)) [])

    pub inquiry_reached : (a : L.Site) → is_site L a L.sites ≡ true → IsReached whole (inquires w a)
    inquiry_reached a is =
        goes_on (Site_inquires a) (inquires w a) reached.gone
        (if_true (is_site L a L.sites) (inquires (behind reached.gone w) a) (behind reached.gone w) is ∙ ap (with_letters w) (append_assoc reached.gone w.letters (inquiries a (w.sites a)))) reached.explained

    restart_deeds : (t : Name) (x : Txn L) → AllExplained (txn_restarted t x).deeds
    restart_deeds t Unknown = tt
    restart_deeds t (Known u) = (tt, tt)
    restart_deeds t (Row voters acked) = tt

    pub desk_restart_reached : IsReached whole (desk_restarts w)
    desk_restart_reached =
        goes_on (Desk_restarts true) (desk_restarts w) reached.gone (lives (is_desk_within (desk_restarted w.desk)))
        (either (λ (v : World L). AllExplained v.past) (is_desk_within (desk_restarted w.desk)) (desk_lives w) w
        (every_append Explained w.past _ reached.explained (every_flat Explained (λ t. (txn_restarted t (w.desk.txn t)).deeds) w.desk.known (λ t. restart_deeds t (w.desk.txn t)))) reached.explained)
      where
        lives : (b : Bool) → (if b then desk_lives (behind reached.gone w) else behind reached.gone w) ≡ behind reached.gone (if b then desk_lives w else w)
        lives true = ap (with_letters (desk_lives w)) (append_assoc reached.gone w.letters (flat_map (λ t. (txn_restarted t (w.desk.txn t)).letters) w.desk.known))
        lives false = refl

    pub reached_serial : SerialLaw L → IsSerial whole w
    reached_serial law =
        let serial : IsSerial whole (behind reached.gone w) = subst (IsSerial whole) reached.is (law whole reached.opening reached.events reached.opens (subst (λ v. AllExplained v.past) (sym reached.is) reached.explained)) in
        record { answers = serial.answers; rebuilt = serial.rebuilt; in_force = serial.in_force }

    pub reached_whole : IsLawful L → L.IsWhole (serial_whole L (map (statements_of w.past) (committed w.past)) whole)
    reached_whole law =
        subst (λ (v : World L). L.IsWhole (serial_whole L (map (statements_of v.past) (committed v.past)) whole)) reached.is
        (run_whole law whole reached.opening reached.events reached.opens (subst (λ v. AllExplained v.past) (sym reached.is) reached.explained))

  -- an opening is reached
  pub opening_reached : (whole : L.Whole) (w : World L) → IsOpening whole w → IsReached whole w
  opening_reached whole w opens = record { opening = w; opens = opens; events = []; gone = []; is = refl; explained = subst AllExplained (sym opens.past) tt }

pub reached_law : {L : Lang} → IsLawful L → ReachedLaw L
reached_law law = record {
  begun = begin_reached;
  refragmented = λ whole w s choice reached. move_reached whole w reached s choice;
  asked = λ whole w t choice request reached. call_reached whole w reached t choice request;
  came = λ whole w kept choice reached. next_reached whole w reached kept choice;
  lost = lost_reached;
  restarted = λ whole w a reached. restart_reached whole w reached a;
  inquired = λ whole w a reached. inquiry_reached whole w reached a;
  desk_restarted = desk_restart_reached;
  silenced = silent_reached;
  serial = λ whole w reached. reached_serial whole w reached (serial_law law);
  is_whole = λ whole w reached. reached_whole whole w reached law;
}
