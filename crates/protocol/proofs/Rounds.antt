-- How many rounds are enough until no letter waits.
use Rattle.std.proofs.Common.{◌≡◌, refl, sym, ◌∙◌, subst, ℕ, zero, suc, ◌≤◌, Bool, true, false, List, [], ◌∷◌, ◌++◌, length, append-nil, arith}
use Rattle.protocol.specs.Language.{Lang, Name, same, put}
use Rattle.protocol.specs.Letter.{Letter, Body, is_for_desk}
use Rattle.protocol.specs.Site.{SiteState, on_letter, site_after, said, is_within}
use Rattle.protocol.specs.Desk.{Choice, Txn, Unknown, Known, Row, Aborted, Given_up, Request, Commit_call, Rollback, Give_up, Transition, desk_after, on_request, on_desk_letter, is_desk_within}
use Rattle.protocol.specs.World.{World, called, comes, comes_to, turns, turned, site_steps, with_site, addressed}
use Rattle.protocol.specs.Client.{first, next, deliveries, round, rounds, RoundsLaw}
pub use Rattle.protocol.specs.Rounds.{InRound, RoundByLetter}
use Rattle.protocol.proofs.Basics.{Every, every_append, every_more, either, put_all, same_law}
use Rattle.protocol.proofs.Ranks.{is_reading, rank, rank_in, rank_less, rank_some, rank_nine, site_lowers}
use Rattle.protocol.proofs.DeskRanks.{desk_low, commit_asked, rollback_asked, ended_letters}

module _ {L : Lang} where
  -- what a step brings: letters that rank at most n; no letter ranks higher than before
  pub record Brings (n : ℕ) (w v : World L) : Type 0 where
    pub new : List (Letter L)
    pub is : v.letters ≡ w.letters ++ new
    pub under : Every (λ l. rank_in v.desk.txn l ≤ n) new
    pub falls : (t : Name) → is_reading (v.desk.txn t) ≡ true → is_reading (w.desk.txn t) ≡ true

  brings_none : (n : ℕ) (w : World L) → Brings n w w
  brings_none n w = record { new = []; is = sym (append-nil w.letters); under = tt; falls = λ t e. e }

  site_brings : (n : ℕ) (w : World L) (a : L.Site) (s : SiteState L) (letters : List (Letter L)) → Every (λ l. rank_in w.desk.txn l ≤ n) letters → Brings n w (site_steps w a s letters)
  site_brings n w a s letters under = either (Brings n w) (is_within s) (with_site w a s letters) w (record { new = letters; is = refl; under = under; falls = λ t e. e }) (brings_none n w)

  addressed_under : (w : World L) (a : L.Site) (t : Name) (n : ℕ) (bodies : List (Body L)) → Every (λ b. suc (rank (is_reading (w.desk.txn t)) b) ≤ suc n) bodies → Every (λ l. rank_in w.desk.txn l ≤ n) (addressed a t bodies)
  addressed_under w a t n [] all = tt
  addressed_under w a t n (b ∷ bodies) all = ((let h = all.0 in omega arith), addressed_under w a t n bodies all.1)

  turn_brings : (n : ℕ) (w : World L) (t : Name) (turn : Transition L) → (is_reading turn.txn ≡ true → is_reading (w.desk.txn t) ≡ true) → Every (λ l. rank_in (put same t turn.txn w.desk.txn) l ≤ n) turn.letters → Brings n w (turns w t turn)
  turn_brings n w t turn falls under = either (Brings n w) (is_desk_within (desk_after w.desk t turn.txn)) (turned w t turn) w
      (record {
        new = turn.letters;
        is = refl;
        under = under;
        falls = put_all same same_law t turn.txn w.desk.txn (λ j x. is_reading x ≡ true → is_reading (w.desk.txn j) ≡ true) falls (λ j other e. e);
      })
      (brings_none n w)

  under_put : (txn : Name → Txn L) (t : Name) (x : Txn L) (n : ℕ) (l : Letter L) → (l.txn ≡ t) × (suc (rank (is_reading x) l.body) ≤ suc n) → rank_in (put same t x txn) l ≤ n
  under_put txn t x n l low = put_all same same_law t x txn (λ j y. j ≡ t → rank (is_reading y) l.body ≤ n) (λ e. let h = low.1 in omega arith) (λ j other e. absurd (away j e other)) l.txn low.0
    where
      away : (j : Name) → j ≡ t → same j t ≡ false → ⊥
      away j e other = let f : true ≡ false = sym ((same_law j t).1 e) ∙ other in cc

  in_more : (txn : Name → Txn L) (n i : ℕ) (letters new : List (Letter L)) → InRound txn n i letters → Every (λ l. rank_in txn l ≤ n) new → InRound txn n i (letters ++ new)
  in_more txn n zero letters new all more = every_append (λ l. rank_in txn l ≤ n) letters new all more
  in_more txn n (suc i) [] [] all more = tt
  in_more txn n (suc i) [] (l ∷ new) all more = ((let h = more.0 in omega arith), in_more txn n i [] new (none i) more.1)
    where
      none : (i : ℕ) → InRound txn n i []
      none zero = tt
      none (suc i) = tt
  in_more txn n (suc i) (l ∷ letters) new all more = (all.0, in_more txn n i letters new all.1 more)

  falls_all : (txn then_ : Name → Txn L) → ((t : Name) → is_reading (then_ t) ≡ true → is_reading (txn t) ≡ true) → (n : ℕ) (letters : List (Letter L)) → Every (λ l. rank_in txn l ≤ n) letters → Every (λ l. rank_in then_ l ≤ n) letters
  falls_all txn then_ falls n letters all = every_more (λ l. rank_in txn l ≤ n) (λ l. rank_in then_ l ≤ n) letters (λ l h. let less = rank_less (is_reading (then_ l.txn)) (is_reading (txn l.txn)) l.body (falls l.txn) in omega arith) all

  in_less : (txn then_ : Name → Txn L) → ((t : Name) → is_reading (then_ t) ≡ true → is_reading (txn t) ≡ true) → (n i : ℕ) (letters : List (Letter L)) → InRound txn n i letters → InRound then_ n i letters
  in_less txn then_ falls n zero letters all = falls_all txn then_ falls n letters all
  in_less txn then_ falls n (suc i) [] all = tt
  in_less txn then_ falls n (suc i) (l ∷ letters) all = ((let less = rank_less (is_reading (then_ l.txn)) (is_reading (txn l.txn)) l.body (falls l.txn) in let h = all.0 in omega arith), in_less txn then_ falls n i letters all.1)

  in_none : (txn : Name → Txn L) (n i : ℕ) → InRound txn n i []
  in_none txn n zero = tt
  in_none txn n (suc i) = tt

  -- a round begins
  pub round_starts : (txn : Name → Txn L) (n : ℕ) (letters : List (Letter L)) → Every (λ l. rank_in txn l ≤ suc n) letters → InRound txn n (length letters) letters
  round_starts txn n [] all = tt
  round_starts txn n (l ∷ letters) all = (all.0, round_starts txn n letters all.1)

  module _ where
    -- a letter that ranks at most n + 1 brings such as rank at most n
    comes_brings : (n : ℕ) (w : World L) (kept : Bool) (choice : Choice L) (l : Letter L) (b : Bool) → rank_in w.desk.txn l ≤ suc n → Brings n w (comes_to b w kept choice l)
    comes_brings n w kept choice l false low =
        let act = on_letter (w.sites l.site) l.txn kept l.body in
        site_brings n w l.site (site_after (w.sites l.site) act) (addressed l.site l.txn (said (w.sites l.site) act))
        (addressed_under w l.site l.txn n (said (w.sites l.site) act)
        (every_more (λ c. suc (rank (is_reading (w.desk.txn l.txn)) c) ≤ rank_in w.desk.txn l) (λ c. suc (rank (is_reading (w.desk.txn l.txn)) c) ≤ suc n) (said (w.sites l.site) act) (λ c h. omega arith) (site_lowers (w.sites l.site) l.txn (is_reading (w.desk.txn l.txn)) kept l.body)))
    comes_brings n w kept choice l true low =
        let turn = on_desk_letter l.txn l.site kept choice l.body (w.desk.txn l.txn) in
        let lower = desk_low L l.txn l.site kept choice l.body (w.desk.txn l.txn) in
        turn_brings n w l.txn turn lower.falls
        (every_more (λ x. (x.txn ≡ l.txn) × (suc (rank (is_reading turn.txn) x.body) ≤ rank_in w.desk.txn l)) (λ x. rank_in (put same l.txn turn.txn w.desk.txn) x ≤ n) turn.letters
        (λ x h. under_put w.desk.txn l.txn turn.txn n x (h.0, (let g = h.1 in omega arith))) lower.under)

    -- a letter of the round comes
    pub round_goes_on : (n i : ℕ) (w : World L) (kept : Bool) (choice : Choice L) → InRound w.desk.txn n (suc i) w.letters → InRound (next w kept choice).desk.txn n i (next w kept choice).letters
    round_goes_on n i w kept choice = go w.letters refl
      where
        go : (letters : List (Letter L)) → w.letters ≡ letters → InRound w.desk.txn n (suc i) letters → InRound (first w kept choice letters).desk.txn n i (first w kept choice letters).letters
        go [] e all = subst (InRound w.desk.txn n i) (sym e) (in_none w.desk.txn n i)
        go (l ∷ q) e all =
            let new = comes (record w { letters = q }) kept choice l in
            let b = comes_brings n (record w { letters = q }) kept choice l (is_for_desk l.body) all.0 in
            subst (InRound new.desk.txn n i) (sym b.is) (in_more new.desk.txn n i q b.new (in_less w.desk.txn new.desk.txn b.falls n i q all.1) b.under)

    -- the round is over
    deliveries_over : (pick : World L → Bool × Choice L) (n i : ℕ) (w : World L) → InRound w.desk.txn n i w.letters →
        Every (λ l. rank_in (deliveries pick i w).desk.txn l ≤ n) (deliveries pick i w).letters
    deliveries_over pick n zero w all = all
    deliveries_over pick n (suc i) w all = deliveries_over pick n i (next w (pick w).0 (pick w).1) (round_goes_on n i w (pick w).0 (pick w).1 all)

    pub round_over : (pick : World L → Bool × Choice L) (n : ℕ) (w : World L) → Every (λ l. rank_in w.desk.txn l ≤ suc n) w.letters → Every (λ l. rank_in (round pick w).desk.txn l ≤ n) (round pick w).letters
    round_over pick n w all = deliveries_over pick n (length w.letters) w (round_starts w.desk.txn n w.letters all)

    pub silent : (txn : Name → Txn L) (letters : List (Letter L)) → Every (λ l. rank_in txn l ≤ 0) letters → letters ≡ []
    silent txn [] all = refl
    silent txn (l ∷ letters) all = absurd (let some = rank_some (is_reading (txn l.txn)) l.body in let h = all.0 in omega arith)

    pub rounds_over : (pick : World L → Bool × Choice L) (n : ℕ) (w : World L) → Every (λ l. rank_in w.desk.txn l ≤ n) w.letters → (rounds pick n w).letters ≡ []
    rounds_over pick zero w all = silent w.desk.txn w.letters all
    rounds_over pick (suc n) w all = rounds_over pick n (round pick w) (round_over pick n w all)

    pub nine_rounds : (pick : World L → Bool × Choice L) (w : World L) → (rounds pick 9 w).letters ≡ []
    nine_rounds pick w = rounds_over pick 9 w (all w.letters)
      where
        all : (letters : List (Letter L)) → Every (λ l. rank_in w.desk.txn l ≤ 9) letters
        all [] = tt
        all (l ∷ letters) = (rank_nine (is_reading (w.desk.txn l.txn)) l.body, all letters)

    -- ---- calls
    called_under : (n : ℕ) (w : World L) (t : Name) (choice : Choice L) (request : Request L) → w.letters ≡ [] → Every (λ l. (b : Bool) → rank b l.body ≤ n) (on_request t choice request (w.desk.txn t)).letters →
        Every (λ l. rank_in (called w t choice request).desk.txn l ≤ n) (called w t choice request).letters
    called_under n w t choice request none all =
        let turn = on_request t choice request (w.desk.txn t) in
        either (λ (v : World L). Every (λ l. rank_in v.desk.txn l ≤ n) v.letters) (is_desk_within (desk_after w.desk t turn.txn)) (turned w t turn) w
        (subst (λ x. Every (λ l. rank_in (put same t turn.txn w.desk.txn) l ≤ n) (x ++ turn.letters)) (sym none)
        (every_more (λ l. (b : Bool) → rank b l.body ≤ n) (λ l. rank_in (put same t turn.txn w.desk.txn) l ≤ n) turn.letters (λ l h. h (is_reading (put same t turn.txn w.desk.txn l.txn))) all))
        (subst (λ x. Every (λ l. rank_in w.desk.txn l ≤ n) x) (sym none) tt)

    commit_letters : (t : Name) (choice : Choice L) (x : Txn L) → Every (λ l. (b : Bool) → rank b l.body ≤ 4) (on_request t choice Commit_call x).letters
    commit_letters t choice Unknown = tt
    commit_letters t choice (Row voters acked) = tt
    commit_letters t choice (Known u) = commit_asked L t choice u u.stage

    rollback_letters : (t : Name) (choice : Choice L) (x : Txn L) → Every (λ l. (b : Bool) → rank b l.body ≤ 1) (on_request t choice Rollback x).letters
    rollback_letters t choice Unknown = tt
    rollback_letters t choice (Row voters acked) = tt
    rollback_letters t choice (Known u) = rollback_asked L t choice u u.stage

    give_up_letters : (t : Name) (choice : Choice L) (x : Txn L) → Every (λ l. (b : Bool) → rank b l.body ≤ 1) (on_request t choice Give_up x).letters
    give_up_letters t choice Unknown = tt
    give_up_letters t choice (Row voters acked) = tt
    give_up_letters t choice (Known u) = ended_letters L t choice u (Aborted t Given_up)

    -- ---- letter by letter
    gives_up_falls : (t : Name) (choice : Choice L) (x : Txn L) → is_reading (on_request t choice Give_up x).txn ≡ true → is_reading x ≡ true
    gives_up_falls t choice Unknown e = e
    gives_up_falls t choice (Row voters acked) e = e
    gives_up_falls t choice (Known u) e = cc

    -- a transaction is given up within a round
    pub round_gives_up : (n i : ℕ) (w : World L) (t : Name) (choice : Choice L) → 1 ≤ n → InRound w.desk.txn n i w.letters → InRound (called w t choice Give_up).desk.txn n i (called w t choice Give_up).letters
    round_gives_up n i w t choice some all =
        let turn = on_request t choice Give_up (w.desk.txn t) in
        let v : World L = called w t choice Give_up in
        let b : Brings n w v = turn_brings n w t turn (gives_up_falls t choice (w.desk.txn t))
        (every_more (λ l. (b : Bool) → rank b l.body ≤ 1) (λ l. rank_in (put same t turn.txn w.desk.txn) l ≤ n) turn.letters (λ l h. let low = h (is_reading (put same t turn.txn w.desk.txn l.txn)) in omega arith) (give_up_letters t choice (w.desk.txn t))) in
        subst (InRound v.desk.txn n i) (sym b.is) (in_more v.desk.txn n i w.letters b.new (in_less w.desk.txn v.desk.txn b.falls n i w.letters all) b.under)

    all_nine : (txn : Name → Txn L) (letters : List (Letter L)) → Every (λ l. rank_in txn l ≤ 9) letters
    all_nine txn [] = tt
    all_nine txn (l ∷ letters) = (rank_nine (is_reading (txn l.txn)) l.body, all_nine txn letters)

    pub round_law : RoundByLetter L
    round_law = record {
      nine = λ w. all_nine w.desk.txn w.letters;
      four = λ w t choice none. called_under 4 w t choice Commit_call none (commit_letters t choice (w.desk.txn t));
      one = λ w t choice none. called_under 1 w t choice Rollback none (rollback_letters t choice (w.desk.txn t));
      starts = λ w n all. round_starts w.desk.txn n w.letters all;
      goes_on = λ w n i kept choice all. round_goes_on n i w kept choice all;
      given_up = λ w n i t choice some all. round_gives_up n i w t choice some all;
      over = λ w all. silent w.desk.txn w.letters all;
    }

    pub rounds_law : RoundsLaw L
    rounds_law = record {
      nine = nine_rounds;
      four = λ pick w t choice none. rounds_over pick 4 (called w t choice Commit_call) (called_under 4 w t choice Commit_call none (commit_letters t choice (w.desk.txn t)));
      rolled_back = λ pick w t choice none. rounds_over pick 1 (called w t choice Rollback) (called_under 1 w t choice Rollback none (rollback_letters t choice (w.desk.txn t)));
      given_up = λ pick w t choice none. rounds_over pick 1 (called w t choice Give_up) (called_under 1 w t choice Give_up none (give_up_letters t choice (w.desk.txn t)));
    }
