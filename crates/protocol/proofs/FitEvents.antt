-- A beginning and a restart of the coordinator keep what letters, prepared rows and transactions say, and an opening has it.
use Rattle.std.proofs.Common.{◌≡◌, refl, sym, ap, ◌∙◌, subst, suc, Bool, true, false, List, [], ◌∷◌, ◌++◌, inl, inr, ⊎_elim, arith, le_refl, le_trans, le_of_lt, lt-suc_self}
use Rattle.std.proofs.lemmas.List.Folds.{list_any-append}
use Rattle.std.specs.List.{flat_map}
use Rattle.protocol.specs.Language.{Lang, Name, same}
use Rattle.protocol.specs.Letter.{Letter}
use Rattle.protocol.specs.Site.{Dead, Prepared, SiteState, is_dead}
use Rattle.protocol.specs.Desk.{Undecided, fresh_as, Txn, Unknown, Known, Row, Began, Desk, next_txn, began_as, commits, txn_restarted, desk_restarted}
use Rattle.protocol.specs.World.{World, begun, desk_lives}
use Rattle.protocol.specs.Serial.{is_committed, commits_it, IsOpening}
use Rattle.protocol.proofs.Deciding.{voters_is, acked_is}
use Rattle.protocol.proofs.Basics.{Every, put_all, every_append, every_flat, clash, same_law, or_left, or_cases}
use Rattle.protocol.proofs.Fits.{Born, IsCommitted, Fits, KnownAt, Gone, Votes, Fit}
use Rattle.protocol.proofs.DeskFits.{Grows, grows_same, DeskLater, letters_desk}
use Rattle.protocol.proofs.Turns.{known_is}

module _ {L : Lang} where
  pub not_born : (d : Desk L) → Born d (next_txn d) → ⊥
  not_born d h = omega arith

  pub born_next : (moves : Bool) (d : Desk L) (t : Name) → Born d t → Born (began_as moves d) t
  born_next moves d t h = ⊎_elim (λ below. inl below) (λ same_life. inr (same_life.0, le_trans same_life.1 (le_of_lt (lt-suc_self d.number)))) h

  pub born_restarted : (d : Desk L) (t : Name) → Born d t → Born (desk_restarted d) t
  born_restarted d t h = inl (omega arith)

  fresh_known : (moves : Bool) (o : L.Site → Name → Name) (sites : L.Site → SiteState L) (letters : List (Letter L)) (t : Name) → KnownAt o sites letters t (fresh_as moves)
  fresh_known moves o sites letters t = record { tickets = λ a k own. cc; votes = λ votes stage. cc; none = λ votes stage. cc; named = λ votes stage. cc; reads = λ votes stage. cc }

  module _ (o : L.Site → Name → Name) (w : World L) (fit : Fit o w) where
    -- a new transaction, or a new refragmentation
    pub began_later : (moves : Bool) → DeskLater o w (began_as moves w.desk) (w.past ++ Began (next_txn w.desk) ∷ [])
    began_later moves = record {
      born = born_next moves w.desk;
      grown = λ t born. put_all same same_law (next_txn w.desk) (Known (fresh_as moves)) w.desk.txn (λ j x. Born w.desk j → (v : Undecided L) → x ≡ Known v → (u : Undecided L) × (w.desk.txn j ≡ Known u) × Grows u v)
          (λ new. absurd (not_born w.desk new)) (λ j other old v e. (v, e, grows_same v)) t born;
      more = λ t was. list_any-append (commits_it t) w.past (Began (next_txn w.desk) ∷ []) ∙ or_left (is_committed w.past t) false was;
      newly = λ t done. inl (⊎_elim (λ was. was) (λ now. let f : false ≡ true = now in cc) (or_cases (is_committed w.past t) false (sym (list_any-append (commits_it t) w.past (Began (next_txn w.desk) ∷ [])) ∙ done)));
    }

    pub was_before : (t : Name) → IsCommitted (w.past ++ Began (next_txn w.desk) ∷ []) t → IsCommitted w.past t
    was_before t done = ⊎_elim (λ was. was) (λ now. let f : false ≡ true = now in cc) (or_cases (is_committed w.past t) false (sym (list_any-append (commits_it t) w.past (Began (next_txn w.desk) ∷ [])) ∙ done))

    pub begun_fit : (moves : Bool) → Fit o (begun moves w)
    begun_fit moves =
        let new = next_txn w.desk in
        record {
          live = fit.live;
          prepared = λ a k j i row. let p = fit.prepared a k j i row in record {
            owner = p.owner;
            born = born_next moves w.desk j p.born;
            own = λ v e. let g = (began_later moves).grown j p.born v e in let own = p.own g.0 g.1 in (g.2.ticket a k own.0, g.2.voting own.1);
            voter = λ done. let v = p.voter (was_before j done) in
                (v.0, v.1, put_all same same_law new (Known (fresh_as moves)) w.desk.txn (λ j x. Born w.desk j → w.desk.txn j ≡ Row v.0 v.1 → x ≡ Row v.0 v.1) (λ born e. absurd (not_born w.desk born)) (λ j other born e. e) j p.born v.2, v.3);
          };
          born = put_all same same_law new (Known (fresh_as moves)) w.desk.txn (λ j x. (v : Undecided L) → x ≡ Known v → Born (began_as moves w.desk) j) (λ v e. inr (refl, le_refl (suc w.desk.number))) (λ j other v e. born_next moves w.desk j (fit.born j v e));
          known = put_all same same_law new (Known (fresh_as moves)) w.desk.txn (λ j x. (v : Undecided L) → x ≡ Known v → KnownAt o w.sites w.letters j v) (λ v e. subst (KnownAt o w.sites w.letters new) (known_is (fresh_as moves) v e) (fresh_known moves o w.sites w.letters new)) (λ j other v e. fit.known j v e);
          rows = put_all same same_law new (Known (fresh_as moves)) w.desk.txn (λ j x. (vs acked : List (L.Site × Name)) → x ≡ Row vs acked → IsCommitted (w.past ++ Began new ∷ []) j × Every (Gone w.sites) acked × Every (Votes o w.sites j) vs)
              (λ vs acked e. cc) (λ j other vs acked e. let r = fit.rows j vs acked e in ((began_later moves).more j r.0, r.1, r.2));
          committed = λ j done. let c = fit.committed j (was_before j done) in (born_next moves w.desk j c.0, λ v e. let g = (began_later moves).grown j c.0 v e in c.1 g.0 g.1);
          letters = letters_desk o w (began_as moves w.desk) (w.past ++ Began new ∷ []) fit (began_later moves) w.letters fit.letters;
        }

    pub none_known : (t : Name) (x : Txn L) (v : Undecided L) → (txn_restarted t x).txn ≡ Known v → ⊥
    none_known t Unknown v e = cc
    none_known t (Known u) v e = cc
    none_known t (Row vs acked) v e = cc

    pub no_commit : (t j : Name) (x : Txn L) → is_committed (txn_restarted t x).deeds j ≡ false
    no_commit t j Unknown = refl
    no_commit t j (Known u) = refl
    no_commit t j (Row vs acked) = refl

    pub no_commits : (j : Name) (names : List Name) → is_committed (flat_map (λ t. (txn_restarted t (w.desk.txn t)).deeds) names) j ≡ false
    no_commits j [] = refl
    no_commits j (t ∷ names) = list_any-append (commits_it j) (txn_restarted t (w.desk.txn t)).deeds (flat_map (λ t. (txn_restarted t (w.desk.txn t)).deeds) names) ∙ rw (no_commit t j (w.desk.txn t)) (no_commits j names)

    -- a restart of the coordinator
    pub lives_before : (t : Name) → IsCommitted (desk_lives w).past t → IsCommitted w.past t
    lives_before t done =
        let deeds = flat_map (λ t. (txn_restarted t (w.desk.txn t)).deeds) w.desk.known in
        ⊎_elim (λ was. was) (λ now. clash now (no_commits t w.desk.known)) (or_cases (is_committed w.past t) (is_committed deeds t) (sym (list_any-append (commits_it t) w.past deeds) ∙ done))

    pub lives_later : DeskLater o w (desk_restarted w.desk) (desk_lives w).past
    lives_later = record {
      born = born_restarted w.desk;
      grown = λ t born v e. absurd (none_known t (w.desk.txn t) v e);
      more = λ t was. let deeds = flat_map (λ t. (txn_restarted t (w.desk.txn t)).deeds) w.desk.known in list_any-append (commits_it t) w.past deeds ∙ or_left (is_committed w.past t) (is_committed deeds t) was;
      newly = λ t done. inl (lives_before t done);
    }

    commits_fit : (t : Name) (vs : List (L.Site × Name)) → Born w.desk t → IsCommitted w.past t → Every (Votes o w.sites t) vs → Every (Fits o (desk_restarted w.desk) (desk_lives w).past w.sites) (commits t vs)
    commits_fit t [] born done are = tt
    commits_fit t (v ∷ vs) born done are = ((born_restarted w.desk t born, (are.0.0, are.0.1, lives_later.more t done, are.0.2)), commits_fit t vs born done are.1)

    restart_letters : (t : Name) (x : Txn L) → w.desk.txn t ≡ x → Every (Fits o (desk_restarted w.desk) (desk_lives w).past w.sites) (txn_restarted t x).letters
    restart_letters t Unknown e = tt
    restart_letters t (Known u) e = tt
    restart_letters t (Row vs acked) e = let r = fit.rows t vs acked e in commits_fit t vs (fit.committed t r.0).0 r.0 r.2

    rows_again : (t : Name) (vs acked : List (L.Site × Name)) (x : Txn L) → w.desk.txn t ≡ x → (txn_restarted t x).txn ≡ Row vs acked → IsCommitted (desk_lives w).past t × Every (Gone w.sites) acked × Every (Votes o w.sites t) vs
    rows_again t vs acked Unknown e f = cc
    rows_again t vs acked (Known u) e f = cc
    rows_again t vs acked (Row ws done) e f =
        let r = fit.rows t ws done e in
        (lives_later.more t r.0, subst (Every (Gone w.sites)) (sym (acked_is vs acked ws [] f)) tt, subst (Every (Votes o w.sites t)) (sym (voters_is vs acked ws [] f)) r.2)

    pub lives_fit : Fit o (desk_lives w)
    lives_fit = record {
      live = fit.live;
      prepared = λ a k j i row. let p = fit.prepared a k j i row in record {
        owner = p.owner;
        born = born_restarted w.desk j p.born;
        own = λ v e. absurd (none_known j (w.desk.txn j) v e);
        voter = λ done. let v = p.voter (lives_before j done) in (v.0, [], ap (λ x. (txn_restarted j x).txn) v.2, v.3);
      };
      born = λ t v e. absurd (none_known t (w.desk.txn t) v e);
      known = λ t v e. absurd (none_known t (w.desk.txn t) v e);
      rows = λ t vs acked e. rows_again t vs acked (w.desk.txn t) refl e;
      committed = λ t done. let c = fit.committed t (lives_before t done) in (born_restarted w.desk t c.0, λ v e. none_known t (w.desk.txn t) v e);
      letters = every_append (Fits o (desk_restarted w.desk) (desk_lives w).past w.sites) w.letters (flat_map (λ t. (txn_restarted t (w.desk.txn t)).letters) w.desk.known)
          (letters_desk o w (desk_restarted w.desk) (desk_lives w).past fit lives_later w.letters fit.letters)
          (every_flat (Fits o (desk_restarted w.desk) (desk_lives w).past w.sites) (λ t. (txn_restarted t (w.desk.txn t)).letters) w.desk.known (λ t. restart_letters t (w.desk.txn t) refl));
    }

  -- an opening has it
  pub opening_fit : (whole : L.Whole) (w : World L) → IsOpening whole w → Fit (λ a k. k) w
  opening_fit whole w opening = record {
    live = λ a k e. clash (ap is_dead (opening.visits a k)) e;
    prepared = λ a k t i row. let f : Dead ≡ Prepared t i = sym (opening.visits a k) ∙ row in cc;
    born = λ t u e. let f : Unknown ≡ Known u = sym (opening.undecided t) ∙ e in cc;
    known = λ t u e. absurd (let f : Unknown ≡ Known u = sym (opening.undecided t) ∙ e in cc);
    rows = λ t vs acked e. let f : Unknown ≡ Row vs acked = sym (opening.undecided t) ∙ e in cc;
    committed = λ t done. absurd (let f : false ≡ true = ap (λ p. is_committed p t) (sym opening.past) ∙ done in cc);
    letters = subst (Every (Fits (λ a k. k) w.desk w.past w.sites)) (sym opening.letters) tt;
  }
