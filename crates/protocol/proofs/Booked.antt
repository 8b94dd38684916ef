-- What each turn does to the book, kind by kind.
use Rattle.std.proofs.Common.{ap₂, ◌≡◌, refl, sym, ap, ◌∙◌, subst, ℕ, Bool, true, false, List, [], ◌∷◌, ◌++◌, map, ◌⊎◌, Option, Some, None, append_assoc, append-nil, flat_map}
use Rattle.std.proofs.lemmas.Grind.{flat_map-append}
use Rattle.protocol.specs.Parts.{op_of, operations, Untouched}
use Rattle.protocol.specs.Language.{Lang, IsLawful, Name}
use Rattle.protocol.specs.Letter.{Letter, is_for_desk}
use Rattle.protocol.specs.Site.{SiteState}
use Rattle.protocol.specs.Desk.{Ask, Stage, Idle, Reading, Writing, Undecided, Txn, Known, Deed, Answered, Transition, asks_out, writes_out, opens, opening, is_new, asks_go, writing, writes_go, after_letters}
use Rattle.protocol.specs.World.{World}
use Rattle.protocol.specs.Serial.{statement_in, answer_in, answers_of, phases_of}
use Rattle.protocol.proofs.Basics.{Every, every_more, every_append, clash}
use Rattle.protocol.proofs.Fits.{Drawn, is_voting, IsCommitted}
use Rattle.protocol.proofs.Turns.{known_is, every_letter}
use Rattle.protocol.proofs.Going.{opening_is, first_written}
use Rattle.protocol.proofs.Ops.{Op}
use Rattle.protocol.proofs.Data.{TellsBody}
use Rattle.protocol.proofs.Works.{work_in, works, own_of, txn_of, SameView, view_plain}
use Rattle.protocol.proofs.Book.{Ext, Told, BookAt, pending, owed}
use Rattle.protocol.proofs.Booking.{book_same, book_answered}
use Rattle.protocol.proofs.BookSteps.{book_asks, book_writes, reading_did}
use Rattle.protocol.proofs.Sending.{TellsOps, asks_sent, writes_sent, ext_same}

module _ {L : Lang} where
  -- a letter of the coordinator, and what it tells
  abbrev pub Tells : (L.Site → Name → List (Op L)) → (L.Site → SiteState L) → Letter L → Type 0
  Tells ops sites l = TellsBody (ops l.site) (sites l.site) l.body × (is_for_desk l.body ≡ false)

  -- a turn begins a first phase, or none
  pub data PhaseTurn (w : World L) (t : Name) (turn : Transition L) : Type 0 where
    goes_on : phases_of turn.deeds ≡ [] → ((v : Undecided L) → turn.txn ≡ Known v → is_voting v.stage ≡ true → (u : Undecided L) × (w.desk.txn t ≡ Known u) × (is_voting u.stage ≡ true)) → PhaseTurn w t turn
    starts : phases_of turn.deeds ≡ t ∷ [] → SameView w.past (w.past ++ turn.deeds) t → (u : Undecided L) → w.desk.txn t ≡ Known u → u.stage ≡ Idle → ((v : Undecided L) → turn.txn ≡ Known v → (v.ticket ≡ u.ticket) × (is_voting v.stage ≡ true)) → PhaseTurn w t turn

  pub gone_phase : (w : World L) (t : Name) (turn : Transition L) → phases_of turn.deeds ≡ [] → ((v : Undecided L) → turn.txn ≡ Known v → ⊥) → PhaseTurn w t turn
  gone_phase w t turn none gone = goes_on none (λ v e voting. absurd (gone v e))

  pub still_phase : (w : World L) (t : Name) (x : Txn L) (letters : List (Letter L)) → w.desk.txn t ≡ x → PhaseTurn w t (record { txn = x; letters = letters; deeds = [] })
  still_phase w t x letters e = goes_on refl (λ v f voting. (v, e ∙ f, voting))

  pub quiet_phase : (w : World L) (t : Name) (v : Undecided L) (letters : List (Letter L)) (deeds : List (Deed L)) → phases_of deeds ≡ [] → is_voting v.stage ≡ false → PhaseTurn w t (record { txn = Known v; letters = letters; deeds = deeds })
  quiet_phase w t v letters deeds none quiet = goes_on none (λ x f voting. clash (ap (λ z. is_voting z.stage) (known_is v x f) ∙ voting) quiet)

  -- a letter that is no operation
  abbrev pub NoOps : Letter L → Type 0
  NoOps l = (a : L.Site) (k : Name) → op_of a k l.site l.body ≡ []

  abbrev pub Plain : (L.Site → Name → List (Op L)) → (L.Site → SiteState L) → Letter L → Type 0
  Plain ops sites l = Tells ops sites l × NoOps l

  pub none_put : (letters : List (Letter L)) → Every NoOps letters → (a : L.Site) (k : Name) → operations letters a k ≡ []
  none_put [] all a k = refl
  none_put (l ∷ letters) all a k = ap₂ (λ x y. x ++ y) (all.0 a k) (none_put letters all.1 a k)

  pub record Booked (o : L.Site → Name → Name) (ops : L.Site → Name → List (Op L)) (w : World L) (t : Name) (turn : Transition L) : Type 0 where
    pub new : L.Site → Name → List (Op L)
    pub grow : L.Site → Option Name
    pub ext : Ext grow ops new
    -- operations go out to own tickets before the first phase alone
    pub open_ : (a : L.Site) (k : Name) → grow a ≡ Some k → Drawn (w.sites a) k × (o a k ≡ t) × ((u : Undecided L) × (w.desk.txn t ≡ Known u) × (is_voting u.stage ≡ false))
    pub tells : Every (Tells new w.sites) turn.letters
    pub put_out : (a : L.Site) (k : Name) → new a k ≡ ops a k ++ operations turn.letters a k
    pub book : (v : Undecided L) → turn.txn ≡ Known v → BookAt o new w.sites (w.letters ++ turn.letters) (w.past ++ turn.deeds) t v
    pub only : Every (λ d. txn_of d ≡ t) turn.deeds
    pub phase : PhaseTurn w t turn
    pub told : IsCommitted turn.deeds t → Told (w.past ++ turn.deeds) t Idle
    pub votes : IsCommitted turn.deeds t → (u : Undecided L) → w.desk.txn t ≡ Known u → (is_voting u.stage ≡ true) ⊎ ((phases_of turn.deeds ≡ t ∷ []) × Untouched u)
    pub view : ((u : Undecided L) → w.desk.txn t ≡ Known u → is_voting u.stage ≡ true) → SameView w.past (w.past ++ turn.deeds) t

  pub told_idle : (past : List (Deed L)) (t : Name) (stage : Stage L) → pending stage ≡ [] → owed stage ≡ [] → Told past t stage → Told past t Idle
  told_idle past t stage none nothing told = record { statements = told.statements ∙ ap (λ l. map (λ x. x.statement) (works past t) ++ l) none; answers = ap (λ l. answers_of past t ++ l) (sym nothing) ∙ told.answers }

  pub told_view : (past later : List (Deed L)) (t : Name) → SameView past later t → Told past t Idle → Told later t Idle
  told_view past later t view told = record {
    statements = view.statements_same ∙ told.statements ∙ ap (λ l. map (λ x. x.statement) l ++ []) (sym view.works_same);
    answers = ap (λ l. l ++ []) view.answers_same ∙ told.answers ∙ ap (map (λ x. x.choice.0)) (sym view.works_same);
  }

  module _ (o : L.Site → Name → Name) (ops : L.Site → Name → List (Op L)) (w : World L) (t : Name) where
    -- a turn in which no statement goes on
    pub plain_booked : (turn : Transition L) → flat_map (work_in t) turn.deeds ≡ [] → flat_map (statement_in t) turn.deeds ≡ [] → flat_map (answer_in t) turn.deeds ≡ [] → Every (λ d. txn_of d ≡ t) turn.deeds → PhaseTurn w t turn →
        ((v : Undecided L) → turn.txn ≡ Known v → BookAt o ops w.sites w.letters w.past t v × ((a : L.Site) (k : Name) → v.ticket a ≡ Some k → Drawn (w.sites a) k × (o a k ≡ t))) →
        (IsCommitted turn.deeds t → Told w.past t Idle × ((u : Undecided L) → w.desk.txn t ≡ Known u → (is_voting u.stage ≡ true) ⊎ ((phases_of turn.deeds ≡ t ∷ []) × Untouched u))) → Every (Plain ops w.sites) turn.letters → Booked o ops w t turn
    plain_booked turn a b c only phase book told tells =
        let view = view_plain w.past turn.deeds t a b c in
        record {
          new = ops;
          grow = λ a. None;
          ext = ext_same (λ a. None) ops;
          open_ = λ a k e. absurd (let f : None ≡ Some k = e in cc);
          tells = every_more (Plain ops w.sites) (Tells ops w.sites) turn.letters (λ l is. is.0) tells;
          put_out = λ x k. sym (append-nil (ops x k)) ∙ ap (λ l. ops x k ++ l) (sym (none_put turn.letters (every_more (Plain ops w.sites) NoOps turn.letters (λ l is. is.1) tells) x k));
          book = λ v e. let is = book v e in book_same o w.sites t (λ a. None) ops ops w.letters turn.letters w.past (w.past ++ turn.deeds) v (ext_same (λ a. None) ops) (λ a k d f. refl) is.1 view is.0;
          only = only;
          phase = phase;
          told = λ done. told_view w.past (w.past ++ turn.deeds) t view (told done).0;
          votes = λ done. (told done).1;
          view = λ voting. view;
        }

    opens_tell : (new : L.Site → Name → List (Op L)) (v : Undecided L) (leaves : List L.Leaf) → Every (Tells new w.sites) (opens t v leaves)
    opens_tell new v leaves = every_letter (Tells new w.sites) t (λ a. opening (is_new v leaves a)) L.sites
        (λ a b here said. subst (λ y. TellsBody (new a) (w.sites a) y × (is_for_desk y ≡ false)) (sym (opening_is (is_new v leaves a) b said).1) (tt, refl))

    -- letters that go first, and put no operation out
    pub record FirstTell (letters : List (Letter L)) : Type 0 where
      pub tell : (new : L.Site → Name → List (Op L)) → Every (Tells new w.sites) letters
      pub put : (more : List (Letter L)) (a : L.Site) (k : Name) → operations (letters ++ more) a k ≡ operations more a k

    pub no_first : FirstTell []
    no_first = record { tell = λ new. tt; put = λ more a k. refl }

    pub opens_first : (v : Undecided L) (leaves : List L.Leaf) → FirstTell (opens t v leaves)
    opens_first v leaves = record {
      tell = λ new. opens_tell new v leaves;
      put = λ letters a k. flat_map-append (λ (l : Letter L). op_of a k l.site l.body) (opens t v leaves) letters
          ∙ ap (λ x. x ++ operations letters a k) (none_put (opens t v leaves) (every_letter NoOps t (λ a. opening (is_new v leaves a)) L.sites (λ b y here said. subst (λ z. (c : L.Site) (j : Name) → op_of c j b z ≡ []) (sym (opening_is (is_new v leaves b) y said).1) (λ c j. refl))) a k);
    }

    ops_tell : (new : L.Site → Name → List (Op L)) (letters : List (Letter L)) → Every (TellsOps new) letters → Every (Tells new w.sites) letters
    ops_tell new letters all = every_more (TellsOps new) (Tells new w.sites) letters (λ l is. (is.0 (w.sites l.site), is.1)) all

    module _ (law : IsLawful L) (u : Undecided L) (e : w.desk.txn t ≡ Known u) (quiet : is_voting u.stage ≡ false) (v : Undecided L) (mine : (a : L.Site) (k : Name) → v.ticket a ≡ Some k → Drawn (w.sites a) k × (o a k ≡ t)) where
      open_of : (a : L.Site) (k : Name) → v.ticket a ≡ Some k → Drawn (w.sites a) k × (o a k ≡ t) × ((u : Undecided L) × (w.desk.txn t ≡ Known u) × (is_voting u.stage ≡ false))
      open_of a k f = let m = mine a k f in (m.0, m.1, (u, e, quiet))

      no_view : {A : Type 0} → ((u : Undecided L) → w.desk.txn t ≡ Known u → is_voting u.stage ≡ true) → A
      no_view voting = clash (voting u e) quiet

      -- fetches go out
      pub asks_booked : (visited : L.Site → Bool) (letters : List (Letter L)) → FirstTell letters → (s : L.Statement) (asks : List (Ask L)) (before : List (Deed L)) → Every (λ d. txn_of d ≡ t) before → phases_of before ≡ [] → (IsCommitted before t → ⊥) → BookAt o ops w.sites w.letters (w.past ++ before) t (record v { stage = Reading s asks }) →
          Booked o ops w t (record { txn = (asks_go t (record v { visited = visited }) s asks).txn; letters = letters ++ (asks_go t (record v { visited = visited }) s asks).letters; deeds = before })
      asks_booked visited letters first s asks before only unphased no_commit book =
          let past = w.past ++ before in
          let r = asks_sent law t v.ticket w.letters (own_of (works past t)) asks v.sent ops book.sent (reading_did law o w.sites t ops w.letters past (record v { stage = Reading s asks }) s asks refl book) book.asks in
          let out = asks_out t v.ticket asks v.sent in
          record {
            new = r.new;
            grow = v.ticket;
            ext = r.ext;
            open_ = open_of;
            tells = every_append (Tells r.new w.sites) letters out.letters (first.tell r.new) (ops_tell r.new out.letters r.tells);
            put_out = λ a k. r.put_out a k ∙ ap (λ l. ops a k ++ l) (sym (first.put out.letters a k));
            book = λ x f. subst (BookAt o r.new w.sites (w.letters ++ (letters ++ out.letters)) past t) (known_is (record v { visited = visited; sent = out.sent; stage = Reading s out.left }) x f)
                (book_asks law o w.sites t ops w.letters (letters ++ out.letters) past (record v { stage = Reading s asks }) s asks visited refl book r);
            only = only;
            phase = quiet_phase w t (record v { visited = visited; sent = out.sent; stage = Reading s out.left }) (letters ++ out.letters) before unphased refl;
            told = λ done. absurd (no_commit done);
            votes = λ done. absurd (no_commit done);
            view = no_view;
          }

      written_booked : (visited : L.Site → Bool) (answer : L.Answer) (letters : List (Letter L)) (sent : L.Site → ℕ) (before : List (Deed L)) (new : L.Site → Name → List (Op L)) → Ext v.ticket ops new → Every (λ d. txn_of d ≡ t) before → ((ds : List (Deed L)) → phases_of ds ≡ [] → phases_of (before ++ ds) ≡ []) → ((ds : List (Deed L)) → (IsCommitted ds t → ⊥) → IsCommitted (before ++ ds) t → ⊥) →
          Every (Tells new w.sites) letters → ((a : L.Site) (k : Name) → new a k ≡ ops a k ++ operations letters a k) → (left : List (L.Leaf × L.Write)) →
          BookAt o new w.sites (w.letters ++ letters) (w.past ++ before) t (record v { visited = visited; sent = sent; stage = Writing answer left }) →
          Booked o ops w t (record { txn = (writing t (record v { visited = visited }) answer sent left letters).txn; letters = (writing t (record v { visited = visited }) answer sent left letters).letters; deeds = before ++ (writing t (record v { visited = visited }) answer sent left letters).deeds })
      written_booked visited answer letters sent before new ext only unphased no_commit tells put [] book = record {
        new = new;
        grow = v.ticket;
        ext = ext;
        open_ = open_of;
        tells = tells;
        put_out = put;
        book = λ x f. subst (λ p. BookAt o new w.sites (w.letters ++ letters) p t x) (append_assoc w.past before (Answered t answer ∷ []))
            (subst (BookAt o new w.sites (w.letters ++ letters) ((w.past ++ before) ++ Answered t answer ∷ []) t) (known_is (record v { visited = visited; sent = sent; stage = Idle }) x f)
            (book_answered o w.sites t new (w.letters ++ letters) (w.past ++ before) (record v { visited = visited; sent = sent; stage = Writing answer [] }) answer refl book));
        only = every_append (λ d. txn_of d ≡ t) before (Answered t answer ∷ []) only (refl, tt);
        phase = quiet_phase w t (record v { visited = visited; sent = sent; stage = Idle }) letters (before ++ Answered t answer ∷ []) (unphased (Answered t answer ∷ []) refl) refl;
        told = λ done. absurd (no_commit (Answered t answer ∷ []) (λ c. cc) done);
        votes = λ done. absurd (no_commit (Answered t answer ∷ []) (λ c. cc) done);
        view = no_view;
      }
      written_booked visited answer letters sent before new ext only unphased no_commit tells put (y ∷ ys) book = record {
        new = new;
        grow = v.ticket;
        ext = ext;
        open_ = open_of;
        tells = tells;
        put_out = put;
        book = λ x f. subst (λ p. BookAt o new w.sites (w.letters ++ letters) (w.past ++ p) t x) (sym (append-nil before))
            (subst (BookAt o new w.sites (w.letters ++ letters) (w.past ++ before) t) (known_is (record v { visited = visited; sent = sent; stage = Writing answer (y ∷ ys) }) x f) book);
        only = every_append (λ d. txn_of d ≡ t) before [] only tt;
        phase = quiet_phase w t (record v { visited = visited; sent = sent; stage = Writing answer (y ∷ ys) }) letters (before ++ []) (unphased [] refl) refl;
        told = λ done. absurd (no_commit [] (λ c. cc) done);
        votes = λ done. absurd (no_commit [] (λ c. cc) done);
        view = no_view;
      }

      -- writes go out
      pub writes_booked : (visited : L.Site → Bool) (letters : List (Letter L)) → FirstTell letters → (answer : L.Answer) (ws : List (L.Leaf × L.Write)) (before : List (Deed L)) → Every (λ d. txn_of d ≡ t) before → ((ds : List (Deed L)) → phases_of ds ≡ [] → phases_of (before ++ ds) ≡ []) → ((ds : List (Deed L)) → (IsCommitted ds t → ⊥) → IsCommitted (before ++ ds) t → ⊥) → BookAt o ops w.sites w.letters (w.past ++ before) t (record v { stage = Writing answer ws }) →
          let turn : Transition L = after_letters letters (writes_go t (record v { visited = visited }) answer ws) in
          Booked o ops w t (record { txn = turn.txn; letters = turn.letters; deeds = before ++ turn.deeds })
      writes_booked visited letters first answer ws before only unphased no_commit book =
          let r = writes_sent law t v.ticket ws v.sent ops book.sent in
          let out = writes_out {L = L} t v.ticket ws v.sent in
          subst (λ (turn : Transition L). Booked o ops w t (record { txn = turn.txn; letters = turn.letters; deeds = before ++ turn.deeds })) (sym (first_written t (record v { visited = visited }) answer letters out.sent out.left out.letters))
          (written_booked visited answer (letters ++ out.letters) out.sent before r.new r.ext only unphased no_commit
          (every_append (Tells r.new w.sites) letters out.letters (first.tell r.new) (ops_tell r.new out.letters r.tells)) (λ a k. r.put_out a k ∙ ap (λ l. ops a k ++ l) (sym (first.put out.letters a k))) out.left
          (book_writes law o w.sites t ops w.letters (letters ++ out.letters) (w.past ++ before) (record v { stage = Writing answer ws }) answer ws visited refl book r))
