-- The coordinator goes on with a statement: Opens, fetches and writes go out to own tickets.
use Rattle.std.proofs.Common.{◌≡◌, refl, sym, ap, ◌∙◌, subst, ℕ, suc, Bool, true, false, ◌||◌, List, [], ◌∷◌, ◌++◌, Option, Some, None}
use Rattle.protocol.specs.Language.{Lang, IsLawful, Name, put}
use Rattle.protocol.specs.Letter.{Vote, Body, Open, Fetch, Write, Letter}
use Rattle.protocol.specs.Desk.{Ask, Stage, Idle, Reading, Writing, Voting, Undecided, Known, Deed, Answered, Transition, desk_after, ask_out, asks_out, write_out, writes_out, is_new, opening, opens, visits, asks_go, writing, writes_go, after_letters}
use Rattle.protocol.specs.World.{World, turned}
use Rattle.protocol.specs.Serial.{is_committed}
use Rattle.protocol.proofs.Basics.{Every, every_append, or_left, or_right, any_in, some_is}
use Rattle.protocol.proofs.Fits.{Drawn, Und, is_voting, Own, FitsBody, Fits, KnownAt, Fit}
use Rattle.protocol.proofs.DeskFits.{Grows, TurnFine, turn_moves}
use Rattle.protocol.proofs.Turns.{known_is, und_put, goes_fine, every_letter}

module _ {L : Lang} where
  -- a turn that keeps the invariant, with its letters
  pub record Good (o : L.Site → Name → Name) (w : World L) (t : Name) (turn : Transition L) : Type 0 where
    pub fine : TurnFine o w t turn
    pub letters : Every (Fits o (desk_after w.desk t turn.txn) (w.past ++ turn.deeds) w.sites) turn.letters

  pub good_moves : (o : L.Site → Name → Name) (w : World L) (t : Name) (turn : Transition L) → Fit o w → Good o w t turn → Fit o (turned w t turn)
  good_moves o w t turn fit good = turn_moves o w t turn fit good.fine good.letters

  -- what holds of each fetch to an own ticket holds of all that go out
  pub asks_each : (P : Letter L → Type 0) (t : Name) (ticket : L.Site → Option Name) → ((g : L.Leaf) (q : L.Query) (k : Name) (n : ℕ) → ticket (L.home g) ≡ Some k → P (record { site = L.home g; txn = t; body = Fetch k n g q })) →
      (asks : List (Ask L)) (sent : L.Site → ℕ) → Every P (asks_out t ticket asks sent).letters
  asks_each P t ticket each [] sent = tt
  asks_each P t ticket each (q ∷ qs) sent = go q.number (ticket (L.home q.leaf)) refl (asks_each P t ticket each qs)
    where
      go : (m : Option ℕ) (k : Option Name) → ticket (L.home q.leaf) ≡ k → ((sent : L.Site → ℕ) → Every P (asks_out t ticket qs sent).letters) → Every P (ask_out t q m k sent (asks_out t ticket qs)).letters
      go None None e rest = rest sent
      go None (Some k) e rest = (each q.leaf q.query k (suc (sent (L.home q.leaf))) e, rest (put L.same_site (L.home q.leaf) (suc (sent (L.home q.leaf))) sent))
      go (Some n) None e rest = rest sent
      go (Some n) (Some k) e rest = rest sent

  pub writes_each : (P : Letter L → Type 0) (t : Name) (ticket : L.Site → Option Name) → ((g : L.Leaf) (x : L.Write) (k : Name) (n : ℕ) → ticket (L.home g) ≡ Some k → P (record { site = L.home g; txn = t; body = Write k n g x })) →
      (ws : List (L.Leaf × L.Write)) (sent : L.Site → ℕ) → Every P (writes_out t ticket ws sent).letters
  writes_each P t ticket each [] sent = tt
  writes_each P t ticket each (x ∷ ws) sent = go (ticket (L.home x.0)) refl (writes_each P t ticket each ws)
    where
      go : (k : Option Name) → ticket (L.home x.0) ≡ k → ((sent : L.Site → ℕ) → Every P (writes_out t ticket ws sent).letters) → Every P (write_out t x k sent (writes_out t ticket ws)).letters
      go None e rest = rest sent
      go (Some k) e rest = (each x.0 x.1 k (suc (sent (L.home x.0))) e, rest (put L.same_site (L.home x.0) (suc (sent (L.home x.0))) sent))

  -- letters that go first are letters of the turn
  pub first_written : (t : Name) (v : Undecided L) (answer : L.Answer) (first : List (Letter L)) (sent : L.Site → ℕ) (left : List (L.Leaf × L.Write)) (letters : List (Letter L)) → after_letters first (writing t v answer sent left letters) ≡ writing t v answer sent left (first ++ letters)
  first_written t v answer first sent [] letters = refl
  first_written t v answer first sent (x ∷ left) letters = refl

  pub opening_is : (x : Bool) (b : Body L) → opening x ≡ Some b → (x ≡ true) × (b ≡ Open)
  opening_is true b e = (refl, sym (some_is e))
  opening_is false b e = cc

module _ {L : Lang} (law : IsLawful L) (o : L.Site → Name → Name) (w : World L) (t : Name) (fit : Fit o w) (u : Undecided L) (e : w.desk.txn t ≡ Known u) (quiet : is_voting u.stage ≡ false) (v : Undecided L) (grows : Grows u v) (known : KnownAt o w.sites w.letters t v) where
  -- a stage that isn't the first phase keeps what is known
  pub known_at : (visited : L.Site → Bool) (sent : L.Site → ℕ) (stage : Stage L) → ((a : L.Site) → v.visited a ≡ true → visited a ≡ true) → is_voting stage ≡ false → KnownAt o w.sites w.letters t (record v { visited = visited; sent = sent; stage = stage })
  known_at visited sent stage more other = record {
    tickets = λ a k own. let ticket = known.tickets a k own in (ticket.0, ticket.1, more a ticket.2, ticket.3);
    votes = λ votes is. absurd (not_voting votes is);
    none = λ votes is. absurd (not_voting votes is);
    named = λ votes is. absurd (not_voting votes is);
    reads = λ votes is. absurd (not_voting votes is);
  }
    where
      not_voting : (votes : L.Site → Option Vote) → stage ≡ Voting votes → ⊥
      not_voting votes is = let f : true ≡ false = sym (ap is_voting is) ∙ other in cc

  pub grows_to : (visited : L.Site → Bool) (sent : L.Site → ℕ) (stage : Stage L) → ((a : L.Site) → v.visited a ≡ true → visited a ≡ true) → Grows u (record v { visited = visited; sent = sent; stage = stage })
  grows_to visited sent stage more = record { ticket = grows.ticket; visited = λ a is. more a (grows.visited a is); voting = λ is. let f : true ≡ false = sym is ∙ quiet in cc }

  opens_fit : (leaves : List L.Leaf) (x : Undecided L) (past : List (Deed L)) → ((a : L.Site) → (v.visited a || is_new v leaves a) ≡ true → x.visited a ≡ true) → Every (Fits o (desk_after w.desk t (Known x)) past w.sites) (opens t v leaves)
  opens_fit leaves x past visited = every_letter (Fits o (desk_after w.desk t (Known x)) past w.sites) t (λ a. opening (is_new v leaves a)) L.sites
      (λ a b here said. let is = opening_is (is_new v leaves a) b said in (
        fit.born t u e,
        subst (FitsBody o (desk_after w.desk t (Known x)) past a (w.sites a) t) (sym is.1) (
          any_in (λ c. L.same_site c a) a L.sites here ((law.sites a a).1 refl),
          und_put w.desk t (Known x) (λ y. y.visited a ≡ true) (λ y f. subst (λ z. z.visited a ≡ true) (known_is x y f) (visited a (or_right (v.visited a) (is_new v leaves a) is.0))),
        ),
      ))

  own_fits : (x : Undecided L) (past : List (Deed L)) (a : L.Site) (k : Name) → x.ticket a ≡ Some k → Own a k v → Drawn (w.sites a) k × (o a k ≡ t) × Und (desk_after w.desk t (Known x)) t (Own a k)
  own_fits x past a k mine own = let ticket = known.tickets a k own in (ticket.0, ticket.1, und_put w.desk t (Known x) (Own a k) (λ y f. subst (Own a k) (known_is x y f) mine))

  -- sites are visited, and letters that keep the invariant go first
  pub record First (visited : L.Site → Bool) (letters : List (Letter L)) : Type 0 where
    pub more : (a : L.Site) → v.visited a ≡ true → visited a ≡ true
    pub fits : (x : Undecided L) → ((a : L.Site) → visited a ≡ true → x.visited a ≡ true) → (past : List (Deed L)) → Every (Fits o (desk_after w.desk t (Known x)) past w.sites) letters

  -- nobody new, and no letter
  pub first_none : First v.visited []
  first_none = record { more = λ a is. is; fits = λ x visited past. tt }

  -- Opens to the new sites of these leaves
  pub first_opens : (leaves : List L.Leaf) → First (visits v leaves).visited (opens t v leaves)
  first_opens leaves = record { more = λ a is. or_left (v.visited a) (is_new v leaves a) is; fits = λ x visited past. opens_fit leaves x past visited }

  -- fetches go out
  pub asks_good : (visited : L.Site → Bool) (letters : List (Letter L)) → First visited letters → (s : L.Statement) (asks : List (Ask L)) (deeds : List (Deed L)) → ((j : Name) → is_committed deeds j ≡ false) →
      Good o w t (record { txn = (asks_go t (record v { visited = visited }) s asks).txn; letters = letters ++ (asks_go t (record v { visited = visited }) s asks).letters; deeds = deeds })
  asks_good visited letters first s asks deeds none =
      let out = asks_out t v.ticket asks v.sent in
      let x = record v { visited = visited; sent = out.sent; stage = Reading s out.left } in
      record {
        fine = goes_fine o w t fit u x (letters ++ out.letters) deeds e (grows_to x.visited x.sent x.stage first.more) (known_at x.visited x.sent x.stage first.more refl) none;
        letters = every_append (Fits o (desk_after w.desk t (Known x)) (w.past ++ deeds) w.sites) letters out.letters (first.fits x (λ a is. is) (w.past ++ deeds))
            (asks_each (Fits o (desk_after w.desk t (Known x)) (w.past ++ deeds) w.sites) t v.ticket (λ g q k n mine. (fit.born t u e, own_fits x (w.past ++ deeds) (L.home g) k mine mine)) asks v.sent);
      }

  written_good : (visited : L.Site → Bool) → ((a : L.Site) → v.visited a ≡ true → visited a ≡ true) → (answer : L.Answer) (letters : List (Letter L)) (sent : L.Site → ℕ) (deeds : List (Deed L) → List (Deed L)) → ((j : Name) → is_committed (deeds []) j ≡ false) → ((j : Name) → is_committed (deeds (Answered t answer ∷ [])) j ≡ false) →
      ((x : Undecided L) → ((a : L.Site) (k : Name) → Own a k v → Own a k x) → ((a : L.Site) → visited a ≡ true → x.visited a ≡ true) → (past : List (Deed L)) → Every (Fits o (desk_after w.desk t (Known x)) past w.sites) letters) →
      (left : List (L.Leaf × L.Write)) → Good o w t (record { txn = (writing t (record v { visited = visited }) answer sent left letters).txn; letters = (writing t (record v { visited = visited }) answer sent left letters).letters; deeds = deeds (writing t (record v { visited = visited }) answer sent left letters).deeds })
  written_good visited more answer letters sent deeds none answered fits [] =
      record {
        fine = goes_fine o w t fit u (record v { visited = visited; sent = sent; stage = Idle }) letters (deeds (Answered t answer ∷ [])) e (grows_to visited sent Idle more) (known_at visited sent Idle more refl) answered;
        letters = fits (record v { visited = visited; sent = sent; stage = Idle }) (λ a k is. is) (λ a is. is) (w.past ++ deeds (Answered t answer ∷ []));
      }
  written_good visited more answer letters sent deeds none answered fits (y ∷ ys) =
      record {
        fine = goes_fine o w t fit u (record v { visited = visited; sent = sent; stage = Writing answer (y ∷ ys) }) letters (deeds []) e (grows_to visited sent (Writing answer (y ∷ ys)) more) (known_at visited sent (Writing answer (y ∷ ys)) more refl) none;
        letters = fits (record v { visited = visited; sent = sent; stage = Writing answer (y ∷ ys) }) (λ a k is. is) (λ a is. is) (w.past ++ deeds []);
      }

  -- letters before those of a write turn are letters of the turn
  abbrev pub write_turn : (L.Site → Bool) → List (Letter L) → L.Answer → List (L.Leaf × L.Write) → Transition L
  write_turn visited letters answer ws = after_letters letters (writes_go t (record v { visited = visited }) answer ws)

  -- the writes go out; the deeds depend on whether the answer is given
  pub writes_good : (visited : L.Site → Bool) (letters : List (Letter L)) → First visited letters → (answer : L.Answer) (ws : List (L.Leaf × L.Write)) (deeds : List (Deed L) → List (Deed L)) → ((j : Name) → is_committed (deeds []) j ≡ false) → ((j : Name) → is_committed (deeds (Answered t answer ∷ [])) j ≡ false) →
      Good o w t (record { txn = (write_turn visited letters answer ws).txn; letters = (write_turn visited letters answer ws).letters; deeds = deeds (write_turn visited letters answer ws).deeds })
  writes_good visited letters first answer ws deeds none answered =
      let out = writes_out {L = L} t v.ticket ws v.sent in
      subst (λ (turn : Transition L). Good o w t (record { txn = turn.txn; letters = turn.letters; deeds = deeds turn.deeds })) (sym (first_written t (record v { visited = visited }) answer letters out.sent out.left out.letters))
      (written_good visited first.more answer (letters ++ out.letters) out.sent deeds none answered
      (λ x mine seen past. every_append (Fits o (desk_after w.desk t (Known x)) past w.sites) letters out.letters (first.fits x seen past)
      (writes_each (Fits o (desk_after w.desk t (Known x)) past w.sites) t v.ticket (λ g y k n is. (fit.born t u e, own_fits x past (L.home g) k (mine (L.home g) k is) is)) ws v.sent)) out.left)
