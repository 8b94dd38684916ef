-- Whose turn it is: an act moves the machine of its cell, and what is left leads on from there.
use Rattle.std.proofs.Common.{◌≡◌, ◌≢◌, refl, sym, ◌∙◌, subst, ℕ, zero, suc, ◌==◌, false, List, [], ◌∷◌, map, Some, slice_get, ne_eqb, eq-eqb, arith}
use Rattle.std.proofs.lemmas.Bool.{false_from_ne_true}
use Rattle.std.proofs.Math.Path.{fun_ext}
use Rattle.reader.specs.Printable.{AreDistinct}
use Rattle.protocol.proofs.Basics.{every_at, if_false, if_true}
use Rattle.site.specs.Seat.{Seat, is_called}
use Rattle.world.specs.Sites.{reseated, seat_of}
use Rattle.world.proofs.Seating.{name_is, name_self}
use Rattle.history.specs.declared.entry.Entry.{Entry}
use Rattle.history.specs.Merge.{Act, of_cell, row}
use Rattle.history.specs.Replays.{Replays}
use Rattle.history.specs.SiteHistory.{SiteMoves}
use Rattle.history.specs.Weaving.{SitePast}
use Rattle.history.proofs.Opens.{AllRecorded, firsts}

-- ---- the acts of a cell, behind one of its own and behind another's
abbrev pub act_of : ℕ → Entry → Act Entry
act_of cell entry = record { cell = cell; entry = entry }

pub cell_here : (cell : ℕ) (entry : Entry) (acts : List (Act Entry)) → of_cell cell (act_of cell entry ∷ acts) ≡ entry ∷ of_cell cell acts
cell_here cell entry acts = if_true (cell == cell) (entry ∷ of_cell cell acts) (of_cell cell acts) (eq-eqb cell cell refl)

pub cell_other : (cell other : ℕ) (entry : Entry) (acts : List (Act Entry)) → cell ≢ other → of_cell other (act_of cell entry ∷ acts) ≡ of_cell other acts
cell_other cell other entry acts apart = if_false (cell == other) (entry ∷ of_cell other acts) (of_cell other acts) (ne_eqb cell other apart)

-- ---- rows of entries, one for each site
-- each row leads from the first state of its site to the last, and beyond the sites there is nothing
abbrev pub SitesReplay : (ℕ → List Entry) → List Seat → List Seat → Type 0
SitesReplay rows [] lasts = (lasts ≡ []) × ((c : ℕ) → rows c ≡ [])
SitesReplay rows (seat ∷ seats) [] = ⊥
SitesReplay rows (seat ∷ seats) (last ∷ lasts) = Replays SiteMoves seat (rows zero) last × SitesReplay (λ c. rows (suc c)) seats lasts

-- where no row has an entry, the sites are as they were
pub none_left : (seats lasts : List Seat) → SitesReplay (λ c. []) seats lasts → lasts ≡ seats
none_left [] lasts all = all.0
none_left (seat ∷ seats) [] all = absurd all
none_left (seat ∷ seats) (last ∷ lasts) all = λ i. all.0 i ∷ none_left seats lasts all.1 i

-- beyond the last row there is nothing
beyond : (c : ℕ) → row {T = Entry} [] c ≡ []
beyond zero = refl
beyond (suc c) = refl

-- the rows of recorded sites
pub all_replay : (rows : ℕ → List Entry) (pasts : List SitePast) (all : AllRecorded pasts) → ((c : ℕ) → rows c ≡ row (map (λ (past : SitePast). past.entries) pasts) c) → SitesReplay rows (firsts pasts all) (map (λ (past : SitePast). past.last) pasts)
all_replay rows [] all is = (refl, λ c. is c ∙ beyond c)
all_replay rows (past ∷ pasts) all is = (subst (λ entries. Replays SiteMoves all.0.first entries past.last) (sym (is zero)) all.0.replays, all_replay (λ c. rows (suc c)) pasts all.1 (λ c. is (suc c)))

-- one of the rows begins with this entry; more: the rows behind it
pub record IsAhead (k : ℕ) (entry : Entry) (rows more : ℕ → List Entry) : Type 0 where
  pub here : rows k ≡ entry ∷ more k
  pub others : (c : ℕ) → c ≢ k → rows c ≡ more c

-- the site of that row makes the entry's move, and the rest leads on from the sites after it
pub record Turns (k : ℕ) (entry : Entry) (more : ℕ → List Entry) (seats lasts : List Seat) : Type 0 where
  pub seat : Seat
  pub new : Seat
  pub there : seat_of seat.name seats ≡ Some seat
  pub named : slice_get (map (λ (s : Seat). s.name) seats) k ≡ Some seat.name
  pub moves : SiteMoves seat entry new
  pub left : SitesReplay more (reseated seat.name new seats) lasts

-- one act
pub turn : (k : ℕ) (entry : Entry) (rows more : ℕ → List Entry) (seats lasts : List Seat) → IsAhead k entry rows more → AreDistinct (map (λ (s : Seat). s.name) seats) → SitesReplay rows seats lasts → Turns k entry more seats lasts
turn k entry rows more [] lasts ahead distinct all = let no : [] ≡ entry ∷ more k = sym (all.1 k) ∙ ahead.here in absurd cc
turn k entry rows more (s ∷ seats) [] ahead distinct all = absurd all
turn zero entry rows more (s ∷ seats) (t ∷ lasts) ahead distinct all =
    let played : Replays SiteMoves s (entry ∷ more zero) t = subst (λ entries. Replays SiteMoves s entries t) ahead.here all.0 in
    let called = name_self s.name in
    let apart : (c : ℕ) → suc c ≢ zero = λ c e. omega (arith, e) in
    record {
      seat = s;
      new = played.0;
      there = if_true (is_called s.name s) (Some s) (seat_of s.name seats) called;
      named = refl;
      moves = played.1.0;
      left = subst (λ all. SitesReplay more all (t ∷ lasts)) (sym (if_true (is_called s.name s) (played.0 ∷ seats) (s ∷ reseated s.name played.0 seats) called))
          (played.1.1, subst (λ later. SitesReplay later seats lasts) (fun_ext (λ c. ahead.others (suc c) (apart c))) all.1);
    }
turn (suc k) entry rows more (s ∷ seats) (t ∷ lasts) ahead distinct all =
    let apart : (c : ℕ) → c ≢ k → suc c ≢ suc k = λ c ne e. ne (omega (arith, e)) in
    let not_first : zero ≢ suc k = λ e. omega (arith, e) in
    let later = turn k entry (λ c. rows (suc c)) (λ c. more (suc c)) seats lasts (record { here = ahead.here; others = λ c ne. ahead.others (suc c) (apart c ne) }) distinct.1 all.1 in
    let other : s.name ≢ later.seat.name = every_at (λ name. s.name ≢ name) (map (λ (s : Seat). s.name) seats) k later.seat.name distinct.0 later.named in
    let uncalled : is_called later.seat.name s ≡ false = false_from_ne_true (is_called later.seat.name s) (λ e. other (sym (name_is later.seat.name s.name e))) in
    record {
      seat = later.seat;
      new = later.new;
      there = if_false (is_called later.seat.name s) (Some s) (seat_of later.seat.name seats) uncalled ∙ later.there;
      named = later.named;
      moves = later.moves;
      left = subst (λ all. SitesReplay more all (t ∷ lasts)) (sym (if_false (is_called later.seat.name s) (later.new ∷ seats) (s ∷ reseated later.seat.name later.new seats) uncalled))
          (subst (λ entries. Replays SiteMoves s entries t) (ahead.others zero not_first) all.0, later.left);
    }
