-- A site that makes a step makes it in the protocol's world, where nothing else changes.
use Rattle.std.proofs.Common.{◌≡◌, refl, sym, ap, ◌∙◌, subst, ℕ, nat_eq, Bool, true, false, ◌||◌, List, [], ◌∷◌, map, Some, if◌then◌else◌}
use Rattle.std.specs.Cmp.Lexicographic.{pointwise}
use Rattle.std.specs.List.{AllByRecursion, list_any}
use Rattle.std.specs.Ordering.{is_eq}
use Rattle.std.proofs.lemmas.Slice.Eq.{bytes_eq-Decides}
use Rattle.store.specs.declared.letter.Letter.{Letter}
use Rattle.protocol.specs.Language.{put}
use Rattle.protocol.specs.Letter as protocol
use Rattle.protocol.specs.Letters.{body_of, kept_in, letter_of, txn_name}
use Rattle.protocol.specs.Local.{local}
use Rattle.protocol.specs.Site.{Act, SiteState, on_letter, said, site_after}
use Rattle.protocol.specs.Catalogues.{Catalogues, body_at, letter_at, listed, site_at}
use Rattle.protocol.specs.World.{addressed}
use Rattle.protocol.proofs.Basics.{some_is}
use Rattle.protocol.proofs.Placing.{act_same, after_same, said_same}
use Rattle.site.specs.State.{Takes, state_of}
use Rattle.site.proofs.Lawful.{local_lawful}
use Rattle.site.proofs.TicketOrder.{same_bool}
use Rattle.terms.specs.declared.leaf.Leaf.{Leaf}
use Rattle.terms.specs.Leaf.{leaf_cmp}
use Rattle.desk.specs.Database.{Database, IsPlace}
use Rattle.world.specs.Sites.{IsSeated, Moves, Seat, is_called, reseated, seat_of, state_at, states_of}

pub name_is : (a b : List ℕ) → pointwise nat_eq a b ≡ true → a ≡ b
name_is a b e = (bytes_eq-Decides a b).0 e

pub name_self : (a : List ℕ) → pointwise nat_eq a a ≡ true
name_self a = (bytes_eq-Decides a a).1 refl

-- a step keeps the names
pub names_kept : (name : List ℕ) (new : Seat) (seats : List Seat) → new.name ≡ name → map (λ seat. seat.name) (reseated name new seats) ≡ map (λ seat. seat.name) seats
names_kept name new [] named = refl
names_kept name new (seat ∷ seats) named = go (is_called name seat) refl (names_kept name new seats named)
  where
    go : (b : Bool) → is_called name seat ≡ b → map (λ s. s.name) (reseated name new seats) ≡ map (λ s. s.name) seats → map (λ s. s.name) (if b then new ∷ seats else seat ∷ reseated name new seats) ≡ seat.name ∷ map (λ s. s.name) seats
    go true e later = ap (λ n. n ∷ map (λ s. s.name) seats) (named ∙ name_is name seat.name e)
    go false e later = ap (λ ns. seat.name ∷ ns) later

-- what holds of each site holds of each after a step
pub all_kept : (P : Seat → Type 0) (name : List ℕ) (new : Seat) (seats : List Seat) → P new → AllByRecursion P seats → AllByRecursion P (reseated name new seats)
all_kept P name new [] here all = tt
all_kept P name new (seat ∷ seats) here all = go (is_called name seat) (all_kept P name new seats here all.1)
  where
    go : (b : Bool) → AllByRecursion P (reseated name new seats) → AllByRecursion P (if b then new ∷ seats else seat ∷ reseated name new seats)
    go true later = (here, all.1)
    go false later = (all.0, later)

-- a name that is among those of the sites is that of one
pub seat_there : (name : List ℕ) (seats : List Seat) → list_any (λ site. pointwise nat_eq site name) (map (λ seat. seat.name) seats) ≡ true → (seat : Seat) × (seat_of name seats ≡ Some seat)
seat_there name [] there = absurd cc
seat_there name (first ∷ seats) there = go (pointwise nat_eq first.name name) refl there (seat_there name seats)
  where
    Here : Type 0
    Here = (seat : Seat) × ((if is_called name first then Some first else seat_of name seats) ≡ Some seat)

    go : (b : Bool) → pointwise nat_eq first.name name ≡ b → (b || list_any (λ site. pointwise nat_eq site name) (map (λ seat. seat.name) seats)) ≡ true → (list_any (λ site. pointwise nat_eq site name) (map (λ seat. seat.name) seats) ≡ true → (seat : Seat) × (seat_of name seats ≡ Some seat)) → Here
    go true e is later = (first, ap (λ (b : Bool). if b then Some first else seat_of name seats) (subst (λ n. is_called n first ≡ true) (name_is first.name name e) (name_self first.name)))
    go false e is later = let rest = later is in (rest.0, ap (λ (b : Bool). if b then Some first else seat_of name seats) (same_bool (is_called name first) false (λ called. let same : pointwise nat_eq first.name name ≡ true = subst (λ n. pointwise nat_eq n name ≡ true) (name_is name first.name called) (name_self name) in absurd cc) (λ no_one. absurd cc)) ∙ rest.1)

-- what holds of each site holds of that of a name
pub seat_has : (P : Seat → Type 0) (name : List ℕ) (seats : List Seat) (seat : Seat) → seat_of name seats ≡ Some seat → AllByRecursion P seats → P seat
seat_has P name [] seat there all = absurd cc
seat_has P name (first ∷ seats) seat there all = go (is_called name first) there (λ later. seat_has P name seats seat later all.1)
  where
    go : (b : Bool) → (if b then Some first else seat_of name seats) ≡ Some seat → (seat_of name seats ≡ Some seat → P seat) → P seat
    go true is later = subst P (some_is is) all.0
    go false is later = later is

-- it has the name
pub seat_named : (name : List ℕ) (seats : List Seat) (seat : Seat) → seat_of name seats ≡ Some seat → seat.name ≡ name
seat_named name [] seat there = absurd cc
seat_named name (first ∷ seats) seat there = go (is_called name first) refl there (seat_named name seats seat)
  where
    go : (b : Bool) → is_called name first ≡ b → (if b then Some first else seat_of name seats) ≡ Some seat → (seat_of name seats ≡ Some seat → seat.name ≡ name) → seat.name ≡ name
    go true e is later = ap (λ s. s.name) (sym (some_is is)) ∙ sym (name_is name first.name e)
    go false e is later = later is

-- a site that is as it was leaves all as they were
pub reseated_same : (name : List ℕ) (new : Seat) (seats : List Seat) (seat : Seat) → new ≡ seat → seat_of name seats ≡ Some seat → reseated name new seats ≡ seats
reseated_same name new [] seat same there = refl
reseated_same name new (first ∷ seats) seat same there = go (is_called name first) there (reseated_same name new seats seat same)
  where
    go : (b : Bool) → (if b then Some first else seat_of name seats) ≡ Some seat → (seat_of name seats ≡ Some seat → reseated name new seats ≡ seats) → (if b then new ∷ seats else first ∷ reseated name new seats) ≡ first ∷ seats
    go true is later = ap (λ s. s ∷ seats) (same ∙ sym (some_is is))
    go false is later = ap (λ rest. first ∷ rest) (later is)

module _ (S : Catalogues local) where
  -- the state at its name
  pub state_there : (name : List ℕ) (seats : List Seat) (seat : Seat) → seat_of name seats ≡ Some seat → states_of S seats name ≡ state_at S seat
  state_there name [] seat there = absurd cc
  state_there name (first ∷ seats) seat there = go (is_called name first) there (state_there name seats seat)
    where
      go : (b : Bool) → (if b then Some first else seat_of name seats) ≡ Some seat → (seat_of name seats ≡ Some seat → states_of S seats name ≡ state_at S seat) → (if b then state_at S first else states_of S seats name) ≡ state_at S seat
      go true is later = ap (state_at S) (some_is is)
      go false is later = later is

  -- the state at one name is another one
  put_at : (name : List ℕ) (new seat : Seat) (seats : List Seat) → new.name ≡ name → seat_of name seats ≡ Some seat → (at : List ℕ) →
      states_of S (reseated name new seats) at ≡ put (pointwise nat_eq) name (state_at S new) (states_of S seats) at
  put_at name new seat [] named there at = absurd cc
  put_at name new seat (first ∷ seats) named there at = go (is_called name first) refl there (λ rest. put_at name new seat seats named rest at)
    where
      ahead : (b : Bool) → is_called at first ≡ b → is_called name first ≡ false → (if b then state_at S first else put (pointwise nat_eq) name (state_at S new) (states_of S seats) at) ≡ (if pointwise nat_eq at name then state_at S new else (if b then state_at S first else states_of S seats at))
      ahead false e apart = refl
      ahead true e apart = both (pointwise nat_eq at name) refl
        where
          both : (b : Bool) → pointwise nat_eq at name ≡ b → state_at S first ≡ (if b then state_at S new else state_at S first)
          both false e2 = refl
          both true e2 = let same : is_called name first ≡ true = subst (λ n. is_called n first ≡ true) (name_is at name e2) e in absurd cc

      go : (b : Bool) → is_called name first ≡ b → (if b then Some first else seat_of name seats) ≡ Some seat → (seat_of name seats ≡ Some seat → states_of S (reseated name new seats) at ≡ put (pointwise nat_eq) name (state_at S new) (states_of S seats) at) →
          states_of S (if b then new ∷ seats else first ∷ reseated name new seats) at ≡ (if pointwise nat_eq at name then state_at S new else (if is_called at first then state_at S first else states_of S seats at))
      go true e is later =
          let here : pointwise nat_eq at new.name ≡ pointwise nat_eq at name = ap (pointwise nat_eq at) named in
          ap (λ (b : Bool). if b then state_at S new else states_of S seats at) here ∙ last (pointwise nat_eq at name) refl
        where
          last : (b : Bool) → pointwise nat_eq at name ≡ b → (if b then state_at S new else states_of S seats at) ≡ (if b then state_at S new else (if is_called at first then state_at S first else states_of S seats at))
          last true e2 = refl
          last false e2 = let apart : is_called at first ≡ false = subst (λ n. pointwise nat_eq at n ≡ false) (name_is name first.name e) e2 in ap (λ (b : Bool). if b then state_at S first else states_of S seats at) (sym apart)
      go false e is later = ap (λ x. if is_called at first then state_at S first else x) (later is) ∙ ahead (is_called at first) refl e

  -- so the states after a step
  pub states_after : (name : List ℕ) (seat new : Seat) (before after : List Seat) → Moves name seat new before after → states_of S after ≡ put (pointwise nat_eq) name (state_at S new) (states_of S before)
  states_after name seat new before after moves = ap (states_of S) moves.is ∙ (λ i at. put_at name new seat before moves.named moves.there at i)

-- a step keeps each site fit
pub seated_after : (name : List ℕ) (seat new : Seat) (before after : List Seat) → Moves name seat new before after → AllByRecursion IsSeated before → AllByRecursion IsSeated after
seated_after name seat new before after moves all = subst (AllByRecursion IsSeated) (sym moves.is) (all_kept IsSeated name new before moves.seated all)

-- a site has each leaf that some catalogue puts there
abbrev pub HasItsLeaves : Database → Seat → Type 0
HasItsLeaves db seat = (leaf : Leaf) → IsPlace db (seat.name, leaf) → list_any (λ other. is_eq (leaf_cmp leaf other)) seat.leaves ≡ true

-- and these leaves
pub leaves_after : (db : Database) (name : List ℕ) (seat new : Seat) (before after : List Seat) → Moves name seat new before after → AllByRecursion (HasItsLeaves db) before → AllByRecursion (HasItsLeaves db) after
leaves_after db name seat new before after moves all =
    let has = seat_has (HasItsLeaves db) name before seat moves.there all in
    let here : HasItsLeaves db new = λ leaf home. ap (list_any (λ other. is_eq (leaf_cmp leaf other))) moves.leaves ∙ has leaf (subst (λ n. IsPlace db (n, leaf)) (moves.named ∙ sym (seat_named name before seat moves.there)) home) in
    subst (AllByRecursion (HasItsLeaves db)) (sym moves.is) (all_kept (HasItsLeaves db) name new before here all)

-- and the names
pub names_after : (name : List ℕ) (seat new : Seat) (before after : List Seat) → Moves name seat new before after → map (λ s. s.name) after ≡ map (λ s. s.name) before
names_after name seat new before after moves = ap (map (λ s. s.name)) moves.is ∙ names_kept name new before moves.named

-- ---- a letter
module _ (S : Catalogues local) (letter : Letter) (letters : List Letter) (seat new : Seat) (here : seat.name ≡ letter.site) (still : new.name ≡ letter.site) (takes : Takes seat.kept seat.table new.kept new.table letter letters) where
  abbrev a : List ℕ
  a = letter.site

  abbrev s : SiteState local
  s = state_of seat.kept seat.table

  abbrev kept : Bool
  kept = kept_in letters

  abbrev act : Act local
  act = on_letter s (txn_name letter.txn) kept (body_of letter.body)

  named_so : state_at S seat ≡ site_at local S a s
  named_so = ap (λ name. site_at local S name s) here

  -- the state after it is that of the table
  pub letter_state : site_after (state_at S seat) (on_letter (state_at S seat) (txn_name letter.txn) kept (body_at local S a (body_of letter.body))) ≡ state_at S new
  letter_state =
      ap (λ (x : SiteState (listed local S)). site_after x (on_letter x (txn_name letter.txn) kept (body_at local S a (body_of letter.body)))) named_so
      ∙ ap (site_after (site_at local S a s)) (sym (act_same local S local_lawful a s (txn_name letter.txn) kept (body_of letter.body)))
      ∙ sym (after_same local S local_lawful a s act) ∙ ap (site_at local S a) (sym takes.state)
      ∙ ap (λ name. site_at local S name (state_of new.kept new.table)) (sym still)

  -- so is what is answered
  pub letter_said : addressed a (txn_name letter.txn) (said (state_at S seat) (on_letter (state_at S seat) (txn_name letter.txn) kept (body_at local S a (body_of letter.body)))) ≡ map (λ l. letter_at local S (letter_of l)) letters
  letter_said =
      ap (λ (x : SiteState (listed local S)). addressed a (txn_name letter.txn) (said x (on_letter x (txn_name letter.txn) kept (body_at local S a (body_of letter.body))))) named_so
      ∙ ap (addressed a (txn_name letter.txn)) spoken ∙ put_out (said s act) ∙ ap (map (letter_at local S)) (sym takes.says) ∙ twice letters
    where
      spoken : said (site_at local S a s) (on_letter (site_at local S a s) (txn_name letter.txn) kept (body_at local S a (body_of letter.body))) ≡ map (body_at local S a) (said s act)
      spoken = ap (said (site_at local S a s)) (sym (act_same local S local_lawful a s (txn_name letter.txn) kept (body_of letter.body))) ∙ sym (said_same local S local_lawful a s act)

      put_out : (bodies : List (protocol.Body local)) → addressed a (txn_name letter.txn) (map (body_at local S a) bodies) ≡ map (letter_at local S) (addressed a (txn_name letter.txn) bodies)
      put_out [] = refl
      put_out (body ∷ bodies) = ap (λ rest. record { site = a; txn = txn_name letter.txn; body = body_at local S a body } ∷ rest) (put_out bodies)

      twice : (out : List Letter) → map (letter_at local S) (map letter_of out) ≡ map (λ l. letter_at local S (letter_of l)) out
      twice [] = refl
      twice (l ∷ out) = ap (λ rest. letter_at local S (letter_of l) ∷ rest) (twice out)
