-- Fetches and writes are of leaves at their sites, and at each of these there is a participant.
use Rattle.std.proofs.Common.{◌≡◌, ◌<◌, refl, sym, ap, ◌∙◌, subst, ℕ, zero, suc, nat_eq, Bool, true, false, ◌||◌, List, [], ◌∷◌, length, map, find, Option, None, Some, ⊎_elim, option_and_then, unwrap_or, if◌then◌else◌}
use Rattle.std.specs.Cmp.Lexicographic.{pointwise}
use Rattle.std.specs.List.{AllByRecursion, list_any, slice_get}
use Rattle.std.proofs.lemmas.Option.{slice_get-get_or, unwrap_or-slice_get}
use Rattle.terms.specs.declared.leaf.Leaf.{Leaf}
use Rattle.terms.specs.declared.write.Write.{Write}
use Rattle.terms.specs.declared.write.Write.TheVariants as writes
use Rattle.catalog.specs.declared.fragment_leaf.FragmentLeaf.{FragmentLeaf}
use Rattle.catalog.specs.Catalogue.{Catalogue}
use Rattle.catalog.specs.FragmentLeaf.{catalogue_leaves, is_name_of, leaf_named}
use Rattle.catalog.proofs.FormedCatalogues.{sited}
use Rattle.plan.specs.declared.fetch.Fetch.{Fetch}
use Rattle.plan.specs.declared.need.Need.{Need}
use Rattle.answers.specs.declared.moves.Move.{Move}
use Rattle.answers.specs.Moves.{is_site, is_there, is_to_either}
use Rattle.answers.specs.Writes as answers
use Rattle.answers.specs.Writes.{is_leaf_in}
use Rattle.protocol.specs.Desk as desk
use Rattle.protocol.specs.Letters.{leaf_of}
use Rattle.protocol.proofs.Basics.{or_cases}
use Rattle.desk.specs.declared.participant.Participant.{Participant}
use Rattle.desk.specs.declared.transaction.Unsent.{Unsent}
use Rattle.desk.specs.Database.{Database, language}
use Rattle.desk.specs.Does.{ArePlaced}
use Rattle.desk.specs.OfCatalogue.{IsOfCatalogue}
use Rattle.desk.specs.Opening.{HaveParticipants}
use Rattle.desk.specs.Place.{fetch_in, home_in, move_in, site_in, write_in}
use Rattle.desk.specs.Planned.{AreUnsentBy, AreUnsentFrom, ask_from, asked, unsent_by, unsent_from}
use Rattle.desk.specs.Send.{AsksAtHome, UnsentAtHome}
use Rattle.desk.specs.Participants.{is_at, sites_of}
use Rattle.desk.specs.Transaction.{ask_of, write_of}
use Rattle.desk.specs.Statement.{ask_sites, write_sites}
use Rattle.desk.proofs.Located.{IsOfSome, located}
use Rattle.desk.proofs.Participants.{text_is, text_self}

-- what holds of all holds of the one that is found, and the test too
pub found_so : {A : Type 0} (P : A → Type 0) (test : A → Bool) (xs : List A) (x : A) → AllByRecursion P xs → find test xs ≡ Some x → P x × (test x ≡ true)
found_so P test [] x all is = cc
found_so P test (y ∷ xs) x all is = go (test y) refl is (found_so P test xs x all.1)
  where
    go : (b : Bool) → test y ≡ b → (if b then Some y else find test xs) ≡ Some x → (find test xs ≡ Some x → P x × (test x ≡ true)) → P x × (test x ≡ true)
    go true e is rest = let same : y ≡ x = cc in (subst P same all.0, subst (λ z. test z ≡ true) same e)
    go false e is rest = rest is

-- some passes where one is found
pub any_found : {A : Type 0} (test : A → Bool) (xs : List A) → list_any test xs ≡ true → (x : A) × (find test xs ≡ Some x)
any_found test [] is = cc
any_found {A} test (y ∷ xs) is = go (test y) is (any_found test xs)
  where
    go : (b : Bool) → (b || list_any test xs) ≡ true → (list_any test xs ≡ true → (x : A) × (find test xs ≡ Some x)) → (x : A) × ((if b then Some y else find test xs) ≡ Some x)
    go true is rest = (y, refl)
    go false is rest = rest is

-- a participant is there for a site of the list
pub participant_there : (participants : List Participant) (place : ℕ) (site : List ℕ) → slice_get (sites_of participants) place ≡ Some site → list_any (is_at site) participants ≡ true
participant_there [] place site is = cc
participant_there (s ∷ participants) zero site is = let same : s.site ≡ site = cc in ap (λ b. b || list_any (is_at site) participants) (subst (λ x. pointwise nat_eq s.site x ≡ true) same (text_self s.site))
participant_there (s ∷ participants) (suc place) site is = go (is_at site s) (participant_there participants place site is)
  where
    go : (b : Bool) → list_any (is_at site) participants ≡ true → (b || list_any (is_at site) participants) ≡ true
    go true rest = refl
    go false rest = rest

-- a site is there below their number
within : (sites : List (List ℕ)) (place : ℕ) → place < length sites → slice_get sites place ≡ Some (unwrap_or (slice_get sites place) [])
within sites place below = slice_get-get_or sites place [] below ∙ ap Some (sym (unwrap_or-slice_get sites place []))

module _ (db : Database) (of : IsOfCatalogue db) (n : ℕ) where
  abbrev in_force : Catalogue
  in_force = db.catalogue n

  abbrev all : List FragmentLeaf
  all = catalogue_leaves in_force

  abbrev at : Option FragmentLeaf → Option (List ℕ)
  at found = option_and_then (λ leaf. slice_get in_force.sites leaf.site) found

  -- a leaf that is there is at a site
  pub site_is : (name : Leaf) (leaf : FragmentLeaf) → leaf_named name all ≡ Some leaf → slice_get in_force.sites leaf.site ≡ Some (home_in in_force name)
  site_is name leaf is =
      let found = found_so (λ l. l.site < length in_force.sites) (is_name_of name) all leaf (sited in_force all refl (of.formed n)) is in
      within in_force.sites leaf.site found.0 ∙ ap (λ o. Some (unwrap_or (at o) [])) (sym is)

  home_is : (name : Leaf) (leaf : FragmentLeaf) → leaf_named name all ≡ Some leaf → site_in in_force name ≡ Some (home_in in_force name)
  home_is name leaf is = ap at is ∙ site_is name leaf is

  named : (write : Write) → is_leaf_in all (answers.leaf_of write) ≡ true → (leaf : FragmentLeaf) × (leaf_named (leaf_of write) all ≡ Some leaf)
  named (writes.Put leaf part) is = any_found (is_name_of leaf) all is
  named (writes.Del leaf key) is = any_found (is_name_of leaf) all is

  module _ (participants : List Participant) (those : sites_of participants ≡ db.sites) where
    at_participant : (name : Leaf) (leaf : FragmentLeaf) → leaf_named name all ≡ Some leaf → list_any (is_at (home_in in_force name)) participants ≡ true
    at_participant name leaf is = participant_there participants leaf.site (home_in in_force name) (ap (λ (ss : List (List ℕ)). slice_get ss leaf.site) (those ∙ of.sites n) ∙ site_is name leaf is)

    -- each fetch has a participant
    pub asks_participants : (needs : List Need) (fetches : List Fetch) → AllByRecursion (IsOfSome all needs) fetches → HaveParticipants participants (ask_sites (map (ask_from in_force) fetches))
    asks_participants needs [] each = tt
    asks_participants needs (fetch ∷ fetches) each = let there = located all needs fetch each.0 in (at_participant fetch.leaf there.0 there.1, asks_participants needs fetches each.1)

    pub writes_participants : (list : List Write) → AllByRecursion (λ write. is_leaf_in all (answers.leaf_of write) ≡ true) list → HaveParticipants participants (write_sites (map (unsent_from in_force) list))
    writes_participants [] each = tt
    writes_participants (write ∷ list) each = let there = named write each.0 in (at_participant (leaf_of write) there.0 there.1, writes_participants list each.1)

  -- each is of a leaf at its site
  pub asks_home : (needs : List Need) (fetches : List Fetch) → AllByRecursion (IsOfSome all needs) fetches → AsksAtHome db (map (ask_from in_force) fetches)
  asks_home needs [] each = tt
  asks_home needs (fetch ∷ fetches) each =
      let there = located all needs fetch each.0 in
      (record { version = n; there = home_is fetch.leaf there.0 there.1 }, asks_home needs fetches each.1)

  pub writes_home : (list : List Write) → AllByRecursion (λ write. is_leaf_in all (answers.leaf_of write) ≡ true) list → UnsentAtHome db (map (unsent_from in_force) list)
  writes_home [] each = tt
  writes_home (write ∷ list) each =
      let there = named write each.0 in
      (record { version = n; there = home_is (leaf_of write) there.0 there.1 }, writes_home list each.1)

-- ---- moves
-- a leaf that a catalogue has at a site is there
there_is : (catalogue : Catalogue) (site : List ℕ) (name : Leaf) → is_there catalogue site name ≡ true → site_in catalogue name ≡ Some site
there_is catalogue site name there = go (site_in catalogue name) there
  where
    go : (o : Option (List ℕ)) → is_site o site ≡ true → o ≡ Some site
    go None e = cc
    go (Some home) e = ap Some (text_is home site e)

-- so it is one of the sites
among_sites : (catalogue : Catalogue) (sites : List (List ℕ)) → sites ≡ catalogue.sites → (participants : List Participant) → sites_of participants ≡ sites → (site : List ℕ) (name : Leaf) → site_in catalogue name ≡ Some site → list_any (is_at site) participants ≡ true
among_sites catalogue sites same participants those site name is = go (leaf_named name (catalogue_leaves catalogue)) is
  where
    go : (found : Option FragmentLeaf) → option_and_then (λ leaf. slice_get catalogue.sites leaf.site) found ≡ Some site → list_any (is_at site) participants ≡ true
    go None e = cc
    go (Some leaf) e = participant_there participants leaf.site site (ap (λ (ss : List (List ℕ)). slice_get ss leaf.site) (those ∙ same) ∙ e)

module _ (db : Database) (of : IsOfCatalogue db) (n : ℕ) where
  move_home : (move : Move) → is_to_either (db.catalogue n) (db.catalogue (suc n)) move ≡ true → (m : ℕ) × (site_in (db.catalogue m) (answers.leaf_of move.write) ≡ Some move.site)
  move_home move either = ⊎_elim
      (λ old. (n, there_is (db.catalogue n) move.site (answers.leaf_of move.write) old))
      (λ new. (suc n, there_is (db.catalogue (suc n)) move.site (answers.leaf_of move.write) new))
      (or_cases (is_there (db.catalogue n) move.site (answers.leaf_of move.write)) _ either)

  same_leaf : (write : Write) → answers.leaf_of write ≡ leaf_of write
  same_leaf (writes.Put leaf part) = refl
  same_leaf (writes.Del leaf key) = refl

  -- moves are of leaves at their sites, under the one catalogue or the next, and each site has a participant
  pub moves_home : (list : List Move) → AllByRecursion (λ one. is_to_either (db.catalogue n) (db.catalogue (suc n)) one ≡ true) list → UnsentAtHome db (map unsent_by list)
  moves_home [] each = tt
  moves_home (move ∷ list) each = let home = move_home move each.0 in (record { version = home.0; there = ap (site_in (db.catalogue home.0)) (sym (same_leaf move.write)) ∙ home.1 }, moves_home list each.1)

  pub moves_participants : (participants : List Participant) → sites_of participants ≡ db.sites → (list : List Move) → AllByRecursion (λ one. is_to_either (db.catalogue n) (db.catalogue (suc n)) one ≡ true) list → HaveParticipants participants (write_sites (map unsent_by list))
  moves_participants participants those [] each = tt
  moves_participants participants those (move ∷ list) each =
      let home = move_home move each.0 in
      (among_sites (db.catalogue home.0) db.sites (of.sites home.0) participants those move.site (answers.leaf_of move.write) home.1, moves_participants participants those list each.1)

-- the moves with their sites are the moves
pub moves_are : (list : List Move) → map write_of (map unsent_by list) ≡ map move_in list
moves_are [] = refl
moves_are (move ∷ list) = ap (λ rest. move_in move ∷ rest) (moves_are list)

-- so where the catalogues go by other names
pub from_home : (db : Database) (of : IsOfCatalogue db) (n : ℕ) (catalogue : Catalogue) → db.catalogue n ≡ catalogue → (unsent : List Unsent) → AreUnsentFrom catalogue unsent → UnsentAtHome db unsent
from_home db of n catalogue same unsent from =
    subst (UnsentAtHome db) (sym from.are) (subst (λ cat. UnsentAtHome db (map (unsent_from cat) from.writes)) same
    (writes_home db of n from.writes (subst (λ cat. AllByRecursion (λ write. is_leaf_in (catalogue_leaves cat) (answers.leaf_of write) ≡ true) from.writes) (sym same) from.leaves)))

pub from_participants : (db : Database) (of : IsOfCatalogue db) (n : ℕ) (catalogue : Catalogue) → db.catalogue n ≡ catalogue → (participants : List Participant) → sites_of participants ≡ db.sites → (unsent : List Unsent) → AreUnsentFrom catalogue unsent → HaveParticipants participants (write_sites unsent)
from_participants db of n catalogue same participants those unsent from =
    subst (λ us. HaveParticipants participants (write_sites us)) (sym from.are) (subst (λ cat. HaveParticipants participants (write_sites (map (unsent_from cat) from.writes))) same
    (writes_participants db of n participants those from.writes (subst (λ cat. AllByRecursion (λ write. is_leaf_in (catalogue_leaves cat) (answers.leaf_of write) ≡ true) from.writes) (sym same) from.leaves)))

module _ (db : Database) (of : IsOfCatalogue db) (n : ℕ) (old new : Catalogue) (same : db.catalogue n ≡ old) (next : db.catalogue (suc n) ≡ new) (unsent : List Unsent) (by : AreUnsentBy old new unsent) where
  there : AllByRecursion (λ one. is_to_either (db.catalogue n) (db.catalogue (suc n)) one ≡ true) by.moves
  there = subst (λ one. AllByRecursion (λ move. is_to_either one (db.catalogue (suc n)) move ≡ true) by.moves) (sym same) (subst (λ other. AllByRecursion (λ move. is_to_either old other move ≡ true) by.moves) (sym next) by.leaves)

  pub by_home : UnsentAtHome db unsent
  by_home = subst (UnsentAtHome db) (sym by.are) (moves_home db of n by.moves there)

  pub by_participants : (participants : List Participant) → sites_of participants ≡ db.sites → HaveParticipants participants (write_sites unsent)
  by_participants participants those = subst (λ us. HaveParticipants participants (write_sites us)) (sym by.are) (moves_participants db of n participants those by.moves there)

-- so the writes of an answer are
pub all_placed : (db : Database) (unsent : List Unsent) → UnsentAtHome db unsent → ArePlaced db (map write_of unsent)
all_placed db [] home = tt
all_placed db (first ∷ unsent) home = (home.0, all_placed db unsent home.1)

-- the writes with their sites are the writes
pub writes_are : (catalogue : Catalogue) (list : List Write) → map write_of (map (unsent_from catalogue) list) ≡ map (write_in catalogue) list
writes_are catalogue [] = refl
writes_are catalogue (write ∷ list) = ap (λ rest. write_in catalogue write ∷ rest) (writes_are catalogue list)

-- the fetches are in order, and none is sent
pub asks_order : (catalogue : Catalogue) (fetches : List Fetch) → map asked (map (ask_from catalogue) fetches) ≡ map (fetch_in catalogue) fetches
asks_order catalogue [] = refl
asks_order catalogue (fetch ∷ fetches) = ap (λ rest. fetch_in catalogue fetch ∷ rest) (asks_order catalogue fetches)

pub asks_fresh : (db : Database) (catalogue : Catalogue) (fetches : List Fetch) → map (ask_of db) (map (ask_from catalogue) fetches) ≡ map (desk.ask_of {L = language db}) (map (fetch_in catalogue) fetches)
asks_fresh db catalogue [] = refl
asks_fresh db catalogue (fetch ∷ fetches) = ap (λ rest. desk.ask_of {L = language db} (fetch_in catalogue fetch) ∷ rest) (asks_fresh db catalogue fetches)
