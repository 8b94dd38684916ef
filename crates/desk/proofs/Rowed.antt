-- Rows that come are put where the protocol puts them.
use Rattle.std.proofs.Common.{◌≡◌, refl, ap, ap₂, ◌∙◌, ℕ, nat_eq, Bool, true, false, ◌&&◌, List, [], ◌∷◌, map, length, Option, Some, None, is_some, is_none, if◌then◌else◌}
use Rattle.std.specs.Cmp.Lexicographic.{pointwise}
use Rattle.std.specs.List.{AllByRecursion, list_all}
use Rattle.terms.specs.declared.cond.Cond.{Cond}
use Rattle.terms.specs.declared.leaf.Leaf.{Leaf}
use Rattle.terms.specs.declared.value.Value.{Value}
use Rattle.meaning.specs.declared.statement.Statement.{Statement}
use Rattle.catalog.specs.declared.fragment_leaf.FragmentLeaf.{FragmentLeaf}
use Rattle.catalog.specs.FragmentLeaf.{catalogue_leaves, is_name_of, leaf_named}
use Rattle.plan.specs.declared.fetch.Fetch.{Fetch}
use Rattle.plan.specs.declared.need.Need.{Need}
use Rattle.plan.proofs.Fetched.{one_name}
use Rattle.answers.specs.Evaluated.{parts_climb}
use Rattle.answers.proofs.Climbing.{parts_are}
use Rattle.protocol.specs.Desk as desk
use Rattle.desk.specs.declared.fetches.Ask.{Ask}
use Rattle.desk.specs.Fetches.{are_in, awaits, fits_leaf, with_rows}
use Rattle.desk.specs.Database.{Database, language}
use Rattle.desk.specs.OfCatalogue.{FormsParts, IsOfCatalogue}
use Rattle.desk.specs.Place.{Place, fetch_in}
use Rattle.desk.specs.Planned.{asked}
use Rattle.desk.specs.Transaction.{ask_of}
use Rattle.desk.proofs.Acknowledged.{same_bool}
use Rattle.desk.proofs.AtHomes.{found_so}
use Rattle.desk.proofs.Located.{IsOfSome, located}

module _ (db : Database) (of : IsOfCatalogue db) (n : ℕ) where
  abbrev all : List FragmentLeaf
  all = catalogue_leaves (db.catalogue n)

  -- rows fit a leaf where they are well formed
  fits_is : (name : Leaf) (leaf : FragmentLeaf) (at : List ℕ) (rows : List (List Value)) → leaf_named name all ≡ Some leaf → fits_leaf (leaf_named name all) rows ≡ db.well_formed n (at, name) rows
  fits_is name leaf at rows is =
      let found = found_so (FormsParts db n) (is_name_of name) all leaf (of.well_formed n) is in
      let tells = found.0 at rows in
      let climbs = parts_are leaf.columns rows (parts_climb (length leaf.columns) None rows) refl in
      ap (λ (o : Option FragmentLeaf). fits_leaf o rows) is
      ∙ same_bool (parts_climb (length leaf.columns) None rows) (db.well_formed n (at, leaf.name) rows) (λ t. tells.1 (climbs.0 t)) (λ t. climbs.1 (tells.0 t))
      ∙ ap (λ (l : Leaf). db.well_formed n (at, l) rows) (one_name leaf.name name found.1)

  module _ (stated : Statement) (site : List ℕ) (number : ℕ) (rows : List (List Value)) where
    awaits_is : (ask : Ask) (leaf : FragmentLeaf) → leaf_named ask.leaf all ≡ Some leaf → awaits (db.catalogue n) site number rows ask ≡ desk.awaits {L = language db} (n, stated) site number rows (ask_of db ask)
    awaits_is ask leaf is = λ i. pointwise nat_eq ask.site site && desk.is_numbered ask.number number && is_none ask.rows && fits_is ask.leaf leaf ask.site rows is i

    one_is : (ask : Ask) (leaf : FragmentLeaf) → leaf_named ask.leaf all ≡ Some leaf → ask_of db (with_rows (db.catalogue n) site number rows ask) ≡ desk.with_rows {L = language db} (n, stated) site number rows (ask_of db ask)
    one_is ask leaf is = go (awaits (db.catalogue n) site number rows ask) ∙ ap (λ b. if b then record (ask_of db ask) { rows = Some rows } else ask_of db ask) (awaits_is ask leaf is)
      where
        go : (b : Bool) → ask_of db (if b then record ask { rows = Some rows } else ask) ≡ (if b then record (ask_of db ask) { rows = Some rows } else ask_of db ask)
        go true = refl
        go false = refl

    -- so all fetches of a plan
    pub rows_are : (needs : List Need) (asks : List Ask) (list : List Fetch) → map asked asks ≡ map (fetch_in (db.catalogue n)) list → AllByRecursion (IsOfSome all needs) list →
        map (ask_of db) (map (with_rows (db.catalogue n) site number rows) asks) ≡ map (desk.with_rows {L = language db} (n, stated) site number rows) (map (ask_of db) asks)
    rows_are needs [] list same each = refl
    rows_are needs (ask ∷ asks) [] same each = cc
    rows_are needs (ask ∷ asks) (fetch ∷ list) same each =
        let head : asked ask ≡ fetch_in (db.catalogue n) fetch = cc in
        let leaf : ask.leaf ≡ fetch.leaf = ap (λ (p : Place × List Cond). p.0.1) head in
        let rest : map asked asks ≡ map (fetch_in (db.catalogue n)) list = cc in
        let there = located all needs fetch each.0 in
        ap₂ (λ x xs. x ∷ xs) (one_is ask there.0 (ap (λ (l : Leaf). leaf_named l all) leaf ∙ there.1)) (rows_are needs asks list rest each.1)

-- whether all are in
pub all_in : (db : Database) (asks : List Ask) → list_all (λ q. is_some q.rows) (map (ask_of db) asks) ≡ are_in asks
all_in db [] = refl
all_in db (ask ∷ asks) = ap (λ b. is_some ask.rows && b) (all_in db asks)
