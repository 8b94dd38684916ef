-- What is learned of a site's database from all its rows.
use Rattle.std.proofs.Common.{◌≡◌, true, List, [], refl}
use Rattle.std.specs.FinMap as map
use Rattle.sqlite.specs.Effect.{Database, IsDatabase}
use Rattle.sqlite.specs.Order.{Row}
use Rattle.sqlite_rules.proofs.ListLemmas.{all_from}
use Rattle.store.specs.declared.prepared.SiteRows.{SiteRows}
use Rattle.store.specs.Content.{Changes}
use Rattle.store.specs.SiteContent.{Lists, ListsRows}
use Rattle.terms.specs.declared.leaf.Leaf.{Leaf}
use Rattle.sqlstore.specs.declared.gathered.Gathered.{Gathered}
use Rattle.sqlstore.specs.Content.{kept_of}
use Rattle.sqlstore.specs.Gathered.{ShowsAll, ShowsTables, AreAllNumbered, gathered}
use Rattle.sqlstore.specs.Sound.{IsPart, IsStored}
use Rattle.sqlstore.specs.Tables.{site_schema}
use Rattle.sqlstore.specs.Walk.{AreParts, HasWalked}
use Rattle.sqlstore.proofs.Consistent.{stored_with, stored_without}
use Rattle.sqlstore.proofs.Rising.{numbers_by_key}
use Rattle.sqlstore.proofs.Scanning.{walked_parts}
use Rattle.sqlstore.proofs.Sharing.{HaveSame, SameRows, same_back, stored_same, lists_same, part_keys, prepared_keys, intent_keys, state_keys}
use Rattle.sqlstore.proofs.Whole.{prepared_plain, intent_plain, state_plain}

-- ---- all rows of a database

same_shown : (rows found : List Row) → ShowsAll rows found → HaveSame found rows
same_shown rows found shows = record { there = shows.sound; here = shows.all }

module _ (leaves : List Leaf) (db : Database) (sound : IsDatabase db) (schema : db.schema ≡ site_schema) (tables : Gathered) (shows : ShowsTables db tables) where
  -- the database of its parts and of the other rows, as queries show them
  abbrev beside : Database
  beside = gathered (db.trees 0) tables

  same : SameRows beside db
  same = record {
    schema = refl;
    beside = schema;
    parts = record { there = λ row there. there; here = λ row there. there };
    prepared = same_shown (db.trees 2) tables.prepared.items shows.prepared;
    intents = same_shown (db.trees 4) tables.intents.items shows.intents;
    state = same_shown (db.trees 6) tables.state.items shows.state;
  }

  pub learnt_all : IsStored leaves (gathered [] tables) → AreParts leaves (db.trees 0) → IsStored leaves db
  learnt_all stored parts = stored_same leaves beside db same (stored_with leaves tables (db.trees 0) stored parts.keyed (all_from (IsPart leaves) (db.trees 0) parts.parts))

  stored_beside : IsStored leaves db → IsStored leaves beside
  stored_beside = stored_same leaves db beside (same_back beside db same)

  pub stored_all : IsStored leaves db → IsStored leaves (gathered [] tables)
  stored_all stored = stored_without leaves tables (db.trees 0) (stored_beside stored)

  pub parts_all : IsStored leaves db → AreParts leaves (db.trees 0)
  parts_all stored = record { keyed = part_keys db stored.tables; parts = stored.parts }

  pub numbered_all : IsStored leaves db → AreAllNumbered tables
  numbered_all stored =
      let here = stored_beside stored in
      let prepared = prepared_keys beside here.tables in
      let intents = intent_keys beside here.tables in
      let state = state_keys beside here.tables in
      record {
        prepared = numbers_by_key tables.prepared.items prepared shows.prepared.rises (λ row there. prepared_plain db sound schema row (shows.prepared.sound row there) (prepared.ints row there));
        intents = numbers_by_key tables.intents.items intents shows.intents.rises (λ row there. intent_plain db sound schema row (shows.intents.sound row there) (intents.ints row there));
        state = numbers_by_key tables.state.items state shows.state.rises (λ row there. state_plain db sound schema row (shows.state.sound row there) (state.ints row there));
      }

  -- so what was listed lists the database
  pub rows_listed : IsStored leaves db → (rows : SiteRows) → ListsRows (kept_of leaves (gathered [] tables)) rows → ListsRows (kept_of leaves db) rows
  rows_listed stored rows lists = lists_same leaves beside db sound stored.tables same rows (record { rows = lists.rows; ascend = lists.ascend; incarnation = lists.incarnation })

  -- and parts that were put into changes are its fragments
  pub all_listed : IsStored leaves db → (rows : SiteRows) (parts : Changes) → ListsRows (kept_of leaves (gathered [] tables)) rows → HasWalked leaves (db.trees 0) true map.empty parts → Lists (kept_of leaves db) (record { parts = parts; rows = rows })
  all_listed stored rows parts lists walked = record { fragments = λ leaf. walked_parts leaves db sound stored walked.met walked.shows leaf parts walked.put; rows = rows_listed stored rows lists }
