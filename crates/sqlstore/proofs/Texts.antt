-- What each text means, under the schema of a site.
use Rattle.std.proofs.Common.{◌≡◌, ℕ, pos, negsuc, List, [], ◌∷◌, false, codes, None, refl}
use Rattle.sqlite.specs.Collation.{Collation}
use Rattle.sqlite.specs.Collation.TheVariants.{Binary}
use Rattle.sqlite.specs.Command.{Command}
use Rattle.sqlite.specs.Command.TheVariants.{Insert, Select, Delete}
use Rattle.sqlite.specs.Listing.{understood, reads_listing}
use Rattle.sqlite.specs.Query.{Query, inner, end}
use Rattle.sqlite.specs.Source.TheVariants as source
use Rattle.sqlite.specs.Term.{Term, lit, col}
use Rattle.sqlite.specs.declared.types.Value.TheVariants.{Null, Int}
use Rattle.sqlite.proofs.Callers.{IsPlain, command_of}
use Rattle.sqlite_tied.specs.Compute.{everything}
use Rattle.sqlite_value.specs.Keys.{ascending}
use Rattle.sqlstore.specs.Gathered.{prepared_terms, intent_terms, state_terms}
use Rattle.sqlstore.specs.Listed.{part_terms}
use Rattle.sqlstore.specs.Tests.{of_leaf, at_slot, of_visit, puts_of_visit}
use Rattle.sqlstore.specs.Tables.{site_schema}
use Rattle.sqlstore.specs.Walk.{parts_text}

-- ---- queries of one table

abbrev pub simple : ℕ → List Term → List Term → List Collation → Query
simple table filter project collations = record {
  from = inner table end;
  filter = filter;
  group = None;
  project = project;
  distinct = false;
  collations = collations;
  order = [];
  limit = lit (Int (negsuc 0));
  offset = lit (Int (pos 0));
}

abbrev pub deletes_from : ℕ → ℕ → List Term → Command
deletes_from at table filter = Delete at (record { lets = []; body = simple table filter (col 1 0 ∷ []) [] })

abbrev pub selects : ℕ → List Term → List Term → List (List ℕ) → Command
selects table filter project names = Select (record { lets = []; body = simple table filter project [] }) names

-- ---- what changes

abbrev pub take_text : List ℕ
take_text = codes "DELETE FROM part WHERE leaf = ?1 AND id = ?2"

pub take_is : command_of (understood site_schema take_text) ≡ deletes_from 0 0 at_slot
unfolding understood everything
take_is = refl

pub take_plain : IsPlain (understood site_schema take_text)
unfolding understood everything
take_plain = (refl, refl)

abbrev pub give_text : List ℕ
give_text = codes "INSERT INTO part (leaf, id, body) SELECT leaf, id, body FROM intent WHERE life = ?1 AND visit = ?2 AND body <> x''"

pub give_is : command_of (understood site_schema give_text) ≡ Insert 0 (source.Query (record { lets = []; body = simple 4 puts_of_visit (lit Null ∷ col 1 3 ∷ col 1 4 ∷ col 1 5 ∷ []) (Binary ∷ Binary ∷ Binary ∷ Binary ∷ []) }))
unfolding understood everything
give_is = refl

pub give_plain : IsPlain (understood site_schema give_text)
unfolding understood everything
give_plain = (refl, refl)

abbrev pub clear_text : List ℕ
clear_text = codes "DELETE FROM intent WHERE life = ?1 AND visit = ?2"

pub clear_is : command_of (understood site_schema clear_text) ≡ deletes_from 2 4 of_visit
unfolding understood everything
clear_is = refl

pub clear_plain : IsPlain (understood site_schema clear_text)
unfolding understood everything
clear_plain = (refl, refl)

abbrev pub forget_text : List ℕ
forget_text = codes "DELETE FROM prepared WHERE life = ?1 AND visit = ?2"

pub forget_is : command_of (understood site_schema forget_text) ≡ deletes_from 1 2 of_visit
unfolding understood everything
forget_is = refl

pub forget_plain : IsPlain (understood site_schema forget_text)
unfolding understood everything
forget_plain = (refl, refl)

abbrev pub promise_text : List ℕ
promise_text = codes "INSERT INTO prepared (life, visit, tlife, tnumber) VALUES (?1, ?2, ?3, ?4)"

pub promise_is : command_of (understood site_schema promise_text) ≡ Insert 1 (source.Values (lit Null ∷ col 0 0 ∷ col 0 1 ∷ col 0 2 ∷ col 0 3 ∷ []) 5)
unfolding understood everything
promise_is = refl

pub promise_plain : IsPlain (understood site_schema promise_text)
unfolding understood everything
promise_plain = (refl, refl)

abbrev pub intend_text : List ℕ
intend_text = codes "INSERT INTO intent (life, visit, leaf, id, body) VALUES (?1, ?2, ?3, ?4, ?5)"

pub intend_is : command_of (understood site_schema intend_text) ≡ Insert 2 (source.Values (lit Null ∷ col 0 0 ∷ col 0 1 ∷ col 0 2 ∷ col 0 3 ∷ col 0 4 ∷ []) 6)
unfolding understood everything
intend_is = refl

pub intend_plain : IsPlain (understood site_schema intend_text)
unfolding understood everything
intend_plain = (refl, refl)

abbrev pub end_life_text : List ℕ
end_life_text = codes "DELETE FROM state"

pub end_life_is : command_of (understood site_schema end_life_text) ≡ deletes_from 3 6 []
unfolding understood everything
end_life_is = refl

pub end_life_plain : IsPlain (understood site_schema end_life_text)
unfolding understood everything
end_life_plain = (refl, refl)

abbrev pub begin_life_text : List ℕ
begin_life_text = codes "INSERT INTO state (one, life) VALUES (1, ?1)"

pub begin_life_is : command_of (understood site_schema begin_life_text) ≡ Insert 3 (source.Values (lit (Int (pos 1)) ∷ lit Null ∷ col 0 0 ∷ []) 3)
unfolding understood everything
begin_life_is = refl

pub begin_life_plain : IsPlain (understood site_schema begin_life_text)
unfolding understood everything
begin_life_plain = (refl, refl)

-- ---- what reads

abbrev pub life_text : List ℕ
life_text = codes "SELECT life FROM state"

pub life_is : command_of (understood site_schema life_text) ≡ selects 6 [] (col 1 2 ∷ []) (codes "life" ∷ [])
unfolding understood everything
life_is = refl

abbrev pub slots_text : List ℕ
slots_text = codes "SELECT leaf, id FROM intent WHERE life = ?1 AND visit = ?2"

pub slots_is : command_of (understood site_schema slots_text) ≡ selects 4 of_visit (col 1 3 ∷ col 1 4 ∷ []) (codes "leaf" ∷ codes "id" ∷ [])
unfolding understood everything
slots_is = refl

pub slots_plain : IsPlain (understood site_schema slots_text)
unfolding understood everything
slots_plain = (refl, refl)

pub slots_unlisted : reads_listing site_schema slots_text ≡ false
unfolding understood everything
slots_unlisted = refl

pub life_plain : IsPlain (understood site_schema life_text)
unfolding understood everything
life_plain = (refl, refl)

pub life_unlisted : reads_listing site_schema life_text ≡ false
unfolding understood everything
life_unlisted = refl

abbrev pub bodies_text : List ℕ
bodies_text = codes "SELECT body FROM part WHERE leaf = ?1 AND id = ?2"

pub bodies_is : command_of (understood site_schema bodies_text) ≡ selects 0 at_slot (col 1 3 ∷ []) (codes "body" ∷ [])
unfolding understood everything
bodies_is = refl

pub bodies_plain : IsPlain (understood site_schema bodies_text)
unfolding understood everything
bodies_plain = (refl, refl)

pub bodies_unlisted : reads_listing site_schema bodies_text ≡ false
unfolding understood everything
bodies_unlisted = refl

abbrev pub rows_text : List ℕ
rows_text = codes "SELECT rowid, leaf, id, body FROM part WHERE leaf = ?1"

pub rows_is : command_of (understood site_schema rows_text) ≡ selects 0 of_leaf (col 1 0 ∷ col 1 1 ∷ col 1 2 ∷ col 1 3 ∷ []) (codes "rowid" ∷ codes "leaf" ∷ codes "id" ∷ codes "body" ∷ [])
unfolding understood everything
rows_is = refl

pub rows_plain : IsPlain (understood site_schema rows_text)
unfolding understood everything
rows_plain = (refl, refl)

pub rows_unlisted : reads_listing site_schema rows_text ≡ false
unfolding understood everything
rows_unlisted = refl

-- ---- what reads all rows of a table, in the order of their numbers

abbrev pub lists : ℕ → List Term → List (List ℕ) → Command
lists table project names = Select (record { lets = []; body = record (simple table [] project []) { order = (col 1 0, ascending Binary) ∷ [] } }) names

abbrev pub parts_names : List (List ℕ)
parts_names = codes "rowid" ∷ codes "leaf" ∷ codes "id" ∷ codes "body" ∷ []

pub parts_is : command_of (understood site_schema parts_text) ≡ lists 0 part_terms parts_names
unfolding understood everything
parts_is = refl

pub parts_plain : IsPlain (understood site_schema parts_text)
unfolding understood everything
parts_plain = (refl, refl)

pub parts_unlisted : reads_listing site_schema parts_text ≡ false
unfolding understood everything
parts_unlisted = refl

abbrev pub prepared_text : List ℕ
prepared_text = codes "SELECT rowid, life, visit, tlife, tnumber FROM prepared ORDER BY rowid"

abbrev pub prepared_names : List (List ℕ)
prepared_names = codes "rowid" ∷ codes "life" ∷ codes "visit" ∷ codes "tlife" ∷ codes "tnumber" ∷ []

pub prepared_is : command_of (understood site_schema prepared_text) ≡ lists 2 prepared_terms prepared_names
unfolding understood everything
prepared_is = refl

pub prepared_plain : IsPlain (understood site_schema prepared_text)
unfolding understood everything
prepared_plain = (refl, refl)

pub prepared_unlisted : reads_listing site_schema prepared_text ≡ false
unfolding understood everything
prepared_unlisted = refl

abbrev pub intents_text : List ℕ
intents_text = codes "SELECT rowid, life, visit, leaf, id, body FROM intent ORDER BY rowid"

abbrev pub intents_names : List (List ℕ)
intents_names = codes "rowid" ∷ codes "life" ∷ codes "visit" ∷ codes "leaf" ∷ codes "id" ∷ codes "body" ∷ []

pub intents_is : command_of (understood site_schema intents_text) ≡ lists 4 intent_terms intents_names
unfolding understood everything
intents_is = refl

pub intents_plain : IsPlain (understood site_schema intents_text)
unfolding understood everything
intents_plain = (refl, refl)

pub intents_unlisted : reads_listing site_schema intents_text ≡ false
unfolding understood everything
intents_unlisted = refl

abbrev pub state_text : List ℕ
state_text = codes "SELECT one, NULL, life FROM state ORDER BY one"

abbrev pub state_names : List (List ℕ)
state_names = codes "one" ∷ codes "NULL" ∷ codes "life" ∷ []

pub state_is : command_of (understood site_schema state_text) ≡ lists 6 state_terms state_names
unfolding understood everything
state_is = refl

pub state_plain : IsPlain (understood site_schema state_text)
unfolding understood everything
state_plain = (refl, refl)

pub state_unlisted : reads_listing site_schema state_text ≡ false
unfolding understood everything
state_unlisted = refl
