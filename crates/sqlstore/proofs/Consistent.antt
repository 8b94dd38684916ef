-- Rows that pass each test are as a site's store leaves them, and the other way about.
use Rattle.std.proofs.Common.{List, [], refl, inl, inr}
use Rattle.std.specs.List.{AllByRecursion}
use Rattle.sqlite.specs.Order.{Row}
use Rattle.sqlite_rules.specs.Lists.{Has}
use Rattle.sqlite_rules.proofs.ListLemmas.{all_from, all_has}
use Rattle.terms.specs.declared.leaf.Leaf.{Leaf}
use Rattle.sqlstore.specs.declared.gathered.Gathered.{Gathered}
use Rattle.sqlstore.specs.Gathered.{gathered, AreAllNumbered, AreBegun, IsPromised}
use Rattle.sqlstore.specs.Rows.{AreKeyed}
use Rattle.sqlstore.specs.Sound.{AreOfOne, IsIntent, IsNumbered, IsPart, IsStored}
use Rattle.sqlstore.proofs.Rising.{keyed_by_numbers}
use Rattle.sqlstore.proofs.Sharing.{four_keyed}

-- ---- what is stored

no_rows : AreKeyed []
no_rows = record { ints = λ row there. absurd there; apart = λ one other h k same. absurd h }

module _ (leaves : List Leaf) (tables : Gathered) where
  pub stored_of : AreAllNumbered tables → AreBegun tables.state.items → AllByRecursion IsNumbered tables.prepared.items → AllByRecursion (λ intent. IsIntent leaves intent × IsPromised tables.prepared.items intent) tables.intents.items
      → ((row : Row) → Has tables.prepared.items row → (intent : Row) × Has tables.intents.items intent × AreOfOne row intent) → IsStored leaves (gathered [] tables)
  stored_of all begun numbered intents intended =
      record {
        tables = four_keyed (gathered [] tables) refl no_rows (keyed_by_numbers tables.prepared.items all.prepared) (keyed_by_numbers tables.intents.items all.intents) (keyed_by_numbers tables.state.items all.state);
        parts = λ row there. absurd there;
        intents = λ intent there. (all_has (λ i. IsIntent leaves i × IsPromised tables.prepared.items i) tables.intents.items intent intents there).0;
        prepared = λ row there. all_has IsNumbered tables.prepared.items row numbered there;
        intended = intended;
        promised = λ intent there. (all_has (λ i. IsIntent leaves i × IsPromised tables.prepared.items i) tables.intents.items intent intents there).1;
        begun = λ row there. all_has _ tables.state.items row begun there;
      }

  pub begun_of : IsStored leaves (gathered [] tables) → AreBegun tables.state.items
  begun_of stored = all_from _ tables.state.items stored.begun

  pub numbered_of : IsStored leaves (gathered [] tables) → AllByRecursion IsNumbered tables.prepared.items
  numbered_of stored = all_from IsNumbered tables.prepared.items stored.prepared

  pub intents_of : IsStored leaves (gathered [] tables) → AllByRecursion (λ intent. IsIntent leaves intent × IsPromised tables.prepared.items intent) tables.intents.items
  intents_of stored = all_from (λ i. IsIntent leaves i × IsPromised tables.prepared.items i) tables.intents.items (λ intent there. (stored.intents intent there, stored.promised intent there))

  -- and so with parts
  pub stored_with : (parts : List Row) → IsStored leaves (gathered [] tables) → AreKeyed parts → AllByRecursion (IsPart leaves) parts → IsStored leaves (gathered parts tables)
  stored_with parts stored keyed all = record {
    tables = four_keyed (gathered parts tables) refl keyed (stored.tables.keyed _ (inr (inl refl))) (stored.tables.keyed _ (inr (inr (inl refl)))) (stored.tables.keyed _ (inr (inr (inr (inl refl)))));
    parts = λ row there. all_has (IsPart leaves) parts row all there;
    intents = stored.intents;
    prepared = stored.prepared;
    intended = stored.intended;
    promised = stored.promised;
    begun = stored.begun;
  }

  pub stored_without : (parts : List Row) → IsStored leaves (gathered parts tables) → IsStored leaves (gathered [] tables)
  stored_without parts stored = record {
    tables = four_keyed (gathered [] tables) refl no_rows (stored.tables.keyed _ (inr (inl refl))) (stored.tables.keyed _ (inr (inr (inl refl)))) (stored.tables.keyed _ (inr (inr (inr (inl refl)))));
    parts = λ row there. absurd there;
    intents = stored.intents;
    prepared = stored.prepared;
    intended = stored.intended;
    promised = stored.promised;
    begun = stored.begun;
  }

  pub parts_of : (parts : List Row) → IsStored leaves (gathered parts tables) → AllByRecursion (IsPart leaves) parts
  parts_of parts stored = all_from (IsPart leaves) parts stored.parts
