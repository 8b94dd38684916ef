-- Databases whose tables have the same rows keep the same.
use Rattle.std.proofs.Common.{◌≡◌, List, [], ◌∷◌, refl, sym, ap, ◌∙◌, subst, inl, inr, unsigned_abs}
use Rattle.std.specs.FinMap as map
use Rattle.std.proofs.lemmas.Bool.{and_parts}
use Rattle.sqlite.specs.Effect.{Database, IsDatabase}
use Rattle.sqlite.specs.Order.{Row}
use Rattle.sqlite.specs.Table.{Table}
use Rattle.sqlite_rules.specs.Lists.{Has}
use Rattle.store.specs.declared.name.Ticket.{Ticket}
use Rattle.store.specs.declared.prepared.SiteRows.{SiteRows}
use Rattle.store.specs.ContentLaws.{same_content}
use Rattle.store.specs.Orders.{slot_cmp_total, slot_cmp-IsAntisymmetric}
use Rattle.store.specs.SiteContent.{IsUnchanged, ListsRows}
use Rattle.terms.specs.declared.leaf.Leaf.{Leaf}
use Rattle.sqlstore.specs.Cells.{text_at, int_at, is_int}
use Rattle.sqlstore.specs.Content.{decoded, is_called, content_in, is_of, put_of, changes_in, row_as, prepared_in, life_in, kept_of}
use Rattle.sqlstore.specs.Rows.{AreTables, AreKeyed}
use Rattle.sqlstore.specs.Sound.{IsStored}
use Rattle.sqlstore.specs.Tables.{site_schema}
use Rattle.sqlstore.proofs.Bridge.{called_text, int_same}
use Rattle.sqlstore.proofs.Contents.{look_content, look_changes, look_prepared, is_part_at, is_intent_at}
use Rattle.sqlstore.proofs.Forgetting.{looks_same, of_parts}
use Rattle.sqlstore.proofs.Typed.{part_once, prepared_once, intent_once, state_once}

-- two tables have the same rows
pub record HaveSame (one other : List Row) : Type 0 where
  pub there : (row : Row) → Has one row → Has other row
  pub here : (row : Row) → Has other row → Has one row

pub record SameRows (one other : Database) : Type 0 where
  pub schema : one.schema ≡ site_schema
  pub beside : other.schema ≡ site_schema
  pub parts : HaveSame (one.trees 0) (other.trees 0)
  pub prepared : HaveSame (one.trees 2) (other.trees 2)
  pub intents : HaveSame (one.trees 4) (other.trees 4)
  pub state : HaveSame (one.trees 6) (other.trees 6)

swapped : (one other : List Row) → HaveSame one other → HaveSame other one
swapped one other same = record { there = same.here; here = same.there }

pub same_back : (one other : Database) → SameRows one other → SameRows other one
same_back one other same = record {
  schema = same.beside;
  beside = same.schema;
  parts = swapped (one.trees 0) (other.trees 0) same.parts;
  prepared = swapped (one.trees 2) (other.trees 2) same.prepared;
  intents = swapped (one.trees 4) (other.trees 4) same.intents;
  state = swapped (one.trees 6) (other.trees 6) same.state;
}

pub keyed_same : (one other : List Row) → HaveSame one other → AreKeyed one → AreKeyed other
keyed_same one other same keyed = record {
  ints = λ row there. keyed.ints row (same.here row there);
  apart = λ a b h k is. keyed.apart a b (same.here a h) (same.here b k) is;
}

-- the tables are a site's where the rows of each of the four are numbered
pub four_keyed : (db : Database) → db.schema ≡ site_schema → AreKeyed (db.trees 0) → AreKeyed (db.trees 2) → AreKeyed (db.trees 4) → AreKeyed (db.trees 6) → AreTables db
four_keyed db schema parts prepared intents state = record {
  schema = schema;
  keyed = λ table listed. elim listed [
    | inl one ↦ subst (λ (t : Table). AreKeyed (db.trees t.tree)) (sym one) parts
    | inr others ↦ elim others [
      | inl two ↦ subst (λ (t : Table). AreKeyed (db.trees t.tree)) (sym two) prepared
      | inr more ↦ elim more [
        | inl three ↦ subst (λ (t : Table). AreKeyed (db.trees t.tree)) (sym three) intents
        | inr last ↦ elim last [
          | inl four ↦ subst (λ (t : Table). AreKeyed (db.trees t.tree)) (sym four) state
          | inr none ↦ absurd none
        ]
      ]
    ]
  ];
}

-- each of the four is keyed
pub part_keys : (db : Database) → AreTables db → AreKeyed (db.trees 0)
part_keys db tables = tables.keyed _ (inl refl)

pub prepared_keys : (db : Database) → AreTables db → AreKeyed (db.trees 2)
prepared_keys db tables = tables.keyed _ (inr (inl refl))

pub intent_keys : (db : Database) → AreTables db → AreKeyed (db.trees 4)
intent_keys db tables = tables.keyed _ (inr (inr (inl refl)))

pub state_keys : (db : Database) → AreTables db → AreKeyed (db.trees 6)
state_keys db tables = tables.keyed _ (inr (inr (inr (inl refl))))

pub stored_same : (leaves : List Leaf) (one other : Database) → SameRows one other → IsStored leaves one → IsStored leaves other
stored_same leaves one other same stored = record {
  tables =
      four_keyed other same.beside (keyed_same _ _ same.parts (part_keys one stored.tables)) (keyed_same _ _ same.prepared (prepared_keys one stored.tables))
      (keyed_same _ _ same.intents (intent_keys one stored.tables)) (keyed_same _ _ same.state (state_keys one stored.tables));
  parts = λ row there. stored.parts row (same.parts.here row there);
  intents = λ row there. stored.intents row (same.intents.here row there);
  prepared = λ row there. stored.prepared row (same.prepared.here row there);
  intended = λ row there. let its = stored.intended row (same.prepared.here row there) in (its.0, same.intents.there its.0 its.1, its.2);
  promised = λ intent there. let its = stored.promised intent (same.intents.here intent there) in (its.0, same.prepared.there its.0 its.1, its.2);
  begun = λ row there. stored.begun row (same.state.here row there);
}

life_same : (one other : List Row) → HaveSame one other → ((a b : Row) → Has other a → Has other b → a ≡ b) → life_in one ≡ life_in other
life_same [] [] same once = refl
life_same [] (row ∷ other) same once = absurd (same.here row (inl refl))
life_same (row ∷ one) [] same once = absurd (same.there row (inl refl))
life_same (row ∷ one) (beside ∷ other) same once = ap (λ r. unsigned_abs (int_at r 2)) (once row beside (same.there row (inl refl)) (inl refl))

module _ (leaves : List Leaf) (one other : Database) (sound : IsDatabase other) (tables : AreTables other) (same : SameRows one other) where
  contents_same : (leaf : Leaf) → content_in leaves (one.trees 0) leaf ≡ content_in leaves (other.trees 0) leaf
  contents_same leaf = same_content _ _ (λ key.
      looks_same (is_part_at leaves leaf key) (λ row. decoded (text_at row 3)) (one.trees 0) (other.trees 0) _ _ (λ row there pass. same.parts.there row there) (λ row there pass. same.parts.here row there)
      (λ a b h k at also.
      let p = and_parts (is_called leaves leaf (text_at a 1)) (is_int key (int_at a 2)) at in
      let q = and_parts (is_called leaves leaf (text_at b 1)) (is_int key (int_at b 2)) also in
      part_once other sound tables a b h k (called_text leaves leaf (text_at a 1) p.0 ∙ sym (called_text leaves leaf (text_at b 1) q.0)) (sym (int_same key (int_at a 2) p.1) ∙ int_same key (int_at b 2) q.1))
      (look_content leaves leaf key (one.trees 0)) (look_content leaves leaf key (other.trees 0)))

  changes_same : (ticket : Ticket) → changes_in leaves (one.trees 4) ticket ≡ changes_in leaves (other.trees 4) ticket
  changes_same ticket = map.same_map slot_cmp_total slot_cmp-IsAntisymmetric _ _ (λ slot.
      looks_same (is_intent_at leaves ticket slot) (λ row. put_of (text_at row 5)) (one.trees 4) (other.trees 4) _ _ (λ row there pass. same.intents.there row there) (λ row there pass. same.intents.here row there)
      (λ a b h k at also.
      let p = and_parts (is_of ticket a) _ at in
      let q = and_parts (is_of ticket b) _ also in
      let v = of_parts ticket a p.0 in
      let w = of_parts ticket b q.0 in
      let r = and_parts (is_called leaves slot.leaf (text_at a 3)) (is_int slot.key (int_at a 4)) p.1 in
      let s = and_parts (is_called leaves slot.leaf (text_at b 3)) (is_int slot.key (int_at b 4)) q.1 in
      intent_once other sound tables a b h k (v.0 ∙ sym w.0) (v.1 ∙ sym w.1) (called_text leaves slot.leaf (text_at a 3) r.0 ∙ sym (called_text leaves slot.leaf (text_at b 3) s.0)) (sym (int_same slot.key (int_at a 4) r.1) ∙ int_same slot.key (int_at b 4) s.1))
      (look_changes leaves ticket slot (one.trees 4)) (look_changes leaves ticket slot (other.trees 4)))

  prepared_same : (ticket : Ticket) → (kept_of leaves one).prepared ticket ≡ (kept_of leaves other).prepared ticket
  prepared_same ticket =
      ap (λ changes. prepared_in (one.trees 2) changes ticket) (changes_same ticket)
      ∙ looks_same (is_of ticket) (λ row. row_as row (changes_in leaves (other.trees 4) ticket)) (one.trees 2) (other.trees 2) _ _ (λ row there pass. same.prepared.there row there) (λ row there pass. same.prepared.here row there)
      (λ a b h k mine also.
      let v = of_parts ticket a mine in
      let w = of_parts ticket b also in
      prepared_once other sound tables a b h k (v.0 ∙ sym w.0) (v.1 ∙ sym w.1))
      (look_prepared (changes_in leaves (other.trees 4) ticket) ticket (one.trees 2)) (look_prepared (changes_in leaves (other.trees 4) ticket) ticket (other.trees 2))

  pub kept_same : IsUnchanged (kept_of leaves other) (kept_of leaves one)
  kept_same = record { has = λ leaf. refl; content = contents_same; prepared = prepared_same; life = life_same (one.trees 6) (other.trees 6) same.state (state_once other sound tables) }

  pub lists_same : (rows : SiteRows) → ListsRows (kept_of leaves one) rows → ListsRows (kept_of leaves other) rows
  lists_same rows lists = record { rows = λ ticket. lists.rows ticket ∙ prepared_same ticket; ascend = lists.ascend; incarnation = lists.incarnation ∙ kept_same.life }
