-- What the coordinator's schema says of the cells of rows: their types, and which rows differ.
use Rattle.std.proofs.Common.{◌≡◌, pos, true, not, ◌&&◌, [], ◌∷◌, drop, Some, refl, sym, ap, ◌∙◌, subst, inl, inr}
use Rattle.std.proofs.lemmas.Bool.{and_parts, and_from, not-true}
use Rattle.sqlite.specs.Collation.TheVariants.{Binary}
use Rattle.sqlite.specs.Effect.{Database, IsDatabase}
use Rattle.sqlite.specs.Edit.{id_in}
use Rattle.sqlite.specs.Kind.TheVariants as kinds
use Rattle.sqlite.specs.Ops.{is_null, binary, is_false}
use Rattle.sqlite.specs.Order.{Row, column}
use Rattle.sqlite.specs.Tree.{rowid}
use Rattle.sqlite.specs.declared.types.Value.TheVariants.{Int, Text}
use Rattle.sqlite_rules.specs.Lists.{Has}
use Rattle.sqlite_rules.proofs.ListLemmas.{test_has}
use Rattle.sqlite_rules.proofs.TableLemmas.{int_is as number_is}
use Rattle.sqlite_schema.specs.declared.schema.Constraint.TheVariants.{Datatype, NotNull, Check, Unique}
use Rattle.sqlite_schema.specs.Rules.{are_typed, is_of, clashes, guards}
use Rattle.sqlite_sql.specs.declared.ops.BinaryOp.TheVariants.{Compare}
use Rattle.sqlite_sql.specs.declared.ops.CompareOp.TheVariants.{Eq}
use Rattle.sqlite_value.specs.Keys.{first_key, plain}
use Rattle.sqlstore.specs.Cells.{text_at, int_at}
use Rattle.sqlstore.specs.DeskTables.{desk_schema, decided_table, epoch_table}
use Rattle.sqlstore.specs.Rows.{AreTablesOf}
use Rattle.sqlstore.proofs.Typed.{text_is, int_is, cell_kind, equal_same, null_not, equal_checked, apart_or_one, rule_kept}

pub record TypedVote (row : Row) : Type 0 where
  pub txn_life : column row 1 ≡ Int (int_at row 1)
  pub txn_number : column row 2 ≡ Int (int_at row 2)
  pub site : column row 3 ≡ Text (text_at row 3)
  pub life : column row 4 ≡ Int (int_at row 4)
  pub visit : column row 5 ≡ Int (int_at row 5)

pub record TypedEpoch (row : Row) : Type 0 where
  pub life : column row 2 ≡ Int (int_at row 2)
  pub version : column row 3 ≡ Int (int_at row 3)

-- the columns behind the one that the number stands for
epoch_kinds : (row : Row) → (are_typed epoch_table.key 0 epoch_table.columns (drop 1 row) && true) ≡ true → (is_of kinds.Integer (column row 2) ≡ true) × (is_of kinds.Integer (column row 3) ≡ true)
epoch_kinds [] typed = (refl, refl)
epoch_kinds (n ∷ []) typed = (refl, refl)
epoch_kinds (n ∷ one ∷ []) typed = (refl, refl)
epoch_kinds (n ∷ one ∷ life ∷ []) typed =
    let cells = and_parts (is_null one) _ (and_parts _ true typed).0 in
    ((and_parts (is_of kinds.Integer life) _ cells.1).0, refl)
epoch_kinds (n ∷ one ∷ life ∷ version ∷ more) typed =
    let cells = and_parts (is_null one) _ (and_parts _ true typed).0 in
    let rest = and_parts (is_of kinds.Integer life) _ cells.1 in
    (rest.0, (and_parts (is_of kinds.Integer version) (are_typed (Some 0) 3 [] more) rest.1).0)

module _ (db : Database) (sound : IsDatabase db) (schema : db.schema ≡ desk_schema) where
  pub typed_vote : (row : Row) → Has (db.trees 0) row → TypedVote row
  typed_vote row there =
      let typed = rule_kept desk_schema db sound schema Datatype _ (inl refl) row there in
      let present = rule_kept desk_schema db sound schema NotNull _ (inl refl) row there in
      let one = and_parts (not (is_null (column row 1))) _ present in
      let two = and_parts (not (is_null (column row 2))) _ one.1 in
      let three = and_parts (not (is_null (column row 3))) _ two.1 in
      let four = and_parts (not (is_null (column row 4))) _ three.1 in
      let five = and_parts (not (is_null (column row 5))) _ four.1 in
      record {
        txn_life = int_is (column row 1) (cell_kind decided_table.columns row 0 _ _ typed refl refl) (not-true _ one.0);
        txn_number = int_is (column row 2) (cell_kind decided_table.columns row 1 _ _ typed refl refl) (not-true _ two.0);
        site = text_is (column row 3) (cell_kind decided_table.columns row 2 _ _ typed refl refl) (not-true _ three.0);
        life = int_is (column row 4) (cell_kind decided_table.columns row 3 _ _ typed refl refl) (not-true _ four.0);
        visit = int_is (column row 5) (cell_kind decided_table.columns row 4 _ _ typed refl refl) (not-true _ five.0);
      }

  pub typed_epoch : (row : Row) → Has (db.trees 2) row → TypedEpoch row
  typed_epoch row there =
      let typed = rule_kept desk_schema db sound schema Datatype _ (inr (inl refl)) row there in
      let present = rule_kept desk_schema db sound schema NotNull _ (inr (inl refl)) row there in
      let one = and_parts (not (is_null (column row 2))) _ present in
      let two = and_parts (not (is_null (column row 3))) true one.1 in
      let kinds = epoch_kinds row typed in
      record { life = int_is (column row 2) kinds.0 (not-true _ one.0); version = int_is (column row 3) kinds.1 (not-true _ two.0) }

module _ (db : Database) (sound : IsDatabase db) (tables : AreTablesOf desk_schema db) where
  pub vote_typed : (row : Row) → Has (db.trees 0) row → TypedVote row
  vote_typed = typed_vote db sound tables.schema

  -- a site votes once for a transaction
  pub vote_once : (one other : Row) → Has (db.trees 0) one → Has (db.trees 0) other → int_at one 1 ≡ int_at other 1 → int_at one 2 ≡ int_at other 2 → text_at one 3 ≡ text_at other 3 → one ≡ other
  unfolding first_key
  vote_once one other h k life number site =
      let a = vote_typed one h in
      let b = vote_typed other k in
      let free = test_has (λ i. not (guards i decided_table && clashes i.order i.columns (db.trees 0) other)) desk_schema.indexes _ (rule_kept desk_schema db sound tables.schema Unique _ (inl refl) other k) (inl refl) in
      apart_or_one (db.trees 0) plain (1 ∷ 2 ∷ 3 ∷ []) one other (tables.keyed _ (inl refl)) h k (not-true _ free)
      (and_from _ _ (equal_same (column one 1) (column other 1) (a.txn_life ∙ ap Int life ∙ sym b.txn_life) (null_not (column other 1) _ b.txn_life refl))
      (and_from _ _ (equal_same (column one 2) (column other 2) (a.txn_number ∙ ap Int number ∙ sym b.txn_number) (null_not (column other 2) _ b.txn_number refl))
      (and_from _ _ (equal_same (column one 3) (column other 3) (a.site ∙ ap Text site ∙ sym b.site) (null_not (column other 3) _ b.site refl)) refl)))

  -- one row at most says the incarnation and the version, since its number is 1
  pub epoch_once : (one other : Row) → Has (db.trees 2) one → Has (db.trees 2) other → one ≡ other
  epoch_once one other h k =
      let keyed = tables.keyed _ (inr (inl refl)) in
      let number = λ (row : Row) (there : Has (db.trees 2) row).
      let int = number_is (rowid row) (keyed.ints row there) in
      let checks = and_parts _ true (rule_kept desk_schema db sound tables.schema Check _ (inr (inl refl)) row there) in
      int ∙ ap Int (equal_checked (id_in (rowid row)) (pos 1) (subst (λ v. not (is_false (binary (Compare Eq Binary) v (Int (pos 1)))) ≡ true) int checks.0)) in
      keyed.apart one other h k (number one h ∙ sym (number other k))
