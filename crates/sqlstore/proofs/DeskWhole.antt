-- Rows of the coordinator's tables are whole: they have each of their table's columns, and no more.
use Rattle.std.proofs.Common.{◌≡◌, true, [], ◌∷◌, drop, None, Some, refl, sym, ap, ◌∙◌, subst, inl, inr}
use Rattle.std.proofs.lemmas.Bool.{and_parts}
use Rattle.sqlite.specs.Effect.{Database, IsDatabase}
use Rattle.sqlite.specs.Order.{Row, column}
use Rattle.sqlite.specs.Ops.{is_null}
use Rattle.sqlite.specs.Tree.{rowid}
use Rattle.sqlite.specs.View.{is_int}
use Rattle.sqlite.specs.declared.types.Value.TheVariants.{Null}
use Rattle.sqlite_rules.specs.Lists.{Has}
use Rattle.sqlite_schema.specs.declared.schema.Constraint.TheVariants.{Datatype}
use Rattle.sqlite_schema.specs.Rules.{are_typed}
use Rattle.sqlstore.specs.DeskRows.{vote_terms, state_terms}
use Rattle.sqlstore.specs.DeskTables.{desk_schema, decided_table, epoch_table}
use Rattle.sqlstore.specs.Numbered.{is_real, IsPlainRow}
use Rattle.sqlstore.specs.Tests.{shown}
use Rattle.sqlstore.proofs.DeskTyped.{typed_vote, typed_epoch}
use Rattle.sqlstore.proofs.Typed.{rule_kept}
use Rattle.sqlstore.proofs.Whole.{no_longer, with_number, four, six, null_is, number_plain}

-- the column that the number stands for
key_null : (row : Row) → are_typed (Some 0) 0 epoch_table.columns (drop 1 row) ≡ true → column row 1 ≡ Null
key_null [] typed = refl
key_null (n ∷ []) typed = refl
key_null (n ∷ v ∷ row) typed = null_is v (and_parts (is_null v) _ typed).0

module _ (db : Database) (sound : IsDatabase db) (schema : db.schema ≡ desk_schema) where
  pub vote_whole : (row : Row) → Has (db.trees 0) row → shown vote_terms [] row ≡ row
  vote_whole row has =
      let typed = and_parts (are_typed None 0 decided_table.columns (drop 1 row)) true (rule_kept desk_schema db sound schema Datatype _ (inl refl) row has) in
      sym (six row (with_number row 5 (no_longer None decided_table.columns 0 (drop 1 row) typed.0)) (ap is_null (typed_vote db sound schema row has).visit))

  pub epoch_whole : (row : Row) → Has (db.trees 2) row → shown state_terms [] row ≡ row
  epoch_whole row has =
      let typed = and_parts (are_typed (Some 0) 0 epoch_table.columns (drop 1 row)) true (rule_kept desk_schema db sound schema Datatype _ (inr (inl refl)) row has) in
      let one : column row 1 ≡ Null = key_null row typed.0 in
      ap (λ v. column row 0 ∷ v ∷ column row 2 ∷ column row 3 ∷ []) (sym one) ∙ sym (four row (with_number row 3 (no_longer (Some 0) epoch_table.columns 0 (drop 1 row) typed.0)) (ap is_null (typed_epoch db sound schema row has).version))

  -- no cell is a real number
  pub vote_plain : (row : Row) → Has (db.trees 0) row → is_int (rowid row) ≡ true → IsPlainRow row
  vote_plain row has int =
      let typed = typed_vote db sound schema row has in
      subst IsPlainRow (vote_whole row has) (number_plain (column row 0) int, (ap is_real typed.txn_life, (ap is_real typed.txn_number, (ap is_real typed.site, (ap is_real typed.life, (ap is_real typed.visit, tt))))))

  pub epoch_plain : (row : Row) → Has (db.trees 2) row → is_int (rowid row) ≡ true → IsPlainRow row
  epoch_plain row has int =
      let typed = typed_epoch db sound schema row has in
      subst IsPlainRow (epoch_whole row has) (number_plain (column row 0) int, (refl, (ap is_real typed.life, (ap is_real typed.version, tt))))
