-- Rows of a site's tables are whole: they have each of their table's columns, and no more.
use Rattle.std.proofs.Common.{◌≡◌, ◌≤◌, ◌+◌, ℕ, suc, true, false, List, [], ◌∷◌, drop, length, Option, Some, None, refl, sym, ap, ◌∙◌, subst, inl, inr, arith}
use Rattle.std.proofs.lemmas.Bool.{and_parts}
use Rattle.sqlite.specs.Effect.{Database, IsDatabase}
use Rattle.sqlite.specs.Order.{Row, column}
use Rattle.sqlite.specs.Ops.{is_null}
use Rattle.sqlite.specs.Tree.{rowid}
use Rattle.sqlite.specs.View.{is_int}
use Rattle.sqlite.specs.declared.types.Value.{Value}
use Rattle.sqlite.specs.declared.types.Value.TheVariants.{Null, Int, Real, Text, Blob}
use Rattle.sqlite_rules.specs.Lists.{Has}
use Rattle.sqlite_schema.specs.declared.schema.Column.{Column}
use Rattle.sqlite_schema.specs.declared.schema.Constraint.TheVariants.{Datatype}
use Rattle.sqlite_schema.specs.Rules.{are_typed}
use Rattle.sqlstore.specs.Gathered.{prepared_terms, intent_terms, state_terms}
use Rattle.sqlstore.specs.Listed.{part_terms}
use Rattle.sqlstore.specs.Numbered.{is_real, IsPlainRow}
use Rattle.sqlstore.specs.Tables.{site_schema, part_table, prepared_table, intent_table, state_table}
use Rattle.sqlstore.specs.Tests.{shown}
use Rattle.sqlstore.proofs.Typed.{rule_at, typed_part, typed_prepared, typed_intent, typed_state}

pub no_longer : (key : Option ℕ) (columns : List Column) (at : ℕ) (values : Row) → are_typed key at columns values ≡ true → length values ≤ length columns
no_longer key [] at [] typed = omega arith
no_longer key [] at (v ∷ values) typed = absurd cc
no_longer key (c ∷ columns) at [] typed = omega arith
no_longer key (c ∷ columns) at (v ∷ values) typed = let rest = no_longer key columns (at + 1) values (and_parts _ (are_typed key (at + 1) columns values) typed).1 in omega (arith, rest)

pub with_number : (row : Row) (most : ℕ) → length (drop 1 row) ≤ most → length row ≤ suc most
with_number [] most within = omega arith
with_number (v ∷ row) most within = omega (arith, within)

-- a row whose last cell isn't NULL has all of them
there : (v : Value) → is_null v ≡ false → v ≡ Null → ⊥
there v full none = let is : is_null Null ≡ false = subst (λ w. is_null w ≡ false) none full in cc

three : (row : Row) → length row ≤ 3 → is_null (column row 2) ≡ false → row ≡ column row 0 ∷ column row 1 ∷ column row 2 ∷ []
three [] within full = absurd (there _ full refl)
three (a ∷ []) within full = absurd (there _ full refl)
three (a ∷ b ∷ []) within full = absurd (there _ full refl)
three (a ∷ b ∷ c ∷ []) within full = refl
three (a ∷ b ∷ c ∷ d ∷ more) within full = absurd (omega (arith, within))

pub four : (row : Row) → length row ≤ 4 → is_null (column row 3) ≡ false → row ≡ column row 0 ∷ column row 1 ∷ column row 2 ∷ column row 3 ∷ []
four [] within full = absurd (there _ full refl)
four (a ∷ row) within full = ap (λ r. a ∷ r) (three row (omega (arith, within)) full)

five : (row : Row) → length row ≤ 5 → is_null (column row 4) ≡ false → row ≡ column row 0 ∷ column row 1 ∷ column row 2 ∷ column row 3 ∷ column row 4 ∷ []
five [] within full = absurd (there _ full refl)
five (a ∷ row) within full = ap (λ r. a ∷ r) (four row (omega (arith, within)) full)

pub six : (row : Row) → length row ≤ 6 → is_null (column row 5) ≡ false → row ≡ column row 0 ∷ column row 1 ∷ column row 2 ∷ column row 3 ∷ column row 4 ∷ column row 5 ∷ []
six [] within full = absurd (there _ full refl)
six (a ∷ row) within full = ap (λ r. a ∷ r) (five row (omega (arith, within)) full)

pub null_is : (v : Value) → is_null v ≡ true → v ≡ Null
null_is Null is = refl
null_is (Int n) is = absurd cc
null_is (Real x) is = absurd cc
null_is (Text t) is = absurd cc
null_is (Blob b) is = absurd cc

-- the column that the number stands for
key_null : (row : Row) → are_typed (Some 0) 0 state_table.columns (drop 1 row) ≡ true → column row 1 ≡ Null
key_null [] typed = refl
key_null (n ∷ []) typed = refl
key_null (n ∷ v ∷ row) typed = null_is v (and_parts (is_null v) _ typed).0

pub number_plain : (v : Value) → is_int v ≡ true → is_real v ≡ false
number_plain Null is = absurd cc
number_plain (Int n) is = refl
number_plain (Real x) is = absurd cc
number_plain (Text t) is = absurd cc
number_plain (Blob b) is = absurd cc

module _ (db : Database) (sound : IsDatabase db) (schema : db.schema ≡ site_schema) where
  pub part_whole : (row : Row) → Has (db.trees 0) row → shown part_terms [] row ≡ row
  part_whole row has =
      let typed = and_parts (are_typed None 0 part_table.columns (drop 1 row)) true (rule_at db sound schema Datatype _ (inl refl) row has) in
      sym (four row (with_number row 3 (no_longer None part_table.columns 0 (drop 1 row) typed.0)) (ap is_null (typed_part db sound schema row has).body))

  pub prepared_whole : (row : Row) → Has (db.trees 2) row → shown prepared_terms [] row ≡ row
  prepared_whole row has =
      let typed = and_parts (are_typed None 0 prepared_table.columns (drop 1 row)) true (rule_at db sound schema Datatype _ (inr (inl refl)) row has) in
      sym (five row (with_number row 4 (no_longer None prepared_table.columns 0 (drop 1 row) typed.0)) (ap is_null (typed_prepared db sound schema row has).txn_number))

  pub intent_whole : (row : Row) → Has (db.trees 4) row → shown intent_terms [] row ≡ row
  intent_whole row has =
      let typed = and_parts (are_typed None 0 intent_table.columns (drop 1 row)) true (rule_at db sound schema Datatype _ (inr (inr (inl refl))) row has) in
      sym (six row (with_number row 5 (no_longer None intent_table.columns 0 (drop 1 row) typed.0)) (ap is_null (typed_intent db sound schema row has).body))

  pub state_whole : (row : Row) → Has (db.trees 6) row → shown state_terms [] row ≡ row
  state_whole row has =
      let typed = and_parts (are_typed (Some 0) 0 state_table.columns (drop 1 row)) true (rule_at db sound schema Datatype _ (inr (inr (inr (inl refl)))) row has) in
      let one : column row 1 ≡ Null = key_null row typed.0 in
      ap (λ v. column row 0 ∷ v ∷ column row 2 ∷ []) (sym one) ∙ sym (three row (with_number row 2 (no_longer (Some 0) state_table.columns 0 (drop 1 row) typed.0)) (ap is_null (typed_state db sound schema row has)))

  -- no cell is a real number
  pub part_plain : (row : Row) → Has (db.trees 0) row → is_int (rowid row) ≡ true → IsPlainRow row
  part_plain row has int =
      let typed = typed_part db sound schema row has in
      subst IsPlainRow (part_whole row has) (number_plain (column row 0) int, (ap is_real typed.leaf, (ap is_real typed.key, (ap is_real typed.body, tt))))

  pub prepared_plain : (row : Row) → Has (db.trees 2) row → is_int (rowid row) ≡ true → IsPlainRow row
  prepared_plain row has int =
      let typed = typed_prepared db sound schema row has in
      subst IsPlainRow (prepared_whole row has) (number_plain (column row 0) int, (ap is_real typed.life, (ap is_real typed.visit, (ap is_real typed.txn_life, (ap is_real typed.txn_number, tt)))))

  pub intent_plain : (row : Row) → Has (db.trees 4) row → is_int (rowid row) ≡ true → IsPlainRow row
  intent_plain row has int =
      let typed = typed_intent db sound schema row has in
      subst IsPlainRow (intent_whole row has) (number_plain (column row 0) int, (ap is_real typed.life, (ap is_real typed.visit, (ap is_real typed.leaf, (ap is_real typed.key, (ap is_real typed.body, tt))))))

  pub state_plain : (row : Row) → Has (db.trees 6) row → is_int (rowid row) ≡ true → IsPlainRow row
  state_plain row has int = subst IsPlainRow (state_whole row has) (number_plain (column row 0) int, (refl, (ap is_real (typed_state db sound schema row has), tt)))
