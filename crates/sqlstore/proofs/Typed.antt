-- What the schema says of the cells of rows: their types, and which rows differ.
use Rattle.std.proofs.Common.{◌≡◌, ℕ, ℤ, pos, zero, suc, ◌+◌, Ordering, Less, Equal, Greater, Bool, true, false, not, ◌&&◌, cond, List, [], ◌∷◌, drop, slice_get, Some, None, refl, sym, ap, ◌∙◌, subst, inl, inr}
use Rattle.std.specs.Ordering.{is_eq, is_ne}
use Rattle.std.proofs.lemmas.Cmp.{tied_itself}
use Rattle.std.specs.List.{AllByRecursion}
use Rattle.std.proofs.lemmas.Bool.{and_parts, and_from, both_ways, not-true, false_from_ne_true}
use Rattle.sqlite.specs.Effect.{Database, IsDatabase}
use Rattle.sqlite.specs.Edit.{id_in}
use Rattle.sqlite.specs.Kind.{Kind}
use Rattle.sqlite.specs.Kind.TheVariants as kinds
use Rattle.sqlite.specs.Order.{Row, column, bytes, value_cmp}
use Rattle.sqlite.specs.Ops.{is_null, binary, is_true, is_false, from_truth}
use Rattle.sqlite_sql.specs.declared.ops.BinaryOp.TheVariants.{Compare}
use Rattle.sqlite_sql.specs.declared.ops.CompareOp.TheVariants.{Eq}
use Rattle.sqlite.specs.Schema.{Schema}
use Rattle.sqlite.specs.Table.{Table}
use Rattle.sqlite.specs.Tree.{rowid}
use Rattle.sqlite.specs.declared.types.Value.{Value}
use Rattle.sqlite.specs.declared.types.Value.TheVariants.{Null, Int, Real, Text, Blob}
use Rattle.sqlite_rules.specs.Lists.{Has}
use Rattle.sqlite_rules.proofs.ListLemmas.{all_has, test_has, some_from}
use Rattle.sqlite_schema.specs.declared.schema.Column.{Column}
use Rattle.sqlite_schema.specs.declared.schema.Constraint.{Constraint}
use Rattle.sqlite_schema.specs.declared.schema.Constraint.TheVariants.{Datatype, NotNull, Check, Unique}
use Rattle.sqlite_schema.specs.Rules.{Keeps, passes, is_of, are_typed, suits, has_affinity, equal, differ, agree, clashes, guards}
use Rattle.sqlite_value.specs.declared.keys.Order.{Order}
use Rattle.sqlite_value.specs.Keys.{first_key, plain}
use Rattle.sqlite_value.proofs.OrderLemmas.{value_cmp_total}
use Rattle.sqlite_rules.proofs.TableLemmas.{int_is as number_is}
use Rattle.sqlite.specs.Collation.TheVariants.{Binary}
use Rattle.sqlstore.specs.Rows.{AreTables, AreKeyed}
use Rattle.sqlstore.proofs.Deleting.{same_int}
use Rattle.sqlstore.specs.Cells.{text_at, int_at}
use Rattle.sqlstore.specs.Tables.{site_schema, part_table, prepared_table, intent_table, state_table}

-- ---- types

pub text_is : (v : Value) → is_of kinds.Text v ≡ true → is_null v ≡ false → v ≡ Text (bytes v)
text_is Null typed there = absurd cc
text_is (Int n) typed there = absurd cc
text_is (Real x) typed there = absurd cc
text_is (Text t) typed there = refl
text_is (Blob b) typed there = absurd cc

pub int_is : (v : Value) → is_of kinds.Integer v ≡ true → is_null v ≡ false → v ≡ Int (id_in v)
int_is Null typed there = absurd cc
int_is (Int n) typed there = refl
int_is (Real x) typed there = absurd cc
int_is (Text t) typed there = absurd cc
int_is (Blob b) typed there = absurd cc

blob_is : (v : Value) → is_of kinds.Blob v ≡ true → is_null v ≡ false → v ≡ Blob (bytes v)
blob_is Null typed there = absurd cc
blob_is (Int n) typed there = absurd cc
blob_is (Real x) typed there = absurd cc
blob_is (Text t) typed there = absurd cc
blob_is (Blob b) typed there = refl

pub column_drop : (row : Row) (at : ℕ) → column (drop 1 row) at ≡ column row (suc at)
column_drop [] zero = refl
column_drop [] (suc at) = refl
column_drop (v ∷ row) at = refl

-- each column has its type, where none stands for the number
kind_at : (columns : List Column) (at : ℕ) (values : Row) (k : ℕ) (c : Column) → are_typed None at columns values ≡ true → slice_get columns k ≡ Some c → c.is_strict ≡ true → is_of c.kind (column values k) ≡ true
kind_at [] at values k c typed there strict = absurd cc
kind_at (d ∷ columns) at [] k c typed there strict = null_fits k c.kind
  where
    null_fits : (k : ℕ) (kind : Kind) → is_of kind (column [] k) ≡ true
    null_fits zero kind = refl
    null_fits (suc k) kind = refl
kind_at (d ∷ columns) at (v ∷ values) zero c typed there strict =
    let same : d ≡ c = cc in
    let parts = and_parts (suits d v) (are_typed None (at + 1) columns values) typed in
    let is_strict : d.is_strict ≡ true = ap (λ (e : Column). e.is_strict) same ∙ strict in
    subst (λ (e : Column). is_of e.kind v ≡ true) same (subst (λ b. cond b (is_of d.kind v) (has_affinity d.kind v) ≡ true) is_strict parts.0)
kind_at (d ∷ columns) at (v ∷ values) (suc k) c typed there strict = kind_at columns (at + 1) values k c (and_parts (suits d v) (are_typed None (at + 1) columns values) typed).1 there strict

-- so has each column of a row that has a number
pub cell_kind : (columns : List Column) (row : Row) (k : ℕ) (c : Column) (computed : Bool) → (are_typed None 0 columns (drop 1 row) && computed) ≡ true → slice_get columns k ≡ Some c → c.is_strict ≡ true → is_of c.kind (column row (suc k)) ≡ true
cell_kind columns row k c computed typed there strict =
    subst (λ v. is_of c.kind v ≡ true) (column_drop row k) (kind_at columns 0 (drop 1 row) k c (and_parts (are_typed None 0 columns (drop 1 row)) computed typed).0 there strict)

pub record TypedPart (row : Row) : Type 0 where
  pub leaf : column row 1 ≡ Text (text_at row 1)
  pub key : column row 2 ≡ Int (int_at row 2)
  pub body : column row 3 ≡ Blob (text_at row 3)

pub record TypedPrepared (row : Row) : Type 0 where
  pub life : column row 1 ≡ Int (int_at row 1)
  pub visit : column row 2 ≡ Int (int_at row 2)
  pub txn_life : column row 3 ≡ Int (int_at row 3)
  pub txn_number : column row 4 ≡ Int (int_at row 4)

pub record TypedIntent (row : Row) : Type 0 where
  pub life : column row 1 ≡ Int (int_at row 1)
  pub visit : column row 2 ≡ Int (int_at row 2)
  pub leaf : column row 3 ≡ Text (text_at row 3)
  pub key : column row 4 ≡ Int (int_at row 4)
  pub body : column row 5 ≡ Blob (text_at row 5)

-- equal cells that are no NULL are equal to SQL
pub equal_same : (a b : Value) → a ≡ b → is_null b ≡ false → equal Binary a b ≡ true
unfolding binary
equal_same a b same there = rw (same, there, tied_itself value_cmp_total b) refl

-- numbers that SQL doesn't tell apart are the same
differ_same : (m n : ℤ) → differ (Int m) (Int n) ≡ false → m ≡ n
unfolding binary
differ_same m n alike = same_int m n (go (value_cmp (Int m) (Int n)) alike)
  where
    go : (order : Ordering) → is_true (from_truth (Some (is_ne order))) ≡ false → is_eq order ≡ true
    go Less h = absurd cc
    go Equal h = refl
    go Greater h = absurd cc

pub null_not : (v w : Value) → v ≡ w → is_null w ≡ false → is_null v ≡ false
null_not v w same there = ap is_null same ∙ there

-- a number that a CHECK finds equal is that number
pub equal_checked : (m n : ℤ) → not (is_false (binary (Compare Eq Binary) (Int m) (Int n))) ≡ true → m ≡ n
unfolding binary
equal_checked m n passed = same_int m n (go (value_cmp (Int m) (Int n)) passed)
  where
    go : (order : Ordering) → not (is_false (from_truth (Some (is_eq order)))) ≡ true → is_eq order ≡ true
    go Less h = absurd cc
    go Equal h = refl
    go Greater h = absurd cc

-- rows that don't clash and agree are one
pub apart_or_one : (rows : List Row) (order : Order) (places : List ℕ) (one other : Row) → AreKeyed rows → Has rows one → Has rows other → clashes order places rows other ≡ false → agree order places one places other ≡ true → one ≡ other
apart_or_one rows order places one other keyed h k free agrees =
    let m = keyed.ints one h in
    let n = keyed.ints other k in
    let alike : differ (rowid one) (rowid other) ≡ false = false_from_ne_true (differ (rowid one) (rowid other)) (λ far.
    both_ways (clashes order places rows other) free (some_from (λ it. agree order places it places other && differ (rowid it) (rowid other)) rows one h (and_from (agree order places one places other) (differ (rowid one) (rowid other)) agrees far))) in
    let same : id_in (rowid one) ≡ id_in (rowid other) = differ_same (id_in (rowid one)) (id_in (rowid other)) (subst (λ v. differ v (Int (id_in (rowid other))) ≡ false) (number_is (rowid one) m) (subst (λ v. differ (rowid one) v ≡ false) (number_is (rowid other) n) alike)) in
    keyed.apart one other h k (number_is (rowid one) m ∙ ap Int same ∙ sym (number_is (rowid other) n))

module _ (own : Schema) (db : Database) (sound : IsDatabase db) (schema : db.schema ≡ own) where
  -- a rule of the schema holds of each row
  pub rule_kept : (rule : Constraint) (table : Table) → Has own.tables table → (row : Row) → Has (db.trees table.tree) row → passes rule own db.trees table row ≡ true
  rule_kept rule table listed row there =
      all_has (λ r. passes rule own db.trees table r ≡ true) (db.trees table.tree) row
      (all_has (λ t. AllByRecursion (λ r. passes rule own db.trees t r ≡ true) (db.trees t.tree)) own.tables table (subst (λ s. Keeps rule s db.trees) schema (sound.obeys.rules rule)) listed) there

-- the incarnation's column, behind the one that the number stands for
state_kind : (row : Row) → (are_typed state_table.key 0 state_table.columns (drop 1 row) && true) ≡ true → is_of kinds.Integer (column row 2) ≡ true
state_kind [] typed = refl
state_kind (n ∷ []) typed = refl
state_kind (n ∷ one ∷ []) typed = refl
state_kind (n ∷ one ∷ life ∷ more) typed = (and_parts (is_of kinds.Integer life) (are_typed (Some 0) 2 [] more) (and_parts (is_null one) _ (and_parts _ true typed).0).1).0

module _ (db : Database) (sound : IsDatabase db) (schema : db.schema ≡ site_schema) where
  -- a rule of the schema holds of each row
  pub rule_at : (rule : Constraint) (table : Table) → Has site_schema.tables table → (row : Row) → Has (db.trees table.tree) row → passes rule site_schema db.trees table row ≡ true
  rule_at = rule_kept site_schema db sound schema

  pub typed_part : (row : Row) → Has (db.trees 0) row → TypedPart row
  typed_part row there =
      let typed = rule_at Datatype _ (inl refl) row there in
      let present = rule_at NotNull _ (inl refl) row there in
      let one = and_parts (not (is_null (column row 1))) _ present in
      let two = and_parts (not (is_null (column row 2))) _ one.1 in
      let three = and_parts (not (is_null (column row 3))) _ two.1 in
      record {
        leaf = text_is (column row 1) (cell_kind part_table.columns row 0 _ _ typed refl refl) (not-true _ one.0);
        key = int_is (column row 2) (cell_kind part_table.columns row 1 _ _ typed refl refl) (not-true _ two.0);
        body = blob_is (column row 3) (cell_kind part_table.columns row 2 _ _ typed refl refl) (not-true _ three.0);
      }

  pub typed_prepared : (row : Row) → Has (db.trees 2) row → TypedPrepared row
  typed_prepared row there =
      let typed = rule_at Datatype _ (inr (inl refl)) row there in
      let present = rule_at NotNull _ (inr (inl refl)) row there in
      let one = and_parts (not (is_null (column row 1))) _ present in
      let two = and_parts (not (is_null (column row 2))) _ one.1 in
      let three = and_parts (not (is_null (column row 3))) _ two.1 in
      let four = and_parts (not (is_null (column row 4))) _ three.1 in
      record {
        life = int_is (column row 1) (cell_kind prepared_table.columns row 0 _ _ typed refl refl) (not-true _ one.0);
        visit = int_is (column row 2) (cell_kind prepared_table.columns row 1 _ _ typed refl refl) (not-true _ two.0);
        txn_life = int_is (column row 3) (cell_kind prepared_table.columns row 2 _ _ typed refl refl) (not-true _ three.0);
        txn_number = int_is (column row 4) (cell_kind prepared_table.columns row 3 _ _ typed refl refl) (not-true _ four.0);
      }

  pub typed_intent : (row : Row) → Has (db.trees 4) row → TypedIntent row
  typed_intent row there =
      let typed = rule_at Datatype _ (inr (inr (inl refl))) row there in
      let present = rule_at NotNull _ (inr (inr (inl refl))) row there in
      let one = and_parts (not (is_null (column row 1))) _ present in
      let two = and_parts (not (is_null (column row 2))) _ one.1 in
      let three = and_parts (not (is_null (column row 3))) _ two.1 in
      let four = and_parts (not (is_null (column row 4))) _ three.1 in
      let five = and_parts (not (is_null (column row 5))) _ four.1 in
      record {
        life = int_is (column row 1) (cell_kind intent_table.columns row 0 _ _ typed refl refl) (not-true _ one.0);
        visit = int_is (column row 2) (cell_kind intent_table.columns row 1 _ _ typed refl refl) (not-true _ two.0);
        leaf = text_is (column row 3) (cell_kind intent_table.columns row 2 _ _ typed refl refl) (not-true _ three.0);
        key = int_is (column row 4) (cell_kind intent_table.columns row 3 _ _ typed refl refl) (not-true _ four.0);
        body = blob_is (column row 5) (cell_kind intent_table.columns row 4 _ _ typed refl refl) (not-true _ five.0);
      }

  pub typed_state : (row : Row) → Has (db.trees 6) row → column row 2 ≡ Int (int_at row 2)
  typed_state row there =
      let typed = rule_at Datatype _ (inr (inr (inr (inl refl)))) row there in
      let present = rule_at NotNull _ (inr (inr (inr (inl refl)))) row there in
      let one = and_parts (not (is_null (column row 2))) true present in
      int_is (column row 2) (state_kind row typed) (not-true _ one.0)

module _ (db : Database) (sound : IsDatabase db) (tables : AreTables db) where
  rule_holds : (rule : Constraint) (table : Table) → Has site_schema.tables table → (row : Row) → Has (db.trees table.tree) row → passes rule site_schema db.trees table row ≡ true
  rule_holds = rule_at db sound tables.schema

  pub part_typed : (row : Row) → Has (db.trees 0) row → TypedPart row
  part_typed = typed_part db sound tables.schema

  pub prepared_typed : (row : Row) → Has (db.trees 2) row → TypedPrepared row
  prepared_typed = typed_prepared db sound tables.schema

  pub intent_typed : (row : Row) → Has (db.trees 4) row → TypedIntent row
  intent_typed = typed_intent db sound tables.schema

  -- a leaf has one part at a key
  pub part_once : (one other : Row) → Has (db.trees 0) one → Has (db.trees 0) other → text_at one 1 ≡ text_at other 1 → int_at one 2 ≡ int_at other 2 → one ≡ other
  unfolding first_key
  part_once one other h k leaf key =
      let a = part_typed one h in
      let b = part_typed other k in
      let free = test_has (λ i. not (guards i part_table && clashes i.order i.columns (db.trees 0) other)) site_schema.indexes _ (rule_holds Unique _ (inl refl) other k) (inl refl) in
      apart_or_one (db.trees 0) plain (1 ∷ 2 ∷ []) one other (tables.keyed _ (inl refl)) h k (not-true _ free)
      (and_from _ _ (equal_same (column one 1) (column other 1) (a.leaf ∙ ap Text leaf ∙ sym b.leaf) (null_not (column other 1) _ b.leaf refl))
      (and_from _ _ (equal_same (column one 2) (column other 2) (a.key ∙ ap Int key ∙ sym b.key) (null_not (column other 2) _ b.key refl)) refl))

  -- a ticket has one prepared row
  pub prepared_once : (one other : Row) → Has (db.trees 2) one → Has (db.trees 2) other → int_at one 1 ≡ int_at other 1 → int_at one 2 ≡ int_at other 2 → one ≡ other
  unfolding first_key
  prepared_once one other h k life visit =
      let a = prepared_typed one h in
      let b = prepared_typed other k in
      let free = test_has (λ i. not (guards i (record prepared_table { tree = 2 }) && clashes i.order i.columns (db.trees 2) other)) site_schema.indexes _ (rule_holds Unique _ (inr (inl refl)) other k) (inr (inl refl)) in
      apart_or_one (db.trees 2) plain (1 ∷ 2 ∷ []) one other (tables.keyed _ (inr (inl refl))) h k (not-true _ free)
      (and_from _ _ (equal_same (column one 1) (column other 1) (a.life ∙ ap Int life ∙ sym b.life) (null_not (column other 1) _ b.life refl))
      (and_from _ _ (equal_same (column one 2) (column other 2) (a.visit ∙ ap Int visit ∙ sym b.visit) (null_not (column other 2) _ b.visit refl)) refl))

  -- a ticket has one intent at a leaf and a key
  pub intent_once : (one other : Row) → Has (db.trees 4) one → Has (db.trees 4) other → int_at one 1 ≡ int_at other 1 → int_at one 2 ≡ int_at other 2 → text_at one 3 ≡ text_at other 3 → int_at one 4 ≡ int_at other 4 → one ≡ other
  unfolding first_key
  intent_once one other h k life visit leaf key =
      let a = intent_typed one h in
      let b = intent_typed other k in
      let free = test_has (λ i. not (guards i (record intent_table { tree = 4 }) && clashes i.order i.columns (db.trees 4) other)) site_schema.indexes _ (rule_holds Unique _ (inr (inr (inl refl))) other k) (inr (inr (inl refl))) in
      apart_or_one (db.trees 4) plain (1 ∷ 2 ∷ 3 ∷ 4 ∷ []) one other (tables.keyed _ (inr (inr (inl refl)))) h k (not-true _ free)
      (and_from _ _ (equal_same (column one 1) (column other 1) (a.life ∙ ap Int life ∙ sym b.life) (null_not (column other 1) _ b.life refl))
      (and_from _ _ (equal_same (column one 2) (column other 2) (a.visit ∙ ap Int visit ∙ sym b.visit) (null_not (column other 2) _ b.visit refl))
      (and_from _ _ (equal_same (column one 3) (column other 3) (a.leaf ∙ ap Text leaf ∙ sym b.leaf) (null_not (column other 3) _ b.leaf refl))
      (and_from _ _ (equal_same (column one 4) (column other 4) (a.key ∙ ap Int key ∙ sym b.key) (null_not (column other 4) _ b.key refl)) refl))))

  -- one row at most says the incarnation, since its number is 1
  pub state_once : (one other : Row) → Has (db.trees 6) one → Has (db.trees 6) other → one ≡ other
  state_once one other h k =
      let keyed = tables.keyed _ (inr (inr (inr (inl refl)))) in
      let number = λ (row : Row) (there : Has (db.trees 6) row).
      let int = number_is (rowid row) (keyed.ints row there) in
      let checks = and_parts _ true (rule_holds Check _ (inr (inr (inr (inl refl)))) row there) in
      int ∙ ap Int (equal_checked (id_in (rowid row)) (pos 1) (subst (λ v. not (is_false (binary (Compare Eq Binary) v (Int (pos 1)))) ≡ true) int checks.0)) in
      keyed.apart one other h k (number one h ∙ sym (number other k))
