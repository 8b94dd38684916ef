-- What the statements of a site's store do within a transaction.
use Rattle.std.proofs.Common.{◌≡◌, ℕ, ℤ, Bool, true, false, cond, List, [], ◌∷◌, drop, Ok, Err, Result, refl, sym, ap, ◌∙◌, subst, inl, inr}
use Rattle.sqlite.specs.Cast.{cast, cast_all}
use Rattle.sqlite.specs.Collation.TheVariants.{Binary}
use Rattle.sqlite.specs.Kind.TheVariants.{Integer}
use Rattle.sqlite.specs.Ops.{unary}
use Rattle.sqlite.specs.Table.{Table}
use Rattle.sqlite.specs.Effect.{Database}
use Rattle.sqlite.specs.Order.{Row}
use Rattle.sqlite.specs.Schema.{Schema}
use Rattle.sqlite.specs.State.{State, Executes, ExecutesInside, KeepsCommit, IsUnchanged, IsRolledBack}
use Rattle.sqlite.specs.Term.{lit, col}
use Rattle.sqlite.specs.declared.error.Error.{Error}
use Rattle.sqlite.specs.declared.types.Value.{Value}
use Rattle.sqlite.specs.declared.types.Value.TheVariants.{Null, Int, Text, Blob}
use Rattle.sqlite_rules.specs.Lists.{Has}
use Rattle.sqlstore.specs.declared.visit.Visit.{Visit}
use Rattle.sqlstore.specs.Rows.{RewritesOf, Gains}
use Rattle.sqlstore.specs.Step.{StepsOn, Steps, Takes, Gives, Clears, Forgets, Promises, Intends, EndsLife, StartsLife, visit_params, slot_params, promise_params, intend_params, given}
use Rattle.sqlstore.specs.Tables.{site_schema, part_table, prepared_table, intent_table, state_table}
use Rattle.sqlstore.specs.Tests.{at_slot, of_visit, puts_of_visit, passes, shown}
use Rattle.sqlstore.proofs.Querying.{answered}
use Rattle.sqlstore.proofs.Statements.{deletes, inserts}
use Rattle.sqlstore.proofs.Texts.{take_text, take_is, take_plain, give_text, give_is, give_plain, clear_text, clear_is, clear_plain, forget_text, forget_is, forget_plain, promise_text, promise_is, promise_plain, intend_text, intend_is, intend_plain, end_life_text, end_life_is, end_life_plain, begin_life_text, begin_life_is, begin_life_plain}

pub unchanged_keeps : (old new : State) → IsUnchanged old new → KeepsCommit old new
unchanged_keeps old new same = record { was_open = λ _. same.0.was_open; committed = λ _. same.0.committed_is }

pub undone_keeps : (old new : State) → IsRolledBack old new → KeepsCommit old new
undone_keeps old new undone = record { was_open = undone.was_open; committed = λ is_open. (undone.undone is_open).1 }

-- a statement within a transaction steps by what it does where it answers
pub steps_by : {Known : Database → Type 0} (P : Database → Database → Type 0) (sql : List ℕ) (params : Row) (old new : State) (result : Result ℕ Error) → (Known old.now → (count : ℕ) → Executes sql params old new (Ok count) → P old.now new.now)
    → ExecutesInside 0 sql params old new result → StepsOn Known P old new result
steps_by P sql params old new (Ok count) does ran = record {
  kept = record { was_open = λ _. ran.1.was_open; committed = λ _. ran.1.committed_is };
  shows = ran.1;
  does = λ tables. does tables count ran.0;
}
steps_by P sql params old new (Err e) does (inl failed) = record {
  kept = elim failed.1 [ inl same ↦ unchanged_keeps old new same | inr undone ↦ undone_keeps old new undone ];
  shows = tt;
  does = λ _. tt;
}
steps_by P sql params old new (Err e) does (inr refused) = record { kept = unchanged_keeps old new refused.2; shows = tt; does = λ _. tt }

-- ---- what goes

pub takes : (slot : Row) (old new : State) (result : Result ℕ Error) → ExecutesInside 0 take_text (slot_params slot) old new result → Steps (Takes slot) old new result
takes slot old new result =
    steps_by (Takes slot) take_text (slot_params slot) old new result (λ tables count ran.
    deletes site_schema take_text 0 _ (inl refl) refl (slot_params slot) old new tables take_plain at_slot take_is (λ _. refl) (λ _. refl) count ran)

pub clears : (visit : Visit) (old new : State) (result : Result ℕ Error) → ExecutesInside 0 clear_text (visit_params visit) old new result → Steps (Clears visit) old new result
clears visit old new result =
    steps_by (Clears visit) clear_text (visit_params visit) old new result (λ tables count ran.
    deletes site_schema clear_text 2 _ (inr (inr (inl refl))) refl (visit_params visit) old new tables clear_plain of_visit clear_is (λ _. refl) (λ _. refl) count ran)

pub forgets : (visit : Visit) (old new : State) (result : Result ℕ Error) → ExecutesInside 0 forget_text (visit_params visit) old new result → Steps (Forgets visit) old new result
forgets visit old new result =
    steps_by (Forgets visit) forget_text (visit_params visit) old new result (λ tables count ran.
    deletes site_schema forget_text 1 _ (inr (inl refl)) refl (visit_params visit) old new tables forget_plain of_visit forget_is (λ _. refl) (λ _. refl) count ran)

pub ends_life : (old new : State) (result : Result ℕ Error) → ExecutesInside 0 end_life_text [] old new result → Steps EndsLife old new result
ends_life old new result =
    steps_by EndsLife end_life_text [] old new result (λ tables count ran.
    deletes site_schema end_life_text 3 _ (inr (inr (inr (inl refl)))) refl [] old new tables end_life_plain [] end_life_is (λ _. refl) (λ _. refl) count ran)

-- ---- what comes

pub gains_as : (P Q : Row → Type 0) (old new : List Row) → ((cells : Row) → P cells → Q cells) → ((cells : Row) → Q cells → P cells) → Gains P old new → Gains Q old new
gains_as P Q old new to from gains = record {
  kept = gains.kept;
  made = λ cells is. gains.made cells (from cells is);
  only = λ row there. elim (gains.only row there) [ inl was ↦ inl was | inr made ↦ inr (to (drop 1 row) made) ];
}

pub rewrites_as : {own : Schema} (tree : ℕ) (P Q : List Row → List Row → Type 0) (old new : Database) → (P (old.trees tree) (new.trees tree) → Q (old.trees tree) (new.trees tree)) → RewritesOf own tree P old new → RewritesOf own tree Q old new
rewrites_as tree P Q old new weaker rewrites = record { tables = rewrites.tables; sound = rewrites.sound; rows = weaker rewrites.rows; others = rewrites.others }

either : (test : Bool) (value : Value) → cond test value value ≡ value
either true value = refl
either false value = refl

-- an integer, a text and bytes are what a column of their type makes of them
pub cast_int : (n : ℤ) → cast Integer (Int n) ≡ Int n
unfolding unary
cast_int n = either _ (Int n)

pub cast_null : cast Integer Null ≡ Null
unfolding unary
cast_null = either _ Null

-- one row more
pub gains_one : (table : Table) (source cells : Row) (sources old new : List Row) → sources ≡ source ∷ [] → cast_all table.columns (drop 1 source) ≡ cells
    → Gains (λ made. (from : Row) × Has sources from × (made ≡ cast_all table.columns (drop 1 from))) old new → Gains (λ made. made ≡ cells) old new
gains_one table source cells sources old new one is =
    gains_as (λ made. (from : Row) × Has sources from × (made ≡ cast_all table.columns (drop 1 from))) (λ made. made ≡ cells) old new
    (λ made from. from.2 ∙ elim (subst (λ all. Has all from.0) one from.1) [ inl same ↦ ap (λ s. cast_all table.columns (drop 1 s)) same ∙ is | inr none ↦ absurd none ])
    (λ made same. (source, subst (λ all. Has all source) (sym one) (inl refl), same ∙ sym is))

four_ints : (a b c d : ℤ) → (cast Integer (Int a) ∷ cast Integer (Int b) ∷ cast Integer (Int c) ∷ cast Integer (Int d) ∷ []) ≡ (Int a ∷ Int b ∷ Int c ∷ Int d ∷ [])
four_ints a b c d = rw (cast_int a, cast_int b, cast_int c, cast_int d) refl

intent_cells : (life visit : ℤ) (leaf : List ℕ) (key : ℤ) (body : List ℕ) → (cast Integer (Int life) ∷ cast Integer (Int visit) ∷ Text leaf ∷ cast Integer (Int key) ∷ Blob body ∷ []) ≡ (Int life ∷ Int visit ∷ Text leaf ∷ Int key ∷ Blob body ∷ [])
intent_cells life visit leaf key body = rw (cast_int life, cast_int visit, cast_int key) refl

life_cells : (life : ℤ) → (cast Integer Null ∷ cast Integer (Int life) ∷ []) ≡ (Null ∷ Int life ∷ [])
life_cells life = rw (cast_null, cast_int life) refl

pub gives : (visit : Visit) (old new : State) (result : Result ℕ Error) → ExecutesInside 0 give_text (visit_params visit) old new result → Steps (Gives visit) old new result
gives visit old new result =
    let Intent = λ (cells : Row). (intent : Row) × Has (old.now.trees 4) intent × (passes puts_of_visit (visit_params visit) intent ≡ true) × (cells ≡ given intent) in
    steps_by (Gives visit) give_text (visit_params visit) old new result (λ tables count ran.
    let made = inserts site_schema give_text 0 _ (inl refl) refl (visit_params visit) old new tables give_plain _ give_is (λ _. refl) refl refl count ran in
    let finds = answered 4 puts_of_visit (lit Null ∷ col 1 3 ∷ col 1 4 ∷ col 1 5 ∷ []) (Binary ∷ Binary ∷ Binary ∷ Binary ∷ []) (visit_params visit) old.now.trees made.0 refl made.1.answer in
    rewrites_as 0 _ (Gains Intent) old.now new.now (gains_as _ Intent (old.now.trees 0) (new.now.trees 0)
    (λ cells from. let intent = finds.sound from.0 from.1 in (intent.0, intent.1, intent.2, from.2 ∙ ap (λ s. cast_all part_table.columns (drop 1 s)) intent.3))
    (λ cells is. (shown (lit Null ∷ col 1 3 ∷ col 1 4 ∷ col 1 5 ∷ []) (visit_params visit) is.0, finds.all is.0 is.1 is.2, is.3))) made.2)

pub promises : (visit txn : Visit) (old new : State) (result : Result ℕ Error) → ExecutesInside 0 promise_text (promise_params visit txn) old new result → Steps (Promises visit txn) old new result
promises visit txn old new result =
    steps_by (Promises visit txn) promise_text (promise_params visit txn) old new result (λ tables count ran.
    let made = inserts site_schema promise_text 1 _ (inr (inl refl)) refl (promise_params visit txn) old new tables promise_plain _ promise_is (λ _. refl) refl refl count ran in
    rewrites_as 2 _ _ old.now new.now (gains_one prepared_table _ (promise_params visit txn) made.0 (old.now.trees 2) (new.now.trees 2) made.1.1 (four_ints visit.life visit.visit txn.life txn.visit)) made.2)

pub intends : (visit : Visit) (leaf : List ℕ) (key : ℤ) (body : List ℕ) (old new : State) (result : Result ℕ Error) → ExecutesInside 0 intend_text (intend_params visit leaf key body) old new result → Steps (Intends visit leaf key body) old new result
intends visit leaf key body old new result =
    steps_by (Intends visit leaf key body) intend_text (intend_params visit leaf key body) old new result (λ tables count ran.
    let made = inserts site_schema intend_text 2 _ (inr (inr (inl refl))) refl (intend_params visit leaf key body) old new tables intend_plain _ intend_is (λ _. refl) refl refl count ran in
    rewrites_as 4 _ _ old.now new.now (gains_one intent_table _ (intend_params visit leaf key body) made.0 (old.now.trees 4) (new.now.trees 4) made.1.1 (intent_cells visit.life visit.visit leaf key body)) made.2)

pub starts_life : (life : ℤ) (old new : State) (result : Result ℕ Error) → ExecutesInside 0 begin_life_text (Int life ∷ []) old new result → Steps (StartsLife life) old new result
starts_life life old new result =
    steps_by (StartsLife life) begin_life_text (Int life ∷ []) old new result (λ tables count ran.
    let made = inserts site_schema begin_life_text 3 _ (inr (inr (inr (inl refl)))) refl (Int life ∷ []) old new tables begin_life_plain _ begin_life_is (λ _. refl) refl refl count ran in
    rewrites_as 6 _ _ old.now new.now (gains_one state_table _ (Null ∷ Int life ∷ []) made.0 (old.now.trees 6) (new.now.trees 6) made.1.1 (life_cells life)) made.2)
