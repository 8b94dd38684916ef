-- The moves of a command, case by case.
use Rattle.std.proofs.Common.{◌≡◌, refl, sym, subst, ℕ, true, false, List, [], ◌∷◌, ◌++◌, Option, Some, None, Result, Ok, Err}
use Rattle.meaning.specs.declared.schema.RelationSchema.{RelationSchema}
use Rattle.meaning.specs.declared.statement.Refragment.{Refragment}
use Rattle.meaning.specs.declared.statement.Statement.{Statement}
use Rattle.meaning.specs.declared.statement.Statement.TheVariants as statements
use Rattle.meaning.specs.Statement.{is_refragment}
use Rattle.reader.specs.declared.command.Command.TheVariants.{Run}
use Rattle.reader.specs.Command.{IsTextOf}
use Rattle.store.specs.declared.name.Txn.{Txn}
use Rattle.desk.specs.declared.refusal.Refusal.{Refusal}
use Rattle.desk.specs.declared.reply.Notice.{Notice}
use Rattle.world.specs.declared.event.Call as calls
use Rattle.world.specs.declared.event.Call.TheVariants as call
use Rattle.world.specs.Client.{autocommit_reply, is_end, still_open, tells}
use Rattle.world.specs.Commands.{IsCallOf, IsCommand, IsDecided, IsLone, IsMisplaced, IsRefragmented, IsStated, IsTakenBack, is_lone, is_turned_down, makes_none, only_begins, only_commits, only_rolls_back, only_states, refragments}
use Rattle.world.specs.Course.{Begins, Commits, Move, Refragments, Refuses, Rolls_back, States}

-- a transaction is taken back
module _ (txn : Txn) (P : List Move → Type 0) (rolls_back : (heard : List Notice) → P (Rolls_back txn heard ∷ [])) (is_left : (told : Refusal) → P (Refuses (call.Rollback txn) told ∷ [])) where
  pub back_cases : (moves : List Move) → IsTakenBack txn moves → P moves
  back_cases [] none = absurd none
  back_cases (Begins t heard ∷ moves) none = absurd none
  back_cases (States t text heard ∷ moves) none = absurd none
  back_cases (Commits t heard ∷ moves) none = absurd none
  back_cases (Rolls_back t heard ∷ []) same = subst (λ (of : Txn). P (Rolls_back of heard ∷ [])) (sym same) (rolls_back heard)
  back_cases (Rolls_back t heard ∷ (move ∷ moves)) none = absurd none
  back_cases (Refragments asked came ∷ moves) none = absurd none
  back_cases (Refuses call.Begin told ∷ moves) none = absurd none
  back_cases (Refuses (call.State t text) told ∷ moves) none = absurd none
  back_cases (Refuses (call.Commit t) told ∷ moves) none = absurd none
  back_cases (Refuses (call.Rollback t) told ∷ []) same = subst (λ (of : Txn). P (Refuses (call.Rollback of) told ∷ [])) (sym same) (is_left told)
  back_cases (Refuses (call.Rollback t) told ∷ (move ∷ moves)) none = absurd none
  back_cases (Refuses (call.GiveUp t) told ∷ moves) none = absurd none
  back_cases (Refuses (call.Refragment asked) told ∷ moves) none = absurd none

-- a lone statement of which this was told is decided
module _ (txn : Txn) (told : List Notice) (reply : Result (List Notice) Refusal) (P : List Move → Type 0) (ended : tells is_end told ≡ true → reply ≡ Ok (autocommit_reply told) → P [])
    (commits : (decided : List Notice) → tells is_end told ≡ false → reply ≡ Ok (autocommit_reply (told ++ decided)) → P (Commits txn decided ∷ []))
    (refused : (why : Refusal) (back : List Move) → tells is_end told ≡ false → IsTakenBack txn back → reply ≡ Err why → P (Refuses (call.Commit txn) why ∷ back)) where
  pub decided_cases : (moves : List Move) → IsDecided txn told moves reply → P moves
  decided_cases [] is = ended is.0 is.1
  decided_cases (Begins t heard ∷ moves) none = absurd none
  decided_cases (States t text heard ∷ moves) none = absurd none
  decided_cases (Commits t decided ∷ []) is = subst (λ (of : Txn). P (Commits of decided ∷ [])) (sym is.0) (commits decided is.1 is.2)
  decided_cases (Commits t decided ∷ (move ∷ moves)) none = absurd none
  decided_cases (Rolls_back t heard ∷ moves) none = absurd none
  decided_cases (Refragments asked came ∷ moves) none = absurd none
  decided_cases (Refuses call.Begin why ∷ moves) none = absurd none
  decided_cases (Refuses (call.State t text) why ∷ moves) none = absurd none
  decided_cases (Refuses (call.Commit t) why ∷ back) is = subst (λ (of : Txn). P (Refuses (call.Commit of) why ∷ back)) (sym is.0) (refused why back is.1 is.2 is.3)
  decided_cases (Refuses (call.Rollback t) why ∷ moves) none = absurd none
  decided_cases (Refuses (call.GiveUp t) why ∷ moves) none = absurd none
  decided_cases (Refuses (call.Refragment asked) why ∷ moves) none = absurd none

-- it is stated, after its transaction has begun
module _ (text : List ℕ) (txn : Txn) (greeted : List Notice) (reply : Result (List Notice) Refusal) (P : List Move → Type 0) (states : (answered : List Notice) (moves : List Move) → IsDecided txn (greeted ++ answered) moves reply → P (States txn text answered ∷ moves))
    (refused : (why : Refusal) (back : List Move) → IsTakenBack txn back → reply ≡ Err why → P (Refuses (call.State txn text) why ∷ back)) where
  pub stated_cases : (moves : List Move) → IsStated text txn greeted moves reply → P moves
  stated_cases [] none = absurd none
  stated_cases (Begins t heard ∷ moves) none = absurd none
  stated_cases (States t stated answered ∷ moves) is = subst (λ (of : Txn). P (States of stated answered ∷ moves)) (sym is.0) (subst (λ (x : List ℕ). P (States txn x answered ∷ moves)) (sym is.1) (states answered moves is.2))
  stated_cases (Commits t heard ∷ moves) none = absurd none
  stated_cases (Rolls_back t heard ∷ moves) none = absurd none
  stated_cases (Refragments asked came ∷ moves) none = absurd none
  stated_cases (Refuses call.Begin why ∷ moves) none = absurd none
  stated_cases (Refuses (call.State t stated) why ∷ back) is = subst (λ (of : Txn). P (Refuses (call.State of stated) why ∷ back)) (sym is.0) (subst (λ (x : List ℕ). P (Refuses (call.State txn x) why ∷ back)) (sym is.1) (refused why back is.2 is.3))
  stated_cases (Refuses (call.Commit t) why ∷ moves) none = absurd none
  stated_cases (Refuses (call.Rollback t) why ∷ moves) none = absurd none
  stated_cases (Refuses (call.GiveUp t) why ∷ moves) none = absurd none
  stated_cases (Refuses (call.Refragment asked) why ∷ moves) none = absurd none

-- a lone statement
module _ (text : List ℕ) (reply : Result (List Notice) Refusal) (P : List Move → Type 0) (begins : (txn : Txn) (greeted : List Notice) (moves : List Move) → IsStated text txn greeted moves reply → P (Begins txn greeted ∷ moves))
    (refused : (why : Refusal) → reply ≡ Err why → P (Refuses call.Begin why ∷ [])) where
  pub lone_cases : (moves : List Move) → IsLone text moves reply → P moves
  lone_cases [] none = absurd none
  lone_cases (Begins txn greeted ∷ moves) is = begins txn greeted moves is
  lone_cases (States t stated heard ∷ moves) none = absurd none
  lone_cases (Commits t heard ∷ moves) none = absurd none
  lone_cases (Rolls_back t heard ∷ moves) none = absurd none
  lone_cases (Refragments asked came ∷ moves) none = absurd none
  lone_cases (Refuses call.Begin why ∷ []) is = refused why is
  lone_cases (Refuses call.Begin why ∷ (move ∷ moves)) none = absurd none
  lone_cases (Refuses (call.State t stated) why ∷ moves) none = absurd none
  lone_cases (Refuses (call.Commit t) why ∷ moves) none = absurd none
  lone_cases (Refuses (call.Rollback t) why ∷ moves) none = absurd none
  lone_cases (Refuses (call.GiveUp t) why ∷ moves) none = absurd none
  lone_cases (Refuses (call.Refragment asked) why ∷ moves) none = absurd none

-- a REFRAGMENT
module _ (text : List ℕ) (reply : Result (List Notice) Refusal) (P : List Move → Type 0) (asked : (came : Result (List Notice) Refusal) (moves : List Move) → IsRefragmented text (Refragments text came ∷ moves) reply → P (Refragments text came ∷ moves)) where
  pub refragmented_cases : (moves : List Move) → IsRefragmented text moves reply → P moves
  refragmented_cases [] none = absurd none
  refragmented_cases (Begins t heard ∷ moves) none = absurd none
  refragmented_cases (States t stated heard ∷ moves) none = absurd none
  refragmented_cases (Commits t heard ∷ moves) none = absurd none
  refragmented_cases (Rolls_back t heard ∷ moves) none = absurd none
  refragmented_cases (Refragments stated (Ok told) ∷ moves) is = subst (λ (x : List ℕ). P (Refragments x (Ok told) ∷ moves)) (sym is.0) (asked (Ok told) moves (refl, is.1))
  refragmented_cases (Refragments stated (Err why) ∷ []) is = subst (λ (x : List ℕ). P (Refragments x (Err why) ∷ [])) (sym is.0) (asked (Err why) [] (refl, is.1))
  refragmented_cases (Refragments stated (Err why) ∷ (move ∷ moves)) none = absurd none
  refragmented_cases (Refuses asked_for why ∷ moves) none = absurd none

-- any command
module _ (schemas : List RelationSchema) (text : List ℕ) (current later : Option Txn) (reply : Result (List Notice) Refusal) (P : List Move → Type 0) (at_once : later ≡ current → (told : Refusal) → reply ≡ Err told → IsMisplaced schemas text current told → P [])
    (begins : (txn : Txn) (heard : List Notice) → IsCallOf schemas text current call.Begin → later ≡ Some txn → reply ≡ Ok heard → P (Begins txn heard ∷ []))
    (states : (txn : Txn) (stated : List ℕ) (heard : List Notice) → IsCallOf schemas text current (call.State txn stated) → later ≡ still_open current heard → reply ≡ Ok heard → P (States txn stated heard ∷ []))
    (commits : (txn : Txn) (heard : List Notice) → IsCallOf schemas text current (call.Commit txn) → later ≡ None → reply ≡ Ok heard → P (Commits txn heard ∷ []))
    (rolls_back : (txn : Txn) (heard : List Notice) → IsCallOf schemas text current (call.Rollback txn) → later ≡ None → reply ≡ Ok heard → P (Rolls_back txn heard ∷ []))
    (refuses : (asked : calls.Call) (told : Refusal) → IsCallOf schemas text current asked → later ≡ current → reply ≡ Err told → P (Refuses asked told ∷ []))
    (lone : (moves : List Move) (statement : Statement) → IsTextOf schemas text (Run statement) → is_refragment statement ≡ false → current ≡ None → later ≡ None → IsLone text moves reply → P moves)
    (moved : (moves : List Move) (refragment : Refragment) → IsTextOf schemas text (Run (statements.Refragment refragment)) → current ≡ None → later ≡ None → IsRefragmented text moves reply → P moves) where
  pub command_cases : (moves : List Move) → IsCommand schemas text current later moves reply → P moves
  command_cases moves (makes_none told is misplaced still says) = subst P (sym is) (at_once still told says misplaced)
  command_cases moves (only_begins txn heard is of opens says) = subst P (sym is) (begins txn heard of opens says)
  command_cases moves (only_states txn stated heard is of still says) = subst P (sym is) (states txn stated heard of still says)
  command_cases moves (only_commits txn heard is of none says) = subst P (sym is) (commits txn heard of none says)
  command_cases moves (only_rolls_back txn heard is of none says) = subst P (sym is) (rolls_back txn heard of none says)
  command_cases moves (is_turned_down asked told is of still says) = subst P (sym is) (refuses asked told of still says)
  command_cases moves (is_lone statement spelled ordinary none after_none of) = lone moves statement spelled ordinary none after_none of
  command_cases moves (refragments refragment spelled none after_none of) = moved moves refragment spelled none after_none of
