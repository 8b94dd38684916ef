-- What the statements of the coordinator's store do within a transaction.
use Rattle.std.proofs.Common.{◌≡◌, ℕ, ℤ, List, [], ◌∷◌, Result, refl, inl, inr}
use Rattle.sqlite.specs.Cast.{cast}
use Rattle.sqlite.specs.Kind.TheVariants.{Integer}
use Rattle.sqlite.specs.State.{State, ExecutesInside}
use Rattle.sqlite.specs.declared.error.Error.{Error}
use Rattle.sqlite.specs.declared.types.Value.TheVariants.{Null, Int, Text}
use Rattle.sqlstore.specs.declared.visit.Visit.{Visit}
use Rattle.sqlstore.specs.DeskStep.{Undecides, Votes, EndsEpoch, StartsEpoch, vote_params}
use Rattle.sqlstore.specs.DeskTables.{desk_schema, decided_table, epoch_table}
use Rattle.sqlstore.specs.Step.{StepsOf, visit_params}
use Rattle.sqlstore.specs.Tests.{of_visit}
use Rattle.sqlstore.proofs.Statements.{deletes, inserts}
use Rattle.sqlstore.proofs.Stepping.{steps_by, rewrites_as, gains_one, cast_int, cast_null}
use Rattle.sqlstore.proofs.DeskTexts.{vote_text, vote_is, vote_plain, undecide_text, undecide_is, undecide_plain, end_epoch_text, end_epoch_is, end_epoch_plain, start_epoch_text, start_epoch_is, start_epoch_plain}

pub undecides : (txn : Visit) (old new : State) (result : Result ℕ Error) → ExecutesInside 0 undecide_text (visit_params txn) old new result → StepsOf desk_schema (Undecides txn) old new result
undecides txn old new result =
    steps_by (Undecides txn) undecide_text (visit_params txn) old new result (λ tables count ran.
    deletes desk_schema undecide_text 0 _ (inl refl) refl (visit_params txn) old new tables undecide_plain of_visit undecide_is (λ _. refl) (λ _. refl) count ran)

pub ends_epoch : (old new : State) (result : Result ℕ Error) → ExecutesInside 0 end_epoch_text [] old new result → StepsOf desk_schema EndsEpoch old new result
ends_epoch old new result =
    steps_by EndsEpoch end_epoch_text [] old new result (λ tables count ran.
    deletes desk_schema end_epoch_text 1 _ (inr (inl refl)) refl [] old new tables end_epoch_plain [] end_epoch_is (λ _. refl) (λ _. refl) count ran)

vote_cells : (life number : ℤ) (site : List ℕ) (its_life visit : ℤ) → (cast Integer (Int life) ∷ cast Integer (Int number) ∷ Text site ∷ cast Integer (Int its_life) ∷ cast Integer (Int visit) ∷ []) ≡ (Int life ∷ Int number ∷ Text site ∷ Int its_life ∷ Int visit ∷ [])
vote_cells life number site its_life visit = rw (cast_int life, cast_int number, cast_int its_life, cast_int visit) refl

epoch_cells : (life version : ℤ) → (cast Integer Null ∷ cast Integer (Int life) ∷ cast Integer (Int version) ∷ []) ≡ (Null ∷ Int life ∷ Int version ∷ [])
epoch_cells life version = rw (cast_null, cast_int life, cast_int version) refl

pub votes : (txn : Visit) (site : List ℕ) (ticket : Visit) (old new : State) (result : Result ℕ Error) → ExecutesInside 0 vote_text (vote_params txn site ticket) old new result → StepsOf desk_schema (Votes txn site ticket) old new result
votes txn site ticket old new result =
    steps_by (Votes txn site ticket) vote_text (vote_params txn site ticket) old new result (λ tables count ran.
    let made = inserts desk_schema vote_text 0 _ (inl refl) refl (vote_params txn site ticket) old new tables vote_plain _ vote_is (λ _. refl) refl refl count ran in
    rewrites_as 0 _ _ old.now new.now (gains_one decided_table _ (vote_params txn site ticket) made.0 (old.now.trees 0) (new.now.trees 0) made.1.1 (vote_cells txn.life txn.visit site ticket.life ticket.visit)) made.2)

pub starts_epoch : (life version : ℤ) (old new : State) (result : Result ℕ Error) → ExecutesInside 0 start_epoch_text (Int life ∷ Int version ∷ []) old new result → StepsOf desk_schema (StartsEpoch life version) old new result
starts_epoch life version old new result =
    steps_by (StartsEpoch life version) start_epoch_text (Int life ∷ Int version ∷ []) old new result (λ tables count ran.
    let made = inserts desk_schema start_epoch_text 1 _ (inr (inl refl)) refl (Int life ∷ Int version ∷ []) old new tables start_epoch_plain _ start_epoch_is (λ _. refl) refl refl count ran in
    rewrites_as 2 _ _ old.now new.now (gains_one epoch_table _ (Null ∷ Int life ∷ Int version ∷ []) made.0 (old.now.trees 2) (new.now.trees 2) made.1.1 (epoch_cells life version)) made.2)
