-- What a query shows of what is committed.
use Rattle.std.proofs.Common.{◌≡◌, Result, IfOk, IsTrue, sym, subst}
use Rattle.sqlite.specs.Effect.{Database}
use Rattle.sqlite.specs.State.{State}
use Rattle.sqlite.specs.declared.error.Error.{Error}
use Rattle.sqlstore.specs.Query.{QueriesOf}

-- a query outside of a transaction shows what is committed, and leaves it
pub settled_query : {Known : Database → Type 0} {A : Type 0} (P : Database → A → Type 0) (old new : State) (result : Result A Error) → (IsTrue old.is_open → old.now ≡ old.committed) → QueriesOf Known P old new result → IsTrue new.is_open → Known old.committed
    → IfOk result (P old.committed) × (new.committed ≡ old.committed)
settled_query {Known} P old new result settled query is_open tables =
    let now : old.now ≡ old.committed = settled (query.was_open is_open) in
    let tables_now : Known old.now = subst Known (sym now) tables in
    (subst (λ db. IfOk result (P db)) now (query.shows tables_now), (query.kept tables_now).committed is_open)
