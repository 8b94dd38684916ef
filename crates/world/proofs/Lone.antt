-- A lone statement whose call is refused is taken back.
use Rattle.std.proofs.Common.{◌≡◌, refl, sym, ap, subst, ℕ, false, List, [], ◌∷◌, ◌++◌, Result, Ok, Err}
use Rattle.store.specs.declared.name.Txn.{Txn}
use Rattle.desk.specs.declared.refusal.Refusal.{Refusal}
use Rattle.desk.specs.declared.reply.Notice.{Notice}
use Rattle.world.specs.declared.event.Call.TheVariants as call
use Rattle.world.specs.Client.{is_end, tells}
use Rattle.world.specs.Commands.{IsDecided, IsStated, TakesBack, heard_in}
use Rattle.world.specs.Course.{Move, Refuses}

module _ {T : Type 0} (items : T → List Notice) where
  -- its commit
  pub commit_taken_back : (txn : Txn) (told : List Notice) (why : Refusal) (result : Result T Refusal) (one more : List Move) → tells is_end told ≡ false → one ≡ Refuses (call.Commit txn) why ∷ [] → TakesBack txn why result more → IsDecided txn told (one ++ more) (heard_in items result)
  commit_taken_back txn told why (Ok x) one more goes is taken = absurd taken
  commit_taken_back txn told why (Err refused) one more goes is taken = subst (λ ms. IsDecided txn told (ms ++ more) (Err refused)) (sym is) (refl, goes, taken.0, ap Err taken.1)

  -- the statement
  pub state_taken_back : (text : List ℕ) (txn : Txn) (greeted : List Notice) (why : Refusal) (result : Result T Refusal) (one more : List Move) → one ≡ Refuses (call.State txn text) why ∷ [] → TakesBack txn why result more → IsStated text txn greeted (one ++ more) (heard_in items result)
  state_taken_back text txn greeted why (Ok x) one more is taken = absurd taken
  state_taken_back text txn greeted why (Err refused) one more is taken = subst (λ ms. IsStated text txn greeted (ms ++ more) (Err refused)) (sym is) (refl, refl, taken.0, ap Err taken.1)
