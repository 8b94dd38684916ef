-- The catalogue in force: each undecided transaction is in step from it, a refragmentation is alone, and the line of all that counts is in step from the opening to it.
use Rattle.std.proofs.Common.{◌≡◌, refl, ap, ℕ, true, false, ◌||◌, not, List, ⊎_elim}
use Rattle.protocol.specs.Language.{Lang, Name}
use Rattle.protocol.specs.Desk.{Undecided, Txn, Unknown, Known, Row, Deed, is_moving, is_unknown, is_undecided}
use Rattle.protocol.specs.World.{World}
use Rattle.protocol.specs.Serial.{is_committed, phases_of, statements_of}
use Rattle.protocol.proofs.Basics.{In, clash, by_test}
use Rattle.protocol.proofs.Order.{InStep, Low, Single, Order}

module _ {L : Lang} where
  -- first: the catalogue in force at the opening
  pub record Versioned (first : ℕ) (past : List (Deed L)) (txn : Name → Txn L) (known : List Name) (version : ℕ) : Type 0 where
    pub listed : (t : Name) → is_unknown (txn t) ≡ false → In t known
    pub in_step : (t : Name) (u : Undecided L) → txn t ≡ Known u → InStep L version (statements_of past t)
    pub plain : (t : Name) (u : Undecided L) → txn t ≡ Known u → u.moves ≡ false → Low L (statements_of past t)
    pub moved : (t : Name) (u : Undecided L) → txn t ≡ Known u → u.moves ≡ true → Single L (statements_of past t)
    pub alone : (t x : Name) → is_moving (txn t) ≡ true → is_unknown (txn x) ≡ false → x ≡ t
    pub order : Order L (statements_of past) (is_committed past) (λ t. is_committed past t || is_undecided (txn t)) (λ t. is_moving (txn t)) version first (phases_of past)

  abbrev pub Versions : ℕ → World L → Type 0
  Versions first w = Versioned first w.past w.desk.txn w.desk.known w.version

  -- a transaction that moves is undecided
  pub moving_is : (x : Txn L) → is_moving x ≡ true → (u : Undecided L) × (x ≡ Known u) × (u.moves ≡ true)
  moving_is Unknown e = cc
  moving_is (Known u) e = (u, refl, e)
  moving_is (Row vs acked) e = cc

  pub undecided_is : (x : Txn L) → is_undecided x ≡ true → (u : Undecided L) × (x ≡ Known u)
  undecided_is Unknown e = cc
  undecided_is (Known u) e = (u, refl)
  undecided_is (Row vs acked) e = cc

  pub known_not : (x : Txn L) (u : Undecided L) → x ≡ Known u → is_unknown x ≡ false
  known_not x u e = ap is_unknown e

  -- what was unknown stays so
  pub known_before : (x y : Txn L) → (is_unknown x ≡ true → is_unknown y ≡ true) → is_unknown y ≡ false → is_unknown x ≡ false
  known_before x y to known = ⊎_elim (λ e. clash (to e) known) (λ e. e) (by_test (is_unknown x))

  pub not_unknown : (txn : Name → Txn L) (t : Name) → is_unknown (txn t) ≡ false → not (is_unknown (txn t)) ≡ true
  not_unknown txn t e = ap not e
