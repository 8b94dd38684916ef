-- Where no transaction is a refragmentation, everybody may begin and state, and the catalogue in force stays.
use Rattle.std.proofs.Common.{◌≡◌, refl, ap, ◌==◌, ◌&&◌, not, Bool, true, false, List, [], ◌∷◌, suc}
use Rattle.std.specs.List.{list_all}
use Rattle.std.proofs.lemmas.Bool.{eq-eqb}
use Rattle.protocol.specs.Language.{Lang, Name}
use Rattle.protocol.specs.Desk.{Request, State, Commit_call, Rollback, Give_up, Transition, is_moving, is_committed}
use Rattle.protocol.specs.World.{World, may_begin, may_ask, turned}
use Rattle.protocol.proofs.Basics.{both_true, if_false}

module _ {L : Lang} (w : World L) (none : (t : Name) → is_moving (w.desk.txn t) ≡ false) where
  pub may_always_begin : may_begin w ≡ true
  may_always_begin = all w.desk.known
    where
      all : (names : List Name) → list_all (λ t. not (is_moving (w.desk.txn t))) names ≡ true
      all [] = refl
      all (t ∷ names) = both_true (not (is_moving (w.desk.txn t))) (list_all (λ t. not (is_moving (w.desk.txn t))) names) (ap not (none t)) (all names)

  pub may_always_ask : ((s : L.Statement) → L.tag s ≡ w.version) → ((s : L.Statement) → L.raises s ≡ false) → (t : Name) (request : Request L) → may_ask w t request ≡ true
  may_always_ask tag plain t (State s) = both_true (not (is_moving (w.desk.txn t)) && (L.tag s == w.version)) (not (L.raises s))
      (both_true (not (is_moving (w.desk.txn t))) (L.tag s == w.version) (ap not (none t)) (eq-eqb (L.tag s) w.version (tag s))) (ap not (plain s))
  may_always_ask tag plain t Commit_call = refl
  may_always_ask tag plain t Rollback = refl
  may_always_ask tag plain t Give_up = refl

  pub version_stays : (t : Name) (turn : Transition L) → (turned w t turn).version ≡ w.version
  version_stays t turn = if_false (is_moving (w.desk.txn t) && is_committed turn.deeds t) (suc w.version) w.version (no_and (is_moving (w.desk.txn t)) (is_committed turn.deeds t) (none t))
    where
      no_and : (a b : Bool) → a ≡ false → (a && b) ≡ false
      no_and true b e = cc
      no_and false b e = refl
