-- Nobody gives a relation another split, so everybody may begin and state for the catalogue in force, and that stays.
use Rattle.std.proofs.Common.{◌≡◌, ◌⊎◌, inl, inr, refl, sym, ap, ◌∙◌, ℕ, ◌==◌, ◌&&◌, ◌||◌, not, true, false, List, [], ◌∷◌, Option, Some, None, Result, Ok, Err, IfErr, ⊎_elim}
use Rattle.std.proofs.lemmas.Bool.{eq-eqb}
use Rattle.catalog.specs.declared.relation.SplitRelation.{SplitRelation}
use Rattle.catalog.specs.Relation.{catalogue_of}
use Rattle.protocol.specs.Desk.{Commit_call, Deed, Desk, Give_up, Known, Request, Rollback, Row, State, Transition, Txn as ProtocolTxn, Unknown, desk_after, desk_began, desk_restarted, fresh, is_desk_within, is_moving, next_txn, txn_restarted}
use Rattle.protocol.specs.Language.{Name, same}
use Rattle.protocol.specs.Letter.{Letter}
use Rattle.protocol.specs.World.{World, may_ask, may_begin, turned}
use Rattle.protocol.proofs.Basics.{both_true, by_test, clash, put_all, same_law}
use Rattle.protocol.proofs.OneCatalogue.{may_always_begin, version_stays}
use Rattle.store.specs.declared.name.Txn.{Txn}
use Rattle.store.specs.DeskContent.{DeskContent, Voters}
use Rattle.desk.specs.Database.{Database, language}
use Rattle.desk.specs.OfCatalogue.{InForce}
use Rattle.desk.specs.Recovery.{Rises, resting}
use Rattle.desk.specs.State.{VolatileState, anyone_moves, desk_of}
use Rattle.desk.specs.Transition.{is_moving as desk_moving}
use Rattle.desk.specs.declared.refusal.Refusal.{Refusal}
use Rattle.desk.specs.declared.refusal.Refusal.TheVariants as refusals
use Rattle.desk.proofs.Raised.{TurnKeeps, moving_is}
use Rattle.protocol.specs.Letters.{txn_name}
use Rattle.std.specs.List.{list_any}
use Rattle.world.specs.declared.event.Call.TheVariants as calls
use Rattle.world.specs.Refused.{IsRefused}
use Rattle.desk.specs.Transaction.{txn_of}
use Rattle.world.specs.Machines.{IsForNow, Machines, world_of}
use Rattle.meaning.specs.Statement.{is_refragment}

-- where a life of the coordinator has begun, nobody moves
pub nobody_rises : (db : Database) (kept : DeskContent) (table : VolatileState) → Rises db kept table → (txn : Txn) → is_moving (txn_of db (table.standing txn)) ≡ false
nobody_rises db kept table rises txn = ap (λ o. is_moving (txn_of db o)) (rises.stands txn) ∙ rests (kept.commits txn)
  where
    rests : (o : Option Voters) → is_moving (txn_of db (resting db.sites o)) ≡ false
    rests None = refl
    rests (Some voters) = refl

-- nor does anybody after a turn of which nobody comes to move
pub nobody_after : (db : Database) (d : Desk (language db)) (t : Name) (turn : Transition (language db)) → ((t : Name) → is_moving (d.txn t) ≡ false) → TurnKeeps (language db) t (d.txn t) turn → (x : Name) → is_moving ((desk_after d t turn.txn).txn x) ≡ false
nobody_after db d t turn still keeps = put_all same same_law t turn.txn d.txn (λ x y. is_moving y ≡ false) (⊎_elim (λ moves. clash (keeps.moves moves) (still t)) (λ none. none) (by_test (is_moving turn.txn))) (λ x other. still x)

-- nor where a transaction begins, and after a restart
pub nobody_begins : (db : Database) (d : Desk (language db)) → ((t : Name) → is_moving (d.txn t) ≡ false) → (x : Name) → is_moving ((desk_began d).txn x) ≡ false
nobody_begins db d still = put_all same same_law (next_txn d) (Known fresh) d.txn (λ x y. is_moving y ≡ false) refl (λ x other. still x)

pub nobody_restarts : (db : Database) (d : Desk (language db)) (x : Name) → is_moving ((desk_restarted d).txn x) ≡ false
nobody_restarts db d x = go (d.txn x)
  where
    go : (y : ProtocolTxn (language db)) → is_moving (txn_restarted x y).txn ≡ false
    go Unknown = refl
    go (Known u) = refl
    go (Row voters acked) = refl

module _ (db : Database) (machines : Machines) (still : (t : Name) → is_moving ((desk_of db machines.table).txn t) ≡ false) (letters : List (Letter (language db))) (past : List (Deed (language db))) where
  abbrev here : World (language db)
  here = world_of db machines letters past

  pub nobody_moves : (t : Name) → is_moving (here.desk.txn t) ≡ false
  nobody_moves = still

  pub begins_in_force : may_begin here ≡ true
  begins_in_force = may_always_begin here nobody_moves

  pub asks_in_force : (t : Name) (request : Request (language db)) → IsForNow db machines.table.version request → may_ask here t request ≡ true
  asks_in_force t (State s) now = both_true (not (is_moving (here.desk.txn t)) && (s.0 == machines.table.version)) (not (is_refragment s.1))
      (both_true (not (is_moving (here.desk.txn t))) (s.0 == machines.table.version) (ap not (nobody_moves t)) (eq-eqb s.0 machines.table.version now.0)) (ap not now.1)
  asks_in_force t Commit_call now = refl
  asks_in_force t Rollback now = refl
  asks_in_force t Give_up now = refl

  pub stays_in_force : (t : Name) (turn : Transition (language db)) → (turned here t turn).version ≡ machines.table.version
  stays_in_force t turn = version_stays here nobody_moves t turn

-- where neither the number nor the catalogue that was read has changed, the same is in force
pub in_force_on : (db : Database) (n m : ℕ) (was now : List (List ℕ) × List SplitRelation) → m ≡ n → now ≡ was → InForce db n was → InForce db m now
in_force_on db n m was now same kept is = ap db.catalogue same ∙ is ∙ ap catalogue_of (sym kept)

-- who moves, where somebody does
somebody : (db : Database) (table : VolatileState) (txns : List Txn) → list_any (λ txn. desk_moving (table.standing txn)) txns ≡ true → (t : Name) × (is_moving ((desk_of db table).txn t) ≡ true)
somebody db table [] e = absurd (cc)
somebody db table (txn ∷ txns) e = ⊎_elim
    (λ moves. (txn_name txn, moving_is db (table.standing txn) ∙ moves))
    (λ stays. somebody db table txns ((λ i. sym stays i || list_any (λ txn. desk_moving (table.standing txn)) txns) ∙ e))
    (by_test (desk_moving (table.standing txn)))

-- why nothing begins: at a limit, where somebody moves, and for want of memory
pub begin_refused : {T : Type 0} (db : Database) (later : List (List (List ℕ) × List SplitRelation)) (table : VolatileState) (result : Result T Refusal) → IfErr result (λ told. (told ≡ refusals.Memory) ⊎ (told ≡ refusals.Full) ⊎ (told ≡ refusals.NotAlone)) →
    (result ≡ Err refusals.Full → is_desk_within (desk_began (desk_of db table)) ≡ false) → (result ≡ Err refusals.NotAlone → anyone_moves table ≡ true) → IfErr result (λ told. (told ≡ refusals.Memory) ⊎ IsRefused db later table calls.Begin told)
begin_refused db later table (Ok out) own full alone = tt
begin_refused db later table (Err told) own full alone = ⊎_elim (λ memory. inl memory) (⊎_elim (λ is. inr (inl (is, full (ap Err is)))) (λ is. inr (inr (is, somebody db table table.txns (alone (ap Err is)))))) own
