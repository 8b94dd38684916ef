-- No catalogue comes next: a REFRAGMENT is refused so, and no other call.
use Rattle.std.proofs.Common.{◌≡◌, sym, ap, ◌∙◌, ⊎_elim, inl, inr, true, false, List, Option, Some, None, option_map, Result, Ok, Err, IfErr}
use Rattle.std.specs.List.{AllByRecursion}
use Rattle.meaning.specs.Whole.{Relations}
use Rattle.store.specs.declared.name.Txn.{Txn}
use Rattle.protocol.specs.Desk as protocol
use Rattle.protocol.specs.Desk.{Commit_call, Deed}
use Rattle.desk.specs.declared.refusal.Refusal.{Refusal}
use Rattle.desk.specs.declared.refusal.Refusal.TheVariants as told_as
use Rattle.desk.specs.declared.refusal.Refusal.TheVariants.{NoNext}
use Rattle.desk.specs.declared.reply.Notice.{Notice}
use Rattle.desk.specs.Database.{Database, language}
use Rattle.desk.specs.Request.{refused_as, txn_in}
use Rattle.world.specs.Commands.{IsDecided, heard_in}
use Rattle.world.specs.Course.{Move}
use Rattle.world.specs.Frame.{ListMakes}
use Rattle.world.specs.ListServed.{HasItsReason}
use Rattle.world.specs.Machines.{Machines}
use Rattle.world.specs.Stopping.{is_stop}
use Rattle.world.proofs.Moves.{decided_cases}

pub err_is : {T : Type 0} (one other : Refusal) → ◌≡◌ {A = Result T Refusal} (Err one) (Err other) → one ≡ other
err_is one other e = cc

-- of results of another kind too
pub err_as : {T U : Type 0} (one other : Refusal) → ◌≡◌ {A = Result T Refusal} (Err one) (Err other) → ◌≡◌ {A = Result U Refusal} (Err one) (Err other)
err_as one other e = ap Err (err_is one other e)

-- it stops no database
no_stop : {P : Type 0} (told : Refusal) → is_stop told ≡ true → told ≡ NoNext → P
no_stop told stops is = let e : false ≡ true = sym (ap is_stop is) ∙ stops in cc

pub never_next : {T P : Type 0} (result : Result T Refusal) → IfErr result (λ told. is_stop told ≡ true) → result ≡ Err NoNext → P
never_next (Ok x) own none = cc
never_next (Err told) own none = no_stop told own (err_is told NoNext none)

-- no commit is refused so
not_asked : {P : Type 0} (asked : Option protocol.Refusal) (told : Refusal) → option_map refused_as asked ≡ Some told → told ≡ NoNext → P
not_asked None told e is = let f : None ≡ Some NoNext = e ∙ ap Some is in cc
not_asked (Some protocol.No_transaction) told e is = let f : Some told_as.NoTransaction ≡ Some NoNext = e ∙ ap Some is in cc
not_asked (Some protocol.Busy) told e is = let f : Some told_as.Busy ≡ Some NoNext = e ∙ ap Some is in cc
not_asked (Some protocol.Ended) told e is = let f : Some told_as.Ended ≡ Some NoNext = e ∙ ap Some is in cc

module _ (db : Database) (whole : Relations) (machines : Machines) (past : List (Deed (language db))) (told : List Notice) {P : Type 0} where
  decided_so : (txn : Txn) (deeds : List (Deed (language db))) (why : Refusal) → why ≡ NoNext → (moves : List Move) → IsDecided txn told moves (Err why) → AllByRecursion (HasItsReason db whole past deeds) moves → P
  decided_so txn deeds why is = decided_cases txn told (Err why) (λ moves. AllByRecursion (HasItsReason db whole past deeds) moves → P)
      (λ ended says reasons. cc)
      (λ decided goes says reasons. cc)
      (λ refused back goes taken says reasons.
      let next : refused ≡ NoNext = sym (err_is why refused says) ∙ is in
      ⊎_elim (λ stops. no_stop refused stops next) (λ way. not_asked (protocol.refusal Commit_call (txn_in db way.machines.table txn)) refused way.reason next) reasons.0)

  -- nor is a transaction whose commit is asked for
  pub never_decided : {T : Type 0} (items : T → List Notice) (First : Txn → Type 0) (result : Result T Refusal) → ListMakes db whole machines past result (λ done moves. (txn : Txn) × First txn × IsDecided txn told moves (heard_in items done)) → result ≡ Err NoNext → P
  never_decided items First (Ok x) made none = cc
  never_decided items First (Err why) (inl stops) none = no_stop why stops.0 (err_is why NoNext none)
  never_decided items First (Err why) (inr made) none = decided_so made.is.0 made.deeds why (err_is why NoNext none) made.moves made.is.2 made.reasons
