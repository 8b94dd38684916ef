-- Why refusals stop one client's database: what is said of a call holds of the calls that it is part of.
use Rattle.std.proofs.Common.{◌≡◌, ◌≢◌, ◌⊎◌, refl, sym, subst, ℕ, Bool, true, false, List, [], ◌∷◌, Option, Some, None, Result, Ok, Err, IfErr, IfOk, IfSome, inl, inr, ⊎_elim}
use Rattle.std.specs.Option.{option_map}
use Rattle.std.specs.Result.{IsErrAnd}
use Rattle.meaning.specs.declared.schema.RelationSchema.{RelationSchema}
use Rattle.store.specs.declared.fault.StoreFault.TheVariants as faults
use Rattle.store.specs.Fault.{HasRefused}
use Rattle.protocol.specs.Desk as protocol
use Rattle.protocol.proofs.Basics.{some_is}
use Rattle.site.specs.declared.fault.SiteFault as site_faults
use Rattle.site.specs.declared.fault.SiteFault.TheVariants as site_fault
use Rattle.desk.specs.declared.refusal.Refusal.{Refusal}
use Rattle.desk.specs.declared.refusal.Refusal.TheVariants.{Aborted, Busy, Chain, Ended, Full, Memory, NoNext, NoTransaction, NotAlone, Read, Store}
use Rattle.desk.specs.Request.{refused_as}
use Rattle.desk.specs.Does.{IsNoStatement}
use Rattle.desk.specs.Refragmented.{IsNoRefragment}
use Rattle.desk.specs.declared.reply.Notice.{Notice}
use Rattle.world.specs.declared.fault.Fault.TheVariants as fault
use Rattle.world.specs.declared.transaction.Came.{Came}
use Rattle.world.specs.declared.transaction.Came.TheVariants.{Heard, Refused}
use Rattle.world.specs.Counted.{HaveRefused, NoFewer}
use Rattle.world.specs.Commands.{IsUnreadable}
use Rattle.world.specs.Stopping.{StopsFor, is_stop}
use Rattle.world.specs.Taking.{stop_of}
use Rattle.world.proofs.Counting.{refused_before, refused_since}
use Rattle.world.proofs.Refusing.{if_err}

-- ---- where refusals of some counts are refusals of others
pub stops_so : (a b c d : List ℕ) → (HaveRefused a b → HaveRefused c d) → (told : Refusal) → StopsFor a b told → StopsFor c d told
stops_so a b c d to NoTransaction why = tt
stops_so a b c d to Busy why = tt
stops_so a b c d to Ended why = tt
stops_so a b c d to Full why = tt
stops_so a b c d to (Read fault) why = tt
stops_so a b c d to (Aborted reason) why = tt
stops_so a b c d to Memory why = tt
stops_so a b c d to NotAlone why = tt
stops_so a b c d to NoNext why = tt
stops_so a b c d to Chain why = tt
stops_so a b c d to (Store faults.Refused) why = to why
stops_so a b c d to (Store faults.Memory) why = absurd why
stops_so a b c d to (Store faults.Damaged) why = absurd why

fault_so : (a b c d : List ℕ) → (HaveRefused a b → HaveRefused c d) → (stop : Option Refusal) → IfSome stop (StopsFor a b) → IfSome stop (StopsFor c d)
fault_so a b c d to None why = tt
fault_so a b c d to (Some told) why = stops_so a b c d to told why

-- ---- counts never fall
pub stops_before : (first second third : List ℕ) → NoFewer first second → NoFewer second third → (told : Refusal) → StopsFor first second told → StopsFor first third told
stops_before first second third one two = stops_so first second first third (λ refused. refused_before first second third one refused two)

pub stops_since : (first second third : List ℕ) → NoFewer first second → (told : Refusal) → StopsFor second third told → StopsFor first third told
stops_since first second third one = stops_so second third first third (λ refused. refused_since first second third one refused)

pub call_since : {T : Type 0} (result : Result T Refusal) (first second third : List ℕ) → NoFewer first second → IfErr result (StopsFor second third) → IfErr result (StopsFor first third)
call_since result first second third one = if_err result (stops_since first second third one)

-- ---- refusals that no store makes
pub memory_stops : (before after : List ℕ) (told : Refusal) → told ≡ Memory → StopsFor before after told
memory_stops before after told is = subst (StopsFor before after) (sym is) tt

pub full_stops : (before after : List ℕ) (told : Refusal) → told ≡ Full → StopsFor before after told
full_stops before after told is = subst (StopsFor before after) (sym is) tt

pub begin_stops : (before after : List ℕ) (told : Refusal) → (told ≡ Memory) ⊎ (told ≡ Full) ⊎ (told ≡ NotAlone) → StopsFor before after told
begin_stops before after told = ⊎_elim (memory_stops before after told) (⊎_elim (full_stops before after told) (λ is. subst (StopsFor before after) (sym is) tt))

pub refragment_stops : (before after : List ℕ) (schemas : List RelationSchema) (text : List ℕ) (told : Refusal) → (told ≡ Memory) ⊎ (told ≡ Full) ⊎ (told ≡ NotAlone) ⊎ (told ≡ NoNext) ⊎ IsNoRefragment schemas text told → StopsFor before after told
refragment_stops before after schemas text told (inl memory) = memory_stops before after told memory
refragment_stops before after schemas text told (inr (inl full)) = full_stops before after told full
refragment_stops before after schemas text told (inr (inr (inl is))) = subst (StopsFor before after) (sym is) tt
refragment_stops before after schemas text told (inr (inr (inr (inl is)))) = subst (StopsFor before after) (sym is) tt
refragment_stops before after schemas text told (inr (inr (inr (inr unread)))) = subst (StopsFor before after) (sym unread.is) tt

pub limit_stops : (before after : List ℕ) (told : Refusal) → (told ≡ Memory) ⊎ (told ≡ Full) → StopsFor before after told
limit_stops before after told = ⊎_elim (memory_stops before after told) (full_stops before after told)

-- a call refused as the protocol refuses it
protocol_stops : (before after : List ℕ) (told : Refusal) (why : Option protocol.Refusal) → option_map refused_as why ≡ Some told → StopsFor before after told
protocol_stops before after told None is = absurd (cc)
protocol_stops before after told (Some protocol.No_transaction) is = subst (StopsFor before after) (some_is is) tt
protocol_stops before after told (Some protocol.Busy) is = subst (StopsFor before after) (some_is is) tt
protocol_stops before after told (Some protocol.Ended) is = subst (StopsFor before after) (some_is is) tt

pub refused_stops : (before after : List ℕ) (told : Refusal) (why : Option protocol.Refusal) → (told ≡ Memory) ⊎ (option_map refused_as why ≡ Some told) → StopsFor before after told
refused_stops before after told why = ⊎_elim (memory_stops before after told) (protocol_stops before after told why)

pub statement_stops : (before after : List ℕ) (told : Refusal) (why : Option protocol.Refusal) (Moving : Type 0) (schemas : List RelationSchema) (text : List ℕ) →
    (told ≡ Memory) ⊎ ((option_map refused_as why ≡ Some told) ⊎ (Moving × (told ≡ Busy))) ⊎ ((why ≡ None) × (IsNoStatement schemas text told ⊎ (told ≡ Full))) → StopsFor before after told
statement_stops before after told why Moving schemas text (inl memory) = memory_stops before after told memory
statement_stops before after told why Moving schemas text (inr (inl refused)) = ⊎_elim (protocol_stops before after told why) (λ moving. subst (StopsFor before after) (sym moving.1) tt) refused
statement_stops before after told why Moving schemas text (inr (inr late)) = ⊎_elim (⊎_elim (λ unread. subst (StopsFor before after) (sym unread.is) tt) (λ refragment. subst (StopsFor before after) (sym refragment.is) tt)) (full_stops before after told) late.1

-- a text that isn't read
pub unreadable_stops : (before after : List ℕ) (told : Refusal) (schemas : List RelationSchema) (text : List ℕ) → IsUnreadable schemas text told → StopsFor before after told
unreadable_stops before after told schemas text (inl memory) = memory_stops before after told memory
unreadable_stops before after told schemas text (inr none) = subst (StopsFor before after) (sym none.is) tt

-- ---- faults of machines
-- a site with a sound store, whose store is called
pub site_stops : {T : Type 0} (result : Result T site_faults.SiteFault) (kept : Bool) (before after : ℕ) → kept ≡ true →
    (result ≡ Err (site_fault.Store faults.Refused) → (kept ≡ false) ⊎ HasRefused before after) → result ≢ Err (site_fault.Store faults.Damaged) → result ≢ Err (site_fault.Store faults.Memory) →
    IfErr result (λ told. IfSome (stop_of (fault.Site told)) (StopsFor (before ∷ []) (after ∷ [])))
site_stops (Ok letters) kept before after made refuses intact plain = tt
site_stops (Err site_fault.Memory) kept before after made refuses intact plain = tt
site_stops (Err site_fault.Full) kept before after made refuses intact plain = tt
site_stops (Err site_fault.Stranger) kept before after made refuses intact plain = tt
site_stops (Err (site_fault.Store faults.Refused)) kept before after made refuses intact plain = ⊎_elim (λ unmade. absurd (cc)) (λ more. inl more) (refuses refl)
site_stops (Err (site_fault.Store faults.Memory)) kept before after made refuses intact plain = absurd (plain refl)
site_stops (Err (site_fault.Store faults.Damaged)) kept before after made refuses intact plain = absurd (intact refl)

-- beside the coordinator
pub later_stops : (one next : ℕ) (before after : List ℕ) (stop : Option Refusal) → IfSome stop (StopsFor before after) → IfSome stop (StopsFor (one ∷ before) (next ∷ after))
later_stops one next before after = fault_so before after (one ∷ before) (next ∷ after) (λ there. inr there)

-- the first site, and one of the others
pub first_stops : {T : Type 0} (result : Result T site_faults.SiteFault) (one next : ℕ) (before after : List ℕ) → IfErr result (λ told. IfSome (stop_of (fault.Site told)) (StopsFor (one ∷ []) (next ∷ []))) →
    IfErr result (λ told. IfSome (stop_of (fault.Site told)) (StopsFor (one ∷ before) (next ∷ after)))
first_stops result one next before after = if_err result (λ told. fault_so (one ∷ []) (next ∷ []) (one ∷ before) (next ∷ after) (⊎_elim (λ here. inl here) (λ none. absurd none)) (stop_of (fault.Site told)))

pub other_stops : {T : Type 0} (result : Result T site_faults.SiteFault) (one next : ℕ) (before after : List ℕ) → IfErr result (λ told. IfSome (stop_of (fault.Site told)) (StopsFor before after)) →
    IfErr result (λ told. IfSome (stop_of (fault.Site told)) (StopsFor (one ∷ before) (next ∷ after)))
other_stops result one next before after = if_err result (λ told. later_stops one next before after (stop_of (fault.Site told)))

-- the coordinator, of a letter
pub desk_stops : (before after : List ℕ) (told : Refusal) → (told ≡ Memory) ⊎ (told ≡ Full) → IfSome (stop_of (fault.Desk told)) (StopsFor before after)
desk_stops before after told (inl memory) = subst (λ (told : Refusal). IfSome (stop_of (fault.Desk told)) (StopsFor before after)) (sym memory) tt
desk_stops before after told (inr full) = subst (λ (told : Refusal). IfSome (stop_of (fault.Desk told)) (StopsFor before after)) (sym full) tt

-- ---- calls of which one comes after another
pub memory_only : {T : Type 0} (result : Result T Refusal) (before after : List ℕ) → IfErr result (λ told. told ≡ Memory) → IfErr result (StopsFor before after)
memory_only result before after = if_err result (memory_stops before after)

-- what a call tells is told on
pub told_on : {T : Type 0} (result : Result T Refusal) (told : Refusal) (before after : List ℕ) → IsErrAnd result (λ now. now ≡ told) → StopsFor before after told → IfErr result (StopsFor before after)
told_on (Ok done) told before after is why = tt
told_on (Err now) told before after is why = subst (StopsFor before after) (sym is) why

-- so by what keeps it unless it stops the database
pub told_stops : (T : Type 0) (items : T → List Notice) (done : Result T Refusal) (result : Result Came Refusal) (told : Refusal) (before after : List ℕ) → result ≡ Err told →
    IfOk done (λ heard. result ≡ Ok (Heard (items heard))) → IfErr done (λ why. ((is_stop why ≡ true) × (result ≡ Err why)) ⊎ ((is_stop why ≡ false) × (result ≡ Ok (Refused why)))) → IfErr done (StopsFor before after) → StopsFor before after told
told_stops T items (Ok heard) result told before after is ok err stops = absurd (cc)
told_stops T items (Err why) result told before after is ok (inl stop) stops = same (cc)
  where
    same : why ≡ told → StopsFor before after told
    same e = subst (StopsFor before after) e stops
told_stops T items (Err why) result told before after is ok (inr other) stops = absurd (cc)

-- a transaction is taken back after a refusal: that is told, or what stopped it
pub taken_stops : (first second third : List ℕ) → NoFewer first second → NoFewer second third → (why told : Refusal) → StopsFor first second why → StopsFor second third told ⊎ (told ≡ why) → StopsFor first third told
taken_stops first second third one two why told stops = ⊎_elim
    (λ since. stops_since first second third one told since)
    (λ same. stops_before first second third one two told (subst (StopsFor first second) (sym same) stops))
