-- Calls of transactions that are run one after another: what came of each.
use Rattle.std.proofs.Common.{◌≡◌, sym, ap, ◌∙◌, subst, true, false, List, [], ◌∷◌, ◌++◌, ◌⊎◌, inl, inr, Result, Ok, Err, IfErr, IfOk}
use Rattle.std.specs.Result.{IsErrAnd}
use Rattle.desk.specs.declared.refusal.Refusal.{Refusal}
use Rattle.desk.specs.declared.refusal.Refusal.TheVariants.{Memory}
use Rattle.desk.specs.declared.reply.Notice.{Notice}
use Rattle.desk.specs.Database.{Database}
use Rattle.world.specs.declared.event.Call as calls
use Rattle.world.specs.declared.machines.Machines as code
use Rattle.world.specs.declared.transaction.Came as cames
use Rattle.world.specs.declared.transaction.Came.TheVariants.{Heard, Refused}
use Rattle.world.specs.Batch.{moved}
use Rattle.world.specs.Course.{IsOne, Move, Refuses}
use Rattle.world.specs.Frame.{ComesTo, RunsTo}
use Rattle.world.specs.Machines.{Machines}
use Rattle.world.specs.Stopping.{is_stop}
use Rattle.protocol.proofs.Basics.{clash}
use Rattle.world.proofs.Calls.{answered, as_kind, narrowed, stops_as, then_too}
use Rattle.world.proofs.Denials.{is_memory}
use Rattle.world.proofs.SiteSteps.{if_ok}

-- what is told on by `?`
pub memory_up : {T : Type 0} (result : Result T Refusal) (told : Refusal) → IsErrAnd result (λ now. now ≡ told) → told ≡ Memory → IfErr result (λ now. now ≡ Memory)
memory_up (Ok x) told is memory = tt
memory_up (Err now) told is memory = is ∙ memory

pub stop_up : {T : Type 0} (result : Result T Refusal) (told : Refusal) → IsErrAnd result (λ now. now ≡ told) → is_stop told ≡ true → IfErr result (λ now. is_stop now ≡ true)
stop_up (Ok x) told is stops = tt
stop_up (Err now) told is stops = ap is_stop is ∙ stops

pub stop_of_memory : {T : Type 0} (result : Result T Refusal) → IfErr result (λ now. now ≡ Memory) → IfErr result (λ now. is_stop now ≡ true)
stop_of_memory (Ok x) memory = tt
stop_of_memory (Err now) memory = is_memory now memory

module _ {D S : Type 0} (IsClean IsSound : code.Machines D S → Type 0) (view : code.Machines D S → Machines) where
  -- calls have gone well: they made moves of this kind
  abbrev pub GoWell : (old new : code.Machines D S) → (List Move → Type 0) → Type 0
  GoWell old new kind = ComesTo {T = Unit {0}} IsClean IsSound view old new (Ok tt) (λ db done moves. kind moves)

  -- what came of a call that didn't stop the database is its move
  pub came_of : {T : Type 0} (items : T → List Notice) (asked : calls.Call) (move : T → Move) (old new : code.Machines D S) (done : Result T Refusal) (result : Result cames.Came Refusal) (came : cames.Came) → result ≡ Ok came →
      ((x : T) → moved asked (Heard (items x)) ≡ move x ∷ []) → ((why : Refusal) → moved asked (Refused why) ≡ Refuses asked why ∷ []) →
      IfOk done (λ x. result ≡ Ok (Heard (items x))) → IfErr done (λ told. ((is_stop told ≡ true) × (result ≡ Err told)) ⊎ ((is_stop told ≡ false) × (result ≡ Ok (Refused told)))) →
      ComesTo IsClean IsSound view old new done (λ db. IsOne move asked) → GoWell old new (λ moves. moves ≡ moved asked came)
  came_of items asked move old new (Ok x) result came was heard refused is others comes =
      let same : Heard (items x) ≡ came = cc in
      as_kind IsClean IsSound view old new (Ok x) (Ok tt) (λ none. tt) (λ none. none) (λ db of_catalogue n of moves k. inr (k ∙ sym (heard x) ∙ ap (moved asked) same)) comes
  came_of items asked move old new (Err told) result came was heard refused is (inl stops) comes = let e : Ok came ≡ Err told = sym was ∙ stops.1 in absurd (cc)
  came_of items asked move old new (Err told) result came was heard refused is (inr goes) comes =
      let same : Refused told ≡ came = cc in
      as_kind IsClean IsSound view old new (Err told) (Ok tt) (λ blamed. tt) (λ stop. clash stop goes.0) (λ db of_catalogue n of moves k. inr (k ∙ sym (refused told) ∙ ap (moved asked) same)) comes

  -- or it stopped the database
  pub stopped_by : {T U : Type 0} (items : T → List Notice) (old new : code.Machines D S) (done : Result T Refusal) (result : Result cames.Came Refusal) (why : Refusal) (K : Database → Result T Refusal → List Move → Type 0) (M : Database → Result U Refusal → List Move → Type 0) → result ≡ Err why →
      IfOk done (λ x. result ≡ Ok (Heard (items x))) → IfErr done (λ told. ((is_stop told ≡ true) × (result ≡ Err told)) ⊎ ((is_stop told ≡ false) × (result ≡ Ok (Refused told)))) →
      ComesTo IsClean IsSound view old new done K → (is_stop why ≡ true) × ComesTo IsClean IsSound view old new (Err why) M
  stopped_by items old new (Ok x) result why K M was is others comes = let e : Err why ≡ Ok (Heard (items x)) = sym was ∙ is in absurd (cc)
  stopped_by {U = U} items old new (Err told) result why K M was is (inl stops) comes =
      let same : told ≡ why = cc in
      (subst (λ (r : Refusal). is_stop r ≡ true) same stops.0, subst (λ (r : Refusal). ComesTo {T = U} IsClean IsSound view old new (Err r) M) same (stops_as IsClean IsSound view old new told stops.0 comes))
  stopped_by items old new (Err told) result why K M was is (inr goes) comes = let e : Err why ≡ Ok (Refused told) = sym was ∙ goes.1 in absurd (cc)

  -- what stopped it is told on
  pub passed_on : {T U : Type 0} {K : Database → Result T Refusal → List Move → Type 0} {M : Database → Result U Refusal → List Move → Type 0} (old new : code.Machines D S) (told : Refusal) (result : Result U Refusal) → IsErrAnd result (λ now. now ≡ told) → is_stop told ≡ true →
      ComesTo {T = T} IsClean IsSound view old new (Err told) K → ComesTo IsClean IsSound view old new result M
  passed_on old new told (Ok x) is stops comes = absurd is
  passed_on {T = T} {U = U} {M = M} old new told (Err now) is stops comes = subst (λ (r : Refusal). ComesTo {T = U} IsClean IsSound view old new (Err r) M) (sym is) (stops_as IsClean IsSound view old new told stops comes)

  -- ---- calls that are refused only where they stop the database
  module _ {U : Type 0} (kind : Database → U → List Move → Type 0) where
    -- calls went well, and so this is answered
    pub runs_well : (old new : code.Machines D S) (K : List Move → Type 0) (x : U) → ((db : Database) (moves : List Move) → K moves → kind db x moves) → GoWell old new K → RunsTo IsClean IsSound view old new (Ok x) kind
    runs_well old new K x so comes = record { comes = answered IsClean IsSound view old new tt (Ok x) tt so comes; own = tt }

    -- memory ran out behind them
    pub runs_out : (old new : code.Machines D S) (K : List Move → Type 0) (result : Result U Refusal) (told : Refusal) → IsErrAnd result (λ now. now ≡ told) → told ≡ Memory → GoWell old new K → RunsTo IsClean IsSound view old new result kind
    runs_out old new K result told is memory comes = record { comes = out_of result is; own = stop_of_memory result (memory_up result told is memory) }
      where
        out_of : (r : Result U Refusal) → IsErrAnd r (λ now. now ≡ told) → ComesTo IsClean IsSound view old new r (λ db done moves. IfOk done (λ x. kind db x moves))
        out_of (Ok x) none = absurd none
        out_of (Err now) same = answered IsClean IsSound view old new tt (Err now) (same ∙ memory) (λ db moves k. tt) comes

    -- another call stopped the database behind them
    pub runs_into : {T : Type 0} {L : Database → Result T Refusal → List Move → Type 0} (old mid new : code.Machines D S) (K : List Move → Type 0) (result : Result U Refusal) (told : Refusal) → IsErrAnd result (λ now. now ≡ told) → is_stop told ≡ true →
        GoWell old mid K → ComesTo {T = T} IsClean IsSound view mid new (Err told) L → RunsTo IsClean IsSound view old new result kind
    runs_into old mid new K result told is stops one two = record {
      comes = then_too IsClean IsSound view old mid new tt result (λ db first more k none. if_ok result (λ x no. absurd no) none) one
          (passed_on {M = λ db done moves. IfOk done (λ x. ⊥)} mid new told result is stops two);
      own = stop_up result told is stops;
    }

    -- another one goes on from there
    pub runs_on : (old mid new : code.Machines D S) (K : List Move → Type 0) (result : Result U Refusal) (more : Database → U → List Move → Type 0) → ((db : Database) (x : U) (one two : List Move) → K one → more db x two → kind db x (one ++ two)) →
        GoWell old mid K → RunsTo IsClean IsSound view mid new result more → RunsTo IsClean IsSound view old new result kind
    runs_on old mid new K result more so one two = record {
      comes = then_too IsClean IsSound view old mid new tt result (λ db first rest k later. if_ok result (λ x m. so db x first rest k m) later) one two.comes;
      own = two.own;
    }

  -- one is of another kind too
  pub runs_as : {T : Type 0} (K M : Database → T → List Move → Type 0) (old new : code.Machines D S) (result : Result T Refusal) → ((db : Database) (x : T) (moves : List Move) → K db x moves → M db x moves) → RunsTo IsClean IsSound view old new result K → RunsTo IsClean IsSound view old new result M
  runs_as K M old new result so runs = record { comes = narrowed IsClean IsSound view old new result (λ db moves k. if_ok result (λ x one. so db x moves one) k) runs.comes; own = runs.own }

  -- a call of such went well
  pub went_well : {T : Type 0} (kind : Database → T → List Move → Type 0) (K : List Move → Type 0) (old new : code.Machines D S) (x : T) → ((db : Database) (moves : List Move) → kind db x moves → K moves) → RunsTo IsClean IsSound view old new (Ok x) kind → GoWell old new K
  went_well kind K old new x so runs = answered IsClean IsSound view old new x (Ok tt) tt so runs.comes

  -- calls go well one after another
  pub well_then : (old mid new : code.Machines D S) (K L M : List Move → Type 0) → ((one two : List Move) → K one → L two → M (one ++ two)) → GoWell old mid K → GoWell mid new L → GoWell old new M
  well_then old mid new K L M join one two = then_too IsClean IsSound view old mid new tt (Ok tt) (λ db first more k l. join first more k l) one two

  -- and are of another kind too
  pub well_as : (old new : code.Machines D S) (K M : List Move → Type 0) → ((moves : List Move) → K moves → M moves) → GoWell old new K → GoWell old new M
  well_as old new K M so comes = answered IsClean IsSound view old new tt (Ok tt) tt (λ db moves k. so moves k) comes
