-- What calls make of the machines that serve one client, one after another.
use Rattle.std.proofs.Common.{◌≡◌, ◌≢◌, ◌⊎◌, refl, sym, subst, ℕ, true, false, List, [], ◌∷◌, ◌++◌, inl, inr, ⊎_elim, Option, None, Result, Ok, Err, IfErr, IfOk}
use Rattle.meaning.specs.Whole.{Relations}
use Rattle.protocol.specs.Desk.{Deed}
use Rattle.meaning.specs.declared.statement.Refragment.{Refragment}
use Rattle.meaning.specs.declared.statement.Statement.{Statement}
use Rattle.meaning.specs.declared.statement.Statement.TheVariants as statements
use Rattle.meaning.specs.Statement.{is_refragment}
use Rattle.reader.specs.declared.command.Command.TheVariants.{Run}
use Rattle.reader.specs.Command.{IsTextOf}
use Rattle.store.specs.declared.name.Txn.{Txn}
use Rattle.store.specs.DeskContent.{DeskContent}
use Rattle.store.specs.SiteContent.{SiteContent}
use Rattle.protocol.proofs.Basics.{clash}
use Rattle.desk.specs.declared.refusal.Refusal.{Refusal}
use Rattle.desk.specs.declared.refusal.Refusal.TheVariants as told_as
use Rattle.desk.specs.declared.refusal.Refusal.TheVariants.{Memory}
use Rattle.desk.specs.declared.reply.Notice.{Notice}
use Rattle.desk.specs.Database.{Database, language}
use Rattle.desk.specs.OfCatalogue.{InForce, IsOfCatalogue}
use Rattle.world.specs.declared.event.Call as calls
use Rattle.world.specs.declared.event.Call.TheVariants as call
use Rattle.world.specs.declared.machines.Machines as code
use Rattle.world.specs.Commands.{IsCommand, IsLone, IsRefragmented, IsTakenBack, IsUnreadable, TakesBack, has_no_next, heard_in, is_lone, is_no_command, makes_none, refragments}
use Rattle.world.specs.Counted.{NoFewer, counts}
use Rattle.world.specs.Contents.{OfStores, counted}
use Rattle.world.specs.Course.{IsOne, IsTurnedDown, Move, Moves, Refuses}
use Rattle.world.specs.Frame.{Blames, ComesTo, HasMade, KeepsCatalogs, LeavesDatabase, ListMakes, MakesMoves, OverDatabase, OverLists, StaysServed}
use Rattle.world.specs.ListServed.{IsListServedOn, ListMade}
use Rattle.world.proofs.ListCalls.{makes_as, makes_then, none_made}
use Rattle.world.specs.Machines.{Machines}
use Rattle.world.specs.Stopping.{StopsFor, is_stop}
use Rattle.world.proofs.Counting.{no_fewer, no_fewer_then}
use Rattle.world.proofs.Deeds.{made_fit, made_then, made_version}
use Rattle.world.proofs.InForce.{in_force_on}
use Rattle.world.proofs.Leaves.{ends_last, ends_same, ends_then}
use Rattle.world.proofs.Denials.{is_memory}
use Rattle.world.proofs.Reaching.{same_on, then_on}
use Rattle.world.proofs.Stops.{call_since, memory_only}

-- a REFRAGMENT as such
as_refragment : (statement : Statement) → is_refragment statement ≡ true → (refragment : Refragment) × (statement ≡ statements.Refragment refragment)
as_refragment (statements.Refragment refragment) is = (refragment, refl)
as_refragment (statements.Select select) is = absurd (cc)
as_refragment (statements.Insert insert) is = absurd (cc)
as_refragment (statements.Update update) is = absurd (cc)
as_refragment (statements.Delete delete) is = absurd (cc)

-- a list has nothing or something
none_or_some : {A : Type 0} (xs : List A) → (xs ≡ []) ⊎ (xs ≢ [])
none_or_some [] = inl refl
none_or_some (x ∷ xs) = inr (λ e. cc)

-- what doesn't stop the database needs no reason
pub goes_for_any : (before after : List ℕ) (told : Refusal) → is_stop told ≡ false → StopsFor before after told
goes_for_any before after told_as.NoTransaction goes = tt
goes_for_any before after told_as.Busy goes = tt
goes_for_any before after told_as.Ended goes = tt
goes_for_any before after told_as.Full goes = tt
goes_for_any before after (told_as.Read fault) goes = tt
goes_for_any before after (told_as.Aborted why) goes = tt
goes_for_any before after Memory goes = tt
goes_for_any before after (told_as.Store fault) goes = cc
goes_for_any before after told_as.NotAlone goes = tt
goes_for_any before after told_as.NoNext goes = tt
goes_for_any before after told_as.Chain goes = tt

-- whether it stops the database
abbrev pub Stops : {T : Type 0} → Result T Refusal → Type 0
Stops (Ok x) = ⊥
Stops (Err told) = is_stop told ≡ true

-- which moves are made by a call with this answer
abbrev pub Kind : Type 0 → Type 1
Kind T = Database → Result T Refusal → List Move → Type 0

-- moves that were made, where the answer doesn't stop the database
made_of : {T : Type 0} (db : Database) (before after : Machines) (result : Result T Refusal) (K : Result T Refusal → List Move → Type 0) → (Stops result → ⊥) → MakesMoves db before after result K → HasMade db before after (K result)
made_of db before after (Ok x) K goes made = made
made_of db before after (Err told) K goes (inl stops) = absurd (goes stops)
made_of db before after (Err told) K goes (inr made) = made

list_made_of : {T : Type 0} (db : Database) (whole : Relations) (after : Machines) (past : List (Deed (language db))) (result : Result T Refusal) (K : Result T Refusal → List Move → Type 0) → (Stops result → ⊥) → ListMakes db whole after past result K → ListMade db whole after past (K result)
list_made_of db whole after past (Ok x) K goes made = made
list_made_of db whole after past (Err told) K goes (inl stops) = absurd (goes stops.0)
list_made_of db whole after past (Err told) K goes (inr made) = made

-- so each result of one call, as another's
module _ {T U : Type 0} (K : Result T Refusal → List Move → Type 0) (M : Result U Refusal → List Move → Type 0) where
  turned : (db : Database) (before after : Machines) (first : Result T Refusal) (result : Result U Refusal) → (Stops first → Stops result) → ((moves : List Move) → K first moves → Stops result ⊎ M result moves) → MakesMoves db before after first K → MakesMoves db before after result M
  turned db before after first result stops so makes = go first makes stops so
    where
      made_so : (kind : List Move → Type 0) (r : Result U Refusal) → ((moves : List Move) → kind moves → Stops r ⊎ M r moves) → HasMade db before after kind → MakesMoves db before after r M
      made_so kind (Ok y) so made = ⊎_elim (λ none. absurd none) (λ is. record { moves = made.moves; made = made.made; is = is }) (so made.moves made.is)
      made_so kind (Err told) so made = ⊎_elim (λ stop. inl stop) (λ is. inr (record { moves = made.moves; made = made.made; is = is })) (so made.moves made.is)

      stopped : (r : Result U Refusal) → Stops r → MakesMoves db before after r M
      stopped (Ok y) none = absurd none
      stopped (Err told) stop = inl stop

      go : (f : Result T Refusal) → MakesMoves db before after f K → (Stops f → Stops result) → ((moves : List Move) → K f moves → Stops result ⊎ M result moves) → MakesMoves db before after result M
      go (Ok x) made stops so = made_so (K (Ok x)) result so made
      go (Err told) (inl stop) stops so = stopped result (stops stop)
      go (Err told) (inr made) stops so = made_so (K (Err told)) result so made

  list_turned : (db : Database) (whole : Relations) (after : Machines) (past : List (Deed (language db))) (first : Result T Refusal) (result : Result U Refusal) → (Stops first → Stops result) → ((moves : List Move) → K first moves → Stops result ⊎ M result moves) →
      ListMakes db whole after past first K → ListMakes db whole after past result M
  list_turned db whole after past first result stops so makes = go first makes stops so
    where
      made_so : (kind : List Move → Type 0) (r : Result U Refusal) → ((moves : List Move) → kind moves → Stops r ⊎ M r moves) → ListMade db whole after past kind → ListMakes db whole after past r M
      made_so kind (Ok y) so made = ⊎_elim (λ none. absurd none) (λ is. record { moves = made.moves; deeds = made.deeds; served = made.served; tells = made.tells; reasons = made.reasons; uncommitted = made.uncommitted; is = is }) (so made.moves made.is)
      made_so kind (Err told) so made =
          ⊎_elim (λ stop. inl (stop, record { deeds = made.deeds; served = made.served })) (λ is. inr (record { moves = made.moves; deeds = made.deeds; served = made.served; tells = made.tells; reasons = made.reasons; uncommitted = made.uncommitted; is = is })) (so made.moves made.is)

      stopped : (r : Result U Refusal) → Stops r → IsListServedOn db whole after past → ListMakes db whole after past r M
      stopped (Ok y) none on = absurd none
      stopped (Err told) stop on = inl (stop, on)

      go : (f : Result T Refusal) → ListMakes db whole after past f K → (Stops f → Stops result) → ((moves : List Move) → K f moves → Stops result ⊎ M result moves) → ListMakes db whole after past result M
      go (Ok x) made stops so = made_so (K (Ok x)) result so made
      go (Err told) (inl stop) stops so = stopped result (stops stop.0) stop.1
      go (Err told) (inr made) stops so = made_so (K (Err told)) result so made

module _ {D S : Type 0} (IsClean IsSound : code.Machines D S → Type 0) (view : code.Machines D S → Machines) where
  -- so each result of one call, as another's
  pub as_kind : {T U : Type 0} {K : Kind T} {M : Kind U} (old new : code.Machines D S) (first : Result T Refusal) (result : Result U Refusal) → (IfErr first (StopsFor (view old).refused (view new).refused) → IfErr result (StopsFor (view old).refused (view new).refused)) → (Stops first → Stops result) →
      ((db : Database) → IsOfCatalogue db → (n : ℕ) → InForce db n old.desk.catalog → (moves : List Move) → K db first moves → Stops result ⊎ M db result moves) → ComesTo IsClean IsSound view old new first K → ComesTo IsClean IsSound view old new result M
  as_kind {K = K} {M = M} old new first result blames stops so comes = record {
    clean = comes.clean;
    sound = comes.sound;
    counts = comes.counts;
    catalogs = comes.catalogs;
    blames = λ clean sound. blames (comes.blames clean sound);
    served = comes.served;
    moves = λ db of is clean sound fit. turned (K db) (M db) db (view old) (view new) first result stops (so db of (view old).table.version is) (comes.moves db of is clean sound fit);
    lists = λ db whole past listed stands clean sound served.
        let made = comes.lists db whole past listed stands clean sound served in
        (list_turned (K db) (M db) db whole (view new) past first result stops (so db listed.base.of_catalogue old.desk.volatile.version stands.here) made.0, made.1);
  }

  -- it is answered by what doesn't stop the database, or want of memory
  pub answered : {T U : Type 0} {K : Kind T} {M : Kind U} (old new : code.Machines D S) (x : T) (result : Result U Refusal) → IfErr result (λ told. told ≡ Memory) → ((db : Database) (moves : List Move) → K db (Ok x) moves → IfOk result (λ y. M db (Ok y) moves)) →
      ComesTo IsClean IsSound view old new (Ok x) K → ComesTo IsClean IsSound view old new result M
  answered old new x (Ok y) memory so comes = as_kind old new (Ok x) (Ok y) (λ none. tt) (λ none. none) (λ db of n is moves k. inr (so db moves k)) comes
  answered {U = U} old new x (Err told) memory so comes = as_kind old new (Ok x) (Err told) (λ none. memory_only {T = U} (Err told) (view old).refused (view new).refused memory) (λ none. absurd none) (λ db of n is moves k. inl (is_memory told memory)) comes

  -- it stops the database, whatever it was to do
  pub stops_as : {T U : Type 0} {K : Kind T} {M : Kind U} (old new : code.Machines D S) (told : Refusal) → is_stop told ≡ true → ComesTo IsClean IsSound view old new (Err told) K → ComesTo IsClean IsSound view old new (Err told) M
  stops_as old new told stops comes = as_kind old new (Err told) (Err told) (λ blamed. blamed) (λ stop. stop) (λ db of n is moves k. inl stops) comes

  -- nothing is done
  pub stays : {T : Type 0} {M : Kind T} (machines : code.Machines D S) (result : Result T Refusal) → IfErr result (StopsFor (view machines).refused (view machines).refused) → ((db : Database) → IsOfCatalogue db → (n : ℕ) → InForce db n machines.desk.catalog → Stops result ⊎ M db result []) → ComesTo IsClean IsSound view machines machines result M
  stays {M = M} machines result blames so = record {
    clean = λ clean. clean;
    sound = λ clean sound. sound;
    counts = no_fewer (view machines).refused;
    catalogs = ends_same refl;
    blames = λ clean sound. blames;
    served = λ db whole past of law is clean sound served. same_on db law whole (view machines) (view machines) past served refl;
    moves = λ db of is clean sound fit. turned {T = Unit {0}} (λ done moves. moves ≡ []) (M db) db (view machines) (view machines) (Ok tt) result (λ none. absurd none) (λ moves none. subst (λ (ms : List Move). Stops result ⊎ M db result ms) (sym none) (so db of (view machines).table.version is)) (record { moves = []; made = refl; is = refl });
    lists = λ db whole past listed stands clean sound served. (
      list_turned {T = Unit {0}} (λ done moves. moves ≡ []) (M db) db whole (view machines) past (Ok tt) result (λ none. absurd none) (λ moves none. subst (λ (ms : List Move). Stops result ⊎ M db result ms) (sym none) (so db listed.base.of_catalogue machines.desk.volatile.version stands.here)) (none_made db whole (view machines) past (λ moves. moves ≡ []) refl served),
      stands,
    );
  }

  moves_then : {U : Type 0} (db : Database) (L M : Result U Refusal → List Move → Type 0) (K : List Move → Type 0) (before middle after : Machines) (result : Result U Refusal) → HasMade db before middle K → ((one more : List Move) → K one → L result more → M result (one ++ more)) → MakesMoves db middle after result L → MakesMoves db before after result M
  moves_then db L M K before middle after (Ok y) first join second = record { moves = first.moves ++ second.moves; made = made_then db first.moves second.moves before middle after first.made second.made; is = join first.moves second.moves first.is second.is }
  moves_then db L M K before middle after (Err told) first join (inl stops) = inl stops
  moves_then db L M K before middle after (Err told) first join (inr second) = inr (record { moves = first.moves ++ second.moves; made = made_then db first.moves second.moves before middle after first.made second.made; is = join first.moves second.moves first.is second.is })

  -- one call, and then another
  pub then_from : {T U : Type 0} {K : Kind T} {L M : Kind U} (old mid new : code.Machines D S) (first : Result T Refusal) (result : Result U Refusal) →
      (Stops first → ⊥) → ((db : Database) (one more : List Move) → K db first one → L db result more → M db result (one ++ more)) →
      ComesTo IsClean IsSound view old mid first K → ComesTo IsClean IsSound view mid new result L → ComesTo IsClean IsSound view old new result M
  then_from {K = K} {L = L} {M = M} old mid new first result goes join one two =
      let done : (db : Database) → MakesMoves db (view old) (view mid) first (K db) → HasMade db (view old) (view mid) (K db first) = λ db makes. made_of db (view old) (view mid) first (K db) goes makes in
      let here : (db : Database) → (view old).later ≡ [] → InForce db (view old).table.version old.desk.catalog → HasMade db (view old) (view mid) (K db first) → InForce db (view mid).table.version mid.desk.catalog =
      λ db single is made. in_force_on db (view old).table.version (view mid).table.version old.desk.catalog mid.desk.catalog (made_version db made.moves (view old) (view mid) made.made) (ends_last one.catalogs single).0 is in
      record {
        clean = λ clean. one.clean (two.clean clean);
        sound = λ clean sound. two.sound clean (one.sound (two.clean clean) sound);
        counts = no_fewer_then (view old).refused (view mid).refused (view new).refused one.counts two.counts;
        catalogs = ends_then one.catalogs two.catalogs;
        blames = λ clean sound. call_since result (view old).refused (view mid).refused (view new).refused one.counts (two.blames clean (one.sound (two.clean clean) sound));
        served = λ db whole past of law is clean sound served.
            then_on db law whole (view old) (view mid) (view new) past (one.served db whole past of law is (two.clean clean) sound served)
            (λ more so. two.served db whole more of law (here db served.fit.single is (done db (one.moves db of is (two.clean clean) sound served.fit))) clean (one.sound (two.clean clean) sound) so);
        moves = λ db of is clean sound fit.
            let made = done db (one.moves db of is (two.clean clean) sound fit) in
            moves_then db (L db) (M db) (K db first) (view old) (view mid) (view new) result made (join db)
            (two.moves db of (here db fit.single is made) clean (one.sound (two.clean clean) sound) (made_fit db made.moves (view old) (view mid) fit made.made));
        lists = λ db whole past listed stands clean sound served.
            let makes = one.lists db whole past listed stands (two.clean clean) sound served in
            let made = list_made_of db whole (view mid) past first (K db) goes makes.0 in
            let more = two.lists db whole (past ++ made.deeds) listed makes.1 clean (one.sound (two.clean clean) sound) made.served in
            (makes_then db whole (view mid) (view new) past result (K db first) (L db) (M db) (join db) made more.0, more.1);
      }

  -- so behind a call that went well
  pub then_too : {T U : Type 0} {K : Kind T} {L M : Kind U} (old mid new : code.Machines D S) (x : T) (result : Result U Refusal) → ((db : Database) (one more : List Move) → K db (Ok x) one → L db result more → M db result (one ++ more)) →
      ComesTo IsClean IsSound view old mid (Ok x) K → ComesTo IsClean IsSound view mid new result L → ComesTo IsClean IsSound view old new result M
  then_too old mid new x result join one two = then_from old mid new (Ok x) result (λ none. none) join one two

  -- and behind one that was refused
  pub then_back : {T U : Type 0} {K : Kind T} {L M : Kind U} (old mid new : code.Machines D S) (told : Refusal) (result : Result U Refusal) → is_stop told ≡ false → ((db : Database) (one more : List Move) → K db (Err told) one → L db result more → M db result (one ++ more)) →
      ComesTo IsClean IsSound view old mid (Err told) K → ComesTo IsClean IsSound view mid new result L → ComesTo IsClean IsSound view old new result M
  then_back {K = K} old mid new told result goes join one two = then_from old mid new (Err told) result (λ stop. clash stop goes) join one two

  -- its moves are of another kind too
  pub narrowed_of : {T : Type 0} {K M : Kind T} (old new : code.Machines D S) (result : Result T Refusal) → ((db : Database) → IsOfCatalogue db → (n : ℕ) → InForce db n old.desk.catalog → (moves : List Move) → K db result moves → M db result moves) →
      ComesTo IsClean IsSound view old new result K → ComesTo IsClean IsSound view old new result M
  narrowed_of old new result so comes = as_kind old new result result (λ blamed. blamed) (λ stop. stop) (λ db of n is moves k. inr (so db of n is moves k)) comes

  pub narrowed : {T : Type 0} {K M : Kind T} (old new : code.Machines D S) (result : Result T Refusal) → ((db : Database) (moves : List Move) → K db result moves → M db result moves) → ComesTo IsClean IsSound view old new result K → ComesTo IsClean IsSound view old new result M
  narrowed old new result so comes = narrowed_of old new result (λ db of n is. so db) comes

  -- a rollback is refused too, and the transaction left
  pub left_behind : {T U : Type 0} (txn : Txn) (move : T → Move) (old new : code.Machines D S) (other refusal : Refusal) → is_stop other ≡ false → is_stop refusal ≡ false → ComesTo IsClean IsSound view old new (Err other) (λ db. IsOne move (call.Rollback txn)) →
      ComesTo IsClean IsSound view old new (Err refusal) (λ db. TakesBack {T = U} txn refusal)
  left_behind txn move old new other refusal goes stays_on comes = as_kind old new (Err other) (Err refusal) (λ blamed. goes_for_any (view old).refused (view new).refused refusal stays_on) (λ stop. clash stop goes)
      (λ db of n is moves k. inr (subst (IsTakenBack txn) (sym k) refl, refl)) comes

  -- a lone statement is a command
  pub lone_command : {T : Type 0} {items : T → List Notice} (old new : code.Machines D S) (result : Result T Refusal) (text : List ℕ) (current : Option Txn) (statement : Statement) → is_refragment statement ≡ false → current ≡ None → ComesTo IsClean IsSound view old new result (λ db done moves. IsLone text moves (heard_in items done)) →
      ComesTo IsClean IsSound view old new result (λ db done moves. IsTextOf db.schemas text (Run statement) → IsCommand db.schemas text current current moves (heard_in items done))
  lone_command old new result text current statement ordinary none comes = narrowed old new result (λ db moves lone spelled. is_lone statement spelled ordinary none none lone) comes

  -- a REFRAGMENT that is no statement of an open transaction finds no catalogue that comes next
  pub finds_none_next : {T : Type 0} {items : T → List Notice} (machines : code.Machines D S) (text : List ℕ) (current : Option Txn) (statement : Statement) → is_refragment statement ≡ true → current ≡ None →
      ComesTo IsClean IsSound view machines machines (Err told_as.NoNext) (λ db done moves. IsTextOf db.schemas text (Run statement) → IsCommand db.schemas text current current moves (heard_in items done))
  finds_none_next machines text current statement moves_rows none =
      let refragment = as_refragment statement moves_rows in
      stays machines (Err told_as.NoNext) tt (λ db of n is. inr (λ spelled. makes_none told_as.NoNext refl (has_no_next refragment.0 none (subst (λ (s : Statement). IsTextOf db.schemas text (Run s)) refragment.1 spelled) refl) refl refl))

  -- so where no catalogue comes later; where one does, it is a transaction of its own
  pub is_refragmented : {T : Type 0} {items : T → List Notice} (old new : code.Machines D S) (result : Result T Refusal) (text : List ℕ) (current : Option Txn) (statement : Statement) → is_refragment statement ≡ true → current ≡ None →
      (IsClean new → IsClean old) → (IsClean new → IsSound old → IsSound new) → NoFewer (view old).refused (view new).refused → KeepsCatalogs (λ machines. (view machines).later) old new → (IsClean new → IsSound old → IfErr result (StopsFor (view old).refused (view new).refused)) →
      ((view old).later ≡ [] → (result ≡ Err told_as.NoNext) × (new ≡ old)) → ((view old).later ≢ [] → OverLists IsClean IsSound view old new (λ db whole past. ListMakes db whole (view new) past result (λ done moves. IsRefragmented text moves (heard_in items done)))) →
      ComesTo IsClean IsSound view old new result (λ db done moves. IsTextOf db.schemas text (Run statement) → IsCommand db.schemas text current current moves (heard_in items done))
  is_refragmented {T = T} {items = items} old new result text current statement moves_rows none clean sound fewer catalogs blames single lists =
      let refragment = as_refragment statement moves_rows in
      let here = λ (last : (view old).later ≡ []). subst (λ (r : Result T Refusal). ComesTo IsClean IsSound view old new r (λ db done moves. IsTextOf db.schemas text (Run statement) → IsCommand db.schemas text current current moves (heard_in items done))) (sym (single last).0)
      (subst (λ (m : code.Machines D S). ComesTo IsClean IsSound view old m (Err told_as.NoNext) (λ db done moves. IsTextOf db.schemas text (Run statement) → IsCommand db.schemas text current current moves (heard_in items done))) (sym (single last).1) (finds_none_next {items = items} old text current statement moves_rows none)) in
      record {
        clean = clean;
        sound = sound;
        counts = fewer;
        catalogs = catalogs;
        blames = blames;
        served = λ db whole past of law is fresh firm served. (here served.fit.single).served db whole past of law is fresh firm served;
        moves = λ db of is fresh firm fit. (here fit.single).moves db of is fresh firm fit;
        lists = λ db whole past listed stands fresh firm served. ⊎_elim
            (λ last. (here last).lists db whole past listed stands fresh firm served)
            (λ more.
            let made = lists more db whole past listed stands fresh firm served in (
              makes_as db whole (view new) past result (λ done moves. IsRefragmented text moves (heard_in items done)) (λ done moves. IsTextOf db.schemas text (Run statement) → IsCommand db.schemas text current current moves (heard_in items done))
                  (λ moves so spelled. refragments refragment.0 (subst (λ (s : Statement). IsTextOf db.schemas text (Run s)) refragment.1 spelled) none none so) made.0,
              made.1,
            ))
            (none_or_some (view old).later);
      }

  -- a text is no command's
  pub unread : {T : Type 0} {items : T → List Notice} (machines : code.Machines D S) (told : Refusal) (text : List ℕ) (current : Option Txn) → ((db : Database) → IsOfCatalogue db → (n : ℕ) → InForce db n machines.desk.catalog → IsUnreadable db.schemas text told) → StopsFor (view machines).refused (view machines).refused told →
      ComesTo IsClean IsSound view machines machines (Err told) (λ db done moves. IsCommand db.schemas text current current moves (heard_in items done))
  unread machines told text current none blames = stays machines (Err told) blames (λ db of n is. ⊎_elim (λ memory. inl (is_memory told memory)) (λ no. inr (makes_none told refl (is_no_command no) refl refl)) (none db of n is))

-- a call of the client, by its clauses
module _ {D S : Type 0} (desk_is_clean : D → Type 0) (site_is_clean : S → Type 0) (desk_is_sound : D → Type 0) (site_is_sound : S → Type 0) (desk_kept : D → DeskContent) (site_kept : S → SiteContent) (desk_refused : D → ℕ) (site_refused : S → ℕ) where
  abbrev IsClean : code.Machines D S → Type 0
  IsClean = OfStores desk_is_clean site_is_clean

  abbrev IsSound : code.Machines D S → Type 0
  IsSound = OfStores desk_is_sound site_is_sound

  abbrev view : code.Machines D S → Machines
  view = counted desk_kept site_kept desk_refused site_refused

  one_move : {T : Type 0} (db : Database) (move : T → Move) (asked : calls.Call) (before after : Machines) (result : Result T Refusal) → IfOk result (λ x. Moves db (move x) before after) → IfErr result (IsTurnedDown db asked before after) → MakesMoves db before after result (IsOne move asked)
  one_move db move asked before after (Ok x) does none = record { moves = move x ∷ []; made = (after, does, refl); is = refl }
  one_move db move asked before after (Err told) none (inl stops) = inl stops
  one_move db move asked before after (Err told) none (inr refused) = inr (record { moves = Refuses asked told ∷ []; made = (after, refused, refl); is = refl })

  pub one_call : {T : Type 0} (move : T → Move) (asked : calls.Call) (old new : code.Machines D S) (result : Result T Refusal) → LeavesDatabase desk_is_clean site_is_clean desk_is_sound site_is_sound desk_refused site_refused old new →
      Blames IsClean IsSound (counts desk_refused site_refused) old new result → StaysServed IsClean IsSound view old new → OverDatabase IsClean IsSound view old new (λ db before after. IfOk result (λ x. Moves db (move x) before after)) →
      OverDatabase IsClean IsSound view old new (λ db before after. IfErr result (IsTurnedDown db asked before after)) →
      OverLists IsClean IsSound view old new (λ db whole past. ListMakes db whole (view new) past result (IsOne move asked)) → ComesTo IsClean IsSound view old new result (λ db. IsOne move asked)
  one_call move asked old new result leaves blames served ok denied lists = record {
    clean = leaves.clean;
    sound = leaves.sound;
    counts = leaves.counts;
    catalogs = leaves.catalogs;
    blames = blames;
    served = served;
    moves = λ db of is clean sound fit. one_move db move asked (view old) (view new) result (ok db of is clean sound fit) (denied db of is clean sound fit);
    lists = lists;
  }

  -- what it leaves
  pub leaves_of : {T : Type 0} {K : Kind T} (old new : code.Machines D S) (result : Result T Refusal) → ComesTo IsClean IsSound view old new result K → LeavesDatabase desk_is_clean site_is_clean desk_is_sound site_is_sound desk_refused site_refused old new
  leaves_of old new result comes = record { clean = comes.clean; sound = comes.sound; counts = comes.counts; catalogs = comes.catalogs }
