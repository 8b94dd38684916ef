-- Why the coordinator refuses a statement doesn't hang on the statement.
use Rattle.std.proofs.Common.{◌≡◌, ◌≢◌, refl, sym, ap, ◌∙◌, subst, ℕ, true, false, List, [], None, Result, Ok, Err, IfErr, ◌⊎◌, inl, inr, ⊎_elim}
use Rattle.std.specs.Option.{option_map}
use Rattle.meaning.specs.declared.statement.Statement.{Statement}
use Rattle.meaning.specs.declared.statement.Statement.TheVariants as statements
use Rattle.catalog.specs.declared.relation.SplitRelation.{SplitRelation}
use Rattle.meaning.specs.declared.schema.RelationSchema.{RelationSchema}
use Rattle.catalog.specs.Catalogue.{Catalogue}
use Rattle.catalog.specs.FragmentLeaf.{schemas_of}
use Rattle.catalog.specs.Relation.{catalogue_of}
use Rattle.store.specs.declared.name.Txn as names
use Rattle.protocol.specs.Desk.{Idle, Known, Reading, Row, Stage, State, Txn, Unknown, Voting, Writing, began_as, is_desk_within, refusal, refusal_at}
use Rattle.protocol.specs.Language.{Lang}
use Rattle.desk.specs.declared.refusal.Refusal.{Refusal}
use Rattle.desk.specs.declared.refusal.Refusal.TheVariants.{Full, Memory, NoNext, NotAlone}
use Rattle.desk.specs.Request.{WhyNotStated, refused_as, txn_in}
use Rattle.desk.proofs.Raised.{moving_is}
use Rattle.desk.specs.Database.{Database}
use Rattle.desk.specs.Does.{IsNoStatement, StatesPastLimits}
use Rattle.desk.specs.OfCatalogue.{InForce, first_in}
use Rattle.desk.specs.Refragmented.{FindsNoNext, IsNoRefragment}
use Rattle.desk.specs.State.{VolatileState, desk_of}
use Rattle.world.specs.declared.event.Call.TheVariants as call
use Rattle.world.specs.Refused.{IsRefused}

same_at : {L : Lang} (s other : L.Statement) (stage : Stage L) → refusal_at (State s) stage ≡ refusal_at (State other) stage
same_at s other Idle = refl
same_at s other (Reading r asks) = refl
same_at s other (Writing answer ws) = refl
same_at s other (Voting votes) = refl

same_refusal : {L : Lang} (s other : L.Statement) (txn : Txn L) → refusal (State s) txn ≡ refusal (State other) txn
same_refusal s other Unknown = refl
same_refusal s other (Known u) = same_at s other u.stage
same_refusal s other (Row voters acked) = refl

pub if_err : {T E : Type 0} {P Q : E → Type 0} (result : Result T E) → ((e : E) → P e → Q e) → IfErr result P → IfErr result Q
if_err (Ok x) to p = tt
if_err (Err e) to p = to e p

-- some statement
pub some : Statement
some = statements.Insert (record { into = []; row = [] })

-- why a statement is refused, as the coordinator's contract says it
abbrev Told : (db : Database) → VolatileState → names.Txn → List ℕ → List (List ℕ) × List SplitRelation → Statement → Refusal → Type 0
Told db table txn text catalog s told = (told ≡ Memory) ⊎ WhyNotStated db table txn s told
    ⊎ ((refusal (State (table.version, s)) (txn_in db table txn) ≡ None) × (IsNoStatement (schemas_of (catalogue_of catalog)) text told ⊎ (told ≡ Full)))

pub statement_refused : {T : Type 0} (db : Database) (later : List (List (List ℕ) × List SplitRelation)) (table : VolatileState) (txn : names.Txn) (text : List ℕ) (catalog : List (List ℕ) × List SplitRelation) → db.schemas ≡ schemas_of (catalogue_of catalog) → (result : Result T Refusal) →
    ((s : Statement) → IfErr result (Told db table txn text catalog s)) → (result ≡ Err Full → StatesPastLimits db table txn text) → IfErr result (λ told. (told ≡ Memory) ⊎ IsRefused db later table (call.State txn text) told)
statement_refused db later table txn text catalog is (Ok out) all past = tt
statement_refused {T} db later table txn text catalog is (Err told) all past = go (all some)
  where
    go : Told db table txn text catalog some told → (told ≡ Memory) ⊎ IsRefused db later table (call.State txn text) told
    go (inl memory) = inl memory
    go (inr (inl (inr moving))) = inr (inl (moving.1, moving_is db (table.standing txn) ∙ moving.0))
    go (inr (inl (inl refused))) = inr (inr (λ s. inl (ap (option_map refused_as) (same_refusal (table.version, s) (table.version, some) (txn_in db table txn)) ∙ refused)))
    go (inr (inr late)) = inr (inr (λ s. inr (
      same_refusal (table.version, s) (table.version, some) (txn_in db table txn) ∙ late.0,
      ⊎_elim
          (λ unread. inl (subst (λ (schemas : List RelationSchema). IsNoStatement schemas text told) (sym is) unread))
          (λ full. inr (full, past (ap Err full))) late.1,
    )))

-- why a REFRAGMENT is refused, as the coordinator's contract says it
pub refragment_refused : {T : Type 0} (db : Database) (later : List (List (List ℕ) × List SplitRelation)) (table : VolatileState) (catalog : List (List ℕ) × List SplitRelation) → InForce db table.version catalog → db.schemas ≡ schemas_of (db.catalogue table.version) → (text : List ℕ) (result : Result T Refusal) →
    IfErr result (λ told. (told ≡ Memory) ⊎ (told ≡ Full) ⊎ (told ≡ NotAlone) ⊎ (told ≡ NoNext) ⊎ IsNoRefragment (schemas_of (catalogue_of catalog)) text told) → (result ≡ Err NotAlone → table.txns ≢ []) →
    (result ≡ Err NoNext → FindsNoNext (catalogue_of catalog) (schemas_of (catalogue_of catalog)) (first_in later) text) → (result ≡ Err Full → is_desk_within (began_as true (desk_of db table)) ≡ false) →
    IfErr result (λ told. (told ≡ Memory) ⊎ IsRefused db later table (call.Refragment text) told)
refragment_refused db later table catalog is own text (Ok out) why alone none full = tt
refragment_refused db later table catalog is own text (Err told) why alone none full = go why
  where
    schemas : schemas_of (catalogue_of catalog) ≡ db.schemas
    schemas = sym (own ∙ ap schemas_of is)

    go : (told ≡ Memory) ⊎ (told ≡ Full) ⊎ (told ≡ NotAlone) ⊎ (told ≡ NoNext) ⊎ IsNoRefragment (schemas_of (catalogue_of catalog)) text told → (told ≡ Memory) ⊎ IsRefused db later table (call.Refragment text) told
    go (inl memory) = inl memory
    go (inr (inl past)) = inr (inr (inr (inl (past, full (ap Err past)))))
    go (inr (inr (inl beside))) = inr (inl (beside, alone (ap Err beside)))
    go (inr (inr (inr (inl last)))) = inr (inr (inl (last, subst (λ (ss : List RelationSchema). FindsNoNext (db.catalogue table.version) ss (first_in later) text) schemas (subst (λ (c : Catalogue). FindsNoNext c (schemas_of (catalogue_of catalog)) (first_in later) text) (sym is) (none (ap Err last))))))
    go (inr (inr (inr (inr unread)))) = inr (inr (inr (inr (subst (λ (ss : List RelationSchema). IsNoRefragment ss text told) schemas unread))))
