-- A transaction begins and states its one statement, by which a relation gets another split: both steps are the protocol's.
use Rattle.std.proofs.Common.{◌≡◌, refl, sym, ap, ◌∙◌, subst, ℕ, suc, ◌+◌, ◌^◌, ◌<◌, ◌≤◌, arith, true, List, [], ◌∷◌, ◌++◌, map, Some, cond}
use Rattle.std.specs.BTreeMap.{insert_entry, is_at as is_key}
use Rattle.std.specs.List.{filter_map}
use Rattle.std.specs.List.Sorted.{IsStrictlySortedBy}
use Rattle.std.specs.Map.{keys_of, set_value}
use Rattle.meaning.specs.declared.schema.RelationSchema.{RelationSchema}
use Rattle.meaning.specs.Statement.{IsStatementOf}
use Rattle.catalog.specs.Catalogue.{Catalogue}
use Rattle.catalog.specs.FragmentLeaf.{schemas_of}
use Rattle.desk.specs.OfCatalogue.{IsOfCatalogue}
use Rattle.meaning.specs.declared.statement.Refragment.{Refragment}
use Rattle.meaning.specs.declared.statement.Statement.TheVariants as statements
use Rattle.catalog.specs.Chain.{IsNext}
use Rattle.store.specs.declared.letter.Letter.{Letter}
use Rattle.store.specs.declared.name.Txn.{Txn}
use Rattle.store.specs.DeskContent.{DeskContent}
use Rattle.store.specs.Name.{txn_cmp}
use Rattle.protocol.specs.Desk as desk
use Rattle.protocol.specs.Letters.{txn_name}
use Rattle.protocol.specs.Serial.{AllExplained}
use Rattle.protocol.proofs.Basics.{if_true}
use Rattle.desk.specs.declared.reply.Notice.{Notice}
use Rattle.desk.specs.declared.reply.Reply.TheVariants as reply
use Rattle.desk.specs.declared.statement.Progress.{Progress}
use Rattle.desk.specs.declared.transaction.TxnState.TheVariants as standing
use Rattle.desk.specs.declared.transaction.Stage.TheVariants as stage
use Rattle.desk.specs.declared.transaction.Undecided.{Undecided}
use Rattle.desk.specs.declared.participant.Participant.{Participant}
use Rattle.desk.specs.Begun.{first_of, next_of, nowhere_yet}
use Rattle.desk.specs.Database.{Database, IsStated, language}
use Rattle.desk.specs.Does.{Does}
use Rattle.desk.specs.Refragmented.{Refragments, first_turn}
use Rattle.desk.specs.Request.{notices}
use Rattle.desk.specs.Send.{AreShort}
use Rattle.desk.specs.State.{Fits, Steps, VolatileState, desk_of, notice_of, volatile_from}
use Rattle.desk.specs.Transaction.{txn_of, undecided_of}
use Rattle.desk.specs.Participants.{participant_in, sites_of}
use Rattle.desk.specs.Transition.{AreParticipants, told}
use Rattle.reader.specs.Printable.{AreDistinct}
use Rattle.desk.proofs.Beginning.{began_state, fits_begun, fresh_is, its_sites, none_visited}
use Rattle.desk.proofs.Making.{goes_on}
use Rattle.desk.proofs.Raised.{TurnKeeps, request_keeps}
use Rattle.desk.proofs.Settled.{is_within}
use Rattle.desk.proofs.Short.{of_short}
use Rattle.desk.proofs.Txns.{Entries, at_txn, txn_self}

-- a new transaction, as its participants and its stage have it
abbrev new_of : List (List ℕ) → Undecided
new_of sites = record { participants = nowhere_yet sites; stage = stage.Idle; moves = true }

single_sorted : (k : Txn) → IsStrictlySortedBy txn_cmp (k ∷ [])
unfolding IsStrictlySortedBy
single_sorted k = (tt, tt)

module _ (db : Database) (kept : DeskContent) (undecided life number version : ℕ) (fits : Fits db kept (volatile_from [] undecided life number version)) (sites : List (List ℕ)) (those : db.sites ≡ sites) (refragment : Refragment)
    (is_next : IsNext (db.catalogue version) (db.catalogue (suc version)) refragment.relation.name) (few : undecided + 1 ≤ 256) (low : number + 2 ≤ 2 ^ 63) where
  abbrev before : VolatileState
  before = volatile_from [] undecided life number version

  abbrev k : Txn
  k = next_of before

  -- after the first step
  abbrev entries : Entries
  entries = (k, standing.Undecided (new_of sites)) ∷ []

  abbrev begun : VolatileState
  begun = volatile_from entries (undecided + 1) life (number + 1) version

  abbrev turn : desk.Choice (language db) → desk.Transition (language db)
  turn choice = desk.on_request (txn_name k) choice (desk.State (version, statements.Refragment refragment)) (desk.Known (undecided_of db (new_of sites)))

  fits_now : Fits db kept begun
  fits_now = fits_begun db kept [] undecided life number version fits sites those true (λ j. refl) (λ moves. ((λ j. refl), refragment.relation.name, is_next)) few low

  state_now : desk_of db begun ≡ desk.began_as true (desk_of db before)
  state_now = began_state db kept [] undecided life number version fits sites those true

  here : at_txn entries k ≡ Some (standing.Undecided (new_of sites))
  here = if_true _ _ _ (txn_self k)

  -- what the protocol knows of a new transaction
  fresh : undecided_of db (new_of sites) ≡ desk.fresh_as true
  fresh = known_one (fresh_is db true sites)
    where
      known_one : {u v : desk.Undecided (language db)} → desk.Known u ≡ desk.Known v → u ≡ v
      known_one e = cc

  turn_is : (choice : desk.Choice (language db)) → turn choice ≡ first_turn db before refragment choice
  turn_is choice = ap (λ u. desk.on_state {L = language db} (txn_name k) u (version, statements.Refragment refragment) choice u.stage) fresh

  module _ (new : Undecided) (step : Progress) (does : Does db version k new step turn) (short : AreShort new.participants) (table : VolatileState) (table_is : table ≡ volatile_from ((k, standing.Undecided new) ∷ []) (undecided + 1) life (number + 1) version)
      (written : List Letter) (heard : List Notice) (letters : written ≡ step.letters.items) (replies : heard ≡ notices k (Some reply.Begun) ++ step.replies.items) where
    abbrev choice : desk.Choice (language db)
    choice = does.choice

    gone : table ≡ volatile_from (set_value (is_key (txn_cmp k)) entries (standing.Undecided new)) (undecided + 1) life (number + 1) version
    gone = table_is ∙ ap (λ b. volatile_from (cond b ((k, standing.Undecided new) ∷ []) entries) (undecided + 1) life (number + 1) version) (sym (txn_self k))

    steps : Steps db begun kept table k (turn choice) written step.replies.items
    steps = goes_on db kept entries (undecided + 1) life (number + 1) version (single_sorted k) fits_now k (new_of sites) new here (turn choice) step.letters does.step.reply does.step.stands does.step.letters does.step.replies
        (subst (λ o. TurnKeeps (language db) (txn_name k) (txn_of db o) (turn choice)) (sym here) (request_keeps (txn_name k) choice (desk.State (version, statements.Refragment refragment)) (desk.Known (undecided_of db (new_of sites)))))
        does.within (ap desk.is_short_txn (sym does.step.stands) ∙ of_short new.participants short db.sites) table gone written step.replies.items letters does.step.heard

    pub refragments : Refragments db before kept table refragment written heard
    refragments = record {
      alone = refl;
      next = is_next;
      choice = choice;
      fits = steps.fits;
      within = steps.within;
      begun = ap desk.is_desk_within (sym state_now) ∙ is_within db kept begun fits_now;
      state = steps.state ∙ (λ i. desk.desk_after (state_now i) (txn_name k) (turn_is choice i).txn);
      version = ap (λ t. t.version) table_is;
      letters = steps.letters ∙ ap (λ t. t.letters) (turn_is choice);
      replies = ap (map notice_of) replies ∙ ap (λ l. (txn_name k, reply.Begun) ∷ l) (steps.replies ∙ ap (λ t. filter_map (told db) t.deeds) (turn_is choice));
      explained = subst (λ (t : desk.Transition (language db)). AllExplained t.deeds) (turn_is choice) does.explained;
      placed = does.placed;
    }

-- so where all of it goes by other names
pub refragments_by : (db : Database) (kept : DeskContent) (es : Entries) (undecided life number version : ℕ) → es ≡ [] → Fits db kept (volatile_from es undecided life number version) → (sites : List (List ℕ)) → db.sites ≡ sites → (refragment : Refragment) →
    IsNext (db.catalogue version) (db.catalogue (suc version)) refragment.relation.name → undecided + 1 ≤ 256 → number + 2 ≤ 2 ^ 63 → (participants : List Participant) → participants ≡ nowhere_yet sites → (old new : Undecided) → standing.Undecided old ≡ first_of true participants →
    (first txn : Txn) → first ≡ next_of (volatile_from es undecided life number version) → txn ≡ next_of (volatile_from es undecided life number version) → (step : Progress) →
    Does db version first new step (λ choice. desk.on_request (txn_name first) choice (desk.State (version, statements.Refragment refragment)) (desk.Known (undecided_of db old))) → AreShort new.participants →
    (table : VolatileState) → table ≡ volatile_from (insert_entry txn_cmp es (next_of (volatile_from es undecided life number version)) (standing.Undecided new)) (undecided + 1) life (number + 1) version →
    (written : List Letter) (heard : List Notice) → written ≡ step.letters.items → heard ≡ notices txn (Some reply.Begun) ++ step.replies.items → Refragments db (volatile_from es undecided life number version) kept table refragment written heard
refragments_by db kept es undecided life number version empty fits sites those refragment is_next few low participants participants_are old new begun first txn first_is txn_is step does short table table_is written heard letters replies =
    let k : Txn = record { life = life; number = suc number } in
    let stood : old ≡ new_of sites = undecided_is (begun ∙ ap (first_of true) participants_are) in
    let turn : Txn → Undecided → desk.Choice (language db) → desk.Transition (language db) = λ t u choice. desk.on_request (txn_name t) choice (desk.State (version, statements.Refragment refragment)) (desk.Known (undecided_of db u)) in
    let done : Does db version k new step (turn k (new_of sites)) = subst (λ t. Does db version t new step (turn t (new_of sites))) first_is (subst (λ u. Does db version first new step (turn first u)) stood does) in
    subst (λ l. Refragments db (volatile_from l undecided life number version) kept table refragment written heard) (sym empty)
    (refragments db kept undecided life number version (subst (λ l. Fits db kept (volatile_from l undecided life number version)) empty fits) sites those refragment is_next few low new step done short table
    (table_is ∙ ap (λ l. volatile_from (insert_entry txn_cmp l k (standing.Undecided new)) (undecided + 1) life (number + 1) version) empty) written heard letters (replies ∙ ap (λ t. notices t (Some reply.Begun) ++ step.replies.items) txn_is))
  where
    undecided_is : {u v : Undecided} → standing.Undecided u ≡ standing.Undecided v → u ≡ v
    undecided_is e = cc

-- ---- a transaction that has just begun
pub begun_is : (u : Undecided) (participants : List Participant) (sites : List (List ℕ)) → standing.Undecided u ≡ first_of true participants → participants ≡ nowhere_yet sites → u ≡ new_of sites
begun_is u participants sites is are = undecided_is (is ∙ ap (first_of true) are)
  where
    undecided_is : {v w : Undecided} → standing.Undecided v ≡ standing.Undecided w → v ≡ w
    undecided_is e = cc

pub begun_idle : (u : Undecided) (sites : List (List ℕ)) → u ≡ new_of sites → u.stage ≡ stage.Idle
begun_idle u sites is = ap (λ v. v.stage) is

pub begun_are : (db : Database) (u : Undecided) (sites : List (List ℕ)) → u ≡ new_of sites → db.sites ≡ sites → AreDistinct db.sites → AreParticipants db u.participants
begun_are db u sites is those distinct =
    let same : sites_of u.participants ≡ db.sites = ap (λ v. sites_of v.participants) is ∙ its_sites sites ∙ sym those in
    record { sites = same; distinct = subst AreDistinct (sym same) distinct }

pub begun_short : (u : Undecided) (sites : List (List ℕ)) → u ≡ new_of sites → AreShort u.participants
begun_short u sites is = λ site. subst (λ (s : Participant). s.sent < 2 ^ 63) (sym (ap (λ v. participant_in site v.participants) is ∙ none_visited site sites)) (omega arith)

-- the statement is one of the database
pub stated_by : (db : Database) → IsOfCatalogue db → (n : ℕ) (catalogue : Catalogue) → db.catalogue n ≡ catalogue → (refragment : Refragment) → IsStatementOf (schemas_of catalogue) (statements.Refragment refragment) → IsNext (db.catalogue n) (db.catalogue (suc n)) refragment.relation.name → IsStated db n (statements.Refragment refragment)
stated_by db of n catalogue same refragment is next = record {
  of_schemas = subst (λ (ss : List RelationSchema). IsStatementOf ss (statements.Refragment refragment)) (sym (of.schemas n ∙ ap schemas_of same)) is;
  next = λ other e. subst (λ (r : Refragment). IsNext (db.catalogue n) (db.catalogue (suc n)) r.relation.name) (refragment_is e) next;
}
  where
    refragment_is : {a b : Refragment} → statements.Refragment a ≡ statements.Refragment b → a ≡ b
    refragment_is e = cc

pub no_keys : (entries : Entries) → keys_of entries ≡ [] → entries ≡ []
no_keys [] e = refl
no_keys (e ∷ entries) none = cc
