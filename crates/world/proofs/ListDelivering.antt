-- Steps of one client's machines over a list of catalogues lead from reached worlds to reached worlds.
use Rattle.std.proofs.Common.{◌≡◌, refl, sym, ap, ap₂, ◌∙◌, subst, ℕ, nat_eq, Bool, true, List, [], ◌∷◌, ◌++◌, append_assoc, map, Result, Ok, Err, IfOk, OnErr, OnOk}
use Rattle.std.specs.Result.{IsErrAnd}
use Rattle.std.proofs.lemmas.List.{append-nil, map-append}
use Rattle.std.proofs.lemmas.List.Elements.{filter_map-append}
use Rattle.std.proofs.lemmas.Grind.{flat_map-append}
use Rattle.std.specs.Cmp.Lexicographic.{pointwise}
use Rattle.std.specs.List.{filter_map, list_any}
use Rattle.meaning.specs.Whole.{Relations}
use Rattle.meaning.specs.declared.statement.Statement.TheVariants as kinds
use Rattle.catalog.specs.Catalogue.{Catalogue}
use Rattle.store.specs.declared.letter.Letter as letters
use Rattle.store.specs.declared.name.Txn as names
use Rattle.protocol.specs.Accepted.{stated_by}
use Rattle.protocol.specs.Client.{IsReached, ReachedLaw, next}
use Rattle.protocol.specs.Desk.{Choice, Commit_call, Deed, Give_up, Request, Rollback, State}
use Rattle.protocol.specs.Letters.{txn_name}
use Rattle.protocol.specs.Local.{local}
use Rattle.protocol.specs.Serial.{AllExplained, Explained, phased_of}
use Rattle.protocol.specs.World.{World, called, may_ask, refragments}
use Rattle.protocol.proofs.ForgottenLetters.{reached_law}
use Rattle.protocol.proofs.ListLaw.{list_lawful, serial_list}
use Rattle.desk.specs.declared.reply.Notice.{Notice}
use Rattle.desk.specs.Database.{Database, language, sent, statements}
use Rattle.desk.specs.OfCatalogue.{IsOfCatalogue}
use Rattle.desk.specs.Request.{txn_in}
use Rattle.desk.specs.State.{notice_of}
use Rattle.desk.specs.Transition.{told}
use Rattle.world.specs.Listed.{IsListed, ListAsked, ListBegun, ListCame, ListMoved}
use Rattle.world.specs.ListServed.{IsListServedOn, IsListWaiting, ListGoes, ListServedIsSerial}
use Rattle.world.specs.Machines.{Machines, world_of}
use Rattle.world.proofs.Running.{all_both}
use Rattle.world.proofs.Shown.{IsSilent, give_up_silent}
use Rattle.world.proofs.Told.{comes_silent}

-- ---- whatever a call answers
pub both_ways : {T E R : Type 0} (P : T → Type 0) (Q : Type 0) (result : Result T E) → IfOk result (λ x. P x × R) → OnErr result (Q × R) → IfOk result P × OnErr result Q × R
both_ways P Q (Ok x) went failed = (went.0, tt, went.1)
both_ways P Q (Err e) went failed = (tt, failed.0, failed.1)

pub only_fails : {T E Q R : Type 0} (P : T → Type 0) (W : E → Type 0) (result : Result T E) → IsErrAnd result W → Q → R → IfOk result P × OnErr result Q × R
only_fails P W (Ok x) none q r = absurd none
only_fails P W (Err e) is q r = (tt, q, r)

pub either_way : {T E P Q R A B : Type 0} (result : Result T E) → (A → B → P) → Q → R → OnOk result A → OnOk result B → IfOk result (λ x. P) × OnErr result Q × R
either_way (Ok x) went failed r a b = (went a b, tt, r)
either_way (Err e) went failed r a b = (tt, failed, r)

-- the laws of one client alone
pub list_reached : (db : Database) → IsListed db → ReachedLaw (language db)
list_reached db listed = reached_law (list_lawful local (statements db) listed.lawful)

pub list_served_serial : (db : Database) → IsListed db → ListServedIsSerial db
list_served_serial db listed whole machines past served =
    let opened : (language db).Whole = (served.version, whole) in
    let w = world_of db machines [] past in
    serial_list local (statements db) opened w ((list_reached db listed).serial opened w served.reached)

module _ (db : Database) (whole : Relations) where
  -- machines that are the same wait as they did
  pub waits_same : (before after : Machines) (waiting : List letters.Letter) (past : List (Deed (language db))) → after ≡ before → IsListWaiting db whole before waiting past → IsListWaiting db whole after waiting past
  waits_same before after waiting past same waits = subst (λ (m : Machines). IsListWaiting db whole m waiting past) (sym same) waits

  -- nothing is done
  pub nothing_goes : (machines : Machines) (waiting : List letters.Letter) (past : List (Deed (language db))) (heard : List Notice) → IsListWaiting db whole machines waiting past → ListGoes db whole machines waiting past heard heard
  nothing_goes machines waiting past heard waits = record {
    deeds = [];
    served = subst (IsListWaiting db whole machines waiting) (sym (append-nil past)) waits;
    unphased = refl;
    unstated = refl;
    replies = sym (append-nil (map notice_of heard));
  }

  -- letters come, and then others
  pub goes_then : (first second : Machines) (waited left : List letters.Letter) (past : List (Deed (language db))) (was mid now : List Notice) → (one : ListGoes db whole first waited past was mid) → ListGoes db whole second left (past ++ one.deeds) mid now → ListGoes db whole second left past was now
  goes_then first second waited left past was mid now one other = record {
    deeds = one.deeds ++ other.deeds;
    served = subst (IsListWaiting db whole second left) (append_assoc past one.deeds other.deeds) other.served;
    unphased = flat_map-append phased_of one.deeds other.deeds ∙ ap₂ (λ a b. a ++ b) one.unphased other.unphased;
    unstated = flat_map-append stated_by one.deeds other.deeds ∙ ap₂ (λ a b. a ++ b) one.unstated other.unstated;
    replies = other.replies
        ∙ ap (λ heard. heard ++ filter_map (told db) other.deeds) one.replies
        ∙ append_assoc (map notice_of was) (filter_map (told db) one.deeds) (filter_map (told db) other.deeds)
        ∙ ap (λ more. map notice_of was ++ more) (sym (filter_map-append (told db) one.deeds other.deeds));
  }

  -- more was done before
  pub on_then : (machines : Machines) (past deeds : List (Deed (language db))) → IsListServedOn db whole machines (past ++ deeds) → IsListServedOn db whole machines past
  on_then machines past deeds on = record { deeds = deeds ++ on.deeds; served = subst (IsListWaiting db whole machines []) (append_assoc past deeds on.deeds) on.served }

  -- what was heard before goes before
  pub goes_as : (machines : Machines) (waiting : List letters.Letter) (past : List (Deed (language db))) (was now all : List Notice) → all ≡ was ++ now → ListGoes db whole machines waiting past [] now → ListGoes db whole machines waiting past was all
  goes_as machines waiting past was now all is goes = record {
    deeds = goes.deeds;
    served = goes.served;
    unphased = goes.unphased;
    unstated = goes.unstated;
    replies = ap (map notice_of) is ∙ map-append notice_of was now ∙ ap (λ more. map notice_of was ++ more) goes.replies;
  }

  module _ (listed : IsListed db) where
    law : ReachedLaw (language db)
    law = list_reached db listed

    -- letters that wait are let go
    pub let_go : (machines : Machines) (waiting : List letters.Letter) (past : List (Deed (language db))) → IsListWaiting db whole machines waiting past → IsListServedOn db whole machines past
    let_go machines waiting past waits =
        let opened : (language db).Whole = (waits.version, whole) in
        record {
          deeds = [];
          served = subst (IsListWaiting db whole machines []) (sym (append-nil past)) (record { version = waits.version; reached = law.silenced opened (world_of db machines (map (sent db) waiting) past) waits.reached; fit = waits.fit });
        }

    pub goes_let_go : (machines : Machines) (waiting : List letters.Letter) (past : List (Deed (language db))) (was now : List Notice) → ListGoes db whole machines waiting past was now → IsListServedOn db whole machines past
    goes_let_go machines waiting past was now goes = on_then machines past goes.deeds (let_go machines waiting (past ++ goes.deeds) goes.served)

    -- so that none waits
    pub goes_silent : (machines : Machines) (waiting : List letters.Letter) (past : List (Deed (language db))) (was now : List Notice) → ListGoes db whole machines waiting past was now → ListGoes db whole machines [] past was now
    goes_silent machines waiting past was now goes =
        let opened : (language db).Whole = (goes.served.version, whole) in
        record {
          deeds = goes.deeds;
          served = record { version = goes.served.version; reached = law.silenced opened (world_of db machines (map (sent db) waiting) (past ++ goes.deeds)) goes.served.reached; fit = goes.served.fit };
          unphased = goes.unphased;
          unstated = goes.unstated;
          replies = goes.replies;
        }

    -- the first letter that waits is let go
    pub lost_first : (machines : Machines) (letter : letters.Letter) (rest : List letters.Letter) (past : List (Deed (language db))) → IsListWaiting db whole machines (letter ∷ rest) past → IsListWaiting db whole machines rest past
    lost_first machines letter rest past waits =
        let opened : (language db).Whole = (waits.version, whole) in
        record { version = waits.version; reached = law.lost opened (world_of db machines (map (sent db) (letter ∷ rest)) past) waits.reached; fit = waits.fit }

    -- deeds of a step, after others, are explained
    all_after : (past deeds : List (Deed (language db))) (v w : World (language db)) → v ≡ w → w.past ≡ past ++ deeds → AllExplained past → AllExplained deeds → AllExplained v.past
    all_after past deeds v w is same before after = subst AllExplained (sym (ap (λ (u : World (language db)). u.past) is ∙ same)) (all_both Explained past deeds before after)

    -- a client asks for something, whatever letters wait
    pub asked_waits : (txn : names.Txn) (choice : Choice (language db)) (request : Request (language db)) (before after : Machines) (waiting out : List letters.Letter) (notices : List Notice) (past : List (Deed (language db))) → IsListWaiting db whole before waiting past →
        (asked : ListAsked db txn choice request before after out notices) → IsListWaiting db whole after (waiting ++ out) (past ++ asked.leads.deeds)
    asked_waits txn choice request before after waiting out notices past waits asked =
        let opened : (language db).Whole = (waits.version, whole) in
        let w = world_of db before (map (sent db) waiting) past in
        let is : called w (txn_name txn) choice request ≡ world_of db after (map (sent db) (waiting ++ out)) (past ++ asked.leads.deeds) = asked.leads.is (map (sent db) waiting) past ∙ ap (λ all. world_of db after all (past ++ asked.leads.deeds)) (sym (map-append (sent db) waiting out)) in
        record {
          version = waits.version;
          reached = subst (IsReached opened) is (law.asked opened w (txn_name txn) choice request waits.reached (same_may request asked.may) (all_after past asked.leads.deeds (called w (txn_name txn) choice request) (world_of db after (map (sent db) (waiting ++ out)) (past ++ asked.leads.deeds)) is refl waits.reached.explained asked.leads.explained));
          fit = asked.leads.fit;
        }
      where
        same_may : (request : Request (language db)) → may_ask (world_of db before [] []) (txn_name txn) request ≡ true → may_ask (world_of db before (map (sent db) waiting) past) (txn_name txn) request ≡ true
        same_may (State s) may = may
        same_may Commit_call may = may
        same_may Rollback may = may
        same_may Give_up may = may

    -- a transaction begins, and one that gives a relation another split
    pub begun_waits : (before after : Machines) (out : List letters.Letter) (notices : List Notice) (past : List (Deed (language db))) → IsListWaiting db whole before [] past → (begun : ListBegun db before after out notices) → IsListWaiting db whole after out (past ++ begun.leads.deeds)
    begun_waits before after out notices past waits begun =
        let opened : (language db).Whole = (waits.version, whole) in
        let w = world_of db before [] past in
        record { version = waits.version; reached = subst (IsReached opened) (begun.leads.is [] past) (law.begun opened w waits.reached begun.may); fit = begun.leads.fit }

    pub moved_waits : (text : List ℕ) (before after : Machines) (out : List letters.Letter) (notices : List Notice) (past : List (Deed (language db))) → IsListWaiting db whole before [] past → (moved : ListMoved db text before after out notices) → IsListWaiting db whole after out (past ++ moved.leads.deeds)
    moved_waits text before after out notices past waits moved =
        let opened : (language db).Whole = (waits.version, whole) in
        let w = world_of db before [] past in
        let s : (language db).Statement = (before.table.version, kinds.Refragment moved.refragment) in
        let there = world_of db after (map (sent db) out) (past ++ moved.leads.deeds) in
        let is : refragments w s moved.choice ≡ there = moved.leads.is [] past in
        record {
          version = waits.version;
          reached = subst (IsReached opened) is (law.refragmented opened w s moved.choice waits.reached moved.may (all_after past moved.leads.deeds (refragments w s moved.choice) there is refl waits.reached.explained moved.leads.explained));
          fit = moved.leads.fit;
        }

    -- the first letter that waits comes
    pub came_goes : (letter : letters.Letter) (kept : Bool) (before after : Machines) (rest out : List letters.Letter) (notices : List Notice) (past : List (Deed (language db))) → IsListWaiting db whole before (letter ∷ rest) past → ListCame db letter kept before after out notices →
        ListGoes db whole after (rest ++ out) past [] notices
    came_goes letter kept before after rest out notices past waits came =
        let opened : (language db).Whole = (waits.version, whole) in
        let w = world_of db before (map (sent db) (letter ∷ rest)) past in
        let there = world_of db after (map (sent db) (rest ++ out)) (past ++ came.leads.deeds) in
        let is : next w kept came.choice ≡ there = came.leads.is (map (sent db) rest) past ∙ ap (λ all. world_of db after all (past ++ came.leads.deeds)) (sym (map-append (sent db) rest out)) in
        let silent : IsSilent came.leads.deeds = subst IsSilent (ap (λ (v : World (language db)). v.past) (came.leads.is [] [])) (comes_silent (world_of db before [] []) kept came.choice (sent db letter) refl) in
        record {
          deeds = came.leads.deeds;
          served = record {
            version = waits.version;
            reached = subst (IsReached opened) is (law.came opened w kept came.choice waits.reached (all_after past came.leads.deeds (next w kept came.choice) there is refl waits.reached.explained came.leads.explained));
            fit = came.leads.fit;
          };
          unphased = silent.0;
          unstated = silent.1;
          replies = came.leads.replies;
        }

    -- it is turned away, and its transaction given up
    pub turned_goes : (letter : letters.Letter) (choice : Choice (language db)) (before mid after : Machines) (rest out : List letters.Letter) (notices : List Notice) (past : List (Deed (language db))) → mid ≡ before → IsListWaiting db whole before (letter ∷ rest) past →
        ListAsked db letter.txn choice Give_up mid after out notices → ListGoes db whole after (rest ++ out) past [] notices
    turned_goes letter choice before mid after rest out notices past same waits asked =
        let silent : IsSilent asked.leads.deeds = subst IsSilent (sym asked.all) (give_up_silent (txn_name letter.txn) choice (txn_in db mid.table letter.txn)) in
        record {
          deeds = asked.leads.deeds;
          served = asked_waits letter.txn choice Give_up mid after rest out notices past (waits_same before mid rest past same (lost_first before letter rest past waits)) asked;
          unphased = silent.0;
          unstated = silent.1;
          replies = asked.leads.replies;
        }

    -- it is passed over
    pub passed_goes : (letter : letters.Letter) (before after : Machines) (rest out : List letters.Letter) (notices : List Notice) (past : List (Deed (language db))) → after ≡ before → out ≡ [] → notices ≡ [] → IsListWaiting db whole before (letter ∷ rest) past →
        ListGoes db whole after (rest ++ out) past [] notices
    passed_goes letter before after rest out notices past same none silent waits =
        subst (λ (put : List letters.Letter). ListGoes db whole after (rest ++ put) past [] notices) (sym none)
        (subst (λ (left : List letters.Letter). ListGoes db whole after left past [] notices) (sym (append-nil rest))
        (subst (λ (heard : List Notice). ListGoes db whole after rest past [] heard) (sym silent)
        (nothing_goes after rest past [] (waits_same before after rest past same (lost_first before letter rest past waits)))))

-- a site of the catalogue in force is one of the database
pub of_site_of : (db : Database) (n : ℕ) (catalogue : Catalogue) (site : List ℕ) → IsOfCatalogue db → db.catalogue n ≡ catalogue → list_any (λ other. pointwise nat_eq other site) catalogue.sites ≡ true → list_any (λ other. pointwise nat_eq other site) db.sites ≡ true
of_site_of db n catalogue site of is there = subst (λ (sites : List (List ℕ)). list_any (λ other. pointwise nat_eq other site) sites ≡ true) (sym (of.sites n ∙ ap (λ (x : Catalogue). x.sites) is)) there
