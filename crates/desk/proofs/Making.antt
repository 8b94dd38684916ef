-- A step is made: it is the protocol's step of the whole state.
use Rattle.std.proofs.Common.{◌≡◌, refl, sym, ap, ◌∙◌, subst, ℕ, suc, ◌+◌, ◌-◌, ◌^◌, ◌<◌, ◌⊎◌, Bool, true, false, not, ◌&&◌, List, map, Option, Some, None, is_some, if◌then◌else◌, ⊎_elim, filter, inl, Vec, Global}
use Rattle.std.specs.List.Sorted.{IsStrictlySortedBy}
use Rattle.std.specs.BTreeMap.{is_at as is_key}
use Rattle.std.specs.List.{filter_map}
use Rattle.std.specs.Map.{keys_of, set_value}
use Rattle.reader.specs.Printable.{AreDistinct}
use Rattle.store.specs.declared.letter.Letter.{Letter}
use Rattle.store.specs.declared.name.Txn.{Txn}
use Rattle.store.specs.declared.reply.Reply.{Reply as Said}
use Rattle.store.specs.DeskContent.{DeskContent, is_txn}
use Rattle.store.specs.Name.{txn_cmp}
use Rattle.protocol.specs.Desk as desk
use Rattle.protocol.specs.Language.{Name, put, same}
use Rattle.protocol.specs.Letters.{txn_name}
use Rattle.desk.specs.declared.volatile.Volatile.{Volatile}
use Rattle.desk.specs.declared.reply.Notice.{Notice}
use Rattle.desk.specs.declared.reply.Reply.{Reply}
use Rattle.desk.specs.declared.transaction.TxnState.{TxnState}
use Rattle.desk.specs.declared.transaction.TxnState.TheVariants as standing
use Rattle.desk.specs.declared.transition.After.{After}
use Rattle.desk.specs.Planned.{IsPlanned}
use Rattle.desk.specs.Participants.{sites_of}
use Rattle.desk.specs.Stepped.{IsAtHome}
use Rattle.desk.specs.declared.transition.After.TheVariants.{Becomes, Ends, Stays}
use Rattle.desk.specs.declared.transition.Transition.{Transition}
use Rattle.desk.specs.declared.transaction.Undecided.{Undecided}
use Rattle.protocol.proofs.Basics.{by_test, clash, if_false, some_is}
use Rattle.desk.specs.Request.{IsAt, notices, open_in}
use Rattle.desk.specs.Database.{Database, language, replied, sent}
use Rattle.desk.specs.Transaction.{txn_of, undecided_of}
use Rattle.desk.specs.State.{Fits, IsIn, IsInAfter, Steps, VolatileState, closes, desk_of, is_open, notice_of, settled, volatile_from, volatile_of, txn_at}
use Rattle.desk.specs.Receive.{may_send}
use Rattle.desk.specs.Transition.{AtSites, IsTransition, after_of, is_moving, raises, told, told_to}
use Rattle.protocol.specs.World.{version_after}
use Rattle.desk.proofs.Raised.{TurnKeeps, letter_keeps, moving_is, moving_open, never, open_quiet, raised_ends, raised_is, request_keeps}
use Rattle.desk.specs.Acknowledge.{Keeps, kept_voters}
use Rattle.desk.proofs.Acknowledged.{keeps_same, txn_is, unchanged}
use Rattle.desk.proofs.Limits.{short_came, shut_came, shut_request}
use Rattle.desk.proofs.Settled.{fits_after, is_within, open_is, state_is, unknown_is}
use Rattle.desk.proofs.Txns.{Entries, at_txn, filter_all, filter_names, same_txn, txn_sym}

-- who hears the reply
pub told_is : (txn : Txn) (reply : Option Reply) → map notice_of (notices txn reply) ≡ told_to (txn_name txn) reply
told_is txn None = refl
told_is txn (Some reply) = refl

-- an undecided transaction has to do with the sites of the database
pub is_at : (db : Database) (kept : DeskContent) (table : VolatileState) → AreDistinct db.sites → Fits db kept table → (txn : Txn) → IsAt db (table.standing txn)
is_at db kept table distinct fits txn = go (table.standing txn) refl
  where
    go : (o : Option TxnState) → table.standing txn ≡ o → IsAt db o
    go None e = tt
    go (Some (standing.Undecided u)) e = let s : sites_of u.participants ≡ db.sites = (fits.sites txn (standing.Undecided u) e).0 in record { sites = s; distinct = subst AreDistinct (sym s) distinct }
    go (Some (standing.Committed c)) e = fits.sites txn (standing.Committed c) e

-- a transaction in its first phase sends nothing more
is_in : (db : Database) (n : ℕ) (a : After) → AtSites db.sites a → IsInAfter db n a
is_in db n Stays sites = tt
is_in db n Ends sites = tt
is_in db n (Becomes (standing.Undecided u)) sites = (sites.0, subst (IsAtHome db) (sym sites.1) tt, subst (IsPlanned db n) (sym sites.1) tt)
is_in db n (Becomes (standing.Committed c)) sites = sites

-- ---- where nothing changes in memory
module _ (db : Database) (kept new : DeskContent) (table : VolatileState) (fits : Fits db kept table) (k : Txn) where
  pub fits_still : Keeps k (kept_voters (table.standing k)) false kept new → Fits db new table
  fits_still keeps = record {
    rows = λ j. go j (is_txn k j) refl ∙ sym (keeps.commits j);
    life = fits.life ∙ sym keeps.life;
    version = fits.version ∙ sym keeps.version;
    listed = fits.listed;
    lives = fits.lives;
    begun = fits.begun;
    sites = fits.sites;
    moving = fits.moving;
    counted = fits.counted;
    short = fits.short;
    few = fits.few;
    low = fits.low;
  }
    where
      go : (j : Txn) (b : Bool) → is_txn k j ≡ b → kept_voters (table.standing j) ≡ (if b then kept_voters (table.standing k) else kept.commits j)
      go j true e = ap (λ i. kept_voters (table.standing i)) (sym (txn_is k j e))
      go j false e = fits.rows j

  abbrev put_at : Txn → desk.Txn (language db) → Name → desk.Txn (language db)
  put_at i x = put same (txn_name i) x (desk_of db table).txn

  pub state_still : (x : desk.Txn (language db)) → txn_of db (table.standing k) ≡ x → desk_of db table ≡ desk.desk_after (desk_of db table) (txn_name k) x
  state_still x is = λ i. record { txn = λ name. there (txn_at name) i; known = known i; life = table.life; number = table.number }
    where
      there : (j : Txn) → txn_of db (table.standing j) ≡ put_at k x (txn_name j)
      there j = go (is_txn k j) refl ∙ ap (λ b. if b then x else txn_of db (table.standing j)) (sym (same_txn j k ∙ txn_sym j k))
        where
          go : (b : Bool) → is_txn k j ≡ b → txn_of db (table.standing j) ≡ (if b then x else txn_of db (table.standing j))
          go true e = ap (λ i. txn_of db (table.standing i)) (sym (txn_is k j e)) ∙ is
          go false e = refl

      known : map txn_name table.txns ≡ filter (λ t. not (desk.is_unknown (put_at k x t))) (map txn_name table.txns)
      known =
          sym (filter_names (λ t. not (desk.is_unknown (put_at k x t))) (λ j. is_some (table.standing j)) table.txns (λ j listed. ap (λ y. not (desk.is_unknown y)) (sym (there j)) ∙ unknown_is db (table.standing j))
          ∙ ap (map txn_name) (filter_all (λ j. is_some (table.standing j)) table.txns fits.lives))

-- ---- a step
module _ (db : Database) (kept new : DeskContent) (entries : Entries) (undecided life number version : ℕ) (sorted : IsStrictlySortedBy txn_cmp (keys_of entries)) (fits : Fits db kept (volatile_from entries undecided life number version)) (k : Txn) where
  abbrev before : VolatileState
  before = volatile_from entries undecided life number version

  -- what is known of the state after it
  pub record IsSettled (turn : Transition) (table : VolatileState) : Type 0 where
    pub moved : (now : TxnState) → before.standing k ≡ Some now → (raises (Some now) turn.reply ≡ true → version + 1 < 2 ^ 64) →
        table ≡ volatile_from (settled k turn.after entries) (if is_open (Some now) && closes turn.after then undecided - 1 else undecided) life number (if raises (Some now) turn.reply then suc version else version)
    pub still : turn.after ≡ Stays → raises (before.standing k) turn.reply ≡ false → table ≡ before

  module _ (turn : Transition) (wanted : desk.Transition (language db)) (is : IsTransition db k (before.standing k) turn wanted) (sites : IsInAfter db before.version turn.after) (keeps : Keeps k (kept_voters (after_of (before.standing k) turn.after)) (raises (before.standing k) turn.reply) kept new)
      (turns : TurnKeeps (language db) (txn_name k) (txn_of db (before.standing k)) wanted) (below : raises (before.standing k) turn.reply ≡ true → version + 1 < 2 ^ 64) (short : desk.is_short_txn wanted.txn ≡ true) (shut : desk.is_undecided (txn_of db (before.standing k)) ≡ false → desk.is_undecided wanted.txn ≡ false)
      (some : (is_some (before.standing k) ≡ true) ⊎ (turn.after ≡ Stays)) (table : VolatileState) (made : IsSettled turn table) where
    abbrev FitsSo : VolatileState → Type 0
    FitsSo t = Fits db new t × (desk_of db t ≡ desk.desk_after (desk_of db before) (txn_name k) wanted.txn) × (t.version ≡ version_after before.version (txn_of db (before.standing k)) (txn_name k) wanted.deeds)

    abbrev raised : Bool
    raised = raises (before.standing k) turn.reply

    version_is : (if raised then suc before.version else before.version) ≡ version_after before.version (txn_of db (before.standing k)) (txn_name k) wanted.deeds
    version_is = ap (λ b. if b then suc before.version else before.version) (raised_is db k (before.standing k) turn wanted is)

    ends_by : raised ≡ true → (is_moving (before.standing k) ≡ true) × (is_open (after_of (before.standing k) turn.after) ≡ false)
    ends_by e = let so = raised_ends db k (before.standing k) turn wanted is turns e in (so.0, sym (open_is db (after_of (before.standing k) turn.after)) ∙ ap desk.is_undecided is.stands ∙ so.1)

    kind_of : is_moving (after_of (before.standing k) turn.after) ≡ true → is_moving (before.standing k) ≡ true
    kind_of e = sym (moving_is db (before.standing k)) ∙ turns.moves (ap desk.is_moving (sym is.stands) ∙ moving_is db (after_of (before.standing k) turn.after) ∙ e)

    -- who stays as it was raises nothing
    stays_low : turn.after ≡ Stays → raised ≡ false
    stays_low stays = ⊎_elim (λ e. let so = ends_by e in clash (moving_open (before.standing k) so.0) (ap (λ a. is_open (after_of (before.standing k) a)) (sym stays) ∙ so.1)) (λ low. low) (by_test raised)

    still_so : turn.after ≡ Stays → FitsSo table
    still_so stays = subst FitsSo (sym (made.still stays (stays_low stays))) (
      fits_still db kept new before fits k (subst (λ b. Keeps k (kept_voters (before.standing k)) b kept new) (stays_low stays) (subst (λ a. Keeps k (kept_voters (after_of (before.standing k) a)) raised kept new) stays keeps)),
      state_still db kept new before fits k wanted.txn (ap (λ a. txn_of db (after_of (before.standing k) a)) (sym stays) ∙ is.stands),
      sym (if_false raised (suc before.version) before.version (stays_low stays)) ∙ version_is,
    )

    moved_so : (now : TxnState) → before.standing k ≡ Some now → FitsSo table
    moved_so now e = subst FitsSo (sym (made.moved now e (λ up. below (ap (λ o. raises o turn.reply) e ∙ up)))) (
      fits_after db kept new entries sorted undecided life number version fits k now e turn.after (raises (Some now) turn.reply)
          (subst (λ o. Keeps k (kept_voters (after_of o turn.after)) (raises o turn.reply) kept new) e keeps) sites
          (ap desk.is_short_txn stands ∙ short)
          (λ was. sym (open_is db (after_of (Some now) turn.after)) ∙ ap desk.is_undecided stands ∙ shut (ap (λ o. desk.is_undecided (txn_of db o)) e ∙ open_is db (Some now) ∙ was))
          (subst (λ o. is_moving (after_of o turn.after) ≡ true → is_moving o ≡ true) e kind_of)
          (subst (λ o. raises o turn.reply ≡ true → (is_moving o ≡ true) × (is_open (after_of o turn.after) ≡ false)) e ends_by),
      state_is db kept new entries sorted undecided life number version fits k now e turn.after (raises (Some now) turn.reply) wanted.txn stands,
      ap (λ o. if raises o turn.reply then suc before.version else before.version) (sym e) ∙ version_is,
    )
      where
        stands : txn_of db (after_of (Some now) turn.after) ≡ wanted.txn
        stands = ap (λ o. txn_of db (after_of o turn.after)) (sym e) ∙ is.stands

    so : FitsSo table
    so = ⊎_elim (λ s. go (before.standing k) refl s) still_so some
      where
        go : (o : Option TxnState) → before.standing k ≡ o → is_some o ≡ true → FitsSo table
        go None e s = cc
        go (Some now) e s = moved_so now e

    pub makes : (written : List Letter) (heard : List Notice) → written ≡ turn.letters.items → heard ≡ notices k turn.reply → Steps db before new table k wanted written heard
    makes written heard letters replies = record {
      fits = so.0;
      within = is_within db new table so.0;
      state = so.1;
      version = so.2;
      letters = ap (map (sent db)) letters ∙ is.letters;
      replies = ap (map notice_of) replies ∙ told_is k turn.reply ∙ is.replies;
    }

-- ---- requests of clients, statements aside
module _ (db : Database) (kept : DeskContent) (volatile : Volatile) (sorted : IsStrictlySortedBy txn_cmp (keys_of volatile.standings.entries)) (fits : Fits db kept (volatile_of volatile)) (distinct : AreDistinct db.sites)
    (k : Txn) (choice : desk.Choice (language db)) (request : desk.Request (language db)) (turn : Transition) where
  abbrev o : Option TxnState
  o = (volatile_of volatile).standing k

  abbrev wanted : desk.Transition (language db)
  wanted = desk.on_request (txn_name k) choice request (txn_of db o)

  pub asks : (IsAt db o → IsTransition db k o turn wanted) → (IsAt db o → AtSites db.sites turn.after) → kept_voters (after_of o turn.after) ≡ kept_voters o → raises o turn.reply ≡ false → (desk.is_short_txn (txn_of db o) ≡ true → desk.is_short_txn wanted.txn ≡ true) →
      (is_some o ≡ true) ⊎ (turn.after ≡ Stays) → (table : VolatileState) → IsSettled db kept kept volatile.standings.entries volatile.undecided volatile.life volatile.number volatile.version sorted fits k turn table → (written : List Letter) (heard : List Notice) → written ≡ turn.letters.items → heard ≡ notices k turn.reply →
      Steps db (volatile_of volatile) kept table k wanted written heard
  asks is sites keeps quiet short some table made written heard letters replies =
      let at = is_at db kept (volatile_of volatile) distinct fits k in
      makes db kept kept volatile.standings.entries volatile.undecided volatile.life volatile.number volatile.version sorted fits k turn wanted (is at) (is_in db volatile.version turn.after (sites at))
      (keeps_same k (kept_voters (after_of o turn.after)) (raises o turn.reply) kept kept quiet (sym (fits.rows k) ∙ sym keeps) (unchanged kept)) (request_keeps (txn_name k) choice request (txn_of db o)) (λ up. clash up quiet)
      (short (fits.short k)) (shut_request (txn_name k) choice request (txn_of db o)) some table made written heard letters replies

-- ---- letters of sites by which no statement goes on
module _ (db : Database) (kept new : DeskContent) (volatile : Volatile) (sorted : IsStrictlySortedBy txn_cmp (keys_of volatile.standings.entries)) (fits : Fits db kept (volatile_of volatile)) (distinct : AreDistinct db.sites)
    (k : Txn) (choice : desk.Choice (language db)) (a : List ℕ) (said : Said) (turn : Transition) where
  abbrev stood : Option TxnState
  stood = (volatile_of volatile).standing k

  abbrev coming : Bool → desk.Transition (language db)
  coming was = desk.on_desk_letter {L = language db} (txn_name k) a was choice (replied db a said) (txn_of db stood)

  pub takes : may_send stood a said ≡ false → (IsAt db stood → IsTransition db k stood turn (coming turn.kept)) → (IsAt db stood → AtSites db.sites turn.after) →
      (IsAt db stood → kept.commits k ≡ kept_voters stood → Keeps k (kept_voters (after_of stood turn.after)) (raises stood turn.reply) kept new) → (raises stood turn.reply ≡ true → volatile.version + 1 < 2 ^ 64) → (is_some stood ≡ true) ⊎ (turn.after ≡ Stays) →
      (table : VolatileState) → IsSettled db kept new volatile.standings.entries volatile.undecided volatile.life volatile.number volatile.version sorted fits k turn table → (written : List Letter) (heard : List Notice) (was : Bool) → written ≡ turn.letters.items → heard ≡ notices k turn.reply → was ≡ turn.kept →
      Steps db (volatile_of volatile) new table k (coming was) written heard
  takes rests is sites keeps below some table made written heard was letters replies was_is =
      let at = is_at db kept (volatile_of volatile) distinct fits k in
      subst (λ b. Steps db (volatile_of volatile) new table k (coming b) written heard) (sym was_is)
      (makes db kept new volatile.standings.entries volatile.undecided volatile.life volatile.number volatile.version sorted fits k turn (coming turn.kept) (is at) (is_in db volatile.version turn.after (sites at)) (keeps at (sym (fits.rows k))) (letter_keeps (txn_name k) choice a turn.kept (replied db a said) (txn_of db stood)) below
      (short_came db (txn_name k) a turn.kept choice stood said rests (fits.short k)) (shut_came db (txn_name k) a turn.kept choice said (txn_of db stood))
      some table made written heard letters replies)

-- ---- a statement goes on: the transaction is undecided still
module _ (db : Database) (kept : DeskContent) (entries : Entries) (undecided life number version : ℕ) (sorted : IsStrictlySortedBy txn_cmp (keys_of entries)) (fits : Fits db kept (volatile_from entries undecided life number version)) (k : Txn)
    (old new : Undecided) (here : at_txn entries k ≡ Some (standing.Undecided old)) where
  -- what is in memory then
  abbrev gone_on : VolatileState
  gone_on = volatile_from (set_value (is_key (txn_cmp k)) entries (standing.Undecided new)) undecided life number version

  pub goes_on : (wanted : desk.Transition (language db)) (out : Vec Letter Global) (reply : Option Reply) → desk.Known (undecided_of db new) ≡ wanted.txn → map (sent db) out.items ≡ wanted.letters → told_to (txn_name k) reply ≡ filter_map (told db) wanted.deeds →
      TurnKeeps (language db) (txn_name k) (txn_of db (at_txn entries k)) wanted → IsIn db version (standing.Undecided new) → desk.is_short_txn wanted.txn ≡ true → (table : VolatileState) → table ≡ gone_on → (written : List Letter) (heard : List Notice) → written ≡ out.items → heard ≡ notices k reply →
      Steps db (volatile_from entries undecided life number version) kept table k wanted written heard
  goes_on wanted out reply stands letters replies turns sites short table table_is written heard written_is heard_is =
      let turn : Transition = record { after = Becomes (standing.Undecided new); letters = out; reply = reply; kept = true } in
      let is : IsTransition db k (at_txn entries k) turn wanted = record { stands = stands; letters = letters; replies = replies } in
      let none : raises (at_txn entries k) reply ≡ false = raised_is db k (at_txn entries k) turn wanted is ∙ ap (λ b. desk.is_moving (txn_of db (at_txn entries k)) && b) (open_quiet (language db) (txn_name k) (txn_of db (at_txn entries k)) wanted turns (ap desk.is_undecided (sym stands))) ∙ never (desk.is_moving (txn_of db (at_txn entries k))) in
      makes db kept kept entries undecided life number version sorted fits k turn wanted is sites
      (keeps_same k None (raises (at_txn entries k) reply) kept kept none (sym (fits.rows k) ∙ ap kept_voters here) (unchanged kept)) turns (λ up. clash up none) short
      (λ shut. clash (ap (λ o. desk.is_undecided (txn_of db o)) here) shut) (inl (ap is_some here)) table
      (record {
        moved = λ now at below. table_is ∙ (λ i. volatile_from (set_value (is_key (txn_cmp k)) entries (standing.Undecided new)) (sym (if_false (is_open (Some now) && false) (undecided - 1) undecided (never (is_open (Some now)))) i) life number
            (sym (if_false (raises (Some now) reply) (suc version) version (ap (λ o. raises o reply) (sym at) ∙ none)) i));
        still = λ stays low. cc;
      }) written heard written_is heard_is

-- what isn't undecided isn't given up
pub open_some : (o : Option TxnState) (u : Undecided) → open_in o ≡ Some u → o ≡ Some (standing.Undecided u)
open_some None u e = cc
open_some (Some (standing.Undecided v)) u e = ap (λ x. Some (standing.Undecided x)) (some_is e)
open_some (Some (standing.Committed c)) u e = cc

pub not_given_up : (db : Database) (t : Name) (choice : desk.Choice (language db)) (o : Option TxnState) → open_in o ≡ None → desk.on_request t choice desk.Give_up (txn_of db o) ≡ desk.stays (txn_of db o)
not_given_up db t choice None e = refl
not_given_up db t choice (Some (standing.Undecided u)) e = cc
not_given_up db t choice (Some (standing.Committed c)) e = refl
