-- A transaction has made a step: the state is the protocol's, and what is in memory fits the store.
use Rattle.std.proofs.Common.{◌≡◌, refl, sym, ap, ◌∙◌, subst, ℕ, suc, ◌-◌, ◌^◌, ◌<◌, ◌≤◌, nat_lt, nat_le, Bool, true, false, not, ◌&&◌, List, [], ◌∷◌, map, length, Option, Some, None, is_some, filter, if◌then◌else◌, arith}
use Rattle.std.specs.List.{list_all}
use Rattle.std.specs.List.Sorted.{IsStrictlySortedBy}
use Rattle.std.specs.Map.{keys_of}
use Rattle.std.proofs.lemmas.Map.Keys.{IsDistinct-from_sorted}
use Rattle.store.specs.declared.name.Txn.{Txn}
use Rattle.store.specs.DeskContent.{DeskContent, is_txn}
use Rattle.store.specs.Name.{txn_cmp}
use Rattle.protocol.specs.Desk as desk
use Rattle.protocol.specs.Language.{Name, put, same}
use Rattle.protocol.specs.Letters.{txn_name}
use Rattle.protocol.specs.Parts.{In}
use Rattle.protocol.proofs.Basics.{both_true, clash, if_true, if_false, in_filter, some_is}
use Rattle.protocol.proofs.Locks.{from_filter}
use Rattle.desk.specs.declared.transaction.TxnState.{TxnState}
use Rattle.desk.specs.declared.transaction.TxnState.TheVariants as standing
use Rattle.desk.specs.declared.transition.After.{After}
use Rattle.desk.specs.declared.transition.After.TheVariants.{Stays, Ends, Becomes}
use Rattle.desk.specs.Database.{Database, language}
use Rattle.desk.specs.Transaction.{txn_of}
use Rattle.desk.specs.State.{Fits, IsIn, IsInAfter, IsMoving, VolatileState, closes, desk_of, is_open, open_among, settled, volatile_from, txn_at}
use Rattle.desk.specs.Transition.{after_of, is_moving}
use Rattle.desk.proofs.Raised.{moving_open}
use Rattle.catalog.specs.Chain.{IsNext}
use Rattle.desk.specs.Acknowledge.{Keeps, kept_voters}
use Rattle.desk.proofs.Acknowledged.{txn_is}
use Rattle.desk.proofs.Counts.{as_many, filter_among, one_fewer}
use Rattle.desk.proofs.Txns.{Entries, at_txn, filter_all, filter_names, filter_same, removed_keys, removed_there, same_txn, set_keys, set_there, stood, stood_all, txn_self, txn_sym}

-- ---- what the protocol sees of what stands
pub unknown_is : (db : Database) (o : Option TxnState) → not (desk.is_unknown (txn_of db o)) ≡ is_some o
unknown_is db None = refl
unknown_is db (Some (standing.Undecided u)) = refl
unknown_is db (Some (standing.Committed c)) = refl

pub open_is : (db : Database) (o : Option TxnState) → desk.is_undecided (txn_of db o) ≡ is_open o
open_is db None = refl
open_is db (Some (standing.Undecided u)) = refl
open_is db (Some (standing.Committed c)) = refl

moving_some : (o : Option TxnState) → is_moving o ≡ true → (s : TxnState) × (o ≡ Some s)
moving_some None e = cc
moving_some (Some s) e = (s, refl)

pub open_some : (o : Option TxnState) → is_open o ≡ true → is_some o ≡ true
open_some None e = cc
open_some (Some s) e = refl

-- ---- a step of one transaction
module _ (db : Database) (kept new : DeskContent) (entries : Entries) (sorted : IsStrictlySortedBy txn_cmp (keys_of entries)) (undecided life number version : ℕ)
    (fits : Fits db kept (volatile_from entries undecided life number version)) (k : Txn) (now : TxnState) (here : at_txn entries k ≡ Some now) (after : After) (raised : Bool) where
  abbrev before : VolatileState
  before = volatile_from entries undecided life number version

  abbrev next : Option TxnState
  next = after_of (Some now) after

  abbrev left : ℕ
  left = if is_open (Some now) && closes after then undecided - 1 else undecided

  abbrev table : VolatileState
  table = volatile_from (settled k after entries) left life number (if raised then suc version else version)

  there : (j : Txn) → table.standing j ≡ stood k next before.standing j
  there j = go after
    where
      same : (b : Bool) → is_txn k j ≡ b → at_txn entries j ≡ (if b then Some now else at_txn entries j)
      same true e = subst (λ i. at_txn entries i ≡ Some now) (txn_is k j e) here
      same false e = refl

      go : (a : After) → at_txn (settled k a entries) j ≡ stood k (after_of (Some now) a) (at_txn entries) j
      go Stays = same (is_txn k j) refl
      go Ends = removed_there k entries sorted j
      go (Becomes s) = set_there k entries s now here j

  -- what was listed is, if something stands there still
  abbrev stands_still : Txn → Bool
  stands_still j = is_some (table.standing j)

  in_keys : In k before.txns
  in_keys = fits.listed k (ap is_some here)

  keys_are : table.txns ≡ filter stands_still before.txns
  keys_are = go after refl
    where
      all : (a : After) → ((j : Txn) → In j before.txns → is_some (at_txn (settled k a entries) j) ≡ true) → before.txns ≡ filter (λ j. is_some (at_txn (settled k a entries) j)) before.txns
      all a each = sym (filter_all (λ j. is_some (at_txn (settled k a entries) j)) before.txns each)

      still : (a : After) → ((j : Txn) → at_txn (settled k a entries) j ≡ stood k (after_of (Some now) a) (at_txn entries) j) → is_some (after_of (Some now) a) ≡ true → (j : Txn) → In j before.txns → is_some (at_txn (settled k a entries) j) ≡ true
      still a moved some j listed = ap is_some (moved j) ∙ stood_all k (after_of (Some now) a) (at_txn entries) (λ i o. In i before.txns → is_some o ≡ true) (λ l. some) (λ i apart l. fits.lives i l) j listed

      gone : (j : Txn) → In j before.txns → not (is_txn k j) ≡ is_some (at_txn (settled k Ends entries) j)
      gone j listed = go_on (is_txn k j) refl ∙ sym (ap is_some (removed_there k entries sorted j))
        where
          go_on : (b : Bool) → is_txn k j ≡ b → not b ≡ is_some (if b then None else at_txn entries j)
          go_on true e = refl
          go_on false e = sym (fits.lives j listed)

      go : (a : After) → a ≡ after → keys_of (settled k a entries) ≡ filter (λ j. is_some (at_txn (settled k a entries) j)) before.txns
      go Stays e = all Stays (λ j listed. fits.lives j listed)
      go Ends e = removed_keys k entries sorted ∙ filter_same (λ j. not (is_txn k j)) (λ j. is_some (at_txn (settled k Ends entries) j)) before.txns gone
      go (Becomes s) e = set_keys k entries s ∙ all (Becomes s) (still (Becomes s) (λ j. set_there k entries s now here j) refl)

  -- ---- the state
  module _ (x : desk.Txn (language db)) (is : txn_of db next ≡ x) where
    abbrev txns : Name → desk.Txn (language db)
    txns = put same (txn_name k) x (desk_of db before).txn

    txn_there : (j : Txn) → txn_of db (table.standing j) ≡ txns (txn_name j)
    txn_there j = ap (txn_of db) (there j) ∙ go (is_txn k j) ∙ ap (λ b. if b then x else txn_of db (before.standing j)) (sym (same_txn j k ∙ txn_sym j k))
      where
        go : (b : Bool) → txn_of db (if b then next else before.standing j) ≡ (if b then x else txn_of db (before.standing j))
        go true = is
        go false = refl

    pub state_is : desk_of db table ≡ desk.desk_after (desk_of db before) (txn_name k) x
    state_is =
        let known = ap (map txn_name) keys_are ∙ sym (filter_names (λ t. not (desk.is_unknown (txns t))) stands_still before.txns (λ j listed. ap (λ y. not (desk.is_unknown y)) (sym (txn_there j)) ∙ unknown_is db (table.standing j))) in
        λ i. record { txn = λ name. txn_there (txn_at name) i; known = known i; life = life; number = number }

  -- ---- what is in memory fits
  module _ (keeps : Keeps k (kept_voters next) raised kept new) (sites : IsInAfter db before.version after) (short : desk.is_short_txn (txn_of db next) ≡ true) (shut : is_open (Some now) ≡ false → is_open next ≡ false)
      (kind : is_moving next ≡ true → is_moving (Some now) ≡ true) (ends : raised ≡ true → (is_moving (Some now) ≡ true) × (is_open next ≡ false)) where
    rows_are : (j : Txn) → kept_voters (table.standing j) ≡ new.commits j
    rows_are j = ap kept_voters (there j) ∙ go (is_txn k j) ∙ sym (keeps.commits j)
      where
        go : (b : Bool) → kept_voters (if b then next else before.standing j) ≡ (if b then kept_voters next else kept.commits j)
        go true = refl
        go false = fits.rows j

    was_there : (j : Txn) → is_some (table.standing j) ≡ true → is_some (before.standing j) ≡ true
    was_there j e = stood_all k next before.standing (λ i o. is_some o ≡ true → is_some (before.standing i) ≡ true) (λ f. ap is_some here) (λ i apart f. f) j (ap is_some (sym (there j)) ∙ e)

    -- how many are undecided
    opened : (j : Txn) → is_open (table.standing j) ≡ is_open (stood k next before.standing j)
    opened j = ap is_open (there j)

    elsewhere : (j : Txn) → is_txn k j ≡ false → is_open (before.standing j) ≡ is_open (table.standing j)
    elsewhere j apart = sym (opened j ∙ ap is_open (if_false (is_txn k j) next (before.standing j) apart))

    at_k : is_open (table.standing k) ≡ is_open next
    at_k = opened k ∙ ap is_open (if_true (is_txn k k) next (before.standing k) (txn_self k))

    among : open_among table.standing table.txns ≡ open_among table.standing before.txns
    among = ap (λ l. length (filter (λ j. is_open (table.standing j)) l)) keys_are ∙ ap length (filter_among (λ j. is_open (table.standing j)) stands_still before.txns (λ j e. open_some (table.standing j) e))

    -- it is undecided no longer
    fewer : is_open (Some now) ≡ true → is_open next ≡ false → undecided ≡ suc (open_among table.standing before.txns)
    fewer was is =
        fits.counted ∙ one_fewer k (λ j. is_open (before.standing j)) (λ j. is_open (table.standing j)) before.txns (IsDistinct-from_sorted txn_cmp before.txns sorted) in_keys elsewhere (ap is_open here ∙ was) (at_k ∙ is)

    -- or as before
    as_before : is_open (Some now) ≡ is_open next → undecided ≡ open_among table.standing before.txns
    as_before same =
        fits.counted ∙ as_many (λ j. is_open (before.standing j)) (λ j. is_open (table.standing j)) before.txns
        (λ j. sym (opened j ∙ stood_all k next before.standing (λ i o. is_open o ≡ is_open (before.standing i)) (sym (ap is_open here ∙ same)) (λ i apart. refl) j))

    closed : (a : After) → is_open (Some now) ≡ true → closes a ≡ not (is_open (after_of (Some now) a))
    closed Stays e = sym (ap not e)
    closed Ends e = refl
    closed (Becomes (standing.Undecided u)) e = refl
    closed (Becomes (standing.Committed c)) e = refl

    counts : left ≡ open_among table.standing before.txns
    counts = go (is_open (Some now)) refl (is_open next) refl
      where
        go : (b : Bool) → is_open (Some now) ≡ b → (c : Bool) → is_open next ≡ c → (if b && closes after then undecided - 1 else undecided) ≡ open_among table.standing before.txns
        go false was c is = as_before (was ∙ sym (shut was))
        go true was true is = if_false (closes after) (undecided - 1) undecided (closed after was ∙ ap not is) ∙ as_before (was ∙ sym is)
        go true was false is = if_true (closes after) (undecided - 1) undecided (closed after was ∙ ap not is) ∙ (let e : undecided ≡ suc (open_among table.standing before.txns) = fewer was is in omega arith)

    less : left ≤ undecided
    less = go (is_open (Some now) && closes after)
      where
        go : (b : Bool) → (if b then undecided - 1 else undecided) ≤ undecided
        go true = omega arith
        go false = omega arith

    at_sites : (a : After) → IsInAfter db before.version a → (s : TxnState) → after_of (Some now) a ≡ Some s → IsIn db before.version s
    at_sites Stays sites s e = fits.sites k s (here ∙ e)
    at_sites Ends sites s e = cc
    at_sites (Becomes x) sites s e = subst (IsIn db before.version) (some_is e) sites

    -- who is decided is so under any catalogue
    closed_in : (n m : ℕ) (s : TxnState) → is_open (Some s) ≡ false → IsIn db n s → IsIn db m s
    closed_in n m (standing.Undecided u) e is = cc
    closed_in n m (standing.Committed c) e is = is

    -- where the transaction moves, nothing else stands
    others_none : is_moving (Some now) ≡ true → (j : Txn) → is_txn k j ≡ false → (s : TxnState) → before.standing j ≡ Some s → ⊥
    others_none moves j apart s e = let is : j ≡ k = (fits.moving k (ap is_moving here ∙ moves)).alone j (ap is_some e) in clash (subst (λ i. is_txn i j ≡ true) is (txn_self j)) apart

    sites_now : (b : Bool) → raised ≡ b → (j : Txn) (s : TxnState) → table.standing j ≡ Some s → IsIn db (if b then suc version else version) s
    sites_now false e j s is = stood_all k next before.standing (λ i o. o ≡ Some s → IsIn db version s) (at_sites after sites s) (λ i apart f. fits.sites i s f) j (sym (there j) ∙ is)
    sites_now true e j s is =
        stood_all k next before.standing (λ i o. o ≡ Some s → IsIn db (suc version) s)
        (λ f. closed_in version (suc version) s (sym (ap is_open f) ∙ (ends e).1) (at_sites after sites s f))
        (λ i apart f. absurd (others_none (ends e).0 i apart s f)) j (sym (there j) ∙ is)

    moving_now : (b : Bool) → raised ≡ b → (j : Txn) → is_moving (table.standing j) ≡ true → IsMoving db table j
    moving_now true e j moves = absurd (stood_all k next before.standing (λ i o. is_moving o ≡ true → ⊥) (λ f. clash (moving_open next f) (ends e).1)
        (λ i apart f. let s = moving_some (before.standing i) f in others_none (ends e).0 i apart s.0 s.1) j (ap is_moving (sym (there j)) ∙ moves))
    moving_now false e j moves = stood_all k next before.standing (λ i o. is_moving o ≡ true → IsMoving db table i) at_its
        (λ i apart f. let is : k ≡ i = (fits.moving i f).alone k (ap is_some here) in clash (subst (λ x. is_txn k x ≡ true) is (txn_self k)) apart) j (ap is_moving (sym (there j)) ∙ moves)
      where
        at_its : is_moving next ≡ true → IsMoving db table k
        at_its f = let was = fits.moving k (ap is_moving here ∙ kind f) in record {
          alone = λ other stands. was.alone other (was_there other stands);
          next = subst (λ n. (name : List ℕ) × IsNext (db.catalogue n) (db.catalogue (suc n)) name) (sym (if_false raised (suc version) version e)) was.next;
        }

    pub fits_after : Fits db new table
    fits_after = record {
      rows = rows_are;
      life = fits.life ∙ sym keeps.life;
      version = ap (λ n. if raised then suc n else n) fits.version ∙ sym keeps.version;
      listed = λ j e. subst (In j) (sym keys_are) (in_filter stands_still j before.txns (fits.listed j (was_there j e)) e);
      lives = λ j listed. (from_filter stands_still j before.txns (subst (In j) keys_are listed)).1;
      begun = λ j e. fits.begun j (was_there j e);
      sites = λ j s e. sites_now raised refl j s e;
      moving = λ j moves. moving_now raised refl j moves;
      counted = counts ∙ sym among;
      short = λ j. subst (λ o. desk.is_short_txn (txn_of db o) ≡ true) (sym (there j)) (stood_all k next before.standing (λ i o. desk.is_short_txn (txn_of db o) ≡ true) short (λ i apart. fits.short i) j);
      few = let a : left ≤ undecided = less in let b : undecided ≤ 256 = fits.few in omega arith;
      low = fits.low;
    }

-- ---- the limits
names_length : (xs : List Txn) → length (map txn_name xs) ≡ length xs
names_length [] = refl
names_length (x ∷ xs) = ap suc (names_length xs)

-- so many are undecided
pub few_names : (db : Database) (table : VolatileState) → table.undecided ≡ open_among table.standing table.txns → length (filter (λ t. desk.is_undecided ((desk_of db table).txn t)) (map txn_name table.txns)) ≡ table.undecided
few_names db table counted =
    ap length (filter_names (λ t. desk.is_undecided ((desk_of db table).txn t)) (λ j. is_open (table.standing j)) table.txns (λ j listed. open_is db (table.standing j)))
    ∙ names_length (filter (λ j. is_open (table.standing j)) table.txns) ∙ sym counted

module _ (db : Database) (kept : DeskContent) (table : VolatileState) (fits : Fits db kept table) where
  all_short : (xs : List Txn) → list_all (λ t. desk.is_short_txn ((desk_of db table).txn t)) (map txn_name xs) ≡ true
  all_short [] = refl
  all_short (x ∷ xs) = both_true _ _ (fits.short x) (all_short xs)

  below : (m n : ℕ) → m < n → nat_lt m n ≡ true
  below m n lt = grind (arith)

  up_to : (m n : ℕ) → m ≤ n → nat_le m n ≡ true
  up_to m n le = grind (arith)

  pub is_within : desk.is_desk_within (desk_of db table) ≡ true
  is_within =
      both_true _ _ (both_true _ _ (both_true _ _ (below table.life (2 ^ 63) fits.low.0) (below table.number (2 ^ 63) fits.low.1)) (all_short table.txns))
      (ap (λ n. nat_le n 256) (few_names db table fits.counted) ∙ up_to table.undecided 256 fits.few)
