-- The memory that a store's rows make fits the store.
use Rattle.std.proofs.Common.{◌≡◌, refl, sym, ap, ◌∙◌, subst, ℕ, ◌+◌, ◌<◌, ◌^◌, ◌⊎◌, nat_le, Bool, true, false, List, [], ◌∷◌, map, length, Option, Some, None, is_some, cond, if◌then◌else◌, filter, inl, inr, arith}
use Rattle.std.specs.BTreeMap.{insert_entry}
use Rattle.std.specs.List.{AllByRecursion}
use Rattle.std.specs.List.Sorted.{IsStrictlySortedBy}
use Rattle.std.specs.Map.{keys_of}
use Rattle.std.specs.Option.{option_map}
use Rattle.std.specs.Ordering.{is_eq, match_ordering}
use Rattle.std.specs.declared.cmp.Ordering.{Ordering}
use Rattle.std.specs.declared.cmp.Ordering.TheVariants.{Less, Equal, Greater}
use Rattle.std.proofs.lemmas.Map.Keys.{sorted_head, sorted_tail}
use Rattle.store.specs.declared.commit.CommitRow.{CommitRow}
use Rattle.store.specs.declared.commit.DeskKept.{DeskKept}
use Rattle.store.specs.declared.commit.Voter.{Voter}
use Rattle.store.specs.declared.letter.Letter.{Letter}
use Rattle.store.specs.declared.name.Txn.{Txn}
use Rattle.store.specs.DeskContent.{BeginsLife, DeskContent, Lists, Voters, by_site, is_txn, voters_in}
use Rattle.store.specs.Name.{txn_cmp}
use Rattle.store.specs.Orders.{txn_cmp-IsAntisymmetric}
use Rattle.protocol.specs.Parts.{In}
use Rattle.protocol.proofs.Basics.{clash, if_true, if_false, left_true, right_true, some_is}
use Rattle.desk.specs.declared.transaction.TxnState.{TxnState}
use Rattle.desk.specs.declared.transaction.TxnState.TheVariants as standing
use Rattle.desk.specs.Database.{Database}
use Rattle.desk.specs.Recovery.{Rises, SendsAgain, are_begun, commits_again, in_order, may_stand, resting, row_in_order, row_standing, rows_are_at, stood_by}
use Rattle.desk.specs.State.{Fits, IsIn, VolatileState, is_open, open_among, volatile_from}
use Rattle.desk.specs.Transaction.{txn_of}
use Rattle.desk.specs.Transition.{is_moving}
use Rattle.protocol.specs.Desk.{is_short_txn}
use Rattle.desk.specs.Acknowledge.{kept_voters, listed}
use Rattle.desk.proofs.Acknowledged.{txn_is}
use Rattle.desk.proofs.InOrder.{back, order_is, ordered_rows, row_is_at, rows_txns, rows_voters}
use Rattle.desk.proofs.Settled.{is_within}
use Rattle.desk.proofs.Txns.{Entries, at_txn, txn_same}

-- ---- entries
pub inserted_there : (entries : Entries) (k : Txn) (v : TxnState) (j : Txn) → at_txn (insert_entry txn_cmp entries k v) j ≡ (if is_txn j k then Some v else at_txn entries j)
inserted_there [] k v j = refl
inserted_there (e ∷ entries) k v j = go (txn_cmp k e.0) refl (inserted_there entries k v j)
  where
    same_test : (b : Bool) → (k ≡ e.0) → is_txn j k ≡ b → cond (is_txn j e.0) (Some v) (at_txn entries j) ≡ (if b then Some v else cond (is_txn j e.0) (Some e.1) (at_txn entries j))
    same_test true is t = if_true (is_txn j e.0) (Some v) (at_txn entries j) (ap (is_txn j) (sym is) ∙ t)
    same_test false is t = if_false (is_txn j e.0) (Some v) (at_txn entries j) (ap (is_txn j) (sym is) ∙ t) ∙ sym (if_false (is_txn j e.0) (Some e.1) (at_txn entries j) (ap (is_txn j) (sym is) ∙ t))

    apart : (a b : Bool) → txn_cmp k e.0 ≡ Greater → is_txn j e.0 ≡ a → is_txn j k ≡ b → cond a (Some e.1) (if b then Some v else at_txn entries j) ≡ (if b then Some v else cond a (Some e.1) (at_txn entries j))
    apart true true above s t = clash (txn_same k e.0 (sym (txn_is j k t) ∙ txn_is j e.0 s)) (ap is_eq above)
    apart true false above s t = refl
    apart false true above s t = refl
    apart false false above s t = refl

    go : (r : Ordering) → txn_cmp k e.0 ≡ r → at_txn (insert_entry txn_cmp entries k v) j ≡ (if is_txn j k then Some v else at_txn entries j) →
        at_txn (match_ordering r ((k, v) ∷ e ∷ entries) ((e.0, v) ∷ entries) (e ∷ insert_entry txn_cmp entries k v)) j ≡ (if is_txn j k then Some v else at_txn (e ∷ entries) j)
    go Less is rest = refl
    go Equal is rest = same_test (is_txn j k) (txn_cmp-IsAntisymmetric k e.0 is) refl
    go Greater is rest = ap (cond (is_txn j e.0) (Some e.1)) rest ∙ apart (is_txn j e.0) (is_txn j k) is refl refl

-- what stands is listed
pub some_listed : (entries : Entries) (j : Txn) → is_some (at_txn entries j) ≡ true → In j (keys_of entries)
some_listed [] j e = cc
some_listed (x ∷ entries) j e = go (some_listed entries j) (is_txn j x.0) refl e
  where
    go : (is_some (at_txn entries j) ≡ true → In j (keys_of entries)) → (b : Bool) → is_txn j x.0 ≡ b → is_some (cond b (Some x.1) (at_txn entries j)) ≡ true → In j (keys_of (x ∷ entries))
    go below true is f = inl (txn_is j x.0 is)
    go below false is f = inr (below f)

pub listed_some : (entries : Entries) (j : Txn) → In j (keys_of entries) → is_some (at_txn entries j) ≡ true
listed_some [] j here = absurd here
listed_some (x ∷ entries) j here = go (listed_some entries j) (is_txn j x.0) refl here
  where
    go : (In j (keys_of entries) → is_some (at_txn entries j) ≡ true) → (b : Bool) → is_txn j x.0 ≡ b → (j ≡ x.0) ⊎ In j (keys_of entries) → is_some (cond b (Some x.1) (at_txn entries j)) ≡ true
    go below true is h = refl
    go below false is (inl e) = clash (txn_same j x.0 e) is
    go below false is (inr h) = below h

-- ---- rows
abbrev pub txns_of : List CommitRow → List Txn
txns_of rows = map (λ row. row.txn) rows

none_below : (k : Txn) (rows : List CommitRow) → AllByRecursion (λ j. txn_cmp k j ≡ Less) (txns_of rows) → voters_in k rows ≡ None
none_below k [] below = refl
none_below k (row ∷ rows) below = if_false (is_txn k row.txn) (Some row.voters) (voters_in k rows) (ap is_eq below.0) ∙ none_below k rows below.1

none_after : (j : Txn) (row : CommitRow) (rows : List CommitRow) → IsStrictlySortedBy txn_cmp (txns_of (row ∷ rows)) → is_txn j row.txn ≡ true → voters_in j rows ≡ None
none_after j row rows sorted is = ap (λ k. voters_in k rows) (txn_is j row.txn is) ∙ none_below row.txn rows (sorted_head txn_cmp row.txn (txns_of rows) sorted)

-- a row as it stands, or else what stood before
abbrev pub standing_of : Option (List Voter) → Option TxnState → Option TxnState
standing_of None before = before
standing_of (Some voters) before = Some (standing.Committed (record { voters = voters; acked = [] }))

pub rows_there : (rows : List CommitRow) (entries : Entries) → IsStrictlySortedBy txn_cmp (txns_of rows) → (j : Txn) → at_txn (stood_by rows entries) j ≡ standing_of (voters_in j rows) (at_txn entries j)
rows_there [] entries sorted j = refl
rows_there (row ∷ rows) entries sorted j =
    rows_there rows (insert_entry txn_cmp entries row.txn (row_standing row)) (sorted_tail txn_cmp row.txn (txns_of rows) sorted) j
    ∙ ap (standing_of (voters_in j rows)) (inserted_there entries row.txn (row_standing row) j)
    ∙ go (is_txn j row.txn) refl
  where
    go : (b : Bool) → is_txn j row.txn ≡ b → standing_of (voters_in j rows) (if b then Some (row_standing row) else at_txn entries j) ≡ standing_of (if b then Some row.voters else voters_in j rows) (at_txn entries j)
    go true is = ap (λ r. standing_of r (Some (row_standing row))) (none_after j row rows sorted is)
    go false is = refl

rows_begun : (life : ℕ) (rows : List CommitRow) → are_begun life rows ≡ true → (j : Txn) → is_some (voters_in j rows) ≡ true → nat_le j.life life ≡ true
rows_begun life [] right j e = cc
rows_begun life (row ∷ rows) right j e = go (rows_begun life rows (right_true (nat_le row.txn.life life) _ right) j) (is_txn j row.txn) refl e
  where
    go : (is_some (voters_in j rows) ≡ true → nat_le j.life life ≡ true) → (b : Bool) → is_txn j row.txn ≡ b → is_some (if b then Some row.voters else voters_in j rows) ≡ true → nat_le j.life life ≡ true
    go below true is f = subst (λ k. nat_le k.life life ≡ true) (sym (txn_is j row.txn is)) (left_true (nat_le row.txn.life life) _ right)
    go below false is f = below f

-- ---- the letters
pub sent_again : (sites : List (List ℕ)) (all : DeskKept) (kept after : DeskContent) → Lists kept all → BeginsLife kept after → may_stand all.life sites all.commits ≡ true → (written : List Letter) → written ≡ commits_again (map (row_in_order sites) all.commits) → SendsAgain sites after written
sent_again sites all kept after lists life right written is = record {
  rows = map (row_in_order sites) all.commits;
  voters = λ j. ap (option_map by_site) (rows_voters sites all.commits j) ∙ same_map j (voters_in j all.commits) refl ∙ lists.rows j ∙ sym (life.commits j);
  in_order = ordered_rows sites all.commits at;
  ascend = subst (IsStrictlySortedBy txn_cmp) (sym (rows_txns sites all.commits)) lists.ascend;
  letters = is;
}
  where
    at : rows_are_at sites all.commits ≡ true
    at = right_true (are_begun all.life all.commits) (rows_are_at sites all.commits) right

    same_map : (j : Txn) (r : Option (List Voter)) → voters_in j all.commits ≡ r → option_map by_site (option_map (in_order sites) r) ≡ option_map by_site r
    same_map j None is = refl
    same_map j (Some voters) is = ap Some (ap by_site (sym (order_is sites voters)) ∙ back sites voters (row_is_at sites all.commits at j voters is))

-- ---- the memory
module _ (db : Database) (all : DeskKept) (kept after : DeskContent) (lists : Lists kept all) (life : BeginsLife kept after) (right : may_stand all.life db.sites all.commits ≡ true) (below : kept.life + 1 < 2 ^ 63) where
  abbrev entries : Entries
  entries = stood_by (map (row_in_order db.sites) all.commits) []

  abbrev table : VolatileState
  table = volatile_from entries 0 after.life 0 after.version

  row_is : (j : Txn) → option_map by_site (voters_in j all.commits) ≡ after.commits j
  row_is j = lists.rows j ∙ sym (life.commits j)

  there : (j : Txn) → table.standing j ≡ resting db.sites (after.commits j)
  there j =
      rows_there (map (row_in_order db.sites) all.commits) [] (subst (IsStrictlySortedBy txn_cmp) (sym (rows_txns db.sites all.commits)) lists.ascend) j
      ∙ ap (λ r. standing_of r None) (rows_voters db.sites all.commits j) ∙ rests (voters_in j all.commits) ∙ ap (resting db.sites) (row_is j)
    where
      rests : (r : Option (List Voter)) → standing_of (option_map (in_order db.sites) r) None ≡ resting db.sites (option_map by_site r)
      rests None = refl
      rests (Some voters) = ap (λ vs. standing_of (Some vs) None) (sym (order_is db.sites voters))

  -- each voter is at a site of the database
  at_home : (j : Txn) (voters : List Voter) → voters_in j all.commits ≡ Some voters → by_site (listed db.sites (by_site voters)) ≡ by_site voters
  at_home j voters is = back db.sites voters (row_is_at db.sites all.commits (right_true (are_begun all.life all.commits) (rows_are_at db.sites all.commits) right) j voters is)

  voters_are : (j : Txn) (r : Option (List Voter)) → voters_in j all.commits ≡ r → kept_voters (resting db.sites (option_map by_site r)) ≡ option_map by_site r
  voters_are j None is = refl
  voters_are j (Some voters) is = ap Some (at_home j voters is)

  is_row : (r : Option Voters) → is_some (resting db.sites r) ≡ is_some r
  is_row None = refl
  is_row (Some voters) = refl

  listed_row : (r : Option (List Voter)) → is_some (option_map by_site r) ≡ is_some r
  listed_row None = refl
  listed_row (Some voters) = refl

  shut : (r : Option Voters) → is_open (resting db.sites r) ≡ false
  shut None = refl
  shut (Some voters) = refl

  none_open : (js : List Txn) → open_among table.standing js ≡ 0
  none_open [] = refl
  none_open (j ∷ js) = ap (λ b. length (cond b (j ∷ filter (λ i. is_open (table.standing i)) js) (filter (λ i. is_open (table.standing i)) js))) (ap is_open (there j) ∙ shut (after.commits j)) ∙ none_open js

  at_sites : (j : Txn) (r : Option (List Voter)) → voters_in j all.commits ≡ r → (s : TxnState) → resting db.sites (option_map by_site r) ≡ Some s → IsIn db table.version s
  at_sites j None is s e = cc
  at_sites j (Some voters) is s e = subst (IsIn db table.version) (some_is e) (ap (listed db.sites) (at_home j voters is))

  none_moves : (r : Option Voters) → is_moving (resting db.sites r) ≡ false
  none_moves None = refl
  none_moves (Some voters) = refl

  short : (r : Option Voters) → is_short_txn (txn_of db (resting db.sites r)) ≡ true
  short None = refl
  short (Some voters) = refl

  fits : Fits db after table
  fits = record {
    rows = λ j. ap kept_voters (there j) ∙ ap (λ r. kept_voters (resting db.sites r)) (sym (row_is j)) ∙ voters_are j (voters_in j all.commits) refl ∙ row_is j;
    life = refl;
    version = refl;
    listed = λ j e. some_listed entries j e;
    lives = λ j here. listed_some entries j here;
    begun = λ j e.
        let old : nat_le j.life all.life ≡ true = rows_begun all.life all.commits (left_true (are_begun all.life all.commits) (rows_are_at db.sites all.commits) right) j (sym (listed_row (voters_in j all.commits)) ∙ ap is_some (row_is j) ∙ sym (is_row (after.commits j)) ∙ sym (ap is_some (there j)) ∙ e) in
        let a : after.life ≡ kept.life + 1 = life.life in
        let b : all.life ≡ kept.life = lists.incarnation in
        let h : j.life < after.life = grind (arith) in
        inl h;
    sites = λ j s e. at_sites j (voters_in j all.commits) refl s (ap (resting db.sites) (row_is j) ∙ sym (there j) ∙ e);
    moving = λ j e. clash e (ap is_moving (there j) ∙ none_moves (after.commits j));
    counted = sym (none_open table.txns);
    short = λ j. subst (λ o. is_short_txn (txn_of db o) ≡ true) (sym (there j)) (short (after.commits j));
    few = omega arith;
    low = ((let a : after.life ≡ kept.life + 1 = life.life in omega arith), omega arith);
  }

  pub rises : (es : Entries) (n version : ℕ) → es ≡ entries → n ≡ after.life → version ≡ all.version → Rises db after (volatile_from es 0 n 0 version)
  rises es n version es_are n_is version_is =
      subst (Rises db after) (λ i. volatile_from (sym es_are i) 0 (sym n_is i) 0 (sym (version_is ∙ lists.catalogue ∙ sym life.version) i))
      (record { fits = fits; within = is_within db after table fits; stands = there; undecided = refl; number = refl })
