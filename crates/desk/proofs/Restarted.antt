-- A restart: the state is the protocol's, and so are the letters and the replies.
use Rattle.std.proofs.Common.{◌≡◌, refl, sym, ap, ◌∙◌, subst, ℕ, suc, add-one, Bool, true, false, not, ◌⊎◌, List, [], ◌∷◌, ◌++◌, map, Option, Some, None, is_some, filter, cond, if◌then◌else◌, inl, inr}
use Rattle.std.specs.List.{AllByRecursion, filter_map, flat_map, list_any}
use Rattle.std.specs.List.Sorted.{IsStrictlySortedBy}
use Rattle.std.specs.Map.{keys_of}
use Rattle.std.specs.Option.{option_map}
use Rattle.std.specs.Ordering.{is_eq}
use Rattle.std.specs.declared.cmp.Ordering.TheVariants.{Less}
use Rattle.std.proofs.lemmas.List.{map-append}
use Rattle.std.proofs.lemmas.List.Elements.{filter_map-append}
use Rattle.std.proofs.lemmas.List.Kept.{IsStrictlySortedBy-filter}
use Rattle.std.proofs.lemmas.Map.Keys.{sorted_head, sorted_tail}
use Rattle.std.proofs.lemmas.Map.Lookups.{btree_set_from_contains}
use Rattle.store.specs.declared.commit.CommitRow.{CommitRow}
use Rattle.store.specs.declared.commit.Voter.{Voter}
use Rattle.store.specs.declared.letter.Letter.{Letter}
use Rattle.store.specs.declared.name.Txn.{Txn}
use Rattle.store.specs.DeskContent.{BeginsLife, DeskContent, Voters, by_site, is_txn, voters_in}
use Rattle.store.specs.Name.{txn_cmp}
use Rattle.store.specs.Orders.{txn_cmp_total, txn_cmp-IsAntisymmetric}
use Rattle.protocol.specs.Desk as desk
use Rattle.protocol.specs.Language.{Name}
use Rattle.protocol.specs.Letter as protocol
use Rattle.protocol.specs.Letters.{txn_name}
use Rattle.protocol.specs.Parts.{In}
use Rattle.protocol.proofs.Basics.{any_in, clash, found, if_false, if_true, in_filter, some_is}
use Rattle.protocol.proofs.Locks.{from_filter}
use Rattle.desk.specs.declared.reply.Notice.{Notice}
use Rattle.desk.specs.declared.transaction.TxnState.{TxnState}
use Rattle.desk.specs.declared.transaction.TxnState.TheVariants as standing
use Rattle.desk.specs.Database.{Database, language, sent}
use Rattle.desk.specs.Transaction.{txn_of, voter_of}
use Rattle.desk.specs.Recovery.{Restarts, Rises, SendsAgain, commits_again, lost_among, resting, with_lost}
use Rattle.desk.specs.State.{Fits, IsMemory, IsIn, VolatileState, desk_of, notice_of, volatile_from, txn_at}
use Rattle.desk.specs.Transition.{told}
use Rattle.desk.specs.Acknowledge.{AreInOrder, commit_letters, kept_voters, listed}
use Rattle.desk.proofs.Acknowledged.{same_bool, txn_is}
use Rattle.desk.proofs.Decisions.{commits_is}
use Rattle.desk.proofs.Rising.{txns_of}
use Rattle.desk.proofs.Settled.{unknown_is}
use Rattle.desk.proofs.Txns.{Entries, at_txn, filter_names, txn_self, txn_sym}

-- lists in order that have the same transactions are the same
same_txns : (xs ys : List Txn) → IsStrictlySortedBy txn_cmp xs → IsStrictlySortedBy txn_cmp ys → ((j : Txn) → In j xs → In j ys) → ((j : Txn) → In j ys → In j xs) → xs ≡ ys
same_txns xs ys one other there back =
    btree_set_from_contains txn_cmp_total (record { keys = xs }) (record { keys = ys }) one other
    (λ j. same_bool (list_any (is_txn j) xs) (list_any (is_txn j) ys) (λ e. moved j xs ys e (there j)) (λ e. moved j ys xs e (back j)))
    txn_cmp-IsAntisymmetric
  where
    moved : (j : Txn) (from to : List Txn) → list_any (is_txn j) from ≡ true → (In j from → In j to) → list_any (is_txn j) to ≡ true
    moved j from to e go =
        let f = found (is_txn j) from e in
        any_in (is_txn j) j to (go (subst (λ k. In k from) (sym (txn_is j f.0 f.2)) f.1)) (txn_self j)

-- ---- entries
head_below : (k : Txn) (e : Txn × TxnState) (entries : Entries) → AllByRecursion (λ j. txn_cmp k j ≡ Less) (keys_of entries) → In e entries → is_txn k e.0 ≡ false
head_below k e [] below here = absurd here
head_below k e (x ∷ entries) below (inl is) = ap (λ (y : Txn × TxnState). is_txn k y.0) is ∙ ap is_eq below.0
head_below k e (x ∷ entries) below (inr here) = head_below k e entries below.1 here

-- what stands there is what is listed
pub entry_there : (entries : Entries) → IsStrictlySortedBy txn_cmp (keys_of entries) → (e : Txn × TxnState) → In e entries → at_txn entries e.0 ≡ Some e.1
entry_there [] sorted e here = absurd here
entry_there (x ∷ entries) sorted e (inl is) = ap (λ (y : Txn × TxnState). at_txn (x ∷ entries) y.0) is ∙ if_true (is_txn x.0 x.0) (Some x.1) (at_txn entries x.0) (txn_self x.0) ∙ ap (λ (y : Txn × TxnState). Some y.1) (sym is)
entry_there (x ∷ entries) sorted e (inr here) =
    if_false (is_txn e.0 x.0) (Some x.1) (at_txn entries e.0) (txn_sym e.0 x.0 ∙ head_below x.0 e entries (sorted_head txn_cmp x.0 (keys_of entries) sorted) here)
    ∙ entry_there entries (sorted_tail txn_cmp x.0 (keys_of entries) sorted) e here

-- ---- rows
row_below : (k : Txn) (row : CommitRow) (rows : List CommitRow) → AllByRecursion (λ j. txn_cmp k j ≡ Less) (txns_of rows) → In row rows → is_txn k row.txn ≡ false
row_below k row [] below here = absurd here
row_below k row (x ∷ rows) below (inl is) = ap (λ (y : CommitRow). is_txn k y.txn) is ∙ ap is_eq below.0
row_below k row (x ∷ rows) below (inr here) = row_below k row rows below.1 here

row_there : (rows : List CommitRow) → IsStrictlySortedBy txn_cmp (txns_of rows) → (row : CommitRow) → In row rows → voters_in row.txn rows ≡ Some row.voters
row_there [] sorted row here = absurd here
row_there (x ∷ rows) sorted row (inl is) = ap (λ (y : CommitRow). voters_in y.txn (x ∷ rows)) is ∙ if_true (is_txn x.txn x.txn) (Some x.voters) (voters_in x.txn rows) (txn_self x.txn) ∙ ap (λ (y : CommitRow). Some y.voters) (sym is)
row_there (x ∷ rows) sorted row (inr here) =
    if_false (is_txn row.txn x.txn) (Some x.voters) (voters_in row.txn rows) (txn_sym row.txn x.txn ∙ row_below x.txn row rows (sorted_head txn_cmp x.txn (txns_of rows) sorted) here)
    ∙ row_there rows (sorted_tail txn_cmp x.txn (txns_of rows) sorted) row here

row_listed : (rows : List CommitRow) (j : Txn) → is_some (voters_in j rows) ≡ true → In j (txns_of rows)
row_listed [] j e = cc
row_listed (x ∷ rows) j e = go (row_listed rows j) (is_txn j x.txn) refl e
  where
    go : (is_some (voters_in j rows) ≡ true → In j (txns_of rows)) → (b : Bool) → is_txn j x.txn ≡ b → is_some (if b then Some x.voters else voters_in j rows) ≡ true → In j (txns_of (x ∷ rows))
    go below true is f = inl (txn_is j x.txn is)
    go below false is f = inr (below f)

row_some : (rows : List CommitRow) (j : Txn) → In j (txns_of rows) → is_some (voters_in j rows) ≡ true
row_some [] j here = absurd here
row_some (x ∷ rows) j here = go (row_some rows j) (is_txn j x.txn) refl here
  where
    go : (In j (txns_of rows) → is_some (voters_in j rows) ≡ true) → (b : Bool) → is_txn j x.txn ≡ b → (j ≡ x.txn) ⊎ In j (txns_of rows) → is_some (if b then Some x.voters else voters_in j rows) ≡ true
    go below true is h = refl
    go below false is (inl e) = clash (subst (λ k. is_txn j k ≡ true) e (txn_self j)) is
    go below false is (inr h) = below h

-- ---- what a restart makes of what stands
module _ (db : Database) where
  abbrev turned : Txn → Option TxnState → desk.Transition (language db)
  turned j o = desk.txn_restarted (txn_name j) (txn_of db o)

  some_row : (o : Option TxnState) → is_some (kept_voters o) ≡ true → is_some o ≡ true
  some_row None e = cc
  some_row (Some s) e = refl

  -- who is decided stays
  rows_stay : (n : ℕ) (j : Txn) (o : Option TxnState) → ((s : TxnState) → o ≡ Some s → IsIn db n s) → (turned j o).txn ≡ txn_of db (resting db.sites (kept_voters o))
  rows_stay n j None home = refl
  rows_stay n j (Some (standing.Undecided u)) home = refl
  rows_stay n j (Some (standing.Committed c)) home = ap (λ vs. desk.Row (map voter_of vs) []) (sym (home (standing.Committed c) refl))

  none_said : (j : Txn) (o : Option TxnState) → is_some (kept_voters o) ≡ false → (turned j o).letters ≡ []
  none_said j None e = refl
  none_said j (Some (standing.Undecided u)) e = refl
  none_said j (Some (standing.Committed c)) e = cc

  said : (n : ℕ) (j : Txn) (o : Option TxnState) (voters : List Voter) → ((s : TxnState) → o ≡ Some s → IsIn db n s) → AreInOrder db.sites voters → kept_voters o ≡ Some (by_site voters) → (turned j o).letters ≡ map (sent db) (commit_letters j voters)
  said n j None voters home order e = cc
  said n j (Some (standing.Undecided u)) voters home order e = cc
  said n j (Some (standing.Committed c)) voters home order e =
      sym (commits_is db j c.voters) ∙ ap (λ vs. map (sent db) (commit_letters j vs)) (sym (home (standing.Committed c) refl) ∙ ap (listed db.sites) (some_is e) ∙ order)

  order_there : (rows : List CommitRow) → AllByRecursion (λ row. AreInOrder db.sites row.voters) rows → (row : CommitRow) → In row rows → AreInOrder db.sites row.voters
  order_there [] all row here = absurd here
  order_there (x ∷ rows) all row (inl is) = subst (λ (y : CommitRow). AreInOrder db.sites y.voters) (sym is) all.0
  order_there (x ∷ rows) all row (inr here) = order_there rows all.1 row here

  one_lost : (j : Txn) (s : TxnState) (notices : List Notice) → map notice_of (with_lost j s notices) ≡ filter_map (told db) (turned j (Some s)).deeds ++ map notice_of notices
  one_lost j (standing.Undecided u) notices = refl
  one_lost j (standing.Committed c) notices = refl

  -- only rows say something
  flat_rows : (f : Txn → List (protocol.Letter (language db))) (p : Txn → Bool) (js : List Txn) → ((j : Txn) → p j ≡ false → f j ≡ []) → flat_map f js ≡ flat_map f (filter p js)
  flat_rows f p [] none = refl
  flat_rows f p (j ∷ js) none = go (p j) refl (flat_rows f p js none)
    where
      go : (b : Bool) → p j ≡ b → flat_map f js ≡ flat_map f (filter p js) → f j ++ flat_map f js ≡ flat_map f (cond b (j ∷ filter p js) (filter p js))
      go true e rest = ap (λ l. f j ++ l) rest
      go false e rest = ap (λ l. l ++ flat_map f js) (none j e) ∙ rest

  flat_names : {A : Type 0} (f : Name → List A) (js : List Txn) → flat_map f (map txn_name js) ≡ flat_map (λ j. f (txn_name j)) js
  flat_names f [] = refl
  flat_names f (j ∷ js) = ap (λ l. f (txn_name j) ++ l) (flat_names f js)

  all_said : (f : Txn → List (protocol.Letter (language db))) (rows : List CommitRow) → ((row : CommitRow) → In row rows → f row.txn ≡ map (sent db) (commit_letters row.txn row.voters)) → map (sent db) (commits_again rows) ≡ flat_map f (txns_of rows)
  all_said f [] each = refl
  all_said f (row ∷ rows) each = map-append (sent db) (commit_letters row.txn row.voters) (commits_again rows) ∙ (λ i. sym (each row (inl refl)) i ++ all_said f rows (λ r here. each r (inr here)) i)

  all_lost : (f : Txn → List (desk.Deed (language db))) (entries : Entries) → ((e : Txn × TxnState) → In e entries → f e.0 ≡ (turned e.0 (Some e.1)).deeds) → map notice_of (lost_among entries) ≡ filter_map (told db) (flat_map f (keys_of entries))
  all_lost f [] each = refl
  all_lost f (e ∷ entries) each =
      one_lost e.0 e.1 (lost_among entries) ∙ (λ i. filter_map (told db) (sym (each e (inl refl)) i) ++ all_lost f entries (λ x here. each x (inr here)) i)
      ∙ sym (told_more (f e.0) (flat_map f (keys_of entries)))
    where
      told_more : (ds es : List (desk.Deed (language db))) → filter_map (told db) (ds ++ es) ≡ filter_map (told db) ds ++ filter_map (told db) es
      told_more ds es = filter_map-append (told db) ds es

module _ (db : Database) (old new : DeskContent) (entries : Entries) (sorted : IsStrictlySortedBy txn_cmp (keys_of entries)) (undecided life number version : ℕ) (fits : Fits db old (volatile_from entries undecided life number version))
    (after : VolatileState) (ascend : IsStrictlySortedBy txn_cmp after.txns) (rises : Rises db new after) (begins : BeginsLife old new) where
  abbrev before : VolatileState
  before = volatile_from entries undecided life number version

  abbrev is_row : Txn → Bool
  is_row j = is_some (old.commits j)

  same_rows : (j : Txn) → kept_voters (after.standing j) ≡ kept_voters (before.standing j)
  same_rows j = rises.fits.rows j ∙ begins.commits j ∙ sym (fits.rows j)

  before_listed : (j : Txn) → is_row j ≡ true → In j (filter is_row before.txns)
  before_listed j e = in_filter is_row j before.txns (fits.listed j (some_row db (before.standing j) (ap is_some (fits.rows j) ∙ e))) e

  is_some_row : (r : Option Voters) → is_some (resting db.sites r) ≡ is_some r
  is_some_row None = refl
  is_some_row (Some voters) = refl

  is_some_list : (r : Option (List Voter)) → is_some (option_map by_site r) ≡ is_some r
  is_some_list None = refl
  is_some_list (Some voters) = refl

  after_row : (j : Txn) → is_some (after.standing j) ≡ is_row j
  after_row j = ap is_some (rises.stands j) ∙ is_some_row (new.commits j) ∙ ap is_some (begins.commits j)

  rows_sorted : IsStrictlySortedBy txn_cmp (filter is_row before.txns)
  rows_sorted = IsStrictlySortedBy-filter txn_cmp is_row before.txns sorted

  txns_are : after.txns ≡ filter is_row before.txns
  txns_are = same_txns after.txns (filter is_row before.txns) ascend rows_sorted
      (λ j here. before_listed j (sym (after_row j) ∙ rises.fits.lives j here))
      (λ j here. rises.fits.listed j (after_row j ∙ (from_filter is_row j before.txns here).1))

  -- ---- the state
  txn_there : (j : Txn) → txn_of db (after.standing j) ≡ (turned db j (before.standing j)).txn
  txn_there j = ap (txn_of db) (rises.stands j ∙ ap (resting db.sites) (begins.commits j ∙ sym (fits.rows j))) ∙ sym (rows_stay db version j (before.standing j) (fits.sites j))

  known_are : map txn_name after.txns ≡ filter (λ t. not (desk.is_unknown (desk.txn_restarted t ((desk_of db before).txn t)).txn)) (map txn_name before.txns)
  known_are = ap (map txn_name) txns_are ∙ sym (filter_names (λ t. not (desk.is_unknown (desk.txn_restarted t ((desk_of db before).txn t)).txn)) is_row before.txns
      (λ j here. ap (λ x. not (desk.is_unknown x)) (sym (txn_there j)) ∙ unknown_is db (after.standing j) ∙ after_row j))

  pub state_is : desk_of db after ≡ desk.desk_restarted (desk_of db before)
  state_is = λ i. record {
    txn = λ name. txn_there (txn_at name) i;
    known = known_are i;
    life = (rises.fits.life ∙ begins.life ∙ add-one old.life ∙ ap suc (sym fits.life)) i;
    number = rises.number i;
  }

  -- ---- the letters
  letters_are : (written : List Letter) → SendsAgain db.sites new written → map (sent db) written ≡ flat_map (λ t. (desk.txn_restarted t ((desk_of db before).txn t)).letters) (map txn_name before.txns)
  letters_are written sends =
      let says : Txn → List (protocol.Letter (language db)) = λ j. (turned db j (before.standing j)).letters in
      ap (map (sent db)) sends.letters
      ∙ all_said db says sends.rows (λ row here. said db version row.txn (before.standing row.txn) row.voters (fits.sites row.txn) (order_there db sends.rows sends.in_order row here) (fits.rows row.txn ∙ sym (begins.commits row.txn) ∙ sym (sends.voters row.txn) ∙ ap (option_map by_site) (row_there sends.rows sends.ascend row here)))
      ∙ ap (flat_map says) (same_txns (txns_of sends.rows) (filter is_row before.txns) sends.ascend rows_sorted
      (λ j here. before_listed j (ap is_some (sym (begins.commits j)) ∙ ap is_some (sym (sends.voters j)) ∙ is_some_list (voters_in j sends.rows) ∙ row_some sends.rows j here))
      (λ j here. row_listed sends.rows j (sym (is_some_list (voters_in j sends.rows)) ∙ ap is_some (sends.voters j ∙ begins.commits j) ∙ (from_filter is_row j before.txns here).1)))
      ∙ sym (flat_rows db says is_row before.txns (λ j none. none_said db j (before.standing j) (ap is_some (fits.rows j) ∙ none)))
      ∙ sym (flat_names db (λ t. (desk.txn_restarted t ((desk_of db before).txn t)).letters) before.txns)

  -- ---- the replies
  replies_are : map notice_of (lost_among entries) ≡ filter_map (told db) (flat_map (λ t. (desk.txn_restarted t ((desk_of db before).txn t)).deeds) (map txn_name before.txns))
  replies_are =
      all_lost db (λ j. (turned db j (before.standing j)).deeds) entries (λ e here. ap (λ o. (turned db e.0 o).deeds) (entry_there entries sorted e here))
      ∙ ap (filter_map (told db)) (sym (flat_names db (λ t. (desk.txn_restarted t ((desk_of db before).txn t)).deeds) before.txns))

  pub restarts : (table : VolatileState) (written : List Letter) (heard : List Notice) → table ≡ after → SendsAgain db.sites new written → heard ≡ lost_among entries → Restarts db before new table written heard
  restarts table written heard table_is sends heard_is = record {
    fits = subst (Fits db new) (sym table_is) rises.fits;
    within = ap (λ t. desk.is_desk_within (desk_of db t)) table_is ∙ rises.within;
    state = ap (desk_of db) table_is ∙ state_is;
    version = ap (λ t. t.version) table_is ∙ rises.fits.version ∙ begins.version ∙ sym fits.version;
    letters = letters_are written sends;
    again = sends;
    replies = ap (map notice_of) heard_is ∙ replies_are;
  }

-- a coordinator that comes up over what its store kept is that of before after a restart
pub risen : (db : Database) (old new : DeskContent) (before after : VolatileState) → IsMemory before → Fits db old before → IsStrictlySortedBy txn_cmp after.txns → Rises db new after → BeginsLife old new → desk_of db after ≡ desk.desk_restarted (desk_of db before)
risen db old new before after memory fits ascend rises begins =
    state_is db old new memory.entries memory.ascend before.undecided before.life before.number before.version (subst (Fits db old) memory.is fits) after ascend rises begins ∙ ap (λ table. desk.desk_restarted (desk_of db table)) (sym memory.is)
