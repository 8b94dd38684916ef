-- A transaction begins: the state is the protocol's, and what is in memory fits the store.
use Rattle.std.proofs.Common.{◌≡◌, refl, sym, ap, ◌∙◌, subst, ℕ, suc, add-one, ◌+◌, ◌^◌, ◌<◌, ◌≤◌, ◌⊎◌, nat_eq, nat_cmp, nat_lt, nat_le, Bool, true, false, not, ◌&&◌, ◌||◌, List, [], ◌∷◌, ◌++◌, map, length, Option, Some, None, is_some, filter, cond, if◌then◌else◌, inl, inr, ⊎_elim, arith}
use Rattle.std.specs.BTreeMap.{insert_entry}
use Rattle.std.specs.Cmp.Lexicographic.{pointwise}
use Rattle.std.specs.List.{AllByRecursion, list_all, list_any}
use Rattle.std.specs.List.Sorted.{IsStrictlySortedBy}
use Rattle.std.specs.Map.{keys_of}
use Rattle.std.specs.declared.cmp.Ordering.TheVariants.{Greater}
use Rattle.std.proofs.lemmas.List.{length-append, map-append}
use Rattle.std.proofs.lemmas.List.Elements.{filter-append}
use Rattle.store.specs.declared.name.Txn.{Txn}
use Rattle.store.specs.DeskContent.{DeskContent, is_txn}
use Rattle.store.specs.Name.{txn_cmp}
use Rattle.protocol.specs.Desk as desk
use Rattle.protocol.specs.Language.{Name, put, same}
use Rattle.std.specs.Option.{option_map}
use Rattle.std.specs.Ordering.{is_eq}
use Rattle.protocol.specs.Letters.{name_of, txn_name}
use Rattle.protocol.specs.Parts.{In}
use Rattle.protocol.proofs.Basics.{any_in, by_test, clash, every_self, if_false, if_true, in_append, in_left, in_right, some_is}
use Rattle.store.specs.declared.letter.Letter.{Letter}
use Rattle.desk.specs.declared.reply.Notice.{Notice}
use Rattle.desk.specs.declared.reply.Reply.TheVariants.{Begun}
use Rattle.desk.specs.declared.participant.Participant.{Participant}
use Rattle.desk.specs.declared.transaction.TxnState.{TxnState}
use Rattle.desk.specs.Begun.{first_of, next_of, nowhere_yet}
use Rattle.desk.specs.Request.{notices}
use Rattle.desk.specs.Database.{Database, language}
use Rattle.desk.specs.Participants.{is_at, nowhere, sites_of, participant_in}
use Rattle.desk.specs.Transaction.{txn_of}
use Rattle.desk.specs.State.{anyone_moves, Begins, Fits, IsBegun, IsIn, IsMoving, VolatileState, desk_of, is_open, notice_of, open_among, volatile_from, txn_at}
use Rattle.desk.specs.Acknowledge.{kept_voters}
use Rattle.desk.specs.Transition.{is_moving}
use Rattle.catalog.specs.Chain.{IsNext}
use Rattle.desk.proofs.Acknowledged.{txn_is}
use Rattle.desk.proofs.Settled.{few_names, is_within, unknown_is}
use Rattle.desk.proofs.Participants.{text_is}
use Rattle.desk.proofs.Restarted.{entry_there}
use Rattle.desk.proofs.Txns.{Entries, at_txn, filter_all, filter_names, filter_same, last_keys, last_there, put_last, same_txn, stood, stood_all, txn_self, txn_sym}

-- ---- no site is visited
pub none_visited : (j : List ℕ) (sites : List (List ℕ)) → participant_in j (nowhere_yet sites) ≡ nowhere j
none_visited j [] = refl
none_visited j (a ∷ sites) = go (is_at j (nowhere a)) refl (none_visited j sites)
  where
    go : (b : Bool) → pointwise nat_eq a j ≡ b → participant_in j (nowhere_yet sites) ≡ nowhere j → (if b then nowhere a else participant_in j (nowhere_yet sites)) ≡ nowhere j
    go true e rest = ap nowhere (text_is a j e)
    go false e rest = rest

pub fresh_is : (db : Database) (moves : Bool) (sites : List (List ℕ)) → txn_of db (Some (first_of moves (nowhere_yet sites))) ≡ desk.Known (desk.fresh_as moves)
fresh_is db moves sites = λ i. desk.Known (record {
  visited = λ j. ap (λ s. s.visited) (none_visited j sites) i;
  ticket = λ j. ap (λ s. option_map name_of s.ticket) (none_visited j sites) i;
  sent = λ j. ap (λ s. s.sent) (none_visited j sites) i;
  stage = desk.Idle;
  moves = moves;
})

pub its_sites : (sites : List (List ℕ)) → sites_of (nowhere_yet sites) ≡ sites
its_sites [] = refl
its_sites (a ∷ sites) = ap (λ l. a ∷ l) (its_sites sites)

none_sent : (sites : List (List ℕ)) → list_all (λ a. nat_lt 0 (2 ^ 63)) sites ≡ true
none_sent [] = refl
none_sent (a ∷ sites) = none_sent sites

-- whether anyone moves, by what stands and by the transactions
pub anyone_is : (entries : Entries) → IsStrictlySortedBy txn_cmp (keys_of entries) → list_any (λ (e : Txn × TxnState). is_moving (Some e.1)) entries ≡ list_any (λ txn. is_moving (at_txn entries txn)) (keys_of entries)
anyone_is entries sorted = go entries (λ e here. entry_there entries sorted e here)
  where
    go : (es : Entries) → ((e : Txn × TxnState) → In e es → at_txn entries e.0 ≡ Some e.1) → list_any (λ (e : Txn × TxnState). is_moving (Some e.1)) es ≡ list_any (λ txn. is_moving (at_txn entries txn)) (keys_of es)
    go [] each = refl
    go (e ∷ es) each = λ i. is_moving (sym (each e (inl refl)) i) || go es (λ x here. each x (inr here)) i

-- so nobody does where none of these does
pub calm_all : (db : Database) (kept : DeskContent) (table : VolatileState) → Fits db kept table → anyone_moves table ≡ false → (j : Txn) → is_moving (table.standing j) ≡ false
calm_all db kept table fits none j = ⊎_elim (λ moves. clash (any_in (λ txn. is_moving (table.standing txn)) j table.txns (fits.listed j (stands (table.standing j) moves)) moves) none) (λ calm. calm) (by_test (is_moving (table.standing j)))
  where
    stands : (o : Option TxnState) → is_moving o ≡ true → is_some o ≡ true
    stands None e = cc
    stands (Some s) e = refl

module _ (db : Database) (kept : DeskContent) (entries : Entries) (undecided life number version : ℕ) (fits : Fits db kept (volatile_from entries undecided life number version)) (sites : List (List ℕ)) (those : db.sites ≡ sites) (moves : Bool) where
  abbrev before : VolatileState
  before = volatile_from entries undecided life number version

  abbrev next : Txn
  next = next_of before

  -- nobody moves, and who is to has nobody beside it and a next catalogue
  abbrev IsCalm : Type 0
  IsCalm = (j : Txn) → is_moving (before.standing j) ≡ false

  abbrev MayMove : Type 0
  MayMove = moves ≡ true → ((j : Txn) → is_some (before.standing j) ≡ false) × (name : List ℕ) × IsNext (db.catalogue version) (db.catalogue (suc version)) name

  abbrev first : TxnState
  first = first_of moves (nowhere_yet sites)

  abbrev now : VolatileState
  now = volatile_from (insert_entry txn_cmp entries next first) (undecided + 1) life (number + 1) version

  -- it comes after all others
  above_all : (j : Txn) → In j before.txns → txn_cmp next j ≡ Greater
  above_all j here = ⊎_elim
      (λ (below : j.life < life). grind (arith, nat_cmp))
      (λ here. let f : j.number ≤ number = here.1 in let e : j.life ≡ life = here.0 in grind (arith, nat_cmp))
      (fits.begun j (fits.lives j here))

  above : AllByRecursion (λ j. txn_cmp next j ≡ Greater) before.txns
  above = every_self (λ j. txn_cmp next j ≡ Greater) before.txns above_all

  apart : (j : Txn) → In j before.txns → is_txn next j ≡ false
  apart j here = ap is_eq (above_all j here)

  -- nothing stood there
  nothing : before.standing next ≡ None
  nothing = go (before.standing next) refl
    where
      go : (o : Option TxnState) → before.standing next ≡ o → o ≡ None
      go None e = refl
      go (Some s) e = clash (txn_self next) (apart next (fits.listed next (ap is_some e)))

  there : (j : Txn) → now.standing j ≡ stood next (Some first) before.standing j
  there j = ap (λ es. at_txn es j) (put_last next first entries above) ∙ last_there next first entries above j

  keys_are : now.txns ≡ before.txns ++ next ∷ []
  keys_are = ap keys_of (put_last next first entries above) ∙ last_keys next first entries

  elsewhere : (j : Txn) → In j before.txns → now.standing j ≡ before.standing j
  elsewhere j here = there j ∙ if_false (is_txn next j) (Some first) (before.standing j) (apart j here)

  at_next : now.standing next ≡ Some first
  at_next = there next ∙ if_true (is_txn next next) (Some first) (before.standing next) (txn_self next)

  lives_now : (j : Txn) → In j (before.txns ++ next ∷ []) → is_some (now.standing j) ≡ true
  lives_now j here = ⊎_elim
      (λ old. ap is_some (elsewhere j old) ∙ fits.lives j old)
      (λ new. ⊎_elim (λ e. subst (λ i. is_some (now.standing i) ≡ true) (sym e) (ap is_some at_next)) (λ no_more. absurd no_more) new)
      (in_append j before.txns (next ∷ []) here)

  -- ---- the state
  abbrev txns : Name → desk.Txn (language db)
  txns = put same (txn_name next) (desk.Known (desk.fresh_as moves)) (desk_of db before).txn

  fresh_now : txn_of db (Some first) ≡ desk.Known (desk.fresh_as moves)
  fresh_now = fresh_is db moves sites

  txn_there : (j : Txn) → txn_of db (now.standing j) ≡ txns (txn_name j)
  txn_there j = ap (txn_of db) (there j) ∙ go (is_txn next j) ∙ ap (λ b. if b then desk.Known (desk.fresh_as moves) else txn_of db (before.standing j)) (sym (same_txn j next ∙ txn_sym j next))
    where
      go : (b : Bool) → txn_of db (if b then Some first else before.standing j) ≡ (if b then desk.Known (desk.fresh_as moves) else txn_of db (before.standing j))
      go true = fresh_now
      go false = refl

  known_are : map txn_name now.txns ≡ filter (λ t. not (desk.is_unknown (txns t))) (map txn_name before.txns ++ txn_name next ∷ [])
  known_are =
      ap (map txn_name) keys_are
      ∙ ap (map txn_name) (sym (filter_all (λ j. is_some (now.standing j)) (before.txns ++ next ∷ []) lives_now))
      ∙ sym (filter_names (λ t. not (desk.is_unknown (txns t))) (λ j. is_some (now.standing j)) (before.txns ++ next ∷ []) (λ j here. ap (λ y. not (desk.is_unknown y)) (sym (txn_there j)) ∙ unknown_is db (now.standing j)))
      ∙ ap (filter (λ t. not (desk.is_unknown (txns t)))) (map-append txn_name before.txns (next ∷ []))

  pub began_state : desk_of db now ≡ desk.began_as moves (desk_of db before)
  began_state = λ i. record { txn = λ name. txn_there (txn_at name) i; known = known_are i; life = life; number = add-one number i }

  -- ---- how many are undecided
  one_more : undecided + 1 ≡ open_among now.standing now.txns
  one_more =
      sym (ap (λ l. length (filter (λ j. is_open (now.standing j)) l)) keys_are
      ∙ ap length (filter-append (λ j. is_open (now.standing j)) before.txns (next ∷ []))
      ∙ length-append (filter (λ j. is_open (now.standing j)) before.txns) (filter (λ j. is_open (now.standing j)) (next ∷ []))
      ∙ (λ i. length (filter_same (λ j. is_open (now.standing j)) (λ j. is_open (before.standing j)) before.txns (λ j here. ap is_open (elsewhere j here)) i)
      + length (cond (ap is_open at_next i) (next ∷ []) []))
      ∙ ap (λ n. n + 1) (sym fits.counted))

  pub fits_begun : IsCalm → MayMove → undecided + 1 ≤ 256 → number + 2 ≤ 2 ^ 63 → Fits db kept now
  fits_begun calm alone few low = record {
    rows = λ j. ap kept_voters (there j) ∙ stood_all next (Some first) before.standing (λ i o. kept_voters o ≡ kept.commits i) (sym (ap kept_voters nothing) ∙ fits.rows next) (λ i a. fits.rows i) j;
    life = fits.life;
    version = fits.version;
    listed = λ j e. subst (In j) (sym keys_are) (listed_now j (ap is_some (sym (there j)) ∙ e));
    lives = λ j here. lives_now j (subst (In j) keys_are here);
    begun = λ j e. stood_all next (Some first) before.standing (λ i o. is_some o ≡ true → IsBegun now i) (λ f. inr (refl, omega arith)) (λ i a f. later i (fits.begun i f)) j (ap is_some (sym (there j)) ∙ e);
    sites = λ j s e. stood_all next (Some first) before.standing (λ i o. o ≡ Some s → IsIn db version s) (λ f. subst (IsIn db version) (some_is f) (its_sites sites ∙ sym those, tt, tt)) (λ i a f. fits.sites i s f) j (sym (there j) ∙ e);
    moving = λ j e. stood_all next (Some first) before.standing (λ i o. is_moving o ≡ true → IsMoving db now i)
        (λ m. record { alone = λ other stands. its_own (alone m).0 other stands; next = ((alone m).1, (alone m).2) }) (λ i a m. clash m (calm i)) j (ap is_moving (sym (there j)) ∙ e);
    counted = one_more;
    short = λ j. subst (λ o. desk.is_short_txn (txn_of db o) ≡ true) (sym (there j)) (stood_all next (Some first) before.standing (λ i o. desk.is_short_txn (txn_of db o) ≡ true) (ap desk.is_short_txn fresh_now ∙ none_sent db.sites) (λ i a. fits.short i) j);
    few = few;
    low = (fits.low.0, omega arith);
  }
    where
      -- where nothing stood it is the only one
      its_own : ((j : Txn) → is_some (before.standing j) ≡ false) → (j : Txn) → is_some (now.standing j) ≡ true → j ≡ next
      its_own none j e = stood_all next (Some first) before.standing (λ i o. is_some o ≡ true → i ≡ next) (λ f. refl) (λ i a f. clash f (none i)) j (ap is_some (sym (there j)) ∙ e)

      listed_now : (j : Txn) → is_some (stood next (Some first) before.standing j) ≡ true → In j (before.txns ++ next ∷ [])
      listed_now j e = stood_all next (Some first) before.standing (λ i o. is_some o ≡ true → In i (before.txns ++ next ∷ [])) (λ f. in_right next before.txns (next ∷ []) (inl refl)) (λ i a f. in_left i before.txns (next ∷ []) (fits.listed i f)) j e

      later : (j : Txn) → IsBegun before j → IsBegun now j
      later j is = ⊎_elim (λ below. inl below) (λ here. inr (here.0, (let f : j.number ≤ number = here.1 in omega arith))) is

  pub begins : IsCalm → MayMove → (table : VolatileState) (participants : List Participant) (txn : Txn) (written : List Letter) (heard : List Notice) → participants ≡ nowhere_yet sites → table ≡ volatile_from (insert_entry txn_cmp entries next (first_of moves participants)) (undecided + 1) life (number + 1) version →
      undecided + 1 ≤ 256 → number + 2 ≤ 2 ^ 63 → txn ≡ next → written ≡ [] → heard ≡ notices txn (Some Begun) → Begins db moves before kept table written heard
  begins calm alone table participants txn written heard participants_are table_is few low txn_is none heard_is =
      let same : table ≡ now = table_is ∙ ap (λ ss. volatile_from (insert_entry txn_cmp entries next (first_of moves ss)) (undecided + 1) life (number + 1) version) participants_are in
      let fit : Fits db kept table = subst (Fits db kept) (sym same) (fits_begun calm alone few low) in
      record {
        fits = fit;
        within = is_within db kept table fit;
        state = ap (desk_of db) same ∙ began_state;
        version = ap (λ t. t.version) same;
        letters = none;
        replies = ap (map notice_of) heard_is ∙ ap (λ t. (txn_name t, Begun) ∷ []) txn_is;
      }

  -- ---- where there is a limit
  not_below : (m n : ℕ) → n ≤ m → nat_lt m n ≡ false
  not_below m n le = grind (arith)

  not_up_to : (m n : ℕ) → n < m → nat_le m n ≡ false
  not_up_to m n lt = grind (arith)

  pub past_limit : (256 ≤ undecided) ⊎ (2 ^ 63 ≤ number + 1) → desk.is_desk_within (desk.began_as moves (desk_of db before)) ≡ false
  past_limit over = ap desk.is_desk_within (sym began_state) ∙ ⊎_elim
      (λ (many : 256 ≤ undecided). and_false _ _ (ap (λ n. nat_le n 256) (few_names db now one_more) ∙ not_up_to (undecided + 1) 256 (omega arith)))
      (λ (last : 2 ^ 63 ≤ number + 1). false_and _ _ (false_and _ _ (and_false (nat_lt life (2 ^ 63)) _ (not_below (number + 1) (2 ^ 63) last))))
      over
    where
      and_false : (a b : Bool) → b ≡ false → (a && b) ≡ false
      and_false true b e = e
      and_false false b e = refl

      false_and : (a b : Bool) → a ≡ false → (a && b) ≡ false
      false_and true b e = cc
      false_and false b e = refl
