-- What each call makes of what the coordinator keeps, and that its rows stay as its store leaves them.
use Rattle.std.proofs.Common.{◌≡◌, ◌⊎◌, ℕ, ℤ, pos, ◌+◌, ◌≤ℤ◌, true, false, cond, List, drop, None, string_bytes, unsigned_abs, refl, sym, ap, ◌∙◌, subst, inl, inr, arith}
use Rattle.std.specs.Ordering.{is_eq}
use Rattle.std.specs.Str.{IsUtf8}
use Rattle.std.proofs.lemmas.Bool.{and_parts, and_from, both_ways, cases_Bool, false_from_ne_true}
use Rattle.std.proofs.lemmas.Cmp.{tied_itself}
use Rattle.std.proofs.lemmas.Int.{ints}
use Rattle.sqlite.specs.Edit.{id_in}
use Rattle.sqlite.specs.Effect.{Database, IsDatabase}
use Rattle.sqlite.specs.Order.{Row, column, bytes}
use Rattle.sqlite_rules.specs.Lists.{Has}
use Rattle.sqlite_rules.proofs.ListLemmas.{all_has}
use Rattle.store.specs.declared.commit.Voter.{Voter}
use Rattle.store.specs.declared.name.Txn.{Txn}
use Rattle.store.specs.DeskContent.{IsUnchanged, KeepsCommit, DropsCommit, BeginsLife, commit_row, is_txn}
use Rattle.store.specs.Name.{txn_cmp}
use Rattle.store.specs.Orders.{txn_cmp_total, txn_cmp-IsAntisymmetric}
use Rattle.sqlstore.specs.declared.decision.Decision.{Decision}
use Rattle.sqlstore.specs.declared.visit.Visit.{Visit}
use Rattle.sqlstore.specs.declared.vote.Vote.{Vote}
use Rattle.sqlstore.specs.Cells.{text_at, int_at, is_int}
use Rattle.sqlstore.specs.Content.{life_in}
use Rattle.sqlstore.specs.Decided.{is_by, voter_in, voters_by, version_in, decided_of}
use Rattle.sqlstore.specs.DeskQuery.{DecidesNow, BeginsNext, first_version}
use Rattle.sqlstore.specs.DeskSound.{IsDecided, IsVote}
use Rattle.sqlstore.specs.DeskStep.{Undecides, vote_params}
use Rattle.sqlstore.specs.DeskTables.{desk_schema}
use Rattle.sqlstore.specs.Rows.{AreTablesOf}
use Rattle.sqlstore.specs.Step.{visit_params}
use Rattle.sqlstore.specs.Tests.{of_visit, passes}
use Rattle.sqlstore.specs.Votes.{IsDecisionOf, IsNamed, vote_cells, voter_cells}
use Rattle.sqlstore.proofs.Bridge.{two, eq_int_at, int_same, same_int}
use Rattle.sqlstore.proofs.Deleting.{is_equal}
use Rattle.sqlstore.proofs.DeskTyped.{vote_typed, vote_once, epoch_once}
use Rattle.sqlstore.proofs.Epochs.{epoch_stays, life_shown, version_shown, life_from_zero, version_from_zero, life_is, version_is, same_votes, epoch_stored}
use Rattle.sqlstore.proofs.Querying.{mapped_has, has_mapped}
use Rattle.sqlstore.proofs.Typed.{column_drop}
use Rattle.sqlstore.proofs.Voting.{voter_from, voter_listed, same_commit, no_commit, none_voted}

-- ---- transactions

by_parts : (txn : Txn) (row : Row) → is_by txn row ≡ true → (int_at row 1 ≡ pos txn.life) × (int_at row 2 ≡ pos txn.number)
by_parts txn row mine =
    let parts = and_parts (is_int (int_at row 1) (pos txn.life)) (is_int (int_at row 2) (pos txn.number)) mine in
    (int_same (int_at row 1) (pos txn.life) parts.0, int_same (int_at row 2) (pos txn.number) parts.1)

parts_by : (txn : Txn) (row : Row) → int_at row 1 ≡ pos txn.life → int_at row 2 ≡ pos txn.number → is_by txn row ≡ true
parts_by txn row life number = and_from _ _ (same_int _ _ life) (same_int _ _ number)

pos_same : (m n : ℕ) → pos m ≡ pos n → m ≡ n
pos_same m n e = cc

pub txn_same : (one other : Txn) → is_txn one other ≡ true → one ≡ other
txn_same one other same = txn_cmp-IsAntisymmetric one other (is_equal _ same)

-- a row is of one transaction alone
pub one_txn : (one other : Txn) (row : Row) → is_by one row ≡ true → is_by other row ≡ true → is_txn one other ≡ true
one_txn one other row mine its =
    let a = by_parts one row mine in
    let b = by_parts other row its in
    let life : one.life ≡ other.life = pos_same one.life other.life (sym a.0 ∙ b.0) in
    let number : one.number ≡ other.number = pos_same one.number other.number (sym a.1 ∙ b.1) in
    let same : one ≡ other = λ i. record { life = life i; number = number i } in
    ap (λ txn. is_eq (txn_cmp txn other)) same ∙ ap is_eq (tied_itself txn_cmp_total other)

apart_by : (one other : Txn) → is_txn one other ≡ false → (row : Row) → is_by other row ≡ true → is_by one row ≡ false
apart_by one other differ row its = false_from_ne_true (is_by one row) (λ mine. both_ways (is_txn one other) differ (one_txn one other row mine its))

-- the voters of a transaction are each of another site
voters_apart : (db : Database) (sound : IsDatabase db) (tables : AreTablesOf desk_schema db) (txn : Txn) (a b : Voter) → Has (voters_by (db.trees 0) txn) a → Has (voters_by (db.trees 0) txn) b → a.site ≡ b.site → a ≡ b
voters_apart db sound tables txn a b h k same =
    let one = voter_from (db.trees 0) txn a h in
    let other = voter_from (db.trees 0) txn b k in
    let m = by_parts txn one.0 one.2 in
    let n = by_parts txn other.0 other.2 in
    let site : text_at one.0 3 ≡ text_at other.0 3 = sym (ap (λ (v : Voter). v.site) one.3) ∙ same ∙ ap (λ (v : Voter). v.site) other.3 in
    one.3 ∙ ap voter_in (vote_once db sound tables one.0 other.0 one.1 other.1 (m.0 ∙ sym n.0) (m.1 ∙ sym n.1) site) ∙ sym other.3

-- where the rows of a transaction are the same, so is its commit row
pub same_rows : (db : Database) (sound : IsDatabase db) (tables : AreTablesOf desk_schema db) (txn : Txn) (rows : List Row) → ((row : Row) → Has rows row → is_by txn row ≡ true → Has (db.trees 0) row) → ((row : Row) → Has (db.trees 0) row → is_by txn row ≡ true → Has rows row)
    → commit_row (voters_by rows txn) ≡ commit_row (voters_by (db.trees 0) txn)
same_rows db sound tables txn rows to from =
    same_commit (voters_by rows txn) (voters_by (db.trees 0) txn)
    (λ voter there. let row = voter_from rows txn voter there in subst (Has (voters_by (db.trees 0) txn)) (sym row.3) (voter_listed (db.trees 0) txn row.0 (to row.0 row.1 row.2) row.2))
    (λ voter there. let row = voter_from (db.trees 0) txn voter there in subst (Has (voters_by rows txn)) (sym row.3) (voter_listed rows txn row.0 (from row.0 row.1 row.2) row.2))
    (voters_apart db sound tables txn)

-- what is committed as it was is unchanged
pub unchanged_by : (old new : Database) → new ≡ old → IsUnchanged (decided_of old) (decided_of new)
unchanged_by old new same = record { commits = λ txn. ap (λ (db : Database). (decided_of db).commits txn) same; life = ap (λ (db : Database). (decided_of db).life) same; version = ap (λ (db : Database). (decided_of db).version) same }

-- ---- a commit row goes

-- which numbers stand for a transaction
pub record StandsFor (numbers : Visit) (txn : Txn) : Type 0 where
  pub life : numbers.life ≡ pos txn.life
  pub number : numbers.visit ≡ pos txn.number

module _ (txn : Txn) (numbers : Visit) (stands : StandsFor numbers txn) (old new : Database) (was_sound : IsDatabase old) (tables : AreTablesOf desk_schema old) (made : Undecides numbers old new) where
  test_is : (row : Row) → Has (old.trees 0) row → passes of_visit (visit_params numbers) row ≡ is_by txn row
  test_is row there =
      let typed = vote_typed old was_sound tables row there in
      two _ _ _ _ (eq_int_at (column row 1) (int_at row 1) numbers.life (pos txn.life) typed.txn_life stands.life) (eq_int_at (column row 2) (int_at row 2) numbers.visit (pos txn.number) typed.txn_number stands.number)

  gone : (row : Row) → Has (new.trees 0) row → Has (old.trees 0) row × (is_by txn row ≡ false)
  gone row there = let was = made.rows.gone row there in (was.0, sym (test_is row was.0) ∙ was.1)

  left : (row : Row) → Has (old.trees 0) row → is_by txn row ≡ false → Has (new.trees 0) row
  left row there other = made.rows.left row there (test_is row there ∙ other)

  dropped : (other : Txn) → (decided_of new).commits other ≡ cond (is_txn txn other) None ((decided_of old).commits other)
  dropped other =
      elim (cases_Bool (is_txn txn other)) [
        | inl mine ↦
            let same = txn_same txn other mine in
            let none : commit_row (voters_by (new.trees 0) txn) ≡ None = no_commit (voters_by (new.trees 0) txn) (λ voter there.
            let row = voter_from (new.trees 0) txn voter there in
            both_ways (is_by txn row.0) (gone row.0 row.1).1 row.2) in
            subst (λ t. commit_row (voters_by (new.trees 0) t) ≡ None) same none ∙ sym (ap (λ b. cond b None ((decided_of old).commits other)) mine)
        | inr differ ↦
            same_rows old was_sound tables other (new.trees 0) (λ row there its. (gone row there).0) (λ row there its. left row there (apart_by txn other differ row its))
            ∙ sym (ap (λ b. cond b None ((decided_of old).commits other)) differ)
      ]

  pub drops : DropsCommit txn (decided_of old) (decided_of new)
  drops = record { commits = dropped; life = ap life_in (epoch_stays _ old new made); version = ap version_in (epoch_stays _ old new made) }

  pub drops_stored : IsDecided old → IsDecided new
  drops_stored stored = record {
    tables = made.tables;
    votes = λ row there. stored.votes row (gone row there).0;
    epoch = λ row there. stored.epoch row (subst (λ rows. Has rows row) (epoch_stays _ old new made) there);
  }

-- ---- the next incarnation begins

module _ (next : ℕ) (old new : Database) (was_sound : IsDatabase old) (stored : IsDecided old) (made : BeginsNext next old new) where
  once : (one other : Row) → Has (old.trees 2) one → Has (old.trees 2) other → one ≡ other
  once = epoch_once old was_sound stored.tables

  next_is : next ≡ life_in (old.trees 2) + 1
  next_is = made.4 ∙ ap (λ n. n + 1) (ap unsigned_abs (sym made.3) ∙ life_shown (old.trees 2) made.0 once made.1)

  pub next_begins : BeginsLife (decided_of old) (decided_of new)
  next_begins = record {
    commits = λ txn. ap (λ rows. commit_row (voters_by rows txn)) (same_votes (pos next) (first_version made.0) old new made.5);
    life = life_is (pos next) (first_version made.0) old new made.5 ∙ next_is;
    version = version_is (pos next) (first_version made.0) old new made.5 ∙ version_shown (old.trees 2) made.0 once made.1;
  }

  pub next_life : next ≡ (decided_of new).life
  next_life = next_is ∙ sym next_begins.life

  pub next_stored : IsDecided new
  next_stored = record {
    tables = made.5.2.tables;
    votes = λ row there. stored.votes row (subst (λ rows. Has rows row) (same_votes (pos next) (first_version made.0) old new made.5) there);
    epoch = epoch_stored (pos next) (first_version made.0) old new made.5 (omega (arith, ints)) (version_from_zero old made.0 stored made.1);
  }

-- ---- a transaction is committed

-- a row says of a voter that it voted for a transaction
record Tells (row : Row) (txn : Txn) (voter : Voter) : Type 0 where
  pub txn_life : int_at row 1 ≡ pos txn.life
  pub txn_number : int_at row 2 ≡ pos txn.number
  pub site : text_at row 3 ≡ voter.site
  pub life : int_at row 4 ≡ pos voter.ticket.life
  pub visit : int_at row 5 ≡ pos voter.ticket.visit

voter_told : (row : Row) (txn : Txn) (voter : Voter) → Tells row txn voter → voter_in row ≡ voter
voter_told row txn voter tells =
    let life : unsigned_abs (int_at row 4) ≡ voter.ticket.life = ap unsigned_abs tells.life in
    let visit : unsigned_abs (int_at row 5) ≡ voter.ticket.visit = ap unsigned_abs tells.visit in
    λ i. record { site = tells.site i; ticket = record { life = life i; visit = visit i } }

module _ (txn : Txn) (voters : List Voter) (version : ℕ) (decision : Decision) (is : IsDecisionOf txn voters version decision) (old new : Database) (was_sound : IsDatabase old) (stored : IsDecided old) (made : DecidesNow decision old new) where
  mid : Database
  mid = made.2.0

  tells : (row : Row) (voter : Voter) (vote : Vote) → vote_cells vote ≡ voter_cells voter → drop 1 row ≡ vote_params decision.txn (string_bytes vote.site) vote.ticket → Tells row txn voter
  tells row voter vote same cells =
      let at = λ (k : ℕ). sym (column_drop row k) ∙ ap (λ (r : Row). column r k) cells in
      record {
        txn_life = ap id_in (at 0) ∙ is.life;
        txn_number = ap id_in (at 1) ∙ is.number;
        site = ap bytes (at 2) ∙ ap (λ (it : List ℕ × (ℤ × ℤ)). it.0) same;
        life = ap id_in (at 3) ∙ ap (λ (it : List ℕ × (ℤ × ℤ)). it.1.0) same;
        visit = ap id_in (at 4) ∙ ap (λ (it : List ℕ × (ℤ × ℤ)). it.1.1) same;
      }

  votes_mid : mid.trees 0 ≡ old.trees 0
  unfolding mid
  votes_mid = same_votes _ _ old made.2.0 made.2.1

  -- a row was there, or tells of a voter
  row_from : (row : Row) → Has (new.trees 0) row → Has (old.trees 0) row ⊎ ((voter : Voter) × Has voters voter × Tells row txn voter)
  unfolding mid
  row_from row there = elim (made.2.2.rows.only row there) [
    | inl was ↦ inl (subst (λ rows. Has rows row) votes_mid was)
    | inr new_row ↦
        let listed = subst (λ all. Has all (vote_cells new_row.0)) is.votes.0 (has_mapped vote_cells decision.votes.items new_row.0 new_row.1) in
        let voter = mapped_has voter_cells voters (vote_cells new_row.0) listed in
        inr (voter.0, voter.1, tells row voter.0 new_row.0 voter.2 new_row.2)
  ]

  row_kept : (row : Row) → Has (old.trees 0) row → Has (new.trees 0) row
  unfolding mid
  row_kept row there = made.2.2.rows.kept row (subst (λ rows. Has rows row) (sym votes_mid) there)

  row_made : (voter : Voter) → Has voters voter → (row : Row) × Has (new.trees 0) row × Tells row txn voter
  unfolding mid
  row_made voter there =
      let listed = subst (λ all. Has all (voter_cells voter)) (sym is.votes.0) (has_mapped voter_cells voters voter there) in
      let vote = mapped_has vote_cells decision.votes.items (voter_cells voter) listed in
      let put = made.2.2.rows.made (vote_params decision.txn (string_bytes vote.0.site) vote.0.ticket) (vote.0, vote.1, refl) in
      (put.0, put.1, tells put.0 voter vote.0 (sym vote.2) put.2)

  new_sound : IsDatabase new
  new_sound = made.2.2.sound

  new_tables : AreTablesOf desk_schema new
  new_tables = made.2.2.tables

  by_told : (row : Row) (voter : Voter) → Tells row txn voter → is_by txn row ≡ true
  by_told row voter told = parts_by txn row told.txn_life told.txn_number

  voter_kept : (voter : Voter) → Has voters voter → Has (voters_by (new.trees 0) txn) voter
  voter_kept voter there =
      let row = row_made voter there in
      subst (Has (voters_by (new.trees 0) txn)) (voter_told row.0 txn voter row.2) (voter_listed (new.trees 0) txn row.0 row.1 (by_told row.0 voter row.2))

  voter_was : (decided_of old).commits txn ≡ None → (voter : Voter) → Has (voters_by (new.trees 0) txn) voter → Has voters voter
  voter_was none voter there =
      let row = voter_from (new.trees 0) txn voter there in
      elim (row_from row.0 row.1) [
        | inl was ↦ absurd (none_voted (voters_by (old.trees 0) txn) none (voter_in row.0) (voter_listed (old.trees 0) txn row.0 was row.2))
        | inr told ↦ subst (Has voters) (sym (row.3 ∙ voter_told row.0 txn told.0 told.2)) told.1
      ]

  -- the transaction has the commit row that its voters make
  its_row : (decided_of old).commits txn ≡ None → commit_row (voters_by (new.trees 0) txn) ≡ commit_row voters
  its_row none = sym (same_commit voters (voters_by (new.trees 0) txn) voter_kept (voter_was none) (voters_apart new new_sound new_tables txn))

  -- and others have theirs
  other_row : (other : Txn) → is_txn txn other ≡ false → commit_row (voters_by (new.trees 0) other) ≡ commit_row (voters_by (old.trees 0) other)
  other_row other differ =
      same_rows old was_sound stored.tables other (new.trees 0)
      (λ row there its. elim (row_from row there) [
        | inl was ↦ was
        | inr told ↦ absurd (both_ways (is_by txn row) (apart_by txn other differ row its) (by_told row told.0 told.2))
      ])
      (λ row there its. row_kept row there)

  kept_rows : (decided_of old).commits txn ≡ None → (other : Txn) → (decided_of new).commits other ≡ cond (is_txn txn other) (commit_row voters) ((decided_of old).commits other)
  kept_rows none other =
      elim (cases_Bool (is_txn txn other)) [
        | inl mine ↦
            subst (λ t. commit_row (voters_by (new.trees 0) t) ≡ commit_row voters) (txn_same txn other mine) (its_row none)
            ∙ sym (ap (λ b. cond b (commit_row voters) ((decided_of old).commits other)) mine)
        | inr differ ↦ other_row other differ ∙ sym (ap (λ b. cond b (commit_row voters) ((decided_of old).commits other)) differ)
      ]

  once_kept : (one other : Row) → Has (old.trees 2) one → Has (old.trees 2) other → one ≡ other
  once_kept = epoch_once old was_sound stored.tables

  epoch_new : new.trees 2 ≡ mid.trees 2
  unfolding mid
  epoch_new = epoch_stays _ made.2.0 new made.2.2

  pub decides : (decided_of old).commits txn ≡ None → KeepsCommit txn voters version (decided_of old) (decided_of new)
  unfolding mid
  decides none = record {
    commits = kept_rows none;
    life = ap life_in epoch_new ∙ life_is _ _ old made.2.0 made.2.1 ∙ life_shown (old.trees 2) made.0 once_kept made.1;
    version = ap version_in epoch_new ∙ version_is _ _ old made.2.0 made.2.1 ∙ ap unsigned_abs is.version_is;
  }

  from_zero : (n : ℤ) (m : ℕ) → n ≡ pos m → pos 0 ≤ℤ n
  from_zero n m same = subst (λ k. pos 0 ≤ℤ k) (sym same) (omega (arith, ints))

  vote_told : (row : Row) (voter : Voter) → Has voters voter → Tells row txn voter → IsVote row
  vote_told row voter there told = record {
    names = record { txn_life = from_zero _ _ told.txn_life; txn_number = from_zero _ _ told.txn_number; life = from_zero _ _ told.life; visit = from_zero _ _ told.visit };
    site = subst IsUtf8 (sym told.site) (all_has IsNamed voters voter is.votes.1 there);
  }

  pub decides_stored : IsDecided new
  unfolding mid
  decides_stored = record {
    tables = new_tables;
    votes = λ row there. elim (row_from row there) [ inl was ↦ stored.votes row was | inr told ↦ vote_told row told.0 told.1 told.2 ];
    epoch = λ row there. epoch_stored _ _ old made.2.0 made.2.1 (life_from_zero old made.0 stored made.1) (from_zero _ _ is.version_is) row (subst (λ rows. Has rows row) epoch_new there);
  }
