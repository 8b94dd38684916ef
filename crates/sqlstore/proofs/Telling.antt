-- What all rows of the coordinator's tables tell is what its tables keep.
use Rattle.std.proofs.Common.{◌≡◌, ◌++◌, ◌+◌, ◌<◌, ℕ, Bool, true, false, cond, List, [], ◌∷◌, length, take, get_or, map, filter, Option, Some, None, unwrap_or, append-nil, Ok, Err, Result, IfOk, OnOk, refl, sym, ap, ◌∙◌, subst, inl, inr, unsigned_abs}
use Rattle.std.specs.Option.{option_map}
use Rattle.std.proofs.lemmas.Bool.{both_ways, cases_Bool, false_from_ne_true}
use Rattle.std.proofs.lemmas.List.{map-append, take_more}
use Rattle.std.proofs.lemmas.List.Elements.{filter-append}
use Rattle.sqlite.specs.Effect.{Database, IsDatabase}
use Rattle.sqlite.specs.Order.{Row}
use Rattle.sqlite.specs.Table.{Table}
use Rattle.sqlite_rules.specs.Lists.{Has}
use Rattle.sqlite_rules.proofs.ListLemmas.{all_has, all_from}
use Rattle.store.specs.declared.commit.DeskKept.{DeskKept}
use Rattle.store.specs.declared.commit.Voter.{Voter}
use Rattle.store.specs.declared.fault.StoreFault.{StoreFault}
use Rattle.store.specs.declared.name.Txn.{Txn}
use Rattle.store.specs.DeskContent.{Lists, by_site, commit_row, is_txn}
use Rattle.sqlstore.specs.Cells.{int_at}
use Rattle.sqlstore.specs.Content.{life_in}
use Rattle.sqlstore.specs.Decided.{is_by, voter_in, voters_by, version_in, decided_of}
use Rattle.sqlstore.specs.DeskRows.{ShowsDesk, AreDeskRows, told_by, some_voters}
use Rattle.sqlstore.specs.DeskSound.{IsDecided, IsVote, IsEpoch}
use Rattle.sqlstore.specs.DeskTables.{desk_schema}
use Rattle.sqlstore.specs.Gathered.{ShowsAll}
use Rattle.sqlstore.specs.Rows.{AreKeyed}
use Rattle.sqlstore.specs.declared.desk_rows.DeskRows.{DeskRows}
use Rattle.sqlstore.proofs.Decisions.{one_txn, same_rows, txn_same}
use Rattle.sqlstore.proofs.DeskTyped.{epoch_once}
use Rattle.sqlstore.proofs.DeskWhole.{vote_plain, epoch_plain}
use Rattle.sqlstore.proofs.Rising.{keyed_by_numbers, numbers_by_key}

-- ---- voters, row by row

-- a row is of the transactions that are the same as its own
pub by_is : (own other : Txn) (row : Row) → is_by own row ≡ true → is_by other row ≡ is_txn own other
by_is own other row mine =
    elim (cases_Bool (is_txn own other)) [
      | inl same ↦ subst (λ t. is_by t row ≡ true) (txn_same own other same) mine ∙ sym same
      | inr differ ↦ false_from_ne_true (is_by other row) (λ its. both_ways (is_txn own other) differ (one_txn own other row mine its)) ∙ sym differ
    ]

-- a voter is put behind those of its transaction
pub put_behind : (own : Txn) (row : Row) (was mid now : Txn → Option (List Voter)) (voters : List Voter) → is_by own row ≡ true → ((other : Txn) → mid other ≡ cond (is_txn own other) None (was other)) → ((other : Txn) → now other ≡ cond (is_txn own other) (Some voters) (mid other))
    → voters ≡ unwrap_or (was own) [] ++ voter_in row ∷ [] → (other : Txn) → now other ≡ cond (is_by other row) (Some (unwrap_or (was other) [] ++ voter_in row ∷ [])) (was other)
put_behind own row was mid now voters mine removed put is other =
    elim (cases_Bool (is_txn own other)) [
      | inl same ↦
          put other ∙ ap (λ b. cond b (Some voters) (mid other)) same ∙ ap Some is ∙ ap (λ t. Some (unwrap_or (was t) [] ++ voter_in row ∷ [])) (txn_same own other same)
          ∙ sym (ap (λ b. cond b (Some (unwrap_or (was other) [] ++ voter_in row ∷ [])) (was other)) (by_is own other row mine ∙ same))
      | inr differ ↦
          put other ∙ ap (λ b. cond b (Some voters) (mid other)) differ ∙ removed other ∙ ap (λ b. cond b None (was other)) differ
          ∙ sym (ap (λ b. cond b (Some (unwrap_or (was other) [] ++ voter_in row ∷ [])) (was other)) (by_is own other row mine ∙ differ))
    ]

filter_last : (test : Row → Bool) (rows : List Row) (row : Row) → filter test (rows ++ row ∷ []) ≡ cond (test row) (filter test rows ++ row ∷ []) (filter test rows)
filter_last test rows row = filter-append test rows (row ∷ []) ∙ elim (test row) as (λ b. (filter test rows ++ cond b (row ∷ []) []) ≡ cond b (filter test rows ++ row ∷ []) (filter test rows)) [ true ↦ refl | false ↦ append-nil (filter test rows) ]

some_last : (voters : List Voter) (voter : Voter) → some_voters (voters ++ voter ∷ []) ≡ Some (unwrap_or (some_voters voters) [] ++ voter ∷ [])
some_last [] voter = refl
some_last (v ∷ voters) voter = refl

-- one row more
pub voters_more : (rows : List Row) (i : ℕ) (row : Row) (was now : Txn → Option (List Voter)) → i < length rows → row ≡ get_or rows i row → ((txn : Txn) → was txn ≡ some_voters (voters_by (take i rows) txn))
    → ((txn : Txn) → now txn ≡ cond (is_by txn row) (Some (unwrap_or (was txn) [] ++ voter_in row ∷ [])) (was txn)) → (txn : Txn) → now txn ≡ some_voters (voters_by (take (i + 1) rows) txn)
voters_more rows i row was now lt is so_far put txn =
    let before = take i rows in
    let more : take (i + 1) rows ≡ before ++ row ∷ [] = take_more rows i row lt ∙ ap (λ r. before ++ r ∷ []) (sym is) in
    let next : voters_by (take (i + 1) rows) txn ≡ map voter_in (cond (is_by txn row) (filter (is_by txn) before ++ row ∷ []) (filter (is_by txn) before)) = ap (λ rs. voters_by rs txn) more ∙ ap (map voter_in) (filter_last (is_by txn) before row) in
    elim (cases_Bool (is_by txn row)) [
      | inl mine ↦
          put txn ∙ ap (λ b. cond b (Some (unwrap_or (was txn) [] ++ voter_in row ∷ [])) (was txn)) mine ∙ ap (λ o. Some (unwrap_or o [] ++ voter_in row ∷ [])) (so_far txn) ∙ sym (some_last (voters_by before txn) (voter_in row))
          ∙ ap some_voters (sym (map-append voter_in (filter (is_by txn) before) (row ∷ []))) ∙ ap some_voters (sym (next ∙ ap (λ b. map voter_in (cond b (filter (is_by txn) before ++ row ∷ []) (filter (is_by txn) before))) mine))
      | inr other ↦
          put txn ∙ ap (λ b. cond b (Some (unwrap_or (was txn) [] ++ voter_in row ∷ [])) (was txn)) other ∙ so_far txn
          ∙ ap some_voters (sym (next ∙ ap (λ b. map voter_in (cond b (filter (is_by txn) before ++ row ∷ []) (filter (is_by txn) before))) other))
    ]

-- voters that are listed make a commit row
pub row_of_some : (voters : List Voter) → option_map by_site (some_voters voters) ≡ commit_row voters
row_of_some [] = refl
row_of_some (voter ∷ voters) = refl

-- ---- rows and tables

keyed_as : (rows found : List Row) → ShowsAll rows found → AreKeyed found → AreKeyed rows
keyed_as rows found shows keyed = record { ints = λ row there. keyed.ints row (shows.all row there); apart = λ one other h k same. keyed.apart one other (shows.all one h) (shows.all other k) same }

as_keyed : (rows found : List Row) → ShowsAll rows found → AreKeyed rows → AreKeyed found
as_keyed rows found shows keyed = record { ints = λ row there. keyed.ints row (shows.sound row there); apart = λ one other h k same. keyed.apart one other (shows.sound one h) (shows.sound other k) same }

module _ (db : Database) (sound : IsDatabase db) (schema : db.schema ≡ desk_schema) (rows : DeskRows) (shows : ShowsDesk db rows) where
  -- rows that are as the store leaves them are of a database that is
  pub desk_learnt : AreDeskRows rows → IsDecided db
  desk_learnt are = record {
    tables = record {
      schema = schema;
      keyed = λ table listed. elim listed [
        | inl votes ↦ subst (λ (t : Table). AreKeyed (db.trees t.tree)) (sym votes) (keyed_as (db.trees 0) rows.votes.items shows.votes (keyed_by_numbers rows.votes.items are.votes_numbered))
        | inr more ↦ elim more [
          | inl epoch ↦ subst (λ (t : Table). AreKeyed (db.trees t.tree)) (sym epoch) (keyed_as (db.trees 2) rows.epoch.items shows.epoch (keyed_by_numbers rows.epoch.items are.epoch_numbered))
          | inr none ↦ absurd none
        ]
      ];
    };
    votes = λ row there. all_has IsVote rows.votes.items row are.votes (shows.votes.all row there);
    epoch = λ row there. all_has IsEpoch rows.epoch.items row are.epoch (shows.epoch.all row there);
  }

  -- and the other way about
  pub desk_intact : IsDecided db → AreDeskRows rows
  desk_intact stored =
      let votes = as_keyed (db.trees 0) rows.votes.items shows.votes (stored.tables.keyed _ (inl refl)) in
      let epoch = as_keyed (db.trees 2) rows.epoch.items shows.epoch (stored.tables.keyed _ (inr (inl refl))) in
      record {
        votes_numbered = numbers_by_key rows.votes.items votes shows.votes.rises (λ row there. vote_plain db sound schema row (shows.votes.sound row there) (votes.ints row there));
        epoch_numbered = numbers_by_key rows.epoch.items epoch shows.epoch.rises (λ row there. epoch_plain db sound schema row (shows.epoch.sound row there) (epoch.ints row there));
        votes = all_from IsVote rows.votes.items (λ row there. stored.votes row (shows.votes.sound row there));
        epoch = all_from IsEpoch rows.epoch.items (λ row there. stored.epoch row (shows.epoch.sound row there));
      }

  module _ (stored : IsDecided db) where
    once : (one other : Row) → Has (db.trees 2) one → Has (db.trees 2) other → one ≡ other
    once = epoch_once db sound stored.tables

    first_same : {A : Type 0} (say : List Row → A) (of : Row → A) (none : A) → say [] ≡ none → ((row : Row) (more : List Row) → say (row ∷ more) ≡ of row) → say rows.epoch.items ≡ say (db.trees 2)
    first_same say of none empty first = go rows.epoch.items (db.trees 2) once shows.epoch
      where
        go : (found all : List Row) → ((one other : Row) → Has all one → Has all other → one ≡ other) → ShowsAll all found → say found ≡ say all
        go [] [] once shows = refl
        go [] (row ∷ all) once shows = absurd (shows.all row (inl refl))
        go (row ∷ found) [] once shows = absurd (shows.sound row (inl refl))
        go (row ∷ found) (other ∷ all) once shows = first row found ∙ ap of (once row other (shows.sound row (inl refl)) (inl refl)) ∙ sym (first other all)

    told_life : life_in rows.epoch.items ≡ life_in (db.trees 2)
    told_life = first_same life_in (λ row. unsigned_abs (int_at row 2)) 0 refl (λ row more. refl)

    told_version : version_in rows.epoch.items ≡ version_in (db.trees 2)
    told_version = first_same version_in (λ row. unsigned_abs (int_at row 3)) 1 refl (λ row more. refl)

    told_commits : (txn : Txn) → (told_by rows).commits txn ≡ (decided_of db).commits txn
    told_commits txn = same_rows db sound stored.tables txn rows.votes.items (λ row there its. shows.votes.sound row there) (λ row there its. shows.votes.all row there)

    -- a listing of what rows tell is one of what is kept
    pub lists_told : (kept : DeskKept) → Lists (told_by rows) kept → Lists (decided_of db) kept
    lists_told kept lists = record {
      rows = λ txn. lists.rows txn ∙ told_commits txn;
      ascend = lists.ascend;
      incarnation = lists.incarnation ∙ told_life;
      catalogue = lists.catalogue ∙ told_version;
    }

  -- what a loaded listing says, and that it is one
  pub learnt_of : (result : Result DeskKept StoreFault) → OnOk result (AreDeskRows rows) → OnOk result (IsDecided db)
  learnt_of (Ok kept) are = desk_learnt are
  learnt_of (Err fault) are = tt

  pub lists_of : (result : Result DeskKept StoreFault) → OnOk result (AreDeskRows rows) → IfOk result (Lists (told_by rows)) → IfOk result (Lists (decided_of db))
  lists_of (Ok kept) are lists = lists_told (desk_learnt are) kept lists
  lists_of (Err fault) are lists = tt
