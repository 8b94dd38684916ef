-- Runs over two catalogues, each computed: a refragmentation is alone, brings the next catalogue into force by its decision, and moves the row.
use Rattle.std.proofs.Common.{◌≡◌, refl, ap, subst, ℕ, suc, Bool, true, false, List, [], ◌∷◌, ◌++◌, map, drop, if◌then◌else◌, Some}
use Rattle.protocol.specs.Language.{IsLawful, Name, written}
use Rattle.protocol.specs.Letter.{Body, Open, Fetch, Write, Prepare, Ticket, Rows, Voted, Yes, Read}
use Rattle.protocol.specs.Site.{Dead}
use Rattle.protocol.specs.Desk.{Unknown, State, Commit_call, Choice, Began, Worked}
use Rattle.protocol.specs.World.{World, Event, Begin, Refragment, Call, Deliver, Desk_restarts, run}
use Rattle.protocol.specs.Serial.{committed, settled, Explained, AllExplained, IsOpening, IsSerial}
use Rattle.protocol.specs.TwoSplits.{two_splits, Placed_row, Split_statement, Look_at, Set_row, Move_south, row_at, pair_of, brings_next}
use Rattle.protocol.proofs.Basics.{some_is}
use Rattle.protocol.proofs.SerialLaw.{serial_law}
use Rattle.protocol.proofs.ToyLaws.{toy_lawful, wrote}

pub splits_lawful : IsLawful two_splits
splits_lawful = record {
  leaves = toy_lawful.leaves;
  sites = toy_lawful.sites;
  changed_none = toy_lawful.changed_none;
  changed_add = toy_lawful.changed_add;
  touches_none = toy_lawful.touches_none;
  touches_add = toy_lawful.touches_add;
  empty_touches = toy_lawful.empty_touches;
  keeps_whole = λ s whole is fits tag. tt;
  writes_right = λ s whole g is fits tag. led g whole (two_splits.meaning s whole).1;
  counts = λ s whole is fits tag. counted s whole;
}
  where
    led : (g : Bool) (before after : Placed_row) → written two_splits g (two_splits.writes before after) (row_at g before) ≡ row_at g after
    led true before after = wrote true (pair_of before) (pair_of after)
    led false before after = wrote false (pair_of before) (pair_of after)

    counted : (s : Split_statement) (whole : Placed_row) → (two_splits.meaning s whole).1.catalogue ≡ (if brings_next s then suc whole.catalogue else whole.catalogue)
    counted (Look_at n) whole = refl
    counted (Set_row n row) whole = refl
    counted Move_south whole = refl

-- ---- runs
abbrev opening : Placed_row → World two_splits
opening w = record {
  desk = record { txn = λ t. Unknown; known = []; life = 1; number = 0 };
  sites = λ a. record { kept = λ g. row_at g w; status = λ k. Dead; known = []; life = 1; number = 0 };
  letters = [];
  past = [];
  version = w.catalogue;
}

-- a row of 7 in the north
abbrev start : World two_splits
start = opening (record { catalogue = 1; row = 7 })

-- no row
abbrev bare : World two_splits
bare = opening (record { catalogue = 1; row = 0 })

abbrev one : Name
one = record { life = 1; number = 1 }

abbrev two : Name
two = record { life = 1; number = 2 }

abbrev got : ℕ → Event two_splits
got n = Deliver n true (0, [])

abbrev all_of : List ℕ → List (Event two_splits)
all_of ns = map got ns

-- the moves: a Del in the north and a Put in the south
abbrev moves : Choice two_splits
moves = (1, (false, 0) ∷ (true, 7) ∷ [])

abbrev refragments : Event two_splits
refragments = Refragment Move_south (0, [])

-- the refragmentation up to its moves, which have come
abbrev moved : List (Event two_splits)
moved = refragments ∷ all_of (0 ∷ 1 ∷ 2 ∷ []) ++ Deliver 3 true moves ∷ all_of (4 ∷ 6 ∷ 5 ∷ 7 ∷ [])

-- its first phase, up to the last vote, and the decision
abbrev voted : List (Event two_splits)
voted = moved ++ Call one Commit_call (0, []) ∷ all_of (8 ∷ 9 ∷ 10 ∷ [])

abbrev decided : List (Event two_splits)
decided = voted ++ all_of (11 ∷ [])

-- both sites apply and acknowledge
abbrev applied : List (Event two_splits)
applied = decided ++ all_of (12 ∷ 13 ∷ 14 ∷ 15 ∷ [])

abbrev after : List (Event two_splits) → World two_splits
after events = run events start

abbrev both : (Bool → ℕ) → List ℕ
both at = at false ∷ at true ∷ []

abbrev settled_after : List (Event two_splits) → List ℕ
settled_after events = both (settled (after events))

abbrev kept_after : List (Event two_splits) → List ℕ
kept_after events = both (λ g. ((after events).sites g).kept g)

-- the site of the moves is opened when the row is read; each site is asked to prepare what was sent to it
letters_of_the_moves : map (λ l. l.body) (after voted).letters ≡
    Open ∷ Ticket one ∷ Fetch one 1 false 0 ∷ Rows one 1 7 ∷ Open ∷ Write one 2 false 0 ∷ Ticket one ∷ Write one 1 true 7 ∷ Prepare one 2 ∷ Prepare one 1 ∷ Voted one Yes ∷ Voted one Yes ∷ []
letters_of_the_moves = refl

-- ---- alone
-- nobody begins beside an undecided refragmentation, and no other refragmentation does
none_begins_beside : (after (moved ++ Begin ∷ [])).desk.known ≡ one ∷ []
none_begins_beside = refl

none_moves_beside : (after (moved ++ refragments ∷ [])).desk.known ≡ one ∷ []
none_moves_beside = refl

-- it states nothing more
states_once : drop 4 (after (moved ++ Call one (State (Look_at 1)) (0, []) ∷ [])).past ≡ []
states_once = refl

-- none begins beside an undecided transaction
none_beside_another : (after (Begin ∷ refragments ∷ [])).desk.known ≡ one ∷ []
none_beside_another = refl

-- the row is set, and decided: its commit row stands
abbrev set : List (Event two_splits)
set = Begin ∷ Call one (State (Set_row 1 8)) (0, []) ∷ all_of (0 ∷ 1 ∷ 2 ∷ []) ++ Deliver 3 true (1, (false, 8) ∷ []) ∷ got 4 ∷ Call one Commit_call (0, []) ∷ all_of (5 ∷ 6 ∷ [])

-- none begins beside a commit row, where the settled row isn't kept yet
none_beside_a_commit_row : (after (set ++ refragments ∷ [])).desk.known ≡ one ∷ []
none_beside_a_commit_row = refl

set_is_settled : settled_after set ≡ 8 ∷ 0 ∷ []
set_is_settled = refl

-- and one does when it is gone
begins_when_it_is_gone : (after (set ++ all_of (7 ∷ 8 ∷ []) ++ refragments ∷ [])).desk.known ≡ two ∷ []
begins_when_it_is_gone = refl

-- ---- the catalogue in force
-- the first until the decision, the second from it
first_until_decided : (after voted).version ≡ 1
first_until_decided = refl

second_from_then : (after decided).version ≡ 2
second_from_then = refl

-- the row is settled in the south from the decision, where it is kept in the north still
settled_until_decided : settled_after voted ≡ 7 ∷ 0 ∷ []
settled_until_decided = refl

settled_in_the_south : settled_after decided ≡ 0 ∷ 7 ∷ []
settled_in_the_south = refl

kept_in_the_north : kept_after decided ≡ 7 ∷ 0 ∷ []
kept_in_the_north = refl

kept_in_the_south : kept_after applied ≡ 0 ∷ 7 ∷ []
kept_in_the_south = refl

-- a restart of the coordinator before the decision leaves the first, one after it the second
restart_before : ((after (voted ++ Desk_restarts true ∷ [])).version ≡ 1) × ((after (voted ++ Desk_restarts true ∷ [])).desk.known ≡ [])
restart_before = (refl, refl)

restart_after : ((after (decided ++ Desk_restarts true ∷ [])).version ≡ 2) × (settled_after (decided ++ Desk_restarts true ∷ []) ≡ 0 ∷ 7 ∷ [])
restart_after = (refl, refl)

-- a decision that isn't kept leaves the first
refused_decision : ((after (voted ++ Deliver 11 false (0, []) ∷ [])).version ≡ 1) × (committed (after (voted ++ Deliver 11 false (0, []) ∷ [])).past ≡ [])
refused_decision = (refl, refl)

-- ---- statements
-- one for another catalogue than that in force isn't accepted, and a refragmentation is no statement
not_for_the_second : (after (Begin ∷ Call one (State (Look_at 2)) (0, []) ∷ [])).past ≡ Began one ∷ []
not_for_the_second = refl

no_statement : (after (Begin ∷ Call one (State Move_south) (0, []) ∷ [])).past ≡ Began one ∷ []
no_statement = refl

not_for_the_first : drop 6 (after (applied ++ Begin ∷ Call two (State (Look_at 1)) (0, []) ∷ [])).past ≡ Began two ∷ []
not_for_the_first = refl

-- one for the second reads in the south
reads_in_the_south : map {B = Bool × Body two_splits} (λ l. (l.site, l.body)) (drop 16 (after (applied ++ Begin ∷ Call two (State (Look_at 2)) (0, []) ∷ all_of (16 ∷ 17 ∷ 18 ∷ []))).letters) ≡
    (true, Open) ∷ (true, Ticket two) ∷ (true, Fetch two 1 true 0) ∷ (true, Rows two 1 7) ∷ []
reads_in_the_south = refl

-- ---- without voters
-- with no row there is nothing to move, and nobody votes Yes: the next number is kept still, or the refragmentation aborts
abbrev nothing_moved : List (Event two_splits)
nothing_moved = refragments ∷ all_of (0 ∷ 1 ∷ 2 ∷ []) ++ Deliver 3 true (1, []) ∷ Call one Commit_call (0, []) ∷ got 4 ∷ []

nobody_votes_yes : map (λ l. l.body) (drop 4 (run nothing_moved bare).letters) ≡ Prepare one 1 ∷ Voted one Read ∷ []
nobody_votes_yes = refl

kept_without_voters : ((run (nothing_moved ++ Deliver 5 true (0, []) ∷ []) bare).version ≡ 2) × (committed (run (nothing_moved ++ Deliver 5 true (0, []) ∷ []) bare).past ≡ one ∷ [])
kept_without_voters = (refl, refl)

refused_without_voters : ((run (nothing_moved ++ Deliver 5 false (0, []) ∷ []) bare).version ≡ 1) × (committed (run (nothing_moved ++ Deliver 5 false (0, []) ∷ []) bare).past ≡ [])
refused_without_voters = (refl, refl)

-- who has only looked needs no store
reader_needs_no_store : committed (run (Begin ∷ Call one (State (Look_at 1)) (0, []) ∷ all_of (0 ∷ 1 ∷ 2 ∷ []) ++ Deliver 3 true (7, []) ∷ Call one Commit_call (0, []) ∷ got 4 ∷ Deliver 5 false (0, []) ∷ []) start).past ≡ one ∷ []
reader_needs_no_store = refl

-- ---- the law speaks of such a run
start_opens : IsOpening (record { catalogue = 1; row = 7 }) start
start_opens = record { is_whole = tt; letters = refl; past = refl; visits = λ a k. refl; tickets = λ a. refl; undecided = λ t. refl; names = refl; rebuilt = λ g. refl; in_force = refl }

-- over every whole database under the first catalogue that gives the row the refragmentation means these moves
moves_explained : Explained {L = two_splits} (Worked one Move_south (record { leaf = false; query = 0; number = Some 1; rows = Some 7 } ∷ []) moves)
moves_explained = (tt, λ whole fits tag gives. (refl, led whole.catalogue whole.row tag (some_is gives.0)))
  where
    write : ℕ → ℕ → List (Bool × ℕ)
    write n row = two_splits.writes (record { catalogue = n; row = row }) (record { catalogue = suc n; row = row })

    led : (n row : ℕ) → 1 ≡ n → 7 ≡ row_at false (record { catalogue = n; row = row }) → write 1 7 ≡ write n row
    led n row tag gives = subst (λ m. 7 ≡ row_at false (record { catalogue = m; row = row }) → write 1 7 ≡ write m row) tag (λ is. ap (write 1) is) gives

applied_explained : AllExplained (after applied).past
applied_explained = (tt, (tt, (moves_explained, (tt, (tt, (tt, tt))))))

moved_serially : IsSerial (record { catalogue = 1; row = 7 }) (after applied)
moved_serially = serial_law splits_lawful (record { catalogue = 1; row = 7 }) start applied start_opens applied_explained
