-- Small runs of the toy language, each computed: a moved row with its write lost, committed, repeated, in doubt, and late; and what is passed over, refused or answered at each of these.
use Rattle.std.proofs.Common.{◌≡◌, refl, subst₂, ℕ, Bool, true, false, List, [], ◌∷◌, ◌++◌, map, length, drop, inl, inr, Some, nat_lt}
use Rattle.protocol.specs.Language.{Lang, Name}
use Rattle.protocol.specs.Letter.{Body, Open, Fetch, Write, Prepare, Commit, Abort, Ticket, Rows, Refused, Voted, Ack, Inquire, Lock, Gone, Yes, No}
use Rattle.protocol.specs.Site.{Dead, is_within}
use Rattle.protocol.specs.Desk.{Unknown, State, Commit_call, Rollback, Ask, By_vote, By_restart, Choice, Deed, Began, Stated, Worked, Committed, Aborted, Rolled_back}
use Rattle.protocol.specs.World.{World, Event, Begin, Call, Deliver, Site_gives_up, Site_inquires, Site_restarts, Desk_restarts, run}
use Rattle.protocol.specs.Serial.{committed, settled, Explained, AllExplained, IsOpening, IsSerial}
use Rattle.protocol.specs.Parts.{In, works}
use Rattle.protocol.specs.Premise.{ExplainedRun, PremiseIsMet}
use Rattle.protocol.specs.Toy.{toy, Pair, Move, Look, part_of}
use Rattle.protocol.proofs.Basics.{some_is}
use Rattle.protocol.proofs.SerialLaw.{serial_law}
use Rattle.protocol.proofs.ToyLaws.{toy_lawful}

abbrev opening : Pair → World toy
opening p = record {
  desk = record { txn = λ t. Unknown; known = []; life = 1; number = 0 };
  sites = λ a. record { kept = λ g. part_of g p; status = λ k. Dead; known = []; life = 1; number = 0 };
  letters = [];
  past = [];
  version = 1;
}

-- a row of 7 in the north
abbrev start : World toy
start = opening (record { north = 7; south = 0 })

abbrev one : Name
one = record { life = 1; number = 1 }

abbrev two : Name
two = record { life = 1; number = 2 }

abbrev moves : Choice toy
moves = (1, (false, 0) ∷ (true, 7) ∷ [])

-- a fetch of the move with the rows that came: the leaf and the part found there
abbrev came_of : Bool → ℕ → Ask toy
came_of g rows = record { leaf = g; query = 0; number = Some 1; rows = Some rows }

abbrev got : ℕ → Event toy
got n = Deliver n true (0, [])

abbrev all_of : List ℕ → List (Event toy)
all_of ns = map got ns

-- the move up to its writes: letters 8 and 9 are Write north and Write south
abbrev moved : List (Event toy)
moved = Begin ∷ Call one (State Move) (0, []) ∷ all_of (0 ∷ 1 ∷ 2 ∷ 3 ∷ 4 ∷ 5 ∷ 6 ∷ []) ++ Deliver 7 true moves ∷ Call one Commit_call (0, []) ∷ []

abbrev letters_out : List (Event toy) → List (Body toy)
letters_out events = map (λ l. l.body) (run events start).letters

-- two Opens, two tickets, fetches and their rows, two writes, two prepares
letters_of_a_move : letters_out moved ≡
    Open ∷ Open ∷ Ticket one ∷ Ticket one ∷ Fetch one 1 false 0 ∷ Fetch one 1 true 0 ∷ Rows one 1 7 ∷ Rows one 1 0
    ∷ Write one 2 false 0 ∷ Write one 2 true 7 ∷ Prepare one 2 ∷ Prepare one 2 ∷ []
letters_of_a_move = refl

-- the letters put out after some events
abbrev new_letters : List (Event toy) → List (Event toy) → List (Body toy)
new_letters before after = drop (length (run before start).letters) (letters_out (before ++ after))

abbrev kept_at : List (Event toy) → Bool → ℕ
kept_at events g = ((run events start).sites g).kept g

abbrev settled_at : List (Event toy) → Bool → ℕ
settled_at events g = settled (run events start) g

abbrev committed_in : List (Event toy) → List Name
committed_in events = committed (run events start).past

-- the write to the south is lost: the north votes Yes and the south No, and the north hears Abort
abbrev lost : List (Event toy)
lost = moved ++ all_of (8 ∷ 10 ∷ 11 ∷ 12 ∷ 13 ∷ 14 ∷ [])

letters_where_lost : new_letters moved (all_of (8 ∷ 10 ∷ 11 ∷ 12 ∷ 13 ∷ 14 ∷ [])) ≡ Voted one Yes ∷ Voted one No ∷ Abort one ∷ []
letters_where_lost = refl

kept_where_lost : kept_at lost false ≡ 7
kept_where_lost = refl

none_committed_where_lost : committed_in lost ≡ []
none_committed_where_lost = refl

-- the write that comes late changes nothing
late_write : kept_at (lost ++ all_of (9 ∷ [])) true ≡ 0
late_write = refl

-- half a moved row is no outcome
no_half_row : kept_at lost false ≡ 0 → ⊥
no_half_row e = cc

-- all letters come: both sites vote Yes, and the settled row has moved before any Commit comes
abbrev decided : List (Event toy)
decided = moved ++ all_of (8 ∷ 9 ∷ 10 ∷ 11 ∷ 12 ∷ 13 ∷ [])

moved_where_decided : map (settled_at decided) (false ∷ true ∷ []) ≡ 0 ∷ 7 ∷ []
moved_where_decided = refl

kept_where_decided : map (kept_at decided) (false ∷ true ∷ []) ≡ 7 ∷ 0 ∷ []
kept_where_decided = refl

committed_where_decided : committed_in decided ≡ one ∷ []
committed_where_decided = refl

-- the north applies; then old letters come again: an empty visit, refusals, a vote No, an Ack
letters_again : new_letters decided (all_of (14 ∷ 0 ∷ 4 ∷ 8 ∷ 10 ∷ 14 ∷ [])) ≡ Ack one ∷ Ticket two ∷ Refused one Gone ∷ Voted one No ∷ Ack one ∷ []
letters_again = refl

settled_again : map (settled_at (decided ++ all_of (14 ∷ 0 ∷ 4 ∷ 8 ∷ 10 ∷ 14 ∷ []))) (false ∷ true ∷ []) ≡ 0 ∷ 7 ∷ []
settled_again = refl

-- both acknowledge, and the commit row goes
row_gone : (run (decided ++ all_of (14 ∷ 15 ∷ 16 ∷ 17 ∷ [])) start).desk.known ≡ []
row_gone = refl

-- the coordinator restarts with one vote: it aborts, and who asks hears Abort
abbrev in_doubt : List (Event toy)
in_doubt = moved ++ all_of (8 ∷ 9 ∷ 10 ∷ 11 ∷ 12 ∷ []) ++ Desk_restarts true ∷ []

letters_in_doubt : new_letters in_doubt (all_of (13 ∷ []) ++ Site_inquires false ∷ Site_inquires true ∷ all_of (14 ∷ 15 ∷ 16 ∷ 17 ∷ [])) ≡ Inquire one ∷ Inquire one ∷ Abort one ∷ Abort one ∷ []
letters_in_doubt = refl

-- with both votes it has a commit row, and sends the commits again
letters_sent_again : new_letters decided (Desk_restarts true ∷ []) ≡ Commit one ∷ Commit one ∷ []
letters_sent_again = refl

-- a write that comes after another's read of its leaf began and ended is refused, and the first transaction aborts
abbrev looked : List (Event toy)
looked = moved ++ all_of (8 ∷ []) ++ Begin ∷ Call two (State (Look true)) (0, []) ∷ all_of (12 ∷ 13 ∷ 14 ∷ []) ++ Deliver 15 true (0, []) ∷ Call two Commit_call (0, []) ∷ all_of (16 ∷ 17 ∷ [])

committed_look : committed_in looked ≡ two ∷ []
committed_look = refl

late_write_refused : new_letters looked (all_of (9 ∷ 11 ∷ 19 ∷ [])) ≡ Refused one Lock ∷ Voted one No ∷ Abort one ∷ []
late_write_refused = refl

none_but_the_look : committed_in (looked ++ all_of (9 ∷ 10 ∷ 11 ∷ 18 ∷ 19 ∷ 20 ∷ [])) ≡ two ∷ []
none_but_the_look = refl

-- a write is late; a reader had its lock when the writer's visit was opened, and has read, committed and gone since
abbrev overtaken : List (Event toy)
overtaken = Begin ∷ Begin ∷ Call two (State (Look true)) (0, []) ∷ all_of (0 ∷ 1 ∷ 2 ∷ []) ++ Call one (State Move) (0, []) ∷ all_of (4 ∷ 5 ∷ 6 ∷ 7 ∷ 8 ∷ 9 ∷ 10 ∷ []) ++ Deliver 11 true moves ∷ Deliver 12 true (0, []) ∷ Call one Commit_call (0, []) ∷ Deliver 3 true (0, []) ∷ Call two Commit_call (0, []) ∷ all_of (16 ∷ 17 ∷ [])

committed_reader : committed_in overtaken ≡ two ∷ []
committed_reader = refl

standing_lock_counts : new_letters overtaken (all_of (13 ∷ [])) ≡ Refused two Lock ∷ []
standing_lock_counts = refl

-- a site restarts with a prepared row, whose lock still refuses a fetch
abbrev restarted_in_doubt : List (Event toy)
restarted_in_doubt = moved ++ all_of (8 ∷ 10 ∷ []) ++ Site_restarts false true ∷ Begin ∷ Call two (State (Look false)) (0, []) ∷ all_of (13 ∷ 14 ∷ [])

row_keeps_its_lock : new_letters restarted_in_doubt (all_of (15 ∷ [])) ≡ Refused (record { life = 2; number = 1 }) Lock ∷ []
row_keeps_its_lock = refl

-- the order is that of the first phases, not of the decisions
abbrev two_looks : List (Event toy)
two_looks = Begin ∷ Begin ∷ Call one (State (Look false)) (0, []) ∷ all_of (0 ∷ 1 ∷ 2 ∷ []) ++ Deliver 3 true (7, []) ∷ Call two (State (Look true)) (0, []) ∷ all_of (4 ∷ 5 ∷ 6 ∷ 7 ∷ []) ++ Call one Commit_call (0, []) ∷ Call two Commit_call (0, []) ∷ all_of (9 ∷ 10 ∷ 8 ∷ 11 ∷ [])

committed_in_order : committed_in two_looks ≡ one ∷ two ∷ []
committed_in_order = refl

-- an inquiry about an undecided transaction is not answered
not_answered : new_letters (moved ++ all_of (8 ∷ 10 ∷ [])) (Site_inquires false ∷ all_of (13 ∷ [])) ≡ Inquire one ∷ []
not_answered = refl

-- a ticket that comes again while there is a commit row is passed over
ticket_again : new_letters decided (all_of (2 ∷ [])) ≡ []
ticket_again = refl

-- one acknowledgement of two leaves the commit row
row_left : (run (decided ++ all_of (14 ∷ 16 ∷ [])) start).desk.known ≡ one ∷ []
row_left = refl

-- an acknowledgement that comes again is none of the other voter
row_left_again : (run (decided ++ all_of (14 ∷ 16 ∷ 16 ∷ [])) start).desk.known ≡ one ∷ []
row_left_again = refl

-- a commit that comes again finds nothing to apply
applied_once : ((run (decided ++ all_of (14 ∷ 14 ∷ [])) start).sites false).known ≡ []
applied_once = refl

-- what the moved row was answered and wrote is explained: over every whole database that gives the rows received the move means just that
move_explained : Explained (Worked one Move (came_of false 7 ∷ came_of true 0 ∷ []) moves)
move_explained = (tt, λ whole fits tag gives. (refl, wrote whole.north whole.south (some_is gives.0) (some_is gives.1.0)))
  where
    between : ℕ → ℕ → List (Bool × ℕ)
    between north south = toy.writes (record { north = north; south = south }) (record { north = south; south = north })

    wrote : (north south : ℕ) → 7 ≡ north → 0 ≡ south → between 7 0 ≡ between north south
    wrote north south n s = subst₂ (λ a b. between 7 0 ≡ between a b) n s refl

start_opens : IsOpening (record { north = 7; south = 0 }) start
start_opens = record { is_whole = tt; letters = refl; past = refl; visits = λ a k. refl; tickets = λ a. refl; undecided = λ t. refl; names = refl; rebuilt = rebuilt; in_force = refl }
  where
    rebuilt : (g : Bool) → part_of g (record { north = 7; south = 0 }) ≡ part_of g (record { north = 7; south = 0 })
    rebuilt g = refl

-- the law's premise can be met, and so the law speaks of this run
moved_explained : AllExplained (run decided start).past
moved_explained = (tt, (tt, (move_explained, (tt, (tt, (tt, tt))))))

moved_serially : IsSerial (record { north = 7; south = 0 }) (run decided start)
moved_serially = serial_law toy_lawful (record { north = 7; south = 0 }) start decided start_opens moved_explained

-- it speaks of one that aborts by a vote No, with a site's restart and inquiries after it
lost_explained : AllExplained (run (lost ++ Site_restarts false true ∷ Site_inquires false ∷ []) start).past
lost_explained = (tt, (tt, (move_explained, (tt, (tt, (tt, tt))))))

-- of one whose voters are in doubt while the coordinator and both sites restart, and hear Abort
abbrev told_in_doubt : List (Event toy)
told_in_doubt = in_doubt ++ all_of (13 ∷ []) ++ Site_restarts false true ∷ Site_restarts true true ∷ Site_inquires false ∷ Site_inquires true ∷ all_of (14 ∷ 15 ∷ 16 ∷ 17 ∷ [])

in_doubt_explained : AllExplained (run told_in_doubt start).past
in_doubt_explained = (tt, (tt, (move_explained, (tt, (tt, (tt, tt))))))

-- and of one that its client rolled back
abbrev rolled : List (Event toy)
rolled = Begin ∷ Call one (State Move) (0, []) ∷ all_of (0 ∷ 1 ∷ 2 ∷ 3 ∷ 4 ∷ 5 ∷ 6 ∷ []) ++ Deliver 7 true moves ∷ Call one Rollback (0, []) ∷ []

letters_of_a_rollback : drop 10 (letters_out rolled) ≡ Abort one ∷ Abort one ∷ []
letters_of_a_rollback = refl

rolled_explained : AllExplained (run rolled start).past
rolled_explained = (tt, (tt, (move_explained, (tt, (tt, tt)))))

-- an explained run from the start, in which the move was evaluated
explained_run : (end : Name → Deed toy) (events : List (Event toy)) → (works (run events start).past one ≡ [] → ⊥) → In (end one) (run events start).past → AllExplained (run events start).past → ExplainedRun end
explained_run end events evaluated ends explained = record { whole = record { north = 7; south = 0 }; opening = start; opens = start_opens; events = events; txn = one; evaluated = evaluated; ends = ends; explained = explained }

pub premise_is_met : PremiseIsMet toy
premise_is_met = record {
  committed = explained_run Committed decided (λ e. cc) (inr (inr (inr (inr (inr (inl refl)))))) moved_explained;
  aborted = explained_run (λ t. Aborted t By_vote) (lost ++ Site_restarts false true ∷ Site_inquires false ∷ []) (λ e. cc) (inr (inr (inr (inr (inr (inl refl)))))) lost_explained;
  restarted = explained_run (λ t. Aborted t By_restart) told_in_doubt (λ e. cc) (inr (inr (inr (inr (inr (inl refl)))))) in_doubt_explained;
  rolled_back = explained_run Rolled_back rolled (λ e. cc) (inr (inr (inr (inr (inl refl))))) rolled_explained;
}

-- a prepare that its store refuses is a vote No
refused_prepare : new_letters (moved ++ all_of (8 ∷ 9 ∷ [])) (Deliver 10 false (0, []) ∷ []) ≡ Voted one No ∷ []
refused_prepare = refl

-- a commit row that is refused aborts
refused_commit_row : new_letters (moved ++ all_of (8 ∷ 9 ∷ 10 ∷ 11 ∷ 12 ∷ [])) (Deliver 13 false (0, []) ∷ []) ≡ Abort one ∷ Abort one ∷ []
refused_commit_row = refl

none_where_refused : committed_in (moved ++ all_of (8 ∷ 9 ∷ 10 ∷ 11 ∷ 12 ∷ []) ++ Deliver 13 false (0, []) ∷ []) ≡ []
none_where_refused = refl

-- an apply that is refused is not acknowledged, and can come again
refused_apply : new_letters decided (Deliver 14 false (0, []) ∷ Deliver 14 true (0, []) ∷ []) ≡ Ack one ∷ []
refused_apply = refl

-- a commit row that could not be dropped stays
refused_drop : (run (decided ++ all_of (14 ∷ 15 ∷ 16 ∷ []) ++ Deliver 17 false (0, []) ∷ []) start).desk.known ≡ one ∷ []
refused_drop = refl

-- a fetch that is refused leaves all as it was, and can come again
refused_fetch : new_letters (Begin ∷ Call one (State (Look true)) (0, []) ∷ all_of (0 ∷ 1 ∷ [])) (Deliver 2 false (0, []) ∷ Deliver 2 true (0, []) ∷ []) ≡ Rows one 1 0 ∷ []
refused_fetch = refl

-- a visit that its site gave up votes No
given_up : new_letters moved (Site_gives_up true one ∷ all_of (9 ∷ 11 ∷ [])) ≡ Voted one No ∷ []
given_up = refl

-- a transaction that only read has no commit row, and its ticket that comes again hears Abort
only_read : new_letters looked (all_of (13 ∷ [])) ≡ Abort two ∷ []
only_read = refl

-- a number at 2^63 is past the limits
not_within : is_within {L = toy} (record { kept = λ g. 0; status = λ k. Dead; known = []; life = 1; number = 9223372036854775808 }) ≡ false
not_within = refl

-- a voter that asks about a committed transaction hears Commit
commit_told : new_letters decided (Site_inquires false ∷ all_of (16 ∷ [])) ≡ Inquire one ∷ Commit one ∷ []
commit_told = refl

-- the last acknowledgement counts as not received where the row's drop was not kept: come again, it drops the row
drop_again : (run (decided ++ all_of (14 ∷ 15 ∷ 16 ∷ []) ++ Deliver 17 false (0, []) ∷ Deliver 17 true (0, []) ∷ []) start).desk.known ≡ []
drop_again = refl

-- a site that restarted refuses a fetch that comes late
late_refusal_is_gone : new_letters moved (Site_restarts false true ∷ all_of (4 ∷ 12 ∷ [])) ≡ Refused one Gone ∷ []
late_refusal_is_gone = refl

-- and a refusal that comes in the first phase aborts nothing
late_refusal : (run (moved ++ Site_restarts false true ∷ all_of (4 ∷ 12 ∷ [])) start).desk.known ≡ one ∷ []
late_refusal = refl

-- nor does a rollback then
no_rollback : (run (moved ++ Call one Rollback (0, []) ∷ []) start).desk.known ≡ one ∷ []
no_rollback = refl

-- an Open that came twice has given two tickets, and the second hears Abort
second_ticket : new_letters (Begin ∷ Call one (State (Look true)) (0, []) ∷ all_of (0 ∷ 0 ∷ 1 ∷ [])) (all_of (2 ∷ [])) ≡ Abort two ∷ []
second_ticket = refl

-- a coordinator that restarts aborts what was undecided without a letter
no_abort_at_restart : new_letters moved (Desk_restarts true ∷ []) ≡ []
no_abort_at_restart = refl

-- a visit whose write was refused for a lock has ended: the same write again is no operation of it
lock_ends : new_letters looked (all_of (9 ∷ 9 ∷ [])) ≡ Refused one Lock ∷ []
lock_ends = refl

-- an Abort whose discard is not kept leaves the prepared row
refused_abort : ((run (moved ++ all_of (8 ∷ 10 ∷ 11 ∷ 12 ∷ 13 ∷ []) ++ Deliver 14 false (0, []) ∷ []) start).sites false).known ≡ one ∷ []
refused_abort = refl

-- both leaves are looked at, and a commit is asked for: letters 8 and 9 are the Prepares, 10 is the vote Read of the north
abbrev looked_at_both : List (Event toy)
looked_at_both = Begin ∷ Call one (State (Look false)) (0, []) ∷ all_of (0 ∷ 1 ∷ 2 ∷ []) ++ Deliver 3 true (7, []) ∷ Call one (State (Look true)) (0, []) ∷ all_of (4 ∷ 5 ∷ 6 ∷ []) ++ Deliver 7 true (0, []) ∷ Call one Commit_call (0, []) ∷ all_of (8 ∷ [])

-- a Prepare that comes again after the vote Read is answered by No, and the first vote counts
votes_again : new_letters looked_at_both (all_of (8 ∷ [])) ≡ Voted one No ∷ []
votes_again = refl

first_vote_counts : committed_in (looked_at_both ++ all_of (8 ∷ 10 ∷ 11 ∷ 9 ∷ 12 ∷ [])) ≡ one ∷ []
first_vote_counts = refl

-- a voter that has voted Read hears no Abort
read_hears_no_abort : new_letters looked_at_both (Site_gives_up true one ∷ all_of (9 ∷ 10 ∷ 11 ∷ [])) ≡ Voted one No ∷ []
read_hears_no_abort = refl

-- the language whose rows fit a leaf where they are below 7
abbrev below_seven : Lang
below_seven = record toy { well_formed = λ s g rows. nat_lt rows 7 }

-- a part 9 in the north, which doesn't fit
abbrev misfit : World below_seven
misfit = record {
  desk = record { txn = λ t. Unknown; known = []; life = 1; number = 0 };
  sites = λ a. record { kept = λ g. 9; status = λ k. Dead; known = []; life = 1; number = 0 };
  letters = [];
  past = [];
  version = 1;
}

-- rows that don't fit their leaf are passed over: the statement waits
misfit_passed_over : (run (Begin ∷ Call one (State (Look false)) (0, []) ∷ map (λ n. Deliver n true (9, [])) (0 ∷ 1 ∷ 2 ∷ 3 ∷ [])) misfit).past ≡ Began one ∷ Stated one (Look false) ∷ []
misfit_passed_over = refl
