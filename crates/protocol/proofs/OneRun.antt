-- One client of the toy language: a row moves in five rounds and is committed in four more, and the premises of its law are met.
use Rattle.std.proofs.Common.{◌≡◌, refl, Bool, true, false, List, [], ◌∷◌, map, replicate, ℕ, inl, inr}
use Rattle.protocol.specs.Language.{Name}
use Rattle.protocol.specs.Letter.{Body, Open, Fetch, Write, Prepare, Commit, Abort, Ticket, Rows, Refused, Voted, Ack, Inquire, Letter}
use Rattle.protocol.specs.Desk.{Unknown, Choice, State, Commit_call, next_txn}
use Rattle.protocol.specs.World.{World, begins, called}
use Rattle.protocol.specs.Serial.{committed}
use Rattle.protocol.specs.Site.{Dead}
use Rattle.protocol.specs.Toy.{toy, Move, part_of}
use Rattle.protocol.specs.Client.{rounds, IsQuiet}
use Rattle.protocol.specs.StatementCourse.{AtSites, RoomOr, RowsFit, passes, Well}
use Rattle.protocol.specs.ClientLaw.{Doing, taken, does, IsDone}
use Rattle.protocol.proofs.ToyLaws.{toy_lawful, toy_once}
use Rattle.protocol.proofs.Transaction.{client_law}

-- a row of 7 in the north
abbrev start : World toy
start = record {
  desk = record { txn = λ t. Unknown; known = []; life = 1; number = 0 };
  sites = λ a. record { kept = λ g. part_of g (record { north = 7; south = 0 }); status = λ k. Dead; known = []; life = 1; number = 0 };
  letters = [];
  past = [];
  version = 1;
}

abbrev one : Name
one = next_txn start.desk

abbrev moves : Choice toy
moves = (1, (false, 0) ∷ (true, 7) ∷ [])

-- five rounds for the statement
abbrev stated : World toy
stated = rounds (λ w. (true, moves)) 5 (called (begins start) one (0, []) (State Move))

-- four for the commit
abbrev ended : World toy
ended = rounds (λ w. (true, moves)) 4 (called stated one (0, []) Commit_call)

none_waits : stated.letters ≡ []
none_waits = refl

all_quiet : ended.letters ≡ []
all_quiet = refl

moved : map (λ g. (ended.sites g).kept g) (false ∷ true ∷ []) ≡ 0 ∷ 7 ∷ []
moved = refl

is_committed : committed ended.past ≡ one ∷ []
is_committed = refl

-- no commit row is left
no_row : ended.desk.known ≡ []
no_row = refl

-- ---- the law speaks of this run
abbrev move : Doing toy
move = record { statement = Move; choice = (0, []); takes = replicate 10 (true, moves) }

pub at_sites : (leaves : List Bool) → AtSites toy leaves
at_sites leaves true here = inr (inl refl)
at_sites leaves false here = inl refl

-- every letter of the toy language finds room, and all rows fit
taken_well : (w : World toy) (l : Letter toy) → passes w true moves l ≡ true → Well ⊥ Move w true moves l
taken_well w l within = record { is_kept = refl; within = within; room = room l.body; fit = λ reading. fit l.body; homes = at_sites (false ∷ true ∷ []) }
  where
    room : (c : Body toy) → RoomOr ⊥ (w.sites l.site) c
    room (Write k op g x) = λ v active. inl refl
    room Open = tt
    room (Fetch k op g q) = tt
    room (Prepare k n) = tt
    room (Commit k) = tt
    room (Abort k) = tt
    room (Ticket k) = tt
    room (Rows k n rows) = tt
    room (Refused k reason) = tt
    room (Voted k x) = tt
    room (Ack k) = tt
    room (Inquire k) = tt

    fit : (c : Body toy) → RowsFit Move l.site (w.sites l.site) c
    fit (Fetch k op g q) = λ home v active. refl
    fit Open = tt
    fit (Write k op g x) = tt
    fit (Prepare k n) = tt
    fit (Commit k) = tt
    fit (Abort k) = tt
    fit (Ticket k) = tt
    fit (Rows k n rows) = tt
    fit (Refused k reason) = tt
    fit (Voted k x) = tt
    fit (Ack k) = tt
    fit (Inquire k) = tt

abbrev asked : World toy
asked = called (begins start) one (0, []) (State Move)

abbrev after : ℕ → World toy
after n = taken (replicate n (true, moves)) asked

move_is_done : IsDone one (begins start) move
move_is_done = record {
  fetched = at_sites (false ∷ true ∷ []);
  written = at_sites [];
  within = refl;
  all = (well 0 _ refl, (well 1 _ refl, (well 2 _ refl, (well 3 _ refl, (well 4 _ refl, (well 5 _ refl, (well 6 _ refl, (well 7 _ refl, (well 8 _ refl, (well 9 _ refl, refl))))))))));
}
  where
    well : (n : ℕ) (l : Letter toy) → passes (after n) true moves l ≡ true → Well ⊥ Move (after n) true moves l
    well n l within = taken_well (after n) l within

quiet_again : IsQuiet (taken (replicate 8 (true, (0, []))) (called (does one (move ∷ []) (begins start)) one (0, []) Commit_call))
quiet_again = ((client_law toy_lawful toy_once).commits start (move ∷ []) (0, []) (replicate 8 (true, (0, []))) (record { silent = refl; calm = λ a k. tt; decided = λ t. refl }) (record { desk = refl; sites = λ a. refl }) refl (move_is_done, tt)
    (refl, (refl, (refl, (refl, (refl, (refl, (refl, (refl, refl))))))))).0
