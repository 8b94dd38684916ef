-- Transactions that are run one after another: their moves.
use Rattle.std.proofs.Common.{◌≡◌, refl, sym, ap, ◌∙◌, subst, ℕ, suc, Bool, true, false, List, [], ◌∷◌, ◌++◌, length, map, take, drop, get_or, ◌<◌, ◌+◌, append_assoc, append-nil, inl, inr, ⊎_elim}
use Rattle.std.proofs.lemmas.List.{map-append, drop_more, map_more, take-append-drop, take_more}
use Rattle.store.specs.declared.name.Txn.{Txn}
use Rattle.meaning.specs.Whole.{Relations}
use Rattle.protocol.specs.Desk.{Deed}
use Rattle.desk.specs.declared.reply.Notice.{Notice}
use Rattle.desk.specs.Database.{Database, language}
use Rattle.world.specs.declared.event.Call as calls
use Rattle.world.specs.declared.event.Call.TheVariants as call
use Rattle.world.specs.declared.transaction.Came as cames
use Rattle.world.specs.declared.transaction.Course.{Course}
use Rattle.world.specs.declared.transaction.Outcome as outcomes
use Rattle.world.specs.declared.transaction.Outcome.TheVariants.{Ran}
use Rattle.world.specs.declared.transaction.Transaction.{Transaction}
use Rattle.world.specs.Batch.{Makes, MakesMore, RunsAll, RunsOne, StopsAt, calls_of, calls_of_end, has_ended, moved}
use Rattle.world.specs.Client.{IsServed, IsServedOn}
use Rattle.world.specs.Course.{Begins, Move}
use Rattle.world.specs.Frame.{HasMade}
use Rattle.world.specs.Machines.{Machines}

-- ---- calls, one after another
-- more calls of a transaction that is open, and of one that has ended
pub makes_then : (asked others : List calls.Call) (came more : List cames.Came) (ended : Bool) (one two : List Move) → Makes asked came false one → Makes others more ended two → Makes (asked ++ others) (came ++ more) ended (one ++ two)
makes_then [] others [] more ended one two makes then_makes = subst (λ (moves : List Move). Makes others more ended (moves ++ two)) (sym makes.1) then_makes
makes_then [] others (first ∷ came) more ended one two makes then_makes = absurd makes
makes_then (asked ∷ rest) others [] more ended one two makes then_makes = absurd makes
makes_then (asked ∷ rest) others (first ∷ came) more ended one two makes then_makes = (
  makes.0 ++ two,
  ap (λ (moves : List Move). moves ++ two) makes.1 ∙ append_assoc (moved asked first) makes.0 two,
  ⊎_elim
      (λ last. let e : false ≡ true = last.1 in absurd (cc))
      (λ goes. inr (goes.0, makes_then rest others came more ended makes.0 two goes.1 then_makes)) makes.2,
)

pub makes_no_more : (asked others : List calls.Call) (came : List cames.Came) (moves : List Move) → Makes asked came true moves → Makes (asked ++ others) came true moves
makes_no_more [] others [] moves makes = let e : true ≡ false = makes.0 in absurd (cc)
makes_no_more [] others (first ∷ came) moves makes = absurd makes
makes_no_more (asked ∷ rest) others [] moves makes = absurd makes
makes_no_more (asked ∷ rest) others (first ∷ came) moves makes = (
  makes.0,
  makes.1,
  ⊎_elim
      (λ last. inl last)
      (λ goes. inr (goes.0, makes_no_more rest others came makes.0 goes.1)) makes.2,
)

-- one call, after which its transaction is open, or has ended
pub makes_one : (asked : calls.Call) (first : cames.Came) → Makes (asked ∷ []) (first ∷ []) (has_ended asked first) (moved asked first)
makes_one asked first = go (has_ended asked first) refl
  where
    go : (b : Bool) → has_ended asked first ≡ b → Makes (asked ∷ []) (first ∷ []) b (moved asked first)
    go true is = ([], sym (append-nil (moved asked first)), inl (is, refl, refl, refl))
    go false is = ([], sym (append-nil (moved asked first)), inr (is, (refl, refl)))

-- ---- the end of a transaction
pub one_more : (asked : calls.Call) (first : cames.Came) (came all : List cames.Came) → all ≡ came ++ first ∷ [] → MakesMore (asked ∷ []) came all (moved asked first)
one_more asked first came all is = record { more = first ∷ []; ended = has_ended asked first; makes = makes_one asked first; is = is }

pub commit_done : (txn : Txn) (first : cames.Came) (came all : List cames.Came) → has_ended (call.Commit txn) first ≡ true → all ≡ came ++ first ∷ [] → MakesMore (call.Commit txn ∷ call.Rollback txn ∷ []) came all (moved (call.Commit txn) first)
commit_done txn first came all ended is = record { more = first ∷ []; ended = true; makes = ([], sym (append-nil (moved (call.Commit txn) first)), inl (ended, refl, refl, refl)); is = is }

pub commit_refused : (txn : Txn) (first : cames.Came) (came then all : List cames.Came) (moves : List Move) → has_ended (call.Commit txn) first ≡ false → then ≡ came ++ first ∷ [] →
    MakesMore (call.Rollback txn ∷ []) then all moves → MakesMore (call.Commit txn ∷ call.Rollback txn ∷ []) came all (moved (call.Commit txn) first ++ moves)
commit_refused txn first came then all moves goes is back = record {
  more = first ∷ back.more;
  ended = back.ended;
  makes = (moves, refl, inr (goes, back.makes));
  is = back.is ∙ ap (λ (front : List cames.Came). front ++ back.more) is ∙ append_assoc came (first ∷ []) back.more;
}

pub course_made : (transaction : Transaction) (txn : Txn) (texts : List (List ℕ)) (stated came : List cames.Came) (ended : Bool) (one two : List Move) → texts ≡ transaction.texts → Makes (map (λ (text : List ℕ). call.State txn text) texts) stated ended one →
    (ended ≡ false → MakesMore (calls_of_end transaction.end txn) stated came two) × (ended ≡ true → (came ≡ stated) × (two ≡ [])) → (over : Bool) × Makes (calls_of transaction txn) came over (one ++ two)
course_made transaction txn texts stated came true one two is makes finished =
    let last = finished.1 refl in (
      true,
      subst (λ (all : List cames.Came). Makes (calls_of transaction txn) all true (one ++ two)) (sym last.0)
          (subst (Makes (calls_of transaction txn) stated true) (sym (append-nil one) ∙ ap (λ (rest : List Move). one ++ rest) (sym last.1))
          (makes_no_more (map (λ (text : List ℕ). call.State txn text) transaction.texts) (calls_of_end transaction.end txn) stated one
          (subst (λ (all : List (List ℕ)). Makes (map (λ (text : List ℕ). call.State txn text) all) stated true one) is makes))),
    )
course_made transaction txn texts stated came false one two is makes finished =
    let more = finished.0 refl in (
      more.ended,
      subst (λ (all : List cames.Came). Makes (calls_of transaction txn) all more.ended (one ++ two)) (sym more.is)
          (makes_then (map (λ (text : List ℕ). call.State txn text) transaction.texts) (calls_of_end transaction.end txn) stated more.more more.ended one two
          (subst (λ (all : List (List ℕ)). Makes (map (λ (text : List ℕ). call.State txn text) all) stated false one) is makes) more.makes),
    )

-- a transaction that has begun is run
pub runs_begun : (transaction : Transaction) (txn : Txn) (heard : List Notice) (course : Course) (one two : List Move) → one ≡ Begins txn heard ∷ [] →
    (course.txn ≡ txn) × (course.greeted ≡ heard) × ((ended : Bool) × Makes (calls_of transaction txn) course.came ended two) → RunsOne transaction (Ran course) (one ++ two)
runs_begun transaction txn heard course one two is ran = (
  two,
  ap (λ (moves : List Move). moves ++ two) is ∙ (λ i. Begins (sym ran.0 i) (sym ran.1 i) ∷ two),
  (ran.2.0, subst (λ (named : Txn). Makes (calls_of transaction named) course.came ran.2.0 two) (sym ran.0) ran.2.1),
)

-- one text more, after which its transaction is open, and one by which it has ended
module _ (txn : Txn) (texts : List (List ℕ)) (i : ℕ) (d text : List ℕ) (came : List cames.Came) (first : cames.Came) (one : List Move) (within : i < length texts) (is : text ≡ get_or texts i d) where
  abbrev states : List (List ℕ) → List calls.Call
  states = map (λ (said : List ℕ). call.State txn said)

  next : Makes (states (take i texts)) came false one → Makes (states (take (i + 1) texts)) (came ++ first ∷ []) (has_ended (call.State txn text) first) (one ++ moved (call.State txn text) first)
  next makes = subst (λ (asked : List calls.Call). Makes asked (came ++ first ∷ []) (has_ended (call.State txn text) first) (one ++ moved (call.State txn text) first))
      (ap (λ (said : List ℕ). states (take i texts) ++ call.State txn said ∷ []) is ∙ sym (map_more (λ (said : List ℕ). call.State txn said) texts i d within))
      (makes_then (states (take i texts)) (call.State txn text ∷ []) came (first ∷ []) (has_ended (call.State txn text) first) one (moved (call.State txn text) first) makes (makes_one (call.State txn text) first))

  pub next_open : Makes (states (take i texts)) came false one → has_ended (call.State txn text) first ≡ false → Makes (states (take (i + 1) texts)) (came ++ first ∷ []) false (one ++ moved (call.State txn text) first)
  next_open makes goes = subst (λ (b : Bool). Makes (states (take (i + 1) texts)) (came ++ first ∷ []) b (one ++ moved (call.State txn text) first)) goes (next makes)

  pub next_last : Makes (states (take i texts)) came false one → has_ended (call.State txn text) first ≡ true → Makes (states texts) (came ++ first ∷ []) true (one ++ moved (call.State txn text) first)
  next_last makes ended = subst (λ (asked : List calls.Call). Makes asked (came ++ first ∷ []) true (one ++ moved (call.State txn text) first))
      (sym (map-append (λ (said : List ℕ). call.State txn said) (take (i + 1) texts) (drop (i + 1) texts)) ∙ ap states (take-append-drop (i + 1) texts))
      (makes_no_more (states (take (i + 1) texts)) (states (drop (i + 1) texts)) (came ++ first ∷ []) (one ++ moved (call.State txn text) first)
      (subst (λ (b : Bool). Makes (states (take (i + 1) texts)) (came ++ first ∷ []) b (one ++ moved (call.State txn text) first)) ended (next makes)))

-- ---- transactions, one after another
pub runs_more : (front : List Transaction) (done : List outcomes.Outcome) (transaction : Transaction) (outcome : outcomes.Outcome) (one two : List Move) → RunsAll front done one → RunsOne transaction outcome two → RunsAll (front ++ transaction ∷ []) (done ++ outcome ∷ []) (one ++ two)
runs_more [] [] transaction outcome one two runs last = (two, [], ap (λ (moves : List Move). moves ++ two) runs ∙ sym (append-nil two), last, refl)
runs_more [] (first ∷ done) transaction outcome one two runs last = absurd runs
runs_more (at ∷ front) [] transaction outcome one two runs last = absurd runs
runs_more (at ∷ front) (first ∷ done) transaction outcome one two runs last = (
  runs.0,
  runs.1 ++ two,
  ap (λ (moves : List Move). moves ++ two) runs.2 ∙ append_assoc runs.0 runs.1 two,
  runs.3,
  runs_more front done transaction outcome runs.1 two runs.4 last,
)

pub as_many : (front : List Transaction) (done : List outcomes.Outcome) (moves : List Move) → RunsAll front done moves → length done ≡ length front
as_many [] [] moves runs = refl
as_many [] (first ∷ done) moves runs = absurd runs
as_many (at ∷ front) [] moves runs = absurd runs
as_many (at ∷ front) (first ∷ done) moves runs = ap suc (as_many front done runs.1 runs.4)

-- one transaction more of some, and one that is stopped
module _ (transactions : List Transaction) (i : ℕ) (d at : Transaction) (done : List outcomes.Outcome) (within : i < length transactions) (is : at ≡ get_or transactions i d) where
  pub runs_next : (outcome : outcomes.Outcome) (one two : List Move) → RunsAll (take i transactions) done one → RunsOne at outcome two → RunsAll (take (i + 1) transactions) (done ++ outcome ∷ []) (one ++ two)
  runs_next outcome one two runs last = subst (λ (all : List Transaction). RunsAll all (done ++ outcome ∷ []) (one ++ two))
      (ap (λ (one_more : Transaction). take i transactions ++ one_more ∷ []) is ∙ sym (take_more transactions i d within))
      (runs_more (take i transactions) done at outcome one two runs last)

  pub stops_here : (db : Database) (before middle after : Machines) (told : List outcomes.Outcome) → told ≡ done → HasMade db before middle (RunsAll (take i transactions) done) → ((whole : Relations) (past : List (Deed (language db))) → IsServed db whole middle past → IsServedOn db whole after past) → StopsAt db transactions told before after
  stops_here db before middle after told same ran on = record {
    front = take i transactions;
    at = at;
    back = drop (i + 1) transactions;
    is = sym (take-append-drop i transactions) ∙ ap (λ (rest : List Transaction). take i transactions ++ rest) (drop_more transactions i d within ∙ ap (λ (one_more : Transaction). one_more ∷ drop (i + 1) transactions) (sym is));
    middle = middle;
    ran = subst (λ (all : List outcomes.Outcome). HasMade db before middle (RunsAll (take i transactions) all)) (sym same) ran;
    on = on;
  }
