-- What the entries of a run tell is what happened: who committed, what was answered, and to which statements.
use Rattle.std.proofs.Common.{◌≡◌, refl, sym, ap, ap₂, ◌∙◌, subst, ℕ, ◌&&◌, ◌||◌, Bool, true, false, List, [], ◌∷◌, ◌++◌, map, filter, filter_map, flat_map, if◌then◌else◌}
use Rattle.std.specs.List.{list_any}
use Rattle.meaning.specs.declared.answer.Answer.{Answer}
use Rattle.meaning.specs.declared.statement.Statement.{Statement}
use Rattle.meaning.specs.Whole.{Relations}
use Rattle.store.specs.declared.name.Txn.{Txn}
use Rattle.protocol.specs.Accepted.{stated_of}
use Rattle.protocol.specs.Catalogues.{IsSerialList, stated}
use Rattle.protocol.specs.Desk.{Aborted, Answered, Began, Committed, Deed, Phased, Rolled_back, Stated, Worked}
use Rattle.protocol.specs.Language.{Name, same}
use Rattle.protocol.specs.Letters.{txn_name}
use Rattle.protocol.specs.Local.{local}
use Rattle.protocol.specs.Serial.{answers_of, committed, is_committed, statements_of}
use Rattle.desk.specs.declared.reply.Reply as replies
use Rattle.desk.specs.Database.{Database, language, sent, statements}
use Rattle.desk.specs.State.{notice_of}
use Rattle.desk.specs.Transition.{told}
use Rattle.world.specs.declared.committed.Committed as told_of
use Rattle.world.specs.declared.event.Entry.{Entry}
use Rattle.world.specs.Committed.{committed_of}
use Rattle.world.specs.Machines.{Machines, world_of}
use Rattle.world.specs.Posted.{letters_in}
use Rattle.world.specs.Runs.{AreTexts, IsSerialRun, answers_after, relations_after}
use Rattle.world.specs.Replies.{AreStated, Tells, answer_of, answers_to, committed_in, is_told_committed, is_txn, notices_in, phased_in, is_commit, texts_in, texts_of}

-- ---- small lemmas
and_true : (b : Bool) → (b && true) ≡ b
and_true true = refl
and_true false = refl

and_false : (b : Bool) → (b && false) ≡ false
and_false true = refl
and_false false = refl

either_none : {A : Type 0} (none : List A) (b : Bool) → (if b then none else none) ≡ none
either_none none true = refl
either_none none false = refl

any_map : {A B : Type 0} (p : B → Bool) (f : A → B) (xs : List A) → list_any (λ x. p (f x)) xs ≡ list_any p (map f xs)
any_map p f [] = refl
any_map p f (x ∷ xs) = ap (λ rest. p (f x) || rest) (any_map p f xs)

flat_of_map : {A B C : Type 0} (h : B → List C) (f : A → B) (xs : List A) → flat_map (λ x. h (f x)) xs ≡ flat_map h (map f xs)
flat_of_map h f [] = refl
flat_of_map h f (x ∷ xs) = ap (λ rest. h (f x) ++ rest) (flat_of_map h f xs)

map_filter : {A B : Type 0} (p : A → Bool) (q : B → Bool) (f : A → B) (xs : List A) → ((x : A) → p x ≡ q (f x)) → map f (filter p xs) ≡ filter q (map f xs)
map_filter p q f [] alike = refl
map_filter p q f (x ∷ xs) alike = go (p x) (q (f x)) (alike x) (map_filter p q f xs alike)
  where
    go : (a b : Bool) → a ≡ b → map f (filter p xs) ≡ filter q (map f xs) → map f (if a then x ∷ filter p xs else filter p xs) ≡ (if b then f x ∷ filter q (map f xs) else filter q (map f xs))
    go true true e later = ap (λ rest. f x ∷ rest) later
    go true false e later = absurd cc
    go false true e later = absurd cc
    go false false e later = later

map_alike : {A B : Type 0} (f g : A → B) (xs : List A) → ((x : A) → f x ≡ g x) → map f xs ≡ map g xs
map_alike f g [] alike = refl
map_alike f g (x ∷ xs) alike = ap₂ (λ y ys. y ∷ ys) (alike x) (map_alike f g xs alike)

pub map_twice : {A B C : Type 0} (g : B → C) (f : A → B) (xs : List A) → map g (map f xs) ≡ map (λ x. g (f x)) xs
map_twice g f [] = refl
map_twice g f (x ∷ xs) = ap (λ rest. g (f x) ∷ rest) (map_twice g f xs)

module _ (db : Database) where
  -- ---- who committed
  abbrev tells_commit : Name → Name × replies.Reply → Bool
  tells_commit n heard = same heard.0 n && is_commit heard.1

  told_commit : (n : Name) (past : List (Deed (language db))) → list_any (tells_commit n) (filter_map (told db) past) ≡ is_committed past n
  told_commit n [] = refl
  told_commit n (Began t ∷ ds) = ap₂ (λ a rest. a || rest) (and_false (same t n)) (told_commit n ds)
  told_commit n (Stated t s ∷ ds) = told_commit n ds
  told_commit n (Worked t s asks choice ∷ ds) = told_commit n ds
  told_commit n (Answered t x ∷ ds) = ap₂ (λ a rest. a || rest) (and_false (same t n)) (told_commit n ds)
  told_commit n (Phased t ∷ ds) = told_commit n ds
  told_commit n (Committed t ∷ ds) = ap₂ (λ a rest. a || rest) (and_true (same t n)) (told_commit n ds)
  told_commit n (Aborted t why ∷ ds) = ap₂ (λ a rest. a || rest) (and_false (same t n)) (told_commit n ds)
  told_commit n (Rolled_back t ∷ ds) = ap₂ (λ a rest. a || rest) (and_false (same t n)) (told_commit n ds)

  -- ---- what was answered
  abbrev told_answer : Name → Name × replies.Reply → List Answer
  told_answer n heard = if same heard.0 n then answer_of heard.1 else []

  told_answers : (n : Name) (past : List (Deed (language db))) → flat_map (told_answer n) (filter_map (told db) past) ≡ answers_of past n
  told_answers n [] = refl
  told_answers n (Began t ∷ ds) = ap₂ (λ (a rest : List Answer). a ++ rest) (either_none [] (same t n)) (told_answers n ds)
  told_answers n (Stated t s ∷ ds) = told_answers n ds
  told_answers n (Worked t s asks choice ∷ ds) = told_answers n ds
  told_answers n (Answered t x ∷ ds) = ap (λ (rest : List Answer). (if same t n then x ∷ [] else []) ++ rest) (told_answers n ds)
  told_answers n (Phased t ∷ ds) = told_answers n ds
  told_answers n (Committed t ∷ ds) = ap₂ (λ (a rest : List Answer). a ++ rest) (either_none [] (same t n)) (told_answers n ds)
  told_answers n (Aborted t why ∷ ds) = ap₂ (λ (a rest : List Answer). a ++ rest) (either_none [] (same t n)) (told_answers n ds)
  told_answers n (Rolled_back t ∷ ds) = ap₂ (λ (a rest : List Answer). a ++ rest) (either_none [] (same t n)) (told_answers n ds)

  -- ---- which statements were accepted
  abbrev of_statement : Name → Name × (ℕ × Statement) → List Statement
  of_statement n given = if same given.0 n then given.1.1 ∷ [] else []

  of_statements : (n : Name) (past : List (Deed (language db))) → flat_map (of_statement n) (stated_of past) ≡ stated local (statements db) past n
  of_statements n [] = refl
  of_statements n (Began t ∷ ds) = of_statements n ds
  of_statements n (Stated t s ∷ ds) = go (same t n) (of_statements n ds)
    where
      go : (b : Bool) → flat_map (of_statement n) (stated_of ds) ≡ stated local (statements db) ds n → (if b then s.1 ∷ [] else []) ++ flat_map (of_statement n) (stated_of ds) ≡ map (λ (x : ℕ × Statement). x.1) ((if b then s ∷ [] else []) ++ statements_of ds n)
      go true later = ap (λ (rest : List Statement). s.1 ∷ rest) later
      go false later = later
  of_statements n (Worked t s asks choice ∷ ds) = of_statements n ds
  of_statements n (Answered t x ∷ ds) = of_statements n ds
  of_statements n (Phased t ∷ ds) = of_statements n ds
  of_statements n (Committed t ∷ ds) = of_statements n ds
  of_statements n (Aborted t why ∷ ds) = of_statements n ds
  of_statements n (Rolled_back t ∷ ds) = of_statements n ds

  spelled_by : (txn : Txn) (xs : List (Txn × List ℕ)) (ys : List (Name × (ℕ × Statement))) → AreStated db xs ys →
      AreTexts db (flat_map (λ x. if is_txn x.0 txn then x.1 ∷ [] else []) xs) (flat_map (of_statement (txn_name txn)) ys)
  spelled_by txn [] [] so = tt
  spelled_by txn [] (y ∷ ys) so = absurd so
  spelled_by txn (x ∷ xs) [] so = absurd so
  spelled_by txn (x ∷ xs) (y ∷ ys) so =
      subst (λ n. AreTexts db ((if is_txn x.0 txn then x.1 ∷ [] else []) ++ flat_map (λ x. if is_txn x.0 txn then x.1 ∷ [] else []) xs) ((if same n (txn_name txn) then y.1.1 ∷ [] else []) ++ flat_map (of_statement (txn_name txn)) ys)) so.0.0
      (go (same (txn_name x.0) (txn_name txn)) (spelled_by txn xs ys so.1))
    where
      go : (b : Bool) → AreTexts db (flat_map (λ x. if is_txn x.0 txn then x.1 ∷ [] else []) xs) (flat_map (of_statement (txn_name txn)) ys) →
          AreTexts db ((if b then x.1 ∷ [] else []) ++ flat_map (λ x. if is_txn x.0 txn then x.1 ∷ [] else []) xs) ((if b then y.1.1 ∷ [] else []) ++ flat_map (of_statement (txn_name txn)) ys)
      go true later = (so.0.1, later)
      go false later = later

  -- ---- so of entries that tell what happened
  module _ (entries : List Entry) (past : List (Deed (language db))) (so : Tells db entries past) where
    commit_heard : (txn : Txn) → is_told_committed entries txn ≡ is_committed past (txn_name txn)
    commit_heard txn = any_map (tells_commit (txn_name txn)) notice_of (notices_in entries) ∙ ap (list_any (tells_commit (txn_name txn))) so.heard ∙ told_commit (txn_name txn) past

    pub who_committed : map txn_name (committed_in entries) ≡ committed past
    who_committed = map_filter (is_told_committed entries) (is_committed past) txn_name (phased_in entries) commit_heard ∙ ap (filter (is_committed past)) so.phased

    pub what_answered : (txn : Txn) → answers_to entries txn ≡ answers_of past (txn_name txn)
    what_answered txn = flat_of_map (told_answer (txn_name txn)) notice_of (notices_in entries) ∙ ap (flat_map (told_answer (txn_name txn))) so.heard ∙ told_answers (txn_name txn) past

    pub what_stated : (txn : Txn) → AreTexts db (texts_of entries txn) (stated local (statements db) past (txn_name txn))
    what_stated txn = subst (AreTexts db (texts_of entries txn)) (of_statements (txn_name txn) past) (spelled_by txn (texts_in entries) (stated_of past) so.stated)

  -- ---- whom the entries tell committed the coordinator decided to commit
  same_names : (entries : List Entry) (txns : List Txn) → map (λ (one : told_of.Committed). txn_name one.txn) (map (committed_of entries) txns) ≡ map txn_name txns
  same_names entries [] = refl
  same_names entries (txn ∷ txns) = ap (λ names. txn_name txn ∷ names) (same_names entries txns)

  pub were_decided : (entries : List Entry) (past : List (Deed (language db))) → Tells db entries past → (all : List told_of.Committed) → all ≡ map (committed_of entries) (committed_in entries) → map (λ (one : told_of.Committed). txn_name one.txn) all ≡ committed past
  were_decided entries past so all is = ap (map (λ (one : told_of.Committed). txn_name one.txn)) is ∙ same_names entries (committed_in entries) ∙ who_committed entries past so

  -- ---- so the serial law of what happened is one of what is told
  pub serial_run : (whole : Relations) (machines : Machines) (entries : List Entry) (past : List (Deed (language db))) → Tells db entries past → IsSerialList local (statements db) whole (world_of db machines (map (sent db) (letters_in entries)) past) → IsSerialRun db whole machines entries
  serial_run whole machines entries past so serial =
      let stated_in : Name → List Statement = stated local (statements db) past in
      let of : Txn → List Statement = λ txn. stated_in (txn_name txn) in
      let all : map stated_in (committed past) ≡ map of (committed_in entries) = ap (map stated_in) (sym (who_committed entries past so)) ∙ map_twice stated_in txn_name (committed_in entries) in
      record {
        statements = of;
        spelled = what_stated entries past so;
        answers =
            map_alike (answers_to entries) (λ txn. answers_of past (txn_name txn)) (committed_in entries) (what_answered entries past so) ∙ sym (map_twice (answers_of past) txn_name (committed_in entries)) ∙
            ap (map (answers_of past)) (who_committed entries past so) ∙ serial.answers ∙ ap (λ ss. answers_after db ss whole) all;
        rebuilt = λ place. serial.rebuilt place ∙ ap (λ ss. db.content machines.table.version place (relations_after db ss whole)) all;
      }
