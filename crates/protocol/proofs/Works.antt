-- What past deeds say of one transaction: its evaluated statements, and that deeds of another don't matter.
use Rattle.std.proofs.Common.{◌≡◌, refl, ap, ◌∙◌, false, List, [], ◌∷◌, ◌++◌, append-nil, flat_map}
use Rattle.std.proofs.lemmas.Grind.{flat_map-append}
pub use Rattle.protocol.specs.Parts.{Work, work_in, works, own_of}
use Rattle.protocol.specs.Language.{Lang, Name, same}
use Rattle.protocol.specs.Desk.{Ask, Choice, Deed, Began, Stated, Worked, Answered, Phased, Committed, Aborted, Rolled_back}
use Rattle.protocol.specs.Serial.{statement_in, statements_of, answer_in, answers_of}
use Rattle.protocol.proofs.Basics.{Every, if_true, if_false, same_refl}

module _ {L : Lang} where
  abbrev pub txn_of : Deed L → Name
  txn_of (Began t) = t
  txn_of (Stated t s) = t
  txn_of (Worked t s asks choice) = t
  txn_of (Answered t x) = t
  txn_of (Phased t) = t
  txn_of (Committed t) = t
  txn_of (Aborted t why) = t
  txn_of (Rolled_back t) = t

  -- what deeds say of a transaction
  pub record SameView (past new : List (Deed L)) (t : Name) : Type 0 where
    pub works_same : works new t ≡ works past t
    pub statements_same : statements_of new t ≡ statements_of past t
    pub answers_same : answers_of new t ≡ answers_of past t

  other_work : (t : Name) (d : Deed L) → same (txn_of d) t ≡ false → work_in t d ≡ []
  other_work t (Began u) e = refl
  other_work t (Stated u s) e = refl
  other_work t (Worked u s asks choice) e = if_false (same u t) (record { statement = s; asks = asks; choice = choice } ∷ []) [] e
  other_work t (Answered u x) e = refl
  other_work t (Phased u) e = refl
  other_work t (Committed u) e = refl
  other_work t (Aborted u why) e = refl
  other_work t (Rolled_back u) e = refl

  other_statement : (t : Name) (d : Deed L) → same (txn_of d) t ≡ false → statement_in t d ≡ []
  other_statement t (Began u) e = refl
  other_statement t (Stated u s) e = if_false (same u t) (s ∷ []) [] e
  other_statement t (Worked u s asks choice) e = refl
  other_statement t (Answered u x) e = refl
  other_statement t (Phased u) e = refl
  other_statement t (Committed u) e = refl
  other_statement t (Aborted u why) e = refl
  other_statement t (Rolled_back u) e = refl

  other_answer : (t : Name) (d : Deed L) → same (txn_of d) t ≡ false → answer_in t d ≡ []
  other_answer t (Began u) e = refl
  other_answer t (Stated u s) e = refl
  other_answer t (Worked u s asks choice) e = refl
  other_answer t (Answered u x) e = if_false (same u t) (x ∷ []) [] e
  other_answer t (Phased u) e = refl
  other_answer t (Committed u) e = refl
  other_answer t (Aborted u why) e = refl
  other_answer t (Rolled_back u) e = refl

  none_of : {B : Type 0} (f : Deed L → List B) (t : Name) (deeds : List (Deed L)) → ((d : Deed L) → same (txn_of d) t ≡ false → f d ≡ []) → Every (λ d. same (txn_of d) t ≡ false) deeds → flat_map f deeds ≡ []
  none_of f t [] each all = refl
  none_of f t (d ∷ deeds) each all = ap (λ l. l ++ flat_map f deeds) (each d all.0) ∙ none_of f t deeds each all.1

  same_parts : {B : Type 0} (f : Deed L → List B) (past deeds : List (Deed L)) → flat_map f deeds ≡ [] → flat_map f (past ++ deeds) ≡ flat_map f past
  same_parts f past deeds none = flat_map-append f past deeds ∙ ap (λ l. flat_map f past ++ l) none ∙ append-nil (flat_map f past)

  -- deeds of others don't matter
  pub view_other : (past deeds : List (Deed L)) (t : Name) → Every (λ d. same (txn_of d) t ≡ false) deeds → SameView past (past ++ deeds) t
  view_other past deeds t all = record {
    works_same = same_parts (work_in t) past deeds (none_of (work_in t) t deeds (other_work t) all);
    statements_same = same_parts (statement_in t) past deeds (none_of (statement_in t) t deeds (other_statement t) all);
    answers_same = same_parts (answer_in t) past deeds (none_of (answer_in t) t deeds (other_answer t) all);
  }

  -- deeds that say nothing of statements
  pub view_plain : (past deeds : List (Deed L)) (t : Name) → flat_map (work_in t) deeds ≡ [] → flat_map (statement_in t) deeds ≡ [] → flat_map (answer_in t) deeds ≡ [] → SameView past (past ++ deeds) t
  view_plain past deeds t a b c = record { works_same = same_parts (work_in t) past deeds a; statements_same = same_parts (statement_in t) past deeds b; answers_same = same_parts (answer_in t) past deeds c }

  -- one more statement, one more evaluated, one more answered
  pub stated_more : (past : List (Deed L)) (t : Name) (s : L.Statement) → (works (past ++ Stated t s ∷ []) t ≡ works past t) × (statements_of (past ++ Stated t s ∷ []) t ≡ statements_of past t ++ s ∷ []) × (answers_of (past ++ Stated t s ∷ []) t ≡ answers_of past t)
  stated_more past t s = (
    same_parts (work_in t) past (Stated t s ∷ []) refl,
    flat_map-append (statement_in t) past (Stated t s ∷ []) ∙ ap (λ l. statements_of past t ++ (l ++ [])) (if_true (same t t) (s ∷ []) [] (same_refl t)),
    same_parts (answer_in t) past (Stated t s ∷ []) refl,
  )

  pub worked_more : (past : List (Deed L)) (t : Name) (s : L.Statement) (asks : List (Ask L)) (choice : Choice L) →
      (works (past ++ Worked t s asks choice ∷ []) t ≡ works past t ++ record { statement = s; asks = asks; choice = choice } ∷ []) × (statements_of (past ++ Worked t s asks choice ∷ []) t ≡ statements_of past t) × (answers_of (past ++ Worked t s asks choice ∷ []) t ≡ answers_of past t)
  worked_more past t s asks choice = (
    flat_map-append (work_in t) past (Worked t s asks choice ∷ []) ∙ ap (λ l. works past t ++ (l ++ [])) (if_true (same t t) (record { statement = s; asks = asks; choice = choice } ∷ []) [] (same_refl t)),
    same_parts (statement_in t) past (Worked t s asks choice ∷ []) refl,
    same_parts (answer_in t) past (Worked t s asks choice ∷ []) refl,
  )

  pub answered_more : (past : List (Deed L)) (t : Name) (x : L.Answer) → (works (past ++ Answered t x ∷ []) t ≡ works past t) × (statements_of (past ++ Answered t x ∷ []) t ≡ statements_of past t) × (answers_of (past ++ Answered t x ∷ []) t ≡ answers_of past t ++ x ∷ [])
  answered_more past t x = (
    same_parts (work_in t) past (Answered t x ∷ []) refl,
    same_parts (statement_in t) past (Answered t x ∷ []) refl,
    flat_map-append (answer_in t) past (Answered t x ∷ []) ∙ ap (λ l. answers_of past t ++ (l ++ [])) (if_true (same t t) (x ∷ []) [] (same_refl t)),
  )
