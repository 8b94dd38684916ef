-- Lemmas on running a script.
use Rattle.std.proofs.Common.{cond, ◌∷◌, ◌||◌, ◌+◌, Bool, false, append-nil, ap₂, get_or, sym, append_assoc, ap, refl, ◌∙◌, map, ◌≡◌, ℕ, ◌<◌, ◌++◌, true, List, [], length, take, Option, Some, None, Result, Ok, Err, OnOk, is_ok, is_some, unwrap_or, nat_eq, subst}
use Rattle.std.specs.Cmp.{eq_by_cmp_equiv}
use Rattle.std.specs.Cmp.Lexicographic.{nat_list_cmp_total, pointwise}
use Rattle.std.specs.FinMap as finite
use Rattle.std.specs.Io.KnownBytes.{Appends, Keeps}
use Rattle.std.proofs.lemmas.List.{map-append, map_more}
use Rattle.std.proofs.lemmas.List.Folds.{list_any-append}
use Rattle.terms.specs.declared.value.Value.{Value}
use Rattle.meaning.specs.declared.schema.RelationSchema.{RelationSchema}
use Rattle.meaning.specs.Relation.{IsRelation}
use Rattle.meaning.specs.Schema.{kinds_of, relation_named}
use Rattle.meaning.specs.Whole.{FitsSchema, Relations}
use Rattle.meaning.proofs.Kept.{put_keeps}
use Rattle.desk.proofs.Participants.{text_is}
use Rattle.lines.specs.PlayLoad.{emptied}
use Rattle.lines.specs.Script.{Reading, task_of}
use Rattle.lines.specs.declared.script.Item.{Item}
use Rattle.lines.specs.Reply.{Told, is_refusal, text_of}
use Rattle.databases.specs.Solo.{AnswersInTurn, IsWorkBy}
use Rattle.std.proofs.lemmas.Grind.{flat_map-append}

-- what was written, and then more
pub Appends-more : (first second third : Option (List ℕ)) (xs ys : List ℕ) → Appends first second xs → Appends second third ys → Appends first third (xs ++ ys)
Appends-more None second third xs ys h k = tt
Appends-more (Some a) None third xs ys h k = absurd h
Appends-more (Some a) (Some b) None xs ys h k = absurd k
Appends-more (Some a) (Some b) (Some c) xs ys h k = rw (k, h, append_assoc) refl

-- a clause on what a call that succeeded did
pub at_ok : {T E P : Type 0} (r : Result T E) → is_ok r ≡ true → OnOk r P → P
at_ok (Ok x) ok h = h
at_ok (Err e) ok h = absurd (cc)

or_false : (b : Bool) → (b || false) ≡ b
or_false true = refl
or_false false = refl

-- Answers: what a task is answered by
module _ {S : Type 0} (Answers : Reading → S → S → Told → Type 0) where
  -- one more task, after others
  one_more : (answers : List (Reading × Told)) (old middle new : S) (task : Reading) (told : Told) → AnswersInTurn Answers answers old middle → Answers task middle new told → AnswersInTurn Answers (answers ++ (task, told) ∷ []) old new
  one_more [] old middle new task told done next =
      let P : S → Type 0 = λ standing. Answers task standing new told in
      (new, subst P done next, refl)
  one_more (first ∷ others) old middle new task told done next = (done.0, done.1, one_more others done.0 middle new task told done.2 next)

  -- nothing is done yet
  pub IsWork-none : (standing : S) → IsWorkBy Answers [] [] false standing standing
  IsWork-none standing = record { answers = []; in_order = refl; answered = refl; lines = refl; refused = refl }

  -- one more answer
  IsWork-more : (tasks : List Reading) (written : List ℕ) (any_refused : Bool) (old middle new : S) (task : Reading) (told : Told) → IsWorkBy Answers tasks written any_refused old middle → Answers task middle new told → IsWorkBy Answers (tasks ++ task ∷ []) (written ++ text_of told) (any_refused || is_refusal told) old new
  IsWork-more tasks written any_refused old middle new task told h next = record {
    answers = h.answers ++ (task, told) ∷ [];
    in_order = map-append (λ p. p.0) h.answers ((task, told) ∷ []) ∙ ap (λ front. front ++ task ∷ []) h.in_order;
    answered = one_more h.answers old middle new task told h.answered next;
    lines = ap₂ (λ front back. front ++ back) h.lines (sym (append-nil (text_of told)))
        ∙ sym (flat_map-append (λ p. text_of p.1) h.answers ((task, told) ∷ []));
    refused = ap₂ (λ front back. front || back) h.refused (sym (or_false (is_refusal told)))
        ∙ sym (list_any-append (λ p. is_refusal p.1) h.answers ((task, told) ∷ []));
  }

  -- the same, at the next of some items
  pub IsWork-next : (items : List Item) (i : ℕ) (d : Item) (written : List ℕ) (any_refused : Bool) (old middle new : S) (told : Told) (line : List ℕ) (is_refused : Bool) → i < length items → IsWorkBy Answers (map task_of (take i items)) written any_refused old middle → Answers (task_of (get_or items i d)) middle new told → line ≡ text_of told → is_refused ≡ is_refusal told → IsWorkBy Answers (map task_of (take (i + 1) items)) (written ++ line) (any_refused || is_refused) old new
  IsWork-next items i d written any_refused old middle new told line is_refused within h next is_line is_so =
      rw (map_more task_of items i d within, is_line, is_so) (IsWork-more (map task_of (take i items)) written any_refused old middle new (task_of (get_or items i d)) told h next)

-- the empty relations of a schema fit it
keeps_none : (schemas : List RelationSchema) (whole : Relations) (name : List ℕ) → finite.get whole name ≡ Some [] → finite.get (emptied schemas whole) name ≡ Some []
keeps_none [] whole name there = there
keeps_none (relation ∷ schemas) whole name there = keeps_none schemas (finite.insert whole relation.name []) name (put_keeps whole relation.name [] name (λ found. found ≡ Some []) (λ _. refl) there)

has_none : (schemas : List RelationSchema) (whole : Relations) (name : List ℕ) (relation : RelationSchema) → relation_named name schemas ≡ Some relation → finite.get (emptied schemas whole) name ≡ Some []
has_none [] whole name relation named = absurd (cc)
has_none (first ∷ schemas) whole name relation named = has_first (pointwise nat_eq first.name name) refl (λ other. has_none schemas (finite.insert whole first.name []) name relation (subst (λ (t : Bool). cond t (Some first) (relation_named name schemas) ≡ Some relation) other named))
  where
    has_first : (test : Bool) → pointwise nat_eq first.name name ≡ test → (pointwise nat_eq first.name name ≡ false → finite.get (emptied schemas (finite.insert whole first.name [])) name ≡ Some []) → finite.get (emptied schemas (finite.insert whole first.name [])) name ≡ Some []
    has_first true here rest = keeps_none schemas (finite.insert whole first.name []) name (subst (λ (other : List ℕ). finite.get (finite.insert whole first.name []) other ≡ Some []) (text_is first.name name here) (finite.get-insert nat_list_cmp_total whole first.name [] first.name ∙ ap (λ t. cond t (Some []) (finite.get whole first.name)) ((eq_by_cmp_equiv nat_list_cmp_total).refl first.name)))
    has_first false other rest = rest other

pub emptied-fits : (schemas : List RelationSchema) → FitsSchema schemas (emptied schemas finite.empty)
emptied-fits schemas = record {
  there = λ name relation named. ap is_some (has_none schemas finite.empty name relation named);
  fit = λ name relation named. subst (λ (rows : List (List Value)). IsRelation (kinds_of relation) rows) (sym (ap (λ found. unwrap_or found []) (has_none schemas finite.empty name relation named))) (record { fit = tt; ascends = tt });
}

-- what was written, and then kept
pub Appends-kept : (first second third : Option (List ℕ)) (xs : List ℕ) → Appends first second xs → Keeps second third → Appends first third xs
Appends-kept None second third xs h k = tt
Appends-kept (Some a) None third xs h k = absurd h
Appends-kept (Some a) (Some b) None xs h k = absurd k
Appends-kept (Some a) (Some b) (Some c) xs h k = k ∙ h

pub Keeps-same : (known : Option (List ℕ)) → Keeps known known
Keeps-same None = tt
Keeps-same (Some bytes) = refl
