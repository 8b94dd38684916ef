-- Statements one after another.
use Rattle.std.proofs.Common.{◌≡◌, ℕ, ◌+◌, ◌<◌, Bool, true, false, ◌||◌, List, [], ◌∷◌, take, length, get_or, drop, ◌++◌, string_bytes, ◌⊎◌, Ok, Err, Result, refl, sym, ap, ◌∙◌, subst, inl, inr}
use Rattle.std.proofs.lemmas.Bool.{or_parts, or_from}
use Rattle.std.proofs.lemmas.List.{take_more}
use Rattle.std.proofs.lemmas.List.Folds.{list_any_more}
use Rattle.sqlite.specs.Effect.{Database}
use Rattle.sqlite.specs.Order.{Row}
use Rattle.sqlite.specs.Schema.{Schema}
use Rattle.sqlite.specs.State.{State, Shows}
use Rattle.sqlite.specs.declared.error.Error.{Error}
use Rattle.sqlite.proofs.InsideLemmas.{keeps_then}
use Rattle.sqlstore.specs.Rows.{RewritesOf, Loses, Gains}
use Rattle.sqlstore.specs.declared.intent.Intent.{Intent}
use Rattle.sqlstore.specs.declared.visit.Visit.{Visit}
use Rattle.sqlite_rules.specs.Lists.{Has}
use Rattle.sqlite_rules.proofs.ListLemmas.{has_left, has_right, has_either}
use Rattle.sqlstore.specs.Step.{StepsOn, Empties, Takes, Forgets, Keeps, Intends, Promises, slot_params, visit_params, intend_params, is_at_some}
use Rattle.sqlstore.specs.Tests.{at_slot, of_visit, passes}

-- a step that answered
abbrev pub good : ℕ → Result ℕ Error
good n = Ok n

shows_then : (old mid new : State) → Shows old mid mid.now old.committed true → Shows mid new new.now mid.committed true → Shows old new new.now old.committed true
shows_then old mid new first second = record { was_open = first.was_open; is_open = second.is_open; now_is = refl; committed_is = second.committed_is ∙ first.committed_is; mode = second.mode }

-- a statement that follows another
pub then_step : {Known Between : Database → Type 0} {A B : Type 0} (P Q R : Database → Database → Type 0) (old mid new : State) (value : A) (result : Result B Error) → (P old.now mid.now → Between mid.now) → (P old.now mid.now → Q mid.now new.now → R old.now new.now)
    → StepsOn Known P old mid (Ok value) → StepsOn Between Q mid new result → StepsOn Known R old new result
then_step P Q R old mid new value (Ok other) known both first second = record {
  kept = keeps_then old mid new first.kept second.kept;
  shows = shows_then old mid new first.shows second.shows;
  does = λ were. let p = first.does were in both p (second.does (known p));
}
then_step P Q R old mid new value (Err e) known both first second = record { kept = keeps_then old mid new first.kept second.kept; shows = tt; does = λ _. tt }

-- rows that go after others that went
pub loses_more : (one other both : Row → Bool) (a b c : List Row) → ((row : Row) → both row ≡ (one row || other row)) → Loses one a b → Loses other b c → Loses both a c
loses_more one other both a b c is first second = record {
  gone = λ row there. let late = second.gone row there in let early = first.gone row late.0 in (early.0, is row ∙ or_from (one row) (other row) early.1 late.1);
  left = λ row there fails. let parts = or_parts (one row) (other row) (sym (is row) ∙ fails) in second.left row (first.left row there parts.0) parts.1;
}

-- a table loses rows again
pub loses_again : {own : Schema} (tree : ℕ) (one other both : Row → Bool) (a b c : Database) → ((row : Row) → both row ≡ (one row || other row)) → RewritesOf own tree (Loses one) a b → RewritesOf own tree (Loses other) b c → RewritesOf own tree (Loses both) a c
loses_again tree one other both a b c is first second = record {
  tables = second.tables;
  sound = second.sound;
  rows = loses_more one other both (a.trees tree) (b.trees tree) (c.trees tree) is first.rows second.rows;
  others = λ table listed apart. second.others table listed apart ∙ first.others table listed apart;
}

-- nothing goes
pub loses_none : {own : Schema} (tree : ℕ) (P : Database → Database → Type 0) (Changes : List Row → List Row → Type 0) (other : ℕ) (old new : Database) → RewritesOf own other Changes old new → RewritesOf own tree (Loses (λ _. false)) new new
loses_none tree P Changes other old new before = record {
  tables = before.tables;
  sound = before.sound;
  rows = record { gone = λ row there. (there, refl); left = λ row there _. there };
  others = λ table listed apart. refl;
}

-- the part at one slot more is taken out
pub empties_more : (visit : Visit) (slots : List Row) (i : ℕ) (slot : Row) (a b c : Database) → i < length slots → slot ≡ get_or slots i slot → Empties visit (take i slots) a b → Takes slot b c → Empties visit (take (i + 1) slots) a c
empties_more visit slots i slot a b c lt is first second =
    let one_more = λ (row : Row). list_any_more (λ (s : Row). passes at_slot (slot_params s) row) slots i slot lt ∙ ap (λ (s : Row). is_at_some (take i slots) row || passes at_slot (slot_params s) row) (sym is) in
    (first.0, first.1, loses_again 0 (is_at_some (take i slots)) (passes at_slot (slot_params slot)) (is_at_some (take (i + 1) slots)) first.0 b c one_more first.2 second)

-- rows that come after others that came
gains_more : (P Q R : Row → Type 0) (a b c : List Row) → ((cells : Row) → P cells → R cells) → ((cells : Row) → Q cells → R cells) → ((cells : Row) → R cells → P cells ⊎ Q cells) → Gains P a b → Gains Q b c → Gains R a c
gains_more P Q R a b c one other either first second = record {
  kept = λ row there. second.kept row (first.kept row there);
  made = λ cells is. elim (either cells is) [
    | inl early ↦ let made = first.made cells early in (made.0, second.kept made.0 made.1, made.2)
    | inr late ↦ second.made cells late
  ];
  only = λ row there. elim (second.only row there) [
    | inl was ↦ elim (first.only row was) [ inl before ↦ inl before | inr early ↦ inr (one (drop 1 row) early) ]
    | inr late ↦ inr (other (drop 1 row) late)
  ];
}

-- a table gains rows again
pub gains_again : {own : Schema} (tree : ℕ) (P Q R : Row → Type 0) (a b c : Database) → ((cells : Row) → P cells → R cells) → ((cells : Row) → Q cells → R cells) → ((cells : Row) → R cells → P cells ⊎ Q cells) → RewritesOf own tree (Gains P) a b → RewritesOf own tree (Gains Q) b c
    → RewritesOf own tree (Gains R) a c
gains_again tree P Q R a b c one other either first second = record {
  tables = second.tables;
  sound = second.sound;
  rows = gains_more P Q R (a.trees tree) (b.trees tree) (c.trees tree) one other either first.rows second.rows;
  others = λ table listed apart. second.others table listed apart ∙ first.others table listed apart;
}

-- one intent more is kept
pub keeps_more : (visit txn : Visit) (intents : List Intent) (i : ℕ) (intent : Intent) (a b c : Database) → i < length intents → intent ≡ get_or intents i intent → Keeps visit txn (take i intents) a b
    → Intends visit (string_bytes intent.leaf) intent.key intent.body.items b c → Keeps visit txn (take (i + 1) intents) a c
keeps_more visit txn intents i intent a b c lt is first second =
    let cells_of = λ (it : Intent). intend_params visit (string_bytes it.leaf) it.key it.body.items in
    let Of = λ (all : List Intent) (cells : Row). (it : Intent) × Has all it × (cells ≡ cells_of it) in
    let more : take (i + 1) intents ≡ take i intents ++ intent ∷ [] = take_more intents i intent lt ∙ ap (λ (it : Intent). take i intents ++ it ∷ []) (sym is) in (
      first.0,
      first.1,
      gains_again 4 (Of (take i intents)) (λ cells. cells ≡ cells_of intent) (Of (take (i + 1) intents)) first.0 b c
          (λ cells from. (from.0, subst (λ all. Has all from.0) (sym more) (has_left (take i intents) (intent ∷ []) from.0 from.1), from.2))
          (λ cells is-it. (intent, subst (λ all. Has all intent) (sym more) (has_right (take i intents) (intent ∷ []) intent (inl refl)), is-it))
          (λ cells from. elim (has_either (take i intents) (intent ∷ []) from.0 (subst (λ all. Has all from.0) more from.1)) [
            | inl before ↦ inl (from.0, before, from.2)
            | inr last ↦ elim last [ inl same ↦ inr (from.2 ∙ ap cells_of same) | inr none ↦ absurd none ]
          ])
          first.2 second,
    )

-- no part is taken out yet
pub empties_none : (visit : Visit) (a b : Database) → Forgets visit a b → Empties visit [] a b
empties_none visit a b first = (b, first, loses_none 0 (Forgets visit) (Loses (passes of_visit (visit_params visit))) 2 a b first)

-- no intent is kept yet
pub keeps_none : (visit txn : Visit) (a b : Database) → Promises visit txn a b → Keeps visit txn [] a b
keeps_none visit txn a b first = (
  b,
  first,
  record {
    tables = first.tables;
    sound = first.sound;
    rows = record { kept = λ row there. there; made = λ cells from. absurd from.1; only = λ row there. inl there };
    others = λ table listed apart. refl;
  },
)
