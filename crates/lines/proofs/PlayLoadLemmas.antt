-- Lemmas on what a script of schedules loads.
use Rattle.std.proofs.Common.{◌≡◌, ◌≢◌, ◌<◌, ◌+◌, ◌++◌, ◌∷◌, [], ℕ, Bool, true, false, List, length, take, drop, get_or, Option, Some, None, IfNone, ap, refl, sym, subst, add-one, drop-cons, ◌∙◌, arith}
use Rattle.std.specs.FinMap as finite
use Rattle.std.proofs.lemmas.Grind.{common_steps}
use Rattle.terms.specs.Row.{key_of}
use Rattle.meaning.specs.declared.answer.Answer.{Answer}
use Rattle.meaning.specs.declared.answer.Answer.TheVariants.{Changed, Exists}
use Rattle.meaning.specs.declared.schema.RelationSchema.{RelationSchema}
use Rattle.meaning.specs.declared.statement.Insert.{Insert}
use Rattle.meaning.specs.declared.statement.Statement.TheVariants as statement
use Rattle.meaning.specs.Meaning.{meaning}
use Rattle.meaning.specs.Relation.{has_key, insert_row}
use Rattle.meaning.specs.Whole.{Relations, rows_of}
use Rattle.reader.specs.declared.command.Command.{Command}
use Rattle.reader.specs.declared.command.Command.TheVariants.{Run}
use Rattle.reader.specs.Command.{IsTextOf, OneCommandOfText}
use Rattle.lines.specs.declared.play_items.Placed.{Placed}
use Rattle.lines.specs.PlayLoad.{LoadsAll, LoadsItem, emptied, is_changed}

-- what an INSERT comes to, by whether its key is there
abbrev pub outcome : Bool → Relations → Relations → Answer × Relations
outcome true before more = (Exists, before)
outcome false before more = (Changed 1, more)

outcome_is : (insert : Insert) (before : Relations) (there : Bool) → has_key (key_of insert.row) (rows_of before insert.into) ≡ there → meaning (statement.Insert insert) before ≡ outcome there before (finite.insert before insert.into (insert_row insert.row (rows_of before insert.into)))
outcome_is insert before true is = rw is refl
outcome_is insert before false is = rw is refl

changed_by : (there : Bool) (before more : Relations) → is_changed (outcome there before more).0 ≡ true → outcome there before more ≡ (Changed 1, (outcome there before more).1)
changed_by true before more is = absurd cc
changed_by false before more is = refl

stays_by : (there : Bool) (before more : Relations) → is_changed (outcome there before more).0 ≡ false → ((outcome there before more).0 ≡ Exists) × ((outcome there before more).1 ≡ before)
stays_by true before more is = (refl, refl)
stays_by false before more is = absurd cc

-- an INSERT adds its row, or its key is there and nothing has changed
pub insert_adds : (insert : Insert) (before after : Relations) (answer : Answer) → answer ≡ (meaning (statement.Insert insert) before).0 → after ≡ (meaning (statement.Insert insert) before).1 → is_changed answer ≡ true → meaning (statement.Insert insert) before ≡ (Changed 1, after)
insert_adds insert before after answer is_answer is_after changed =
    let there = has_key (key_of insert.row) (rows_of before insert.into) in
    let more = finite.insert before insert.into (insert_row insert.row (rows_of before insert.into)) in
    let is : meaning (statement.Insert insert) before ≡ outcome there before more = outcome_is insert before there refl in
    is ∙ changed_by there before more (ap (λ (m : Answer × Relations). is_changed m.0) (sym is) ∙ sym (ap is_changed is_answer) ∙ changed)
    ∙ ap (λ (w : Relations). (Changed 1, w)) (ap (λ (m : Answer × Relations). m.1) (sym is) ∙ sym is_after)

pub insert_stays : (insert : Insert) (before after : Relations) (answer : Answer) → answer ≡ (meaning (statement.Insert insert) before).0 → after ≡ (meaning (statement.Insert insert) before).1 → is_changed answer ≡ false → ((meaning (statement.Insert insert) before).0 ≡ Exists) × (after ≡ before)
insert_stays insert before after answer is_answer is_after stays =
    let there = has_key (key_of insert.row) (rows_of before insert.into) in
    let more = finite.insert before insert.into (insert_row insert.row (rows_of before insert.into)) in
    let is : meaning (statement.Insert insert) before ≡ outcome there before more = outcome_is insert before there refl in
    let both = stays_by there before more (ap (λ (m : Answer × Relations). is_changed m.0) (sym is) ∙ sym (ap is_changed is_answer) ∙ stays) in
    (ap (λ (m : Answer × Relations). m.0) is ∙ both.0, is_after ∙ ap (λ (m : Answer × Relations). m.1) is ∙ both.1)

-- another INSERT of the same text
pub same_insert : (schema : List RelationSchema) (text : List ℕ) (one other : Insert) (before : Relations) → OneCommandOfText → IsTextOf schema text (Run (statement.Insert one)) → IsTextOf schema text (Run (statement.Insert other)) → (meaning (statement.Insert one) before).0 ≡ Exists → (meaning (statement.Insert other) before).0 ≡ Exists
same_insert schema text one other before only of_one of_other is =
    let same : Run (statement.Insert one) ≡ Run (statement.Insert other) = only schema text (Run (statement.Insert one)) (Run (statement.Insert other)) of_one of_other in
    let same_one : one ≡ other = cc in
    subst (λ (i : Insert). (meaning (statement.Insert i) before).0 ≡ Exists) same_one is

-- one more item, after others
pub LoadsAll-more : (schema : List RelationSchema) (past : List Placed) (here : Placed) (before middle after : Relations) → LoadsAll schema past before middle → LoadsItem schema here.item middle after → LoadsAll schema (past ++ here ∷ []) before after
LoadsAll-more schema [] here before middle after done next = (after, subst (λ (w : Relations). LoadsItem schema here.item w after) done next, refl)
LoadsAll-more schema (first ∷ past) here before middle after done next = (done.0, done.1, LoadsAll-more schema past here done.0 middle after done.2 next)

-- one relation more
pub emptied-next : (relations : List RelationSchema) (i : ℕ) (d : RelationSchema) (whole more all : Relations) → i < length relations → more ≡ finite.insert whole (get_or relations i d).name [] → emptied (drop i relations) whole ≡ all → emptied (drop (i + 1) relations) more ≡ all
emptied-next relations i d whole more all within next so_far =
    let here : drop i relations ≡ get_or relations i d ∷ drop (i + 1) relations = rw (add-one, drop-cons relations i d) refl in
    ap (emptied (drop (i + 1) relations)) next ∙ ap (λ rest. emptied rest whole) (sym here) ∙ so_far

-- a text of no INSERT
pub no_insert : (schema : List RelationSchema) (text : List ℕ) (command : Command) (found : Option Insert) → OneCommandOfText → IsTextOf schema text command → IfNone found ((insert : Insert) → command ≢ Run (statement.Insert insert)) → found ≡ None → (insert : Insert) → IsTextOf schema text (Run (statement.Insert insert)) → ⊥
no_insert schema text command None only of none is insert of_insert = none insert (only schema text command (Run (statement.Insert insert)) of of_insert)
no_insert schema text command (Some one) only of none is insert of_insert = absurd cc

-- the items around one
pub items_at : (items : List Placed) (i : ℕ) (d : Placed) → i < length items → items ≡ take i items ++ get_or items i d ∷ drop (i + 1) items
items_at items i d within = grind (arith, common_steps)

-- one more item, in its place
pub LoadsAll-next : (schema : List RelationSchema) (items : List Placed) (i : ℕ) (d : Placed) (before middle after : Relations) → i < length items → LoadsAll schema (take i items) before middle → LoadsItem schema (get_or items i d).item middle after → LoadsAll schema (take (i + 1) items) before after
LoadsAll-next schema items i d before middle after within done next =
    let more : take (i + 1) items ≡ take i items ++ get_or items i d ∷ [] = grind (arith, common_steps) in
    rw more (LoadsAll-more schema (take i items) (get_or items i d) before middle after done next)
