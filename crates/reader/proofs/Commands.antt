-- All of the tokens: a command, and a semicolon or nothing behind it, or conditions.
use Rattle.std.proofs.Common.{◌≡◌, ◌≢◌, Bool, List, [], ◌∷◌, ◌++◌, Option, Some, None, Result, Ok, Err, refl, sym, ap, subst, ◌∙◌, inl, inr}
use Rattle.std.proofs.lemmas.List.{append-nil}
use Rattle.std.specs.Global.{Vec}
use Rattle.std.specs.Prelude.{IfOk, IfErr}
use Rattle.reader.specs.declared.fault.Rule.{Rule}
use Rattle.reader.specs.declared.fault.Rule.TheVariants as rules
use Rattle.reader.specs.declared.fault.ReadFault.{ReadFault}
use Rattle.reader.specs.declared.keyword.Keyword.TheVariants as word
use Rattle.reader.specs.declared.sign.Sign.TheVariants as mark
use Rattle.reader.specs.declared.tree.Condition as code_condition
use Rattle.reader.specs.declared.tree.Written as code_written
use Rattle.reader.specs.Symbol.{Symbol, key, sign}
use Rattle.reader.specs.Tree as tree
use Rattle.reader.specs.Grammar.{conditions_text, written_text, IsFilled, IsWritable, IsEnd, Writes, WriteOneCommand, WritesConditions, WriteOneListOfConditions}
use Rattle.reader.specs.Parsing.{and_then, Fails, Gives, eat, ended, items_at, condition_at, command_at, conditions_alone_at}
use Rattle.reader.proofs.Steps.{Cut, bind, eaten}
use Rattle.reader.proofs.Productions.{conditions_takes, conditions_again}
use Rattle.reader.proofs.Statements.{written_takes, written_again}

-- nothing is left behind
ended_empty : {A : Type 0} (x y : A) (rest : List Symbol) → ended x rest ≡ Some y → (rest ≡ []) × (x ≡ y)
ended_empty x y [] h = (refl, cc)
ended_empty x y (_ ∷ _) h = absurd cc

is_end : (rest : List Symbol) → (eat (sign mark.Semicolon) rest).1 ≡ [] → IsEnd rest
is_end rest h =
    elim (eaten (sign mark.Semicolon) rest) [
      | inl e ↦ inr (e.2.parts ∙ ap (λ (r : List Symbol). sign mark.Semicolon ∷ r) (ap (λ (r : Bool × List Symbol). r.1) (sym e.1) ∙ h))
      | inr e ↦ inl (ap (λ (r : Bool × List Symbol). r.1) (sym e) ∙ h)
    ]

command_takes : (symbols : List Symbol) (w : tree.Written) → command_at symbols ≡ Some w → Writes symbols w
unfolding command_at
command_takes symbols w h =
    let written = bind h in
    let front = written_takes _ _ written.1 in
    let end = ended_empty _ _ _ written.2 in
    subst (λ (v : tree.Written). Writes symbols v) end.1 (front.1, written.0.1, front.0.parts, is_end _ end.0)

command_again_by : (w : tree.Written) → IsWritable w → (rest : List Symbol) → IsEnd rest → command_at (written_text w ++ rest) ≡ Some w
unfolding command_at and_then eat
command_again_by w fine rest (inl none) = rw (written_again w fine rest (inl none), none) refl
command_again_by w fine rest (inr semicolon) = rw (written_again w fine rest (inr semicolon), semicolon) refl

command_again : (symbols : List Symbol) (w : tree.Written) → Writes symbols w → command_at symbols ≡ Some w
command_again symbols w written = rw written.2 (command_again_by w written.0 written.1 written.3)

-- tokens write one command at most
pub one_command : WriteOneCommand
one_command symbols one other first second =
    let same : Some one ≡ Some other = sym (command_again symbols one first) ∙ command_again symbols other second in
    cc

-- nothing was read, unless memory ran out
refused : {A : Type 0} (read : Option A) (rule : Rule) → Fails rule read → rule ≢ rules.Memory → read ≡ None
refused read rules.Memory fails other = absurd (other refl)
refused read rules.Syntax fails other = fails
refused read _ fails other = absurd fails

-- what was read is written so
pub is_found : (symbols : List Symbol) (r : Result code_written.Written ReadFault) → Gives tree.written_tree r (command_at symbols) → IfOk r (λ w. Writes symbols (tree.written_tree w))
is_found symbols (Ok w) given = command_takes symbols (tree.written_tree w) given
is_found symbols (Err fault) given = tt

-- what was refused isn't written by any command
pub is_none : (symbols : List Symbol) (r : Result code_written.Written ReadFault) → Gives tree.written_tree r (command_at symbols) → IfErr r (λ fault. fault.rule ≢ rules.Memory → (w : tree.Written) → ¬ (Writes symbols w))
is_none symbols (Ok w) given = tt
is_none symbols (Err fault) given = λ other w written.
    let nothing : None ≡ Some w = sym (refused (command_at symbols) fault.rule given other) ∙ command_again symbols w written in
    absurd cc

-- ---- conditions alone

whole : {symbols front rest : List Symbol} → Cut symbols front rest → rest ≡ [] → symbols ≡ front
whole {symbols} {front} {rest} cut none = cut.parts ∙ ap (λ (r : List Symbol). front ++ r) none ∙ append-nil front

alone_takes : (symbols : List Symbol) (cs : List tree.Condition) → conditions_alone_at symbols ≡ Some cs → WritesConditions symbols cs
unfolding conditions_alone_at
alone_takes symbols cs h =
    let conditions = bind h in
    let front = conditions_takes _ _ conditions.1 in
    let end = ended_empty _ _ _ conditions.2 in
    subst (λ (v : List tree.Condition). WritesConditions symbols v) end.1 (front.1, whole front.0 end.0)

alone_again_by : (cs : List tree.Condition) → IsFilled cs → items_at condition_at (key word.And) (conditions_text cs) ≡ Some (cs, [])
unfolding eat
alone_again_by cs filled = subst (λ (s : List Symbol). items_at condition_at (key word.And) s ≡ Some (cs, [])) (append-nil (conditions_text cs)) (conditions_again cs filled [] refl)

alone_again : (symbols : List Symbol) (cs : List tree.Condition) → WritesConditions symbols cs → conditions_alone_at symbols ≡ Some cs
unfolding conditions_alone_at and_then
alone_again symbols cs written = rw (written.1, alone_again_by cs written.0) refl

-- tokens write one list of conditions at most
pub one_list_of_conditions : WriteOneListOfConditions
one_list_of_conditions symbols one other first second =
    let same : Some one ≡ Some other = sym (alone_again symbols one first) ∙ alone_again symbols other second in
    cc

-- what was read is written so
pub are_found : (symbols : List Symbol) (r : Result (Vec code_condition.Condition) ReadFault) → Gives tree.conditions_tree r (conditions_alone_at symbols) → IfOk r (λ cs. WritesConditions symbols (tree.conditions_tree cs))
are_found symbols (Ok cs) given = alone_takes symbols (tree.conditions_tree cs) given
are_found symbols (Err fault) given = tt

-- what was refused isn't written by any conditions
pub are_none : (symbols : List Symbol) (r : Result (Vec code_condition.Condition) ReadFault) → Gives tree.conditions_tree r (conditions_alone_at symbols) → IfErr r (λ fault. fault.rule ≢ rules.Memory → (cs : List tree.Condition) → ¬ (WritesConditions symbols cs))
are_none symbols (Ok cs) given = tt
are_none symbols (Err fault) given = λ other cs written.
    let nothing : None ≡ Some cs = sym (refused (conditions_alone_at symbols) fault.rule given other) ∙ alone_again symbols cs written in
    absurd cc
