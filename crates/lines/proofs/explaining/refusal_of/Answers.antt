use Rattle.std.proofs.Common.{◌≡◌, ◌≢◌, ◌∙◌, Some, Result, Ok, Err, IfErr, subst, sym}
use Rattle.std.specs.Result.{result_err}
use Rattle.reader.specs.Command.{IsTextOf}
use Rattle.reader.specs.Fault.{Fault}
use Rattle.reader.specs.declared.command.Command.{Command}
use Rattle.reader.specs.declared.fault.Rule.TheVariants as rules
use Rattle.lines.proofs.explaining.refusal_of.Goals as goal

-- what holds of the error of a result
of_error : {T E : Type 0} (P : E → Type 0) (read : Result T E) (fault : E) → result_err read ≡ Some fault → IfErr read P → P fault
of_error P (Ok value) fault is holds = absurd (cc)
of_error P (Err other) fault is holds =
    let same : other ≡ fault = cc in
    subst P same holds

pub returns-in_default : goal.returns-in_default
returns-in_default c = λ command of_text.
    let P : Fault → Type 0 = λ fault. fault.rule ≢ rules.Memory → (other : Command) → ¬ (IsTextOf c.args.schema.now.relations c.args.text.now other) in
    absurd (of_error P c.read.result c.in_ok-fault.fault (sym c.err.ensures.value ∙ c.in_ok-fault.was) c.read.ensures.none (λ memory. c.in_default.not-Memory (c.rule.ensures ∙ memory)) command of_text)
