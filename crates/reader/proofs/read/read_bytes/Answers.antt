-- Why `read::read_bytes` meets its contract.
use Rattle.std.proofs.Common.{◌≡◌, ◌≢◌, ◌⊎◌, inl, inr, refl, arith}
use Rattle.std.proofs.lemmas.Result.{err_from_is_err_and}
use Rattle.reader.specs.declared.fault.Rule.{Rule}
use Rattle.reader.specs.declared.fault.Rule.TheVariants as rules
use Rattle.reader.specs.Names.{command_of}
use Rattle.reader.specs.Symbol.{symbols_of}
use Rattle.reader.specs.Tokens.{AreTokens}
use Rattle.reader.specs.Tree as tree
use Rattle.reader.proofs.NoMeaning.{none_by_rule}
use Rattle.reader.proofs.Unique.{no_grammar, no_names}
use Rattle.reader.proofs.read.read_bytes.Goals as goal

pub returns-in_err-written-clause-none : goal.returns-in_err-written-clause-none
returns-in_err-written-clause-none c =
    let p = err_from_is_err_and c.from_residual-in_err-written.result c.from_residual-in_err-written.ensures.1 in
    let spelled : AreTokens c.args.text.now (symbols_of c.as_slice.result.now) = rw c.as_slice.ensures.value c.in_ok-tokens.ensures.found in
    rw (p.1, p.2) (λ rule. no_grammar c.args.schema.now.relations c.args.text.now (symbols_of c.as_slice.result.now) spelled (c.in_err-written.ensures.none rule))

pub returns-in_err-command-clause-none : goal.returns-in_err-command-clause-none
returns-in_err-command-clause-none c =
    let p = err_from_is_err_and c.from_residual-in_err-command.result c.from_residual-in_err-command.ensures.1 in
    let spelled : AreTokens c.args.text.now (symbols_of c.as_slice.result.now) = rw c.as_slice.ensures.value c.in_ok-tokens.ensures.found in
    rw (p.1, p.2) (λ rule. no_names c.args.schema.now.relations c.args.text.now (symbols_of c.as_slice.result.now) (tree.written_tree c.in_ok-written.written) spelled c.in_ok-written.ensures.found
    (none_by_rule c.in_err-command.field-0.0.rule (command_of c.args.schema.now.relations (tree.written_tree c.in_ok-written.written)) rule c.in_err-command.ensures.exact))

pub returns-clause-found : goal.returns-clause-found
returns-clause-found c =
    let spelled : AreTokens c.args.text.now (symbols_of c.as_slice.result.now) = rw c.as_slice.ensures.value c.in_ok-tokens.ensures.found in
    record {
      tokens = symbols_of c.as_slice.result.now;
      written = tree.written_tree c.in_ok-written.written;
      short = c.if-text-gt-STATEMENT_LIMIT.false;
      spelled = spelled;
      grammatical = c.in_ok-written.ensures.found;
      meant = rw c.in_ok-command.ensures.exact refl;
    }

pub returns-in_err-written-clause-rule : goal.returns-in_err-written-clause-rule
returns-in_err-written-clause-rule c =
    let p = err_from_is_err_and c.from_residual-in_err-written.result c.from_residual-in_err-written.ensures.1 in
    let spelled : AreTokens c.args.text.now (symbols_of c.as_slice.result.now) = rw c.as_slice.ensures.value c.in_ok-tokens.ensures.found in
    rw (p.1, p.2) (λ other. inr (inl (syntax c.in_err-written.field-0.0.rule other c.in_err-written.ensures.rule, symbols_of c.as_slice.result.now, spelled, c.in_err-written.ensures.none other)))
  where
    syntax : (rule : Rule) → rule ≢ rules.Memory → (rule ≡ rules.Syntax) ⊎ (rule ≡ rules.Memory) → rule ≡ rules.Syntax
    syntax rule other (inl is) = is
    syntax rule other (inr memory) = absurd (other memory)

pub returns-in_err-command-clause-rule : goal.returns-in_err-command-clause-rule
returns-in_err-command-clause-rule c =
    let p = err_from_is_err_and c.from_residual-in_err-command.result c.from_residual-in_err-command.ensures.1 in
    let spelled : AreTokens c.args.text.now (symbols_of c.as_slice.result.now) = rw c.as_slice.ensures.value c.in_ok-tokens.ensures.found in
    rw (p.1, p.2) (λ other. inr (inr (symbols_of c.as_slice.result.now, tree.written_tree c.in_ok-written.written, spelled, c.in_ok-written.ensures.found, c.in_err-command.ensures.rule other)))

pub returns-in_err-tokens-clause-rule : goal.returns-in_err-tokens-clause-rule
returns-in_err-tokens-clause-rule c =
    let p = err_from_is_err_and c.from_residual.result c.from_residual.ensures.1 in
    rw (p.1, p.2) (λ other. inl (inr (c.in_err-tokens.ensures.rule other, c.in_err-tokens.ensures.none other)))

pub returns-then-text-gt-STATEMENT_LIMIT-clause-rule : goal.returns-then-text-gt-STATEMENT_LIMIT-clause-rule
returns-then-text-gt-STATEMENT_LIMIT-clause-rule c = λ other. inl (inl (c.new.ensures.rule, c.if-text-gt-STATEMENT_LIMIT.true))

pub returns-in_err-tokens-clause-none : goal.returns-in_err-tokens-clause-none
returns-in_err-tokens-clause-none c =
    let p = err_from_is_err_and c.from_residual.result c.from_residual.ensures.1 in
    rw (p.1, p.2) (λ other command is. c.in_err-tokens.ensures.none other is.tokens is.spelled)

pub returns-then-text-gt-STATEMENT_LIMIT-clause-none : goal.returns-then-text-gt-STATEMENT_LIMIT-clause-none
returns-then-text-gt-STATEMENT_LIMIT-clause-none c = λ other command is.
    let short = is.short in
    let long = c.if-text-gt-STATEMENT_LIMIT.true in
    absurd (omega arith)
