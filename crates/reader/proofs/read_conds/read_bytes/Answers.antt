-- Why `read_conds::read_bytes` meets its contract.
use Rattle.std.proofs.Common.{Some, ap, sym, ◌∙◌}
use Rattle.std.proofs.lemmas.Result.{err_from_is_err_and}
use Rattle.reader.specs.Names.{conds_of}
use Rattle.reader.specs.Scope.{columns_alone}
use Rattle.reader.specs.Symbol.{symbols_of}
use Rattle.reader.specs.Tokens.{AreTokens}
use Rattle.reader.specs.Tree as tree
use Rattle.reader.proofs.NoMeaning.{none_by_rule}
use Rattle.reader.proofs.CondsOfText.{no_grammar, no_names}
use Rattle.reader.proofs.read_conds.read_bytes.Goals as goal

pub returns-in_err-written-clause-none : goal.returns-in_err-written-clause-none
returns-in_err-written-clause-none c =
    let p = err_from_is_err_and c.from_residual-in_err-written.result c.from_residual-in_err-written.ensures.1 in
    let spelled : AreTokens c.args.text.now (symbols_of c.as_slice.result.now) = rw c.as_slice.ensures.value c.in_ok-tokens.ensures.found in
    rw (p.1, p.2) (λ rule. no_grammar c.args.columns.now c.args.text.now (symbols_of c.as_slice.result.now) spelled (c.in_err-written.ensures.none rule))

pub returns-in_err-conds-clause-none : goal.returns-in_err-conds-clause-none
returns-in_err-conds-clause-none c =
    let p = err_from_is_err_and c.from_residual-in_err-conds.result c.from_residual-in_err-conds.ensures.1 in
    let spelled : AreTokens c.args.text.now (symbols_of c.as_slice.result.now) = rw c.as_slice.ensures.value c.in_ok-tokens.ensures.found in
    rw (p.1, p.2) (λ rule. no_names c.args.columns.now c.args.text.now (symbols_of c.as_slice.result.now) (tree.conditions_tree c.in_ok-written.written) spelled c.in_ok-written.ensures.found
    (none_by_rule c.in_err-conds.field-0.0.rule (conds_of (columns_alone c.args.columns.now) (tree.conditions_tree c.in_ok-written.written)) rule (rw (c.of_columns.ensures, c.as_slice-2.ensures.value) at c.in_err-conds.ensures.exact)))

pub returns-clause-found : goal.returns-clause-found
returns-clause-found c =
    let spelled : AreTokens c.args.text.now (symbols_of c.as_slice.result.now) = rw c.as_slice.ensures.value c.in_ok-tokens.ensures.found in
    record {
      tokens = symbols_of c.as_slice.result.now;
      written = tree.conditions_tree c.in_ok-written.written;
      short = c.if-text-gt-STATEMENT_LIMIT.false;
      spelled = spelled;
      grammatical = c.in_ok-written.ensures.found;
      meant = (rw (c.of_columns.ensures, c.as_slice-2.ensures.value) at c.in_ok-conds.ensures.exact) ∙ ap Some (sym c.in_ok-resolved.ensures);
    }
