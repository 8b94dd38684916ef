-- Why `lexer::tokens` meets its contract.
use Rattle.std.proofs.Common.{◌≡◌, ◌<◌, ◌-◌, ◌==◌, length, arith, eqb-true, sym, ◌∙◌, true, false}
use Rattle.std.proofs.lemmas.Bool.{eqb-false}
use Rattle.std.proofs.lemmas.Result.{err_from_is_err_and}
use Rattle.reader.proofs.Loop.{behind_within, is_whole, is_refused, is_shorter, is_read}
use Rattle.reader.proofs.lexer.tokens.Goals as goal

pub returns-then-is_empty-clause-found : goal.returns-then-is_empty-clause-found
returns-then-is_empty-clause-found c =
    let empty : (length c.split.result.1.now == 0) ≡ true = sym c.is_empty.ensures ∙ c.if-is_empty.true in
    is_whole c.args.text.now c.loop-begun.tokens.items c.loop-begun.rest.now c.split.result.1.now c.loop-begun.invariant c.split.ensures.rest (eqb-true _ _ empty)

pub overflow_sub-offset : goal.overflow_sub-offset
overflow_sub-offset c = behind_within c.args.text.now c.loop-begun.tokens.items c.loop-begun.rest.now c.split.result.1.now c.loop-begun.invariant c.split.ensures.rest

pub returns-in_err-token-clause-none : goal.returns-in_err-token-clause-none
returns-in_err-token-clause-none c =
    let p = err_from_is_err_and c.from_residual-in_err-token.result c.from_residual-in_err-token.ensures.1 in
    let full : (length c.split.result.1.now == 0) ≡ false = sym c.is_empty.ensures ∙ c.if-is_empty.false in
    let apart = eqb-false _ _ full in
    let some : 0 < length c.split.result.1.now = omega arith in
    rw (p.1, p.2) (λ other symbols. is_refused c.args.text.now c.loop-begun.tokens.items c.loop-begun.rest.now c.split.result.1.now c.loop-begun.invariant c.split.ensures.rest _ some c.in_err-token.ensures.exact other symbols)

pub returns-in_err-token-clause-within : goal.returns-in_err-token-clause-within
returns-in_err-token-clause-within c =
    let p = err_from_is_err_and c.from_residual-in_err-token.result c.from_residual-in_err-token.ensures.1 in
    let behind = behind_within c.args.text.now c.loop-begun.tokens.items c.loop-begun.rest.now c.split.result.1.now c.loop-begun.invariant c.split.ensures.rest in
    let fault = c.in_err-token.ensures.within in
    rw (p.1, p.2) (omega arith)

pub loop-begun-smaller : goal.loop-begun-smaller
loop-begun-smaller c = is_shorter c.args.text.now c.loop-begun.tokens.items c.loop-begun.rest.now c.split.result.1.now c.loop-begun.invariant c.split.ensures.rest _ _ c.in_ok-token.ensures.exact

pub loop-begun-preserved : goal.loop-begun-preserved
loop-begun-preserved c =
    let read = is_read c.args.text.now c.loop-begun.tokens.items c.loop-begun.rest.now c.split.result.1.now c.loop-begun.invariant c.split.ensures.rest
    (record { token = c.in_ok-token.token; offset = length c.args.text.now - length c.split.result.1.now }) c.in_ok-token.behind.now c.in_ok-token.ensures.exact (omega arith) in
    rw (c.in_ok-push.ensures.items) read
