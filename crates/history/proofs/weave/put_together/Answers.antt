-- Why `put_together` meets its contract.
use Rattle.std.proofs.Common.{ap, Err, inl, inr, subst, []}
use Rattle.std.proofs.lemmas.Result.{err_from_is_err_and}
use Rattle.history.specs.Brought.{IsNotBrought}
use Rattle.history.specs.Picks.{acts_of}
use Rattle.history.proofs.Woven.{brought_is, ordered_is}
use Rattle.history.proofs.weave.put_together.Goals as goal

pub returns-in_err-acts-clause-why : goal.returns-in_err-acts-clause-why
returns-in_err-acts-clause-why c =
    let p = err_from_is_err_and c.from_residual.result c.from_residual.ensures.1 in
    rw (p.1, p.2) (λ k e. inl (c.in_err-acts.ensures.why k (ap Err (ordered_is c.in_err-acts.field-0.0 k cc))))

pub returns-in_err-happened-clause-why : goal.returns-in_err-happened-clause-why
returns-in_err-happened-clause-why c =
    let p = err_from_is_err_and c.from_residual-in_err-happened.result c.from_residual-in_err-happened.ensures.1 in
    rw (p.1, p.2) (λ k e. inr (acts_of c.in_ok-acts.acts.items, (c.in_ok-acts.ensures.ok, subst (λ acts. IsNotBrought c.args.sites.now [] (acts_of acts) k) c.as_slice.ensures.value (c.in_err-happened.ensures.why k (ap Err (brought_is c.in_err-happened.field-0.0 k cc))))))
