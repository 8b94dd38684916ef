-- Why `Site::restart_kept` meets its contract.
use Rattle.std.proofs.Common.{rules, sym, ap, ◌∙◌, subst, Err}
use Rattle.store.specs.declared.fault.StoreFault.TheVariants as store_faults
use Rattle.site.specs.declared.fault.SiteFault.TheVariants as faults
use Rattle.site.specs.Locks.{leaves_in}
use Rattle.site.specs.Recovery.{Begins, IsStrange}
use Rattle.site.specs.State.{AreHad, volatile_of}
use Rattle.site.proofs.Recovered.{fault_is}
use Rattle.site.proofs.Restarting.{restarts}
use Rattle.site.proofs.site.Site.restart_kept.Goals as goal

pub returns-in_err-begun : goal.returns-in_err-begun
returns-in_err-begun g c =
    let fails = c.begin.ensures.fails in
    record {
      restarts = record {
        begins = record {
          store = fails.store;
          learnt = search rules;
          life = search rules;
          same = search rules;
          refusal = search rules;
          full = search rules;
          damaged = λ clean sound e.
              let fault = fault_is c.from_residual-in_err-begun.result c.in_err-begun.field-0.0 (faults.Store store_faults.Damaged) c.from_residual-in_err-begun.ensures.1 e in
              subst (λ leaves. IsStrange leaves (g.S.SiteStore.kept c.begin.new.store)) (c.as_slice-2.ensures.value ∙ c.in_ok-leaves.ensures ∙ ap leaves_in c.as_slice.ensures)
              (fails.damaged clean sound (c.in_err-begun.was ∙ ap Err fault));
        };
        memory = search rules;
        is_called = search rules;
        uncalled = search rules;
        ok = search rules;
        rests = search rules;
        own = search rules;
      };
    }

pub returns : goal.returns
returns g c =
    let old = g.S.SiteStore.kept c.args.self.now.store in
    let new = g.S.SiteStore.kept c.begin.new.store in
    let own = c.as_slice-2.ensures.value ∙ c.in_ok-leaves.ensures ∙ ap leaves_in c.as_slice.ensures in
    record {
      restarts = record {
        begins = search rules;
        memory = search rules;
        is_called = search rules;
        uncalled = search rules;
        ok = λ clean fits.
            let begun = subst (Begins new) (sym c.restart.ensures.begun) (c.in_ok-begun.ensures.ok clean (subst (λ leaves. AreHad leaves old) (sym own) fits.had)) in
            restarts old (volatile_of c.args.self.now.volatile) fits new (volatile_of c.restart.new.self) begun (c.in_ok-begun.ensures.fails.life clean);
        rests = λ clean had. subst (Begins new) (sym c.restart.ensures.begun) (c.in_ok-begun.ensures.ok clean (subst (λ leaves. AreHad leaves old) (sym own) had));
        own = search rules;
      };
    }
