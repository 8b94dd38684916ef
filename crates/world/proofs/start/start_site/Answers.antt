-- Why `start_site` meets its contract.
use Rattle.std.proofs.Common.{refl, rules}
use Rattle.store.specs.PlainSite.{kept_of}
use Rattle.world.proofs.Unstarted.{site_fault_is_memory}
use Rattle.world.proofs.start.start_site.Goals as goal

pub returns-clause-err : goal.returns-clause-err
returns-clause-err c =
    let store = c.in_ok-store.ensures in
    let start = c.in-Err.ensures in
    site_fault_is_memory c.as_slice.result.now (kept_of c.in_ok-store.store) (kept_of c.in-Err.unstarted.store) c.in-Err.unstarted.fault store.parts.prepared store.parts.life
    (start.same tt store.sound) start.refusal (start.full tt) (start.damaged tt store.sound) start.own

pub returns-in-Ok-clause-started : goal.returns-in-Ok-clause-started
returns-in-Ok-clause-started c = record {
  called = search rules;
  leaves = search rules;
  content = search rules;
  rests = record { begins = c.in-Ok.ensures.ok (λ leaf there. refl) tt; prepared = search rules };
}
