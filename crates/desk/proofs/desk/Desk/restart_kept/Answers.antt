-- Why `restart_kept` meets its contract.
use Rattle.std.proofs.Common.{refl, sym, ◌∙◌, subst}
use Rattle.desk.specs.Frame.{BeginsOrFails}
use Rattle.desk.proofs.desk.Desk.restart_kept.Goals as goal

pub returns-clause-restarts : goal.returns-clause-restarts
returns-clause-restarts g c = record {
  begins = subst (λ ss. BeginsOrFails g.S.DeskStore.is_clean g.S.DeskStore.is_sound g.S.DeskStore.kept g.S.DeskStore.refused ss c.args.self.now.store c.restart.new.store c.restart.result) c.sites.ensures c.restart.ensures.begins;
  ok = λ db over. c.restart.ensures.ok db (over.sites ∙ sym c.sites.ensures);
  rises = λ db over. c.restart.ensures.rises db (over.sites ∙ sym c.sites.ensures);
  says_kept = c.restart.ensures.steps.kept;
  err = c.restart.ensures.steps.err;
  catalog = refl;
  later = refl;
}
