use Rattle.std.proofs.Common.{ap, ◌∙◌, ◌≡◌, refl, subst, None, OnOk}
use Rattle.catalog.specs.Relation.{catalogue_of}
use Rattle.world.proofs.Leaves.{ends_last}
use Rattle.databases.specs.Client.{heard_text}
use Rattle.databases.proofs.ClientLemmas.{is_heard, is_turned_away, not_stopped}
use Rattle.databases.proofs.ListClientLemmas.{behind_of, is_heard_over, is_turned_away_over, stands_in}
use Rattle.databases.proofs.client.command.Goals as goal

pub returns-in_ok-heard_text-in-Ok : goal.returns-in_ok-heard_text-in-Ok
returns-in_ok-heard_text-in-Ok g c = record {
  clean = c.execute.ensures.leaves.clean;
  answers = λ catalogue whole past clean h.
      is_heard catalogue whole past c.args.database.now c.execute.new.self clean h c.args.mode c.args.text.now c.in-Ok.heard.items _ c.in-Ok.ensures.executes (subst (λ done. OnOk done (c.execute.new.self.stopped ≡ None)) c.in-Ok.is (c.execute.ensures.stops h.going).0) (ap catalogue_of (ends_last c.execute.ensures.leaves.catalogs h.served.fit.single).0) (ends_last c.execute.ensures.leaves.catalogs h.served.fit.single).1 c.execute.ensures.leaves.sound
      (c.in_ok-heard_text-in-Ok.ensures ∙ ap (heard_text c.args.mode) c.as_slice.ensures.value);
  over = λ db whole happened listed clean h.
      let old = c.args.database.now in
      let new = c.execute.new.self in
      let done = c.in-Ok.ensures.lists h.going db whole happened.deeds listed (stands_in db old.machines.desk h.here h.next) clean h.sound h.told.served in
      is_heard_over db whole happened old new clean h c.args.mode c.args.text.now c.in-Ok.heard.items _ (done.0 tt) (subst (λ done. OnOk done (new.stopped ≡ None)) c.in-Ok.is (c.execute.ensures.stops h.going).0)
      (refl, done.1.here, behind_of db new.machines.desk.volatile.version new.machines.desk.later.items done.1.next) c.execute.ensures.leaves.sound (c.in_ok-heard_text-in-Ok.ensures ∙ ap (heard_text c.args.mode) c.as_slice.ensures.value);
  err = tt;
}

pub returns-in-Err : goal.returns-in-Err
returns-in-Err g c = record {
  clean = c.execute.ensures.leaves.clean;
  answers = λ catalogue whole past clean h.
      is_turned_away catalogue whole past c.args.database.now c.execute.new.self clean h c.args.mode c.args.text.now c.in-Err.refusal c.refused.result c.in-Err.ensures.executes (not_stopped c.execute.result c.in-Err.refusal c.execute.new.self.stopped (c.execute.ensures.stops h.going).1 c.in-Err.is)
      (ap catalogue_of (ends_last c.execute.ensures.leaves.catalogs h.served.fit.single).0) (ends_last c.execute.ensures.leaves.catalogs h.served.fit.single).1 c.execute.ensures.leaves.sound c.in-Err.ensures.still c.refused.ensures.goes_on c.refused.ensures.told;
  over = λ db whole happened listed clean h.
      let old = c.args.database.now in
      let new = c.execute.new.self in
      let done = c.in-Err.ensures.lists h.going db whole happened.deeds listed (stands_in db old.machines.desk h.here h.next) clean h.sound h.told.served in
      is_turned_away_over db whole happened old new clean h c.args.mode c.args.text.now c.in-Err.refusal c.refused.result done.0 (not_stopped c.execute.result c.in-Err.refusal new.stopped (c.execute.ensures.stops h.going).1 c.in-Err.is)
      (refl, done.1.here, behind_of db new.machines.desk.volatile.version new.machines.desk.later.items done.1.next) c.execute.ensures.leaves.sound c.in-Err.ensures.still c.refused.ensures.goes_on c.refused.ensures.told;
  err = c.refused.ensures.err;
}
