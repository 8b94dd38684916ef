-- Why `PlainSite::apply` meets its contract.
use Rattle.std.proofs.Common.{Result, Ok, Err, OnErr, unwrap_or, refl, ap, ◌∙◌, rules}
use Rattle.std.specs.FinMap as fin
use Rattle.store.specs.Content.{put_at}
use Rattle.store.specs.ContentLaws.{same_made, made_over}
use Rattle.store.proofs.plain_site.PlainSiteSiteStore.apply.Goals as goal

on_err : {T E P : Type 0} (result : Result T E) → P → OnErr result P
on_err (Ok x) holds = tt
on_err (Err e) holds = holds

pub returns-in_err-make_rooms-clause-fails : goal.returns-in_err-make_rooms-clause-fails
returns-in_err-make_rooms-clause-fails c = record {
  err = λ clean sound. on_err c.from_residual.result (record { has = λ leaf. refl; content = same_made c.make_rooms.new.self c.args.self.now.parts c.make_rooms.ensures.same; prepared = λ ticket. refl; life = refl });
  refusal = search rules;
  intact = search rules;
}

pub returns-clause-ok : goal.returns-clause-ok
returns-clause-ok c = λ clean sound row is.
    record {
      has = λ leaf. refl;
      content = made_over c.args.self.now.parts c.make.new.self row.changes (λ slot.
          c.make.ensures.over slot
          ∙ ap (unwrap_or (fin.get c.in-Some-remove.prepared.changes slot)) (c.make_rooms.ensures.same slot)
          ∙ ap (λ o. unwrap_or (fin.get (unwrap_or o row).changes slot) (put_at c.args.self.now.parts slot)) (c.in-Some-remove.ensures.value ∙ is));
      prepared = c.remove.ensures.updates.0;
      life = refl;
    }
