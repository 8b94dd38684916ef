-- Why `PlainSite::find` meets its contract.
use Rattle.std.proofs.Common.{Some, ap, sym, ◌∙◌}
use Rattle.std.proofs.lemmas.Int.{to_z-of_z}
use Rattle.std.specs.Int.{w64}
use Rattle.store.specs.Content.{put_at}
use Rattle.store.specs.ContentLaws.{get-made_by}
use Rattle.store.specs.Slot.{slot_of}
use Rattle.store.proofs.plain_site.PlainSiteSiteStore.find.Goals as goal

pub returns-in_ok-copy-in-Some-clause-part : goal.returns-in_ok-copy-in-Some-clause-part
returns-in_ok-copy-in-Some-clause-part c = λ clean sound.
    let parts = c.args.self.now.parts in
    let leaf = c.args.leaf.now in
    ap Some c.in_ok-copy-in-Some.ensures ∙ c.in-Some.ensures.part ∙ ap (λ key. put_at parts (slot_of leaf key)) (to_z-of_z w64 c.args.key c.ranges.key) ∙ sym (get-made_by parts leaf c.args.key)

pub returns-in-None-clause-part : goal.returns-in-None-clause-part
returns-in-None-clause-part c = λ clean sound.
    let parts = c.args.self.now.parts in
    let leaf = c.args.leaf.now in
    c.in-None.ensures.part ∙ ap (λ key. put_at parts (slot_of leaf key)) (to_z-of_z w64 c.args.key c.ranges.key) ∙ sym (get-made_by parts leaf c.args.key)
