-- Why `rows` meets its contract.
use Rattle.std.proofs.Common.{ap, sym, ◌∙◌}
use Rattle.store.specs.Content.{changed, parts}
use Rattle.store.proofs.Changing.{changed_none}
use Rattle.site.proofs.read_leaf.rows.Goals as goal

pub returns-in-None-clause-rows : goal.returns-in-None-clause-rows
returns-in-None-clause-rows g c = λ clean sound.
    let leaf = c.args.leaf.now in
    let content = (g.S.SiteStore.kept c.args.store.now).content leaf in
    c.in-Ok.ensures.parts clean sound ∙ ap (parts c.args.conds.now) (sym (ap (λ ch. changed leaf ch content) (sym c.in-None.ensures) ∙ changed_none leaf content))
