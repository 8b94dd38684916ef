use Rattle.std.proofs.Common.{Ok, map, rules}
use Rattle.catalog.specs.Relation.{catalogue_of}
use Rattle.databases.specs.CatalogFiles.{IsUnopened}
use Rattle.commands.specs.Play.{PlaysOver}
use Rattle.databases.specs.Schedule.{world_over}
use Rattle.databases.proofs.CatalogFilesLemmas.{did_input, told_idle, told_stopped, told_unopened}
use Rattle.commands.proofs.PlayLemmas.{played_over, told_stopped_play}
use Rattle.commands.proofs.play.play_files.Goals as goal

pub returns-in_err-chain-clause-opened : goal.returns-in_err-chain-clause-opened
returns-in_err-chain-clause-opened g c =
    let old = g.W.Write.contents c.args.output.now in
    told_stopped g.N.Read.remaining (g.C.Read.remaining c.args.catalog) c.args.input g.R.Read.remaining c.args.catalog_file c.args.next.items old (λ script. PlaysOver (world_over g.D.DeskStore.is_clean g.S.SiteStore.is_clean g.D.DeskStore.is_sound g.S.SiteStore.is_sound g.D.DeskStore.kept g.S.SiteStore.kept g.D.DeskStore.refused g.S.SiteStore.refused) g.O.OpensWorld.fails_for c.args.file script old old) c.in_err-chain.field-0.0 _ (search rules) c.in_err-chain.ensures.gives

pub returns-in_err-chain-clause-unread : goal.returns-in_err-chain-clause-unread
returns-in_err-chain-clause-unread g c =
    told_idle g.N.Read.remaining (g.C.Read.remaining c.args.catalog) c.args.input c.args.catalog_file c.args.next.items (g.W.Write.contents c.args.output.now) (λ catalogues. IsUnopened c.args.file) c.in_err-chain.field-0.0 _ (search rules) c.in_err-chain.ensures.gives

pub returns-in_err-play_opened-clause-opened : goal.returns-in_err-play_opened-clause-opened
returns-in_err-play_opened-clause-opened g c =
    let old = g.W.Write.contents c.args.output.now in
    let new = g.W.Write.contents c.play_opened.new.output in
    did_input g.N.Read.remaining (g.C.Read.remaining c.args.catalog) c.args.input g.R.Read.remaining c.args.catalog_file c.args.next.items c.in_ok-chain.chain old new (λ script. PlaysOver (world_over g.D.DeskStore.is_clean g.S.SiteStore.is_clean g.D.DeskStore.is_sound g.S.SiteStore.is_sound g.D.DeskStore.kept g.S.SiteStore.kept g.D.DeskStore.refused g.S.SiteStore.refused) g.O.OpensWorld.fails_for c.args.file script old new) c.from_residual-in_err-play_opened.result c.in_ok-chain.ensures.gives
    (told_stopped_play (world_over g.D.DeskStore.is_clean g.S.SiteStore.is_clean g.D.DeskStore.is_sound g.S.SiteStore.is_sound g.D.DeskStore.kept g.S.SiteStore.kept g.D.DeskStore.refused g.S.SiteStore.refused) g.O.OpensWorld.fails_for c.args.input g.R.Read.remaining c.args.file old new (map catalogue_of c.in_ok-chain.chain) c.in_err-play_opened.field-0.0 c.from_residual-in_err-play_opened.result (search rules) c.in_err-play_opened.ensures.opened)

pub returns-in_err-play_opened-clause-unread : goal.returns-in_err-play_opened-clause-unread
returns-in_err-play_opened-clause-unread g c =
    told_unopened g.N.Read.remaining (g.C.Read.remaining c.args.catalog) c.args.input c.args.catalog_file c.args.file c.args.next.items c.in_ok-chain.chain (g.W.Write.contents c.args.output.now) (g.W.Write.contents c.play_opened.new.output) c.in_err-play_opened.field-0.0 _ (search rules) c.in_ok-chain.ensures.gives c.in_err-play_opened.ensures.unread

pub returns-clause-opened : goal.returns-clause-opened
returns-clause-opened g c =
    let old = g.W.Write.contents c.args.output.now in
    let new = g.W.Write.contents c.play_opened.new.output in
    did_input g.N.Read.remaining (g.C.Read.remaining c.args.catalog) c.args.input g.R.Read.remaining c.args.catalog_file c.args.next.items c.in_ok-chain.chain old new (λ script. PlaysOver (world_over g.D.DeskStore.is_clean g.S.SiteStore.is_clean g.D.DeskStore.is_sound g.S.SiteStore.is_sound g.D.DeskStore.kept g.S.SiteStore.kept g.D.DeskStore.refused g.S.SiteStore.refused) g.O.OpensWorld.fails_for c.args.file script old new) (Ok c.in_ok-play_opened.field-0) c.in_ok-chain.ensures.gives
    (played_over (world_over g.D.DeskStore.is_clean g.S.SiteStore.is_clean g.D.DeskStore.is_sound g.S.SiteStore.is_sound g.D.DeskStore.kept g.S.SiteStore.kept g.D.DeskStore.refused g.S.SiteStore.refused) g.O.OpensWorld.fails_for c.args.input g.R.Read.remaining c.args.file old new (map catalogue_of c.in_ok-chain.chain) c.in_ok-play_opened.field-0 c.in_ok-play_opened.ensures.opened)
