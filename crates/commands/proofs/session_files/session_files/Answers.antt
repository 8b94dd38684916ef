use Rattle.std.proofs.Common.{rules}
use Rattle.lines.specs.declared.fault.ProgramFault.TheVariants.{Memory}
use Rattle.databases.specs.declared.catalog_files.ChainFault.TheVariants.{Program}
use Rattle.commands.specs.Session.{RunsSession}
use Rattle.databases.proofs.CatalogFilesLemmas.{did_known, first_memory, told_known}
use Rattle.commands.proofs.session_files.session_files.Goals as goal

pub returns-in_err-names : goal.returns-in_err-names
returns-in_err-names g c =
    let old = g.W.Write.contents c.args.output.now in
    told_known g.N.Read.remaining (g.C.Read.remaining c.args.catalog) c.args.catalog_file c.args.next.items old (RunsSession g.B.Database.seen g.O.Opens.origin c.args.file old old) (Program Memory) _ (search rules) (first_memory g.N.Read.remaining (g.C.Read.remaining c.args.catalog) c.args.catalog_file c.args.next.items)

pub returns-in_err-chain : goal.returns-in_err-chain
returns-in_err-chain g c =
    let old = g.W.Write.contents c.args.output.now in
    told_known g.N.Read.remaining (g.C.Read.remaining c.args.catalog) c.args.catalog_file c.args.next.items old (RunsSession g.B.Database.seen g.O.Opens.origin c.args.file old old) c.in_err-chain.field-0.0 _ (search rules) c.in_err-chain.ensures.gives

pub returns : goal.returns
returns g c =
    let old = g.W.Write.contents c.args.output.now in
    let new = g.W.Write.contents c.open_session.new.output in
    did_known g.N.Read.remaining (g.C.Read.remaining c.args.catalog) c.args.catalog_file c.args.next.items c.in_ok-chain.chain old new (RunsSession g.B.Database.seen g.O.Opens.origin c.args.file old new) c.open_session.result c.in_ok-chain.ensures.gives c.open_session.ensures
