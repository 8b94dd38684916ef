use Rattle.std.proofs.Common.{ℕ, Bor, IfOk, IfSome, List, subst, sym}
use Rattle.databases.specs.CatalogFiles.{DoesOver}
use Rattle.databases.specs.Ending.{ComesTo, outcome_of_end}
use Rattle.commands.specs.Session.{RunsSession}
use Rattle.databases.proofs.EndingLemmas.{came_to_once}
use Rattle.commands.proofs.perform.perform_session.Goals as goal

pub returns-in-Ok-clause-held : goal.returns-in-Ok-clause-held
returns-in-Ok-clause-held g c =
    let old = g.W.Write.contents c.args.output.now in
    let new = g.W.Write.contents c.session_files.new.output in
    subst (λ (named : Bor (List ℕ)). IfOk c.args.catalog (λ opened. IfSome (g.C.Read.remaining opened) (λ bytes. ComesTo outcome_of_end (DoesOver g.N.Read.remaining c.args.catalog_file bytes c.args.next.items old new (RunsSession g.B.Database.seen g.O.Opens.origin named old new)) c.of_end.result))) c.file-file.ensures
    (subst (λ file. IfOk file (λ reader. IfSome (g.C.Read.remaining reader) (λ bytes. ComesTo outcome_of_end (DoesOver g.N.Read.remaining c.args.catalog_file bytes c.args.next.items old new (RunsSession g.B.Database.seen g.O.Opens.origin c.file-file.result old new)) c.of_end.result))) (sym c.in-Ok.is)
    (came_to_once (g.C.Read.remaining c.in-Ok.catalog) outcome_of_end (λ bytes. DoesOver g.N.Read.remaining c.args.catalog_file bytes c.args.next.items old new (RunsSession g.B.Database.seen g.O.Opens.origin c.file-file.result old new)) c.session_files.result c.of_end.result c.of_end.ensures c.session_files.ensures))
