-- Why `statement_or_read` meets its contract.
use Rattle.std.proofs.Common.{Option, IfSome, subst}
use Rattle.meaning.specs.declared.statement.Statement.{Statement}
use Rattle.catalog.specs.FragmentLeaf.{schemas_of}
use Rattle.catalog.specs.Relation.{catalogue_of}
use Rattle.desk.specs.Does.{IsReadAs}
use Rattle.desk.proofs.Unread.{read_as}
use Rattle.desk.proofs.request.statement_or_read.Goals as goal

pub returns-in-Some-clause-read : goal.returns-in-Some-clause-read
returns-in-Some-clause-read c =
    let P : Option Statement → Type 0 = λ known. IfSome known (IsReadAs (schemas_of (catalogue_of c.args.catalog.now)) c.args.text.now) in
    subst P c.in-Some.is c.requires

pub returns-in-None-clause-read : goal.returns-in-None-clause-read
returns-in-None-clause-read c = read_as (schemas_of (catalogue_of c.args.catalog.now)) c.args.text.now c.statement_of.result c.statement_of.ensures.spelled c.statement_of.ensures.fits c.statement_of.ensures.ordinary
