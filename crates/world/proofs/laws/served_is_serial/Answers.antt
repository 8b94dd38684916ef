-- Why `laws::served_is_serial` meets its contract.
use Rattle.std.proofs.Common.{[]}
use Rattle.catalog.specs.Relation.{catalogue_of}
use Rattle.protocol.specs.Local.{local}
use Rattle.protocol.proofs.ListLaw.{serial_list}
use Rattle.desk.specs.CatalogueDatabase.{database}
use Rattle.desk.specs.Database.{language, statements}
use Rattle.world.specs.Machines.{world_of}
use Rattle.world.proofs.laws.served_is_serial.Goals as goal

pub returns : goal.returns
returns c = λ whole machines past served.
    let db = database (catalogue_of c.args.catalog.now) in
    let opened : (language db).Whole = (served.version, whole) in
    let w = world_of db machines [] past in
    serial_list local (statements db) opened w (c.one_client_is_a_run.ensures.serial opened w served.reached)
