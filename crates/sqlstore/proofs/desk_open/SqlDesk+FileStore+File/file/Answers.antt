use Rattle.sqlstore.proofs.desk_open.SqlDesk+FileStore+File.file.Goals as goal

pub hold-requires : goal.hold-requires
hold-requires c = c.in-Ok.ensures.fresh.autocommit

pub returns-in-Err : goal.returns-in-Err
returns-in-Err c = tt

pub returns : goal.returns
returns c = c.hold.ensures
