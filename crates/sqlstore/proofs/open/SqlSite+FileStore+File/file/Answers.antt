use Rattle.sqlstore.proofs.open.SqlSite+FileStore+File.file.Goals as goal

pub hold-requires : goal.hold-requires
hold-requires c = c.in-Ok.ensures.fresh.autocommit

pub returns-in-Err : goal.returns-in-Err
returns-in-Err c = record { leaves = tt }

pub returns : goal.returns
returns c = record { leaves = c.hold.ensures }
