use Rattle.sqlstore.proofs.open.SqlSite+FileStore+File.kept_file.Goals as goal

pub hold_sound-requires : goal.hold_sound-requires
hold_sound-requires c = c.in-Ok.ensures.fresh.autocommit

pub returns-in-Err : goal.returns-in-Err
returns-in-Err c = record { leaves = tt; sound = tt }

pub returns-then-is_empty : goal.returns-then-is_empty
returns-then-is_empty c = record { leaves = tt; sound = tt }

pub returns : goal.returns
returns c = record { leaves = c.hold_sound.ensures.leaves; sound = c.hold_sound.ensures.sound }
