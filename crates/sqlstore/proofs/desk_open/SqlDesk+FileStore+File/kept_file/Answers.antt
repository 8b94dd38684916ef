use Rattle.sqlstore.proofs.desk_open.SqlDesk+FileStore+File.kept_file.Goals as goal

pub hold_sound-requires : goal.hold_sound-requires
hold_sound-requires c = c.in-Ok.ensures.fresh.autocommit

pub returns-in-Err : goal.returns-in-Err
returns-in-Err c = record { tables = tt; sound = tt }

pub returns-then-is_empty : goal.returns-then-is_empty
returns-then-is_empty c = record { tables = tt; sound = tt }

pub returns : goal.returns
returns c = record { tables = c.hold_sound.ensures.tables; sound = c.hold_sound.ensures.sound }
