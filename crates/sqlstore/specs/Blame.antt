-- The faults that errors of SQLite are.
use Rattle.sqlite.specs.declared.error.Error.{Error}
use Rattle.sqlite.specs.declared.error.Error.TheVariants.{SqliteFailure}
use Rattle.sqlite.specs.declared.error.ErrorCode.TheVariants.{OutOfMemory, NotADatabase, DatabaseCorrupt}
use Rattle.store.specs.declared.fault.StoreFault.{StoreFault}
use Rattle.store.specs.declared.fault.StoreFault.TheVariants.{Memory, Refused, Damaged}

-- where a file is opened, one that holds no sound database is damaged
abbrev pub opening_fault : Error → StoreFault
opening_fault (SqliteFailure OutOfMemory) = Memory
opening_fault (SqliteFailure NotADatabase) = Damaged
opening_fault (SqliteFailure DatabaseCorrupt) = Damaged
opening_fault _ = Refused
