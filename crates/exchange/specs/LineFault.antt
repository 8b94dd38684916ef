-- What is wrong with a line, by what was found wrong with its record.
use Rattle.csv.specs.declared.error.ErrorKind.{ErrorKind}
use Rattle.csv.specs.declared.error.ErrorKind.TheVariants as kinds
use Rattle.exchange.specs.declared.line_fault.LineWhat.{LineWhat}
use Rattle.exchange.specs.declared.line_fault.LineWhat.TheVariants as whats
use Rattle.exchange.specs.declared.order.HeaderFault.{HeaderFault}
use Rattle.exchange.specs.declared.order.HeaderFault.TheVariants as headers
use Rattle.exchange.specs.declared.row.RowFault.{RowFault}
use Rattle.exchange.specs.declared.row.RowFault.TheVariants as rows

-- a read of bytes fails for the file, for a record's length, or for memory
abbrev pub read_what : ErrorKind → LineWhat
read_what (kinds.Io error) = whats.Io error
read_what (kinds.UnequalLengths pos first found) = whats.Length found first
read_what (kinds.Utf8 pos error) = whats.Memory
read_what kinds.OutOfMemory = whats.Memory
read_what (kinds.Serialize text) = whats.Memory
read_what (kinds.Deserialize pos error) = whats.Memory

abbrev pub header_what : HeaderFault → LineWhat
header_what headers.Memory = whats.Memory
header_what (headers.Unknown place) = whats.Header (headers.Unknown place)
header_what (headers.Twice place) = whats.Header (headers.Twice place)
header_what (headers.Lacking number) = whats.Header (headers.Lacking number)

abbrev pub row_what : RowFault → LineWhat
row_what rows.Memory = whats.Memory
row_what (rows.Count found) = whats.Row (rows.Count found)
row_what (rows.Field number fault) = whats.Row (rows.Field number fault)
