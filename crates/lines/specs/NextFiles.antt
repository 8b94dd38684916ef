-- Which catalogues come after the first, by the words of the command line.
use Rattle.std.specs.Prelude.{◌≡◌, Bool, true, false, List, [], Option, Some, None, codes, length, map, nat_le, unwrap_or}
use Rattle.clap.specs.Words.{Row, Text, all_of, subcommand_of}
use Rattle.clap.specs.declared.error.kind.ErrorKind.{ErrorKind}
use Rattle.clap.specs.declared.error.kind.ErrorKind.TheVariants.{OutOfMemory, TooManyValues}
use Rattle.lines.specs.Grammar.{usage}
use Rattle.lines.specs.Usage.{AsksFor}
use Rattle.lines.specs.declared.usage.Given.{Given}

-- all that a command was given behind the word for them, in its order; none, where it has no such word
abbrev pub files_of : Option (Text × List Row) → List Text
files_of None = []
files_of (Some entered) = unwrap_or (all_of (codes "NEXT") entered.1) []

-- the names of the files that the words give
abbrev pub next_files : List Text → List Text
next_files words = files_of (subcommand_of usage words)

-- the words ask for this, and name these catalogues after the first, 15 at most
pub record Gives (words : List Text) (at_terminal : Bool) (given : Given) : Type 0 where
  pub asked : AsksFor words at_terminal given.asked
  pub next : map (λ file. file.now) given.next.items ≡ next_files words
  pub few : nat_le (length given.next.items) 15 ≡ true

-- what is wrong with so many files: there are more than 15; or memory ran out
pub data IsTooMany (files : List Text) : ErrorKind → Type 0 where
  too_many : nat_le (length files) 15 ≡ false → IsTooMany files TooManyValues
  no_memory_for_files : IsTooMany files OutOfMemory
