-- What is read, and what is known of it.
use Rattle.std.specs.Prelude.{ℕ, List, Option, None, Some}
use Rattle.databases.specs.declared.opened.Opened.{Opened}
use Rattle.databases.specs.declared.opened.Opened.TheVariants.{File, Input, Text}

-- the bytes that are left: those of a text, and of nothing else, since no contract knows what a file holds
abbrev pub remaining_of : Opened → Option (List ℕ)
remaining_of (File file) = None
remaining_of (Input input) = None
remaining_of (Text text) = Some text.now
