-- A catalogue that is suggested for a file.
use Rattle.std.specs.Prelude.{ℕ, List, Option}
use Rattle.std.specs.Io.KnownBytes.{Appends}
use Rattle.exchange.specs.Suggestion.{IsSuggestion}

-- the text of a catalogue for a file of these bytes was written, and nothing else
pub record HasSuggested (file : Option (List ℕ)) (relation key : List ℕ) (sites : ℕ) (old new : Option (List ℕ)) : Type 0 where
  pub text : List ℕ
  pub suggests : IsSuggestion file relation key sites text
  pub told : Appends old new text
