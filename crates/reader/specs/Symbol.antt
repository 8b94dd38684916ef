-- Tokens without the way they are written.
use Rattle.std.specs.Prelude.{ℕ, List, map, string_bytes}
use Rattle.reader.specs.declared.keyword.Keyword.{Keyword}
use Rattle.reader.specs.declared.sign.Sign.{Sign}
use Rattle.reader.specs.declared.token.Token.{Token}
use Rattle.reader.specs.declared.token.Token.TheVariants as tokens
use Rattle.reader.specs.declared.token.Placed.{Placed}

-- A token without the way it is written: where it stands, the case of its letters, leading zeros and
-- doubled quotes are forgotten.
pub data Symbol : Type 0 where
  key : (word : Keyword) → Symbol
  sign : (mark : Sign) → Symbol
  name : (bytes : List ℕ) → Symbol
  number : (magnitude : ℕ) → Symbol
  text : (bytes : List ℕ) → Symbol

abbrev pub symbol_of : Token → Symbol
symbol_of (tokens.Keyword word) = key word
symbol_of (tokens.Sign mark) = sign mark
symbol_of (tokens.Name bytes) = name bytes.now
symbol_of (tokens.Integer magnitude) = number magnitude
symbol_of (tokens.Text string) = text (string_bytes string)

abbrev pub symbols_of : List Placed → List Symbol
symbols_of placed = map (λ p. symbol_of p.token) placed
