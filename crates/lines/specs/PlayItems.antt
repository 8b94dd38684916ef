-- A script of schedules, line after line: which items may stand where they do.
use Rattle.std.specs.Prelude.{◌≡◌, ℕ, ◌+◌, Bool, true, false, not, is_some, if◌then◌else◌, List, [], ◌∷◌, ◌++◌, bytes_eq, Option, Some, None}
use Rattle.std.specs.BTreeMap.{is_at}
use Rattle.std.specs.Cmp.Lexicographic.{slice_cmp}
use Rattle.std.specs.List.{list_all, list_any}
use Rattle.std.specs.Map.{lookup}
use Rattle.std.specs.Ordering.{nat_cmp}
use Rattle.lines.specs.declared.play_items.Names.{Names}
use Rattle.lines.specs.declared.play_items.Placed.{Placed}
use Rattle.lines.specs.declared.play_items.Reading.{Reading}
use Rattle.lines.specs.declared.play_script.Ask.{Ask}
use Rattle.lines.specs.declared.play_script.Ask.TheVariants as ask
use Rattle.lines.specs.declared.play_script.Item.{Item}
use Rattle.lines.specs.declared.play_script.Item.TheVariants as item
use Rattle.lines.specs.declared.play_script.Line.{Line}
use Rattle.lines.specs.declared.play_script.Line.TheVariants as line
use Rattle.lines.specs.PlayScript.{reading_of}

-- whether a client's line begins its transaction
abbrev pub is_begin : Ask → Bool
is_begin ask.Begin = true
is_begin (ask.Refragment text) = true
is_begin _ = false

abbrev pub is_load : Item → Bool
is_load (item.Load text) = true
is_load _ = false

-- whether the item begins the transaction of this name
abbrev pub begins : List ℕ → Item → Bool
begins name (item.Client other asked) = if is_begin asked then bytes_eq other name else false
begins name _ = false

-- whether one of these items does
abbrev pub is_begun : List ℕ → List Placed → Bool
is_begun name past = list_any (λ placed. begins name placed.item) past

-- Whether an item may stand behind these. What is loaded stands above all else; each transaction is begun once, above all
-- other lines that name it.
abbrev pub may_follow : List Placed → Item → Bool
may_follow past (item.Load text) = list_all (λ placed. is_load placed.item) past
may_follow past (item.Client name asked) = if is_begin asked then not (is_begun name past) else is_begun name past
may_follow past _ = true

-- the items after one more line, of this number; none where the line is malformed
abbrev pub taken : ℕ → List Placed → Line → Option (List Placed)
taken number past line.PassedOver = Some past
taken number past (line.Asks asked) = if may_follow past asked then Some (past ++ (record { line = number; item = asked }) ∷ []) else None
taken number past line.Malformed = None

-- goes on behind a line that is not malformed
abbrev pub goes_on : Option (List Placed) → ℕ → List Placed → (List Placed → List Placed × Option ℕ) → List Placed × Option ℕ
goes_on None number past rest = (past, Some number)
goes_on (Some more) number past rest = rest more

-- The items of lines, the first of which has this number, behind these; they end at the first malformed line, if there is one,
-- whose number stands beside.
abbrev pub read_from : ℕ → List Placed → List (List ℕ) → List Placed × Option ℕ
read_from number past [] = (past, None)
read_from number past (text ∷ texts) = goes_on (taken number past (reading_of text)) number past (λ more. read_from (number + 1) more texts)

-- the items of a script's lines, which are counted from 1
abbrev pub items_of : List (List ℕ) → List Placed × Option ℕ
items_of lines = read_from 1 [] lines

-- whether a name is among these
abbrev pub has_name : Names → List ℕ → Bool
has_name names name = is_some (lookup (is_at (slice_cmp nat_cmp name)) names.lines.entries)

-- what is kept of the items so far: which names were begun, and whether all that was read is to be loaded
pub record IsKept (reading : Reading) : Type 0 where
  pub begun : (name : List ℕ) → has_name reading.begun name ≡ is_begun name reading.items.items
  pub loading : reading.loading ≡ list_all (λ placed. is_load placed.item) reading.items.items
