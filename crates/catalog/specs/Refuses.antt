-- What the refusal of a node of a catalogue's document says.
use Rattle.std.specs.Prelude.{◌≡◌, ◌≤◌, ◌+◌, ℕ, Bool, true, false, List, [], None, length}
use Rattle.reader.specs.Names.{all_of}
use Rattle.toml.specs.Data.{Data}
use Rattle.terms.specs.declared.cond.Cond.{Cond}
use Rattle.meaning.specs.declared.schema.Column.{Column}
use Rattle.reader.specs.declared.fault.Rule as readers
use Rattle.reader.specs.declared.fault.Rule.TheVariants as reading
use Rattle.catalog.specs.declared.fault.Rule.{Rule}
use Rattle.catalog.specs.declared.fault.Rule.TheVariants.{Field, ColumnTwice, ColumnLost, ColumnAbsent, WrongType, Gap, Overlap, Limit, Memory}
use Rattle.catalog.specs.Describes.{Frame, kinds_in, Each, IsWhereOn, named_in, AreNamedIn, HasFewCells, Describes}
use Rattle.catalog.specs.Inexact.{IsFirstInexact, IsGapOf, IsOverlapOf, row_splits}
use Rattle.catalog.specs.Path.{paths}
use Rattle.catalog.specs.Parts.{named, AreApart, first_lost}
use Rattle.catalog.specs.Refusal.{RefusesBy}
use Rattle.catalog.specs.Split.{Tree}
use Rattle.catalog.specs.Valid.{AreParts}

-- a node describes no tree that has at most 32 leaves together with these
abbrev pub NoneIsDescribed : Frame → ℕ → List Cond → List ℕ → List ℕ → Data → ℕ → Type 0
NoneIsDescribed frame splits way within beside node leaves =
    (tree : Tree) → Describes frame splits way within beside node tree → leaves + length (paths tree) ≤ 32 → ⊥

-- A refusal of a node, where these leaves are there before: in each tree that it describes the rule names the first faulty cell
-- of the first row split that is not exact; by any other rule but for want of memory, no tree is described.
abbrev pub Refuses : Frame → ℕ → List Cond → List ℕ → List ℕ → Data → ℕ → Rule → Type 0
Refuses frame splits way within beside node leaves rule =
    RefusesBy ((tree : Tree) → Describes frame splits way within beside node tree → IsFirstInexact frame rule (row_splits way tree)) (NoneIsDescribed frame splits way within beside node leaves) rule

-- the catalogue's rule that stands for one of the reader
abbrev pub rule_of : readers.Rule → Rule
rule_of reading.NoColumn = ColumnAbsent
rule_of reading.WrongType = WrongType
rule_of reading.Limit = Limit
rule_of reading.Memory = Memory
rule_of _ = Field

-- a refusal of one branch's conditions by the rule
abbrev pub RefusesWhere : List Column → Data → Rule → Type 0
RefusesWhere columns node rule = RefusesBy ⊥ ((conds : List Cond) → IsWhereOn columns node conds → ⊥) rule

-- a refusal of the branches' conditions by the rule: but for want of memory, there are no such conditions
abbrev pub RefusesConds : List Column → List Data → Rule → Type 0
RefusesConds columns nodes rule = RefusesBy ⊥ ((branches : List (List Cond)) → Each (IsWhereOn columns) nodes branches → ⊥) rule

-- a refusal of a row split: a gap or an overlap at its first faulty cell, or too many cells
abbrev pub RefusesSplit : Frame → List Cond → List (List Cond) → Rule → Type 0
RefusesSplit frame way branches Memory = Unit {0}
RefusesSplit frame way branches (Gap cell) = IsGapOf frame way branches cell
RefusesSplit frame way branches (Overlap cell) = IsOverlapOf frame way branches cell
RefusesSplit frame way branches Limit = HasFewCells (kinds_in frame) way branches → ⊥
RefusesSplit frame way branches _ = ⊥

-- a refusal of the groups' columns: but for want of memory, the groups name no such columns
abbrev pub RefusesNamed : Frame → List ℕ → List Data → Rule → Type 0
RefusesNamed frame within nodes rule = RefusesBy ⊥ ((groups : List (List ℕ)) → AreNamedIn frame within nodes groups → ⊥) rule

-- whether a rule is shown by a cell
abbrev pub is_shown : Rule → Bool
is_shown (Gap cell) = true
is_shown (Overlap cell) = true
is_shown _ = false

-- whether a rule is broken by a text, and not shown by a cell nor a want of memory
abbrev pub is_of_text : Rule → Bool
is_of_text Memory = false
is_of_text (Gap cell) = false
is_of_text (Overlap cell) = false
is_of_text _ = true

-- a refusal of groups of these columns by the rule: but for want of memory, they don't share out the columns around them
abbrev pub RefusesParts : List ℕ → List (List ℕ) → Rule → Type 0
RefusesParts within groups rule = RefusesBy ⊥ (AreParts within groups → AreApart (named groups) → ⊥) rule

-- what is wrong with such groups, by the rule: a column is named twice; else one is left out
abbrev pub IsPartsFault : List ℕ → List (List ℕ) → Rule → Type 0
IsPartsFault within groups Field = groups ≡ []
IsPartsFault within groups ColumnTwice = AreApart (named groups) → ⊥
IsPartsFault within groups ColumnLost = AreApart (named groups) × ((first_lost within groups ≡ None) → ⊥)
IsPartsFault within groups Memory = Unit {0}
IsPartsFault within groups _ = ⊥

-- a refusal of one group by the rule: but for want of memory, it names no columns among these
abbrev pub RefusesGroup : Frame → List ℕ → Data → Rule → Type 0
RefusesGroup frame within node rule = RefusesBy ⊥ (named_in frame within node ≡ None) rule

-- a refusal of all groups by the rule: but for want of memory, some group names no columns among these
abbrev pub RefusesNames : Frame → List ℕ → List Data → Rule → Type 0
RefusesNames frame within nodes rule = RefusesBy ⊥ (all_of (named_in frame within) nodes ≡ None) rule
