-- What the refusal of a node of a catalogue's document says of it, by its rule.
use Rattle.std.specs.Prelude.{◌≡◌, ◌⊎◌, ◌<◌, ◌+◌, ℕ, zero, suc, List, [], ◌∷◌, ◌++◌, Option, Some, None, codes, flat_map, unwrap_or}
use Rattle.std.specs.List.{filter_map}
use Rattle.toml.specs.Data.{Data}
use Rattle.terms.specs.declared.cond.Cond.{Cond}
use Rattle.meaning.specs.declared.schema.Column.{Column}
use Rattle.reader.specs.Breaks.{CondsTextBreaks, SomeOf}
use Rattle.reader.specs.Names.{all_of}
use Rattle.reader.specs.declared.fault.Rule as readers
use Rattle.catalog.specs.declared.fault.Rule.{Rule}
use Rattle.catalog.specs.declared.fault.Rule.TheVariants.{Field, NoSite, ColumnTwice, ColumnLost, ColumnAbsent, Limit}
use Rattle.catalog.specs.Describes.{Frame, kinds_in, Each, IsWhere, HasFewCells, in_order, named_in, place_within, site_numbered, visible}
use Rattle.catalog.specs.Node.{Form, AtSite, SplitByRows, SplitByCols, Ill, form_of, text_at, texts_at}
use Rattle.catalog.specs.Parts.{AreApart, first_lost}
use Rattle.catalog.specs.Refuses.{rule_of}

-- a branch has no `where`, or the reader refuses it by a rule for which this one stands
abbrev pub TextBreaks : Rule → List Column → Option (List ℕ) → Type 0
TextBreaks rule columns None = rule ≡ Field
TextBreaks rule columns (Some text) = (broken : readers.Rule) × (rule ≡ rule_of broken) × CondsTextBreaks broken columns text

abbrev pub WhereBreaks : Rule → List Column → Data → Type 0
WhereBreaks rule columns node = TextBreaks rule columns (text_at (codes "where") node)

-- a row split has more than 4,096 cells
abbrev pub CellsBreak : Rule → Frame → List Cond → List ℕ → List Data → Type 0
CellsBreak rule frame way within nodes =
    (rule ≡ Limit) × (conds : List (List Cond)) × Each (IsWhere frame within) nodes conds × (HasFewCells (kinds_in frame) way conds → ⊥)

-- the names that a group lists, and the places of those before the first that is of no column around
abbrev pub names_in : Data → List (List ℕ)
names_in node = unwrap_or (texts_at (codes "of") node) []

abbrev pub place_before : Option ℕ → List ℕ → List ℕ
place_before None places = []
place_before (Some place) places = place ∷ places

abbrev pub places_before : Frame → List ℕ → List (List ℕ) → List ℕ
places_before frame within [] = []
places_before frame within (name ∷ names) = place_before (place_within frame within name) (places_before frame within names)

-- the names that groups list, and the places of those of columns around
abbrev pub names_said : List Data → List (List ℕ)
names_said nodes = flat_map names_in nodes

abbrev pub places_said : Frame → List ℕ → List Data → List ℕ
places_said frame within nodes = filter_map (place_within frame within) (names_said nodes)

-- one of these places stands twice, or the rule is another
abbrev pub IsAgain : Rule → Rule → List ℕ → Type 0
IsAgain rule other places = ((rule ≡ ColumnTwice) × (AreApart places → ⊥)) ⊎ (rule ≡ other)

-- a group behind others that named these places: it lists no names; one is of no column around; a column is named twice
abbrev pub GroupBreaks : Rule → Frame → List ℕ → List ℕ → Data → Type 0
GroupBreaks rule frame within places node =
    ((rule ≡ Field) × (texts_at (codes "of") node ≡ None))
    ⊎ (((rule ≡ ColumnAbsent) × SomeOf (λ name. place_within frame within name ≡ None) (names_in node))
    ⊎ ((rule ≡ ColumnTwice) × (AreApart (places ++ places_before frame within (names_in node)) → ⊥)))

-- groups: there is none, or one lists no names; a name is of no column around; a column is named twice; one around is in no group
abbrev pub GroupsBreak : Rule → Frame → List ℕ → List Data → Type 0
GroupsBreak rule frame within nodes =
    ((rule ≡ Field) × ((nodes ≡ []) ⊎ SomeOf (λ node. texts_at (codes "of") node ≡ None) nodes))
    ⊎ (((rule ≡ ColumnAbsent) × SomeOf (λ name. place_within frame within name ≡ None) (names_said nodes))
    ⊎ (((rule ≡ ColumnTwice) × (AreApart (places_said frame within nodes) → ⊥))
    ⊎ ((rule ≡ ColumnLost) × (groups : List (List ℕ)) × (all_of (named_in frame within) nodes ≡ Some groups) × (first_lost within groups ≡ None → ⊥))))

-- there is no such site
abbrev pub SiteBreaks : Rule → Frame → List ℕ → Type 0
SiteBreaks rule frame name = (rule ≡ NoSite) × (site_numbered frame.sites name ≡ None)

-- A node of this form breaks the rule: it is of none; its site is not there; it is one split too many on a way; its conditions,
-- its cells or its groups break the rule, or a node below it does.
abbrev pub FormBreaks : ℕ → Rule → Frame → List Cond → List ℕ → Form → Type 0
FormBreaks splits rule frame way within Ill = rule ≡ Field
FormBreaks splits rule frame way within (AtSite name) = SiteBreaks rule frame name
FormBreaks zero rule frame way within (SplitByRows nodes) = rule ≡ Limit
FormBreaks (suc splits) rule frame way within (SplitByRows nodes) =
    SomeOf (WhereBreaks rule (visible within frame.columns)) nodes
    ⊎ (CellsBreak rule frame way within nodes
    ⊎ SomeOf (λ node. (conds : List Cond) × IsWhere frame within node conds × FormBreaks splits rule frame (way ++ conds) within (form_of (codes "where") node)) nodes)
FormBreaks zero rule frame way within (SplitByCols nodes) = rule ≡ Limit
FormBreaks (suc splits) rule frame way within (SplitByCols nodes) =
    GroupsBreak rule frame within nodes
    ⊎ SomeOf (λ node. (columns : List ℕ) × (named_in frame within node ≡ Some columns) × FormBreaks splits rule frame way (in_order within columns) (form_of (codes "of") node)) nodes

-- a sum over nodes
abbrev pub sum_over : (Data → ℕ) → List Data → ℕ
sum_over count [] = 0
sum_over count (node ∷ nodes) = count node + sum_over count nodes

-- the leaves that a node of this form says, with at most so many splits on a way
abbrev pub leaves_said : ℕ → Form → ℕ
leaves_said splits Ill = 0
leaves_said splits (AtSite name) = 1
leaves_said zero (SplitByRows nodes) = 0
leaves_said (suc splits) (SplitByRows nodes) = sum_over (λ node. leaves_said splits (form_of (codes "where") node)) nodes
leaves_said zero (SplitByCols nodes) = 0
leaves_said (suc splits) (SplitByCols nodes) = sum_over (λ node. leaves_said splits (form_of (codes "of") node)) nodes

abbrev pub leaves_of_all : ℕ → List ℕ → List Data → ℕ
leaves_of_all splits beside nodes = sum_over (λ node. leaves_said splits (form_of beside node)) nodes

-- a node breaks the rule, or it has one leaf too many behind these
abbrev pub NodeBreaks : Rule → Frame → ℕ → List Cond → List ℕ → Form → ℕ → Type 0
NodeBreaks rule frame splits way within form leaves = FormBreaks splits rule frame way within form ⊎ ((rule ≡ Limit) × (32 < leaves + leaves_said splits form))

-- a branch of these conditions breaks the rule, and a group of these columns
abbrev pub BranchesBreak : ℕ → Rule → Frame → List Cond → List ℕ → List Data → List (List Cond) → Type 0
BranchesBreak splits rule frame way within [] conds = ⊥
BranchesBreak splits rule frame way within (node ∷ nodes) [] = ⊥
BranchesBreak splits rule frame way within (node ∷ nodes) (own ∷ conds) =
    FormBreaks splits rule frame (way ++ own) within (form_of (codes "where") node) ⊎ BranchesBreak splits rule frame way within nodes conds

abbrev pub BelowBreak : ℕ → Rule → Frame → List Cond → List Data → List (List ℕ) → Type 0
BelowBreak splits rule frame way [] groups = ⊥
BelowBreak splits rule frame way (node ∷ nodes) [] = ⊥
BelowBreak splits rule frame way (node ∷ nodes) (columns ∷ groups) =
    FormBreaks splits rule frame way columns (form_of (codes "of") node) ⊎ BelowBreak splits rule frame way nodes groups

-- or there is one leaf too many
abbrev pub IsLeafTooMany : Rule → ℕ → List ℕ → List Data → ℕ → Type 0
IsLeafTooMany rule splits beside nodes leaves = (rule ≡ Limit) × (32 < leaves + leaves_of_all splits beside nodes)
