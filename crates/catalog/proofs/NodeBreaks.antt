-- What the refusal of a node says of it, by its rule.
use Rattle.std.proofs.Common.{◌≡◌, ◌≢◌, ◌⊎◌, ◌<◌, ◌≤◌, ◌+◌, ℕ, zero, suc, true, false, List, [], ◌∷◌, ◌++◌, Option, Some, length, map, take, get_or, inl, inr, refl, sym, ap, ◌∙◌, subst, arith}
use Rattle.std.specs.Prelude.{codes}
use Rattle.reader.specs.Breaks.{CondsTextBreaks, SomeOf}
use Rattle.reader.specs.declared.fault.Rule as readers
use Rattle.reader.specs.declared.fault.Rule.TheVariants as reading
use Rattle.toml.specs.Data.{Data}
use Rattle.terms.specs.declared.cond.Cond.{Cond}
use Rattle.meaning.specs.declared.schema.Column.{Column}
use Rattle.catalog.specs.declared.fault.Rule.{Rule}
use Rattle.catalog.specs.declared.fault.Rule.TheVariants.{Limit, Toml, Field, Name, Twice, NoSite, KeyType, ColumnTwice, ColumnLost, ColumnAbsent, WrongType, Gap, Overlap, Memory}
use Rattle.reader.specs.Names.{all_of}
use Rattle.catalog.specs.Below.{IsLeafFault}
use Rattle.catalog.specs.Describes.{Frame, Each, IsWhere, in_order, named_in}
use Rattle.catalog.specs.Node.{Form, AtSite, SplitByRows, SplitByCols, form_of, text_at}
use Rattle.catalog.specs.NodeBreaks.{TextBreaks, WhereBreaks, CellsBreak, GroupsBreak, FormBreaks, NodeBreaks, BranchesBreak, BelowBreak, IsLeafTooMany, leaves_said, leaves_of_all}
use Rattle.catalog.specs.Path.{paths_by_rows, paths_by_cols}
use Rattle.catalog.specs.Refuses.{RefusesSplit, is_of_text, rule_of}
use Rattle.catalog.specs.Split.{TreeBranch, TreeGroup, branches_of, groups_of}
use Rattle.catalog.proofs.Below.{IsBranch, IsGroup, are_branches, are_groups}
use Rattle.catalog.proofs.GroupNames.{both_answers}
use Rattle.catalog.proofs.LeavesSaid.{branch_leaves, group_leaves}

-- what holds of an item that a loop has taken holds of some item
some_at : {A B : Type 0} (P : B → Type 0) (view : A → B) (items : List A) (i : ℕ) (d : A) → i < length items → P (view (get_or items i d)) → SomeOf P (map view items)
some_at P view [] i d within here = absurd (omega arith)
some_at P view (item ∷ items) zero d within here = inl here
some_at P view (item ∷ items) (suc i) d within here = inr (some_at P view items i d (omega arith) here)

pub some_taken : {A B : Type 0} (P : B → Type 0) (view : A → B) (items : List A) (i : ℕ) (d x : A) → x ≡ get_or items i d → i < length items → P (view x) → SomeOf P (map view items)
some_taken {A} P view items i d x is within here =
    let Q : A → Type 0 = λ y. P (view y) in some_at P view items i d within (subst Q is here)

-- what the reader says of a text
pub where_breaks : (columns : List Column) (node : Data) (text : List ℕ) (rule : readers.Rule) → text_at (codes "where") node ≡ Some text →
    (rule ≢ reading.Memory → CondsTextBreaks rule columns text) → is_of_text (rule_of rule) ≡ true → WhereBreaks (rule_of rule) columns node
where_breaks columns node text rule there says of_text =
    let P : Option (List ℕ) → Type 0 = TextBreaks (rule_of rule) columns in
    let Q : readers.Rule → Type 0 = λ r. is_of_text (rule_of r) ≡ true in
    subst P (sym there) (rule, refl, says (λ e. let none : false ≡ true = subst Q e of_text in cc))

-- a row split that the cells don't allow
pub cells_break : (frame : Frame) (way : List Cond) (within : List ℕ) (nodes : List Data) (conds : List (List Cond)) (rule : Rule) → Each (IsWhere frame within) nodes conds →
    RefusesSplit frame way conds rule → is_of_text rule ≡ true → CellsBreak rule frame way within nodes
cells_break frame way within nodes conds Memory each refused of_text = absurd cc
cells_break frame way within nodes conds (Gap cell) each refused of_text = absurd cc
cells_break frame way within nodes conds (Overlap cell) each refused of_text = absurd cc
cells_break frame way within nodes conds Limit each refused of_text = (refl, conds, each, refused)
cells_break frame way within nodes conds Toml each refused of_text = absurd refused
cells_break frame way within nodes conds Field each refused of_text = absurd refused
cells_break frame way within nodes conds Name each refused of_text = absurd refused
cells_break frame way within nodes conds Twice each refused of_text = absurd refused
cells_break frame way within nodes conds NoSite each refused of_text = absurd refused
cells_break frame way within nodes conds KeyType each refused of_text = absurd refused
cells_break frame way within nodes conds ColumnTwice each refused of_text = absurd refused
cells_break frame way within nodes conds ColumnLost each refused of_text = absurd refused
cells_break frame way within nodes conds ColumnAbsent each refused of_text = absurd refused
cells_break frame way within nodes conds WrongType each refused of_text = absurd refused

-- ---- what a child breaks, its split breaks

-- the leaves of some nodes are no more than those of all
leaves_up_to : {A : Type 0} (splits : ℕ) (beside : List ℕ) (view : A → Data) (nodes : List A) (i : ℕ) (d : A) → i < length nodes →
    leaves_of_all splits beside (map view (take i nodes)) + leaves_said splits (form_of beside (view (get_or nodes i d))) ≤ leaves_of_all splits beside (map view nodes)
leaves_up_to splits beside view [] i d within = absurd (omega arith)
leaves_up_to splits beside view (node ∷ nodes) zero d within = omega arith
leaves_up_to splits beside view (node ∷ nodes) (suc i) d within = let rest = leaves_up_to splits beside view nodes i d (omega arith) in omega (arith, rest)

branch_at : {A : Type 0} (splits : ℕ) (rule : Rule) (frame : Frame) (way : List Cond) (within : List ℕ) (view : A → Data) (nodes : List A) (i : ℕ) (d : A) (conds : List (List Cond)) (e : List Cond) → i < length nodes → i < length conds →
    FormBreaks splits rule frame (way ++ get_or conds i e) within (form_of (codes "where") (view (get_or nodes i d))) → BranchesBreak splits rule frame way within (map view nodes) conds
branch_at splits rule frame way within view [] i d conds e inside few broken = absurd (omega arith)
branch_at splits rule frame way within view (node ∷ nodes) i d [] e inside few broken = absurd (omega arith)
branch_at splits rule frame way within view (node ∷ nodes) zero d (own ∷ conds) e inside few broken = inl broken
branch_at splits rule frame way within view (node ∷ nodes) (suc i) d (own ∷ conds) e inside few broken = inr (branch_at splits rule frame way within view nodes i d conds e (omega arith) (omega arith) broken)

group_at : {A : Type 0} (splits : ℕ) (rule : Rule) (frame : Frame) (way : List Cond) (view : A → Data) (nodes : List A) (i : ℕ) (d : A) (groups : List (List ℕ)) (e : List ℕ) → i < length nodes → i < length groups →
    FormBreaks splits rule frame way (get_or groups i e) (form_of (codes "of") (view (get_or nodes i d))) → BelowBreak splits rule frame way (map view nodes) groups
group_at splits rule frame way view [] i d groups e inside few broken = absurd (omega arith)
group_at splits rule frame way view (node ∷ nodes) i d [] e inside few broken = absurd (omega arith)
group_at splits rule frame way view (node ∷ nodes) zero d (columns ∷ groups) e inside few broken = inl broken
group_at splits rule frame way view (node ∷ nodes) (suc i) d (columns ∷ groups) e inside few broken = inr (group_at splits rule frame way view nodes i d groups e (omega arith) (omega arith) broken)

-- a leaf too many in a child is one too many in all
one_too_many : {A : Type 0} (rule : Rule) (splits : ℕ) (beside : List ℕ) (view : A → Data) (nodes : List A) (i : ℕ) (d : A) (before now : ℕ) → i < length nodes →
    now ≡ before + leaves_of_all splits beside (map view (take i nodes)) → (rule ≡ Limit) × (32 < now + leaves_said splits (form_of beside (view (get_or nodes i d)))) → IsLeafTooMany rule splits beside (map view nodes) before
one_too_many rule splits beside view nodes i d before now inside count many =
    let most = leaves_up_to splits beside view nodes i d inside in
    let past = many.1 in
    (many.0, omega (arith, most, past, count))

pub branches_break : {A : Type 0} (frame : Frame) (splits : ℕ) (way : List Cond) (within : List ℕ) (view : A → Data) (nodes : List A) (i : ℕ) (d x : A) (conds : List (List Cond)) (e c : List Cond) (so_far : List TreeBranch) (before now : ℕ) (rule : Rule) →
    x ≡ get_or nodes i d → c ≡ get_or conds i e → i < length nodes → i < length conds → Each (IsBranch frame splits way within) (map view (take i nodes)) so_far →
    now ≡ before + length (paths_by_rows (branches_of so_far)) → NodeBreaks rule frame splits (way ++ c) within (form_of (codes "where") (view x)) now →
    BranchesBreak splits rule frame way within (map view nodes) conds ⊎ IsLeafTooMany rule splits (codes "where") (map view nodes) before
branches_break {A} frame splits way within view nodes i d x conds e c so_far before now rule is here inside few each count broken =
    let P : A → Type 0 = λ y. NodeBreaks rule frame splits (way ++ c) within (form_of (codes "where") (view y)) now in
    let Q : List Cond → Type 0 = λ own. NodeBreaks rule frame splits (way ++ own) within (form_of (codes "where") (view (get_or nodes i d))) now in
    go (subst Q here (subst P is broken))
  where
    counted : now ≡ before + leaves_of_all splits (codes "where") (map view (take i nodes))
    counted = count ∙ ap (λ (n : ℕ). before + n) (branch_leaves frame splits way within (map view (take i nodes)) (branches_of so_far) (are_branches frame splits way within (map view (take i nodes)) so_far each))

    go : NodeBreaks rule frame splits (way ++ get_or conds i e) within (form_of (codes "where") (view (get_or nodes i d))) now →
        BranchesBreak splits rule frame way within (map view nodes) conds ⊎ IsLeafTooMany rule splits (codes "where") (map view nodes) before
    go (inl one) = inl (branch_at splits rule frame way within view nodes i d conds e inside few one)
    go (inr many) = inr (one_too_many rule splits (codes "where") view nodes i d before now inside counted many)

pub groups_break : {A : Type 0} (frame : Frame) (splits : ℕ) (way : List Cond) (view : A → Data) (nodes : List A) (i : ℕ) (d x : A) (groups : List (List ℕ)) (e c : List ℕ) (so_far : List TreeGroup) (before now : ℕ) (rule : Rule) →
    x ≡ get_or nodes i d → c ≡ get_or groups i e → i < length nodes → i < length groups → Each (IsGroup frame splits way) (map view (take i nodes)) so_far →
    now ≡ before + length (paths_by_cols [] (groups_of so_far)) → NodeBreaks rule frame splits way c (form_of (codes "of") (view x)) now →
    BelowBreak splits rule frame way (map view nodes) groups ⊎ IsLeafTooMany rule splits (codes "of") (map view nodes) before
groups_break {A} frame splits way view nodes i d x groups e c so_far before now rule is here inside few each count broken =
    let P : A → Type 0 = λ y. NodeBreaks rule frame splits way c (form_of (codes "of") (view y)) now in
    let Q : List ℕ → Type 0 = λ own. NodeBreaks rule frame splits way own (form_of (codes "of") (view (get_or nodes i d))) now in
    go (subst Q here (subst P is broken))
  where
    counted : now ≡ before + leaves_of_all splits (codes "of") (map view (take i nodes))
    counted = count ∙ ap (λ (n : ℕ). before + n) (group_leaves frame splits way [] (map view (take i nodes)) (groups_of so_far) (are_groups frame splits way (map view (take i nodes)) so_far each))

    go : NodeBreaks rule frame splits way (get_or groups i e) (form_of (codes "of") (view (get_or nodes i d))) now →
        BelowBreak splits rule frame way (map view nodes) groups ⊎ IsLeafTooMany rule splits (codes "of") (map view nodes) before
    go (inl one) = inl (group_at splits rule frame way view nodes i d groups e inside few one)
    go (inr many) = inr (one_too_many rule splits (codes "of") view nodes i d before now inside counted many)

-- ---- what its branches or groups break, a node breaks

some_branch : (splits : ℕ) (rule : Rule) (frame : Frame) (way : List Cond) (within : List ℕ) (nodes : List Data) (conds : List (List Cond)) → Each (IsWhere frame within) nodes conds → BranchesBreak splits rule frame way within nodes conds →
    SomeOf (λ node. (own : List Cond) × IsWhere frame within node own × FormBreaks splits rule frame (way ++ own) within (form_of (codes "where") node)) nodes
some_branch splits rule frame way within [] conds each broken = absurd broken
some_branch splits rule frame way within (node ∷ nodes) [] each broken = absurd broken
some_branch splits rule frame way within (node ∷ nodes) (own ∷ conds) each (inl here) = inl (own, each.0, here)
some_branch splits rule frame way within (node ∷ nodes) (own ∷ conds) each (inr there) = inr (some_branch splits rule frame way within nodes conds each.1 there)

some_group : (splits : ℕ) (rule : Rule) (frame : Frame) (way : List Cond) (within : List ℕ) (nodes : List Data) (groups : List (List ℕ)) → all_of (named_in frame within) nodes ≡ Some groups → BelowBreak splits rule frame way nodes (map (in_order within) groups) →
    SomeOf (λ node. (columns : List ℕ) × (named_in frame within node ≡ Some columns) × FormBreaks splits rule frame way (in_order within columns) (form_of (codes "of") node)) nodes
some_group splits rule frame way within [] groups named broken = absurd broken
some_group splits rule frame way within (node ∷ nodes) groups named broken =
    let both = both_answers (named_in frame within node) (all_of (named_in frame within) nodes) groups named in
    let P : List (List ℕ) → Type 0 = λ all. BelowBreak splits rule frame way (node ∷ nodes) (map (in_order within) all) in
    go both.0 both.1 both.2 both.3 (subst P both.4 broken) (some_group splits rule frame way within nodes)
  where
    go : (columns : List ℕ) (others : List (List ℕ)) → named_in frame within node ≡ Some columns → all_of (named_in frame within) nodes ≡ Some others → BelowBreak splits rule frame way (node ∷ nodes) (map (in_order within) (columns ∷ others)) →
        ((others : List (List ℕ)) → all_of (named_in frame within) nodes ≡ Some others → BelowBreak splits rule frame way nodes (map (in_order within) others) →
        SomeOf (λ node. (columns : List ℕ) × (named_in frame within node ≡ Some columns) × FormBreaks splits rule frame way (in_order within columns) (form_of (codes "of") node)) nodes) →
        SomeOf (λ node. (columns : List ℕ) × (named_in frame within node ≡ Some columns) × FormBreaks splits rule frame way (in_order within columns) (form_of (codes "of") node)) (node ∷ nodes)
    go columns others own rest (inl here) more = inl (columns, own, here)
    go columns others own rest (inr there) more = inr (more others rest there)

-- one split too many
pub no_splits : (rule : Rule) (frame : Frame) (splits : ℕ) (way : List Cond) (within : List ℕ) (form : Form) (leaves : ℕ) → splits ≡ 0 → FormBreaks 0 rule frame way within form → NodeBreaks rule frame splits way within form leaves
no_splits rule frame splits way within form leaves none broken =
    let P : ℕ → Type 0 = λ n. FormBreaks n rule frame way within form in inl (subst P (sym none) broken)

-- a row split
pub rows_break : (rule : Rule) (frame : Frame) (splits less : ℕ) (way : List Cond) (within : List ℕ) (nodes : List Data) (leaves : ℕ) → splits ≡ suc less →
    FormBreaks (suc less) rule frame way within (SplitByRows nodes) → NodeBreaks rule frame splits way within (SplitByRows nodes) leaves
rows_break rule frame splits less way within nodes leaves more broken =
    let P : ℕ → Type 0 = λ n. FormBreaks n rule frame way within (SplitByRows nodes) in inl (subst P (sym more) broken)

pub rows_below_break : (rule : Rule) (frame : Frame) (splits less : ℕ) (way : List Cond) (within : List ℕ) (nodes : List Data) (conds found : List (List Cond)) (leaves : ℕ) → splits ≡ suc less → conds ≡ found → Each (IsWhere frame within) nodes found →
    BranchesBreak less rule frame way within nodes conds ⊎ IsLeafTooMany rule less (codes "where") nodes leaves → NodeBreaks rule frame splits way within (SplitByRows nodes) leaves
rows_below_break rule frame splits less way within nodes conds found leaves more is each broken =
    let P : ℕ → Type 0 = λ n. NodeBreaks rule frame n way within (SplitByRows nodes) leaves in
    let Q : List (List Cond) → Type 0 = λ all. BranchesBreak less rule frame way within nodes all ⊎ IsLeafTooMany rule less (codes "where") nodes leaves in
    subst P (sym more) (go (subst Q is broken))
  where
    go : BranchesBreak less rule frame way within nodes found ⊎ IsLeafTooMany rule less (codes "where") nodes leaves → NodeBreaks rule frame (suc less) way within (SplitByRows nodes) leaves
    go (inl below) = inl (inr (inr (some_branch less rule frame way within nodes found each below)))
    go (inr many) = inr many

-- a column split
pub cols_break : (rule : Rule) (frame : Frame) (splits less : ℕ) (way : List Cond) (within : List ℕ) (nodes : List Data) (leaves : ℕ) → splits ≡ suc less →
    GroupsBreak rule frame within nodes → NodeBreaks rule frame splits way within (SplitByCols nodes) leaves
cols_break rule frame splits less way within nodes leaves more broken =
    let P : ℕ → Type 0 = λ n. FormBreaks n rule frame way within (SplitByCols nodes) in inl (subst P (sym more) (inl broken))

pub cols_below_break : (rule : Rule) (frame : Frame) (splits less : ℕ) (way : List Cond) (within : List ℕ) (nodes : List Data) (groups found : List (List ℕ)) (leaves : ℕ) → splits ≡ suc less → groups ≡ found → all_of (named_in frame within) nodes ≡ Some found →
    BelowBreak less rule frame way nodes (map (in_order within) groups) ⊎ IsLeafTooMany rule less (codes "of") nodes leaves → NodeBreaks rule frame splits way within (SplitByCols nodes) leaves
cols_below_break rule frame splits less way within nodes groups found leaves more is named broken =
    let P : ℕ → Type 0 = λ n. NodeBreaks rule frame n way within (SplitByCols nodes) leaves in
    let Q : List (List ℕ) → Type 0 = λ all. BelowBreak less rule frame way nodes (map (in_order within) all) ⊎ IsLeafTooMany rule less (codes "of") nodes leaves in
    subst P (sym more) (go (subst Q is broken))
  where
    go : BelowBreak less rule frame way nodes (map (in_order within) found) ⊎ IsLeafTooMany rule less (codes "of") nodes leaves → NodeBreaks rule frame (suc less) way within (SplitByCols nodes) leaves
    go (inl below) = inl (inr (some_group less rule frame way within nodes found named below))
    go (inr many) = inr many

-- a leaf: its site is not there, or it is one too many
pub site_breaks : (rule : Rule) (frame : Frame) (splits : ℕ) (way : List Cond) (within : List ℕ) (form : Form) (name : List ℕ) (leaves : ℕ) → form ≡ AtSite name → IsLeafFault frame name leaves rule → NodeBreaks rule frame splits way within form leaves
site_breaks rule frame splits way within form name leaves is fault =
    let P : Form → Type 0 = λ f. NodeBreaks rule frame splits way within f leaves in subst P (sym is) (by_rule rule fault)
  where
    by_rule : (rule : Rule) → IsLeafFault frame name leaves rule → NodeBreaks rule frame splits way within (AtSite name) leaves
    by_rule NoSite none = inl (refl, none)
    by_rule Limit many = inr (refl, omega (arith, many))
    by_rule Toml never = absurd never
    by_rule Field never = absurd never
    by_rule Name never = absurd never
    by_rule Twice never = absurd never
    by_rule KeyType never = absurd never
    by_rule ColumnTwice never = absurd never
    by_rule ColumnLost never = absurd never
    by_rule ColumnAbsent never = absurd never
    by_rule WrongType never = absurd never
    by_rule (Gap cell) never = absurd never
    by_rule (Overlap cell) never = absurd never
    by_rule Memory never = absurd never
