-- What the reading of a split says of the node that is split.
use Rattle.std.proofs.Common.{◌≡◌, ◌≤◌, ◌+◌, ℕ, zero, suc, List, [], Some, Ok, Err, Result, IfOk, IfErr, IsErrAnd, length, map, sym, ap, ◌∙◌, subst, inl, inr}
use Rattle.toml.specs.Data.{Data}
use Rattle.terms.specs.declared.cond.Cond.{Cond}
use Rattle.reader.specs.Conds.{OneListOfCondsOfText}
use Rattle.catalog.specs.declared.fault.Rule.{Rule}
use Rattle.catalog.specs.Below.{AreRows, AreCols, RefusesSite, RefusesRows, RefusesBranches, RefusesCols, RefusesGroups}
use Rattle.catalog.specs.Describes.{Frame, kinds_in, Each, IsWhere, visible, AreNamedIn, HasFewCells, in_order, site_numbered, Describes, AreBranches, AreGroups}
use Rattle.catalog.specs.Inexact.{IsFirstInexact, ShowsCell, row_splits, splits_of_branches, splits_of_groups}
use Rattle.catalog.specs.Node.{AtSite, SplitByRows, SplitByCols, Ill, form_of}
use Rattle.catalog.specs.Path.{paths, paths_by_rows, paths_by_cols, branch_conds, group_columns}
use Rattle.catalog.specs.Refuses.{Refuses, NoneIsDescribed, RefusesConds, RefusesSplit, RefusesNamed}
use Rattle.catalog.specs.Split.{Tree, Site, ByRows, ByCols, Branches, Groups}
use Rattle.catalog.specs.Valid.{AreExact}
use Rattle.catalog.proofs.Leaves.{one_rows, one_cols}
use Rattle.catalog.proofs.OneTree.{one_conds, one_names}
use Rattle.catalog.proofs.Refusals.{refuses_map, refuses_also, split_refused}

-- what follows from an error's fact, and from two facts of a value
pub if_err : {T E : Type 0} (K L : E → Type 0) (result : Result T E) → ((e : E) → K e → L e) → IfErr result K → IfErr result L
if_err K L (Ok x) f h = tt
if_err K L (Err e) f h = f e h

-- the exit of a `?` whose error is known
pub err_is : {T E : Type 0} (r : Result T E) (Q : E → Type 0) (y : E) → IsErrAnd r (λ x. x ≡ y) → Q y → IfErr r Q
err_is (Ok x) Q y is h = absurd is
err_is (Err x) Q y is h = subst Q (sym is) h

pub if_ok_both : {T E : Type 0} (J K L : T → Type 0) (result : Result T E) → ((x : T) → J x → K x → L x) → IfOk result J → IfOk result K → IfOk result L
if_ok_both J K L (Ok x) f h k = f x h k
if_ok_both J K L (Err e) f h k = tt

rows_each : (frame : Frame) (splits : ℕ) (way : List Cond) (within : List ℕ) (nodes : List Data) (branches : Branches) → AreRows frame splits way within nodes branches → Each (IsWhere frame within) nodes (branch_conds branches)
rows_each frame zero way within nodes branches rows = absurd rows
rows_each frame (suc splits) way within nodes branches rows = rows.0

rows_few : (frame : Frame) (splits : ℕ) (way : List Cond) (within : List ℕ) (nodes : List Data) (branches : Branches) → AreRows frame splits way within nodes branches → HasFewCells (kinds_in frame) way (branch_conds branches)
rows_few frame zero way within nodes branches rows = absurd rows
rows_few frame (suc splits) way within nodes branches rows = rows.1

-- what a row split is refused by, and what it is not described by
abbrev InexactRows : Frame → ℕ → List Cond → List ℕ → List Data → Rule → Type 0
InexactRows frame splits way within nodes rule = (branches : Branches) → AreRows frame splits way within nodes branches → IsFirstInexact frame rule (row_splits way (ByRows branches))

abbrev NoRows : Frame → ℕ → List Cond → List ℕ → List Data → ℕ → Type 0
NoRows frame splits way within nodes leaves = (branches : Branches) → AreRows frame splits way within nodes branches → leaves + length (paths_by_rows branches) ≤ 32 → ⊥

pub rows_no_conds : (frame : Frame) (splits : ℕ) (way : List Cond) (within : List ℕ) (nodes : List Data) (leaves : ℕ) (rule : Rule) →
    RefusesConds (visible within frame.columns) nodes rule → RefusesRows frame splits way within nodes leaves rule
rows_no_conds frame splits way within nodes leaves rule refused =
    refuses_also (InexactRows frame splits way within nodes rule) ((branches : List (List Cond)) → Each (IsWhere frame within) nodes branches → ⊥) (NoRows frame splits way within nodes leaves) rule
    (λ none branches rows few. none (branch_conds branches) (rows_each frame splits way within nodes branches rows)) refused

pub rows_no_split : OneListOfCondsOfText → (frame : Frame) (splits : ℕ) (way : List Cond) (within : List ℕ) (nodes : List Data) (leaves : ℕ) (conds found : List (List Cond)) (rule : Rule) →
    conds ≡ found → Each (IsWhere frame within) nodes found → RefusesSplit frame way conds rule → RefusesRows frame splits way within nodes leaves rule
rows_no_split law frame splits way within nodes leaves conds found rule is each refused =
    let same : (branches : Branches) → AreRows frame splits way within nodes branches → branch_conds branches ≡ conds =
    λ branches rows. one_conds law frame within nodes (branch_conds branches) found (rows_each frame splits way within nodes branches rows) each ∙ sym is in
    refuses_map (ShowsCell frame rule (record { way = way; branches = conds })) (InexactRows frame splits way within nodes rule)
    (HasFewCells (kinds_in frame) way conds → ⊥) (NoRows frame splits way within nodes leaves) rule
    (λ shown branches rows. let P : List (List Cond) → Type 0 = λ cs. ShowsCell frame rule (record { way = way; branches = cs }) in inl (subst P (sym (same branches rows)) shown))
    (λ many branches rows few. let P : List (List Cond) → Type 0 = λ cs. HasFewCells (kinds_in frame) way cs in many (subst P (same branches rows) (rows_few frame splits way within nodes branches rows)))
    (split_refused frame way conds rule refused)

rows_child : OneListOfCondsOfText → (frame : Frame) (splits : ℕ) (way : List Cond) (within : List ℕ) (nodes : List Data) (leaves : ℕ) (conds found : List (List Cond)) →
    conds ≡ found → Each (IsWhere frame within) nodes found → AreExact (kinds_in frame) way conds → (rule : Rule) → RefusesBranches frame splits way within nodes conds leaves rule → RefusesRows frame (suc splits) way within nodes leaves rule
rows_child law frame splits way within nodes leaves conds found is each exact rule refused =
    let same : (branches : Branches) → AreRows frame (suc splits) way within nodes branches → branch_conds branches ≡ conds =
    λ branches rows. one_conds law frame within nodes (branch_conds branches) found rows.0 each ∙ sym is in
    let P : List (List Cond) → Type 0 = λ cs. AreExact (kinds_in frame) way cs in
    refuses_map
    ((branches : Branches) → branch_conds branches ≡ conds → AreBranches frame splits way within nodes branches → IsFirstInexact frame rule (splits_of_branches way branches))
    (InexactRows frame (suc splits) way within nodes rule)
    ((branches : Branches) → branch_conds branches ≡ conds → AreBranches frame splits way within nodes branches → leaves + length (paths_by_rows branches) ≤ 32 → ⊥)
    (NoRows frame (suc splits) way within nodes leaves)
    rule
    (λ first branches rows. inr (subst P (sym (same branches rows)) exact, first branches (same branches rows) rows.2))
    (λ none branches rows few. none branches (same branches rows) rows.2 few)
    refused

pub rows_below : OneListOfCondsOfText → (frame : Frame) (splits less : ℕ) (way : List Cond) (within : List ℕ) (nodes : List Data) (leaves : ℕ) (conds found : List (List Cond)) → splits ≡ suc less →
    conds ≡ found → Each (IsWhere frame within) nodes found → AreExact (kinds_in frame) way conds → (rule : Rule) → RefusesBranches frame less way within nodes conds leaves rule → RefusesRows frame splits way within nodes leaves rule
rows_below law frame splits less way within nodes leaves conds found more is each exact rule refused =
    let P : ℕ → Type 0 = λ n. RefusesRows frame n way within nodes leaves rule in
    subst P (sym more) (rows_child law frame less way within nodes leaves conds found is each exact rule refused)

cols_named : (frame : Frame) (splits : ℕ) (way : List Cond) (within : List ℕ) (nodes : List Data) (groups : Groups) → AreCols frame splits way within nodes groups → (columns : List (List ℕ)) × AreNamedIn frame within nodes columns
cols_named frame zero way within nodes groups cols = absurd cols
cols_named frame (suc splits) way within nodes groups cols = (cols.0, cols.1)

-- the same of a column split
abbrev InexactCols : Frame → ℕ → List Cond → List ℕ → List Data → Rule → Type 0
InexactCols frame splits way within nodes rule = (groups : Groups) → AreCols frame splits way within nodes groups → IsFirstInexact frame rule (splits_of_groups way groups)

abbrev NoCols : Frame → ℕ → List Cond → List ℕ → List Data → ℕ → Type 0
NoCols frame splits way within nodes leaves = (groups : Groups) → AreCols frame splits way within nodes groups → leaves + length (paths_by_cols [] groups) ≤ 32 → ⊥

pub cols_no_names : (frame : Frame) (splits : ℕ) (way : List Cond) (within : List ℕ) (nodes : List Data) (leaves : ℕ) (rule : Rule) →
    RefusesNamed frame within nodes rule → RefusesCols frame splits way within nodes leaves rule
cols_no_names frame splits way within nodes leaves rule refused =
    refuses_also (InexactCols frame splits way within nodes rule) ((groups : List (List ℕ)) → AreNamedIn frame within nodes groups → ⊥) (NoCols frame splits way within nodes leaves) rule
    (λ none groups cols few. let there = cols_named frame splits way within nodes groups cols in none there.0 there.1) refused

cols_child : (frame : Frame) (splits : ℕ) (way : List Cond) (within : List ℕ) (nodes : List Data) (leaves : ℕ) (named found : List (List ℕ)) →
    named ≡ found → AreNamedIn frame within nodes found → (rule : Rule) → RefusesGroups frame splits way nodes (map (in_order within) named) leaves rule → RefusesCols frame (suc splits) way within nodes leaves rule
cols_child frame splits way within nodes leaves named found is are rule refused =
    let same : (groups : Groups) → AreCols frame (suc splits) way within nodes groups → group_columns groups ≡ map (in_order within) named =
    λ groups cols. cols.2 ∙ ap (map (in_order within)) (one_names frame within nodes cols.0 found cols.1 are ∙ sym is) in
    refuses_map
    ((groups : Groups) → group_columns groups ≡ map (in_order within) named → AreGroups frame splits way nodes groups → IsFirstInexact frame rule (splits_of_groups way groups))
    (InexactCols frame (suc splits) way within nodes rule)
    ((groups : Groups) → group_columns groups ≡ map (in_order within) named → AreGroups frame splits way nodes groups → leaves + length (paths_by_cols [] groups) ≤ 32 → ⊥)
    (NoCols frame (suc splits) way within nodes leaves)
    rule
    (λ first groups cols. first groups (same groups cols) cols.3)
    (λ none groups cols few. none groups (same groups cols) cols.3 few)
    refused

pub cols_below : (frame : Frame) (splits less : ℕ) (way : List Cond) (within : List ℕ) (nodes : List Data) (leaves : ℕ) (named found : List (List ℕ)) → splits ≡ suc less →
    named ≡ found → AreNamedIn frame within nodes found → (rule : Rule) → RefusesGroups frame less way nodes (map (in_order within) named) leaves rule → RefusesCols frame splits way within nodes leaves rule
cols_below frame splits less way within nodes leaves named found more is are rule refused =
    let P : ℕ → Type 0 = λ n. RefusesCols frame n way within nodes leaves rule in
    subst P (sym more) (cols_child frame less way within nodes leaves named found is are rule refused)

pub cols_described : (frame : Frame) (splits : ℕ) (way : List Cond) (within : List ℕ) (beside : List ℕ) (node : Data) (nodes : List Data) (groups : Groups) →
    form_of beside node ≡ SplitByCols nodes → AreCols frame splits way within nodes groups → Describes frame splits way within beside node (ByCols groups)
cols_described frame zero way within beside node nodes groups form cols = absurd cols
cols_described frame (suc splits) way within beside node nodes groups form cols = (nodes, form, cols.0, cols.1, cols.2, cols.3)

-- trees that a node describes, by its form
pub none_at_site : (frame : Frame) (splits : ℕ) (way : List Cond) (within : List ℕ) (beside : List ℕ) (node : Data) (name : List ℕ) (K : Tree → Type 0) → form_of beside node ≡ AtSite name →
    ((site : ℕ) → site_numbered frame.sites name ≡ Some site → K (Site site) → ⊥) → (tree : Tree) → Describes frame splits way within beside node tree → K tree → ⊥
none_at_site frame splits way within beside node name K form none (Site site) d k =
    let both : AtSite d.0 ≡ AtSite name = sym d.1 ∙ form in
    let same : d.0 ≡ name = cc in
    let P : List ℕ → Type 0 = λ text. site_numbered frame.sites text ≡ Some site in
    none site (subst P same d.2) k
none_at_site frame zero way within beside node name K form none (ByRows branches) d k = d
none_at_site frame zero way within beside node name K form none (ByCols groups) d k = d
none_at_site frame (suc splits) way within beside node name K form none (ByRows branches) d k = let both : AtSite name ≡ SplitByRows d.0 = sym form ∙ d.1 in cc
none_at_site frame (suc splits) way within beside node name K form none (ByCols groups) d k = let both : AtSite name ≡ SplitByCols d.0 = sym form ∙ d.1 in cc

pub each_by_rows : (frame : Frame) (splits : ℕ) (way : List Cond) (within : List ℕ) (beside : List ℕ) (node : Data) (nodes : List Data) (K : Tree → Type 0) → form_of beside node ≡ SplitByRows nodes →
    ((branches : Branches) → AreRows frame splits way within nodes branches → K (ByRows branches)) → (tree : Tree) → Describes frame splits way within beside node tree → K tree
each_by_rows frame splits way within beside node nodes K form all (Site site) d = let both : AtSite d.0 ≡ SplitByRows nodes = sym d.1 ∙ form in absurd (apart both)
  where
    apart : {name : List ℕ} {some : List Data} → AtSite name ≡ SplitByRows some → ⊥
    apart is = cc
each_by_rows frame zero way within beside node nodes K form all (ByRows branches) d = absurd d
each_by_rows frame zero way within beside node nodes K form all (ByCols groups) d = absurd d
each_by_rows frame (suc splits) way within beside node nodes K form all (ByRows branches) d =
    let P : List Data → Type 0 = λ some. AreRows frame (suc splits) way within some branches in
    all branches (subst P (one_rows (form_of beside node) d.0 nodes d.1 form) (d.2, d.3, d.4))
each_by_rows frame (suc splits) way within beside node nodes K form all (ByCols groups) d = let both : SplitByRows nodes ≡ SplitByCols d.0 = sym form ∙ d.1 in absurd (apart both)
  where
    apart : {some other : List Data} → SplitByRows some ≡ SplitByCols other → ⊥
    apart is = cc

pub each_by_cols : (frame : Frame) (splits : ℕ) (way : List Cond) (within : List ℕ) (beside : List ℕ) (node : Data) (nodes : List Data) (K : Tree → Type 0) → form_of beside node ≡ SplitByCols nodes →
    ((groups : Groups) → AreCols frame splits way within nodes groups → K (ByCols groups)) → (tree : Tree) → Describes frame splits way within beside node tree → K tree
each_by_cols frame splits way within beside node nodes K form all (Site site) d = let both : AtSite d.0 ≡ SplitByCols nodes = sym d.1 ∙ form in absurd (apart both)
  where
    apart : {name : List ℕ} {some : List Data} → AtSite name ≡ SplitByCols some → ⊥
    apart is = cc
each_by_cols frame zero way within beside node nodes K form all (ByRows branches) d = absurd d
each_by_cols frame zero way within beside node nodes K form all (ByCols groups) d = absurd d
each_by_cols frame (suc splits) way within beside node nodes K form all (ByRows branches) d = let both : SplitByRows d.0 ≡ SplitByCols nodes = sym d.1 ∙ form in absurd (apart both)
  where
    apart : {some other : List Data} → SplitByRows some ≡ SplitByCols other → ⊥
    apart is = cc
each_by_cols frame (suc splits) way within beside node nodes K form all (ByCols groups) d =
    let P : List Data → Type 0 = λ some. AreCols frame (suc splits) way within some groups in
    all groups (subst P (one_cols (form_of beside node) d.0 nodes d.1 form) (d.2, d.3, d.4, d.5))

pub none_ill : (frame : Frame) (splits : ℕ) (way : List Cond) (within : List ℕ) (beside : List ℕ) (node : Data) → form_of beside node ≡ Ill → (tree : Tree) → Describes frame splits way within beside node tree → ⊥
none_ill frame splits way within beside node form (Site site) d = let both : AtSite d.0 ≡ Ill = sym d.1 ∙ form in cc
none_ill frame zero way within beside node form (ByRows branches) d = d
none_ill frame zero way within beside node form (ByCols groups) d = d
none_ill frame (suc splits) way within beside node form (ByRows branches) d = let both : SplitByRows d.0 ≡ Ill = sym d.1 ∙ form in cc
none_ill frame (suc splits) way within beside node form (ByCols groups) d = let both : SplitByCols d.0 ≡ Ill = sym d.1 ∙ form in cc

-- a refusal below a node is one of the node

abbrev Inexact : Frame → ℕ → List Cond → List ℕ → List ℕ → Data → Rule → Type 0
Inexact frame splits way within beside node rule = (tree : Tree) → Describes frame splits way within beside node tree → IsFirstInexact frame rule (row_splits way tree)

pub site_refused : (frame : Frame) (splits : ℕ) (way : List Cond) (within : List ℕ) (beside : List ℕ) (node : Data) (leaves : ℕ) (name : List ℕ) → form_of beside node ≡ AtSite name →
    (rule : Rule) → RefusesSite frame name leaves rule → Refuses frame splits way within beside node leaves rule
site_refused frame splits way within beside node leaves name form rule refused =
    refuses_also (Inexact frame splits way within beside node rule) ((site : ℕ) → site_numbered frame.sites name ≡ Some site → leaves + 1 ≤ 32 → ⊥) (NoneIsDescribed frame splits way within beside node leaves) rule
    (λ none. none_at_site frame splits way within beside node name (λ tree. leaves + length (paths tree) ≤ 32) form none) refused

pub rows_refused : (frame : Frame) (splits : ℕ) (way : List Cond) (within : List ℕ) (beside : List ℕ) (node : Data) (leaves : ℕ) (nodes : List Data) → form_of beside node ≡ SplitByRows nodes →
    (rule : Rule) → RefusesRows frame splits way within nodes leaves rule → Refuses frame splits way within beside node leaves rule
rows_refused frame splits way within beside node leaves nodes form rule refused =
    refuses_map (InexactRows frame splits way within nodes rule) (Inexact frame splits way within beside node rule)
    (NoRows frame splits way within nodes leaves) (NoneIsDescribed frame splits way within beside node leaves) rule
    (each_by_rows frame splits way within beside node nodes (λ tree. IsFirstInexact frame rule (row_splits way tree)) form)
    (each_by_rows frame splits way within beside node nodes (λ tree. leaves + length (paths tree) ≤ 32 → ⊥) form)
    refused

pub cols_refused : (frame : Frame) (splits : ℕ) (way : List Cond) (within : List ℕ) (beside : List ℕ) (node : Data) (leaves : ℕ) (nodes : List Data) → form_of beside node ≡ SplitByCols nodes →
    (rule : Rule) → RefusesCols frame splits way within nodes leaves rule → Refuses frame splits way within beside node leaves rule
cols_refused frame splits way within beside node leaves nodes form rule refused =
    refuses_map (InexactCols frame splits way within nodes rule) (Inexact frame splits way within beside node rule)
    (NoCols frame splits way within nodes leaves) (NoneIsDescribed frame splits way within beside node leaves) rule
    (each_by_cols frame splits way within beside node nodes (λ tree. IsFirstInexact frame rule (row_splits way tree)) form)
    (each_by_cols frame splits way within beside node nodes (λ tree. leaves + length (paths tree) ≤ 32 → ⊥) form)
    refused
