-- A node describes one tree at most.
use Rattle.std.proofs.Common.{◌≡◌, ℕ, zero, suc, List, [], ◌∷◌, ◌++◌, Some, map, refl, sym, ap, ◌∙◌, subst, codes}
use Rattle.toml.specs.Data.{Data}
use Rattle.terms.specs.declared.cond.Cond.{Cond}
use Rattle.meaning.specs.declared.schema.Column.{Column}
use Rattle.reader.specs.Conds.{AreCondsOf, OneListOfCondsOfText}
use Rattle.catalog.specs.Describes.{Frame, Each, IsWhereOn, IsWhere, visible, AreNamedIn, in_order, site_numbered, Describes, AreBranches, AreGroups}
use Rattle.catalog.specs.Node.{AtSite, form_of}
use Rattle.catalog.specs.Path.{branch_conds, group_columns}
use Rattle.catalog.specs.Split.{Tree, Site, ByRows, ByCols, Branches, NoBranch, Branch, Groups, NoGroup, Group}
use Rattle.catalog.proofs.Leaves.{site_rows, site_cols, rows_cols, one_rows, one_cols}
use Rattle.catalog.proofs.Pairs.{each_one}

-- a branch has one list of conditions at most
one_where : OneListOfCondsOfText → (columns : List Column) (node : Data) (one other : List Cond) → IsWhereOn columns node one → IsWhereOn columns node other → one ≡ other
one_where law columns node one other w v =
    let both : Some v.text ≡ Some w.text = sym v.there ∙ w.there in
    let same : v.text ≡ w.text = cc in
    let P : List ℕ → Type 0 = λ text. AreCondsOf columns text other in
    law columns w.text one other w.reads (subst P same v.reads)

pub one_conds : OneListOfCondsOfText → (frame : Frame) (within : List ℕ) (nodes : List Data) (one other : List (List Cond)) →
    Each (IsWhere frame within) nodes one → Each (IsWhere frame within) nodes other → one ≡ other
one_conds law frame within nodes one other = each_one (IsWhere frame within) (one_where law (visible within frame.columns)) nodes one other

-- groups name one list of columns each at most
pub one_names : (frame : Frame) (within : List ℕ) (nodes : List Data) (one other : List (List ℕ)) → AreNamedIn frame within nodes one → AreNamedIn frame within nodes other → one ≡ other
one_names frame within nodes one other a b = let both : Some one ≡ Some other = sym a.names ∙ b.names in cc

one_site : (frame : Frame) (one other : List ℕ) (a b : ℕ) → AtSite one ≡ AtSite other → site_numbered frame.sites one ≡ Some a → site_numbered frame.sites other ≡ Some b → a ≡ b
one_site frame one other a b form first second =
    let same : one ≡ other = cc in
    let both : Some a ≡ Some b = sym first ∙ ap (site_numbered frame.sites) same ∙ second in cc

pub first_same : {A : Type 0} (x y : A) (xs ys : List A) → x ∷ xs ≡ y ∷ ys → (x ≡ y) × (xs ≡ ys)
first_same x y xs ys same = (cc, cc)

one_branch : (c d : List Cond) (t u : Tree) (bs cs : Branches) → c ≡ d → t ≡ u → bs ≡ cs → Branch c t bs ≡ Branch d u cs
one_branch c d t u bs cs one two three = cc

one_group : (c d : List ℕ) (t u : Tree) (gs hs : Groups) → c ≡ d → t ≡ u → gs ≡ hs → Group c t gs ≡ Group d u hs
one_group c d t u gs hs one two three = cc

mutual
  pub one_tree : OneListOfCondsOfText → (frame : Frame) (splits : ℕ) (way : List Cond) (within : List ℕ) (beside : List ℕ) (node : Data) (tree other : Tree) →
      Describes frame splits way within beside node tree → Describes frame splits way within beside node other → tree ≡ other
  one_tree law frame splits way within beside node (Site a) (Site b) one two = ap Site (one_site frame one.0 two.0 a b (sym one.1 ∙ two.1) one.2 two.2)
  one_tree law frame zero way within beside node (Site a) (ByRows bs) one two = absurd two
  one_tree law frame zero way within beside node (Site a) (ByCols bs) one two = absurd two
  one_tree law frame zero way within beside node (ByRows bs) other one two = absurd one
  one_tree law frame zero way within beside node (ByCols bs) other one two = absurd one
  one_tree law frame (suc splits) way within beside node (Site a) (ByRows bs) one two = absurd (site_rows (form_of beside node) one.0 two.0 one.1 two.1)
  one_tree law frame (suc splits) way within beside node (Site a) (ByCols bs) one two = absurd (site_cols (form_of beside node) one.0 two.0 one.1 two.1)
  one_tree law frame (suc splits) way within beside node (ByRows bs) (Site b) one two = absurd (site_rows (form_of beside node) two.0 one.0 two.1 one.1)
  one_tree law frame (suc splits) way within beside node (ByRows bs) (ByRows cs) one two =
      let same : two.0 ≡ one.0 = one_rows (form_of beside node) two.0 one.0 two.1 one.1 in
      let P : List Data → Type 0 = λ nodes. AreBranches frame splits way within nodes cs in
      let Q : List Data → Type 0 = λ nodes. Each (IsWhere frame within) nodes (branch_conds cs) in
      ap ByRows (one_branches law frame splits way within one.0 bs cs (one_conds law frame within one.0 (branch_conds bs) (branch_conds cs) one.2 (subst Q same two.2)) one.4 (subst P same two.4))
  one_tree law frame (suc splits) way within beside node (ByRows bs) (ByCols cs) one two = absurd (rows_cols (form_of beside node) one.0 two.0 one.1 two.1)
  one_tree law frame (suc splits) way within beside node (ByCols bs) (Site b) one two = absurd (site_cols (form_of beside node) two.0 one.0 two.1 one.1)
  one_tree law frame (suc splits) way within beside node (ByCols bs) (ByRows cs) one two = absurd (rows_cols (form_of beside node) two.0 one.0 two.1 one.1)
  one_tree law frame (suc splits) way within beside node (ByCols gs) (ByCols hs) one two =
      let same : two.0 ≡ one.0 = one_cols (form_of beside node) two.0 one.0 two.1 one.1 in
      let P : List Data → Type 0 = λ nodes. AreGroups frame splits way nodes hs in
      let Q : List Data → Type 0 = λ nodes. AreNamedIn frame within nodes two.2 in
      let columns : group_columns gs ≡ group_columns hs = one.4 ∙ ap (map (in_order within)) (one_names frame within one.0 one.2 two.2 one.3 (subst Q same two.3)) ∙ sym two.4 in
      ap ByCols (one_groups law frame splits way one.0 gs hs columns one.5 (subst P same two.5))

  one_branches : OneListOfCondsOfText → (frame : Frame) (splits : ℕ) (way : List Cond) (within : List ℕ) (nodes : List Data) (branches others : Branches) → branch_conds branches ≡ branch_conds others →
      AreBranches frame splits way within nodes branches → AreBranches frame splits way within nodes others → branches ≡ others
  one_branches law frame splits way within [] NoBranch NoBranch same one two = refl
  one_branches law frame splits way within [] NoBranch (Branch d u others) same one two = absurd two
  one_branches law frame splits way within [] (Branch c t branches) others same one two = absurd one
  one_branches law frame splits way within (node ∷ nodes) NoBranch others same one two = absurd one
  one_branches law frame splits way within (node ∷ nodes) (Branch c t branches) NoBranch same one two = absurd two
  one_branches law frame splits way within (node ∷ nodes) (Branch c t branches) (Branch d u others) same one two =
      let heads = first_same c d (branch_conds branches) (branch_conds others) same in
      let P : List Cond → Type 0 = λ conds. Describes frame splits (way ++ conds) within (codes "where") node u in
      one_branch c d t u branches others heads.0 (one_tree law frame splits (way ++ c) within (codes "where") node t u one.0 (subst P (sym heads.0) two.0))
      (one_branches law frame splits way within nodes branches others heads.1 one.1 two.1)

  one_groups : OneListOfCondsOfText → (frame : Frame) (splits : ℕ) (way : List Cond) (nodes : List Data) (groups others : Groups) → group_columns groups ≡ group_columns others →
      AreGroups frame splits way nodes groups → AreGroups frame splits way nodes others → groups ≡ others
  one_groups law frame splits way [] NoGroup NoGroup same one two = refl
  one_groups law frame splits way [] NoGroup (Group d u others) same one two = absurd two
  one_groups law frame splits way [] (Group c t groups) others same one two = absurd one
  one_groups law frame splits way (node ∷ nodes) NoGroup others same one two = absurd one
  one_groups law frame splits way (node ∷ nodes) (Group c t groups) NoGroup same one two = absurd two
  one_groups law frame splits way (node ∷ nodes) (Group c t groups) (Group d u others) same one two =
      let heads = first_same c d (group_columns groups) (group_columns others) same in
      let P : List ℕ → Type 0 = λ columns. Describes frame splits way columns (codes "of") node u in
      one_group c d t u groups others heads.0 (one_tree law frame splits way c (codes "of") node t u one.0 (subst P (sym heads.0) two.0))
      (one_groups law frame splits way nodes groups others heads.1 one.1 two.1)
