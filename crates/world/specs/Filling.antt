-- What the sites of a database keep as it is opened.
use Rattle.std.specs.Prelude.{ℕ, ◌==◌, Bool, List, [], ◌∷◌, if◌then◌else◌}
use Rattle.std.specs.Ordering.{is_eq}
use Rattle.terms.specs.declared.leaf.Leaf.{Leaf}
use Rattle.terms.specs.declared.value.Value.{Value}
use Rattle.terms.specs.Leaf.{leaf_cmp}
use Rattle.meaning.specs.Whole.{Relations, rows_of}
use Rattle.catalog.specs.declared.fragment_leaf.FragmentLeaf.{FragmentLeaf}
use Rattle.catalog.specs.Fragment.{content}
use Rattle.catalog.specs.FragmentLeaf.{unnamed}
use Rattle.store.specs.Content.{Content}
use Rattle.desk.specs.CatalogueDatabase.{stored_in}

-- whether a leaf has this name
abbrev pub is_leaf : FragmentLeaf → Leaf → Bool
is_leaf leaf name = is_eq (leaf_cmp name leaf.name)

-- what is kept of the leaf of a name, once the parts of rows are put into some leaf
abbrev pub kept_with : FragmentLeaf → List (List Value) → Leaf → Content → Content
kept_with leaf rows name kept = if is_leaf leaf name then stored_in kept (content (unnamed leaf) rows) else kept

-- so once the parts of its leaves are put at a site, one leaf after another
abbrev pub filled : Relations → ℕ → List FragmentLeaf → Leaf → Content → Content
filled whole site [] name kept = kept
filled whole site (leaf ∷ leaves) name kept = filled whole site leaves name (if leaf.site == site then kept_with leaf (rows_of whole leaf.name.relation) name kept else kept)
