-- The leaves of a catalogue, each with its name: the relation's, and the leaf's number in the order of the document.
use Rattle.std.specs.Prelude.{ℕ, suc, ◌==◌, ◌&&◌, Bool, List, [], ◌∷◌, Option, Some, None, filter, find, flat_map, length, map, nat_eq}
use Rattle.std.specs.Cmp.Lexicographic.{pointwise}
use Rattle.terms.specs.declared.leaf.Leaf.{Leaf}
use Rattle.meaning.specs.declared.schema.RelationSchema.{RelationSchema}
use Rattle.meaning.specs.Schema.{kinds_of}
use Rattle.catalog.specs.declared.fragment_leaf.FragmentLeaf.{FragmentLeaf}
use Rattle.catalog.specs.Catalogue.{SplitRelation, Catalogue}
use Rattle.catalog.specs.Fragment.{Fragment}
use Rattle.catalog.specs.declared.path.Path.{Path}
use Rattle.catalog.specs.Path.{columns_beside_key, path_conds, path_columns, paths}

-- the leaf at the end of a path in a relation of this name, with these columns beside its key
abbrev pub leaf_of : List ℕ → List ℕ → ℕ → Path → FragmentLeaf
leaf_of relation columns number path =
    record { name = record { relation = relation; number = number }; steps = path.steps; conds = path_conds path.steps; columns = 0 ∷ path_columns columns path.steps; site = path.site }

-- the leaves at the ends of paths, numbered on from a first number
abbrev pub leaves_from : List ℕ → List ℕ → ℕ → List Path → List FragmentLeaf
leaves_from relation columns number [] = []
leaves_from relation columns number (path ∷ paths) = leaf_of relation columns number path ∷ leaves_from relation columns (suc number) paths

-- the leaves of a relation, numbered from 1
abbrev pub leaves_of : SplitRelation → List FragmentLeaf
leaves_of relation = leaves_from relation.schema.name (columns_beside_key (kinds_of relation.schema)) 1 (paths relation.tree)

-- the leaves of a catalogue, relation by relation
abbrev pub catalogue_leaves : Catalogue → List FragmentLeaf
catalogue_leaves catalogue = flat_map leaves_of catalogue.relations

-- whether a leaf has this name
abbrev pub is_name_of : Leaf → FragmentLeaf → Bool
is_name_of name leaf = pointwise nat_eq leaf.name.relation name.relation && (leaf.name.number == name.number)

-- the leaf of this name, if it is among these
abbrev pub leaf_named : Leaf → List FragmentLeaf → Option FragmentLeaf
leaf_named name leaves = find (is_name_of name) leaves

-- the relation of this name, if it is among these
abbrev pub relation_named : List ℕ → List SplitRelation → Option SplitRelation
relation_named name relations = find (λ relation. pointwise nat_eq relation.schema.name name) relations

-- the leaves of a relation, if there is one
abbrev pub leaves_in : Option SplitRelation → List FragmentLeaf
leaves_in None = []
leaves_in (Some relation) = leaves_of relation

-- how many leaves each relation has
abbrev pub leaf_counts : List SplitRelation → List ℕ
leaf_counts relations = map (λ relation. length (paths relation.tree)) relations

-- the names of the leaves at a site
abbrev pub names_at : ℕ → List FragmentLeaf → List Leaf
names_at site leaves = map (λ leaf. leaf.name) (filter (λ leaf. leaf.site == site) leaves)

-- a leaf without its name and site
abbrev pub unnamed : FragmentLeaf → Fragment
unnamed leaf = record { conds = leaf.conds; columns = leaf.columns }

-- the names and columns of a catalogue's relations
abbrev pub schemas_of : Catalogue → List RelationSchema
schemas_of catalogue = map (λ relation. relation.schema) catalogue.relations
