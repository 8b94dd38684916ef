-- The words of the code's own steps, which a reader may skip: the plan of a statement, by groups of columns.
use Rattle.std.specs.Prelude.{◌≡◌, ℕ, ◌&&◌, ◌||◌, not, Bool, if◌then◌else◌, List, [], ◌∷◌, ◌++◌, filter, map}
use Rattle.std.specs.Bool.{beq}
use Rattle.std.specs.List.{list_all}
use Rattle.meaning.specs.declared.statement.Statement.{Statement}
use Rattle.catalog.specs.declared.fragment_leaf.FragmentLeaf.{FragmentLeaf}
use Rattle.catalog.specs.Catalogue.{Catalogue}
use Rattle.catalog.specs.Counts.{has}
use Rattle.catalog.specs.Path.{wanted}
use Rattle.plan.specs.declared.fetch.Fetch as fetch
use Rattle.plan.specs.declared.link.Link.{Link}
use Rattle.plan.specs.declared.need.Need.{Need}
use Rattle.plan.specs.declared.postfix.Node.{Node}
use Rattle.plan.specs.Fetch.{fetch_of}
use Rattle.plan.specs.Found.{asked}
use Rattle.plan.specs.Need.{needs}
use Rattle.plan.specs.Postfix.{postfix}
use Rattle.plan.specs.Reduced.{is_fetched, reduced}
use Rattle.plan.specs.Rows.{is_seen}
use Rattle.plan.specs.Shape.{Shape, Empty, Fetch, Filter, Project, Union, KeyJoin, Lookup}
use Rattle.plan.specs.Stated.{leaves_of}

-- whether a leaf is wanted for a need and has these columns
abbrev pub reaches : Need → List ℕ → FragmentLeaf → Bool
reaches need columns leaf = wanted need.columns leaf.steps && list_all (has leaf.columns) columns

-- the reads of those leaves, each cut to these columns
abbrev pub covers : Need → List ℕ → List FragmentLeaf → List Shape
covers need columns leaves = map (λ leaf. Project columns (Fetch (fetch_of need leaf))) (filter (reaches need columns) leaves)

-- the read of one leaf, cut to these columns
abbrev pub cut_read : Need → List ℕ → FragmentLeaf → Shape
cut_read need columns leaf = Project columns (Fetch (fetch_of need leaf))

-- what a union puts together, in order, whatever its tree
abbrev pub united : Shape → List Shape
united Empty = []
united (Fetch read) = Fetch read ∷ []
united (Filter conds below) = Filter conds below ∷ []
united (Project columns below) = Project columns below ∷ []
united (Union one other) = united one ++ united other
united (KeyJoin one other) = KeyJoin one other ∷ []
united (Lookup col width left right) = Lookup col width left right ∷ []

-- columns behind others: each once, and none that is the key or among the others
abbrev pub once_behind : List ℕ → List ℕ → List ℕ
once_behind found [] = []
once_behind found (col ∷ columns) = if is_seen found col then once_behind found columns else col ∷ once_behind (found ++ col ∷ []) columns

-- columns, each once, without the key
abbrev pub once : List ℕ → List ℕ
once columns = once_behind [] columns

-- whether of two columns a leaf has both or none, if it is wanted
abbrev pub has_alike : Need → ℕ → ℕ → FragmentLeaf → Bool
has_alike need a b leaf = beq (has leaf.columns a) (has leaf.columns b) || not (wanted need.columns leaf.steps)

-- so each leaf
abbrev pub together : Need → List FragmentLeaf → ℕ → ℕ → Bool
together need leaves a b = list_all (has_alike need a b) leaves

abbrev pub apart : Need → List FragmentLeaf → ℕ → ℕ → Bool
apart need leaves a b = not (together need leaves a b)

-- columns in groups: the first with those that the same leaves have, and then the others
abbrev pub AreGroups : Need → List FragmentLeaf → List ℕ → List (List ℕ) → Type 0
AreGroups need leaves columns [] = columns ≡ []
AreGroups need leaves columns (group ∷ groups) =
    (first : ℕ) × (rest : List ℕ) × (columns ≡ first ∷ rest) × (group ≡ first ∷ filter (together need leaves first) rest) × AreGroups need leaves (filter (apart need leaves first) rest) groups

-- a plan of groups: each from the leaves that have it, put together by the key; without any the keys of all wanted leaves
abbrev pub IsByGroups : Need → List FragmentLeaf → List (List ℕ) → Shape → Type 0
IsByGroups need leaves [] plan = united plan ≡ covers need [] leaves
IsByGroups need leaves (group ∷ []) plan = united plan ≡ covers need group leaves
IsByGroups need leaves (group ∷ next ∷ groups) plan =
    (one : Shape) × (other : Shape) × (plan ≡ KeyJoin one other) × (united one ≡ covers need group leaves) × IsByGroups need leaves (next ∷ groups) other

-- so a plan of columns, which are read at once where the same leaves have them
abbrev pub IsByColumns : Need → List FragmentLeaf → List ℕ → Shape → Type 0
IsByColumns need leaves columns plan = (groups : List (List ℕ)) × AreGroups need leaves columns groups × IsByGroups need leaves groups plan

-- a plan of the rows of a need, before any is left out
abbrev pub IsOfNeed : Catalogue → Need → Shape → Type 0
IsOfNeed catalogue need plan = IsByColumns need (leaves_of catalogue need.relation) (once need.columns) plan

-- of the rows of the relations before, which have so many columns, and a plan for each further need: the rows that have a partner, one relation after another
abbrev pub IsOfJoined : Catalogue → List Link → List Need → Shape → Shape → Type 0
IsOfJoined catalogue [] needs left plan = plan ≡ left
IsOfJoined catalogue (link ∷ links) [] left plan = plan ≡ left
IsOfJoined catalogue (link ∷ links) (need ∷ needs) left plan = (right : Shape) × IsOfNeed catalogue need right × IsOfJoined catalogue links needs (Lookup link.place link.key left right) plan

abbrev pub IsOfNeeds : Catalogue → List Link → List Need → Shape → Type 0
IsOfNeeds catalogue links [] plan = plan ≡ Empty
IsOfNeeds catalogue links (need ∷ needs) plan = (left : Shape) × IsOfNeed catalogue need left × IsOfJoined catalogue links needs left plan

-- of the rows of its needs those that meet its conditions
abbrev pub IsLocated : Catalogue → Statement → Shape → Type 0
IsLocated catalogue statement plan = (below : Shape) × (plan ≡ Filter (asked statement) below) × IsOfNeeds catalogue (needs statement).links (needs statement).relations below

-- behind other nodes stand those of some such plan, without the reads of leaves that are not fetched
pub record PutsPlan (IsSuch : Shape → Type 0) (fetches : List fetch.Fetch) (before nodes : List Node) : Type 0 where
  pub plan : Shape
  pub is : IsSuch plan
  pub put : nodes ≡ before ++ postfix (reduced (is_fetched fetches) plan)
