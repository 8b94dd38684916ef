-- A plan of a statement without the reads of other leaves is uniform, and reads the fetches alone.
use Rattle.std.proofs.Common.{◌≡◌, ◌≤◌, ◌<◌, ℕ, ◌+◌, ◌*◌, Bool, true, false, not, cond, List, [], ◌∷◌, ◌++◌, filter, length, map, Option, Some, None, refl, ap, sym, ◌∙◌, subst, arith}
use Rattle.std.specs.List.{AllByRecursion, Contains, list_all, slice_get}
use Rattle.std.specs.Option.{option_or}
use Rattle.std.proofs.lemmas.List.{length-map}
use Rattle.terms.specs.declared.leaf.Leaf.{Leaf}
use Rattle.terms.specs.declared.value.Kind.{Kind}
use Rattle.meaning.specs.declared.schema.RelationSchema.{RelationSchema}
use Rattle.meaning.specs.declared.statement.Join.{Join}
use Rattle.meaning.specs.declared.statement.Source.{Source}
use Rattle.meaning.specs.declared.statement.Statement.{Statement}
use Rattle.meaning.specs.declared.statement.Statement.TheVariants as statement
use Rattle.meaning.specs.Schema as meaning
use Rattle.meaning.specs.Schema.{kinds_of, names_of}
use Rattle.meaning.specs.Statement.{AreJoinsOf, IsStatementOf}
use Rattle.catalog.specs.declared.fragment_leaf.FragmentLeaf.{FragmentLeaf}
use Rattle.catalog.specs.Catalogue.{Catalogue, IsValidCatalogue}
use Rattle.catalog.specs.Counts.{has}
use Rattle.catalog.specs.Formed.{IsFormed, IsLeafOver}
use Rattle.catalog.specs.FragmentLeaf.{schemas_of}
use Rattle.catalog.specs.Path.{wanted}
use Rattle.plan.specs.declared.fetch.Fetch as fetch
use Rattle.plan.specs.declared.link.Link.{Link}
use Rattle.plan.specs.declared.need.Need.{Need}
use Rattle.plan.specs.Fetch.{fetch_of}
use Rattle.plan.specs.Located.{IsByColumns, IsByGroups, IsLocated, IsOfJoined, IsOfNeeds, covers, once, reaches, united}
use Rattle.plan.specs.Need.{links_behind, needs, width_of}
use Rattle.plan.specs.Reduced.{is_fetched, reduced}
use Rattle.plan.specs.Rows.{is_seen}
use Rattle.plan.specs.Shape.{Shape, Empty, Fetch, Filter, Project, Union, KeyJoin, Lookup}
use Rattle.plan.specs.Stated.{kinds_in, leaves_of}
use Rattle.plan.specs.Uniform.{Agree, AreOnce, EachRead, IsUniform, StayWithin, both_columns, columns_had}
use Rattle.plan.proofs.Among.{AreAmong}
use Rattle.plan.proofs.CarriedConds.{both}
use Rattle.plan.proofs.CutColumns.{cut_columns, cut_to, sorted_once}
use Rattle.plan.proofs.Fetched.{IsAmong}
use Rattle.plan.proofs.InCatalogue.{is_in, leaves_over}
use Rattle.plan.proofs.Places.{width_more}

-- the plans of a list that is put together, apart
apart : (P : Shape → Type 0) (plans others : List Shape) → AllByRecursion P (plans ++ others) → AllByRecursion P plans × AllByRecursion P others
apart P [] others all = (tt, all)
apart P (plan ∷ plans) others all = let rest = apart P plans others all.1 in ((all.0, rest.0), rest.1)

-- the columns of a plan, if it can have a row, are these
abbrev AreOwn : List ℕ → Option (List ℕ) → Type 0
AreOwn own None = Unit {0}
AreOwn own (Some columns) = columns ≡ own

agree : (own : List ℕ) (one other : Option (List ℕ)) → AreOwn own one → AreOwn own other → Agree one other
agree own None other is are = tt
agree own (Some columns) None is are = tt
agree own (Some columns) (Some others) is are = is ∙ sym are

own_either : (own : List ℕ) (one other : Option (List ℕ)) → AreOwn own one → AreOwn own other → AreOwn own (option_or one other)
own_either own None other is are = are
own_either own (Some columns) other is are = is

-- a leaf that has some columns has these when it is cut to them
record IsCut (columns own : List ℕ) (leaf : FragmentLeaf) : Type 0 where
  key : slice_get leaf.columns 0 ≡ Some 0
  alone : AreOnce leaf.columns
  left : list_all (has leaf.columns) columns ≡ true → filter (is_seen columns) leaf.columns ≡ own

cuts_to : (sites : List (List ℕ)) (types : List Kind) (columns : List ℕ) (leaves : List FragmentLeaf) → AllByRecursion (IsLeafOver sites types) leaves → AllByRecursion (IsCut columns (cut_columns columns (length types))) leaves
cuts_to sites types columns [] over = tt
cuts_to sites types columns (leaf ∷ leaves) over = (
  record {
    key = over.0.first;
    alone = sorted_once leaf.columns over.0.ascending;
    left = λ h. cut_to columns leaf.columns (length types) over.0.first over.0.ascending over.0.columns h;
  },
  cuts_to sites types columns leaves over.1,
)

-- a plan without the other reads is uniform, with these columns
abbrev IsUniformOn : (Leaf → Bool) → List ℕ → Shape → Type 0
IsUniformOn passes own plan = IsUniform (reduced passes plan) × AreOwn own (columns_had (reduced passes plan))

covers_uniform : (passes : Leaf → Bool) (need : Need) (columns own : List ℕ) (leaves : List FragmentLeaf) → AllByRecursion (IsCut columns own) leaves → AllByRecursion (IsUniformOn passes own) (covers need columns leaves)
covers_uniform passes need columns own [] cuts = tt
covers_uniform passes need columns own (leaf ∷ leaves) cuts = at (reaches need columns leaf) refl (covers_uniform passes need columns own leaves cuts.1)
  where
    cut : FragmentLeaf → Shape
    cut one = Project columns (Fetch (fetch_of need one))

    read : (t : Bool) → filter (is_seen columns) leaf.columns ≡ own → IsUniform (Project columns (cond t (Fetch (fetch_of need leaf)) Empty)) × AreOwn own (columns_had (Project columns (cond t (Fetch (fetch_of need leaf)) Empty)))
    read true left = ((cuts.0.key, cuts.0.alone), left)
    read false left = (tt, tt)

    at : (t : Bool) → reaches need columns leaf ≡ t → AllByRecursion (IsUniformOn passes own) (covers need columns leaves) →
        AllByRecursion (IsUniformOn passes own) (map cut (cond t (leaf ∷ filter (reaches need columns) leaves) (filter (reaches need columns) leaves)))
    at true is more = (read (passes leaf.name) (cuts.0.left (both (wanted need.columns leaf.steps) (list_all (has leaf.columns) columns) is).1), more)
    at false is more = more

union_uniform : (passes : Leaf → Bool) (own : List ℕ) (plan : Shape) → AllByRecursion (IsUniformOn passes own) (united plan) → IsUniformOn passes own plan
union_uniform passes own Empty all = (tt, tt)
union_uniform passes own (Fetch read) all = all.0
union_uniform passes own (Filter conds below) all = all.0
union_uniform passes own (Project columns below) all = all.0
union_uniform passes own (Union one other) all =
    let each = apart (IsUniformOn passes own) (united one) (united other) all in
    let here = union_uniform passes own one each.0 in
    let there = union_uniform passes own other each.1 in
    let had = columns_had (reduced passes one) in
    let had_other = columns_had (reduced passes other) in
    ((here.0, there.0, agree own had had_other here.1 there.1), own_either own had had_other here.1 there.1)
union_uniform passes own (KeyJoin one other) all = all.0
union_uniform passes own (Lookup col width left right) all = all.0

cover_uniform : (passes : Leaf → Bool) (need : Need) (columns own : List ℕ) (leaves : List FragmentLeaf) (plan : Shape) → AllByRecursion (IsCut columns own) leaves → united plan ≡ covers need columns leaves → IsUniform (reduced passes plan)
cover_uniform passes need columns own leaves plan cuts is =
    let P : List Shape → Type 0 = AllByRecursion (IsUniformOn passes own) in
    (union_uniform passes own plan (subst P (sym is) (covers_uniform passes need columns own leaves cuts))).0

groups_uniform : (sites : List (List ℕ)) (types : List Kind) (passes : Leaf → Bool) (need : Need) (leaves : List FragmentLeaf) (groups : List (List ℕ)) (plan : Shape) → AllByRecursion (IsLeafOver sites types) leaves → IsByGroups need leaves groups plan →
    IsUniform (reduced passes plan)
groups_uniform sites types passes need leaves [] plan over is = cover_uniform passes need [] (cut_columns [] (length types)) leaves plan (cuts_to sites types [] leaves over) is
groups_uniform sites types passes need leaves (group ∷ []) plan over is = cover_uniform passes need group (cut_columns group (length types)) leaves plan (cuts_to sites types group leaves over) is
groups_uniform sites types passes need leaves (group ∷ next ∷ groups) plan over (one, other, is, here, beyond) =
    let P : Shape → Type 0 = λ p. IsUniform (reduced passes p) in
    subst P (sym is) (cover_uniform passes need group (cut_columns group (length types)) leaves one (cuts_to sites types group leaves over) here, groups_uniform sites types passes need leaves (next ∷ groups) other over beyond)

columns_uniform : (sites : List (List ℕ)) (types : List Kind) (passes : Leaf → Bool) (need : Need) (leaves : List FragmentLeaf) (columns : List ℕ) (plan : Shape) → AllByRecursion (IsLeafOver sites types) leaves → IsByColumns need leaves columns plan →
    IsUniform (reduced passes plan)
columns_uniform sites types passes need leaves columns plan over (groups, are, is) = groups_uniform sites types passes need leaves groups plan over is

-- the columns of a side are below the number of columns of its relation

abbrev AreWithin : ℕ → Option (List ℕ) → Type 0
AreWithin bound None = Unit {0}
AreWithin bound (Some columns) = AllByRecursion (λ col. col < bound) columns

passed : (test : ℕ → Bool) (bound : ℕ) (columns : List ℕ) → AllByRecursion (λ col. col < bound) columns → AllByRecursion (λ col. col < bound) (filter test columns)
passed test bound [] below = tt
passed test bound (col ∷ columns) below = at (test col) (passed test bound columns below.1)
  where
    at : (t : Bool) → AllByRecursion (λ other. other < bound) (filter test columns) → AllByRecursion (λ other. other < bound) (cond t (col ∷ filter test columns) (filter test columns))
    at true more = (below.0, more)
    at false more = more

joined : (bound : ℕ) (columns others : List ℕ) → AllByRecursion (λ col. col < bound) columns → AllByRecursion (λ col. col < bound) others → AllByRecursion (λ col. col < bound) (columns ++ others)
joined bound [] others below more = more
joined bound (col ∷ columns) others below more = (below.0, joined bound columns others below.1 more)

both_within : (bound : ℕ) (one other : Option (List ℕ)) → AreWithin bound one → AreWithin bound other → AreWithin bound (both_columns one other)
both_within bound None other below more = tt
both_within bound (Some columns) None below more = tt
both_within bound (Some columns) (Some others) below more = joined bound columns (filter (λ col. not (has columns col)) others) below (passed (λ col. not (has columns col)) bound others more)

within_either : (bound : ℕ) (one other : Option (List ℕ)) → AreWithin bound one → AreWithin bound other → AreWithin bound (option_or one other)
within_either bound None other below more = more
within_either bound (Some columns) other below more = below

abbrev IsWithin : (Leaf → Bool) → ℕ → Shape → Type 0
IsWithin passes bound plan = AreWithin bound (columns_had (reduced passes plan))

covers_within : (sites : List (List ℕ)) (types : List Kind) (passes : Leaf → Bool) (need : Need) (columns : List ℕ) (leaves : List FragmentLeaf) → AllByRecursion (IsLeafOver sites types) leaves → AllByRecursion (IsWithin passes (length types)) (covers need columns leaves)
covers_within sites types passes need columns [] over = tt
covers_within sites types passes need columns (leaf ∷ leaves) over = at (reaches need columns leaf) (covers_within sites types passes need columns leaves over.1)
  where
    cut : FragmentLeaf → Shape
    cut one = Project columns (Fetch (fetch_of need one))

    read : (t : Bool) → AreWithin (length types) (columns_had (Project columns (cond t (Fetch (fetch_of need leaf)) Empty)))
    read true = passed (is_seen columns) (length types) leaf.columns over.0.columns
    read false = tt

    at : (t : Bool) → AllByRecursion (IsWithin passes (length types)) (covers need columns leaves) →
        AllByRecursion (IsWithin passes (length types)) (map cut (cond t (leaf ∷ filter (reaches need columns) leaves) (filter (reaches need columns) leaves)))
    at true more = (read (passes leaf.name), more)
    at false more = more

union_within : (passes : Leaf → Bool) (bound : ℕ) (plan : Shape) → AllByRecursion (IsWithin passes bound) (united plan) → IsWithin passes bound plan
union_within passes bound Empty all = tt
union_within passes bound (Fetch read) all = all.0
union_within passes bound (Filter conds below) all = all.0
union_within passes bound (Project columns below) all = all.0
union_within passes bound (Union one other) all =
    let each = apart (IsWithin passes bound) (united one) (united other) all in
    within_either bound (columns_had (reduced passes one)) (columns_had (reduced passes other)) (union_within passes bound one each.0) (union_within passes bound other each.1)
union_within passes bound (KeyJoin one other) all = all.0
union_within passes bound (Lookup col width left right) all = all.0

cover_within : (sites : List (List ℕ)) (types : List Kind) (passes : Leaf → Bool) (need : Need) (columns : List ℕ) (leaves : List FragmentLeaf) (plan : Shape) → AllByRecursion (IsLeafOver sites types) leaves → united plan ≡ covers need columns leaves →
    IsWithin passes (length types) plan
cover_within sites types passes need columns leaves plan over is =
    let P : List Shape → Type 0 = AllByRecursion (IsWithin passes (length types)) in
    union_within passes (length types) plan (subst P (sym is) (covers_within sites types passes need columns leaves over))

groups_within : (sites : List (List ℕ)) (types : List Kind) (passes : Leaf → Bool) (need : Need) (leaves : List FragmentLeaf) (groups : List (List ℕ)) (plan : Shape) → AllByRecursion (IsLeafOver sites types) leaves → IsByGroups need leaves groups plan →
    IsWithin passes (length types) plan
groups_within sites types passes need leaves [] plan over is = cover_within sites types passes need [] leaves plan over is
groups_within sites types passes need leaves (group ∷ []) plan over is = cover_within sites types passes need group leaves plan over is
groups_within sites types passes need leaves (group ∷ next ∷ groups) plan over (one, other, is, here, beyond) =
    let P : Shape → Type 0 = IsWithin passes (length types) in
    subst P (sym is) (both_within (length types) (columns_had (reduced passes one)) (columns_had (reduced passes other)) (cover_within sites types passes need group leaves one over here)
    (groups_within sites types passes need leaves (next ∷ groups) other over beyond))

columns_within : (sites : List (List ℕ)) (types : List Kind) (passes : Leaf → Bool) (need : Need) (leaves : List FragmentLeaf) (columns : List ℕ) (plan : Shape) → AllByRecursion (IsLeafOver sites types) leaves → IsByColumns need leaves columns plan →
    IsWithin passes (length types) plan
columns_within sites types passes need leaves columns plan over (groups, are, is) = groups_within sites types passes need leaves groups plan over is

stays : (width bound : ℕ) (had : Option (List ℕ)) → width ≤ 48 → bound ≤ 16 → AreWithin bound had → StayWithin width had
stays width bound None narrow few below = tt
stays width bound (Some columns) narrow few below = all columns below
  where
    all : (cols : List ℕ) → AllByRecursion (λ col. col < bound) cols → AllByRecursion (λ col. width + col < 18446744073709551616) cols
    all [] h = tt
    all (col ∷ cols) h = let here = h.0 in (omega (arith, narrow, few, here), all cols h.1)

-- further relations are looked up
looked_uniform : (catalogue : Catalogue) (passes : Leaf → Bool) (links : List Link) (needs : List Need) (left plan : Shape) → IsFormed catalogue → AllByRecursion (λ link. link.key ≤ 48) links → IsOfJoined catalogue links needs left plan → IsUniform (reduced passes left) → IsUniform (reduced passes plan)
looked_uniform catalogue passes [] needs left plan formed narrow is uniform = subst (λ p. IsUniform (reduced passes p)) (sym is) uniform
looked_uniform catalogue passes (link ∷ links) [] left plan formed narrow is uniform = subst (λ p. IsUniform (reduced passes p)) (sym is) uniform
looked_uniform catalogue passes (link ∷ links) (need ∷ needs) left plan formed narrow (right, is_right, more) uniform =
    let there = leaves_over catalogue need.relation formed in
    looked_uniform catalogue passes links needs (Lookup link.place link.key left right) plan formed narrow.1 more (
      uniform,
      columns_uniform catalogue.sites (kinds_in catalogue need.relation) passes need (leaves_of catalogue need.relation) (once need.columns) right there.0 is_right,
      stays link.key (length (kinds_in catalogue need.relation)) (columns_had (reduced passes right)) narrow.0 there.1
          (columns_within catalogue.sites (kinds_in catalogue need.relation) passes need (leaves_of catalogue need.relation) (once need.columns) right there.0 is_right),
    )

needs_uniform : (catalogue : Catalogue) (links : List Link) (wants : List Need) (passes : Leaf → Bool) (plan : Shape) → IsFormed catalogue → AllByRecursion (λ link. link.key ≤ 48) links → IsOfNeeds catalogue links wants plan → IsUniform (reduced passes plan)
needs_uniform catalogue links [] passes plan formed narrow is = subst (λ p. IsUniform (reduced passes p)) (sym is) tt
needs_uniform catalogue links (need ∷ needs) passes plan formed narrow (left, is_left, is) =
    looked_uniform catalogue passes links needs left plan formed narrow is
    (columns_uniform catalogue.sites (kinds_in catalogue need.relation) passes need (leaves_of catalogue need.relation) (once need.columns) left (leaves_over catalogue need.relation formed).0 is_left)

-- few columns stand before a joined relation
few_columns : (catalogue : Catalogue) (source : Source) (schema : RelationSchema) → IsFormed catalogue → IsValidCatalogue catalogue → meaning.relation_named source.name (schemas_of catalogue) ≡ Some schema → source.columns ≡ names_of schema → length source.columns ≤ 16
few_columns catalogue source schema formed valid there names =
    let found = is_in catalogue source.name schema formed valid there in
    let few = found.formed.few in
    let same : length found.relation.schema.columns ≡ length schema.columns = ap (λ (s : RelationSchema). length s.columns) found.same in
    let wide : length source.columns ≡ length schema.columns = ap length names ∙ length-map schema.columns (λ c. c.name) in
    omega (arith, few, same, wide)

narrow_behind : (catalogue : Catalogue) (earlier : List (List ℕ)) (before : List Kind) (joins : List Join) (types : List Kind) (widths : List ℕ) (limit : ℕ) → IsFormed catalogue → IsValidCatalogue catalogue → AreJoinsOf (schemas_of catalogue) earlier before joins types → width_of widths + 16 * length joins ≤ limit →
    AllByRecursion (λ link. link.key ≤ limit) (links_behind widths joins)
narrow_behind catalogue earlier before [] types widths limit formed valid is few = tt
narrow_behind catalogue earlier before (join ∷ joins) types widths limit formed valid (other, join_is, more) few =
    let wide = few_columns catalogue join.relation other formed valid join_is.there join_is.names in
    let sum = width_more widths (length join.relation.columns) in (
      omega (arith, few),
      narrow_behind catalogue (earlier ++ other.name ∷ []) (before ++ kinds_of other) joins types (widths ++ length join.relation.columns ∷ []) limit formed valid more (omega (arith, few, wide, sum)),
    )

narrow_links : (catalogue : Catalogue) (statement : Statement) → IsFormed catalogue → IsValidCatalogue catalogue → IsStatementOf (schemas_of catalogue) statement → AllByRecursion (λ link. link.key ≤ 48) (needs statement).links
narrow_links catalogue (statement.Select select) formed valid of =
    let wide = few_columns catalogue select.from of.relation formed valid of.there of.names in
    let joins = of.few_joins in
    narrow_behind catalogue (of.relation.name ∷ []) (kinds_of of.relation) select.joins of.types (length select.from.columns ∷ []) 48 formed valid of.joins (omega (arith, wide, joins))
narrow_links catalogue (statement.Insert insert) formed valid of = tt
narrow_links catalogue (statement.Update update) formed valid of = tt
narrow_links catalogue (statement.Delete delete) formed valid of = tt
narrow_links catalogue (statement.Refragment refragment) formed valid of = tt

pub plan_uniform : (catalogue : Catalogue) (statement : Statement) (passes : Leaf → Bool) (plan : Shape) → IsFormed catalogue → IsValidCatalogue catalogue → IsStatementOf (schemas_of catalogue) statement → IsLocated catalogue statement plan →
    IsUniform (reduced passes plan)
plan_uniform catalogue statement passes plan formed valid of (below, is, is_below) =
    let P : Shape → Type 0 = λ p. IsUniform (reduced passes p) in
    subst P (sym is) (needs_uniform catalogue (needs statement).links (needs statement).relations passes below formed (narrow_links catalogue statement formed valid of) is_below)

-- each read of the plan is one of the fetches

abbrev Reads : List fetch.Fetch → Shape → Type 0
Reads fetches plan = EachRead (λ read. Contains fetches read) (reduced (is_fetched fetches) plan)

covers_read : (fetches : List fetch.Fetch) (need : Need) (columns : List ℕ) (leaves : List FragmentLeaf) → AllByRecursion (IsAmong need fetches) leaves → AllByRecursion (Reads fetches) (covers need columns leaves)
covers_read fetches need columns [] there = tt
covers_read fetches need columns (leaf ∷ leaves) there = at (reaches need columns leaf) (covers_read fetches need columns leaves there.1)
  where
    cut : FragmentLeaf → Shape
    cut one = Project columns (Fetch (fetch_of need one))

    read : (t : Bool) → is_fetched fetches leaf.name ≡ t → EachRead (λ read. Contains fetches read) (Project columns (cond t (Fetch (fetch_of need leaf)) Empty))
    read true is = there.0 is
    read false is = tt

    at : (t : Bool) → AllByRecursion (Reads fetches) (covers need columns leaves) → AllByRecursion (Reads fetches) (map cut (cond t (leaf ∷ filter (reaches need columns) leaves) (filter (reaches need columns) leaves)))
    at true more = (read (is_fetched fetches leaf.name) refl, more)
    at false more = more

union_reads : (fetches : List fetch.Fetch) (plan : Shape) → AllByRecursion (Reads fetches) (united plan) → Reads fetches plan
union_reads fetches Empty all = tt
union_reads fetches (Fetch read) all = all.0
union_reads fetches (Filter conds below) all = all.0
union_reads fetches (Project columns below) all = all.0
union_reads fetches (Union one other) all =
    let each = apart (Reads fetches) (united one) (united other) all in
    (union_reads fetches one each.0, union_reads fetches other each.1)
union_reads fetches (KeyJoin one other) all = all.0
union_reads fetches (Lookup col width left right) all = all.0

cover_reads : (fetches : List fetch.Fetch) (need : Need) (columns : List ℕ) (leaves : List FragmentLeaf) (plan : Shape) → AllByRecursion (IsAmong need fetches) leaves → united plan ≡ covers need columns leaves → Reads fetches plan
cover_reads fetches need columns leaves plan there is =
    let P : List Shape → Type 0 = AllByRecursion (Reads fetches) in
    union_reads fetches plan (subst P (sym is) (covers_read fetches need columns leaves there))

groups_read_all : (fetches : List fetch.Fetch) (need : Need) (leaves : List FragmentLeaf) (groups : List (List ℕ)) (plan : Shape) → AllByRecursion (IsAmong need fetches) leaves → IsByGroups need leaves groups plan → Reads fetches plan
groups_read_all fetches need leaves [] plan there is = cover_reads fetches need [] leaves plan there is
groups_read_all fetches need leaves (group ∷ []) plan there is = cover_reads fetches need group leaves plan there is
groups_read_all fetches need leaves (group ∷ next ∷ groups) plan there (one, other, is, here, beyond) =
    let P : Shape → Type 0 = Reads fetches in
    subst P (sym is) (cover_reads fetches need group leaves one there here, groups_read_all fetches need leaves (next ∷ groups) other there beyond)

columns_read_all : (fetches : List fetch.Fetch) (need : Need) (leaves : List FragmentLeaf) (columns : List ℕ) (plan : Shape) → AllByRecursion (IsAmong need fetches) leaves → IsByColumns need leaves columns plan → Reads fetches plan
columns_read_all fetches need leaves columns plan there (groups, are, is) = groups_read_all fetches need leaves groups plan there is

looked_read : (catalogue : Catalogue) (links : List Link) (needs : List Need) (fetches : List fetch.Fetch) (left plan : Shape) → AreAmong catalogue fetches needs → IsOfJoined catalogue links needs left plan → Reads fetches left → Reads fetches plan
looked_read catalogue [] needs fetches left plan there is reads = subst (Reads fetches) (sym is) reads
looked_read catalogue (link ∷ links) [] fetches left plan there is reads = subst (Reads fetches) (sym is) reads
looked_read catalogue (link ∷ links) (need ∷ needs) fetches left plan there (right, is_right, more) reads =
    looked_read catalogue links needs fetches (Lookup link.place link.key left right) plan there.1 more
    (reads, columns_read_all fetches need (leaves_of catalogue need.relation) (once need.columns) right there.0 is_right)

needs_read : (catalogue : Catalogue) (links : List Link) (wants : List Need) (fetches : List fetch.Fetch) (plan : Shape) → AreAmong catalogue fetches wants → IsOfNeeds catalogue links wants plan → Reads fetches plan
needs_read catalogue links [] fetches plan there is = subst (Reads fetches) (sym is) tt
needs_read catalogue links (need ∷ needs) fetches plan there (left, is_left, is) =
    looked_read catalogue links needs fetches left plan there.1 is (columns_read_all fetches need (leaves_of catalogue need.relation) (once need.columns) left there.0 is_left)

pub plan_reads : (catalogue : Catalogue) (statement : Statement) (fetches : List fetch.Fetch) (plan : Shape) → AreAmong catalogue fetches (needs statement).relations → IsLocated catalogue statement plan → Reads fetches plan
plan_reads catalogue statement fetches plan there (below, is, is_below) =
    let P : Shape → Type 0 = Reads fetches in
    subst P (sym is) (needs_read catalogue (needs statement).links (needs statement).relations fetches below there is_below)
