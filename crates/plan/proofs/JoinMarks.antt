-- Where all that a statement asks holds of a row of joined relations, each relation's row in it is fetched.
use Rattle.std.proofs.Common.{◌≡◌, ℕ, suc, ◌+◌, ℤ, ◌==◌, ◌&&◌, Bool, true, false, cond, List, [], ◌∷◌, Option, Some, None, option_map, refl, ap, sym, ◌∙◌, subst, arith}
use Rattle.std.proofs.lemmas.Bool.Decides.{nat_tests}
use Rattle.std.specs.List.{AllByRecursion, cons_option, filter_map, slice_get}
use Rattle.terms.specs.declared.leaf.Leaf.{Leaf}
use Rattle.terms.specs.declared.value.Kind.{Kind}
use Rattle.terms.specs.declared.value.Value.{Value}
use Rattle.terms.specs.declared.value.Value.TheVariants.{Int}
use Rattle.terms.specs.Cond.{conds_hold}
use Rattle.terms.specs.Row.{FitsKinds, key_of}
use Rattle.meaning.specs.Schema.{kinds_of}
use Rattle.meaning.specs.Whole.{Relations, rows_of}
use Rattle.catalog.specs.declared.fragment_leaf.FragmentLeaf.{FragmentLeaf}
use Rattle.catalog.specs.Catalogue.{Catalogue}
use Rattle.catalog.specs.Cover.{OneServes, SomeServes}
use Rattle.catalog.specs.Keyed.{row_at}
use Rattle.catalog.specs.Path.{columns_beside_key, paths, wanted}
use Rattle.plan.specs.declared.link.Link.{Link}
use Rattle.plan.specs.declared.need.Need.{Need}
use Rattle.plan.specs.declared.need.Needs.{Needs}
use Rattle.plan.specs.Located.{IsByColumns, IsOfNeed, once}
use Rattle.plan.specs.Reduced.{reduced}
use Rattle.plan.specs.Rows.{rows}
use Rattle.plan.specs.Shape.{Shape}
use Rattle.plan.specs.Stated.{ByColumn, ByKey, IsStatedBy, MeetsBy, Tie, kinds_in, leaves_of, tie_of, ties_of}
use Rattle.plan.proofs.CarriedConds.{and_true}
use Rattle.plan.proofs.InCatalogue.{kinds_are}
use Rattle.plan.proofs.JoinAsked.{IsAsked}
use Rattle.plan.proofs.Joining.{Each, each_at}
use Rattle.plan.proofs.LeafReads.{gives_row}
use Rattle.plan.proofs.Marks.{AreMarkedFrom}
use Rattle.plan.proofs.Meeting.{ServesAmong, conds_joined, served_among}
use Rattle.plan.proofs.OneFound.{AreMarked}
use Rattle.plan.proofs.OneSide.{IsMarkedFor, IsSide, all_at, side_none, side_row, side_there}
use Rattle.plan.proofs.RowsOf.{covered_all, one_seen}
use Rattle.plan.proofs.SideOf.{leaves_same}
use Rattle.plan.proofs.StatementFits.{IsNeedOf}

-- a need over a whole database, of which the fetched leaves give contents
pub record IsGiven (catalogue : Catalogue) (whole : Relations) (marked : Leaf → Bool) (contents : Leaf → List (List Value)) (need : Need) : Type 0 where
  pub of : IsNeedOf catalogue need
  pub side : IsSide (kinds_of of.schema) of.found.relation.tree need of.found.relation.schema.name marked contents (rows_of whole need.relation)

-- a row that its relation has at some key
pub record IsPart (catalogue : Catalogue) (whole : Relations) (marked : Leaf → Bool) (contents : Leaf → List (List Value)) (need : Need) (row : List Value) : Type 0 where
  pub given : IsGiven catalogue whole marked contents need
  pub key : ℤ
  pub at : row_at key (rows_of whole need.relation) ≡ Some row

-- whether the fetched leaves have it
abbrev pub is_there : Catalogue → (Leaf → Bool) → Need → List Value → Bool
is_there catalogue marked need row = covered_all need (gives_row marked need row) (leaves_of catalogue need.relation) (once need.columns)

abbrev pub are_there : Catalogue → (Leaf → Bool) → List Need → List (List Value) → Bool
are_there catalogue marked [] rows = true
are_there catalogue marked (need ∷ needs) [] = true
are_there catalogue marked (need ∷ needs) (row ∷ rows) = is_there catalogue marked need row && are_there catalogue marked needs rows

-- rows of two of the relations are joined by an ON
pub record Holds (parts : List (List Value)) (link : Link) : Type 0 where
  pub one : List Value
  pub other : List Value
  pub from : slice_get parts link.from ≡ Some one
  pub joined : slice_get parts link.joined ≡ Some other
  pub same : slice_get one link.col ≡ Some (Int (key_of other))

pub part_fits : (catalogue : Catalogue) (whole : Relations) (marked : Leaf → Bool) (contents : Leaf → List (List Value)) (need : Need) (row : List Value) (part : IsPart catalogue whole marked contents need row) → FitsKinds (kinds_of part.given.of.schema) row
part_fits catalogue whole marked contents need row part = all_at (FitsKinds (kinds_of part.given.of.schema)) part.key (rows_of whole need.relation) row part.given.side.whole.fit part.at

-- the plan of a need has its rows
pub part_row : (catalogue : Catalogue) (whole : Relations) (marked : Leaf → Bool) (contents : Leaf → List (List Value)) (need : Need) (row : List Value) (key : ℤ) (plan : Shape) → IsOfNeed catalogue need plan → IsGiven catalogue whole marked contents need → row_at key (rows_of whole need.relation) ≡ Some row →
    rows (reduced marked plan) contents key ≡ one_seen (is_there catalogue marked need row) need.columns row
part_row catalogue whole marked contents need row key plan is given at =
    let of = given.of in
    let same = leaves_same catalogue need.relation of.schema of.found in
    let By : List FragmentLeaf → Type 0 = λ leaves. IsByColumns need leaves (once need.columns) plan in
    side_row (kinds_of of.schema) of.found.relation.tree need of.found.relation.schema.name marked contents (rows_of whole need.relation) key row plan (subst By same is) given.side at
    ∙ ap (λ (leaves : List FragmentLeaf). one_seen (covered_all need (gives_row marked need row) leaves (once need.columns)) need.columns row) (sym same)

pub part_none : (catalogue : Catalogue) (whole : Relations) (marked : Leaf → Bool) (contents : Leaf → List (List Value)) (need : Need) (key : ℤ) (plan : Shape) → IsOfNeed catalogue need plan → IsGiven catalogue whole marked contents need → row_at key (rows_of whole need.relation) ≡ None →
    rows (reduced marked plan) contents key ≡ None
part_none catalogue whole marked contents need key plan is given at =
    let of = given.of in
    let By : List FragmentLeaf → Type 0 = λ leaves. IsByColumns need leaves (once need.columns) plan in
    side_none (kinds_of of.schema) of.found.relation.tree need of.found.relation.schema.name marked contents (rows_of whole need.relation) key plan (subst By (leaves_same catalogue need.relation of.schema of.found) is) given.side at

-- some wanted leaf serves a row
serving : (catalogue : Catalogue) (whole : Relations) (marked : Leaf → Bool) (contents : Leaf → List (List Value)) (need : Need) (row : List Value) → SomeServes → IsPart catalogue whole marked contents need row → ServesAmong (leaves_of catalogue need.relation) need.columns row
serving catalogue whole marked contents need row cover part =
    let of = part.given.of in
    let tree = of.found.relation.tree in
    let types = kinds_of of.schema in
    let Among : List FragmentLeaf → Type 0 = λ leaves. ServesAmong leaves need.columns row in
    subst Among (sym (leaves_same catalogue need.relation of.schema of.found))
    (served_among of.found.relation.schema.name (columns_beside_key types) 1 (paths tree) need.columns row (cover types tree need.columns row part.given.side.valid (part_fits catalogue whole marked contents need row part)))

fits_in : (catalogue : Catalogue) (whole : Relations) (marked : Leaf → Bool) (contents : Leaf → List (List Value)) (need : Need) (row : List Value) → IsPart catalogue whole marked contents need row → FitsKinds (kinds_in catalogue need.relation) row
fits_in catalogue whole marked contents need row part =
    let Fit : List Kind → Type 0 = λ types. FitsKinds types row in
    subst Fit (sym (kinds_are catalogue need.relation part.given.of.schema part.given.of.found)) (part_fits catalogue whole marked contents need row part)

-- rows that an ON joins make a leaf of the one meet a leaf of the other
by_column : (catalogue : Catalogue) (whole : Relations) (marked : Leaf → Bool) (contents : Leaf → List (List Value)) (need other : Need) (row beyond : List Value) (col : ℕ) (leaf : FragmentLeaf) → SomeServes → IsPart catalogue whole marked contents need row → IsPart catalogue whole marked contents other beyond →
    IsAsked need row → IsAsked other beyond → slice_get row col ≡ Some (Int (key_of beyond)) → wanted need.columns leaf.steps ≡ true → conds_hold leaf.conds row ≡ true → MeetsBy catalogue need leaf (ByColumn col other)
by_column catalogue whole marked contents need other row beyond col leaf cover part part_beyond asked asked_beyond same want holds =
    let among = serving catalogue whole marked contents other beyond cover part_beyond in
    record {
      other_leaf = among.leaf;
      there = among.there;
      meet = record {
        row = row;
        other = beyond;
        serves = record { is_wanted = want; fits = fits_in catalogue whole marked contents need row part; holds = conds_joined leaf.conds need.conds row holds asked };
        serves_other = record { is_wanted = among.is_wanted; fits = fits_in catalogue whole marked contents other beyond part_beyond; holds = conds_joined among.leaf.conds other.conds beyond among.holds asked_beyond };
        joined = same;
      };
    }

by_key : (catalogue : Catalogue) (whole : Relations) (marked : Leaf → Bool) (contents : Leaf → List (List Value)) (need other : Need) (row beyond : List Value) (col : ℕ) (leaf : FragmentLeaf) → SomeServes → IsPart catalogue whole marked contents need row → IsPart catalogue whole marked contents other beyond →
    IsAsked need row → IsAsked other beyond → slice_get beyond col ≡ Some (Int (key_of row)) → wanted need.columns leaf.steps ≡ true → conds_hold leaf.conds row ≡ true → MeetsBy catalogue need leaf (ByKey col other)
by_key catalogue whole marked contents need other row beyond col leaf cover part part_beyond asked asked_beyond same want holds =
    let among = serving catalogue whole marked contents other beyond cover part_beyond in
    record {
      leaf = among.leaf;
      there = among.there;
      meet = record {
        row = beyond;
        other = row;
        serves = record { is_wanted = among.is_wanted; fits = fits_in catalogue whole marked contents other beyond part_beyond; holds = conds_joined among.leaf.conds other.conds beyond among.holds asked_beyond };
        serves_other = record { is_wanted = want; fits = fits_in catalogue whole marked contents need row part; holds = conds_joined leaf.conds need.conds row holds asked };
        joined = same;
      };
    }

-- rows of all relations that are joined and meet their needs
pub record AreMet (catalogue : Catalogue) (whole : Relations) (marked : Leaf → Bool) (contents : Leaf → List (List Value)) (all : Needs) (parts : List (List Value)) : Type 0 where
  pub are : Each (IsPart catalogue whole marked contents) all.relations parts
  pub asked : Each IsAsked all.relations parts
  pub links : AllByRecursion (Holds parts) all.links

meets_one : (catalogue : Catalogue) (whole : Relations) (marked : Leaf → Bool) (contents : Leaf → List (List Value)) (needs : List Need) (parts : List (List Value)) (number : ℕ) (need : Need) (row : List Value) (leaf : FragmentLeaf) (link : Link) → SomeServes →
    Each (IsPart catalogue whole marked contents) needs parts → Each IsAsked needs parts → Holds parts link → slice_get needs number ≡ Some need → slice_get parts number ≡ Some row →
    wanted need.columns leaf.steps ≡ true → conds_hold leaf.conds row ≡ true → (rest : List Tie) → AllByRecursion (MeetsBy catalogue need leaf) rest → AllByRecursion (MeetsBy catalogue need leaf) (cons_option (tie_of needs number link) rest)
meets_one catalogue whole marked contents needs parts number need row leaf link cover all asked holds is at want held rest more = from (link.from == number) refl
  where
    part : IsPart catalogue whole marked contents need row
    part = each_at (IsPart catalogue whole marked contents) needs parts number need row all is at

    own : IsAsked need row
    own = each_at IsAsked needs parts number need row asked is at

    All : List Tie → Type 0
    All = AllByRecursion (MeetsBy catalogue need leaf)

    to : (found : Option Need) → slice_get needs link.joined ≡ found → link.from ≡ number → All (cons_option (option_map (ByColumn link.col) found) rest)
    to None none here = more
    to (Some other) there here =
        let At : ℕ → Type 0 = λ n. slice_get parts n ≡ Some holds.one in
        let first : Some row ≡ Some holds.one = sym at ∙ subst At here holds.from in
        let alike : row ≡ holds.one = cc in (
          by_column catalogue whole marked contents need other row holds.other link.col leaf cover part
              (each_at (IsPart catalogue whole marked contents) needs parts link.joined other holds.other all there holds.joined) own
              (each_at IsAsked needs parts link.joined other holds.other asked there holds.joined) (ap (λ (r : List Value). slice_get r link.col) alike ∙ holds.same) want held,
          more,
        )

    back : (found : Option Need) → slice_get needs link.from ≡ found → link.joined ≡ number → All (cons_option (option_map (ByKey link.col) found) rest)
    back None none here = more
    back (Some other) there here =
        let At : ℕ → Type 0 = λ n. slice_get parts n ≡ Some holds.other in
        let second : Some row ≡ Some holds.other = sym at ∙ subst At here holds.joined in
        let alike : row ≡ holds.other = cc in
        let key : Int (key_of holds.other) ≡ Int (key_of row) = ap (λ (r : List Value). Int (key_of r)) (sym alike) in (
          by_key catalogue whole marked contents need other row holds.one link.col leaf cover part
              (each_at (IsPart catalogue whole marked contents) needs parts link.from other holds.one all there holds.from) own
              (each_at IsAsked needs parts link.from other holds.one asked there holds.from) (holds.same ∙ ap (λ (v : Value). Some v) key) want held,
          more,
        )

    joined : (t : Bool) → (link.joined == number) ≡ t → All (cons_option (cond t (option_map (ByKey link.col) (slice_get needs link.from)) None) rest)
    joined true is_there = back (slice_get needs link.from) refl (grind (arith, nat_tests))
    joined false is_there = more

    from : (t : Bool) → (link.from == number) ≡ t → All (cons_option (cond t (option_map (ByColumn link.col) (slice_get needs link.joined)) (cond (link.joined == number) (option_map (ByKey link.col) (slice_get needs link.from)) None)) rest)
    from true is_there = to (slice_get needs link.joined) refl (grind (arith, nat_tests))
    from false is_there = joined (link.joined == number) refl

meets_all : (catalogue : Catalogue) (whole : Relations) (marked : Leaf → Bool) (contents : Leaf → List (List Value)) (needs : List Need) (parts : List (List Value)) (number : ℕ) (need : Need) (row : List Value) (leaf : FragmentLeaf) (links : List Link) → SomeServes →
    Each (IsPart catalogue whole marked contents) needs parts → Each IsAsked needs parts → AllByRecursion (Holds parts) links → slice_get needs number ≡ Some need → slice_get parts number ≡ Some row →
    wanted need.columns leaf.steps ≡ true → conds_hold leaf.conds row ≡ true → AllByRecursion (MeetsBy catalogue need leaf) (filter_map (tie_of needs number) links)
meets_all catalogue whole marked contents needs parts number need row leaf [] cover all asked holds is at want held = tt
meets_all catalogue whole marked contents needs parts number need row leaf (link ∷ links) cover all asked holds is at want held =
    meets_one catalogue whole marked contents needs parts number need row leaf link cover all asked holds.0 is at want held (filter_map (tie_of needs number) links)
    (meets_all catalogue whole marked contents needs parts number need row leaf links cover all asked holds.1 is at want held)

marked_all : (catalogue : Catalogue) (whole : Relations) (marked : Leaf → Bool) (contents : Leaf → List (List Value)) (all : Needs) (parts : List (List Value)) (number : ℕ) (need : Need) (row : List Value) (leaves : List FragmentLeaf) → SomeServes → AreMet catalogue whole marked contents all parts →
    slice_get all.relations number ≡ Some need → slice_get parts number ≡ Some row → AreMarked (IsStatedBy catalogue need (ties_of all number)) marked leaves → AllByRecursion (IsMarkedFor marked need row) leaves
marked_all catalogue whole marked contents all parts number need row [] cover met is at marks = tt
marked_all catalogue whole marked contents all parts number need row (leaf ∷ leaves) cover met is at marks = (
  λ want held.
      marks.0 (record {
        serves = record {
          row = row;
          serves = record {
            is_wanted = want;
            fits = fits_in catalogue whole marked contents need row (each_at (IsPart catalogue whole marked contents) all.relations parts number need row met.are is at);
            holds = conds_joined leaf.conds need.conds row held (each_at IsAsked all.relations parts number need row met.asked is at);
          };
        };
        meets = meets_all catalogue whole marked contents all.relations parts number need row leaf all.links cover met.are met.asked met.links is at want held;
      }),
  marked_all catalogue whole marked contents all parts number need row leaves cover met is at marks.1,
)

one_there : (catalogue : Catalogue) (whole : Relations) (marked : Leaf → Bool) (contents : Leaf → List (List Value)) (need : Need) (row : List Value) → SomeServes → OneServes → IsPart catalogue whole marked contents need row → IsAsked need row → AllByRecursion (IsMarkedFor marked need row) (leaves_of catalogue need.relation) →
    is_there catalogue marked need row ≡ true
one_there catalogue whole marked contents need row cover one part asked marks =
    let of = part.given.of in
    let same = leaves_same catalogue need.relation of.schema of.found in
    let Marks : List FragmentLeaf → Type 0 = AllByRecursion (IsMarkedFor marked need row) in
    ap (λ (leaves : List FragmentLeaf). covered_all need (gives_row marked need row) leaves (once need.columns)) same
    ∙ side_there (kinds_of of.schema) of.found.relation.tree need of.found.relation.schema.name marked contents (rows_of whole need.relation) part.key row cover one part.given.side part.at asked (subst Marks same marks)

-- those from a number on are there
some_there : (catalogue : Catalogue) (whole : Relations) (marked : Leaf → Bool) (contents : Leaf → List (List Value)) (all : Needs) (parts : List (List Value)) (number : ℕ) (later : List Need) (later_parts : List (List Value)) → SomeServes → OneServes → AreMet catalogue whole marked contents all parts →
    Each (IsPart catalogue whole marked contents) later later_parts → Each IsAsked later later_parts → ((i : ℕ) → (slice_get all.relations (number + i) ≡ slice_get later i) × (slice_get parts (number + i) ≡ slice_get later_parts i)) →
    AreMarkedFrom catalogue all number later marked → are_there catalogue marked later later_parts ≡ true
some_there catalogue whole marked contents all parts number [] later_parts cover one met these asked at marks = refl
some_there catalogue whole marked contents all parts number (need ∷ later) [] cover one met these asked at marks = refl
some_there catalogue whole marked contents all parts number (need ∷ later) (row ∷ later_parts) cover one met these asked at marks =
    let here = at 0 in
    let zero_is : number + 0 ≡ number = omega arith in
    let is : slice_get all.relations number ≡ Some need = ap (slice_get all.relations) (sym zero_is) ∙ here.0 in
    let there : slice_get parts number ≡ Some row = ap (slice_get parts) (sym zero_is) ∙ here.1 in
    and_true (is_there catalogue marked need row) (are_there catalogue marked later later_parts)
    (one_there catalogue whole marked contents need row cover one these.0 asked.0 (marked_all catalogue whole marked contents all parts number need row (leaves_of catalogue need.relation) cover met is there marks.0))
    (some_there catalogue whole marked contents all parts (suc number) later later_parts cover one met these.1 asked.1
    (λ i. let next = at (suc i) in let sum : suc number + i ≡ number + suc i = omega arith in (ap (slice_get all.relations) sum ∙ next.0, ap (slice_get parts) sum ∙ next.1)) marks.1)

pub all_there : (catalogue : Catalogue) (whole : Relations) (marked : Leaf → Bool) (contents : Leaf → List (List Value)) (all : Needs) (parts : List (List Value)) → SomeServes → OneServes → AreMet catalogue whole marked contents all parts → AreMarkedFrom catalogue all 0 all.relations marked →
    are_there catalogue marked all.relations parts ≡ true
all_there catalogue whole marked contents all parts cover one met marks =
    some_there catalogue whole marked contents all parts 0 all.relations parts cover one met met.are met.asked (λ i. let sum : 0 + i ≡ i = omega arith in (ap (slice_get all.relations) sum, ap (slice_get parts) sum)) marks
