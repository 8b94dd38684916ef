-- The needs of a statement of a catalogue's schema: each is of a relation of the catalogue, its columns and conditions fit it, no two are of one relation, and each ON joins two of them.
use Rattle.std.proofs.Common.{◌≡◌, ◌≢◌, ◌<◌, ◌≤◌, ◌+◌, ◌-◌, not, nat_lt, Bool, true, false, cond, ℕ, zero, suc, List, [], ◌∷◌, ◌++◌, length, length-append, map, filter, Option, Some, None, refl, ap, ap₂, sym, ◌∙◌, subst, arith}
use Rattle.std.proofs.lemmas.Bool.Decides.{nat_tests}
use Rattle.std.proofs.lemmas.List.{length-map}
use Rattle.std.proofs.lemmas.Option.{slice_get_within}
use Rattle.std.specs.List.{AllByRecursion, Contains, slice_get}
use Rattle.terms.specs.declared.cond.Cond.{Cond}
use Rattle.terms.specs.declared.value.Kind.{Kind}
use Rattle.terms.specs.declared.value.Kind.TheVariants as kinds
use Rattle.terms.specs.declared.value.Value.{Value}
use Rattle.terms.specs.declared.value.Value.TheVariants.{Int, Text}
use Rattle.terms.specs.Cond.{IsCondOf}
use Rattle.terms.specs.Row.{FitsKinds, key_of}
use Rattle.terms.specs.Value.{Fits}
use Rattle.meaning.specs.declared.schema.RelationSchema.{RelationSchema}
use Rattle.meaning.specs.declared.statement.Join.{Join}
use Rattle.meaning.specs.declared.statement.Select.{Select}
use Rattle.meaning.specs.declared.statement.Source.{Source}
use Rattle.meaning.specs.declared.statement.Statement.{Statement}
use Rattle.meaning.specs.declared.statement.Statement.TheVariants as statement
use Rattle.meaning.specs.Schema as meaning
use Rattle.meaning.specs.Schema.{kinds_of, names_of}
use Rattle.meaning.specs.Statement.{AreJoinsOf, IsSelectOf, IsStatementOf}
use Rattle.catalog.specs.Catalogue.{Catalogue, IsValidCatalogue}
use Rattle.catalog.specs.Formed.{IsFormed}
use Rattle.catalog.specs.FragmentLeaf.{schemas_of}
use Rattle.plan.specs.declared.link.Link.{Link}
use Rattle.plan.specs.declared.need.Need.{Need}
use Rattle.plan.specs.Need.{carried, carried_one, carried_to, columns_read, conds_of, equal_of, is_of, link_of, links_behind, links_of, need_of, needs, needs_behind, needs_of_select, on_column, places_of, places_to, width_of}
use Rattle.plan.specs.Picked.{AreJoined}
use Rattle.plan.specs.Stated.{kinds_in}
use Rattle.plan.proofs.CarriedConds.{both}
use Rattle.plan.proofs.InCatalogue.{IsIn, is_in, kinds_are}
use Rattle.plan.proofs.Joining.{append_more, append_none, count_is, get_last, get_mapped, get_still, lengths, lengths_last, placed, together, together_last}
use Rattle.plan.proofs.NeedsFit.{all_both, get_front, get_past}
use Rattle.plan.proofs.Origins.{AreSame, equal_same}
use Rattle.plan.proofs.Places.{width_more}
use Rattle.plan.proofs.PlacesFit.{to_below}

-- a need of a relation of the catalogue
pub record IsNeedOf (catalogue : Catalogue) (need : Need) : Type 0 where
  pub schema : RelationSchema
  pub found : IsIn catalogue need.relation schema
  pub there : meaning.relation_named need.relation (schemas_of catalogue) ≡ Some schema
  pub needed : AllByRecursion (λ col. col < length (kinds_of schema)) need.columns
  pub conds : AllByRecursion (IsCondOf (kinds_of schema)) need.conds

-- an ON joins two of the needs
pub record LinkFits (catalogue : Catalogue) (needed : List Need) (link : Link) : Type 0 where
  pub one : Need
  pub other : Need
  pub from : slice_get needed link.from ≡ Some one
  pub joined : slice_get needed link.joined ≡ Some other
  pub joins : AreJoined (kinds_in catalogue one.relation) (kinds_in catalogue other.relation) link.col

-- needs of different relations
abbrev pub AreApart : List Need → Type 0
AreApart [] = Unit {0}
AreApart (need ∷ others) = AllByRecursion (λ other. need.relation ≢ other.relation) others × AreApart others

-- among the columns of all relations those of one stand behind so many
abbrev pub StandsAt : {A : Type 0} → List A → ℕ → List A → Type 0
StandsAt all before own = (place : ℕ) → place < length own → slice_get all (before + place) ≡ slice_get own place

pub of_parts : (before width place : ℕ) → is_of before width place ≡ true → (before ≤ place) × (place - before < width)
of_parts before width place is =
    let parts = both (not (nat_lt place before)) (nat_lt (place - before) width) is in
    let one = parts.0 in
    let two = parts.1 in
    (grind (arith, nat_tests), grind (arith, nat_tests))

pub stands : {A : Type 0} (all own : List A) (before width place : ℕ) → width ≡ length own → StandsAt all before own → is_of before width place ≡ true → slice_get own (place - before) ≡ slice_get all place
stands all own before width place wide at is =
    let parts = of_parts before width place is in
    let within = parts.1 in
    let low = parts.0 in
    let sum : before + (place - before) ≡ place = omega (arith, low) in
    let inside : place - before < length own = omega (arith, within, wide) in
    sym (at (place - before) inside) ∙ ap (slice_get all) sum

-- own conditions and carried ones fit, and so do the columns
own_fit : (all own : List Kind) (before width : ℕ) (conds : List Cond) → width ≡ length own → StandsAt all before own → AllByRecursion (IsCondOf all) conds → AllByRecursion (IsCondOf own) (conds_of before width conds)
own_fit all own before width [] wide at fit = tt
own_fit all own before width (c ∷ conds) wide at fit = step (is_of before width c.col) refl (own_fit all own before width conds wide at fit.1)
  where
    others : List Cond
    others = filter (λ d. is_of before width d.col) conds

    step : (t : Bool) → is_of before width c.col ≡ t → AllByRecursion (IsCondOf own) (conds_of before width conds) → AllByRecursion (IsCondOf own) (map (λ d. on_column (d.col - before) d) (cond t (c ∷ others) others))
    step true is more = (record { column = stands all own before width c.col wide at is ∙ fit.0.column; constant = fit.0.constant }, more)
    step false is more = more

carried_fit : (all own : List Kind) (links : List Link) (before width : ℕ) (conds : List Cond) → width ≡ length own → StandsAt all before own → AreSame all links → AllByRecursion (IsCondOf all) conds → AllByRecursion (IsCondOf own) (carried links before width conds)
carried_fit all own links before width [] wide at same fit = tt
carried_fit all own links before width (c ∷ conds) wide at same fit =
    all_both (IsCondOf own) (carried_one links before width c) (carried links before width conds) (step (is_of before width c.col)) (carried_fit all own links before width conds wide at same fit.1)
  where
    to : (found : Option ℕ) → equal_of links before width c.col ≡ found → AllByRecursion (IsCondOf own) (carried_to before c found)
    to None is = tt
    to (Some place) is =
        let equal = equal_same all links before width c.col place same is in
        (record { column = stands all own before width place wide at equal.0 ∙ equal.1 ∙ fit.0.column; constant = fit.0.constant }, tt)

    step : (t : Bool) → AllByRecursion (IsCondOf own) (cond t [] (carried_to before c (equal_of links before width c.col)))
    step true = tt
    step false = to (equal_of links before width c.col) refl

places_fit : (before width : ℕ) (places : List ℕ) → AllByRecursion (λ col. col < width) (places_of before width places)
places_fit before width [] = tt
places_fit before width (place ∷ places) = step (is_of before width place) refl (places_fit before width places)
  where
    others : List ℕ
    others = filter (is_of before width) places

    step : (t : Bool) → is_of before width place ≡ t → AllByRecursion (λ col. col < width) (places_of before width places) → AllByRecursion (λ col. col < width) (map (λ p. p - before) (cond t (place ∷ others) others))
    step true is more = ((of_parts before width place is).1, more)
    step false is more = more

pub wide_as : (source : Source) (schema : RelationSchema) → source.columns ≡ names_of schema → length source.columns ≡ length (kinds_of schema)
wide_as source schema names = ap length names ∙ length-map schema.columns (λ c. c.name) ∙ sym (length-map schema.columns (λ c. c.kind))

need_fits : (catalogue : Catalogue) (select : Select) (links : List Link) (before : ℕ) (source : Source) (schema : RelationSchema) (types : List Kind) → IsFormed catalogue → IsValidCatalogue catalogue → meaning.relation_named source.name (schemas_of catalogue) ≡ Some schema → source.columns ≡ names_of schema →
    AllByRecursion (IsCondOf types) select.conds → AreSame types links → StandsAt types before (kinds_of schema) → IsNeedOf catalogue (need_of select links before source)
need_fits catalogue select links before source schema types formed valid there names fit same at =
    let wide = wide_as source schema names in
    let Below : ℕ → Type 0 = λ n. AllByRecursion (λ col. col < n) (places_of before (length source.columns) (columns_read links select)) in
    record {
      schema = schema;
      found = is_in catalogue source.name schema formed valid there;
      there = there;
      needed = subst Below wide (places_fit before (length source.columns) (columns_read links select));
      conds = all_both (IsCondOf (kinds_of schema)) (conds_of before (length source.columns) select.conds) (carried links before (length source.columns) select.conds)
          (own_fit types (kinds_of schema) before (length source.columns) select.conds wide at fit) (carried_fit types (kinds_of schema) links before (length source.columns) select.conds wide at same fit);
    }

-- the types of all columns begin with those of the relations so far
begins : (schema : List RelationSchema) (earlier : List (List ℕ)) (before : List Kind) (joins : List Join) (all : List Kind) → AreJoinsOf schema earlier before joins all → (rest : List Kind) × (all ≡ before ++ rest)
begins schema earlier before [] all is = ([], is ∙ sym (append_none before))
begins schema earlier before (join ∷ joins) all (other, join_is, more) =
    let rest = begins schema (earlier ++ other.name ∷ []) (before ++ kinds_of other) joins all more in
    (kinds_of other ++ rest.0, rest.1 ∙ append_more before (kinds_of other) rest.0)

-- what stands behind some columns stands there among all
pub stands_behind : {A : Type 0} (before own rest all : List A) → all ≡ (before ++ own) ++ rest → StandsAt all (length before) own
stands_behind before own rest all is place within =
    let front : length before + place < length (before ++ own) = let sum = length-append before own in omega (arith, sum, within) in
    let past : length before ≤ length before + place = omega arith in
    let at : length before + place - length before ≡ place = omega arith in
    ap (λ xs. slice_get xs (length before + place)) is ∙ get_front (before ++ own) rest (length before + place) front ∙ get_past before own (length before + place) past ∙ ap (slice_get own) at

-- the two columns of each ON have one type
same_types : (schema : List RelationSchema) (earlier : List (List ℕ)) (widths : List ℕ) (before : List Kind) (joins : List Join) (all : List Kind) → width_of widths ≡ length before → AreJoinsOf schema earlier before joins all → AreSame all (links_behind widths joins)
same_types schema earlier widths before [] all wide is = tt
same_types schema earlier widths before (join ∷ joins) all wide (other, join_is, more) =
    let rest = begins schema (earlier ++ other.name ∷ []) (before ++ kinds_of other) joins all more in
    let place : slice_get all join.col ≡ Some kinds.Int = ap (λ xs. slice_get xs join.col) rest.1 ∙ get_still (before ++ kinds_of other) rest.0 join.col kinds.Int (get_still before (kinds_of other) join.col kinds.Int join_is.column) in
    let within : 0 < length (kinds_of other) = slice_get_within (kinds_of other) 0 kinds.Int join_is.key in
    let zero_is : length before + 0 ≡ width_of widths = omega (arith, wide) in
    let key : slice_get all (width_of widths) ≡ Some kinds.Int = ap (slice_get all) (sym zero_is) ∙ stands_behind before (kinds_of other) rest.0 all rest.1 0 within ∙ join_is.key in
    let long : length join.relation.columns ≡ length (kinds_of other) = wide_as join.relation other join_is.names in
    let next : width_of (widths ++ length join.relation.columns ∷ []) ≡ length (before ++ kinds_of other) = width_more widths (length join.relation.columns) ∙ ap₂ (λ (a b : ℕ). a + b) wide long ∙ sym (length-append before (kinds_of other)) in
    (place ∙ sym key, same_types schema (earlier ++ other.name ∷ []) (widths ++ length join.relation.columns ∷ []) (before ++ kinds_of other) joins all next more)

behind_fit : (catalogue : Catalogue) (select : Select) (links : List Link) (earlier : List (List ℕ)) (before : List Kind) (width : ℕ) (joins : List Join) (types : List Kind) → IsFormed catalogue → IsValidCatalogue catalogue → width ≡ length before →
    AreJoinsOf (schemas_of catalogue) earlier before joins types → AllByRecursion (IsCondOf types) select.conds → AreSame types links → AllByRecursion (IsNeedOf catalogue) (needs_behind select links width joins)
behind_fit catalogue select links earlier before width [] types formed valid wide is fit same = tt
behind_fit catalogue select links earlier before width (join ∷ joins) types formed valid wide (other, join_is, more) fit same =
    let rest = begins (schemas_of catalogue) (earlier ++ other.name ∷ []) (before ++ kinds_of other) joins types more in
    let At : ℕ → Type 0 = λ n. StandsAt types n (kinds_of other) in
    let long : length join.relation.columns ≡ length (kinds_of other) = wide_as join.relation other join_is.names in
    let next : width + length join.relation.columns ≡ length (before ++ kinds_of other) = ap₂ (λ (a b : ℕ). a + b) wide long ∙ sym (length-append before (kinds_of other)) in (
      need_fits catalogue select links width join.relation other types formed valid join_is.there join_is.names fit same (subst At (sym wide) (stands_behind before (kinds_of other) rest.0 types rest.1)),
      behind_fit catalogue select links (earlier ++ other.name ∷ []) (before ++ kinds_of other) (width + length join.relation.columns) joins types formed valid next more fit same,
    )

select_same : (catalogue : Catalogue) (select : Select) (of : IsSelectOf (schemas_of catalogue) select) → AreSame of.types (links_of select)
select_same catalogue select of =
    let wide : length select.from.columns ≡ length (kinds_of of.relation) = wide_as select.from of.relation of.names in
    let one : width_of (length select.from.columns ∷ []) ≡ length (kinds_of of.relation) = omega (arith, wide) in
    same_types (schemas_of catalogue) (of.relation.name ∷ []) (length select.from.columns ∷ []) (kinds_of of.relation) select.joins of.types one of.joins

-- the key of a row that fits is an integer that fits
key_fits : (types : List Kind) (row : List Value) → slice_get types 0 ≡ Some kinds.Int → FitsKinds types row → Fits (Int (key_of row))
key_fits [] row key fits = absurd (cc)
key_fits (kind ∷ types) [] key fits = absurd fits
key_fits (kind ∷ types) (Int n ∷ row) key fits = fits.1
key_fits (kind ∷ types) (Text bytes ∷ row) key fits = let is : kinds.Text ≡ kind = fits.0 in absurd (cc)

all_of : (catalogue : Catalogue) (source : Source) (schema : RelationSchema) (conds : List Cond) → IsFormed catalogue → IsValidCatalogue catalogue → meaning.relation_named source.name (schemas_of catalogue) ≡ Some schema → source.columns ≡ names_of schema → AllByRecursion (IsCondOf (kinds_of schema)) conds →
    IsNeedOf catalogue (record { relation = source.name; columns = places_to (length source.columns); conds = conds })
all_of catalogue source schema conds formed valid there names fit =
    let Below : ℕ → Type 0 = λ n. AllByRecursion (λ col. col < n) (places_to (length source.columns)) in
    record { schema = schema; found = is_in catalogue source.name schema formed valid there; there = there; needed = subst Below (wide_as source schema names) (to_below (length source.columns)); conds = fit }

pub needs_fit : (catalogue : Catalogue) (statement : Statement) → IsFormed catalogue → IsValidCatalogue catalogue → IsStatementOf (schemas_of catalogue) statement → AllByRecursion (IsNeedOf catalogue) (needs statement).relations
needs_fit catalogue (statement.Select select) formed valid of =
    let same = select_same catalogue select of in
    let rest = begins (schemas_of catalogue) (of.relation.name ∷ []) (kinds_of of.relation) select.joins of.types of.joins in (
      need_fits catalogue select (links_of select) 0 select.from of.relation of.types formed valid of.there of.names of.conds same (stands_behind [] (kinds_of of.relation) rest.0 of.types rest.1),
      behind_fit catalogue select (links_of select) (of.relation.name ∷ []) (kinds_of of.relation) (length select.from.columns) select.joins of.types formed valid (wide_as select.from of.relation of.names) of.joins of.conds same,
    )
needs_fit catalogue (statement.Insert insert) formed valid of =
    let found = is_in catalogue insert.into of.relation formed valid of.there in
    let Key : RelationSchema → Type 0 = λ schema. slice_get (kinds_of schema) 0 ≡ Some kinds.Int in
    let key = subst Key found.same found.formed.key in
    (record { schema = of.relation; found = found; there = of.there; needed = tt; conds = (record { column = key; constant = key_fits (kinds_of of.relation) insert.row key of.fits }, tt) }, tt)
needs_fit catalogue (statement.Update update) formed valid of = (all_of catalogue update.relation of.relation update.conds formed valid of.there of.names of.conds, tt)
needs_fit catalogue (statement.Delete delete) formed valid of = (all_of catalogue delete.relation of.relation delete.conds formed valid of.there of.names of.conds, tt)
needs_fit catalogue (statement.Refragment refragment) formed valid of = (all_of catalogue refragment.relation of.relation [] formed valid of.there of.names tt, tt)

-- the needs so far, over their types, and the links behind them
abbrev kinds_each : Catalogue → List Need → List (List Kind)
kinds_each catalogue done = map (λ need. kinds_in catalogue need.relation) done

kinds_last : (catalogue : Catalogue) (done : List Need) (need : Need) → kinds_each catalogue (done ++ need ∷ []) ≡ kinds_each catalogue done ++ kinds_in catalogue need.relation ∷ []
kinds_last catalogue [] need = refl
kinds_last catalogue (first ∷ done) need = ap (λ rest. kinds_in catalogue first.relation ∷ rest) (kinds_last catalogue done need)

links_of_all : (catalogue : Catalogue) (select : Select) (links : List Link) (earlier : List (List ℕ)) (done : List Need) (before : List Kind) (widths : List ℕ) (width : ℕ) (joins : List Join) (types : List Kind) (all : List Need) → IsFormed catalogue → IsValidCatalogue catalogue →
    before ≡ together (kinds_each catalogue done) → widths ≡ lengths (kinds_each catalogue done) → all ≡ done ++ needs_behind select links width joins → AreJoinsOf (schemas_of catalogue) earlier before joins types →
    AllByRecursion (LinkFits catalogue all) (links_behind widths joins)
links_of_all catalogue select links earlier done before widths width [] types all formed valid before_is widths_are all_is is = tt
links_of_all catalogue select links earlier done before widths width (join ∷ joins) types all formed valid before_is widths_are all_is (other, join_is, more) =
    let need : Need = need_of select links width join.relation in
    let later = needs_behind select links (width + length join.relation.columns) joins in
    let parts = kinds_each catalogue done in
    let here : kinds_in catalogue need.relation ≡ kinds_of other = kinds_are catalogue join.relation.name other (is_in catalogue join.relation.name other formed valid join_is.there) in
    let at = placed parts join.col kinds.Int (sym (ap (λ xs. slice_get xs join.col) before_is) ∙ join_is.column) in
    let Number : List ℕ → Type 0 = λ ws. slice_get parts (link_of ws join).from ≡ Some at.part in
    let Column : List ℕ → Type 0 = λ ws. slice_get at.part (link_of ws join).col ≡ Some kinds.Int in
    let number = subst Number (sym widths_are) at.here in
    let column = subst Column (sym widths_are) at.at in
    let one = get_mapped (λ (n : Need). kinds_in catalogue n.relation) done (link_of widths join).from at.part number in
    let count : length widths ≡ length done = ap length widths_are ∙ count_is parts ∙ length-map done (λ n. kinds_in catalogue n.relation) in
    let split : all ≡ (done ++ need ∷ []) ++ later = all_is ∙ sym (append_more done (need ∷ []) later) in
    let At : ℕ → Type 0 = λ i. slice_get all i ≡ Some need in
    let Cut : List Kind → Type 0 = λ ks. slice_get ks (link_of widths join).col ≡ Some kinds.Int in
    let long : length join.relation.columns ≡ length (kinds_of other) = wide_as join.relation other join_is.names in (
      record {
        one = one.0;
        other = need;
        from = ap (λ xs. slice_get xs (link_of widths join).from) split ∙ get_still (done ++ need ∷ []) later (link_of widths join).from one.0 (get_still done (need ∷ []) (link_of widths join).from one.0 one.1);
        joined = subst At (sym count) (ap (λ xs. slice_get xs (length done)) split ∙ get_still (done ++ need ∷ []) later (length done) need (get_last done need));
        joins = record { column = subst Cut (sym one.2) column; key = ap (λ xs. slice_get xs 0) here ∙ join_is.key };
      },
      links_of_all catalogue select links (earlier ++ other.name ∷ []) (done ++ need ∷ []) (before ++ kinds_of other) (widths ++ length join.relation.columns ∷ []) (width + length join.relation.columns) joins types all formed valid
          (ap₂ (λ (a b : List Kind). a ++ b) before_is (sym here) ∙ sym (together_last parts (kinds_in catalogue need.relation)) ∙ ap together (sym (kinds_last catalogue done need)))
          (ap₂ (λ (a : List ℕ) (b : ℕ). a ++ b ∷ []) widths_are (long ∙ ap length (sym here)) ∙ sym (lengths_last parts (kinds_in catalogue need.relation)) ∙ ap lengths (sym (kinds_last catalogue done need)))
          split more,
    )

pub links_fit : (catalogue : Catalogue) (statement : Statement) → IsFormed catalogue → IsValidCatalogue catalogue → IsStatementOf (schemas_of catalogue) statement → AllByRecursion (LinkFits catalogue (needs statement).relations) (needs statement).links
links_fit catalogue (statement.Select select) formed valid of =
    let need : Need = need_of select (links_of select) 0 select.from in
    let here : kinds_in catalogue need.relation ≡ kinds_of of.relation = kinds_are catalogue select.from.name of.relation (is_in catalogue select.from.name of.relation formed valid of.there) in
    let wide = wide_as select.from of.relation of.names in
    links_of_all catalogue select (links_of select) (of.relation.name ∷ []) (need ∷ []) (kinds_of of.relation) (length select.from.columns ∷ []) (length select.from.columns) select.joins of.types (needs_of_select select (links_of select)).relations formed valid
    (sym here ∙ sym (append_none (kinds_in catalogue need.relation))) (ap (λ (n : ℕ). n ∷ []) (wide ∙ ap length (sym here))) refl of.joins
links_fit catalogue (statement.Insert insert) formed valid of = tt
links_fit catalogue (statement.Update update) formed valid of = tt
links_fit catalogue (statement.Delete delete) formed valid of = tt
links_fit catalogue (statement.Refragment refragment) formed valid of = tt

-- relations of different names of the schema have different names in the statement
abbrev IsKnown : List RelationSchema → List (List ℕ) → List ℕ → Type 0
IsKnown schema earlier name = (relation : RelationSchema) × (meaning.relation_named name schema ≡ Some relation) × Contains earlier relation.name

contains_still : {A : Type 0} (xs ys : List A) (x : A) → Contains xs x → Contains (xs ++ ys) x
contains_still [] ys x there = absurd (omega (arith, there.1))
contains_still (y ∷ xs) ys x (zero, within, is) = (zero, omega arith, is)
contains_still (y ∷ xs) ys x (suc k, within, is) = let rest = contains_still xs ys x (k, omega (arith, within), is) in (suc rest.0, omega (arith, rest.1), rest.2)

contains_last : {A : Type 0} (xs : List A) (x : A) → Contains (xs ++ x ∷ []) x
contains_last [] x = (zero, omega arith, refl)
contains_last (y ∷ xs) x = let rest = contains_last xs x in (suc rest.0, omega (arith, rest.1), rest.2)

of_contained : {A : Type 0} (P : A → Type 0) (xs : List A) (x : A) → AllByRecursion P xs → Contains xs x → P x
of_contained P [] x all there = absurd (omega (arith, there.1))
of_contained P (y ∷ xs) x all (zero, within, is) = subst P is all.0
of_contained P (y ∷ xs) x all (suc k, within, is) = of_contained P xs x all.1 (k, omega (arith, within), is)

known_still : (schema : List RelationSchema) (earlier : List (List ℕ)) (more name : List ℕ) → IsKnown schema earlier name → IsKnown schema (earlier ++ more ∷ []) name
known_still schema earlier more name (relation, there, among) = (relation, there, contains_still earlier (more ∷ []) relation.name among)

differs_behind : (schema : List RelationSchema) (select : Select) (links : List Link) (earlier : List (List ℕ)) (before : List Kind) (width : ℕ) (joins : List Join) (types : List Kind) (name : List ℕ) → AreJoinsOf schema earlier before joins types → IsKnown schema earlier name →
    AllByRecursion (λ (other : Need). name ≢ other.relation) (needs_behind select links width joins)
differs_behind schema select links earlier before width [] types name is known = tt
differs_behind schema select links earlier before width (join ∷ joins) types name (other, join_is, more) (relation, there, among) = (
  λ same.
      let one : Some other ≡ Some relation = sym join_is.there ∙ sym (ap (λ (n : List ℕ). meaning.relation_named n schema) same) ∙ there in
      let alike : other ≡ relation = cc in
      of_contained (λ n. other.name ≢ n) earlier relation.name join_is.another among (ap (λ (r : RelationSchema). r.name) alike),
  differs_behind schema select links (earlier ++ other.name ∷ []) (before ++ kinds_of other) (width + length join.relation.columns) joins types name more (known_still schema earlier other.name name (relation, there, among)),
)

apart_behind : (schema : List RelationSchema) (select : Select) (links : List Link) (earlier : List (List ℕ)) (before : List Kind) (width : ℕ) (joins : List Join) (types : List Kind) → AreJoinsOf schema earlier before joins types → AreApart (needs_behind select links width joins)
apart_behind schema select links earlier before width [] types is = tt
apart_behind schema select links earlier before width (join ∷ joins) types (other, join_is, more) = (
  differs_behind schema select links (earlier ++ other.name ∷ []) (before ++ kinds_of other) (width + length join.relation.columns) joins types join.relation.name more (other, join_is.there, contains_last earlier other.name),
  apart_behind schema select links (earlier ++ other.name ∷ []) (before ++ kinds_of other) (width + length join.relation.columns) joins types more,
)

pub needs_apart : (catalogue : Catalogue) (statement : Statement) → IsStatementOf (schemas_of catalogue) statement → AreApart (needs statement).relations
needs_apart catalogue (statement.Select select) of = (
  differs_behind (schemas_of catalogue) select (links_of select) (of.relation.name ∷ []) (kinds_of of.relation) (length select.from.columns) select.joins of.types select.from.name of.joins (of.relation, of.there, contains_last [] of.relation.name),
  apart_behind (schemas_of catalogue) select (links_of select) (of.relation.name ∷ []) (kinds_of of.relation) (length select.from.columns) select.joins of.types of.joins,
)
needs_apart catalogue (statement.Insert insert) of = (tt, tt)
needs_apart catalogue (statement.Update update) of = (tt, tt)
needs_apart catalogue (statement.Delete delete) of = (tt, tt)
needs_apart catalogue (statement.Refragment refragment) of = (tt, tt)
