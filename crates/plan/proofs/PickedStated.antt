-- The leaves that the trials pick are those that the statement states.
use Rattle.std.proofs.Common.{◌≡◌, ◌==◌, ◌+◌, ◌&&◌, ℕ, suc, Bool, true, false, cond, List, [], ◌∷◌, ◌++◌, map, length, Option, Some, None, option_map, refl, ap, ap₂, sym, ◌∙◌, subst, arith}
use Rattle.std.proofs.lemmas.Bool.{and_from, and_parts}
use Rattle.std.proofs.lemmas.Bool.Decides.{nat_tests}
use Rattle.std.specs.List.{AllByRecursion, cons_option, filter_map, list_all, slice_get}
use Rattle.terms.specs.declared.cond.Cond.{Cond}
use Rattle.terms.specs.declared.value.Kind.{Kind}
use Rattle.terms.specs.Cond.{IsCondOf, conds_hold}
use Rattle.meaning.specs.declared.schema.RelationSchema.{RelationSchema}
use Rattle.meaning.specs.declared.statement.Statement.{Statement}
use Rattle.meaning.specs.Schema.{kinds_of}
use Rattle.meaning.specs.Statement.{IsStatementOf}
use Rattle.catalog.specs.declared.fragment_leaf.FragmentLeaf.{FragmentLeaf}
use Rattle.catalog.specs.Catalogue.{Catalogue, IsValidCatalogue}
use Rattle.catalog.specs.Cover.{SomeServes}
use Rattle.catalog.specs.Formed.{IsFormed}
use Rattle.catalog.specs.FragmentLeaf.{leaves_from, schemas_of}
use Rattle.catalog.specs.Path.{columns_beside_key, paths, wanted}
use Rattle.catalog.specs.Split.{Tree}
use Rattle.catalog.specs.Valid.{IsValid}
use Rattle.plan.specs.declared.fetch.Fetch.{Fetch}
use Rattle.plan.specs.declared.link.Link.{Link}
use Rattle.plan.specs.declared.need.Need.{Need}
use Rattle.plan.specs.declared.need.Needs.{Needs}
use Rattle.plan.specs.Need.{needs}
use Rattle.plan.specs.Picked.{AreJoined, TieFits, can_be_met, fetches_by, fetches_from, joined_places, own_places, own_trial, picked, picks, put_on, succeeds, tie_trial, trials_of}
use Rattle.plan.specs.Stated.{AreFetches, AreFetchesFrom, AreFetchesOf, IsStated, IsStatedBy, IsStatedFrom, IsStatedJoined, MeetsBy, Tie, ByColumn, ByKey, kinds_in, leaves_of, tie_of, ties_of}
use Rattle.plan.proofs.InCatalogue.{IsIn, kinds_are, leaves_are, leaves_fit}
use Rattle.plan.proofs.Joining.{all_at, all_more}
use Rattle.plan.proofs.LeafByLeaf.{Tells, one_list, picked_are}
use Rattle.plan.proofs.Meeting.{conds_both, conds_joined, served_among}
use Rattle.plan.proofs.NeedsFit.{all_both}
use Rattle.plan.proofs.PutOn.{IsPair, fits_both, front_fit, joined_put, pair_cut, pair_of, put_own}
use Rattle.plan.proofs.StatementFits.{IsNeedOf, LinkFits, links_fit, needs_fit}
use Rattle.plan.proofs.TestRows.{met_by_row, row_meets}

-- what each condition fits that stand on the columns of some types
abbrev pub Fit : List Kind → List Cond → Type 0
Fit types conds = AllByRecursion (IsCondOf types) conds

-- the trial of one relation alone
own_tells : (types : List Kind) (need : Need) (leaf : FragmentLeaf) → Fit types need.conds → Fit types leaf.conds → wanted need.columns leaf.steps ≡ true → Tells (can_be_met types (put_on own_places leaf.conds ++ need.conds)) (IsStated types need leaf)
own_tells types need leaf fit fit_leaf is_wanted =
    let fit_both = all_both (IsCondOf types) leaf.conds need.conds fit_leaf fit in
    let tested : can_be_met types (put_on own_places leaf.conds ++ need.conds) ≡ can_be_met types (leaf.conds ++ need.conds) = ap (λ (conds : List Cond). can_be_met types (conds ++ need.conds)) (put_own leaf.conds) in (
      λ is.
          let met = met_by_row types (leaf.conds ++ need.conds) fit_both (sym tested ∙ is) in
          record { row = met.row; serves = record { is_wanted = is_wanted; fits = met.fits; holds = met.holds } },
      λ stated. tested ∙ row_meets types (leaf.conds ++ need.conds) fit_both (record { row = stated.row; fits = stated.serves.fits; holds = stated.serves.holds }),
    )

-- what is asked of a row of both relations of a join
abbrev pub asked_of : List Kind → ℕ → Need → Need → List Cond
asked_of types col need other = need.conds ++ put_on (joined_places col (length types)) other.conds

pub asked_fit : (types others : List Kind) (col : ℕ) (need other : Need) → AreJoined types others col → Fit types need.conds → Fit others other.conds → Fit (types ++ others) (asked_of types col need other)
asked_fit types others col need other joins fit fit_other =
    all_both (IsCondOf (types ++ others)) need.conds (put_on (joined_places col (length types)) other.conds) (front_fit types others need.conds fit) (joined_put types others col other.conds joins fit_other)

-- the trial of an ON by a column, for a leaf of the relation that has it
from_tells : (types others : List Kind) (col : ℕ) (need other : Need) (leaf : FragmentLeaf) (relation : List ℕ) (tree : Tree) → SomeServes → IsValid others tree → AreJoined types others col → Fit types need.conds → Fit others other.conds → Fit types leaf.conds → wanted need.columns leaf.steps ≡ true →
    Tells (can_be_met (types ++ others) (put_on own_places leaf.conds ++ asked_of types col need other)) (IsStatedFrom types others col need other (leaves_from relation (columns_beside_key others) 1 (paths tree)) leaf)
from_tells types others col need other leaf relation tree cover valid joins fit fit_other fit_leaf is_wanted = (to, from)
  where
    both : List Kind
    both = types ++ others

    there : List Cond
    there = put_on (joined_places col (length types)) other.conds

    fit_all : Fit both (leaf.conds ++ (need.conds ++ there))
    fit_all = all_both (IsCondOf both) leaf.conds (need.conds ++ there) (front_fit types others leaf.conds fit_leaf) (asked_fit types others col need other joins fit fit_other)

    tested : can_be_met both (put_on own_places leaf.conds ++ (need.conds ++ there)) ≡ can_be_met both (leaf.conds ++ (need.conds ++ there))
    tested = ap (λ (conds : List Cond). can_be_met both (conds ++ (need.conds ++ there))) (put_own leaf.conds)

    to : can_be_met both (put_on own_places leaf.conds ++ (need.conds ++ there)) ≡ true → IsStatedFrom types others col need other (leaves_from relation (columns_beside_key others) 1 (paths tree)) leaf
    to is =
        let met = met_by_row both (leaf.conds ++ (need.conds ++ there)) fit_all (sym tested ∙ is) in
        let cut = pair_cut types others col met.row joins met.fits in
        let row = cut.0 in
        let partner = cut.1 in
        let pair : IsPair types others col met.row row partner = cut.2 in
        let first = conds_both leaf.conds (need.conds ++ there) met.row met.holds in
        let rest = conds_both need.conds there met.row first.1 in
        let holds : conds_hold other.conds partner ≡ true = sym (pair.placed other.conds) ∙ rest.1 in
        let among = served_among relation (columns_beside_key others) 1 (paths tree) other.columns partner (cover others tree other.columns partner valid pair.fits_other) in
        record {
          other_leaf = among.leaf;
          there = among.there;
          meet = record {
            row = row;
            other = partner;
            serves = record { is_wanted = is_wanted; fits = pair.fits; holds = conds_joined leaf.conds need.conds row (sym (pair.own leaf.conds fit_leaf) ∙ first.0) (sym (pair.own need.conds fit) ∙ rest.0) };
            serves_other = record { is_wanted = among.is_wanted; fits = pair.fits_other; holds = conds_joined among.leaf.conds other.conds partner among.holds holds };
            joined = pair.joined;
          };
        }

    from : IsStatedFrom types others col need other (leaves_from relation (columns_beside_key others) 1 (paths tree)) leaf → can_be_met both (put_on own_places leaf.conds ++ (need.conds ++ there)) ≡ true
    from stated =
        let row = stated.meet.row in
        let partner = stated.meet.other in
        let here = stated.meet.serves in
        let beyond = stated.meet.serves_other in
        let pair = pair_of types others col row partner joins here.fits beyond.fits stated.meet.joined in
        let own = conds_both leaf.conds need.conds row here.holds in
        let asked = conds_joined need.conds there (row ++ partner) (pair.own need.conds fit ∙ own.1) (pair.placed other.conds ∙ (conds_both stated.other_leaf.conds other.conds partner beyond.holds).1) in
        let holds = conds_joined leaf.conds (need.conds ++ there) (row ++ partner) (pair.own leaf.conds fit_leaf ∙ own.0) asked in
        tested ∙ row_meets both (leaf.conds ++ (need.conds ++ there)) fit_all (record { row = row ++ partner; fits = fits_both types others row partner here.fits beyond.fits; holds = holds })

-- and by the key, for a leaf of the relation that has it
joined_tells : (types others : List Kind) (col : ℕ) (need other : Need) (leaf : FragmentLeaf) (relation : List ℕ) (tree : Tree) → SomeServes → IsValid types tree → AreJoined types others col → Fit types need.conds → Fit others other.conds → Fit others leaf.conds → wanted other.columns leaf.steps ≡ true →
    Tells (can_be_met (types ++ others) (put_on (joined_places col (length types)) leaf.conds ++ asked_of types col need other)) (IsStatedJoined types others col need other (leaves_from relation (columns_beside_key types) 1 (paths tree)) leaf)
joined_tells types others col need other leaf relation tree cover valid joins fit fit_other fit_leaf is_wanted = (to, from)
  where
    both : List Kind
    both = types ++ others

    there : List Cond
    there = put_on (joined_places col (length types)) other.conds

    own : List Cond
    own = put_on (joined_places col (length types)) leaf.conds

    fit_all : Fit both (own ++ (need.conds ++ there))
    fit_all = all_both (IsCondOf both) own (need.conds ++ there) (joined_put types others col leaf.conds joins fit_leaf) (asked_fit types others col need other joins fit fit_other)

    to : can_be_met both (own ++ (need.conds ++ there)) ≡ true → IsStatedJoined types others col need other (leaves_from relation (columns_beside_key types) 1 (paths tree)) leaf
    to is =
        let met = met_by_row both (own ++ (need.conds ++ there)) fit_all is in
        let cut = pair_cut types others col met.row joins met.fits in
        let row = cut.0 in
        let partner = cut.1 in
        let pair : IsPair types others col met.row row partner = cut.2 in
        let first = conds_both own (need.conds ++ there) met.row met.holds in
        let rest = conds_both need.conds there met.row first.1 in
        let holds : conds_hold need.conds row ≡ true = sym (pair.own need.conds fit) ∙ rest.0 in
        let among = served_among relation (columns_beside_key types) 1 (paths tree) need.columns row (cover types tree need.columns row valid pair.fits) in
        record {
          leaf = among.leaf;
          there = among.there;
          meet = record {
            row = row;
            other = partner;
            serves = record { is_wanted = among.is_wanted; fits = pair.fits; holds = conds_joined among.leaf.conds need.conds row among.holds holds };
            serves_other = record { is_wanted = is_wanted; fits = pair.fits_other; holds = conds_joined leaf.conds other.conds partner (sym (pair.placed leaf.conds) ∙ first.0) (sym (pair.placed other.conds) ∙ rest.1) };
            joined = pair.joined;
          };
        }

    from : IsStatedJoined types others col need other (leaves_from relation (columns_beside_key types) 1 (paths tree)) leaf → can_be_met both (own ++ (need.conds ++ there)) ≡ true
    from stated =
        let row = stated.meet.row in
        let partner = stated.meet.other in
        let here = stated.meet.serves in
        let beyond = stated.meet.serves_other in
        let pair = pair_of types others col row partner joins here.fits beyond.fits stated.meet.joined in
        let parts = conds_both leaf.conds other.conds partner beyond.holds in
        let asked = conds_joined need.conds there (row ++ partner) (pair.own need.conds fit ∙ (conds_both stated.leaf.conds need.conds row here.holds).1) (pair.placed other.conds ∙ parts.1) in
        let holds = conds_joined own (need.conds ++ there) (row ++ partner) (pair.placed leaf.conds ∙ parts.0) asked in
        row_meets both (own ++ (need.conds ++ there)) fit_all (record { row = row ++ partner; fits = fits_both types others row partner here.fits beyond.fits; holds = holds })

-- an ON of a need: it fits, and the other side is a relation of the catalogue
abbrev other_of : Tie → Need
other_of (ByColumn col other) = other
other_of (ByKey col other) = other

pub record IsTie (catalogue : Catalogue) (need : Need) (tie : Tie) : Type 0 where
  pub fits : TieFits catalogue need tie
  pub schema : RelationSchema
  pub found : IsIn catalogue (other_of tie).relation schema

-- the leaves of a relation of the catalogue are those of a valid tree over its types
record IsOver (catalogue : Catalogue) (name : List ℕ) : Type 0 where
  relation : List ℕ
  tree : Tree
  valid : IsValid (kinds_in catalogue name) tree
  leaves : leaves_from relation (columns_beside_key (kinds_in catalogue name)) 1 (paths tree) ≡ leaves_of catalogue name

is_over : (catalogue : Catalogue) (name : List ℕ) (schema : RelationSchema) → IsIn catalogue name schema → IsOver catalogue name
is_over catalogue name schema found =
    let relation = found.relation in
    let types_are : kinds_in catalogue name ≡ kinds_of relation.schema = kinds_are catalogue name schema found ∙ ap kinds_of (sym found.same) in
    let Valid : List Kind → Type 0 = λ types. IsValid types relation.tree in
    let leaves_over : List Kind → List FragmentLeaf = λ types. leaves_from relation.schema.name (columns_beside_key types) 1 (paths relation.tree) in
    record {
      relation = relation.schema.name;
      tree = relation.tree;
      valid = subst Valid (sym types_are) found.valid;
      leaves = ap leaves_over types_are ∙ sym (leaves_are catalogue name schema found);
    }

-- the trial of an ON tells whether a leaf meets one of the other side
tie_tells : (catalogue : Catalogue) (need : Need) (tie : Tie) (leaf : FragmentLeaf) → SomeServes → IsTie catalogue need tie → Fit (kinds_in catalogue need.relation) need.conds → Fit (kinds_in catalogue need.relation) leaf.conds → wanted need.columns leaf.steps ≡ true →
    Tells (succeeds leaf (tie_trial catalogue need tie)) (MeetsBy catalogue need leaf tie)
tie_tells catalogue need (ByColumn col other) leaf cover is fit fit_leaf is_wanted =
    let types = kinds_in catalogue need.relation in
    let others = kinds_in catalogue other.relation in
    let over = is_over catalogue other.relation is.schema is.found in
    let Told : List FragmentLeaf → Type 0 = λ leaves. Tells (succeeds leaf (tie_trial catalogue need (ByColumn col other))) (IsStatedFrom types others col need other leaves leaf) in
    subst Told over.leaves (from_tells types others col need other leaf over.relation over.tree cover over.valid is.fits.0 fit is.fits.1 fit_leaf is_wanted)
tie_tells catalogue need (ByKey col other) leaf cover is fit fit_leaf is_wanted =
    let types = kinds_in catalogue other.relation in
    let others = kinds_in catalogue need.relation in
    let over = is_over catalogue other.relation is.schema is.found in
    let Told : List FragmentLeaf → Type 0 = λ leaves. Tells (succeeds leaf (tie_trial catalogue need (ByKey col other))) (IsStatedJoined types others col other need leaves leaf) in
    subst Told over.leaves (joined_tells types others col other need leaf over.relation over.tree cover over.valid is.fits.0 is.fits.1 fit fit_leaf is_wanted)

ties_tell : (catalogue : Catalogue) (need : Need) (ties : List Tie) (leaf : FragmentLeaf) → SomeServes → AllByRecursion (IsTie catalogue need) ties → Fit (kinds_in catalogue need.relation) need.conds → Fit (kinds_in catalogue need.relation) leaf.conds → wanted need.columns leaf.steps ≡ true →
    Tells (list_all (succeeds leaf) (map (tie_trial catalogue need) ties)) (AllByRecursion (MeetsBy catalogue need leaf) ties)
ties_tell catalogue need [] leaf cover are fit fit_leaf is_wanted = (λ is. tt, λ stated. refl)
ties_tell catalogue need (tie ∷ ties) leaf cover are fit fit_leaf is_wanted =
    let here = tie_tells catalogue need tie leaf cover are.0 fit fit_leaf is_wanted in
    let later = ties_tell catalogue need ties leaf cover are.1 fit fit_leaf is_wanted in
    let test = succeeds leaf (tie_trial catalogue need tie) in
    let tests = list_all (succeeds leaf) (map (tie_trial catalogue need) ties) in (
      λ is. let parts = and_parts test tests is in (here.0 parts.0, later.0 parts.1),
      λ stated. and_from test tests (here.1 stated.0) (later.1 stated.1),
    )

-- the trials of a need pick the stated leaves
trials_tell : (catalogue : Catalogue) (need : Need) (ties : List Tie) (leaf : FragmentLeaf) → SomeServes → AllByRecursion (IsTie catalogue need) ties → Fit (kinds_in catalogue need.relation) need.conds → Fit (kinds_in catalogue need.relation) leaf.conds →
    Tells (picks (trials_of catalogue need ties) need leaf) (IsStatedBy catalogue need ties leaf)
trials_tell catalogue need ties leaf cover are fit fit_leaf = (to, from)
  where
    want : Bool
    want = wanted need.columns leaf.steps

    own : Bool
    own = succeeds leaf (own_trial catalogue need)

    tests : Bool
    tests = list_all (succeeds leaf) (map (tie_trial catalogue need) ties)

    to : (want && (own && tests)) ≡ true → IsStatedBy catalogue need ties leaf
    to is =
        let first = and_parts want (own && tests) is in
        let rest = and_parts own tests first.1 in
        record {
          serves = (own_tells (kinds_in catalogue need.relation) need leaf fit fit_leaf first.0).0 rest.0;
          meets = (ties_tell catalogue need ties leaf cover are fit fit_leaf first.0).0 rest.1;
        }

    from : IsStatedBy catalogue need ties leaf → (want && (own && tests)) ≡ true
    from stated =
        let is_wanted = stated.serves.serves.is_wanted in
        and_from want (own && tests) is_wanted (and_from own tests ((own_tells (kinds_in catalogue need.relation) need leaf fit fit_leaf is_wanted).1 stated.serves) ((ties_tell catalogue need ties leaf cover are fit fit_leaf is_wanted).1 stated.meets))

need_picked : (catalogue : Catalogue) (need : Need) (ties : List Tie) → SomeServes → IsFormed catalogue → Fit (kinds_in catalogue need.relation) need.conds → AllByRecursion (IsTie catalogue need) ties →
    AreFetches (IsStatedBy catalogue need ties) need (leaves_of catalogue need.relation) (picked (trials_of catalogue need ties) need (leaves_of catalogue need.relation))
need_picked catalogue need ties cover formed fit are =
    picked_are (IsStatedBy catalogue need ties) (picks (trials_of catalogue need ties) need) need (leaves_of catalogue need.relation)
    (all_more (λ leaf. Fit (kinds_in catalogue need.relation) leaf.conds) (λ leaf. Tells (picks (trials_of catalogue need ties) need leaf) (IsStatedBy catalogue need ties leaf)) (leaves_of catalogue need.relation)
    (λ leaf fit_leaf. trials_tell catalogue need ties leaf cover are fit fit_leaf) (leaves_fit catalogue need.relation formed))

-- conditions of a need fit the columns of its relation
pub need_fit : (catalogue : Catalogue) (need : Need) → IsNeedOf catalogue need → Fit (kinds_in catalogue need.relation) need.conds
need_fit catalogue need is =
    let Fits : List Kind → Type 0 = λ types. Fit types need.conds in
    subst Fits (sym (kinds_are catalogue need.relation is.schema is.found)) is.conds

-- what an ON of two needs is to the need of a number
tie_fits : (catalogue : Catalogue) (needed : List Need) (number : ℕ) (need : Need) (link : Link) (tie : Tie) → AllByRecursion (IsNeedOf catalogue) needed → LinkFits catalogue needed link → slice_get needed number ≡ Some need → tie_of needed number link ≡ Some tie → IsTie catalogue need tie
tie_fits catalogue needed number need link tie all fits here is = at (link.from == number) (link.joined == number) refl refl is
  where
    same_at : (one : Need) (place : ℕ) → place ≡ number → slice_get needed place ≡ Some one → one ≡ need
    same_at one place same there = let moved : slice_get needed number ≡ Some one = ap (slice_get needed) (sym same) ∙ there in cc

    by_column : link.from ≡ number → IsTie catalogue need (ByColumn link.col fits.other)
    by_column same =
        let other_is = all_at (IsNeedOf catalogue) needed link.joined fits.other all fits.joined in
        let Joins : Need → Type 0 = λ one. AreJoined (kinds_in catalogue one.relation) (kinds_in catalogue fits.other.relation) link.col in
        record { fits = (subst Joins (same_at fits.one link.from same fits.from) fits.joins, need_fit catalogue fits.other other_is); schema = other_is.schema; found = other_is.found }

    by_key : link.joined ≡ number → IsTie catalogue need (ByKey link.col fits.one)
    by_key same =
        let other_is = all_at (IsNeedOf catalogue) needed link.from fits.one all fits.from in
        let Joins : Need → Type 0 = λ other. AreJoined (kinds_in catalogue fits.one.relation) (kinds_in catalogue other.relation) link.col in
        record { fits = (subst Joins (same_at fits.other link.joined same fits.joined) fits.joins, need_fit catalogue fits.one other_is); schema = other_is.schema; found = other_is.found }

    at : (from joined : Bool) → (link.from == number) ≡ from → (link.joined == number) ≡ joined → cond from (option_map (ByColumn link.col) (slice_get needed link.joined)) (cond joined (option_map (ByKey link.col) (slice_get needed link.from)) None) ≡ Some tie → IsTie catalogue need tie
    at true joined is_from is_joined is =
        let found : option_map (ByColumn link.col) (slice_get needed link.joined) ≡ Some (ByColumn link.col fits.other) = ap (option_map (ByColumn link.col)) fits.joined in
        let same : ByColumn link.col fits.other ≡ tie = cc in
        let number_is : link.from ≡ number = grind (arith, nat_tests) in
        subst (IsTie catalogue need) same (by_column number_is)
    at false true is_from is_joined is =
        let found : option_map (ByKey link.col) (slice_get needed link.from) ≡ Some (ByKey link.col fits.one) = ap (option_map (ByKey link.col)) fits.from in
        let same : ByKey link.col fits.one ≡ tie = cc in
        let number_is : link.joined ≡ number = grind (arith, nat_tests) in
        subst (IsTie catalogue need) same (by_key number_is)
    at false false is_from is_joined is = absurd (cc)

-- what holds of what is made of the elements of a list
made_step : {B : Type 0} (Q : B → Type 0) (made : Option B) (rest : List B) → ((one : B) → made ≡ Some one → Q one) → AllByRecursion Q rest → AllByRecursion Q (cons_option made rest)
made_step Q None rest here later = later
made_step Q (Some one) rest here later = (here one refl, later)

all_made : {A : Type 0} {B : Type 0} (P : A → Type 0) (Q : B → Type 0) (make : A → Option B) (list : List A) → ((one : A) (made : B) → P one → make one ≡ Some made → Q made) → AllByRecursion P list → AllByRecursion Q (filter_map make list)
all_made P Q make [] from all = tt
all_made P Q make (one ∷ list) from all = made_step Q (make one) (filter_map make list) (λ made is. from one made all.0 is) (all_made P Q make list from all.1)

pub ties_fit : (catalogue : Catalogue) (statement : Statement) (number : ℕ) (need : Need) → IsFormed catalogue → IsValidCatalogue catalogue → IsStatementOf (schemas_of catalogue) statement → slice_get (needs statement).relations number ≡ Some need →
    AllByRecursion (IsTie catalogue need) (ties_of (needs statement) number)
ties_fit catalogue statement number need formed valid of here =
    let needed = (needs statement).relations in
    all_made (LinkFits catalogue needed) (IsTie catalogue need) (tie_of needed number) (needs statement).links
    (λ link tie fits is. tie_fits catalogue needed number need link tie (needs_fit catalogue statement formed valid of) fits here is) (links_fit catalogue statement formed valid of)

-- the fetches of the needs from the one of a number on
from_are : (catalogue : Catalogue) (statement : Statement) (number : ℕ) (later : List Need) → SomeServes → IsFormed catalogue → IsValidCatalogue catalogue → IsStatementOf (schemas_of catalogue) statement →
    ((place : ℕ) → slice_get later place ≡ slice_get (needs statement).relations (number + place)) → AreFetchesFrom catalogue (needs statement) number later (fetches_from catalogue (needs statement) number later)
from_are catalogue statement number [] cover formed valid of same = refl
from_are catalogue statement number (need ∷ later) cover formed valid of same =
    let needed = (needs statement).relations in
    let first : number + 0 ≡ number = omega arith in
    let here : slice_get needed number ≡ Some need = ap (slice_get needed) (sym first) ∙ sym (same 0) in
    let rest : (place : ℕ) → slice_get later place ≡ slice_get needed (suc number + place) = λ place. let next : number + suc place ≡ suc number + place = omega arith in same (suc place) ∙ ap (slice_get needed) next in
    record {
      first = picked (trials_of catalogue need (ties_of (needs statement) number)) need (leaves_of catalogue need.relation);
      second = fetches_from catalogue (needs statement) (suc number) later;
      both = refl;
      front = need_picked catalogue need (ties_of (needs statement) number) cover formed (need_fit catalogue need (all_at (IsNeedOf catalogue) needed number need (needs_fit catalogue statement formed valid of) here)) (ties_fit catalogue statement number need formed valid of here);
      rest = from_are catalogue statement (suc number) later cover formed valid of rest;
    }

-- the fetches that the function gives are those of the statement
pub fetches_are : (cover : SomeServes) (catalogue : Catalogue) (statement : Statement) → IsFormed catalogue → IsValidCatalogue catalogue → IsStatementOf (schemas_of catalogue) statement → AreFetchesOf catalogue statement (fetches_by catalogue statement)
fetches_are cover catalogue statement formed valid of =
    let needed = (needs statement).relations in
    let same : (place : ℕ) → slice_get needed place ≡ slice_get needed (0 + place) = λ place. let e : place ≡ 0 + place = omega arith in ap (slice_get needed) e in
    from_are catalogue statement 0 needed cover formed valid of same

-- and a statement has no others
one_from : (catalogue : Catalogue) (needs : Needs) (number : ℕ) (later : List Need) (one other : List Fetch) → AreFetchesFrom catalogue needs number later one → AreFetchesFrom catalogue needs number later other → one ≡ other
one_from catalogue needs number [] one other first second = first ∙ sym second
one_from catalogue needs number (need ∷ later) one other first second =
    first.both
    ∙ ap₂ (λ (a b : List Fetch). a ++ b) (one_list (IsStatedBy catalogue need (ties_of needs number)) need (leaves_of catalogue need.relation) first.first second.first first.front second.front) (one_from catalogue needs (suc number) later first.second second.second first.rest second.rest)
    ∙ sym second.both

pub one_fetches : (catalogue : Catalogue) (statement : Statement) (one other : List Fetch) → AreFetchesOf catalogue statement one → AreFetchesOf catalogue statement other → one ≡ other
one_fetches catalogue statement one other first second = one_from catalogue (needs statement) 0 (needs statement).relations one other first second
