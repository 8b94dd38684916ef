-- Why `fetches::needed_fetches` meets its contract.
use Rattle.std.proofs.Common.{arith, rules, ◌≡◌, ℕ, suc, ◌+◌, ◌<◌, ◌≤◌, Some, List, ◌++◌, ◌∷◌, append_assoc, drop, drop-cons, get_or, length, refl, ap, sym, ◌∙◌, subst, append-nil}
use Rattle.std.proofs.lemmas.List.{drop_all}
use Rattle.std.proofs.lemmas.Option.{slice_get_read}
use Rattle.std.specs.List.{AllByRecursion, slice_get}
use Rattle.catalog.specs.Catalogue.{Catalogue}
use Rattle.catalog.specs.Relation.{catalogue_of}
use Rattle.plan.specs.declared.fetch.Fetch.{Fetch}
use Rattle.plan.specs.declared.need.Need.{Need}
use Rattle.plan.specs.declared.need.Needs.{Needs}
use Rattle.plan.specs.Need.{needs}
use Rattle.plan.specs.Picked.{TieFits, fetches_for, fetches_from, picked, trials_of}
use Rattle.plan.specs.Stated.{AreFetchesOf, leaves_of, ties_of}
use Rattle.plan.proofs.Joining.{all_at, all_more}
use Rattle.plan.proofs.PickedStated.{fetches_are, IsTie, need_fit, ties_fit}
use Rattle.plan.proofs.StatementFits.{IsNeedOf, needs_fit}
use Rattle.plan.proofs.fetches.needed_fetches.Goals as goal

-- the need of a round
needed_at : (needed list : List Need) (number : ℕ) (need : Need) → list ≡ needed → number < length list → need ≡ get_or list number need → slice_get needed number ≡ Some need
needed_at needed list number need same within is = ap (λ (all : List Need). slice_get all number) (sym same) ∙ slice_get_read list (length list) number need refl within is

-- behind the last need nothing is left
found_all : (catalogue : Catalogue) (needed : Needs) (list : List Need) (number : ℕ) (found : List Fetch) → list ≡ needed.relations → length list ≤ number → found ++ fetches_from catalogue needed number (drop number needed.relations) ≡ fetches_for catalogue needed →
    found ≡ fetches_for catalogue needed
found_all catalogue needed list number found same past all =
    let past_all : length needed.relations ≤ number = subst (λ (ns : List Need). length ns ≤ number) same past in
    sym (append-nil found) ∙ ap (λ (rest : List Need). found ++ fetches_from catalogue needed number rest) (sym (drop_all number needed.relations past_all)) ∙ all

-- a round puts out the fetches of one need
abbrev fetched : Catalogue → Needs → ℕ → Need → List Fetch
fetched catalogue needed number need = picked (trials_of catalogue need (ties_of needed number)) need (leaves_of catalogue need.relation)

one_more : (catalogue : Catalogue) (needed : Needs) (list : List Need) (number : ℕ) (need : Need) (found : List Fetch) → list ≡ needed.relations → number < length list → need ≡ get_or list number need → found ++ fetches_from catalogue needed number (drop number needed.relations) ≡ fetches_for catalogue needed →
    (found ++ fetched catalogue needed number need) ++ fetches_from catalogue needed (number + 1) (drop (number + 1) needed.relations) ≡ fetches_for catalogue needed
one_more catalogue needed list number need found same within is all =
    let split : drop number list ≡ need ∷ drop (suc number) list = drop-cons list number need within ∙ ap (λ (first : Need). first ∷ drop (suc number) list) (sym is) in
    let there : drop number needed.relations ≡ need ∷ drop (suc number) needed.relations = subst (λ (ns : List Need). drop number ns ≡ need ∷ drop (suc number) ns) same split in
    let next : suc number ≡ number + 1 = omega arith in
    subst (λ (k : ℕ). (found ++ fetched catalogue needed number need) ++ fetches_from catalogue needed k (drop k needed.relations) ≡ fetches_for catalogue needed) next
    (append_assoc found (fetched catalogue needed number need) (fetches_from catalogue needed (suc number) (drop (suc number) needed.relations))
    ∙ ap (λ (rest : List Need). found ++ fetches_from catalogue needed number rest) (sym there) ∙ all)

pub loop-number-preserved : goal.loop-number-preserved
loop-number-preserved c =
    let catalogue = catalogue_of c.args.catalog.now in
    let needed = c.args.needs.now in
    let number = c.loop-number.number in
    let put : c.put_fetches.new.out.items ≡ c.loop-number.fetches.items ++ fetched catalogue needed number c.need-item.result = search rules in
    ap (λ (found : List Fetch). found ++ fetches_from catalogue needed (number + 1) (drop (number + 1) needed.relations)) put
    ∙ one_more catalogue needed c.as_slice-need-items.result.now number c.need-item.result c.loop-number.fetches.items c.as_slice-need-items.ensures c.loop-number-test.true c.need-item.is c.loop-number.invariant

pub put_fetches-requires-clause-need : goal.put_fetches-requires-clause-need
put_fetches-requires-clause-need c =
    let catalogue = catalogue_of c.args.catalog.now in
    let here : slice_get (needs c.requires.statement).relations c.loop-number.number ≡ Some c.need-item.result = needed_at (needs c.requires.statement).relations c.as_slice-need-items.result.now c.loop-number.number c.need-item.result (c.as_slice-need-items.ensures ∙ ap (λ (ns : Needs). ns.relations) c.requires.are) c.loop-number-test.true c.need-item.is in
    need_fit catalogue c.need-item.result (all_at (IsNeedOf catalogue) (needs c.requires.statement).relations c.loop-number.number c.need-item.result (needs_fit catalogue c.requires.statement c.relations-relations.ensures.formed c.relations-relations.ensures.valid c.requires.of_schemas) here)

pub put_fetches-requires-clause-ties : goal.put_fetches-requires-clause-ties
put_fetches-requires-clause-ties c =
    let catalogue = catalogue_of c.args.catalog.now in
    let here : slice_get (needs c.requires.statement).relations c.loop-number.number ≡ Some c.need-item.result = needed_at (needs c.requires.statement).relations c.as_slice-need-items.result.now c.loop-number.number c.need-item.result (c.as_slice-need-items.ensures ∙ ap (λ (ns : Needs). ns.relations) c.requires.are) c.loop-number-test.true c.need-item.is in
    let fit = ties_fit catalogue c.requires.statement c.loop-number.number c.need-item.result c.relations-relations.ensures.formed c.relations-relations.ensures.valid c.requires.of_schemas here in
    let Fit : Needs → Type 0 = λ ns. AllByRecursion (TieFits catalogue c.need-item.result) (ties_of ns c.loop-number.number) in
    subst Fit (sym c.requires.are) (all_more (IsTie catalogue c.need-item.result) (TieFits catalogue c.need-item.result) (ties_of (needs c.requires.statement) c.loop-number.number) (λ tie is. is.fits) fit)

pub returns : goal.returns
returns c = λ statement same of.
    let catalogue = catalogue_of c.args.catalog.now in
    let found : c.loop-number.fetches.items ≡ fetches_for catalogue c.args.needs.now =
    found_all catalogue c.args.needs.now c.as_slice-need-items.result.now c.loop-number.number c.loop-number.fetches.items c.as_slice-need-items.ensures c.loop-number-test.false c.loop-number.invariant in
    subst (AreFetchesOf catalogue statement) (sym (found ∙ ap (fetches_for catalogue) same)) (fetches_are c.some_leaf_serves.ensures.whole catalogue statement c.relations-relations.ensures.formed c.relations-relations.ensures.valid of)
