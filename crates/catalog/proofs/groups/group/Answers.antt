use Rattle.std.proofs.Common.{◌≡◌, List, ℕ, None, ◌++◌, map, option_map, sym, ap, ◌∙◌, subst}
use Rattle.std.specs.Borrow.{Bor}
use Rattle.toml.specs.View.{view}
use Rattle.reader.specs.Names.{all_of}
use Rattle.catalog.specs.declared.fault.Rule.TheVariants.{ColumnAbsent}
use Rattle.catalog.specs.Describes.{place_within}
use Rattle.catalog.specs.Frame.{frame_of}
use Rattle.catalog.specs.Form.{texts_of}
use Rattle.catalog.specs.NodeBreaks.{IsAgain, places_before}
use Rattle.catalog.proofs.GroupBreaks.{before_all, absent_name}
use Rattle.catalog.proofs.groups.group.Goals as goal

pub returns-in-Some-2-clause-seen : goal.returns-in-Some-2-clause-seen
returns-in-Some-2-clause-seen c =
    c.in_ok-places.ensures.seen
    ∙ ap (λ (places : List ℕ). c.args.seen.now.items ++ places)
    (before_all (frame_of c.args.frame.now) c.args.within.now (map (λ name. name.now) c.as_slice-2.result.now) c.in-Some-2.places.items (sym c.in_ok-places.ensures.found ∙ ap (option_map (λ places. places.items)) c.in-Some-2.is))

pub returns-clause-breaks : goal.returns-clause-breaks
returns-clause-breaks c of_text =
    let there = sym c.in_ok-names.ensures ∙ ap (option_map texts_of) c.in-Some.is in
    let names = map (λ name. name.now) c.as_slice-2.result.now in
    let same : names ≡ texts_of c.in-Some.names = ap (map (λ (name : Bor (List ℕ)). name.now)) c.as_slice-2.ensures.value in
    let P : List (List ℕ) → Type 0 = λ all. c.places_of.new.seen.items ≡ c.args.seen.now.items ++ places_before (frame_of c.args.frame.now) c.args.within.now all in
    let Q : List (List ℕ) → Type 0 = λ all. all_of (place_within (frame_of c.args.frame.now) c.args.within.now) all ≡ None in
    let R : List ℕ → Type 0 = IsAgain c.absent.result ColumnAbsent in
    absent_name (frame_of c.args.frame.now) c.args.within.now c.args.seen.now.items c.places_of.new.seen.items (view c.args.node.now) (texts_of c.in-Some.names) c.absent.result there
    (subst P same c.in_ok-places.ensures.seen)
    (subst Q same (sym c.in_ok-places.ensures.found ∙ ap (option_map (λ places. places.items)) c.in-None.is))
    (subst R c.as_slice-in-None.ensures.value c.absent.ensures.twice)
