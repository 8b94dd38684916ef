use Rattle.std.proofs.Common.{◌≡◌, ◌<◌, ◌+◌, ◌++◌, ◌∷◌, [], ap, get_or, length, List, map, refl, sym, take, ℕ, ◌∙◌}
use Rattle.std.proofs.lemmas.List.{map-append, take_more}
use Rattle.commands.proofs.session_files.names_of.Goals as goal

-- one more is called so
named_more : {N S : Type 0} (of_name : N → List ℕ) (of_source : S → List ℕ) (first : List ℕ) (names pushed : List N) (name : N) (next : List S) (source : S) (i : ℕ) → i < length next → source ≡ get_or next i source → of_name name ≡ of_source source → pushed ≡ names ++ name ∷ [] →
    map of_name names ≡ first ∷ map of_source (take i next) → map of_name pushed ≡ first ∷ map of_source (take (i + 1) next)
named_more of_name of_source first names pushed name next source i within is same push so =
    let more = take_more next i source within ∙ ap (λ s. take i next ++ s ∷ []) (sym is) in
    ap (map of_name) push ∙ map-append of_name names (name ∷ []) ∙ ap (λ (all : List (List ℕ)). all ++ of_name name ∷ []) so ∙ ap (λ (last : List ℕ). first ∷ (map of_source (take i next) ++ last ∷ [])) same
    ∙ ap (λ (all : List (List ℕ)). first ∷ all) (sym (ap (map of_source) more ∙ map-append of_source (take i next) (source ∷ [])))

pub loop-source-init : goal.loop-source-init
loop-source-init g c = ap (map (λ name. name.now)) (c.in_ok-push.ensures.items ∙ ap (λ names. names ++ c.args.first ∷ []) c.new-names.ensures.items)

pub loop-source-preserved : goal.loop-source-preserved
loop-source-preserved g c = named_more (λ name. name.now) (λ source. source.file.now) c.args.first.now c.loop-source.names.items c.push-in-loop-source.new.self.items c.source-item.result.file c.args.next.now c.source-item.result c.loop-source.source-index c.loop-source-test.true c.source-item.is refl c.in_ok-push-2.ensures.items c.loop-source.invariant
