-- Sites that have started, and the world of machines that have just been opened.
use Rattle.std.proofs.Common.{◌≡◌, sym, ap, ◌∙◌, subst, ℕ, suc, ◌+◌, ◌<◌, add-one, List, [], ◌∷◌, ◌++◌, map, take, get_or, length, arith}
use Rattle.std.proofs.Math.Seq.{take-suc}
use Rattle.std.proofs.lemmas.List.{length-take-le, map-append}
use Rattle.std.specs.List.{AllByRecursion}
use Rattle.meaning.specs.Whole.{Relations}
use Rattle.catalog.specs.Catalogue.{Catalogue}
use Rattle.world.specs.Start.{AllStarted, IsStarted}
use Rattle.world.specs.Sites.{Seat}

-- one more has started
started_more : (catalogue : Catalogue) (whole : Relations) (place : ℕ) (names : List (List ℕ)) (seats : List Seat) (name : List ℕ) (seat : Seat) → AllStarted catalogue whole place names seats → IsStarted catalogue whole (place + length names) name seat →
    AllStarted catalogue whole place (names ++ name ∷ []) (seats ++ seat ∷ [])
started_more catalogue whole place [] [] name seat all here = (subst (λ n. IsStarted catalogue whole n name seat) (let n : place + 0 ≡ place = omega arith in n) here, tt)
started_more catalogue whole place [] (s ∷ seats) name seat all here = absurd all
started_more catalogue whole place (n ∷ names) [] name seat all here = absurd all
started_more catalogue whole place (n ∷ names) (s ∷ seats) name seat all here =
    (all.0, started_more catalogue whole (suc place) names seats name seat all.1 (subst (λ m. IsStarted catalogue whole m name seat) (let m : place + suc (length names) ≡ suc place + length names = omega arith in m) here))

-- so as a loop goes on
pub next_started : {A : Type 0} (view : A → Seat) (catalogue : Catalogue) (whole : Relations) (names : List (List ℕ)) (items new : List A) (place : ℕ) (d name : List ℕ) (item : A) → place < length names → AllStarted catalogue whole 0 (take place names) (map view items) →
    name ≡ get_or names place d → IsStarted catalogue whole place name (view item) → new ≡ items ++ item ∷ [] → AllStarted catalogue whole 0 (take (place + 1) names) (map view new)
next_started view catalogue whole names items new place d name item below all is here more =
    let more_names : take place names ++ name ∷ [] ≡ take (place + 1) names = ap (λ (n : List ℕ). take place names ++ n ∷ []) is ∙ sym (take-suc names place d below) ∙ ap (λ n. take n names) (sym (add-one place)) in
    let more_seats : map view items ++ view item ∷ [] ≡ map view new = sym (map-append view items (item ∷ [])) ∙ ap (map view) (sym more) in
    let long : length (take place names) ≡ place = length-take-le place names (omega arith) in
    let size : 0 + length (take place names) ≡ place = omega (arith, long) in
    subst (λ (ns : List (List ℕ)). AllStarted catalogue whole 0 ns (map view new)) more_names
    (subst (AllStarted catalogue whole 0 (take place names ++ name ∷ [])) more_seats
    (started_more catalogue whole 0 (take place names) (map view items) name (view item) all (subst (λ n. IsStarted catalogue whole n name (view item)) (sym size) here)))

-- what holds of all, and of one more
pub all_more : {A : Type 0} (P : A → Type 0) (items : List A) (item : A) → AllByRecursion P items → P item → AllByRecursion P (items ++ item ∷ [])
all_more P [] item all here = (here, tt)
all_more P (x ∷ items) item all here = (all.0, all_more P items item all.1 here)
