-- Lemmas on what is told of the catalogue in force.
use Rattle.std.proofs.Common.{◌≡◌, ℕ, List, ap, length, ◌∙◌}
use Rattle.lines.specs.Listing.{catalog_text}
use Rattle.commands.specs.CatalogWord.{in_force_text, name_at}

-- its line
pub in_force_is : (names : List (List ℕ)) (version number count : ℕ) (name : List ℕ) → number ≡ version → count ≡ length names → name ≡ name_at names number → catalog_text number count name ≡ in_force_text names version
in_force_is names version number count name numbered counted named =
    ap (λ n. catalog_text n count name) numbered ∙ ap (λ k. catalog_text version k name) counted ∙ ap (λ bytes. catalog_text version (length names) bytes) (named ∙ ap (λ n. name_at names n) numbered)
