-- Lemmas on databases that are opened.
use Rattle.std.proofs.Common.{◌≡◌, ◌∷◌, ℕ, List, [], ap, inl, map, sym, ◌∙◌}
use Rattle.catalog.specs.declared.relation.SplitRelation.{SplitRelation}
use Rattle.catalog.specs.Catalogue.{Catalogue}
use Rattle.catalog.specs.Relation.{catalogue_of}
use Rattle.databases.specs.Client.{Seen}
use Rattle.databases.specs.Origin.{Begins, BeginsOver, IsLastOf, Kept, New, Origin}

-- the first of a chain is this catalogue
pub first_one : (chain : List (List (List ℕ) × List SplitRelation)) (first : List (List ℕ) × List SplitRelation) (rest : List (List (List ℕ) × List SplitRelation)) (catalogue : Catalogue) (later : List Catalogue) → chain ≡ first ∷ rest → map catalogue_of chain ≡ catalogue ∷ later → catalogue_of first ≡ catalogue
first_one chain first rest catalogue later is one =
    let both : catalogue_of first ∷ map catalogue_of rest ≡ catalogue ∷ later = ap (map catalogue_of) (sym is) ∙ one in
    let same : catalogue_of first ≡ catalogue = cc in
    same

-- the only catalogue is the last one
pub last_alone : (catalogues : List Catalogue) (origin : Origin) (catalogue : Catalogue) → catalogues ≡ catalogue ∷ [] → IsLastOf catalogues origin catalogue
last_alone catalogues New catalogue one = one
last_alone catalogues (Kept found) catalogue one = inl one

-- a database of one catalogue that was opened
pub begins_alone : {B : Type 0} (seen : Seen B) (IsOrigin : Origin → Type 0) (catalogues : List Catalogue) (catalogue : Catalogue) (base : B) → catalogues ≡ catalogue ∷ [] → BeginsOver seen IsOrigin catalogues base → Begins seen IsOrigin catalogue base
begins_alone seen IsOrigin catalogues catalogue base one begun = (begun.origin, begun.is_origin, begun.last catalogue (last_alone catalogues begun.origin catalogue one))
