-- Lemmas on a chain of catalogues, and on opening over one.
use Rattle.std.proofs.Common.{◌≡◌, ◌∷◌, ℕ, List, ap, sym, inl, inr, length, map, ◌∙◌}
use Rattle.std.specs.Bool.{⊤}
use Rattle.catalog.specs.declared.relation.SplitRelation.{SplitRelation}
use Rattle.catalog.specs.Catalogue.{Catalogue}
use Rattle.catalog.specs.Relation.{catalogue_of}
use Rattle.world.specs.Chain.{sites_of}
use Rattle.lines.specs.declared.fault.ProgramFault.{ProgramFault}
use Rattle.databases.specs.Client.{IsOfClient}
use Rattle.databases.specs.WorldOpener.{StopsOpening}

-- the first catalogue of a chain
head_is : (one other : Catalogue) (more others : List Catalogue) → one ∷ more ≡ other ∷ others → one ≡ other
head_is one other more others e = cc

pub first_is : (chain : List (List (List ℕ) × List SplitRelation)) (first : List (List ℕ) × List SplitRelation) (others : List (List (List ℕ) × List SplitRelation)) (catalogue : Catalogue) (rest : List Catalogue) → chain ≡ first ∷ others → map catalogue_of chain ≡ catalogue ∷ rest →
    catalogue_of first ≡ catalogue
first_is chain first others catalogue rest are is = head_is (catalogue_of first) catalogue (map catalogue_of others) rest (sym (ap (map catalogue_of) are) ∙ is)

-- all catalogues of a chain have the sites of the first one
pub sites_there : (chain : List (List (List ℕ) × List SplitRelation)) (first : List (List ℕ) × List SplitRelation) (others : List (List (List ℕ) × List SplitRelation)) → chain ≡ first ∷ others → length first.0 ≡ length (sites_of chain)
sites_there chain first others are = ap (λ (chain : List (List (List ℕ) × List SplitRelation)). length (sites_of chain)) (sym are)

-- a fault that may stop a database may stop a world as it is opened
pub stops_as_client : (fault : ProgramFault) → IsOfClient fault → StopsOpening (λ why. ⊤) fault
stops_as_client fault (inl memory) = inl memory
stops_as_client fault (inr failed) = inr (failed.0, tt, failed.1)
