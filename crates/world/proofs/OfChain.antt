-- The catalogues of a chain have the same sites and relations, and the first one has the number 1.
use Rattle.std.proofs.Common.{◌≡◌, sym, ap, ◌∙◌, inl, inr, ℕ, zero, suc, List, [], ◌∷◌, map}
use Rattle.catalog.specs.declared.relation.SplitRelation.{SplitRelation}
use Rattle.catalog.specs.Catalogue.{Catalogue}
use Rattle.catalog.specs.Chain.{Follow, IsChain}
use Rattle.catalog.specs.FragmentLeaf.{schemas_of}
use Rattle.catalog.specs.Relation.{catalogue_of}
use Rattle.desk.specs.declared.desk.Desk.{Desk}
use Rattle.desk.specs.OfCatalogue.{from_number}
use Rattle.world.specs.Chain.{IsLast, StandsAt, StandsLast, sites_of}
use Rattle.world.specs.Frame.{EndsIn}
use Rattle.world.proofs.Leaves.{ends_same}
use Rattle.world.proofs.ListIsLawful.{schemas_same}
use Rattle.world.proofs.OneCatalogue.{first_is, in_force_is, none_later, none_of, rest_is}

-- where the chain has one catalogue, that is in force, and none comes later
pub last_of : {D : Type 0} (n : ℕ) (catalogue : Catalogue) (chain : List Catalogue) (desk : Desk D) → chain ≡ catalogue ∷ [] → StandsAt n chain desk → IsLast catalogue desk
last_of n catalogue chain desk alone stands = record {
  is = in_force_is n catalogue chain desk.catalog desk.later.items alone stands;
  none = none_later n catalogue chain desk.catalog desk.later.items alone stands;
}

same_sites : (c : Catalogue) (cs : List Catalogue) → Follow c cs → (n : ℕ) (x : Catalogue) (xs : List Catalogue) → x ∷ xs ≡ from_number n (c ∷ cs) → x.sites ≡ c.sites
same_sites c cs follows zero x xs e = absurd (cc)
same_sites c cs follows (suc zero) x xs e = ap (λ (c : Catalogue). c.sites) (let is : x ≡ c = cc in is)
same_sites c [] follows (suc (suc n)) x xs e = absurd (cc)
same_sites c (next ∷ rest) follows (suc (suc n)) x xs e = same_sites next rest follows.1 (suc n) x xs e ∙ sym follows.0.1.sites

pub sites_are : (chain : List (List (List ℕ) × List SplitRelation)) → IsChain (map catalogue_of chain) → (n : ℕ) (catalog : List (List ℕ) × List SplitRelation) (later : List Catalogue) → catalogue_of catalog ∷ later ≡ from_number n (map catalogue_of chain) → catalog.0 ≡ sites_of chain
sites_are [] chain n catalog later e = absurd chain
sites_are (first ∷ rest) chain n catalog later e = same_sites (catalogue_of first) (map catalogue_of rest) chain n (catalogue_of catalog) later e

same_schemas : (c : Catalogue) (cs : List Catalogue) → Follow c cs → (n : ℕ) (x : Catalogue) (xs : List Catalogue) → x ∷ xs ≡ from_number n (c ∷ cs) → schemas_of x ≡ schemas_of c
same_schemas c cs follows zero x xs e = absurd (cc)
same_schemas c cs follows (suc zero) x xs e = ap schemas_of (let is : x ≡ c = cc in is)
same_schemas c [] follows (suc (suc n)) x xs e = absurd (cc)
same_schemas c (next ∷ rest) follows (suc (suc n)) x xs e = same_schemas next rest follows.1 (suc n) x xs e ∙ sym (schemas_same c next follows.0.0 follows.0.1)

pub schemas_are : (first : Catalogue) (rest chain : List Catalogue) → IsChain chain → chain ≡ first ∷ rest → (n : ℕ) (catalogue : Catalogue) (later : List Catalogue) → catalogue ∷ later ≡ from_number n chain → schemas_of catalogue ≡ schemas_of first
schemas_are first rest [] is same n catalogue later e = absurd is
schemas_are first rest (one ∷ others) is same n catalogue later e = same_schemas one others is n catalogue later e ∙ ap schemas_of (let head : one ≡ first = cc in head)

-- the chain ends in those from one of them on
pub ends_from : (n : ℕ) (catalogue : Catalogue) (later chain : List Catalogue) → catalogue ∷ later ≡ from_number n chain → EndsIn chain (catalogue ∷ later)
ends_from n catalogue later [] e = absurd (cc)
ends_from zero catalogue later (one ∷ others) e = absurd (cc)
ends_from (suc zero) catalogue later (one ∷ others) e = ends_same e
ends_from (suc (suc n)) catalogue later (one ∷ others) e =
    let ends = ends_from (suc n) catalogue later others e in
    record { passed = one ∷ ends.passed; is = ap (λ rest. one ∷ rest) ends.is }

-- there is a first one
pub first_there : (chain : List (List (List ℕ) × List SplitRelation)) → IsChain (map catalogue_of chain) → (n : ℕ) → n ≡ 1 → (first : Catalogue) × (rest : List Catalogue) × (from_number n (map catalogue_of chain) ≡ first ∷ rest)
first_there [] chain n one = absurd chain
first_there (first ∷ rest) chain n one = (catalogue_of first, map catalogue_of rest, ap (λ m. from_number m (map catalogue_of (first ∷ rest))) one)

-- so where the store keeps the number of the last one
pub last_by : {D : Type 0} (n m : ℕ) (catalogue : Catalogue) (chain : List Catalogue) (desk : Desk D) → n ≡ m → StandsLast m chain catalogue → StandsAt n chain desk → IsLast catalogue desk
last_by n m catalogue chain desk same (inl alone) stands = last_of n catalogue chain desk alone stands
last_by n m catalogue chain desk same (inr there) stands =
    let here : catalogue_of desk.catalog ∷ map catalogue_of desk.later.items ≡ catalogue ∷ [] = stands ∙ ap (λ k. from_number k chain) same ∙ there in
    record { is = first_is catalogue (catalogue_of desk.catalog) (map catalogue_of desk.later.items) here; none = none_of desk.later.items (rest_is catalogue (catalogue_of desk.catalog) (map catalogue_of desk.later.items) here) }
