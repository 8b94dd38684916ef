-- A coordinator of one catalogue has no other in force, and none that comes after it.
use Rattle.std.proofs.Common.{◌≡◌, refl, sym, ◌∙◌, ap, subst, ℕ, zero, suc, List, [], ◌∷◌, map}
use Rattle.catalog.specs.declared.relation.SplitRelation.{SplitRelation}
use Rattle.catalog.specs.Catalogue.{Catalogue}
use Rattle.catalog.specs.Relation.{catalogue_of}
use Rattle.desk.specs.Database.{Database}
use Rattle.desk.specs.OfCatalogue.{IsNextOf, first_in, from_number}

pub first_is : (c x : Catalogue) (xs : List Catalogue) → x ∷ xs ≡ c ∷ [] → x ≡ c
first_is c x xs e = cc

pub rest_is : (c x : Catalogue) (xs : List Catalogue) → x ∷ xs ≡ c ∷ [] → xs ≡ []
rest_is c x xs e = cc

-- the number is 1 where there is a catalogue of it
numbered_one : (n : ℕ) (c x : Catalogue) (xs : List Catalogue) → x ∷ xs ≡ from_number n (c ∷ []) → x ∷ xs ≡ c ∷ []
numbered_one zero c x xs e = absurd (cc)
numbered_one (suc zero) c x xs e = e
numbered_one (suc (suc n)) c x xs e = absurd (cc)

pub none_of : (later : List (List (List ℕ) × List SplitRelation)) → map catalogue_of later ≡ [] → later ≡ []
none_of [] e = refl
none_of (catalog ∷ later) e = absurd (cc)

module _ (n : ℕ) (c : Catalogue) (chain : List Catalogue) (catalog : List (List ℕ) × List SplitRelation) (later : List (List (List ℕ) × List SplitRelation)) (alone : chain ≡ c ∷ []) (stands : catalogue_of catalog ∷ map catalogue_of later ≡ from_number n chain) where
  here : catalogue_of catalog ∷ map catalogue_of later ≡ c ∷ []
  here = numbered_one n c (catalogue_of catalog) (map catalogue_of later) (stands ∙ ap (from_number n) alone)

  pub in_force_is : catalogue_of catalog ≡ c
  in_force_is = first_is c (catalogue_of catalog) (map catalogue_of later) here

  pub none_later : later ≡ []
  none_later = none_of later (rest_is c (catalogue_of catalog) (map catalogue_of later) here)

-- where none comes next a letter brings none
pub no_next : (db : Database) (n : ℕ) (later : List (List (List ℕ) × List SplitRelation)) → later ≡ [] → IsNextOf db n (first_in later)
no_next db n later none = subst (λ (those : List (List (List ℕ) × List SplitRelation)). IsNextOf db n (first_in those)) (sym none) tt

-- one catalogue has the number 1
pub one_there : (c : Catalogue) (chain : List Catalogue) (n : ℕ) → chain ≡ c ∷ [] → n ≡ 1 → from_number n chain ≡ c ∷ []
one_there c chain n alone one = ap (λ cs. from_number n cs) alone ∙ ap (λ m. from_number m (c ∷ [])) one
