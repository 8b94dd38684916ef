-- What calls leave of the machines, one after another.
use Rattle.std.proofs.Common.{◌≡◌, ◌≢◌, ◌==◌, ◌∙◌, refl, sym, ap, inl, inr, append_assoc, if◌then◌else◌, ℕ, Bool, true, false, List, [], ◌∷◌, ◌++◌, map}
use Rattle.std.proofs.lemmas.Bool.{eq-eqb}
use Rattle.std.proofs.lemmas.List.{map-append}
use Rattle.catalog.specs.declared.relation.SplitRelation.{SplitRelation}
use Rattle.protocol.proofs.Basics.{clash}
use Rattle.desk.specs.declared.desk.Desk as desks
use Rattle.desk.specs.OfCatalogue.{follow}
use Rattle.world.specs.declared.machines.Machines as code
use Rattle.world.specs.Counted.{counts}
use Rattle.world.specs.Frame.{EndsIn, LeavesDatabase, LeavesMachines, StaysOrFollows}
use Rattle.world.proofs.Counting.{no_fewer, no_fewer_then}

-- ---- catalogues pass
-- none has
pub ends_same : {A : Type 0} {whole rest : List A} → rest ≡ whole → EndsIn whole rest
ends_same same = record { passed = []; is = same }

pub ends_alike : {A : Type 0} {x y : A} {xs ys : List A} → y ≡ x → ys ≡ xs → EndsIn (x ∷ xs) (y ∷ ys)
ends_alike first rest = ends_same cc

-- some have, and then others
pub ends_then : {A : Type 0} {first second third : List A} → EndsIn first second → EndsIn second third → EndsIn first third
ends_then {third = third} one two = record { passed = one.passed ++ two.passed; is = append_assoc one.passed two.passed third ∙ ap (λ rest. one.passed ++ rest) two.is ∙ one.is }

-- seen otherwise
pub ends_map : {A B : Type 0} (f : A → B) {xs ys : List A} → EndsIn xs ys → EndsIn (map f xs) (map f ys)
ends_map f {ys = ys} ends = record { passed = map f ends.passed; is = sym (map-append f ends.passed ys) ∙ ap (map f) ends.is }

never_none : {A : Type 0} (passed : List A) (x : A) (xs : List A) → passed ++ x ∷ xs ≢ []
never_none [] x xs e = cc
never_none (y ∷ passed) x xs e = cc

only_rest : {A : Type 0} (passed : List A) (x y : A) (xs : List A) → passed ++ x ∷ xs ≡ y ∷ [] → (x ≡ y) × (xs ≡ [])
only_rest [] x y xs e = (cc, cc)
only_rest (z ∷ passed) x y xs e = absurd (never_none passed x xs cc)

-- the last one stays
pub ends_last : {A : Type 0} {x y : A} {xs ys : List A} → EndsIn (x ∷ xs) (y ∷ ys) → xs ≡ [] → (y ≡ x) × (ys ≡ [])
ends_last {x = x} {y = y} {ys = ys} ends none = only_rest ends.passed y x ys (ends.is ∙ ap (λ rest. x ∷ rest) none)

abbrev Catalogs : Type 0
Catalogs = (List (List ℕ) × List SplitRelation) × List (List (List ℕ) × List SplitRelation)

-- the next one comes into force, or none does
pub ends_by_letter : (catalog now : List (List ℕ) × List SplitRelation) (later after : List (List (List ℕ) × List SplitRelation)) (same : Bool) → ◌≡◌ {A = Catalogs} (now, after) (if same then (catalog, later) else follow catalog later) → EndsIn (catalog ∷ later) (now ∷ after)
ends_by_letter catalog now later after true stands = ends_same (ap (λ (pair : Catalogs). pair.0 ∷ pair.1) stands)
ends_by_letter catalog now [] after false stands = ends_same (ap (λ (pair : Catalogs). pair.0 ∷ pair.1) stands)
ends_by_letter catalog now (next ∷ rest) after false stands = record { passed = catalog ∷ []; is = ap (λ (pair : Catalogs). catalog ∷ pair.0 ∷ pair.1) stands }

pub ends_follow : {D S : Type 0} (old new : code.Machines D S) → StaysOrFollows old new → EndsIn (old.desk.catalog ∷ old.desk.later.items) (new.desk.catalog ∷ new.desk.later.items)
ends_follow old new (inl same) = ends_alike same.0 same.1
ends_follow old new (inr passed) = ends_by_letter old.desk.catalog new.desk.catalog old.desk.later.items new.desk.later.items false passed.1

-- so by one event, and not but with another number
pub follows_by_letter : {D S : Type 0} (old : code.Machines D S) (new : desks.Desk D) → ◌≡◌ {A = Catalogs} (new.catalog, new.later.items) (if new.volatile.version == old.desk.volatile.version then (old.desk.catalog, old.desk.later.items) else follow old.desk.catalog old.desk.later.items) →
    StaysOrFollows old (record { alloc = old.alloc; desk = new; sites = old.sites; traffic = old.traffic })
follows_by_letter {D} {S} old new stands = go (new.volatile.version == old.desk.volatile.version) refl stands
  where
    go : (same : Bool) → (new.volatile.version == old.desk.volatile.version) ≡ same → ◌≡◌ {A = Catalogs} (new.catalog, new.later.items) (if same then (old.desk.catalog, old.desk.later.items) else follow old.desk.catalog old.desk.later.items) →
        StaysOrFollows old (record { alloc = old.alloc; desk = new; sites = old.sites; traffic = old.traffic })
    go true test is = inl (ap (λ (pair : Catalogs). pair.0) is, ap (λ (pair : Catalogs). pair.1) is)
    go false test is = inr ((λ same. clash (eq-eqb new.volatile.version old.desk.volatile.version same) test), is)

module _ {D S : Type 0} (desk_is_clean : D → Type 0) (site_is_clean : S → Type 0) (desk_is_sound : D → Type 0) (site_is_sound : S → Type 0) (desk_refused : D → ℕ) (site_refused : S → ℕ) where
  -- nothing was done
  pub leaves_still : (machines : code.Machines D S) → LeavesMachines desk_is_clean site_is_clean desk_is_sound site_is_sound desk_refused site_refused machines machines
  leaves_still machines = record { clean = λ clean. clean; sound = λ clean sound. sound; counts = no_fewer (counts desk_refused site_refused machines); catalog = refl; later = refl }

  pub database_still : (machines : code.Machines D S) → LeavesDatabase desk_is_clean site_is_clean desk_is_sound site_is_sound desk_refused site_refused machines machines
  database_still machines = record { clean = λ clean. clean; sound = λ clean sound. sound; counts = no_fewer (counts desk_refused site_refused machines); catalogs = ends_same refl }

  -- a call by which no letter comes is one by which letters may come
  pub leaves_so : (old new : code.Machines D S) → LeavesMachines desk_is_clean site_is_clean desk_is_sound site_is_sound desk_refused site_refused old new → LeavesDatabase desk_is_clean site_is_clean desk_is_sound site_is_sound desk_refused site_refused old new
  leaves_so old new leaves = record { clean = leaves.clean; sound = leaves.sound; counts = leaves.counts; catalogs = ends_alike leaves.catalog leaves.later }

  -- one call, and then another
  pub leaves_then : (first second third : code.Machines D S) → LeavesDatabase desk_is_clean site_is_clean desk_is_sound site_is_sound desk_refused site_refused first second →
      LeavesDatabase desk_is_clean site_is_clean desk_is_sound site_is_sound desk_refused site_refused second third → LeavesDatabase desk_is_clean site_is_clean desk_is_sound site_is_sound desk_refused site_refused first third
  leaves_then first second third one two = record {
    clean = λ clean. one.clean (two.clean clean);
    sound = λ clean sound. two.sound clean (one.sound (two.clean clean) sound);
    counts = no_fewer_then (counts desk_refused site_refused first) (counts desk_refused site_refused second) (counts desk_refused site_refused third) one.counts two.counts;
    catalogs = ends_then one.catalogs two.catalogs;
  }

  -- letters come behind a call
  pub leaves_into : (first second third : code.Machines D S) → LeavesMachines desk_is_clean site_is_clean desk_is_sound site_is_sound desk_refused site_refused first second →
      LeavesDatabase desk_is_clean site_is_clean desk_is_sound site_is_sound desk_refused site_refused second third → LeavesDatabase desk_is_clean site_is_clean desk_is_sound site_is_sound desk_refused site_refused first third
  leaves_into first second third one two = leaves_then first second third (leaves_so first second one) two
