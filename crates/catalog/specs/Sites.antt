-- The names of a catalogue's sites.
use Rattle.std.specs.Prelude.{◌≡◌, ◌≤◌, ℕ, Bool, true, false, List, length, nat_eq}
use Rattle.std.specs.Cmp.Lexicographic.{pointwise}
use Rattle.std.specs.List.{AllByRecursion, list_any}
use Rattle.reader.specs.Printable.{AreDistinct}
use Rattle.catalog.specs.Catalogue.{IsSiteName}
use Rattle.catalog.specs.declared.fault.Rule.{Rule}
use Rattle.catalog.specs.declared.fault.Rule.TheVariants.{Name, Twice, Memory}
use Rattle.catalog.specs.Refusal.{RefusesBy}

-- whether a name stands among these
abbrev pub has_name : List (List ℕ) → List ℕ → Bool
has_name names name = list_any (λ other. pointwise nat_eq other name) names

-- the sites that a catalogue may have: names of sites, each once, at most 16
pub record AreSites (sites : List (List ℕ)) : Type 0 where
  pub names : AllByRecursion IsSiteName sites
  pub distinct : AreDistinct sites
  pub few : length sites ≤ 16

-- a refusal of the sites by the rule: but for want of memory, a catalogue may not have these
abbrev pub RefusesSites : List (List ℕ) → Rule → Type 0
RefusesSites sites rule = RefusesBy ⊥ (AreSites sites → ⊥) rule

-- a name of a site that is none of those before it
pub record IsNextSite (before : List (List ℕ)) (site : List ℕ) : Type 0 where
  pub name : IsSiteName site
  pub new : has_name before site ≡ false

-- a refusal of a site behind others by the rule
abbrev pub RefusesNextSite : List (List ℕ) → List ℕ → Rule → Type 0
RefusesNextSite before site rule = RefusesBy ⊥ (IsNextSite before site → ⊥) rule

-- what is wrong with a site behind others, by the rule
abbrev pub IsSiteFault : List (List ℕ) → List ℕ → Rule → Type 0
IsSiteFault before site Name = IsSiteName site → ⊥
IsSiteFault before site Twice = IsSiteName site × (has_name before site ≡ true)
IsSiteFault before site Memory = Unit {0}
IsSiteFault before site _ = ⊥
