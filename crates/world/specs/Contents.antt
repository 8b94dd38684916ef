-- What the machines of the code hold.
use Rattle.std.specs.Prelude.{ℕ, List, [], ◌∷◌, map}
use Rattle.std.specs.List.{AllByRecursion}
use Rattle.store.specs.DeskContent.{DeskContent}
use Rattle.store.specs.SiteContent.{SiteContent}
use Rattle.desk.specs.State.{volatile_of}
use Rattle.world.specs.declared.machines.Machines as code
use Rattle.world.specs.Machines.{Machines}
use Rattle.world.specs.Sites.{seat_from}

-- the machines; of_desk and of_site: what stores keep, refused_desk and refused_site: how often the medium of each has refused
abbrev pub counted : {D S : Type 0} → (D → DeskContent) → (S → SiteContent) → (D → ℕ) → (S → ℕ) → code.Machines D S → Machines
counted of_desk of_site refused_desk refused_site machines =
    record { desk = of_desk machines.desk.store; table = volatile_of machines.desk.volatile; seats = map (seat_from of_site) machines.sites.items; later = machines.desk.later.items; refused = refused_desk machines.desk.store ∷ map (λ site. refused_site site.store) machines.sites.items }

-- so, where it doesn't matter how often
abbrev pub held : {D S : Type 0} → (D → DeskContent) → (S → SiteContent) → code.Machines D S → Machines
held of_desk of_site machines = record (counted of_desk of_site (λ _. 0) (λ _. 0) machines) { refused = [] }

-- so where the medium of no store ever refuses, as over lists
abbrev pub unrefused : {D S : Type 0} → (D → DeskContent) → (S → SiteContent) → code.Machines D S → Machines
unrefused of_desk of_site machines = counted of_desk of_site (λ _. 0) (λ _. 0) machines

-- something holds of the store of each machine
abbrev pub OfStores : {D S : Type 0} → (D → Type 0) → (S → Type 0) → code.Machines D S → Type 0
OfStores OfDesk OfSite machines = OfDesk machines.desk.store × AllByRecursion (λ site. OfSite site.store) machines.sites.items

-- so of the stores that are given for machines
abbrev pub OfGiven : {D S : Type 0} → (D → Type 0) → (S → Type 0) → D → List S → Type 0
OfGiven OfDesk OfSite desk sites = OfDesk desk × AllByRecursion OfSite sites
