-- Lemmas on sessions at once.
use Rattle.std.proofs.Common.{◌≡◌, ◌∷◌, ◌<◌, [], ℕ, zero, suc, List, IfOk, Option, None, Result, Ok, Err, ap, length, map, refl, slice_index_or, subst, sym, arith, ◌∙◌}
use Rattle.std.specs.Bool.{⊤}
use Rattle.std.specs.List.{AllZip}
use Rattle.catalog.specs.declared.relation.SplitRelation.{SplitRelation}
use Rattle.catalog.specs.Catalogue.{Catalogue}
use Rattle.catalog.specs.Relation.{catalogue_of}
use Rattle.store.specs.declared.commit.DeskKept.{DeskKept}
use Rattle.store.specs.DeskContent.{DeskContent}
use Rattle.store.specs.SiteContent.{SiteContent}
use Rattle.desk.specs.CatalogueDatabase.{databases, numbered}
use Rattle.desk.specs.Database.{Database}
use Rattle.desk.specs.OfCatalogue.{from_number}
use Rattle.wire.specs.Opening.{HaveLeaves}
use Rattle.world.specs.Contents.{OfStores}
use Rattle.world.specs.Listed.{IsListed}
use Rattle.world.specs.declared.event.Event.{Event}
use Rattle.world.specs.declared.machines.Machines as code
use Rattle.history.specs.declared.entry.Entry.{Entry}
use Rattle.history.specs.declared.records.Past.{Past}
use Rattle.history.specs.declared.told.Told.{Told}
use Rattle.history.specs.declared.weave.WeaveFault as faults
use Rattle.history.specs.Catalogues.{HasFrom, IsOfCatalogues}
use Rattle.history.specs.DeskHistory.{desk_from}
use Rattle.history.specs.Records.{pasts_in}
use Rattle.history.specs.Woven.{WeavesRun}
use Rattle.runs.specs.declared.conversation.Conversation.{Conversation}
use Rattle.runs.specs.Conversations.{AreHeld, AreOfParts}
use Rattle.runs.specs.Run.{IsVerdict}
use Rattle.lines.specs.RunScript.{SessionPart}
use Rattle.databases.proofs.ChainLemmas.{first_is}

-- what holds of two lists at each place holds of them one by one; of: what is looked at of an element of the first one
pub zip_each : {A B C : Type 0} (P : B → C → Type 0) (of : A → B) (xs : List A) (ys : List C) → length ys ≡ length xs → ((i : ℕ) (d : C) → i < length xs → (x : A) × ((e : A) → slice_index_or xs i e ≡ x) × P (of x) (slice_index_or ys i d)) → AllZip P (map of xs) ys
zip_each P of [] [] same each = tt
zip_each P of [] (y ∷ ys) same each = absurd (cc)
zip_each P of (x ∷ xs) [] same each = absurd (cc)
zip_each P of (x ∷ xs) (y ∷ ys) same each =
    let first = each 0 y (omega arith) in (
      subst (λ other. P (of other) y) (sym (first.1 x)) first.2,
      zip_each P of xs ys (omega (arith, same)) (λ i d within. each (suc i) d (omega (arith, within))),
    )

-- two things that a call gives, and what follows of them
pub both_given : {T E : Type 0} {P Q R : T → Type 0} (result : Result T E) → IfOk result P → IfOk result Q → ((given : T) → P given → Q given → R given) → IfOk result R
both_given (Ok given) p q follows = follows given p q
both_given (Err fault) p q follows = tt

-- what follows of a thing that a call gives
pub given : {T E : Type 0} {P R : T → Type 0} (result : Result T E) → IfOk result P → ((given : T) → P given → R given) → IfOk result R
given (Ok one) p follows = follows one p
given (Err fault) p follows = tt

-- conversations that were all held to their ends
pub all_held : (parts : List SessionPart) (all : List Conversation) → AreHeld parts (map Ok all) → AreOfParts parts all
all_held [] [] held = tt
all_held [] (one ∷ all) held = held
all_held (part ∷ parts) [] held = held
all_held (part ∷ parts) (one ∷ all) held = (held.0, all_held parts all held.1)

-- stores that have the leaves of the first catalogue have those of the first one of its chain
pub leaves_over : {S : Type 0} (is_clean : S → Type 0) (kept : S → SiteContent) (stores : List S) (chain : List (List (List ℕ) × List SplitRelation)) (first : List (List ℕ) × List SplitRelation) (others : List (List (List ℕ) × List SplitRelation)) → chain ≡ first ∷ others → HaveLeaves is_clean kept (catalogue_of first) stores
    → (catalogue : Catalogue) (rest : List Catalogue) → map catalogue_of chain ≡ catalogue ∷ rest → HaveLeaves is_clean kept catalogue stores
leaves_over is_clean kept stores chain first others are have catalogue rest is = subst (λ (catalogue : Catalogue). HaveLeaves is_clean kept catalogue stores) (first_is chain first others catalogue rest are is) have

-- the catalogues of a list have their numbers in it
abbrev Has : (ℕ → Catalogue) → ℕ → List Catalogue → Type 0
Has number n [] = ⊤
Has number n (catalogue ∷ catalogues) = (number n ≡ catalogue) × Has number (suc n) catalogues

shifted : (first next : Catalogue) (more : List Catalogue) (n : ℕ) (catalogues : List Catalogue) → Has (numbered next more) (suc n) catalogues → Has (numbered first (next ∷ more)) (suc (suc n)) catalogues
shifted first next more n [] has = tt
shifted first next more n (catalogue ∷ catalogues) has = (has.0, shifted first next more (suc n) catalogues has.1)

all_numbered : (first : Catalogue) (rest : List Catalogue) → Has (numbered first rest) (suc zero) (first ∷ rest)
all_numbered first [] = (refl, tt)
all_numbered first (next ∷ more) = (refl, shifted first next more zero (next ∷ more) (all_numbered next more))

numbered_from : (first : Catalogue) (rest : List Catalogue) (n : ℕ) → Has (numbered first rest) n (from_number n (first ∷ rest))
numbered_from first rest zero = tt
numbered_from first rest (suc zero) = all_numbered first rest
numbered_from first [] (suc (suc n)) = tt
numbered_from first (next ∷ more) (suc (suc n)) = shifted first next more n (from_number (suc n) (next ∷ more)) (numbered_from next more (suc n))

has_from : (db : Database) (n : ℕ) (catalogues : List Catalogue) → Has db.catalogue n catalogues → HasFrom db n catalogues
has_from db n [] has = tt
has_from db n (catalogue ∷ catalogues) has = (has.0, has_from db (suc n) catalogues has.1)

pub of_catalogues : (first : Catalogue) (rest : List Catalogue) (n : ℕ) (catalogues given : List Catalogue) → IsListed (databases first rest) → given ≡ from_number n catalogues → catalogues ≡ first ∷ rest → IsOfCatalogues (databases first rest) n given
of_catalogues first rest n catalogues given listed from is =
    let here : given ≡ from_number n (first ∷ rest) = from ∙ ap (from_number n) is in
    record { base = listed.base; has = subst (HasFrom (databases first rest) n) (sym here) (has_from (databases first rest) n (from_number n (first ∷ rest)) (numbered_from first rest n)) }

module _ {D S : Type 0} (desk_is_clean desk_is_sound : D → Type 0) (desk_content : D → DeskContent) (site_is_clean site_is_sound : S → Type 0) (site_content : S → SiteContent) where
  -- histories without a fault are one run over the list of a chain's catalogues
  pub woven_over : (machines : code.Machines D S) (catalogs : List (List (List ℕ) × List SplitRelation)) (opening : DeskKept) (entries : List Entry) (pasts : List Past) (lists : List (List Told)) (verdict : Option faults.WeaveFault) (catalogues : List Catalogue) (first : Catalogue) (rest : List Catalogue)
      → IsListed (databases first rest) → map catalogue_of catalogs ≡ from_number opening.version catalogues → catalogues ≡ first ∷ rest → IsVerdict desk_is_clean desk_is_sound desk_content site_is_clean site_is_sound site_content machines catalogs opening entries pasts lists verdict → verdict ≡ None → OfStores desk_is_clean site_is_clean machines
      → (events : List Event) × WeavesRun (databases first rest) opening entries (desk_from desk_content machines.desk) (pasts_in site_content machines.sites.items pasts) machines.desk.later.items lists events
  woven_over machines catalogs opening entries pasts lists verdict catalogues first rest listed given is judged none clean =
      let woven = subst (IsVerdict desk_is_clean desk_is_sound desk_content site_is_clean site_is_sound site_content machines catalogs opening entries pasts lists) none judged in
      (woven.events, woven.run (databases first rest) listed (of_catalogues first rest opening.version catalogues (map catalogue_of catalogs) listed given is) clean)
