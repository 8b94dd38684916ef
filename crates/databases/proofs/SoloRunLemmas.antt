-- Lemmas on scripts that run over a chain of catalogues.
use Rattle.std.proofs.Common.{◌≡◌, ◌∷◌, ℕ, Bool, List, Option, subst}
use Rattle.std.specs.Io.KnownBytes.{Keeps}
use Rattle.catalog.specs.Catalogue.{Catalogue}
use Rattle.desk.specs.CatalogueDatabase.{database, databases}
use Rattle.desk.specs.Database.{Database}
use Rattle.world.specs.Commands.{MovesFollow}
use Rattle.world.specs.Listed.{IsListed}
use Rattle.world.specs.ListServed.{ListHeardIsSerial}
use Rattle.forms.specs.declared.mode.Mode.{Mode}
use Rattle.lines.specs.Script.{Reading}
use Rattle.databases.specs.Client.{Seen}
use Rattle.databases.specs.Origin.{BeginsOver, Origin}
use Rattle.databases.specs.Solo.{IsRunOver, Stretches}
use Rattle.databases.proofs.ClientLemmas.{run_over}
use Rattle.databases.proofs.ListClientLemmas.{list_run}
use Rattle.databases.proofs.SoloLemmas.{Appends-kept}

-- tasks over a database of several catalogues that was opened have run
pub ran_over : {B : Type 0} (seen : Seen B) (IsOrigin : Origin → Type 0) (mode : Mode) (old new : Option (List ℕ)) (catalogues : List Catalogue) (tasks : List Reading) (opened ended : B) (any_refused : Bool) → BeginsOver seen IsOrigin catalogues opened → MovesFollow (database (seen.catalogue opened)) →
    ((first : Catalogue) (rest : List Catalogue) → catalogues ≡ first ∷ rest → IsListed (databases first rest)) → ((db : Database) → IsListed db → ListHeardIsSerial db) → (seen.is_clean ended → seen.is_clean opened) → Stretches seen mode tasks old new opened ended any_refused → IsRunOver seen IsOrigin mode catalogues tasks old new any_refused
ran_over seen IsOrigin mode old new catalogues tasks opened ended any_refused fresh law listed serial was_clean works = record {
  origin = fresh.origin;
  is_origin = fresh.is_origin;
  opened = opened;
  begun = fresh.last;
  ended = ended;
  stretch = works;
  ran = λ catalogue whole last begins clean.
      let begun = fresh.last catalogue last in
      let is = (begun.goes_on whole begins (was_clean clean)).catalog in
      run_over seen mode catalogue fresh.origin tasks works.written any_refused opened ended begun (subst (λ (own : Catalogue). MovesFollow (database own)) is law) was_clean (λ whole past clean h. works.ran catalogue whole past clean h) whole begins clean;
  ran_over = λ first rest whole chain begins clean.
      let of = listed first rest chain in
      list_run seen mode first rest fresh.origin tasks works.written any_refused opened ended (fresh.over first rest chain) of (serial (databases first rest) of) was_clean (λ whole happened clean h. works.over (databases first rest) whole happened of clean h) whole begins clean;
}

-- what was written stays so
pub flushed_over : {B : Type 0} (seen : Seen B) (IsOrigin : Origin → Type 0) (mode : Mode) (catalogues : List Catalogue) (tasks others : List Reading) (old new flushed : Option (List ℕ)) (any_refused : Bool) → tasks ≡ others → Keeps new flushed → IsRunOver seen IsOrigin mode catalogues tasks old new any_refused → IsRunOver seen IsOrigin mode catalogues others old flushed any_refused
flushed_over seen IsOrigin mode catalogues tasks others old new flushed any_refused are kept run =
    subst (λ (tasks : List Reading). IsRunOver seen IsOrigin mode catalogues tasks old flushed any_refused) are (record {
      origin = run.origin;
      is_origin = run.is_origin;
      opened = run.opened;
      begun = run.begun;
      ended = run.ended;
      stretch = record { written = run.stretch.written; told = Appends-kept old new flushed run.stretch.written run.stretch.told kept; ran = run.stretch.ran; over = run.stretch.over };
      ran = run.ran;
      ran_over = run.ran_over;
    })
