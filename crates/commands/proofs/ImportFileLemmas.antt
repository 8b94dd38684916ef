-- Lemmas on an import over a database that was opened for it.
use Rattle.std.proofs.Common.{Bool, flat_map, length, map, ℕ, List, Option}
use Rattle.std.specs.Io.KnownBytes.{Appends}
use Rattle.std.specs.List.{list_any}
use Rattle.terms.specs.declared.value.Value.{Value}
use Rattle.catalog.specs.Catalogue.{Catalogue}
use Rattle.world.specs.Commands.{MovesFollow}
use Rattle.desk.specs.CatalogueDatabase.{database}
use Rattle.forms.specs.declared.mode.Mode.TheVariants.{Tabs}
use Rattle.lines.specs.Reply.{Told, is_refusal, text_of}
use Rattle.lines.specs.Script.{Reading}
use Rattle.databases.specs.Client.{Seen}
use Rattle.commands.specs.Import.{Comes, IsImport, imported_text}
use Rattle.commands.specs.ImportFile.{HasInserted, many_of}
use Rattle.databases.specs.Origin.{Begins, Origin}
use Rattle.databases.proofs.ClientLemmas.{run_from}
use Rattle.commands.proofs.ImportLemmas.{comes_ran}

-- an import that has come over a database that was opened has run
pub has_inserted : {B : Type 0} (seen : Seen B) (IsOrigin : Origin → Type 0) (catalogue : Catalogue) (name : List ℕ) (rows : List (List Value)) (many : Option ℕ) (is_cut : Bool) (old new : Option (List ℕ)) (opened ended : B) (answers : List (Reading × Told)) (count : ℕ) →
    Begins seen IsOrigin catalogue opened → MovesFollow (database catalogue) → IsImport is_cut (many_of many (length rows)) name rows answers count → Comes seen answers opened ended → Appends old new (imported_text count) → HasInserted seen IsOrigin catalogue name rows many is_cut old new
has_inserted seen IsOrigin catalogue name rows many is_cut old new opened ended answers count fresh law is comes told = record {
  answers = answers;
  count = count;
  is = is;
  any_refused = list_any (λ (one : Reading × Told). is_refusal one.1) answers;
  ran = run_from seen IsOrigin Tabs catalogue (map (λ (one : Reading × Told). one.0) answers) (flat_map (λ (one : Reading × Told). text_of one.1) answers) (list_any (λ (one : Reading × Told). is_refusal one.1) answers) opened ended fresh law comes.clean
      (λ whole past clean h. comes_ran seen answers opened ended comes catalogue whole past clean h);
  told = told;
}
