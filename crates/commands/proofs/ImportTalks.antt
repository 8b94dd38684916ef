-- Lemmas on an import in a session: what its commands are answered by isn't told, but how many rows are committed.
use Rattle.std.proofs.Common.{◌∷◌, [], append-nil, false, length, map, refl, subst, sym, true, ℕ, List, Option}
use Rattle.std.specs.Io.KnownBytes.{Appends}
use Rattle.terms.specs.declared.value.Value.{Value}
use Rattle.catalog.specs.Catalogue.{Catalogue}
use Rattle.forms.specs.declared.mode.Mode.TheVariants.{Tabs}
use Rattle.lines.specs.Reply.{Told}
use Rattle.lines.specs.Script.{Reading}
use Rattle.databases.specs.Client.{Seen, Standing, standing_of}
use Rattle.databases.specs.ListClient.{in_force, list_standing_of}
use Rattle.commands.specs.Import.{Comes, ImportMade, IsCutShort, import_of, imported_text}
use Rattle.commands.specs.Session.{AnswersEach, Exchange, Import, Talks, imports_by}
use Rattle.databases.specs.Solo.{AnswersTasks}
use Rattle.commands.proofs.ImportLemmas.{cut_comes}

-- each task with its answer, as a session has it
each_of : (catalogue : Catalogue) (answers : List (Reading × Told)) (before after : Standing catalogue) → AnswersTasks Tabs catalogue answers before after → AnswersEach catalogue (map imports_by answers) before after
each_of catalogue [] before after same = same
each_of catalogue (one ∷ others) before after done = (done.0, done.1, each_of catalogue others done.0 after done.2)

-- an import has come, and how many rows are committed was written
pub import_talks : {B : Type 0} (seen : Seen B) (made : ImportMade) (before after : Option (List ℕ)) (old new : B) → Comes seen made.answers old new → Appends before after (imported_text made.count) → Talks seen before after old new
import_talks seen made before after old new comes wrote = record {
  clean = comes.clean;
  written = imported_text made.count;
  told = wrote;
  stretch = λ catalogue whole past clean h.
      let come = comes.come catalogue whole past clean h in
      let old_standing = standing_of seen catalogue old past in
      let new_standing = standing_of seen catalogue new come.later in
      record {
        later = come.later;
        goes_on = come.goes_on;
        pieces = Import made ∷ [];
        answered = subst (λ (done : List Exchange). AnswersEach catalogue done old_standing new_standing) (sym (append-nil (map imports_by made.answers))) (each_of catalogue made.answers old_standing new_standing come.answered);
        lines = sym (append-nil (imported_text made.count));
      };
  over = λ db whole happened listed clean h.
      let come = comes.over db whole happened listed clean h in
      record {
        later = come.later;
        goes_on = come.goes_on;
        pieces = (in_force db (list_standing_of seen old happened), Import made) ∷ [];
        come = (list_standing_of seen new come.later, refl, come.answered, refl);
        lines = sym (append-nil (imported_text made.count));
      };
}

-- so of one that refused nothing
pub whole_talks : {B : Type 0} (seen : Seen B) (many : ℕ) (name : List ℕ) (rows : List (List Value)) (before after : Option (List ℕ)) (old new : B) → Comes seen (import_of many name rows) old new → Appends before after (imported_text (length rows)) → Talks seen before after old new
whole_talks seen many name rows before after old new comes wrote =
    import_talks seen (record { many = many; name = name; rows = rows; is_cut = false; answers = import_of many name rows; count = length rows; is = (refl, refl) }) before after old new comes wrote

-- and of one that was cut short
pub cut_talks : {B : Type 0} (seen : Seen B) (many : ℕ) (name : List ℕ) (rows : List (List Value)) (before after : Option (List ℕ)) (old new : B) (count : ℕ) (reply : Told) → IsCutShort seen many name rows old new count reply → Appends before after (imported_text count) → Talks seen before after old new
cut_talks seen many name rows before after old new count reply cut wrote =
    let so = cut_comes seen many name rows old new count reply cut in
    import_talks seen (record { many = many; name = name; rows = rows; is_cut = true; answers = so.0; count = count; is = so.1 }) before after old new so.2 wrote
