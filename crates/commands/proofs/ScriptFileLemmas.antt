-- Lemmas on scripts and dumps in a session: a stretch of tasks is a stretch of a session.
use Rattle.std.proofs.Common.{◌≡◌, ◌++◌, ◌∷◌, [], Bool, ap, refl, sym, subst, ◌∙◌, ℕ, List, Option}
use Rattle.std.specs.List.{flat_map}
use Rattle.meaning.specs.Whole.{Relations}
use Rattle.catalog.specs.Catalogue.{Catalogue}
use Rattle.desk.specs.Database.{Database}
use Rattle.forms.specs.declared.mode.Mode.{Mode}
use Rattle.commands.specs.declared.script_file.Answered.{Answered}
use Rattle.commands.specs.declared.script_file.Answered.TheVariants.{All, Malformed}
use Rattle.databases.specs.Client.{Seen, Standing, standing_of}
use Rattle.databases.specs.ListClient.{AnswersTaskOver, ListStanding, in_force, list_standing_of}
use Rattle.lines.specs.Reply.{Told, text_of}
use Rattle.lines.specs.Script.{Reading}
use Rattle.commands.specs.ScriptFile.{AnswersScript}
use Rattle.commands.specs.Session.{Answer, AnswersEach, ListPiece, Piece, PiecesCome, Talks, exchanges_in, list_piece_text, piece_text}
use Rattle.databases.specs.Solo.{AnswersInTurn, AnswersTasks, Stretches}
use Rattle.commands.proofs.SessionLemmas.{talks_none}

-- each task with its answer, as a piece of what is written
abbrev pieces_of : (catalogue : Catalogue) → Mode → List (Reading × Told) → List (Piece catalogue)
pieces_of catalogue mode [] = []
pieces_of catalogue mode (one ∷ others) = Answer (record { mode = mode; task = one.0; told = one.1 }) ∷ pieces_of catalogue mode others

each_of : (mode : Mode) (catalogue : Catalogue) (answers : List (Reading × Told)) (before after : Standing catalogue) → AnswersTasks mode catalogue answers before after → AnswersEach catalogue (exchanges_in catalogue (pieces_of catalogue mode answers)) before after
each_of mode catalogue [] before after same = same
each_of mode catalogue (one ∷ others) before after done = (done.0, done.1, each_of mode catalogue others done.0 after done.2)

text_of_pieces : (mode : Mode) (catalogue : Catalogue) (answers : List (Reading × Told)) → flat_map (λ (one : Reading × Told). text_of one.1) answers ≡ flat_map (piece_text catalogue) (pieces_of catalogue mode answers)
text_of_pieces mode catalogue [] = refl
text_of_pieces mode catalogue (one ∷ others) = ap (λ (rest : List ℕ). text_of one.1 ++ rest) (text_of_pieces mode catalogue others)

-- so over a list of catalogues, each under the one in force as it is answered
list_pieces : (mode : Mode) (db : Database) (whole : Relations) (answers : List (Reading × Told)) (before after : ListStanding db) → AnswersInTurn (AnswersTaskOver mode db whole) answers before after →
    (pieces : List ListPiece) × PiecesCome db whole pieces before after × (flat_map (λ (one : Reading × Told). text_of one.1) answers ≡ flat_map list_piece_text pieces)
list_pieces mode db whole [] before after same = ([], same, refl)
list_pieces mode db whole (one ∷ others) before after done =
    let rest = list_pieces mode db whole others done.0 after done.2 in
    let piece : ListPiece = (in_force db before, Answer (record { mode = mode; task = one.0; told = one.1 })) in
    (piece ∷ rest.0, (done.0, refl, done.1, rest.1), ap (λ (others : List ℕ). text_of one.1 ++ others) rest.2)

pub stretch_talks : {B : Type 0} (seen : Seen B) (mode : Mode) (tasks : List Reading) (before after : Option (List ℕ)) (old new : B) (any_refused : Bool) → (seen.is_clean new → seen.is_clean old) → Stretches seen mode tasks before after old new any_refused → Talks seen before after old new
stretch_talks seen mode tasks before after old new any_refused was_clean stretch = record {
  clean = was_clean;
  written = stretch.written;
  told = stretch.told;
  stretch = λ catalogue whole past clean h.
      let one = stretch.ran catalogue whole past clean h in
      record {
        later = one.later;
        goes_on = one.goes_on;
        pieces = pieces_of catalogue mode one.work.answers;
        answered = each_of mode catalogue one.work.answers (standing_of seen catalogue old past) (standing_of seen catalogue new one.later) one.work.answered;
        lines = one.work.lines ∙ text_of_pieces mode catalogue one.work.answers;
      };
  over = λ db whole happened listed clean h.
      let one = stretch.over db whole happened listed clean h in
      let all = list_pieces mode db whole one.work.answers (list_standing_of seen old happened) (list_standing_of seen new one.later) one.work.answered in
      record { later = one.later; goes_on = one.goes_on; pieces = all.0; come = all.1; lines = one.work.lines ∙ all.2 };
}

-- the lines of a script that were answered, or nothing
pub script_talks : {B : Type 0} (seen : Seen B) (mode : Mode) (script : List ℕ) (before after : Option (List ℕ)) (old new : B) (answered : Answered) → (seen.is_clean new → seen.is_clean old) → AnswersScript seen mode script before after old new answered → Talks seen before after old new
script_talks seen mode script before after old new (All any_refused) was_clean h = stretch_talks seen mode _ before after old new any_refused was_clean h.1
script_talks seen mode script before after old new (Malformed line) was_clean h =
    subst (λ (next : _). Talks seen before after old next) (sym h.1) (subst (λ (output : Option (List ℕ)). Talks seen before output old old) (sym h.2) (talks_none seen before old))
