use Rattle.std.proofs.Common.{◌≡◌, ap, codes, true, ◌∙◌}
use Rattle.std.proofs.lemmas.Result.{IfOk-weaker}
use Rattle.clap.specs.Words.{App, Shape, app_of, with_subcommand}
use Rattle.clap.specs.Simple.{app_of_fields, on_top}
use Rattle.lines.specs.Grammar.{chained, command_with, command_with_two, counted, explained, held, in_folder, in_sqlite, of_any_script, of_file, of_relation, of_script, program, retried, shown, stored, suggesting, treed}
use Rattle.lines.proofs.grammar.command.Goals as goal

-- the program with more and more of its commands
abbrev one : App
one = with_subcommand program (chained (stored (shown (held (explained (of_any_script (codes "solo"))))))).top

abbrev two : App
two = with_subcommand one (treed (explained (command_with (codes "check") (codes "CATALOG")))).top

abbrev three : App
three = with_subcommand two (treed (command_with_two (codes "plan") (codes "CATALOG") (codes "STATEMENT"))).top

abbrev four : App
four = with_subcommand three (chained (in_sqlite (of_script (codes "play")))).top

abbrev five : App
five = with_subcommand four (chained (retried (stored (of_script (codes "run"))))).top

abbrev six : App
six = with_subcommand five (shown (in_folder (of_relation (codes "dump")))).top

abbrev seven : App
seven = with_subcommand six (counted (in_folder (of_file (codes "import")))).top

with_one : (shape : Shape) {app other : App} → app ≡ other → with_subcommand app shape ≡ with_subcommand other shape
with_one shape is = ap (λ app. with_subcommand app shape) is

pub returns : goal.returns
returns c =
    let version_is : app_of c.version.result ≡ on_top (λ s. record s { has_version = true }) (app_of c.new.result) = ap app_of_fields c.version.ensures in
    let about_is : app_of c.about.result ≡ app_of c.version.result = ap app_of_fields c.about.ensures in
    let after_is : app_of c.after_help.result ≡ app_of c.about.result = ap app_of_fields c.after_help.ensures in
    let required_is : app_of c.subcommand_required-program.result ≡ on_top (λ s. record s { subcommand_required = true }) (app_of c.after_help.result) = ap app_of_fields c.subcommand_required-program.ensures in
    let program_is : app_of c.subcommand_required-program.result ≡ program =
    required_is ∙ ap (on_top (λ s. record s { subcommand_required = true })) (after_is ∙ about_is ∙ version_is ∙ ap (on_top (λ s. record s { has_version = true })) c.new.ensures.app) in
    let with_solo : app_of c.in_ok-program.program ≡ one = c.in_ok-program.ensures _ c.solo_command.ensures ∙ with_one _ program_is in
    let with_check : app_of c.in_ok-program-2.program ≡ two = c.in_ok-program-2.ensures _ c.check_command.ensures ∙ with_one _ with_solo in
    let with_plan : app_of c.in_ok-program-3.program ≡ three = c.in_ok-program-3.ensures _ c.plan_command.ensures ∙ with_one _ with_check in
    let with_play : app_of c.in_ok-program-4.program ≡ four = c.in_ok-program-4.ensures _ c.play_command.ensures ∙ with_one _ with_plan in
    let with_run : app_of c.in_ok-program-5.program ≡ five = c.in_ok-program-5.ensures _ c.run_command.ensures ∙ with_one _ with_play in
    let with_dump : app_of c.in_ok-program-6.program ≡ six = c.in_ok-program-6.ensures _ c.dump_command.ensures ∙ with_one _ with_run in
    let with_import : app_of c.in_ok-program-7.program ≡ seven = c.in_ok-program-7.ensures _ c.import_command.ensures ∙ with_one _ with_dump in
    IfOk-weaker c.with_command-8.result _ _ (λ r h. h ∙ with_one _ with_import) (c.with_command-8.ensures suggesting c.suggest_command.ensures)
