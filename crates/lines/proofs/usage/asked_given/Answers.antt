use Rattle.std.proofs.Common.{ℕ, List, Some, ap, sym, ◌∙◌}
use Rattle.clap.specs.Words.{found_of}
use Rattle.lines.proofs.UsageLemmas.{dump_asked, import_asked, sessions_asked, suggest_asked, subcommand_name_of-rows}
use Rattle.lines.proofs.usage.asked_given.Goals as goal

pub returns : goal.returns
returns c = λ words entered.
    let name = c.in-Some-run-default.ensures.name ∙ subcommand_name_of-rows c.args.matches.now in
    sessions_asked words _ (found_of c.in-Some-run-default.run'.now) c.in-Some.script.now entered (ap (λ (t : List ℕ). Some t) (sym c.in-Some-run-default.is-run) ∙ name) c.in-Some-run-default.ensures.rows
    c.in-Some.ensures c.in_ok-sessions.sessions c.in_ok-sessions.ensures.asks c.in_ok-sessions.ensures.sqlite c.in_ok-sessions.ensures.retry

pub returns-in-Some-dump-default : goal.returns-in-Some-dump-default
returns-in-Some-dump-default c = λ words entered.
    let name = c.in-Some-dump-default.ensures.name ∙ subcommand_name_of-rows c.args.matches.now in
    dump_asked words _ (found_of c.in-Some-dump-default.dump.now) entered (ap (λ (t : List ℕ). Some t) (sym c.in-Some-dump-default.is-dump) ∙ name) c.in-Some-dump-default.ensures.rows
    c.in_ok-dump.dump c.in_ok-dump.ensures.asks c.in_ok-dump.ensures.flags c.in_ok-dump.ensures.named

pub returns-2 : goal.returns-2
returns-2 c = λ words entered.
    let name = c.in-Some-import-default.ensures.name ∙ subcommand_name_of-rows c.args.matches.now in
    import_asked words _ (found_of c.in-Some-import-default.import.now) c.in-Some-get_str.relation.now c.in-Some-get_str-2.file.now entered (ap (λ (t : List ℕ). Some t) (sym c.in-Some-import-default.is-import) ∙ name) c.in-Some-import-default.ensures.rows
    c.in-Some-get_str.ensures c.in-Some-get_str-2.ensures c.in_ok-import.import c.in_ok-import.ensures.asks c.in_ok-import.ensures.every

pub returns-3 : goal.returns-3
returns-3 c = λ words entered.
    let name = c.in-Some-suggest-default.ensures.name ∙ subcommand_name_of-rows c.args.matches.now in
    suggest_asked words _ (found_of c.in-Some-suggest-default.suggest.now) c.in-Some-get_str-3.file.now c.in-Some-get_str-4.key.now c.in-Some-get_str-5.rows.now entered (ap (λ (t : List ℕ). Some t) (sym c.in-Some-suggest-default.is-suggest) ∙ name) c.in-Some-suggest-default.ensures.rows
    c.in-Some-get_str-3.ensures c.in-Some-get_str-4.ensures c.in-Some-get_str-5.ensures c.in_ok-suggest.suggest c.in_ok-suggest.ensures.asks c.in_ok-suggest.ensures.sites

pub returns-4 : goal.returns-4
returns-4 c = λ words entered. c.in_ok-request.ensures words entered
