use Rattle.std.proofs.Common.{ℕ, List, Some, ap, codes, ◌∙◌, sym, inl}
use Rattle.clap.specs.Words.{found_of}
use Rattle.lines.specs.Usage.{is_set}
use Rattle.lines.proofs.UsageLemmas.{given_one, given_perhaps, given_two, solo_answers, subcommand_name_of-rows}
use Rattle.clap.proofs.WalkLemmas.{first_value-rows}
use Rattle.lines.proofs.usage.request_given.Goals as goal

pub returns-in-Some-solo-default : goal.returns-in-Some-solo-default
returns-in-Some-solo-default c = λ words entered.
    let name = c.in-Some-solo-default.ensures.name ∙ subcommand_name_of-rows c.args.matches.now in
    solo_answers words _ (found_of c.in-Some-solo-default.solo.now) c.args.is_at_terminal entered (ap (λ (t : List ℕ). Some t) (sym c.in-Some-solo-default.is-solo) ∙ name) c.in-Some-solo-default.ensures.rows
    c.solo_given.result c.solo_given.ensures.asks c.solo_given.ensures.flags

pub returns : goal.returns
returns c = λ words entered.
    let name = c.in-Some-check-default.ensures.name ∙ subcommand_name_of-rows c.args.matches.now in
    let rows = c.in-Some-check-default.ensures.rows in
    let catalog = c.in-Some.ensures in
    inl (given_one words _ (codes "check") _ (codes "CATALOG") c.in-Some.catalog.now _ entered
    (ap (λ (t : List ℕ). Some t) (sym c.in-Some-check-default.is-check) ∙ name) rows (catalog ∙ first_value-rows (found_of c.in-Some-check-default.check.now) (codes "CATALOG")) (
      sym (c.is_set-explain.ensures ∙ ap is_set (c.get_str-2.ensures ∙ first_value-rows (found_of c.in-Some-check-default.check.now) (codes "EXPLAIN"))),
      (sym (c.is_set-tree.ensures ∙ ap is_set (c.get_str-3.ensures ∙ first_value-rows (found_of c.in-Some-check-default.check.now) (codes "TREE"))), tt),
    ))

pub returns-2 : goal.returns-2
returns-2 c = λ words entered.
    let name = c.in-Some-plan-default.ensures.name ∙ subcommand_name_of-rows c.args.matches.now in
    let rows = c.in-Some-plan-default.ensures.rows in
    inl (given_two words _ (codes "plan") _ (codes "CATALOG") c.in-Some-get_str.catalog.now (codes "STATEMENT") c.in-Some-get_str-2.statement.now _ entered
    (ap (λ (t : List ℕ). Some t) (sym c.in-Some-plan-default.is-plan) ∙ name) rows
    (c.in-Some-get_str.ensures ∙ first_value-rows (found_of c.in-Some-plan-default.plan.now) (codes "CATALOG")) (c.in-Some-get_str-2.ensures ∙ first_value-rows (found_of c.in-Some-plan-default.plan.now) (codes "STATEMENT"))
    (sym (c.is_set-tree-2.ensures ∙ ap is_set (c.get_str-6.ensures ∙ first_value-rows (found_of c.in-Some-plan-default.plan.now) (codes "TREE"))), tt))

pub returns-3 : goal.returns-3
returns-3 c = λ words entered.
    let name = c.in-Some-play-default.ensures.name ∙ subcommand_name_of-rows c.args.matches.now in
    let rows = c.in-Some-play-default.ensures.rows in
    inl (given_perhaps words _ (codes "play") _ (codes "CATALOG") _ (codes "SCRIPT") c.in-Some-get_str-3.script.now _ entered
    (ap (λ (t : List ℕ). Some t) (sym c.in-Some-play-default.is-play) ∙ name) rows
    (c.get_str-catalog.ensures ∙ first_value-rows (found_of c.in-Some-play-default.play.now) (codes "CATALOG")) (c.in-Some-get_str-3.ensures ∙ first_value-rows (found_of c.in-Some-play-default.play.now) (codes "SCRIPT"))
    (sym (c.is_set-sqlite.ensures ∙ ap is_set (c.get_str-8.ensures ∙ first_value-rows (found_of c.in-Some-play-default.play.now) (codes "SQLITE"))), tt))
