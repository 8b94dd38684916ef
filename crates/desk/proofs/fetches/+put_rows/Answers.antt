-- Why `put_rows` meets its contract.
use Rattle.std.proofs.Common.{rules, ◌≡◌, ◌∷◌, ◌++◌, sym, ap, ◌∙◌, Some}
use Rattle.catalog.specs.Relation.{catalogue_of}
use Rattle.desk.specs.Fetches.{awaits}
use Rattle.desk.proofs.Heads.{none_changes, one_changes}
use Rattle.desk.proofs.Operations.{on_err}
use Rattle.desk.proofs.fetches.+put_rows.Goals as goal

pub split_at_mut-waiting-requires : goal.split_at_mut-waiting-requires
split_at_mut-waiting-requires t c = c.before_waiting-before.ensures.within

pub returns-in_default-clause-ok : goal.returns-in_default-clause-ok
returns-in_default-clause-ok t c =
    let halves = c.split_at_mut-waiting in
    let rows = c.args.rows.now in
    none_changes (awaits (catalogue_of c.args.catalog.now) c.args.site.now rows.op rows.parts) (λ ask. record ask { rows = Some rows.parts }) c.args.asks.now _ halves.result.0.now halves.result.1.now c.before_waiting-before.ensures.first halves.ensures.front halves.ensures.back c.in_default.ensures.cases

pub returns-in_err-parts-clause-same : goal.returns-in_err-parts-clause-same
returns-in_err-parts-clause-same t c =
    let halves = c.split_at_mut-waiting in
    on_err c.from_residual.result (ap (λ asks. halves.result.0.now ++ asks) (sym c.in-Some.ensures.cases.0) ∙ sym halves.ensures.value)

pub returns-in_err-put_rows-clause-same : goal.returns-in_err-put_rows-clause-same
returns-in_err-put_rows-clause-same t c =
    let halves = c.split_at_mut-waiting in
    let same : c.put_rows.new.asks ≡ c.in-Some.rest.now = search rules in
    on_err c.from_residual-in_err-put_rows.result (ap (λ asks. halves.result.0.now ++ c.in-Some.ask.now ∷ asks) same ∙ ap (λ asks. halves.result.0.now ++ asks) (sym c.in-Some.ensures.cases.0) ∙ sym halves.ensures.value)

pub returns-clause-ok : goal.returns-clause-ok
returns-clause-ok t c =
    let halves = c.split_at_mut-waiting in
    let rows = c.args.rows.now in
    one_changes (awaits (catalogue_of c.args.catalog.now) c.args.site.now rows.op rows.parts) (λ ask. record ask { rows = Some rows.parts }) c.args.asks.now _ halves.result.0.now halves.result.1.now c.before_waiting-before.ensures.first halves.ensures.front halves.ensures.back
    c.in-Some.ask.now _ c.in-Some.rest.now c.put_rows.new.asks c.in-Some.ensures.cases.0 (search rules) (search rules)
