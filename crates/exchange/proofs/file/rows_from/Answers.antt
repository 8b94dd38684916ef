use Rattle.std.proofs.Common.{◌≡◌, List, subst, sym}
use Rattle.terms.specs.declared.value.Value.{Value}
use Rattle.exchange.specs.Incoming.{GivesNext, IsReading, reader_in}
use Rattle.exchange.specs.File.{Brings}
use Rattle.exchange.proofs.Brought.{brings_more}
use Rattle.exchange.proofs.file.rows_from.Goals as goal

pub returns-in-None : goal.returns-in-None
returns-in-None g c = λ reading.
    let so_far = c.loop.invariant reading in
    record { last = c.loop.incoming; brings = so_far.1; end = c.next.new.self; ends = subst (GivesNext g.R.Read.remaining c.loop.incoming c.next.new.self) c.in-None.is (c.in_ok-row.ensures.gives so_far.0) }

pub loop-preserved : goal.loop-preserved
loop-preserved g c = λ reading.
    let so_far = c.loop.invariant reading in
    let gives = subst (GivesNext g.R.Read.remaining c.loop.incoming c.next.new.self) c.in-Some.is (c.in_ok-row.ensures.gives so_far.0) in (
      c.in_ok-row.ensures.reads so_far.0,
      subst (λ (rows : List (List Value)). Brings g.R.Read.remaining rows c.args.incoming.now c.next.new.self) (sym c.in_ok-push-in-Some.ensures)
          (brings_more g.R.Read.remaining c.loop.rows.items c.in-Some.row c.args.incoming.now c.loop.incoming c.next.new.self so_far.1 gives c.next.ensures.columns),
    )
