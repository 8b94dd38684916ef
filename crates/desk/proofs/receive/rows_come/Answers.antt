-- Why `rows_come` meets its contract.
use Rattle.std.proofs.Common.{rules, ◌≡◌, refl, true, false, sym, ap, ◌∙◌, subst, map, OnErr}
use Rattle.catalog.specs.Relation.{catalogue_of}
use Rattle.protocol.specs.Letters.{txn_name}
use Rattle.desk.specs.declared.transaction.Stage.{Stage}
use Rattle.desk.specs.declared.transaction.Stage.TheVariants as stages
use Rattle.desk.specs.declared.transaction.Undecided.{Undecided}
use Rattle.desk.specs.Commit.{is_first}
use Rattle.desk.specs.Fetches.{are_in_with, brought, fetched_with, with_rows}
use Rattle.desk.specs.Participants.{participant_in}
use Rattle.desk.specs.Transaction.{ask_of}
use Rattle.desk.proofs.Arriving.{all_brought, in_with}
use Rattle.desk.proofs.Doing.{planned_given_by, rows_strange, rows_unread, rows_wait_by, works_rows}
use Rattle.desk.proofs.Full.{rows_long}
use Rattle.desk.proofs.PastLimit.{writes_past}
use Rattle.desk.specs.Statement.{write_sites}
use Rattle.desk.proofs.receive.rows_come.Goals as goal

pub returns-then-not-gave_first-clause-does : goal.returns-then-not-gave_first-clause-does
returns-then-not-gave_first-clause-does c = λ db n of same next are known.
    let u = c.args.undecided.now in
    let other : is_first c.args.rows.now.ticket (participant_in c.args.site.now u.participants).ticket ≡ false = search rules in
    rows_strange db n c.args.txn u c.args.site.now c.args.rows.now u c.no_progress.result other (λ i. u) (search rules) (search rules) known

pub returns-in_default : goal.returns-in_default
returns-in_default c = record {
  does = λ db n of same next are known.
      let u = c.args.undecided.now in
      rows_unread db n c.args.txn u c.args.site.now c.args.rows.now u c.no_progress-in_default.result (search rules) (λ i. u) (search rules) (search rules) known;
  goes = record { short = λ short. short; same = tt };
  full = λ db n of same next are known full. cc;
}

pub returns-then-not-are_in_with-clause-does : goal.returns-then-not-are_in_with-clause-does
returns-then-not-are_in_with-clause-does c = λ db n of same next are known.
    let u = c.args.undecided.now in
    let reading = c.in-Reading.reading in
    let here : u.stage ≡ stages.Reading reading = search rules in
    let first : is_first c.args.rows.now.ticket (participant_in c.args.site.now u.participants).ticket ≡ true = search rules in
    let list = map (with_rows (catalogue_of c.args.catalog.now) c.args.site.now c.args.rows.now.op c.args.rows.now.parts) reading.asks.items in
    let less : are_in_with (catalogue_of c.args.catalog.now) c.args.site.now c.args.rows.now.op c.args.rows.now.parts reading.asks.items ≡ false = search rules in
    let more = sym (in_with (catalogue_of c.args.catalog.now) c.args.site.now c.args.rows.now.op c.args.rows.now.parts reading.asks.items) ∙ less in
    rows_wait_by db n c.args.txn u _ c.args.site.now c.args.rows.now of c.leaf_names_are_unique.ensures reading here first known (catalogue_of c.args.catalog.now) same list refl more (record { version = reading.version; statement = reading.statement; plan = reading.plan; asks = c.bring.new.asks }) refl refl refl (search rules) (search rules) (search rules) (search rules) c.no_progress-then-not-are_in_with.result (search rules) (search rules)

pub returns-clause-does : goal.returns-clause-does
returns-clause-does c = λ db n of same next are known.
    let u = c.args.undecided.now in
    let reading = c.in-Reading.reading in
    let worked = c.in_ok-worked.worked in
    let here : u.stage ≡ stages.Reading reading = search rules in
    let first : is_first c.args.rows.now.ticket (participant_in c.args.site.now u.participants).ticket ≡ true = search rules in
    let list = map (with_rows (catalogue_of c.args.catalog.now) c.args.site.now c.args.rows.now.op c.args.rows.now.parts) reading.asks.items in
    let full_in : are_in_with (catalogue_of c.args.catalog.now) c.args.site.now c.args.rows.now.op c.args.rows.now.parts reading.asks.items ≡ true = search rules in
    let rows : map (fetched_with c.args.rows.now.parts) c.as_slice-3.result.now ≡ brought list = ap (map (fetched_with c.args.rows.now.parts)) c.as_slice-3.ensures.value ∙ all_brought (catalogue_of c.args.catalog.now) c.args.site.now c.args.rows.now.op c.args.rows.now.parts reading.asks.items full_in in
    let all = sym (in_with (catalogue_of c.args.catalog.now) c.args.site.now c.args.rows.now.op c.args.rows.now.parts reading.asks.items) ∙ full_in in
    let same_list = ap (λ cat. map (with_rows cat c.args.site.now c.args.rows.now.op c.args.rows.now.parts) reading.asks.items) (sym same) in
    let home = c.in_ok-worked.ensures.home db n of same next in
    let have = c.in_ok-worked.ensures.participants db n u.participants of same next are.sites in
    let planned = planned_given_by db n c.args.txn u c.args.site.now c.args.rows.now of c.leaf_names_are_unique.ensures reading here first known list same_list in
    works_rows db n c.args.txn u c.works.new.undecided c.args.site.now c.args.rows.now of c.leaf_names_are_unique.ensures reading here first known list same_list all worked.answer worked.unsent.items home
    (c.in_ok-worked.ensures.explained db n (txn_name c.args.txn) list rows of same next planned) c.works.result (c.works.ensures.step db (n, reading.statement) _ are have) (c.works.ensures.within db n are.sites home)

pub returns-clause-full : goal.returns-clause-full
returns-clause-full c = λ db n of same next are known full.
    let u = c.args.undecided.now in
    let reading = c.in-Reading.reading in
    let worked = c.in_ok-worked.worked in
    let here : u.stage ≡ stages.Reading reading = search rules in
    let first : is_first c.args.rows.now.ticket (participant_in c.args.site.now u.participants).ticket ≡ true = search rules in
    let list = map (with_rows (catalogue_of c.args.catalog.now) c.args.site.now c.args.rows.now.op c.args.rows.now.parts) reading.asks.items in
    let full_in : are_in_with (catalogue_of c.args.catalog.now) c.args.site.now c.args.rows.now.op c.args.rows.now.parts reading.asks.items ≡ true = search rules in
    let rows : map (fetched_with c.args.rows.now.parts) c.as_slice-3.result.now ≡ brought list = ap (map (fetched_with c.args.rows.now.parts)) c.as_slice-3.ensures.value ∙ all_brought (catalogue_of c.args.catalog.now) c.args.site.now c.args.rows.now.op c.args.rows.now.parts reading.asks.items full_in in
    let all = sym (in_with (catalogue_of c.args.catalog.now) c.args.site.now c.args.rows.now.op c.args.rows.now.parts reading.asks.items) ∙ full_in in
    let same_list = ap (λ cat. map (with_rows cat c.args.site.now c.args.rows.now.op c.args.rows.now.parts) reading.asks.items) (sym same) in
    let planned = planned_given_by db n c.args.txn u c.args.site.now c.args.rows.now of c.leaf_names_are_unique.ensures reading here first known list same_list in
    rows_long db n c.args.txn u c.args.site.now c.args.rows.now of c.leaf_names_are_unique.ensures reading here first known list same_list all worked.answer worked.unsent.items
    (c.in_ok-worked.ensures.explained db n (txn_name c.args.txn) list rows of same next planned)
    (writes_past db c.args.txn u are.sites (write_sites worked.unsent.items) (n, reading.statement) (map (ask_of db) list) worked.answer worked.unsent.items (c.works.ensures.sends.full full))

pub returns-clause-goes : goal.returns-clause-goes
returns-clause-goes c =
    let u = c.args.undecided.now in
    let here : u.stage ≡ stages.Reading c.in-Reading.reading = search rules in
    let with_stage : Stage → Undecided = λ s. record { participants = u.participants; stage = s; moves = u.moves } in
    record { short = c.works.ensures.sends.short; same = subst (λ (s : Stage). OnErr c.works.result (c.works.new.undecided ≡ with_stage s)) (sym here) c.works.ensures.sends.same }
