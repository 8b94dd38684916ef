use Rattle.std.proofs.Common.{◌≡◌, ◌∷◌, [], ◌++◌, IfSome, List, Ok, Option, ap, append-nil, arith, drop, inl, length, refl, subst, sym, take}
use Rattle.std.proofs.lemmas.List.{take_all, take-append-drop}
use Rattle.terms.specs.declared.value.Value.{Value}
use Rattle.lines.specs.declared.reply.Reply.{Reply}
use Rattle.lines.specs.Reply.{Told, told_by}
use Rattle.lines.specs.Script.{Reading}
use Rattle.commands.specs.Import.{Comes, IsCommitted, StopsAt, StopsBefore, before_row, ending, insert_says, inserts_from}
use Rattle.commands.proofs.ImportCounts.{committed_before, committed_on_way, committed_so_far, so_far_next, turned_over}
use Rattle.commands.proofs.ImportLemmas.{comes_none, comes_then, cut_short, inserts_next, stops_at_row, stops_before, stops_behind}
use Rattle.commands.proofs.import.import.Goals as goal

pub loop-number-init : goal.loop-number-init
loop-number-init g c = (comes_none g.B.Database.seen c.args.database.now, inl (refl, refl))

pub loop-number-preserved : goal.loop-number-preserved
loop-number-preserved g c =
    let seen = g.B.Database.seen in
    let many = c.args.many in
    let name = c.args.relation.now.name in
    let rows = c.args.rows.now in
    let number = c.loop-number.number in
    let row = c.index-rows-number.result in
    let turned = c.in_ok-reply.ensures.all (ap (λ r. Ok r) c.in_default.is) in
    let counted = c.in_ok-reply.ensures.committed (ap (λ r. Ok r) c.in_default.is) in
    let inserted = c.in_ok-reply-2.ensures.all (ap (λ r. Ok r) c.in_default-2.is) in
    let added = comes_then seen (before_row many number) (insert_says name row ∷ []) c.loop-number.database c.turn_over.new.database c.insert_row.new.database turned inserted in
    let way = turned_over many name rows number c.loop-number.committed c.turn_over.new.committed (omega arith) c.loop-number.invariant.1 counted in (
      subst (λ tasks. Comes seen tasks c.args.database.now c.insert_row.new.database) (inserts_next many name rows number row c.loop-number-test.true c.index-rows-number.is)
          (comes_then seen (inserts_from many name 0 (take number rows)) (before_row many number ++ insert_says name row ∷ []) c.args.database.now c.loop-number.database c.insert_row.new.database c.loop-number.invariant.0 added),
      so_far_next many name rows number c.turn_over.new.committed row c.loop-number-test.true c.index-rows-number.is way,
    )

pub returns-in-None-clause-all : goal.returns-in-None-clause-all
returns-in-None-clause-all g c = λ _.
    let seen = g.B.Database.seen in
    let name = c.args.relation.now.name in
    let rows = c.args.rows.now in
    let all : take c.loop-number.number rows ≡ rows = take_all c.loop-number.number rows (omega arith) in
    let inserted = subst (λ (taken : List (List Value)). Comes seen (inserts_from c.args.many name 0 taken) c.args.database.now c.loop-number.database) all c.loop-number.invariant.0 in
    comes_then seen (inserts_from c.args.many name 0 rows) (ending (length rows)) c.args.database.now c.loop-number.database c.end.new.database inserted (c.in_ok-reply-3.ensures.all (ap (λ r. Ok r) c.in-None.is))

pub returns-in-Some-clause-until : goal.returns-in-Some-clause-until
returns-in-Some-clause-until g c = λ row committed reply is.
    let seen = g.B.Database.seen in
    let many = c.args.many in
    let name = c.args.relation.now.name in
    let rows = c.args.rows.now in
    let number = c.loop-number.number in
    let values = c.index-rows-number.result in
    let told = told_by c.in-Some.reply in
    let turned = subst (λ (told : Option Reply). IfSome told (λ reply. StopsBefore seen many number c.loop-number.committed c.turn_over.new.committed c.loop-number.database c.turn_over.new.database (told_by reply))) c.in-Some.is c.in_ok-reply.ensures.stops in
    let before = committed_before seen many name rows number c.loop-number.committed c.turn_over.new.committed c.loop-number.database c.turn_over.new.database told (omega arith) c.loop-number.invariant.1 turned in
    let made = inserts_from many name 0 (take number rows) ++ before.0 in
    let stops = stops_before seen before.0 (before_row many number) (insert_says name values ∷ []) c.loop-number.database c.turn_over.new.database told before.1 in
    cut_short seen many name rows made c.args.database.now c.turn_over.new.database c.until.new.database c.until.result row committed _ _ reply c.in-Some.reply is c.until.ensures.until
    (stops_at_row seen many name rows number values before.0 c.args.database.now c.loop-number.database c.turn_over.new.database told c.loop-number-test.true c.index-rows-number.is c.loop-number.invariant.0 stops) before.2 c.until.ensures.ends

pub returns-in-Some-2-clause-until : goal.returns-in-Some-2-clause-until
returns-in-Some-2-clause-until g c = λ row committed reply is.
    let seen = g.B.Database.seen in
    let many = c.args.many in
    let name = c.args.relation.now.name in
    let rows = c.args.rows.now in
    let number = c.loop-number.number in
    let values = c.index-rows-number.result in
    let told = told_by c.in-Some-2.reply in
    let turned = c.in_ok-reply.ensures.all (ap (λ r. Ok r) c.in_default.is) in
    let counted = c.in_ok-reply.ensures.committed (ap (λ r. Ok r) c.in_default.is) in
    let inserted = subst (λ (told : Option Reply). IfSome told (λ reply. StopsAt seen [] (insert_says name values ∷ []) c.turn_over.new.database c.insert_row.new.database (told_by reply))) c.in-Some-2.is c.in_ok-reply-2.ensures.stops in
    let behind = stops_behind seen (before_row many number) [] (insert_says name values ∷ []) c.loop-number.database c.turn_over.new.database c.insert_row.new.database told turned inserted in
    let stops = subst (λ (made : List (Reading × Told)). StopsAt seen made (before_row many number ++ insert_says name values ∷ []) c.loop-number.database c.insert_row.new.database told) (append-nil (before_row many number)) behind in
    let made = inserts_from many name 0 (take number rows) ++ before_row many number in
    let way = turned_over many name rows number c.loop-number.committed c.turn_over.new.committed (omega arith) c.loop-number.invariant.1 counted in
    cut_short seen many name rows made c.args.database.now c.insert_row.new.database c.until-in-Some-2.new.database c.until-in-Some-2.result row committed _ _ reply c.in-Some-2.reply is c.until-in-Some-2.ensures.until
    (stops_at_row seen many name rows number values (before_row many number) c.args.database.now c.loop-number.database c.insert_row.new.database told c.loop-number-test.true c.index-rows-number.is c.loop-number.invariant.0 stops)
    (committed_on_way many name rows (take number rows) (drop number rows) c.turn_over.new.committed made (sym (take-append-drop number rows)) way) c.until-in-Some-2.ensures.ends

pub returns-in-Some-3-clause-until : goal.returns-in-Some-3-clause-until
returns-in-Some-3-clause-until g c = λ row committed reply is.
    let seen = g.B.Database.seen in
    let many = c.args.many in
    let name = c.args.relation.now.name in
    let rows = c.args.rows.now in
    let told = told_by c.in-Some-3.reply in
    let earlier = inserts_from many name 0 rows in
    let all : take c.loop-number.number rows ≡ rows = take_all c.loop-number.number rows (omega arith) in
    let inserted = subst (λ (taken : List (List Value)). Comes seen (inserts_from many name 0 taken) c.args.database.now c.loop-number.database) all c.loop-number.invariant.0 in
    let ended = subst (λ (told : Option Reply). IfSome told (λ reply. StopsAt seen [] (ending (length rows)) c.loop-number.database c.end.new.database (told_by reply))) c.in-Some-3.is c.in_ok-reply-3.ensures.stops in
    let stops = stops_behind seen earlier [] (ending (length rows)) c.args.database.now c.loop-number.database c.end.new.database told inserted ended in
    let counted = subst (λ (taken : List (List Value)). IsCommitted many name rows c.loop-number.committed (inserts_from many name 0 taken ++ [])) all (committed_so_far many name rows c.loop-number.number c.loop-number.committed c.loop-number.invariant.1) in
    cut_short seen many name rows (earlier ++ []) c.args.database.now c.end.new.database c.until-in-Some-3.new.database c.until-in-Some-3.result row committed _ _ reply c.in-Some-3.reply is c.until-in-Some-3.ensures.until stops counted c.until-in-Some-3.ensures.ends
