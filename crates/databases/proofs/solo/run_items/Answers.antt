use Rattle.std.proofs.Common.{◌≡◌, ◌++◌, [], ap, map, take, arith, is_ok, rules, subst, sym, true, ◌∙◌, List, ℕ}
use Rattle.std.specs.Io.KnownBytes.{Appends}
use Rattle.std.proofs.lemmas.List.{take_all}
use Rattle.lines.specs.declared.script.Item.{Item}
use Rattle.databases.specs.Client.{AnswersTask, standing_of}
use Rattle.databases.specs.ListClient.{AnswersTaskOver, list_standing_of}
use Rattle.lines.specs.Script.{task_of}
use Rattle.databases.specs.Solo.{Stretches}
use Rattle.lines.specs.Reply.{told_by}
use Rattle.databases.proofs.SoloLemmas.{Appends-more, IsWork-next, IsWork-none, at_ok}
use Rattle.databases.proofs.solo.run_items.Goals as goal

pub loop-item-init : goal.loop-item-init
loop-item-init g c = (
  λ clean. clean,
  record {
    written = [];
    told = search rules;
    ran = λ catalogue whole past clean h. record { later = past; goes_on = h; work = IsWork-none (AnswersTask c.args.mode catalogue) (standing_of g.B.Database.seen catalogue c.args.database.now past) };
    over = λ db whole happened listed clean h. record { later = happened; goes_on = h; work = IsWork-none (AnswersTaskOver c.args.mode db whole) (list_standing_of g.B.Database.seen c.args.database.now happened) };
  },
)

pub loop-item-preserved : goal.loop-item-preserved
loop-item-preserved g c =
    let seen = g.B.Database.seen in
    let so_far = c.loop-item.invariant.1 in
    let line = c.text.result.now in
    let bytes : c.as_bytes.result.now ≡ line = search rules in
    let wrote : is_ok c.write_all.result ≡ true = sym c.map_err.ensures.variant ∙ ap is_ok c.in_ok-map_err.was in (
      λ clean. c.loop-item.invariant.0 (c.in_ok-reply.ensures.clean clean),
      record {
        written = so_far.written ++ line;
        told = Appends-more (g.W.Write.contents c.args.output.now) (g.W.Write.contents c.loop-item.output) (g.W.Write.contents c.write_all.new.self) so_far.written
            line so_far.told (subst (λ (text : List ℕ). Appends (g.W.Write.contents c.loop-item.output) (g.W.Write.contents c.write_all.new.self) text) bytes (at_ok c.write_all.result wrote c.write_all.ensures.bytes));
        ran = λ catalogue whole past clean begun.
            let stretch = so_far.ran catalogue whole past (c.in_ok-reply.ensures.clean clean) begun in
            let answered = c.in_ok-reply.ensures.answers catalogue whole stretch.later clean stretch.goes_on in
            record {
              later = answered.later;
              goes_on = answered.goes_on;
              work = IsWork-next (AnswersTask c.args.mode catalogue) c.args.items.now c.loop-item.item-index _ so_far.written c.loop-item.any_refused (standing_of seen catalogue c.args.database.now past) (standing_of seen catalogue c.loop-item.database stretch.later) (standing_of seen catalogue c.answer.new.self answered.later) (told_by c.in_ok-reply.reply) line c.is_refusal-any_refused.result (omega arith) stretch.work answered.answers c.text.ensures c.is_refusal-any_refused.ensures;
            };
        over = λ db whole happened listed clean begun.
            let stretch = so_far.over db whole happened listed (c.in_ok-reply.ensures.clean clean) begun in
            let answered = c.in_ok-reply.ensures.over db whole stretch.later listed clean stretch.goes_on in
            record {
              later = answered.later;
              goes_on = answered.goes_on;
              work = IsWork-next (AnswersTaskOver c.args.mode db whole) c.args.items.now c.loop-item.item-index _ so_far.written c.loop-item.any_refused (list_standing_of seen c.args.database.now happened) (list_standing_of seen c.loop-item.database stretch.later) (list_standing_of seen c.answer.new.self answered.later) (told_by c.in_ok-reply.reply) line c.is_refusal-any_refused.result (omega arith) stretch.work answered.answers c.text.ensures c.is_refusal-any_refused.ensures;
            };
      },
    )

pub returns-clause-clean : goal.returns-clause-clean
returns-clause-clean g c = c.loop-item.invariant.0

pub returns-clause-ok : goal.returns-clause-ok
returns-clause-ok g c =
    let all : take c.loop-item.item-index c.args.items.now ≡ c.args.items.now = take_all c.loop-item.item-index c.args.items.now (omega arith) in
    subst (λ (items : List Item). Stretches g.B.Database.seen c.args.mode (map task_of items) (g.W.Write.contents c.args.output.now) (g.W.Write.contents c.loop-item.output) c.args.database.now c.loop-item.database c.loop-item.any_refused) all c.loop-item.invariant.1
