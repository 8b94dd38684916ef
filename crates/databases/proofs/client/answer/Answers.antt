use Rattle.std.proofs.Common.{string_bytes, subst, sym}
use Rattle.lines.specs.declared.script.Item.{Item}
use Rattle.databases.specs.Client.{IsAnswered, seen_over}
use Rattle.databases.specs.ListClient.{IsAnsweredOver}
use Rattle.databases.specs.Serves.{Serves}
use Rattle.lines.specs.Reply.{Answered, told_by}
use Rattle.lines.specs.Script.{task_of}
use Rattle.databases.proofs.client.answer.Goals as goal

pub returns-in-Statement : goal.returns-in-Statement
returns-in-Statement g c = subst (λ (item : Item). Serves (seen_over g.D.DeskStore.is_clean g.S.SiteStore.is_clean g.D.DeskStore.is_sound g.S.SiteStore.is_sound g.D.DeskStore.kept g.S.SiteStore.kept g.D.DeskStore.refused g.S.SiteStore.refused) c.args.mode (task_of item) told_by c.args.database.now c.command.new.database c.command.result) (sym c.in-Statement.is) c.command.ensures

pub returns-in_ok-relation_shown-in-Show : goal.returns-in_ok-relation_shown-in-Show
returns-in_ok-relation_shown-in-Show g c = record {
  clean = c.in_ok-relation_shown-in-Show.ensures.clean;
  answers = λ catalogue whole past clean h.
      subst (λ (item : Item). IsAnswered (seen_over g.D.DeskStore.is_clean g.S.SiteStore.is_clean g.D.DeskStore.is_sound g.S.SiteStore.is_sound g.D.DeskStore.kept g.S.SiteStore.kept g.D.DeskStore.refused g.S.SiteStore.refused) c.args.mode catalogue whole (task_of item) past c.args.database.now c.relation_shown.new.database (Answered (string_bytes c.in_ok-relation_shown-in-Show.field-0))) (sym c.in-Show.is) (c.in_ok-relation_shown-in-Show.ensures.answers catalogue whole past clean h);
  over = λ db whole happened listed clean h.
      subst (λ (item : Item). IsAnsweredOver (seen_over g.D.DeskStore.is_clean g.S.SiteStore.is_clean g.D.DeskStore.is_sound g.S.SiteStore.is_sound g.D.DeskStore.kept g.S.SiteStore.kept g.D.DeskStore.refused g.S.SiteStore.refused) c.args.mode db whole (task_of item) happened c.args.database.now c.relation_shown.new.database (Answered (string_bytes c.in_ok-relation_shown-in-Show.field-0))) (sym c.in-Show.is) (c.in_ok-relation_shown-in-Show.ensures.over db whole happened listed clean h);
  err = tt;
}

pub returns-in_ok-leaf_shown-in-Leaf : goal.returns-in_ok-leaf_shown-in-Leaf
returns-in_ok-leaf_shown-in-Leaf g c = record {
  clean = c.in_ok-leaf_shown-in-Leaf.ensures.clean;
  answers = λ catalogue whole past clean h.
      subst (λ (item : Item). IsAnswered (seen_over g.D.DeskStore.is_clean g.S.SiteStore.is_clean g.D.DeskStore.is_sound g.S.SiteStore.is_sound g.D.DeskStore.kept g.S.SiteStore.kept g.D.DeskStore.refused g.S.SiteStore.refused) c.args.mode catalogue whole (task_of item) past c.args.database.now c.leaf_shown.new.database (Answered (string_bytes c.in_ok-leaf_shown-in-Leaf.field-0))) (sym c.in-Leaf.is) (c.in_ok-leaf_shown-in-Leaf.ensures.answers catalogue whole past clean h);
  over = λ db whole happened listed clean h.
      subst (λ (item : Item). IsAnsweredOver (seen_over g.D.DeskStore.is_clean g.S.SiteStore.is_clean g.D.DeskStore.is_sound g.S.SiteStore.is_sound g.D.DeskStore.kept g.S.SiteStore.kept g.D.DeskStore.refused g.S.SiteStore.refused) c.args.mode db whole (task_of item) happened c.args.database.now c.leaf_shown.new.database (Answered (string_bytes c.in_ok-leaf_shown-in-Leaf.field-0))) (sym c.in-Leaf.is) (c.in_ok-leaf_shown-in-Leaf.ensures.over db whole happened listed clean h);
  err = tt;
}

pub returns-in_ok-relation_written-in-Dump : goal.returns-in_ok-relation_written-in-Dump
returns-in_ok-relation_written-in-Dump g c = record {
  clean = c.in_ok-relation_written-in-Dump.ensures.clean;
  answers = λ catalogue whole past clean h.
      subst (λ (item : Item). IsAnswered (seen_over g.D.DeskStore.is_clean g.S.SiteStore.is_clean g.D.DeskStore.is_sound g.S.SiteStore.is_sound g.D.DeskStore.kept g.S.SiteStore.kept g.D.DeskStore.refused g.S.SiteStore.refused) c.args.mode catalogue whole (task_of item) past c.args.database.now c.relation_written.new.database (Answered (string_bytes c.in_ok-relation_written-in-Dump.field-0))) (sym c.in-Dump.is) (c.in_ok-relation_written-in-Dump.ensures.answers catalogue whole past clean h);
  over = λ db whole happened listed clean h.
      subst (λ (item : Item). IsAnsweredOver (seen_over g.D.DeskStore.is_clean g.S.SiteStore.is_clean g.D.DeskStore.is_sound g.S.SiteStore.is_sound g.D.DeskStore.kept g.S.SiteStore.kept g.D.DeskStore.refused g.S.SiteStore.refused) c.args.mode db whole (task_of item) happened c.args.database.now c.relation_written.new.database (Answered (string_bytes c.in_ok-relation_written-in-Dump.field-0))) (sym c.in-Dump.is) (c.in_ok-relation_written-in-Dump.ensures.over db whole happened listed clean h);
  err = tt;
}

pub returns-in_ok-leaf_counted-in-Count : goal.returns-in_ok-leaf_counted-in-Count
returns-in_ok-leaf_counted-in-Count g c = record {
  clean = c.in_ok-leaf_counted-in-Count.ensures.clean;
  answers = λ catalogue whole past clean h.
      subst (λ (item : Item). IsAnswered (seen_over g.D.DeskStore.is_clean g.S.SiteStore.is_clean g.D.DeskStore.is_sound g.S.SiteStore.is_sound g.D.DeskStore.kept g.S.SiteStore.kept g.D.DeskStore.refused g.S.SiteStore.refused) c.args.mode catalogue whole (task_of item) past c.args.database.now c.leaf_counted.new.database (Answered (string_bytes c.in_ok-leaf_counted-in-Count.field-0))) (sym c.in-Count.is) (c.in_ok-leaf_counted-in-Count.ensures.answers catalogue whole past clean h);
  over = λ db whole happened listed clean h.
      subst (λ (item : Item). IsAnsweredOver (seen_over g.D.DeskStore.is_clean g.S.SiteStore.is_clean g.D.DeskStore.is_sound g.S.SiteStore.is_sound g.D.DeskStore.kept g.S.SiteStore.kept g.D.DeskStore.refused g.S.SiteStore.refused) c.args.mode db whole (task_of item) happened c.args.database.now c.leaf_counted.new.database (Answered (string_bytes c.in_ok-leaf_counted-in-Count.field-0))) (sym c.in-Count.is) (c.in_ok-leaf_counted-in-Count.ensures.over db whole happened listed clean h);
  err = tt;
}
