-- Why `evaluate` meets its contract.
use Rattle.std.proofs.Common.{rules, ◌≡◌, suc, Some, sym, ◌∙◌, subst, List}
use Rattle.std.specs.List.{Contains}
use Rattle.std.specs.Option.{option_copied}
use Rattle.catalog.specs.Relation.{catalogue_of}
use Rattle.plan.specs.declared.fetch.Fetch.{Fetch}
use Rattle.plan.specs.Postfix.{plan_of}
use Rattle.plan.specs.Uniform.{EachRead}
use Rattle.meaning.specs.declared.statement.Statement.TheVariants as statements
use Rattle.desk.specs.OfCatalogue.{InForce, IsNextOf}
use Rattle.desk.proofs.AtHomes.{by_home, by_participants, from_home, from_participants}
use Rattle.desk.proofs.Explaining.{moved_ok, worked_ok}
use Rattle.desk.proofs.Unread.{if_ok}
use Rattle.desk.proofs.statement.evaluate.Goals as goal

pub returns-then-not-is_refragment : goal.returns-then-not-is_refragment
returns-then-not-is_refragment c = record {
  home = λ db n of same next. if_ok c.outcome_of.result (λ w from. from_home db of n (catalogue_of c.args.catalog.now) same w.unsent.items from) c.outcome_of.ensures.leaves;
  participants = λ db n participants of same next those.
      if_ok c.outcome_of.result (λ w from. from_participants db of n (catalogue_of c.args.catalog.now) same participants those w.unsent.items from) c.outcome_of.ensures.leaves;
  explained = λ db n t asks rows of same next planned.
      worked_ok db of n c.leaf_names_are_unique.ensures c.args.statement.now c.args.plan.now asks planned t (catalogue_of c.args.catalog.now) same c.args.fetched.now rows c.outcome_of.result
      c.fetches-fetches.result.now c.fetches-fetches.ensures (plan_of c.nodes-nodes.result.now) c.nodes-nodes.ensures.same (sym c.is_refragment.ensures ∙ c.if-not-is_refragment.true) c.outcome_of.ensures.answer c.outcome_of.ensures.writes;
}

pub outcome_of-requires-clause-fetched : goal.outcome_of-requires-clause-fetched
outcome_of-requires-clause-fetched c =
    subst (λ (fetches : List Fetch). EachRead (λ read. Contains fetches read) (plan_of c.nodes-nodes.result.now)) (sym c.fetches-fetches.ensures) c.nodes-nodes.ensures.fetched

pub moves_of-requires-clause-fetched : goal.moves_of-requires-clause-fetched
moves_of-requires-clause-fetched c =
    subst (λ (fetches : List Fetch). EachRead (λ read. Contains fetches read) (plan_of c.nodes-nodes.result.now)) (sym c.fetches-fetches.ensures) c.nodes-nodes.ensures.fetched

pub returns : goal.returns
returns c =
    let there : option_copied c.args.next ≡ Some c.in-Refragment-Some.next.now = search rules in
    let is : c.args.statement.now ≡ statements.Refragment c.in-Refragment-Some.refragment = search rules in
    record {
      home = λ db n of same next.
          let coming : InForce db (suc n) c.in-Refragment-Some.next.now = subst (IsNextOf db n) there next in
          if_ok c.moves_of.result (λ w by. by_home db of n (catalogue_of c.args.catalog.now) (catalogue_of c.in-Refragment-Some.next.now) same coming w.unsent.items by) c.moves_of.ensures.leaves;
      participants = λ db n participants of same next those.
          let coming : InForce db (suc n) c.in-Refragment-Some.next.now = subst (IsNextOf db n) there next in
          if_ok c.moves_of.result (λ w by. by_participants db of n (catalogue_of c.args.catalog.now) (catalogue_of c.in-Refragment-Some.next.now) same coming w.unsent.items by participants those) c.moves_of.ensures.leaves;
      explained = λ db n t asks rows of same next planned.
          let coming : InForce db (suc n) c.in-Refragment-Some.next.now = subst (IsNextOf db n) there next in
          moved_ok db of n c.leaf_names_are_unique.ensures c.args.statement.now c.args.plan.now asks planned t (catalogue_of c.args.catalog.now) same c.args.fetched.now rows c.moves_of.result
          c.fetches-fetches.result.now c.fetches-fetches.ensures (plan_of c.nodes-nodes.result.now) c.nodes-nodes.ensures.same c.in-Refragment-Some.refragment is (catalogue_of c.in-Refragment-Some.next.now) coming c.moves_of.ensures.answer c.moves_of.ensures.moves;
    }
