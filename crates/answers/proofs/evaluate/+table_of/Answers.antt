-- Why `evaluate::table_of` meets its contract: the plan of the last node is on top, and each node by its law.
use Rattle.std.proofs.Common.{◌≡◌, List, [], ◌∷◌, ◌++◌, length, ap, sym, subst, ◌∙◌, arith}
use Rattle.std.specs.List.{AllByRecursion}
use Rattle.terms.specs.declared.value.Value.{Value}
use Rattle.plan.specs.declared.postfix.Node.{Node}
use Rattle.plan.specs.declared.postfix.Node.TheVariants as node
use Rattle.plan.specs.Postfix.{plan_of}
use Rattle.plan.specs.Uniform.{IsUniform, columns_had}
use Rattle.answers.specs.Evaluated.{table_read}
use Rattle.answers.specs.Table.{AreParts, given}
use Rattle.answers.proofs.Counted.{AreGiven}
use Rattle.answers.proofs.Made.{stays_within}
use Rattle.answers.proofs.OnTop.{empty_on_top, fetch_on_top, filter_on_top, key_join_on_top, last_asked, look_up_on_top, project_on_top, under_asked, union_columns, union_on_top}
use Rattle.answers.proofs.evaluate.+table_of.Goals as goal

pub table_of-table_of-requires : goal.table_of-table_of-requires
table_of-table_of-requires t c =
    let nodes = c.args.nodes.now in
    let below = c.in-Some.below.now in
    let split : nodes ≡ below ++ node.Filter c.in-Filter.conds ∷ [] = c.in-Some.ensures.cases.0 ∙ ap (λ (last : Node). below ++ last ∷ []) c.in-Filter.is in
    let contents = given c.args.fetched.now in
    (omega (arith, c.in-Some.ensures.cases.1), (last_asked IsUniform nodes below (node.Filter c.in-Filter.conds) split c.requires.plan, last_asked (AreGiven contents) nodes below (node.Filter c.in-Filter.conds) split c.requires.parts))

pub table_of-table_of-requires-in-Project : goal.table_of-table_of-requires-in-Project
table_of-table_of-requires-in-Project t c =
    let nodes = c.args.nodes.now in
    let below = c.in-Some.below.now in
    let split : nodes ≡ below ++ node.Project c.in-Project.columns ∷ [] = c.in-Some.ensures.cases.0 ∙ ap (λ (last : Node). below ++ last ∷ []) c.in-Project.is in
    let contents = given c.args.fetched.now in
    (omega (arith, c.in-Some.ensures.cases.1), (last_asked IsUniform nodes below (node.Project c.in-Project.columns) split c.requires.plan, last_asked (AreGiven contents) nodes below (node.Project c.in-Project.columns) split c.requires.parts))

pub table_of-tables_of-requires : goal.table_of-tables_of-requires
table_of-tables_of-requires t c =
    let nodes = c.args.nodes.now in
    let below = c.in-Some.below.now in
    let split : nodes ≡ below ++ node.Union ∷ [] = c.in-Some.ensures.cases.0 ∙ ap (λ (last : Node). below ++ last ∷ []) c.in-Union.is in
    let plans = last_asked IsUniform nodes below node.Union split c.requires.plan in
    let parts = last_asked (AreGiven (given c.args.fetched.now)) nodes below node.Union split c.requires.parts in
    (omega (arith, c.in-Some.ensures.cases.1), ((plans.1, plans.0), (parts.1, parts.0)))

pub table_of-tables_of-requires-in-KeyJoin : goal.table_of-tables_of-requires-in-KeyJoin
table_of-tables_of-requires-in-KeyJoin t c =
    let nodes = c.args.nodes.now in
    let below = c.in-Some.below.now in
    let split : nodes ≡ below ++ node.KeyJoin ∷ [] = c.in-Some.ensures.cases.0 ∙ ap (λ (last : Node). below ++ last ∷ []) c.in-KeyJoin.is in
    let plans = last_asked IsUniform nodes below node.KeyJoin split c.requires.plan in
    let parts = last_asked (AreGiven (given c.args.fetched.now)) nodes below node.KeyJoin split c.requires.parts in
    (omega (arith, c.in-Some.ensures.cases.1), ((plans.1, plans.0), (parts.1, parts.0)))

pub table_of-tables_of-requires-in-Lookup : goal.table_of-tables_of-requires-in-Lookup
table_of-tables_of-requires-in-Lookup t c =
    let nodes = c.args.nodes.now in
    let below = c.in-Some.below.now in
    let split : nodes ≡ below ++ (node.Lookup c.in-Lookup.col c.in-Lookup.width) ∷ [] = c.in-Some.ensures.cases.0 ∙ ap (λ (last : Node). below ++ last ∷ []) c.in-Lookup.is in
    let plans = last_asked IsUniform nodes below (node.Lookup c.in-Lookup.col c.in-Lookup.width) split c.requires.plan in
    let parts = last_asked (AreGiven (given c.args.fetched.now)) nodes below (node.Lookup c.in-Lookup.col c.in-Lookup.width) split c.requires.parts in
    (omega (arith, c.in-Some.ensures.cases.1), ((plans.1, plans.0), (parts.1, parts.0)))

pub table_of-partnered-requires-clause-within : goal.table_of-partnered-requires-clause-within
table_of-partnered-requires-clause-within t c =
    let below = c.in-Some.below.now in
    let others = c.in_ok-table-in-Lookup.others in
    let last = node.Lookup c.in-Lookup.col c.in-Lookup.width in
    let split : c.args.nodes.now ≡ below ++ last ∷ [] = c.in-Some.ensures.cases.0 ∙ ap (λ (last : Node). below ++ last ∷ []) c.in-Lookup.is in
    let uniform = last_asked IsUniform c.args.nodes.now below last split c.requires.plan in
    stays_within c.in-Lookup.width (columns_had (plan_of below)) others.columns others.rows uniform.2 c.in_ok-table-in-Lookup.ensures.upper.made.had

pub table_of-returns-in_ok-no_rows-in-Empty : goal.table_of-returns-in_ok-no_rows-in-Empty
table_of-returns-in_ok-no_rows-in-Empty t c =
    let below = c.in-Some.below.now in
    let split : c.args.nodes.now ≡ below ++ node.Empty ∷ [] = c.in-Some.ensures.cases.0 ∙ ap (λ (last : Node). below ++ last ∷ []) c.in-Empty.is in
    empty_on_top c.args.nodes.now below (given c.args.fetched.now) c.in_ok-no_rows-in-Empty.field-0 c.args.ledger.now.steps split c.in-Some.ensures.cases.1 c.in_ok-no_rows-in-Empty.ensures

pub table_of-returns-in_ok-table-in-Fetch : goal.table_of-returns-in_ok-table-in-Fetch
table_of-returns-in_ok-table-in-Fetch t c =
    let below = c.in-Some.below.now in
    let split : c.args.nodes.now ≡ below ++ node.Fetch c.in-Fetch.read ∷ [] = c.in-Some.ensures.cases.0 ∙ ap (λ (last : Node). below ++ last ∷ []) c.in-Fetch.is in
    fetch_on_top c.args.nodes.now below c.in-Fetch.read (given c.args.fetched.now) c.in_ok-table-in-Fetch.table c.args.ledger.now.steps split c.in-Some.ensures.cases.1 c.requires.plan c.requires.parts (c.in_ok-table-in-Fetch.ensures ∙ ap (table_read c.in-Fetch.read) c.given.ensures)

pub table_of-returns-in_ok-table-in-Filter : goal.table_of-returns-in_ok-table-in-Filter
table_of-returns-in_ok-table-in-Filter t c =
    let below = c.in-Some.below.now in
    let conds = c.as_slice.result.now in
    let split : c.args.nodes.now ≡ below ++ node.Filter conds ∷ [] = c.in-Some.ensures.cases.0 ∙ ap (λ (last : Node). below ++ last ∷ []) (c.in-Filter.is ∙ ap node.Filter (sym c.as_slice.ensures)) in
    filter_on_top c.args.nodes.now below c.in_ok-table-in-Filter.before.now conds (given c.args.fetched.now) c.in_ok-table-in-Filter.table c.filtered.result c.args.ledger.now.steps c.table_of.new.ledger.steps split c.in-Some.ensures.cases.1 c.in_ok-table-in-Filter.ensures c.filtered.ensures

pub table_of-returns-in_ok-table-in-Project : goal.table_of-returns-in_ok-table-in-Project
table_of-returns-in_ok-table-in-Project t c =
    let below = c.in-Some.below.now in
    let columns = c.as_slice-in-Project.result.now in
    let split : c.args.nodes.now ≡ below ++ node.Project columns ∷ [] = c.in-Some.ensures.cases.0 ∙ ap (λ (last : Node). below ++ last ∷ []) (c.in-Project.is ∙ ap node.Project (sym c.as_slice-in-Project.ensures)) in
    project_on_top c.args.nodes.now below c.in_ok-table-in-Project.before.now columns (given c.args.fetched.now) c.in_ok-table-in-Project.table c.cut.result c.args.ledger.now.steps c.table_of-in-Project.new.ledger.steps split c.in-Some.ensures.cases.1 c.in_ok-table-in-Project.ensures c.cut.ensures

pub table_of-returns-in_ok-united-in-Union : goal.table_of-returns-in_ok-united-in-Union
table_of-returns-in_ok-united-in-Union t c =
    let nodes = c.args.nodes.now in
    let below = c.in-Some.below.now in
    let on = c.in_ok-table-in-Union.ensures in
    let split : nodes ≡ below ++ node.Union ∷ [] = c.in-Some.ensures.cases.0 ∙ ap (λ (last : Node). below ++ last ∷ []) c.in-Union.is in
    union_on_top nodes below on.middle c.in_ok-table-in-Union.before.now (given c.args.fetched.now) c.in_ok-table-in-Union.table c.in_ok-table-in-Union.others c.in_ok-united-in-Union.field-0 c.args.ledger.now.steps on.between c.tables_of.new.ledger.steps
    c.united.new.ledger.steps split c.in-Some.ensures.cases.1 c.requires.plan c.requires.parts on.upper on.lower c.in_ok-united-in-Union.ensures.made c.in_ok-united-in-Union.ensures.most

pub table_of-returns-in_ok-keyed-in-KeyJoin : goal.table_of-returns-in_ok-keyed-in-KeyJoin
table_of-returns-in_ok-keyed-in-KeyJoin t c =
    let nodes = c.args.nodes.now in
    let below = c.in-Some.below.now in
    let on = c.in_ok-table-in-KeyJoin.ensures in
    let split : nodes ≡ below ++ node.KeyJoin ∷ [] = c.in-Some.ensures.cases.0 ∙ ap (λ (last : Node). below ++ last ∷ []) c.in-KeyJoin.is in
    key_join_on_top nodes below on.middle c.in_ok-table-in-KeyJoin.before.now (given c.args.fetched.now) c.in_ok-table-in-KeyJoin.table c.in_ok-table-in-KeyJoin.others c.in_ok-keyed-in-KeyJoin.field-0 c.args.ledger.now.steps on.between c.tables_of-in-KeyJoin.new.ledger.steps
    c.keyed.new.ledger.steps split c.in-Some.ensures.cases.1 c.requires.parts on.upper on.lower c.in_ok-keyed-in-KeyJoin.ensures.made c.in_ok-keyed-in-KeyJoin.ensures.most

pub table_of-returns-in_ok-table-in-Lookup-2 : goal.table_of-returns-in_ok-table-in-Lookup-2
table_of-returns-in_ok-table-in-Lookup-2 t c =
    let nodes = c.args.nodes.now in
    let below = c.in-Some.below.now in
    let on = c.in_ok-table-in-Lookup.ensures in
    let split : nodes ≡ below ++ node.Lookup c.in-Lookup.col c.in-Lookup.width ∷ [] = c.in-Some.ensures.cases.0 ∙ ap (λ (last : Node). below ++ last ∷ []) c.in-Lookup.is in
    look_up_on_top nodes below on.middle c.in_ok-table-in-Lookup.before.now c.in-Lookup.col c.in-Lookup.width (given c.args.fetched.now) c.in_ok-table-in-Lookup.table c.in_ok-table-in-Lookup.others c.in_ok-table-in-Lookup-2.table c.args.ledger.now.steps on.between c.tables_of-in-Lookup.new.ledger.steps
    c.partnered.new.ledger.steps split c.in-Some.ensures.cases.1 c.requires.parts on.upper on.lower c.in_ok-table-in-Lookup-2.ensures.made c.in_ok-table-in-Lookup-2.ensures.most

pub table_of-table_read-requires : goal.table_of-table_read-requires
table_of-table_read-requires t c =
    let contents = given c.args.fetched.now in
    let nodes = c.args.nodes.now in
    let below = c.in-Some.below.now in
    let read = c.in-Fetch.read in
    let split : nodes ≡ below ++ node.Fetch read ∷ [] = c.in-Some.ensures.cases.0 ∙ ap (λ (last : Node). below ++ last ∷ []) c.in-Fetch.is in
    let parts : AreParts read.columns (contents read.leaf) = last_asked (AreGiven contents) nodes below (node.Fetch read) split c.requires.parts in
    let P : List (List Value) → Type 0 = AllByRecursion (λ part. length part ≡ length read.columns) in
    subst P (sym c.given.ensures) parts.wide

pub table_of-united-requires-clause-columns : goal.table_of-united-requires-clause-columns
table_of-united-requires-clause-columns t c =
    let nodes = c.args.nodes.now in
    let below = c.in-Some.below.now in
    let split : nodes ≡ below ++ node.Union ∷ [] = c.in-Some.ensures.cases.0 ∙ ap (λ (last : Node). below ++ last ∷ []) c.in-Union.is in
    let on = c.in_ok-table-in-Union.ensures in
    union_columns nodes below on.middle c.in_ok-table-in-Union.table c.in_ok-table-in-Union.others split c.requires.plan on.upper.stack on.lower.made.had on.upper.made.had

pub tables_of-table_of-requires : goal.tables_of-table_of-requires
tables_of-table_of-requires t c = (omega arith, (c.requires.plans.0, c.requires.parts.0))

pub tables_of-table_of-requires-2 : goal.tables_of-table_of-requires-2
tables_of-table_of-requires-2 t c =
    let on = c.in_ok-others.ensures in
    let nodes = c.args.nodes.now in
    let below = c.in_ok-others.below.now in
    (omega (arith, on.fewer), (under_asked IsUniform nodes below on.stack c.requires.plans.1, under_asked (AreGiven (given c.args.fetched.now)) nodes below on.stack c.requires.parts.1))
