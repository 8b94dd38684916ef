use Rattle.std.proofs.Common.{◌≡◌, ◌++◌, ◌∷◌, [], unwrap_or, ap, ◌∙◌}
use Rattle.std.specs.BTreeMap as tree
use Rattle.store.specs.Name.{txn_cmp}
use Rattle.sqlstore.specs.Decided.{voter_in}
use Rattle.sqlstore.proofs.Telling.{put_behind}
use Rattle.sqlstore.proofs.commit_rows.put_vote.Goals as goal

pub returns-in-Ok-insert-clause-ok : goal.returns-in-Ok-insert-clause-ok
returns-in-Ok-insert-clause-ok c =
    let row = c.args.row.now in
    let own = c.in-Ok.vote.0 in
    let was = tree.get txn_cmp c.args.commits.now in
    let said = c.in-Ok.ensures.vote in
    let taken = c.take_voters-voters in
    let voters : c.new.result ≡ unwrap_or (was own) [] ++ voter_in row ∷ [] = c.new.ensures ∙ c.in-Ok-push.ensures.items ∙ ap (λ v. taken.result.items ++ v ∷ []) said.1 ∙ ap (λ vs. vs ++ voter_in row ∷ []) taken.ensures.voters in
    put_behind own row was (tree.get txn_cmp taken.new.commits) (tree.get txn_cmp c.insert.new.self) c.new.result said.0 taken.ensures.others c.in-Ok-insert.ensures.updates.0 voters
