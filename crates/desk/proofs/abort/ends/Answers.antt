-- Why `ends` meets its contract.
use Rattle.std.proofs.Common.{refl, sym, ap, ◌∙◌, map, []}
use Rattle.std.specs.List.{cons_option}
use Rattle.desk.specs.Database.{sent}
use Rattle.desk.specs.Orders.{broadcast_letters}
use Rattle.desk.proofs.Endings.{ends_letters}
use Rattle.desk.proofs.abort.ends.Goals as goal

pub returns-clause-turn : goal.returns-clause-turn
returns-clause-turn c = λ db old stage moves deed are is heard. record {
  stands = refl;
  letters = ap (map (sent db)) (c.in_ok-letters.ensures ∙ ap (λ w. broadcast_letters c.args.txn w c.args.participants.now) is) ∙ ends_letters db c.args.txn (record { participants = c.args.participants.now; stage = stage; moves = moves }) deed are;
  replies = sym (ap (λ o. cons_option o []) heard);
}
