-- Why `state` meets its contract.
use Rattle.desk.proofs.desk.Desk.state.Goals as goal

pub returns : goal.returns
returns g c =
    let now = c.args.self.now in
    let kept = g.S.DeskStore.kept now.store in
    let does = c.call_statement.ensures in
    record {
      ok = λ db of same fits. does.ok db kept of same fits;
      states = record {
        still = does.states.still;
        plainly = record { kept = does.states.kept; err = does.states.err; store = λ i. now.store; catalog = λ i. now.catalog; later = λ i. now.later.items };
        accepted = does.states.accepted;
      };
      told = does.told;
      full = λ db of same fits full. does.full db kept of same fits full;
    }
