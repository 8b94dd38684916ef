-- Why `obey` meets its contract.
use Rattle.std.proofs.Common.{◌≡◌, ◌⊎◌, Result, OnOk, IfErr, inl, inr, refl, subst, sym, ⊎_elim}
use Rattle.meaning.specs.declared.statement.Statement.TheVariants.{Refragment}
use Rattle.reader.specs.declared.command.Command.TheVariants.{Begin, Commit, Rollback, Run}
use Rattle.wire.specs.declared.fault.CallFault.{CallFault}
use Rattle.wire.specs.declared.fault.CallFault.TheVariants as faults
use Rattle.wire.specs.declared.talk.Heard.{Heard}
use Rattle.wire.proofs.Reading.{no_memory, only_memory}
use Rattle.wire.proofs.talk.Talk.obey.Goals as goal

pub returns-in-Err-clause-outside : goal.returns-in-Err-clause-outside
returns-in-Err-clause-outside g c = λ none spelled. (tt, inr (only_memory c.args.self.now.shared.now.schema.relations c.args.text.now c.in-Err.fault c.in-Err.ensures.unread spelled))

pub returns-in-Some-clause-inside : goal.returns-in-Some-clause-inside
returns-in-Some-clause-inside g c = λ is begins. c.obey_inside.ensures.inside (c.one_command.ensures c.args.self.now.shared.now.schema.relations c.args.text.now c.in-Ok.command Begin c.in-Ok.ensures.read begins)

pub returns-clause-outside : goal.returns-clause-outside
returns-clause-outside g c = λ none spelled.
    let schema = c.args.self.now.shared.now.schema.relations in
    let one = c.one_command.ensures schema c.args.text.now c.in-Ok.command in
    let misplaced : (c.in-Ok.command ≡ Commit) ⊎ (c.in-Ok.command ≡ Rollback) = ⊎_elim (λ commits. inl (one Commit c.in-Ok.ensures.read commits)) (λ rolls_back. inr (one Rollback c.in-Ok.ensures.read rolls_back)) spelled in
    let is = c.obey_outside.ensures.outside misplaced in
    subst (λ (result : Result Heard CallFault). OnOk result ⊥ × IfErr result (λ told. (told ≡ faults.NoTransaction) ⊎ (told ≡ faults.Memory))) (sym is) (tt, inl refl)

pub returns-in-Err-clause-moves_inside : goal.returns-in-Err-clause-moves_inside
returns-in-Err-clause-moves_inside g c = λ refragment is spelled. (tt, inr (inl (no_memory c.args.self.now.shared.now.schema.relations c.args.text.now c.in-Err.fault c.in-Err.ensures.unread (Run (Refragment refragment)) spelled)))

pub returns-in-Some-clause-moves_inside : goal.returns-in-Some-clause-moves_inside
returns-in-Some-clause-moves_inside g c = λ refragment is spelled. c.obey_inside.ensures.moves_inside refragment (c.one_command.ensures c.args.self.now.shared.now.schema.relations c.args.text.now c.in-Ok.command (Run (Refragment refragment)) c.in-Ok.ensures.read spelled)
