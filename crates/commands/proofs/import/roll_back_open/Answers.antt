use Rattle.std.proofs.Common.{◌∷◌, [], List, codes, refl, subst, sym, ◌∙◌}
use Rattle.lines.specs.Reply.{Told, told_by}
use Rattle.lines.specs.Script.{Reading, Runs}
use Rattle.commands.specs.Import.{IsRolledBack}
use Rattle.commands.proofs.ImportLemmas.{comes_none, comes_so}
use Rattle.commands.proofs.import.roll_back_open.Goals as goal

pub returns-then-not-is_open-clause-ends : goal.returns-then-not-is_open-clause-ends
returns-then-not-is_open-clause-ends g c =
    let ending : List (Reading × Told) = [] in
    (ending, subst (λ is. IsRolledBack is ending) (sym c.if-not-is_open.true ∙ c.is_open.ensures) refl, comes_none g.B.Database.seen c.args.database.now)

pub returns-clause-ends : goal.returns-clause-ends
returns-clause-ends g c =
    let told = told_by c.in_ok-_rolled_back._rolled_back in
    let ending : List (Reading × Told) = (Runs (codes "ROLLBACK"), told) ∷ [] in (
      ending,
      subst (λ is. IsRolledBack is ending) (sym c.if-not-is_open.false ∙ c.is_open.ensures) (told, refl),
      comes_so g.B.Database.seen (Runs (codes "ROLLBACK")) c.args.database.now c.ask.new.database told c.in_ok-_rolled_back.ensures.clean c.in_ok-_rolled_back.ensures.answers c.in_ok-_rolled_back.ensures.over,
    )
