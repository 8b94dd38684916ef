use Rattle.std.proofs.Common.{ℕ, ◌∷◌, [], IfOk, IfSome, List, subst, ◌∙◌}
use Rattle.lines.specs.Reply.{told_by}
use Rattle.commands.specs.Import.{Comes, StopsAt, says}
use Rattle.std.proofs.Common.{codes}
use Rattle.commands.proofs.import.insert_row.Goals as goal

pub returns-clause-all : goal.returns-clause-all
returns-clause-all g c = λ told. subst (λ (text : List ℕ). Comes g.B.Database.seen (says text (codes "changed 1\n") ∷ []) c.args.database.now c.unless_told.new.database) (c.as_str.ensures.value ∙ c.in_ok-text.ensures) (c.unless_told.ensures.all told)

pub returns-clause-stops : goal.returns-clause-stops
returns-clause-stops g c = subst (λ (text : List ℕ). IfOk c.unless_told.result (λ told. IfSome told (λ reply. StopsAt g.B.Database.seen [] (says text (codes "changed 1\n") ∷ []) c.args.database.now c.unless_told.new.database (told_by reply)))) (c.as_str.ensures.value ∙ c.in_ok-text.ensures) c.unless_told.ensures.stops
