-- Conditions alone: what they are written as means them, and is spellable.
use Rattle.std.proofs.Common.{◌≡◌, ◌≤◌, List, Some, length, map}
use Rattle.std.specs.List.{AllByRecursion}
use Rattle.terms.specs.declared.cond.Cond.{Cond}
use Rattle.terms.specs.Cond.{IsCondOf}
use Rattle.meaning.specs.declared.schema.Column as schema
use Rattle.reader.specs.Names.{conds_of}
use Rattle.reader.specs.Printable.{AreDistinct}
use Rattle.reader.specs.Scope.{types, columns_alone}
use Rattle.reader.specs.Tokens.{IsName}
use Rattle.reader.specs.Written.{plain_column, conditions_as}
use Rattle.reader.proofs.Resolved.{with_none}
use Rattle.reader.proofs.ResolvedColumns.{alone_found}
use Rattle.reader.proofs.ResolvedConds.{conds_again}
use Rattle.reader.proofs.Spellable.{IsCondition}
use Rattle.reader.proofs.Spellings.{alone_spelled, conds_spelled}

-- the conditions that printable conditions are written as mean those
pub conds_resolve : (columns : List schema.Column) (conds : List Cond) → AreDistinct (map (λ c. c.name) columns) → length conds ≤ 8 → AllByRecursion (IsCondOf (types columns)) conds → conds_of (columns_alone columns) (conditions_as (plain_column (map (λ c. c.name) columns)) conds) ≡ Some conds
conds_resolve columns conds distinct few fit = conds_again (columns_alone columns) (plain_column (map (λ c. c.name) columns)) (alone_found columns distinct) conds few (with_none (types columns) conds fit)

-- and each can be spelled
pub conds_spellable : (columns : List schema.Column) (conds : List Cond) → AllByRecursion IsName (map (λ c. c.name) columns) → AllByRecursion (IsCondOf (types columns)) conds → AllByRecursion IsCondition (conditions_as (plain_column (map (λ c. c.name) columns)) conds)
conds_spellable columns conds names fit = conds_spelled (columns_alone columns) (plain_column (map (λ c. c.name) columns)) (alone_spelled columns names) conds (with_none (types columns) conds fit)
