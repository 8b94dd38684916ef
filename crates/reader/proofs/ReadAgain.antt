-- What is printed is read again: bytes that spell the tree, and the tree that means the statement.
use Rattle.std.proofs.Common.{ℕ, [], inl, refl, sym}
use Rattle.std.proofs.lemmas.List.{append-nil}
use Rattle.reader.specs.Grammar.{IsFilled, written_text, conditions_text}
use Rattle.reader.specs.Printable.{column_names, PrintedIsRead, PrintedCondsAreRead}
use Rattle.reader.specs.Tree as tree
use Rattle.reader.specs.Written.{plain_column, condition_as, conditions_as, written_as}
use Rattle.reader.proofs.Resolved.{filled_again, resolves, spellable, writable}
use Rattle.reader.proofs.ResolvedAlone.{conds_resolve, conds_spellable}
use Rattle.reader.proofs.Spelled.{spells_command, spells_conditions}

-- a statement
pub statement_again : PrintedIsRead
statement_again schema statement is short =
    let written = written_as statement in
    record {
      tokens = written_text written;
      written = written;
      short = short;
      spelled = spells_command written (writable schema statement is) (spellable schema statement is);
      grammatical = (writable schema statement is, [], sym (append-nil (written_text written)), inl refl);
      meant = resolves schema statement is;
    }

-- conditions alone
pub conds_again : PrintedCondsAreRead
conds_again columns conds names distinct some few fit short =
    let write : ℕ → tree.Column = plain_column (column_names columns) in
    let filled : IsFilled (conditions_as write conds) = filled_again (condition_as write) conds some in
    record {
      tokens = conditions_text (conditions_as write conds);
      written = conditions_as write conds;
      short = short;
      spelled = spells_conditions (conditions_as write conds) filled (conds_spellable columns conds names fit);
      grammatical = (filled, refl);
      meant = conds_resolve columns conds distinct few fit;
    }
