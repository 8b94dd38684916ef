-- Lemmas on what is shown of a plan.
use Rattle.std.proofs.Common.{◌≡◌, ◌≢◌, ℕ, Bool, false, List, [], ◌∷◌, ◌++◌, Option, Some, None, Result, Ok, Err, IfErr, IfSome, OnOk, inl, inr, append_assoc, refl, subst, sym}
use Rattle.meaning.specs.declared.schema.RelationSchema.{RelationSchema}
use Rattle.meaning.specs.declared.statement.Statement.{Statement}
use Rattle.meaning.specs.Statement.{is_refragment}
use Rattle.reader.specs.declared.command.Command.{Command}
use Rattle.reader.specs.declared.command.Command.TheVariants.{Run}
use Rattle.reader.specs.declared.fault.Rule.{Rule}
use Rattle.reader.specs.declared.fault.Rule.TheVariants as rules
use Rattle.reader.specs.Command.{IsTextOf, OneCommandOfText}
use Rattle.reader.specs.Fault.{Fault}
use Rattle.std.specs.Borrow.{Bor}
use Rattle.std.specs.Io.KnownBytes.{Appends, Keeps}
use Rattle.catalog.specs.Catalogue.{Catalogue, IsValidCatalogue}
use Rattle.catalog.specs.FragmentLeaf.{schemas_of}
use Rattle.lines.specs.declared.fault.ProgramFault.TheVariants.{Memory}
use Rattle.lines.specs.declared.plan_text.PlanFault.{PlanFault}
use Rattle.lines.specs.declared.plan_text.PlanFault.TheVariants.{Program, Catalogue as Refused, Statement as NoStatement}
use Rattle.lines.specs.CatalogFile.{IsCatalogueFile}
use Rattle.lines.specs.Plan.{IsNoStatementOf, IsShownPlan, IsPlanWriteFault, IsReadFault, PlansFile, fault_by_rule}

-- a fetch's line in its parts
pub fetch_of_parts : (old name site conds a b c all : List ℕ) → a ≡ old ++ (name ++ 32 ∷ []) → b ≡ a ++ site → c ≡ b ++ conds → all ≡ c ++ 10 ∷ [] → all ≡ old ++ (name ++ 32 ∷ site ++ conds ++ 10 ∷ [])
fetch_of_parts old name site conds a b c all is_a is_b is_c is_all = rw (is_all, is_c, is_b, is_a) (simp append_assoc refl)

-- a text of another command is one of no statement
pub other_command : (schema : List RelationSchema) (text : List ℕ) (command : Command) (fault : Fault) → OneCommandOfText → IsTextOf schema text command → ((s : Statement) → is_refragment s ≡ false → command ≢ Run s) → fault.rule ≡ rules.Syntax → IsNoStatementOf schema text fault
other_command schema text command fault one of other is_rule = record {
  is_rule = λ memory. cc;
  none = λ s ordinary of_run. other s ordinary (one schema text command (Run s) of of_run);
}

-- a refusal by a rule, whichever it is
pub refused_by : (schema : List RelationSchema) (text : List ℕ) (fault : Fault) (rule : Rule) → fault.rule ≡ rule → (fault.rule ≢ rules.Memory → (command : Command) → ¬ (IsTextOf schema text command)) → IsReadFault schema text (fault_by_rule fault rule)
refused_by schema text fault rules.Memory is none = refl
refused_by schema text fault rules.TooLong is none = record { is_rule = λ memory. cc; none = λ s ordinary. none (λ memory. cc) (Run s) }
refused_by schema text fault rules.Character is none = record { is_rule = λ memory. cc; none = λ s ordinary. none (λ memory. cc) (Run s) }
refused_by schema text fault rules.Syntax is none = record { is_rule = λ memory. cc; none = λ s ordinary. none (λ memory. cc) (Run s) }
refused_by schema text fault rules.NoRelation is none = record { is_rule = λ memory. cc; none = λ s ordinary. none (λ memory. cc) (Run s) }
refused_by schema text fault rules.NoColumn is none = record { is_rule = λ memory. cc; none = λ s ordinary. none (λ memory. cc) (Run s) }
refused_by schema text fault rules.Ambiguous is none = record { is_rule = λ memory. cc; none = λ s ordinary. none (λ memory. cc) (Run s) }
refused_by schema text fault rules.WrongType is none = record { is_rule = λ memory. cc; none = λ s ordinary. none (λ memory. cc) (Run s) }
refused_by schema text fault rules.KeyColumn is none = record { is_rule = λ memory. cc; none = λ s ordinary. none (λ memory. cc) (Run s) }
refused_by schema text fault rules.JoinNotKey is none = record { is_rule = λ memory. cc; none = λ s ordinary. none (λ memory. cc) (Run s) }
refused_by schema text fault rules.Count is none = record { is_rule = λ memory. cc; none = λ s ordinary. none (λ memory. cc) (Run s) }
refused_by schema text fault rules.Limit is none = record { is_rule = λ memory. cc; none = λ s ordinary. none (λ memory. cc) (Run s) }

-- a plan was written, or the write failed
pub shown_plan : (known : Option (List ℕ)) (as_tree : Bool) (file : Bor (List ℕ)) (text : List ℕ) (old new : Option (List ℕ)) (catalogue : Catalogue) (statement : Statement) (shown written : List ℕ) (result : Result Unit PlanFault) → IfSome known (λ bytes. IsCatalogueFile bytes catalogue) → IsValidCatalogue catalogue →
    IsTextOf (schemas_of catalogue) text (Run statement) → IsShownPlan as_tree catalogue statement shown → written ≡ shown → OnOk result (Appends old new written) → IfErr result IsPlanWriteFault → IfSome known (λ bytes. PlansFile as_tree file text bytes old new result)
shown_plan None as_tree file text old new catalogue statement shown written result of valid read planned same said faults = tt
shown_plan (Some bytes) as_tree file text old new catalogue statement shown written (Ok done) of valid read planned same said faults =
    record { catalogue = catalogue; file = of; valid = valid; statement = statement; read = read; shown = shown; planned = planned; said = subst (λ (line : List ℕ). Appends old new line) same said }
shown_plan (Some bytes) as_tree file text old new catalogue statement shown written (Err (Program fault)) of valid read planned same said (inl memory) = inl (inl memory)
shown_plan (Some bytes) as_tree file text old new catalogue statement shown written (Err (Program fault)) of valid read planned same said (inr closed) = inr closed
shown_plan (Some bytes) as_tree file text old new catalogue statement shown written (Err (Refused fault)) of valid read planned same said faults = absurd faults
shown_plan (Some bytes) as_tree file text old new catalogue statement shown written (Err (NoStatement fault)) of valid read planned same said faults = absurd faults

-- the text is refused, and nothing was written
pub refused_text : (known : Option (List ℕ)) (as_tree : Bool) (file : Bor (List ℕ)) (text : List ℕ) (old new : Option (List ℕ)) (catalogue : Catalogue) (result : Result Unit PlanFault) (fault : PlanFault) → IfSome known (λ bytes. IsCatalogueFile bytes catalogue) → IsValidCatalogue catalogue →
    result ≡ Err fault → IsReadFault (schemas_of catalogue) text fault → Keeps old new → IfSome known (λ bytes. PlansFile as_tree file text bytes old new result)
refused_text None as_tree file text old new catalogue result fault of valid is refused quiet = tt
refused_text (Some bytes) as_tree file text old new catalogue result fault of valid is refused quiet =
    subst (λ (r : Result Unit PlanFault). PlansFile as_tree file text bytes old new r) (sym is) (go fault refused)
  where
    go : (other : PlanFault) → IsReadFault (schemas_of catalogue) text other → PlansFile as_tree file text bytes old new (Err other)
    go (Program program) memory = inl (inl memory)
    go (Refused refusal) none = absurd none
    go (NoStatement refusal) none = record { catalogue = catalogue; file = of; valid = valid; refused = none; quiet = quiet }
