-- What the code makes of a statement's table is the statement's meaning.
use Rattle.std.proofs.Common.{◌≡◌, List, Result, Ok, Err, IfOk, ap, sym, ◌∙◌, subst}
use Rattle.terms.specs.declared.memory.Memory.{Memory}
use Rattle.meaning.specs.declared.statement.Statement.{Statement}
use Rattle.meaning.specs.declared.statement.Statement.TheVariants as statement
use Rattle.meaning.specs.Meaning.{meaning}
use Rattle.meaning.specs.Statement.{IsStatementOf}
use Rattle.meaning.specs.Whole.{FitsSchema, Relations}
use Rattle.catalog.specs.declared.fragment_leaf.FragmentLeaf.{FragmentLeaf}
use Rattle.catalog.specs.Catalogue.{Catalogue, IsValidCatalogue}
use Rattle.catalog.specs.Formed.{IsFormed}
use Rattle.catalog.specs.FragmentLeaf.{catalogue_leaves, schemas_of}
use Rattle.answers.specs.declared.finish.Outcome.{Outcome}
use Rattle.answers.specs.Laid.{Table}
use Rattle.answers.specs.Outcome.{outcome_of}
use Rattle.answers.specs.Table.{IsTableOf}
use Rattle.answers.specs.Writes.{writes_between}
use Rattle.answers.proofs.Inserted.{insert_right}
use Rattle.answers.proofs.Statements.{IsRight, delete_right, refragment_right, select_right, update_right}

-- of each statement
pub outcome_right : (catalogue : Catalogue) (s : Statement) (whole : Relations) (table : Table) → IsFormed catalogue → IsValidCatalogue catalogue → IsStatementOf (schemas_of catalogue) s → FitsSchema (schemas_of catalogue) whole → IsTableOf s whole table →
    IsRight catalogue whole (meaning s whole) (outcome_of (catalogue_leaves catalogue) s table)
outcome_right catalogue (statement.Select select) whole table formed valid of fit is = select_right catalogue select whole table of fit is
outcome_right catalogue (statement.Insert insert) whole table formed valid of fit is = insert_right catalogue insert whole table formed valid of fit is
outcome_right catalogue (statement.Update update) whole table formed valid of fit is = update_right catalogue update whole table of fit is
outcome_right catalogue (statement.Delete delete) whole table formed valid of fit is = delete_right catalogue delete whole table of fit is
outcome_right catalogue (statement.Refragment refragment) whole table formed valid of fit is = refragment_right catalogue refragment whole table of fit is

right_of : (catalogue : Catalogue) (leaves : List FragmentLeaf) (outcome : Outcome) (s : Statement) (whole : Relations) (table : Table) → IsFormed catalogue → IsValidCatalogue catalogue → IsStatementOf (schemas_of catalogue) s → leaves ≡ catalogue_leaves catalogue →
    outcome ≡ outcome_of leaves s table → FitsSchema (schemas_of catalogue) whole → IsTableOf s whole table → IsRight catalogue whole (meaning s whole) outcome
right_of catalogue leaves outcome s whole table formed valid of leaves_are is fit has =
    let P : Outcome → Type 0 = IsRight catalogue whole (meaning s whole) in
    subst P (sym (is ∙ ap (λ (all : List FragmentLeaf). outcome_of all s table) leaves_are)) (outcome_right catalogue s whole table formed valid of fit has)

pub answer_from : (result : Result Outcome Memory) (catalogue : Catalogue) (leaves : List FragmentLeaf) (s : Statement) (table : Table) → IsFormed catalogue → IsValidCatalogue catalogue → IsStatementOf (schemas_of catalogue) s → leaves ≡ catalogue_leaves catalogue →
    IfOk result (λ made. made ≡ outcome_of leaves s table) → IfOk result (λ outcome. (whole : Relations) → FitsSchema (schemas_of catalogue) whole → IsTableOf s whole table → outcome.answer ≡ (meaning s whole).0)
answer_from (Ok outcome) catalogue leaves s table formed valid of leaves_are is = λ whole fit has. (right_of catalogue leaves outcome s whole table formed valid of leaves_are is fit has).answered
answer_from (Err error) catalogue leaves s table formed valid of leaves_are is = tt

pub writes_from : (result : Result Outcome Memory) (catalogue : Catalogue) (leaves : List FragmentLeaf) (s : Statement) (table : Table) → IsFormed catalogue → IsValidCatalogue catalogue → IsStatementOf (schemas_of catalogue) s → leaves ≡ catalogue_leaves catalogue →
    IfOk result (λ made. made ≡ outcome_of leaves s table) → IfOk result (λ outcome. (whole : Relations) → FitsSchema (schemas_of catalogue) whole → IsTableOf s whole table → outcome.writes ≡ writes_between catalogue whole (meaning s whole).1)
writes_from (Ok outcome) catalogue leaves s table formed valid of leaves_are is = λ whole fit has. (right_of catalogue leaves outcome s whole table formed valid of leaves_are is fit has).wrote
writes_from (Err error) catalogue leaves s table formed valid of leaves_are is = tt
