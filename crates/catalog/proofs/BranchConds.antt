-- The conditions of branches, by what the reader answers.
use Rattle.std.proofs.Common.{◌≡◌, ◌≢◌, ℕ, suc, Bool, true, false, ◌==◌, ◌||◌, if◌then◌else◌, List, [], ◌∷◌, ◌++◌, Some, map, refl, sym, subst, ◌∙◌}
use Rattle.terms.specs.declared.cond.Cond.{Cond}
use Rattle.meaning.specs.declared.schema.Column.{Column}
use Rattle.reader.specs.Conds.{AreCondsOf}
use Rattle.reader.specs.Scope.{types}
use Rattle.reader.specs.declared.fault.Rule as readers
use Rattle.reader.specs.declared.fault.Rule.TheVariants as reading
use Rattle.toml.specs.Data.{Data}
use Rattle.std.specs.Prelude.{codes}
use Rattle.std.specs.List.{AllByRecursion}
use Rattle.catalog.specs.Counts.{has}
use Rattle.catalog.specs.Describes.{Each, IsWhereOn, shown, visible_from}
use Rattle.catalog.specs.declared.fault.Rule.{Rule}
use Rattle.catalog.specs.Node.{text_at}
use Rattle.catalog.proofs.Refusals.{refuses_also}
use Rattle.catalog.specs.Refuses.{RefusesWhere, RefusesConds, rule_of}

-- another text there would be the same
no_where : (columns : List Column) (node : Data) (text : List ℕ) → text_at (codes "where") node ≡ Some text → ((conds : List Cond) → AreCondsOf columns text conds → ⊥) → (conds : List Cond) → IsWhereOn columns node conds → ⊥
no_where columns node text there none conds w =
    let same : w.text ≡ text = some_same w.text text (sym w.there ∙ there) in
    let P : List ℕ → Type 0 = λ t. AreCondsOf columns t conds in
    none conds (subst P same w.reads)
  where
    some_same : (s t : List ℕ) → Some s ≡ Some t → s ≡ t
    some_same s t e = cc

pub refuses_where : (columns : List Column) (node : Data) (text : List ℕ) (rule : readers.Rule) → text_at (codes "where") node ≡ Some text →
    (rule ≢ reading.Memory → (conds : List Cond) → AreCondsOf columns text conds → ⊥) → RefusesWhere columns node (rule_of rule)
refuses_where columns node text reading.Memory there none = tt
refuses_where columns node text reading.TooLong there none = no_where columns node text there (none (λ e. cc))
refuses_where columns node text reading.Character there none = no_where columns node text there (none (λ e. cc))
refuses_where columns node text reading.Syntax there none = no_where columns node text there (none (λ e. cc))
refuses_where columns node text reading.NoRelation there none = no_where columns node text there (none (λ e. cc))
refuses_where columns node text reading.NoColumn there none = no_where columns node text there (none (λ e. cc))
refuses_where columns node text reading.Ambiguous there none = no_where columns node text there (none (λ e. cc))
refuses_where columns node text reading.WrongType there none = no_where columns node text there (none (λ e. cc))
refuses_where columns node text reading.KeyColumn there none = no_where columns node text there (none (λ e. cc))
refuses_where columns node text reading.JoinNotKey there none = no_where columns node text there (none (λ e. cc))
refuses_where columns node text reading.Count there none = no_where columns node text there (none (λ e. cc))
refuses_where columns node text reading.Limit there none = no_where columns node text there (none (λ e. cc))

-- a column that goes by no name has its type
shown_kind : (within : List ℕ) (place : ℕ) (column : Column) → (shown within place column).kind ≡ column.kind
shown_kind within place column = one_kind (place == 0 || has within place)
  where
    one_kind : (b : Bool) → (if b then column else record { name = []; kind = column.kind }).kind ≡ column.kind
    one_kind true = refl
    one_kind false = refl

pub types_visible : (within : List ℕ) (place : ℕ) (columns : List Column) → types (visible_from place within columns) ≡ map (λ column. column.kind) columns
types_visible within place [] = refl
types_visible within place (column ∷ columns) = rw (shown_kind within place column, types_visible within (suc place) columns) refl

-- a branch whose conditions are refused, and what that says of all
pub refuses_conds : (columns : List Column) (nodes : List Data) (node : Data) (rule : Rule) → RefusesWhere columns node rule →
    (((conds : List Cond) → IsWhereOn columns node conds → ⊥) → (branches : List (List Cond)) → Each (IsWhereOn columns) nodes branches → ⊥) → RefusesConds columns nodes rule
refuses_conds columns nodes node rule refused spreads =
    refuses_also ⊥ ((conds : List Cond) → IsWhereOn columns node conds → ⊥) ((branches : List (List Cond)) → Each (IsWhereOn columns) nodes branches → ⊥) rule spreads refused

-- one item more of which something holds
pub all_more : {A : Type 0} (P : A → Type 0) (xs : List A) (x : A) → AllByRecursion P xs → P x → AllByRecursion P (xs ++ x ∷ [])
all_more P [] x all here = (here, tt)
all_more P (y ∷ xs) x all here = (all.0, all_more P xs x all.1 here)
