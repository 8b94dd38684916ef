-- What a text was read as, while the same catalogue is in force.
use Rattle.std.proofs.Common.{◌≡◌, sym, ap, subst, arith, ℕ, ◌+◌, suc, false, List, [], ◌∷◌, ◌++◌, length, Option, Some, None, IfSome}
use Rattle.std.proofs.lemmas.List.{length-append}
use Rattle.meaning.specs.declared.schema.RelationSchema.{RelationSchema}
use Rattle.meaning.specs.declared.statement.Statement.{Statement}
use Rattle.meaning.specs.Statement.{IsStatementOf, is_refragment}
use Rattle.reader.specs.declared.command.Command.TheVariants.{Run}
use Rattle.reader.specs.Command.{IsTextOf}
use Rattle.catalog.specs.declared.relation.SplitRelation.{SplitRelation}
use Rattle.catalog.specs.FragmentLeaf.{schemas_of}
use Rattle.catalog.specs.Relation.{catalogue_of}
use Rattle.desk.specs.Does.{IsReadAs}
use Rattle.world.specs.Frame.{EndsIn}

-- of a statement that may be known
pub known_ordinary : (schemas : List RelationSchema) (text : List ℕ) (statement : Statement) (known : Option Statement) → IsTextOf schemas text (Run statement) → IsStatementOf schemas statement → IfSome known (λ same. (same ≡ statement) × (is_refragment statement ≡ false)) → IfSome known (IsReadAs schemas text)
known_ordinary schemas text statement None spelled fits same = tt
known_ordinary schemas text statement (Some known) spelled fits same = subst (IsReadAs schemas text) (sym same.0) (record { spelled = spelled; fits = fits; ordinary = same.1 })

first_is : {A : Type 0} (passed : List A) (x y : A) (xs ys : List A) → passed ++ y ∷ ys ≡ x ∷ xs → length ys ≡ length xs → y ≡ x
first_is [] x y xs ys is long = cc
first_is (z ∷ passed) x y xs ys is long =
    let lengths : suc (length (passed ++ y ∷ ys)) ≡ suc (length xs) = ap length is in
    let more : length (passed ++ y ∷ ys) ≡ length passed + suc (length ys) = length-append passed (y ∷ ys) in
    absurd (omega arith)

-- as many lists come later, so none has passed
pub same_in_force : {A : Type 0} {x y : A} {xs ys : List A} → EndsIn (x ∷ xs) (y ∷ ys) → length ys ≡ length xs → y ≡ x
same_in_force {x = x} {y = y} {xs = xs} {ys = ys} ends long = first_is ends.passed x y xs ys ends.is long

-- the catalogue in force is the one under which the text was read
pub known_still : (old now : List (List ℕ) × List SplitRelation) (text : List ℕ) (statement : Statement) (known : Option Statement) (long later : ℕ) → (long ≡ later → now ≡ old) → IsReadAs (schemas_of (catalogue_of old)) text statement → IfSome known (λ same. (same ≡ statement) × (long ≡ later)) → IfSome known (IsReadAs (schemas_of (catalogue_of now)) text)
known_still old now text statement None long later stays read same = tt
known_still old now text statement (Some known) long later stays read same =
    subst (λ (catalog : List (List ℕ) × List SplitRelation). IsReadAs (schemas_of (catalogue_of catalog)) text known) (sym (stays same.1)) (subst (IsReadAs (schemas_of (catalogue_of old)) text) (sym same.0) read)
