-- Rows that fit a leaf are well formed.
use Rattle.std.proofs.Common.{◌≡◌, refl, sym, ap, ◌∙◌, ℕ, Bool, List, length, Option, Some, None, ◌↔◌, IsTrue}
use Rattle.terms.specs.declared.value.Value.{Value}
use Rattle.catalog.specs.declared.fragment_leaf.FragmentLeaf.{FragmentLeaf}
use Rattle.answers.specs.Evaluated.{parts_climb}
use Rattle.answers.specs.Table.{AreParts}
use Rattle.answers.proofs.Climbing.{parts_are}
use Rattle.desk.specs.Fetches.{fits_leaf}
use Rattle.desk.proofs.Acknowledged.{same_bool}

-- what tells whether rows are parts of the leaf tells whether they fit it
pub fits_as : (named : Option FragmentLeaf) (leaf : FragmentLeaf) (columns : List ℕ) (parts : List (List Value)) (result : Bool) → named ≡ Some leaf → columns ≡ leaf.columns → IsTrue result ↔ AreParts columns parts → result ≡ fits_leaf named parts
fits_as named leaf columns parts result is same tells =
    let climbs = parts_are columns parts (parts_climb (length columns) None parts) refl in
    same_bool result (parts_climb (length columns) None parts) (λ t. climbs.1 (tells.0 t)) (λ t. tells.1 (climbs.0 t))
    ∙ ap (λ (cols : List ℕ). parts_climb (length cols) None parts) same
    ∙ ap (λ (o : Option FragmentLeaf). fits_leaf o parts) (sym is)
