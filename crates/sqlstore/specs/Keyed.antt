-- Each part of a site stands under its own key.
use Rattle.std.specs.Prelude.{◌≡◌, ℤ, Bool, true, false, List, [], ◌∷◌, Some, IfSome, if◌then◌else◌, refl}
use Rattle.std.proofs.Common.{sym, ap, ◌∙◌, subst, inl, inr}
use Rattle.std.specs.Cmp.{int_cmp_total}
use Rattle.std.specs.FinMap as map
use Rattle.std.specs.FinMap.{int_cmp-IsAntisymmetric}
use Rattle.std.specs.Ordering.{int_cmp, is_eq}
use Rattle.std.specs.declared.cmp.Ordering.{Ordering}
use Rattle.std.specs.declared.cmp.Ordering.TheVariants.{Less, Equal, Greater}
use Rattle.sqlite.specs.Effect.{Database}
use Rattle.sqlite.specs.Order.{Row}
use Rattle.sqlite_rules.specs.Lists.{Has}
use Rattle.store.specs.Content.{Content, IsKeyed}
use Rattle.terms.specs.declared.leaf.Leaf.{Leaf}
use Rattle.terms.specs.declared.value.Value.{Value}
use Rattle.terms.specs.Row.{key_of}
use Rattle.sqlstore.specs.Cells.{text_at, int_at, is_int}
use Rattle.sqlstore.specs.Content.{decoded, part_or_none, is_called, content_in, kept_of}
use Rattle.sqlstore.specs.Sound.{IsPart, IsStored}

equal : (order : Ordering) → is_eq order ≡ true → order ≡ Equal
equal Less same = cc
equal Equal same = refl
equal Greater same = cc

-- a part that is put under its own key leaves each part under its own
put_keyed : (content : Content) (at : ℤ) (part : List Value) → key_of part ≡ at → IsKeyed content → IsKeyed (map.insert content at part)
put_keyed content at part own keyed key = subst (λ found. IfSome found (λ p. key_of p ≡ key)) (sym (map.get-insert int_cmp_total content at part key)) (go (is_int key at) refl)
  where
    go : (here : Bool) → is_int key at ≡ here → IfSome (if here then Some part else map.get content key) (λ p. key_of p ≡ key)
    go true same = own ∙ sym (int_cmp-IsAntisymmetric key at (equal (int_cmp key at) same))
    go false differ = keyed key

rows_keyed : (leaves : List Leaf) (rows : List Row) → ((row : Row) → Has rows row → IsPart leaves row) → (leaf : Leaf) → IsKeyed (content_in leaves rows leaf)
rows_keyed leaves [] parts leaf = λ key. subst (λ found. IfSome found (λ p. key_of p ≡ key)) (sym (map.get-empty int_cmp key)) tt
rows_keyed leaves (row ∷ rows) parts leaf = go (is_called leaves leaf (text_at row 1)) (rows_keyed leaves rows (λ r there. parts r (inr there)) leaf)
  where
    go : (called : Bool) → IsKeyed (content_in leaves rows leaf) → IsKeyed (if called then map.insert (content_in leaves rows leaf) (int_at row 2) (decoded (text_at row 3)) else content_in leaves rows leaf)
    go true rest =
        let spells = (parts row (inl refl)).spells in
        put_keyed (content_in leaves rows leaf) (int_at row 2) (decoded (text_at row 3)) (ap (λ r. key_of (part_or_none r)) spells.spelled ∙ spells.keyed) rest
    go false rest = rest

pub stored_keyed : (leaves : List Leaf) (db : Database) → IsStored leaves db → (leaf : Leaf) → IsKeyed ((kept_of leaves db).content leaf)
stored_keyed leaves db stored = rows_keyed leaves (db.trees 0) stored.parts
