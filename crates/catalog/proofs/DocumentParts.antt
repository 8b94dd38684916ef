-- What stands at the keys of a document, by what the calls on its value give.
use Rattle.std.proofs.Common.{◌≡◌, ◌≢◌, ℕ, List, Some, None, Option, length, refl, sym, ap, subst, ◌∙◌, ne_eqb, codes, String, Global, Bor, option_map}
use Rattle.toml.specs.Data.{Data, string, integer, float, boolean, datetime, array, table, Members, as_table, get}
use Rattle.toml.specs.View.{view, members_view}
use Rattle.toml.specs.declared.value.Value.{Value}
use Rattle.catalog.specs.Catalogue.{document_parts}
use Rattle.catalog.specs.Node.{key_count, some_texts}
use Rattle.catalog.proofs.Nodes.{key_count_of}

-- another number of keys than two
pub no_parts : (es : List (String Global × Value)) (d : Data) → Some (members_view es) ≡ as_table d → length es ≢ 2 → None ≡ document_parts d
no_parts es (table ms) is other =
    let P : Members → Type 0 = λ m. None ≡ document_parts (table m) in
    let same : members_view es ≡ ms = cc in
    subst P same (rw (key_count_of es, ne_eqb (length es) 2 other) refl)
no_parts es (string s) is other = absurd cc
no_parts es (integer z) is other = absurd cc
no_parts es (float x) is other = absurd cc
no_parts es (boolean b) is other = absurd cc
no_parts es (datetime dt) is other = absurd cc
no_parts es (array items) is other = absurd cc

-- two keys, and what stands there
pub two_parts : (es : List (String Global × Value)) (d listed other : Data) (sites : List (List ℕ)) (relations : Members) → Some (members_view es) ≡ as_table d → length es ≡ 2 →
    get (codes "sites") d ≡ Some listed → some_texts listed ≡ Some sites → get (codes "relations") d ≡ Some other → as_table other ≡ Some relations → Some (sites, relations) ≡ document_parts d
two_parts es (table ms) listed other sites relations is two here texts there members =
    let same : members_view es ≡ ms = cc in
    let count : key_count ms ≡ 2 = ap key_count (sym same) ∙ key_count_of es ∙ two in
    rw (count, here, there, texts, members) refl
two_parts es (string s) listed other sites relations is two here texts there members = absurd cc
two_parts es (integer z) listed other sites relations is two here texts there members = absurd cc
two_parts es (float x) listed other sites relations is two here texts there members = absurd cc
two_parts es (boolean b) listed other sites relations is two here texts there members = absurd cc
two_parts es (datetime dt) listed other sites relations is two here texts there members = absurd cc
two_parts es (array items) listed other sites relations is two here texts there members = absurd cc

-- what a call found, seen as data
pub seen : (r : Option (Bor Value)) (o : Option Data) (v : Bor Value) → option_map (λ x. view x.now) r ≡ o → r ≡ Some v → o ≡ Some (view v.now)
seen r o v gives is = sym gives ∙ ap (option_map (λ (x : Bor Value). view x.now)) is
