-- What a node says, by what the calls on its value give.
use Rattle.std.proofs.Common.{◌≡◌, ◌≢◌, ℕ, suc, ◌==◌, ◌&&◌, Bool, true, false, if◌then◌else◌, List, [], ◌∷◌, length, map, Option, Some, None, is_some, option_map, Bor, ◌⊎◌, inl, inr, ne_eqb, refl, sym, ap, subst, codes, String, Global}
use Rattle.toml.specs.Data.{Data, string, integer, float, boolean, datetime, array, table, Items, Members, as_array, as_table, get}
use Rattle.toml.specs.View.{view, items_of, items_view, members_view}
use Rattle.toml.specs.declared.value.Value.{Value}
use Rattle.catalog.specs.Node.{Ill, listed_items, only_tables, some_items, key_count, split_form, form_of}
use Rattle.std.specs.List.{list_all}

pub listed_items_of : (ds : List Data) → listed_items (items_of ds) ≡ ds
listed_items_of [] = refl
listed_items_of (d ∷ ds) = ap (λ rest. d ∷ rest) (listed_items_of ds)

pub key_count_of : (es : List (String Global × Value)) → key_count (members_view es) ≡ length es
key_count_of [] = refl
key_count_of (e ∷ es) = ap suc (key_count_of es)

-- a table
pub form_of_table : (beside : List ℕ) (es : List (String Global × Value)) (d : Data) → Some (members_view es) ≡ as_table d →
    form_of beside d ≡ (if length es == 2 && is_some (get beside d) then split_form (get (codes "site") d) (get (codes "rows") d) (get (codes "cols") d) else Ill)
form_of_table beside es (table ms) is =
    let P : Members → Type 0 = λ m. form_of beside (table m) ≡ (if length es == 2 && is_some (get beside (table m)) then split_form (get (codes "site") (table m)) (get (codes "rows") (table m)) (get (codes "cols") (table m)) else Ill) in
    let same : members_view es ≡ ms = cc in
    subst P same (rw (key_count_of es) refl)
form_of_table beside es (string s) is = absurd cc
form_of_table beside es (integer z) is = absurd cc
form_of_table beside es (float x) is = absurd cc
form_of_table beside es (boolean b) is = absurd cc
form_of_table beside es (datetime dt) is = absurd cc
form_of_table beside es (array items) is = absurd cc

-- what is no table
pub form_of_other : (beside : List ℕ) (d : Data) → None ≡ as_table d → form_of beside d ≡ Ill
form_of_other beside (table ms) is = absurd cc
form_of_other beside (string s) is = refl
form_of_other beside (integer z) is = refl
form_of_other beside (float x) is = refl
form_of_other beside (boolean b) is = refl
form_of_other beside (datetime dt) is = refl
form_of_other beside (array items) is = refl

-- a table of two keys, one of them this, and any other
pub form_of_two : (beside : List ℕ) (es : List (String Global × Value)) (d : Data) → Some (members_view es) ≡ as_table d → length es ≡ 2 → is_some (get beside d) ≡ true →
    split_form (get (codes "site") d) (get (codes "rows") d) (get (codes "cols") d) ≡ form_of beside d
form_of_two beside es d is two there = rw (form_of_table beside es d is, two, there) refl

pub form_of_ill : (beside : List ℕ) (es : List (String Global × Value)) (d : Data) (two there : Bool) → Some (members_view es) ≡ as_table d → (length es == 2) ≡ two → is_some (get beside d) ≡ there → (two && there) ≡ false →
    Ill ≡ form_of beside d
form_of_ill beside es d two there is count found none = rw (form_of_table beside es d is, count, found, none) refl

-- whether something was found
pub there_of : (r : Option (Bor Value)) (o : Option Data) (b : Bool) → option_map (λ v. view v.now) r ≡ o → b ≡ is_some r → is_some o ≡ b
there_of None o b e is = rw (← e) (sym is)
there_of (Some v) o b e is = rw (← e) (sym is)

-- two tests, not both of which are passed
pub not_both : (n : ℕ) (there : Bool) → ((n ≡ 2) × (there ≡ false)) ⊎ (n ≡ 2 → ⊥) → (n == 2 && there) ≡ false
not_both n there (inl both) = rw (both.0, both.1) refl
not_both n there (inr other) = rw (ne_eqb n 2 other) refl

-- an array with items, and what is none
pub some_items_of : (vs : List Value) (d : Data) → Some (items_view vs) ≡ as_array d → vs ≢ [] → Some (map view vs) ≡ some_items d
some_items_of [] d is some = absurd (some refl)
some_items_of (v ∷ vs) (array items) is some =
    let P : Items → Type 0 = λ its. Some (map view (v ∷ vs)) ≡ some_items (array its) in
    let same : items_view (v ∷ vs) ≡ items = cc in
    subst P same (ap (λ rest. Some (view v ∷ rest)) (sym (listed_items_of (map view vs))))
some_items_of (v ∷ vs) (string s) is some = absurd cc
some_items_of (v ∷ vs) (integer z) is some = absurd cc
some_items_of (v ∷ vs) (float x) is some = absurd cc
some_items_of (v ∷ vs) (boolean b) is some = absurd cc
some_items_of (v ∷ vs) (datetime dt) is some = absurd cc
some_items_of (v ∷ vs) (table ms) is some = absurd cc

-- values of which each is a table, and values of which some is none
all_viewed : (vs : List Value) → list_all (λ d. is_some (as_table d)) (map view vs) ≡ list_all (λ v. is_some (as_table (view v))) vs
all_viewed [] = refl
all_viewed (v ∷ vs) = ap (λ b. is_some (as_table (view v)) && b) (all_viewed vs)

pub tables_of : (vs : List Value) (all : Bool) → all ≡ list_all (λ v. is_some (as_table (view v))) vs → all ≡ true → Some (map view vs) ≡ only_tables (map view vs)
tables_of vs all is each = rw (all_viewed vs, ← is, each) refl

pub no_tables_of : (vs : List Value) (all : Bool) → all ≡ list_all (λ v. is_some (as_table (view v))) vs → all ≡ false → None ≡ only_tables (map view vs)
no_tables_of vs all is some = rw (all_viewed vs, ← is, some) refl
