-- Parts whose keys ascend are found again where they are put by their keys.
use Rattle.std.proofs.Common.{◌≡◌, refl, sym, ap, ap₂, ◌∙◌, subst, T, ℤ, ◌<ℤ◌, Bool, true, false, cond, ◌&&◌, List, [], ◌∷◌, map, Option, Some, None, arith}
use Rattle.std.proofs.lemmas.Int.{ints}
use Rattle.std.specs.Cmp.{eq_by_cmp_equiv, int_cmp_total}
use Rattle.std.specs.FinMap as fin
use Rattle.std.specs.FinMap.Entries.{below_all}
use Rattle.std.specs.List.{AllByRecursion}
use Rattle.std.specs.Option.{option_or}
use Rattle.std.specs.Ordering.{eq_by_cmp, int_cmp, int_eq, is_lt}
use Rattle.terms.specs.declared.value.Value.{Value}
use Rattle.terms.specs.Row.{key_of}
use Rattle.meaning.specs.Relation.{Ascends}
use Rattle.catalog.specs.Keyed.{row_at}
use Rattle.store.specs.Content.{Content}
use Rattle.desk.specs.CatalogueDatabase.{stored}
use Rattle.desk.specs.CatalogueDatabase.{stored_in}

apart : (a b key : ℤ) → a <ℤ b → int_eq a key ≡ true → int_eq b key ≡ false
apart a b key below same = grind (arith, ints)

is_less : (a b : ℤ) → a <ℤ b → is_lt (int_cmp a b) ≡ true
is_less a b below = grind (arith, ints)

pub turned : (one key : ℤ) → eq_by_cmp int_cmp key one ≡ int_eq one key
turned one key = (eq_by_cmp_equiv int_cmp_total).symm key one

none_after : (key : ℤ) (part : List Value) (parts : List (List Value)) → int_eq (key_of part) key ≡ true → AllByRecursion (λ later. key_of part <ℤ key_of later) parts → row_at key parts ≡ None
none_after key part [] same later = refl
none_after key part (next ∷ parts) same later = rw (apart (key_of part) (key_of next) key later.0 same) (none_after key part parts same later.1)

-- what stands at a key after parts are put, one after another
get_stored_in : (kept : Content) (parts : List (List Value)) (key : ℤ) → Ascends parts → fin.get (stored_in kept parts) key ≡ option_or (row_at key parts) (fin.get kept key)
get_stored_in kept [] key up = refl
get_stored_in kept (part ∷ parts) key up =
    get_stored_in (fin.insert kept (key_of part) part) parts key up.1
    ∙ ap (option_or (row_at key parts)) (fin.get-insert int_cmp_total kept (key_of part) part key ∙ ap (λ (b : Bool). cond b (Some part) (fin.get kept key)) (turned (key_of part) key))
    ∙ here (int_eq (key_of part) key) refl
  where
    here : (b : Bool) → int_eq (key_of part) key ≡ b → option_or (row_at key parts) (cond b (Some part) (fin.get kept key)) ≡ option_or (cond b (Some part) (row_at key parts)) (fin.get kept key)
    here true same = ap (λ (o : Option (List Value)). option_or o (Some part)) (none_after key part parts same up.0)
    here false other = refl

or_none : (o : Option (List Value)) → option_or o None ≡ o
or_none None = refl
or_none (Some part) = refl

pub get_stored : (parts : List (List Value)) (key : ℤ) → Ascends parts → fin.get (stored parts) key ≡ row_at key parts
get_stored parts key up = get_stored_in fin.empty parts key up ∙ ap (option_or (row_at key parts)) (fin.get-empty int_cmp key) ∙ or_none (row_at key parts)

-- the parts, each behind its key
abbrev pub under : List (List Value) → List (ℤ × List Value)
under parts = map (λ part. (key_of part, part)) parts

both : (a b : Bool) → a ≡ true → b ≡ true → (a && b) ≡ true
both a b first second = ap₂ (λ (x y : Bool). x && y) first second

below : (key : ℤ) (parts : List (List Value)) → AllByRecursion (λ later. key <ℤ key_of later) parts → below_all int_cmp key (under parts) ≡ true
below key [] later = refl
below key (part ∷ parts) later = both _ _ (is_less key (key_of part) later.0) (below key parts later.1)

rising : (parts : List (List Value)) → Ascends parts → fin.is_sorted int_cmp (under parts) ≡ true
rising [] up = refl
rising (part ∷ parts) up = both _ _ (below (key_of part) parts up.0) (rising parts up.1)

find_under : (key : ℤ) (parts : List (List Value)) → fin.find int_cmp key (under parts) ≡ row_at key parts
find_under key [] = refl
find_under key (part ∷ parts) = ap₂ (λ (b : Bool) (o : Option (List Value)). cond b (Some part) o) (turned (key_of part) key) (find_under key parts)

pub entries_stored : (parts : List (List Value)) → Ascends parts → fin.entries (stored parts) ≡ under parts
entries_stored parts up =
    let sorted : T (fin.is_sorted int_cmp (under parts)) = subst T (sym (rising parts up)) tt in
    let same : stored parts ≡ fin.from_sorted (under parts) = fin.same_map int_cmp_total fin.int_cmp-IsAntisymmetric (stored parts) (fin.from_sorted (under parts))
    (λ key. get_stored parts key up ∙ sym (fin.get-from_sorted int_cmp (under parts) key sorted ∙ find_under key parts)) in
    ap (λ (kept : Content). fin.entries kept) same ∙ fin.entries-from_sorted int_cmp (under parts) sorted

parts_under : (parts : List (List Value)) → map (λ (entry : ℤ × List Value). entry.1) (under parts) ≡ parts
parts_under [] = refl
parts_under (part ∷ parts) = ap (λ (rest : List (List Value)). part ∷ rest) (parts_under parts)

pub values_stored : (parts : List (List Value)) → Ascends parts → fin.values (stored parts) ≡ parts
values_stored parts up = ap (λ (entries : List (ℤ × List Value)). map (λ (entry : ℤ × List Value). entry.1) entries) (entries_stored parts up) ∙ parts_under parts
