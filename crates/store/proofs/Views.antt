-- A map as the finite map that its entries make, for keys of any total order that ties only the same.
use Rattle.std.proofs.Common.{◌≡◌, List, [], ◌∷◌, Bool, true, false, cond, Some, None, T, length, refl, ap, sym, ◌∙◌, subst, ◌&&◌, arith}
use Rattle.std.specs.BTreeMap.{is_at}
use Rattle.std.specs.Cmp.{IsTotalOrder, eq_by_cmp_equiv, tied_itself}
use Rattle.std.specs.FinMap as map
use Rattle.std.specs.FinMap.{IsAntisymmetric}
use Rattle.std.specs.FinMap.Entries.{below_all, same_entries}
use Rattle.std.specs.List.{AllByRecursion}
use Rattle.std.specs.List.Sorted.{IsStrictlySortedBy}
use Rattle.std.specs.Map.{lookup, keys_of}
use Rattle.std.specs.Ordering.{is_eq, is_lt}
use Rattle.std.specs.declared.cmp.Ordering.{Ordering}
use Rattle.std.specs.declared.cmp.Ordering.TheVariants.{Less}
use Rattle.std.proofs.lemmas.Map.Keys.{sorted_head, sorted_tail}

both_hold : (one other : Bool) → T one → T other → T (one && other)
both_hold true other first second = second
both_hold false other first second = first

-- a list of no length has nothing
pub none_of_length : {A : Type 0} (items : List A) → length items ≡ 0 → items ≡ []
none_of_length [] is = refl
none_of_length (item ∷ items) is = absurd (omega arith)

module _ {K X : Type 0} (R : K → K → Ordering) where
  find_lookup : (entries : List (K × X)) (q : K) → map.find R q entries ≡ lookup (is_at (R q)) entries
  find_lookup [] q = refl
  find_lookup (entry ∷ entries) q = ap (cond (is_eq (R q entry.0)) (Some entry.1)) (find_lookup entries q)

  below_from_sorted : (key : K) (entries : List (K × X)) → AllByRecursion (λ later. R key later ≡ Less) (keys_of entries) → T (below_all R key entries)
  below_from_sorted key [] below = tt
  below_from_sorted key (entry ∷ entries) below = both_hold _ _ (subst (λ r. T (is_lt r)) (sym below.0) tt) (below_from_sorted key entries below.1)

  -- entries in order, by the test
  pub sorted_from : (entries : List (K × X)) → IsStrictlySortedBy R (keys_of entries) → T (map.is_sorted R entries)
  sorted_from [] sorted = tt
  sorted_from (entry ∷ entries) sorted =
      both_hold _ _ (below_from_sorted entry.0 entries (sorted_head R entry.0 (keys_of entries) sorted)) (sorted_from entries (sorted_tail R entry.0 (keys_of entries) sorted))

module _ {K X : Type 0} {R : K → K → Ordering} (o : IsTotalOrder R) where
  -- what the map has at a key is what a look-up among the entries finds
  pub get_view : (entries : List (K × X)) (q : K) → map.get (map.from_entries {R = R} entries) q ≡ lookup (is_at (R q)) entries
  get_view entries q = map.get-from_entries o entries q ∙ find_lookup R entries q

  -- entries that make nothing are none
  pub empty_view : (entries : List (K × X)) → map.from_entries {R = R} entries ≡ map.empty → entries ≡ []
  empty_view [] is = refl
  empty_view (entry ∷ entries) is =
      let here : lookup (is_at (R entry.0)) (entry ∷ entries) ≡ Some entry.1 = ap (λ r. cond (is_eq r) (Some entry.1) (lookup (is_at (R entry.0)) entries)) (tied_itself o entry.0) in
      let gone = sym (get_view (entry ∷ entries) entry.0) ∙ ap (λ m. map.get m entry.0) is ∙ map.get-empty R entry.0 in
      let none : Some entry.1 ≡ None = sym here ∙ gone in
      cc

  module _ (same : IsAntisymmetric R) where
    -- entries that differ at one key make maps that differ there
    pub put_view : (old new : List (K × X)) (key : K) (value : X) → ((q : K) → lookup (is_at (R q)) new ≡ cond (is_at (R key) q) (Some value) (lookup (is_at (R q)) old)) → map.from_entries {R = R} new ≡ map.insert (map.from_entries old) key value
    put_view old new key value updates =
        map.same_map o same _ _ (λ q.
        get_view new q ∙ updates q ∙ ap (λ b. cond b (Some value) (lookup (is_at (R q)) old)) ((eq_by_cmp_equiv o).symm key q)
        ∙ sym (map.get-insert o (map.from_entries old) key value q ∙ ap (cond (is_at (R q) key) (Some value)) (get_view old q)))

    -- entries with the same at each key make one map
    pub same_view : (one other : List (K × X)) → ((q : K) → lookup (is_at (R q)) one ≡ lookup (is_at (R q)) other) → map.from_entries {R = R} one ≡ map.from_entries other
    same_view one other alike = map.same_map o same _ _ (λ q. get_view one q ∙ alike q ∙ sym (get_view other q))

    -- the map's entries are those in order that made it
    pub sorted_view : (entries : List (K × X)) → T (map.is_sorted R entries) → map.entries (map.from_entries {R = R} entries) ≡ entries
    sorted_view entries sorted =
        same_entries R o same _ entries (map.entries_sorted _) sorted (λ q. sym (map.get-entries _ q) ∙ map.get-from_entries o entries q)

    pub len_view : (entries : List (K × X)) → T (map.is_sorted R entries) → map.len (map.from_entries {R = R} entries) ≡ length entries
    len_view entries sorted = map.len-entries _ ∙ ap length (sorted_view entries sorted)
