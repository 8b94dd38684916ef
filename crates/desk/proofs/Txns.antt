-- Transactions are the same by their order where they are the same by their names; what stands behind them after a change at one.
use Rattle.std.proofs.Common.{◌≡◌, refl, sym, ap, ◌∙◌, subst, Bool, true, false, not, List, [], ◌∷◌, ◌++◌, map, Option, Some, None, IsSome, filter, cond, if◌then◌else◌, inl, inr}
use Rattle.std.specs.BTreeMap.{is_at, insert_entry}
use Rattle.std.specs.Cmp.{eq_by_cmp_equiv, tied_itself}
use Rattle.std.specs.List.{AllByRecursion, IsDistinct}
use Rattle.std.specs.List.Sorted.{IsStrictlySortedBy}
use Rattle.std.specs.Map.{lookup, keys_of, set_value, remove_entry}
use Rattle.std.specs.Ordering.{is_eq, match_ordering}
use Rattle.std.specs.declared.cmp.Ordering.TheVariants.{Greater}
use Rattle.std.proofs.lemmas.Map.{lookup-set_value, lookup-remove_entry, keys-set_value}
use Rattle.std.proofs.lemmas.Map.Keys.{IsDistinct-from_sorted, IsDistinct-head, IsDistinct-tail}
use Rattle.store.specs.declared.name.Txn.{Txn}
use Rattle.store.specs.DeskContent.{is_txn}
use Rattle.store.specs.Name.{txn_cmp}
use Rattle.store.specs.Orders.{txn_cmp_total}
use Rattle.protocol.specs.Language.{Name, same}
use Rattle.protocol.specs.Letters.{txn_name}
use Rattle.protocol.specs.Parts.{In}
use Rattle.protocol.proofs.Basics.{same_law, if_true, if_false}
use Rattle.desk.specs.declared.transaction.TxnState.{TxnState}
use Rattle.desk.specs.State.{txn_at}
use Rattle.desk.proofs.Acknowledged.{same_bool, txn_is}

pub txn_self : (a : Txn) → is_txn a a ≡ true
txn_self a = ap is_eq (tied_itself txn_cmp_total a)

pub txn_same : (a b : Txn) → a ≡ b → is_txn a b ≡ true
txn_same a b e = subst (λ c. is_txn a c ≡ true) e (txn_self a)

pub txn_sym : (a b : Txn) → is_txn a b ≡ is_txn b a
txn_sym a b = same_bool _ _ (λ e. txn_same b a (sym (txn_is a b e))) (λ e. txn_same a b (sym (txn_is b a e)))

-- by names
pub same_txn : (a b : Txn) → same (txn_name a) (txn_name b) ≡ is_txn a b
same_txn a b = same_bool _ _ (λ e. txn_same a b (ap txn_at ((same_law (txn_name a) (txn_name b)).0 e))) (λ e. (same_law (txn_name a) (txn_name b)).1 (ap txn_name (txn_is a b e)))

-- ---- entries
abbrev pub Entries : Type 0
Entries = List (Txn × TxnState)

-- what stands at a transaction
abbrev pub at_txn : Entries → Txn → Option TxnState
at_txn entries txn = lookup (is_at (txn_cmp txn)) entries

-- what stands after a change at one
abbrev pub stood : Txn → Option TxnState → (Txn → Option TxnState) → Txn → Option TxnState
stood k o f j = if is_txn k j then o else f j

-- what holds at that one, and elsewhere as before, holds of all
pub stood_all : (k : Txn) (o : Option TxnState) (f : Txn → Option TxnState) (Q : Txn → Option TxnState → Type 0) → Q k o → ((j : Txn) → is_txn k j ≡ false → Q j (f j)) → (j : Txn) → Q j (stood k o f j)
stood_all k o f Q here there j = go (is_txn k j) refl
  where
    go : (b : Bool) → is_txn k j ≡ b → Q j (if b then o else f j)
    go true e = subst (λ i. Q i o) (txn_is k j e) here
    go false e = there j e

one_test : (k x y : Txn) → is_txn k x ≡ true → is_txn k y ≡ is_txn x y
one_test k x y e = ap (λ z. is_txn z y) (txn_is k x e)

pub set_there : (k : Txn) (entries : Entries) (new old : TxnState) → at_txn entries k ≡ Some old → (j : Txn) → at_txn (set_value (is_at (txn_cmp k)) entries new) j ≡ stood k (Some new) (at_txn entries) j
set_there k entries new old is j = lookup-set_value (eq_by_cmp_equiv txn_cmp_total) (is_txn k) (one_test k) j new entries (subst IsSome (sym is) refl)

pub set_keys : (k : Txn) (entries : Entries) (new : TxnState) → keys_of (set_value (is_at (txn_cmp k)) entries new) ≡ keys_of entries
set_keys k entries new = keys-set_value (is_at (txn_cmp k)) entries new

pub removed_there : (k : Txn) (entries : Entries) → IsStrictlySortedBy txn_cmp (keys_of entries) → (j : Txn) → at_txn (remove_entry (is_at (txn_cmp k)) entries) j ≡ stood k None (at_txn entries) j
removed_there k entries sorted j = lookup-remove_entry (eq_by_cmp_equiv txn_cmp_total) (is_txn k) (one_test k) j entries (IsDistinct-from_sorted txn_cmp (keys_of entries) sorted)

-- the keys that are left
others : (k x : Txn) (js : List Txn) → AllByRecursion (λ j. is_txn x j ≡ false) js → is_txn k x ≡ true → filter (λ j. not (is_txn k j)) js ≡ js
others k x [] apart is = refl
others k x (j ∷ js) apart is =
    if_true (not (is_txn k j)) (j ∷ filter (λ i. not (is_txn k i)) js) (filter (λ i. not (is_txn k i)) js) (ap not (one_test k x j is ∙ apart.0)) ∙ ap (λ l. j ∷ l) (others k x js apart.1 is)

keys_left : (k : Txn) (entries : Entries) → IsDistinct is_txn (keys_of entries) → keys_of (remove_entry (is_at (txn_cmp k)) entries) ≡ filter (λ j. not (is_txn k j)) (keys_of entries)
keys_left k [] apart = refl
keys_left k (e ∷ entries) apart = go (is_txn k e.0) refl (keys_left k entries (IsDistinct-tail is_txn e.0 (keys_of entries) apart))
  where
    go : (b : Bool) → is_txn k e.0 ≡ b → keys_of (remove_entry (is_at (txn_cmp k)) entries) ≡ filter (λ j. not (is_txn k j)) (keys_of entries) →
        keys_of (cond b entries (e ∷ remove_entry (is_at (txn_cmp k)) entries)) ≡ cond (not b) (e.0 ∷ filter (λ j. not (is_txn k j)) (keys_of entries)) (filter (λ j. not (is_txn k j)) (keys_of entries))
    go true is rest = sym (others k e.0 (keys_of entries) (IsDistinct-head is_txn e.0 (keys_of entries) apart) is)
    go false is rest = ap (λ l. e.0 ∷ l) rest

pub removed_keys : (k : Txn) (entries : Entries) → IsStrictlySortedBy txn_cmp (keys_of entries) → keys_of (remove_entry (is_at (txn_cmp k)) entries) ≡ filter (λ j. not (is_txn k j)) (keys_of entries)
removed_keys k entries sorted = keys_left k entries (IsDistinct-from_sorted txn_cmp (keys_of entries) sorted)

-- ---- a key after all others
pub put_last : (k : Txn) (new : TxnState) (entries : Entries) → AllByRecursion (λ j. txn_cmp k j ≡ Greater) (keys_of entries) → insert_entry txn_cmp entries k new ≡ entries ++ (k, new) ∷ []
put_last k new [] above = refl
put_last k new (e ∷ entries) above = ap (λ r. match_ordering r ((k, new) ∷ e ∷ entries) ((e.0, new) ∷ entries) (e ∷ insert_entry txn_cmp entries k new)) above.0 ∙ ap (λ l. e ∷ l) (put_last k new entries above.1)

pub last_keys : (k : Txn) (new : TxnState) (entries : Entries) → keys_of (entries ++ (k, new) ∷ []) ≡ keys_of entries ++ k ∷ []
last_keys k new [] = refl
last_keys k new (e ∷ entries) = ap (λ l. e.0 ∷ l) (last_keys k new entries)

pub last_there : (k : Txn) (new : TxnState) (entries : Entries) → AllByRecursion (λ j. txn_cmp k j ≡ Greater) (keys_of entries) → (j : Txn) → at_txn (entries ++ (k, new) ∷ []) j ≡ stood k (Some new) (at_txn entries) j
last_there k new [] above j = ap (λ b. cond b (Some new) None) (txn_sym j k)
last_there k new (e ∷ entries) above j = go (is_txn k j) refl (last_there k new entries above.1 j)
  where
    go : (b : Bool) → is_txn k j ≡ b → at_txn (entries ++ (k, new) ∷ []) j ≡ (if is_txn k j then Some new else at_txn entries j) →
        at_txn (e ∷ (entries ++ (k, new) ∷ [])) j ≡ (if b then Some new else at_txn (e ∷ entries) j)
    go true is rest = if_false (is_txn j e.0) (Some e.1) (at_txn (entries ++ (k, new) ∷ []) j) (subst (λ i. is_txn i e.0 ≡ false) (txn_is k j is) (ap is_eq above.0)) ∙ rest ∙ if_true (is_txn k j) (Some new) _ is
    go false is rest = ap (cond (is_txn j e.0) (Some e.1)) (rest ∙ if_false (is_txn k j) (Some new) _ is)

-- ---- filters
pub filter_all : {A : Type 0} (p : A → Bool) (xs : List A) → ((x : A) → In x xs → p x ≡ true) → filter p xs ≡ xs
filter_all p [] all = refl
filter_all p (x ∷ xs) all = if_true (p x) (x ∷ filter p xs) (filter p xs) (all x (inl refl)) ∙ ap (λ l. x ∷ l) (filter_all p xs (λ y here. all y (inr here)))

pub filter_same : {A : Type 0} (p q : A → Bool) (xs : List A) → ((x : A) → In x xs → p x ≡ q x) → filter p xs ≡ filter q xs
filter_same p q [] same = refl
filter_same p q (x ∷ xs) same = λ i. cond (same x (inl refl) i) (x ∷ filter_same p q xs (λ y here. same y (inr here)) i) (filter_same p q xs (λ y here. same y (inr here)) i)

-- names of those that pass are the names that pass
pub filter_names : (p : Name → Bool) (q : Txn → Bool) (xs : List Txn) → ((x : Txn) → In x xs → p (txn_name x) ≡ q x) → filter p (map txn_name xs) ≡ map txn_name (filter q xs)
filter_names p q [] same = refl
filter_names p q (x ∷ xs) same = go (q x) refl (filter_names p q xs (λ y here. same y (inr here)))
  where
    go : (b : Bool) → q x ≡ b → filter p (map txn_name xs) ≡ map txn_name (filter q xs) → filter p (map txn_name (x ∷ xs)) ≡ map txn_name (filter q (x ∷ xs))
    go true is rest = if_true (p (txn_name x)) _ _ (same x (inl refl) ∙ is) ∙ ap (λ l. txn_name x ∷ l) rest ∙ ap (map txn_name) (sym (if_true (q x) (x ∷ filter q xs) (filter q xs) is))
    go false is rest = if_false (p (txn_name x)) _ _ (same x (inl refl) ∙ is) ∙ rest ∙ ap (map txn_name) (sym (if_false (q x) (x ∷ filter q xs) (filter q xs) is))
