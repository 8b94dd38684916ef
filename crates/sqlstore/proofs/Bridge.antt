-- The tests of statements are those of the content.
use Rattle.std.proofs.Common.{◌≡◌, ℕ, ℤ, pos, Bool, true, false, ◌&&◌, cond, List, [], ◌∷◌, Option, Some, None, refl, sym, ap, ◌∙◌}
use Rattle.std.specs.Cmp.{int_cmp_total}
use Rattle.std.specs.Cmp.Lexicographic.{slice_cmp}
use Rattle.std.specs.FinMap.{int_cmp-IsAntisymmetric, nat_cmp-IsAntisymmetric, slice_cmp-IsAntisymmetric}
use Rattle.std.specs.Ordering.{is_eq, is_ne, int_cmp, nat_cmp}
use Rattle.std.proofs.lemmas.Cmp.{tied_itself, nat_list_cmp_total}
use Rattle.sqlite.specs.Collation.TheVariants.{Binary}
use Rattle.sqlite.specs.Ops.{binary, is_true, from_truth}
use Rattle.sqlite.specs.Order.{Row, column, value_cmp}
use Rattle.sqlite.specs.Values.{bound_value}
use Rattle.sqlite.specs.declared.types.Value.{Value}
use Rattle.sqlite.specs.declared.types.Value.TheVariants.{Int, Text, Blob}
use Rattle.sqlite_sql.specs.declared.ops.BinaryOp.TheVariants.{Compare}
use Rattle.sqlite_sql.specs.declared.ops.CompareOp.TheVariants.{Eq, Ne}
use Rattle.sqlite_value.proofs.OrderLemmas.{value_cmp-Int, value_cmp-Text, value_cmp-Blob}
use Rattle.store.specs.declared.name.Ticket.{Ticket}
use Rattle.store.specs.Orders.{leaf_cmp-IsAntisymmetric}
use Rattle.terms.specs.declared.leaf.Leaf.{Leaf}
use Rattle.terms.specs.Leaf.{leaf_text}
use Rattle.sqlstore.specs.declared.visit.Visit.{Visit}
use Rattle.sqlstore.specs.Cells.{text_at, int_at, is_int, is_text}
use Rattle.sqlstore.specs.Content.{leaf_named, is_leaf, is_called, is_of}
use Rattle.sqlstore.specs.Query.{slot_terms, key_params}
use Rattle.sqlstore.specs.Step.{visit_params, slot_params}
use Rattle.sqlstore.specs.Tests.{of_leaf, passes, shown, at_slot, of_visit, puts_of_visit}
use Rattle.sqlstore.proofs.Deleting.{is_equal}
use Rattle.sqlstore.proofs.Typed.{TypedPart, TypedPrepared, TypedIntent}

-- ---- tests of numbers and texts

true_is : (test : Bool) → is_true (from_truth (Some test)) ≡ test
true_is true = refl
true_is false = refl

eq_int : (m n : ℤ) → is_true (binary (Compare Eq Binary) (Int m) (Int n)) ≡ is_int m n
unfolding binary
eq_int m n = true_is (is_eq (value_cmp (Int m) (Int n))) ∙ ap is_eq (value_cmp-Int m n)

eq_text : (s t : List ℕ) → is_true (binary (Compare Eq Binary) (Text s) (Text t)) ≡ is_text s t
unfolding binary
eq_text s t = true_is (is_eq (value_cmp (Text s) (Text t))) ∙ ap is_eq (value_cmp-Text s t)

ne_blob : (s t : List ℕ) → is_true (binary (Compare Ne Binary) (Blob s) (Blob t)) ≡ is_ne (slice_cmp nat_cmp s t)
unfolding binary
ne_blob s t = true_is (is_ne (value_cmp (Blob s) (Blob t))) ∙ ap is_ne (value_cmp-Blob s t)

pub int_same : (m n : ℤ) → is_int m n ≡ true → m ≡ n
int_same m n same = int_cmp-IsAntisymmetric m n (is_equal _ same)

pub same_int : (m n : ℤ) → m ≡ n → is_int m n ≡ true
same_int m n same = ap (λ k. is_eq (int_cmp k n)) same ∙ ap is_eq (tied_itself int_cmp_total n)

pub text_same : (s t : List ℕ) → is_text s t ≡ true → s ≡ t
text_same s t same = slice_cmp-IsAntisymmetric nat_cmp-IsAntisymmetric s t (is_equal _ same)

pub same_text : (s t : List ℕ) → s ≡ t → is_text s t ≡ true
same_text s t same = ap (λ r. is_eq (slice_cmp nat_cmp r t)) same ∙ ap is_eq (tied_itself nat_list_cmp_total t)

and_true : (test : Bool) → (test && true) ≡ test
and_true true = refl
and_true false = refl

pub two : (a b c d : Bool) → a ≡ c → b ≡ d → (a && (b && true)) ≡ (c && d)
two a b c d one other = rw (one, other, and_true d) refl

three : (a b c d e f : Bool) → a ≡ d → b ≡ e → c ≡ f → (a && (b && (c && true))) ≡ (d && (e && f))
three a b c d e f one other third = rw (one, other, third, and_true f) refl

-- ---- tests of rows

-- which numbers stand for a ticket
pub record Stands (numbers : Visit) (ticket : Ticket) : Type 0 where
  pub life : numbers.life ≡ pos ticket.life
  pub visit : numbers.visit ≡ pos ticket.visit

pub eq_int_at : (v : Value) (m l n : ℤ) → v ≡ Int m → l ≡ n → is_true (binary (Compare Eq Binary) v (Int l)) ≡ is_int m n
eq_int_at v m l n cell same = rw (cell, same) (eq_int m n)

eq_text_at : (v : Value) (s : List ℕ) (w : Value) (t : List ℕ) → v ≡ Text s → w ≡ Text t → is_true (binary (Compare Eq Binary) v (bound_value w)) ≡ is_text s t
eq_text_at v s w t cell same = rw (cell, same) (eq_text s t)

eq_key_at : (v : Value) (m : ℤ) (w : Value) (n : ℤ) → v ≡ Int m → w ≡ Int n → is_true (binary (Compare Eq Binary) v (bound_value w)) ≡ is_int m n
eq_key_at v m w n cell same = rw (cell, same) (eq_int m n)

ne_empty_at : (v : Value) (body : List ℕ) → v ≡ Blob body → is_true (binary (Compare Ne Binary) v (Blob [])) ≡ is_ne (slice_cmp nat_cmp body [])
ne_empty_at v body cell = rw cell (ne_blob body [])

pub prepared_of : (numbers : Visit) (ticket : Ticket) (row : Row) → Stands numbers ticket → TypedPrepared row → passes of_visit (visit_params numbers) row ≡ is_of ticket row
prepared_of numbers ticket row stands typed =
    two _ _ _ _ (eq_int_at (column row 1) (int_at row 1) numbers.life (pos ticket.life) typed.life stands.life) (eq_int_at (column row 2) (int_at row 2) numbers.visit (pos ticket.visit) typed.visit stands.visit)

pub intent_of : (numbers : Visit) (ticket : Ticket) (row : Row) → Stands numbers ticket → TypedIntent row → passes of_visit (visit_params numbers) row ≡ is_of ticket row
intent_of numbers ticket row stands typed =
    two _ _ _ _ (eq_int_at (column row 1) (int_at row 1) numbers.life (pos ticket.life) typed.life stands.life) (eq_int_at (column row 2) (int_at row 2) numbers.visit (pos ticket.visit) typed.visit stands.visit)

-- an intent of a ticket that puts a part
pub puts_of : (numbers : Visit) (ticket : Ticket) (row : Row) → Stands numbers ticket → TypedIntent row → passes puts_of_visit (visit_params numbers) row ≡ (is_int (int_at row 1) (pos ticket.life) && (is_int (int_at row 2) (pos ticket.visit) && is_ne (slice_cmp nat_cmp (text_at row 5) [])))
puts_of numbers ticket row stands typed =
    three _ _ _ _ _ _ (eq_int_at (column row 1) (int_at row 1) numbers.life (pos ticket.life) typed.life stands.life) (eq_int_at (column row 2) (int_at row 2) numbers.visit (pos ticket.visit) typed.visit stands.visit)
    (ne_empty_at (column row 5) (text_at row 5) typed.body)

-- a part that stands at an intent's slot
pub at_slot_of : (params part intent : Row) → TypedPart part → TypedIntent intent → passes at_slot (slot_params (shown slot_terms params intent)) part ≡ (is_text (text_at part 1) (text_at intent 3) && is_int (int_at part 2) (int_at intent 4))
at_slot_of params part intent typed slot =
    two _ _ _ _ (eq_text_at (column part 1) (text_at part 1) (column intent 3) (text_at intent 3) typed.leaf slot.leaf) (eq_key_at (column part 2) (int_at part 2) (column intent 4) (int_at intent 4) typed.key slot.key)

-- a part at a name and a key
pub at_key_of : (name : List ℕ) (key : ℤ) (part : Row) → TypedPart part → passes at_slot (key_params name key) part ≡ (is_text (text_at part 1) name && is_int (int_at part 2) key)
at_key_of name key part typed = two _ _ _ _ (eq_text_at (column part 1) (text_at part 1) (Text name) name typed.leaf refl) (eq_key_at (column part 2) (int_at part 2) (Int key) key typed.key refl)

-- a part of a leaf
pub of_leaf_of : (name : List ℕ) (part : Row) → TypedPart part → passes of_leaf (Text name ∷ []) part ≡ is_text (text_at part 1) name
of_leaf_of name part typed = and_true _ ∙ eq_text_at (column part 1) (text_at part 1) (Text name) name typed.leaf refl

-- ---- a body that puts a part isn't empty

pub full_is : (body : List ℕ) → is_ne (slice_cmp nat_cmp body []) ≡ true → body ≡ [] → ⊥
full_is [] full none = cc
full_is (byte ∷ bytes) full none = cc

pub is_full : (byte : ℕ) (bytes : List ℕ) → is_ne (slice_cmp nat_cmp (byte ∷ bytes) []) ≡ true
is_full byte bytes = refl

-- ---- names of leaves

pub named_text : (leaves : List Leaf) (name : List ℕ) (leaf : Leaf) → leaf_named leaves name ≡ Some leaf → name ≡ leaf_text leaf
named_text [] name leaf named = absurd cc
named_text (one ∷ leaves) name leaf named = go (is_text name (leaf_text one)) refl named (named_text leaves name leaf)
  where
    go : (here : Bool) → is_text name (leaf_text one) ≡ here → cond here (Some one) (leaf_named leaves name) ≡ Some leaf → (leaf_named leaves name ≡ Some leaf → name ≡ leaf_text leaf) → name ≡ leaf_text leaf
    go true same found later = let is : one ≡ leaf = cc in text_same name (leaf_text one) same ∙ ap leaf_text is
    go false other found later = later found

-- a name that is a leaf's is its text
pub called_text : (leaves : List Leaf) (leaf : Leaf) (name : List ℕ) → is_called leaves leaf name ≡ true → name ≡ leaf_text leaf
called_text leaves leaf name called = go (leaf_named leaves name) refl called
  where
    go : (found : Option Leaf) → leaf_named leaves name ≡ found → is_leaf found leaf ≡ true → name ≡ leaf_text leaf
    go None is here = absurd cc
    go (Some one) is here = named_text leaves name one is ∙ ap leaf_text (sym (leaf_cmp-IsAntisymmetric leaf one (is_equal _ here)))
