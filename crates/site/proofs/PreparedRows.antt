-- The memory that a store's rows make fits the store.
use Rattle.std.proofs.Common.{◌≡◌, refl, sym, ap, ◌∙◌, subst, ℕ, ◌&&◌, ◌||◌, ◌⊎◌, nat_le, Bool, true, false, not, List, [], ◌∷◌, map, Option, Some, None, is_some, is_none, cond, if◌then◌else◌, inl, inr}
use Rattle.std.specs.BTreeMap.{insert_entry}
use Rattle.std.specs.FinMap as fin
use Rattle.std.specs.List.{list_all, list_any, AllByRecursion}
use Rattle.std.specs.List.Sorted.{IsStrictlySortedBy}
use Rattle.std.specs.Map.{keys_of}
use Rattle.std.specs.Ordering.{is_eq, match_ordering}
use Rattle.std.specs.declared.cmp.Ordering.{Ordering}
use Rattle.std.specs.declared.cmp.Ordering.TheVariants.{Less, Equal, Greater}
use Rattle.std.proofs.lemmas.Map.Keys.{sorted_head, sorted_tail}
use Rattle.terms.specs.declared.leaf.Leaf.{Leaf}
use Rattle.terms.specs.Leaf.{leaf_cmp}
use Rattle.store.specs.declared.name.Ticket.{Ticket}
use Rattle.store.specs.declared.prepared.Prepared.{Prepared as Row}
use Rattle.store.specs.declared.prepared.PreparedRow.{PreparedRow}
use Rattle.store.specs.Content.{Changes, touches, are_within, is_of}
use Rattle.store.specs.Name.{ticket_cmp}
use Rattle.store.specs.Orders.{ticket_cmp-IsAntisymmetric}
use Rattle.store.specs.SiteContent.{is_ticket, row_of}
use Rattle.protocol.specs.Parts.{In}
use Rattle.protocol.proofs.Basics.{if_true, if_false, clash, left_true, right_true, all_in, found}
use Rattle.site.specs.declared.locks.Locks.{Locks}
use Rattle.site.specs.declared.tickets.TicketState as standings
use Rattle.site.specs.declared.tickets.TicketState.TheVariants as standing
use Rattle.site.specs.Locks.{free, locks_in, reads, writes, is_writer}
use Rattle.site.specs.Recovery.{grants, granted, stood_by, is_open, may_stand, all_may_stand}
use Rattle.site.proofs.TicketStates.{Entries, at_ticket}
use Rattle.site.proofs.TicketOrder.{ticket_is, ticket_same, leaf_is, leaf_sym}

-- ---- entries
pub inserted_there : (entries : Entries) (k : Ticket) (v : standings.TicketState) (j : Ticket) → at_ticket (insert_entry ticket_cmp entries k v) j ≡ (if is_ticket j k then Some v else at_ticket entries j)
inserted_there [] k v j = refl
inserted_there (e ∷ entries) k v j = go (ticket_cmp k e.0) refl (inserted_there entries k v j)
  where
    same_test : (b : Bool) → (k ≡ e.0) → is_ticket j k ≡ b → cond (is_ticket j e.0) (Some v) (at_ticket entries j) ≡ (if b then Some v else cond (is_ticket j e.0) (Some e.1) (at_ticket entries j))
    same_test true is t = if_true (is_ticket j e.0) (Some v) (at_ticket entries j) (ap (is_ticket j) (sym is) ∙ t)
    same_test false is t = if_false (is_ticket j e.0) (Some v) (at_ticket entries j) (ap (is_ticket j) (sym is) ∙ t) ∙ sym (if_false (is_ticket j e.0) (Some e.1) (at_ticket entries j) (ap (is_ticket j) (sym is) ∙ t))

    apart : (a b : Bool) → ticket_cmp k e.0 ≡ Greater → is_ticket j e.0 ≡ a → is_ticket j k ≡ b → cond a (Some e.1) (if b then Some v else at_ticket entries j) ≡ (if b then Some v else cond a (Some e.1) (at_ticket entries j))
    apart true true above s t = clash (ticket_same k e.0 (sym (ticket_is j k t) ∙ ticket_is j e.0 s)) (ap is_eq above)
    apart true false above s t = refl
    apart false true above s t = refl
    apart false false above s t = refl

    go : (r : Ordering) → ticket_cmp k e.0 ≡ r → at_ticket (insert_entry ticket_cmp entries k v) j ≡ (if is_ticket j k then Some v else at_ticket entries j) →
        at_ticket (match_ordering r ((k, v) ∷ e ∷ entries) ((e.0, v) ∷ entries) (e ∷ insert_entry ticket_cmp entries k v)) j ≡ (if is_ticket j k then Some v else at_ticket (e ∷ entries) j)
    go Less is rest = refl
    go Equal is rest = same_test (is_ticket j k) (ticket_cmp-IsAntisymmetric k e.0 is) refl
    go Greater is rest = ap (cond (is_ticket j e.0) (Some e.1)) rest ∙ apart (is_ticket j e.0) (is_ticket j k) is refl refl

-- what stands is listed
pub some_listed : (entries : Entries) (j : Ticket) → is_some (at_ticket entries j) ≡ true → In j (keys_of entries)
some_listed [] j e = cc
some_listed (x ∷ entries) j e = go (some_listed entries j) (is_ticket j x.0) refl e
  where
    go : (is_some (at_ticket entries j) ≡ true → In j (keys_of entries)) → (b : Bool) → is_ticket j x.0 ≡ b → is_some (cond b (Some x.1) (at_ticket entries j)) ≡ true → In j (keys_of (x ∷ entries))
    go below true is f = inl (ticket_is j x.0 is)
    go below false is f = inr (below f)

pub listed_some : (entries : Entries) (j : Ticket) → In j (keys_of entries) → is_some (at_ticket entries j) ≡ true
listed_some [] j here = absurd here
listed_some (x ∷ entries) j here = go (listed_some entries j) (is_ticket j x.0) refl here
  where
    go : (In j (keys_of entries) → is_some (at_ticket entries j) ≡ true) → (b : Bool) → is_ticket j x.0 ≡ b → (j ≡ x.0) ⊎ In j (keys_of entries) → is_some (cond b (Some x.1) (at_ticket entries j)) ≡ true
    go below true is h = refl
    go below false is (inl e) = clash (ticket_same j x.0 e) is
    go below false is (inr h) = below h

-- ---- rows
abbrev tickets_of : List PreparedRow → List Ticket
tickets_of rows = map (λ row. row.ticket) rows

pub none_below : (k : Ticket) (rows : List PreparedRow) → AllByRecursion (λ j. ticket_cmp k j ≡ Less) (tickets_of rows) → row_of k rows ≡ None
none_below k [] below = refl
none_below k (row ∷ rows) below = if_false (is_ticket k row.ticket) (Some row.prepared) (row_of k rows) (ap is_eq below.0) ∙ none_below k rows below.1

pub none_after : (j : Ticket) (row : PreparedRow) (rows : List PreparedRow) → IsStrictlySortedBy ticket_cmp (tickets_of (row ∷ rows)) → is_ticket j row.ticket ≡ true → row_of j rows ≡ None
none_after j row rows sorted is = ap (λ k. row_of k rows) (ticket_is j row.ticket is) ∙ none_below row.ticket rows (sorted_head ticket_cmp row.ticket (tickets_of rows) sorted)

-- a row as it stands, or else what stood before
abbrev pub standing_of : Option Row → Option standings.TicketState → Option standings.TicketState
standing_of None before = before
standing_of (Some row) before = Some (standing.Prepared row.txn)

pub rows_there : (rows : List PreparedRow) (entries : Entries) → IsStrictlySortedBy ticket_cmp (tickets_of rows) → (j : Ticket) → at_ticket (stood_by rows entries) j ≡ standing_of (row_of j rows) (at_ticket entries j)
rows_there [] entries sorted j = refl
rows_there (row ∷ rows) entries sorted j =
    rows_there rows (insert_entry ticket_cmp entries row.ticket (standing.Prepared row.prepared.txn)) (sorted_tail ticket_cmp row.ticket (tickets_of rows) sorted) j
    ∙ ap (standing_of (row_of j rows)) (inserted_there entries row.ticket (standing.Prepared row.prepared.txn) j)
    ∙ go (is_ticket j row.ticket) refl
  where
    go : (b : Bool) → is_ticket j row.ticket ≡ b → standing_of (row_of j rows) (if b then Some (standing.Prepared row.prepared.txn) else at_ticket entries j) ≡ standing_of (if b then Some row.prepared else row_of j rows) (at_ticket entries j)
    go true is = ap (λ r. standing_of r (Some (standing.Prepared row.prepared.txn))) (none_after j row rows sorted is)
    go false is = refl

pub rows_drawn : (leaves : List Leaf) (life : ℕ) (rows : List PreparedRow) (ls : List Locks) → all_may_stand leaves life rows ls ≡ true → (j : Ticket) → is_some (row_of j rows) ≡ true → nat_le j.life life ≡ true
rows_drawn leaves life [] ls right j e = cc
rows_drawn leaves life (row ∷ rows) ls right j e = go (rows_drawn leaves life rows (map (grants row.ticket row.prepared.changes) ls) (right_true (may_stand leaves life row ls) _ right) j) (is_ticket j row.ticket) refl e
  where
    go : (is_some (row_of j rows) ≡ true → nat_le j.life life ≡ true) → (b : Bool) → is_ticket j row.ticket ≡ b → is_some (if b then Some row.prepared else row_of j rows) ≡ true → nat_le j.life life ≡ true
    go below true is f = subst (λ k. nat_le k.life life ≡ true) (sym (ticket_is j row.ticket is)) (left_true (nat_le row.ticket.life life) _ (left_true (may_stand leaves life row ls) _ right))
    go below false is f = below f

-- ---- locks
free_in : (g : Leaf) (leaves : List Leaf) → locks_in g (map free leaves) ≡ free g
free_in g [] = refl
free_in g (leaf ∷ leaves) = go (free_in g leaves) (is_eq (leaf_cmp g leaf)) refl
  where
    go : locks_in g (map free leaves) ≡ free g → (b : Bool) → is_eq (leaf_cmp g leaf) ≡ b → (if b then free leaf else locks_in g (map free leaves)) ≡ free g
    go rest true is = ap free (sym (leaf_is g leaf is))
    go rest false is = rest

leaf_in : (g : Leaf) (ls : List Locks) → (locks_in g ls).leaf ≡ g
leaf_in g [] = refl
leaf_in g (l ∷ ls) = go (leaf_in g ls) (is_eq (leaf_cmp g l.leaf)) refl
  where
    go : (locks_in g ls).leaf ≡ g → (b : Bool) → is_eq (leaf_cmp g l.leaf) ≡ b → (if b then l else locks_in g ls).leaf ≡ g
    go rest true is = sym (leaf_is g l.leaf is)
    go rest false is = rest

-- what grants leave as it is
module _ {A : Type 0} (f : Locks → A) (keeps : (k : Ticket) (changes : Changes) (l : Locks) → f (grants k changes l) ≡ f l) where
  same_in : (g : Leaf) (k : Ticket) (changes : Changes) (ls : List Locks) → f (locks_in g (map (grants k changes) ls)) ≡ f (locks_in g ls)
  same_in g k changes [] = refl
  same_in g k changes (l ∷ ls) = ap (λ h. f (if is_eq (leaf_cmp g h) then grants k changes l else locks_in g (map (grants k changes) ls))) (leaf_kept (touches l.leaf changes)) ∙ go (same_in g k changes ls) (is_eq (leaf_cmp g l.leaf))
    where
      leaf_kept : (b : Bool) → (if b then record l { writer = Some k } else l).leaf ≡ l.leaf
      leaf_kept true = refl
      leaf_kept false = refl

      go : f (locks_in g (map (grants k changes) ls)) ≡ f (locks_in g ls) → (b : Bool) → f (if b then grants k changes l else locks_in g (map (grants k changes) ls)) ≡ f (if b then l else locks_in g ls)
      go rest true = keeps k changes l
      go rest false = rest

  pub same_granted : (g : Leaf) (rows : List PreparedRow) (ls : List Locks) → f (locks_in g (granted rows ls)) ≡ f (locks_in g ls)
  same_granted g [] ls = refl
  same_granted g (row ∷ rows) ls = same_granted g rows (map (grants row.ticket row.prepared.changes) ls) ∙ same_in g row.ticket row.prepared.changes ls

reads_kept : (j k : Ticket) (changes : Changes) (l : Locks) → reads j (grants k changes l) ≡ reads j l
reads_kept j k changes l = go (touches l.leaf changes)
  where
    go : (b : Bool) → reads j (if b then record l { writer = Some k } else l) ≡ reads j l
    go true = refl
    go false = refl

released_kept : (k : Ticket) (changes : Changes) (l : Locks) → (grants k changes l).released ≡ l.released
released_kept k changes l = go (touches l.leaf changes)
  where
    go : (b : Bool) → (if b then record l { writer = Some k } else l).released ≡ l.released
    go true = refl
    go false = refl

pub none_read : (g : Leaf) (leaves : List Leaf) (rows : List PreparedRow) (j : Ticket) → reads j (locks_in g (granted rows (map free leaves))) ≡ false
none_read g leaves rows j = same_granted (reads j) (reads_kept j) g rows (map free leaves) ∙ ap (reads j) (free_in g leaves)

pub none_released : (g : Leaf) (leaves : List Leaf) (rows : List PreparedRow) → (locks_in g (granted rows (map free leaves))).released ≡ 0
none_released g leaves rows = same_granted (λ l. l.released) released_kept g rows (map free leaves) ∙ ap (λ l. l.released) (free_in g leaves)

-- what touches a leaf within leaves is one of them
within_touch : (leaves : List Leaf) (changes : Changes) (g : Leaf) → are_within leaves changes ≡ true → touches g changes ≡ true → list_any (λ leaf. is_eq (leaf_cmp leaf g)) leaves ≡ true
within_touch leaves changes g within touch =
    let f = found (is_of g) (fin.keys changes) touch in
    subst (λ h. list_any (λ leaf. is_eq (leaf_cmp leaf h)) leaves ≡ true) (sym (leaf_is g (f.0).leaf f.2)) (all_in (λ slot. list_any (λ leaf. is_of leaf slot) leaves) f.0 (fin.keys changes) within f.1)

abbrev leaves_of : List Locks → List Leaf
leaves_of ls = map (λ l. l.leaf) ls

kept_leaf : (k : Ticket) (changes : Changes) (l : Locks) → (grants k changes l).leaf ≡ l.leaf
kept_leaf k changes l = go (touches l.leaf changes)
  where
    go : (b : Bool) → (if b then record l { writer = Some k } else l).leaf ≡ l.leaf
    go true = refl
    go false = refl

kept_leaves : (k : Ticket) (changes : Changes) (ls : List Locks) → leaves_of (map (grants k changes) ls) ≡ leaves_of ls
kept_leaves k changes [] = refl
kept_leaves k changes (l ∷ ls) = λ i. kept_leaf k changes l i ∷ kept_leaves k changes ls i

free_leaves : (leaves : List Leaf) → leaves_of (map free leaves) ≡ leaves
free_leaves [] = refl
free_leaves (leaf ∷ leaves) = ap (λ ls. leaf ∷ ls) (free_leaves leaves)

pub granted_leaves : (leaves : List Leaf) (rows : List PreparedRow) (ls : List Locks) → leaves_of ls ≡ leaves → leaves_of (granted rows ls) ≡ leaves
granted_leaves leaves [] ls are = are
granted_leaves leaves (row ∷ rows) ls are = granted_leaves leaves rows (map (grants row.ticket row.prepared.changes) ls) (kept_leaves row.ticket row.prepared.changes ls ∙ are)

pub all_leaves : (leaves : List Leaf) (rows : List PreparedRow) → leaves_of (granted rows (map free leaves)) ≡ leaves
all_leaves leaves rows = granted_leaves leaves rows (map free leaves) (free_leaves leaves)

-- the locks on a leaf are granted as all are, where the changes stay within the leaves
granted_in : (k : Ticket) (changes : Changes) (g : Leaf) (ls : List Locks) → (touches g changes ≡ true → list_any (λ leaf. is_eq (leaf_cmp leaf g)) (leaves_of ls) ≡ true) → locks_in g (map (grants k changes) ls) ≡ grants k changes (locks_in g ls)
granted_in k changes g [] own = sym (go (touches g changes) refl)
  where
    go : (b : Bool) → touches g changes ≡ b → (if b then record (free g) { writer = Some k } else free g) ≡ free g
    go true is = clash (own is) refl
    go false is = refl
granted_in k changes g (l ∷ ls) own = ap (λ h. if is_eq (leaf_cmp g h) then grants k changes l else locks_in g (map (grants k changes) ls)) (kept_leaf k changes l) ∙ go (granted_in k changes g ls) (is_eq (leaf_cmp g l.leaf)) refl
  where
    go : ((touches g changes ≡ true → list_any (λ leaf. is_eq (leaf_cmp leaf g)) (leaves_of ls) ≡ true) → locks_in g (map (grants k changes) ls) ≡ grants k changes (locks_in g ls)) → (b : Bool) → is_eq (leaf_cmp g l.leaf) ≡ b → (if b then grants k changes l else locks_in g (map (grants k changes) ls)) ≡ grants k changes (if b then l else locks_in g ls)
    go rest true is = refl
    go rest false is = rest (λ t. sym (ap (λ b. b || list_any (λ leaf. is_eq (leaf_cmp leaf g)) (leaves_of ls)) (leaf_sym l.leaf g ∙ is)) ∙ own t)

open_in : (changes : Changes) (g : Leaf) (ls : List Locks) → list_all (is_open changes) ls ≡ true → is_open changes (locks_in g ls) ≡ true
open_in changes g [] all = refl
open_in changes g (l ∷ ls) all = go (open_in changes g ls (right_true (is_open changes l) _ all)) (is_eq (leaf_cmp g l.leaf))
  where
    go : is_open changes (locks_in g ls) ≡ true → (b : Bool) → is_open changes (if b then l else locks_in g ls) ≡ true
    go rest true = left_true (is_open changes l) _ all
    go rest false = rest

-- who writes, after one lock_exclusive
writes_granted : (j k : Ticket) (changes : Changes) (l : Locks) → is_open changes l ≡ true → writes j (grants k changes l) ≡ ((is_ticket j k && touches l.leaf changes) || writes j l)
writes_granted j k changes l is = go (touches l.leaf changes) l.writer (is_ticket j k) refl is
  where
    go : (b : Bool) (w : Option Ticket) (t : Bool) → is_ticket j k ≡ t → (is_none w || not b) ≡ true → is_writer j (if b then record l { writer = Some k } else record l { writer = w }).writer ≡ ((t && b) || is_writer j w)
    go true None true e f = e
    go true None false e f = e
    go true (Some w) t e f = clash f refl
    go false w true e f = refl
    go false w false e f = refl

-- what a row has exclusively
abbrev pub holds : Leaf → Option Row → Bool
holds g None = false
holds g (Some row) = touches g row.changes

pub rows_write : (leaves : List Leaf) (life : ℕ) (rows : List PreparedRow) (ls : List Locks) → leaves_of ls ≡ leaves → IsStrictlySortedBy ticket_cmp (tickets_of rows) → all_may_stand leaves life rows ls ≡ true → (g : Leaf) (j : Ticket) →
    writes j (locks_in g (granted rows ls)) ≡ (holds g (row_of j rows) || writes j (locks_in g ls))
rows_write leaves life [] ls own sorted right g j = refl
rows_write leaves life (row ∷ rows) ls own sorted right g j =
    rows_write leaves life rows (map (grants row.ticket row.prepared.changes) ls) (kept_leaves row.ticket row.prepared.changes ls ∙ own) (sorted_tail ticket_cmp row.ticket (tickets_of rows) sorted) (right_true (may_stand leaves life row ls) _ right) g j
    ∙ ap (λ b. holds g (row_of j rows) || b) (ap (writes j) (granted_in row.ticket row.prepared.changes g ls within) ∙ writes_granted j row.ticket row.prepared.changes (locks_in g ls) (open_in row.prepared.changes g ls opens) ∙ ap (λ h. (is_ticket j row.ticket && touches h row.prepared.changes) || writes j (locks_in g ls)) (leaf_in g ls))
    ∙ go (is_ticket j row.ticket) refl
  where
    checks : (are_within leaves row.prepared.changes && list_all (is_open row.prepared.changes) ls) ≡ true
    checks = right_true (nat_le row.ticket.life life) _ (left_true (may_stand leaves life row ls) _ right)

    opens : list_all (is_open row.prepared.changes) ls ≡ true
    opens = right_true (are_within leaves row.prepared.changes) _ checks

    within : touches g row.prepared.changes ≡ true → list_any (λ leaf. is_eq (leaf_cmp leaf g)) (leaves_of ls) ≡ true
    within t = subst (λ all. list_any (λ leaf. is_eq (leaf_cmp leaf g)) all ≡ true) (sym own) (within_touch leaves row.prepared.changes g (left_true (are_within leaves row.prepared.changes) _ checks) t)

    go : (b : Bool) → is_ticket j row.ticket ≡ b → (holds g (row_of j rows) || ((b && touches g row.prepared.changes) || writes j (locks_in g ls))) ≡ (holds g (if b then Some row.prepared else row_of j rows) || writes j (locks_in g ls))
    go true is = ap (λ r. holds g r || (touches g row.prepared.changes || writes j (locks_in g ls))) (none_after j row rows sorted is)
    go false is = refl

pub all_write : (leaves : List Leaf) (life : ℕ) (rows : List PreparedRow) → IsStrictlySortedBy ticket_cmp (tickets_of rows) → all_may_stand leaves life rows (map free leaves) ≡ true → (g : Leaf) (j : Ticket) →
    writes j (locks_in g (granted rows (map free leaves))) ≡ holds g (row_of j rows)
all_write leaves life rows sorted right g j =
    rows_write leaves life rows (map free leaves) (free_leaves leaves) sorted right g j
    ∙ ap (λ l. holds g (row_of j rows) || writes j l) (free_in g leaves)
    ∙ go (holds g (row_of j rows))
  where
    go : (b : Bool) → (b || false) ≡ b
    go true = refl
    go false = refl
