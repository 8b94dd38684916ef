-- Lists of the locks on leaves: one changed after the other, and one found by its leaf.
use Rattle.std.proofs.Common.{◌≡◌, refl, sym, ap, ◌∙◌, subst, ℕ, zero, suc, ◌+◌, add-one, Bool, true, false, not, List, [], ◌∷◌, ◌++◌, map, take, drop, filter, cond, if◌then◌else◌, slice_set, get_or, length, ◌<◌, arith}
use Rattle.std.specs.BTreeMap.{is_at}
use Rattle.std.specs.List.{AllByRecursion}
use Rattle.std.specs.List.Sorted.{IsStrictlySortedBy}
use Rattle.std.specs.Ordering.{is_eq}
use Rattle.std.specs.Set.{remove_key}
use Rattle.std.specs.declared.cmp.Ordering.TheVariants.{Less}
use Rattle.std.proofs.lemmas.Map.Keys.{sorted_head, sorted_tail}
use Rattle.store.specs.declared.name.Ticket.{Ticket}
use Rattle.store.specs.Name.{ticket_cmp}
use Rattle.store.specs.SiteContent.{is_ticket}
use Rattle.protocol.proofs.Basics.{if_true}
use Rattle.site.proofs.TicketOrder.{ticket_is}

-- the next item changed
front : {A : Type 0} (f : A → A) (xs : List A) (i : ℕ) (d y : A) → i < length xs → y ≡ f (get_or (map f (take i xs) ++ drop i xs) i d) → slice_set (map f (take i xs) ++ drop i xs) i y ≡ map f (take (suc i) xs) ++ drop (suc i) xs
front f [] i d y below is = absurd (omega arith)
front f (z ∷ xs) zero d y below is = ap (λ v. v ∷ xs) is
front f (z ∷ xs) (suc i) d y below is = ap (λ l. f z ∷ l) (front f xs i d y (omega arith) is)

pub front_more : {A : Type 0} (f : A → A) (xs ys : List A) (i : ℕ) (d y : A) → i < length xs → ys ≡ map f (take i xs) ++ drop i xs → y ≡ f (get_or ys i d) → slice_set ys i y ≡ map f (take (i + 1) xs) ++ drop (i + 1) xs
front_more f xs ys i d y below e is = rw (e, add-one) (front f xs i d y below (subst (λ l. y ≡ f (get_or l i d)) e is))

-- of keys in order, all but one
later : (k : Ticket) (x : Ticket) (xs : List Ticket) → is_ticket k x ≡ true → AllByRecursion (λ y. ticket_cmp x y ≡ Less) xs → filter (λ y. not (is_ticket k y)) xs ≡ xs
later k x [] e all = refl
later k x (y ∷ xs) e all =
    if_true (not (is_ticket k y)) (y ∷ filter (λ z. not (is_ticket k z)) xs) (filter (λ z. not (is_ticket k z)) xs) (ap (λ r. not (is_eq r)) (subst (λ z. ticket_cmp z y ≡ Less) (sym (ticket_is k x e)) all.0))
    ∙ ap (λ l. y ∷ l) (later k x xs e all.1)

pub removed : (k : Ticket) (xs : List Ticket) → IsStrictlySortedBy ticket_cmp xs → remove_key (is_at (ticket_cmp k)) xs ≡ filter (λ y. not (is_ticket k y)) xs
removed k [] sorted = refl
removed k (x ∷ xs) sorted = go (is_ticket k x) refl (removed k xs (sorted_tail ticket_cmp x xs sorted))
  where
    go : (b : Bool) → is_ticket k x ≡ b → remove_key (is_at (ticket_cmp k)) xs ≡ filter (λ y. not (is_ticket k y)) xs → cond b xs (x ∷ remove_key (is_at (ticket_cmp k)) xs) ≡ (if not b then x ∷ filter (λ y. not (is_ticket k y)) xs else filter (λ y. not (is_ticket k y)) xs)
    go true e rest = sym (later k x xs e (sorted_head ticket_cmp x xs sorted))
    go false e rest = ap (λ l. x ∷ l) rest
