-- How many of a list pass a test, and what a ticket more or fewer makes of it.
use Rattle.std.proofs.Common.{◌≡◌, refl, sym, ap, ◌∙◌, ℕ, suc, ◌≤◌, ◌<◌, ◌⊎◌, Bool, true, false, not, List, [], ◌∷◌, ◌++◌, filter, length, cond, inl, inr, arith}
use Rattle.std.specs.List.{AllByRecursion}
use Rattle.std.specs.List.Sorted.{IsStrictlySortedBy}
use Rattle.std.specs.Ordering.{is_eq, nat_cmp}
use Rattle.std.specs.declared.cmp.Ordering.TheVariants.{Less}
use Rattle.std.proofs.lemmas.Map.Keys.{sorted_head, sorted_tail}
use Rattle.store.specs.declared.name.Ticket.{Ticket}
use Rattle.store.specs.Name.{ticket_cmp}
use Rattle.store.specs.SiteContent.{is_ticket}
use Rattle.protocol.specs.Parts.{In}
use Rattle.protocol.proofs.Basics.{clash, if_false}
use Rattle.site.proofs.TicketOrder.{ticket_is, ticket_sym}

-- tests that say the same of a list pass the same
pub same_pass : {A : Type 0} (p q : A → Bool) (xs : List A) → ((x : A) → In x xs → p x ≡ q x) → filter p xs ≡ filter q xs
same_pass p q [] same = refl
same_pass p q (x ∷ xs) same = ap (λ b. cond b (x ∷ filter p xs) (filter p xs)) (same x (inl refl)) ∙ ap (λ l. cond (q x) (x ∷ l) l) (same_pass p q xs (λ y here. same y (inr here)))

-- what passes a test passes it among those that pass a wider one
pub part_passes : {A : Type 0} (p q : A → Bool) (xs : List A) → ((x : A) → p x ≡ true → q x ≡ true) → filter p (filter q xs) ≡ filter p xs
part_passes p q [] wider = refl
part_passes p q (x ∷ xs) wider = go (q x) refl (part_passes p q xs wider)
  where
    fails : (b : Bool) → p x ≡ b → q x ≡ false → b ≡ false
    fails true passes none = clash (wider x passes) none
    fails false passes none = refl

    go : (b : Bool) → q x ≡ b → filter p (filter q xs) ≡ filter p xs → filter p (cond b (x ∷ filter q xs) (filter q xs)) ≡ cond (p x) (x ∷ filter p xs) (filter p xs)
    go true is rest = ap (λ l. cond (p x) (x ∷ l) l) rest
    go false is rest = rest ∙ sym (if_false (p x) (x ∷ filter p xs) (filter p xs) (fails (p x) refl is))

-- one more that passes
pub last_passes : {A : Type 0} (p : A → Bool) (xs : List A) (y : A) → p y ≡ true → length (filter p (xs ++ y ∷ [])) ≡ suc (length (filter p xs))
last_passes p [] y passes = ap (λ b. length (cond b (y ∷ []) [])) passes
last_passes p (x ∷ xs) y passes = go (p x) (last_passes p xs y passes)
  where
    go : (b : Bool) → length (filter p (xs ++ y ∷ [])) ≡ suc (length (filter p xs)) → length (cond b (x ∷ filter p (xs ++ y ∷ [])) (filter p (xs ++ y ∷ []))) ≡ suc (length (cond b (x ∷ filter p xs) (filter p xs)))
    go true rest = ap suc rest
    go false rest = rest

-- ---- tickets in ascending order
apart_below : (x j : Ticket) (ks : List Ticket) → AllByRecursion (λ i. ticket_cmp x i ≡ Less) ks → In j ks → is_ticket x j ≡ false
apart_below x j [] below here = absurd here
apart_below x j (i ∷ ks) below (inl e) = ap (is_ticket x) e ∙ ap is_eq below.0
apart_below x j (i ∷ ks) below (inr here) = apart_below x j ks below.1 here

-- one of them passes no more, and the others as before
pub one_fewer : (k : Ticket) (p q : Ticket → Bool) (xs : List Ticket) → IsStrictlySortedBy ticket_cmp xs → In k xs → ((j : Ticket) → is_ticket k j ≡ false → p j ≡ q j) → p k ≡ false → q k ≡ true → suc (length (filter p xs)) ≡ length (filter q xs)
one_fewer k p q [] sorted here same fails passes = absurd here
one_fewer k p q (x ∷ xs) sorted (inl e) same fails passes =
    let rest = same_pass p q xs (λ j here. same j (ap (λ i. is_ticket i j) e ∙ apart_below x j xs (sorted_head ticket_cmp x xs sorted) here)) in
    let is_no : p x ≡ false = ap p (sym e) ∙ fails in
    let is_yes : q x ≡ true = ap q (sym e) ∙ passes in
    ap (λ b. suc (length (cond b (x ∷ filter p xs) (filter p xs)))) is_no ∙ ap (λ l. suc (length l)) rest ∙ sym (ap (λ b. length (cond b (x ∷ filter q xs) (filter q xs))) is_yes)
one_fewer k p q (x ∷ xs) sorted (inr below) same fails passes =
    let apart : is_ticket k x ≡ false = ticket_sym k x ∙ apart_below x k xs (sorted_head ticket_cmp x xs sorted) below in
    ap (λ b. suc (length (cond b (x ∷ filter p xs) (filter p xs)))) (same x apart) ∙ go (q x) (one_fewer k p q xs (sorted_tail ticket_cmp x xs sorted) below same fails passes)
  where
    go : (b : Bool) → suc (length (filter p xs)) ≡ length (filter q xs) → suc (length (cond b (x ∷ filter p xs) (filter p xs))) ≡ length (cond b (x ∷ filter q xs) (filter q xs))
    go true rest = ap suc rest
    go false rest = rest

-- one that doesn't pass isn't missed
pub without : (k : Ticket) (p : Ticket → Bool) (xs : List Ticket) → p k ≡ false → filter p (filter (λ j. not (is_ticket k j)) xs) ≡ filter p xs
without k p [] fails = refl
without k p (x ∷ xs) fails = go (is_ticket k x) refl (without k p xs fails)
  where
    go : (b : Bool) → is_ticket k x ≡ b → filter p (filter (λ j. not (is_ticket k j)) xs) ≡ filter p xs →
        filter p (cond (not b) (x ∷ filter (λ j. not (is_ticket k j)) xs) (filter (λ j. not (is_ticket k j)) xs)) ≡ cond (p x) (x ∷ filter p xs) (filter p xs)
    go true is rest = rest ∙ sym (if_false (p x) (x ∷ filter p xs) (filter p xs) (ap p (sym (ticket_is k x is)) ∙ fails))
    go false is rest = ap (λ l. cond (p x) (x ∷ l) l) rest

all_more : (P : Ticket → Type 0) (xs : List Ticket) (k : Ticket) → AllByRecursion P xs → P k → AllByRecursion P (xs ++ k ∷ [])
all_more P [] k all last = (last, tt)
all_more P (x ∷ xs) k all last = (all.0, all_more P xs k all.1 last)

-- a ticket above all others comes last
pub sorted_last : (xs : List Ticket) (k : Ticket) → IsStrictlySortedBy ticket_cmp xs → ((j : Ticket) → In j xs → ticket_cmp j k ≡ Less) → IsStrictlySortedBy ticket_cmp (xs ++ k ∷ [])
unfolding IsStrictlySortedBy
sorted_last [] k sorted below = (tt, tt)
sorted_last (x ∷ xs) k sorted below = (all_more (λ j. ticket_cmp x j ≡ Less) xs k sorted.0 (below x (inl refl)), sorted_last xs k sorted.1 (λ j here. below j (inr here)))

-- a ticket that was drawn is below the next
pub drawn_below : (life number : ℕ) (j : Ticket) → (j.life < life) ⊎ ((j.life ≡ life) × (j.visit ≤ number)) → ticket_cmp j (record { life = life; visit = suc number }) ≡ Less
drawn_below life number j (inl below) = grind (arith, nat_cmp)
drawn_below life number j (inr here) = let f : j.visit ≤ number = here.1 in let e : j.life ≡ life = here.0 in grind (arith, nat_cmp)

-- where none passes they are none
pub none_pass : {A : Type 0} (p : A → Bool) (xs : List A) → ((x : A) → p x ≡ false) → length (filter p xs) ≡ 0
none_pass p [] fails = refl
none_pass p (x ∷ xs) fails = ap (λ b. length (cond b (x ∷ filter p xs) (filter p xs))) (fails x) ∙ none_pass p xs fails
