-- Lists that are gone through from their ends.
use Rattle.std.proofs.Common.{◌≡◌, ◌<◌, ◌≤◌, ◌-◌, ℕ, suc, true, false, cond, List, ◌∷◌, length, get_or, drop, drop-cons, Option, Some, unsigned_abs, sym, ap, ◌∙◌, subst, inl, inr, arith}
use Rattle.std.specs.List.{AllByRecursion}
use Rattle.std.proofs.lemmas.Bool.{both_ways, cases_Bool, false_from_ne_true}
use Rattle.sqlite.specs.Order.{Row}
use Rattle.store.specs.declared.name.Ticket.{Ticket}
use Rattle.store.specs.declared.name.Txn.{Txn}
use Rattle.store.specs.declared.prepared.Prepared.{Prepared}
use Rattle.store.specs.Content.{Changes}
use Rattle.store.specs.SiteContent.{is_ticket}
use Rattle.sqlstore.specs.Cells.{int_at}
use Rattle.sqlstore.specs.Content.{is_of, prepared_in, row_as}
use Rattle.sqlstore.proofs.Forgetting.{one_ticket, ticket_same}

-- the row before a place, and those from the place on
pub one_before : {X : Type 0} (rows : List X) (at : ℕ) (row : X) → 0 < at → at ≤ length rows → row ≡ get_or rows (at - 1) row → drop (at - 1) rows ≡ row ∷ drop at rows
one_before rows at row low within is =
    let next : suc (at - 1) ≡ at = omega (arith, low) in
    drop-cons rows (at - 1) row (omega (arith, low, within)) ∙ ap (λ r. r ∷ drop (suc (at - 1)) rows) (sym is) ∙ ap (λ k. row ∷ drop k rows) next

pub all_before : {X : Type 0} (P : X → Type 0) (rows : List X) (at : ℕ) (row : X) → drop (at - 1) rows ≡ row ∷ drop at rows → P row → AllByRecursion P (drop at rows) → AllByRecursion P (drop (at - 1) rows)
all_before P rows at row is here behind = subst (AllByRecursion P) (sym is) (here, behind)

-- what is put at a row's ticket is what the row prepares
pub prepared_put : (row : Row) (ticket other : Ticket) (txn : Txn) (changes empty : Changes) (old : Option Prepared) → is_of ticket row ≡ true → txn ≡ record { life = unsigned_abs (int_at row 3); number = unsigned_abs (int_at row 4) } → changes ≡ empty
    → cond (is_ticket ticket other) (Some (record { txn = txn; changes = changes })) old ≡ cond (is_of other row) (Some (row_as row empty)) old
prepared_put row ticket other txn changes empty old mine names are =
    let put : record { txn = txn; changes = changes } ≡ row_as row empty = λ i. record { txn = names i; changes = are i } in
    elim (cases_Bool (is_ticket ticket other)) [
      | inl same ↦
          let its : is_of other row ≡ true = subst (λ t. is_of t row ≡ true) (ticket_same ticket other same) mine in
          ap (λ b. cond b (Some (record { txn = txn; changes = changes })) old) same ∙ ap Some put ∙ sym (ap (λ b. cond b (Some (row_as row empty)) old) its)
      | inr differ ↦
          let no : is_of other row ≡ false = false_from_ne_true (is_of other row) (λ its. both_ways (is_ticket ticket other) differ (one_ticket ticket other row mine its)) in
          ap (λ b. cond b (Some (record { txn = txn; changes = changes })) old) differ ∙ sym (ap (λ b. cond b (Some (row_as row empty)) old) no)
    ]

-- a row more is in the map
pub prepared_more : (changes : Changes) (ticket : Ticket) (all rest : List Row) (row : Row) (old new : Option Prepared) → all ≡ row ∷ rest → old ≡ prepared_in rest changes ticket → new ≡ cond (is_of ticket row) (Some (row_as row changes)) old → new ≡ prepared_in all changes ticket
prepared_more changes ticket all rest row old new is kept made = made ∙ ap (cond (is_of ticket row) (Some (row_as row changes))) kept ∙ ap (λ rows. prepared_in rows changes ticket) (sym is)
