-- What settled fragments are, row by row.
use Rattle.std.proofs.Common.{◌≡◌, refl, sym, ap, ◌∙◌, subst, Bool, true, false, List, [], ◌∷◌, map, Option, Some, None, is_some, if◌then◌else◌, option_map, unwrap_or, ◌⊎◌, inl, inr, IsTrue}
use Rattle.std.specs.FinMap as fin
use Rattle.std.specs.List.{AllByRecursion}
use Rattle.std.specs.List.Sorted.{IsStrictlySortedBy}
use Rattle.std.specs.BTreeMap.Comparable.{le_lt_trans}
use Rattle.std.specs.Ordering.{is_eq, is_le}
use Rattle.std.specs.declared.cmp.Ordering.TheVariants.{Less}
use Rattle.std.proofs.lemmas.Map.Keys.{sorted_head, sorted_tail}
use Rattle.terms.specs.declared.leaf.Leaf.{Leaf}
use Rattle.store.specs.declared.name.Ticket.{Ticket}
use Rattle.store.specs.declared.name.Txn.{Txn}
use Rattle.store.specs.declared.prepared.Prepared.{Prepared}
use Rattle.store.specs.declared.prepared.PreparedRow.{PreparedRow}
use Rattle.store.specs.declared.slot.Slot.{Slot}
use Rattle.store.specs.Content.{Changes, Content, changed, made_by, put_at}
use Rattle.store.specs.ContentLaws.{get-changed, get-made_by, same_content}
use Rattle.store.specs.Name.{ticket_cmp}
use Rattle.store.specs.declared.prepared.SiteKept.{SiteKept}
use Rattle.store.specs.SiteContent.{IsUnchanged, Lists, SiteContent, is_ticket, row_of}
use Rattle.store.specs.Slot.{slot_of}
use Rattle.protocol.specs.Parts.{In}
use Rattle.store.specs.Orders.{ticket_cmp_total}
use Rattle.protocol.proofs.Basics.{clash, if_false, if_true}
use Rattle.site.specs.Settled.{AreSettled, with_all, with_row, with_rows, with_some}
use Rattle.site.specs.declared.tickets.TicketState as standings
use Rattle.site.specs.State.{Fits, VolatileState, txn_in}
use Rattle.site.proofs.PreparedRows.{none_below}
use Rattle.site.proofs.TicketOrder.{ticket_is, ticket_same, ticket_sym}

-- changes that are made over others, room for them made first
pub made_more : (old mid new changes : Changes) → ((slot : Slot) → put_at mid slot ≡ put_at old slot) → ((slot : Slot) → put_at new slot ≡ unwrap_or (fin.get changes slot) (put_at mid slot)) → (leaf : Leaf) → made_by new leaf ≡ changed leaf changes (made_by old leaf)
made_more old mid new changes same over leaf = same_content (made_by new leaf) (changed leaf changes (made_by old leaf)) (λ q.
    let slot = slot_of leaf q in
    get-made_by new leaf q ∙ over slot ∙ ap (unwrap_or (fin.get changes slot)) (same slot ∙ sym (get-made_by old leaf q)) ∙ sym (get-changed leaf changes (made_by old leaf) q))

-- ---- rows in the order of their tickets are the rows of all tickets in their order
abbrev tickets_of : List PreparedRow → List Ticket
tickets_of rows = map (λ row. row.ticket) rows

module _ (decided : List Txn) (leaf : Leaf) where
  -- where no ticket has a row nothing changes
  no_rows : (rows : Ticket → Option Prepared) (ks : List Ticket) → ((k : Ticket) → In k ks → rows k ≡ None) → (content : Content) → with_all decided leaf rows ks content ≡ content
  no_rows rows [] none content = refl
  no_rows rows (k ∷ ks) none content = no_rows rows ks (λ j here. none j (inr here)) (with_some decided leaf (rows k) content) ∙ ap (λ o. with_some decided leaf o content) (none k (inl refl))

  -- the first ticket is below each row's, where it is below the first row's
  all_above : (k : Ticket) (row : PreparedRow) (rows : List PreparedRow) → ticket_cmp k row.ticket ≡ Less → AllByRecursion (λ j. ticket_cmp row.ticket j ≡ Less) (tickets_of rows) → AllByRecursion (λ j. ticket_cmp k j ≡ Less) (tickets_of rows)
  all_above k row [] first later = tt
  all_above k row (next ∷ rows) first later = (le_lt_trans ticket_cmp_total k row.ticket next.ticket (subst (λ o. IsTrue (is_le o)) (sym first) refl) later.0, all_above k row rows first later.1)

  below_in : (k j : Ticket) (ks : List Ticket) → AllByRecursion (λ i. ticket_cmp k i ≡ Less) ks → In j ks → ticket_cmp k j ≡ Less
  below_in k j [] below here = absurd here
  below_in k j (i ∷ ks) below (inl is) = ap (ticket_cmp k) is ∙ below.0
  below_in k j (i ∷ ks) below (inr here) = below_in k j ks below.1 here

  -- tickets that aren't the first are among the others
  not_first : (k j : Ticket) (ks : List Ticket) → is_ticket k j ≡ false → In j (k ∷ ks) → In j ks
  not_first k j ks apart (inl is) = clash (ticket_same k j (sym is)) apart
  not_first k j ks apart (inr here) = here

  none_first : (k : Ticket) (ks : List Ticket) (rows : List PreparedRow) → AllByRecursion (λ j. ticket_cmp k j ≡ Less) (tickets_of rows) → AllByRecursion (λ row. In row.ticket (k ∷ ks)) rows → AllByRecursion (λ row. In row.ticket ks) rows
  none_first k ks [] below there = tt
  none_first k ks (row ∷ rows) below there = (not_first k row.ticket ks (ap is_eq below.0) there.0, none_first k ks rows below.1 there.1)

  -- lists of tickets and of rows, both sorted: each row's ticket is among the tickets, and each ticket has the row that is listed, if any
  pub rows_are : (lookup : Ticket → Option Prepared) (ks : List Ticket) (rows : List PreparedRow) → IsStrictlySortedBy ticket_cmp ks → IsStrictlySortedBy ticket_cmp (tickets_of rows) →
      ((k : Ticket) → In k ks → lookup k ≡ row_of k rows) → AllByRecursion (λ row. In row.ticket ks) rows → (content : Content) → with_all decided leaf lookup ks content ≡ with_rows decided leaf rows content
  rows_are lookup ks [] sorted ascend same there content = no_rows lookup ks same content
  rows_are lookup [] (row ∷ rows) sorted ascend same there content = absurd there.0
  rows_are lookup (k ∷ ks) (row ∷ rows) sorted ascend same there content = go (λ more ascend same there content. rows_are lookup ks more (sorted_tail ticket_cmp k ks sorted) ascend same there content) (is_ticket k row.ticket) refl
    where
      below : AllByRecursion (λ j. ticket_cmp k j ≡ Less) ks
      below = sorted_head ticket_cmp k ks sorted

      above : AllByRecursion (λ j. ticket_cmp row.ticket j ≡ Less) (tickets_of rows)
      above = sorted_head ticket_cmp row.ticket (tickets_of rows) ascend

      go : ((more : List PreparedRow) → IsStrictlySortedBy ticket_cmp (tickets_of more) → ((j : Ticket) → In j ks → lookup j ≡ row_of j more) → AllByRecursion (λ row. In row.ticket ks) more → (content : Content) → with_all decided leaf lookup ks content ≡ with_rows decided leaf more content) →
          (b : Bool) → is_ticket k row.ticket ≡ b → with_all decided leaf lookup ks (with_some decided leaf (lookup k) content) ≡ with_rows decided leaf rows (with_row decided leaf row.prepared content)
      go later true is =
          let e = ticket_is k row.ticket is in
          let first = same k (inl refl) ∙ if_true (is_ticket k row.ticket) (Some row.prepared) (row_of k rows) is in
          let above_k = subst (λ t. AllByRecursion (λ j. ticket_cmp t j ≡ Less) (tickets_of rows)) (sym e) above in
          ap (λ o. with_all decided leaf lookup ks (with_some decided leaf o content)) first ∙
          later rows (sorted_tail ticket_cmp row.ticket (tickets_of rows) ascend)
          (λ j here. same j (inr here) ∙ if_false (is_ticket j row.ticket) (Some row.prepared) (row_of j rows) (ap (is_ticket j) (sym e) ∙ ticket_sym j k ∙ ap is_eq (below_in k j ks below here)))
          (none_first k ks rows above_k there.1) (with_row decided leaf row.prepared content)
      go later false is =
          let here = not_first k row.ticket ks is there.0 in
          let first = below_in k row.ticket ks below here in
          let all_below = all_above k row rows first above in
          let none = same k (inl refl) ∙ none_below k (row ∷ rows) (first, all_below) in
          ap (λ o. with_all decided leaf lookup ks (with_some decided leaf o content)) none ∙
          later (row ∷ rows) ascend (λ j at. same j (inr at)) (here, none_first k ks rows all_below there.1) content

-- ---- the rows that a store lists are those of the tickets
some_row : (t : Ticket) (rows : List PreparedRow) → In t (tickets_of rows) → is_some (row_of t rows) ≡ true
some_row t [] here = absurd here
some_row t (row ∷ rows) here = go (is_ticket t row.ticket) refl here (some_row t rows)
  where
    go : (b : Bool) → is_ticket t row.ticket ≡ b → (t ≡ row.ticket) ⊎ In t (tickets_of rows) → (In t (tickets_of rows) → is_some (row_of t rows) ≡ true) → is_some (if b then Some row.prepared else row_of t rows) ≡ true
    go true is at later = refl
    go false is (inl same) later = clash (ticket_same t row.ticket same) is
    go false is (inr at) later = later at

each_in : (ks : List Ticket) (rows : List PreparedRow) → ((t : Ticket) → In t (tickets_of rows) → In t ks) → AllByRecursion (λ row. In row.ticket ks) rows
each_in ks [] all = tt
each_in ks (row ∷ rows) all = (all row.ticket (inl refl), each_in ks rows (λ t here. all t (inr here)))

stands_there : (o : Option standings.TicketState) (r : Option Prepared) → txn_in o ≡ option_map (λ row. row.txn) r → is_some r ≡ true → is_some o ≡ true
stands_there None None same some = some
stands_there None (Some row) same some = absurd cc
stands_there (Some o) r same some = refl

settles : (decided : List Txn) (kept : SiteContent) (table : VolatileState) (all : SiteKept) (made : Changes) → Lists kept all → Fits kept table → IsStrictlySortedBy ticket_cmp table.tickets → ((leaf : Leaf) → made_by made leaf ≡ with_rows decided leaf all.rows.prepared (made_by all.parts leaf)) →
    AreSettled decided kept table.tickets made
settles decided kept table all made lists fits sorted is leaf =
    is leaf ∙ ap (with_rows decided leaf all.rows.prepared) (lists.fragments leaf) ∙
    sym (rows_are decided leaf kept.prepared table.tickets all.rows.prepared sorted lists.rows.ascend (λ k here. sym (lists.rows.rows k))
    (each_in table.tickets all.rows.prepared (λ t here. fits.listed t (stands_there (table.standing t) (kept.prepared t) (fits.prepared t) (subst (λ o. is_some o ≡ true) (lists.rows.rows t) (some_row t all.rows.prepared here))))) (kept.content leaf))

-- so where what is kept was listed, and nothing has changed
pub settles_still : (decided : List Txn) (old new : SiteContent) (table : VolatileState) (all : SiteKept) (made : Changes) → IsUnchanged old new → Lists new all → Fits old table → IsStrictlySortedBy ticket_cmp table.tickets →
    ((leaf : Leaf) → made_by made leaf ≡ with_rows decided leaf all.rows.prepared (made_by all.parts leaf)) → AreSettled decided old table.tickets made
settles_still decided old new table all made same lists fits sorted is =
    let unchanged : new ≡ old = λ i. record { has = λ leaf. same.has leaf i; content = λ leaf. same.content leaf i; prepared = λ ticket. same.prepared ticket i; life = same.life i } in
    settles decided old table all made (subst (λ kept. Lists kept all) unchanged lists) fits sorted is
