-- Prepared rows and their intents, each gone through once.
use Rattle.std.proofs.Common.{◌≡◌, ◌≢◌, ◌≤ℤ◌, ℕ, ℤ, pos, negsuc, Bool, true, false, BTreeMap, cond, List, [], ◌∷◌, Option, Some, None, IsSome, refl, sym, ap, ◌∙◌, subst, inl, inr, arith}
use Rattle.std.specs.BTreeMap as tree
use Rattle.std.specs.FinMap as fin
use Rattle.std.specs.List.{AllByRecursion}
use Rattle.std.specs.Option.{option_map}
use Rattle.std.specs.Ordering.{is_eq}
use Rattle.std.proofs.lemmas.Bool.{and_from, both_ways, cases_Bool, false_from_ne_true}
use Rattle.std.proofs.lemmas.Cmp.{tied_itself}
use Rattle.std.proofs.lemmas.Int.{ints}
use Rattle.std.proofs.lemmas.Map.Views.{btree_map_get_iff}
use Rattle.sqlite.specs.Order.{Row}
use Rattle.sqlite_rules.specs.Lists.{Has}
use Rattle.sqlite_rules.proofs.ListLemmas.{all_from, all_has, has_contained, contains_had}
use Rattle.store.specs.declared.name.Ticket.{Ticket}
use Rattle.store.specs.declared.prepared.Prepared.{Prepared}
use Rattle.store.specs.declared.prepared.PreparedRow.{PreparedRow}
use Rattle.store.specs.Content.{Changes}
use Rattle.store.specs.Name.{ticket_cmp}
use Rattle.store.specs.Orders.{leaf_cmp_total, ticket_cmp_total, ticket_cmp-IsAntisymmetric}
use Rattle.store.specs.RowList.{rows_of}
use Rattle.store.specs.SiteContent.{is_ticket}
use Rattle.store.specs.Slot.{slot_of, slot_cmp}
use Rattle.store.specs.declared.slot.Slot.{Slot}
use Rattle.terms.specs.declared.leaf.Leaf.{Leaf}
use Rattle.sqlstore.specs.Cells.{text_at, int_at}
use Rattle.sqlstore.specs.Content.{is_leaf, leaf_named, put_of, with_intent, changes_in, is_of, prepared_in, row_as}
use Rattle.sqlstore.specs.Gathered.{HasChanges, HasRow, IsPromised, with_own}
use Rattle.sqlstore.specs.Sound.{AreOfOne, IsIntent, IsNumbered}
use Rattle.sqlstore.proofs.Bridge.{same_int}
use Rattle.sqlstore.proofs.Contents.{LooksUp, at_row, nowhere, look_changes, look_prepared, is_intent_at}
use Rattle.sqlstore.proofs.Forgetting.{of_one, of_parts, one_ticket, ticket_same}
use Rattle.sqlstore.proofs.Querying.{mapped_has, has_mapped}

-- an intent is put into changes
abbrev intent_into : List Leaf → Row → Changes → Changes
intent_into leaves intent changes = with_intent (leaf_named leaves (text_at intent 3)) (int_at intent 4) (text_at intent 5) changes

abbrev changed_by : (Changes → Changes) → Prepared → Prepared
changed_by f row = record row { changes = f row.changes }

mapped : (f : Changes → Changes) (rows : List Row) (changes : Changes) (ticket : Ticket) → option_map (changed_by f) (prepared_in rows changes ticket) ≡ prepared_in rows (f changes) ticket
mapped f [] changes ticket = refl
mapped f (row ∷ rows) changes ticket = go (is_of ticket row) (mapped f rows changes ticket)
  where
    go : (b : Bool) → option_map (changed_by f) (prepared_in rows changes ticket) ≡ prepared_in rows (f changes) ticket
        → option_map (changed_by f) (cond b (Some (row_as row changes)) (prepared_in rows changes ticket)) ≡ cond b (Some (row_as row (f changes))) (prepared_in rows (f changes) ticket)
    go true rest = refl
    go false rest = rest

-- an intent more is in its ticket's row
pub own_more : (leaves : List Leaf) (rows all rest : List Row) (intent : Row) (ticket : Ticket) (old new : Option Prepared) → all ≡ intent ∷ rest → old ≡ prepared_in rows (changes_in leaves rest ticket) ticket → new ≡ with_own leaves intent ticket old
    → new ≡ prepared_in rows (changes_in leaves all ticket) ticket
own_more leaves rows all rest intent ticket old new is was made =
    made ∙ ap (with_own leaves intent ticket) was ∙ go (is_of ticket intent) ∙ ap (λ (a : List Row). prepared_in rows (changes_in leaves a ticket) ticket) (sym is)
  where
    go : (b : Bool) → cond b (option_map (changed_by (intent_into leaves intent)) (prepared_in rows (changes_in leaves rest ticket) ticket)) (prepared_in rows (changes_in leaves rest ticket) ticket)
        ≡ prepared_in rows (cond b (intent_into leaves intent (changes_in leaves rest ticket)) (changes_in leaves rest ticket)) ticket
    go true = mapped (intent_into leaves intent) rows (changes_in leaves rest ticket) ticket
    go false = refl

-- what is put into the row of an intent's ticket
pub own_put : (leaves : List Leaf) (intent : Row) (ticket other : Ticket) (was now : Prepared) (old : Ticket → Option Prepared) → is_of ticket intent ≡ true → old ticket ≡ Some was → now ≡ changed_by (intent_into leaves intent) was
    → cond (is_ticket ticket other) (Some now) (old other) ≡ with_own leaves intent other (old other)
own_put leaves intent ticket other was now old mine there is =
    elim (cases_Bool (is_ticket ticket other)) [
      | inl same ↦
          let one : ticket ≡ other = ticket_same ticket other same in
          let its : is_of other intent ≡ true = subst (λ t. is_of t intent ≡ true) one mine in
          let here : old other ≡ Some was = subst (λ t. old t ≡ Some was) one there in
          ap (λ b. cond b (Some now) (old other)) same ∙ ap Some is ∙ sym (ap (option_map (changed_by (intent_into leaves intent))) here) ∙ sym (ap (λ b. cond b (option_map (changed_by (intent_into leaves intent)) (old other)) (old other)) its)
      | inr differ ↦
          let no : is_of other intent ≡ false = false_from_ne_true (is_of other intent) (λ its. both_ways (is_ticket ticket other) differ (one_ticket ticket other intent mine its)) in
          ap (λ b. cond b (Some now) (old other)) differ ∙ sym (ap (λ b. cond b (option_map (changed_by (intent_into leaves intent)) (old other)) (old other)) no)
    ]

-- ---- the ticket of a row

whole : (z : ℤ) → pos 0 ≤ℤ z → (n : ℕ) × (z ≡ pos n)
whole (pos n) low = (n, refl)
whole (negsuc n) low = absurd (omega (arith, ints, low))

pub numbered_ticket : (row : Row) → IsNumbered row → (ticket : Ticket) × (is_of ticket row ≡ true)
numbered_ticket row numbered =
    let life = whole (int_at row 1) numbered.life in
    let visit = whole (int_at row 2) numbered.visit in
    (record { life = life.0; visit = visit.0 }, and_from _ _ (same_int (int_at row 1) (pos life.0) life.1) (same_int (int_at row 2) (pos visit.0) visit.1))

of_same : (ticket : Ticket) (one other : Row) → is_of ticket one ≡ true → is_of ticket other ≡ true → AreOfOne one other
of_same ticket one other mine its =
    let a = of_parts ticket one mine in
    let b = of_parts ticket other its in
    record { life = a.0 ∙ sym b.0; visit = a.1 ∙ sym b.1 }

found_row : (rows : List Row) (changes : Changes) (ticket : Ticket) (row : Row) → Has rows row → is_of ticket row ≡ true → (r : Row) × Has rows r × (is_of ticket r ≡ true) × (prepared_in rows changes ticket ≡ Some (row_as r changes))
found_row rows changes ticket row there mine = go (look_prepared changes ticket rows)
  where
    go : LooksUp (is_of ticket) (λ r. row_as r changes) rows (prepared_in rows changes ticket) → (r : Row) × Has rows r × (is_of ticket r ≡ true) × (prepared_in rows changes ticket ≡ Some (row_as r changes))
    go (at_row r h pass is) = (r, h, pass, is)
    go (nowhere none nothing) = absurd (both_ways (is_of ticket row) (none row there) mine)

pub is_some : {X : Type 0} (found : Option X) (x : X) → found ≡ Some x → IsSome found
is_some found x is = subst IsSome (sym is) refl

-- an intent whose ticket has a row has its prepared row, and the other way about
pub promised_by : (rows : List Row) (changes : Ticket → Changes) (found : Ticket → Option Prepared) (intent : Row) → ((ticket : Ticket) → found ticket ≡ prepared_in rows (changes ticket) ticket) → HasRow found intent → IsPromised rows intent
promised_by rows changes found intent is has = go (prepared_in rows (changes has.0) has.0) (look_prepared (changes has.0) has.0 rows) (subst IsSome (is has.0) has.2)
  where
    go : (o : Option Prepared) → LooksUp (is_of has.0) (λ r. row_as r (changes has.0)) rows o → IsSome o → IsPromised rows intent
    go o (at_row r h pass shown) some = (r, h, of_same has.0 r intent pass has.1)
    go o (nowhere none nothing) some = absurd (let e = subst IsSome nothing some in cc)

pub has_row : (rows : List Row) (changes : Ticket → Changes) (found : Ticket → Option Prepared) (intent : Row) → ((ticket : Ticket) → found ticket ≡ prepared_in rows (changes ticket) ticket) → AllByRecursion IsNumbered rows → IsPromised rows intent → HasRow found intent
has_row rows changes found intent is numbered promised =
    let t = numbered_ticket promised.0 (all_has IsNumbered rows promised.0 numbered promised.1) in
    let r = found_row rows (changes t.0) t.0 promised.0 promised.1 t.1 in
    (t.0, sym (of_one t.0 promised.0 intent promised.2) ∙ t.1, is_some (found t.0) _ (is t.0 ∙ r.3))

-- ---- a row with an intent is one with changes

some_own : (leaves : List Leaf) (ticket : Ticket) (intents : List Row) → changes_in leaves intents ticket ≢ fin.empty → (intent : Row) × Has intents intent × (is_of ticket intent ≡ true)
some_own leaves ticket [] differ = absurd (differ refl)
some_own leaves ticket (intent ∷ intents) differ = go (some_own leaves ticket intents) (is_of ticket intent) refl differ
  where
    go : (changes_in leaves intents ticket ≢ fin.empty → (i : Row) × Has intents i × (is_of ticket i ≡ true)) → (b : Bool) → is_of ticket intent ≡ b → cond b (intent_into leaves intent (changes_in leaves intents ticket)) (changes_in leaves intents ticket) ≢ fin.empty → (i : Row) × Has (intent ∷ intents) i × (is_of ticket i ≡ true)
    go later true mine some = (intent, inl refl, mine)
    go later false other some = let found = later some in (found.0, inr found.1, found.2)

own_some : (leaves : List Leaf) (ticket : Ticket) (intents : List Row) (intent : Row) → Has intents intent → is_of ticket intent ≡ true → IsIntent leaves intent → changes_in leaves intents ticket ≢ fin.empty
own_some leaves ticket intents intent there mine is empty = go (leaf_named leaves (text_at intent 3)) refl is.named
  where
    none : {X : Type 0} (x : X) → None ≡ Some x → ⊥
    none x same = cc

    at : (slot : Slot) → is_intent_at leaves ticket slot intent ≡ true → LooksUp (is_intent_at leaves ticket slot) (λ row. put_of (text_at row 5)) intents (fin.get (changes_in leaves intents ticket) slot) → ⊥
    at slot pass (at_row row h test shown) = none _ (sym (fin.get-empty slot_cmp slot) ∙ ap (λ (changes : Changes). fin.get changes slot) (sym empty) ∙ shown)
    at slot pass (nowhere idle nothing) = both_ways (is_intent_at leaves ticket slot intent) (idle intent there) pass

    go : (found : Option Leaf) → leaf_named leaves (text_at intent 3) ≡ found → IsSome found → ⊥
    go None named some = absurd cc
    go (Some leaf) named some =
        let slot = slot_of leaf (int_at intent 4) in
        at slot (and_from _ _ mine (and_from _ _ (ap (λ f. is_leaf f leaf) named ∙ ap is_eq (tied_itself leaf_cmp_total leaf)) (same_int (int_at intent 4) (int_at intent 4) refl))) (look_changes leaves ticket slot intents)

some_same : {X : Type 0} (one other : X) → Some one ≡ Some other → one ≡ other
some_same one other same = cc

-- ---- a map of the rows, by ticket

module _ (leaves : List Leaf) (rows intents : List Row) (kept : BTreeMap Ticket Prepared) (ordered : tree.IsOrdered ticket_cmp kept)
    (found : (ticket : Ticket) → tree.get ticket_cmp kept ticket ≡ prepared_in rows (changes_in leaves intents ticket) ticket) where
  abbrev listed : Ticket × Prepared → PreparedRow
  listed entry = record { ticket = entry.0; prepared = entry.1 }

  has_entry : (ticket : Ticket) (row : Prepared) → tree.get ticket_cmp kept ticket ≡ Some row → Has (rows_of kept.entries) (listed (ticket, row))
  has_entry ticket row is = has_mapped listed kept.entries (ticket, row) (has_contained kept.entries (ticket, row) ((btree_map_get_iff ticket_cmp_total ticket_cmp-IsAntisymmetric kept ordered ticket row).0 is))

  pub each_intended : AllByRecursion HasChanges (rows_of kept.entries) → AllByRecursion IsNumbered rows → (row : Row) → Has rows row → (intent : Row) × Has intents intent × AreOfOne row intent
  each_intended all numbered row there =
      let t = numbered_ticket row (all_has IsNumbered rows row numbered there) in
      let r = found_row rows (changes_in leaves intents t.0) t.0 row there t.1 in
      let some = all_has HasChanges (rows_of kept.entries) (listed (t.0, row_as r.0 (changes_in leaves intents t.0))) all (has_entry t.0 _ (found t.0 ∙ r.3)) in
      let own = some_own leaves t.0 intents some in
      (own.0, own.1, of_same t.0 row own.0 t.1 own.2)

  pub all_changed : ((row : Row) → Has rows row → (intent : Row) × Has intents intent × AreOfOne row intent) → ((intent : Row) → Has intents intent → IsIntent leaves intent) → AllByRecursion HasChanges (rows_of kept.entries)
  all_changed intended are = all_from HasChanges (rows_of kept.entries) (λ row there.
      let e = mapped_has listed kept.entries row there in
      let got = (btree_map_get_iff ticket_cmp_total ticket_cmp-IsAntisymmetric kept ordered e.0.0 e.0.1).1 (contains_had kept.entries e.0 e.1) in
      subst HasChanges (sym e.2) (go e.0.0 e.0.1 (look_prepared (changes_in leaves intents e.0.0) e.0.0 rows) (sym (found e.0.0) ∙ got)))
    where
      go : (ticket : Ticket) (row : Prepared) → LooksUp (is_of ticket) (λ r. row_as r (changes_in leaves intents ticket)) rows (prepared_in rows (changes_in leaves intents ticket) ticket)
          → prepared_in rows (changes_in leaves intents ticket) ticket ≡ Some row → row.changes ≢ fin.empty
      go ticket row (at_row r h pass shown) is empty =
          let own = intended r h in
          let same : changes_in leaves intents ticket ≡ row.changes = ap (λ (p : Prepared). p.changes) (some_same _ _ (sym shown ∙ is)) in
          own_some leaves ticket intents own.0 own.1 (sym (of_one ticket r own.0 own.2) ∙ pass) (are own.0 own.1) (same ∙ empty)
      go ticket row (nowhere none nothing) is empty = absurd (let e : None ≡ Some row = sym nothing ∙ is in cc)
