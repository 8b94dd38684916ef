-- A letter with which a site is at a limit: the step that the table says of it leads past the limits.
use Rattle.std.proofs.Common.{◌≡◌, refl, sym, ap, ◌∙◌, ℕ, suc, ◌+◌, ◌^◌, ◌<◌, ◌≤◌, ◌&&◌, nat_lt, nat_le, Bool, true, false, not, List, [], ◌∷◌, ◌++◌, filter, length, inl, inr, is_some, arith}
use Rattle.std.specs.List.{list_all}
use Rattle.std.specs.Ordering.{is_eq}
use Rattle.store.specs.declared.letter.Body as bodies
use Rattle.store.specs.declared.letter.Body.TheVariants as body
use Rattle.store.specs.declared.name.Ticket.{Ticket}
use Rattle.store.specs.declared.order.Order as orders
use Rattle.store.specs.declared.order.Order.TheVariants as order
use Rattle.store.specs.SiteContent.{SiteContent, is_ticket}
use Rattle.protocol.specs.Language.{Name, put, same}
use Rattle.protocol.specs.Letter.{Body}
use Rattle.protocol.specs.Letters.{name_of, ticket_of, leaf_of, at_key, body_of, order_body}
use Rattle.protocol.specs.Local.{local}
use Rattle.protocol.specs.Parts.{In}
use Rattle.protocol.specs.Site.{SiteState, Status, Active, Act, Opens, Visit, is_active, is_dead, is_short, is_within, new_visit, next_ticket, on_letter, sees, site_after}
use Rattle.protocol.specs.Site as acts
use Rattle.protocol.proofs.Basics.{all_in, clash, if_false, if_true, in_filter}
use Rattle.terms.specs.declared.leaf.Leaf.{Leaf}
use Rattle.site.specs.Moves.{next_of}
use Rattle.site.specs.Refusals.{AsksBeyond, IsBeyond}
use Rattle.site.specs.State.{Fits, VolatileState, state_of}
use Rattle.site.proofs.Counting.{drawn_below, last_passes, part_passes, same_pass}
use Rattle.site.proofs.Limited.{alive_are}
use Rattle.site.proofs.Listed.{from_names, in_names}
use Rattle.site.proofs.TicketOrder.{same_is, ticket_self}
use Rattle.site.proofs.Verdicts.{read_goes, write_goes}

-- ---- one test that fails is enough
none_and : (a b : Bool) → a ≡ false → (a && b) ≡ false
none_and a b fails = ap (λ x. x && b) fails

and_none : (a b : Bool) → b ≡ false → (a && b) ≡ false
and_none a b fails = ap (λ x. a && x) fails ∙ go a
  where
    go : (e : Bool) → (e && false) ≡ false
    go true = refl
    go false = refl

module _ (state : SiteState local) where
  abbrev life_below : Bool
  life_below = nat_lt state.life (2 ^ 63)

  abbrev number_below : Bool
  number_below = nat_lt state.number (2 ^ 63)

  abbrev all_short : Bool
  all_short = list_all (λ n. is_short (state.status n)) state.known

  abbrev are_few : Bool
  are_few = nat_le (length (filter (λ n. is_active (state.status n)) state.known)) 1024

  number_past : number_below ≡ false → is_within state ≡ false
  number_past fails = none_and ((life_below && number_below) && all_short) are_few (none_and (life_below && number_below) all_short (and_none life_below number_below fails))

  visit_past : all_short ≡ false → is_within state ≡ false
  visit_past fails = none_and ((life_below && number_below) && all_short) are_few (and_none (life_below && number_below) all_short fails)

  visits_past : are_few ≡ false → is_within state ≡ false
  visits_past fails = and_none ((life_below && number_below) && all_short) are_few fails

not_all : {A : Type 0} (p : A → Bool) (x : A) (xs : List A) → In x xs → p x ≡ false → list_all p xs ≡ false
not_all p x xs here fails = go (list_all p xs) refl
  where
    go : (b : Bool) → list_all p xs ≡ b → b ≡ false
    go true all = clash (all_in p x xs all here) fails
    go false all = refl

not_below : (n m : ℕ) → m ≤ n → nat_lt n m ≡ false
not_below n m most = grind (arith)

not_up_to : (n m : ℕ) → m < n → nat_le n m ≡ false
not_up_to n m more = grind (arith)

alive_not_dead : (status : Status local) → is_active status ≡ true → not (is_dead status) ≡ true
alive_not_dead acts.Dead active = cc
alive_not_dead (Active visit) active = refl
alive_not_dead (acts.Prepared txn changes) active = refl

module _ (kept : SiteContent) (table : VolatileState) (fits : Fits kept table) where
  abbrev s : SiteState local
  s = state_of kept table

  -- ---- an operation whose number is past the last
  too_long : (k : Ticket) (visit : Visit local) (leaf : Leaf) (replies : List (Body local)) → In k table.tickets → nat_lt visit.done (2 ^ 63) ≡ false → is_within (site_after s (acts.Locks (name_of k) visit leaf replies)) ≡ false
  too_long k visit leaf replies here long =
      let there : status (name_of k) ≡ Active visit = if_true (same (name_of k) (name_of k)) (Active visit) (sees leaf (s.status (name_of k))) (same_is k k ∙ ticket_self k) in
      let listed : In (name_of k) (filter lives s.known) = in_filter lives (name_of k) s.known (in_names k table.tickets here) (ap (λ st. not (is_dead st)) there) in
      visit_past (site_after s (acts.Locks (name_of k) visit leaf replies)) (not_all (λ n. is_short (status n)) (name_of k) (filter lives s.known) listed (ap is_short there ∙ long))
    where
      status : Name → Status local
      status = put same (name_of k) (Active visit) (λ n. sees leaf (s.status n))

      lives : Name → Bool
      lives n = not (is_dead (status n))

  long_act : (act : Act local) (k : Ticket) (visit : Visit local) (leaf : Leaf) (replies : List (Body local)) → act ≡ acts.Locks (name_of k) visit leaf replies → In k table.tickets → nat_lt visit.done (2 ^ 63) ≡ false → is_within (site_after s act) ≡ false
  long_act act k visit leaf replies is here long = ap (λ a. is_within (site_after s a)) is ∙ too_long k visit leaf replies here long

  -- ---- a visit that has no place, or no number
  abbrev begun : Name → Status local
  begun = put same (next_ticket s) (Active (new_visit s)) s.status

  abbrev is_begun : Name → Bool
  is_begun n = is_active (begun n)

  the_next : is_begun (next_ticket s) ≡ true
  the_next = ap is_active (if_true (same (next_ticket s) (next_ticket s)) (Active (new_visit s)) (s.status (next_ticket s)) (same_is (next_of table) (next_of table) ∙ ticket_self (next_of table)))

  the_others : (n : Name) → In n s.known → is_begun n ≡ is_active (s.status n)
  the_others n here =
      let j = ticket_of n in
      let apart : is_ticket j (next_of table) ≡ false = ap is_eq (drawn_below table.life table.number j (fits.drawn j (fits.lives j (from_names n table.tickets here)))) in
      ap is_active (if_false (same n (next_ticket s)) (Active (new_visit s)) (s.status n) (same_is j (next_of table) ∙ apart))

  how_many : length (filter is_begun (filter (λ n. not (is_dead (begun n))) (s.known ++ next_ticket s ∷ []))) ≡ suc table.active
  how_many =
      ap length (part_passes is_begun (λ n. not (is_dead (begun n))) (s.known ++ next_ticket s ∷ []) (λ n. alive_not_dead (begun n)))
      ∙ last_passes is_begun s.known (next_ticket s) the_next
      ∙ ap (λ l. suc (length l)) (same_pass is_begun (λ n. is_active (s.status n)) s.known the_others)
      ∙ ap suc (alive_are kept table fits table.tickets ∙ sym fits.counted)

  too_many : 1024 ≤ table.active → is_within (site_after s Opens) ≡ false
  too_many most =
      let count : length (filter is_begun (filter (λ n. not (is_dead (begun n))) (s.known ++ next_ticket s ∷ []))) ≡ suc table.active = how_many in
      visits_past (site_after s Opens) (ap (λ n. nat_le n 1024) count ∙ not_up_to (suc table.active) 1024 (omega (arith, most)))

  too_late : 2 ^ 63 ≤ table.number + 1 → is_within (site_after s Opens) ≡ false
  too_late late = number_past (site_after s Opens) (not_below (suc table.number) (2 ^ 63) (omega (arith, late)))

  -- the step of an order by which a site is at a limit
  pub past_by : (txn : Name) (said : orders.Order) → IsBeyond table said → is_within (site_after s (on_letter s txn true (order_body said))) ≡ false
  past_by txn order.Open (inl most) = too_many most
  past_by txn order.Open (inr late) = too_late late
  past_by txn (order.Fetch fetch) beyond =
      let r = read_goes kept table fits fetch.ticket fetch.op fetch.leaf fetch.conds (table.standing fetch.ticket) refl beyond.0 in
      long_act _ fetch.ticket _ fetch.leaf _ r.act_is (fits.listed fetch.ticket (ap is_some r.stands_there)) (not_below fetch.op (2 ^ 63) beyond.1)
  past_by txn (order.Intend intention) beyond =
      let k = intention.ticket in
      let w = intention.write in
      let r = write_goes kept table fits k intention.op (leaf_of w) (at_key w) (table.standing k) refl beyond.0 in
      long_act _ k _ (leaf_of w) _ r.act_is (fits.listed k (ap is_some r.stands_there)) (not_below intention.op (2 ^ 63) beyond.1)
  past_by txn (order.Prepare prepare) beyond = absurd beyond
  past_by txn (order.Commit ticket) beyond = absurd beyond
  past_by txn (order.Abort ticket) beyond = absurd beyond

  -- so of a letter
  pub past_limits : (txn : Name) (said : bodies.Body) → AsksBeyond table said → is_within (site_after s (on_letter s txn true (body_of said))) ≡ false
  past_limits txn (body.Order said) beyond = past_by txn said beyond
  past_limits txn (body.Reply reply) beyond = absurd beyond
