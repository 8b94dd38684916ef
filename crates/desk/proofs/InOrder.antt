-- Voters in the order of sites: a row's are those of its map, and a decision's stand so.
use Rattle.std.proofs.Common.{◌≡◌, refl, sym, ap, ◌∙◌, subst, ℕ, nat_eq, Bool, true, false, ◌&&◌, ◌||◌, List, [], ◌∷◌, map, Option, Some, None, cond, if◌then◌else◌}
use Rattle.std.specs.Cmp.Lexicographic.{nat_list_cmp_total, nat_list_eq_equiv, pointwise, slice_cmp, texts_ties}
use Rattle.std.specs.FinMap as keyed
use Rattle.std.specs.FinMap.{nat_cmp-IsAntisymmetric, slice_cmp-IsAntisymmetric}
use Rattle.std.specs.List.{AllByRecursion, cons_option, find, list_any}
use Rattle.std.specs.Option.{option_map}
use Rattle.std.specs.Ordering.{is_eq, nat_cmp}
use Rattle.reader.specs.Printable.{AreDistinct}
use Rattle.store.specs.declared.commit.CommitRow.{CommitRow}
use Rattle.store.specs.declared.commit.Voter.{Voter}
use Rattle.store.specs.declared.name.Ticket.{Ticket}
use Rattle.store.specs.declared.name.Txn.{Txn}
use Rattle.store.specs.declared.reply.Vote.{Vote}
use Rattle.store.specs.declared.reply.Vote.TheVariants.{Yes, No, Read}
use Rattle.store.specs.DeskContent.{Voters, by_site, is_txn, voters_in}
use Rattle.protocol.proofs.Basics.{clash, if_true, left_true, right_true}
use Rattle.desk.specs.declared.participant.Participant.{Participant}
use Rattle.desk.specs.Acknowledge.{AreInOrder, is_yes, listed, voter_with, voters_among}
use Rattle.desk.specs.Participants.{sites_of}
use Rattle.desk.specs.Recovery.{are_at, in_order, is_of, row_in_order, rows_are_at}
use Rattle.desk.proofs.Decisions.{others_apart}
use Rattle.desk.proofs.Participants.{text_is, text_self}

-- ---- a list of voters and the map of it
abbrev pairs : List Voter → List (List ℕ × Ticket)
pairs voters = map (λ voter. (voter.site, voter.ticket)) voters

abbrev at_site : List ℕ → List Voter → Option Ticket
at_site site voters = keyed.find (slice_cmp nat_cmp) site (pairs voters)

same_site : (site other : List ℕ) → is_eq (slice_cmp nat_cmp site other) ≡ pointwise nat_eq other site
same_site site other = sym (texts_ties site other) ∙ nat_list_eq_equiv.symm site other

ticket_at : (voters : List Voter) (site : List ℕ) → keyed.get (by_site voters) site ≡ at_site site voters
ticket_at voters site = keyed.get-from_entries nat_list_cmp_total (pairs voters) site

found : (site : List ℕ) (voters : List Voter) → option_map (voter_with site) (at_site site voters) ≡ find (is_of site) voters
found site [] = refl
found site (v ∷ voters) = ap (λ b. option_map (voter_with site) (cond b (Some v.ticket) (at_site site voters))) (same_site site v.site) ∙ go (is_of site v) refl (found site voters)
  where
    go : (b : Bool) → is_of site v ≡ b → option_map (voter_with site) (at_site site voters) ≡ find (is_of site) voters → option_map (voter_with site) (cond b (Some v.ticket) (at_site site voters)) ≡ cond b (Some v) (find (is_of site) voters)
    go true e rest = ap (λ s. Some (voter_with s v.ticket)) (sym (text_is v.site site e))
    go false e rest = rest

-- the voters of a list in the order of sites are those of its map
pub order_is : (sites : List (List ℕ)) (voters : List Voter) → listed sites (by_site voters) ≡ in_order sites voters
order_is [] voters = refl
order_is (site ∷ sites) voters = λ i. cons_option ((ap (option_map (voter_with site)) (ticket_at voters site) ∙ found site voters) i) (order_is sites voters i)

-- ---- a map whose voters are all at these sites is that of its list
module _ (m : Voters) where
  listed_at : (sites : List (List ℕ)) (q : List ℕ) → at_site q (listed sites m) ≡ (if list_any (λ site. pointwise nat_eq site q) sites then keyed.get m q else None)
  listed_at [] q = refl
  listed_at (site ∷ sites) q = go (keyed.get m site) refl (pointwise nat_eq site q) refl (listed_at sites q)
    where
      among : Bool
      among = list_any (λ other. pointwise nat_eq other q) sites

      either : (b : Bool) → keyed.get m q ≡ None → (if b then keyed.get m q else None) ≡ keyed.get m q
      either true none = refl
      either false none = sym none

      go : (o : Option Ticket) → keyed.get m site ≡ o → (b : Bool) → pointwise nat_eq site q ≡ b → at_site q (listed sites m) ≡ (if among then keyed.get m q else None) →
          at_site q (cons_option (option_map (voter_with site) o) (listed sites m)) ≡ (if b || among then keyed.get m q else None)
      go None e true s rest = rest ∙ either among (ap (keyed.get m) (sym (text_is site q s)) ∙ e)
      go None e false s rest = rest
      go (Some t) e true s rest = ap (λ c. cond c (Some t) (at_site q (listed sites m))) (same_site q site ∙ s) ∙ sym e ∙ ap (keyed.get m) (text_is site q s)
      go (Some t) e false s rest = ap (λ c. cond c (Some t) (at_site q (listed sites m))) (same_site q site ∙ s) ∙ rest

  pub listed_back : (sites : List (List ℕ)) → ((q : List ℕ) → list_any (λ site. pointwise nat_eq site q) sites ≡ false → keyed.get m q ≡ None) → by_site (listed sites m) ≡ m
  listed_back sites all = keyed.same_map nat_list_cmp_total (slice_cmp-IsAntisymmetric nat_cmp-IsAntisymmetric) (by_site (listed sites m)) m
      (λ q. ticket_at (listed sites m) q ∙ listed_at sites q ∙ go q (list_any (λ site. pointwise nat_eq site q) sites) refl)
    where
      go : (q : List ℕ) (b : Bool) → list_any (λ site. pointwise nat_eq site q) sites ≡ b → (if b then keyed.get m q else None) ≡ keyed.get m q
      go q true e = refl
      go q false e = sym (all q e)

-- there is no voter elsewhere
outside : (sites : List (List ℕ)) (voters : List Voter) → are_at sites voters ≡ true → (q : List ℕ) → list_any (λ site. pointwise nat_eq site q) sites ≡ false → keyed.get (by_site voters) q ≡ None
outside sites voters at q none = ticket_at voters q ∙ go voters at
  where
    apart : (v : Voter) → list_any (λ site. pointwise nat_eq site v.site) sites ≡ true → (b : Bool) → pointwise nat_eq v.site q ≡ b → b ≡ false
    apart v there true e = clash there (ap (λ s. list_any (λ site. pointwise nat_eq site s) sites) (text_is v.site q e) ∙ none)
    apart v there false e = refl

    go : (vs : List Voter) → are_at sites vs ≡ true → at_site q vs ≡ None
    go [] at = refl
    go (v ∷ vs) at = ap (λ b. cond b (Some v.ticket) (at_site q vs)) (same_site q v.site ∙ apart v (left_true _ _ at) (pointwise nat_eq v.site q) refl) ∙ go vs (right_true _ _ at)

pub back : (sites : List (List ℕ)) (voters : List Voter) → are_at sites voters ≡ true → by_site (listed sites (by_site voters)) ≡ by_site voters
back sites voters at = listed_back (by_site voters) sites (outside sites voters at)

-- ---- rows
pub rows_voters : (sites : List (List ℕ)) (rows : List CommitRow) (j : Txn) → voters_in j (map (row_in_order sites) rows) ≡ option_map (in_order sites) (voters_in j rows)
rows_voters sites [] j = refl
rows_voters sites (row ∷ rows) j = go (is_txn j row.txn) (rows_voters sites rows j)
  where
    go : (b : Bool) → voters_in j (map (row_in_order sites) rows) ≡ option_map (in_order sites) (voters_in j rows) →
        (if b then Some (in_order sites row.voters) else voters_in j (map (row_in_order sites) rows)) ≡ option_map (in_order sites) (if b then Some row.voters else voters_in j rows)
    go true rest = refl
    go false rest = rest

pub rows_txns : (sites : List (List ℕ)) (rows : List CommitRow) → map (λ row. row.txn) (map (row_in_order sites) rows) ≡ map (λ row. row.txn) rows
rows_txns sites [] = refl
rows_txns sites (row ∷ rows) = ap (λ txns. row.txn ∷ txns) (rows_txns sites rows)

pub row_is_at : (sites : List (List ℕ)) (rows : List CommitRow) → rows_are_at sites rows ≡ true → (j : Txn) (voters : List Voter) → voters_in j rows ≡ Some voters → are_at sites voters ≡ true
row_is_at sites [] at j voters e = cc
row_is_at sites (row ∷ rows) at j voters e = go (is_txn j row.txn) e (row_is_at sites rows (right_true _ _ at) j voters)
  where
    go : (b : Bool) → (if b then Some row.voters else voters_in j rows) ≡ Some voters → (voters_in j rows ≡ Some voters → are_at sites voters ≡ true) → are_at sites voters ≡ true
    go true e rest = let same : row.voters ≡ voters = cc in subst (λ vs. are_at sites vs ≡ true) same (left_true _ _ at)
    go false e rest = rest e

pub ordered_rows : (sites : List (List ℕ)) (rows : List CommitRow) → rows_are_at sites rows ≡ true → AllByRecursion (λ row. AreInOrder sites row.voters) (map (row_in_order sites) rows)
ordered_rows sites [] at = tt
ordered_rows sites (row ∷ rows) at = (
  subst (λ vs. AreInOrder sites vs) (order_is sites row.voters) (ap (listed sites) (back sites row.voters (left_true _ _ at))),
  ordered_rows sites rows (right_true _ _ at),
)

-- ---- the voters of a decision
skipped : (v : Voter) (voters : List Voter) (sites : List (List ℕ)) → AllByRecursion (λ other. (v.site ≡ other) → ⊥) sites → in_order sites (v ∷ voters) ≡ in_order sites voters
skipped v voters [] apart = refl
skipped v voters (site ∷ sites) apart = λ i. cons_option (ap (λ b. cond b (Some v) (find (is_of site) voters)) (unlike (is_of site v) refl) i) (skipped v voters sites apart.1 i)
  where
    unlike : (b : Bool) → pointwise nat_eq v.site site ≡ b → b ≡ false
    unlike true e = absurd (apart.0 (text_is v.site site e))
    unlike false e = refl

absent : (site : List ℕ) (voters : List Voter) → AllByRecursion (λ other. pointwise nat_eq site other ≡ false) (map (λ voter. voter.site) voters) → find (is_of site) voters ≡ None
absent site [] apart = refl
absent site (v ∷ voters) apart = ap (λ b. cond b (Some v) (find (is_of site) voters)) (nat_list_eq_equiv.symm v.site site ∙ apart.0) ∙ absent site voters apart.1

decided : (participants : List Participant) → AreDistinct (sites_of participants) → in_order (sites_of participants) (voters_among participants) ≡ voters_among participants
decided [] apart = refl
decided (s ∷ participants) apart = go s.visited s.vote s.ticket (decided participants apart.1)
  where
    left : List Voter
    left = voters_among participants

    IsDone : Option Voter → Type 0
    IsDone o = in_order (s.site ∷ sites_of participants) (cons_option o left) ≡ cons_option o left

    nobody : in_order (sites_of participants) left ≡ left → IsDone None
    nobody rest = λ i. cons_option (absent s.site left (others_apart s.site participants apart.0) i) (rest i)

    go : (b : Bool) (vote : Option Vote) (ticket : Option Ticket) → in_order (sites_of participants) left ≡ left → IsDone (if b && is_yes vote then option_map (voter_with s.site) ticket else None)
    go false vote ticket rest = nobody rest
    go true None ticket rest = nobody rest
    go true (Some No) ticket rest = nobody rest
    go true (Some Read) ticket rest = nobody rest
    go true (Some Yes) None rest = nobody rest
    go true (Some Yes) (Some k) rest =
        let v = voter_with s.site k in
        λ i. cons_option (if_true (is_of s.site v) (Some v) (find (is_of s.site) left) (text_self s.site) i) ((skipped v left (sites_of participants) apart.0 ∙ rest) i)

pub decided_in_order : (participants : List Participant) → AreDistinct (sites_of participants) → AreInOrder (sites_of participants) (voters_among participants)
decided_in_order participants apart = order_is (sites_of participants) (voters_among participants) ∙ decided participants apart
