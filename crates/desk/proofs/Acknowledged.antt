-- Voters and acknowledgements, as the protocol has them.
use Rattle.std.proofs.Common.{◌≡◌, refl, sym, ap, ◌∙◌, subst, ℕ, suc, nat_eq, Bool, true, false, not, ◌&&◌, ◌||◌, List, [], ◌∷◌, ◌++◌, map, Option, Some, if◌then◌else◌}
use Rattle.std.specs.List.{list_any}
use Rattle.std.proofs.lemmas.List.{map-append}
use Rattle.std.specs.Cmp.{tied_itself}
use Rattle.std.specs.Cmp.Lexicographic.{pointwise}
use Rattle.std.specs.Ordering.{is_eq}
use Rattle.std.specs.declared.cmp.Ordering.{Ordering}
use Rattle.std.specs.declared.cmp.Ordering.TheVariants.{Less, Equal, Greater}
use Rattle.store.specs.declared.commit.Voter.{Voter}
use Rattle.store.specs.declared.name.Ticket.{Ticket}
use Rattle.store.specs.declared.name.Txn.{Txn}
use Rattle.store.specs.DeskContent.{DeskContent, Voters, is_txn, IsUnchanged}
use Rattle.store.specs.Orders.{ticket_cmp_total, ticket_cmp-IsAntisymmetric, txn_cmp-IsAntisymmetric}
use Rattle.protocol.specs.Desk as desk
use Rattle.protocol.specs.Language.{Name, same}
use Rattle.protocol.specs.Letters.{name_of, ticket_of}
use Rattle.protocol.proofs.Basics.{if_false, same_law}
use Rattle.desk.specs.Database.{Database, language}
use Rattle.desk.specs.declared.transaction.Committed.{Committed}
use Rattle.desk.specs.declared.transaction.TxnState.{TxnState}
use Rattle.desk.specs.declared.transaction.TxnState.TheVariants as standing
use Rattle.desk.specs.declared.transition.Transition.{Transition}
use Rattle.desk.specs.Transaction.{txn_of, voter_of}
use Rattle.desk.specs.Transition.{IsTransition}
use Rattle.desk.specs.Acknowledge.{Keeps, are_acked, has_voter, is_new_ack, is_ticket, is_voter, voter_with, with_ack}

-- tests that follow from each other are the same
pub same_bool : (a b : Bool) → (a ≡ true → b ≡ true) → (b ≡ true → a ≡ true) → a ≡ b
same_bool true b to from = sym (to refl)
same_bool false true to from = from refl
same_bool false false to from = refl

pub is_equal : (r : Ordering) → is_eq r ≡ true → r ≡ Equal
is_equal Less e = cc
is_equal Equal e = refl
is_equal Greater e = cc

ticket_is : (a b : Ticket) → is_ticket a b ≡ true → a ≡ b
ticket_is a b e = ticket_cmp-IsAntisymmetric a b (is_equal _ e)

ticket_self : (a b : Ticket) → a ≡ b → is_ticket a b ≡ true
ticket_self a b e = subst (λ c. is_ticket a c ≡ true) e (ap is_eq (tied_itself ticket_cmp_total a))

-- tickets are the same where their names are
pub ticket_same : (a b : Ticket) → same (name_of a) (name_of b) ≡ is_ticket a b
ticket_same a b = same_bool _ _ (λ e. ticket_self a b (ap ticket_of ((same_law (name_of a) (name_of b)).0 e))) (λ e. (same_law (name_of a) (name_of b)).1 (ap name_of (ticket_is a b e)))

module _ (db : Database) where
  pair_is : (site : List ℕ) (k : Ticket) (v : Voter) → desk.is_pair (language db) site (name_of k) (voter_of v) ≡ is_voter site k v
  pair_is site k v = ap (λ b. pointwise nat_eq v.site site && b) (ticket_same v.ticket k)

  pub has_is : (voters : List Voter) (site : List ℕ) (k : Ticket) → list_any (desk.is_pair (language db) site (name_of k)) (map voter_of voters) ≡ has_voter voters site k
  has_is [] site k = refl
  has_is (v ∷ voters) site k = ap (λ b. b || list_any (desk.is_pair (language db) site (name_of k)) (map voter_of voters)) (pair_is site k v) ∙ ap (λ b. is_voter site k v || b) (has_is voters site k)

  pub acked_is : (voters acked : List Voter) → desk.are_acked (language db) (map voter_of voters) (map voter_of acked) ≡ are_acked voters acked
  acked_is [] acked = refl
  acked_is (v ∷ voters) acked = ap (λ b. b && desk.are_acked (language db) (map voter_of voters) (map voter_of acked)) (has_is acked v.site v.ticket) ∙ ap (λ b. has_voter acked v.site v.ticket && b) (acked_is voters acked)

  -- a step is one that is the same
  pub turn_as : (txn : Txn) (old : Option TxnState) (turn : Transition) (one other : desk.Transition (language db)) → one ≡ other → IsTransition db txn old turn other → IsTransition db txn old turn one
  turn_as txn old turn one other same is = subst (λ w. IsTransition db txn old turn w) (sym same) is

  -- an acknowledgement
  module _ (c : Committed) (site : List ℕ) (k : Ticket) where
    abbrev more : List Voter
    more = c.acked ++ voter_with site k ∷ []

    abbrev row : List Voter → desk.Transition (language db)
    row acked = desk.stays (desk.Row (map voter_of c.voters) (map voter_of acked))

    abbrev acks : Bool → desk.Transition (language db)
    acks kept = desk.on_ack {L = language db} (map voter_of c.voters) (map voter_of c.acked) (site, name_of k) kept

    abbrev table : Bool → Bool → Bool → List (List ℕ × Name) → desk.Transition (language db)
    table new all kept acked = if new then (if all then (if kept then desk.stays desk.Unknown else row c.acked) else desk.stays (desk.Row (map voter_of c.voters) acked)) else row c.acked

    more_is : map voter_of c.acked ++ (site, name_of k) ∷ [] ≡ map voter_of more
    more_is = sym (map-append voter_of c.acked (voter_with site k ∷ []))

    pub ack_is : (kept : Bool) → acks kept ≡ table (is_new_ack c.voters c.acked site k) (are_acked c.voters more) kept (map voter_of more)
    ack_is kept =
        ap (λ b. table (b && not (list_any (desk.is_pair (language db) site (name_of k)) (map voter_of c.acked))) (desk.are_acked (language db) (map voter_of c.voters) (map voter_of c.acked ++ (site, name_of k) ∷ [])) kept (map voter_of c.acked ++ (site, name_of k) ∷ [])) (has_is c.voters site k)
        ∙ ap (λ b. table (has_voter c.voters site k && not b) (desk.are_acked (language db) (map voter_of c.voters) (map voter_of c.acked ++ (site, name_of k) ∷ [])) kept (map voter_of c.acked ++ (site, name_of k) ∷ [])) (has_is c.acked site k)
        ∙ ap (λ l. table (is_new_ack c.voters c.acked site k) (desk.are_acked (language db) (map voter_of c.voters) l) kept l) more_is
        ∙ ap (λ b. table (is_new_ack c.voters c.acked site k) b kept (map voter_of more)) (acked_is c.voters more)

    abbrev here : Option TxnState
    here = Some (standing.Committed c)

    -- one that comes again, or of nobody
    pub old_ack : (txn : Txn) (turn : Transition) → is_new_ack c.voters c.acked site k ≡ false → IsTransition db txn here turn (row c.acked) → IsTransition db txn here turn (acks turn.kept)
    old_ack txn turn new is = turn_as txn here turn _ _ (ack_is turn.kept ∙ ap (λ b. table b (are_acked c.voters more) turn.kept (map voter_of more)) new) is

    -- one that is not the last
    pub one_ack : (txn : Txn) (turn : Transition) (m : Committed) → m ≡ with_ack c site k → is_new_ack c.voters c.acked site k ≡ true → are_acked m.voters m.acked ≡ false →
        IsTransition db txn here turn (desk.stays (txn_of db (Some (standing.Committed m)))) → IsTransition db txn here turn (acks turn.kept)
    one_ack txn turn m same new all is =
        turn_as txn here turn _ _ (ack_is turn.kept ∙ ap (λ b. table b (are_acked c.voters more) turn.kept (map voter_of more)) new ∙ ap (λ b. table true b turn.kept (map voter_of more)) (ap (λ x. are_acked x.voters x.acked) (sym same) ∙ all)
        ∙ ap (λ x. desk.stays (txn_of db (Some (standing.Committed x)))) (sym same)) is

    -- the last
    pub last_ack : (txn : Txn) (turn : Transition) (m : Committed) → m ≡ with_ack c site k → is_new_ack c.voters c.acked site k ≡ true → are_acked m.voters m.acked ≡ true →
        IsTransition db txn here turn (if turn.kept then desk.stays desk.Unknown else row c.acked) → IsTransition db txn here turn (acks turn.kept)
    last_ack txn turn m same new all is =
        turn_as txn here turn _ _ (ack_is turn.kept ∙ ap (λ b. table b (are_acked c.voters more) turn.kept (map voter_of more)) new ∙ ap (λ b. table true b turn.kept (map voter_of more)) (ap (λ x. are_acked x.voters x.acked) (sym same) ∙ all)) is

    -- the last, where the row stays
    pub lost_ack : (txn : Txn) (turn : Transition) (m : Committed) → m ≡ with_ack c site k → is_new_ack c.voters c.acked site k ≡ true → are_acked m.voters m.acked ≡ true → turn.kept ≡ false →
        IsTransition db txn here turn (row c.acked) → IsTransition db txn here turn (acks turn.kept)
    lost_ack txn turn m same new all kept is = last_ack txn turn m same new all (subst (λ b. IsTransition db txn here turn (if b then desk.stays desk.Unknown else row c.acked)) (sym kept) is)

-- ---- what the store keeps
pub txn_is : (a b : Txn) → is_txn a b ≡ true → a ≡ b
txn_is a b e = txn_cmp-IsAntisymmetric a b (is_equal _ e)

-- nothing has changed
pub keeps_same : (txn : Txn) (voters : Option Voters) (raised : Bool) (kept after : DeskContent) → raised ≡ false → kept.commits txn ≡ voters → IsUnchanged kept after → Keeps txn voters raised kept after
keeps_same txn voters raised kept after quiet is same = record {
  commits = λ other. same.commits other ∙ go other (is_txn txn other) refl;
  life = same.life;
  version = same.version ∙ sym (if_false raised (suc kept.version) kept.version quiet);
}
  where
    go : (other : Txn) (b : Bool) → is_txn txn other ≡ b → kept.commits other ≡ (if b then voters else kept.commits other)
    go other true e = subst (λ t. kept.commits t ≡ voters) (txn_is txn other e) is
    go other false e = refl

pub unchanged : (kept : DeskContent) → IsUnchanged kept kept
unchanged kept = record { commits = λ txn. refl; life = refl; version = refl }
