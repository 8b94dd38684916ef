-- How many operations were sent to each site.
use Rattle.std.proofs.Common.{◌≡◌, refl, sym, ap, ◌∙◌, subst, ℕ, suc, ◌^◌, ◌<◌, ◌≤◌, nat_eq, nat_le, nat_lt, Bool, true, false, ◌||◌, ◌&&◌, not, List, [], ◌∷◌, map, filter, length, Option, Some, None, is_some, if◌then◌else◌, inl, inr, arith}
use Rattle.std.specs.Cmp.Lexicographic.{pointwise}
use Rattle.std.specs.List.{list_all, list_any}
use Rattle.store.specs.DeskContent.{DeskContent}
use Rattle.store.specs.declared.name.Ticket.{Ticket}
use Rattle.store.specs.declared.name.Txn.{Txn}
use Rattle.protocol.specs.Desk as desk
use Rattle.protocol.specs.Language.{Name, put, same}
use Rattle.protocol.specs.Letters.{txn_name}
use Rattle.protocol.specs.Parts.{In}
use Rattle.desk.specs.declared.fetches.Ask.{Ask}
use Rattle.desk.specs.declared.participant.Participant.{Participant}
use Rattle.desk.specs.declared.transaction.Unsent.{Unsent}
use Rattle.desk.specs.Database.{Database, language}
use Rattle.desk.specs.Opening.{visits}
use Rattle.desk.specs.Send.{AreShort, IsPast, ask_goes, asks_go, next_number, one_more, write_goes, writes_go}
use Rattle.desk.specs.Participants.{changed_at, is_at, nowhere, sites_of, participant_in, with_ticket}
use Rattle.desk.specs.State.{Fits, VolatileState, desk_of}
use Rattle.desk.proofs.Opened.{kept_by_visits}
use Rattle.desk.proofs.Operations.{more_sent, ticket_there}
use Rattle.desk.proofs.Participants.{text_is, text_self}
use Rattle.desk.proofs.Txns.{same_txn, txn_self}

module _ (site : List ℕ) (ticket : Ticket) (participants : List Participant) (there : (participant_in site participants).ticket ≡ Some ticket) where
  -- one more was sent
  sent_is : (j : List ℕ) → (participant_in j (one_more site participants)).sent ≡ (if pointwise nat_eq j site then suc (participant_in site participants).sent else (participant_in j participants).sent)
  sent_is j = more_sent site participants (ticket_there site ticket participants there) j

  pub more_short : next_number site participants < 2 ^ 63 → AreShort participants → AreShort (one_more site participants)
  more_short few short j = subst (λ n. n < 2 ^ 63) (sym (sent_is j)) (go (pointwise nat_eq j site))
    where
      go : (b : Bool) → (if b then suc (participant_in site participants).sent else (participant_in j participants).sent) < 2 ^ 63
      go true = few
      go false = short j

  pub more_rises : (j : List ℕ) → (participant_in j participants).sent ≤ (participant_in j (one_more site participants)).sent
  more_rises j = subst (λ n. (participant_in j participants).sent ≤ n) (sym (sent_is j)) (go (pointwise nat_eq j site) refl)
    where
      go : (b : Bool) → pointwise nat_eq j site ≡ b → (participant_in j participants).sent ≤ (if b then suc (participant_in site participants).sent else (participant_in j participants).sent)
      go true e = subst (λ x. (participant_in x participants).sent ≤ suc (participant_in site participants).sent) (sym (text_is j site e)) (omega arith)
      go false e = omega arith

  pub more_past : 2 ^ 63 ≤ next_number site participants → IsPast (one_more site participants)
  more_past many = record {
    site = site;
    past = subst (λ n. 2 ^ 63 ≤ n) (sym (sent_is site ∙ ap (λ b. if b then suc (participant_in site participants).sent else (participant_in site participants).sent) (text_self site))) many;
  }

-- what goes out only adds
module _ (txn : Txn) where
  pub asks_rise : (asks : List Ask) (participants : List Participant) (j : List ℕ) → (participant_in j participants).sent ≤ (participant_in j (asks_go txn asks participants).participants).sent
  asks_rise [] participants j = omega arith
  asks_rise (ask ∷ asks) participants j = go (λ now. asks_rise asks now j) ask.number (participant_in ask.site participants).ticket refl
    where
      go : ((now : List Participant) → (participant_in j now).sent ≤ (participant_in j (asks_go txn asks now).participants).sent) → (m : Option ℕ) (k : Option Ticket) → (participant_in ask.site participants).ticket ≡ k → (participant_in j participants).sent ≤ (participant_in j (ask_goes txn ask m k participants (asks_go txn asks)).participants).sent
      go below None (Some k) there = let one = more_rises ask.site k participants there j in let rest = below (one_more ask.site participants) in omega (arith, one, rest)
      go below None None there = below participants
      go below (Some m) None there = below participants
      go below (Some m) (Some k) there = below participants

  pub writes_rise : (ws : List Unsent) (participants : List Participant) (j : List ℕ) → (participant_in j participants).sent ≤ (participant_in j (writes_go txn ws participants).participants).sent
  writes_rise [] participants j = omega arith
  writes_rise (w ∷ ws) participants j = go (λ now. writes_rise ws now j) (participant_in w.site participants).ticket refl
    where
      go : ((now : List Participant) → (participant_in j now).sent ≤ (participant_in j (writes_go txn ws now).participants).sent) → (k : Option Ticket) → (participant_in w.site participants).ticket ≡ k → (participant_in j participants).sent ≤ (participant_in j (write_goes txn w k participants (writes_go txn ws)).participants).sent
      go below (Some k) there = let one = more_rises w.site k participants there j in let rest = below (one_more w.site participants) in omega (arith, one, rest)
      go below None there = below participants

  risen : (one two : List Participant) → ((j : List ℕ) → (participant_in j one).sent ≤ (participant_in j two).sent) → IsPast one → IsPast two
  risen one two rises over = record { site = over.site; past = let more = rises over.site in let past = over.past in omega (arith, more, past) }

  -- the first is past the limit, so all are
  pub first_ask : (ask : Ask) (rest : List Ask) (participants : List Participant) → IsPast (asks_go txn (ask ∷ []) participants).participants → IsPast (asks_go txn (ask ∷ rest) participants).participants
  first_ask ask rest participants over = go ask.number (participant_in ask.site participants).ticket over
    where
      go : (m : Option ℕ) (k : Option Ticket) → IsPast (ask_goes txn ask m k participants (asks_go txn [])).participants → IsPast (ask_goes txn ask m k participants (asks_go txn rest)).participants
      go None (Some k) over = risen _ _ (asks_rise rest (one_more ask.site participants)) over
      go None None over = risen _ _ (asks_rise rest participants) over
      go (Some m) None over = risen _ _ (asks_rise rest participants) over
      go (Some m) (Some k) over = risen _ _ (asks_rise rest participants) over

  pub first_write : (w : Unsent) (rest : List Unsent) (participants : List Participant) → IsPast (writes_go txn (w ∷ []) participants).participants → IsPast (writes_go txn (w ∷ rest) participants).participants
  first_write w rest participants over = go (participant_in w.site participants).ticket over
    where
      go : (k : Option Ticket) → IsPast (write_goes txn w k participants (writes_go txn [])).participants → IsPast (write_goes txn w k participants (writes_go txn rest)).participants
      go (Some k) over = risen _ _ (writes_rise rest (one_more w.site participants)) over
      go None over = risen _ _ (writes_rise rest participants) over

  -- the one that is past it
  pub ask_past : (ask : Ask) (ticket : Ticket) (participants : List Participant) → ask.number ≡ None → (participant_in ask.site participants).ticket ≡ Some ticket → 2 ^ 63 ≤ next_number ask.site participants → IsPast (asks_go txn (ask ∷ []) participants).participants
  ask_past ask ticket participants fresh there many = subst (λ m. IsPast (ask_goes txn ask m (participant_in ask.site participants).ticket participants (asks_go txn [])).participants) (sym fresh)
      (subst (λ k. IsPast (ask_goes txn ask None k participants (asks_go txn [])).participants) (sym there) (more_past ask.site ticket participants there many))

  pub write_past : (w : Unsent) (ticket : Ticket) (participants : List Participant) → (participant_in w.site participants).ticket ≡ Some ticket → 2 ^ 63 ≤ next_number w.site participants → IsPast (writes_go txn (w ∷ []) participants).participants
  write_past w ticket participants there many = subst (λ k. IsPast (write_goes txn w k participants (writes_go txn [])).participants) (sym there) (more_past w.site ticket participants there many)

-- ---- Opens and tickets count nothing
pub visits_short : (sites : List (List ℕ)) (participants : List Participant) → AreShort participants → AreShort (visits sites participants)
visits_short sites participants short j = subst (λ n. n < 2 ^ 63) (sym (kept_by_visits sites participants (λ s. s.sent) (λ s. refl) j)) (short j)

sent_kept : (site : List ℕ) (ticket : Option Ticket) (j : List ℕ) (participants : List Participant) → (participant_in j (map (changed_at site (with_ticket ticket)) participants)).sent ≡ (participant_in j participants).sent
sent_kept site ticket j [] = refl
sent_kept site ticket j (s ∷ participants) = at (is_at site s) (sent_kept site ticket j participants)
  where
    at : (b : Bool) → (participant_in j (map (changed_at site (with_ticket ticket)) participants)).sent ≡ (participant_in j participants).sent →
        (participant_in j ((if b then with_ticket ticket s else s) ∷ map (changed_at site (with_ticket ticket)) participants)).sent ≡ (participant_in j (s ∷ participants)).sent
    at true rest = go (is_at j s) rest
      where
        go : (b : Bool) → (participant_in j (map (changed_at site (with_ticket ticket)) participants)).sent ≡ (participant_in j participants).sent → (if b then with_ticket ticket s else participant_in j (map (changed_at site (with_ticket ticket)) participants)).sent ≡ (if b then s else participant_in j participants).sent
        go true rest = refl
        go false rest = rest
    at false rest = go (is_at j s) rest
      where
        go : (b : Bool) → (participant_in j (map (changed_at site (with_ticket ticket)) participants)).sent ≡ (participant_in j participants).sent → (if b then s else participant_in j (map (changed_at site (with_ticket ticket)) participants)).sent ≡ (if b then s else participant_in j participants).sent
        go true rest = refl
        go false rest = rest

pub ticket_short : (site : List ℕ) (ticket : Option Ticket) (participants : List Participant) → AreShort participants → AreShort (map (changed_at site (with_ticket ticket)) participants)
ticket_short site ticket participants short j = subst (λ n. n < 2 ^ 63) (sym (sent_kept site ticket j participants)) (short j)

-- ---- the limit, as the protocol has it
lt_true : (m n : ℕ) → nat_lt m n ≡ true → m < n
lt_true m n is = grind (arith)

true_lt : (m n : ℕ) → m < n → nat_lt m n ≡ true
true_lt m n lt = grind (arith)

not_lt : (m n : ℕ) → n ≤ m → nat_lt m n ≡ false
not_lt m n le = grind (arith)

gone : (j : List ℕ) (participants : List Participant) → list_any (is_at j) participants ≡ false → participant_in j participants ≡ nowhere j
gone j [] e = refl
gone j (s ∷ participants) e = go (is_at j s) e (gone j participants)
  where
    go : (b : Bool) → (b || list_any (is_at j) participants) ≡ false → (list_any (is_at j) participants ≡ false → participant_in j participants ≡ nowhere j) → (if b then s else participant_in j participants) ≡ nowhere j
    go true e rest = cc
    go false e rest = rest e

-- what holds of all sites holds of one that has a participant
of_participant : (p : List ℕ → Bool) (j : List ℕ) (participants : List Participant) → list_any (is_at j) participants ≡ true → list_all p (sites_of participants) ≡ true → p j ≡ true
of_participant p j [] there all = cc
of_participant p j (s ∷ participants) there all = go (is_at j s) refl there (left (p s.site) (list_all p (sites_of participants)) all) (of_participant p j participants)
  where
    left : (a b : Bool) → (a && b) ≡ true → (a ≡ true) × (b ≡ true)
    left true b e = (refl, e)
    left false b e = cc

    go : (b : Bool) → pointwise nat_eq s.site j ≡ b → (b || list_any (is_at j) participants) ≡ true → (p s.site ≡ true) × (list_all p (sites_of participants) ≡ true) → (list_any (is_at j) participants ≡ true → list_all p (sites_of participants) ≡ true → p j ≡ true) → p j ≡ true
    go true e there both rest = subst (λ x. p x ≡ true) (text_is s.site j e) both.0
    go false e there both rest = rest there both.1

pub short_of : (participants : List Participant) → list_all (λ a. nat_lt (participant_in a participants).sent (2 ^ 63)) (sites_of participants) ≡ true → AreShort participants
short_of participants all j = go (list_any (is_at j) participants) refl
  where
    go : (b : Bool) → list_any (is_at j) participants ≡ b → (participant_in j participants).sent < 2 ^ 63
    go true e = lt_true _ _ (of_participant (λ a. nat_lt (participant_in a participants).sent (2 ^ 63)) j participants e all)
    go false e = subst (λ (s : Participant). s.sent < 2 ^ 63) (sym (gone j participants e)) (omega arith)

pub of_short : (participants : List Participant) → AreShort participants → (sites : List (List ℕ)) → list_all (λ a. nat_lt (participant_in a participants).sent (2 ^ 63)) sites ≡ true
of_short participants short [] = refl
of_short participants short (a ∷ sites) = ap (λ b. b && list_all (λ a. nat_lt (participant_in a participants).sent (2 ^ 63)) sites) (true_lt _ _ (short a)) ∙ of_short participants short sites

pub past_short : (participants : List Participant) → IsPast participants → list_all (λ a. nat_lt (participant_in a participants).sent (2 ^ 63)) (sites_of participants) ≡ false
past_short participants over = go (list_all (λ a. nat_lt (participant_in a participants).sent (2 ^ 63)) (sites_of participants)) refl
  where
    go : (b : Bool) → list_all (λ a. nat_lt (participant_in a participants).sent (2 ^ 63)) (sites_of participants) ≡ b → b ≡ false
    go true e = let short = short_of participants e over.site in let past = over.past in absurd (omega (arith, short, past))
    go false e = refl

-- ---- a step past the limit
not_every : (p q : Name → Bool) (k : Txn) (txns : List Txn) → q (txn_name k) ≡ true → p (txn_name k) ≡ false → In k txns → list_all p (filter q (map txn_name txns)) ≡ false
not_every p q k [] passes fails there = absurd (there)
not_every p q k (j ∷ txns) passes fails (inl is) = ap (λ (t : Txn). list_all p (if q (txn_name t) then txn_name t ∷ filter q (map txn_name txns) else filter q (map txn_name txns))) (sym is)
    ∙ ap (λ b. list_all p (if b then txn_name k ∷ filter q (map txn_name txns) else filter q (map txn_name txns))) passes ∙ ap (λ b. b && list_all p (filter q (map txn_name txns))) fails
not_every p q k (j ∷ txns) passes fails (inr there) = go (q (txn_name j)) (not_every p q k txns passes fails there)
  where
    fail : (a b : Bool) → b ≡ false → (a && b) ≡ false
    fail true b e = e
    fail false b e = refl

    go : (b : Bool) → list_all p (filter q (map txn_name txns)) ≡ false → list_all p (if b then txn_name j ∷ filter q (map txn_name txns) else filter q (map txn_name txns)) ≡ false
    go true rest = fail (p (txn_name j)) _ rest
    go false rest = rest

pub past_limit : (db : Database) (kept : DeskContent) (table : VolatileState) → Fits db kept table → (k : Txn) → is_some (table.standing k) ≡ true → (x : desk.Txn (language db)) → desk.is_unknown x ≡ false → desk.is_short_txn x ≡ false →
    desk.is_desk_within (desk.desk_after (desk_of db table) (txn_name k) x) ≡ false
past_limit db kept table fits k here x known long =
    let after = desk.desk_after (desk_of db table) (txn_name k) x in
    over (nat_lt table.life (2 ^ 63)) (nat_lt table.number (2 ^ 63)) (list_all (λ t. desk.is_short_txn (after.txn t)) after.known) (nat_le (length (filter (λ t. desk.is_undecided (after.txn t)) after.known)) 256) (not_all table.txns (fits.listed k here))
  where
    at : Name → desk.Txn (language db)
    at = put same (txn_name k) x (desk_of db table).txn

    at_k : at (txn_name k) ≡ x
    at_k = ap (λ b. if b then x else (desk_of db table).txn (txn_name k)) (same_txn k k ∙ txn_self k)

    over : (a b c d : Bool) → c ≡ false → (((a && b) && c) && d) ≡ false
    over true true c d e = ap (λ z. z && d) e
    over true false c d e = refl
    over false b c d e = refl

    not_all : (txns : List Txn) → In k txns → list_all (λ t. desk.is_short_txn (at t)) (filter (λ t. not (desk.is_unknown (at t))) (map txn_name txns)) ≡ false
    not_all txns there = not_every (λ t. desk.is_short_txn (at t)) (λ t. not (desk.is_unknown (at t))) k txns (ap (λ y. not (desk.is_unknown y)) at_k ∙ ap not known) (ap desk.is_short_txn at_k ∙ long) there
