-- Participants that are changed: one of them, or all.
use Rattle.std.proofs.Common.{◌≡◌, refl, sym, ap, ◌∙◌, subst, ℕ, nat_eq, Bool, true, false, List, [], ◌∷◌, map, Some, None, if◌then◌else◌, ◌||◌}
use Rattle.std.specs.Cmp.Lexicographic.{pointwise}
use Rattle.std.specs.List.{list_any}
use Rattle.std.specs.Option.{option_map}
use Rattle.store.specs.declared.name.Ticket.{Ticket}
use Rattle.store.specs.declared.reply.Vote.{Vote}
use Rattle.reader.specs.Printable.{AreDistinct}
use Rattle.protocol.specs.Desk as desk
use Rattle.protocol.specs.Language.{put}
use Rattle.protocol.specs.Letters.{name_of, vote_of}
use Rattle.protocol.proofs.Basics.{either, if_false}
use Rattle.desk.specs.declared.participant.Participant.{Participant}
use Rattle.desk.specs.declared.transaction.Stage.{Stage}
use Rattle.desk.specs.declared.transaction.Stage.TheVariants as stage
use Rattle.desk.specs.Database.{Database}
use Rattle.desk.specs.Participants.{changed_at, is_at, nowhere, sites_of, participant_in, with_ticket, with_vote}
use Rattle.desk.specs.Transaction.{stage_of, undecided_of, votes_of}
use Rattle.desk.specs.Transition.{AreParticipants, voting}
use Rattle.desk.proofs.Participants.{text_is}

-- ---- the sites stay
pub same_sites : (f : Participant → Participant) → ((s : Participant) → (f s).site ≡ s.site) → (participants : List Participant) → sites_of (map f participants) ≡ sites_of participants
same_sites f keeps [] = refl
same_sites f keeps (s ∷ participants) = λ i. keeps s i ∷ same_sites f keeps participants i

pub are_still : (db : Database) (f : Participant → Participant) → ((s : Participant) → (f s).site ≡ s.site) → (participants : List Participant) → AreParticipants db participants → AreParticipants db (map f participants)
are_still db f keeps participants are = record {
  sites = same_sites f keeps participants ∙ are.sites;
  distinct = subst AreDistinct (sym (same_sites f keeps participants)) are.distinct;
}

-- ---- all are changed alike
pub participant_mapped : (f : Participant → Participant) → ((s : Participant) → (f s).site ≡ s.site) → ((site : List ℕ) → f (nowhere site) ≡ nowhere site) → (site : List ℕ) (participants : List Participant) → participant_in site (map f participants) ≡ f (participant_in site participants)
participant_mapped f keeps none site [] = sym (none site)
participant_mapped f keeps none site (s ∷ participants) = ap (λ a. if pointwise nat_eq a site then f s else participant_in site (map f participants)) (keeps s) ∙ go (is_at site s) (participant_mapped f keeps none site participants)
  where
    go : (b : Bool) → participant_in site (map f participants) ≡ f (participant_in site participants) → (if b then f s else participant_in site (map f participants)) ≡ f (if b then s else participant_in site participants)
    go true rest = refl
    go false rest = rest

-- ---- one is changed
module _ (f : Participant → Participant) (keeps : (s : Participant) → (f s).site ≡ s.site) (a : List ℕ) where
  pub changed_site : (s : Participant) → (changed_at a f s).site ≡ s.site
  changed_site s = either (λ x. x.site ≡ s.site) (is_at a s) (f s) s (keeps s) refl

  -- another one is as it was
  other_participant : (j : List ℕ) → pointwise nat_eq j a ≡ false → (participants : List Participant) → participant_in j (map (changed_at a f) participants) ≡ participant_in j participants
  other_participant j apart [] = refl
  other_participant j apart (s ∷ participants) = ap (λ x. if pointwise nat_eq x j then changed_at a f s else participant_in j (map (changed_at a f) participants)) (changed_site s) ∙ go (is_at j s) refl (other_participant j apart participants)
    where
      go : (b : Bool) → is_at j s ≡ b → participant_in j (map (changed_at a f) participants) ≡ participant_in j participants → (if b then changed_at a f s else participant_in j (map (changed_at a f) participants)) ≡ (if b then s else participant_in j participants)
      go true here rest = if_false (is_at a s) (f s) s (subst (λ x. pointwise nat_eq x a ≡ false) (sym (text_is s.site j here)) apart)
      go false here rest = rest

  -- this one, if it is there
  this_participant : (participants : List Participant) → list_any (is_at a) participants ≡ true → participant_in a (map (changed_at a f) participants) ≡ f (participant_in a participants)
  this_participant [] at = cc
  this_participant (s ∷ participants) at = ap (λ x. if pointwise nat_eq x a then changed_at a f s else participant_in a (map (changed_at a f) participants)) (changed_site s) ∙ go (is_at a s) at (this_participant participants)
    where
      go : (b : Bool) → (b || list_any (is_at a) participants) ≡ true → (list_any (is_at a) participants ≡ true → participant_in a (map (changed_at a f) participants) ≡ f (participant_in a participants)) →
          (if b then (if b then f s else s) else participant_in a (map (changed_at a f) participants)) ≡ f (if b then s else participant_in a participants)
      go true at rest = refl
      go false at rest = rest at

  pub participant_changed : (j : List ℕ) (participants : List Participant) → list_any (is_at a) participants ≡ true → participant_in j (map (changed_at a f) participants) ≡ (if pointwise nat_eq j a then f (participant_in j participants) else participant_in j participants)
  participant_changed j participants at = go (pointwise nat_eq j a) refl
    where
      go : (b : Bool) → pointwise nat_eq j a ≡ b → participant_in j (map (changed_at a f) participants) ≡ (if b then f (participant_in j participants) else participant_in j participants)
      go true same = let e = text_is j a same in subst (λ x. participant_in x (map (changed_at a f) participants) ≡ f (participant_in x participants)) (sym e) (this_participant participants at)
      go false same = other_participant j same participants

-- ---- what it comes to
module _ (db : Database) (participants : List Participant) (a : List ℕ) (at : list_any (is_at a) participants ≡ true) where
  -- the vote of a site is counted
  abbrev voted : Vote → List Participant
  voted vote = map (changed_at a (with_vote (Some vote))) participants

  vote_there : (vote : Vote) (j : List ℕ) → participant_in j (voted vote) ≡ (if pointwise nat_eq j a then with_vote (Some vote) (participant_in j participants) else participant_in j participants)
  vote_there vote j = participant_changed (with_vote (Some vote)) (λ s. refl) a j participants at

  one_vote : (vote : Vote) (s : Participant) (b : Bool) → option_map vote_of (if b then with_vote (Some vote) s else s).vote ≡ (if b then Some (vote_of vote) else option_map vote_of s.vote)
  one_vote vote s true = refl
  one_vote vote s false = refl

  pub votes_put : (vote : Vote) → votes_of (voted vote) ≡ put (pointwise nat_eq) a (Some (vote_of vote)) (votes_of participants)
  votes_put vote = λ i j. (ap (λ s. option_map vote_of s.vote) (vote_there vote j) ∙ one_vote vote (participant_in j participants) (pointwise nat_eq j a)) i

  pub vote_counted : (moves : Bool) (vote : Vote) (st : Stage) → undecided_of db (voting moves (voted vote)) ≡ record (undecided_of db (record { participants = participants; stage = st; moves = moves })) { stage = desk.Voting (put (pointwise nat_eq) a (Some (vote_of vote)) (votes_of participants)) }
  vote_counted moves vote st = λ i. record {
    visited = λ j. (ap (λ s. s.visited) (vote_there vote j) ∙ either (λ s. s.visited ≡ (participant_in j participants).visited) (pointwise nat_eq j a) (with_vote (Some vote) (participant_in j participants)) (participant_in j participants) refl refl) i;
    ticket = λ j. (ap (λ s. option_map name_of s.ticket) (vote_there vote j) ∙ either (λ s. option_map name_of s.ticket ≡ option_map name_of (participant_in j participants).ticket) (pointwise nat_eq j a) (with_vote (Some vote) (participant_in j participants)) (participant_in j participants) refl refl) i;
    sent = λ j. (ap (λ s. s.sent) (vote_there vote j) ∙ either (λ s. s.sent ≡ (participant_in j participants).sent) (pointwise nat_eq j a) (with_vote (Some vote) (participant_in j participants)) (participant_in j participants) refl refl) i;
    stage = desk.Voting (votes_put vote i);
    moves = moves;
  }

  -- the ticket of a site has come
  abbrev ticketed : Ticket → List Participant
  ticketed ticket = map (changed_at a (with_ticket (Some ticket))) participants

  ticket_there : (ticket : Ticket) (j : List ℕ) → participant_in j (ticketed ticket) ≡ (if pointwise nat_eq j a then with_ticket (Some ticket) (participant_in j participants) else participant_in j participants)
  ticket_there ticket j = participant_changed (with_ticket (Some ticket)) (λ s. refl) a j participants at

  one_ticket : (ticket : Ticket) (s : Participant) (b : Bool) → option_map name_of (if b then with_ticket (Some ticket) s else s).ticket ≡ (if b then Some (name_of ticket) else option_map name_of s.ticket)
  one_ticket ticket s true = refl
  one_ticket ticket s false = refl

  same_votes : (ticket : Ticket) → votes_of (ticketed ticket) ≡ votes_of participants
  same_votes ticket = λ i j. (ap (λ s. option_map vote_of s.vote) (ticket_there ticket j) ∙ either (λ s. option_map vote_of s.vote ≡ votes_of participants j) (pointwise nat_eq j a) (with_ticket (Some ticket) (participant_in j participants)) (participant_in j participants) refl refl) i

  same_stage : (ticket : Ticket) (st : Stage) → stage_of db (ticketed ticket) st ≡ stage_of db participants st
  same_stage ticket stage.Idle = refl
  same_stage ticket (stage.Reading r) = refl
  same_stage ticket (stage.Writing w) = refl
  same_stage ticket stage.Voting = ap desk.Voting (same_votes ticket)

  pub ticket_put : (moves : Bool) (ticket : Ticket) (st : Stage) → undecided_of db (record { participants = ticketed ticket; stage = st; moves = moves })
      ≡ record (undecided_of db (record { participants = participants; stage = st; moves = moves })) { ticket = put (pointwise nat_eq) a (Some (name_of ticket)) (λ j. option_map name_of (participant_in j participants).ticket) }
  ticket_put moves ticket st = λ i. record {
    visited = λ j. (ap (λ s. s.visited) (ticket_there ticket j) ∙ either (λ s. s.visited ≡ (participant_in j participants).visited) (pointwise nat_eq j a) (with_ticket (Some ticket) (participant_in j participants)) (participant_in j participants) refl refl) i;
    ticket = λ j. (ap (λ s. option_map name_of s.ticket) (ticket_there ticket j) ∙ one_ticket ticket (participant_in j participants) (pointwise nat_eq j a)) i;
    sent = λ j. (ap (λ s. s.sent) (ticket_there ticket j) ∙ either (λ s. s.sent ≡ (participant_in j participants).sent) (pointwise nat_eq j a) (with_ticket (Some ticket) (participant_in j participants)) (participant_in j participants) refl refl) i;
    stage = same_stage ticket st i;
    moves = moves;
  }

-- no vote is counted
pub votes_gone : (db : Database) (moves : Bool) (participants : List Participant) (st : Stage) → undecided_of db (voting moves (map (with_vote None) participants)) ≡ record (undecided_of db (record { participants = participants; stage = st; moves = moves })) { stage = desk.Voting (λ site. None) }
votes_gone db moves participants st = λ i. record {
  visited = λ j. ap (λ s. s.visited) (there j) i;
  ticket = λ j. ap (λ s. option_map name_of s.ticket) (there j) i;
  sent = λ j. ap (λ s. s.sent) (there j) i;
  stage = desk.Voting (λ j. ap (λ s. option_map vote_of s.vote) (there j) i);
  moves = moves;
}
  where
    there : (j : List ℕ) → participant_in j (map (with_vote None) participants) ≡ with_vote None (participant_in j participants)
    there j = participant_mapped (with_vote None) (λ s. refl) (λ site. refl) j participants
