-- What a transaction has to do with each site.
use Rattle.std.specs.Prelude.{ℕ, nat_eq, Bool, false, ◌||◌, not, List, [], ◌∷◌, map, Option, None, is_some, if◌then◌else◌}
use Rattle.std.specs.Cmp.Lexicographic.{pointwise}
use Rattle.store.specs.declared.reply.Vote.{Vote}
use Rattle.store.specs.declared.name.Ticket.{Ticket}
use Rattle.desk.specs.declared.participant.Participant.{Participant}

-- a site that is not visited
abbrev pub nowhere : List ℕ → Participant
nowhere site = record { site = site; visited = false; ticket = None; sent = 0; vote = None }

-- whether it is the participant of a site
abbrev pub is_at : List ℕ → Participant → Bool
is_at site participant = pointwise nat_eq participant.site site

-- the participant of a site; one that isn't among these is not visited
abbrev pub participant_in : List ℕ → List Participant → Participant
participant_in site [] = nowhere site
participant_in site (participant ∷ participants) = if is_at site participant then participant else participant_in site participants

-- the sites of participants
abbrev pub sites_of : List Participant → List (List ℕ)
sites_of participants = map (λ participant. participant.site) participants

-- a participant that is changed at one site
abbrev pub changed_at : List ℕ → (Participant → Participant) → Participant → Participant
changed_at site change participant = if is_at site participant then change participant else participant

-- its vote is counted
abbrev pub with_vote : Option Vote → Participant → Participant
with_vote vote participant = record participant { vote = vote }

-- its ticket has come
abbrev pub with_ticket : Option Ticket → Participant → Participant
with_ticket ticket participant = record participant { ticket = ticket }

-- whether it isn't visited, or has voted
abbrev pub is_in : Participant → Bool
is_in participant = not participant.visited || is_some participant.vote

-- or is the one of a site
abbrev pub is_in_beside : List ℕ → Participant → Bool
is_in_beside site participant = is_at site participant || is_in participant
