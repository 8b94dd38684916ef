-- With only READ votes nobody is to be told.
use Rattle.std.proofs.Common.{◌≡◌, refl, ℕ, Bool, true, false, ◌&&◌, ◌||◌, not, List, [], ◌∷◌, map, Option, Some, None, if◌then◌else◌}
use Rattle.std.specs.List.{cons_option, list_all}
use Rattle.store.specs.declared.reply.Vote.{Vote}
use Rattle.store.specs.declared.reply.Vote.TheVariants.{Yes, No, Read}
use Rattle.protocol.specs.Letters.{is_no}
use Rattle.protocol.proofs.Basics.{left_true, right_true}
use Rattle.desk.specs.declared.participant.Participant.{Participant}
use Rattle.desk.specs.declared.transaction.Undecided.{Undecided}
use Rattle.desk.specs.Acknowledge.{voter_at, voters_among}
use Rattle.desk.specs.Commit.{has_read_beside, is_read, only_reads}
use Rattle.desk.specs.Participants.{changed_at, is_at, is_in, with_vote}

-- a site that is not visited, has voted READ, or does so now, has voted and is not told
read_one : (site : List ℕ) (p : Participant) → has_read_beside site p ≡ true → (is_in (changed_at site (with_vote (Some Read)) p) ≡ true) × (voter_at (changed_at site (with_vote (Some Read)) p) ≡ None)
read_one site p e = go (is_at site p) p.visited p.vote e
  where
    at : Bool → Option Vote → Participant
    at visited vote = record p { visited = visited; vote = vote }

    go : (b visited : Bool) (vote : Option Vote) → (b || (not visited || is_read vote)) ≡ true →
        (is_in (if b then with_vote (Some Read) (at visited vote) else at visited vote) ≡ true) × (voter_at (if b then with_vote (Some Read) (at visited vote) else at visited vote) ≡ None)
    go true true vote e = (refl, refl)
    go true false vote e = (refl, refl)
    go false false vote e = (refl, refl)
    go false true None e = cc
    go false true (Some Yes) e = cc
    go false true (Some No) e = cc
    go false true (Some Read) e = (refl, refl)

read_all : (site : List ℕ) (participants : List Participant) → list_all (has_read_beside site) participants ≡ true →
    (list_all is_in (map (changed_at site (with_vote (Some Read))) participants) ≡ true) × (voters_among (map (changed_at site (with_vote (Some Read))) participants) ≡ [])
read_all site [] e = (refl, refl)
read_all site (p ∷ participants) e =
    let one = read_one site p (left_true _ _ e) in
    let rest = read_all site participants (right_true _ _ e) in
    ((λ i. one.0 i && rest.0 i), (λ i. cons_option (one.1 i) (rest.1 i)))

-- what a transaction with only READ votes is
pub record Reads (u : Undecided) (site : List ℕ) (vote : Vote) : Type 0 where
  pub still : u.moves ≡ false
  pub other : is_no vote ≡ false
  pub all : list_all is_in (map (changed_at site (with_vote (Some vote))) u.participants) ≡ true
  pub nobody : voters_among (map (changed_at site (with_vote (Some vote))) u.participants) ≡ []

not_so : (b : Bool) → not b ≡ true → b ≡ false
not_so true e = cc
not_so false e = refl

pub reads : (u : Undecided) (site : List ℕ) (vote : Vote) → only_reads u site vote ≡ true → Reads u site vote
reads u site Yes e = let no : false ≡ true = right_true (not u.moves) false e in cc
reads u site No e = let no : false ≡ true = right_true (not u.moves) false e in cc
reads u site Read e =
    let all = read_all site u.participants (right_true _ _ e) in
    record { still = not_so u.moves (left_true _ _ e); other = refl; all = all.0; nobody = all.1 }
