-- Votes and the decision, as the protocol has them.
use Rattle.std.proofs.Common.{◌≡◌, refl, sym, ap, ◌∙◌, subst, ℕ, suc, ◌<◌, ◌⊎◌, ◌==◌, nat_eq, Bool, true, false, not, ◌&&◌, ◌||◌, List, [], ◌∷◌, ◌++◌, map, length, Option, Some, None, is_some, if◌then◌else◌, inl, inr, Result, Ok, Err, IfOk, flat_map, arith}
use Rattle.std.proofs.lemmas.Bool.{eqb-true}
use Rattle.std.specs.Cmp.Lexicographic.{pointwise}
use Rattle.std.specs.List.{AllByRecursion, IsDistinct, cons_option, list_all}
use Rattle.std.specs.Option.{option_map}
use Rattle.reader.specs.Printable.{AreDistinct}
use Rattle.store.specs.declared.commit.Voter.{Voter}
use Rattle.store.specs.declared.name.Ticket.{Ticket}
use Rattle.store.specs.declared.name.Txn.{Txn}
use Rattle.store.specs.declared.reply.Vote.{Vote}
use Rattle.store.specs.declared.reply.Vote.TheVariants.{Yes, No, Read}
use Rattle.store.specs.DeskContent.{AreVoters, DeskContent, IsUnchanged, KeepsCommit, commit_row, is_txn}
use Rattle.protocol.specs.Desk as desk
use Rattle.protocol.specs.Language.{Name}
use Rattle.protocol.specs.Letters.{name_of, txn_name, vote_of}
use Rattle.protocol.specs.Parts.{In}
use Rattle.desk.specs.declared.participant.Participant.{Participant}
use Rattle.desk.specs.declared.transaction.TxnState.{TxnState}
use Rattle.desk.specs.declared.transition.After.TheVariants.{Ends}
use Rattle.desk.specs.declared.transition.Transition.{Transition}
use Rattle.desk.specs.Database.{Database, language, sent}
use Rattle.desk.specs.Participants.{is_in, sites_of}
use Rattle.desk.specs.Transaction.{txn_of, undecided_of, voter_of, votes_of}
use Rattle.desk.specs.Commit.{committed_by}
use Rattle.desk.specs.Transition.{AreParticipants, IsTransition, after_of, raises, told_to, voting}
use Rattle.desk.specs.declared.reply.Reply.TheVariants as reply
use Rattle.desk.specs.declared.transaction.TxnState.TheVariants as standing
use Rattle.desk.specs.declared.transaction.Undecided.{Undecided}
use Rattle.protocol.proofs.Basics.{if_false}
use Rattle.desk.specs.Acknowledge.{Keeps, commit_letters, is_yes, kept_voters, voter_at, voter_with, voters_among}
use Rattle.desk.proofs.Acknowledged.{keeps_same, turn_as}
use Rattle.desk.proofs.Participants.{at_home, text_is}

-- ---- site by site
all_sites : (p : List ℕ → Bool) (q : Participant → Bool) (participants : List Participant) → ((participant : Participant) → In participant participants → p participant.site ≡ q participant) → list_all p (sites_of participants) ≡ list_all q participants
all_sites p q [] each = refl
all_sites p q (s ∷ participants) each = ap (λ b. b && list_all p (sites_of participants)) (each s (inl refl)) ∙ ap (λ b. q s && b) (all_sites p q participants (λ x at. each x (inr at)))

flat_sites : (f : List ℕ → List (List ℕ × Name)) (participants : List Participant) → ((participant : Participant) → In participant participants → f participant.site ≡ map voter_of (cons_option (voter_at participant) [])) → flat_map f (sites_of participants) ≡ map voter_of (voters_among participants)
flat_sites f [] each = refl
flat_sites f (s ∷ participants) each = ap (λ l. l ++ flat_map f (sites_of participants)) (each s (inl refl)) ∙ go (voter_at s) (flat_sites f participants (λ x at. each x (inr at)))
  where
    go : (o : Option Voter) → flat_map f (sites_of participants) ≡ map voter_of (voters_among participants) → map voter_of (cons_option o []) ++ flat_map f (sites_of participants) ≡ map voter_of (cons_option o (voters_among participants))
    go None rest = rest
    go (Some v) rest = ap (λ l. voter_of v ∷ l) rest

some_vote : (vote : Option Vote) → is_some (option_map vote_of vote) ≡ is_some vote
some_vote None = refl
some_vote (Some v) = refl

one_voter : (participant : Participant) → (if participant.visited then desk.voter_at participant.site (option_map vote_of participant.vote) (option_map name_of participant.ticket) else []) ≡ map voter_of (cons_option (voter_at participant) [])
one_voter participant = go participant.visited participant.vote participant.ticket
  where
    go : (b : Bool) (vote : Option Vote) (ticket : Option Ticket) →
        (if b then desk.voter_at participant.site (option_map vote_of vote) (option_map name_of ticket) else []) ≡ map voter_of (cons_option (if b && is_yes vote then option_map (voter_with participant.site) ticket else None) [])
    go false vote ticket = refl
    go true None ticket = refl
    go true (Some Yes) None = refl
    go true (Some Yes) (Some k) = refl
    go true (Some No) ticket = refl
    go true (Some Read) ticket = refl

pub commits_is : (db : Database) (txn : Txn) (voters : List Voter) → map (sent db) (commit_letters txn voters) ≡ desk.commits {L = language db} (txn_name txn) (map voter_of voters)
commits_is db txn [] = refl
commits_is db txn (v ∷ voters) = ap (λ l. sent db (Rattle.desk.specs.Orders.ordered txn v.site (Rattle.store.specs.declared.order.Order.TheVariants.Commit v.ticket)) ∷ l) (commits_is db txn voters)

module _ (db : Database) (moves : Bool) (participants : List Participant) (are : AreParticipants db participants) where
  abbrev u : desk.Undecided (language db)
  u = undecided_of db (voting moves participants)

  pub all_in_is : desk.are_all_in {L = language db} u (votes_of participants) ≡ list_all is_in participants
  all_in_is =
      ap (λ sites. list_all (λ a. not (u.visited a) || is_some (votes_of participants a)) sites) (sym are.sites)
      ∙ all_sites (λ a. not (u.visited a) || is_some (votes_of participants a)) is_in participants
      (λ participant at. ap (λ x. not x.visited || is_some (option_map vote_of x.vote)) (at_home participants are.distinct participant at) ∙ ap (λ b. not participant.visited || b) (some_vote participant.vote))

  pub voters_is : desk.voters_of {L = language db} u (votes_of participants) ≡ map voter_of (voters_among participants)
  voters_is =
      let f : List ℕ → List (List ℕ × Name) = λ a. if u.visited a then desk.voter_at a (votes_of participants a) (u.ticket a) else [] in
      ap (λ sites. flat_map f sites) (sym are.sites)
      ∙ flat_sites f participants (λ participant at. ap (λ x. if x.visited then desk.voter_at participant.site (option_map vote_of x.vote) (option_map name_of x.ticket) else []) (at_home participants are.distinct participant at) ∙ one_voter participant)

  pub votes_go_is : (t : Name) (kept : Bool) → desk.votes_go {L = language db} t u (votes_of participants) kept
      ≡ (if list_all is_in participants then desk.decides {L = language db} t u kept (map voter_of (voters_among participants)) else desk.stays (desk.Known u))
  votes_go_is t kept =
      ap (λ b. if b then desk.decides {L = language db} t u kept (desk.voters_of {L = language db} u (votes_of participants)) else desk.stays (desk.Known u)) all_in_is
      ∙ ap (λ vs. if list_all is_in participants then desk.decides {L = language db} t u kept vs else desk.stays (desk.Known u)) voters_is

  -- not all votes are in
  pub votes_wait : (t : Name) (kept : Bool) → list_all is_in participants ≡ false → desk.votes_go {L = language db} t u (votes_of participants) kept ≡ desk.stays (desk.Known u)
  votes_wait t kept is = votes_go_is t kept ∙ ap (λ b. if b then desk.decides {L = language db} t u kept (map voter_of (voters_among participants)) else desk.stays (desk.Known u)) is

  -- all are
  pub votes_decide : (t : Name) (kept : Bool) (voters : List Voter) → list_all is_in participants ≡ true → voters ≡ voters_among participants → desk.votes_go {L = language db} t u (votes_of participants) kept ≡ desk.decides {L = language db} t u kept (map voter_of voters)
  votes_decide t kept voters is same =
      votes_go_is t kept ∙ ap (λ b. if b then desk.decides {L = language db} t u kept (map voter_of (voters_among participants)) else desk.stays (desk.Known u)) is
      ∙ ap (λ vs. desk.decides {L = language db} t u kept (map voter_of vs)) (sym same)

-- the row is not kept
pub unkept_is : (db : Database) (txn : Txn) (old : Option TxnState) (v : desk.Undecided (language db)) (voters : List Voter) → (0 < length voters) ⊎ (v.moves ≡ true) → {E : Type 0} (result : Result Transition E) →
    IfOk result (λ turn. IsTransition db txn old turn (desk.ends_by (txn_name txn) v (desk.Aborted (txn_name txn) desk.By_store))) → IfOk result (λ turn. turn.kept ≡ false) →
    IfOk result (λ turn. IsTransition db txn old turn (desk.decides (txn_name txn) v turn.kept (map voter_of voters)))
unkept_is db txn old v [] (inl some) result ends kept = absurd (omega arith)
unkept_is db txn old v [] (inr moves) (Ok turn) ends kept =
    subst (λ b. IsTransition db txn old turn (desk.decides (txn_name txn) v b [])) (sym kept) (subst (IsTransition db txn old turn) (sym (if_false (not v.moves) _ _ (ap not moves))) ends)
unkept_is db txn old v [] (inr moves) (Err e) ends kept = tt
unkept_is db txn old v (x ∷ voters) some (Ok turn) ends kept = subst (λ b. IsTransition db txn old turn (desk.decides (txn_name txn) v b (map voter_of (x ∷ voters)))) (sym kept) ends
unkept_is db txn old v (x ∷ voters) some (Err e) ends kept = tt

-- the row is kept, or there is none to keep
pub kept_is : (db : Database) (txn : Txn) (old : Option TxnState) (v : desk.Undecided (language db)) (voters : List Voter) (turn : Transition) → turn.after ≡ committed_by voters → turn.letters.items ≡ commit_letters txn voters → turn.reply ≡ Some reply.Committed →
    IsTransition db txn old turn (desk.decides {L = language db} (txn_name txn) v true (map voter_of voters))
kept_is db txn old v [] turn after letters heard = record { stands = ap (λ a. txn_of db (after_of old a)) after; letters = ap (map (sent db)) letters; replies = ap (told_to (txn_name txn)) heard }
kept_is db txn old v (x ∷ voters) turn after letters heard = record {
  stands = ap (λ a. txn_of db (after_of old a)) after;
  letters = ap (map (sent db)) letters ∙ commits_is db txn (x ∷ voters);
  replies = ap (told_to (txn_name txn)) heard;
}

-- the store keeps nothing of a transaction that ends
pub ended_keeps : (txn : Txn) (old : Option TxnState) (kept after : DeskContent) → kept.commits txn ≡ None → IsUnchanged kept after → {E : Type 0} (result : Result Transition E) →
    IfOk result (λ turn. turn.after ≡ Ends) → IfOk result (λ turn. raises old turn.reply ≡ false) → IfOk result (λ turn. Keeps txn (kept_voters (after_of old turn.after)) (raises old turn.reply) kept after)
ended_keeps txn old kept after none same (Ok turn) is quiet = subst (λ a. Keeps txn (kept_voters (after_of old a)) (raises old turn.reply) kept after) (sym is) (keeps_same txn None (raises old turn.reply) kept after quiet none same)
ended_keeps txn old kept after none same (Err e) is quiet = tt

-- ---- the voters' sites are distinct
pub others_apart : (site : List ℕ) (participants : List Participant) → AllByRecursion (λ other. (site ≡ other) → ⊥) (sites_of participants) → AllByRecursion (λ other. pointwise nat_eq site other ≡ false) (map (λ voter. voter.site) (voters_among participants))
others_apart site [] apart = tt
others_apart site (s ∷ participants) apart = go s.visited s.vote s.ticket (others_apart site participants apart.1)
  where
    unlike : (b : Bool) → pointwise nat_eq site s.site ≡ b → b ≡ false
    unlike true e = absurd (apart.0 (text_is site s.site e))
    unlike false e = refl

    go : (b : Bool) (vote : Option Vote) (ticket : Option Ticket) → AllByRecursion (λ other. pointwise nat_eq site other ≡ false) (map (λ voter. voter.site) (voters_among participants)) →
        AllByRecursion (λ other. pointwise nat_eq site other ≡ false) (map (λ voter. voter.site) (cons_option (if b && is_yes vote then option_map (voter_with s.site) ticket else None) (voters_among participants)))
    go false vote ticket rest = rest
    go true None ticket rest = rest
    go true (Some No) ticket rest = rest
    go true (Some Read) ticket rest = rest
    go true (Some Yes) None rest = rest
    go true (Some Yes) (Some k) rest = ((let e = unlike (pointwise nat_eq site s.site) refl in e), rest)

voters_once : (participants : List Participant) → AreDistinct (sites_of participants) → IsDistinct (pointwise nat_eq) (map (λ voter. voter.site) (voters_among participants))
unfolding IsDistinct
voters_once [] apart = tt
voters_once (s ∷ participants) apart = go s.visited s.vote s.ticket (voters_once participants apart.1)
  where
    go : (b : Bool) (vote : Option Vote) (ticket : Option Ticket) → IsDistinct (pointwise nat_eq) (map (λ voter. voter.site) (voters_among participants)) →
        IsDistinct (pointwise nat_eq) (map (λ voter. voter.site) (cons_option (if b && is_yes vote then option_map (voter_with s.site) ticket else None) (voters_among participants)))
    go false vote ticket rest = rest
    go true None ticket rest = rest
    go true (Some No) ticket rest = rest
    go true (Some Read) ticket rest = rest
    go true (Some Yes) None rest = rest
    go true (Some Yes) (Some k) rest = (others_apart s.site participants apart.0, rest)

pub are_voters : (participants : List Participant) (voters : List Voter) → AreDistinct (sites_of participants) → voters ≡ voters_among participants → AreVoters voters
are_voters participants voters apart same = subst AreVoters (sym same) (voters_once participants apart)

-- the store keeps the row, if there is one, and the number of the catalogue that is in force from then on
pub keeps_row : (txn : Txn) (old : Undecided) (kept after : DeskContent) (voters same : List Voter) (in_force : ℕ) (turn : Transition) → voters ≡ same → in_force ≡ (if old.moves then suc kept.version else kept.version) → KeepsCommit txn voters in_force kept after →
    turn.after ≡ committed_by same → turn.reply ≡ Some reply.Committed → Keeps txn (kept_voters (after_of (Some (standing.Undecided old)) turn.after)) (raises (Some (standing.Undecided old)) turn.reply) kept after
keeps_row txn old kept after voters same in_force turn is remembered keeps ends heard = record {
  commits = λ other. keeps.commits other ∙ ap (λ vs. if is_txn txn other then commit_row vs else kept.commits other) is
      ∙ ap (λ row. if is_txn txn other then row else kept.commits other) (row_is same ∙ sym (ap (λ a. kept_voters (after_of (Some (standing.Undecided old)) a)) ends));
  life = keeps.life;
  version = keeps.version ∙ remembered ∙ ap (λ b. if b then suc kept.version else kept.version) (raised old.moves ∙ sym (ap (raises (Some (standing.Undecided old))) heard));
}
  where
    row_is : (voters : List Voter) → commit_row voters ≡ kept_voters (after_of (Some (standing.Undecided old)) (committed_by voters))
    row_is [] = refl
    row_is (v ∷ voters) = refl

    raised : (b : Bool) → b ≡ (b && true)
    raised true = refl
    raised false = refl

-- ---- the code's branches
-- nobody is to be told
pub nobody : (voters : List Voter) → (length voters == 0) ≡ true → voters ≡ []
nobody [] e = refl
nobody (v ∷ voters) e = let f : length (v ∷ voters) ≡ 0 = eqb-true (length (v ∷ voters)) 0 e in absurd (omega arith)

pub somebody : (voters : List Voter) → (length voters == 0) ≡ false → 0 < length voters
somebody [] e = cc
somebody (v ∷ voters) e = omega arith

-- all votes are in, and it is decided
pub decided_is : (db : Database) (moves : Bool) (txn : Txn) (old : Option TxnState) (participants now : List Participant) → now ≡ participants → AreParticipants db participants → (voters : List Voter) → list_all is_in participants ≡ true → voters ≡ voters_among participants → {E : Type 0} (result : Result Transition E) →
    IfOk result (λ turn. IsTransition db txn old turn (desk.decides (txn_name txn) (undecided_of db (voting moves now)) turn.kept (map voter_of voters))) →
    IfOk result (λ turn. IsTransition db txn old turn (desk.votes_go (txn_name txn) (undecided_of db (voting moves participants)) (votes_of participants) turn.kept))
decided_is db moves txn old participants now same are voters all is (Ok turn) steps =
    turn_as db txn old turn _ _ (votes_decide db moves participants are (txn_name txn) turn.kept voters all is ∙ ap (λ ss. desk.decides {L = language db} (txn_name txn) (undecided_of db (voting moves ss)) turn.kept (map voter_of voters)) (sym same)) steps
decided_is db moves txn old participants now same are voters all is (Err e) steps = tt
