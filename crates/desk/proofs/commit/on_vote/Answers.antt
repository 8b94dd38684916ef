-- Why `on_vote` meets its contract.
use Rattle.std.proofs.Common.{Ok, [], ◌&&◌, Some, None, sym, ap, ◌∙◌, ◌≡◌, map, refl, subst, true}
use Rattle.reader.specs.Printable.{AreDistinct}
use Rattle.terms.specs.declared.memory.Memory.{Memory}
use Rattle.protocol.specs.Desk.{Aborted, By_vote, decides}
use Rattle.protocol.specs.Letters.{txn_name}
use Rattle.desk.specs.declared.transaction.TxnState.TheVariants as standing
use Rattle.desk.specs.declared.transaction.Stage.TheVariants.{Voting}
use Rattle.desk.specs.Commit.{counts_vote}
use Rattle.desk.specs.Participants.{changed_at, sites_of, with_vote}
use Rattle.desk.proofs.Acknowledged.{keeps_same, turn_as, unchanged}
use Rattle.desk.proofs.Called.{no_call, steps_as, vote_calls}
use Rattle.desk.proofs.Counted.{at_same, copied_vote, no_turn, vote_lost, vote_turn, voted_are, voted_sites}
use Rattle.desk.proofs.Decisions.{ended_keeps, votes_decide}
use Rattle.desk.proofs.Reading.{reads}
use Rattle.desk.proofs.Raised.{low_by, quiet_by, quiet_is}
use Rattle.protocol.proofs.Basics.{clash}
use Rattle.desk.specs.Acknowledge.{Keeps, kept_voters}
use Rattle.desk.specs.Database.{language}
use Rattle.desk.specs.Transaction.{undecided_of}
use Rattle.desk.specs.Transition.{after_of, raises, says_committed, voting}
use Rattle.desk.specs.declared.reply.Reply.TheVariants.{Aborted as Aborted_reply}
use Rattle.desk.specs.declared.reply.Why.TheVariants.{Vote as Vote_why}
use Rattle.desk.proofs.commit.on_vote.Goals as goal

pub returns-then-not-counts-clause-turn : goal.returns-then-not-counts-clause-turn
returns-then-not-counts-clause-turn g c = λ db choice are.
    let u = c.args.undecided.now in
    turn_as db c.args.txn (Some (standing.Undecided u)) c.stays.result _ _
    (vote_lost db (txn_name c.args.txn) u c.args.site.now c.args.voted.ticket c.args.voted.vote choice c.stays.result.kept (sym c.counts.ensures ∙ c.if-not-counts.true))
    (c.stays.ensures.turn db c.args.txn (Some (standing.Undecided u)))

pub returns-then-is_no-clause-turn : goal.returns-then-is_no-clause-turn
returns-then-is_no-clause-turn g c = λ db choice are.
    let u = c.args.undecided.now in
    let here = Some (standing.Undecided u) in
    let counts : counts_vote u c.args.site.now c.args.voted.ticket ≡ true = sym c.counts.ensures ∙ c.if-not-counts.false in
    let same : c.deref.result.now ≡ map (changed_at c.args.site.now (with_vote (Some c.args.voted.vote))) u.participants = copied_vote c.args.site.now c.args.voted.vote c.deref.result.now c.in_ok-participants.participants.items c.as_slice.result.now u.participants c.deref.ensures.value c.in_ok-participants.ensures c.as_slice.ensures in
    no_turn db c.args.txn u c.args.site.now c.args.voted.ticket c.args.voted.vote choice are counts c.deref.result.now same here c.ends.result (sym c.is_no.ensures ∙ c.if-is_no.true)
    (c.ends.ensures.turn db here Voting u.moves (Aborted (txn_name c.args.txn) By_vote)
    (voted_are db u.participants c.args.site.now c.args.voted.vote are c.deref.result.now same) refl refl)

pub returns-then-is_no-clause-keeps : goal.returns-then-is_no-clause-keeps
returns-then-is_no-clause-keeps g c = λ db are clean sound none remembered.
    let kept = g.S.DeskStore.kept c.args.store.now in
    ended_keeps c.args.txn (Some (standing.Undecided c.args.undecided.now)) kept kept none (unchanged kept) c.ends.result c.ends.ensures.after (quiet_by (Some (standing.Undecided c.args.undecided.now)) (Some (Aborted_reply Vote_why)) c.ends.result refl c.ends.ensures.reply)

pub returns-then-is_no-clause-below : goal.returns-then-is_no-clause-below
returns-then-is_no-clause-below g c =
    let here = Some (standing.Undecided c.args.undecided.now) in
    low_by here c.args.version c.ends.result (quiet_by here (Some (Aborted_reply Vote_why)) c.ends.result refl c.ends.ensures.reply)

pub returns-then-not-counts-clause-below : goal.returns-then-not-counts-clause-below
returns-then-not-counts-clause-below g c = λ up. clash up (quiet_is (Some (standing.Undecided c.args.undecided.now)) c.stays.result.reply (ap says_committed c.stays.ensures.reply))

pub returns-then-not-counts-clause-keeps : goal.returns-then-not-counts-clause-keeps
returns-then-not-counts-clause-keeps g c = λ db are clean sound none remembered.
    let kept = g.S.DeskStore.kept c.args.store.now in
    let here = Some (standing.Undecided c.args.undecided.now) in
    subst (λ a. Keeps c.args.txn (kept_voters (after_of here a)) (raises here c.stays.result.reply) kept kept) (sym c.stays.ensures.after)
    (keeps_same c.args.txn None (raises here c.stays.result.reply) kept kept (quiet_is here c.stays.result.reply (ap says_committed c.stays.ensures.reply)) none (unchanged kept))

pub returns-then-only_reads-clause-turn : goal.returns-then-only_reads-clause-turn
returns-then-only_reads-clause-turn g c = λ db choice are.
    let u = c.args.undecided.now in
    let here = Some (standing.Undecided u) in
    let counts : counts_vote u c.args.site.now c.args.voted.ticket ≡ true = sym c.counts.ensures ∙ c.if-not-counts.false in
    let given = map (changed_at c.args.site.now (with_vote (Some c.args.voted.vote))) u.participants in
    let read = reads u c.args.site.now c.args.voted.vote (sym c.only_reads.ensures ∙ c.if-only_reads.true) in
    vote_turn db c.args.txn u c.args.site.now c.args.voted.ticket c.args.voted.vote choice are counts given refl here {E = Memory} (Ok c.commits_at_once.result) read.other
    (turn_as db c.args.txn here c.commits_at_once.result _ _
    (votes_decide db u.moves given (voted_are db u.participants c.args.site.now c.args.voted.vote are given refl) (txn_name c.args.txn) c.commits_at_once.result.kept [] read.all (sym read.nobody)
    ∙ ap (λ kept. decides {L = language db} (txn_name c.args.txn) (undecided_of db (voting u.moves given)) kept []) c.commits_at_once.ensures.kept)
    (c.commits_at_once.ensures.turn db c.args.txn here))

pub returns-then-only_reads-clause-keeps : goal.returns-then-only_reads-clause-keeps
returns-then-only_reads-clause-keeps g c = λ db are clean sound none remembered.
    let kept = g.S.DeskStore.kept c.args.store.now in
    let here = Some (standing.Undecided c.args.undecided.now) in
    let reply = c.commits_at_once.result.reply in
    let read = reads c.args.undecided.now c.args.site.now c.args.voted.vote (sym c.only_reads.ensures ∙ c.if-only_reads.true) in
    subst (λ vs. Keeps c.args.txn vs (raises here reply) kept kept) (sym (ap (λ a. kept_voters (after_of here a)) c.commits_at_once.ensures.after)) (keeps_same c.args.txn None (raises here reply) kept kept (ap (λ b. b && says_committed reply) read.still) none (unchanged kept))

pub returns-then-only_reads-clause-below : goal.returns-then-only_reads-clause-below
returns-then-only_reads-clause-below g c = λ up.
    let read = reads c.args.undecided.now c.args.site.now c.args.voted.vote (sym c.only_reads.ensures ∙ c.if-only_reads.true) in
    clash up (ap (λ b. b && says_committed c.commits_at_once.result.reply) read.still)

pub returns-clause-below : goal.returns-clause-below
returns-clause-below g c = c.votes_go.ensures.below c.args.undecided.now refl

pub returns-clause-turn : goal.returns-clause-turn
returns-clause-turn g c = λ db choice are.
    let u = c.args.undecided.now in
    let here = Some (standing.Undecided u) in
    let counts : counts_vote u c.args.site.now c.args.voted.ticket ≡ true = sym c.counts.ensures ∙ c.if-not-counts.false in
    let same : c.in_ok-participants.participants.items ≡ map (changed_at c.args.site.now (with_vote (Some c.args.voted.vote))) u.participants = copied_vote c.args.site.now c.args.voted.vote c.in_ok-participants.participants.items c.in_ok-participants.participants.items c.as_slice.result.now c.args.undecided.now.participants refl c.in_ok-participants.ensures c.as_slice.ensures in
    vote_turn db c.args.txn u c.args.site.now c.args.voted.ticket c.args.voted.vote choice are counts c.in_ok-participants.participants.items same here c.votes_go.result (sym c.is_no.ensures ∙ c.if-is_no.false)
    (c.votes_go.ensures.turn db here (voted_are db u.participants c.args.site.now c.args.voted.vote are c.in_ok-participants.participants.items same))

pub returns-clause-keeps : goal.returns-clause-keeps
returns-clause-keeps g c = λ db are clean sound none remembered.
    let u = c.args.undecided.now in
    let same : c.in_ok-participants.participants.items ≡ map (changed_at c.args.site.now (with_vote (Some c.args.voted.vote))) u.participants = copied_vote c.args.site.now c.args.voted.vote c.in_ok-participants.participants.items c.in_ok-participants.participants.items c.as_slice.result.now c.args.undecided.now.participants refl c.in_ok-participants.ensures c.as_slice.ensures in
    c.votes_go.ensures.keeps db u
    (voted_are db u.participants c.args.site.now c.args.voted.vote are c.in_ok-participants.participants.items same)
    refl clean sound none remembered

pub returns-clause-sites : goal.returns-clause-sites
returns-clause-sites g c = λ distinct.
    let same = voted_sites c.args.site.now c.args.voted.vote c.args.undecided.now.participants c.in_ok-participants.participants.items (copied_vote c.args.site.now c.args.voted.vote c.in_ok-participants.participants.items c.in_ok-participants.participants.items c.as_slice.result.now c.args.undecided.now.participants refl c.in_ok-participants.ensures c.as_slice.ensures) in
    at_same c.votes_go.result (sites_of c.in_ok-participants.participants.items) (sites_of c.args.undecided.now.participants) same (c.votes_go.ensures.sites (subst AreDistinct (sym same) distinct))

pub returns-clause-store : goal.returns-clause-store
returns-clause-store g c =
    let u = c.args.undecided.now in
    let counts : counts_vote u c.args.site.now c.args.voted.ticket ≡ true = sym c.counts.ensures ∙ c.if-not-counts.false in
    let same : c.in_ok-participants.participants.items ≡ map (changed_at c.args.site.now (with_vote (Some c.args.voted.vote))) u.participants = copied_vote c.args.site.now c.args.voted.vote c.in_ok-participants.participants.items c.in_ok-participants.participants.items c.as_slice.result.now c.args.undecided.now.participants refl c.in_ok-participants.ensures c.as_slice.ensures in
    steps_as (λ called db are.
    vote_calls db u c.args.site.now c.args.voted.ticket c.args.voted.vote counts (sym c.is_no.ensures ∙ c.if-is_no.false) c.in_ok-participants.participants.items same
    (called db (voted_are db u.participants c.args.site.now c.args.voted.vote are c.in_ok-participants.participants.items same)))
    c.votes_go.ensures.store

pub returns-then-not-counts-clause-store : goal.returns-then-not-counts-clause-store
returns-then-not-counts-clause-store g c = no_call c.args.store.now _ c.stays.ensures.kept

pub returns-then-only_reads-clause-store : goal.returns-then-only_reads-clause-store
returns-then-only_reads-clause-store g c = no_call c.args.store.now _ c.commits_at_once.ensures.kept

pub returns-then-is_no-clause-store : goal.returns-then-is_no-clause-store
returns-then-is_no-clause-store g c = no_call c.args.store.now _ c.ends.ensures.kept
