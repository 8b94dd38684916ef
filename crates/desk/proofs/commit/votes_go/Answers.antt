-- Why `votes_go` meets its contract.
use Rattle.std.proofs.Common.{◌==◌, ◌&&◌, suc, true, length, None, Some, [], inl, inr, sym, ap, ◌∙◌, subst, IfOk}
use Rattle.std.specs.List.{list_all}
use Rattle.protocol.specs.Desk.{decides, stays, votes_go}
use Rattle.protocol.proofs.Basics.{clash, if_false}
use Rattle.protocol.specs.Letters.{txn_name}
use Rattle.desk.specs.declared.transaction.TxnState.TheVariants as standing
use Rattle.desk.specs.Participants.{is_in, sites_of}
use Rattle.desk.specs.Database.{language}
use Rattle.desk.specs.Transaction.{txn_of, undecided_of, votes_of}
use Rattle.desk.specs.Transition.{AreParticipants, IsTransition, after_of, raises, says_committed, voting}
use Rattle.desk.specs.Acknowledge.{AreInOrder, Keeps, kept_voters, voters_among}
use Rattle.desk.proofs.Acknowledged.{keeps_same, turn_as, unchanged}
use Rattle.desk.proofs.Called.{decides_all, no_call, steps_as}
use Rattle.desk.proofs.Decisions.{are_voters, decided_is, nobody, somebody, votes_decide, votes_wait}
use Rattle.desk.proofs.InOrder.{decided_in_order}
use Rattle.desk.proofs.Raised.{below_so, low_so, quiet_is}
use Rattle.desk.proofs.commit.votes_go.Goals as goal

pub returns-then-not-are_all_in-clause-turn : goal.returns-then-not-are_all_in-clause-turn
returns-then-not-are_all_in-clause-turn g c = λ db old are.
    turn_as db c.args.txn old c.becomes.result _ _
    (votes_wait db c.args.moves c.args.participants.items are (txn_name c.args.txn) c.becomes.result.kept (sym (c.are_all_in.ensures ∙ ap (list_all is_in) c.deref.ensures.value) ∙ c.if-not-are_all_in.true)
    ∙ ap (λ v. stays (txn_of db (Some (standing.Undecided v)))) (sym c.voting.ensures))
    (c.becomes.ensures.turn db c.args.txn old)

pub returns-then-not-are_all_in-clause-keeps : goal.returns-then-not-are_all_in-clause-keeps
returns-then-not-are_all_in-clause-keeps g c = λ db old are kind clean sound none remembered.
    let kept = g.S.DeskStore.kept c.args.store.now in
    let here = Some (standing.Undecided old) in
    let quiet = quiet_is here c.becomes.result.reply (ap says_committed c.becomes.ensures.reply) in
    subst (λ vs. Keeps c.args.txn vs (raises here c.becomes.result.reply) kept kept) (sym (ap (λ a. kept_voters (after_of here a)) c.becomes.ensures.after)) (keeps_same c.args.txn None (raises here c.becomes.result.reply) kept kept quiet none (unchanged kept))

pub returns-then-not-are_all_in-clause-below : goal.returns-then-not-are_all_in-clause-below
returns-then-not-are_all_in-clause-below g c = λ old kind up. clash up (quiet_is (Some (standing.Undecided old)) c.becomes.result.reply (ap says_committed c.becomes.ensures.reply))

pub returns-then-moves-clause-turn : goal.returns-then-moves-clause-turn
returns-then-moves-clause-turn g c = λ db old are.
    let moves = c.if-moves.true in
    subst (λ m. IfOk c.raises.result (λ turn. IsTransition db c.args.txn old turn (votes_go (txn_name c.args.txn) (undecided_of db (voting m c.args.participants.items)) (votes_of c.args.participants.items) turn.kept))) (sym moves)
    (decided_is db true c.args.txn old c.args.participants.items c.deref-then-moves.result.now c.deref-then-moves.ensures.value are c.in_ok-voters.voters.items (sym (c.are_all_in.ensures ∙ ap (list_all is_in) c.deref.ensures.value) ∙ c.if-not-are_all_in.false)
    (c.in_ok-voters.ensures ∙ ap voters_among c.deref-2.ensures.value) c.raises.result
    (c.raises.ensures.turn db old (subst (AreParticipants db) (sym c.deref-then-moves.ensures.value) are)))

pub returns-then-moves-clause-keeps : goal.returns-then-moves-clause-keeps
returns-then-moves-clause-keeps g c = λ db old are kind clean sound none remembered.
    c.raises.ensures.keeps old (kind ∙ c.if-moves.true) (are_voters c.args.participants.items c.in_ok-voters.voters.items are.distinct (c.in_ok-voters.ensures ∙ ap voters_among c.deref-2.ensures.value)) clean sound none remembered

pub returns-then-moves-clause-below : goal.returns-then-moves-clause-below
returns-then-moves-clause-below g c = λ old kind. below_so (Some (standing.Undecided old)) c.args.version c.raises.result c.raises.ensures.below

pub returns-then-moves-clause-store : goal.returns-then-moves-clause-store
returns-then-moves-clause-store g c =
    steps_as (λ called db are.
    decides_all db c.args.moves c.args.participants.items are c.in_ok-voters.voters.items (sym (c.are_all_in.ensures ∙ ap (list_all is_in) c.deref.ensures.value) ∙ c.if-not-are_all_in.false)
    (c.in_ok-voters.ensures ∙ ap voters_among c.deref-2.ensures.value) (inr c.if-moves.true))
    c.raises.ensures.store

pub returns-then-moves-clause-sites : goal.returns-then-moves-clause-sites
returns-then-moves-clause-sites g c = λ distinct.
    let participants = c.args.participants.items in
    c.raises.ensures.sites (sites_of participants)
    (subst (λ vs. AreInOrder (sites_of participants) vs) (sym (c.in_ok-voters.ensures ∙ ap voters_among c.deref-2.ensures.value)) (decided_in_order participants distinct))

pub returns-then-are_none-clause-turn : goal.returns-then-are_none-clause-turn
returns-then-are_none-clause-turn g c = λ db old are.
    turn_as db c.args.txn old c.commits_at_once.result _ _
    (votes_decide db c.args.moves c.args.participants.items are (txn_name c.args.txn) c.commits_at_once.result.kept [] (sym (c.are_all_in.ensures ∙ ap (list_all is_in) c.deref.ensures.value) ∙ c.if-not-are_all_in.false)
    (sym (nobody c.in_ok-voters.voters.items (ap (λ vs. length vs == 0) (sym c.deref-3.ensures.value) ∙ sym c.are_none.ensures ∙ c.if-are_none.true)) ∙ c.in_ok-voters.ensures ∙ ap voters_among c.deref-2.ensures.value)
    ∙ ap (λ kept. decides {L = language db} (txn_name c.args.txn) (undecided_of db (voting c.args.moves c.args.participants.items)) kept []) c.commits_at_once.ensures.kept)
    (c.commits_at_once.ensures.turn db c.args.txn old)

pub returns-then-are_none-clause-keeps : goal.returns-then-are_none-clause-keeps
returns-then-are_none-clause-keeps g c = λ db old are kind clean sound none remembered.
    let kept = g.S.DeskStore.kept c.args.store.now in
    let here = Some (standing.Undecided old) in
    let reply = c.commits_at_once.result.reply in
    subst (λ vs. Keeps c.args.txn vs (raises here reply) kept kept) (sym (ap (λ a. kept_voters (after_of here a)) c.commits_at_once.ensures.after)) (keeps_same c.args.txn None (raises here reply) kept kept (ap (λ b. b && says_committed reply) (kind ∙ c.if-moves.false)) none (unchanged kept))

pub returns-then-are_none-clause-below : goal.returns-then-are_none-clause-below
returns-then-are_none-clause-below g c = λ old kind up. clash up (ap (λ b. b && says_committed c.commits_at_once.result.reply) (kind ∙ c.if-moves.false))

pub returns-clause-turn : goal.returns-clause-turn
returns-clause-turn g c = λ db old are.
    decided_is db c.args.moves c.args.txn old c.args.participants.items c.deref-4.result.now c.deref-4.ensures.value are c.in_ok-voters.voters.items (sym (c.are_all_in.ensures ∙ ap (list_all is_in) c.deref.ensures.value) ∙ c.if-not-are_all_in.false)
    (c.in_ok-voters.ensures ∙ ap voters_among c.deref-2.ensures.value) c.decides.result
    (c.decides.ensures.turn db old c.args.moves (subst (AreParticipants db) (sym c.deref-4.ensures.value) are) (inl (somebody c.in_ok-voters.voters.items (ap (λ vs. length vs == 0) (sym c.deref-3.ensures.value) ∙ sym c.are_none.ensures ∙ c.if-are_none.false))))

pub returns-clause-keeps : goal.returns-clause-keeps
returns-clause-keeps g c = λ db old are kind clean sound none remembered.
    c.decides.ensures.keeps old (are_voters c.args.participants.items c.in_ok-voters.voters.items are.distinct (c.in_ok-voters.ensures ∙ ap voters_among c.deref-2.ensures.value)) clean sound none (remembered ∙ sym (if_false old.moves (suc (g.S.DeskStore.kept c.args.store.now).version) (g.S.DeskStore.kept c.args.store.now).version (kind ∙ c.if-moves.false)))

pub returns-clause-below : goal.returns-clause-below
returns-clause-below g c = λ old kind. low_so (Some (standing.Undecided old)) c.args.version c.decides.result (λ reply. ap (λ b. b && says_committed reply) (kind ∙ c.if-moves.false))

pub returns-clause-store : goal.returns-clause-store
returns-clause-store g c =
    steps_as (λ called db are.
    decides_all db c.args.moves c.args.participants.items are c.in_ok-voters.voters.items (sym (c.are_all_in.ensures ∙ ap (list_all is_in) c.deref.ensures.value) ∙ c.if-not-are_all_in.false)
    (c.in_ok-voters.ensures ∙ ap voters_among c.deref-2.ensures.value)
    (inl (somebody c.in_ok-voters.voters.items (ap (λ vs. length vs == 0) (sym c.deref-3.ensures.value) ∙ sym c.are_none.ensures ∙ c.if-are_none.false))))
    c.decides.ensures.store

pub returns-clause-sites : goal.returns-clause-sites
returns-clause-sites g c = λ distinct.
    let participants = c.args.participants.items in
    c.decides.ensures.sites (sites_of participants)
    (subst (λ vs. AreInOrder (sites_of participants) vs) (sym (c.in_ok-voters.ensures ∙ ap voters_among c.deref-2.ensures.value)) (decided_in_order participants distinct))

pub returns-then-not-are_all_in-clause-store : goal.returns-then-not-are_all_in-clause-store
returns-then-not-are_all_in-clause-store g c = no_call c.args.store.now _ c.becomes.ensures.kept

pub returns-then-are_none-clause-store : goal.returns-then-are_none-clause-store
returns-then-are_none-clause-store g c = no_call c.args.store.now _ c.commits_at_once.ensures.kept
