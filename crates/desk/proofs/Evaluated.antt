-- A statement that is evaluated is the protocol's.
use Rattle.std.proofs.Common.{◌≡◌, refl, sym, ap, ◌∙◌, subst, ℕ, List, [], ◌∷◌, ◌++◌, map, Some, None}
use Rattle.std.proofs.lemmas.List.{map-append}
use Rattle.std.specs.List.{filter_map}
use Rattle.std.specs.Option.{option_map}
use Rattle.meaning.specs.declared.statement.Statement.{Statement}
use Rattle.store.specs.declared.name.Txn.{Txn}
use Rattle.protocol.specs.Desk as desk
use Rattle.protocol.specs.Language.{Lang, Name}
use Rattle.protocol.specs.Letter as protocol
use Rattle.protocol.specs.Letters.{name_of, txn_name}
use Rattle.desk.specs.declared.reply.Reply.TheVariants as reply
use Rattle.desk.specs.declared.participant.Participant.{Participant}
use Rattle.desk.specs.declared.statement.Progress.{Progress}
use Rattle.desk.specs.declared.transaction.Stage.{Stage}
use Rattle.desk.specs.declared.transaction.Stage.TheVariants as stage
use Rattle.desk.specs.declared.transaction.Undecided.{Undecided}
use Rattle.desk.specs.declared.transaction.Unsent.{Unsent}
use Rattle.desk.specs.declared.transaction.Writing.{Writing}
use Rattle.desk.specs.Database.{Database, language, sent}
use Rattle.desk.specs.Place.{Place}
use Rattle.desk.specs.Opening.{HaveParticipants, opens, visits}
use Rattle.desk.specs.Send.{writes_go}
use Rattle.desk.specs.Transaction.{stage_of, undecided_of, write_of}
use Rattle.desk.specs.Statement.{answer_of, write_sites}
use Rattle.desk.specs.Does.{IsProgress}
use Rattle.desk.specs.Request.{notices}
use Rattle.desk.specs.Transition.{AreParticipants, told}
use Rattle.desk.proofs.SentLetters.{waiting_is, answered_is}
use Rattle.desk.proofs.Opened.{kept_by_visits, opens_are, opens_none, visited_now, visits_none}

-- the leaves of writes, at their sites
abbrev pub write_leaves : List Unsent → List Place
write_leaves ws = map (λ x. x.0) (map write_of ws)

homes_are : (ws : List Unsent) → write_sites ws ≡ map (λ g. g.0) (write_leaves ws)
homes_are [] = refl
homes_are (w ∷ ws) = ap (λ rest. w.site ∷ rest) (homes_are ws)

-- the stage before says nothing of the one after
writing_apart : (L : Lang) (t : Name) (v : desk.Undecided L) (st : desk.Stage L) (answer : L.Answer) (counts : L.Site → ℕ) (left : List (L.Leaf × L.Write)) (letters : List (protocol.Letter L)) → desk.writing t (record v { stage = st }) answer counts left letters ≡ desk.writing t v answer counts left letters
writing_apart L t v st answer counts [] letters = refl
writing_apart L t v st answer counts (x ∷ left) letters = refl

module _ (db : Database) (txn : Txn) (u new : Undecided) (began : Writing) (s : ℕ × Statement) (asks : List (desk.Ask (language db))) (are : AreParticipants db u.participants) (have : HaveParticipants u.participants (write_sites began.unsent.items)) (kind : new.moves ≡ u.moves) (step : Progress)
    (participants_now : new.participants ≡ (writes_go txn began.unsent.items (visits (write_sites began.unsent.items) u.participants)).participants) (letters : step.letters.items ≡ opens txn (write_sites began.unsent.items) u.participants ++ (writes_go txn began.unsent.items (visits (write_sites began.unsent.items) u.participants)).letters) where
  abbrev ws : List Unsent
  ws = began.unsent.items

  abbrev opened : List Participant
  opened = visits (write_sites ws) u.participants

  abbrev at_work : desk.Transition (language db)
  at_work = desk.works (txn_name txn) (undecided_of db u) s asks (began.answer, map write_of ws)

  -- after the Opens, apart from its stage
  opened_is : (st : Stage) → undecided_of db (record { participants = opened; stage = st; moves = u.moves }) ≡ record (desk.visits (undecided_of db u) (write_leaves ws)) { stage = stage_of db opened st }
  opened_is st = λ i. record {
    visited = λ j. visited_now db txn u.participants are u.stage u.moves (write_leaves ws) (write_sites ws) (homes_are ws) have j i;
    ticket = λ j. option_map name_of (kept_by_visits (write_sites ws) u.participants (λ x. x.ticket) (λ x. refl) j i);
    sent = λ j. kept_by_visits (write_sites ws) u.participants (λ x. x.sent) (λ x. refl) j i;
    stage = stage_of db opened st;
    moves = u.moves;
  }

  -- the writes that go out, from either
  abbrev goes : desk.Undecided (language db) → desk.Transition (language db)
  goes v = desk.writes_go (txn_name txn) v began.answer (map write_of ws)

  goes_as : goes (undecided_of db (record { participants = opened; stage = stage.Writing began; moves = u.moves })) ≡ goes (desk.visits (undecided_of db u) (write_leaves ws))
  goes_as =
      let v = desk.visits (undecided_of db u) (write_leaves ws) in
      let out = desk.writes_out {L = language db} (txn_name txn) v.ticket (map write_of ws) v.sent in
      ap goes (opened_is (stage.Writing began)) ∙ writing_apart (language db) (txn_name txn) v (stage_of db opened (stage.Writing began)) began.answer out.sent out.left out.letters

  all_letters : map (sent db) (writes_go txn ws opened).letters ≡ (goes (undecided_of db (record { participants = opened; stage = stage.Writing began; moves = u.moves }))).letters → map (sent db) step.letters.items ≡ at_work.letters
  all_letters out = ap (map (sent db)) letters ∙ map-append (sent db) (opens txn (write_sites ws) u.participants) (writes_go txn ws opened).letters
      ∙ (λ i. opens_are db txn u.participants are u.stage u.moves (write_leaves ws) (write_sites ws) (homes_are ws) have i ++ (out ∙ ap (λ turn. turn.letters) goes_as) i)

  pub works_waiting : (after : Writing) → after.answer ≡ began.answer → (first : Unsent) (rest : List Unsent) → after.unsent.items ≡ first ∷ rest → after.unsent.items ≡ (writes_go txn ws opened).left → new.stage ≡ stage.Writing after → step.replies.items ≡ [] → IsProgress db txn new step at_work
  works_waiting after answer first rest some left now quiet =
      let base = waiting_is db txn u.moves opened new.participants (writes_go txn ws opened).letters began participants_now refl after answer first rest some left in
      record {
        stands = ap (λ x. desk.Known (undecided_of db (record { participants = new.participants; stage = x; moves = new.moves }))) now ∙ ap (λ m. desk.Known (undecided_of db (record { participants = new.participants; stage = stage.Writing after; moves = m }))) kind ∙ base.0 ∙ ap (λ turn. turn.txn) goes_as;
        letters = all_letters base.1;
        reply = None;
        heard = quiet;
        replies = sym (ap (filter_map (told db)) (sym (ap (λ turn. turn.deeds) goes_as) ∙ base.2));
      }

  pub works_answered : [] ≡ (writes_go txn ws opened).left → new.stage ≡ stage.Idle → step.replies.items ≡ notices txn (Some (reply.Answer began.answer)) → IsProgress db txn new step at_work
  works_answered none now answers =
      let base = answered_is db txn u.moves opened new.participants (writes_go txn ws opened).letters began participants_now refl none in
      record {
        stands = ap (λ x. desk.Known (undecided_of db (record { participants = new.participants; stage = x; moves = new.moves }))) now ∙ ap (λ m. desk.Known (undecided_of db (record { participants = new.participants; stage = stage.Idle; moves = m }))) kind ∙ base.0 ∙ ap (λ turn. turn.txn) goes_as;
        letters = all_letters base.1;
        reply = Some (reply.Answer began.answer);
        heard = answers;
        replies = sym (ap (filter_map (told db)) (sym (ap (λ turn. turn.deeds) goes_as) ∙ base.2));
      }

  -- whichever it is
  pub works_is : (left : List Unsent) (after : Writing) → after.answer ≡ began.answer → after.unsent.items ≡ left → left ≡ (writes_go txn ws opened).left →
      (left ≡ [] → new.stage ≡ stage.Idle) → ((first : Unsent) (rest : List Unsent) → left ≡ first ∷ rest → new.stage ≡ stage.Writing after) → step.replies.items ≡ answer_of txn began.answer left → IsProgress db txn new step at_work
  works_is [] after answer items left answered waits replies = works_answered left (answered refl) replies
  works_is (first ∷ rest) after answer items left answered waits replies = works_waiting after answer first rest items (items ∙ left) (waits first rest refl) replies

-- where it writes nothing, its answer is all
pub works_nothing : (db : Database) (txn : Txn) (u new : Undecided) (began : Writing) (s : ℕ × Statement) (asks : List (desk.Ask (language db))) → AreParticipants db u.participants → began.unsent.items ≡ [] → new.moves ≡ u.moves → (step : Progress) → new.participants ≡ u.participants → new.stage ≡ stage.Idle → step.letters.items ≡ [] →
    step.replies.items ≡ notices txn (Some (reply.Answer began.answer)) → IsProgress db txn new step (desk.works (txn_name txn) (undecided_of db u) s asks (began.answer, map write_of began.unsent.items))
works_nothing db txn u new began s asks are none kind step participants idle letters replies =
    works_answered db txn u new began s asks are (subst (λ ws. HaveParticipants u.participants (write_sites ws)) (sym none) tt) kind step
    (participants ∙ sym (visits_none u.participants) ∙ ap (λ ws. (writes_go txn ws (visits (write_sites ws) u.participants)).participants) (sym none))
    (letters ∙ (λ i. sym (opens_none txn u.participants) i ++ []) ∙ ap (λ ws. opens txn (write_sites ws) u.participants ++ (writes_go txn ws (visits (write_sites ws) u.participants)).letters) (sym none))
    (ap (λ ws. (writes_go txn ws (visits (write_sites ws) u.participants)).left) (sym none)) idle replies
