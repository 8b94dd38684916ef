-- A statement that begins is the protocol's.
use Rattle.std.proofs.Common.{◌≡◌, refl, sym, ap, ◌∙◌, subst, ℕ, List, [], ◌∷◌, ◌++◌, map, None}
use Rattle.std.proofs.lemmas.List.{map-append}
use Rattle.std.specs.Option.{option_map}
use Rattle.meaning.specs.declared.statement.Statement.{Statement}
use Rattle.store.specs.declared.name.Txn.{Txn}
use Rattle.protocol.specs.Desk as desk
use Rattle.protocol.specs.Language.{Name}
use Rattle.protocol.specs.Letters.{name_of, txn_name}
use Rattle.desk.specs.declared.fetches.Ask.{Ask}
use Rattle.desk.specs.declared.participant.Participant.{Participant}
use Rattle.desk.specs.declared.statement.Progress.{Progress}
use Rattle.desk.specs.declared.transaction.Reading.{Reading}
use Rattle.desk.specs.declared.transaction.Stage.{Stage}
use Rattle.desk.specs.declared.transaction.Stage.TheVariants as stage
use Rattle.desk.specs.declared.transaction.Undecided.{Undecided}
use Rattle.desk.specs.Database.{Database, language, sent}
use Rattle.desk.specs.Place.{Place}
use Rattle.desk.specs.Opening.{HaveParticipants, opens, visits}
use Rattle.desk.specs.Send.{asks_go}
use Rattle.desk.specs.Transaction.{ask_of, stage_of, undecided_of}
use Rattle.desk.specs.Statement.{ask_sites}
use Rattle.desk.specs.Does.{IsProgress}
use Rattle.desk.specs.Transition.{AreParticipants}
use Rattle.desk.proofs.SentLetters.{reading_is}
use Rattle.desk.proofs.Opened.{kept_by_visits, opens_are, visited_now}

-- the leaves of fetches, at their sites
abbrev pub ask_leaves : (db : Database) → List Ask → List Place
ask_leaves db asks = map (λ q. q.leaf) (map (ask_of db) asks)

homes_are : (db : Database) (asks : List Ask) → ask_sites asks ≡ map (λ g. g.0) (ask_leaves db asks)
homes_are db [] = refl
homes_are db (ask ∷ asks) = ap (λ rest. ask.site ∷ rest) (homes_are db asks)

-- the turn of a statement that has fetches
states_some : (db : Database) (t : Name) (u : desk.Undecided (language db)) (s : ℕ × Statement) (choice : desk.Choice (language db)) (first : Ask) (rest asks : List Ask) → asks ≡ first ∷ rest →
    desk.states t u s (map (ask_of db) asks) choice ≡ desk.after_letters (desk.opens t u (ask_leaves db asks)) (desk.asks_go t (desk.visits u (ask_leaves db asks)) s (map (ask_of db) asks))
states_some db t u s choice first rest asks some = subst (λ (x : List Ask). desk.states t u s (map (ask_of db) x) choice ≡ desk.after_letters (desk.opens t u (ask_leaves db x)) (desk.asks_go t (desk.visits u (ask_leaves db x)) s (map (ask_of db) x))) (sym some) refl

module _ (db : Database) (txn : Txn) (choice : desk.Choice (language db)) (u new : Undecided) (began : Reading) (first : Ask) (rest : List Ask) (some : began.asks.items ≡ first ∷ rest) (are : AreParticipants db u.participants) (have : HaveParticipants u.participants (ask_sites began.asks.items)) (kind : new.moves ≡ u.moves) where
  abbrev asks : List Ask
  asks = began.asks.items

  abbrev opened : List Participant
  opened = visits (ask_sites asks) u.participants

  abbrev leaves : List Place
  leaves = ask_leaves db asks

  -- after the Opens, apart from its stage
  opened_is : (st : Stage) → undecided_of db (record { participants = opened; stage = st; moves = u.moves }) ≡ record (desk.visits (undecided_of db u) leaves) { stage = stage_of db opened st }
  opened_is st = λ i. record {
    visited = λ j. visited_now db txn u.participants are u.stage u.moves leaves (ask_sites asks) (homes_are db asks) have j i;
    ticket = λ j. option_map name_of (kept_by_visits (ask_sites asks) u.participants (λ x. x.ticket) (λ x. refl) j i);
    sent = λ j. kept_by_visits (ask_sites asks) u.participants (λ x. x.sent) (λ x. refl) j i;
    stage = stage_of db opened st;
    moves = u.moves;
  }

  pub reads_is : (reading : Reading) → reading.version ≡ began.version → reading.statement ≡ began.statement → reading.asks.items ≡ (asks_go txn asks opened).left → new.participants ≡ (asks_go txn asks opened).participants → new.stage ≡ stage.Reading reading →
      (step : Progress) → step.letters.items ≡ opens txn (ask_sites asks) u.participants ++ (asks_go txn asks opened).letters → step.replies.items ≡ [] → IsProgress db txn new step (desk.states (txn_name txn) (undecided_of db u) (began.version, began.statement) (map (ask_of db) asks) choice)
  reads_is reading version statement left participants_now now step letters quiet =
      subst (IsProgress db txn new step) (sym (states_some db (txn_name txn) (undecided_of db u) (began.version, began.statement) choice first rest asks some)) (record {
        stands = ap (λ x. desk.Known (undecided_of db (record { participants = new.participants; stage = x; moves = new.moves }))) now ∙ ap (λ m. desk.Known (undecided_of db (record { participants = new.participants; stage = stage.Reading reading; moves = m }))) kind ∙ base.0 ∙ ap (λ v. (desk.asks_go (txn_name txn) v (began.version, began.statement) (map (ask_of db) asks)).txn) (opened_is (stage.Reading began));
        letters = ap (map (sent db)) letters ∙ map-append (sent db) (opens txn (ask_sites asks) u.participants) (asks_go txn asks opened).letters
            ∙ (λ i. opens_are db txn u.participants are u.stage u.moves leaves (ask_sites asks) (homes_are db asks) have i ++ (base.1 ∙ ap (λ v. (desk.asks_go (txn_name txn) v (began.version, began.statement) (map (ask_of db) asks)).letters) (opened_is (stage.Reading began))) i);
        reply = None;
        heard = quiet;
        replies = refl;
      })
    where
      base : (desk.Known (undecided_of db (record { participants = new.participants; stage = stage.Reading reading; moves = u.moves })) ≡ (desk.asks_go (txn_name txn) (undecided_of db (record { participants = opened; stage = stage.Reading began; moves = u.moves })) (began.version, began.statement) (map (ask_of db) asks)).txn)
          × (map (sent db) (asks_go txn asks opened).letters ≡ (desk.asks_go (txn_name txn) (undecided_of db (record { participants = opened; stage = stage.Reading began; moves = u.moves })) (began.version, began.statement) (map (ask_of db) asks)).letters)
      base = reading_is db txn u.moves opened new.participants (asks_go txn asks opened).letters began reading version statement left participants_now refl
