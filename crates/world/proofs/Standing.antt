-- Where a client's database stands after a command, whatever was refused on the way.
use Rattle.std.proofs.Common.{◌≡◌, sym, ap, ◌∙◌, subst, ℕ, Bool, true, List, [], ◌∷◌, ◌++◌, map, ◌⊎◌, inl, inr, ⊎_elim, Option, Some, None, Result, if◌then◌else◌}
use Rattle.meaning.specs.declared.schema.RelationSchema.{RelationSchema}
use Rattle.meaning.specs.Whole.{Relations}
use Rattle.store.specs.Content.{Content}
use Rattle.store.specs.declared.name.Txn.{Txn}
use Rattle.protocol.specs.Client.{IsQuiet, ReachedLaw}
use Rattle.protocol.specs.Desk.{Deed}
use Rattle.protocol.specs.Letters.{txn_name}
use Rattle.protocol.specs.WithoutRefusal.{Ready}
use Rattle.protocol.specs.World.{World}
use Rattle.protocol.proofs.Basics.{clash}
use Rattle.desk.specs.declared.refusal.Refusal.{Refusal}
use Rattle.desk.specs.declared.reply.Notice.{Notice}
use Rattle.desk.specs.declared.reply.Reply.TheVariants.{Answer, Begun}
use Rattle.desk.specs.Database.{Database, language}
use Rattle.desk.specs.Place.{Place}
use Rattle.desk.specs.State.{notice_of}
use Rattle.world.specs.Client.{DoesBegin, DoesState, IsServed, is_end, still_open, tells}
use Rattle.world.specs.Commands.{IsCommand, IsDecided, IsLone, IsStated, IsTakenBack}
use Rattle.world.specs.Course.{Begins, Made, Move, States}
use Rattle.world.specs.Executed.{ObeysUnlessRefused, Stands}
use Rattle.world.specs.Machines.{Machines}
use Rattle.world.specs.Mailbox.{IsStill}
use Rattle.world.specs.Settling.{GrowsQuiet}
use Rattle.world.specs.Smoothly.{rests}
use Rattle.world.proofs.Deeds.{move_served, still_served}
use Rattle.world.proofs.Denials.{no_commit, no_rollback}
use Rattle.world.proofs.Executed.{not_ended, still_there, tells_more}
use Rattle.world.proofs.Smoothly.{ready_at}
use Rattle.world.proofs.Moves.{back_cases, command_cases, decided_cases, lone_cases, refragmented_cases, stated_cases}

-- where a database stands doesn't hang on what happened before
pub stands_whenever : (db : Database) (fits : Place → Content → Bool) (current : Option Txn) (machines : Machines) (past other : List (Deed (language db))) → Stands db fits current machines past → Stands db fits current machines other
stands_whenever db fits None machines past other quiet = record { silent = quiet.silent; calm = quiet.calm; decided = quiet.decided }
stands_whenever db fits (Some txn) machines past other ready =
    let steady = ready.steady in
    let stands = steady.stands in
    record {
      steady = record {
        u = steady.u;
        known = steady.known;
        idle = steady.idle;
        stands = record { alone = stands.alone; others = stands.others; among = stands.among; spots = stands.spots };
        silent = steady.silent;
      };
      fitting = record { sites = ready.fitting.sites; letters = ready.fitting.letters; txns = ready.fitting.txns };
    }

-- nothing has been done
pub stands_still : (db : Database) (fits : Place → Content → Bool) (current : Option Txn) (before after : Machines) (past : List (Deed (language db))) → IsStill db before after → Stands db fits current before past → Stands db fits current after past
stands_still db fits None before after past still quiet = subst IsQuiet (sym (ap (λ (w : World (language db)). record w { past = past }) still.same)) quiet
stands_still db fits (Some txn) before after past still ready =
    ready_at before.table.version after.table.version (txn_name txn) (rests db after past) (subst (Ready (language db) before.table.version fits (txn_name txn)) (sym (ap (λ (w : World (language db)). record w { past = past }) still.same)) ready)

module _ (db : Database) (fits : Place → Content → Bool) (reached : ReachedLaw (language db)) (obeys : ObeysUnlessRefused db fits) (law : GrowsQuiet db fits) (whole : Relations) where
  -- what a client's transaction may be answered: it stays ready, or it has ended and its client hears so
  abbrev IsAfterStatement : Txn → Machines → List Notice → List (Deed (language db)) → Type 0
  IsAfterStatement txn machines answered past =
      (Stands db fits (Some txn) machines past × ((answer : (language db).Answer) × (map notice_of answered ≡ (txn_name txn, Answer answer) ∷ []))) ⊎ (Stands db fits None machines past × (tells is_end answered ≡ true))

  module _ (past : List (Deed (language db))) where
    -- the machines at the end of moves are those in the middle
    at_end : (current : Option Txn) (middle after : Machines) → after ≡ middle → Stands db fits current middle past → Stands db fits current after past
    at_end current middle after same stands = subst (λ (m : Machines). Stands db fits current m past) (sym same) stands

    -- ---- calls
    pub stated : (text : List ℕ) (txn : Txn) (before after : Machines) (heard : List Notice) → IsServed db whole before past → Stands db fits (Some txn) before past → (does : DoesState db text txn before after heard) → IsAfterStatement txn after heard past
    stated text txn before after heard served ready does =
        let more = past ++ does.asks.serves.deeds in
        ⊎_elim (λ is. inl (stands_whenever db fits (Some txn) after more past is.0, is.1)) (λ is. inr (stands_whenever db fits None after more past is.0, is.1))
        (law.states whole before after past (txn_name txn) does.statement does.asks.choice heard served ready does.fits does.asks.within does.asks.serves)

    pub begun : (txn : Txn) (before after : Machines) (heard : List Notice) → IsServed db whole before past → Stands db fits None before past → DoesBegin db before txn after heard → Stands db fits (Some txn) after past × (map notice_of heard ≡ (txn_name txn, Begun) ∷ [])
    begun txn before after heard served quiet does = let done = obeys.begins whole before after past txn heard served quiet does in (stands_whenever db fits (Some txn) after (past ++ done.0.deeds) past done.0.stands, done.1)

    -- ---- a lone statement
    pub back_stands : (txn : Txn) (before after : Machines) → IsServed db whole before past → Stands db fits (Some txn) before past → (moves : List Move) → IsTakenBack txn moves → Made db moves before after → Stands db fits None after past
    back_stands txn before after served ready = back_cases txn (λ moves. Made db moves before after → Stands db fits None after past)
        (λ heard made.
        let does = made.1 in
        at_end None made.0 after made.2 (stands_whenever db fits None made.0 (past ++ does.serves.deeds) past (law.rolls_back whole before made.0 past (txn_name txn) does.choice heard served ready does.serves)))
        (λ told made. absurd (no_rollback db fits txn before past told ready made.1.0))

  pub decided_stands : (past : List (Deed (language db))) (txn : Txn) (greeted answered : List Notice) (reply : Result (List Notice) Refusal) (before after : Machines) → IsServed db whole before past → map notice_of greeted ≡ (txn_name txn, Begun) ∷ [] → IsAfterStatement txn before answered past →
      (moves : List Move) → IsDecided txn (greeted ++ answered) moves reply → Made db moves before after → Stands db fits None after past
  decided_stands past txn greeted answered reply before after served is_greeted (inl is) = decided_cases txn (greeted ++ answered) reply (λ moves. Made db moves before after → Stands db fits None after past)
      (λ ended heard same. clash ended (not_ended txn answered is.1.0 is.1.1 greeted is_greeted))
      (λ decided goes heard made.
      let does = made.1 in
      at_end past None made.0 after made.2 (stands_whenever db fits None made.0 (past ++ does.serves.deeds) past (law.commits whole before made.0 past (txn_name txn) does.choice decided served is.0 does.serves)))
      (λ why back goes taken told made. absurd (no_commit db fits txn before past why is.0 made.1.0))
  decided_stands past txn greeted answered reply before after served is_greeted (inr is) = decided_cases txn (greeted ++ answered) reply (λ moves. Made db moves before after → Stands db fits None after past)
      (λ ended heard same. at_end past None before after same is.0)
      (λ decided goes heard made. clash (tells_more greeted answered is.1) goes)
      (λ why back goes taken told made. clash (tells_more greeted answered is.1) goes)

  pub stated_stands : (past : List (Deed (language db))) (text : List ℕ) (txn : Txn) (greeted : List Notice) (reply : Result (List Notice) Refusal) (before after : Machines) → IsServed db whole before past → Stands db fits (Some txn) before past → map notice_of greeted ≡ (txn_name txn, Begun) ∷ [] →
      (moves : List Move) → IsStated text txn greeted moves reply → Made db moves before after → Stands db fits None after past
  stated_stands past text txn greeted reply before after served ready is_greeted = stated_cases text txn greeted reply (λ moves. Made db moves before after → Stands db fits None after past)
      (λ answered moves decided made.
      let more = past ++ made.1.asks.serves.deeds in
      let there = stated past text txn before made.0 answered served ready made.1 in
      let there_more = ⊎_elim (λ is. inl (stands_whenever db fits (Some txn) made.0 past more is.0, is.1)) (λ is. inr (stands_whenever db fits None made.0 past more is.0, is.1)) there in
      stands_whenever db fits None after more past (decided_stands more txn greeted answered reply made.0 after (move_served db whole reached (States txn text answered) before made.0 past served made.1) is_greeted there_more moves decided made.2))
      (λ why back taken told made. back_stands past txn made.0 after (still_served db whole before made.0 past served made.1.1) (stands_still db fits (Some txn) before made.0 past made.1.1 ready) back taken made.2)

  pub lone_stands : (past : List (Deed (language db))) (text : List ℕ) (reply : Result (List Notice) Refusal) (before after : Machines) → IsServed db whole before past → Stands db fits None before past → (moves : List Move) → IsLone text moves reply → Made db moves before after → Stands db fits None after past
  lone_stands past text reply before after served quiet = lone_cases text reply (λ moves. Made db moves before after → Stands db fits None after past)
      (λ txn greeted moves is made.
      let more = past ++ made.1.serves.deeds in
      let done = begun past txn before made.0 greeted served quiet made.1 in
      stands_whenever db fits None after more past (stated_stands more text txn greeted reply made.0 after (move_served db whole reached (Begins txn greeted) before made.0 past served made.1) (stands_whenever db fits (Some txn) made.0 past more done.0) done.1 moves is made.2))
      (λ why told made. at_end past None made.0 after made.2 (stands_still db fits None before made.0 past made.1.1 quiet))

  -- ---- any command
  module _ (past : List (Deed (language db))) (schemas : List RelationSchema) (text : List ℕ) (current later : Option Txn) (reply : Result (List Notice) Refusal) (before after : Machines) (served : IsServed db whole before past) (stands : Stands db fits current before past) where
    as_open : (c d : Option Txn) (machines : Machines) → c ≡ d → Stands db fits c machines past → Stands db fits d machines past
    as_open c d machines same on = subst (λ (x : Option Txn). Stands db fits x machines past) same on

    pub command_stands : (moves : List Move) → IsCommand schemas text current later moves reply → Made db moves before after → Stands db fits later after past
    command_stands = command_cases schemas text current later reply (λ moves. Made db moves before after → Stands db fits later after past)
        (λ still told is misplaced same. at_end past later before after same (as_open current later before (sym still) stands))
        (λ txn heard is some says made. at_end past later made.0 after made.2 (as_open (Some txn) later made.0 (sym some) (begun past txn before made.0 heard served (as_open current None before is.1 stands) made.1).0))
        (λ txn given heard is still says made.
        let here = as_open current (Some txn) before is.1 stands in
        let opens : later ≡ still_open (Some txn) heard = still ∙ ap (λ (c : Option Txn). still_open c heard) is.1 in
        at_end past later made.0 after made.2 (⊎_elim
        (λ ready. as_open (Some txn) later made.0 (sym (opens ∙ still_there txn heard ready.1.0 ready.1.1)) ready.0)
        (λ ended. as_open None later made.0 (sym (opens ∙ ap (λ (b : Bool). if b then None else Some txn) ended.1)) ended.0)
        (stated past given txn before made.0 heard served here made.1)))
        (λ txn heard is none says made.
        let does = made.1 in
        at_end past later made.0 after made.2 (as_open None later made.0 (sym none) (stands_whenever db fits None made.0 (past ++ does.serves.deeds) past
        (law.commits whole before made.0 past (txn_name txn) does.choice heard served (as_open current (Some txn) before is.1 stands) does.serves))))
        (λ txn heard is none says made.
        let does = made.1 in
        at_end past later made.0 after made.2 (as_open None later made.0 (sym none) (stands_whenever db fits None made.0 (past ++ does.serves.deeds) past
        (law.rolls_back whole before made.0 past (txn_name txn) does.choice heard served (as_open current (Some txn) before is.1 stands) does.serves))))
        (λ asked told is still says made. at_end past later made.0 after made.2 (as_open current later made.0 (sym still) (stands_still db fits current before made.0 past made.1.1 stands)))
        (λ moves statement spelled ordinary none after_none is made. as_open None later after (sym after_none) (lone_stands past text reply before after served (as_open current None before none stands) moves is made))
        (λ moves refragment spelled none after_none. refragmented_cases text reply (λ moves. Made db moves before after → Stands db fits later after past) (λ came more is made. absurd made.1) moves)
