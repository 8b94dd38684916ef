-- Letters of one client's machines over a list of catalogues come, one after another, each for its reason.
use Rattle.std.proofs.Common.{◌≡◌, sym, ap, ◌∙◌, subst, Bool, false, ℕ, suc, List, [], ◌∷◌, ◌++◌, map, append_assoc}
use Rattle.std.proofs.lemmas.List.{append-nil, map-append}
use Rattle.std.proofs.lemmas.List.Elements.{filter_map-append}
use Rattle.std.specs.List.{filter_map}
use Rattle.store.specs.declared.letter.Letter as letters
use Rattle.protocol.specs.Delivery.{AllFounded, CallKept, Coming, FirstIsFounded, Passed_over, Taken, Turned_away}
use Rattle.protocol.specs.Desk.{Choice, Deed, Give_up}
use Rattle.protocol.specs.Rounds.{InRound}
use Rattle.protocol.specs.Serial.{Explained}
use Rattle.protocol.specs.World.{World}
use Rattle.protocol.proofs.Rounds.{round_law}
use Rattle.desk.specs.declared.reply.Notice.{Notice}
use Rattle.desk.specs.Database.{Database, language, sent}
use Rattle.desk.specs.State.{desk_of, notice_of}
use Rattle.desk.specs.Transition.{told}
use Rattle.world.specs.Listed.{FitsList, ListAsked, ListCame, ListLeads}
use Rattle.world.specs.Machines.{AreOfPlaces, Machines, world_of}
use Rattle.world.specs.Sites.{has_site}
use Rattle.world.specs.Mailbox.{ListComes, Scene, all_come, come, done_with}
use Rattle.world.specs.Reasons.{HasReason, TurnsAway}
use Rattle.world.specs.Taking.{IsInRound, ListIsDone}
use Rattle.world.proofs.Deliveries.{all_come_append, founded_append, founded_here, one_left}
use Rattle.world.proofs.Placed.{placed_both}
use Rattle.world.proofs.Reasoned.{turned_ranks}
use Rattle.world.proofs.Running.{all_both}

module _ (db : Database) where
  -- no letter comes
  pub nothing_comes : (here : Scene) → FitsList db here.machines → ListComes db here here
  nothing_comes here fit = record {
    comings = [];
    deeds = [];
    fit = fit;
    is = λ past. ap (world_of db here.machines (map (sent db) here.waiting)) (sym (append-nil past));
    placed = λ placed. placed;
    founded = λ placed past. tt;
    explained = tt;
    replies = sym (append-nil (map notice_of here.heard));
  }

  -- the same scene
  pub alike_comes : (here there : Scene) → there.machines ≡ here.machines → there.waiting ≡ here.waiting → there.heard ≡ here.heard → FitsList db here.machines → ListComes db here there
  alike_comes here there machines waiting heard fit = subst (ListComes db here) (λ i. record { machines = sym machines i; waiting = sym waiting i; heard = sym heard i }) (nothing_comes here fit)

  -- with nothing left all have come
  pub comes_settled : (first here : Scene) → ListComes db first here → here.waiting ≡ [] → ListComes db first (record { machines = here.machines; waiting = []; heard = here.heard })
  comes_settled first here comes none = subst (λ (waiting : List letters.Letter). ListComes db first (record { machines = here.machines; waiting = waiting; heard = here.heard })) none comes

  -- some come, and then others
  pub then_comes : (first second third : Scene) → ListComes db first second → ListComes db second third → ListComes db first third
  then_comes first second third one other =
      let start : List (Deed (language db)) → World (language db) = λ past. world_of db first.machines (map (sent db) first.waiting) past in
      record {
        comings = one.comings ++ other.comings;
        deeds = one.deeds ++ other.deeds;
        fit = other.fit;
        is = λ past.
            all_come_append one.comings other.comings (start past)
            ∙ ap (all_come other.comings) (one.is past)
            ∙ other.is (past ++ one.deeds)
            ∙ ap (world_of db third.machines (map (sent db) third.waiting)) (append_assoc past one.deeds other.deeds);
        placed = λ placed. other.placed (one.placed placed);
        founded = λ placed past. founded_append db one.comings other.comings (start past) (one.founded placed past) (subst (AllFounded other.comings) (sym (one.is past)) (other.founded (one.placed placed) (past ++ one.deeds)));
        explained = all_both Explained one.deeds other.deeds one.explained other.explained;
        replies = other.replies
            ∙ ap (λ heard. heard ++ filter_map (told db) other.deeds) one.replies
            ∙ append_assoc (map notice_of first.heard) (filter_map (told db) one.deeds) (filter_map (told db) other.deeds)
            ∙ ap (λ more. map notice_of first.heard ++ more) (sym (filter_map-append (told db) one.deeds other.deeds));
      }

  module _ (letter : letters.Letter) (before after : Machines) (out : List letters.Letter) (notices : List Notice) where
    -- what becomes of a letter: it is taken
    pub list_taken : (kept : Bool) → ListCame db letter kept before after out notices → CallKept kept (sent db letter).body → ListIsDone db letter before after out notices
    list_taken kept came ends = record { coming = Taken kept came.choice; reason = (came.within, ends); leads = came.leads }

    -- it is passed over
    pub list_passed : FitsList db before → has_site db.sites letter.site ≡ false → after ≡ before → out ≡ [] → notices ≡ [] → ListIsDone db letter before after out notices
    list_passed fit unsent same none silent = record {
      coming = Passed_over;
      reason = unsent;
      leads = record {
        deeds = [];
        fit = subst (FitsList db) (sym same) fit;
        is = λ waiting past i. world_of db (sym same i) ((sym (append-nil waiting) ∙ ap (λ (put : List letters.Letter). waiting ++ map (sent db) put) (sym none)) i) (sym (append-nil past) i);
        placed = subst (AreOfPlaces db) (sym none) tt;
        explained = tt;
        replies = ap (map notice_of) silent;
      };
    }

    -- it is turned away, and its transaction given up
    pub list_turned : (mid : Machines) (choice : Choice (language db)) → mid ≡ before → TurnsAway db before letter → ListAsked db letter.txn choice Give_up mid after out notices → ListIsDone db letter before after out notices
    list_turned mid choice same why asked = record {
      coming = Turned_away choice;
      reason = why;
      leads = subst (λ (m : Machines). ListLeads db (done_with (sent db letter) (Turned_away choice)) m after out notices) same asked.leads;
    }

  -- a letter that is in front comes
  module _ (letter : letters.Letter) (here : Scene) (after : Machines) (rest out : List letters.Letter) (notices : List Notice) (in_front : here.waiting ≡ letter ∷ rest) (done : ListIsDone db letter here.machines after out notices) where
    is_next : (past : List (Deed (language db))) → come (world_of db here.machines (map (sent db) here.waiting) past) done.coming ≡ world_of db after (map (sent db) (rest ++ out)) (past ++ done.leads.deeds)
    is_next past =
        ap (λ waiting. come (world_of db here.machines (map (sent db) waiting) past) done.coming) in_front
        ∙ done.leads.is (map (sent db) rest) past
        ∙ ap (λ waiting. world_of db after waiting (past ++ done.leads.deeds)) (sym (map-append (sent db) rest out))

    placed_in_front : AreOfPlaces db here.waiting → AreOfPlaces db (letter ∷ rest)
    placed_in_front placed = subst (AreOfPlaces db) in_front placed

    pub letter_comes : (there : Scene) → there.machines ≡ after → there.waiting ≡ rest ++ out → there.heard ≡ here.heard ++ notices → ListComes db here there
    letter_comes there machines waiting heard = record {
      comings = done.coming ∷ [];
      deeds = done.leads.deeds;
      fit = subst (FitsList db) (sym machines) done.leads.fit;
      is = λ past. is_next past ∙ (λ i. world_of db (sym machines i) (map (sent db) (sym waiting i)) (past ++ done.leads.deeds));
      placed = λ placed. subst (AreOfPlaces db) (sym waiting) (placed_both db rest out (placed_in_front placed).1 done.leads.placed);
      founded = λ placed past. (
        subst (λ (waiting : List letters.Letter). FirstIsFounded (world_of db here.machines (map (sent db) waiting) past) done.coming (map (sent db) waiting)) (sym in_front)
            (founded_here db here.machines letter (map (sent db) (letter ∷ rest)) past done.coming (placed_in_front placed).0 done.reason),
        tt,
      );
      explained = done.leads.explained;
      replies = ap (map notice_of) heard ∙ map-append notice_of here.heard notices ∙ ap (λ more. map notice_of here.heard ++ more) done.leads.replies;
    }

    -- and the letters of the round grow fewer
    pub letter_ranked : FitsList db here.machines → (there : Scene) → there.machines ≡ after → there.waiting ≡ rest ++ out → (n i : ℕ) → IsInRound db n (suc i) here → IsInRound db n i there
    letter_ranked fit there machines waiting n i ranked =
        let w = world_of db here.machines (map (sent db) rest) [] in
        let in_front_ranked : InRound w.desk.txn n (suc i) (sent db letter ∷ map (sent db) rest) = subst (λ (all : List letters.Letter). InRound w.desk.txn n (suc i) (map (sent db) all)) in_front ranked in
        let Ranked : World (language db) → Type 0 = λ v. InRound v.desk.txn n i v.letters in
        subst (λ (m : Machines). InRound (desk_of db m.table).txn n i (map (sent db) there.waiting)) (sym machines)
        (subst (λ (all : List letters.Letter). InRound (desk_of db after.table).txn n i (map (sent db) all)) (sym waiting)
        (subst Ranked (done.leads.is (map (sent db) rest) [] ∙ ap (λ waiting. world_of db after waiting ([] ++ done.leads.deeds)) (sym (map-append (sent db) rest out)))
        (after_letter done.coming done.reason in_front_ranked)))
      where
        after_letter : (coming : Coming (language db)) → HasReason db here.machines letter coming → InRound (desk_of db here.machines.table).txn n (suc i) (sent db letter ∷ map (sent db) rest) →
            InRound (done_with (sent db letter) coming (world_of db here.machines (map (sent db) rest) [])).desk.txn n i (done_with (sent db letter) coming (world_of db here.machines (map (sent db) rest) [])).letters
        after_letter (Taken kept choice) reason all = (round_law {L = language db}).goes_on (world_of db here.machines (sent db letter ∷ map (sent db) rest) []) n i kept choice all
        after_letter (Turned_away choice) reason all =
            let two = turned_ranks db here.machines letter fit reason in
            let few = all.0 in
            (round_law {L = language db}).given_up (world_of db here.machines (map (sent db) rest) []) n i (sent db letter).txn choice (one_left _ n two few) all.1
        after_letter Passed_over reason all = all.1
