-- Steps of one client's machines, one after another.
use Rattle.std.proofs.Common.{◌≡◌, ◌≤◌, arith, refl, sym, ap, ◌∙◌, subst, Bool, false, ℕ, suc, true, List, [], ◌∷◌, ◌++◌, map, length, append_assoc, Some, inl, inr, ⊎_elim}
use Rattle.std.proofs.lemmas.List.{append-nil, length-map, map-append}
use Rattle.std.proofs.lemmas.List.Elements.{filter_map-append}
use Rattle.std.specs.List.{filter_map}
use Rattle.store.specs.declared.letter.Letter as letters
use Rattle.protocol.specs.Desk.{Choice, Deed, Give_up}
use Rattle.protocol.specs.Home.{IsHomed}
use Rattle.protocol.specs.Language.{Lang}
use Rattle.protocol.specs.Letter.{Letter, is_for_desk}
use Rattle.protocol.specs.Rounds.{InRound, RanksUnder}
use Rattle.protocol.specs.Serial.{Explained}
use Rattle.protocol.specs.Letters.{txn_name}
use Rattle.protocol.specs.World.{World, called}
use Rattle.protocol.proofs.Basics.{some_is}
use Rattle.protocol.proofs.Rounds.{round_law}
use Rattle.desk.specs.declared.refusal.Refusal.{Refusal}
use Rattle.desk.specs.declared.refusal.Refusal.TheVariants as refusals
use Rattle.desk.specs.declared.reply.Notice.{Notice}
use Rattle.desk.specs.declared.reply.Out.{Out}
use Rattle.desk.specs.Database.{Database, IsPlace, language, sent}
use Rattle.desk.specs.State.{desk_of, notice_of}
use Rattle.desk.specs.Transition.{told}
use Rattle.site.specs.declared.fault.SiteFault.TheVariants as site_faults
use Rattle.protocol.specs.Delivery.{AllFounded, FirstIsFounded, IsFounded, IsKept}
use Rattle.world.specs.declared.fault.Fault.{Fault}
use Rattle.world.specs.declared.fault.Fault.TheVariants as faults
use Rattle.world.specs.Counted.{HaveRefused, KeptUnless, NoFewer}
use Rattle.world.specs.Mailbox.{Ask, AsksForNow, Breaks, Coming, Fails, Goes, Passed_over, Scene, Serves, Taken, Turned_away, all_come, asked, at_rest, come, done_with, settled}
use Rattle.world.specs.Machines.{AreFit, AreOfPlaces, Leads, Machines, world_of}
use Rattle.world.specs.Sites.{has_site}
use Rattle.world.specs.Taking.{CameUnless, IsDone, IsInRound, put_out_by, stop_of, world_at}
use Rattle.world.specs.Reasons.{HasReason, TurnsAway}
use Rattle.world.specs.Stopping.{is_stop}
use Rattle.world.proofs.Reasoned.{same_passes, turned_ranks}
use Rattle.world.proofs.Counting.{fit_counted, kept_then, leads_counted, no_fewer, no_fewer_then, with_counts}
use Rattle.world.proofs.Machinery.{fits_list}
use Rattle.world.proofs.Placed.{placed_both}
use Rattle.world.proofs.Running.{all_both}

pub all_come_append : {L : Lang} (one other : List (Coming L)) (w : World L) → all_come (one ++ other) w ≡ all_come other (all_come one w)
all_come_append [] other w = refl
all_come_append (c ∷ one) other w = all_come_append one other (come w c)

pub founded_append : (db : Database) (one other : List (Coming (language db))) (w : World (language db)) → AllFounded one w → AllFounded other (all_come one w) → AllFounded (one ++ other) w
founded_append db [] other w first second = second
founded_append db (c ∷ one) other w first second = (first.0, founded_append db one other (come w c) first.1 second)

-- no letter comes
pub nothing_goes : (db : Database) (here : Scene) → AreFit db here.machines → Goes db (λ w. w) here here
nothing_goes db here fit = record {
  comings = [];
  deeds = [];
  fit = fit;
  is = λ past. ap (world_of db here.machines (map (sent db) here.waiting)) (sym (append-nil past));
  version = refl;
  placed = λ placed. placed;
  founded = λ placed past. tt;
  counts = no_fewer here.machines.refused;
  kept = inl tt;
  explained = tt;
  replies = sym (append-nil (map notice_of here.heard));
}

-- a, b: how often stores have refused before and after
pub nothing_breaks : (db : Database) (before after : Machines) (a b : List ℕ) (waiting : List letters.Letter) (heard : List Notice) → after ≡ before → AreFit db before → Breaks db (λ w. w) (record { machines = with_counts before a; waiting = waiting; heard = heard }) (with_counts after b)
nothing_breaks db before after a b waiting heard same fit = record {
  comings = [];
  deeds = [];
  left = map (sent db) waiting;
  fit = fit_counted db after b (subst (AreFit db) (sym same) fit);
  is = λ past i. world_of db (sym same i) (map (sent db) waiting) (sym (append-nil past) i);
  version = ap (λ (m : Machines). m.table.version) same;
  explained = tt;
}

-- one step after another
module _ (db : Database) (step : World (language db) → World (language db)) (first second : Scene) (one : Goes db step first second) where
  pub then_goes : (third : Scene) → Goes db (λ w. w) second third → Goes db step first third
  then_goes third other = record {
    comings = one.comings ++ other.comings;
    deeds = one.deeds ++ other.deeds;
    fit = other.fit;
    is = λ past.
        all_come_append one.comings other.comings (step (world_of db first.machines (map (sent db) first.waiting) past))
        ∙ ap (all_come other.comings) (one.is past)
        ∙ other.is (past ++ one.deeds)
        ∙ ap (world_of db third.machines (map (sent db) third.waiting)) (append_assoc past one.deeds other.deeds);
    version = other.version ∙ one.version;
    placed = λ placed. other.placed (one.placed placed);
    founded = λ placed past. founded_append db one.comings other.comings (step (world_of db first.machines (map (sent db) first.waiting) past)) (one.founded placed past) (subst (AllFounded other.comings) (sym (one.is past)) (other.founded (one.placed placed) (past ++ one.deeds)));
    counts = no_fewer_then first.machines.refused second.machines.refused third.machines.refused one.counts other.counts;
    kept = kept_then one.comings other.comings first.machines.refused second.machines.refused third.machines.refused one.counts other.counts one.kept other.kept;
    explained = all_both Explained one.deeds other.deeds one.explained other.explained;
    replies = other.replies
        ∙ ap (λ heard. heard ++ filter_map (told db) other.deeds) one.replies
        ∙ append_assoc (map notice_of first.heard) (filter_map (told db) one.deeds) (filter_map (told db) other.deeds)
        ∙ ap (λ more. map notice_of first.heard ++ more) (sym (filter_map-append (told db) one.deeds other.deeds));
  }

  pub then_breaks : (after : Machines) → Breaks db (λ w. w) second after → Breaks db step first after
  then_breaks after other = record {
    comings = one.comings ++ other.comings;
    deeds = one.deeds ++ other.deeds;
    left = other.left;
    fit = other.fit;
    is = λ past.
        all_come_append one.comings other.comings (step (world_of db first.machines (map (sent db) first.waiting) past))
        ∙ ap (all_come other.comings) (one.is past)
        ∙ other.is (past ++ one.deeds)
        ∙ ap (world_of db after other.left) (append_assoc past one.deeds other.deeds);
    version = other.version ∙ one.version;
    explained = all_both Explained one.deeds other.deeds one.explained other.explained;
  }

-- a letter of some rank leaves some rank
pub one_left : (rank n : ℕ) → 2 ≤ rank → rank ≤ suc n → 1 ≤ n
one_left rank n two few = omega arith

-- what becomes of a letter whose operation is of a leaf at its site has its reason in the protocol's world
pub founded_here : (db : Database) (machines : Machines) (letter : letters.Letter) (waiting : List (Letter (language db))) (past : List (Deed (language db))) (coming : Coming (language db)) → IsHomed (language db) (IsPlace db) (sent db letter) → HasReason db machines letter coming → IsFounded (world_of db machines waiting past) coming (sent db letter)
founded_here db machines letter waiting past (Taken kept choice) home reason = (same_passes db (is_for_desk (sent db letter).body) machines waiting past kept choice (sent db letter) ∙ reason.0, reason.1)
founded_here db machines letter waiting past (Turned_away choice) home (inl limit) = record { choice = limit.choice; explained = limit.explained; past = same_passes db (is_for_desk (sent db letter).body) machines waiting past true limit.choice (sent db letter) ∙ limit.past }
founded_here db machines letter waiting past (Turned_away choice) home (inr astray) = absurd (astray home)
founded_here db machines letter waiting past Passed_over home reason = reason

-- a letter that is in front comes
module _ (db : Database) (letter : letters.Letter) (here : Scene) (after : Machines) (rest out : List letters.Letter) (notices : List Notice) (in_front : here.waiting ≡ letter ∷ rest) (done : IsDone db letter here.machines after out notices) where
  is_next : (past : List (Deed (language db))) → come (world_of db here.machines (map (sent db) here.waiting) past) done.coming ≡ world_of db after (map (sent db) (rest ++ out)) (past ++ done.leads.deeds)
  is_next past =
      ap (λ waiting. come (world_of db here.machines (map (sent db) waiting) past) done.coming) in_front
      ∙ done.leads.is (map (sent db) rest) past
      ∙ ap (λ waiting. world_of db after waiting (past ++ done.leads.deeds)) (sym (map-append (sent db) rest out))

  placed_in_front : AreOfPlaces db here.waiting → AreOfPlaces db (letter ∷ rest)
  placed_in_front placed = subst (AreOfPlaces db) in_front placed

  pub comes_goes : (there : Scene) → there.machines ≡ after → there.waiting ≡ rest ++ out → there.heard ≡ here.heard ++ notices → Goes db (λ w. w) here there
  comes_goes there machines waiting heard = record {
    comings = done.coming ∷ [];
    deeds = done.leads.deeds;
    fit = subst (AreFit db) (sym machines) done.leads.fit;
    is = λ past. is_next past ∙ (λ i. world_of db (sym machines i) (map (sent db) (sym waiting i)) (past ++ done.leads.deeds));
    version = ap (λ (m : Machines). m.table.version) machines ∙ done.leads.version;
    placed = λ placed. subst (AreOfPlaces db) (sym waiting) (placed_both db rest out (placed_in_front placed).1 done.leads.placed);
    founded = λ placed past. (
      subst (λ (waiting : List letters.Letter). FirstIsFounded (world_of db here.machines (map (sent db) waiting) past) done.coming (map (sent db) waiting)) (sym in_front)
          (founded_here db here.machines letter (map (sent db) (letter ∷ rest)) past done.coming (placed_in_front placed).0 done.reason),
      tt,
    );
    counts = subst (λ (m : Machines). NoFewer here.machines.refused m.refused) (sym machines) done.counts;
    kept = subst (λ (m : Machines). KeptUnless (done.coming ∷ []) here.machines.refused m.refused) (sym machines) (⊎_elim (λ kept. inl (kept, tt)) (λ refused. inr refused) done.kept);
    explained = done.leads.explained;
    replies = ap (map notice_of) heard ∙ map-append notice_of here.heard notices ∙ ap (λ more. map notice_of here.heard ++ more) done.leads.replies;
  }

  pub comes_breaks : Breaks db (λ w. w) here after
  comes_breaks = record {
    comings = done.coming ∷ [];
    deeds = done.leads.deeds;
    left = map (sent db) (rest ++ out);
    fit = done.leads.fit;
    is = is_next;
    version = done.leads.version;
    explained = done.leads.explained;
  }

  -- and the letters of the round grow fewer
  pub comes_ranked : (n i : ℕ) → AreFit db here.machines → (there : Scene) → there.machines ≡ after → there.waiting ≡ rest ++ out → InRound (desk_of db here.machines.table).txn n (suc i) (map (sent db) here.waiting) → InRound (desk_of db there.machines.table).txn n i (map (sent db) there.waiting)
  comes_ranked n i fit there machines waiting ranked =
      let w = world_of db here.machines (map (sent db) rest) [] in
      let in_front_ranked : InRound w.desk.txn n (suc i) (sent db letter ∷ map (sent db) rest) = subst (λ (all : List letters.Letter). InRound w.desk.txn n (suc i) (map (sent db) all)) in_front ranked in
      let Ranked : World (language db) → Type 0 = λ v. InRound v.desk.txn n i v.letters in
      subst (λ (m : Machines). InRound (desk_of db m.table).txn n i (map (sent db) there.waiting)) (sym machines)
      (subst (λ (all : List letters.Letter). InRound (desk_of db after.table).txn n i (map (sent db) all)) (sym waiting)
      (subst Ranked (done.leads.is (map (sent db) rest) [] ∙ ap (λ waiting. world_of db after waiting ([] ++ done.leads.deeds)) (sym (map-append (sent db) rest out)))
      (after_letter done.coming done.reason in_front_ranked)))
    where
      after_letter : (coming : Coming (language db)) → HasReason db here.machines letter coming → InRound (desk_of db here.machines.table).txn n (suc i) (sent db letter ∷ map (sent db) rest) →
          InRound (done_with (sent db letter) coming (world_of db here.machines (map (sent db) rest) [])).desk.txn n i (done_with (sent db letter) coming (world_of db here.machines (map (sent db) rest) [])).letters
      after_letter (Taken kept choice) reason all = (round_law {L = language db}).goes_on (world_of db here.machines (sent db letter ∷ map (sent db) rest) []) n i kept choice all
      after_letter (Turned_away choice) reason all =
          let two = turned_ranks db here.machines letter (fits_list db here.machines fit) reason in
          let few = all.0 in
          (round_law {L = language db}).given_up (world_of db here.machines (map (sent db) rest) []) n i (sent db letter).txn choice (one_left _ n two few) all.1
      after_letter Passed_over reason all = all.1

-- a call, and then its letters
module _ (db : Database) (ask : Ask (language db)) (before mid : Machines) (out : Out) (leads : Leads db (asked ask) before mid out.letters out.replies) (counts : NoFewer before.refused mid.refused) where
  called_goes : Goes db (asked ask) (at_rest before) (put_out_by mid out)
  called_goes = record {
    comings = [];
    deeds = leads.deeds;
    fit = leads.fit;
    is = λ past. leads.is [] past;
    version = leads.version;
    placed = λ placed. leads.placed;
    founded = λ placed past. tt;
    counts = counts;
    kept = inl tt;
    explained = leads.explained;
    replies = leads.replies;
  }

  pub call_serves : (after : Machines) (heard : List Notice) → Goes db (λ w. w) (put_out_by mid out) (settled after heard) → Serves db ask before after heard
  call_serves after heard goes =
      let all = then_goes db (asked ask) (at_rest before) (put_out_by mid out) called_goes (settled after heard) goes in
      record { comings = all.comings; deeds = all.deeds; fit = all.fit; is = all.is; version = all.version; founded = all.founded tt; counts = all.counts; kept = all.kept; explained = all.explained; replies = all.replies }

  pub call_fails : AsksForNow db before.table.version ask → (after : Machines) → Breaks db (λ w. w) (put_out_by mid out) after → Fails db before after
  call_fails now after breaks = inr (ask, now, then_breaks db (asked ask) (at_rest before) (put_out_by mid out) called_goes after breaks)

-- ---- rounds
pub all_in_round : (db : Database) (n count : ℕ) (here : Scene) → count ≡ length here.waiting → RanksUnder (suc n) (world_at db here) → IsInRound db n count here
all_in_round db n count here counted ranks = subst (λ k. IsInRound db n k here) (length-map here.waiting (sent db) ∙ sym counted) ((round_law {L = language db}).starts (world_at db here) n ranks)

-- the last round leaves nothing
pub none_left : (db : Database) (here : Scene) → RanksUnder 0 (world_at db here) → here.waiting ≡ []
none_left db here ranks = go here.waiting ((round_law {L = language db}).over (world_at db here) ranks)
  where
    go : (waiting : List letters.Letter) → map (sent db) waiting ≡ [] → waiting ≡ []
    go [] e = refl
    go (l ∷ waiting) e = cc

pub all_nine : (db : Database) (here : Scene) → RanksUnder 9 (world_at db here)
all_nine db here = (round_law {L = language db}).nine (world_at db here)

-- with nothing left all have come
pub goes_settled : (db : Database) (step : World (language db) → World (language db)) (first here : Scene) → Goes db step first here → here.waiting ≡ [] → Goes db step first (settled here.machines here.heard)
goes_settled db step first here goes none = subst (λ (waiting : List letters.Letter). Goes db step first (record { machines = here.machines; waiting = waiting; heard = here.heard })) none goes

-- ---- what becomes of a letter. a, b: how often stores have refused before and after
module _ (db : Database) (letter : letters.Letter) (before after : Machines) (out : List letters.Letter) (notices : List Notice) (a b : List ℕ) (counts : NoFewer a b) where
  pub was_taken : CameUnless (HaveRefused a b) db letter before after out notices → IsDone db letter (with_counts before a) (with_counts after b) out notices
  was_taken taken = record {
    coming = Taken taken.kept taken.came.choice;
    reason = (taken.came.within, taken.ends);
    leads = leads_counted db _ before after a b out notices taken.came.leads;
    counts = counts;
    kept = ⊎_elim (λ is. inl (subst (λ (kept : Bool). IsKept {L = language db} (Taken kept taken.came.choice)) (sym is) tt)) (λ refused. inr refused) taken.spared;
  }

  pub passed_over : AreFit db before → has_site db.sites letter.site ≡ false → after ≡ before → out ≡ [] → notices ≡ [] → IsDone db letter (with_counts before a) (with_counts after b) out notices
  passed_over fit unsent same none silent = record {
    coming = Passed_over;
    reason = unsent;
    leads = leads_counted db (λ w. w) before after a b out notices (record {
      deeds = [];
      fit = subst (AreFit db) (sym same) fit;
      is = λ waiting past i. world_of db (sym same i) ((sym (append-nil waiting) ∙ ap (λ (put : List letters.Letter). waiting ++ map (sent db) put) (sym none)) i) (sym (append-nil past) i);
      version = ap (λ (m : Machines). m.table.version) same;
      placed = subst (AreOfPlaces db) (sym none) tt;
      explained = tt;
      replies = ap (map notice_of) silent;
    });
    counts = counts;
    kept = inl tt;
  }

  pub turned_away : (mid : Machines) (choice : Choice (language db)) → mid ≡ before → TurnsAway db (with_counts before a) letter →
      Leads db (λ w. called w (txn_name letter.txn) choice Give_up) mid after out notices → IsDone db letter (with_counts before a) (with_counts after b) out notices
  turned_away mid choice same why leads = record {
    coming = Turned_away choice;
    reason = why;
    leads = leads_counted db (λ w. called w (txn_name letter.txn) choice Give_up) before after a b out notices (subst (λ (m : Machines). Leads db (λ w. called w (txn_name letter.txn) choice Give_up) m after out notices) same leads);
    counts = counts;
    kept = inl tt;
  }

pub stop_stops : (fault : Fault) (refusal : Refusal) → stop_of fault ≡ Some refusal → is_stop refusal ≡ true
stop_stops (faults.Desk refusals.NoTransaction) refusal e = cc
stop_stops (faults.Desk refusals.Busy) refusal e = cc
stop_stops (faults.Desk refusals.Ended) refusal e = cc
stop_stops (faults.Desk refusals.Full) refusal e = cc
stop_stops (faults.Desk (refusals.Read fault)) refusal e = cc
stop_stops (faults.Desk (refusals.Aborted why)) refusal e = cc
stop_stops (faults.Desk refusals.NotAlone) refusal e = cc
stop_stops (faults.Desk refusals.NoNext) refusal e = cc
stop_stops (faults.Desk refusals.Chain) refusal e = cc
stop_stops (faults.Desk refusals.Memory) refusal e = ap is_stop (sym (some_is e))
stop_stops (faults.Desk (refusals.Store fault)) refusal e = ap is_stop (sym (some_is e))
stop_stops (faults.Site site_faults.Memory) refusal e = ap is_stop (sym (some_is e))
stop_stops (faults.Site (site_faults.Store fault)) refusal e = ap is_stop (sym (some_is e))
stop_stops (faults.Site site_faults.Full) refusal e = cc
stop_stops (faults.Site site_faults.Stranger) refusal e = cc
stop_stops faults.Unsent refusal e = cc

-- the same scene
pub alike_goes : (db : Database) (here there : Scene) → there.machines ≡ here.machines → there.waiting ≡ here.waiting → there.heard ≡ here.heard → AreFit db here.machines → Goes db (λ w. w) here there
alike_goes db here there machines waiting heard fit = subst (Goes db (λ w. w) here) (λ i. record { machines = sym machines i; waiting = sym waiting i; heard = sym heard i }) (nothing_goes db here fit)
