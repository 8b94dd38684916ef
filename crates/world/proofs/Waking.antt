-- Machines that come up over what the stores of a run kept are those of that run after restarts.
use Rattle.std.proofs.Common.{◌≡◌, ◌≢◌, refl, sym, ap, ◌∙◌, subst, ℕ, ◌||◌, nat_eq, Bool, true, false, List, [], ◌∷◌, ◌++◌, map, if◌then◌else◌, Some, inl, inr, ⊎_elim, append_assoc}
use Rattle.std.proofs.Math.Path.{fun_ext}
use Rattle.std.specs.Cmp.Lexicographic.{pointwise}
use Rattle.std.specs.List.{AllByRecursion, list_any}
use Rattle.std.specs.List.Sorted.{IsStrictlySortedBy}
use Rattle.reader.specs.Printable.{AreDistinct}
use Rattle.store.specs.Name.{txn_cmp}
use Rattle.protocol.specs.Catalogues.{site_at}
use Rattle.protocol.specs.Client.{IsReached, ReachedLaw}
use Rattle.protocol.specs.Desk.{Deed, Desk, desk_restarted, is_desk_within}
use Rattle.protocol.specs.Letter.{Letter}
use Rattle.protocol.specs.Local.{local}
use Rattle.protocol.specs.Site.{SiteState, is_within, site_restarted}
use Rattle.protocol.specs.World.{World, desk_lives, restarts, site_steps, with_site}
use Rattle.protocol.proofs.Basics.{In, by_test, either, if_true, or_left, or_right}
use Rattle.site.specs.Recovery.{Restarts}
use Rattle.site.specs.State.{state_of}
use Rattle.site.proofs.Restarting.{restarts as site_restarts}
use Rattle.desk.specs.Database.{Database, language, statements}
use Rattle.desk.specs.State.{IsMemory, desk_of}
use Rattle.desk.proofs.Restarted.{risen}
use Rattle.world.specs.declared.sites.SiteAction.TheVariants.{Restart}
use Rattle.world.specs.Listed.{FitsList, IsListed, ListLeads}
use Rattle.world.specs.Machines.{Machines, world_of}
use Rattle.world.specs.Recovery.{AllWake, ComingUpLaw, ListComeUp, ListComingUpLaw, Wakes, lost_by}
use Rattle.world.specs.Seated.{SomeSeatDoes}
use Rattle.world.specs.Sites.{IsSeated, Seat, is_called, reseated, seat_of, states_of}
use Rattle.world.proofs.ListDelivering.{list_reached}
use Rattle.world.proofs.Machinery.{fits_list, list_done, with_seats}
use Rattle.world.proofs.Reasoned.{no_choice}
use Rattle.world.proofs.Seating.{name_is, name_self}

-- what is kept and in memory now, at the leaves of before
abbrev pub rekept : Seat → Seat → Seat
rekept old new = record { name = old.name; leaves = old.leaves; kept = new.kept; table = new.table }

abbrev pub all_rekept : List Seat → List Seat → List Seat
all_rekept [] news = []
all_rekept (old ∷ olds) [] = old ∷ olds
all_rekept (old ∷ olds) (new ∷ news) = rekept old new ∷ all_rekept olds news

-- no site among these has the name
abbrev pub NotAmong : List ℕ → List Seat → Type 0
NotAmong name seats = AllByRecursion (λ seat. is_called name seat ≡ false) seats

pub seat_behind : (name : List ℕ) (done : List Seat) (seat : Seat) (rest : List Seat) → NotAmong name done → is_called name seat ≡ true → seat_of name (done ++ seat ∷ rest) ≡ Some seat
seat_behind name [] seat rest none called = if_true (is_called name seat) (Some seat) (seat_of name rest) called
seat_behind name (s ∷ done) seat rest none called = ap (λ (b : Bool). if b then Some s else seat_of name (done ++ seat ∷ rest)) none.0 ∙ seat_behind name done seat rest none.1 called

reseated_behind : (name : List ℕ) (new : Seat) (done : List Seat) (seat : Seat) (rest : List Seat) → NotAmong name done → is_called name seat ≡ true → done ++ new ∷ rest ≡ reseated name new (done ++ seat ∷ rest)
reseated_behind name new [] seat rest none called = sym (if_true (is_called name seat) (new ∷ rest) (seat ∷ reseated name new rest) called)
reseated_behind name new (s ∷ done) seat rest none called =
    ap (λ ss. s ∷ ss) (reseated_behind name new done seat rest none.1 called) ∙ sym (ap (λ (b : Bool). if b then new ∷ (done ++ seat ∷ rest) else s ∷ reseated name new (done ++ seat ∷ rest)) none.0)

-- names that are each of one site
abbrev pub OneEach : List Seat → List Seat → Type 0
OneEach done [] = Unit {0}
OneEach done (seat ∷ rest) = NotAmong seat.name done × OneEach (done ++ seat ∷ []) rest

module _ (db : Database) (law : ReachedLaw (language db)) (whole : (language db).Whole) where
  -- what happened isn't touched by a site's step
  steps_past : (w : World (language db)) (a : List ℕ) (s : SiteState (language db)) (letters : List (Letter (language db))) → (site_steps w a s letters).past ≡ w.past
  steps_past w a s letters = either (λ (v : World (language db)). v.past ≡ w.past) (is_within s) (with_site w a s letters) w refl refl

  -- machines that stand after a run
  pub record Reached (machines : Machines) (past : List (Deed (language db))) : Type 0 where
    pub reached : IsReached whole (world_of db machines [] past)
    pub fit : FitsList db machines

  among : (name : List ℕ) (names : List (List ℕ)) (seats : List Seat) (seat : Seat) → map (λ (s : Seat). s.name) seats ≡ names → seat_of name seats ≡ Some seat → list_any (λ b. pointwise nat_eq b name) names ≡ true
  among name names [] seat same there = cc
  among name names (s ∷ seats) seat same there = subst (λ (ns : List (List ℕ)). list_any (λ b. pointwise nat_eq b name) ns ≡ true) same (go (among name (map (λ (s : Seat). s.name) seats) seats seat refl) (is_called name s) refl there)
    where
      go : (seat_of name seats ≡ Some seat → list_any (λ b. pointwise nat_eq b name) (map (λ (s : Seat). s.name) seats) ≡ true) → (b : Bool) → is_called name s ≡ b → (if b then Some s else seat_of name seats) ≡ Some seat → (pointwise nat_eq s.name name || list_any (λ b. pointwise nat_eq b name) (map (λ (s : Seat). s.name) seats)) ≡ true
      go later true e is = or_left (pointwise nat_eq s.name name) (list_any (λ b. pointwise nat_eq b name) (map (λ (s : Seat). s.name) seats)) (subst (λ n. pointwise nat_eq n name ≡ true) (name_is name s.name e) (name_self name))
      go later false e is = or_right (pointwise nat_eq s.name name) (list_any (λ b. pointwise nat_eq b name) (map (λ (s : Seat). s.name) seats)) (later is)

  module _ (machines : Machines) (past : List (Deed (language db))) where
    -- one site wakes
    one_wakes : (done : List Seat) (old new : Seat) (rest : List Seat) → NotAmong old.name done → IsSeated old → Wakes old new → Reached (with_seats machines (done ++ old ∷ rest)) past → Reached (with_seats machines (done ++ rekept old new ∷ rest)) past
    one_wakes done old new rest none seated wakes here =
        let before = with_seats machines (done ++ old ∷ rest) in
        let after = done ++ rekept old new ∷ rest in
        let name = old.name in
        let restarted : Restarts old.kept old.table new.kept new.table = site_restarts old.kept old.table seated new.kept new.table wakes.begins wakes.life in
        let there : seat_of name (done ++ old ∷ rest) ≡ Some old = seat_behind name done old rest none (name_self name) in
        let did : SomeSeatDoes (Restart name) old (done ++ old ∷ rest) after [] = record {
          new = rekept old new;
          moves = record { there = there; is = reseated_behind name (rekept old new) done old rest none (name_self name); named = refl; leaves = refl; seated = restarted.fits };
          does = (restarted, refl);
        } in
        let leads : ListLeads db (λ w. restarts w name) before (with_seats before after) [] [] = list_done db before old after [] here.fit (Restart name) (no_choice db) refl did in
        let w = world_of db before [] past in
        let same : past ≡ past ++ leads.deeds = sym (steps_past w name (site_restarted (w.sites name)) []) ∙ ap (λ (v : World (language db)). v.past) (leads.is [] past) in
        record {
          reached = subst (λ p. IsReached whole (world_of db (with_seats before after) [] p)) (sym same) (subst (IsReached whole) (leads.is [] past) (law.restarted whole w name here.reached (among name db.sites (done ++ old ∷ rest) old here.fit.names there)));
          fit = leads.fit;
        }

    all_wake : (done olds news : List Seat) → OneEach done olds → AllByRecursion IsSeated olds → AllWake olds news → Reached (with_seats machines (done ++ olds)) past → Reached (with_seats machines (done ++ all_rekept olds news)) past
    all_wake done [] [] one seated wake here = here
    all_wake done [] (new ∷ news) one seated wake here = absurd wake
    all_wake done (old ∷ olds) [] one seated wake here = absurd wake
    all_wake done (old ∷ olds) (new ∷ news) one seated wake here =
        subst (λ seats. Reached (with_seats machines seats) past) (append_assoc done (rekept old new ∷ []) (all_rekept olds news))
        (all_wake (done ++ rekept old new ∷ []) olds news (one_more done old new olds one.1) seated.1 wake.1
        (subst (λ seats. Reached (with_seats machines seats) past) (sym (append_assoc done (rekept old new ∷ []) olds)) (one_wakes done old new olds one.0 seated.0 wake.0 here)))
      where
        not_more : (name : List ℕ) (done : List Seat) (old new : Seat) → NotAmong name (done ++ old ∷ []) → NotAmong name (done ++ rekept old new ∷ [])
        not_more name [] old new none = none
        not_more name (s ∷ done) old new none = (none.0, not_more name done old new none.1)

        not_behind : (name : List ℕ) (one other more : List Seat) → ((n : List ℕ) → NotAmong n one → NotAmong n other) → NotAmong name (one ++ more) → NotAmong name (other ++ more)
        not_behind name one other more to none = join other more (to name (front one more none)) (back one more none)
          where
            front : (xs ys : List Seat) → NotAmong name (xs ++ ys) → NotAmong name xs
            front [] ys all = tt
            front (x ∷ xs) ys all = (all.0, front xs ys all.1)

            back : (xs ys : List Seat) → NotAmong name (xs ++ ys) → NotAmong name ys
            back [] ys all = all
            back (x ∷ xs) ys all = back xs ys all.1

            join : (xs ys : List Seat) → NotAmong name xs → NotAmong name ys → NotAmong name (xs ++ ys)
            join [] ys all more = more
            join (x ∷ xs) ys all more = (all.0, join xs ys all.1 more)

        each_more : (one other rest : List Seat) → ((n : List ℕ) → NotAmong n one → NotAmong n other) → OneEach one rest → OneEach other rest
        each_more one other [] to each = tt
        each_more one other (seat ∷ rest) to each = (to seat.name each.0, each_more (one ++ seat ∷ []) (other ++ seat ∷ []) rest (λ n. not_behind n one other (seat ∷ []) to) each.1)

        one_more : (done : List Seat) (old new : Seat) (rest : List Seat) → OneEach (done ++ old ∷ []) rest → OneEach (done ++ rekept old new ∷ []) rest
        one_more done old new rest = each_more (done ++ old ∷ []) (done ++ rekept old new ∷ []) rest (λ n. not_more n done old new)

    -- the leaves that a site knows are no part of the world
    states_same : (olds news : List Seat) → AllWake olds news → (name : List ℕ) → states_of (statements db) (all_rekept olds news) name ≡ states_of (statements db) news name
    states_same [] [] wake name = refl
    states_same [] (new ∷ news) wake name = absurd wake
    states_same (old ∷ olds) [] wake name = absurd wake
    states_same (old ∷ olds) (new ∷ news) wake name =
        λ i. if pointwise nat_eq name (sym wake.0.named i) then site_at local (statements db) (sym wake.0.named i) (state_of new.kept new.table) else states_same olds news wake.1 name i

-- each site stands under its own name
pub one_each : (names : List (List ℕ)) → AreDistinct names → (done rest : List Seat) → map (λ (s : Seat). s.name) rest ≡ names → ((name : List ℕ) → In name names → NotAmong name done) → OneEach done rest
one_each [] distinct done [] same apart = tt
one_each [] distinct done (s ∷ rest) same apart = cc
one_each (n ∷ names) distinct done [] same apart = cc
one_each (n ∷ names) distinct done (s ∷ rest) same apart =
    let named : s.name ≡ n = first_is s.name n (map (λ (s : Seat). s.name) rest) names same in (
      apart s.name (inl named),
      one_each names distinct.1 (done ++ s ∷ []) rest (rest_is s.name n (map (λ (s : Seat). s.name) rest) names same)
          (λ name here. more name done s (apart name (inr here)) (no_match name s (λ same. apart_from n names name distinct.0 here (sym named ∙ sym same)))),
    )
  where
    first_is : (a b : List ℕ) (xs ys : List (List ℕ)) → a ∷ xs ≡ b ∷ ys → a ≡ b
    first_is a b xs ys e = cc

    rest_is : (a b : List ℕ) (xs ys : List (List ℕ)) → a ∷ xs ≡ b ∷ ys → xs ≡ ys
    rest_is a b xs ys e = cc

    apart_from : (n : List ℕ) (names : List (List ℕ)) (name : List ℕ) → AllByRecursion (λ other. n ≢ other) names → In name names → n ≡ name → ⊥
    apart_from n [] name apart here e = here
    apart_from n (m ∷ names) name apart (inl is) e = apart.0 (e ∙ is)
    apart_from n (m ∷ names) name apart (inr below) e = apart_from n names name apart.1 below e

    no_match : (name : List ℕ) (s : Seat) → (name ≡ s.name → ⊥) → is_called name s ≡ false
    no_match name s other = ⊎_elim (λ yes. absurd (other (name_is name s.name yes))) (λ no. no) (by_test (is_called name s))

    more : (name : List ℕ) (done : List Seat) (s : Seat) → NotAmong name done → is_called name s ≡ false → NotAmong name (done ++ s ∷ [])
    more name [] s none here = (here, tt)
    more name (d ∷ done) s none here = (none.0, more name done s none.1 here)

-- ---- the machines together
module _ (db : Database) (law : ReachedLaw (language db)) (opened : (language db).Whole) where
  module _ (distinct : AreDistinct db.sites) (old new : Machines) (past : List (Deed (language db))) (is_reached : IsReached opened (world_of db old [] past)) (fit : FitsList db old) (memory : IsMemory old.table) (up : ListComeUp db old new) where
    abbrev before : Desk (language db)
    before = desk_of db old.table

    abbrev woken : Machines
    woken = with_seats old (all_rekept old.seats new.seats)

    sites_woken : Reached db law opened woken past
    sites_woken =
        all_wake db law opened old past [] old.seats new.seats (one_each db.sites distinct [] old.seats fit.names (λ name here. tt)) fit.sites up.sites (record { reached = is_reached; fit = fit })

    is_risen : desk_of db new.table ≡ desk_restarted before
    is_risen = risen db old.desk new.desk old.table new.table memory fit.desk (subst (λ table. IsStrictlySortedBy txn_cmp table.txns) (sym up.memory.is) up.memory.ascend) up.rises up.life

    desk_woken : IsReached opened (desk_lives (world_of db woken [] past))
    desk_woken =
        subst (IsReached opened) (if_true (is_desk_within (desk_restarted before)) (desk_lives (world_of db woken [] past)) (world_of db woken [] past) (ap is_desk_within (sym is_risen) ∙ up.rises.within))
        (law.desk_restarted opened (world_of db woken [] past) sites_woken.reached)

    same_world : record (desk_lives (world_of db woken [] past)) { letters = [] } ≡ world_of db new [] (past ++ lost_by db old)
    same_world = λ i. record {
      desk = sym is_risen i;
      sites = fun_ext (states_same db law opened old past old.seats new.seats up.sites) i;
      letters = [];
      past = past ++ lost_by db old;
      version = (fit.desk.version ∙ sym up.life.version ∙ sym up.fit.desk.version) i;
    }

    pub come_up : IsReached opened (world_of db new [] (past ++ lost_by db old))
    come_up = subst (IsReached opened) same_world (law.silenced opened (desk_lives (world_of db woken [] past)) desk_woken)

pub coming_up_law : (db : Database) → ReachedLaw (language db) → AreDistinct db.sites → ComingUpLaw db
coming_up_law db law distinct = record {
  served = λ whole old new past served memory up. record {
    version = served.version;
    reached = come_up db law (served.version, whole) distinct old new past served.reached (fits_list db old served.fit) memory (record { fit = fits_list db new up.fit; sites = up.sites; rises = up.rises; life = up.life; memory = up.memory });
    fit = up.fit;
  };
}

-- so over a list
pub list_coming_up : (db : Database) → IsListed db → ListComingUpLaw db
list_coming_up db listed whole old new past served memory up =
    let distinct : AreDistinct db.sites = subst AreDistinct (sym (listed.base.of_catalogue.sites 0)) (listed.base.of_catalogue.formed 0).distinct in
    record {
      version = served.version;
      reached = come_up db (list_reached db listed) (served.version, whole) distinct old new past served.reached served.fit memory up;
      fit = up.fit;
    }
