-- Opens go to the sites that the protocol says.
use Rattle.std.proofs.Common.{◌≡◌, refl, sym, ap, ◌∙◌, subst, ℕ, nat_eq, Bool, true, false, ◌&&◌, ◌||◌, not, List, [], ◌∷◌, ◌++◌, map, append_assoc, Some, None, if◌then◌else◌}
use Rattle.std.specs.Cmp.Lexicographic.{pointwise}
use Rattle.std.specs.List.{cons_option, list_any}
use Rattle.std.specs.Option.{option_map}
use Rattle.store.specs.declared.letter.Letter.{Letter}
use Rattle.store.specs.declared.name.Txn.{Txn}
use Rattle.store.specs.declared.order.Order.TheVariants as order
use Rattle.protocol.specs.Desk as desk
use Rattle.protocol.specs.Letter as protocol
use Rattle.protocol.specs.Letters.{txn_name}
use Rattle.protocol.specs.Parts.{In}
use Rattle.desk.specs.declared.participant.Participant.{Participant}
use Rattle.desk.specs.declared.transaction.Stage.{Stage}
use Rattle.desk.specs.Database.{Database, language, sent}
use Rattle.desk.specs.Orders.{ordered}
use Rattle.desk.specs.Opening.{is_new, open_at, opens, opens_if, visited, visited_if, visits, HaveParticipants}
use Rattle.desk.specs.Participants.{is_at, nowhere, participant_in}
use Rattle.desk.specs.Place.{Place}
use Rattle.desk.specs.Transaction.{undecided_of}
use Rattle.desk.specs.Transition.{AreParticipants}
use Rattle.desk.proofs.Participants.{at_home, orders_all, said, text_is}

pub any_mapped : {A B : Type 0} (p : B → Bool) (f : A → B) (xs : List A) → list_any p (map f xs) ≡ list_any (λ x. p (f x)) xs
any_mapped p f [] = refl
any_mapped p f (x ∷ xs) = ap (λ b. p (f x) || b) (any_mapped p f xs)

-- one participant more is visited, where it is new
pub one_visited : (sites : List (List ℕ)) (p : Participant) (rest old new : List Participant) (b : Bool) → b ≡ is_new sites p → new ≡ old ++ visited_if b p ∷ [] → new ++ visits sites rest ≡ old ++ visits sites (p ∷ rest)
one_visited sites p rest old new b is made = (λ i. made i ++ visits sites rest) ∙ append_assoc old (visited_if b p ∷ []) (visits sites rest) ∙ (λ i. old ++ visited_if (is i) p ∷ visits sites rest)

-- and hears Open
pub one_opens : (txn : Txn) (sites : List (List ℕ)) (p : Participant) (rest : List Participant) (old new : List Letter) (b : Bool) → b ≡ is_new sites p → new ≡ old ++ opens_if txn b p → new ++ opens txn sites rest ≡ old ++ opens txn sites (p ∷ rest)
one_opens txn sites p rest old new b is made =
    (λ i. made i ++ opens txn sites rest) ∙ append_assoc old (opens_if txn b p) (opens txn sites rest) ∙ (λ i. old ++ (opens_if txn (is i) p ++ opens txn sites rest)) ∙ ap (λ letters. old ++ letters) (go (is_new sites p))
  where
    go : (b : Bool) → opens_if txn b p ++ opens txn sites rest ≡ cons_option (option_map (ordered txn p.site) (if b then Some order.Open else None)) (opens txn sites rest)
    go true = refl
    go false = refl

-- a site of these has a participant
participant_of_one : (participants : List Participant) (sites : List (List ℕ)) (j : List ℕ) → HaveParticipants participants sites → list_any (λ site. pointwise nat_eq site j) sites ≡ true → list_any (is_at j) participants ≡ true
participant_of_one participants [] j have is = cc
participant_of_one participants (site ∷ sites) j have is = go (pointwise nat_eq site j) refl is (participant_of_one participants sites j have.1)
  where
    go : (b : Bool) → pointwise nat_eq site j ≡ b → (b || list_any (λ site. pointwise nat_eq site j) sites) ≡ true → (list_any (λ site. pointwise nat_eq site j) sites ≡ true → list_any (is_at j) participants ≡ true) → list_any (is_at j) participants ≡ true
    go true e is rest = subst (λ x. list_any (is_at x) participants ≡ true) (text_is site j e) have.0
    go false e is rest = rest is

-- a participant that isn't there is nowhere
absent : (j : List ℕ) (participants : List Participant) → list_any (is_at j) participants ≡ false → participant_in j participants ≡ nowhere j
absent j [] e = refl
absent j (s ∷ participants) e = go (is_at j s) e (absent j participants)
  where
    go : (b : Bool) → (b || list_any (is_at j) participants) ≡ false → (list_any (is_at j) participants ≡ false → participant_in j participants ≡ nowhere j) → (if b then s else participant_in j participants) ≡ nowhere j
    go true e rest = cc
    go false e rest = rest e

-- what is made of each participant is made of the one of a site
module _ (f : Participant → Participant) (keeps : (s : Participant) → (f s).site ≡ s.site) where
  pub volatile : (j : List ℕ) (participants : List Participant) → list_any (is_at j) participants ≡ true → participant_in j (map f participants) ≡ f (participant_in j participants)
  volatile j [] there = cc
  volatile j (s ∷ participants) there = ap (λ a. if pointwise nat_eq a j then f s else participant_in j (map f participants)) (keeps s) ∙ go (is_at j s) there (volatile j participants)
    where
      go : (b : Bool) → (b || list_any (is_at j) participants) ≡ true → (list_any (is_at j) participants ≡ true → participant_in j (map f participants) ≡ f (participant_in j participants)) → (if b then f s else participant_in j (map f participants)) ≡ f (if b then s else participant_in j participants)
      go true there rest = refl
      go false there rest = rest there

  pub still_absent : (j : List ℕ) (participants : List Participant) → list_any (is_at j) (map f participants) ≡ list_any (is_at j) participants
  still_absent j [] = refl
  still_absent j (s ∷ participants) = λ i. pointwise nat_eq (keeps s i) j || still_absent j participants i

-- a participant that is there is that of its site
site_is : (j : List ℕ) (participants : List Participant) → list_any (is_at j) participants ≡ true → (participant_in j participants).site ≡ j
site_is j [] there = cc
site_is j (s ∷ participants) there = one (is_at j s) refl there (site_is j participants)
  where
    one : (b : Bool) → is_at j s ≡ b → (b || list_any (is_at j) participants) ≡ true → (list_any (is_at j) participants ≡ true → (participant_in j participants).site ≡ j) → (if b then s else participant_in j participants).site ≡ j
    one true e there rest = text_is s.site j e
    one false e there rest = rest there

-- what visits don't touch
pub kept_by_visits : {A : Type 0} (sites : List (List ℕ)) (participants : List Participant) (view : Participant → A) → ((s : Participant) → view (visited sites s) ≡ view s) → (j : List ℕ) → view (participant_in j (visits sites participants)) ≡ view (participant_in j participants)
kept_by_visits sites [] view same j = refl
kept_by_visits sites (s ∷ participants) view same j = go (is_at j s) (kept_by_visits sites participants view same j)
  where
    go : (b : Bool) → view (participant_in j (visits sites participants)) ≡ view (participant_in j participants) → view (if b then visited sites s else participant_in j (visits sites participants)) ≡ view (if b then s else participant_in j participants)
    go true rest = same s
    go false rest = rest

module _ (db : Database) (txn : Txn) (participants : List Participant) (are : AreParticipants db participants) (stage : Stage) (moves : Bool) (leaves : List Place) (sites : List (List ℕ)) (homes : sites ≡ map (λ g. g.0) leaves) (have : HaveParticipants participants sites) where
  abbrev u : desk.Undecided (language db)
  u = undecided_of db (record { participants = participants; stage = stage; moves = moves })

  among : (j : List ℕ) → list_any (λ site. pointwise nat_eq site j) sites ≡ list_any (λ g. pointwise nat_eq g.0 j) leaves
  among j = ap (list_any (λ site. pointwise nat_eq site j)) homes ∙ any_mapped (λ site. pointwise nat_eq site j) (λ g. g.0) leaves

  new_here : (participant : Participant) → In participant participants → desk.is_new u leaves participant.site ≡ is_new sites participant
  new_here participant here = λ i. not (at_home participants are.distinct participant here i).visited && sym (among participant.site) i

  pub opens_are : map (sent db) (opens txn sites participants) ≡ desk.opens (txn_name txn) u leaves
  opens_are = orders_all db txn (open_at sites) (λ a. desk.opening (desk.is_new u leaves a)) participants (λ participant here. ap desk.opening (new_here participant here) ∙ opened participant.site (is_new sites participant))
      ∙ ap (protocol.letters_to {L = language db} (txn_name txn) (λ a. desk.opening (desk.is_new u leaves a))) are.sites
    where
      opened : (site : List ℕ) (b : Bool) → desk.opening {L = language db} b ≡ option_map (said db site) (if b then Some order.Open else None)
      opened site true = refl
      opened site false = refl

  -- who is visited after it
  pub visited_now : (j : List ℕ) → (participant_in j (visits sites participants)).visited ≡ (u.visited j || desk.is_new u leaves j)
  visited_now j = go (list_any (is_at j) participants) refl
    where
      go : (b : Bool) → list_any (is_at j) participants ≡ b → (participant_in j (visits sites participants)).visited ≡ (u.visited j || desk.is_new u leaves j)
      go true there = ap (λ s. s.visited) (volatile (visited sites) (λ s. refl) j participants there) ∙ (λ i. (participant_in j participants).visited || (not (participant_in j participants).visited && at_site i))
        where
          at_site : list_any (λ site. pointwise nat_eq site (participant_in j participants).site) sites ≡ list_any (λ g. pointwise nat_eq g.0 j) leaves
          at_site = ap (λ x. list_any (λ site. pointwise nat_eq site x) sites) (site_is j participants there) ∙ among j
      go false gone = ap (λ s. s.visited) (absent j (visits sites participants) (still_absent (visited sites) (λ s. refl) j participants ∙ gone)) ∙ sym (ap (λ s. s.visited || (not s.visited && list_any (λ g. pointwise nat_eq g.0 j) leaves)) (absent j participants gone) ∙ none (list_any (λ g. pointwise nat_eq g.0 j) leaves) refl)
        where
          none : (b : Bool) → list_any (λ g. pointwise nat_eq g.0 j) leaves ≡ b → b ≡ false
          none true e = let f : true ≡ false = sym (participant_of_one participants sites j have (among j ∙ e)) ∙ gone in cc
          none false e = refl

-- ---- no sites
nowhere_new : (b : Bool) → (not b && false) ≡ false
nowhere_new true = refl
nowhere_new false = refl

pub visits_none : (participants : List Participant) → visits [] participants ≡ participants
visits_none [] = refl
visits_none (p ∷ participants) = λ i. same i ∷ visits_none participants i
  where
    as_it_was : (b : Bool) → (b || (not b && false)) ≡ b
    as_it_was true = refl
    as_it_was false = refl

    same : visited [] p ≡ p
    same = ap (λ b. record p { visited = b }) (as_it_was p.visited)

pub opens_none : (txn : Txn) (participants : List Participant) → opens txn [] participants ≡ []
opens_none txn [] = refl
opens_none txn (p ∷ participants) = ap (λ b. cons_option (option_map (ordered txn p.site) (if b then Some order.Open else None)) (opens txn [] participants)) (nowhere_new p.visited) ∙ opens_none txn participants
