-- The operations that go out are the protocol's.
use Rattle.std.proofs.Common.{◌≡◌, refl, sym, ap, ◌∙◌, subst, ℕ, suc, nat_eq, Bool, true, false, List, [], ◌∷◌, ◌++◌, filter, map, length, take, drop, ◌||◌, Option, Some, None, Result, Ok, Err, is_none, if◌then◌else◌}
use Rattle.std.specs.Cmp.Lexicographic.{pointwise}
use Rattle.std.specs.List.{list_any}
use Rattle.std.specs.Option.{option_map}
use Rattle.std.specs.Prelude.{Vec}
use Rattle.std.specs.Result.{OnErr}
use Rattle.std.specs.Vec.{with_items}
use native.Mathlib.Nat.{ℕ_set}
use Rattle.meaning.specs.declared.answer.Answer.{Answer}
use Rattle.store.specs.declared.name.Ticket.{Ticket}
use Rattle.store.specs.declared.name.Txn.{Txn}
use Rattle.protocol.specs.Desk as desk
use Rattle.protocol.specs.Language.{Name, put}
use Rattle.protocol.specs.Letters.{name_of, txn_name}
use Rattle.protocol.proofs.Basics.{either}
use Rattle.desk.specs.declared.fetches.Ask.{Ask}
use Rattle.desk.specs.declared.participant.Participant.{Participant}
use Rattle.desk.specs.declared.reply.Reply.TheVariants as reply
use Rattle.desk.specs.declared.transaction.Unsent.{Unsent}
use Rattle.desk.specs.Database.{Database, language, sent}
use Rattle.desk.specs.Send.{Sent, fetch_order, next_number, with_count, numbered, waits_in, one_more, ask_goes, asks_go, write_goes, write_order, writes_go}
use Rattle.desk.specs.Orders.{ordered}
use Rattle.desk.specs.Participants.{is_at, sites_of, participant_in}
use Rattle.desk.specs.Request.{notices}
use Rattle.desk.specs.Statement.{answer_of}
use Rattle.desk.specs.Transaction.{ask_of, write_of}
use Rattle.desk.proofs.Changed.{same_sites, participant_changed, changed_site}

-- who has given a ticket is there
pub ticket_there : (a : List ℕ) (ticket : Ticket) (participants : List Participant) → (participant_in a participants).ticket ≡ Some ticket → list_any (is_at a) participants ≡ true
ticket_there a ticket [] e = cc
ticket_there a ticket (s ∷ participants) e = go (is_at a s) e (ticket_there a ticket participants)
  where
    go : (b : Bool) → (if b then s else participant_in a participants).ticket ≡ Some ticket → ((participant_in a participants).ticket ≡ Some ticket → list_any (is_at a) participants ≡ true) → (b || list_any (is_at a) participants) ≡ true
    go true e rest = refl
    go false e rest = rest e

-- participants that differ in their counts alone
pub record SameBut (old new : List Participant) : Type 0 where
  pub sites : sites_of new ≡ sites_of old
  pub visited : (j : List ℕ) → (participant_in j new).visited ≡ (participant_in j old).visited
  pub ticket : (j : List ℕ) → (participant_in j new).ticket ≡ (participant_in j old).ticket
  pub vote : (j : List ℕ) → (participant_in j new).vote ≡ (participant_in j old).vote

pub same_but : (participants : List Participant) → SameBut participants participants
same_but participants = record { sites = refl; visited = λ j. refl; ticket = λ j. refl; vote = λ j. refl }

pub same_then : (one two three : List Participant) → SameBut one two → SameBut two three → SameBut one three
same_then one two three a b = record { sites = b.sites ∙ a.sites; visited = λ j. b.visited j ∙ a.visited j; ticket = λ j. b.ticket j ∙ a.ticket j; vote = λ j. b.vote j ∙ a.vote j }

module _ (a : List ℕ) (participants : List Participant) (there : list_any (is_at a) participants ≡ true) where
  more_there : (j : List ℕ) → participant_in j (one_more a participants) ≡ (if pointwise nat_eq j a then with_count (next_number a participants) (participant_in j participants) else participant_in j participants)
  more_there j = participant_changed (with_count (next_number a participants)) (λ s. refl) a j participants there

  pub one_more_same : SameBut participants (one_more a participants)
  one_more_same = record {
    sites = same_sites _ (changed_site (with_count (next_number a participants)) (λ s. refl) a) participants;
    visited = λ j. ap (λ s. s.visited) (more_there j) ∙ either (λ s. s.visited ≡ (participant_in j participants).visited) (pointwise nat_eq j a) (with_count (next_number a participants) (participant_in j participants)) (participant_in j participants) refl refl;
    ticket = λ j. ap (λ s. s.ticket) (more_there j) ∙ either (λ s. s.ticket ≡ (participant_in j participants).ticket) (pointwise nat_eq j a) (with_count (next_number a participants) (participant_in j participants)) (participant_in j participants) refl refl;
    vote = λ j. ap (λ s. s.vote) (more_there j) ∙ either (λ s. s.vote ≡ (participant_in j participants).vote) (pointwise nat_eq j a) (with_count (next_number a participants) (participant_in j participants)) (participant_in j participants) refl refl;
  }

  -- the counts are as the protocol puts them
  pub more_sent : (j : List ℕ) → (participant_in j (one_more a participants)).sent ≡ put (pointwise nat_eq) a (suc (participant_in a participants).sent) (λ i. (participant_in i participants).sent) j
  more_sent j = ap (λ s. s.sent) (more_there j) ∙ go (pointwise nat_eq j a) refl
    where
      go : (b : Bool) → pointwise nat_eq j a ≡ b → (if b then with_count (next_number a participants) (participant_in j participants) else participant_in j participants).sent ≡ (if b then suc (participant_in a participants).sent else (participant_in j participants).sent)
      go true e = refl
      go false e = refl

-- what went out is what the protocol puts out
pub record SameOut (db : Database) {A B : Type 0} (view : A → B) (participants : List Participant) (out : Sent A) (wanted : desk.Out (language db) B) : Type 0 where
  pub left : map view out.left ≡ wanted.left
  pub counts : (λ (j : List ℕ). (participant_in j out.participants).sent) ≡ wanted.sent
  pub letters : map (sent db) out.letters ≡ wanted.letters
  pub same : SameBut participants out.participants

module _ (db : Database) (txn : Txn) (ticket : List ℕ → Option Name) where
  -- the protocol's counts
  abbrev counts_in : List Participant → List ℕ → ℕ
  counts_in participants j = (participant_in j participants).sent

  abbrev IsTicket : List Participant → Type 0
  IsTicket participants = (j : List ℕ) → ticket j ≡ option_map name_of (participant_in j participants).ticket

  still_ticket : (old new : List Participant) → SameBut old new → IsTicket old → IsTicket new
  still_ticket old new same is j = is j ∙ ap (option_map name_of) (sym (same.ticket j))

  -- ---- fetches
  pub asks_same : (asks : List Ask) (participants : List Participant) → IsTicket participants → SameOut db (ask_of db) participants (asks_go txn asks participants) (desk.asks_out {L = language db} (txn_name txn) ticket (map (ask_of db) asks) (counts_in participants))
  asks_same [] participants is = record { left = refl; counts = refl; letters = refl; same = same_but participants }
  asks_same (ask ∷ asks) participants is =
      subst (λ k. SameOut db (ask_of db) participants (asks_go txn (ask ∷ asks) participants) (desk.ask_out {L = language db} (txn_name txn) (ask_of db ask) ask.number k (counts_in participants) (desk.asks_out {L = language db} (txn_name txn) ticket (map (ask_of db) asks))))
      (sym (is ask.site)) (go (λ now is. asks_same asks now is) ask.number (participant_in ask.site participants).ticket refl)
    where
      go : ((now : List Participant) → IsTicket now → SameOut db (ask_of db) now (asks_go txn asks now) (desk.asks_out {L = language db} (txn_name txn) ticket (map (ask_of db) asks) (counts_in now))) → (m : Option ℕ) (k : Option Ticket) → (participant_in ask.site participants).ticket ≡ k →
          SameOut db (ask_of db) participants (ask_goes txn ask m k participants (asks_go txn asks)) (desk.ask_out {L = language db} (txn_name txn) (ask_of db ask) m (option_map name_of k) (counts_in participants) (desk.asks_out {L = language db} (txn_name txn) ticket (map (ask_of db) asks)))
      go below None (Some k) here =
          let there = ticket_there ask.site k participants here in
          let more = one_more ask.site participants in
          let same = one_more_same ask.site participants there in
          let rest : SameOut db (ask_of db) more (asks_go txn asks more) (desk.asks_out {L = language db} (txn_name txn) ticket (map (ask_of db) asks) (put (pointwise nat_eq) ask.site (suc (participant_in ask.site participants).sent) (counts_in participants))) =
          subst (λ c. SameOut db (ask_of db) more (asks_go txn asks more) (desk.asks_out {L = language db} (txn_name txn) ticket (map (ask_of db) asks) c))
          (λ i j. more_sent ask.site participants there j i)
          (below more (still_ticket participants more same is)) in
          record {
            left = λ i. ask_of db (numbered ask (next_number ask.site participants)) ∷ rest.left i;
            counts = rest.counts;
            letters = λ i. sent db (ordered txn ask.site (fetch_order ask k (next_number ask.site participants))) ∷ rest.letters i;
            same = same_then participants more (asks_go txn asks more).participants same rest.same;
          }
      go below None None here = let rest = below participants is in record { left = λ i. ask_of db ask ∷ rest.left i; counts = rest.counts; letters = rest.letters; same = rest.same }
      go below (Some m) None here = let rest = below participants is in record { left = λ i. ask_of db ask ∷ rest.left i; counts = rest.counts; letters = rest.letters; same = rest.same }
      go below (Some m) (Some k) here = let rest = below participants is in record { left = λ i. ask_of db ask ∷ rest.left i; counts = rest.counts; letters = rest.letters; same = rest.same }

  -- ---- writes
  pub writes_same : (ws : List Unsent) (participants : List Participant) → IsTicket participants → SameOut db write_of participants (writes_go txn ws participants) (desk.writes_out {L = language db} (txn_name txn) ticket (map write_of ws) (counts_in participants))
  writes_same [] participants is = record { left = refl; counts = refl; letters = refl; same = same_but participants }
  writes_same (w ∷ ws) participants is =
      subst (λ k. SameOut db write_of participants (writes_go txn (w ∷ ws) participants) (desk.write_out {L = language db} (txn_name txn) (write_of w) k (counts_in participants) (desk.writes_out {L = language db} (txn_name txn) ticket (map write_of ws))))
      (sym (is w.site)) (go (λ now is. writes_same ws now is) (participant_in w.site participants).ticket refl)
    where
      go : ((now : List Participant) → IsTicket now → SameOut db write_of now (writes_go txn ws now) (desk.writes_out {L = language db} (txn_name txn) ticket (map write_of ws) (counts_in now))) → (k : Option Ticket) → (participant_in w.site participants).ticket ≡ k →
          SameOut db write_of participants (write_goes txn w k participants (writes_go txn ws)) (desk.write_out {L = language db} (txn_name txn) (write_of w) (option_map name_of k) (counts_in participants) (desk.writes_out {L = language db} (txn_name txn) ticket (map write_of ws)))
      go below (Some k) here =
          let there = ticket_there w.site k participants here in
          let more = one_more w.site participants in
          let same = one_more_same w.site participants there in
          let rest : SameOut db write_of more (writes_go txn ws more) (desk.writes_out {L = language db} (txn_name txn) ticket (map write_of ws) (put (pointwise nat_eq) w.site (suc (participant_in w.site participants).sent) (counts_in participants))) =
          subst (λ c. SameOut db write_of more (writes_go txn ws more) (desk.writes_out {L = language db} (txn_name txn) ticket (map write_of ws) c))
          (λ i j. more_sent w.site participants there j i)
          (below more (still_ticket participants more same is)) in
          record {
            left = rest.left;
            counts = rest.counts;
            letters = λ i. sent db (ordered txn w.site (write_order w k (next_number w.site participants))) ∷ rest.letters i;
            same = same_then participants more (writes_go txn ws more).participants same rest.same;
          }
      go below None here = let rest = below participants is in record { left = λ i. write_of w ∷ rest.left i; counts = rest.counts; letters = rest.letters; same = rest.same }

-- ---- the writes that wait on are those without a ticket
left_over : (txn : Txn) (participants now : List Participant) → ((j : List ℕ) → (participant_in j now).ticket ≡ (participant_in j participants).ticket) → (ws : List Unsent) → (writes_go txn ws now).left ≡ filter (waits_in participants) ws
left_over txn participants now same [] = refl
left_over txn participants now same (w ∷ ws) =
    subst (λ k. (write_goes txn w k now (writes_go txn ws)).left ≡ filter (waits_in participants) (w ∷ ws)) (sym (same w.site)) (go (λ then_ still. left_over txn participants then_ still ws) (participant_in w.site participants).ticket refl)
  where
    go : ((then_ : List Participant) → ((j : List ℕ) → (participant_in j then_).ticket ≡ (participant_in j participants).ticket) → (writes_go txn ws then_).left ≡ filter (waits_in participants) ws) → (k : Option Ticket) → (participant_in w.site participants).ticket ≡ k →
        (write_goes txn w k now (writes_go txn ws)).left ≡ (if is_none k then w ∷ filter (waits_in participants) ws else filter (waits_in participants) ws)
    go below (Some k) e = below (one_more w.site now) (λ j. (one_more_same w.site now (ticket_there w.site k now (same w.site ∙ e))).ticket j ∙ same j)
    go below None e = ap (λ rest. w ∷ rest) (below now same)

pub left_waiting : (txn : Txn) (ws : List Unsent) (participants : List Participant) → (writes_go txn ws participants).left ≡ filter (waits_in participants) ws
left_waiting txn ws participants = left_over txn participants participants (λ j. refl) ws

-- the answer is given where none of them waits
pub answer_left : (txn : Txn) (answer : Answer) (ws : List Unsent) (participants : List Participant) → (if list_any (waits_in participants) ws then [] else notices txn (Some (reply.Answer answer))) ≡ answer_of txn answer (writes_go txn ws participants).left
answer_left txn answer ws participants = go ws ∙ ap (answer_of txn answer) (sym (left_waiting txn ws participants))
  where
    go : (ws : List Unsent) → (if list_any (waits_in participants) ws then [] else notices txn (Some (reply.Answer answer))) ≡ answer_of txn answer (filter (waits_in participants) ws)
    go [] = refl
    go (w ∷ ws) = test (waits_in participants w) (go ws)
      where
        test : (b : Bool) → (if list_any (waits_in participants) ws then [] else notices txn (Some (reply.Answer answer))) ≡ answer_of txn answer (filter (waits_in participants) ws) →
            (if b || list_any (waits_in participants) ws then [] else notices txn (Some (reply.Answer answer))) ≡ answer_of txn answer (if b then w ∷ filter (waits_in participants) ws else filter (waits_in participants) ws)
        test true rest = refl
        test false rest = rest

-- what goes out leaves the tickets as they are
pub still_given : (txn : Txn) (ws : List Unsent) (participants : List Participant) (j : List ℕ) → (participant_in j (writes_go txn ws participants).participants).ticket ≡ (participant_in j participants).ticket
still_given txn [] participants j = refl
still_given txn (w ∷ ws) participants j = go (λ now. still_given txn ws now j) (participant_in w.site participants).ticket refl
  where
    go : ((now : List Participant) → (participant_in j (writes_go txn ws now).participants).ticket ≡ (participant_in j now).ticket) → (k : Option Ticket) → (participant_in w.site participants).ticket ≡ k →
        (participant_in j (write_goes txn w k participants (writes_go txn ws)).participants).ticket ≡ (participant_in j participants).ticket
    go below (Some k) e = below (one_more w.site participants) ∙ (one_more_same w.site participants (ticket_there w.site k participants e)).ticket j
    go below None e = below participants

-- so the writes that wait on are those without a ticket also after it
pub left_waiting_after : (txn : Txn) (ws : List Unsent) (participants after : List Participant) → after ≡ (writes_go txn ws participants).participants → filter (waits_in after) ws ≡ (writes_go txn ws participants).left
left_waiting_after txn ws participants after is =
    ap (λ (now : List Participant). filter (waits_in now) ws) is ∙ sym (left_over txn (writes_go txn ws participants).participants participants (λ j. sym (still_given txn ws participants j)) ws)

-- ---- a vector after its slice was written
suc_is : {m n : ℕ} → suc m ≡ suc n → m ≡ n
suc_is e = cc

pub written_back : {A : Type 0} (new items : List A) → length new ≡ length items → take (length items) (new ++ drop (length new) items) ≡ new
written_back [] [] e = refl
written_back [] (y ∷ ys) e = cc
written_back (x ∷ xs) [] e = cc
written_back (x ∷ xs) (y ∷ ys) e = ap (λ rest. x ∷ rest) (written_back xs ys (suc_is e))

-- one that is written over with its own elements stays as it is
module _ {A Z : Type 0} (v : Vec A Z) where
  abbrev vec_of : (items : List A) → v.len ≡ length items → Vec A Z
  vec_of items is = record { ptr = v.ptr; len = v.len; cap = v.cap; alloc = v.alloc; items = items; ok = (is, v.ok.1); small = v.small }

  vec_same : (items others : List A) → items ≡ others → (a : v.len ≡ length items) (b : v.len ≡ length others) → vec_of items a ≡ vec_of others b
  vec_same items others e = subst (λ (l : List A). (a : v.len ≡ length items) (b : v.len ≡ length l) → vec_of items a ≡ vec_of l b) e (λ a b. ap (vec_of items) (ℕ_set _ _ a b))

  pub written_same : (ws : List A) → ws ≡ v.items → with_items v ws ≡ v
  written_same ws e = vec_same _ _ (ap (λ n. take n (ws ++ drop (length ws) v.items)) v.ok.0 ∙ written_back ws v.items (ap length e) ∙ e) _ _

-- what holds anyway holds on an error
pub on_err : {T E P : Type 0} (r : Result T E) → P → OnErr r P
on_err (Ok x) p = tt
on_err (Err e) p = p
