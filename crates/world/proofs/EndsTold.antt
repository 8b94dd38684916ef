-- A transaction that has ended since a call told its client so.
use Rattle.std.proofs.Common.{◌≡◌, refl, sym, ap, ◌∙◌, subst, ◌||◌, Bool, true, false, List, [], ◌∷◌, ◌++◌, map, ◌⊎◌, inl, inr, ⊎_elim, ℕ, Option, Some, None, is_some, is_none, append-nil, append_assoc, not}
use Rattle.std.specs.List.{filter_map, list_all, list_any}
use Rattle.protocol.specs.Desk.{Aborted, Answered, Ask, Began, Choice, Committed, Deed, Give_up, Idle, Known, Phased, Reading, Rolled_back, Row, Stage, State, Stated, Transition, Txn, Undecided, Unknown, Voting, Worked, Writing, are_all_in, ask_of, counts, decides, desk_after, is_desk_within, is_named, is_undecided, on_desk_letter, on_known, on_refused, on_request, on_rows, on_state, on_ticket, on_vote, states, ticket_goes, visits, voters_of, votes_go, with_rows, works, writes_out, writing}
use Rattle.protocol.specs.Language.{Lang, Name, put, same}
use Rattle.protocol.specs.Letter.{Body, Letter, Vote, Yes, No, Read, Open, Fetch, Write, Prepare, Commit, Abort, Ticket, Rows, Refused, Voted, Ack, Inquire, is_for_desk}
use Rattle.protocol.specs.Site.{is_within, on_letter, said, site_after}
use Rattle.protocol.specs.World.{World, addressed, called, comes_to, turned, turns, with_site}
use Rattle.protocol.proofs.Basics.{either, put_all, same_law}
use Rattle.desk.specs.declared.reply.Reply.{Reply}
use Rattle.desk.specs.Database.{Database, language}
use Rattle.desk.specs.Transition.{told}
use Rattle.protocol.specs.Delivery.{Coming, Passed_over, Taken, Turned_away, all_come, come, first_comes}
use Rattle.world.specs.Client.{is_end}

module _ {L : Lang} where
  -- whether a deed is the end of a transaction
  abbrev pub ends_it : Deed L → Bool
  ends_it (Began t) = false
  ends_it (Stated t s) = false
  ends_it (Worked t s asks choice) = false
  ends_it (Answered t answer) = false
  ends_it (Phased t) = false
  ends_it (Committed t) = true
  ends_it (Aborted t why) = true
  ends_it (Rolled_back t) = true

  ends_left : (one other : List (Deed L)) → list_any ends_it one ≡ true → list_any ends_it (one ++ other) ≡ true
  ends_left [] other is = let e : false ≡ true = is in cc
  ends_left (d ∷ one) other is = go (ends_it d) (ends_left one other) is
    where
      go : (b : Bool) → (list_any ends_it one ≡ true → list_any ends_it (one ++ other) ≡ true) → (b || list_any ends_it one) ≡ true → (b || list_any ends_it (one ++ other)) ≡ true
      go true rest e = refl
      go false rest e = rest e

  ends_right : (one other : List (Deed L)) → list_any ends_it other ≡ true → list_any ends_it (one ++ other) ≡ true
  ends_right [] other is = is
  ends_right (d ∷ one) other is = go (ends_it d) (ends_right one other is)
    where
      go : (b : Bool) → list_any ends_it (one ++ other) ≡ true → (b || list_any ends_it (one ++ other)) ≡ true
      go true e = refl
      go false e = e

  -- a turn leaves it undecided, or is its end
  abbrev Says : Transition L → Type 0
  Says turn = (is_undecided turn.txn ≡ true) ⊎ (list_any ends_it turn.deeds ≡ true)

  writing_says : (t : Name) (v : Undecided L) (answer : L.Answer) (sent : L.Site → ℕ) (left : List (L.Leaf × L.Write)) (letters : List (Letter L)) → Says (writing t v answer sent left letters)
  writing_says t v answer sent [] letters = inl refl
  writing_says t v answer sent (x ∷ ws) letters = inl refl

  works_says : (t : Name) (u : Undecided L) (s : L.Statement) (asks : List (Ask L)) (c : Choice L) → Says (works t u s asks c)
  works_says t u s asks c = go ((writes_out {L = L} t u.ticket c.1 u.sent).left)
    where
      go : (left : List (L.Leaf × L.Write)) → (is_undecided (writing t (visits u (map (λ (x : L.Leaf × L.Write). x.0) c.1)) c.0 (writes_out {L = L} t u.ticket c.1 u.sent).sent left (writes_out {L = L} t u.ticket c.1 u.sent).letters).txn ≡ true) ⊎ (list_any ends_it (works t u s asks c).deeds ≡ true)
      go [] = inl refl
      go (x ∷ left) = inl refl

  module _ (t : Name) (u : Undecided L) (c : Choice L) where
    state_says : (s : L.Statement) (stage : Stage L) → is_undecided (on_state t u s c stage).txn ≡ true
    state_says s Idle = states_say (map ask_of (L.fetches s))
      where
        works_stay : (left : List (L.Leaf × L.Write)) → is_undecided (writing t (visits u (map (λ (x : L.Leaf × L.Write). x.0) c.1)) c.0 (writes_out {L = L} t u.ticket c.1 u.sent).sent left (writes_out {L = L} t u.ticket c.1 u.sent).letters).txn ≡ true
        works_stay [] = refl
        works_stay (x ∷ left) = refl

        states_say : (asks : List (Ask L)) → is_undecided (states t u s asks c).txn ≡ true
        states_say [] = works_stay ((writes_out {L = L} t u.ticket c.1 u.sent).left)
        states_say (q ∷ qs) = refl
    state_says s (Reading r asks) = refl
    state_says s (Writing answer ws) = refl
    state_says s (Voting votes) = refl

    ticket_says : (stage : Stage L) → Says (ticket_goes t u c stage)
    ticket_says Idle = inl refl
    ticket_says (Reading s asks) = inl refl
    ticket_says (Writing answer ws) = writing_says t u answer _ _ _
    ticket_says (Voting votes) = inl refl

    rows_say : (a : L.Site) (n : ℕ) (rows : L.Rows) (stage : Stage L) → Says (on_rows t u a n rows c stage)
    rows_say a n rows Idle = inl refl
    rows_say a n rows (Writing answer ws) = inl refl
    rows_say a n rows (Voting votes) = inl refl
    rows_say a n rows (Reading s asks) = either Says (list_all (λ (q : Ask L). is_some q.rows) (map (with_rows s a n rows) asks)) _ _ (works_says t u s (map (with_rows s a n rows) asks) c) (inl refl)

  module _ (t : Name) (a : L.Site) (kept : Bool) (c : Choice L) where
    first_says : (u : Undecided L) (k : Name) (tk : Option Name) → Says (on_ticket t u a k c tk)
    first_says u k None = ticket_says t (record u { ticket = put L.same_site a (Some k) u.ticket }) c u.stage
    first_says u k (Some j) = either Says (same j k) _ _ (inl refl) (inl refl)

    refused_says : (u : Undecided L) (stage : Stage L) → Says (on_refused t u stage)
    refused_says u Idle = inr refl
    refused_says u (Reading s asks) = inr refl
    refused_says u (Writing answer ws) = inr refl
    refused_says u (Voting votes) = inl refl

    decides_say : (u : Undecided L) (voters : List (L.Site × Name)) → Says (decides t u kept voters)
    decides_say u [] = either Says (kept || not u.moves) _ _ (inr refl) (inr refl)
    decides_say u (v ∷ voters) = either Says kept _ _ (inr refl) (inr refl)

    votes_say : (u : Undecided L) (votes : L.Site → Option Vote) → Says (votes_go t u votes kept)
    votes_say u votes = either Says (are_all_in u votes) _ _ (decides_say (record u { stage = Voting votes }) (voters_of u votes)) (inl refl)

    counts_say : (u : Undecided L) (votes : L.Site → Option Vote) (x : Vote) → Says (counts t u a votes kept x)
    counts_say u votes Yes = votes_say u _
    counts_say u votes Read = votes_say u _
    counts_say u votes No = inr refl

    vote_says : (u : Undecided L) (x : Vote) (stage : Stage L) → Says (on_vote t u a kept x stage)
    vote_says u x Idle = inl refl
    vote_says u x (Reading s asks) = inl refl
    vote_says u x (Writing answer ws) = inl refl
    vote_says u x (Voting votes) = either Says (is_none (votes a)) _ _ (counts_say u votes x) (inl refl)

    known_says : (u : Undecided L) (b : Body L) → Says (on_known t u a kept c b)
    known_says u (Ticket k) = first_says u k (u.ticket a)
    known_says u (Rows k n rows) = either Says (is_named (u.ticket a) k) _ _ (rows_say t u c a n rows u.stage) (inl refl)
    known_says u (Refused k reason) = either Says (is_named (u.ticket a) k) _ _ (refused_says u u.stage) (inl refl)
    known_says u (Voted k x) = either Says (is_named (u.ticket a) k) _ _ (vote_says u x u.stage) (inl refl)
    known_says u Open = inl refl
    known_says u (Fetch k n g q) = inl refl
    known_says u (Write k n g x) = inl refl
    known_says u (Prepare k n) = inl refl
    known_says u (Commit k) = inl refl
    known_says u (Abort k) = inl refl
    known_says u (Ack k) = inl refl
    known_says u (Inquire k) = inl refl

    desk_says : (b : Body L) (x : Txn L) → is_undecided x ≡ true → Says (on_desk_letter t a kept c b x)
    desk_says b (Known u) is = known_says u b
    desk_says b Unknown is = let e : false ≡ true = is in cc
    desk_says b (Row voters acked) is = let e : false ≡ true = is in cc

  give_up_says : (t : Name) (c : Choice L) (x : Txn L) → is_undecided x ≡ true → Says (on_request t c Give_up x)
  give_up_says t c (Known u) is = inr refl
  give_up_says t c Unknown is = let e : false ≡ true = is in cc
  give_up_says t c (Row voters acked) is = let e : false ≡ true = is in cc

  -- ---- worlds: since these deeds the transaction is undecided, or an end was told
  module _ (t : Name) (before : List (Deed L)) where
    pub record Told (w : World L) : Type 0 where
      pub more : List (Deed L)
      pub is : w.past ≡ before ++ more
      pub says : (is_undecided (w.desk.txn t) ≡ true) ⊎ (list_any ends_it more ≡ true)

    turns_told : (w : World L) (j : Name) (turn : Transition L) → (is_undecided (w.desk.txn j) ≡ true → Says turn) → Told w → Told (turns w j turn)
    turns_told w j turn says so_far = either Told (is_desk_within (desk_after w.desk j turn.txn)) (turned w j turn) w (record {
      more = so_far.more ++ turn.deeds;
      is = ap (λ past. past ++ turn.deeds) so_far.is ∙ append_assoc before so_far.more turn.deeds;
      says = ⊎_elim
          (λ undecided. ⊎_elim (λ still. inl still) (λ ends. inr (ends_right so_far.more turn.deeds ends))
          (put_all same same_law j turn.txn w.desk.txn (λ i x. is_undecided (w.desk.txn i) ≡ true → (is_undecided x ≡ true) ⊎ (list_any ends_it turn.deeds ≡ true)) says (λ i other is. inl is) t undecided))
          (λ ended. inr (ends_left so_far.more turn.deeds ended)) so_far.says;
    }) so_far

    comes_told : (b : Bool) (w : World L) (kept : Bool) (c : Choice L) (l : Letter L) → Told w → Told (comes_to b w kept c l)
    comes_told true w kept c l so_far = turns_told w l.txn _ (desk_says l.txn l.site kept c l.body (w.desk.txn l.txn)) so_far
    comes_told false w kept c l so_far =
        let act = on_letter (w.sites l.site) l.txn kept l.body in
        either Told (is_within (site_after (w.sites l.site) act)) (with_site w l.site (site_after (w.sites l.site) act) (addressed l.site l.txn (said (w.sites l.site) act))) w (record { more = so_far.more; is = so_far.is; says = so_far.says }) so_far

    one_told : (w : World L) (c : Coming L) (letters : List (Letter L)) → Told w → Told (first_comes w c letters)
    one_told w c [] so_far = so_far
    one_told w (Taken kept choice) (l ∷ q) so_far = comes_told (is_for_desk l.body) (record w { letters = q }) kept choice l (record { more = so_far.more; is = so_far.is; says = so_far.says })
    one_told w (Turned_away choice) (l ∷ q) so_far = turns_told (record w { letters = q }) l.txn _ (give_up_says l.txn choice (w.desk.txn l.txn)) (record { more = so_far.more; is = so_far.is; says = so_far.says })
    one_told w Passed_over (l ∷ q) so_far = record { more = so_far.more; is = so_far.is; says = so_far.says }

    pub all_told : (cs : List (Coming L)) (w : World L) → Told w → Told (all_come cs w)
    all_told [] w so_far = so_far
    all_told (c ∷ cs) w so_far = all_told cs (come w c) (one_told w c w.letters so_far)

  -- a statement is accepted
  pub state_told : (w : World L) (t : Name) (c : Choice L) (s : L.Statement) (u : Undecided L) → w.desk.txn t ≡ Known u → Told t w.past (called w t c (State s))
  state_told w t c s u known = turns_told t w.past w t (on_request t c (State s) (w.desk.txn t))
      (λ is. subst (λ (x : Txn L). Says (on_request t c (State s) x)) (sym known) (inl (state_says t u c s u.stage)))
      (record { more = []; is = sym (append-nil w.past); says = inl (ap is_undecided known) })

-- what its client hears of it
pub end_heard : (db : Database) (deeds : List (Deed (language db))) → list_any ends_it deeds ≡ true → list_any (λ (x : Name × Reply). is_end x.1) (filter_map (told db) deeds) ≡ true
end_heard db [] is = is
end_heard db (Began t ∷ deeds) is = end_heard db deeds is
end_heard db (Stated t s ∷ deeds) is = end_heard db deeds is
end_heard db (Worked t s asks choice ∷ deeds) is = end_heard db deeds is
end_heard db (Answered t answer ∷ deeds) is = end_heard db deeds is
end_heard db (Phased t ∷ deeds) is = end_heard db deeds is
end_heard db (Committed t ∷ deeds) is = refl
end_heard db (Aborted t why ∷ deeds) is = refl
end_heard db (Rolled_back t ∷ deeds) is = refl
