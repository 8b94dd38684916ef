-- Letters by which no statement goes on need no explanation.
use Rattle.std.proofs.Common.{◌≡◌, ◌⊎◌, inl, IfErr, ℕ, Bool, true, false, ◌&&◌, not, List, [], ◌∷◌, ◌++◌, Option, Some, None, is_none, Result, Ok, Err, IfOk, nat_eq, subst, sym, ap, ◌∙◌, ◌||◌}
use Rattle.std.specs.Cmp.Lexicographic.{pointwise}
use Rattle.std.specs.List.{list_any}
use Rattle.std.specs.Option.{option_map}
use Rattle.meaning.specs.declared.answer.Answer.TheVariants as answer
use Rattle.store.specs.DeskContent.{DeskContent}
use Rattle.catalog.specs.Catalogue.{Catalogue}
use Rattle.store.specs.declared.letter.Body.TheVariants as body
use Rattle.store.specs.declared.letter.Letter.{Letter}
use Rattle.store.specs.declared.name.Ticket.{Ticket}
use Rattle.store.specs.declared.name.Txn.{Txn}
use Rattle.store.specs.declared.reply.Reply.{Reply}
use Rattle.store.specs.declared.reply.Reply.TheVariants as reply
use Rattle.protocol.specs.Desk as desk
use Rattle.protocol.specs.Language.{Lang, Name, same}
use Rattle.protocol.specs.Letter as letter
use Rattle.protocol.specs.Letters.{name_of, txn_name, vote_of}
use Rattle.protocol.specs.Serial.{AllExplained}
use Rattle.protocol.proofs.Basics.{either}
use Rattle.desk.specs.declared.reply.Out.{Out}
use Rattle.desk.specs.declared.refusal.Refusal.{Refusal}
use Rattle.desk.specs.declared.refusal.Refusal.TheVariants as refusals
use Rattle.desk.specs.declared.transaction.TxnState.{TxnState}
use Rattle.desk.specs.declared.transaction.TxnState.TheVariants as standing
use Rattle.desk.specs.Database.{Database, language, replied}
use Rattle.desk.specs.Does.{Takes}
use Rattle.desk.specs.OfCatalogue.{IsOfCatalogue}
use Rattle.desk.specs.Participants.{participant_in}
use Rattle.desk.specs.Transaction.{txn_of, undecided_of}
use Rattle.desk.specs.State.{Steps, VolatileState}
use Rattle.desk.specs.Receive.{goes_on, is_reply, is_strange, may_send}

module _ {L : Lang} where
  abbrev IsPlain : desk.Transition L → Type 0
  IsPlain turn = AllExplained turn.deeds

  plain_decides : (t : Name) (u : desk.Undecided L) (kept : Bool) (voters : List (L.Site × Name)) → IsPlain (desk.decides t u kept voters)
  plain_decides t u kept [] = either IsPlain (kept || not u.moves) _ _ (tt, tt) (tt, tt)
  plain_decides t u kept (v ∷ vs) = either IsPlain kept _ _ (tt, tt) (tt, tt)

  plain_votes : (t : Name) (u : desk.Undecided L) (votes : L.Site → Option letter.Vote) (kept : Bool) → IsPlain (desk.votes_go t u votes kept)
  plain_votes t u votes kept = either IsPlain (desk.are_all_in u votes) _ _ (plain_decides t (record u { stage = desk.Voting votes }) kept (desk.voters_of u votes)) tt

  plain_refusal : (t : Name) (u : desk.Undecided L) (st : desk.Stage L) → IsPlain (desk.on_refused t u st)
  plain_refusal t u desk.Idle = (tt, tt)
  plain_refusal t u (desk.Reading s asks) = (tt, tt)
  plain_refusal t u (desk.Writing told ws) = (tt, tt)
  plain_refusal t u (desk.Voting votes) = tt

  plain_counts : (t : Name) (u : desk.Undecided L) (a : L.Site) (votes : L.Site → Option letter.Vote) (kept : Bool) (v : letter.Vote) → IsPlain (desk.counts t u a votes kept v)
  plain_counts t u a votes kept letter.Yes = plain_votes t u _ kept
  plain_counts t u a votes kept letter.No = (tt, tt)
  plain_counts t u a votes kept letter.Read = plain_votes t u _ kept

  plain_vote : (t : Name) (u : desk.Undecided L) (a : L.Site) (kept : Bool) (v : letter.Vote) (st : desk.Stage L) → IsPlain (desk.on_vote t u a kept v st)
  plain_vote t u a kept v desk.Idle = tt
  plain_vote t u a kept v (desk.Reading s asks) = tt
  plain_vote t u a kept v (desk.Writing told ws) = tt
  plain_vote t u a kept v (desk.Voting votes) = either IsPlain (is_none (votes a)) _ _ (plain_counts t u a votes kept v) tt

module _ (db : Database) (t : Name) (a : List ℕ) (kept : Bool) (choice : desk.Choice (language db)) where
  abbrev came : Reply → desk.Txn (language db) → desk.Transition (language db)
  came said x = desk.on_desk_letter {L = language db} t a kept choice (replied db a said) x

  plain_ack : (voters acked : List (List ℕ × Name)) (v : List ℕ × Name) → IsPlain {L = language db} (desk.on_ack {L = language db} voters acked v kept)
  plain_ack voters acked v =
      either (IsPlain {L = language db}) (list_any (desk.is_pair (language db) v.0 v.1) voters && not (list_any (desk.is_pair (language db) v.0 v.1) acked)) _ _
      (either (IsPlain {L = language db}) (desk.are_acked (language db) voters (acked ++ v ∷ [])) _ _ (either (IsPlain {L = language db}) kept _ _ tt tt) tt)
      tt

  plain_open : (u : desk.Undecided (language db)) (first : Option Ticket) → u.ticket a ≡ option_map name_of first → (said : Reply) → goes_on first said ≡ false → IsPlain (came said (desk.Known u))
  plain_open u first is (reply.Ticket k) e = subst (λ (o : Option Name). IsPlain (desk.on_ticket {L = language db} t u a (name_of k) choice o)) (sym is) (go first e)
    where
      go : (first : Option Ticket) → is_none first ≡ false → IsPlain (desk.on_ticket {L = language db} t u a (name_of k) choice (option_map name_of first))
      go None e = cc
      go (Some j) e = either IsPlain (same (name_of j) (name_of k)) _ _ tt tt
  plain_open u first is (reply.Rows rows) e = cc
  plain_open u first is (reply.Refused refusal) e = either IsPlain (desk.is_named (u.ticket a) (name_of refusal.ticket)) _ _ (plain_refusal t u u.stage) tt
  plain_open u first is (reply.Voted voted) e = either IsPlain (desk.is_named (u.ticket a) (name_of voted.ticket)) _ _ (plain_vote t u a kept (vote_of voted.vote) u.stage) tt
  plain_open u first is (reply.Ack k) e = tt
  plain_open u first is (reply.Inquire k) e = tt

  pub plain_came : (o : Option TxnState) (said : Reply) → may_send o a said ≡ false → AllExplained (came said (txn_of db o)).deeds
  plain_came None (reply.Ticket k) e = tt
  plain_came None (reply.Rows rows) e = tt
  plain_came None (reply.Refused refusal) e = tt
  plain_came None (reply.Voted voted) e = tt
  plain_came None (reply.Ack k) e = tt
  plain_came None (reply.Inquire k) e = tt
  plain_came (Some (standing.Undecided u)) said e = plain_open (undecided_of db u) (participant_in a u.participants).ticket (λ i. option_map name_of (participant_in a u.participants).ticket) said e
  plain_came (Some (standing.Committed c)) (reply.Ticket k) e = tt
  plain_came (Some (standing.Committed c)) (reply.Rows rows) e = tt
  plain_came (Some (standing.Committed c)) (reply.Refused refusal) e = tt
  plain_came (Some (standing.Committed c)) (reply.Voted voted) e = tt
  plain_came (Some (standing.Committed c)) (reply.Ack k) e = plain_ack _ _ (a, name_of k)
  plain_came (Some (standing.Committed c)) (reply.Inquire k) e = tt

-- ---- what is taken
module _ (db : Database) (before : VolatileState) (kept : DeskContent) (after : VolatileState) (txn : Txn) (site : List ℕ) (said : Reply) where
  abbrev coming : Bool → desk.Choice (language db) → desk.Transition (language db)
  coming was choice = desk.on_desk_letter {L = language db} (txn_name txn) site was choice (replied db site said) (txn_of db (before.standing txn))

  abbrev HasTaken : Out → Type 0
  HasTaken out = Takes db before kept after txn (λ choice. coming out.kept choice) out.letters out.replies

  -- no statement goes on
  pub quiet_takes : may_send (before.standing txn) site said ≡ false → (result : Result Out Refusal) → ((choice : desk.Choice (language db)) → IfOk result (λ out. Steps db before kept after txn (coming out.kept choice) out.letters out.replies)) → IfOk result HasTaken
  quiet_takes rests (Err e) steps = tt
  quiet_takes rests (Ok out) steps =
      let choice : desk.Choice (language db) = (answer.Changed 0, []) in
      record { choice = choice; steps = steps choice; explained = plain_came db (txn_name txn) site out.kept choice (before.standing txn) said rests; placed = tt }

  -- a statement goes on
  pub loud_takes : (result : Result Out Refusal) → IfOk result (λ out. out.kept ≡ true) → IfOk result (λ out. Takes db before kept after txn (λ choice. coming true choice) out.letters out.replies) → IfOk result HasTaken
  loud_takes (Err e) was takes = tt
  loud_takes (Ok out) was takes = subst (λ b. Takes db before kept after txn (λ choice. coming b choice) out.letters out.replies) (sym was) takes

-- ---- letters that are passed over
pub said_is : {one other : Reply} → body.Reply one ≡ body.Reply other → one ≡ other
said_is e = cc

pub not_strange : (sites : List (List ℕ)) (came : Letter) (said : Reply) → came.body ≡ body.Reply said → list_any (λ site. pointwise nat_eq site came.site) sites ≡ true → is_strange sites came ≡ true → ⊥
not_strange sites came said is among strange =
    let f : not (true && true) ≡ true = sym (ap (λ b. not (is_reply b && list_any (λ site. pointwise nat_eq site came.site) sites)) is ∙ ap (λ b. not (true && b)) among) ∙ strange in
    cc

pub among_there : (db : Database) → IsOfCatalogue db → (n : ℕ) (catalogue : Catalogue) → db.catalogue n ≡ catalogue → (site : List ℕ) → list_any (λ other. pointwise nat_eq other site) db.sites ≡ true → list_any (λ other. pointwise nat_eq other site) catalogue.sites ≡ true
among_there db of n catalogue same site among = sym (ap (list_any (λ other. pointwise nat_eq other site)) (of.sites n ∙ ap (λ cat. cat.sites) same)) ∙ among

-- ---- a call that is refused for want of memory alone
pub may_be_memory : (result : Result Out Refusal) → IfErr result (λ told. told ≡ refusals.Memory) → IfErr result (λ told. (told ≡ refusals.Memory) ⊎ (told ≡ refusals.Full))
may_be_memory (Ok out) memory = tt
may_be_memory (Err told) memory = inl memory

pub memory_is_not_full : (result : Result Out Refusal) → IfErr result (λ told. told ≡ refusals.Memory) → result ≡ Err refusals.Full → ⊥
memory_is_not_full (Ok out) memory full = cc
memory_is_not_full (Err told) memory full = cc
