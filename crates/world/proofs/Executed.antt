-- Calls of a client's database that stands.
use Rattle.std.proofs.Common.{◌≡◌, refl, sym, ap, ◌∙◌, subst, Bool, true, false, ◌||◌, if◌then◌else◌, List, [], ◌∷◌, ◌++◌, map, filter, inl, inr, ⊎_elim, Some, None}
use Rattle.std.proofs.lemmas.List.{map-append}
use Rattle.std.specs.List.{list_any}
use Rattle.meaning.specs.declared.answer.Answer.{Answer as AnswerNow}
use Rattle.meaning.specs.Whole.{Relations}
use Rattle.store.specs.Content.{Content}
use Rattle.store.specs.declared.name.Txn.{Txn}
use Rattle.protocol.specs.Client.{ReachedLaw}
use Rattle.protocol.specs.Desk.{Commit_call, Deed, Rollback, State}
use Rattle.protocol.specs.Language.{Name}
use Rattle.protocol.specs.Letters.{txn_name}
use Rattle.desk.specs.declared.reply.Notice.{Notice}
use Rattle.desk.specs.declared.reply.Reply as replies
use Rattle.desk.specs.declared.reply.Reply.TheVariants.{Answer, Begun, Committed}
use Rattle.desk.specs.Database.{Database, language}
use Rattle.desk.specs.Place.{Place}
use Rattle.desk.specs.State.{notice_of}
use Rattle.world.specs.Mailbox.{Ask, AsksForNow, Serves, To_begin, To_do}
use Rattle.world.specs.Machines.{Machines}
use Rattle.world.specs.Executed.{ObeysUnlessRefused, Stands}
use Rattle.world.specs.Client.{DoesBegin, IsServed, autocommit_reply, is_answer, is_commit, is_end, still_open, tells}
use Rattle.world.specs.Smoothly.{IsReady, ServesSmoothly, ServesUnlessRefused}
use Rattle.world.proofs.Reaching.{serves_past}

-- ---- notices, by what they say
pub tells_by : (is : replies.Reply → Bool) (heard : List Notice) → tells is heard ≡ list_any (λ (x : Name × replies.Reply). is x.1) (map notice_of heard)
tells_by is [] = refl
tells_by is (notice ∷ heard) = ap (λ b. is notice.reply || b) (tells_by is heard)

-- an end that is told is told among more
pub tells_more : (greeted answered : List Notice) → tells is_end answered ≡ true → tells is_end (greeted ++ answered) ≡ true
tells_more [] answered is = is
tells_more (notice ∷ greeted) answered is = go (is_end notice.reply) (tells_more greeted answered is)
  where
    go : (b : Bool) → tells is_end (greeted ++ answered) ≡ true → (b || tells is_end (greeted ++ answered)) ≡ true
    go true e = refl
    go false e = e

those_of : (is : replies.Reply → Bool) (heard : List Notice) → map notice_of (filter (λ notice. is notice.reply) heard) ≡ filter (λ (x : Name × replies.Reply). is x.1) (map notice_of heard)
those_of is [] = refl
those_of is (notice ∷ heard) = go (is notice.reply) (those_of is heard)
  where
    go : (b : Bool) → map notice_of (filter (λ notice. is notice.reply) heard) ≡ filter (λ (x : Name × replies.Reply). is x.1) (map notice_of heard) →
        map notice_of (if b then notice ∷ filter (λ notice. is notice.reply) heard else filter (λ notice. is notice.reply) heard) ≡ (if b then notice_of notice ∷ filter (λ (x : Name × replies.Reply). is x.1) (map notice_of heard) else filter (λ (x : Name × replies.Reply). is x.1) (map notice_of heard))
    go true rest = ap (λ all. notice_of notice ∷ all) rest
    go false rest = rest

-- a lone statement
module _ (txn : Txn) (answered : List Notice) (answer : AnswerNow) (is_answered : map notice_of answered ≡ (txn_name txn, Answer answer) ∷ []) (greeted : List Notice) (is_greeted : map notice_of greeted ≡ (txn_name txn, Begun) ∷ []) where
  pub told_of : map notice_of (greeted ++ answered) ≡ (txn_name txn, Begun) ∷ (txn_name txn, Answer answer) ∷ []
  told_of = map-append notice_of greeted answered ∙ (λ i. is_greeted i ++ is_answered i)

  pub not_ended : tells is_end (greeted ++ answered) ≡ false
  not_ended = tells_by is_end (greeted ++ answered) ∙ ap (list_any (λ (x : Name × replies.Reply). is_end x.1)) told_of

  pub heard_alone : (decided : List Notice) → map notice_of decided ≡ (txn_name txn, Committed) ∷ [] → map notice_of (autocommit_reply ((greeted ++ answered) ++ decided)) ≡ (txn_name txn, Answer answer) ∷ []
  heard_alone decided is =
      let all = (greeted ++ answered) ++ decided in
      let told_all : map notice_of all ≡ (txn_name txn, Begun) ∷ (txn_name txn, Answer answer) ∷ (txn_name txn, Committed) ∷ [] = map-append notice_of (greeted ++ answered) decided ∙ (λ i. told_of i ++ is i) in
      let commits : tells is_commit all ≡ true = tells_by is_commit all ∙ ap (list_any (λ (x : Name × replies.Reply). is_commit x.1)) told_all in
      ap (λ (b : Bool). map notice_of (if b then filter (λ notice. is_answer notice.reply) all else filter (λ notice. is_end notice.reply) all)) commits
      ∙ those_of is_answer all ∙ ap (filter (λ (x : Name × replies.Reply). is_answer x.1)) told_all

module _ (db : Database) (fits : Place → Content → Bool) (reached : ReachedLaw (language db)) (smooth : ServesSmoothly db fits) (law : ServesUnlessRefused db fits) (whole : Relations) where
  served_on : (ask : Ask (language db)) (before after : Machines) (past : List (Deed (language db))) (heard : List Notice) → AsksForNow db before.table.version ask → IsServed db whole before past → (serves : Serves db ask before after heard) → IsServed db whole after (past ++ serves.deeds)
  served_on ask before after past heard now served serves = serves_past db reached whole ask before after heard past now served serves

  begins : (before after : Machines) (past : List (Deed (language db))) (txn : Txn) (heard : List Notice) → IsServed db whole before past → Stands db fits None before past → (does : DoesBegin db before txn after heard) →
      IsReady db fits (txn_name txn) after (past ++ does.serves.deeds) × (map notice_of heard ≡ (txn_name txn, Begun) ∷ [])
  begins before after past txn heard served quiet does =
      let done = smooth.begins whole before after past heard served quiet does.within does.serves in (
        subst (λ (t : Name). IsReady db fits t after (past ++ does.serves.deeds)) (sym does.named) done.0,
        done.1 ∙ ap (λ (t : Name). (t, Begun) ∷ []) (sym does.named),
      )

pub obeys : (db : Database) (fits : Place → Content → Bool) → ReachedLaw (language db) → ServesSmoothly db fits → ServesUnlessRefused db fits → ObeysUnlessRefused db fits
obeys db fits reached smooth law = record {
  begins = λ whole before after past txn heard served quiet does.
      let done = begins db fits reached smooth law whole before after past txn heard served quiet does in
      (record { deeds = does.serves.deeds; served = served_on db fits reached smooth law whole To_begin before after past heard tt served does.serves; stands = done.0 }, done.1);
  states = λ whole before after past text txn heard served ready does. ⊎_elim
      (λ done. inl (record { deeds = does.asks.serves.deeds; served = served_on db fits reached smooth law whole (To_do (txn_name txn) (State (before.table.version, does.statement)) does.asks.choice) before after past heard (refl, does.fits.stays) served does.asks.serves; stands = done.0 }, done.1))
      (λ refused. inr refused) (law.answers whole before after past (txn_name txn) does.statement does.asks.choice heard served ready does.fits does.asks.within does.asks.serves);
  commits = λ whole before after past txn heard served ready does. ⊎_elim
      (λ done. inl (record { deeds = does.serves.deeds; served = served_on db fits reached smooth law whole (To_do (txn_name txn) Commit_call does.choice) before after past heard tt served does.serves; stands = done.0 }, done.1))
      (λ refused. inr refused) (law.commits whole before after past (txn_name txn) does.choice heard served ready does.serves);
  rolls_back = λ whole before after past txn heard served ready does. ⊎_elim
      (λ done. inl (record { deeds = does.serves.deeds; served = served_on db fits reached smooth law whole (To_do (txn_name txn) Rollback does.choice) before after past heard tt served does.serves; stands = done.0 }, done.1))
      (λ refused. inr refused) (law.rolls_back whole before after past (txn_name txn) does.choice heard served ready does.serves);
}

-- ---- an answer
pub still_there : (txn : Txn) (heard : List Notice) (answer : AnswerNow) → map notice_of heard ≡ (txn_name txn, Answer answer) ∷ [] → still_open (Some txn) heard ≡ Some txn
still_there txn heard answer is = ap (λ (b : Bool). if b then None else Some txn) (tells_by is_end heard ∙ ap (list_any (λ (x : Name × replies.Reply). is_end x.1)) is)
