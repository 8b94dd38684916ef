-- A Fetch, a Commit or an Abort that a site takes was kept: of one that wasn't no vote comes.
use Rattle.std.proofs.Common.{◌≡◌, ◌∙◌, refl, ap, ℕ, suc, ◌==◌, Bool, true, false, List, [], ◌∷◌, map, Result, Ok, Err, IfOk}
use Rattle.store.specs.declared.letter.Body as bodies
use Rattle.store.specs.declared.letter.Body.TheVariants as body
use Rattle.store.specs.declared.letter.Letter as letters
use Rattle.store.specs.declared.order.Order.TheVariants as order
use Rattle.store.specs.declared.reply.Reply.TheVariants as reply_kinds
use Rattle.protocol.specs.Language.{Lang, Name}
use Rattle.protocol.specs.AfterAbort.{EndKept}
use Rattle.protocol.specs.Letter.{Body, Letter, Open, Fetch, Write, Prepare, Commit, Abort, Ticket, Rows, Refused, Voted, Ack, Inquire}
use Rattle.protocol.specs.Letters.{body_of, kept_body, kept_in, letter_of, name_of}
use Rattle.protocol.specs.Local.{local}
use Rattle.protocol.specs.Site.{Act, Active, Dead, Prepared, SiteState, Status, on_abort, on_commit, on_fetch, on_letter, others_exclusive, said}
use Rattle.protocol.specs.Catalogues.{body_at}
use Rattle.protocol.specs.World.{addressed}
use Rattle.protocol.proofs.Basics.{either}
use Rattle.desk.specs.Database.{Database, language, statements}
use Rattle.protocol.specs.Delivery.{CallKept}
use Rattle.world.specs.Machines.{is_order}

module _ {L : Lang} where
  -- the store call that a Fetch makes is kept
  abbrev pub FetchKept : Bool → Body L → Type 0
  FetchKept kept (Fetch k n g q) = kept ≡ true
  FetchKept kept said = Unit {0}

  pub fetch_kept : (kept : Bool) (c : Body L) → CallKept kept c → FetchKept kept c
  fetch_kept kept (Fetch k n g q) keeps = keeps
  fetch_kept kept Open keeps = tt
  fetch_kept kept (Write k n g x) keeps = tt
  fetch_kept kept (Prepare k n) keeps = tt
  fetch_kept kept (Commit k) keeps = tt
  fetch_kept kept (Abort k) keeps = tt
  fetch_kept kept (Ticket k) keeps = tt
  fetch_kept kept (Rows k n rows) keeps = tt
  fetch_kept kept (Refused k reason) keeps = tt
  fetch_kept kept (Voted k x) keeps = tt
  fetch_kept kept (Ack k) keeps = tt
  fetch_kept kept (Inquire k) keeps = tt

  -- and so is that of a Commit or an Abort
  pub end_kept : (kept : Bool) (c : Body L) → CallKept kept c → EndKept kept c
  end_kept kept (Commit k) keeps = keeps
  end_kept kept (Abort k) keeps = keeps
  end_kept kept Open keeps = tt
  end_kept kept (Fetch k n g q) keeps = tt
  end_kept kept (Write k n g x) keeps = tt
  end_kept kept (Prepare k n) keeps = tt
  end_kept kept (Ticket k) keeps = tt
  end_kept kept (Rows k n rows) keeps = tt
  end_kept kept (Refused k reason) keeps = tt
  end_kept kept (Voted k x) keeps = tt
  end_kept kept (Ack k) keeps = tt
  end_kept kept (Inquire k) keeps = tt

-- ---- what is answered
abbrev first_body : List (Letter local) → Body local
first_body [] = Open
first_body (l ∷ ls) = l.body

-- whether it is a vote
abbrev is_vote : Body local → Bool
is_vote (Voted k x) = true
is_vote said = false

no_vote : (said : bodies.Body) (c : Body local) → is_vote c ≡ false → body_of said ≡ c → kept_body said ≡ true
no_vote (body.Order order) c none is = refl
no_vote (body.Reply (reply_kinds.Ticket ticket)) c none is = refl
no_vote (body.Reply (reply_kinds.Rows rows)) c none is = refl
no_vote (body.Reply (reply_kinds.Refused refusal)) c none is = refl
no_vote (body.Reply (reply_kinds.Voted voted)) c none is = let e : true ≡ false = ap is_vote is ∙ none in cc
no_vote (body.Reply (reply_kinds.Ack ticket)) c none is = refl
no_vote (body.Reply (reply_kinds.Inquire ticket)) c none is = refl

none_kept : (out : List letters.Letter) → map letter_of out ≡ [] → kept_in out ≡ true
none_kept [] is = refl
none_kept (l ∷ out) is = cc

module _ (site : List ℕ) (txn : Name) (out : List letters.Letter) where
  one_kept : (c : Body local) → is_vote c ≡ false → map letter_of out ≡ addressed site txn (c ∷ []) → kept_in out ≡ true
  one_kept c none is = go out is
    where
      go : (all : List letters.Letter) → map letter_of all ≡ addressed site txn (c ∷ []) → kept_in all ≡ true
      go [] e = refl
      go (l ∷ all) e = no_vote l.body c none (ap first_body e)

  -- an act of which no vote comes
  abbrev IsKept : SiteState local → Act local → Type 0
  IsKept s act = map letter_of out ≡ addressed site txn (said s act) → kept_in out ≡ true

  fetched_kept : (s : SiteState local) (k : Name) (op : ℕ) (g : local.Leaf) (q : local.Query) (kept : Bool) (st : Status local) → IsKept s (on_fetch s kept k op g q st)
  fetched_kept s k op g q kept Dead = λ is. one_kept _ refl is
  fetched_kept s k op g q kept (Prepared t i) = λ is. none_kept out is
  fetched_kept s k op g q kept (Active v) = either (IsKept s) (op == suc v.done) _ _
      (either (IsKept s) (others_exclusive s k g) _ _ (λ is. one_kept _ refl is) (either (IsKept s) kept _ _ (λ is. one_kept _ refl is) (λ is. none_kept out is))) (λ is. none_kept out is)

  commit_kept : (s : SiteState local) (k : Name) (kept : Bool) (st : Status local) → IsKept s (on_commit kept k st)
  commit_kept s k kept Dead = λ is. one_kept _ refl is
  commit_kept s k kept (Active v) = λ is. one_kept _ refl is
  commit_kept s k true (Prepared t i) = λ is. one_kept _ refl is
  commit_kept s k false (Prepared t i) = λ is. none_kept out is

  abort_kept : (s : SiteState local) (k : Name) (kept : Bool) (st : Status local) → IsKept s (on_abort kept k st)
  abort_kept s k kept Dead = λ is. none_kept out is
  abort_kept s k kept (Active v) = λ is. none_kept out is
  abort_kept s k true (Prepared t i) = λ is. none_kept out is
  abort_kept s k false (Prepared t i) = λ is. none_kept out is

  pub calls_kept : (db : Database) (s : SiteState local) (told : bodies.Body) → map letter_of out ≡ addressed site txn (said s (on_letter s txn (kept_in out) (body_of told))) → CallKept {L = language db} (kept_in out) (body_at local (statements db) site (body_of told))
  calls_kept db s (body.Order order.Open) is = tt
  calls_kept db s (body.Order (order.Fetch fetch)) is = fetched_kept s (name_of fetch.ticket) fetch.op fetch.leaf fetch.conds (kept_in out) (s.status (name_of fetch.ticket)) is
  calls_kept db s (body.Order (order.Intend intention)) is = tt
  calls_kept db s (body.Order (order.Prepare prepare)) is = tt
  calls_kept db s (body.Order (order.Commit ticket)) is = commit_kept s (name_of ticket) (kept_in out) (s.status (name_of ticket)) is
  calls_kept db s (body.Order (order.Abort ticket)) is = abort_kept s (name_of ticket) (kept_in out) (s.status (name_of ticket)) is
  calls_kept db s (body.Reply (reply_kinds.Ticket ticket)) is = tt
  calls_kept db s (body.Reply (reply_kinds.Rows rows)) is = tt
  calls_kept db s (body.Reply (reply_kinds.Refused refusal)) is = tt
  calls_kept db s (body.Reply (reply_kinds.Voted voted)) is = tt
  calls_kept db s (body.Reply (reply_kinds.Ack ticket)) is = tt
  calls_kept db s (body.Reply (reply_kinds.Inquire ticket)) is = tt

-- a site's reply is none of these
pub reply_keeps : (db : Database) (site : List ℕ) (told : bodies.Body) (kept : Bool) → is_order told ≡ false → CallKept {L = language db} kept (body_at local (statements db) site (body_of told))
reply_keeps db site (body.Order order) kept none = cc
reply_keeps db site (body.Reply (reply_kinds.Ticket ticket)) kept none = tt
reply_keeps db site (body.Reply (reply_kinds.Rows rows)) kept none = tt
reply_keeps db site (body.Reply (reply_kinds.Refused refusal)) kept none = tt
reply_keeps db site (body.Reply (reply_kinds.Voted voted)) kept none = tt
reply_keeps db site (body.Reply (reply_kinds.Ack ticket)) kept none = tt
reply_keeps db site (body.Reply (reply_kinds.Inquire ticket)) kept none = tt

pub any_ok : {T E : Type 0} {P : T → Type 0} (result : Result T E) → ((x : T) → P x) → IfOk result P
any_ok (Ok x) all = all x
any_ok (Err e) all = tt
