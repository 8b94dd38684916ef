-- The last calls of transactions' clients, entry by entry.
use Rattle.std.proofs.Common.{◌≡◌, ◌≢◌, ◌++◌, ◌∷◌, ◌∙◌, ◌<◌, ◌+◌, ℕ, List, [], Bool, true, false, Bor, BTreeMap, Option, Some, None, length, get_or, take, drop, if◌then◌else◌, refl, sym, ap, inl, inr}
use Rattle.std.specs.BTreeMap.{Updates}
use Rattle.std.specs.Option.{option_copied}
use Rattle.std.proofs.lemmas.List.{drop_more, take_more}
use Rattle.store.specs.declared.name.Txn.{Txn}
use Rattle.store.specs.Name.{txn_cmp}
use Rattle.store.specs.Orders.{txn_cmp-IsAntisymmetric, txn_cmp_total}
use Rattle.desk.proofs.Acknowledged.{txn_is}
use Rattle.desk.proofs.Txns.{same_txn, txn_same}
use Rattle.desk.specs.declared.reply.Notice.{Notice}
use Rattle.world.specs.declared.event.Call as calls
use Rattle.world.specs.Replies.{is_txn}
use Rattle.history.specs.declared.entry.Entry.{Entry}
use Rattle.history.specs.Standing.{known_call}
use Rattle.history.specs.Told.{accepted_in, begun_by, last_call, later}
use Rattle.history.proofs.MapSteps.{changed}

-- others are others
not_txn : (one other : Txn) → one ≢ other → is_txn one other ≡ false
not_txn one other apart = go (is_txn one other) refl
  where
    go : (b : Bool) → is_txn one other ≡ b → is_txn one other ≡ false
    go true e = absurd (apart (txn_is one other (sym (same_txn one other) ∙ e)))
    go false e = e

-- a call is noted for its transaction
pub noted : (last new : BTreeMap Txn (Bor calls.Call)) (txn : Txn) (asked : Bor calls.Call) → Updates txn_cmp last new txn (Some asked) → (other : Txn) → known_call new other ≡ later (if is_txn txn other then Some asked.now else None) (known_call last other)
noted last new txn asked updates other = elim (changed txn_cmp txn_cmp_total txn_cmp-IsAntisymmetric last new txn (Some asked) updates other) [
  | inl here ↦ ap option_copied here.1 ∙ sym (ap (λ b. later (if b then Some asked.now else None) (known_call last other)) (same_txn txn other ∙ txn_same txn other here.0))
  | inr there ↦ ap option_copied there.1 ∙ sym (ap (λ b. later (if b then Some asked.now else None) (known_call last other)) (not_txn txn other there.0))
]

-- what was begun counts where nothing else does
begun_last : (call : calls.Call) (notices : List Notice) (txn : Txn) → later (begun_by call notices txn) (Some call) ≡ Some call
begun_last call [] txn = refl
begun_last call (notice ∷ notices) txn = elim (is_txn notice.txn txn) as (λ b. later (if b then Some call else begun_by call notices txn) (Some call) ≡ Some call) [ true ↦ refl | false ↦ begun_last call notices txn ]

-- the notice counts before those behind it, or after them
begun_first : (call : calls.Call) (b : Bool) (notices : List Notice) (txn : Txn) (old : Option calls.Call) → later (begun_by call notices txn) (later (if b then Some call else None) old) ≡ later (if b then Some call else begun_by call notices txn) old
begun_first call true notices txn old = begun_last call notices txn
begun_first call false notices txn old = refl

-- one notice more of transactions that have begun
pub begun_more : (notices : List Notice) (i : ℕ) (notice : Notice) (last new : BTreeMap Txn (Bor calls.Call)) (asked : Bor calls.Call) (all : Option calls.Call) → i < length notices → notice ≡ get_or notices i notice → Updates txn_cmp last new notice.txn (Some asked)
    → (txn : Txn) → later (begun_by asked.now (drop i notices) txn) (known_call last txn) ≡ all → later (begun_by asked.now (drop (i + 1) notices) txn) (known_call new txn) ≡ all
begun_more notices i notice last new asked all h at updates txn so =
    let call = asked.now in
    let rest = drop (i + 1) notices in
    let here : drop i notices ≡ notice ∷ rest = drop_more notices i notice h ∙ ap (λ first. first ∷ rest) (sym at) in
    let now : known_call new txn ≡ later (if is_txn notice.txn txn then Some call else None) (known_call last txn) = noted last new notice.txn asked updates txn in
    ap (later (begun_by call rest txn)) now ∙ (begun_first call (is_txn notice.txn txn) rest txn (known_call last txn) ∙ (ap (λ left. later (begun_by call left txn) (known_call last txn)) (sym here) ∙ so))

-- one entry more
last_more : (txn : Txn) (so_far : Option calls.Call) (entries : List Entry) (entry : Entry) → last_call txn so_far (entries ++ entry ∷ []) ≡ later (accepted_in entry.fault entry txn) (last_call txn so_far entries)
last_more txn so_far [] entry = refl
last_more txn so_far (first ∷ entries) entry = last_more txn (later (accepted_in first.fault first txn) so_far) entries entry

pub last_at : (txn : Txn) (entries : List Entry) (i : ℕ) (entry : Entry) → i < length entries → entry ≡ get_or entries i entry → last_call txn None (take (i + 1) entries) ≡ later (accepted_in entry.fault entry txn) (last_call txn None (take i entries))
last_at txn entries i entry h at = ap (last_call txn None) (take_more entries i entry h ∙ ap (λ e. take i entries ++ e ∷ []) (sym at)) ∙ last_more txn None (take i entries) entry
