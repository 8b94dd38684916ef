-- Machines over lists start unless memory runs out: lists refuse nothing, and new ones are neither damaged nor at a limit.
use Rattle.std.proofs.Common.{◌≡◌, refl, ap, ◌∙◌, subst, ◌⊎◌, inl, inr, ℕ, ◌+◌, ◌≤◌, ◌^◌, Bool, true, false, List, [], ◌∷◌, map, Option, Some, None, if◌then◌else◌, arith}
use Rattle.std.specs.Cmp.{tied_itself}
use Rattle.std.specs.Option.{option_map}
use Rattle.std.specs.Ordering.{is_eq}
use Rattle.terms.specs.declared.leaf.Leaf.{Leaf}
use Rattle.store.specs.declared.commit.CommitRow.{CommitRow}
use Rattle.store.specs.declared.commit.Voter.{Voter}
use Rattle.store.specs.declared.fault.StoreFault.TheVariants.{Damaged, Refused}
use Rattle.store.specs.declared.name.Ticket.{Ticket}
use Rattle.store.specs.declared.name.Txn.{Txn}
use Rattle.store.specs.declared.prepared.PreparedRow.{PreparedRow}
use Rattle.store.specs.DeskContent as desk_content
use Rattle.store.specs.DeskContent.{DeskContent, by_site, is_txn, voters_in}
use Rattle.store.specs.Fault.{HasRefused}
use Rattle.store.specs.Orders.{ticket_cmp_total, txn_cmp_total}
use Rattle.store.specs.SiteContent.{IsUnchanged, SiteContent, is_ticket, row_of}
use Rattle.site.specs.declared.fault.SiteFault.{SiteFault}
use Rattle.site.specs.declared.fault.SiteFault.TheVariants as site_faults
use Rattle.site.specs.Locks.{free}
use Rattle.site.specs.Recovery.{IsStrange, all_may_stand}
use Rattle.desk.specs.declared.refusal.Refusal.{Refusal}
use Rattle.desk.specs.declared.refusal.Refusal.TheVariants as refusals
use Rattle.desk.specs.Recovery as desk_starting

-- nothing was refused, so a count that stays at 0 counts no refusal
never_refused : HasRefused 0 0 → ⊥
never_refused (inl less) = grind (arith)
never_refused (inr greatest) = grind (arith)

-- who has no row lists none
no_rows : (rows : List PreparedRow) → ((ticket : Ticket) → row_of ticket rows ≡ None) → rows ≡ []
no_rows [] none = refl
no_rows (row ∷ rows) none =
    let itself : is_ticket row.ticket row.ticket ≡ true = ap is_eq (tied_itself ticket_cmp_total row.ticket) in
    let found : Some row.prepared ≡ None = subst (λ (b : Bool). (if b then Some row.prepared else row_of row.ticket rows) ≡ None) itself (none row.ticket) in
    cc

no_voters : (found : Option (List Voter)) → option_map by_site found ≡ None → found ≡ None
no_voters None none = refl
no_voters (Some voters) none = cc

no_commits : (rows : List CommitRow) → ((txn : Txn) → voters_in txn rows ≡ None) → rows ≡ []
no_commits [] none = refl
no_commits (row ∷ rows) none =
    let itself : is_txn row.txn row.txn ≡ true = ap is_eq (tied_itself txn_cmp_total row.txn) in
    let found : Some row.voters ≡ None = subst (λ (b : Bool). (if b then Some row.voters else voters_in row.txn rows) ≡ None) itself (none row.txn) in
    cc

-- so nothing is strange in what a new store keeps
not_strange : (leaves : List Leaf) (kept : SiteContent) → ((ticket : Ticket) → kept.prepared ticket ≡ None) → IsStrange leaves kept → ⊥
not_strange leaves kept none strange =
    let rows = no_rows strange.all.prepared (λ ticket. strange.lists.rows ticket ∙ none ticket) in
    let right : true ≡ false = subst (λ (rows : List PreparedRow). all_may_stand leaves strange.all.life rows (map free leaves) ≡ false) rows strange.strange in
    cc

none_strange : (sites : List (List ℕ)) (kept : DeskContent) → ((txn : Txn) → kept.commits txn ≡ None) → desk_starting.IsStrange sites kept → ⊥
none_strange sites kept none strange =
    let rows = no_commits strange.all.commits (λ txn. no_voters (voters_in txn strange.all.commits) (strange.lists.rows txn ∙ none txn)) in
    let right : true ≡ false = subst (λ (rows : List CommitRow). desk_starting.may_stand strange.all.life sites rows ≡ false) rows strange.strange in
    cc

-- no life has begun, so the last one has not come
not_last : (life : ℕ) → life ≡ 0 → 2 ^ 63 ≤ life + 1 → ⊥
not_last life none last = grind (arith)

-- of the faults of a start at a site only want of memory is left
pub site_fault_is_memory : (leaves : List Leaf) (before after : SiteContent) (fault : SiteFault) → ((ticket : Ticket) → before.prepared ticket ≡ None) → before.life ≡ 0 → IsUnchanged before after →
    (fault ≡ site_faults.Store Refused → HasRefused 0 0) → (fault ≡ site_faults.Full → 2 ^ 63 ≤ after.life + 1) → (fault ≡ site_faults.Store Damaged → IsStrange leaves after) →
    (fault ≡ site_faults.Memory) ⊎ ((fault ≡ site_faults.Full) ⊎ ((fault ≡ site_faults.Store Refused) ⊎ (fault ≡ site_faults.Store Damaged))) → fault ≡ site_faults.Memory
site_fault_is_memory leaves before after fault none unborn same refused full damaged (inl memory) = memory
site_fault_is_memory leaves before after fault none unborn same refused full damaged (inr (inl is)) = absurd (not_last after.life (same.life ∙ unborn) (full is))
site_fault_is_memory leaves before after fault none unborn same refused full damaged (inr (inr (inl is))) = absurd (never_refused (refused is))
site_fault_is_memory leaves before after fault none unborn same refused full damaged (inr (inr (inr is))) = absurd (not_strange leaves after (λ ticket. same.prepared ticket ∙ none ticket) (damaged is))

-- and of those of the coordinator's
pub desk_refusal_is_memory : (sites : List (List ℕ)) (before after : DeskContent) (refusal : Refusal) → ((txn : Txn) → before.commits txn ≡ None) → before.life ≡ 0 → desk_content.IsUnchanged before after →
    (refusal ≡ refusals.Store Refused → HasRefused 0 0) → (refusal ≡ refusals.Full → 2 ^ 63 ≤ after.life + 1) → (refusal ≡ refusals.Store Damaged → desk_starting.IsStrange sites after) → (refusal ≡ refusals.Chain → ⊥) →
    (refusal ≡ refusals.Memory) ⊎ ((refusal ≡ refusals.Full) ⊎ ((refusal ≡ refusals.Chain) ⊎ ((refusal ≡ refusals.Store Refused) ⊎ (refusal ≡ refusals.Store Damaged)))) → refusal ≡ refusals.Memory
desk_refusal_is_memory sites before after refusal none unborn same refused full damaged chain (inl memory) = memory
desk_refusal_is_memory sites before after refusal none unborn same refused full damaged chain (inr (inl is)) = absurd (not_last after.life (same.life ∙ unborn) (full is))
desk_refusal_is_memory sites before after refusal none unborn same refused full damaged chain (inr (inr (inl is))) = absurd (chain is)
desk_refusal_is_memory sites before after refusal none unborn same refused full damaged chain (inr (inr (inr (inl is)))) = absurd (never_refused (refused is))
desk_refusal_is_memory sites before after refusal none unborn same refused full damaged chain (inr (inr (inr (inr is)))) = absurd (none_strange sites after (λ txn. same.commits txn ∙ none txn) (damaged is))
