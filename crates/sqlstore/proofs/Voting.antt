-- What lists of voters make is what their members say, in whatever order they stand.
use Rattle.std.proofs.Common.{◌≡◌, ◌⊎◌, ℕ, ◌+◌, ◌<◌, ◌++◌, length, take, get_or, Bool, true, false, cond, List, [], ◌∷◌, map, Option, Some, None, refl, sym, ap, ◌∙◌, inl, inr}
use Rattle.std.specs.Cmp.Lexicographic.{slice_cmp}
use Rattle.std.specs.FinMap as keyed
use Rattle.std.specs.FinMap.{nat_cmp-IsAntisymmetric, slice_cmp-IsAntisymmetric}
use Rattle.std.specs.Ordering.{nat_cmp}
use Rattle.std.proofs.lemmas.Bool.{both_ways}
use Rattle.std.proofs.lemmas.Cmp.{nat_list_cmp_total}
use Rattle.std.proofs.lemmas.List.{map-append, take_more}
use Rattle.sqlite.specs.Order.{Row}
use Rattle.sqlite_rules.specs.Lists.{Has}
use Rattle.sqlite_rules.proofs.ListLemmas.{has_filtered, has_kept, all_more}
use Rattle.store.specs.declared.commit.Voter.{Voter}
use Rattle.store.specs.declared.name.Ticket.{Ticket}
use Rattle.store.specs.declared.name.Txn.{Txn}
use Rattle.store.specs.DeskContent.{by_site, commit_row}
use Rattle.sqlstore.specs.declared.vote.Vote.{Vote}
use Rattle.sqlstore.specs.Cells.{is_text}
use Rattle.sqlstore.specs.Decided.{is_by, voter_in, voters_by}
use Rattle.sqlstore.specs.Votes.{AreVotes, IsNamed, vote_cells, voter_cells}
use Rattle.sqlstore.proofs.Bridge.{text_same, same_text}
use Rattle.sqlstore.proofs.Querying.{mapped_has, has_mapped}

-- ---- the voters of a transaction

pub voter_from : (rows : List Row) (txn : Txn) (voter : Voter) → Has (voters_by rows txn) voter → (row : Row) × Has rows row × (is_by txn row ≡ true) × (voter ≡ voter_in row)
voter_from rows txn voter there =
    let shown = mapped_has voter_in _ voter there in
    let row = has_filtered (is_by txn) rows shown.0 shown.1 in
    (shown.0, row.0, row.1, shown.2)

pub voter_listed : (rows : List Row) (txn : Txn) (row : Row) → Has rows row → is_by txn row ≡ true → Has (voters_by rows txn) (voter_in row)
voter_listed rows txn row there mine = has_mapped voter_in _ row (has_kept (is_by txn) rows row there mine)

-- ---- commit rows

-- a ticket was found of a voter of the site, or no voter is of the site and none was found
FindsVoter : List Voter → List ℕ → Option Ticket → Type 0
FindsVoter voters site found = ((voter : Voter) × Has voters voter × (voter.site ≡ site) × (found ≡ Some voter.ticket)) ⊎ (((voter : Voter) → Has voters voter → voter.site ≡ site → ⊥) × (found ≡ None))

abbrev entry_of : Voter → List ℕ × Ticket
entry_of voter = (voter.site, voter.ticket)

abbrev ticket_in : List Voter → List ℕ → Option Ticket
ticket_in voters site = keyed.find (slice_cmp nat_cmp) site (map entry_of voters)

look_voter : (voters : List Voter) (site : List ℕ) → FindsVoter voters site (ticket_in voters site)
unfolding FindsVoter
look_voter [] site = inr (λ voter none same. absurd none, refl)
look_voter (first ∷ voters) site = go (is_text site first.site) refl (look_voter voters site)
  where
    go : (here : Bool) → is_text site first.site ≡ here → FindsVoter voters site (ticket_in voters site) → FindsVoter (first ∷ voters) site (cond here (Some first.ticket) (ticket_in voters site))
    go true same later = inl (first, inl refl, sym (text_same site first.site same), refl)
    go false differ (inl found) = inl (found.0, inr found.1, found.2, found.3)
    go false differ (inr none) =
        inr (
          λ voter there same. elim there [
            | inl is ↦ both_ways (is_text site first.site) differ (same_text site first.site (sym same ∙ ap (λ (v : Voter). v.site) is))
            | inr after ↦ none.0 voter after same
          ],
          none.1,
        )

-- lists that have the same voters, each site once, make one map
pub same_voters : (one other : List Voter) → ((voter : Voter) → Has one voter → Has other voter) → ((voter : Voter) → Has other voter → Has one voter) → ((a b : Voter) → Has other a → Has other b → a.site ≡ b.site → a ≡ b) → by_site one ≡ by_site other
unfolding FindsVoter
same_voters one other to from once = keyed.same_map nat_list_cmp_total (slice_cmp-IsAntisymmetric nat_cmp-IsAntisymmetric) _ _ (λ site.
    keyed.get-from_entries nat_list_cmp_total (map entry_of one) site ∙ go site _ _ (look_voter one site) (look_voter other site) ∙ sym (keyed.get-from_entries nat_list_cmp_total (map entry_of other) site))
  where
    go : (site : List ℕ) (here there : Option Ticket) → FindsVoter one site here → FindsVoter other site there → here ≡ there
    go site here there (inl a) (inl b) = a.3 ∙ ap (λ (v : Voter). Some v.ticket) (once a.0 b.0 (to a.0 a.1) b.1 (a.2 ∙ sym b.2)) ∙ sym b.3
    go site here there (inl a) (inr none) = absurd (none.0 a.0 (to a.0 a.1) a.2)
    go site here there (inr none) (inl b) = absurd (none.0 b.0 (from b.0 b.1) b.2)
    go site here there (inr none) (inr nothing) = none.1 ∙ sym nothing.1

-- and one commit row
pub same_commit : (one other : List Voter) → ((voter : Voter) → Has one voter → Has other voter) → ((voter : Voter) → Has other voter → Has one voter) → ((a b : Voter) → Has other a → Has other b → a.site ≡ b.site → a ≡ b) → commit_row one ≡ commit_row other
same_commit [] [] to from once = refl
same_commit [] (v ∷ other) to from once = absurd (from v (inl refl))
same_commit (v ∷ one) [] to from once = absurd (to v (inl refl))
same_commit (v ∷ one) (w ∷ other) to from once = ap Some (same_voters (v ∷ one) (w ∷ other) to from once)

-- no voters make no commit row, and no commit row has no voters
pub no_commit : (voters : List Voter) → ((voter : Voter) → Has voters voter → ⊥) → commit_row voters ≡ None
no_commit [] none = refl
no_commit (voter ∷ voters) none = absurd (none voter (inl refl))

pub none_voted : (voters : List Voter) → commit_row voters ≡ None → (voter : Voter) → Has voters voter → ⊥
none_voted [] none voter there = there
none_voted (first ∷ voters) none voter there = cc

-- ---- votes

-- a vote more, of the next voter
pub votes_more : (votes after : List Vote) (voters : List Voter) (i : ℕ) (vote : Vote) (voter : Voter) → i < length voters → voter ≡ get_or voters i voter → after ≡ votes ++ vote ∷ [] → vote_cells vote ≡ voter_cells voter → IsNamed voter → AreVotes votes (take i voters)
    → AreVotes after (take (i + 1) voters)
votes_more votes after voters i vote voter lt is pushed same named so_far = (
  ap (map vote_cells) pushed ∙ map-append vote_cells votes (vote ∷ []) ∙ ap (λ cells. cells ++ vote_cells vote ∷ []) so_far.0 ∙ ap (λ cells. map voter_cells (take i voters) ++ cells ∷ []) (same ∙ ap voter_cells is)
      ∙ sym (map-append voter_cells (take i voters) (get_or voters i voter ∷ [])) ∙ ap (map voter_cells) (sym (take_more voters i voter lt)),
  all_more IsNamed voters i voter lt is so_far.1 named,
)
