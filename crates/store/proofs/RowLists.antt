-- The list of a map's rows finds what the map has, and ascends as it does.
use Rattle.std.proofs.Common.{◌≡◌, Bool, true, false, List, [], ◌∷◌, Option, Some, cond, if◌then◌else◌, map, refl, ap}
use Rattle.std.specs.BTreeMap.{is_at}
use Rattle.std.specs.Map.{lookup, keys_of}
use Rattle.std.specs.Option.{option_map}
use Rattle.store.specs.declared.commit.Voter.{Voter}
use Rattle.store.specs.declared.name.Ticket.{Ticket}
use Rattle.store.specs.declared.name.Txn.{Txn}
use Rattle.store.specs.declared.prepared.Prepared.{Prepared}
use Rattle.store.specs.Name.{ticket_cmp, txn_cmp}
use Rattle.store.specs.RowList.{rows_of, commits_of}
use Rattle.store.specs.DeskContent.{is_txn, voters_in}
use Rattle.store.specs.SiteContent.{is_ticket, row_of}

pub row_found : (entries : List (Ticket × Prepared)) (ticket : Ticket) → row_of ticket (rows_of entries) ≡ lookup (is_at (ticket_cmp ticket)) entries
row_found [] ticket = refl
row_found (entry ∷ entries) ticket = ap (cond (is_ticket ticket entry.0) (Some entry.1)) (row_found entries ticket)

pub tickets_listed : (entries : List (Ticket × Prepared)) → map (λ row. row.ticket) (rows_of entries) ≡ keys_of entries
tickets_listed [] = refl
tickets_listed (entry ∷ entries) = ap (λ tickets. entry.0 ∷ tickets) (tickets_listed entries)

pub voters_found : (entries : List (Txn × List Voter)) (txn : Txn) → voters_in txn (commits_of entries) ≡ lookup (is_at (txn_cmp txn)) entries
voters_found [] txn = refl
voters_found (entry ∷ entries) txn = ap (cond (is_txn txn entry.0) (Some entry.1)) (voters_found entries txn)

pub txns_listed : (entries : List (Txn × List Voter)) → map (λ row. row.txn) (commits_of entries) ≡ keys_of entries
txns_listed [] = refl
txns_listed (entry ∷ entries) = ap (λ txns. entry.0 ∷ txns) (txns_listed entries)

-- what is made of one of two is one of what is made of both
pub either_mapped : {A B : Type 0} (f : A → B) (b : Bool) (x y : Option A) → option_map f (if b then x else y) ≡ (if b then option_map f x else option_map f y)
either_mapped f true x y = refl
either_mapped f false x y = refl
