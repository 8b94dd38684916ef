-- What each text means, under the schema of the coordinator.
use Rattle.std.proofs.Common.{◌≡◌, ℕ, pos, List, [], ◌∷◌, false, codes, refl}
use Rattle.sqlite.specs.Command.TheVariants.{Insert}
use Rattle.sqlite.specs.Listing.{understood, reads_listing}
use Rattle.sqlite.specs.Source.TheVariants as source
use Rattle.sqlite.specs.Term.{lit, col}
use Rattle.sqlite.specs.declared.types.Value.TheVariants.{Null, Int}
use Rattle.sqlite.proofs.Callers.{IsPlain, command_of}
use Rattle.sqlite_tied.specs.Compute.{everything}
use Rattle.sqlstore.specs.DeskRows.{vote_terms, state_terms}
use Rattle.sqlstore.specs.DeskTables.{desk_schema}
use Rattle.sqlstore.specs.Tests.{of_visit}
use Rattle.sqlstore.proofs.Texts.{deletes_from, selects, lists}

-- ---- what changes

abbrev pub vote_text : List ℕ
vote_text = codes "INSERT INTO decided (tlife, tnumber, site, life, visit) VALUES (?1, ?2, ?3, ?4, ?5)"

pub vote_is : command_of (understood desk_schema vote_text) ≡ Insert 0 (source.Values (lit Null ∷ col 0 0 ∷ col 0 1 ∷ col 0 2 ∷ col 0 3 ∷ col 0 4 ∷ []) 6)
unfolding understood everything
vote_is = refl

pub vote_plain : IsPlain (understood desk_schema vote_text)
unfolding understood everything
vote_plain = (refl, refl)

abbrev pub undecide_text : List ℕ
undecide_text = codes "DELETE FROM decided WHERE tlife = ?1 AND tnumber = ?2"

pub undecide_is : command_of (understood desk_schema undecide_text) ≡ deletes_from 0 0 of_visit
unfolding understood everything
undecide_is = refl

pub undecide_plain : IsPlain (understood desk_schema undecide_text)
unfolding understood everything
undecide_plain = (refl, refl)

abbrev pub end_epoch_text : List ℕ
end_epoch_text = codes "DELETE FROM state"

pub end_epoch_is : command_of (understood desk_schema end_epoch_text) ≡ deletes_from 1 2 []
unfolding understood everything
end_epoch_is = refl

pub end_epoch_plain : IsPlain (understood desk_schema end_epoch_text)
unfolding understood everything
end_epoch_plain = (refl, refl)

abbrev pub start_epoch_text : List ℕ
start_epoch_text = codes "INSERT INTO state (one, life, version) VALUES (1, ?1, ?2)"

pub start_epoch_is : command_of (understood desk_schema start_epoch_text) ≡ Insert 1 (source.Values (lit (Int (pos 1)) ∷ lit Null ∷ col 0 0 ∷ col 0 1 ∷ []) 4)
unfolding understood everything
start_epoch_is = refl

pub start_epoch_plain : IsPlain (understood desk_schema start_epoch_text)
unfolding understood everything
start_epoch_plain = (refl, refl)

-- ---- what reads

abbrev pub epochs_text : List ℕ
epochs_text = codes "SELECT life, version FROM state"

pub epochs_is : command_of (understood desk_schema epochs_text) ≡ selects 2 [] (col 1 2 ∷ col 1 3 ∷ []) (codes "life" ∷ codes "version" ∷ [])
unfolding understood everything
epochs_is = refl

pub epochs_plain : IsPlain (understood desk_schema epochs_text)
unfolding understood everything
epochs_plain = (refl, refl)

pub epochs_unlisted : reads_listing desk_schema epochs_text ≡ false
unfolding understood everything
epochs_unlisted = refl

abbrev pub votes_text : List ℕ
votes_text = codes "SELECT rowid, tlife, tnumber, site, life, visit FROM decided ORDER BY rowid"

abbrev pub votes_names : List (List ℕ)
votes_names = codes "rowid" ∷ codes "tlife" ∷ codes "tnumber" ∷ codes "site" ∷ codes "life" ∷ codes "visit" ∷ []

pub votes_is : command_of (understood desk_schema votes_text) ≡ lists 0 vote_terms votes_names
unfolding understood everything
votes_is = refl

pub votes_plain : IsPlain (understood desk_schema votes_text)
unfolding understood everything
votes_plain = (refl, refl)

pub votes_unlisted : reads_listing desk_schema votes_text ≡ false
unfolding understood everything
votes_unlisted = refl

abbrev pub state_text : List ℕ
state_text = codes "SELECT one, NULL, life, version FROM state ORDER BY one"

abbrev pub state_names : List (List ℕ)
state_names = codes "one" ∷ codes "NULL" ∷ codes "life" ∷ codes "version" ∷ []

pub state_is : command_of (understood desk_schema state_text) ≡ lists 2 state_terms state_names
unfolding understood everything
state_is = refl

pub state_plain : IsPlain (understood desk_schema state_text)
unfolding understood everything
state_plain = (refl, refl)

pub state_unlisted : reads_listing desk_schema state_text ≡ false
unfolding understood everything
state_unlisted = refl
