-- All rows of the coordinator's tables, as queries show them.
use Rattle.std.specs.Prelude.{List, [], ◌∷◌, Option, Some, None}
use Rattle.std.specs.List.{AllByRecursion}
use Rattle.sqlite.specs.Effect.{Database}
use Rattle.sqlite.specs.Term.{Term, lit, col}
use Rattle.sqlite.specs.declared.types.Value.TheVariants.{Null}
use Rattle.store.specs.declared.commit.Voter.{Voter}
use Rattle.store.specs.DeskContent.{DeskContent, commit_row}
use Rattle.sqlstore.specs.Content.{life_in}
use Rattle.sqlstore.specs.Decided.{voters_by, version_in}
use Rattle.sqlstore.specs.DeskSound.{IsVote, IsEpoch}
use Rattle.sqlstore.specs.Gathered.{ShowsAll}
use Rattle.sqlstore.specs.Numbered.{AreNumbered}
use Rattle.sqlstore.specs.declared.desk_rows.DeskRows.{DeskRows}

-- the columns of a voter's row, and those of the row of incarnation and version, in the places that their tables have them
abbrev pub vote_terms : List Term
vote_terms = col 1 0 ∷ col 1 1 ∷ col 1 2 ∷ col 1 3 ∷ col 1 4 ∷ col 1 5 ∷ []

abbrev pub state_terms : List Term
state_terms = col 1 0 ∷ lit Null ∷ col 1 2 ∷ col 1 3 ∷ []

-- all rows of both tables, each in the order of their numbers
pub record ShowsDesk (db : Database) (rows : DeskRows) : Type 0 where
  pub votes : ShowsAll (db.trees 0) rows.votes.items
  pub epoch : ShowsAll (db.trees 2) rows.epoch.items

-- what these rows keep
abbrev pub told_by : DeskRows → DeskContent
told_by rows = record { commits = λ txn. commit_row (voters_by rows.votes.items txn); life = life_in rows.epoch.items; version = version_in rows.epoch.items }

-- each row has a number of its own, and they are as the store leaves them
pub record AreDeskRows (rows : DeskRows) : Type 0 where
  pub votes_numbered : AreNumbered rows.votes.items
  pub epoch_numbered : AreNumbered rows.epoch.items
  pub votes : AllByRecursion IsVote rows.votes.items
  pub epoch : AllByRecursion IsEpoch rows.epoch.items

-- a list, if there is something in it
abbrev pub some_voters : List Voter → Option (List Voter)
some_voters [] = None
some_voters (voter ∷ voters) = Some (voter ∷ voters)
