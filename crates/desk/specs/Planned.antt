-- A statement's fetches and writes, with the sites of their leaves, and what is known of a plan whose rows are waited for.
use Rattle.std.specs.Prelude.{◌≡◌, ⊤, ℕ, true, List, map, None}
use Rattle.std.specs.List.{AllByRecursion}
use Rattle.terms.specs.declared.cond.Cond.{Cond}
use Rattle.terms.specs.declared.write.Write.{Write}
use Rattle.meaning.specs.declared.statement.Statement.{Statement}
use Rattle.catalog.specs.Catalogue.{Catalogue}
use Rattle.catalog.specs.FragmentLeaf.{catalogue_leaves}
use Rattle.plan.specs.declared.fetch.Fetch.{Fetch}
use Rattle.plan.specs.Reduced.{FindsAll}
use Rattle.plan.specs.Stated.{AreFetchesOf}
use Rattle.answers.specs.declared.moves.Move.{Move}
use Rattle.answers.specs.Moves.{is_to_either}
use Rattle.answers.specs.Writes.{is_leaf_in, leaf_of as written_leaf}
use Rattle.protocol.specs.Letters.{leaf_of}
use Rattle.desk.specs.declared.fetches.Ask.{Ask}
use Rattle.desk.specs.declared.transaction.Stage.{Stage}
use Rattle.desk.specs.declared.transaction.Stage.TheVariants as stage
use Rattle.desk.specs.declared.transaction.Unsent.{Unsent}
use Rattle.desk.specs.Database.{Database, IsStated}
use Rattle.desk.specs.Place.{Place, fetch_in, home_in}
use Rattle.desk.specs.ReducedPlan.{ReducedPlan, plan_in}

-- a fetch that is to be sent
abbrev pub ask_from : Catalogue → Fetch → Ask
ask_from catalogue fetch = record { leaf = fetch.leaf; site = home_in catalogue fetch.leaf; conds = fetch.conds; number = None; rows = None }

-- a write that is to be sent
abbrev pub unsent_from : Catalogue → Write → Unsent
unsent_from catalogue write = record { write = write; site = home_in catalogue (leaf_of write) }

-- a move that is to be sent, to a leaf at the site that it names
abbrev pub unsent_by : Move → Unsent
unsent_by move = record { write = move.write; site = move.site }

-- writes that are to be sent are those of a list of writes to leaves of a catalogue, at the leaves' sites
pub record AreUnsentFrom (catalogue : Catalogue) (unsent : List Unsent) : Type 0 where
  pub writes : List Write
  pub are : unsent ≡ map (unsent_from catalogue) writes
  pub leaves : AllByRecursion (λ write. is_leaf_in (catalogue_leaves catalogue) (written_leaf write) ≡ true) writes

-- or those of a list of moves, each to a leaf that one of two catalogues has at its site
pub record AreUnsentBy (old new : Catalogue) (unsent : List Unsent) : Type 0 where
  pub moves : List Move
  pub are : unsent ≡ map unsent_by moves
  pub leaves : AllByRecursion (λ one. is_to_either old new one ≡ true) moves

-- what is asked for, and where
abbrev pub asked : Ask → Place × List Cond
asked ask = ((ask.site, ask.leaf), ask.conds)

-- a statement of the database, a reduced plan of it under the catalogue of this number, and the plan's fetches, in order, each at its site
pub record IsOfPlan (db : Database) (n : ℕ) (stated : Statement) (plan : ReducedPlan) (asks : List Ask) : Type 0 where
  pub statement : IsStated db n stated
  pub fetches : AreFetchesOf (db.catalogue n) stated plan.fetches
  pub finds : FindsAll (db.catalogue n) stated plan.fetches (plan_in plan)
  pub in_order : map asked asks ≡ map (fetch_in (db.catalogue n)) plan.fetches

-- what is known of a waiting plan: it was made under the catalogue of this number
abbrev pub IsPlanned : Database → ℕ → Stage → Type 0
IsPlanned db n stage.Idle = ⊤
IsPlanned db n (stage.Reading reading) = (reading.version ≡ n) × IsOfPlan db n reading.statement reading.plan reading.asks.items
IsPlanned db n (stage.Writing writing) = ⊤
IsPlanned db n stage.Voting = ⊤
