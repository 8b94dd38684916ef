-- Relations as the code has them, and their refusals.
use Rattle.std.specs.Prelude.{ℕ, List, [], map}
use Rattle.toml.specs.Data.{Data}
use Rattle.catalog.specs.declared.fault.Rule.{Rule}
use Rattle.catalog.specs.declared.relation.SplitRelation as code
use Rattle.catalog.specs.Catalogue.{SplitRelation, Catalogue, IsRelationIn}
use Rattle.catalog.specs.Inexact.{IsFirstInexact, row_splits}
use Rattle.catalog.specs.Refusal.{RefusesBy}
use Rattle.catalog.specs.Split.{tree_of}

-- a relation, seen as the definition says it
abbrev pub relation_of : code.SplitRelation → SplitRelation
relation_of relation = record { schema = relation.schema; tree = tree_of relation.split }

-- a catalogue's sites and relations, seen as the definition says it
abbrev pub catalogue_of : List (List ℕ) × List code.SplitRelation → Catalogue
catalogue_of catalog = record { sites = catalog.0; relations = map relation_of catalog.1 }

-- nothing is said of a relation
abbrev pub SaysNoRelation : List (List ℕ) → List ℕ × Data → Type 0
SaysNoRelation sites entry = (relation : SplitRelation) → IsRelationIn sites entry relation → ⊥

-- a refusal of a relation by the rule, which for a gap or an overlap names the first faulty cell of its first row split that is not exact
abbrev pub RefusesRelation : List (List ℕ) → List ℕ × Data → Rule → Type 0
RefusesRelation sites entry rule =
    RefusesBy ((relation : SplitRelation) → IsRelationIn sites entry relation → IsFirstInexact (record { sites = sites; columns = relation.schema.columns }) rule (row_splits [] relation.tree)) (SaysNoRelation sites entry) rule
