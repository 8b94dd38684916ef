-- The language of a database: places are leaves at sites, and statements over whole relations are for the catalogue that was in force as they were made.
use Rattle.std.specs.Prelude.{◌≡◌, ℕ, suc, Bool, false, List, Some}
use Rattle.std.specs.FinMap as fin
use Rattle.terms.specs.declared.cond.Cond.{Cond}
use Rattle.terms.specs.declared.value.Value.{Value}
use Rattle.meaning.specs.declared.answer.Answer.{Answer}
use Rattle.meaning.specs.declared.schema.RelationSchema.{RelationSchema}
use Rattle.meaning.specs.declared.statement.Refragment.{Refragment}
use Rattle.meaning.specs.declared.statement.Statement.{Statement}
use Rattle.meaning.specs.declared.statement.Statement.TheVariants as statement
use Rattle.meaning.specs.Meaning.{meaning}
use Rattle.meaning.specs.Statement.{IsStatementOf, is_refragment}
use Rattle.meaning.specs.Whole.{FitsSchema, Relations}
use Rattle.catalog.specs.Catalogue.{Catalogue}
use Rattle.catalog.specs.Chain.{IsNext}
use Rattle.store.specs.Content.{Content}
use Rattle.store.specs.declared.letter.Letter as letters
use Rattle.store.specs.declared.reply.Reply as replies
use Rattle.protocol.specs.Catalogues.{Catalogues, body_at, letter_at, listed}
use Rattle.protocol.specs.Language.{Lang}
use Rattle.protocol.specs.Letter.{Body, Letter}
use Rattle.protocol.specs.Letters.{letter_of, reply_body}
use Rattle.protocol.specs.Local.{local, AtKey}
use Rattle.desk.specs.Place.{Place, site_in}

-- what the coordinator's machine knows of a database
pub record Database : Type 0 where
  -- the catalogue of each number, and the relations and the sites that all of them have, in their order
  pub catalogue : ℕ → Catalogue
  pub schemas : List RelationSchema
  pub sites : List (List ℕ)
  -- under a catalogue: whether parts fit a leaf's columns and their keys ascend, and what a place has of whole relations
  pub well_formed : ℕ → Place → List (List Value) → Bool
  pub content : ℕ → Place → Relations → Content
  -- what a statement reads
  pub fetches : ℕ → Statement → List (Place × List Cond)
  -- the writes that lead from what places have of some whole relations under one catalogue to what they have of others under another
  pub writes : ℕ → ℕ → Relations → Relations → List (Place × AtKey)

-- a catalogue has the leaf at the site
pub record IsPlace (db : Database) (place : Place) : Type 0 where
  pub version : ℕ
  pub there : site_in (db.catalogue version) place.1 ≡ Some place.0

-- a statement over its relations, where the catalogue of this number is in force: one that gives a relation another split gives it that of the next catalogue, which splits this relation alone otherwise
pub record IsStated (db : Database) (n : ℕ) (stated : Statement) : Type 0 where
  pub of_schemas : IsStatementOf db.schemas stated
  pub next : (refragment : Refragment) → stated ≡ statement.Refragment refragment → IsNext (db.catalogue n) (db.catalogue (suc n)) refragment.relation.name

-- a statement over its relations that leaves their split as it is
pub record IsOrdinary (db : Database) (stated : Statement) : Type 0 where
  pub of_schemas : IsStatementOf db.schemas stated
  pub stays : is_refragment stated ≡ false

-- its statements; a REFRAGMENT brings the next catalogue
abbrev pub statements : Database → Catalogues local
statements db = record {
  Statement = Statement;
  Answer = Answer;
  Whole = Relations;
  sites = db.sites;
  nothing = fin.empty;
  well_formed = db.well_formed;
  IsStatement = IsStated db;
  IsWhole = FitsSchema db.schemas;
  raises = is_refragment;
  meaning = meaning;
  content = db.content;
  fetches = db.fetches;
  writes = db.writes;
}

-- its language
abbrev pub language : Database → Lang
language db = listed local (statements db)

-- a letter in it
abbrev pub sent : (db : Database) → letters.Letter → Letter (language db)
sent db letter = letter_at local (statements db) (letter_of letter)

-- what a reply of a site says in it
abbrev pub replied : (db : Database) → List ℕ → replies.Reply → Body (language db)
replied db site reply = body_at local (statements db) site (reply_body reply)
