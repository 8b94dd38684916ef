-- What is printed of the events of a schedule.
use Rattle.std.specs.Prelude.{ℕ, ◌+◌, ◌==◌, List, [], ◌∷◌, ◌++◌, Option, Some, None, codes, flat_map}
use Rattle.std.specs.Fmt.{decimal}
use Rattle.std.specs.List.{slice_split}
use Rattle.meaning.specs.Listed.{listed}
use Rattle.reader.specs.PrintAnswer.{answer_text}
use Rattle.reader.specs.Refusal as reading
use Rattle.catalog.specs.declared.fragment_leaf.FragmentLeaf.{FragmentLeaf}
use Rattle.catalog.specs.Catalogue.{Catalogue}
use Rattle.catalog.specs.FragmentLeaf.{catalogue_leaves, leaf_named, schemas_of}
use Rattle.store.specs.declared.letter.Body.{Body}
use Rattle.store.specs.declared.letter.Body.TheVariants as body
use Rattle.store.specs.declared.letter.Letter.{Letter}
use Rattle.store.specs.declared.name.Txn.{Txn}
use Rattle.store.specs.declared.order.Order.{Order}
use Rattle.store.specs.declared.order.Order.TheVariants as order
use Rattle.store.specs.LetterText.{letter_text}
use Rattle.desk.specs.declared.refusal.Refusal.{Refusal}
use Rattle.desk.specs.declared.refusal.Refusal.TheVariants as refusal
use Rattle.desk.specs.declared.reply.Notice.{Notice}
use Rattle.desk.specs.declared.reply.Out.{Out}
use Rattle.desk.specs.declared.reply.Reply.{Reply}
use Rattle.desk.specs.declared.reply.Reply.TheVariants as reply
use Rattle.desk.specs.declared.reply.Why.{Why}
use Rattle.desk.specs.declared.reply.Why.TheVariants as why
use Rattle.desk.specs.Refusal.{refusal_name, refusal_number}
use Rattle.site.specs.declared.fault.SiteFault.{SiteFault}
use Rattle.site.specs.Fault.{fault_name, fault_number}
use Rattle.lines.specs.Check.{columns_of, names_of_columns}

-- a line that a client hears
abbrev pub told_line : List ℕ → List ℕ → List ℕ
told_line name line = name ++ codes ": " ++ line ++ 10 ∷ []

-- each line of a text, as a client of this name hears it
abbrev pub told : List ℕ → List ℕ → List ℕ
told name text = flat_map (told_line name) (slice_split (λ byte. byte == 10) text)

-- why a transaction aborted: a number and a name
abbrev pub why_text : Why → List ℕ
why_text why.Vote = codes "1 Vote"
why_text why.Refused = codes "2 Refused"
why_text why.GivenUp = codes "3 GivenUp"
why_text why.Restart = codes "4 Restart"
why_text why.Store = codes "5 Store"

abbrev pub reply_text : Reply → List ℕ
reply_text reply.Begun = codes "begun"
reply_text (reply.Answer answer) = answer_text answer
reply_text reply.Committed = codes "committed"
reply_text reply.RolledBack = codes "rolled back"
reply_text (reply.Aborted cause) = codes "aborted " ++ why_text cause

-- a refusal of the coordinator: that of a text tells the reader's rule and place
abbrev pub refused_text : Refusal → List ℕ
refused_text (refusal.Read fault) = codes "refused read " ++ reading.fault_text fault
refused_text other = codes "refused " ++ decimal (refusal_number other) ++ codes " " ++ refusal_name other

-- a fault of the site of this name
abbrev pub fault_line : List ℕ → SiteFault → List ℕ
fault_line site fault = site ++ codes ": fault " ++ decimal (fault_number fault) ++ codes " " ++ fault_name fault ++ 10 ∷ []

-- the names of the columns of a leaf, none where it is not there
abbrev pub leaf_columns : Catalogue → Option FragmentLeaf → List (List ℕ)
leaf_columns catalogue None = []
leaf_columns catalogue (Some leaf) = names_of_columns (listed leaf.columns (columns_of (schemas_of catalogue) leaf.name.relation))

-- the names of the columns that an order's conditions speak of
abbrev pub order_columns : Catalogue → Order → List (List ℕ)
order_columns catalogue (order.Fetch fetch) = leaf_columns catalogue (leaf_named fetch.leaf (catalogue_leaves catalogue))
order_columns catalogue _ = []

abbrev pub body_columns : Catalogue → Body → List (List ℕ)
body_columns catalogue (body.Order asked) = order_columns catalogue asked
body_columns catalogue (body.Reply told_back) = []

-- a letter in a line, behind its number, about a transaction of this name
abbrev pub letter_line : List ℕ → Catalogue → ℕ → Letter → List ℕ
letter_line name catalogue number letter =
    decimal number ++ codes " " ++ letter_text name (body_columns catalogue letter.body) letter ++ 10 ∷ []

-- how transactions are named
abbrev pub Naming : Type 0
Naming = Txn → List ℕ

-- what a client hears
abbrev pub notice_text : Naming → Notice → List ℕ
notice_text named notice = told (named notice.txn) (reply_text notice.reply)

-- letters, the first of which has this number
abbrev pub letters_text : Naming → Catalogue → ℕ → List Letter → List ℕ
letters_text named catalogue number [] = []
letters_text named catalogue number (letter ∷ letters) =
    letter_line (named letter.txn) catalogue number letter ++ letters_text named catalogue (number + 1) letters

-- what an event puts out, after this many letters: what clients hear, and then the letters
abbrev pub out_text : Naming → Catalogue → ℕ → Out → List ℕ
out_text named catalogue sent out = flat_map (notice_text named) out.replies ++ letters_text named catalogue (sent + 1) out.letters
