-- What a script of schedules says, line by line.
use Rattle.std.specs.Prelude.{ℕ, ◌^◌, ◌==◌, ◌&&◌, Bool, true, false, not, if◌then◌else◌, nat_lt, List, [], ◌∷◌, ◌++◌, length, codes, bytes_eq, Option, Some, None}
use Rattle.std.specs.Char.{is_ascii_alphabetic, is_ascii_alphanumeric, is_ascii_digit}
use Rattle.std.specs.List.{list_all, slice_get, slice_split}
use Rattle.std.specs.Option.{option_and_then, option_map}
use Rattle.std.specs.Str.{is_utf8}
use Rattle.std.specs.Str.Parse.{digits_value}
use Rattle.store.specs.declared.name.Ticket.{Ticket}
use Rattle.lines.specs.Cut.{cut}
use Rattle.lines.specs.Script.{is_word}
use Rattle.lines.specs.declared.play_script.Ask.{Ask}
use Rattle.lines.specs.declared.play_script.Ask.TheVariants as ask
use Rattle.lines.specs.declared.play_script.AtSite.{AtSite}
use Rattle.lines.specs.declared.play_script.AtSite.TheVariants as site
use Rattle.lines.specs.declared.play_script.Item.{Item}
use Rattle.lines.specs.declared.play_script.Item.TheVariants as item
use Rattle.lines.specs.declared.play_script.Line.{Line}
use Rattle.lines.specs.declared.play_script.Line.TheVariants as line
use Rattle.lines.specs.declared.play_script.Verb.{Verb}
use Rattle.lines.specs.declared.play_script.Verb.TheVariants as verb

-- a letter, and then letters and digits, 16 bytes at most
abbrev pub is_name : List ℕ → Bool
is_name [] = false
is_name (first ∷ rest) = is_ascii_alphabetic first && list_all is_ascii_alphanumeric rest && nat_lt (length rest) 16

-- digits of a number below 2 to the 64
abbrev pub is_number : List ℕ → Bool
is_number word = list_all is_ascii_digit word && not (length word == 0) && nat_lt (digits_value 10 word) (2 ^ 64)

abbrev pub number_of : List ℕ → Option ℕ
number_of word = if is_number word then Some (digits_value 10 word) else None

-- numbers with one space between, each put behind those before it
abbrev pub numbers_of : List (List ℕ) → Option (List ℕ)
numbers_of [] = Some []
numbers_of (word ∷ words) = option_and_then (λ number. option_map (λ numbers. number ∷ numbers) (numbers_of words)) (number_of word)

-- two numbers around a full stop (46)
abbrev pub ticket_of : List ℕ → Option Ticket
ticket_of text =
    option_and_then (λ parts. option_and_then (λ life. option_map (λ visit. record { life = life; visit = visit }) (number_of parts.1)) (number_of parts.0)) (cut 46 text)

-- what a client of this name asks for
abbrev pub client_item : List ℕ → Ask → Option Item
client_item name asked = if is_name name then Some (item.Client name asked) else None

-- a name, a space and the text of a statement
abbrev pub statement_item : List ℕ → Option Item
statement_item text = option_and_then (λ parts. client_item parts.0 (ask.State parts.1)) (cut 32 text)

-- the statement that gives a relation another split
abbrev pub refragment_text : List ℕ → List ℕ
refragment_text relation = codes "REFRAGMENT " ++ relation

-- the name of a transaction, a space and that of a relation
abbrev pub refragment_item : Option (List ℕ × List ℕ) → Option Item
refragment_item None = None
refragment_item (Some parts) = if is_word parts.1 then client_item parts.0 (ask.Refragment (refragment_text parts.1)) else None

-- the number of a letter, and perhaps a space and the word refuse
abbrev pub delivery_of : Option (List ℕ × List ℕ) → List ℕ → Option Item
delivery_of None text = option_map (λ number. item.Deliver number true) (number_of text)
delivery_of (Some parts) text =
    if bytes_eq parts.1 (codes "refuse") then option_map (λ number. item.Deliver number false) (number_of parts.0) else None

-- the word but, a space and numbers
abbrev pub all_but_of : Option (List ℕ × List ℕ) → Option Item
all_but_of None = None
all_but_of (Some parts) =
    if bytes_eq parts.0 (codes "but") then option_map item.All (numbers_of (slice_split (λ byte. byte == 32) parts.1)) else None

-- a transaction alone, or a site, a space and a ticket
abbrev pub give_up_of : Option (List ℕ × List ℕ) → List ℕ → Option Item
give_up_of None text = client_item text ask.GiveUp
give_up_of (Some parts) text =
    if is_word parts.0 then option_map (λ ticket. item.Site parts.0 (site.GiveUp ticket)) (ticket_of parts.1) else None

abbrev pub site_item : List ℕ → AtSite → Option Item
site_item name doing = if is_word name then Some (item.Site name doing) else None

abbrev pub restart_item : List ℕ → Option Item
restart_item name = if bytes_eq name (codes "desk") then Some item.RestartDesk else site_item name site.Restart

abbrev pub shown_item : List ℕ → Item → Option Item
shown_item name shown = if is_word name then Some shown else None

-- the words that lines begin with
abbrev pub call_verb : List ℕ → Option Verb
call_verb word =
    if bytes_eq word (codes "load") then Some verb.Load
    else (if bytes_eq word (codes "begin") then Some verb.Begin
    else (if bytes_eq word (codes "refragment") then Some verb.Refragment
    else (if bytes_eq word (codes "do") then Some verb.Do
    else (if bytes_eq word (codes "commit") then Some verb.Commit
    else (if bytes_eq word (codes "rollback") then Some verb.Rollback
    else None)))))

abbrev pub event_verb : List ℕ → Option Verb
event_verb word =
    if bytes_eq word (codes "deliver") then Some verb.Deliver
    else (if bytes_eq word (codes "all") then Some verb.All
    else (if bytes_eq word (codes "giveup") then Some verb.GiveUp
    else (if bytes_eq word (codes "inquire") then Some verb.Inquire
    else (if bytes_eq word (codes "restart") then Some verb.Restart
    else None))))

abbrev pub shown_verb : List ℕ → Option Verb
shown_verb word =
    if bytes_eq word (codes ".show") then Some verb.Show
    else (if bytes_eq word (codes ".leaf") then Some verb.Leaf else None)

abbrev pub first_verb : Option Verb → Option Verb → Option Verb
first_verb None other = other
first_verb (Some one) other = Some one

abbrev pub verb_of : List ℕ → Option Verb
verb_of word = first_verb (call_verb word) (first_verb (event_verb word) (shown_verb word))

-- what a line says behind its first word and a space
abbrev pub item_of_verb : Verb → List ℕ → Option Item
item_of_verb verb.Load rest = Some (item.Load rest)
item_of_verb verb.Begin rest = client_item rest ask.Begin
item_of_verb verb.Refragment rest = refragment_item (cut 32 rest)
item_of_verb verb.Do rest = statement_item rest
item_of_verb verb.Commit rest = client_item rest ask.Commit
item_of_verb verb.Rollback rest = client_item rest ask.Rollback
item_of_verb verb.Deliver rest = delivery_of (cut 32 rest) rest
item_of_verb verb.All rest = all_but_of (cut 32 rest)
item_of_verb verb.GiveUp rest = give_up_of (cut 32 rest) rest
item_of_verb verb.Inquire rest = site_item rest site.Inquire
item_of_verb verb.Restart rest = restart_item rest
item_of_verb verb.Show rest = shown_item rest (item.Show rest)
item_of_verb verb.Leaf rest = shown_item rest (item.Leaf rest)

abbrev pub item_of_words : List ℕ × List ℕ → Option Item
item_of_words words = option_and_then (λ v. item_of_verb v words.1) (verb_of words.0)

-- what a line of text says that is not empty and no comment
abbrev pub item_of : List ℕ → Option Item
item_of text =
    if bytes_eq text (codes "all") then Some (item.All [])
    else (if bytes_eq text (codes ".committed") then Some item.Committed
    else option_and_then item_of_words (cut 32 text))

abbrev pub line_of : Option Item → Line
line_of None = line.Malformed
line_of (Some asked) = line.Asks asked

-- a line of text: an empty one and a comment (35 is '#') say nothing
abbrev pub reading_by_first : Option ℕ → List ℕ → Line
reading_by_first None text = line.PassedOver
reading_by_first (Some byte) text = if byte == 35 then line.PassedOver else line_of (item_of text)

-- a line of any bytes
abbrev pub reading_of : List ℕ → Line
reading_of text = if is_utf8 text then reading_by_first (slice_get text 0) text else line.Malformed
