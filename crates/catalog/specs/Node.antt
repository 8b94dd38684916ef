-- What a node of a catalogue's document says, before its texts are read: a site, or branches of rows, or groups of columns.
use Rattle.std.specs.Prelude.{ℕ, suc, ◌==◌, ◌&&◌, if◌then◌else◌, List, [], ◌∷◌, Option, Some, None, is_some, option_and_then, codes}
use Rattle.std.specs.List.{list_all}
use Rattle.reader.specs.Names.{all_of}
use Rattle.toml.specs.Data.{Data, string, array, table, Items, no_items, item, Members, no_members, member, get, get_member, as_str, as_table}

-- the items of an array
abbrev pub listed_items : Items → List Data
listed_items no_items = []
listed_items (item first rest) = first ∷ listed_items rest

-- how many keys a table has
abbrev pub key_count : Members → ℕ
key_count no_members = 0
key_count (member key value rest) = suc (key_count rest)

-- what a node says
pub data Form : Type 0 where
  AtSite : (name : List ℕ) → Form
  SplitByRows : (branches : List Data) → Form
  SplitByCols : (groups : List Data) → Form
  Ill : Form

abbrev pub site_form : Data → Form
site_form (string name) = AtSite name
site_form _ = Ill

-- the items of an array of at least one
abbrev pub some_items : Data → Option (List Data)
some_items (array (item first rest)) = Some (first ∷ listed_items rest)
some_items _ = None

-- these items, if each is a table
abbrev pub only_tables : List Data → Option (List Data)
only_tables items = if list_all (λ value. is_some (as_table value)) items then Some items else None

-- the items of an array of at least one, if each is a table
abbrev pub some_tables : Data → Option (List Data)
some_tables value = option_and_then only_tables (some_items value)

abbrev pub nodes_form : (List Data → Form) → Option (List Data) → Form
nodes_form form None = Ill
nodes_form form (Some nodes) = form nodes

-- an array of at least one item, each a table
abbrev pub list_form : (List Data → Form) → Data → Form
list_form form value = nodes_form form (some_tables value)

-- what is at the keys of a split: one of them has a value
abbrev pub split_form : Option Data → Option Data → Option Data → Form
split_form (Some site) rows cols = site_form site
split_form None (Some rows) cols = list_form SplitByRows rows
split_form None None (Some cols) = list_form SplitByCols cols
split_form None None None = Ill

-- a table of two keys, this one and one of a split
abbrev pub node_form : List ℕ → Members → Form
node_form beside node =
    if key_count node == 2 && is_some (get_member beside node)
    then split_form (get_member (codes "site") node) (get_member (codes "rows") node) (get_member (codes "cols") node)
    else Ill

-- what a node says that has this key beside that of its split
abbrev pub form_of : List ℕ → Data → Form
form_of beside (table node) = node_form beside node
form_of beside _ = Ill

-- the text at a key of a table
abbrev pub text_at : List ℕ → Data → Option (List ℕ)
text_at key node = option_and_then as_str (get key node)

-- the texts that a value lists, at least one
abbrev pub some_texts : Data → Option (List (List ℕ))
some_texts value = option_and_then (all_of as_str) (some_items value)

-- the texts at a key of a table, at least one
abbrev pub texts_at : List ℕ → Data → Option (List (List ℕ))
texts_at key node = option_and_then some_texts (get key node)
