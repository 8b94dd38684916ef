-- A site's fragments, settled: with the intentions of the prepared rows whose transactions are decided.
use Rattle.std.specs.Prelude.{◌≡◌, Bool, List, [], ◌∷◌, Option, Some, None, if◌then◌else◌}
use Rattle.std.specs.List.{list_any}
use Rattle.terms.specs.declared.leaf.Leaf.{Leaf}
use Rattle.store.specs.declared.name.Ticket.{Ticket}
use Rattle.store.specs.declared.name.Txn.{Txn}
use Rattle.store.specs.declared.prepared.Prepared.{Prepared}
use Rattle.store.specs.declared.prepared.PreparedRow.{PreparedRow}
use Rattle.store.specs.Content.{Changes, Content, changed, made_by}
use Rattle.store.specs.SiteContent.{SiteContent}
use Rattle.protocol.specs.Language.{same}
use Rattle.protocol.specs.Letters.{txn_name}

-- whether a transaction is among these
abbrev pub is_among : List Txn → Txn → Bool
is_among decided txn = list_any (λ one. same (txn_name one) (txn_name txn)) decided

-- a leaf's content with a row's intentions, if its transaction is among the decided ones
abbrev pub with_row : List Txn → Leaf → Prepared → Content → Content
with_row decided leaf row content = if is_among decided row.txn then changed leaf row.changes content else content

-- so where there may be a row
abbrev pub with_some : List Txn → Leaf → Option Prepared → Content → Content
with_some decided leaf None content = content
with_some decided leaf (Some row) content = with_row decided leaf row content

-- so with the rows of all these tickets, the first first
abbrev pub with_all : List Txn → Leaf → (Ticket → Option Prepared) → List Ticket → Content → Content
with_all decided leaf rows [] content = content
with_all decided leaf rows (k ∷ ks) content = with_all decided leaf rows ks (with_some decided leaf (rows k) content)

-- so with all these rows
abbrev pub with_rows : List Txn → Leaf → List PreparedRow → Content → Content
with_rows decided leaf [] content = content
with_rows decided leaf (row ∷ rows) content = with_rows decided leaf rows (with_row decided leaf row.prepared content)

-- changes that make the settled fragments of nothing
abbrev pub AreSettled : List Txn → SiteContent → List Ticket → Changes → Type 0
AreSettled decided kept tickets made = (leaf : Leaf) → made_by made leaf ≡ with_all decided leaf kept.prepared tickets (kept.content leaf)
