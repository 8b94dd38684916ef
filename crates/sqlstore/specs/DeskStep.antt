-- What a statement on the coordinator's tables does, and what calls make of them.
use Rattle.std.specs.Prelude.{◌≡◌, ℕ, ℤ, true, List, [], ◌∷◌, string_bytes}
use Rattle.sqlite.specs.Effect.{Database}
use Rattle.sqlite.specs.Order.{Row}
use Rattle.sqlite.specs.declared.types.Value.TheVariants.{Null, Int, Text}
use Rattle.sqlite_rules.specs.Lists.{Has}
use Rattle.sqlstore.specs.DeskTables.{desk_schema}
use Rattle.sqlstore.specs.Rows.{RewritesOf, Loses, Gains}
use Rattle.sqlstore.specs.Step.{Follows, visit_params}
use Rattle.sqlstore.specs.Tests.{of_visit, passes}
use Rattle.sqlstore.specs.declared.visit.Visit.{Visit}
use Rattle.sqlstore.specs.declared.vote.Vote.{Vote}

-- a transaction's voters go
abbrev pub Undecides : Visit → Database → Database → Type 0
Undecides txn = RewritesOf desk_schema 0 (Loses (passes of_visit (visit_params txn)))

-- a voter as parameters: the transaction, the site and the ticket
abbrev pub vote_params : Visit → List ℕ → Visit → Row
vote_params txn site ticket = Int txn.life ∷ Int txn.visit ∷ Text site ∷ Int ticket.life ∷ Int ticket.visit ∷ []

-- a voter of a transaction is kept
abbrev pub Votes : Visit → List ℕ → Visit → Database → Database → Type 0
Votes txn site ticket = RewritesOf desk_schema 0 (Gains (λ cells. cells ≡ vote_params txn site ticket))

-- the voters of a transaction are kept
abbrev pub AllVote : Visit → List Vote → Database → Database → Type 0
AllVote txn votes = RewritesOf desk_schema 0 (Gains (λ cells. (vote : Vote) × Has votes vote × (cells ≡ vote_params txn (string_bytes vote.site) vote.ticket)))

-- neither incarnation nor version is kept
abbrev pub EndsEpoch : Database → Database → Type 0
EndsEpoch = RewritesOf desk_schema 2 (Loses (λ row. true))

-- an incarnation and a version are kept
abbrev pub StartsEpoch : ℤ → ℤ → Database → Database → Type 0
StartsEpoch life version = RewritesOf desk_schema 2 (Gains (λ cells. cells ≡ Null ∷ Int life ∷ Int version ∷ []))

-- these are the incarnation and the version
abbrev pub MovesTo : ℤ → ℤ → Database → Database → Type 0
MovesTo life version = Follows EndsEpoch (StartsEpoch life version)

-- a transaction is committed with these voters, and these are the incarnation and the version
abbrev pub Decides : Visit → List Vote → ℤ → ℤ → Database → Database → Type 0
Decides txn votes life version = Follows (MovesTo life version) (AllVote txn votes)
