-- What a session told, and whether a transaction of it is open.
use Rattle.std.specs.Prelude.{◌≡◌, ◌<◌, ◌++◌, ℕ, Bool, List, [], ◌∷◌, All}
use Rattle.std.specs.List.{AllPairs}
use Rattle.meaning.specs.declared.schema.RelationSchema.{RelationSchema}
use Rattle.desk.specs.declared.reply.Reply.{Reply}
use Rattle.history.specs.declared.told.Told.{Told}

-- a session: the relations that its texts speak of, what it told, and whether a transaction that was begun by BEGIN is open
pub record SessionState : Type 0 where
  pub schema : List RelationSchema
  pub told : List Told
  pub is_open : Bool

-- the numbers of what was told ascend
abbrev pub Ascends : List Told → Type 0
Ascends told = AllPairs (λ (one other : Told). one.number < other.number) told

-- a number is above those of what was told
abbrev pub IsAbove : ℕ → List Told → Type 0
IsAbove number told = All (λ (one : Told). one.number < number) told

-- one thing more was told: this reply to this text, under a number that is above the others
pub record AddsTold (old : List Told) (text : List ℕ) (reply : Reply) (new : List Told) : Type 0 where
  pub told : Told
  pub new_is : new ≡ old ++ told ∷ []
  pub text_is : told.text ≡ text
  pub reply_is : told.reply ≡ reply
  pub above : IsAbove told.number old
