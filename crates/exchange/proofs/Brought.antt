-- Lemmas on reads one after another.
use Rattle.std.proofs.Common.{◌≡◌, ◌++◌, ◌∷◌, [], refl, subst, ℕ, List, Option, Some}
use Rattle.terms.specs.declared.value.Value.{Value}
use Rattle.exchange.specs.declared.incoming.Incoming.{Incoming}
use Rattle.exchange.specs.Incoming.{GivesNext, KeepsColumns}
use Rattle.exchange.specs.File.{Brings}

-- one more row
pub brings_more : {R : Type 0} (rem : R → Option (List ℕ)) (rows : List (List Value)) (row : List Value) (first middle last : Incoming R) → Brings rem rows first middle → GivesNext rem middle last (Some row) → KeepsColumns middle last → Brings rem (rows ++ row ∷ []) first last
brings_more rem [] row first middle last same gives keeps = subst (λ (from : Incoming _). Brings rem (row ∷ []) from last) same (last, gives, keeps, refl)
brings_more rem (one ∷ rows) row first middle last brings gives keeps = (brings.0, brings.1, brings.2, brings_more rem rows row brings.0 middle last brings.3 gives keeps)
