-- The statements of the coordinator's calls, one after another.
use Rattle.std.proofs.Common.{◌≡◌, ℕ, ℤ, ◌+◌, ◌<◌, List, [], ◌∷◌, ◌++◌, take, length, get_or, string_bytes, refl, sym, ap, ◌∙◌, subst, inl, inr}
use Rattle.std.proofs.lemmas.List.{take_more}
use Rattle.sqlite.specs.Effect.{Database}
use Rattle.sqlite.specs.Order.{Row}
use Rattle.sqlite_rules.specs.Lists.{Has}
use Rattle.sqlite_rules.proofs.ListLemmas.{has_left, has_right, has_either}
use Rattle.sqlstore.specs.declared.visit.Visit.{Visit}
use Rattle.sqlstore.specs.declared.vote.Vote.{Vote}
use Rattle.sqlstore.specs.DeskStep.{Decides, MovesTo, Votes, vote_params}
use Rattle.sqlstore.proofs.Composed.{gains_again}

-- no voter is kept yet
pub decides_none : (txn : Visit) (life version : ℤ) (a b : Database) → MovesTo life version a b → Decides txn [] life version a b
decides_none txn life version a b moved = (
  b,
  moved,
  record {
    tables = moved.2.tables;
    sound = moved.2.sound;
    rows = record { kept = λ row there. there; made = λ cells from. absurd from.1; only = λ row there. inl there };
    others = λ table listed apart. refl;
  },
)

-- one voter more is kept
pub decides_more : (txn : Visit) (votes : List Vote) (life version : ℤ) (i : ℕ) (vote : Vote) (a b c : Database) → i < length votes → vote ≡ get_or votes i vote → Decides txn (take i votes) life version a b → Votes txn (string_bytes vote.site) vote.ticket b c
    → Decides txn (take (i + 1) votes) life version a c
decides_more txn votes life version i vote a b c lt is first second =
    let cells_of = λ (it : Vote). vote_params txn (string_bytes it.site) it.ticket in
    let Of = λ (all : List Vote) (cells : Row). (it : Vote) × Has all it × (cells ≡ cells_of it) in
    let more : take (i + 1) votes ≡ take i votes ++ vote ∷ [] = take_more votes i vote lt ∙ ap (λ (it : Vote). take i votes ++ it ∷ []) (sym is) in (
      first.0,
      first.1,
      gains_again 0 (Of (take i votes)) (λ cells. cells ≡ cells_of vote) (Of (take (i + 1) votes)) first.0 b c
          (λ cells from. (from.0, subst (λ all. Has all from.0) (sym more) (has_left (take i votes) (vote ∷ []) from.0 from.1), from.2))
          (λ cells is-it. (vote, subst (λ all. Has all vote) (sym more) (has_right (take i votes) (vote ∷ []) vote (inl refl)), is-it))
          (λ cells from. elim (has_either (take i votes) (vote ∷ []) from.0 (subst (λ all. Has all from.0) more from.1)) [
            | inl before ↦ inl (from.0, before, from.2)
            | inr last ↦ elim last [ inl same ↦ inr (from.2 ∙ ap cells_of same) | inr none ↦ absurd none ]
          ])
          first.2 second,
    )
