-- Rows as statements, up to a place.
use Rattle.std.proofs.Common.{◌≡◌, ℕ, ◌+◌, ◌<◌, ◌++◌, List, [], ◌∷◌, length, take, get_or, arith, ap, sym, ◌∙◌, append_assoc, append-nil}
use Rattle.std.proofs.lemmas.List.{take_more}
use Rattle.std.proofs.lemmas.Grind.{common_steps}
use Rattle.terms.specs.declared.value.Value.{Value}
use Rattle.reader.specs.PrintStatement.{statement_bytes}
use Rattle.exchange.specs.Dump.{line, lines_before, rows_from}
use Rattle.exchange.specs.Insert.{insert_of}

-- what one row adds
abbrev added : List ℕ → ℕ → List Value → List ℕ
added name number row = lines_before number ++ line (statement_bytes (insert_of name row))

rows_snoc : (name : List ℕ) (number : ℕ) (rows : List (List Value)) (row : List Value) → rows_from name number (rows ++ row ∷ []) ≡ rows_from name number rows ++ added name (number + length rows) row
rows_snoc name number [] row =
    let at : number ≡ number + length {A = List Value} [] = omega arith in
    simp append-nil (ap (λ n. added name n row) at)
rows_snoc name number (first ∷ rows) row =
    let at : number + 1 + length rows ≡ number + length (first ∷ rows) = omega arith in
    ap (λ rest. added name number first ++ rest) (rows_snoc name (number + 1) rows row ∙ ap (λ n. rows_from name (number + 1) rows ++ added name n row) at) ∙ sym (append_assoc (added name number first) (rows_from name (number + 1) rows) (added name (number + length (first ∷ rows)) row))

taken : (rows : List (List Value)) (number : ℕ) → number < length rows → 0 + length (take number rows) ≡ number
taken rows number within = grind (arith, common_steps)

regrouped : (a b c d : List ℕ) → a ++ b ++ c ++ d ≡ a ++ (b ++ (c ++ d))
regrouped a b c d = simp append_assoc

-- the rows up to a place, and that one
pub rows_more : (name : List ℕ) (rows : List (List Value)) (number : ℕ) (row : List Value) (out before after : List ℕ) → number < length rows → row ≡ get_or rows number row
    → out ≡ before ++ rows_from name 0 (take number rows) → after ≡ out ++ lines_before number ++ line (statement_bytes (insert_of name row)) → after ≡ before ++ rows_from name 0 (take (number + 1) rows)
rows_more name rows number row out before after within is so_far put =
    let earlier = rows_from name 0 (take number rows) in
    let more : earlier ++ added name number row ≡ rows_from name 0 (take (number + 1) rows) =
    ap (λ r. earlier ++ added name number r) is ∙ sym (rw (take_more rows number row within) (rows_snoc name 0 (take number rows) (get_or rows number row) ∙ ap (λ n. earlier ++ added name n (get_or rows number row)) (taken rows number within))) in
    put ∙ ap (λ text. text ++ lines_before number ++ line (statement_bytes (insert_of name row))) so_far ∙ regrouped before earlier (lines_before number) (line (statement_bytes (insert_of name row))) ∙ ap (λ text. before ++ text) more
