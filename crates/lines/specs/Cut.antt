-- Texts, cut at a byte.
use Rattle.std.specs.Prelude.{ℕ, ◌==◌, if◌then◌else◌, List, Option, Some, None, length}
use Rattle.std.specs.List.{after_first, before_first, position_or_len}

-- what stands before the first such byte of a text and what stands after it, if there is one
abbrev pub cut : ℕ → List ℕ → Option (List ℕ × List ℕ)
cut mark text =
    if position_or_len (λ b. b == mark) text == length text then None
    else Some (before_first (λ b. b == mark) text, after_first (λ b. b == mark) text)
