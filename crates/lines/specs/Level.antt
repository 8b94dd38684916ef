-- Lines of a tree: what stands below a line stands two blanks further right.
use Rattle.std.specs.Prelude.{ℕ, List, [], ◌∷◌, ◌++◌, codes}

-- the front of the lines below lines with this front
abbrev pub deeper : List ℕ → List ℕ
deeper front = front ++ codes "  "

abbrev pub line : List ℕ → List ℕ → List ℕ
line front text = front ++ text ++ 10 ∷ []
