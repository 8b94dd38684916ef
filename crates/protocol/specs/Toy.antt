-- A toy language: two leaves at two sites, a row that moves from one to the other, and a look at a leaf.
use Rattle.std.specs.Prelude.{⊤, ℕ, ◌==◌, Bool, true, false, List, [], ◌∷◌, ◌++◌, if◌then◌else◌, Option, Some, None, is_none, ◌&&◌}
use Rattle.protocol.specs.Language.{Lang}

-- one part a leaf at most; 0 is none
pub record Pair : Type 0 where
  pub north : ℕ
  pub south : ℕ

-- what is to stand in each leaf
pub record Intended : Type 0 where
  pub north : Option ℕ
  pub south : Option ℕ

-- the row moves to the other leaf, or a leaf is looked at
pub data Toy_statement : Type 0 where
  Move : Toy_statement
  Look : (leaf : Bool) → Toy_statement

-- whether two leaves, or two sites, are the same
abbrev pub is_same : Bool → Bool → Bool
is_same true true = true
is_same false false = true
is_same a b = false

-- the leaf true is at the site true, the south
abbrev pub part_of : Bool → Pair → ℕ
part_of true p = p.south
part_of false p = p.north

-- what is to stand in a leaf
abbrev pub intended : Bool → Intended → Option ℕ
intended true i = i.south
intended false i = i.north

-- one more intention
abbrev pub adds : Bool → ℕ → Intended → Intended
adds true x i = record i { south = Some x }
adds false x i = record i { north = Some x }

-- a leaf's content with what is to stand there
abbrev pub applied : Option ℕ → ℕ → ℕ
applied None content = content
applied (Some x) content = x

-- whether something is to stand there
abbrev pub is_intended : Option ℕ → Bool
is_intended None = false
is_intended (Some x) = true

-- what a statement answers and makes of the pair
abbrev pub toy_meaning : Toy_statement → Pair → ℕ × Pair
toy_meaning Move p = (1, record { north = p.south; south = p.north })
toy_meaning (Look g) p = (part_of g p, p)

-- what a statement reads
abbrev pub toy_fetches : Toy_statement → List (Bool × ℕ)
toy_fetches Move = (false, 0) ∷ (true, 0) ∷ []
toy_fetches (Look g) = (g, 0) ∷ []

-- the language
abbrev pub toy : Lang
toy = record {
  Leaf = Bool;
  Site = Bool;
  Statement = Toy_statement;
  Answer = ℕ;
  Whole = Pair;
  Content = ℕ;
  Query = ℕ;
  Rows = ℕ;
  Write = ℕ;
  Intentions = Intended;
  same_leaf = is_same;
  same_site = is_same;
  sites = false ∷ true ∷ [];
  home = λ g. g;
  put_in = λ x content. x;
  parts = λ query content. content;
  well_formed = λ s g rows. true;
  none = record { north = None; south = None };
  add = adds;
  is_empty = λ i. is_none i.north && is_none i.south;
  touches = λ g i. is_intended (intended g i);
  changed = λ g i content. applied (intended g i) content;
  is_full = λ g x i. false;
  IsStatement = λ s. ⊤;
  IsWhole = λ p. ⊤;
  tag = λ s. 1;
  version = λ p. 1;
  raises = λ s. false;
  meaning = toy_meaning;
  content = part_of;
  fetches = toy_fetches;
  writes = λ before after. (if before.north == after.north then [] else (false, after.north) ∷ []) ++ (if before.south == after.south then [] else (true, after.south) ∷ []);
}
