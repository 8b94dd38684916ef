-- A toy list of two catalogues that put the same leaf at two sites in turn: one row, in the north under the first, in the south under the second.
use Rattle.std.specs.Prelude.{⊤, ℕ, ◌==◌, Bool, true, false, List, [], ◌∷◌, ◌++◌, if◌then◌else◌, Option, Some, None, is_none}
use Rattle.protocol.specs.Language.{Lang}
use Rattle.protocol.specs.Catalogues.{Catalogues}
use Rattle.protocol.specs.Toy.{is_same, applied, is_intended}
use Rattle.protocol.specs.TwoSplits.{leaf_under}

-- what a site knows: one leaf, with one row at most
abbrev pub one_leaf : Lang
one_leaf = record {
  Leaf = Unit {0};
  Site = Bool;
  Statement = Unit {0};
  Answer = Unit {0};
  Whole = Unit {0};
  Content = ℕ;
  Query = Unit {0};
  Rows = ℕ;
  Write = ℕ;
  Intentions = Option ℕ;
  same_leaf = λ g h. true;
  same_site = is_same;
  sites = false ∷ true ∷ [];
  home = λ g. false;
  put_in = λ x content. x;
  parts = λ query content. content;
  well_formed = λ s g rows. true;
  none = None;
  add = λ g x i. Some x;
  is_empty = λ i. is_none i;
  touches = λ g i. is_intended i;
  changed = λ g i content. applied i content;
  is_full = λ g x i. false;
  IsStatement = λ s. ⊤;
  IsWhole = λ w. ⊤;
  tag = λ s. 1;
  version = λ w. 1;
  raises = λ s. false;
  meaning = λ s w. (tt, tt);
  content = λ g w. 0;
  fetches = λ s. [];
  writes = λ before after. [];
}

-- the row is looked at, or set, or moves
pub data Row_statement : Type 0 where
  Look : Row_statement
  Set : (row : ℕ) → Row_statement
  Move : Row_statement

abbrev pub moves_it : Row_statement → Bool
moves_it Move = true
moves_it s = false

abbrev pub row_meaning : Row_statement → ℕ → ℕ × ℕ
row_meaning Look row = (row, row)
row_meaning (Set new) row = (1, new)
row_meaning Move row = (1, row)

-- the row is at the catalogue's site
abbrev pub row_under : ℕ → Bool × Unit {0} → ℕ → ℕ
row_under n p row = if is_same p.0 (leaf_under n) then row else 0

-- a write where a site's row is another than it was
abbrev pub changed_row : Bool → ℕ → ℕ → List ((Bool × Unit {0}) × ℕ)
changed_row a before after = if before == after then [] else ((a, tt), after) ∷ []

-- the list
abbrev pub two_sites : Catalogues one_leaf
two_sites = record {
  Statement = Row_statement;
  Answer = ℕ;
  Whole = ℕ;
  sites = false ∷ true ∷ [];
  nothing = 0;
  well_formed = λ n p rows. true;
  IsStatement = λ n s. ⊤;
  IsWhole = λ row. ⊤;
  raises = moves_it;
  meaning = row_meaning;
  content = row_under;
  fetches = λ n s. ((leaf_under n, tt), tt) ∷ [];
  writes = λ n m before after. changed_row false (row_under n (false, tt) before) (row_under m (false, tt) after) ++ changed_row true (row_under n (true, tt) before) (row_under m (true, tt) after);
}
