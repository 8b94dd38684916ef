-- The language of one site's machine: leaves, parts, conditions and changes as stores have them. It has no statements: a site knows of none.
use Rattle.std.specs.Prelude.{⊤, ℕ, ℤ, Bool, true, false, List, [], Option, is_none, ◌&&◌, nat_le, nat_eq}
use Rattle.std.specs.Cmp.Lexicographic.{pointwise}
use Rattle.std.specs.FinMap as map
use Rattle.std.specs.Ordering.{is_eq}
use Rattle.terms.specs.declared.cond.Cond.{Cond}
use Rattle.terms.specs.declared.leaf.Leaf.{Leaf}
use Rattle.terms.specs.declared.value.Value.{Value}
use Rattle.terms.specs.Leaf.{leaf_cmp}
use Rattle.store.specs.Slot.{slot_of}
use Rattle.store.specs.Content.{Content, Changes, set_at, changed, touches, parts}
use Rattle.protocol.specs.Language.{Lang}

-- what is to stand at a key: a part, or none
abbrev pub AtKey : Type 0
AtKey = ℤ × Option (List Value)

-- a visit intends changes at 65,536 slots at most
abbrev pub is_full : Leaf → AtKey → Changes → Bool
is_full leaf at changes = is_none (map.get changes (slot_of leaf at.0)) && nat_le 65536 (map.len changes)

-- the language
abbrev pub local : Lang
local = record {
  Leaf = Leaf;
  Site = List ℕ;
  Statement = Unit {0};
  Answer = Unit {0};
  Whole = Unit {0};
  Content = Content;
  Query = List Cond;
  Rows = List (List Value);
  Write = AtKey;
  Intentions = Changes;
  same_leaf = λ one other. is_eq (leaf_cmp one other);
  same_site = pointwise nat_eq;
  sites = [];
  home = λ leaf. [];
  put_in = λ at content. set_at at.0 at.1 content;
  parts = parts;
  well_formed = λ statement leaf rows. true;
  none = map.empty;
  add = λ leaf at changes. map.insert changes (slot_of leaf at.0) at.1;
  is_empty = λ changes. nat_eq (map.len changes) 0;
  touches = touches;
  changed = changed;
  is_full = is_full;
  IsStatement = λ statement. ⊤;
  IsWhole = λ whole. ⊤;
  tag = λ statement. 1;
  version = λ whole. 1;
  raises = λ statement. false;
  meaning = λ statement whole. (tt, tt);
  content = λ leaf whole. map.empty;
  fetches = λ statement. [];
  writes = λ before after. [];
}
