-- What is shown of a cell, column by column.
use Rattle.std.proofs.Common.{◌≡◌, ℕ, zero, suc, ◌<◌, ◌≤◌, List, [], ◌∷◌, ◌++◌, length, drop, get_or, min, refl, sym, ap, ◌∙◌, append_assoc, append-nil, arith}
use Rattle.std.proofs.Math.Seq.{drop-cons}
use Rattle.terms.specs.declared.cond.Cond.{Cond}
use Rattle.terms.specs.declared.value.Value.{Value}
use Rattle.meaning.specs.declared.schema.Column.{Column}
use Rattle.catalog.specs.declared.fault.Shown.{Shown}
use Rattle.catalog.specs.Inexact.{shown_here, shown_from}

-- nothing behind the end of either list
past : (n place : ℕ) (conds : List Cond) (columns : List Column) (values : List Value) → min (length columns) (length values) ≤ n → shown_from place conds (drop n columns) (drop n values) ≡ []
past zero place conds [] values end = refl
past zero place conds (column ∷ columns) [] end = refl
past zero place conds (column ∷ columns) (value ∷ values) end = absurd (omega arith)
past (suc n) place conds [] values end = refl
past (suc n) place conds (column ∷ columns) [] end = nothing (drop n columns)
  where
    nothing : (cs : List Column) → shown_from place conds cs [] ≡ []
    nothing [] = refl
    nothing (c ∷ cs) = refl
past (suc n) place conds (column ∷ columns) (value ∷ values) end = past n place conds columns values (omega arith)

pub shown_past : (n : ℕ) (conds : List Cond) (columns : List Column) (values : List Value) (shown all : List Shown) → min (length columns) (length values) ≤ n →
    shown ++ shown_from n conds (drop n columns) (drop n values) ≡ all → shown ≡ all
shown_past n conds columns values shown all end so_far =
    sym (append-nil shown) ∙ sym (ap (λ (rest : List Shown). shown ++ rest) (past n n conds columns values end)) ∙ so_far

-- one column more
pub shown_more : (place : ℕ) (conds : List Cond) (columns : List Column) (values : List Value) (c : Column) (v : Value) (shown more all : List Shown) → place < min (length columns) (length values) →
    more ≡ shown ++ shown_here place conds (get_or columns place c) (get_or values place v) → shown ++ shown_from place conds (drop place columns) (drop place values) ≡ all →
    more ++ shown_from (suc place) conds (drop (suc place) columns) (drop (suc place) values) ≡ all
shown_more place conds columns values c v shown more all within is so_far =
    let cols = drop-cons columns place c (omega arith) in
    let vals = drop-cons values place v (omega arith) in
    let here = shown_here place conds (get_or columns place c) (get_or values place v) in
    let rest = shown_from (suc place) conds (drop (suc place) columns) (drop (suc place) values) in
    let unfolded : shown_from place conds (drop place columns) (drop place values) ≡ here ++ rest = rw (cols, vals) refl in
    ap (λ (front : List Shown). front ++ rest) is ∙ append_assoc shown here rest ∙ sym (ap (λ (back : List Shown). shown ++ back) unfolded) ∙ so_far

-- the same for a column and a value that a loop has taken
pub shown_next : (place : ℕ) (conds : List Cond) (columns : List Column) (values : List Value) (c column : Column) (v value : Value) (shown more all : List Shown) →
    column ≡ get_or columns place c → value ≡ get_or values place v → place < min (length columns) (length values) →
    more ≡ shown ++ shown_here place conds column value → shown ++ shown_from place conds (drop place columns) (drop place values) ≡ all →
    more ++ shown_from (suc place) conds (drop (suc place) columns) (drop (suc place) values) ≡ all
shown_next place conds columns values c column v value shown more all is_column is_value within is so_far =
    shown_more place conds columns values c v shown more all within (rw (← is_column, ← is_value) is) so_far
