-- Refusals, handed on from what is refused to what it is a part of.
use Rattle.std.proofs.Common.{◌≡◌, List, true}
use Rattle.terms.specs.declared.cond.Cond.{Cond}
use Rattle.catalog.specs.declared.fault.Rule.{Rule}
use Rattle.catalog.specs.declared.fault.Rule.TheVariants.{Toml, Field, Name, Twice, NoSite, KeyType, ColumnTwice, ColumnLost, ColumnAbsent, WrongType, Gap, Overlap, Limit, Memory}
use Rattle.catalog.specs.Describes.{Frame, kinds_in, HasFewCells}
use Rattle.catalog.specs.Inexact.{ShowsCell}
use Rattle.catalog.specs.Refusal.{RefusesBy}
use Rattle.catalog.specs.Refuses.{RefusesSplit, is_of_text}

-- what follows from what a refusal says is said by a refusal too
pub refuses_map : (this these that those : Type 0) (rule : Rule) → (this → these) → (that → those) → RefusesBy this that rule → RefusesBy these those rule
refuses_map this these that those Memory f g r = tt
refuses_map this these that those (Gap cell) f g r = f r
refuses_map this these that those (Overlap cell) f g r = f r
refuses_map this these that those Toml f g r = g r
refuses_map this these that those Field f g r = g r
refuses_map this these that those Name f g r = g r
refuses_map this these that those Twice f g r = g r
refuses_map this these that those NoSite f g r = g r
refuses_map this these that those KeyType f g r = g r
refuses_map this these that those ColumnTwice f g r = g r
refuses_map this these that those ColumnLost f g r = g r
refuses_map this these that those ColumnAbsent f g r = g r
refuses_map this these that those WrongType f g r = g r
refuses_map this these that those Limit f g r = g r

-- the same where neither is a gap or an overlap
pub refuses_also : (these that those : Type 0) (rule : Rule) → (that → those) → RefusesBy ⊥ that rule → RefusesBy these those rule
refuses_also these that those rule g r = refuses_map ⊥ these that those rule (λ never. absurd never) g r

-- what is known whatever the rule is
pub refuses_known : (that : Type 0) (rule : Rule) → that → RefusesBy that that rule
refuses_known that Memory h = tt
refuses_known that (Gap cell) h = h
refuses_known that (Overlap cell) h = h
refuses_known that Toml h = h
refuses_known that Field h = h
refuses_known that Name h = h
refuses_known that Twice h = h
refuses_known that NoSite h = h
refuses_known that KeyType h = h
refuses_known that ColumnTwice h = h
refuses_known that ColumnLost h = h
refuses_known that ColumnAbsent h = h
refuses_known that WrongType h = h
refuses_known that Limit h = h

-- a refusal by a rule of the text
pub refuses_text_rule : (that : Type 0) (rule : Rule) → is_of_text rule ≡ true → that → RefusesBy ⊥ that rule
refuses_text_rule that Memory is h = tt
refuses_text_rule that (Gap cell) is h = cc
refuses_text_rule that (Overlap cell) is h = cc
refuses_text_rule that Toml is h = h
refuses_text_rule that Field is h = h
refuses_text_rule that Name is h = h
refuses_text_rule that Twice is h = h
refuses_text_rule that NoSite is h = h
refuses_text_rule that KeyType is h = h
refuses_text_rule that ColumnTwice is h = h
refuses_text_rule that ColumnLost is h = h
refuses_text_rule that ColumnAbsent is h = h
refuses_text_rule that WrongType is h = h
refuses_text_rule that Limit is h = h

-- a row split is refused by its first faulty cell, or for its many cells
pub split_refused : (frame : Frame) (way : List Cond) (branches : List (List Cond)) (rule : Rule) → RefusesSplit frame way branches rule →
    RefusesBy (ShowsCell frame rule (record { way = way; branches = branches })) (HasFewCells (kinds_in frame) way branches → ⊥) rule
split_refused frame way branches Memory r = tt
split_refused frame way branches (Gap cell) r = r
split_refused frame way branches (Overlap cell) r = r
split_refused frame way branches Limit r = r
split_refused frame way branches Toml r = absurd r
split_refused frame way branches Field r = absurd r
split_refused frame way branches Name r = absurd r
split_refused frame way branches Twice r = absurd r
split_refused frame way branches NoSite r = absurd r
split_refused frame way branches KeyType r = absurd r
split_refused frame way branches ColumnTwice r = absurd r
split_refused frame way branches ColumnLost r = absurd r
split_refused frame way branches ColumnAbsent r = absurd r
split_refused frame way branches WrongType r = absurd r
