-- What a statement asks of a row of joined relations, it asks of each relation's row in it.
use Rattle.std.proofs.Common.{◌≡◌, ℕ, ◌-◌, ◌+◌, Bool, true, false, cond, List, [], ◌∷◌, ◌++◌, length, length-append, filter, map, Option, Some, None, refl, ap, ap₂, sym, ◌∙◌, subst}
use Rattle.terms.specs.declared.cond.Cond.{Cond}
use Rattle.terms.specs.declared.value.Value.{Value}
use Rattle.terms.specs.Cond.{cond_holds, conds_hold, holds_of}
use Rattle.meaning.specs.declared.statement.Join.{Join}
use Rattle.meaning.specs.declared.statement.Select.{Select}
use Rattle.plan.specs.declared.link.Link.{Link}
use Rattle.plan.specs.declared.need.Need.{Need}
use Rattle.plan.specs.Need.{carried, carried_one, carried_to, conds_of, equal_of, is_of, needs_behind, needs_of_select, on_column}
use Rattle.plan.proofs.CarriedConds.{and_true, both}
use Rattle.plan.proofs.Joining.{Each, append_more, together}
use Rattle.plan.proofs.Meeting.{conds_joined}
use Rattle.plan.proofs.Origins.{AreSame, equal_same}
use Rattle.plan.proofs.StatementFits.{StandsAt, stands, stands_behind}

own_asked : (all own : List Value) (before width : ℕ) (conds : List Cond) → width ≡ length own → StandsAt all before own → conds_hold conds all ≡ true → conds_hold (conds_of before width conds) own ≡ true
own_asked all own before width [] wide at asked = refl
own_asked all own before width (c ∷ conds) wide at asked =
    let parts = both (cond_holds c all) (conds_hold conds all) asked in
    step (is_of before width c.col) refl parts.0 (own_asked all own before width conds wide at parts.1)
  where
    others : List Cond
    others = filter (λ d. is_of before width d.col) conds

    step : (t : Bool) → is_of before width c.col ≡ t → cond_holds c all ≡ true → conds_hold (conds_of before width conds) own ≡ true → conds_hold (map (λ d. on_column (d.col - before) d) (cond t (c ∷ others) others)) own ≡ true
    step true is here more = and_true (cond_holds (on_column (c.col - before) c) own) (conds_hold (conds_of before width conds) own) (ap (holds_of c) (stands all own before width c.col wide at is) ∙ here) more
    step false is here more = more

carried_asked : (all own : List Value) (links : List Link) (before width : ℕ) (conds : List Cond) → width ≡ length own → StandsAt all before own → AreSame all links → conds_hold conds all ≡ true → conds_hold (carried links before width conds) own ≡ true
carried_asked all own links before width [] wide at same asked = refl
carried_asked all own links before width (c ∷ conds) wide at same asked =
    let parts = both (cond_holds c all) (conds_hold conds all) asked in
    conds_joined (carried_one links before width c) (carried links before width conds) own (step (is_of before width c.col) parts.0) (carried_asked all own links before width conds wide at same parts.1)
  where
    to : (found : Option ℕ) → equal_of links before width c.col ≡ found → cond_holds c all ≡ true → conds_hold (carried_to before c found) own ≡ true
    to None is here = refl
    to (Some place) is here =
        let equal = equal_same all links before width c.col place same is in
        and_true (cond_holds (on_column (place - before) c) own) true (ap (holds_of c) (stands all own before width place wide at equal.0 ∙ equal.1) ∙ here) refl

    step : (t : Bool) → cond_holds c all ≡ true → conds_hold (cond t [] (carried_to before c (equal_of links before width c.col))) own ≡ true
    step true here = refl
    step false here = to (equal_of links before width c.col) refl here

part_asked : (all own : List Value) (links : List Link) (before width : ℕ) (conds : List Cond) → width ≡ length own → StandsAt all before own → AreSame all links → conds_hold conds all ≡ true →
    conds_hold (conds_of before width conds ++ carried links before width conds) own ≡ true
part_asked all own links before width conds wide at same asked =
    conds_joined (conds_of before width conds) (carried links before width conds) own (own_asked all own before width conds wide at asked) (carried_asked all own links before width conds wide at same asked)

-- a row meets its need
abbrev pub IsAsked : Need → List Value → Type 0
IsAsked need row = conds_hold need.conds row ≡ true

-- as many columns as the relation has
abbrev pub IsWide : Join → List Value → Type 0
IsWide join row = length join.relation.columns ≡ length row

behind_asked : (select : Select) (links : List Link) (all front : List Value) (before : ℕ) (joins : List Join) (parts : List (List Value)) → all ≡ front ++ together parts → before ≡ length front → Each IsWide joins parts → AreSame all links → conds_hold select.conds all ≡ true →
    Each IsAsked (needs_behind select links before joins) parts
behind_asked select links all front before [] [] is long wide same asked = tt
behind_asked select links all front before [] (row ∷ parts) is long wide same asked = absurd wide
behind_asked select links all front before (join ∷ joins) [] is long wide same asked = absurd wide
behind_asked select links all front before (join ∷ joins) (row ∷ parts) is long wide same asked =
    let split : all ≡ (front ++ row) ++ together parts = is ∙ sym (append_more front row (together parts)) in
    let At : ℕ → Type 0 = λ n. StandsAt all n row in (
      part_asked all row links before (length join.relation.columns) select.conds wide.0 (subst At (sym long) (stands_behind front row (together parts) all split)) same asked,
      behind_asked select links all (front ++ row) (before + length join.relation.columns) joins parts split (ap₂ (λ (a b : ℕ). a + b) long wide.0 ∙ sym (length-append front row)) wide.1 same asked,
    )

pub all_asked : (select : Select) (links : List Link) (all first : List Value) (parts : List (List Value)) → all ≡ first ++ together parts → length select.from.columns ≡ length first → Each IsWide select.joins parts → AreSame all links → conds_hold select.conds all ≡ true →
    Each IsAsked (needs_of_select select links).relations (first ∷ parts)
all_asked select links all first parts is long wide same asked = (
  part_asked all first links 0 (length select.from.columns) select.conds long (stands_behind [] first (together parts) all is) same asked,
  behind_asked select links all first (length select.from.columns) select.joins parts is long wide same asked,
)
