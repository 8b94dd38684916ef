-- How letters of a schedule are delivered.
use Rattle.std.specs.Prelude.{◌≡◌, ◌⊎◌, ◌≤◌, ℕ, zero, suc, ◌+◌, ◌==◌, Bool, true, false, List, [], ◌∷◌, ◌++◌, Option, Some, None, if◌then◌else◌, codes, length, slice_get, slice_set}
use Rattle.std.specs.List.{list_any}
use Rattle.world.specs.declared.event.Event.TheVariants as event
use Rattle.world.specs.Posted.{letters_in}
use Rattle.databases.specs.Schedule.{KeepsNames, Stage, Tries, of_letter}

-- the letter at this place has come, if there is one
abbrev pub with_came : ℕ → Stage → Stage
with_came place stage = record stage { came = slice_set stage.came place true }

-- The letter at this place is delivered; kept: whether the store call that it leads to is not refused. It counts as come also where it is refused.
abbrev pub DeliversAt : ℕ → Bool → Stage → Stage → List ℕ → Type 0
DeliversAt place kept before after text =
    Tries KeepsNames (of_letter before.cast (place + 1) (slice_get (letters_in before.entries) place)) (event.Deliver place kept) (with_came place before) after text

-- the letter of this number, counted from 1
abbrev pub Delivers : ℕ → Bool → Stage → Stage → List ℕ → Type 0
Delivers zero kept before after text = (after ≡ before) × (text ≡ codes "no letter 0" ++ 10 ∷ [])
Delivers (suc place) kept before after text = DeliversAt place kept before after text

-- whether a letter, by its number, is to be delivered: it never came, and is none of these
abbrev pub is_due : List ℕ → ℕ → Bool → Bool
is_due but number true = false
is_due but number false = if list_any (λ other. other == number) but then false else true

-- the place of the first letter that is to be delivered, of letters the first of which has this place
abbrev pub first_due_from : ℕ → List ℕ → List Bool → Option ℕ
first_due_from place but [] = None
first_due_from place but (came ∷ rest) = if is_due but (place + 1) came then Some place else first_due_from (place + 1) but rest

abbrev pub first_due : List ℕ → Stage → Option ℕ
first_due but stage = first_due_from 0 but stage.came

-- letters, by their places, one after another, each the first that is to be delivered then
abbrev pub DeliversEach : List ℕ → List ℕ → Stage → Stage → List ℕ → Type 0
DeliversEach but [] before after text = (after ≡ before) × (text ≡ [])
DeliversEach but (place ∷ places) before after text =
    (middle : Stage) × (first : List ℕ) × (others : List ℕ) × (first_due but before ≡ Some place) × DeliversAt place true before middle first
    × DeliversEach but places middle after others × (text ≡ first ++ others)

-- all letters that are to be delivered, also those that are sent meanwhile, until none is left or a million went
pub record DeliversAll (but : List ℕ) (before after : Stage) (text : List ℕ) : Type 0 where
  pub places : List ℕ
  pub each : DeliversEach but places before after text
  pub within : length places ≤ 1_000_000
  pub ends : (first_due but after ≡ None) ⊎ (length places ≡ 1_000_000)
