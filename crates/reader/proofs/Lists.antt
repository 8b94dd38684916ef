-- Lists of items with a separator between, for any item.
use Rattle.std.proofs.Common.{◌≡◌, ℕ, zero, suc, ◌≤◌, ◌<◌, true, false, List, [], ◌∷◌, ◌++◌, length, length-append, Option, Some, None, refl, sym, ap, ◌∙◌, append_assoc, inl, inr, arith}
use Rattle.std.proofs.lemmas.List.{append-nil}
use Rattle.reader.specs.declared.fault.Rule.{Rule}
use Rattle.reader.specs.declared.fault.Rule.TheVariants as rules
use Rattle.reader.specs.Symbol.{Symbol}
use Rattle.reader.specs.Grammar.{continued, separated, IsFilled}
use Rattle.reader.specs.Parsing.{and_then, ◌>>=◌, Fails, is_same, eat, given, list_at, items_at}
use Rattle.reader.proofs.Steps.{Cut, ◌then◌, Takes, TakesWith, written_with, bind, taken, pair, eat_takes, eat_again, fewer}

-- ---- what is read is written so

continued-filled : {A : Type 0} (write : A → List Symbol) (separator : Symbol) (xs : List A) → IsFilled xs → continued write separator xs ≡ separator ∷ separated write separator xs
continued-filled write separator [] filled = absurd filled
continued-filled write separator (x ∷ xs) filled = refl

list_takes : {A : Type 0} (item : List Symbol → Option (A × List Symbol)) (write : A → List Symbol) (separator : Symbol) → Takes item write
    → (fuel : ℕ) → TakesWith (list_at item separator fuel) (separated write separator) IsFilled
unfolding list_at
list_takes item write separator takes zero symbols y h = absurd cc
list_takes {A} item write separator takes (suc fuel) symbols y h =
    let first = bind h in
    let front = takes _ _ first.1 in
    elim (taken _ _ _ _ first.2) [
      | inl more ↦
          let others = bind more.2 in
          let behind = list_takes item write separator takes fuel more.0 others.0 others.1 in
          let cut : Cut symbols (write first.0.0 ++ continued write separator others.0.0) others.0.1 = rw (continued-filled write separator others.0.0 behind.1) (front then more.1 then behind.0) in
          written_with (separated write separator) IsFilled others.2 cut tt
      | inr end ↦
          written_with (separated write separator) IsFilled end (front then (record { parts = refl })) tt
    ]

pub items_takes : {A : Type 0} (item : List Symbol → Option (A × List Symbol)) (write : A → List Symbol) (separator : Symbol) → Takes item write
    → TakesWith (items_at item separator) (separated write separator) IsFilled
unfolding items_at
items_takes item write separator takes symbols y h = list_takes item write separator takes _ symbols y h

-- ---- what is written is read again

-- an item is read again before tokens with which it doesn't go on
abbrev pub Again : {A : Type 0} → (List Symbol → Option (A × List Symbol)) → (A → List Symbol) → (List Symbol → Type 0) → Type 0
Again {A} item write Stops = (x : A) (rest : List Symbol) → Stops rest → item (write x ++ rest) ≡ Some (x, rest)

list_again : {A : Type 0} (item : List Symbol → Option (A × List Symbol)) (write : A → List Symbol) (separator : Symbol) (Stops : List Symbol → Type 0) → Again item write Stops
    → ((rest : List Symbol) → Stops (separator ∷ rest)) → is_same separator separator ≡ true
    → (xs : List A) (x : A) (rest : List Symbol) → Stops rest → eat separator rest ≡ pair false rest
    → (fuel : ℕ) → length xs ≤ fuel → list_at item separator (suc fuel) ((write x ++ continued write separator xs) ++ rest) ≡ Some (x ∷ xs, rest)
unfolding list_at and_then given
list_again item write separator Stops again before same [] x rest stops ends fuel enough = rw (append-nil, again x rest stops, ends) refl
list_again item write separator Stops again before same (next ∷ xs) x rest stops ends zero enough = absurd (omega arith)
list_again item write separator Stops again before same (next ∷ xs) x rest stops ends (suc fuel) enough =
    let enough_behind : length xs ≤ fuel = omega arith in
    let behind = list_again item write separator Stops again before same xs next rest stops ends fuel enough_behind in
    rw (append_assoc, again x (separator ∷ ((write next ++ continued write separator xs) ++ rest)) (before _), eat_again separator _ same, behind) refl

continued-length : {A : Type 0} (write : A → List Symbol) (separator : Symbol) (xs : List A) → length xs ≤ length (continued write separator xs)
continued-length write separator [] = omega arith
continued-length write separator (x ∷ xs) = omega (arith, continued-length write separator xs, length-append (write x) (continued write separator xs))

pub items_again : {A : Type 0} (item : List Symbol → Option (A × List Symbol)) (write : A → List Symbol) (separator : Symbol) (Stops : List Symbol → Type 0) → Again item write Stops
    → ((rest : List Symbol) → Stops (separator ∷ rest)) → is_same separator separator ≡ true
    → (xs : List A) → IsFilled xs → (rest : List Symbol) → Stops rest → eat separator rest ≡ pair false rest → items_at item separator (separated write separator xs ++ rest) ≡ Some (xs, rest)
unfolding items_at
items_again item write separator Stops again before same [] filled rest stops ends = absurd filled
items_again item write separator Stops again before same (x ∷ xs) filled rest stops ends =
    let enough : length xs ≤ length ((write x ++ continued write separator xs) ++ rest) = omega (arith, continued-length write separator xs, length-append (write x) (continued write separator xs), length-append (write x ++ continued write separator xs) rest) in
    list_again item write separator Stops again before same xs x rest stops ends _ enough

-- ---- a loop that reads a list

abbrev pub with_front : {A : Type 0} → List A → Option (List A × List Symbol) → Option (List A × List Symbol)
with_front front read = read >>= λ x. Some (front ++ x.0, x.1)

-- Items were read, and a list of others has to follow: where it does, all of it is the list that was to be read.
pub record IsReading {A : Type 0} (item : List Symbol → Option (A × List Symbol)) (separator : Symbol) (start : List Symbol) (before : List A) (now : List Symbol) : Type 0 where
  pub fuel : ℕ
  pub enough : length now ≤ fuel
  pub so_far : items_at item separator start ≡ with_front before (list_at item separator (suc fuel) now)

with_front-nil : {A : Type 0} (read : Option (List A × List Symbol)) → with_front [] read ≡ read
unfolding and_then
with_front-nil None = refl
with_front-nil (Some x) = refl

pub starts_reading : {A : Type 0} (item : List Symbol → Option (A × List Symbol)) (separator : Symbol) (start : List Symbol) → IsReading item separator start [] start
unfolding items_at
starts_reading item separator start = record { fuel = length start; enough = omega arith; so_far = sym (with_front-nil _) }

-- nothing was read where an item wasn't
pub stops_reading : {A : Type 0} {item : List Symbol → Option (A × List Symbol)} {separator : Symbol} {start now : List Symbol} {before : List A} → IsReading item separator start before now → (rule : Rule) → Fails rule (item now) → Fails rule (items_at item separator start)
unfolding list_at and_then
stops_reading reading rules.Memory fails = tt
stops_reading reading rules.Syntax fails = rw (reading.so_far, fails) refl
stops_reading reading _ fails = absurd fails

regroup : {A : Type 0} (before : List A) (x : A) (read : Option (List A × List Symbol)) → with_front before (read >>= λ others. Some (x ∷ others.0, others.1)) ≡ with_front (before ++ x ∷ []) read
unfolding and_then
regroup before x None = refl
regroup before x (Some y) = ap (λ xs. Some (xs, y.1)) (sym (append_assoc before (x ∷ []) y.0))

-- ever fewer tokens are left
pub shorter : {A : Type 0} {item : List Symbol → Option (A × List Symbol)} (write : A → List Symbol) → Takes item write → (separator : Symbol) {now after rest : List Symbol} {x : A} → item now ≡ Some (x, after) → eat separator after ≡ pair true rest → length rest < length now
shorter write takes separator {x = x} read passed =
    let front = takes _ _ read then eat_takes separator _ _ passed in
    omega (arith, fewer front, length-append (write x) (separator ∷ []))

more : {A : Type 0} (item : List Symbol → Option (A × List Symbol)) (separator : Symbol) (start now rest : List Symbol) (before : List A) (x : A) (after : List Symbol) → item now ≡ Some (x, after) → eat separator after ≡ pair true rest → length rest < length now
    → (fuel : ℕ) → length now ≤ fuel → items_at item separator start ≡ with_front before (list_at item separator (suc fuel) now) → IsReading item separator start (before ++ x ∷ []) rest
unfolding list_at and_then given
more item separator start now rest before x after read passed less zero enough so_far = absurd (omega arith)
more item separator start now rest before x after read passed less (suc fuel) enough so_far =
    record { fuel = fuel; enough = omega arith; so_far = so_far ∙ rw (read, passed) (regroup before x (list_at item separator (suc fuel) rest)) }

-- an item was read, and a separator
pub goes_on_reading : {A : Type 0} {item : List Symbol → Option (A × List Symbol)} {separator : Symbol} {start now : List Symbol} {before : List A} → IsReading item separator start before now
    → (write : A → List Symbol) → Takes item write → {x : A} {after rest : List Symbol} → item now ≡ Some (x, after) → eat separator after ≡ pair true rest → IsReading item separator start (before ++ x ∷ []) rest
goes_on_reading reading write takes read passed = more _ _ _ _ _ _ _ _ read passed (shorter write takes _ read passed) reading.fuel reading.enough reading.so_far

-- an item was read, and no separator
pub ends_reading : {A : Type 0} {item : List Symbol → Option (A × List Symbol)} {separator : Symbol} {start now : List Symbol} {before : List A} → IsReading item separator start before now
    → {x : A} {after rest : List Symbol} → item now ≡ Some (x, after) → eat separator after ≡ pair false rest → items_at item separator start ≡ Some (before ++ x ∷ [], rest)
unfolding list_at and_then given
ends_reading reading read passed = reading.so_far ∙ rw (read, passed) refl
