-- Tests of keys and their order.
use Rattle.std.proofs.Common.{◌≡◌, ℤ, ◌<ℤ◌, true, false, int_lt, arith}
use Rattle.std.proofs.lemmas.Int.{ints}
use Rattle.std.specs.Ordering.{int_cmp, int_eq}
use Rattle.std.specs.declared.cmp.Ordering.TheVariants.{Less, Greater}

-- the tests of keys against their order

pub lt_below : (a b : ℤ) → int_lt a b ≡ true → a <ℤ b
lt_below a b h = grind (arith, ints)

pub lt_true : (a b : ℤ) → a <ℤ b → int_lt a b ≡ true
lt_true a b h = grind (arith, ints)

pub lt_false : (a b : ℤ) → b <ℤ a → int_lt a b ≡ false
lt_false a b h = grind (arith, ints)

pub eq_below : (a b : ℤ) → a <ℤ b → int_eq a b ≡ false
eq_below a b h = grind (arith, ints)

pub eq_above : (a b : ℤ) → b <ℤ a → int_eq a b ≡ false
eq_above a b h = grind (arith, ints)

-- a number that is neither equal to another nor above it is below it
pub below_other : (a b : ℤ) → int_eq a b ≡ false → int_lt b a ≡ false → a <ℤ b
below_other a b apart above = grind (arith, ints)

pub below_from_less : (a b : ℤ) → int_cmp a b ≡ Less → a <ℤ b
below_from_less a b h = grind (arith, ints)

pub above_from_greater : (a b : ℤ) → int_cmp a b ≡ Greater → b <ℤ a
above_from_greater a b h = grind (arith, ints)

pub below_trans : (a b c : ℤ) → a <ℤ b → b <ℤ c → a <ℤ c
below_trans a b c h k = omega (arith, ints)

pub less_from_below : (a b : ℤ) → a <ℤ b → int_cmp a b ≡ Less
less_from_below a b h = grind (arith, ints)

pub eq_same : (a b : ℤ) → a ≡ b → int_eq a b ≡ true
eq_same a b h = grind (arith, ints)
