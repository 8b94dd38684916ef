-- What the steps of the parsing functions took from the front, one token at a time.
use Rattle.std.proofs.Common.{◌≡◌, ◌+◌, Bool, true, false, cond, get_or, List, [], ◌∷◌, ◌++◌, length, length-append, Option, Some, None, refl, sym, ap, ap₂, subst, ◌∙◌, append_assoc, inl, inr, ◌⊎◌}
use Rattle.std.proofs.lemmas.Bool.{eqb-true}
use Rattle.reader.specs.declared.keyword.Keyword.{Keyword}
use Rattle.reader.specs.declared.keyword.Keyword.TheVariants as word
use Rattle.reader.specs.declared.sign.Sign.{Sign}
use Rattle.reader.specs.declared.sign.Sign.TheVariants as mark
use Rattle.reader.specs.Symbol.{Symbol, key, sign, name, number}
use Rattle.reader.specs.Parsing.{and_then, keyword_number, sign_number, is_same, eat, given, expect, name_at, number_at}

-- symbols that begin so, and what is left of them
pub record Cut (symbols front rest : List Symbol) : Type 0 where
  pub parts : symbols ≡ front ++ rest

infixr 5 ◌then◌
pub ◌then◌ : {a x b y c : List Symbol} → Cut a x b → Cut b y c → Cut a (x ++ y) c
◌then◌ {a} {x} {b} {y} {c} p q = record { parts = p.parts ∙ ap (λ (t : List Symbol). x ++ t) q.parts ∙ sym (append_assoc x y c) }

-- what a reader takes is a way to write what it reads
abbrev pub Takes : {A : Type 0} → (List Symbol → Option (A × List Symbol)) → (A → List Symbol) → Type 0
Takes {A} item write = (symbols : List Symbol) (y : A × List Symbol) → item symbols ≡ Some y → Cut symbols (write y.0) y.1

-- the result is what was put together
pub written : {A : Type 0} (write : A → List Symbol) {symbols : List Symbol} {x y : A × List Symbol} → Some x ≡ Some y → Cut symbols (write x.0) x.1 → Cut symbols (write y.0) y.1
written {A} write {symbols} {x} {y} e cut =
    let same : x ≡ y = cc in
    subst (λ (p : A × List Symbol). Cut symbols (write p.0) p.1) same cut

-- and what it reads is as it has to be
abbrev pub TakesWith : {A : Type 0} → (List Symbol → Option (A × List Symbol)) → (A → List Symbol) → (A → Type 0) → Type 0
TakesWith {A} item write IsFine = (symbols : List Symbol) (y : A × List Symbol) → item symbols ≡ Some y → Cut symbols (write y.0) y.1 × IsFine y.0

pub written_with : {A : Type 0} (write : A → List Symbol) (IsFine : A → Type 0) {symbols : List Symbol} {x y : A × List Symbol} → Some x ≡ Some y → Cut symbols (write x.0) x.1 → IsFine x.0 → Cut symbols (write y.0) y.1 × IsFine y.0
written_with {A} write IsFine {symbols} {x} {y} e cut fine =
    let same : x ≡ y = cc in
    subst (λ (p : A × List Symbol). Cut symbols (write p.0) p.1 × IsFine p.0) same (cut, fine)

-- the value of a step that gave one
pub bind : {A B : Type 0} {o : Option A} {f : A → Option B} {y : B} → and_then o f ≡ Some y → (x : A) × (o ≡ Some x) × (f x ≡ Some y)
unfolding and_then
bind {o = None} h = absurd cc
bind {o = Some x} h = (x, refl, h)

-- which way a reader went that looked ahead
pub way : {A : Type 0} (b : Bool) (one other : Option A) {y : A} → cond b one other ≡ Some y → (one ≡ Some y) ⊎ (other ≡ Some y)
way true one other h = inl h
way false one other h = inr h

-- ---- keywords and signs

keywords : List Keyword
keywords = word.Select ∷ word.From ∷ word.Join ∷ word.On ∷ word.Where ∷ word.And ∷ word.Insert ∷ word.Into ∷ word.Values ∷ word.Update ∷ word.Set ∷ word.Delete ∷ word.Begin ∷ word.Commit ∷ word.Rollback ∷ word.Refragment ∷ []

signs : List Sign
signs = mark.Comma ∷ mark.Dot ∷ mark.Open ∷ mark.Close ∷ mark.Equal ∷ mark.NotEqual ∷ mark.Less ∷ mark.LessOrEqual ∷ mark.Greater ∷ mark.GreaterOrEqual ∷ mark.Plus ∷ mark.Minus ∷ mark.Star ∷ mark.Semicolon ∷ []

keyword_at : (k : Keyword) → get_or keywords (keyword_number k) word.Select ≡ k
unfolding keywords
keyword_at word.Select = refl
keyword_at word.From = refl
keyword_at word.Join = refl
keyword_at word.On = refl
keyword_at word.Where = refl
keyword_at word.And = refl
keyword_at word.Insert = refl
keyword_at word.Into = refl
keyword_at word.Values = refl
keyword_at word.Update = refl
keyword_at word.Set = refl
keyword_at word.Delete = refl
keyword_at word.Begin = refl
keyword_at word.Commit = refl
keyword_at word.Rollback = refl
keyword_at word.Refragment = refl

sign_at : (s : Sign) → get_or signs (sign_number s) mark.Comma ≡ s
unfolding signs
sign_at mark.Comma = refl
sign_at mark.Dot = refl
sign_at mark.Open = refl
sign_at mark.Close = refl
sign_at mark.Equal = refl
sign_at mark.NotEqual = refl
sign_at mark.Less = refl
sign_at mark.LessOrEqual = refl
sign_at mark.Greater = refl
sign_at mark.GreaterOrEqual = refl
sign_at mark.Plus = refl
sign_at mark.Minus = refl
sign_at mark.Star = refl
sign_at mark.Semicolon = refl

is_same-true : (t s : Symbol) → is_same t s ≡ true → t ≡ s
is_same-true (key a) (key b) h = ap key (sym (keyword_at a) ∙ ap (λ n. get_or keywords n word.Select) (eqb-true _ _ h) ∙ keyword_at b)
is_same-true (sign a) (sign b) h = ap sign (sym (sign_at a) ∙ ap (λ n. get_or signs n mark.Comma) (eqb-true _ _ h) ∙ sign_at b)
is_same-true _ _ h = absurd cc

-- ---- one token

abbrev pub pair : Bool → List Symbol → Bool × List Symbol
pair b rest = (b, rest)

pub either : (b : Bool) → (b ≡ true) ⊎ (b ≡ false)
either true = inl refl
either false = inr refl

-- a token is eaten where it stands in front, and nothing else is
pub eaten : (t : Symbol) (symbols : List Symbol) → ((rest : List Symbol) × (eat t symbols ≡ pair true rest) × Cut symbols (t ∷ []) rest) ⊎ (eat t symbols ≡ pair false symbols)
unfolding eat
eaten t [] = inr refl
eaten t (s ∷ rest) =
    elim (either (is_same t s)) [
      | inl e ↦ inl (rest, ap (λ b. cond b (pair true rest) (pair false (s ∷ rest))) e, record { parts = ap (λ x. x ∷ rest) (sym (is_same-true t s e)) })
      | inr e ↦ inr (ap (λ b. cond b (pair true rest) (pair false (s ∷ rest))) e)
    ]

-- what a call that eats answers, and what it leaves
pub ate : (t : Symbol) (symbols : List Symbol) {found value : Bool} {rest : List Symbol} → found ≡ (eat t symbols).0 → rest ≡ (eat t symbols).1 → found ≡ value → eat t symbols ≡ pair value rest
ate t symbols answers leaves is = ap₂ pair (sym answers ∙ is) (sym leaves)

pub eat_takes : (t : Symbol) (symbols rest : List Symbol) → eat t symbols ≡ pair true rest → Cut symbols (t ∷ []) rest
eat_takes t symbols rest h =
    elim (eaten t symbols) [
      | inl e ↦ let same : e.0 ≡ rest = ap (λ (r : Bool × List Symbol). r.1) (sym e.1 ∙ h) in subst (λ (r : List Symbol). Cut symbols (t ∷ []) r) same e.2
      | inr e ↦ let apart : false ≡ true = ap (λ (r : Bool × List Symbol). r.0) (sym e ∙ h) in absurd cc
    ]

pub eat_again : (t : Symbol) (rest : List Symbol) → is_same t t ≡ true → eat t (t ∷ rest) ≡ pair true rest
unfolding eat
eat_again t rest same = ap (λ b. cond b (pair true rest) (pair false (t ∷ rest))) same

-- which way a reader went that looked at the front token
pub taken : {A : Type 0} (t : Symbol) (symbols : List Symbol) (found other : List Symbol → Option A) {y : A} → given t symbols found other ≡ Some y
    → ((rest : List Symbol) × Cut symbols (t ∷ []) rest × (found rest ≡ Some y)) ⊎ (other symbols ≡ Some y)
unfolding given
taken t symbols found other {y} h =
    let P : Bool × List Symbol → Type 0 = λ r. cond r.0 (found r.1) (other r.1) ≡ Some y in
    elim (eaten t symbols) [
      | inl e ↦ inl (e.0, e.2, subst P e.1 h)
      | inr e ↦ inr (subst P e h)
    ]

pub expect_takes : (t : Symbol) → Takes (expect t) (λ _. t ∷ [])
unfolding expect
expect_takes t symbols y h =
    elim (taken _ _ _ _ h) [
      | inl e ↦ written (λ _. t ∷ []) e.2 e.1
      | inr e ↦ absurd cc
    ]

pub name_takes : Takes name_at (λ bytes. name bytes ∷ [])
unfolding name_at
name_takes (name bytes ∷ rest) y h = written (λ b. name b ∷ []) h (record { parts = refl })
name_takes _ y h = absurd cc

pub number_takes : Takes number_at (λ magnitude. number magnitude ∷ [])
unfolding number_at
number_takes (number magnitude ∷ rest) y h = written (λ n. number n ∷ []) h (record { parts = refl })
number_takes _ y h = absurd cc

-- nothing is lost
pub fewer : {symbols front rest : List Symbol} → Cut symbols front rest → length front + length rest ≡ length symbols
fewer {symbols} {front} {rest} cut = sym (ap length cut.parts ∙ length-append front rest)
