-- Which bytes print which tokens, whatever follows them.
use Rattle.std.proofs.Common.{◌≡◌, ℕ, ◌-◌, ◌^◌, ◌<◌, min, Bool, true, false, ◌||◌, ◌==◌, List, [], ◌∷◌, ◌++◌, refl, sym, ap, subst, append_assoc, append-nil, arith, rules, decimal}
use Rattle.std.specs.Str.{byte}
use Rattle.std.proofs.lemmas.Fmt.{decimal_is_IsNumeral}
use Rattle.reader.specs.declared.class.Class.TheVariants.{Blank, WordByte}
use Rattle.reader.specs.declared.keyword.Keyword.{Keyword}
use Rattle.reader.specs.declared.keyword.Keyword.TheVariants.{Select, From, Join, On, Where, And, Insert, Into, Values, Update, Set, Delete, Begin, Commit, Rollback, Refragment}
use Rattle.reader.specs.declared.sign.Sign.{Sign}
use Rattle.reader.specs.declared.sign.Sign.TheVariants.{Comma, Dot, Open, Close, Equal, NotEqual, Less, LessOrEqual, Greater, GreaterOrEqual, Plus, Minus, Star, Semicolon}
use Rattle.reader.specs.Class.{is_in}
use Rattle.reader.specs.Keyword.{keyword_text}
use Rattle.reader.specs.Sign.{sign_text}
use Rattle.reader.specs.Symbol.{Symbol, key, sign, name, number, text}
use Rattle.reader.specs.Tokens.{IsWord, IsName, IsTextValue, Spells, Stops, AreTokens, goes_on, sign_goes_on, quote, quoted}
use Rattle.reader.proofs.Signs.{or_false}

-- whether the byte may make a token before it longer
abbrev pub joins : ℕ → Bool
joins b = ((is_in WordByte b || b == quote) || b == byte "=") || b == byte ">"

-- The bytes print the tokens: before bytes that join no token, they are those tokens before theirs.
pub record Prints (bytes : List ℕ) (ts : List Symbol) : Type 0 where
  pub before : (rest : List ℕ) (us : List Symbol) → Stops joins rest → AreTokens rest us → AreTokens (bytes ++ rest) (ts ++ us)

-- ---- what joins no token

record IsCalm (b : ℕ) : Type 0 where
  word : is_in WordByte b ≡ false
  quote : (b == 39) ≡ false
  equal : (b == 61) ≡ false
  greater : (b == 62) ≡ false

calm : (b : ℕ) → joins b ≡ false → IsCalm b
calm b h =
    let last = or_false ((is_in WordByte b || b == 39) || b == 61) (b == 62) h in
    let third = or_false (is_in WordByte b || b == 39) (b == 61) last.0 in
    let second = or_false (is_in WordByte b) (b == 39) third.0 in
    record { word = second.0; quote = second.1; equal = third.1; greater = last.1 }

narrowed : (digit upper lower other : Bool) → (((digit || upper) || lower) || other) ≡ false → digit ≡ false
narrowed true upper lower other e = absurd cc
narrowed false upper lower other e = refl

sign_calm : (s : Sign) (b : ℕ) → IsCalm b → sign_goes_on s b ≡ false
sign_calm Less b c = rw (c.equal, c.greater) refl
sign_calm Greater b c = c.equal
sign_calm Comma b c = refl
sign_calm Dot b c = refl
sign_calm Open b c = refl
sign_calm Close b c = refl
sign_calm Equal b c = refl
sign_calm NotEqual b c = refl
sign_calm LessOrEqual b c = refl
sign_calm GreaterOrEqual b c = refl
sign_calm Plus b c = refl
sign_calm Minus b c = refl
sign_calm Star b c = refl
sign_calm Semicolon b c = refl

token_calm : (t : Symbol) (b : ℕ) → IsCalm b → goes_on t b ≡ false
token_calm (key k) b c = c.word
token_calm (sign s) b c = sign_calm s b c
token_calm (name letters) b c = c.word
token_calm (number magnitude) b c = narrowed _ _ _ _ c.word
token_calm (text value) b c = c.quote

stops_calm : (t : Symbol) (rest : List ℕ) → Stops joins rest → Stops (goes_on t) rest
stops_calm t [] stops = tt
stops_calm t (b ∷ rest) stops = token_calm t b (calm b stops)

stops_both : (first rest : List ℕ) → Stops joins first → Stops joins rest → Stops joins (first ++ rest)
stops_both [] rest calm_first calm_rest = calm_rest
stops_both (b ∷ first) rest calm_first calm_rest = calm_first

-- ---- tokens in front

token_before : (lexeme : List ℕ) (t : Symbol) (rest : List ℕ) (us : List Symbol) → Spells lexeme t → Stops (goes_on t) rest → AreTokens rest us → AreTokens (lexeme ++ rest) (t ∷ us)
token_before lexeme t rest us spells ends are = ([], lexeme ++ rest, rest, refl, tt, record { lexeme = lexeme; parts = refl; spells = spells; ends = ends }, are)

blank_before : (b : ℕ) (bytes : List ℕ) (ts : List Symbol) → is_in Blank b ≡ true → AreTokens bytes ts → AreTokens (b ∷ bytes) ts
blank_before b bytes [] blank are = (blank, are)
blank_before b bytes (t ∷ ts) blank are = (b ∷ are.0, are.1, are.2, ap (λ (r : List ℕ). b ∷ r) are.3, (blank, are.4), are.5, are.6)

-- ---- the laws

pub prints_nothing : Prints [] []
prints_nothing = record { before = λ rest us stops are. are }

pub prints_token : {lexeme : List ℕ} {t : Symbol} → Spells lexeme t → Prints lexeme (t ∷ [])
prints_token {lexeme} {t} spells = record { before = λ rest us stops are. token_before lexeme t rest us spells (stops_calm t rest stops) are }

-- a blank in front
pub prints_blank : {bytes : List ℕ} {ts : List Symbol} → Prints bytes ts → Prints (32 ∷ bytes) ts
prints_blank {bytes} {ts} prints = record { before = λ rest us stops are. blank_before 32 (bytes ++ rest) (ts ++ us) refl (prints.before rest us stops are) }

-- one after the other, where the second joins no token
pub prints_both : {first second : List ℕ} {ts us : List Symbol} → Prints first ts → Prints second us → Stops joins second → Prints (first ++ second) (ts ++ us)
prints_both {first} {second} {ts} {us} one two stops_second = record {
  before = λ rest vs stops are.
      let all = one.before (second ++ rest) (us ++ vs) (stops_both second rest stops_second stops) (two.before rest vs stops are) in
      subst (λ (bytes : List ℕ). AreTokens bytes ((ts ++ us) ++ vs)) (sym (append_assoc first second rest)) (subst (λ (symbols : List Symbol). AreTokens (first ++ (second ++ rest)) symbols) (sym (append_assoc ts us vs)) all);
}

-- a sign with which nothing goes on, in front of whatever follows
pub prints_open : {bytes : List ℕ} {ts : List Symbol} (s : Sign) → ((b : ℕ) → sign_goes_on s b ≡ false) → Prints bytes ts → Prints (sign_text s ++ bytes) (sign s ∷ ts)
prints_open {bytes} {ts} s alone prints = record {
  before = λ rest us stops are.
      let all = token_before (sign_text s) (sign s) (bytes ++ rest) (ts ++ us) refl (stops_alone (bytes ++ rest)) (prints.before rest us stops are) in
      subst (λ (all_bytes : List ℕ). AreTokens all_bytes (sign s ∷ (ts ++ us))) (sym (append_assoc (sign_text s) bytes rest)) all;
}
  where
    stops_alone : (rest : List ℕ) → Stops (sign_goes_on s) rest
    stops_alone [] = tt
    stops_alone (b ∷ rest) = alone b

-- what prints tokens, with nothing behind it, is those tokens
pub prints_whole : {bytes : List ℕ} {ts : List Symbol} → Prints bytes ts → AreTokens bytes ts
prints_whole {bytes} {ts} prints =
    subst (λ (all : List ℕ). AreTokens all ts) (append-nil bytes) (subst (λ (symbols : List Symbol). AreTokens (bytes ++ []) symbols) (append-nil ts) (prints.before [] [] tt tt))

-- ---- each kind of token

keyword_word : (k : Keyword) → IsWord (keyword_text k)
keyword_word Select = search rules
keyword_word From = search rules
keyword_word Join = search rules
keyword_word On = search rules
keyword_word Where = search rules
keyword_word And = search rules
keyword_word Insert = search rules
keyword_word Into = search rules
keyword_word Values = search rules
keyword_word Update = search rules
keyword_word Set = search rules
keyword_word Delete = search rules
keyword_word Begin = search rules
keyword_word Commit = search rules
keyword_word Rollback = search rules
keyword_word Refragment = search rules

pub prints_key : (k : Keyword) → Prints (keyword_text k) (key k ∷ [])
prints_key k = prints_token (keyword_word k, refl)

pub prints_sign : (s : Sign) → Prints (sign_text s) (sign s ∷ [])
prints_sign s = prints_token refl

pub prints_name : {letters : List ℕ} → IsName letters → Prints letters (name letters ∷ [])
prints_name is_name = prints_token (refl, is_name)

pub prints_text : {value : List ℕ} → IsTextValue value → Prints (quoted value) (text value ∷ [])
prints_text is_value = prints_token (refl, is_value)

capped : (value n : ℕ) → value ≡ n → n < 2 ^ 64 → min value (2 ^ 64 - 1) ≡ n
capped value n same fits = omega arith

pub prints_number : (n : ℕ) → n < 2 ^ 64 → Prints (decimal n) (number n ∷ [])
prints_number n fits = let d = decimal_is_IsNumeral n fits in prints_token (d.0, capped _ n d.1 fits)
