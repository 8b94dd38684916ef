-- Reading one token after the other.
use Rattle.std.proofs.Common.{◌≡◌, ℕ, ◌<◌, ◌≤◌, List, [], ◌∷◌, ◌++◌, length, Option, Some, None, refl, sym, ap, subst, ◌∙◌, append_assoc, append-nil, arith, length-append, All, ◌≢◌}
use Rattle.std.proofs.lemmas.Option.{some_pair_parts}
use Rattle.std.proofs.lemmas.List.{map_push, nil_from_length}
use Rattle.std.proofs.lemmas.List.Elements.{All-push}
use Rattle.reader.specs.declared.fault.Rule.{Rule}
use Rattle.reader.specs.declared.fault.Rule.TheVariants as rules
use Rattle.reader.specs.declared.class.Class.TheVariants.{Blank}
use Rattle.reader.specs.Class.{is_in, AreAll}
use Rattle.reader.specs.declared.token.Placed.{Placed}
use Rattle.reader.specs.Symbol.{Symbol, symbol_of, symbols_of}
use Rattle.reader.specs.Tokens.{AreTokens, OneListOfTokens}
use Rattle.reader.specs.Reading.{front, after, token_at, Fails}
use Rattle.reader.proofs.Runs.{front-after, front_passes, after-append}
use Rattle.reader.proofs.Front.{token_none, token_takes, begins_again, token_no_blank, token_shorter}

-- behind the blanks
abbrev pub begun : List ℕ → List ℕ
begun rest = after (is_in Blank) rest

all_blank : (rest : List ℕ) → begun rest ≡ [] → AreAll Blank rest
all_blank rest none =
    let whole : rest ≡ front (is_in Blank) rest = front-after (is_in Blank) rest ∙ ap (λ (r : List ℕ). front (is_in Blank) rest ++ r) none ∙ append-nil (front (is_in Blank) rest) in
    subst (λ (bs : List ℕ). AreAll Blank bs) (sym whole) (front_passes (is_in Blank) rest)

begun-blank : (rest : List ℕ) → AreAll Blank rest → begun rest ≡ []
begun-blank rest blank = ap begun (sym (append-nil rest)) ∙ after-append (is_in Blank) rest [] blank tt

-- what tokens go on with
read_on : (rest : List ℕ) (t : Symbol) (ts : List Symbol) → AreTokens rest (t ∷ ts) → (behind : List ℕ) × (token_at (begun rest) ≡ Some (t, behind)) × AreTokens behind ts
read_on rest t ts are =
    let read = begins_again are.1 t are.2 are.5 in
    let skipped : begun rest ≡ are.1 = ap begun are.3 ∙ after-append (is_in Blank) are.0 are.1 are.4 (token_no_blank are.1 (t, are.2) read) in
    (are.2, ap token_at skipped ∙ read, are.6)

read_back : (rest : List ℕ) (t : Symbol) (behind : List ℕ) (ts : List Symbol) → token_at (begun rest) ≡ Some (t, behind) → AreTokens behind ts → AreTokens rest (t ∷ ts)
read_back rest t behind ts read are = (front (is_in Blank) rest, begun rest, behind, front-after (is_in Blank) rest, front_passes (is_in Blank) rest, token_takes (begun rest) t behind read, are)

not_blank : (rest : List ℕ) (x : Symbol × List ℕ) → AreAll Blank rest → token_at (begun rest) ≡ Some x → ⊥
not_blank rest x blank read = let none = ap token_at (begun-blank rest blank) ∙ token_none in cc

pub one_list : OneListOfTokens
one_list bytes [] [] first second = refl
one_list bytes [] (u ∷ us) first second = let next = read_on bytes u us second in absurd (not_blank bytes (u, next.0) first next.1)
one_list bytes (t ∷ ts) [] first second = let next = read_on bytes t ts first in absurd (not_blank bytes (t, next.0) second next.1)
one_list bytes (t ∷ ts) (u ∷ us) first second =
    let next = read_on bytes t ts first in
    let other = read_on bytes u us second in
    let same = some_pair_parts t u next.0 other.0 (sym next.1 ∙ other.1) in
    let others = one_list next.0 ts us next.2 (subst (λ (r : List ℕ). AreTokens r us) (sym same.1) other.2) in
    cc

-- The symbols before the rest have been read: what the rest is, they go before it, and nothing else.
pub record IsRead (bytes : List ℕ) (before : List Symbol) (rest : List ℕ) : Type 0 where
  pub forward : (ts : List Symbol) → AreTokens rest ts → AreTokens bytes (before ++ ts)
  pub back : (all : List Symbol) → AreTokens bytes all → (ts : List Symbol) × AreTokens rest ts × (all ≡ before ++ ts)

pub nothing_read : (bytes : List ℕ) → IsRead bytes [] bytes
nothing_read bytes = record { forward = λ ts are. are; back = λ all are. (all, are, refl) }

module _ (bytes : List ℕ) (before : List Symbol) (rest : List ℕ) (so_far : IsRead bytes before rest) where
  back_by : (t : Symbol) (behind : List ℕ) (all ts : List Symbol) → token_at (begun rest) ≡ Some (t, behind) → AreTokens rest ts → all ≡ before ++ ts
      → (us : List Symbol) × AreTokens behind us × (all ≡ (before ++ t ∷ []) ++ us)
  back_by t behind all [] read are e = absurd (not_blank rest (t, behind) are read)
  back_by t behind all (u ∷ us) read are e =
      let next = read_on rest u us are in
      let same = some_pair_parts u t next.0 behind (sym next.1 ∙ read) in
      (us, subst (λ (r : List ℕ). AreTokens r us) same.1 next.2, e ∙ ap (λ (s : Symbol). before ++ s ∷ us) same.0 ∙ sym (append_assoc before (t ∷ []) us))

  pub one_read : (t : Symbol) (behind : List ℕ) → token_at (begun rest) ≡ Some (t, behind) → IsRead bytes (before ++ t ∷ []) behind
  one_read t behind read = record {
    forward = λ ts are. subst (λ (all : List Symbol). AreTokens bytes all) (sym (append_assoc before (t ∷ []) ts)) (so_far.forward (t ∷ ts) (read_back rest t behind ts read are));
    back = λ all are. let b = so_far.back all are in back_by t behind all b.0 read b.1 b.2;
  }

  pub all_read : begun rest ≡ [] → AreTokens bytes before
  all_read none = subst (λ (all : List Symbol). AreTokens bytes all) (append-nil before) (so_far.forward [] (all_blank rest none))

  none_by : (ts : List Symbol) → (begun rest ≡ [] → ⊥) → token_at (begun rest) ≡ None → AreTokens rest ts → ⊥
  none_by [] some none are = some (begun-blank rest are)
  none_by (t ∷ ts) some none are = let next = read_on rest t ts are in cc

  pub none_read : (begun rest ≡ [] → ⊥) → token_at (begun rest) ≡ None → (all : List Symbol) → ¬ (AreTokens bytes all)
  none_read some none all are = let b = so_far.back all are in none_by b.0 some none b.1

-- what is behind the blanks is no longer
pub begun_length : (rest : List ℕ) → length (begun rest) ≤ length rest
begun_length rest = omega (arith, ap length (front-after (is_in Blank) rest), length-append (front (is_in Blank) rest) (begun rest))

-- What the loop keeps: the tokens have been read, and each lies within the text.
pub record AreRead (bytes : List ℕ) (tokens : List Placed) (rest : List ℕ) : Type 0 where
  pub read : IsRead bytes (symbols_of tokens) rest
  pub rest_within : length rest ≤ length bytes
  pub tokens_within : All (λ placed. placed.offset ≤ length bytes) tokens

-- ---- the answers of the loop

fails_none : {Y : Type 0} (rule : Rule) (read : Option Y) → Fails rule read → rule ≢ rules.Memory → read ≡ None
fails_none rules.Memory read fails other = absurd (other refl)
fails_none _ read fails other = fails

module _ (bytes : List ℕ) (tokens : List Placed) (rest behind : List ℕ) (so_far : AreRead bytes tokens rest) (skipped : behind ≡ begun rest) where
  pub behind_within : length behind ≤ length bytes
  behind_within = let r = so_far.rest_within in omega (arith, ap length skipped, begun_length rest)

  pub is_whole : length behind ≡ 0 → AreTokens bytes (symbols_of tokens)
  is_whole none = all_read bytes (symbols_of tokens) rest so_far.read (sym skipped ∙ nil_from_length behind none)

  pub is_refused : (rule : Rule) → 0 < length behind → Fails rule (token_at behind) → rule ≢ rules.Memory → (symbols : List Symbol) → ¬ (AreTokens bytes symbols)
  is_refused rule some fails other symbols =
      none_read bytes (symbols_of tokens) rest so_far.read
      (λ none. let h = ap length (skipped ∙ none) in absurd (omega arith))
      (ap token_at (sym skipped) ∙ fails_none rule (token_at behind) fails other)
      symbols

  pub is_shorter : (t : Symbol) (others : List ℕ) → token_at behind ≡ Some (t, others) → length others < length rest
  is_shorter t others read = omega (arith, token_shorter behind t others read, ap length skipped, begun_length rest)

  pub is_read : (token : Placed) (others : List ℕ) → token_at behind ≡ Some (symbol_of token.token, others) → token.offset ≤ length bytes → AreRead bytes (tokens ++ token ∷ []) others
  is_read token others read within = record {
    read = rw (map_push (λ (p : Placed). symbol_of p.token) tokens token) (one_read bytes (symbols_of tokens) rest so_far.read (symbol_of token.token) others (ap token_at (sym skipped) ∙ read));
    rest_within = let r = so_far.rest_within in omega (arith, is_shorter (symbol_of token.token) others read);
    tokens_within = All-push (λ (p : Placed). p.offset ≤ length bytes) tokens token so_far.tokens_within within;
  }
