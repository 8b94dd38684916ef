-- Lemmas on what a script says.
use Rattle.std.proofs.Common.{◌≡◌, ◌≢◌, ne_eqb, ℕ, ◌+◌, ◌<◌, ◌==◌, ◌++◌, Bool, true, false, not, if◌then◌else◌, List, [], ◌∷◌, length, map, take, drop, get_or, Option, Some, None, MatchOption, Bor, sym, ap, subst, refl, ◌∙◌, arith, slice_get, IsCharBoundary}
use Rattle.std.specs.List.{enumerate_from, list_any}
use Rattle.std.specs.Str.{IsUtf8, is_utf8}
use Rattle.std.specs.Str.Pattern.{FindsTextPrefix, StripsPrefix}
use Rattle.std.proofs.lemmas.Grind.{common_steps}
use Rattle.std.proofs.lemmas.List.{map-append, length-map, take-map}
use Rattle.std.proofs.lemmas.List.FromFn.{length-enumerate_from}
use Rattle.std.proofs.lemmas.Str.{IsUtf8-from_is_utf8, is_utf8-from_IsUtf8}
use Rattle.std.proofs.lemmas.Str.Pattern.{starts_text}
use Rattle.lines.specs.declared.script.Item.{Item}
use Rattle.lines.specs.declared.script.Item.TheVariants.{Statement, Show, Leaf, Dump, Count}
use Rattle.reader.specs.declared.class.Class.TheVariants.{Blank}
use Rattle.reader.specs.Class.{is_in}
use Rattle.lines.specs.Script.{Reading, Nothing, Runs, Unreadable, argument_of, first_unreadable, first_unreadable_from, is_unreadable, is_word, reading_of, reading_of_command, reading_of_text, task_of, tasks_of, tasks_of_lines}

-- a text's reading, by its first byte
abbrev pub reading_by_first : Option ℕ → List ℕ → Reading
reading_by_first None line = Nothing
reading_by_first (Some byte) line = if byte == 35 then Nothing else (if byte == 46 then reading_of_command line else Runs line)

reading_of_text-first : (line : List ℕ) → reading_of_text line ≡ reading_by_first (slice_get line 0) line
reading_of_text-first [] = refl
reading_of_text-first (byte ∷ bytes) = refl

pub reading_of-text : (line : List ℕ) → IsUtf8 line → reading_of line ≡ reading_by_first (slice_get line 0) line
reading_of-text line h = let e = is_utf8-from_IsUtf8 line h in rw (e, reading_of_text-first line) refl

pub is_utf8-false : (line : List ℕ) (b : Bool) → is_utf8 line ≡ b → ¬ (IsUtf8 line) → is_utf8 line ≡ false
is_utf8-false line true e h = absurd (h (IsUtf8-from_is_utf8 line e))
is_utf8-false line false e h = e

pub reading_of-bytes : (line : List ℕ) → ¬ (IsUtf8 line) → reading_of line ≡ Unreadable
reading_of-bytes line h = rw (is_utf8-false line (is_utf8 line) refl h) refl

-- the same at the cases of a first byte
pub reading_of-command : (line : List ℕ) → IsUtf8 line → slice_get line 0 ≡ Some 46 → reading_of line ≡ reading_of_command line
reading_of-command line h e = reading_of-text line h ∙ ap (λ first. reading_by_first first line) e

pub reading_of-statement : (line : List ℕ) (byte : ℕ) → IsUtf8 line → slice_get line 0 ≡ Some byte → byte ≢ 35 → byte ≢ 46 → reading_of line ≡ Runs line
reading_of-statement line byte h e hash dot =
    reading_of-text line h ∙ ap (λ first. reading_by_first first line) e ∙ rw (ne_eqb byte 35 hash, ne_eqb byte 46 dot) refl

pub reading_of-empty : (line : List ℕ) → IsUtf8 line → slice_get line 0 ≡ None → reading_of line ≡ Nothing
reading_of-empty line h e = reading_of-text line h ∙ ap (λ first. reading_by_first first line) e

pub reading_of-comment : (line : List ℕ) → IsUtf8 line → slice_get line 0 ≡ Some 35 → reading_of line ≡ Nothing
reading_of-comment line h e = reading_of-text line h ∙ ap (λ first. reading_by_first first line) e

-- the word of a command, by what `strip_prefix` gives
pub argument_of-other : (r : Option (Bor (List ℕ))) (command line : List ℕ) → MatchOption r (FindsTextPrefix command line None) (λ x. StripsPrefix (FindsTextPrefix command) line x.now) → r ≡ None → argument_of line command ≡ None
argument_of-other (Some x) command line h e = absurd (cc)
argument_of-other None command line h e = rw (← starts_text false command line h) refl

pub argument_of-rest : (r : Option (Bor (List ℕ))) (command line : List ℕ) (x : Bor (List ℕ)) → MatchOption r (FindsTextPrefix command line None) (λ x. StripsPrefix (FindsTextPrefix command) line x.now) → r ≡ Some x → argument_of line command ≡ (if is_word x.now then Some x.now else None)
argument_of-rest None command line x h e = absurd (cc)
argument_of-rest (Some y) command line x h e =
    let boundary : IsCharBoundary line h.0 = subst (IsCharBoundary line) (sym h.1.0) h.1.2 in
    let same : x.now ≡ drop (length command) line = cc in
    rw (← starts_text true command line (h.0, h.1, boundary), same) refl

-- a test and what comes after it
first_unreadable_more : (stops : Bool) (n : ℕ) (rest more : Option ℕ) → (if stops then Some n else rest) ≡ None → (rest ≡ None → more ≡ None) → (if stops then Some n else more) ≡ None
first_unreadable_more true n rest more h go = absurd (cc)
first_unreadable_more false n rest more h go = go h

goes_on : (stops : Bool) (n : ℕ) (rest : Option ℕ) → (if stops then Some n else rest) ≡ None → (stops ≡ false) × (rest ≡ None)
goes_on true n rest h = absurd (cc)
goes_on false n rest h = (refl, h)

-- one more line that can be read
pub first_unreadable_from-more : (n : ℕ) (lines : List (List ℕ)) (line : List ℕ) → first_unreadable_from n lines ≡ None → is_unreadable (reading_of line) ≡ false → first_unreadable_from n (lines ++ line ∷ []) ≡ None
first_unreadable_from-more n [] line h e = rw e refl
first_unreadable_from-more n (first ∷ lines) line h e =
    first_unreadable_more (is_unreadable (reading_of first)) n (first_unreadable_from (n + 1) lines) (first_unreadable_from (n + 1) (lines ++ line ∷ [])) h
    (λ rest. first_unreadable_from-more (n + 1) lines line rest e)

-- the first line that can't be read, after some lines that can
pub first_unreadable_from-at : (n : ℕ) (lines : List (List ℕ)) (past : List (ℕ × List ℕ)) (here : ℕ × List ℕ) → past ≡ take (length past) (enumerate_from n lines) → length past < length lines → here ≡ get_or (enumerate_from n lines) (length past) here → first_unreadable_from (n + 1) (map (λ p. p.1) past) ≡ None → is_unreadable (reading_of here.1) ≡ true → first_unreadable_from (n + 1) lines ≡ Some (here.0 + 1)
first_unreadable_from-at n [] past here so_far within is_here readable unreadable = absurd (omega arith)
first_unreadable_from-at n (line ∷ lines) [] here so_far within is_here readable unreadable =
    let text : here.1 ≡ line = ap (λ p. p.1) is_here in
    let number : here.0 ≡ n = ap (λ p. p.0) is_here in
    let stops : is_unreadable (reading_of line) ≡ true = subst (λ t. is_unreadable (reading_of t) ≡ true) text unreadable in
    rw (stops, number) refl
first_unreadable_from-at n (line ∷ lines) (first ∷ past) here so_far within is_here readable unreadable =
    let is_first : first ≡ (n, line) = cc in
    let so_far_rest : past ≡ take (length past) (enumerate_from (n + 1) lines) = cc in
    let go = goes_on (is_unreadable (reading_of first.1)) (n + 1) (first_unreadable_from (n + 1 + 1) (map (λ p. p.1) past)) readable in
    let readable_here : is_unreadable (reading_of line) ≡ false = subst (λ t. is_unreadable (reading_of t) ≡ false) (ap (λ p. p.1) is_first) go.0 in
    rw readable_here (first_unreadable_from-at (n + 1) lines past here so_far_rest (omega arith) is_here go.1 unreadable)

-- a text that is not empty
pub is_word-some : (text : List ℕ) (blank : Bool) → false ≡ (length text == 0) → blank ≡ list_any (is_in Blank) text → not blank ≡ is_word text
is_word-some text blank h e = rw (e, ← h) refl

-- ---- the lines that a loop has yielded, each with its index

-- each line with its index
abbrev pub numbered : List (ℕ × Bor (List ℕ)) → List (ℕ × List ℕ)
numbered yielded = map (λ p. (p.0, p.1.now)) yielded

abbrev pub texts : List (ℕ × Bor (List ℕ)) → List (List ℕ)
texts yielded = map (λ p. p.1.now) yielded

texts-numbered : (yielded : List (ℕ × Bor (List ℕ))) → map (λ p. p.1) (numbered yielded) ≡ texts yielded
texts-numbered [] = refl
texts-numbered (first ∷ yielded) = ap (λ rest. first.1.now ∷ rest) (texts-numbered yielded)

texts-enumerate_from : (n : ℕ) (lines : List (List ℕ)) → map (λ p. p.1) (enumerate_from n lines) ≡ lines
texts-enumerate_from n [] = refl
texts-enumerate_from n (line ∷ lines) = ap (λ rest. line ∷ rest) (texts-enumerate_from (n + 1) lines)

-- at the end
pub texts-all : (lines : List (List ℕ)) (yielded : List (ℕ × Bor (List ℕ))) → numbered yielded ≡ enumerate_from 0 lines → texts yielded ≡ lines
texts-all lines yielded h = sym (texts-numbered yielded) ∙ ap (map (λ p. p.1)) h ∙ texts-enumerate_from 0 lines

-- before the end
pub texts-so_far : (lines : List (List ℕ)) (yielded : List (ℕ × Bor (List ℕ))) (n : ℕ) → numbered yielded ≡ take n (enumerate_from 0 lines) → texts yielded ≡ take n lines
texts-so_far lines yielded n h = sym (texts-numbered yielded) ∙ ap (map (λ p. p.1)) h ∙ sym (take-map (λ p. p.1) n (enumerate_from 0 lines)) ∙ ap (take n) (texts-enumerate_from 0 lines)

-- at a line that can't be read
pub first_unreadable-at : (lines : List (List ℕ)) (yielded : List (ℕ × Bor (List ℕ))) (index : ℕ) (line : List ℕ) → numbered yielded ≡ take (length yielded) (enumerate_from 0 lines) → length yielded < length (enumerate_from 0 lines) → (index, line) ≡ get_or (enumerate_from 0 lines) (length yielded) (index, line) → first_unreadable (texts yielded) ≡ None → is_unreadable (reading_of line) ≡ true → first_unreadable lines ≡ Some (index + 1)
first_unreadable-at lines yielded index line so_far within is_here readable unreadable =
    let same : length (numbered yielded) ≡ length yielded = length-map yielded (λ p. (p.0, p.1.now)) in
    first_unreadable_from-at 0 lines (numbered yielded) (index, line) (rw same so_far)
    (rw same (rw (length-enumerate_from 0 lines) at within)) (rw same is_here) (rw (texts-numbered yielded) readable) unreadable

-- after one more line
pub tasks_of_lines-more : (lines : List (List ℕ)) (line : List ℕ) (reading : Reading) (tasks more : List Reading) → tasks ≡ tasks_of_lines lines → reading ≡ reading_of line → tasks ++ tasks_of reading ≡ more → more ≡ tasks_of_lines (lines ++ line ∷ [])
tasks_of_lines-more lines line reading tasks more h is_read e = grind (arith, common_steps)

pub first_unreadable-more : (lines : List (List ℕ)) (line : List ℕ) (reading : Reading) → first_unreadable lines ≡ None → reading ≡ reading_of line → is_unreadable reading ≡ false → first_unreadable (lines ++ line ∷ []) ≡ None
first_unreadable-more lines line reading h is_read readable =
    first_unreadable_from-more 1 lines line h (subst (λ r. is_unreadable r ≡ false) is_read readable)

pub texts-more : (yielded : List (ℕ × Bor (List ℕ))) (index : ℕ) (line : Bor (List ℕ)) → texts (yielded ++ (index, line) ∷ []) ≡ texts yielded ++ line.now ∷ []
texts-more yielded index line = map-append (λ p. p.1.now) yielded ((index, line) ∷ [])

-- a line that asks for an item
pub tasks_of-item : (item : Item) → tasks_of (task_of item) ≡ task_of item ∷ []
tasks_of-item (Statement text) = refl
tasks_of-item (Show name) = refl
tasks_of-item (Leaf name) = refl
tasks_of-item (Dump name) = refl
tasks_of-item (Count name) = refl

pub is_unreadable-item : (item : Item) → is_unreadable (task_of item) ≡ false
is_unreadable-item (Statement text) = refl
is_unreadable-item (Show name) = refl
is_unreadable-item (Leaf name) = refl
is_unreadable-item (Dump name) = refl
is_unreadable-item (Count name) = refl
