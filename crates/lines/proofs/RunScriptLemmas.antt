-- Lemmas on a script of many sessions.
use Rattle.std.proofs.Common.{◌≡◌, ℕ, suc, ◌+◌, ◌<◌, ◌++◌, ◌||◌, Bool, true, false, not, if◌then◌else◌, List, [], ◌∷◌, length, map, filter, take, drop, drop-cons, get_or, Option, Some, None, Bor, sym, ap, ap₂, subst, refl, ◌∙◌, append-nil, arith, bytes_eq}
use Rattle.std.specs.Global.{Vec}
use Rattle.std.specs.List.{AllByRecursion, IsDistinct, enumerate_from, list_any, position_from, slice_get}
use Rattle.std.specs.Str.{IsUtf8, is_utf8}
use Rattle.std.proofs.lemmas.Str.{is_utf8-from_IsUtf8}
use Rattle.std.specs.Map.{lookup, set_value}
use Rattle.std.proofs.lemmas.Bool.{or_parts}
use Rattle.std.proofs.lemmas.Cmp.{nat_list_eq_equiv}
use Rattle.std.proofs.lemmas.List.Elements.{filter-append}
use Rattle.std.proofs.lemmas.Map.Keys.{IsDistinct-cons, IsDistinct-head, IsDistinct-tail}
use Rattle.std.proofs.lemmas.Slice.Eq.{bytes_eq-Decides}
use Rattle.indexmap.specs.IndexMap.{insert_entry}
use Rattle.std.proofs.lemmas.Grind.{flat_map-append}
use Rattle.std.proofs.lemmas.List.{take-append-drop, length-map, map-append}
use Rattle.std.proofs.lemmas.List.FromFn.{get_or-enumerate_from, length-enumerate_from}
use Rattle.std.specs.Option.{option_map_or}
use Rattle.lines.specs.RunScript.{Given, Reading, SessionPart, Unreadable, commands_of, first_malformed, given_by, given_in, is_unreadable, once, reading_by_first, reading_of, session_in, session_of, sessions_given, sessions_of}
use Rattle.lines.proofs.ScriptLemmas.{is_utf8-false, numbered, texts, texts-so_far}

abbrev Entry : Type 0
Entry = Bor (List ℕ) × Vec (Bor (List ℕ))

-- ---- names, each once

-- whether a name differs from one that is another
pub apart_flips : (one other : List ℕ) → bytes_eq one other ≡ false → bytes_eq other one ≡ false
apart_flips one other e = nat_list_eq_equiv.symm other one ∙ e

-- what a filter by one name leaves of another
among_others : (name other : List ℕ) (names : List (List ℕ)) → bytes_eq name other ≡ false → list_any (bytes_eq name) (filter (λ o. not (bytes_eq other o)) names) ≡ list_any (bytes_eq name) names
among_others name other [] apart = refl
among_others name other (first ∷ names) apart = by (bytes_eq other first) refl (among_others name other names apart)
  where
    by : (same : Bool) → bytes_eq other first ≡ same → list_any (bytes_eq name) (filter (λ o. not (bytes_eq other o)) names) ≡ list_any (bytes_eq name) names → list_any (bytes_eq name) (filter (λ o. not (bytes_eq other o)) (first ∷ names)) ≡ list_any (bytes_eq name) (first ∷ names)
    by true e rest =
        let is : other ≡ first = (bytes_eq-Decides other first).0 e in
        let missing : bytes_eq name first ≡ false = subst (λ t. bytes_eq name t ≡ false) is apart in
        rw (e, missing) rest
    by false e rest = rw e (ap (λ more. bytes_eq name first || more) rest)

-- a name stands among them, each once, where it stands among them
among_once : (name : List ℕ) (names : List (List ℕ)) → list_any (bytes_eq name) (once names) ≡ list_any (bytes_eq name) names
among_once name [] = refl
among_once name (first ∷ names) = by (bytes_eq name first) refl (among_once name names)
  where
    by : (same : Bool) → bytes_eq name first ≡ same → list_any (bytes_eq name) (once names) ≡ list_any (bytes_eq name) names → list_any (bytes_eq name) (once (first ∷ names)) ≡ list_any (bytes_eq name) (first ∷ names)
    by true e rest = rw e refl
    by false e rest = rw e (among_others name first (once names) e ∙ rest)

-- names that differ from one, and that differ from each other
apart_from : (name : List ℕ) (names : List (List ℕ)) → AllByRecursion (λ other. bytes_eq name other ≡ false) (filter (λ other. not (bytes_eq name other)) names)
apart_from name [] = tt
apart_from name (first ∷ names) = by (bytes_eq name first) refl (apart_from name names)
  where
    by : (same : Bool) → bytes_eq name first ≡ same → AllByRecursion (λ other. bytes_eq name other ≡ false) (filter (λ other. not (bytes_eq name other)) names) → AllByRecursion (λ other. bytes_eq name other ≡ false) (filter (λ other. not (bytes_eq name other)) (first ∷ names))
    by true e rest = rw e rest
    by false e rest = rw e (e, rest)

all_filter : (P : List ℕ → Type 0) (test : List ℕ → Bool) (names : List (List ℕ)) → AllByRecursion P names → AllByRecursion P (filter test names)
all_filter P test [] h = tt
all_filter P test (first ∷ names) h = by (test first) refl (all_filter P test names h.1)
  where
    by : (passes : Bool) → test first ≡ passes → AllByRecursion P (filter test names) → AllByRecursion P (filter test (first ∷ names))
    by true e rest = rw e (h.0, rest)
    by false e rest = rw e rest

distinct_filter : (test : List ℕ → Bool) (names : List (List ℕ)) → IsDistinct bytes_eq names → IsDistinct bytes_eq (filter test names)
distinct_filter test [] h = h
distinct_filter test (first ∷ names) h = by (test first) refl (distinct_filter test names (IsDistinct-tail bytes_eq first names h))
  where
    by : (passes : Bool) → test first ≡ passes → IsDistinct bytes_eq (filter test names) → IsDistinct bytes_eq (filter test (first ∷ names))
    by true e rest = rw e (IsDistinct-cons bytes_eq first (filter test names) (all_filter (λ other. bytes_eq first other ≡ false) test names (IsDistinct-head bytes_eq first names h)) rest)
    by false e rest = rw e rest

-- each name stands there once
pub once-distinct : (names : List (List ℕ)) → IsDistinct bytes_eq (once names)
unfolding IsDistinct
once-distinct [] = tt
once-distinct (first ∷ names) = IsDistinct-cons bytes_eq first (filter (λ other. not (bytes_eq first other)) (once names)) (apart_from first (once names)) (distinct_filter (λ other. not (bytes_eq first other)) (once names) (once-distinct names))

-- one more name
pub once-more : (names : List (List ℕ)) (name : List ℕ) → once (names ++ name ∷ []) ≡ (if list_any (bytes_eq name) names then once names else once names ++ name ∷ [])
once-more [] name = refl
once-more (first ∷ names) name = by (bytes_eq name first) (list_any (bytes_eq name) names) refl refl (once-more names name)
  where
    others : List (List ℕ) → List (List ℕ)
    others = filter (λ other. not (bytes_eq first other))

    alone : (name : List ℕ) (same : Bool) → bytes_eq first name ≡ same → others (name ∷ []) ≡ (if same then [] else name ∷ [])
    alone name true e = rw e refl
    alone name false e = rw e refl

    by : (same there : Bool) → bytes_eq name first ≡ same → list_any (bytes_eq name) names ≡ there → once (names ++ name ∷ []) ≡ (if list_any (bytes_eq name) names then once names else once names ++ name ∷ []) → once ((first ∷ names) ++ name ∷ []) ≡ (if list_any (bytes_eq name) (first ∷ names) then once (first ∷ names) else once (first ∷ names) ++ name ∷ [])
    by true true e t rest = rw (rest, e, t) refl
    by false true e t rest = rw (rest, e, t) refl
    by true false e t rest = rw (rest, e, t) (ap (λ more. first ∷ more) (filter-append _ (once names) (name ∷ []) ∙ ap (λ more. others (once names) ++ more) (alone name true (nat_list_eq_equiv.symm first name ∙ e)) ∙ append-nil _))
    by false false e t rest = rw (rest, e, t) (ap (λ more. first ∷ more) (filter-append _ (once names) (name ∷ []) ∙ ap (λ more. others (once names) ++ more) (alone name false (apart_flips name first e))))

-- ---- the commands of a session

commands_of-more : (given : List Given) (session command name : List ℕ) → commands_of (given ++ (session, command) ∷ []) name ≡ commands_of given name ++ (if bytes_eq name session then command ∷ [] else [])
commands_of-more [] session command name = by (bytes_eq name session) refl
  where
    by : (same : Bool) → bytes_eq name session ≡ same → commands_of ((session, command) ∷ []) name ≡ (if bytes_eq name session then command ∷ [] else [])
    by true e = rw e refl
    by false e = rw e refl
commands_of-more (first ∷ given) session command name = by (bytes_eq name first.0) refl (commands_of-more given session command name)
  where
    more : List (List ℕ)
    more = if bytes_eq name session then command ∷ [] else []

    by : (same : Bool) → bytes_eq name first.0 ≡ same → commands_of (given ++ (session, command) ∷ []) name ≡ commands_of given name ++ more → commands_of (first ∷ given ++ (session, command) ∷ []) name ≡ commands_of (first ∷ given) name ++ more
    by true e rest = rw e (ap (λ commands. first.1 ∷ commands) rest)
    by false e rest = rw e rest

-- a session that nothing is given to
commands_of-none : (given : List Given) (name : List ℕ) → list_any (bytes_eq name) (map (λ g. g.0) given) ≡ false → commands_of given name ≡ []
commands_of-none [] name missing = refl
commands_of-none (first ∷ given) name missing =
    let parts = or_parts (bytes_eq name first.0) (list_any (bytes_eq name) (map (λ g. g.0) given)) missing in
    rw parts.0 (commands_of-none given name parts.1)

-- ---- one more command

-- sessions after one more command: behind those of its session, or of a new one
abbrev pub with_command : List SessionPart → List ℕ → List ℕ → List SessionPart
with_command [] session command = (record { session = session; commands = command ∷ [] }) ∷ []
with_command (part ∷ parts) session command =
    if bytes_eq session part.session then (record { session = part.session; commands = part.commands ++ command ∷ [] }) ∷ parts else part ∷ with_command parts session command

-- what a session is given by one more command
session_of-other : (given : List Given) (session command name : List ℕ) → bytes_eq name session ≡ false → session_of (given ++ (session, command) ∷ []) name ≡ session_of given name
session_of-other given session command name e =
    ap (λ commands. record { session = name; commands = commands }) (commands_of-more given session command name ∙ ap (λ same. commands_of given name ++ (if same then command ∷ [] else [])) e ∙ append-nil _)

session_of-own : (given : List Given) (session command name : List ℕ) → bytes_eq name session ≡ true → session_of (given ++ (session, command) ∷ []) name ≡ record { session = name; commands = commands_of given name ++ command ∷ [] }
session_of-own given session command name e =
    ap (λ commands. record { session = name; commands = commands }) (commands_of-more given session command name ∙ ap (λ same. commands_of given name ++ (if same then command ∷ [] else [])) e)

sessions_of-others : (given : List Given) (session command : List ℕ) (names : List (List ℕ)) → AllByRecursion (λ name. bytes_eq session name ≡ false) names → map (session_of (given ++ (session, command) ∷ [])) names ≡ map (session_of given) names
sessions_of-others given session command [] h = refl
sessions_of-others given session command (first ∷ names) h =
    ap₂ (λ part parts. part ∷ parts) (session_of-other given session command first (apart_flips session first h.0)) (sessions_of-others given session command names h.1)

with_command-names : (given : List Given) (session command : List ℕ) (names : List (List ℕ)) → IsDistinct bytes_eq names → (list_any (bytes_eq session) names ≡ false → commands_of given session ≡ []) →
    with_command (map (session_of given) names) session command ≡ map (session_of (given ++ (session, command) ∷ [])) (if list_any (bytes_eq session) names then names else names ++ session ∷ [])
with_command-names given session command [] distinct none =
    let own = session_of-own given session command session (nat_list_eq_equiv.refl session) in
    ap (λ part. part ∷ []) (ap (λ commands. record { session = session; commands = commands ++ command ∷ [] }) (sym (none refl)) ∙ sym own)
with_command-names given session command (first ∷ names) distinct none =
    by (bytes_eq session first) (list_any (bytes_eq session) names) refl refl (λ e. with_command-names given session command names (IsDistinct-tail bytes_eq first names distinct) (λ missing. none (rw (e, missing) refl)))
  where
    before : List ℕ → SessionPart
    before = session_of given

    later : List ℕ → SessionPart
    later = session_of (given ++ (session, command) ∷ [])

    by : (same there : Bool) → bytes_eq session first ≡ same → list_any (bytes_eq session) names ≡ there →
        (bytes_eq session first ≡ false → with_command (map before names) session command ≡ map later (if list_any (bytes_eq session) names then names else names ++ session ∷ [])) →
        with_command (map before (first ∷ names)) session command ≡ map later (if list_any (bytes_eq session) (first ∷ names) then first ∷ names else (first ∷ names) ++ session ∷ [])
    by true there e t rest =
        let is : session ≡ first = (bytes_eq-Decides session first).0 e in
        let apart : AllByRecursion (λ name. bytes_eq session name ≡ false) names = subst (λ n. AllByRecursion (λ name. bytes_eq n name ≡ false) names) (sym is) (IsDistinct-head bytes_eq first names distinct) in
        let own = session_of-own given session command first (nat_list_eq_equiv.symm first session ∙ e) in
        rw e (ap₂ (λ part parts. part ∷ parts) (sym own) (sym (sessions_of-others given session command names apart)))
    by false true e t rest =
        let others : with_command (map before names) session command ≡ map later names = rest e ∙ ap (λ b. map later (if b then names else names ++ session ∷ [])) t in
        rw (e, t) (ap₂ (λ part parts. part ∷ parts) (sym (session_of-other given session command first (apart_flips session first e))) others)
    by false false e t rest =
        let others : with_command (map before names) session command ≡ map later (names ++ session ∷ []) = rest e ∙ ap (λ b. map later (if b then names else names ++ session ∷ [])) t in
        rw (e, t) (ap₂ (λ part parts. part ∷ parts) (sym (session_of-other given session command first (apart_flips session first e))) others)

pub sessions_given-more : (given : List Given) (session command : List ℕ) → with_command (sessions_given given) session command ≡ sessions_given (given ++ (session, command) ∷ [])
sessions_given-more given session command =
    let names : List (List ℕ) = map (λ g. g.0) given in
    let later : List (List ℕ) → List SessionPart = map (session_of (given ++ (session, command) ∷ [])) in
    let chosen : Bool → List (List ℕ) = λ there. if there then once names else once names ++ session ∷ [] in
    with_command-names given session command (once names) (once-distinct names) (λ missing. commands_of-none given session (sym (among_once session names) ∙ missing))
    ∙ ap (λ there. later (chosen there)) (among_once session names) ∙ ap later (sym (once-more names session)) ∙ ap (λ all. later (once all)) (sym (map-append (λ g. g.0) given ((session, command) ∷ [])))

-- ---- a map of sessions

-- entries where a session has one more command
with_command-entries : (entries : List Entry) (session : Bor (List ℕ)) (command : List ℕ) (commands : Vec (Bor (List ℕ))) → map (λ c. c.now) commands.items ≡ option_map_or (λ had. map (λ c. c.now) had.items) (lookup (λ name. bytes_eq session.now name.now) entries) [] ++ command ∷ [] →
    map session_in (insert_entry (λ one other. bytes_eq one.now other.now) entries session commands) ≡ with_command (map session_in entries) session.now command
with_command-entries [] session command commands h = ap (λ texts. (record { session = session.now; commands = texts }) ∷ []) h
with_command-entries (first ∷ entries) session command commands h = by (bytes_eq session.now first.0.now) refl (with_command-entries entries session command commands)
  where
    by : (same : Bool) → bytes_eq session.now first.0.now ≡ same →
        (map (λ c. c.now) commands.items ≡ option_map_or (λ had. map (λ c. c.now) had.items) (lookup (λ name. bytes_eq session.now name.now) entries) [] ++ command ∷ [] → map session_in (insert_entry (λ one other. bytes_eq one.now other.now) entries session commands) ≡ with_command (map session_in entries) session.now command) →
        map session_in (insert_entry (λ one other. bytes_eq one.now other.now) (first ∷ entries) session commands) ≡ with_command (map session_in (first ∷ entries)) session.now command
    by true e rest =
        let texts : map (λ c. c.now) commands.items ≡ map (λ c. c.now) first.1.items ++ command ∷ [] = rw e at h in
        rw e (ap (λ all. (record { session = first.0.now; commands = all }) ∷ map session_in entries) texts)
    by false e rest = rw e (ap (λ parts. session_in first ∷ parts) (rest (rw e at h)))

-- a session's entry that is there is written in its place
abbrev finds : Bor (List ℕ) → Bor (List ℕ) → Bool
finds session name = bytes_eq session.now name.now

written_there : (entries : List Entry) (session : Bor (List ℕ)) (commands had : Vec (Bor (List ℕ))) → Some had ≡ lookup (finds session) entries → set_value (finds session) entries commands ≡ insert_entry finds entries session commands
written_there [] session commands had h = absurd (cc)
written_there (first ∷ entries) session commands had h = by (finds session first.0) refl (written_there entries session commands had)
  where
    by : (same : Bool) → finds session first.0 ≡ same → (Some had ≡ lookup (finds session) entries → set_value (finds session) entries commands ≡ insert_entry finds entries session commands) → set_value (finds session) (first ∷ entries) commands ≡ insert_entry finds (first ∷ entries) session commands
    by true e rest = rw e refl
    by false e rest = rw e (ap (λ more. first ∷ more) (rest (rw e at h)))

-- the sessions of a map after one more command: behind those that its session had, or of a new session
given_entry : (given : List Given) (entries : List Entry) (session command : Bor (List ℕ)) (commands : Vec (Bor (List ℕ))) (had : Option (Vec (Bor (List ℕ)))) → map session_in entries ≡ sessions_given given → had ≡ lookup (finds session) entries →
    commands.items ≡ option_map_or (λ v. v.items) had [] ++ command ∷ [] → map session_in (insert_entry finds entries session commands) ≡ sessions_given (given ++ (session.now, command.now) ∷ [])
given_entry given entries session command commands had is found pushed =
    let texts : map (λ c. c.now) commands.items ≡ option_map_or (λ v. map (λ c. c.now) v.items) (lookup (finds session) entries) [] ++ command.now ∷ [] =
    ap (map (λ c. c.now)) pushed ∙ map-append (λ c. c.now) (option_map_or (λ v. v.items) had []) (command ∷ [])
    ∙ ap (λ front. front ++ command.now ∷ []) (map_had had ∙ ap (λ o. option_map_or (λ v. map (λ c. c.now) v.items) o []) found) in
    with_command-entries entries session command.now commands texts ∙ ap (λ parts. with_command parts session.now command.now) is ∙ sessions_given-more given session.now command.now
  where
    map_had : (had : Option (Vec (Bor (List ℕ)))) → map (λ c. c.now) (option_map_or (λ v. v.items) had []) ≡ option_map_or (λ v. map (λ c. c.now) v.items) had []
    map_had None = refl
    map_had (Some v) = refl

pub given-behind : (given : List Given) (old new : List Entry) (session command : Bor (List ℕ)) (had commands : Vec (Bor (List ℕ))) → map session_in old ≡ sessions_given given → Some had ≡ lookup (finds session) old → commands.items ≡ had.items ++ command ∷ [] →
    new ≡ set_value (finds session) old commands → map session_in new ≡ sessions_given (given ++ (session.now, command.now) ∷ [])
given-behind given old new session command had commands is found pushed writes =
    ap (map session_in) (writes ∙ written_there old session commands had found) ∙ given_entry given old session command commands (Some had) is found pushed

pub given-begun : (given : List Given) (old kept new : List Entry) (session command : Bor (List ℕ)) (empty commands : Vec (Bor (List ℕ))) → map session_in old ≡ sessions_given given → None ≡ lookup (finds session) old → empty.items ≡ [] → commands.items ≡ empty.items ++ command ∷ [] →
    kept ≡ old → new ≡ insert_entry finds kept session commands → map session_in new ≡ sessions_given (given ++ (session.now, command.now) ∷ [])
given-begun given old kept new session command empty commands is found none pushed same inserts =
    ap (map session_in) (inserts ∙ ap (λ entries. insert_entry finds entries session commands) same) ∙ given_entry given old session command commands None is found (pushed ∙ ap (λ front. front ++ command ∷ []) none)

-- ---- lines

-- a line of bytes that are no text, and a line of text
pub reading_of-bytes : (line : List ℕ) → ¬ (IsUtf8 line) → reading_of line ≡ Unreadable
reading_of-bytes line h = rw (is_utf8-false line (is_utf8 line) refl h) refl

pub reading_of-text : (line : List ℕ) → IsUtf8 line → reading_of line ≡ reading_by_first (slice_get line 0) line
reading_of-text line h = let e = is_utf8-from_IsUtf8 line h in rw e refl

-- whether a line can't be read
abbrev fails : List ℕ → Bool
fails line = is_unreadable (reading_of line)

-- a test and what comes after it
none_more : (stops : Bool) (n : ℕ) (rest more : Option ℕ) → (if stops then Some n else rest) ≡ None → (rest ≡ None → more ≡ None) → (if stops then Some n else more) ≡ None
none_more true n rest more h go = absurd (cc)
none_more false n rest more h go = go h

goes_on : (stops : Bool) (n : ℕ) (rest : Option ℕ) → (if stops then Some n else rest) ≡ None → (stops ≡ false) × (rest ≡ None)
goes_on true n rest h = absurd (cc)
goes_on false n rest h = (refl, h)

none-more : (n : ℕ) (lines : List (List ℕ)) (line : List ℕ) → position_from fails n lines ≡ None → fails line ≡ false → position_from fails n (lines ++ line ∷ []) ≡ None
none-more n [] line h e = rw e refl
none-more n (first ∷ lines) line h e = none_more (fails first) n (position_from fails (n + 1) lines) (position_from fails (n + 1) (lines ++ line ∷ [])) h (λ rest. none-more (n + 1) lines line rest e)

-- the first that fails, behind some that don't
first-behind : (n : ℕ) (past rest : List (List ℕ)) (here : List ℕ) → position_from fails n past ≡ None → fails here ≡ true → position_from fails n (past ++ here ∷ rest) ≡ Some (n + length past)
first-behind n [] rest here none e =
    let same : n ≡ n + 0 = omega arith in
    rw e (ap (λ place. Some place) same)
first-behind n (first ∷ past) rest here none e =
    let parts = goes_on (fails first) n (position_from fails (n + 1) past) none in
    let later : n + 1 + length past ≡ n + suc (length past) = omega arith in
    rw parts.0 (first-behind (n + 1) past rest here parts.1 e ∙ ap (λ place. Some place) later)

-- one more line that can be read
pub first_malformed-more : (lines : List (List ℕ)) (line : List ℕ) (reading : Reading) → first_malformed lines ≡ None → reading ≡ reading_of line → is_unreadable reading ≡ false → first_malformed (lines ++ line ∷ []) ≡ None
first_malformed-more lines line reading h is_read readable = none-more 1 lines line h (ap is_unreadable (sym is_read) ∙ readable)

-- the first line that can't be read
pub first_malformed-at : (lines : List (List ℕ)) (yielded : List (ℕ × Bor (List ℕ))) (index : ℕ) (line : List ℕ) → numbered yielded ≡ take (length yielded) (enumerate_from 0 lines) → length yielded < length (enumerate_from 0 lines) → (index, line) ≡ get_or (enumerate_from 0 lines) (length yielded) (index, line) →
    first_malformed (texts yielded) ≡ None → is_unreadable (reading_of line) ≡ true → first_malformed lines ≡ Some (index + 1)
first_malformed-at lines yielded index line so_far within is_here readable unreadable =
    let inside : length yielded < length lines = rw (length-enumerate_from 0 lines) at within in
    let here : (index, line) ≡ (0 + length yielded, get_or lines (length yielded) line) = is_here ∙ get_or-enumerate_from 0 lines (length yielded) (index, line) inside in
    let rest : List (List ℕ) = drop (suc (length yielded)) lines in
    let split : lines ≡ texts yielded ++ line ∷ rest =
    sym (take-append-drop (length yielded) lines)
    ∙ ap₂ (λ front back. front ++ back) (sym (texts-so_far lines yielded (length yielded) so_far)) (drop-cons lines (length yielded) line inside ∙ ap (λ it. it ∷ rest) (sym (ap (λ (p : ℕ × List ℕ). p.1) here))) in
    ap first_malformed split ∙ first-behind 1 (texts yielded) rest line readable unreadable ∙ ap (λ place. Some place) (counted index (length (texts yielded)) (length yielded) (ap (λ (p : ℕ × List ℕ). p.0) here) (length-map yielded (λ p. p.1.now)))
  where
    counted : (index past count : ℕ) → index ≡ 0 + count → past ≡ count → 1 + past ≡ index + 1
    counted index past count is same = omega arith

-- what the lines give, after one more
pub sessions_of-more : (lines : List (List ℕ)) (line : List ℕ) (reading : Reading) (given : List Given) → reading ≡ reading_of line → given_by reading ≡ given → sessions_given (given_in lines ++ given) ≡ sessions_of (lines ++ line ∷ [])
sessions_of-more lines line reading given is_read gives =
    ap sessions_given (ap (λ more. given_in lines ++ more) (sym gives ∙ ap given_by is_read ∙ sym (append-nil _)) ∙ sym (flat_map-append (λ text. given_by (reading_of text)) lines (line ∷ [])))

-- no two sessions have one name
names-sessions_given : (given : List Given) (names : List (List ℕ)) → map (λ part. part.session) (map (session_of given) names) ≡ names
names-sessions_given given [] = refl
names-sessions_given given (first ∷ names) = ap (λ rest. first ∷ rest) (names-sessions_given given names)

pub sessions_of-distinct : (lines : List (List ℕ)) → IsDistinct bytes_eq (map (λ part. part.session) (sessions_of lines))
sessions_of-distinct lines =
    let names : List (List ℕ) = once (map (λ g. g.0) (given_in lines)) in
    subst (IsDistinct bytes_eq) (sym (names-sessions_given (given_in lines) names)) (once-distinct (map (λ g. g.0) (given_in lines)))
