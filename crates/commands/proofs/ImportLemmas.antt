-- Lemmas on rows that are inserted: what tasks are answered by, one after another.
use Rattle.std.proofs.Common.{◌≡◌, ◌≢◌, ◌==◌, ◌%◌, ◌++◌, ◌∷◌, [], ◌+◌, true, false, arith, ap, get_or, take, ◌<◌, append_assoc, append-nil, is_some, length, map, refl, sym, subst, suc, zero, ◌∙◌, ℕ, List, Option, None, Some, Result, Ok, Err, IfOk, IfSome, OnOk}
use Rattle.std.specs.List.{flat_map, list_any}
use Rattle.std.proofs.lemmas.List.{take_more}
use Rattle.std.proofs.lemmas.Grind.{common_steps}
use Rattle.terms.specs.declared.value.Value.{Value}
use Rattle.meaning.specs.Whole.{Relations}
use Rattle.catalog.specs.Catalogue.{Catalogue}
use Rattle.protocol.specs.Desk.{Deed}
use Rattle.desk.specs.Database.{Database, language}
use Rattle.desk.specs.CatalogueDatabase.{database}
use Rattle.world.specs.Listed.{IsListed}
use Rattle.forms.specs.declared.mode.Mode.TheVariants.{Tabs}
use Rattle.lines.specs.declared.fault.ProgramFault.{ProgramFault}
use Rattle.lines.specs.declared.reply.Reply.{Reply}
use Rattle.databases.specs.Client.{AnswersTask, GoesOn, IsAnswered, Seen, standing_of}
use Rattle.databases.specs.ListClient.{AnswersTaskOver, GoesOnOver, Happened, IsAnsweredOver, list_standing_of}
use Rattle.commands.specs.declared.import.Imported.{Imported}
use Rattle.commands.specs.declared.import.Imported.TheVariants.{All, Until}
use Rattle.commands.specs.Import.{Comes, IsCommitted, IsCutShort, IsImport, RollsBack, StopsAt, before_row, begins, commits, ending, import_of, inserts_from, row_says}
use Rattle.lines.specs.Reply.{Answered, Told, is_refusal, text_of, told_by}
use Rattle.lines.specs.Script.{Reading, Runs}
use Rattle.databases.specs.Solo.{AnswersInTurn, IsStretch}

module _ {S : Type 0} (Answers : Reading → S → S → Told → Type 0) where
  -- some tasks, and then others
  tasks_then : (first others : List (Reading × Told)) (old middle new : S) → AnswersInTurn Answers first old middle → AnswersInTurn Answers others middle new → AnswersInTurn Answers (first ++ others) old new
  tasks_then [] others old middle new same rest = subst (λ (s : S). AnswersInTurn Answers others s new) same rest
  tasks_then (one ∷ first) others old middle new done rest = (done.0, done.1, tasks_then first others done.0 middle new done.2 rest)

-- no task has come to anything
pub comes_none : {B : Type 0} (seen : Seen B) (old : B) → Comes seen [] old old
comes_none seen old = record {
  clean = λ clean. clean;
  come = λ catalogue whole past clean h. record { later = past; goes_on = h; answered = refl };
  over = λ db whole happened listed clean h. record { later = happened; goes_on = h; answered = refl };
}

pub comes_then : {B : Type 0} (seen : Seen B) (first others : List (Reading × Told)) (old middle new : B) → Comes seen first old middle → Comes seen others middle new → Comes seen (first ++ others) old new
comes_then seen first others old middle new one two = record {
  clean = λ clean. one.clean (two.clean clean);
  come = λ catalogue whole past clean h.
      let done = one.come catalogue whole past (two.clean clean) h in
      let rest = two.come catalogue whole done.later clean done.goes_on in
      record {
        later = rest.later;
        goes_on = rest.goes_on;
        answered = tasks_then (AnswersTask Tabs catalogue) first others (standing_of seen catalogue old past) (standing_of seen catalogue middle done.later) (standing_of seen catalogue new rest.later) done.answered rest.answered;
      };
  over = λ db whole happened listed clean h.
      let done = one.over db whole happened listed (two.clean clean) h in
      let rest = two.over db whole done.later listed clean done.goes_on in
      record {
        later = rest.later;
        goes_on = rest.goes_on;
        answered = tasks_then (AnswersTaskOver Tabs db whole) first others (list_standing_of seen old happened) (list_standing_of seen middle done.later) (list_standing_of seen new rest.later) done.answered rest.answered;
      };
}

-- a task that is answered by this reply
pub comes_so : {B : Type 0} (seen : Seen B) (task : Reading) (old new : B) (told : Told) → (seen.is_clean new → seen.is_clean old) →
    ((catalogue : Catalogue) (whole : Relations) (past : List (Deed (language (database catalogue)))) → seen.is_clean new → GoesOn seen catalogue whole past old → IsAnswered seen Tabs catalogue whole task past old new told) →
    ((db : Database) (whole : Relations) (happened : Happened db) → IsListed db → seen.is_clean new → GoesOnOver seen db whole happened old → IsAnsweredOver seen Tabs db whole task happened old new told) → Comes seen ((task, told) ∷ []) old new
comes_so seen task old new told was_clean answers over = record {
  clean = was_clean;
  come = λ catalogue whole past clean h.
      let so = answers catalogue whole past clean h in
      record { later = so.later; goes_on = so.goes_on; answered = (standing_of seen catalogue new so.later, so.answers, refl) };
  over = λ db whole happened listed clean h.
      let so = over db whole happened listed clean h in
      record { later = so.later; goes_on = so.goes_on; answered = (list_standing_of seen new so.later, so.answers, refl) };
}

-- so by the answer that is wanted
pub comes_once : {B : Type 0} (seen : Seen B) (task : Reading) (told : List ℕ) (old new : B) (reply : Reply) → (seen.is_clean new → seen.is_clean old) →
    ((catalogue : Catalogue) (whole : Relations) (past : List (Deed (language (database catalogue)))) → seen.is_clean new → GoesOn seen catalogue whole past old → IsAnswered seen Tabs catalogue whole task past old new (told_by reply)) →
    ((db : Database) (whole : Relations) (happened : Happened db) → IsListed db → seen.is_clean new → GoesOnOver seen db whole happened old → IsAnsweredOver seen Tabs db whole task happened old new (told_by reply)) → told_by reply ≡ Answered told → Comes seen ((task, Answered told) ∷ []) old new
comes_once seen task told old new reply was_clean answers over wanted = subst (λ (told : Told). Comes seen ((task, told) ∷ []) old new) wanted (comes_so seen task old new (told_by reply) was_clean answers over)

-- the rows up to a place, and that one
inserts_snoc : (many : ℕ) (name : List ℕ) (number : ℕ) (rows : List (List Value)) (row : List Value) → inserts_from many name number (rows ++ row ∷ []) ≡ inserts_from many name number rows ++ row_says many name (number + length rows) row
inserts_snoc many name number [] row =
    let at : number ≡ number + length {A = List Value} [] = omega arith in
    append-nil (row_says many name number row) ∙ ap (λ n. row_says many name n row) at
inserts_snoc many name number (first ∷ rows) row =
    let at : number + 1 + length rows ≡ number + length (first ∷ rows) = omega arith in
    ap (λ rest. row_says many name number first ++ rest) (inserts_snoc many name (number + 1) rows row ∙ ap (λ n. inserts_from many name (number + 1) rows ++ row_says many name n row) at)
    ∙ sym (append_assoc (row_says many name number first) (inserts_from many name (number + 1) rows) (row_says many name (number + length (first ∷ rows)) row))

taken : (rows : List (List Value)) (number : ℕ) → number < length rows → 0 + length (take number rows) ≡ number
taken rows number within = grind (arith, common_steps)

pub inserts_next : (many : ℕ) (name : List ℕ) (rows : List (List Value)) (number : ℕ) (row : List Value) → number < length rows → row ≡ get_or rows number row → inserts_from many name 0 (take number rows) ++ row_says many name number row ≡ inserts_from many name 0 (take (number + 1) rows)
inserts_next many name rows number row within is =
    let earlier = inserts_from many name 0 (take number rows) in
    ap (λ r. earlier ++ row_says many name number r) is ∙ sym (rw (take_more rows number row within) (inserts_snoc many name 0 (take number rows) (get_or rows number row) ∙ ap (λ n. earlier ++ row_says many name n (get_or rows number row)) (taken rows number within)))

-- tasks that have come to their answers are a stretch of a run
pub comes_ran : {B : Type 0} (seen : Seen B) (answers : List (Reading × Told)) (old new : B) → Comes seen answers old new → (catalogue : Catalogue) (whole : Relations) (past : List (Deed (language (database catalogue)))) → seen.is_clean new → GoesOn seen catalogue whole past old →
    IsStretch seen Tabs catalogue whole (map (λ (one : Reading × Told). one.0) answers) past old new (flat_map (λ (one : Reading × Told). text_of one.1) answers) (list_any (λ (one : Reading × Told). is_refusal one.1) answers)
comes_ran seen answers old new comes catalogue whole past clean h =
    let come = comes.come catalogue whole past clean h in
    record { later = come.later; goes_on = come.goes_on; work = record { answers = answers; in_order = refl; answered = come.answered; lines = refl; refused = refl } }

-- what comes before a row
pub before_none : (many number : ℕ) → (number % many == 0) ≡ false → [] ≡ before_row many number
before_none many number other = rw (other) refl

pub before_some : (many number : ℕ) → (number % many == 0) ≡ true → ending number ++ begins ∷ [] ≡ before_row many number
before_some many number first = rw (first) refl

-- what ends the transaction before it
pub ending_none : (number : ℕ) → (number == 0) ≡ true → [] ≡ ending number
ending_none number none = rw (none) refl

pub ending_some : (number : ℕ) → (number == 0) ≡ false → commits ∷ [] ≡ ending number
ending_some number some = rw (some) refl

-- one command is answered otherwise than is wanted
pub stops_once : {B : Type 0} (seen : Seen B) (command wanted : List ℕ) (old new : B) (told : Told) → Comes seen ((Runs command, told) ∷ []) old new → told ≢ Answered wanted → StopsAt seen [] ((Runs command, Answered wanted) ∷ []) old new told
stops_once seen command wanted old new told come other = record { command = command; differs = record { answer = wanted; rest = []; place = refl; other = other }; come = come }

-- so it is where more was wanted behind it
pub stops_before : {B : Type 0} (seen : Seen B) (made first others : List (Reading × Told)) (old new : B) (told : Told) → StopsAt seen made first old new told → StopsAt seen made (first ++ others) old new told
stops_before seen made first others old new told stops =
    let differs = stops.differs in
    record {
      command = stops.command;
      differs = record {
        answer = differs.answer;
        rest = differs.rest ++ others;
        place = ap (λ (all : List (Reading × Told)). all ++ others) differs.place ∙ append_assoc made ((Runs stops.command, Answered differs.answer) ∷ differs.rest) others;
        other = differs.other;
      };
      come = stops.come;
    }

-- and where something came before it
pub stops_behind : {B : Type 0} (seen : Seen B) (first made others : List (Reading × Told)) (old middle new : B) (told : Told) → Comes seen first old middle → StopsAt seen made others middle new told → StopsAt seen (first ++ made) (first ++ others) old new told
stops_behind seen first made others old middle new told came stops =
    let last : List (Reading × Told) = (Runs stops.command, told) ∷ [] in
    let differs = stops.differs in
    record {
      command = stops.command;
      differs = record {
        answer = differs.answer;
        rest = differs.rest;
        place = ap (λ (all : List (Reading × Told)). first ++ all) differs.place ∙ sym (append_assoc first made ((Runs stops.command, Answered differs.answer) ∷ differs.rest));
        other = differs.other;
      };
      come = subst (λ (tasks : List (Reading × Told)). Comes seen tasks old new) (sym (append_assoc first made last)) (comes_then seen first (made ++ last) old middle new came stops.come);
    }

-- what is wanted of all rows: of those up to a place, of the one there, and of the others
inserts_at : (many : ℕ) (name : List ℕ) (from : ℕ) (rows : List (List Value)) (number : ℕ) (row : List Value) → number < length rows → row ≡ get_or rows number row → (others : List (Reading × Told)) × (inserts_from many name from rows ≡ inserts_from many name from (take number rows) ++ (row_says many name (from + number) row ++ others))
inserts_at many name from [] number row within is = absurd (omega arith)
inserts_at many name from (first ∷ rows) zero row within is =
    let others = inserts_from many name (from + 1) rows in
    let at : from ≡ from + zero = omega arith in
    (others, ap (λ (r : List Value). row_says many name from r ++ others) (sym is) ∙ ap (λ (n : ℕ). row_says many name n row ++ others) at)
inserts_at many name from (first ∷ rows) (suc number) row within is =
    let rest = inserts_at many name (from + 1) rows number row (omega arith) is in
    let says = row_says many name from first in
    let at : from + 1 + number ≡ from + suc number = omega arith in (
      rest.0,
      ap (λ (all : List (Reading × Told)). says ++ all) (rest.1 ∙ ap (λ (n : ℕ). inserts_from many name (from + 1) (take number rows) ++ (row_says many name n row ++ rest.0)) at)
          ∙ sym (append_assoc says (inserts_from many name (from + 1) (take number rows)) (row_says many name (from + suc number) row ++ rest.0)),
    )

-- an import that stops at a row's own tasks
pub stops_at_row : {B : Type 0} (seen : Seen B) (many : ℕ) (name : List ℕ) (rows : List (List Value)) (number : ℕ) (row : List Value) (made : List (Reading × Told)) (old middle new : B) (told : Told) → number < length rows → row ≡ get_or rows number row →
    Comes seen (inserts_from many name 0 (take number rows)) old middle → StopsAt seen made (row_says many name number row) middle new told → StopsAt seen (inserts_from many name 0 (take number rows) ++ made) (import_of many name rows) old new told
stops_at_row seen many name rows number row made old middle new told within is came stops =
    let earlier = inserts_from many name 0 (take number rows) in
    let last = ending (length rows) in
    let split = inserts_at many name 0 rows number row within is in
    let at : 0 + number ≡ number = omega arith in
    let others = split.0 ++ last in
    let all : inserts_from many name 0 rows ++ last ≡ earlier ++ (row_says many name number row ++ others) =
    ap (λ (some : List (Reading × Told)). some ++ last) (split.1 ∙ ap (λ (n : ℕ). earlier ++ (row_says many name n row ++ split.0)) at)
    ∙ append_assoc earlier (row_says many name number row ++ split.0) last
    ∙ ap (λ (some : List (Reading × Told)). earlier ++ some) (append_assoc (row_says many name number row) split.0 last) in
    subst (λ (tasks : List (Reading × Told)). StopsAt seen (earlier ++ made) tasks old new told) (sym all)
    (stops_behind seen earlier made (row_says many name number row ++ others) old middle new told came (stops_before seen made (row_says many name number row) others middle new told stops))

-- what is known of a reply is known of it, where there is one
pub on_reply : {T E : Type 0} {P Q : T → Type 0} (result : Result (Option T) E) → ((x : T) → P x → Q x) → IfOk result (λ told. IfSome told P) → IfOk result (λ told. IfSome told Q)
on_reply (Ok (Some x)) follows h = follows x h
on_reply (Ok None) follows h = tt
on_reply (Err e) follows h = tt

abbrev is_ok : {T E : Type 0} → Result T E → Type 0
is_ok (Ok x) = Unit
is_ok (Err e) = ⊥

err_not_ok : {T E : Type 0} (e : E) (x : T) → Err e ≡ Ok x → ⊥
err_not_ok e x same = subst is_ok (sym same) tt

-- what a reply tells in place of which an import ended, and how many rows are committed then
abbrev told_of : Result Imported ProgramFault → Told
told_of (Ok (Until row committed reply)) = told_by reply
told_of (Ok All) = Answered []
told_of (Err fault) = Answered []

abbrev count_of : Result Imported ProgramFault → ℕ
count_of (Ok (Until row committed reply)) = committed
count_of (Ok All) = 0
count_of (Err fault) = 0

-- where what is wanted stops, and what is open is rolled back, the import is cut short there
pub cut_short : {B : Type 0} (seen : Seen B) (many : ℕ) (name : List ℕ) (rows : List (List Value)) (made : List (Reading × Told)) (old middle new : B) (result : Result Imported ProgramFault) (row count at so_far : ℕ) (reply given : Reply) → result ≡ Ok (Until row count reply) → IfOk result (λ made. made ≡ Until at so_far given) →
    StopsAt seen made (import_of many name rows) old middle (told_by given) → IsCommitted many name rows so_far made → OnOk result (RollsBack seen middle new) → IsCutShort seen many name rows old new count (told_by reply)
cut_short seen many name rows made old middle new (Ok imported) row count at so_far reply given is imported_so stops committed rest =
    let same_reply : told_by given ≡ told_by reply = sym (ap (λ (m : Imported). told_of (Ok m)) imported_so) ∙ ap told_of is in
    let same_count : so_far ≡ count = sym (ap (λ (m : Imported). count_of (Ok m)) imported_so) ∙ ap count_of is in
    subst (λ (n : ℕ). IsCutShort seen many name rows old new n (told_by reply)) same_count (subst (IsCutShort seen many name rows old new so_far) same_reply (record { made = made; middle = middle; stops = stops; committed = committed; ends = rest }))
cut_short seen many name rows made old middle new (Err fault) row count at so_far reply given is imported_so stops committed rest = absurd (err_not_ok fault (Until row count reply) is)

-- what came of an import that was cut short
pub cut_comes : {B : Type 0} (seen : Seen B) (many : ℕ) (name : List ℕ) (rows : List (List Value)) (old new : B) (count : ℕ) (reply : Told) → IsCutShort seen many name rows old new count reply → (answers : List (Reading × Told)) × IsImport true many name rows answers count × Comes seen answers old new
cut_comes seen many name rows old new count reply cut =
    let last : List (Reading × Told) = (Runs cut.stops.command, reply) ∷ [] in
    let answers = cut.made ++ ((Runs cut.stops.command, reply) ∷ cut.ends.0) in (
      answers,
      record { made = cut.made; command = cut.stops.command; reply = reply; differs = cut.stops.differs; committed = cut.committed; is_open = is_some (seen.current cut.middle); last = cut.ends.0; ends = cut.ends.1; all = refl },
      subst (λ (tasks : List (Reading × Told)). Comes seen tasks old new) (append_assoc cut.made last cut.ends.0) (comes_then seen (cut.made ++ last) cut.ends.0 old cut.middle new cut.stops.come cut.ends.2),
    )
