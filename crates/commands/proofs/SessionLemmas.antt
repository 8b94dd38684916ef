-- Lemmas on a session.
use Rattle.std.proofs.Common.{◌≡◌, ◌++◌, ◌∷◌, [], Bor, OnOk, ap, ap₂, append-nil, append_assoc, inl, refl, sym, subst, ◌∙◌, ℕ, List, Option, None, Some, Result, Ok, Err}
use Rattle.std.specs.Io.KnownBytes.{Appends}
use Rattle.std.proofs.lemmas.Grind.{flat_map-append}
use Rattle.meaning.specs.Whole.{Relations}
use Rattle.catalog.specs.Catalogue.{Catalogue}
use Rattle.protocol.specs.Desk.{Deed}
use Rattle.desk.specs.Database.{Database, language}
use Rattle.world.specs.declared.event.Entry.{Entry}
use Rattle.world.specs.Commands.{MovesFollow}
use Rattle.desk.specs.CatalogueDatabase.{database, databases}
use Rattle.world.specs.Listed.{IsListed}
use Rattle.world.specs.ListServed.{ListHeardIsSerial}
use Rattle.world.specs.Replies.{Tells}
use Rattle.lines.specs.declared.fault.ProgramFault.{ProgramFault}
use Rattle.databases.specs.declared.catalog_files.ChainFault.{ChainFault}
use Rattle.databases.specs.declared.catalog_files.ChainFault.TheVariants.{Closed, Program, Refused, Unchained}
use Rattle.databases.specs.CatalogFiles.{IsOfOpening}
use Rattle.databases.specs.Client.{GoesOn, IsAnswered, Seen, Standing, standing_of}
use Rattle.databases.specs.ListClient.{GoesOnOver, Happened, IsAnsweredOver, ListStanding, in_force, list_standing_of, unhappened}
use Rattle.databases.specs.Origin.{BeginsOver, BeginsWith, BeginsWithOver, IsBegun, IsBegunOver, Origin}
use Rattle.lines.specs.Reply.{text_of}
use Rattle.commands.specs.Session.{Answer, AnswersEach, Beside, Exchange, HasTalked, IsAsideOf, IsOfSession, IsSessionFrom, IsSessionFromOver, IsTalk, IsTalkOver, ListPiece, PiecesCome, RunsSession, Talks, TellsNumber, aside_text, exchange_in, exchanges_in, list_piece_text, piece_text, said_by_each}
use Rattle.databases.specs.Solo.{said_by}
use Rattle.databases.proofs.ClientLemmas.{still_told, task_told}
use Rattle.databases.proofs.SoloLemmas.{Appends-more, Keeps-same}

-- what a call that succeeded did, and what follows of it
pub on_ok : {T E P Q : Type 0} (result : Result T E) → (P → Q) → OnOk result P → OnOk result Q
on_ok (Ok x) follows h = follows h
on_ok (Err e) follows h = tt

-- some exchanges, and then others
then_others : (catalogue : Catalogue) (first others : List Exchange) (old middle new : Standing catalogue) → AnswersEach catalogue first old middle → AnswersEach catalogue others middle new → AnswersEach catalogue (first ++ others) old new
then_others catalogue [] others old middle new same rest = subst (λ (s : Standing catalogue). AnswersEach catalogue others s new) same rest
then_others catalogue (one ∷ first) others old middle new done rest = (done.0, done.1, then_others catalogue first others done.0 middle new done.2 rest)

-- some pieces, and then others
pieces_then : (db : Database) (whole : Relations) (first others : List ListPiece) (old middle new : ListStanding db) → PiecesCome db whole first old middle → PiecesCome db whole others middle new → PiecesCome db whole (first ++ others) old new
pieces_then db whole [] others old middle new same rest = subst (λ (s : ListStanding db). PiecesCome db whole others s new) same rest
pieces_then db whole (one ∷ first) others old middle new done rest = (done.0, done.1, done.2, pieces_then db whole first others done.0 middle new done.3 rest)

-- nothing is written
pub Appends-none : (known : Option (List ℕ)) → Appends known known []
Appends-none None = tt
Appends-none (Some bytes) = sym (append-nil bytes)

-- nothing is answered and nothing written
pub talks_none : {B : Type 0} (seen : Seen B) (output : Option (List ℕ)) (old : B) → Talks seen output output old old
talks_none seen output old = record {
  clean = λ clean. clean;
  written = [];
  told = Appends-none output;
  stretch = λ catalogue whole past clean h. record { later = past; goes_on = h; pieces = []; answered = refl; lines = refl };
  over = λ db whole happened listed clean h. record { later = happened; goes_on = h; pieces = []; come = refl; lines = refl };
}

-- something besides answers is written; what it tells of a catalogue and its number is told of the one in force
pub talks_aside : {B : Type 0} (seen : Seen B) (before after : Option (List ℕ)) (old : B) (text : List ℕ) → Appends before after text → (beside : IsAsideOf (seen.catalogue old) text) → TellsNumber (seen.catalogue old) beside.0 (seen.version old) → Talks seen before after old old
talks_aside seen before after old text wrote beside numbered = record {
  clean = λ clean. clean;
  written = text;
  told = wrote;
  stretch = λ catalogue whole past clean h.
      let aside = subst (λ (c : Catalogue). IsAsideOf c text) h.catalog beside in
      record { later = past; goes_on = h; pieces = Beside aside.0 ∷ []; answered = refl; lines = aside.1 ∙ sym (append-nil (aside_text catalogue aside.0)) };
  over = λ db whole happened listed clean h.
      let own = seen.catalogue old in
      let standing = list_standing_of seen old happened in
      record {
        later = happened;
        goes_on = h;
        pieces = (own, Beside beside.0) ∷ [];
        come = (standing, sym h.here ∙ ap db.catalogue h.number, (subst (TellsNumber own beside.0) h.number numbered, refl), refl);
        lines = beside.1 ∙ sym (append-nil (aside_text own beside.0));
      };
}

-- an answer is written
pub talks_answer : {B : Type 0} (seen : Seen B) (before after : Option (List ℕ)) (old new : B) (exchange : Exchange) (text : List ℕ) → Appends before after text → text ≡ text_of exchange.told → (seen.is_clean new → seen.is_clean old) →
    ((catalogue : Catalogue) (whole : Relations) (past : List (Deed (language (database catalogue)))) → seen.is_clean new → GoesOn seen catalogue whole past old → IsAnswered seen exchange.mode catalogue whole exchange.task past old new exchange.told) →
    ((db : Database) (whole : Relations) (happened : Happened db) → IsListed db → seen.is_clean new → GoesOnOver seen db whole happened old → IsAnsweredOver seen exchange.mode db whole exchange.task happened old new exchange.told) → Talks seen before after old new
talks_answer seen before after old new exchange text wrote is was_clean answers answers_over = record {
  clean = was_clean;
  written = text;
  told = wrote;
  stretch = λ catalogue whole past clean h.
      let answered = answers catalogue whole past clean h in
      record {
        later = answered.later;
        goes_on = answered.goes_on;
        pieces = Answer exchange ∷ [];
        answered = (standing_of seen catalogue new answered.later, answered.answers, refl);
        lines = is ∙ sym (append-nil (text_of exchange.told));
      };
  over = λ db whole happened listed clean h.
      let answered = answers_over db whole happened listed clean h in
      record {
        later = answered.later;
        goes_on = answered.goes_on;
        pieces = (in_force db (list_standing_of seen old happened), Answer exchange) ∷ [];
        come = (list_standing_of seen new answered.later, refl, answered.answers, refl);
        lines = is ∙ sym (append-nil (text_of exchange.told));
      };
}

-- a stretch, and then another
talk_then : {B : Type 0} (seen : Seen B) (catalogue : Catalogue) (whole : Relations) (past : List (Deed (language (database catalogue)))) (old middle new : B) (first second : List ℕ) → (one : IsTalk seen catalogue whole past old middle first) → IsTalk seen catalogue whole one.later middle new second → IsTalk seen catalogue whole past old new (first ++ second)
talk_then seen catalogue whole past old middle new first second one two = record {
  later = two.later;
  goes_on = two.goes_on;
  pieces = one.pieces ++ two.pieces;
  answered = subst (λ (done : List Exchange). AnswersEach catalogue done (standing_of seen catalogue old past) (standing_of seen catalogue new two.later)) (sym (flat_map-append (exchange_in catalogue) one.pieces two.pieces))
      (then_others catalogue (exchanges_in catalogue one.pieces) (exchanges_in catalogue two.pieces) (standing_of seen catalogue old past) (standing_of seen catalogue middle one.later) (standing_of seen catalogue new two.later) one.answered two.answered);
  lines = ap₂ (λ front back. front ++ back) one.lines two.lines ∙ sym (flat_map-append (piece_text catalogue) one.pieces two.pieces);
}

-- so over a list of catalogues
talk_then_over : {B : Type 0} (seen : Seen B) (db : Database) (whole : Relations) (happened : Happened db) (old middle new : B) (first second : List ℕ) → (one : IsTalkOver seen db whole happened old middle first) → IsTalkOver seen db whole one.later middle new second → IsTalkOver seen db whole happened old new (first ++ second)
talk_then_over seen db whole happened old middle new first second one two = record {
  later = two.later;
  goes_on = two.goes_on;
  pieces = one.pieces ++ two.pieces;
  come = pieces_then db whole one.pieces two.pieces (list_standing_of seen old happened) (list_standing_of seen middle one.later) (list_standing_of seen new two.later) one.come two.come;
  lines = ap₂ (λ front back. front ++ back) one.lines two.lines ∙ sym (flat_map-append list_piece_text one.pieces two.pieces);
}

-- one call, and then another
pub talks_then : {B : Type 0} (seen : Seen B) (first second third : Option (List ℕ)) (old middle new : B) → Talks seen first second old middle → Talks seen second third middle new → Talks seen first third old new
talks_then seen first second third old middle new one two = record {
  clean = λ clean. one.clean (two.clean clean);
  written = one.written ++ two.written;
  told = Appends-more first second third one.written two.written one.told two.told;
  stretch = λ catalogue whole past clean h.
      let done = one.stretch catalogue whole past (two.clean clean) h in
      talk_then seen catalogue whole past old middle new one.written two.written done (two.stretch catalogue whole done.later clean done.goes_on);
  over = λ db whole happened listed clean h.
      let done = one.over db whole happened listed (two.clean clean) h in
      talk_then_over seen db whole happened old middle new one.written two.written done (two.over db whole done.later listed clean done.goes_on);
}

-- what exchanges asked for and heard tells what has happened
each_told : (catalogue : Catalogue) (exchanges : List Exchange) (old new : Standing catalogue) (entries : List Entry) → Tells (database catalogue) entries old.past → (answered : AnswersEach catalogue exchanges old new) →
    Tells (database catalogue) (entries ++ said_by_each catalogue exchanges old new answered) new.past
each_told catalogue [] old new entries so same = still_told catalogue old new entries so (ap (λ (standing : Standing catalogue). standing.past) same)
each_told catalogue (first ∷ others) old new entries so answered =
    let said = said_by first.mode catalogue first.task old answered.0 first.told answered.1 in
    subst (λ es. Tells (database catalogue) es new.past) (append_assoc entries said (said_by_each catalogue others answered.0 new answered.2))
    (each_told catalogue others answered.0 new (entries ++ said) (task_told first.mode catalogue first.task old answered.0 first.told entries so answered.1) answered.2)

-- a talk over a database that was opened over whole relations is a session
pub session_over : {B : Type 0} (seen : Seen B) (catalogue : Catalogue) (origin : Origin) (old new : Option (List ℕ)) (opened ended : B) → IsBegun seen catalogue origin opened → MovesFollow (database catalogue) → (talks : Talks seen old new opened ended) →
    (whole : Relations) → BeginsWith catalogue origin whole → seen.is_clean ended → IsSessionFrom catalogue whole talks.written
session_over seen catalogue origin old new opened ended fresh law talks whole begins clean =
    let begun = fresh.goes_on whole begins (talks.clean clean) in
    let stretch = talks.stretch catalogue whole [] clean begun in
    record {
      opening = standing_of seen catalogue opened [];
      opened = record { served = begun.served; none = refl; idle = fresh.idle };
      end = standing_of seen catalogue ended stretch.later;
      pieces = stretch.pieces;
      answered = stretch.answered;
      lines = stretch.lines;
      served = stretch.goes_on.served;
      stands = stretch.goes_on.stands;
      serial = law.serial whole (seen.machines ended) _ stretch.later (each_told catalogue (exchanges_in catalogue stretch.pieces) (standing_of seen catalogue opened []) (standing_of seen catalogue ended stretch.later) [] (record { phased = refl; stated = tt; heard = refl }) stretch.answered) stretch.goes_on.served;
    }

-- so over a list of catalogues
list_session : {B : Type 0} (seen : Seen B) (first : Catalogue) (rest : List Catalogue) (origin : Origin) (old new : Option (List ℕ)) (opened ended : B) → IsBegunOver seen first rest origin opened → IsListed (databases first rest) → ListHeardIsSerial (databases first rest) → (talks : Talks seen old new opened ended) →
    (whole : Relations) → BeginsWithOver first rest origin whole → seen.is_clean ended → IsSessionFromOver (databases first rest) whole talks.written
list_session seen first rest origin old new opened ended begun listed law talks whole begins clean =
    let fresh = begun.goes_on whole begins (talks.clean clean) in
    let stretch = talks.over (databases first rest) whole unhappened listed clean fresh in
    record {
      opening = list_standing_of seen opened unhappened;
      opened = record { told = fresh.told; none = refl; idle = begun.idle };
      end = list_standing_of seen ended stretch.later;
      pieces = stretch.pieces;
      come = stretch.come;
      lines = stretch.lines;
      told = stretch.goes_on.told;
      serial = law whole (seen.machines ended) stretch.later.entries stretch.later.deeds stretch.goes_on.told.tells stretch.goes_on.told.served;
    }

module _ {B : Type 0} (seen : Seen B) (IsOrigin : Origin → Type 0) where
  -- there was a session over a database of several catalogues that was opened
  pub talked_over : (old new : Option (List ℕ)) (catalogues : List Catalogue) (opened ended : B) → BeginsOver seen IsOrigin catalogues opened → MovesFollow (database (seen.catalogue opened)) →
      ((first : Catalogue) (rest : List Catalogue) → catalogues ≡ first ∷ rest → IsListed (databases first rest)) → ((db : Database) → IsListed db → ListHeardIsSerial db) → Talks seen old new opened ended → HasTalked seen IsOrigin catalogues old new
  talked_over old new catalogues opened ended fresh law listed serial talks = record {
    origin = fresh.origin;
    is_origin = fresh.is_origin;
    opened = opened;
    begun = fresh.last;
    begun_over = fresh.over;
    ended = ended;
    talks = talks;
    held = λ catalogue whole last begins clean.
        let begun = fresh.last catalogue last in
        let is = (begun.goes_on whole begins (talks.clean clean)).catalog in
        session_over seen catalogue fresh.origin old new opened ended begun (subst (λ (own : Catalogue). MovesFollow (database own)) is law) talks whole begins clean;
    held_over = λ first rest whole chain begins clean.
        let of = listed first rest chain in
        list_session seen first rest fresh.origin old new opened ended (fresh.over first rest chain) of (serial (databases first rest) of) talks whole begins clean;
  }

  -- no database was opened
  pub unopened : (file : Bor (List ℕ)) (known : Option (List ℕ)) (catalogues : List Catalogue) (fault : ChainFault) → IsOfOpening catalogues fault → RunsSession seen IsOrigin file known known catalogues (Err fault)
  unopened file known catalogues (Program fault) why = inl (inl why)
  unopened file known catalogues (Refused fault) why = absurd why
  unopened file known catalogues Unchained why = (why, Keeps-same known)
  unopened file known catalogues Closed why = absurd why

  pub told_unopened : (file : Bor (List ℕ)) (known : Option (List ℕ)) (catalogues : List Catalogue) (fault : ChainFault) (result : Result Unit ChainFault) → result ≡ Err fault → IsOfOpening catalogues fault → RunsSession seen IsOrigin file known known catalogues result
  told_unopened file known catalogues fault result told why = rw told (unopened file known catalogues fault why)

  -- the program stops
  pub told_stopped : (file : Bor (List ℕ)) (old new : Option (List ℕ)) (catalogues : List Catalogue) (fault : ProgramFault) (result : Result Unit ChainFault) → result ≡ Err (Program fault) → IsOfSession file fault → RunsSession seen IsOrigin file old new catalogues result
  told_stopped file old new catalogues fault result told why = rw told why
