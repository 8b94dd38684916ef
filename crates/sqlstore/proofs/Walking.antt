-- A walk through all parts meets each of them.
use Rattle.std.proofs.Common.{◌≡◌, ◌<◌, ◌==◌, ◌-◌, ℕ, zero, suc, Bool, true, false, cond, List, [], ◌∷◌, ◌++◌, length, length-append, Option, Some, None, Ok, Err, IsTrue, MatchBool, refl, sym, ap, ◌∙◌, subst, subst₂, inl, inr, arith, ◌≢◌, Result}
use Rattle.std.specs.List.{AllByRecursion}
use Rattle.std.proofs.lemmas.Bool.{cases_lt}
use Rattle.std.proofs.lemmas.List.{append_assoc}
use Rattle.sqlite.specs.Clock.{timed}
use Rattle.sqlite.specs.Command.{Command}
use Rattle.sqlite.specs.Effect.{Database, IsDatabase}
use Rattle.sqlite.specs.Given.{HasGiven, HasBegun, Advances}
use Rattle.sqlite.specs.Held.{Held, state}
use Rattle.sqlite.specs.Listing.{understood}
use Rattle.sqlite.specs.Order.{Row}
use Rattle.sqlite.specs.Schema.{Schema}
use Rattle.sqlite.specs.State.{State, HasCleanDisk, IsLive, IsUnchanged, KeepsCommit, Shown}
use Rattle.sqlite.specs.Store.{Ghosts}
use Rattle.sqlite.specs.Term.{col}
use Rattle.sqlite.specs.Tree.{rowid}
use Rattle.sqlite.specs.View.{is_int}
use Rattle.sqlite.proofs.Callers.{IsPlain, EndsIn, begun_plain, begins_shown, command_of, given_begin, unchanged_then}
use Rattle.sqlite_resolve.specs.declared.compiled.Compiled.{Compiled}
use Rattle.sqlite_rules.proofs.ListLemmas.{all_has, has_right}
use Rattle.store.specs.Content.{Changes}
use Rattle.terms.specs.declared.leaf.Leaf.{Leaf}
use Rattle.store.specs.declared.fault.StoreFault.{StoreFault}
use Rattle.store.specs.declared.fault.StoreFault.TheVariants.{Memory, Damaged}
use Rattle.std.specs.Result.{IsErr}
use Rattle.sqlstore.specs.Frame.{LooksAt, WalksParts}
use Rattle.sqlstore.specs.Gathered.{ShowsAll}
use Rattle.sqlstore.specs.Rows.{HasSchema}
use Rattle.sqlstore.specs.Listed.{HasCells, part_terms, with_row, with_rows}
use Rattle.sqlstore.specs.Numbered.{AreNumbered, Follows, row_at}
use Rattle.sqlstore.specs.Sound.{IsPart}
use Rattle.sqlstore.specs.Tables.{site_schema}
use Rattle.sqlstore.specs.Walk.{parts_text, AreParts, FollowsLast, IsLast, HasMet, HasWalked}
use Rattle.sqlstore.proofs.Looking.{shows_all}
use Rattle.sqlstore.proofs.Rising.{keyed_by_numbers, less_one, not_first, numbers_by_key}
use Rattle.sqlstore.proofs.Sharing.{keyed_same}
use Rattle.sqlstore.proofs.Showing.{shown_open}
use Rattle.sqlstore.proofs.Texts.{lists, parts_names, parts_is, parts_plain, parts_unlisted}
use Rattle.sqlstore.proofs.Typed.{typed_part}
use Rattle.sqlstore.proofs.Whole.{part_plain, part_whole}

-- ---- rows in the order of their numbers, and one more

early : (met tail : List Row) (at : ℕ) → at < length met → row_at (met ++ tail) at ≡ row_at met at
early [] tail at low = absurd (omega (arith, low))
early (row ∷ met) tail zero low = refl
early (row ∷ met) tail (suc at) low = early met tail at (omega (arith, low))

late : (met : List Row) (row : Row) (tail : List Row) → row_at (met ++ row ∷ tail) (length met) ≡ row
late [] row tail = refl
late (first ∷ met) row tail = late met row tail

-- a row at a place follows the row before it
abbrev IsFine : List Row → ℕ → Bool → Type 0
IsFine rows at first = MatchBool first (is_int (rowid (row_at rows at)) ≡ true) (Follows (row_at rows (at - 1)) (row_at rows at))

fine_early : (met tail : List Row) (at : ℕ) → at < length met → IsFine met at (at == 0) → IsFine (met ++ tail) at (at == 0)
fine_early met tail at low is =
    subst (λ r. MatchBool (at == 0) (is_int (rowid r) ≡ true) (Follows (row_at (met ++ tail) (at - 1)) r)) (sym (early met tail at low))
    (subst (λ r. MatchBool (at == 0) (is_int (rowid (row_at met at)) ≡ true) (Follows r (row_at met at))) (sym (early met tail (at - 1) (omega (arith, low)))) is)

-- the row after the last
module _ (met : List Row) (before row : Row) (tail : List Row) (last : IsLast met (Some before)) where
  front_length : length met ≡ suc (length last.0)
  front_length = ap length last.1 ∙ omega (arith, length-append last.0 (before ∷ []))

  last_is : row_at (met ++ row ∷ tail) (length last.0) ≡ before
  last_is = early met (row ∷ tail) (length last.0) (omega (arith, front_length)) ∙ ap (λ rows. row_at rows (length last.0)) last.1 ∙ late last.0 before []

  next_is : row_at (met ++ row ∷ tail) (suc (length last.0)) ≡ row
  next_is = subst (λ n. row_at (met ++ row ∷ tail) n ≡ row) front_length (late met row tail)

  fine_next : Follows before row → IsFine (met ++ row ∷ tail) (length met) (length met == 0)
  fine_next follows =
      subst (λ n. IsFine (met ++ row ∷ tail) n (n == 0)) (sym front_length)
      (subst (IsFine (met ++ row ∷ tail) (suc (length last.0))) (sym (not_first (length last.0)))
      (subst (λ n. Follows (row_at (met ++ row ∷ tail) n) (row_at (met ++ row ∷ tail) (suc (length last.0)))) (sym (less_one (length last.0))) (subst₂ Follows (sym last_is) (sym next_is) follows)))

  next_fine : IsFine (met ++ row ∷ tail) (length met) (length met == 0) → Follows before row
  next_fine is =
      subst₂ Follows last_is next_is
      (subst (λ n. Follows (row_at (met ++ row ∷ tail) n) (row_at (met ++ row ∷ tail) (suc (length last.0)))) (less_one (length last.0))
      (subst (IsFine (met ++ row ∷ tail) (suc (length last.0))) (not_first (length last.0)) (subst (λ n. IsFine (met ++ row ∷ tail) n (n == 0)) front_length is)))

fine_late : (met : List Row) (before : Option Row) (row : Row) (tail : List Row) → IsLast met before → FollowsLast before row → IsFine (met ++ row ∷ tail) (length met) (length met == 0)
fine_late met None row tail last is = subst (λ m. IsFine (m ++ row ∷ tail) (length m) (length m == 0)) (sym last) is
fine_late met (Some before) row tail last is = fine_next met before row tail last is

follows_last : (met : List Row) (before : Option Row) (row : Row) (tail : List Row) → IsLast met before → IsFine (met ++ row ∷ tail) (length met) (length met == 0) → FollowsLast before row
follows_last met None row tail last is = subst (λ m. IsFine (m ++ row ∷ tail) (length m) (length m == 0)) last is
follows_last met (Some before) row tail last is = next_fine met before row tail last is

numbered_more : (met : List Row) (before : Option Row) (row : Row) → IsLast met before → AreNumbered met → FollowsLast before row → AreNumbered (met ++ row ∷ [])
numbered_more met before row last numbered follows at low =
    elim (cases_lt at (length met)) [
      | inl here ↦ fine_early met (row ∷ []) at here (numbered at here)
      | inr past ↦ let is : length met ≡ at = omega (arith, low, past, length-append met (row ∷ [])) in subst (λ n. IsFine (met ++ row ∷ []) n (n == 0)) is (fine_late met before row [] last follows)
    ]

all_more : (P : Row → Type 0) (met : List Row) (row : Row) → AllByRecursion P met → P row → AllByRecursion P (met ++ row ∷ [])
all_more P [] row all is = (is, tt)
all_more P (first ∷ met) row all is = (all.0, all_more P met row all.1 is)

-- ---- what changes are, as rows are put into them

put_more : (leaves : List Leaf) (met : List Row) (row : Row) (changes : Changes) → with_rows leaves (met ++ row ∷ []) changes ≡ with_row leaves row (with_rows leaves met changes)
put_more leaves [] row changes = refl
put_more leaves (first ∷ met) row changes = put_more leaves met row (with_row leaves first changes)

kept_more : (leaves : List Leaf) (keeps : Bool) (met : List Row) (row : Row) (start old new : Changes) → old ≡ cond keeps (with_rows leaves met start) start → new ≡ cond keeps (with_row leaves row old) old → new ≡ cond keeps (with_rows leaves (met ++ row ∷ []) start) start
kept_more leaves true met row start old new was is = is ∙ ap (with_row leaves row) was ∙ sym (put_more leaves met row start)
kept_more leaves false met row start old new was is = is ∙ was

-- ---- the walk

-- a query of all parts is a query proper, and has no table that is computed
under : (schema : Schema) → schema ≡ site_schema → IsPlain (understood schema parts_text)
under schema own = subst (λ s. IsPlain (understood s parts_text)) (sym own) parts_plain

ends_in : (schema : Schema) → schema ≡ site_schema → (c : Compiled) → understood schema parts_text ≡ Ok c → (db : Database) (params : Row) → EndsIn c.command db params
ends_in schema own c is db params =
    let command : c.command ≡ lists 0 part_terms parts_names = ap command_of (sym is ∙ ap (λ s. understood s parts_text) own) ∙ parts_is in
    subst (λ (k : Command). EndsIn k db params) (sym command) tt

unchanged_self : (s : State) → IsTrue s.is_open → IsUnchanged s s
unchanged_self s is_open = (record { was_open = is_open; is_open = is_open; now_is = refl; committed_is = refl; mode = refl }, record { changes = refl; last_rowid = refl }, refl)

all_parts : (old new : State) → IsDatabase old.now → old.now.schema ≡ site_schema → (rows : List Row) → Shown parts_text [] old new rows → ShowsAll (old.now.trees 0) rows
all_parts old new = shows_all site_schema parts_text 0 (col 1 1 ∷ col 1 2 ∷ col 1 3 ∷ []) parts_names parts_is parts_plain parts_unlisted (λ _. refl) part_whole old new

module _ {S : Type 0} (g : Ghosts S) (leaves : List Leaf) where
  -- the rows that were given so far, and more, are all parts
  given_parts : (conn : Held S) (given : List Row) → HasGiven g parts_text [] conn given → IsTrue (state g conn).is_open → IsDatabase (state g conn).now → (state g conn).now.schema ≡ site_schema
      → (tail : List Row) × ShowsAll ((state g conn).now.trees 0) (given ++ tail)
  given_parts conn given has is_open sound schema =
      let s = state g conn in
      let all =
      begins_shown parts_text [] s s given (given_begin g parts_text [] conn given has) (unchanged_self s is_open) (λ c db it source. ends_in s.now.schema schema c it.is db (timed [] c.formats it.now)) in
      (all.0, all_parts s s sound schema (given ++ all.0) all.1)

  -- how far a walk has come: the database is as it was, and these rows were met and put into changes where they are kept
  pub record IsOnItsWay (old now : Held S) (before : Option Row) (keeps : Bool) (start changes : Changes) : Type 0 where
    pub same : IsUnchanged (state g old) (state g now)
    pub met : List Row
    pub has : HasMet g leaves now before met
    pub put : changes ≡ cond keeps (with_rows leaves met start) start

  pub begins : (old now : Held S) (keeps : Bool) (start : Changes) → (state g old).now.schema ≡ site_schema → HasBegun g parts_text [] old now → IsOnItsWay old now None keeps start start
  begins old now keeps start schema begun =
      let plain = begun_plain g parts_text [] old now (under (state g old).now.schema schema) begun in
      record { same = plain.1; met = []; has = record { given = plain.0; last = refl; numbered = λ at low. absurd (omega (arith, low)); parts = tt }; put = none keeps }
    where
      none : (keeps : Bool) → start ≡ cond keeps start start
      none true = refl
      none false = refl

  pub goes_on : (old mid new : Held S) (before : Option Row) (row : Row) (keeps : Bool) (start was is : Changes) → IsOnItsWay old mid before keeps start was → IsUnchanged (state g mid) (state g new) → Advances g mid new (Some row)
      → FollowsLast before row × IsPart leaves row × (is ≡ cond keeps (with_row leaves row was) was) → IsOnItsWay old new (Some row) keeps start is
  goes_on old mid new before row keeps start was is way same gives fine =
      let has = way.has in
      record {
        same = unchanged_then (state g old) (state g mid) (state g new) way.same same;
        met = way.met ++ row ∷ [];
        has = record {
          given = gives parts_text [] way.met has.given;
          last = (way.met, refl);
          numbered = numbered_more way.met before row has.last has.numbered fine.0;
          parts = all_more (IsPart leaves) way.met row has.parts fine.1;
        };
        put = kept_more leaves keeps way.met row start was is way.put fine.2;
      }

  -- where no row is left, all were met
  pub has_walked : (old mid new : Held S) (before : Option Row) (keeps : Bool) (start changes : Changes) → IsDatabase (state g old).now → (state g old).now.schema ≡ site_schema → IsOnItsWay old mid before keeps start changes
      → Advances g mid new None → HasWalked leaves ((state g old).now.trees 0) keeps start changes
  has_walked old mid new before keeps start changes sound schema way gives =
      let now = way.same.0.now_is in
      let has = way.has in
      let shows : ShowsAll ((state g old).now.trees 0) way.met =
      subst (λ (db : Database). ShowsAll (db.trees 0) way.met) now
      (all_parts (state g mid) (state g new) (subst IsDatabase (sym now) sound) (ap (λ (db : Database). db.schema) now ∙ schema) way.met (gives parts_text [] way.met has.given)) in
      record {
        met = way.met;
        shows = shows;
        parts = record {
          keyed = keyed_same way.met ((state g old).now.trees 0) (record { there = shows.sound; here = shows.all }) (keyed_by_numbers way.met has.numbered);
          parts = λ row there. all_has (IsPart leaves) way.met row has.parts (shows.all row there);
        };
        put = way.put;
      }

  -- each row of parts that are as a store leaves them follows the one before it, and is a part
  pub is_fine : (old mid new : Held S) (before : Option Row) (row : Row) (keeps : Bool) (start changes : Changes) → IsDatabase (state g old).now → (state g old).now.schema ≡ site_schema → AreParts leaves ((state g old).now.trees 0)
      → IsOnItsWay old mid before keeps start changes → IsUnchanged (state g mid) (state g new) → Advances g mid new (Some row) → FollowsLast before row × HasCells row × IsPart leaves row
  is_fine old mid new before row keeps start changes sound schema parts way same gives =
      let whole = unchanged_then (state g old) (state g mid) (state g new) way.same same in
      let now = whole.0.now_is in
      let given = given_parts new (way.met ++ row ∷ []) (gives parts_text [] way.met way.has.given) whole.0.is_open (subst IsDatabase (sym now) sound) (ap (λ (db : Database). db.schema) now ∙ schema) in
      let tail = given.0 in
      let shows : ShowsAll ((state g old).now.trees 0) (way.met ++ row ∷ tail) =
      subst₂ (λ (db : Database) rows. ShowsAll (db.trees 0) rows) now (append_assoc way.met (row ∷ []) tail) given.1 in
      let keyed = keyed_same ((state g old).now.trees 0) (way.met ++ row ∷ tail) (record { there = shows.all; here = shows.sound }) parts.keyed in
      let numbered =
      numbers_by_key (way.met ++ row ∷ tail) keyed shows.rises (λ r there. part_plain (state g old).now sound schema r (shows.sound r there) (keyed.ints r there)) in
      let there = shows.sound row (has_right way.met (row ∷ tail) row (inl refl)) in
      let typed = typed_part (state g old).now sound schema row there in (
        follows_last way.met before row tail way.has.last (numbered (length way.met) (omega (arith, length-append way.met (row ∷ tail)))),
        record { leaf = typed.leaf; key = typed.key; body = typed.body },
        parts.parts row there,
      )

  pub begun_open : (old now : Held S) → HasBegun g parts_text [] old now → IsTrue (state g now).is_open → IsTrue (state g old).is_open
  begun_open old now (inl begun) is_open = begun.1.0.was_open
  begun_open old now (inr made) is_open = shown_open (state g old) (state g now) parts_text [] _ made.1 is_open

  -- what is known of a walk that has come so far
  abbrev pub Goes : Held S → Held S → Option Row → Bool → Changes → Changes → Type 0
  Goes old now before keeps start changes =
      HasCleanDisk (state g now) → HasCleanDisk (state g old) × (IsTrue (state g now).is_open → IsTrue (state g old).is_open) × ((state g old).now.schema ≡ site_schema → IsOnItsWay old now before keeps start changes)

  module _ (old mid new : Held S) (before : Option Row) (keeps : Bool) (start changes : Changes) (settled : IsTrue (state g old).is_open → (state g old).now ≡ (state g old).committed) (goes : Goes old mid before keeps start changes)
      (clean : HasCleanDisk (state g new) → HasCleanDisk (state g mid)) (kept : HasCleanDisk (state g new) → KeepsCommit (state g mid) (state g new)) where
    was_open : HasCleanDisk (state g new) → IsTrue (state g new).is_open → IsTrue (state g old).is_open
    was_open c is_open = (goes (clean c)).1 ((kept c).was_open is_open)

    now_schema : HasCleanDisk (state g new) → IsTrue (state g new).is_open → (state g old).committed.schema ≡ site_schema → (state g old).now.schema ≡ site_schema
    now_schema c is_open schema = ap (λ (db : Database). db.schema) (settled (was_open c is_open)) ∙ schema

    pub way_to : (c : HasCleanDisk (state g new)) (is_open : IsTrue (state g new).is_open) → (state g old).committed.schema ≡ site_schema → IsOnItsWay old mid before keeps start changes
    way_to c is_open schema = (goes (clean c)).2 (now_schema c is_open schema)

    -- a walk that is broken off
    pub broken_off : {A E : Type 0} (P : Database → A → Type 0) (fault : E) → new.in_transaction ≡ false → LooksAt (HasSchema site_schema) P (state g old) (state g new) (Err fault)
    broken_off P fault mode = record {
      outside = record { clean = λ c. (goes (clean c)).0; was_open = was_open; mode = mode };
      same = λ c is_open schema. (kept c).committed is_open ∙ (way_to c is_open schema).same.0.committed_is;
      shows = λ c is_open schema. tt;
    }

    -- so to a caller, where the fault isn't damage of parts that are as they should be
    pub walks_short : {A : Type 0} (P : Database → A → Type 0) (result : Result A StoreFault) → IsErr result → new.in_transaction ≡ false
        → (HasCleanDisk (state g new) → IsTrue (state g new).is_open → HasSchema site_schema (state g old).committed → AreParts leaves ((state g old).committed.trees 0) → result ≢ Err Damaged) → WalksParts leaves P (state g old) (state g new) result
    walks_short P (Ok value) failed mode intact = absurd (let e = failed in cc)
    walks_short P (Err fault) failed mode intact = record { looks = broken_off P fault mode; intact = intact }

    -- and one that has met all parts
    pub finished : {E : Type 0} → new.in_transaction ≡ false → IsLive (state g old) → (HasCleanDisk (state g new) → Advances g mid new None)
        → LooksAt {A = Unit {0}} {E = E} (HasSchema site_schema) (λ db _. HasWalked leaves (db.trees 0) keeps start changes) (state g old) (state g new) (Ok tt)
    finished mode live gives = record {
      outside = record { clean = λ c. (goes (clean c)).0; was_open = was_open; mode = mode };
      same = λ c is_open schema. (kept c).committed is_open ∙ (way_to c is_open schema).same.0.committed_is;
      shows = λ c is_open schema.
          let was = was_open c is_open in
          subst (λ (db : Database). HasWalked leaves (db.trees 0) keeps start changes) (settled was) (has_walked old mid new before keeps start changes (live was).0 (now_schema c is_open schema) (way_to c is_open schema) (gives c));
    }

    -- the row that comes next is as a store leaves it
    pub next_fine_is : (row : Row) → IsLive (state g old) → (c : HasCleanDisk (state g new)) (is_open : IsTrue (state g new).is_open) → (state g old).committed.schema ≡ site_schema → AreParts leaves ((state g old).committed.trees 0)
        → IsUnchanged (state g mid) (state g new) → Advances g mid new (Some row) → FollowsLast before row × HasCells row × IsPart leaves row
    next_fine_is row live c is_open schema parts same gives =
        let was = was_open c is_open in
        is_fine old mid new before row keeps start changes (live was).0 (now_schema c is_open schema) (subst (λ (db : Database). AreParts leaves (db.trees 0)) (sym (settled was)) parts) (way_to c is_open schema) same gives

pub kept_self : (s : State) → KeepsCommit s s
kept_self s = record { was_open = λ is_open. is_open; committed = λ is_open. refl }

-- a walk that has come to the end finds no damage
pub walks_on : {A : Type 0} (leaves : List Leaf) (P : Database → A → Type 0) (old new : State) (value : A) → LooksAt {E = StoreFault} (HasSchema site_schema) P old new (Ok value) → WalksParts leaves P old new (Ok value)
walks_on leaves P old new value looks = record { looks = looks; intact = λ clean is_open schema parts damaged. absurd (let same = damaged in cc) }

-- want of memory is no damage
pub memory_intact : {A : Type 0} → ◌≢◌ {A = Result A StoreFault} (Err Memory) (Err Damaged)
memory_intact damaged = absurd (let same = damaged in cc)

-- a walk on a connection, told of it under another name
pub walks_to : {S A : Type 0} (g : Ghosts S) (leaves : List Leaf) (P : Database → A → Type 0) (old end here : Held S) (result : Result A StoreFault) → end ≡ here → WalksParts leaves P (state g old) (state g end) result → WalksParts leaves P (state g old) (state g here) result
walks_to g leaves P old end here result same walks = subst (λ h. WalksParts leaves P (state g old) (state g h) result) same walks
