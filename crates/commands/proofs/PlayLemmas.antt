-- Lemmas on playing a script of schedules.
use Rattle.std.proofs.Common.{◌≡◌, ◌≤◌, ◌++◌, ◌∷◌, [], ℕ, List, Option, Some, None, Result, Ok, Err, OnOk, IfErr, IfOk, IfSome, ap, refl, sym, subst, inl, inr, append-nil, append_assoc, length, ◌∙◌}
use Rattle.std.specs.Borrow.{Bor}
use Rattle.std.specs.Io.KnownBytes.{Appends, Keeps}
use Rattle.meaning.specs.Whole.{Relations}
use Rattle.catalog.specs.Catalogue.{Catalogue}
use Rattle.catalog.specs.FragmentLeaf.{schemas_of}
use Rattle.store.specs.declared.fault.StoreFault.{StoreFault}
use Rattle.desk.specs.Database.{Database}
use Rattle.world.specs.declared.world.World.{World}
use Rattle.lines.specs.declared.fault.ProgramFault.{ProgramFault}
use Rattle.lines.specs.declared.fault.ProgramFault.TheVariants.{CannotRead, CannotWrite, Malformed, Memory, ScriptTooLong, Store}
use Rattle.lines.specs.declared.play_items.Placed.{Placed}
use Rattle.lines.specs.declared.play_script.Item.{Item}
use Rattle.lines.specs.declared.play_script.Item.TheVariants as item
use Rattle.databases.specs.declared.catalog_files.ChainFault.{ChainFault}
use Rattle.databases.specs.declared.catalog_files.ChainFault.TheVariants.{Program}
use Rattle.databases.specs.declared.schedule.Schedule.{Schedule}
use Rattle.lines.specs.declared.script.ScriptFault.{ScriptFault}
use Rattle.lines.specs.declared.script.ScriptFault.TheVariants as script
use Rattle.lines.specs.Fault.{fault_of_script}
use Rattle.commands.specs.Play.{EndsOrStops, EndsOrStopsOf, IsSound, Plays, PlaysAll, PlaysItem, PlaysItems, PlaysOver, PlaysScript, StopsItems}
use Rattle.lines.specs.PlayItems.{items_of}
use Rattle.lines.specs.PlayLoad.{IsMalformedAt}
use Rattle.lines.specs.Input.{IsOfOutput}
use Rattle.databases.specs.Schedule.{HasRun, IsCounted, LeavesWorld, SeenWorld, stage_of}
use Rattle.lines.specs.Script.{lines_of}
use Rattle.databases.specs.Shown.{IsShownLeaf, IsShownRelation, ShowsOf}
use Rattle.databases.specs.Solo.{longest}
use Rattle.databases.specs.WorldOpener.{StopsOpening}
use Rattle.databases.proofs.CountedLemmas.{counted_by_all, counted_by_asks, counted_by_number, counted_by_tries}
use Rattle.databases.proofs.SoloLemmas.{Appends-more}

module _ {D S : Type 0} (seen : SeenWorld (World D S)) where
  -- an item, where less is known of what is shown
  Plays-weaker : {P Q : Type 0} (db : Database) (whole : Relations) (one : Item) (before after : Schedule D S) (told : List ℕ) → (Q → P) → Plays seen P db whole one before after told → Plays seen Q db whole one before after told
  Plays-weaker db whole (item.Load text) before after told knows plays = plays
  Plays-weaker db whole (item.Client name asked) before after told knows plays = plays
  Plays-weaker db whole (item.Deliver number kept) before after told knows plays = plays
  Plays-weaker db whole (item.All but) before after told knows plays = plays
  Plays-weaker db whole (item.Site name doing) before after told knows plays = plays
  Plays-weaker db whole item.RestartDesk before after told knows plays = plays
  Plays-weaker db whole (item.Show name) before after told knows plays = (plays.0, λ known. plays.1 (knows known))
  Plays-weaker db whole (item.Leaf name) before after told knows plays = (plays.0, λ known. plays.1 (knows known))
  Plays-weaker db whole item.Committed before after told knows plays = plays

  -- so are items
  pub PlaysAll-weaker : {P Q : Type 0} (db : Database) (whole : Relations) (items : List Placed) (before after : Schedule D S) (told : List ℕ) → (Q → P) → PlaysAll seen P db whole items before after told → PlaysAll seen Q db whole items before after told
  PlaysAll-weaker db whole [] before after told knows plays = plays
  PlaysAll-weaker db whole (first ∷ items) before after told knows plays =
      (plays.0, plays.1, plays.2, Plays-weaker db whole first.item before plays.0 plays.1 knows plays.3, λ known. plays.4 (knows known), PlaysAll-weaker db whole items plays.0 after plays.2 knows plays.5, plays.6)

  -- one item more, after others
  PlaysAll-more : (P : Type 0) (db : Database) (whole : Relations) (items : List Placed) (placed : Placed) (before middle after : Schedule D S) (told more : List ℕ) → PlaysAll seen P db whole items before middle told → Plays seen P db whole placed.item middle after more → (P → seen.stands db after.world) →
      PlaysAll seen P db whole (items ++ placed ∷ []) before after (told ++ more)
  PlaysAll-more P db whole [] placed before middle after told more done next stands =
      let first : Plays seen P db whole placed.item before after more = subst (λ (start : Schedule D S). Plays seen P db whole placed.item start after more) done.0 next in
      (after, more, [], first, stands, (refl, refl), ap (λ (front : List ℕ). front ++ more) done.1 ∙ sym (append-nil more))
  PlaysAll-more P db whole (first ∷ items) placed before middle after told more done next stands = (
    done.0,
    done.1,
    done.2 ++ more,
    done.3,
    done.4,
    PlaysAll-more P db whole items placed done.0 middle after done.2 more done.5 next stands,
    ap (λ (front : List ℕ). front ++ more) done.6 ∙ append_assoc done.1 done.2 more,
  )

  -- so, where what is known of what is shown is known from the end
  pub PlaysItems-more : (items : List Placed) (placed : Placed) (first second third : Option (List ℕ)) (before middle after : Schedule D S) (more : List ℕ) → PlaysItems seen items first second before middle → PlaysItem seen placed.item middle after more → Appends second third more →
      LeavesWorld seen before.world middle.world → LeavesWorld seen middle.world after.world → PlaysItems seen (items ++ placed ∷ []) first third before after
  PlaysItems-more items placed first second third before middle after more so_far next wrote left leaves = record {
    told = so_far.told ++ more;
    said = Appends-more first second third so_far.told more so_far.said wrote;
    plays = λ db whole.
        let P : Type 0 = seen.is_clean after.world × HasRun seen db whole before.world in
        PlaysAll-more P db whole items placed before middle after so_far.told more
        (PlaysAll-weaker {Q = P} db whole items before middle so_far.told (λ known. (leaves.clean known.0, known.1)) (so_far.plays db whole))
        (Plays-weaker {Q = P} db whole placed.item middle after more (λ known. (known.0, left.runs db whole (leaves.clean known.0) known.1)) (next db whole))
        (λ known. (leaves.runs db whole known.0 (left.runs db whole (leaves.clean known.0) known.1)).stands);
  }

  -- what is shown is an item's
  pub shows_relation : {T E : Type 0} (name : List ℕ) (bytes_of : T → List ℕ) (before after : Schedule D S) (result : Result T E) → stage_of after ≡ stage_of before →
      ShowsOf seen name (λ sight text. IsShownRelation sight name text) bytes_of before.world after.world result → IfOk result (λ given. PlaysItem seen (item.Show name) before after (bytes_of given))
  shows_relation name bytes_of before after (Ok given) same shows = λ db whole. (same, λ known. shows db whole known.0 known.1)
  shows_relation name bytes_of before after (Err e) same shows = tt

  pub shows_leaf : {T E : Type 0} (name : List ℕ) (bytes_of : T → List ℕ) (before after : Schedule D S) (result : Result T E) → stage_of after ≡ stage_of before →
      ShowsOf seen name (λ sight text. IsShownLeaf sight name text) bytes_of before.world after.world result → IfOk result (λ given. PlaysItem seen (item.Leaf name) before after (bytes_of given))
  shows_leaf name bytes_of before after (Ok given) same shows = λ db whole. (same, λ known. shows db whole known.0 known.1)
  shows_leaf name bytes_of before after (Err e) same shows = tt

  -- each letter that was sent stays counted
  pub Plays-counted : (P : Type 0) (db : Database) (whole : Relations) (one : Item) (before after : Schedule D S) (told : List ℕ) → Plays seen P db whole one before after told → IsCounted (stage_of before) → IsCounted (stage_of after)
  Plays-counted P db whole (item.Load text) before after told plays counted = subst (λ (schedule : Schedule D S). IsCounted (stage_of schedule)) (sym plays.0) counted
  Plays-counted P db whole (item.Client name asked) before after told plays counted = counted_by_asks name asked (stage_of before) (stage_of after) told plays counted
  Plays-counted P db whole (item.Deliver number kept) before after told plays counted = counted_by_number number kept (stage_of before) (stage_of after) told plays counted
  Plays-counted P db whole (item.All but) before after told plays counted = counted_by_all but (stage_of before) (stage_of after) told plays counted
  Plays-counted P db whole (item.Site name doing) before after told plays counted = counted_by_tries _ _ _ (stage_of before) (stage_of after) told plays counted
  Plays-counted P db whole item.RestartDesk before after told plays counted = counted_by_tries _ _ _ (stage_of before) (stage_of after) told plays counted
  Plays-counted P db whole (item.Show name) before after told plays counted = subst IsCounted (sym plays.0) counted
  Plays-counted P db whole (item.Leaf name) before after told plays counted = subst IsCounted (sym plays.0) counted
  Plays-counted P db whole item.Committed before after told plays counted = subst (λ (schedule : Schedule D S). IsCounted (stage_of schedule)) (sym plays.0) counted

Keeps-same : (known : Option (List ℕ)) → Keeps known known
Keeps-same None = tt
Keeps-same (Some bytes) = refl

-- what stops items before any is played, and once some were
pub stops_opening : (Fails : StoreFault → Type 0) (output : Option (List ℕ)) (fault : ProgramFault) → StopsOpening Fails fault → StopsItems Fails output output fault
stops_opening Fails output fault (inl memory) = rw memory tt
stops_opening Fails output fault (inr failed) = rw failed.2 (failed.1, Keeps-same output)

pub stops_output : (Fails : StoreFault → Type 0) (old new : Option (List ℕ)) (fault : ProgramFault) → IsOfOutput fault → StopsItems Fails old new fault
stops_output Fails old new fault (inl memory) = rw memory tt
stops_output Fails old new fault (inr closed) = rw closed tt

-- what follows of what holds where a call succeeds
pub ok_so : {T E P Q : Type 0} (result : Result T E) → (P → Q) → OnOk result P → OnOk result Q
ok_so (Ok given) so p = so p
ok_so (Err fault) so p = tt

-- a script that is not loaded
pub unloaded : (Fails : StoreFault → Type 0) (catalogue : Catalogue) (text : List ℕ) (output : Option (List ℕ)) (Played : Type 0) (fault : ScriptFault) → ((line : ℕ) → fault ≡ script.Malformed line → IsMalformedAt (schemas_of catalogue) (items_of (lines_of text)) line) →
    EndsOrStops Fails catalogue text output output Played (Err (fault_of_script fault))
unloaded Fails catalogue text output Played (script.Malformed line) why = (why line refl, Keeps-same output)
unloaded Fails catalogue text output Played script.Memory why = inr (Keeps-same output)

-- a script that is loaded is played to its end, or stopped
pub played : (Fails : StoreFault → Type 0) (catalogue : Catalogue) (text : List ℕ) (old new : Option (List ℕ)) (Played : Type 0) (result : Result Unit ProgramFault) → IsSound catalogue text → OnOk result Played → IfErr result (StopsItems Fails old new) →
    EndsOrStops Fails catalogue text old new Played result
played Fails catalogue text old new Played (Ok done) sound ok err = ok
played Fails catalogue text old new Played (Err Memory) sound ok err = inl sound
played Fails catalogue text old new Played (Err CannotWrite) sound ok err = sound
played Fails catalogue text old new Played (Err (Store why)) sound ok err = (err.0, sound, err.1)
played Fails catalogue text old new Played (Err (CannotRead file)) sound ok err = err
played Fails catalogue text old new Played (Err ScriptTooLong) sound ok err = err
played Fails catalogue text old new Played (Err (Malformed line)) sound ok err = absurd err

-- the same of a script of which all bytes were read. Played: so that a script of these bytes was played
pub played_of : (Fails : StoreFault → Type 0) (known : Option (List ℕ)) (catalogue : Catalogue) (file : Bor (List ℕ)) (read : List ℕ) (old new : Option (List ℕ)) (Played : List ℕ → Type 0) (result : Result Unit ProgramFault) → IfSome known (λ bytes. read ≡ bytes) → length read ≤ longest →
    EndsOrStops Fails catalogue read old new (Played read) result → IfSome known (λ text. EndsOrStopsOf Fails catalogue file text old new (Played text) result)
played_of Fails None catalogue file read old new Played result all short done = tt
played_of Fails (Some bytes) catalogue file read old new Played result all short done = subst (λ (text : List ℕ). EndsOrStopsOf Fails catalogue file text old new (Played text) result) all (of_read result done)
  where
    of_read : (result : Result Unit ProgramFault) → EndsOrStops Fails catalogue read old new (Played read) result → EndsOrStopsOf Fails catalogue file read old new (Played read) result
    of_read (Ok done) h = (short, h)
    of_read (Err (CannotRead name)) h = absurd h
    of_read (Err ScriptTooLong) h = absurd h
    of_read (Err (Malformed line)) h = (short, h)
    of_read (Err Memory) h = h
    of_read (Err (Store why)) h = (short, h)
    of_read (Err CannotWrite) h = h

-- what holds of a script that was opened, whichever catalogues a list has, holds of it for all
over_input : {R E : Type 0} (input : Result R E) (script_of : R → Option (List ℕ)) (P : List ℕ → Catalogue → List Catalogue → Type 0) (catalogues : List Catalogue) →
    ((first : Catalogue) (rest : List Catalogue) → catalogues ≡ first ∷ rest → IfOk input (λ reader. IfSome (script_of reader) (λ script. P script first rest))) →
    IfOk input (λ reader. IfSome (script_of reader) (λ script. (first : Catalogue) (rest : List Catalogue) → catalogues ≡ first ∷ rest → P script first rest))
over_input (Err error) script_of P catalogues holds = tt
over_input (Ok reader) script_of P catalogues holds = of_known (script_of reader) holds
  where
    of_known : (known : Option (List ℕ)) → ((first : Catalogue) (rest : List Catalogue) → catalogues ≡ first ∷ rest → IfSome known (λ script. P script first rest)) → IfSome known (λ script. (first : Catalogue) (rest : List Catalogue) → catalogues ≡ first ∷ rest → P script first rest)
    of_known None holds = tt
    of_known (Some script) holds = holds

module _ {D S : Type 0} (worlds : SeenWorld (World D S)) (Fails : StoreFault → Type 0) where
  -- a script was played to its end over a chain
  pub played_over : {R E : Type 0} (input : Result R E) (script_of : R → Option (List ℕ)) (file : Bor (List ℕ)) (old new : Option (List ℕ)) (catalogues : List Catalogue) (done : Unit) →
      ((first : Catalogue) (rest : List Catalogue) → catalogues ≡ first ∷ rest → IfOk input (λ reader. IfSome (script_of reader) (λ script. PlaysScript worlds Fails first rest file script old new (Ok done)))) →
      IfOk input (λ reader. IfSome (script_of reader) (λ script. PlaysOver worlds Fails file script old new catalogues (Ok done)))
  played_over input script_of file old new catalogues done plays = over_input input script_of (λ script first rest. PlaysScript worlds Fails first rest file script old new (Ok done)) catalogues plays

  -- or was stopped
  stopped_play : {R E : Type 0} (input : Result R E) (script_of : R → Option (List ℕ)) (file : Bor (List ℕ)) (old new : Option (List ℕ)) (catalogues : List Catalogue) (fault : ProgramFault) →
      ((first : Catalogue) (rest : List Catalogue) → catalogues ≡ first ∷ rest → IfOk input (λ reader. IfSome (script_of reader) (λ script. PlaysScript worlds Fails first rest file script old new (Err fault)))) →
      IfOk input (λ reader. IfSome (script_of reader) (λ script. PlaysOver worlds Fails file script old new catalogues (Err (Program fault))))
  stopped_play input script_of file old new catalogues fault plays = over_input input script_of (λ script first rest. PlaysScript worlds Fails first rest file script old new (Err fault)) catalogues plays

  pub told_stopped_play : {R E : Type 0} (input : Result R E) (script_of : R → Option (List ℕ)) (file : Bor (List ℕ)) (old new : Option (List ℕ)) (catalogues : List Catalogue) (fault : ProgramFault) (result : Result Unit ChainFault) → result ≡ Err (Program fault) →
      ((first : Catalogue) (rest : List Catalogue) → catalogues ≡ first ∷ rest → IfOk input (λ reader. IfSome (script_of reader) (λ script. PlaysScript worlds Fails first rest file script old new (Err fault)))) →
      IfOk input (λ reader. IfSome (script_of reader) (λ script. PlaysOver worlds Fails file script old new catalogues result))
  told_stopped_play input script_of file old new catalogues fault result told plays = rw told (stopped_play input script_of file old new catalogues fault plays)
