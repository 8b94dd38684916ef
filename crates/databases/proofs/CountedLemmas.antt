-- Each letter that was sent stays counted, whatever is played.
use Rattle.std.proofs.Common.{◌≡◌, ◌++◌, ◌∷◌, [], ◌+◌, ℕ, zero, suc, Bool, true, List, Option, None, Some, inl, inr, length, subst, sym, arith, append-nil, length-append, ◌∙◌}
use Rattle.std.proofs.Math.ListN.{length-set}
use Rattle.std.proofs.lemmas.Grind.{flat_map-append}
use Rattle.std.proofs.lemmas.List.{length-map}
use Rattle.store.specs.declared.name.Txn.{Txn}
use Rattle.desk.specs.declared.reply.Out.{Out}
use Rattle.world.specs.declared.event.Entry.{Entry}
use Rattle.world.specs.declared.event.Event.{Event}
use Rattle.world.specs.Posted.{letters_in}
use Rattle.world.specs.Runs.{entry_of}
use Rattle.lines.specs.declared.cast.Cast.{Cast}
use Rattle.lines.specs.declared.play_script.Ask.{Ask}
use Rattle.lines.specs.declared.play_script.Ask.TheVariants as ask
use Rattle.lines.specs.Cast.{txn_of}
use Rattle.databases.specs.Delivering.{Delivers, DeliversAll, DeliversAt, DeliversEach, with_came}
use Rattle.databases.specs.Schedule.{Asks, Calls, Concerned, IsCounted, Stage, Tries, unseen}

-- the letters of one entry more
pub letters_more : (past : List Entry) (what : Event) (out : Out) → length (letters_in (past ++ entry_of what out ∷ [])) ≡ length (letters_in past) + length out.letters
letters_more past what out = simp (flat_map-append, length-append, append-nil)

-- one entry more, with its letters
counted_more : (before : Stage) (what : Event) (out : Out) → IsCounted before → length (before.came ++ unseen out.letters) ≡ length (letters_in (before.entries ++ entry_of what out ∷ []))
counted_more before what out counted = simp (length-append, length-map) (omega (arith, letters_more before.entries what out))

counted_same : (before after : Stage) → after ≡ before → IsCounted before → IsCounted after
counted_same before after same counted = subst IsCounted (sym same) counted

-- an event that happens or is refused
pub counted_by_tries : (Recasts : Out → Cast → Cast → Type 0) (concerned : Concerned) (what : Event) (before after : Stage) (text : List ℕ) → Tries Recasts concerned what before after text → IsCounted before → IsCounted after
counted_by_tries Recasts concerned what before after text (inl happens) counted = rw (happens.came, happens.entries) (counted_more before what happens.out counted)
counted_by_tries Recasts concerned what before after text (inr refused) counted = counted_same before after refused.turned_down.same counted

counted_by_calls : (name : List ℕ) (asked : Ask) (known : Option Txn) (before after : Stage) (text : List ℕ) → Calls name asked known before after text → IsCounted before → IsCounted after
counted_by_calls name asked None before after text calls counted = counted_same before after calls.0 counted
counted_by_calls name asked (Some txn) before after text calls counted = counted_by_tries _ _ _ before after text calls counted

-- what a client asks for
pub counted_by_asks : (name : List ℕ) (asked : Ask) (before after : Stage) (text : List ℕ) → Asks name asked before after text → IsCounted before → IsCounted after
counted_by_asks name ask.Begin before after text asks counted = counted_by_tries _ _ _ before after text asks counted
counted_by_asks name (ask.Refragment stated) before after text asks counted = counted_by_tries _ _ _ before after text asks counted
counted_by_asks name (ask.State stated) before after text asks counted = counted_by_calls name (ask.State stated) (txn_of before.cast name) before after text asks counted
counted_by_asks name ask.Commit before after text asks counted = counted_by_calls name ask.Commit (txn_of before.cast name) before after text asks counted
counted_by_asks name ask.Rollback before after text asks counted = counted_by_calls name ask.Rollback (txn_of before.cast name) before after text asks counted
counted_by_asks name ask.GiveUp before after text asks counted = counted_by_calls name ask.GiveUp (txn_of before.cast name) before after text asks counted

-- letters that are delivered
pub counted_by_delivery : (place : ℕ) (kept : Bool) (before after : Stage) (text : List ℕ) → DeliversAt place kept before after text → IsCounted before → IsCounted after
counted_by_delivery place kept before after text delivers counted =
    let come : IsCounted (with_came place before) = length-set before.came place true ∙ counted in
    counted_by_tries _ _ _ (with_came place before) after text delivers come

pub counted_by_number : (number : ℕ) (kept : Bool) (before after : Stage) (text : List ℕ) → Delivers number kept before after text → IsCounted before → IsCounted after
counted_by_number zero kept before after text delivers counted = counted_same before after delivers.0 counted
counted_by_number (suc place) kept before after text delivers counted = counted_by_delivery place kept before after text delivers counted

counted_by_each : (but places : List ℕ) (before after : Stage) (text : List ℕ) → DeliversEach but places before after text → IsCounted before → IsCounted after
counted_by_each but [] before after text each counted = counted_same before after each.0 counted
counted_by_each but (place ∷ places) before after text each counted =
    counted_by_each but places each.0 after each.2 each.5 (counted_by_delivery place true before each.0 each.1 each.4 counted)

pub counted_by_all : (but : List ℕ) (before after : Stage) (text : List ℕ) → DeliversAll but before after text → IsCounted before → IsCounted after
counted_by_all but before after text delivers counted = counted_by_each but delivers.places before after text delivers.each counted
