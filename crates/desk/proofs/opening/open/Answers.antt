-- Why `open` meets its contract.
use Rattle.std.proofs.Common.{sym, ◌∙◌, subst, ℕ, arith}
use Rattle.store.specs.Frame.{LeavesStore}
use Rattle.desk.specs.Recovery.{Rises}
use Rattle.desk.specs.State.{volatile_from}
use Rattle.desk.proofs.opening.open.Goals as goal

-- one call after another
leaves_on : {S : Type 0} {is_clean is_sound : S → Type 0} {refused : S → ℕ} {one two three : S} → LeavesStore is_clean is_sound refused one two → LeavesStore is_clean is_sound refused two three → LeavesStore is_clean is_sound refused one three
leaves_on first then = record {
  clean = λ clean. first.clean (then.clean clean);
  counts = omega (arith, first.counts, then.counts);
  sound = λ clean sound. then.sound clean (first.sound (then.clean clean) sound);
}

-- the number that was read first is the one that the store keeps as the life begins
pub returns-in-Ok-begin-clause-rises : goal.returns-in-Ok-begin-clause-rises
returns-in-Ok-begin-clause-rises g c = λ db same clean.
    let told = c.in-Ok-begin.ensures in
    let rose = told.rises db (same ∙ sym c.sites.ensures) clean in
    let lists = c.in-Ok.ensures.all (c.begin.ensures.begins.leaves.clean clean) in
    subst (λ (n : ℕ). Rises db (g.S.DeskStore.kept c.begin.new.store) (volatile_from c.in-Ok-begin.begun.standings.entries 0 c.in-Ok-begin.begun.life 0 n)) (rose.fits.version ∙ (told.begins.life clean).version ∙ sym lists.catalogue) rose

pub returns-in-Ok-begin-clause-leaves : goal.returns-in-Ok-begin-clause-leaves
returns-in-Ok-begin-clause-leaves g c = leaves_on c.load.ensures.leaves c.begin.ensures.begins.leaves

pub returns-in-Err-begin-clause-leaves : goal.returns-in-Err-begin-clause-leaves
returns-in-Err-begin-clause-leaves g c = leaves_on c.load.ensures.leaves c.begin.ensures.begins.leaves
