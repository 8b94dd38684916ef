-- The pass over acts that tells what happened: what is left of them is enough.
use Rattle.std.proofs.Common.{◌++◌, ◌∷◌, ◌∙◌, ◌<◌, ◌≡◌, ◌+◌, ℕ, List, [], refl, sym, ap, subst, inl, inr, append_assoc, length, get_or, drop}
use Rattle.std.proofs.lemmas.List.{append-nil, drop_more}
use Rattle.store.specs.declared.letter.Letter.{Letter}
use Rattle.world.specs.declared.event.Entry as world
use Rattle.history.specs.declared.entry.Entry.{Entry}
use Rattle.history.specs.declared.merge.Pick.{Pick}
use Rattle.history.specs.Brought.{HaveHappened, IsBroughtAt, IsNotBrought, happened_by}
use Rattle.history.specs.Merge.{Act}
use Rattle.history.specs.Picks.{act_of, acts_of}

-- the acts from a place on are the one there and those behind it
pub next_act : (picks : List (Pick Entry)) (i : ℕ) (pick : Pick Entry) → i < length picks → pick ≡ get_or picks i pick → acts_of (drop i picks) ≡ act_of pick ∷ acts_of (drop (i + 1) picks)
next_act picks i pick h at = ap acts_of (drop_more picks i pick h ∙ ap (λ first. first ∷ drop (i + 1) picks) (sym at))

module _ (sites : List (List ℕ)) where
  -- where this follows from the acts that are left and the letters that were sent, all follows from all acts
  pub record IsTelling (acts left : List (Act Entry)) (sent : List Letter) (so_far : List world.Entry) : Type 0 where
    pub happened : (more : List world.Entry) → HaveHappened sites sent left more → HaveHappened sites [] acts (so_far ++ more)
    pub broken : (k : ℕ) → IsNotBrought sites sent left k → IsNotBrought sites [] acts k

  -- at last none is
  pub telling_all : (acts : List (Act Entry)) (sent : List Letter) (so_far : List world.Entry) → IsTelling acts [] sent so_far → HaveHappened sites [] acts so_far
  telling_all acts sent so_far so = subst (HaveHappened sites [] acts) (append-nil so_far) (so.happened [] refl)

  -- one act more
  pub telling_more : (acts left : List (Act Entry)) (sent : List Letter) (so_far : List world.Entry) (n : ℕ) (act : Act Entry) → IsBroughtAt sites sent n act.cell act.entry.input → IsTelling acts (act ∷ left) sent so_far
      → IsTelling acts left (sent ++ act.entry.letters) (so_far ++ happened_by act.entry.fault sites n act.cell act.entry)
  telling_more acts left sent so_far n act brought so = record {
    happened = λ more later. rw append_assoc (so.happened (happened_by act.entry.fault sites n act.cell act.entry ++ more) (n, (brought, (more, (refl, later)))));
    broken = λ k later. so.broken k (inr later);
  }

  -- the next act took a letter that wasn't brought
  pub telling_broken : (acts left : List (Act Entry)) (sent : List Letter) (so_far : List world.Entry) (act : Act Entry) (k : ℕ) → act.entry.number ≡ k → ((n : ℕ) → IsBroughtAt sites sent n act.cell act.entry.input → ⊥) → IsTelling acts (act ∷ left) sent so_far
      → IsNotBrought sites [] acts k
  telling_broken acts left sent so_far act k is nowhere so = so.broken k (inl (is, nowhere))
