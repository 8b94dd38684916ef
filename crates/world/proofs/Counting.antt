-- Machines of which refusals are counted.
use Rattle.std.proofs.Common.{◌≡◌, ◌≤◌, ◌<◌, ◌-◌, ◌^◌, refl, sym, ap, subst, ◌∙◌, ℕ, true, false, List, [], ◌∷◌, ◌++◌, map, ◌⊎◌, inl, inr, ⊎_elim, arith}
use Rattle.store.specs.declared.letter.Letter as letters
use Rattle.store.specs.DeskContent.{DeskContent}
use Rattle.store.specs.SiteContent.{SiteContent}
use Rattle.protocol.specs.Language.{Lang}
use Rattle.protocol.specs.World.{World}
use Rattle.desk.specs.declared.reply.Notice.{Notice}
use Rattle.desk.specs.Database.{Database, language}
use Rattle.world.specs.declared.fault.Fault as faults
use Rattle.world.specs.declared.fault.Fault.TheVariants as fault
use Rattle.protocol.specs.Delivery.{AllKept, Coming}
use Rattle.site.specs.declared.site.Site.{Site}
use Rattle.world.specs.declared.machines.Machines as code
use Rattle.world.specs.Counted.{HaveRefused, KeptUnless, NoFewer, counts, counts_of}
use Rattle.world.specs.Frame.{CallsNoStore}
use Rattle.world.specs.Contents.{held, unrefused}
use Rattle.world.specs.Machines.{AreFit, Leads, Machines}
use Rattle.world.specs.Seated.{seats_in}
use Rattle.world.specs.Sites.{Seat}
use Rattle.world.specs.Taking.{CameUnless}
use Rattle.world.specs.Reasons.{Tells}

-- ---- counts
pub at_most : (n : ℕ) → n ≤ n
at_most n = grind (arith)

pub no_fewer : (counts : List ℕ) → NoFewer counts counts
no_fewer [] = tt
no_fewer (n ∷ counts) = (at_most n, no_fewer counts)

pub no_fewer_then : (first second third : List ℕ) → NoFewer first second → NoFewer second third → NoFewer first third
no_fewer_then [] [] [] one two = tt
no_fewer_then [] [] (c ∷ third) one two = absurd two
no_fewer_then [] (b ∷ second) third one two = absurd one
no_fewer_then (a ∷ first) [] third one two = absurd one
no_fewer_then (a ∷ first) (b ∷ second) [] one two = absurd two
no_fewer_then (a ∷ first) (b ∷ second) (c ∷ third) one two = (through a b c one.0 two.0, no_fewer_then first second third one.1 two.1)
  where
    through : (a b c : ℕ) → a ≤ b → b ≤ c → a ≤ c
    through a b c one two = grind (arith)

-- a store that has refused before has refused all in all, and so has one that refused since
pub refused_before : (first second third : List ℕ) → NoFewer first second → HaveRefused first second → NoFewer second third → HaveRefused first third
refused_before [] second third more refused later = absurd refused
refused_before (a ∷ first) [] third more refused later = absurd refused
refused_before (a ∷ first) (b ∷ second) [] more refused later = absurd later
refused_before (a ∷ first) (b ∷ second) (c ∷ third) more (inl here) later = inl (grew here)
  where
    from_top : b ≡ 2 ^ 64 - 1 → (a < c) ⊎ (c ≡ 2 ^ 64 - 1)
    from_top top = grind (arith)

    grew : (a < b) ⊎ (b ≡ 2 ^ 64 - 1) → (a < c) ⊎ (c ≡ 2 ^ 64 - 1)
    grew (inl more_now) = inl (grind (arith))
    grew (inr top) = from_top top
refused_before (a ∷ first) (b ∷ second) (c ∷ third) more (inr there) later = inr (refused_before first second third more.1 there later.1)

pub refused_since : (first second third : List ℕ) → NoFewer first second → HaveRefused second third → HaveRefused first third
refused_since [] [] third more refused = absurd refused
refused_since [] (b ∷ second) third more refused = absurd more
refused_since (a ∷ first) [] third more refused = absurd more
refused_since (a ∷ first) (b ∷ second) [] more refused = absurd refused
refused_since (a ∷ first) (b ∷ second) (c ∷ third) more (inl here) = inl (grew here)
  where
    grew : (b < c) ⊎ (c ≡ 2 ^ 64 - 1) → (a < c) ⊎ (c ≡ 2 ^ 64 - 1)
    grew (inl more_now) = inl (grind (arith))
    grew (inr top) = inr top
refused_since (a ∷ first) (b ∷ second) (c ∷ third) more (inr there) = inr (refused_since first second third more.1 there)

-- ---- letters
all_kept : {L : Lang} (one other : List (Coming L)) → AllKept one → AllKept other → AllKept (one ++ other)
all_kept [] other first second = second
all_kept (c ∷ one) other first second = (first.0, all_kept one other first.1 second)

pub kept_then : {L : Lang} (one other : List (Coming L)) (first second third : List ℕ) → NoFewer first second → NoFewer second third → KeptUnless one first second → KeptUnless other second third → KeptUnless (one ++ other) first third
kept_then one other first second third before after (inl kept) (inl more) = inl (all_kept one other kept more)
kept_then one other first second third before after (inl kept) (inr refused) = inr (refused_since first second third before refused)
kept_then one other first second third before after (inr refused) rest = inr (refused_before first second third before refused after)

-- ---- what is known of machines doesn't read their counts
abbrev pub with_counts : Machines → List ℕ → Machines
with_counts machines counts = record machines { refused = counts }

module _ (db : Database) where
  pub fit_counted : (machines : Machines) (counts : List ℕ) → AreFit db machines → AreFit db (with_counts machines counts)
  fit_counted machines counts fit = record { names = fit.names; leaves = fit.leaves; desk = fit.desk; within = fit.within; sites = fit.sites; single = fit.single; still = fit.still }

  pub leads_counted : (step : World (language db) → World (language db)) (before after : Machines) (a b : List ℕ) (out : List letters.Letter) (notices : List Notice) → Leads db step before after out notices → Leads db step (with_counts before a) (with_counts after b) out notices
  leads_counted step before after a b out notices leads = record { deeds = leads.deeds; fit = fit_counted after b leads.fit; is = leads.is; version = leads.version; placed = leads.placed; explained = leads.explained; replies = leads.replies }

  pub tells_counted : (machines : Machines) (counts : List ℕ) (letter : letters.Letter) (told : faults.Fault) → Tells db machines letter told → Tells db (with_counts machines counts) letter told
  tells_counted machines counts letter (fault.Desk refusal) why = why
  tells_counted machines counts letter (fault.Site told) why = why
  tells_counted machines counts letter fault.Unsent why = why

  pub fit_uncounted : (machines : Machines) (counts : List ℕ) → AreFit db (with_counts machines counts) → AreFit db machines
  fit_uncounted machines counts fit = record { names = fit.names; leaves = fit.leaves; desk = fit.desk; within = fit.within; sites = fit.sites; single = fit.single; still = fit.still }

-- where no store is called, machines that are as they were are so with their counts, and no count falls
pub same_counted : (before after : Machines) (a b : List ℕ) → after ≡ before → b ≡ a → with_counts after b ≡ with_counts before a
same_counted before after a b same counts i = with_counts (same i) (counts i)

pub none_fewer : (a b : List ℕ) → b ≡ a → NoFewer a b
none_fewer a b same = subst (NoFewer a) (sym same) (no_fewer a)

-- a letter that is delivered so that its store call is made
pub spared_so : (Refused : Type 0) (db : Database) (letter : letters.Letter) (before after : Machines) (out : List letters.Letter) (notices : List Notice) → CameUnless ((true ≡ false) ⊎ Refused) db letter before after out notices → CameUnless Refused db letter before after out notices
spared_so Refused db letter before after out notices taken = record { kept = taken.kept; came = taken.came; ends = taken.ends; spared = ⊎_elim (λ is. inl is) (λ why. ⊎_elim (λ wrong. absurd (cc)) (λ refused. inr refused) why) taken.spared }

-- ---- where the medium of no store ever refuses
zeros : {S : Type 0} (content : S → SiteContent) (sites : List (Site S)) → counts_of (λ _. 0) sites ≡ map (λ (seat : Seat). 0) (seats_in content sites)
zeros content [] = refl
zeros content (site ∷ sites) = ap (λ (counts : List ℕ). 0 ∷ counts) (zeros content sites)

-- machines that keep the same are the same with their counts
pub same_unrefused : {D S : Type 0} (of_desk : D → DeskContent) (of_site : S → SiteContent) (one other : code.Machines D S) → held of_desk of_site one ≡ held of_desk of_site other → unrefused of_desk of_site one ≡ unrefused of_desk of_site other
same_unrefused of_desk of_site one other same =
    same_counted (held of_desk of_site other) (held of_desk of_site one) _ _ same
    (ap (λ (counts : List ℕ). 0 ∷ counts) (zeros of_site one.sites.items ∙ ap (λ (machines : Machines). map (λ (seat : Seat). 0) machines.seats) same ∙ sym (zeros of_site other.sites.items)))

-- where no store has been called none has refused
counted_stores : {S : Type 0} (refused : S → ℕ) (sites : List (Site S)) → counts_of refused sites ≡ map refused (map (λ site. site.store) sites)
counted_stores refused [] = refl
counted_stores refused (site ∷ sites) = ap (λ (counts : List ℕ). refused site.store ∷ counts) (counted_stores refused sites)

pub uncounted : {D S : Type 0} (of_desk : D → ℕ) (of_site : S → ℕ) {old new : code.Machines D S} → CallsNoStore old new → counts of_desk of_site new ≡ counts of_desk of_site old
uncounted of_desk of_site {old} {new} none =
    let sites = counted_stores of_site new.sites.items ∙ ap (map of_site) none.sites ∙ sym (counted_stores of_site old.sites.items) in
    ap (λ (first : ℕ). first ∷ counts_of of_site new.sites.items) (ap of_desk none.desk) ∙ ap (λ (others : List ℕ). of_desk old.desk.store ∷ others) sites
