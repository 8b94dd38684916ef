-- Each event of a site keeps the whole invariant.
use Rattle.std.proofs.Common.{◌≡◌, refl, sym, ap, ◌∙◌, subst, Bool, List, [], ◌∷◌, ◌⊎◌, inl, ⊎_elim}
use Rattle.protocol.specs.Desk.{Undecided, Known}
use Rattle.protocol.specs.Parts.{op_of, In, Untouched, Viable}
use Rattle.protocol.proofs.Booked.{NoOps}
use Rattle.protocol.specs.Language.{Lang, IsLawful, Name, same, put}
use Rattle.protocol.specs.Letter.{Read, Body, Letter, Open, Commit, Voted}
use Rattle.protocol.specs.Site.{Status, Dead, Active, Prepared, SiteState, Act, Opens, Applies, Ends, is_dead, is_prepared, sees, next_ticket, new_visit, on_letter, site_after, said, restarted, site_restarted, on_give_up, is_within}
use Rattle.protocol.specs.Serial.{phases_of}
use Rattle.protocol.specs.World.{World, with_site, site_steps, addressed, gives_up, restarts}
use Rattle.protocol.proofs.Basics.{Every, put_all, put_here, put_there, clash, same_law, either, by_test, if_true, if_false}
use Rattle.protocol.proofs.Fits.{Born, IsCommitted, FitsBody}
use Rattle.protocol.proofs.SiteTable.{Acted, says_nothing, says_gone, says_no, says_yes, says_ack, opens, reads, writes, prepares, only_read, votes_no, refuses, applies, ends, discards, acted}
use Rattle.protocol.proofs.SiteSteps.{not_drawn, prepared_sees, from_visit, letter_later, letter_said}
use Rattle.protocol.proofs.SiteFits.{same_later, site_moves}
use Rattle.protocol.proofs.SiteEvents.{not_open, restart_later, owned, open_fit, addressed_fit, alike_where_new}
use Rattle.protocol.proofs.Locks.{acted_locked, restarted_locked, gives_up_locked}
use Rattle.protocol.proofs.Ops.{Op}
use Rattle.protocol.proofs.Data.{TellsBody, acted_steps, acted_says, acted_plain, restarted_steps, give_up_steps}
use Rattle.protocol.proofs.Base.{Base, base_site}
use Rattle.protocol.proofs.Viable.{acted_was, read_was, restarted_was, give_up_was, in_addressed}
use Rattle.protocol.proofs.Settled.{changes_it, settled_same, settled_applied}
use Rattle.protocol.proofs.Invariant.{Deep, viable_site, deep_site, site_settled}

module _ {L : Lang} (law : IsLawful L) (whole : L.Whole) where
  -- the invariant with owners and operations that the world doesn't store
  abbrev pub IsDeep : World L → Type 0
  IsDeep w = (o : L.Site → Name → Name) × (ops : L.Site → Name → List (Op L)) × Deep o ops whole w

  -- who is committed then was so before, or might be
  abbrev pub Commits : (L.Site → Name → List (Op L)) → World L → World L → Type 0
  Commits ops w v = (t : Name) → IsCommitted v.past t → (IsCommitted w.past t) ⊎ (Viable ops w t ⊎ ((u : Undecided L) × (w.desk.txn t ≡ Known u) × Untouched u))

  -- the invariant after an event, that what is viable then was so before, and who may be committed
  abbrev pub Next : (L.Site → Name → List (Op L)) → World L → World L → Type 0
  Next ops w v = (p : L.Site → Name → Name) × (opt : L.Site → Name → List (Op L)) × Deep p opt whole v × ((t : Name) → In t (phases_of w.past) → Viable opt v t → Viable ops w t) × Commits ops w v

  pub no_event : (o : L.Site → Name → Name) (ops : L.Site → Name → List (Op L)) (w : World L) → Deep o ops whole w → Next ops w w
  no_event o ops w deep = (o, ops, deep, (λ t here viable. viable), λ t done. inl done)

  -- a step of a site commits nobody
  pub site_commits : (ops : L.Site → Name → List (Op L)) (w : World L) (a : L.Site) (s : SiteState L) (letters : List (Letter L)) → Commits ops w (site_steps w a s letters)
  site_commits ops w a s letters = either (Commits ops w) (is_within s) (with_site w a s letters) w (λ t done. inl done) (λ t done. inl done)

  module _ (o : L.Site → Name → Name) (ops : L.Site → Name → List (Op L)) (w : World L) (a : L.Site) (deep : Deep o ops whole w) where
    -- a decided row stays unless it is applied
    row_stays : (t : Name) (b : Body L) (act : Act L) → FitsBody o w.desk w.past a (w.sites a) t b → Acted (w.sites a) t b act → ((k u : Name) (i : L.Intentions) → act ≡ Applies k i → ⊥) →
        (j n : Name) (i : L.Intentions) → IsCommitted w.past n → (w.sites a).status j ≡ Prepared n i → (site_after (w.sites a) act).status j ≡ Prepared n i
    row_stays t b act fits (says_nothing c) other j n i done row = row
    row_stays t b act fits (says_gone k op g q) other j n i done row = row
    row_stays t b act fits (says_no k m) other j n i done row = row
    row_stays t b act fits (says_yes k m u x e) other j n i done row = row
    row_stays t b act fits (says_ack k e) other j n i done row = row
    row_stays t b act fits opens other j n i done row = put_all same same_law (next_ticket (w.sites a)) (Active (new_visit (w.sites a))) (w.sites a).status (λ j x. (w.sites a).status j ≡ Prepared n i → x ≡ Prepared n i)
        (λ r. absurd (not_drawn (w.sites a) (deep.base.fit.live a (next_ticket (w.sites a)) (ap is_dead r)))) (λ j apart r. r) j row
    row_stays t b act fits (reads k op g q v e next free) other j n i done row = put_all same same_law k _ (λ j. sees g ((w.sites a).status j)) (λ j x. (w.sites a).status j ≡ Prepared n i → x ≡ Prepared n i)
        (λ r. let f : Active v ≡ Prepared n i = sym e ∙ r in cc) (λ j apart r. prepared_sees g ((w.sites a).status j) n i r) j row
    row_stays t b act fits (writes k op g x v e next free) other j n i done row = put_all same same_law k _ (λ j. sees g ((w.sites a).status j)) (λ j x. (w.sites a).status j ≡ Prepared n i → x ≡ Prepared n i)
        (λ r. let f : Active v ≡ Prepared n i = sym e ∙ r in cc) (λ j apart r. prepared_sees g ((w.sites a).status j) n i r) j row
    row_stays t b act fits (prepares k m v e all) other j n i done row = put_all same same_law k (Prepared t v.changes) (w.sites a).status (λ j x. (w.sites a).status j ≡ Prepared n i → x ≡ Prepared n i)
        (λ r. let f : Active v ≡ Prepared n i = sym e ∙ r in cc) (λ j apart r. r) j row
    row_stays t b act fits (only_read k m v e all empty) other j n i done row = put_all same same_law k Dead (w.sites a).status (λ j x. (w.sites a).status j ≡ Prepared n i → x ≡ Prepared n i) (λ r. let f : Active v ≡ Prepared n i = sym e ∙ r in cc) (λ j apart r. r) j row
    row_stays t b act fits (votes_no k m v e) other j n i done row = put_all same same_law k Dead (w.sites a).status (λ j x. (w.sites a).status j ≡ Prepared n i → x ≡ Prepared n i) (λ r. let f : Active v ≡ Prepared n i = sym e ∙ r in cc) (λ j apart r. r) j row
    row_stays t b act fits (refuses c k v reason e) other j n i done row = put_all same same_law k Dead (w.sites a).status (λ j x. (w.sites a).status j ≡ Prepared n i → x ≡ Prepared n i) (λ r. let f : Active v ≡ Prepared n i = sym e ∙ r in cc) (λ j apart r. r) j row
    row_stays t b act fits (applies k u x e) other j n i done row = absurd (other k u x refl)
    row_stays t b act fits (ends c k v e) other j n i done row = put_all same same_law k Dead (w.sites a).status (λ j x. (w.sites a).status j ≡ Prepared n i → x ≡ Prepared n i) (λ r. let f : Active v ≡ Prepared n i = sym e ∙ r in cc) (λ j apart r. r) j row
    row_stays t b act fits (discards k u x e) other j n i done row = put_all same same_law k Dead (w.sites a).status (λ j y. (w.sites a).status j ≡ Prepared n i → y ≡ Prepared n i)
        (λ r. let is : n ≡ t = sym (deep.base.fit.prepared a k n i r).owner ∙ fits.1 in clash (ap is_prepared r) (fits.3 (subst (IsCommitted w.past) is done))) (λ j apart r. r) j row

    addressed_tells : (t : Name) (new : SiteState L) (bodies : List (Body L)) → Every (TellsBody (ops a) new) bodies → Every (λ x. (b c : L.Site) (j : Name) → op_of b j c x ≡ []) bodies → Every (λ l. (l.site ≡ a) × TellsBody (ops a) new l.body × NoOps l) (addressed a t bodies)
    addressed_tells t new [] all plain = tt
    addressed_tells t new (x ∷ xs) all plain = ((refl, all.0, λ b j. plain.0 b a j), addressed_tells t new xs all.1 plain.1)

    pub letter_base : (t : Name) (b : Body L) (act : Act L) → Born w.desk t → FitsBody o w.desk w.past a (w.sites a) t b → TellsBody (ops a) (w.sites a) b → Acted (w.sites a) t b act → ((b ≡ Open) → ⊥) → Base o ops (with_site w a (site_after (w.sites a) act) (addressed a t (said (w.sites a) act)))
    letter_base t b act born fits tells row no_open =
        let s = w.sites a in
        let new = site_after s act in
        let letters = addressed a t (said s act) in
        base_site law o o ops w a new letters deep.base
        (site_moves law o w a new letters deep.base.fit (letter_later o w a deep.base.fit t b act born fits row no_open) (addressed_fit law o w a new t (said s act) born (letter_said o w a deep.base.fit t b act fits row no_open)))
        (λ c j h. refl) (acted_locked law s t b act (deep.base.fit.live a) (deep.base.locked a) row) (acted_steps law (ops a) s t b act (deep.base.data_at a) (deep.base.locked a) tells row)
        (addressed_tells t new (said s act) (acted_says law (ops a) s t b act (deep.base.data_at a) tells row) (acted_plain law s t b act row))

    -- a letter but Open
    letter_deep : (t : Name) (b : Body L) (act : Act L) → Born w.desk t → FitsBody o w.desk w.past a (w.sites a) t b → TellsBody (ops a) (w.sites a) b → Acted (w.sites a) t b act → ((b ≡ Open) → ⊥) → ((k u : Name) (i : L.Intentions) → act ≡ Applies k i → ⊥) →
        ((g : L.Leaf) → (site_after (w.sites a) act).kept g ≡ (w.sites a).kept g) → Deep o ops whole (with_site w a (site_after (w.sites a) act) (addressed a t (said (w.sites a) act)))
    letter_deep t b act born fits tells row no_open no_apply kept =
        let s = w.sites a in
        let new = site_after s act in
        let letters = addressed a t (said s act) in
        let later = letter_later o w a deep.base.fit t b act born fits row no_open in
        let base = letter_base t b act born fits tells row no_open in
        deep_site law o o ops whole w a new letters deep base (acted_was law (ops a) s t b act (deep.base.data_at a) tells row)
        (λ c k u here. let r = in_addressed a c t u (Voted k Read) (said s act) here in (r.0, read_was law (ops a) s t b act tells row k r.1))
        (site_settled law o o ops whole w a new letters deep.base base kept (λ k n i done e. row_stays t b act fits row no_apply k n i done e)
        (λ k n i done e. ⊎_elim (λ was. was) (λ fresh. absurd (fresh.3 done)) (later.comes k n i e)))

    -- a Commit that applies
    apply_deep : (t k u : Name) (i : L.Intentions) → Born w.desk t → FitsBody o w.desk w.past a (w.sites a) t (Commit k) → (e : (w.sites a).status k ≡ Prepared u i) →
        Deep o ops whole (with_site w a (site_after (w.sites a) (Applies k i)) (addressed a t (said (w.sites a) (Applies k i))))
    apply_deep t k u i born fits e =
        let s = w.sites a in
        let act : Act L = Applies k i in
        let new = site_after s act in
        let letters = addressed a t (said s act) in
        let row : Acted s t (Commit k) act = applies k u i e in
        let base = letter_base t (Commit k) act born fits tt row (λ f. cc) in
        let done : IsCommitted w.past u = subst (IsCommitted w.past) (sym fits.1 ∙ (deep.base.fit.prepared a k u i e).owner) fits.2 in
        deep_site law o o ops whole w a new letters deep base (acted_was law (ops a) s t (Commit k) act (deep.base.data_at a) tt row)
        (λ c j n here. let r = in_addressed a c t n (Voted j Read) (said s act) here in (r.0, read_was law (ops a) s t (Commit k) act tt row j r.1))
        (λ g. ⊎_elim
        (λ is. let at : put L.same_site a new w.sites (L.home g) ≡ new = if_true (L.same_site (L.home g) a) new (w.sites (L.home g)) is in
        let was : w.sites (L.home g) ≡ s = ap w.sites ((law.sites (L.home g) a).0 is) in
        settled_applied law o o ops ops w (with_site w a new letters) deep.base base g k u i (ap (λ (x : SiteState L). x.status k) was ∙ e) done refl
        (ap (λ (x : SiteState L). x.kept g) at ∙ ap (λ (x : SiteState L). L.changed g i (x.kept g)) (sym was)) (ap (λ (x : SiteState L). x.status k) at ∙ put_here same same_law k Dead s.status)
        (λ j other. ap (λ (x : SiteState L). x.status j) at ∙ put_there same same_law k Dead s.status j other ∙ ap (λ (x : SiteState L). x.status j) (sym was)))
        (λ other. let at : put L.same_site a new w.sites (L.home g) ≡ w.sites (L.home g) = if_false (L.same_site (L.home g) a) new (w.sites (L.home g)) other in
        settled_same law o o ops ops w (with_site w a new letters) deep.base base g (ap (λ (x : SiteState L). x.kept g) at)
        (λ j is. (ap (λ (x : SiteState L). x.status j) at, ap (λ (x : SiteState L). changes_it w.past g (x.status j)) at ∙ is)) (λ j is. ap (λ (x : SiteState L). changes_it w.past g (x.status j)) (sym at) ∙ is))
        (by_test (L.same_site (L.home g) a)))

    -- an Open
    open_deep : (t : Name) → Born w.desk t → FitsBody o w.desk w.past a (w.sites a) t Open → Deep (owned L a (next_ticket (w.sites a)) t o) ops whole (with_site w a (site_after (w.sites a) Opens) (addressed a t (said (w.sites a) Opens)))
    open_deep t born fits =
        let s = w.sites a in
        let new = site_after s Opens in
        let letters = addressed a t (said s Opens) in
        let p = owned L a (next_ticket s) t o in
        let row : Acted s t Open Opens = opens in
        let base = base_site law o p ops w a new letters deep.base (open_fit law o w a t deep.base.fit born fits) (alike_where_new law o w a (next_ticket s) t (not_drawn s))
        (acted_locked law s t Open Opens (deep.base.fit.live a) (deep.base.locked a) row) (acted_steps law (ops a) s t Open Opens (deep.base.data_at a) (deep.base.locked a) tt row)
        (addressed_tells t new (said s Opens) (acted_says law (ops a) s t Open Opens (deep.base.data_at a) tt row) (acted_plain law s t Open Opens row)) in
        deep_site law o p ops whole w a new letters deep base (acted_was law (ops a) s t Open Opens (deep.base.data_at a) tt row)
        (λ c k n here. let r = in_addressed a c t n (Voted k Read) (said s Opens) here in (r.0, read_was law (ops a) s t Open Opens tt row k r.1))
        (site_settled law o p ops whole w a new letters deep.base base (λ g. refl) (λ k n i done e. row_stays t Open Opens fits row (λ k u i f. cc) k n i done e)
        (λ k n i done. put_all same same_law (next_ticket s) (Active (new_visit s)) s.status (λ j x. x ≡ Prepared n i → s.status j ≡ Prepared n i) (λ e. cc) (λ j other e. e) k))

    -- whatever a letter does
    acted_deep : (t : Name) (b : Body L) (act : Act L) → Born w.desk t → FitsBody o w.desk w.past a (w.sites a) t b → TellsBody (ops a) (w.sites a) b → Acted (w.sites a) t b act → ((b ≡ Open) → ⊥) → (p : L.Site → Name → Name) × Deep p ops whole (with_site w a (site_after (w.sites a) act) (addressed a t (said (w.sites a) act)))
    acted_deep t b act born fits tells (says_nothing c) no_open = (o, letter_deep t b act born fits tells (says_nothing c) no_open (λ k u i f. cc) (λ g. refl))
    acted_deep t b act born fits tells (says_gone k op g q) no_open = (o, letter_deep t b act born fits tells (says_gone k op g q) (λ f. cc) (λ k u i f. cc) (λ g. refl))
    acted_deep t b act born fits tells (says_no k m) no_open = (o, letter_deep t b act born fits tells (says_no k m) (λ f. cc) (λ k u i f. cc) (λ g. refl))
    acted_deep t b act born fits tells (says_yes k m u x e) no_open = (o, letter_deep t b act born fits tells (says_yes k m u x e) (λ f. cc) (λ k u i f. cc) (λ g. refl))
    acted_deep t b act born fits tells (says_ack k e) no_open = (o, letter_deep t b act born fits tells (says_ack k e) (λ f. cc) (λ k u i f. cc) (λ g. refl))
    acted_deep t b act born fits tells opens no_open = absurd (no_open refl)
    acted_deep t b act born fits tells (reads k op g q v e next free) no_open = (o, letter_deep t b act born fits tells (reads k op g q v e next free) (λ f. cc) (λ k u i f. cc) (λ g. refl))
    acted_deep t b act born fits tells (writes k op g x v e next free) no_open = (o, letter_deep t b act born fits tells (writes k op g x v e next free) (λ f. cc) (λ k u i f. cc) (λ g. refl))
    acted_deep t b act born fits tells (prepares k m v e all) no_open = (o, letter_deep t b act born fits tells (prepares k m v e all) (λ f. cc) (λ k u i f. cc) (λ g. refl))
    acted_deep t b act born fits tells (only_read k m v e all empty) no_open = (o, letter_deep t b act born fits tells (only_read k m v e all empty) (λ f. cc) (λ k u i f. cc) (λ g. refl))
    acted_deep t b act born fits tells (votes_no k m v e) no_open = (o, letter_deep t b act born fits tells (votes_no k m v e) (λ f. cc) (λ k u i f. cc) (λ g. refl))
    acted_deep t b act born fits tells (refuses c k v reason e) no_open = (o, letter_deep t b act born fits tells (refuses c k v reason e) no_open (λ k u i f. cc) (λ g. refl))
    acted_deep t b act born fits tells (applies k u i e) no_open = (o, apply_deep t k u i born fits e)
    acted_deep t b act born fits tells (ends c k v e) no_open = (o, letter_deep t b act born fits tells (ends c k v e) no_open (λ k u i f. cc) (λ g. refl))
    acted_deep t b act born fits tells (discards k u i e) no_open = (o, letter_deep t b act born fits tells (discards k u i e) (λ f. cc) (λ k u i f. cc) (λ g. refl))

    -- what is viable after a letter was so before
    letter_was : (t : Name) (b : Body L) (act : Act L) → TellsBody (ops a) (w.sites a) b → Acted (w.sites a) t b act → (j : Name) → In j (phases_of w.past) → Viable ops (with_site w a (site_after (w.sites a) act) (addressed a t (said (w.sites a) act))) j → Viable ops w j
    letter_was t b act tells row j here = viable_site law o o ops whole w a (site_after (w.sites a) act) (addressed a t (said (w.sites a) act)) deep.base (acted_was law (ops a) (w.sites a) t b act (deep.base.data_at a) tells row)
        (λ c k n there. let r = in_addressed a c t n (Voted k Read) (said (w.sites a) act) there in (r.0, read_was law (ops a) (w.sites a) t b act tells row k r.1)) j

    steps_deep : (t : Name) (b : Body L) (act : Act L) → Born w.desk t → FitsBody o w.desk w.past a (w.sites a) t b → TellsBody (ops a) (w.sites a) b → Acted (w.sites a) t b act → ((b ≡ Open) → ⊥) → Next ops w (site_steps w a (site_after (w.sites a) act) (addressed a t (said (w.sites a) act)))
    steps_deep t b act born fits tells row no_open = either (Next ops w) (is_within (site_after (w.sites a) act)) (with_site w a (site_after (w.sites a) act) (addressed a t (said (w.sites a) act))) w (let d = acted_deep t b act born fits tells row no_open in (d.0, ops, d.1, letter_was t b act tells row, λ j done. inl done)) (no_event o ops w deep)

    -- a letter comes to its site
    pub comes_deep : (t : Name) (kept : Bool) (b : Body L) → Born w.desk t → FitsBody o w.desk w.past a (w.sites a) t b → TellsBody (ops a) (w.sites a) b →
        Next ops w (site_steps w a (site_after (w.sites a) (on_letter (w.sites a) t kept b)) (addressed a t (said (w.sites a) (on_letter (w.sites a) t kept b))))
    comes_deep t kept Open born fits tells = either (Next ops w) (is_within (site_after (w.sites a) Opens)) (with_site w a (site_after (w.sites a) Opens) (addressed a t (said (w.sites a) Opens))) w
        (owned L a (next_ticket (w.sites a)) t o, ops, open_deep t born fits, letter_was t Open Opens tt opens, λ j done. inl done) (no_event o ops w deep)
    comes_deep t kept b born fits tells = steps_deep t b (on_letter (w.sites a) t kept b) born fits tells (acted (w.sites a) t kept b) (not_open law b refl)

    -- a restart
    pub restart_viable : (j : Name) → Viable ops (restarts w a) j → Viable ops w j
    restart_viable j = either (λ v. Viable ops v j → Viable ops w j) (is_within (site_restarted (w.sites a))) (with_site w a (site_restarted (w.sites a)) []) w
        (viable_site law o o ops whole w a (site_restarted (w.sites a)) [] deep.base (restarted_was (ops a) (w.sites a)) (λ c k u here. absurd here) j) (λ viable. viable)

    pub restart_deep : Deep o ops whole (restarts w a)
    restart_deep =
        let s = w.sites a in
        let new = site_restarted s in
        either (λ v. Deep o ops whole v) (is_within new) (with_site w a new []) w
        (let later = restart_later law o w a deep.base.fit in
        let base = base_site law o o ops w a new [] deep.base (site_moves law o w a new [] deep.base.fit later tt) (λ c j h. refl) (restarted_locked law s (deep.base.locked a)) (restarted_steps law (ops a) s (deep.base.data_at a)) tt in
        deep_site law o o ops whole w a new [] deep base (restarted_was (ops a) s) (λ c k u here. absurd here)
        (site_settled law o o ops whole w a new [] deep.base base (λ g. refl) (λ k n i done e. ap restarted e) (λ k n i done e. ⊎_elim (λ was. was) (λ fresh. absurd (fresh.3 done)) (later.comes k n i e))))
        deep

    -- giving up
    pub give_up_deep : (k : Name) → Deep o ops whole (gives_up w a k)
    give_up_deep k = go ((w.sites a).status k) refl
      where
        same_deep : Deep o ops whole (site_steps w a (w.sites a) [])
        same_deep =
            let s = w.sites a in
            let later = same_later o w.desk w.past a s (deep.base.fit.live a) in
            either (λ v. Deep o ops whole v) (is_within s) (with_site w a s []) w
            (let base = base_site law o o ops w a s [] deep.base (site_moves law o w a s [] deep.base.fit later tt) (λ c j h. refl) (deep.base.locked a) (give_up_steps law (ops a) s k Dead (deep.base.data_at a)) tt in
            deep_site law o o ops whole w a s [] deep base (give_up_was (ops a) s k Dead) (λ c j u here. absurd here) (site_settled law o o ops whole w a s [] deep.base base (λ g. refl) (λ j n i done e. e) (λ j n i done e. e)))
            deep

        go : (st : Status L) → (w.sites a).status k ≡ st → Deep o ops whole (site_steps w a (site_after (w.sites a) (on_give_up k st)) [])
        go Dead e = same_deep
        go (Prepared t i) e = same_deep
        go (Active v) e =
            let s = w.sites a in
            let new = site_after s (Ends k []) in
            let later = from_visit o w.desk w.past a s (deep.base.fit.live a) k v Dead new.known e (λ t i row. cc) in
            either (λ x. Deep o ops whole x) (is_within new) (with_site w a new []) w
            (let base = base_site law o o ops w a new [] deep.base (site_moves law o w a new [] deep.base.fit later tt) (λ c j h. refl) (gives_up_locked law s k (Active v) (deep.base.locked a)) (give_up_steps law (ops a) s k (Active v) (deep.base.data_at a)) tt in
            deep_site law o o ops whole w a new [] deep base (give_up_was (ops a) s k (Active v)) (λ c j u here. absurd here)
            (site_settled law o o ops whole w a new [] deep.base base (λ g. refl)
            (λ j n i done row. put_all same same_law k Dead s.status (λ j x. s.status j ≡ Prepared n i → x ≡ Prepared n i) (λ r. let f : Active v ≡ Prepared n i = sym e ∙ r in cc) (λ j apart r. r) j row)
            (λ j n i done row. ⊎_elim (λ was. was) (λ fresh. absurd (fresh.3 done)) (later.comes j n i row))))
            deep

    pub give_up_viable : (k j : Name) → Viable ops (gives_up w a k) j → Viable ops w j
    give_up_viable k j =
        let new = site_after (w.sites a) (on_give_up k ((w.sites a).status k)) in
        either (λ v. Viable ops v j → Viable ops w j) (is_within new) (with_site w a new []) w
        (viable_site law o o ops whole w a new [] deep.base (give_up_was (ops a) (w.sites a) k ((w.sites a).status k)) (λ c i u here. absurd here) j) (λ viable. viable)
