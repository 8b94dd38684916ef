-- What the entries of a run tell, event by event.
use Rattle.std.proofs.Common.{◌≡◌, refl, sym, ap, ◌∙◌, subst, ℕ, Bool, true, false, List, [], ◌∷◌, ◌++◌, map, filter_map, flat_map}
use Rattle.std.proofs.lemmas.List.{append-nil, map-append}
use Rattle.std.proofs.lemmas.List.Elements.{filter_map-append}
use Rattle.std.proofs.lemmas.Grind.{flat_map-append}
use Rattle.meaning.specs.declared.statement.Statement.{Statement}
use Rattle.store.specs.declared.name.Txn as names
use Rattle.protocol.specs.Accepted.{stated_by, stated_of}
use Rattle.protocol.specs.Desk.{Choice, Deed, Transition, desk_after, desk_began, desk_restarted, is_desk_within, next_txn, on_desk_letter, Began}
use Rattle.protocol.specs.Language.{Lang, Name}
use Rattle.protocol.specs.Letter.{Letter, is_for_desk}
use Rattle.protocol.specs.Letters.{txn_name}
use Rattle.protocol.specs.Serial.{phased_of, phases_of}
use Rattle.protocol.specs.Site.{SiteState, is_within, on_letter, said, site_after}
use Rattle.protocol.specs.World as world
use Rattle.protocol.specs.World.{World, addressed, begins, begun, comes, comes_to, desk_lives, desk_restarts, site_steps, turned, turns, with_site}
use Rattle.protocol.proofs.Basics.{either}
use Rattle.desk.specs.declared.reply.Notice.{Notice}
use Rattle.desk.specs.Database.{Database, language}
use Rattle.desk.specs.State.{notice_of}
use Rattle.desk.specs.Transition.{told}
use Rattle.world.specs.declared.event.Entry.{Entry}
use Rattle.world.specs.declared.event.Event as events
use Rattle.world.specs.Events.{IsEvent}
use Rattle.world.specs.Runs.{AreEvents}
use Rattle.world.specs.Replies.{AreStated, Shows, Tells, notices_in, phased_by, phased_in, text_by, texts_in}
use Rattle.world.proofs.Shown.{IsSilent, came_silent, restarted_silent}

-- ---- an entry more
pub one_more : {X A : Type 0} (f : X → List A) (xs : List X) (x : X) → flat_map f (xs ++ x ∷ []) ≡ flat_map f xs ++ f x
one_more f xs x = flat_map-append f xs (x ∷ []) ∙ ap (λ rest. flat_map f xs ++ rest) (append-nil (f x))

stated_both : (db : Database) (xs us : List (names.Txn × List ℕ)) (ys vs : List (Name × (ℕ × Statement))) → AreStated db xs ys → AreStated db us vs → AreStated db (xs ++ us) (ys ++ vs)
stated_both db [] us [] vs one other = other
stated_both db [] us (y ∷ ys) vs one other = absurd one
stated_both db (x ∷ xs) us [] vs one other = absurd one
stated_both db (x ∷ xs) us (y ∷ ys) vs one other = (one.0, stated_both db xs us ys vs one.1 other)

-- one event more, for the catalogue in force in the world that the others lead to
pub event_more : (db : Database) (w : World (language db)) (entries : List Entry) (events : List (world.Event (language db))) (entry : Entry) (e : world.Event (language db)) → AreEvents db w entries events →
    IsEvent db (world.run events w).version entry.event entry.out.kept e → AreEvents db w (entries ++ entry ∷ []) (events ++ e ∷ [])
event_more db w [] [] entry e all is = (is, tt)
event_more db w [] (y ∷ events) entry e all is = absurd all
event_more db w (x ∷ entries) [] entry e all is = absurd all
event_more db w (x ∷ entries) (y ∷ events) entry e all is = (all.0, event_more db (world.happens w y) entries events entry e all.1 is)

pub tells_more : (db : Database) (entries : List Entry) (entry : Entry) (past deeds : List (Deed (language db))) → Tells db entries past → Shows db entry.event entry.out.replies deeds → map notice_of entry.out.replies ≡ filter_map (told db) deeds →
    Tells db (entries ++ entry ∷ []) (past ++ deeds)
tells_more db entries entry past deeds so shows heard = record {
  phased =
      ap (map txn_name) (one_more (λ (e : Entry). phased_by e.event) entries entry) ∙ map-append txn_name (phased_in entries) (phased_by entry.event) ∙ ap (λ front. front ++ map txn_name (phased_by entry.event)) so.phased ∙
      ap (λ back. phases_of past ++ back) shows.phased ∙ sym (flat_map-append phased_of past deeds);
  stated = subst (λ texts. AreStated db texts (stated_of (past ++ deeds))) (sym (one_more (λ (e : Entry). text_by e.event e.out.replies) entries entry))
      (subst (AreStated db (texts_in entries ++ text_by entry.event entry.out.replies)) (sym (flat_map-append stated_by past deeds)) (stated_both db (texts_in entries) (text_by entry.event entry.out.replies) (stated_of past) (stated_of deeds) so.stated shows.stated));
  heard =
      ap (map notice_of) (one_more (λ (e : Entry). e.out.replies) entries entry) ∙ map-append notice_of (notices_in entries) entry.out.replies ∙ ap (λ front. front ++ map notice_of entry.out.replies) so.heard ∙
      ap (λ back. filter_map (told db) past ++ back) heard ∙ sym (filter_map-append (told db) past deeds);
}

-- ---- which steps of the world show nothing
module _ {L : Lang} where
  turn_silent : (w : World L) (t : Name) (turn : Transition L) → w.past ≡ [] → IsSilent turn.deeds → IsSilent (turns w t turn).past
  turn_silent w t turn none silent = either (λ (v : World L). IsSilent v.past) (is_desk_within (desk_after w.desk t turn.txn)) (turned w t turn) w (subst (λ past. IsSilent (past ++ turn.deeds)) (sym none) silent) (subst IsSilent (sym none) (refl, refl))

  site_silent : (w : World L) (a : L.Site) (s : SiteState L) (out : List (Letter L)) → w.past ≡ [] → IsSilent (site_steps w a s out).past
  site_silent w a s out none = either (λ (v : World L). IsSilent v.past) (is_within s) (with_site w a s out) w (subst IsSilent (sym none) (refl, refl)) (subst IsSilent (sym none) (refl, refl))

  pub comes_silent : (w : World L) (kept : Bool) (choice : Choice L) (l : Letter L) → w.past ≡ [] → IsSilent (comes w kept choice l).past
  comes_silent w kept choice l none = go (is_for_desk l.body)
    where
      go : (b : Bool) → IsSilent (comes_to b w kept choice l).past
      go false =
          let act = on_letter (w.sites l.site) l.txn kept l.body in
          site_silent w l.site (site_after (w.sites l.site) act) (addressed l.site l.txn (said (w.sites l.site) act)) none
      go true = turn_silent w l.txn (on_desk_letter l.txn l.site kept choice l.body (w.desk.txn l.txn)) none (came_silent l.txn l.site kept choice l.body (w.desk.txn l.txn))

  pub begins_silent : (w : World L) → w.past ≡ [] → IsSilent (begins w).past
  begins_silent w none = either (λ (v : World L). IsSilent v.past) (is_desk_within (desk_began w.desk)) (begun false w) w (subst (λ past. IsSilent (past ++ Began (next_txn w.desk) ∷ [])) (sym none) (refl, refl)) (subst IsSilent (sym none) (refl, refl))

  pub desk_restarts_silent : (w : World L) → w.past ≡ [] → IsSilent (desk_restarts w).past
  desk_restarts_silent w none = either (λ (v : World L). IsSilent v.past) (is_desk_within (desk_restarted w.desk)) (desk_lives w) w (subst (λ past. IsSilent (past ++ (desk_lives w_bare).past)) (sym none) (restarted_silent w.desk w.desk.known)) (subst IsSilent (sym none) (refl, refl))
    where
      w_bare : World L
      w_bare = record w { past = [] }

  pub at_site_silent : (w : World L) (a : L.Site) (s : SiteState L) (out : List (Letter L)) → w.past ≡ [] → IsSilent (site_steps w a s out).past
  at_site_silent w a s out none = site_silent w a s out none

-- ---- what each event shows
pub quiet_step : (db : Database) (what : events.Event) (heard : List Notice) (deeds : List (Deed (language db))) → phased_by what ≡ [] → text_by what heard ≡ [] → IsSilent deeds → Shows db what heard deeds
quiet_step db what heard deeds no_phase no_text silent = record {
  phased = ap (map txn_name) no_phase ∙ sym silent.0;
  stated = subst (λ texts. AreStated db texts (stated_of deeds)) (sym no_text) (subst (AreStated db []) (sym silent.1) tt);
}
