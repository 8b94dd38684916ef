-- The name of a transaction that begins.
use Rattle.std.proofs.Common.{◌≡◌, refl, sym, ap, ◌∙◌, Bool, true, false, List, [], ◌∷◌, ◌++◌, map, Option, Some, None, slice_get, subst, if◌then◌else◌}
use Rattle.std.specs.List.{filter_map}
use Rattle.std.specs.Option.{option_map}
use Rattle.store.specs.declared.name.Txn.{Txn}
use Rattle.protocol.specs.Desk.{Deed, desk_began, is_desk_within, next_txn}
use Rattle.protocol.specs.Language.{Lang, Name}
use Rattle.protocol.specs.Letters.{txn_name}
use Rattle.protocol.specs.World.{World, begins, begun}
use Rattle.protocol.proofs.Basics.{if_false, some_is}
use Rattle.desk.specs.declared.reply.Notice.{Notice}
use Rattle.desk.specs.declared.reply.Reply.{Reply}
use Rattle.desk.specs.Database.{Database, language}
use Rattle.desk.specs.State.{desk_of, notice_of}
use Rattle.desk.specs.Transition.{told}
use Rattle.world.specs.Mailbox.{Coming, IsStill, Serves, To_begin, all_come, first_comes}
use Rattle.world.specs.Machines.{Machines, world_of}
use Rattle.world.specs.Client.{DoesBegin}

-- where no letter waits none comes
pub all_silent : {L : Lang} (cs : List (Coming L)) (w : World L) → w.letters ≡ [] → all_come cs w ≡ w
all_silent [] w e = refl
all_silent (c ∷ cs) w e = ap (all_come cs) (ap (first_comes w c) e) ∙ all_silent cs w e

abbrev first_of : Name → List (Name × Reply) → Name
first_of t [] = t
first_of t (reply ∷ replies) = reply.0

-- the first of some notices, if there is just one
named_first : (heard : List Notice) (notice : Notice) (t : Name) (reply : Reply) → slice_get heard 0 ≡ Some notice → map notice_of heard ≡ (t, reply) ∷ [] → txn_name notice.txn ≡ t
named_first [] notice t reply there is = cc
named_first (n ∷ heard) notice t reply there is = ap (λ (x : Notice). txn_name x.txn) (sym (some_is there)) ∙ ap (first_of t) is

none_first : (heard : List Notice) (notice : Notice) → slice_get heard 0 ≡ Some notice → map notice_of heard ≡ [] → ⊥
none_first [] notice there is = cc
none_first (n ∷ heard) notice there is = cc

module _ (db : Database) (before after : Machines) (heard : List Notice) (serves : Serves db To_begin before after heard) where
  abbrev here : World (language db)
  here = world_of db before [] []

  still_silent : (b : Bool) → (if b then begun false here else here).letters ≡ []
  still_silent true = refl
  still_silent false = refl

  done : (begins here).past ≡ serves.deeds
  done = ap (λ (w : World (language db)). w.past) (sym (all_silent serves.comings (begins here) (still_silent (is_desk_within (desk_began here.desk)))) ∙ serves.is [])

  pub begin_names : (notice : Notice) → slice_get heard 0 ≡ Some notice → txn_name notice.txn ≡ next_txn (desk_of db before.table)
  begin_names notice there = go (is_desk_within (desk_began here.desk)) done
    where
      go : (b : Bool) → (if b then begun false here else here).past ≡ serves.deeds → txn_name notice.txn ≡ next_txn (desk_of db before.table)
      go true e = named_first heard notice (next_txn here.desk) _ there (serves.replies ∙ ap (filter_map (told db)) (sym e))
      go false e = absurd (none_first heard notice there (serves.replies ∙ ap (filter_map (told db)) (sym e)))

  begin_room : (notice : Notice) → slice_get heard 0 ≡ Some notice → is_desk_within (desk_began (desk_of db before.table)) ≡ true
  begin_room notice there = go (is_desk_within (desk_began here.desk)) done
    where
      go : (b : Bool) → (if b then begun false here else here).past ≡ serves.deeds → b ≡ true
      go true e = refl
      go false e = absurd (none_first heard notice there (serves.replies ∙ ap (filter_map (told db)) (sym e)))

  first_there : (notices : List Notice) → map notice_of notices ≡ [] → (reply : Name × Reply) → map notice_of notices ≡ reply ∷ [] → ⊥
  first_there notices none reply is = let e : [] ≡ reply ∷ [] = sym none ∙ is in cc

  -- where nothing is heard none has begun, since the coordinator is at a limit
  pub begin_unheard : heard ≡ [] → is_desk_within (desk_began (desk_of db before.table)) ≡ false
  begin_unheard none = go (is_desk_within (desk_began here.desk)) done
    where
      go : (b : Bool) → (if b then begun false here else here).past ≡ serves.deeds → b ≡ false
      go true e = absurd (first_there heard (ap (map notice_of) none) _ (serves.replies ∙ ap (filter_map (told db)) (sym e)))
      go false e = refl

  -- no letter comes of it, so this is where it led
  pub begin_leads : (past : List (Deed (language db))) → begins (world_of db before [] past) ≡ world_of db after [] (past ++ serves.deeds)
  begin_leads past = sym (all_silent serves.comings (begins w) (silent (is_desk_within (desk_began w.desk)))) ∙ serves.is past
    where
      w : World (language db)
      w = world_of db before [] past

      silent : (b : Bool) → (if b then begun false w else w).letters ≡ []
      silent true = refl
      silent false = refl

  -- and nothing has been done
  pub begin_still : heard ≡ [] → IsStill db before after
  begin_still none =
      let none_begun : begins here ≡ here = if_false (is_desk_within (desk_began here.desk)) (begun false here) here (begin_unheard none) in
      let came : world_of db after [] ([] ++ serves.deeds) ≡ here = sym (serves.is []) ∙ all_silent serves.comings (begins here) (still_silent (is_desk_within (desk_began here.desk))) ∙ none_begun in
      record { fit = serves.fit; same = ap (λ (w : World (language db)). record w { past = [] }) came; counts = serves.counts }

  pub begin_done : (txn : Txn) (told : List Notice) → told ≡ heard → option_map (λ notice. notice.txn) (slice_get heard 0) ≡ Some txn → DoesBegin db before txn after told
  begin_done txn told same first = record { named = go (slice_get heard 0) refl first; within = room (slice_get heard 0) refl first; serves = subst (Serves db To_begin before after) (sym same) serves }
    where
      go : (found : Option Notice) → slice_get heard 0 ≡ found → option_map (λ notice. notice.txn) found ≡ Some txn → txn_name txn ≡ next_txn (desk_of db before.table)
      go None e is = cc
      go (Some notice) e is = ap txn_name (sym (some_is is)) ∙ begin_names notice e

      room : (found : Option Notice) → slice_get heard 0 ≡ found → option_map (λ notice. notice.txn) found ≡ Some txn → is_desk_within (desk_began (desk_of db before.table)) ≡ true
      room None e is = cc
      room (Some notice) e is = begin_room notice e
