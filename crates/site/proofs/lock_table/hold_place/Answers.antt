-- Why `hold_place` meets its contract.
use Rattle.std.proofs.Common.{rules, ◌≡◌, IsSome, Some, [], ◌∷◌, sym, ap, ◌∙◌, subst, inl, refl, cond}
use Rattle.std.specs.BTreeMap.{is_at}
use Rattle.std.specs.Map.{lookup}
use Rattle.store.specs.Name.{ticket_cmp}
use Rattle.store.specs.SiteContent.{is_ticket}
use Rattle.protocol.specs.Parts.{In}
use Rattle.protocol.proofs.Basics.{in_left, in_right}
use Rattle.site.specs.LockTable.{items_in}
use Rattle.site.proofs.LockPlaces.{kept_updates, own_place}
use Rattle.site.proofs.lock_table.hold_place.Goals as goal

pub returns-in_err-push-in-Some-clause-kept : goal.returns-in_err-push-in-Some-clause-kept
returns-in_err-push-in-Some-clause-kept c =
    let there : IsSome (lookup (is_at (ticket_cmp c.args.ticket)) c.args.held.now.entries) = subst IsSome c.in-Some.ensures.value refl in
    let same : c.push.new.self.items ≡ c.in-Some.places.now.items = search rules in
    kept_updates c.args.held.now.entries (c.get_mut.follows.lender c.push.new.self).entries c.args.ticket (Some c.push.new.self) ((c.get_mut.follows.holds c.push.new.self).3 there).0
    (λ place here. subst (In place) (sym same) (subst (λ o. In place (items_in o)) (sym c.in-Some.ensures.value) here))

pub returns-in_ok-push-in-Some-clause-kept : goal.returns-in_ok-push-in-Some-clause-kept
returns-in_ok-push-in-Some-clause-kept c =
    let there : IsSome (lookup (is_at (ticket_cmp c.args.ticket)) c.args.held.now.entries) = subst IsSome c.in-Some.ensures.value refl in
    kept_updates c.args.held.now.entries (c.get_mut.follows.lender c.push.new.self).entries c.args.ticket (Some c.push.new.self) ((c.get_mut.follows.holds c.push.new.self).3 there).0
    (λ place here. subst (In place) (sym c.in_ok-push-in-Some.ensures.items) (in_left place c.in-Some.places.now.items (c.args.place ∷ []) (subst (λ o. In place (items_in o)) (sym c.in-Some.ensures.value) here)))

pub returns-in_ok-push-in-Some-clause-ok : goal.returns-in_ok-push-in-Some-clause-ok
returns-in_ok-push-in-Some-clause-ok c =
    let there : IsSome (lookup (is_at (ticket_cmp c.args.ticket)) c.args.held.now.entries) = subst IsSome c.in-Some.ensures.value refl in
    subst (In c.args.place) (sym (own_place (c.get_mut.follows.lender c.push.new.self).entries c.args.ticket c.push.new.self c.args.held.now.entries ((c.get_mut.follows.holds c.push.new.self).3 there).0 ∙ c.in_ok-push-in-Some.ensures.items))
    (in_right c.args.place c.in-Some.places.now.items (c.args.place ∷ []) (inl refl))

pub returns-in_ok-_none-in-None-clause-kept : goal.returns-in_ok-_none-in-None-clause-kept
returns-in_ok-_none-in-None-clause-kept c =
    kept_updates c.args.held.now.entries c.insert.new.self.entries c.args.ticket (Some c.push-in-None.new.self)
    (λ j. c.in_ok-_none-in-None.ensures.updates.0 j ∙ ap (λ m. cond (is_ticket c.args.ticket j) (Some c.push-in-None.new.self) (lookup (is_at (ticket_cmp j)) m.entries)) c.get_mut.follows.holds-at-none)
    (λ place here. absurd (subst (λ o. In place (items_in o)) (sym c.in-None.ensures.value) here))
