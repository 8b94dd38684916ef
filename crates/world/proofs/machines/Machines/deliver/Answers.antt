-- Why `deliver` meets its contract.
use Rattle.std.proofs.Common.{◌≡◌, ◌⊎◌, nat_eq, true, false, [], inl, refl, sym, subst, ◌∙◌, IfErr, IfOk, IfSome}
use Rattle.std.specs.Cmp.Lexicographic.{pointwise}
use Rattle.std.specs.List.{list_any}
use Rattle.meaning.specs.declared.answer.Answer.TheVariants.{Exists}
use Rattle.world.specs.Counted.{HaveRefused, counts}
use Rattle.world.specs.Contents.{held}
use Rattle.world.specs.Reasons.{Tells}
use Rattle.world.specs.Taking.{CameUnless, ListCameUnless, stop_of}
use Rattle.world.proofs.machines.Machines.deliver.Goals.{in-Ok, in-Err}
use Rattle.world.proofs.CallsKept.{any_ok, reply_keeps}
use Rattle.world.proofs.Seating.{seat_there}
use Rattle.world.proofs.Machinery.{fits_list}
use Rattle.world.proofs.Spared.{list_order_spared, list_reply_spared, order_spared, reply_spared}
use Rattle.world.specs.Stopping.{StopsFor}
use Rattle.world.proofs.Stops.{desk_stops}
use Rattle.world.proofs.Listing.{desk_stays, stands_same}
use Rattle.world.specs.Listed.{ListCame, StandsIn}
use Rattle.world.specs.Frame.{StaysInForce}
use Rattle.std.proofs.Common.{OnErr}
use Rattle.world.proofs.Leaves.{leaves_so}
use Rattle.world.proofs.machines.Machines.deliver.Goals as goal

-- an order evaluates nothing, so any answer will do
pub returns-in-Ok-at_site-clause-ok : goal.returns-in-Ok-at_site-clause-ok
returns-in-Ok-at_site-clause-ok g c = λ db of is clean sound fit of_site.
    let name = c.args.letter.site in
    let seat = seat_there name (held g.D.DeskStore.kept g.S.SiteStore.kept c.args.self.now).seats (subst (λ names. list_any (λ site. pointwise nat_eq site name) names ≡ true) (sym fit.names) of_site) in
    record { choice = (Exists, []); within = c.in-Ok-at_site.ensures.within db (Exists, []) seat.0 c.args.letter clean sound fit refl seat.1; leads = c.in-Ok-at_site.ensures.ok db (Exists, []) seat.0 clean sound fit seat.1 }

pub returns-then-not-is_order-clause-told : goal.returns-then-not-is_order-clause-told
returns-then-not-is_order-clause-told g c = λ db of stands fit of_site.
    let before = held g.D.DeskStore.kept g.S.SiteStore.kept c.args.self.now in
    let no_order = sym c.is_order.ensures ∙ c.if-not-is_order.true in
    elim c.match-reply.branch [
      | in-Ok w ↦ subst (λ result. IfErr result (Tells db before c.args.letter)) (sym w.result-is) tt
      | in-Err w ↦ subst (λ result. IfErr result (Tells db before c.args.letter)) (sym w.result-is) (w.in-Err.ensures.told db of stands fit no_order of_site)
    ]

pub returns-in-Err-at_site-clause-told : goal.returns-in-Err-at_site-clause-told
returns-in-Err-at_site-clause-told g c = λ db of stands fit of_site.
    let name = c.args.letter.site in
    let seat = seat_there name (held g.D.DeskStore.kept g.S.SiteStore.kept c.args.self.now).seats (subst (λ names. list_any (λ site. pointwise nat_eq site name) names ≡ true) (sym fit.names) of_site) in
    (seat.0, (seat.1, c.in-Err-at_site.ensures.told c.args.letter seat.0 refl seat.1))

pub returns-in-Ok-at_site-clause-keeps : goal.returns-in-Ok-at_site-clause-keeps
returns-in-Ok-at_site-clause-keeps g c = λ db of is clean sound fit of_site.
    let name = c.args.letter.site in
    let seat = seat_there name (held g.D.DeskStore.kept g.S.SiteStore.kept c.args.self.now).seats (subst (λ names. list_any (λ site. pointwise nat_eq site name) names ≡ true) (sym fit.names) of_site) in
    c.in-Ok-at_site.ensures.keeps db seat.0 c.args.letter clean sound fit refl seat.1

pub returns-then-not-is_order-clause-keeps : goal.returns-then-not-is_order-clause-keeps
returns-then-not-is_order-clause-keeps g c = λ db of is clean sound fit of_site. any_ok _ (λ out. reply_keeps db c.args.letter.site c.args.letter.body out.kept (sym c.is_order.ensures ∙ c.if-not-is_order.true))

pub returns-in-Ok-at_site-clause-spared : goal.returns-in-Ok-at_site-clause-spared
returns-in-Ok-at_site-clause-spared g c = λ db of is clean sound fit of_site.
    let name = c.args.letter.site in
    let before = held g.D.DeskStore.kept g.S.SiteStore.kept c.args.self.now in
    let after = held g.D.DeskStore.kept g.S.SiteStore.kept c.at_site.new.self in
    let out = c.in-Ok-at_site.out in
    let seat = seat_there name before.seats (subst (λ names. list_any (λ site. pointwise nat_eq site name) names ≡ true) (sym fit.names) of_site) in
    order_spared ((c.args.kept ≡ false) ⊎ HaveRefused (counts g.D.DeskStore.refused g.S.SiteStore.refused c.args.self.now) (counts g.D.DeskStore.refused g.S.SiteStore.refused c.at_site.new.self)) db c.args.letter before after out.letters out.replies out.kept seat.0 seat.1
    (sym c.is_order.ensures ∙ c.if-not-is_order.false)
    (c.in-Ok-at_site.ensures.keeps db seat.0 c.args.letter clean sound (fits_list db before fit) refl seat.1)
    (record { choice = (Exists, []); within = c.in-Ok-at_site.ensures.within db (Exists, []) seat.0 c.args.letter clean sound fit refl seat.1; leads = c.in-Ok-at_site.ensures.ok db (Exists, []) seat.0 clean sound fit seat.1 })
    (λ asks. c.in-Ok-at_site.ensures.vote c.args.letter seat.0 refl seat.1 asks)

pub returns-then-not-is_order-clause-spared : goal.returns-then-not-is_order-clause-spared
returns-then-not-is_order-clause-spared g c = λ db of is clean sound fit of_site.
    let before = held g.D.DeskStore.kept g.S.SiteStore.kept c.args.self.now in
    let after = held g.D.DeskStore.kept g.S.SiteStore.kept c.reply.new.self in
    let Refused = (c.args.kept ≡ false) ⊎ HaveRefused (counts g.D.DeskStore.refused g.S.SiteStore.refused c.args.self.now) (counts g.D.DeskStore.refused g.S.SiteStore.refused c.reply.new.self) in
    let no_order = sym c.is_order.ensures ∙ c.if-not-is_order.true in
    elim c.match-reply.branch [
      | in-Ok w ↦ subst (λ result. IfOk result (λ out. CameUnless Refused db c.args.letter before after out.letters out.replies)) (sym w.result-is)
          (reply_spared Refused db c.args.letter before after w.in-Ok.out.letters w.in-Ok.out.replies w.in-Ok.out.kept (reply_keeps db c.args.letter.site c.args.letter.body w.in-Ok.out.kept no_order) (w.in-Ok.ensures.ok db of is clean sound fit no_order of_site) w.in-Ok.ensures.refusal)
      | in-Err w ↦ subst (λ result. IfOk result (λ out. CameUnless Refused db c.args.letter before after out.letters out.replies)) (sym w.result-is) tt
    ]

-- so whichever catalogue comes into force
pub returns-in-Ok-at_site-clause-spared_lists : goal.returns-in-Ok-at_site-clause-spared_lists
returns-in-Ok-at_site-clause-spared_lists g c = λ db of stands clean sound fit of_site.
    let name = c.args.letter.site in
    let before = held g.D.DeskStore.kept g.S.SiteStore.kept c.args.self.now in
    let after = held g.D.DeskStore.kept g.S.SiteStore.kept c.at_site.new.self in
    let out = c.in-Ok-at_site.out in
    let seat = seat_there name before.seats (subst (λ names. list_any (λ site. pointwise nat_eq site name) names ≡ true) (sym fit.names) of_site) in
    list_order_spared ((c.args.kept ≡ false) ⊎ HaveRefused (counts g.D.DeskStore.refused g.S.SiteStore.refused c.args.self.now) (counts g.D.DeskStore.refused g.S.SiteStore.refused c.at_site.new.self)) db c.args.letter before after out.letters out.replies out.kept seat.0 seat.1
    (sym c.is_order.ensures ∙ c.if-not-is_order.false)
    (c.in-Ok-at_site.ensures.keeps db seat.0 c.args.letter clean sound fit refl seat.1)
    (record { choice = (Exists, []); within = c.in-Ok-at_site.ensures.passes db (Exists, []) seat.0 c.args.letter clean sound fit refl seat.1; leads = c.in-Ok-at_site.ensures.lists db (Exists, []) seat.0 clean sound fit seat.1 })
    (λ asks. c.in-Ok-at_site.ensures.vote c.args.letter seat.0 refl seat.1 asks)

pub returns-then-not-is_order-clause-spared_lists : goal.returns-then-not-is_order-clause-spared_lists
returns-then-not-is_order-clause-spared_lists g c = λ db of stands clean sound fit of_site.
    let before = held g.D.DeskStore.kept g.S.SiteStore.kept c.args.self.now in
    let after = held g.D.DeskStore.kept g.S.SiteStore.kept c.reply.new.self in
    let Refused = (c.args.kept ≡ false) ⊎ HaveRefused (counts g.D.DeskStore.refused g.S.SiteStore.refused c.args.self.now) (counts g.D.DeskStore.refused g.S.SiteStore.refused c.reply.new.self) in
    let no_order = sym c.is_order.ensures ∙ c.if-not-is_order.true in
    elim c.match-reply.branch [
      | in-Ok w ↦ subst (λ result. IfOk result (λ out. ListCameUnless Refused db c.args.letter before after out.letters out.replies)) (sym w.result-is)
          (list_reply_spared Refused db c.args.letter before after w.in-Ok.out.letters w.in-Ok.out.replies w.in-Ok.out.kept (reply_keeps db c.args.letter.site c.args.letter.body w.in-Ok.out.kept no_order) (w.in-Ok.ensures.lists db of stands clean sound fit no_order of_site).0 w.in-Ok.ensures.refusal)
      | in-Err w ↦ subst (λ result. IfOk result (λ out. ListCameUnless Refused db c.args.letter before after out.letters out.replies)) (sym w.result-is) tt
    ]

pub returns-in-Err-at_site-clause-blames : goal.returns-in-Err-at_site-clause-blames
returns-in-Err-at_site-clause-blames g c = c.in-Err-at_site.ensures.blames c.args.letter refl

pub returns-then-not-is_order-clause-blames : goal.returns-then-not-is_order-clause-blames
returns-then-not-is_order-clause-blames g c = λ made clean sound.
    elim c.match-reply.branch [
      | in-Ok w ↦ subst (λ result. IfErr result (λ told. IfSome (stop_of told) (StopsFor (counts g.D.DeskStore.refused g.S.SiteStore.refused c.args.self.now) (counts g.D.DeskStore.refused g.S.SiteStore.refused c.reply.new.self)))) (sym w.result-is) tt
      | in-Err w ↦ subst (λ result. IfErr result (λ told. IfSome (stop_of told) (StopsFor (counts g.D.DeskStore.refused g.S.SiteStore.refused c.args.self.now) (counts g.D.DeskStore.refused g.S.SiteStore.refused c.reply.new.self)))) (sym w.result-is) (desk_stops (counts g.D.DeskStore.refused g.S.SiteStore.refused c.args.self.now) (counts g.D.DeskStore.refused g.S.SiteStore.refused c.reply.new.self) w.in-Err.refusal w.in-Err.ensures.own)
    ]

pub returns-in-Ok-at_site-clause-lists : goal.returns-in-Ok-at_site-clause-lists
returns-in-Ok-at_site-clause-lists g c = λ db of stands clean sound fit of_site.
    let name = c.args.letter.site in
    let seat = seat_there name (held g.D.DeskStore.kept g.S.SiteStore.kept c.args.self.now).seats (subst (λ names. list_any (λ site. pointwise nat_eq site name) names ≡ true) (sym fit.names) of_site) in (
      record { choice = (Exists, []); within = c.in-Ok-at_site.ensures.passes db (Exists, []) seat.0 c.args.letter clean sound fit refl seat.1; leads = c.in-Ok-at_site.ensures.lists db (Exists, []) seat.0 clean sound fit seat.1 },
      stands_same db c.args.self.now.desk c.at_site.new.self.desk c.at_site.ensures.desk stands,
    )

pub returns-then-not-is_order-clause-lists : goal.returns-then-not-is_order-clause-lists
returns-then-not-is_order-clause-lists g c = λ db of stands clean sound fit of_site.
    let before = held g.D.DeskStore.kept g.S.SiteStore.kept c.args.self.now in
    let after = held g.D.DeskStore.kept g.S.SiteStore.kept c.reply.new.self in
    let no_order = sym c.is_order.ensures ∙ c.if-not-is_order.true in
    elim c.match-reply.branch [
      | in-Ok w ↦ subst (λ result. IfOk result (λ out. ListCame db c.args.letter out.kept before after out.letters out.replies × StandsIn db c.reply.new.self.desk)) (sym w.result-is) (w.in-Ok.ensures.lists db of stands clean sound fit no_order of_site)
      | in-Err w ↦ subst (λ result. IfOk result (λ out. ListCame db c.args.letter out.kept before after out.letters out.replies × StandsIn db c.reply.new.self.desk)) (sym w.result-is) tt
    ]

pub returns-then-not-is_order-clause-stays : goal.returns-then-not-is_order-clause-stays
returns-then-not-is_order-clause-stays g c =
    elim c.match-reply.branch [
      | in-Ok w ↦ subst (λ result. OnErr result (StaysInForce c.args.self.now c.reply.new.self)) (sym w.result-is) tt
      | in-Err w ↦ subst (λ result. OnErr result (StaysInForce c.args.self.now c.reply.new.self)) (sym w.result-is) w.in-Err.ensures.stays
    ]

pub returns-in-Err-at_site-clause-stays : goal.returns-in-Err-at_site-clause-stays
returns-in-Err-at_site-clause-stays g c = desk_stays c.args.self.now c.at_site.new.self c.at_site.ensures.desk

pub returns-in-Ok-at_site-clause-leaves : goal.returns-in-Ok-at_site-clause-leaves
returns-in-Ok-at_site-clause-leaves g c = leaves_so g.D.DeskStore.is_clean g.S.SiteStore.is_clean g.D.DeskStore.is_sound g.S.SiteStore.is_sound g.D.DeskStore.refused g.S.SiteStore.refused c.args.self.now c.at_site.new.self c.at_site.ensures.leaves

pub returns-in-Err-at_site-clause-leaves : goal.returns-in-Err-at_site-clause-leaves
returns-in-Err-at_site-clause-leaves g c = leaves_so g.D.DeskStore.is_clean g.S.SiteStore.is_clean g.D.DeskStore.is_sound g.S.SiteStore.is_sound g.D.DeskStore.refused g.S.SiteStore.refused c.args.self.now c.at_site.new.self c.at_site.ensures.leaves

pub returns-in-Ok-at_site-clause-follows : goal.returns-in-Ok-at_site-clause-follows
returns-in-Ok-at_site-clause-follows g c = inl (c.at_site.ensures.leaves.catalog, c.at_site.ensures.leaves.later)

pub returns-in-Err-at_site-clause-follows : goal.returns-in-Err-at_site-clause-follows
returns-in-Err-at_site-clause-follows g c = inl (c.at_site.ensures.leaves.catalog, c.at_site.ensures.leaves.later)
