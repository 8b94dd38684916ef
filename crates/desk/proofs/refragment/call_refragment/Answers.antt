-- Why `call_refragment` meets its contract.
use Rattle.std.proofs.Common.{refl, ◌≡◌, true, Some, ◌++◌, ap, sym, ◌∙◌, subst, suc}
use Rattle.reader.specs.Printable.{AreDistinct}
use Rattle.meaning.specs.declared.statement.Statement.TheVariants as statements
use Rattle.meaning.specs.Statement.{IsStatementOf}
use Rattle.catalog.specs.Chain.{IsNext}
use Rattle.catalog.specs.FragmentLeaf.{schemas_of}
use Rattle.catalog.specs.Relation.{catalogue_of}
use Rattle.desk.specs.declared.reply.Reply.TheVariants as reply
use Rattle.desk.specs.OfCatalogue.{InForce, IsNextOf}
use Rattle.desk.specs.Refragmented.{Refragments}
use Rattle.desk.specs.Request.{notices}
use Rattle.desk.specs.State.{volatile_of}
use Rattle.desk.proofs.Beginning.{past_limit}
use Rattle.desk.proofs.Refragmenting.{begun_are, begun_idle, begun_is, begun_short, no_keys, refragments_by, stated_by}
use Rattle.desk.proofs.refragment.call_refragment.Goals as goal

pub returns-clause-ok : goal.returns-clause-ok
returns-clause-ok c = λ db kept of same next fits.
    let p = c.args.volatile.now in
    let n = p.version in
    let copy = c.in_ok-copy.copy in
    let fits_schema = subst (λ r. IsStatementOf (schemas_of (catalogue_of c.args.catalog.now)) (statements.Refragment r)) (sym c.in_ok-copy.ensures) c.requires in
    let yes = c.is_next.ensures.yes c.if-not-is_next.false in
    let coming : InForce db (suc n) yes.0 = subst (IsNextOf db n) yes.1 next in
    let relation = copy.relation.name in
    let one : IsNext (catalogue_of c.args.catalog.now) (catalogue_of yes.0) relation = subst (λ r. IsNext (catalogue_of c.args.catalog.now) (catalogue_of yes.0) r.relation.name) (sym c.in_ok-copy.ensures) yes.2 in
    let is_next : IsNext (db.catalogue n) (db.catalogue (suc n)) relation = subst (λ cat. IsNext cat (db.catalogue (suc n)) relation) (sym same) (subst (λ cat. IsNext (catalogue_of c.args.catalog.now) cat relation) (sym coming) one) in
    let sites = c.sites.result.now in
    let those : db.sites ≡ sites = of.sites n ∙ ap (λ cat. cat.sites) same ∙ sym c.sites.ensures in
    let old = c.begun-undecided.result in
    let old_is = begun_is old c.in_ok-participants.participants.items sites c.begun-undecided.ensures c.in_ok-participants.ensures in
    let distinct : AreDistinct db.sites = subst AreDistinct (sym (of.sites n)) (of.formed n).distinct in
    subst (λ r. Refragments db (volatile_of p) kept (volatile_of c.begin.new.self) r c.out_of_begin.result.letters c.out_of_begin.result.replies) c.in_ok-copy.ensures
    (refragments_by db kept p.standings.entries p.undecided p.life p.number n (c.is_alone.ensures.yes c.if-not-is_alone.false) fits sites those copy is_next c.in_ok-txn.ensures.few c.in_ok-txn.ensures.low
    c.in_ok-participants.participants.items c.in_ok-participants.ensures old c.start.new.undecided c.begun-undecided.ensures c.in_ok-txn.txn c.in_ok-txn.txn c.in_ok-txn.ensures.txn c.in_ok-txn.ensures.txn c.in_ok-step.step
    (c.in_ok-step.ensures.does db of same (begun_are db old sites old_is those distinct) (begun_idle old sites old_is) (stated_by db of n (catalogue_of c.args.catalog.now) same copy fits_schema is_next))
    (c.in_ok-step.ensures.short (begun_short old sites old_is)) (volatile_of c.begin.new.self) c.in_ok-begin.ensures.ok c.out_of_begin.result.letters c.out_of_begin.result.replies c.out_of_begin.ensures.letters (c.out_of_begin.ensures.replies c.in_ok-room.ensures.empty ∙ ap (λ l. notices c.in_ok-txn.txn (Some reply.Begun) ++ l) (sym c.in_ok-step.ensures.quiet)))

pub returns-in_err-txn-clause-full : goal.returns-in_err-txn-clause-full
returns-in_err-txn-clause-full c = λ db kept fits full.
    let p = c.args.volatile.now in
    past_limit db kept p.standings.entries p.undecided p.life p.number p.version fits db.sites refl true c.in_err-txn.ensures.full.1

pub returns-then-not-is_alone-clause-alone : goal.returns-then-not-is_alone-clause-alone
returns-then-not-is_alone-clause-alone c = λ alone none. c.is_alone.ensures.no c.if-not-is_alone.true (no_keys _ none)

pub returns-clause-next : goal.returns-clause-next
returns-clause-next c = let yes = c.is_next.ensures.yes c.if-not-is_next.false in λ none. (let never = sym yes.1 ∙ none in cc)

pub returns-clause-steps : goal.returns-clause-steps
returns-clause-steps c = record { kept = c.out_of_begin.ensures.kept; err = tt }
