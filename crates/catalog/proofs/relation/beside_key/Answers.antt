use Rattle.std.proofs.Common.{add-one}
use Rattle.terms.specs.declared.value.Kind.TheVariants as kinds
use Rattle.catalog.proofs.RelationTexts.{place_more}
use Rattle.catalog.proofs.relation.beside_key.Goals as goal

pub loop-place-preserved : goal.loop-place-preserved
loop-place-preserved c =
    rw add-one (place_more c.args.columns.now c.loop-place.place kinds.Int c.loop-place.places.items c.push.new.self.items _ c.loop-place-test.true c.in_ok-push.ensures.items c.loop-place.invariant)
