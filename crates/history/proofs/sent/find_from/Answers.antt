-- Why `find_from` meets its contract.
use Rattle.std.proofs.Common.{◌≡◌, ◌+◌, ◌<◌, length, sym, ap, subst, arith}
use Rattle.history.specs.Sent.{behind, letters_of}
use Rattle.history.proofs.Linked.{HasPassed, letters_count, link_at, passed_more, passed_none}
use Rattle.history.proofs.sent.find_from.Goals as goal

pub loop-next-init : goal.loop-next-init
loop-next-init c =
    let links = c.args.links.now in
    passed_none (letters_of links) c.args.letter.now (length links) c.args.newest (sym (letters_count links)) c.requires.newest

pub loop-next-preserved : goal.loop-next-preserved
loop-next-preserved c =
    let links = c.args.links.now in
    let letter = c.args.letter.now in
    let place = c.in-Some.place in
    let link = c.index-links-place.result in
    let passed = subst (HasPassed (letters_of links) letter) c.in-Some.is c.loop-next.invariant in
    let within : place < length links = omega (arith, passed.within, letters_count links) in
    passed_more links letter place link c.requires.linked (link_at links place link within c.index-links-place.is) (λ e. let same = c.same.ensures.1 e in cc) passed

pub loop-next-smaller : goal.loop-next-smaller
loop-next-smaller c =
    let links = c.args.links.now in
    let place = c.in-Some.place in
    let link = c.index-links-place.result in
    let now : behind c.loop-next.next ≡ place + 1 = ap behind c.in-Some.is in
    let within : place < length links = omega (arith, c.loop-next.invariant.within, now, letters_count links) in
    omega (arith, now, (c.requires.linked place link (link_at links place link within c.index-links-place.is)).within)
