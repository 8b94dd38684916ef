-- What a search among linked letters begins with.
use Rattle.std.proofs.Common.{◌≡◌, ◌∙◌, length, sym, subst}
use Rattle.std.specs.BTreeMap.{get}
use Rattle.store.specs.Name.{txn_cmp}
use Rattle.history.specs.Sent.{AreLinked, IsNewest, letters_of}
use Rattle.history.proofs.sent.Sent.find.Goals as goal

pub find_from-requires-clause-linked : goal.find_from-requires-clause-linked
find_from-requires-clause-linked c = subst AreLinked (sym c.as_slice.ensures.value) c.self.invariant.linked

pub find_from-requires-clause-newest : goal.find_from-requires-clause-newest
find_from-requires-clause-newest c =
    let txn = c.args.letter.now.txn in
    let found : c.copied-newest.result ≡ get txn_cmp c.self.inside.newest txn = c.copied-newest.ensures ∙ c.get.ensures.value in
    subst (λ links. IsNewest (letters_of links) (length links) txn c.copied-newest.result) (sym c.as_slice.ensures.value)
    (subst (λ place. IsNewest (letters_of c.self.inside.links.items) (length c.self.inside.links.items) txn place) (sym found) (c.self.invariant.newest_of txn))
