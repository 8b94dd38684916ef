-- Why `relation::place_of` meets its contract.
use Rattle.std.proofs.Common.{rules}
use Rattle.std.proofs.lemmas.Fn.{always_returns_same}
use Rattle.terms.specs.Row.{key_of}
use Rattle.meaning.proofs.Places.{ranked, searched_there, searched_absent, searched_place}
use Rattle.meaning.proofs.relation.place_of.Goals as goal

pub returns-clause-there : goal.returns-clause-there
returns-clause-there c =
    searched_there c.args.rows.now (key_of c.args.row.now) c.binary_search_by.result c.binary_search_by.ensures.bound
    (c.binary_search_by.ensures.position (ranked (key_of c.args.row.now)) (always_returns_same _ _ _ (λ row order closure called. search rules)))

pub returns-clause-absent : goal.returns-clause-absent
returns-clause-absent c =
    searched_absent c.args.rows.now (key_of c.args.row.now) c.binary_search_by.result c.requires c.binary_search_by.ensures.bound
    (c.binary_search_by.ensures.position (ranked (key_of c.args.row.now)) (always_returns_same _ _ _ (λ row order closure called. search rules)))

pub returns-clause-place : goal.returns-clause-place
returns-clause-place c =
    searched_place c.args.rows.now c.args.row.now c.binary_search_by.result c.requires c.binary_search_by.ensures.bound
    (c.binary_search_by.ensures.position (ranked (key_of c.args.row.now)) (always_returns_same _ _ _ (λ row order closure called. search rules)))
