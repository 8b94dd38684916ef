-- Why `read_chain` meets its contract.
use Rattle.std.proofs.Common.{◌≡◌, ◌∷◌, ◌++◌, [], ap, map, rules, subst, sym, ◌∙◌}
use Rattle.std.specs.Vec.Iter.{into_iter_items}
use Rattle.std.proofs.lemmas.List.{map-append}
use Rattle.catalog.specs.Relation.{catalogue_of}
use Rattle.databases.specs.CatalogFiles.{GivesChain}
use Rattle.databases.proofs.CatalogFilesLemmas.{gives_next, told_memory}
use Rattle.databases.proofs.catalog_files.read_chain.Goals as goal

pub returns-in_err-push : goal.returns-in_err-push
returns-in_err-push g c = told_memory g.C.Read.remaining (catalogue_of c.args.first ∷ []) c.args.next.items c.from_residual.result (search rules)

pub returns-in_err-push-2 : goal.returns-in_err-push-2
returns-in_err-push-2 g c = told_memory g.C.Read.remaining (catalogue_of c.args.first ∷ []) c.args.next.items _ (search rules)

pub loop-source-preserved : goal.loop-source-preserved
loop-source-preserved g c = (
  search rules,
  λ result gives.
      let read = map catalogue_of c.loop-source.catalogs.items in
      let more : map catalogue_of c.push-in-loop-source.new.self.items ≡ read ++ catalogue_of c.in_ok-catalog.catalog ∷ [] = ap (map catalogue_of) c.in_ok-push-2.ensures.items ∙ map-append catalogue_of c.loop-source.catalogs.items (c.in_ok-catalog.catalog ∷ []) in
      c.loop-source.invariant.1 result (subst (λ sources. GivesChain g.C.Read.remaining read sources result) (sym c.in-Some.ensures.steps.0)
      (gives_next g.C.Read.remaining read (map catalogue_of c.push-in-loop-source.new.self.items) c.in-Some.source (into_iter_items c.next.new.self) (catalogue_of c.in_ok-catalog.catalog) result c.in_ok-catalog.ensures.ok more gives)),
)
