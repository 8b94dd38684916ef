-- Why `weave` meets its contract.
use Rattle.std.proofs.Common.{◌≡◌, ◌∙◌, ◌∷◌, ap, map, subst, true}
use Rattle.catalog.specs.FragmentLeaf.{schemas_of}
use Rattle.catalog.specs.Relation.{catalogue_of}
use Rattle.history.specs.declared.records.Past.{Past}
use Rattle.history.specs.Picks.{rows_of}
use Rattle.history.specs.Told.{AllStand}
use Rattle.history.specs.Woven.{ArePutTogether, IsSettled}
use Rattle.history.proofs.Woven.{weaves_run}
use Rattle.history.proofs.weave.weave.Given as given
use Rattle.history.proofs.weave.weave.Goals as goal

-- the histories of the records were put together
put_in : (g : given.Over) (c : goal.After-drop-rows-2 g) → ArePutTogether c.args.records.now.machines.desk.catalog.0 (c.args.records.now.entries.items ∷ map (λ (past : Past). past.entries.items) c.args.records.now.pasts.items) c.in_ok-happened.happened.items
put_in g c =
    let happened = c.in_ok-happened.happened.items in
    let rows = ap rows_of c.as_slice.ensures.value ∙ c.in_ok-rows.ensures ∙ (λ i. c.entries-entries.ensures i ∷ map (λ (past : Past). past.entries.items) (c.pasts-pasts.ensures i)) in
    let sites = c.sites.ensures ∙ ap (λ x. x.0) c.catalog-catalog.ensures in
    subst (λ names. ArePutTogether names (c.args.records.now.entries.items ∷ map (λ (past : Past). past.entries.items) c.args.records.now.pasts.items) happened) sites
    (subst (λ all. ArePutTogether c.sites.result.now all happened) rows c.in_ok-happened.ensures.ok)

-- what was told stands in the coordinator's
stand_in : (g : given.Over) (c : goal.After-drop-rows-2 g) → AllStand (schemas_of (catalogue_of c.args.records.now.machines.desk.catalog)) c.args.records.now.entries.items (rows_of c.args.told.now)
stand_in g c =
    subst (λ schemas. AllStand schemas c.args.records.now.entries.items (rows_of c.args.told.now)) (c.schema.ensures.schemas ∙ ap (λ x. schemas_of (catalogue_of x)) c.catalog-catalog.ensures)
    (subst (λ entries. AllStand c.schema.result.now.relations entries (rows_of c.args.told.now)) c.entries-entries.ensures c.in_ok-stand.ensures.ok)

pub returns-clause-woven : goal.returns-clause-woven
returns-clause-woven g c = record { happened = c.in_ok-happened.happened.items; put = put_in g c; told = c.in_ok-events_of.ensures; stand = stand_in g c }

-- nothing was decided or in doubt
settled_in : (g : given.Over) (c : goal.After-drop-rows-2 g) → IsSettled c.args.records.now.opening (map (λ (past : Past). past.opening) c.args.records.now.pasts.items)
settled_in g c =
    let yes : c.is_settled.result ≡ true = let no = c.if-not-is_settled.false in cc in
    subst (λ pasts. IsSettled c.args.records.now.opening (map (λ (past : Past). past.opening) pasts)) c.pasts-pasts.ensures
    (subst (λ opening. IsSettled opening (map (λ (past : Past). past.opening) c.pasts-pasts.result.now)) c.opening-opening.ensures (c.is_settled.ensures.0 yes))

pub returns-clause-run : goal.returns-clause-run
returns-clause-run g c = λ db listed of clean records.
    let now = c.args.records.now in
    weaves_run g.D.DeskStore.is_clean g.D.DeskStore.is_sound g.D.DeskStore.kept g.S.SiteStore.is_clean g.S.SiteStore.is_sound g.S.SiteStore.kept now.machines now.catalogs.items now.opening now.entries.items now.pasts.items db listed of records clean (settled_in g c)
    (c.woven_are_runs.ensures db listed) (c.woven_are_serial.ensures db listed) (rows_of c.args.told.now) c.in_ok-happened.happened.items c.in_ok-events_of.field-0.items (put_in g c) c.in_ok-events_of.ensures (stand_in g c)
