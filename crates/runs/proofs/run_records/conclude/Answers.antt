-- What the parts of a conclusion come to together.
use Rattle.std.proofs.Common.{◌≡◌, ◌++◌, List, ap, flat_map, map, rules, string_bytes, subst, ◌∙◌}
use Rattle.catalog.specs.declared.relation.SplitRelation.{SplitRelation}
use Rattle.catalog.specs.Catalogue.{Catalogue}
use Rattle.catalog.specs.FragmentLeaf.{schemas_of}
use Rattle.catalog.specs.Relation.{catalogue_of}
use Rattle.protocol.specs.Parts.{In}
use Rattle.runs.specs.Run.{ShowsFound, lists_told, relation_lines}
use Rattle.runs.specs.RunText.{verdict_text}
use Rattle.runs.proofs.RunLemmas.{of_catalogues, woven_over}
use Rattle.desk.specs.CatalogueDatabase.{databases}
use Rattle.runs.proofs.RunRecordsLemmas.{all_printed, one_run}
use Rattle.runs.proofs.run_records.conclude.Goals as goal

pub returns-clause-ok : goal.returns-clause-ok
returns-clause-ok g c = λ parts of_parts.
    let catalogue = catalogue_of c.in-Some.catalog.now in
    let catalogues = map catalogue_of c.args.chain.now in
    let machines = c.args.records.machines in
    let in_force = catalogue_of machines.desk.catalog in
    let catalogs = c.args.records.catalogs.items in
    let opening = c.args.records.opening in
    let entries = c.args.records.entries.items in
    let pasts = c.args.records.pasts.items in
    let told = lists_told c.args.conversations.now in
    let verdict = c.in_ok-verdict.verdict in
    let judged = c.in_ok-verdict.ensures in
    let ended = c.put_relations.new.records.machines in
    let prints = c.in_ok-put_relations.ensures.ok in
    let same : catalogue ≡ in_force = c.in-Some.ensures.same ∙ ap catalogue_of c.catalog.ensures in
    let among : In catalogue catalogues = subst (λ (chain : List (List (List _) × List SplitRelation)). In catalogue (map catalogue_of chain)) c.as_slice.ensures.catalogs c.in-Some.ensures.among in
    let names : map (λ relation. relation.name) c.as_slice-relations.result.now ≡ map (λ relation. relation.name) (schemas_of catalogue) = ap (map (λ relation. relation.name)) (search rules) in
    let found = subst (λ names. ShowsFound g.D.DeskStore.is_clean g.D.DeskStore.is_sound g.D.DeskStore.kept g.S.SiteStore.is_clean g.S.SiteStore.is_sound g.S.SiteStore.kept names machines ended prints.shown) (names ∙ ap (λ (over : Catalogue). map (λ relation. relation.name) (schemas_of over)) same) prints.found in
    let given = c.are_of.ensures (search rules) in
    record {
      conversations = c.args.conversations.now;
      of_parts = of_parts;
      machines = machines;
      catalogs = catalogs;
      opening = opening;
      entries = entries;
      pasts = pasts;
      records = c.requires;
      catalog = subst (λ (over : Catalogue). In over catalogues) same among;
      given = given;
      verdict = verdict;
      judged = judged;
      told = search rules;
      one_run = λ first rest is none clean. woven_over g.D.DeskStore.is_clean g.D.DeskStore.is_sound g.D.DeskStore.kept g.S.SiteStore.is_clean g.S.SiteStore.is_sound g.S.SiteStore.kept machines catalogs opening entries pasts told verdict catalogues first rest (c.chain_is_listed.ensures first rest is) given is judged none clean;
      ended = ended;
      shown = prints.shown;
      found = found;
      serial = λ first rest is none clean. one_run g.D.DeskStore.is_clean g.D.DeskStore.is_sound g.D.DeskStore.kept g.S.SiteStore.is_clean g.S.SiteStore.is_sound g.S.SiteStore.kept in_force machines ended catalogs opening entries pasts told (map (λ relation. relation.name) (schemas_of in_force)) prints.shown verdict
          (databases first rest) (c.chain_is_listed.ensures first rest is) (of_catalogues first rest opening.version catalogues (map catalogue_of catalogs) (c.chain_is_listed.ensures first rest is) given is) c.requires found judged none clean;
      printed_is = all_printed (string_bytes c.new-printed.result) _ _ _ (string_bytes c.put_conversations.new.out) (string_bytes c.put_verdict.new.out) (string_bytes c.put_relations.new.out) (search rules) c.in_ok-put_conversations.ensures c.in_ok-put_verdict.ensures prints.printed
          ∙ ap (λ (over : Catalogue). flat_map (λ one. string_bytes one.printed) c.args.conversations.now ++ verdict_text verdict ++ flat_map (relation_lines over) prints.shown) same;
    }
