-- Why `open_stores` meets its contract.
use Rattle.std.proofs.Common.{◌≡◌, sym, refl, ap, subst, ◌++◌, ◌∙◌, List, [], ℕ, length, map}
use Rattle.std.proofs.lemmas.List.{length-map}
use Rattle.catalog.specs.declared.relation.SplitRelation.{SplitRelation}
use Rattle.reader.specs.Printable.{AreDistinct}
use Rattle.catalog.specs.Catalogue.{Catalogue}
use Rattle.catalog.specs.FragmentLeaf.{schemas_of}
use Rattle.catalog.specs.Relation.{catalogue_of}
use Rattle.desk.specs.CatalogueDatabase.{database, databases}
use Rattle.world.specs.Chain.{StandsAt, StandsLast, sites_of}
use Rattle.world.specs.Contents.{OfStores, counted, held}
use Rattle.world.specs.Counted.{counts}
use Rattle.world.specs.Machines.{AreFit, Machines}
use Rattle.world.specs.Recovery.{BeginsAnewOver, GoesOnOver, HaveLeaves, lost_by}
use Rattle.world.specs.Settled.{AreDecided}
use Rattle.world.specs.Start.{BeginsWithoutRows}
use Rattle.world.proofs.Anew.{begins_on, going_on, list_begins_on, list_going_on}
use Rattle.world.proofs.ComingUp.{all_sound, came_up, list_came_up, list_up_again, stores_were_clean, up_again, up_fit, up_in_force}
use Rattle.world.proofs.Counting.{fit_uncounted}
use Rattle.world.proofs.DatabaseIsOpened.{placed}
use Rattle.world.proofs.ListCalls.{served_without}
use Rattle.world.proofs.ListIsBase.{head_is, stands_at}
use Rattle.world.proofs.Listing.{stands_as}
use Rattle.world.proofs.OfChain.{ends_from, last_by, last_of}
use Rattle.world.proofs.Recovers.{goes_further, list_further}
use Rattle.world.proofs.Leaves.{ends_alike, ends_last, ends_map, ends_then}
use Rattle.world.proofs.solo.Solo.open_stores.Goals as goal

pub sites_up-requires : goal.sites_up-requires
sites_up-requires g c = c.requires ∙ ap (λ (chain : List (List (List ℕ) × List SplitRelation)). length (sites_of chain)) c.first_of.ensures.1

pub returns-clause-last : goal.returns-clause-last
returns-clause-last g c = λ catalogue at clean.
    let D = g.D.DeskStore in
    let desk = c.in_ok-desk.desk in
    let up = c.in_ok-desk.ensures.up in
    let now = c.recover.ensures.leaves.clean (c.ensure_no_commit_row.ensures.leaves.clean clean) in
    let rises = up.rises (database (catalogue_of c.catalog-catalog.result.now)) (record { sites = ap (λ (x : List (List ℕ) × List SplitRelation). x.0) c.catalog-catalog.ensures; distinct = (c.database_is_of_catalogue.ensures.of_catalogue.formed 0).distinct }) now.0 in
    let last = last_by desk.volatile.version (D.kept c.args.desk).version catalogue _ desk (rises.fits.version ∙ (up.life now.0).version) at c.in_ok-desk.ensures.catalogs in
    let stays = ends_last c.recover.ensures.leaves.catalogs last.none in
    record { is = ap catalogue_of (c.ensure_no_commit_row.ensures.leaves.catalog ∙ stays.0) ∙ last.is; none = c.ensure_no_commit_row.ensures.leaves.later ∙ stays.1 }

pub returns-clause-single : goal.returns-clause-single
returns-clause-single g c = λ catalogue alone.
    let desk = c.in_ok-desk.desk in
    let last = last_of desk.volatile.version catalogue _ desk alone c.in_ok-desk.ensures.catalogs in
    let stays = ends_last c.recover.ensures.leaves.catalogs last.none in
    record { is = ap catalogue_of (c.ensure_no_commit_row.ensures.leaves.catalog ∙ stays.0) ∙ last.is; none = c.ensure_no_commit_row.ensures.leaves.later ∙ stays.1 }

pub returns-clause-catalogs : goal.returns-clause-catalogs
returns-clause-catalogs g c =
    let desk = c.in_ok-desk.desk in
    ends_then (ends_from desk.volatile.version (catalogue_of desk.catalog) (map catalogue_of desk.later.items) (map catalogue_of c.args.chain.now) c.in_ok-desk.ensures.catalogs)
    (ends_then (ends_map catalogue_of c.recover.ensures.leaves.catalogs) (ends_alike (ap catalogue_of c.ensure_no_commit_row.ensures.leaves.catalog) (ap (map catalogue_of) c.ensure_no_commit_row.ensures.leaves.later)))

pub returns-clause-goes_on : goal.returns-clause-goes_on
returns-clause-goes_on g c = λ catalogue at clean.
    let D = g.D.DeskStore in
    let S = g.S.SiteStore in
    let desk = c.in_ok-desk.desk in
    let here = catalogue_of c.catalog-catalog.result.now in
    let db = database here in
    let up = c.in_ok-desk.ensures.up in
    let sites = c.in_ok-sites.sites.items in
    let seats = up_in_force g.S.SiteStore.is_clean g.S.SiteStore.is_sound g.S.SiteStore.kept g.S.SiteStore.refused c.args.chain.now c.first_of.ensures.0 c.first_of.result.now c.in_ok-desk.desk.catalog c.catalog-catalog.result.now c.args.sites.items c.in_ok-sites.sites.items c.first_of.ensures.1 c.catalog-catalog.ensures c.in_ok-desk.ensures.sites c.in_ok-desk.ensures.schemas c.in_ok-sites.ensures.up in
    let first = counted D.kept S.kept D.refused S.refused (record { alloc = c.args.alloc; desk = desk; sites = c.in_ok-sites.sites; traffic = c.none.result }) in
    let middle = counted D.kept S.kept D.refused S.refused c.recover.new.machines in
    let last = counted D.kept S.kept D.refused S.refused c.ensure_no_commit_row.new.machines in
    let of = c.database_is_of_catalogue.ensures.of_catalogue in
    let clean_mid = c.ensure_no_commit_row.ensures.leaves.clean clean in
    let now = c.recover.ensures.leaves.clean clean_mid in
    let rises = up.rises db (record { sites = ap (λ (x : List (List ℕ) × List SplitRelation). x.0) c.catalog-catalog.ensures; distinct = (of.formed 0).distinct }) now.0 in
    let stands = last_by desk.volatile.version (D.kept c.args.desk).version catalogue _ desk (rises.fits.version ∙ (up.life now.0).version) at c.in_ok-desk.ensures.catalogs in
    let sound : OfStores D.is_sound S.is_sound (record { alloc = c.args.alloc; desk = desk; sites = c.in_ok-sites.sites; traffic = c.none.result }) = (up.leaves_store.sound now.0 (up.learnt now.0), all_sound S.is_clean S.is_sound S.kept S.refused here here.sites c.args.sites.items sites seats now.1) in
    subst (λ x. GoesOnOver x (D.kept c.args.desk) (map S.kept c.args.sites.items) last) (ap catalogue_of c.catalog-catalog.ensures ∙ stands.is)
    (λ whole old past have served memory same.
    let places = placed here 0 whole (of.formed 0) served.reached.opens.is_whole in
    let fit = up_fit S.is_clean S.is_sound S.kept S.refused here db 0 whole (of.formed 0) places c.args.sites.items sites seats now.1 have first refl rises stands.none in
    let again = up_again S.is_clean S.is_sound S.kept S.refused here db 0 whole (of.formed 0) places c.args.sites.items sites seats now.1 have first refl rises stands.none in
    let came = came_up S.is_clean S.is_sound S.kept S.refused here db 0 whole (of.formed 0) places c.args.sites.items sites seats now.1 have first refl rises stands.none old served.fit (D.kept c.args.desk) same (up.life now.0) up.memory in
    let goes = goes_further db whole past old middle
    (c.in_ok-recover.ensures.ok db of (ap catalogue_of c.catalog-catalog.ensures) clean_mid sound fit c.one_client_is_a_run.ensures c.restarts_recover.ensures whole (past ++ lost_by db old) again (c.machines_come_up.ensures.served whole old first past served memory came)) in
    going_on db whole past (held D.kept S.kept c.recover.new.machines) (held D.kept S.kept c.ensure_no_commit_row.new.machines) (counts D.refused S.refused c.recover.new.machines) (counts D.refused S.refused c.ensure_no_commit_row.new.machines)
    (c.ensure_no_commit_row.ensures.same clean (c.recover.ensures.leaves.sound clean_mid sound)) goes)

pub returns-clause-anew : goal.returns-clause-anew
returns-clause-anew g c = λ catalogue at clean.
    let D = g.D.DeskStore in
    let S = g.S.SiteStore in
    let desk = c.in_ok-desk.desk in
    let here = catalogue_of c.catalog-catalog.result.now in
    let db = database here in
    let up = c.in_ok-desk.ensures.up in
    let last = c.ensure_no_commit_row.new.machines in
    let clean_mid = c.ensure_no_commit_row.ensures.leaves.clean clean in
    let now = c.recover.ensures.leaves.clean clean_mid in
    let rises = up.rises db (record { sites = ap (λ (x : List (List ℕ) × List SplitRelation). x.0) c.catalog-catalog.ensures; distinct = (c.database_is_of_catalogue.ensures.of_catalogue.formed 0).distinct }) now.0 in
    let stands = last_by desk.volatile.version (D.kept c.args.desk).version catalogue _ desk (rises.fits.version ∙ (up.life now.0).version) at c.in_ok-desk.ensures.catalogs in
    let is : here ≡ catalogue = ap catalogue_of c.catalog-catalog.ensures ∙ stands.is in
    let sound : OfStores D.is_sound S.is_sound (record { alloc = c.args.alloc; desk = desk; sites = c.in_ok-sites.sites; traffic = c.none.result }) = (up.leaves_store.sound now.0 (up.learnt now.0), all_sound S.is_clean S.is_sound S.kept S.refused here here.sites c.args.sites.items c.in_ok-sites.sites.items (up_in_force g.S.SiteStore.is_clean g.S.SiteStore.is_sound g.S.SiteStore.kept g.S.SiteStore.refused c.args.chain.now c.first_of.ensures.0 c.first_of.result.now c.in_ok-desk.desk.catalog c.catalog-catalog.result.now c.args.sites.items c.in_ok-sites.sites.items c.first_of.ensures.1 c.catalog-catalog.ensures c.in_ok-desk.ensures.sites c.in_ok-desk.ensures.schemas c.in_ok-sites.ensures.up) now.1) in
    let sound_mid = c.recover.ensures.leaves.sound clean_mid sound in
    let still = c.ensure_no_commit_row.ensures.same clean sound_mid in
    subst (λ x. BeginsAnewOver x (D.kept c.args.desk) (map S.kept c.args.sites.items) (counted D.kept S.kept D.refused S.refused last)) is
    (λ whole old past have served memory same.
    let goes = returns-clause-goes_on g c here (subst (StandsLast (D.kept c.args.desk).version (map catalogue_of c.args.chain.now)) (sym is) at) clean whole old past have served memory same in
    let fit = subst (AreFit db) still (fit_uncounted db (held D.kept S.kept last) (counts D.refused S.refused last) goes.served.fit) in
    let none = subst (λ (m : Machines). AreDecided m.table []) (sym still) (c.in_ok-ensure_no_commit_row.ensures.none db clean sound_mid fit) in
    begins_on db c.begins_anew.ensures whole past (counted D.kept S.kept D.refused S.refused last) goes none)

pub returns-clause-without_rows : goal.returns-clause-without_rows
returns-clause-without_rows g c = λ catalogue at clean.
    let D = g.D.DeskStore in
    let S = g.S.SiteStore in
    let desk = c.in_ok-desk.desk in
    let here = catalogue_of c.catalog-catalog.result.now in
    let last = c.ensure_no_commit_row.new.machines in
    let up = c.in_ok-desk.ensures.up in
    let now = c.recover.ensures.leaves.clean (c.ensure_no_commit_row.ensures.leaves.clean clean) in
    let rises = up.rises (database here) (record { sites = ap (λ (x : List (List ℕ) × List SplitRelation). x.0) c.catalog-catalog.ensures; distinct = (c.database_is_of_catalogue.ensures.of_catalogue.formed 0).distinct }) now.0 in
    let before = last_by desk.volatile.version (D.kept c.args.desk).version catalogue _ desk (rises.fits.version ∙ (up.life now.0).version) at c.in_ok-desk.ensures.catalogs in
    let is : here ≡ catalogue = ap catalogue_of c.catalog-catalog.ensures ∙ before.is in
    subst (λ x. BeginsWithoutRows x (D.kept c.args.desk) (map S.kept c.args.sites.items) (counted D.kept S.kept D.refused S.refused last)) is
    (λ whole fits empty nothing.
    let many = length-map c.args.sites.items S.kept ∙ (c.requires ∙ sym (ap (λ (sites : List (List ℕ)). length sites) c.in_ok-desk.ensures.sites) ∙ sym (ap (λ (x : List (List ℕ) × List SplitRelation). length x.0) c.catalog-catalog.ensures)) in
    let were = c.new_stores_were_served.ensures whole (D.kept c.args.desk) (map S.kept c.args.sites.items) fits empty many nothing in
    returns-clause-anew g c here (subst (StandsLast (D.kept c.args.desk).version (map catalogue_of c.args.chain.now)) (sym is) at) clean whole were.machines [] nothing.leaves were.served were.memory were.kept)

pub returns-clause-clean : goal.returns-clause-clean
returns-clause-clean g c = λ clean.
    let S = g.S.SiteStore in
    let here = catalogue_of c.catalog-catalog.result.now in
    let now = c.recover.ensures.leaves.clean (c.ensure_no_commit_row.ensures.leaves.clean clean) in
    (c.in_ok-desk.ensures.up.leaves_store.clean now.0, stores_were_clean S.is_clean S.is_sound S.kept S.refused here here.sites c.args.sites.items c.in_ok-sites.sites.items (up_in_force g.S.SiteStore.is_clean g.S.SiteStore.is_sound g.S.SiteStore.kept g.S.SiteStore.refused c.args.chain.now c.first_of.ensures.0 c.first_of.result.now c.in_ok-desk.desk.catalog c.catalog-catalog.result.now c.args.sites.items c.in_ok-sites.sites.items c.first_of.ensures.1 c.catalog-catalog.ensures c.in_ok-desk.ensures.sites c.in_ok-desk.ensures.schemas c.in_ok-sites.ensures.up) now.1)

pub returns-clause-sound : goal.returns-clause-sound
returns-clause-sound g c = λ clean.
    let S = g.S.SiteStore in
    let here = catalogue_of c.catalog-catalog.result.now in
    let up = c.in_ok-desk.ensures.up in
    let clean_mid = c.ensure_no_commit_row.ensures.leaves.clean clean in
    let now = c.recover.ensures.leaves.clean clean_mid in
    c.ensure_no_commit_row.ensures.leaves.sound clean (c.recover.ensures.leaves.sound clean_mid (up.leaves_store.sound now.0 (up.learnt now.0), all_sound S.is_clean S.is_sound S.kept S.refused here here.sites c.args.sites.items c.in_ok-sites.sites.items (up_in_force g.S.SiteStore.is_clean g.S.SiteStore.is_sound g.S.SiteStore.kept g.S.SiteStore.refused c.args.chain.now c.first_of.ensures.0 c.first_of.result.now c.in_ok-desk.desk.catalog c.catalog-catalog.result.now c.args.sites.items c.in_ok-sites.sites.items c.first_of.ensures.1 c.catalog-catalog.ensures c.in_ok-desk.ensures.sites c.in_ok-desk.ensures.schemas c.in_ok-sites.ensures.up) now.1))

-- over every chain
pub returns-clause-lists : goal.returns-clause-lists
returns-clause-lists g c = λ first rest same clean whole old past have served memory kept.
    let D = g.D.DeskStore in
    let S = g.S.SiteStore in
    let db = databases first rest in
    let listed = c.chain_is_listed.ensures first rest same in
    let of = listed.base.of_catalogue in
    let desk = c.in_ok-desk.desk in
    let up = c.in_ok-desk.ensures.up in
    let mid = c.recover.new.machines in
    let last = c.ensure_no_commit_row.new.machines in
    let here = catalogue_of c.first_of.result.now in
    let is : here ≡ first = head_is here first (map catalogue_of c.first_of.ensures.0) rest (sym (ap (map catalogue_of) c.first_of.ensures.1) ∙ same) in
    let clean_mid = c.ensure_no_commit_row.ensures.leaves.clean clean in
    let now = c.recover.ensures.leaves.clean clean_mid in
    let named : db.sites ≡ desk.catalog.0 = sym (ap (λ (x : Catalogue). x.sites) is) ∙ sym (ap sites_of c.first_of.ensures.1) ∙ sym c.in_ok-desk.ensures.sites in
    let rises = up.rises db (record { sites = named; distinct = subst AreDistinct (sym (of.sites 0)) (of.formed 0).distinct }) now.0 in
    let before = counted D.kept S.kept D.refused S.refused (record { alloc = c.args.alloc; desk = desk; sites = c.in_ok-sites.sites; traffic = c.none.result }) in
    let came = list_came_up S.is_clean S.is_sound S.kept S.refused here db of (ap (λ (x : Catalogue). x.sites) is) (ap schemas_of is) c.args.sites.items c.in_ok-sites.sites.items c.in_ok-sites.ensures.up now.1 (subst (λ x. HaveLeaves x (map S.kept c.args.sites.items)) (sym is) have)
    before refl rises old served.fit (D.kept c.args.desk) kept (up.life now.0) up.memory in
    let risen = c.lists_come_up.ensures.goes_on db listed whole old before past served memory came in
    let stands = stands_at desk.volatile.version first rest desk refl (subst (λ (catalogues : List Catalogue). StandsAt desk.volatile.version catalogues desk) same c.in_ok-desk.ensures.catalogs) in
    let sound : OfStores D.is_sound S.is_sound (record { alloc = c.args.alloc; desk = desk; sites = c.in_ok-sites.sites; traffic = c.none.result }) = (up.leaves_store.sound now.0 (up.learnt now.0), all_sound S.is_clean S.is_sound S.kept S.refused here here.sites c.args.sites.items c.in_ok-sites.sites.items c.in_ok-sites.ensures.up now.1) in
    let sound_mid = c.recover.ensures.leaves.sound clean_mid sound in
    let stands_mid = (c.in_ok-recover.ensures.lists db whole (past ++ lost_by db old) listed stands clean_mid sound risen).1 in
    let again = list_up_again S.is_clean S.is_sound S.kept S.refused here db of (ap (λ (x : Catalogue). x.sites) is) (ap schemas_of is) c.args.sites.items c.in_ok-sites.sites.items c.in_ok-sites.ensures.up now.1 (subst (λ x. HaveLeaves x (map S.kept c.args.sites.items)) (sym is) have) before refl rises in
    let still = c.ensure_no_commit_row.ensures.same clean sound_mid in
    let goes_mid = list_further db whole past old (counted D.kept S.kept D.refused S.refused mid) (c.in_ok-recover.ensures.recovers db listed stands clean_mid sound whole (past ++ lost_by db old) again risen) in
    let goes = list_going_on db whole past (held D.kept S.kept mid) (held D.kept S.kept last) (counts D.refused S.refused mid) (counts D.refused S.refused last) still goes_mid in
    let none = subst (λ (m : Machines). AreDecided m.table []) (sym still) (c.in_ok-ensure_no_commit_row.ensures.lists db clean sound_mid (served_without db whole (held D.kept S.kept mid) (counts D.refused S.refused mid) (past ++ goes_mid.more) goes_mid.served).fit) in (
      goes,
      list_begins_on db (c.lists_come_up.ensures.anew db listed) whole past (counted D.kept S.kept D.refused S.refused last) goes none,
      stands_as db mid.desk last.desk (ap (λ (m : Machines). m.table.version) still) c.ensure_no_commit_row.ensures.leaves.catalog c.ensure_no_commit_row.ensures.leaves.later stands_mid,
    )

pub returns-clause-lists_without_rows : goal.returns-clause-lists_without_rows
returns-clause-lists_without_rows g c = λ first rest same clean whole fits empty nothing.
    let S = g.S.SiteStore in
    let here = catalogue_of c.first_of.result.now in
    let is : here ≡ first = head_is here first (map catalogue_of c.first_of.ensures.0) rest (sym (ap (map catalogue_of) c.first_of.ensures.1) ∙ same) in
    let many = length-map c.args.sites.items S.kept ∙ (c.requires ∙ ap (λ (chain : List (List (List ℕ) × List SplitRelation)). length (sites_of chain)) c.first_of.ensures.1 ∙ ap (λ (x : Catalogue). length x.sites) is) in
    let were = c.lists_come_up.ensures.without_rows first rest (c.chain_is_listed.ensures first rest same) whole (g.D.DeskStore.kept c.args.desk) (map S.kept c.args.sites.items) fits empty many nothing in
    let begins = returns-clause-lists g c first rest same clean whole were.machines [] nothing.leaves were.served were.memory were.kept in
    (begins.1, begins.2)
