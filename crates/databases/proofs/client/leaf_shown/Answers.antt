use Rattle.std.proofs.Common.{◌≡◌, None, Option, Some, ap, refl, string_bytes, subst, sym, ◌∙◌}
use Rattle.std.proofs.lemmas.Result.{IfOk-weaker}
use Rattle.terms.specs.declared.leaf.Leaf.{Leaf}
use Rattle.catalog.specs.FragmentLeaf.{catalogue_leaves}
use Rattle.catalog.specs.Relation.{catalogue_of}
use Rattle.databases.specs.Client.{ShowsLeafAs, seen_over, standing_of}
use Rattle.databases.specs.ListClient.{TellsLeafAsOver, list_standing_of}
use Rattle.databases.specs.Shown.{parts_text, written_leaf}
use Rattle.databases.proofs.client.leaf_shown.Goals as goal

pub returns-in-Some : goal.returns-in-Some
returns-in-Some g c = record {
  clean = c.parts_shown.ensures.clean;
  answers = λ catalogue whole past clean h.
      let seen = seen_over g.D.DeskStore.is_clean g.S.SiteStore.is_clean g.D.DeskStore.is_sound g.S.SiteStore.is_sound g.D.DeskStore.kept g.S.SiteStore.kept g.D.DeskStore.refused g.S.SiteStore.refused in
      let over = ap catalogue_of c.catalog.ensures ∙ h.catalog in
      let is : Some c.in-Some.leaf ≡ written_leaf c.args.name.now (catalogue_leaves catalogue) =
      sym c.in-Some.is ∙ c.in_ok-leaf.ensures ∙ ap (written_leaf c.args.name.now) (c.leaves.ensures.leaves ∙ ap catalogue_leaves over) in
      IfOk-weaker c.parts_shown.result _ _ (λ text shown. record {
        later = past;
        goes_on = shown.0;
        answers = subst (λ (found : Option Leaf). ShowsLeafAs c.args.mode catalogue c.args.name.now found (standing_of seen catalogue c.args.database.now past) (standing_of seen catalogue c.parts_shown.new.database past) (string_bytes text)) is shown.1;
      }) (c.parts_shown.ensures.shown catalogue whole past clean h);
  over = λ db whole happened listed clean h.
      let seen = seen_over g.D.DeskStore.is_clean g.S.SiteStore.is_clean g.D.DeskStore.is_sound g.S.SiteStore.is_sound g.D.DeskStore.kept g.S.SiteStore.kept g.D.DeskStore.refused g.S.SiteStore.refused in
      let over = ap catalogue_of c.catalog.ensures ∙ sym h.here in
      let is : Some c.in-Some.leaf ≡ written_leaf c.args.name.now (catalogue_leaves (db.catalogue c.args.database.now.machines.desk.volatile.version)) =
      sym c.in-Some.is ∙ c.in_ok-leaf.ensures ∙ ap (written_leaf c.args.name.now) (c.leaves.ensures.leaves ∙ ap catalogue_leaves over) in
      IfOk-weaker c.parts_shown.result _ _ (λ text shown. record {
        later = happened;
        goes_on = shown.0;
        answers = subst (λ (found : Option Leaf). TellsLeafAsOver c.args.mode db (λ catalogue. parts_text c.args.mode catalogue c.args.name.now) c.args.name.now found (list_standing_of seen c.args.database.now happened) (list_standing_of seen c.parts_shown.new.database happened) (string_bytes text)) is shown.1;
      }) (c.parts_shown.ensures.over db whole happened listed clean h);
  err = c.parts_shown.ensures.err;
}

pub returns-in_ok-no_leaf-in-None : goal.returns-in_ok-no_leaf-in-None
returns-in_ok-no_leaf-in-None g c = record {
  clean = λ clean. clean;
  answers = λ catalogue whole past clean h.
      let seen = seen_over g.D.DeskStore.is_clean g.S.SiteStore.is_clean g.D.DeskStore.is_sound g.S.SiteStore.is_sound g.D.DeskStore.kept g.S.SiteStore.kept g.D.DeskStore.refused g.S.SiteStore.refused in
      let over = ap catalogue_of c.catalog.ensures ∙ h.catalog in
      let is : None ≡ written_leaf c.args.name.now (catalogue_leaves catalogue) =
      sym c.in-None.is ∙ c.in_ok-leaf.ensures ∙ ap (written_leaf c.args.name.now) (c.leaves.ensures.leaves ∙ ap catalogue_leaves over) in
      let here = standing_of seen catalogue c.args.database.now past in
      record {
        later = past;
        goes_on = h;
        answers = subst (λ (found : Option Leaf). ShowsLeafAs c.args.mode catalogue c.args.name.now found here here (string_bytes c.in_ok-no_leaf-in-None.field-0)) is (record { machines = refl; current = refl; past = refl }, c.in_ok-no_leaf-in-None.ensures);
      };
  over = λ db whole happened listed clean h.
      let seen = seen_over g.D.DeskStore.is_clean g.S.SiteStore.is_clean g.D.DeskStore.is_sound g.S.SiteStore.is_sound g.D.DeskStore.kept g.S.SiteStore.kept g.D.DeskStore.refused g.S.SiteStore.refused in
      let over = ap catalogue_of c.catalog.ensures ∙ sym h.here in
      let is : None ≡ written_leaf c.args.name.now (catalogue_leaves (db.catalogue c.args.database.now.machines.desk.volatile.version)) =
      sym c.in-None.is ∙ c.in_ok-leaf.ensures ∙ ap (written_leaf c.args.name.now) (c.leaves.ensures.leaves ∙ ap catalogue_leaves over) in
      let here = list_standing_of seen c.args.database.now happened in
      record {
        later = happened;
        goes_on = h;
        answers = subst (λ (found : Option Leaf). TellsLeafAsOver c.args.mode db (λ catalogue. parts_text c.args.mode catalogue c.args.name.now) c.args.name.now found here here (string_bytes c.in_ok-no_leaf-in-None.field-0)) is (record { machines = refl; current = refl; happened = refl }, c.in_ok-no_leaf-in-None.ensures);
      };
  err = tt;
}
