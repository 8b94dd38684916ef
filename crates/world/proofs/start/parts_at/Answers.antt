-- Why `parts_at` meets its contract.
use Rattle.std.proofs.Common.{◌≡◌, ◌∙◌, ◌+◌, ◌==◌, ap, sym, subst, Bool, false, true, IsSome, List, drop, if◌then◌else◌, ⊎_elim}
use Rattle.std.proofs.lemmas.Bool.{eq-eqb}
use Rattle.std.specs.FinMap as fin
use Rattle.terms.specs.declared.leaf.Leaf.{Leaf}
use Rattle.meaning.specs.Whole.{rows_of}
use Rattle.catalog.specs.declared.fragment_leaf.FragmentLeaf.{FragmentLeaf}
use Rattle.catalog.specs.FragmentLeaf.{catalogue_leaves, schemas_of}
use Rattle.catalog.specs.Relation.{catalogue_of}
use Rattle.store.specs.Content.{Changes, made_by}
use Rattle.store.specs.Slot.{slot_cmp}
use Rattle.protocol.specs.Parts.{In}
use Rattle.world.specs.Filling.{filled, kept_with}
use Rattle.world.specs.Leaves.{known_leaves}
use Rattle.world.proofs.KnownLeaves.{known_at}
use Rattle.world.proofs.NewStores.{next_filled, not_same}
use Rattle.world.proofs.start.parts_at.Goals.{then-leaf-site+in_ok-put_parts, else-leaf-site}
use Rattle.world.proofs.start.parts_at.Goals as goal

pub loop-leaf-init : goal.loop-leaf-init
loop-leaf-init c = record {
  kept = λ name.
      ap (λ (leaves : List FragmentLeaf). filled c.args.whole.now c.args.site leaves name (made_by c.new-parts.result name)) c.leaves-leaf-items.ensures.leaves
      ∙ ap (λ (parts : Changes). filled c.args.whole.now c.args.site (catalogue_leaves (catalogue_of c.args.catalog.now)) name (made_by parts name)) c.new-parts.ensures
      ∙ ap (filled c.args.whole.now c.args.site (catalogue_leaves (catalogue_of c.args.catalog.now)) name) (c.nothing_changes.ensures name fin.empty).0;
  within = λ slot some. absurd (let no : false ≡ true = subst IsSome (ap (λ (parts : Changes). fin.get parts slot) c.new-parts.ensures ∙ fin.get-empty slot_cmp slot) some in cc);
}

pub loop-leaf-preserved : goal.loop-leaf-preserved
loop-leaf-preserved c =
    let whole = c.args.whole.now in
    let site = c.args.site in
    let items = c.leaves-leaf-items.result.now in
    let leaf = c.leaf-item.result in
    let was = c.loop-leaf.parts in
    let now = c.if-leaf-site.parts in
    let more : (name : Leaf) → made_by now name ≡ (if leaf.site == site then kept_with leaf (rows_of whole leaf.name.relation) name (made_by was name) else made_by was name) → filled whole site (drop (c.loop-leaf.leaf-index + 1) items) name (made_by now name) ≡ filled whole site (catalogue_leaves (catalogue_of c.args.catalog.now)) name fin.empty =
    λ name step. next_filled whole site c.loop-leaf.leaf-index items leaf name (made_by was name) (made_by now name) (filled whole site (catalogue_leaves (catalogue_of c.args.catalog.now)) name fin.empty) c.loop-leaf-test.true c.leaf-item.is step (c.loop-leaf.invariant.kept name) in
    elim c.if-leaf-site.branch [
      | then-leaf-site+in_ok-put_parts w ↦ record {
        kept = λ name. more name
            (ap (λ (parts : Changes). made_by parts name) w.parts-is ∙ w.in_ok-put_parts.ensures.kept name ∙ ap (λ rows. kept_with leaf rows name (made_by was name)) w.rows.ensures.rows
            ∙ sym (ap (λ (b : Bool). if b then kept_with leaf (rows_of whole leaf.name.relation) name (made_by was name) else made_by was name) (eq-eqb leaf.site site w.if-leaf-site.true)));
        within = λ slot some. ⊎_elim
            (λ e. subst (λ (name : Leaf). In name (known_leaves (schemas_of (catalogue_of c.args.catalog.now)))) (sym e)
            (known_at (catalogue_of c.args.catalog.now) items c.loop-leaf.leaf-index leaf c.relations-relations.ensures.formed c.leaves-leaf-items.ensures.leaves c.loop-leaf-test.true c.leaf-item.is))
            (λ old. c.loop-leaf.invariant.within slot old)
            (w.in_ok-put_parts.ensures.within slot (subst (λ (parts : Changes). IsSome (fin.get parts slot)) w.parts-is some));
      }
      | else-leaf-site w ↦ record {
        kept = λ name. more name
            (ap (λ (parts : Changes). made_by parts name) w.parts-is
            ∙ sym (ap (λ (b : Bool). if b then kept_with leaf (rows_of whole leaf.name.relation) name (made_by was name) else made_by was name) (not_same leaf.site site w.if-leaf-site.false)));
        within = λ slot some. c.loop-leaf.invariant.within slot (subst (λ (parts : Changes). IsSome (fin.get parts slot)) w.parts-is some);
      }
    ]
