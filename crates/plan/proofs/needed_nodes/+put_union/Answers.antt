-- Why `needed_nodes::put_union` meets its contract.
use Rattle.std.proofs.Common.{rules, ◌≡◌, ◌≤◌, ◌++◌, ◌/◌, List, [], ◌∷◌, Some, None, map, length, ap, ap₂, refl, sym, ◌∙◌, arith, Bor}
use Rattle.std.proofs.lemmas.List.{take-append-drop}
use Rattle.std.specs.List.{slice_get}
use Rattle.catalog.specs.declared.fragment_leaf.FragmentLeaf.{FragmentLeaf}
use Rattle.plan.specs.declared.postfix.Node.TheVariants as node
use Rattle.plan.specs.Located.{cut_read, united}
use Rattle.plan.specs.Shape.{Shape}
use Rattle.plan.proofs.Putting.{puts_empty, puts_union, reads_one}
use Rattle.plan.proofs.needed_nodes.+put_union.Goals as goal

pub returns-then-leaves-gt1 : goal.returns-then-leaves-gt1
returns-then-leaves-gt1 t c =
    let leaves = c.args.leaves.now in
    let read : Bor FragmentLeaf → Shape = λ leaf. cut_read c.args.need.now c.args.columns.now leaf.now in
    let put : c.push.new.self.items ≡ c.put_union-then-leaves-gt1.new.out.items ++ node.Union ∷ [] = search rules in
    let all : c.split_at.result.0.now ++ c.split_at.result.1.now ≡ leaves = ap₂ (λ (xs ys : List (Bor FragmentLeaf)). xs ++ ys) c.split_at.ensures.front c.split_at.ensures.back ∙ take-append-drop (length leaves / 2) leaves in
    puts_union read c.args.fetches.now c.split_at.result.0.now c.split_at.result.1.now leaves c.args.out.now.items c.put_union.new.out.items c.put_union-then-leaves-gt1.new.out.items c.push.new.self.items all c.in_ok-put_union.ensures c.in_ok-put_union-2.ensures put

-- at most one leaf is the first alone
one_leaf : (leaves : List (Bor FragmentLeaf)) (leaf : Bor FragmentLeaf) → length leaves ≤ 1 → Some leaf ≡ slice_get leaves 0 → leaves ≡ leaf ∷ []
one_leaf [] leaf few first = absurd (cc)
one_leaf (one ∷ []) leaf few first = let same : leaf ≡ one = cc in ap (λ (it : Bor FragmentLeaf). it ∷ []) (sym same)
one_leaf (one ∷ other ∷ leaves) leaf few first = absurd (omega (arith, few))

no_leaf : (leaves : List (Bor FragmentLeaf)) → None ≡ slice_get leaves 0 → leaves ≡ []
no_leaf [] none = refl
no_leaf (one ∷ leaves) none = absurd (cc)

pub returns-in-Some : goal.returns-in-Some
returns-in-Some t c =
    let read : Bor FragmentLeaf → Shape = λ leaf. cut_read c.args.need.now c.args.columns.now leaf.now in
    let few : length c.args.leaves.now ≤ 1 = search rules in
    let first : Some c.in-Some.leaf.now ≡ slice_get c.args.leaves.now 0 = c.in-Some.ensures.value in
    reads_one read c.args.fetches.now c.in-Some.leaf.now c.args.leaves.now c.args.out.now.items c.put_cut_read.new.out.items c.put_cut_read.result refl (one_leaf c.args.leaves.now c.in-Some.leaf.now few first) c.put_cut_read.ensures

pub returns-in_ok-push-in-None : goal.returns-in_ok-push-in-None
returns-in_ok-push-in-None t c =
    let read : Bor FragmentLeaf → Shape = λ leaf. cut_read c.args.need.now c.args.columns.now leaf.now in
    let none : None ≡ slice_get c.args.leaves.now 0 = c.in-None.ensures.value in
    let put : c.push-in-None.new.self.items ≡ c.args.out.now.items ++ node.Empty ∷ [] = search rules in
    puts_empty (λ plan. united plan ≡ map read c.args.leaves.now) c.args.fetches.now c.args.out.now.items c.push-in-None.new.self.items (sym (ap (map read) (no_leaf c.args.leaves.now none))) put
