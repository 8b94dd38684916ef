-- Why `needed_nodes::put_cover` meets its contract.
use Rattle.std.proofs.Common.{◌≡◌, ◌++◌, ◌∙◌, List, [], ap, append-nil, drop, map, sym, Bor}
use Rattle.std.proofs.lemmas.List.{drop_all}
use Rattle.catalog.specs.declared.fragment_leaf.FragmentLeaf.{FragmentLeaf}
use Rattle.plan.specs.Located.{covers, cut_read, united}
use Rattle.plan.specs.Shape.{Shape}
use Rattle.plan.proofs.Putting.{ok_as}
use Rattle.plan.proofs.needed_nodes.put_cover.Goals as goal

pub returns : goal.returns
returns c =
    let need = c.args.need.now in
    let columns = c.args.columns.now in
    let read : Bor FragmentLeaf → Shape = λ leaf. cut_read need columns leaf.now in
    let nothing : covers need columns (drop c.loop-leaf.leaf-index c.args.leaves.now) ≡ [] = ap (covers need columns) (drop_all c.loop-leaf.leaf-index c.args.leaves.now c.loop-leaf-test.false) in
    let all : map read c.as_slice.result.now ≡ covers need columns c.args.leaves.now =
    ap (map read) c.as_slice.ensures.value ∙ sym (append-nil (map read c.loop-leaf.reached.items)) ∙ ap (λ (rest : List Shape). map read c.loop-leaf.reached.items ++ rest) (sym nothing) ∙ c.loop-leaf.invariant in
    ok_as (λ plan. united plan ≡ map read c.as_slice.result.now) (λ plan. united plan ≡ covers need columns c.args.leaves.now) c.args.fetches.now c.args.out.now.items c.put_reads.new.out.items c.put_reads.result
    (λ plan is. is ∙ all) c.put_reads.ensures
