use Rattle.std.proofs.Common.{◌≡◌, ◌+◌, ◌-◌, ℕ, List, [], ◌∷◌, ◌++◌, length, ap, ap₂, sym, ◌∙◌, append_assoc, length-append, arith}
use Rattle.catalog.specs.declared.fragment_leaf.FragmentLeaf.{FragmentLeaf}
use Rattle.catalog.specs.FragmentLeaf.{leaf_of, leaves_from}
use Rattle.catalog.proofs.NumberedLeaves.{leaves_last, leaves_length}
use Rattle.catalog.proofs.fragment_leaf.put_numbered.Goals as goal

pub loop-path-preserved : goal.loop-path-preserved
loop-path-preserved c =
    let l = c.loop-path in
    let first = c.args.leaves.now.items in
    let relation = c.args.relation.now in
    let columns = c.args.columns.now in
    let counted : length l.leaves.items ≡ length first + length l.yielded =
    ap length l.invariant ∙ length-append first (leaves_from relation columns 1 l.yielded) ∙ ap (λ (n : ℕ). length first + n) (leaves_length relation columns 1 l.yielded) in
    let number : c.len.result - c.len-before.result + 1 ≡ 1 + length l.yielded = omega (arith, counted, c.len.ensures, c.len-before.ensures, l.leaves.ok.0, c.args.leaves.now.ok.0) in
    let one = c.in_ok-next.ensures ∙ ap (λ (n : ℕ). leaf_of relation columns n c.in-Some.path) number in
    c.in_ok-push.ensures.items
    ∙ ap₂ (λ (leaves : List FragmentLeaf) (leaf : FragmentLeaf). leaves ++ leaf ∷ []) l.invariant one
    ∙ append_assoc first (leaves_from relation columns 1 l.yielded) (leaf_of relation columns (1 + length l.yielded) c.in-Some.path ∷ [])
    ∙ ap (λ (leaves : List FragmentLeaf). first ++ leaves) (sym (leaves_last relation columns 1 l.yielded c.in-Some.path))
