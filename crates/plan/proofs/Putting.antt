-- Nodes that are put out one plan after the other are those of the plan that is made of them.
use Rattle.std.proofs.Common.{◌≡◌, List, [], ◌∷◌, ◌++◌, map, ap, ap₂, sym, subst, ◌∙◌, append_assoc, Result, Ok, Err, OnOk}
use Rattle.std.proofs.lemmas.List.{map-append}
use Rattle.terms.specs.declared.cond.Cond.{Cond}
use Rattle.terms.specs.declared.memory.Memory.{Memory}
use Rattle.catalog.specs.Catalogue.{Catalogue}
use Rattle.plan.specs.declared.fetch.Fetch as fetch
use Rattle.plan.specs.declared.link.Link.{Link}
use Rattle.plan.specs.declared.need.Need.{Need}
use Rattle.plan.specs.declared.postfix.Node.{Node}
use Rattle.plan.specs.declared.postfix.Node.TheVariants as node
use Rattle.plan.specs.Located.{IsOfJoined, IsOfNeed, PutsPlan, united}
use Rattle.plan.specs.Postfix.{postfix}
use Rattle.plan.specs.Reduced.{is_fetched, reduced}
use Rattle.plan.specs.Shape.{Shape, Empty, Filter, Union, KeyJoin, Lookup}

-- nodes behind those of one plan, and of two
behind_one : (before one last between nodes : List Node) → between ≡ before ++ one → nodes ≡ between ++ last → nodes ≡ before ++ (one ++ last)
behind_one before one last between nodes here then = then ∙ ap (λ (front : List Node). front ++ last) here ∙ append_assoc before one last

pub behind_two : (before one other last between both nodes : List Node) → between ≡ before ++ one → both ≡ between ++ other → nodes ≡ both ++ last → nodes ≡ before ++ (one ++ (other ++ last))
behind_two before one other last between both nodes here there then =
    behind_one before one (other ++ last) between nodes here (behind_one between other last both nodes there then)

-- another word for the plan
pub puts_as : (IsSuch IsOther : Shape → Type 0) (fetches : List fetch.Fetch) (before nodes : List Node) → ((plan : Shape) → IsSuch plan → IsOther plan) → PutsPlan IsSuch fetches before nodes → PutsPlan IsOther fetches before nodes
puts_as IsSuch IsOther fetches before nodes as_other puts = record { plan = puts.plan; is = as_other puts.plan puts.is; put = puts.put }

pub ok_as : (IsSuch IsOther : Shape → Type 0) (fetches : List fetch.Fetch) (before nodes : List Node) (result : Result (Unit {0}) Memory) → ((plan : Shape) → IsSuch plan → IsOther plan) → OnOk result (PutsPlan IsSuch fetches before nodes) → OnOk result (PutsPlan IsOther fetches before nodes)
ok_as IsSuch IsOther fetches before nodes (Ok done) as_other puts = puts_as IsSuch IsOther fetches before nodes as_other puts
ok_as IsSuch IsOther fetches before nodes (Err error) as_other puts = tt

pub puts_empty : (IsSuch : Shape → Type 0) (fetches : List fetch.Fetch) (before nodes : List Node) → IsSuch Empty → nodes ≡ before ++ node.Empty ∷ [] → PutsPlan IsSuch fetches before nodes
puts_empty IsSuch fetches before nodes is put = record { plan = Empty; is = is; put = put }

pub puts_filter : (IsSuch IsOther : Shape → Type 0) (fetches : List fetch.Fetch) (conds : List Cond) (before between nodes : List Node) → ((below : Shape) → IsSuch below → IsOther (Filter conds below)) → PutsPlan IsSuch fetches before between → nodes ≡ between ++ node.Filter conds ∷ [] →
    PutsPlan IsOther fetches before nodes
puts_filter IsSuch IsOther fetches conds before between nodes is_other below put = record {
  plan = Filter conds below.plan;
  is = is_other below.plan below.is;
  put = behind_one before (postfix (reduced (is_fetched fetches) below.plan)) (node.Filter conds ∷ []) between nodes below.put put;
}

pub puts_union : {A : Type 0} (read : A → Shape) (fetches : List fetch.Fetch) (front back leaves : List A) (before between both nodes : List Node) → front ++ back ≡ leaves → PutsPlan (λ plan. united plan ≡ map read front) fetches before between →
    PutsPlan (λ plan. united plan ≡ map read back) fetches between both → nodes ≡ both ++ node.Union ∷ [] → PutsPlan (λ plan. united plan ≡ map read leaves) fetches before nodes
puts_union read fetches front back leaves before between both nodes all one other put = record {
  plan = Union one.plan other.plan;
  is = ap₂ (λ (xs ys : List Shape). xs ++ ys) one.is other.is ∙ sym (map-append read front back) ∙ ap (map read) all;
  put = behind_two before (postfix (reduced (is_fetched fetches) one.plan)) (postfix (reduced (is_fetched fetches) other.plan)) (node.Union ∷ []) between both nodes one.put other.put put;
}

pub puts_key_join : (IsOne IsOther IsBoth : Shape → Type 0) (fetches : List fetch.Fetch) (before between both nodes : List Node) → ((one other : Shape) → IsOne one → IsOther other → IsBoth (KeyJoin one other)) → PutsPlan IsOne fetches before between → PutsPlan IsOther fetches between both →
    nodes ≡ both ++ node.KeyJoin ∷ [] → PutsPlan IsBoth fetches before nodes
puts_key_join IsOne IsOther IsBoth fetches before between both nodes is_both one other put = record {
  plan = KeyJoin one.plan other.plan;
  is = is_both one.plan other.plan one.is other.is;
  put = behind_two before (postfix (reduced (is_fetched fetches) one.plan)) (postfix (reduced (is_fetched fetches) other.plan)) (node.KeyJoin ∷ []) between both nodes one.put other.put put;
}

-- the nodes of a side behind those of the rows before, and then those of its partners
pub puts_looked_up : (catalogue : Catalogue) (links later_links : List Link) (needs later_needs : List Need) (link : Link) (need : Need) (left : Shape) (fetches : List fetch.Fetch) (before entry between nodes ends : List Node) (result : Result (Unit {0}) Memory) → links ≡ link ∷ later_links → needs ≡ need ∷ later_needs →
    entry ≡ before ++ postfix (reduced (is_fetched fetches) left) → PutsPlan (IsOfNeed catalogue need) fetches entry between → nodes ≡ between ++ node.Lookup link.place link.key ∷ [] →
    ((front : List Node) (one : Shape) → nodes ≡ front ++ postfix (reduced (is_fetched fetches) one) → OnOk result (PutsPlan (IsOfJoined catalogue later_links later_needs one) fetches front ends)) → OnOk result (PutsPlan (IsOfJoined catalogue links needs left) fetches before ends)
puts_looked_up catalogue links later_links needs later_needs link need left fetches before entry between nodes ends result links_are needs_are here side put more =
    let one = Lookup link.place link.key left side.plan in
    let Needs : Shape → List Need → Type 0 = λ plan ns. IsOfJoined catalogue (link ∷ later_links) ns left plan in
    let Links : Shape → List Link → Type 0 = λ plan ls. IsOfJoined catalogue ls needs left plan in
    ok_as (IsOfJoined catalogue later_links later_needs one) (IsOfJoined catalogue links needs left) fetches before ends result
    (λ plan is. subst (Links plan) (sym links_are) (subst (Needs plan) (sym needs_are) (side.plan, side.is, is)))
    (more before one (behind_two before (postfix (reduced (is_fetched fetches) left)) (postfix (reduced (is_fetched fetches) side.plan)) (node.Lookup link.place link.key ∷ []) entry between nodes here side.put put))

-- the read of one leaf
pub reads_one : {A : Type 0} (read : A → Shape) (fetches : List fetch.Fetch) (leaf : A) (leaves : List A) (before nodes : List Node) (result : Result (Unit {0}) Memory) → united (read leaf) ≡ read leaf ∷ [] → leaves ≡ leaf ∷ [] →
    OnOk result (nodes ≡ before ++ postfix (reduced (is_fetched fetches) (read leaf))) → OnOk result (PutsPlan (λ plan. united plan ≡ map read leaves) fetches before nodes)
reads_one read fetches leaf leaves before nodes (Ok done) alone are put = record { plan = read leaf; is = alone ∙ sym (ap (map read) are); put = put }
reads_one read fetches leaf leaves before nodes (Err error) alone are put = tt
