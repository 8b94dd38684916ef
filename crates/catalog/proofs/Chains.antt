-- When two lists of relations differ in the split of one.
use Rattle.std.proofs.Common.{◌≡◌, ◌≢◌, ◌↔◌, ℕ, Bool, true, false, IsTrue, List, [], ◌∷◌, ◌++◌, Option, Some, None, is_some, option_map, MatchOption, map, refl, sym, ap, ap₂, subst, ◌∙◌}
use Rattle.std.specs.List.{IsFirstAndRest}
use Rattle.meaning.specs.declared.schema.RelationSchema.{RelationSchema}
use Rattle.catalog.specs.declared.relation.SplitRelation as code
use Rattle.catalog.specs.Catalogue.{Catalogue, SplitRelation}
use Rattle.catalog.specs.Chain.{DifferIn, Follow, IsNext}
use Rattle.catalog.specs.Relation.{relation_of}
use Rattle.catalog.specs.Split.{Tree, tree_of}

pub same_when : (one other : SplitRelation) → one.schema ≡ other.schema → one.tree ≡ other.tree → one ≡ other
same_when one other schema tree = ap₂ (λ (s : RelationSchema) (t : Tree). let r : SplitRelation = record { schema = s; tree = t } in r) schema tree

pub none_of_nothing : (others : List SplitRelation) (name : List ℕ) → DifferIn [] others name → ⊥
none_of_nothing others name is = no_front is.before is.are
  where
    no_front : (before : List SplitRelation) → [] ≡ before ++ is.one ∷ is.after → ⊥
    no_front [] same = cc
    no_front (first ∷ before) same = cc

pub none_in_nothing : (relations : List SplitRelation) (name : List ℕ) → DifferIn relations [] name → ⊥
none_in_nothing relations name is = no_front is.before is.become
  where
    no_front : (before : List SplitRelation) → [] ≡ before ++ is.other ∷ is.after → ⊥
    no_front [] same = cc
    no_front (first ∷ before) same = cc

-- the first relations have one schema wherever lists differ in a split
firsts : (one other : SplitRelation) (relations others : List SplitRelation) (name : List ℕ) → (is : DifferIn (one ∷ relations) (other ∷ others) name) → one.schema ≡ other.schema
firsts one other relations others name is = at is.before is.are is.become
  where
    at : (before : List SplitRelation) → one ∷ relations ≡ before ++ is.one ∷ is.after → other ∷ others ≡ before ++ is.other ∷ is.after → one.schema ≡ other.schema
    at [] are become = let same = is.same in cc
    at (first ∷ before) are become = cc

pub none_by_schema : (one other : SplitRelation) (relations others : List SplitRelation) → one.schema ≢ other.schema → (name : List ℕ) → DifferIn (one ∷ relations) (other ∷ others) name → ⊥
none_by_schema one other relations others apart name is = apart (firsts one other relations others name is)

pub some_here : (one other : SplitRelation) (relations others : List SplitRelation) → one.schema ≡ other.schema → one.tree ≢ other.tree → relations ≡ others → DifferIn (one ∷ relations) (other ∷ others) one.schema.name
some_here one other relations others schema apart same =
    record { before = []; after = relations; one = one; other = other; are = refl; become = ap (λ (rest : List SplitRelation). other ∷ rest) (sym same); named = refl; same = schema; split = apart }

pub none_here : (one other : SplitRelation) (relations others : List SplitRelation) → one.tree ≢ other.tree → relations ≢ others → (name : List ℕ) → DifferIn (one ∷ relations) (other ∷ others) name → ⊥
none_here one other relations others apart differ name is = at is.before is.are is.become
  where
    at : (before : List SplitRelation) → one ∷ relations ≡ before ++ is.one ∷ is.after → other ∷ others ≡ before ++ is.other ∷ is.after → ⊥
    at [] are become = let rest : relations ≡ others = cc in differ rest
    at (first ∷ before) are become = let tree : one.tree ≡ other.tree = cc in apart tree

pub some_later : (one other : SplitRelation) (relations others : List SplitRelation) (name : List ℕ) → one ≡ other → DifferIn relations others name → DifferIn (one ∷ relations) (other ∷ others) name
some_later one other relations others name same is =
    record { before = one ∷ is.before; after = is.after; one = is.one; other = is.other; are = ap (λ (rest : List SplitRelation). one ∷ rest) is.are; become = ap₂ (λ (first : SplitRelation) (rest : List SplitRelation). first ∷ rest) (sym same) is.become; named = is.named; same = is.same; split = is.split }

pub none_later : (one other : SplitRelation) (relations others : List SplitRelation) → one ≡ other → ((name : List ℕ) → DifferIn relations others name → ⊥) → (name : List ℕ) → DifferIn (one ∷ relations) (other ∷ others) name → ⊥
none_later one other relations others same none name is = at is.before is.are is.become
  where
    at : (before : List SplitRelation) → one ∷ relations ≡ before ++ is.one ∷ is.after → other ∷ others ≡ before ++ is.other ∷ is.after → ⊥
    at [] are become = let tree : is.one.tree ≡ is.other.tree = cc in is.split tree
    at (first ∷ before) are become =
        let rest : relations ≡ before ++ is.one ∷ is.after = cc in
        let more : others ≡ before ++ is.other ∷ is.after = cc in
        none name (record { before = before; after = is.after; one = is.one; other = is.other; are = rest; become = more; named = is.named; same = is.same; split = is.split })

pub later : (one other : SplitRelation) (relations others : List SplitRelation) (found : Option (List ℕ)) → one ≡ other →
    MatchOption found ((name : List ℕ) → DifferIn relations others name → ⊥) (λ name. DifferIn relations others name) →
    MatchOption found ((name : List ℕ) → DifferIn (one ∷ relations) (other ∷ others) name → ⊥) (λ name. DifferIn (one ∷ relations) (other ∷ others) name)
later one other relations others None same none = none_later one other relations others same none
later one other relations others (Some name) same is = some_later one other relations others name same is

-- the same of relations as the code has them
abbrev Seen : List code.SplitRelation → List SplitRelation
Seen relations = map relation_of relations

abbrev Differ : List code.SplitRelation → List code.SplitRelation → List ℕ → Type 0
Differ relations others name = DifferIn (Seen relations) (Seen others) name

parts : (relations rest : List code.SplitRelation) (relation : code.SplitRelation) → IsFirstAndRest relations relation rest → Seen relations ≡ relation_of relation ∷ Seen rest
parts [] rest relation is = cc
parts (first ∷ relations) rest relation is = cc

false_is : IsTrue false → ⊥
false_is holds = cc

no_truth : {A : Type 0} (t : Bool) → t ≡ false → (IsTrue t ↔ A) → A → ⊥
no_truth t is decides holds = false_is (sym is ∙ decides.1 holds)

truth : {A : Type 0} (t : Bool) → t ≡ true → (IsTrue t ↔ A) → A
truth t is decides = decides.0 is

pub other_schema : (relations others rest more : List code.SplitRelation) (relation other : code.SplitRelation) (same : Bool) → IsFirstAndRest relations relation rest → IsFirstAndRest others other more →
    (IsTrue same ↔ (relation.schema ≡ other.schema)) → same ≡ false → (name : List ℕ) → Differ relations others name → ⊥
other_schema relations others rest more relation other same is too decides fails name differ =
    let P : List SplitRelation → List SplitRelation → Type 0 = λ xs ys. DifferIn xs ys name in
    none_by_schema (relation_of relation) (relation_of other) (Seen rest) (Seen more) (no_truth same fails decides) name
    (subst (λ (ys : List SplitRelation). P (relation_of relation ∷ Seen rest) ys) (parts others more other too) (subst (λ (xs : List SplitRelation). P xs (Seen others)) (parts relations rest relation is) differ))

pub goes_on : (relations others rest more : List code.SplitRelation) (relation other : code.SplitRelation) (schema tree : Bool) (found : Option (List ℕ)) → IsFirstAndRest relations relation rest → IsFirstAndRest others other more →
    (IsTrue schema ↔ (relation.schema ≡ other.schema)) → schema ≡ true → (IsTrue tree ↔ (tree_of relation.split ≡ tree_of other.split)) → tree ≡ true →
    MatchOption found ((name : List ℕ) → Differ rest more name → ⊥) (λ name. Differ rest more name) → MatchOption found ((name : List ℕ) → Differ relations others name → ⊥) (λ name. Differ relations others name)
goes_on relations others rest more relation other schema tree found is too decides_schema alike decides_tree also so_far =
    let P : List SplitRelation → List SplitRelation → Type 0 = λ xs ys. MatchOption found ((name : List ℕ) → DifferIn xs ys name → ⊥) (λ name. DifferIn xs ys name) in
    let same = same_when (relation_of relation) (relation_of other) (truth schema alike decides_schema) (truth tree also decides_tree) in
    subst (λ (xs : List SplitRelation). P xs (Seen others)) (sym (parts relations rest relation is))
    (subst (λ (ys : List SplitRelation). P (relation_of relation ∷ Seen rest) ys) (sym (parts others more other too)) (later (relation_of relation) (relation_of other) (Seen rest) (Seen more) found same so_far))

pub found_here : (relations others rest more : List code.SplitRelation) (relation other : code.SplitRelation) (schema tree same : Bool) → IsFirstAndRest relations relation rest → IsFirstAndRest others other more →
    (IsTrue schema ↔ (relation.schema ≡ other.schema)) → schema ≡ true → (IsTrue tree ↔ (tree_of relation.split ≡ tree_of other.split)) → tree ≡ false → (IsTrue same ↔ (Seen rest ≡ Seen more)) → same ≡ true → Differ relations others relation.schema.name
found_here relations others rest more relation other schema tree same is too decides_schema alike decides_tree fails decides also =
    let P : List SplitRelation → List SplitRelation → Type 0 = λ xs ys. DifferIn xs ys relation.schema.name in
    subst (λ (xs : List SplitRelation). P xs (Seen others)) (sym (parts relations rest relation is))
    (subst (λ (ys : List SplitRelation). P (relation_of relation ∷ Seen rest) ys) (sym (parts others more other too))
    (some_here (relation_of relation) (relation_of other) (Seen rest) (Seen more) (truth schema alike decides_schema) (no_truth tree fails decides_tree) (truth same also decides)))

pub not_here : (relations others rest more : List code.SplitRelation) (relation other : code.SplitRelation) (tree same : Bool) → IsFirstAndRest relations relation rest → IsFirstAndRest others other more →
    (IsTrue tree ↔ (tree_of relation.split ≡ tree_of other.split)) → tree ≡ false → (IsTrue same ↔ (Seen rest ≡ Seen more)) → same ≡ false → (name : List ℕ) → Differ relations others name → ⊥
not_here relations others rest more relation other tree same is too decides_tree fails decides also name differ =
    let P : List SplitRelation → List SplitRelation → Type 0 = λ xs ys. DifferIn xs ys name in
    none_here (relation_of relation) (relation_of other) (Seen rest) (Seen more) (no_truth tree fails decides_tree) (no_truth same also decides) name
    (subst (λ (ys : List SplitRelation). P (relation_of relation ∷ Seen rest) ys) (parts others more other too) (subst (λ (xs : List SplitRelation). P xs (Seen others)) (parts relations rest relation is) differ))

-- where the next one does not follow, they are no chain
pub not_next : (catalogue next : Catalogue) (rest all : List Catalogue) (found : Option (List ℕ)) (some : Bool) → all ≡ next ∷ rest → MatchOption found ((name : List ℕ) → IsNext catalogue next name → ⊥) (λ name. IsNext catalogue next name) →
    some ≡ is_some found → some ≡ false → IsTrue some ↔ Follow catalogue all
not_next catalogue next rest all None some same is none fails =
    let P : List Catalogue → Type 0 = λ those. Follow catalogue those → ⊥ in
    let apart = subst P (sym same) (λ follows. is follows.0.0 follows.0.1) in
    (λ holds. absurd (false_is (sym fails ∙ holds)), λ follows. absurd (apart follows))
not_next catalogue next rest all (Some name) some same is there fails = absurd (false_is (sym fails ∙ there))

pub nothing_next : (catalogue next : Catalogue) (rest all : List Catalogue) (found : Option (List ℕ)) (some more : Bool) → all ≡ next ∷ rest → MatchOption found ((name : List ℕ) → IsNext catalogue next name → ⊥) (λ name. IsNext catalogue next name) →
    some ≡ is_some found → some ≡ true → (IsTrue more ↔ Follow next rest) → IsTrue more ↔ Follow catalogue all
nothing_next catalogue next rest all None some more same is none holds decides = absurd (false_is (sym none ∙ holds))
nothing_next catalogue next rest all (Some name) some more same is there holds decides =
    let P : List Catalogue → Type 0 = λ those. IsTrue more ↔ Follow catalogue those in
    subst P (sym same) (λ more_holds. ((name, is), decides.0 more_holds), λ follows. decides.1 follows.1)

-- the same sites, and relations that differ in the split of one
pub next_when : (catalogue next : Catalogue) (found : Option (List ℕ)) → catalogue.sites ≡ next.sites → MatchOption found ((name : List ℕ) → DifferIn catalogue.relations next.relations name → ⊥) (λ name. DifferIn catalogue.relations next.relations name) →
    MatchOption found ((name : List ℕ) → IsNext catalogue next name → ⊥) (λ name. IsNext catalogue next name)
next_when catalogue next None same none = λ name is. none name is.relations
next_when catalogue next (Some name) same is = record { sites = same; relations = is }

pub no_next : (catalogue next : Catalogue) (relations others : List SplitRelation) → catalogue.relations ≡ relations → next.relations ≡ others → ((name : List ℕ) → DifferIn relations others name → ⊥) → (name : List ℕ) → IsNext catalogue next name → ⊥
no_next catalogue next relations others are become none name is =
    let P : List SplitRelation → List SplitRelation → Type 0 = λ xs ys. DifferIn xs ys name in
    none name (subst (λ (ys : List SplitRelation). P relations ys) become (subst (λ (xs : List SplitRelation). P xs next.relations) are is.relations))

pub is_some_mapped : {A B : Type 0} (f : A → B) (found : Option A) → is_some found ≡ is_some (option_map f found)
is_some_mapped f None = refl
is_some_mapped f (Some x) = refl
