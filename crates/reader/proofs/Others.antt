-- Relations that are joined, one after another.
use Rattle.std.proofs.Common.{◌≡◌, ℕ, zero, suc, ◌+◌, ◌<◌, Bool, true, false, ◌||◌, List, [], ◌∷◌, ◌++◌, Option, Some, None, option_and_then, option_map, length, map, drop, get_or, nat_eq, inr, refl, ap, sym, subst, ◌∙◌, append_assoc, arith}
use Rattle.std.specs.Cmp.Lexicographic.{pointwise}
use Rattle.std.specs.List.{list_any}
use Rattle.std.proofs.lemmas.Bool.{or_from}
use Rattle.std.proofs.lemmas.List.{map-append}
use Rattle.terms.specs.declared.cond.Cond.{Cond}
use Rattle.meaning.specs.declared.schema.RelationSchema.{RelationSchema}
use Rattle.meaning.specs.declared.statement.Join.{Join}
use Rattle.meaning.specs.declared.statement.Select.{Select}
use Rattle.meaning.specs.Schema.{relation_named}
use Rattle.reader.specs.declared.fault.Rule.{Rule}
use Rattle.reader.specs.declared.joins.Joined as code_joined
use Rattle.reader.specs.declared.tree.Join as code_join
use Rattle.reader.specs.Breaks.{OthersBreak}
use Rattle.reader.specs.Names.{Joined, joined_of, all_of, places_of, conds_of, source_of, join_of, other_of, others_of}
use Rattle.reader.specs.Scope.{Scope}
use Rattle.reader.specs.Tree as tree
use Rattle.reader.proofs.ResolvedColumns.{next_step, passed, not_passed}

-- what stands before the rest, if that is there
abbrev pub with_front : {A : Type 0} → List A → Option (List A) → Option (List A)
with_front front rest = option_map (λ xs. front ++ xs) rest

-- the names of the relation after FROM and of those that are joined
abbrev pub names_after : List ℕ → List code_joined.Joined → List (List ℕ)
names_after name joined = name ∷ map (λ j. j.relation.now.name) joined

-- one of mapped items passes a test where an item passes it as it is mapped
any_mapped : {A B : Type 0} (test : B → Bool) (view : A → B) (xs : List A) → list_any test (map view xs) ≡ list_any (λ x. test (view x)) xs
any_mapped test view [] = refl
any_mapped test view (x ∷ xs) = ap (λ b. test (view x) || b) (any_mapped test view xs)

-- the select of a scope and of relations that are joined in it
abbrev pub selected_in : RelationSchema → tree.Select → Scope → List Joined → Option Select
selected_in relation select scope joined =
    option_and_then (λ (places : List ℕ). option_and_then (λ (joins : List Join). option_and_then (λ (conds : List Cond). Some (record { from = source_of relation; joins = joins; columns = places; conds = conds })) (conds_of scope select.conditions)) (all_of (join_of scope) joined)) (places_of scope select.listed)

-- what stands before the rest, with one more
with_front-more : {A : Type 0} (front : List A) (x : A) (rest : Option (List A)) → with_front front (with_front (x ∷ []) rest) ≡ with_front (front ++ x ∷ []) rest
with_front-more front x None = refl
with_front-more front x (Some xs) = ap Some (sym (append_assoc front (x ∷ []) xs))

pub names_more : (name : List ℕ) (joined : List code_joined.Joined) (one : code_joined.Joined) → names_after name (joined ++ one ∷ []) ≡ names_after name joined ++ one.relation.now.name ∷ []
names_more name joined one = ap (λ names. name ∷ names) (map-append (λ (j : code_joined.Joined). j.relation.now.name) joined (one ∷ []))

first_of : (first : Joined) (rest : Option (List Joined)) → option_and_then (λ (joined : List Joined). Some (first ∷ joined)) rest ≡ with_front (first ∷ []) rest
first_of first None = refl
first_of first (Some joined) = refl

-- the next join, where its relation is there
next_join : (schema : List RelationSchema) (earlier : List (List ℕ)) (before : ℕ) (joins : List code_join.Join) (i : ℕ) (d : code_join.Join) (other : RelationSchema) → i < length joins → other_of schema earlier (tree.join_tree (get_or joins i d)) ≡ Some other
    → others_of schema earlier before (map tree.join_tree (drop i joins)) ≡ with_front (record { relation = other; before = before; written = tree.join_tree (get_or joins i d) } ∷ []) (others_of schema (earlier ++ other.name ∷ []) (before + length other.columns) (map tree.join_tree (drop (suc i) joins)))
next_join schema earlier before [] i d other within there = absurd (omega arith)
next_join schema earlier before (join ∷ joins) zero d other within there =
    next_step _ (other_of schema earlier (tree.join_tree join)) other _ there
    (first_of (record { relation = other; before = before; written = tree.join_tree join }) (others_of schema (earlier ++ other.name ∷ []) (before + length other.columns) (map tree.join_tree joins)))
next_join schema earlier before (join ∷ joins) (suc i) d other within there = next_join schema earlier before joins i d other (omega arith) there

-- one join more
pub joined_more : (schema : List RelationSchema) (name : List ℕ) (whole : Option (List Joined)) (joins : List code_join.Join) (i : ℕ) (d : code_join.Join) (all : List code_joined.Joined) (one : code_joined.Joined) → i < length joins → tree.join_tree one.written ≡ tree.join_tree (get_or joins i d) → other_of schema (names_after name all) (tree.join_tree (get_or joins i d)) ≡ Some one.relation.now
    → with_front (map joined_of all) (others_of schema (names_after name all) one.before (map tree.join_tree (drop i joins))) ≡ whole
    → with_front (map joined_of (all ++ one ∷ [])) (others_of schema (names_after name (all ++ one ∷ [])) (one.before + length one.relation.now.columns) (map tree.join_tree (drop (suc i) joins))) ≡ whole
joined_more schema name whole joins i d all one within same there so_far =
    let rest = others_of schema (names_after name all ++ one.relation.now.name ∷ []) (one.before + length one.relation.now.columns) (map tree.join_tree (drop (suc i) joins)) in
    ap (λ front. with_front front (others_of schema (names_after name (all ++ one ∷ [])) (one.before + length one.relation.now.columns) (map tree.join_tree (drop (suc i) joins)))) (map-append joined_of all (one ∷ []))
    ∙ ap (λ names. with_front (map joined_of all ++ joined_of one ∷ []) (others_of schema names (one.before + length one.relation.now.columns) (map tree.join_tree (drop (suc i) joins)))) (names_more name all one)
    ∙ sym (with_front-more (map joined_of all) (joined_of one) rest)
    ∙ ap (λ (w : tree.Join). with_front (map joined_of all) (with_front (record { relation = one.relation.now; before = one.before; written = w } ∷ []) rest)) same
    ∙ ap (with_front (map joined_of all)) (sym (next_join schema (names_after name all) one.before joins i d one.relation.now within there))
    ∙ so_far

-- what the joins behind break, the joins from here on break
break_behind : (rule : Rule) (schema : List RelationSchema) (earlier : List (List ℕ)) (joins : List code_join.Join) (i : ℕ) (d : code_join.Join) (other : RelationSchema) → i < length joins → other_of schema earlier (tree.join_tree (get_or joins i d)) ≡ Some other
    → OthersBreak rule schema (earlier ++ other.name ∷ []) (map tree.join_tree (drop (suc i) joins)) → OthersBreak rule schema earlier (map tree.join_tree (drop i joins))
break_behind rule schema earlier [] i d other within there broken = absurd (omega arith)
break_behind rule schema earlier (join ∷ joins) zero d other within there broken = inr (other, there, broken)
break_behind rule schema earlier (join ∷ joins) (suc i) d other within there broken = break_behind rule schema earlier joins i d other (omega arith) there broken

pub break_more : (rule : Rule) (schema : List RelationSchema) (name : List ℕ) (joins : List code_join.Join) (i : ℕ) (d : code_join.Join) (all : List code_joined.Joined) (one : code_joined.Joined) → i < length joins → other_of schema (names_after name all) (tree.join_tree (get_or joins i d)) ≡ Some one.relation.now
    → OthersBreak rule schema (names_after name (all ++ one ∷ [])) (map tree.join_tree (drop (suc i) joins)) → OthersBreak rule schema (names_after name all) (map tree.join_tree (drop i joins))
break_more rule schema name joins i d all one within there broken =
    let P : List (List ℕ) → Type 0 = λ names. OthersBreak rule schema names (map tree.join_tree (drop (suc i) joins)) in
    break_behind rule schema (names_after name all) joins i d one.relation.now within there (subst P (names_more name all one) broken)

-- ---- another relation

or_true : (b : Bool) → (b || true) ≡ true
or_true true = refl
or_true false = refl

-- a name is that after FROM
pub is_first : (name : List ℕ) (joined : List code_joined.Joined) (other : List ℕ) → pointwise nat_eq name other ≡ true → list_any (λ n. pointwise nat_eq n other) (names_after name joined) ≡ true
is_first name joined other same = ap (λ b. b || list_any (λ n. pointwise nat_eq n other) (map (λ (j : code_joined.Joined). j.relation.now.name) joined)) same

-- a name is one of those that are joined
pub is_later : (name : List ℕ) (joined : List code_joined.Joined) (other : List ℕ) → list_any (λ j. pointwise nat_eq j.relation.now.name other) joined ≡ true → list_any (λ n. pointwise nat_eq n other) (names_after name joined) ≡ true
is_later name joined other same =
    ap (λ b. pointwise nat_eq name other || b) (any_mapped (λ n. pointwise nat_eq n other) (λ (j : code_joined.Joined). j.relation.now.name) joined ∙ same) ∙ or_true (pointwise nat_eq name other)

-- a name is none of them
pub is_neither : (name : List ℕ) (joined : List code_joined.Joined) (other : List ℕ) → pointwise nat_eq name other ≡ false → list_any (λ j. pointwise nat_eq j.relation.now.name other) joined ≡ false → list_any (λ n. pointwise nat_eq n other) (names_after name joined) ≡ false
is_neither name joined other first later =
    or_from (pointwise nat_eq name other) (list_any (λ n. pointwise nat_eq n other) (map (λ (j : code_joined.Joined). j.relation.now.name) joined)) first (any_mapped (λ n. pointwise nat_eq n other) (λ (j : code_joined.Joined). j.relation.now.name) joined ∙ later)

pub is_none : (schema : List RelationSchema) (earlier : List (List ℕ)) (join : tree.Join) (other : RelationSchema) → relation_named join.relation schema ≡ Some other → list_any (λ name. pointwise nat_eq name other.name) earlier ≡ true → other_of schema earlier join ≡ None
is_none schema earlier join other there same = next_step _ (relation_named join.relation schema) other None there (passed (list_any (λ name. pointwise nat_eq name other.name) earlier) None (Some other) None same refl)

pub is_some : (schema : List RelationSchema) (earlier : List (List ℕ)) (join : tree.Join) (other : RelationSchema) → relation_named join.relation schema ≡ Some other → list_any (λ name. pointwise nat_eq name other.name) earlier ≡ false → other_of schema earlier join ≡ Some other
is_some schema earlier join other there unlike = next_step _ (relation_named join.relation schema) other (Some other) there (not_passed (list_any (λ name. pointwise nat_eq name other.name) earlier) None (Some other) (Some other) unlike refl)
