-- What `*` lists, and that the sides of ON may be turned about.
use Rattle.std.proofs.Common.{◌≡◌, ℕ, zero, suc, ◌+◌, Bool, true, false, ◌&&◌, cond, List, [], ◌∷◌, ◌++◌, Option, Some, None, option_and_then, option_map, length, map, flat_map, nat_eq, nat_lt, nat_le, refl, sym, ap, subst, ◌∙◌, length-append, arith}
use Rattle.std.specs.List.{range_with_len}
use Rattle.std.proofs.lemmas.Bool.{and_parts, eqb-true, ltb-true}
use Rattle.std.proofs.lemmas.List.{length-map}
use Rattle.terms.specs.declared.cond.Cond.{Cond}
use Rattle.terms.specs.declared.value.Kind.{Kind}
use Rattle.meaning.specs.declared.schema.RelationSchema.{RelationSchema}
use Rattle.meaning.specs.declared.statement.Join.{Join}
use Rattle.meaning.specs.declared.statement.Select.{Select}
use Rattle.meaning.specs.declared.statement.Statement.TheVariants as statements
use Rattle.meaning.specs.Listed.{listed}
use Rattle.meaning.specs.Schema.{relation_named, names_of}
use Rattle.meaning.specs.Selected.{names_read, qualified}
use Rattle.meaning.proofs.ListedLemmas.{listed_all}
use Rattle.reader.specs.declared.command.Command.TheVariants as commands
use Rattle.reader.specs.declared.scope.Found.{Found}
use Rattle.reader.specs.Names.{Joined, all_of, source_of, is_integer, is_key, other_than_key, joined_by, join_of, other_of, others_of, joined_relations, places_of, conds_of, select_from, select_of, command_of}
use Rattle.reader.specs.Scope.{Scope, relation_table, types, types_in, found_in}
use Rattle.reader.specs.Laws.{turned, turned_at}
use Rattle.reader.specs.Tree as tree
use Rattle.reader.proofs.Chains.{chosen, first_step, mapped_step}
use Rattle.reader.proofs.Others.{selected_in}

-- ---- `*`

-- as many places as names list all names
all_names : (count : ℕ) (columns : List ℕ) (names : List (List ℕ)) → count ≡ length names → cond (nat_le count 32) (Some (range_with_len 0 count)) None ≡ Some columns → listed columns names ≡ names
all_names count columns names as_many is =
    let one = chosen (nat_le count 32) (Some (range_with_len 0 count)) columns is in
    let same : range_with_len 0 count ≡ columns = cc one.1 in
    ap (λ places. listed places names) (sym same) ∙ ap (λ n. listed (range_with_len 0 n) names) as_many ∙ listed_all names

as_many_types : (relation : RelationSchema) → length (types relation.columns) ≡ length (names_of relation)
as_many_types relation = length-map relation.columns (λ c. c.kind) ∙ sym (length-map relation.columns (λ c. c.name))

as_many_qualified : (relation : RelationSchema) → length (types relation.columns) ≡ length (qualified (source_of relation))
as_many_qualified relation = as_many_types relation ∙ sym (length-map (names_of relation) (λ column. relation.name ++ 46 ∷ column))

-- the types and the qualified names of relations that are joined
abbrev joined_types : List Joined → List Kind
joined_types joined = types_in (map (λ j. relation_table j.relation) joined)

abbrev joined_names : List Join → List (List ℕ)
joined_names joins = flat_map (λ join. qualified join.relation) joins

as_many_joined : (scope : Scope) (joined : List Joined) (joins : List Join) → all_of (join_of scope) joined ≡ Some joins → length (joined_types joined) ≡ length (joined_names joins)
as_many_joined scope [] joins are = let none : [] ≡ joins = cc are in ap (λ js. length (joined_names js)) none
as_many_joined scope (first ∷ joined) joins are =
    let one = first_step (λ y. option_map (λ rest. y ∷ rest) (all_of (join_of scope) joined)) (join_of scope first) joins are in
    let rest = mapped_step (λ rest. one.0 ∷ rest) (all_of (join_of scope) joined) joins one.2 in
    let by = mapped_step (λ (column : ℕ). record { relation = source_of first.relation; col = column }) (joined_by scope first) one.0 one.1 in
    let P : List Join → Type 0 = λ js. length (joined_types (first ∷ joined)) ≡ length (joined_names js) in
    let Q : Join → Type 0 = λ j. length (joined_types (first ∷ joined)) ≡ length (joined_names (j ∷ rest.0)) in
    subst P rest.2 (subst Q by.2 (omega (
      arith,
      length-append (types first.relation.columns) (joined_types joined),
      length-append (qualified (source_of first.relation)) (joined_names rest.0),
      as_many_qualified first.relation,
      as_many_joined scope joined rest.0 rest.1,
    )))

-- as many names are read as there are columns
as_many_read : (relation : RelationSchema) (joined : List Joined) (joins : List Join) → all_of (join_of (joined_relations relation joined)) joined ≡ Some joins → length (types_in (joined_relations relation joined)) ≡ length (names_read (source_of relation) joins)
as_many_read relation joined [] are =
    omega (arith, length-append (types relation.columns) (joined_types joined), as_many_types relation, as_many_joined (joined_relations relation joined) joined [] are)
as_many_read relation joined (join ∷ joins) are =
    omega (
      arith,
      length-append (types relation.columns) (joined_types joined),
      length-append (qualified (source_of relation)) (joined_names (join ∷ joins)),
      as_many_qualified relation,
      as_many_joined (joined_relations relation joined) joined (join ∷ joins) are,
    )

star_from : (relation : RelationSchema) (joined : List Joined) (written : tree.Select) (select : Select) → written.listed ≡ tree.all → select_from relation joined written ≡ Some select → listed select.columns (names_read select.from select.joins) ≡ names_read select.from select.joins
star_from relation joined written select all is =
    let scope = joined_relations relation joined in
    let places = first_step _ (places_of scope written.listed) select is in
    let joins = first_step _ (all_of (join_of scope) joined) select places.2 in
    let conds = first_step _ (conds_of scope written.conditions) select joins.2 in
    let same : record { from = source_of relation; joins = joins.0; columns = places.0; conds = conds.0 } ≡ select = cc conds.2 in
    let P : Select → Type 0 = λ s. listed s.columns (names_read s.from s.joins) ≡ names_read s.from s.joins in
    subst P same (all_names (length (types_in scope)) places.0 (names_read (source_of relation) joins.0) (as_many_read relation joined joins.0 joins.1) (ap (places_of scope) (sym all) ∙ places.1))

pub star_lists : (schema : List RelationSchema) (name : List ℕ) (joins : List tree.Join) (conditions : List tree.Condition) (select : Select) → select_of schema (record { listed = tree.all; relation = name; joins = joins; conditions = conditions }) ≡ Some select → listed select.columns (names_read select.from select.joins) ≡ names_read select.from select.joins
star_lists schema name joins conditions select is =
    let relation = first_step _ (relation_named name schema) select is in
    let joined = first_step _ (others_of schema (relation.0.name ∷ []) (length relation.0.columns) joins) select relation.2 in
    star_from relation.0 joined.0 (record { listed = tree.all; relation = name; joins = joins; conditions = conditions }) select refl joined.2

-- ---- the sides of ON

and_swap : (a b : Bool) → (a && b) ≡ (b && a)
and_swap true true = refl
and_swap true false = refl
and_swap false true = refl
and_swap false false = refl

-- of two choices that never both hold either may stand first
either_first : (a b : Bool) (x y : ℕ) → (a ≡ true → b ≡ true → ⊥) → cond b (Some y) (cond a (Some x) None) ≡ cond a (Some x) (cond b (Some y) None)
either_first true true x y apart = absurd (apart refl refl)
either_first true false x y apart = refl
either_first false true x y apart = refl
either_first false false x y apart = refl

key_swap : (joined : Joined) (left right : ℕ) → other_than_key joined right left ≡ other_than_key joined left right
key_swap joined left right = either_first (is_key joined left && nat_lt right joined.before) (is_key joined right && nat_lt left joined.before) right left (λ one other. apart one other)
  where
    apart : (is_key joined left && nat_lt right joined.before) ≡ true → (is_key joined right && nat_lt left joined.before) ≡ true → ⊥
    apart one other =
        let key = (and_parts (is_key joined left) (nat_lt right joined.before) one).0 in
        let at = eqb-true left joined.before (and_parts (nat_eq left joined.before) (nat_lt 0 (length joined.relation.columns)) key).0 in
        let below = ltb-true left joined.before (and_parts (is_key joined right) (nat_lt left joined.before) other).1 in
        omega arith

-- the column by which the sides join, if they are there
abbrev by_sides : Joined → Option Found → Option Found → Option ℕ
by_sides joined left right = option_and_then (λ (l : Found). option_and_then (λ (r : Found). option_and_then (λ (column : ℕ). cond (is_integer l.kind && is_integer r.kind) (Some column) None) (other_than_key joined l.place r.place)) right) left

sides_swap : (joined : Joined) (left right : Option Found) → by_sides joined right left ≡ by_sides joined left right
sides_swap joined None None = refl
sides_swap joined None (Some r) = refl
sides_swap joined (Some l) None = refl
sides_swap joined (Some l) (Some r) =
    ap (λ b. option_and_then (λ (column : ℕ). cond b (Some column) None) (other_than_key joined r.place l.place)) (and_swap (is_integer r.kind) (is_integer l.kind))
    ∙ ap (option_and_then (λ (column : ℕ). cond (is_integer l.kind && is_integer r.kind) (Some column) None)) (key_swap joined l.place r.place)

-- a relation that is joined, with the sides of its ON turned about
abbrev joined_turned : Joined → Joined
joined_turned joined = record { relation = joined.relation; before = joined.before; written = turned joined.written }

join_swap : (scope : Scope) (joined : Joined) → join_of scope (joined_turned joined) ≡ join_of scope joined
join_swap scope joined =
    ap (option_map (λ (column : ℕ). record { relation = source_of joined.relation; col = column })) (sides_swap joined (found_in scope joined.written.left) (found_in scope joined.written.right))

-- relations, with the ON of that at a place turned about
abbrev turned_there : ℕ → List Joined → List Joined
turned_there place [] = []
turned_there zero (first ∷ joined) = joined_turned first ∷ joined
turned_there (suc place) (first ∷ joined) = first ∷ turned_there place joined

joins_swap : (scope : Scope) (place : ℕ) (joined : List Joined) → all_of (join_of scope) (turned_there place joined) ≡ all_of (join_of scope) joined
joins_swap scope place [] = refl
joins_swap scope zero (first ∷ joined) = ap (option_and_then (λ (j : Join). option_map (λ (js : List Join). j ∷ js) (all_of (join_of scope) joined))) (join_swap scope first)
joins_swap scope (suc place) (first ∷ joined) = ap (λ rest. option_and_then (λ (j : Join). option_map (λ (js : List Join). j ∷ js) rest) (join_of scope first)) (joins_swap scope place joined)

tables_swap : (place : ℕ) (joined : List Joined) → map (λ j. relation_table j.relation) (turned_there place joined) ≡ map (λ j. relation_table j.relation) joined
tables_swap place [] = refl
tables_swap zero (first ∷ joined) = refl
tables_swap (suc place) (first ∷ joined) = ap (λ tables. relation_table first.relation ∷ tables) (tables_swap place joined)

-- one relation, and those that are joined behind it
abbrev with_others : ℕ → tree.Join → RelationSchema → Option (List Joined) → Option (List Joined)
with_others before join other others = option_and_then (λ (joined : List Joined). Some (record { relation = other; before = before; written = join } ∷ joined)) others

others_swap : (schema : List RelationSchema) (earlier : List (List ℕ)) (before : ℕ) (place : ℕ) (joins : List tree.Join) → others_of schema earlier before (turned_at place joins) ≡ option_map (turned_there place) (others_of schema earlier before joins)
others_swap schema earlier before place [] = refl
others_swap schema earlier before zero (join ∷ joins) =
    elim (other_of schema earlier join) as (λ o. option_and_then (λ (other : RelationSchema). with_others before (turned join) other (others_of schema (earlier ++ other.name ∷ []) (before + length other.columns) joins)) o ≡ option_map (turned_there zero) (option_and_then (λ (other : RelationSchema). with_others before join other (others_of schema (earlier ++ other.name ∷ []) (before + length other.columns) joins)) o)) [
      | None ↦ refl
      | Some other ↦
          elim (others_of schema (earlier ++ other.name ∷ []) (before + length other.columns) joins) as (λ o. with_others before (turned join) other o ≡ option_map (turned_there zero) (with_others before join other o)) [
            | None ↦ refl
            | Some others ↦ refl
          ]
    ]
others_swap schema earlier before (suc place) (join ∷ joins) =
    elim (other_of schema earlier join) as (λ o. option_and_then (λ (other : RelationSchema). with_others before join other (others_of schema (earlier ++ other.name ∷ []) (before + length other.columns) (turned_at place joins))) o ≡ option_map (turned_there (suc place)) (option_and_then (λ (other : RelationSchema). with_others before join other (others_of schema (earlier ++ other.name ∷ []) (before + length other.columns) joins)) o)) [
      | None ↦ refl
      | Some other ↦
          ap (with_others before join other) (others_swap schema (earlier ++ other.name ∷ []) (before + length other.columns) place joins)
          ∙ (elim (others_of schema (earlier ++ other.name ∷ []) (before + length other.columns) joins) as (λ o. with_others before join other (option_map (turned_there place) o) ≡ option_map (turned_there (suc place)) (with_others before join other o)) [
            | None ↦ refl
            | Some others ↦ refl
          ])
    ]

from_swap : (relation : RelationSchema) (place : ℕ) (joined : List Joined) (select : tree.Select) → select_from relation (turned_there place joined) select ≡ select_from relation joined select
from_swap relation place joined select =
    let scope = joined_relations relation joined in
    ap (λ tables. selected_in relation select (relation_table relation ∷ tables) (turned_there place joined)) (tables_swap place joined)
    ∙ ap (λ joins. option_and_then (λ (places : List ℕ). option_and_then (λ (joins : List Join). option_and_then (λ (conds : List Cond). Some (record { from = source_of relation; joins = joins; columns = places; conds = conds })) (conds_of scope select.conditions)) joins) (places_of scope select.listed)) (joins_swap scope place joined)

-- a select with the joins turned about at a place
abbrev select_turned : ℕ → tree.Select → tree.Select
select_turned place select = record { listed = select.listed; relation = select.relation; joins = turned_at place select.joins; conditions = select.conditions }

select_swap : (schema : List RelationSchema) (relation : RelationSchema) (place : ℕ) (select : tree.Select) → option_and_then (λ (joined : List Joined). select_from relation joined select) (others_of schema (relation.name ∷ []) (length relation.columns) (turned_at place select.joins)) ≡ option_and_then (λ (joined : List Joined). select_from relation joined select) (others_of schema (relation.name ∷ []) (length relation.columns) select.joins)
select_swap schema relation place select =
    ap (option_and_then (λ (joined : List Joined). select_from relation joined select)) (others_swap schema (relation.name ∷ []) (length relation.columns) place select.joins)
    ∙ (elim (others_of schema (relation.name ∷ []) (length relation.columns) select.joins) as (λ o. option_and_then (λ (joined : List Joined). select_from relation joined select) (option_map (turned_there place) o) ≡ option_and_then (λ (joined : List Joined). select_from relation joined select) o) [
      | None ↦ refl
      | Some joined ↦ from_swap relation place joined select
    ])

pub sides_turn : (schema : List RelationSchema) (select : tree.Select) (place : ℕ) → command_of schema (tree.select (record { listed = select.listed; relation = select.relation; joins = turned_at place select.joins; conditions = select.conditions })) ≡ command_of schema (tree.select select)
sides_turn schema select place =
    let same : select_of schema (select_turned place select) ≡ select_of schema select =
    elim (relation_named select.relation schema) as (λ o. option_and_then (λ (relation : RelationSchema). option_and_then (λ (joined : List Joined). select_from relation joined select) (others_of schema (relation.name ∷ []) (length relation.columns) (turned_at place select.joins))) o ≡ option_and_then (λ (relation : RelationSchema). option_and_then (λ (joined : List Joined). select_from relation joined select) (others_of schema (relation.name ∷ []) (length relation.columns) select.joins)) o) [
      | None ↦ refl
      | Some relation ↦ select_swap schema relation place select
    ] in
    ap (option_map (λ (statement : Select). commands.Run (statements.Select statement))) same
