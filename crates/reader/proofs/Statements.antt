-- The two laws of each statement, and of each command.
use Rattle.std.proofs.Common.{◌≡◌, ◌≤◌, length, false, List, [], ◌∷◌, ◌++◌, Some, refl, append_assoc, inl, inr}
use Rattle.reader.specs.declared.keyword.Keyword.TheVariants as word
use Rattle.reader.specs.declared.sign.Sign.TheVariants as mark
use Rattle.reader.specs.Symbol.{Symbol, key, sign, name}
use Rattle.reader.specs.Tree as tree
use Rattle.reader.specs.Grammar.{separated, constant_text, listed_text, where_text, joins_text, assignment_text, written_text, IsFilled, IsListable, IsWritable, IsEnd}
use Rattle.reader.specs.Parsing.{and_then, is_same, eat, given, expect, name_at, constant_at, assignment_at, select_at, insert_at, update_at, delete_at, bare_at, written_at, where_at}
use Rattle.reader.proofs.Steps.{◌then◌, TakesWith, Takes, written, written_with, bind, taken, expect_takes, name_takes}
use Rattle.reader.proofs.Lists.{items_takes, items_again}
use Rattle.reader.proofs.Productions.{Lacks, another, constant_takes, constant_again, listed_takes, listed_again, where_takes, where_again, where_lacks, joins_takes, joins_again, assignment_takes, assignment_again}

-- at the end only a semicolon can be next
end_lacks : (t : Symbol) → is_same t (sign mark.Semicolon) ≡ false → (rest : List Symbol) → IsEnd rest → Lacks t rest
unfolding eat
end_lacks t other rest (inl none) = rw none refl
end_lacks t other rest (inr semicolon) = rw semicolon (another t (sign mark.Semicolon) [] other)

kept_again : (cs : List tree.Condition) (rest : List Symbol) → IsEnd rest → where_at (where_text cs ++ rest) ≡ Some (cs, rest)
kept_again cs rest end = where_again cs rest (end_lacks (key word.Where) refl rest end) (end_lacks (key word.And) refl rest end)

-- before WHERE and at the end, nothing else can be next
kept_lacks : (t : Symbol) → is_same t (key word.Where) ≡ false → is_same t (sign mark.Semicolon) ≡ false → (cs : List tree.Condition) (rest : List Symbol) → IsEnd rest → Lacks t (where_text cs ++ rest)
kept_lacks t no_where no_semicolon cs rest end = where_lacks t no_where cs rest (end_lacks t no_semicolon rest end)

-- ---- selects

-- what follows SELECT
abbrev select_rest : tree.Select → List Symbol
select_rest s = listed_text s.listed ++ key word.From ∷ name s.relation ∷ (joins_text s.joins ++ where_text s.conditions)

abbrev IsSelectable : tree.Select → Type 0
IsSelectable s = IsListable s.listed × (length s.joins ≤ 2)

select_takes : TakesWith select_at select_rest IsSelectable
unfolding select_at
select_takes symbols y h =
    let listed = bind h in
    let from = bind listed.2 in
    let relation = bind from.2 in
    let joins = bind relation.2 in
    let conditions = bind joins.2 in
    let front = listed_takes _ _ listed.1 in
    let middle = joins_takes _ _ joins.1 in
    written_with select_rest IsSelectable conditions.2
    (front.0 then expect_takes _ _ _ from.1 then name_takes _ _ relation.1 then middle.0 then where_takes _ _ conditions.1)
    (front.1, middle.1)

select_again : (s : tree.Select) → IsSelectable s → (rest : List Symbol) → IsEnd rest → select_at (select_rest s ++ rest) ≡ Some (s, rest)
unfolding select_at and_then expect given eat name_at
select_again s fine rest end =
    rw (
      append_assoc (listed_text s.listed) (key word.From ∷ name s.relation ∷ (joins_text s.joins ++ where_text s.conditions)) rest,
      listed_again s.listed fine.0 (key word.From ∷ name s.relation ∷ ((joins_text s.joins ++ where_text s.conditions) ++ rest)) refl refl,
      append_assoc (joins_text s.joins) (where_text s.conditions) rest,
      joins_again s.joins fine.1 (where_text s.conditions ++ rest) (kept_lacks (key word.Join) refl refl s.conditions rest end) (kept_lacks (sign mark.Dot) refl refl s.conditions rest end),
      kept_again s.conditions rest end,
    ) refl

-- ---- inserts

-- what follows INSERT
abbrev insert_rest : tree.Insert → List Symbol
insert_rest i = key word.Into ∷ name i.relation ∷ key word.Values ∷ sign mark.Open ∷ (separated constant_text (sign mark.Comma) i.values ++ sign mark.Close ∷ [])

abbrev IsInsertable : tree.Insert → Type 0
IsInsertable i = IsFilled i.values

insert_takes : TakesWith insert_at insert_rest IsInsertable
unfolding insert_at
insert_takes symbols y h =
    let into = bind h in
    let relation = bind into.2 in
    let those = bind relation.2 in
    let opened = bind those.2 in
    let values = bind opened.2 in
    let closed = bind values.2 in
    let middle = items_takes constant_at constant_text (sign mark.Comma) constant_takes _ _ values.1 in
    written_with insert_rest IsInsertable closed.2
    (expect_takes _ _ _ into.1 then name_takes _ _ relation.1 then expect_takes _ _ _ those.1 then expect_takes _ _ _ opened.1 then middle.0 then expect_takes _ _ _ closed.1)
    middle.1

insert_again : (i : tree.Insert) → IsInsertable i → (rest : List Symbol) → insert_at (insert_rest i ++ rest) ≡ Some (i, rest)
unfolding insert_at and_then expect given eat name_at
insert_again i fine rest =
    rw (append_assoc, items_again constant_at constant_text (sign mark.Comma) (λ _. Unit {0}) constant_again (λ _. tt) refl i.values fine (sign mark.Close ∷ rest) tt refl) refl

-- ---- updates

-- what follows UPDATE
abbrev update_rest : tree.Update → List Symbol
update_rest u = name u.relation ∷ key word.Set ∷ (separated assignment_text (sign mark.Comma) u.sets ++ where_text u.conditions)

abbrev IsUpdatable : tree.Update → Type 0
IsUpdatable u = IsFilled u.sets

update_takes : TakesWith update_at update_rest IsUpdatable
unfolding update_at
update_takes symbols y h =
    let relation = bind h in
    let set = bind relation.2 in
    let sets = bind set.2 in
    let conditions = bind sets.2 in
    let middle = items_takes assignment_at assignment_text (sign mark.Comma) assignment_takes _ _ sets.1 in
    written_with update_rest IsUpdatable conditions.2
    (name_takes _ _ relation.1 then expect_takes _ _ _ set.1 then middle.0 then where_takes _ _ conditions.1)
    middle.1

update_again : (u : tree.Update) → IsUpdatable u → (rest : List Symbol) → IsEnd rest → update_at (update_rest u ++ rest) ≡ Some (u, rest)
unfolding update_at and_then expect given eat name_at
update_again u fine rest end =
    rw (
      append_assoc (separated assignment_text (sign mark.Comma) u.sets) (where_text u.conditions) rest,
      items_again assignment_at assignment_text (sign mark.Comma) (λ _. Unit {0}) assignment_again (λ _. tt) refl u.sets fine (where_text u.conditions ++ rest) tt (kept_lacks (sign mark.Comma) refl refl u.conditions rest end),
      kept_again u.conditions rest end,
    ) refl

-- ---- deletes

-- what follows DELETE
abbrev delete_rest : tree.Delete → List Symbol
delete_rest d = key word.From ∷ name d.relation ∷ where_text d.conditions

delete_takes : Takes delete_at delete_rest
unfolding delete_at
delete_takes symbols y h =
    let from = bind h in
    let relation = bind from.2 in
    let conditions = bind relation.2 in
    written delete_rest conditions.2 (expect_takes _ _ _ from.1 then name_takes _ _ relation.1 then where_takes _ _ conditions.1)

delete_again : (d : tree.Delete) (rest : List Symbol) → IsEnd rest → delete_at (delete_rest d ++ rest) ≡ Some (d, rest)
unfolding delete_at and_then expect given eat name_at
delete_again d rest end = rw (kept_again d.conditions rest end) refl

-- ---- commands

bare_takes : TakesWith bare_at written_text IsWritable
unfolding bare_at
bare_takes symbols y h =
    elim (taken _ _ _ _ h) [
      | inl begin ↦ written_with written_text IsWritable begin.2 begin.1 tt
      | inr no_begin ↦ elim (taken _ _ _ _ no_begin) [
        | inl commit ↦ written_with written_text IsWritable commit.2 commit.1 tt
        | inr no_commit ↦ elim (taken _ _ _ _ no_commit) [
          | inl rollback ↦ written_with written_text IsWritable rollback.2 rollback.1 tt
          | inr none ↦ absurd cc
        ]
      ]
    ]

pub written_takes : TakesWith written_at written_text IsWritable
unfolding written_at
written_takes symbols y h =
    elim (taken _ _ _ _ h) [
      | inl select ↦
          let selected = bind select.2 in
          let behind = select_takes _ _ selected.1 in
          written_with written_text IsWritable selected.2 (select.1 then behind.0) behind.1
      | inr no_select ↦ elim (taken _ _ _ _ no_select) [
        | inl insert ↦
            let inserted = bind insert.2 in
            let behind = insert_takes _ _ inserted.1 in
            written_with written_text IsWritable inserted.2 (insert.1 then behind.0) behind.1
        | inr no_insert ↦ elim (taken _ _ _ _ no_insert) [
          | inl update ↦
              let updated = bind update.2 in
              let behind = update_takes _ _ updated.1 in
              written_with written_text IsWritable updated.2 (update.1 then behind.0) behind.1
          | inr no_update ↦ elim (taken _ _ _ _ no_update) [
            | inl delete ↦
                let deleted = bind delete.2 in
                written_with written_text IsWritable deleted.2 (delete.1 then delete_takes _ _ deleted.1) tt
            | inr no_delete ↦ elim (taken _ _ _ _ no_delete) [
              | inl refragment ↦
                  let relation = bind refragment.2 in
                  written_with written_text IsWritable relation.2 (refragment.1 then name_takes _ _ relation.1) tt
              | inr bare ↦ bare_takes _ _ bare
            ]
          ]
        ]
      ]
    ]

pub written_again : (w : tree.Written) → IsWritable w → (rest : List Symbol) → IsEnd rest → written_at (written_text w ++ rest) ≡ Some (w, rest)
unfolding written_at and_then given eat bare_at name_at
written_again (tree.select s) fine rest end = rw (select_again s fine rest end) refl
written_again (tree.insert i) fine rest end = rw (insert_again i fine rest) refl
written_again (tree.update u) fine rest end = rw (update_again u fine rest end) refl
written_again (tree.delete d) fine rest end = rw (delete_again d rest end) refl
written_again (tree.refragment relation) fine rest end = refl
written_again tree.begin fine rest end = refl
written_again tree.commit fine rest end = refl
written_again tree.rollback fine rest end = refl
