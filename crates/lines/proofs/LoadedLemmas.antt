-- Lemmas: what a script loads fits the schema.
use Rattle.std.proofs.Common.{◌≡◌, ℕ, List, [], ◌∷◌, Option, Some, true, false, cond, unwrap_or, IsSome, refl, ap, sym, subst, ◌∙◌}
use Rattle.std.specs.FinMap as finite
use Rattle.std.specs.Cmp.{eq_by_cmp_equiv}
use Rattle.std.specs.Cmp.Lexicographic.{nat_list_cmp_total, pointwise, slice_cmp}
use Rattle.std.specs.Ordering.{nat_cmp}
use Rattle.std.specs.Prelude.{nat_eq}
use Rattle.std.proofs.lemmas.Slice.Eq.{bytes_eq-Decides}
use Rattle.terms.specs.declared.value.Value.{Value}
use Rattle.meaning.specs.declared.answer.Answer.{Answer}
use Rattle.meaning.specs.declared.schema.RelationSchema.{RelationSchema}
use Rattle.meaning.specs.declared.statement.Statement.TheVariants as statement
use Rattle.meaning.specs.Schema.{relation_named}
use Rattle.meaning.specs.Whole.{FitsSchema, Relations, rows_of}
use Rattle.meaning.proofs.Kept.{meaning_fits, put_keeps}
use Rattle.reader.specs.declared.command.Command.TheVariants.{Run}
use Rattle.reader.proofs.FitsCommand.{text_fits}
use Rattle.lines.specs.declared.play_items.Placed.{Placed}
use Rattle.lines.specs.declared.play_script.Item.{Item}
use Rattle.lines.specs.declared.play_script.Item.TheVariants as item
use Rattle.lines.specs.PlayLoad.{IsLoaded, Loads, LoadsAll, LoadsItem, emptied}

-- a relation that was put is there
put_there : (whole : Relations) (name : List ℕ) (rows : List (List Value)) → IsSome (finite.get (finite.insert whole name rows) name)
put_there whole name rows =
    let is : finite.get (finite.insert whole name rows) name ≡ Some rows = finite.get-insert nat_list_cmp_total whole name rows name ∙ ap (λ t. cond t (Some rows) (finite.get whole name)) ((eq_by_cmp_equiv nat_list_cmp_total).refl name) in
    subst IsSome (sym is) refl

-- what is there stays
emptied_keeps : (relations : List RelationSchema) (whole : Relations) (name : List ℕ) → IsSome (finite.get whole name) → IsSome (finite.get (emptied relations whole) name)
emptied_keeps [] whole name there = there
emptied_keeps (first ∷ relations) whole name there = emptied_keeps relations (finite.insert whole first.name []) name (put_keeps whole first.name [] name IsSome (λ same. refl) there)

-- each relation of the schema is there
emptied_there : (relations : List RelationSchema) (whole : Relations) (name : List ℕ) (relation : RelationSchema) → relation_named name relations ≡ Some relation → IsSome (finite.get (emptied relations whole) name)
emptied_there [] whole name relation is = absurd cc
emptied_there (first ∷ relations) whole name relation is =
    let next = finite.insert whole first.name [] in
    elim (pointwise nat_eq first.name name) as (λ t. pointwise nat_eq first.name name ≡ t → cond t (Some first) (relation_named name relations) ≡ Some relation → IsSome (finite.get (emptied relations next) name)) [
      | true ↦ λ same here. emptied_keeps relations next name (subst (λ (n : List ℕ). IsSome (finite.get next n)) ((bytes_eq-Decides first.name name).0 same) (put_there whole first.name []))
      | false ↦ λ other later. emptied_there relations next name relation later
    ] refl is

-- it has no row
emptied_rows : (relations : List RelationSchema) (whole : Relations) (name : List ℕ) → rows_of whole name ≡ [] → rows_of (emptied relations whole) name ≡ []
emptied_rows [] whole name none = none
emptied_rows (first ∷ relations) whole name none = emptied_rows relations (finite.insert whole first.name []) name (put_keeps whole first.name [] name (λ o. unwrap_or o [] ≡ []) (λ same. refl) none)

emptied_fits : (schema : List RelationSchema) → FitsSchema schema (emptied schema finite.empty)
emptied_fits schema = record {
  there = λ name relation found. emptied_there schema finite.empty name relation found;
  fit = λ name relation found. rw (emptied_rows schema finite.empty name (ap (λ o. unwrap_or o []) (finite.get-empty (slice_cmp nat_cmp) name))) (record { fit = tt; ascends = tt });
}

loads_fits : (schema : List RelationSchema) (text : List ℕ) (before after : Relations) → Loads schema text before after → FitsSchema schema before → FitsSchema schema after
loads_fits schema text before after loads fits =
    subst (FitsSchema schema) (ap (λ (m : Answer × Relations). m.1) loads.added)
    (meaning_fits schema (statement.Insert loads.insert) before (text_fits schema text (Run (statement.Insert loads.insert)) loads.read) fits)

item_fits : (schema : List RelationSchema) (one : Item) (before after : Relations) → LoadsItem schema one before after → FitsSchema schema before → FitsSchema schema after
item_fits schema (item.Load text) before after loads fits = loads_fits schema text before after loads fits
item_fits schema (item.Client name asked) before after same fits = subst (FitsSchema schema) (sym same) fits
item_fits schema (item.Deliver number kept) before after same fits = subst (FitsSchema schema) (sym same) fits
item_fits schema (item.All but) before after same fits = subst (FitsSchema schema) (sym same) fits
item_fits schema (item.Site name doing) before after same fits = subst (FitsSchema schema) (sym same) fits
item_fits schema item.RestartDesk before after same fits = subst (FitsSchema schema) (sym same) fits
item_fits schema (item.Show name) before after same fits = subst (FitsSchema schema) (sym same) fits
item_fits schema (item.Leaf name) before after same fits = subst (FitsSchema schema) (sym same) fits
item_fits schema item.Committed before after same fits = subst (FitsSchema schema) (sym same) fits

all_fit : (schema : List RelationSchema) (items : List Placed) (before after : Relations) → LoadsAll schema items before after → FitsSchema schema before → FitsSchema schema after
all_fit schema [] before after same fits = subst (FitsSchema schema) (sym same) fits
all_fit schema (placed ∷ rest) before after loads fits = all_fit schema rest loads.0 after loads.2 (item_fits schema placed.item before loads.0 loads.1 fits)

-- the whole database that a script loads fits the schema
pub loaded_fits : (schema : List RelationSchema) (read : List Placed × Option ℕ) (whole : Relations) → IsLoaded schema read whole → FitsSchema schema whole
loaded_fits schema read whole is = all_fit schema read.0 (emptied schema finite.empty) whole is.loaded (emptied_fits schema)
