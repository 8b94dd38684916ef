-- What a document says of a relation, by its columns and by the tree below.
use Rattle.std.proofs.Common.{◌≡◌, ◌<◌, ℕ, suc, List, [], ◌∷◌, ◌++◌, Some, length, map, drop, sym, ap, ap₂, subst, ◌∙◌, append_assoc, arith, codes}
use Rattle.std.proofs.Math.Seq.{drop-cons}
use Rattle.std.proofs.lemmas.List.{length-map}
use Rattle.toml.specs.Data.{Data}
use Rattle.terms.specs.declared.value.Kind.{Kind}
use Rattle.meaning.specs.declared.schema.Column.{Column}
use Rattle.catalog.specs.declared.fault.Rule.{Rule}
use Rattle.catalog.specs.Catalogue.{SplitRelation, IsRelationIn, IsColumnText}
use Rattle.reader.specs.Conds.{OneListOfCondsOfText}
use Rattle.catalog.specs.Describes.{Frame, Describes, Each}
use Rattle.catalog.specs.Inexact.{IsFirstInexact, row_splits}
use Rattle.catalog.specs.Split.{Tree}
use Rattle.catalog.proofs.OneTree.{one_tree}
use Rattle.catalog.proofs.Refusals.{refuses_map}
use Rattle.catalog.specs.Node.{texts_at}
use Rattle.catalog.specs.Path.{columns_beside_key, places_from}
use Rattle.catalog.specs.Refuses.{Refuses, NoneIsDescribed}
use Rattle.catalog.specs.Relation.{RefusesRelation, SaysNoRelation}
use Rattle.catalog.proofs.ColumnTexts.{one_column}
use Rattle.catalog.proofs.Pairs.{each_one}

-- the columns that a document says are those that its texts say
same_columns : (sites : List (List ℕ)) (entry : List ℕ × Data) (texts : List (List ℕ)) (columns : List Column) (relation : SplitRelation) → texts_at (codes "columns") entry.1 ≡ Some texts →
    Each IsColumnText texts columns → IsRelationIn sites entry relation → relation.schema.columns ≡ columns
same_columns sites entry texts columns relation there each is =
    let same : is.texts ≡ texts = some_same is.texts texts (sym is.there ∙ there) in
    let P : List (List ℕ) → Type 0 = λ ts. Each IsColumnText ts relation.schema.columns in
    each_one IsColumnText one_column texts relation.schema.columns columns (subst P same is.columns) each
  where
    some_same : (s t : List (List ℕ)) → Some s ≡ Some t → s ≡ t
    some_same s t e = cc

-- where no tree of these columns is described, nothing is said of a relation
no_relation : (sites : List (List ℕ)) (entry : List ℕ × Data) (texts : List (List ℕ)) (columns : List Column) → texts_at (codes "columns") entry.1 ≡ Some texts → Each IsColumnText texts columns →
    NoneIsDescribed (record { sites = sites; columns = columns }) 4 [] (columns_beside_key (map (λ column. column.kind) columns)) (codes "columns") entry.1 0 → SaysNoRelation sites entry
no_relation sites entry texts columns there each none relation is =
    let same = same_columns sites entry texts columns relation there each is in
    let P : List Column → Type 0 = λ cs. Describes (record { sites = sites; columns = cs }) 4 [] (columns_beside_key (map (λ column. column.kind) cs)) (codes "columns") entry.1 relation.tree in
    none relation.tree (subst P same is.describes) (omega (arith, is.few_leaves))

-- a refusal of the tree is one of the relation
pub refuses_tree : (sites : List (List ℕ)) (entry : List ℕ × Data) (texts : List (List ℕ)) (columns : List Column) (rule : Rule) → texts_at (codes "columns") entry.1 ≡ Some texts → Each IsColumnText texts columns →
    Refuses (record { sites = sites; columns = columns }) 4 [] (columns_beside_key (map (λ column. column.kind) columns)) (codes "columns") entry.1 0 rule → RefusesRelation sites entry rule
refuses_tree sites entry texts columns rule there each refused =
    let frame : Frame = record { sites = sites; columns = columns } in
    refuses_map
    ((tree : Tree) → Describes frame 4 [] (columns_beside_key (map (λ column. column.kind) columns)) (codes "columns") entry.1 tree → IsFirstInexact frame rule (row_splits [] tree))
    ((relation : SplitRelation) → IsRelationIn sites entry relation → IsFirstInexact (record { sites = sites; columns = relation.schema.columns }) rule (row_splits [] relation.tree))
    (NoneIsDescribed frame 4 [] (columns_beside_key (map (λ column. column.kind) columns)) (codes "columns") entry.1 0)
    (SaysNoRelation sites entry) rule
    (λ first relation is.
    let same = same_columns sites entry texts columns relation there each is in
    let P : List Column → Type 0 = λ cs. Describes (record { sites = sites; columns = cs }) 4 [] (columns_beside_key (map (λ column. column.kind) cs)) (codes "columns") entry.1 relation.tree in
    let Q : List Column → Type 0 = λ cs. IsFirstInexact (record { sites = sites; columns = cs }) rule (row_splits [] relation.tree) in
    subst Q (sym same) (first relation.tree (subst P same is.describes)))
    (no_relation sites entry texts columns there each) refused

-- an entry says one relation at most
pub one_relation : OneListOfCondsOfText → (sites : List (List ℕ)) (entry : List ℕ × Data) (one other : SplitRelation) → IsRelationIn sites entry one → IsRelationIn sites entry other → one ≡ other
one_relation law sites entry one other is too =
    let same : other.schema.columns ≡ one.schema.columns = same_columns sites entry is.texts one.schema.columns other is.there is.columns too in
    let P : List Column → Type 0 = λ cs. Describes (record { sites = sites; columns = cs }) 4 [] (columns_beside_key (map (λ column. column.kind) cs)) (codes "columns") entry.1 other.tree in
    let tree : one.tree ≡ other.tree =
    one_tree law (record { sites = sites; columns = one.schema.columns }) 4 [] (columns_beside_key (map (λ column. column.kind) one.schema.columns)) (codes "columns") entry.1 one.tree other.tree is.describes (subst P same too.describes) in
    let relation : List ℕ → List Column → Tree → SplitRelation = λ name columns t. record { schema = record { name = name; columns = columns }; tree = t } in
    ap₂ (λ (name : List ℕ) (columns : List Column). relation name columns one.tree) (is.named ∙ sym too.named) (sym same) ∙ ap (relation other.schema.name other.schema.columns) tree

-- ---- the places beside the key

-- one place more
pub place_more : (columns : List Column) (place : ℕ) (c : Kind) (places more all : List ℕ) → place < length columns → more ≡ places ++ place ∷ [] →
    places ++ places_from place (drop place (map (λ column. column.kind) columns)) ≡ all → more ++ places_from (suc place) (drop (suc place) (map (λ column. column.kind) columns)) ≡ all
place_more columns place c places more all within is so_far =
    let kinds = map (λ (column : Column). column.kind) columns in
    let here : places_from place (drop place kinds) ≡ place ∷ places_from (suc place) (drop (suc place) kinds) = ap (places_from place) (drop-cons kinds place c (rw (length-map columns (λ (column : Column). column.kind)) within)) in
    let rest = places_from (suc place) (drop (suc place) kinds) in
    ap (λ (front : List ℕ). front ++ rest) is ∙ append_assoc places (place ∷ []) rest ∙ sym (ap (λ (back : List ℕ). places ++ back) here) ∙ so_far
