-- Lemmas on new stores in SQLite.
use Rattle.std.proofs.Common.{◌≡◌, ◌<◌, ◌+◌, ◌^◌, ◌||◌, ℕ, List, [], ◌∷◌, map, true, false, Bool, inl, inr, ap, sym, refl, subst, ◌∙◌, arith}
use Rattle.std.specs.List.{AllByRecursion}
use Rattle.sqlite.specs.Steps.{over_memory}
use Rattle.sqlite_trees.specs.declared.memory.MemStore.{MemStore}
use Rattle.std.specs.Ordering.{is_eq}
use Rattle.terms.specs.declared.leaf.Leaf.{Leaf}
use Rattle.terms.specs.Leaf.{leaf_cmp}
use Rattle.catalog.specs.Catalogue.{Catalogue}
use Rattle.catalog.specs.FragmentLeaf.{schemas_of}
use Rattle.store.specs.SiteContent.{SiteContent}
use Rattle.protocol.specs.Parts.{In}
use Rattle.site.specs.State.{AreHad}
use Rattle.site.proofs.TicketOrder.{leaf_self}
use Rattle.sqlstore.specs.declared.desk.SqlDesk.{SqlDesk}
use Rattle.sqlstore.specs.declared.site.SqlSite.{SqlSite}
use Rattle.sqlstore.specs.Content.{has_leaf}
use Rattle.sqlstore.specs.Desk.{IsSoundDesk, desk_kept}
use Rattle.sqlstore.specs.Site.{IsSound, kept_by}
use Rattle.world.specs.Leaves.{known_leaves}
use Rattle.world.specs.Recovery.{HaveLeaves}
use Rattle.world.specs.Start.{AreNew, KeepsNothing}
use Rattle.databases.specs.SqlStores.{AreNewSites, AreOfLeaves, IsNewDesk, IsNewSite}

or_true : (b : Bool) → (b || true) ≡ true
or_true true = refl
or_true false = refl

-- a leaf that is among some is had
pub has_in : (leaves : List Leaf) (leaf : Leaf) → In leaf leaves → has_leaf leaves leaf ≡ true
has_in [] leaf none = absurd none
has_in (one ∷ leaves) leaf (inl same) = subst (λ (other : Leaf). has_leaf (other ∷ leaves) leaf ≡ true) same (ap (λ b. b || has_leaf leaves leaf) (leaf_self leaf))
has_in (one ∷ leaves) leaf (inr more) = ap (λ b. is_eq (leaf_cmp leaf one) || b) (has_in leaves leaf more) ∙ or_true (is_eq (leaf_cmp leaf one))

abbrev kept_in : SqlSite MemStore over_memory → SiteContent
kept_in site = kept_by over_memory site.leaves.items site.conn

has_its : (catalogue : Catalogue) (site : SqlSite MemStore over_memory) → IsNewSite catalogue site → AreHad (known_leaves (schemas_of catalogue)) (kept_in site)
has_its catalogue site new leaf inside = has_in site.leaves.items leaf (subst (In leaf) (sym new.leaves) inside)

have_leaves : (catalogue : Catalogue) (sites : List (SqlSite MemStore over_memory)) → AreNewSites catalogue sites → HaveLeaves catalogue (map kept_in sites)
have_leaves catalogue [] new = tt
have_leaves catalogue (site ∷ sites) new = (has_its catalogue site new.0, have_leaves catalogue sites new.1)

all_sound : (catalogue : Catalogue) (sites : List (SqlSite MemStore over_memory)) → AreNewSites catalogue sites → AllByRecursion (λ site. IsSound over_memory site.leaves.items site.conn) sites
all_sound catalogue [] new = tt
all_sound catalogue (site ∷ sites) new = (new.0.sound, all_sound catalogue sites new.1)

early : (life : ℕ) → life ≡ 0 → life + 1 < 2 ^ 63
early life none = rw (none) (omega arith)

keep_nothing : (catalogue : Catalogue) (sites : List (SqlSite MemStore over_memory)) → AreNewSites catalogue sites → AllByRecursion KeepsNothing (map kept_in sites)
keep_nothing catalogue [] new = tt
keep_nothing catalogue (site ∷ sites) new = (record { content = new.0.nothing.content; prepared = new.0.nothing.prepared; life = early (kept_in site).life new.0.nothing.life }, keep_nothing catalogue sites new.1)

-- new stores in SQLite are new stores
pub are_new : (catalogue : Catalogue) (desk : SqlDesk MemStore over_memory) (sites : List (SqlSite MemStore over_memory)) → IsNewDesk desk → AreNewSites catalogue sites →
    AreNew (λ (desk : SqlDesk MemStore over_memory). IsSoundDesk over_memory desk.conn) (λ desk. desk_kept over_memory desk.conn) (λ (site : SqlSite MemStore over_memory). IsSound over_memory site.leaves.items site.conn) kept_in catalogue desk sites
are_new catalogue desk sites new news = record {
  sound = (new.sound, all_sound catalogue sites news);
  keep = record {
    leaves = have_leaves catalogue sites news;
    sites = keep_nothing catalogue sites news;
    commits = new.nothing.commits;
    life = early (desk_kept over_memory desk.conn).life new.nothing.life;
  };
}

-- new stores have the leaves that their sites know
pub new_of_leaves : (catalogue : Catalogue) (sites : List (SqlSite MemStore over_memory)) → AreNewSites catalogue sites → AreOfLeaves catalogue sites
new_of_leaves catalogue [] new = tt
new_of_leaves catalogue (site ∷ sites) new = (new.0.leaves, new_of_leaves catalogue sites new.1)
