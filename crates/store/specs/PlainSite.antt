-- What a site's lists keep.
use Rattle.std.specs.Prelude.{◌≡◌, true, None}
use Rattle.std.specs.BTreeMap as tree
use Rattle.terms.specs.declared.leaf.Leaf.{Leaf}
use Rattle.store.specs.declared.name.Ticket.{Ticket}
use Rattle.store.specs.declared.plain_site.PlainSite.{PlainSite}
use Rattle.store.specs.Content.{Changes, AreKeyed, made_by}
use Rattle.store.specs.Name.{ticket_cmp}
use Rattle.store.specs.SiteContent.{SiteContent}

-- lists have a place for any leaf
abbrev pub kept_of : PlainSite → SiteContent
kept_of site = record { has = λ leaf. true; content = made_by site.parts; prepared = tree.get ticket_cmp site.prepared; life = site.life }

-- each part stands under its own key
abbrev pub IsSound : PlainSite → Type 0
IsSound site = AreKeyed site.parts

-- the fragments are what these changes make of nothing, no ticket is prepared, and no incarnation has begun
pub record HoldsParts (changes : Changes) (site : PlainSite) : Type 0 where
  pub content : (leaf : Leaf) → (kept_of site).content leaf ≡ made_by changes leaf
  pub prepared : (ticket : Ticket) → (kept_of site).prepared ticket ≡ None
  pub life : (kept_of site).life ≡ 0
