-- What the query for the incarnation shows is the incarnation.
use Rattle.std.proofs.Common.{◌≡◌, ℕ, pos, ◌+◌, List, [], ◌∷◌, unsigned_abs, refl, sym, ap, ◌∙◌, inl}
use Rattle.sqlite.specs.Edit.{id_in}
use Rattle.sqlite.specs.Effect.{Database, IsDatabase}
use Rattle.sqlite.specs.Order.{Row, column}
use Rattle.sqlite_rules.specs.Lists.{Has}
use Rattle.store.specs.SiteContent.{BeginsLife}
use Rattle.terms.specs.declared.leaf.Leaf.{Leaf}
use Rattle.sqlstore.specs.Content.{life_in, kept_of}
use Rattle.sqlstore.specs.Query.{AreLives, LivesNext, life_terms, first_life}
use Rattle.sqlstore.specs.Sound.{IsStored}
use Rattle.sqlstore.specs.Tests.{shown}
use Rattle.sqlstore.proofs.Sites.{begins, stored_lives}
use Rattle.sqlstore.proofs.Typed.{state_once}

-- the first row that a query for incarnations shows is the first row of the table, since there is one at most
first_is : (rows found : List Row) (life : ℕ) → ((one other : Row) → Has rows one → Has rows other → one ≡ other) → AreLives rows found → first_life found ≡ pos life → life ≡ life_in rows
first_is [] [] life once finds is = ap unsigned_abs (sym is)
first_is [] (it ∷ found) life once finds is = absurd (finds.sound it (inl refl)).1
first_is (row ∷ rows) [] life once finds is = absurd (finds.all row (inl refl) refl)
first_is (row ∷ rows) (it ∷ found) life once finds is =
    let from = finds.sound it (inl refl) in
    let same : it ≡ shown life_terms [] row = from.3 ∙ ap (shown life_terms []) (once from.0 row from.1 (inl refl)) in
    sym (ap unsigned_abs is) ∙ ap (λ (r : Row). unsigned_abs (id_in (column r 0))) same

module _ (leaves : List Leaf) (old new : Database) (was_sound : IsDatabase old) (next : ℕ) (made : LivesNext next old new) (stored : IsStored leaves old) where
  life_after : next ≡ life_in (old.trees 6) + 1
  life_after = made.4 ∙ ap (λ n. n + 1) (first_is (old.trees 6) made.0 made.2 (state_once old was_sound stored.tables) made.1 made.3)

  pub next_begins : BeginsLife (kept_of leaves old) (kept_of leaves new)
  next_begins = begins leaves next old new made.5 life_after

  pub next_stored : IsStored leaves new
  next_stored = stored_lives leaves next old new made.5 stored

  pub next_life : next ≡ (kept_of leaves new).life
  next_life = life_after ∙ sym next_begins.life
