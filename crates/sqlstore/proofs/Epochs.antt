-- What the incarnation and the version are after calls.
use Rattle.std.proofs.Common.{◌≡◌, ℕ, ℤ, pos, ◌≤ℤ◌, List, [], ◌∷◌, drop, unsigned_abs, refl, sym, ap, ◌∙◌, subst, inl, inr, arith}
use Rattle.std.proofs.lemmas.Int.{ints}
use Rattle.sqlite.specs.Edit.{id_in}
use Rattle.sqlite.specs.Effect.{Database}
use Rattle.sqlite.specs.Order.{Row, column}
use Rattle.sqlite.specs.declared.types.Value.TheVariants.{Null, Int}
use Rattle.sqlite_rules.specs.Lists.{Has}
use Rattle.sqlstore.specs.Cells.{int_at}
use Rattle.sqlstore.specs.Content.{life_in}
use Rattle.sqlstore.specs.Decided.{version_in}
use Rattle.sqlstore.specs.DeskQuery.{AreEpochs, epoch_terms, first_version}
use Rattle.sqlstore.specs.DeskSound.{IsDecided, IsEpoch}
use Rattle.sqlstore.specs.DeskStep.{MovesTo}
use Rattle.sqlstore.specs.DeskTables.{desk_schema}
use Rattle.sqlstore.specs.Query.{first_life}
use Rattle.sqlstore.specs.Rows.{RewritesOf}
use Rattle.sqlstore.specs.Tests.{shown}
use Rattle.sqlstore.proofs.Typed.{column_drop}

-- a statement on the other table leaves these rows
pub votes_stay : (Changes : List Row → List Row → Type 0) (a b : Database) → RewritesOf desk_schema 2 Changes a b → b.trees 0 ≡ a.trees 0
votes_stay Changes a b step = step.others _ (inl refl) (λ e. absurd (omega (arith, e)))

pub epoch_stays : (Changes : List Row → List Row → Type 0) (a b : Database) → RewritesOf desk_schema 0 Changes a b → b.trees 2 ≡ a.trees 2
epoch_stays Changes a b step = step.others _ (inr (inl refl)) (λ e. absurd (omega (arith, e)))

-- ---- what a query showed

-- the first row that was shown is the first row of the table, since there is one at most
module _ (rows found : List Row) (once : (one other : Row) → Has rows one → Has rows other → one ≡ other) (shows : AreEpochs rows found) where
  pub life_shown : unsigned_abs (first_life found) ≡ life_in rows
  life_shown = go rows found once shows
    where
      go : (rows found : List Row) → ((one other : Row) → Has rows one → Has rows other → one ≡ other) → AreEpochs rows found → unsigned_abs (first_life found) ≡ life_in rows
      go [] [] once shows = refl
      go [] (it ∷ found) once shows = absurd (shows.sound it (inl refl)).1
      go (row ∷ rows) [] once shows = absurd (shows.all row (inl refl) refl)
      go (row ∷ rows) (it ∷ found) once shows =
          let from = shows.sound it (inl refl) in
          let same : it ≡ shown epoch_terms [] row = from.3 ∙ ap (shown epoch_terms []) (once from.0 row from.1 (inl refl)) in
          ap (λ (r : Row). unsigned_abs (id_in (column r 0))) same

  pub version_shown : unsigned_abs (first_version found) ≡ version_in rows
  version_shown = go rows found once shows
    where
      go : (rows found : List Row) → ((one other : Row) → Has rows one → Has rows other → one ≡ other) → AreEpochs rows found → unsigned_abs (first_version found) ≡ version_in rows
      go [] [] once shows = refl
      go [] (it ∷ found) once shows = absurd (shows.sound it (inl refl)).1
      go (row ∷ rows) [] once shows = absurd (shows.all row (inl refl) refl)
      go (row ∷ rows) (it ∷ found) once shows =
          let from = shows.sound it (inl refl) in
          let same : it ≡ shown epoch_terms [] row = from.3 ∙ ap (shown epoch_terms []) (once from.0 row from.1 (inl refl)) in
          ap (λ (r : Row). unsigned_abs (id_in (column r 1))) same

-- of a sound store neither is below zero
pub life_from_zero : (db : Database) (found : List Row) → IsDecided db → AreEpochs (db.trees 2) found → pos 0 ≤ℤ first_life found
life_from_zero db [] stored shows = omega (arith, ints)
life_from_zero db (it ∷ found) stored shows =
    let from = shows.sound it (inl refl) in
    subst (λ n. pos 0 ≤ℤ n) (sym (ap (λ (r : Row). id_in (column r 0)) from.3)) (stored.epoch from.0 from.1).life

pub version_from_zero : (db : Database) (found : List Row) → IsDecided db → AreEpochs (db.trees 2) found → pos 0 ≤ℤ first_version found
version_from_zero db [] stored shows = omega (arith, ints)
version_from_zero db (it ∷ found) stored shows =
    let from = shows.sound it (inl refl) in
    subst (λ n. pos 0 ≤ℤ n) (sym (ap (λ (r : Row). id_in (column r 1)) from.3)) (stored.epoch from.0 from.1).version

-- ---- what a call put

module _ (life version : ℤ) (old new : Database) (moved : MovesTo life version old new) where
  epoch_row : (row : Row) → Has (new.trees 2) row → drop 1 row ≡ Null ∷ Int life ∷ Int version ∷ []
  epoch_row row there = elim (moved.2.rows.only row there) [ inl was ↦ let gone = moved.1.rows.gone row was in absurd (let never = gone.1 in cc) | inr is ↦ is ]

  pub epoch_cells : (row : Row) → Has (new.trees 2) row → (int_at row 2 ≡ life) × (int_at row 3 ≡ version)
  epoch_cells row there =
      let cell = λ (k : ℕ). sym (column_drop row k) ∙ ap (λ (cells : Row). column cells k) (epoch_row row there) in
      (ap id_in (cell 1), ap id_in (cell 2))

  one_row : (row : Row) × Has (new.trees 2) row
  one_row = let made = moved.2.rows.made (Null ∷ Int life ∷ Int version ∷ []) refl in (made.0, made.1)

  pub life_is : life_in (new.trees 2) ≡ unsigned_abs life
  life_is = go (new.trees 2) (λ row there. (epoch_cells row there).0) one_row
    where
      go : (rows : List Row) → ((row : Row) → Has rows row → int_at row 2 ≡ life) → ((row : Row) × Has rows row) → life_in rows ≡ unsigned_abs life
      go [] cell there = absurd there.1
      go (row ∷ rows) cell there = ap unsigned_abs (cell row (inl refl))

  pub version_is : version_in (new.trees 2) ≡ unsigned_abs version
  version_is = go (new.trees 2) (λ row there. (epoch_cells row there).1) one_row
    where
      go : (rows : List Row) → ((row : Row) → Has rows row → int_at row 3 ≡ version) → ((row : Row) × Has rows row) → version_in rows ≡ unsigned_abs version
      go [] cell there = absurd there.1
      go (row ∷ rows) cell there = ap unsigned_abs (cell row (inl refl))

  pub same_votes : new.trees 0 ≡ old.trees 0
  same_votes = votes_stay _ moved.0 new moved.2 ∙ votes_stay _ old moved.0 moved.1

  pub epoch_stored : pos 0 ≤ℤ life → pos 0 ≤ℤ version → (row : Row) → Has (new.trees 2) row → IsEpoch row
  epoch_stored low low_version row there =
      let cells = epoch_cells row there in
      record { life = subst (λ n. pos 0 ≤ℤ n) (sym cells.0) low; version = subst (λ n. pos 0 ≤ℤ n) (sym cells.1) low_version }
