-- What a statement answers and writes, by rows that a whole database gives, is its meaning there.
use Rattle.std.proofs.Common.{rules, ◌≡◌, inl, inr, refl, sym, ap, ◌∙◌, subst, suc, ℕ, Bool, true, false, ◌||◌, List, [], ◌∷◌, map, Option, Some, None, if◌then◌else◌, Result, Ok, Err, IfOk}
use Rattle.std.specs.List.{AllByRecursion, cons_option}
use Rattle.terms.specs.declared.cond.Cond.{Cond}
use Rattle.terms.specs.declared.leaf.Leaf.{Leaf}
use Rattle.terms.specs.declared.value.Value.{Value}
use Rattle.meaning.specs.declared.answer.Answer.{Answer}
use Rattle.meaning.specs.declared.statement.Statement.{Statement}
use Rattle.meaning.specs.Meaning.{meaning}
use Rattle.meaning.specs.Statement.{IsStatementOf, is_refragment}
use Rattle.meaning.specs.Whole.{FitsSchema, Relations, rows_of}
use Rattle.meaning.specs.declared.statement.Refragment.{Refragment}
use Rattle.meaning.specs.declared.statement.Statement.TheVariants as statements
use Rattle.catalog.specs.declared.fragment_leaf.FragmentLeaf.{FragmentLeaf}
use Rattle.catalog.specs.FragmentLeaf.{catalogue_leaves, is_name_of, leaf_named, schemas_of}
use Rattle.catalog.specs.Laws.{LeafNamesAreUnique}
use Rattle.plan.specs.declared.fetch.Fetch.{Fetch}
use Rattle.plan.specs.Given.{AreBrought}
use Rattle.plan.specs.Given as plan
use Rattle.catalog.specs.Catalogue.{Catalogue}
use Rattle.plan.specs.Stated.{AreFetchesOf}
use Rattle.plan.specs.Reduced.{FindsAll, is_fetched, same_leaf}
use Rattle.plan.specs.Rows.{met}
use Rattle.plan.specs.Shape.{Shape}
use Rattle.plan.proofs.Fetched.{one_name}
use Rattle.answers.specs.FetchRows.{FetchRows}
use Rattle.answers.specs.Moves.{moves_between}
use Rattle.answers.specs.Table.{given}
use Rattle.answers.specs.Writes.{writes_between}
use Rattle.store.specs.Content.{parts}
use Rattle.protocol.specs.Desk as desk
use Rattle.protocol.specs.Language.{Name}
use Rattle.protocol.specs.Parts.{In}
use Rattle.protocol.specs.Serial.{Explained, Gives}
use Rattle.desk.specs.declared.fetches.Ask.{Ask}
use Rattle.desk.specs.declared.statement.Worked.{Worked}
use Rattle.desk.specs.declared.transaction.Unsent.{Unsent}
use Rattle.desk.specs.Fetches.{brought, brought_by}
use Rattle.desk.specs.Database.{Database, IsOrdinary, IsStated, language}
use Rattle.desk.specs.OfCatalogue.{HasContent, IsOfCatalogue}
use Rattle.desk.specs.Place.{Place, fetch_in, home_in, placed_in}
use Rattle.desk.specs.Planned.{IsOfPlan, asked, unsent_by, unsent_from}
use Rattle.desk.specs.ReducedPlan.{ReducedPlan, plan_in}
use Rattle.desk.specs.Transaction.{ask_of, write_of}
use Rattle.desk.proofs.AtHomes.{found_so, moves_are, site_is, writes_are}
use Rattle.desk.proofs.Located.{AreOf, IsOfSome, are_of, located, same_fetch}

each_in : {A : Type 0} (Q : A → Type 0) (xs : List A) → ((x : A) → In x xs → Q x) → AllByRecursion Q xs
each_in Q [] each = tt
each_in Q (x ∷ xs) each = (each x (inl refl), each_in Q xs (λ y there. each y (inr there)))

of_in : {A : Type 0} (P : A → Type 0) (xs : List A) (x : A) → AllByRecursion P xs → In x xs → P x
of_in P [] x all there = absurd (there)
of_in P (y ∷ xs) x all (inl is) = subst P (sym is) all.0
of_in P (y ∷ xs) x all (inr there) = of_in P xs x all.1 there

fetched_in : (fetches : List Fetch) (fetch : Fetch) → In fetch fetches → is_fetched fetches fetch.leaf ≡ true
fetched_in [] fetch there = absurd (there)
fetched_in (first ∷ fetches) fetch (inl is) = ap (λ (f : Fetch). same_leaf first.leaf f.leaf || is_fetched fetches f.leaf) is ∙ ap (λ b. b || is_fetched fetches first.leaf) (same_self first.leaf)
  where
    same_self : (leaf : Leaf) → same_leaf leaf leaf ≡ true
    same_self leaf = search rules
fetched_in (first ∷ fetches) fetch (inr there) = go (same_leaf first.leaf fetch.leaf) (fetched_in fetches fetch there)
  where
    go : (b : Bool) → is_fetched fetches fetch.leaf ≡ true → (b || is_fetched fetches fetch.leaf) ≡ true
    go true is = refl
    go false is = is

-- an ordinary statement is one under each catalogue
pub stated_plainly : (db : Database) (n : ℕ) (stated : Statement) → IsOrdinary db stated → IsStated db n stated
stated_plainly db n stated ordinary = record {
  of_schemas = ordinary.of_schemas;
  next = λ refragment is. absurd (let no : true ≡ false = sym (ap is_refragment is) ∙ ordinary.stays in cc);
}

module _ (db : Database) (of : IsOfCatalogue db) (n : ℕ) (unique : LeafNamesAreUnique) (stated : Statement) (reduced : ReducedPlan) (asks : List Ask) (planned : IsOfPlan db n stated reduced asks) where
  abbrev in_force : Catalogue
  in_force = db.catalogue n

  abbrev all : List FragmentLeaf
  all = catalogue_leaves in_force

  abbrev fetches : List Fetch
  fetches = reduced.fetches

  -- it is a statement of the schema of the catalogue in force
  pub stated_there : IsStatementOf (schemas_of in_force) stated
  stated_there = subst (λ schemas. IsStatementOf schemas stated) (of.schemas n) planned.statement.of_schemas

  pub known : AreOf all fetches
  known = are_of in_force unique (of.formed n) stated fetches stated_there planned.fetches

  module _ (whole : Relations) (fits : FitsSchema db.schemas whole) (gives : Gives {L = language db} (n, whole) (map (ask_of db) asks)) where
    -- what a fetch is to bring
    of_whole : (fetch : Fetch) → IsOfSome all known.needs fetch → parts fetch.conds (db.content n (placed_in in_force fetch.leaf) whole) ≡ plan.brought whole fetch (leaf_named fetch.leaf all)
    of_whole fetch is =
        let there = located all known.needs fetch is in
        let leaf = there.0 in
        let found = found_so (HasContent db n whole) (is_name_of fetch.leaf) all leaf (of.content n whole fits) there.1 in
        let home = home_in in_force fetch.leaf in
        ap (λ (name : Leaf). parts fetch.conds (db.content n (home, name) whole)) (sym (one_name leaf.name fetch.leaf found.1))
        ∙ ap (met fetch.conds) (found.0 home (site_is db of n fetch.leaf leaf there.1))
        ∙ sym (ap (plan.brought whole fetch) there.1)

    -- what was brought of a leaf that is among these
    given_at : (asks : List Ask) (list : List Fetch) → map asked asks ≡ map (fetch_in in_force) list → AllByRecursion (IsOfSome all known.needs) list → Gives {L = language db} (n, whole) (map (ask_of db) asks) →
        (fetch : Fetch) → IsOfSome all known.needs fetch → is_fetched list fetch.leaf ≡ true → given (brought asks) fetch.leaf ≡ parts fetch.conds (db.content n (placed_in in_force fetch.leaf) whole)
    given_at [] [] same each gives fetch is there = cc
    given_at [] (first ∷ list) same each gives fetch is there = cc
    given_at (ask ∷ asks) [] same each gives fetch is there = cc
    given_at (ask ∷ asks) (first ∷ list) same each gives fetch is there =
        let head : asked ask ≡ fetch_in in_force first = cc in
        let place : (ask.site, ask.leaf) ≡ placed_in in_force first.leaf = ap (λ (p : Place × List Cond). p.0) head in
        let conds : ask.conds ≡ first.conds = ap (λ (p : Place × List Cond). p.1) head in
        let rest : map asked asks ≡ map (fetch_in in_force) list = cc in
        go ask.rows gives.0 place conds (same_leaf ask.leaf fetch.leaf) refl (ap (λ (p : Place). same_leaf p.1 fetch.leaf || is_fetched list fetch.leaf) place ∙ there) (given_at asks list rest each.1 gives.1 fetch is)
      where
        go : (rows : Option (List (List Value))) → rows ≡ Some (parts ask.conds (db.content n (ask.site, ask.leaf) whole)) → (ask.site, ask.leaf) ≡ placed_in in_force first.leaf → ask.conds ≡ first.conds → (b : Bool) → same_leaf ask.leaf fetch.leaf ≡ b → (same_leaf ask.leaf fetch.leaf || is_fetched list fetch.leaf) ≡ true →
            (is_fetched list fetch.leaf ≡ true → given (brought asks) fetch.leaf ≡ parts fetch.conds (db.content n (placed_in in_force fetch.leaf) whole)) →
            given (cons_option (brought_by (record ask { rows = rows })) (brought asks)) fetch.leaf ≡ parts fetch.conds (db.content n (placed_in in_force fetch.leaf) whole)
        go None is_rows place conds b e there more = cc
        go (Some rows) is_rows place conds true e there more =
            let name : ask.leaf ≡ fetch.leaf = one_name ask.leaf fetch.leaf e in
            let one : first ≡ fetch = same_fetch all known.needs first fetch known.apart each.0 is (sym (ap (λ (p : Place). p.1) place) ∙ name) in
            let rows_are : rows ≡ parts ask.conds (db.content n (ask.site, ask.leaf) whole) = cc in
            ap (λ b. if b then rows else given (brought asks) fetch.leaf) e
            ∙ rows_are ∙ (λ i. parts (conds i) (db.content n (place i) whole)) ∙ ap (λ (f : Fetch). parts f.conds (db.content n (placed_in in_force f.leaf) whole)) one
        go (Some rows) is_rows place conds false e there more =
            ap (λ b. if b then rows else given (brought asks) fetch.leaf) e
            ∙ more (ap (λ b. b || is_fetched list fetch.leaf) (sym e) ∙ there)

    pub are_brought : AreBrought in_force whole fetches (given (brought asks))
    are_brought = each_in (λ read. given (brought asks) read.leaf ≡ plan.brought whole read (leaf_named read.leaf all)) fetches
        (λ fetch there.
        let is = of_in (IsOfSome all known.needs) fetches fetch known.each there in
        given_at asks fetches planned.in_order known.each gives fetch is (fetched_in fetches fetch there) ∙ of_whole fetch is)

  -- the deed of the evaluation is explained
  pub explained : is_refragment stated ≡ false → (t : Name) (answer : Answer) (unsent : List Unsent) →
      ((whole : Relations) → FitsSchema (schemas_of in_force) whole → AreBrought in_force whole fetches (given (brought asks)) → answer ≡ (meaning stated whole).0) →
      ((whole : Relations) → FitsSchema (schemas_of in_force) whole → AreBrought in_force whole fetches (given (brought asks)) → unsent ≡ map (unsent_from in_force) (writes_between in_force whole (meaning stated whole).1)) →
      Explained {L = language db} (desk.Worked t (n, stated) (map (ask_of db) asks) (answer, map write_of unsent))
  explained stays t answer unsent answers writes = (
    planned.statement,
    λ whole fits tag gives.
        let there = subst (λ schemas. FitsSchema schemas whole.1) (of.schemas n) fits in
        let are = are_brought whole.1 fits (subst (λ (m : ℕ). Gives {L = language db} (m, whole.1) (map (ask_of db) asks)) (sym tag) gives) in
        let after = (meaning stated whole.1).1 in (
          answers whole.1 there are,
          ap (map write_of) (writes whole.1 there are) ∙ writes_are in_force (writes_between in_force whole.1 after) ∙ sym (of.writes n whole.1 after) ∙ ap (λ (m : ℕ). db.writes m m whole.1 after) tag ∙ ap (λ (b : Bool). db.writes whole.0 (if b then suc whole.0 else whole.0) whole.1 after) (sym stays),
        ),
  )

  -- so that of a REFRAGMENT, whose moves lead to the next catalogue's split
  pub explained_moves : (refragment : Refragment) → stated ≡ statements.Refragment refragment → (t : Name) (answer : Answer) (unsent : List Unsent) →
      ((whole : Relations) → FitsSchema (schemas_of in_force) whole → AreBrought in_force whole fetches (given (brought asks)) → answer ≡ (meaning stated whole).0) →
      ((whole : Relations) → FitsSchema (schemas_of in_force) whole → AreBrought in_force whole fetches (given (brought asks)) → unsent ≡ map unsent_by (moves_between in_force (db.catalogue (suc n)) refragment.relation.name (rows_of whole refragment.relation.name))) →
      Explained {L = language db} (desk.Worked t (n, stated) (map (ask_of db) asks) (answer, map write_of unsent))
  explained_moves refragment is t answer unsent answers moves = (
    planned.statement,
    λ whole fits tag gives.
        let there = subst (λ schemas. FitsSchema schemas whole.1) (of.schemas n) fits in
        let are = are_brought whole.1 fits (subst (λ (m : ℕ). Gives {L = language db} (m, whole.1) (map (ask_of db) asks)) (sym tag) gives) in (
          answers whole.1 there are,
          ap (map write_of) (moves whole.1 there are) ∙ moves_are (moves_between in_force (db.catalogue (suc n)) refragment.relation.name (rows_of whole.1 refragment.relation.name)) ∙ sym (of.moves n refragment.relation.name whole.1 (planned.statement.next refragment is)) ∙ ap (λ (m : ℕ). db.writes m (suc m) whole.1 whole.1) tag
              ∙ sym (ap (λ (s : Statement). db.writes whole.0 (if is_refragment s then suc whole.0 else whole.0) whole.1 (meaning s whole.1).1) is),
        ),
  )

-- so, where the catalogue, the rows and the writes go by other names
module _ (db : Database) (of : IsOfCatalogue db) (n : ℕ) (unique : LeafNamesAreUnique) (stated : Statement) (reduced : ReducedPlan) (asks : List Ask) (planned : IsOfPlan db n stated reduced asks) (t : Name) (answer : Answer) (catalogue : Catalogue) (same : db.catalogue n ≡ catalogue)
    (rows : List FetchRows) (rows_are : rows ≡ brought asks) where
  -- what holds of each whole database of which these rows were brought
  abbrev pub Over : (Relations → Type 0) → Type 0
  Over Holds = IsStatementOf (schemas_of catalogue) stated → AreFetchesOf catalogue stated reduced.fetches → FindsAll catalogue stated reduced.fetches (plan_in reduced) → (whole : Relations) → FitsSchema (schemas_of catalogue) whole → AreBrought catalogue whole reduced.fetches (given rows) → Holds whole

  of_statement : IsStatementOf (schemas_of catalogue) stated
  of_statement = subst (λ cat. IsStatementOf (schemas_of cat) stated) same (stated_there db of n unique stated reduced asks planned)

  of_fetches : AreFetchesOf catalogue stated reduced.fetches
  of_fetches = subst (λ cat. AreFetchesOf cat stated reduced.fetches) same planned.fetches

  of_finds : FindsAll catalogue stated reduced.fetches (plan_in reduced)
  of_finds = subst (λ cat. FindsAll cat stated reduced.fetches (plan_in reduced)) same planned.finds

  brought_there : (whole : Relations) → AreBrought (db.catalogue n) whole reduced.fetches (given (brought asks)) → AreBrought catalogue whole reduced.fetches (given rows)
  brought_there whole are = subst (λ r. AreBrought catalogue whole reduced.fetches (given r)) (sym rows_are) (subst (λ cat. AreBrought cat whole reduced.fetches (given (brought asks))) same are)

  over : (Holds : Relations → Type 0) → Over Holds → (whole : Relations) → FitsSchema (schemas_of (db.catalogue n)) whole → AreBrought (db.catalogue n) whole reduced.fetches (given (brought asks)) → Holds whole
  over Holds holds whole fits are = holds of_statement of_fetches of_finds whole (subst (λ cat. FitsSchema (schemas_of cat) whole) same fits) (brought_there whole are)

  pub explained_of : is_refragment stated ≡ false → (unsent : List Unsent) → Over (λ whole. answer ≡ (meaning stated whole).0) → Over (λ whole. unsent ≡ map (unsent_from catalogue) (writes_between catalogue whole (meaning stated whole).1)) →
      Explained {L = language db} (desk.Worked t (n, stated) (map (ask_of db) asks) (answer, map write_of unsent))
  explained_of stays unsent answers writes =
      explained db of n unique stated reduced asks planned stays t answer unsent
      (over (λ whole. answer ≡ (meaning stated whole).0) answers)
      (λ whole fits are. over (λ whole. unsent ≡ map (unsent_from catalogue) (writes_between catalogue whole (meaning stated whole).1)) writes whole fits are ∙ sym (ap (λ cat. map (unsent_from cat) (writes_between cat whole (meaning stated whole).1)) same))

  pub explained_by : (refragment : Refragment) → stated ≡ statements.Refragment refragment → (next : Catalogue) → db.catalogue (suc n) ≡ next → (unsent : List Unsent) → Over (λ whole. answer ≡ (meaning stated whole).0) →
      Over (λ whole. unsent ≡ map unsent_by (moves_between catalogue next refragment.relation.name (rows_of whole refragment.relation.name))) → Explained {L = language db} (desk.Worked t (n, stated) (map (ask_of db) asks) (answer, map write_of unsent))
  explained_by refragment is next same_next unsent answers moves =
      explained_moves db of n unique stated reduced asks planned refragment is t answer unsent
      (over (λ whole. answer ≡ (meaning stated whole).0) answers)
      (λ whole fits are. over (λ whole. unsent ≡ map unsent_by (moves_between catalogue next refragment.relation.name (rows_of whole refragment.relation.name))) moves whole fits are
      ∙ (λ i. map unsent_by (moves_between (sym same i) (sym same_next i) refragment.relation.name (rows_of whole refragment.relation.name))))

-- ---- where an evaluation may fail
module _ (db : Database) (of : IsOfCatalogue db) (n : ℕ) (unique : LeafNamesAreUnique) (stated : Statement) (reduced : ReducedPlan) (asks : List Ask) (planned : IsOfPlan db n stated reduced asks) (t : Name) (catalogue : Catalogue) (same : db.catalogue n ≡ catalogue)
    (rows : List FetchRows) (rows_are : rows ≡ brought asks) {E : Type 0} (result : Result Worked E) where
  abbrev OverAll : (Worked → Relations → Type 0) → Type 0
  OverAll Holds = IfOk result (λ w. Over db of n unique stated reduced asks planned t w.answer catalogue same rows rows_are (Holds w))

  -- by the names that the fetches and the plan have in the code
  over_ok : (result : Result Worked E) (fs : List Fetch) → fs ≡ reduced.fetches → (sh : Shape) → sh ≡ plan_in reduced → (Holds : Worked → Relations → Type 0) →
      (IsStatementOf (schemas_of catalogue) stated → AreFetchesOf catalogue stated fs → FindsAll catalogue stated fs sh → IfOk result (λ w. (whole : Relations) → FitsSchema (schemas_of catalogue) whole → AreBrought catalogue whole fs (given rows) → Holds w whole)) →
      IfOk result (λ w. Over db of n unique stated reduced asks planned t w.answer catalogue same rows rows_are (Holds w))
  over_ok (Ok w) fs fs_are sh sh_is Holds made = λ is are finds whole fits those.
      made is (subst (AreFetchesOf catalogue stated) (sym fs_are) are) (subst (FindsAll catalogue stated fs) (sym sh_is) (subst (λ f. FindsAll catalogue stated f (plan_in reduced)) (sym fs_are) finds)) whole fits (subst (λ f. AreBrought catalogue whole f (given rows)) (sym fs_are) those)
  over_ok (Err e) fs fs_are sh sh_is Holds made = tt

  abbrev MadeOf : Statement → List Fetch → Shape → (Worked → Relations → Type 0) → Type 0
  MadeOf s fs sh Holds = IsStatementOf (schemas_of catalogue) s → AreFetchesOf catalogue s fs → FindsAll catalogue s fs sh → IfOk result (λ w. (whole : Relations) → FitsSchema (schemas_of catalogue) whole → AreBrought catalogue whole fs (given rows) → Holds w whole)

  abbrev IsExplained : Worked → Type 0
  IsExplained w = Explained {L = language db} (desk.Worked t (n, stated) (map (ask_of db) asks) (w.answer, map write_of w.unsent.items))

  both_ok : {A E : Type 0} (result : Result A E) {P Q R : A → Type 0} → ((x : A) → P x → Q x → R x) → IfOk result P → IfOk result Q → IfOk result R
  both_ok (Ok x) more p q = more x p q
  both_ok (Err e) more p q = tt

  module _ (fs : List Fetch) (fs_are : fs ≡ reduced.fetches) (sh : Shape) (sh_is : sh ≡ plan_in reduced) where
    pub worked_ok : is_refragment stated ≡ false → MadeOf stated fs sh (λ w whole. w.answer ≡ (meaning stated whole).0) → MadeOf stated fs sh (λ w whole. w.unsent.items ≡ map (unsent_from catalogue) (writes_between catalogue whole (meaning stated whole).1)) → IfOk result IsExplained
    worked_ok stays answers writes = both_ok result
        (λ w one other. explained_of db of n unique stated reduced asks planned t w.answer catalogue same rows rows_are stays w.unsent.items one other)
        (over_ok result fs fs_are sh sh_is (λ w whole. w.answer ≡ (meaning stated whole).0) answers)
        (over_ok result fs fs_are sh sh_is (λ w whole. w.unsent.items ≡ map (unsent_from catalogue) (writes_between catalogue whole (meaning stated whole).1)) writes)

    pub moved_ok : (refragment : Refragment) → stated ≡ statements.Refragment refragment → (next : Catalogue) → db.catalogue (suc n) ≡ next → MadeOf (statements.Refragment refragment) fs sh (λ w whole. w.answer ≡ (meaning (statements.Refragment refragment) whole).0) →
        MadeOf (statements.Refragment refragment) fs sh (λ w whole. w.unsent.items ≡ map unsent_by (moves_between catalogue next refragment.relation.name (rows_of whole refragment.relation.name))) → IfOk result IsExplained
    moved_ok refragment is next same_next answers moves = both_ok result
        (λ w one other. explained_by db of n unique stated reduced asks planned t w.answer catalogue same rows rows_are refragment is next same_next w.unsent.items one other)
        (over_ok result fs fs_are sh sh_is (λ w whole. w.answer ≡ (meaning stated whole).0) (subst (λ s. MadeOf s fs sh (λ w whole. w.answer ≡ (meaning s whole).0)) (sym is) answers))
        (over_ok result fs fs_are sh sh_is (λ w whole. w.unsent.items ≡ map unsent_by (moves_between catalogue next refragment.relation.name (rows_of whole refragment.relation.name))) (subst (λ s. MadeOf s fs sh (λ w whole. w.unsent.items ≡ map unsent_by (moves_between catalogue next refragment.relation.name (rows_of whole refragment.relation.name)))) (sym is) moves))
