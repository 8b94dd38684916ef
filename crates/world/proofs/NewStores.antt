-- New stores are filled with the parts of whole relations, and the sites come up over them.
use Rattle.std.proofs.Common.{◌≡◌, ◌≢◌, refl, sym, ap, ◌∙◌, subst, ℕ, suc, ◌+◌, ◌<◌, ◌==◌, Bool, true, false, List, [], ◌∷◌, ◌++◌, map, drop, length, append-nil, append_assoc, Option, Some, None, IsSome, cond, if◌then◌else◌, get_or, ◌⊎◌, inl, inr, add-one, arith}
use Rattle.std.proofs.lemmas.Bool.{eqb-true}
use Rattle.std.proofs.lemmas.List.{length-append}
use Rattle.std.proofs.Math.Seq.{drop-cons}
use Rattle.std.specs.Cmp.{tied_itself}
use Rattle.std.specs.FinMap as fin
use Rattle.std.specs.List.{AllByRecursion}
use Rattle.std.specs.Ordering.{eq_by_cmp, int_cmp, is_eq, ordering_then}
use Rattle.std.specs.declared.cmp.Ordering.{Ordering}
use Rattle.std.specs.declared.cmp.Ordering.TheVariants.{Less, Equal, Greater}
use Rattle.terms.specs.declared.leaf.Leaf.{Leaf}
use Rattle.terms.specs.declared.value.Value.{Value}
use Rattle.terms.specs.Leaf.{leaf_cmp}
use Rattle.meaning.specs.Whole.{Relations, rows_of}
use Rattle.catalog.specs.declared.fragment_leaf.FragmentLeaf.{FragmentLeaf}
use Rattle.catalog.specs.Catalogue.{Catalogue}
use Rattle.catalog.specs.FragmentLeaf.{catalogue_leaves, schemas_of}
use Rattle.store.specs.declared.name.Ticket.{Ticket}
use Rattle.store.specs.declared.prepared.Prepared.{Prepared}
use Rattle.store.specs.declared.slot.Slot.{Slot}
use Rattle.store.specs.Content.{Changes, Content, changed, made_by}
use Rattle.store.specs.Frame.{LeavesStore}
use Rattle.store.specs.Orders.{slot_cmp_total, ticket_cmp_total}
use Rattle.store.specs.SiteContent.{Applies, MayPrepare, Prepares, SiteContent, is_ticket}
use Rattle.store.specs.Slot.{slot_cmp}
use Rattle.protocol.specs.Parts.{In}
use Rattle.site.specs.declared.site.Site.{Site}
use Rattle.site.specs.State.{AreHad}
use Rattle.site.proofs.TicketOrder.{leaf_is}
use Rattle.world.specs.Filling.{filled, kept_with}
use Rattle.world.specs.Leaves.{known_leaves}
use Rattle.world.specs.Recovery.{AreUp, HaveLeaves, IsUp}
use Rattle.world.specs.Seated.{seat_from, seats_in}
use Rattle.world.proofs.ComingUp.{stores_were_clean}
use Rattle.world.specs.Start.{AllFilled, AllStarted, Fills, IsFilled, IsStarted, KeepsNothing}

-- ---- the parts that are put
-- the place of a part more is of its leaf, or was there
pub put_more : (before : Changes) (leaf : Leaf) (at : Slot) (part : Option (List Value)) (slot : Slot) → at.leaf ≡ leaf → IsSome (fin.get (fin.insert before at part) slot) → (slot.leaf ≡ leaf) ⊎ IsSome (fin.get before slot)
put_more before leaf at part slot of some = go (eq_by_cmp slot_cmp slot at) refl (subst IsSome (fin.get-insert slot_cmp_total before at part slot) some)
  where
    first_same : (one other : Ordering) → is_eq (ordering_then one other) ≡ true → is_eq one ≡ true
    first_same Less other e = e
    first_same Equal other e = refl
    first_same Greater other e = e

    go : (b : Bool) → eq_by_cmp slot_cmp slot at ≡ b → IsSome (cond b (Some part) (fin.get before slot)) → (slot.leaf ≡ leaf) ⊎ IsSome (fin.get before slot)
    go true e there = inl (leaf_is slot.leaf at.leaf (first_same (leaf_cmp slot.leaf at.leaf) (int_cmp slot.key at.key) e) ∙ of)
    go false e there = inr there

-- the parts of one leaf more
pub next_filled : (whole : Relations) (site i : ℕ) (leaves : List FragmentLeaf) (leaf : FragmentLeaf) (name : Leaf) (before after target : Content) → i < length leaves → leaf ≡ get_or leaves i leaf →
    after ≡ (if leaf.site == site then kept_with leaf (rows_of whole leaf.name.relation) name before else before) → filled whole site (drop i leaves) name before ≡ target → filled whole site (drop (i + 1) leaves) name after ≡ target
next_filled whole site i leaves leaf name before after target below is step so =
    ap (λ n. filled whole site (drop n leaves) name after) (add-one i)
    ∙ ap (filled whole site (drop (suc i) leaves) name) step
    ∙ sym (ap (λ rest. filled whole site rest name before) (drop-cons leaves i leaf below ∙ ap (λ l. l ∷ drop (suc i) leaves) (sym is)))
    ∙ so

pub not_same : (one other : ℕ) → (one ≡ other → ⊥) → (one == other) ≡ false
not_same one other apart = go (one == other) refl
  where
    go : (b : Bool) → (one == other) ≡ b → b ≡ false
    go true e = absurd (apart (eqb-true one other e))
    go false e = refl

-- ---- a store
module _ {S : Type 0} (is_clean is_sound : S → Type 0) (refused : S → ℕ) where
  pub store_still : (store : S) → LeavesStore is_clean is_sound refused store store
  store_still store = record { clean = λ clean. clean; counts = grind (arith); sound = λ clean sound. sound }

  -- one call, and then another
  pub store_then : (first second third : S) → LeavesStore is_clean is_sound refused first second → LeavesStore is_clean is_sound refused second third → LeavesStore is_clean is_sound refused first third
  store_then first second third one two = record {
    clean = λ clean. one.clean (two.clean clean);
    counts = let a = one.counts in let b = two.counts in omega arith;
    sound = λ clean sound. two.sound clean (one.sound (two.clean clean) sound);
  }

-- changes that were prepared are made: it is as if they were made at once
pub applied_at_once : (ticket : Ticket) (row : Prepared) (old middle new : SiteContent) → Prepares ticket row old middle → Applies ticket row.changes middle new → Applies ticket row.changes old new
applied_at_once ticket row old middle new prepares applies = record {
  has = λ leaf. applies.has leaf ∙ prepares.has leaf;
  content = λ leaf. applies.content leaf ∙ ap (changed leaf row.changes) (prepares.content leaf);
  prepared = λ other. applies.prepared other ∙ go other (is_ticket ticket other) (prepares.prepared other);
  life = applies.life ∙ prepares.life;
}
  where
    go : (other : Ticket) (b : Bool) → middle.prepared other ≡ (if b then Some row else old.prepared other) → (if b then None else middle.prepared other) ≡ (if b then None else old.prepared other)
    go other true e = refl
    go other false e = e

-- the row that has just been prepared is there
pub row_there : (ticket : Ticket) (row : Prepared) (old middle : SiteContent) → Prepares ticket row old middle → middle.prepared ticket ≡ Some row
row_there ticket row old middle prepares = prepares.prepared ticket ∙ ap (λ (b : Bool). if b then Some row else old.prepared ticket) (ap is_eq (tied_itself ticket_cmp_total ticket))

-- ---- a site's store
module _ (catalogue : Catalogue) (whole : Relations) (place : ℕ) (parts : Changes) (are : (leaf : Leaf) → made_by parts leaf ≡ filled whole place (catalogue_leaves catalogue) leaf fin.empty) where
  -- nothing was to be put
  pub filled_still : (kept : SiteContent) → parts ≡ fin.empty → ((leaf : Leaf) → made_by fin.empty leaf ≡ fin.empty) → KeepsNothing kept → IsFilled catalogue whole place kept kept
  filled_still kept none nothing new = record {
    has = λ leaf. refl;
    content = λ leaf. new.content leaf ∙ sym (nothing leaf) ∙ ap (λ (changes : Changes). made_by changes leaf) (sym none) ∙ are leaf;
    prepared = new.prepared;
  }

  -- the parts were put
  pub filled_by : (ticket : Ticket) (old new : SiteContent) → KeepsNothing old → Applies ticket parts old new → IsFilled catalogue whole place old new
  filled_by ticket old new nothing applies = record {
    has = applies.has;
    content = λ leaf. applies.content leaf ∙ ap (changed leaf parts) (nothing.content leaf) ∙ are leaf;
    prepared = λ other. applies.prepared other ∙ go (is_ticket ticket other) (nothing.prepared other);
  }
    where
      go : {row : Option Prepared} (b : Bool) → row ≡ None → (if b then None else row) ≡ None
      go true e = refl
      go false e = e

  -- they may be put
  pub may_fill : (ticket : Ticket) (kept : SiteContent) → parts ≢ fin.empty → ((slot : Slot) → IsSome (fin.get parts slot) → In slot.leaf (known_leaves (schemas_of catalogue))) → AreHad (known_leaves (schemas_of catalogue)) kept → KeepsNothing kept → MayPrepare ticket parts kept
  may_fill ticket kept some within had nothing = record { new = nothing.prepared ticket; some = some; within = λ slot there. had slot.leaf (within slot there) }

-- ---- the stores of all sites, one after another
module _ {S : Type 0} (is_clean is_sound : S → Type 0) (kept : S → SiteContent) (refused : S → ℕ) (catalogue : Catalogue) (whole : Relations) where
  abbrev All : ℕ → List S → List S → Type 0
  All = AllFilled is_clean is_sound kept refused catalogue whole

  -- with the rest, whatever becomes of it, all are filled
  abbrev pub GoFull : List S → List S → List S → Type 0
  GoFull stores rest done = (more : List S) → All (length done) rest more → All 0 stores (done ++ more)

  pub next_full : (stores was rest done new : List S) (given store : S) → GoFull stores was done → was ≡ given ∷ rest → Fills is_clean is_sound kept refused catalogue whole (length done) given store → new ≡ done ++ store ∷ [] → GoFull stores rest new
  next_full stores was rest done new given store goes yields here more =
      subst (GoFull stores rest) (sym more)
      (λ others rest_full. subst (All 0 stores) (sym (append_assoc done (store ∷ []) others))
      (goes (store ∷ others) (subst (λ (left : List S). All (length done) left (store ∷ others)) (sym yields)
      (here, subst (λ n. All n rest others) (length-append done (store ∷ []) ∙ add-one (length done)) rest_full))))

  pub all_full : (stores rest done : List S) → GoFull stores rest done → rest ≡ [] → All 0 stores done
  all_full stores rest done goes none = subst (All 0 stores) (append-nil done) (goes [] (subst (λ (left : List S). All (length done) left []) (sym none) tt))

  -- as many as there were
  pub as_many : (place : ℕ) (olds news : List S) → All place olds news → length news ≡ length olds
  as_many place [] [] all = refl
  as_many place [] (new ∷ news) all = absurd all
  as_many place (old ∷ olds) [] all = absurd all
  as_many place (old ∷ olds) (new ∷ news) all = ap suc (as_many (suc place) olds news all.1)

  -- clean ones were so
  pub were_clean : (place : ℕ) (olds news : List S) → All place olds news → AllByRecursion is_clean news → AllByRecursion is_clean olds
  were_clean place [] [] all clean = tt
  were_clean place [] (new ∷ news) all clean = absurd all
  were_clean place (old ∷ olds) [] all clean = absurd all
  were_clean place (old ∷ olds) (new ∷ news) all clean = (all.0.leaves_store.clean clean.0, were_clean (suc place) olds news all.1 clean.1)

  -- ---- and the sites that come up over them
  pub given_clean : (names : List (List ℕ)) (olds news : List S) (sites : List (Site S)) → All 0 olds news → AreUp is_clean is_sound kept refused catalogue names news sites → AllByRecursion (λ site. is_clean site.store) sites → AllByRecursion is_clean olds
  given_clean names olds news sites full up clean = were_clean 0 olds news full (stores_were_clean is_clean is_sound kept refused catalogue names news sites up clean)

  one_started : (place : ℕ) (name : List ℕ) (old new : S) (site : Site S) → Fills is_clean is_sound kept refused catalogue whole place old new → IsUp is_clean is_sound kept refused catalogue name new site → is_clean site.store → is_sound old → AreHad (known_leaves (schemas_of catalogue)) (kept old) → KeepsNothing (kept old) →
      IsStarted catalogue whole place name (seat_from kept site)
  one_started place name old new site fills up clean sound had nothing =
      let is = fills.filled (up.leaves_store.clean clean) sound had nothing in
      let life = up.life clean in
      record {
        called = up.called;
        leaves = up.leaves;
        content = λ leaf. life.content leaf ∙ is.content leaf;
        rests = record {
          begins = up.begins clean (λ leaf there. is.has leaf ∙ had leaf there);
          prepared = λ ticket. life.prepared ticket ∙ is.prepared ticket;
        };
      }

  pub all_started : (place : ℕ) (names : List (List ℕ)) (olds news : List S) (sites : List (Site S)) → All place olds news → AreUp is_clean is_sound kept refused catalogue names news sites → AllByRecursion (λ site. is_clean site.store) sites →
      AllByRecursion is_sound olds → HaveLeaves catalogue (map kept olds) → AllByRecursion KeepsNothing (map kept olds) → AllStarted catalogue whole place names (seats_in kept sites)
  all_started place [] [] [] [] full up clean sound have nothing = tt
  all_started place names [] (new ∷ news) sites full up clean sound have nothing = absurd full
  all_started place names (old ∷ olds) [] sites full up clean sound have nothing = absurd full
  all_started place [] [] [] (x ∷ sites) full up clean sound have nothing = absurd up
  all_started place [] (old ∷ olds) (new ∷ news) sites full up clean sound have nothing = absurd up
  all_started place (n ∷ names) [] [] sites full up clean sound have nothing = absurd up
  all_started place (n ∷ names) (old ∷ olds) (new ∷ news) [] full up clean sound have nothing = absurd up
  all_started place (n ∷ names) (old ∷ olds) (new ∷ news) (x ∷ sites) full up clean sound have nothing =
      (one_started place n old new x full.0 up.0 clean.0 sound.0 have.0 nothing.0, all_started (suc place) names olds news sites full.1 up.1 clean.1 sound.1 have.1 nothing.1)
