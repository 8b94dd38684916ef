-- What the refusal of groups says of them, by its rule.
use Rattle.std.proofs.Common.{◌≡◌, ◌⊎◌, ◌<◌, ℕ, zero, suc, Bool, true, false, ◌||◌, ◌==◌, List, [], ◌∷◌, ◌++◌, Option, Some, None, option_map, option_and_then, length, map, take, get_or, inl, inr, refl, sym, ap, ◌∙◌, subst, arith, append_assoc, append-nil}
use Rattle.std.specs.Prelude.{codes, unwrap_or}
use Rattle.std.specs.List.{cons_option, filter_map}
use Rattle.reader.specs.Breaks.{SomeOf}
use Rattle.reader.specs.Names.{all_of}
use Rattle.toml.specs.Data.{Data}
use Rattle.catalog.specs.declared.fault.Rule.{Rule}
use Rattle.catalog.specs.declared.fault.Rule.TheVariants.{Limit, Toml, Field, Name, Twice, NoSite, KeyType, ColumnTwice, ColumnLost, ColumnAbsent, WrongType, Gap, Overlap, Memory}
use Rattle.catalog.specs.Counts.{has}
use Rattle.catalog.specs.Describes.{Frame, named_in, place_within}
use Rattle.catalog.specs.Node.{texts_at}
use Rattle.catalog.specs.NodeBreaks.{GroupBreaks, GroupsBreak, IsAgain, names_in, names_said, place_before, places_before, places_said}
use Rattle.catalog.specs.Parts.{named, AreApart}
use Rattle.catalog.specs.Refuses.{IsPartsFault, is_of_text}
use Rattle.catalog.proofs.GroupNames.{both_answers}
use Rattle.catalog.proofs.NodeBreaks.{some_taken}

-- what stands in front is apart where all is
not_in_front : (col : ℕ) (front behind : List ℕ) → has (front ++ behind) col ≡ false → has front col ≡ false
not_in_front col [] behind none = refl
not_in_front col (first ∷ front) behind none = both (first == col) (has (front ++ behind) col) (has front col) none (not_in_front col front behind)
  where
    both : (here all some : Bool) → (here || all) ≡ false → (all ≡ false → some ≡ false) → (here || some) ≡ false
    both true all some never rest = absurd cc
    both false all some none rest = rest none

apart_in_front : (front behind : List ℕ) → AreApart (front ++ behind) → AreApart front
apart_in_front [] behind apart = tt
apart_in_front (col ∷ front) behind apart = (not_in_front col front behind apart.0, apart_in_front front behind apart.1)

-- ---- the names of one group

module _ (frame : Frame) (within : List ℕ) where
  -- all of them where each has one
  pub before_all : (names : List (List ℕ)) (places : List ℕ) → all_of (place_within frame within) names ≡ Some places → places_before frame within names ≡ places
  before_all [] places so_far = only_some so_far
    where
      only_some : Some [] ≡ Some places → [] ≡ places
      only_some e = cc
  before_all (name ∷ names) places so_far =
      let both = both_answers (place_within frame within name) (all_of (place_within frame within) names) places so_far in
      ap (λ (o : Option ℕ). place_before o (places_before frame within names)) both.2 ∙ ap (λ (ps : List ℕ). both.0 ∷ ps) (before_all names both.1 both.3) ∙ sym both.4

  -- the places before a name of no column are those so far
  pub before_taken : {A : Type 0} (view : A → List ℕ) (names : List A) (i : ℕ) (d x : A) (places : List ℕ) → x ≡ get_or names i d → i < length names → all_of (place_within frame within) (map view (take i names)) ≡ Some places → place_within frame within (view x) ≡ None →
      places_before frame within (map view names) ≡ places
  before_taken view [] i d x places is inside so_far none = absurd (omega arith)
  before_taken {A} view (name ∷ names) zero d x places is inside so_far none =
      let P : A → Type 0 = λ y. place_within frame within (view y) ≡ None in
      ap (λ (o : Option ℕ). place_before o (places_before frame within (map view names))) (subst P is none) ∙ only_some so_far
    where
      only_some : Some [] ≡ Some places → [] ≡ places
      only_some e = cc
  before_taken view (name ∷ names) (suc i) d x places is inside so_far none =
      let both = both_answers (place_within frame within (view name)) (all_of (place_within frame within) (map view (take i names))) places so_far in
      ap (λ (o : Option ℕ). place_before o (places_before frame within (map view names))) both.2 ∙ ap (λ (ps : List ℕ). both.0 ∷ ps) (before_taken view names i d x both.1 is (omega arith) both.3 none) ∙ sym both.4

  -- they are the first of those that have a place
  front_places : (names : List (List ℕ)) → (more : List ℕ) × (filter_map (place_within frame within) names ≡ places_before frame within names ++ more)
  front_places [] = ([], refl)
  front_places (name ∷ names) = go (place_within frame within name) (front_places names)
    where
      go : (o : Option ℕ) → (more : List ℕ) × (filter_map (place_within frame within) names ≡ places_before frame within names ++ more) →
          (more : List ℕ) × (cons_option o (filter_map (place_within frame within) names) ≡ place_before o (places_before frame within names) ++ more)
      go None rest = (filter_map (place_within frame within) names, refl)
      go (Some place) rest = (rest.0, ap (λ (ps : List ℕ). place ∷ ps) rest.1)

  -- some name has no place
  some_absent : (names : List (List ℕ)) → all_of (place_within frame within) names ≡ None → SomeOf (λ name. place_within frame within name ≡ None) names
  some_absent [] none = absurd cc
  some_absent (name ∷ names) none = go (place_within frame within name) refl (all_of (place_within frame within) names) (some_absent names) none
    where
      go : (o : Option ℕ) → place_within frame within name ≡ o → (rest : Option (List ℕ)) → (rest ≡ None → SomeOf (λ name. place_within frame within name ≡ None) names) → option_and_then (λ y. option_map (λ ys. y ∷ ys) rest) o ≡ None → SomeOf (λ name. place_within frame within name ≡ None) (name ∷ names)
      go None is rest others none = inl is
      go (Some place) is None others none = inr (others refl)
      go (Some place) is (Some ys) others none = absurd cc

  -- ---- a group that is refused

  pub no_names : (places : List ℕ) (node : Data) (rule : Rule) → texts_at (codes "of") node ≡ None → IsAgain rule Field places → GroupBreaks rule frame within places node
  no_names places node rule none (inl again) = inr (inr (again.0, λ apart. again.1 (apart_in_front places _ apart)))
  no_names places node rule none (inr other) = inl (other, none)

  pub absent_name : (before after : List ℕ) (node : Data) (names : List (List ℕ)) (rule : Rule) → texts_at (codes "of") node ≡ Some names → after ≡ before ++ places_before frame within names →
      all_of (place_within frame within) names ≡ None → IsAgain rule ColumnAbsent after → GroupBreaks rule frame within before node
  absent_name before after node names rule there seen none again =
      let P : Option (List (List ℕ)) → Type 0 = λ o. ((rule ≡ ColumnAbsent) × SomeOf (λ name. place_within frame within name ≡ None) (unwrap_or o [])) ⊎ ((rule ≡ ColumnTwice) × (AreApart (before ++ places_before frame within (unwrap_or o [])) → ⊥)) in
      inr (subst P (sym there) (go again))
    where
      go : IsAgain rule ColumnAbsent after → ((rule ≡ ColumnAbsent) × SomeOf (λ name. place_within frame within name ≡ None) names) ⊎ ((rule ≡ ColumnTwice) × (AreApart (before ++ places_before frame within names) → ⊥))
      go (inl twice) = let Q : List ℕ → Type 0 = λ ps. AreApart ps → ⊥ in inr (twice.0, subst Q seen twice.1)
      go (inr other) = inl (other, some_absent names none)

  -- ---- a group of several that is refused

  said_both : (names more : List (List ℕ)) → filter_map (place_within frame within) (names ++ more) ≡ filter_map (place_within frame within) names ++ filter_map (place_within frame within) more
  said_both [] more = refl
  said_both (name ∷ names) more = go (place_within frame within name) (said_both names more)
    where
      go : (o : Option ℕ) → filter_map (place_within frame within) (names ++ more) ≡ filter_map (place_within frame within) names ++ filter_map (place_within frame within) more →
          cons_option o (filter_map (place_within frame within) (names ++ more)) ≡ cons_option o (filter_map (place_within frame within) names) ++ filter_map (place_within frame within) more
      go None rest = rest
      go (Some place) rest = ap (λ (ps : List ℕ). place ∷ ps) rest

  some_behind : {A : Type 0} (P : A → Type 0) (front behind : List A) → SomeOf P behind → SomeOf P (front ++ behind)
  some_behind P [] behind some = some
  some_behind P (x ∷ front) behind some = inr (some_behind P front behind some)

  some_front : {A : Type 0} (P : A → Type 0) (front behind : List A) → SomeOf P front → SomeOf P (front ++ behind)
  some_front P [] behind some = absurd some
  some_front P (x ∷ front) behind (inl here) = inl here
  some_front P (x ∷ front) behind (inr some) = inr (some_front P front behind some)

  -- the names of all, at one of the groups
  names_around : {A : Type 0} (view : A → Data) (nodes : List A) (i : ℕ) (d : A) → i < length nodes →
      (behind : List (List ℕ)) × (names_said (map view nodes) ≡ names_said (map view (take i nodes)) ++ (names_in (view (get_or nodes i d)) ++ behind))
  names_around view [] i d inside = absurd (omega arith)
  names_around view (node ∷ nodes) zero d inside = (names_said (map view nodes), refl)
  names_around view (node ∷ nodes) (suc i) d inside =
      let rest = names_around view nodes i d (omega arith) in
      (rest.0, ap (λ (ns : List (List ℕ)). names_in (view node) ++ ns) rest.1 ∙ sym (append_assoc (names_in (view node)) (names_said (map view (take i nodes))) (names_in (view (get_or nodes i d)) ++ rest.0)))

  pub group_of_all : {A : Type 0} (view : A → Data) (nodes : List A) (i : ℕ) (d x : A) (places : List ℕ) (rule : Rule) → x ≡ get_or nodes i d → i < length nodes →
      places ≡ places_said frame within (map view (take i nodes)) → GroupBreaks rule frame within places (view x) → GroupsBreak rule frame within (map view nodes)
  group_of_all {A} view nodes i d x places rule is inside seen broken = go (subst P is broken)
    where
      P : A → Type 0
      P y = GroupBreaks rule frame within places (view y)

      around : (behind : List (List ℕ)) × (names_said (map view nodes) ≡ names_said (map view (take i nodes)) ++ (names_in (view (get_or nodes i d)) ++ behind))
      around = names_around view nodes i d inside

      here : List (List ℕ)
      here = names_in (view (get_or nodes i d))

      -- the places so far stand in front of all
      in_front : (more : List ℕ) × (places_said frame within (map view nodes) ≡ (places ++ places_before frame within here) ++ more)
      in_front =
          let front = front_places here in
          let f = filter_map (place_within frame within) in (
            front.0 ++ f around.0,
            ap f around.1
                ∙ said_both (names_said (map view (take i nodes))) (here ++ around.0)
                ∙ ap (λ (ps : List ℕ). ps ++ f (here ++ around.0)) (sym seen)
                ∙ ap (λ (ps : List ℕ). places ++ ps) (said_both here around.0 ∙ ap (λ (ps : List ℕ). ps ++ f around.0) front.1 ∙ append_assoc (places_before frame within here) front.0 (f around.0))
                ∙ sym (append_assoc places (places_before frame within here) (front.0 ++ f around.0)),
          )

      go : GroupBreaks rule frame within places (view (get_or nodes i d)) → GroupsBreak rule frame within (map view nodes)
      go (inl none) = inl (none.0, inr (some_taken (λ node. texts_at (codes "of") node ≡ None) view nodes i d (get_or nodes i d) refl inside none.1))
      go (inr (inl absent)) =
          let Q : List (List ℕ) → Type 0 = SomeOf (λ name. place_within frame within name ≡ None) in
          inr (inl (absent.0, subst Q (sym around.1) (some_behind _ (names_said (map view (take i nodes))) _ (some_front _ here around.0 absent.1))))
      go (inr (inr twice)) =
          let Q : List ℕ → Type 0 = AreApart in
          inr (inr (inl (twice.0, λ apart. twice.1 (apart_in_front (places ++ places_before frame within here) in_front.0 (subst Q in_front.1 apart)))))

  -- ---- all groups list names of columns

  all_places : (names : List (List ℕ)) (places : List ℕ) → all_of (place_within frame within) names ≡ Some places → filter_map (place_within frame within) names ≡ places
  all_places [] places found = only_some found
    where
      only_some : Some [] ≡ Some places → [] ≡ places
      only_some e = cc
  all_places (name ∷ names) places found =
      let both = both_answers (place_within frame within name) (all_of (place_within frame within) names) places found in
      ap (λ (o : Option ℕ). cons_option o (filter_map (place_within frame within) names)) both.2 ∙ ap (λ (ps : List ℕ). both.0 ∷ ps) (all_places names both.1 both.3) ∙ sym both.4

  pub group_places : (node : Data) (places : List ℕ) → named_in frame within node ≡ Some places → filter_map (place_within frame within) (names_in node) ≡ places
  group_places node places found = go (texts_at (codes "of") node) found
    where
      go : (o : Option (List (List ℕ))) → option_and_then (λ names. all_of (place_within frame within) names) o ≡ Some places → filter_map (place_within frame within) (unwrap_or o []) ≡ places
      go None none = absurd cc
      go (Some names) all = all_places names places all

  -- the places named so far, and those of one group more
  pub said_next : {A : Type 0} (view : A → Data) (nodes : List A) (i : ℕ) (d x : A) (seen places : List ℕ) → x ≡ get_or nodes i d → i < length nodes → seen ≡ places_said frame within (map view (take i nodes)) → named_in frame within (view x) ≡ Some places →
      seen ++ places ≡ places_said frame within (map view (take (suc i) nodes))
  said_next {A} view nodes i d x seen places is inside so_far found =
      let f = filter_map (place_within frame within) in
      ap (λ (ps : List ℕ). ps ++ places) so_far
      ∙ ap (λ (ps : List ℕ). f (names_said (map view (take i nodes))) ++ ps) (sym (group_places (view x) places found))
      ∙ sym (said_both (names_said (map view (take i nodes))) (names_in (view x)))
      ∙ ap f (sym (names_next nodes i inside is))
    where
      names_next : (nodes : List A) (i : ℕ) → i < length nodes → x ≡ get_or nodes i d → names_said (map view (take (suc i) nodes)) ≡ names_said (map view (take i nodes)) ++ names_in (view x)
      names_next [] i inside is = absurd (omega arith)
      names_next (node ∷ nodes) zero inside is = append-nil (names_in (view node)) ∙ ap (λ (y : A). names_in (view y)) (sym is)
      names_next (node ∷ nodes) (suc i) inside is =
          ap (λ (ns : List (List ℕ)). names_in (view node) ++ ns) (names_next nodes i (omega arith) is) ∙ sym (append_assoc (names_in (view node)) (names_said (map view (take i nodes))) (names_in (view x)))

  named_said : (nodes : List Data) (groups : List (List ℕ)) → all_of (named_in frame within) nodes ≡ Some groups → named groups ≡ places_said frame within nodes
  named_said [] groups found = ap named (sym (only_some found))
    where
      only_some : Some [] ≡ Some groups → [] ≡ groups
      only_some e = cc
  named_said (node ∷ nodes) groups found =
      let both = both_answers (named_in frame within node) (all_of (named_in frame within) nodes) groups found in
      ap named both.4
      ∙ ap (λ (ps : List ℕ). ps ++ named both.1) (sym (group_places node both.0 both.2))
      ∙ ap (λ (ps : List ℕ). filter_map (place_within frame within) (names_in node) ++ ps) (named_said nodes both.1 both.3)
      ∙ sym (said_both (names_in node) (names_said nodes))

  -- groups that name columns, but don't share them out
  pub parts_break : (nodes : List Data) (groups : List (List ℕ)) (rule : Rule) → all_of (named_in frame within) nodes ≡ Some groups → IsPartsFault within groups rule → is_of_text rule ≡ true → GroupsBreak rule frame within nodes
  parts_break nodes groups Field found none of_text = inl (refl, inl (no_nodes nodes groups found none))
    where
      no_nodes : (nodes : List Data) (groups : List (List ℕ)) → all_of (named_in frame within) nodes ≡ Some groups → groups ≡ [] → nodes ≡ []
      no_nodes [] groups found none = refl
      no_nodes (node ∷ nodes) groups found none =
          let both = both_answers (named_in frame within node) (all_of (named_in frame within) nodes) groups found in
          let e : both.0 ∷ both.1 ≡ [] = sym both.4 ∙ none in absurd cc
  parts_break nodes groups ColumnTwice found twice of_text =
      let Q : List ℕ → Type 0 = λ ps. AreApart ps → ⊥ in inr (inr (inl (refl, subst Q (named_said nodes groups found) twice)))
  parts_break nodes groups ColumnLost found lost of_text = inr (inr (inr (refl, groups, found, lost.1)))
  parts_break nodes groups Memory found fault of_text = absurd cc
  parts_break nodes groups Toml found fault of_text = absurd fault
  parts_break nodes groups Name found fault of_text = absurd fault
  parts_break nodes groups Twice found fault of_text = absurd fault
  parts_break nodes groups NoSite found fault of_text = absurd fault
  parts_break nodes groups KeyType found fault of_text = absurd fault
  parts_break nodes groups ColumnAbsent found fault of_text = absurd fault
  parts_break nodes groups WrongType found fault of_text = absurd fault
  parts_break nodes groups (Gap cell) found fault of_text = absurd fault
  parts_break nodes groups (Overlap cell) found fault of_text = absurd fault
  parts_break nodes groups Limit found fault of_text = absurd fault
