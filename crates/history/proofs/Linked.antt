-- Letters that are linked by their transactions: what one letter more changes, and what a search has passed.
use Rattle.std.proofs.Common.{◌≡◌, ◌≢◌, ◌<◌, ◌≤◌, ◌+◌, ◌++◌, ◌∷◌, ◌∙◌, ℕ, zero, suc, List, [], Bor, BTreeMap, Option, Some, length, get_or, slice_get, refl, sym, ap, subst, inl, inr, ◌⊎◌, arith}
use Rattle.std.specs.BTreeMap.{Updates, get}
use Rattle.std.proofs.lemmas.Bool.{cases_lt, cases_order}
use Rattle.std.proofs.lemmas.List.{length-append, length-map, map-append}
use Rattle.std.specs.Option.{option_map}
use Rattle.std.proofs.lemmas.Option.{slice_get-get_or, slice_get-map, slice_get_within}
use Rattle.reader.proofs.Places.{slice_get-behind, slice_get-within_front}
use Rattle.store.specs.declared.letter.Letter.{Letter}
use Rattle.store.specs.declared.name.Txn.{Txn}
use Rattle.store.specs.Name.{txn_cmp}
use Rattle.store.specs.Orders.{txn_cmp-IsAntisymmetric, txn_cmp_total}
use Rattle.history.specs.declared.sent.Link.{Link}
use Rattle.history.proofs.MapSteps.{changed}
use Rattle.history.specs.Sent.{AreLinked, IsLinked, IsNewest, behind, letters_of}

-- the letter behind others
last_there : {A : Type 0} (xs : List A) (x : A) → slice_get (xs ++ x ∷ []) (length xs) ≡ Some x
last_there xs x = slice_get-behind xs (x ∷ []) 0 (length xs) (omega arith)

-- letters behind the bound change nothing
newest_before : (letters more : List Letter) (bound : ℕ) (txn : Txn) (place : Option ℕ) → bound ≤ length letters → IsNewest letters bound txn place → IsNewest (letters ++ more) bound txn place
newest_before letters more bound txn place h so = record {
  within = so.within;
  own = λ n letter e at.
      let low : n + 1 ≤ bound = subst (λ place. behind place ≤ bound) e so.within in
      so.own n letter e (sym (slice_get-within_front letters more n (omega arith)) ∙ at);
  above = λ n letter from below at. so.above n letter from below (sym (slice_get-within_front letters more n (omega arith)) ∙ at);
}

-- the letter behind others is the newest of its transaction
newest_here : (letters : List Letter) (letter : Letter) (bound : ℕ) → bound ≡ length letters + 1 → IsNewest (letters ++ letter ∷ []) bound letter.txn (Some (length letters))
newest_here letters letter bound is = record {
  within = omega (arith, is);
  own = λ n other e at.
      let here : n ≡ length letters = cc in
      let same : Some other ≡ Some letter = sym at ∙ (ap (slice_get (letters ++ letter ∷ [])) here ∙ last_there letters letter) in
      let equal : other ≡ letter = cc in
      ap (λ (l : Letter). l.txn) equal;
  above = λ n other from below at. absurd (omega arith);
}

-- a letter with this one behind the others is this one, or one of the others
last_or : (letters : List Letter) (letter other : Letter) (n : ℕ) → n < length letters + 1 → slice_get (letters ++ letter ∷ []) n ≡ Some other → (n < length letters) ⊎ (other ≡ letter)
last_or letters letter other n h at = elim (cases_lt n (length letters)) [
  | inl low ↦ inl low
  | inr high ↦
      let here : n ≡ length letters = omega (arith, h, high) in
      let same : Some other ≡ Some letter = sym at ∙ (ap (slice_get (letters ++ letter ∷ [])) here ∙ last_there letters letter) in
      inr (cc)
]

-- it is no letter of another transaction
newest_other : (letters : List Letter) (letter : Letter) (txn : Txn) (place : Option ℕ) (bound : ℕ) → bound ≡ length letters + 1 → letter.txn ≢ txn → IsNewest letters (length letters) txn place → IsNewest (letters ++ letter ∷ []) bound txn place
newest_other letters letter txn place bound is differs so =
    let before = newest_before letters (letter ∷ []) (length letters) txn place (omega arith) so in
    record {
      within = omega (arith, before.within, is);
      own = before.own;
      above = λ n other from below at. elim (last_or letters letter other n (omega arith) at) [
        | inl low ↦ before.above n other from low at
        | inr same ↦ subst (λ (l : Letter). l.txn ≢ txn) (sym same) differs
      ];
    }

-- what the map has for each transaction after a letter of this one
newest_after : (letters : List Letter) (letter : Letter) (newest new : BTreeMap Txn ℕ) (bound : ℕ) → bound ≡ length letters + 1 → Updates txn_cmp newest new letter.txn (Some (length letters)) → (txn : Txn) → IsNewest letters (length letters) txn (get txn_cmp newest txn)
    → IsNewest (letters ++ letter ∷ []) bound txn (get txn_cmp new txn)
newest_after letters letter newest new bound is updates txn so = elim (changed txn_cmp txn_cmp_total txn_cmp-IsAntisymmetric newest new letter.txn (Some (length letters)) updates txn) [
  | inl here ↦ subst (IsNewest (letters ++ letter ∷ []) bound txn) (sym here.1) (subst (λ t. IsNewest (letters ++ letter ∷ []) bound t (Some (length letters))) here.0 (newest_here letters letter bound is))
  | inr there ↦ subst (IsNewest (letters ++ letter ∷ []) bound txn) (sym there.1) (newest_other letters letter txn (get txn_cmp newest txn) bound is there.0 so)
]

-- a link with this one behind the others is this one, or one of the others
link_or : (links : List Link) (link other : Link) (n : ℕ) → slice_get (links ++ link ∷ []) n ≡ Some other → ((n < length links) × (slice_get links n ≡ Some other)) ⊎ ((n ≡ length links) × (other ≡ link))
link_or [] link other zero at = inr (refl, cc)
link_or [] link other (suc n) at = cc
link_or (first ∷ links) link other zero at = inl (omega arith, at)
link_or (first ∷ links) link other (suc n) at = elim (link_or links link other n at) [ inl before ↦ inl (omega (arith, before.0), before.1) | inr same ↦ inr (omega (arith, same.0), same.1) ]

-- as many letters as links
pub letters_count : (links : List Link) → length (letters_of links) ≡ length links
letters_count links = length-map links (λ (link : Link). link.letter.now)

-- one letter more
pub linked_more : (links : List Link) (newest new : BTreeMap Txn ℕ) (letter : Bor Letter) (earlier : Option ℕ) → IsLinked links newest → earlier ≡ get txn_cmp newest letter.now.txn → Updates txn_cmp newest new letter.now.txn (Some (length links))
    → IsLinked (links ++ record { letter = letter; earlier = earlier } ∷ []) new
linked_more links newest new letter earlier so was updates =
    let link : Link = record { letter = letter; earlier = earlier } in
    let letters = letters_of links in
    let more : letters_of (links ++ link ∷ []) ≡ letters ++ letter.now ∷ [] = map-append (λ (l : Link). l.letter.now) links (link ∷ []) in
    let count : length links ≡ length letters = sym (letters_count links) in
    let bound : length (links ++ link ∷ []) ≡ length letters + 1 = omega (arith, length-append links (link ∷ []), count) in
    record {
      linked = λ n other at. subst (λ all. IsNewest all n other.letter.now.txn other.earlier) (sym more) (elim (link_or links link other n at) [
        | inl before ↦ newest_before letters (letter.now ∷ []) n other.letter.now.txn other.earlier (omega (arith, before.0, count)) (so.linked n other before.1)
        | inr same ↦ subst (λ (l : Link). IsNewest (letters ++ letter.now ∷ []) n l.letter.now.txn l.earlier) (sym same.1)
            (newest_before letters (letter.now ∷ []) n letter.now.txn earlier (omega (arith, same.0, count)) (subst (λ place. IsNewest letters n letter.now.txn place) (sym was) (subst (λ m. IsNewest letters m letter.now.txn (get txn_cmp newest letter.now.txn)) (sym same.0) (so.newest_of letter.now.txn))))
      ]);
      newest_of = λ txn. subst (λ all. IsNewest all (length (links ++ link ∷ [])) txn (get txn_cmp new txn)) (sym more)
          (newest_after letters letter.now newest new (length (links ++ link ∷ [])) bound (subst (λ m. Updates txn_cmp newest new letter.now.txn (Some m)) count updates) txn (subst (λ m. IsNewest letters m txn (get txn_cmp newest txn)) count (so.newest_of txn)));
    }

-- a search from the newest letter of a transaction back has passed those behind, and none of them was the one that is sought
pub record HasPassed (letters : List Letter) (letter : Letter) (next : Option ℕ) : Type 0 where
  pub within : behind next ≤ length letters
  pub own : (n : ℕ) (other : Letter) → next ≡ Some n → slice_get letters n ≡ Some other → other.txn ≡ letter.txn
  pub none : (n : ℕ) → behind next ≤ n → slice_get letters n ≡ Some letter → ⊥

-- at first it has passed none
pub passed_none : (letters : List Letter) (letter : Letter) (bound : ℕ) (newest : Option ℕ) → bound ≡ length letters → IsNewest letters bound letter.txn newest → HasPassed letters letter newest
passed_none letters letter bound newest is so = record {
  within = omega (arith, so.within, is);
  own = so.own;
  none = λ n from at. so.above n letter from (omega (arith, slice_get_within letters n letter at, is)) at refl;
}

-- then one more
pub passed_more : (links : List Link) (letter : Letter) (n : ℕ) (link : Link) → AreLinked links → slice_get links n ≡ Some link → link.letter.now ≢ letter → HasPassed (letters_of links) letter (Some n) → HasPassed (letters_of links) letter link.earlier
passed_more links letter n link linked at differs so =
    let before = linked n link at in
    let here : slice_get (letters_of links) n ≡ Some link.letter.now = slice_get-map (λ (l : Link). l.letter.now) links n ∙ ap (option_map (λ (l : Link). l.letter.now)) at in
    let own : link.letter.now.txn ≡ letter.txn = so.own n link.letter.now refl here in
    record {
      within = omega (arith, before.within, so.within);
      own = λ m other e there. before.own m other e there ∙ own;
      none = λ m from there. elim (cases_order m n) [
        | inl here_too ↦ differs (let equal = sym here ∙ (ap (slice_get (letters_of links)) (sym here_too) ∙ there) in cc)
        | inr apart ↦ elim apart [
          | inl below ↦ before.above m letter from below there (sym own)
          | inr above ↦ so.none m (omega (arith, above)) there
        ]
      ];
    }

-- a link by its place
pub link_at : (links : List Link) (n : ℕ) (link : Link) → n < length links → link ≡ get_or links n link → slice_get links n ≡ Some link
link_at links n link h at = slice_get-get_or links n link h ∙ ap Some (sym at)
