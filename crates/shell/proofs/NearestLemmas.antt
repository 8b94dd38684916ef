-- The nearest of the names so far.
use Rattle.std.proofs.Common.{◌≡◌, ◌<◌, ◌≤◌, ◌+◌, ℕ, List, Option, Some, None, arith, subst}
use Rattle.std.specs.Prelude.{slice_index_or}
use Rattle.std.specs.Borrow.{Bor}
use Rattle.std.specs.List.{AllWithin, HoldsAt}
use Rattle.std.proofs.lemmas.List.Elements.{AllWithin-more}
use Rattle.shell.specs.Nearest.{distance, too_far}

pub record IsBest (word : List ℕ) (names : List (Bor (List ℕ))) (count limit : ℕ) (name : Bor (List ℕ)) : Type 0 where
  pub place : ℕ
  pub before : place < count
  pub same : slice_index_or names place name ≡ name
  pub limit_is : limit ≡ distance word name.now
  pub near : distance word name.now < too_far word
  pub first : AllWithin (λ other. distance word name.now < distance word other.now) names 0 place
  pub least : AllWithin (λ other. distance word name.now ≤ distance word other.now) names 0 count

-- of the first names, this one is likely meant, and another one would have to be nearer than the limit
abbrev pub IsBestSoFar : List ℕ → List (Bor (List ℕ)) → ℕ → ℕ → Option (Bor (List ℕ)) → Type 0
IsBestSoFar word names count limit None = (limit ≡ too_far word) × AllWithin (λ other. too_far word ≤ distance word other.now) names 0 count
IsBestSoFar word names count limit (Some name) = IsBest word names count limit name

-- one name more that is no nearer than some number
more : (word : List ℕ) (names : List (Bor (List ℕ))) (i n : ℕ) (x : Bor (List ℕ)) → AllWithin (λ other. n ≤ distance word other.now) names 0 i → HoldsAt (λ other. other ≡ x) names i → n ≤ distance word x.now → AllWithin (λ other. n ≤ distance word other.now) names 0 (i + 1)
more word names i n x all at far = AllWithin-more (λ other. n ≤ distance word other.now) names 0 i all (λ d. rw (at d) far)

-- none of the names so far is nearer than the limit
none_nearer : (word : List ℕ) (names : List (Bor (List ℕ))) (i limit : ℕ) (found : Option (Bor (List ℕ))) → IsBestSoFar word names i limit found → AllWithin (λ other. limit ≤ distance word other.now) names 0 i
none_nearer word names i limit None so = rw so.0 so.1
none_nearer word names i limit (Some name) so = rw so.limit_is so.least

limit_is_near : (word : List ℕ) (names : List (Bor (List ℕ))) (i limit : ℕ) (found : Option (Bor (List ℕ))) → IsBestSoFar word names i limit found → limit ≤ too_far word
limit_is_near word names i limit None so = let e : limit ≡ too_far word = so.0 in omega arith
limit_is_near word names i limit (Some name) so =
    let e : limit ≡ distance word name.now = so.limit_is in
    let near : distance word name.now < too_far word = so.near in
    omega arith

-- a name that is no nearer changes nothing
pub kept : (word : List ℕ) (names : List (Bor (List ℕ))) (i limit : ℕ) (x : Bor (List ℕ)) (found : Option (Bor (List ℕ))) → IsBestSoFar word names i limit found → HoldsAt (λ other. other ≡ x) names i → limit ≤ distance word x.now → IsBestSoFar word names (i + 1) limit found
kept word names i limit x None so at far = (so.0, more word names i (too_far word) x so.1 at (subst (λ n. n ≤ distance word x.now) so.0 far))
kept word names i limit x (Some name) so at far =
    let before : so.place < i = so.before in
    record {
      place = so.place;
      before = omega arith;
      same = so.same;
      limit_is = so.limit_is;
      near = so.near;
      first = so.first;
      least = more word names i (distance word name.now) x so.least at (subst (λ n. n ≤ distance word x.now) so.limit_is far);
    }

-- a nearer name is the nearest
pub taken : (word : List ℕ) (names : List (Bor (List ℕ))) (i limit edits : ℕ) (x : Bor (List ℕ)) (found : Option (Bor (List ℕ))) → IsBestSoFar word names i limit found → HoldsAt (λ other. other ≡ x) names i → edits ≡ distance word x.now → edits < limit → IsBestSoFar word names (i + 1) edits (Some x)
taken word names i limit edits x found so at is nearer =
    let all = none_nearer word names i limit found so in
    let close = limit_is_near word names i limit found so in
    let first : AllWithin (λ other. distance word x.now < distance word other.now) names 0 i = (λ k d low high.
    let far : limit ≤ distance word (slice_index_or names k d).now = all k d low high in omega arith) in
    let least : AllWithin (λ other. distance word x.now ≤ distance word other.now) names 0 i = (λ k d low high.
    let far : distance word x.now < distance word (slice_index_or names k d).now = first k d low high in omega arith) in
    record {
      place = i;
      before = omega arith;
      same = at x;
      limit_is = is;
      near = omega arith;
      first = first;
      least = more word names i (distance word x.now) x least at (omega arith);
    }
