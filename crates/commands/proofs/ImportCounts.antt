-- Lemmas on how many rows of an import are committed.
use Rattle.std.proofs.Common.{◌≡◌, ◌<◌, ◌≤◌, ◌==◌, ◌%◌, ◌+◌, ◌++◌, ◌∷◌, ◌⊎◌, [], inl, inr, Bool, true, false, if◌then◌else◌, ap, append_assoc, append-nil, drop, get_or, length, refl, subst, sym, take, ◌∙◌, ℕ, List}
use Rattle.std.proofs.lemmas.Bool.{true≢false}
use Rattle.std.proofs.lemmas.List.{length-take-le, map-append, take-append-drop, take_more}
use Rattle.std.proofs.Math.Nat.{zero-mod}
use Rattle.terms.specs.declared.value.Value.{Value}
use Rattle.databases.specs.Client.{Seen}
use Rattle.commands.specs.Import.{Comes, IsCommitted, StopsAt, StopsBefore, before_row, begins, ending, import_of, insert_says, inserts_from, transaction_of}
use Rattle.lines.specs.Reply.{Told}
use Rattle.lines.specs.Script.{Reading}
use Rattle.commands.proofs.ImportLemmas.{before_none, before_some, inserts_next, stops_before, stops_behind}

-- a transaction is full, and its COMMIT stops
pub stops_at_commit : {B : Type 0} (seen : Seen B) (many number count : ℕ) (old new : B) (reply : Told) → (number % many == 0) ≡ true → StopsAt seen [] (ending number) old new reply → StopsBefore seen many number count count old new reply
stops_at_commit seen many number count old new reply first stops =
    inl (refl, subst (λ (tasks : List (Reading × Told)). StopsAt seen [] tasks old new reply) (before_some many number first) (stops_before seen [] (ending number) (begins ∷ []) old new reply stops))

-- it is committed, and the BEGIN of the next one stops
pub stops_at_begin : {B : Type 0} (seen : Seen B) (many number was : ℕ) (old middle new : B) (reply : Told) → (number % many == 0) ≡ true → Comes seen (ending number) old middle → StopsAt seen [] (begins ∷ []) middle new reply → StopsBefore seen many number was number old new reply
stops_at_begin seen many number was old middle new reply first came stops =
    let behind = stops_behind seen (ending number) [] (begins ∷ []) old middle new reply came stops in
    let so = subst (λ (made : List (Reading × Told)). StopsAt seen made (ending number ++ begins ∷ []) old new reply) (append-nil (ending number)) behind in
    inr (refl, first, subst (λ (tasks : List (Reading × Told)). StopsAt seen (ending number) tasks old new reply) (before_some many number first) so)

-- a transaction is under way: the first rows were inserted and committed, so many, as an import of them alone; then it began, and the others were inserted
pub record IsUnderWay (many : ℕ) (name : List ℕ) (rows : List (List Value)) (count : ℕ) (made : List (Reading × Told)) : Type 0 where
  pub done : List (List Value)
  pub more : List (List Value)
  pub split : rows ≡ done ++ more
  pub counted : count ≡ length done
  pub is : made ≡ import_of many name done ++ transaction_of true name more

-- so it is once the rows before this number were inserted, or there are none
abbrev pub IsSoFar : (many : ℕ) (name : List ℕ) (rows : List (List Value)) (number count : ℕ) → Type 0
IsSoFar many name rows number count = ((number ≡ 0) × (count ≡ 0)) ⊎ IsUnderWay many name (take number rows) count (inserts_from many name 0 (take number rows))

-- the first of a transaction: those before it are committed, and it begins
begun_first : (many : ℕ) (name : List ℕ) (front : List (List Value)) (number : ℕ) → number ≡ length front → IsUnderWay many name front number (inserts_from many name 0 front ++ (ending number ++ begins ∷ []))
begun_first many name front number at =
    let earlier = inserts_from many name 0 front in
    record {
      done = front;
      more = [];
      split = sym (append-nil front);
      counted = at;
      is = ap (λ (n : ℕ). earlier ++ (ending n ++ begins ∷ [])) at ∙ sym (append_assoc earlier (ending (length front)) (begins ∷ []));
    }

-- another one than the first: nothing comes before it
goes_on : (many : ℕ) (name : List ℕ) (front : List (List Value)) (count : ℕ) (made : List (Reading × Told)) → IsUnderWay many name front count made → IsUnderWay many name front count (made ++ [])
goes_on many name front count made way = subst (IsUnderWay many name front count) (sym (append-nil made)) way

-- before the first row of all a transaction begins
none_is_first : (many number : ℕ) → number ≡ 0 → (number % many == 0) ≡ false → ⊥
none_is_first many number none other =
    let first : (number % many == 0) ≡ true = ap (λ (n : ℕ). n == 0) (ap (λ (n : ℕ). n % many) none ∙ zero-mod many) in
    true≢false (sym first ∙ other)

-- what comes before a row has come
turned_so : (many : ℕ) (name : List ℕ) (rows : List (List Value)) (number was count : ℕ) (first : Bool) → (number % many == 0) ≡ first → number ≤ length rows → IsSoFar many name rows number was → count ≡ (if first then number else was) → IsUnderWay many name (take number rows) count (inserts_from many name 0 (take number rows) ++ before_row many number)
turned_so many name rows number was count true is within so_far counted =
    let front = take number rows in
    let at : number ≡ length front = sym (length-take-le number rows within) in
    subst (λ (n : ℕ). IsUnderWay many name front n (inserts_from many name 0 front ++ before_row many number)) (sym counted)
    (subst (λ (before : List (Reading × Told)). IsUnderWay many name front number (inserts_from many name 0 front ++ before)) (before_some many number is) (begun_first many name front number at))
turned_so many name rows number was count false is within (inl none) counted = absurd (none_is_first many number none.0 is)
turned_so many name rows number was count false is within (inr way) counted =
    let front = take number rows in
    subst (λ (n : ℕ). IsUnderWay many name front n (inserts_from many name 0 front ++ before_row many number)) (sym counted)
    (subst (λ (before : List (Reading × Told)). IsUnderWay many name front was (inserts_from many name 0 front ++ before)) (before_none many number is) (goes_on many name front was (inserts_from many name 0 front) way))

pub turned_over : (many : ℕ) (name : List ℕ) (rows : List (List Value)) (number was count : ℕ) → number ≤ length rows → IsSoFar many name rows number was → count ≡ (if number % many == 0 then number else was) → IsUnderWay many name (take number rows) count (inserts_from many name 0 (take number rows) ++ before_row many number)
turned_over many name rows number was count within so_far counted = turned_so many name rows number was count (number % many == 0) refl within so_far counted

-- one more row is inserted
inserted_more : (many : ℕ) (name : List ℕ) (front : List (List Value)) (count : ℕ) (made : List (Reading × Told)) (row : List Value) → IsUnderWay many name front count made → IsUnderWay many name (front ++ row ∷ []) count (made ++ insert_says name row ∷ [])
inserted_more many name front count made row way =
    let done = import_of many name way.done in
    record {
      done = way.done;
      more = way.more ++ row ∷ [];
      split = ap (λ (some : List (List Value)). some ++ row ∷ []) way.split ∙ append_assoc way.done way.more (row ∷ []);
      counted = way.counted;
      is = ap (λ (some : List (Reading × Told)). some ++ insert_says name row ∷ []) way.is
          ∙ append_assoc done (transaction_of true name way.more) (insert_says name row ∷ [])
          ∙ ap (λ (some : List (Reading × Told)). done ++ (begins ∷ some)) (sym (map-append (insert_says name) way.more (row ∷ [])));
    }

pub so_far_next : (many : ℕ) (name : List ℕ) (rows : List (List Value)) (number count : ℕ) (row : List Value) → number < length rows → row ≡ get_or rows number row → IsUnderWay many name (take number rows) count (inserts_from many name 0 (take number rows) ++ before_row many number) → IsSoFar many name rows (number + 1) count
so_far_next many name rows number count row within is way =
    let earlier = inserts_from many name 0 (take number rows) in
    let taken : take number rows ++ row ∷ [] ≡ take (number + 1) rows = ap (λ (r : List Value). take number rows ++ r ∷ []) is ∙ sym (take_more rows number row within) in
    let made : (earlier ++ before_row many number) ++ insert_says name row ∷ [] ≡ inserts_from many name 0 (take (number + 1) rows) = append_assoc earlier (before_row many number) (insert_says name row ∷ []) ∙ inserts_next many name rows number row within is in
    let more = inserted_more many name (take number rows) count (earlier ++ before_row many number) row way in
    inr (subst (λ (front : List (List Value)). IsUnderWay many name front count (inserts_from many name 0 (take (number + 1) rows))) taken (subst (IsUnderWay many name (take number rows ++ row ∷ []) count) made more))

-- what is committed of an import that ends there
pub committed_on_way : (many : ℕ) (name : List ℕ) (rows front others : List (List Value)) (count : ℕ) (made : List (Reading × Told)) → rows ≡ front ++ others → IsUnderWay many name front count made → IsCommitted many name rows count made
committed_on_way many name rows front others count made split way = record {
  done = way.done;
  more = way.more;
  others = others;
  begun = true;
  split = split ∙ ap (λ (some : List (List Value)). some ++ others) way.split ∙ append_assoc way.done way.more others;
  counted = way.counted;
  is = way.is;
}

-- behind the end of a transaction
committed_ended : (many : ℕ) (name : List ℕ) (rows front others : List (List Value)) (number : ℕ) → rows ≡ front ++ others → number ≡ length front → IsCommitted many name rows number (inserts_from many name 0 front ++ ending number)
committed_ended many name rows front others number split at =
    let earlier = inserts_from many name 0 front in
    record {
      done = front;
      more = [];
      others = others;
      begun = false;
      split = split;
      counted = at;
      is = ap (λ (n : ℕ). earlier ++ ending n) at ∙ sym (append-nil (import_of many name front));
    }

-- before anything has come
committed_none : (many : ℕ) (name : List ℕ) (rows : List (List Value)) → IsCommitted many name rows 0 []
committed_none many name rows = record { done = []; more = []; others = rows; begun = false; split = refl; counted = refl; is = refl }

taken_and_others : (rows : List (List Value)) (number : ℕ) → rows ≡ take number rows ++ drop number rows
taken_and_others rows number = sym (take-append-drop number rows)

-- what is committed as a row comes
pub committed_so_far : (many : ℕ) (name : List ℕ) (rows : List (List Value)) (number count : ℕ) → IsSoFar many name rows number count → IsCommitted many name rows count (inserts_from many name 0 (take number rows) ++ [])
committed_so_far many name rows number count (inl none) =
    subst (λ (n : ℕ). IsCommitted many name rows count (inserts_from many name 0 (take n rows) ++ [])) (sym none.0) (subst (λ (n : ℕ). IsCommitted many name rows n []) (sym none.1) (committed_none many name rows))
committed_so_far many name rows number count (inr way) =
    let front = take number rows in
    committed_on_way many name rows front (drop number rows) count (inserts_from many name 0 front ++ []) (taken_and_others rows number) (goes_on many name front count (inserts_from many name 0 front) way)

-- what was made before what comes before a row stops, and what is committed then
pub committed_before : {B : Type 0} (seen : Seen B) (many : ℕ) (name : List ℕ) (rows : List (List Value)) (number was count : ℕ) (old new : B) (reply : Told) → number ≤ length rows → IsSoFar many name rows number was → StopsBefore seen many number was count old new reply →
    (made : List (Reading × Told)) × StopsAt seen made (before_row many number) old new reply × IsCommitted many name rows count (inserts_from many name 0 (take number rows) ++ made)
committed_before seen many name rows number was count old new reply within so_far (inl stops) =
    ([], stops.1, subst (λ (n : ℕ). IsCommitted many name rows n (inserts_from many name 0 (take number rows) ++ [])) (sym stops.0) (committed_so_far many name rows number was so_far))
committed_before seen many name rows number was count old new reply within so_far (inr stops) =
    let front = take number rows in
    let at : number ≡ length front = sym (length-take-le number rows within) in
    (ending number, stops.2, subst (λ (n : ℕ). IsCommitted many name rows n (inserts_from many name 0 front ++ ending number)) (sym stops.0) (committed_ended many name rows front (drop number rows) number (taken_and_others rows number) at))
