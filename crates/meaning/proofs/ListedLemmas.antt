-- Listed items, one place more.
use Rattle.std.proofs.Common.{◌≡◌, ℕ, ◌+◌, ◌<◌, List, [], ◌∷◌, ◌++◌, Some, None, take, get_or, length, refl, ap, sym, ◌∙◌, append-nil, append_assoc, length-append, arith}
use Rattle.std.proofs.lemmas.List.{take_more}
use Rattle.std.proofs.lemmas.List.Elements.{filter_map-append}
use Rattle.std.specs.List.{slice_get, cons_option, range_with_len}
use Rattle.meaning.specs.Listed.{listed}

listed_more : {A : Type 0} (places : List ℕ) (items : List A) (i : ℕ) → i < length places → listed (take (i + 1) places) items ≡ listed (take i places) items ++ cons_option (slice_get items (get_or places i 0)) []
listed_more places items i within =
    ap (λ front. listed front items) (take_more places i 0 within) ∙ filter_map-append (slice_get items) (take i places) (get_or places i 0 ∷ [])

-- an item at one place more
pub listed_there : {A : Type 0} (places : List ℕ) (items : List A) (i : ℕ) (item : A) → i < length places → slice_get items (get_or places i 0) ≡ Some item → listed (take (i + 1) places) items ≡ listed (take i places) items ++ item ∷ []
listed_there places items i item within there =
    listed_more places items i within ∙ ap (λ o. listed (take i places) items ++ cons_option o []) there

-- no item at one place more
pub listed_past : {A : Type 0} (places : List ℕ) (items : List A) (i : ℕ) → i < length places → slice_get items (get_or places i 0) ≡ None → listed (take (i + 1) places) items ≡ listed (take i places) items
listed_past places items i within past =
    listed_more places items i within ∙ ap (λ o. listed (take i places) items ++ cons_option o []) past ∙ append-nil _

slice_get_mid : {A : Type 0} (front items : List A) (item : A) → slice_get (front ++ item ∷ items) (length front) ≡ Some item
slice_get_mid [] items item = refl
slice_get_mid (first ∷ front) items item = slice_get_mid front items item

-- the places behind a front list the items behind it
listed_behind : {A : Type 0} (front items : List A) → listed (range_with_len (length front) (length items)) (front ++ items) ≡ items
listed_behind front [] = refl
listed_behind {A} front (item ∷ items) =
    let longer : length front + 1 ≡ length (front ++ item ∷ []) = omega (arith, length-append front (item ∷ [])) in
    let rest : listed (range_with_len (length front + 1) (length items)) (front ++ item ∷ items) ≡ items =
    ap (λ n. listed (range_with_len n (length items)) (front ++ item ∷ items)) longer
    ∙ ap (listed (range_with_len (length (front ++ item ∷ [])) (length items))) (sym (append_assoc front (item ∷ []) items)) ∙ listed_behind (front ++ item ∷ []) items in
    ap (λ o. cons_option o (listed (range_with_len (length front + 1) (length items)) (front ++ item ∷ items))) (slice_get_mid front items item) ∙ ap (λ others. item ∷ others) rest

-- all places list all items
pub listed_all : {A : Type 0} (items : List A) → listed (range_with_len 0 (length items)) items ≡ items
listed_all items = listed_behind [] items
