-- Lemmas on what is printed of a schedule.
use Rattle.std.proofs.Common.{◌≡◌, ◌≢◌, ◌<◌, ◌+◌, ◌==◌, ◌++◌, ◌∷◌, [], codes, Bor, ℕ, List, length, map, drop, get_or, ap, refl, sym, add-one, drop-cons, append_assoc, ◌∙◌, arith}
use Rattle.std.specs.List.{flat_map, slice_split}
use Rattle.std.specs.Fmt.{decimal}
use Rattle.reader.specs.Fault.{Fault}
use Rattle.store.specs.declared.letter.Letter.{Letter}
use Rattle.desk.specs.declared.refusal.Refusal.{Refusal}
use Rattle.desk.specs.declared.refusal.Refusal.TheVariants as refusal
use Rattle.desk.specs.Refusal.{refusal_name, refusal_number}
use Rattle.catalog.specs.Catalogue.{Catalogue}
use Rattle.databases.specs.PlayText.{Naming, letter_line, letters_text, refused_text, told, told_line}

-- texts behind references
flat_map-now : (f : List ℕ → List ℕ) (xs : List (Bor (List ℕ))) → flat_map (λ x. f x.now) xs ≡ flat_map f (map (λ x. x.now) xs)
flat_map-now f [] = refl
flat_map-now f (x ∷ xs) = ap (λ rest. f x.now ++ rest) (flat_map-now f xs)

-- the lines of a text
pub told_pieces : (name text : List ℕ) (pieces : List (Bor (List ℕ))) → map (λ piece. piece.now) pieces ≡ slice_split (λ byte. byte == 10) text → flat_map (λ line. told_line name line.now) pieces ≡ told name text
told_pieces name text pieces are = flat_map-now (told_line name) pieces ∙ ap (flat_map (told_line name)) are

-- one letter more, and what is left
pub letters_text-next : (named : Naming) (catalogue : Catalogue) (sent : ℕ) (letters : List Letter) (i : ℕ) (d : Letter) (out new all : List ℕ) → i < length letters → new ≡ out ++ letter_line (named (get_or letters i d).txn) catalogue (sent + 1 + i) (get_or letters i d) →
    out ++ letters_text named catalogue (sent + 1 + i) (drop i letters) ≡ all → new ++ letters_text named catalogue (sent + 1 + (i + 1)) (drop (i + 1) letters) ≡ all
letters_text-next named catalogue sent letters i d out new all within next so_far =
    let here : drop i letters ≡ get_or letters i d ∷ drop (i + 1) letters = rw (add-one, drop-cons letters i d) refl in
    let number : sent + 1 + (i + 1) ≡ sent + 1 + i + 1 = omega arith in
    let line = letter_line (named (get_or letters i d).txn) catalogue (sent + 1 + i) (get_or letters i d) in
    let rest = letters_text named catalogue (sent + 1 + i + 1) (drop (i + 1) letters) in
    rw number (ap (λ (front : List ℕ). front ++ rest) next ∙ append_assoc out line rest
    ∙ ap (λ (left : List Letter). out ++ letters_text named catalogue (sent + 1 + i) left) (sym here) ∙ so_far)

-- a refusal of no text
pub refused_text-other : (refused : Refusal) → ((fault : Fault) → refused ≢ refusal.Read fault) → refused_text refused ≡ codes "refused " ++ decimal (refusal_number refused) ++ codes " " ++ refusal_name refused
refused_text-other refusal.NoTransaction not_read = refl
refused_text-other refusal.Busy not_read = refl
refused_text-other refusal.Ended not_read = refl
refused_text-other refusal.Full not_read = refl
refused_text-other (refusal.Read fault) not_read = absurd (not_read fault refl)
refused_text-other (refusal.Aborted why) not_read = refl
refused_text-other refusal.Memory not_read = refl
refused_text-other (refusal.Store fault) not_read = refl
refused_text-other refusal.NotAlone not_read = refl
refused_text-other refusal.NoNext not_read = refl
refused_text-other refusal.Chain not_read = refl
