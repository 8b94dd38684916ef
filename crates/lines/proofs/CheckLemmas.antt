-- Lemmas on what is said of a catalogue.
use Rattle.std.proofs.Common.{◌≡◌, ℕ, Bool, ◌+◌, ◌<◌, codes, List, [], ◌∷◌, ◌++◌, length, take, get_or, Option, Some, None, Result, Ok, Err, inl, inr, IfErr, IfSome, OnOk, subst, append_assoc, ap, refl, ◌∙◌, arith}
use Rattle.std.specs.Borrow.{Bor}
use Rattle.std.specs.Fmt.{decimal}
use Rattle.std.specs.Io.KnownBytes.{Appends}
use Rattle.std.specs.List.{flat_map}
use Rattle.std.proofs.lemmas.Grind.{common_steps}
use Rattle.catalog.specs.Catalogue.{Catalogue, IsValidCatalogue}
use Rattle.lines.specs.declared.catalog_file.CatalogFault.{CatalogFault}
use Rattle.lines.specs.declared.catalog_file.CatalogFault.TheVariants.{Program, Refused}
use Rattle.lines.specs.CatalogFile.{IsCatalogueFile}
use Rattle.lines.specs.Check.{ChecksFile, IsWriteFault, check_text, counts_text}

-- all was said of a valid catalogue, or the write failed
pub said : (known : Option (List ℕ)) (as_tree : Bool) (file : Bor (List ℕ)) (old new : Option (List ℕ)) (catalogue : Catalogue) (text : List ℕ) (result : Result Unit CatalogFault) → IfSome known (λ bytes. IsCatalogueFile bytes catalogue) → IsValidCatalogue catalogue → text ≡ check_text as_tree catalogue → OnOk result (Appends old new text) → IfErr result IsWriteFault → IfSome known (λ bytes. ChecksFile as_tree file bytes old new result)
said None as_tree file old new catalogue text result of valid is written faults = tt
said (Some bytes) as_tree file old new catalogue text (Ok done) of valid is written faults =
    record { catalogue = catalogue; file = of; valid = valid; said = subst (λ (line : List ℕ). Appends old new line) is written }
said (Some bytes) as_tree file old new catalogue text (Err (Refused fault)) of valid is written faults = absurd faults
said (Some bytes) as_tree file old new catalogue text (Err (Program fault)) of valid is written (inl memory) = (inl (inl memory), λ none. absurd (none catalogue of valid))
said (Some bytes) as_tree file old new catalogue text (Err (Program fault)) of valid is written (inr closed) = (inr closed, λ none. absurd (none catalogue of valid))

-- what is told in its parts, and the marks between them
pub told_of : (old name site columns conds blank opening close a b c d e all : List ℕ) → a ≡ old ++ (name ++ blank) → b ≡ a ++ site → c ≡ b ++ opening → d ≡ c ++ columns → e ≡ d ++ close → all ≡ e ++ conds →
    all ≡ old ++ (name ++ (blank ++ site) ++ opening ++ columns ++ close ++ conds)
told_of old name site columns conds blank opening close a b c d e all is_a is_b is_c is_d is_e is_all = rw (is_all, is_e, is_d, is_c, is_b, is_a) (simp append_assoc refl)

-- in a line of its own
pub line_of : (old told feed now all : List ℕ) → now ≡ old ++ told → all ≡ now ++ feed → all ≡ old ++ (told ++ feed)
line_of old told feed now all is_now is_all = rw (is_all, is_now) (append_assoc old told feed)

grouped : (a s b r c l d e : List ℕ) → a ++ (s ++ (b ++ (r ++ (c ++ (l ++ (d ++ e)))))) ≡ a ++ s ++ b ++ r ++ c ++ l ++ d ++ e
grouped a s b r c l d e = simp append_assoc refl

-- the first line, in which the three numbers are known
pub counts_of : (old all : List ℕ) (sites relations leaves s r l : ℕ) → all ≡ old ++ (codes "accepted " ++ (decimal sites ++ (codes " sites " ++ (decimal relations ++ (codes " relations " ++ (decimal leaves ++ (codes " fragments" ++ 10 ∷ []))))))) →
    sites ≡ s → relations ≡ r → leaves ≡ l → all ≡ old ++ counts_text s r l
counts_of old all sites relations leaves s r l is is_s is_r is_l =
    rw (← is_s, ← is_r, ← is_l) (is ∙ ap (λ line. old ++ line) (grouped (codes "accepted ") (decimal sites) (codes " sites ") (decimal relations) (codes " relations ") (decimal leaves) (codes " fragments") (10 ∷ [])))

-- one more line
pub one_more_line : {A : Type 0} (line : A → List ℕ) (xs : List A) (i : ℕ) (d : A) (old now new : List ℕ) → i < length xs → now ≡ old ++ flat_map line (take i xs) → new ≡ now ++ line (get_or xs i d) → new ≡ old ++ flat_map line (take (i + 1) xs)
one_more_line line xs i d old now new within so_far next = grind (arith, common_steps)
