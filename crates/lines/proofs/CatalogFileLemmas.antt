-- Lemmas on files of catalogues.
use Rattle.std.proofs.Common.{◌≡◌, ℕ, ◌+◌, ◌≤◌, Bool, true, false, cond, List, length, take, Option, Some, None, IfSome, Result, Ok, Err, IfErr, IsErrAnd, arith, subst, sym, refl, inl, inr, ◌∙◌}
use Rattle.std.specs.Borrow.{Bor}
use Rattle.std.specs.Str.{IsUtf8}
use Rattle.catalog.specs.Fault.{Fault}
use Rattle.catalog.specs.declared.fault.Rule.{Rule}
use Rattle.catalog.specs.declared.fault.Rule.TheVariants.{Toml, Field, Name, Twice, NoSite, KeyType, ColumnTwice, ColumnLost, ColumnAbsent, WrongType, Gap, Overlap, Limit, Memory as NoMemory}
use Rattle.catalog.specs.Catalogue.{Catalogue, IsCatalogueText}
use Rattle.catalog.specs.Breaks.{CatalogueTextBreaks}
use Rattle.catalog.specs.Document.{RefusesText}
use Rattle.catalog.specs.Refuses.{is_of_text}
use Rattle.catalog.specs.Refusal.{RefusesBy}
use Rattle.lines.specs.declared.catalog_file.CatalogFault.TheVariants.{Program, Refused}
use Rattle.lines.specs.declared.fault.ProgramFault.TheVariants.{Memory}
use Rattle.lines.specs.CatalogFile.{IsCatalogueFile, IsFaultOf, IsNoText, IsTextOf, RefusesFile, fault_of_refusal, is_memory}
use Rattle.lines.proofs.InputLemmas.{too_much, all_read}

-- what follows from what a refusal says is said by it too
pub refuses_also : {this that other those : Type 0} (rule : Rule) → (this → other) → (that → those) → RefusesBy this that rule → RefusesBy other those rule
refuses_also NoMemory f g r = tt
refuses_also (Gap cell) f g r = f r
refuses_also (Overlap cell) f g r = f r
refuses_also Toml f g r = g r
refuses_also Field f g r = g r
refuses_also Name f g r = g r
refuses_also Twice f g r = g r
refuses_also NoSite f g r = g r
refuses_also KeyType f g r = g r
refuses_also ColumnTwice f g r = g r
refuses_also ColumnLost f g r = g r
refuses_also ColumnAbsent f g r = g r
refuses_also WrongType f g r = g r
refuses_also Limit f g r = g r

file_of : (bytes read text : List ℕ) (catalogue : Catalogue) → read ≡ bytes → IsTextOf read text → IsCatalogueText text catalogue → IsCatalogueFile bytes catalogue
file_of bytes read text catalogue all of read_as =
    let P : List ℕ → Type 0 = λ t. IsCatalogueText t catalogue in
    record { utf8 = subst IsUtf8 all of.utf8; text = subst P (of.same ∙ all) read_as }

-- bytes that were read to their end, and are a text of this catalogue
pub catalogue_file : (known : Option (List ℕ)) (read text : List ℕ) (catalogue : Catalogue) → IfSome known (λ bytes. read ≡ take (65536 + 1) bytes) → IsTextOf read text → IsCatalogueText text catalogue → IfSome known (λ bytes. IsCatalogueFile bytes catalogue)
catalogue_file None read text catalogue front of read_as = tt
catalogue_file (Some bytes) read text catalogue front of read_as = file_of bytes read text catalogue (all_read bytes read 65536 front of.short) of read_as

-- bytes that are too many, or no text
no_text_of : (bytes read : List ℕ) (told : Option (List ℕ)) (rule : Rule) → read ≡ take (65536 + 1) bytes → IsNoText read rule → RefusesFile bytes told rule
no_text_of bytes read told rule front (inl (long, is)) =
    let P : Rule → Type 0 = RefusesFile bytes told in
    let more = too_much bytes read 65536 front long in
    subst P (sym is) (record {
      none = λ catalogue file. let h = file.text.short in absurd (omega arith);
      sure = refl;
      long = λ _. refl;
      no_text = λ short _. absurd (omega arith);
      breaks = λ of_text utf8. inl (refl, more);
    })
no_text_of bytes read told rule front (inr (short, other, is)) =
    let P : Rule → Type 0 = RefusesFile bytes told in
    let all = all_read bytes read 65536 front short in
    let few : length bytes ≤ 65536 = rw (sym all) short in
    subst P (sym is) (record {
      none = λ catalogue file. other (subst IsUtf8 (sym all) file.utf8);
      sure = refl;
      long = λ more. absurd (omega arith);
      no_text = λ _ _. refl;
      breaks = λ of_text utf8. absurd (other (subst IsUtf8 (sym all) utf8));
    })

-- a text that is refused, and not for want of memory
refused_of : (bytes read text : List ℕ) (told : Option (List ℕ)) (rule : Rule) → read ≡ bytes → IsTextOf read text → RefusesText text told rule → (is_of_text rule ≡ true → CatalogueTextBreaks rule text) → is_memory rule ≡ false → RefusesFile bytes told rule
refused_of bytes read text told rule all of refuses broken sure =
    let same = of.same ∙ all in
    let short : length bytes ≤ 65536 = rw (sym all) of.short in
    let utf8 = subst IsUtf8 all of.utf8 in
    let text_of : (catalogue : Catalogue) → IsCatalogueFile bytes catalogue → IsCatalogueText text catalogue = λ catalogue file. let P : List ℕ → Type 0 = λ t. IsCatalogueText t catalogue in subst P (sym same) file.text in
    record {
      none = refuses_also rule (λ first catalogue file. first catalogue (text_of catalogue file)) (λ none catalogue file. none catalogue (text_of catalogue file)) refuses;
      sure = sure;
      long = λ more. absurd (omega arith);
      no_text = λ _ other. absurd (other utf8);
      breaks = λ of_text _. subst (CatalogueTextBreaks rule) same (broken of_text);
    }

fault_by : (file : Bor (List ℕ)) (bytes : List ℕ) (fault : Fault) (is : Bool) → (is ≡ false → RefusesFile bytes fault.relation fault.rule) → IsFaultOf file bytes (cond is (Program Memory) (Refused fault))
fault_by file bytes fault true h = inl refl
fault_by file bytes fault false h = h refl

-- a fault of what was read
pub no_text : (file : Bor (List ℕ)) (known : Option (List ℕ)) (read : List ℕ) (fault : Fault) → IfSome known (λ bytes. read ≡ take (65536 + 1) bytes) → IsNoText read fault.rule → IfSome known (λ bytes. IsFaultOf file bytes (fault_of_refusal fault))
no_text file None read fault front none = tt
no_text file (Some bytes) read fault front none = fault_by file bytes fault (is_memory fault.rule) (λ _. no_text_of bytes read fault.relation fault.rule front none)

pub refused_text : (file : Bor (List ℕ)) (known : Option (List ℕ)) (read text : List ℕ) (fault : Fault) → IfSome known (λ bytes. read ≡ take (65536 + 1) bytes) → IsTextOf read text → RefusesText text fault.relation fault.rule → (is_of_text fault.rule ≡ true → CatalogueTextBreaks fault.rule text) →
    IfSome known (λ bytes. IsFaultOf file bytes (fault_of_refusal fault))
refused_text file None read text fault front of refuses broken = tt
refused_text file (Some bytes) read text fault front of refuses broken =
    fault_by file bytes fault (is_memory fault.rule) (λ sure. refused_of bytes read text fault.relation fault.rule (all_read bytes read 65536 front of.short) of refuses broken sure)

-- the exit of a `?` whose error is known
pub err_is : {T E : Type 0} (r : Result T E) (Q : E → Type 0) (y : E) → IsErrAnd r (λ x. x ≡ y) → Q y → IfErr r Q
err_is (Ok x) Q y is h = absurd is
err_is (Err x) Q y is h = subst Q (sym is) h
