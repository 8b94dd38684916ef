-- In which relation a fault is told.
use Rattle.std.proofs.Common.{◌≡◌, ◌≢◌, ◌≤◌, ◌<◌, ℕ, true, false, List, Option, Some, None, length, sym, ap, subst, ◌∙◌, arith, String, Global}
use Rattle.toml.specs.Data.{Data, string, integer, float, boolean, datetime, array, table, Members, as_table}
use Rattle.toml.specs.Parse.{parse_document}
use Rattle.toml.specs.View.{members_view}
use Rattle.toml.specs.declared.value.Value.{Value}
use Rattle.catalog.specs.declared.fault.Rule.{Rule}
use Rattle.catalog.specs.declared.fault.Rule.TheVariants.{Memory}
use Rattle.catalog.specs.Catalogue.{document_parts, entries}
use Rattle.catalog.specs.Document.{HasHead, IsToldOf, RefusesDocument, TellsRelation, TellsRoot, TellsText, are_tables}
use Rattle.catalog.specs.Refusal.{RefusesBy}
use Rattle.catalog.specs.Sites.{AreSites, RefusesSites}
use Rattle.catalog.proofs.CatalogueTexts.{entry_count}
use Rattle.catalog.proofs.Refusals.{refuses_also, refuses_known, refuses_map}

-- no document has a head but this one
abbrev pub NoHead : Data → Type 0
NoHead root = (sites : List (List ℕ)) (ms : Members) → HasHead root sites ms → ⊥

some_same : {A : Type 0} (x y : A) → Some x ≡ Some y → x ≡ y
some_same x y e = cc

-- the parts that were read are those of the head
head_is : (root : Data) (sites : List (List ℕ)) (ms : Members) → Some (sites, ms) ≡ document_parts root → (others : List (List ℕ)) (more : Members) → HasHead root others more → (others ≡ sites) × (more ≡ ms)
head_is root sites ms parts others more head =
    let same = some_same (others, more) (sites, ms) (sym head.parts ∙ sym parts) in (ap (λ p. p.0) same, ap (λ p. p.1) same)

pub no_parts_head : (root : Data) → None ≡ document_parts root → NoHead root
no_parts_head root none sites ms head = let some = head.parts in cc

pub no_tables_head : (root : Data) (sites : List (List ℕ)) (ms : Members) → Some (sites, ms) ≡ document_parts root → are_tables (entries ms) ≡ false → NoHead root
no_tables_head root sites ms parts none others more head =
    let same = head_is root sites ms parts others more head in
    let P : Members → Type 0 = λ ms. are_tables (entries ms) ≡ false in
    let all = head.tables in
    let other = subst P (sym same.1) none in cc

pub no_sites_head : (root : Data) (sites : List (List ℕ)) (ms : Members) → Some (sites, ms) ≡ document_parts root → (AreSites sites → ⊥) → NoHead root
no_sites_head root sites ms parts none others more head =
    let same = head_is root sites ms parts others more head in none (subst AreSites same.0 head.fit)

pub no_entries_head : (root : Data) (sites : List (List ℕ)) (es : List (String Global × Value)) → Some (sites, members_view es) ≡ document_parts root → length es ≡ 0 → NoHead root
no_entries_head root sites es parts none others more head =
    let same = head_is root sites (members_view es) parts others more head in
    let P : Members → Type 0 = λ ms. length (entries ms) ≡ 0 in
    head.some (subst P (sym same.1) (entry_count es ∙ none))

pub many_entries_head : (root : Data) (sites : List (List ℕ)) (es : List (String Global × Value)) → Some (sites, members_view es) ≡ document_parts root → 32 < length es → NoHead root
many_entries_head root sites es parts many others more head =
    let same = head_is root sites (members_view es) parts others more head in
    let P : Members → Type 0 = λ ms. length (entries ms) ≤ 32 in
    let few = subst P same.1 head.few in
    let count = entry_count es in omega (arith, few, count, many)

-- the parts that were read make a head
pub head_read : (root : Data) (texts : List (List ℕ)) (es : List (String Global × Value)) → Some (texts, members_view es) ≡ document_parts root → are_tables (entries (members_view es)) ≡ true → AreSites texts →
    length es ≢ 0 → length es ≤ 32 → HasHead root texts (members_view es)
head_read root texts es parts tables fit some few =
    let count = entry_count es in record {
      parts = sym parts;
      tables = tables;
      fit = fit;
      some = λ none. some (sym count ∙ none);
      few = omega (arith, count, few);
    }

-- none is told, and there is no head
pub tells_none : (root : Data) (told : Option (List ℕ)) (rule : Rule) → told ≡ None → RefusesBy ⊥ (NoHead root) rule → TellsRoot root told rule
tells_none root told rule none refused = let P : Option (List ℕ) → Type 0 = λ t. TellsRoot root t rule in subst P (sym none) refused

pub tells_sites : (root : Data) (sites : List (List ℕ)) (ms : Members) (told : Option (List ℕ)) (rule : Rule) → Some (sites, ms) ≡ document_parts root → told ≡ None → RefusesSites sites rule → TellsRoot root told rule
tells_sites root sites ms told rule parts none refused =
    tells_none root told rule none (refuses_also ⊥ (AreSites sites → ⊥) (NoHead root) rule (no_sites_head root sites ms parts) refused)

-- want of memory
pub tells_memory : (root : Data) (told : Option (List ℕ)) (rule : Rule) → rule ≡ Memory → TellsRoot root told rule
tells_memory root told rule is = let P : Rule → Type 0 = λ r. TellsRoot root told r in subst P (sym is) (any told)
  where
    any : (t : Option (List ℕ)) → TellsRoot root t Memory
    any None = tt
    any (Some name) = tt

-- one is told of the relations that were read
pub tells_relation : (root : Data) (sites : List (List ℕ)) (ms : Members) (told : Option (List ℕ)) (rule : Rule) → HasHead root sites ms → TellsRelation sites (entries ms) told rule → TellsRoot root told rule
tells_relation root sites ms None rule head tells = refuses_map ⊥ ⊥ ⊥ (NoHead root) rule (λ never. never) (λ never. absurd never) tells
tells_relation root sites ms (Some name) rule head tells =
    let K : Type 0 = (ss : List (List ℕ)) × (ms : Members) × HasHead root ss ms × IsToldOf ss (entries ms) (Some name) rule in
    refuses_map (IsToldOf sites (entries ms) (Some name) rule) K (IsToldOf sites (entries ms) (Some name) rule) K rule (λ of. (sites, ms, head, of)) (λ of. (sites, ms, head, of)) tells

-- ---- the text

-- what is told of a document is told of its text
pub tells_text : (text : List ℕ) (root : Data) (told : Option (List ℕ)) (rule : Rule) → as_table root ≡ parse_document text → TellsRoot root told rule → TellsText text told rule
tells_text text root None rule parses tells =
    refuses_also ⊥ (NoHead root) ((document : Members) (sites : List (List ℕ)) (ms : Members) → length text ≤ 65536 → parse_document text ≡ Some document → HasHead (table document) sites ms → ⊥) rule
    (λ none document sites ms short parsed head. none sites ms (head_of root document sites ms (parses ∙ parsed) head)) tells
  where
    head_of : (d : Data) (document : Members) (sites : List (List ℕ)) (ms : Members) → as_table d ≡ Some document → HasHead (table document) sites ms → HasHead d sites ms
    head_of (table own) document sites ms is head =
        let same : own ≡ document = some_same own document is in
        let P : Members → Type 0 = λ m. HasHead (table m) sites ms in subst P (sym same) head
    head_of (string s) document sites ms is head = absurd cc
    head_of (integer z) document sites ms is head = absurd cc
    head_of (float x) document sites ms is head = absurd cc
    head_of (boolean b) document sites ms is head = absurd cc
    head_of (datetime dt) document sites ms is head = absurd cc
    head_of (array items) document sites ms is head = absurd cc
tells_text text root (Some name) rule parses tells =
    let K : Type 0 = (sites : List (List ℕ)) × (ms : Members) × HasHead root sites ms × IsToldOf sites (entries ms) (Some name) rule in
    let L : Type 0 = (document : Members) × (parse_document text ≡ Some document) × TellsRoot (table document) (Some name) rule in
    refuses_map K L K L rule (lift root parses) (lift root parses) tells
  where
    lift : (d : Data) → as_table d ≡ parse_document text → (sites : List (List ℕ)) × (ms : Members) × HasHead d sites ms × IsToldOf sites (entries ms) (Some name) rule →
        (document : Members) × (parse_document text ≡ Some document) × TellsRoot (table document) (Some name) rule
    lift (table own) is of = (own, sym is, refuses_known ((sites : List (List ℕ)) × (ms : Members) × HasHead (table own) sites ms × IsToldOf sites (entries ms) (Some name) rule) rule of)
    lift (string s) is of = absurd (let parts = of.2.parts in cc)
    lift (integer z) is of = absurd (let parts = of.2.parts in cc)
    lift (float x) is of = absurd (let parts = of.2.parts in cc)
    lift (boolean b) is of = absurd (let parts = of.2.parts in cc)
    lift (datetime dt) is of = absurd (let parts = of.2.parts in cc)
    lift (array items) is of = absurd (let parts = of.2.parts in cc)

-- a text that is too long, or none of a document
pub tells_of_no_text : (text : List ℕ) (told : Option (List ℕ)) (rule : Rule) → told ≡ None → RefusesDocument text rule → TellsText text told rule
tells_of_no_text text told rule none refused =
    let P : Option (List ℕ) → Type 0 = λ t. TellsText text t rule in
    subst P (sym none) (refuses_also ⊥ (parse_document text ≡ None) ((document : Members) (sites : List (List ℕ)) (ms : Members) → length text ≤ 65536 → parse_document text ≡ Some document → HasHead (table document) sites ms → ⊥) rule
    (λ no_document document sites ms short parsed head. let both : None ≡ Some document = sym no_document ∙ parsed in cc) refused)
