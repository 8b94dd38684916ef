-- Why `are_in_with` meets its contract: all are in where the last one is and all before it are.
use Rattle.std.proofs.Common.{rules, ◌≡◌, ◌++◌, ◌∷◌, [], ◌&&◌, Bool, true, false, List, if◌then◌else◌, ap, sym, refl, ◌∙◌}
use Rattle.std.specs.List.{list_all}
use Rattle.std.proofs.lemmas.List.Folds.{list_all-append}
use Rattle.catalog.specs.Relation.{catalogue_of}
use Rattle.desk.specs.declared.fetches.Ask.{Ask}
use Rattle.desk.specs.Fetches.{has_rows_with}
use Rattle.desk.proofs.fetches.+are_in_with.Goals as goal

last_in : (p : Ask → Bool) (asks rest : List Ask) (ask : Ask) (b : Bool) → asks ≡ rest ++ ask ∷ [] → p ask ≡ b → list_all p asks ≡ (if b then list_all p rest else false)
last_in p asks rest ask b split is =
    ap (list_all p) split ∙ list_all-append p rest (ask ∷ []) ∙ both (list_all p rest) (p ask) ∙ ap (λ (y : Bool). if y then list_all p rest else false) is
  where
    both : (x y : Bool) → (x && (y && true)) ≡ (if y then x else false)
    both true true = refl
    both true false = refl
    both false true = refl
    both false false = refl

pub returns-then-has_rows_with : goal.returns-then-has_rows_with
returns-then-has_rows_with t c =
    let p = has_rows_with (catalogue_of c.args.catalog.now) c.args.site.now c.args.rows.now.op c.args.rows.now.parts in
    let is : p c.in-Some.ask.now ≡ true = search rules in
    c.are_in_with.ensures ∙ sym (last_in p c.args.asks.now c.in-Some.rest.now c.in-Some.ask.now true c.in-Some.ensures.cases.0 is)

pub returns-else-has_rows_with : goal.returns-else-has_rows_with
returns-else-has_rows_with t c =
    let p = has_rows_with (catalogue_of c.args.catalog.now) c.args.site.now c.args.rows.now.op c.args.rows.now.parts in
    let is : p c.in-Some.ask.now ≡ false = search rules in
    let so : c.has_rows_with.result ≡ false = search rules in
    so ∙ sym (last_in p c.args.asks.now c.in-Some.rest.now c.in-Some.ask.now false c.in-Some.ensures.cases.0 is)
