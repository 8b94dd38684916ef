-- Conditions alone: a text is one of one list of them at most, and they fit the columns.
use Rattle.std.proofs.Common.{◌≡◌, ℕ, ◌≤◌, List, None, length, ap, subst}
use Rattle.std.specs.List.{AllByRecursion}
use Rattle.std.proofs.lemmas.List.{append-nil}
use Rattle.terms.specs.declared.cond.Cond.{Cond}
use Rattle.terms.specs.declared.value.Kind.{Kind}
use Rattle.terms.specs.Cond.{IsCondOf}
use Rattle.meaning.specs.declared.schema.Column.{Column}
use Rattle.reader.specs.Conds.{AreCondsOf, OneListOfCondsOfText}
use Rattle.reader.specs.Grammar.{WritesConditions}
use Rattle.reader.specs.Names.{conds_of}
use Rattle.reader.specs.Scope.{types, columns_alone}
use Rattle.reader.specs.Symbol.{Symbol}
use Rattle.reader.specs.Tokens.{AreTokens}
use Rattle.reader.specs.Tree as tree
use Rattle.reader.proofs.Commands as grammar
use Rattle.reader.proofs.FitsSchema.{IsSound, all_sound, sound_conditions, conds_fit}
use Rattle.reader.proofs.Loop.{one_list}

-- the conditions that a text's tokens write
conditions_of_tokens : (columns : List Column) (text : List ℕ) (tokens : List Symbol) (conds : List Cond) → AreTokens text tokens → (are : AreCondsOf columns text conds) → WritesConditions tokens are.written
conditions_of_tokens columns text tokens conds spelled are =
    let P : List Symbol → Type 0 = λ symbols. WritesConditions symbols are.written in
    subst P (one_list text are.tokens tokens are.spelled spelled) are.grammatical

-- a text is one of one list of conditions at most
pub unique : OneListOfCondsOfText
unique columns text one other a b =
    let same : a.written ≡ b.written = grammar.one_list_of_conditions b.tokens a.written b.written (conditions_of_tokens columns text b.tokens one b.spelled a) b.grammatical in
    let meant : conds_of (columns_alone columns) a.written ≡ conds_of (columns_alone columns) b.written = ap (conds_of (columns_alone columns)) same in
    cc (a.meant, b.meant, meant)

-- tokens that write nothing
pub no_grammar : (columns : List Column) (text : List ℕ) (tokens : List Symbol) → AreTokens text tokens → ((written : List tree.Condition) → ¬ (WritesConditions tokens written)) → (conds : List Cond) → ¬ (AreCondsOf columns text conds)
no_grammar columns text tokens spelled nothing conds are = nothing are.written (conditions_of_tokens columns text tokens conds spelled are)

-- names that mean nothing
pub no_names : (columns : List Column) (text : List ℕ) (tokens : List Symbol) (written : List tree.Condition) → AreTokens text tokens → WritesConditions tokens written → conds_of (columns_alone columns) written ≡ None → (conds : List Cond) → ¬ (AreCondsOf columns text conds)
no_names columns text tokens written spelled grammatical none conds are =
    let same : are.written ≡ written = grammar.one_list_of_conditions tokens are.written written (conditions_of_tokens columns text tokens conds spelled are) grammatical in
    cc (are.meant, none, ap (conds_of (columns_alone columns)) same)

-- the conditions of a text fit the columns, and are at most 8
pub conds_of_text_fit : (columns : List Column) (text : List ℕ) (conds : List Cond) → AreCondsOf columns text conds → AllByRecursion (IsCondOf (types columns)) conds × (length conds ≤ 8)
conds_of_text_fit columns text conds are =
    let Sound : List Symbol → Type 0 = AllByRecursion IsSound in
    let all = subst Sound are.grammatical.1 (all_sound text are.tokens are.spelled) in
    let fit = conds_fit (columns_alone columns) are.written conds (sound_conditions are.written all) are.meant in
    let P : List Kind → Type 0 = λ ks. AllByRecursion (IsCondOf ks) conds in
    (subst P (append-nil (types columns)) fit.0, fit.1)
