use Rattle.std.proofs.Common.{rules}
use Rattle.std.proofs.lemmas.Bool.Decides.{nat_tests}
use Rattle.std.proofs.lemmas.Iterator.Adapters.{YieldsList-from_bytes}
use Rattle.std.proofs.lemmas.Iterator.Search.{any_from_yields_List}
use Rattle.reader.specs.declared.class.Class.TheVariants.{Blank}
use Rattle.reader.specs.Class.{is_in}
use Rattle.lines.proofs.ScriptLemmas.{is_word-some}
use Rattle.lines.proofs.script.is_word.Goals as goal

pub returns-then-not-is_empty : goal.returns-then-not-is_empty
returns-then-not-is_empty c =
    let blank = any_from_yields_List (is_in Blank) _ _ c.any.result c.any.ensures.ran (YieldsList-from_bytes c.args.text.now c.bytes.ensures.rest) (λ x b q k. search (rules, nat_tests)) in
    is_word-some c.args.text.now c.any.result c.if-not-is_empty.ensures blank
