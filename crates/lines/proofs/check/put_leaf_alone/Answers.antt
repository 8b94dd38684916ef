use Rattle.std.proofs.Common.{◌++◌, [], ◌∷◌, ap, ap₂, arith, codes, string_bytes, ◌∙◌}
use Rattle.reader.specs.PrintStatement.{separated_bytes}
use Rattle.reader.specs.Written.{name_in}
use Rattle.lines.specs.Check.{names_of_columns, where_text}
use Rattle.lines.proofs.CheckLemmas.{told_of}
use Rattle.lines.proofs.check.put_leaf_alone.Goals as goal

pub returns : goal.returns
returns c =
    let named = c.in_ok-put_names.ensures ∙ ap₂ (λ columns places. string_bytes c.push_str.new.self ++ separated_bytes (name_in (names_of_columns columns)) (codes ", ") places) c.columns_of-columns.ensures c.as_slice.ensures in
    let closed = c.in_ok-push.ensures.bytes ∙ ap (λ mark. string_bytes c.put_names.new.out ++ mark) (c.in_ok-push.ensures.ascii (omega arith)) in
    let told = c.in_ok-put_where.ensures ∙ ap (λ columns. string_bytes c.push.new.self ++ where_text (names_of_columns columns) c.args.leaf.now.conds) c.columns_of-columns.ensures in
    told_of _ _ _ _ _ (32 ∷ []) (32 ∷ 40 ∷ []) (41 ∷ []) _ _ _ _ _ _ c.in_ok-write.ensures.bytes c.in_ok-put_site.ensures c.in_ok-push_str.ensures.bytes named closed told
