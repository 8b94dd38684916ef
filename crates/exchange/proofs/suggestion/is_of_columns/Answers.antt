-- Why `suggestion::is_of_columns` meets its contract.
use Rattle.std.proofs.Common.{◌≡◌, ◌≤◌, ◌<◌, List, [], ◌∷◌, length, get_or, ap, sym, ◌∙◌, arith}
use Rattle.meaning.specs.declared.schema.RelationSchema.{RelationSchema}
use Rattle.exchange.proofs.suggestion.is_of_columns.Goals as goal

-- a list of one item
alone : {A : Type 0} (xs : List A) (x : A) → 1 ≤ length xs → length xs < 2 → x ≡ get_or xs 0 x → xs ≡ x ∷ []
alone [] x some few is = absurd (omega arith)
alone (y ∷ []) x some few is = ap (λ z. z ∷ []) (sym is)
alone (y ∷ z ∷ xs) x some few is = absurd (omega arith)

pub returns : goal.returns
returns c = λ holds.
    record {
      sited = sym (ap length c.sites.ensures) ∙ c.if-sites.false;
      alone = sym c.schema.ensures.schemas ∙ sym c.as_slice.ensures ∙ alone c.as_slice.result.now c.only-item.result c.in-len1.len_at_least c.in-len1.len_below c.only-item.is ∙ ap (λ (schema : RelationSchema). schema ∷ []) (c.is_relation.ensures holds);
    }
