-- Why `PlainSite::with_parts` meets its contract.
use Rattle.std.proofs.Common.{ap, ◌∙◌}
use Rattle.std.specs.BTreeMap.{is_at}
use Rattle.std.specs.Map.{lookup}
use Rattle.store.specs.Content.{made_by}
use Rattle.store.specs.ContentLaws.{same_made}
use Rattle.store.specs.Name.{ticket_cmp}
use Rattle.store.proofs.plain_site.PlainSite.with_parts.Goals as goal

pub returns-clause-parts : goal.returns-clause-parts
returns-clause-parts c =
    record {
      content = λ leaf. ap (λ changes. made_by changes leaf) c.keeping.ensures.kept ∙ same_made c.in_ok-made_by.field-0 c.args.parts c.in_ok-made_by.ensures.parts leaf;
      prepared = λ ticket. ap (lookup (is_at (ticket_cmp ticket))) c.keeping.ensures.none;
      life = c.keeping.ensures.life;
    }
