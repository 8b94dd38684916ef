-- What a fetch leaves: a store that is unchanged.
use Rattle.std.proofs.Common.{◌≡◌, Option, sym, subst}
use Rattle.store.specs.SiteContent.{SiteContent, IsUnchanged}
use Rattle.store.specs.declared.reply.Reply.{Reply}
use Rattle.protocol.specs.Site.{Act}
use Rattle.protocol.specs.Local.{local}
use Rattle.site.specs.State.{VolatileState, Steps}

-- what is unchanged is the same
pub unchanged_is : (old new : SiteContent) → IsUnchanged old new → old ≡ new
unchanged_is old new same = λ i. record { has = λ leaf. sym (same.has leaf) i; content = λ leaf. sym (same.content leaf) i; prepared = λ ticket. sym (same.prepared ticket) i; life = sym same.life i }

-- a step over a store that is unchanged
pub moves : (old new : SiteContent) (before after : VolatileState) (act : Act local) (answer : Option Reply) → IsUnchanged old new → Steps old before old after act answer → Steps old before new after act answer
moves old new before after act answer same steps = subst (λ c. Steps old before c after act answer) (unchanged_is old new same) steps
