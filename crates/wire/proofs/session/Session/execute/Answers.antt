-- Why `execute` meets its contract.
use Rattle.std.proofs.Common.{sym}
use Rattle.wire.proofs.session.Session.execute.Goals as goal

pub returns-in-Ok-clause-outside : goal.returns-in-Ok-clause-outside
returns-in-Ok-clause-outside g c = rw (sym c.self.view_is) (λ closed spelled. absurd (c.in-Ok.ensures.outside closed spelled).0)

pub returns-in-Ok-clause-unread : goal.returns-in-Ok-clause-unread
returns-in-Ok-clause-unread g c = rw (sym c.self.view_is) (λ none. absurd (c.in-Ok.ensures.unread none).0)

pub returns-in-Err-clause-outside : goal.returns-in-Err-clause-outside
returns-in-Err-clause-outside g c = rw (sym c.self.view_is) (λ closed spelled. c.in-Err.ensures.outside closed spelled)

pub returns-in-Err-clause-unread : goal.returns-in-Err-clause-unread
returns-in-Err-clause-unread g c = rw (sym c.self.view_is) (λ none. c.in-Err.ensures.unread none)

pub returns-in-Ok-clause-moves_inside : goal.returns-in-Ok-clause-moves_inside
returns-in-Ok-clause-moves_inside g c = rw (sym c.self.view_is) (λ refragment inside spelled. absurd (c.in-Ok.ensures.moves_inside refragment inside spelled).0)

pub returns-in-Err-clause-moves_inside : goal.returns-in-Err-clause-moves_inside
returns-in-Err-clause-moves_inside g c = rw (sym c.self.view_is) (λ refragment inside spelled. c.in-Err.ensures.moves_inside refragment inside spelled)
