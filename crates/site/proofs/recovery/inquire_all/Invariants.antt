-- What each round of `inquire_all` keeps.
use Rattle.std.proofs.Common.{◌≡◌, ◌++◌, reverse}
use Rattle.site.specs.Inquiries.{inquiries_of}
use Rattle.site.specs.Youngest.{from_oldest}
use Rattle.site.proofs.recovery.inquire_all.Given as goal

-- the inquiries about what is left, and those so far, the last first, are all
abbrev pub invariant-loop-ticket : goal.invariant-loop-ticket
invariant-loop-ticket l = inquiries_of l.site (from_oldest l.ticket-iterator) ++ reverse l.letters.items ≡ inquiries_of l.site (from_oldest l.standings.entries)
