-- What goes over one client's mailbox, counted.
use Rattle.std.specs.Prelude.{ℕ, zero, suc, ◌+◌, min, Bool, true, false, List, [], ◌∷◌, if◌then◌else◌}
use Rattle.std.specs.List.{list_any}
use Rattle.store.specs.declared.letter.Body.{Body}
use Rattle.store.specs.declared.letter.Body.TheVariants as body
use Rattle.store.specs.declared.letter.Letter.{Letter}
use Rattle.store.specs.declared.order.Order.TheVariants as order
use Rattle.store.specs.declared.reply.Reply.TheVariants as reply
use Rattle.store.specs.declared.reply.Vote.{Vote}
use Rattle.store.specs.declared.reply.Vote.TheVariants.{Yes, No, Read}
use Rattle.desk.specs.declared.reply.Notice.{Notice}
use Rattle.desk.specs.declared.reply.Reply as told
use Rattle.desk.specs.declared.reply.Reply.TheVariants as tells
use Rattle.desk.specs.declared.reply.Why.{Why}
use Rattle.desk.specs.declared.reply.Why.TheVariants as why
use Rattle.world.specs.declared.traffic.Aborted.{Aborted}
use Rattle.world.specs.declared.traffic.Traffic.{Traffic}

-- one more, as far as 64 bits tell
abbrev pub one_more : ℕ → ℕ
one_more count = min (count + 1) 18446744073709551615

-- nothing yet
abbrev pub no_traffic : Traffic
no_traffic = record { letters = 0; rounds = 0; forced = 0; committed = 0; aborted = record { vote = 0; refused = 0; given_up = 0; restart = 0; store = 0 } }

-- a letter comes
abbrev pub after_letter : Traffic → Traffic
after_letter traffic = record traffic { letters = one_more traffic.letters }

-- a round of deliveries begins, where so many letters wait; one without letters isn't counted
abbrev pub after_round : Traffic → ℕ → Traffic
after_round traffic zero = traffic
after_round traffic (suc waiting) = record traffic { rounds = one_more traffic.rounds }

-- whether it is a vote YES
abbrev pub is_yes : Vote → Bool
is_yes Yes = true
is_yes No = false
is_yes Read = false

-- whether it tells that a store has kept something: a prepared row, what a committed transaction wrote, or the commit row
abbrev pub tells_of_keeping : Body → Bool
tells_of_keeping (body.Order order.Open) = false
tells_of_keeping (body.Order (order.Fetch fetch)) = false
tells_of_keeping (body.Order (order.Intend intention)) = false
tells_of_keeping (body.Order (order.Prepare prepare)) = false
tells_of_keeping (body.Order (order.Commit ticket)) = true
tells_of_keeping (body.Order (order.Abort ticket)) = false
tells_of_keeping (body.Reply (reply.Ticket ticket)) = false
tells_of_keeping (body.Reply (reply.Rows rows)) = false
tells_of_keeping (body.Reply (reply.Refused refusal)) = false
tells_of_keeping (body.Reply (reply.Voted voted)) = is_yes voted.vote
tells_of_keeping (body.Reply (reply.Ack ticket)) = true
tells_of_keeping (body.Reply (reply.Inquire ticket)) = false

-- so of one of the letters that a machine puts out
abbrev pub has_kept : List Letter → Bool
has_kept put_out = list_any (λ letter. tells_of_keeping letter.body) put_out

-- a machine has put out these letters, by one that came; it calls its store at most once
abbrev pub after_step : Traffic → List Letter → Traffic
after_step traffic put_out = if has_kept put_out then record traffic { forced = one_more traffic.forced } else traffic

-- one more was aborted, for this cause
abbrev pub one_more_aborted : Aborted → Why → Aborted
one_more_aborted aborted why.Vote = record aborted { vote = one_more aborted.vote }
one_more_aborted aborted why.Refused = record aborted { refused = one_more aborted.refused }
one_more_aborted aborted why.GivenUp = record aborted { given_up = one_more aborted.given_up }
one_more_aborted aborted why.Restart = record aborted { restart = one_more aborted.restart }
one_more_aborted aborted why.Store = record aborted { store = one_more aborted.store }

-- the client has heard this of a transaction
abbrev pub after_end : Traffic → told.Reply → Traffic
after_end traffic tells.Committed = record traffic { committed = one_more traffic.committed }
after_end traffic (tells.Aborted cause) = record traffic { aborted = one_more_aborted traffic.aborted cause }
after_end traffic tells.Begun = traffic
after_end traffic (tells.Answer answer) = traffic
after_end traffic tells.RolledBack = traffic

-- this is what the client hears by one call, the first of which tells how its transaction has ended, if it has
abbrev pub after_call : Traffic → List Notice → Traffic
after_call traffic [] = traffic
after_call traffic (first ∷ others) = after_end traffic first.reply
