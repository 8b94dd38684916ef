-- Why `on_reply` meets its contract.
use Rattle.std.proofs.Common.{rules, true, nat_eq, sym, ap, ◌∙◌}
use Rattle.std.specs.Cmp.Lexicographic.{pointwise}
use Rattle.std.specs.List.{list_any}
use Rattle.protocol.specs.Desk.{on_desk_letter}
use Rattle.protocol.specs.Letters.{txn_name}
use Rattle.desk.specs.Request.{txn_in}
use Rattle.desk.specs.Database.{replied}
use Rattle.desk.specs.State.{volatile_of}
use Rattle.desk.proofs.Doing.{known_there, sending_there, takes_on}
use Rattle.desk.proofs.Opened.{any_mapped}
use Rattle.desk.proofs.Raised.{letter_keeps}
use Rattle.desk.proofs.Full.{past_limits}
use Rattle.desk.proofs.receive.on_reply.Goals as goal

pub returns-in-Ok-clause-ok : goal.returns-in-Ok-clause-ok
returns-in-Ok-clause-ok c = λ db kept of same next fits among.
    let volatile = c.args.volatile.now in
    let stands = sending_there ((volatile_of volatile).standing c.args.txn) c.args.site.now c.args.reply.now c.requires in
    let known = known_there db kept (volatile_of volatile) fits c.args.txn stands.0 stands.1 in
    let at = sym (any_mapped (λ other. pointwise nat_eq other c.args.site.now) (λ s. s.site) stands.0.participants) ∙ ap (list_any (λ other. pointwise nat_eq other c.args.site.now)) known.0 ∙ among in
    takes_on db kept volatile c.resume.ensures.ordered fits c.args.txn stands.0 stands.1 (λ choice. on_desk_letter (txn_name c.args.txn) c.args.site.now true choice (replied db c.args.site.now c.args.reply.now) (txn_in db (volatile_of volatile) c.args.txn)) (volatile_of c.resume.new.volatile) c.in-Ok.step
    (c.in-Ok.ensures.resume_on db kept stands.0 of same next fits stands.1 at)
    (λ choice. letter_keeps (txn_name c.args.txn) choice c.args.site.now true (replied db c.args.site.now c.args.reply.now) (txn_in db (volatile_of volatile) c.args.txn)) c.put_out.result.letters c.put_out.result.replies c.put_out.ensures.letters c.put_out.ensures.replies

pub returns-in-Err-clause-full : goal.returns-in-Err-clause-full
returns-in-Err-clause-full c = λ db kept of same next fits among full.
    let volatile = c.args.volatile.now in
    let stands = sending_there ((volatile_of volatile).standing c.args.txn) c.args.site.now c.args.reply.now c.requires in
    let known = known_there db kept (volatile_of volatile) fits c.args.txn stands.0 stands.1 in
    let at = sym (any_mapped (λ other. pointwise nat_eq other c.args.site.now) (λ s. s.site) stands.0.participants) ∙ ap (list_any (λ other. pointwise nat_eq other c.args.site.now)) known.0 ∙ among in
    past_limits db kept volatile fits c.args.txn stands.0 stands.1 (λ choice. on_desk_letter (txn_name c.args.txn) c.args.site.now true choice (replied db c.args.site.now c.args.reply.now) (txn_in db (volatile_of volatile) c.args.txn))
    (c.in-Err.ensures.full db kept stands.0 of same next fits stands.1 at (search rules))
