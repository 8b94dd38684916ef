use Rattle.std.proofs.Common.{ap}
use Rattle.lines.proofs.RunScriptLemmas.{given-begun, given-behind}
use Rattle.lines.proofs.run_script.give.Goals as goal

pub returns-in-Some : goal.returns-in-Some
returns-in-Some c = λ given is.
    let written = c.get_mut.follows.holds c.push.new.self in
    given-behind given c.args.sessions.now.entries _ c.args.session c.args.command c.in-Some.commands.now c.push.new.self is c.in-Some.ensures.value c.in_ok-push.ensures.items written.0

pub returns : goal.returns
returns c = λ given is.
    given-begun given c.args.sessions.now.entries c.get_mut.follows.lender-at-none.entries _ c.args.session c.args.command c.new-begun.result c.push-2.new.self is c.in_default.ensures.value c.new-begun.ensures.items c.in_ok-push-2.ensures.items (ap (λ m. m.entries) c.get_mut.follows.holds-at-none) c.in_ok-insert.ensures.entries
