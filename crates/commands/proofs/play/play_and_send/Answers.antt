use Rattle.databases.proofs.SoloLemmas.{Appends-kept}
use Rattle.commands.proofs.play.play_and_send.Goals as goal

pub returns-clause-ok : goal.returns-clause-ok
returns-clause-ok g c =
    let ran = c.in_ok-done.ensures.ok in
    record {
      told = ran.told;
      said = Appends-kept (g.W.Write.contents c.args.output.now) (g.W.Write.contents c.play_items-done.new.output) (g.W.Write.contents c.send_out-sent.new.output) ran.told ran.said c.send_out-sent.ensures.same;
      plays = ran.plays;
    }
