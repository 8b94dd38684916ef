use Rattle.std.proofs.Common.{◌++◌, ap, string_bytes, ◌∙◌}
use Rattle.lines.specs.Cast.{name_of}
use Rattle.databases.specs.PlayText.{notice_text}
use Rattle.lines.proofs.CheckLemmas.{one_more_line}
use Rattle.databases.proofs.play_text.put_notices.Goals as goal

pub loop-notice-preserved : goal.loop-notice-preserved
loop-notice-preserved c =
    one_more_line (notice_text (name_of c.args.cast.now)) c.args.notices.now c.loop-notice.notice-index c.notice-item.result (string_bytes c.args.out.now) (string_bytes c.loop-notice.out) (string_bytes c.put_notice.new.out) c.loop-notice-test.true c.loop-notice.invariant
    (c.in_ok-put_notice.ensures ∙ ap (λ notice. string_bytes c.loop-notice.out ++ notice_text (name_of c.args.cast.now) notice) c.notice-item.is)
