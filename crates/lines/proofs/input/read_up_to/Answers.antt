use Rattle.std.proofs.Common.{◌≡◌, true, ap, ap₂, is_ok, option_map, sym, take, ◌∙◌}
use Rattle.lines.proofs.InputLemmas.{front_read}
use Rattle.lines.proofs.input.read_up_to.Goals as goal

pub returns-clause-front : goal.returns-clause-front
returns-clause-front g c =
    let ok : is_ok c.read_to_end.result ≡ true = sym c.map_err.ensures.variant ∙ ap is_ok c.in_ok-map_err.was in
    let front = ap₂ (λ n input. option_map (take n) (g.R.Read.remaining input)) c.take.ensures.limit c.take.ensures.inner in
    front_read c.read_to_end.result (g.R.Read.remaining c.args.input) _ c.new-read.result.items c.read_to_end.new.buf.items c.args.most ok front c.read_to_end.ensures.bytes c.new-read.ensures.items
