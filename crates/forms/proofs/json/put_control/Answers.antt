use Rattle.std.proofs.Common.{arith, false}
use Rattle.std.proofs.lemmas.Fmt.{hex_byte}
use Rattle.forms.proofs.json.put_control.Goals as goal

pub returns : goal.returns
returns c =
    let code = hex_byte false c.args.character (omega arith) in
    rw (c.laid_out.ensures, c.in_radix.ensures, code) at c.write.ensures.bytes
