use Rattle.std.proofs.Common.{◌≡◌, ◌++◌, [], ℕ, List, None, codes, ap, sym, rules, ◌∙◌}
use Rattle.std.specs.Fmt.{decimal}
use Rattle.std.specs.Option.{option_copied}
use Rattle.std.proofs.lemmas.Result.{IfOk-weaker}
use Rattle.databases.specs.Schedule.{Concerned, of_letter, refusal_text}
use Rattle.databases.proofs.delivering.letter_refusal.Goals as goal

pub returns : goal.returns
returns c =
    let none : option_copied c.args.letter ≡ None = ap option_copied c.in-None.is in
    let missing : c.as_str-in-None.result.now ≡ codes "no letter " ++ decimal c.args.number = search rules in
    let concerned : (record { client = []; site = []; missing = c.as_str-in-None.result.now }) ≡ of_letter c.args.cast.now c.args.number (option_copied c.args.letter) =
    ap (λ (m : List ℕ). let of : Concerned = record { client = []; site = []; missing = m } in of) missing ∙ sym (ap (of_letter c.args.cast.now c.args.number) none) in
    IfOk-weaker c.refusal-in-None.result _ _ (λ text h. h ∙ ap (λ (of : Concerned). refusal_text of c.args.fault) concerned) c.refusal-in-None.ensures
