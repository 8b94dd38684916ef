-- Why `word::is_name` meets its contract.
use Rattle.std.proofs.Common.{◌≡◌, length, rules, None, false, ◌≤◌}
use Rattle.std.specs.Char.{is_ascii_uppercase}
use Rattle.std.specs.List.{list_any}
use Rattle.reader.specs.Reading.{keyword_of}
use Rattle.reader.specs.Tokens.{IsWord}
use Rattle.reader.proofs.Words.{is_name_so}
use Rattle.reader.proofs.word.is_name.Goals as goal
use Rattle.reader.proofs.word.is_name.Goals.{then-is_word, else-is_word, then-not-has_capital, else-not-has_capital}

pub returns-then-is_none : goal.returns-then-is_none
returns-then-is_none c = (
  λ short. elim c.if-not-has_capital.branch [
    | then-not-has_capital w ↦ elim c.if-is_word.branch [
      | then-is_word v ↦
          let word : IsWord c.args.word.now = search rules in
          let small : list_any is_ascii_uppercase c.args.word.now ≡ false = search rules in
          let none : keyword_of c.args.word.now ≡ None = search rules in
          let few : length c.args.word.now ≤ 24 = search rules in
          is_name_so c.args.word.now word small none few
      | else-is_word v ↦ search rules
    ]
    | else-not-has_capital w ↦ search rules
  ],
  λ is_name. search rules,
)
