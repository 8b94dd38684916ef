-- Why `Keyword::of_word` meets its contract.
use Rattle.std.proofs.Common.{◌∙◌, sym}
use Rattle.reader.specs.Reading.{keyword_of}
use Rattle.reader.proofs.KeywordLengths.{among_as_long}
use Rattle.reader.proofs.keyword.Keyword.of_word.Goals as goal

pub returns-in-2 : goal.returns-in-2
returns-in-2 c = c.among.ensures ∙ sym (among_as_long c.args.word.now 2 c.in-2.is)

pub returns-in-3 : goal.returns-in-3
returns-in-3 c = c.among-in-3.ensures ∙ sym (among_as_long c.args.word.now 3 c.in-3.is)

pub returns-in-4 : goal.returns-in-4
returns-in-4 c = c.among-in-4.ensures ∙ sym (among_as_long c.args.word.now 4 c.in-4.is)

pub returns-in-5 : goal.returns-in-5
returns-in-5 c = c.among-in-5.ensures ∙ sym (among_as_long c.args.word.now 5 c.in-5.is)

pub returns-in-6 : goal.returns-in-6
returns-in-6 c = c.among-in-6.ensures ∙ sym (among_as_long c.args.word.now 6 c.in-6.is)

pub returns-in_default : goal.returns-in_default
unfolding keyword_of
returns-in_default c = c.among-in_default.ensures
