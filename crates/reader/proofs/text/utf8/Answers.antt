-- Why `text::utf8` meets its contract.
use Rattle.std.proofs.Common.{◌∙◌, ap, option_map}
use Rattle.reader.proofs.Quotes.{text_or_none}
use Rattle.reader.proofs.text.utf8.Goals as goal

pub returns : goal.returns
returns c = ap (option_map _) c.ok.ensures.value ∙ text_or_none c.args.value c.from_utf8.result c.from_utf8.ensures.ok c.from_utf8.ensures.succeeds
