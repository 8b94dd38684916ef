use Rattle.std.proofs.Common.{◌≡◌, ◌+◌, ◌++◌, drop, string_bytes}
use Rattle.catalog.specs.Relation.{catalogue_of}
use Rattle.lines.specs.Cast.{name_of}
use Rattle.databases.specs.PlayText.{letters_text}
use Rattle.databases.proofs.play_text.put_letters.Given as goal

-- what was put, with what the letters that are left put, is what all put
abbrev pub invariant-loop-place : goal.invariant-loop-place
invariant-loop-place l =
    string_bytes l.out ++ letters_text (name_of l.cast) (catalogue_of l.catalog) (l.sent + 1 + l.place) (drop l.place l.letters)
    ≡ string_bytes l.initial.out ++ letters_text (name_of l.cast) (catalogue_of l.catalog) (l.sent + 1) l.letters
