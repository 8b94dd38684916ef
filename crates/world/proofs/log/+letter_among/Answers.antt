-- Why `letter_among` meets its contract.
use Rattle.std.proofs.Common.{rules, ◌∙◌, ℕ, ◌-◌, ◌/◌, ◌<◌, ◌≤◌, ap, ap₂, sym, subst, List, length, take, drop, slice_get, arith}
use Rattle.world.specs.declared.event.Entry.{Entry}
use Rattle.world.specs.Posted.{ends_from, letters_in}
use Rattle.world.proofs.Numbered.{ends_dropped, ends_many, ends_taken, letter_left, letter_right}
use Rattle.world.proofs.log.+letter_among.Goals as goal

pub split_at-requires-2 : goal.split_at-requires-2
split_at-requires-2 t c =
    let same = ap length c.requires.ends ∙ ends_many c.args.before c.args.entries.now in
    omega (arith, same)

pub letter_among-requires : goal.letter_among-requires
letter_among-requires t c =
    let entries = c.args.entries.now in
    let before = c.args.before in
    let half = length entries / 2 in
    let ends = c.split_at-2.ensures.front ∙ ap (take half) c.requires.ends ∙ ends_taken half before entries ∙ sym (ap (ends_from before) c.split_at.ensures.front) in
    (search rules, (ends, (c.requires.after, c.requires.low)))

pub letter_among-requires-else-number-end : goal.letter_among-requires-else-number-end
letter_among-requires-else-number-end t c =
    let entries = c.args.entries.now in
    let before = c.args.before in
    let half = length entries / 2 in
    let end = c.last_of-end.ensures (take half entries) (c.split_at-2.ensures.front ∙ ap (take half) c.requires.ends ∙ ends_taken half before entries) in
    let ends = c.split_at-2.ensures.back ∙ ap (drop half) c.requires.ends ∙ ends_dropped half before entries ∙ ap₂ ends_from (sym end) (sym c.split_at.ensures.back) in
    (search rules, (ends, (c.if-number-end.false, c.requires.low)))

pub returns-then-number-end : goal.returns-then-number-end
returns-then-number-end t c =
    let entries = c.args.entries.now in
    let before = c.args.before in
    let number = c.args.number in
    let half = length entries / 2 in
    let end = c.last_of-end.ensures (take half entries) (c.split_at-2.ensures.front ∙ ap (take half) c.requires.ends ∙ ends_taken half before entries) in
    c.letter_among.ensures ∙ ap (λ (es : List Entry). slice_get (letters_in es) (number - before)) c.split_at.ensures.front
    ∙ letter_left half before number entries c.requires.after (subst (λ e. number < e) end c.if-number-end.true)

pub returns-else-number-end : goal.returns-else-number-end
returns-else-number-end t c =
    let entries = c.args.entries.now in
    let before = c.args.before in
    let number = c.args.number in
    let half = length entries / 2 in
    let end = c.last_of-end.ensures (take half entries) (c.split_at-2.ensures.front ∙ ap (take half) c.requires.ends ∙ ends_taken half before entries) in
    c.letter_among-else-number-end.ensures ∙ ap₂ (λ (es : List Entry) (b : ℕ). slice_get (letters_in es) (number - b)) c.split_at.ensures.back end
    ∙ letter_right half before number entries c.requires.after c.requires.low (subst (λ e. e ≤ number) end c.if-number-end.false)
