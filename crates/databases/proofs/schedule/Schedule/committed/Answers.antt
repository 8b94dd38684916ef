use Rattle.std.proofs.Common.{◌≡◌, ◌++◌, ◌∷◌, [], List, ℕ, ap, rules, string_bytes, ◌∙◌}
use Rattle.std.specs.List.{flat_map}
use Rattle.world.specs.declared.committed.Committed.{Committed}
use Rattle.world.specs.Replies.{committed_in}
use Rattle.lines.specs.Cast.{name_of}
use Rattle.databases.proofs.ShownLemmas.{names_of_committed}
use Rattle.databases.proofs.schedule.Schedule.committed.Goals as goal

pub returns : goal.returns
returns g c =
    let named = name_of c.args.self.now.cast in
    let entries = c.args.self.now.world.entries.items in
    let lines : List Committed → List ℕ = λ all. flat_map (λ one. named one.txn ++ 10 ∷ []) all in
    let empty : string_bytes c.new-text.result ≡ [] = search rules in
    c.in_ok-put_names.ensures ∙ ap (λ (front : List ℕ). front ++ lines c.as_slice.result.now) empty ∙ ap lines (c.as_slice.ensures.value ∙ c.in_ok-all.ensures.all)
    ∙ names_of_committed named entries (committed_in entries)
