use Rattle.std.proofs.Common.{List, ◌++◌, ap₂, ◌∙◌}
use Rattle.catalog.specs.declared.path.Path.{Path}
use Rattle.catalog.specs.Path.{paths}
use Rattle.catalog.specs.Split.{tree_of}
use Rattle.catalog.proofs.TreePaths.{behind_none}
use Rattle.catalog.proofs.tree_paths.tree_paths.Goals as goal

pub returns : goal.returns
returns c =
    let found = paths (tree_of c.args.split.now) in
    c.in_ok-put_paths.ensures ∙ ap₂ (λ (ps qs : List Path). ps ++ qs) c.new-paths.ensures.items (behind_none found)
