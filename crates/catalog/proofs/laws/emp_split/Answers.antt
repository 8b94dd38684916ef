use Rattle.catalog.proofs.Instances.{emp_is_valid, emp_fragments}
use Rattle.catalog.proofs.laws.emp_split.Goals as goal

pub returns : goal.returns
returns c = record { valid = emp_is_valid; fragments = emp_fragments }
