-- A nested split: emp(id int, name text, dept int, pay int), the name in one group, and the other group by rows with dept < 10 and dept >= 10.
use Rattle.std.specs.Prelude.{◌≡◌, pos, List, [], ◌∷◌}
use Rattle.terms.specs.declared.cond.Cmp.TheVariants.{Lt, Ge}
use Rattle.terms.specs.declared.cond.Cond.{Cond}
use Rattle.terms.specs.declared.value.Kind.{Kind}
use Rattle.terms.specs.declared.value.Kind.TheVariants as kinds
use Rattle.terms.specs.declared.value.Value.TheVariants.{Int}
use Rattle.catalog.specs.Fragment.{Fragment}
use Rattle.catalog.specs.Split.{Tree, Site, ByRows, ByCols, Branch, NoBranch, Group, NoGroup}
use Rattle.catalog.specs.Path.{fragments}
use Rattle.catalog.specs.Valid.{IsValid}

abbrev pub emp_kinds : List Kind
emp_kinds = kinds.Int ∷ kinds.Text ∷ kinds.Int ∷ kinds.Int ∷ []

abbrev pub dept_below : Cond
dept_below = record { col = 2; cmp = Lt; value = Int (pos 10) }

abbrev pub dept_from : Cond
dept_from = record { col = 2; cmp = Ge; value = Int (pos 10) }

abbrev pub emp_by_dept : Tree
emp_by_dept = ByRows (Branch (dept_below ∷ []) (Site 0) (Branch (dept_from ∷ []) (Site 1) NoBranch))

abbrev pub emp_tree : Tree
emp_tree = ByCols (Group (1 ∷ []) (Site 0) (Group (2 ∷ 3 ∷ []) emp_by_dept NoGroup))

abbrev pub emp_name : Fragment
emp_name = record { conds = []; columns = 0 ∷ 1 ∷ [] }

abbrev pub emp_below : Fragment
emp_below = record { conds = dept_below ∷ []; columns = 0 ∷ 2 ∷ 3 ∷ [] }

abbrev pub emp_from : Fragment
emp_from = record { conds = dept_from ∷ []; columns = 0 ∷ 2 ∷ 3 ∷ [] }

-- the nested split is valid
abbrev pub EmpIsValid : Type 0
EmpIsValid = IsValid emp_kinds emp_tree

-- and these three are its fragments
abbrev pub EmpFragments : Type 0
EmpFragments = fragments emp_kinds emp_tree ≡ emp_name ∷ emp_below ∷ emp_from ∷ []
