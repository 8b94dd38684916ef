-- How contracts tell coordinators apart.
use Rattle.std.specs.Prelude.{refl}
use Rattle.std.specs.Borrow.{u8}
use Rattle.std.specs.Coded.{Coded, code_by, coded×}
use Rattle.desk.specs.declared.desk.Desk.{Desk}
use Rattle.desk.specs.contracts.desk.Desk.{the_row}

-- a coordinator is coded as its store beside a coordinator over a number: what it has in memory is the desk's own
abbrev pub desk_code : {D : Type 0} → Coded D → Coded (Desk D)
desk_code {D} code = code_by (D × Desk u8.Denot) (coded× code (the_row u8).coded)
    (λ desk. (desk.store, record { store = 0; catalog = desk.catalog; later = desk.later; volatile = desk.volatile })) (λ pair. record { store = pair.0; catalog = pair.1.catalog; later = pair.1.later; volatile = pair.1.volatile }) (λ _. refl)
