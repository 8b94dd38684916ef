-- Where all is quiet a transaction can begin, as long as there is a number for it.
use Rattle.std.proofs.Common.{◌≡◌, ◌≤◌, ◌<◌, ◌^◌, refl, sym, ap, subst, ℕ, suc, not, Bool, true, false, List, [], ◌∷◌, ◌++◌, map, filter, length, nat_lt, nat_le, if◌then◌else◌, inl, inr, ⊎_elim, arith}
use Rattle.std.specs.List.{list_all}
use Rattle.store.specs.declared.name.Txn.{Txn}
use Rattle.protocol.specs.Client.{IsQuiet}
use Rattle.protocol.specs.Desk as protocol
use Rattle.protocol.specs.Desk.{Deed, Known, desk_began, fresh, is_desk_within, is_short_txn, is_undecided, is_unknown, next_txn}
use Rattle.protocol.specs.Language.{Name, put, same}
use Rattle.protocol.specs.Letters.{txn_name}
use Rattle.protocol.specs.Parts.{In}
use Rattle.protocol.proofs.Basics.{Every, both_true, by_test, clash, either, put_all, same_law}
use Rattle.desk.specs.Database.{Database, language}
use Rattle.desk.specs.State.{IsBegun, VolatileState, desk_of, txn_at}
use Rattle.world.specs.Machines.{AreFit, Machines}
use Rattle.world.specs.Smoothly.{rests}

below : (n m : ℕ) → n < m → nat_lt n m ≡ true
below n m less = grind (arith)

up_to : (n m : ℕ) → n ≤ m → nat_le n m ≡ true
up_to n m less = grind (arith)

is_below : (n m : ℕ) → nat_lt n m ≡ true → n < m
is_below n m less = grind (arith)

not_below : (n m : ℕ) → nat_lt n m ≡ false → m ≤ n
not_below n m none = grind (arith)

all_pass : {A : Type 0} (test : A → Bool) (xs : List A) → ((x : A) → test x ≡ true) → list_all test xs ≡ true
all_pass test [] pass = refl
all_pass test (x ∷ xs) pass = both_true (test x) (list_all test xs) (pass x) (all_pass test xs pass)

-- of these the last alone may pass
one_passes : {A : Type 0} (test stays : A → Bool) (xs : List A) (last : A) → Every (λ x. test x ≡ false) xs → length (filter test (filter stays (xs ++ last ∷ []))) ≤ 1
one_passes test stays [] last none = either (λ l. length (filter test l) ≤ 1) (stays last) (last ∷ []) [] (either (λ l. length l ≤ 1) (test last) (last ∷ []) [] (omega arith) (omega arith)) (omega arith)
one_passes test stays (x ∷ xs) last none =
    let rest = filter stays (xs ++ last ∷ []) in
    let behind = one_passes test stays xs last none.1 in
    either (λ l. length (filter test l) ≤ 1) (stays x) (x ∷ rest) rest (subst (λ (b : Bool). length (if b then x ∷ filter test rest else filter test rest) ≤ 1) (sym none.0) behind) behind

every_name : (P : Name → Type 0) (txns : List Txn) → ((txn : Txn) → In txn txns → P (txn_name txn)) → Every P (map txn_name txns)
every_name P [] each = tt
every_name P (txn ∷ txns) each = (each txn (inl refl), every_name P txns (λ other here. each other (inr here)))

module _ (db : Database) (machines : Machines) (past : List (Deed (language db))) (fit : AreFit db machines) (quiet : IsQuiet (rests db machines past)) where
  abbrev table : VolatileState
  table = machines.table

  abbrev d : protocol.Desk (language db)
  d = desk_of db table

  -- who began before has another name, and is decided
  other_name : (txn : Txn) → IsBegun table txn → same (txn_name txn) (next_txn d) ≡ true → ⊥
  other_name txn begun is =
      let e = (same_law (txn_name txn) (next_txn d)).0 is in
      let life : txn.life ≡ table.life = ap (λ (n : Name). n.life) e in
      let number : txn.number ≡ suc table.number = ap (λ (n : Name). n.number) e in
      ⊎_elim (λ (earlier : txn.life < table.life). absurd (omega (arith, earlier, life))) (λ here. let low : txn.number ≤ table.number = here.1 in absurd (omega (arith, low, number))) begun

  none_else : Every (λ t. is_undecided (put same (next_txn d) (Known fresh) d.txn t) ≡ false) d.known
  none_else = every_name _ table.txns (λ txn here. ⊎_elim
      (λ is. absurd (other_name txn (fit.desk.begun txn (fit.desk.lives txn here)) is))
      (λ other. subst (λ (b : Bool). is_undecided (if b then Known fresh else d.txn (txn_name txn)) ≡ false) (sym other) (quiet.decided (txn_name txn)))
      (by_test (same (txn_name txn) (next_txn d))))

  short : (t : Name) → is_short_txn (put same (next_txn d) (Known fresh) d.txn t) ≡ true
  short t = put_all same same_law (next_txn d) (Known fresh) d.txn (λ j x. is_short_txn x ≡ true) (all_pass (λ a. nat_lt 0 (2 ^ 63)) db.sites (λ a. refl)) (λ j other. fit.desk.short (txn_at j)) t

  begins_within : suc table.number < 2 ^ 63 → is_desk_within (desk_began d) ≡ true
  begins_within room =
      let new = put same (next_txn d) (Known fresh) d.txn in
      let names = filter (λ t. not (is_unknown (new t))) (d.known ++ next_txn d ∷ []) in
      let few : length (filter (λ t. is_undecided (new t)) names) ≤ 1 = one_passes (λ t. is_undecided (new t)) (λ t. not (is_unknown (new t))) d.known (next_txn d) none_else in
      both_true _ _ (both_true _ _ (both_true _ _ (below table.life (2 ^ 63) fit.desk.low.0) (below (suc table.number) (2 ^ 63) room)) (all_pass (λ t. is_short_txn (new t)) names short))
      (up_to (length (filter (λ t. is_undecided (new t)) names)) 256 (omega (arith, few)))

  -- so only the numbers may have run out
  pub numbers_run_out : is_desk_within (desk_began d) ≡ false → 2 ^ 63 ≤ suc table.number
  numbers_run_out full = ⊎_elim
      (λ room. clash (begins_within (is_below (suc table.number) (2 ^ 63) room)) full)
      (λ none. not_below (suc table.number) (2 ^ 63) none) (by_test (nat_lt (suc table.number) (2 ^ 63)))
