-- What the reader says of texts that are no statement's.
use Rattle.std.proofs.Common.{◌≡◌, ◌≢◌, ◌⊎◌, inl, inr, ⊎_elim, refl, sym, ap, ◌∙◌, subst, ℕ, Bool, true, false, List, Option, Some, None, Result, Ok, Err, IfOk, IfErr}
use Rattle.std.specs.Option.{option_map}
use Rattle.meaning.specs.declared.schema.RelationSchema.{RelationSchema}
use Rattle.meaning.specs.declared.statement.Refragment.{Refragment}
use Rattle.meaning.specs.declared.statement.Statement.{Statement}
use Rattle.meaning.specs.declared.statement.Statement.TheVariants as statement
use Rattle.meaning.specs.Statement.{IsStatementOf, is_refragment}
use Rattle.reader.specs.declared.command.Command.{Command}
use Rattle.reader.specs.declared.command.Command.TheVariants as command
use Rattle.reader.specs.declared.fault.Rule.TheVariants as rules
use Rattle.reader.specs.Breaks.{TextBreaks}
use Rattle.reader.specs.Command.{IsCommandOf, IsTextOf}
use Rattle.reader.specs.Fault.{Fault}
use Rattle.desk.specs.declared.refusal.Refusal.{Refusal}
use Rattle.desk.specs.declared.refusal.Refusal.TheVariants as refusal
use Rattle.protocol.specs.Desk as protocol
use Rattle.desk.specs.Does.{IsNoStatement, IsReadAs}
use Rattle.desk.specs.Refragmented.{IsNoRefragment, is_refragment_command}
use Rattle.desk.specs.Request.{refused_as}

-- a statement of a text, which fits the schema and is no REFRAGMENT, is what the text is read as
pub read_as : (schema : List RelationSchema) (text : List ℕ) (result : Result Statement Refusal) → IfOk result (λ stated. IsTextOf schema text (command.Run stated)) → IfOk result (IsStatementOf schema) → IfOk result (λ stated. is_refragment stated ≡ false) → IfOk result (IsReadAs schema text)
read_as schema text (Ok stated) spelled fits ordinary = record { spelled = spelled; fits = fits; ordinary = ordinary }
read_as schema text (Err told) spelled fits ordinary = tt

module _ (there schema : List RelationSchema) (same : there ≡ schema) where
  pub spelled_by : (text : List ℕ) (given : Command) (result : Result Statement Refusal) → IsTextOf there text given → IfOk result (λ stated. given ≡ command.Run stated) → IfOk result (λ stated. IsTextOf schema text (command.Run stated))
  spelled_by text given (Ok stated) found is = subst (λ ss. IsTextOf ss text (command.Run stated)) same (subst (IsTextOf there text) is found)
  spelled_by text given (Err told) found is = tt

  pub fits_by : (given : Command) (result : Result Statement Refusal) → IsCommandOf there given → IfOk result (λ stated. given ≡ command.Run stated) → IfOk result (λ stated. IsStatementOf schema stated)
  fits_by given (Ok stated) fits is = subst (λ ss. IsStatementOf ss stated) same (subst (IsCommandOf there) is fits)
  fits_by given (Err told) fits is = tt

  pub run_told : (text : List ℕ) (given : Command) (result : Result Statement Refusal) → IsTextOf there text given →
      IfErr result (λ told. ((told ≡ refusal.Read (record { rule = rules.Syntax; offset = 0 })) × ((given ≡ command.Begin) ⊎ ((given ≡ command.Commit) ⊎ (given ≡ command.Rollback))))
      ⊎ ((told ≡ refusal.Busy) × (refragment : Refragment) × (given ≡ command.Run (statement.Refragment refragment)))) → IfErr result (λ told. (told ≡ refusal.Memory) ⊎ IsNoStatement schema text told)
  run_told text given (Ok stated) found none = tt
  run_told text given (Err told) found (inr (busy, refragment, is)) = inr (inr (record { refragment = refragment; spelled = subst (λ ss. IsTextOf ss text (command.Run (statement.Refragment refragment))) same (subst (IsTextOf there text) is found); is = busy }))
  run_told text given (Err told) found (inl none) = inr (inl (record { fault = record { rule = rules.Syntax; offset = 0 }; is = none.0; why = inr (refl, go none.1) }))
    where
      at : (other : Command) → given ≡ other → IsTextOf schema text other
      at other is = subst (λ ss. IsTextOf ss text other) same (subst (IsTextOf there text) is found)

      go : (given ≡ command.Begin) ⊎ ((given ≡ command.Commit) ⊎ (given ≡ command.Rollback)) → IsTextOf schema text command.Begin ⊎ (IsTextOf schema text command.Commit ⊎ IsTextOf schema text command.Rollback)
      go (inl is) = inl (at command.Begin is)
      go (inr (inl is)) = inr (inl (at command.Commit is))
      go (inr (inr is)) = inr (inr (at command.Rollback is))

  pub unread_told : (text : List ℕ) (fault : Fault) (told : Refusal) → (told ≡ refusal.Memory) ⊎ ((fault.rule ≢ rules.Memory) × (told ≡ refusal.Read fault)) → (fault.rule ≢ rules.Memory → (given : Command) → IsTextOf there text given → ⊥) → (fault.rule ≢ rules.Memory → TextBreaks fault.rule there text) →
      (told ≡ refusal.Memory) ⊎ IsNoStatement schema text told
  unread_told text fault told (inl memory) none breaks = inl memory
  unread_told text fault told (inr other) none breaks = inr (inl (record {
    fault = fault;
    is = other.1;
    why = inl (subst (λ ss. TextBreaks fault.rule ss text) same (breaks other.0), λ given spelled. none other.0 given (subst (λ ss. IsTextOf ss text given) (sym same) spelled));
  }))

-- so of texts that are no REFRAGMENT's
module _ (there schema : List RelationSchema) (same : there ≡ schema) where
  pub split_spelled : (text : List ℕ) (given : Command) (result : Result Refragment Refusal) → IsTextOf there text given → IfOk result (λ refragment. given ≡ command.Run (statement.Refragment refragment)) → IfOk result (λ refragment. IsTextOf schema text (command.Run (statement.Refragment refragment)))
  split_spelled text given (Ok refragment) found is = subst (λ ss. IsTextOf ss text (command.Run (statement.Refragment refragment))) same (subst (IsTextOf there text) is found)
  split_spelled text given (Err told) found is = tt

  pub split_fits : (given : Command) (result : Result Refragment Refusal) → IsCommandOf there given → IfOk result (λ refragment. given ≡ command.Run (statement.Refragment refragment)) → IfOk result (λ refragment. IsStatementOf schema (statement.Refragment refragment))
  split_fits given (Ok refragment) fits is = subst (λ ss. IsStatementOf ss (statement.Refragment refragment)) same (subst (IsCommandOf there) is fits)
  split_fits given (Err told) fits is = tt

  pub split_told : (text : List ℕ) (given : Command) (result : Result Refragment Refusal) → IsTextOf there text given → IfErr result (λ told. (told ≡ refusal.Read (record { rule = rules.Syntax; offset = 0 })) × (is_refragment_command given ≡ false)) →
      IfErr result (λ told. (told ≡ refusal.Memory) ⊎ IsNoRefragment schema text told)
  split_told text given (Ok refragment) found none = tt
  split_told text given (Err told) found none = inr (record { fault = record { rule = rules.Syntax; offset = 0 }; is = none.0; why = inr (refl, given, subst (λ ss. IsTextOf ss text given) same found, none.1) })

  pub unread_split : (text : List ℕ) (fault : Fault) (told : Refusal) → (told ≡ refusal.Memory) ⊎ ((fault.rule ≢ rules.Memory) × (told ≡ refusal.Read fault)) → (fault.rule ≢ rules.Memory → (given : Command) → IsTextOf there text given → ⊥) → (fault.rule ≢ rules.Memory → TextBreaks fault.rule there text) →
      (told ≡ refusal.Memory) ⊎ IsNoRefragment schema text told
  unread_split text fault told (inl memory) none breaks = inl memory
  unread_split text fault told (inr other) none breaks = inr (record {
    fault = fault;
    is = other.1;
    why = inl (subst (λ ss. TextBreaks fault.rule ss text) same (breaks other.0), λ given spelled. none other.0 given (subst (λ ss. IsTextOf ss text given) (sym same) spelled));
  })

-- a text that is no REFRAGMENT's is refused for nothing else
pub unread_not : {A : Type 0} (schema : List RelationSchema) (text : List ℕ) (told other : Refusal) → (told ≡ refusal.Memory) ⊎ IsNoRefragment schema text told → (refusal.Memory ≡ other → ⊥) → ((fault : Fault) → refusal.Read fault ≡ other → ⊥) → told ≡ other → A
unread_not schema text told other (inl memory) not_memory not_read is = absurd (not_memory (sym memory ∙ is))
unread_not schema text told other (inr none) not_memory not_read is = absurd (not_read none.fault (sym none.is ∙ is))

-- what is told of a statement that was read is told of its text, by whichever statement the protocol is asked
pub ran_told : {A : Type 0} (result : Result A Refusal) (First Moving Unread Busy Full : Refusal → Type 0) (one other : Option protocol.Refusal) (moves : Bool) → one ≡ None → other ≡ None → moves ≡ false →
    IfErr result (λ told. First told ⊎ ((option_map refused_as one ≡ Some told) ⊎ Moving told) ⊎ ((one ≡ None) × (((moves ≡ true) × Busy told) ⊎ Full told))) →
    IfErr result (λ told. First told ⊎ ((option_map refused_as other ≡ Some told) ⊎ Moving told) ⊎ ((other ≡ None) × (Unread told ⊎ Full told)))
ran_told (Ok out) First Moving Unread Busy Full one other moves free none ordinary why = tt
ran_told (Err told) First Moving Unread Busy Full one other moves free none ordinary (inl first) = inl first
ran_told (Err told) First Moving Unread Busy Full one other moves free none ordinary (inr (inl (inl refused))) = let never : None ≡ Some told = sym (ap (option_map refused_as) free) ∙ refused in cc
ran_told (Err told) First Moving Unread Busy Full one other moves free none ordinary (inr (inl (inr moving))) = inr (inl (inr moving))
ran_told (Err told) First Moving Unread Busy Full one other moves free none ordinary (inr (inr (is, inl busy))) = let never : false ≡ true = sym ordinary ∙ busy.0 in cc
ran_told (Err told) First Moving Unread Busy Full one other moves free none ordinary (inr (inr (is, inr full))) = inr (inr (none, inr full))

-- what holds of a result holds of it with less
pub if_ok : {A E : Type 0} (result : Result A E) {P Q : A → Type 0} → ((x : A) → P x → Q x) → IfOk result P → IfOk result Q
if_ok (Ok x) less holds = less x holds
if_ok (Err e) less holds = tt

-- the second of three
pub told_by : {A : Type 0} (result : Result A Refusal) (told : Refusal) (First Second Third : Refusal → Type 0) → result ≡ Err told → Second told → IfErr result (λ x. First x ⊎ Second x ⊎ Third x)
told_by result told First Second Third is holds = subst (λ r. IfErr r (λ x. First x ⊎ Second x ⊎ Third x)) (sym is) (inr (inl holds))

-- of a text that isn't read as a statement, where the transaction may state one
pub unread_by : {A : Type 0} (result : Result A Refusal) (told : Refusal) (First Second Unread Full : Refusal → Type 0) (Free : Type 0) → result ≡ Err told → Free → First told ⊎ Unread told → IfErr result (λ x. First x ⊎ Second x ⊎ (Free × (Unread x ⊎ Full x)))
unread_by result told First Second Unread Full Free is free why =
    subst (λ r. IfErr r (λ x. First x ⊎ Second x ⊎ (Free × (Unread x ⊎ Full x)))) (sym is) (⊎_elim (λ first. inl first) (λ unread. inr (inr (free, inl unread))) why)
