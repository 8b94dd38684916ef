-- Why `command` meets its contract.
use Rattle.std.proofs.Common.{◌≡◌, ◌∙◌, List, ap, subst, sym, ℕ, inl, inr, ⊎_elim, Err}
use Rattle.reader.specs.declared.command.Command.TheVariants.{Begin, Commit, Rollback, Run}
use Rattle.world.specs.Contents.{counted}
use Rattle.world.specs.Commands.{IsUnreadable}
use Rattle.world.specs.Contents.{OfStores}
use Rattle.world.proofs.Calls.{narrowed_of, unread}
use Rattle.world.proofs.Denials.{only_memory}
use Rattle.meaning.specs.declared.schema.RelationSchema.{RelationSchema}
use Rattle.reader.specs.Command.{IsCommandOf, IsTextOf}
use Rattle.catalog.specs.declared.relation.SplitRelation.{SplitRelation}
use Rattle.catalog.specs.FragmentLeaf.{schemas_of}
use Rattle.catalog.specs.Relation.{catalogue_of}
use Rattle.world.proofs.Stops.{unreadable_stops}
use Rattle.desk.specs.declared.refusal.Refusal.TheVariants.{Memory, NoNext}
use Rattle.world.proofs.NoNext.{err_is}
use Rattle.world.proofs.solo.Solo.command.Goals as goal

pub returns-in-Ok-clause-comes : goal.returns-in-Ok-clause-comes
returns-in-Ok-clause-comes g c =
    let clean = OfStores g.D.DeskStore.is_clean g.S.SiteStore.is_clean in
    let sound = OfStores g.D.DeskStore.is_sound g.S.SiteStore.is_sound in
    let view = counted g.D.DeskStore.kept g.S.SiteStore.kept g.D.DeskStore.refused g.S.SiteStore.refused in
    let old = c.args.self.now.machines in
    narrowed_of clean sound view old c.obey.new.self.machines c.obey.result
    (λ db of n is moves so. so (subst (λ (schemas : List RelationSchema). IsTextOf schemas c.args.text.now c.in-Ok.command) (ap (λ (x : List (List ℕ) × List SplitRelation). schemas_of (catalogue_of x)) c.catalog.ensures ∙ ap schemas_of (sym is) ∙ sym (of.schemas n)) c.in-Ok.ensures.read)) c.obey.ensures.comes

pub returns-in-Err-clause-comes : goal.returns-in-Err-clause-comes
returns-in-Err-clause-comes g c =
    let clean = OfStores g.D.DeskStore.is_clean g.S.SiteStore.is_clean in
    let sound = OfStores g.D.DeskStore.is_sound g.S.SiteStore.is_sound in
    let view = counted g.D.DeskStore.kept g.S.SiteStore.kept g.D.DeskStore.refused g.S.SiteStore.refused in
    let old = c.args.self.now.machines in
    unread clean sound view old c.in-Err.refusal c.args.text.now c.args.self.now.current
    (λ db of n is. (subst (λ (schemas : List RelationSchema). IsUnreadable schemas c.args.text.now c.in-Err.refusal) (ap (λ (x : List (List ℕ) × List SplitRelation). schemas_of (catalogue_of x)) c.catalog.ensures ∙ ap schemas_of (sym is) ∙ sym (of.schemas n)) c.in-Err.ensures.reader_refusal)) (unreadable_stops (view old).refused (view old).refused c.in-Err.refusal _ c.args.text.now c.in-Err.ensures.reader_refusal)

pub returns-in-Ok-clause-inside : goal.returns-in-Ok-clause-inside
returns-in-Ok-clause-inside g c = λ txn some spelled.
    let here : IsTextOf (schemas_of (catalogue_of c.args.self.now.machines.desk.catalog)) c.args.text.now c.in-Ok.command = subst (λ (schemas : List RelationSchema). IsTextOf schemas c.args.text.now c.in-Ok.command) (ap (λ (x : List (List ℕ) × List SplitRelation). schemas_of (catalogue_of x)) c.catalog.ensures) c.in-Ok.ensures.read in
    inl (c.obey.ensures.inside txn some (c.one_command.ensures (schemas_of (catalogue_of c.args.self.now.machines.desk.catalog)) c.args.text.now c.in-Ok.command Begin here spelled))

pub returns-in-Err-clause-inside : goal.returns-in-Err-clause-inside
returns-in-Err-clause-inside g c = λ txn some spelled.
    let schemas = schemas_of (catalogue_of c.args.self.now.machines.desk.catalog) in
    inr (ap Err (only_memory schemas c.args.text.now c.in-Err.refusal (subst (λ (schemas : List RelationSchema). IsUnreadable schemas c.args.text.now c.in-Err.refusal) (ap (λ (x : List (List ℕ) × List SplitRelation). schemas_of (catalogue_of x)) c.catalog.ensures) c.in-Err.ensures.reader_refusal) Begin spelled))

pub returns-in-Ok-clause-outside : goal.returns-in-Ok-clause-outside
returns-in-Ok-clause-outside g c = λ none spelled.
    let schemas = schemas_of (catalogue_of c.args.self.now.machines.desk.catalog) in
    let here : IsTextOf schemas c.args.text.now c.in-Ok.command = subst (λ (schemas : List RelationSchema). IsTextOf schemas c.args.text.now c.in-Ok.command) (ap (λ (x : List (List ℕ) × List SplitRelation). schemas_of (catalogue_of x)) c.catalog.ensures) c.in-Ok.ensures.read in
    inl (c.obey.ensures.outside none (⊎_elim
    (λ commits. inl (c.one_command.ensures schemas c.args.text.now c.in-Ok.command Commit here commits))
    (λ rolls_back. inr (c.one_command.ensures schemas c.args.text.now c.in-Ok.command Rollback here rolls_back)) spelled))

pub returns-in-Err-clause-outside : goal.returns-in-Err-clause-outside
returns-in-Err-clause-outside g c = λ none spelled.
    let schemas = schemas_of (catalogue_of c.args.self.now.machines.desk.catalog) in
    let reader_refusal = subst (λ (schemas : List RelationSchema). IsUnreadable schemas c.args.text.now c.in-Err.refusal) (ap (λ (x : List (List ℕ) × List SplitRelation). schemas_of (catalogue_of x)) c.catalog.ensures) c.in-Err.ensures.reader_refusal in
    inr (ap Err (⊎_elim (λ commits. only_memory schemas c.args.text.now c.in-Err.refusal reader_refusal Commit commits) (λ rolls_back. only_memory schemas c.args.text.now c.in-Err.refusal reader_refusal Rollback rolls_back) spelled))

pub returns-in-Ok-clause-reader_refusal : goal.returns-in-Ok-clause-reader_refusal
returns-in-Ok-clause-reader_refusal g c = λ none.
    absurd (none c.in-Ok.command (subst (λ (schemas : List RelationSchema). IsTextOf schemas c.args.text.now c.in-Ok.command) (ap (λ (x : List (List ℕ) × List SplitRelation). schemas_of (catalogue_of x)) c.catalog.ensures) c.in-Ok.ensures.read))

pub returns-in-Err-clause-reader_refusal : goal.returns-in-Err-clause-reader_refusal
returns-in-Err-clause-reader_refusal g c = λ none. (tt, subst (λ (schemas : List RelationSchema). IsUnreadable schemas c.args.text.now c.in-Err.refusal) (ap (λ (x : List (List ℕ) × List SplitRelation). schemas_of (catalogue_of x)) c.catalog.ensures) c.in-Err.ensures.reader_refusal)

pub returns-in-Ok-clause-finds_none : goal.returns-in-Ok-clause-finds_none
returns-in-Ok-clause-finds_none g c = λ statement none spelled moves.
    let schemas = schemas_of (catalogue_of c.args.self.now.machines.desk.catalog) in
    let here : IsTextOf schemas c.args.text.now c.in-Ok.command = subst (λ (schemas : List RelationSchema). IsTextOf schemas c.args.text.now c.in-Ok.command) (ap (λ (x : List (List ℕ) × List SplitRelation). schemas_of (catalogue_of x)) c.catalog.ensures) c.in-Ok.ensures.read in
    c.obey.ensures.finds_none statement none (c.one_command.ensures schemas c.args.text.now c.in-Ok.command (Run statement) here spelled) moves

pub returns-in-Err-clause-finds_none : goal.returns-in-Err-clause-finds_none
returns-in-Err-clause-finds_none g c = λ statement none spelled moves db whole past listed stands clean sound served.
    let schemas = schemas_of (catalogue_of c.args.self.now.machines.desk.catalog) in
    let memory = only_memory schemas c.args.text.now c.in-Err.refusal (subst (λ (schemas : List RelationSchema). IsUnreadable schemas c.args.text.now c.in-Err.refusal) (ap (λ (x : List (List ℕ) × List SplitRelation). schemas_of (catalogue_of x)) c.catalog.ensures) c.in-Err.ensures.reader_refusal) (Run statement) spelled in
    ((λ next. (let e : Memory ≡ NoNext = sym memory ∙ err_is c.in-Err.refusal NoNext next in absurd (cc))), stands)

pub obey-requires-clause-spelled : goal.obey-requires-clause-spelled
obey-requires-clause-spelled g c = subst (λ (schemas : List RelationSchema). IsTextOf schemas c.args.text.now c.in-Ok.command) (ap (λ (x : List (List ℕ) × List SplitRelation). schemas_of (catalogue_of x)) c.catalog.ensures) c.in-Ok.ensures.read

pub obey-requires-clause-fits : goal.obey-requires-clause-fits
obey-requires-clause-fits g c = subst (λ (schemas : List RelationSchema). IsCommandOf schemas c.in-Ok.command) (ap (λ (x : List (List ℕ) × List SplitRelation). schemas_of (catalogue_of x)) c.catalog.ensures) c.in-Ok.ensures.fits
