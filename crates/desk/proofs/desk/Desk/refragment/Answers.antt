-- Why `refragment` meets its contract.
use Rattle.std.proofs.Common.{◌≡◌, ◌⊎◌, inl, inr, sym, ap, ◌∙◌, subst, ℕ, List, Result, Ok, Err, IfOk, IfErr, OnOk}
use Rattle.meaning.specs.declared.schema.RelationSchema.{RelationSchema}
use Rattle.meaning.specs.declared.statement.Statement.TheVariants as statements
use Rattle.reader.specs.declared.command.Command.TheVariants as command
use Rattle.reader.specs.Command.{IsTextOf}
use Rattle.catalog.specs.FragmentLeaf.{schemas_of}
use Rattle.catalog.specs.Relation.{catalogue_of}
use Rattle.desk.specs.declared.refusal.Refusal.{Refusal}
use Rattle.desk.specs.declared.refusal.Refusal.TheVariants as refusals
use Rattle.desk.specs.OfCatalogue.{IsNextOf, first_in}
use Rattle.desk.specs.declared.reply.Out.{Out}
use Rattle.desk.specs.Database.{Database}
use Rattle.desk.specs.Refragmented.{IsNoNext, IsNoRefragment, Refragments, RefragmentsBy}
use Rattle.desk.specs.State.{VolatileState, volatile_of}
use Rattle.store.specs.DeskContent.{DeskContent}
use Rattle.meaning.specs.declared.statement.Refragment.{Refragment}
use Rattle.desk.proofs.desk.Desk.refragment.Goals as goal

-- what holds where it is done, and of why it isn't
done_so : {A E P Q : Type 0} (result : Result A E) → (P → Q) → OnOk result P → OnOk result Q
done_so (Ok x) to p = to p
done_so (Err e) to p = tt

by_text : (db : Database) (before : VolatileState) (kept : DeskContent) (after : VolatileState) (text : List ℕ) (refragment : Refragment) → IsTextOf db.schemas text (command.Run (statements.Refragment refragment)) → (result : Result Out Refusal) →
    IfOk result (λ out. Refragments db before kept after refragment out.letters out.replies) → IfOk result (λ out. RefragmentsBy db before kept after text out.letters out.replies)
by_text db before kept after text refragment spelled (Ok out) does = record { refragment = refragment; spelled = spelled; does = does }
by_text db before kept after text refragment spelled (Err e) does = tt

also_unread : {A : Type 0} (result : Result A Refusal) (Unread : Refusal → Type 0) → IfErr result (λ told. (told ≡ refusals.Memory) ⊎ (told ≡ refusals.Full) ⊎ (told ≡ refusals.NotAlone) ⊎ (told ≡ refusals.NoNext)) →
    IfErr result (λ told. (told ≡ refusals.Memory) ⊎ (told ≡ refusals.Full) ⊎ (told ≡ refusals.NotAlone) ⊎ (told ≡ refusals.NoNext) ⊎ Unread told)
also_unread (Ok x) Unread own = tt
also_unread (Err told) Unread (inl is) = inl is
also_unread (Err told) Unread (inr (inl is)) = inr (inl is)
also_unread (Err told) Unread (inr (inr (inl is))) = inr (inr (inl is))
also_unread (Err told) Unread (inr (inr (inr is))) = inr (inr (inr (inl is)))

pub returns : goal.returns
returns g c =
    let kept = g.S.DeskStore.kept c.args.self.now.store in
    let now = c.args.self.now in
    let does = c.call_refragment.ensures in
    let read = c.in_ok-refragment.ensures in
    let first = c.first_in-next.ensures ∙ ap first_in c.as_slice.ensures.value in
    record {
      refragments = record {
        plainly = record { kept = does.steps.kept; err = does.steps.err; store = λ i. now.store; catalog = λ i. now.catalog; later = λ i. now.later.items };
        ok = λ db of same next fits.
            let schemas = of.schemas now.volatile.version ∙ ap schemas_of same in
            by_text db (volatile_of now.volatile) kept (volatile_of c.call_refragment.new.volatile) c.args.text.now c.in_ok-refragment.refragment
            (subst (λ (ss : List RelationSchema). IsTextOf ss c.args.text.now (command.Run (statements.Refragment c.in_ok-refragment.refragment))) (sym schemas) read.spelled)
            c.call_refragment.result (does.ok db kept of same (subst (IsNextOf db now.volatile.version) (sym first) next) fits);
        next = done_so c.call_refragment.result (λ some none. some (first ∙ ap first_in none)) does.next;
        own = also_unread c.call_refragment.result (IsNoRefragment (schemas_of (catalogue_of now.catalog)) c.args.text.now) does.own;
        full = λ db. does.full db kept;
        alone = does.alone;
        none = λ is. record {
          refragment = c.in_ok-refragment.refragment;
          spelled = read.spelled;
          none = subst (λ next. IsNoNext (catalogue_of now.catalog) next c.in_ok-refragment.refragment.relation.name) first (does.none is);
        };
      };
    }
