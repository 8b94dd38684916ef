-- What one client's transaction has written is what its statements mean over whole databases.
use Rattle.std.proofs.Common.{◌≡◌, sym, ap, ap₂, ◌∙◌, subst, List, [], ◌∷◌, map, Some}
use Rattle.protocol.specs.Language.{Lang, IsLawful, Name, written}
use Rattle.protocol.specs.Site.{Visit, Active}
use Rattle.protocol.specs.Desk.{Undecided, Known}
use Rattle.protocol.specs.World.{World}
use Rattle.protocol.specs.Serial.{Gives}
use Rattle.protocol.specs.Client.{IsReached}
use Rattle.protocol.specs.OneClient.{now}
use Rattle.protocol.proofs.Basics.{Every}
use Rattle.protocol.proofs.Fits.{Own}
use Rattle.protocol.proofs.Works.{Work, works}
use Rattle.protocol.proofs.Line.{RightFrom, every_here}
use Rattle.protocol.proofs.InvariantSites.{IsDeep}
use Rattle.protocol.proofs.InvariantEvents.{run_deep, opening_deep}
use Rattle.protocol.proofs.SerialLaw.{IsExplained, explained_works, serial_law, next_step}
use Rattle.protocol.proofs.OwnReads.{right_now}
use Rattle.protocol.proofs.ForgottenLetters.{behind, reached_serial, reached_whole}
use Rattle.protocol.proofs.Order.{InStep, step_front}
use Rattle.protocol.proofs.Versions.{Versions}
use Rattle.protocol.proofs.VersionedEvents.{run_versions}
use Rattle.protocol.proofs.Book.{pending}

module _ {L : Lang} (law : IsLawful L) where
  -- what a statement wrote is what its meaning over some whole database makes
  pub record IsMeant (x : Work L) : Type 0 where
    pub whole : L.Whole
    pub is_whole : L.IsWhole whole
    pub is_statement : L.IsStatement x.statement
    pub in_force : L.tag x.statement ≡ L.version whole
    pub writes : x.choice.1 ≡ L.writes whole (L.meaning x.statement whole).1

  all_meant : (xs : List (Work L)) (whole : L.Whole) (c : L.Leaf → L.Content) → L.IsWhole whole → ((g : L.Leaf) → c g ≡ L.content g whole) → RightFrom c xs → Every IsExplained xs → InStep L (L.version whole) (map (λ x. x.statement) xs) → Every IsMeant xs
  all_meant [] whole c fits base right explained step = tt
  all_meant (x ∷ xs) whole c fits base right explained step =
      let gives : Gives whole x.asks = every_here (λ q. q.rows ≡ Some (L.parts q.query (c q.leaf))) (λ q. q.rows ≡ Some (L.parts q.query (L.content q.leaf whole))) x.asks (λ q here is. is ∙ ap (λ d. Some (L.parts q.query d)) (base q.leaf)) right.0 in
      let is = explained.0.1 whole fits step.0 gives in
      let next : (g : L.Leaf) → written L g x.choice.1 (c g) ≡ L.content g (L.meaning x.statement whole).1 = λ g. ap₂ (λ ws d. written L g ws d) is.1 (base g) ∙ law.writes_right x.statement whole g explained.0.0 fits step.0 in (
        record { whole = whole; is_whole = fits; is_statement = explained.0.0; in_force = step.0; writes = is.1 },
        all_meant xs (L.meaning x.statement whole).1 (λ g. written L g x.choice.1 (c g)) (law.keeps_whole x.statement whole explained.0.0 fits step.0) next right.1 explained.1 (next_step law x.statement whole (map (λ (y : Work L). y.statement) xs) explained.0.0 fits step),
      )

  module _ (whole : L.Whole) (v : World L) (reached : IsReached whole v) where
    -- the world with its delivered letters is that of a run
    pub reached_deep : IsDeep law whole (behind reached.gone v)
    reached_deep = subst (IsDeep law whole) reached.is (run_deep law whole reached.events reached.opening (opening_deep law whole reached.opening reached.opens))

    pub reached_versions : Versions (L.version whole) v
    reached_versions = subst (Versions (L.version whole)) reached.is (run_versions law whole reached.opening reached.events reached.opens)

    pub now_whole : L.IsWhole (now whole v)
    now_whole = reached_whole whole v reached law

    -- of an undecided transaction whose visits all live
    pub works_meant : (t : Name) (u : Undecided L) → v.desk.txn t ≡ Known u → ((a : L.Site) (k : Name) → Own a k u → (x : Visit L) × ((v.sites a).status k ≡ Active x)) → Every IsMeant (works v.past t)
    works_meant t u known active =
        let deep = reached_deep.2 in
        let serial = reached_serial whole v reached (serial_law law) in
        let book = deep.base.book t u known in
        all_meant (works v.past t) (now whole v) _ now_whole serial.rebuilt (right_now law reached_deep.0 reached_deep.1 (behind reached.gone v) t deep.base u known active [] (works v.past t) book.reads) (explained_works t v.past reached.explained)
        (subst (λ n. InStep L n (map (λ (x : Work L). x.statement) (works v.past t))) (sym serial.in_force) (step_front L v.version (map (λ (x : Work L). x.statement) (works v.past t)) (pending u.stage) (subst (InStep L v.version) book.told.statements (reached_versions.in_step t u known))))
