-- What a call of one client over a list of catalogues does, with all its letters: where no commit is asked for, nothing is committed.
use Rattle.std.proofs.Common.{◌≡◌, ◌&&◌, refl, sym, ap, ◌∙◌, subst, true, List, [], ◌∷◌, ◌++◌, map, Result, IfOk, OnErr}
use Rattle.meaning.specs.Whole.{Relations}
use Rattle.meaning.specs.declared.statement.Statement.TheVariants as kinds
use Rattle.store.specs.declared.letter.Letter as letters
use Rattle.store.specs.declared.name.Txn.{Txn}
use Rattle.protocol.specs.Client.{IsReached}
use Rattle.protocol.specs.Desk.{Began, Choice, Deed, Known, Rollback, State, desk_after, fresh_as, is_desk_within, next_txn, on_request}
use Rattle.protocol.specs.Language.{same}
use Rattle.protocol.specs.Letters.{txn_name}
use Rattle.protocol.specs.NothingCommits.{AreInVain}
use Rattle.protocol.specs.Serial.{AllExplained, Explained}
use Rattle.protocol.specs.World.{World, begins, begun, called, first_turn, refragments, turned, turns}
use Rattle.protocol.proofs.Basics.{both_true, if_true, put_here, same_law}
use Rattle.protocol.proofs.NothingCommits.{AreCalm, Vainly, begins_vainly, rollback_vainly, state_vainly, vainly_then}
use Rattle.desk.specs.declared.refusal.Refusal.{Refusal}
use Rattle.desk.specs.declared.reply.Notice.{Notice}
use Rattle.desk.specs.declared.reply.Out.{Out}
use Rattle.desk.specs.Database.{Database, language, sent}
use Rattle.world.specs.Listed.{IsListed, ListAsked, ListBegun, ListLeads, ListMoved, ListStated}
use Rattle.world.specs.ListServed.{IsListServedOn, IsListWaiting, ListGoes}
use Rattle.world.specs.Machines.{Machines, world_of}
use Rattle.world.specs.Mailbox.{ListComes, all_come, settled}
use Rattle.world.specs.Taking.{put_out_by}
use Rattle.world.proofs.Account.{all_silently}
use Rattle.world.proofs.Deeds.{all_vainly}
use Rattle.world.proofs.ListDelivering.{list_reached}
use Rattle.world.proofs.Reaching.{all_reached}
use Rattle.world.proofs.Running.{all_both}
use Rattle.world.proofs.Shown.{IsSilent}
use Rattle.world.proofs.SiteSteps.{if_ok}

module _ (db : Database) where
  abbrev past_of : World (language db) → List (Deed (language db))
  past_of w = w.past

  -- ---- the first step of a call, before its letters
  -- what is done and put out by a step that commits nothing
  abbrev pub IsVain : List (Deed (language db)) → List letters.Letter → Type 0
  IsVain deeds out = AreInVain deeds × AreCalm (map (sent db) out)

  leads_vain : (step : World (language db) → World (language db)) (before mid : Machines) (out : List letters.Letter) (notices : List Notice) → (leads : ListLeads db step before mid out notices) → Vainly (world_of db before [] []) (step (world_of db before [] [])) → IsVain leads.deeds out
  leads_vain step before mid out notices leads vainly =
      let is : step (world_of db before [] []) ≡ world_of db mid (map (sent db) out) leads.deeds = leads.is [] [] in
      (subst AreInVain (sym vainly.is ∙ ap past_of is) vainly.vain, subst AreCalm (ap (λ (w : World (language db)). w.letters) is) vainly.calm)

  pub begun_vain : (before mid : Machines) (out : List letters.Letter) (notices : List Notice) → (began : ListBegun db before mid out notices) → IsVain began.leads.deeds out
  begun_vain before mid out notices began = leads_vain begins before mid out notices began.leads (begins_vainly (world_of db before [] []) tt)

  pub stated_vain : (txn : Txn) (text : List _) (before mid : Machines) (out : List letters.Letter) (notices : List Notice) → (stated : ListStated db txn text before mid out notices) → IsVain stated.asked.leads.deeds out
  stated_vain txn text before mid out notices stated =
      leads_vain (λ w. called w (txn_name txn) stated.choice (State (before.table.version, stated.statement))) before mid out notices stated.asked.leads
      (state_vainly (world_of db before [] []) tt (txn_name txn) stated.choice (before.table.version, stated.statement))

  pub rolled_back_vain : (txn : Txn) (choice : Choice (language db)) (before mid : Machines) (out : List letters.Letter) (notices : List Notice) → (asked : ListAsked db txn choice Rollback before mid out notices) → IsVain asked.leads.deeds out
  rolled_back_vain txn choice before mid out notices asked = leads_vain (λ w. called w (txn_name txn) choice Rollback) before mid out notices asked.leads (rollback_vainly (world_of db before [] []) tt (txn_name txn) choice)

  -- a transaction begins that gives a relation another split, and states that
  pub moved_vain : (text : List _) (before mid : Machines) (out : List letters.Letter) (notices : List Notice) → (moved : ListMoved db text before mid out notices) → IsVain moved.leads.deeds out
  moved_vain text before mid out notices moved =
      let w = world_of db before [] [] in
      let s : (language db).Statement = (before.table.version, kinds.Refragment moved.refragment) in
      let t = next_txn w.desk in
      let v = begun true w in
      let turn = first_turn w s moved.choice in
      let there : refragments w s moved.choice ≡ turned v t turn = if_true (is_desk_within v.desk && is_desk_within (desk_after v.desk t turn.txn)) (turned v t turn) w (both_true (is_desk_within v.desk) (is_desk_within (desk_after v.desk t turn.txn)) moved.begun_within moved.within) in
      let began : Vainly w v = record { more = Began t ∷ []; vain = (refl, tt); is = refl; calm = tt } in
      let known : v.desk.txn t ≡ Known (fresh_as true) = put_here same same_law t (Known (fresh_as true)) w.desk.txn in
      let asked_is : called v t moved.choice (State s) ≡ turned v t turn =
      ap (λ x. turns v t (on_request t moved.choice (State s) x)) known ∙ if_true (is_desk_within (desk_after v.desk t turn.txn)) (turned v t turn) v moved.within in
      let stated : Vainly v (turned v t turn) = subst (Vainly v) asked_is (state_vainly v tt t moved.choice s) in
      leads_vain (λ u. refragments u s moved.choice) before mid out notices moved.leads (subst (Vainly w) (sym there) (vainly_then w v (turned v t turn) began stated))

  -- ---- and all its letters
  module _ (whole : Relations) where
    -- further deeds are done as letters come, and where these are calm nothing is committed. waited: those that waited
    abbrev pub VainlyGoes : Machines → List letters.Letter → List (Deed (language db)) → List Notice → List Notice → Type 0
    VainlyGoes after waited past was now = (goes : ListGoes db whole after [] past was now) × (AreCalm (map (sent db) waited) → AreInVain goes.deeds)

    comes_goes : (listed : IsListed db) (mid after : Machines) (out : Out) (past : List (Deed (language db))) (heard : List Notice) → IsListWaiting db whole mid out.letters past → ListComes db (put_out_by mid out) (settled after heard) → VainlyGoes after out.letters past out.replies heard
    comes_goes listed mid after out past heard waits comes =
        let opened : (language db).Whole = (waits.version, whole) in
        let bare = world_of db mid (map (sent db) out.letters) [] in
        let w = world_of db mid (map (sent db) out.letters) past in
        let is : all_come comes.comings w ≡ world_of db after [] (past ++ comes.deeds) = comes.is past in
        let more : past_of (all_come comes.comings bare) ≡ comes.deeds = ap past_of (comes.is []) in
        let explained : AllExplained (all_come comes.comings w).past = subst AllExplained (sym (ap past_of is)) (all_both Explained past comes.deeds waits.reached.explained comes.explained) in
        let quiet = all_silently comes.comings bare in
        let silent : IsSilent comes.deeds = subst IsSilent (sym quiet.is ∙ more) quiet.silent in (
          record {
            deeds = comes.deeds;
            served = record { version = waits.version; reached = subst (IsReached opened) is (all_reached (list_reached db listed) opened comes.comings w waits.reached explained); fit = comes.fit };
            unphased = silent.0;
            unstated = silent.1;
            replies = comes.replies;
          },
          λ calm. (let vainly = all_vainly comes.comings bare calm in subst AreInVain (sym vainly.is ∙ more) vainly.vain),
        )

    pub all_goes : {T R : Type 0} (P : Type 0) (listed : IsListed db) (items : T → List Notice) (mid after : Machines) (out : Out) (past : List (Deed (language db))) (result : Result T Refusal) → IsListWaiting db whole mid out.letters past →
        IfOk result (λ x. ListComes db (put_out_by mid out) (settled after (items x)) × P) → IfOk result (λ x. ListGoes db whole after [] past out.replies (items x)) × OnErr result (IsListServedOn db whole after past) × R →
        IfOk result (λ x. VainlyGoes after out.letters past out.replies (items x)) × OnErr result (IsListServedOn db whole after past) × R
    all_goes P listed items mid after out past result waits comes goes = (if_ok result (λ x so. comes_goes listed mid after out past (items x) waits so.0) comes, goes.1, goes.2)
