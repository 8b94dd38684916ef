-- A world's run goes on, event by event.
use Rattle.std.proofs.Common.{◌≡◌, refl, sym, ap, subst, ℕ, List, [], ◌∷◌, ◌++◌, append_assoc, append-nil, false, inr}
use Rattle.std.specs.Prelude.{⊤}
use Rattle.meaning.specs.Whole.{Relations}
use Rattle.protocol.specs.Desk.{Deed}
use Rattle.desk.specs.Database.{Database, language}
use Rattle.world.specs.declared.event.Entry.{Entry}
use Rattle.world.specs.declared.event.Event.{Event}
use Rattle.world.specs.declared.fault.Fault as faults
use Rattle.world.specs.Fault.{is_memory}
use Rattle.world.specs.Refused.{IsRefusedFor}
use Rattle.world.specs.Following.{Follows, Happens}
use Rattle.world.specs.Machines.{Machines}
use Rattle.world.specs.Runs.{IsRun, RunsOn}
use Rattle.world.proofs.Counting.{with_counts}

-- one event more
pub follows_more : (db : Database) (events : List Event) (what : Event) (first mid last : Machines) (a b c : List Entry) → Follows db events first a mid b → Happens db what mid b last c → Follows db (events ++ what ∷ []) first a last c
follows_more db [] what first mid last a b c so happens = (last, (c, (subst (λ (m : Machines). Happens db what m a last c) so.0 (subst (λ (es : List Entry). Happens db what mid es last c) so.1 happens), (refl, refl))))
follows_more db (e ∷ events) what first mid last a b c so happens = (so.0, (so.1.0, (so.1.1.0, follows_more db events what so.0 mid last so.1.0 b c so.1.1.1 happens)))

-- a run that goes on, and on
pub runs_further : (db : Database) (whole : Relations) (mid last : Machines) (b c : List Entry) (past : List (Deed (language db))) (so : RunsOn db whole mid b past) → RunsOn db whole last c (past ++ so.deeds) → RunsOn db whole last c past
runs_further db whole mid last b c past so more = record { deeds = so.deeds ++ more.deeds; run_on = subst (IsRun db whole last c) (append_assoc past so.deeds more.deeds) more.run_on }

-- it stands where it is
pub runs_still : (db : Database) (whole : Relations) (machines : Machines) (entries : List Entry) (past : List (Deed (language db))) → IsRun db whole machines entries past → RunsOn db whole machines entries past
runs_still db whole machines entries past run = record { deeds = []; run_on = subst (IsRun db whole machines entries) (sym (append-nil past)) run }

-- one that is refused
pub passes_by : (db : Database) (what : Event) (before after : Machines) (a b : List ℕ) (entries more : List Entry) (told : faults.Fault) → is_memory told ≡ false → IsRefusedFor ⊤ db (with_counts before a) (with_counts after b) entries what told → after ≡ before → more ≡ entries →
    Happens db what (with_counts before a) entries (with_counts after b) more
passes_by db what before after a b entries more told apart refused same none = inr (told, record { apart = apart; refused = refused; same = ap (λ (m : Machines). with_counts m a) same; none = none })

pub runs_same : (db : Database) (whole : Relations) (before after : Machines) (entries more : List Entry) (past : List (Deed (language db))) → IsRun db whole before entries past → after ≡ before → more ≡ entries → RunsOn db whole after more past
runs_same db whole before after entries more past run same none = subst (λ m. RunsOn db whole m more past) (sym same) (subst (λ es. RunsOn db whole before es past) (sym none) (runs_still db whole before entries past run))
