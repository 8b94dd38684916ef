-- Worlds, events and runs: a coordinator, sites, every letter ever sent, and what happened to transactions.
use Rattle.std.specs.Prelude.{ℕ, suc, ◌==◌, ◌&&◌, not, Bool, true, false, List, [], ◌∷◌, ◌++◌, map, if◌then◌else◌, Option, Some, None, slice_get}
use Rattle.std.specs.List.{list_any, list_all, flat_map}
use Rattle.protocol.specs.Language.{Lang, Name, put}
use Rattle.protocol.specs.Letter.{Body, Letter, is_for_desk}
use Rattle.protocol.specs.Site.{SiteState, on_letter, site_after, said, on_give_up, inquiries, site_restarted, is_within}
use Rattle.protocol.specs.Desk.{Choice, Deed, Began, Request, State, Idle, Txn, Transition, Desk, fresh_as, began_as, is_moving, is_committed, on_state, on_request, on_desk_letter, desk_after, next_txn, desk_began, txn_restarted, desk_restarted, is_desk_within}

-- letters: every one ever sent, oldest first; past: what happened to transactions, oldest first; version: the number of the catalogue in
-- force, which the coordinator's store keeps
pub record World (L : Lang) : Type 0 where
  pub desk : Desk L
  pub sites : L.Site → SiteState L
  pub letters : List (Letter L)
  pub past : List (Deed L)
  pub version : ℕ

-- what may happen. A letter of any number may be delivered at any time, again too; one that is never delivered is lost
pub data Event (L : Lang) : Type 0 where
  Begin : Event L
  Refragment : (statement : L.Statement) (choice : Choice L) → Event L
  Call : (txn : Name) (request : Request L) (choice : Choice L) → Event L
  Deliver : (number : ℕ) (kept : Bool) (choice : Choice L) → Event L
  Site_gives_up : (site : L.Site) (ticket : Name) → Event L
  Site_inquires : (site : L.Site) → Event L
  Site_restarts : (site : L.Site) (kept : Bool) → Event L
  Desk_restarts : (kept : Bool) → Event L

-- whether a site is among these
abbrev pub is_site : (L : Lang) → L.Site → List L.Site → Bool
is_site L a sites = list_any (λ b. L.same_site b a) sites

-- whether a list has nothing
abbrev pub is_empty : {A : Type 0} → List A → Bool
is_empty [] = true
is_empty (x ∷ xs) = false

module _ {L : Lang} where
  -- bodies as letters of a site and a transaction
  abbrev pub addressed : L.Site → Name → List (Body L) → List (Letter L)
  addressed a t bodies = map (λ body. record { site = a; txn = t; body = body }) bodies

  -- a site in another state, letters put out
  abbrev pub with_site : World L → L.Site → SiteState L → List (Letter L) → World L
  with_site w a s letters = record w { sites = put L.same_site a s w.sites; letters = w.letters ++ letters }

  -- with the commit of a refragmentation the next catalogue is in force; txn: the transaction before its turn
  abbrev pub version_after : ℕ → Txn L → Name → List (Deed L) → ℕ
  version_after version txn t deeds = if is_moving txn && is_committed deeds t then suc version else version

  -- a transaction after its turn
  abbrev pub turned : World L → Name → Transition L → World L
  turned w t turn = record w { desk = desk_after w.desk t turn.txn; letters = w.letters ++ turn.letters; past = w.past ++ turn.deeds; version = version_after w.version (w.desk.txn t) t turn.deeds }

  -- a site within its limits after a step, else the step is refused and the world is as it was
  abbrev pub site_steps : World L → L.Site → SiteState L → List (Letter L) → World L
  site_steps w a s letters = if is_within s then with_site w a s letters else w

  -- a turn within the limits, else it is refused and the world is as it was
  abbrev pub turns : World L → Name → Transition L → World L
  turns w t turn = if is_desk_within (desk_after w.desk t turn.txn) then turned w t turn else w

  -- a new transaction is there, or a new refragmentation
  abbrev pub begun : Bool → World L → World L
  begun moves w = record w { desk = began_as moves w.desk; past = w.past ++ Began (next_txn w.desk) ∷ [] }

  -- so, within the limits
  abbrev pub begins : World L → World L
  begins w = if is_desk_within (desk_began w.desk) then begun false w else w

  -- no transaction begins while a refragmentation is undecided
  abbrev pub may_begin : World L → Bool
  may_begin w = list_all (λ t. not (is_moving (w.desk.txn t))) w.desk.known

  -- a refragmentation states no further statement; a statement is for the catalogue in force, and brings no other
  abbrev pub may_ask : World L → Name → Request L → Bool
  may_ask w t (State s) = not (is_moving (w.desk.txn t)) && (L.tag s == w.version) && not (L.raises s)
  may_ask w t request = true

  -- a refragmentation begins alone: nobody is undecided and no commit row stands
  abbrev pub may_move : World L → L.Statement → Bool
  may_move w s = is_empty w.desk.known && (L.tag s == w.version) && L.raises s

  -- the first turn of a refragmentation
  abbrev pub first_turn : World L → L.Statement → Choice L → Transition L
  first_turn w s choice = on_state (next_txn w.desk) (fresh_as true) s choice Idle

  -- a refragmentation: a transaction begins and states its one statement, within the limits both, or nothing
  abbrev pub refragments : World L → L.Statement → Choice L → World L
  refragments w s choice =
      let t = next_txn w.desk in
      let v = begun true w in
      let turn = first_turn w s choice in
      if is_desk_within v.desk && is_desk_within (desk_after v.desk t turn.txn) then turned v t turn else w

  -- a client asks for something
  abbrev pub called : World L → Name → Choice L → Request L → World L
  called w t choice request = turns w t (on_request t choice request (w.desk.txn t))

  -- a letter comes to its site, or to the coordinator
  abbrev pub comes_to : Bool → World L → Bool → Choice L → Letter L → World L
  comes_to false w kept choice l =
      let act = on_letter (w.sites l.site) l.txn kept l.body in
      site_steps w l.site (site_after (w.sites l.site) act) (addressed l.site l.txn (said (w.sites l.site) act))
  comes_to true w kept choice l = turns w l.txn (on_desk_letter l.txn l.site kept choice l.body (w.desk.txn l.txn))

  -- a letter comes where it is addressed
  abbrev pub comes : World L → Bool → Choice L → Letter L → World L
  comes w kept choice l = comes_to (is_for_desk l.body) w kept choice l

  -- a letter that was sent comes
  abbrev pub delivered : World L → Bool → Choice L → Option (Letter L) → World L
  delivered w kept choice None = w
  delivered w kept choice (Some l) = comes w kept choice l

  -- a site gives a visit up
  abbrev pub gives_up : World L → L.Site → Name → World L
  gives_up w a k = site_steps w a (site_after (w.sites a) (on_give_up k ((w.sites a).status k))) []

  -- a site asks about its prepared rows
  abbrev pub inquires : World L → L.Site → World L
  inquires w a = record w { letters = w.letters ++ inquiries a (w.sites a) }

  -- a site restarts
  abbrev pub restarts : World L → L.Site → World L
  restarts w a = site_steps w a (site_restarted (w.sites a)) []

  -- the coordinator has restarted
  abbrev pub desk_lives : World L → World L
  desk_lives w =
      let turn : Name → Transition L = λ t. txn_restarted t (w.desk.txn t) in
      record w { desk = desk_restarted w.desk; letters = w.letters ++ flat_map (λ t. (turn t).letters) w.desk.known; past = w.past ++ flat_map (λ t. (turn t).deeds) w.desk.known }

  -- so, within the limits
  abbrev pub desk_restarts : World L → World L
  desk_restarts w = if is_desk_within (desk_restarted w.desk) then desk_lives w else w

  -- nothing happens where a call may not be made, no letter has the number, no site the name, or a restart could not be stored
  abbrev pub happens : World L → Event L → World L
  happens w Begin = if may_begin w then begins w else w
  happens w (Refragment s choice) = if may_move w s then refragments w s choice else w
  happens w (Call t request choice) = if may_ask w t request then called w t choice request else w
  happens w (Deliver n kept choice) = delivered w kept choice (slice_get w.letters n)
  happens w (Site_gives_up a k) = if is_site L a L.sites then gives_up w a k else w
  happens w (Site_inquires a) = if is_site L a L.sites then inquires w a else w
  happens w (Site_restarts a kept) = if is_site L a L.sites then (if kept then restarts w a else w) else w
  happens w (Desk_restarts kept) = if kept then desk_restarts w else w

  -- a whole run
  abbrev pub run : List (Event L) → World L → World L
  run [] w = w
  run (e ∷ es) w = run es (happens w e)
