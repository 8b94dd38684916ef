-- The limits hold from step to step, and what ends or prepares a visit never meets one.
use Rattle.std.proofs.Common.{◌≡◌, ◌^◌, List, refl, sym, ◌∙◌, ℕ, ◌≤◌, ◌==◌, ◌&&◌, not, Bool, true, false, [], ◌∷◌, length, if◌then◌else◌, filter, nat_lt, nat_le, arith}
use Rattle.std.proofs.lemmas.Bool.{le-leb, leb-true}
use Rattle.std.specs.Prelude.{⊤}
use Rattle.std.specs.List.{list_all}
use Rattle.protocol.specs.Language.{Lang, IsLawful, Name, same, put}
use Rattle.protocol.specs.Letter.{Body, Letter, Open, Fetch, Write, Prepare, Commit, Abort, Ticket, Rows, Refused, Voted, Ack, Inquire, No, Read, is_for_desk}
use Rattle.protocol.specs.Site.{Status, Dead, Active, Prepared, SiteState, Act, Ends, is_dead, is_active, is_short, is_within, on_letter, on_prepare, on_commit, on_abort, with_status, site_after, said}
use Rattle.protocol.specs.Desk.{Txn, Choice, Request, Transition, Desk, desk_began, on_request, on_desk_letter, is_unknown, is_undecided, is_short_txn, is_desk_within, desk_after}
use Rattle.protocol.specs.Client.{first, next}
use Rattle.protocol.specs.AfterAbort.{Within}
use Rattle.protocol.specs.World.{World, begins, begun, called, turns, turned, site_steps, with_site, addressed, comes_to}
use Rattle.protocol.proofs.Basics.{either, either_if, put_all, same_law, left_true, right_true, both_true}

all_filter : {A : Type 0} (p r keeps : A → Bool) (xs : List A) → ((x : A) → p x ≡ true → r x ≡ true) → list_all p xs ≡ true → list_all r (filter keeps xs) ≡ true
all_filter p r keeps [] to all = refl
all_filter p r keeps (x ∷ xs) to all =
    let rest = all_filter p r keeps xs to (right_true (p x) (list_all p xs) all) in
    either (λ ys. list_all r ys ≡ true) (keeps x) (x ∷ filter keeps xs) (filter keeps xs) (both_true (r x) (list_all r (filter keeps xs)) (to x (left_true (p x) (list_all p xs) all)) rest) rest

-- fewer pass
fewer : {A : Type 0} (p r keeps : A → Bool) (xs : List A) → ((x : A) → r x ≡ true → p x ≡ true) → length (filter r (filter keeps xs)) ≤ length (filter p xs)
fewer p r keeps [] to = omega arith
fewer p r keeps (x ∷ xs) to = by_keeps (keeps x) (fewer p r keeps xs to)
  where
    by_p : (b : Bool) → length (filter r (filter keeps xs)) ≤ length (filter p xs) → length (filter r (filter keeps xs)) ≤ length (if b then x ∷ filter p xs else filter p xs)
    by_p true rest = omega arith
    by_p false rest = rest

    both : (b c : Bool) → (c ≡ true → b ≡ true) → length (filter r (filter keeps xs)) ≤ length (filter p xs) → length (if c then x ∷ filter r (filter keeps xs) else filter r (filter keeps xs)) ≤ length (if b then x ∷ filter p xs else filter p xs)
    both true true to rest = omega arith
    both true false to rest = omega arith
    both false true to rest = let e : false ≡ true = to refl in cc
    both false false to rest = rest

    by_keeps : (b : Bool) → length (filter r (filter keeps xs)) ≤ length (filter p xs) → length (filter r (if b then x ∷ filter keeps xs else filter keeps xs)) ≤ length (if p x then x ∷ filter p xs else filter p xs)
    by_keeps true rest = both (p x) (r x) (to x) rest
    by_keeps false rest = by_p (p x) rest

fewer_still : (m n limit : ℕ) → m ≤ n → nat_le n limit ≡ true → nat_le m limit ≡ true
fewer_still m n limit less some = le-leb m limit (let h = leb-true n limit some in omega arith)

module _ {L : Lang} where
  -- a ticket has another status
  put_within : (s : SiteState L) (k : Name) (x : Status L) → (is_short x ≡ true) → (is_active x ≡ false) → is_within s ≡ true → is_within (with_status s (put same k x s.status) s.known) ≡ true
  put_within s k x short dead within =
      let a = nat_lt s.life (2 ^ 63) in
      let b = nat_lt s.number (2 ^ 63) in
      let c = list_all (λ j. is_short (s.status j)) s.known in
      let d = nat_le (length (filter (λ j. is_active (s.status j)) s.known)) 1024 in
      let new = put same k x s.status in
      let keeps : Name → Bool = λ j. not (is_dead (new j)) in
      let abc = left_true (a && b && c) d within in
      both_true (a && b && list_all (λ j. is_short (new j)) (filter keeps s.known)) (nat_le (length (filter (λ j. is_active (new j)) (filter keeps s.known))) 1024)
      (both_true (a && b) (list_all (λ j. is_short (new j)) (filter keeps s.known)) (left_true (a && b) c abc)
      (all_filter (λ j. is_short (s.status j)) (λ j. is_short (new j)) keeps s.known (put_all same same_law k x s.status (λ j y. is_short (s.status j) ≡ true → is_short y ≡ true) (λ was. short) (λ j other was. was)) (right_true (a && b) c abc)))
      (fewer_still _ (length (filter (λ j. is_active (s.status j)) s.known)) 1024 (fewer (λ j. is_active (s.status j)) (λ j. is_active (new j)) keeps s.known (put_all same same_law k x s.status (λ j y. is_active y ≡ true → is_active (s.status j) ≡ true) (λ is. (let e : true ≡ false = sym is ∙ dead in cc)) (λ j other is. is))) (right_true (a && b && c) d within))

  -- what ends or prepares a visit meets no limit
  abbrev pub OfTheEnd : Body L → Type 0
  OfTheEnd (Prepare k n) = ⊤
  OfTheEnd (Commit k) = ⊤
  OfTheEnd (Abort k) = ⊤
  OfTheEnd body = ⊥

  module _ (s : SiteState L) (within : is_within s ≡ true) where
    abbrev Stays : Act L → Type 0
    Stays act = is_within (site_after s act) ≡ true

    ends_within : (k : Name) (replies : List (Body L)) → Stays (Ends k replies)
    ends_within k replies = put_within s k Dead refl refl within

    prepare_within : (kept : Bool) (t k : Name) (n : ℕ) (st : Status L) → Stays (on_prepare kept t k n st)
    prepare_within kept t k n Dead = within
    prepare_within kept t k n (Prepared j i) = within
    prepare_within kept t k n (Active v) = either Stays (v.done == n) _ _ (either Stays (L.is_empty v.changes) _ _ (ends_within k (Voted k Read ∷ [])) (either Stays kept _ _ (put_within s k (Prepared t v.changes) refl refl within) (ends_within k (Voted k No ∷ [])))) (ends_within k (Voted k No ∷ []))

    commit_within : (kept : Bool) (k : Name) (st : Status L) → Stays (on_commit kept k st)
    commit_within kept k Dead = within
    commit_within kept k (Active v) = within
    commit_within kept k (Prepared t i) = either Stays kept _ _ (put_within s k Dead refl refl within) within

    abort_within : (kept : Bool) (k : Name) (st : Status L) → Stays (on_abort kept k st)
    abort_within kept k Dead = within
    abort_within kept k (Active v) = ends_within k []
    abort_within kept k (Prepared t i) = either Stays kept _ _ (ends_within k []) within

    pub end_within : (t : Name) (kept : Bool) (c : Body L) → OfTheEnd c → is_within (site_after s (on_letter s t kept c)) ≡ true
    end_within t kept (Prepare k n) end = prepare_within kept t k n (s.status k)
    end_within t kept (Commit k) end = commit_within kept k (s.status k)
    end_within t kept (Abort k) end = abort_within kept k (s.status k)
    end_within t kept Open end = absurd end
    end_within t kept (Fetch k op g q) end = absurd end
    end_within t kept (Write k op g x) end = absurd end
    end_within t kept (Ticket k) end = absurd end
    end_within t kept (Rows k n rows) end = absurd end
    end_within t kept (Refused k reason) end = absurd end
    end_within t kept (Voted k x) end = absurd end
    end_within t kept (Ack k) end = absurd end
    end_within t kept (Inquire k) end = absurd end

  -- a turn that sends nothing more and begins nothing
  pub turn_within : (d : Desk L) (t : Name) (x : Txn L) → (is_short_txn (d.txn t) ≡ true → is_short_txn x ≡ true) → (is_undecided x ≡ true → is_undecided (d.txn t) ≡ true) → is_desk_within d ≡ true → is_desk_within (desk_after d t x) ≡ true
  turn_within d t x short less within =
      let a = nat_lt d.life (2 ^ 63) in
      let b = nat_lt d.number (2 ^ 63) in
      let c = list_all (λ j. is_short_txn (d.txn j)) d.known in
      let e = nat_le (length (filter (λ j. is_undecided (d.txn j)) d.known)) 256 in
      let new = put same t x d.txn in
      let keeps : Name → Bool = λ j. not (is_unknown (new j)) in
      let abc = left_true (a && b && c) e within in
      both_true (a && b && list_all (λ j. is_short_txn (new j)) (filter keeps d.known)) (nat_le (length (filter (λ j. is_undecided (new j)) (filter keeps d.known))) 256)
      (both_true (a && b) (list_all (λ j. is_short_txn (new j)) (filter keeps d.known)) (left_true (a && b) c abc)
      (all_filter (λ j. is_short_txn (d.txn j)) (λ j. is_short_txn (new j)) keeps d.known (put_all same same_law t x d.txn (λ j y. is_short_txn (d.txn j) ≡ true → is_short_txn y ≡ true) short (λ j other was. was)) (right_true (a && b) c abc)))
      (fewer_still _ (length (filter (λ j. is_undecided (d.txn j)) d.known)) 256 (fewer (λ j. is_undecided (d.txn j)) (λ j. is_undecided (new j)) keeps d.known (put_all same same_law t x d.txn (λ j y. is_undecided y ≡ true → is_undecided (d.txn j) ≡ true) less (λ j other is. is))) (right_true (a && b && c) e within))

  -- ---- worlds
  turns_within : (w : World L) (t : Name) (turn : Transition L) → Within w → Within (turns w t turn)
  turns_within w t turn within = either_if Within (is_desk_within (desk_after w.desk t turn.txn)) (turned w t turn) w (λ is. record { desk = is; sites = within.sites }) (λ full. within)

  pub begins_within : (w : World L) → Within w → Within (begins w)
  begins_within w within = either_if Within (is_desk_within (desk_began w.desk)) (begun false w) w (λ is. record { desk = is; sites = within.sites }) (λ full. within)

  pub called_within : (w : World L) (t : Name) (choice : Choice L) (request : Request L) → Within w → Within (called w t choice request)
  called_within w t choice request within = turns_within w t (on_request t choice request (w.desk.txn t)) within

  module _ (law : IsLawful L) where
    steps_within : (w : World L) (a : L.Site) (s : SiteState L) (letters : List (Letter L)) → Within w → Within (site_steps w a s letters)
    steps_within w a s letters within = either_if Within (is_within s) (with_site w a s letters) w (λ is. record { desk = within.desk; sites = put_all L.same_site law.sites a s w.sites (λ b x. is_within x ≡ true) is (λ b other. within.sites b) }) (λ full. within)

    pub next_within : (w : World L) (kept : Bool) (choice : Choice L) → Within w → Within (next w kept choice)
    next_within w kept choice within = go w.letters
      where
        at_ : (b : Bool) (q : List (Letter L)) (l : Letter L) → Within (comes_to b (record w { letters = q }) kept choice l)
        at_ false q l = let act = on_letter (w.sites l.site) l.txn kept l.body in steps_within (record w { letters = q }) l.site (site_after (w.sites l.site) act) (addressed l.site l.txn (said (w.sites l.site) act)) (record { desk = within.desk; sites = within.sites })
        at_ true q l = turns_within (record w { letters = q }) l.txn (on_desk_letter l.txn l.site kept choice l.body (w.desk.txn l.txn)) (record { desk = within.desk; sites = within.sites })

        go : (letters : List (Letter L)) → Within (first w kept choice letters)
        go [] = within
        go (l ∷ q) = at_ (is_for_desk l.body) q l
