-- Looking for what clients were told, entry by entry: what is found, and what still waits.
use Rattle.std.proofs.Common.{◌≡◌, ◌≢◌, ◌⊎◌, ◌++◌, ◌∷◌, ◌∙◌, ◌<◌, ◌+◌, ℕ, zero, suc, List, [], Bor, BTreeMap, Option, Some, None, length, get_or, slice_get, take, cond, refl, sym, ap, subst, inl, inr, arith, add-one, ◌≤◌}
use Rattle.std.proofs.lemmas.Bool.{eq-eqb}
use Rattle.std.specs.List.{AllByRecursion, AllPairs}
use Rattle.meaning.specs.declared.schema.RelationSchema.{RelationSchema}
use Rattle.store.specs.declared.name.Txn.{Txn}
use Rattle.protocol.specs.Parts.{In}
use Rattle.protocol.proofs.Basics.{in_append, in_left, in_right}
use Rattle.std.proofs.lemmas.Option.{slice_get_within}
use Rattle.desk.specs.declared.reply.Reply as reply
use Rattle.world.specs.declared.event.Call as calls
use Rattle.history.specs.declared.entry.Entry.{Entry}
use Rattle.history.specs.declared.told.Told.{Told}
use Rattle.history.specs.Merge.{Act, IsMerged, of_cell, row}
use Rattle.history.specs.declared.merge.Unmerged as unmerged
use Rattle.history.specs.declared.merge.Unmerged.TheVariants as unmerged_why
use Rattle.history.specs.declared.told.NotStanding.TheVariants as standing
use Rattle.history.specs.Standing.{AreUnder, IsAmong, IsFoundIn, told_under, untold}
use Rattle.std.specs.BTreeMap.{Updates, is_at}
use Rattle.std.specs.Map.{lookup}
use Rattle.std.specs.Cmp.{nat_cmp_total}
use Rattle.std.specs.FinMap.{nat_cmp-IsAntisymmetric}
use Rattle.std.specs.Option.{option_copied}
use Rattle.std.specs.Ordering.{nat_cmp}
use Rattle.std.proofs.lemmas.List.{get_or-map, length-map, map_more, take-map}
use Rattle.history.specs.declared.merge.Pick.{Pick}
use Rattle.history.specs.Picks.{act_of, acts_of}
use Rattle.std.proofs.lemmas.Bool.{cases_lt}
use Rattle.history.proofs.MapSteps.{changed}
use Rattle.history.proofs.RowPlaces.{all_of, by_rows, of_cell_in, of_cell_more, row_in}
use Rattle.history.specs.Told.{AllStand, IsNotTold, Stands, StandsAt, last_call}

-- ---- by their numbers

-- the items before one are below it
before_it : {A : Type 0} (Below : A → A → Type 0) (items : List A) (i : ℕ) (item : A) → AllPairs Below items → i < length items → item ≡ get_or items i item → (other : A) → In other (take i items) → Below other item
before_it Below [] i item pairs h at other there = absurd (omega (arith, h))
before_it Below (first ∷ items) zero item pairs h at other there = absurd there
before_it Below (first ∷ items) (suc i) item pairs h at other there = elim there [
  | inl same ↦ subst (λ x. Below x item) (sym same) (subst (Below first) (sym at) (pairs zero (suc i) item (omega arith) h))
  | inr later ↦ before_it Below items i item (λ a b d lt within. pairs (suc a) (suc b) d (omega (arith, lt)) (omega (arith, within))) (omega (arith, h)) at other later
]

-- the acts up to a place, and the one there
pub acts_more : (picks : List (Pick Told)) (i : ℕ) (pick : Pick Told) → i < length picks → pick ≡ get_or picks i pick → acts_of (take (i + 1) picks) ≡ acts_of (take i picks) ++ act_of pick ∷ []
acts_more picks i pick h at = map_more act_of picks i pick h ∙ ap (λ p. acts_of (take i picks) ++ act_of p ∷ []) (sym at)

-- those before it have lower numbers
pub acts_before : (picks : List (Pick Told)) (i : ℕ) (pick : Pick Told) → AllPairs (λ (one other : Act Told). one.entry.number < other.entry.number) (acts_of picks) → i < length picks → pick ≡ get_or picks i pick
    → (other : Act Told) → In other (acts_of (take i picks)) → other.entry.number < pick.item.now.number
acts_before picks i pick pairs h at other there =
    let count = length-map picks (act_of {T = Told}) in
    before_it (λ (one other : Act Told). one.entry.number < other.entry.number) (acts_of picks) i (act_of pick) pairs (omega (arith, count, h)) (ap act_of at ∙ sym (get_or-map act_of picks i pick (act_of pick) h)) other (subst (In other) (sym (take-map act_of i picks)) there)

-- what a map has after a change under one number
pub told_changed : (before after : BTreeMap ℕ (Bor Told)) (number : ℕ) (value : Option (Bor Told)) → Updates nat_cmp before after number value → (k : ℕ) → ((number ≡ k) × (told_under after k ≡ option_copied value)) ⊎ ((number ≢ k) × (told_under after k ≡ told_under before k))
told_changed before after number value updates k = elim (changed nat_cmp nat_cmp_total nat_cmp-IsAntisymmetric before after number value updates k) [
  | inl here ↦ inl (here.0, ap option_copied here.1)
  | inr there ↦ inr (there.0, ap option_copied there.1)
]

-- an empty map has nothing
under_none : (entries : List (ℕ × Bor Told)) (k : ℕ) → (0 < length entries → ⊥) → option_copied (lookup (is_at (nat_cmp k)) entries) ≡ None
under_none [] k empty = refl
under_none (first ∷ entries) k empty = absurd (empty (omega arith))

pub under_empty : (waiting : BTreeMap ℕ (Bor Told)) (k : ℕ) → (0 < length waiting.entries → ⊥) → told_under waiting k ≡ None
under_empty waiting k empty = under_none waiting.entries k empty

-- what was told next waits too
pub under_more : (under new : ℕ → Option Told) (acts : List (Act Told)) (act : Act Told) → AreUnder under acts → ((other : Act Told) → In other acts → other.entry.number < act.entry.number)
    → ((k : ℕ) → ((act.entry.number ≡ k) × (new k ≡ Some act.entry)) ⊎ ((act.entry.number ≢ k) × (new k ≡ under k))) → AreUnder new (acts ++ act ∷ [])
under_more under new acts act so below changes = record {
  each = λ other there. elim (in_append other acts (act ∷ []) there) [
    | inl before ↦ elim (changes other.entry.number) [
      | inl here ↦ absurd (omega (arith, here.0, below other before))
      | inr apart ↦ apart.1 ∙ so.each other before
    ]
    | inr last ↦ elim last [
      | inl same ↦ subst (λ (a : Act Told). new a.entry.number ≡ Some a.entry) (sym same) (own act new changes)
      | inr nowhere ↦ absurd nowhere
    ]
  ];
  known = λ k told e. elim (changes k) [
    | inl here ↦
        let is : Some act.entry ≡ Some told = sym here.1 ∙ e in
        let equal : act.entry ≡ told = cc in
        (subst (λ (t : Told). t.number ≡ k) equal here.0, (act.cell, subst (λ (t : Told). In t (of_cell act.cell (acts ++ act ∷ []))) equal (stands_last acts act)))
    | inr apart ↦
        let known = so.known k told (sym apart.1 ∙ e) in
        let c = known.1.0 in
        (known.0, (c, subst (In told) (sym (of_cell_more c acts act)) (in_left told (of_cell c acts) (of_cell c (act ∷ [])) known.1.1)))
  ];
}
  where
    own : (act : Act Told) (new : ℕ → Option Told) → ((k : ℕ) → ((act.entry.number ≡ k) × (new k ≡ Some act.entry)) ⊎ ((act.entry.number ≢ k) × (new k ≡ under k))) → new act.entry.number ≡ Some act.entry
    own act new changes = elim (changes act.entry.number) [ inl here ↦ here.1 | inr apart ↦ absurd (apart.0 refl) ]

    stands_last : (acts : List (Act Told)) (act : Act Told) → In act.entry (of_cell act.cell (acts ++ act ∷ []))
    stands_last acts act = subst (In act.entry) (sym (of_cell_more act.cell acts act ∙ ap (λ b. of_cell act.cell acts ++ cond b (act.entry ∷ []) []) (eq-eqb act.cell act.cell refl))) (in_right act.entry (of_cell act.cell acts) (act.entry ∷ []) (inl refl))

-- ---- entry by entry

-- a place below the next one is below this one, or this one
last_below : (place i : ℕ) → place < i + 1 → (place < i) ⊎ (place ≡ i)
last_below place i h = elim (cases_lt place i) [ inl low ↦ inl low | inr high ↦ inr (omega (arith, h, high)) ]

module _ (schema : List RelationSchema) (entries : List Entry) where
  -- the last calls are known, each that was told is found or waits, and none that waits stands in the entries so far
  pub record IsLooking (acts : List (Act Told)) (known : Txn → Option calls.Call) (under : ℕ → Option Told) (i : ℕ) : Type 0 where
    pub calls : (txn : Txn) → known txn ≡ last_call txn None (take i entries)
    pub each : (act : Act Told) → In act acts → (under act.entry.number ≡ Some act.entry) ⊎ Stands schema entries act.entry
    pub waits : (k : ℕ) (told : Told) → under k ≡ Some told → (told.number ≡ k) × ((c : ℕ) × In told (of_cell c acts))
    pub nowhere : (k : ℕ) (told : Told) → under k ≡ Some told → (place : ℕ) → place < i → StandsAt schema entries told place → ⊥

  -- what is among the replies of an entry stands there
  stands_here : (known : Txn → Option calls.Call) (i : ℕ) (entry : Entry) (told : Told) → slice_get entries i ≡ Some entry → entry.number ≡ told.number → ((txn : Txn) → known txn ≡ last_call txn None (take (i + 1) entries)) → IsAmong schema known told entry.replies → StandsAt schema entries told i
  stands_here known i entry told at number calls so = record {
    entry = entry;
    there = at;
    number = number;
    txn = so.notice.txn;
    heard = subst (λ (r : reply.Reply). In (record { txn = so.notice.txn; reply = r }) entry.replies) so.heard.reply so.there;
    call = so.heard.call;
    last = subst (λ n. last_call so.notice.txn None (take n entries) ≡ Some so.heard.call) (add-one i) (sym (calls so.notice.txn) ∙ so.heard.last);
    asked = so.heard.asked;
  }

  -- and the other way round
  among_here : (known : Txn → Option calls.Call) (i : ℕ) (entry : Entry) (told : Told) → slice_get entries i ≡ Some entry → ((txn : Txn) → known txn ≡ last_call txn None (take (i + 1) entries)) → StandsAt schema entries told i → (entry.number ≡ told.number) × IsAmong schema known told entry.replies
  among_here known i entry told at calls so =
      let is : Some so.entry ≡ Some entry = sym so.there ∙ at in
      let same : so.entry ≡ entry = cc in (
        subst (λ (e : Entry). e.number ≡ told.number) same so.number,
        record {
          notice = record { txn = so.txn; reply = told.reply };
          there = subst (λ (e : Entry). In (record { txn = so.txn; reply = told.reply }) e.replies) same so.heard;
          heard = record {
            reply = refl;
            call = so.call;
            last = calls so.txn ∙ subst (λ n. last_call so.txn None (take n entries) ≡ Some so.call) (sym (add-one i)) so.last;
            asked = so.asked;
          };
        },
      )

  -- an entry at which nothing is found
  pub looking_on : (acts : List (Act Told)) (known now : Txn → Option calls.Call) (under : ℕ → Option Told) (i : ℕ) (entry : Entry) → slice_get entries i ≡ Some entry → ((txn : Txn) → now txn ≡ last_call txn None (take (i + 1) entries)) → IsLooking acts known under i
      → (IsFoundIn schema now under entry → ⊥) → IsLooking acts now under (i + 1)
  looking_on acts known now under i entry at calls so not = record {
    calls = calls;
    each = so.each;
    waits = so.waits;
    nowhere = λ k told e place low stands. elim (last_below place i low) [
      | inl before ↦ so.nowhere k told e place before stands
      | inr here ↦
          let among = among_here now i entry told at calls (subst (StandsAt schema entries told) here stands) in
          not (record { told = told; waits = subst (λ n. under n ≡ Some told) (sym (among.0 ∙ (so.waits k told e).0)) e; among = among.1 })
    ];
  }

  -- an entry at which what waited is found
  pub looking_found : (acts : List (Act Told)) (known now : Txn → Option calls.Call) (under new : ℕ → Option Told) (i : ℕ) (entry : Entry) → slice_get entries i ≡ Some entry → ((txn : Txn) → now txn ≡ last_call txn None (take (i + 1) entries)) → IsLooking acts known under i
      → IsFoundIn schema now under entry → ((k : ℕ) → ((entry.number ≡ k) × (new k ≡ None)) ⊎ ((entry.number ≢ k) × (new k ≡ under k))) → IsLooking acts now new (i + 1)
  looking_found acts known now under new i entry at calls so found changes = record {
    calls = calls;
    each = λ act there. elim (so.each act there) [
      | inl waits ↦ elim (changes act.entry.number) [
        | inl here ↦
            let is : Some found.told ≡ Some act.entry = sym found.waits ∙ (ap under here.0 ∙ waits) in
            let same : found.told ≡ act.entry = cc in
            inr (i, stands_here now i entry act.entry at here.0 calls (subst (λ (t : Told). IsAmong schema now t entry.replies) same found.among))
        | inr apart ↦ inl (apart.1 ∙ waits)
      ]
      | inr found_before ↦ inr found_before
    ];
    waits = λ k told e. so.waits k told (still k told e).1;
    nowhere = λ k told e place low stands. elim (last_below place i low) [
      | inl before ↦ so.nowhere k told (still k told e).1 place before stands
      | inr here ↦
          let among = among_here now i entry told at calls (subst (StandsAt schema entries told) here stands) in
          (still k told e).0 (among.0 ∙ (so.waits k told (still k told e).1).0)
    ];
  }
    where
      still : (k : ℕ) (told : Told) → new k ≡ Some told → (entry.number ≢ k) × (under k ≡ Some told)
      still k told e = elim (changes k) [ inl here ↦ (let is : None ≡ Some told = sym here.1 ∙ e in cc) | inr apart ↦ (apart.0, sym apart.1 ∙ e) ]

  -- where none waits, all stand
  pub all_stand : (lists : List (List Told)) (acts : List (Act Told)) (known : Txn → Option calls.Call) (under : ℕ → Option Told) (i : ℕ) → IsMerged (λ (told : Told). told.number) lists acts → IsLooking acts known under i → ((k : ℕ) → under k ≡ None) → AllStand schema entries lists
  all_stand lists acts known under i merged so none = record {
    acts = acts;
    merged = merged;
    each = by_rows (AllByRecursion (Stands schema entries)) lists (λ c. subst (AllByRecursion (Stands schema entries)) (merged.whole c) (all_of (Stands schema entries) (of_cell c acts) (λ told there. stands told (of_cell_in c acts told there))));
  }
    where
      stands : (told : Told) → ((act : Act Told) × (In act acts × (act.entry ≡ told))) → Stands schema entries told
      stands told one = elim (so.each one.0 one.1.0) [
        | inl waits ↦ (let e : None ≡ Some one.0.entry = sym (none one.0.entry.number) ∙ waits in cc)
        | inr found ↦ subst (Stands schema entries) one.1.1 found
      ]

  -- one that waits at the end stands nowhere
  pub not_standing : (lists : List (List Told)) (acts : List (Act Told)) (known : Txn → Option calls.Call) (under : ℕ → Option Told) (i k : ℕ) (told : Told) → IsMerged (λ (told : Told). told.number) lists acts → length entries ≤ i → IsLooking acts known under i → under k ≡ Some told → IsNotTold schema entries lists k
  not_standing lists acts known under i k told merged long so waits =
      let known = so.waits k told waits in
      let here : In told (row lists known.1.0) = subst (In told) (merged.whole known.1.0) known.1.1 in
      inr (record {
        list = row lists known.1.0;
        in_lists = row_in lists known.1.0 told here;
        told = told;
        in_list = here;
        number = known.0;
        nowhere = λ stands. so.nowhere k told waits stands.0 (omega (arith, slice_get_within entries stands.0 stands.1.entry stands.1.there, long)) stands.1;
      })

-- a number that is told to be out of order was so
pub untold_is : (why : unmerged.Unmerged) (k : ℕ) → untold why ≡ standing.NotTold k → why ≡ unmerged_why.OutOfOrder k
untold_is unmerged_why.Memory k e = cc
untold_is (unmerged_why.OutOfOrder n) k e = cc
