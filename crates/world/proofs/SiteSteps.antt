-- A site of the code that makes a step, alone and among the others.
use Rattle.std.proofs.Common.{◌≡◌, sym, ap, ◌∙◌, subst, Bool, true, false, List, ◌∷◌, Some, Result, Ok, Err, IfOk, OnErr, OnOk, if◌then◌else◌}
use Rattle.store.specs.declared.letter.Letter.{Letter}
use Rattle.store.specs.SiteContent.{IsUnchanged, SiteContent}
use Rattle.protocol.proofs.Basics.{some_is}
use Rattle.world.specs.Sites.{Seat, is_called, reseated, seat_of}
use Rattle.world.specs.Seated.{SeatDoes, SomeSeatDoes, place_of}
use Rattle.world.specs.declared.sites.SiteAction.{SiteAction}
use Rattle.world.proofs.Seating.{name_is}

pub on_err : {T E P Q R : Type 0} (result : Result T E) → (P → Q → R) → OnErr result P → OnErr result Q → OnErr result R
on_err (Ok x) both p q = tt
on_err (Err e) both p q = both p q

pub if_ok : {T E : Type 0} {P Q : T → Type 0} (result : Result T E) → ((x : T) → P x → Q x) → IfOk result P → IfOk result Q
if_ok (Ok x) to p = to x p
if_ok (Err e) to p = tt

pub if_ok_too : {T E R : Type 0} {P Q : T → Type 0} (result : Result T E) → ((x : T) → R → P x → Q x) → OnOk result R → IfOk result P → IfOk result Q
if_ok_too (Ok x) to r p = to x r p
if_ok_too (Err e) to r p = tt

pub if_ok_all : {T E A : Type 0} {P Q : T → Type 0} (result : Result T E) (R : A → Type 0) → ((x : T) → ((a : A) → R a) → P x → Q x) → ((a : A) → OnOk result (R a)) → IfOk result P → IfOk result Q
if_ok_all (Ok x) R to r p = to x r p
if_ok_all (Err e) R to r p = tt

pub on_any_err : {T E Q : Type 0} (result : Result T E) → Q → OnErr result Q
on_any_err (Ok x) q = tt
on_any_err (Err e) q = q

pub on_ok : {T E P Q : Type 0} (result : Result T E) → (P → Q) → OnOk result P → OnOk result Q
on_ok (Ok x) to p = to p
on_ok (Err e) to p = tt

pub on_both : {T E P Q R : Type 0} (result : Result T E) → (P → Q → R) → OnOk result P → OnOk result Q → OnOk result R
on_both (Ok x) to p q = to p q
on_both (Err e) to p q = tt

pub if_both : {T E : Type 0} {P Q R : T → Type 0} (result : Result T E) → ((x : T) → P x → Q x → R x) → IfOk result P → IfOk result Q → IfOk result R
if_both (Ok x) to p q = to x p q
if_both (Err e) to p q = tt

-- a store that has not changed keeps the same
pub unchanged : (old new : SiteContent) → IsUnchanged old new → new ≡ old
unchanged old new same i = record { has = λ leaf. same.has leaf i; content = λ leaf. same.content leaf i; prepared = λ ticket. same.prepared ticket i; life = same.life i }

pub seat_same : (old new : Seat) → new.name ≡ old.name → new.leaves ≡ old.leaves → new.table ≡ old.table → new.kept ≡ old.kept → new ≡ old
seat_same old new name leaves table kept i = record { name = name i; leaves = leaves i; kept = kept i; table = table i }

-- the first one is the site
pub take_here : (first new seat : Seat) (rest : List Seat) (what : SiteAction) (letters : List Letter) → is_called (place_of what) first ≡ true → SeatDoes what first new letters → seat_of (place_of what) (first ∷ rest) ≡ Some seat →
    SomeSeatDoes what seat (first ∷ rest) (new ∷ rest) letters
take_here first new seat rest what letters called takes there =
    let same : first ≡ seat = some_is (sym (ap (λ (b : Bool). if b then Some first else seat_of (place_of what) rest) called) ∙ there) in
    subst (λ (s : Seat). SomeSeatDoes what s (first ∷ rest) (new ∷ rest) letters) same (record {
      new = new;
      moves = record {
        there = there ∙ ap Some (sym same);
        is = sym (ap (λ (b : Bool). if b then new ∷ rest else first ∷ reseated (place_of what) new rest) called);
        named = takes.name ∙ sym (name_is (place_of what) first.name called);
        leaves = takes.leaves;
        seated = takes.fits;
      };
      does = takes.does;
    })

-- it is one of those behind
pub take_later : (first seat : Seat) (before after : List Seat) (what : SiteAction) (letters : List Letter) → is_called (place_of what) first ≡ false → SomeSeatDoes what seat before after letters →
    SomeSeatDoes what seat (first ∷ before) (first ∷ after) letters
take_later first seat before after what letters apart takes = record {
  new = takes.new;
  moves = record {
    there = ap (λ (b : Bool). if b then Some first else seat_of (place_of what) before) apart ∙ takes.moves.there;
    is = ap (λ (rest : List Seat). first ∷ rest) takes.moves.is ∙ sym (ap (λ (b : Bool). if b then takes.new ∷ before else first ∷ reseated (place_of what) takes.new before) apart);
    named = takes.moves.named;
    leaves = takes.moves.leaves;
    seated = takes.moves.seated;
  };
  does = takes.does;
}
