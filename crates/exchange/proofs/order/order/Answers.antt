-- Why `order::order` meets its contract.
use Rattle.std.proofs.Common.{◌≡◌, ℕ, List, [], Bor, Some, None, map, not, refl, sym, ◌∙◌}
use Rattle.exchange.specs.Order.{is_column, twice_after, unknown}
use Rattle.exchange.proofs.Orders.{position-map}
use Rattle.exchange.proofs.order.order.Goals as goal

pub returns-in-Some : goal.returns-in-Some
returns-in-Some c =
    let names : List (List ℕ) = map (λ (name : Bor (List ℕ)). name.now) c.args.names.now in
    let found : unknown c.args.columns.now names ≡ Some c.in-Some.place = sym (position-map (λ (name : Bor (List ℕ)). name.now) (λ name. not (is_column c.args.columns.now name)) c.args.names.now) ∙ sym c.unknown.ensures ∙ c.in-Some.is in
    rw found refl

pub returns-in-Some-twice : goal.returns-in-Some-twice
returns-in-Some-twice c =
    let names : List (List ℕ) = map (λ (name : Bor (List ℕ)). name.now) c.args.names.now in
    let none : unknown c.args.columns.now names ≡ None = sym (position-map (λ (name : Bor (List ℕ)). name.now) (λ name. not (is_column c.args.columns.now name)) c.args.names.now) ∙ sym c.unknown.ensures ∙ c.in_default.is in
    rw (none, sym c.twice.ensures ∙ c.in-Some-twice.is) refl

pub returns : goal.returns
returns c =
    let names : List (List ℕ) = map (λ (name : Bor (List ℕ)). name.now) c.args.names.now in
    let none : unknown c.args.columns.now names ≡ None = sym (position-map (λ (name : Bor (List ℕ)). name.now) (λ name. not (is_column c.args.columns.now name)) c.args.names.now) ∙ sym c.unknown.ensures ∙ c.in_default.is in
    let apart : twice_after [] names ≡ None = sym c.twice.ensures ∙ c.in_default-twice.is in
    rw (none, apart) c.places.ensures
