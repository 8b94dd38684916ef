-- A list of two catalogues that put the same leaf at two sites in turn is lawful, and so the law over lists speaks of it.
use Rattle.std.proofs.Common.{◌≡◌, refl, ℕ, ◌==◌, Bool, true, false, [], ◌∷◌, ◌++◌, if◌then◌else◌, Option, Some, None, is_none}
use Rattle.std.proofs.lemmas.Bool.{eqb-true}
use Rattle.protocol.specs.Language.{written}
use Rattle.protocol.specs.Catalogues.{listed, then_in_force, ListLaw, IsLawfulList}
use Rattle.protocol.specs.TwoSites.{one_leaf, two_sites, row_under}
use Rattle.protocol.proofs.ListLaw.{list_law}
use Rattle.protocol.proofs.ToyLaws.{toy_lawful}

-- a row is written where it differs from what was there
led : (a : Bool) (north south north_after south_after : ℕ) →
    written (listed one_leaf two_sites) (a, tt) ((if north == north_after then [] else ((false, tt), north_after) ∷ []) ++ (if south == south_after then [] else ((true, tt), south_after) ∷ [])) (if a then south else north) ≡ (if a then south_after else north_after)
led a north south north_after south_after = go a (north == north_after) (south == south_after) (eqb-true north north_after) (eqb-true south south_after)
  where
    go : (a n s : Bool) → (n ≡ true → north ≡ north_after) → (s ≡ true → south ≡ south_after) →
        written (listed one_leaf two_sites) (a, tt) ((if n then [] else ((false, tt), north_after) ∷ []) ++ (if s then [] else ((true, tt), south_after) ∷ [])) (if a then south else north) ≡ (if a then south_after else north_after)
    go true true true n s = s refl
    go true true false n s = refl
    go true false true n s = s refl
    go true false false n s = refl
    go false true true n s = n refl
    go false true false n s = n refl
    go false false true n s = refl
    go false false false n s = refl

only_nothing : (i : Option ℕ) → is_none i ≡ true → i ≡ None
only_nothing None e = refl
only_nothing (Some x) e = cc

rows_led : (a : Bool) (n m before after : ℕ) → written (listed one_leaf two_sites) (a, tt) (two_sites.writes n m before after) (row_under n (a, tt) before) ≡ row_under m (a, tt) after
rows_led true n m before after = led true (row_under n (false, tt) before) (row_under n (true, tt) before) (row_under m (false, tt) after) (row_under m (true, tt) after)
rows_led false n m before after = led false (row_under n (false, tt) before) (row_under n (true, tt) before) (row_under m (false, tt) after) (row_under m (true, tt) after)

pub two_lawful : IsLawfulList one_leaf two_sites
two_lawful = record {
  site = record {
    leaves = λ a b. (λ e. refl, λ e. refl);
    sites = toy_lawful.sites;
    changed_none = λ g content. refl;
    changed_add = λ g h x i content. refl;
    touches_none = λ g. refl;
    touches_add = λ g h x i. refl;
    only_none = only_nothing;
    none_empty = refl;
  };
  keeps_whole = λ n s whole is fits. tt;
  writes_right = λ n s whole p is fits. rows_led p.0 n (then_in_force one_leaf two_sites n s) whole (two_sites.meaning s whole).1;
}

-- the headline over this list
pub law_of_two : ListLaw one_leaf two_sites
law_of_two = list_law one_leaf two_sites two_lawful
