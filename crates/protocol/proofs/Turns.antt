-- The kinds of turns of the coordinator: each keeps what the invariant asks.
use Rattle.std.proofs.Common.{◌≡◌, refl, sym, ◌∙◌, subst, false, List, [], ◌∷◌, inl, inr, Option, Some, None}
use Rattle.std.specs.List.{cons_option}
use Rattle.std.specs.Option.{option_map}
use Rattle.protocol.specs.Language.{Lang, Name, same}
use Rattle.protocol.specs.Letter.{Body, Letter, letters_to}
use Rattle.protocol.specs.Desk.{Undecided, Txn, Unknown, Known, Row, Deed, Desk, desk_after}
use Rattle.protocol.specs.World.{World}
use Rattle.protocol.specs.Serial.{is_committed}
use Rattle.protocol.proofs.Basics.{Every, In, put_here, clash, same_law}
use Rattle.protocol.proofs.Fits.{Und, IsCommitted, KnownAt, Fit}
use Rattle.protocol.proofs.DeskFits.{Grows, grows_same, TurnFine}

module _ {L : Lang} where
  pub known_is : (u v : Undecided L) → Known u ≡ Known v → u ≡ v
  known_is u v e = cc

  pub und_put : (d : Desk L) (t : Name) (x : Txn L) (P : Undecided L → Type 0) → ((v : Undecided L) → x ≡ Known v → P v) → Und (desk_after d t x) t P
  und_put d t x P to v e = to v (sym (put_here same same_law t x d.txn) ∙ e)

  module _ (o : L.Site → Name → Name) (w : World L) (t : Name) (fit : Fit o w) where
    -- the transaction stays as it was
    pub still_fine : (x : Txn L) (letters : List (Letter L)) → w.desk.txn t ≡ x → TurnFine o w t (record { txn = x; letters = letters; deeds = [] })
    still_fine x letters e = record {
      grows = λ v f. (v, e ∙ f, grows_same v);
      known = λ v f. fit.known t v (e ∙ f);
      rows = λ vs acked f. let r = fit.rows t vs acked (e ∙ f) in (inl r.0, r.1, r.2);
      only = λ j other. refl;
      commits = λ done. cc;
      keeps = λ vs acked f a k i here row. (acked, sym e ∙ f);
    }

    -- an undecided transaction goes on
    pub goes_fine : (u v : Undecided L) (letters : List (Letter L)) (deeds : List (Deed L)) → w.desk.txn t ≡ Known u → Grows u v → KnownAt o w.sites w.letters t v → ((j : Name) → is_committed deeds j ≡ false) →
        TurnFine o w t (record { txn = Known v; letters = letters; deeds = deeds })
    goes_fine u v letters deeds e grows known none = record {
      grows = λ x f. (u, e, subst (Grows u) (known_is v x f) grows);
      known = λ x f. subst (KnownAt o w.sites w.letters t) (known_is v x f) known;
      rows = λ vs acked f. cc;
      only = λ j other. none j;
      commits = λ done. clash done (none t);
      keeps = λ vs acked f. let g : Known u ≡ Row vs acked = sym e ∙ f in cc;
    }

    -- an undecided transaction aborts
    pub ends_fine : (u : Undecided L) (letters : List (Letter L)) (deeds : List (Deed L)) → w.desk.txn t ≡ Known u → ((j : Name) → is_committed deeds j ≡ false) →
        TurnFine o w t (record { txn = Unknown; letters = letters; deeds = deeds })
    ends_fine u letters deeds e none = record {
      grows = λ x f. cc;
      known = λ x f. cc;
      rows = λ vs acked f. cc;
      only = λ j other. none j;
      commits = λ done. clash done (none t);
      keeps = λ vs acked f. let g : Known u ≡ Row vs acked = sym e ∙ f in cc;
    }

    pub not_yet : (u : Undecided L) → w.desk.txn t ≡ Known u → IsCommitted w.past t → ⊥
    not_yet u e done = (fit.committed t done).1 u e

  -- a letter for each site of which something is said
  pub every_letter : (P : Letter L → Type 0) (t : Name) (says : L.Site → Option (Body L)) (sites : List L.Site) →
      ((a : L.Site) (b : Body L) → In a sites → says a ≡ Some b → P (record { site = a; txn = t; body = b })) → Every P (letters_to t says sites)
  every_letter P t says [] all = tt
  every_letter P t says (a ∷ sites) all = go (says a) refl (every_letter P t says sites (λ b body here. all b body (inr here)))
    where
      go : (b : Option (Body L)) → says a ≡ b → Every P (letters_to t says sites) → Every P (cons_option (option_map (λ (body : Body L). record { site = a; txn = t; body = body }) b) (letters_to t says sites))
      go None e rest = rest
      go (Some b) e rest = (all a b (inl refl) e, rest)
