-- What is read of participants site by site, and the letters to their sites.
use Rattle.std.proofs.Common.{◌≡◌, refl, sym, ap, ◌∙◌, subst, ℕ, nat_eq, Bool, true, false, List, [], ◌∷◌, map, Option, Some, None, if◌then◌else◌, inl, inr, ⊎_elim}
use Rattle.std.specs.Cmp.Lexicographic.{pointwise}
use Rattle.std.specs.List.{AllByRecursion, cons_option, filter_map}
use Rattle.std.specs.Option.{option_map}
use Rattle.std.proofs.lemmas.Slice.Eq.{bytes_eq-Decides}
use Rattle.reader.specs.Printable.{AreDistinct}
use Rattle.store.specs.declared.letter.Letter.{Letter}
use Rattle.store.specs.declared.name.Txn.{Txn}
use Rattle.store.specs.declared.order.Order.{Order}
use Rattle.protocol.specs.Catalogues.{body_at}
use Rattle.protocol.specs.Letter as protocol
use Rattle.protocol.specs.Letters.{order_body, txn_name}
use Rattle.protocol.specs.Local.{local}
use Rattle.protocol.specs.Parts.{In}
use Rattle.protocol.proofs.Basics.{if_true}
use Rattle.desk.specs.declared.send.Broadcast.{Broadcast}
use Rattle.desk.specs.declared.participant.Participant.{Participant}
use Rattle.desk.specs.Database.{Database, language, sent, statements}
use Rattle.desk.specs.Orders.{broadcast_letters, order_at, ordered}
use Rattle.desk.specs.Participants.{is_at, sites_of, participant_in}

pub text_is : (a b : List ℕ) → pointwise nat_eq a b ≡ true → a ≡ b
text_is a b e = (bytes_eq-Decides a b).0 e

pub text_self : (a : List ℕ) → pointwise nat_eq a a ≡ true
text_self a = (bytes_eq-Decides a a).1 refl

-- ---- each participant is that of its site
no_site : (participant : Participant) (participants : List Participant) (site : List ℕ) → AllByRecursion (λ other. (site ≡ other) → ⊥) (sites_of participants) → In participant participants → site ≡ participant.site → ⊥
no_site participant [] site all at e = absurd at
no_site participant (s ∷ participants) site all at e = ⊎_elim (λ here. all.0 (e ∙ ap (λ x. x.site) here)) (λ further. no_site participant participants site all.1 further e) at

pub at_home : (participants : List Participant) → AreDistinct (sites_of participants) → (participant : Participant) → In participant participants → participant_in participant.site participants ≡ participant
at_home [] apart participant at = absurd at
at_home (s ∷ participants) apart participant at = ⊎_elim
    (λ here. if_true (is_at participant.site s) s (participant_in participant.site participants) (subst (λ x. is_at participant.site x ≡ true) here (text_self participant.site)) ∙ sym here)
    (λ further. go (is_at participant.site s) refl further (at_home participants apart.1 participant further))
    at
  where
    go : (b : Bool) → is_at participant.site s ≡ b → In participant participants → participant_in participant.site participants ≡ participant → (if b then s else participant_in participant.site participants) ≡ participant
    go true e further rest = absurd (no_site participant participants s.site apart.0 further (text_is s.site participant.site e))
    go false e further rest = rest

-- ---- the letters to the sites
-- what an order to a site says
abbrev pub said : (db : Database) → List ℕ → Order → protocol.Body (language db)
said db site order = body_at local (statements db) site (order_body order)

pub orders_all : (db : Database) (txn : Txn) (order : Participant → Option Order) (says : List ℕ → Option (protocol.Body (language db))) (participants : List Participant) →
    ((participant : Participant) → In participant participants → says participant.site ≡ option_map (said db participant.site) (order participant)) → map (sent db) (filter_map (λ participant. option_map (ordered txn participant.site) (order participant)) participants) ≡ protocol.letters_to {L = language db} (txn_name txn) says (sites_of participants)
orders_all db txn order says [] each = refl
orders_all db txn order says (participant ∷ participants) each = go (order participant) (each participant (inl refl)) _ _ (orders_all db txn order says participants (λ s at. each s (inr at)))
  where
    letter : protocol.Body (language db) → protocol.Letter (language db)
    letter body = record { site = participant.site; txn = txn_name txn; body = body }

    go : (o : Option Order) → says participant.site ≡ option_map (said db participant.site) o → (left : List Letter) (right : List (protocol.Letter (language db))) → map (sent db) left ≡ right →
        map (sent db) (cons_option (option_map (ordered txn participant.site) o) left) ≡ cons_option (option_map letter (says participant.site)) right
    go None e left right rest = rest ∙ ap (λ o. cons_option (option_map letter o) right) (sym e)
    go (Some order) e left right rest = ap (λ l. letter (said db participant.site order) ∷ l) rest ∙ ap (λ o. cons_option (option_map letter o) right) (sym e)

pub letters_all : (db : Database) (txn : Txn) (word : Broadcast) (says : List ℕ → Option (protocol.Body (language db))) (participants : List Participant) →
    ((participant : Participant) → In participant participants → says participant.site ≡ option_map (said db participant.site) (order_at word participant)) → map (sent db) (broadcast_letters txn word participants) ≡ protocol.letters_to {L = language db} (txn_name txn) says (sites_of participants)
letters_all db txn word says participants each = orders_all db txn (order_at word) says participants each
