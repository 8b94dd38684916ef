-- Letters between the coordinator and the sites.
use Rattle.std.specs.Prelude.{ℕ, Bool, true, false, List, Option}
use Rattle.std.specs.List.{filter_map}
use Rattle.std.specs.Option.{option_map}
use Rattle.protocol.specs.Language.{Lang, Name}

-- what a site says to a prepare: it is prepared, it can't commit, or it changed nothing
pub data Vote : Type 0 where
  Yes No Read : Vote

-- why a site refused an operation
pub data Reason : Type 0 where
  Lock Full Gone : Reason

-- what a letter says; all but Open and the inquiries name a visit by its ticket
pub data Body (L : Lang) : Type 0 where
  -- from the coordinator
  Open : Body L
  Fetch : (ticket : Name) (op : ℕ) (leaf : L.Leaf) (query : L.Query) → Body L
  Write : (ticket : Name) (op : ℕ) (leaf : L.Leaf) (write : L.Write) → Body L
  Prepare : (ticket : Name) (count : ℕ) → Body L
  Commit : (ticket : Name) → Body L
  Abort : (ticket : Name) → Body L
  -- from a site
  Ticket : (ticket : Name) → Body L
  Rows : (ticket : Name) (op : ℕ) (rows : L.Rows) → Body L
  Refused : (ticket : Name) (reason : Reason) → Body L
  Voted : (ticket : Name) (vote : Vote) → Body L
  Ack : (ticket : Name) → Body L
  Inquire : (ticket : Name) → Body L

-- a letter to or from a site, about a transaction
pub record Letter (L : Lang) : Type 0 where
  pub site : L.Site
  pub txn : Name
  pub body : Body L

module _ {L : Lang} where
  -- whether the coordinator takes the letter, and not its site
  abbrev pub is_for_desk : Body L → Bool
  is_for_desk (Ticket k) = true
  is_for_desk (Rows k op rows) = true
  is_for_desk (Refused k reason) = true
  is_for_desk (Voted k vote) = true
  is_for_desk (Ack k) = true
  is_for_desk (Inquire k) = true
  is_for_desk _ = false

  -- a letter of the transaction at each site, in their order, to or from which something is to be said
  abbrev pub letters_to : Name → (L.Site → Option (Body L)) → List L.Site → List (Letter L)
  letters_to t says sites = filter_map (λ a. option_map (λ body. record { site = a; txn = t; body = body }) (says a)) sites
