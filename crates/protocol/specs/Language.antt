-- A language of statements over leaves at sites: all that the commit protocol knows of a database.
use Rattle.std.specs.Prelude.{◌≡◌, ℕ, suc, ◌==◌, ◌&&◌, Bool, true, false, List, [], ◌∷◌, ◌↔◌, if◌then◌else◌}

-- the name of a transaction, or of a ticket at its site: an incarnation and a number in it
pub record Name : Type 0 where
  pub life : ℕ
  pub number : ℕ

-- whether two names are the same
abbrev pub same : Name → Name → Bool
same a b = (a.life == b.life) && (a.number == b.number)

-- a function with another value at one place
abbrev pub put : {A B : Type 0} → (A → A → Bool) → A → B → (A → B) → A → B
put is k v f j = if is j k then v else f j

-- a language: its types, and what the protocol asks of them
pub record Lang : Type 1 where
  pub Leaf : Type 0
  pub Site : Type 0
  pub Statement : Type 0
  pub Answer : Type 0
  pub Whole : Type 0
  pub Content : Type 0
  pub Query : Type 0
  pub Rows : Type 0
  pub Write : Type 0
  pub Intentions : Type 0
  pub same_leaf : Leaf → Leaf → Bool
  pub same_site : Site → Site → Bool
  -- the sites in the catalogue's order, and the site of a leaf
  pub sites : List Site
  pub home : Leaf → Site
  -- what a write makes of its leaf's content, and what a query brings of one
  pub put_in : Write → Content → Content
  pub parts : Query → Content → Rows
  -- whether the rows fit the columns that the leaf has for the statement, and their keys ascend
  pub well_formed : Statement → Leaf → Rows → Bool
  -- intentions: none, one more, whether they are none, those of a leaf, what they make of a leaf's content
  pub none : Intentions
  pub add : Leaf → Write → Intentions → Intentions
  pub is_empty : Intentions → Bool
  pub touches : Leaf → Intentions → Bool
  pub changed : Leaf → Intentions → Content → Content
  -- whether one more write would go past the limit of intentions
  pub is_full : Leaf → Write → Intentions → Bool
  -- what a statement over these relations is, and what a whole database of them is
  pub IsStatement : Statement → Type 0
  pub IsWhole : Whole → Type 0
  -- the number of the catalogue that a statement was made for, and of the one in force over a whole database; whether a statement brings the next one into force
  pub tag : Statement → ℕ
  pub version : Whole → ℕ
  pub raises : Statement → Bool
  -- the serial meaning of a statement, the content of a leaf, what a statement reads, the writes that lead from one whole database to another
  pub meaning : Statement → Whole → Answer × Whole
  pub content : Leaf → Whole → Content
  pub fetches : Statement → List (Leaf × Query)
  pub writes : Whole → Whole → List (Leaf × Write)

-- a leaf's content after the writes of a list
abbrev pub written : (L : Lang) → L.Leaf → List (L.Leaf × L.Write) → L.Content → L.Content
written L g [] content = content
written L g (w ∷ ws) content = written L g ws (if L.same_leaf w.0 g then L.put_in w.1 content else content)

-- what holds of every lawful language
pub record IsLawful (L : Lang) : Type 0 where
  pub leaves : (a b : L.Leaf) → (L.same_leaf a b ≡ true) ↔ (a ≡ b)
  pub sites : (a b : L.Site) → (L.same_site a b ≡ true) ↔ (a ≡ b)
  -- intentions change and touch exactly the leaves of their writes, the last write last
  pub changed_none : (g : L.Leaf) (content : L.Content) → L.changed g L.none content ≡ content
  pub changed_add : (g h : L.Leaf) (x : L.Write) (i : L.Intentions) (content : L.Content) → L.changed g (L.add h x i) content ≡ (if L.same_leaf h g then L.put_in x (L.changed g i content) else L.changed g i content)
  pub touches_none : (g : L.Leaf) → L.touches g L.none ≡ false
  pub touches_add : (g h : L.Leaf) (x : L.Write) (i : L.Intentions) → L.touches g (L.add h x i) ≡ (if L.same_leaf h g then true else L.touches g i)
  pub empty_touches : (g : L.Leaf) (i : L.Intentions) → L.is_empty i ≡ true → L.touches g i ≡ false
  -- a statement for the catalogue in force makes a whole database of a whole database, and its writes lead from the contents before to the contents after
  pub keeps_whole : (s : L.Statement) (whole : L.Whole) → L.IsStatement s → L.IsWhole whole → L.tag s ≡ L.version whole → L.IsWhole (L.meaning s whole).1
  pub writes_right : (s : L.Statement) (whole : L.Whole) (g : L.Leaf) → L.IsStatement s → L.IsWhole whole → L.tag s ≡ L.version whole → written L g (L.writes whole (L.meaning s whole).1) (L.content g whole) ≡ L.content g (L.meaning s whole).1
  -- the catalogue in force changes by the statements that bring the next one, and by no other
  pub counts : (s : L.Statement) (whole : L.Whole) → L.IsStatement s → L.IsWhole whole → L.tag s ≡ L.version whole → L.version (L.meaning s whole).1 ≡ (if L.raises s then suc (L.version whole) else L.version whole)
