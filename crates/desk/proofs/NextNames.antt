-- By one relation at most a catalogue is the next one, and the first of those that come next is.
use Rattle.std.proofs.Common.{◌≡◌, ◌≢◌, sym, ap, ◌∙◌, subst, ℕ, List, [], ◌∷◌, ◌++◌, Option}
use Rattle.catalog.specs.Catalogue.{Catalogue, SplitRelation}
use Rattle.catalog.specs.Chain.{IsNext}
use Rattle.catalog.specs.declared.relation.SplitRelation.{SplitRelation as Relation}
use Rattle.desk.specs.Database.{Database}
use Rattle.desk.specs.OfCatalogue.{AreNextOf, IsNextOf, first_in}

-- lists that differ in one place each differ in the same
same_place : (before others : List SplitRelation) (one other first second : SplitRelation) (after rest : List SplitRelation) →
    before ++ one ∷ after ≡ others ++ first ∷ rest → before ++ other ∷ after ≡ others ++ second ∷ rest → one.tree ≢ other.tree → first.tree ≢ second.tree → one ≡ first
same_place [] [] one other first second after rest are become apart differ = cc
same_place [] (x ∷ others) one other first second after rest are become apart differ = let a : one ≡ x = cc in let b : other ≡ x = cc in absurd (apart (ap (λ r. r.tree) (a ∙ sym b)))
same_place (x ∷ before) [] one other first second after rest are become apart differ = let a : x ≡ first = cc in let b : x ≡ second = cc in absurd (differ (ap (λ r. r.tree) (sym a ∙ b)))
same_place (x ∷ before) (y ∷ others) one other first second after rest are become apart differ =
    let a : before ++ one ∷ after ≡ others ++ first ∷ rest = cc in
    let b : before ++ other ∷ after ≡ others ++ second ∷ rest = cc in
    same_place before others one other first second after rest a b apart differ

pub one_name : (catalogue next : Catalogue) (name relation : List ℕ) → IsNext catalogue next name → IsNext catalogue next relation → name ≡ relation
one_name catalogue next name relation by with =
    let a = by.relations in
    let b = with.relations in
    let same = same_place a.before b.before a.one a.other b.one b.other a.after b.after (sym a.are ∙ b.are) (sym a.become ∙ b.become) a.split b.split in
    sym a.named ∙ ap (λ r. r.schema.name) same ∙ b.named

-- the first of those that come next comes next
pub first_next : (db : Database) (n : ℕ) (later : List (List (List ℕ) × List Relation)) (first : Option (List (List ℕ) × List Relation)) → first ≡ first_in later → AreNextOf db n later → IsNextOf db n first
first_next db n later first is next = subst (IsNextOf db n) (sym is) (go later next)
  where
    go : (later : List (List (List ℕ) × List Relation)) → AreNextOf db n later → IsNextOf db n (first_in later)
    go [] next = tt
    go (catalog ∷ rest) next = next.0
