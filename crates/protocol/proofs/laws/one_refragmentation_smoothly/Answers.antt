use Rattle.std.proofs.Common.{refl, true, List, [], ◌∷◌, map}
use Rattle.std.specs.List.{AllByRecursion}
use Rattle.protocol.specs.Fitting.{Suits}
use Rattle.protocol.specs.WithoutRefusal.{IsHoused}
use Rattle.protocol.specs.TwoSplits.{two_splits}
use Rattle.protocol.proofs.OneRun.{at_sites}
use Rattle.protocol.proofs.WithoutRefusal.{smooth_law}
use Rattle.protocol.proofs.ToyLaws.{toy_once}
use Rattle.protocol.proofs.SplitRuns.{splits_lawful}
use Rattle.protocol.proofs.laws.one_refragmentation_smoothly.Goals as goal

suits : (xs : List (two_splits.Leaf × two_splits.Write)) → AllByRecursion (Suits two_splits (λ leaf content. true)) xs
suits [] = tt
suits (x ∷ xs) = (λ content fits. refl, suits xs)

housed : IsHoused two_splits 1 (λ leaf content. true)
housed = record {
  fetched = λ s is. at_sites (map (λ f. f.0) (two_splits.fetches s));
  written = λ s whole is fits tag. at_sites (map (λ x. x.0) (two_splits.writes whole (two_splits.meaning s whole).1));
  suits = λ s whole is fits tag version low. suits (two_splits.writes whole (two_splits.meaning s whole).1);
  contents = λ whole is version leaf. refl;
  rows = λ statement tag leaf query content fits. refl;
}

pub returns : goal.returns
returns c = smooth_law splits_lawful toy_once 1 (λ leaf content. true) housed
