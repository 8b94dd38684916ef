use Rattle.std.proofs.Common.{refl, true, List, [], ◌∷◌}
use Rattle.std.specs.List.{AllByRecursion}
use Rattle.protocol.specs.Fitting.{Suits}
use Rattle.protocol.specs.WithoutRefusal.{IsHoused}
use Rattle.protocol.specs.Toy.{toy}
use Rattle.protocol.proofs.OneRun.{at_sites}
use Rattle.protocol.proofs.WithoutRefusal.{smooth_law}
use Rattle.protocol.proofs.ToyLaws.{toy_lawful, toy_once}
use Rattle.protocol.proofs.laws.one_client_smoothly.Goals as goal

suits : (xs : List (toy.Leaf × toy.Write)) → AllByRecursion (Suits toy (λ leaf content. true)) xs
suits [] = tt
suits (x ∷ xs) = (λ content fits. refl, suits xs)

housed : IsHoused toy 1 (λ leaf content. true)
housed = record {
  fetched = λ s is. at_sites _;
  written = λ s whole is fits tag. at_sites _;
  suits = λ s whole is fits tag version low. suits _;
  contents = λ whole is version leaf. refl;
  rows = λ statement tag leaf query content fits. refl;
}

pub returns : goal.returns
returns c = smooth_law toy_lawful toy_once 1 (λ leaf content. true) housed
