-- What is said of each line of a batch holds of those of its parts.
use Rattle.std.proofs.Common.{◌≡◌, List, [], ◌∷◌, ◌++◌, length, take, ◌∙◌, subst, arith}
use Rattle.std.specs.List.{All}
use Rattle.std.proofs.lemmas.List.Elements.{All-take, All-tail}
use Rattle.std.proofs.Math.Seq.{take-length, take-append-le}
use Rattle.pm_model.specs.declared.line.Line.{Line}

module _ (P : Line → Type 0) where
  pub all_first : (xs ys : List Line) → All P (xs ++ ys) → All P xs
  all_first xs ys all =
      let same : take (length xs) (xs ++ ys) ≡ xs = take-append-le (length xs) xs ys (omega arith) ∙ take-length xs in
      subst (All P) same (All-take P (length xs) (xs ++ ys) all)

  pub all_second : (xs ys : List Line) → All P (xs ++ ys) → All P ys
  all_second [] ys all = all
  all_second (x ∷ xs) ys all = all_second xs ys (All-tail P x (xs ++ ys) all)
