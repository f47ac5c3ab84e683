-- A run over lines is a run over the first of them, and then over the others from the map that those left.
use Rattle.std.proofs.Common.{◌≡◌, ℕ, suc, ◌+◌, Bool, true, false, not, List, [], ◌∷◌, ◌++◌, length, cond, refl, ap, ◌∙◌, arith}
use Rattle.pm_types.specs.declared.shape.Shape.{Shape}
use Rattle.std.specs.FinMap.{insert}
use Rattle.pm_model.specs.declared.line.Cmd.TheVariants.{Put, Get, Remove, Scan, Checkpoint}
use Rattle.pm_model.specs.declared.line.Line.{Line}
use Rattle.pm_model.specs.declared.line.Line.TheVariants.{Good, Bad, Long}
use Rattle.pm_model.proofs.CacheKeys.{remove-absent}
use Rattle.pm_model.specs.Eval.{Pairs, cache_key, is_full, reply_to, after, is_accepted, replies_to, after_all, accepted}

-- the replies
pub replies_to-append : (shape : Shape) (first others : List Line) (pairs : Pairs) → replies_to shape (first ++ others) pairs ≡ replies_to shape first pairs ++ replies_to shape others (after_all shape first pairs)
replies_to-append shape [] others pairs = refl
replies_to-append shape (line ∷ first) others pairs = ap (λ r. reply_to shape line pairs ∷ r) (replies_to-append shape first others (after shape line pairs))

-- the map
pub after_all-append : (shape : Shape) (first others : List Line) (pairs : Pairs) → after_all shape (first ++ others) pairs ≡ after_all shape others (after_all shape first pairs)
after_all-append shape [] others pairs = refl
after_all-append shape (line ∷ first) others pairs = after_all-append shape first others (after shape line pairs)

-- each line has a reply
pub length-replies_to : (shape : Shape) (lines : List Line) (pairs : Pairs) → length (replies_to shape lines pairs) ≡ length lines
length-replies_to shape [] pairs = refl
length-replies_to shape (line ∷ lines) pairs = ap suc (length-replies_to shape lines (after shape line pairs))

-- one line more in front, accepted or not
accepted_cond : (t : Bool) (number : ℕ) (whole first others others' : List ℕ) → whole ≡ first ++ others → others ≡ others' → cond t (number ∷ whole) whole ≡ cond t (number ∷ first) first ++ others'
accepted_cond true number whole first others others' so_far same = ap (λ r. number ∷ r) (so_far ∙ ap (λ o. first ++ o) same)
accepted_cond false number whole first others others' so_far same = so_far ∙ ap (λ o. first ++ o) same

-- the numbers of the accepted lines
pub accepted-append : (shape : Shape) (number : ℕ) (first others : List Line) (pairs : Pairs) → accepted shape number (first ++ others) pairs ≡ accepted shape number first pairs ++ accepted shape (number + length first) others (after_all shape first pairs)
accepted-append shape number [] others pairs = ap (λ n. accepted shape n others pairs) (omega arith)
accepted-append shape number (line ∷ first) others pairs =
    let left = after_all shape first (after shape line pairs) in
    let count : number + 1 + length first ≡ number + length (line ∷ first) = omega arith in
    accepted_cond (is_accepted shape line pairs) number (accepted shape (number + 1) (first ++ others) (after shape line pairs)) (accepted shape (number + 1) first (after shape line pairs)) (accepted shape (number + 1 + length first) others left) (accepted shape (number + length (line ∷ first)) others left) (accepted-append shape (number + 1) first others (after shape line pairs)) (ap (λ n. accepted shape n others left) count)

-- what a put or a remove leaves, where it isn't accepted
put_refused : (full : Bool) (pairs put : Pairs) → not full ≡ false → cond full pairs put ≡ pairs
put_refused true pairs put refused = refl
put_refused false pairs put refused = absurd cc

-- a line that isn't accepted leaves the map as it is
pub after-not_accepted : (shape : Shape) (line : Line) (pairs : Pairs) → is_accepted shape line pairs ≡ false → after shape line pairs ≡ pairs
after-not_accepted shape (Good (Put cache key value)) pairs refused = put_refused (is_full shape (cache_key cache key) pairs) pairs (insert pairs (cache_key cache key) value) refused
after-not_accepted shape (Good (Get cache key)) pairs refused = refl
after-not_accepted shape (Good (Remove cache key)) pairs refused = remove-absent pairs (cache_key cache key) refused
after-not_accepted shape (Good (Scan cache)) pairs refused = refl
after-not_accepted shape (Good Checkpoint) pairs refused = refl
after-not_accepted shape Bad pairs refused = refl
after-not_accepted shape Long pairs refused = refl
