-- In which order the accepted lines of a script may be logged, where each partition's lines are
-- served by themselves.
use Rattle.std.specs.Prelude.{◌≡◌, ℕ, ◌+◌, ◌-◌, ◌<◌, ◌==◌, nat_lt, List, [], ◌∷◌, ◌++◌, filter, take}
use Rattle.std.specs.Prelude.{Bool, true, false, unwrap_or, slice_get, if◌then◌else◌}
use Rattle.std.specs.List.{All, AllPairs, Contains}
use Rattle.std.specs.FinMap as map
use Rattle.pm_types.specs.declared.shape.Shape.{Shape}
use Rattle.pm_types.specs.declared.limits.TheConstants.{BATCH_LINES_MAX}
use Rattle.pm_model.specs.declared.line.Cmd.TheVariants.{Put, Get, Remove, Scan, Checkpoint}
use Rattle.pm_model.specs.declared.line.Line.{Line}
use Rattle.pm_model.specs.declared.line.Line.TheVariants.{Good, Bad, Long}
use Rattle.pm_model.specs.declared.reply.Reply.{Reply}
use Rattle.pm_model.specs.Eval.{Pairs, is_of_part, reply_to, after, is_accepted, accepted}
use Rattle.pm_model.specs.Partitions.{part_of}

-- of lines that are numbered from here on, the one with this number
abbrev pub line_at : ℕ → List Line → ℕ → Line
line_at from lines number = unwrap_or (slice_get lines (number - from)) Bad

-- the map after the lines with these numbers, one after the other
abbrev pub after_numbers : Shape → List ℕ → ℕ → List Line → Pairs → Pairs
after_numbers shape [] from lines pairs = pairs
after_numbers shape (number ∷ numbers) from lines pairs =
    after_numbers shape numbers from lines (after shape (line_at from lines number) pairs)

-- the partition of a line's key; lines without a key have the number after those of the partitions
abbrev pub part_of_line : Shape → Line → ℕ
part_of_line shape (Good (Put cache key value)) = part_of key shape.partitions
part_of_line shape (Good (Get cache key)) = part_of key shape.partitions
part_of_line shape (Good (Remove cache key)) = part_of key shape.partitions
part_of_line shape (Good (Scan cache)) = shape.partitions
part_of_line shape (Good Checkpoint) = shape.partitions
part_of_line shape Bad = shape.partitions
part_of_line shape Long = shape.partitions

-- the numbers among these whose lines are of this partition
abbrev pub numbers_of : Shape → ℕ → ℕ → List Line → List ℕ → List ℕ
numbers_of shape part from lines numbers =
    filter (λ number. part_of_line shape (line_at from lines number) == part) numbers

-- the first list is a prefix of the second
abbrev pub IsPrefix : List ℕ → List ℕ → Type 0
IsPrefix first all = (rest : List ℕ) × (all ≡ first ++ rest)

-- whether no line may pass this one: all lines before it are done before it, and all others after it
abbrev pub is_barrier : Line → Bool
is_barrier (Good (Put cache key value)) = false
is_barrier (Good (Get cache key)) = false
is_barrier (Good (Remove cache key)) = false
is_barrier (Good (Scan cache)) = true
is_barrier (Good Checkpoint) = true
is_barrier Bad = false
is_barrier Long = false

-- a later line may be logged before an earlier one: both can stand in one batch
pub record MayPass (from : ℕ) (lines : List Line) (later earlier : ℕ) : Type 0 where
  pub near : later < earlier + BATCH_LINES_MAX
  pub free : (number : ℕ) → earlier < number → number < later → is_barrier (line_at from lines number) ≡ false

-- The numbers are an order of the accepted ones among lines that are numbered from here on: of each
-- partition they are a prefix of its accepted lines, as the script has them, and a line stands
-- before an earlier one only where it may pass it.
pub record IsOrderOf (shape : Shape) (from : ℕ) (lines : List Line) (pairs : Pairs)
    (order : List ℕ) : Type 0 where
  pub parts : (part : ℕ)
      → IsPrefix (numbers_of shape part from lines order)
      (numbers_of shape part from lines (accepted shape from lines pairs))
  pub passes : AllPairs (λ a b. b < a → MayPass from lines a b) order

-- the order has each accepted line of the first `count` lines
abbrev pub HasAccepted : Shape → ℕ → List Line → Pairs → ℕ → List ℕ → Type 0
HasAccepted shape from lines pairs count order =
    All (Contains order) (accepted shape from (take count lines) pairs)

-- an order that has each accepted line of the first `count` lines, and of the others none but among
-- the next `more`
pub record HasTried (shape : Shape) (from : ℕ) (lines : List Line) (pairs : Pairs) (count more : ℕ)
    (order : List ℕ) : Type 0 where
  pub is_order : IsOrderOf shape from lines pairs order
  pub has : HasAccepted shape from lines pairs count order
  pub within : All (λ number. number < from + count + more) order

-- each of the lines with these numbers is accepted where it stands: applied in this order, no put
-- meets a full partition, and no remove a key that isn't there
abbrev pub AreAccepted : Shape → List ℕ → ℕ → List Line → Pairs → Type 0
AreAccepted shape [] from lines pairs = Unit {0}
AreAccepted shape (number ∷ numbers) from lines pairs =
    (is_accepted shape (line_at from lines number) pairs ≡ true)
    × AreAccepted shape numbers from lines (after shape (line_at from lines number) pairs)

-- the rows of a partition, as a map
abbrev pub part_rows : Shape → ℕ → Pairs → Pairs
part_rows shape part pairs = map.retain_keys pairs (is_of_part shape.partitions part)

-- the numbers below this one, in their order
abbrev pub below : ℕ → List ℕ → List ℕ
below limit numbers = filter (λ number. nat_lt number limit) numbers

-- the lines of a partition
abbrev pub lines_of : Shape → ℕ → List Line → List Line
lines_of shape part lines = filter (λ line. part_of_line shape line == part) lines

-- The reply to the line with this number by itself: a scan's or a checkpoint's by the map that the
-- lower numbers of the order leave, and each other one's by the rows of its partition, after those
-- lower numbers that are of this partition.
abbrev pub reply_in : Shape → ℕ → List Line → Pairs → List ℕ → ℕ → Line → Reply
reply_in shape from lines pairs order number line =
    let part = part_of_line shape line in
    reply_to shape line
    (if is_barrier line
    then after_numbers shape (below number order) from lines pairs
    else after_numbers shape (below number (numbers_of shape part from lines order)) from lines
    (part_rows shape part pairs))

-- the replies to some of the lines, of which the first has this number, each by itself
abbrev pub replies_in : Shape → ℕ → List Line → Pairs → List ℕ → ℕ → List Line → List Reply
replies_in shape from lines pairs order number [] = []
replies_in shape from lines pairs order number (line ∷ others) =
    reply_in shape from lines pairs order number line ∷ replies_in shape from lines pairs order
    (number + 1) others
