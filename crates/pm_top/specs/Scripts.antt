-- How the lines of a script are taken one by one.
use Rattle.std.specs.Prelude.{◌≡◌, ℕ, ◌+◌, ◌≤◌, ◌<◌, List, [], ◌++◌, length, Bool, not, ◌&&◌, ◌||◌, nat_lt}
use Rattle.std.specs.List.{All}
use Rattle.pm_types.specs.declared.limits.TheConstants.{SCRIPT_BYTES_MAX, LINES_MAX, BATCH_LINES_MAX}
use Rattle.pm_script.specs.Lines.{first_line}
use Rattle.pm_top.specs.Limits.{after_lines}
use Rattle.pm_top.specs.Served.{line_of, script_of}
use Rattle.pm_script.specs.Reading.{Unread, has_next, TakesLine, IsAtEnd, IsOver, CountsLine}
use Rattle.pm_model.specs.declared.line.Line.{Line}
use Rattle.pm_model.specs.Batches.{HasCache}
use Rattle.pm_top.specs.declared.batch.Batch.{Batch}
use Rattle.pm_top.specs.declared.batch.Continuation.{Continuation}
use Rattle.pm_top.specs.declared.batch.Continuation.TheVariants as then_comes
use Rattle.pm_top.specs.declared.script.NextLine.{NextLine}
use Rattle.pm_top.specs.declared.script.NextLine.TheVariants as next

-- the first line was taken, and says this
pub record ReadsLine (old new : Unread) (rest now_rest : List ℕ) (line : Line) : Type 0 where
  pub takes : TakesLine old new rest now_rest
  pub says : line ≡ line_of (first_line rest)

-- how a script goes on
abbrev pub GivesNextLine : Unread → Unread → List ℕ → List ℕ → NextLine → Type 0
GivesNextLine old new rest now_rest (next.Line line) = ReadsLine old new rest now_rest line
GivesNextLine old new rest now_rest next.End = IsAtEnd old new rest now_rest
GivesNextLine old new rest now_rest next.Over = IsOver old rest

-- a line that was taken is counted
abbrev pub CountsNextLine : Unread → Unread → NextLine → Type 0
CountsNextLine old new (next.Line line) = CountsLine old new
CountsNextLine old new next.End = Unit {0}
CountsNextLine old new next.Over = Unit {0}

-- a line that was taken names no cache that isn't there
abbrev pub NextLineHasCache : NextLine → Type 0
NextLineHasCache (next.Line line) = HasCache line
NextLineHasCache next.End = Unit {0}
NextLineHasCache next.Over = Unit {0}

-- the lines of a batch: those that are done together, and one that is a batch by itself
abbrev pub batch_lines : Batch → List Line
batch_lines batch = batch.lines.items ++ batch.alone.items

-- A batch is no longer than it may be. Where more lines are left it has one at least.
pub record IsBatch (batch : Batch) : Type 0 where
  pub few : length batch.lines.items ≤ BATCH_LINES_MAX
  pub one : length batch.alone.items ≤ 1
  pub some : batch.continuation ≡ then_comes.More → 0 < length (batch_lines batch)
  pub caches : All HasCache batch.lines.items
  pub alone_caches : All HasCache batch.alone.items

-- Whether a batch of so many lines takes one more: it isn't full, and the next item is in hand, or
-- the last read gave all that it was asked for.
abbrev pub takes_more : ℕ → Unread → Bool
takes_more count input = nat_lt count BATCH_LINES_MAX && (not input.is_short || has_next input)

-- the first lines of a script were taken off it
pub record LinesAreTaken (old now : Unread) (rest left : List ℕ) (lines : List Line) : Type 0 where
  pub script : script_of rest ≡ lines ++ script_of left
  pub place : left ≡ after_lines (length lines) rest
  pub bytes : now.bytes + length left ≡ old.bytes + length rest
  pub few_bytes : old.bytes ≤ SCRIPT_BYTES_MAX → now.bytes ≤ SCRIPT_BYTES_MAX
  pub count : now.lines ≡ old.lines + length lines

-- How the script goes on after a batch: with what the reader has now, or it ends, or with a line
-- that isn't ended within the limits.
abbrev pub ContinuationIs : Continuation → Unread → Unread → List ℕ → List ℕ → Type 0
ContinuationIs then_comes.More at new left now_rest = (at ≡ new) × (left ≡ now_rest)
ContinuationIs then_comes.End at new left now_rest = (left ≡ []) × (now_rest ≡ [])
ContinuationIs then_comes.Over at new left now_rest = IsOver at left

-- the lines of a batch were taken off the script
pub record BatchIsTaken (old new : Unread) (rest now_rest : List ℕ) (batch : Batch) : Type 0 where
  pub at : Unread
  pub left : List ℕ
  pub taken : LinesAreTaken old at rest left (batch_lines batch)
  pub continues : ContinuationIs batch.continuation at new left now_rest

-- so many lines were counted
pub record CountsLines (continuation : Continuation) (old new : Unread) (count : ℕ) : Type 0 where
  pub few : old.lines ≤ LINES_MAX → old.lines + count ≤ LINES_MAX
  pub lines : continuation ≡ then_comes.More → new.lines ≡ old.lines + count
