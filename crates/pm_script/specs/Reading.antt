-- What is left of a script that is read in pieces, and what reading its next line does.
use Rattle.std.specs.Prelude.{◌≡◌, ◌⊎◌, ℕ, ◌+◌, ◌≤◌, ◌<◌, List, [], ◌∷◌, ◌++◌, take, drop, length, Bool}
use Rattle.std.specs.Prelude.{true, false, not, ◌||◌, Option, Some, None}
use Rattle.pm_types.specs.declared.limits.TheConstants.{SCRIPT_BYTES_MAX, LINES_MAX, LINE_MAX}
use Rattle.pm_disk.specs.Worlds.{World, with_taken}
use Rattle.pm_script.specs.declared.lines.TheConstants.{BUFFER}
use Rattle.pm_script.specs.declared.lines.ItemKind.{ItemKind}
use Rattle.pm_script.specs.declared.lines.ItemKind.TheVariants.{Text, Long, End, Over}
use Rattle.pm_script.specs.declared.item.Item.{Item}
use Rattle.pm_script.specs.declared.item.Item.TheVariants as item
use Rattle.pm_script.specs.Lines.{first_line, after_line, is_unbroken}

-- What a reader holds.
pub record Unread : Type 0 where
  -- what was read and belongs to no line yet
  pub pending : List ℕ
  -- the line that was read last, as far as it is kept
  pub line : List ℕ
  -- whether that line goes on
  pub is_open : Bool
  -- whether the last read gave fewer bytes than it was asked for; true before the first read
  pub is_short : Bool
  -- whether a read found the end of the input
  pub is_ended : Bool
  -- how many bytes the lines had so far, with their newlines
  pub bytes : ℕ
  -- how many lines there were so far
  pub lines : ℕ

-- How a reader's buffer is used.
pub record IsReader (buffer : List ℕ) (from to at end bytes lines : ℕ) : Type 0 where
  pub begins : from ≤ to
  pub ends : to ≤ at
  pub ordered : at ≤ end
  pub within : end ≤ length buffer
  pub room : length buffer ≡ BUFFER
  pub few_bytes : bytes ≤ SCRIPT_BYTES_MAX
  pub few_lines : lines ≤ LINES_MAX

-- what is left of a script: what was read and belongs to no line yet, and what the input still has
abbrev pub rest_of : Unread → World → List ℕ
rest_of unread world = unread.pending ++ world.input

-- whether the next item is in hand: a whole line, with its newline, was read already, or the end of
-- the input is known
abbrev pub has_next : Unread → Bool
has_next unread = unread.is_ended || not (is_unbroken unread.pending)

-- where a read found the end of the input, nothing of it is left
abbrev pub KnowsEnd : Unread → World → Type 0
KnowsEnd unread world = unread.is_ended ≡ true → world.input ≡ []

-- a line as far as it is kept while it goes on: one byte more than a line may have tells that it is long
abbrev pub cut : List ℕ → List ℕ
cut line = take (LINE_MAX + 1) line

-- nothing of the world changed but that input was taken
abbrev pub OnlyTakes : World → World → Type 0
OnlyTakes old new = (n : ℕ) × (new ≡ with_taken n old)

-- the first newline of the bytes, if they have one
abbrev pub FindsNewline : List ℕ → Option ℕ → Type 0
FindsNewline bytes None = is_unbroken bytes ≡ true
FindsNewline bytes (Some i) = (i < length bytes) × (is_unbroken (take i bytes) ≡ true)
    × (drop i bytes ≡ 10 ∷ drop (i + 1) bytes)

-- the line that goes on is kept, and nothing is counted
pub record KeepsLine (old new : Unread) : Type 0 where
  pub line : cut new.line ≡ cut old.line
  pub is_open : new.is_open ≡ true
  pub bytes : new.bytes ≡ old.bytes
  pub lines : new.lines ≡ old.lines

-- a read put the next bytes of the input at the front of these, none only at the input's end
pub record ReadsAfter (input now_input into : List ℕ) (count : ℕ) : Type 0 where
  pub front : take count into ++ now_input ≡ input
  pub end : count ≡ 0 → input ≡ []

-- a read gave the next bytes of the input, or it is at its end
abbrev pub FillsPending : List ℕ → List ℕ → List ℕ → Bool → Type 0
FillsPending input pending now_input true = pending ++ now_input ≡ input
FillsPending input pending now_input false = (input ≡ []) × (now_input ≡ []) × (pending ≡ [])

-- a part of a line was taken, with the newline after it
pub record TakesWhole (old new : Unread) (part : List ℕ) : Type 0 where
  pub pending : old.pending ≡ part ++ 10 ∷ new.pending
  pub unbroken : is_unbroken part ≡ true
  pub line : new.line ≡ old.line ++ part
  pub bytes : new.bytes ≡ old.bytes + (length part + 1)
  pub lines : new.lines ≡ old.lines + 1
  pub is_ended : new.is_ended ≡ old.is_ended

-- a part of a line that goes on was taken
pub record TakesSome (old new : Unread) (part : List ℕ) : Type 0 where
  pub pending : old.pending ≡ part ++ new.pending
  pub unbroken : is_unbroken part ≡ true
  pub some : 0 < length part
  pub line : new.line ≡ old.line ++ part
  pub bytes : new.bytes ≡ old.bytes + length part
  pub lines : new.lines ≡ old.lines
  pub is_open : new.is_open ≡ true
  pub is_ended : new.is_ended ≡ old.is_ended

-- a part of a line was taken: with the newline after it, or all that there is
abbrev pub TakesPart : Unread → Unread → Bool → Type 0
TakesPart old new true = (part : List ℕ) × TakesWhole old new part
TakesPart old new false = (part : List ℕ) × TakesSome old new part

-- one line was taken off the script
pub record TakesLine (old new : Unread) (rest now_rest : List ℕ) : Type 0 where
  pub some : 0 < length rest
  pub others : now_rest ≡ after_line rest
  pub bytes : new.bytes + length now_rest ≡ old.bytes + length rest
  pub few_bytes : new.bytes ≤ SCRIPT_BYTES_MAX
  pub lines : new.lines ≡ old.lines + 1
  pub few_lines : new.lines ≤ LINES_MAX

-- the first line was taken, and this is it
pub record GivesText (old new : Unread) (rest now_rest text : List ℕ) : Type 0 where
  pub takes : TakesLine old new rest now_rest
  pub first : text ≡ first_line rest
  pub short : length text ≤ LINE_MAX

-- the first line was taken, and it is long
pub record GivesLong (old new : Unread) (rest now_rest : List ℕ) : Type 0 where
  pub takes : TakesLine old new rest now_rest
  pub long : LINE_MAX < length (first_line rest)

-- no line is left
pub record IsAtEnd (old new : Unread) (rest now_rest : List ℕ) : Type 0 where
  pub none : rest ≡ []
  pub now_none : now_rest ≡ []
  pub bytes : new.bytes ≡ old.bytes
  pub lines : new.lines ≡ old.lines

-- a line is left, and it isn't ended within both limits of a script
pub record IsOver (unread : Unread) (rest : List ℕ) : Type 0 where
  pub some : 0 < length rest
  pub over : (unread.lines ≡ LINES_MAX)
      ⊎ (SCRIPT_BYTES_MAX + length (after_line rest) < unread.bytes + length rest)

-- what reading on found
abbrev pub FindsKind : Unread → Unread → List ℕ → List ℕ → ItemKind → Type 0
FindsKind old new rest now_rest Text = GivesText old new rest now_rest new.line
FindsKind old new rest now_rest Long = GivesLong old new rest now_rest
FindsKind old new rest now_rest End = IsAtEnd old new rest now_rest
FindsKind old new rest now_rest Over = IsOver old rest × IsOver new now_rest

-- one line more is counted, and there were not too many
pub record CountsLine (old new : Unread) : Type 0 where
  pub lines : new.lines ≡ old.lines + 1
  pub few_lines : new.lines ≤ LINES_MAX

-- a line that was found is counted
abbrev pub CountsKind : Unread → Unread → ItemKind → Type 0
CountsKind old new Text = CountsLine old new
CountsKind old new Long = CountsLine old new
CountsKind old new End = Unit {0}
CountsKind old new Over = Unit {0}

-- a line that is given is counted
abbrev pub CountsItem : Unread → Unread → Item → Type 0
CountsItem old new (item.Text text) = CountsLine old new
CountsItem old new item.Long = CountsLine old new
CountsItem old new item.End = Unit {0}
CountsItem old new item.Over = Unit {0}

-- what stands next in a script
abbrev pub GivesItem : Unread → Unread → List ℕ → List ℕ → Item → Type 0
GivesItem old new rest now_rest (item.Text text) = GivesText old new rest now_rest text.now
GivesItem old new rest now_rest item.Long = GivesLong old new rest now_rest
GivesItem old new rest now_rest item.End = IsAtEnd old new rest now_rest
GivesItem old new rest now_rest item.Over = IsOver old rest × IsOver new now_rest

-- on the way to the end of the first line
pub record IsWithinLine (old now : Unread) (rest now_rest : List ℕ) : Type 0 where
  pub first : cut (now.line ++ first_line now_rest) ≡ cut (first_line rest)
  pub others : after_line now_rest ≡ after_line rest
  pub bytes : now.bytes + length now_rest ≡ old.bytes + length rest
  pub lines : now.lines ≡ old.lines
  pub started : ((now.line ≡ []) × (now_rest ≡ rest))
      ⊎ ((0 < length now.line) × (0 < length rest) × (now.lines < LINES_MAX))

-- a line is long where it has more bytes than a line may have
abbrev pub IsKind : List ℕ → ItemKind → Type 0
IsKind line Text = length line ≤ LINE_MAX
IsKind line Long = LINE_MAX < length line
IsKind line End = ⊥
IsKind line Over = ⊥

-- there was no line that went on
pub record IsEndedWithout (old new : Unread) (found : ItemKind) : Type 0 where
  pub end : found ≡ End
  pub same : new ≡ old

-- the line that went on is ended, and counted
pub record IsEndedWith (old new : Unread) (found : ItemKind) : Type 0 where
  pub kind : IsKind new.line found
  pub now : new ≡ record old { lines = old.lines + 1 }
