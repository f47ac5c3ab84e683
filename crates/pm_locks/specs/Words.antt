-- A lock word: four fields in 64 bits.
--
--   bits      field
--    0 to 7   flag     0 Empty, 1 Clean, 2 Dirty, 3 Due, 4 Done
--    8 to 15  holder   the number that has the frame out, or 255: it is at home
--   16 to 23  owner    the worker's number
--   24 to 63  tag      how often the frame was given to another page
--
-- The steps, and the word that each makes of another:
--
--   step        from                                     to
--   load        any                                      the same
--   own_take    home, the asked tag, owned by the seat   held by its owner
--   own_put     held by its owner                        home, with the flag that is given
--   steal       home, Empty or Clean, below the last     held and owned by the worker, Empty, with
--               tag                                      the next tag
--   flush_take  home, the asked tag and flag             held by the flusher
--   flush_put   held by the flusher                      home, Due where it was Dirty, Done where it
--                                                        was Due
use Rattle.std.specs.Prelude.{◌≡◌, ℕ, ◌+◌, ◌*◌, ◌/◌, ◌%◌, ◌<◌, ◌≤◌, ◌⊎◌, ◌==◌, if◌then◌else◌}
use Rattle.pm_types.specs.declared.flag.Flag.{Flag}
use Rattle.pm_types.specs.declared.flag.Flag.TheVariants as flag

-- what a lock word says
pub record LockWord : Type 0 where
  pub tag : ℕ
  pub owner : ℕ
  pub holder : ℕ
  pub flag : Flag

-- the holder of a frame that is at home
abbrev pub AT_HOME : ℕ
AT_HOME = 255

-- the flusher's number
abbrev pub FLUSHER : ℕ
FLUSHER = 8

-- a frame's last tag, 2^40 - 1
abbrev pub TAG_LAST : ℕ
TAG_LAST = 1099511627775

-- the number of each flag
abbrev pub code_of : Flag → ℕ
code_of flag.Empty = 0
code_of flag.Clean = 1
code_of flag.Dirty = 2
code_of flag.Due = 3
code_of flag.Done = 4

-- the flag with this number
abbrev pub flag_from : ℕ → Flag
flag_from n =
    if n == 0 then flag.Empty
    else if n == 1 then flag.Clean
    else if n == 2 then flag.Dirty
    else if n == 3 then flag.Due
    else flag.Done

-- the 64 bits of a word
abbrev pub packed : LockWord → ℕ
packed word = ((word.tag * 256 + word.owner) * 256 + word.holder) * 256 + code_of word.flag

-- the word with these 64 bits
abbrev pub unpacked : ℕ → LockWord
unpacked bits = record {
  tag = bits / 16777216;
  owner = bits / 65536 % 256;
  holder = bits / 256 % 256;
  flag = flag_from (bits % 256);
}

-- the word under another holder
abbrev pub held_by : ℕ → LockWord → LockWord
held_by holder word = record word { holder = holder }

-- at home again, with this flag
abbrev pub put_as : Flag → LockWord → LockWord
put_as f word = record word { holder = AT_HOME; flag = f }

-- out at its new owner, Empty and with the next tag
abbrev pub stolen_as : ℕ → LockWord → LockWord
stolen_as number word = record {
  tag = word.tag + 1;
  owner = number;
  holder = number;
  flag = flag.Empty;
}

-- Empty or Clean: the frame may be given to another page
abbrev pub IsSpare : Flag → Type 0
IsSpare f = (f ≡ flag.Empty) ⊎ (f ≡ flag.Clean)

-- the second flag is the first, or reached from it by Dirty to Due to Done
abbrev pub IsReachedFrom : Flag → Flag → Type 0
IsReachedFrom was now = (was ≡ now) ⊎ ((2 ≤ code_of was) × (code_of was ≤ code_of now))

-- at home, Empty or Clean, and below the last tag
pub record CanBeStolen (word : LockWord) : Type 0 where
  pub home : word.holder ≡ AT_HOME
  pub spare : IsSpare word.flag
  pub below : word.tag < TAG_LAST

-- the word has this tag and this flag
pub record IsWanted (word : LockWord) (tag : ℕ) (want : Flag) : Type 0 where
  pub same : word.tag ≡ tag
  pub flag : word.flag ≡ want

-- what the flusher makes of a flag: Due of Dirty, Done of Due
abbrev pub IsNext : Flag → Flag → Type 0
IsNext was now =
    ((was ≡ flag.Dirty) × (now ≡ flag.Due)) ⊎ ((was ≡ flag.Due) × (now ≡ flag.Done))

-- what the flusher may want of a frame
abbrev pub IsFlushed : Flag → Type 0
IsFlushed want = (want ≡ flag.Dirty) ⊎ (want ≡ flag.Due)
