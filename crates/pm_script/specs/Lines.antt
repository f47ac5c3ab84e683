-- The lines of a list of bytes. A line's newline, the byte 10, is no part of it.
--
--     script := line* last?
--     line   := byte* newline      a byte is any but the newline
--     last   := byte byte*         after the last newline, where a byte is left
use Rattle.std.specs.Prelude.{ℕ, List, [], ◌∷◌, ◌==◌, if◌then◌else◌, Bool, not}
use Rattle.std.specs.List.{onto_first, list_all}

-- the lines: each is ended by a newline, or by the end where bytes are left
abbrev pub lines_of : List ℕ → List (List ℕ)
lines_of [] = []
lines_of (b ∷ bytes) = if b == 10 then [] ∷ lines_of bytes else onto_first b (lines_of bytes)

-- the first line
abbrev pub first_line : List ℕ → List ℕ
first_line [] = []
first_line (b ∷ bytes) = if b == 10 then [] else b ∷ first_line bytes

-- what stands after the first line and its newline
abbrev pub after_line : List ℕ → List ℕ
after_line [] = []
after_line (b ∷ bytes) = if b == 10 then bytes else after_line bytes

-- whether no byte is a newline
abbrev pub is_unbroken : List ℕ → Bool
is_unbroken bytes = list_all (λ b. not (b == 10)) bytes
