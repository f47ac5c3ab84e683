-- A script of any length, drawn from a number.
--
-- A draw sets x to (x * 1103515245 + 12345) mod 2^31 and gives x / 65536, rounded down. Each line takes three:
--
--     the first, modulo 10     0 to 5 put, 6 and 7 get, 8 and 9 remove
--     the second, modulo 4     the cache
--     the third, modulo 1000   the key: `k` and the number in decimal
--
-- The value of a put is `v` and the line's number in decimal.
use Rattle.std.specs.Prelude.{ℕ, zero, suc, ◌+◌, ◌*◌, ◌/◌, ◌%◌, List, [], ◌∷◌, ◌++◌, codes, decimal, nat_le, if◌then◌else◌}
use Rattle.pm_model.specs.declared.line.Cmd.TheVariants.{Put, Get, Remove}
use Rattle.pm_model.specs.declared.line.Line.{Line}
use Rattle.pm_model.specs.declared.line.Line.TheVariants.{Good}

-- what a draw makes of the number
abbrev pub drawn : ℕ → ℕ
drawn x = (x * 1103515245 + 12345) % 2147483648

-- what it gives
abbrev pub draw_of : ℕ → ℕ
draw_of x = drawn x / 65536

-- a line by its three numbers
abbrev pub line_with : ℕ → ℕ → ℕ → ℕ → Line
line_with kind cache number i =
    if nat_le kind 5 then Good (Put cache (codes "k" ++ decimal number) (codes "v" ++ decimal i))
    else if nat_le kind 7 then Good (Get cache (codes "k" ++ decimal number))
    else Good (Remove cache (codes "k" ++ decimal number))

-- the line that is drawn next, which has this number in the script
abbrev pub drawn_line : ℕ → ℕ → Line
drawn_line x i = line_with (draw_of x % 10) (draw_of (drawn x) % 4) (draw_of (drawn (drawn x)) % 1000) i

-- what a line's three draws make of the number
abbrev pub after_line : ℕ → ℕ
after_line x = drawn (drawn (drawn x))

-- so many lines, of which the first has this number
abbrev pub drawn_lines : ℕ → ℕ → ℕ → List Line
drawn_lines x i zero = []
drawn_lines x i (suc count) = drawn_line x i ∷ drawn_lines (after_line x) (i + 1) count
