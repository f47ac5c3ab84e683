-- A script is its first line and the script after it.
use Rattle.std.proofs.Common.{◌≡◌, ℕ, ◌<◌, List, ◌∷◌, length, map, ap}
use Rattle.pm_script.specs.Lines.{first_line, after_line}
use Rattle.pm_script.proofs.ScriptLines.{lines_of-first}
use Rattle.pm_top.specs.Served.{script_of, line_of}

pub script_of-first : (bytes : List ℕ) → 0 < length bytes → script_of bytes ≡ line_of (first_line bytes) ∷ script_of (after_line bytes)
script_of-first bytes some = ap (map line_of) (lines_of-first bytes some)
