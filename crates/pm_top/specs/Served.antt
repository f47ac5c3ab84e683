-- The lines of a script.
use Rattle.std.specs.Prelude.{ℕ, List, map}
use Rattle.pm_model.specs.declared.line.Line.{Line}
use Rattle.pm_script.specs.Lines.{lines_of}
use Rattle.pm_script.specs.Grammar as grammar

-- what a line says
abbrev pub line_of : List ℕ → Line
line_of bytes = grammar.line_of bytes

-- what the lines of a script say
abbrev pub script_of : List ℕ → List Line
script_of input = map line_of (lines_of input)
