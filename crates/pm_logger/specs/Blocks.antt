-- What contracts see of the blocks in which a worker hands its bytes to the log writer.
use Rattle.std.specs.Prelude.{List, [], ◌∷◌, ◌++◌, ℕ}

-- the bytes of these blocks, put together
abbrev pub joined : List (List ℕ) → List ℕ
joined [] = []
joined (block ∷ blocks) = block ++ joined blocks
