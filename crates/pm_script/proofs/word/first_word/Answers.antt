use Rattle.std.proofs.Common.{◌≡◌, ◌+◌, ◌-◌, ◌∷◌, length, take, drop, eqb, sym, ap, ◌∙◌, arith}
use Rattle.std.proofs.lemmas.Grind.{common_steps}
use Rattle.pm_script.specs.Grammar.{words_of}
use Rattle.pm_script.proofs.Spaces.{split_found, split_absent}
use Rattle.pm_script.proofs.word.first_word.Goals as goal

pub returns-in-Some : goal.returns-in-Some
returns-in-Some c =
    let bytes = c.args.bytes.now in
    let i = c.in-Some.i in
    let all : take (length bytes - (i + 1)) (drop (i + 1) bytes) ≡ drop (i + 1) bytes = grind (arith, common_steps) in
    split_found (λ b. eqb b 32) bytes i (sym c.in-Some.ensures) ∙ ap (λ rest. take i bytes ∷ words_of rest) (sym all)

pub returns-in-None : goal.returns-in-None
returns-in-None c = split_absent (λ b. eqb b 32) c.args.bytes.now (sym c.in-None.ensures)
