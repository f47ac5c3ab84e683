use Rattle.std.proofs.Common.{◌≡◌, ◌+◌, ◌++◌, drop}
use Rattle.pm_model.specs.Eval.{replies_to, after_all}
use Rattle.pm_model.proofs.plain_batcher.answer_all.Given as goal

-- the replies so far and those to what is left are those to all
abbrev pub invariant-each : goal.invariant-each
invariant-each l =
    let left = drop l.line-index l.lines in
    record {
      told : l.replies.replies ++ replies_to l.shape left l.map ≡ l.fn.replies.replies ++ replies_to l.shape l.lines l.fn.map;
      rest : after_all l.shape left l.map ≡ after_all l.shape l.lines l.fn.map;
      spare : l.replies.spare + l.line-index ≡ l.fn.replies.spare;
    }
