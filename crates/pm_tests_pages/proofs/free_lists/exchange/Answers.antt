use Rattle.std.proofs.Common.{arith}
use Rattle.std.proofs.lemmas.Result.{on_ok_weaker, err_from_is_err_and}
use Rattle.pm_pages.proofs.SoundPages.{no_bad_passed}
use Rattle.pm_tests_pages.proofs.free_lists.exchange.Goals as goal

pub returns-in_err-take_out-clause-sound : goal.returns-in_err-take_out-clause-sound
returns-in_err-take_out-clause-sound g c = λ has may.
    let p = err_from_is_err_and c.from_residual.result c.from_residual.ensures.1 in
    no_bad_passed c.take_out.result c.from_residual.result c.in_err-take_out.field-0.0 p.0 c.in_err-take_out.was p.1 p.2
    (c.take_out.ensures.sound may.told may.take.sound has)

pub returns-clause-sound : goal.returns-clause-sound
returns-clause-sound g c = λ has may.
    let takes = c.in_ok-take_out.ensures.takes in
    let can = takes.takes may.told may.limit 1 may.take in
    c.place.ensures.sound (record {
      told = may.told;
      sound = can.sound;
      some = can.some;
      chains = (takes.told may.told).chains has;
      take = λ none. record { told = may.told; limit = may.limit; small = may.small; take = can };
    })

pub returns-clause-passes : goal.returns-clause-passes
returns-clause-passes g c =
    let takes = c.in_ok-take_out.ensures.takes in
    on_ok_weaker c.place.result (λ passes t limit small can stored. passes t limit (omega (arith, small, takes.edits.same.max_rows)) (takes.takes t limit 1 can) (c.in_ok-take_out.ensures.passes t stored)) c.place.ensures.passes
