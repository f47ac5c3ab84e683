use Rattle.std.proofs.Common.{refl, sym, ◌∙◌}
use Rattle.pm_locks.specs.Answers.{out_of}
use Rattle.pm_locks.proofs.Callers.{own_out_flag, own_out_bytes, own_out_own, own_same_lease, may_put_either, may_put_done_clean}
use Rattle.pm_tests_frames.proofs.locks.takes.rewrite.Goals as goal

pub own_put-requires-clause-flag : goal.own_put-requires-clause-flag
own_put-requires-clause-flag c =
    let v = c.args.seat.now.view in let v' = c.own_take.new.seat.view in
    may_put_done_clean (out_of v' c.args.f) c.in-Got.lease.bytes
    (sym (own_out_flag v v' c.args.f c.args.tag c.in-Got.lease c.in-Got.flag c.in-Got.ensures.answer) ∙ search)
    (own_out_bytes v v' c.args.f c.args.tag c.in-Got.lease c.in-Got.flag c.in-Got.ensures.answer)

pub own_put-requires-in_default : goal.own_put-requires-in_default
own_put-requires-in_default c =
    let v = c.args.seat.now.view in let v' = c.own_take.new.seat.view in record {
      seat = c.in-Got.ensures.seat;
      frame = c.requires.frame;
      out = own_out_own v v' c.args.f c.args.tag c.in-Got.lease c.in-Got.flag c.in-Got.ensures.answer;
      lease = own_same_lease v v' c.args.f c.args.tag c.in-Got.lease _ c.in-Got.flag c.in-Got.ensures.answer refl refl;
      flag = may_put_either (out_of v' c.args.f) c.in-Got.flag c.flag_after.result _
          (own_out_flag c.args.seat.now.view v' c.args.f c.args.tag c.in-Got.lease c.in-Got.flag c.in-Got.ensures.answer) c.flag_after.ensures.either c.flag_after.ensures.clean;
    }
