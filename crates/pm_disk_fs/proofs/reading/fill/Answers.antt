-- What was read stands after what was read before.
use Rattle.std.proofs.Common.{◌-◌, ◌≤◌, ◌≡◌, List, ℕ, length, take, sym, subst, arith, length-take}
use Rattle.pm_disk_fs.specs.Reads.{IsGiven}
use Rattle.pm_disk_fs.proofs.Fills.{given-push, given-next, take-put_mid-add, length-put_mid-ge}
use Rattle.pm_disk_fs.proofs.reading.fill.Goals as goal

pub loop-count-preserved : goal.loop-count-preserved
loop-count-preserved g c =
    let gave = g.F.ReadCalls.gave in
    let file = c.args.file.now in
    let was = c.loop-count in
    let more = c.in_ok-more.more in
    let into = c.read_next.new.into in
    let bound : more ≤ length into = c.in_ok-more.ensures.bound in
    let front = take was.count was.into in
    let long : length front ≡ was.count = omega (arith, was.invariant.bound, length-take was.count was.into) in
    record {
      bound = omega (arith, bound, length-put_mid-ge was.count (length was.into - was.count) was.into into was.invariant.bound);
      given = subst (λ (l : List ℕ). IsGiven gave file c.args.at l) (sym (take-put_mid-add was.count (length was.into - was.count) more was.into into was.invariant.bound bound))
          (given-push gave file c.args.at front (take more into) was.invariant.given
          (given-next gave file c.args.at was.count more front (take more into) long (omega arith) c.in_ok-more.ensures.gives));
    }
