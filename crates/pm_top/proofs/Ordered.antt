-- A run that logs in the script's order keeps what is promised of every order.
use Rattle.std.proofs.Common.{◌≡◌, ℕ, ◌+◌, ◌-◌, ◌≤◌, List, [], ◌∷◌, length, take, drop, refl, ap, sym, subst, arith}
use Rattle.std.specs.List.{All, Contains}
use Rattle.pm_types.specs.declared.limits.TheConstants.{BATCH_LINES_MAX}
use Rattle.pm_types.specs.declared.shape.Shape.{Shape}
use Rattle.pm_disk.specs.Moments.{History, AllMoments}
use Rattle.pm_disk.specs.Worlds.{World}
use Rattle.pm_disk.proofs.Chain.{weaker}
use Rattle.pm_model.specs.declared.line.Line.{Line}
use Rattle.pm_model.specs.Eval.{Pairs, after, replies_to, accepted}
use Rattle.pm_model.specs.Orders as orders
use Rattle.pm_model.specs.Orders.{line_at, after_numbers}
use Rattle.pm_model.proofs.OrderLaws.{script_tried, as_many_has}
use Rattle.pm_top.specs.declared.status.Status.{Status}
use Rattle.pm_top.specs.declared.status.Status.TheVariants.{Done, Usage, Misconfigured, Failed, Memory, Damaged, Long}
use Rattle.pm_top.specs.Crashes.{CrashHoldsAcknowledged, SoundUpTo, begun}
use Rattle.pm_top.specs.Promises.{IsOrder, OutcomeIs}
use Rattle.pm_top.specs.ScriptOrder as one
use Rattle.pm_top.specs.Served.{script_of}

pub is_order : (shape : Shape) (input : List ℕ) (pairs : Pairs) (lines : ℕ) (order : List ℕ) → one.IsOrder shape input pairs lines order → IsOrder shape input pairs lines 0 order
is_order shape input pairs lines order is =
    subst (λ (ns : List ℕ). orders.HasTried shape 1 (script_of input) pairs lines 0 ns) (sym is) (script_tried shape 1 (script_of input) pairs lines 0 lines (omega arith) (omega arith))

pub is_tried : (shape : Shape) (input : List ℕ) (pairs : Pairs) (lines : ℕ) (order : List ℕ) → one.HasTried shape input pairs lines order → IsOrder shape input pairs lines BATCH_LINES_MAX order
is_tried shape input pairs lines order is =
    subst (λ (ns : List ℕ). orders.HasTried shape 1 (script_of input) pairs lines BATCH_LINES_MAX ns) (sym is.order_is) (script_tried shape 1 (script_of input) pairs lines BATCH_LINES_MAX is.many is.from is.to)

-- ---- what each status says

failed_is : (old new : World) (shape : Shape) (pairs : Pairs) (lines : ℕ) (order : List ℕ) → one.HasFailed old new shape pairs lines order → OutcomeIs Failed old new shape pairs lines order
failed_is old new shape pairs lines order it =
    let more : ℕ = it.tried.many - lines in
    let sum : lines + more ≡ it.tried.many = omega (arith, it.tried.from) in
    record {
      tail = it.tail;
      answers = it.answers;
      order_is = is_tried shape old.input pairs lines order it.tried;
      more = more;
      few = omega (arith, it.tried.to);
      done = subst (λ n. orders.HasAccepted shape 1 (script_of old.input) pairs n order) (sym sum) (is_order shape old.input pairs it.tried.many order it.tried.order_is).has;
      prefix = it.prefix;
    }

pub outcome_is : (status : Status) (old new : World) (shape : Shape) (pairs : Pairs) (lines : ℕ) (order : List ℕ) → one.OutcomeIs status old new shape pairs lines order → OutcomeIs status old new shape pairs lines order
outcome_is Done old new shape pairs lines order it = record { answers = it.answers; order_is = is_order shape old.input pairs lines order it.order_is; all = it.all; read = it.read; limits = it.limits }
outcome_is Usage old new shape pairs lines order it = absurd it
outcome_is Misconfigured old new shape pairs lines order it = absurd it
outcome_is Failed old new shape pairs lines order it = failed_is old new shape pairs lines order it
outcome_is Memory old new shape pairs lines order it = record { answers = it.answers; order_is = is_tried shape old.input pairs lines order it.tried }
outcome_is Damaged old new shape pairs lines order it = absurd it
outcome_is Long old new shape pairs lines order it = record { answers = it.answers; order_is = is_order shape old.input pairs lines order it.order_is; passes = it.passes; within = it.within }

-- the order is the script's up to some line
pub outcome_order : (status : Status) (old new : World) (shape : Shape) (pairs : Pairs) (lines : ℕ) (order : List ℕ) → one.OutcomeIs status old new shape pairs lines order → (many : ℕ) × one.IsOrder shape old.input pairs many order
outcome_order Done old new shape pairs lines order it = (lines, it.order_is)
outcome_order Usage old new shape pairs lines order it = absurd it
outcome_order Misconfigured old new shape pairs lines order it = absurd it
outcome_order Failed old new shape pairs lines order it = (it.tried.many, it.tried.order_is)
outcome_order Memory old new shape pairs lines order it = (it.tried.many, it.tried.order_is)
outcome_order Damaged old new shape pairs lines order it = absurd it
outcome_order Long old new shape pairs lines order it = (lines, it.order_is)

-- ---- what a crash leaves

pub same_after : (shape : Shape) (numbers : List ℕ) (script : List Line) (pairs : Pairs) → one.after_numbers shape numbers script pairs ≡ after_numbers shape numbers 1 script pairs
same_after shape [] script pairs = refl
same_after shape (number ∷ numbers) script pairs = same_after shape numbers script (after shape (line_at 1 script number) pairs)

keeps : (wanted : Shape) (last number : ℕ) (old now : World) (shape : Shape) (pairs : Pairs) (many : ℕ) (order : List ℕ) → one.IsOrder shape old.input pairs many order → one.CrashHoldsAcknowledged wanted last number old shape pairs order now → CrashHoldsAcknowledged wanted last number old shape pairs order now
keeps wanted last number old now shape pairs many order is held image leaves honest =
    let h = held image leaves honest in
    let script = script_of old.input in
    let told = begun (replies_to shape script pairs) (drop (length old.said) now.said) in
    let fits : h.count ≤ length (accepted shape 1 (take many script) pairs) = omega (arith, h.fits, ap (λ (ns : List ℕ). length ns) is) in
    record {
      count = h.count;
      has = subst (λ (ns : List ℕ). All (Contains (take h.count ns)) (accepted shape 1 (take told script) pairs)) (sym is) (as_many_has shape 1 script pairs told many h.count fits h.has);
      holds = subst (λ (m : Pairs). SoundUpTo wanted last number image shape m) (same_after shape (take h.count order) script pairs) h.holds;
    }

pub moments_keep : (wanted : Shape) (last number : ℕ) (start : World) (old new : History) (shape : Shape) (pairs : Pairs) (many : ℕ) (order : List ℕ) → one.IsOrder shape start.input pairs many order
    → AllMoments old new (one.CrashHoldsAcknowledged wanted last number start shape pairs order) → AllMoments old new (CrashHoldsAcknowledged wanted last number start shape pairs order)
moments_keep wanted last number start old new shape pairs many order is all =
    weaker old new (one.CrashHoldsAcknowledged wanted last number start shape pairs order) (CrashHoldsAcknowledged wanted last number start shape pairs order) (λ w held. keeps wanted last number start w shape pairs many order is held) all
