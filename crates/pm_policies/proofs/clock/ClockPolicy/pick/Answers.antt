use Rattle.std.proofs.Common.{◌≡◌, ◌+◌, ◌%◌, ◌++◌, length, take, drop, sym, ap, ◌∙◌, subst, arith}
use Rattle.std.proofs.lemmas.List.{take_at}
use Rattle.pm_policies.specs.Dials.{Dial, Sweeps}
use Rattle.pm_policies.proofs.clock.ClockPolicy.pick.Goals as goal

pub returns-clause-swept : goal.returns-clause-swept
returns-clause-swept c =
    let new = c.sweep-stop.new.marks in let size = c.self.inside.marks.len in let rest = drop (length new) c.self.inside.marks.items in
    let full : length new ≡ size = omega (arith, c.sweep-stop.ensures.swept.passes.same_length, c.deref_mut.ensures.len) in
    let back : take size (new ++ rest) ≡ new = take_at new rest size full in
    let swept = subst (λ marks. Sweeps marks new c.self.inside.hand c.sweep-stop.result) c.deref_mut.ensures.value c.sweep-stop.ensures.swept in
    subst (λ (d : Dial). Sweeps d.marks (take size (new ++ rest)) d.hand c.sweep-stop.result) c.self.view_is
    (subst (λ marks. Sweeps c.self.inside.marks.items marks c.self.inside.hand c.sweep-stop.result) (sym back) swept)

pub returns-clause-moved_on : goal.returns-clause-moved_on
returns-clause-moved_on c =
    let long : length c.deref.result.now ≡ length c.args.self.now.marks = omega (arith, c.sweep-stop.ensures.swept.passes.same_length, ap length c.deref_mut.ensures.value, ap length c.deref.ensures.value, ap (λ (d : Dial). length d.marks) c.self.view_is) in
    c.following-next.ensures.next ∙ ap (λ n. (c.sweep-stop.result + 1) % n) long

pub returns-clause-same_frames : goal.returns-clause-same_frames
returns-clause-same_frames c =
    let new = c.sweep-stop.new.marks in let size = c.self.inside.marks.len in let rest = drop (length new) c.self.inside.marks.items in
    let full : length new ≡ size = omega (arith, c.sweep-stop.ensures.swept.passes.same_length, c.deref_mut.ensures.len) in
    let back : take size (new ++ rest) ≡ new = take_at new rest size full in
    ap length back ∙ c.sweep-stop.ensures.swept.passes.same_length ∙ ap length c.deref_mut.ensures.value ∙ ap (λ (d : Dial). length d.marks) c.self.view_is
