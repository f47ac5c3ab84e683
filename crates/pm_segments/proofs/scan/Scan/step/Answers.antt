use Rattle.std.proofs.Common.{◌≡◌, ◌+◌, ◌-◌, ◌≤◌, List, ℕ, ap, sym, ◌∙◌, drop, take, length, Some, arith}
use Rattle.std.proofs.lemmas.List.{drop-drop, length-take}
use Rattle.pm_frame.specs.Frames.{Frame, frame_at}
use Rattle.pm_frame.specs.Views.{frame_of}
use Rattle.pm_segments.specs.Scans.{Scanned}
use Rattle.pm_segments.proofs.Ahead.{payload_there, less_first}
use Rattle.pm_segments.proofs.scan.Scan.step.Goals as goal

pub returns-in-Some-clause-found : goal.returns-in-Some-clause-found
returns-in-Some-clause-found c =
    let buffer = c.self.inside.buffer.items in
    let at = c.self.inside.at in
    let end = c.self.inside.end in
    let view = c.in-Some.view in
    let same : take (end - at) (drop at buffer) ≡ take (end - at) (drop at c.deref.result.now) = ap (λ b. take (end - at) (drop at b)) (sym c.deref.ensures.value) in
    let payload = payload_there c.self.inside.next (frame_of view) buffer (drop view.len (take (end - at) (drop at c.deref.result.now))) at end (same ∙ c.in-Some.ensures.spelled) in
    let Frames : List ℕ → Frame = λ p. record { kind = view.kind; payload = p } in
    ap (λ p. Some (Frames p)) payload ∙ c.in-Some.ensures.frame ∙ ap (λ b. frame_at c.self.inside.next b) (sym same) ∙ ap (λ (s : Scanned). frame_at s.next s.ahead) c.self.view_is

pub returns-in-Some-clause-ahead : goal.returns-in-Some-clause-ahead
returns-in-Some-clause-ahead c =
    let buffer = c.self.inside.buffer.items in
    let at = c.self.inside.at in
    let end = c.self.inside.end in
    let view = c.in-Some.view in
    let same : take (end - at) (drop at buffer) ≡ take (end - at) (drop at c.deref.result.now) = ap (λ b. take (end - at) (drop at b)) (sym c.deref.ensures.value) in
    let payload = payload_there c.self.inside.next (frame_of view) buffer (drop view.len (take (end - at) (drop at c.deref.result.now))) at end (same ∙ c.in-Some.ensures.spelled) in
    let within : view.len ≤ end - at = omega (arith, c.in-Some.ensures.within, length-take (end - at) (drop at c.deref.result.now)) in
    let count : view.len ≡ length (take (length view.payload.now) (drop (at + 17) buffer)) + 21 = c.in-Some.ensures.len ∙ ap (λ (p : List ℕ). length p + 21) (sym payload) in
    let less : end - (at + view.len) ≡ end - at - view.len = omega arith in (
      ap (λ n. take n (drop (at + view.len) buffer)) less
          ∙ ap (take (end - at - view.len)) (sym (drop-drop view.len at buffer))
          ∙ sym (less_first view.len (end - at) (drop at buffer) within)
          ∙ ap (λ n. drop n (take (end - at) (drop at buffer))) count
          ∙ ap (λ (s : Scanned). drop (length (take (length view.payload.now) (drop (at + 17) buffer)) + 21) s.ahead) c.self.view_is,
      ap (λ (s : Scanned). s.is_whole) c.self.view_is,
    )
