-- The oldest of the frames drawn so far.
use Rattle.std.proofs.Common.{◌≡◌, ℕ, ◌+◌, ◌%◌, ◌⊎◌, ⊎_elim, List, length, refl, sym, ap, ◌∙◌, subst, arith, add-one}
use Rattle.std.specs.Prelude.{slice_index}
use Rattle.std.proofs.lemmas.Bool.{cases_eq}
use Rattle.pm_policies.specs.Stamps.{IsNoLater}
use Rattle.pm_policies.specs.Draws.{state_after_draw, state_after, frame_drawn, IsOldestDrawn}
use Rattle.pm_policies.proofs.Orders.{no_later_itself, no_later_along}

pub state_after-one : (state : ℕ) → state_after 1 state ≡ state_after_draw state
unfolding state_after
state_after-one state = refl

pub state_after-more : (k state : ℕ) → state_after (k + 1) state ≡ state_after_draw (state_after k state)
unfolding state_after
state_after-more k state = rw add-one refl

abbrev NoLater : List ℕ → ℕ → ℕ → Type 0
NoLater stamps a b = IsNoLater (slice_index stamps a) a (slice_index stamps b) b

pub drawn_first : (stamps : List ℕ) (state now : ℕ) → now ≡ state_after 1 state → IsOldestDrawn stamps state 1 (now % length stamps)
drawn_first stamps state now is =
    let first : now % length stamps ≡ frame_drawn stamps state 1 = ap (λ s. s % length stamps) is in
    record {
      drawn = (1, omega arith, omega arith, first);
      oldest = λ k a b.
          let one : k ≡ 1 = omega arith in
          subst (λ x. NoLater stamps (now % length stamps) x) (first ∙ ap (frame_drawn stamps state) (sym one)) (no_later_itself (slice_index stamps (now % length stamps)) (now % length stamps));
    }

pub drawn_more : (stamps : List ℕ) (state k was other one : ℕ) → IsOldestDrawn stamps state k was → other ≡ frame_drawn stamps state (k + 1)
    → (one ≡ was) ⊎ (one ≡ other) → NoLater stamps one was → NoLater stamps one other → IsOldestDrawn stamps state (k + 1) one
drawn_more stamps state k was other one so_far is which first second = record {
  drawn =
      ⊎_elim
      (λ (e : one ≡ was). (so_far.drawn.0, so_far.drawn.1, omega (arith, so_far.drawn.2), e ∙ so_far.drawn.3))
      (λ (e : one ≡ other). (k + 1, omega arith, omega arith, e ∙ is))
      which;
  oldest = λ j a b.
      ⊎_elim
      (λ (e : j ≡ k + 1). subst (λ x. NoLater stamps one x) (is ∙ ap (frame_drawn stamps state) (sym e)) second)
      (λ (e : j ≡ k + 1 → ⊥).
      let d = frame_drawn stamps state j in
      no_later_along (slice_index stamps one) one (slice_index stamps was) was (slice_index stamps d) d first (so_far.oldest j a (omega (arith, e))))
      (cases_eq j (k + 1));
}
