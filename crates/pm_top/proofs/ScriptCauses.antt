-- How a script over an open store ends: which statuses don't come, and when one does.
use Rattle.std.proofs.Common.{◌≡◌, ◌≢◌, ◌⊎◌, inl, inr, ℕ, refl, sym, ap, ◌∙◌, arith}
use Rattle.pm_disk.specs.States.{DeviceState, IsLaterState, Rose}
use Rattle.pm_top.specs.declared.status.Status.{Status}
use Rattle.pm_top.specs.declared.status.Status.TheVariants.{Done, Failed, Memory, Damaged, Long}
use Rattle.pm_top.specs.RunCauses.{HasScriptCause}
use Rattle.pm_top.specs.Statuses.{code_of}

-- by the number of its status
ends_with : (status : Status) (n : ℕ) (before now : DeviceState) → code_of status ≡ n → n ≢ 1 → n ≢ 2 → (status ≡ Failed → Rose before now) → IsLaterState before now → HasScriptCause status before now
ends_with status n before now is one two failed later = record {
  run = record { known = λ usage. one (sym is ∙ ap code_of usage); failed = failed; state = later };
  configured = λ wrong. two (sym is ∙ ap code_of wrong);
}

pub ends_done : (before now : DeviceState) → IsLaterState before now → HasScriptCause Done before now
ends_done before now later =
    ends_with Done 0 before now refl (λ e. omega (arith, e)) (λ e. omega (arith, e)) (λ is. absurd (let clash : 0 ≡ 3 = ap code_of is in omega (arith, clash))) later

pub ends_failed : (before now : DeviceState) → Rose before now → IsLaterState before now → HasScriptCause Failed before now
ends_failed before now rose later =
    ends_with Failed 3 before now refl (λ e. omega (arith, e)) (λ e. omega (arith, e)) (λ is. rose) later

pub ends_memory : (before now : DeviceState) → IsLaterState before now → HasScriptCause Memory before now
ends_memory before now later =
    ends_with Memory 4 before now refl (λ e. omega (arith, e)) (λ e. omega (arith, e)) (λ is. absurd (let clash : 4 ≡ 3 = ap code_of is in omega (arith, clash))) later

-- a line was printed after that
said_later : (old mid new : DeviceState) → IsLaterState old mid → IsLaterState mid new → IsLaterState old new
said_later old mid new served said = record {
  later = omega (arith, served.later, said.later);
  access = said.access ∙ served.access;
  usable = λ usable. said.usable (served.usable usable);
}

-- the script was served, and then it was said that it passes a limit
pub ends_limit : (status : Status) (old mid new : DeviceState) → IsLaterState old mid → (status ≡ Long) ⊎ (status ≡ Failed) → (status ≡ Failed → Rose mid new) → IsLaterState mid new → HasScriptCause status old new
ends_limit status old mid new served cases failed said =
    let later = said_later old mid new served said in
    let rose : status ≡ Failed → Rose old new = λ is. (let late = failed is in omega (arith, late, served.later)) in
    elim cases [
      | inl long ↦ ends_with status 6 old new (ap code_of long) (λ e. omega (arith, e)) (λ e. omega (arith, e)) rose later
      | inr fault ↦ ends_with status 3 old new (ap code_of fault) (λ e. omega (arith, e)) (λ e. omega (arith, e)) rose later
    ]

-- a line found a page that is bad, and then it was named
pub ends_damaged : (status : Status) (old mid new : DeviceState) → IsLaterState old mid → (status ≡ Damaged) ⊎ (status ≡ Failed) ⊎ (status ≡ Memory) → (status ≡ Failed → Rose mid new) → IsLaterState mid new → HasScriptCause status old new
ends_damaged status old mid new served cases failed said =
    let later = said_later old mid new served said in
    let rose : status ≡ Failed → Rose old new = λ is. (let late = failed is in omega (arith, late, served.later)) in
    elim cases [
      | inl damaged ↦ ends_with status 5 old new (ap code_of damaged) (λ e. omega (arith, e)) (λ e. omega (arith, e)) rose later
      | inr more ↦ elim more [
        | inl fault ↦ ends_with status 3 old new (ap code_of fault) (λ e. omega (arith, e)) (λ e. omega (arith, e)) rose later
        | inr memory ↦ ends_with status 4 old new (ap code_of memory) (λ e. omega (arith, e)) (λ e. omega (arith, e)) rose later
      ]
    ]
