-- The seats of two workers, or three.
use Rattle.std.proofs.Common.{◌≡◌, ◌+◌, List, [], ◌∷◌, ◌++◌, length, ap, sym, ◌∙◌, subst, arith}
use Rattle.std.specs.List.{slice_get}
use Rattle.std.proofs.lemmas.List.{length-append}
use Rattle.pm_locks.specs.declared.seats.Seats.{Seats}
use Rattle.pm_locks.specs.Sight.{Sight, LockTable}
use Rattle.pm_locks.specs.Rounds.{HaveAll, IsWorkers}
use Rattle.pm_locks.proofs.Pushing.{slice_get-push, slice_get-front}

pub both : (locks : LockTable) (seats : Seats) (some none : List Sight) (first second : Sight) → HaveAll locks seats → locks.workers ≡ 2 → seats.workers.items ≡ some ++ second ∷ [] → some ≡ none ++ first ∷ []
    → IsWorkers locks 0 first × IsWorkers locks 1 second
both locks seats some none first second have two last next =
    let a : length some + 1 ≡ 2 = sym (length-append some (second ∷ [])) ∙ ap length (sym last) ∙ have.count ∙ two in
    let b : length none + 1 ≡ length some = sym (length-append none (first ∷ [])) ∙ ap length (sym next) in
    let one : length some ≡ 1 = omega arith in let zero : length none ≡ 0 = omega arith in
    let at1 = ap (λ l. slice_get l (length some)) last ∙ slice_get-push some second in
    let at0 = ap (λ l. slice_get l (length none)) last ∙ slice_get-front some (second ∷ []) (length none) (omega arith) ∙ ap (λ l. slice_get l (length none)) next ∙ slice_get-push none first in
    (subst (λ n. IsWorkers locks n first) zero (have.each (length none) first at0), subst (λ n. IsWorkers locks n second) one (have.each (length some) second at1))

pub three : (locks : LockTable) (seats : Seats) (two one none : List Sight) (first second third : Sight) → HaveAll locks seats → locks.workers ≡ 3 → seats.workers.items ≡ two ++ third ∷ [] → two ≡ one ++ second ∷ [] → one ≡ none ++ first ∷ []
    → IsWorkers locks 0 first × IsWorkers locks 1 second × IsWorkers locks 2 third
three locks seats two one none first second third have workers last next again =
    let a : length two + 1 ≡ 3 = sym (length-append two (third ∷ [])) ∙ ap length (sym last) ∙ have.count ∙ workers in
    let b : length one + 1 ≡ length two = sym (length-append one (second ∷ [])) ∙ ap length (sym next) in
    let c : length none + 1 ≡ length one = sym (length-append none (first ∷ [])) ∙ ap length (sym again) in
    let is2 : length two ≡ 2 = omega arith in let is1 : length one ≡ 1 = omega arith in let is0 : length none ≡ 0 = omega arith in
    let at2 = ap (λ l. slice_get l (length two)) last ∙ slice_get-push two third in
    let at1 = ap (λ l. slice_get l (length one)) last ∙ slice_get-front two (third ∷ []) (length one) (omega arith) ∙ ap (λ l. slice_get l (length one)) next ∙ slice_get-push one second in
    let at0 = ap (λ l. slice_get l (length none)) last ∙ slice_get-front two (third ∷ []) (length none) (omega arith) ∙ ap (λ l. slice_get l (length none)) next
    ∙ slice_get-front one (second ∷ []) (length none) (omega arith) ∙ ap (λ l. slice_get l (length none)) again ∙ slice_get-push none first in
    (subst (λ n. IsWorkers locks n first) is0 (have.each (length none) first at0), subst (λ n. IsWorkers locks n second) is1 (have.each (length one) second at1), subst (λ n. IsWorkers locks n third) is2 (have.each (length two) third at2))
