-- A line that is said whole or in part.
use Rattle.std.proofs.Common.{inl, ℕ, List, Result, Err, refl, ap, sym, append-nil, arith}
use Rattle.pm_disk.specs.Worlds.{World}
use Rattle.pm_disk.specs.Moments.{History, IsHistory, AllMoments, Says}
use Rattle.pm_disk.proofs.Chain.{started, says}
use Rattle.pm_top.specs.Promises.{SaysPart}

pub said_part : {T E : Type 0} (old new : History) (result : Result T E) (text : List ℕ) → Says old new result text → SaysPart text old.world new.world
said_part old new result text call = (call.part.0, call.part.2)

pub said_moments : {T E : Type 0} (old new : History) (result : Result T E) (text : List ℕ) → IsHistory old → Says old new result text → AllMoments old new (SaysPart text old.world)
said_moments old new result text sound call =
    let P : World → Type 0 = SaysPart text old.world in
    says old old new result text P (started old P sound (0, ap (λ (bytes : List ℕ). record old.world { said = bytes }) (sym (append-nil old.world.said)))) call (λ k le. (k, refl))

pub unsaid_moments : (old : History) (text : List ℕ) → IsHistory old → AllMoments old old (SaysPart text old.world)
unsaid_moments old text sound = started old (SaysPart text old.world) sound (0, ap (λ (bytes : List ℕ). record old.world { said = bytes }) (sym (append-nil old.world.said)))

-- nothing was said, and a fault came
pub unsaid_yet : {T E : Type 0} (h : History) (fault : E) (text : List ℕ) → Says {T = T} {E = E} h h (Err fault) text
unsaid_yet h fault text = record {
  time = record { later = omega arith; nothing_else = λ t w le was. inl was; keeps = λ t w le was. was };
  ok = tt;
  part = (0, omega arith, ap (λ (bytes : List ℕ). record h.world { said = bytes }) (sym (append-nil h.world.said)));
}
