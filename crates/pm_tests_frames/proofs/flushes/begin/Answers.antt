use Rattle.std.proofs.Common.{◌≡◌, ◌+◌, List, [], ◌∷◌, ◌++◌, length, sym, ap, ◌∙◌, subst, arith}
use Rattle.std.specs.Prelude.{slice_get}
use Rattle.std.proofs.lemmas.List.{length_push, nil_from_length}
use Rattle.pm_locks.specs.Rounds.{HaveAll, IsWorkers}
use Rattle.pm_locks.specs.Sight.{Sight, LockTable, HasPageSize}
use Rattle.pm_locks.specs.declared.seats.Seats.{Seats}
use Rattle.pm_locks.proofs.Facts.{page_sizes}
use Rattle.pm_tests_frames.proofs.flushes.begin.Goals as goal

-- the last of one worker's seats is the first
only_one : (locks : LockTable) (seats : Seats) (rest : List Sight) (owner : Sight) → HaveAll locks seats → locks.workers ≡ 1 → seats.workers.items ≡ rest ++ owner ∷ [] → IsWorkers locks 0 owner
only_one locks seats rest owner all one last =
    let n : length rest + 1 ≡ 1 = sym (length_push rest owner) ∙ ap length (sym last) ∙ all.count ∙ one in
    let none : rest ≡ [] = nil_from_length rest (omega arith) in
    all.each 0 owner (ap (λ l. slice_get l 0) last ∙ ap (λ (l : List Sight). slice_get (l ++ owner ∷ []) 0) none)

pub returns-clause-sized : goal.returns-clause-sized
returns-clause-sized c =
    let locks = c.in-Ok.locks in
    subst (HasPageSize locks) c.in_ok-_region.ensures.shape.1 (page_sizes locks c.in_ok-_region._region c.in_ok-_region.leases.items c.in_ok-_region.ensures.leases c.in-Ok.ensures.locks.1)

pub returns-clause-owner : goal.returns-clause-owner
returns-clause-owner c = only_one c.in-Ok.locks c.spread.new.into c.pop.new.self.items c.in-Some.owner c.spread.ensures.seats c.in-Ok.ensures.locks.0 c.in-Some.ensures.items
