use Rattle.std.proofs.Common.{◌≡◌, ◌-◌, replicate, vec_len, vec_capacity}
use Rattle.std.specs.Vec.{vec_ptr}
use Rattle.pm_region.proofs.zeros.cleared.Given as goal

abbrev pub invariant-zeros : goal.invariant-zeros
invariant-zeros l = record {
  zeros : l.memory.items ≡ replicate (vec_len l.memory) 0;
  capacity : vec_capacity l.memory ≡ vec_capacity l.fn.room;
  in_place : vec_ptr l.memory ≡ vec_ptr l.fn.room;
}

abbrev pub decreases-zeros : goal.decreases-zeros
decreases-zeros l = vec_capacity l.memory - vec_len l.memory
