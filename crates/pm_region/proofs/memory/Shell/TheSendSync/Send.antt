-- A shell may cross threads: what it waits for, and what it then is, names no thread.
use Rattle.std.proofs.Common.{ℕ}
use Rattle.std.proofs.Crossing.{Vec-send}
use base.Shift.{Keyless}
use denote.Builtin.{u8}
use denote.Param.Send.{IsSend, sendable, struct_send}
use denote.RawPtr.{Ptr, block_ptr, null_ptr}
use denote.Struct.Declared.{shape}
use Rattle.pm_region.specs.Memory.{room_lies}
use Rattle.pm_region.specs.contracts.memory.Shell as Shell
use Rattle.pm_region.specs.contracts.memory.Shell.TheInside as fields

byte : IsSend u8
byte = search sendable

room : (origin : Ptr) (n : ℕ) → Keyless (room_lies origin n)
room (block_ptr b o) n = tt
room null_ptr n = tt

pub send : IsSend Shell.the_row
send = record {
  owned = λ h us. (
    λ typed. tt,
    λ i. (
      tt,
      (room h.origin h.len, (struct_send (shape fields.the_type) (Vec-send u8 byte, tt)).owned (i.vec, tt) us),
    ),
  );
  leaving = λ k x w. tt;
}
