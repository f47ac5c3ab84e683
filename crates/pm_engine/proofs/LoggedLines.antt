-- The record of an accepted line, as it is applied again.
use Rattle.std.proofs.Common.{◌≡◌, ℕ, ◌≤◌, List, [], ◌∷◌, length, Option, Some, None, refl, sym}
use Rattle.std.proofs.Common.{◌∙◌, ap, arith, Bool, true}
use Rattle.std.specs.Prelude.{if◌then◌else◌}
use Rattle.pm_types.specs.declared.shape.Shape.{Shape}
use Rattle.pm_frame.specs.declared.kinds.TheConstants.{LOGICAL}
use Rattle.pm_frame.specs.declared.limits.TheConstants.{PAYLOAD_MAX}
use Rattle.pm_frame.specs.Frames.{Frame}
use Rattle.pm_records.specs.declared.limits.TheConstants.{PUT, REMOVE}
use Rattle.pm_records.specs.Records.{Record, Logical, IsRecord, kind_of, record_of, payload_of}
use Rattle.pm_records.proofs.RecordOf.{record_of-payload, payload_of-short}
use Rattle.pm_model.specs.declared.line.Cmd.TheVariants.{Put, Get, Remove, Scan, Checkpoint}
use Rattle.pm_model.specs.declared.line.Line.{Line}
use Rattle.pm_model.specs.declared.line.Line.TheVariants.{Good, Bad, Long}
use Rattle.pm_model.specs.Eval.{Pairs, is_accepted, after}
use Rattle.pm_records.specs.Logs.{record_in}
use Rattle.pm_engine.specs.Records.{record_of_line, IsPayloadOf, logical_frame, frames_of_record, line_frames}
use Rattle.pm_core.specs.Replays.{replayed}

-- the frame of a line that is accepted replays the line
pub record LogsLine (shape : Shape) (line : Line) (pairs : Pairs) (payload : List ℕ) : Type 0 where
  pub again : replayed shape (record_in (logical_frame payload)) pairs ≡ Some (after shape line pairs)
  pub short : length payload ≤ PAYLOAD_MAX
  pub frame : line_frames line ≡ logical_frame payload ∷ []

record_again : (shape : Shape) (line : Line) (pairs : Pairs) (r : Record) (payload : List ℕ) → kind_of r ≡ LOGICAL → replayed shape (Some r) pairs ≡ Some (after shape line pairs) → record_of_line line ≡ Some r → IsRecord r → payload ≡ payload_of r
    → LogsLine shape line pairs payload
record_again shape line pairs r payload logical does of_line sound made =
    let read : record_of LOGICAL payload ≡ Some r = ap (record_of LOGICAL) made ∙ ap (λ n. record_of n (payload_of r)) (sym logical) ∙ record_of-payload r sound in
    record {
      again = ap (λ found. replayed shape found pairs) read ∙ does;
      short = omega (arith, ap (λ (l : List ℕ). length l) made, payload_of-short r sound);
      frame = ap frames_of_record of_line ∙ (λ i. let f : Frame = record { kind = logical i; payload = sym made i } in f ∷ []);
    }

pub logs_line : (shape : Shape) (line : Line) (pairs : Pairs) (payload : List ℕ) → is_accepted shape line pairs ≡ true → IsPayloadOf (record_of_line line) payload → LogsLine shape line pairs payload
logs_line shape (Good (Put cache key value)) pairs payload is made =
    let line : Line = Good (Put cache key value) in
    record_again shape line pairs (Logical PUT cache key value) payload refl (ap (λ (b : Bool). let o : Option Pairs = if b then Some (after shape line pairs) else None in o) is) refl made.0 made.1
logs_line shape (Good (Get cache key)) pairs payload is made = absurd cc
logs_line shape (Good (Remove cache key)) pairs payload is made = record_again shape (Good (Remove cache key)) pairs (Logical REMOVE cache key []) payload refl refl refl made.0 made.1
logs_line shape (Good (Scan cache)) pairs payload is made = absurd cc
logs_line shape (Good Checkpoint) pairs payload is made = absurd cc
logs_line shape Bad pairs payload is made = absurd cc
logs_line shape Long pairs payload is made = absurd cc
