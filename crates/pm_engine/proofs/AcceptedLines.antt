-- The record of an accepted line is a logical one, which says nothing of a page.
use Rattle.std.proofs.Common.{◌≡◌, ℕ, List, [], true, ap, ◌∙◌}
use Rattle.std.specs.Prelude.{Some}
use Rattle.pm_types.specs.declared.shape.Shape.{Shape}
use Rattle.pm_frame.specs.declared.kinds.TheConstants.{LOGICAL}
use Rattle.pm_records.specs.declared.limits.TheConstants.{PUT, REMOVE}
use Rattle.pm_records.specs.Logs.{record_in}
use Rattle.pm_records.specs.Records.{Record, Logical, record_of}
use Rattle.pm_records.proofs.RecordOf.{record_of-payload}
use Rattle.pm_model.specs.declared.line.Cmd.TheVariants.{Put, Get, Remove, Scan, Checkpoint}
use Rattle.pm_model.specs.declared.line.Line.{Line}
use Rattle.pm_model.specs.declared.line.Line.TheVariants.{Good, Bad, Long}
use Rattle.pm_model.specs.Eval.{Pairs, is_accepted}
use Rattle.pm_engine.specs.Records.{record_of_line, IsPayloadOf, logical_frame}
use Rattle.pm_engine.specs.TrackedPages.{SaysNoPage}

-- the record of a line that was accepted, which says nothing of a page
pub record LogicalOf (payload : List ℕ) : Type 0 where
  pub logical : Record
  pub is : record_in (logical_frame payload) ≡ Some logical
  pub no_page : SaysNoPage logical

pub logical_of : (shape : Shape) (line : Line) (pairs : Pairs) (payload : List ℕ) → is_accepted shape line pairs ≡ true → IsPayloadOf (record_of_line line) payload → LogicalOf payload
logical_of shape (Good (Put cache key value)) pairs payload is made = record {
  logical = Logical PUT cache key value;
  is = ap (record_of LOGICAL) made.1 ∙ record_of-payload (Logical PUT cache key value) made.0;
  no_page = tt;
}
logical_of shape (Good (Get cache key)) pairs payload is made = absurd cc
logical_of shape (Good (Remove cache key)) pairs payload is made = record {
  logical = Logical REMOVE cache key [];
  is = ap (record_of LOGICAL) made.1 ∙ record_of-payload (Logical REMOVE cache key []) made.0;
  no_page = tt;
}
logical_of shape (Good (Scan cache)) pairs payload is made = absurd cc
logical_of shape (Good Checkpoint) pairs payload is made = absurd cc
logical_of shape Bad pairs payload is made = absurd cc
logical_of shape Long pairs payload is made = absurd cc
