-- The lines of a round are done one after the other, until one stops.
use Rattle.std.proofs.Common.{◌≡◌, ◌∙◌, sym, arith}
use Rattle.std.specs.Prelude.{Some, slice_get}
use Rattle.std.proofs.lemmas.Option.{slice_get-get_or}
use Rattle.pm_engine.proofs.FrameChains.{so_far_begins, so_far_more, so_far_stops, so_far_ends, line_still}
use Rattle.pm_engine.proofs.frame_rounds.lines_in_frames.Goals as goal

pub lines-init : goal.lines-init
lines-init g c = so_far_begins g.R.Device.tells g.R.Device.history g.R.Device.state c.args.first c.args.from c.args.lines.now c.args.bound.now c.args.replies.now c.requires.between c.requires.room

pub line_in_frames-requires-clause-between : goal.line_in_frames-requires-clause-between
line_in_frames-requires-clause-between g c = c.lines.invariant.done.between

pub line_in_frames-requires-clause-shape : goal.line_in_frames-requires-clause-shape
line_in_frames-requires-clause-shape g c = c.requires.shape ∙ sym c.lines.invariant.done.same.shape

pub line_in_frames-requires-clause-line : goal.line_in_frames-requires-clause-line
line_in_frames-requires-clause-line g c =
    let line = c.index-lines-at.result in
    let there : slice_get c.args.lines.now c.lines.at ≡ Some line = slice_get-get_or c.args.lines.now c.lines.at line c.lines-test.true ∙ (λ i. Some (sym c.index-lines-at.is i)) in
    line_still g.R.Device.tells g.R.Device.history g.R.Device.state c.args.bound.now c.lines.bound line c.lines.invariant.done.same (c.requires.lines c.lines.at line there)

pub line_in_frames-requires-clause-spare : goal.line_in_frames-requires-clause-spare
line_in_frames-requires-clause-spare g c = omega (arith, c.lines.invariant.room, c.lines-test.true)

pub lines-preserved : goal.lines-preserved
lines-preserved g c =
    so_far_more g.R.Device.tells g.R.Device.history g.R.Device.state c.args.first c.args.from c.args.lines.now c.args.bound.now c.lines.bound c.line_in_frames.new.bound c.args.replies.now c.lines.replies c.line_in_frames.new.replies c.lines.at _
    c.index-lines-at.result c.lines.invariant c.lines-test.true (omega (arith, c.requires.numbers, c.lines-test.true)) c.in_default.field-0 c.index-lines-at.is c.in_default.ensures

pub returns-in-Err : goal.returns-in-Err
returns-in-Err g c =
    so_far_stops g.R.Device.tells g.R.Device.history g.R.Device.state c.args.first c.args.from c.args.lines.now c.args.bound.now c.lines.bound c.line_in_frames.new.bound c.args.replies.now c.lines.replies c.line_in_frames.new.replies c.lines.at _
    c.index-lines-at.result c.lines.invariant c.lines-test.true (omega (arith, c.requires.numbers, c.lines-test.true)) c.in-Err.stop c.index-lines-at.is c.in-Err.ensures

pub returns : goal.returns
returns g c =
    so_far_ends g.R.Device.tells g.R.Device.history g.R.Device.state c.args.first c.args.from c.args.lines.now c.args.bound.now c.lines.bound c.args.replies.now c.lines.replies c.lines.at c.lines.invariant
    (omega (arith, c.lines-test.false, c.lines.auto.at-end, c.requires.from))
