use Rattle.std.proofs.Common.{◌≡◌, ◌<◌, ◌++◌, ◌∷◌, [], ◌∙◌, ℕ, Option, List, length, refl, ap, subst, arith, length-append}
use Rattle.std.proofs.lemmas.Result.{err_from_is_err_and}
use Rattle.pm_frame.specs.Frames.{Frame}
use Rattle.pm_logger.specs.LogCalls.{AppendFrame, MakesCalls, BreaksOff}
use Rattle.pm_records.specs.Operations.{frame_of, record_bytes}
use Rattle.pm_logger.specs.Writers.{writer}
use Rattle.pm_logger.proofs.LaterStates.{same_state, later_state}
use Rattle.pm_logger.proofs.RecordBytes.{record_longer}
use Rattle.pm_logger.proofs.RecordLoop.{records_begin, records_more, records_done, records_broke}
use Rattle.pm_logger.proofs.append.append_records.Goals as goal

pub each-init : goal.each-init
each-init g c = record {
  so_far = records_begin (writer (g.L.Device.history c.args.dev.now) c.args.log.now c.args.tally.now) c.args.line c.args.records.now c.requires.records (g.L.Device.sound c.args.dev.now) c.requires.end;
  state = same_state;
  since = refl;
}

shorter : (f : Frame) (bytes rest : List ℕ) → bytes ≡ record_bytes f ++ rest → length rest < length bytes
shorter f bytes rest e = omega (arith, ap length e, length-append (record_bytes f) rest, record_longer f)

pub each-smaller : goal.each-smaller
each-smaller g c = shorter (frame_of c.in-Some.first.kind c.in-Some.first.payload.now) c.each.rest.now c.in-Some.first.rest.now c.in-Some.ensures.spelled

pub each-preserved : goal.each-preserved
each-preserved g c =
    let f = frame_of c.in-Some.first.kind c.in-Some.first.payload.now in
    let v = c.each.invariant in
    let between = writer (g.L.Device.history c.each.dev) c.each.log c.each.tally in
    let now = writer (g.L.Device.history c.append_record.new.dev) c.append_record.new.log c.append_record.new.tally in
    let makes = subst (λ (l : Option ℕ). MakesCalls g.L.Device.tells between now (AppendFrame l f ∷ [])) c.named_line-named.ensures c.in_ok-append_record.ensures.appended in
    record {
      so_far = records_more c.in-Some.first.rest.now v.so_far f c.in-Some.ensures.logged c.in-Some.ensures.spelled c.names_line-is_named.ensures makes;
      state = later_state v.state c.append_record.ensures.cause;
      since = c.append_record.ensures.since ∙ v.since;
    }

pub returns-clause-appended : goal.returns-clause-appended
returns-clause-appended g c frames spelled = records_done c.each.invariant.so_far c.in_default.ensures.none frames spelled

pub returns-in_err-append_record-clause-appended : goal.returns-in_err-append_record-clause-appended
returns-in_err-append_record-clause-appended g c =
    let f = frame_of c.in-Some.first.kind c.in-Some.first.payload.now in
    let between = writer (g.L.Device.history c.each.dev) c.each.log c.each.tally in
    let now = writer (g.L.Device.history c.append_record.new.dev) c.append_record.new.log c.append_record.new.tally in
    let broke = subst (λ (l : Option ℕ). BreaksOff g.L.Device.tells between now (AppendFrame l f ∷ [])) c.named_line-named.ensures c.in_err-append_record.ensures.appended in
    let p = err_from_is_err_and c.from_residual.result c.from_residual.ensures.1 in
    rw p.1 (records_broke c.in-Some.first.rest.now c.each.invariant.so_far f c.in-Some.ensures.logged c.in-Some.ensures.spelled broke)
