use Rattle.std.proofs.Common.{◌∷◌, [], ◌<◌, ◌+◌, ◌^◌, OnOk, subst, arith}
use Rattle.pm_engine.specs.Batches.{StaysOpen}
use Rattle.pm_engine.specs.Engines.{HasLastingLinesIn}
use Rattle.pm_engine.specs.FrameBatches.{HasNumbersIn, TakesNumbersIn}
use Rattle.pm_engine.specs.RunningStores.{HasSegmentsFor, number_of}
use Rattle.pm_client.specs.Rows.{put_line, without_answer}
use Rattle.pm_client.proofs.whole.put_once.Goals as goal

-- the put lasts, and a checkpoint keeps what lasts
pub returns-in_ok-made-in-Ok : goal.returns-in_ok-made-in-Ok
returns-in_ok-made-in-Ok g c = record {
  lasts = λ t told shape pairs can few segments marks.
      let wanted = c.args.config.now.shape in
      let lines = put_line c.args.cache c.args.key c.args.value ∷ [] in
      let engine = c.in_ok-engine.engine in
      let opened = c.in_ok-engine.ensures.opened t told shape pairs can few in
      let put = c.put-engine in
      let mid = (g.H.Device.history put.new.host).world in
      let below = opened.segment in
      let before = opened.number in
      let numbers : HasNumbersIn engine 35 2 = record { in_log = omega (arith, below, segments); in_marks = omega (arith, before, marks) } in
      let lasting = subst (λ r. OnOk r (HasLastingLinesIn wanted told 0 pairs lines put.result.0 mid)) c.in-Ok.is (put.ensures.lasts t wanted told 0 pairs [] opened.runs numbers) in
      let taken = subst (λ r. StaysOpen (without_answer r) → TakesNumbersIn engine put.result.0 35 2) c.in-Ok.is put.ensures.numbers tt in
      let begun = taken.in_log in
      let made = taken.in_marks in
      let segments_left : HasSegmentsFor put.result.0.log 1 = omega (arith, below, begun, segments) in
      let marks_left : number_of put.result.0.ckpt.mark + 1 < 2 ^ 64 = omega (arith, before, made, marks) in
      record { from = 0; engine = c.checkpoint-made.new.self; lasts = c.in_ok-made-in-Ok.ensures.lines t wanted told 0 pairs lines lasting.done segments_left marks_left };
}
