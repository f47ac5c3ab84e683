-- What is done to the one segment leaves the other.
use Rattle.std.proofs.Common.{◌≡◌, ℕ, List, ◌∙◌, ap}
use Rattle.std.specs.Prelude.{◌≢◌}
use Rattle.std.proofs.lemmas.Result.{on_ok_weaker}
use Rattle.pm_disk.specs.Files.{File, Write, Cut, with_change, all_forced}
use Rattle.pm_disk.specs.Worlds.{World, log_changed, log_forced}
use Rattle.pm_disk.proofs.Families.{changed_here, changed_there, forced_here}
use Rattle.pm_tests_hosts.proofs.memory_images.writes_two.Goals as goal

-- both are cut, both are written, and the first is forced
forced_one : (seg other : ℕ) (bytes : List ℕ) (w0 w1 w2 w3 w4 w5 : World) → seg ≢ other → w1 ≡ log_changed seg (Cut 0) w0 → w2 ≡ log_changed other (Cut 0) w1 → w3 ≡ log_changed seg (Write 0 bytes) w2
    → w4 ≡ log_changed other (Write 0 bytes) w3 → w5 ≡ log_forced seg w4 → w5.log seg ≡ all_forced (with_change (with_change (w0.log seg) (Cut 0)) (Write 0 bytes))
forced_one seg other bytes w0 w1 w2 w3 w4 w5 apart cut cut_other written written_other forced =
    let log : World → File = λ w. w.log seg in
    let first : log w1 ≡ with_change (log w0) (Cut 0) = ap log cut ∙ changed_here seg (Cut 0) w0 in
    let second : log w2 ≡ log w1 = ap log cut_other ∙ changed_there other seg (Cut 0) w1 apart in
    let third : log w3 ≡ with_change (log w2) (Write 0 bytes) = ap log written ∙ changed_here seg (Write 0 bytes) w2 in
    let fourth : log w4 ≡ log w3 = ap log written_other ∙ changed_there other seg (Write 0 bytes) w3 apart in
    ap log forced ∙ forced_here seg w4 ∙ ap all_forced (fourth ∙ third ∙ ap (λ (f : File). with_change f (Write 0 bytes)) (second ∙ first))

pub returns-clause-forced : goal.returns-clause-forced
returns-clause-forced g c = λ t.
    let at = g.L.Device.history in
    let last = λ (is : (at c.force_log.new.self).world ≡ log_forced c.args.forced (at c.write_log-2.new.self).world).
    forced_one c.args.forced c.args.pending c.args.bytes.now (at c.args.log.now).world (at c.cut_log.new.self).world (at c.cut_log-2.new.self).world (at c.write_log.new.self).world (at c.write_log-2.new.self).world (at c.force_log.new.self).world c.requires.apart
    (c.in_ok-cut_log.ensures.does t).ok (c.in_ok-cut_log-2.ensures.does t).ok (c.in_ok-write_log.ensures.does t).ok (c.in_ok-write_log-2.ensures.does t).ok is in
    on_ok_weaker c.force_log.result last (c.force_log.ensures.does t).ok
