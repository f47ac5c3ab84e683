-- How far a whole checkpoint came.
use Rattle.std.proofs.Common.{◌≡◌, ℕ, max, ◌≤◌, List, ◌++◌, map, length, Bool, true, false, Option, sym, ◌∙◌, ap, subst, arith, Result, Ok, Err, get_or}
use Rattle.std.specs.Prelude.{if◌then◌else◌, All, IsErr, OnOk}
use Rattle.std.proofs.Math.Nat.{le-max_right}
use Rattle.std.proofs.lemmas.Result.{on_ok_weaker}
use Rattle.pm_types.specs.declared.page_id.PageId.{PageId}
use Rattle.pm_types.specs.declared.place.Place.{Place}
use Rattle.pm_types.specs.declared.shape.Mark.{Mark}
use Rattle.pm_types.specs.declared.shape.Shape.{Shape}
use Rattle.pm_types.specs.Ids.{part_of_id, index_of_id}
use Rattle.pm_disk.specs.Files.{File, bytes_of, content}
use Rattle.pm_disk.specs.Moments.{History, AllMoments}
use Rattle.pm_disk.specs.Worlds.{World}
use Rattle.pm_records.specs.LogSteps.{Step, DoesSteps, world_after}
use Rattle.pm_records.proofs.QuietLog.{steps_change}
use Rattle.pm_marks.specs.InForce.{Ended}
use Rattle.pm_segments.specs.Appends.{grown, roomy, rolled}
use Rattle.pm_segments.specs.Drops.{AreDropped, drop_before_steps, kept_from}
use Rattle.pm_segments.specs.Ends.{LogEnd, has_room}
use Rattle.pm_core.specs.BasePages.{Partitions, page_in_file}
use Rattle.pm_core.specs.Calls.{MakesPrefix, MakesSteps, finish_steps}
use Rattle.pm_core.specs.Held.{in_force}
use Rattle.pm_core.specs.LogAlone.{image_of}
use Rattle.pm_core.specs.Machine.{DiskStep, states, worlds}
use Rattle.pm_core.specs.Rounds.{on_log}
use Rattle.pm_core.specs.States.{State, View}
use Rattle.pm_core.specs.Stands.{MarksSay, soon_or}
use Rattle.pm_core.proofs.CrashLaw.{run_stands}
use Rattle.pm_core.proofs.Making as making
use Rattle.pm_core.proofs.Saying.{say_in_force}
use Rattle.pm_ckpt.specs.Checkpoints.{opening_steps, ending_steps, whole_steps, CanCheckpoint, MayCheckpoint, MayEnd, MakesInOrder, AreGone}
use Rattle.pm_ckpt.specs.Marked.{begin_frame, begin_of, kept_segment}
use Rattle.pm_frame.specs.Frames.{Frame}
use Rattle.pm_ckpt.specs.Writes.{Writing, written_page, write_steps, IsHeld, HaveGaps, Finishes, AreHome}
use Rattle.pm_ckpt.proofs.GoingOn.{payload_len}
use Rattle.pm_ckpt.proofs.Opening.{log_moments, log_world, makes_joined}
use Rattle.pm_ckpt.proofs.Whole.{can_end, whole_can, state_after, end_end}
use Rattle.pm_ckpt.proofs.Written.{zero_writes, zero_pages, zero_gaps}

-- ---- what the end goes by

pub may_end : (log : LogEnd) (mark : Mark) (held : Partitions) (order : List PageId) (w mid : World) → (may : MayCheckpoint log mark held order w) → All (IsHeld mark.shape.page_size held) order
    → mid ≡ worlds (opening_steps log mark may.can.rebuilt) may.state w → MayEnd mark held order mid
may_end log mark held order w mid may held_all is =
    subst (MayEnd mark held order) (sym is) (record {
      wanted = may.wanted;
      told = may.told;
      state = states (opening_steps log mark may.can.rebuilt) may.state w;
      can = can_end may.wanted may.told may.state log mark held order w may.can held_all;
    })

-- ---- how far the steps came

module _ (wanted : Shape) (told : List ℕ → ℕ) (s : State) (log : LogEnd) (mark : Mark) (held : Partitions) (order : List PageId) (old : History) (can : CanCheckpoint wanted told s log mark held order old.world)
    (held_all : All (IsHeld mark.shape.page_size held) order) where
  abbrev opening : List DiskStep
  opening = opening_steps log mark can.rebuilt

  abbrev whole : List Writing → List DiskStep
  whole xs = whole_steps log mark can.rebuilt held xs s old.world

  abbrev rest : List Writing → List DiskStep
  rest xs = write_steps held xs ++ finish_steps mark (map written_page xs)

  abbrev drops : List Writing → List Step
  drops xs = drop_before_steps (grown log (begin_frame mark)) (kept_segment mark) (worlds (ending_steps log mark can.rebuilt held xs) s old.world)

  -- up to the start marker
  pub broke_open : {V E : Type 0} (new : History) (left : Result V E) → IsErr left → AllMoments old new (MakesPrefix opening s old.world)
      → MakesInOrder {T = V} {E = E} told old new left log mark can.rebuilt held order s
  broke_open new left failed moments =
      let begun = worlds opening s old.world in
      let xs = zero_writes held order begun in
      let pages = zero_pages held order begun in
      let gaps = zero_gaps held order begun in
      record {
        writings = xs;
        pages_are = pages;
        guards = whole_can wanted told s log mark held order old.world can held_all xs pages gaps;
        leaves = state_after wanted told s log mark held order old.world can held_all xs pages gaps;
        makes = making.broke_off old new left (whole xs) s failed
            (making.moments_first old new (opening ++ rest xs) (on_log (drops xs)) s (making.moments_first old new opening (rest xs) s moments));
      }

  module _ (mid : History) (opened : AllMoments old mid (MakesPrefix opening s old.world)) (is : mid.world ≡ worlds opening s old.world) where
    module _ {T E : Type 0} (new : History) (result : Result T E) (ends : Finishes {T = T} {E = E} mid new result held order mark) where
      gaps : HaveGaps held ends.writings (worlds opening s old.world)
      gaps = subst (HaveGaps held ends.writings) is ends.gaps

      pub ending_makes : MakesSteps {T = T} {E = E} old new result (ending_steps log mark can.rebuilt held ends.writings) s
      ending_makes =
          makes_joined old mid new result opening (rest ends.writings) s opened is
          (subst (λ ps. MakesSteps {T = T} {E = E} mid new result (write_steps held ends.writings ++ finish_steps mark ps) (states opening s old.world)) (sym ends.pages_are)
          (ends.makes (states opening s old.world)))

      -- up to the end marker
      pub broke_end : {V : Type 0} (left : Result V E) → IsErr left → MakesInOrder {T = V} {E = E} told old new left log mark can.rebuilt held order s
      broke_end left failed =
          let xs = ends.writings in
          record {
            writings = xs;
            pages_are = ends.pages_are;
            guards = whole_can wanted told s log mark held order old.world can held_all xs ends.pages_are gaps;
            leaves = state_after wanted told s log mark held order old.world can held_all xs ends.pages_are gaps;
            makes = making.broke_off old new left (whole xs) s failed (making.moments_first old new (ending_steps log mark can.rebuilt held xs) (on_log (drops xs)) s ending_makes.moments);
          }

      -- and further
      module _ (done : new.world ≡ worlds (ending_steps log mark can.rebuilt held ends.writings) s old.world) {V : Type 0} (last : History) (dropped : Result V E) (grew : LogEnd) (seg : ℕ)
          (grew_is : grew ≡ grown log (begin_frame mark)) (seg_is : seg ≡ kept_segment mark) (drop : DoesSteps {T = V} {E = E} new last dropped (drop_before_steps grew seg new.world) grew.end) where
        steps_are : drop_before_steps grew seg new.world ≡ drops ends.writings
        steps_are =
            ap (λ (l : LogEnd). drop_before_steps l seg new.world) grew_is ∙ ap (λ n. drop_before_steps (grown log (begin_frame mark)) n new.world) seg_is
            ∙ ap (drop_before_steps (grown log (begin_frame mark)) (kept_segment mark)) done

        end_is : (states (ending_steps log mark can.rebuilt held ends.writings) s old.world).end ≡ grew.end
        end_is = end_end wanted told s log mark held order old.world can held_all ends.writings ends.pages_are gaps ∙ sym (ap (λ (l : LogEnd). l.end) grew_is)

        drop_makes : MakesSteps {T = V} {E = E} new last dropped (on_log (drops ends.writings)) (states (ending_steps log mark can.rebuilt held ends.writings) s old.world)
        drop_makes =
            subst (λ ss. MakesSteps {T = V} {E = E} new last dropped (on_log ss) (states (ending_steps log mark can.rebuilt held ends.writings) s old.world)) steps_are
            (record {
              all = on_ok_weaker dropped
                  (λ all. log_world new.world last.world (drop_before_steps grew seg new.world) (states (ending_steps log mark can.rebuilt held ends.writings) s old.world) grew.end end_is all) drop.all;
              moments = log_moments new last (drop_before_steps grew seg new.world) (states (ending_steps log mark can.rebuilt held ends.writings) s old.world) grew.end end_is drop.moments;
            })

        whole_makes : MakesSteps {T = V} {E = E} old last dropped (whole ends.writings) s
        whole_makes = makes_joined old new last dropped (ending_steps log mark can.rebuilt held ends.writings) (on_log (drops ends.writings)) s ending_makes.moments done drop_makes

        pub broke_drop : {U : Type 0} (left : Result U E) → IsErr left → MakesInOrder {T = U} {E = E} told old last left log mark can.rebuilt held order s
        broke_drop left failed = record {
          writings = ends.writings;
          pages_are = ends.pages_are;
          guards = whole_can wanted told s log mark held order old.world can held_all ends.writings ends.pages_are gaps;
          leaves = state_after wanted told s log mark held order old.world can held_all ends.writings ends.pages_are gaps;
          makes = making.broke_off old last left (whole ends.writings) s failed whole_makes.moments;
        }

        abbrev IsDone : Type 0
        IsDone = last.world ≡ worlds (whole_steps log mark can.rebuilt held ends.writings s old.world) s old.world

        -- all of them were made
        pub made : {U F : Type 0} (result : Result U F) → (OnOk dropped IsDone → IsDone) → MakesInOrder {T = U} {E = F} told old last result log mark can.rebuilt held order s
        made result was_ok = record {
          writings = ends.writings;
          pages_are = ends.pages_are;
          guards = whole_can wanted told s log mark held order old.world can held_all ends.writings ends.pages_are gaps;
          leaves = state_after wanted told s log mark held order old.world can held_all ends.writings ends.pages_are gaps;
          makes = record { all = always result (was_ok whole_makes.all); moments = whole_makes.moments };
        }
          where
            always : {U F P : Type 0} (result : Result U F) → P → OnOk result P
            always (Ok x) p = p
            always (Err e) p = tt

        -- the checkpoint is in force
        pub in_force_after : (OnOk dropped IsDone → IsDone) → in_force (image_of last.world) ≡ Ended mark
        in_force_after was_ok =
            let steps = whole_steps log mark can.rebuilt held ends.writings s old.world in
            let after = states steps s old.world in
            let world = worlds steps s old.world in
            let leaves = state_after wanted told s log mark held order old.world can held_all ends.writings ends.pages_are gaps in
            let stands = run_stands wanted told steps s old.world can.stands (whole_can wanted told s log mark held order old.world can held_all ends.writings ends.pages_are gaps) in
            let starts = bytes_of (content world.starts) in
            let end_marks = bytes_of (content world.ends) in
            let says : MarksSay (Ended mark) starts end_marks =
            subst (λ c. MarksSay c starts end_marks) leaves.checkpoint (subst (λ (o : Option View). MarksSay (soon_or o after.now).checkpoint starts end_marks) leaves.alone stands.reads) in
            ap (λ (v : World). in_force (image_of v)) (was_ok whole_makes.all) ∙ say_in_force (Ended mark) starts end_marks says

-- ---- what the drops leave

-- pages stay where they are
pub home_stays : (size : ℕ) (held : Partitions) (order : List PageId) (old new : World) → new.pages ≡ old.pages → AreHome size held order old → AreHome size held order new
home_stays size held order old new same home = record {
  quiet = λ k d lt. ap (λ (files : ℕ → File). (files (part_of_id (get_or order k d))).since) same ∙ home.quiet k d lt;
  stand = λ k d lt. ap (λ (files : ℕ → File). page_in_file size (files (part_of_id (get_or order k d))).forced (index_of_id (get_or order k d))) same ∙ home.stand k d lt;
}

pub drops_pages : (old new : World) (steps : List Step) (end : Place) → new ≡ world_after steps end old → new.pages ≡ old.pages
drops_pages old new steps end is = ap (λ (w : World). w.pages) is ∙ (steps_change steps end old).pages

-- the segment in which the begin of a checkpoint is, the log ends in
pub grown_seg : (log : LogEnd) (mark : Mark) → mark.begin ≡ begin_of log → mark.begin.seg ≡ (grown log (begin_frame mark)).end.seg
grown_seg log mark is = ap (λ (p : Place). p.seg) is ∙ ap (λ n. (roomy log n).end.seg) (sym (payload_len mark.number mark.replay))

grown_first : (log : LogEnd) (frame : Frame) → (grown log frame).first ≤ log.first
grown_first log frame = by (has_room log (length frame.payload))
  where
    by : (b : Bool) → (if b then log else rolled log).first ≤ log.first
    by true = omega arith
    by false = omega arith

pub are_gone : (log grew left : LogEnd) (mark : Mark) (old new : World) → grew ≡ grown log (begin_frame mark) → left ≡ kept_from (kept_segment mark) grew → AreDropped grew.first left.first old new → AreGone log mark new
are_gone log grew left mark old new grew_is left_is dropped seg le lt =
    let first : grew.first ≤ log.first = omega (arith, ap (λ (l : LogEnd). l.first) grew_is, grown_first log (begin_frame mark)) in
    let last : left.first ≡ max grew.first (kept_segment mark) = ap (λ (l : LogEnd). l.first) left_is in
    dropped.gone seg (omega (arith, le, first)) (omega (arith, lt, last, le-max_right grew.first (kept_segment mark)))
