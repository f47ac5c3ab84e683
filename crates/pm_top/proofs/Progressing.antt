-- What follows from how far a run has come.
use Rattle.std.proofs.Common.{◌≡◌, ◌⊎◌, inl, inr, ℕ, ◌+◌, ◌-◌, ◌<◌, ◌≤◌, Bool, true, false, List, [], ◌∷◌, ◌++◌, length, take, drop, refl, ap, sym, ◌∙◌, append_assoc, append-nil, arith, length-append}
use Rattle.std.proofs.lemmas.List.{length-map, take_at, drop_at, take_all, take-append-le}
use Rattle.std.proofs.lemmas.List.Concat.{flat_map-append}
use Rattle.std.proofs.Math.Seq.{take-append-add}
use Rattle.pm_types.specs.declared.limits.TheConstants.{SCRIPT_BYTES_MAX, LINES_MAX, BATCH_LINES_MAX}
use Rattle.pm_types.specs.declared.shape.Shape.{Shape}
use Rattle.pm_disk.specs.Worlds.{World}
use Rattle.pm_model.specs.declared.line.Line.{Line}
use Rattle.pm_model.specs.declared.reply.Reply.{Reply}
use Rattle.pm_model.specs.Eval.{Pairs, replies_to, after_all, accepted}
use Rattle.pm_model.proofs.Runs.{replies_to-append, after_all-append, length-replies_to, accepted-append}
use Rattle.pm_script.specs.Lines.{lines_of, after_line}
use Rattle.pm_script.specs.Texts.{text_of, texts_of}
use Rattle.pm_engine.specs.FrameBatches.{EndsAtReplayIn}
use Rattle.pm_engine.specs.Engines.{map_in}
use Rattle.pm_engine.specs.Batches.{asked_last, is_checkpoint}
use Rattle.pm_engine.specs.RunningLines.{SameDisk}
use Rattle.pm_top.specs.declared.run.Run.{Run}
use Rattle.pm_top.specs.Promises.{replies_of, HasAnswered}
use Rattle.pm_top.specs.ScriptOrder.{IsOrder, HasTried, IsDone, HasFailed, HasNoMemory, IsStopped}
use Rattle.pm_top.specs.Runs.{Progress, SameConsole}
use Rattle.pm_top.specs.Limits.{after_lines}
use Rattle.pm_top.specs.Served.{line_of, script_of}
use Rattle.pm_top.proofs.FrameRests.{map_beside}
use Rattle.pm_top.proofs.TakenLines.{after_lines-more}
use Rattle.pm_top.proofs.ServedLines.{script_of-first}

texts-append : (xs ys : List Reply) → texts_of (xs ++ ys) ≡ texts_of xs ++ texts_of ys
texts-append xs ys = flat_map-append text_of xs ys

module _ {start now : World} {left : List Line} {shape : Shape} {pairs : Pairs} {run : Run} (progress : Progress start now left shape pairs run) where
  -- the whole script's replies: those of what is done, and those of the rest
  pub parted : replies_of shape start.input pairs ≡ replies_to shape progress.done pairs ++ replies_to shape left (map_in run.engine now)
  parted =
      ap (λ s. replies_to shape s pairs) progress.script ∙ replies_to-append shape progress.done left pairs
      ∙ ap (λ m. replies_to shape progress.done pairs ++ replies_to shape left m) (sym progress.map)

  counted : length (replies_to shape progress.done pairs) ≡ run.lines
  counted = length-replies_to shape progress.done pairs ∙ progress.count

  told : take run.lines (replies_of shape start.input pairs) ≡ replies_to shape progress.done pairs
  told = ap (take run.lines) parted ∙ take_at _ _ run.lines counted

  pub untold : drop run.lines (replies_of shape start.input pairs) ≡ replies_to shape left (map_in run.engine now)
  untold = ap (drop run.lines) parted ∙ drop_at _ _ run.lines counted

  pub done_is : take run.lines (script_of start.input) ≡ progress.done
  done_is = ap (take run.lines) progress.script ∙ take_at _ _ run.lines progress.count

  pub script_len : length (script_of start.input) ≡ run.lines + length left
  script_len = ap length progress.script ∙ length-append progress.done left ∙ ap (λ n. n + length left) progress.count

  lines_len : length (lines_of start.input) ≡ run.lines + length left
  lines_len = sym (length-map (lines_of start.input) line_of) ∙ script_len

  pub answers_so_far : (new : World) (tail : List ℕ) → new.said ≡ now.said ++ tail → HasAnswered start new shape pairs run.lines tail
  answers_so_far new tail said = record {
    within = omega (arith, script_len);
    said = said ∙ ap (λ s. s ++ tail) (progress.said ∙ ap (λ r. start.said ++ texts_of r) (sym told));
  }

  pub same_answers : (new : World) → new.said ≡ now.said → HasAnswered start new shape pairs run.lines []
  same_answers new same = answers_so_far new [] (same ∙ sym (append-nil now.said))

  -- the lines that are done, and so many of those that are left
  pub take_more : (n : ℕ) → take (run.lines + n) (script_of start.input) ≡ progress.done ++ take n left
  take_more n = ap (take (run.lines + n)) progress.script ∙ ap (λ m. take (m + n) (progress.done ++ left)) (sym progress.count) ∙ take-append-add progress.done left n

  -- the order with so many more
  pub order_more : (n : ℕ) (order : List ℕ) → order ≡ run.engine.order ++ accepted shape (run.lines + 1) (take n left) (map_in run.engine now) → IsOrder shape start.input pairs (run.lines + n) order
  order_more n order is =
      let number : run.lines + 1 ≡ 1 + length progress.done = omega (arith, progress.count) in
      is
      ∙ ap (λ o. o ++ accepted shape (run.lines + 1) (take n left) (map_in run.engine now)) progress.order
      ∙ ap (λ k. accepted shape 1 progress.done pairs ++ accepted shape k (take n left) (map_in run.engine now)) number
      ∙ ap (λ m. accepted shape 1 progress.done pairs ++ accepted shape (1 + length progress.done) (take n left) m) progress.map
      ∙ sym (accepted-append shape 1 progress.done (take n left) pairs)
      ∙ ap (λ ls. accepted shape 1 ls pairs) (sym (take_more n))

  pub order_so_far : IsOrder shape start.input pairs run.lines run.engine.order
  order_so_far = progress.order ∙ ap (λ d. accepted shape 1 d pairs) (sym done_is)

  pub tried_so_far : HasTried shape start.input pairs run.lines run.engine.order
  tried_so_far = record { many = run.lines; from = omega arith; to = omega arith; within = omega (arith, script_len); order_is = order_so_far }

  pub tried_more : (n : ℕ) (order : List ℕ) → n ≤ BATCH_LINES_MAX → n ≤ length left → order ≡ run.engine.order ++ accepted shape (run.lines + 1) (take n left) (map_in run.engine now)
      → HasTried shape start.input pairs run.lines order
  tried_more n order few within is = record { many = run.lines + n; from = omega arith; to = omega (arith, few); within = omega (arith, within, script_len); order_is = order_more n order is }

  -- a call failed where nothing was said since
  pub failed_still : (new : World) → new.said ≡ now.said → HasFailed start new shape pairs run.lines run.engine.order
  failed_still new same = record { tail = []; answers = same_answers new same; prefix = (0, inl refl); tried = tried_so_far }

  pub memory_still : (new : World) → new.said ≡ now.said → HasNoMemory start new shape pairs run.lines run.engine.order
  memory_still new same = record { answers = same_answers new same; tried = tried_so_far }

  -- the script is answered whole
  pub finished : (new : World) → new.said ≡ now.said → left ≡ [] → new.input ≡ [] → length start.input ≤ SCRIPT_BYTES_MAX → run.lines ≤ LINES_MAX → IsDone start new shape pairs run.lines run.engine.order
  finished new same end read bytes few =
      let no_more : length left ≡ 0 = ap (λ (l : List Line). length l) end in
      record {
        answers = same_answers new same;
        order_is = order_so_far;
        all = omega (arith, script_len, no_more);
        read = read;
        limits = record { bytes = bytes; lines = omega (arith, lines_len, no_more, few) };
      }

  -- it is stopped by a limit
  pub stopped : (new : World) (rest : List ℕ) → new.said ≡ now.said → left ≡ script_of rest → rest ≡ after_lines run.lines start.input → 0 < length rest → run.lines ≤ LINES_MAX → length start.input ≤ SCRIPT_BYTES_MAX + length rest
      → (run.lines ≡ LINES_MAX) ⊎ (SCRIPT_BYTES_MAX + length (after_line rest) < length start.input) → IsStopped start new shape pairs run.lines run.engine.order []
  stopped new rest same is there some few short no_more = record {
    answers = same_answers new same;
    order_is = order_so_far;
    passes = elim no_more [
      | inl full ↦ inr (omega (arith, lines_len, ap (λ (l : List Line). length l) (is ∙ script_of-first rest some), full))
      | inr over ↦ inl (omega (arith, over))
    ];
    within = record {
      few = few;
      short = omega (arith, short, ap (λ (r : List ℕ). length r) there);
      no_more = elim no_more [ inl full ↦ inl full | inr over ↦ inr (omega (arith, over, ap (λ r. length (after_line r)) there, ap (λ (r : List ℕ). length r) (after_lines-more run.lines start.input))) ];
    };
  }

no_false : {A : Type 0} → false ≡ true → A
no_false is = absurd cc

-- whether the last one of these lines and others asks for a checkpoint
pub asked_append : (was : Bool) (lines more : List Line) → asked_last was (lines ++ more) ≡ asked_last (asked_last was lines) more
asked_append was [] more = refl
asked_append was (line ∷ lines) more = asked_append (is_checkpoint line) lines more

-- before the first line
pub begins : (start now : World) (run : Run) → SameConsole start now → run.lines ≡ 0 → run.engine.order ≡ [] → Progress start now (script_of start.input) run.engine.store.shape (map_in run.engine now) run
begins start now run same none order = record {
  done = [];
  script = refl;
  count = sym none;
  said = same.said ∙ sym (append-nil start.said);
  shape_is = refl;
  map = refl;
  order = order;
  replay = λ is. no_false is;
}

-- a progress is the same where nothing was said, and the disk is the same
pub progress_still : {start now : World} {left : List Line} {shape : Shape} {pairs : Pairs} {run : Run} → Progress start now left shape pairs run → (new : World) → SameDisk now new → new.said ≡ now.said → Progress start new left shape pairs run
progress_still {now = now} {run = run} progress new disk same = record {
  done = progress.done;
  script = progress.script;
  count = progress.count;
  said = same ∙ progress.said;
  shape_is = progress.shape_is;
  map = map_beside run.engine now new disk ∙ progress.map;
  order = progress.order;
  replay = progress.replay;
}

-- ---- one batch

module _ {start now : World} {shape : Shape} {pairs : Pairs} {run : Run} (lines left : List Line) (progress : Progress start now (lines ++ left) shape pairs run) where
  abbrev texts : List ℕ
  texts = texts_of (replies_to run.engine.store.shape lines (map_in run.engine now))

  pub texts_are : texts ≡ texts_of (replies_to shape lines (map_in run.engine now))
  texts_are = ap (λ s. texts_of (replies_to s lines (map_in run.engine now))) progress.shape_is

  pub accepted_are : (number : ℕ) (ls : List Line) → accepted run.engine.store.shape number ls (map_in run.engine now) ≡ accepted shape number ls (map_in run.engine now)
  accepted_are number ls = ap (λ s. accepted s number ls (map_in run.engine now)) progress.shape_is

  pub first_ones : (n : ℕ) → n ≤ length lines → take n (lines ++ left) ≡ take n lines
  first_ones n le = take-append-le n lines left le

  all_lines : take (length lines) (lines ++ left) ≡ lines
  all_lines = first_ones (length lines) (omega arith) ∙ take_all (length lines) lines (omega arith)

  -- so many were tried
  pub tried_some : (n : ℕ) (order : List ℕ) → length lines ≤ BATCH_LINES_MAX → n ≤ length lines → order ≡ run.engine.order ++ accepted run.engine.store.shape (run.lines + 1) (take n lines) (map_in run.engine now)
      → HasTried shape start.input pairs run.lines order
  tried_some n order few within is =
      tried_more progress n order (omega (arith, few, within)) (omega (arith, within, length-append lines left))
      (is ∙ ap (λ o. run.engine.order ++ o) (accepted_are (run.lines + 1) (take n lines) ∙ ap (λ ls. accepted shape (run.lines + 1) ls (map_in run.engine now)) (sym (first_ones n within))))

  -- the batch was done, and its replies said
  pub progress_more : (new : World) (later : Run) → new.said ≡ now.said ++ texts → later.lines ≡ run.lines + length lines → later.engine.store.shape ≡ run.engine.store.shape → map_in later.engine new ≡ after_all run.engine.store.shape lines (map_in run.engine now)
      → later.engine.order ≡ run.engine.order ++ accepted run.engine.store.shape (run.lines + 1) lines (map_in run.engine now)
      → ((was : Bool) → (was ≡ true → EndsAtReplayIn run.engine) → asked_last was lines ≡ true → EndsAtReplayIn later.engine) → Progress start new left shape pairs later
  progress_more new later said_is lines_is shape_is map_is order_is asked =
      let number : run.lines + 1 ≡ 1 + length progress.done = omega (arith, progress.count) in
      record {
        done = progress.done ++ lines;
        script = progress.script ∙ sym (append_assoc progress.done lines left);
        count = omega (arith, length-append progress.done lines, progress.count, lines_is);
        said = said_is ∙ ap (λ s. s ++ texts) progress.said ∙ append_assoc start.said (texts_of (replies_to shape progress.done pairs)) texts
            ∙ ap (λ t. start.said ++ (texts_of (replies_to shape progress.done pairs) ++ t)) (texts_are ∙ ap (λ m. texts_of (replies_to shape lines m)) progress.map)
            ∙ ap (λ t. start.said ++ t) (sym (texts-append (replies_to shape progress.done pairs) (replies_to shape lines (after_all shape progress.done pairs))) ∙ ap texts_of (sym (replies_to-append shape progress.done lines pairs)));
        shape_is = shape_is ∙ progress.shape_is;
        map = map_is ∙ ap (λ s. after_all s lines (map_in run.engine now)) progress.shape_is ∙ ap (after_all shape lines) progress.map ∙ sym (after_all-append shape progress.done lines pairs);
        order = order_is ∙ ap (λ o. run.engine.order ++ o) (accepted_are (run.lines + 1) lines)
            ∙ ap (λ o. o ++ accepted shape (run.lines + 1) lines (map_in run.engine now)) progress.order
            ∙ ap (λ k. accepted shape 1 progress.done pairs ++ accepted shape k lines (map_in run.engine now)) number
            ∙ ap (λ m. accepted shape 1 progress.done pairs ++ accepted shape (1 + length progress.done) lines m) progress.map
            ∙ sym (accepted-append shape 1 progress.done lines pairs);
        replay = λ is. asked (asked_last false progress.done) progress.replay (sym (asked_append false progress.done lines) ∙ is);
      }

  -- the batch was done, and its replies said in part
  pub failed_saying : (new : World) (n : ℕ) (order : List ℕ) → length lines ≤ BATCH_LINES_MAX → new.said ≡ now.said ++ take n texts → order ≡ run.engine.order ++ accepted run.engine.store.shape (run.lines + 1) lines (map_in run.engine now)
      → HasFailed start new shape pairs run.lines order
  unfolding tried_some tried_more
  failed_saying new n order few said_is order_is =
      let own = replies_to shape lines (map_in run.engine now) in
      let others = replies_to shape left (after_all shape lines (map_in run.engine now)) in
      let count : run.lines + length lines - run.lines ≡ length lines = omega arith in
      let next : texts_of (take (run.lines + length lines - run.lines) (drop run.lines (replies_of shape start.input pairs))) ≡ texts_of own =
      ap (λ k. texts_of (take k (drop run.lines (replies_of shape start.input pairs)))) count
      ∙ ap (λ rs. texts_of (take (length lines) rs)) (untold progress ∙ replies_to-append shape lines left (map_in run.engine now))
      ∙ ap texts_of (take_at own others (length lines) (length-replies_to shape lines (map_in run.engine now))) in
      record {
        tail = take n texts;
        answers = answers_so_far progress new (take n texts) said_is;
        tried = tried_some (length lines) order few (omega arith) (order_is ∙ ap (λ ls. run.engine.order ++ accepted run.engine.store.shape (run.lines + 1) ls (map_in run.engine now)) (sym (take_all (length lines) lines (omega arith))));
        prefix = (n, inl (ap (take n) (texts_are ∙ sym next)));
      }

  -- a fault came before anything was said
  pub failed_unsaid : (new : World) (n : ℕ) (order : List ℕ) → length lines ≤ BATCH_LINES_MAX → n ≤ length lines → new.said ≡ now.said → order ≡ run.engine.order ++ accepted run.engine.store.shape (run.lines + 1) (take n lines) (map_in run.engine now)
      → HasFailed start new shape pairs run.lines order
  failed_unsaid new n order few within same is = record { tail = []; answers = same_answers progress new same; prefix = (0, inl refl); tried = tried_some n order few within is }

  pub memory_unsaid : (new : World) (n : ℕ) (order : List ℕ) → length lines ≤ BATCH_LINES_MAX → n ≤ length lines → new.said ≡ now.said → order ≡ run.engine.order ++ accepted run.engine.store.shape (run.lines + 1) (take n lines) (map_in run.engine now)
      → HasNoMemory start new shape pairs run.lines order
  memory_unsaid new n order few within same is = record { answers = same_answers progress new same; tried = tried_some n order few within is }
