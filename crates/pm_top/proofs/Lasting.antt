-- What a crash leaves holds what was acknowledged.
use Rattle.std.proofs.Common.{◌≡◌, ℕ, zero, suc, ◌+◌, ◌-◌, ◌≤◌, List, [], ◌∷◌, ◌++◌, length, take, drop, refl, ap, sym, ◌∙◌, subst, append_assoc, append-nil, arith, length-append}
use Rattle.std.proofs.lemmas.List.{take_at, drop_at, take_all, take-append-le, take-append-drop, length-take}
use Rattle.std.proofs.Math.Seq.{take-append-add}
use Rattle.pm_types.specs.declared.shape.Shape.{Shape}
use Rattle.pm_disk.specs.Worlds.{World, with_said}
use Rattle.pm_disk.specs.Images.{Image}
use Rattle.pm_model.specs.declared.line.Line.{Line}
use Rattle.pm_model.specs.Eval.{Pairs, replies_to, after_all, accepted}
use Rattle.pm_model.proofs.Runs.{after_all-append, replies_to-append, length-replies_to, accepted-append}
use Rattle.pm_script.specs.Texts.{texts_of}
use Rattle.pm_top.specs.declared.run.Run.{Run}
use Rattle.pm_top.specs.ScriptOrder.{CrashHoldsAcknowledged, HoldsAfter, after_numbers, acknowledged_count}
use Rattle.pm_engine.specs.Engines.{map_in}
use Rattle.pm_engine.specs.RunningLines.{HoldsPrefix, SameDisk}
use Rattle.pm_top.specs.Crashes.{CrashKeeps, SoundUpTo, begun}
use Rattle.pm_top.specs.Promises.{replies_of}
use Rattle.pm_top.specs.ScriptOrder.{IsOrder}
use Rattle.pm_top.specs.Runs.{Progress}
use Rattle.pm_top.specs.Crashes.{acknowledged}
use Rattle.pm_top.specs.Crashes as whole
use Rattle.pm_model.specs.Orders as orders
use Rattle.std.specs.List.{All, Contains}
use Rattle.pm_top.specs.Served.{script_of}
use Rattle.pm_top.proofs.FrameRests.{is_beside}
use Rattle.pm_top.proofs.Orders.{after_accepted, begun-texts, begun_nothing, begun_within, take_none, none_acknowledged, BeginsNone, fault_line}
use Rattle.pm_top.proofs.Progressing.{parted, script_len, take_more, order_so_far, order_more, first_ones, accepted_are, texts_are}

-- ---- lists

-- the first lines, and more of them
parts : (script : List Line) (k d : ℕ) → k ≤ length script → take (k + d) script ≡ take k script ++ take d (drop k script)
parts script k d le =
    let count : length (take k script) ≡ k = omega (arith, length-take k script, le) in
    ap (take (k + d)) (sym (take-append-drop k script)) ∙ ap (λ n. take (n + d) (take k script ++ drop k script)) (sym count) ∙ take-append-add (take k script) (drop k script) d

pub accepted_parts : (shape : Shape) (script : List Line) (pairs : Pairs) (k d : ℕ) → k ≤ length script
    → accepted shape 1 (take (k + d) script) pairs ≡ accepted shape 1 (take k script) pairs ++ accepted shape (1 + length (take k script)) (take d (drop k script)) (after_all shape (take k script) pairs)
accepted_parts shape script pairs k d le = ap (λ ls. accepted shape 1 ls pairs) (parts script k d le) ∙ accepted-append shape 1 (take k script) (take d (drop k script)) pairs

accepted_le : (shape : Shape) (script : List Line) (pairs : Pairs) (b k : ℕ) → b ≤ k → k ≤ length script → length (accepted shape 1 (take b script) pairs) ≤ length (accepted shape 1 (take k script) pairs)
accepted_le shape script pairs b k le within =
    let sum : b + (k - b) ≡ k = omega (arith, le) in
    let same = ap (λ n. length (accepted shape 1 (take n script) pairs)) (sym sum) ∙ ap length (accepted_parts shape script pairs b (k - b) (omega (arith, le, within))) in
    omega (arith, same, length-append (accepted shape 1 (take b script) pairs) (accepted shape (1 + length (take b script)) (take (k - b) (drop b script)) (after_all shape (take b script) pairs)))

-- a prefix of the ones of the first ones
pub take_take : (a b : ℕ) (xs : List Line) → a ≤ b → take a (take b xs) ≡ take a xs
take_take zero b xs le = take_none (take b xs) ∙ sym (take_none xs)
take_take (suc a) zero xs le = absurd (omega (arith, le))
take_take (suc a) (suc b) [] le = refl
take_take (suc a) (suc b) (x ∷ xs) le = ap (λ ys. x ∷ ys) (take_take a b xs (omega (arith, le)))

-- ---- images

-- what holds the map after the first so many lines, where no more than these are acknowledged, and the order has at least these
holds_after : (wanted : Shape) (last number : ℕ) (start : World) (shape : Shape) (pairs : Pairs) (order : List ℕ) (w : World) (image : Image) (k d : ℕ) → k + d ≤ length (script_of start.input) → IsOrder shape start.input pairs (k + d) order
    → acknowledged_count start shape pairs w ≤ length (accepted shape 1 (take k (script_of start.input)) pairs) → SoundUpTo wanted last number image shape (after_all shape (take k (script_of start.input)) pairs)
    → HoldsAfter wanted last number start shape pairs order w image
holds_after wanted last number start shape pairs order w image k d within is has holds =
    let script = script_of start.input in
    let first = accepted shape 1 (take k script) pairs in
    let more = accepted shape (1 + length (take k script)) (take d (drop k script)) (after_all shape (take k script) pairs) in
    let order_is : order ≡ first ++ more = is ∙ accepted_parts shape script pairs k d (omega (arith, within)) in
    let front : take (length first) order ≡ first = ap (take (length first)) order_is ∙ take_at first more (length first) refl in
    let map : after_numbers shape first script pairs ≡ after_all shape (take k script) pairs =
    ap (λ s. after_numbers shape first s pairs) (sym (take-append-drop k script)) ∙ after_accepted shape [] (take k script) (drop k script) pairs in
    record {
      count = length first;
      fits = omega (arith, ap length order_is, length-append first more);
      has = has;
      holds = subst (SoundUpTo wanted last number image shape) (sym (ap (λ o. after_numbers shape o script pairs) front ∙ map)) holds;
    }

-- a longer order keeps what a shorter one keeps
pub order_longer : (wanted : Shape) (last number : ℕ) (start : World) (shape : Shape) (pairs : Pairs) (order more : List ℕ) (w : World) → CrashHoldsAcknowledged wanted last number start shape pairs order w → CrashHoldsAcknowledged wanted last number start shape pairs (order ++ more) w
order_longer wanted last number start shape pairs order more w keeps image leaves honest =
    let h = keeps image leaves honest in
    record {
      count = h.count;
      fits = omega (arith, h.fits, length-append order more);
      has = h.has;
      holds = subst (λ o. SoundUpTo wanted last number image shape (after_numbers shape o (script_of start.input) pairs)) (sym (take-append-le h.count order more h.fits)) h.holds;
    }

-- what was said is no file
pub keeps_said : (wanted : Shape) (last number : ℕ) (shape : Shape) (pairs : Pairs) (lines : List Line) (bytes : List ℕ) (w : World) → CrashKeeps wanted last number shape pairs lines w → CrashKeeps wanted last number shape pairs lines (with_said bytes w)
keeps_said wanted last number shape pairs lines bytes w keeps image leaves honest =
    keeps image (record { log = leaves.log; pages = leaves.pages; starts = leaves.starts; ends = leaves.ends })
    (record { frames = honest.frames; starts = honest.starts; ends = honest.ends })

-- nor is the input
pub keeps_beside : (wanted : Shape) (last number : ℕ) (shape : Shape) (pairs : Pairs) (lines : List Line) (old w : World) → SameDisk old w → CrashKeeps wanted last number shape pairs lines old → CrashKeeps wanted last number shape pairs lines w
keeps_beside wanted last number shape pairs lines old w same keeps = subst (CrashKeeps wanted last number shape pairs lines) (is_beside old w same) (λ image leaves honest.
    keeps image (record { log = leaves.log; pages = leaves.pages; starts = leaves.starts; ends = leaves.ends })
    (record { frames = honest.frames; starts = honest.starts; ends = honest.ends }))

-- what a prefix holds, with its bounds
pub held_by : {last number : ℕ} {wanted shape : Shape} {start : Pairs} {lines : List Line} {image : Image} → HoldsPrefix last number wanted shape start lines image
    → (count : ℕ) × (count ≤ length lines) × SoundUpTo wanted last number image shape (after_all shape (take count lines) start)
held_by held = (held.count, held.within, (held.sound, held.up_to _ _ held.sound))

-- the map of all lines, where it is the only one
pub only_map : (wanted : Shape) (last number : ℕ) (shape : Shape) (pairs : Pairs) (image : Image) → (count : ℕ) × (count ≤ 0) × SoundUpTo wanted last number image shape (after_all shape (take count []) pairs) → SoundUpTo wanted last number image shape pairs
only_map wanted last number shape pairs image h = subst (SoundUpTo wanted last number image shape) (ap (λ ls. after_all shape ls pairs) (take_all h.0 [] (omega arith))) h.2

-- ---- while no line is answered

-- nothing was said
pub none_said : (start : World) (shape : Shape) (pairs : Pairs) (w : World) → w.said ≡ start.said → acknowledged start shape pairs w ≡ []
none_said start shape pairs w same =
    let script = script_of start.input in
    let nothing : drop (length start.said) w.said ≡ [] = ap (drop (length start.said)) (same ∙ sym (append-nil start.said)) ∙ drop_at start.said [] (length start.said) refl in
    ap (λ b. accepted shape 1 (take (begun (replies_to shape script pairs) b) script) pairs) nothing
    ∙ ap (λ n. accepted shape 1 (take n script) pairs) (begun_nothing (replies_to shape script pairs)) ∙ ap (λ ls. accepted shape 1 ls pairs) (take_none script)

-- a fault was told
pub none_refused : (start : World) (shape : Shape) (pairs : Pairs) (c : ℕ) (bytes : List ℕ) (n : ℕ) → BeginsNone c → acknowledged start shape pairs (with_said (take n (fault_line c bytes)) start) ≡ []
none_refused start shape pairs c bytes n none_with =
    let script = script_of start.input in
    let said = take n (fault_line c bytes) in
    let after_text : drop (length start.said) (start.said ++ said) ≡ said = drop_at start.said said (length start.said) refl in
    ap (λ b. accepted shape 1 (take (begun (replies_to shape script pairs) b) script) pairs) after_text
    ∙ none_acknowledged shape 1 script pairs n c bytes none_with

-- so a crash leaves the map of the start
pub idle_keeps : (wanted : Shape) (last number : ℕ) (start : World) (shape : Shape) (pairs : Pairs) (order : List ℕ) (w : World) → acknowledged start shape pairs w ≡ [] → CrashKeeps wanted last number shape pairs [] w → whole.CrashHoldsAcknowledged wanted last number start shape pairs order w
idle_keeps wanted last number start shape pairs order w none keeps image leaves honest = record {
  count = 0;
  has = subst (λ (ns : List ℕ). All (Contains (take 0 order)) ns) (sym none) (λ k d few. absurd (omega (arith, few)));
  holds = subst (λ (o : List ℕ). SoundUpTo wanted last number image shape (orders.after_numbers shape o 1 (script_of start.input) pairs)) (sym (take_none order)) (only_map wanted last number shape pairs image (held_by (keeps image leaves honest)));
}

-- ---- on the way

module _ {start now : World} {left : List Line} {shape : Shape} {pairs : Pairs} {run : Run} (progress : Progress start now left shape pairs run) where
  -- what was said since the start
  said_since : (w : World) (tail : List ℕ) → w.said ≡ now.said ++ tail → drop (length start.said) w.said ≡ texts_of (replies_to shape progress.done pairs) ++ tail
  said_since w tail is =
      let texts = texts_of (replies_to shape progress.done pairs) in
      ap (drop (length start.said)) (is ∙ ap (λ s. s ++ tail) progress.said ∙ append_assoc start.said texts tail)
      ∙ drop_at start.said (texts ++ tail) (length start.said) refl

  -- how many replies began
  pub begun_since : (w : World) (tail : List ℕ) → w.said ≡ now.said ++ tail
      → begun (replies_of shape start.input pairs) (drop (length start.said) w.said) ≡ run.lines + begun (replies_to shape left (map_in run.engine now)) tail
  begun_since w tail is =
      let replies = replies_to shape progress.done pairs in
      let more = replies_to shape left (map_in run.engine now) in
      ap (begun (replies_of shape start.input pairs)) (said_since w tail is)
      ∙ ap (λ r. begun r (texts_of replies ++ tail)) (parted progress)
      ∙ begun-texts replies more tail
      ∙ ap (λ n. n + begun more tail) (length-replies_to shape progress.done pairs ∙ progress.count)

  -- no more lines are acknowledged
  acknowledged_within : (w : World) (tail : List ℕ) (k : ℕ) → w.said ≡ now.said ++ tail → run.lines + begun (replies_to shape left (map_in run.engine now)) tail ≤ k → k ≤ length (script_of start.input)
      → acknowledged_count start shape pairs w ≤ length (accepted shape 1 (take k (script_of start.input)) pairs)
  acknowledged_within w tail k is le within =
      accepted_le shape (script_of start.input) pairs (begun (replies_of shape start.input pairs) (drop (length start.said) w.said)) k (omega (arith, le, begun_since w tail is)) within

  -- the map after so many more lines
  map_more : (n : ℕ) → after_all shape (take (run.lines + n) (script_of start.input)) pairs ≡ after_all shape (take n left) (map_in run.engine now)
  map_more n = ap (λ ls. after_all shape ls pairs) (take_more progress n) ∙ after_all-append shape progress.done (take n left) pairs ∙ ap (after_all shape (take n left)) (sym progress.map)

  -- between two batches
  pub keeps_rest : (wanted : Shape) (last number : ℕ) (w : World) → w.said ≡ now.said → CrashKeeps wanted last number run.engine.store.shape (map_in run.engine now) [] w → CrashHoldsAcknowledged wanted last number start shape pairs run.engine.order w
  keeps_rest wanted last number w same keeps image leaves honest =
      let map : after_all shape (take (run.lines + 0) (script_of start.input)) pairs ≡ (map_in run.engine now) = map_more 0 ∙ ap (λ ls. after_all shape ls (map_in run.engine now)) (take_none left) in
      let holds = only_map wanted last number shape (map_in run.engine now) image (subst (λ s. (count : ℕ) × (count ≤ 0) × SoundUpTo wanted last number image s (after_all s (take count []) (map_in run.engine now))) progress.shape_is (held_by (keeps image leaves honest))) in
      let here : run.lines + 0 ≡ run.lines = omega arith in
      let there : run.lines ≡ run.lines + 0 + 0 = omega arith in
      holds_after wanted last number start shape pairs run.engine.order w image (run.lines + 0) 0 (omega (arith, script_len progress)) (subst (λ n. IsOrder shape start.input pairs n run.engine.order) there (order_so_far progress))
      (acknowledged_within w [] (run.lines + 0) (same ∙ sym (append-nil now.said)) (omega (arith, begun_nothing (replies_to shape left (map_in run.engine now)))) (omega (arith, script_len progress)))
      (subst (SoundUpTo wanted last number image shape) (sym map) holds)

-- ---- while a batch is done

module _ {start now : World} {shape : Shape} {pairs : Pairs} {run : Run} (lines left : List Line) (progress : Progress start now (lines ++ left) shape pairs run) (count : ℕ) (within : count ≤ length lines) (order : List ℕ)
    (is : order ≡ run.engine.order ++ accepted run.engine.store.shape (run.lines + 1) (take count lines) (map_in run.engine now)) where
  its_order : IsOrder shape start.input pairs (run.lines + count) order
  its_order = order_more progress count order
      (is ∙ ap (λ o. run.engine.order ++ o) (accepted_are lines left progress (run.lines + 1) (take count lines) ∙ ap (λ ls. accepted shape (run.lines + 1) ls (map_in run.engine now)) (sym (first_ones lines left progress count within))))

  long : run.lines + count ≤ length (script_of start.input)
  long = omega (arith, within, script_len progress, length-append lines left)

  -- before anything is said
  pub keeps_doing : (wanted : Shape) (last number : ℕ) (w : World) → w.said ≡ now.said → CrashKeeps wanted last number run.engine.store.shape (map_in run.engine now) (take count lines) w → CrashHoldsAcknowledged wanted last number start shape pairs order w
  keeps_doing wanted last number w same keeps image leaves honest =
      let h = subst (λ s. (m : ℕ) × (m ≤ length (take count lines)) × SoundUpTo wanted last number image s (after_all s (take m (take count lines)) (map_in run.engine now))) progress.shape_is (held_by (keeps image leaves honest)) in
      let m = h.0 in
      let few : m ≤ count = omega (arith, h.1, length-take count lines) in
      let nested : take m (take count lines) ≡ take m (lines ++ left) = take_take m count lines few ∙ sym (first_ones lines left progress m (omega (arith, few, within))) in
      let map : after_all shape (take (run.lines + m) (script_of start.input)) pairs ≡ after_all shape (take m (take count lines)) (map_in run.engine now) = map_more progress m ∙ ap (λ ls. after_all shape ls (map_in run.engine now)) (sym nested) in
      let sum : run.lines + count ≡ run.lines + m + (count - m) = omega (arith, few) in
      holds_after wanted last number start shape pairs order w image (run.lines + m) (count - m) (omega (arith, long, few)) (subst (λ n. IsOrder shape start.input pairs n order) sum its_order)
      (acknowledged_within progress w [] (run.lines + m) (same ∙ sym (append-nil now.said)) (omega (arith, begun_nothing (replies_to shape (lines ++ left) (map_in run.engine now)))) (omega (arith, long, few)))
      (subst (SoundUpTo wanted last number image shape) (sym map) h.2)

-- ---- while its replies are said

module _ {start now : World} {shape : Shape} {pairs : Pairs} {run : Run} (lines left : List Line) (progress : Progress start now (lines ++ left) shape pairs run) (order : List ℕ)
    (is : order ≡ run.engine.order ++ accepted run.engine.store.shape (run.lines + 1) lines (map_in run.engine now)) where
  all_order : IsOrder shape start.input pairs (run.lines + length lines) order
  all_order = its_order lines left progress (length lines) (omega arith) order (is ∙ ap (λ ls. run.engine.order ++ accepted run.engine.store.shape (run.lines + 1) ls (map_in run.engine now)) (sym (take_all (length lines) lines (omega arith))))

  pub keeps_saying : (wanted : Shape) (last number : ℕ) (w : World) (n : ℕ) → w.said ≡ now.said ++ take n (texts_of (replies_to run.engine.store.shape lines (map_in run.engine now))) → CrashKeeps wanted last number run.engine.store.shape (after_all run.engine.store.shape lines (map_in run.engine now)) [] w
      → CrashHoldsAcknowledged wanted last number start shape pairs order w
  keeps_saying wanted last number w n said keeps image leaves honest =
      let k : ℕ = run.lines + length lines in
      let map : after_all shape (take k (script_of start.input)) pairs ≡ after_all shape lines (map_in run.engine now) =
      map_more progress (length lines) ∙ ap (λ ls. after_all shape ls (map_in run.engine now)) (first_ones lines left progress (length lines) (omega arith) ∙ take_all (length lines) lines (omega arith)) in
      let holds = only_map wanted last number shape (after_all shape lines (map_in run.engine now)) image
      (subst (λ s. (count : ℕ) × (count ≤ 0) × SoundUpTo wanted last number image s (after_all s (take count []) (after_all s lines (map_in run.engine now)))) progress.shape_is (held_by (keeps image leaves honest))) in
      let own = replies_to shape lines (map_in run.engine now) in
      let others = replies_to shape left (after_all shape lines (map_in run.engine now)) in
      let tail : List ℕ = take n (texts_of own) in
      let few : begun (replies_to shape (lines ++ left) (map_in run.engine now)) tail ≤ length lines =
      omega (arith, ap (λ rs. begun rs tail) (replies_to-append shape lines left (map_in run.engine now)), begun_within own others n, length-replies_to shape lines (map_in run.engine now)) in
      let within : k ≤ length (script_of start.input) = omega (arith, script_len progress, length-append lines left) in
      let sum : k ≡ k + 0 = omega arith in
      holds_after wanted last number start shape pairs order w image k 0 (omega (arith, within)) (subst (λ m. IsOrder shape start.input pairs m order) sum all_order)
      (acknowledged_within progress w tail k (said ∙ ap (λ t. now.said ++ take n t) (texts_are lines left progress)) (omega (arith, few)) within)
      (subst (SoundUpTo wanted last number image shape) (sym map) holds)
