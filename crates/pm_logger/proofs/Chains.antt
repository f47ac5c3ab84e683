-- How calls on the log follow each other.
use Rattle.std.proofs.Common.{◌≡◌, ℕ, zero, suc, ◌+◌, ◌<◌, ◌≤◌, List, [], ◌∷◌, ◌++◌, length, take, refl, sym, ap, ◌∙◌, subst, arith, length-append, Bool, true, false, Some, None, append-nil}
use Rattle.std.specs.Prelude.{if◌then◌else◌}
use Rattle.std.proofs.lemmas.List.{append_assoc, take-append-le}
use Rattle.std.proofs.Math.Seq.{take-append-add}
use Rattle.pm_types.specs.declared.place.Place.{Place}
use Rattle.pm_disk.specs.Moments.{IsHistory, AllMoments}
use Rattle.pm_records.specs.LogSteps.{Append, step_end, end_after, world_after, DoesPrefix}
use Rattle.pm_records.proofs.Tracing.{end_after-append, moments_joined, world_joined, steps_none}
use Rattle.pm_segments.specs.Appends.{room_steps}
use Rattle.pm_segments.specs.Ends.{LogEnd, EndsThere}
use Rattle.pm_segments.proofs.Sealing.{roomy_end}
use Rattle.pm_logger.specs.LogCalls.{LogCall, AppendFrame, ForceLog, call_steps, call_log, calls_steps, calls_log, broken_steps, lines_in, MakesCalls, BreaksOff, DoesCalls}
use Rattle.pm_logger.specs.Writers.{Writer}

-- where a call leaves the log's end
call_end : (log : LogEnd) (call : LogCall) → end_after (call_steps log call) log.end ≡ (call_log log call).end
call_end log (AppendFrame line frame) =
    end_after-append (room_steps log (length frame.payload)) (Append frame ∷ []) log.end
    ∙ ap (step_end (Append frame)) (roomy_end log (length frame.payload))
call_end log ForceLog = refl

pub calls_end : (calls : List LogCall) (log : LogEnd) → end_after (calls_steps log calls) log.end ≡ (calls_log log calls).end
calls_end [] log = refl
calls_end (call ∷ calls) log =
    end_after-append (call_steps log call) (calls_steps (call_log log call) calls) log.end
    ∙ ap (end_after (calls_steps (call_log log call) calls)) (call_end log call)
    ∙ calls_end calls (call_log log call)

pub calls_steps-append : (xs ys : List LogCall) (log : LogEnd) → calls_steps log (xs ++ ys) ≡ calls_steps log xs ++ calls_steps (calls_log log xs) ys
calls_steps-append [] ys log = refl
calls_steps-append (x ∷ xs) ys log =
    ap (λ ss. call_steps log x ++ ss) (calls_steps-append xs ys (call_log log x)) ∙ sym (append_assoc (call_steps log x) (calls_steps (call_log log x) xs) _)

pub calls_log-append : (xs ys : List LogCall) (log : LogEnd) → calls_log log (xs ++ ys) ≡ calls_log (calls_log log xs) ys
calls_log-append [] ys log = refl
calls_log-append (x ∷ xs) ys log = calls_log-append xs ys (call_log log x)

pub lines_in-append : (xs ys : List LogCall) → lines_in (xs ++ ys) ≡ lines_in xs ++ lines_in ys
lines_in-append [] ys = refl
lines_in-append (AppendFrame (Some line) frame ∷ xs) ys = ap (λ ls. line ∷ ls) (lines_in-append xs ys)
lines_in-append (AppendFrame None frame ∷ xs) ys = lines_in-append xs ys
lines_in-append (ForceLog ∷ xs) ys = lines_in-append xs ys

broken_steps-append : (tried : Bool) (xs ys : List LogCall) (log : LogEnd) (count : ℕ) → broken_steps tried log (xs ++ ys) (length xs + count) ≡ calls_steps log xs ++ broken_steps tried (calls_log log xs) ys count
broken_steps-append tried [] ys log count = let e : 0 + count ≡ count = omega arith in ap (broken_steps tried log ys) e
broken_steps-append tried (x ∷ xs) ys log count =
    let e : suc (length xs) + count ≡ suc (length xs + count) = omega arith in
    ap (broken_steps tried log (x ∷ xs ++ ys)) e ∙ ap (λ ss. call_steps log x ++ ss) (broken_steps-append tried xs ys (call_log log x) count) ∙ sym (append_assoc (call_steps log x) (calls_steps (call_log log x) xs) _)

broken_steps-more : (tried : Bool) (xs ys : List LogCall) (log : LogEnd) (count : ℕ) → count < length xs → broken_steps tried log (xs ++ ys) count ≡ broken_steps tried log xs count
broken_steps-more tried [] ys log count lt = absurd (omega (arith, lt))
broken_steps-more tried (x ∷ xs) ys log zero lt = refl
broken_steps-more tried (x ∷ xs) ys log (suc count) lt =
    ap (λ ss. call_steps log x ++ ss) (broken_steps-more tried xs ys (call_log log x) count (omega (arith, lt)))

-- no call was made
pub makes_none : {tells : Type 0} (now : Writer) → (tells → IsHistory now.history) → (tells → EndsThere now.log now.history.world) → MakesCalls tells now now []
makes_none now sound ends = record {
  log_is = refl;
  lines_are = sym (append-nil now.lines);
  ends = ends;
  world = λ t. refl;
  moments = λ t. steps_none now.history [] now.log.end (sound t);
}

-- where calls that were made leave the log's end
ends_here : {tells : Type 0} {before now : Writer} {calls : List LogCall} → MakesCalls tells before now calls → end_after (calls_steps before.log calls) before.log.end ≡ now.log.end
ends_here {before} {calls} made = calls_end calls before.log ∙ ap (λ (l : LogEnd). l.end) (sym made.log_is)

module _ {tells : Type 0} {before between now : Writer} {xs : List LogCall} (first : MakesCalls tells before between xs) where
  -- more calls were made after these
  pub makes_then : {ys : List LogCall} → MakesCalls tells between now ys → MakesCalls tells before now (xs ++ ys)
  makes_then {ys} second =
      let log = before.log in
      let old = before.history in
      let mid = between.history in
      let new = now.history in
      let steps : calls_steps log xs ++ calls_steps between.log ys ≡ calls_steps log (xs ++ ys) =
      ap (λ l. calls_steps log xs ++ calls_steps l ys) first.log_is ∙ sym (calls_steps-append xs ys log) in
      record {
        log_is = second.log_is ∙ ap (λ l. calls_log l ys) first.log_is ∙ sym (calls_log-append xs ys log);
        lines_are = second.lines_are ∙ ap (λ l. l ++ lines_in ys) first.lines_are ∙ append_assoc before.lines (lines_in xs) (lines_in ys) ∙ ap (λ l. before.lines ++ l) (sym (lines_in-append xs ys));
        ends = second.ends;
        world = λ t. world_joined old.world mid.world new.world (calls_steps log xs) (calls_steps between.log ys) log.end (first.world t)
            (second.world t ∙ ap (λ (p : Place). world_after (calls_steps between.log ys) p mid.world) (sym (ends_here first))) ∙ ap (λ ss. world_after ss log.end old.world) steps;
        moments = λ t. subst (λ ss. AllMoments old new (DoesPrefix ss log.end old.world)) steps
            (moments_joined old mid new (calls_steps log xs) (calls_steps between.log ys) log.end (first.moments t) (first.world t)
            (subst (λ (p : Place). AllMoments mid new (DoesPrefix (calls_steps between.log ys) p mid.world)) (sym (ends_here first)) (second.moments t)));
      }

  -- and one of them failed
  pub breaks_then : {ys : List LogCall} → BreaksOff tells between now ys → BreaksOff tells before now (xs ++ ys)
  breaks_then {ys} second =
      let log = before.log in
      let old = before.history in
      let mid = between.history in
      let new = now.history in
      let tried = now.log.tried in
      let steps : calls_steps log xs ++ broken_steps tried between.log ys second.count ≡ broken_steps tried log (xs ++ ys) (length xs + second.count) =
      ap (λ l. calls_steps log xs ++ broken_steps tried l ys second.count) first.log_is ∙ sym (broken_steps-append tried xs ys log second.count) in
      let reach : (b : Bool) → (if b then (length xs + second.count) + 1 else (length xs + second.count)) ≡ length xs + (if b then second.count + 1 else second.count) =
      λ b. elim b as (λ b. (if b then (length xs + second.count) + 1 else (length xs + second.count)) ≡ length xs + (if b then second.count + 1 else second.count)) [ true ↦ omega arith | false ↦ refl ] in
      record {
        count = length xs + second.count;
        within = omega (arith, second.within, length-append xs ys);
        lines_are = second.lines_are ∙ ap (λ l. l ++ lines_in (take (if tried then second.count + 1 else second.count) ys)) first.lines_are
            ∙ append_assoc before.lines (lines_in xs) _ ∙ ap (λ l. before.lines ++ l) (sym (lines_in-append xs _) ∙ ap lines_in (sym (take-append-add xs ys _) ∙ ap (λ n. take n (xs ++ ys)) (sym (reach tried))));
        moments = λ t. subst (λ ss. AllMoments old new (DoesPrefix ss log.end old.world)) steps
            (moments_joined old mid new (calls_steps log xs) (broken_steps tried between.log ys second.count) log.end (first.moments t) (first.world t)
            (subst (λ (p : Place). AllMoments mid new (DoesPrefix (broken_steps tried between.log ys second.count) p mid.world)) (sym (ends_here first)) (second.moments t)));
      }

-- either of the two
pub does_then : {tells : Type 0} {before between : Writer} (now : Writer) {xs : List LogCall} (ys : List LogCall) (done : Bool) → MakesCalls tells before between xs → DoesCalls tells between now done ys → DoesCalls tells before now done (xs ++ ys)
does_then now ys true first second = makes_then first second
does_then now ys false first second = breaks_then first second

-- a call failed, so that those after it weren't made either
pub breaks_before : {tells : Type 0} {before now : Writer} {xs : List LogCall} (ys : List LogCall) → BreaksOff tells before now xs → BreaksOff tells before now (xs ++ ys)
breaks_before {tells} {before} {now} {xs} ys broke =
    let tried = now.log.tried in
    let short : (b : Bool) → (if b then broke.count + 1 else broke.count) ≤ length xs =
    λ b. elim b as (λ b. (if b then broke.count + 1 else broke.count) ≤ length xs) [ true ↦ omega (arith, broke.within) | false ↦ omega (arith, broke.within) ] in
    record {
      count = broke.count;
      within = omega (arith, broke.within, length-append xs ys);
      lines_are = broke.lines_are ∙ ap (λ cs. before.lines ++ lines_in cs) (sym (take-append-le _ xs ys (short tried)));
      moments = λ t. subst (λ ss. AllMoments before.history now.history (DoesPrefix ss before.log.end before.history.world)) (sym (broken_steps-more tried xs ys before.log broke.count broke.within)) (broke.moments t);
    }
