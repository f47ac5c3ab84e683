-- Frames that are appended, and more frames after them.
use Rattle.std.proofs.Common.{◌≡◌, List, [], ◌∷◌, ◌++◌, refl, sym, ◌∙◌, ap, subst, append_assoc, append-nil, true, Bool, Result, Ok}
use Rattle.std.specs.Prelude.{OnOk}
use Rattle.pm_types.specs.declared.place.Place.{Place}
use Rattle.pm_frame.specs.Frames.{Frame}
use Rattle.pm_disk.specs.Moments.{History, IsHistory, AllMoments}
use Rattle.pm_disk.specs.declared.failed.Failed.{Failed}
use Rattle.pm_records.specs.LogSteps.{end_after, world_after, DoesPrefix, DoesSteps}
use Rattle.pm_records.proofs.Tracing.{steps_none, steps_joined, moments_first, end_after-append}
use Rattle.pm_segments.specs.Appends.{append_steps, steps_of, grown}
use Rattle.pm_segments.specs.Ends.{LogEnd, EndsThere}
use Rattle.pm_ckpt.proofs.Opening.{grown_end, moments_tried}
use Rattle.pm_engine.specs.AppendRuns.{grown_all, append_all_steps, AppendsAll}

pub grown_all-append : (log : LogEnd) (xs ys : List Frame) → grown_all log (xs ++ ys) ≡ grown_all (grown_all log xs) ys
grown_all-append log [] ys = refl
grown_all-append log (x ∷ xs) ys = grown_all-append (grown log x) xs ys

pub append_all-append : (log : LogEnd) (xs ys : List Frame) → append_all_steps log (xs ++ ys) ≡ append_all_steps log xs ++ append_all_steps (grown_all log xs) ys
append_all-append log [] ys = refl
append_all-append log (x ∷ xs) ys =
    ap (λ steps. append_steps log x ++ steps) (append_all-append (grown log x) xs ys)
    ∙ sym (append_assoc (append_steps log x) (append_all_steps (grown log x) xs) (append_all_steps (grown_all (grown log x) xs) ys))

-- where the log ends after them
pub append_all-end : (log : LogEnd) (xs : List Frame) → end_after (append_all_steps log xs) log.end ≡ (grown_all log xs).end
append_all-end log [] = refl
append_all-end log (x ∷ xs) =
    end_after-append (append_steps log x) (append_all_steps (grown log x) xs) log.end
    ∙ ap (end_after (append_all_steps (grown log x) xs)) (grown_end log x) ∙ append_all-end (grown log x) xs

-- nothing was appended yet
pub appends_none : (tells : Type 0) (old : History) (log : LogEnd) → (tells → IsHistory old) → (tells → EndsThere log old.world) → AppendsAll {T = Unit {0}} {E = Failed} tells old old (Ok tt) log log []
appends_none tells old log sound ends = record {
  log = refl;
  ends = ends;
  steps = λ t. record { all = refl; moments = steps_none old [] log.end (sound t) };
}

-- a call that failed made a prefix of the steps
pub appends_broke : {T E : Type 0} (tells : Type 0) (old new : History) (answer : Result T E) (before now : LogEnd) (frames : List Frame) → ((P : Type 0) → OnOk answer P)
    → (tells → AllMoments old new (DoesPrefix (append_all_steps before frames) before.end old.world)) → AppendsAll {T = T} {E = E} tells old new answer before now frames
appends_broke tells old new answer before now frames fails moments = record {
  log = fails (now ≡ grown_all before frames);
  ends = λ t. fails (EndsThere now new.world);
  steps = λ t. record { all = fails (new.world ≡ world_after (append_all_steps before frames) before.end old.world); moments = moments t };
}

-- one frame
module _ (tells : Type 0) (old new : History) (before now : LogEnd) (frame : Frame) where
  one_step : append_steps before frame ≡ append_all_steps before (frame ∷ [])
  one_step = sym (append-nil (append_steps before frame))

  pub one_failed : {T E : Type 0} (answer : Result T E) → ((P : Type 0) → OnOk answer P) → (tells → AllMoments old new (DoesPrefix (steps_of now.tried before frame) before.end old.world))
      → AppendsAll {T = T} {E = E} tells old new answer before now (frame ∷ [])
  one_failed answer fails moments =
      appends_broke tells old new answer before now (frame ∷ []) fails
      (λ t. subst (λ steps. AllMoments old new (DoesPrefix steps before.end old.world)) one_step (moments_tried old new now.tried before frame (moments t)))

  pub one_appended : now ≡ grown before frame → (tells → EndsThere now new.world) → (tells → new.world ≡ world_after (steps_of now.tried before frame) before.end old.world)
      → (tells → AllMoments old new (DoesPrefix (steps_of now.tried before frame) before.end old.world)) → AppendsAll {T = Unit {0}} {E = Failed} tells old new (Ok tt) before now (frame ∷ [])
  one_appended is ends all moments =
      let tried : now.tried ≡ true = ap (λ (l : LogEnd). l.tried) is in
      let steps : steps_of now.tried before frame ≡ append_all_steps before (frame ∷ []) = ap (λ (b : Bool). steps_of b before frame) tried ∙ one_step in
      record {
        log = is;
        ends = ends;
        steps = λ t. record {
          all = all t ∙ ap (λ ss. world_after ss before.end old.world) steps;
          moments = subst (λ ss. AllMoments old new (DoesPrefix ss before.end old.world)) steps (moments t);
        };
      }

-- frames, and more frames after them
pub appends_then : {T E S F : Type 0} (tells : Type 0) (old mid new : History) (result : Result T E) (answer : Result S F) (before between now : LogEnd) (xs ys : List Frame)
    → ((P : Type 0) → OnOk result P → OnOk answer P) → AppendsAll {T = Unit {0}} {E = Failed} tells old mid (Ok tt) before between xs → AppendsAll {T = T} {E = E} tells mid new result between now ys
    → AppendsAll {T = S} {E = F} tells old new answer before now (xs ++ ys)
appends_then {T} {E} {S} {F} tells old mid new result answer before between now xs ys so first second =
    let there : between.end ≡ end_after (append_all_steps before xs) before.end = ap (λ (l : LogEnd). l.end) first.log ∙ sym (append_all-end before xs) in
    let steps : append_all_steps before xs ++ append_all_steps between ys ≡ append_all_steps before (xs ++ ys) =
    ap (λ l. append_all_steps before xs ++ append_all_steps l ys) first.log ∙ sym (append_all-append before xs ys) in
    let log : grown_all between ys ≡ grown_all before (xs ++ ys) = ap (λ l. grown_all l ys) first.log ∙ sym (grown_all-append before xs ys) in
    record {
      log = so (now ≡ grown_all before (xs ++ ys)) (subst (λ (l : LogEnd). OnOk result (now ≡ l)) log second.log);
      ends = λ t. so (EndsThere now new.world) (second.ends t);
      steps = λ t.
          let both = steps_joined old mid new result (append_all_steps before xs) (append_all_steps between ys) before.end (first.steps t).moments (first.steps t).all
          (subst (λ (p : Place). DoesSteps {T = T} {E = E} mid new result (append_all_steps between ys) p) there (second.steps t)) in
          let all = subst (λ ss. DoesSteps {T = T} {E = E} old new result ss before.end) steps both in
          record { all = so (new.world ≡ world_after (append_all_steps before (xs ++ ys)) before.end old.world) all.all; moments = all.moments };
    }

-- where a call failed, the frames that were to come make no difference
pub appends_part : {T E : Type 0} (tells : Type 0) (old new : History) (answer : Result T E) (before now : LogEnd) (xs ys : List Frame) → ((P : Type 0) → OnOk answer P)
    → AppendsAll {T = T} {E = E} tells old new answer before now xs → AppendsAll {T = T} {E = E} tells old new answer before now (xs ++ ys)
appends_part tells old new answer before now xs ys fails part =
    appends_broke tells old new answer before now (xs ++ ys) fails
    (λ t. subst (λ steps. AllMoments old new (DoesPrefix steps before.end old.world)) (sym (append_all-append before xs ys))
    (moments_first old new (append_all_steps before xs) (append_all_steps (grown_all before xs) ys) before.end (part.steps t).moments))
