-- Frames that led to the end of the lasting log still do once others are appended.
use Rattle.std.proofs.Common.{◌≡◌, ℕ, List, [], ◌∷◌, ◌++◌, length, Some, sym, ap, ◌∙◌, subst, arith, append_assoc, append-nil}
use Rattle.pm_types.specs.declared.place.Place.{Place}
use Rattle.pm_types.specs.declared.shape.Shape.{Shape}
use Rattle.pm_frame.specs.Frames.{Frame}
use Rattle.pm_disk.specs.Worlds.{World}
use Rattle.pm_model.specs.Eval.{Pairs}
use Rattle.pm_records.specs.LogFiles.{HasLasting, IsRecordFrame, Written}
use Rattle.pm_records.specs.LogSteps.{Step, CutTail, Append, Force, NextSegment, DropSegment, ForceSegment, frames_in, next_written, written_after}
use Rattle.pm_records.specs.Logs.{all_frames}
use Rattle.pm_records.proofs.Writing.{CanAll as CanWriteAll, frames_in-append}
use Rattle.pm_segments.specs.Appends.{append_steps, grown}
use Rattle.pm_segments.specs.Ends.{LogEnd, LogIsOpen}
use Rattle.pm_segments.proofs.AppendLaw.{append_can}
use Rattle.pm_core.specs.Machine.{states, worlds}
use Rattle.pm_core.specs.Replays.{all_replayed}
use Rattle.pm_core.specs.Rounds.{on_log}
use Rattle.pm_core.specs.Stands.{Stands}
use Rattle.pm_core.specs.States.{State}
use Rattle.pm_core.proofs.LogSteps.{written_by}
use Rattle.pm_core.proofs.Making.{worlds_join}
use Rattle.pm_core.proofs.Replaying.{replayed-append}
use Rattle.pm_ckpt.specs.Checkpoints.{written_so}
use Rattle.pm_ckpt.proofs.GoingOn.{front_replays}
use Rattle.pm_ckpt.proofs.Whole.{states_join}
use Rattle.pm_engine.specs.AppendRuns.{append_all_steps}
use Rattle.pm_engine.specs.Replays.{AreLasting}
use Rattle.pm_engine.specs.RunningStores.{StoreState, LogRuns, HasSegmentsFor, AreRecordFrames}
use Rattle.pm_engine.proofs.RunningAppends.{append_runs, append_seg, on_log-append}
use Rattle.pm_engine.proofs.RunningLines.{ChangeNoMap, no_map_all}
use Rattle.pm_engine.proofs.RunningLogs.{leads_on, open_as, state_follows}

-- ---- steps that write the log

-- the frames that steps made lasting after those that were
record Wrote (steps : List Step) (t : Written) : Type 0 where
  more : List Frame
  lasting : (written_after steps t).lasting ≡ t.lasting ++ more
  all : more ++ (written_after steps t).pending ≡ t.pending ++ frames_in steps

wrote : (steps : List Step) (t : Written) → Wrote steps t
wrote [] t = record { more = []; lasting = sym (append-nil t.lasting); all = sym (append-nil t.pending) }
wrote (CutTail ∷ steps) t = let m = wrote steps (next_written CutTail t) in record { more = m.more; lasting = m.lasting; all = m.all }
wrote (Append f ∷ steps) t =
    let m = wrote steps (next_written (Append f) t) in
    record { more = m.more; lasting = m.lasting; all = m.all ∙ append_assoc t.pending (f ∷ []) (frames_in steps) }
wrote (Force ∷ steps) t =
    let m = wrote steps (next_written Force t) in
    record {
      more = t.pending ++ m.more;
      lasting = m.lasting ∙ append_assoc t.lasting t.pending m.more;
      all = append_assoc t.pending m.more (written_after steps (next_written Force t)).pending ∙ ap (λ (l : List Frame). t.pending ++ l) m.all;
    }
wrote (NextSegment ∷ steps) t = let m = wrote steps (next_written NextSegment t) in record { more = m.more; lasting = m.lasting; all = m.all }
wrote (DropSegment seg ∷ steps) t = let m = wrote steps (next_written (DropSegment seg) t) in record { more = m.more; lasting = m.lasting; all = m.all }
wrote (ForceSegment seg ∷ steps) t = let m = wrote steps (next_written (ForceSegment seg) t) in record { more = m.more; lasting = m.lasting; all = m.all }

-- From a place on these frames were lasting. Now others are after them, which were pending or appended.
pub record LeadsFurther (from : Place) (frames appended : List Frame) (s t : State) (v : World) : Type 0 where
  pub more : List Frame
  pub leads : HasLasting all_frames v.log t.low t.at from (frames ++ more)
  pub all : more ++ t.pending ≡ s.pending ++ appended

leads_joined : (from : Place) (fs xs ys : List Frame) (s m t : State) (w v : World) → (one : LeadsFurther from fs xs s m w) → LeadsFurther from (fs ++ one.more) ys m t v → LeadsFurther from fs (xs ++ ys) s t v
leads_joined from fs xs ys s m t w v one two = record {
  more = one.more ++ two.more;
  leads = subst (λ (l : List Frame). HasLasting all_frames v.log t.low t.at from l) (append_assoc fs one.more two.more) two.leads;
  all = append_assoc one.more two.more t.pending ∙ ap (λ (l : List Frame). one.more ++ l) two.all ∙ sym (append_assoc one.more m.pending ys) ∙ ap (λ (l : List Frame). l ++ ys) one.all ∙ append_assoc s.pending xs ys;
}

-- ---- appends

module _ (wanted : Shape) (told : List ℕ → ℕ) where
  -- one frame is appended
  pub leads_one : (f : Frame) (log : LogEnd) (s : State) (w : World) → Stands wanted told s w → s.end ≡ log.end → LogIsOpen log (written_so s) → IsRecordFrame f → (from : Place) (ls : List Frame)
      → HasLasting all_frames w.log s.low s.at from ls → LeadsFurther from ls (frames_in (append_steps log f)) s (states (on_log (append_steps log f)) s w) (worlds (on_log (append_steps log f)) s w)
  leads_one f log s w stands ends is_open fits from ls leads =
      let steps = append_steps log f in
      let t = written_by s ls in
      let m = wrote steps t in
      let end = states (on_log steps) s w in
      let can : CanWriteAll 0 steps s.end t = subst (λ (p : Place). CanWriteAll 0 steps p t) (sym ends) (append_can log f fits t (open_as log s ls is_open) 0) in
      record {
        more = m.more;
        leads = subst (λ (l : List Frame). HasLasting all_frames (worlds (on_log steps) s w).log end.low end.at from l) m.lasting (leads_on wanted told s w stands steps from ls leads can);
        all = ap (λ (l : List Frame). m.more ++ l) (state_follows steps ls s w).pending ∙ m.all;
      }

  -- frames are appended, one after the other
  pub leads_all : (fs : List Frame) (store : StoreState) (frames : List Frame) (pairs : Pairs) (s : State) (w : World) → LogRuns wanted told store frames pairs s w → AreRecordFrames fs → (now : Pairs) → all_replayed store.shape fs (Some pairs) ≡ Some now
      → HasSegmentsFor store.log (length fs) → (from : Place) (ls : List Frame) → HasLasting all_frames w.log s.low s.at from ls
      → LeadsFurther from ls (frames_in (append_all_steps store.log fs)) s (states (on_log (append_all_steps store.log fs)) s w) (worlds (on_log (append_all_steps store.log fs)) s w)
  leads_all [] store frames pairs s w runs are now makes segments from ls leads = record {
    more = [];
    leads = subst (λ (l : List Frame). HasLasting all_frames w.log s.low s.at from l) (sym (append-nil ls)) leads;
    all = sym (append-nil s.pending);
  }
  leads_all (f ∷ fs) store frames pairs s w runs are now makes segments from ls leads =
      let front = front_replays store.shape (f ∷ []) fs pairs now makes in
      let one = append_steps store.log f in
      let more = append_all_steps (grown store.log f) fs in
      let seg : HasSegmentsFor store.log 1 = omega (arith, segments) in
      let mid = append_runs wanted told store frames pairs s w runs f are.0 front.0 front.1 seg in
      let t = states (on_log one) s w in
      let v = worlds (on_log one) s w in
      let rises = append_seg wanted told store frames pairs s w runs f are.0 front.0 front.1 seg in
      let first = leads_one f store.log s w runs.stands runs.ends runs.is_open are.0 from ls leads in
      let rest = leads_all fs (record store { log = grown store.log f }) (frames ++ frames_in one) front.0 t v mid are.1 now front.2 (omega (arith, segments, rises)) from (ls ++ first.more) first.leads in
      let both = leads_joined from ls (frames_in one) (frames_in more) s t (states (on_log more) t v) v (worlds (on_log more) t v) first rest in
      let steps : on_log (one ++ more) ≡ on_log one ++ on_log more = on_log-append one more in
      let state : states (on_log (one ++ more)) s w ≡ states (on_log more) t v = ap (λ l. states l s w) steps ∙ states_join (on_log one) (on_log more) s w in
      let world : worlds (on_log (one ++ more)) s w ≡ worlds (on_log more) t v = ap (λ l. worlds l s w) steps ∙ worlds_join (on_log one) (on_log more) s w in
      subst (λ (q : List Frame × State × World). LeadsFurther from ls q.0 s q.1 q.2) {x = (frames_in one ++ frames_in more, states (on_log more) t v, worlds (on_log more) t v)}
      {y = (frames_in (one ++ more), states (on_log (one ++ more)) s w, worlds (on_log (one ++ more)) s w)}
      (λ i. (sym (frames_in-append one more) i, sym state i, sym world i)) both

-- what is left to be applied is lasting still, where what was appended changes no map
pub lasts_further : (from : Place) (left appended : List Frame) (shape : Shape) (pairs : Pairs) (s t : State) (w v : World) → (lasts : AreLasting from left shape pairs s w) → ChangeNoMap shape appended → LeadsFurther from (left ++ lasts.later) appended s t v
    → AreLasting from left shape pairs t v
lasts_further from left appended shape pairs s t w v lasts none further =
    record {
      later = lasts.later ++ further.more;
      leads = subst (λ (l : List Frame). HasLasting all_frames v.log t.low t.at from l) (append_assoc left lasts.later further.more) further.leads;
      stays = ap (λ (l : List Frame). all_replayed shape l (Some pairs)) (append_assoc lasts.later further.more t.pending ∙ ap (λ (l : List Frame). lasts.later ++ l) further.all ∙ sym (append_assoc lasts.later s.pending appended))
          ∙ replayed-append shape (lasts.later ++ s.pending) appended (Some pairs) ∙ ap (all_replayed shape appended) lasts.stays ∙ no_map_all shape appended pairs none;
    }
