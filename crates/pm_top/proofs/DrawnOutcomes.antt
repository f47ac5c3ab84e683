-- What a run over drawn lines says, and what a crash leaves of it.
use Rattle.std.proofs.Common.{◌≡◌, ◌≢◌, ◌⊎◌, inl, inr, ℕ, zero, suc, ◌+◌, ◌-◌, ◌≤◌, Bool, true, false, List, [], ◌++◌, length, take, drop, refl, ap, sym, ◌∙◌, subst, append-nil, arith}
use Rattle.std.specs.Prelude.{codes, if◌then◌else◌}
use Rattle.std.specs.Bool.{nat_eq}
use Rattle.std.specs.List.{All, Contains, starts_with}
use Rattle.std.proofs.lemmas.List.{drop_at, take_at, take_all, take-append-drop, length-take}
use Rattle.pm_types.specs.declared.limits.TheConstants.{BATCH_LINES_MAX}
use Rattle.pm_types.specs.declared.shape.Shape.{Shape}
use Rattle.pm_disk.specs.Moments.{History, AllMoments}
use Rattle.pm_disk.specs.States.{DeviceState, IsLaterState, Rose}
use Rattle.pm_disk.specs.Worlds.{World, with_said}
use Rattle.pm_disk.proofs.Chain.{joined, weaker}
use Rattle.pm_model.specs.declared.line.Line.{Line}
use Rattle.pm_model.specs.Eval.{Pairs, after_all, accepted}
use Rattle.pm_model.specs.Orders.{HasTried, after_numbers}
use Rattle.pm_model.proofs.OrderLaws.{as_many_has, script_tried}
use Rattle.pm_core.specs.Calls.{ChangesDisk}
use Rattle.pm_core.specs.LogAlone.{image_of}
use Rattle.pm_engine.specs.Engines.{FrameRunning, map_in}
use Rattle.pm_top.specs.Crashes.{CrashKeeps, SoundUpTo}
use Rattle.pm_top.specs.DrawnRuns.{CrashHoldsDrawn, DrawnIsCutShort, DrawnIsDone, DrawnIsLeft, DrawnOutcomeIs, summarized, summary_of}
use Rattle.pm_top.specs.DrawnSteps.{EndsDrawn, TriesDrawn}
use Rattle.pm_top.specs.FrameRests.{FrameAtRest}
use Rattle.pm_top.specs.declared.status.Status.{Status}
use Rattle.pm_top.specs.declared.status.Status.TheVariants.{Done, Failed, Memory, Damaged, Long}
use Rattle.pm_top.specs.Promises.{SaysPart}
use Rattle.pm_top.specs.RunCauses.{HasScriptCause}
use Rattle.pm_top.specs.Runs.{CanRun, SameConsole}
use Rattle.pm_top.specs.ScriptOrder as one
use Rattle.pm_top.specs.Statuses.{code_of}
use Rattle.pm_top.proofs.AnsweredLines.{both, rest_crash}
use Rattle.pm_top.proofs.Lasting.{accepted_parts, held_by, keeps_said, only_map, take_take}
use Rattle.pm_top.proofs.Ordered.{same_after}
use Rattle.pm_top.proofs.Orders.{after_accepted, fault_line, take_none}
use Rattle.pm_top.proofs.DrawnRunning.{drawn_map}
use Rattle.pm_top.proofs.ScriptCauses.{ends_done, ends_failed, ends_memory}
use Rattle.pm_top.proofs.QuietStores.{world_is_true, world_leaves}

-- ---- what was said

-- nothing was said that begins as the summary does
abbrev pub SaysNoSummary : World → World → Type 0
SaysNoSummary old now = starts_with nat_eq (drop (length old.said) now.said) (codes "l") ≡ false

pub says_none : (old now : World) → now.said ≡ old.said → SaysNoSummary old now
says_none old now same =
    let nothing : drop (length old.said) now.said ≡ [] = ap (drop (length old.said)) (same ∙ sym (append-nil old.said)) ∙ drop_at old.said [] (length old.said) refl in
    ap (λ b. starts_with nat_eq b (codes "l")) nothing

fault_is_none : (n c : ℕ) (bytes : List ℕ) → starts_with nat_eq (take n (fault_line c bytes)) (codes "l") ≡ false
fault_is_none zero c bytes = refl
fault_is_none (suc n) c bytes = refl

pub says_fault : (old : World) (n c : ℕ) (bytes : List ℕ) → SaysNoSummary old (with_said (take n (fault_line c bytes)) old)
says_fault old n c bytes = ap (λ b. starts_with nat_eq b (codes "l")) (drop_at old.said (take n (fault_line c bytes)) (length old.said) refl) ∙ fault_is_none n c bytes

-- then no line is acknowledged
none_summarized : (script : List Line) (old : World) (shape : Shape) (pairs : Pairs) (now : World) → SaysNoSummary old now → summarized script old shape pairs now ≡ []
none_summarized script old shape pairs now none = ap (λ (b : Bool). if b then accepted shape 1 script pairs else []) none

none_has : (order numbers : List ℕ) → numbers ≡ [] → All (Contains order) numbers
none_has order numbers none = subst (λ (ns : List ℕ). All (Contains order) ns) (sym none) (λ k d few. absurd (omega (arith, few)))

-- ---- what a crash leaves

module _ (wanted : Shape) (last number : ℕ) (script : List Line) (old : World) (shape : Shape) (pairs : Pairs) (w : World) where
  -- before a line was run
  pub idle_drawn : (order : List ℕ) → SaysNoSummary old w → CrashKeeps wanted last number shape pairs [] w → CrashHoldsDrawn wanted last number script old shape pairs order w
  idle_drawn order none keeps image leaves honest = record {
    count = 0;
    has = none_has (take 0 order) (summarized script old shape pairs w) (none_summarized script old shape pairs w none);
    holds = subst (λ (o : List ℕ). SoundUpTo wanted last number image shape (after_numbers shape o 1 script pairs)) (sym (take_none order)) (only_map wanted last number shape pairs image (held_by (keeps image leaves honest)));
  }

  -- the first accepted lines of the order leave the map after the first lines
  module _ (k tried : ℕ) (order : List ℕ) (le : k ≤ tried) (within : tried ≤ length script) (is : order ≡ accepted shape 1 (take tried script) pairs) where
    abbrev first : List ℕ
    first = accepted shape 1 (take k script) pairs

    its_first : take (length first) order ≡ first
    its_first =
        let sum : k + (tried - k) ≡ tried = omega (arith, le) in
        let more = accepted shape (1 + length (take k script)) (take (tried - k) (drop k script)) (after_all shape (take k script) pairs) in
        ap (take (length first)) (is ∙ ap (λ n. accepted shape 1 (take n script) pairs) (sym sum) ∙ accepted_parts shape script pairs k (tried - k) (omega (arith, le, within)))
        ∙ take_at first more (length first) refl

    its_map : after_numbers shape (take (length first) order) 1 script pairs ≡ after_all shape (take k script) pairs
    its_map =
        ap (λ ns. after_numbers shape ns 1 script pairs) its_first ∙ sym (same_after shape first script pairs)
        ∙ ap (λ s. one.after_numbers shape first s pairs) (sym (take-append-drop k script)) ∙ after_accepted shape [] (take k script) (drop k script) pairs

  -- while lines are run
  pub running_drawn : (tried : ℕ) (order : List ℕ) → tried ≤ length script → order ≡ accepted shape 1 (take tried script) pairs → SaysNoSummary old w → CrashKeeps wanted last number shape pairs (take tried script) w
      → CrashHoldsDrawn wanted last number script old shape pairs order w
  running_drawn tried order within is none keeps image leaves honest =
      let held = held_by (keeps image leaves honest) in
      let le : held.0 ≤ tried = omega (arith, held.1, length-take tried script, within) in
      record {
        count = length (accepted shape 1 (take held.0 script) pairs);
        has = none_has (take (length (accepted shape 1 (take held.0 script) pairs)) order) (summarized script old shape pairs w) (none_summarized script old shape pairs w none);
        holds = subst (SoundUpTo wanted last number image shape) (ap (λ ls. after_all shape ls pairs) (take_take held.0 tried script le) ∙ sym (its_map held.0 tried order le within is)) held.2;
      }

  -- all lines were run, and last: whatever was said
  pub ended_drawn : (order : List ℕ) → order ≡ accepted shape 1 script pairs → CrashKeeps wanted last number shape (after_all shape script pairs) [] w → CrashHoldsDrawn wanted last number script old shape pairs order w
  ended_drawn order is keeps image leaves honest =
      let n = length script in
      let whole : take n script ≡ script = take_all n script (omega arith) in
      let order_is : order ≡ accepted shape 1 (take n script) pairs = is ∙ ap (λ ls. accepted shape 1 ls pairs) (sym whole) in
      let count = length (accepted shape 1 (take n script) pairs) in
      record {
        count = count;
        has = some_has (starts_with nat_eq (drop (length old.said) w.said) (codes "l")) (take count order) (accepted shape 1 script pairs)
            (subst (λ (x : List ℕ × List ℕ). All (Contains (take count x.0)) x.1) (λ i. (sym order_is i, ap (λ ls. accepted shape 1 ls pairs) whole i)) (as_many_has shape 1 script pairs n n count (omega arith) (omega arith)));
        holds = subst (SoundUpTo wanted last number image shape) (ap (λ ls. after_all shape ls pairs) (sym whole) ∙ sym (its_map n n order (omega arith) (omega arith) order_is))
            (only_map wanted last number shape (after_all shape script pairs) image (held_by (keeps image leaves honest)));
      }
    where
      some_has : (b : Bool) (order numbers : List ℕ) → All (Contains order) numbers → All (Contains order) (if b then numbers else [])
      some_has true order numbers has = has
      some_has false order numbers has = none_has order [] refl

-- ---- a run

module _ {tells : Type 0} {old mid : History} {script : List Line} {before now : FrameRunning} (t : tells) (wanted : Shape) (last number : ℕ) (can : CanRun wanted last number before old.world) where
  -- while lines are run, and after a fault
  pub tried_moments : (start : World) → SameConsole start old.world → TriesDrawn tells old mid script before now
      → AllMoments old mid (CrashHoldsDrawn wanted last number script start before.store.shape (map_in before old.world) now.order)
  tried_moments start same tries =
      let pairs = map_in before old.world in
      let Q : World → Type 0 = CrashKeeps wanted last number before.store.shape pairs (take tries.tried script) in
      weaker old mid (λ w. Q w × ChangesDisk old.world w) (CrashHoldsDrawn wanted last number script start before.store.shape pairs now.order)
      (λ w is. running_drawn wanted last number script start before.store.shape pairs w tries.tried now.order tries.within (tries.order t wanted last number can) (says_none start w (is.1.said ∙ same.said)) is.0)
      (both old mid Q (ChangesDisk old.world) (tries.keeps.crash t wanted last number can) (tries.keeps.disk t))

  -- the run ended before the summary was said whole
  pub tried_cut : (start new : World) (tail : List ℕ) (lines : ℕ) → TriesDrawn tells old mid script before now → new.said ≡ start.said ++ tail → new.input ≡ start.input → lines ≡ 0 → (tail ≡ [])
      → DrawnIsCutShort script start new before.store.shape (map_in before old.world) lines now.order tail
  tried_cut start new tail lines tries said unread none empty =
      let pairs = map_in before old.world in
      record {
        said = said;
        unread = unread;
        none = none;
        many = tries.many;
        within = omega (arith, tries.from, tries.within);
        order_is = subst (λ (ns : List ℕ). HasTried before.store.shape 1 script pairs tries.many BATCH_LINES_MAX ns) (sym (tries.order t wanted last number can)) (script_tried before.store.shape 1 script pairs tries.many BATCH_LINES_MAX tries.tried tries.from tries.to);
        whole = λ some. absurd (omega (arith, some, ap (λ (l : List ℕ). length l) empty));
      }

  module _ (ends : EndsDrawn tells old mid script before now) where
    its_order : (more : ℕ) → HasTried before.store.shape 1 script (map_in before old.world) (length script) more now.order
    its_order more =
        let whole : take (length script) script ≡ script = take_all (length script) script (omega arith) in
        let pairs = map_in before old.world in
        subst (λ (ns : List ℕ). HasTried before.store.shape 1 script pairs (length script) more ns) (ap (λ ls. accepted before.store.shape 1 ls pairs) whole ∙ sym (ends.ran.order t wanted last number can))
        (script_tried before.store.shape 1 script pairs (length script) more (length script) (omega arith) (omega arith))

    -- all lines were run, and not all of the summary was said
    pub ended_cut : (start new : World) (tail : List ℕ) (lines : ℕ) → new.said ≡ start.said ++ tail → new.input ≡ start.input → lines ≡ 0 → DrawnIsCutShort script start new before.store.shape (map_in before old.world) lines now.order tail
    ended_cut start new tail lines said unread none = record {
      said = said;
      unread = unread;
      none = none;
      many = length script;
      within = omega arith;
      order_is = its_order BATCH_LINES_MAX;
      whole = λ _. refl;
    }

    -- all of it was said
    pub ended_done : (start new : World) (lines : ℕ) → new.said ≡ start.said ++ summary_of script before.store.shape (map_in before old.world) → new.input ≡ start.input → lines ≡ length script
        → DrawnIsDone script start new before.store.shape (map_in before old.world) lines now.order
    ended_done start new lines said unread all = record { said = said; unread = unread; all = all; order_is = its_order 0 }

    ended_rest : FrameAtRest wanted now mid.world
    ended_rest = let lasts = ends.lasts t wanted last number can in record { from = lasts.low; has = lasts.lasts.done }

    -- a crash leaves the map after all lines
    ended_crash : CrashKeeps wanted last number before.store.shape (after_all before.store.shape script (map_in before old.world)) [] mid.world
    ended_crash =
        subst (λ (x : Shape × Pairs). CrashKeeps wanted last number x.0 x.1 [] mid.world) (λ i. (ends.ran.same.shape i, drawn_map ends.ran t wanted last number can i))
        (rest_crash wanted last number 2047 now mid.world (ends.within last number can.within) ended_rest)

    -- while the summary is said
    pub ended_moments : (start : World) → SameConsole start old.world → (new : History) (text : List ℕ) → TriesDrawn tells old mid script before now → AllMoments mid new (SaysPart text mid.world)
        → AllMoments old new (CrashHoldsDrawn wanted last number script start before.store.shape (map_in before old.world) now.order)
    ended_moments start same new text tries says =
        let shape = before.store.shape in
        let pairs = map_in before old.world in
        let K : World → Type 0 = CrashHoldsDrawn wanted last number script start shape pairs now.order in
        joined old mid new K (tried_moments start same tries)
        (weaker mid new (SaysPart text mid.world) K
        (λ w part. subst K (sym part.1) (ended_drawn wanted last number script start shape pairs (with_said (take part.0 text) mid.world) now.order (ends.ran.order t wanted last number can)
        (keeps_said wanted last number shape (after_all shape script pairs) [] (take part.0 text) mid.world ended_crash))) says)

    -- what is left, whatever was said
    pub ended_left : (text : List ℕ) → DrawnIsLeft wanted last number script (with_said text mid.world) before.store.shape (map_in before old.world)
    ended_left text =
        let quiet = (ends.lasts t wanted last number can).lasts.quiet in
        let image = image_of mid.world in
        let after = after_all before.store.shape script (map_in before old.world) in
        let held = held_by (ended_crash image (world_leaves mid.world quiet) (world_is_true mid.world)) in
        let here : SoundUpTo wanted last number image before.store.shape after = only_map wanted last number before.store.shape after image held in
        record {
          sound = here.0;
          up_to = here.1;
          quiet = record { log = quiet.log; pages = quiet.pages; starts = quiet.starts; ends = quiet.ends };
        }

-- ---- how the call ends

module _ {tells : Type 0} {old mid : History} {script : List Line} {before now : FrameRunning} (t : tells) (wanted : Shape) (last number : ℕ) (can : CanRun wanted last number before old.world)
    (start : World) (said : mid.world.said ≡ start.said) (unread : mid.world.input ≡ start.input) (lines : ℕ) where
  -- a call failed, or memory ran out, before all lines were run
  pub fault_outcome : TriesDrawn tells old mid script before now → (status : Status) → (status ≡ Failed) ⊎ (status ≡ Memory) → lines ≡ 0
      → DrawnOutcomeIs script status start mid.world before.store.shape (map_in before old.world) lines now.order
  fault_outcome tries status cases none =
      let shape = before.store.shape in
      let pairs = map_in before old.world in
      let P : Status → Type 0 = λ s. DrawnOutcomeIs script s start mid.world shape pairs lines now.order in
      let cut : DrawnIsCutShort script start mid.world shape pairs lines now.order [] = tried_cut t wanted last number can start mid.world [] lines tries (said ∙ sym (append-nil start.said)) unread none refl in
      elim cases [
        | inl is ↦ subst P (sym is) (record { count = 0; cut = subst (DrawnIsCutShort script start mid.world shape pairs lines now.order) (sym (take_none (summary_of script shape pairs))) cut })
        | inr is ↦ subst P (sym is) cut
      ]

  -- all lines were run, and the summary was said or is to be said
  pub summary_outcome : EndsDrawn tells old mid script before now → (new : World) (text : List ℕ) → text ≡ summary_of script before.store.shape (map_in before old.world) → (status : Status) → (status ≡ Done) ⊎ (status ≡ Failed) ⊎ (status ≡ Memory)
      → (status ≡ Done → new ≡ with_said text mid.world) → SaysPart text mid.world new → (status ≡ Memory → new ≡ mid.world) → (status ≡ Done → lines ≡ length script) → (status ≢ Done → lines ≡ 0)
      → DrawnOutcomeIs script status start new before.store.shape (map_in before old.world) lines now.order
  summary_outcome ends new text is status cases done part memory all none =
      let shape = before.store.shape in
      let pairs = map_in before old.world in
      let P : Status → Type 0 = λ s. DrawnOutcomeIs script s start new shape pairs lines now.order in
      elim cases [
        | inl e ↦ subst P (sym e) (ended_done t wanted last number can ends start new lines (ap (λ (w : World). w.said) (done e) ∙ ap (λ (s : List ℕ). s ++ text) said ∙ ap (λ (u : List ℕ). start.said ++ u) is) (ap (λ (w : World). w.input) (done e) ∙ unread) (all e))
        | inr more ↦ elim more [
          | inl e ↦
              subst P (sym e) (record {
                count = part.0;
                cut = ended_cut t wanted last number can ends start new (take part.0 (summary_of script shape pairs)) lines
                    (ap (λ (w : World). w.said) part.1 ∙ ap (λ (s : List ℕ). s ++ take part.0 text) said ∙ ap (λ (u : List ℕ). start.said ++ take part.0 u) is) (ap (λ (w : World). w.input) part.1 ∙ unread)
                    (none (λ d. (let clash : 3 ≡ 0 = ap code_of (sym e ∙ d) in omega (arith, clash))));
              })
          | inr e ↦
              subst P (sym e) (ended_cut t wanted last number can ends start new [] lines (ap (λ (w : World). w.said) (memory e) ∙ said ∙ sym (append-nil start.said)) (ap (λ (w : World). w.input) (memory e) ∙ unread)
              (none (λ d. (let clash : 4 ≡ 0 = ap code_of (sym e ∙ d) in omega (arith, clash)))))
        ]
      ]

-- the host's state after one run of calls more
later_both : (a b c : DeviceState) → IsLaterState a b → IsLaterState b c → IsLaterState a c
later_both a b c first second = record {
  later = omega (arith, first.later, second.later);
  access = second.access ∙ first.access;
  usable = λ usable. second.usable (first.usable usable);
}

-- when the call ends so
pub summary_cause : (status : Status) (old mid new : DeviceState) → IsLaterState old mid → (status ≡ Done) ⊎ (status ≡ Failed) ⊎ (status ≡ Memory) → (status ≡ Failed → Rose mid new) → IsLaterState mid new → HasScriptCause status old new
summary_cause status old mid new ran cases failed said =
    let later : IsLaterState old new = later_both old mid new ran said in
    let P : Status → Type 0 = λ s. HasScriptCause s old new in
    elim cases [
      | inl e ↦ subst P (sym e) (ends_done old new later)
      | inr more ↦ elim more [
        | inl e ↦ subst P (sym e) (ends_failed old new (let late = failed e in omega (arith, late, ran.later)) later)
        | inr e ↦ subst P (sym e) (ends_memory old new later)
      ]
    ]

-- ---- which statuses don't come

-- one of these statuses is none of the others, by its number
pub two_arent : (status other : Status) (n : ℕ) → (status ≡ Failed) ⊎ (status ≡ Memory) → code_of other ≡ n → (n ≡ 3 → ⊥) → (n ≡ 4 → ⊥) → status ≡ other → ⊥
two_arent status other n cases is three four same = elim cases [
  | inl e ↦ three (sym is ∙ ap code_of (sym same ∙ e))
  | inr e ↦ four (sym is ∙ ap code_of (sym same ∙ e))
]

pub three_arent : (status good other : Status) (m n : ℕ) → (status ≡ good) ⊎ (status ≡ Failed) ⊎ (status ≡ Memory) → code_of good ≡ m → code_of other ≡ n → (n ≡ m → ⊥) → (n ≡ 3 → ⊥) → (n ≡ 4 → ⊥) → status ≡ other → ⊥
three_arent status good other m n cases its is one three four same = elim cases [
  | inl e ↦ one (sym is ∙ ap code_of (sym same ∙ e) ∙ its)
  | inr more ↦ two_arent status other n more is three four same
]

pub summary_short : (status : Status) → (status ≡ Done) ⊎ (status ≡ Failed) ⊎ (status ≡ Memory) → status ≢ Long
summary_short status cases = three_arent status Done Long 0 6 cases refl refl (λ e. omega (arith, e)) (λ e. omega (arith, e)) (λ e. omega (arith, e))

pub page_short : (status : Status) → (status ≡ Damaged) ⊎ (status ≡ Failed) ⊎ (status ≡ Memory) → status ≢ Long
page_short status cases = three_arent status Damaged Long 5 6 cases refl refl (λ e. omega (arith, e)) (λ e. omega (arith, e)) (λ e. omega (arith, e))
