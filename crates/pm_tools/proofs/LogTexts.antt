-- Each log has a text, and the lines of frames with which it begins are a prefix of that.
use Rattle.std.proofs.Common.{◌≡◌, ◌⊎◌, inl, inr, ℕ, zero, suc, ◌+◌, ◌-◌, ◌*◌, ◌^◌, ◌<◌, ◌≤◌, List, [], ◌∷◌, ◌++◌, Some, None, Bool, true, false, refl, sym, ◌∙◌, ap, subst, arith, append_assoc, eq-eqb}
use Rattle.std.specs.Prelude.{not, ◌==◌, if◌then◌else◌, drop, nat_lt}
use Rattle.std.proofs.lemmas.Bool.{and_parts, ltb-true, ltb-false}
use Rattle.pm_types.specs.declared.place.Place.{Place}
use Rattle.pm_frame.specs.declared.kinds.TheConstants.{SEAL}
use Rattle.pm_frame.specs.declared.limits.TheConstants.{FRAME_END_MAX, SEGMENT_END_MAX}
use Rattle.pm_frame.specs.Frames.{Frame, frame_len, frame_at, end_max}
use Rattle.pm_frame.proofs.FrameAt.{frame_at-some}
use Rattle.pm_records.specs.Logs.{all_frames, place, record_in, enters_next, ends_log, is_seal, is_last, next_place, place_after, after_frames, is_over, HasFrames, IsLogFrom}
use Rattle.pm_records.proofs.Runs.{bool_cases, option_cases, neither, next-enters, next-stays, run_begins}
use Rattle.pm_tools.specs.Lines.{line_in, lines_from, end_line}
use Rattle.pm_tools.specs.Listings.{AreRecords, IsLogText}

-- ---- each place has a log

-- how far a place is from the last one
abbrev left_from : Place → ℕ
left_from at = (2 ^ 64 - at.seg) * 2 ^ 27 + (2 ^ 27 - at.off)

end_below : (kind : ℕ) → end_max kind ≤ SEGMENT_END_MAX
end_below kind = by (kind == SEAL)
  where
    by : (b : Bool) → (let n : ℕ = if b then SEGMENT_END_MAX else FRAME_END_MAX in n) ≤ SEGMENT_END_MAX
    by true = omega arith
    by false = omega arith

-- a frame ends within its segment
pub ends_within : (log : ℕ → List ℕ) (at : Place) (f : Frame) → all_frames.frame_at at.seg at.off (log at.seg) ≡ Some f → at.off + frame_len f ≤ SEGMENT_END_MAX
ends_within log at f there =
    let fits = (frame_at-some at (drop at.off (log at.seg)) f there).0 in
    omega (arith, fits.ends, end_below f.kind)

-- the place after a frame that doesn't end the log
record IsCloser (at later : Place) : Type 0 where
  numbered : later.seg < 2 ^ 64
  within : later.off ≤ SEGMENT_END_MAX
  closer : left_from later < left_from at

closer_after : (log : ℕ → List ℕ) (at : Place) (f : Frame) → at.seg < 2 ^ 64 → all_frames.frame_at at.seg at.off (log at.seg) ≡ Some f → IsCloser at (next_place at f)
closer_after log at f numbered there =
    let ends = ends_within log at f there in
    elim (bool_cases (enters_next at f)) [
      | inl enters ↦
          let inner = (and_parts (is_seal f) (not (is_last at.seg)) enters).1 in
          let differs : at.seg ≡ 2 ^ 64 - 1 → ⊥ = λ is. (let no : false ≡ true = ap not (sym (eq-eqb at.seg (2 ^ 64 - 1) is)) ∙ inner in absurd cc) in
          let next : at.seg + 1 < 2 ^ 64 = omega (arith, numbered, differs) in
          let to : IsCloser at (place (at.seg + 1) 0) = record { numbered = next; within = omega arith; closer = omega (arith, numbered, ends) } in
          subst (IsCloser at) (sym (next-enters at f enters)) to
      | inr stays ↦
          let to : IsCloser at (place_after at f) = record { numbered = numbered; within = ends; closer = omega (arith, ends) } in
          subst (IsCloser at) (sym (next-stays at f stays)) to
    ]

one_more : (log : ℕ → List ℕ) (at : Place) (f : Frame) (frames : List Frame) → all_frames.frame_at at.seg at.off (log at.seg) ≡ Some f → ends_log at f ≡ false
    → IsLogFrom all_frames log (next_place at f) frames → IsLogFrom all_frames log at (f ∷ frames)
one_more log at f frames there goes_on rest = record {
  run = (there, λ ends. let no : true ≡ false = sym ends ∙ goes_on in absurd cc, rest.run);
  ends = λ still. rest.ends (neither (ends_log at f) (is_over (next_place at f) frames) still).1;
}

only_one : (log : ℕ → List ℕ) (at : Place) (f : Frame) → all_frames.frame_at at.seg at.off (log at.seg) ≡ Some f → ends_log at f ≡ true → IsLogFrom all_frames log at (f ∷ [])
only_one log at f there ends = record {
  run = (there, λ _. refl, tt);
  ends = λ still. let no : true ≡ false = sym ends ∙ (neither (ends_log at f) false still).0 in absurd cc;
}

log_within : (log : ℕ → List ℕ) (fuel : ℕ) (at : Place) → at.seg < 2 ^ 64 → at.off ≤ SEGMENT_END_MAX → left_from at ≤ fuel → (frames : List Frame) × IsLogFrom all_frames log at frames
log_within log zero at numbered within enough = absurd (omega (arith, numbered, within, enough))
log_within log (suc fuel) at numbered within enough = elim (option_cases (all_frames.frame_at at.seg at.off (log at.seg))) [
  | inl none ↦ ([], record { run = tt; ends = λ _. none })
  | inr some ↦ elim (bool_cases (ends_log at some.0)) [
    | inl ends ↦ (some.0 ∷ [], only_one log at some.0 some.1 ends)
    | inr goes_on ↦
        let to = closer_after log at some.0 numbered some.1 in
        let rest = log_within log fuel (next_place at some.0) to.numbered to.within (omega (arith, to.closer, enough)) in
        (some.0 ∷ rest.0, one_more log at some.0 rest.0 some.1 goes_on rest.1)
  ]
]

-- where no frame may stand there is none
none_outside : (log : ℕ → List ℕ) (at : Place) → (at.seg < 2 ^ 64 → at.off ≤ SEGMENT_END_MAX → ⊥) → IsLogFrom all_frames log at []
none_outside log at outside = record { run = tt; ends = λ _. nothing_there }
  where
    nothing_there : all_frames.frame_at at.seg at.off (log at.seg) ≡ None
    nothing_there = elim (option_cases (all_frames.frame_at at.seg at.off (log at.seg))) [
      | inl none ↦ none
      | inr some ↦
          let fits = (frame_at-some at (drop at.off (log at.seg)) some.0 some.1).0 in
          absurd (outside fits.numbered (omega (arith, ends_within log at some.0 some.1)))
    ]

-- past each segment's end no frame stands
pub none_past_end : (log : ℕ → List ℕ) (at : Place) → SEGMENT_END_MAX < at.off → IsLogFrom all_frames log at []
none_past_end log at past = none_outside log at (λ numbered within. omega (arith, past, within))

-- the log from a place on
log_there : (log : ℕ → List ℕ) (at : Place) → (frames : List Frame) × IsLogFrom all_frames log at frames
log_there log at = elim (bool_cases (nat_lt at.seg (2 ^ 64))) [
  | inr high ↦ ([], none_outside log at (λ numbered within. omega (arith, numbered, ltb-false at.seg (2 ^ 64) high)))
  | inl numbered ↦ elim (bool_cases (nat_lt SEGMENT_END_MAX at.off)) [
    | inl past ↦ ([], none_past_end log at (ltb-true SEGMENT_END_MAX at.off past))
    | inr within ↦ log_within log (left_from at) at (ltb-true at.seg (2 ^ 64) numbered) (ltb-false SEGMENT_END_MAX at.off within) (omega arith)
  ]
]

-- ---- lines and records of frames

pub lines_append : (at : Place) (xs ys : List Frame) → lines_from at (xs ++ ys) ≡ lines_from at xs ++ lines_from (after_frames at xs) ys
lines_append at [] ys = refl
lines_append at (x ∷ xs) ys =
    ap (λ l. line_in at (record_in x) ++ l) (lines_append (next_place at x) xs ys)
    ∙ sym (append_assoc (line_in at (record_in x)) (lines_from (next_place at x) xs) (lines_from (after_frames (next_place at x) xs) ys))

pub records_append : (xs ys : List Frame) → AreRecords xs → AreRecords ys → AreRecords (xs ++ ys)
records_append [] ys one two = two
records_append (x ∷ xs) ys one two = (one.0, records_append xs ys one.1 two)

no_more : (xs ys : List Frame) → xs ++ ys ≡ [] → xs ≡ []
no_more [] ys is = refl
no_more (x ∷ xs) ys is = absurd cc

run_front : (log : ℕ → List ℕ) (at : Place) (xs ys : List Frame) → HasFrames all_frames log at (xs ++ ys) → HasFrames all_frames log at xs
run_front log at [] ys run = tt
run_front log at (x ∷ xs) ys run = (run.0, λ ends. no_more xs ys (run.1 ends), run_front log (next_place at x) xs ys run.2)

-- the first of these frames that holds no record
record HasBad (frames : List Frame) : Type 0 where
  before : List Frame
  frame : Frame
  after : List Frame
  is : frames ≡ before ++ frame ∷ after
  are : AreRecords before
  bad : record_in frame ≡ None

records_or_bad : (frames : List Frame) → AreRecords frames ⊎ HasBad frames
records_or_bad [] = inl tt
records_or_bad (f ∷ frames) = elim (option_cases (record_in f)) [
  | inl none ↦ inr (record { before = []; frame = f; after = frames; is = refl; are = tt; bad = none })
  | inr some ↦ elim (records_or_bad frames) [
    | inl are ↦ inl (some, are)
    | inr bad ↦ inr (record { before = f ∷ bad.before; frame = bad.frame; after = bad.after; is = ap (λ l. f ∷ l) bad.is; are = (some, bad.are); bad = bad.bad })
  ]
]

-- ---- the text

-- a log has a text, which begins with the lines of these frames
pub record HasText (log : ℕ → List ℕ) (from : Place) (frames : List Frame) : Type 0 where
  pub text : List ℕ
  pub is_text : IsLogText log from text
  pub more : List ℕ
  pub begins : text ≡ lines_from from frames ++ more

whole_text : (log : ℕ → List ℕ) (from : Place) (frames rest : List Frame) → IsLogFrom all_frames log from (frames ++ rest) → AreRecords (frames ++ rest) → HasText log from frames
whole_text log from frames rest is_log are =
    let end = end_line (after_frames from (frames ++ rest)) in
    record {
      text = lines_from from (frames ++ rest) ++ end;
      is_text = inl (record { frames = frames ++ rest; is_log = is_log; are_records = are; text_is = refl });
      more = lines_from (after_frames from frames) rest ++ end;
      begins = ap (λ l. l ++ end) (lines_append from frames rest) ∙ append_assoc (lines_from from frames) (lines_from (after_frames from frames) rest) end;
    }

cut_text : (log : ℕ → List ℕ) (from : Place) (frames before after : List Frame) (f : Frame) → IsLogFrom all_frames log from (frames ++ (before ++ f ∷ after)) → AreRecords (frames ++ before) → record_in f ≡ None → HasText log from frames
cut_text log from frames before after f is_log are bad =
    let same : frames ++ (before ++ f ∷ after) ≡ ((frames ++ before) ++ f ∷ []) ++ after =
    sym (append_assoc frames before (f ∷ after)) ∙ sym (append_assoc (frames ++ before) (f ∷ []) after) in
    record {
      text = lines_from from (frames ++ before);
      is_text = inr (
        after_frames from (frames ++ before),
        record {
          before = frames ++ before;
          frame = f;
          run = run_front log from ((frames ++ before) ++ f ∷ []) after (subst (HasFrames all_frames log from) same is_log.run);
          are_records = are;
          bad = bad;
          there = refl;
          text_is = refl;
        },
      );
      more = lines_from (after_frames from frames) before;
      begins = lines_append from frames before;
    }

pub text_after : (log : ℕ → List ℕ) (from : Place) (frames : List Frame) → HasFrames all_frames log from frames → AreRecords frames → HasText log from frames
text_after log from frames run are =
    let whole = log_there log from in
    let split = run_begins all_frames log from frames whole.0 run whole.1 in
    let is_log = subst (IsLogFrom all_frames log from) split.1 whole.1 in
    elim (records_or_bad split.0) [
      | inl rest ↦ whole_text log from frames split.0 is_log (records_append frames split.0 are rest)
      | inr bad ↦ cut_text log from frames bad.before bad.after bad.frame (subst (λ l. IsLogFrom all_frames log from (frames ++ l)) bad.is is_log) (records_append frames bad.before are bad.are) bad.bad
    ]
