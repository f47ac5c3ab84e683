-- What each call on the log's files makes of the log.
use Rattle.std.proofs.Common.{◌≡◌, ℕ, ◌+◌, ◌<◌, ◌≤◌, List, [], ◌∷◌, ◌++◌, length, take, drop, Option, Some, None, refl, sym, ◌∙◌, ap, subst, arith, true, false, length-append}
use Rattle.std.specs.Prelude.{slice_get}
use Rattle.std.proofs.lemmas.List.{take_all, drop_all, append-nil, length-take}
use Rattle.pm_disk.specs.Files.{File, Change, Write, Cut, changed, at_change, content, bytes_of, with_change, all_forced}
use Rattle.pm_disk.specs.Worlds.{with_file}
use Rattle.pm_disk.specs.Images.{Lasting}
use Rattle.pm_disk.proofs.Families.{file_here, file_there, file_cases}
use Rattle.pm_disk.proofs.Files.{quiet_below, each_change, content_change, below_push, content_long, below_less, forced_change}
use Rattle.pm_disk.proofs.Writes.{slice_get-take, slice_get-append_left}
use Rattle.pm_frame.specs.Frames.{Frame, frame_len}
use Rattle.pm_types.specs.declared.place.Place.{Place}
use Rattle.pm_records.specs.LogFiles.{OnlyTheseStood, Tail, Uncut, AfterSeal, Cutting, Ready, TailIs, FilesHoldLog}
use Rattle.pm_records.specs.Logs.{Grammar, place, is_seal, is_last, after_frames, SegmentHasFrames, HasNoSeal, frames_len}
use Rattle.pm_records.proofs.GrammarLaws.{IsGrammar}
use Rattle.pm_records.proofs.Runs.{next-plain, none_past}

pub at_end-write : (bytes more : List ℕ) (end : ℕ) → length bytes ≡ end → take end bytes ++ more ++ drop (end + length more) bytes ≡ bytes ++ more
at_end-write bytes more end is =
    ap (λ (l : List ℕ). l ++ more ++ drop (end + length more) bytes) (take_all end bytes (omega (arith, is)))
    ∙ ap (λ (l : List ℕ). bytes ++ more ++ l) (drop_all (end + length more) bytes (omega (arith, is)))
    ∙ append-nil (bytes ++ more)

pub frames_len-append : (xs ys : List Frame) → frames_len (xs ++ ys) ≡ frames_len xs + frames_len ys
frames_len-append [] ys = omega arith
frames_len-append (x ∷ xs) ys = omega (arith, frames_len-append xs ys)

pub plain_after : (seg off : ℕ) (fs : List Frame) → HasNoSeal fs → after_frames (place seg off) fs ≡ place seg (off + frames_len fs)
plain_after seg off [] plain = let e : off ≡ off + 0 = omega arith in ap (λ n. place seg n) e
plain_after seg off (f ∷ fs) plain =
    let e : off + frame_len f + frames_len fs ≡ off + (frame_len f + frames_len fs) = omega arith in
    ap (λ (q : Place). after_frames q fs) (next-plain (place seg off) f plain.0)
    ∙ plain_after seg (off + frame_len f) fs plain.1 ∙ ap (λ n. place seg n) e

-- One frame more at the end of a segment's file.
module _ (g : Grammar) (laws : IsGrammar g) (seg end : ℕ) (file : File) (f : Frame) (bytes : List ℕ)
    (is_end : length (bytes_of (content file)) ≡ end) (is_bytes : bytes ≡ g.frame_bytes seg end f) (fits : g.fits seg end f ≡ true)
    (short : (k : ℕ) → k ≤ length file.since → length (bytes_of (at_change file k)) ≤ end) (numbered : is_seal f ≡ true → is_last seg ≡ false) where
  abbrev before : List ℕ
  before = bytes_of (content file)

  abbrev grown : File
  grown = with_change file (Write end bytes)

  abbrev now : Option (List ℕ)
  now = changed (Write end bytes) (content file)

  now_is : bytes_of now ≡ before ++ bytes
  now_is = at_end-write before bytes end is_end

  bytes_size : length bytes ≡ frame_len f
  bytes_size = ap (λ (l : List ℕ). length l) is_bytes ∙ laws.bytes_length seg end f

  now_length : length (bytes_of now) ≡ end + frame_len f
  now_length = omega (arith, ap (λ (l : List ℕ). length l) now_is, length-append before bytes, is_end, bytes_size)

  stands : g.frame_at seg end (bytes_of now) ≡ Some f
  stands =
      ap (g.frame_at seg end) now_is
      ∙ ap (λ (l : List ℕ). g.frame_at seg end (before ++ l)) is_bytes
      ∙ ap (λ n. g.frame_at seg n (before ++ g.frame_bytes seg n f)) (sym is_end)
      ∙ laws.written seg before f (subst (λ n. g.fits seg n f ≡ true) (sym is_end) fits)

  still : (off : ℕ) (h : Frame) → g.frame_at seg off before ≡ Some h → g.frame_at seg off (bytes_of now) ≡ Some h
  still off h is =
      let w = laws.within seg off before h is in
      laws.own seg off before (bytes_of now) h is (omega (arith, w, now_length, is_end))
      (λ i lt. ap (λ (l : List ℕ). slice_get l i) now_is ∙ slice_get-append_left before bytes i (omega (arith, lt, w)))

  pub runin_append : (off : ℕ) (fs : List Frame) → SegmentHasFrames g seg before off fs → off + frames_len fs ≡ end → SegmentHasFrames g seg (bytes_of now) off (fs ++ f ∷ [])
  runin_append off [] run at = let e : end ≡ off = omega (arith, at) in (subst (λ n. g.frame_at seg n (bytes_of now) ≡ Some f) e stands, tt)
  runin_append off (p ∷ fs) run at = (still off p run.0, runin_append (off + frame_len p) fs run.1 (omega (arith, at)))

  pub stood_append : (off : ℕ) (fs : List Frame) → HasNoSeal fs → SegmentHasFrames g seg before off fs → off + frames_len fs ≡ end → OnlyTheseStood g seg file off fs → OnlyTheseStood g seg grown off (fs ++ f ∷ [])
  stood_append off [] plain run at stood =
      let here : off ≡ end = omega (arith, at) in
      let one : g.frame_at seg off (bytes_of now) ≡ Some f = subst (λ n. g.frame_at seg n (bytes_of now) ≡ Some f) (sym here) stands in (
        λ k h le is. each_change file (Write end bytes) (λ o. (h : Frame) → g.frame_at seg off (bytes_of o) ≡ Some h → h ≡ f)
            (λ j j_le x x_is. let no : None ≡ Some x = sym (stood j j_le) ∙ x_is in cc)
            (λ x x_is. let same : Some x ≡ Some f = sym x_is ∙ one in cc) k le h is,
        λ sealed. (refl, numbered sealed),
        λ open_. each_change file (Write end bytes) (λ o. g.frame_at seg (off + frame_len f) (bytes_of o) ≡ None)
            (λ j j_le. none_past g laws seg (off + frame_len f) (bytes_of (at_change file j)) (omega (arith, short j j_le, here)))
            (none_past g laws seg (off + frame_len f) (bytes_of now) (omega (arith, now_length, here))),
      )
  stood_append off (p ∷ fs) plain run at stood = (
    λ k h le is. each_change file (Write end bytes) (λ o. (h : Frame) → g.frame_at seg off (bytes_of o) ≡ Some h → h ≡ p)
        (λ j j_le x x_is. stood.0 j x j_le x_is)
        (λ x x_is. let same : Some x ≡ Some p = sym x_is ∙ still off p run.0 in cc) k le h is,
    λ sealed. let no : true ≡ false = sym sealed ∙ plain.0 in cc,
    λ open_. stood_append (off + frame_len p) fs plain.1 run.1 (omega (arith, at)) (stood.2 plain.0),
  )

  pub below_append : (off : ℕ) → off ≤ end → Lasting file 0 off → Lasting grown 0 off
  below_append off le below = below_push file (Write end bytes) off below (λ i lt touch. absurd (omega (arith, lt, le, touch.0))) (omega (arith, now_length, le))
      (λ i lt. ap (λ (l : List ℕ). slice_get l i) now_is ∙ slice_get-append_left before bytes i (omega (arith, lt, le, is_end)))

  pub short_append : (k : ℕ) → k ≤ length grown.since → length (bytes_of (at_change grown k)) ≤ end + frame_len f
  short_append = each_change file (Write end bytes) (λ o. length (bytes_of o) ≤ end + frame_len f) (λ k le. omega (arith, short k le)) (omega (arith, now_length))

  pub exact_append : length (bytes_of (content grown)) ≡ end + frame_len f
  exact_append = ap (λ (o : Option (List ℕ)). length (bytes_of o)) (content_change file (Write end bytes)) ∙ now_length

  pub run_grown : (off : ℕ) (fs : List Frame) → SegmentHasFrames g seg before off fs → off + frames_len fs ≡ end → SegmentHasFrames g seg (bytes_of (content grown)) off (fs ++ f ∷ [])
  run_grown off fs run at = subst (λ (o : Option (List ℕ)). SegmentHasFrames g seg (bytes_of o) off (fs ++ f ∷ [])) (sym (content_change file (Write end bytes))) (runin_append off fs run at)

-- One more frame is written after those that are pending, where none of them is a SEAL.
pub log_append : (g : Grammar) (laws : IsGrammar g) (log : ℕ → File) (low : ℕ) (at : Place) (pending : List Frame) (f : Frame) (bytes : List ℕ)
    → FilesHoldLog g log low at pending Ready → HasNoSeal pending → g.fits at.seg (at.off + frames_len pending) f ≡ true → bytes ≡ g.frame_bytes at.seg (at.off + frames_len pending) f → (is_seal f ≡ true → is_last at.seg ≡ false)
    → FilesHoldLog g (with_file log at.seg (with_change (log at.seg) (Write (at.off + frames_len pending) bytes))) low at (pending ++ f ∷ []) Ready
log_append g laws log low at pending f bytes s plain fits is_bytes numbered =
    let end = at.off + frames_len pending in
    let w = s.tail_is in
    let file = log at.seg in
    let grown : File = with_change file (Write end bytes) in
    let more : at.off + frames_len (pending ++ f ∷ []) ≡ end + frame_len f = omega (arith, frames_len-append pending (f ∷ [])) in
    let at_seg : with_file log at.seg grown at.seg ≡ grown = file_here log at.seg grown in
    let back : grown ≡ with_file log at.seg grown at.seg = sym at_seg in
    record {
      reaches = s.reaches;
      older = file_cases log at.seg grown (λ m x. low ≤ m → m < at.seg → x.since ≡ []) (λ le no. absurd (omega (arith, no))) (λ m apart. s.older m);
      below = subst (λ (x : File). Lasting x 0 at.off) back (below_append g laws at.seg end file f bytes w.exact is_bytes fits w.short numbered at.off (omega arith) s.below);
      stood = subst (λ (x : File). OnlyTheseStood g at.seg x at.off (pending ++ f ∷ [])) back (stood_append g laws at.seg end file f bytes w.exact is_bytes fits w.short numbered at.off pending plain w.run refl s.stood);
      above = file_cases log at.seg grown (λ m x. at.seg < m → (k : ℕ) → k ≤ length x.since → length (bytes_of (at_change x k)) ≤ 0) (λ no. absurd (omega (arith, no))) (λ m apart. s.above m);
      tail_is = record {
        run = subst (λ (x : File). SegmentHasFrames g at.seg (bytes_of (content x)) at.off (pending ++ f ∷ [])) back (run_grown g laws at.seg end file f bytes w.exact is_bytes fits w.short numbered at.off pending w.run refl);
        short = subst (λ (x : File). (k : ℕ) → k ≤ length x.since → length (bytes_of (at_change x k)) ≤ at.off + frames_len (pending ++ f ∷ [])) back
            (subst (λ n. (k : ℕ) → k ≤ length grown.since → length (bytes_of (at_change grown k)) ≤ n) (sym more) (short_append g laws at.seg end file f bytes w.exact is_bytes fits w.short numbered));
        exact = subst (λ (x : File). length (bytes_of (content x)) ≡ at.off + frames_len (pending ++ f ∷ [])) back (exact_append g laws at.seg end file f bytes w.exact is_bytes fits w.short numbered ∙ sym more);
      };
    }

-- The log's last segment is cut at the log's end.
pub log_cut : (g : Grammar) (laws : IsGrammar g) (log : ℕ → File) (low : ℕ) (at : Place) (tail : Tail) → FilesHoldLog g log low at [] tail
    → FilesHoldLog g (with_file log at.seg (with_change (log at.seg) (Cut at.off))) low at [] Cutting
log_cut g laws log low at tail s =
    let file = log at.seg in
    let c : Change = Cut at.off in
    let new : File = with_change file c in
    let back : new ≡ with_file log at.seg new at.seg = sym (file_here log at.seg new) in
    let long : at.off ≤ length (bytes_of (content file)) = content_long file at.off s.below in
    let len : length (take at.off (bytes_of (content file))) ≡ at.off = omega (arith, length-take at.off (bytes_of (content file)), long) in
    record {
      reaches = s.reaches;
      older = file_cases log at.seg new (λ m x. low ≤ m → m < at.seg → x.since ≡ []) (λ le no. absurd (omega (arith, no))) (λ m apart. s.older m);
      below = subst (λ (x : File). Lasting x 0 at.off) back (below_push file c at.off s.below (λ i lt touch. absurd (omega (arith, lt, touch))) (omega (arith, len)) (λ i lt. slice_get-take at.off (bytes_of (content file)) i lt));
      stood = subst (λ (x : File). OnlyTheseStood g at.seg x at.off []) back
          (each_change file c (λ o. g.frame_at at.seg at.off (bytes_of o) ≡ None) s.stood (none_past g laws at.seg at.off (take at.off (bytes_of (content file))) (omega (arith, len))));
      above = file_cases log at.seg new (λ m x. at.seg < m → (k : ℕ) → k ≤ length x.since → length (bytes_of (at_change x k)) ≤ 0) (λ no. absurd (omega (arith, no))) (λ m apart. s.above m);
      tail_is = (refl, subst (λ (x : File). length (bytes_of (content x)) ≡ at.off) back (ap (λ (o : Option (List ℕ)). length (bytes_of o)) (content_change file c) ∙ len));
    }

-- The last segment is forced, and the frames that were pending in it are lasting.
pub log_force : (g : Grammar) (laws : IsGrammar g) (log : ℕ → File) (low : ℕ) (at : Place) (pending : List Frame) → FilesHoldLog g log low at pending Ready → HasNoSeal pending
    → FilesHoldLog g (with_file log at.seg (all_forced (log at.seg))) low (record { seg = at.seg; off = at.off + frames_len pending }) [] Ready
log_force g laws log low at pending s plain =
    let file = log at.seg in
    let end = at.off + frames_len pending in
    let w = s.tail_is in
    let new : File = all_forced file in
    let back : new ≡ with_file log at.seg new at.seg = sym (file_here log at.seg new) in
    record {
      reaches = s.reaches;
      older = file_cases log at.seg new (λ m x. low ≤ m → m < at.seg → x.since ≡ []) (λ le no. absurd (omega (arith, no))) (λ m apart. s.older m);
      below = subst (λ (x : File). Lasting x 0 end) back (below_less new end (length (bytes_of (content file))) (omega (arith, w.exact)) (quiet_below new refl));
      stood = subst (λ (x : File). OnlyTheseStood g at.seg x end []) back (forced_change file (λ o. g.frame_at at.seg end (bytes_of o) ≡ None) (none_past g laws at.seg end (bytes_of (content file)) (omega (arith, w.exact))));
      above = file_cases log at.seg new (λ m x. at.seg < m → (k : ℕ) → k ≤ length x.since → length (bytes_of (at_change x k)) ≤ 0) (λ no. absurd (omega (arith, no))) (λ m apart. s.above m);
      tail_is = record {
        run = tt;
        short = subst (λ (x : File). (k : ℕ) → k ≤ length x.since → length (bytes_of (at_change x k)) ≤ end + 0) back (forced_change file (λ o. length (bytes_of o) ≤ end + 0) (omega (arith, w.exact)));
        exact = subst (λ (x : File). length (bytes_of (content x)) ≡ end + 0) back (omega (arith, w.exact));
      };
    }

-- Where the last pending frame is a SEAL, the log ends in the next segment once it is forced.
pub log_force_sealed : (g : Grammar) (laws : IsGrammar g) (log : ℕ → File) (low : ℕ) (at : Place) (pending : List Frame) → FilesHoldLog g log low at pending Ready
    → FilesHoldLog g (with_file log at.seg (all_forced (log at.seg))) low (place (at.seg + 1) 0) [] AfterSeal
log_force_sealed g laws log low at pending s =
    let file = log at.seg in
    let new : File = all_forced file in
    let there : with_file log at.seg new (at.seg + 1) ≡ log (at.seg + 1) = file_there log at.seg (at.seg + 1) new (λ is. absurd (omega (arith, is))) in
    let empty = s.above (at.seg + 1) (omega arith) in
    record {
      reaches = omega (arith, s.reaches);
      older = file_cases log at.seg new (λ m x. low ≤ m → m < at.seg + 1 → x.since ≡ []) (λ le lt. refl) (λ m apart le lt. s.older m le (omega arith));
      below = record { forced = omega arith; untouched = λ i from lt. absurd (omega (arith, lt)); long = λ k le. omega arith; same = λ k le i from lt. absurd (omega (arith, lt)) };
      stood = subst (λ (x : File). OnlyTheseStood g (at.seg + 1) x 0 []) (sym there) (λ k le. none_past g laws (at.seg + 1) 0 (bytes_of (at_change (log (at.seg + 1)) k)) (empty k le));
      above = file_cases log at.seg new (λ m x. at.seg + 1 < m → (k : ℕ) → k ≤ length x.since → length (bytes_of (at_change x k)) ≤ 0) (λ isnt. absurd (omega (arith, isnt))) (λ m apart lt. s.above m (omega (arith, lt)));
      tail_is = refl;
    }

-- Once the cut is forced, frames may be written after the log's end.
pub log_force_cut : (g : Grammar) (laws : IsGrammar g) (log : ℕ → File) (low : ℕ) (at : Place) → FilesHoldLog g log low at [] Cutting
    → FilesHoldLog g (with_file log at.seg (all_forced (log at.seg))) low at [] Ready
log_force_cut g laws log low at s =
    let file = log at.seg in
    let exact = s.tail_is.1 in
    let new : File = all_forced file in
    let back : new ≡ with_file log at.seg new at.seg = sym (file_here log at.seg new) in
    record {
      reaches = s.reaches;
      older = file_cases log at.seg new (λ m x. low ≤ m → m < at.seg → x.since ≡ []) (λ le isnt. absurd (omega (arith, isnt))) (λ m apart. s.older m);
      below = subst (λ (x : File). Lasting x 0 at.off) back (below_less new at.off (length (bytes_of (content file))) (omega (arith, exact)) (quiet_below new refl));
      stood = subst (λ (x : File). OnlyTheseStood g at.seg x at.off []) back (forced_change file (λ o. g.frame_at at.seg at.off (bytes_of o) ≡ None) (none_past g laws at.seg at.off (bytes_of (content file)) (omega (arith, exact))));
      above = file_cases log at.seg new (λ m x. at.seg < m → (k : ℕ) → k ≤ length x.since → length (bytes_of (at_change x k)) ≤ 0) (λ isnt. absurd (omega (arith, isnt))) (λ m apart. s.above m);
      tail_is = record {
        run = tt;
        short = subst (λ (x : File). (k : ℕ) → k ≤ length x.since → length (bytes_of (at_change x k)) ≤ at.off + 0) back (forced_change file (λ o. length (bytes_of o) ≤ at.off + 0) (omega (arith, exact)));
        exact = subst (λ (x : File). length (bytes_of (content x)) ≡ at.off + 0) back (omega (arith, exact));
      };
    }

-- A file below the segments that are kept is of no account.
pub log_below : (g : Grammar) (log : ℕ → File) (low : ℕ) (at : Place) (pending : List Frame) (tail : Tail) (seg : ℕ) (x : File) → seg < low → FilesHoldLog g log low at pending tail → FilesHoldLog g (with_file log seg x) low at pending tail
log_below g log low at pending tail seg x lt s =
    let there : log at.seg ≡ with_file log seg x at.seg = sym (file_there log seg at.seg x (λ is. omega (arith, is, lt, s.reaches))) in
    record {
      reaches = s.reaches;
      older = file_cases log seg x (λ m y. low ≤ m → m < at.seg → y.since ≡ []) (λ le no. absurd (omega (arith, le, lt))) (λ m apart. s.older m);
      below = subst (λ (y : File). Lasting y 0 at.off) there s.below;
      stood = subst (λ (y : File). OnlyTheseStood g at.seg y at.off pending) there s.stood;
      above = file_cases log seg x (λ m y. at.seg < m → (k : ℕ) → k ≤ length y.since → length (bytes_of (at_change y k)) ≤ 0) (λ up. absurd (omega (arith, up, lt, s.reaches))) (λ m apart. s.above m);
      tail_is = its_tail tail there s.tail_is;
    }
  where
    its_tail : (t : Tail) → log at.seg ≡ with_file log seg x at.seg → TailIs g log at pending t → TailIs g (with_file log seg x) at pending t
    its_tail Uncut there is = is
    its_tail AfterSeal there is = is
    its_tail Cutting there is = (is.0, subst (λ (y : File). length (bytes_of (content y)) ≡ at.off) there is.1)
    its_tail Ready there is = record {
      run = subst (λ (y : File). SegmentHasFrames g at.seg (bytes_of (content y)) at.off pending) there is.run;
      short = subst (λ (y : File). (k : ℕ) → k ≤ length y.since → length (bytes_of (at_change y k)) ≤ at.off + frames_len pending) there is.short;
      exact = subst (λ (y : File). length (bytes_of (content y)) ≡ at.off + frames_len pending) there is.exact;
    }
