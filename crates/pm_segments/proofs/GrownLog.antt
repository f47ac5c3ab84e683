-- A log that grows at its end keeps what it had: each of its segments begins with the bytes that it had, its frames
-- stand where they stood, and what a scan has read ahead is still ahead of it.
use Rattle.std.proofs.Common.{◌≡◌, ◌≢◌, inl, inr, ℕ, zero, suc, ◌+◌, ◌-◌, ◌<◌, ◌≤◌, Bool, true, false, List, [], ◌∷◌, ◌++◌, length, take, drop, Option, Some, refl, sym, ◌∙◌, ap, subst, arith, append_assoc, append-nil, length-append}
use Rattle.std.specs.Prelude.{◌^◌, if◌then◌else◌, slice_get}
use Rattle.std.proofs.lemmas.Bool.Decides.{nat_tests}
use Rattle.std.proofs.lemmas.List.{length-take, length-drop, take-append-le, drop-append-le}
use Rattle.pm_types.specs.declared.place.Place.{Place}
use Rattle.pm_frame.specs.Frames.{Frame, frame_len, frame_bytes}
use Rattle.pm_disk.specs.Files.{File, Write, Cut, bytes_of, content, with_change, all_forced}
use Rattle.pm_disk.specs.Worlds.{World, log_changed, log_forced, segment_in}
use Rattle.pm_disk.proofs.Families.{file_there, file_cases}
use Rattle.pm_disk.proofs.Files.{content_change}
use Rattle.pm_disk.proofs.Writes.{slice_get-append_left}
use Rattle.pm_records.specs.LogFiles.{contents}
use Rattle.pm_records.specs.LogSteps.{Step, Append, written, next_segment, next_begin, end_after, world_after}
use Rattle.pm_records.specs.Logs.{all_frames, is_last, next_place, after_frames, seal_frame, HasFrames}
use Rattle.pm_records.proofs.FileSteps.{at_end-write}
use Rattle.pm_records.proofs.FrameGrammar.{frame_laws}
use Rattle.pm_records.proofs.Runs.{bool_cases, rises_from}
use Rattle.pm_records.proofs.Tracing.{world_after-append}
use Rattle.pm_segments.specs.Appends.{can_seal, seal_steps, enter_steps, roll_steps, rolled, room_steps, roomy, append_steps, grown}
use Rattle.pm_segments.specs.Ends.{LogEnd, EndsThere, has_room}
use Rattle.pm_segments.specs.Scans.{Scanned, IsAhead, bytes_after, looking_again, forgotten}
use Rattle.pm_segments.proofs.Emptied.{emptied, written_ends}
use Rattle.pm_segments.proofs.Sealing.{sealed_end, roomy_end}

-- ---- bytes

-- these bytes begin with those
abbrev pub Extends : List ℕ → List ℕ → Type 0
Extends old new = (more : List ℕ) × (new ≡ old ++ more)

pub extends_same : (old new : List ℕ) → new ≡ old → Extends old new
extends_same old new is = ([], is ∙ sym (append-nil old))

pub extends_then : (old mid new : List ℕ) → Extends old mid → Extends mid new → Extends old new
extends_then old mid new one two = (one.0 ++ two.0, two.1 ∙ ap (λ l. l ++ two.0) one.1 ∙ append_assoc old one.0 two.0)

-- a segment has the bytes that it had, and maybe more
abbrev pub Grew : ℕ → World → World → Type 0
Grew seg old new = Extends (contents old.log seg) (contents new.log seg)

grew_then : (seg : ℕ) (old mid new : World) → Grew seg old mid → Grew seg mid new → Grew seg old new
grew_then seg old mid new one two = extends_then (contents old.log seg) (contents mid.log seg) (contents new.log seg) one two

-- ---- steps

-- a frame that is written at the end of its segment
written_grew : (at : Place) (f : Frame) (w : World) (seg : ℕ) → length (contents w.log at.seg) ≡ at.off → Grew seg w (written at f w)
written_grew at f w seg ends =
    let bytes = frame_bytes at f in
    let file = with_change (w.log at.seg) (Write at.off bytes) in
    let P : ℕ → File → Type 0 = λ n g. Extends (contents w.log n) (bytes_of (content g)) in
    let here : P at.seg file =
    (bytes, ap (λ (o : Option (List ℕ)). bytes_of o) (content_change (w.log at.seg) (Write at.off bytes)) ∙ at_end-write (contents w.log at.seg) bytes at.off ends) in
    file_cases w.log at.seg file P here (λ n apart. extends_same (contents w.log n) (contents w.log n) refl) seg

-- one that is written to another segment
written_apart : (at : Place) (f : Frame) (w : World) (seg : ℕ) → seg ≢ at.seg → Grew seg w (written at f w)
written_apart at f w seg apart =
    extends_same (contents w.log seg) (contents (written at f w).log seg)
    (ap (λ (g : File). bytes_of (content g)) (file_there w.log at.seg seg (with_change (w.log at.seg) (Write at.off (frame_bytes at f))) apart))

forced_same : (n : ℕ) (w : World) (seg : ℕ) → contents (log_forced n w).log seg ≡ contents w.log seg
forced_same n w seg =
    let P : ℕ → File → Type 0 = λ m g. bytes_of (content g) ≡ contents w.log m in
    file_cases w.log n (all_forced (w.log n)) P refl (λ m apart. refl) seg

cut_apart : (n : ℕ) (w : World) (seg : ℕ) → seg ≢ n → contents (log_changed n (Cut 0) w).log seg ≡ contents w.log seg
cut_apart n w seg apart = ap (λ (g : File). bytes_of (content g)) (file_there w.log n seg (with_change (w.log n) (Cut 0)) apart)

-- ---- an append

-- what an append leaves of a segment up to the log's end, and where the log's file ends then
pub record Appended (log : LogEnd) (f : Frame) (w : World) : Type 0 where
  pub grew : (seg : ℕ) → seg ≤ log.end.seg → Grew seg w (world_after (append_steps log f) log.end w)
  pub there : EndsThere (grown log f) (world_after (append_steps log f) log.end w)
  pub rises : log.end.seg ≤ (grown log f).end.seg

module _ (log : LogEnd) (f : Frame) (w : World) (there : EndsThere log w) (numbered : log.end.seg + 1 < 2 ^ 64) where
  abbrev len : ℕ
  len = length f.payload

  abbrev first : World
  first = world_after (room_steps log len) log.end w

  is_after : world_after (append_steps log f) log.end w ≡ written (roomy log len).end f first
  is_after =
      world_after-append (room_steps log len) (Append f ∷ []) log.end w ∙ ap (λ (p : Place). written p f first) (roomy_end log len)

  -- it has room
  with_room : has_room log len ≡ true → Appended log f w
  with_room room =
      let same : room_steps log len ≡ [] = ap (λ (b : Bool). let steps : List Step = if b then [] else roll_steps log.end in steps) room in
      let log_is : roomy log len ≡ log = ap (λ (b : Bool). if b then log else rolled log) room in
      let world_is : world_after (append_steps log f) log.end w ≡ written log.end f w =
      is_after ∙ (λ i. written (log_is i).end f (world_after (same i) log.end w)) in
      record {
        grew = λ seg le. subst (λ (v : World). Grew seg w v) (sym world_is) (written_grew log.end f w seg there.ends);
        there = record {
          kept = subst (λ (l : LogEnd). l.first ≤ l.end.seg) (sym log_is) there.kept;
          ends = subst (λ (q : LogEnd × World). length (bytes_of (segment_in q.1 q.0.end.seg)) ≡ q.0.end.off + frame_len f) {x = (log, written log.end f w)} {y = (roomy log len, world_after (append_steps log f) log.end w)}
              (λ i. (sym log_is i, sym world_is i)) (written_ends log.end f w there.ends);
        };
        rises = subst (λ (l : LogEnd). log.end.seg ≤ l.end.seg) (sym log_is) (omega arith);
      }

  -- the log rolls first
  abbrev sealed : World
  sealed = world_after (seal_steps log.end) log.end w

  abbrev next : ℕ
  next = next_segment log.end.seg

  next_is : next ≡ log.end.seg + 1
  next_is = ap (λ (b : Bool). if b then 1 else log.end.seg + 1) not_last
    where
      not_last : is_last log.end.seg ≡ false
      not_last = grind (arith, nat_tests, numbered)

  sealed_grew : (seg : ℕ) → Grew seg w sealed
  sealed_grew seg = by (can_seal log.end)
    where
      by : (b : Bool) → Grew seg w (world_after (if b then Append seal_frame ∷ [] else []) log.end w)
      by true = written_grew log.end seal_frame w seg there.ends
      by false = extends_same (contents w.log seg) (contents w.log seg) refl

  abbrev forced : World
  forced = log_forced (end_after (seal_steps log.end) log.end).seg sealed

  abbrev emptied_world : World
  emptied_world = log_changed next (Cut 0) forced

  abbrev begun : World
  begun = log_forced next emptied_world

  rolled_world : world_after (roll_steps log.end) log.end w ≡ begun
  rolled_world =
      world_after-append (seal_steps log.end) enter_steps log.end w
      ∙ ap (λ (p : Place). log_forced (next_segment p.seg) (log_changed (next_segment p.seg) (Cut 0) forced)) (sealed_end log.end)

  begun_grew : (seg : ℕ) → seg ≤ log.end.seg → Grew seg w begun
  begun_grew seg le =
      let apart : seg ≢ next = λ is. absurd (omega (arith, is, next_is, le)) in
      grew_then seg w sealed begun (sealed_grew seg)
      (extends_same (contents sealed.log seg) (contents begun.log seg)
      (forced_same next emptied_world seg ∙ cut_apart next forced seg apart ∙ forced_same (end_after (seal_steps log.end) log.end).seg sealed seg))

  begun_empty : length (contents begun.log next) ≡ 0
  begun_empty = emptied forced emptied_world begun next next refl refl refl

  with_roll : has_room log len ≡ false → Appended log f w
  with_roll full =
      let same : room_steps log len ≡ roll_steps log.end = ap (λ (b : Bool). let steps : List Step = if b then [] else roll_steps log.end in steps) full in
      let log_is : roomy log len ≡ rolled log = ap (λ (b : Bool). if b then log else rolled log) full in
      let first_is : first ≡ begun = ap (λ (steps : List Step). world_after steps log.end w) same ∙ rolled_world in
      let world_is : world_after (append_steps log f) log.end w ≡ written (next_begin log.end) f begun =
      is_after ∙ (λ i. written (log_is i).end f (first_is i)) in
      record {
        grew = λ seg le.
            let apart : seg ≢ next = λ is. absurd (omega (arith, is, next_is, le)) in
            subst (λ (v : World). Grew seg w v) (sym world_is)
            (grew_then seg w begun (written (next_begin log.end) f begun) (begun_grew seg le) (written_apart (next_begin log.end) f begun seg apart));
        there = record {
          kept = subst (λ (l : LogEnd). l.first ≤ l.end.seg) (sym log_is) (omega arith);
          ends = subst (λ (q : LogEnd × World). length (bytes_of (segment_in q.1 q.0.end.seg)) ≡ q.0.end.off + frame_len f) {x = (rolled log, written (next_begin log.end) f begun)}
              {y = (roomy log len, world_after (append_steps log f) log.end w)} (λ i. (sym log_is i, sym world_is i)) (written_ends (next_begin log.end) f begun begun_empty);
        };
        rises = subst (λ (l : LogEnd). log.end.seg ≤ l.end.seg) (sym log_is) (omega (arith, next_is));
      }

  pub appended : Appended log f w
  appended = elim (bool_cases (has_room log len)) [
    | inl room ↦ with_room room
    | inr full ↦ with_roll full
  ]

-- ---- frames

-- a frame that stands in a segment stands there when the segment grew
pub frame_stays : (seg off : ℕ) (old new : List ℕ) (f : Frame) → Extends old new → all_frames.frame_at seg off old ≡ Some f → all_frames.frame_at seg off new ≡ Some f
frame_stays seg off old new f more is =
    let within = frame_laws.within seg off old f is in
    let long : length new ≡ length old + length more.0 = ap (λ (l : List ℕ). length l) more.1 ∙ length-append old more.0 in
    frame_laws.own seg off old new f is (omega (arith, within, long)) (λ i lt. ap (λ (l : List ℕ). slice_get l i) more.1 ∙ slice_get-append_left old more.0 i (omega (arith, lt, within)))

-- frames that end in a segment, or before it, stand where they stood when the segments up to there grew
pub run_stays : (old new : ℕ → List ℕ) (p : Place) (fs : List Frame) (most : ℕ) → ((seg : ℕ) → seg ≤ most → Extends (old seg) (new seg)) → (after_frames p fs).seg ≤ most → HasFrames all_frames old p fs → HasFrames all_frames new p fs
run_stays old new p [] most more le run = tt
run_stays old new p (f ∷ fs) most more le run =
    let low : p.seg ≤ most = omega (arith, rises_from p (f ∷ fs), le) in
    (frame_stays p.seg p.off (old p.seg) (new p.seg) f (more p.seg low) run.0, run.1, run_stays old new (next_place p f) fs most more le run.2)

-- ---- a scan

-- what was read ahead is still ahead when the segment grew
pub still_ahead : (scan : Scanned) (old new : World) → Grew scan.next.seg old new → IsAhead scan old → IsAhead (looking_again scan) new
still_ahead scan old new more is =
    let n = length scan.ahead in
    let was = contents old.log scan.next.seg in
    let there = drop scan.next.off was in
    let few : n ≤ length there = omega (arith, ap (λ (l : List ℕ). length l) is.front, length-take n there) in
    record {
      front = is.front ∙ by n few;
      whole = λ whole. absurd (cc whole);
    }
  where
    front_same : (n off : ℕ) (was now : List ℕ) → Extends was now → n ≤ length (drop off was) → take n (drop off was) ≡ take n (drop off now)
    front_same zero off was now more few = refl
    front_same (suc n) off was now more few =
        let within : off ≤ length was = omega (arith, few, length-drop off was) in
        sym (take-append-le (suc n) (drop off was) more.0 few) ∙ ap (take (suc n)) (sym (drop-append-le off was more.0 within) ∙ ap (drop off) (sym more.1))

    by : (n : ℕ) → n ≤ length (bytes_after scan.next old) → take n (bytes_after scan.next old) ≡ take n (bytes_after scan.next new)
    by n few = front_same n scan.next.off (contents old.log scan.next.seg) (contents new.log scan.next.seg) more few

-- a scan that has read nothing ahead
pub nothing_ahead : (scan : Scanned) (world : World) → IsAhead (forgotten scan) world
nothing_ahead scan world = record { front = refl; whole = λ whole. absurd (cc whole) }
