-- Stores that are sound with a checkpoint: an ended one without a log, and one that was only begun.
use Rattle.std.proofs.Common.{◌≡◌, inl, inr, ℕ, ◌+◌, ◌*◌, ◌<◌, ◌≤◌, List, [], ◌∷◌, ◌++◌, length, drop, Option, Some, None, Bool, true, false, refl, sym, ap, subst, ◌∙◌, arith}
use Rattle.std.specs.Prelude.{◌==◌, nat_le, if◌then◌else◌, replicate, IsSome}
use Rattle.std.specs.FinMap.{empty}
use Rattle.std.specs.Option.{option_map, option_and_then}
use Rattle.std.proofs.lemmas.Option.{same_Some}
use Rattle.std.proofs.lemmas.List.{append-nil, drop_at, take_all, length-append}
use Rattle.std.proofs.lemmas.Bool.{leb-true, eqb-true, false≢true}
use Rattle.pm_types.specs.declared.place.Place.{Place}
use Rattle.pm_types.specs.declared.shape.Mark.{Mark}
use Rattle.pm_types.specs.declared.shape.Shape.{Shape}
use Rattle.pm_types.specs.Shapes.{IsShape}
use Rattle.pm_types.proofs.PageSizeBounds.{page_size_bounds}
use Rattle.pm_disk.specs.Files.{bytes_of}
use Rattle.pm_disk.specs.Images.{Image}
use Rattle.pm_frame.specs.Frames.{Frame, frame_bytes, frame_at}
use Rattle.pm_frame.specs.declared.kinds.TheConstants.{CP_BEGIN}
use Rattle.pm_frame.proofs.FrameAt.{frame_at-bytes, length-frame_bytes, IsFrame-from}
use Rattle.pm_model.specs.Eval.{Pairs}
use Rattle.pm_records.specs.Shapes.{shape_bytes}
use Rattle.pm_records.specs.Records.{Record, CpBegin, Restart, payload_of}
use Rattle.pm_records.proofs.GrammarTests.{IsRecord-from}
use Rattle.pm_records.proofs.RecordOf.{record_of-payload}
use Rattle.pm_records.specs.Logs.{place, all_frames, record_in, next_place}
use Rattle.pm_records.proofs.FrameGrammar.{frame_laws}
use Rattle.pm_records.proofs.Runs.{none_past, bool_cases}
use Rattle.pm_pages.specs.Rows.{Partition}
use Rattle.pm_pages.specs.WellFormed.{IsWellFormed}
use Rattle.pm_marks.specs.Slots.{IsMark, IsMarkPlace, slot_of, slot_bytes, bytes_in_slot, mark_at}
use Rattle.pm_marks.specs.InForce.{Started, Ended, checkpoint_in}
use Rattle.pm_marks.proofs.SlotMarks.{mark_in-bytes, mark_at-short, zeros_are_none, length-slot_bytes}
use Rattle.pm_core.specs.BasePages.{Partitions, no_pages, page_in_file, pages_of, laid_over, base_of, counted, rebuilt_from, since_restart, rebuilt_of, Rebuilds}
use Rattle.pm_core.specs.LogAlone.{log_in}
use Rattle.pm_core.specs.Held.{in_force, pairs_in}
use Rattle.pm_core.specs.Sound.{SoundWith, SoundImage}
use Rattle.pm_core.specs.FirstRun.{restart_frame}
use Rattle.pm_core.specs.Stands.{IsInForce}
use Rattle.pm_core.proofs.InForce.{slot_cases}
use Rattle.pm_core.proofs.Saying.{say_in_force}
use Rattle.pm_core.proofs.WithoutStart.{no_rows, none_counted, none_well_formed}

-- without files the base pages are none
no_file : (page_size : ℕ) → 0 < page_size → laid_over no_pages (pages_of page_size (λ part. None)) ≡ no_pages
no_file page_size some = λ i part index. each index i
  where
    chosen : (b : Bool) (o : Option (List ℕ)) → (b ≡ true → ⊥) → (let p : Option (List ℕ) = if b then o else None in p) ≡ None
    chosen true o never = absurd (never refl)
    chosen false o never = refl

    each : (index : ℕ) → page_in_file page_size None index ≡ None
    each index = chosen (nat_le (index * page_size + page_size) 0) _ (λ is. absurd (omega (arith, leb-true _ _ is, some)))

some_page : (shape : Shape) → IsShape shape → 0 < shape.page_size
some_page shape h = let bounds = page_size_bounds shape.page_size h.page_size in omega (arith, bounds.0)

-- ---- a file with one marker, in slot 1

abbrev file_of : Mark → List ℕ
file_of mark = replicate 64 0 ++ slot_bytes mark

module _ (mark : Mark) (fits : IsMark mark) (one : mark.number ≡ 1) where
  there : mark_at 1 (file_of mark) ≡ Some mark
  there = mark_in-bytes 1 (bytes_in_slot 1 (file_of mark)) mark fits (ap slot_of one) (take_all 64 (slot_bytes mark) (omega (arith, length-slot_bytes mark)))

  other : mark_at 0 (file_of mark) ≡ None
  other = zeros_are_none 0 (file_of mark) refl

  pub up_to : (slot : ℕ) (m : Mark) → mark_at slot (file_of mark) ≡ Some m → m.number ≤ mark.number
  up_to slot m is = elim (slot_cases slot (file_of mark) m is) [
    | inl at ↦ let none : Some m ≡ None = sym is ∙ ap (λ k. mark_at k (file_of mark)) at ∙ other in absurd cc
    | inr at ↦ let same = ap (λ (x : Mark). x.number) (same_Some m mark (sym is ∙ ap (λ k. mark_at k (file_of mark)) at ∙ there)) in omega (arith, same)
  ]

  pub own : mark_at (slot_of mark.number) (file_of mark) ≡ Some mark
  own = ap (λ n. mark_at (slot_of n) (file_of mark)) one ∙ there

  pub starts : IsInForce mark (file_of mark)
  starts = record { there = own; highest = up_to }

  pub says_ended : checkpoint_in (file_of mark) (file_of mark) ≡ Ended mark
  says_ended = say_in_force (Ended mark) (file_of mark) (file_of mark) (starts, up_to, own)

  pub says_started : checkpoint_in (file_of mark) [] ≡ Started mark
  says_started = say_in_force (Started mark) (file_of mark) [] (
    starts,
    λ slot m is. let none : Some m ≡ None = sym is ∙ mark_at-short slot [] (omega arith) in absurd cc,
    λ is. let none : Some mark ≡ None = sym is ∙ mark_at-short (slot_of mark.number) [] (omega arith) in absurd cc,
  )

module _ (shape : Shape) (shaped : IsShape shape) where
  some : 0 < shape.page_size
  some = some_page shape shaped

  abbrev pub mark : Mark
  mark = record { number = 1; begin = place 1 0; replay = place 1 0; from = place 1 0; shape = shape }

  abbrev pub image : Image
  image = record { log = λ seg. None; pages = λ part. None; starts = Some (file_of mark); ends = Some (file_of mark) }

  first_place : IsMarkPlace (place 1 0)
  first_place = record { numbered = omega arith; seg_fits = omega arith; within = omega arith }

  may : IsMark mark
  may = record { numbered = omega arith; number_fits = omega arith; begin = first_place; replay = first_place; from = first_place; shape = shaped }

  pub ended : in_force image ≡ Ended mark
  ended = says_ended mark may refl

  no_log : all_frames.frame_at 1 0 [] ≡ None
  no_log = none_past all_frames frame_laws 1 0 [] (omega arith)

  bases : base_of (Ended mark) no_pages (λ part. None) ≡ no_pages
  bases = no_file shape.page_size some

  pub ended_is_sound : (wanted : Shape) → SoundWith wanted (Ended mark) image shape empty
  ended_is_sound wanted = record {
    holds = record {
      rebuilt = no_pages;
      frames = [];
      rebuilt_are = refl;
      log = record { run = tt; ends = λ still. no_log };
      reaches = omega arith;
      begins = tt;
      told = refl;
      well_formed = λ part lt. subst (λ (pages : Partition). IsWellFormed shape part pages)
          (sym (ap (λ (base : Partitions). counted (base part)) bases ∙ none_counted part)) (none_well_formed shape part);
      map = ap (λ (base : Partitions). let o : Option Pairs = Some (pairs_in shape.partitions base) in o) bases ∙ ap (λ m. Some m) (no_rows shape.partitions);
    };
    nothing_above = λ seg above. refl;
    begin_ends = record { frames = []; is_log = record { run = tt; ends = λ still. no_log }; same_end = refl; in_grammar = refl };
    has_meta = λ part index is. absurd cc;
    ends_below = up_to mark may refl;
    bare = tt;
  }

  pub ended_image_is_sound : (wanted : Shape) → SoundImage wanted image shape empty
  ended_image_is_sound wanted = subst (λ c. SoundWith wanted c image shape empty) (sym ended) (ended_is_sound wanted)

-- A store whose first checkpoint was begun and not ended: its log has a RESTART and a CP_BEGIN.
module _ (shape : Shape) (shaped : IsShape shape) where
  some_bytes : 0 < shape.page_size
  some_bytes = some_page shape shaped

  abbrev pub restart : Frame
  restart = restart_frame shape

  abbrev pub begin : Frame
  begin = record { kind = CP_BEGIN; payload = payload_of (CpBegin 1 (place 1 78)) }

  abbrev pub segment : List ℕ
  segment = frame_bytes (place 1 0) restart ++ frame_bytes (place 1 37) begin

  abbrev pub started_mark : Mark
  started_mark = record { number = 1; begin = place 1 37; replay = place 1 78; from = place 1 0; shape = shape }

  abbrev pub started_image : Image
  started_image = record { log = λ seg. if seg == 1 then Some segment else None; pages = λ part. None; starts = Some (file_of started_mark); ends = None }

  may_start : IsMark started_mark
  may_start = record {
    numbered = omega arith;
    number_fits = omega arith;
    begin = record { numbered = omega arith; seg_fits = omega arith; within = omega arith };
    replay = record { numbered = omega arith; seg_fits = omega arith; within = omega arith };
    from = record { numbered = omega arith; seg_fits = omega arith; within = omega arith };
    shape = shaped;
  }

  pub started : in_force started_image ≡ Started started_mark
  started = says_started started_mark may_start refl

  pub restart_is : record_in restart ≡ Some (Restart shape)
  restart_is = record_of-payload (Restart shape) shaped

  begin_is : record_in begin ≡ Some (CpBegin 1 (place 1 78))
  begin_is = record_of-payload (CpBegin 1 (place 1 78)) (IsRecord-from (CpBegin 1 (place 1 78)) refl)

  pub restart_len : length restart.payload ≡ 16
  unfolding payload_of shape_bytes
  restart_len = refl

  begin_len : length begin.payload ≡ 20
  unfolding payload_of
  begin_len = refl

  at_restart : all_frames.frame_at 1 0 segment ≡ Some restart
  at_restart = (frame_at-bytes (place 1 0) restart (frame_bytes (place 1 37) begin) (IsFrame-from (place 1 0) restart
      (rw (restart_len) refl)))

  at_begin : all_frames.frame_at 1 37 segment ≡ Some begin
  at_begin =
      let long : length (frame_bytes (place 1 0) restart) ≡ 37 = omega (arith, length-frame_bytes (place 1 0) restart, restart_len) in
      let rest : drop 37 segment ≡ frame_bytes (place 1 37) begin ++ [] =
      drop_at (frame_bytes (place 1 0) restart) (frame_bytes (place 1 37) begin) 37 long ∙ sym (append-nil (frame_bytes (place 1 37) begin)) in
      ap (λ bytes. frame_at (place 1 37) bytes) rest
      ∙ (frame_at-bytes (place 1 37) begin [] (IsFrame-from (place 1 37) begin (rw (begin_len) refl)))

  at_end : all_frames.frame_at 1 78 segment ≡ None
  at_end = none_past all_frames frame_laws 1 78 segment (omega (
    arith,
    length-append (frame_bytes (place 1 0) restart) (frame_bytes (place 1 37) begin),
    length-frame_bytes (place 1 0) restart,
    length-frame_bytes (place 1 37) begin,
    restart_len,
    begin_len,
  ))

  pub restart_next : next_place (place 1 0) restart ≡ place 1 37
  restart_next = ap (λ n. place 1 (0 + (n + 21))) restart_len

  begin_next : next_place (place 1 37) begin ≡ place 1 78
  begin_next = ap (λ n. place 1 (37 + (n + 21))) begin_len

  rebuilt_none : rebuilt_of shape (restart ∷ []) ≡ Some no_pages
  unfolding rebuilt_of
  rebuilt_none =
      ap (λ (o : Option Record). option_and_then (λ records. rebuilt_from shape (since_restart records))
      (option_and_then (λ first. option_map (λ rest. first ∷ rest) (Some [])) o)) restart_is

  rebuilds : Rebuilds started_mark (log_in started_image) no_pages
  rebuilds = record {
    frames = restart ∷ [];
    run = (at_restart, λ ends. absurd (false≢true ends), tt);
    reaches = restart_next;
    begin = begin;
    stands = at_begin;
    begins = record { replay = place 1 78; is = begin_is };
    rebuilt = rebuilt_none;
  }

  no_other : (seg : ℕ) → 1 < seg → log_in started_image seg ≡ []
  no_other seg above = elim (bool_cases (seg == 1)) [
    | inl is ↦ absurd (omega (arith, eqb-true _ _ is, above))
    | inr not_one ↦ ap (λ (b : Bool). bytes_of (let o : Option (List ℕ) = if b then Some segment else None in o)) not_one
  ]

  started_bases : base_of (Started started_mark) no_pages (λ part. None) ≡ no_pages
  started_bases = no_file shape.page_size some_bytes

  started_is_sound : (wanted : Shape) → SoundWith wanted (Started started_mark) started_image shape empty
  started_is_sound wanted = record {
    holds = record {
      rebuilt = no_pages;
      frames = [];
      rebuilt_are = rebuilds;
      log = record { run = tt; ends = λ still. at_end };
      reaches = omega (
        arith,
        length-append (frame_bytes (place 1 0) restart) (frame_bytes (place 1 37) begin),
        length-frame_bytes (place 1 0) restart,
        length-frame_bytes (place 1 37) begin,
        restart_len,
        begin_len,
      );
      begins = tt;
      told = refl;
      well_formed = λ part lt. subst (λ (pages : Partition). IsWellFormed shape part pages)
          (sym (ap (λ (base : Partitions). counted (base part)) started_bases ∙ none_counted part)) (none_well_formed shape part);
      map = ap (λ (base : Partitions). let o : Option Pairs = Some (pairs_in shape.partitions base) in o) started_bases ∙ ap (λ m. Some m) (no_rows shape.partitions);
    };
    nothing_above = no_other;
    begin_ends = record {
      frames = begin ∷ [];
      is_log = record { run = (at_begin, λ ends. absurd (false≢true ends), tt); ends = λ still. subst (λ (p : Place). all_frames.frame_at p.seg p.off (log_in started_image p.seg) ≡ None) (sym begin_next) at_end };
      same_end = begin_next;
      in_grammar = subst (λ (o : Option Record). IsSome (option_and_then (λ first. option_map (λ rest. first ∷ rest) (Some [])) o)) (sym begin_is) refl;
    };
    has_meta = λ part index is. absurd cc;
    ends_below = λ slot m is. let none : Some m ≡ None = sym is ∙ mark_at-short slot [] (omega arith) in absurd cc;
    bare = tt;
  }

  pub started_image_is_sound : (wanted : Shape) → SoundImage wanted started_image shape empty
  started_image_is_sound wanted = subst (λ c. SoundWith wanted c started_image shape empty) (sym started) (started_is_sound wanted)

pub has_ended : (wanted shape : Shape) → IsShape shape
    → (at : Image) × (x : Mark) × (in_force at ≡ Ended x) × SoundImage wanted at shape empty
has_ended wanted shape shaped = (image shape shaped, mark shape shaped, ended shape shaped, ended_image_is_sound shape shaped wanted)

pub has_started : (wanted shape : Shape) → IsShape shape
    → (at : Image) × (x : Mark) × (in_force at ≡ Started x) × SoundImage wanted at shape empty
has_started wanted shape shaped = (started_image shape shaped, started_mark shape shaped, started shape shaped, started_image_is_sound shape shaped wanted)
