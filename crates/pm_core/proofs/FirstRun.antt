-- A run of the disk machine from a folder without files meets its guards.
use Rattle.std.proofs.Common.{◌≡◌, ◌⊎◌, inl, inr, ℕ, ◌+◌, ◌^◌, ◌<◌, ◌≤◌, List, [], ◌∷◌, ◌++◌, length, Option, Some, None, Bool, false, refl, sym, ap, subst, ◌∙◌, arith}
use Rattle.std.specs.Prelude.{IsSome, nat_lt, ◌==◌, ◌&&◌, ◌||◌, ◌*◌, ◌-◌, if◌then◌else◌, map, take, slice_range}
use Rattle.std.specs.Int.{w64, to_le_bytes}
use Rattle.std.specs.List.{range_with_len}
use Rattle.std.specs.Option.{option_map, option_and_then, option_or}
use Rattle.std.specs.FinMap.{empty, from_entries}
use Rattle.std.proofs.lemmas.Bool.{ltb-true, ltb-false, lt-ltb, eqb-true, eq-eqb, and_parts, false≢true}
use Rattle.std.proofs.lemmas.List.{append-nil, length-append, take_all, drop_all}
use Rattle.pm_types.specs.declared.place.Place.{Place}
use Rattle.pm_types.specs.declared.shape.Mark.{Mark}
use Rattle.pm_types.specs.declared.shape.Shape.{Shape}
use Rattle.pm_types.specs.PageSizes.{IsPageSize}
use Rattle.pm_types.specs.Shapes.{IsShape}
use Rattle.pm_types.proofs.PageSizeBounds.{page_size_bounds}
use Rattle.pm_disk.specs.Files.{File, bytes_of, content, changed, gapped}
use Rattle.pm_disk.specs.Worlds.{World, empty_world, page_at, slot_at}
use Rattle.pm_disk.specs.declared.mark.TheConstants.{SLOT_LEN}
use Rattle.pm_frame.specs.Frames.{Frame}
use Rattle.pm_frame.proofs.FrameAt.{is_frame-from}
use Rattle.pm_model.specs.declared.cache_key.CacheKey.{CacheKey}
use Rattle.pm_model.specs.Eval.{Pairs, cache_key_cmp}
use Rattle.pm_records.specs.LogFiles.{Uncut, Ready, IsWritten}
use Rattle.pm_records.specs.Logs.{place, all_frames, record_in, next_place, after_frames, IsLogFrom}
use Rattle.pm_records.specs.LogSteps.{CutTail, Append, Force}
use Rattle.pm_records.specs.Records.{Record, Snapshot, CpBegin, Restart, Seal, payload_of}
use Rattle.pm_records.proofs.RecordOf.{record_of-payload}
use Rattle.pm_records.proofs.Writing.{steps_keep}
use Rattle.pm_pages.specs.Rows.{Partition, page_count, rows_of}
use Rattle.pm_pages.specs.WellFormed.{IsWellFormed}
use Rattle.pm_records.proofs.FrameGrammar.{frame_laws}
use Rattle.pm_records.proofs.Runs.{none_past, bool_cases, option_cases}
use Rattle.pm_marks.specs.Slots.{IsMark, mark_at}
use Rattle.pm_marks.specs.InForce.{Checkpoint, NoStart, Ended, replay_of}
use Rattle.pm_marks.proofs.SlotMarks.{mark_at-short}
use Rattle.pm_marks.proofs.SlotWrites.{other_stays}
use Rattle.pm_core.specs.BasePages.{Partitions, no_pages, with_page, page_in_file, since_restart, whole, rebuilt_from, rebuilt_of, pages_of, laid_over, counted, RebuiltAre}
use Rattle.pm_core.specs.LogAlone.{image_of}
use Rattle.pm_pages.specs.RowMaps.{entry_of}
use Rattle.pm_core.specs.Held.{in_force, pairs_in}
use Rattle.pm_core.specs.Sound.{LogIsAlone, Sound}
use Rattle.pm_core.specs.FirstRun.{first_page, first_id, first_rebuilt, restart_frame, page_frame, begin_frame, seal_frame, first_mark, log_begun, log_goes_on, checkpoint_made, log_dropped, first_run}
use Rattle.pm_core.specs.Calls.{begin_steps}
use Rattle.pm_core.specs.Machine.{DiskStep, OnLog, WritePage, ForcePages, OthersStay, CanAppend, CanStart, CanWritePage, CanEnd, CanAll, map_or, log_state, next_state, next_world, states, worlds}
use Rattle.pm_core.specs.Replays.{replayed, then_replayed, all_replayed}
use Rattle.pm_core.specs.Starts.{CanBegin, start_state}
use Rattle.pm_core.specs.States.{State}
use Rattle.pm_core.specs.Stands.{Stands}
use Rattle.pm_core.proofs.Exhibits.{restart_is, restart_len}
use Rattle.pm_core.proofs.CrashLaw.{run_stands}
use Rattle.pm_core.proofs.InForce.{slot_cases}
use Rattle.pm_core.proofs.LogSteps.{written_by, is_written, from_end}
use Rattle.pm_core.proofs.NoFiles.{nothing_is_sound}
use Rattle.pm_core.proofs.OnePage.{length_page, alone as alone_page, no_rows_there, is_well_formed}
use Rattle.pm_core.proofs.Ranges.{no_page, page_there}
use Rattle.pm_core.proofs.Finishing.{begin_can, end_can}
use Rattle.pm_core.proofs.Starting.{stands_first}
use Rattle.pm_core.proofs.WithoutStart.{none_in_force, flat_none, none_either, none_counted, none_well_formed}

-- ---- the other slot

no_such_slot : (slot : ℕ) (bytes : List ℕ) → 2 ≤ slot → mark_at slot bytes ≡ None
no_such_slot slot bytes far = elim (option_cases (mark_at slot bytes)) [
  | inl none ↦ none
  | inr some ↦ elim (slot_cases slot bytes some.0 some.1) [
    | inl is ↦ absurd (omega (arith, is, far))
    | inr is ↦ absurd (omega (arith, is, far))
  ]
]

-- where each slot is there in full or not at all, a marker's write leaves the other one
pub others_stay : (mark : Mark) (file : File)
    → ((slot : ℕ) → slot < 2 → (slot_at slot + SLOT_LEN ≤ length (bytes_of (content file))) ⊎ (length (bytes_of (content file)) ≤ slot_at slot)) → OthersStay mark file
others_stay mark file whole = λ slot apart. elim (bool_cases (nat_lt slot 2)) [
  | inl low ↦ other_stays (content file) mark slot apart (ltb-true _ _ low) (whole slot (ltb-true _ _ low))
  | inr high ↦ no_such_slot slot _ (omega (arith, ltb-false _ _ high)) ∙ sym (no_such_slot slot _ (omega (arith, ltb-false _ _ high)))
]

-- ---- the first state

module _ (shape : Shape) (shaped : IsShape shape) where
  abbrev pub first : State
  first = record {
    shape = shape;
    low = 0;
    at = place 1 0;
    pending = [];
    end = place 1 0;
    tail = Uncut;
    now = record { checkpoint = NoStart; rebuilt = no_pages };
    soon = None;
    files = pages_of shape.page_size (λ part. None);
    first = empty;
    order = [];
    map = empty;
  }

  abbrev state_at : Checkpoint → List Frame → Partitions → State
  state_at checkpoint frames rebuilt = record first {
    at = after_frames (replay_of checkpoint) frames;
    end = after_frames (replay_of checkpoint) frames;
    now = record { checkpoint = checkpoint; rebuilt = rebuilt };
  }

  alone : LogIsAlone shape.page_size (image_of empty_world)
  alone = record {
    starts = λ slot. mark_at-short slot [] (omega arith);
    ends = λ slot. mark_at-short slot [] (omega arith);
    bare = λ part index. no_page shape.page_size index (let bounds = page_size_bounds shape.page_size shaped.page_size in omega (arith, bounds.0));
  }

  none : in_force (image_of empty_world) ≡ NoStart
  none = none_in_force shape.page_size (image_of empty_world) alone

  no_frames : (frames : List Frame) → IsLogFrom all_frames (λ seg. []) (place 1 0) frames → frames ≡ []
  no_frames [] log = refl
  no_frames (x ∷ frames) log = let no : None ≡ Some x = sym (none_past all_frames frame_laws 1 0 [] (omega arith)) ∙ log.run.0 in absurd cc

  pub first_is : (sound : Sound shape empty_world shape empty) → start_state shape empty_world shape empty sound ≡ first
  first_is sound =
      let holds = sound.holds in
      let log : IsLogFrom all_frames (λ seg. []) (place 1 0) holds.frames = subst (λ (c : Checkpoint). IsLogFrom all_frames (λ seg. []) (replay_of c) holds.frames) none holds.log in
      let rebuilt : holds.rebuilt ≡ no_pages = subst (λ (c : Checkpoint). RebuiltAre c (λ seg. []) holds.rebuilt) none holds.rebuilt_are in
      ap (λ c. state_at c holds.frames holds.rebuilt) none ∙ ap (λ fs. state_at NoStart fs holds.rebuilt) (no_frames holds.frames log) ∙ ap (λ r. state_at NoStart [] r) rebuilt

  -- a run may begin there
  pub begins : CanBegin shape length empty_world shape empty
  begins =
      let sound = nothing_is_sound shape shaped in
      record {
        sound = sound;
        quiet = record { log = λ seg. refl; pages = λ part. refl; starts = refl; ends = refl };
        numbered = subst (λ (s : State). s.at.seg + 1 < 2 ^ 64) (sym (first_is sound)) (omega arith);
        silent = refl;
      }

  stands : Stands shape length first empty_world
  stands = subst (λ (s : State). Stands shape length s empty_world) (first_is begins.sound) (stands_first shape length empty_world shape empty begins)

  -- ---- the log is begun

  abbrev size : ℕ
  size = shape.page_size

  abbrev page : List ℕ
  page = first_page shape.page_size

  few : size ≤ 16384
  few = let bounds = page_size_bounds shape.page_size shaped.page_size in bounds.1

  abbrev restart : Frame
  restart = restart_frame shape

  abbrev snapshot : Frame
  snapshot = page_frame shape

  abbrev begin : Frame
  begin = begin_frame shape

  abbrev seal : Frame
  seal = seal_frame

  snapshot_is : record_in snapshot ≡ Some (Snapshot first_id page)
  snapshot_is = record_of-payload (Snapshot first_id page) (record {
    named = record { flag = refl; partition = omega arith };
    sized = subst IsPageSize (sym (length_page shape shaped)) shaped.page_size;
  })

  begin_is : record_in begin ≡ Some (CpBegin 1 (place 2 (70 + size)))
  begin_is = record_of-payload (CpBegin 1 (place 2 (70 + size))) (record {
    from_one = omega arith;
    number_fits = omega arith;
    seg_fits = omega arith;
    off_fits = omega (arith, few);
  })

  seal_is : record_in seal ≡ Some Seal
  seal_is = record_of-payload Seal tt

  snapshot_len : length snapshot.payload ≡ 8 + size
  unfolding payload_of
  snapshot_len =
      let parts : length snapshot.payload ≡ 8 + length page = length-append (to_le_bytes w64 first_id.0) page in
      omega (arith, parts, length_page shape shaped)

  begin_len : length begin.payload ≡ 20
  unfolding payload_of
  begin_len = refl

  seal_len : length seal.payload ≡ 0
  unfolding payload_of
  seal_len = refl

  snapshot_next : next_place (place 2 0) snapshot ≡ place 2 (29 + size)
  snapshot_next = ap (λ n. place 2 n) (let len = snapshot_len in omega (arith, len))

  begin_next : next_place (place 2 (29 + size)) begin ≡ place 2 (70 + size)
  begin_next = ap (λ n. place 2 n) (let len = begin_len in omega (arith, len))

  kept : (frame : Frame) (found : Record) (map : Pairs) → record_in frame ≡ Some found → replayed shape (Some found) map ≡ Some map → then_replayed shape frame (Some map) ≡ Some map
  kept frame found map is same = ap (λ (o : Option Record). replayed shape o map) is ∙ same

  restart_kept : (map : Pairs) → then_replayed shape restart (Some map) ≡ Some map
  restart_kept map = kept restart (Restart shape) map (restart_is shape shaped) refl

  snapshot_kept : (map : Pairs) → then_replayed shape snapshot (Some map) ≡ Some map
  snapshot_kept map = kept snapshot (Snapshot first_id page) map snapshot_is refl

  begin_kept : (map : Pairs) → then_replayed shape begin (Some map) ≡ Some map
  begin_kept map = kept begin (CpBegin 1 (place 2 (70 + size))) map begin_is refl

  seal_kept : (map : Pairs) → then_replayed shape seal (Some map) ≡ Some map
  seal_kept map = kept seal Seal map seal_is refl

  sealed_kept : (map : Pairs) → all_replayed shape (restart ∷ seal ∷ []) (Some map) ≡ Some map
  sealed_kept map = ap (then_replayed shape seal) (restart_kept map) ∙ seal_kept map

  both_kept : (map : Pairs) → all_replayed shape (snapshot ∷ begin ∷ []) (Some map) ≡ Some map
  both_kept map = ap (then_replayed shape begin) (snapshot_kept map) ∙ begin_kept map

  some_map : (o : Option Pairs) (map : Pairs) → o ≡ Some map → IsSome o
  some_map o map is = subst IsSome (sym is) refl

  some_record : (o : Option Record) (found : Record) → o ≡ Some found → IsSome o
  some_record o found is = subst IsSome (sym is) refl

  abbrev second : State
  second = states (OnLog CutTail ∷ OnLog Force ∷ []) first empty_world

  append_restart : CanAppend restart second
  append_restart = record {
    ready = refl;
    open_segment = tt;
    fits = rw (restart_len shape shaped) refl;
    inner = λ is. absurd (false≢true is);
    in_grammar = some_record (record_in restart) (Restart shape) (restart_is shape shaped);
    not_full = some_map _ empty (restart_kept empty);
    restart_first = λ at none. restart_is shape shaped;
  }

  abbrev third : State
  third = log_state (Append restart) second

  append_seal : CanAppend seal third
  append_seal = record {
    ready = refl;
    open_segment = (refl, tt);
    fits = is_frame-from third.end seal (record {
      known_from = omega arith;
      known_to = omega arith;
      short = omega (arith, seal_len);
      ends = omega (arith, restart_len shape shaped, seal_len);
      numbered = omega arith;
    });
    inner = λ is. refl;
    in_grammar = some_record (record_in seal) Seal seal_is;
    not_full = some_map _ empty (sealed_kept empty);
    restart_first = λ at none. absurd cc;
  }

  log_can : CanAll length (log_begun shape) first empty_world
  log_can = (refl, (inr refl, (append_restart, (append_seal, (inl refl, ((refl, omega arith), (inr refl, tt)))))))

  -- ---- it goes on in the second segment

  abbrev inside : State
  inside = states (log_begun shape) first empty_world

  abbrev inner : World
  inner = worlds (log_begun shape) first empty_world

  inside_map : inside.map ≡ empty
  inside_map = ap (λ o. map_or o empty) (sealed_kept empty)

  append_snapshot : CanAppend snapshot inside
  append_snapshot = record {
    ready = refl;
    open_segment = tt;
    fits = is_frame-from inside.end snapshot (record {
      known_from = omega arith;
      known_to = omega arith;
      short = omega (arith, snapshot_len, few);
      ends = omega (arith, snapshot_len, few);
      numbered = omega arith;
    });
    inner = λ is. absurd (false≢true is);
    in_grammar = some_record (record_in snapshot) (Snapshot first_id page) snapshot_is;
    not_full = some_map _ inside.map (snapshot_kept inside.map);
    restart_first = λ at none. absurd (let seg : 2 ≡ 1 = ap (λ (p : Place). p.seg) at in omega (arith, seg));
  }

  abbrev fourth : State
  fourth = log_state (Append snapshot) inside

  append_begin : CanAppend begin fourth
  append_begin = record {
    ready = refl;
    open_segment = (refl, tt);
    fits = is_frame-from fourth.end begin (record {
      known_from = omega arith;
      known_to = omega arith;
      short = omega (arith, begin_len);
      ends = omega (arith, snapshot_len, begin_len, few);
      numbered = omega arith;
    });
    inner = λ is. absurd (false≢true is);
    in_grammar = some_record (record_in begin) (CpBegin 1 (place 2 (70 + size))) begin_is;
    not_full = some_map _ inside.map (both_kept inside.map);
    restart_first = λ at none. absurd cc;
  }

  more_can : CanAll length (log_goes_on shape) inside inner
  more_can = (append_snapshot, (append_begin, (inl refl, tt)))

  -- ---- the page

  abbrev based : Partitions
  based = laid_over (first_rebuilt shape) first.files

  some_size : 0 < size
  some_size = let bounds = page_size_bounds shape.page_size shaped.page_size in omega (arith, bounds.0)

  counts_alone : (index : ℕ) → counted (based 0) index ≡ alone_page shape shaped index
  counts_alone index = elim (bool_cases (index == 0)) [
    | inl is ↦ subst (λ n. counted (based 0) n ≡ alone_page shape shaped n) (sym (eqb-true _ _ is)) refl
    | inr other ↦
        ap (λ (b : Bool). let o : Option (List ℕ) = if b || nat_lt index (page_count (based 0)) then option_or (let p : Option (List ℕ) = if b then Some page else None in p) (page_in_file size None index) else None in o) other
        ∙ ap (λ (found : Option (List ℕ)). let o : Option (List ℕ) = if nat_lt index (page_count (based 0)) then found else None in o) (no_page size index some_size)
        ∙ none_either (nat_lt index (page_count (based 0)))
        ∙ sym (ap (λ (b : Bool). let o : Option (List ℕ) = if b then Some page else None in o) other)
  ]

  first_counted : counted (based 0) ≡ alone_page shape shaped
  first_counted = λ i index. counts_alone index i

  other_none : (part : ℕ) → (part == 0) ≡ false → based part ≡ no_pages part
  other_none part other = λ i index. (
      ap (λ (b : Bool). let o : Option (List ℕ) = option_or (if b && index == 0 then Some page else None) (page_in_file size None index) in o) other
      ∙ no_page size index some_size) i

  other_counted : (part : ℕ) → (part == 0) ≡ false → counted (based part) ≡ no_pages part
  other_counted part other = ap (λ (pages : Partition). counted pages) (other_none part other) ∙ none_counted part

  well : (part : ℕ) → IsWellFormed shape part (counted (based part))
  well part = elim (bool_cases (part == 0)) [
    | inl is ↦ subst (λ p. IsWellFormed shape p (counted (based p))) (sym (eqb-true _ _ is))
        (subst (λ (pages : Partition). IsWellFormed shape 0 pages) (sym first_counted) (is_well_formed shape shaped))
    | inr other ↦ subst (λ (pages : Partition). IsWellFormed shape part pages) (sym (other_counted part other)) (none_well_formed shape part)
  ]

  no_entries : (part : ℕ) → map entry_of (rows_of part (counted (based part))) ≡ []
  no_entries part = elim (bool_cases (part == 0)) [
    | inl is ↦ subst (λ p. map entry_of (rows_of p (counted (based p))) ≡ []) (sym (eqb-true _ _ is))
        (ap (λ (pages : Partition). map entry_of (rows_of 0 pages)) first_counted ∙ ap (map entry_of) (no_rows_there shape shaped))
    | inr other ↦ ap (λ (pages : Partition). map entry_of (rows_of part pages)) (other_counted part other)
  ]

  no_pairs : pairs_in shape.partitions based ≡ empty
  unfolding pairs_in
  no_pairs = ap (λ (entries : List (CacheKey × List ℕ)). from_entries {R = cache_key_cmp} entries)
      (flat_none (λ part. map entry_of (rows_of part (counted (based part)))) (range_with_len 0 shape.partitions) no_entries)

  -- only the first page is rebuilt
  is_first : (part index : ℕ) → IsSome (first_rebuilt shape part index) → (part ≡ 0) × (index ≡ 0)
  is_first part index is = elim (bool_cases (part == 0 && index == 0)) [
    | inl here ↦ let both = and_parts _ _ here in (eqb-true _ _ both.0, eqb-true _ _ both.1)
    | inr other ↦ absurd (let none : IsSome {T = List ℕ} None = subst (λ (b : Bool). IsSome (let o : Option (List ℕ) = if b then Some page else None in o)) other is in cc)
  ]

  rebuilds : rebuilt_of shape (snapshot ∷ []) ≡ Some (first_rebuilt shape)
  unfolding rebuilt_of
  rebuilds =
      let rest : List Record → Option Partitions = λ records. rebuilt_from shape (since_restart records) in
      ap (λ (o : Option Record). option_and_then rest (option_and_then (λ f. option_map (λ fs. f ∷ fs) (Some [])) o)) snapshot_is
      ∙ ap (λ (b : Bool). let o : Option Partitions = if b then option_map (with_page no_pages first_id) (whole size page) else Some no_pages in o) (lt-ltb _ _ (let from = shaped.partitions_from in omega (arith, from)))
      ∙ ap (λ (b : Bool). option_map (with_page no_pages first_id) (let o : Option (List ℕ) = if b then Some page else None in o)) (eq-eqb _ _ (length_page shape shaped))

  -- ---- the checkpoint

  abbrev mark : Mark
  mark = first_mark shape

  may : IsMark mark
  may = record {
    numbered = omega arith;
    number_fits = omega arith;
    begin = record { numbered = omega arith; seg_fits = omega arith; within = omega (arith, few) };
    replay = record { numbered = omega arith; seg_fits = omega arith; within = omega (arith, few) };
    from = record { numbered = omega arith; seg_fits = omega arith; within = omega arith };
    shape = shaped;
  }

  abbrev begun : State
  begun = states (log_goes_on shape) inside inner

  abbrev now : World
  now = worlds (log_goes_on shape) inside inner

  -- the second segment's frames are lasting from its begin on
  written_so : IsWritten now 0 (place 2 0) begun.end (record { at = begun.at; lasting = snapshot ∷ begin ∷ []; pending = []; tail = Ready })
  written_so =
      let there = run_stands shape length (log_begun shape) first empty_world stands log_can in
      let start = is_written shape length inside inner there (place 2 0) [] (from_end shape length inside inner there) in
      steps_keep 0 (Append snapshot ∷ Append begin ∷ Force ∷ []) inner (place 2 0) (place 2 0) (written_by inside []) start
      ((refl, append_snapshot.open_segment, append_snapshot.fits, append_snapshot.inner), ((refl, append_begin.open_segment, append_begin.fits, append_begin.inner), (inl refl, tt)))

  here : begun.at ≡ place 2 (70 + size)
  here = ap (λ p. next_place p begin) snapshot_next ∙ begin_next

  map_is : begun.map ≡ empty
  map_is = ap (λ o. map_or o inside.map) (both_kept inside.map) ∙ inside_map

  start_can : CanStart mark (first_rebuilt shape) begun now
  start_can = record {
    alone = refl;
    idle = λ other is. absurd cc;
    next = refl;
    fits = may;
    shaped = refl;
    before = snapshot ∷ [];
    after = begin ∷ [];
    leads = written_so.log.leads;
    reaches = snapshot_next;
    begins = record { replay = place 2 (70 + size); is = begin_is };
    in_grammar = (append_begin.in_grammar, tt);
    rebuilds = rebuilds;
    has_meta = λ part index is. subst (λ p. IsSome (based p 0)) (sym (is_first part index is).0) refl;
    frames = [];
    replay = record { kept = omega arith; run = tt; to = sym here; goes_on = refl };
    based = empty;
    based_is = record { well_formed = λ part lt. well part; is = no_pairs };
    same_map = ap (λ (m : Pairs). Some m) (sym map_is);
  }

  abbrev running : State
  running = states (begin_steps mark (first_rebuilt shape)) begun now

  abbrev started : World
  started = worlds (begin_steps mark (first_rebuilt shape)) begun now

  page_can : CanWritePage first_id [] page running started
  page_can = record { mark = mark; runs = refl; alone = refl; sized = length_page shape shaped; reaches = omega arith; due = refl }

  abbrev forced : List DiskStep
  forced = WritePage first_id [] page ∷ ForcePages 0 ∷ []

  count : length page ≡ size
  count = length_page shape shaped

  written_page : changed (gapped None (page_at first_id (length page)) [] page) None ≡ Some page
  written_page =
      let at : page_at first_id (length page) ≡ 0 = omega arith in
      ap (λ n. changed (gapped None n [] page) None) at ∙ ap (λ (rest : List ℕ). Some (page ++ rest)) (drop_all (0 + length page) [] (omega arith)) ∙ ap (λ bytes. Some bytes) (append-nil page)

  lies : page_in_file size (Some page) 0 ≡ Some page
  lies =
      let low : 0 * size ≡ 0 = omega arith in
      page_there size 0 (Some page) (omega (arith, count))
      ∙ ap (λ n. Some (slice_range page n (n + size))) low
      ∙ ap (λ n. Some (take n page)) (let len : 0 + size - 0 ≡ size = omega arith in len)
      ∙ ap (λ bytes. Some bytes) (take_all size page (omega (arith, count)))

  may_end : CanEnd mark (states forced running started) (worlds forced running started)
  may_end = record {
    runs = refl;
    alone = refl;
    fits = may;
    quiet = λ part index is. subst (λ p. ((worlds forced running started).pages p).since ≡ []) (sym (is_first part index is).0) refl;
    written = λ part index bytes is.
        let first_one = is_first part index (subst IsSome (sym is) refl) in
        subst (λ p. page_in_file size ((worlds forced running started).pages p).forced index ≡ Some bytes) (sym first_one.0)
        (subst (λ n. page_in_file size ((worlds forced running started).pages 0).forced n ≡ Some bytes) (sym first_one.1)
        (ap (λ (file : Option (List ℕ)). page_in_file size file 0) written_page ∙ lies
        ∙ sym (ap (λ n. first_rebuilt shape 0 n) first_one.1) ∙ sym (ap (λ p. first_rebuilt shape p index) first_one.0) ∙ is));
  }

  checkpoint_can : CanAll length (checkpoint_made shape) begun now
  checkpoint_can =
      let begins = begin_can length mark (first_rebuilt shape) begun now start_can in
      let ends = end_can length mark (states forced running started) (worlds forced running started) may_end in
      (begins.0, (begins.1.0, (begins.1.1.0, (page_can, (tt, ends)))))

  -- ---- the first segment is dropped

  abbrev ended : State
  ended = states (checkpoint_made shape) begun now

  abbrev later : World
  later = worlds (checkpoint_made shape) begun now

  rest_can : CanAll length log_dropped ended later
  rest_can = (record { mark = mark; ended = refl; alone = refl; below_begin = omega arith; below_replay = omega arith }, (omega arith, (omega arith, tt)))

  -- ---- all of it

  can_join : (xs ys : List DiskStep) (s : State) (w : World) → CanAll length xs s w → CanAll length ys (states xs s w) (worlds xs s w) → CanAll length (xs ++ ys) s w
  can_join [] ys s w first second = second
  can_join (x ∷ xs) ys s w first second = (first.0, can_join xs ys (next_state x s w) (next_world x s w) first.1 second)

  all_can : CanAll length (first_run shape) first empty_world
  all_can = can_join (log_begun shape) (log_goes_on shape ++ (checkpoint_made shape ++ log_dropped)) first empty_world log_can
      (can_join (log_goes_on shape) (checkpoint_made shape ++ log_dropped) inside inner more_can
      (can_join (checkpoint_made shape) log_dropped begun now checkpoint_can rest_can))

  pub run_can : (sound : Sound shape empty_world shape empty) → CanAll length (first_run shape) (start_state shape empty_world shape empty sound) empty_world
  run_can sound = subst (λ (s : State). CanAll length (first_run shape) s empty_world) (sym (first_is sound)) all_can

  pub run_ends : (sound : Sound shape empty_world shape empty)
      → (states (first_run shape) (start_state shape empty_world shape empty sound) empty_world).now.checkpoint ≡ Ended (first_mark shape)
  run_ends sound = ap (λ (s : State). (states (first_run shape) s empty_world).now.checkpoint) (first_is sound)
