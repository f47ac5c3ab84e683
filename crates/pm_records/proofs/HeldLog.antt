-- The log over its segments' files, from a place on: what of it is lasting, what was written after that, and what a
-- crash leaves.
use Rattle.std.proofs.Common.{◌≡◌, ◌⊎◌, inl, inr, ℕ, ◌+◌, ◌<◌, ◌≤◌, List, [], ◌∷◌, ◌++◌, length, take, Option, None, refl, sym, ◌∙◌, ap, subst, arith, true, false}
use Rattle.std.specs.Prelude.{slice_get, ◌||◌}
use Rattle.std.proofs.lemmas.List.{nil_from_length, append-nil}
use Rattle.pm_types.specs.declared.place.Place.{Place}
use Rattle.pm_frame.specs.Frames.{Frame, frame_len}
use Rattle.pm_disk.specs.Files.{File, Change, Write, Cut, bytes_of, with_change, all_forced}
use Rattle.pm_disk.specs.Worlds.{with_file}
use Rattle.pm_disk.specs.Images.{Leaves, IsTrueOf}
use Rattle.pm_disk.proofs.Files.{quiet_content, at_change-last, content_same, content_long, quiet_below, below_less}
use Rattle.pm_disk.proofs.Families.{file_here, file_there, file_cases}
use Rattle.pm_records.specs.LogFiles.{contents, forced_contents, OnlyTheseStood, Tail, Uncut, AfterSeal, Cutting, Ready, FilesHoldLog, HasLasting, HoldsLog}
use Rattle.pm_records.specs.Logs.{Grammar, place, is_seal, is_last, is_sealed, is_over, next_place, after_frames, frames_len, HasFrames, HasNoSeal, SegmentHasFrames, IsLogWithNothingAbove}
use Rattle.pm_records.proofs.FileSteps.{log_append, log_cut, log_force, log_force_sealed, log_force_cut, log_below}
use Rattle.pm_records.proofs.GrammarLaws.{IsGrammar}
use Rattle.pm_records.proofs.Runs.{Same, rises_from, bool_cases, next-plain, next-seal, plain_goes_on, seal_goes_on, goes_on-append, after_frames-append, none_past, keeps_run, log_none, log_cons, log_join, log_image}

-- what is pending has no SEAL, or ends with its only one
pub data Pending (seg off : ℕ) (fs : List Frame) : Type 0 where
  Open : HasNoSeal fs → is_sealed fs ≡ false → after_frames (record { seg = seg; off = off }) fs ≡ record { seg = seg; off = off + frames_len fs } → Pending seg off fs
  Sealed : is_sealed fs ≡ true → after_frames (record { seg = seg; off = off }) fs ≡ record { seg = seg + 1; off = 0 } → Pending seg off fs

module _ (g : Grammar) (laws : IsGrammar g) where
  pub pending_cases : (seg off : ℕ) (file : File) (fs : List Frame) → OnlyTheseStood g seg file off fs → Pending seg off fs
  pending_cases seg off file [] stood = let e : off ≡ off + 0 = omega arith in Open tt refl (ap (λ n. let q : Place = record { seg = seg; off = n } in q) e)
  pending_cases seg off file (f ∷ fs) stood = elim (bool_cases (is_seal f)) [
    | inl sealed ↦
        let alone = stood.1 sealed in
        subst (λ (l : List Frame). Pending seg off (f ∷ l)) (sym alone.0) (Sealed sealed (next-seal (place seg off) f sealed alone.1))
    | inr open_ ↦
        let p : Place = record { seg = seg; off = off } in
        let step = next-plain p f open_ in
        let e : off + frame_len f + frames_len fs ≡ off + (frame_len f + frames_len fs) = omega arith in
        elim (pending_cases seg (off + frame_len f) file fs (stood.2 open_)) [
          | Open plain last to ↦ Open (open_, plain) (still f fs open_ last) (ap (λ (q : Place). after_frames q fs) step ∙ to ∙ ap (λ n. let q : Place = record { seg = seg; off = n } in q) e)
          | Sealed last to ↦ Sealed (ends f fs last) (ap (λ (q : Place). after_frames q fs) step ∙ to)
        ]
  ]
    where
      still : (f : Frame) (fs : List Frame) → is_seal f ≡ false → is_sealed fs ≡ false → is_sealed (f ∷ fs) ≡ false
      still f [] open_ last = open_
      still f (h ∷ fs) open_ last = last

      ends : (f : Frame) (fs : List Frame) → is_sealed fs ≡ true → is_sealed (f ∷ fs) ≡ true
      ends f [] last = absurd cc
      ends f (h ∷ fs) last = last

  -- what is pending doesn't end the log
  pub pending_goes_on : (seg off : ℕ) (file : File) (fs : List Frame) → OnlyTheseStood g seg file off fs → is_over (place seg off) fs ≡ false
  pending_goes_on seg off file [] stood = refl
  pending_goes_on seg off file (f ∷ fs) stood = elim (bool_cases (is_seal f)) [
    | inl sealed ↦
        let alone = stood.1 sealed in
        subst (λ (l : List Frame). is_over (place seg off) (f ∷ l) ≡ false) (sym alone.0) (ap (λ b. b || false) (seal_goes_on (place seg off) f sealed alone.1))
    | inr plain ↦
        ap (λ b. b || is_over (next_place (place seg off) f) fs) (plain_goes_on (place seg off) f plain)
        ∙ ap (λ q. is_over q fs) (next-plain (place seg off) f plain) ∙ pending_goes_on seg (off + frame_len f) file fs (stood.2 plain)
  ]

  module _ (log : ℕ → File) (low : ℕ) (at : Place) (pending : List Frame) (tail : Tail) (s : FilesHoldLog g log low at pending tail) where
    -- nothing above the log's last segment has bytes
    pub clear_now : (seg : ℕ) → at.seg < seg → contents log seg ≡ []
    clear_now seg lt =
        nil_from_length (contents log seg)
        (let le : length (contents log seg) ≤ 0 = subst (λ (o : Option (List ℕ)). length (bytes_of o) ≤ 0) (at_change-last (log seg) (length (log seg).since) (omega arith)) (s.above seg lt (length (log seg).since) (omega arith)) in omega (arith, le))

    no_more : OnlyTheseStood g at.seg (log at.seg) at.off [] → IsLogWithNothingAbove g (contents log) at []
    no_more stood =
        log_none g (contents log) at
        (subst (λ (o : Option (List ℕ)). g.frame_at at.seg at.off (bytes_of o) ≡ None) (at_change-last (log at.seg) (length (log at.seg).since) (omega arith)) (stood (length (log at.seg).since) (omega arith)))
        clear_now

    stood_log : (off : ℕ) (fs : List Frame) → OnlyTheseStood g at.seg (log at.seg) off fs → SegmentHasFrames g at.seg (contents log at.seg) off fs → length (contents log at.seg) ≡ off + frames_len fs
        → IsLogWithNothingAbove g (contents log) (record { seg = at.seg; off = off }) fs
    stood_log off [] stood run exact = log_none g (contents log) (place at.seg off) (none_past g laws at.seg off (contents log at.seg) (omega (arith, exact))) clear_now
    stood_log off (f ∷ fs) stood run exact =
        let p : Place = record { seg = at.seg; off = off } in
        elim (bool_cases (is_seal f)) [
          | inl sealed ↦
              let q : Place = place (at.seg + 1) 0 in
              let alone = stood.1 sealed in
              let empty = clear_now (at.seg + 1) (omega arith) in
              let none = none_past g laws (at.seg + 1) 0 (contents log (at.seg + 1)) (let e = ap (λ (l : List ℕ). length l) empty in omega (arith, e)) in
              let rest : IsLogWithNothingAbove g (contents log) q [] = log_none g (contents log) q none (λ seg lt. clear_now seg (omega (arith, lt))) in
              subst (λ (l : List Frame). IsLogWithNothingAbove g (contents log) p (f ∷ l)) (sym alone.0)
              (log_cons g (contents log) p q f [] run.0 (seal_goes_on p f sealed alone.1) (next-seal p f sealed alone.1) rest)
          | inr open_ ↦
              let q : Place = record { seg = at.seg; off = off + frame_len f } in
              log_cons g (contents log) p q f fs run.0 (plain_goes_on p f open_) (next-plain p f open_) (stood_log (off + frame_len f) fs (stood.2 open_) run.1 (omega (arith, exact)))
        ]

  -- the log from the lasting end on is what is pending
  pub pending_log : (log : ℕ → File) (low : ℕ) (at : Place) (pending : List Frame) (tail : Tail) → FilesHoldLog g log low at pending tail → IsLogWithNothingAbove g (contents log) at pending
  pending_log log low at pending Uncut s =
      subst (λ (l : List Frame). IsLogWithNothingAbove g (contents log) at l) (sym s.tail_is) (no_more log low at pending Uncut s (subst (λ (l : List Frame). OnlyTheseStood g at.seg (log at.seg) at.off l) s.tail_is s.stood))
  pending_log log low at pending AfterSeal s =
      subst (λ (l : List Frame). IsLogWithNothingAbove g (contents log) at l) (sym s.tail_is) (no_more log low at pending AfterSeal s (subst (λ (l : List Frame). OnlyTheseStood g at.seg (log at.seg) at.off l) s.tail_is s.stood))
  pending_log log low at pending Cutting s =
      subst (λ (l : List Frame). IsLogWithNothingAbove g (contents log) at l) (sym s.tail_is.0) (no_more log low at pending Cutting s (subst (λ (l : List Frame). OnlyTheseStood g at.seg (log at.seg) at.off l) s.tail_is.0 s.stood))
  pending_log log low at pending Ready s = stood_log log low at pending Ready s at.off pending s.stood s.tail_is.run s.tail_is.exact

  module _ (log : ℕ → File) (low : ℕ) (from at : Place) (lasting pending : List Frame) (tail : Tail) (s : HoldsLog g log low from at lasting pending tail) where
    lasting_run : HasFrames g (contents log) from lasting
    lasting_run =
        keeps_run g laws (forced_contents log) (contents log) low at from lasting
        (λ seg le lt.
        let same = ap (λ (o : Option (List ℕ)). bytes_of o) (quiet_content (log seg) (s.files.older seg le lt)) in
        record { long = omega (arith, ap (λ (l : List ℕ). length l) same); same = λ i i_lt. ap (λ (l : List ℕ). slice_get l i) same })
        (λ seg is. subst (λ n. Same (forced_contents log n) (contents log n) at.off) (sym is)
        record { long = content_long (log at.seg) at.off s.files.below; same = λ i lt. content_same (log at.seg) at.off s.files.below i lt })
        s.leads.kept s.leads.run s.leads.to

    -- the log is what is lasting and what is pending
    pub held_log : IsLogWithNothingAbove g (contents log) from (lasting ++ pending)
    held_log =
        log_join g (contents log) from lasting pending lasting_run s.leads.goes_on
        (subst (λ (q : Place). IsLogWithNothingAbove g (contents log) q pending) (sym s.leads.to) (pending_log log low at pending tail s.files))

    -- What a crash leaves, as long as no sum is right by chance: what is lasting, and a prefix of what is pending.
    pub held_image : (left : ℕ → Option (List ℕ)) → ((seg : ℕ) → Leaves (log seg) (left seg)) → ((seg : ℕ) → IsTrueOf (g.frame_at seg) (log seg) (left seg))
        → (n : ℕ) × (n ≤ length pending) × IsLogWithNothingAbove g (λ seg. bytes_of (left seg)) from (lasting ++ take n pending)
    held_image left leaves honest =
        let c : ℕ → List ℕ = λ seg. bytes_of (left seg) in
        let image = log_image g laws log low at pending tail left s.files leaves honest in
        let front = image.front in (
          front.count,
          front.fits,
          log_join g c from lasting (take front.count pending) (image.kept from lasting s.leads) s.leads.goes_on
              (subst (λ (q : Place). IsLogWithNothingAbove g c q (take front.count pending)) (sym s.leads.to) front.log),
        )

    -- once the last segment is forced, all of that is lasting
    abbrev forced : ℕ → File
    forced = with_file log at.seg (all_forced (log at.seg))

    forced_reads : (seg : ℕ) → low ≤ seg → (seg ≡ at.seg) ⊎ (seg < at.seg) → forced_contents forced seg ≡ contents log seg
    forced_reads seg le there = elim there [
      | inl is ↦ subst (λ n. forced_contents forced n ≡ contents log n) (sym is) (ap (λ (f : File). bytes_of f.forced) (file_here log at.seg (all_forced (log at.seg))))
      | inr lt ↦
          let apart : (seg ≡ at.seg) → ⊥ = λ is. omega (arith, is, lt) in
          ap (λ (f : File). bytes_of f.forced) (file_there log at.seg seg (all_forced (log at.seg)) apart)
          ∙ sym (ap (λ (o : Option (List ℕ)). bytes_of o) (quiet_content (log seg) (s.files.older seg le lt)))
    ]

    forced_leads : (end : Place) → after_frames at pending ≡ end → ((seg : ℕ) → seg < end.seg → (seg ≡ at.seg) ⊎ (seg < at.seg)) → Same (contents log end.seg) (forced_contents forced end.seg) end.off
        → HasLasting g forced low end from (lasting ++ pending)
    forced_leads end to below here =
        let ends : after_frames from (lasting ++ pending) ≡ end = after_frames-append from lasting pending ∙ ap (λ (q : Place). after_frames q pending) s.leads.to ∙ to in
        record {
          kept = s.leads.kept;
          run = keeps_run g laws (contents log) (forced_contents forced) low end from (lasting ++ pending)
              (λ seg le lt. let same = forced_reads seg le (below seg lt) in record { long = omega (arith, ap (λ (l : List ℕ). length l) same); same = λ i i_lt. ap (λ (l : List ℕ). slice_get l i) same })
              (λ seg is. subst (λ n. Same (contents log n) (forced_contents forced n) end.off) (sym is) here)
              s.leads.kept held_log.log.run ends;
          to = ends;
          goes_on = goes_on-append from at lasting pending s.leads.goes_on s.leads.to (pending_goes_on at.seg at.off (log at.seg) pending s.files.stood);
        }

    forced_same : at.off + frames_len pending ≤ length (contents log at.seg) → Same (contents log at.seg) (forced_contents forced at.seg) (at.off + frames_len pending)
    forced_same le =
        let same = forced_reads at.seg s.files.reaches (inl refl) in
        record { long = omega (arith, le, ap (λ (l : List ℕ). length l) same); same = λ i lt. ap (λ (l : List ℕ). slice_get l i) same }

    -- where no SEAL is pending, the log ends after that
    force_leads_open : after_frames at pending ≡ record { seg = at.seg; off = at.off + frames_len pending } → at.off + frames_len pending ≤ length (contents log at.seg)
        → HasLasting g forced low (record { seg = at.seg; off = at.off + frames_len pending }) from (lasting ++ pending)
    force_leads_open to le = forced_leads (record { seg = at.seg; off = at.off + frames_len pending }) to (λ seg lt. inr lt) (forced_same le)

    -- after a SEAL it ends at the begin of the next segment
    force_leads_sealed : after_frames at pending ≡ record { seg = at.seg + 1; off = 0 } → HasLasting g forced low (record { seg = at.seg + 1; off = 0 }) from (lasting ++ pending)
    force_leads_sealed to = forced_leads (record { seg = at.seg + 1; off = 0 }) to (λ seg lt. up_to seg (omega (arith, lt))) record { long = omega arith; same = λ i lt. absurd (omega (arith, lt)) }
      where
        up_to : (seg : ℕ) → seg ≤ at.seg → (seg ≡ at.seg) ⊎ (seg < at.seg)
        up_to seg le = grind arith

  -- a change of the last segment's file leaves what was forced
  change_leads : (log : ℕ → File) (low : ℕ) (from at : Place) (lasting : List Frame) (change : Change) → HasLasting g log low at from lasting → HasLasting g (with_file log at.seg (with_change (log at.seg) change)) low at from lasting
  change_leads log low from at lasting change leads =
      let new : ℕ → File = with_file log at.seg (with_change (log at.seg) change) in
      let each : (seg : ℕ) → forced_contents new seg ≡ forced_contents log seg = file_cases log at.seg (with_change (log at.seg) change) (λ n x. bytes_of x.forced ≡ forced_contents log n) refl (λ n apart. refl) in
      let same : forced_contents new ≡ forced_contents log = λ i seg. each seg i in
      record { kept = leads.kept; run = subst (λ (c : ℕ → List ℕ). HasFrames g c from lasting) (sym same) leads.run; to = leads.to; goes_on = leads.goes_on }

  -- ---- the steps

  -- One frame more stands at the log's end, and all others as they stood.
  pub held_append : (log : ℕ → File) (low : ℕ) (from at : Place) (lasting pending : List Frame) (f : Frame) → HoldsLog g log low from at lasting pending Ready → HasNoSeal pending → g.fits at.seg (at.off + frames_len pending) f ≡ true → (is_seal f ≡ true → is_last at.seg ≡ false)
      → HoldsLog g (with_file log at.seg (with_change (log at.seg) (Write (at.off + frames_len pending) (g.frame_bytes at.seg (at.off + frames_len pending) f)))) low from at lasting (pending ++ f ∷ []) Ready
  held_append log low from at lasting pending f s open_ fits numbered =
      let end = at.off + frames_len pending in
      let bytes = g.frame_bytes at.seg end f in
      record { files = log_append g laws log low at pending f bytes s.files open_ fits refl numbered; leads = change_leads log low from at lasting (Write end bytes) s.leads }

  -- A force makes the whole log lasting.
  pub held_force : (log : ℕ → File) (low : ℕ) (from at : Place) (lasting pending : List Frame) → HoldsLog g log low from at lasting pending Ready → HasNoSeal pending → after_frames at pending ≡ record { seg = at.seg; off = at.off + frames_len pending }
      → HoldsLog g (with_file log at.seg (all_forced (log at.seg))) low from (record { seg = at.seg; off = at.off + frames_len pending }) (lasting ++ pending) [] Ready
  held_force log low from at lasting pending s open_ to = record {
    files = log_force g laws log low at pending s.files open_;
    leads = force_leads_open log low from at lasting pending Ready s to (omega (arith, s.files.tail_is.exact));
  }

  -- After a SEAL the log goes on in the next segment.
  pub held_force_sealed : (log : ℕ → File) (low : ℕ) (from at : Place) (lasting pending : List Frame) → HoldsLog g log low from at lasting pending Ready → after_frames at pending ≡ record { seg = at.seg + 1; off = 0 }
      → HoldsLog g (with_file log at.seg (all_forced (log at.seg))) low from (record { seg = at.seg + 1; off = 0 }) (lasting ++ pending) [] AfterSeal
  held_force_sealed log low from at lasting pending s to = record {
    files = log_force_sealed g laws log low at pending s.files;
    leads = force_leads_sealed log low from at lasting pending Ready s to;
  }

  -- The last segment is cut at the log's end.
  pub held_cut : (log : ℕ → File) (low : ℕ) (from at : Place) (lasting : List Frame) (tail : Tail) → HoldsLog g log low from at lasting [] tail
      → HoldsLog g (with_file log at.seg (with_change (log at.seg) (Cut at.off))) low from at lasting [] Cutting
  held_cut log low from at lasting tail s = record { files = log_cut g laws log low at tail s.files; leads = change_leads log low from at lasting (Cut at.off) s.leads }

  -- And the cut is forced.
  pub held_force_cut : (log : ℕ → File) (low : ℕ) (from at : Place) (lasting : List Frame) → HoldsLog g log low from at lasting [] Cutting → HoldsLog g (with_file log at.seg (all_forced (log at.seg))) low from at lasting [] Ready
  held_force_cut log low from at lasting s =
      let e : at.off + 0 ≡ at.off = omega arith in
      let here : record { seg = at.seg; off = at.off + 0 } ≡ at = ap (λ n. let q : Place = record { seg = at.seg; off = n } in q) e in
      let leads = force_leads_open log low from at lasting [] Cutting s (sym here) (omega (arith, s.files.tail_is.1)) in
      record {
        files = log_force_cut g laws log low at s.files;
        leads = subst (λ (q : Place). HasLasting g (with_file log at.seg (all_forced (log at.seg))) low q from lasting) here
            (subst (λ (l : List Frame). HasLasting g (with_file log at.seg (all_forced (log at.seg))) low (record { seg = at.seg; off = at.off + 0 }) from l) (append-nil lasting) leads);
      }

  -- ---- how a log begins

  -- A file below the segments that are kept is of no account.
  pub held_below : (log : ℕ → File) (low : ℕ) (from at : Place) (lasting pending : List Frame) (tail : Tail) (seg : ℕ) (x : File) → seg < low → HoldsLog g log low from at lasting pending tail → HoldsLog g (with_file log seg x) low from at lasting pending tail
  held_below log low from at lasting pending tail seg x lt s =
      let new = with_file log seg x in
      let same : (n : ℕ) → low ≤ n → forced_contents new n ≡ forced_contents log n = λ n le. ap (λ (f : File). bytes_of f.forced) (file_there log seg n x (λ is. omega (arith, is, lt, le))) in
      record {
        files = log_below g log low at pending tail seg x lt s.files;
        leads = record {
          kept = s.leads.kept;
          run = keeps_run g laws (forced_contents log) (forced_contents new) low at from lasting
              (λ n le up. let e = same n le in record { long = omega (arith, ap (λ (l : List ℕ). length l) e); same = λ i i_lt. ap (λ (l : List ℕ). slice_get l i) e })
              (λ n is. let e = same n (omega (arith, is, s.files.reaches)) in
              let long : at.off ≤ length (forced_contents log n) = subst (λ m. at.off ≤ length (forced_contents log m)) (sym is) s.files.below.forced in
              record { long = omega (arith, long, ap (λ (l : List ℕ). length l) e); same = λ i i_lt. ap (λ (l : List ℕ). slice_get l i) e })
              s.leads.kept s.leads.run s.leads.to;
          to = s.leads.to;
          goes_on = s.leads.goes_on;
        };
      }

  -- With nothing pending all frames of the log are lasting.
  pub quiet_held : (log : ℕ → File) (low : ℕ) (from at : Place) (fs : List Frame) → ((seg : ℕ) → low ≤ seg → (log seg).since ≡ []) → low ≤ from.seg → IsLogWithNothingAbove g (contents log) from fs → is_over from fs ≡ false → after_frames from fs ≡ at → at.off ≤ length (contents log at.seg)
      → HoldsLog g log low from at fs [] Uncut
  quiet_held log low from at fs quiet kept is_log goes_on to fits =
      let reaches : low ≤ at.seg = subst (λ (q : Place). low ≤ q.seg) to (omega (arith, kept, rises_from from fs)) in
      let file = log at.seg in
      let same = λ (seg : ℕ) (le : low ≤ seg). quiet_content (log seg) (quiet seg le) in
      let len : length (contents log at.seg) ≡ length (bytes_of file.forced) = ap (λ (o : Option (List ℕ)). length (bytes_of o)) (same at.seg reaches) in
      let at_end = λ (seg : ℕ) (le : low ≤ seg) (k : ℕ). at_change-last (log seg) k (omega (arith, ap (λ (l : List Change). length l) (quiet seg le))) in
      let none : g.frame_at at.seg at.off (contents log at.seg) ≡ None = subst (λ (q : Place). g.frame_at q.seg q.off (contents log q.seg) ≡ None) to (is_log.log.ends goes_on) in
      record {
        files = record {
          reaches = reaches;
          older = λ seg le lt. quiet seg le;
          below = below_less file at.off (length (bytes_of file.forced)) (omega (arith, fits, len)) (quiet_below file (quiet at.seg reaches));
          stood = λ k le. subst (λ (o : Option (List ℕ)). g.frame_at at.seg at.off (bytes_of o) ≡ None) (sym (at_end at.seg reaches k)) none;
          above = λ seg lt k le.
              let empty : contents log seg ≡ [] = is_log.nothing_above seg (subst (λ (q : Place). q.seg < seg) (sym to) lt) in
              subst (λ (o : Option (List ℕ)). length (bytes_of o) ≤ 0) (sym (at_end seg (omega (arith, reaches, lt)) k)) (let e = ap (λ (l : List ℕ). length l) empty in omega (arith, e));
          tail_is = refl;
        };
        leads = record {
          kept = kept;
          run = keeps_run g laws (contents log) (forced_contents log) low at from fs
              (λ seg le lt. let e = ap (λ (o : Option (List ℕ)). bytes_of o) (same seg le) in record { long = omega (arith, ap (λ (l : List ℕ). length l) e); same = λ i i_lt. ap (λ (l : List ℕ). slice_get l i) (sym e) })
              (λ seg is. subst (λ n. Same (contents log n) (forced_contents log n) at.off) (sym is)
              (let e = ap (λ (o : Option (List ℕ)). bytes_of o) (same at.seg reaches) in record { long = omega (arith, fits, len); same = λ i i_lt. ap (λ (l : List ℕ). slice_get l i) (sym e) }))
              kept is_log.log.run to;
          to = to;
          goes_on = goes_on;
        };
      }
