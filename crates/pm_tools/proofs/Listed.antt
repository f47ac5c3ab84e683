-- How a listing goes on: what was said is a prefix of the log's text.
use Rattle.std.proofs.Common.{◌≡◌, inl, ℕ, ◌+◌, ◌<◌, List, [], ◌∷◌, ◌++◌, length, take, Some, None, false, refl, sym, ◌∙◌, ap, subst, arith, append_assoc, length-append}
use Rattle.std.proofs.lemmas.List.{append-nil, take-append-le}
use Rattle.std.proofs.Math.Seq.{take-append-add}
use Rattle.pm_types.specs.declared.place.Place.{Place}
use Rattle.pm_disk.specs.Worlds.{World, with_said}
use Rattle.pm_frame.specs.declared.limits.TheConstants.{SEGMENT_END_MAX}
use Rattle.pm_frame.specs.Frames.{Frame}
use Rattle.pm_records.specs.LogFiles.{contents}
use Rattle.pm_records.specs.Logs.{all_frames, record_in, after_frames, HasFrames, IsLogFrom}
use Rattle.pm_records.specs.Records.{Record}
use Rattle.pm_records.proofs.Runs.{run_begins}
use Rattle.pm_segments.specs.Read.{HasScanned}
use Rattle.pm_segments.specs.Scans.{Scanned, frame_ahead, Advances}
use Rattle.pm_segments.proofs.Reading.{scan_starts, scan_goes, scan_ends}
use Rattle.pm_tools.specs.declared.listing.Next.TheVariants as next
use Rattle.pm_tools.specs.Lines.{line_of, line_in, lines_from, end_line}
use Rattle.pm_tools.specs.Listings.{AreRecords, ListsAll, ListsUpTo, IsLogText, SaysPrefix, SaysOfLog, IsSaid, ReadsFrame, AddsLine, HasListed}
use Rattle.pm_tools.proofs.LogTexts.{text_after, lines_append, records_append, none_past_end}

-- ---- what was said

said_twice : (one two : List ℕ) (world : World) → with_said two (with_said one world) ≡ with_said (one ++ two) world
said_twice one two world = ap (λ (s : List ℕ). record world { said = s }) (append_assoc world.said one two)

nothing_said : (world : World) → world ≡ with_said [] world
nothing_said world = ap (λ (s : List ℕ). record world { said = s }) (sym (append-nil world.said))

-- a prefix of what is still to be said of a log's text, after the text before it
pub prefix_of : (from : Place) (old mid now : World) (text said lines more : List ℕ) → IsLogText (contents old.log) from text → text ≡ (said ++ lines) ++ more → mid ≡ with_said said old → SaysPrefix lines mid now → SaysOfLog from old now
prefix_of from old mid now text said lines more is_text is was part =
    let whole : text ≡ said ++ (lines ++ more) = is ∙ append_assoc said lines more in
    let same : take (length said + part.count) text ≡ said ++ take part.count lines =
    ap (take (length said + part.count)) whole ∙ take-append-add said (lines ++ more) part.count ∙ ap (λ l. said ++ l) (take-append-le part.count lines more part.within) in
    record {
      text = text;
      is_text = is_text;
      prefix = record {
        count = length said + part.count;
        within = omega (arith, part.within, ap (λ (l : List ℕ). length l) whole, length-append said (lines ++ more), length-append lines more);
        said = part.said ∙ ap (λ w. with_said (take part.count lines) w) was ∙ said_twice said (take part.count lines) old ∙ ap (λ l. with_said l old) (sym same);
      };
    }

-- the same, of the lines of frames that were read
pub says_lines : (from : Place) (old mid now : World) (frames : List Frame) (said lines : List ℕ)
    → HasFrames all_frames (contents old.log) from frames → AreRecords frames → mid ≡ with_said said old → said ++ lines ≡ lines_from from frames → SaysPrefix lines mid now → SaysOfLog from old now
says_lines from old mid now frames said lines run are was whole part =
    let text = text_after (contents old.log) from frames run are in
    prefix_of from old mid now text.text said lines text.more text.is_text (text.begins ∙ ap (λ l. l ++ text.more) (sym whole)) was part

-- ---- the listing

-- before the first frame
pub lists_none : (from : Place) (old : World) (scan : Scanned) → scan.next ≡ from → scan.is_over ≡ false → HasListed from old old scan []
lists_none from old scan is going = record {
  frames = [];
  scanned = scan_starts (contents old.log) from scan is going;
  are_records = tt;
  said = [];
  now_is = nothing_said old;
  whole = refl;
}

pub nothing_yet : (from : Place) (old : World) → SaysOfLog from old old
nothing_yet from old =
    says_lines from old old old [] [] [] tt tt (nothing_said old) refl (record { count = 0; within = omega arith; said = nothing_said old })

-- one record more
pub record Grows (from : Place) (old : World) (scan later : Scanned) (said lines line : List ℕ) : Type 0 where
  pub frames : List Frame
  pub scanned : HasScanned (contents old.log) from frames later
  pub are_records : AreRecords frames
  pub whole : said ++ (lines ++ line) ≡ lines_from from frames

pub grows_by : (from : Place) (old now : World) (scan later : Scanned) (lines text : List ℕ) (at : Place) → (listed : HasListed from old now scan lines) → ReadsFrame next.Record text scan later now → at ≡ later.place → Grows from old scan later listed.said lines (line_of at text)
grows_by from old now scan later lines text at listed reads is =
    let f = reads.frame in
    let found = reads.says.0 in
    let log_is : now.log ≡ old.log = ap (λ (w : World). w.log) listed.now_is in
    let scanned = subst (λ log. HasScanned (contents log) from listed.frames scan) (sym log_is) listed.scanned in
    let more = scan_goes now from listed.frames scan later f scanned reads.stands reads.advances in
    let there : at ≡ after_frames from listed.frames = is ∙ reads.advances.0 ∙ listed.scanned.next in
    let line : line_of at text ≡ lines_from (after_frames from listed.frames) (f ∷ []) =
    ap (λ p. line_of p text) there ∙ ap (λ t. line_of (after_frames from listed.frames) t) reads.says.2
    ∙ ap (line_in (after_frames from listed.frames)) (sym reads.says.1) ∙ sym (append-nil (line_in (after_frames from listed.frames) (record_in f))) in
    record {
      frames = listed.frames ++ f ∷ [];
      scanned = subst (λ log. HasScanned (contents log) from (listed.frames ++ f ∷ []) later) log_is more;
      are_records = records_append listed.frames (f ∷ []) listed.are_records ((found, reads.says.1), tt);
      whole = sym (append_assoc listed.said lines (line_of at text)) ∙ ap (λ l. l ++ line_of at text) listed.whole ∙ ap (λ l. lines_from from listed.frames ++ l) line ∙ sym (lines_append from listed.frames (f ∷ []));
    }

pub still_listed : (from : Place) (old mid now : World) (scan later : Scanned) (said lines line lines_new : List ℕ) → Grows from old scan later said lines line → mid ≡ with_said said old → AddsLine lines line lines_new mid now → HasListed from old now later lines_new
still_listed from old mid now scan later said lines line lines_new grows was adds = record {
  frames = grows.frames;
  scanned = grows.scanned;
  are_records = grows.are_records;
  said = said ++ adds.said;
  now_is = adds.now_is ∙ ap (with_said adds.said) was ∙ said_twice said adds.said old;
  whole = append_assoc said adds.said lines_new ∙ ap (λ l. said ++ l) adds.whole ∙ grows.whole;
}

-- a frame that holds no record
pub up_to : (from : Place) (old now : World) (scan later : Scanned) (lines text : List ℕ) (at : Place) → (listed : HasListed from old now scan lines) → ReadsFrame next.Bad text scan later now → at ≡ later.place → ListsUpTo (contents old.log) from at (listed.said ++ lines)
up_to from old now scan later lines text at listed reads is =
    let f = reads.frame in
    let log_is : now.log ≡ old.log = ap (λ (w : World). w.log) listed.now_is in
    let scanned = subst (λ log. HasScanned (contents log) from listed.frames scan) (sym log_is) listed.scanned in
    let more = scan_goes now from listed.frames scan later f scanned reads.stands reads.advances in
    record {
      before = listed.frames;
      frame = f;
      run = subst (λ log. HasFrames all_frames (contents log) from (listed.frames ++ f ∷ [])) log_is more.run;
      are_records = listed.are_records;
      bad = reads.says;
      there = is ∙ reads.advances.0 ∙ listed.scanned.next;
      text_is = listed.whole;
    }

-- the log's end
pub lists_all : (from : Place) (old now : World) (scan later : Scanned) (lines : List ℕ) (at : Place) → (listed : HasListed from old now scan lines) → frame_ahead scan now ≡ None → Advances scan later None → at ≡ later.place → ListsAll (contents old.log) from (listed.said ++ (lines ++ end_line at))
lists_all from old now scan later lines at listed stands advances is =
    let log_is : now.log ≡ old.log = ap (λ (w : World). w.log) listed.now_is in
    let scanned = subst (λ log. HasScanned (contents log) from listed.frames scan) (sym log_is) listed.scanned in
    let ends = scan_ends now from listed.frames scan later scanned stands advances in
    record {
      frames = listed.frames;
      is_log = subst (λ log. IsLogFrom all_frames (contents log) from listed.frames) log_is ends.0;
      are_records = listed.are_records;
      text_is = sym (append_assoc listed.said lines (end_line at)) ∙ ap (λ l. l ++ end_line at) listed.whole ∙ ap (λ p. lines_from from listed.frames ++ end_line p) (is ∙ ends.1);
    }

-- what was said before, and what was said then
pub said_after : (old mid now : World) (said lines : List ℕ) → mid ≡ with_said said old → IsSaid lines mid now → IsSaid (said ++ lines) old now
said_after old mid now said lines was is = is ∙ ap (with_said lines) was ∙ said_twice said lines old

-- past each segment's end the log has no frame
pub lists_end : (from : Place) (old : World) → SEGMENT_END_MAX < from.off → ListsAll (contents old.log) from (end_line from)
lists_end from old past = record { frames = []; is_log = none_past_end (contents old.log) from past; are_records = tt; text_is = refl }

-- where the line at the end is all that is to be said
pub end_alone : (from : Place) (old now : World) → SEGMENT_END_MAX < from.off → SaysPrefix (end_line from) old now → SaysOfLog from old now
end_alone from old now past part = record { text = end_line from; is_text = inl (lists_end from old past); prefix = part }

-- ---- one text

all_hold : (before : List Frame) (f : Frame) (rest : List Frame) → AreRecords (before ++ f ∷ rest) → record_in f ≡ None → ⊥
all_hold [] f rest are bad = let both : None ≡ Some are.0.0 = sym bad ∙ are.0.1 in cc
all_hold (b ∷ before) f rest are bad = all_hold before f rest are.1 bad

-- a log either is listed up to its end or has a frame that holds no record
pub never_both : (log : ℕ → List ℕ) (from at : Place) (text lines : List ℕ) → ListsAll log from text → ListsUpTo log from at lines → ⊥
never_both log from at text lines all up =
    let split = run_begins all_frames log from (up.before ++ up.frame ∷ []) all.frames up.run all.is_log in
    all_hold up.before up.frame split.0
    (subst AreRecords (split.1 ∙ append_assoc up.before (up.frame ∷ []) split.0) all.are_records) up.bad
