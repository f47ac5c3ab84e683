-- The moments of a round's two jobs, and what a crash leaves of the files that they change.
use Rattle.std.proofs.Common.{◌≡◌, ◌⊎◌, inl, inr, ◌≤◌, ◌<◌, ◌+◌, ◌*◌, ℕ, List, length, Option, Result, Ok, Err, OnOk, true, refl, sym, ◌∙◌, ap, subst, arith}
use Rattle.std.specs.Prelude.{◌≢◌, slice_get, is_ok}
use Rattle.std.proofs.lemmas.Bool.{false≢true}
use Rattle.pm_types.specs.Ids.{part_of_id, index_of_id}
use Rattle.pm_types.specs.declared.page_id.PageId.{PageId}
use Rattle.pm_disk.specs.Files.{File, Write, content, bytes_of, with_change, all_forced, at_change, gapped}
use Rattle.pm_disk.specs.Images.{Image, Leaves, LeavesAll, Lasting}
use Rattle.pm_disk.specs.Lending.{BeginsLog, BeginsPages, Joins}
use Rattle.pm_disk.specs.Moments.{History, IsHistory, AllMoments, Does, WritesPage}
use Rattle.pm_disk.specs.Worlds.{World, log_changed, log_forced, pages_in, page_at, joined}
use Rattle.pm_disk.proofs.Chain.{started, does, joins, since_lent}
use Rattle.pm_disk.proofs.Families.{file_here, file_there, changed_here, changed_there, forced_here, forced_there}
use Rattle.pm_disk.proofs.Files.{at_change-last, kept_range, lasting_push, quiet_lasting}
use Rattle.pm_disk.proofs.Gaps.{page_alone}
use Rattle.pm_disk.proofs.Writes.{length-write, write_before}
use Rattle.pm_tests_logs.specs.Rounds.{IsAppended, LogMoment, IsPageWritten, PageMoment, RoundMoment, LeftByRound}

-- ---- the log part

log_before : (old : World) (seg at : ℕ) (bytes : List ℕ) → LogMoment old seg at bytes old
log_before old seg at bytes = record { here = inl refl; there = λ s apart. refl }

log_written : (old : World) (seg at : ℕ) (bytes : List ℕ) → LogMoment old seg at bytes (log_changed seg (Write at bytes) old)
log_written old seg at bytes = record { here = inr (inl (changed_here seg (Write at bytes) old)); there = λ s apart. changed_there seg s (Write at bytes) old apart }

log_lasting : (old : World) (seg at : ℕ) (bytes : List ℕ) → LogMoment old seg at bytes (log_forced seg (log_changed seg (Write at bytes) old))
log_lasting old seg at bytes =
    let mid = log_changed seg (Write at bytes) old in
    record {
      here = inr (inr (forced_here seg mid ∙ ap all_forced (changed_here seg (Write at bytes) old)));
      there = λ s apart. forced_there seg s mid apart ∙ changed_there seg s (Write at bytes) old apart;
    }

-- the write
pub wrote : {T E : Type 0} (old new : History) (result : Result T E) (seg at : ℕ) (bytes : List ℕ) → IsHistory old → Does old new result (log_changed seg (Write at bytes) old.world) → AllMoments old new (LogMoment old.world seg at bytes)
wrote old new result seg at bytes sound call =
    let P = LogMoment old.world seg at bytes in
    does old old new result _ P (started old P sound (log_before old.world seg at bytes)) call (log_before old.world seg at bytes) (log_written old.world seg at bytes)

-- and then the force
pub forced_too : {T E : Type 0} (old mid new : History) (result : Result T E) (seg at : ℕ) (bytes : List ℕ) → AllMoments old mid (LogMoment old.world seg at bytes) → mid.world ≡ log_changed seg (Write at bytes) old.world → Does mid new result (log_forced seg mid.world)
    → AllMoments old new (LogMoment old.world seg at bytes)
forced_too old mid new result seg at bytes so_far is call =
    let P = LogMoment old.world seg at bytes in
    does old mid new result _ P so_far call (subst P (sym is) (log_written old.world seg at bytes)) (subst (λ (w : World). P (log_forced seg w)) (sym is) (log_lasting old.world seg at bytes))

pub lasts_then : (old mid new : World) (seg at : ℕ) (bytes : List ℕ) → mid ≡ log_changed seg (Write at bytes) old → new ≡ log_forced seg mid → new.log seg ≡ all_forced (with_change (old.log seg) (Write at bytes))
lasts_then old mid new seg at bytes wrote_is forced_is =
    ap (λ (w : World). w.log seg) forced_is ∙ forced_here seg mid ∙ ap (λ (w : World). all_forced (w.log seg)) wrote_is ∙ ap all_forced (changed_here seg (Write at bytes) old)

-- ---- the writer

page_before : (old : World) (page : PageId) (bytes : List ℕ) → PageMoment old page bytes old
page_before old page bytes = record { here = inl refl; there = λ p apart. refl }

pub wrote_page : {T E : Type 0} (old new : History) (result : Result T E) (page : PageId) (bytes : List ℕ) → IsHistory old → WritesPage old new result page bytes → AllMoments old new (PageMoment old.world page bytes)
wrote_page old new result page bytes sound call =
    let P = PageMoment old.world page bytes in
    let part = part_of_id page in
    let change = gapped (pages_in old.world part) (page_at page (length bytes)) call.gap bytes in
    let file = with_change (old.world.pages part) change in
    does old old new result _ P (started old P sound (page_before old.world page bytes)) call.does (page_before old.world page bytes)
    (record {
      here = inr (record { gap = call.gap; reaches = call.reaches; is = file_here old.world.pages part file });
      there = λ p apart. file_there old.world.pages part p file apart;
    })

-- ---- both

-- a log part and a writer that began as the host
pub paired : (old : World) (log pages : World) (seg at : ℕ) (bytes : List ℕ) (page : PageId) (image : List ℕ) (rest log_then pages_then now : World) → rest ≡ old → log.log ≡ old.log → pages.pages ≡ old.pages
    → LogMoment log seg at bytes log_then → PageMoment pages page image pages_then → now ≡ joined rest log_then pages_then → RoundMoment old seg at bytes page image now
paired old log pages seg at bytes page image rest log_then pages_then now rest_is log_is pages_is log_moment page_moment is =
    let both : now ≡ joined old log_then pages_then = is ∙ ap (λ (w : World). joined w log_then pages_then) rest_is in
    subst (λ (w : World). RoundMoment old seg at bytes page image w) (sym both) (record {
      log = record {
        here = subst (λ (f : ℕ → File). IsAppended (f seg) at bytes (log_then.log seg)) log_is log_moment.here;
        there = λ s apart. log_moment.there s apart ∙ ap (λ (f : ℕ → File). f s) log_is;
      };
      pages = record {
        here = subst (λ (f : ℕ → File). (pages_then.pages (part_of_id page) ≡ f (part_of_id page)) ⊎ IsPageWritten (f (part_of_id page)) (page_at page (length image)) image (pages_then.pages (part_of_id page))) pages_is page_moment.here;
        there = λ p apart. page_moment.there p apart ∙ ap (λ (f : ℕ → File). f p) pages_is;
      };
      starts = refl;
      ends = refl;
      said = refl;
    })

pub nothing_yet : (old : World) (seg at : ℕ) (bytes : List ℕ) (page : PageId) (image : List ℕ) → RoundMoment old seg at bytes page image old
nothing_yet old seg at bytes page image = record { log = log_before old seg at bytes; pages = page_before old page image; starts = refl; ends = refl; said = refl }

-- ---- a crash

-- what is lasting of a file that is forced as it is
forced_same : (file : File) (low high : ℕ) → Lasting file low high → (i : ℕ) → low ≤ i → i < high → slice_get (bytes_of (content file)) i ≡ slice_get (bytes_of file.forced) i
forced_same file low high lasting i le lt = ap (λ (o : Option (List ℕ)). slice_get (bytes_of o) i) (sym (at_change-last file (length file.since) (omega arith))) ∙ lasting.same (length file.since) (omega arith) i le lt

content_reaches : (file : File) (low high : ℕ) → Lasting file low high → high ≤ length (bytes_of (content file))
content_reaches file low high lasting = subst (λ (o : Option (List ℕ)). high ≤ length (bytes_of o)) (at_change-last file (length file.since) (omega arith)) (lasting.long (length file.since) (omega arith))

-- the bytes before an append
module _ (old : File) (at : ℕ) (bytes : List ℕ) (reached : at ≤ length (bytes_of (content old))) (lasting : Lasting old 0 at) where
  written : Lasting (with_change old (Write at bytes)) 0 at
  written = lasting_push old (Write at bytes) 0 at lasting (λ i le lt touch. absurd (omega (arith, lt, touch.0))) (omega (arith, reached, length-write at bytes (content old) reached)) (λ i le lt. write_before at bytes (content old) reached i lt)

  pub front_left : (now : File) (left : Option (List ℕ)) → IsAppended old at bytes now → Leaves now left → (i : ℕ) → i < at → slice_get (bytes_of left) i ≡ slice_get (bytes_of old.forced) i
  front_left now left is leaves i lt = elim is [
    | inl same ↦ (kept_range old 0 at left lasting (subst (λ (f : File). Leaves f left) same leaves)).same i (omega arith) lt
    | inr more ↦ elim more [
      | inl wrote_is ↦ (kept_range (with_change old (Write at bytes)) 0 at left written (subst (λ (f : File). Leaves f left) wrote_is leaves)).same i (omega arith) lt
      | inr forced_is ↦
          let file = with_change old (Write at bytes) in
          (kept_range (all_forced file) 0 at left (quiet_lasting (all_forced file) 0 at refl (content_reaches file 0 at written)) (subst (λ (f : File). Leaves f left) forced_is leaves)).same i (omega arith) lt
          ∙ forced_same file 0 at written i (omega arith) lt
    ]
  ]

-- another page than the one that is written
pub page_left : (old now : File) (index other : ℕ) (bytes : List ℕ) (left : Option (List ℕ)) → other ≢ index → Lasting old (other * length bytes) (other * length bytes + length bytes) → (now ≡ old) ⊎ IsPageWritten old (index * length bytes) bytes now → Leaves now left
    → (i : ℕ) → other * length bytes ≤ i → i < other * length bytes + length bytes → slice_get (bytes_of left) i ≡ slice_get (bytes_of old.forced) i
page_left old now index other bytes left apart lasting is leaves i le lt =
    let low = other * length bytes in
    let high = other * length bytes + length bytes in
    elim is [
      | inl same ↦ (kept_range old low high left lasting (subst (λ (f : File). Leaves f left) same leaves)).same i le lt
      | inr wrote_is ↦
          let change = gapped (content old) (index * length bytes) wrote_is.gap bytes in
          let keeps = page_alone (content old) wrote_is.gap bytes index other wrote_is.reaches apart in
          let long = content_reaches old low high lasting in
          (kept_range (with_change old change) low high left
          (lasting_push old change low high lasting (λ k k_le k_lt. keeps.apart k k_le k_lt (omega (arith, k_lt, long))) (omega (arith, long, keeps.no_shorter)) (λ k k_le k_lt. keeps.same k k_le k_lt (omega (arith, k_lt, long))))
          (subst (λ (f : File). Leaves f left) wrote_is.is leaves)).same i le lt
    ]

-- at each moment
pub left_by_round : (old now : World) (seg at : ℕ) (bytes : List ℕ) (page : PageId) (image : List ℕ) (left : Image) → at ≤ length (bytes_of (content (old.log seg))) → RoundMoment old seg at bytes page image now → LeavesAll now left
    → LeftByRound old seg at page (length image) left
left_by_round old now seg at bytes page image left reached moment leaves = record {
  front = λ lasting. front_left (old.log seg) at bytes reached lasting (now.log seg) (left.log seg) moment.log.here (leaves.log seg);
  segments = λ s apart. subst (λ (f : File). Leaves f (left.log s)) (moment.log.there s apart) (leaves.log s);
  pages = λ other apart lasting. page_left (old.pages (part_of_id page)) (now.pages (part_of_id page)) (index_of_id page) other image (left.pages (part_of_id page)) apart lasting moment.pages.here (leaves.pages (part_of_id page));
  partitions = λ p apart. subst (λ (f : File). Leaves f (left.pages p)) (moment.pages.there p apart) (leaves.pages p);
  starts = subst (λ (f : File). Leaves f left.starts) moment.starts leaves.starts;
  ends = subst (λ (f : File). Leaves f left.ends) moment.ends leaves.ends;
}

-- ---- the round

same_world : {T E : Type 0} (old new : History) (result : Result T E) → Does old new result old.world → new.world ≡ old.world
same_world old new result call = elim call.either [ inl same ↦ same | inr same ↦ same ]

-- the parts were lent, or memory ran out
pub lent_moments : {T E : Type 0} (old lent : History) (result : Result T E) (seg at : ℕ) (bytes : List ℕ) (page : PageId) (image : List ℕ) → IsHistory old → Does old lent result old.world → AllMoments old lent (RoundMoment old.world seg at bytes page image)
lent_moments old lent result seg at bytes page image sound call =
    let P = RoundMoment old.world seg at bytes page image in
    let here = nothing_yet old.world seg at bytes page image in
    does old old lent result old.world P (started old P sound here) call here here

pub round_moments : {T E : Type 0} (old lent new log_before log_after pages_before pages_after : History) (result : Result T E) (seg at : ℕ) (bytes : List ℕ) (page : PageId) (image : List ℕ) → IsHistory old → Does old lent result old.world
    → BeginsLog old log_before → AllMoments log_before log_after (LogMoment log_before.world seg at bytes) → BeginsPages old pages_before → AllMoments pages_before pages_after (PageMoment pages_before.world page image) → Joins lent new log_after pages_after
    → AllMoments old new (RoundMoment old.world seg at bytes page image)
round_moments old lent new log_before log_after pages_before pages_after result seg at bytes page image sound call log_begins log_all pages_begin pages_all back =
    joins old lent new log_after pages_after (RoundMoment old.world seg at bytes page image) (lent_moments old lent result seg at bytes page image sound call) back
    (λ w pair. paired old.world log_before.world pages_before.world seg at bytes page image lent.world pair.log_then pair.pages_then w (same_world old lent result call) log_begins.segments pages_begin.pages
    (since_lent log_before log_after (LogMoment log_before.world seg at bytes) log_begins.clock log_all pair.log_then pair.log_was)
    (since_lent pages_before pages_after (PageMoment pages_before.world page image) pages_begin.clock pages_all pair.pages_then pair.pages_were) pair.is)

from_ok : {T E : Type 0} (result : Result T E) (P : Type 0) → OnOk result P → is_ok result ≡ true → P
from_ok (Ok value) P on is = on
from_ok (Err error) P on is = absurd (false≢true is)

-- once both were done the bytes are lasting
pub round_lasts : {T E : Type 0} (old lent new log_before log_after pages_after : History) (appended : Result T E) (seg at : ℕ) (bytes : List ℕ) → BeginsLog old log_before → Joins lent new log_after pages_after
    → OnOk appended (log_after.world.log seg ≡ all_forced (with_change (log_before.world.log seg) (Write at bytes))) → is_ok appended ≡ true → new.world.log seg ≡ all_forced (with_change (old.world.log seg) (Write at bytes))
round_lasts old lent new log_before log_after pages_after appended seg at bytes log_begins back lasts ok =
    ap (λ (w : World). w.log seg) back.now ∙ from_ok appended _ lasts ok ∙ ap (λ (f : ℕ → File). all_forced (with_change (f seg) (Write at bytes))) log_begins.segments
