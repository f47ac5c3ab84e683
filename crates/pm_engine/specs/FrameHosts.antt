-- A round of lines and a scan over the pages of an open store, with a host that lends a reader.
use Rattle.std.specs.Prelude.{◌≡◌, ◌↔◌, ◌<◌, ℕ, Bool, true, false, [], ◌∷◌, List, Option, Some, None, IsTrue}
use Rattle.std.specs.Prelude.{◌==◌, ◌&&◌, if◌then◌else◌, Result, OnOk, OnErr}
use Rattle.pm_types.specs.declared.page_id.PageId.{PageId}
use Rattle.pm_disk.specs.Moments.{History, AllMoments}
use Rattle.pm_disk.specs.States.{DeviceState, Rose}
use Rattle.pm_disk.specs.Worlds.{World}
use Rattle.pm_model.specs.declared.line.Cmd.TheVariants.{Scan}
use Rattle.pm_model.specs.declared.line.Line.{Line}
use Rattle.pm_model.specs.declared.line.Line.TheVariants.{Good}
use Rattle.pm_model.specs.Batches.{HasCache}
use Rattle.pm_model.specs.Eval.{reply_to}
use Rattle.pm_model.specs.ReplyLists.{ReplyList, with_replies}
use Rattle.pm_part.specs.Commands.{AppendsReply}
use Rattle.pm_core.specs.Held.{AllWellFormed, pairs_in}
use Rattle.pm_stripe.specs.declared.bound.Bound.{Bound}
use Rattle.pm_stripe.specs.Kept.{page_bytes, is_known, IsStaying}
use Rattle.pm_stripe.specs.Shown.{kept_by, file_by}
use Rattle.pm_stripe.specs.Sights.{AreSettled}
use Rattle.pm_stripe.specs.Stripes.{kept}
use Rattle.pm_engine.specs.declared.frame_lines.Stop.{Stop}
use Rattle.pm_engine.specs.declared.frame_lines.Stop.TheVariants.{Halted, Faulted}
use Rattle.pm_engine.specs.declared.frame_rounds.RoundEnd.{RoundEnd}
use Rattle.pm_engine.specs.declared.frame_scans.ScanStop.{ScanStop}
use Rattle.pm_engine.specs.FrameCommands.{frame_pages}
use Rattle.pm_engine.specs.FrameLines.{is_scan}
use Rattle.pm_engine.specs.FrameRounds.{AnswersRound}
use Rattle.pm_engine.specs.FrameScans.{ReadsNoBadPage, may_go_on_after}
use Rattle.pm_engine.specs.FrameStores.{FrameStoreView, pages_in_frames, IsDirtyPage, HasCleanPages}
use Rattle.pm_engine.specs.MetPages.{MeetsInScan}

-- A line that a round over a store's pages may have: its cache is there, and it is no scan.
pub record IsStoreLine (line : Line) : Type 0 where
  pub cache : HasCache line
  pub no_scan : is_scan line ≡ false

-- whether a round that stopped so may be followed by another one
abbrev pub may_go_on : Option Stop → Bool
may_go_on None = true
may_go_on (Some (Halted halt)) = true
may_go_on (Some (Faulted fault)) = false

-- What is remembered, after a round, of how many pages stay in Dirty frames: the count as it was, where the round may be
-- followed by another one and left the outbox as long as it was, so that it handed nothing over. Else nothing is.
abbrev pub count_after : Option ℕ → Bool → ℕ → ℕ → Option ℕ
count_after counted goes_on was now = if goes_on && was == now then counted else None

-- What no round changes of a store's page frames, and what it has.
pub record IsSameStore (old new : FrameStoreView) : Type 0 where
  pub shape : new.shape ≡ old.shape
  pub region : new.region ≡ old.region
  pub locks : new.locks ≡ old.locks
  pub files : new.stripe.files ≡ old.stripe.files
  pub is_running : new.stripe.is_running ≡ old.stripe.is_running

-- What the rounds of a store handed over is sent: its outbox is empty, and all else is as it was.
pub record SendsOutbox (old new : FrameStoreView) : Type 0 where
  pub same : IsSameStore old new
  pub is_open : new.is_open ≡ old.is_open
  pub empty : new.stripe.outbox ≡ []
  pub seat : new.seat ≡ old.seat
  pub kept : kept new.stripe new.seat ≡ kept old.stripe old.seat
  pub pages : (world : World) → pages_in_frames new world ≡ pages_in_frames old world

-- Nothing was changed or said: at each moment since the old one the world was the one then.
pub record ChangesNoWorld (old new : History) : Type 0 where
  pub world : new.world ≡ old.world
  pub moments : AllMoments old new (λ w. w ≡ old.world)

-- A scan of a cache was answered over the pages of a store, where the partitions' files are those of this world. No
-- page changed, and nothing was handed over. Where the files' content is told, and each partition is well formed, the
-- reply is the model's, and no page was found bad. After a fault the store is open no more. A page that couldn't be used
-- is one that the scan met.
pub record ScansStore (tells : Type 0) (cache : ℕ) (old new : FrameStoreView) (world : World) (was now : ReplyList)
    (result : Result (Unit {0}) ScanStop) : Type 0 where
  pub same : IsSameStore old new
  pub is_open : new.is_open ≡ may_go_on_after result
  pub outbox : new.stripe.outbox ≡ old.stripe.outbox
  pub dirty : (id : PageId) → IsDirtyPage new id ↔ IsDirtyPage old id
  pub pages : tells → pages_in_frames new world ≡ pages_in_frames old world
  pub clean : tells → HasCleanPages new world
  pub replied : OnOk result (AppendsReply was now)
  pub no_reply : OnErr result (now ≡ was)
  pub evaluates : tells → AllWellFormed old.shape (pages_in_frames old world) → OnOk result (now ≡ with_replies
      (reply_to old.shape (Good (Scan cache)) (pairs_in old.shape.partitions (pages_in_frames old world)) ∷ []) was)
  pub sound : tells → AllWellFormed old.shape (pages_in_frames old world) → ReadsNoBadPage result
  pub meets : tells → (may_change : ℕ → Bool)
      → MeetsInScan tells may_change old.shape (pages_in_frames old world) result

module _ {Q R : Type 0} where
  -- A worker has the pages of this store, where the partitions' files are those of this world: what stays in its
  -- frame is Dirty, each page that is at hand has the same bytes, and each of the store where the files' content is
  -- told.
  pub record HasPagesOf (tells : Type 0) (history : R → History) (store : FrameStoreView) (world : World)
      (b : Bound Q R) : Type 0 where
    pub locks : b.locks.now ≡ store.locks
    pub shape : b.stripe.shape ≡ store.shape
    pub files : b.stripe.files ≡ store.stripe.files
    pub outbox : b.stripe.outbox ≡ store.stripe.outbox
    pub dirty : (id : PageId) → IsStaying (kept_by b) id ↔ IsDirtyPage store id
    pub at_hand : (id : PageId) → IsTrue (is_known (kept_by b) id) → (file : PageId → Option (List ℕ))
        → page_bytes (file_by history b) (kept_by b) id ≡ page_bytes file (kept store.stripe store.seat) id
    pub pages : tells → frame_pages history b ≡ pages_in_frames store world

module _ {R : Type 0} where
  -- The lines of a round were done over the pages of a store, by a worker that had them at its start, when no
  -- checkpoint had to write a frame, and has at its end what the store has now; nothing was sent of what they handed
  -- over. After a fault the store is open no more, and its pages may be others. The reader came back as it was at the
  -- end.
  pub record RunsRound (Q : Type 0) (tells : Type 0) (history : R → History) (state : R → DeviceState) (first from : ℕ)
      (lines : List Line) (old new : FrameStoreView) (world : World) (was now : ReplyList) (back : R)
      (end : RoundEnd) : Type 0 where
    pub same : IsSameStore old new
    pub is_open : new.is_open ≡ may_go_on end.stop
    pub start : Bound Q R
    pub finish : Bound Q R
    pub answers : AnswersRound tells history state first from lines start finish was now end
    pub began : HasPagesOf tells history old world start
    pub settled : AreSettled start.locks.now start.seat.view
    pub ended : new.is_open ≡ true → HasPagesOf tells history new world finish
    pub outbox : new.stripe.outbox ≡ finish.stripe.outbox
    pub clean : tells → HasCleanPages new world
    pub reader : back ≡ finish.reader

  -- The same by a reader that a host lent, and has back: its count of faults is as it was where no call of the
  -- reader failed, and else it rose.
  pub record RunsRoundOver (Q : Type 0) (tells : Type 0) (history : R → History) (state : R → DeviceState) (first from : ℕ)
      (lines : List Line) (old new : FrameStoreView) (world : World) (was now : ReplyList)
      (before after : DeviceState) (end : RoundEnd) : Type 0 where
    pub back : R
    pub round : RunsRound Q tells history state first from lines old new world was now back end
    pub quiet : (state back).faults ≡ 0 → after.faults ≡ before.faults
    pub rose : 0 < (state back).faults → Rose before after
