-- Pages that couldn't be used, over the pages that there were before.
use Rattle.std.proofs.Common.{◌≡◌, inl, inr, ℕ, ◌+◌, Bool, true, false, List, [], ◌∷◌, Option, Some, refl, sym, ap, subst, ◌∙◌}
use Rattle.std.specs.Prelude.{All, IsTrue, drop}
use Rattle.std.proofs.lemmas.Bool.{cases_eq}
use Rattle.std.proofs.lemmas.List.Elements.{All-head, All-tail, All-take, All-drop}
use Rattle.pm_types.specs.declared.page_id.PageId.{PageId}
use Rattle.pm_types.specs.declared.shape.Shape.{Shape}
use Rattle.pm_disk.specs.Moments.{History}
use Rattle.pm_records.specs.Records.{Record}
use Rattle.pm_model.specs.declared.line.Cmd.TheVariants.{Put, Get, Remove, Scan, Checkpoint}
use Rattle.pm_model.specs.declared.line.Line.{Line}
use Rattle.pm_model.specs.declared.line.Line.TheVariants.{Good, Bad, Long}
use Rattle.pm_model.specs.Orders.{part_of_line}
use Rattle.pm_model.specs.ReplyLists.{ReplyList}
use Rattle.pm_pages.specs.Paged.{Paged}
use Rattle.pm_core.specs.BasePages.{Partitions}
use Rattle.pm_stripe.specs.declared.bound.Bound.{Bound}
use Rattle.pm_engine.specs.FrameCommands.{frame_pages, ChangesNothing, HandsOverChange}
use Rattle.pm_engine.specs.FrameLines.{DoesLine}
use Rattle.pm_engine.specs.FrameRounds.{lines_from, DoesLines}
use Rattle.pm_engine.specs.MetPages.{AllowsLine, KeepsPagesBut, IsPartFrom, MeetsBadPage, KeepsOrMeets}
use Rattle.pm_engine.specs.Records.{record_of_line}

pub kept_same : (may_change : ℕ → Bool) (pages : Partitions) → KeepsPagesBut may_change pages pages
kept_same may_change pages part index bytes there = inl there

module _ (may_change : ℕ → Bool) (old mid : Partitions) (kept : KeepsPagesBut may_change old mid) where
  pub kept_then : (new : Partitions) → KeepsPagesBut may_change mid new → KeepsPagesBut may_change old new
  kept_then new more part index bytes there = elim (kept part index bytes there) [
    | inl here ↦ more part index bytes here
    | inr changed ↦ inr changed
  ]

  pub part_before : (shape : Shape) (p : Paged) → IsPartFrom may_change shape mid p → IsPartFrom may_change shape old p
  part_before shape p x = record {
    page_size = x.page_size;
    max_rows = x.max_rows;
    inside = x.inside;
    pages = λ index bytes small there. elim (kept p.part index bytes there) [
      | inl here ↦ x.pages index bytes small here
      | inr changed ↦ inr changed
    ];
  }

  pub met_before : (tells : Type 0) (shape : Shape) (id : PageId) → MeetsBadPage tells may_change shape mid id → MeetsBadPage tells may_change shape old id
  met_before tells shape id x = record {
    cmd = x.cmd;
    before = x.before;
    after = x.after;
    began = part_before shape x.before x.began;
    ended = part_before shape x.after x.ended;
    same = x.same;
    met = x.met;
  }

  -- what calls leave that went on from there
  pub meets_then : (tells : Type 0) (shape : Shape) (new : Partitions) (goes_on : Type 0) (IsNamed : PageId → Type 0) → KeepsOrMeets tells may_change shape mid new goes_on IsNamed → KeepsOrMeets tells may_change shape old new goes_on IsNamed
  meets_then tells shape new goes_on IsNamed x = record {
    keeps = λ on. kept_then new (x.keeps on);
    meets = λ id named. met_before tells shape id (x.meets id named);
  }

-- ---- lines that were done

-- what holds of all lines holds of those of a round that stand from one on
pub all_from : (P : Line → Type 0) (from count : ℕ) (lines : List Line) → All P lines → All P (lines_from from count lines)
all_from P from count lines all = All-take P count (drop from lines) (All-drop P from lines all)

-- a line with a record changes the partition that it may
line_changes : (may_change : ℕ → Bool) (shape : Shape) (line : Line) (rec : Record) → record_of_line line ≡ Some rec → AllowsLine may_change shape line → IsTrue (may_change (part_of_line shape line))
line_changes may_change shape (Good (Put cache key value)) rec is allows = allows
line_changes may_change shape (Good (Get cache key)) rec is allows = absurd cc
line_changes may_change shape (Good (Remove cache key)) rec is allows = allows
line_changes may_change shape (Good (Scan cache)) rec is allows = absurd cc
line_changes may_change shape (Good Checkpoint) rec is allows = absurd cc
line_changes may_change shape Bad rec is allows = absurd cc
line_changes may_change shape Long rec is allows = absurd cc

module _ {Q R : Type 0} (tells : Type 0) (t : tells) (history : R → History) (may_change : ℕ → Bool) where
  -- a line that changed nothing keeps the pages
  pub nothing_keeps : (b c : Bound Q R) → ChangesNothing tells history b c → KeepsPagesBut may_change (frame_pages history b) (frame_pages history c)
  nothing_keeps b c x part index bytes there = inl (ap (λ (p : Partitions). p part index) (x.told t) ∙ there)

  -- one that handed over what it changed keeps those of the other partitions
  pub change_keeps : (number : ℕ) (logged : Option Record) (at : ℕ) (b c : Bound Q R) → HandsOverChange tells history number logged at b c → IsTrue (may_change at) → KeepsPagesBut may_change (frame_pages history b) (frame_pages history c)
  change_keeps number logged at b c x may part index bytes there = elim (cases_eq part at) [
    | inl here ↦ inr (subst (λ p. IsTrue (may_change p)) (sym here) may)
    | inr ne ↦ inl (x.elsewhere t part index ne ∙ there)
  ]

  line_keeps : (number : ℕ) (line : Line) (b c : Bound Q R) (accepted : Bool) → DoesLine tells history number line b c accepted → AllowsLine may_change b.stripe.shape line → KeepsPagesBut may_change (frame_pages history b) (frame_pages history c)
  line_keeps number line b c false x allows = nothing_keeps b c (x.refused refl)
  line_keeps number line b c true x allows =
      let hands = x.hands refl in
      change_keeps number (Some hands.rec) (part_of_line b.stripe.shape line) b c hands.change (line_changes may_change b.stripe.shape line hands.rec hands.is allows)

  line_shape : (number : ℕ) (line : Line) (b c : Bound Q R) (accepted : Bool) → DoesLine tells history number line b c accepted → c.stripe.shape ≡ b.stripe.shape
  line_shape number line b c false x = (x.refused refl).seat.shape
  line_shape number line b c true x = (x.hands refl).change.seat.shape

  -- lines that were done keep the pages but of the partitions that they may change
  pub done_keeps : (number : ℕ) (lines : List Line) (b c : Bound Q R) (was now : ReplyList) → DoesLines tells history number lines b c was now → All (AllowsLine may_change b.stripe.shape) lines → KeepsPagesBut may_change (frame_pages history b) (frame_pages history c)
  done_keeps number [] b c was now does allows = nothing_keeps b c does.0
  done_keeps number (line ∷ lines) b c was now (m, mid, next, rest) allows =
      let first = line_keeps number line b m next.accepted next.does (All-head (AllowsLine may_change b.stripe.shape) line lines allows) in
      let shape = line_shape number line b m next.accepted next.does in
      let others = subst (λ (s : Shape). All (AllowsLine may_change s) lines) (sym shape) (All-tail (AllowsLine may_change b.stripe.shape) line lines allows) in
      kept_then may_change (frame_pages history b) (frame_pages history m) first (frame_pages history c) (done_keeps (number + 1) lines m c mid now rest others)
