-- Lines that are done one after the other over a worker's page frames.
use Rattle.std.proofs.Common.{◌≡◌, ℕ, ◌+◌, ◌-◌, ◌%◌, ◌<◌, ◌≤◌, Bool, List, [], ◌∷◌, ◌++◌, length, get_or, None, Some, sym, refl, ap, subst, ◌∙◌, arith}
use Rattle.std.specs.Prelude.{Ok, Err, take, drop}
use Rattle.std.proofs.lemmas.List.{length-take-le, length-drop, get_or-drop, take_more}
use Rattle.std.proofs.lemmas.List.Elements.{All-get_or}
use Rattle.pm_types.specs.declared.shape.Shape.{Shape}
use Rattle.pm_disk.specs.Moments.{History}
use Rattle.pm_disk.specs.States.{DeviceState}
use Rattle.pm_model.specs.declared.line.Line.{Line}
use Rattle.pm_model.specs.declared.reply.Reply.{Reply}
use Rattle.pm_model.specs.Eval.{Pairs, reply_to, after, replies_to}
use Rattle.pm_model.specs.Orders.{part_of_line}
use Rattle.pm_model.specs.ReplyLists.{ReplyList, with_replies}
use Rattle.pm_model.proofs.Runs.{replies_to-append, after_all-append}
use Rattle.pm_core.specs.BasePages.{Partitions}
use Rattle.pm_core.specs.Held.{AllWellFormed, pairs_in}
use Rattle.pm_stripe.specs.declared.bound.Bound.{Bound}
use Rattle.pm_stripe.specs.declared.halt.Halt.{Halt}
use Rattle.pm_types.specs.declared.fault.PageFault.{PageFault}
use Rattle.pm_types.specs.declared.fault.PageFault.TheVariants.{Failed, BadPage}
use Rattle.pm_engine.specs.declared.frame_lines.Stop.{Stop}
use Rattle.pm_engine.specs.declared.frame_lines.Stop.TheVariants.{Halted, Faulted}
use Rattle.pm_engine.specs.FrameCommands.{frame_pages, IsSameWorker, IsBetweenLines, ChangesNothing, HandsOverChange}
use Rattle.pm_engine.specs.FrameLines.{EvaluatesLine, DoesLine, IsRoundLine, AnswersInFrames}
use Rattle.pm_engine.specs.FrameRounds.{lines_from, EvaluatesLines, LeavesRound, AnswersRound, DoesNext, DoesLines, HasDone, EndsAtFault}
use Rattle.pm_engine.specs.MetPages.{AllowsLine, MeetsBadPage}
use Rattle.pm_engine.proofs.MetPages.{met_before, all_from, done_keeps}
use Rattle.pm_engine.proofs.Replied.{with_none, with_more}
use Rattle.pm_engine.proofs.FrameAnswers.{worker_same_refl, worker_same_then, nothing_refl, nothing_then, hands_then}

-- lines and one more were evaluated
evaluates_more : (shape : Shape) (lines : List Line) (line : Line) (old mid new : Partitions) (was now between : ReplyList) (accepted : Bool) → EvaluatesLines shape lines old mid was between → EvaluatesLine shape line mid new between now accepted
    → EvaluatesLines shape (lines ++ line ∷ []) old new was now
evaluates_more shape lines line old mid new was now between accepted x y =
    let before = pairs_in shape.partitions old in
    let then_map = pairs_in shape.partitions mid in
    record {
      replied = y.replied ∙ ap (with_replies (reply_to shape line then_map ∷ [])) x.replied
          ∙ with_more (replies_to shape lines before) (reply_to shape line then_map ∷ []) was
          ∙ ap (λ (m : Pairs). with_replies (replies_to shape lines before ++ reply_to shape line m ∷ []) was) x.map
          ∙ ap (λ (rs : List Reply). with_replies rs was) (sym (replies_to-append shape lines (line ∷ []) before));
      map = y.map ∙ ap (λ (m : Pairs). after shape line m) x.map ∙ sym (after_all-append shape lines (line ∷ []) before);
      well_formed = y.well_formed;
    }

module _ {Q R : Type 0} (tells : Type 0) (history : R → History) (state : R → DeviceState) where
  -- a line after nothing changed
  line_then : (number : ℕ) (line : Line) (b m c : Bound Q R) (accepted : Bool) → c.stripe.held.items ≡ [] → ChangesNothing tells history b m → DoesLine tells history number line m c accepted → DoesLine tells history number line b c accepted
  line_then number line b m c accepted none first x = record {
    refused = λ off. nothing_then tells history state b m c none first (x.refused off);
    hands = λ on.
        let y = x.hands on in
        record {
          rec = y.rec;
          is = y.is;
          change = subst (λ (s : Shape). HandsOverChange tells history number (Some y.rec) (part_of_line s line) b c) first.seat.shape (hands_then tells history state b m c none first number (Some y.rec) (part_of_line m.stripe.shape line) y.change);
        };
  }

  next_then : (number : ℕ) (line : Line) (b m c : Bound Q R) (was now : ReplyList) → c.stripe.held.items ≡ [] → ChangesNothing tells history b m → DoesNext tells history number line m c was now → DoesNext tells history number line b c was now
  next_then number line b m c was now none first x = record {
    accepted = x.accepted;
    does = line_then number line b m c x.accepted none first x.does;
    evaluates = λ t all.
        let there = subst (λ (p : Shape × Partitions). AllWellFormed p.0 p.1) (λ i. (sym first.seat.shape i, sym (first.told t) i)) all in
        subst (λ (p : Shape × Partitions). EvaluatesLine p.0 line p.1 (frame_pages history c) was now x.accepted) (λ i. (first.seat.shape i, first.told t i)) (x.evaluates t there);
  }

  -- nothing changed after lines
  pub lines_then : (lines : List Line) (number : ℕ) (b m c : Bound Q R) (was mid now : ReplyList) → c.stripe.held.items ≡ [] → DoesLines tells history number lines b m was mid → ChangesNothing tells history m c → now ≡ mid → DoesLines tells history number lines b c was now
  lines_then [] number b m c was mid now none x y same = (nothing_then tells history state b m c none x.0 y, same ∙ x.1)
  lines_then (line ∷ lines) number b m c was mid now none (k, between, next, rest) y same = (k, between, next, lines_then lines (number + 1) k m c between mid now none rest y same)

  -- one line more was done
  pub lines_more : (lines : List Line) (number at : ℕ) (line : Line) (b m c : Bound Q R) (was mid now : ReplyList) → c.stripe.held.items ≡ [] → at ≡ number + length lines
      → DoesLines tells history number lines b m was mid → DoesNext tells history at line m c mid now → DoesLines tells history number (lines ++ line ∷ []) b c was now
  lines_more [] number at line b m c was mid now none is x y =
      let same : at ≡ number = omega (arith, is) in
      (c, now, subst (λ n. DoesNext tells history n line b c was now) same (subst (λ (list : ReplyList). DoesNext tells history at line b c list now) x.1 (next_then at line b m c mid now none x.0 y)), (nothing_refl tells history state c, refl))
  lines_more (first ∷ lines) number at line b m c was mid now none is (k, between, next, rest) y = (k, between, next, lines_more lines (number + 1) at line k m c between mid now none (omega (arith, is)) rest y)

  -- ---- what was done so far

  pub done_none : (number : ℕ) (b : Bound Q R) (was : ReplyList) → IsBetweenLines tells history state b → HasDone tells history state number [] b b was was
  done_none number b was between = record {
    same = worker_same_refl tells history state b;
    between = between;
    does = (nothing_refl tells history state b, refl);
    evaluates = λ t all. record { replied = with_none was; map = refl; well_formed = all };
  }

  module _ (number : ℕ) (lines : List Line) (b m c : Bound Q R) (was mid now : ReplyList) (done : HasDone tells history state number lines b m was mid) (at : ℕ) (line : Line) where
    pub done_more : (accepted : Bool) → at ≡ number + length lines → AnswersInFrames tells history state at line m c mid now (Ok accepted) → HasDone tells history state number (lines ++ line ∷ []) b c was now
    done_more accepted is x = record {
      same = worker_same_then tells history state b m c done.same x.same;
      between = x.leaves.0;
      does = lines_more lines number at line b m c was mid now x.leaves.0.none_held is done.does (record { accepted = accepted; does = x.leaves.1; evaluates = x.evaluates });
      evaluates = λ t all.
          let before = done.evaluates t all in
          let there = subst (λ (s : Shape). AllWellFormed s (frame_pages history m)) (sym done.same.shape) before.well_formed in
          evaluates_more b.stripe.shape lines line (frame_pages history b) (frame_pages history m) (frame_pages history c) was now mid accepted before
          (subst (λ (s : Shape). EvaluatesLine s line (frame_pages history m) (frame_pages history c) mid now accepted) done.same.shape (x.evaluates t there));
    }

    pub done_halted : (halt : Halt) → AnswersInFrames tells history state at line m c mid now (Err (Halted halt)) → HasDone tells history state number lines b c was now
    done_halted halt x =
        let halts = x.leaves.0 in
        record {
          same = worker_same_then tells history state b m c done.same x.same;
          between = halts.between;
          does = lines_then lines number b m c was mid now halts.between.none_held done.does halts.nothing x.replied;
          evaluates = λ t all. subst (λ (p : Partitions × ReplyList). EvaluatesLines b.stripe.shape lines (frame_pages history b) p.0 was p.1) (λ i. (sym (halts.nothing.told t) i, sym x.replied i)) (done.evaluates t all);
        }

    pub done_faulted : (fault : PageFault) → AnswersInFrames tells history state at line m c mid now (Err (Faulted fault)) → EndsAtFault tells history state number lines b c was now
    done_faulted fault x = record {
      before = m;
      done = subst (λ (list : ReplyList). HasDone tells history state number lines b m was list) (sym x.replied) done;
      same = worker_same_then tells history state b m c done.same x.same;
      bound = x.bound;
      outbox = x.leaves;
    }

  -- a line of a round is one still
  pub line_still : (b m : Bound Q R) (line : Line) → IsSameWorker tells history state b m → IsRoundLine b line → IsRoundLine m line
  line_still b m line same is = record {
    cache = is.cache;
    no_scan = is.no_scan;
    own = λ has.
        let own = is.own has in
        record {
          there = subst (λ (s : Shape). part_of_line s line < s.partitions) (sym same.shape) own.there;
          own = subst (λ (p : Shape × ℕ × ℕ). part_of_line p.0 line % p.1 ≡ p.2) (λ i. (sym same.shape i, (sym same.locks i).now.workers, sym same.number i)) own.own;
        };
  }

-- ---- the lines of a round

module _ {Q R : Type 0} (tells : Type 0) (history : R → History) (state : R → DeviceState) (first from : ℕ) (lines : List Line) where
  -- The lines before this one are done, each took room for one reply, and there is room for the replies of the others.
  pub record RoundSoFar (b m : Bound Q R) (was mid : ReplyList) (at : ℕ) : Type 0 where
    pub above : from ≤ at
    pub done : HasDone tells history state (first + from) (lines_from from (at - from) lines) b m was mid
    pub room : length lines ≤ at + mid.spare
    pub spare : was.spare + from ≤ at + mid.spare

  pub so_far_begins : (b : Bound Q R) (was : ReplyList) → IsBetweenLines tells history state b → length lines ≤ from + was.spare → RoundSoFar b b was was from
  so_far_begins b was between room =
      let none : 0 ≡ from - from = omega arith in
      record {
        above = omega arith;
        done = subst (λ n. HasDone tells history state (first + from) (lines_from from n lines) b b was was) none (done_none tells history state (first + from) b was between);
        room = room;
        spare = omega arith;
      }

  module _ (b m c : Bound Q R) (was mid now : ReplyList) (at number : ℕ) (line : Line) (so_far : RoundSoFar b m was mid at) (inside : at < length lines) (is : number ≡ first + at) where
    abbrev count : ℕ
    count = at - from

    long : length (lines_from from count lines) ≡ count
    long = length-take-le count (drop from lines) (omega (arith, inside, so_far.above, length-drop from lines))

    number_is : number ≡ first + from + length (lines_from from count lines)
    number_is = omega (arith, is, so_far.above, long)

    one_more : line ≡ get_or lines at line → lines_from from (at + 1 - from) lines ≡ lines_from from count lines ++ line ∷ []
    one_more here =
        let next : at + 1 - from ≡ count + 1 = omega (arith, so_far.above) in
        let place : from + count ≡ at = omega (arith, so_far.above) in
        let found : get_or (drop from lines) count line ≡ line = get_or-drop from lines count line ∙ ap (λ n. get_or lines n line) place ∙ sym here in
        ap (λ n. take n (drop from lines)) next ∙ take_more (drop from lines) count line (omega (arith, inside, so_far.above, length-drop from lines))
        ∙ ap (λ (x : Line). take count (drop from lines) ++ x ∷ []) found

    pub so_far_more : (accepted : Bool) → line ≡ get_or lines at line → AnswersInFrames tells history state number line m c mid now (Ok accepted) → RoundSoFar b c was now (at + 1)
    so_far_more accepted here x = record {
      above = omega (arith, so_far.above);
      done = subst (λ (ls : List Line). HasDone tells history state (first + from) ls b c was now) (sym (one_more here))
          (done_more tells history state (first + from) (lines_from from count lines) b m c was mid now so_far.done number line accepted number_is x);
      room = omega (arith, so_far.room, inside, ap (λ (list : ReplyList). list.spare) x.replied.appended);
      spare = omega (arith, so_far.spare, ap (λ (list : ReplyList). list.spare) x.replied.appended);
    }

    leaves_stop : (stop : Stop) → AnswersInFrames tells history state number line m c mid now (Err stop) → LeavesRound tells history state (first + from) (lines_from from count lines) b c was now (Some stop)
    leaves_stop (Halted halt) x = done_halted tells history state (first + from) (lines_from from count lines) b m c was mid now so_far.done number line halt x
    leaves_stop (Faulted fault) x = done_faulted tells history state (first + from) (lines_from from count lines) b m c was mid now so_far.done number line fault x

    same_stop : (stop other : Stop) → Some stop ≡ Some other → stop ≡ other
    same_stop stop other e = cc

    no_stop : (stop : Stop) → Some stop ≡ None → ⊥
    no_stop stop e = cc

    pub so_far_stops : (stop : Stop) → line ≡ get_or lines at line → AnswersInFrames tells history state number line m c mid now (Err stop) → AnswersRound tells history state first from lines b c was now (record { done = at - from; stop = Some stop })
    so_far_stops stop here x = record {
      inside = omega (arith, so_far.above, inside);
      all = λ e. absurd (no_stop stop e);
      room = omega (arith, so_far.above, so_far.room, ap (λ (list : ReplyList). list.spare) x.replied);
      spare = omega (arith, so_far.above, so_far.spare, ap (λ (list : ReplyList). list.spare) x.replied);
      leaves = leaves_stop stop x;
      cause = λ e.
          let risen = x.cause (ap Err (same_stop stop (Faulted Failed) e)) in
          let later = so_far.done.same.later.later in
          omega (arith, risen, later);
      sound = λ t all id e.
          let there = subst (λ (s : Shape). AllWellFormed s (frame_pages history m)) (sym so_far.done.same.shape) (so_far.done.evaluates t all).well_formed in
          x.sound t there id (ap Err (same_stop stop (Faulted (BadPage id)) e));
      meets = λ t changed allows id e.
          let shape = so_far.done.same.shape in
          let this : AllowsLine changed b.stripe.shape line = subst (AllowsLine changed b.stripe.shape) (sym here) (All-get_or (AllowsLine changed b.stripe.shape) lines at line inside allows) in
          let allowed : AllowsLine changed m.stripe.shape line = subst (λ (s : Shape). AllowsLine changed s line) (sym shape) this in
          let met = subst (λ (s : Shape). MeetsBadPage tells changed s (frame_pages history m) id) shape (x.meets t changed allowed id (ap Err (same_stop stop (Faulted (BadPage id)) e))) in
          let before = all_from (AllowsLine changed b.stripe.shape) from count lines allows in
          met_before changed (frame_pages history b) (frame_pages history m) (done_keeps tells t history changed (first + from) (lines_from from count lines) b m was mid so_far.done.does before) tells b.stripe.shape id met;
    }

  pub so_far_ends : (b m : Bound Q R) (was mid : ReplyList) (at : ℕ) → RoundSoFar b m was mid at → at ≡ length lines → AnswersRound tells history state first from lines b m was mid (record { done = length lines - from; stop = None })
  so_far_ends b m was mid at so_far is = record {
    inside = omega (arith, so_far.above, is);
    all = λ e. omega (arith, so_far.above, is);
    room = omega (arith, so_far.above, so_far.room, is);
    spare = omega (arith, so_far.above, so_far.spare, is);
    leaves = subst (λ n. HasDone tells history state (first + from) (lines_from from (n - from) lines) b m was mid) is so_far.done;
    cause = λ e. absurd cc;
    sound = λ t all id e. cc;
    meets = λ t changed allows id e. absurd cc;
  }
