-- How a batch of an engine over page frames goes on, call after call.
use Rattle.std.proofs.Common.{◌≡◌, ℕ, ◌+◌, ◌≤◌, List, [], ◌++◌, length, take, Result, Ok, Err}
use Rattle.std.proofs.Common.{refl, sym, ◌∙◌, ap, subst, arith, append_assoc, length-append}
use Rattle.std.specs.Prelude.{Bool, OnOk, IsErrOf}
use Rattle.std.specs.List.{All}
use Rattle.std.proofs.lemmas.Result.{on_ok_weaker}
use Rattle.std.proofs.Math.Seq.{take-length, take-append-add, take-append-le}
use Rattle.pm_types.specs.declared.fault.StoreFault.{StoreFault}
use Rattle.pm_types.specs.declared.fault.StoreFault.TheVariants.{Memory, BadPage}
use Rattle.pm_types.specs.declared.fault.Lack.TheVariants.{Frames}
use Rattle.pm_types.specs.declared.page_id.PageId.{PageId}
use Rattle.pm_types.specs.declared.shape.Shape.{Shape}
use Rattle.pm_disk.specs.Moments.{History, IsHistory, AllMoments}
use Rattle.pm_disk.specs.Worlds.{World}
use Rattle.pm_disk.proofs.Chain.{weaker, joined}
use Rattle.pm_model.specs.declared.line.Line.{Line}
use Rattle.pm_model.specs.declared.reply.Reply.{Reply}
use Rattle.pm_model.specs.Eval.{Pairs, accepted, after_all, replies_to}
use Rattle.pm_model.specs.ReplyLists.{ReplyList, with_replies}
use Rattle.pm_model.proofs.Runs.{after_all-append, accepted-append, replies_to-append}
use Rattle.pm_core.specs.BasePages.{Partitions}
use Rattle.pm_core.specs.Held.{AllWellFormed, pairs_in}
use Rattle.pm_core.proofs.OnlyDisk.{then_disk}
use Rattle.pm_engine.specs.FrameBatches.{HasNumbersIn, TakesNumbersIn, MayGoOn, RunsFrameBatch}
use Rattle.pm_engine.specs.Engines.{FrameRunning, HasDoneLines, map_in}
use Rattle.pm_engine.specs.FrameRounds.{EvaluatesLines}
use Rattle.pm_engine.specs.FrameStores.{pages_in_frames}
use Rattle.pm_engine.specs.MetPages.{AllowsLine, KeepsOrMeets}
use Rattle.pm_engine.specs.Batches.{StaysOpen}
use Rattle.pm_engine.specs.RunningStores.{number_of}
use Rattle.pm_engine.specs.RunningLines.{CrashHoldsLines}
use Rattle.pm_engine.proofs.BatchPages.{all_first, all_second}
use Rattle.pm_engine.proofs.MetPages.{meets_then}
use Rattle.pm_engine.proofs.Replied.{with_none, with_more}
use Rattle.pm_engine.proofs.RunningLines.{crash_wider, moments_further}

-- ---- lines that are evaluated

pub evaluates_none : (shape : Shape) (pages : Partitions) (list : ReplyList) → AllWellFormed shape pages → EvaluatesLines shape [] pages pages list list
evaluates_none shape pages list all = record { replied = with_none list; map = refl; well_formed = all }

pub evaluates_then : (shape : Shape) (xs ys : List Line) (old mid new : Partitions) (was between now : ReplyList)
    → EvaluatesLines shape xs old mid was between → EvaluatesLines shape ys mid new between now → EvaluatesLines shape (xs ++ ys) old new was now
evaluates_then shape xs ys old mid new was between now one two =
    let before = pairs_in shape.partitions old in
    let later = after_all shape xs before in
    record {
      replied = two.replied
          ∙ ap (λ (m : Pairs). with_replies (replies_to shape ys m) between) one.map
          ∙ ap (with_replies (replies_to shape ys later)) one.replied
          ∙ with_more (replies_to shape xs before) (replies_to shape ys later) was
          ∙ ap (λ (rs : List Reply). with_replies rs was) (sym (replies_to-append shape xs ys before));
      map = two.map ∙ ap (λ (m : Pairs). after_all shape ys m) one.map ∙ sym (after_all-append shape xs ys before);
      well_formed = two.well_formed;
    }

-- ---- numbers, call after call

pub numbers_none : (engine : FrameRunning) (segments checkpoints : ℕ) → TakesNumbersIn engine engine segments checkpoints
numbers_none engine segments checkpoints =
    record { in_log = omega arith; in_marks = omega arith; risen = λ some. omega arith }

pub numbers_more : (before mid now : FrameRunning) (a b c d : ℕ) → TakesNumbersIn before mid a b → TakesNumbersIn mid now c d
    → (segments checkpoints : ℕ) → a + c ≤ segments → b + d ≤ checkpoints → TakesNumbersIn before now segments checkpoints
numbers_more before mid now a b c d one two segments checkpoints in_segments in_checkpoints = record {
  in_log = omega (arith, one.in_log, two.in_log, in_segments);
  in_marks = omega (arith, one.in_marks, two.in_marks, in_checkpoints);
  risen = λ some.
      let first : number_of before.ckpt.mark ≤ number_of mid.ckpt.mark = one.risen (omega (arith, some, in_checkpoints)) in
      let then_on : number_of mid.ckpt.mark ≤ number_of now.ckpt.mark =
      two.risen (omega (arith, some, one.in_marks, in_checkpoints)) in
      omega (arith, first, then_on);
}

pub numbers_wider : (before now : FrameRunning) (a b : ℕ) → TakesNumbersIn before now a b
    → (segments checkpoints : ℕ) → a ≤ segments → b ≤ checkpoints → TakesNumbersIn before now segments checkpoints
numbers_wider before now a b one segments checkpoints in_segments in_checkpoints =
    numbers_more before now now a b 0 0 one (numbers_none now 0 0) segments checkpoints (omega (arith, in_segments)) (omega (arith, in_checkpoints))

-- what is left of the numbers
pub numbers_left : (before now : FrameRunning) (segments checkpoints a b c d : ℕ)
    → HasNumbersIn before segments checkpoints → TakesNumbersIn before now a b → a + c ≤ segments → b + d ≤ checkpoints
    → HasNumbersIn now c d
numbers_left before now segments checkpoints a b c d has takes in_segments in_checkpoints = record {
  in_log = omega (arith, has.in_log, takes.in_log, in_segments);
  in_marks = omega (arith, has.in_marks, takes.in_marks, in_checkpoints);
}

-- there are numbers for fewer
pub numbers_fewer : (engine : FrameRunning) (segments checkpoints a b : ℕ) → HasNumbersIn engine segments checkpoints
    → a ≤ segments → b ≤ checkpoints → HasNumbersIn engine a b
numbers_fewer engine segments checkpoints a b has in_segments in_checkpoints =
    record { in_log = omega (arith, has.in_log, in_segments); in_marks = omega (arith, has.in_marks, in_checkpoints) }

pub may_fewer : (engine : FrameRunning) (world : World) (segments checkpoints a b : ℕ) → MayGoOn engine world segments checkpoints
    → a ≤ segments → b ≤ checkpoints → MayGoOn engine world a b
may_fewer engine world segments checkpoints a b may in_segments in_checkpoints = record {
  wanted = may.wanted;
  told = may.told;
  from = may.from;
  start = may.start;
  lines = may.lines;
  has = may.has;
  numbers = numbers_fewer engine segments checkpoints a b may.numbers in_segments in_checkpoints;
}

-- each partition of a store that runs is well formed
pub may_well_formed : (engine : FrameRunning) (world : World) (segments checkpoints : ℕ) → MayGoOn engine world segments checkpoints
    → AllWellFormed engine.store.shape (pages_in_frames engine.store world)
may_well_formed engine world segments checkpoints may = may.has.has.runs.holds.well_formed

-- ---- the same lines, and more numbers

-- an answer after which as much may be done, and that says no more of bad pages
record IsNoMore (r q : Result (Unit {0}) StoreFault) : Type 0 where
  pub stays : StaysOpen q → StaysOpen r
  pub shuts : (StaysOpen q → ⊥) → StaysOpen r → ⊥
  pub bad : (id : PageId) → IsErrOf q (BadPage id) → IsErrOf r (BadPage id)

is_itself : (r : Result (Unit {0}) StoreFault) → IsNoMore r r
is_itself r = record { stays = λ is. is; shuts = λ shut. shut; bad = λ id is. is }

-- what was done of some lines is done of others that begin so
batch_as : (tells : Type 0) (old new : History) (first : ℕ) (xs ys : List Line) (a b segments checkpoints : ℕ)
    (start now : FrameRunning) (was replies : ReplyList) (r q : Result (Unit {0}) StoreFault) → IsNoMore r q
    → (it : RunsFrameBatch tells old new first xs a b start now was replies r) → take it.tried xs ≡ take it.tried ys
    → ((P : Line → Type 0) → All P ys → All P xs) → it.tried ≤ length ys → OnOk q (it.tried ≡ length ys) → a ≤ segments → b ≤ checkpoints
    → RunsFrameBatch tells old new first ys segments checkpoints start now was replies q
batch_as tells old new first xs ys a b segments checkpoints start now was replies r q less it same each inside all in_segments in_checkpoints =
    let fewer : MayGoOn start old.world segments checkpoints → MayGoOn start old.world a b =
    λ may. may_fewer start old.world segments checkpoints a b may in_segments in_checkpoints in
    let its = start.store.shape in
    record {
      tried = it.tried;
      within = inside;
      all = all;
      same = it.same;
      is_open = λ stays. it.is_open (less.stays stays);
      closed = λ shut. it.closed (less.shuts shut);
      spare = λ stays. it.spare (less.stays stays);
      ends = λ t stays. it.ends t (less.stays stays);
      clean = λ t stays. it.clean t (less.stays stays);
      disk = it.disk;
      evaluates = λ t stays may. subst (λ ls. EvaluatesLines its ls (pages_in_frames start.store old.world) (pages_in_frames now.store new.world) was replies) same
          (it.evaluates t (less.stays stays) (fewer may));
      order = λ t may. it.order t (fewer may) ∙ ap (λ ls. start.order ++ accepted its first ls (map_in start old.world)) same;
      sound = λ t may id bad. it.sound t (fewer may) id (less.bad id bad);
      meets = λ t may_change allows.
          let met = it.meets t may_change (each (AllowsLine may_change its) allows) in
          record { keeps = λ stays. met.keeps (less.stays stays); meets = λ id bad. met.meets id (less.bad id bad) };
      runs = λ t stays wanted told from begin done has some. subst (λ ls. HasDoneLines wanted told from begin (done ++ ls) now new.world) same
          (it.runs t (less.stays stays) wanted told from begin done has (numbers_fewer start segments checkpoints a b some in_segments in_checkpoints));
      crash = λ t wanted told from begin done has some.
          moments_further (start.log.end.seg + (a + 1)) (number_of start.ckpt.mark + b) (start.log.end.seg + (segments + 1)) (number_of start.ckpt.mark + checkpoints)
          wanted its begin (done ++ take it.tried ys) old new (omega (arith, in_segments)) (omega (arith, in_checkpoints))
          (subst (λ ls. AllMoments old new (CrashHoldsLines (start.log.end.seg + (a + 1)) (number_of start.ckpt.mark + b) wanted its begin (done ++ ls))) same
          (it.crash t wanted told from begin done has (numbers_fewer start segments checkpoints a b some in_segments in_checkpoints)));
    }

-- more segments and checkpoints may be taken
pub batch_wider : (tells : Type 0) (old new : History) (first : ℕ) (lines : List Line) (a b segments checkpoints : ℕ)
    (start now : FrameRunning) (was replies : ReplyList) (r : Result (Unit {0}) StoreFault)
    → RunsFrameBatch tells old new first lines a b start now was replies r → a ≤ segments → b ≤ checkpoints
    → RunsFrameBatch tells old new first lines segments checkpoints start now was replies r
batch_wider tells old new first lines a b segments checkpoints start now was replies r it in_segments in_checkpoints =
    batch_as tells old new first lines lines a b segments checkpoints start now was replies r r (is_itself r) it refl (λ P all. all) it.within it.all in_segments in_checkpoints

-- a fault came before the last line
pub batch_part : (tells : Type 0) (old new : History) (first : ℕ) (xs ys : List Line) (a b segments checkpoints : ℕ)
    (start now : FrameRunning) (was replies : ReplyList) (fault : StoreFault)
    → RunsFrameBatch tells old new first xs a b start now was replies (Err fault) → a ≤ segments → b ≤ checkpoints
    → RunsFrameBatch tells old new first (xs ++ ys) segments checkpoints start now was replies (Err fault)
batch_part tells old new first xs ys a b segments checkpoints start now was replies fault it in_segments in_checkpoints =
    batch_as tells old new first xs (xs ++ ys) a b segments checkpoints start now was replies (Err fault) (Err fault) (is_itself (Err fault)) it (sym (take-append-le it.tried xs ys it.within)) (λ P all. all_first P xs ys all)
    (omega (arith, it.within, length-append xs ys)) tt in_segments in_checkpoints

-- frames lack for the next line
pub batch_lacks : (tells : Type 0) (old new : History) (first : ℕ) (xs ys : List Line) (a b segments checkpoints : ℕ)
    (start now : FrameRunning) (was replies : ReplyList) → RunsFrameBatch tells old new first xs a b start now was replies (Ok tt)
    → a ≤ segments → b ≤ checkpoints → RunsFrameBatch tells old new first (xs ++ ys) segments checkpoints start now was replies (Err (Memory Frames))
batch_lacks tells old new first xs ys a b segments checkpoints start now was replies it in_segments in_checkpoints =
    batch_as tells old new first xs (xs ++ ys) a b segments checkpoints start now was replies (Ok tt) (Err (Memory Frames))
    (record { stays = λ is. tt; shuts = λ shut is. shut tt; bad = λ id bad. absurd (cc bad) }) it (sym (take-append-le it.tried xs ys it.within)) (λ P all. all_first P xs ys all)
    (omega (arith, it.within, length-append xs ys)) tt in_segments in_checkpoints

-- ---- calls that succeeded

module _ (tells : Type 0) (old mid : History) (first : ℕ) (xs : List Line) (a b : ℕ) (start engine : FrameRunning)
    (was between : ReplyList) (before : RunsFrameBatch tells old mid first xs a b start engine was between (Ok tt)) where
  all_tried : take before.tried xs ≡ xs
  all_tried = ap (λ n. take n xs) before.all ∙ take-length xs

  pub all_evaluates : tells → MayGoOn start old.world a b
      → EvaluatesLines start.store.shape xs (pages_in_frames start.store old.world) (pages_in_frames engine.store mid.world) was between
  all_evaluates t may = subst (λ ls. EvaluatesLines start.store.shape ls (pages_in_frames start.store old.world) (pages_in_frames engine.store mid.world) was between)
      all_tried (before.evaluates t tt may)

  pub all_order : tells → MayGoOn start old.world a b → engine.order ≡ start.order ++ accepted start.store.shape first xs (map_in start old.world)
  all_order t may = before.order t may ∙ ap (λ ls. start.order ++ accepted start.store.shape first ls (map_in start old.world)) all_tried

  pub all_run : tells → (wanted : Shape) (told : List ℕ → ℕ) (from : ℕ) (begin : Pairs) (done : List Line)
      → HasDoneLines wanted told from begin done start old.world → HasNumbersIn start a b
      → HasDoneLines wanted told from begin (done ++ xs) engine mid.world
  all_run t wanted told from begin done has some =
      subst (λ ls. HasDoneLines wanted told from begin (done ++ ls) engine mid.world) all_tried
      (before.runs t tt wanted told from begin done has some)

  all_crash : tells → (wanted : Shape) (told : List ℕ → ℕ) (from : ℕ) (begin : Pairs) (done : List Line)
      → HasDoneLines wanted told from begin done start old.world → HasNumbersIn start a b
      → AllMoments old mid (CrashHoldsLines (start.log.end.seg + (a + 1)) (number_of start.ckpt.mark + b) wanted start.store.shape begin (done ++ xs))
  all_crash t wanted told from begin done has some =
      subst (λ ls. AllMoments old mid (CrashHoldsLines (start.log.end.seg + (a + 1)) (number_of start.ckpt.mark + b) wanted start.store.shape begin (done ++ ls))) all_tried
      (before.crash t wanted told from begin done has some)

  -- each line took room for one reply
  pub all_spare : was.spare ≤ length xs + between.spare
  all_spare = omega (arith, before.spare tt, before.all)

  -- ---- and calls after them
  module _ (new : History) (number : ℕ) (ys : List Line) (c d : ℕ) (now : FrameRunning) (replies : ReplyList)
      (r : Result (Unit {0}) StoreFault) (more : RunsFrameBatch tells mid new number ys c d engine now between replies r)
      (numbered : number ≡ first + length xs) (e f : ℕ) (takes : TakesNumbersIn start engine e f) (segments checkpoints : ℕ)
      (a_in : a ≤ segments) (b_in : b ≤ checkpoints) (c_in : e + c ≤ segments) (d_in : f + d ≤ checkpoints) where
    abbrev its : Shape
    its = start.store.shape

    abbrev rest : List Line
    rest = take more.tried ys

    abbrev last : ℕ
    last = start.log.end.seg + (segments + 1)

    abbrev most : ℕ
    most = number_of start.ckpt.mark + checkpoints

    abbrev both : List Line
    both = take (length xs + more.tried) (xs ++ ys)

    both_tried : both ≡ xs ++ rest
    both_tried = take-append-add xs ys more.tried

    lines_are : (done : List Line) → (done ++ xs) ++ rest ≡ done ++ both
    lines_are done = append_assoc done xs rest ∙ ap (λ l. done ++ l) (sym both_tried)

    for_first : HasNumbersIn start segments checkpoints → HasNumbersIn start a b
    for_first some = numbers_fewer start segments checkpoints a b some a_in b_in

    for_more : HasNumbersIn start segments checkpoints → HasNumbersIn engine c d
    for_more some = numbers_left start engine segments checkpoints e f c d some takes c_in d_in

    may_first : MayGoOn start old.world segments checkpoints → MayGoOn start old.world a b
    may_first may = may_fewer start old.world segments checkpoints a b may a_in b_in

    pub may_more : tells → MayGoOn start old.world segments checkpoints → MayGoOn engine mid.world c d
    may_more t may = record {
      wanted = may.wanted;
      told = may.told;
      from = may.from;
      start = may.start;
      lines = may.lines ++ xs;
      has = all_run t may.wanted may.told may.from may.start may.lines may.has (for_first may.numbers);
      numbers = for_more may.numbers;
    }

    both_evaluate : tells → StaysOpen r → MayGoOn start old.world segments checkpoints
        → EvaluatesLines its both (pages_in_frames start.store old.world) (pages_in_frames now.store new.world) was replies
    both_evaluate t stays may =
        let one = all_evaluates t (may_first may) in
        let two = subst (λ (s : Shape). EvaluatesLines s rest (pages_in_frames engine.store mid.world) (pages_in_frames now.store new.world) between replies) before.same.shape
        (more.evaluates t stays (may_more t may)) in
        subst (λ ls. EvaluatesLines its ls (pages_in_frames start.store old.world) (pages_in_frames now.store new.world) was replies) (sym both_tried)
        (evaluates_then its xs rest (pages_in_frames start.store old.world) (pages_in_frames engine.store mid.world) (pages_in_frames now.store new.world) was between replies one two)

    -- the accepted ones of these lines, and of those after them
    accepted_more : tells → MayGoOn start old.world segments checkpoints
        → accepted its first xs (map_in start old.world) ++ accepted engine.store.shape number rest (map_in engine mid.world)
        ≡ accepted its first both (map_in start old.world)
    accepted_more t may =
        let pairs = map_in start old.world in
        let one = accepted its first xs pairs in
        let map_is : map_in engine mid.world ≡ after_all its xs pairs =
        ap (λ (s : Shape). pairs_in s.partitions (pages_in_frames engine.store mid.world)) before.same.shape ∙ (all_evaluates t (may_first may)).map in
        ap (λ (s : Shape). one ++ accepted s number rest (map_in engine mid.world)) before.same.shape
        ∙ ap (λ n. one ++ accepted its n rest (map_in engine mid.world)) numbered
        ∙ ap (λ (p : Pairs). one ++ accepted its (first + length xs) rest p) map_is
        ∙ sym (accepted-append its first xs rest pairs)
        ∙ ap (λ ls. accepted its first ls pairs) (sym both_tried)

    both_order : tells → MayGoOn start old.world segments checkpoints
        → now.order ≡ start.order ++ accepted its first both (map_in start old.world)
    both_order t may =
        let pairs = map_in start old.world in
        let one = accepted its first xs pairs in
        let two = accepted engine.store.shape number rest (map_in engine mid.world) in
        more.order t (may_more t may)
        ∙ ap (λ o. o ++ two) (all_order t (may_first may))
        ∙ append_assoc start.order one two
        ∙ ap (λ o. start.order ++ o) (accepted_more t may)

    both_run : tells → StaysOpen r → (wanted : Shape) (told : List ℕ → ℕ) (from : ℕ) (begin : Pairs) (done : List Line)
        → HasDoneLines wanted told from begin done start old.world → HasNumbersIn start segments checkpoints
        → HasDoneLines wanted told from begin (done ++ both) now new.world
    both_run t stays wanted told from begin done has some =
        subst (λ ls. HasDoneLines wanted told from begin ls now new.world) (lines_are done)
        (more.runs t stays wanted told from begin (done ++ xs) (all_run t wanted told from begin done has (for_first some)) (for_more some))

    both_crash : tells → (wanted : Shape) (told : List ℕ → ℕ) (from : ℕ) (begin : Pairs) (done : List Line)
        → HasDoneLines wanted told from begin done start old.world → HasNumbersIn start segments checkpoints
        → AllMoments old new (CrashHoldsLines last most wanted its begin (done ++ both))
    both_crash t wanted told from begin done has some =
        let P : World → Type 0 = CrashHoldsLines last most wanted its begin ((done ++ xs) ++ rest) in
        let one : AllMoments old mid P =
        weaker old mid (CrashHoldsLines last most wanted its begin (done ++ xs)) P
        (λ w holds. crash_wider last most wanted its begin (done ++ xs) rest w holds)
        (moments_further (start.log.end.seg + (a + 1)) (number_of start.ckpt.mark + b) last most wanted its begin (done ++ xs) old mid
        (omega (arith, a_in)) (omega (arith, b_in)) (all_crash t wanted told from begin done has (for_first some))) in
        let two : AllMoments mid new P =
        moments_further (engine.log.end.seg + (c + 1)) (number_of engine.ckpt.mark + d) last most wanted its begin ((done ++ xs) ++ rest) mid new
        (omega (arith, takes.in_log, c_in)) (omega (arith, takes.in_marks, d_in))
        (subst (λ k. AllMoments mid new (CrashHoldsLines (engine.log.end.seg + (c + 1)) (number_of engine.ckpt.mark + d) wanted k begin ((done ++ xs) ++ rest))) before.same.shape
        (more.crash t wanted told from begin (done ++ xs) (all_run t wanted told from begin done has (for_first some)) (for_more some))) in
        subst (λ ls. AllMoments old new (CrashHoldsLines last most wanted its begin ls)) (lines_are done) (joined old mid new P one two)

    both_meet : tells → (may_change : ℕ → Bool) → All (AllowsLine may_change its) (xs ++ ys)
        → KeepsOrMeets tells may_change its (pages_in_frames start.store old.world) (pages_in_frames now.store new.world) (StaysOpen r) (λ id. IsErrOf r (BadPage id))
    both_meet t may_change allows =
        let one = before.meets t may_change (all_first (AllowsLine may_change its) xs ys allows) in
        let two = subst (λ (s : Shape). All (AllowsLine may_change s) ys → KeepsOrMeets tells may_change s (pages_in_frames engine.store mid.world) (pages_in_frames now.store new.world) (StaysOpen r) (λ id. IsErrOf r (BadPage id)))
        before.same.shape (more.meets t may_change) (all_second (AllowsLine may_change its) xs ys allows) in
        meets_then may_change (pages_in_frames start.store old.world) (pages_in_frames engine.store mid.world) (one.keeps tt) tells its (pages_in_frames now.store new.world) (StaysOpen r) (λ id. IsErrOf r (BadPage id)) two

    pub batch_more : (tells → IsHistory mid) → RunsFrameBatch tells old new first (xs ++ ys) segments checkpoints start now was replies r
    batch_more sound = record {
      tried = length xs + more.tried;
      within = omega (arith, more.within, length-append xs ys);
      all = on_ok_weaker r (λ is. ap (λ n. length xs + n) is ∙ sym (length-append xs ys)) more.all;
      same = record {
        shape = more.same.shape ∙ before.same.shape;
        region = more.same.region ∙ before.same.region;
        locks = more.same.locks ∙ before.same.locks;
      };
      is_open = more.is_open;
      closed = more.closed;
      spare = λ stays. omega (arith, more.spare stays, all_spare);
      ends = more.ends;
      clean = more.clean;
      disk = λ t. then_disk old mid new (sound t) (before.disk t) (more.disk t);
      evaluates = both_evaluate;
      order = both_order;
      sound = λ t may id bad. more.sound t (may_more t may) id bad;
      meets = both_meet;
      runs = both_run;
      crash = both_crash;
    }
