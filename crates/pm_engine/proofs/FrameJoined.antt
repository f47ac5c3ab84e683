-- How the parts of a batch over page frames make a batch.
use Rattle.std.proofs.Common.{◌≡◌, ℕ, ◌+◌, ◌-◌, ◌*◌, ◌≤◌, List, [], ◌∷◌, ◌++◌, length, take, Bool, true, false, Some, inl, inr}
use Rattle.std.proofs.Common.{Result, Ok, Err, refl, sym, ◌∙◌, ap, subst, arith, append-nil}
use Rattle.std.specs.Prelude.{drop, slice_get, IfOk, OnOk}
use Rattle.std.proofs.lemmas.Bool.{false≢true}
use Rattle.std.proofs.lemmas.List.{length-take-le, length-drop, take-append-drop, take_all}
use Rattle.std.proofs.lemmas.Option.{same_Some}
use Rattle.std.proofs.Math.Seq.{take-append-add}
use Rattle.std.proofs.lemmas.Result.{on_ok_weaker}
use Rattle.pm_types.specs.declared.fault.StoreFault.{StoreFault}
use Rattle.pm_types.specs.declared.fault.StoreFault.TheVariants.{Memory}
use Rattle.pm_types.specs.declared.fault.Lack.TheVariants.{Frames}
use Rattle.pm_disk.specs.Moments.{History, IsHistory}
use Rattle.pm_disk.proofs.Chain.{started}
use Rattle.pm_segments.specs.Ends.{EndsThere}
use Rattle.pm_model.specs.declared.line.Cmd.TheVariants.{Checkpoint}
use Rattle.pm_model.specs.declared.line.Line.{Line}
use Rattle.pm_model.specs.declared.line.Line.TheVariants.{Good}
use Rattle.pm_model.specs.declared.reply.Reply.TheVariants.{Done}
use Rattle.pm_model.specs.ReplyLists.{ReplyList, with_replies}
use Rattle.pm_engine.specs.FrameBatches.{TakesNumbersIn, MakesAskedIn, EndsAtReplayIn, RunsFrameBatch, ChecksBetween, RunsPart, TriesLines, RunsAllParts}
use Rattle.pm_engine.specs.FrameBatches.{LeavesAllLastingIn, LeavesAllAtRest, LacksIfNone}
use Rattle.pm_engine.specs.Engines.{FrameRunning, HasLastingLinesIn}
use Rattle.pm_engine.specs.FrameHosts.{ChangesNoWorld}
use Rattle.pm_engine.specs.FrameStores.{HasCleanPages}
use Rattle.pm_engine.specs.Batches.{StaysOpen, is_checkpoint, checkpoints_in, asked_last}
use Rattle.pm_engine.specs.RunningStores.{number_of}
use Rattle.pm_engine.proofs.FrameBatchCalls.{keeps_itself, kept_none, kept_line}
use Rattle.pm_engine.proofs.FrameBatching.{numbers_none, numbers_more, numbers_left, numbers_wider, numbers_fewer, batch_wider, batch_part, batch_lacks, batch_more, all_run, all_spare}
use Rattle.pm_engine.proofs.FrameParts.{last_no_checkpoint}

-- ---- the checkpoints that lines ask for

checkpoints-append : (xs ys : List Line) → checkpoints_in (xs ++ ys) ≡ checkpoints_in xs + checkpoints_in ys
checkpoints-append [] ys = omega arith
checkpoints-append (x ∷ xs) ys = omega (arith, checkpoints-append xs ys)

asked_last-append : (was : Bool) (xs ys : List Line) → asked_last was (xs ++ ys) ≡ asked_last (asked_last was xs) ys
asked_last-append was [] ys = refl
asked_last-append was (x ∷ xs) ys = asked_last-append (is_checkpoint x) xs ys

pub asked_nothing : (engine : FrameRunning) (most : ℕ) → MakesAskedIn engine engine [] most
asked_nothing engine most = record { made = λ some. omega arith; last = λ was ends is. ends is }

pub asked_more : (before mid now : FrameRunning) (a b d : ℕ) → TakesNumbersIn before mid a b
    → (xs ys : List Line) → MakesAskedIn before mid xs b → MakesAskedIn mid now ys d
    → (most : ℕ) → b + d ≤ most → MakesAskedIn before now (xs ++ ys) most
asked_more before mid now a b d takes xs ys one two most within = record {
  made = λ some.
      let first : number_of before.ckpt.mark + checkpoints_in xs ≤ number_of mid.ckpt.mark = one.made (omega (arith, some, within)) in
      let then_on : number_of mid.ckpt.mark + checkpoints_in ys ≤ number_of now.ckpt.mark = two.made (omega (arith, some, within, takes.in_marks)) in
      omega (arith, first, then_on, checkpoints-append xs ys);
  last = λ was ends is.
      two.last (asked_last was xs) (λ mid_is. one.last was ends mid_is) (sym (asked_last-append was xs ys) ∙ is);
}

pub asked_wider : (before now : FrameRunning) (lines : List Line) (b most : ℕ) → MakesAskedIn before now lines b → b ≤ most
    → MakesAskedIn before now lines most
asked_wider before now lines b most asked within = record { made = λ some. asked.made (omega (arith, some, within)); last = asked.last }

-- lines of which none asked for one
none_asked : (before now : FrameRunning) (lines : List Line) (a b : ℕ) → TakesNumbersIn before now a b → checkpoints_in lines ≡ 0 → 1 ≤ length lines
    → MakesAskedIn before now lines b
none_asked before now lines a b takes none some = record {
  made = λ few. omega (arith, none, takes.risen few);
  last = λ was ends is. absurd (false≢true (sym (last_no_checkpoint lines was none some) ∙ is));
}

-- lines, at least one, after a call that made no checkpoint that was asked for
asked_after : (before mid now : FrameRunning) (a b d : ℕ) → TakesNumbersIn before mid a b → (lines : List Line) → 1 ≤ length lines
    → MakesAskedIn mid now lines d → (most : ℕ) → b + d ≤ most → MakesAskedIn before now lines most
asked_after before mid now a b d takes [] some asked most within = absurd (omega (arith, some))
asked_after before mid now a b d takes (line ∷ lines) some asked most within = record {
  made = λ few.
      let risen : number_of before.ckpt.mark ≤ number_of mid.ckpt.mark = takes.risen (omega (arith, few, within)) in
      let then_on : number_of mid.ckpt.mark + checkpoints_in (line ∷ lines) ≤ number_of now.ckpt.mark = asked.made (omega (arith, few, within, takes.in_marks)) in
      omega (arith, risen, then_on);
  last = λ was ends is. asked.last false (λ never. absurd (false≢true never)) is;
}

-- ---- one part

none_first : (lines : List Line) → take 0 lines ≡ []
none_first [] = refl
none_first (line ∷ lines) = refl

module _ (tells : Type 0) (old new : History) (first : ℕ) (lines : List Line) (start now : FrameRunning) (was replies : ReplyList) where
  -- lines that were tried, at least one
  pub part_of_tries : (r : Result ℕ StoreFault) → TriesLines tells old new first lines start now was replies r → IfOk r (λ count. 1 ≤ count)
      → RunsPart tells old new first lines start now was replies r
  part_of_tries (Ok count) tries some =
      let long : length (take count lines) ≡ count = length-take-le count lines tries.inside in
      record {
        some = some;
        inside = tries.inside;
        runs = batch_wider tells old new first (take count lines) (33 * length lines) 0 (34 * length lines) (length lines) start now was replies (Ok tt) tries.runs (omega arith) (omega arith);
        numbers = λ stays. numbers_wider start now (33 * count) 0 (tries.numbers tt) (34 * length (take count lines)) (length (take count lines)) (omega (arith, long)) (omega arith);
        asked = none_asked start now (take count lines) (33 * count) (length (take count lines))
            (numbers_wider start now (33 * count) 0 (tries.numbers tt) (33 * count) (length (take count lines)) (omega arith) (omega arith)) tries.none_asked (omega (arith, long, some));
      }
  part_of_tries (Err fault) tries some = record {
    some = tt;
    inside = tt;
    runs = batch_wider tells old new first lines (33 * length lines) 0 (34 * length lines) (length lines) start now was replies (Err fault) tries.runs (omega arith) (omega arith);
    numbers = λ stays. numbers_wider start now 0 0 (tries.numbers stays) (34 * length lines) (length lines) (omega arith) (omega arith);
    asked = tt;
  }

  -- a checkpoint that failed
  pub part_unmade : (fault : StoreFault) → ChecksBetween tells old new start now (Err fault) → 1 ≤ length lines
      → RunsPart tells old new first lines start now was was (Err fault)
  part_unmade fault checks some = record {
    some = tt;
    inside = tt;
    runs = batch_part tells old new first [] lines 1 1 (34 * length lines) (length lines) start now was was fault (checks.runs first was) (omega (arith, some)) some;
    numbers = λ stays. numbers_wider start now 1 1 (checks.numbers stays) (34 * length lines) (length lines) (omega (arith, some)) some;
    asked = tt;
  }

-- nothing was done, and then a part
module _ (tells : Type 0) (old mid new : History) (first : ℕ) (lines : List Line) (start engine now : FrameRunning) (was between replies : ReplyList)
    (sound : tells → IsHistory mid) (tries : TriesLines tells old mid first lines start engine was between (Ok 0)) where
  first_none : RunsFrameBatch tells old mid first [] (33 * length lines) 0 start engine was between (Ok tt)
  first_none = subst (λ ls. RunsFrameBatch tells old mid first ls (33 * length lines) 0 start engine was between (Ok tt)) (none_first lines) tries.runs

  then_more : (ys : List Line) (q : Result (Unit {0}) StoreFault) → RunsFrameBatch tells mid new first ys (34 * length lines) (length lines) engine now between replies q
      → RunsFrameBatch tells old new first ys (34 * length lines) (length lines) start now was replies q
  then_more ys q more = batch_more tells old mid first [] (33 * length lines) 0 start engine was between first_none new first ys (34 * length lines) (length lines) now replies q more
      (omega arith) 0 0 (tries.numbers tt) (34 * length lines) (length lines) (omega arith) (omega arith) (omega arith) (omega arith) sound

  pub part_after_none : (r : Result ℕ StoreFault) → RunsPart tells mid new first lines engine now between replies r → RunsPart tells old new first lines start now was replies r
  part_after_none (Ok count) its =
      let long : length (take count lines) ≡ count = length-take-le count lines its.inside in
      record {
        some = its.some;
        inside = its.inside;
        runs = then_more (take count lines) (Ok tt) its.runs;
        numbers = λ stays. numbers_more start engine now 0 0 (34 * length (take count lines)) (length (take count lines)) (tries.numbers tt) (its.numbers tt) (34 * length (take count lines)) (length (take count lines)) (omega arith) (omega arith);
        asked = asked_after start engine now 0 0 (length (take count lines)) (tries.numbers tt) (take count lines) (omega (arith, long, its.some)) its.asked (length (take count lines)) (omega arith);
      }
  part_after_none (Err fault) its = record {
    some = tt;
    inside = tt;
    runs = then_more lines (Err fault) its.runs;
    numbers = λ stays. numbers_more start engine now 0 0 (34 * length lines) (length lines) (tries.numbers tt) (its.numbers stays) (34 * length lines) (length lines) (omega arith) (omega arith);
    asked = tt;
  }

-- a checkpoint, and then lines that were tried
module _ (tells : Type 0) (old mid new : History) (first : ℕ) (lines : List Line) (start engine now : FrameRunning) (was replies : ReplyList)
    (sound : tells → IsHistory mid) (checks : ChecksBetween tells old mid start engine (Ok tt)) (some : 1 ≤ length lines) where
  then_tries : (ys : List Line) (q : Result (Unit {0}) StoreFault) → RunsFrameBatch tells mid new first ys (33 * length lines) 0 engine now was replies q
      → RunsFrameBatch tells old new first ys (34 * length lines) (length lines) start now was replies q
  then_tries ys q more = batch_more tells old mid first [] 1 1 start engine was was (checks.runs first was) new first ys (33 * length lines) 0 now replies q more
      (omega arith) 1 1 (checks.numbers tt) (34 * length lines) (length lines) (omega (arith, some)) some (omega (arith, some)) (omega (arith, some)) sound

  pub part_after_checkpoint : (tried r : Result ℕ StoreFault) → TriesLines tells mid new first lines engine now was replies tried → LacksIfNone tried r
      → RunsPart tells old new first lines start now was replies r
  part_after_checkpoint (Ok count) r tries (inl lacks) =
      subst (λ (q : Result ℕ StoreFault). RunsPart tells old new first lines start now was replies q) (sym lacks.1) (record {
        some = tt;
        inside = tt;
        runs = then_tries lines (Err (Memory Frames)) (subst (λ ls. RunsFrameBatch tells mid new first ls (33 * length lines) 0 engine now was replies (Err (Memory Frames))) (take-append-drop count lines)
            (batch_lacks tells mid new first (take count lines) (drop count lines) (33 * length lines) 0 (33 * length lines) 0 engine now was replies tries.runs (omega arith) (omega arith)));
        numbers = λ stays. numbers_more start engine now 1 1 (33 * count) 0 (checks.numbers tt) (tries.numbers tt) (34 * length lines) (length lines) (omega (arith, some, lacks.0)) (omega (arith, some));
        asked = tt;
      })
  part_after_checkpoint (Ok count) r tries (inr done) =
      let long : length (take count lines) ≡ count = length-take-le count lines tries.inside in
      subst (λ (q : Result ℕ StoreFault). RunsPart tells old new first lines start now was replies q) (sym done.1) (record {
        some = done.0;
        inside = tries.inside;
        runs = then_tries (take count lines) (Ok tt) tries.runs;
        numbers = λ stays. numbers_more start engine now 1 1 (33 * count) 0 (checks.numbers tt) (tries.numbers tt) (34 * length (take count lines)) (length (take count lines))
            (omega (arith, long, done.0)) (omega (arith, long, done.0));
        asked = asked_after start engine now 1 1 0 (checks.numbers tt) (take count lines) (omega (arith, long, done.0))
            (none_asked engine now (take count lines) (33 * count) 0 (tries.numbers tt) tries.none_asked (omega (arith, long, done.0))) (length (take count lines)) (omega (arith, long, done.0));
      })
  part_after_checkpoint (Err fault) r tries is =
      subst (λ (q : Result ℕ StoreFault). RunsPart tells old new first lines start now was replies q) (sym is) (record {
        some = tt;
        inside = tt;
        runs = then_tries lines (Err fault) tries.runs;
        numbers = λ stays. numbers_more start engine now 1 1 0 0 (checks.numbers tt) (tries.numbers stays) (34 * length lines) (length lines) (omega (arith, some)) (omega (arith, some));
        asked = tt;
      })

-- a checkpoint that a line asked for
head_is : (lines : List Line) (line : Line) → slice_get lines 0 ≡ Some line → take 1 lines ≡ line ∷ []
head_is [] line at = absurd (cc at)
head_is (one ∷ []) line at = ap (λ (l : Line). l ∷ []) (same_Some one line at)
head_is (one ∷ other ∷ lines) line at = ap (λ (l : Line). l ∷ []) (same_Some one line at)

pub some_lines : (lines : List Line) (line : Line) → slice_get lines 0 ≡ Some line → 1 ≤ length lines
some_lines [] line at = absurd (cc at)
some_lines (one ∷ lines) line at = omega arith

pub checkpoint_answered : (tells : Type 0) (old new : History) (first : ℕ) (lines : List Line) (start now : FrameRunning) (was replies : ReplyList)
    → (tells → IsHistory new) → ChecksBetween tells old new start now (Ok tt) → slice_get lines 0 ≡ Some (Good Checkpoint) → replies ≡ with_replies (Done ∷ []) was
    → RunsPart tells old new first lines start now was replies (Ok 1)
checkpoint_answered tells old new first lines start now was replies sound checks at replied =
    let line : Line = Good Checkpoint in
    let one : take 1 lines ≡ line ∷ [] = head_is lines line at in
    let some = some_lines lines line at in
    let long : length (take 1 lines) ≡ 1 = ap length one in
    let before = checks.runs first was in
    let opens : now.store.is_open ≡ true = before.is_open tt in
    let still : tells → ChangesNoWorld new new = λ t. record { world = refl; moments = started new (λ w. w ≡ new.world) (sound t) refl } in
    let keeps = keeps_itself tells new new now now refl still (λ t. before.clean t tt) in
    let answered : RunsFrameBatch tells new new first (line ∷ []) 0 0 now now was replies (Ok tt) =
    kept_line tells new new now now keeps first 0 0 line was replies opens (λ t. before.ends t tt) (omega (arith, ap (λ (l : ReplyList). l.spare) replied))
    (λ shape pairs. refl) (λ shape pairs number. refl) (λ t may. replied) in
    let both : RunsFrameBatch tells old new first (line ∷ []) (34 * length lines) (length lines) start now was replies (Ok tt) =
    batch_more tells old new first [] 1 1 start now was was before new first (line ∷ []) 0 0 now replies (Ok tt) answered
    (omega arith) 1 1 (checks.numbers tt) (34 * length lines) (length lines) (omega (arith, some)) some (omega (arith, some)) (omega (arith, some)) sound in
    record {
      some = omega arith;
      inside = some;
      runs = subst (λ ls. RunsFrameBatch tells old new first ls (34 * length lines) (length lines) start now was replies (Ok tt)) (sym one) both;
      numbers = λ stays. numbers_wider start now 1 1 (checks.numbers tt) (34 * length (take 1 lines)) (length (take 1 lines)) (omega (arith, long)) (omega (arith, long));
      asked = subst (λ ls. MakesAskedIn start now ls (length ls)) (sym one) (record { made = checks.made; last = λ was_asked ends is. checks.ends });
    }

-- ---- one part after the other

-- the others, as a slice of them
pub rest_is : (lines : List Line) (i : ℕ) → take (length lines - i) (drop i lines) ≡ drop i lines
rest_is lines i = take_all (length lines - i) (drop i lines) (omega (arith, length-drop i lines))

-- The lines up to this one were run.
pub record PartsSoFar (tells : Type 0) (old new : History) (first : ℕ) (lines : List Line) (i : ℕ) (start engine : FrameRunning) (was replies : ReplyList) : Type 0 where
  pub inside : i ≤ length lines
  pub runs : RunsFrameBatch tells old new first (take i lines) (34 * length lines) (length lines) start engine was replies (Ok tt)
  pub numbers : TakesNumbersIn start engine (34 * i) i
  pub asked : MakesAskedIn start engine (take i lines) i

pub parts_begin : (tells : Type 0) (old : History) (first : ℕ) (lines : List Line) (start : FrameRunning) (list : ReplyList) → (tells → IsHistory old)
    → start.store.is_open ≡ true → (tells → EndsThere start.log old.world) → (tells → HasCleanPages start.store old.world)
    → PartsSoFar tells old old first lines 0 start start list list
parts_begin tells old first lines start list sound opens ends_there clean =
    let still : tells → ChangesNoWorld old old = λ t. record { world = refl; moments = started old (λ w. w ≡ old.world) (sound t) refl } in
    let keeps = keeps_itself tells old old start start refl still clean in
    record {
      inside = omega arith;
      runs = subst (λ ls. RunsFrameBatch tells old old first ls (34 * length lines) (length lines) start start list list (Ok tt)) (sym (none_first lines))
          (kept_none tells old old start start keeps first (34 * length lines) (length lines) list (Ok tt) (λ stays. opens) (λ shut. absurd (shut tt)) ends_there (λ t may id bad. absurd (cc bad)) (λ t may_change id bad. absurd (cc bad)) refl);
      numbers = numbers_none start (34 * 0) 0;
      asked = subst (λ ls. MakesAskedIn start start ls 0) (sym (none_first lines)) (asked_nothing start 0);
    }

module _ (tells : Type 0) (old mid new : History) (first : ℕ) (lines : List Line) (i : ℕ) (start engine now : FrameRunning) (was between replies : ReplyList)
    (sound : tells → IsHistory mid) (so_far : PartsSoFar tells old mid first lines i start engine was between) (number : ℕ) (numbered : number ≡ first + i) where
  abbrev rest : List Line
  rest = drop i lines

  left : i + length rest ≡ length lines
  left = omega (arith, length-drop i lines, so_far.inside)

  taken : length (take i lines) ≡ i
  taken = length-take-le i lines so_far.inside

  and_more : (ys : List Line) (q : Result (Unit {0}) StoreFault) → RunsFrameBatch tells mid new number ys (34 * length rest) (length rest) engine now between replies q
      → RunsFrameBatch tells old new first (take i lines ++ ys) (34 * length lines) (length lines) start now was replies q
  and_more ys q more = batch_more tells old mid first (take i lines) (34 * length lines) (length lines) start engine was between so_far.runs new number ys (34 * length rest) (length rest) now replies q more
      (omega (arith, numbered, taken)) (34 * i) i so_far.numbers (34 * length lines) (length lines) (omega arith) (omega arith) (omega (arith, left)) (omega (arith, left)) sound

  -- there is room for the replies to the others
  pub parts_room : length lines ≤ was.spare → length rest ≤ between.spare
  parts_room room = omega (arith, left, taken, room, all_spare tells old mid first (take i lines) (34 * length lines) (length lines) start engine was between so_far.runs)

  pub parts_more : (count : ℕ) → RunsPart tells mid new number rest engine now between replies (Ok count) → PartsSoFar tells old new first lines (i + count) start now was replies
  parts_more count part =
      let so_many : i + count ≡ length (take i lines) + count = omega (arith, taken) in
      let more : take (i + count) lines ≡ take i lines ++ take count rest =
      ap (λ k. take k lines) so_many ∙ ap (take (length (take i lines) + count)) (sym (take-append-drop i lines)) ∙ take-append-add (take i lines) rest count in
      let long : length (take count rest) ≡ count = length-take-le count rest part.inside in
      record {
        inside = omega (arith, left, part.inside);
        runs = subst (λ ls. RunsFrameBatch tells old new first ls (34 * length lines) (length lines) start now was replies (Ok tt)) (sym more) (and_more (take count rest) (Ok tt) part.runs);
        numbers = numbers_more start engine now (34 * i) i (34 * length (take count rest)) (length (take count rest)) so_far.numbers (part.numbers tt) (34 * (i + count)) (i + count) (omega (arith, long)) (omega (arith, long));
        asked = subst (λ ls. MakesAskedIn start now ls (i + count)) (sym more)
            (asked_more start engine now (34 * i) i (length (take count rest)) so_far.numbers (take i lines) (take count rest) so_far.asked part.asked (i + count) (omega (arith, long)));
      }

  pub parts_stop : (fault : StoreFault) → RunsPart tells mid new number rest engine now between replies (Err fault) → RunsAllParts tells old new first lines start now was replies (Err fault)
  parts_stop fault part = record {
    runs = subst (λ ls. RunsFrameBatch tells old new first ls (34 * length lines) (length lines) start now was replies (Err fault)) (take-append-drop i lines) (and_more rest (Err fault) part.runs);
    numbers = λ stays. numbers_more start engine now (34 * i) i (34 * length rest) (length rest) so_far.numbers (part.numbers stays) (34 * length lines) (length lines) (omega (arith, left)) (omega (arith, left));
    asked = tt;
  }

pub parts_end : (tells : Type 0) (old new : History) (first : ℕ) (lines : List Line) (i : ℕ) (start now : FrameRunning) (was replies : ReplyList)
    → PartsSoFar tells old new first lines i start now was replies → length lines ≤ i → RunsAllParts tells old new first lines start now was replies (Ok tt)
parts_end tells old new first lines i start now was replies so_far past =
    let all : take i lines ≡ lines = take_all i lines past in
    record {
      runs = subst (λ ls. RunsFrameBatch tells old new first ls (34 * length lines) (length lines) start now was replies (Ok tt)) all so_far.runs;
      numbers = λ stays. numbers_wider start now (34 * i) i so_far.numbers (34 * length lines) (length lines) (omega (arith, so_far.inside)) so_far.inside;
      asked = asked_wider start now lines i (length lines) (subst (λ ls. MakesAskedIn start now ls i) all so_far.asked) so_far.inside;
    }

-- ---- and a force with a checkpoint where one is due

module _ (tells : Type 0) (old mid new : History) (first : ℕ) (lines : List Line) (start engine now : FrameRunning) (was replies : ReplyList) (r : Result (Unit {0}) StoreFault)
    (sound : tells → IsHistory mid) (parts : RunsAllParts tells old mid first lines start engine was replies (Ok tt)) where
  pub ended_runs : ((number : ℕ) (list : ReplyList) → RunsFrameBatch tells mid new number [] 1 1 engine now list list r)
      → RunsFrameBatch tells old new first lines (34 * length lines + 1) (length lines + 1) start now was replies r
  ended_runs ends =
      subst (λ ls. RunsFrameBatch tells old new first ls (34 * length lines + 1) (length lines + 1) start now was replies r) (append-nil lines)
      (batch_more tells old mid first lines (34 * length lines) (length lines) start engine was replies parts.runs new (first + length lines) [] 1 1 now replies r (ends (first + length lines) replies)
      refl (34 * length lines) (length lines) (parts.numbers tt) (34 * length lines + 1) (length lines + 1) (omega arith) (omega arith) (omega arith) (omega arith) sound)

  pub ended_lasts : LeavesAllLastingIn tells mid new [] 1 1 engine now r → LeavesAllLastingIn tells old new lines (34 * length lines + 1) (length lines + 1) start now r
  ended_lasts lasts t wanted told from begin done has some =
      let mine = all_run tells old mid first lines (34 * length lines) (length lines) start engine was replies parts.runs t wanted told from begin done has
      (numbers_fewer start (34 * length lines + 1) (length lines + 1) (34 * length lines) (length lines) some (omega arith) (omega arith)) in
      on_ok_weaker r (λ its. subst (λ ls. HasLastingLinesIn wanted told from begin ls now new.world) (append-nil (done ++ lines)) its)
      (lasts t wanted told from begin (done ++ lines) mine
      (numbers_left start engine (34 * length lines + 1) (length lines + 1) (34 * length lines) (length lines) 1 1 some (parts.numbers tt) (omega arith) (omega arith)))

  pub ended_rests : LeavesAllAtRest tells mid new 1 1 engine now r → LeavesAllAtRest tells old new (34 * length lines + 1) (length lines + 1) start now r
  ended_rests rests t wanted told from begin done has some =
      let mine = all_run tells old mid first lines (34 * length lines) (length lines) start engine was replies parts.runs t wanted told from begin done has
      (numbers_fewer start (34 * length lines + 1) (length lines + 1) (34 * length lines) (length lines) some (omega arith) (omega arith)) in
      rests t wanted told from begin (done ++ lines) mine
      (numbers_left start engine (34 * length lines + 1) (length lines + 1) (34 * length lines) (length lines) 1 1 some (parts.numbers tt) (omega arith) (omega arith))

  pub ended_numbers : (StaysOpen r → TakesNumbersIn engine now 1 1) → StaysOpen r → TakesNumbersIn start now (34 * length lines + 1) (length lines + 1)
  ended_numbers takes stays = numbers_more start engine now (34 * length lines) (length lines) 1 1 (parts.numbers tt) (takes stays) (34 * length lines + 1) (length lines + 1) (omega arith) (omega arith)

pub ended_asked : (tells : Type 0) (old mid : History) (first : ℕ) (lines : List Line) (start engine now : FrameRunning) (was replies : ReplyList) (r : Result (Unit {0}) StoreFault)
    → RunsAllParts tells old mid first lines start engine was replies (Ok tt) → (StaysOpen r → TakesNumbersIn engine now 1 1) → OnOk r (EndsAtReplayIn engine → EndsAtReplayIn now)
    → OnOk r (MakesAskedIn start now lines (length lines + 1))
ended_asked tells old mid first lines start engine now was replies (Ok done) parts takes still =
    subst (λ ls. MakesAskedIn start now ls (length lines + 1)) (append-nil lines)
    (asked_more start engine now (34 * length lines) (length lines) 1 (parts.numbers tt) lines [] parts.asked
    (record { made = λ some. omega (arith, (takes tt).risen some); last = λ asked ends is. still (ends is) }) (length lines + 1) (omega arith))
ended_asked tells old mid first lines start engine now was replies (Err fault) parts takes still = tt

-- a fault came before
pub unended_runs : (tells : Type 0) (old new : History) (first : ℕ) (lines : List Line) (start now : FrameRunning) (was replies : ReplyList) (fault : StoreFault)
    → RunsAllParts tells old new first lines start now was replies (Err fault) → RunsFrameBatch tells old new first lines (34 * length lines + 1) (length lines + 1) start now was replies (Err fault)
unended_runs tells old new first lines start now was replies fault parts =
    batch_wider tells old new first lines (34 * length lines) (length lines) (34 * length lines + 1) (length lines + 1) start now was replies (Err fault) parts.runs (omega arith) (omega arith)

pub unended_numbers : (tells : Type 0) (old new : History) (first : ℕ) (lines : List Line) (start now : FrameRunning) (was replies : ReplyList) (fault : StoreFault)
    → RunsAllParts tells old new first lines start now was replies (Err fault) → StaysOpen (Err fault) → TakesNumbersIn start now (34 * length lines + 1) (length lines + 1)
unended_numbers tells old new first lines start now was replies fault parts stays =
    numbers_wider start now (34 * length lines) (length lines) (parts.numbers stays) (34 * length lines + 1) (length lines + 1) (omega arith) (omega arith)
