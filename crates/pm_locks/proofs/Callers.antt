-- What a worker, the flusher and a caller for all numbers know of the frames that they take and put back.
use Rattle.std.proofs.Common.{◌≡◌, ◌≢◌, ℕ, ◌⊎◌, List, ◌∷◌, Some, None, true, false, refl, sym, ap, ◌∙◌, subst, inl, inr, ⊎_elim, arith}
use Rattle.pm_types.specs.declared.flag.Flag.{Flag}
use Rattle.pm_types.specs.declared.flag.Flag.TheVariants as flag
use Rattle.pm_region.specs.Lease.{Leased}
use Rattle.pm_locks.specs.Words.{LockWord, AT_HOME, FLUSHER, IsSpare, held_by, put_as}
use Rattle.pm_locks.specs.declared.view.Numbers.{Numbers}
use Rattle.pm_locks.specs.declared.view.Entry.{Entry}
use Rattle.pm_locks.specs.declared.view.Out.{Out}
use Rattle.pm_locks.specs.declared.view.View.{View}
use Rattle.pm_locks.specs.declared.own.Take.TheVariants as take
use Rattle.pm_locks.specs.declared.flush.FlushTake.TheVariants as flushed
use Rattle.pm_locks.specs.Rule.{HasImage, HasTakenImage}
use Rattle.pm_locks.specs.Sight.{LockTable, KnowsAll}
use Rattle.pm_locks.specs.Views.{is_among, Has, IsStill, HasLeft, left_at, entry_at, entry_or, out_at, due_at, word_at, word_or, known_at, worker_alone, flusher_alone}
use Rattle.pm_locks.specs.Steps.{meets, put_back, flushed_back, due_as, out_as, IsTold}
use Rattle.pm_locks.specs.Answers.{OwnTakeAnswer, FlushTakeAnswer, IsOwnOut, IsSameLease, MayPut, out_of}
use Rattle.pm_locks.proofs.Numbering.{among, is_one, whole_has}
use Rattle.pm_locks.proofs.Facts.{entry_put, out_taken, out_at-here, left_is, due_at-here, word_at-here, word_at-else, still_again, not_gone}

flag_not : true ≡ false → ⊥
flag_not e = cc e

-- a worker's seat stands for its number and no other
pub has_alone : (l : Numbers) (n : ℕ) → l ≡ worker_alone n → is_among l n ≡ true
has_alone l n alone = ap (λ (z : Numbers). is_among z n) alone ∙ is_one (worker_alone n) n (inl (omega arith, omega arith))

pub is_alone : (l : Numbers) (n m : ℕ) → l ≡ worker_alone n → is_among l m ≡ true → m ≡ n
is_alone l n m alone has = ⊎_elim (λ p. let a = p.0 in let b = p.1 in omega arith) (λ p. absurd (flag_not (sym p.1)))
    (among (worker_alone n) m (ap (λ (z : Numbers). is_among z m) (sym alone) ∙ has))

-- the flusher's seat stands for the flusher
pub has_flusher : (l : Numbers) (workers : ℕ) → l ≡ flusher_alone workers → is_among l FLUSHER ≡ true
has_flusher l workers alone = ap (λ (z : Numbers). is_among z FLUSHER) alone ∙ is_one (flusher_alone workers) FLUSHER (inr (refl, refl))

-- the entry of a worker that put a frame
abbrev pub put_entry : ℕ → ℕ → ℕ → List ℕ → Flag → Entry
put_entry n f tag bytes now = record { number = n; frame = f; tag = tag; bytes = bytes; flag = now }

-- a worker takes its frame and puts it back: that is what it left there
pub put_left : (n : ℕ) (v v' v'' : View) (f tag : ℕ) (lease : Leased) (told now : Flag) (bytes : List ℕ) → v.numbers ≡ worker_alone n
    → OwnTakeAnswer v v' f tag (take.Got lease told) → v'' ≡ put_back v' f (put_as now (out_of v' f).word) bytes
    → entry_at v''.entries n f ≡ Some (put_entry n f tag bytes now)
put_left n v v' v'' f tag lease told now bytes alone got put =
    let w = got.word in
    let owner : w.owner ≡ n = is_alone v.numbers n w.owner alone got.mine.owner in
    ap (λ k. entry_at v''.entries k f) (sym owner)
    ∙ entry_put (meets v f w) v' v'' f w lease now bytes got.view put
    ∙ (λ i. Some (record { number = owner i; frame = f; tag = got.mine.same i; bytes = bytes; flag = now }))

pub left_as : (v : View) (n f tag : ℕ) (bytes : List ℕ) (now : Flag) → entry_at v.entries n f ≡ Some (put_entry n f tag bytes now) → HasLeft v n f tag now × ((left_at v n f).bytes ≡ bytes)
left_as v n f tag bytes now at =
    let is = left_is v n f (put_entry n f tag bytes now) at in (
      record { at = at ∙ ap Some (sym is); tag_is = ap (λ (e : Entry). e.tag) is; flag_is = ap (λ (e : Entry). e.flag) is },
      ap (λ (e : Entry). e.bytes) is,
    )

not_empty : flag.Dirty ≡ flag.Empty → ⊥
not_empty e = cc e

not_clean : flag.Dirty ≡ flag.Clean → ⊥
not_clean e = cc e

-- a frame that its worker left Dirty isn't gone
pub dirty_not_gone : (v v' : View) (n f tag : ℕ) → v.numbers ≡ worker_alone n → HasLeft v n f tag flag.Dirty → OwnTakeAnswer v v' f tag take.Gone → ⊥
dirty_not_gone v v' n f tag alone x gone =
    not_gone v v' n f tag (left_at v n f) (has_alone v.numbers n alone) x.at x.tag_is
    (λ spare. ⊎_elim (λ e. not_empty (sym x.flag_is ∙ e)) (λ e. not_clean (sym x.flag_is ∙ e)) spare) gone

-- what the flusher puts as Due has its image, which isn't taken yet
pub due_put : (v v' v'' : View) (f tag : ℕ) (want : Flag) (lease : Leased) → FlushTakeAnswer v v' f tag want (flushed.Got lease) → v'' ≡ flushed_back v' f (put_as flag.Due (out_of v' f).word) lease.bytes
    → HasImage (due_at v''.dues f) tag lease.bytes
due_put v v' v'' f tag want lease got put =
    let w = got.word in
    let word : (out_of v' f).word ≡ held_by FLUSHER w = ap (λ (o : Out). o.word) (out_taken (meets v f w) v' f w (held_by FLUSHER w) lease got.view) in
    let d = due_as (put_as flag.Due (out_of v' f).word) lease.bytes in
    (d, ap (λ (u : View). due_at u.dues f) put ∙ due_at-here v'.dues f d, ap (λ (u : LockWord). u.tag) word ∙ got.wanted.same, refl)

-- what it puts as Done has it, and it is taken
pub done_put : (v v' v'' : View) (f tag : ℕ) (want : Flag) (lease : Leased) → FlushTakeAnswer v v' f tag want (flushed.Got lease) → v'' ≡ flushed_back v' f (put_as flag.Done (out_of v' f).word) lease.bytes
    → HasTakenImage (due_at v''.dues f) tag lease.bytes
done_put v v' v'' f tag want lease got put =
    let w = got.word in
    let word : (out_of v' f).word ≡ held_by FLUSHER w = ap (λ (o : Out). o.word) (out_taken (meets v f w) v' f w (held_by FLUSHER w) lease got.view) in
    let d = due_as (put_as flag.Done (out_of v' f).word) lease.bytes in
    (d, ap (λ (u : View). due_at u.dues f) put ∙ due_at-here v'.dues f d, ap (λ (u : LockWord). u.tag) word ∙ got.wanted.same, refl, refl)

-- a Due frame that the flusher took has the image that is due
pub due_image : (v v' : View) (f tag : ℕ) (lease : Leased) → Has v FLUSHER → FlushTakeAnswer v v' f tag flag.Due (flushed.Got lease) → HasImage (due_at v.dues f) tag lease.bytes
due_image v v' f tag lease has got = subst (λ t. HasImage (due_at v.dues f) t lease.bytes) got.wanted.same (got.backed.due has got.wanted.flag)

none_out : (o : Out) → None ≡ Some o → ⊥
none_out o e = cc e

-- a seat that knows all words and has nothing out finds each frame at home, with the word that it knows
pub word_home : (locks : LockTable) (v : View) (f : ℕ) (word : LockWord) → KnowsAll locks v → IsStill v → IsTold v f word → word.holder ≡ AT_HOME
word_home locks v f word knows still told = ⊎_elim (λ e. e) (λ has. let o = told.held has in absurd (none_out o.0 (sym (still f) ∙ o.1))) (told.home knows.whole)

-- each frame is its own then
pub all_mine : (locks : LockTable) (v : View) (f : ℕ) (word : LockWord) → KnowsAll locks v → IsTold v f word → Has v word.owner
all_mine locks v f word knows told = whole_has v word.owner knows.whole (inl (told.worker FLUSHER (whole_has v FLUSHER knows.whole (inr refl))))

-- after a step at one frame that left a word there, the seat knows that word, and of other frames what it knew
pub known_here : (v : View) (f : ℕ) (w : LockWord) (ws : List (ℕ × LockWord)) → v.words ≡ (f, w) ∷ ws → known_at v f ≡ w
known_here v f w ws is = ap word_or (ap (λ l. word_at l f) is ∙ word_at-here ws f w)

pub known_else : (v v' : View) (f : ℕ) (w : LockWord) → v'.words ≡ (f, w) ∷ v.words → (g : ℕ) → g ≢ f → known_at v' g ≡ known_at v g
known_else v v' f w is g ne = ap word_or (ap (λ l. word_at l g) is ∙ word_at-else v.words f w g ne)

-- what may be put: Dirty always, Empty or Clean where the frame was so, and Clean where it was Done and has the bytes that it had
pub may_put_dirty : (o : Out) (bytes : List ℕ) → MayPut o flag.Dirty bytes
may_put_dirty o bytes = record {
  dirty = λ _. refl;
  changed = λ _ _. refl;
  due = λ _. inl refl;
  as_due = λ e. absurd (cc e);
  as_done = λ e. absurd (cc e);
}

pub may_put_clean : (o : Out) (bytes : List ℕ) → IsSpare o.word.flag → MayPut o flag.Clean bytes
may_put_clean o bytes spare =
    let P : Flag → Type 0 = λ was. (was ≡ flag.Dirty → flag.Clean ≡ flag.Dirty) × ((was ≡ flag.Due) ⊎ (was ≡ flag.Done) → flag.Clean ≡ flag.Dirty) × (was ≡ flag.Due → (flag.Clean ≡ flag.Dirty) ⊎ (flag.Clean ≡ flag.Due)) in
    let x : P o.word.flag = ⊎_elim
    (λ e. subst P (sym e) ((λ q. absurd (cc q)), (λ q. absurd (⊎_elim (λ p. cc p) (λ p. cc p) q)), (λ q. absurd (cc q))))
    (λ e. subst P (sym e) ((λ q. absurd (cc q)), (λ q. absurd (⊎_elim (λ p. cc p) (λ p. cc p) q)), (λ q. absurd (cc q)))) spare in record {
      dirty = x.0;
      changed = λ w _. x.1 w;
      due = x.2;
      as_due = λ e. absurd (cc e);
      as_done = λ e. absurd (cc e);
    }

pub may_put_done_clean : (o : Out) (bytes : List ℕ) → o.word.flag ≡ flag.Done → bytes ≡ o.lease.bytes → MayPut o flag.Clean bytes
may_put_done_clean o bytes done same = record {
  dirty = λ e. absurd (let q : flag.Done ≡ flag.Dirty = sym done ∙ e in cc q);
  changed = λ _ ne. absurd (ne same);
  due = λ e. absurd (let q : flag.Done ≡ flag.Due = sym done ∙ e in cc q);
  as_due = λ e. absurd (cc e);
  as_done = λ e. absurd (cc e);
}

-- Clean or Dirty, and Clean only where the frame was Empty or Clean
pub may_put_either : (o : Out) (was now : Flag) (bytes : List ℕ) → was ≡ o.word.flag → (now ≡ flag.Clean) ⊎ (now ≡ flag.Dirty) → (now ≡ flag.Clean → IsSpare was) → MayPut o now bytes
may_put_either o was now bytes same either spare = ⊎_elim
    (λ e. subst (λ z. MayPut o z bytes) (sym e) (may_put_clean o bytes (subst IsSpare same (spare e))))
    (λ e. subst (λ z. MayPut o z bytes) (sym e) (may_put_dirty o bytes)) either

-- what is out after a take
pub own_out : (v v' : View) (f tag : ℕ) (lease : Leased) (told : Flag) (got : OwnTakeAnswer v v' f tag (take.Got lease told)) → out_of v' f ≡ out_as (held_by got.word.owner got.word) lease
own_out v v' f tag lease told got = out_taken (meets v f got.word) v' f got.word (held_by got.word.owner got.word) lease got.view

pub own_out_flag : (v v' : View) (f tag : ℕ) (lease : Leased) (told : Flag) → OwnTakeAnswer v v' f tag (take.Got lease told) → told ≡ (out_of v' f).word.flag
own_out_flag v v' f tag lease told got = got.flag ∙ sym (ap (λ (o : Out). o.word.flag) (own_out v v' f tag lease told got))

pub own_out_bytes : (v v' : View) (f tag : ℕ) (lease : Leased) (told : Flag) → OwnTakeAnswer v v' f tag (take.Got lease told) → lease.bytes ≡ (out_of v' f).lease.bytes
own_out_bytes v v' f tag lease told got = sym (ap (λ (o : Out). o.lease.bytes) (own_out v v' f tag lease told got))

-- a seat that took a frame and put it back has nothing out again
pub own_put_still : (v v' v'' : View) (f tag : ℕ) (lease : Leased) (told : Flag) (left : LockWord) (bytes : List ℕ) → OwnTakeAnswer v v' f tag (take.Got lease told) → v'' ≡ put_back v' f left bytes → IsStill v → IsStill v''
own_put_still v v' v'' f tag lease told left bytes got put still k =
    ap (λ (u : View). out_at u.outs k) (put ∙ ap (λ u. put_back u f left bytes) got.view)
    ∙ still_again v.outs f (Some (out_as (held_by got.word.owner got.word) lease)) still k

pub own_put_numbers : (v v' v'' : View) (f tag : ℕ) (lease : Leased) (told : Flag) (left : LockWord) (bytes : List ℕ) → OwnTakeAnswer v v' f tag (take.Got lease told) → v'' ≡ put_back v' f left bytes → v''.numbers ≡ v.numbers
own_put_numbers v v' v'' f tag lease told left bytes got put = ap (λ (u : View). u.numbers) (put ∙ ap (λ u. put_back u f left bytes) got.view)

-- a view that has the entry of another has what that one left
pub left_same : (v v' : View) (n f tag : ℕ) (want : Flag) → entry_at v'.entries n f ≡ entry_at v.entries n f → HasLeft v n f tag want → HasLeft v' n f tag want × (left_at v' n f ≡ left_at v n f)
left_same v v' n f tag want same x =
    let is : left_at v' n f ≡ left_at v n f = ap entry_or same in (
      record { at = same ∙ x.at ∙ ap Some (sym is); tag_is = ap (λ (e : Entry). e.tag) is ∙ x.tag_is; flag_is = ap (λ (e : Entry). e.flag) is ∙ x.flag_is },
      is,
    )

-- and may be put back with the lease that was taken, whatever its bytes
pub own_out_own : (v v' : View) (f tag : ℕ) (lease : Leased) (told : Flag) → OwnTakeAnswer v v' f tag (take.Got lease told) → IsOwnOut v' f
own_out_own v v' f tag lease told got =
    let w = got.word in let is = own_out v v' f tag lease told got in record {
      out = ap (λ (u : View). out_at u.outs f) got.view ∙ out_at-here v.outs f (Some (out_as (held_by w.owner w) lease)) ∙ ap Some (sym is);
      own = ap (λ (o : Out). o.word.holder) is ∙ sym (ap (λ (o : Out). o.word.owner) is);
    }

pub own_same_lease : (v v' : View) (f tag : ℕ) (lease y : Leased) (told : Flag) → OwnTakeAnswer v v' f tag (take.Got lease told) → y.number ≡ lease.number → y.range ≡ lease.range → IsSameLease (out_of v' f).lease y
own_same_lease v v' f tag lease y told got number range =
    let is = own_out v v' f tag lease told got in record {
      number = number ∙ sym (ap (λ (o : Out). o.lease.number) is);
      range = range ∙ sym (ap (λ (o : Out). o.lease.range) is);
    }
