-- The workers' seats are joined, from the last on, and each frame's word is met.
use Rattle.std.proofs.Common.{◌≡◌, ℕ, suc, ◌+◌, ◌<◌, ◌≤◌, List, [], ◌∷◌, ◌++◌, length, cond, eq-eqb, ap, sym, refl, ◌∙◌, subst, inl, inr, ⊎_elim, arith, append_assoc, Some, None}
use Rattle.std.specs.List.{slice_get}
use Rattle.std.proofs.lemmas.List.{length-append, append-nil}
use Rattle.std.proofs.lemmas.Option.{slice_get_within}
use mathlib.Core.Logic.{dite}
use native.Mathlib.Decide.{ℕ_discrete}
use Rattle.pm_locks.specs.Words.{LockWord}
use Rattle.pm_locks.specs.declared.view.Numbers.{Numbers}
use Rattle.pm_locks.specs.declared.view.Out.{Out}
use Rattle.pm_locks.specs.declared.view.View.{View}
use Rattle.pm_locks.specs.Sight.{Sight, LockTable, IsSeatOf}
use Rattle.pm_locks.specs.Views.{is_among, Has, IsWhole, IsStill, entry_at, out_at, due_at, word_at, worker_alone}
use Rattle.pm_locks.specs.Shares.{joined, AreAdjacent, HasBoth}
use Rattle.pm_locks.specs.Rounds.{IsWorkers, IsFlushers, IsKnown, HasReread, mets_of}
use Rattle.pm_locks.specs.Steps.{meets, met_as, IsMet}
use Rattle.pm_locks.proofs.Numbering.{is_one, whole_has}
use Rattle.pm_locks.proofs.Looks.{word_past}
use Rattle.pm_locks.proofs.Told.{backed_after, dated_after}
use Rattle.pm_locks.proofs.Spreading.{numbers_from}
use Rattle.pm_locks.proofs.Pushing.{slice_get-pushed, slice_get-push, slice_get-front}

-- the workers from n on are joined
pub record HasJoined (locks : LockTable) (old : Sight) (workers : List Sight) (n : ℕ) (seat : Sight) (left : List Sight) : Type 0 where
  pub of : IsSeatOf locks seat
  pub numbers : seat.view.numbers ≡ numbers_from n locks.workers
  pub still : IsStill seat.view
  pub many : length workers ≡ locks.workers
  pub count : length left ≡ n
  pub few : n ≤ locks.workers
  pub each : (k : ℕ) (s : Sight) → slice_get left k ≡ Some s → slice_get workers k ≡ Some s
  pub entries : (k : ℕ) (s : Sight) → n ≤ k → slice_get workers k ≡ Some s → (f : ℕ) → entry_at seat.view.entries k f ≡ entry_at s.view.entries k f
  pub dues : (f : ℕ) → due_at seat.view.dues f ≡ due_at old.view.dues f
  pub met : seat.view.met ≡ old.view.met

pub some_sight : (a b : Sight) → Some a ≡ Some b → a ≡ b
some_sight a b e = cc e

pub joins_first : (locks : LockTable) (old : Sight) (workers : List Sight) → IsFlushers locks old → length workers ≡ locks.workers → HasJoined locks old workers (length workers) old workers
joins_first locks old workers x count = record {
  of = x.of;
  numbers = x.alone ∙ ap (λ n. numbers_from n locks.workers) (sym count);
  still = x.still;
  many = count;
  count = refl;
  few = omega arith;
  each = λ k s e. e;
  entries = λ k s le e. absurd (let lt = slice_get_within workers k s e in omega arith);
  dues = λ f. refl;
  met = refl;
}

-- the last of the workers that are left is joined
module _ (locks : LockTable) (old : Sight) (workers : List Sight) (n : ℕ) (seat : Sight) (left left' : List Sight) (w : Sight) (j : HasJoined locks old workers n seat left) (eight : locks.workers ≤ 8) (is : left ≡ left' ++ w ∷ []) where
  long : n ≡ length left' + 1
  long = sym j.count ∙ ap length is ∙ length-append left' (w ∷ [])

  last_at : slice_get workers (length left') ≡ Some w
  last_at = j.each (length left') w (ap (λ l. slice_get l (length left')) is ∙ slice_get-push left' w)

  pub next_follows : IsWorkers locks (length left') w → AreAdjacent w.view.numbers seat.view.numbers
  next_follows x = subst (λ (p : Numbers × Numbers). AreAdjacent p.0 p.1) (λ i. (sym x.alone i, sym j.numbers i))
      (record { some = omega arith; meets = sym long; rest = j.few; few = eight; alone = refl })

  pub next_is : ((k : ℕ) (s : Sight) → slice_get workers k ≡ Some s → IsWorkers locks k s) → IsWorkers locks (length left') w
  next_is all = all (length left') w last_at

  pub joins_next : (seat' : Sight) → IsWorkers locks (length left') w → IsSeatOf locks seat' → seat'.view ≡ joined seat.view w.view → HasBoth seat.view w.view seat'.view → HasJoined locks old workers (length left') seat' left'
  joins_next seat' x of both has =
      let m = length left' in record {
        of = of;
        numbers = ap (λ (v : View). v.numbers) both ∙ (λ i. record { from = (x.alone i).from; upto = (j.numbers i).upto; flusher = (j.numbers i).flusher });
        still = λ f. ap (λ (v : View). out_at v.outs f) both;
        many = j.many;
        count = refl;
        few = let a = j.few in let b = long in omega arith;
        each = λ k s e. j.each k s (ap (λ l. slice_get l k) is ∙ slice_get-front left' (w ∷ []) k (slice_get_within left' k s e) ∙ e);
        entries = λ k s le e f. dite (ℕ_discrete k m)
            (λ same. let q : w ≡ s = some_sight w s (sym last_at ∙ ap (slice_get workers) (sym same) ∙ e) in
            subst (λ (p : ℕ × Sight). entry_at seat'.view.entries p.0 f ≡ entry_at p.1.view.entries p.0 f) (λ i. (sym same i, q i))
            (has.seconds m f (ap (λ (l : Numbers). is_among l m) x.alone ∙ is_one (worker_alone m) m (inl (omega arith, omega arith)))))
            (λ other. let b = long in let lt = slice_get_within workers k s e in let c = j.many in
            let here : Has seat.view k = ap (λ (l : Numbers). is_among l k) j.numbers ∙ is_one (numbers_from n locks.workers) k (inl (omega arith, omega arith)) in
            has.firsts k f here ∙ j.entries k s (omega arith) e f);
        dues = λ f. ap (λ (v : View). due_at v.dues f) both ∙ j.dues f;
        met = ap (λ (v : View). v.met) both ∙ j.met;
      }

-- so many frames' words were met again
pub record HasLooked (locks : LockTable) (old : Sight) (f : ℕ) (seat : Sight) : Type 0 where
  pub of : IsSeatOf locks seat
  pub words : HasReread f old.view.met seat.view
  pub same : seat.view ≡ record old.view { words = seat.view.words; met = seat.view.met }

pub looks_first : (locks : LockTable) (old : Sight) → IsSeatOf locks old → HasLooked locks old 0 old
looks_first locks old of = record {
  of = of;
  words = record { words = []; count = refl; mets = sym (append-nil old.view.met); known = λ f word e. absurd (cc e) };
  same = refl;
}

mets_of-push : (g : ℕ) (words : List LockWord) (w : LockWord) → mets_of g (words ++ w ∷ []) ≡ mets_of g words ++ met_as (g + length words) w ∷ []
mets_of-push g [] w = let e : g + 0 ≡ g = omega arith in ap (λ k. met_as k w ∷ []) (sym e)
mets_of-push g (x ∷ xs) w = let e : (g + 1) + length xs ≡ g + suc (length xs) = omega arith in ap (λ l. met_as g x ∷ l) (mets_of-push (g + 1) xs w ∙ ap (λ k. mets_of (g + 1) xs ++ met_as k w ∷ []) e)

some_out : (o : Out) → None ≡ Some o → ⊥
some_out o e = cc e

pub looks_next : (locks : LockTable) (old seat seat' : Sight) (f : ℕ) (w : LockWord) → IsWhole old.view → IsStill old.view → HasLooked locks old f seat → IsSeatOf locks seat' → IsMet seat.view seat'.view f w → HasLooked locks old (f + 1) seat'
looks_next locks old seat seat' f w whole still x of met =
    let v = seat.view in let r = x.words in
    let whole' : IsWhole v = subst IsWhole (sym x.same) whole in
    let still' : IsStill v = subst IsStill (sym x.same) still in
    let home : w.holder ≡ 255 = ⊎_elim (λ e. e) (λ has. let o = met.told.held has in absurd (some_out o.0 (sym (still' f) ∙ o.1))) (met.told.home whole') in
    let words' : seat'.view.words ≡ (f, w) ∷ v.words = ap (λ (z : View). z.words) met.view in record {
      of = of;
      words = record {
        words = r.words ++ w ∷ [];
        count = length-append r.words (w ∷ []) ∙ ap (λ k. k + 1) r.count;
        mets = ap (λ (z : View). z.met) met.view ∙ ap (λ m. m ++ met_as f w ∷ []) r.mets ∙ append_assoc old.view.met (mets_of 0 r.words) (met_as f w ∷ [])
            ∙ ap (λ k. old.view.met ++ (mets_of 0 r.words ++ met_as k w ∷ [])) (let e : f ≡ 0 + length r.words = let c = r.count in omega arith in e) ∙ ap (λ m. old.view.met ++ m) (sym (mets_of-push 0 r.words w));
        known = λ k u e. ⊎_elim
            (λ h. let lt = slice_get_within r.words k u h in let c = r.count in let kn = r.known k u h in
            record { at = ap (λ ws. word_at ws k) words' ∙ word_past v.words f w k (λ q. omega arith) ∙ kn.at; home = kn.home; worker = subst (λ n. u.owner < n) (sym (ap (λ (z : View). z.workers) met.view)) kn.worker; dated = dated_after v seat'.view f w met.view k u kn.dated; bytes = kn.bytes; backed = backed_after v seat'.view f w met.view k u kn.bytes kn.backed })
            (λ t. let at : f ≡ k = sym (t.0 ∙ r.count) in subst (λ (p : ℕ × LockWord). IsKnown seat'.view p.0 p.1) (λ i. (at i, t.1 i))
            (record { at = ap (λ ws. word_at ws f) words' ∙ ap (λ b. cond b (Some w) (word_at v.words f)) (eq-eqb f f refl); home = home; worker = subst (λ n. w.owner < n) (sym (ap (λ (z : View). z.workers) met.view)) (met.told.worker 8 (whole_has v 8 whole' (inr refl))); dated = dated_after v seat'.view f w met.view f w met.told.dated; bytes = met.told.bytes; backed = backed_after v seat'.view f w met.view f w met.told.bytes met.told.backed }))
            (slice_get-pushed r.words w u k e);
      };
      same = met.view ∙ ap (λ z. meets z f w) x.same ∙ (λ i. record old.view { words = sym words' i; met = sym (ap (λ (z : View). z.met) met.view) i });
    }
