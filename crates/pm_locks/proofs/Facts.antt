-- What a take and a put say together, for those who call the locks.
use Rattle.std.proofs.Common.{◌≡◌, ℕ, zero, suc, ◌≢◌, List, [], ◌∷◌, length, map, get_or, cond, eqb, ne_eqb, ◌+◌, ◌<◌, Option, Some, None, refl, sym, ap, ◌∙◌, subst, ⊎_elim, arith}
use Rattle.std.specs.Prelude.{◌&&◌}
use Rattle.std.specs.List.{slice_get}
use Rattle.std.proofs.lemmas.List.{length-map}
use Rattle.std.proofs.lemmas.Option.{slice_get_within, slice_get-get_or}
use mathlib.Core.Logic.{dite}
use native.Mathlib.Decide.{ℕ_discrete}
use Rattle.pm_region.specs.Lease.{Range, Leased}
use Rattle.pm_region.specs.Region.{Extent, AreLeasesOf}
use Rattle.pm_types.specs.declared.flag.Flag.{Flag}
use Rattle.pm_locks.specs.Words.{LockWord, IsSpare, held_by, put_as}
use Rattle.pm_locks.specs.declared.view.View.{View}
use Rattle.pm_locks.specs.Rule.{frame_range, known_range}
use Rattle.pm_locks.specs.Sight.{Sight, LockTable, IsSeatOf, IsFrameOf, HasPageSize}
use Rattle.pm_locks.specs.Steps.{taken_out, put_back, entry_as, out_as, AreDated}
use Rattle.pm_locks.specs.declared.own.Take.TheVariants as take
use Rattle.pm_locks.specs.Answers.{out_or, out_of, OwnTakeAnswer}
use Rattle.pm_locks.specs.declared.view.Out.{Out}
use Rattle.pm_locks.specs.declared.view.Entry.{Entry}
use Rattle.pm_locks.specs.declared.view.Due.{Due}
use Rattle.pm_locks.specs.Views.{is_among, Has, IsMine, entry_at, entry_or, left_at, out_at, due_at, word_at}
use Rattle.pm_locks.specs.Opening.{AreNumbered, first_word, first_words}
use Rattle.pm_locks.proofs.Looks.{word_past}
use Rattle.pm_locks.proofs.Takes.{self_eq}
use Rattle.pm_locks.proofs.Puts.{entry_foreign, entry_past}

-- what came last at a frame is what it has
pub out_at-here : (outs : List (ℕ × Option Out)) (f : ℕ) (o : Option Out) → out_at ((f, o) ∷ outs) f ≡ o
out_at-here outs f o = ap (λ b. cond b o (out_at outs f)) (self_eq f)

pub out_at-else : (outs : List (ℕ × Option Out)) (f : ℕ) (o : Option Out) (k : ℕ) → k ≢ f → out_at ((f, o) ∷ outs) k ≡ out_at outs k
out_at-else outs f o k ne = ap (λ b. cond b o (out_at outs k)) (ne_eqb f k (λ e. ne (sym e)))

-- the entry that came last is its number's of its frame, and leaves the others as they were
pub entry_at-here : (es : List Entry) (e : Entry) → entry_at (e ∷ es) e.number e.frame ≡ Some e
entry_at-here es e = ap (λ b. cond (b && eqb e.frame e.frame) (Some e) (entry_at es e.number e.frame)) (self_eq e.number) ∙ ap (λ b. cond b (Some e) (entry_at es e.number e.frame)) (self_eq e.frame)

pub entry_at-other_number : (es : List Entry) (e : Entry) (n f : ℕ) → n ≢ e.number → entry_at (e ∷ es) n f ≡ entry_at es n f
entry_at-other_number = entry_foreign

pub entry_at-other_frame : (es : List Entry) (e : Entry) (n f : ℕ) → f ≢ e.frame → entry_at (e ∷ es) n f ≡ entry_at es n f
entry_at-other_frame = entry_past

pub due_at-here : (ds : List (ℕ × Due)) (f : ℕ) (d : Due) → due_at ((f, d) ∷ ds) f ≡ Some d
due_at-here ds f d = ap (λ b. cond b (Some d) (due_at ds f)) (self_eq f)

pub due_at-else : (ds : List (ℕ × Due)) (f : ℕ) (d : Due) (k : ℕ) → k ≢ f → due_at ((f, d) ∷ ds) k ≡ due_at ds k
due_at-else ds f d k ne = ap (λ b. cond b (Some d) (due_at ds k)) (ne_eqb f k (λ e. ne (sym e)))

pub word_at-here : (ws : List (ℕ × LockWord)) (f : ℕ) (w : LockWord) → word_at ((f, w) ∷ ws) f ≡ Some w
word_at-here ws f w = ap (λ b. cond b (Some w) (word_at ws f)) (self_eq f)

pub word_at-else : (ws : List (ℕ × LockWord)) (f : ℕ) (w : LockWord) (k : ℕ) → k ≢ f → word_at ((f, w) ∷ ws) k ≡ word_at ws k
word_at-else = word_past

-- the first seat knows each frame's word
pub first_known : (workers g j : ℕ) (leases : List Leased) → j < length leases → word_at (first_words workers g leases) (g + j) ≡ Some (first_word workers (g + j))
first_known workers g j [] lt = absurd (omega arith)
first_known workers g zero (y ∷ ys) lt = let e : g ≡ g + 0 = omega arith in
    subst (λ f. word_at (first_words workers g (y ∷ ys)) f ≡ Some (first_word workers f)) e (word_at-here (first_words workers (g + 1) ys) g (first_word workers g))
first_known workers g (suc j) (y ∷ ys) lt = let e : (g + 1) + j ≡ g + suc j = omega arith in
    word_at-else (first_words workers (g + 1) ys) g (first_word workers g) (g + suc j) (λ q. omega arith)
    ∙ subst (λ f. word_at (first_words workers (g + 1) ys) f ≡ Some (first_word workers f)) e (first_known workers (g + 1) j ys (omega arith))

-- a seat that takes a frame and puts it back has nothing out again
pub still_again : (outs : List (ℕ × Option Out)) (f : ℕ) (o : Option Out) → ((k : ℕ) → out_at outs k ≡ None) → (k : ℕ) → out_at ((f, None) ∷ (f, o) ∷ outs) k ≡ None
still_again outs f o still k = dite (ℕ_discrete k f)
    (λ e. ap (out_at ((f, None) ∷ (f, o) ∷ outs)) e ∙ out_at-here ((f, o) ∷ outs) f None)
    (λ ne. out_at-else ((f, o) ∷ outs) f None k ne ∙ out_at-else outs f o k ne ∙ still k)

same_ranges : (after before : List Leased) → map (λ y. y.range) after ≡ map (λ y. y.range) before → (i : ℕ) (y z : Leased) → slice_get after i ≡ Some y → slice_get before i ≡ Some z → y.range ≡ z.range
same_ranges [] bs e i y z a b = absurd (cc a)
same_ranges (x ∷ xs) [] e i y z a b = absurd (cc e)
same_ranges (x ∷ xs) (w ∷ ws) e zero y z a b =
    let p : x ≡ y = cc a in let q : w ≡ z = cc b in let r : x.range ≡ w.range = cc e in ap (λ (l : Leased). l.range) (sym p) ∙ r ∙ ap (λ (l : Leased). l.range) q
same_ranges (x ∷ xs) (w ∷ ws) e (suc i) y z a b = same_ranges xs ws (cc e) i y z a b

-- leases that come back with the numbers and ranges that they had are the region's again
pub leases_back : (region : Extent) (before after : List Leased) → AreLeasesOf region before → AreNumbered after → map (λ y. y.range) after ≡ map (λ y. y.range) before → AreLeasesOf region after
leases_back region before after are numbered ranges =
    let same : length after ≡ length before = sym (length-map after (λ y. y.range)) ∙ ap length ranges ∙ length-map before (λ y. y.range) in record {
      count = same ∙ are.count;
      each = λ i y at.
          let lt = slice_get_within after i y at in
          let was = slice_get-get_or before i y (omega arith) in
          record { number = numbered i y at; range = same_ranges after before ranges i y (get_or before i y) at was ∙ (are.each i (get_or before i y) was).range };
    }

-- after a take the frame is out under the word that was left, with its lease
pub out_taken : (v v' : View) (f : ℕ) (word left : LockWord) (lease : Leased) → v' ≡ taken_out v f word left lease → out_of v' f ≡ out_as left lease
out_taken v v' f word left lease is = ap (λ (u : View). out_of u f) is ∙ ap out_or (out_at-here v.outs f (Some (out_as left lease)))

-- after its owner took a frame and put it back, its entry has what was put, under the word's tag
pub entry_put : (v v' v'' : View) (f : ℕ) (word : LockWord) (lease : Leased) (now : Flag) (bytes : List ℕ) → v' ≡ taken_out v f word (held_by word.owner word) lease → v'' ≡ put_back v' f (put_as now (out_of v' f).word) bytes
    → entry_at v''.entries word.owner f ≡ Some (entry_as f (put_as now word) bytes)
entry_put v v' v'' f word lease now bytes take put =
    let word' : (out_of v' f).word ≡ held_by word.owner word = ap (λ (o : Out). o.word) (out_taken v v' f word (held_by word.owner word) lease take) in
    let e = entry_as f (put_as now word) bytes in
    ap (λ (u : View). entry_at u.entries word.owner f) (put ∙ ap (λ k. put_back v' f (put_as now k) bytes) word') ∙ entry_at-here v'.entries e

-- so that is what it left
pub left_is : (view : View) (n f : ℕ) (e : Entry) → entry_at view.entries n f ≡ Some e → left_at view n f ≡ e
left_is view n f e at = ap entry_or at

-- a frame that its owner left neither Empty nor Clean is that owner's still, under the same tag
pub still_owned : (v : View) (n f : ℕ) (e : Entry) (word : LockWord) → AreDated v f word → Has v n → entry_at v.entries n f ≡ Some e → ¬ IsSpare e.flag → (word.tag ≡ e.tag) × (word.owner ≡ n)
still_owned v n f e word dated has at used =
    let x = dated n e has at in let le = x.at_most in
    dite (ℕ_discrete e.tag word.tag) (λ same. (sym same, sym (x.owner same)))
    (λ differ. absurd (used (x.older (omega arith))))

-- and so it isn't gone
pub not_gone : (v v' : View) (n f tag : ℕ) (e : Entry) → Has v n → entry_at v.entries n f ≡ Some e → e.tag ≡ tag → ¬ IsSpare e.flag → OwnTakeAnswer v v' f tag take.Gone → ⊥
not_gone v v' n f tag e has at same used gone =
    let w = gone.word in
    let mine : AreDated v f w → IsMine v w tag = λ dated. let x = still_owned v n f e w dated has at used in record { same = x.0 ∙ same; owner = ap (is_among v.numbers) x.1 ∙ has } in
    ⊎_elim (λ one. gone.not_mine (mine one.told.dated)) (λ two. gone.not_mine (mine two.last.told.dated)) gone.met

-- leases of one region have one length
range_at_index : (leases : List Leased) (f : ℕ) → f < length leases → (y : Leased) × (slice_get leases f ≡ Some y) × (frame_range (map (λ z. z.range) leases) f ≡ y.range)
range_at_index [] f lt = absurd (omega arith)
range_at_index (y ∷ ys) zero lt = (y, refl, refl)
range_at_index (y ∷ ys) (suc f) lt = range_at_index ys f (omega arith)

pub page_sizes : (locks : LockTable) (region : Extent) (leases : List Leased) → AreLeasesOf region leases → locks.ranges ≡ map (λ y. y.range) leases → HasPageSize locks region.size
page_sizes locks region leases are ranges = λ f lt.
    let x = range_at_index leases f (subst (λ n. f < n) (ap length ranges ∙ length-map leases (λ y. y.range)) lt) in
    ap (λ (r : Range). r.len) (ap (λ l. frame_range l f) ranges ∙ x.2 ∙ (are.each f x.0 x.1).range)

-- a lease that was taken has its frame's length
pub lease_size : (locks : LockTable) (seat : Sight) (f size : ℕ) (lease : Leased) → IsSeatOf locks seat → IsFrameOf locks f → HasPageSize locks size → lease.range ≡ known_range seat.view f → lease.range.len ≡ size
lease_size locks seat f size lease of lt sized is = ap (λ (r : Range). r.len) (is ∙ ap (λ l. frame_range l f) of.ranges) ∙ sized f lt
