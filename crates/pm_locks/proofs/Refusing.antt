-- What the answers of the calls show, in the words of their causes.
use Rattle.std.proofs.Common.{◌≡◌, ◌≢◌, ℕ, List, [], ◌∷◌, ◌++◌, ◌⊎◌, All, Some, None, sym, refl, ap, ◌∙◌, inl, inr, ⊎_elim, append_assoc}
use Rattle.std.proofs.lemmas.List.{append-nil}
use Rattle.std.proofs.lemmas.List.Elements.{All-nil, All-cons}
use Rattle.pm_types.specs.declared.flag.Flag.{Flag}
use Rattle.pm_region.specs.Lease.{Leased}
use Rattle.pm_locks.specs.Words.{LockWord, AT_HOME}
use Rattle.pm_locks.specs.declared.view.Met.{Met}
use Rattle.pm_locks.specs.declared.view.Out.{Out}
use Rattle.pm_locks.specs.declared.view.View.{View}
use Rattle.pm_locks.specs.declared.own.Take.TheVariants as take
use Rattle.pm_locks.specs.declared.steal.Steal.TheVariants as steal
use Rattle.pm_locks.specs.declared.flush.FlushTake.TheVariants as flushed
use Rattle.pm_locks.specs.Views.{Has, out_at}
use Rattle.pm_locks.specs.Steps.{meets, met_as, put_back, flushed_back, IsTold, IsMet}
use Rattle.pm_locks.specs.Answers.{MetTwo, MetLast, MetBusy, OwnTakeAnswer, StealAnswer, FlushTakeAnswer}
use Rattle.pm_locks.specs.Refusals.{HasAdded, HasPiece, HasEntry, HasChange, ShowsGone, ShowsBusy, ShowsNotStolen, ShowsMoved, ShowsHeld, ShowsNotLent, IsNowhereMine, AreOfFrame, HasShown}

-- entries are added one call after the other
pub added_none : (v : View) → HasAdded v v []
added_none v = sym (append-nil v.met)

pub added_then : (v v' v'' : View) (a b : List Met) → HasAdded v v' a → HasAdded v' v'' b → HasAdded v v'' (a ++ b)
added_then v v' v'' a b x y = y ∙ ap (λ m. m ++ b) x ∙ append_assoc v.met a b

-- pieces of pieces
pub piece_first : (a b : List Met) → HasPiece (a ++ b) a
piece_first a b = record { before = []; after = b; is = refl }

pub piece_last : (a b : List Met) → HasPiece (a ++ b) b
piece_last a b = record { before = a; after = []; is = ap (λ l. a ++ l) (sym (append-nil b)) }

pub piece_all : (a : List Met) → HasPiece a a
piece_all a = record { before = []; after = []; is = sym (append-nil a) }

pub piece_in : (all mid piece : List Met) → HasPiece all mid → HasPiece mid piece → HasPiece all piece
piece_in all mid piece x y = record {
  before = x.before ++ y.before;
  after = y.after ++ x.after;
  is = x.is ∙ ap (λ m. x.before ++ (m ++ x.after)) y.is
      ∙ ap (λ l. x.before ++ l) (append_assoc y.before (piece ++ y.after) x.after ∙ ap (λ l. y.before ++ l) (append_assoc piece y.after x.after))
      ∙ sym (append_assoc x.before y.before (piece ++ (y.after ++ x.after)));
}

-- what a piece shows, all entries show
module _ (all piece : List Met) (is : HasPiece all piece) where
  pub entry_in : (f : ℕ) (word : LockWord) → HasEntry piece f word → HasEntry all f word
  entry_in f word x = piece_in all piece (met_as f word ∷ []) is x

  pub change_in : (f : ℕ) (word : LockWord) → HasChange piece f word → HasChange all f word
  change_in f word x = record { earlier = x.earlier; differs = x.differs; met = piece_in all piece (met_as f x.earlier ∷ met_as f word ∷ []) is x.met }

  pub gone_in : (v : View) (f tag : ℕ) → ShowsGone v piece f tag → ShowsGone v all f tag
  gone_in v f tag x = record { word = x.word; not_mine = x.not_mine; met = entry_in f x.word x.met }

  pub busy_in : (v : View) (f tag : ℕ) → ShowsBusy v piece f tag → ShowsBusy v all f tag
  busy_in v f tag x = record { word = x.word; mine = x.mine; met = ⊎_elim (λ p. inl (entry_in f x.word p.0, p.1)) (λ q. inr (change_in f x.word q)) x.met }

  pub not_stolen_in : (f : ℕ) → ShowsNotStolen piece f → ShowsNotStolen all f
  not_stolen_in f x = record { word = x.word; met = ⊎_elim (λ p. inl (entry_in f x.word p.0, p.1)) (λ q. inr (change_in f x.word q)) x.met }

  pub moved_in : (f tag : ℕ) (want : Flag) → ShowsMoved piece f tag want → ShowsMoved all f tag want
  moved_in f tag want x = record { word = x.word; not_wanted = x.not_wanted; met = entry_in f x.word x.met }

  pub held_in : (f tag : ℕ) (want : Flag) → ShowsHeld piece f tag want → ShowsHeld all f tag want
  held_in f tag want x = record { word = x.word; wanted = x.wanted; met = ⊎_elim (λ p. inl (entry_in f x.word p.0, p.1)) (λ q. inr (change_in f x.word q)) x.met }

  pub not_lent_in : (f tag : ℕ) (want : Flag) → ShowsNotLent piece f tag want → ShowsNotLent all f tag want
  not_lent_in f tag want x = ⊎_elim (λ p. inl (moved_in f tag want p)) (λ q. inr (held_in f tag want q)) x

-- entries of another frame say nothing of this one
pub nowhere_of_other : (v : View) (f g : ℕ) (added : List Met) → g ≢ f → AreOfFrame g added → IsNowhereMine v f added
nowhere_of_other v f g added ne of = λ k d lt e. absurd (ne (sym (of k d lt) ∙ e))

one_of : (P : Met → Type 0) (m : Met) → P m → All P (m ∷ [])
one_of P m x = All-cons P m [] x (All-nil P)

two_of : (P : Met → Type 0) (m k : Met) → P m → P k → All P (m ∷ k ∷ [])
two_of P m k x y = All-cons P m (k ∷ []) x (one_of P k y)

none_some : (o : Out) → None ≡ Some o → ⊥
none_some o e = cc e

-- a word that a seat meets without having the frame out isn't out at one of its numbers
pub not_at_mine : (v : View) (f : ℕ) (word : LockWord) → IsTold v f word → out_at v.outs f ≡ None → ¬ Has v word.holder
not_at_mine v f word told none h = let o = told.held h in none_some o.0 (sym none ∙ o.1)

-- a call met one word, or two
shown_one : (v v' : View) (f : ℕ) (word : LockWord) (shows : List Met → Type 0) → IsMet v v' f word → shows (met_as f word ∷ []) → HasShown v v' f shows
shown_one v v' f word shows x shown = record {
  added = met_as f word ∷ [];
  met = ap (λ (u : View). u.met) x.view;
  frame = one_of (λ (m : Met). m.frame ≡ f) (met_as f word) refl;
  nowhere = λ none. one_of (λ (m : Met). m.frame ≡ f → ¬ Has v m.word.holder) (met_as f word) (λ _. not_at_mine v f word x.told none);
  shown = shown;
}

shown_two : (v v' : View) (f : ℕ) (word : LockWord) (x : MetTwo v v' f word) (shows : List Met → Type 0) → shows (met_as f x.before ∷ met_as f word ∷ []) → HasShown v v' f shows
shown_two v v' f word x shows shown = record {
  added = met_as f x.before ∷ met_as f word ∷ [];
  met = ap (λ (u : View). u.met) x.last.view ∙ append_assoc v.met (met_as f x.before ∷ []) (met_as f word ∷ []);
  frame = two_of (λ (m : Met). m.frame ≡ f) (met_as f x.before) (met_as f word) refl refl;
  nowhere = λ none. two_of (λ (m : Met). m.frame ≡ f → ¬ Has v m.word.holder) (met_as f x.before) (met_as f word) (λ _. not_at_mine v f x.before x.first none) (λ _. not_at_mine (meets v f x.before) f word x.last.told none);
  shown = shown;
}

change_of : (v v' : View) (f : ℕ) (word : LockWord) (x : MetTwo v v' f word) → HasChange (met_as f x.before ∷ met_as f word ∷ []) f word
change_of v v' f word x = record { earlier = x.before; differs = x.differs; met = piece_all (met_as f x.before ∷ met_as f word ∷ []) }

last_shown : (v v' : View) (f : ℕ) (word : LockWord) (shows : List Met → Type 0) → ((added : List Met) → HasEntry added f word → shows added) → MetLast v v' f word → HasShown v v' f shows
last_shown v v' f word shows all x = ⊎_elim
    (λ one. shown_one v v' f word shows one (all (met_as f word ∷ []) (piece_all (met_as f word ∷ []))))
    (λ two. shown_two v v' f word two shows (all (met_as f two.before ∷ met_as f word ∷ []) (piece_last (met_as f two.before ∷ []) (met_as f word ∷ [])))) x

busy_shown : (v v' : View) (f : ℕ) (word : LockWord) (shows : List Met → Type 0) → ((added : List Met) → (HasEntry added f word × (word.holder ≢ AT_HOME)) ⊎ HasChange added f word → shows added)
    → MetBusy v v' f word → HasShown v v' f shows
busy_shown v v' f word shows all x = ⊎_elim
    (λ one. shown_one v v' f word shows one.0 (all (met_as f word ∷ []) (inl (piece_all (met_as f word ∷ []), one.1))))
    (λ two. shown_two v v' f word two shows (all (met_as f two.before ∷ met_as f word ∷ []) (inr (change_of v v' f word two)))) x

-- the answers of own_take
pub own_gone : (v v' : View) (f tag : ℕ) → OwnTakeAnswer v v' f tag take.Gone → HasShown v v' f (λ added. ShowsGone v added f tag)
own_gone v v' f tag x = last_shown v v' f x.word (λ added. ShowsGone v added f tag) (λ added e. record { word = x.word; not_mine = x.not_mine; met = e }) x.met

pub own_busy : (v v' : View) (f tag : ℕ) (word : LockWord) → OwnTakeAnswer v v' f tag (take.Busy word) → HasShown v v' f (λ added. ShowsBusy v added f tag)
own_busy v v' f tag word x = busy_shown v v' f word (λ added. ShowsBusy v added f tag) (λ added m. record { word = word; mine = x.0; met = m }) x.1

-- the answer of steal
pub steal_not : (v v' : View) (number f : ℕ) (word : LockWord) → StealAnswer v v' number f (steal.Not word) → HasShown v v' f (λ added. ShowsNotStolen added f)
steal_not v v' number f word x = ⊎_elim
    (λ one. shown_one v v' f word (λ added. ShowsNotStolen added f) one.0 (record { word = word; met = inl (piece_all (met_as f word ∷ []), one.1) }))
    (λ two. shown_two v v' f word two (λ added. ShowsNotStolen added f) (record { word = word; met = inr (change_of v v' f word two) })) x

-- the answers of flush_take
pub flush_moved : (v v' : View) (f tag : ℕ) (want : Flag) → FlushTakeAnswer v v' f tag want flushed.Moved → HasShown v v' f (λ added. ShowsNotLent added f tag want)
flush_moved v v' f tag want x = last_shown v v' f x.word (λ added. ShowsNotLent added f tag want) (λ added e. inl (record { word = x.word; not_wanted = x.not_wanted; met = e })) x.met

pub flush_busy : (v v' : View) (f tag : ℕ) (want : Flag) (word : LockWord) → FlushTakeAnswer v v' f tag want (flushed.Busy word) → HasShown v v' f (λ added. ShowsNotLent added f tag want)
flush_busy v v' f tag want word x = busy_shown v v' f word (λ added. ShowsNotLent added f tag want) (λ added m. inr (record { word = word; wanted = x.0; met = m })) x.1

-- a call that got its frame met the frame's word twice
got_shown : (v v' : View) (f : ℕ) (word : LockWord) → IsTold v f word → v'.met ≡ (meets v f word).met ++ met_as f word ∷ [] → HasShown v v' f (λ added. HasEntry added f word)
got_shown v v' f word told met = record {
  added = met_as f word ∷ met_as f word ∷ [];
  met = met ∙ append_assoc v.met (met_as f word ∷ []) (met_as f word ∷ []);
  frame = two_of (λ (m : Met). m.frame ≡ f) (met_as f word) (met_as f word) refl refl;
  nowhere = λ none. two_of (λ (m : Met). m.frame ≡ f → ¬ Has v m.word.holder) (met_as f word) (met_as f word) (λ _. not_at_mine v f word told none) (λ _. not_at_mine v f word told none);
  shown = piece_last (met_as f word ∷ []) (met_as f word ∷ []);
}

pub own_got : (v v' : View) (f tag : ℕ) (lease : Leased) (told : Flag) (x : OwnTakeAnswer v v' f tag (take.Got lease told)) → HasShown v v' f (λ added. HasEntry added f x.word)
own_got v v' f tag lease told x = got_shown v v' f x.word x.met (ap (λ (u : View). u.met) x.view)

pub steal_got : (v v' : View) (number f : ℕ) (lease : Leased) (tag : ℕ) (x : StealAnswer v v' number f (steal.Got lease tag)) → HasShown v v' f (λ added. HasEntry added f x.word)
steal_got v v' number f lease tag x = got_shown v v' f x.word x.met (ap (λ (u : View). u.met) x.view)

pub flush_got : (v v' : View) (f tag : ℕ) (want : Flag) (lease : Leased) (x : FlushTakeAnswer v v' f tag want (flushed.Got lease)) → HasShown v v' f (λ added. HasEntry added f x.word)
flush_got v v' f tag want lease x = got_shown v v' f x.word x.met (ap (λ (u : View). u.met) x.view)

-- a look met one word, and the calls that put a frame back add nothing
pub look_met : (v v' : View) (f : ℕ) (word : LockWord) → IsMet v v' f word → HasShown v v' f (λ added. HasEntry added f word)
look_met v v' f word x = shown_one v v' f word (λ added. HasEntry added f word) x (piece_all (met_as f word ∷ []))

pub put_adds_none : (v v' : View) (f : ℕ) (left : LockWord) (bytes : List ℕ) → v' ≡ put_back v f left bytes → HasAdded v v' []
put_adds_none v v' f left bytes is = ap (λ (u : View). u.met) is ∙ added_none v

pub flush_put_adds_none : (v v' : View) (f : ℕ) (left : LockWord) (bytes : List ℕ) → v' ≡ flushed_back v f left bytes → HasAdded v v' []
flush_put_adds_none v v' f left bytes is = ap (λ (u : View). u.met) is ∙ added_none v
