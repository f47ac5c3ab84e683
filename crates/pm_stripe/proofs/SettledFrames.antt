-- Taking a frame, stealing one and putting one back keep that no checkpoint has to write a frame.
use Rattle.std.proofs.Common.{◌≡◌, ◌≢◌, ℕ, ◌<◌, List, ◌∷◌, ⊎_elim, inl, inr, Option, Some, None, true, refl, sym, ap, subst, ◌∙◌}
use Rattle.std.proofs.lemmas.Bool.{cases_eq}
use Rattle.pm_types.specs.declared.flag.Flag.{Flag}
use Rattle.pm_types.specs.declared.flag.Flag.TheVariants as flag
use Rattle.pm_region.specs.Lease.{Leased}
use Rattle.pm_locks.specs.Words.{LockWord, IsSpare, CanBeStolen, held_by, put_as, stolen_as}
use Rattle.pm_locks.specs.declared.view.Entry.{Entry}
use Rattle.pm_locks.specs.declared.view.Numbers.{Numbers}
use Rattle.pm_locks.specs.declared.view.Out.{Out}
use Rattle.pm_locks.specs.declared.view.View.{View}
use Rattle.pm_locks.specs.Sight.{LockTable, IsFrameOf, KnowsAll}
use Rattle.pm_locks.specs.Views.{known_at, word_at, word_or, out_at, entry_at, is_among}
use Rattle.pm_locks.specs.Steps.{meets, taken_out, stolen_out, put_back, out_as, entry_as, IsMet, IsTold}
use Rattle.pm_locks.specs.Answers.{MetTwo, MetBusy, GotOwn, IsGone, GotStolen, StealAnswer, out_of}
use Rattle.pm_locks.specs.declared.steal.Steal.TheVariants as steal
use Rattle.pm_locks.proofs.Facts.{word_at-here, word_at-else, out_at-here, out_at-else, entry_at-here, entry_at-other_frame, entry_at-other_number}
use Rattle.pm_stripe.specs.Sights.{IsSettledFrame, IsSettledIn, KeepsSight}

-- the word that is known where one was left
known_here : (ws : List (ℕ × LockWord)) (f : ℕ) (w : LockWord) → word_or (word_at ((f, w) ∷ ws) f) ≡ w
known_here ws f w = ap word_or (word_at-here ws f w)

known_else : (ws : List (ℕ × LockWord)) (f : ℕ) (w : LockWord) (g : ℕ) → g ≢ f → word_or (word_at ((f, w) ∷ ws) g) ≡ word_or (word_at ws g)
known_else ws f w g ne = ap word_or (word_at-else ws f w g ne)

-- the same of what is the same
pub settled_as : (workers : ℕ) (numbers : Numbers) (a b : LockWord) (o p : Option Out) (r s : ℕ → Option Entry) → a ≡ b → o ≡ p → ((n : ℕ) → r n ≡ s n) → IsSettledFrame workers numbers a o r → IsSettledFrame workers numbers b p s
settled_as workers numbers a b o p r s x y z is = subst (λ (t : LockWord × Option Out × (ℕ → Option Entry)). IsSettledFrame workers numbers t.0 t.1 t.2) (λ i. (x i, y i, λ n. z n i)) is

-- a seat for all numbers meets the word that it knows
met_known : (locks : LockTable) (v : View) (f : ℕ) (word : LockWord) → IsFrameOf locks f → KnowsAll locks v → IsTold v f word → word ≡ known_at v f
met_known locks v f word lt knows told = told.exact knows.whole (known_at v f) (knows.each f lt)

-- ---- a word was met

met_settled : (locks : LockTable) (v : View) (f : ℕ) (word : LockWord) → IsFrameOf locks f → KnowsAll locks v → IsTold v f word → (g : ℕ) → IsSettledIn v g → IsSettledIn (meets v f word) g
met_settled locks v f word lt knows told g is =
    settled_as v.workers v.numbers (known_at v g) (known_at (meets v f word) g) (out_at v.outs g) (out_at v.outs g) (λ n. entry_at v.entries n g) (λ n. entry_at v.entries n g) (sym same) refl (λ n. refl) is
  where
    same : known_at (meets v f word) g ≡ known_at v g
    same = elim (cases_eq g f) [
      | inl e ↦ ap (known_at (meets v f word)) e ∙ known_here v.words f word ∙ met_known locks v f word lt knows told ∙ ap (known_at v) (sym e)
      | inr ne ↦ known_else v.words f word g ne
    ]

pub met_sight : (locks : LockTable) (v v' : View) (f : ℕ) (word : LockWord) → IsFrameOf locks f → (KnowsAll locks v → KnowsAll locks v') → IsMet v v' f word → KeepsSight locks v v'
met_sight locks v v' f word lt knows met = record {
  numbers = ap (λ (u : View). u.numbers) met.view;
  knows = knows;
  settled = λ s. record {
    knows = knows s.knows;
    each = λ g there. subst (λ (u : View). IsSettledIn u g) (sym met.view) (met_settled locks v f word lt s.knows met.told g (s.each g there));
  };
}

-- a seat for all numbers doesn't meet two words of a frame
pub two_sight : (locks : LockTable) (v v' : View) (f : ℕ) (word : LockWord) → (KnowsAll locks v → KnowsAll locks v') → MetTwo v v' f word → KeepsSight locks v v'
two_sight locks v v' f word knows two = record {
  numbers = ap (λ (u : View). u.numbers) two.last.view;
  knows = knows;
  settled = λ s. absurd (two.differs (two.last.told.exact s.knows.whole two.before (word_at-here v.words f two.before)));
}

pub busy_sight : (locks : LockTable) (v v' : View) (f : ℕ) (word : LockWord) → IsFrameOf locks f → (KnowsAll locks v → KnowsAll locks v') → MetBusy v v' f word → KeepsSight locks v v'
busy_sight locks v v' f word lt knows = ⊎_elim (λ a. met_sight locks v v' f word lt knows a.0) (two_sight locks v v' f word knows)

pub gone_sight : (locks : LockTable) (v v' : View) (f tag : ℕ) → IsFrameOf locks f → (KnowsAll locks v → KnowsAll locks v') → IsGone v v' f tag → KeepsSight locks v v'
gone_sight locks v v' f tag lt knows gone = ⊎_elim (met_sight locks v v' f gone.word lt knows) (two_sight locks v v' f gone.word knows) gone.met

-- ---- a frame was taken

taken_frame : (workers : ℕ) (numbers : Numbers) (word : LockWord) (held : Option Out) (put : ℕ → Option Entry) (holder : ℕ) (lease : Leased) → IsSettledFrame workers numbers word held put → IsSettledFrame workers numbers (held_by holder word) (Some (out_as (held_by holder word) lease)) put
taken_frame workers numbers word held put holder lease is = record {
  worker = is.worker;
  not_due = is.not_due;
  not_done = is.not_done;
  home = λ e. absurd (cc e);
  out = λ o e. (let q : out_as (held_by holder word) lease ≡ o = cc e in ap (λ (z : Out). z.word) (sym q));
  last = is.last;
  at = is.at;
  tag_is = is.tag_is;
  flag_is = is.flag_is;
  others = is.others;
}

taken_settled : (locks : LockTable) (v : View) (f : ℕ) (word : LockWord) (lease : Leased) → IsFrameOf locks f → KnowsAll locks v → IsTold v f word → IsSettledIn v f → (g : ℕ) → IsSettledIn v g → IsSettledIn (taken_out (meets v f word) f word (held_by word.owner word) lease) g
taken_settled locks v f word lease lt knows told here g is = elim (cases_eq g f) [
  | inl e ↦ subst (IsSettledIn v') (sym e) at_f
  | inr ne ↦ settled_as v.workers v.numbers (known_at v g) (known_at v' g) (out_at v.outs g) (out_at v'.outs g) (λ n. entry_at v.entries n g) (λ n. entry_at v.entries n g)
      (sym (known_else ((f, word) ∷ v.words) f left g ne ∙ known_else v.words f word g ne)) (sym (out_at-else v.outs f (Some (out_as left lease)) g ne)) (λ n. refl) is
]
  where
    left : LockWord
    left = held_by word.owner word

    v' : View
    v' = taken_out (meets v f word) f word left lease

    same : IsSettledFrame v.workers v.numbers word (out_at v.outs f) (λ n. entry_at v.entries n f)
    same = subst (λ (w : LockWord). IsSettledFrame v.workers v.numbers w (out_at v.outs f) (λ n. entry_at v.entries n f)) (sym (met_known locks v f word lt knows told)) here

    at_f : IsSettledIn v' f
    at_f = settled_as v.workers v.numbers left (known_at v' f) (Some (out_as left lease)) (out_at v'.outs f) (λ n. entry_at v.entries n f) (λ n. entry_at v.entries n f)
        (sym (known_here ((f, word) ∷ v.words) f left)) (sym (out_at-here v.outs f (Some (out_as left lease)))) (λ n. refl)
        (taken_frame v.workers v.numbers word (out_at v.outs f) (λ n. entry_at v.entries n f) word.owner lease same)

pub got_sight : (locks : LockTable) (v v' : View) (f tag : ℕ) (lease : Leased) (told : Flag) → IsFrameOf locks f → (KnowsAll locks v → KnowsAll locks v') → GotOwn v v' f tag lease told → KeepsSight locks v v'
got_sight locks v v' f tag lease told lt knows got = record {
  numbers = ap (λ (u : View). u.numbers) got.view;
  knows = knows;
  settled = λ s. record {
    knows = knows s.knows;
    each = λ g there. subst (λ (u : View). IsSettledIn u g) (sym got.view) (taken_settled locks v f got.word lease lt s.knows got.met (s.each f lt) g (s.each g there));
  };
}

-- ---- a frame was put back

put_frame : (workers : ℕ) (numbers : Numbers) (word : LockWord) (held : Option Out) (es : List Entry) (f : ℕ) (now : Flag) (bytes : List ℕ) → now ≢ flag.Due → now ≢ flag.Done
    → IsSettledFrame workers numbers word held (λ n. entry_at es n f) → IsSettledFrame workers numbers (put_as now word) None (λ n. entry_at (entry_as f (put_as now word) bytes ∷ es) n f)
put_frame workers numbers word held es f now bytes not_due not_done is = record {
  worker = is.worker;
  not_due = not_due;
  not_done = not_done;
  home = λ _. refl;
  out = λ o e. absurd (cc e);
  last = entry_as f (put_as now word) bytes;
  at = entry_at-here es (entry_as f (put_as now word) bytes);
  tag_is = refl;
  flag_is = refl;
  others = λ n e has ne at. is.others n e has ne (sym (entry_at-other_number es (entry_as f (put_as now word) bytes) n f ne) ∙ at);
}

put_settled : (v : View) (f : ℕ) (now : Flag) (bytes : List ℕ) → out_at v.outs f ≡ Some (out_of v f) → now ≢ flag.Due → now ≢ flag.Done → IsSettledIn v f → (g : ℕ) → IsSettledIn v g → IsSettledIn (put_back v f (put_as now (out_of v f).word) bytes) g
put_settled v f now bytes out not_due not_done here g is = elim (cases_eq g f) [
  | inl e ↦ subst (IsSettledIn v') (sym e) at_f
  | inr ne ↦ settled_as v.workers v.numbers (known_at v g) (known_at v' g) (out_at v.outs g) (out_at v'.outs g) (λ n. entry_at v.entries n g) (λ n. entry_at v'.entries n g)
      (sym (known_else v.words f left g ne)) (sym (out_at-else v.outs f None g ne)) (λ n. sym (entry_at-other_frame v.entries entry n g ne)) is
]
  where
    left : LockWord
    left = put_as now (out_of v f).word

    entry : Entry
    entry = entry_as f left bytes

    v' : View
    v' = put_back v f left bytes

    same : IsSettledFrame v.workers v.numbers (out_of v f).word (out_at v.outs f) (λ n. entry_at v.entries n f)
    same = subst (λ (w : LockWord). IsSettledFrame v.workers v.numbers w (out_at v.outs f) (λ n. entry_at v.entries n f)) (sym (here.out (out_of v f) out)) here

    at_f : IsSettledIn v' f
    at_f = settled_as v.workers v.numbers left (known_at v' f) None (out_at v'.outs f) (λ n. entry_at v'.entries n f) (λ n. entry_at v'.entries n f)
        (sym (known_here v.words f left)) (sym (out_at-here v.outs f None)) (λ n. refl)
        (put_frame v.workers v.numbers (out_of v f).word (out_at v.outs f) v.entries f now bytes not_due not_done same)

-- the flag that is put is neither Due nor Done where the one that was taken was neither
pub record IsPutPlain (was now : Flag) : Type 0 where
  pub not_due : was ≢ flag.Due → now ≢ flag.Due
  pub not_done : was ≢ flag.Done → now ≢ flag.Done

pub put_sight : (locks : LockTable) (v v' : View) (f : ℕ) (now : Flag) (bytes : List ℕ) → IsFrameOf locks f → (KnowsAll locks v → KnowsAll locks v') → out_at v.outs f ≡ Some (out_of v f) → IsPutPlain (out_of v f).word.flag now
    → v' ≡ put_back v f (put_as now (out_of v f).word) bytes → KeepsSight locks v v'
put_sight locks v v' f now bytes lt knows out plain put = record {
  numbers = ap (λ (u : View). u.numbers) put;
  knows = knows;
  settled = λ s.
      let here = s.each f lt in
      let word = here.out (out_of v f) out in record {
        knows = knows s.knows;
        each = λ g there. subst (λ (u : View). IsSettledIn u g) (sym put)
            (put_settled v f now bytes out (plain.not_due (λ e. here.not_due (ap (λ (w : LockWord). w.flag) (sym word) ∙ e))) (plain.not_done (λ e. here.not_done (ap (λ (w : LockWord). w.flag) (sym word) ∙ e))) here g (s.each g there));
      };
}

-- ---- a frame was stolen

stolen_frame : (workers : ℕ) (numbers : Numbers) (word : LockWord) (held : Option Out) (es : List Entry) (f number : ℕ) (lease : Leased) → number < workers → IsSpare word.flag
    → IsSettledFrame workers numbers word held (λ n. entry_at es n f)
    → IsSettledFrame workers numbers (stolen_as number word) (Some (out_as (stolen_as number word) lease)) (λ n. entry_at (entry_as f (stolen_as number word) lease.bytes ∷ es) n f)
stolen_frame workers numbers word held es f number lease below spare is = record {
  worker = below;
  not_due = λ e. cc e;
  not_done = λ e. cc e;
  home = λ e. absurd (cc e);
  out = λ o e. (let q : out_as left lease ≡ o = cc e in ap (λ (z : Out). z.word) (sym q));
  last = entry_as f left lease.bytes;
  at = entry_at-here es (entry_as f left lease.bytes);
  tag_is = refl;
  flag_is = refl;
  others = λ n e has ne at. was n e has (sym (entry_at-other_number es (entry_as f left lease.bytes) n f ne) ∙ at);
}
  where
    left : LockWord
    left = stolen_as number word

    was : (n : ℕ) (e : Entry) → is_among numbers n ≡ true → entry_at es n f ≡ Some e → IsSpare e.flag
    was n e has at = elim (cases_eq n word.owner) [
      | inl own ↦
          let q : Some is.last ≡ Some e = sym is.at ∙ ap (λ m. entry_at es m f) (sym own) ∙ at in
          let p : is.last ≡ e = cc q in
          subst IsSpare (sym is.flag_is ∙ ap (λ (z : Entry). z.flag) p) spare
      | inr other ↦ is.others n e has other at
    ]

stolen_settled : (locks : LockTable) (v : View) (f number : ℕ) (word : LockWord) (lease : Leased) → IsFrameOf locks f → number < v.workers → CanBeStolen word → KnowsAll locks v → IsTold v f word → IsSettledIn v f
    → (g : ℕ) → IsSettledIn v g → IsSettledIn (stolen_out (meets v f word) f word (stolen_as number word) lease) g
stolen_settled locks v f number word lease lt below can knows told here g is = elim (cases_eq g f) [
  | inl e ↦ subst (IsSettledIn v') (sym e) at_f
  | inr ne ↦ settled_as v.workers v.numbers (known_at v g) (known_at v' g) (out_at v.outs g) (out_at v'.outs g) (λ n. entry_at v.entries n g) (λ n. entry_at v'.entries n g)
      (sym (known_else ((f, word) ∷ v.words) f left g ne ∙ known_else v.words f word g ne)) (sym (out_at-else v.outs f (Some (out_as left lease)) g ne)) (λ n. sym (entry_at-other_frame v.entries entry n g ne)) is
]
  where
    left : LockWord
    left = stolen_as number word

    entry : Entry
    entry = entry_as f left lease.bytes

    v' : View
    v' = stolen_out (meets v f word) f word left lease

    same : IsSettledFrame v.workers v.numbers word (out_at v.outs f) (λ n. entry_at v.entries n f)
    same = subst (λ (w : LockWord). IsSettledFrame v.workers v.numbers w (out_at v.outs f) (λ n. entry_at v.entries n f)) (sym (met_known locks v f word lt knows told)) here

    at_f : IsSettledIn v' f
    at_f = settled_as v.workers v.numbers left (known_at v' f) (Some (out_as left lease)) (out_at v'.outs f) (λ n. entry_at v'.entries n f) (λ n. entry_at v'.entries n f)
        (sym (known_here ((f, word) ∷ v.words) f left)) (sym (out_at-here v.outs f (Some (out_as left lease)))) (λ n. refl)
        (stolen_frame v.workers v.numbers word (out_at v.outs f) v.entries f number lease below can.spare same)

pub stolen_sight : (locks : LockTable) (v v' : View) (number f tag : ℕ) (lease : Leased) → IsFrameOf locks f → number < v.workers → (KnowsAll locks v → KnowsAll locks v') → GotStolen v v' number f lease tag → KeepsSight locks v v'
stolen_sight locks v v' number f tag lease lt below knows got = record {
  numbers = ap (λ (u : View). u.numbers) got.view;
  knows = knows;
  settled = λ s. record {
    knows = knows s.knows;
    each = λ g there. subst (λ (u : View). IsSettledIn u g) (sym got.view) (stolen_settled locks v f number got.word lease lt below got.free s.knows got.met (s.each f lt) g (s.each g there));
  };
}

pub not_sight : (locks : LockTable) (v v' : View) (number f : ℕ) (word : LockWord) → IsFrameOf locks f → (KnowsAll locks v → KnowsAll locks v') → StealAnswer v v' number f (steal.Not word) → KeepsSight locks v v'
not_sight locks v v' number f word lt knows = ⊎_elim (λ a. met_sight locks v v' f word lt knows a.0) (two_sight locks v v' f word knows)
