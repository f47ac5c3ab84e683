-- The records of the pages that an operation changed, written one after the other.
use Rattle.std.proofs.Common.{◌≡◌, ℕ, ◌+◌, ◌^◌, ◌/◌, ◌<◌, ◌≤◌, ⊎_elim, List, [], ◌∷◌, ◌++◌, length, take, map, get_or, refl, sym, ap, subst, ◌∙◌, arith}
use Rattle.std.specs.Prelude.{IsTrue, Some, Option, slice_get}
use Rattle.std.specs.List.{Contains}
use Rattle.std.proofs.lemmas.List.{map-append}
use Rattle.std.proofs.lemmas.List.Elements.{Contains-append_left, Contains-push, Contains-push_cases}
use Rattle.std.proofs.lemmas.Bool.{cases_lt}
use Rattle.std.proofs.lemmas.Option.{get_or_from_slice_get}
use Rattle.pm_types.specs.Spans.{Coverage, IsPatch}
use Rattle.pm_frame.specs.Frames.{Frame}
use Rattle.pm_records.specs.Operations.{SpellRecords, record_bytes}
use Rattle.pm_stripe.specs.declared.limits.TheConstants.{PAGE_EXTRA}
use Rattle.pm_stripe.specs.declared.held.Held.{Held}
use Rattle.pm_stripe.specs.ChangedPages.{ChangedPage, page_record, frame_for, has_bytes, is_changed, as_changed}
use Rattle.pm_stripe.specs.Listings.{RiseByName, IsChangedPage, AreLoggable, pages_room, NoneFrom, IsNextFrom, WritesPage, WritesPages, HavePatches}
use Rattle.pm_stripe.proofs.PageRooms.{rooms_from, rooms_after, rooms_all}
use Rattle.pm_stripe.proofs.Spelling.{spell_append, spell_one}

-- the names rise from `low` on, and each is below `high`
abbrev pub RiseTo : ℕ → List ChangedPage → ℕ → Type 0
RiseTo low [] high = low ≤ high
RiseTo low (p ∷ ps) high = (low ≤ p.page.0) × RiseTo (p.page.0 + 1) ps high

rise_push : (low high : ℕ) (ps : List ChangedPage) (p : ChangedPage) → RiseTo low ps high → high ≤ p.page.0 → RiseTo low (ps ++ p ∷ []) (p.page.0 + 1)
rise_push low high [] p rise le = (omega (arith, rise, le), omega arith)
rise_push low high (q ∷ qs) p rise le = (rise.0, rise_push (q.page.0 + 1) high qs p rise.1 le)

rises : (low high : ℕ) (ps : List ChangedPage) → RiseTo low ps high → RiseByName low ps
rises low high [] rise = tt
rises low high (p ∷ ps) rise = (rise.0, rises (p.page.0 + 1) high ps rise.1)

abbrev pub frames_of : List ChangedPage → List Frame
frames_of listed = map (λ p. frame_for (page_record p)) listed

-- the pages with names below `low` are written, up to `end`
pub record AreWritten (held : List Held) (into : List ℕ) (end low : ℕ) : Type 0 where
  pub room : end + rooms_from low held ≤ pages_room held
  pub within : pages_room held ≤ length into
  pub listed : List ChangedPage
  pub rise : RiseTo 0 listed low
  pub all : (p : ChangedPage) → IsChangedPage held p → p.page.0 < low → Contains listed p
  pub only : (p : ChangedPage) → Contains listed p → IsChangedPage held p
  pub fit : HavePatches listed
  pub spelled : SpellRecords (take end into) (frames_of listed)

pub none_written : (held : List Held) (into : List ℕ) → pages_room held ≤ length into → AreWritten held into 0 0
none_written held into within = record {
  room = omega (arith, rooms_all held);
  within = within;
  listed = [];
  rise = omega arith;
  all = λ p is below. absurd (omega (arith, below));
  only = λ p has. absurd (let k : has.0 < 0 = has.1 in omega (arith, k));
  fit = λ p has. absurd (let k : has.0 < 0 = has.1 in omega (arith, k));
  spelled = (tt, refl);
}

changed_of : (o : Option Coverage) (patch : Coverage) → o ≡ Some patch → IsTrue (has_bytes patch) → IsTrue (is_changed o)
changed_of o patch is some = subst (λ (x : Option Coverage). IsTrue (is_changed x)) (sym is) some

bytes_of_changed : (o : Option Coverage) (patch : Coverage) → o ≡ Some patch → IsTrue (is_changed o) → IsTrue (has_bytes patch)
bytes_of_changed o patch is some = subst (λ (x : Option Coverage). IsTrue (is_changed x)) is some

same_patch : (h g : Held) (p q : Coverage) → h ≡ g → h.patch ≡ Some p → g.patch ≡ Some q → p ≡ q
same_patch h g p q e a b = let s : Some p ≡ Some q = sym a ∙ ap (λ (x : Held). x.patch) e ∙ b in cc s

-- one page more is written
module _ (held : List Held) (into into' : List ℕ) (end end' low place : ℕ) (h : Held) (bytes : List ℕ) (loggable : AreLoggable held) (was : AreWritten held into end low) (next : IsNextFrom held low place) (here : slice_get held place ≡ Some h)
    (long : length into' ≡ length into) (cut : take end' into' ≡ take end into ++ bytes) (writes : WritesPage h bytes) (short : end' ≤ end + (length h.lease.bytes + PAGE_EXTRA)) where
  abbrev page : ChangedPage
  page = as_changed h writes.patch

  is_next : next.page ≡ h
  is_next = let s : Some next.page ≡ Some h = sym next.at ∙ here in cc s

  changed : IsTrue (is_changed h.patch)
  changed = subst (λ (x : Held). IsTrue (is_changed x.patch)) is_next next.here.changed

  from : low ≤ h.page.0
  from = subst (λ (x : Held). low ≤ x.page.0) is_next next.here.from

  is_page : IsChangedPage held page
  is_page = record { place = place; page = h; patch = writes.patch; at = here; patched = writes.patched; some = bytes_of_changed h.patch writes.patch writes.patched changed; is = refl }

  is_this : (p : ChangedPage) → IsChangedPage held p → low ≤ p.page.0 → p.page.0 < h.page.0 + 1 → p ≡ page
  is_this p is from_low below =
      let name : p.page.0 ≡ is.page.page.0 = ap (λ (x : ChangedPage). x.page.0) is.is in
      let least : next.page.page.0 ≤ is.page.page.0 = next.least is.place is.page is.at (changed_of is.page.patch is.patch is.patched is.some) (omega (arith, name, from_low)) in
      let same_name : is.page.page.0 ≡ h.page.0 = omega (arith, name, least, below, ap (λ (x : Held). x.page.0) is_next) in
      let same : is.page ≡ h = loggable.once is.place place is.page h is.at here same_name in
      is.is ∙ (λ i. as_changed (same i) (same_patch is.page h is.patch writes.patch same is.patched writes.patched i))

  pub one_more : AreWritten held into' end' (h.page.0 + 1)
  one_more = record {
    room = omega (arith, was.room, short, rooms_after low place held h here changed from);
    within = omega (arith, was.within, long);
    listed = was.listed ++ page ∷ [];
    rise = rise_push 0 low was.listed page was.rise from;
    all = λ p is below. ⊎_elim
        (λ lower. Contains-append_left was.listed (page ∷ []) p (was.all p is lower))
        (λ from_low. subst (λ (x : ChangedPage). Contains (was.listed ++ page ∷ []) x) (sym (is_this p is from_low below)) (Contains-push was.listed page))
        (cases_lt p.page.0 low);
    only = λ p has. ⊎_elim
        (λ old. was.only p old)
        (λ new. subst (IsChangedPage held) new is_page)
        (Contains-push_cases was.listed page p has);
    fit = λ p has. ⊎_elim
        (λ old. was.fit p old)
        (λ new. subst (λ (x : ChangedPage). IsPatch x.patch) new writes.fits)
        (Contains-push_cases was.listed page p has);
    spelled = subst (λ (x : List Frame). SpellRecords (take end' into') x) (sym (map-append (λ (p : ChangedPage). frame_for (page_record p)) was.listed (page ∷ [])))
        (subst (λ (x : List ℕ). SpellRecords x (frames_of was.listed ++ frames_of (page ∷ []))) (sym (cut ∙ ap (λ x. take end into ++ x) writes.spelled))
        (spell_append (take end into) (record_bytes (frame_for (page_record page))) (frames_of was.listed) (frames_of (page ∷ [])) was.spelled (spell_one (frame_for (page_record page)) writes.logged)));
  }

-- all pages that were changed are written
pub all_written : (held : List Held) (into : List ℕ) (end low : ℕ) → AreWritten held into end low → NoneFrom held low → WritesPages held (take end into)
all_written held into end low was none = record {
  listed = was.listed;
  lists = record {
    rise = rises 0 low was.listed was.rise;
    all = λ p is. was.all p is (let name : p.page.0 ≡ is.page.page.0 = ap (λ (x : ChangedPage). x.page.0) is.is in omega (arith, name, none is.place is.page is.at (changed_of is.page.patch is.patch is.patched is.some)));
    only = was.only;
  };
  fit = was.fit;
  spelled = was.spelled;
}

-- the page in the place that is next
pub here_of : (held : List Held) (low place : ℕ) (h : Held) → h ≡ get_or held place h → IsNextFrom held low place → slice_get held place ≡ Some h
here_of held low place h is next = next.at ∙ ap Some (sym (is ∙ get_or_from_slice_get held place next.page h next.at))

-- its name is `low` or above it, and that of a page
pub name_of : (held : List Held) (low place : ℕ) (h : Held) → AreLoggable held → slice_get held place ≡ Some h → IsNextFrom held low place → (low ≤ h.page.0) × (h.page.0 / 2 ^ 48 ≡ 1)
name_of held low place h loggable here next =
    let same : Some next.page ≡ Some h = sym next.at ∙ here in
    let e : next.page ≡ h = cc same in
    (subst (λ (x : Held). low ≤ x.page.0) e next.here.from, (loggable.each place h here).named.flag)

-- its record fits
pub fits_next : (held : List Held) (into : List ℕ) (end low place : ℕ) (h : Held) → AreWritten held into end low → slice_get held place ≡ Some h → IsNextFrom held low place → end + (length h.lease.bytes + PAGE_EXTRA) ≤ length into
fits_next held into end low place h was here next =
    let same : Some next.page ≡ Some h = sym next.at ∙ here in
    let e : next.page ≡ h = cc same in
    omega (arith, was.room, was.within, rooms_after low place held h here (subst (λ (x : Held). IsTrue (is_changed x.patch)) e next.here.changed) (subst (λ (x : Held). low ≤ x.page.0) e next.here.from))
