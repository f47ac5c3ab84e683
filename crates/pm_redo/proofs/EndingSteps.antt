-- A checkpoint is ended by steps that meet their guards.
use Rattle.std.proofs.Common.{◌≡◌, ◌⊎◌, inl, inr, ℕ, zero, suc, ◌+◌, ◌<◌, ◌≤◌, List, [], ◌∷◌, ◌++◌, length, Option, Some, None, Bool, true, false, refl, sym, ◌∙◌, ap, subst, arith, Result}
use Rattle.std.specs.Option.{option_or}
use Rattle.std.specs.Prelude.{IsSome, is_some, if◌then◌else◌, ◌==◌, ◌&&◌}
use Rattle.std.proofs.lemmas.Bool.{and_parts, eqb-true}
use Rattle.std.proofs.lemmas.Option.{same_Some}
use Rattle.pm_types.specs.declared.limits.TheConstants.{PARTITIONS_MAX}
use Rattle.pm_types.specs.declared.page_id.PageId.{PageId}
use Rattle.pm_types.specs.declared.shape.Mark.{Mark}
use Rattle.pm_types.specs.declared.shape.Shape.{Shape}
use Rattle.pm_types.specs.Ids.{part_of_id, index_of_id}
use Rattle.pm_disk.specs.Files.{File, bytes_of, content, at_change, all_forced}
use Rattle.pm_disk.specs.Images.{Lasting}
use Rattle.pm_disk.specs.Moments.{History, IsHistory, WritesPage, AllMoments}
use Rattle.pm_disk.specs.Worlds.{World}
use Rattle.pm_disk.proofs.Families.{file_cases}
use Rattle.pm_disk.proofs.Files.{at_change-last}
use Rattle.pm_records.proofs.Runs.{option_cases}
use Rattle.pm_marks.specs.Slots.{IsMark}
use Rattle.std.specs.FinMap.{empty}
use Rattle.pm_records.specs.LogFiles.{Uncut}
use Rattle.pm_records.specs.Logs.{place}
use Rattle.pm_marks.specs.InForce.{NoStart, Started, number_in}
use Rattle.pm_core.specs.BasePages.{Partitions, no_pages, page_in_file, pages_of, laid_over}
use Rattle.pm_core.specs.Calls.{AreRebuilt, MakesPrefix, end_steps, force_steps, finish_steps, CanFinish}
use Rattle.pm_core.specs.Machine.{DiskStep, WritePage, ForcePages, CanWritePage, CanAll, next_state, next_world, states, worlds, forced_pages}
use Rattle.pm_core.specs.PageLaws.{Grows}
use Rattle.pm_core.specs.PageSets.{has_part, has_index}
use Rattle.pm_core.specs.Prefixes.{last_number}
use Rattle.pm_core.specs.Stands.{page_low, page_high, IsViewOf, IsGood, Stands, soon_or}
use Rattle.pm_core.specs.Starts.{appended}
use Rattle.pm_core.specs.States.{State, View}
use Rattle.pm_core.proofs.CrashLaw.{run_stands}
use Rattle.pm_core.proofs.Finishing.{finish_can}
use Rattle.pm_core.proofs.Joins.{can-append}
use Rattle.pm_core.proofs.Making.{makes_none, moments_one, moments_joined, world_joined, worlds_join}
use Rattle.pm_core.proofs.Ranges.{page_own, page_within}
use Rattle.pm_redo.specs.PageMaps.{PageMap, kept_pages}
use Rattle.pm_redo.specs.Pictures.{files_in}
use Rattle.pm_redo.specs.Ending.{IsUnended, BeginsSteps, StandsInFile, WritesOne, WritesPages, MayEnd, EndsCheckpoint, LaysPages, ended_state}
use Rattle.pm_redo.proofs.WrittenPages.{stands_here, stands_still}

pub states_join : (xs ys : List DiskStep) (s : State) (w : World) → states (xs ++ ys) s w ≡ states ys (states xs s w) (worlds xs s w)
states_join [] ys s w = refl
states_join (x ∷ xs) ys s w = states_join xs ys (next_state x s w) (next_world x s w)

-- ---- one page

module _ (told : List ℕ → ℕ) (mark : Mark) (kept : PageMap) (page : PageId) (s : State) (old new : History) (sound : IsHistory old) (unended : IsUnended mark kept s) where
  pub no_steps : BeginsSteps told s old old
  no_steps = record { steps = []; can = tt; moments = makes_none old [] s sound; added = refl; number = refl }

  pub nothing_written : kept_pages kept (part_of_id page) (index_of_id page) ≡ None → WritesOne told kept page s old old
  nothing_written none = record {
    steps = [];
    can = tt;
    moments = makes_none old [] s sound;
    is = refl;
    still = refl;
    ends = refl;
    here = λ bytes is. let no : None ≡ Some bytes = sym none ∙ is in absurd cc;
    others = λ part index bytes is stands. stands;
    apart = λ part index bytes none stands. stands;
  }

  module _ {T E : Type 0} (result : Result T E) (bytes : List ℕ) (found : kept_pages kept (part_of_id page) (index_of_id page) ≡ Some bytes) (sized : length bytes ≡ kept.shape.page_size)
      (writes : WritesPage {T = T} {E = E} old new result page bytes) where
    abbrev step : DiskStep
    step = WritePage page writes.gap bytes

    can_write : CanWritePage page writes.gap bytes s old.world
    can_write = record {
      mark = mark;
      runs = unended.runs;
      alone = unended.alone;
      sized = sized ∙ ap (λ (shape : Shape). shape.page_size) (sym unended.shaped);
      reaches = writes.reaches;
      due = ap (λ (p : Partitions). is_some (p (part_of_id page) (index_of_id page))) unended.rebuilt ∙ ap (λ o. is_some o) found;
    }

    moments : AllMoments old new (MakesPrefix (step ∷ []) s old.world)
    moments = moments_one old new result step s sound writes.does

    pub page_begun : BeginsSteps told s old new
    page_begun = record { steps = step ∷ []; can = (can_write, tt); moments = moments; added = refl; number = refl }

    pub page_written : new.world ≡ next_world step s old.world → WritesOne told kept page s old new
    page_written is = record {
      steps = step ∷ [];
      can = (can_write, tt);
      moments = moments;
      is = is;
      still = refl;
      ends = ap (λ (w : World). w.ends) is;
      here = λ other there.
          let same : bytes ≡ other = same_Some bytes other (sym found ∙ there) in
          subst (λ (w : World). StandsInFile kept.shape.page_size w (part_of_id page) (index_of_id page) other) (sym is)
          (subst (StandsInFile kept.shape.page_size (next_world step s old.world) (part_of_id page) (index_of_id page)) same (stands_here kept.shape.page_size old.world page writes.gap bytes sized writes.reaches));
      others = λ part index other there stands.
          subst (λ (w : World). StandsInFile kept.shape.page_size w part index other) (sym is)
          (stands_still kept.shape.page_size old.world page writes.gap bytes sized writes.reaches part index other
          (λ p i. same_Some other bytes (sym there ∙ ap (λ n. kept_pages kept n index) p ∙ ap (λ n. kept_pages kept (part_of_id page) n) i ∙ found)) stands);
      apart = λ part index other none stands.
          subst (λ (w : World). StandsInFile kept.shape.page_size w part index other) (sym is)
          (stands_still kept.shape.page_size old.world page writes.gap bytes sized writes.reaches part index other
          (λ p i. (let both : None ≡ Some bytes = sym none ∙ ap (λ n. kept_pages kept n index) p ∙ ap (λ n. kept_pages kept (part_of_id page) n) i ∙ found in absurd cc)) stands);
    }

-- ---- pages, one after the other

pub written_none : (told : List ℕ → ℕ) (kept : PageMap) (pages : List PageId) (s : State) (old : History) → IsHistory old → WritesPages told kept pages pages s old old
written_none told kept pages s old sound = record {
  steps = [];
  can = tt;
  moments = makes_none old [] s sound;
  is = refl;
  still = refl;
  ends = refl;
  written = λ part index bytes has there. inl has;
  apart = λ part index bytes none stands. stands;
}

module _ (told : List ℕ → ℕ) (kept : PageMap) (pages left rest : List PageId) (page : PageId) (s : State) (old mid new : History) (first : WritesPages told kept pages left s old mid) where
  -- the state after the first pages is the same one
  can_then : (steps : List DiskStep) → CanAll told steps s mid.world → CanAll told (first.steps ++ steps) s old.world
  can_then steps can =
      can-append told first.steps steps s old.world first.can
      (subst (λ (r : State). CanAll told steps r (worlds first.steps s old.world)) (sym first.still) (subst (λ (w : World). CanAll told steps s w) first.is can))

  moments_then : (steps : List DiskStep) → AllMoments mid new (MakesPrefix steps s mid.world) → AllMoments old new (MakesPrefix (first.steps ++ steps) s old.world)
  moments_then steps moments =
      moments_joined old mid new first.steps steps s first.moments first.is (subst (λ (r : State). AllMoments mid new (MakesPrefix steps r mid.world)) (sym first.still) moments)

  pub pages_begun : BeginsSteps told s mid new → BeginsSteps told s old new
  pages_begun begun = record {
    steps = first.steps ++ begun.steps;
    can = can_then begun.steps begun.can;
    moments = moments_then begun.steps begun.moments;
    added = ap appended state_then ∙ begun.added;
    number = ap last_number state_then ∙ begun.number;
  }
    where
      state_then : states (first.steps ++ begun.steps) s old.world ≡ states begun.steps s mid.world
      state_then = states_join first.steps begun.steps s old.world ∙ ap (λ (r : State). states begun.steps r (worlds first.steps s old.world)) first.still ∙ ap (λ (w : World). states begun.steps s w) (sym first.is)

  pub pages_more : left ≡ page ∷ rest → WritesOne told kept page s mid new → WritesPages told kept pages rest s old new
  pages_more is one = record {
    steps = first.steps ++ one.steps;
    can = can_then one.steps one.can;
    moments = moments_then one.steps one.moments;
    is = world_joined old.world mid.world new.world first.steps one.steps s first.is (one.is ∙ ap (λ (r : State). worlds one.steps r mid.world) (sym first.still));
    still = states_join first.steps one.steps s old.world ∙ ap (λ (r : State). states one.steps r (worlds first.steps s old.world)) first.still
        ∙ ap (λ (w : World). states one.steps s w) (sym first.is) ∙ one.still;
    ends = one.ends ∙ first.ends;
    written = λ part index bytes has there. elim (first.written part index bytes has there) [
      | inr stands ↦ inr (one.others part index bytes there stands)
      | inl still ↦
          by part index bytes there (part_of_id page == part && index_of_id page == index) refl
          (subst (λ (l : List PageId). has_index part index l ≡ true) is still)
    ];
    apart = λ part index bytes none stands. one.apart part index bytes none (first.apart part index bytes none stands);
  }
    where
      by : (part index : ℕ) (bytes : List ℕ) → kept_pages kept part index ≡ Some bytes → (b : Bool) → (part_of_id page == part && index_of_id page == index) ≡ b
          → (let t : Bool = if part_of_id page == part && index_of_id page == index then true else has_index part index rest in t) ≡ true
          → (has_index part index rest ≡ true) ⊎ StandsInFile kept.shape.page_size new.world part index bytes
      by part index bytes there true it has =
          let both = and_parts (part_of_id page == part) (index_of_id page == index) it in
          let p = eqb-true (part_of_id page) part both.0 in
          let i = eqb-true (index_of_id page) index both.1 in
          let found : kept_pages kept (part_of_id page) (index_of_id page) ≡ Some bytes = ap (λ n. kept_pages kept n (index_of_id page)) p ∙ ap (λ n. kept_pages kept part n) i ∙ there in
          inr (subst (λ n. StandsInFile kept.shape.page_size new.world n index bytes) p (subst (λ n. StandsInFile kept.shape.page_size new.world (part_of_id page) n bytes) i (one.here bytes found)))
      by part index bytes there false it has =
          inl (sym (ap (λ (b : Bool). let t : Bool = if b then true else has_index part index rest in t) it) ∙ has)

-- a page among none
pub all_written : (told : List ℕ → ℕ) (kept : PageMap) (pages : List PageId) (s : State) (old new : History) → WritesPages told kept pages [] s old new → (part index : ℕ) (bytes : List ℕ) → has_index part index pages ≡ true
    → kept_pages kept part index ≡ Some bytes → StandsInFile kept.shape.page_size new.world part index bytes
all_written told kept pages s old new all part index bytes has there = elim (all.written part index bytes has there) [
  | inl has_none ↦ let both : false ≡ true = has_none in absurd cc
  | inr stands ↦ stands
]

-- ---- the end

forces_still : (from n : ℕ) (pages : List PageId) (s : State) (w : World) → states (force_steps from n pages) s w ≡ s
unfolding force_steps
forces_still from zero pages s w = refl
forces_still from (suc n) pages s w = by (forces_still (from + 1) n pages s) (has_part from pages)
  where
    by : ((v : World) → states (force_steps (from + 1) n pages) s v ≡ s) → (b : Bool) → (let steps : List DiskStep = (if b then ForcePages from ∷ [] else []) ++ force_steps (from + 1) n pages in states steps s w ≡ s)
    by rest true = rest (next_world (ForcePages from) s w)
    by rest false = rest w

forces_content : (from n : ℕ) (pages : List PageId) (s : State) (w : World) (part : ℕ) → content ((worlds (force_steps from n pages) s w).pages part) ≡ content (w.pages part)
unfolding force_steps
forces_content from zero pages s w part = refl
forces_content from (suc n) pages s w part = by (λ v. forces_content (from + 1) n pages s v part) (has_part from pages)
  where
    by : ((v : World) → content ((worlds (force_steps (from + 1) n pages) s v).pages part) ≡ content (v.pages part)) → (b : Bool)
        → (let steps : List DiskStep = (if b then ForcePages from ∷ [] else []) ++ force_steps (from + 1) n pages in content ((worlds steps s w).pages part) ≡ content (w.pages part))
    by rest true = rest (next_world (ForcePages from) s w) ∙ file_cases w.pages from (all_forced (w.pages from)) (λ k f. content f ≡ content (w.pages k)) refl (λ k other. refl) part
    by rest false = rest w

-- a page that is lasting is there now
pub lasting_page : (size index : ℕ) (file : File) (page : List ℕ) → Lasting file (page_low size index) (page_high size index) → page_in_file size file.forced index ≡ Some page → page_in_file size (content file) index ≡ Some page
lasting_page size index file page lasts is =
    let last : at_change file (length file.since) ≡ content file = at_change-last file (length file.since) (omega arith) in
    subst (λ o. page_in_file size o index ≡ Some page) last
    (page_own size index file.forced (at_change file (length file.since)) page is (lasts.long (length file.since) (omega arith)) (λ i le lt. lasts.same (length file.since) (omega arith) i le lt))

-- one that no moment reaches isn't
pub short_page : (size index : ℕ) (file : File) → ((k : ℕ) → k ≤ length file.since → length (bytes_of (at_change file k)) < page_high size index) → page_in_file size (content file) index ≡ None
short_page size index file short =
    let last : at_change file (length file.since) ≡ content file = at_change-last file (length file.since) (omega arith) in
    elim (option_cases (page_in_file size (content file) index)) [
      | inl none ↦ none
      | inr some ↦
          absurd (omega (arith, (page_within size index (content file) some.0 some.1).0, subst (λ (o : Option (List ℕ)). length (bytes_of o) < page_high size index) last (short (length file.since) (omega arith))))
    ]

-- the end of a checkpoint leaves what the partitions' files hold
finish_files : (mark : Mark) (pages : List PageId) (s : State) (w : World) (part : ℕ) → content ((worlds (finish_steps mark pages) s w).pages part) ≡ content (w.pages part)
finish_files mark pages s w part =
    let forces = force_steps 0 PARTITIONS_MAX pages in
    ap (λ (v : World). content (v.pages part)) (worlds_join forces (end_steps mark) s w) ∙ forces_content 0 PARTITIONS_MAX pages s w part

-- the pages that the log rebuilds are in their files then, and the others are still
pub lays_pages : (told : List ℕ → ℕ) (mark : Mark) (kept : PageMap) (pages : List PageId) (s : State) (old mid new : History) → WritesPages told kept pages [] s old mid → AreRebuilt pages (kept_pages kept)
    → new.world ≡ worlds (finish_steps mark pages) s mid.world → LaysPages kept old.world new.world
lays_pages told mark kept pages s old mid new wrote are is part index bytes was = then_there (by (kept_pages kept part index) refl was)
  where
    then_there : StandsInFile kept.shape.page_size mid.world part index bytes → StandsInFile kept.shape.page_size new.world part index bytes
    then_there there =
        ap (λ (o : Option (List ℕ)). page_in_file kept.shape.page_size o index) (ap (λ (w : World). content (w.pages part)) is ∙ finish_files mark pages s mid.world part) ∙ there

    by : (o : Option (List ℕ)) → kept_pages kept part index ≡ o → option_or o (page_in_file kept.shape.page_size (content (old.world.pages part)) index) ≡ Some bytes → StandsInFile kept.shape.page_size mid.world part index bytes
    by None none there = wrote.apart part index bytes none there
    by (Some page) some there =
        let found : kept_pages kept part index ≡ Some bytes = some ∙ there in
        all_written told kept pages s old mid wrote part index bytes (are part index (ap (λ o. is_some o) found)) found

module _ (wanted : Shape) (told : List ℕ → ℕ) (mark : Mark) (kept : PageMap) (pages : List PageId) (s : State) (old mid new : History) (may : MayEnd wanted told mark kept pages s old.world) (fits : IsMark mark)
    (wrote : WritesPages told kept pages [] s old mid) where
  stands_mid : Stands wanted told s mid.world
  stands_mid =
      subst (λ (r : State). Stands wanted told r mid.world) wrote.still
      (subst (λ (w : World). Stands wanted told (states wrote.steps s old.world) w) (sym wrote.is) (run_stands wanted told wrote.steps s old.world may.stands wrote.can))

  can_finish : CanFinish mark pages s mid.world
  can_finish = record {
    runs = may.unended.runs;
    alone = may.unended.alone;
    fits = fits;
    pages_are = λ part index some. may.pages_are part index (sym (ap (λ (p : Partitions). is_some (p part index)) may.unended.rebuilt) ∙ some);
    written = λ part index bytes is.
        let there : kept_pages kept part index ≡ Some bytes = sym (ap (λ (p : Partitions). p part index) may.unended.rebuilt) ∙ is in
        let has = may.pages_are part index (ap (λ o. is_some o) there) in
        ap (λ (shape : Shape). page_in_file shape.page_size (content (mid.world.pages part)) index) may.unended.shaped ∙ all_written told kept pages s old mid wrote part index bytes has there;
  }

  can_end : CanAll told (finish_steps mark pages) s mid.world
  can_end = finish_can wanted told mark pages s mid.world stands_mid can_finish

  abbrev all_steps : List DiskStep
  all_steps = wrote.steps ++ finish_steps mark pages

  can_all : CanAll told all_steps s old.world
  can_all = can_then told kept pages [] [] (record { 0 = 0 }) s old mid new wrote (finish_steps mark pages) can_end

  moments_all : AllMoments mid new (MakesPrefix (finish_steps mark pages) s mid.world) → AllMoments old new (MakesPrefix all_steps s old.world)
  moments_all at_each = moments_then told kept pages [] [] (record { 0 = 0 }) s old mid new wrote (finish_steps mark pages) at_each

  -- the checkpoint that runs was the last to begin
  runs_alone : IsUnended mark kept s → last_number s ≡ mark.number
  runs_alone unended = ap (λ (o : Option View). number_in (soon_or o s.now).checkpoint) unended.alone ∙ ap number_in unended.runs

  ended_by : states (finish_steps mark pages) s mid.world ≡ ended_state mark (forced_pages s (worlds (force_steps 0 PARTITIONS_MAX pages) s mid.world)) s
  ended_by =
      let forces = force_steps 0 PARTITIONS_MAX pages in
      states_join forces (end_steps mark) s mid.world
      ∙ ap (λ (r : State). states (end_steps mark) r (worlds forces s mid.world)) (forces_still 0 PARTITIONS_MAX pages s mid.world)

  same_files : new.world ≡ worlds (finish_steps mark pages) s mid.world → (part : ℕ) → content (new.world.pages part) ≡ content (mid.world.pages part)
  same_files is part = ap (λ (w : World). content (w.pages part)) is ∙ finish_files mark pages s mid.world part

  now_good : IsGood wanted s mid.world.log mid.world.pages s.now
  now_good = stands_mid.good s.now (subst (λ o. IsViewOf s.now o s.now) (sym may.unended.alone) refl)

  base_stands : (part index : ℕ) (bytes : List ℕ) → laid_over s.now.rebuilt s.files part index ≡ Some bytes → page_in_file s.shape.page_size (content (mid.world.pages part)) index ≡ Some bytes
  base_stands part index bytes is = by (s.now.rebuilt part index) refl is
    where
      by : (o : Option (List ℕ)) → s.now.rebuilt part index ≡ o → option_or o (s.files part index) ≡ Some bytes → page_in_file s.shape.page_size (content (mid.world.pages part)) index ≡ Some bytes
      by None none is =
          let stands = now_good.pages_stand.kept part index bytes none is in
          lasting_page s.shape.page_size index (mid.world.pages part) bytes stands.0 stands.1
      by (Some page) some is = can_finish.written part index bytes (some ∙ is)

  base_absent : (part index : ℕ) → laid_over s.now.rebuilt s.files part index ≡ None → (page_in_file s.shape.page_size (content (mid.world.pages part)) index ≡ None) ⊎ IsSome (laid_over s.now.rebuilt s.files part 0)
  base_absent part index is = by (s.now.rebuilt part index) refl is
    where
      by : (o : Option (List ℕ)) → s.now.rebuilt part index ≡ o → option_or o (s.files part index) ≡ None → (page_in_file s.shape.page_size (content (mid.world.pages part)) index ≡ None) ⊎ IsSome (laid_over s.now.rebuilt s.files part 0)
      by None none is = elim (now_good.pages_stand.absent part index none is) [
        | inl short ↦ inl (short_page s.shape.page_size index (mid.world.pages part) short)
        | inr meta ↦ inr meta
      ]
      by (Some page) some is = let both : Some page ≡ None = is in absurd cc

  grows : new.world ≡ worlds (finish_steps mark pages) s mid.world → (part : ℕ) → Grows (laid_over s.now.rebuilt s.files part) (pages_of s.shape.page_size (files_in new.world) part)
  grows is part = record {
    stays = λ index bytes was. ap (λ (o : Option (List ℕ)). page_in_file s.shape.page_size o index) (same_files is part) ∙ base_stands part index bytes was;
    comes = λ index none. elim (base_absent part index none) [
      | inl absent ↦ inl (ap (λ (o : Option (List ℕ)). page_in_file s.shape.page_size o index) (same_files is part) ∙ absent)
      | inr meta ↦ inr meta
    ];
  }

  state_all : states all_steps s old.world ≡ ended_state mark (forced_pages s (worlds (force_steps 0 PARTITIONS_MAX pages) s mid.world)) s
  state_all =
      states_join wrote.steps (finish_steps mark pages) s old.world ∙ ap (λ (r : State). states (finish_steps mark pages) r (worlds wrote.steps s old.world)) wrote.still
      ∙ ap (λ (w : World). states (finish_steps mark pages) s w) (sym wrote.is) ∙ ended_by

  pub end_begun : AllMoments mid new (MakesPrefix (finish_steps mark pages) s mid.world) → BeginsSteps told s old new
  end_begun at_each = record { steps = all_steps; can = can_all; moments = moments_all at_each; added = ap appended state_all; number = ap last_number state_all ∙ sym (runs_alone may.unended) }

  pub ends : AllMoments mid new (MakesPrefix (finish_steps mark pages) s mid.world) → new.world ≡ worlds (finish_steps mark pages) s mid.world → EndsCheckpoint told mark s old new
  ends at_each is = record {
    steps = all_steps;
    can = can_all;
    moments = moments_all at_each;
    is = world_joined old.world mid.world new.world wrote.steps (finish_steps mark pages) s wrote.is (is ∙ ap (λ (r : State). worlds (finish_steps mark pages) r mid.world) (sym wrote.still));
    files = forced_pages s (worlds (force_steps 0 PARTITIONS_MAX pages) s mid.world);
    of_files = ((λ part. ((worlds (force_steps 0 PARTITIONS_MAX pages) s mid.world).pages part).forced), refl);
    state = state_all;
    pages = grows is;
  }

-- ---- the log

-- a state, whichever it is
pub any_state : Shape → State
any_state shape = record {
  shape = shape;
  low = 0;
  at = place 1 0;
  pending = [];
  end = place 1 0;
  tail = Uncut;
  now = record { checkpoint = NoStart; rebuilt = no_pages };
  soon = None;
  files = no_pages;
  first = empty;
  order = [];
  map = empty;
}

-- a state in which this checkpoint runs alone, and these are the pages that the log rebuilds for it
abbrev pub unended_state : Mark → PageMap → State
unended_state mark kept = record {
  shape = kept.shape;
  low = 0;
  at = place 1 0;
  pending = [];
  end = place 1 0;
  tail = Uncut;
  now = record { checkpoint = Started mark; rebuilt = kept_pages kept };
  soon = None;
  files = no_pages;
  first = empty;
  order = [];
  map = empty;
}

pub is_unended : (mark : Mark) (kept : PageMap) → IsUnended mark kept (unended_state mark kept)
is_unended mark kept = record { runs = refl; alone = refl; rebuilt = refl; shaped = refl }

forces_log : (from n : ℕ) (pages : List PageId) (s : State) (w : World) → (worlds (force_steps from n pages) s w).log ≡ w.log
unfolding force_steps
forces_log from zero pages s w = refl
forces_log from (suc n) pages s w = by (λ v. forces_log (from + 1) n pages s v) (has_part from pages)
  where
    by : ((v : World) → (worlds (force_steps (from + 1) n pages) s v).log ≡ v.log) → (b : Bool)
        → (let steps : List DiskStep = (if b then ForcePages from ∷ [] else []) ++ force_steps (from + 1) n pages in (worlds steps s w).log ≡ w.log)
    by rest true = rest (next_world (ForcePages from) s w)
    by rest false = rest w

-- the end of a checkpoint leaves the log
pub finish_log : (mark : Mark) (pages : List PageId) (s : State) (w : World) → (worlds (finish_steps mark pages) s w).log ≡ w.log
finish_log mark pages s w =
    let forces = force_steps 0 PARTITIONS_MAX pages in
    ap (λ (v : World). v.log) (worlds_join forces (end_steps mark) s w) ∙ forces_log 0 PARTITIONS_MAX pages s w
