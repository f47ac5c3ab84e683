-- What a line over a worker's page frames leaves, where its pages were made ready before.
use Rattle.std.proofs.Common.{◌≡◌, ◌≢◌, ℕ, ◌<◌, Bool, true, false, List, [], ◌∷◌, ◌⊎◌, ⊎_elim, inl, inr, Option, None, Some, sym, refl, ap, subst, ◌∙◌, arith}
use Rattle.std.specs.Prelude.{IsTrue}
use Rattle.std.proofs.lemmas.Bool.{false≢true, cases_eq}
use Rattle.pm_types.specs.declared.page_id.PageId.{PageId}
use Rattle.pm_types.specs.declared.shape.Shape.{Shape}
use Rattle.pm_types.specs.Ids.{page_id}
use Rattle.pm_disk.specs.Moments.{History}
use Rattle.pm_disk.specs.States.{DeviceState, IsLaterState}
use Rattle.pm_records.specs.Records.{Record}
use Rattle.pm_model.specs.declared.line.Cmd.{Cmd}
use Rattle.pm_model.specs.declared.line.Cmd.TheVariants.{Put, Get, Remove, Scan, Checkpoint}
use Rattle.pm_model.specs.declared.line.Line.{Line}
use Rattle.pm_model.specs.declared.line.Line.TheVariants.{Good}
use Rattle.pm_model.specs.declared.reply.Reply.{Reply}
use Rattle.pm_model.specs.Eval.{is_accepted}
use Rattle.pm_model.specs.Orders.{part_of_line, is_barrier}
use Rattle.pm_model.specs.ReplyLists.{ReplyList, with_replies}
use Rattle.pm_pages.specs.Rows.{Partition, rows_of}
use Rattle.pm_pages.specs.RowMaps.{map_of}
use Rattle.pm_pages.specs.WellFormed.{IsWellFormed}
use Rattle.pm_part.specs.Commands.{accepts}
use Rattle.pm_core.specs.BasePages.{Partitions, counted}
use Rattle.pm_core.specs.Held.{AllWellFormed}
use Rattle.pm_stripe.specs.declared.bound.Bound.{Bound}
use Rattle.pm_stripe.specs.declared.held.Held.{Held}
use Rattle.pm_stripe.specs.Begins.{MakesReady}
use Rattle.pm_stripe.specs.Moves.{HasOperation}
use Rattle.pm_stripe.specs.Kept.{Holds, held_at, page_bytes, is_known, IsStaying}
use Rattle.pm_stripe.specs.Listings.{GrowsByOperation}
use Rattle.pm_stripe.specs.Shown.{kept_by, file_by}
use Rattle.pm_stripe.specs.SightLaws.{sight_refl, sight_then}
use Rattle.pm_stripe.specs.Sights.{KeepsSight}
use Rattle.pm_stripe.proofs.BasePages.{staying_known}
use Rattle.pm_engine.specs.FrameCommands.{RunsLineOn, ChangesAsNoted, noted_in, frame_pages, IsSameWorker, IsBetweenLines, KeepsSeat, ChangesNothing, EndsFrom, HandsOverChange}
use Rattle.pm_engine.specs.FrameLines.{EvaluatesLine}
use Rattle.pm_engine.specs.PagedStores.{part_map, RunsOnPart}
use Rattle.pm_engine.specs.Records.{record_of_line}
use Rattle.pm_engine.proofs.FrameChanges.{known_staying}
use Rattle.pm_engine.proofs.FrameReads.{readable_still}
use Rattle.pm_engine.proofs.FrameSteps.{cut, cut_same}
use Rattle.pm_engine.proofs.StoreMaps.{reply_by_part, accepted_by_part, after_by_part}

module _ {Q R : Type 0} (tells : Type 0) (history : R → History) (state : R → DeviceState) where
  -- ---- several steps

  pub worker_same_refl : (b : Bound Q R) → IsSameWorker tells history state b b
  worker_same_refl b = record {
    locks = refl;
    number = refl;
    shape = refl;
    files = refl;
    is_running = refl;
    world = λ t. refl;
    later = record { later = omega arith; access = refl; usable = λ is. is };
    sight = sight_refl b.locks.now b.seat.view;
  }

  pub worker_same_then : (b m c : Bound Q R) → IsSameWorker tells history state b m → IsSameWorker tells history state m c → IsSameWorker tells history state b c
  worker_same_then b m c x y = record {
    locks = y.locks ∙ x.locks;
    number = y.number ∙ x.number;
    shape = y.shape ∙ x.shape;
    files = y.files ∙ x.files;
    is_running = y.is_running ∙ x.is_running;
    world = λ t. y.world t ∙ x.world t;
    later = record { later = omega (arith, x.later.later, y.later.later); access = y.later.access ∙ x.later.access; usable = λ is. y.later.usable (x.later.usable is) };
    sight = sight_then b.locks.now b.seat.view m.seat.view c.seat.view x.sight (subst (λ l. KeepsSight l.now m.seat.view c.seat.view) x.locks y.sight);
  }

  -- the same pages are those of the same store
  pub frames_same : (b c : Bound Q R) → c.stripe.shape ≡ b.stripe.shape → ((id : PageId) → page_bytes (file_by history c) (kept_by c) id ≡ page_bytes (file_by history b) (kept_by b) id)
      → frame_pages history c ≡ frame_pages history b
  frames_same b c shape same = λ i part index. each part index i
    where
      each : (part index : ℕ) → frame_pages history c part index ≡ frame_pages history b part index
      each part index =
          let id = page_id part index in
          ap (λ (s : Shape). cut s part index (page_bytes (file_by history c) (kept_by c) id)) shape
          ∙ cut_same b.stripe.shape part index (page_bytes (file_by history c) (kept_by c) id) (page_bytes (file_by history b) (kept_by b) id) (λ _ _. same id)

  pub nothing_refl : (b : Bound Q R) → ChangesNothing tells history b b
  nothing_refl b = record {
    seat = record { locks = refl; shape = refl; sight = sight_refl b.locks.now b.seat.view };
    outbox = refl;
    staying = λ id is. is;
    still = λ id is. is;
    pages = λ id told. refl;
    told = λ t. refl;
  }

  seat_then : (b m c : Bound Q R) → KeepsSeat b m → KeepsSeat m c → KeepsSeat b c
  seat_then b m c x y = record {
    locks = y.locks ∙ x.locks;
    shape = y.shape ∙ x.shape;
    sight = sight_then b.locks.now b.seat.view m.seat.view c.seat.view x.sight (subst (λ l. KeepsSight l.now m.seat.view c.seat.view) x.locks y.sight);
  }

  -- what is at hand between two lines stays in its frame
  stays_between : (c : Bound Q R) → c.stripe.held.items ≡ [] → (id : PageId) → IsTrue (is_known (kept_by c) id) → IsStaying (kept_by c) id
  stays_between c none id known = known_staying (kept_by c) id (ap (λ hs. held_at hs id.0) none) known

  module _ (b m c : Bound Q R) (none : c.stripe.held.items ≡ []) (first : ChangesNothing tells history b m) where
    known_then : (next : (id : PageId) → IsStaying (kept_by c) id → IsStaying (kept_by m) id) → (id : PageId) → tells ⊎ IsTrue (is_known (kept_by c) id) → tells ⊎ IsTrue (is_known (kept_by m) id)
    known_then next id = ⊎_elim (λ t. inl t) (λ known. inr (staying_known (kept_by m) id (next id (stays_between c none id known))))

    pub nothing_then : ChangesNothing tells history m c → ChangesNothing tells history b c
    nothing_then x = record {
      seat = seat_then b m c first.seat x.seat;
      outbox = x.outbox ∙ first.outbox;
      staying = λ id is. first.staying id (x.staying id is);
      still = λ id is. x.still id (first.still id is);
      pages = λ id told. x.pages id told ∙ first.pages id (known_then x.staying id told);
      told = λ t. x.told t ∙ first.told t;
    }

    ends_then : (part : ℕ) (held : List Held) → EndsFrom tells history part held m c → EndsFrom tells history part held b c
    ends_then part held x = record {
      kept = x.kept;
      held_are = x.held_are;
      shape = x.shape ∙ first.seat.shape;
      holds = subst (λ l. Holds l.now x.kept) first.seat.locks x.holds;
      operates = subst (λ l. HasOperation l.now part x.kept) first.seat.locks x.operates;
      sight = sight_then b.locks.now b.seat.view m.seat.view x.kept.seat.view first.seat.sight (subst (λ l. KeepsSight l.now m.seat.view x.kept.seat.view) first.seat.locks x.sight);
      stayed = λ id is. first.staying id (x.stayed id is);
      still = λ id is. x.still id (first.still id is);
      files = x.files;
      pages = x.pages;
    }

    pub hands_then : (line : ℕ) (rec : Option Record) (part : ℕ) → HandsOverChange tells history line rec part m c → HandsOverChange tells history line rec part b c
    hands_then line rec part x = record {
      seat = seat_then b m c first.seat x.seat;
      logical = x.logical;
      held = x.held;
      before = ends_then part x.held x.before;
      still = λ id is. x.still id (first.still id is);
      grows = subst (λ (out : List ℕ). GrowsByOperation line rec x.held out c.stripe.outbox) first.outbox x.grows;
      changed = λ page is.
          let y = x.changed page is in
          record { name = y.name; long = y.long ∙ ap (λ s. s.page_size) first.seat.shape; staying = y.staying; bytes = y.bytes; logged = λ on. first.staying page.page (y.logged on) };
      staying = λ id is. ⊎_elim (λ was. inl (first.staying id was)) (λ on. inr on) (x.staying id is);
      others = λ id un told. x.others id un told ∙ first.pages id (⊎_elim (λ t. inl t) (λ known.
          inr (⊎_elim (λ was. staying_known (kept_by m) id was) (λ on. absurd (un on)) (x.staying id (stays_between c none id known)))) told);
      noted = λ t. subst (λ (p : ℕ × Partitions). ChangesAsNoted p.0 (p.1 part) (frame_pages history c part) (noted_in x.held part)) (λ i. ((first.seat.shape i).page_size, first.told t i)) (x.noted t);
      elsewhere = λ t other index ne. x.elsewhere t other index ne ∙ ap (λ (p : Partitions). p other index) (first.told t);
    }

  -- ---- pages were made ready

  module _ (b m : Bound Q R) (between : IsBetweenLines tells history state b) (made : MakesReady tells history state b m) where
    away : (id : PageId) → held_at b.stripe.held.items id.0 ≡ None
    away id = ap (λ hs. held_at hs id.0) between.none_held

    pub ready_same : IsSameWorker tells history state b m
    ready_same = record {
      locks = made.locks;
      number = made.same.number;
      shape = made.same.shape;
      files = made.same.files;
      is_running = made.same.is_running;
      world = λ t. ap (λ (r : R). (history r).world) made.reader;
      later = subst (λ (r : R). IsLaterState (state b.reader) (state r)) (sym made.reader) (record { later = omega arith; access = refl; usable = λ is. is });
      sight = made.sight;
    }

    was_known : (id : PageId) → IsTrue (is_known (kept_by m) id) → IsTrue (is_known (kept_by b) id)
    was_known id known = sym (made.only id (away id)) ∙ known

    pub ready_between : IsBetweenLines tells history state m
    ready_between = record {
      bound = made.bound;
      none_held = made.none_held;
      readable = readable_still history state b m made.same.shape was_known (λ id known. made.pages id (inr known)) between.readable;
    }

    pub ready_nothing : ChangesNothing tells history b m
    ready_nothing = record {
      seat = record { locks = made.locks; shape = made.same.shape; sight = made.sight };
      outbox = made.same.outbox;
      still = made.staying;
      staying = λ id is. known_staying (kept_by b) id (away id) (was_known id (staying_known (kept_by m) id is));
      pages = made.pages;
      told = λ t. frames_same b m made.same.shape (λ id. made.pages id (inl t));
    }

-- ---- the map of all partitions

-- only a put or a removal is accepted, and has a record
pub accepted_record : (cmd : Cmd) (found : Reply) → accepts cmd found ≡ true → (rec : Record) × (record_of_line (Good cmd) ≡ Some rec)
accepted_record (Put cache key value) found on = (_, refl)
accepted_record (Get cache key) found on = absurd (false≢true on)
accepted_record (Remove cache key) found on = (_, refl)
accepted_record (Scan cache) found on = absurd (false≢true on)
accepted_record Checkpoint found on = absurd (false≢true on)

-- a line of a partition that was run there is evaluated over the store
pub evaluates_line : (shape : Shape) (part : ℕ) (line : Line) (old new : Partitions) (was now : ReplyList) (accepted : Bool) → part < shape.partitions → part_of_line shape line ≡ part → is_barrier line ≡ false → AllWellFormed shape old
    → RunsLineOn shape part line old new was now → accepted ≡ is_accepted shape line (part_map old part) → EvaluatesLine shape line old new was now accepted
evaluates_line shape part line old new was now accepted below is free all runs said =
    let same : (other : ℕ) → other ≢ part → new other ≡ old other = (λ other ne i index. runs.elsewhere other index ne i) in
    let all_new : AllWellFormed shape new = (λ other lt. elim (cases_eq other part) [
      | inl here ↦ subst (λ p. IsWellFormed shape p (counted (new p))) (sym here) runs.well_formed
      | inr ne ↦ subst (λ (pages : Partition). IsWellFormed shape other (counted pages)) (sym (same other ne)) (all other lt)
    ]) in
    let on_part : RunsOnPart shape part line old new = record {
      here = runs.map;
      elsewhere = λ other lt ne. ap (λ (pages : Partition). map_of (rows_of other (counted pages))) (same other ne);
      well_formed = all_new;
    } in
    record {
      replied = runs.replied ∙ ap (λ (found : Reply). with_replies (found ∷ []) was) (sym (reply_by_part shape old all part line below is free));
      accepted_is = said ∙ sym (accepted_by_part shape old all part line below is);
      map = after_by_part shape part line old new below is all on_part;
      well_formed = all_new;
    }
