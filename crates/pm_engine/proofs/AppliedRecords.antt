-- What became of a logical record whose command was applied again.
use Rattle.std.proofs.Common.{◌≡◌, ℕ, Bool, true, false, List, Option, Some, Result, Ok, Err, refl, sym, ap, ◌∙◌, subst}
use Rattle.std.specs.Prelude.{◌==◌, IfOk, IfErr, OnOk, IsErrOf}
use Rattle.std.proofs.lemmas.Bool.{eqb-true, false≢true}
use Rattle.pm_types.specs.declared.fault.PageFault.TheVariants as page
use Rattle.pm_types.specs.declared.fault.StoreFault.{StoreFault}
use Rattle.pm_types.specs.declared.fault.StoreFault.TheVariants as store
use Rattle.pm_types.specs.declared.fault.Lack.{Lack}
use Rattle.pm_types.specs.declared.page_id.PageId.{PageId}
use Rattle.pm_types.specs.declared.place.Place.{Place}
use Rattle.pm_types.specs.declared.shape.Shape.{Shape}
use Rattle.pm_disk.specs.Moments.{History}
use Rattle.pm_disk.specs.Worlds.{World}
use Rattle.pm_model.specs.declared.line.Cmd.{Cmd}
use Rattle.pm_model.specs.declared.line.Line.TheVariants.{Good}
use Rattle.pm_model.specs.Eval.{Pairs, after}
use Rattle.pm_model.specs.ReplyLists.{ReplyList}
use Rattle.pm_records.specs.Records.{Record, Logical}
use Rattle.pm_records.specs.declared.limits.TheConstants.{PUT}
use Rattle.pm_stripe.specs.declared.halt.Halt.{Halt}
use Rattle.pm_core.specs.BasePages.{Partitions}
use Rattle.pm_core.specs.Held.{AllWellFormed, pairs_in}
use Rattle.pm_core.specs.Replays.{replayed}
use Rattle.pm_engine.specs.declared.engine_replay.Applied.{Applied}
use Rattle.pm_engine.specs.declared.engine_replay.Applied.TheVariants as applied
use Rattle.pm_engine.specs.declared.frame_lines.Stop.{Stop}
use Rattle.pm_engine.specs.declared.frame_lines.Stop.TheVariants.{Halted, Faulted}
use Rattle.pm_engine.specs.EngineReplays.{AppliesRecord, EvaluatesAgain, AppliesAs, GoesOnInFrames, NamesNoPage, applied_as, is_done}
use Rattle.pm_engine.specs.Engines.{FrameRunning, map_in}
use Rattle.pm_engine.specs.Batches.{IsPlainFault}
use Rattle.pm_engine.specs.FrameLines.{EvaluatesLine}
use Rattle.pm_engine.specs.FrameReplays.{may_apply_more}
use Rattle.pm_engine.specs.FrameStores.{pages_in_frames}
use Rattle.pm_engine.specs.MetPages.{AllowsLine, KeepsPagesBut}
use Rattle.pm_engine.specs.Replays.{line_in, CanBeRefused}
use Rattle.pm_engine.proofs.MetPages.{kept_same}
use Rattle.pm_engine.proofs.OwnPages.{line_allowed, kept_equal}
use Rattle.pm_engine.proofs.ReplayedLines.{put_applies, remove_applies}

abbrev answered : Bool → Result Bool Stop
answered accepted = Ok accepted

abbrev stopped : Stop → Result Bool Stop
stopped stop = Err stop

not_taken : (accepted : Bool) → accepted ≡ false → answered accepted ≡ answered true → ⊥
not_taken accepted off is = cc

no_halt : (halt : Halt) → stopped (Halted halt) ≡ answered true → ⊥
no_halt halt is = cc

module _ (tells : Type 0) (cmd : Cmd) (before now : FrameRunning) (old new : World) (was replies : ReplyList) (answer : Result Bool Stop) (x : EvaluatesAgain tells cmd before now old new was replies answer) (is_put : Bool) where
  pub applied_open : OnOk (applied_as is_put answer) (now.store.is_open ≡ true)
  applied_open = by is_put answer x.is_open
    where
      by : (put : Bool) (r : Result Bool Stop) → now.store.is_open ≡ may_apply_more r → OnOk (applied_as put r) (now.store.is_open ≡ true)
      by put (Ok true) is = is
      by true (Ok false) is = is
      by false (Ok false) is = is
      by put (Err (Halted halt)) is = is
      by put (Err (Faulted fault)) is = tt

  module _ (same : now.store.shape ≡ before.store.shape) (op cache : ℕ) (key value : List ℕ) (put_is : is_put ≡ (op == PUT)) (line : Good cmd ≡ line_in op cache key value) where
    abbrev shape : Shape
    shape = before.store.shape

    abbrev map_now : Pairs
    map_now = map_in now new

    abbrev map_before : Pairs
    map_before = map_in before old

    map_is : (pages : Pairs) → pairs_in shape.partitions (pages_in_frames now.store new) ≡ pages → map_now ≡ pages
    map_is pages is = ap (λ (s : Shape). pairs_in s.partitions (pages_in_frames now.store new)) same ∙ is

    replays : (accepted : Bool) → EvaluatesLine shape (Good cmd) (pages_in_frames before.store old) (pages_in_frames now.store new) was replies accepted → (put : Bool) → put ≡ (op == PUT)
        → IfOk (applied_as put (Ok accepted)) (λ a. AppliesAs a shape (Some (Logical op cache key value)) map_before map_now)
    replays true e true is = put_applies true op cache key value shape map_before map_now (Good cmd) (eqb-true op PUT (sym is)) line e.accepted_is (map_is (after shape (Good cmd) map_before) e.map)
    replays false e true is = put_applies false op cache key value shape map_before map_now (Good cmd) (eqb-true op PUT (sym is)) line e.accepted_is (map_is (after shape (Good cmd) map_before) e.map)
    replays true e false is = remove_applies op cache key value shape map_before map_now (Good cmd) (sym is) line (map_is (after shape (Good cmd) map_before) e.map)
    replays false e false is = remove_applies op cache key value shape map_before map_now (Good cmd) (sym is) line (map_is (after shape (Good cmd) map_before) e.map)

    pub applied_applies : tells → AllWellFormed shape (pages_in_frames before.store old) → IfOk (applied_as is_put answer) (λ a. AppliesAs a shape (Some (Logical op cache key value)) map_before map_now)
    applied_applies t well = by answer refl (x.evaluates t well)
      where
        by : (r : Result Bool Stop) → answer ≡ r → IfOk r (EvaluatesLine shape (Good cmd) (pages_in_frames before.store old) (pages_in_frames now.store new) was replies)
            → IfOk (applied_as is_put answer) (λ a. AppliesAs a shape (Some (Logical op cache key value)) map_before map_now)
        by (Ok accepted) is e = subst (λ (r : Result Bool Stop). IfOk (applied_as is_put r) (λ a. AppliesAs a shape (Some (Logical op cache key value)) map_before map_now)) (sym is) (replays accepted e is_put put_is)
        by (Err (Halted halt)) is e = subst (λ (r : Result Bool Stop). IfOk (applied_as is_put r) (λ a. AppliesAs a shape (Some (Logical op cache key value)) map_before map_now)) (sym is)
            (map_is map_before (ap (λ (p : Partitions). pairs_in shape.partitions p) (x.halted t halt is)))
        by (Err (Faulted fault)) is e = subst (λ (r : Result Bool Stop). IfOk (applied_as is_put r) (λ a. AppliesAs a shape (Some (Logical op cache key value)) map_before map_now)) (sym is) tt

  pub applied_well : tells → AllWellFormed before.store.shape (pages_in_frames before.store old) → OnOk (applied_as is_put answer) (AllWellFormed before.store.shape (pages_in_frames now.store new))
  applied_well t well = by is_put answer (x.evaluates t well) (x.halted t)
    where
      by : (put : Bool) (r : Result Bool Stop) → IfOk r (EvaluatesLine before.store.shape (Good cmd) (pages_in_frames before.store old) (pages_in_frames now.store new) was replies)
          → ((halt : Halt) → IsErrOf r (Halted halt) → pages_in_frames now.store new ≡ pages_in_frames before.store old) → OnOk (applied_as put r) (AllWellFormed before.store.shape (pages_in_frames now.store new))
      by put (Ok true) e halts = e.well_formed
      by true (Ok false) e halts = e.well_formed
      by false (Ok false) e halts = e.well_formed
      by put (Err (Halted halt)) e halts = subst (λ (p : Partitions). AllWellFormed before.store.shape p) (sym (halts halt refl)) well
      by put (Err (Faulted fault)) e halts = tt

  pub applied_refused : tells → IfOk (applied_as is_put answer) (λ a. is_done a ≡ false → new ≡ old)
  applied_refused t = by is_put answer (x.refused t)
    where
      by : (put : Bool) (r : Result Bool Stop) → ((r ≡ Ok true → ⊥) → new ≡ old) → IfOk (applied_as put r) (λ a. is_done a ≡ false → new ≡ old)
      by put (Ok true) same = λ off. absurd cc
      by true (Ok false) same = λ off. same (not_taken false refl)
      by false (Ok false) same = λ off. absurd cc
      by put (Err (Halted halt)) same = λ off. same (no_halt halt)
      by put (Err (Faulted fault)) same = tt

  pub applied_unlogged : IfOk (applied_as is_put answer) (λ a. is_done a ≡ false → now.log ≡ before.log)
  applied_unlogged = by is_put answer x.unlogged
    where
      by : (put : Bool) (r : Result Bool Stop) → ((r ≡ Ok true → ⊥) → now.log ≡ before.log) → IfOk (applied_as put r) (λ a. is_done a ≡ false → now.log ≡ before.log)
      by put (Ok true) same = λ off. absurd cc
      by true (Ok false) same = λ off. same (not_taken false refl)
      by false (Ok false) same = λ off. absurd cc
      by put (Err (Halted halt)) same = λ off. same (no_halt halt)
      by put (Err (Faulted fault)) same = tt

  pub applied_sound : tells → AllWellFormed before.store.shape (pages_in_frames before.store old) → (id : PageId) → IsErrOf (applied_as is_put answer) (store.BadPage id) → ⊥
  applied_sound t well id = by is_put answer (x.sound t well id)
    where
      by : (put : Bool) (r : Result Bool Stop) → (IsErrOf r (Faulted (page.BadPage id)) → ⊥) → IsErrOf (applied_as put r) (store.BadPage id) → ⊥
      by put (Ok true) none is = absurd cc
      by true (Ok false) none is = absurd cc
      by false (Ok false) none is = absurd cc
      by put (Err (Halted halt)) none is = absurd cc
      by put (Err (Faulted page.Failed)) none is = absurd cc
      by put (Err (Faulted (page.BadPage other))) none is = none (let same : other ≡ id = cc is in ap (λ (p : PageId). Err (Faulted (page.BadPage p))) same)

-- a page that is named is one that the command met
page_answered : (put : Bool) (r : Result Bool Stop) (id : PageId) → IsErrOf (applied_as put r) (store.BadPage id) → IsErrOf r (Faulted (page.BadPage id))
page_answered put (Ok true) id is = absurd cc
page_answered true (Ok false) id is = absurd cc
page_answered false (Ok false) id is = absurd cc
page_answered put (Err (Halted halt)) id is = absurd cc
page_answered put (Err (Faulted page.Failed)) id is = absurd cc
page_answered put (Err (Faulted (page.BadPage other))) id is = let same : other ≡ id = cc is in ap (λ (p : PageId). Err (Faulted (page.BadPage p))) same

-- only a put is refused
refused_put : (put : Bool) (r : Result Bool Stop) → applied_as put r ≡ Ok applied.Bad → put ≡ true
refused_put put (Ok true) is = absurd cc
refused_put true (Ok false) is = refl
refused_put false (Ok false) is = absurd cc
refused_put put (Err (Halted halt)) is = absurd cc
refused_put put (Err (Faulted page.Failed)) is = absurd cc
refused_put put (Err (Faulted (page.BadPage other))) is = absurd cc

pub applied_no_record : (is_put : Bool) (answer : Result Bool Stop) (at : Place) → IsErrOf (applied_as is_put answer) (store.BadRecord at) → ⊥
applied_no_record put (Ok true) at is = absurd cc
applied_no_record true (Ok false) at is = absurd cc
applied_no_record false (Ok false) at is = absurd cc
applied_no_record put (Err (Halted halt)) at is = absurd cc
applied_no_record put (Err (Faulted page.Failed)) at is = absurd cc
applied_no_record put (Err (Faulted (page.BadPage other))) at is = absurd cc

pub applied_no_memory : (is_put : Bool) (answer : Result Bool Stop) (lack : Lack) → IsErrOf (applied_as is_put answer) (store.Memory lack) → ⊥
applied_no_memory put (Ok true) lack is = absurd cc
applied_no_memory true (Ok false) lack is = absurd cc
applied_no_memory false (Ok false) lack is = absurd cc
applied_no_memory put (Err (Halted halt)) lack is = absurd cc
applied_no_memory put (Err (Faulted page.Failed)) lack is = absurd cc
applied_no_memory put (Err (Faulted (page.BadPage other))) lack is = absurd cc

pub applied_failed : (is_put : Bool) (answer : Result Bool Stop) → IsErrOf (applied_as is_put answer) store.Failed → IsErrOf answer (Faulted page.Failed)
applied_failed put (Ok true) is = absurd cc
applied_failed true (Ok false) is = absurd cc
applied_failed false (Ok false) is = absurd cc
applied_failed put (Err (Halted halt)) is = absurd cc
applied_failed put (Err (Faulted page.Failed)) is = refl
applied_failed put (Err (Faulted (page.BadPage other))) is = absurd cc

-- ---- all that is said of a record

-- it was a logical one, and its command was answered
pub applied_record : (tells : Type 0) (cmd : Cmd) (before now : FrameRunning) (old new : History) (was replies : ReplyList) (answer : Result Bool Stop) → EvaluatesAgain tells cmd before now old.world new.world was replies answer → GoesOnInFrames tells before now old new
    → (is_put : Bool) (op cache : ℕ) (key value : List ℕ) → is_put ≡ (op == PUT) → Good cmd ≡ line_in op cache key value → AppliesRecord tells (Some (Logical op cache key value)) before now old new (applied_as is_put answer)
applied_record tells cmd before now old new was replies answer x goes is_put op cache key value put_is line = record {
  goes_on = goes;
  is_open = applied_open tells cmd before now old.world new.world was replies answer x is_put;
  over_well_formed = λ t well. record {
    applies = applied_applies tells cmd before now old.world new.world was replies answer x is_put goes.same.shape op cache key value put_is line t well;
    well_formed = applied_well tells cmd before now old.world new.world was replies answer x is_put t well;
    no_page = applied_sound tells cmd before now old.world new.world was replies answer x is_put t well;
  };
  meets = λ t may_change allows.
      let lines : AllowsLine may_change before.store.shape (Good cmd) = subst (AllowsLine may_change before.store.shape) (sym line) (line_allowed may_change before.store.shape op cache key value allows) in
      let met = x.meets t may_change lines in
      record { keeps = met.keeps; meets = λ id bad. met.meets id (page_answered is_put answer id bad) };
  refuses = λ is. eqb-true op PUT (sym put_is ∙ refused_put is_put answer is);
  unlogged = applied_unlogged tells cmd before now old.world new.world was replies answer x is_put;
  refused = applied_refused tells cmd before now old.world new.world was replies answer x is_put;
}

-- nothing was done, since there is nothing to be done, or it can't be
pub applied_nothing : (tells : Type 0) (engine : FrameRunning) (old : History) (found : Option Record) (became : Applied) → GoesOnInFrames tells engine engine old old → engine.store.is_open ≡ true
    → AppliesAs became engine.store.shape found (map_in engine old.world) (map_in engine old.world) → (became ≡ applied.Bad → CanBeRefused found) → AppliesRecord tells found engine engine old old (Ok became)
applied_nothing tells engine old found became goes on applies refuses = record {
  goes_on = goes;
  is_open = on;
  over_well_formed = λ t well. record { applies = applies; well_formed = well; no_page = λ id is. absurd cc };
  meets = λ t may_change allows. record { keeps = λ open_still. kept_same may_change (pages_in_frames engine.store old.world); meets = λ id is. absurd cc };
  refuses = λ is. refuses (let same : became ≡ applied.Bad = cc is in same);
  unlogged = λ off. refl;
  refused = λ t off. refl;
}

-- one was read that changes no map
pub applied_quiet : (tells : Type 0) (engine : FrameRunning) (old : History) (found : Option Record) (rec : Record) → GoesOnInFrames tells engine engine old old → engine.store.is_open ≡ true → Some rec ≡ found
    → replayed engine.store.shape (Some rec) (map_in engine old.world) ≡ Some (map_in engine old.world) → AppliesRecord tells found engine engine old old (Ok applied.Done)
applied_quiet tells engine old found rec goes on read quiet =
    applied_nothing tells engine old found applied.Done goes on (subst (λ (o : Option Record). replayed engine.store.shape o (map_in engine old.world) ≡ Some (map_in engine old.world)) read quiet) (λ is. absurd cc)

-- a fault came that names no page
pub applied_fault : (tells : Type 0) (found : Option Record) (before now : FrameRunning) (old new : History) (fault : StoreFault) → GoesOnInFrames tells before now old new → NamesNoPage {T = Applied} (Err fault)
    → (tells → (may_change : ℕ → Bool) → now.store.is_open ≡ true → KeepsPagesBut may_change (pages_in_frames before.store old.world) (pages_in_frames now.store new.world)) → AppliesRecord tells found before now old new (Err fault)
applied_fault tells found before now old new fault goes none keeps = record {
  goes_on = goes;
  is_open = tt;
  over_well_formed = λ t well. record { applies = tt; well_formed = tt; no_page = none };
  meets = λ t may_change allows. record { keeps = keeps t may_change; meets = λ id bad. absurd (none id bad) };
  refuses = λ is. absurd cc;
  unlogged = tt;
  refused = λ t. tt;
}

-- after a plain fault the engine is as it was, or is open no more
pub plain_keeps : (tells : Type 0) (before now : FrameRunning) (old new : World) (fault : StoreFault) → IsPlainFault fault → ((lack : Lack) → fault ≡ store.Memory lack → (now ≡ before) × (tells → new ≡ old)) → (fault ≡ store.Failed → now.store.is_open ≡ false) → tells → (may_change : ℕ → Bool) → now.store.is_open ≡ true
    → KeepsPagesBut may_change (pages_in_frames before.store old) (pages_in_frames now.store new)
plain_keeps tells before now old new store.Failed plain same closed t may_change on = absurd (false≢true (sym (closed refl) ∙ on))
plain_keeps tells before now old new (store.Memory lack) plain same closed t may_change on =
    let is = same lack refl in
    kept_equal may_change (pages_in_frames before.store old) (pages_in_frames now.store new) (λ i. pages_in_frames (is.0 i).store (is.1 t i))
plain_keeps tells before now old new (store.BadPage id) plain same closed t may_change on = absurd plain
plain_keeps tells before now old new (store.BadRecord at) plain same closed t may_change on = absurd plain

-- a plain fault names none
pub plain_no_page : {T : Type 0} (result : Result T StoreFault) → IfErr result IsPlainFault → NamesNoPage result
plain_no_page {T} result plain id is = subst (λ (r : Result T StoreFault). IfErr r IsPlainFault) is plain
