-- A command that is applied again over a worker's page frames, as a step of a store that applies its log again.
use Rattle.std.proofs.Common.{◌≡◌, ℕ, ◌≤◌, Bool, true, false, List, [], ◌∷◌, ◌++◌, length, None, Result, Ok, Err, refl, sym, ap, ◌∙◌, subst, arith, append-nil}
use Rattle.std.specs.Prelude.{IfOk}
use Rattle.std.proofs.lemmas.Bool.{false≢true}
use Rattle.std.proofs.lemmas.List.{length-map}
use Rattle.pm_types.specs.declared.page_id.PageId.{PageId}
use Rattle.pm_types.specs.declared.shape.Shape.{Shape}
use Rattle.pm_frame.specs.Frames.{Frame}
use Rattle.pm_disk.specs.Moments.{History}
use Rattle.pm_disk.specs.States.{DeviceState}
use Rattle.pm_disk.specs.Worlds.{World}
use Rattle.pm_records.specs.Operations.{Operation, AreOperations, operation_bytes, operations_bytes}
use Rattle.pm_model.specs.declared.line.Cmd.{Cmd}
use Rattle.pm_model.specs.declared.line.Line.TheVariants.{Good}
use Rattle.pm_model.specs.Eval.{Pairs, is_accepted}
use Rattle.pm_model.specs.Orders.{part_of_line}
use Rattle.pm_model.specs.ReplyLists.{ReplyList}
use Rattle.pm_core.specs.BasePages.{Partitions}
use Rattle.pm_core.specs.States.{State}
use Rattle.pm_stripe.specs.declared.bound.Bound.{Bound}
use Rattle.pm_stripe.specs.declared.held.Held.{Held}
use Rattle.pm_stripe.specs.ChangedPages.{ChangedPage, page_record, frame_for}
use Rattle.pm_stripe.specs.Listings.{GrowsByOperation, handed_bytes_by}
use Rattle.pm_engine.specs.declared.frame_lines.Stop.{Stop}
use Rattle.pm_engine.specs.declared.frame_lines.Stop.TheVariants.{Halted, Faulted}
use Rattle.pm_engine.specs.FrameCommands.{frame_pages, ChangesNothing, HandsOverChange}
use Rattle.pm_engine.specs.FrameLines.{EvaluatesLine}
use Rattle.pm_engine.specs.FrameReplays.{LeavesApplied, may_apply_more}
use Rattle.pm_engine.specs.FramedStores.{HasStore}
use Rattle.pm_engine.specs.OutboxLogs.{SpellOperationRecords, records_of}
use Rattle.pm_engine.specs.PageLogs.{noted_frames}
use Rattle.pm_engine.specs.RunningSteps.{appended_to, SayPagesOver, operation_names}
use Rattle.pm_engine.specs.RunningStores.{StoreState, RunsOver, map_of}
use Rattle.pm_engine.proofs.FramedStores.{made, change, few_frames, hands_after, has_after, nothing_has, same_outbox}
use Rattle.pm_engine.proofs.HandedOperations.{few_in_hand, all_in_hand}
use Rattle.pm_engine.proofs.ReplayingStores.{says_nothing}
use Rattle.pm_engine.proofs.RunningLines.{ChangeNoMap}
use Rattle.pm_engine.proofs.RunningOperations.{replay_says, changes_no_map}

-- ---- what was handed over

-- an outbox grew by one operation at most, and by none where no command was accepted
pub record HandsAgain (answer : Result Bool Stop) (old new : List ℕ) : Type 0 where
  pub operations : List Operation
  pub are : AreOperations operations
  pub grows : new ≡ old ++ operations_bytes operations
  pub few : length operations ≤ 1
  pub records : length (records_of operations) ≤ 32
  pub none : (answer ≡ Ok true → ⊥) → operations ≡ []

none_again : (answer : Result Bool Stop) (old new : List ℕ) → new ≡ old → HandsAgain answer old new
none_again answer old new same = record {
  operations = [];
  are = tt;
  grows = same ∙ sym (append-nil old);
  few = omega arith;
  records = omega arith;
  none = λ _. refl;
}

pages_again : (held : List Held) (old new : List ℕ) → length held ≤ 32 → GrowsByOperation 0 None held old new → HandsAgain (Ok true) old new
pages_again held old new few grows = by grows.hands.operation.records refl
  where
    is_long : length grows.hands.operation.records ≤ 32
    is_long =
        let is = grows.hands.is in
        omega (arith, ap length is.records_are, length-map is.listed (λ (p : ChangedPage). frame_for (page_record p)), few_in_hand held 0 is.listed is.lists.rise (all_in_hand held is.listed is.lists.only), few)

    by : (records : List Frame) → grows.hands.operation.records ≡ records → HandsAgain (Ok true) old new
    by [] is = none_again (Ok true) old new (grows.grows ∙ ap (λ more. old ++ more) (grows.hands.bytes_are ∙ ap (λ (rs : List Frame). handed_bytes_by rs grows.hands.operation) is) ∙ append-nil old)
    by (frame ∷ more) is = record {
      operations = grows.hands.operation ∷ [];
      are = (grows.hands.is.is_operation, tt);
      grows = grows.grows ∙ ap (λ bs. old ++ bs) (grows.hands.bytes_are ∙ ap (λ (rs : List Frame). handed_bytes_by rs grows.hands.operation) is ∙ sym (append-nil (operation_bytes grows.hands.operation)));
      few = omega arith;
      records = omega (arith, ap length (append-nil grows.hands.operation.records), is_long);
      none = λ not. absurd (not refl);
    }

module _ {Q R : Type 0} (tells : Type 0) (history : R → History) (state : R → DeviceState) (cmd : Cmd) (b c : Bound Q R) where
  pub hands_again : (answer : Result Bool Stop) → LeavesApplied tells history state cmd b c answer → HandsAgain answer b.stripe.outbox c.stripe.outbox
  hands_again (Ok false) x = none_again (Ok false) b.stripe.outbox c.stripe.outbox (x.1.refused refl).outbox
  hands_again (Ok true) x =
      let h = x.1.hands refl in
      pages_again h.held b.stripe.outbox c.stripe.outbox (omega (arith, ap length h.before.held_are, h.before.operates.frames.few)) h.grows
  hands_again (Err (Halted halt)) x = none_again (Err (Halted halt)) b.stripe.outbox c.stripe.outbox x.0.nothing.outbox
  hands_again (Err (Faulted fault)) x = none_again (Err (Faulted fault)) b.stripe.outbox c.stripe.outbox x

-- ---- as a step of the store

-- What was handed over says how the store's pages came to be what they are, and changes no map. Where the worker may
-- go on it has that store.
pub record Reapplies {Q R : Type 0} (history : R → History) (store : StoreState) (b c : Bound Q R) (goes_on : Bool) : Type 0 where
  pub frames : List Frame
  pub pages : Partitions
  pub logged : List PageId
  pub few : length frames ≤ 32
  pub says : (pairs : Pairs) (wanted : Shape) (told : List ℕ → ℕ) (s : State) (w : World) → RunsOver wanted told store pairs s w → SayPagesOver store pairs pairs frames pages logged
  pub no_map : (pairs : Pairs) (wanted : Shape) (told : List ℕ → ℕ) (s : State) (w : World) → RunsOver wanted told store pairs s w → ChangeNoMap store.shape frames
  pub hands : (old : List Frame) → SpellOperationRecords b.stripe.outbox old → SpellOperationRecords c.stripe.outbox (old ++ frames)
  pub pages_are : goes_on ≡ true → pages ≡ frame_pages history c
  pub has : goes_on ≡ true → HasStore history (appended_to store frames pages logged) c

module _ {Q R : Type 0} (tells : Type 0) (history : R → History) (state : R → DeviceState) (t : tells) (cmd : Cmd) (store : StoreState) (b c : Bound Q R) (was now : ReplyList) (has : HasStore history store b) where
  -- no page changed
  still : ChangesNothing tells history b c → (goes_on : Bool) → Reapplies history store b c goes_on
  still none goes_on =
      let pages_are : store.pages ≡ frame_pages history c = has.pages ∙ sym (none.told t) in
      record {
        frames = [];
        pages = store.pages;
        logged = store.logged;
        few = omega arith;
        says = says_nothing store;
        no_map = λ pairs wanted told s w runs. tt;
        hands = λ old were. same_outbox b.stripe.outbox c.stripe.outbox old none.outbox were;
        pages_are = λ on. pages_are;
        has = λ on. subst (λ (p : Partitions). HasStore history (appended_to store [] p store.logged) c) (sym pages_are) (nothing_has tells history t store b c [] has none);
      }

  -- the command was accepted
  changed : HandsOverChange tells history 0 None (part_of_line b.stripe.shape (Good cmd)) b c → EvaluatesLine b.stripe.shape (Good cmd) (frame_pages history b) (frame_pages history c) was now true → Reapplies history store b c true
  changed x evaluated =
      let line = Good cmd in
      let part = part_of_line b.stripe.shape line in
      let part_is : part_of_line store.shape line ≡ part = ap (λ (s : Shape). part_of_line s line) has.shape in
      let evaluates : EvaluatesLine store.shape line store.pages (frame_pages history c) was now true =
      subst (λ (q : Shape × Partitions). EvaluatesLine q.0 line q.1 (frame_pages history c) was now true) {x = (b.stripe.shape, frame_pages history b)} {y = (store.shape, store.pages)} (λ i. (sym has.shape i, sym has.pages i)) evaluated in
      let accepted : is_accepted store.shape line (map_of store) ≡ true = sym evaluates.accepted_is in
      let noted = made tells history t store b c has 0 None part x in
      let changes = change tells history t store b c has 0 None part x line part_is accepted evaluates.map evaluates.well_formed in
      record {
        frames = noted_frames noted store.logged;
        pages = frame_pages history c;
        logged = operation_names store noted;
        few = few_frames tells history t store b c has 0 None part x line part_is accepted evaluates.map evaluates.well_formed;
        says = λ pairs wanted told s w runs. replay_says store runs.is_shape part noted (frame_pages history c) changes runs.frames runs.files runs.tracks runs.holds.once pairs;
        no_map = λ pairs wanted told s w runs. changes_no_map store runs.is_shape part noted (frame_pages history c) changes runs.frames runs.files runs.tracks;
        hands = hands_after tells history t store b c has 0 None part x line part_is accepted evaluates.map evaluates.well_formed;
        pages_are = λ on. refl;
        has = λ on. has_after tells history t store b c has 0 None part x line part_is accepted evaluates.map evaluates.well_formed (noted_frames noted store.logged);
      }

  pub reapplies : (answer : Result Bool Stop) → LeavesApplied tells history state cmd b c answer → IfOk answer (EvaluatesLine b.stripe.shape (Good cmd) (frame_pages history b) (frame_pages history c) was now)
      → Reapplies history store b c (may_apply_more answer)
  reapplies (Ok false) x evaluated = still (x.1.refused refl) true
  reapplies (Ok true) x evaluated = changed (x.1.hands refl) evaluated
  reapplies (Err (Halted halt)) x evaluated = still x.0.nothing true
  reapplies (Err (Faulted fault)) x evaluated = record {
    frames = [];
    pages = store.pages;
    logged = store.logged;
    few = omega arith;
    says = says_nothing store;
    no_map = λ pairs wanted told s w runs. tt;
    hands = λ old were. same_outbox b.stripe.outbox c.stripe.outbox old x were;
    pages_are = λ on. absurd (false≢true on);
    has = λ on. absurd (false≢true on);
  }
