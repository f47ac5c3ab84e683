-- A host that lends a reader to a round, and has it back.
use Rattle.std.proofs.Common.{◌≡◌, ℕ, ◌≤◌, ◌<◌, true, false, List, [], ◌∷◌, ◌++◌, inl, inr, Some, Result, sym, refl, ap, subst, ◌∙◌, arith}
use Rattle.std.specs.Prelude.{All, IsSome, length, map}
use Rattle.std.proofs.lemmas.List.Elements.{All-pop}
use Rattle.std.proofs.lemmas.List.{length-append}
use Rattle.pm_types.specs.declared.page_id.PageId.{PageId}
use Rattle.pm_types.specs.Counts.{HasRisen}
use Rattle.pm_disk.specs.Files.{File}
use Rattle.pm_disk.specs.Lending.{reader_lent, writer_lent, log_lent, faults_among, BeginsLog, BeginsPages, Joins, TakesBack, Lends}
use Rattle.pm_disk.specs.Moments.{History, IsHistory, AllMoments, Does}
use Rattle.pm_disk.specs.States.{Access, DeviceState, IsLaterState, IsUsable, Rose}
use Rattle.pm_disk.specs.Worlds.{World, joined}
use Rattle.pm_disk.proofs.Chain.{started, does, joins}
use Rattle.pm_stripe.specs.Kept.{AreClean}
use Rattle.pm_stripe.specs.Stripes.{kept, file_in}
use Rattle.pm_stripe.specs.declared.stripe.Stripe.{Stripe}
use Rattle.pm_stripe.specs.declared.bound.Bound.{Bound}
use Rattle.pm_model.specs.declared.line.Line.{Line}
use Rattle.pm_model.specs.ReplyLists.{ReplyList}
use Rattle.pm_engine.specs.declared.frame_rounds.RoundEnd.{RoundEnd}
use Rattle.pm_engine.specs.FrameHosts.{ChangesNoWorld, HasPagesOf, RunsRound}
use Rattle.pm_engine.specs.FrameStores.{FrameStoreView, pages_in_frames, HasCleanPages}

-- ---- the same files

pub same_files : (s : Stripe) (v w : World) → w.pages ≡ v.pages → file_in s w ≡ file_in s v
same_files s v w same = ap (λ (pages : ℕ → File). file_in s (record v { pages = pages })) same

pub clean_there : (store : FrameStoreView) (v w : World) → w.pages ≡ v.pages → HasCleanPages store v → HasCleanPages store w
clean_there store v w same clean = subst (λ file. AreClean file (kept store.stripe store.seat)) (sym (same_files store.stripe v w same)) clean

module _ {Q R : Type 0} (tells : Type 0) (history : R → History) (state : R → DeviceState) where
  pub pages_there : (store : FrameStoreView) (v w : World) (b : Bound Q R) → (tells → w.pages ≡ v.pages) → HasPagesOf tells history store w b → HasPagesOf tells history store v b
  pages_there store v w b same x = record {
    locks = x.locks;
    shape = x.shape;
    files = x.files;
    outbox = x.outbox;
    dirty = x.dirty;
    at_hand = x.at_hand;
    pages = λ t. x.pages t ∙ ap (λ (pages : ℕ → File). pages_in_frames store (record v { pages = pages })) (same t);
  }

  pub round_there : (first from : ℕ) (lines : List Line) (old new : FrameStoreView) (v w : World) (was now : ReplyList) (back : R) (end : RoundEnd) → (tells → w.pages ≡ v.pages)
      → RunsRound Q tells history state first from lines old new w was now back end → RunsRound Q tells history state first from lines old new v was now back end
  round_there first from lines old new v w was now back end same x = record {
    same = x.same;
    is_open = x.is_open;
    start = x.start;
    finish = x.finish;
    answers = x.answers;
    began = pages_there old v w x.start same x.began;
    settled = x.settled;
    ended = λ on. pages_there new v w x.finish same (x.ended on);
    outbox = x.outbox;
    clean = λ t. clean_there new w v (sym (same t)) (x.clean t);
    reader = x.reader;
  }

-- ---- what the reader may do

none_left : {X : Type 0} (xs : List X) (x : X) → length (xs ++ x ∷ []) ≡ 1 → xs ≡ []
none_left [] x one = refl
none_left (y ∷ ys) x one = absurd (omega (arith, one, length-append ys (x ∷ [])))

module _ {R : Type 0} (state : R → DeviceState) (host : DeviceState) (all rest : List R) (reader : R) (is : all ≡ rest ++ reader ∷ []) where
  pub reader_is : All (λ r. state r ≡ reader_lent [] host) all → state reader ≡ reader_lent [] host
  reader_is lent = (All-pop (λ r. state r ≡ reader_lent [] host) all rest (Some reader) is lent).1

  pub reader_has : (history : R → History) (at : History) → All (λ r. BeginsPages at (history r)) all → BeginsPages at (history reader)
  reader_has history at lent = (All-pop (λ r. BeginsPages at (history r)) all rest (Some reader) is lent).1

  pub none_else : length all ≡ 1 → rest ≡ []
  none_else one = none_left rest reader (ap length (sym is) ∙ one)

pub reader_usable : (part host : DeviceState) → part ≡ reader_lent [] host → IsUsable host → IsUsable part
reader_usable part host is usable = subst (λ (s : DeviceState). IsUsable s) (sym is) (record { bound = usable.bound; whole = refl })

pub reader_reads : (part host : DeviceState) → part ≡ reader_lent [] host → (id : PageId) → part.access.reads id ≡ true
reader_reads part host is id = ap (λ (s : DeviceState). s.access.reads id) is

-- ---- the host's state

module _ {T E : Type 0} (host lent : DeviceState) (result : Result T E) (usable : IsUsable host) (lends : Lends host lent result) where
  later_by : (now : DeviceState) → host.faults ≤ now.faults → now.access ≡ host.access → IsLaterState host now
  later_by now later access = record {
    later = later;
    access = access;
    usable = λ u. record { bound = subst (λ (a : Access). IsSome a.folder) (sym access) u.bound; whole = ap (λ (a : Access). a.is_lent) access ∙ u.whole };
  }

  pub refused_later : lent.access ≡ host.access → IsLaterState host lent
  refused_later access = later_by lent (omega (arith, lends.faults)) access

  module _ (is : lent.access ≡ record host.access { is_lent = true }) where
    pub is_lent : lent.access.is_lent ≡ true
    is_lent = ap (λ (a : Access). a.is_lent) is

    pub log_folder : (part : DeviceState) → part ≡ log_lent host → part.access.folder ≡ lent.access.folder
    log_folder part at = ap (λ (s : DeviceState). s.access.folder) at ∙ sym (ap (λ (a : Access). a.folder) is)

    pub writer_folder : (part : DeviceState) → part ≡ writer_lent [] host → part.access.folder ≡ lent.access.folder
    writer_folder part at = ap (λ (s : DeviceState). s.access.folder) at ∙ sym (ap (λ (a : Access). a.folder) is)

    module _ {R : Type 0} (state : R → DeviceState) (back log writer : DeviceState) (rest all : List R) (reader : R) (log_is : log ≡ log_lent host) (writer_is : writer ≡ writer_lent [] host) (none : rest ≡ []) (all_are : all ≡ rest ++ reader ∷ [])
        (returns : TakesBack lent back (log ∷ writer ∷ map (λ r. state r) all)) where
      faults_are : faults_among (log ∷ writer ∷ map (λ r. state r) all) ≡ (state reader).faults
      faults_are = (λ i. faults_among (log_is i ∷ writer_is i ∷ map (λ r. state r) ((all_are ∙ ap (λ xs. xs ++ reader ∷ []) none) i))) ∙ omega arith

      pub back_quiet : (state reader).faults ≡ 0 → back.faults ≡ host.faults
      back_quiet quiet = returns.same (faults_are ∙ quiet) ∙ lends.faults

      pub back_rose : 0 < (state reader).faults → Rose host back
      back_rose some = subst (λ n. HasRisen n back.faults) lends.faults (returns.rose (subst (λ n. 0 < n) (sym faults_are) some))

      pub back_later : IsLaterState host back
      back_later = later_by back (omega (arith, returns.later, lends.faults))
          (returns.access ∙ ap (λ (a : Access). record a { is_lent = false }) is ∙ (λ i. record host.access { is_lent = sym usable.whole i }))

-- a reader whose calls had not failed before
pub some_fault : (before now : ℕ) → before ≡ 0 → HasRisen before now → 0 < now
some_fault before now none risen = omega (arith, none, risen)

-- ---- the host's moments

module _ {T E : Type 0} (host lent : History) (result : Result T E) (sound : IsHistory host) (call : Does host lent result host.world) where
  abbrev Same : World → Type 0
  Same w = w ≡ host.world

  same_lent : lent.world ≡ host.world
  same_lent = elim call.either [ inl same ↦ same | inr same ↦ same ]

  lent_moments : AllMoments host lent Same
  lent_moments = does host host lent result host.world Same (started host Same sound refl) call refl refl

  pub refused_world : ChangesNoWorld host lent
  refused_world = record { world = same_lent; moments = lent_moments }

  module _ (back log writer : History) (log_begins : BeginsLog host log) (writer_begins : BeginsPages host writer) (log_sound : IsHistory log) (writer_sound : IsHistory writer) (joins_back : Joins lent back log writer) where
    same_joined : (l p : World) → l.log ≡ host.world.log → p.pages ≡ host.world.pages → joined lent.world l p ≡ host.world
    same_joined l p at_log at_pages = λ i. record (same_lent i) { log = at_log i; pages = at_pages i }

    pub back_world : ChangesNoWorld host back
    back_world = record {
      world = joins_back.now ∙ same_joined log.world writer.world log_begins.segments writer_begins.pages;
      moments = joins host lent back log writer Same lent_moments joins_back (λ w pair.
          let log_is : pair.log_then ≡ log.world = log_sound.only_now pair.log_then (subst (λ t. log.was t pair.log_then) (sym log_begins.clock) pair.log_was) in
          let pages_are : pair.pages_then ≡ writer.world = writer_sound.only_now pair.pages_then (subst (λ t. writer.was t pair.pages_then) (sym writer_begins.clock) pair.pages_were) in
          pair.is ∙ same_joined pair.log_then pair.pages_then (ap (λ (v : World). v.log) log_is ∙ log_begins.segments) (ap (λ (v : World). v.pages) pages_are ∙ writer_begins.pages));
    }
