use Rattle.std.proofs.Common.{◌≡◌, ◌<◌, List, length, true, Ok, Err, refl, sym, ap, ◌∙◌, subst, arith}
use Rattle.pm_types.specs.declared.page_id.PageId.{PageId}
use Rattle.pm_types.specs.declared.fault.PageFault.TheVariants.{Failed, BadPage}
use Rattle.pm_types.specs.Ids.{page_id}
use Rattle.pm_stripe.specs.declared.held.Held.{Held}
use Rattle.pm_stripe.specs.Fetches.{Fetches}
use Rattle.pm_stripe.specs.HandLaws.{place_some}
use Rattle.pm_stripe.specs.Kept.{place_at}
use Rattle.pm_pages.specs.Paged.{IsPageIn, IsInHand, IsBadPage}
use Rattle.pm_stripe.specs.Shown.{kept_by, file_by, shown}
use Rattle.pm_stripe.specs.Stripes.{kept, SameButPages}
use Rattle.pm_stripe.proofs.InPlace.{in_place}
use Rattle.pm_stripe.proofs.Fetched.{had}
use Rattle.pm_stripe.proofs.BoundCalls as calls
use Rattle.pm_stripe.proofs.paging.BoundPages.view.Goals as goal

pub index-requires-in-Ok-true : goal.index-requires-in-Ok-true
index-requires-in-Ok-true g c =
    let hs = c.bring.new.self.held.items in
    let at : c.place-at.result ≡ place_at hs c.new-page.result.0 = c.place-at.ensures ∙ ap (λ (xs : List Held). place_at xs c.new-page.result.0) c.deref-in-Ok-true.ensures.value in
    omega (arith, at, place_some hs c.new-page.result.0 (c.in-Ok-true.ensures.fetches.found (ap Ok c.in-Ok-true.field-0-test)))

pub returns-then-known-len : goal.returns-then-known-len
returns-then-known-len g c =
    let b = c.args.self.now in
    let i = c.args.index in
    let i32 : i < 4294967296 = omega arith in
    let hs = b.stripe.held.items in
    let at : c.place-known.result ≡ place_at hs (page_id b.part i).0 = c.place-known.ensures ∙ (λ n. place_at (c.deref.ensures.value n) (c.new-page.ensures n).0) in
    let lt : place_at hs (page_id b.part i).0 < length hs = omega (arith, at, c.len.ensures, c.if-known-len.true) in
    let f : Fetches b.locks.now (kept_by b) (kept b.stripe b.seat) (page_id b.part i) g.R.Device.tells (file_by g.R.Device.history b (page_id b.part i)) (Ok true) = had b.locks.now (kept_by b) (page_id b.part i) g.R.Device.tells (file_by g.R.Device.history b (page_id b.part i)) c.requires.ready.bound.holds c.requires.ready.operates.frames lt in
    let some = f.found refl in
    let h : Held = c.index.result.now in
    let x = in_place hs (page_id b.part i).0 c.place-known.result h some at c.index.ensures in
    let same : SameButPages b.stripe b.stripe = record { number = refl; shape = refl; files = refl; next = refl; is_running = refl; outbox = refl } in
    let later = calls.same_state (g.R.Device.state b.reader) in
    let page = calls.had_page g.R.Device.tells g.R.Device.history g.R.Device.state b b.stripe b.seat b.reader i (Ok true) i32 c.requires.ready same (λ _. refl) later f h x.0 in
    let bytes : h.lease.bytes ≡ c.bytes.result.now = sym c.bytes.ensures.bytes in (
      (
        refl,
        (λ _. tt),
        (
          calls.keeps g.R.Device.tells g.R.Device.history g.R.Device.state b b.stripe b.seat b.reader i (Ok true) i32 c.requires.ready same (λ _. refl) later f,
          calls.asks g.R.Device.tells g.R.Device.history g.R.Device.state b b.stripe b.seat b.reader i (Ok true) i32 c.requires.ready same (λ _. refl) later f,
          calls.none_lent g.R.Device.tells g.R.Device.history g.R.Device.state b b.stripe b.seat b.reader i (Ok true) i32 c.requires.ready same (λ _. refl) later f,
          record { failed = λ q. absurd (cc q); bad = λ id q. absurd (cc q) },
          (subst (λ w. IsInHand (shown g.R.Device.history g.R.Device.state b) i w) bytes page.1, tt),
          tt,
        ),
      ),
      record { page = subst (λ w. IsPageIn g.R.Device.tells (shown g.R.Device.history g.R.Device.state b) i w) bytes page.0; none = tt; rests = tt },
    )

pub returns-in-Err : goal.returns-in-Err
returns-in-Err g c =
    let b = c.args.self.now in
    let s = c.bring.new.self in
    let e = c.in-Err.ensures in
    let i = c.args.index in
    let i32 : i < 4294967296 = omega arith in
    let P : PageId → Type 0 = λ id. Fetches b.locks.now (kept_by b) (kept s c.bring.new.seat) id g.R.Device.tells (file_by g.R.Device.history b id) (Err c.in-Err.fault) in
    let f : P (page_id b.part i) = subst P c.new-page.ensures e.fetches in
    let no : Err c.in-Err.fault ≡ Ok true → ⊥ = λ q. cc q in
    let x = calls.vain g.R.Device.tells g.R.Device.history g.R.Device.state b s c.bring.new.seat c.bring.new.reader i (Err c.in-Err.fault) i32 c.requires.ready e.same e.world e.later f no in (
      (
        refl,
        (λ _. tt),
        (
          calls.keeps g.R.Device.tells g.R.Device.history g.R.Device.state b s c.bring.new.seat c.bring.new.reader i (Err c.in-Err.fault) i32 c.requires.ready e.same e.world e.later f,
          x.asks,
          x.none_lent,
          record {
            failed = λ q. (let is : c.in-Err.fault ≡ Failed = cc q in e.failed (ap Err is));
            bad = λ id q. (let is : c.in-Err.fault ≡ BadPage id = cc q in calls.bad g.R.Device.tells g.R.Device.history g.R.Device.state b s c.bring.new.seat c.bring.new.reader i (Err c.in-Err.fault) i32 c.requires.ready e.same e.world e.later f id no (ap Err is));
          },
          tt,
          x.spare,
        ),
      ),
      record { page = tt; none = tt; rests = tt },
    )

pub returns-in-Ok-true : goal.returns-in-Ok-true
returns-in-Ok-true g c =
    let b = c.args.self.now in
    let s = c.bring.new.self in
    let e = c.in-Ok-true.ensures in
    let i = c.args.index in
    let i32 : i < 4294967296 = omega arith in
    let P : PageId → Type 0 = λ id. Fetches b.locks.now (kept_by b) (kept s c.bring.new.seat) id g.R.Device.tells (file_by g.R.Device.history b id) (Ok c.in-Ok-true.field-0) in
    let f : P (page_id b.part i) = subst P c.new-page.ensures e.fetches in
    let some = f.found (ap Ok c.in-Ok-true.field-0-test) in
    let hs = s.held.items in
    let at : c.place-at.result ≡ place_at hs (page_id b.part i).0 = c.place-at.ensures ∙ (λ n. place_at (c.deref-in-Ok-true.ensures.value n) (c.new-page.ensures n).0) in
    let h : Held = c.index-in-Ok-true.result.now in
    let x = in_place hs (page_id b.part i).0 c.place-at.result h some at c.index-in-Ok-true.ensures in
    let had = calls.had_page g.R.Device.tells g.R.Device.history g.R.Device.state b s c.bring.new.seat c.bring.new.reader i (Ok c.in-Ok-true.field-0) i32 c.requires.ready e.same e.world e.later f h x.0 in
    let bytes : h.lease.bytes ≡ c.bytes-in-Ok-true.result.now = sym c.bytes-in-Ok-true.ensures.bytes in (
      (
        refl,
        (λ _. tt),
        (
          calls.keeps g.R.Device.tells g.R.Device.history g.R.Device.state b s c.bring.new.seat c.bring.new.reader i (Ok c.in-Ok-true.field-0) i32 c.requires.ready e.same e.world e.later f,
          calls.asks g.R.Device.tells g.R.Device.history g.R.Device.state b s c.bring.new.seat c.bring.new.reader i (Ok c.in-Ok-true.field-0) i32 c.requires.ready e.same e.world e.later f,
          calls.none_lent g.R.Device.tells g.R.Device.history g.R.Device.state b s c.bring.new.seat c.bring.new.reader i (Ok c.in-Ok-true.field-0) i32 c.requires.ready e.same e.world e.later f,
          record { failed = λ q. absurd (cc q); bad = λ id q. absurd (cc q) },
          (subst (λ w. IsInHand (shown g.R.Device.history g.R.Device.state (record b { stripe = s; seat = c.bring.new.seat; reader = c.bring.new.reader })) i w) bytes had.1, tt),
          tt,
        ),
      ),
      record { page = subst (λ w. IsPageIn g.R.Device.tells (shown g.R.Device.history g.R.Device.state b) i w) bytes had.0; none = tt; rests = tt },
    )

pub returns-then-index-eq0 : goal.returns-then-index-eq0
returns-then-index-eq0 g c =
    let b = c.args.self.now in
    let s = c.bring.new.self in
    let e = c.in-Ok-false.ensures in
    let i = c.args.index in
    let i32 : i < 4294967296 = omega arith in
    let P : PageId → Type 0 = λ id. Fetches b.locks.now (kept_by b) (kept s c.bring.new.seat) id g.R.Device.tells (file_by g.R.Device.history b id) (Ok c.in-Ok-false.field-0) in
    let f : P (page_id b.part i) = subst P c.new-page.ensures e.fetches in
    let is = ap Ok c.in-Ok-false.field-0-test in
    let no = calls.not_had (Ok c.in-Ok-false.field-0) is in
    let x = calls.vain g.R.Device.tells g.R.Device.history g.R.Device.state b s c.bring.new.seat c.bring.new.reader i (Ok c.in-Ok-false.field-0) i32 c.requires.ready e.same e.world e.later f no in (
      (
        refl,
        (λ _. tt),
        (
          calls.keeps g.R.Device.tells g.R.Device.history g.R.Device.state b s c.bring.new.seat c.bring.new.reader i (Ok c.in-Ok-false.field-0) i32 c.requires.ready e.same e.world e.later f,
          x.asks,
          x.none_lent,
          record { failed = λ q. absurd (cc q); bad = λ id q. absurd (cc q) },
          (tt, x.spare),
          tt,
        ),
      ),
      record { page = tt; none = record { first = c.if-index-eq0.true; absent = calls.gone g.R.Device.tells g.R.Device.history g.R.Device.state b s c.bring.new.seat c.bring.new.reader i (Ok c.in-Ok-false.field-0) i32 c.requires.ready e.same e.world e.later f is }; rests = tt },
    )

pub returns-else-index-eq0 : goal.returns-else-index-eq0
returns-else-index-eq0 g c =
    let b = c.args.self.now in
    let s = c.bring.new.self in
    let e = c.in-Ok-false.ensures in
    let i = c.args.index in
    let i32 : i < 4294967296 = omega arith in
    let P : PageId → Type 0 = λ id. Fetches b.locks.now (kept_by b) (kept s c.bring.new.seat) id g.R.Device.tells (file_by g.R.Device.history b id) (Ok c.in-Ok-false.field-0) in
    let f : P (page_id b.part i) = subst P c.new-page.ensures e.fetches in
    let is = ap Ok c.in-Ok-false.field-0-test in
    let no = calls.not_had (Ok c.in-Ok-false.field-0) is in
    let x = calls.vain g.R.Device.tells g.R.Device.history g.R.Device.state b s c.bring.new.seat c.bring.new.reader i (Ok c.in-Ok-false.field-0) i32 c.requires.ready e.same e.world e.later f no in
    let missing = calls.missing g.R.Device.tells g.R.Device.history g.R.Device.state b s c.bring.new.seat c.bring.new.reader i (Ok c.in-Ok-false.field-0) i32 c.requires.ready e.same e.world e.later f is (λ _ zero_is. absurd (c.if-index-eq0.false zero_is)) in (
      (
        refl,
        (λ _. tt),
        (
          calls.keeps g.R.Device.tells g.R.Device.history g.R.Device.state b s c.bring.new.seat c.bring.new.reader i (Ok c.in-Ok-false.field-0) i32 c.requires.ready e.same e.world e.later f,
          x.asks,
          x.none_lent,
          record {
            failed = λ q. absurd (cc q);
            bad = λ id q. (let named : c.new-page.result ≡ id = cc q in subst (λ n. IsBadPage g.R.Device.tells (shown g.R.Device.history g.R.Device.state b) i n) (sym c.new-page.ensures ∙ named) missing);
          },
          tt,
          x.spare,
        ),
      ),
      record { page = tt; none = tt; rests = tt },
    )
