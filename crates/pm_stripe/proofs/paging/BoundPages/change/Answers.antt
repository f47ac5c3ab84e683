use Rattle.std.proofs.Common.{◌≡◌, ◌<◌, true, Ok, Err, sym, ap, ◌∙◌, subst, arith}
use Rattle.pm_types.specs.declared.page_id.PageId.{PageId}
use Rattle.pm_types.specs.declared.fault.PageFault.TheVariants.{Failed, BadPage}
use Rattle.pm_types.specs.Ids.{page_id}
use Rattle.pm_stripe.specs.Fetches.{Fetches}
use Rattle.pm_pages.specs.Paged.{IsBadPage}
use Rattle.pm_stripe.specs.Rewrites.{LendsPage}
use Rattle.pm_stripe.specs.Shown.{kept_by, file_by, shown}
use Rattle.pm_stripe.specs.Stripes.{kept}
use Rattle.pm_stripe.proofs.BoundCalls as calls
use Rattle.pm_stripe.proofs.paging.BoundPages.change.Goals as goal

pub returns-in-Err-clause-kept : goal.returns-in-Err-clause-kept
returns-in-Err-clause-kept g c =
    let b = c.args.self.now in
    let s = c.fetch.new.self in
    let e = c.in-Err.ensures in
    let i = c.args.index in
    let i32 : i < 4294967296 = omega arith in
    let P : PageId → Type 0 = λ id. Fetches b.locks.now (kept_by b) (kept s c.fetch.new.seat) id g.R.Device.tells (file_by g.R.Device.history b id) (Err c.in-Err.fault) in
    let f : P (page_id b.part i) = subst P c.new-page.ensures e.fetches in
    let no : Err c.in-Err.fault ≡ Ok true → ⊥ = λ q. cc q in
    calls.keeps g.R.Device.tells g.R.Device.history g.R.Device.state b s c.fetch.new.seat c.fetch.new.reader i (Err c.in-Err.fault) i32 c.requires.ready e.same e.world e.later f

pub returns-in-Err-clause-asks : goal.returns-in-Err-clause-asks
returns-in-Err-clause-asks g c =
    let b = c.args.self.now in
    let s = c.fetch.new.self in
    let e = c.in-Err.ensures in
    let i = c.args.index in
    let i32 : i < 4294967296 = omega arith in
    let P : PageId → Type 0 = λ id. Fetches b.locks.now (kept_by b) (kept s c.fetch.new.seat) id g.R.Device.tells (file_by g.R.Device.history b id) (Err c.in-Err.fault) in
    let f : P (page_id b.part i) = subst P c.new-page.ensures e.fetches in
    let no : Err c.in-Err.fault ≡ Ok true → ⊥ = λ q. cc q in
    calls.asks g.R.Device.tells g.R.Device.history g.R.Device.state b s c.fetch.new.seat c.fetch.new.reader i (Err c.in-Err.fault) i32 c.requires.ready e.same e.world e.later f

pub returns-in-Err-clause-unchanged : goal.returns-in-Err-clause-unchanged
returns-in-Err-clause-unchanged g c =
    let b = c.args.self.now in
    let s = c.fetch.new.self in
    let e = c.in-Err.ensures in
    let i = c.args.index in
    let i32 : i < 4294967296 = omega arith in
    let P : PageId → Type 0 = λ id. Fetches b.locks.now (kept_by b) (kept s c.fetch.new.seat) id g.R.Device.tells (file_by g.R.Device.history b id) (Err c.in-Err.fault) in
    let f : P (page_id b.part i) = subst P c.new-page.ensures e.fetches in
    let no : Err c.in-Err.fault ≡ Ok true → ⊥ = λ q. cc q in
    calls.vain g.R.Device.tells g.R.Device.history g.R.Device.state b s c.fetch.new.seat c.fetch.new.reader i (Err c.in-Err.fault) i32 c.requires.ready e.same e.world e.later f no

pub returns-in-Err-clause-cause : goal.returns-in-Err-clause-cause
returns-in-Err-clause-cause g c =
    let b = c.args.self.now in
    let s = c.fetch.new.self in
    let e = c.in-Err.ensures in
    let i = c.args.index in
    let i32 : i < 4294967296 = omega arith in
    let P : PageId → Type 0 = λ id. Fetches b.locks.now (kept_by b) (kept s c.fetch.new.seat) id g.R.Device.tells (file_by g.R.Device.history b id) (Err c.in-Err.fault) in
    let f : P (page_id b.part i) = subst P c.new-page.ensures e.fetches in
    let no : Err c.in-Err.fault ≡ Ok true → ⊥ = λ q. cc q in
    record {
      failed = λ q. (let is : c.in-Err.fault ≡ Failed = cc q in e.failed (ap Err is));
      bad = λ id q. (let is : c.in-Err.fault ≡ BadPage id = cc q in calls.bad g.R.Device.tells g.R.Device.history g.R.Device.state b s c.fetch.new.seat c.fetch.new.reader i (Err c.in-Err.fault) i32 c.requires.ready e.same e.world e.later f id no (ap Err is));
    }

pub returns-in-Ok-true-clause-kept : goal.returns-in-Ok-true-clause-kept
returns-in-Ok-true-clause-kept g c =
    let b = c.args.self.now in
    let s = c.fetch.new.self in
    let e = c.in-Ok-true.ensures in
    let i = c.args.index in
    let i32 : i < 4294967296 = omega arith in
    let P : PageId → Type 0 = λ id. Fetches b.locks.now (kept_by b) (kept s c.fetch.new.seat) id g.R.Device.tells (file_by g.R.Device.history b id) (Ok c.in-Ok-true.field-0) in
    let f : P (page_id b.part i) = subst P c.new-page.ensures e.fetches in
    let x = subst (LendsPage s c.lend.new.self) c.new-page.ensures c.lend.ensures in
    calls.lends_keeps g.R.Device.tells g.R.Device.history g.R.Device.state b s c.fetch.new.seat c.fetch.new.reader i (Ok c.in-Ok-true.field-0) i32 c.requires.ready e.same e.world e.later f c.lend.new.self x

pub returns-in-Ok-true-clause-asks : goal.returns-in-Ok-true-clause-asks
returns-in-Ok-true-clause-asks g c =
    let b = c.args.self.now in
    let s = c.fetch.new.self in
    let e = c.in-Ok-true.ensures in
    let i = c.args.index in
    let i32 : i < 4294967296 = omega arith in
    let P : PageId → Type 0 = λ id. Fetches b.locks.now (kept_by b) (kept s c.fetch.new.seat) id g.R.Device.tells (file_by g.R.Device.history b id) (Ok c.in-Ok-true.field-0) in
    let f : P (page_id b.part i) = subst P c.new-page.ensures e.fetches in
    let x = subst (LendsPage s c.lend.new.self) c.new-page.ensures c.lend.ensures in
    (calls.lends g.R.Device.tells g.R.Device.history g.R.Device.state b s c.fetch.new.seat c.fetch.new.reader i (Ok c.in-Ok-true.field-0) i32 c.requires.ready e.same e.world e.later f c.lend.new.self x).0

pub returns-in-Ok-true-clause-lent : goal.returns-in-Ok-true-clause-lent
returns-in-Ok-true-clause-lent g c =
    let b = c.args.self.now in
    let s = c.fetch.new.self in
    let e = c.in-Ok-true.ensures in
    let i = c.args.index in
    let i32 : i < 4294967296 = omega arith in
    let P : PageId → Type 0 = λ id. Fetches b.locks.now (kept_by b) (kept s c.fetch.new.seat) id g.R.Device.tells (file_by g.R.Device.history b id) (Ok c.in-Ok-true.field-0) in
    let f : P (page_id b.part i) = subst P c.new-page.ensures e.fetches in
    let x = subst (LendsPage s c.lend.new.self) c.new-page.ensures c.lend.ensures in
    (calls.lends g.R.Device.tells g.R.Device.history g.R.Device.state b s c.fetch.new.seat c.fetch.new.reader i (Ok c.in-Ok-true.field-0) i32 c.requires.ready e.same e.world e.later f c.lend.new.self x).1

pub returns-in-Ok-false-clause-kept : goal.returns-in-Ok-false-clause-kept
returns-in-Ok-false-clause-kept g c =
    let b = c.args.self.now in
    let s = c.fetch.new.self in
    let e = c.in-Ok-false.ensures in
    let i = c.args.index in
    let i32 : i < 4294967296 = omega arith in
    let P : PageId → Type 0 = λ id. Fetches b.locks.now (kept_by b) (kept s c.fetch.new.seat) id g.R.Device.tells (file_by g.R.Device.history b id) (Ok c.in-Ok-false.field-0) in
    let f : P (page_id b.part i) = subst P c.new-page.ensures e.fetches in
    let is = ap Ok c.in-Ok-false.field-0-test in
    let no = calls.not_had (Ok c.in-Ok-false.field-0) is in
    calls.keeps g.R.Device.tells g.R.Device.history g.R.Device.state b s c.fetch.new.seat c.fetch.new.reader i (Ok c.in-Ok-false.field-0) i32 c.requires.ready e.same e.world e.later f

pub returns-in-Ok-false-clause-asks : goal.returns-in-Ok-false-clause-asks
returns-in-Ok-false-clause-asks g c =
    let b = c.args.self.now in
    let s = c.fetch.new.self in
    let e = c.in-Ok-false.ensures in
    let i = c.args.index in
    let i32 : i < 4294967296 = omega arith in
    let P : PageId → Type 0 = λ id. Fetches b.locks.now (kept_by b) (kept s c.fetch.new.seat) id g.R.Device.tells (file_by g.R.Device.history b id) (Ok c.in-Ok-false.field-0) in
    let f : P (page_id b.part i) = subst P c.new-page.ensures e.fetches in
    let is = ap Ok c.in-Ok-false.field-0-test in
    let no = calls.not_had (Ok c.in-Ok-false.field-0) is in
    calls.asks g.R.Device.tells g.R.Device.history g.R.Device.state b s c.fetch.new.seat c.fetch.new.reader i (Ok c.in-Ok-false.field-0) i32 c.requires.ready e.same e.world e.later f

pub returns-in-Ok-false-clause-unchanged : goal.returns-in-Ok-false-clause-unchanged
returns-in-Ok-false-clause-unchanged g c =
    let b = c.args.self.now in
    let s = c.fetch.new.self in
    let e = c.in-Ok-false.ensures in
    let i = c.args.index in
    let i32 : i < 4294967296 = omega arith in
    let P : PageId → Type 0 = λ id. Fetches b.locks.now (kept_by b) (kept s c.fetch.new.seat) id g.R.Device.tells (file_by g.R.Device.history b id) (Ok c.in-Ok-false.field-0) in
    let f : P (page_id b.part i) = subst P c.new-page.ensures e.fetches in
    let is = ap Ok c.in-Ok-false.field-0-test in
    let no = calls.not_had (Ok c.in-Ok-false.field-0) is in
    calls.vain g.R.Device.tells g.R.Device.history g.R.Device.state b s c.fetch.new.seat c.fetch.new.reader i (Ok c.in-Ok-false.field-0) i32 c.requires.ready e.same e.world e.later f no

pub returns-in-Ok-false-clause-cause : goal.returns-in-Ok-false-clause-cause
returns-in-Ok-false-clause-cause g c =
    let b = c.args.self.now in
    let s = c.fetch.new.self in
    let e = c.in-Ok-false.ensures in
    let i = c.args.index in
    let i32 : i < 4294967296 = omega arith in
    let P : PageId → Type 0 = λ id. Fetches b.locks.now (kept_by b) (kept s c.fetch.new.seat) id g.R.Device.tells (file_by g.R.Device.history b id) (Ok c.in-Ok-false.field-0) in
    let f : P (page_id b.part i) = subst P c.new-page.ensures e.fetches in
    let is = ap Ok c.in-Ok-false.field-0-test in
    let no = calls.not_had (Ok c.in-Ok-false.field-0) is in
    record {
      failed = λ q. absurd (cc q);
      bad = λ id q.
          let named : c.new-page.result ≡ id = cc q in
          subst (λ n. IsBadPage g.R.Device.tells (shown g.R.Device.history g.R.Device.state b) i n) (sym c.new-page.ensures ∙ named)
          (calls.missing g.R.Device.tells g.R.Device.history g.R.Device.state b s c.fetch.new.seat c.fetch.new.reader i (Ok c.in-Ok-false.field-0) i32 c.requires.ready e.same e.world e.later f is (λ t zero_is. c.requires.there t));
    }
