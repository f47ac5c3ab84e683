-- The store's stripe and seat are bound, its scan is answered, and what the round's end leaves is a store.
use Rattle.std.proofs.Common.{◌≡◌, ℕ, Option, length, sym, subst, ap, ◌∙◌}
use Rattle.std.specs.Prelude.{IfSome}
use Rattle.std.proofs.lemmas.Bool.{false≢true}
use Rattle.pm_types.specs.Counts.{HasRisen}
use Rattle.pm_disk.specs.Worlds.{World}
use Rattle.pm_engine.specs.FrameHosts.{ScansStore, count_after}
use Rattle.pm_engine.specs.FrameStores.{FrameStoreView, HasCleanPages, dirty_count}
use Rattle.pm_engine.proofs.FrameHosts.{bound_between, bound_shape}
use Rattle.pm_engine.proofs.ScannedStores.{owns_all, after_scan, scan_counted, scans_store}
use Rattle.pm_engine.proofs.frame_store.FrameStore.scan_with.Goals as goal

pub new-bound-requires-clause-rest : goal.new-bound-requires-clause-rest
new-bound-requires-clause-rest g c = (c.self.invariant.open_is (ap (λ (v : FrameStoreView). v.is_open) c.self.view_is ∙ c.requires.open)).rests

pub new-bound-requires-clause-reads : goal.new-bound-requires-clause-reads
new-bound-requires-clause-reads g c = record { usable = c.requires.usable; others = λ id own off. absurd (false≢true (sym off ∙ c.requires.each id)) }

pub new-bound-requires-clause-clean : goal.new-bound-requires-clause-clean
new-bound-requires-clause-clean g c t = subst (λ (v : FrameStoreView). HasCleanPages v (g.R.Device.history c.args.reader).world) (sym c.self.view_is) (c.requires.clean t)

pub scan_in_frames-answer-requires-clause-between : goal.scan_in_frames-answer-requires-clause-between
scan_in_frames-answer-requires-clause-between g c =
    let tells = g.R.Device.tells in
    let history = g.R.Device.history in
    let state = g.R.Device.state in
    let ins : FrameStoreView = record { shape = c.self.inside.shape; region = c.self.inside.region; locks = c.self.inside.locks; seat = c.self.inside.seat; stripe = c.self.inside.stripe; dirty = c.self.inside.dirty; is_open = c.self.inside.is_open } in
    let on = c.self.invariant.open_is (ap (λ (v : FrameStoreView). v.is_open) c.self.view_is ∙ c.requires.open) in
    let x = c.new-bound.ensures in
    bound_between tells history state ins on c.new-bound.result x.locks x.seat x.stripe x.bound

pub scan_in_frames-answer-requires-clause-shape : goal.scan_in_frames-answer-requires-clause-shape
scan_in_frames-answer-requires-clause-shape g c =
    let tells = g.R.Device.tells in
    let history = g.R.Device.history in
    let state = g.R.Device.state in
    let ins : FrameStoreView = record { shape = c.self.inside.shape; region = c.self.inside.region; locks = c.self.inside.locks; seat = c.self.inside.seat; stripe = c.self.inside.stripe; dirty = c.self.inside.dirty; is_open = c.self.inside.is_open } in
    let on = c.self.invariant.open_is (ap (λ (v : FrameStoreView). v.is_open) c.self.view_is ∙ c.requires.open) in
    let x = c.new-bound.ensures in
    bound_shape tells history state ins on c.new-bound.result x.locks x.seat x.stripe

pub scan_in_frames-answer-requires-clause-own : goal.scan_in_frames-answer-requires-clause-own
scan_in_frames-answer-requires-clause-own g c =
    let tells = g.R.Device.tells in
    let history = g.R.Device.history in
    let state = g.R.Device.state in
    let ins : FrameStoreView = record { shape = c.self.inside.shape; region = c.self.inside.region; locks = c.self.inside.locks; seat = c.self.inside.seat; stripe = c.self.inside.stripe; dirty = c.self.inside.dirty; is_open = c.self.inside.is_open } in
    let on = c.self.invariant.open_is (ap (λ (v : FrameStoreView). v.is_open) c.self.view_is ∙ c.requires.open) in
    let x = c.new-bound.ensures in
    owns_all tells history state ins on c.new-bound.result x.locks x.seat x.stripe

pub end-stripe-requires : goal.end-stripe-requires
end-stripe-requires g c =
    record { bound = c.scan_in_frames-answer.ensures.looks.between.bound }

pub invariant_of-store : goal.invariant_of-store
invariant_of-store g c =
    let tells = g.R.Device.tells in
    let history = g.R.Device.history in
    let state = g.R.Device.state in
    let ins : FrameStoreView = record { shape = c.self.inside.shape; region = c.self.inside.region; locks = c.self.inside.locks; seat = c.self.inside.seat; stripe = c.self.inside.stripe; dirty = c.self.inside.dirty; is_open = c.self.inside.is_open } in
    let on = c.self.invariant.open_is (ap (λ (v : FrameStoreView). v.is_open) c.self.view_is ∙ c.requires.open) in
    let x = c.new-bound.ensures in
    let y = c.scan_in_frames-answer.ensures in
    let answer = c.scan_in_frames-answer.result in
    let r = c.end-stripe.result in
    let e = c.end-stripe.ensures in
    let new : FrameStoreView = record ins { seat = r.1; stripe = r.0; dirty = c.count_after-dirty.result; is_open = c.goes_on_after-is_open.result } in
    let counted = scan_counted tells history state ins on c.new-bound.result x.locks x.seat x.stripe c.scan_in_frames-answer.new.bound c.args.replies.now c.scan_in_frames-answer.new.replies y.looks c.args.cache answer y.cause y.sound y.meets
    r.0 r.1 r.2 c.count_after-dirty.result c.goes_on_after-is_open.result e.ends e.rest c.goes_on_after-is_open.ensures c.self.invariant in
    let counted_is : c.count_after-dirty.result ≡ count_after ins.dirty c.goes_on_after-is_open.result (length ins.stripe.outbox) (length r.0.outbox) =
    c.count_after-dirty.ensures ∙ (λ i. count_after ins.dirty c.goes_on_after-is_open.result (length (c.outbox-was.ensures i)) (length (c.outbox.ensures i))) in
    after_scan tells history state ins on c.new-bound.result x.locks x.seat x.stripe c.scan_in_frames-answer.new.bound c.args.replies.now c.scan_in_frames-answer.new.replies y.looks c.args.cache answer y.cause y.sound y.meets
    r.0 r.1 r.2 c.count_after-dirty.result c.goes_on_after-is_open.result e.ends e.rest c.goes_on_after-is_open.ensures c.self.invariant
    (subst (λ (d : Option ℕ). IfSome d (λ count. count ≡ dirty_count new)) (sym counted_is) counted)

pub returns-clause-scans : goal.returns-clause-scans
returns-clause-scans g c =
    let tells = g.R.Device.tells in
    let history = g.R.Device.history in
    let state = g.R.Device.state in
    let ins : FrameStoreView = record { shape = c.self.inside.shape; region = c.self.inside.region; locks = c.self.inside.locks; seat = c.self.inside.seat; stripe = c.self.inside.stripe; dirty = c.self.inside.dirty; is_open = c.self.inside.is_open } in
    let on = c.self.invariant.open_is (ap (λ (v : FrameStoreView). v.is_open) c.self.view_is ∙ c.requires.open) in
    let x = c.new-bound.ensures in
    let y = c.scan_in_frames-answer.ensures in
    let answer = c.scan_in_frames-answer.result in
    let r = c.end-stripe.result in
    let e = c.end-stripe.ensures in
    let world : World = (history c.args.reader).world in
    let new : FrameStoreView = record ins { seat = r.1; stripe = r.0; dirty = c.count_after-dirty.result; is_open = c.goes_on_after-is_open.result } in
    subst (λ (v : FrameStoreView). ScansStore tells c.args.cache v new world c.args.replies.now c.scan_in_frames-answer.new.replies answer) c.self.view_is
    (scans_store tells history state ins on c.new-bound.result x.locks x.seat x.stripe c.scan_in_frames-answer.new.bound c.args.replies.now c.scan_in_frames-answer.new.replies y.looks c.args.cache answer y.cause y.sound y.meets
    r.0 r.1 r.2 c.count_after-dirty.result c.goes_on_after-is_open.result e.ends e.rest c.goes_on_after-is_open.ensures
    world (ap (λ q. (history q).world) x.reader) e.reader e.clean y.replied y.no_reply y.evaluates)

pub returns-clause-failed : goal.returns-clause-failed
returns-clause-failed g c =
    λ is.
    let state = g.R.Device.state in
    let risen = c.scan_in_frames-answer.ensures.cause is in
    subst (λ (p : ℕ × ℕ). HasRisen p.0 p.1) (λ i. ((state (c.new-bound.ensures.reader i)).faults, (state (sym c.end-stripe.ensures.reader i)).faults)) risen
