-- The store's stripe and seat are bound, its lines are done, and what the round's end leaves is a store.
use Rattle.std.proofs.Common.{◌≡◌, ℕ, Option, length, sym, subst, ap, ◌∙◌}
use Rattle.std.specs.Prelude.{IfSome}
use Rattle.std.proofs.lemmas.Bool.{false≢true}
use Rattle.pm_types.specs.Counts.{HasRisen}
use Rattle.pm_disk.specs.Worlds.{World}
use Rattle.pm_engine.specs.FrameHosts.{RunsRound, count_after}
use Rattle.pm_engine.specs.FrameStores.{FrameStoreView, HasCleanPages, dirty_count}
use Rattle.pm_engine.proofs.FrameHosts.{bound_between, bound_shape, bound_line, end_bound, after_round, runs_round}
use Rattle.pm_engine.proofs.QuietRounds.{round_counted}
use Rattle.pm_engine.proofs.frame_store.FrameStore.run_lines.Goals as goal

pub new-bound-requires-clause-rest : goal.new-bound-requires-clause-rest
new-bound-requires-clause-rest g c = (c.self.invariant.open_is (ap (λ (v : FrameStoreView). v.is_open) c.self.view_is ∙ c.requires.open)).rests

pub new-bound-requires-clause-reads : goal.new-bound-requires-clause-reads
new-bound-requires-clause-reads g c = record { usable = c.requires.usable; others = λ id own off. absurd (false≢true (sym off ∙ c.requires.each id)) }

pub new-bound-requires-clause-clean : goal.new-bound-requires-clause-clean
new-bound-requires-clause-clean g c t = subst (λ (v : FrameStoreView). HasCleanPages v (g.R.Device.history c.args.reader).world) (sym c.self.view_is) (c.requires.clean t)

pub lines_in_frames-end-requires-clause-between : goal.lines_in_frames-end-requires-clause-between
lines_in_frames-end-requires-clause-between g c =
    let ins : FrameStoreView = record { shape = c.self.inside.shape; region = c.self.inside.region; locks = c.self.inside.locks; seat = c.self.inside.seat; stripe = c.self.inside.stripe; dirty = c.self.inside.dirty; is_open = c.self.inside.is_open } in
    let on = c.self.invariant.open_is (ap (λ (v : FrameStoreView). v.is_open) c.self.view_is ∙ c.requires.open) in
    let x = c.new-bound.ensures in
    bound_between g.R.Device.tells g.R.Device.history g.R.Device.state ins on c.new-bound.result x.locks x.seat x.stripe x.bound

pub lines_in_frames-end-requires-clause-shape : goal.lines_in_frames-end-requires-clause-shape
lines_in_frames-end-requires-clause-shape g c =
    let ins : FrameStoreView = record { shape = c.self.inside.shape; region = c.self.inside.region; locks = c.self.inside.locks; seat = c.self.inside.seat; stripe = c.self.inside.stripe; dirty = c.self.inside.dirty; is_open = c.self.inside.is_open } in
    let on = c.self.invariant.open_is (ap (λ (v : FrameStoreView). v.is_open) c.self.view_is ∙ c.requires.open) in
    let x = c.new-bound.ensures in
    bound_shape g.R.Device.tells g.R.Device.history g.R.Device.state ins on c.new-bound.result x.locks x.seat x.stripe

pub lines_in_frames-end-requires-clause-lines : goal.lines_in_frames-end-requires-clause-lines
lines_in_frames-end-requires-clause-lines g c i line at =
    let ins : FrameStoreView = record { shape = c.self.inside.shape; region = c.self.inside.region; locks = c.self.inside.locks; seat = c.self.inside.seat; stripe = c.self.inside.stripe; dirty = c.self.inside.dirty; is_open = c.self.inside.is_open } in
    let on = c.self.invariant.open_is (ap (λ (v : FrameStoreView). v.is_open) c.self.view_is ∙ c.requires.open) in
    let x = c.new-bound.ensures in
    bound_line g.R.Device.tells g.R.Device.history g.R.Device.state ins on c.new-bound.result x.locks x.seat x.stripe line (c.requires.lines i line at)

pub end-stripe-requires : goal.end-stripe-requires
end-stripe-requires g c = record {
  bound =
      end_bound g.R.Device.tells g.R.Device.history g.R.Device.state c.args.first c.args.from c.args.lines.now c.new-bound.result c.lines_in_frames-end.new.bound c.args.replies.now c.lines_in_frames-end.new.replies c.lines_in_frames-end.result c.lines_in_frames-end.ensures;
}

pub invariant_of-store : goal.invariant_of-store
invariant_of-store g c =
    let ins : FrameStoreView = record { shape = c.self.inside.shape; region = c.self.inside.region; locks = c.self.inside.locks; seat = c.self.inside.seat; stripe = c.self.inside.stripe; dirty = c.self.inside.dirty; is_open = c.self.inside.is_open } in
    let on = c.self.invariant.open_is (ap (λ (v : FrameStoreView). v.is_open) c.self.view_is ∙ c.requires.open) in
    let x = c.new-bound.ensures in
    let r = c.end-stripe.result in
    let e = c.end-stripe.ensures in
    let new : FrameStoreView = record ins { seat = r.1; stripe = r.0; dirty = c.count_after-dirty.result; is_open = c.goes_on-is_open.result } in
    let counted = round_counted g.R.Device.tells g.R.Device.history g.R.Device.state ins on c.new-bound.result x.locks x.seat x.stripe
    c.args.first c.args.from c.args.lines.now c.lines_in_frames-end.new.bound c.args.replies.now c.lines_in_frames-end.new.replies c.lines_in_frames-end.result c.lines_in_frames-end.ensures
    r.0 r.1 r.2 c.goes_on-is_open.result e.ends e.rest c.goes_on-is_open.ensures c.self.invariant in
    let counted_is : c.count_after-dirty.result ≡ count_after ins.dirty c.goes_on-is_open.result (length ins.stripe.outbox) (length r.0.outbox) =
    c.count_after-dirty.ensures ∙ (λ i. count_after ins.dirty c.goes_on-is_open.result (length (c.outbox-was.ensures i)) (length (c.outbox.ensures i))) in
    after_round g.R.Device.tells g.R.Device.history g.R.Device.state ins on c.new-bound.result x.locks x.seat x.stripe
    c.args.first c.args.from c.args.lines.now c.lines_in_frames-end.new.bound c.args.replies.now c.lines_in_frames-end.new.replies c.lines_in_frames-end.result c.lines_in_frames-end.ensures
    r.0 r.1 r.2 c.count_after-dirty.result c.goes_on-is_open.result e.ends e.rest c.goes_on-is_open.ensures c.self.invariant
    (subst (λ (d : Option ℕ). IfSome d (λ count. count ≡ dirty_count new)) (sym counted_is) counted)

pub returns-clause-runs : goal.returns-clause-runs
returns-clause-runs g c =
    let ins : FrameStoreView = record { shape = c.self.inside.shape; region = c.self.inside.region; locks = c.self.inside.locks; seat = c.self.inside.seat; stripe = c.self.inside.stripe; dirty = c.self.inside.dirty; is_open = c.self.inside.is_open } in
    let on = c.self.invariant.open_is (ap (λ (v : FrameStoreView). v.is_open) c.self.view_is ∙ c.requires.open) in
    let x = c.new-bound.ensures in
    let r = c.end-stripe.result in
    let e = c.end-stripe.ensures in
    let world : World = (g.R.Device.history c.args.reader).world in
    let new : FrameStoreView = record ins { seat = r.1; stripe = r.0; dirty = c.count_after-dirty.result; is_open = c.goes_on-is_open.result } in
    let answers = c.lines_in_frames-end.ensures in
    subst (λ (v : FrameStoreView). RunsRound g.row.Q.Denot g.R.Device.tells g.R.Device.history g.R.Device.state c.args.first c.args.from c.args.lines.now v new world c.args.replies.now c.lines_in_frames-end.new.replies r.2 c.lines_in_frames-end.result) c.self.view_is
    (runs_round g.R.Device.tells g.R.Device.history g.R.Device.state ins on c.new-bound.result x.locks x.seat x.stripe
    c.args.first c.args.from c.args.lines.now c.lines_in_frames-end.new.bound c.args.replies.now c.lines_in_frames-end.new.replies c.lines_in_frames-end.result answers
    r.0 r.1 r.2 c.count_after-dirty.result c.goes_on-is_open.result e.ends e.rest c.goes_on-is_open.ensures
    world (ap (λ y. (g.R.Device.history y).world) x.reader) e.reader e.clean)

pub returns-clause-failed : goal.returns-clause-failed
returns-clause-failed g c = λ is.
    let state = g.R.Device.state in
    let risen = c.lines_in_frames-end.ensures.cause is in
    subst (λ (p : ℕ × ℕ). HasRisen p.0 p.1) (λ i. ((state (c.new-bound.ensures.reader i)).faults, (state (sym c.end-stripe.ensures.reader i)).faults)) risen
