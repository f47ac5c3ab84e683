-- The store's stripe and seat are bound, the command is applied again, and what the round's end leaves is a store.
use Rattle.std.proofs.Common.{ℕ, None, sym, subst, ap, ◌∙◌}
use Rattle.std.proofs.lemmas.Bool.{false≢true}
use Rattle.pm_types.specs.Counts.{HasRisen}
use Rattle.pm_disk.specs.Worlds.{World}
use Rattle.pm_model.specs.declared.line.Line.TheVariants.{Good}
use Rattle.pm_engine.specs.FrameReplays.{AppliesToStore}
use Rattle.pm_engine.specs.FrameStores.{FrameStoreView, HasCleanPages}
use Rattle.pm_engine.proofs.AppliedCommands.{store_line, applied_store, applies_store}
use Rattle.pm_engine.proofs.FrameHosts.{bound_between, bound_shape, bound_line}
use Rattle.pm_engine.proofs.frame_store.FrameStore.apply_with.Goals as goal

pub new-bound-requires-clause-rest : goal.new-bound-requires-clause-rest
new-bound-requires-clause-rest g c = (c.self.invariant.open_is (ap (λ (v : FrameStoreView). v.is_open) c.self.view_is ∙ c.requires.open)).rests

pub new-bound-requires-clause-reads : goal.new-bound-requires-clause-reads
new-bound-requires-clause-reads g c = record { usable = c.requires.usable; others = λ id own off. absurd (false≢true (sym off ∙ c.requires.each id)) }

pub new-bound-requires-clause-clean : goal.new-bound-requires-clause-clean
new-bound-requires-clause-clean g c t = subst (λ (v : FrameStoreView). HasCleanPages v (g.R.Device.history c.args.reader).world) (sym c.self.view_is) (c.requires.clean t)

pub apply_in_frames-answer-requires-clause-between : goal.apply_in_frames-answer-requires-clause-between
apply_in_frames-answer-requires-clause-between g c =
    let ins : FrameStoreView = record { shape = c.self.inside.shape; region = c.self.inside.region; locks = c.self.inside.locks; seat = c.self.inside.seat; stripe = c.self.inside.stripe; dirty = c.self.inside.dirty; is_open = c.self.inside.is_open } in
    let on = c.self.invariant.open_is (ap (λ (v : FrameStoreView). v.is_open) c.self.view_is ∙ c.requires.open) in
    let x = c.new-bound.ensures in
    bound_between g.R.Device.tells g.R.Device.history g.R.Device.state ins on c.new-bound.result x.locks x.seat x.stripe x.bound

pub apply_in_frames-answer-requires-clause-shape : goal.apply_in_frames-answer-requires-clause-shape
apply_in_frames-answer-requires-clause-shape g c =
    let ins : FrameStoreView = record { shape = c.self.inside.shape; region = c.self.inside.region; locks = c.self.inside.locks; seat = c.self.inside.seat; stripe = c.self.inside.stripe; dirty = c.self.inside.dirty; is_open = c.self.inside.is_open } in
    let on = c.self.invariant.open_is (ap (λ (v : FrameStoreView). v.is_open) c.self.view_is ∙ c.requires.open) in
    let x = c.new-bound.ensures in
    bound_shape g.R.Device.tells g.R.Device.history g.R.Device.state ins on c.new-bound.result x.locks x.seat x.stripe

pub apply_in_frames-answer-requires-clause-line : goal.apply_in_frames-answer-requires-clause-line
apply_in_frames-answer-requires-clause-line g c =
    let ins : FrameStoreView = record { shape = c.self.inside.shape; region = c.self.inside.region; locks = c.self.inside.locks; seat = c.self.inside.seat; stripe = c.self.inside.stripe; dirty = c.self.inside.dirty; is_open = c.self.inside.is_open } in
    let on = c.self.invariant.open_is (ap (λ (v : FrameStoreView). v.is_open) c.self.view_is ∙ c.requires.open) in
    let x = c.new-bound.ensures in
    bound_line g.R.Device.tells g.R.Device.history g.R.Device.state ins on c.new-bound.result x.locks x.seat x.stripe (Good c.args.cmd.now) (store_line c.args.key.now c.args.cmd.now c.requires.key c.requires.cache)

pub end-stripe-requires : goal.end-stripe-requires
end-stripe-requires g c = record { bound = c.apply_in_frames-answer.ensures.bound }

pub invariant_of-store : goal.invariant_of-store
invariant_of-store g c =
    let ins : FrameStoreView = record { shape = c.self.inside.shape; region = c.self.inside.region; locks = c.self.inside.locks; seat = c.self.inside.seat; stripe = c.self.inside.stripe; dirty = c.self.inside.dirty; is_open = c.self.inside.is_open } in
    let on = c.self.invariant.open_is (ap (λ (v : FrameStoreView). v.is_open) c.self.view_is ∙ c.requires.open) in
    let x = c.new-bound.ensures in
    let r = c.end-stripe.result in
    let e = c.end-stripe.ensures in
    applied_store g.R.Device.tells g.R.Device.history g.R.Device.state c.args.cmd.now ins on c.new-bound.result x.locks x.seat x.stripe
    c.apply_in_frames-answer.new.bound c.args.replies.now c.apply_in_frames-answer.new.replies c.apply_in_frames-answer.result c.apply_in_frames-answer.ensures
    r.0 r.1 r.2 c.may_apply_more-is_open.result e.ends e.rest c.may_apply_more-is_open.ensures c.self.invariant

pub returns-clause-applies : goal.returns-clause-applies
returns-clause-applies g c =
    let ins : FrameStoreView = record { shape = c.self.inside.shape; region = c.self.inside.region; locks = c.self.inside.locks; seat = c.self.inside.seat; stripe = c.self.inside.stripe; dirty = c.self.inside.dirty; is_open = c.self.inside.is_open } in
    let on = c.self.invariant.open_is (ap (λ (v : FrameStoreView). v.is_open) c.self.view_is ∙ c.requires.open) in
    let x = c.new-bound.ensures in
    let r = c.end-stripe.result in
    let e = c.end-stripe.ensures in
    let world : World = (g.R.Device.history c.args.reader).world in
    let new : FrameStoreView = record ins { seat = r.1; stripe = r.0; dirty = None; is_open = c.may_apply_more-is_open.result } in
    let answers = c.apply_in_frames-answer.ensures in
    subst (λ (v : FrameStoreView). AppliesToStore g.row.Q.Denot g.R.Device.tells g.R.Device.history g.R.Device.state c.args.cmd.now v new world c.args.replies.now c.apply_in_frames-answer.new.replies r.2 c.apply_in_frames-answer.result) c.self.view_is
    (applies_store g.R.Device.tells g.R.Device.history g.R.Device.state c.args.cmd.now ins on c.new-bound.result x.locks x.seat x.stripe
    c.apply_in_frames-answer.new.bound c.args.replies.now c.apply_in_frames-answer.new.replies c.apply_in_frames-answer.result answers
    r.0 r.1 r.2 c.may_apply_more-is_open.result e.ends e.rest c.may_apply_more-is_open.ensures
    world (ap (λ y. (g.R.Device.history y).world) x.reader) e.reader e.clean)

pub returns-clause-failed : goal.returns-clause-failed
returns-clause-failed g c = λ is.
    let state = g.R.Device.state in
    let risen = c.apply_in_frames-answer.ensures.cause is in
    subst (λ (p : ℕ × ℕ). HasRisen p.0 p.1) (λ i. ((state (c.new-bound.ensures.reader i)).faults, (state (sym c.end-stripe.ensures.reader i)).faults)) risen
