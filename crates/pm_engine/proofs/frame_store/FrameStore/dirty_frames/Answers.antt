use Rattle.std.proofs.Common.{◌≡◌, ◌∷◌, [], Some, length, refl, sym, ap, ◌∙◌}
use Rattle.pm_ckpt.specs.Dirty.{dirty_below}
use Rattle.pm_engine.specs.FrameStores.{FrameStoreView}
use Rattle.pm_engine.proofs.FrameDirtyCounts.{looks_store, counts_names}
use Rattle.pm_engine.proofs.frame_store.FrameStore.dirty_frames.Goals as goal

pub invariant_of-self : goal.invariant_of-self
invariant_of-self c =
    let ins : FrameStoreView = record { shape = c.self.inside.shape; region = c.self.inside.region; locks = c.self.inside.locks; seat = c.self.inside.seat; stripe = c.self.inside.stripe; dirty = c.self.inside.dirty; is_open = c.self.inside.is_open } in
    let count = c.count_dirty-count.result in
    let seat = c.count_dirty-count.new.seat in
    let all : c.args.frames ≡ length ins.locks.ranges = c.requires.frames ∙ ap (λ (v : FrameStoreView). length v.locks.ranges) (sym c.self.view_is) in
    let counts = counts_names ins count (c.count_dirty-count.ensures.counts ∙ ap (λ n. length (dirty_below (ins.stripe ∷ []) ins.seat.view n)) all) in
    looks_store ins c.self.invariant seat c.count_dirty-count.ensures.seat c.count_dirty-count.ensures.looks count counts (record ins { seat = seat; dirty = Some count }) refl
