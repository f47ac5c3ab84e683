use Rattle.std.proofs.Common.{[], ◌∷◌, sym, ◌∙◌, ap, subst}
use Rattle.pm_model.specs.declared.line.Cmd.TheVariants.{Scan}
use Rattle.pm_model.specs.declared.line.Line.TheVariants.{Good}
use Rattle.pm_segments.specs.Ends.{EndsThere}
use Rattle.pm_engine.specs.FrameBatches.{TriesLines}
use Rattle.pm_engine.specs.Engines.{FrameRunning}
use Rattle.pm_engine.proofs.FrameParts.{scan_tried}
use Rattle.pm_engine.proofs.engine.Engine.try_scan.Goals as goal

pub returns-clause-tries : goal.returns-clause-tries
returns-clause-tries g c =
    let ins : FrameRunning = record { store = c.self.inside.pages; log = c.self.inside.log.value; ckpt = c.self.inside.ckpt; began = c.self.inside.began; order = c.self.inside.order.items } in
    let tells = g.H.Device.tells in
    let old = g.H.Device.history c.args.host.now in
    let scan = c.scan-pages in
    let new = g.H.Device.history scan.new.host in
    let is = c.self.view_is in
    subst (λ (e : FrameRunning). TriesLines tells old new c.args.first (Good (Scan c.args.cache) ∷ []) e (record ins { store = scan.result.0 }) c.args.replies.now scan.new.replies c.done_by.result) is
    (scan_tried tells old new c.args.first c.args.cache ins scan.result.0 c.args.replies.now scan.new.replies scan.ensures.world
    (ap (λ (e : FrameRunning). e.store.is_open) is ∙ c.requires.is_open) (λ t. subst (λ (e : FrameRunning). EndsThere e.log old.world) (sym is) (c.requires.end t))
    scan.result.1 scan.ensures.scans c.done_by.result c.done_by.ensures)
