use Rattle.std.proofs.Common.{◌≡◌, ◌∙◌, Some, sym}
use Rattle.std.specs.Prelude.{slice_get}
use Rattle.std.proofs.lemmas.Option.{slice_get-get_or}
use Rattle.pm_model.specs.declared.line.Cmd.TheVariants.{Scan}
use Rattle.pm_model.specs.declared.line.Line.{Line}
use Rattle.pm_model.specs.declared.line.Line.TheVariants.{Good}
use Rattle.pm_engine.proofs.FrameParts.{first_alone, tries_first, tries_head}
use Rattle.pm_engine.proofs.engine.Engine.try_lines.Goals as goal

pub try_round-requires-clause-lines : goal.try_round-requires-clause-lines
try_round-requires-clause-lines g c _ _ = first_alone c.args.lines.now c.round_length.result c.round_length.ensures.lines

pub returns-in-Some-clause-tries : goal.returns-in-Some-clause-tries
returns-in-Some-clause-tries g c =
    let line : Line = c.index-lines-0.result in
    let lines = c.args.lines.now in
    let at : slice_get lines 0 ≡ Some line = slice_get-get_or lines 0 line c.requires.some ∙ (λ i. Some (sym c.index-lines-0.is i)) in
    tries_head g.H.Device.tells (g.H.Device.history c.args.host.now) (g.H.Device.history c.try_scan.new.host) c.args.first (Good (Scan c.in-Some.cache)) lines c.args.self c.try_scan.result.0
    c.args.replies.now c.try_scan.new.replies c.try_scan.result.1 (at ∙ (λ i. Some (c.in-Some.ensures i))) c.try_scan.ensures.tries

pub returns-in-None-clause-tries : goal.returns-in-None-clause-tries
returns-in-None-clause-tries g c =
    tries_first g.H.Device.tells (g.H.Device.history c.args.host.now) (g.H.Device.history c.try_round.new.host) c.args.first c.round_length.result c.args.lines.now c.args.self c.try_round.result.0
    c.args.replies.now c.try_round.new.replies c.try_round.result.1 c.try_round.ensures.tries
