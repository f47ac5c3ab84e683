use Rattle.std.proofs.Common.{true, false, length, refl, sym, ap, ◌∙◌, arith}
use Rattle.std.proofs.lemmas.List.Sums.{count_by-le-length}
use Rattle.pm_policies.specs.declared.segments.Standing.{Standing}
use Rattle.pm_policies.proofs.Sides.{one_if, counts_one, side_placed, segments_placed}
use Rattle.pm_policies.proofs.segments.place_in.Goals as goal

pub recount-count-requires-clause-some : goal.recount-count-requires-clause-some
recount-count-requires-clause-some c =
    let was = c.requires.segments in
    λ e. omega (arith, was.counted, counts_one c.args.frames.now c.args.frame c.requires.frame (ap (λ (s : Standing). s.is_protected) (sym c.standing_of-was.ensures) ∙ e))

pub recount-count-requires-clause-few : goal.recount-count-requires-clause-few
recount-count-requires-clause-few c =
    let was = c.requires.segments in omega (arith, was.counted, was.few, count_by-le-length (λ (s : Standing). s.is_protected) c.args.frames.now)

pub enter-requires-clause-games : goal.enter-requires-clause-games
enter-requires-clause-games c = c.requires.segments.probationary.games

pub enter-requires-2-clause-games : goal.enter-requires-2-clause-games
enter-requires-2-clause-games c = c.requires.segments.protected.games

pub returns-clause-segments : goal.returns-clause-segments
returns-clause-segments c =
    let frames = c.args.frames.now in let was = c.requires.segments in let within = c.requires.frame in
    segments_placed frames c.args.probationary.now c.args.protected.now c.enter.new.nodes c.enter-2.new.nodes c.args.count c.recount-count.result c.args.frame c.args.standing was
    (side_placed frames false c.args.probationary.now c.enter.new.nodes (length frames) c.args.frame c.args.standing was.probationary within refl
    c.enter.ensures.games (c.enter.ensures.entered ∙ c.contender-other.ensures) c.enter.ensures.others)
    (side_placed frames true c.args.protected.now c.enter-2.new.nodes (length frames) c.args.frame c.args.standing was.protected within refl
    c.enter-2.ensures.games (c.enter-2.ensures.entered ∙ c.contender-spared.ensures) c.enter-2.ensures.others)
    within
    (omega (arith, c.recount-count.ensures, ap (λ (s : Standing). one_if s.is_protected) c.standing_of-was.ensures))
