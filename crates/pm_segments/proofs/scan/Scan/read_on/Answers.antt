use Rattle.std.proofs.Common.{◌≡◌, ◌+◌, ◌-◌, ◌<◌, List, ℕ, ap, sym, ◌∙◌, drop, take, length, arith}
use Rattle.std.proofs.lemmas.List.{drop-drop, length-take, length-drop}
use Rattle.pm_types.specs.declared.place.Place.{Place}
use Rattle.pm_disk.specs.Files.{bytes_of}
use Rattle.pm_disk.specs.Worlds.{World, segment_in}
use Rattle.pm_segments.specs.Scans.{Scanned, bytes_after}
use Rattle.pm_segments.proofs.Ahead.{read_more, read_all, is_ahead_by}
use Rattle.pm_segments.proofs.scan.Scan.read_on.Goals as goal

pub returns-clause-ahead : goal.returns-clause-ahead
returns-clause-ahead g c t =
    let old = (g.L.Device.history c.args.dev.now).world in
    let next = c.self.inside.next in
    let now = c.read_after.new.buffer.items in
    let kept = c.move_to_front-kept.result in
    let count = c.in_ok-count.count in
    let there = bytes_after next old in
    let at_next : c.args.self.now.next ≡ next = sym (ap (λ (s : Scanned). s.next) c.self.view_is) in
    let held : take (c.self.inside.end - c.self.inside.at) (drop c.self.inside.at c.self.inside.buffer.items) ≡ c.args.self.now.ahead = ap (λ (s : Scanned). s.ahead) c.self.view_is in
    let is_kept : kept ≡ length c.args.self.now.ahead =
    let len : length (take (c.self.inside.end - c.self.inside.at) (drop c.self.inside.at c.self.inside.buffer.items)) ≡ c.self.inside.end - c.self.inside.at =
    omega (arith, length-take (c.self.inside.end - c.self.inside.at) (drop c.self.inside.at c.self.inside.buffer.items), length-drop c.self.inside.at c.self.inside.buffer.items, c.self.invariant.within, c.self.invariant.ordered) in
    c.move_to_front-kept.ensures.len ∙ sym len ∙ ap (λ (a : List ℕ). length a) held in
    let more = read_more c.args.self.now.ahead there now c.move_to_front-kept.new.buffer.items kept count
    ((c.requires.ahead t).front ∙ ap (λ (p : Place). take (length c.args.self.now.ahead) (bytes_after p old)) at_next) is_kept
    (c.read_after.ensures.front ∙ c.move_to_front-kept.ensures.moved ∙ held) c.in_ok-count.ensures.bound
    ((c.in_ok-count.ensures.reads t).front ∙ ap (take count) (sym (drop-drop kept next.off (bytes_of (segment_in old next.seg))))) in
    let whole_count : kept + count - 0 ≡ kept + count = omega arith in
    is_ahead_by _ (g.L.Device.history c.read_after.new.dev).world there now (kept + count) (ap (λ n. take n now) whole_count) more.0 more.1
    (ap (λ (w : World). bytes_after next w) (c.in_ok-count.ensures.does t).ok)
    (λ whole. read_all (bytes_of (segment_in old next.seg)) now next.off kept count (c.in_ok-count.ensures.reads t).many (let less : kept + count < c.len.result = grind (arith, whole) in omega (arith, less, c.len.ensures)))
