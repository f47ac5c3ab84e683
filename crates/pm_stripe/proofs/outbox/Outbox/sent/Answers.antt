use Rattle.std.proofs.Common.{◌≡◌, ℕ, ◌-◌, ◌≤◌, List, length, take, drop, sym, ap, ◌∙◌, rules, arith}
use Rattle.std.specs.List.{copy_within}
use Rattle.std.proofs.lemmas.List.{drop-take, length-take-le, length-drop}
use Rattle.std.proofs.lemmas.List.Edits.{take-paste}
use Rattle.pm_stripe.proofs.outbox.Outbox.sent.Goals as goal

front_left : (items : List ℕ) (n len : ℕ) → n ≤ len → len ≤ length items → take (len - n) (copy_within items n len 0) ≡ drop n (take len items)
front_left items n len le within =
    ap (λ k. take k (copy_within items n len 0)) (omega arith)
    ∙ take-paste items 0 (drop n items) (len - n) (omega arith) (omega (arith, length-drop n items, le, within))
    ∙ sym (drop-take n (len - n) items) ∙ ap (λ k. drop n (take k items)) (omega (arith, le))

pub returns : goal.returns
returns c =
    let items = c.self.inside.room.items in
    let n = c.args.n in
    let len = c.self.inside.len in
    let within : len ≤ length items = search rules in
    let long : length (take len items) ≡ len = length-take-le len items within in
    ap (take (len - n)) c.copy_within.ensures.items ∙ front_left items n len (omega (arith, long, ap length c.self.view_is, c.requires)) within ∙ ap (drop n) c.self.view_is
