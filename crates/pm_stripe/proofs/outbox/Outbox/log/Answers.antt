use Rattle.std.proofs.Common.{◌≡◌, ℕ, List, ◌+◌, ◌-◌, ◌++◌, ◌≤◌, length, take, drop, ap, ◌∙◌, rules}
use Rattle.pm_stripe.proofs.Spelling.{take_between, refilled, length-between}
use Rattle.pm_stripe.proofs.outbox.Outbox.log.Goals as goal

pub returns : goal.returns
returns c =
    let room = c.self.inside.room in
    let items : List ℕ = c.deref_mut.result.now in
    let n = c.write_operation-len.result in
    let len = c.self.inside.len in
    let back : List ℕ = c.write_operation-len.new.into in
    let written : List ℕ = take len items ++ (back ++ drop (length items - len) (drop len items)) in
    let within : len ≤ length items = search rules in
    let long : length back ≡ length items - len = search rules in
    record {
      more = take n back;
      grows = ap (take (len + n)) (refilled room.items written room.len (length-between items back len within long ∙ c.deref_mut.ensures.len))
          ∙ take_between items back (drop (length items - len) (drop len items)) len n within c.write_operation-len.ensures.within ∙ ap (λ x. x ++ take n back) (ap (take len) c.deref_mut.ensures.value ∙ c.self.view_is);
      hands = c.write_operation-len.ensures.written;
    }
