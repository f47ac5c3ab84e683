use Rattle.std.proofs.Common.{◌∷◌, Some, sym, ap, ◌∙◌}
use Rattle.atomic_table.specs.Table.{rest}
use Rattle.pm_locks.specs.Words.{LockWord, unpacked}
use Rattle.pm_locks.specs.Sight.{Sight, LockTable}
use Rattle.pm_locks.specs.Views.{out_at}
use Rattle.pm_locks.specs.Kinds.{Seated}
use Rattle.pm_locks.specs.Answers.{out_of}
use Rattle.pm_locks.proofs.Bounds.{within}
use Rattle.pm_locks.proofs.Puts.{puts_it}
use Rattle.pm_locks.proofs.Alone.{put_rests}
use Rattle.pm_locks.proofs.locks.Locks.own_put.Goals as goal

pub fill_slot-seen-requires-clause-out : goal.fill_slot-seen-requires-clause-out
fill_slot-seen-requires-clause-out c = (out_of c.args.seat.now.view c.args.f, ap (λ (x : Sight). out_at x.view.outs c.args.f) c.seat.view_is ∙ c.requires.out.out)

pub store-requires : goal.store-requires
store-requires c =
    let are = ap (λ (l : LockTable). l.ranges) c.self.view_is in
    let i = c.self.invariant in
    let e = c.fill_slot-seen.ensures.slot in
    let e1 = ap (λ (m : Seated). m.1) e in
    let o = out_of c.args.seat.now.view c.args.f in
    let out = ap (λ (x : Sight). out_at x.view.outs c.args.f) c.seat.view_is ∙ c.requires.out.out in
    let word = c.fill_slot-seen.ensures.word o out in (
      c.fill_slot-seen.ensures.table ∙ ap (λ (x : Sight). x.table) c.seat.view_is ∙ c.requires.seat.of ∙ sym (ap (λ (l : LockTable). l.table) c.self.view_is),
      within _ _ _ _ _ are i.2 i.0 c.requires.frame,
      puts_it _ _ _ c.args.f c.home.inside.0 o c.args.lease c.args.flag (within _ _ _ _ _ are i.2 i.1 c.requires.frame)
          (ap (λ (m : Seated). m.0.hand) e) (e1 ∙ (λ k. (c.args.f, Some c.args.lease) ∷ sym (ap rest e1) k)) c.requires.lease
          (ap (λ (m : Seated). out_at m.0.outs c.args.f) e ∙ out) c.requires.out.own
          (record {
            fields = c.home.view_is ∙ c.pack-home.ensures ∙ (λ k. record { tag = (c.tag.ensures.tag ∙ ap (λ (u : LockWord). u.tag) word) k; owner = (c.owner.ensures ∙ ap (λ (u : LockWord). u.owner) word) k; holder = 255; flag = c.args.flag });
            exact = c.home.invariant;
          })
          c.requires.flag,
    )

pub invariant_of-seat : goal.invariant_of-seat
invariant_of-seat c =
    let e = c.fill_slot-seen.ensures.slot in
    let e1 = ap (λ (m : Seated). m.1) e in
    let was = c.seat.invariant in
    let x = put_rests c.seat.inside.seat.me.0 c.fill_slot-seen.new.seat.me c.store.new.seat.me c.seat.inside.seat.me.1 c.args.f (unpacked c.home.inside.0) c.args.lease e was.0
    (c.store.ensures.2 c.args.lease (e1 ∙ (λ k. (c.args.f, Some c.args.lease) ∷ sym (ap rest e1) k))) was.3 in
    (x.0, x.1, x.2 ∙ was.2, x.3)
