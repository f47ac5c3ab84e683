use Rattle.std.proofs.Common.{Some, cond, sym, ap, ◌∙◌, subst}
use Rattle.pm_locks.specs.declared.view.View.{View}
use Rattle.pm_locks.specs.Words.{unpacked}
use Rattle.pm_locks.specs.Sight.{Sight, LockTable}
use Rattle.pm_locks.specs.Views.{is_among, out_at}
use Rattle.pm_locks.specs.Steps.{out_as, IsMet}
use Rattle.pm_locks.proofs.Bounds.{within}
use Rattle.pm_locks.proofs.Takes.{self_eq}
use Rattle.pm_locks.proofs.Puts.{steals_it}
use Rattle.pm_locks.proofs.Packs.{stolen_word, free_word}
use Rattle.pm_locks.proofs.locks.Locks.steal_from.Goals as goal

pub compare_exchange-found-requires : goal.compare_exchange-found-requires
compare_exchange-found-requires c =
    let are = ap (λ (l : LockTable). l.ranges) c.self.view_is in
    let i = c.self.invariant in (
      ap (λ (x : Sight). x.table) c.seat.view_is ∙ c.requires.seat.of ∙ sym (ap (λ (l : LockTable). l.table) c.self.view_is),
      within _ _ _ _ _ are i.2 i.0 c.requires.frame,
      steals_it _ _ _ c.args.f c.seen.inside.0 c.stolen.inside.0 c.args.number (within _ _ _ _ _ are i.2 i.1 c.requires.frame) c.seat.invariant.1
          (free_word c.seen.inside.0 c.args.seen c.seen.view_is c.requires.free) c.requires.number.0
          (ap (λ (x : Sight). is_among x.view.numbers c.args.number) c.seat.view_is ∙ c.requires.number.1)
          (stolen_word c.seen.inside.0 c.stolen.inside.0 c.args.number c.tag.result c.args.seen c.pack-stolen.result c.seen.view_is c.stolen.view_is c.tag.ensures.tag c.pack-stolen.ensures) c.stolen.invariant,
    )

pub empty_slot-requires-clause-out : goal.empty_slot-requires-clause-out
empty_slot-requires-clause-out c =
    let did = c.compare_exchange-found.ensures.2.0 c.if-found-seen.false in
    let out = out_as (unpacked c.stolen.inside.0) did.0 in
    (out, ap (λ (x : View). out_at x.outs c.args.f) did.2 ∙ ap (λ b. cond b (Some out) (out_at c.seat.inside.seat.me.0.outs c.args.f)) (self_eq c.args.f))

pub returns-then-found-seen-clause-met : goal.returns-then-found-seen-clause-met
returns-then-found-seen-clause-met c =
    let looks = c.compare_exchange-found.ensures.2.1 c.if-found-seen.true in
    subst (λ (x : Sight). IsMet x.view c.compare_exchange-found.new.seat.me.0 c.args.f (unpacked c.compare_exchange-found.result)) c.seat.view_is (record { view = looks.view; told = looks.told })
