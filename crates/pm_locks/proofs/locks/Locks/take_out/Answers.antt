use Rattle.std.proofs.Common.{◌∷◌, Some, cond, sym, ap, ◌∙◌, subst, inl, inr, ⊎_elim}
use Rattle.atomic_table.specs.Table.{rest}
use Rattle.pm_locks.specs.declared.view.View.{View}
use Rattle.pm_locks.specs.Words.{LockWord, unpacked}
use Rattle.pm_locks.specs.Sight.{Sight, LockTable}
use Rattle.pm_locks.specs.Views.{is_among, out_at}
use Rattle.pm_locks.specs.Steps.{out_as, IsMet}
use Rattle.pm_locks.proofs.Bounds.{within}
use Rattle.pm_locks.proofs.Takes.{takes_it, self_eq}
use Rattle.pm_locks.proofs.Packs.{reholds}
use Rattle.pm_locks.proofs.locks.Locks.take_out.Goals as goal

pub compare_exchange-found-requires : goal.compare_exchange-found-requires
compare_exchange-found-requires c =
    let are = ap (λ (l : LockTable). l.ranges) c.self.view_is in
    let i = c.self.invariant in (
      ap (λ (x : Sight). x.table) c.seat.view_is ∙ c.requires.seat.of ∙ sym (ap (λ (l : LockTable). l.table) c.self.view_is),
      within _ _ _ _ _ are i.2 i.0 c.requires.frame,
      takes_it _ _ _ c.args.f c.seen.inside.0 c.held.inside.0 c.args.number (within _ _ _ _ _ are i.2 i.1 c.requires.frame) c.seat.invariant.1
          (ap (λ (u : LockWord). u.holder) c.seen.view_is ∙ c.requires.home)
          (ap (λ (x : Sight). is_among x.view.numbers c.args.number) c.seat.view_is ∙ c.requires.number)
          (⊎_elim (λ e. inl (e ∙ sym (ap (λ (u : LockWord). u.owner) c.seen.view_is))) (λ e. inr e) c.requires.who)
          (reholds c.seen.inside.0 c.held.inside.0 c.args.number c.args.seen c.held_by-held.result c.seen.view_is c.held.view_is c.held_by-held.ensures c.held.invariant),
    )

pub empty_slot-requires : goal.empty_slot-requires
empty_slot-requires c =
    let did = c.compare_exchange-found.ensures.2.0 c.if-found-seen.false in
    let y = did.0 in let v = did.2 in let out = out_as (unpacked c.held.inside.0) y in record {
      table = c.compare_exchange-found.ensures.0 ∙ ap (λ (x : Sight). x.table) c.seat.view_is ∙ c.requires.seat.of;
      frame = c.requires.frame;
      hand = ap (λ (x : View). x.hand) v;
      out = (out, ap (λ (x : View). out_at x.outs c.args.f) v ∙ ap (λ b. cond b (Some out) (out_at c.seat.inside.seat.me.0.outs c.args.f)) (self_eq c.args.f));
      slot = (y, did.1.carried ∙ (λ i. (c.args.f, Some y) ∷ sym (ap rest did.1.carried) i));
    }

pub returns-then-found-seen-clause-met : goal.returns-then-found-seen-clause-met
returns-then-found-seen-clause-met c =
    let looks = c.compare_exchange-found.ensures.2.1 c.if-found-seen.true in
    subst (λ (x : Sight). IsMet x.view c.compare_exchange-found.new.seat.me.0 c.args.f (unpacked c.compare_exchange-found.result)) c.seat.view_is (record { view = looks.view; told = looks.told })
