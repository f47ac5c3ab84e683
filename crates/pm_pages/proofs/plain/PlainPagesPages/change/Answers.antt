use Rattle.std.proofs.Common.{inl, refl, arith}
use Rattle.std.specs.Vec.{vec_capacity}
use Rattle.pm_pages.proofs.PlainSteps.{keeps_lent, ready_kept, there_below}
use Rattle.pm_pages.proofs.plain.PlainPagesPages.change.Goals as goal

pub returns-clause-kept : goal.returns-clause-kept
returns-clause-kept c =
    let p = c.args.self.now in
    let registers = c.lend.ensures.registers in
    let keeps = keeps_lent p.asked.items c.lend.new.asked.items c.args.index registers c.lend.ensures.entry in
    record {
      shape = refl;
      part = refl;
      ready = λ is. ready_kept p.shape.page_size p.pages.items p.rooms.items p.asked.items c.lend.new.asked.items (vec_capacity p.pages) (vec_capacity p.asked) (vec_capacity c.lend.new.asked) c.args.index is registers
          (there_below p.pages.items c.args.index (c.requires.there (inl tt))) (keeps.0.patches p.shape.page_size is.ordered.patches) keeps.0.lent c.requires.room c.lend.ensures.capacity;
      stay = omega arith;
      come = λ j past below. absurd (omega (arith, past, below));
      made = keeps.0.made p.shape.page_size;
    }
