use Rattle.std.proofs.Common.{refl, arith}
use Rattle.std.specs.Vec.{vec_capacity}
use Rattle.pm_pages.specs.Asked.{entry_of}
use Rattle.pm_pages.proofs.PlainSteps.{made_lent, ready_cleared}
use Rattle.pm_pages.proofs.plain.PlainPagesPages.let_go.Goals as goal

pub returns-clause-kept : goal.returns-clause-kept
returns-clause-kept c =
    let p = c.args.self.now in
    record {
      shape = refl;
      part = refl;
      ready = λ is. ready_cleared p.shape.page_size p.pages.items p.rooms.items p.asked.items c.clear.new.self.items (vec_capacity p.pages) (vec_capacity p.asked) (vec_capacity c.clear.new.self) is c.requires.none_lent c.clear.ensures.items (omega (arith, c.clear.ensures.capacity));
      stay = omega arith;
      come = λ j past below. absurd (omega (arith, past, below));
      made = λ j made. absurd (c.requires.none_lent j (made_lent p.shape.page_size (entry_of p.asked.items j) made));
    }
