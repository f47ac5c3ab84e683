use Rattle.std.proofs.Common.{◌∙◌, inl, refl, sym, arith}
use Rattle.std.specs.Vec.{vec_capacity}
use Rattle.pm_pages.specs.Asked.{entry_of}
use Rattle.pm_pages.specs.Plain.{shown}
use Rattle.pm_pages.specs.PlainLaws.{lent_asked}
use Rattle.pm_pages.proofs.PlainSteps.{some_asked, keeps_noted, noted_stays_made, ready_kept, notes_patch}
use Rattle.pm_pages.proofs.plain.PlainPagesPages.note.Goals as goal

pub note-requires-clause-there : goal.note-requires-clause-there
note-requires-clause-there c = lent_asked (entry_of c.args.self.now.asked.items c.args.index) c.requires.lent

pub note-requires-clause-patches : goal.note-requires-clause-patches
note-requires-clause-patches c = λ j patch e.
    let is = c.requires.ready.ordered.patches j patch e in
    record { fits = is.fits; size_is = is.size_is ∙ sym c.requires.size }

pub returns-clause-kept : goal.returns-clause-kept
returns-clause-kept c =
    let p = c.args.self.now in
    let registers = c.note.ensures.registers in
    let some = lent_asked (entry_of p.asked.items c.args.index) c.requires.lent in
    record {
      shape = refl;
      part = refl;
      ready = λ is.
          let keeps = keeps_noted p.asked.items c.note.new.asked.items c.args.index p.shape.page_size c.args.patch.now registers c.note.ensures.entry is.ordered.patches c.requires.size in
          ready_kept p.shape.page_size p.pages.items p.rooms.items p.asked.items c.note.new.asked.items (vec_capacity p.pages) (vec_capacity p.asked) (vec_capacity c.note.new.asked) c.args.index is registers
          (is.ordered.there c.args.index some) keeps.0 (λ j lent. keeps.1 j ∙ lent) (inl (some_asked (entry_of p.asked.items c.args.index) some)) c.note.ensures.capacity;
      stay = omega arith;
      come = λ j past below. absurd (omega (arith, past, below));
      made = noted_stays_made p.asked.items c.note.new.asked.items c.args.index p.shape.page_size c.args.patch.now registers c.note.ensures.entry;
    }

pub returns-clause-notes : goal.returns-clause-notes
returns-clause-notes c = notes_patch (shown c.args.self.now) c.note.new.asked.items c.args.index c.args.patch.now c.note.ensures.registers (lent_asked (entry_of c.args.self.now.asked.items c.args.index) c.requires.lent) c.note.ensures.entry
