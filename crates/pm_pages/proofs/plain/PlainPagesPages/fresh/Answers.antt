use Rattle.std.proofs.Common.{◌≡◌, ◌+◌, ◌<◌, ◌∙◌, [], ◌∷◌, length, replicate, refl, sym, ap, subst, arith}
use Rattle.std.specs.Prelude.{IsSomeAnd}
use Rattle.std.specs.Vec.{vec_capacity}
use Rattle.std.proofs.lemmas.List.{length-replicate, length-set, length-append}
use Rattle.pm_pages.specs.Asked.{entry_of, MakesEntry}
use Rattle.pm_pages.specs.Plain.{shown}
use Rattle.pm_pages.specs.PlainLaws.{ready_set}
use Rattle.pm_pages.specs.PlainRooms.{AreZeros, IsOfSize}
use Rattle.pm_pages.proofs.PlainSteps.{keeps_made, ready_kept, remakes_page, appends_page, not_asked, ready_taken}
use Rattle.pm_pages.proofs.plain.PlainPagesPages.fresh.Goals as goal

pub returns-then-index-len-2-clause-kept : goal.returns-then-index-len-2-clause-kept
returns-then-index-len-2-clause-kept c =
    let p = c.args.self.now in
    let i = c.args.index in
    let lt : i < length p.pages.items = omega arith in
    let page = c.index_mut.result.now in
    let size = subst (IsOfSize p.shape.page_size) (sym c.index_mut.ensures.value) (c.requires.ready.ordered.sized i page lt) in
    let zeros : AreZeros p.shape.page_size c.clear.new.page = c.clear.ensures ∙ ap (λ n. replicate n 0) size in
    record {
      shape = refl;
      part = refl;
      ready = λ is.
          let keeps = keeps_made p.asked.items c.make.new.asked.items i p.shape.page_size c.make.ensures.registers c.make.ensures.entry is.ordered.patches in
          let asked = ready_kept p.shape.page_size p.pages.items p.rooms.items p.asked.items c.make.new.asked.items (vec_capacity p.pages) (vec_capacity p.asked) (vec_capacity c.make.new.asked) i is c.make.ensures.registers lt keeps.0 keeps.1 c.requires.room c.make.ensures.capacity in
          ready_set p.shape.page_size p.pages.items p.rooms.items c.make.new.asked.items (vec_capacity p.pages) (vec_capacity c.make.new.asked) i c.clear.new.page asked (ap length zeros ∙ length-replicate p.shape.page_size 0);
      stay = omega (arith, length-set p.pages.items i c.clear.new.page);
      come = λ j past below. absurd (omega (arith, past, below, length-set p.pages.items i c.clear.new.page));
      made = (keeps_made p.asked.items c.make.new.asked.items i p.shape.page_size c.make.ensures.registers c.make.ensures.entry c.requires.ready.ordered.patches).2;
    }

pub returns-then-index-len-2-clause-makes : goal.returns-then-index-len-2-clause-makes
returns-then-index-len-2-clause-makes c =
    let p = c.args.self.now in
    let i = c.args.index in
    let lt : i < length p.pages.items = omega arith in
    let page = c.index_mut.result.now in
    let size = subst (IsOfSize p.shape.page_size) (sym c.index_mut.ensures.value) (c.requires.ready.ordered.sized i page lt) in
    let zeros : AreZeros p.shape.page_size c.clear.new.page = c.clear.ensures ∙ ap (λ n. replicate n 0) size in
    remakes_page (shown p) c.make.new.asked.items i c.clear.new.page c.make.ensures.registers lt zeros c.make.ensures.entry

pub take_room-room-requires : goal.take_room-room-requires
take_room-room-requires c =
    let p = c.args.self.now in
    (not_asked p.shape.page_size p.pages.items p.rooms.items p.asked.items (vec_capacity p.pages) (vec_capacity p.asked) c.args.index c.requires.ready (omega arith) c.requires.room).2

pub append-requires : goal.append-requires
append-requires c =
    let p = c.args.self.now in
    (not_asked p.shape.page_size p.pages.items p.rooms.items p.asked.items (vec_capacity p.pages) (vec_capacity p.asked) c.args.index c.requires.ready (omega arith) c.requires.room).3

pub returns-clause-kept : goal.returns-clause-kept
returns-clause-kept c =
    let p = c.args.self.now in
    let i = c.args.index in
    let last : i ≡ length p.pages.items = omega arith in
    let zeros = c.take_room-room.ensures.zeros p.shape.page_size c.requires.ready.ordered.zeros in
    let more : length c.append.new.pages.items ≡ length p.pages.items + 1 = ap length c.append.ensures.appended ∙ length-append p.pages.items (c.take_room-room.result ∷ []) in
    record {
      shape = refl;
      part = refl;
      ready = λ is.
          let away = not_asked p.shape.page_size p.pages.items p.rooms.items p.asked.items (vec_capacity p.pages) (vec_capacity p.asked) i is (omega (arith, last)) c.requires.room in
          ready_taken p.shape.page_size p.pages.items c.append.new.pages.items p.rooms.items c.take_room-room.new.rooms.items p.asked.items c.make.new.asked.items (vec_capacity p.pages) (vec_capacity c.append.new.pages) (vec_capacity p.asked) (vec_capacity c.make.new.asked) i c.take_room-room.result
          is c.append.ensures.appended zeros (length-replicate p.shape.page_size 0) (c.take_room-room.ensures.rest p.shape.page_size is.ordered.zeros) c.take_room-room.ensures.len
          c.make.ensures.registers c.make.ensures.entry last (omega arith) away.0 away.1 c.append.ensures.capacity c.make.ensures.capacity;
      stay = omega (arith, more);
      come = λ j past below. subst (λ k. IsSomeAnd (entry_of c.make.new.asked.items k) (MakesEntry p.shape.page_size)) (omega (arith, past, below, more, last)) c.make.ensures.entry;
      made = (keeps_made p.asked.items c.make.new.asked.items i p.shape.page_size c.make.ensures.registers c.make.ensures.entry c.requires.ready.ordered.patches).2;
    }

pub returns-clause-makes : goal.returns-clause-makes
returns-clause-makes c =
    let p = c.args.self.now in
    let i = c.args.index in
    let last : i ≡ length p.pages.items = omega arith in
    let zeros = c.take_room-room.ensures.zeros p.shape.page_size c.requires.ready.ordered.zeros in
    appends_page (shown p) c.append.new.pages.items c.make.new.asked.items i c.take_room-room.result c.append.ensures.appended c.make.ensures.registers last zeros c.make.ensures.entry
