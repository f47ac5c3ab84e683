use Rattle.std.proofs.Common.{◌≡◌, ◌<◌, ◌∙◌, length, refl, sym, ap, subst, inl, arith}
use Rattle.std.specs.Prelude.{Some, IfSome}
use Rattle.std.specs.Vec.{vec_capacity}
use Rattle.pm_pages.specs.Asked.{entry_of}
use Rattle.pm_pages.specs.Passes.{PassesAt}
use Rattle.pm_pages.specs.Plain.{shown, plain_seen}
use Rattle.pm_pages.specs.PlainLaws.{kept_refl}
use Rattle.pm_pages.specs.PlainRooms.{IsOfSize}
use Rattle.pm_pages.proofs.PageReads.{page_read}
use Rattle.pm_pages.proofs.PlainSteps.{some_asked, keeps_read, ready_kept, asks_page, asks_none, none_past}
use Rattle.pm_pages.proofs.plain.PlainPagesPages.view.Goals as goal

pub returns-then-index-len : goal.returns-then-index-len
returns-then-index-len c =
    let p = c.args.self.now in
    let i = c.args.index in
    let lt : i < length p.pages.items = omega arith in
    let registers = c.ask.ensures.registers in
    let keeps = keeps_read p.asked.items c.ask.new.asked.items i registers c.ask.ensures.entry in
    let page = page_read p.pages.items i c.index.result.now lt c.index.ensures ∙ ap Some (sym c.as_slice.ensures.value) in
    let size = subst (IsOfSize p.shape.page_size) (sym c.index.ensures) (c.requires.ready.ordered.sized i c.index.result.now lt) in (
      (
        refl,
        (λ _. tt),
        (
          record {
            shape = refl;
            part = refl;
            ready = λ is. ready_kept p.shape.page_size p.pages.items p.rooms.items p.asked.items c.ask.new.asked.items (vec_capacity p.pages) (vec_capacity p.asked) (vec_capacity c.ask.new.asked) i is registers lt
                (keeps.0.patches p.shape.page_size is.ordered.patches) keeps.0.lent c.requires.room c.ask.ensures.capacity;
            stay = omega arith;
            come = λ j past below. absurd (omega (arith, past, below));
            made = keeps.0.made p.shape.page_size;
          },
          asks_page (shown p) c.ask.new.asked.items i registers keeps.0.lent keeps.2,
          (λ j lent. sym (keeps.1 j) ∙ lent),
          record { failed = λ e. absurd (cc e); bad = λ id e. absurd (cc e) },
          (record { known = refl; asked = some_asked (entry_of c.ask.new.asked.items i) registers.here; page = page }, tt),
          tt,
        ),
      ),
      record { page = record { same = λ told. page; size = ap length c.as_slice.ensures.value ∙ size; reads = inl refl }; none = tt; rests = tt },
    )

pub returns-then-index-eq0 : goal.returns-then-index-eq0
returns-then-index-eq0 c =
    let p = c.args.self.now in
    let none = none_past p.pages.items c.args.index (omega arith) in (
      (refl, (λ _. tt), (kept_refl p, asks_none (plain_seen p) c.args.index, (λ j lent. lent), record { failed = λ e. absurd (cc e); bad = λ id e. absurd (cc e) }, (tt, omega arith), tt)),
      record { page = tt; none = record { first = c.if-index-eq0.true; absent = λ told. none }; rests = tt },
    )

pub returns : goal.returns
returns c =
    let p = c.args.self.now in
    let none = none_past p.pages.items c.args.index (omega arith) in (
      (
        refl,
        (λ _. tt),
        (
          kept_refl p,
          asks_none (plain_seen p) c.args.index,
          (λ j lent. lent),
          record {
            failed = λ e. absurd (cc e);
            bad = λ id e. (let is : c.new.result ≡ id = cc e in record {
              name = sym is ∙ c.new.ensures;
              known = λ k. none;
              told = λ t. subst (λ o. IfSome o (λ bytes. PassesAt p.shape.page_size p.shape.max_rows p.part c.args.index bytes → ⊥)) (sym none) tt;
              first = λ zero_is. absurd (c.if-index-eq0.false zero_is);
            });
          },
          tt,
          omega arith,
        ),
      ),
      record { page = tt; none = tt; rests = tt },
    )
