use Rattle.std.proofs.Common.{◌≡◌, ℕ, ◌+◌, ◌-◌, ◌/◌, ◌^◌, ◌<◌, ◌≤◌, ◌++◌, length, take, ap, ◌∙◌, rules, arith}
use Rattle.std.proofs.lemmas.List.{length-append}
use Rattle.pm_stripe.proofs.Spelling.{take_after}
use Rattle.pm_stripe.proofs.WrittenPages.{none_written, all_written, one_more, here_of, name_of, fits_next}
use Rattle.pm_stripe.proofs.operation.write_pages.Goals as goal

smaller : (low name : ℕ) → low ≤ name → name / 2 ^ 48 ≡ 1 → 2 ^ 64 - (name + 1) < 2 ^ 64 - low
smaller low name from flag = omega (arith, from, flag)

pub pages-init : goal.pages-init
pages-init c = record { size = λ i. length c.args.into.now; written = none_written c.args.held.now c.args.into.now c.requires.room }

pub returns-clause-written : goal.returns-clause-written
returns-clause-written c = all_written c.args.held.now c.pages.into c.pages.end c.pages.low c.pages.invariant.written (search rules)

pub split_at_mut-rest-requires : goal.split_at_mut-rest-requires
split_at_mut-rest-requires c =
    let at = here_of c.args.held.now c.pages.low c.in-Some.place c.index-held-place.result c.index-held-place.is c.in-Some.ensures in
    omega (arith, fits_next c.args.held.now c.pages.into c.pages.end c.pages.low c.in-Some.place c.index-held-place.result c.pages.invariant.written at c.in-Some.ensures)

pub write_held-end-requires-clause-loggable : goal.write_held-end-requires-clause-loggable
write_held-end-requires-clause-loggable c =
    c.requires.loggable.each c.in-Some.place c.index-held-place.result (here_of c.args.held.now c.pages.low c.in-Some.place c.index-held-place.result c.index-held-place.is c.in-Some.ensures)

pub write_held-end-requires-clause-room : goal.write_held-end-requires-clause-room
write_held-end-requires-clause-room c =
    let at = here_of c.args.held.now c.pages.low c.in-Some.place c.index-held-place.result c.index-held-place.is c.in-Some.ensures in
    omega (arith, fits_next c.args.held.now c.pages.into c.pages.end c.pages.low c.in-Some.place c.index-held-place.result c.pages.invariant.written at c.in-Some.ensures, c.split_at_mut-rest.ensures.back_len)

pub overflow_add-low : goal.overflow_add-low
overflow_add-low c =
    let at = here_of c.args.held.now c.pages.low c.in-Some.place c.index-held-place.result c.index-held-place.is c.in-Some.ensures in
    omega (arith, (name_of c.args.held.now c.pages.low c.in-Some.place c.index-held-place.result c.requires.loggable at c.in-Some.ensures).1)

pub pages-smaller : goal.pages-smaller
pages-smaller c =
    let at = here_of c.args.held.now c.pages.low c.in-Some.place c.index-held-place.result c.index-held-place.is c.in-Some.ensures in
    let name = name_of c.args.held.now c.pages.low c.in-Some.place c.index-held-place.result c.requires.loggable at c.in-Some.ensures in
    smaller c.pages.low c.index-held-place.result.page.0 name.0 name.1

pub pages-preserved : goal.pages-preserved
pages-preserved c =
    let h = c.index-held-place.result in
    let at = here_of c.args.held.now c.pages.low c.in-Some.place h c.index-held-place.is c.in-Some.ensures in
    let front = c.split_at_mut-rest.result.0.now in
    let back = c.write_held-end.new.into in
    let into : ℕ = length c.pages.into in
    let size : length (front ++ back) ≡ into = omega (arith, length-append front back, c.write_held-end.ensures.size, c.split_at_mut-rest.ensures.front_len, c.split_at_mut-rest.ensures.back_len, fits_next c.args.held.now c.pages.into c.pages.end c.pages.low c.in-Some.place h c.pages.invariant.written at c.in-Some.ensures) in
    record {
      size = size ∙ c.pages.invariant.size;
      written = one_more c.args.held.now c.pages.into (front ++ back) c.pages.end (c.pages.end + c.write_held-end.result) c.pages.low c.in-Some.place h (take c.write_held-end.result back)
          c.requires.loggable c.pages.invariant.written c.in-Some.ensures at size
          (take_after front back c.pages.end c.write_held-end.result c.split_at_mut-rest.ensures.front_len ∙ ap (λ x. x ++ take c.write_held-end.result back) c.split_at_mut-rest.ensures.front)
          c.write_held-end.ensures.written (omega (arith, c.write_held-end.ensures.short));
    }

pub overflow_add-end : goal.overflow_add-end
overflow_add-end c =
    let at = here_of c.args.held.now c.pages.low c.in-Some.place c.index-held-place.result c.index-held-place.is c.in-Some.ensures in
    omega (arith, fits_next c.args.held.now c.pages.into c.pages.end c.pages.low c.in-Some.place c.index-held-place.result c.pages.invariant.written at c.in-Some.ensures, c.write_held-end.ensures.short)
