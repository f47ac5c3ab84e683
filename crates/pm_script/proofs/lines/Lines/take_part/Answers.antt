use Rattle.std.proofs.Common.{◌≡◌, ◌≤◌, ◌<◌, ◌+◌, ◌-◌, ◌++◌, Some, true, length, take, drop, sym, ap, subst, ◌∙◌, arith, refl, min}
use Rattle.std.proofs.lemmas.Bool.{eqb-true, eq-eqb}
use Rattle.std.proofs.lemmas.List.{length-drop, length-take-le, length-take, take-take}
use Rattle.pm_script.specs.Lines.{is_unbroken}
use Rattle.pm_script.specs.Reading.{FindsNewline, Unread}
use Rattle.pm_script.proofs.Parts.{part_is, line_grows, split_here, split_there, found_in_part}
use Rattle.pm_script.proofs.lines.Lines.take_part.Goals as goal

pub returns-in-Some-clause-taken : goal.returns-in-Some-clause-taken
returns-in-Some-clause-taken c =
    let buffer = c.self.inside.buffer.items in
    let from = c.self.inside.from in
    let to = c.self.inside.to in
    let at = c.self.inside.at in
    let end = c.self.inside.end in
    let w = drop at buffer in
    let len = c.min-len.result in
    let i = c.in-Some.i in
    let part = part_is c.deref.result.now buffer at len c.deref.ensures.value in
    let going : to ≡ at = eqb-true _ _ (ap (λ (u : Unread). u.is_open) c.self.view_is ∙ c.requires.going) in
    let found : FindsNewline (take len w) (Some i) = subst (λ bytes. FindsNewline bytes (Some i)) part c.in-Some.ensures in
    let fits : len ≤ end - at = omega (arith, c.min-len.ensures) in
    let within : len ≤ length w = omega (arith, length-drop at buffer, fits, c.self.invariant.within) in
    let small : i < len = omega (arith, found.0, length-take len w) in (
      take i w,
      record {
        pending = ap (λ (u : Unread). u.pending) (sym c.self.view_is) ∙ split_there buffer at end i (omega (arith, small, fits)) (found_in_part w len i within found.0 found.2);
        unbroken = subst (λ bytes. is_unbroken bytes ≡ true) (take-take i len w (omega (arith, small))) found.1;
        line = line_grows buffer from at i (omega (arith, c.self.invariant.begins, going)) ∙ ap (λ n. take (n - from) (drop from buffer) ++ take i w) (sym going) ∙ ap (λ (u : Unread). u.line ++ take i w) c.self.view_is;
        bytes = omega (arith, ap (λ (u : Unread). u.bytes) c.self.view_is, length-take-le i w (omega (arith, small, within)));
        lines = ap (λ (u : Unread). u.lines + 1) c.self.view_is;
        is_ended = ap (λ (u : Unread). u.is_ended) c.self.view_is;
      },
    )

pub returns-in-None-clause-taken : goal.returns-in-None-clause-taken
returns-in-None-clause-taken c =
    let buffer = c.self.inside.buffer.items in
    let from = c.self.inside.from in
    let to = c.self.inside.to in
    let at = c.self.inside.at in
    let end = c.self.inside.end in
    let w = drop at buffer in
    let len = c.min-len.result in
    let part = part_is c.deref.result.now buffer at len c.deref.ensures.value in
    let going : to ≡ at = eqb-true _ _ (ap (λ (u : Unread). u.is_open) c.self.view_is ∙ c.requires.going) in
    let unbroken : is_unbroken (take len w) ≡ true = subst (λ bytes. is_unbroken bytes ≡ true) part c.in-None.ensures in
    let fits : len ≤ end - at = omega (arith, c.min-len.ensures) in
    let within : len ≤ length w = omega (arith, length-drop at buffer, fits, c.self.invariant.within) in
    let count : length (take len w) ≡ len = length-take-le len w within in
    let pending_len : length c.args.self.now.pending ≡ min (end - at) (length w) = ap (λ (u : Unread). length u.pending) (sym c.self.view_is) ∙ length-take (end - at) w in
    let bytes_is : c.self.inside.bytes ≡ c.args.self.now.bytes = ap (λ (u : Unread). u.bytes) c.self.view_is in (
      take len w,
      record {
        pending = ap (λ (u : Unread). u.pending) (sym c.self.view_is) ∙ split_here buffer at end len fits;
        unbroken = unbroken;
        some = omega (arith, count, c.min-len.ensures, c.requires.some, pending_len, bytes_is, c.requires.bytes);
        line = line_grows buffer from at len (omega (arith, c.self.invariant.begins, going)) ∙ ap (λ n. take (n - from) (drop from buffer) ++ take len w) (sym going) ∙ ap (λ (u : Unread). u.line ++ take len w) c.self.view_is;
        bytes = omega (arith, bytes_is, count);
        lines = ap (λ (u : Unread). u.lines) c.self.view_is;
        is_open = eq-eqb _ _ refl;
        is_ended = ap (λ (u : Unread). u.is_ended) c.self.view_is;
      },
    )
