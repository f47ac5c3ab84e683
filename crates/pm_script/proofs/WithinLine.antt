-- The way through the pieces of a line.
use Rattle.std.proofs.Common.{◌≡◌, ◌⊎◌, ℕ, ◌+◌, ◌<◌, ◌≤◌, min, Bool, List, [], ◌∷◌, ◌++◌, length, refl, ap, sym, ◌∙◌, subst, inl, inr, append_assoc, append-nil, add-one, arith, length-append}
use Rattle.std.proofs.lemmas.Bool.{cases_lt}
use Rattle.std.proofs.lemmas.List.{length-take, take_all}
use Rattle.pm_types.specs.declared.limits.TheConstants.{SCRIPT_BYTES_MAX, LINES_MAX, LINE_MAX}
use Rattle.pm_script.specs.Lines.{first_line, after_line}
use Rattle.pm_script.specs.Reading.{Unread, cut, KeepsLine, IsWithinLine, TakesSome, TakesWhole, TakesPart, TakesLine, IsAtEnd, IsKind, IsEndedWith, IsEndedWithout, FindsKind}
use Rattle.pm_script.specs.declared.lines.ItemKind.{ItemKind}
use Rattle.pm_script.specs.declared.lines.ItemKind.TheVariants.{Text, Long, End, Over}
use Rattle.pm_script.proofs.Unbroken.{take-take_append, first_line-append, after_line-append, after_line-lt}

-- lines that are cut alike are cut alike with more after them
cut-append : (a b more : List ℕ) → cut a ≡ cut b → cut (a ++ more) ≡ cut (b ++ more)
cut-append a b more same = sym (take-take_append (LINE_MAX + 1) a more) ∙ ap (λ l. cut (l ++ more)) same ∙ take-take_append (LINE_MAX + 1) b more

-- nothing is cut where a cut leaves nothing
nothing_cut : (line : List ℕ) → length (cut line) ≡ 0 → line ≡ []
nothing_cut [] none = refl
nothing_cut (b ∷ line) none = absurd (omega (arith, none, length-take (LINE_MAX + 1) (b ∷ line)))

-- the next piece was read
pub going_filled : {old now new : Unread} {rest now_rest new_rest : List ℕ} → IsWithinLine old now rest now_rest → KeepsLine now new → new_rest ≡ now_rest → IsWithinLine old new rest new_rest
going_filled {old = old} {now = now} {new = new} {rest = rest} {now_rest = now_rest} {new_rest = new_rest} going keeps same = record {
  first = ap (λ r. cut (new.line ++ first_line r)) same ∙ cut-append new.line now.line (first_line now_rest) keeps.line ∙ going.first;
  others = ap after_line same ∙ going.others;
  bytes = omega (arith, going.bytes, keeps.bytes, ap (λ (r : List ℕ). length r) same);
  lines = keeps.lines ∙ going.lines;
  started = elim going.started [
    | inl begins ↦ inl (nothing_cut new.line (ap (λ (l : List ℕ). length l) keeps.line ∙ ap (λ l. length (cut l)) begins.0), same ∙ begins.1)
    | inr on ↦ inr (omega (arith, on.0, ap (λ (l : List ℕ). length l) keeps.line, length-take (LINE_MAX + 1) new.line, length-take (LINE_MAX + 1) now.line), on.1, omega (arith, on.2, keeps.lines))
  ];
}

-- a part of the line was taken
pub going_some : {old now new : Unread} {rest part : List ℕ} (left : List ℕ) → IsWithinLine old now rest (now.pending ++ left) → TakesSome now new part → now.lines < LINES_MAX → IsWithinLine old new rest (new.pending ++ left)
going_some {now = now} {new = new} {part = part} left going takes few =
    let next = new.pending ++ left in
    let regrouped : now.pending ++ left ≡ part ++ next = ap (λ r. r ++ left) takes.pending ∙ append_assoc part new.pending left in
    let first_is : first_line (now.pending ++ left) ≡ part ++ first_line next = ap first_line regrouped ∙ first_line-append part next takes.unbroken in
    let after_is : after_line (now.pending ++ left) ≡ after_line next = ap after_line regrouped ∙ after_line-append part next takes.unbroken in
    let lengths : length (now.pending ++ left) ≡ length part + length next = ap (λ (r : List ℕ). length r) regrouped ∙ length-append part next in
    let line_len : length new.line ≡ length now.line + length part = ap (λ (l : List ℕ). length l) takes.line ∙ length-append now.line part in
    record {
      first = ap (λ l. cut (l ++ first_line next)) takes.line ∙ ap cut (append_assoc now.line part (first_line next) ∙ ap (λ r. now.line ++ r) (sym first_is)) ∙ going.first;
      others = sym after_is ∙ going.others;
      bytes = omega (arith, going.bytes, takes.bytes, lengths);
      lines = takes.lines ∙ going.lines;
      started = inr (
        omega (arith, line_len, takes.some),
        elim going.started [ inl begins ↦ omega (arith, ap (λ (r : List ℕ). length r) begins.1, lengths, takes.some) | inr on ↦ on.1 ],
        omega (arith, few, takes.lines),
      );
    }

-- what is kept of a line tells whether it is long, and is the line where it isn't
given : {old new : Unread} {rest now_rest : List ℕ} (next : ItemKind) → TakesLine old new rest now_rest → cut new.line ≡ cut (first_line rest) → IsKind new.line next → FindsKind old new rest now_rest next
given {new = new} {rest = rest} Text takes first short =
    let kept : length (cut new.line) ≡ length new.line = length-take (LINE_MAX + 1) new.line ∙ (let m : min (LINE_MAX + 1) (length new.line) ≡ length new.line = omega (arith, short) in m) in
    let whole : length (first_line rest) ≤ LINE_MAX = omega (arith, short, kept, ap (λ (l : List ℕ). length l) first, length-take (LINE_MAX + 1) (first_line rest)) in
    record {
      takes = takes;
      first = sym (take_all (LINE_MAX + 1) new.line (omega (arith, short))) ∙ first ∙ take_all (LINE_MAX + 1) (first_line rest) (omega (arith, whole));
      short = short;
    }
given {new = new} {rest = rest} Long takes first long = record {
  takes = takes;
  long = omega (arith, long, length-take (LINE_MAX + 1) new.line, ap (λ (l : List ℕ). length l) first, length-take (LINE_MAX + 1) (first_line rest));
}
given End takes first none = absurd none
given Over takes first none = absurd none

-- the rest of the line was taken, with its newline
pub line_taken : {old now new : Unread} {rest part : List ℕ} (left : List ℕ) (next : ItemKind) → IsWithinLine old now rest (now.pending ++ left) → TakesWhole now new part → IsKind new.line next → now.lines < LINES_MAX → new.bytes ≤ SCRIPT_BYTES_MAX → FindsKind old new rest (new.pending ++ left) next
line_taken {old = old} {now = now} {new = new} {rest = rest} {part = part} left next going takes kind few bytes =
    let after = new.pending ++ left in
    let regrouped : now.pending ++ left ≡ part ++ (10 ∷ after) = ap (λ r. r ++ left) takes.pending ∙ append_assoc part (10 ∷ new.pending) left in
    let first_is : first_line (now.pending ++ left) ≡ part ++ [] = ap first_line regrouped ∙ first_line-append part (10 ∷ after) takes.unbroken in
    let after_is : after_line (now.pending ++ left) ≡ after = ap after_line regrouped ∙ after_line-append part (10 ∷ after) takes.unbroken in
    let lengths : length (now.pending ++ left) ≡ length part + (length after + 1) = ap (λ (r : List ℕ). length r) regrouped ∙ (length-append part (10 ∷ after) ∙ ap (λ n. length part + n) (sym (add-one (length after)))) in
    given next record {
      some = elim going.started [ inl begins ↦ omega (arith, ap (λ (r : List ℕ). length r) begins.1, lengths) | inr on ↦ on.1 ];
      others = sym after_is ∙ going.others;
      bytes = omega (arith, going.bytes, takes.bytes, lengths);
      few_bytes = bytes;
      lines = omega (arith, takes.lines, going.lines);
      few_lines = omega (arith, takes.lines, few);
    } (ap cut takes.line ∙ ap (λ p. cut (now.line ++ p)) (sym (first_is ∙ append-nil part)) ∙ going.first) kind

-- the input ended in a line
line_ended : {old now new : Unread} {rest : List ℕ} (left : List ℕ) (next : ItemKind) → IsWithinLine old now rest (now.pending ++ left) → now.pending ++ left ≡ [] → IsEndedWith now new next → 0 < length now.line → new.bytes ≤ SCRIPT_BYTES_MAX → FindsKind old new rest (new.pending ++ left) next
line_ended {old = old} {now = now} {new = new} {rest = rest} left next going end ended some bytes =
    let same_line : new.line ≡ now.line = ap (λ (u : Unread). u.line) ended.now in
    let same_bytes : new.bytes ≡ now.bytes = ap (λ (u : Unread). u.bytes) ended.now in
    let one_more : new.lines ≡ now.lines + 1 = ap (λ (u : Unread). u.lines) ended.now in
    let new_end : new.pending ++ left ≡ [] = ap (λ (u : Unread). u.pending ++ left) ended.now ∙ end in
    given next record {
      some = elim going.started [ inl begins ↦ absurd (omega (arith, ap (λ (l : List ℕ). length l) begins.0, some)) | inr on ↦ on.1 ];
      others = new_end ∙ ap after_line (sym end) ∙ going.others;
      bytes = omega (arith, going.bytes, same_bytes, ap (λ (r : List ℕ). length r) end, ap (λ (r : List ℕ). length r) new_end);
      few_bytes = bytes;
      lines = omega (arith, one_more, going.lines);
      few_lines = elim going.started [ inl begins ↦ absurd (omega (arith, ap (λ (l : List ℕ). length l) begins.0, some)) | inr on ↦ omega (arith, one_more, on.2) ];
    } (ap cut same_line ∙ ap cut (sym (append-nil now.line) ∙ ap (λ r. now.line ++ first_line r) (sym end)) ∙ going.first) ended.kind

-- the input ended after a line
input_ended : {old now new : Unread} {rest : List ℕ} (left : List ℕ) → IsWithinLine old now rest (now.pending ++ left) → now.pending ++ left ≡ [] → new ≡ now → length now.line ≡ 0 → IsAtEnd old new rest (new.pending ++ left)
input_ended {old = old} {now = now} {new = new} {rest = rest} left going end unchanged none =
    let same : now.pending ++ left ≡ rest = elim going.started [ inl begins ↦ begins.1 | inr on ↦ absurd (omega (arith, none, on.0)) ] in
    let bytes : now.bytes ≡ old.bytes = omega (arith, going.bytes, ap (λ (r : List ℕ). length r) same) in
    record {
      none = sym same ∙ end;
      now_none = ap (λ (u : Unread). u.pending ++ left) unchanged ∙ end;
      bytes = ap (λ (u : Unread). u.bytes) unchanged ∙ bytes;
      lines = ap (λ (u : Unread). u.lines) unchanged ∙ going.lines;
    }

-- the input ended, in a line or after one
pub ended : {old now new : Unread} {rest : List ℕ} (left : List ℕ) (next : ItemKind) → IsWithinLine old now rest (now.pending ++ left) → now.pending ++ left ≡ [] → new.bytes ≤ SCRIPT_BYTES_MAX
    → (length now.line ≡ 0 → IsEndedWithout now new next) → (0 < length now.line → IsEndedWith now new next) → FindsKind old new rest (new.pending ++ left) next
ended {old = old} {now = now} {new = new} {rest = rest} left next going end bytes none some =
    elim (cases_lt 0 (length now.line)) [
      | inl more ↦ line_ended left next going end (some more) more bytes
      | inr less ↦
          let nothing : length now.line ≡ 0 = omega arith in
          subst (λ n. FindsKind old new rest (new.pending ++ left) n) (sym (none nothing).end) (input_ended left going end (none nothing).same nothing)
    ]

-- a limit is reached, and there is more
pub over_limit : {old now : Unread} {rest now_rest : List ℕ} → IsWithinLine old now rest now_rest → (now.lines ≡ LINES_MAX) ⊎ (now.bytes ≡ SCRIPT_BYTES_MAX) → 0 < length now_rest → FindsKind old now rest now_rest Over
over_limit {old = old} {now = now} {rest = rest} {now_rest = now_rest} going full some = (
  record {
    some = elim going.started [ inl begins ↦ omega (arith, ap (λ (r : List ℕ). length r) begins.1, some) | inr on ↦ on.1 ];
    over = elim full [ inl lines ↦ inl (sym going.lines ∙ lines) | inr bytes ↦ inr (omega (arith, going.bytes, bytes, after_line-lt now_rest some, ap (λ (r : List ℕ). length r) going.others)) ];
  },
  record {
    some = some;
    over = elim full [ inl lines ↦ inl lines | inr bytes ↦ inr (omega (arith, bytes, after_line-lt now_rest some)) ];
  },
)

-- what was taken, at the answer that the code tests
pub found_at : (now new : Unread) {found : Bool} (answer : Bool) → found ≡ answer → TakesPart now new found → TakesPart now new answer
found_at now new answer is part = subst (λ b. TakesPart now new b) is part
