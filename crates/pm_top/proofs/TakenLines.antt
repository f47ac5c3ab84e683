-- How the lines of a batch are taken off a script, one after the other.
use Rattle.std.proofs.Common.{◌≡◌, ℕ, zero, suc, ◌+◌, List, [], ◌∷◌, ◌++◌, length, refl, sym, ◌∙◌, ap, subst, arith, append_assoc, append-nil, length-append}
use Rattle.std.specs.List.{All}
use Rattle.pm_model.specs.declared.line.Line.{Line}
use Rattle.pm_model.specs.Batches.{HasCache}
use Rattle.pm_script.specs.Lines.{after_line}
use Rattle.pm_script.specs.Reading.{Unread}
use Rattle.pm_top.specs.Limits.{after_lines}
use Rattle.pm_top.specs.Scripts.{ReadsLine, LinesAreTaken, BatchIsTaken, ContinuationIs, batch_lines}
use Rattle.pm_top.specs.declared.batch.Batch.{Batch}
use Rattle.pm_top.specs.Served.{script_of}
use Rattle.pm_top.proofs.ServedLines.{script_of-first}

-- one line more
pub after_lines-more : (n : ℕ) (bytes : List ℕ) → after_lines (suc n) bytes ≡ after_line (after_lines n bytes)
after_lines-more zero bytes = refl
after_lines-more (suc n) bytes = after_lines-more n (after_line bytes)

-- so many lines, and then others
pub after_lines-add : (m n : ℕ) (bytes : List ℕ) → after_lines (m + n) bytes ≡ after_lines n (after_lines m bytes)
after_lines-add zero n bytes = ap (λ k. after_lines k bytes) (let same : 0 + n ≡ n = omega arith in same)
after_lines-add (suc m) n bytes = ap (λ k. after_lines k bytes) (let same : suc m + n ≡ suc (m + n) = omega arith in same) ∙ after_lines-add m n (after_line bytes)

-- nothing was taken
pub none_taken : (unread : Unread) (rest : List ℕ) → LinesAreTaken unread unread rest rest []
none_taken unread rest = record { script = refl; place = refl; bytes = refl; few_bytes = λ few. few; count = omega arith }

-- one line more was taken
pub one_more_taken : (old mid new : Unread) (rest mid_rest now_rest : List ℕ) (lines : List Line) (line : Line) → LinesAreTaken old mid rest mid_rest lines → ReadsLine mid new mid_rest now_rest line → LinesAreTaken old new rest now_rest (lines ++ line ∷ [])
one_more_taken old mid new rest mid_rest now_rest lines line so_far reads =
    let next : script_of mid_rest ≡ line ∷ script_of now_rest =
    script_of-first mid_rest reads.takes.some ∙ ap (λ l. l ∷ script_of (after_line mid_rest)) (sym reads.says) ∙ ap (λ r. line ∷ script_of r) (sym reads.takes.others) in
    record {
      script = so_far.script ∙ ap (λ s. lines ++ s) next ∙ sym (append_assoc lines (line ∷ []) (script_of now_rest));
      place = reads.takes.others ∙ ap after_line so_far.place ∙ sym (after_lines-more (length lines) rest)
          ∙ ap (λ n. after_lines n rest) (let count : suc (length lines) ≡ length (lines ++ line ∷ []) = omega (arith, length-append lines (line ∷ [])) in count);
      bytes = omega (arith, reads.takes.bytes, so_far.bytes);
      few_bytes = λ few. reads.takes.few_bytes;
      count = omega (arith, reads.takes.lines, so_far.count, length-append lines (line ∷ []));
    }

-- a batch of these lines, with none that is a batch by itself
pub batch_taken : (old at new : Unread) (rest left now_rest : List ℕ) (batch : Batch) (lines : List Line) → batch.lines.items ≡ lines → batch.alone.items ≡ [] → LinesAreTaken old at rest left lines → ContinuationIs batch.continuation at new left now_rest
    → BatchIsTaken old new rest now_rest batch
batch_taken old at new rest left now_rest batch lines is none taken continues =
    let all : lines ≡ batch_lines batch = sym (append-nil lines) ∙ ap (λ l. lines ++ l) (sym none) ∙ ap (λ l. l ++ batch.alone.items) (sym is) in
    record { at = at; left = left; taken = subst (LinesAreTaken old at rest left) all taken; continues = continues }

-- how many lines it has
pub ended_length : (batch : Batch) (lines : List Line) → batch.lines.items ≡ lines → batch.alone.items ≡ [] → length (batch_lines batch) ≡ length lines
ended_length batch lines is none = omega (arith, length-append batch.lines.items batch.alone.items, ap (λ (l : List Line). length l) is, ap (λ (l : List Line). length l) none)

-- of one line
pub one_has : (line : Line) → HasCache line → All HasCache (line ∷ [])
one_has line has zero d lt = has
one_has line has (suc k) d lt = absurd (omega (arith, lt))
