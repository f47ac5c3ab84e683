-- The lines of an order, and those whose replies began.
use Rattle.std.proofs.Common.{◌≡◌, ◌⊎◌, inl, inr, Option, Some, None, ℕ, zero, suc, ◌+◌, ◌-◌, ◌<◌, ◌≤◌, List, [], ◌∷◌, ◌++◌, length, take, drop, cond, refl, sym, ◌∙◌, ap, arith, Bool, true, false, length-append, append_assoc, append-nil}
use Rattle.std.specs.Prelude.{slice_get, unwrap_or, if◌then◌else◌}
use Rattle.std.specs.List.{starts_with}
use Rattle.std.specs.Bool.{nat_eq}
use Rattle.std.proofs.lemmas.Bool.Decides.{Decides-eqb}
use Rattle.std.proofs.lemmas.Slice.Eq.{starts_is}
use Rattle.std.proofs.lemmas.List.{take_all, drop_at, drop_all, length-take}
use Rattle.pm_model.specs.declared.line.Line.{Line}
use Rattle.pm_model.specs.declared.line.Line.TheVariants.{Good, Bad, Long}
use Rattle.pm_model.specs.declared.line.Cmd.TheVariants.{Put, Get, Remove, Scan, Checkpoint}
use Rattle.pm_model.specs.declared.reply.Reply.{Reply}
use Rattle.pm_model.specs.declared.reply.Reply.TheVariants as reply
use Rattle.pm_model.specs.declared.reply.Reply.TheVariants.{Done, Found, Absent, Was, Full, BadLine, LongLine}
use Rattle.pm_model.specs.Eval.{Pairs, found, reply_to, after, is_accepted, replies_to, after_all, accepted}
use Rattle.pm_types.specs.declared.shape.Shape.{Shape}
use Rattle.pm_model.proofs.Runs.{after-not_accepted}
use Rattle.pm_script.specs.Texts.{text_of, texts_of}
use Rattle.pm_top.specs.Crashes.{begun}
use Rattle.pm_top.specs.ScriptOrder.{after_numbers}

-- the first none of a list
pub take_none : {A : Type 0} (xs : List A) → take 0 xs ≡ []
take_none [] = refl
take_none (x ∷ xs) = refl

-- the first element after others
pub slice_get-after : (xs ys : List Line) (y : Line) → slice_get (xs ++ y ∷ ys) (length xs) ≡ Some y
slice_get-after [] ys y = refl
slice_get-after (x ∷ xs) ys y = slice_get-after xs ys y

-- a line that isn't accepted changes nothing
unchanged : (shape : Shape) (line : Line) (pairs : Pairs) → is_accepted shape line pairs ≡ false → after shape line pairs ≡ pairs
unchanged shape line pairs isnt = after-not_accepted shape line pairs isnt

-- the numbers of the accepted lines, by whether the first is one
order_true : (shape : Shape) (number : ℕ) (line : Line) (lines : List Line) (pairs : Pairs) → is_accepted shape line pairs ≡ true → accepted shape number (line ∷ lines) pairs ≡ number ∷ accepted shape (number + 1) lines (after shape line pairs)
order_true shape number line lines pairs is = ap (λ t. cond t (number ∷ accepted shape (number + 1) lines (after shape line pairs)) (accepted shape (number + 1) lines (after shape line pairs))) is

order_false : (shape : Shape) (number : ℕ) (line : Line) (lines : List Line) (pairs : Pairs) → is_accepted shape line pairs ≡ false → accepted shape number (line ∷ lines) pairs ≡ accepted shape (number + 1) lines (after shape line pairs)
order_false shape number line lines pairs is = ap (λ t. cond t (number ∷ accepted shape (number + 1) lines (after shape line pairs)) (accepted shape (number + 1) lines (after shape line pairs))) is

-- one line more in front
after_step : (shape : Shape) (t : Bool) (number : ℕ) (line : Line) (lines script : List Line) (pairs : Pairs) → is_accepted shape line pairs ≡ t → unwrap_or (slice_get script (number - 1)) Bad ≡ line
    → after_numbers shape (accepted shape (number + 1) lines (after shape line pairs)) script (after shape line pairs) ≡ after_all shape lines (after shape line pairs)
    → after_numbers shape (accepted shape number (line ∷ lines) pairs) script pairs ≡ after_all shape lines (after shape line pairs)
after_step shape true number line lines script pairs is here rest =
    ap (λ o. after_numbers shape o script pairs) (order_true shape number line lines pairs is)
    ∙ ap (λ l. after_numbers shape (accepted shape (number + 1) lines (after shape line pairs)) script (after shape l pairs)) here
    ∙ rest
after_step shape false number line lines script pairs is here rest =
    ap (λ o. after_numbers shape o script pairs) (order_false shape number line lines pairs is)
    ∙ ap (λ p. after_numbers shape (accepted shape (number + 1) lines (after shape line pairs)) script p) (sym (unchanged shape line pairs is))
    ∙ rest

-- the lines with the numbers of the accepted ones leave the map that all lines leave
pub after_accepted : (shape : Shape) (skipped lines more : List Line) (pairs : Pairs) → after_numbers shape (accepted shape (length skipped + 1) lines pairs) (skipped ++ (lines ++ more)) pairs ≡ after_all shape lines pairs
after_accepted shape skipped [] more pairs = refl
after_accepted shape skipped (line ∷ lines) more pairs =
    let script : List Line = skipped ++ (line ∷ (lines ++ more)) in
    let number : length (skipped ++ line ∷ []) + 1 ≡ length skipped + 1 + 1 = omega (arith, length-append skipped (line ∷ [])) in
    let regrouped : (skipped ++ line ∷ []) ++ (lines ++ more) ≡ script = append_assoc skipped (line ∷ []) (lines ++ more) in
    let rest : after_numbers shape (accepted shape (length skipped + 1 + 1) lines (after shape line pairs)) script (after shape line pairs) ≡ after_all shape lines (after shape line pairs) =
    ap (λ n. after_numbers shape (accepted shape n lines (after shape line pairs)) script (after shape line pairs)) (sym number)
    ∙ ap (λ s. after_numbers shape (accepted shape (length (skipped ++ line ∷ []) + 1) lines (after shape line pairs)) s (after shape line pairs)) (sym regrouped)
    ∙ after_accepted shape (skipped ++ line ∷ []) lines more (after shape line pairs) in
    let at : length skipped + 1 - 1 ≡ length skipped = omega arith in
    let here : unwrap_or (slice_get script (length skipped + 1 - 1)) Bad ≡ line =
    ap (λ n. unwrap_or (slice_get script n) Bad) at ∙ ap (λ o. unwrap_or o Bad) (slice_get-after skipped (lines ++ more) line) in
    after_step shape (is_accepted shape line pairs) (length skipped + 1) line lines script pairs refl here rest

-- each reply's text has a first byte
pub record HasFirst (reply : Reply) : Type 0 where
  pub first : ℕ
  pub others : List ℕ
  pub is : text_of reply ≡ first ∷ others

pub first_byte : (reply : Reply) → HasFirst reply
first_byte Done = record { first = 111; others = _; is = refl }
first_byte (Found value) = record { first = 118; others = _; is = refl }
first_byte Absent = record { first = 110; others = _; is = refl }
first_byte (Was true) = record { first = 116; others = _; is = refl }
first_byte (Was false) = record { first = 102; others = _; is = refl }
first_byte (reply.Pairs []) = record { first = 101; others = _; is = refl }
first_byte (reply.Pairs (pair ∷ pairs)) = record { first = 112; others = _; is = refl }
first_byte Full = record { first = 101; others = _; is = refl }
first_byte BadLine = record { first = 101; others = _; is = refl }
first_byte LongLine = record { first = 101; others = _; is = refl }

-- bytes that begin with some of a reply's text begin with its first byte
starts_with_first : (text : List ℕ) (first : ℕ) (others bytes rest : List ℕ) (k : ℕ) → text ≡ first ∷ others → 0 < k → bytes ≡ take k text ++ rest → starts_with nat_eq bytes (take 1 text) ≡ true
starts_with_first text first others bytes rest zero spelled some is = absurd (omega (arith, some))
starts_with_first text first others bytes rest (suc k) spelled some is =
    let one : take 1 text ≡ first ∷ [] = ap (take 1) spelled in
    let whole : bytes ≡ (first ∷ []) ++ (take k others ++ rest) = is ∙ ap (λ t. take (suc k) t ++ rest) spelled in
    ap (starts_with nat_eq bytes) one ∙ (starts_is Decides-eqb bytes (first ∷ []) _ refl).1 (take k others ++ rest) whole

-- no reply begins in no bytes
nothing_starts : (text : List ℕ) (first : ℕ) (others : List ℕ) → text ≡ first ∷ others → starts_with nat_eq [] (take 1 text) ≡ false
nothing_starts text first others spelled = ap (λ t. starts_with nat_eq [] (take 1 t)) spelled

begun_if : (t : Bool) (reply : Reply) (more : List Reply) (bytes : List ℕ) → starts_with nat_eq bytes (take 1 (text_of reply)) ≡ t → begun (reply ∷ more) bytes ≡ cond t (1 + begun more (drop (length (text_of reply)) bytes)) 0
begun_if t reply more bytes is = ap (λ b. cond b (1 + begun more (drop (length (text_of reply)) bytes)) 0) is

pub begun_nothing : (replies : List Reply) → begun replies [] ≡ 0
begun_nothing [] = refl
begun_nothing (reply ∷ replies) = let f = first_byte reply in begun_if false reply replies [] (nothing_starts (text_of reply) f.first f.others f.is)

-- the replies whose texts were said have begun
pub begun-texts : (done more : List Reply) (rest : List ℕ) → begun (done ++ more) (texts_of done ++ rest) ≡ length done + begun more rest
begun-texts [] more rest = omega arith
begun-texts (reply ∷ done) more rest =
    let text = text_of reply in
    let bytes = (text ++ texts_of done) ++ rest in
    let regrouped : bytes ≡ text ++ (texts_of done ++ rest) = append_assoc text (texts_of done) rest in
    let f = first_byte reply in
    let some : 0 < length text = omega (arith, ap (λ (t : List ℕ). length t) f.is) in
    let whole : take (length text) text ≡ text = take_all (length text) text (omega arith) in
    let starts = starts_with_first text f.first f.others bytes (texts_of done ++ rest) (length text) f.is some (regrouped ∙ ap (λ t. t ++ (texts_of done ++ rest)) (sym whole)) in
    let after_text : drop (length text) bytes ≡ texts_of done ++ rest = ap (drop (length text)) regrouped ∙ drop_at text (texts_of done ++ rest) (length text) refl in
    let more_of : begun (done ++ more) (texts_of done ++ rest) ≡ length done + begun more rest = begun-texts done more rest in
    begun_if true reply (done ++ more) bytes starts
    ∙ ap (λ b. 1 + begun (done ++ more) b) after_text
    ∙ (let sum : 1 + begun (done ++ more) (texts_of done ++ rest) ≡ suc (length done) + begun more rest = omega (arith, more_of) in sum)

-- of a reply that was said in part the first byte was said, if any was
pub begun_part : (reply : Reply) (more : List Reply) (k : ℕ) → 0 < k → k ≤ length (text_of reply) → begun (reply ∷ more) (take k (text_of reply)) ≡ 1
begun_part reply more k some le =
    let text = text_of reply in
    let f = first_byte reply in
    let starts = starts_with_first text f.first f.others (take k text) [] k f.is some (sym (append-nil (take k text))) in
    let none : drop (length text) (take k text) ≡ [] = drop_all (length text) (take k text) (omega (arith, length-take k text)) in
    begun_if true reply more (take k text) starts ∙ ap (λ b. 1 + begun more b) none ∙ ap (λ n. 1 + n) (begun_nothing more)

-- ---- a line that tells a fault

-- no reply begins with this byte
abbrev pub BeginsNone : ℕ → Type 0
BeginsNone c = (reply : Reply) (bytes : List ℕ) → starts_with nat_eq (c ∷ bytes) (take 1 (text_of reply)) ≡ false

-- a line that tells a fault, from the first byte of its name on
abbrev pub fault_line : ℕ → List ℕ → List ℕ
fault_line c bytes = 102 ∷ 97 ∷ 117 ∷ 108 ∷ 116 ∷ 32 ∷ c ∷ bytes

-- none begins with an l
pub none_with_l : BeginsNone 108
none_with_l Done bytes = refl
none_with_l (Found value) bytes = refl
none_with_l Absent bytes = refl
none_with_l (Was true) bytes = refl
none_with_l (Was false) bytes = refl
none_with_l (reply.Pairs []) bytes = refl
none_with_l (reply.Pairs (pair ∷ pairs)) bytes = refl
none_with_l Full bytes = refl
none_with_l BadLine bytes = refl
none_with_l LongLine bytes = refl

-- none begins with a u
pub none_with_u : BeginsNone 117
none_with_u Done bytes = refl
none_with_u (Found value) bytes = refl
none_with_u Absent bytes = refl
none_with_u (Was true) bytes = refl
none_with_u (Was false) bytes = refl
none_with_u (reply.Pairs []) bytes = refl
none_with_u (reply.Pairs (pair ∷ pairs)) bytes = refl
none_with_u Full bytes = refl
none_with_u BadLine bytes = refl
none_with_u LongLine bytes = refl

-- none begins with a c
pub none_with_c : BeginsNone 99
none_with_c Done bytes = refl
none_with_c (Found value) bytes = refl
none_with_c Absent bytes = refl
none_with_c (Was true) bytes = refl
none_with_c (Was false) bytes = refl
none_with_c (reply.Pairs []) bytes = refl
none_with_c (reply.Pairs (pair ∷ pairs)) bytes = refl
none_with_c Full bytes = refl
none_with_c BadLine bytes = refl
none_with_c LongLine bytes = refl

-- only the reply `false` begins with an f
begins_with_f : (reply : Reply) (bytes : List ℕ) → (starts_with nat_eq (102 ∷ bytes) (take 1 (text_of reply)) ≡ false) ⊎ (reply ≡ Was false)
begins_with_f Done bytes = inl refl
begins_with_f (Found value) bytes = inl refl
begins_with_f Absent bytes = inl refl
begins_with_f (Was true) bytes = inl refl
begins_with_f (Was false) bytes = inr refl
begins_with_f (reply.Pairs []) bytes = inl refl
begins_with_f (reply.Pairs (pair ∷ pairs)) bytes = inl refl
begins_with_f Full bytes = inl refl
begins_with_f BadLine bytes = inl refl
begins_with_f LongLine bytes = inl refl

begun_none : (c : ℕ) → BeginsNone c → (replies : List Reply) (k : ℕ) (bytes : List ℕ) → begun replies (take k (c ∷ bytes)) ≡ 0
begun_none c none [] k bytes = refl
begun_none c none (reply ∷ replies) zero bytes = begun_nothing (reply ∷ replies)
begun_none c none (reply ∷ replies) (suc k) bytes = begun_if false reply replies (take (suc k) (c ∷ bytes)) (none reply (take k bytes))

-- what follows the first word of a fault line
after_fault : (k : ℕ) (rest : List ℕ) → (m : ℕ) × (drop 6 (take k (102 ∷ 97 ∷ 117 ∷ 108 ∷ 116 ∷ 32 ∷ rest)) ≡ take m rest)
after_fault zero rest = (0, sym (take_none rest))
after_fault (suc zero) rest = (0, sym (take_none rest))
after_fault (suc (suc zero)) rest = (0, sym (take_none rest))
after_fault (suc (suc (suc zero))) rest = (0, sym (take_none rest))
after_fault (suc (suc (suc (suc zero)))) rest = (0, sym (take_none rest))
after_fault (suc (suc (suc (suc (suc zero))))) rest = (0, sym (take_none rest))
after_fault (suc (suc (suc (suc (suc (suc m)))))) rest = (m, refl)

-- the reply to a line that is accepted isn't `false`
full_or_done : (b : Bool) → (if b then Full else Done) ≡ Was false → ⊥
full_or_done true is = absurd cc
full_or_done false is = absurd cc

found_or_absent : (o : Option (List ℕ)) → found o ≡ Was false → ⊥
found_or_absent None is = absurd cc
found_or_absent (Some value) is = absurd cc

was_is : (b : Bool) → Was b ≡ Was false → b ≡ false
was_is true is = absurd cc
was_is false is = refl

false_unaccepted : (shape : Shape) (line : Line) (pairs : Pairs) → reply_to shape line pairs ≡ Was false → is_accepted shape line pairs ≡ false
false_unaccepted shape (Good (Put cache key value)) pairs is = absurd (full_or_done _ is)
false_unaccepted shape (Good (Get cache key)) pairs is = refl
false_unaccepted shape (Good (Remove cache key)) pairs is = was_is _ is
false_unaccepted shape (Good (Scan cache)) pairs is = refl
false_unaccepted shape (Good Checkpoint) pairs is = refl
false_unaccepted shape Bad pairs is = refl
false_unaccepted shape Long pairs is = refl

-- where a line that tells a fault stands in place of replies, no accepted line is taken to be acknowledged by it
pub none_acknowledged : (shape : Shape) (number : ℕ) (lines : List Line) (pairs : Pairs) (k c : ℕ) (bytes : List ℕ) → BeginsNone c
    → accepted shape number (take (begun (replies_to shape lines pairs) (take k (102 ∷ 97 ∷ 117 ∷ 108 ∷ 116 ∷ 32 ∷ c ∷ bytes))) lines) pairs ≡ []
none_acknowledged shape number [] pairs k c bytes none = refl
none_acknowledged shape number (line ∷ lines) pairs zero c bytes none = ap (λ n. accepted shape number (take n (line ∷ lines)) pairs) (begun_nothing (replies_to shape (line ∷ lines) pairs))
none_acknowledged shape number (line ∷ lines) pairs (suc k) c bytes none =
    let tail : List ℕ = take (suc k) (102 ∷ 97 ∷ 117 ∷ 108 ∷ 116 ∷ 32 ∷ c ∷ bytes) in
    let reply = reply_to shape line pairs in
    let others = replies_to shape lines (after shape line pairs) in
    elim (begins_with_f reply (take k (97 ∷ 117 ∷ 108 ∷ 116 ∷ 32 ∷ c ∷ bytes))) [
      | inl isnt ↦ ap (λ n. accepted shape number (take n (line ∷ lines)) pairs) (begun_if false reply others tail isnt)
      | inr is ↦
          let after_text = after_fault (suc k) (c ∷ bytes) in
          let starts : starts_with nat_eq tail (take 1 (text_of reply)) ≡ true = ap (λ r. starts_with nat_eq tail (take 1 (text_of r))) is in
          let rest : drop (length (text_of reply)) tail ≡ take after_text.0 (c ∷ bytes) = ap (λ r. drop (length (text_of r)) tail) is ∙ after_text.1 in
          let one : begun (reply ∷ others) tail ≡ 1 =
          begun_if true reply others tail starts ∙ ap (λ b. 1 + begun others b) rest ∙ ap (λ n. 1 + n) (begun_none c none others after_text.0 bytes) in
          ap (λ n. accepted shape number (take n (line ∷ lines)) pairs) one
          ∙ ap (λ ls. accepted shape number (line ∷ ls) pairs) (take_none lines)
          ∙ order_false shape number line [] pairs (false_unaccepted shape line pairs is)
    ]

-- a prefix of the bytes after others
drop_take : (n k : ℕ) (xs : List ℕ) → drop k (take n xs) ≡ take (n - k) (drop k xs)
drop_take n zero xs = ap (λ m. take m xs) (let same : n ≡ n - 0 = omega arith in same)
drop_take n (suc k) [] = ap (drop (suc k)) (take_all n [] (omega arith)) ∙ sym (take_all (n - suc k) [] (omega arith))
drop_take zero (suc k) (x ∷ xs) = sym (ap (λ m. take m (drop k xs)) (let none : 0 - suc k ≡ 0 = omega arith in none) ∙ take_none (drop k xs))
drop_take (suc n) (suc k) (x ∷ xs) = drop_take n k xs ∙ ap (λ m. take m (drop k xs)) (let same : n - k ≡ suc n - suc k = omega arith in same)

begun_more : (reply : Reply) (replies others : List Reply) (n : ℕ) (t : Bool) → begun others (take (n - length (text_of reply)) (texts_of replies)) ≤ length replies
    → starts_with nat_eq (take n (texts_of (reply ∷ replies))) (take 1 (text_of reply)) ≡ t → begun (reply ∷ others) (take n (texts_of (reply ∷ replies))) ≤ length (reply ∷ replies)
begun_more reply replies others n true inner is =
    let rest : drop (length (text_of reply)) (take n (texts_of (reply ∷ replies))) ≡ take (n - length (text_of reply)) (texts_of replies) =
    drop_take n (length (text_of reply)) (text_of reply ++ texts_of replies) ∙ ap (take (n - length (text_of reply))) (drop_at (text_of reply) (texts_of replies) (length (text_of reply)) refl) in
    omega (arith, begun_if true reply others (take n (texts_of (reply ∷ replies))) is, ap (begun others) rest, inner)
begun_more reply replies others n false inner is = omega (arith, begun_if false reply others (take n (texts_of (reply ∷ replies))) is)

-- of a prefix of the bytes of replies no more than these begin
pub begun_within : (replies more : List Reply) (n : ℕ) → begun (replies ++ more) (take n (texts_of replies)) ≤ length replies
begun_within [] more n = omega (arith, ap (begun more) (take_all n [] (omega arith)), begun_nothing more)
begun_within (reply ∷ replies) more n = begun_more reply replies (replies ++ more) n _ (begun_within replies more (n - length (text_of reply))) refl
