-- Frames that are replayed one after the other, and what is known of the first of them.
use Rattle.std.proofs.Common.{◌≡◌, inl, inr, ℕ, zero, suc, ◌+◌, List, [], ◌∷◌, ◌++◌, length, take, drop, Option, Some, None, true, refl, sym, ◌∙◌, ap, arith}
use Rattle.std.specs.Prelude.{IsSome}
use Rattle.std.specs.Option.{option_map, option_and_then}
use Rattle.std.proofs.lemmas.List.{take-append-drop}
use Rattle.pm_types.specs.declared.shape.Shape.{Shape}
use Rattle.pm_frame.specs.Frames.{Frame}
use Rattle.pm_model.specs.Eval.{Pairs}
use Rattle.pm_records.specs.FirstRecords.{is_restart, begins_well, shape_in, log_shape}
use Rattle.pm_records.specs.Logs.{record_in}
use Rattle.pm_records.specs.Records.{Record}
use Rattle.pm_records.proofs.Runs.{option_cases}
use Rattle.pm_core.specs.Replays.{then_replayed, all_replayed}
use Rattle.pm_core.specs.BasePages.{records_in}
use Rattle.pm_core.specs.States.{AllInGrammar, RestartIsFirst, BeginIsFirst}

pub replayed-append : (shape : Shape) (xs ys : List Frame) (o : Option Pairs) → all_replayed shape (xs ++ ys) o ≡ all_replayed shape ys (all_replayed shape xs o)
replayed-append shape [] ys o = refl
replayed-append shape (x ∷ xs) ys o = replayed-append shape xs ys (then_replayed shape x o)

pub replayed-none : (shape : Shape) (xs : List Frame) → all_replayed shape xs None ≡ None
replayed-none shape [] = refl
replayed-none shape (x ∷ xs) = replayed-none shape xs

-- where all frames can be replayed, a first part of them can
pub replayed_front : (shape : Shape) (k : ℕ) (xs : List Frame) (o : Option Pairs) (pairs : Pairs) → all_replayed shape xs o ≡ Some pairs
    → (part : Pairs) × (all_replayed shape (take k xs) o ≡ Some part)
replayed_front shape k xs o pairs is = elim (option_cases (all_replayed shape (take k xs) o)) [
  | inl none ↦
      let whole : all_replayed shape xs o ≡ None =
      ap (λ l. all_replayed shape l o) (sym (take-append-drop k xs)) ∙ replayed-append shape (take k xs) (drop k xs) o
      ∙ ap (all_replayed shape (drop k xs)) none ∙ replayed-none shape (drop k xs) in
      let no : None ≡ Some pairs = sym whole ∙ is in absurd cc
  | inr some ↦ (some.0, some.1)
]

-- ---- grammars

pub grammar_front : (k : ℕ) (xs : List Frame) → AllInGrammar xs → AllInGrammar (take k xs)
grammar_front zero xs well = tt
grammar_front (suc k) [] well = tt
grammar_front (suc k) (x ∷ xs) well = (well.0, grammar_front k xs well.1)

pub grammar_append : (xs ys : List Frame) → AllInGrammar xs → AllInGrammar ys → AllInGrammar (xs ++ ys)
grammar_append [] ys one two = two
grammar_append (x ∷ xs) ys one two = (one.0, grammar_append xs ys one.1 two)

pub grammar_back : (xs ys : List Frame) → AllInGrammar (xs ++ ys) → AllInGrammar ys
grammar_back [] ys all = all
grammar_back (x ∷ xs) ys all = grammar_back xs ys all.1

joined : (first : Option Record) (rest : Option (List Record)) → IsSome first → IsSome rest
    → IsSome (option_and_then (λ (a : Record). option_map (λ (more : List Record). a ∷ more) rest) first)
joined None rest one two = absurd cc
joined (Some a) None one two = absurd cc
joined (Some a) (Some more) one two = refl

parted : (first : Option Record) (rest : Option (List Record)) → IsSome (option_and_then (λ (a : Record). option_map (λ (more : List Record). a ∷ more) rest) first)
    → IsSome first × IsSome rest
parted None rest is = absurd cc
parted (Some a) None is = absurd cc
parted (Some a) (Some more) is = (refl, refl)

-- frames that are each in their grammar have records, and the other way round
pub grammar_records : (xs : List Frame) → AllInGrammar xs → IsSome (records_in xs)
grammar_records [] well = refl
grammar_records (x ∷ xs) well = joined (record_in x) (records_in xs) well.0 (grammar_records xs well.1)

pub records_grammar : (xs : List Frame) → IsSome (records_in xs) → AllInGrammar xs
records_grammar [] is = tt
records_grammar (x ∷ xs) is = let both = parted (record_in x) (records_in xs) is in (both.0, records_grammar xs both.1)

-- ---- the first frame

pub begin_append : (number : ℕ) (xs ys : List Frame) → BeginIsFirst number xs → BeginIsFirst number (xs ++ ys)
begin_append number [] ys first = absurd first
begin_append number (x ∷ xs) ys first = first

pub restart_front : (shape : Shape) (k : ℕ) (xs ys : List Frame) → RestartIsFirst shape (xs ++ ys) → RestartIsFirst shape (xs ++ take k ys)
restart_front shape zero [] ys first = tt
restart_front shape (suc k) [] [] first = tt
restart_front shape (suc k) [] (y ∷ ys) first = first
restart_front shape k (x ∷ xs) ys first = first

pub restart_begins : (shape : Shape) (xs : List Frame) → RestartIsFirst shape xs → begins_well xs ≡ true
restart_begins shape [] first = refl
restart_begins shape (x ∷ xs) first = ap is_restart first

-- the shape of a log that begins so, or of one that is empty
pub restart_shape : (wanted shape : Shape) (xs ys : List Frame) → RestartIsFirst shape (xs ++ ys) → (xs ≡ [] → shape ≡ wanted) → shape ≡ log_shape wanted (xs ++ ys)
restart_shape wanted shape [] [] first empty = empty refl
restart_shape wanted shape [] (y ∷ ys) first empty = sym (ap (shape_in wanted) first)
restart_shape wanted shape (x ∷ xs) ys first empty = sym (ap (shape_in wanted) first)

pub take_past : {A : Type 0} (xs ys : List A) (k : ℕ) → take (length xs + k) (xs ++ ys) ≡ xs ++ take k ys
take_past [] ys k = let e : 0 + k ≡ k = omega arith in ap (λ n. take n ys) e
take_past (x ∷ xs) ys k = let e : suc (length xs) + k ≡ suc (length xs + k) = omega arith in ap (λ n. take n (x ∷ (xs ++ ys))) e ∙ ap (λ l. x ∷ l) (take_past xs ys k)
