-- Which command words are, by what `clap` makes of them.
use Rattle.std.proofs.Common.{◌≡◌, ◌∙◌, ◌⊎◌, ◌<◌, ◌+◌, ◌^◌, ◌%◌, ℕ, Bool, true, false, List, [], ◌∷◌, ◌++◌}
use Rattle.std.proofs.Common.{Option, Some, None, refl, sym, ap, ap₂, subst, inl, inr, cond, arith}
use Rattle.std.specs.Prelude.{◌&&◌, codes, decimal, length, nat_lt}
use Rattle.std.specs.Bool.{nat_eq}
use Rattle.std.specs.List.{list_all}
use Rattle.std.specs.Str.{bytes_eq}
use Rattle.std.specs.Str.Parse.{digits_value}
use Rattle.std.proofs.lemmas.Bool.Decides.{nat_tests}
use Rattle.std.proofs.lemmas.Fmt.{decimal_by_steps}
use Rattle.std.proofs.lemmas.Slice.Eq.{bytes_eq-Decides}
use Rattle.clap.specs.Walk.{Row, Text, Walk, finished, nothing_held, rows_after}
use Rattle.clap.specs.Faults.{fault_of, is_simple_and_free, level_fault}
use Rattle.clap.specs.Kinds.{HasKind, Kinds}
use Rattle.clap.specs.Simple.{App, HasMatchesOf, is_simple, subcommand_of, subcommand_rows_of}
use Rattle.clap.specs.Values.{kind_of}
use Rattle.clap.specs.declared.error.Error.{Error}
use Rattle.clap.specs.declared.parser.matches.ArgMatches.{ArgMatches}
use Rattle.clap.specs.declared.error.kind.ErrorKind.{ErrorKind}
use Rattle.clap.specs.declared.error.kind.ErrorKind.TheVariants as kind
use Rattle.pm_top.specs.declared.words.CommandName.{CommandName}
use Rattle.pm_types.specs.declared.limits.TheConstants.{LINES_MAX}
use Rattle.pm_top.specs.declared.words.TheConstants.{SEED_MAX}
use Rattle.pm_top.specs.Subcommands.{drawing, folder_given, name_given, named_by, over_folder, program}
use Rattle.pm_top.specs.Words.{command_in, folder_in, gen_of, is_folder, is_number_of, name_of, number_in}
use Rattle.pm_top.proofs.WordNumbers.{both_true, is_text}
use Rattle.pm_top.proofs.WordsRead.{before, gen_more, gen_none_given, gen_one, gen_three, gen_two, leaf, moved}
use Rattle.pm_top.proofs.WordsRead.{met_gen, met_run, met_verify, met_wal, none_met, nothing_fault, one_more}
use Rattle.pm_top.proofs.WordsRead.{one_none, one_one, one_walk, plain, ready, rows_gen, rows_run, rows_verify}
use Rattle.pm_top.proofs.WordsRead.{rows_wal, simple, unknown, walk_three}

not_both : {A : Type 0} (t : Bool) → t ≡ true → t ≡ false → A
not_both t is isnt = absurd (let both : true ≡ false = sym is ∙ isnt in cc)

right_false : (a b : Bool) → a ≡ true → (a && b) ≡ false → b ≡ false
right_false true b is isnt = isnt
right_false false b is isnt = absurd cc

-- ---- words with one that is empty or begins with `-`

long_enough : (x : ℕ) (xs : List ℕ) → nat_lt 0 (length (x ∷ xs)) ≡ true
long_enough x xs = grind (arith, nat_tests)

starts : (x : ℕ) (xs : List ℕ) → (x ≡ 45 → ⊥) → is_folder (x ∷ xs) ≡ true
starts x xs isnt = go (nat_eq 45 x) refl
  where
    go : (t : Bool) → nat_eq 45 x ≡ t → is_folder (x ∷ xs) ≡ true
    go true e = absurd (isnt (grind (arith, nat_tests)))
    go false e = rw (long_enough x xs, e) refl

grown : (ds : List ℕ) (d : ℕ) → is_folder ds ≡ true → is_folder (ds ++ d ∷ []) ≡ true
grown [] d is = absurd (let both : false ≡ true = is in cc)
grown (x ∷ xs) d is = ap₂ (λ a b. a && b) (long_enough x (xs ++ d ∷ [])) (both_true (nat_lt 0 (length (x ∷ xs))) _ is).1

decimal_plain : (n : ℕ) → n < 2 ^ 64 → is_folder (decimal n) ≡ true
decimal_plain n small =
    decimal_by_steps (λ _ ds. is_folder ds ≡ true) (λ m lt. starts (48 + m) [] (λ e. absurd (omega arith)))
    (λ m ds le is. grown ds (48 + m % 10) is) n small

number_plain : (least most : ℕ) (word : Text) → most < 2 ^ 64 → is_folder word ≡ false
    → number_in least most word ≡ None
number_plain least most word small isnt = go (is_number_of least most (digits_value 10 word) word) refl
  where
    go : (t : Bool) → is_number_of least most (digits_value 10 word) word ≡ t → number_in least most word ≡ None
    go true e =
        let text = is_text least most (digits_value 10 word) word e in
        not_both (is_folder word) (subst (λ (w : Text). is_folder w ≡ true) text.1
        (decimal_plain (digits_value 10 word) (omega (arith, text.0, small)))) isnt
    go false e = ap (λ t. cond t (Some (digits_value 10 word)) None) e

not_named : (a name : Text) → is_folder name ≡ true → is_folder a ≡ false → bytes_eq a name ≡ false
not_named a name is isnt = go (bytes_eq a name) refl
  where
    go : (t : Bool) → bytes_eq a name ≡ t → bytes_eq a name ≡ false
    go true e =
        not_both (is_folder name) is (subst (λ (w : Text). is_folder w ≡ false) ((bytes_eq-Decides a name).0 e) isnt)
    go false e = e

name_none : (a : Text) → bytes_eq a (codes "run") ≡ false → bytes_eq a (codes "wal") ≡ false
    → bytes_eq a (codes "verify") ≡ false → name_of a ≡ None
name_none a run wal verify = rw (run, wal, verify) refl

name_plain : (a : Text) → is_folder a ≡ false → name_of a ≡ None
name_plain a isnt =
    name_none a (not_named a (codes "run") refl isnt) (not_named a (codes "wal") refl isnt)
    (not_named a (codes "verify") refl isnt)

gen_left : (seed : Option ℕ) → gen_of seed None ≡ None
gen_left None = refl
gen_left (Some seed) = refl

gen_plain : (d e : Text) → (is_folder d && (is_folder e && true)) ≡ false
    → gen_of (number_in 0 SEED_MAX d) (number_in 1 LINES_MAX e) ≡ None
gen_plain d e isnt = go (is_folder d) refl
  where
    and_true : (t : Bool) → (t && true) ≡ false → t ≡ false
    and_true true is = is
    and_true false is = refl

    go : (t : Bool) → is_folder d ≡ t → gen_of (number_in 0 SEED_MAX d) (number_in 1 LINES_MAX e) ≡ None
    go false is = ap (λ (n : Option ℕ). gen_of n (number_in 1 LINES_MAX e)) (number_plain 0 SEED_MAX d (omega arith) is)
    go true is =
        ap (gen_of (number_in 0 SEED_MAX d)) (number_plain 1 LINES_MAX e (omega arith)
        (and_true (is_folder e) (right_false (is_folder d) (is_folder e && true) is isnt)))
        ∙ gen_left (number_in 0 SEED_MAX d)

-- they are no command
pub refused_words : (words : List Text) → list_all is_folder words ≡ false → command_in words ≡ None
refused_words [] isnt = refl
refused_words (a ∷ []) isnt = refl
refused_words (a ∷ b ∷ []) isnt = go (is_folder a) refl
  where
    none : Option CommandName
    none = None

    same : (t : Bool) → cond t none none ≡ None
    same true = refl
    same false = refl

    and_true : (t : Bool) → (t && true) ≡ false → t ≡ false
    and_true true is = is
    and_true false is = refl

    go : (t : Bool) → is_folder a ≡ t → command_in (a ∷ b ∷ []) ≡ None
    go false is = ap (λ (n : Option CommandName). cond (is_folder b) n None) (name_plain a is) ∙ same (is_folder b)
    go true is =
        ap (λ t. cond t (name_of a) None) (and_true (is_folder b)
        (right_false (is_folder a) (is_folder b && true) is isnt))
refused_words (a ∷ b ∷ d ∷ []) isnt = refl
refused_words (a ∷ b ∷ d ∷ e ∷ []) isnt = go (bytes_eq a (codes "gen") && is_folder b) refl
  where
    drawn : Option CommandName
    drawn = gen_of (number_in 0 SEED_MAX d) (number_in 1 LINES_MAX e)

    go : (t : Bool) → (bytes_eq a (codes "gen") && is_folder b) ≡ t → command_in (a ∷ b ∷ d ∷ e ∷ []) ≡ None
    go false is = ap (λ t. cond t (gen_of (number_in 0 SEED_MAX d) (number_in 1 LINES_MAX e)) None) is
    go true is =
        let parts = both_true (bytes_eq a (codes "gen")) (is_folder b) is in
        let named : is_folder a ≡ true = ap is_folder ((bytes_eq-Decides a (codes "gen")).0 parts.0) in
        ap (λ t. cond t (gen_of (number_in 0 SEED_MAX d) (number_in 1 LINES_MAX e)) None) is
        ∙ gen_plain d e (right_false (is_folder b) (is_folder d && (is_folder e && true)) parts.1
        (right_false (is_folder a) (is_folder b && (is_folder d && (is_folder e && true))) named isnt))
refused_words (a ∷ b ∷ d ∷ e ∷ f ∷ more) isnt = refl

-- ---- other words

-- `clap` refuses them, and they are no command
abbrev pub Refuses : List Text → Type 0
Refuses words = (k : ErrorKind) × (ks : Kinds) × (fault_of program words ≡ k ∷ ks) × (command_in words ≡ None)

-- `clap` takes them, and gives their command
abbrev pub Gives : List Text → Type 0
Gives words = (fault_of program words ≡ []) × (name_given (subcommand_of program words) ≡ command_in words)
    × (folder_given (subcommand_of program words) ≡ folder_in words)

-- the subcommands over a folder
over_named : (name : Text) → bytes_eq name (codes "gen") ≡ false
    → ((rows : List Row) → named_by name rows ≡ name_of name)
    → ((rest : List Text) → fault_of program (name ∷ rest)
    ≡ level_fault (leaf (over_folder name)) [] nothing_held rest false [])
    → ((rest : List Text) → subcommand_of program (name ∷ rest)
    ≡ Some (name, rows_after (leaf (over_folder name)).rules [] rest))
    → (rest : List Text) → list_all is_folder rest ≡ true → Refuses (name ∷ rest) ⊎ Gives (name ∷ rest)
over_named name isnt named met rows [] all = inl (kind.MissingRequiredArgument, [], met [] ∙ one_none name, refl)
over_named name isnt named met rows (b ∷ []) all =
    let is : is_folder b ≡ true = (both_true (is_folder b) true all).0 in
    let p = plain b is in
    let s = leaf (over_folder name) in
    inr (
      met (b ∷ []) ∙ one_one name b p,
      ap name_given (rows (b ∷ [])) ∙ ap (λ (w : Walk). name_given (Some (name, finished s.rules w.held)))
          (one_walk name b p)
          ∙ named (finished s.rules (before (moved s nothing_held 1 b) 2).held)
          ∙ sym (ap (λ t. cond t (name_of name) None) is),
      ap folder_given (rows (b ∷ [])) ∙ ap (λ (w : Walk). folder_given (Some (name, finished s.rules w.held)))
          (one_walk name b p),
    )
over_named name isnt named met rows (b ∷ d ∷ []) all =
    let one = both_true (is_folder b) (list_all is_folder (d ∷ [])) all in
    let two = both_true (is_folder d) true one.1 in
    inl (kind.UnknownArgument, [], met (b ∷ d ∷ []) ∙ one_more name b d [] (plain b one.0) (plain d two.0), refl)
over_named name isnt named met rows (b ∷ d ∷ e ∷ []) all =
    let one = both_true (is_folder b) (list_all is_folder (d ∷ e ∷ [])) all in
    let two = both_true (is_folder d) (list_all is_folder (e ∷ [])) one.1 in
    inl (
      kind.UnknownArgument,
      [],
      met (b ∷ d ∷ e ∷ []) ∙ one_more name b d (e ∷ []) (plain b one.0) (plain d two.0),
      ap (λ t. cond (t && is_folder b) (gen_of (number_in 0 SEED_MAX d) (number_in 1 LINES_MAX e)) None) isnt,
    )
over_named name isnt named met rows (b ∷ d ∷ e ∷ f ∷ more) all =
    let one = both_true (is_folder b) (list_all is_folder (d ∷ e ∷ f ∷ more)) all in
    let two = both_true (is_folder d) (list_all is_folder (e ∷ f ∷ more)) one.1 in
    inl (
      kind.UnknownArgument,
      [],
      met (b ∷ d ∷ e ∷ f ∷ more)
          ∙ one_more name b d (e ∷ f ∷ more) (plain b one.0) (plain d two.0),
      refl,
    )

-- the subcommand that draws lines
over_gen : (rest : List Text) → list_all is_folder rest ≡ true
    → Refuses (codes "gen" ∷ rest) ⊎ Gives (codes "gen" ∷ rest)
over_gen [] all = inl (kind.MissingRequiredArgument, [], met_gen [] ∙ gen_none_given, refl)
over_gen (b ∷ []) all =
    let one = both_true (is_folder b) true all in
    inl (
      kind.MissingRequiredArgument,
      [],
      met_gen (b ∷ [])
          ∙ gen_one b (plain b one.0),
      ap (λ t. cond t (name_of (codes "gen")) None) one.0,
    )
over_gen (b ∷ d ∷ []) all =
    let one = both_true (is_folder b) (list_all is_folder (d ∷ [])) all in
    let two = both_true (is_folder d) true one.1 in
    inl (kind.MissingRequiredArgument, [], met_gen (b ∷ d ∷ []) ∙ gen_two b d (plain b one.0) (plain d two.0), refl)
over_gen (b ∷ d ∷ e ∷ []) all =
    let one = both_true (is_folder b) (list_all is_folder (d ∷ e ∷ [])) all in
    let two = both_true (is_folder d) (list_all is_folder (e ∷ [])) one.1 in
    let three = both_true (is_folder e) true two.1 in
    let walked = walk_three b d e [] (plain b one.0) (plain d two.0) (plain e three.0) in
    inr (
      met_gen (b ∷ d ∷ e ∷ []) ∙ gen_three b d e (plain b one.0) (plain d two.0) (plain e three.0),
      ap name_given (rows_gen (b ∷ d ∷ e ∷ []))
          ∙ ap (λ (w : Walk). name_given (Some (codes "gen", finished (leaf drawing).rules w.held))) walked
          ∙ sym (ap (λ t. cond t (gen_of (number_in 0 SEED_MAX d) (number_in 1 LINES_MAX e)) None) one.0),
      ap folder_given (rows_gen (b ∷ d ∷ e ∷ []))
          ∙ ap (λ (w : Walk). folder_given (Some (codes "gen", finished (leaf drawing).rules w.held))) walked,
    )
over_gen (b ∷ d ∷ e ∷ f ∷ more) all =
    let one = both_true (is_folder b) (list_all is_folder (d ∷ e ∷ f ∷ more)) all in
    let two = both_true (is_folder d) (list_all is_folder (e ∷ f ∷ more)) one.1 in
    let three = both_true (is_folder e) (list_all is_folder (f ∷ more)) two.1 in
    let four = both_true (is_folder f) (list_all is_folder more) three.1 in
    inl (
      kind.UnknownArgument,
      [],
      met_gen (b ∷ d ∷ e ∷ f ∷ more)
          ∙ gen_more b d e f more (plain b one.0) (plain d two.0) (plain e three.0) (plain f four.0),
      refl,
    )

other_way : (x y : Text) → bytes_eq x y ≡ false → bytes_eq y x ≡ false
other_way x y isnt = go (bytes_eq y x) refl
  where
    go : (t : Bool) → bytes_eq y x ≡ t → bytes_eq y x ≡ false
    go true e = not_both (bytes_eq x y) ((bytes_eq-Decides x y).1 (sym ((bytes_eq-Decides y x).0 e))) isnt
    go false e = e

no_command : (a : Text) (rest : List Text) → name_of a ≡ None → bytes_eq a (codes "gen") ≡ false
    → command_in (a ∷ rest) ≡ None
no_command a [] name gen = refl
no_command a (b ∷ []) name gen = ap (λ (n : Option CommandName). cond (is_folder b) n None) name ∙ same (is_folder b)
  where
    none : Option CommandName
    none = None

    same : (t : Bool) → cond t none none ≡ None
    same true = refl
    same false = refl
no_command a (b ∷ d ∷ []) name gen = refl
no_command a (b ∷ d ∷ e ∷ []) name gen =
    ap (λ t. cond (t && is_folder b) (gen_of (number_in 0 SEED_MAX d) (number_in 1 LINES_MAX e)) None) gen
no_command a (b ∷ d ∷ e ∷ f ∷ more) name gen = refl

-- such words are refused, or give their command
pub words_read : (words : List Text) → list_all is_folder words ≡ true → Refuses words ⊎ Gives words
words_read [] all = inl (kind.MissingSubcommand, [], nothing_fault, refl)
words_read (a ∷ rest) all = on_run (bytes_eq a (codes "run")) refl
  where
    parts : (is_folder a ≡ true) × (list_all is_folder rest ≡ true)
    parts = both_true (is_folder a) (list_all is_folder rest) all

    named_as : (name : Text) → bytes_eq a name ≡ true → Refuses (name ∷ rest) ⊎ Gives (name ∷ rest)
        → Refuses (a ∷ rest) ⊎ Gives (a ∷ rest)
    named_as name e read =
        subst (λ (x : Text). Refuses (x ∷ rest) ⊎ Gives (x ∷ rest)) (sym ((bytes_eq-Decides a name).0 e)) read

    on_gen : (t : Bool) → bytes_eq a (codes "gen") ≡ t → bytes_eq a (codes "run") ≡ false
        → bytes_eq a (codes "wal") ≡ false → bytes_eq a (codes "verify") ≡ false → Refuses (a ∷ rest) ⊎ Gives (a ∷ rest)
    on_gen true e run wal verify = named_as (codes "gen") e (over_gen rest parts.1)
    on_gen false e run wal verify =
        inl (
          kind.UnknownArgument,
          kind.InvalidSubcommand ∷ [],
          unknown a rest (plain a parts.0) (none_met a (other_way a (codes "run") run) (other_way a (codes "wal") wal)
              (other_way a (codes "verify") verify) (other_way a (codes "gen") e)),
          no_command a rest (name_none a run wal verify) e,
        )

    on_verify : (t : Bool) → bytes_eq a (codes "verify") ≡ t → bytes_eq a (codes "run") ≡ false
        → bytes_eq a (codes "wal") ≡ false → Refuses (a ∷ rest) ⊎ Gives (a ∷ rest)
    on_verify true e run wal =
        named_as (codes "verify") e (over_named (codes "verify") refl (λ _. refl) met_verify rows_verify rest parts.1)
    on_verify false e run wal = on_gen (bytes_eq a (codes "gen")) refl run wal e

    on_wal : (t : Bool) → bytes_eq a (codes "wal") ≡ t → bytes_eq a (codes "run") ≡ false
        → Refuses (a ∷ rest) ⊎ Gives (a ∷ rest)
    on_wal true e run =
        named_as (codes "wal") e (over_named (codes "wal") refl (λ _. refl) met_wal rows_wal rest parts.1)
    on_wal false e run = on_verify (bytes_eq a (codes "verify")) refl run e

    on_run : (t : Bool) → bytes_eq a (codes "run") ≡ t → Refuses (a ∷ rest) ⊎ Gives (a ∷ rest)
    on_run true e = named_as (codes "run") e (over_named (codes "run") refl (λ _. refl) met_run rows_run rest parts.1)
    on_run false e = on_wal (bytes_eq a (codes "wal")) refl e

-- what a parse of the program's words gives
pub given_words : (app : App) (m : ArgMatches) (words : List Text) → app ≡ program → list_all is_folder words ≡ true
    → (is_simple_and_free app ≡ true → fault_of app words ≡ []) → HasMatchesOf app words m
    → (name_given (subcommand_rows_of m) ≡ command_in words) × (folder_given (subcommand_rows_of m) ≡ folder_in words)
given_words app m words same all passes has = by (words_read words all)
  where
    passed : fault_of program words ≡ []
    passed = subst (λ (a : App). fault_of a words ≡ []) same (passes (ap is_simple_and_free same ∙ ready))

    by : Refuses words ⊎ Gives words
        → (name_given (subcommand_rows_of m) ≡ command_in words) × (folder_given (subcommand_rows_of m)
        ≡ folder_in words)
    by (inl r) = absurd (let both : r.0 ∷ r.1 ≡ [] = sym r.2 ∙ passed in cc)
    by (inr g) =
        let rows : subcommand_rows_of m ≡ subcommand_of program words =
        subst (λ (a : App). subcommand_rows_of m ≡ subcommand_of a words) same (has (ap is_simple same ∙ simple)).1 in
        (ap name_given rows ∙ g.1, ap folder_given rows ∙ g.2)

-- words that a parse refuses, and not for lack of memory, are no command
pub no_words : (app : App) (e : Error) (words : List Text) → app ≡ program → list_all is_folder words ≡ true
    → (is_simple_and_free app ≡ true → HasKind (fault_of app words) e) → (kind_of e ≡ kind.OutOfMemory → ⊥)
    → command_in words ≡ None
no_words app e words same all fails other = by (words_read words all)
  where
    failed : HasKind (fault_of program words) e
    failed = subst (λ (a : App). HasKind (fault_of a words) e) same (fails (ap is_simple_and_free same ∙ ready))

    none : HasKind [] e → ⊥
    none (inl is) = other is
    none (inr is) = is

    by : Refuses words ⊎ Gives words → command_in words ≡ None
    by (inl r) = r.3
    by (inr g) = absurd (none (subst (λ (ks : Kinds). HasKind ks e) g.0 failed))
