-- What `clap` makes of words none of which is empty or begins with `-`.
use Rattle.std.proofs.Common.{◌≡◌, ◌∙◌, ℕ, Bool, true, false, List, [], ◌∷◌, ◌++◌, Some, None, refl, sym, ap, ap₂}
use Rattle.std.proofs.Common.{subst, arith}
use Rattle.std.specs.Prelude.{◌==◌, nat_lt, length, codes, is_some, fold}
use Rattle.std.specs.Str.{bytes_eq}
use Rattle.std.proofs.lemmas.Bool.Decides.{nat_tests}
use Rattle.std.proofs.lemmas.List.{append-nil, append_assoc}
use Rattle.clap.specs.Lexer.{long_of, short_of}
use Rattle.clap.specs.Walk.{Held, Names, Rule, Text, Walk, idle, value, word_met, walked, walk, to_positional}
use Rattle.clap.specs.Walk.{arg_by_index, walk_from, nothing_held, subcommand_met, settled, finished, rows_after}
use Rattle.clap.specs.Faults.{word_fault, turn_fault, step_fault, walk_fault, level_fault, settle_fault}
use Rattle.clap.specs.Faults.{defaults_fault, check_fault, entered_fault, fault_of, is_simple_and_free}
use Rattle.clap.specs.Kinds.{Kinds, or_else}
use Rattle.clap.specs.Simple.{Shape, built, built_leaf, entered, inherited, is_simple, names_of, subcommand_of}
use Rattle.clap.specs.declared.error.kind.ErrorKind.{ErrorKind}
use Rattle.clap.specs.declared.error.kind.ErrorKind.TheVariants as kind
use Rattle.clap.proofs.FaultLemmas.{stopped_fault}
use Rattle.clap.proofs.OnLiterals.{clap_on_literals}
use Rattle.pm_top.specs.Subcommands.{drawing, over_folder, program}
use Rattle.pm_top.specs.Words.{is_folder}
use Rattle.pm_top.proofs.WordNumbers.{both_true}

-- ---- words that are no flag

-- what the lexer makes of such a word
pub record IsPlain (word : Text) : Type 0 where
  pub dashes : bytes_eq word (45 ∷ 45 ∷ []) ≡ false
  pub long : long_of word ≡ None
  pub short : short_of word ≡ None

pub plain : (word : Text) → is_folder word ≡ true → IsPlain word
plain [] is = absurd (let both : false ≡ true = is in cc)
plain (x ∷ xs) is = go (x == 45) refl
  where
    go : (t : Bool) → (x == 45) ≡ t → IsPlain (x ∷ xs)
    go true e =
        let same : x ≡ 45 = grind (arith, nat_tests) in
        let both : false ≡ true = (both_true (nat_lt 0 (length (45 ∷ xs))) false
        (subst (λ y. is_folder (y ∷ xs) ≡ true) same is)).1 in
        absurd cc
    go false e = record { dashes = rw e refl; long = rw e refl; short = rw e refl }

-- such a word, where it names no subcommand, goes to a positional
pub plain_met : (c : List Rule) (names : Names) (position : ℕ) (word : Text) (h : Held) → IsPlain word
    → subcommand_met names idle word ≡ None → word_met c names false idle position word h ≡ (h, value)
plain_met c names position word h p none = rw (none, p.dashes, p.long, p.short) refl

pub plain_passes : (s : Shape) (names : Names) (word : Text) (h : Held) → IsPlain word
    → subcommand_met names idle word ≡ None → word_fault s names false idle word h ≡ []
plain_passes s names word h p none = rw (none, p.dashes, p.long, p.short) refl

-- a walk that waits for the positional with this number
abbrev pub before : Held → ℕ → Walk
before h position = record { held = h; waiting = idle; position = position; is_trailing = false; stopped = None }

-- the turn of such a word, and the walk after it
pub plain_turn : (s : Shape) (names : Names) (h : Held) (position : ℕ) (word : Text) → IsPlain word
    → subcommand_met names idle word ≡ None
    → turn_fault s names (before h position) word ≡ step_fault s position h value
plain_turn s names h position word p none =
    rw (plain_met s.rules names position word h p none, plain_passes s names word h p none) refl

pub plain_walked : (c : List Rule) (names : Names) (h : Held) (position : ℕ) (word : Text) → IsPlain word
    → subcommand_met names idle word ≡ None
    → walked c names (before h position) word ≡ to_positional c (arg_by_index c position) word (before h position) h
unfolding walked
plain_walked c names h position word p none = rw (plain_met c names position word h p none) refl

-- the faults of a walk that goes on with the next positional, and the walk
pub faults_on : (s : Shape) (h next : Held) (position after : ℕ) (word : Text) (rest : List Text) → IsPlain word
    → step_fault s position h value ≡ []
    → to_positional s.rules (arg_by_index s.rules position) word (before h position) h ≡ before next after
    → walk_fault s [] (before h position) (word ∷ rest) ≡ walk_fault s [] (before next after) rest
unfolding walk_fault
faults_on s h next position after word rest p passes moves =
    ap₂ (λ k w. or_else k (walk_fault s [] w rest)) (plain_turn s [] h position word p refl ∙ passes)
    (plain_walked s.rules [] h position word p refl ∙ moves)

pub walk_on : (c : List Rule) (h next : Held) (position after : ℕ) (word : Text) (rest : List Text) → IsPlain word
    → to_positional c (arg_by_index c position) word (before h position) h ≡ before next after
    → fold (walked c []) (before h position) (word ∷ rest) ≡ fold (walked c []) (before next after) rest
walk_on c h next position after word rest p moves =
    ap (λ w. fold (walked c []) w rest) (plain_walked c [] h position word p refl ∙ moves)

-- a word that no positional takes
pub stray : (s : Shape) (names : Names) (h : Held) (position : ℕ) (word : Text) (rest : List Text) (k : ErrorKind)
    (ks : Kinds)
    → IsPlain word → subcommand_met names idle word ≡ None → step_fault s position h value ≡ k ∷ ks
    → walk_fault s names (before h position) (word ∷ rest) ≡ k ∷ ks
unfolding walk_fault
stray s names h position word rest k ks p none fails =
    ap (λ t. or_else t (walk_fault s names (walked s.rules names (before h position) word) rest))
    (plain_turn s names h position word p none ∙ fails)

-- ---- the program's level

pub ready : is_simple_and_free program ≡ true
unfolding clap_on_literals
ready = refl

pub simple : is_simple program ≡ true
unfolding clap_on_literals
simple = refl

-- after a subcommand was met each word is kept for it
pub walk_stays : (c : List Rule) (names : Names) (w : Walk) (p : Text × List Text) (words : List Text)
    → fold (walked c names) (record w { stopped = Some p }) words ≡ record w { stopped = Some (p.0, p.1 ++ words) }
unfolding walked
walk_stays c names w p [] = ap (λ (l : List Text). record w { stopped = Some (p.0, l) }) (sym (append-nil p.1))
walk_stays c names w p (x ∷ xs) =
    walk_stays c names w (p.0, p.1 ++ x ∷ []) xs
    ∙ ap (λ (l : List Text). record w { stopped = Some (p.0, l) }) (append_assoc p.1 (x ∷ []) xs)

pub or_nothing : (ks : Kinds) → or_else ks [] ≡ ks
or_nothing [] = refl
or_nothing (k ∷ ks) = refl

-- the program's faults, from its walk and the faults of that
abbrev top_fault : Walk → Kinds → Kinds
top_fault w ks =
    or_else ks (or_else (entered_fault (built program) w.stopped)
    (or_else (settle_fault (built program).top.rules (built program).top.args_override_self w.held)
    (or_else (defaults_fault (settled (built program).top.rules w.held).rows (built program).top.rules)
    (check_fault (built program).top (finished (built program).top.rules w.held)
    (is_some (entered (built program) w.stopped))))))

-- the built subcommand with this shape
abbrev pub leaf : Shape → Shape
leaf s = built_leaf (inherited (built program).top s)

pub met_run : (rest : List Text)
    → fault_of program (codes "run" ∷ rest)
    ≡ level_fault (leaf (over_folder (codes "run"))) [] nothing_held rest false []
unfolding clap_on_literals
met_run rest =
    ap₂ top_fault (walk_stays [] (names_of (built program)) (before nothing_held 1) (codes "run", []) rest)
    (stopped_fault (built program).top (names_of (built program)) (before nothing_held 1) (codes "run", []) rest)
    ∙ or_nothing (level_fault (leaf (over_folder (codes "run"))) [] nothing_held rest false [])

pub met_wal : (rest : List Text)
    → fault_of program (codes "wal" ∷ rest)
    ≡ level_fault (leaf (over_folder (codes "wal"))) [] nothing_held rest false []
unfolding clap_on_literals
met_wal rest =
    ap₂ top_fault (walk_stays [] (names_of (built program)) (before nothing_held 1) (codes "wal", []) rest)
    (stopped_fault (built program).top (names_of (built program)) (before nothing_held 1) (codes "wal", []) rest)
    ∙ or_nothing (level_fault (leaf (over_folder (codes "wal"))) [] nothing_held rest false [])

pub met_verify : (rest : List Text)
    → fault_of program (codes "verify" ∷ rest)
    ≡ level_fault (leaf (over_folder (codes "verify"))) [] nothing_held rest false []
unfolding clap_on_literals
met_verify rest =
    ap₂ top_fault (walk_stays [] (names_of (built program)) (before nothing_held 1) (codes "verify", []) rest)
    (stopped_fault (built program).top (names_of (built program)) (before nothing_held 1) (codes "verify", []) rest)
    ∙ or_nothing (level_fault (leaf (over_folder (codes "verify"))) [] nothing_held rest false [])

pub met_gen : (rest : List Text)
    → fault_of program (codes "gen" ∷ rest) ≡ level_fault (leaf drawing) [] nothing_held rest false []
unfolding clap_on_literals
met_gen rest =
    ap₂ top_fault (walk_stays [] (names_of (built program)) (before nothing_held 1) (codes "gen", []) rest)
    (stopped_fault (built program).top (names_of (built program)) (before nothing_held 1) (codes "gen", []) rest)
    ∙ or_nothing (level_fault (leaf drawing) [] nothing_held rest false [])

pub rows_run : (rest : List Text)
    → subcommand_of program (codes "run" ∷ rest)
    ≡ Some (codes "run", rows_after (leaf (over_folder (codes "run"))).rules [] rest)
unfolding clap_on_literals
rows_run rest =
    ap (λ (w : Walk). entered (built program) w.stopped)
    (walk_stays [] (names_of (built program)) (before nothing_held 1) (codes "run", []) rest)

pub rows_wal : (rest : List Text)
    → subcommand_of program (codes "wal" ∷ rest)
    ≡ Some (codes "wal", rows_after (leaf (over_folder (codes "wal"))).rules [] rest)
unfolding clap_on_literals
rows_wal rest =
    ap (λ (w : Walk). entered (built program) w.stopped)
    (walk_stays [] (names_of (built program)) (before nothing_held 1) (codes "wal", []) rest)

pub rows_verify : (rest : List Text)
    → subcommand_of program (codes "verify" ∷ rest)
    ≡ Some (codes "verify", rows_after (leaf (over_folder (codes "verify"))).rules [] rest)
unfolding clap_on_literals
rows_verify rest =
    ap (λ (w : Walk). entered (built program) w.stopped)
    (walk_stays [] (names_of (built program)) (before nothing_held 1) (codes "verify", []) rest)

pub rows_gen : (rest : List Text)
    → subcommand_of program (codes "gen" ∷ rest) ≡ Some (codes "gen", rows_after (leaf drawing).rules [] rest)
unfolding clap_on_literals
rows_gen rest =
    ap (λ (w : Walk). entered (built program) w.stopped)
    (walk_stays [] (names_of (built program)) (before nothing_held 1) (codes "gen", []) rest)

-- a word that is no subcommand
pub none_met : (a : Text) → bytes_eq (codes "run") a ≡ false → bytes_eq (codes "wal") a ≡ false
    → bytes_eq (codes "verify") a ≡ false → bytes_eq (codes "gen") a ≡ false
    → subcommand_met (names_of (built program)) idle a ≡ None
none_met a run wal verify gen = rw (run, wal, verify, gen) refl

pub unknown : (a : Text) (rest : List Text) → IsPlain a → subcommand_met (names_of (built program)) idle a ≡ None
    → fault_of program (a ∷ rest) ≡ kind.UnknownArgument ∷ kind.InvalidSubcommand ∷ []
unknown a rest p none =
    ap (top_fault (walk (built program).top.rules (names_of (built program)) nothing_held (a ∷ rest)))
    (stray (built program).top (names_of (built program)) nothing_held 1 a rest kind.UnknownArgument
    (kind.InvalidSubcommand ∷ []) p none refl)

-- ---- a subcommand's level

-- a subcommand's faults, from its walk and the faults of that
abbrev leaf_fault : Shape → Walk → Kinds → Kinds
leaf_fault s w ks =
    or_else ks (or_else [] (or_else (settle_fault s.rules s.args_override_self w.held)
    (or_else (defaults_fault (settled s.rules w.held).rows s.rules) (check_fault s (finished s.rules w.held) false))))

-- what is held after one more positional
abbrev pub moved : Shape → Held → ℕ → Text → Held
moved s h position word = (to_positional s.rules (arg_by_index s.rules position) word (before h position) h).held

-- over a folder: no word, one word, more
pub one_none : (name : Text)
    → level_fault (leaf (over_folder name)) [] nothing_held [] false [] ≡ kind.MissingRequiredArgument ∷ []
unfolding clap_on_literals
one_none name = refl

pub one_one : (name b : Text) → IsPlain b → level_fault (leaf (over_folder name)) [] nothing_held (b ∷ []) false [] ≡ []
unfolding clap_on_literals
one_one name b p =
    let s = leaf (over_folder name) in
    ap₂ (leaf_fault s) (walk_on s.rules nothing_held (moved s nothing_held 1 b) 1 2 b [] p refl)
    (faults_on s nothing_held (moved s nothing_held 1 b) 1 2 b [] p refl refl)

pub one_more : (name b d : Text) (more : List Text) → IsPlain b → IsPlain d
    → level_fault (leaf (over_folder name)) [] nothing_held (b ∷ d ∷ more) false [] ≡ kind.UnknownArgument ∷ []
one_more name b d more p q =
    let s = leaf (over_folder name) in
    ap (leaf_fault s (walk s.rules [] nothing_held (b ∷ d ∷ more)))
    (faults_on s nothing_held (moved s nothing_held 1 b) 1 2 b (d ∷ more) p refl refl
    ∙ stray s [] (moved s nothing_held 1 b) 2 d more kind.UnknownArgument [] q refl refl)

pub one_walk : (name b : Text) → IsPlain b
    → walk (leaf (over_folder name)).rules [] nothing_held (b ∷ [])
    ≡ before (moved (leaf (over_folder name)) nothing_held 1 b) 2
one_walk name b p =
    walk_on (leaf (over_folder name)).rules nothing_held (moved (leaf (over_folder name)) nothing_held 1 b) 1 2 b [] p
    refl

-- drawn lines: up to two words, three, more
abbrev pub drew1 : Text → Held
drew1 b = moved (leaf drawing) nothing_held 1 b

abbrev pub drew2 : Text → Text → Held
drew2 b d = moved (leaf drawing) (drew1 b) 2 d

abbrev pub drew3 : Text → Text → Text → Held
drew3 b d e = moved (leaf drawing) (drew2 b d) 3 e

draw_one : (b : Text) (rest : List Text) → IsPlain b
    → walk_fault (leaf drawing) [] (walk_from nothing_held) (b ∷ rest)
    ≡ walk_fault (leaf drawing) [] (before (drew1 b) 2) rest
draw_one b rest p = faults_on (leaf drawing) nothing_held (drew1 b) 1 2 b rest p refl refl

draw_two : (b d : Text) (rest : List Text) → IsPlain b → IsPlain d
    → walk_fault (leaf drawing) [] (walk_from nothing_held) (b ∷ d ∷ rest)
    ≡ walk_fault (leaf drawing) [] (before (drew2 b d) 3) rest
draw_two b d rest p q = draw_one b (d ∷ rest) p ∙ faults_on (leaf drawing) (drew1 b) (drew2 b d) 2 3 d rest q refl refl

draw_three : (b d e : Text) (rest : List Text) → IsPlain b → IsPlain d → IsPlain e
    → walk_fault (leaf drawing) [] (walk_from nothing_held) (b ∷ d ∷ e ∷ rest)
    ≡ walk_fault (leaf drawing) [] (before (drew3 b d e) 4) rest
draw_three b d e rest p q r =
    draw_two b d (e ∷ rest) p q ∙ faults_on (leaf drawing) (drew2 b d) (drew3 b d e) 3 4 e rest r refl refl

walk_one : (b : Text) (rest : List Text) → IsPlain b
    → walk (leaf drawing).rules [] nothing_held (b ∷ rest)
    ≡ fold (walked (leaf drawing).rules []) (before (drew1 b) 2) rest
walk_one b rest p = walk_on (leaf drawing).rules nothing_held (drew1 b) 1 2 b rest p refl

walk_two : (b d : Text) (rest : List Text) → IsPlain b → IsPlain d
    → walk (leaf drawing).rules [] nothing_held (b ∷ d ∷ rest)
    ≡ fold (walked (leaf drawing).rules []) (before (drew2 b d) 3) rest
walk_two b d rest p q = walk_one b (d ∷ rest) p ∙ walk_on (leaf drawing).rules (drew1 b) (drew2 b d) 2 3 d rest q refl

pub walk_three : (b d e : Text) (rest : List Text) → IsPlain b → IsPlain d → IsPlain e
    → walk (leaf drawing).rules [] nothing_held (b ∷ d ∷ e ∷ rest)
    ≡ fold (walked (leaf drawing).rules []) (before (drew3 b d e) 4) rest
walk_three b d e rest p q r =
    walk_two b d (e ∷ rest) p q ∙ walk_on (leaf drawing).rules (drew2 b d) (drew3 b d e) 3 4 e rest r refl

pub gen_none_given : level_fault (leaf drawing) [] nothing_held [] false [] ≡ kind.MissingRequiredArgument ∷ []
unfolding clap_on_literals
gen_none_given = refl

pub gen_one : (b : Text) → IsPlain b
    → level_fault (leaf drawing) [] nothing_held (b ∷ []) false [] ≡ kind.MissingRequiredArgument ∷ []
unfolding clap_on_literals
gen_one b p = ap₂ (leaf_fault (leaf drawing)) (walk_one b [] p) (draw_one b [] p)

pub gen_two : (b d : Text) → IsPlain b → IsPlain d
    → level_fault (leaf drawing) [] nothing_held (b ∷ d ∷ []) false [] ≡ kind.MissingRequiredArgument ∷ []
unfolding clap_on_literals
gen_two b d p q = ap₂ (leaf_fault (leaf drawing)) (walk_two b d [] p q) (draw_two b d [] p q)

pub gen_three : (b d e : Text) → IsPlain b → IsPlain d → IsPlain e
    → level_fault (leaf drawing) [] nothing_held (b ∷ d ∷ e ∷ []) false [] ≡ []
unfolding clap_on_literals
gen_three b d e p q r = ap₂ (leaf_fault (leaf drawing)) (walk_three b d e [] p q r) (draw_three b d e [] p q r)

pub gen_more : (b d e f : Text) (more : List Text) → IsPlain b → IsPlain d → IsPlain e → IsPlain f
    → level_fault (leaf drawing) [] nothing_held (b ∷ d ∷ e ∷ f ∷ more) false [] ≡ kind.UnknownArgument ∷ []
gen_more b d e f more p q r t =
    ap (leaf_fault (leaf drawing) (walk (leaf drawing).rules [] nothing_held (b ∷ d ∷ e ∷ f ∷ more)))
    (draw_three b d e (f ∷ more) p q r ∙ stray (leaf drawing) [] (drew3 b d e) 4 f more kind.UnknownArgument [] t refl
    refl)

pub nothing_fault : fault_of program [] ≡ kind.MissingSubcommand ∷ []
unfolding clap_on_literals
nothing_fault = refl
