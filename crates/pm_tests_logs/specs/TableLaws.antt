-- The laws of pages that a table names.
use Rattle.std.proofs.Common.{◌≡◌, ℕ, List, refl, sym, ap, subst, ◌∙◌, inl}
use Rattle.std.proofs.Common.{inr, length, arith}
use Rattle.std.specs.Prelude.{Option, None, Some, IsSome, IsTrue}
use Rattle.std.proofs.lemmas.Bool.{cases_eq, eq-eqb, ne_eqb}
use Rattle.pm_pages.specs.Paged.{Paged, WritesPage}
use Rattle.pm_pages.specs.Asked.{entry_of}
use Rattle.pm_pages.specs.Plain.{plain_seen, plain_written}
use Rattle.pm_pages.specs.PlainLaws as plain
use Rattle.pm_tests_logs.specs.declared.pages.table.TablePages.{TablePages}
use Rattle.pm_tests_logs.specs.Table.{is_held, held_only, table_seen, IsTableReady, KeepsTable, table_written}

pub kept_refl : (t : TablePages) → KeepsTable t t
kept_refl t = record { plain = plain.kept_refl t.plain; later = omega arith; ready = λ is. is }

pub kept_then : (s t u : TablePages) → KeepsTable s t → KeepsTable t u → KeepsTable s u
kept_then s t u x y = record {
  plain = plain.kept_then s.plain t.plain u.plain x.plain y.plain;
  later = (let a = x.later in let b = y.later in omega (arith, a, b));
  ready = λ is. y.ready (x.ready is);
}

some_held : (o : Option (List ℕ)) → IsSome o → IsTrue (is_held o)
some_held None some = absurd (cc some)
some_held (Some page) some = refl

-- a page was written, and is there as it was before
pub held_writes : (p q : Paged) (i faults : ℕ) (bytes : List ℕ) → IsSome (p.pages i)
    → WritesPage p q i bytes → WritesPage (held_only p faults) (held_only q faults) i bytes
held_writes p q i faults bytes there x = record {
  pages = x.pages;
  known = λ j. elim (cases_eq j i) [
    | inl same ↦
        let now : q.pages j ≡ Some bytes = x.pages j ∙ simp (eq-eqb j i same) refl in
        ap is_held now ∙ sym (some_held (p.pages j) (subst (λ k. IsSome (p.pages k)) (sym same) there))
    | inr away ↦ ap is_held (x.pages j ∙ simp (ne_eqb j i away) refl)
  ];
  asked = x.asked;
  lent = x.lent;
  patches = x.patches;
  spare = x.spare;
  same = record {
    page_size = x.same.page_size;
    max_rows = x.same.max_rows;
    part = x.same.part;
    faults = omega arith;
  };
}

there : (t : TablePages) (i : ℕ) → IsTableReady t → IsTrue ((table_seen t).lent i)
    → IsSome ((table_seen t).pages i)
there t i ready lent =
    plain.is_there t.plain.pages.items i
    (ready.ordered.there i (plain.lent_asked (entry_of t.plain.asked.items i) lent))

pub writes : (t : TablePages) (i : ℕ) (bytes : List ℕ) → IsTableReady t → IsTrue ((table_seen t).lent i)
    → length bytes ≡ (table_seen t).page_size
    → WritesPage (table_seen t) (table_seen (table_written t i bytes)) i bytes
writes t i bytes ready lent long =
    held_writes (plain_seen t.plain) (plain_seen (plain_written t.plain i bytes)) i t.faults bytes
    (there t i ready lent) (plain.writes t.plain i bytes ready lent long)

pub kept_written : (t : TablePages) (i : ℕ) (bytes : List ℕ) → IsTableReady t
    → IsTrue ((table_seen t).lent i) → length bytes ≡ (table_seen t).page_size
    → KeepsTable t (table_written t i bytes)
kept_written t i bytes ready lent long =
    let keeps = plain.kept_written t.plain i bytes ready lent long in
    record { plain = keeps; later = omega arith; ready = keeps.ready }
