-- The room of a span is cut in two, and joined again; a span as a value. Assumes `Logic`.
use Rattle.std.proofs.Common.{ℕ, ◌+◌, List, [], ◌∷◌, refl, subst, w8}
use seplogic.Ra.Ura.{Ura}
use mir.Syntax.{ty_int}
use mir.Val.{Val, vstruct, vnil}
use base.Logic.{SProp, ent, sep, guard, guard_i, never_e, via, fst∗}
use types.Logic.{Logic, sem}
use types.Kit.{‵, ◌$◌, ◌∵◌, !, qed, drop, fsplit, fjoin, fpack, feq_i, done}
use denote.Steps.{nothing}
use denote.Struct.Struct.{within}
use denote.Struct.Owning.{shape}
use denote.Laws.{Is, Tells}
use denote.RawPtr.{Ptr, InBlock, block_ptr, null_ptr, ◌+ₚ◌}
use denote.RawPtr.Room.{past_bytes, room_cut, room_glue}
use Rattle.pm_region.specs.Memory.{room_lies}
use Rattle.pm_region.specs.contracts.memory.Span as Span
use Rattle.pm_region.proofs.memory.Span.TheLaws as span_laws

-- the machine value of a span, which has no fields
abbrev pub blank : Val
blank = vstruct vnil

abbrev pub span_vals : (Span.the_row).Denot → List Val
span_vals s = blank ∷ []

pub span_tells : Tells Span.the_row (Is Span.the_row) span_vals
span_tells = span_laws.lowers.val_is

module _ {M : Type 1} {𝓤 : Ura M} (𝓛 : Logic 𝓤) where
  abbrev room : Ptr → ℕ → SProp 𝓤
  room origin n = sem 𝓛 (room_lies origin n)

  -- room is that of the first bytes, and what follows
  pub cuts : (origin : Ptr) (m n : ℕ) → ent 𝓤 (room origin (m + n)) (sep 𝓤 (room origin m) (room (origin +ₚ m) n))
  cuts null_ptr m n = never_e 𝓤 _
  cuts (block_ptr b o) m n =
      subst (λ (k : ℕ). ent 𝓤 (room (block_ptr b o) (m + n)) (sep 𝓤 (room (block_ptr b o) m) (room (block_ptr b k) n))) (past_bytes m o) (room_cut 𝓛 (ty_int w8) m n b o)

  -- and the other way round
  pub joins : (origin : Ptr) (m n : ℕ) → ent 𝓤 (sep 𝓤 (room origin m) (room (origin +ₚ m) n)) (room origin (m + n))
  joins null_ptr m n = via 𝓤 _ (fst∗ 𝓤 (room null_ptr m) (room null_ptr n)) (never_e 𝓤 _)
  joins (block_ptr b o) m n =
      subst (λ (k : ℕ). ent 𝓤 (sep 𝓤 (room (block_ptr b o) m) (room (block_ptr b k) n)) (room (block_ptr b o) (m + n))) (past_bytes m o) (room_glue 𝓛 (ty_int w8) m n b o)

  -- room is somewhere
  pub placed : (origin : Ptr) (n : ℕ) → ent 𝓤 (room origin n) (guard 𝓤 (InBlock origin) (room origin n))
  placed null_ptr n = never_e 𝓤 _
  placed (block_ptr b o) n = guard_i 𝓤 (InBlock (block_ptr b o)) (room (block_ptr b o) n) tt

  -- what a span owns is its room
  pub span_had : (s : (Span.the_row).Denot) → ent 𝓤 (sem 𝓛 ((Span.the_row).own_val s (span_vals s))) (room s.origin s.len)
  span_had s = qed 𝓛 (‵ ((Span.the_row).own_val s (span_vals s)) ∷ []) ∵ fsplit ! $ drop ! $ done !

  pub span_made : (s : (Span.the_row).Denot) → ent 𝓤 (room s.origin s.len) (sem 𝓛 ((Span.the_row).own_val s (span_vals s)))
  span_made s =
      qed 𝓛 (‵ (room_lies s.origin s.len) ∷ []) ∵ nothing ! $ feq_i ! (List Val) (blank ∷ []) (blank ∷ []) refl $ fjoin ! $
      fpack ! (Unit {0}) (within (shape Span.the_type) tt (blank ∷ [])) tt $ fjoin ! $ done !
