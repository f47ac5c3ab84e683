-- A vector without bytes is taken apart into its room and a shell, and made whole again. Assumes `Logic`.
use Rattle.std.proofs.Common.{◌≡◌, ℕ, ◌<◌, List, [], ◌∷◌, ◌++◌, refl, sym, subst}
use Rattle.std.specs.Allocator.{block_with_items}
use base.Fml.{fsep, feq, fwand}
use base.Fraction.{full_share}
use base.Logic.{ent, sep, ex, guard, never, id⊢, apply∗}
use denote.Array.{Array}
use denote.Builtin.{u8}
use denote.Laws.{shows}
use denote.Param.{layout}
use denote.Param.Laws.{Laws}
use denote.RattleType.{RattleType, Valss}
use denote.RawPtr.{Ptr, block_ptr, lies_at, in_block, in_a_block}
use denote.Steps.{nothing, peeks}
use denote.Struct.Declared.{shape}
use denote.Struct.Struct.{within}
use lib.Dec.{T}
use mir.Val.{Val, vstruct, vcons, vnil, of_list, has_ty, WT}
use seplogic.Ra.Ura.{Ura}
use types.Kit.{‵, ◌⊛◌, ◌$◌, ◌∵◌, !, qed, move, keep, use1, use2, split, frame, assume, show, check, fsplit, fsplit3, fjoin, fjoin3, fpick, fpack, feq_l, feq_i, rewrite, done}
use types.Logic.{Logic, sem}
use Rattle.std.specs.contracts.alloc.Global as Global
use Rattle.std.specs.contracts.impls.GlobalAllocator.TheImpl.{ghosts}
use Rattle.std_alloc.specs.contracts.vec.Vec as V
use Rattle.std_alloc.specs.Vec.Ownership.{owns_if, has_block}
use Rattle.pm_region.specs.Memory.{room_lies, Hollow, hollow}
use Rattle.pm_region.specs.contracts.memory.Shell as Shell
use Rattle.pm_region.specs.contracts.memory.Shell.TheInside as fields
use Rattle.pm_region.specs.declared.memory.Shell.TheInside.{Inside}
use Rattle.std_alloc.proofs.vec.Vec.TheLaws as vec_laws
use Rattle.std.proofs.alloc.Global.TheLaws as heap_laws
use Rattle.pm_region.proofs.Lodging.{byte_laws, one_val, is_block, spare, emptied, unwritten}

-- a vector of bytes on the heap, as a type
abbrev pub Full : RattleType
Full = V.the_row u8 Global.the_row ghosts

abbrev pub full_laws : Laws Full
full_laws = vec_laws.the_row_laws u8 Global.the_row ghosts byte_laws heap_laws.the_row_laws

-- a machine value that fits it
abbrev pub Fine : Val → Type 0
Fine u = T (has_ty (layout Full) u) × WT u

-- the machine value of a struct with this one field
abbrev pub wrapped : Val → Val
wrapped u = vstruct (vcons u vnil)

module _ {M : Type 1} {𝓤 : Ura M} (𝓛 : Logic 𝓤) where
  -- the shell's one field is made of the vector
  pub field_made : (v : Full.Denot) (u : Val) → ent 𝓤 (sem 𝓛 (Full.own_val v (u ∷ []))) (sem 𝓛 ((fields.the_row).own_val (record { vec = v }) (wrapped u ∷ [])))
  field_made v u =
      qed 𝓛 (‵ (Full.own_val v (u ∷ [])) ∷ []) ∵ nothing ! $ move ! (1 ∷ 0 ∷ []) $ fjoin ! $
      feq_i ! (List Val) (wrapped u ∷ []) (wrapped u ∷ []) refl $ fjoin ! $
      fpack ! (Valss (Full ∷ [])) (within (shape fields.the_type) (v, tt) (wrapped u ∷ [])) (u ∷ [], tt) $ done !

  -- the room, and the shell, which waits for it
  pub hollowed : (v : Full.Denot) (u : Val) → v.len ≡ 0 → 0 < v.cap
      → ent 𝓤 (sem 𝓛 (Full.own_val v (u ∷ []))) (sep 𝓤 (sem 𝓛 (room_lies v.ptr v.cap)) (sem 𝓛 (Shell.the_own (hollow v.ptr v.cap) (wrapped u ∷ []))))
  hollowed v u empty wide =
      let Block = λ (p : Ptr). block_with_items (ghosts.dealloc_token v.alloc) u8 p v.len v.cap v.items in
      let live = is_block v.cap wide in
      let Room = room_lies v.ptr v.cap in
      let Whole = (fields.the_row).own_val (record { vec = v }) (wrapped u ∷ []) in
      qed 𝓛 (‵ (Full.own_val v (u ∷ [])) ∷ []) ∵ fsplit ! $ move ! (1 ∷ []) $ fsplit ! $ move ! (1 ∷ []) $
      in_a_block ! v.ptr (λ p. in_block p (owns_if (has_block v.cap) (Block p))) (id⊢ 𝓤 (never 𝓤)) (λ b o at.
      rewrite ! 0 (λ y. ‵ (owns_if y (Block (block_ptr b o)))) live refl $ rewrite ! 0 (λ p. ‵ (Block p)) (sym at) refl $
      fsplit3 ! $ use2 𝓛 (‵ Room) (emptied 𝓛 v.ptr v.len v.cap v.items v.ok.1) $ frame ! $
      -- [the right to free; the bound on the room; the vector's fields]
      show ! (λ (i : Inside). sem 𝓛 (fsep (feq ℕ i.vec.cap v.cap) (fwand Room ((fields.the_row).own_val i (wrapped u ∷ []))))) (record { vec = v }) $
      feq_i ! ℕ v.cap v.cap refl $ frame ! $ assume ! (‵ Room) $
      use1 𝓛 (‵ (lies_at (Array u8 v.len) full_share v.ptr v.items) ⊛ ‵ (spare v.ptr v.len v.cap)) (unwritten 𝓛 v.ptr v.len v.cap v.items v.ok.0 empty) $ split ! $ fjoin3 ! $
      rewrite ! 0 (λ p. ‵ (Block p)) at refl $ rewrite ! 0 (λ y. ‵ (owns_if y (Block (block_ptr b o)))) (sym live) refl $
      rewrite ! 0 (λ p. ‵ (in_block p (owns_if (has_block v.cap) (Block p)))) (sym at) refl $
      move ! (1 ∷ 0 ∷ []) $ fjoin ! $ move ! (1 ∷ 0 ∷ []) $ fjoin ! $ use1 𝓛 (‵ Whole) (field_made v u) $ done !)

  -- and gives it back
  pub field_had : (v : Full.Denot) (us : List Val)
      → ent 𝓤 (sem 𝓛 ((fields.the_row).own_val (record { vec = v }) us)) (ex 𝓤 (λ u. guard 𝓤 ((us ≡ wrapped u ∷ []) × Fine u) (sem 𝓛 (Full.own_val v (u ∷ [])))))
  field_had v us =
      qed 𝓛 (‵ ((fields.the_row).own_val (record { vec = v }) us) ∷ []) ∵ fpick ! (λ uss. fsplit ! $ feq_l ! (λ e. fsplit ! $ keep ! (0 ∷ []) $
      peeks ! Full _ (shows 𝓛 Full) v uss.0 (λ told.
      let value = one_val (layout Full) uss.0 ((full_laws.lawful 𝓛).typed v uss.0 told) in
      let is : us ≡ wrapped value.0 ∷ [] = subst (λ ws. us ≡ vstruct (of_list (ws ++ [])) ∷ []) value.1 e in
      rewrite ! 0 (λ ws. ‵ (Full.own_val v ws)) value.1 refl $
      show ! (λ u. guard 𝓤 ((us ≡ wrapped u ∷ []) × Fine u) (sem 𝓛 (Full.own_val v (u ∷ [])))) value.0 $ check ! (is, value.2) $ done !)))

  -- with its room back, the shell's field is the vector
  pub filled_up : (h : Hollow) (us : List Val) → ent 𝓤 (sep 𝓤 (sem 𝓛 (room_lies h.origin h.len)) (sem 𝓛 (Shell.the_own h us)))
      (ex 𝓤 (λ (v : Full.Denot). guard 𝓤 (v.cap ≡ h.len) (sem 𝓛 ((fields.the_row).own_val (record { vec = v }) us))))
  filled_up h us =
      let Room = room_lies h.origin h.len in
      qed 𝓛 (‵ Room ∷ ‵ (Shell.the_own h us) ∷ []) ∵ move ! (1 ∷ []) $ fpick ! (λ i. fsplit ! $ feq_l ! (λ cap.
      let Whole = (fields.the_row).own_val (record { vec = i.vec }) us in
      move ! (1 ∷ []) $ use2 𝓛 (‵ Whole) (apply∗ 𝓤 (sem 𝓛 Room) (sem 𝓛 Whole)) $
      show ! (λ (v : Full.Denot). guard 𝓤 (v.cap ≡ h.len) (sem 𝓛 ((fields.the_row).own_val (record { vec = v }) us))) i.vec $ check ! cap $ done !))
