-- A vector that lodges in a block: what it owns, and the two calls of `std_alloc` that make and unmake it. Assumes `Logic`.
use Rattle.std.proofs.Common.{◌≡◌, ℕ, ◌+◌, ◌-◌, ◌*◌, ◌^◌, ◌<◌, ◌≤◌, List, [], ◌∷◌, length, true, refl, sym, ap, ◌∙◌, subst, arith, w8, w64, Vec}
use Rattle.std.proofs.lemmas.Bool.{ne_eqb, not_from_false}
use seplogic.Ra.Ura.{Ura}
use mir.Syntax.{Ty, ty_int, ty_array}
use lib.Dec.{T}
use mir.Val.{Val, vint, vptr, has_ty, WT}
use base.Fml.{Fml, ftrue, fsep, feq, flft, froom}
use base.Fraction.{full_share}
use base.Logic.{SProp, ent, sep, ex, guard, emp, never, never_e, via, fst∗, id⊢}
use contract.BorrowLft.{◌⊑◌, ⊑_refl}
use contract.Monad.{Fun, fact, fact_i}
use prog.Memory.{Memory}
use prog.Routine.{Routine}
use types.Logic.{Logic, sem}
use types.Kit.{‵, raw, ◌⊛◌, some, later, ◌$◌, ◌∵◌, !, qed, move, keep, drop, use0, use1, use2, split, split3, join, pick, fsplit, fsplit3, fjoin, fjoin3, feq_l, feq_i, flt_l, flt_i, rewrite, check, show, await, updating, now, done}
use denote.Array.{Array}
use denote.Builtin.{u8, usize}
use denote.Exit.{no, left}
use denote.Laws.{Typed}
use denote.Param.{param}
use denote.Param.Laws.{Laws, of_field}
use denote.Param.Shared.{copy_shared}
use denote.RattleType.{RattleType}
use denote.RawPtr.{Ptr, block_ptr, null_ptr, ◌+ₚ◌, lies_at, room_for, in_block, in_a_block}
use denote.RawPtr.Bytes.{bytes, bytes_apart, bytes_whole, bytes-room}
use denote.Steps.{only, nothing, heard}
use denote.Struct.Field.{u8-field}
use denote.Struct.Laws.{u8-laws, u8-copy}
use denote.Triple.Spec.{triple_of}
use denote.Triple.Statement.{Contract}
use Rattle.std.specs.Allocator.{block_with_items}
use Rattle.std_alloc.specs.Vec.Ownership.{lodged, owns_if, has_block}
use Rattle.std_alloc.specs.declared.vec.lodged.Lodged.{Lodged}
use Rattle.std_alloc.specs.contracts.vec.Vec as V
use Rattle.std_alloc.specs.contracts.vec.lodge as lodge
use Rattle.std_alloc.specs.contracts.vec.lodged.Lodged as L
use Rattle.std_alloc.specs.contracts.vec.lodged.LodgedAllocator.TheImpl.{ghosts}
use Rattle.std_alloc.specs.contracts.vec.lodged.Vec+T+Lodged.dislodge as dislodge
use Rattle.std_alloc.proofs.vec.Vec.TheLaws as vec_laws
use Rattle.std_alloc.proofs.vec.lodged.Lodged.TheLaws as lodged_laws
use Rattle.pm_region.specs.Memory.{room_lies}
use Rattle.pm_region.proofs.Spans.{joins}

abbrev pub byte_laws : Laws u8
byte_laws = of_field u8-field u8-laws refl (copy_shared u8-field u8-copy)

-- such a vector of bytes, as a type
abbrev pub Lodger : RattleType
Lodger = V.the_row u8 L.the_row ghosts

abbrev pub lodger_laws : Laws Lodger
lodger_laws = vec_laws.the_row_laws u8 L.the_row ghosts byte_laws lodged_laws.the_row_laws

-- a value that is of one machine type is one machine value
pub one_val : (τ : Ty) (us : List Val) → Typed (τ ∷ []) us → (u : Val) × (us ≡ u ∷ []) × (T (has_ty τ u) × WT u)
one_val τ [] t = absurd t
one_val τ (u ∷ []) t = (u, refl, t.0)
one_val τ (u ∷ v ∷ us) t = absurd t.1

pub is_block : (n : ℕ) → 0 < n → has_block n ≡ true
is_block n filled = not_from_false _ (ne_eqb n 0 (λ e. omega arith))

-- the room after the bytes of a vector of this length, up to its capacity
abbrev pub spare : Ptr → ℕ → ℕ → Fml
spare p len cap = room_for (ty_array (ty_int w8) (cap - len)) (p +ₚ len * 1)

none_is : (xs : List ℕ) → length xs ≡ 0 → [] ≡ xs
none_is [] e = refl
none_is (x ∷ xs) e = absurd (omega (arith, e))

module _ {M : Type 1} {𝓤 : Ura M} (𝓛 : Logic 𝓤) where
  -- what a vector of this length has in its block
  abbrev filled : Ptr → ℕ → ℕ → List ℕ → SProp 𝓤
  filled p len cap xs = sep 𝓤 (sem 𝓛 (lies_at (Array u8 len) full_share p xs)) (sem 𝓛 (spare p len cap))

  -- the bytes that are there are room as well
  pub emptied : (p : Ptr) (len cap : ℕ) (xs : List ℕ) → len ≤ cap → ent 𝓤 (filled p len cap xs) (sem 𝓛 (room_lies p cap))
  emptied null_ptr len cap xs within = via 𝓤 _ (fst∗ 𝓤 (never 𝓤) (never 𝓤)) (never_e 𝓤 _)
  emptied (block_ptr b o) len cap xs within =
      let at : o + len * 1 ≡ o + len = omega arith in let sum : len + (cap - len) ≡ cap = omega (arith, within) in
      qed 𝓛 (‵ (lies_at (Array u8 len) full_share (block_ptr b o) xs) ∷ ‵ (spare (block_ptr b o) len cap) ∷ []) ∵
      use1 𝓛 (‵ (fsep (feq ℕ (length xs) len) (bytes full_share xs b o))) (bytes_apart 𝓛 full_share len xs b o) $ fsplit ! $ feq_l ! (λ long.
      use1 𝓛 (‵ (room_lies (block_ptr b o) (length xs))) (bytes-room 𝓛 xs b o) $
      rewrite ! 0 (λ (k : ℕ). ‵ (room_lies (block_ptr b o) k)) long refl $
      rewrite ! 1 (λ (k : ℕ). ‵ (froom (ty_array (ty_int w8) (cap - len)) b k)) at refl $
      use2 𝓛 (‵ (room_lies (block_ptr b o) (len + (cap - len)))) (joins 𝓛 (block_ptr b o) len (cap - len)) $
      rewrite ! 0 (λ (k : ℕ). ‵ (room_lies (block_ptr b o) k)) sum refl $ done !)

  unwritten_at : (p : Ptr) (cap : ℕ) → ent 𝓤 (sem 𝓛 (room_lies p cap)) (filled p 0 cap [])
  unwritten_at null_ptr cap = never_e 𝓤 _
  unwritten_at (block_ptr b o) cap =
      let all : cap ≡ cap - 0 = omega arith in let at : o ≡ o + 0 * 1 = omega arith in
      qed 𝓛 (‵ (room_lies (block_ptr b o) cap) ∷ []) ∵
      rewrite ! 0 (λ (k : ℕ). ‵ (froom (ty_array (ty_int w8) k) b o)) all refl $ rewrite ! 0 (λ (k : ℕ). ‵ (froom (ty_array (ty_int w8) (cap - 0)) b k)) at refl $
      nothing ! $ feq_i ! ℕ 0 0 refl $ fjoin ! $
      use1 𝓛 (‵ (lies_at (Array u8 0) full_share (block_ptr b o) [])) (bytes_whole 𝓛 full_share 0 [] b o) $ done !

  -- and room is all that a vector has there that has no bytes
  pub unwritten : (p : Ptr) (len cap : ℕ) (xs : List ℕ) → len ≡ length xs → len ≡ 0 → ent 𝓤 (sem 𝓛 (room_lies p cap)) (filled p len cap xs)
  unwritten p len cap xs long empty =
      subst (λ (ys : List ℕ). ent 𝓤 (sem 𝓛 (room_lies p cap)) (filled p len cap ys)) (none_is xs (sym long ∙ empty))
      (subst (λ (k : ℕ). ent 𝓤 (sem 𝓛 (room_lies p cap)) (filled p k cap [])) (sym empty) (unwritten_at p cap))

  -- room in a block is what a vector of this capacity owns there that has no bytes
  pub settle : (b o n : ℕ) → 0 < n → n < 2 ^ 63 → ent 𝓤 (sem 𝓛 (room_lies (block_ptr b o) n)) (sem 𝓛 (lodged u8 (block_ptr b o) 0 n []))
  settle b o n wide small =
      let Block = block_with_items (λ _ _. ftrue) u8 (block_ptr b o) 0 n [] in
      qed 𝓛 (‵ (room_lies (block_ptr b o) n) ∷ []) ∵
      use1 𝓛 (‵ (lies_at (Array u8 0) full_share (block_ptr b o) []) ⊛ ‵ (spare (block_ptr b o) 0 n)) (unwritten_at (block_ptr b o) n) $ split ! $
      nothing ! $ move ! (1 ∷ 2 ∷ 0 ∷ []) $ fjoin3 ! $
      rewrite ! 0 (λ y. ‵ (owns_if y Block)) (sym (is_block n wide)) refl $ flt_i ! (n * 1) (2 ^ 63) (omega arith) $ fjoin ! $ done !

  -- and the other way round, whatever bytes it has by then
  pub leave : (d : Vec ℕ Lodged) → 0 < d.cap → ent 𝓤 (sem 𝓛 (lodged u8 d.ptr d.len d.cap d.items)) (sem 𝓛 (room_lies d.ptr d.cap))
  leave d wide =
      let Block = λ (p : Ptr). block_with_items (λ _ _. ftrue) u8 p d.len d.cap d.items in
      qed 𝓛 (‵ (lodged u8 d.ptr d.len d.cap d.items) ∷ []) ∵ fsplit ! $ drop ! $
      in_a_block ! d.ptr (λ p. in_block p (owns_if (has_block d.cap) (Block p))) (id⊢ 𝓤 (never 𝓤)) (λ b o at.
      rewrite ! 0 (λ y. ‵ (owns_if y (Block (block_ptr b o)))) (is_block d.cap wide) refl $
      rewrite ! 0 (λ p. ‵ (Block p)) (sym at) refl $ fsplit3 ! $ keep ! (0 ∷ 1 ∷ []) $
      use2 𝓛 (‵ (room_lies d.ptr d.cap)) (emptied d.ptr d.len d.cap d.items d.ok.1) $ done !)

  module _ (at_mem : Memory → SProp 𝓤) (run : Routine → Fun 𝓤) where
    abbrev pub Lodges : Contract 𝓤
    Lodges = triple_of 𝓛 (lodge.signature u8) (lodge.spec u8 𝓛 at_mem run)

    abbrev pub Dislodges : Contract 𝓤
    Dislodges = triple_of 𝓛 (dislodge.signature u8) (dislodge.spec u8 𝓛 at_mem run)

    module _ (b o n : ℕ) where
      -- what a caller picks of the contract of `lodge`
      abbrev pub at_lodge : Lodges.Ghost
      at_lodge = ((([], tt), (full_share, tt), tt, (block_ptr b o, (0, (n, tt))), (vptr b o ∷ [], (vint w64 0 ∷ [], (vint w64 n ∷ [], tt)))), [])

      -- the vector lies over this room
      abbrev pub LiesOver : Vec ℕ Lodged → Type 0
      LiesOver v = (v.items ≡ []) × (v.len ≡ 0) × (v.cap ≡ n) × (v.ptr ≡ block_ptr b o)

      pub lodge_pre : 0 < n → n < 2 ^ 63 → ent 𝓤 (sem 𝓛 (room_lies (block_ptr b o) n)) (Lodges.pre at_lodge)
      lodge_pre wide small =
          let none : List ℕ = [] in let Fit : Type 0 = (0 ≡ length none) × (0 ≤ n) × (n < 2 ^ 63) in
          qed 𝓛 (‵ (room_lies (block_ptr b o) n) ∷ []) ∵ use1 𝓛 (‵ (lodged u8 (block_ptr b o) 0 n [])) (settle b o n wide small) $
          -- the two facts that it requires
          use0 𝓛 (raw (fact 𝓤 Fit)) (fact_i 𝓤 Fit (emp 𝓤) (refl, omega arith, small)) $ join ! $
          use0 𝓛 (raw (fact 𝓤 ([] ⊑ []))) (fact_i 𝓤 ([] ⊑ []) (emp 𝓤) (⊑_refl [])) $ join ! $
          -- the room, the length and the origin
          nothing ! $ flt_i ! n (2 ^ 64) (omega arith) $ feq_i ! (List Val) (vint w64 n ∷ []) (vint w64 n ∷ []) refl $ fjoin ! $ fjoin ! $
          flt_i ! 0 (2 ^ 64) (omega arith) $ feq_i ! (List Val) (vint w64 0 ∷ []) (vint w64 0 ∷ []) refl $ fjoin ! $ fjoin ! $
          feq_i ! (List Val) (vptr b o ∷ []) (vptr b o ∷ []) refl $ fjoin ! $
          -- the token of a lifetime that lasts
          nothing ! $ use0 𝓛 (‵ (flft [] full_share)) (𝓛.lfts.lft-nil full_share) $ join ! $ join ! $ done !

      pub lodge_post : (u : Val) → ent 𝓤 (Lodges.post at_lodge u) (𝓛.H.⇛ (ex 𝓤 (λ (v : Vec ℕ Lodged). guard 𝓤 (LiesOver v) (sem 𝓛 (Lodger.own_val v (u ∷ []))))))
      lodge_post u =
          qed 𝓛 (raw (Lodges.post at_lodge u) ∷ []) ∵ updating ! $
          use1 𝓛 (later (some (λ (v : Vec ℕ Lodged). ((‵ (flft [] full_share) ⊛ ‵ ftrue) ⊛ ‵ (Lodger.own_val v (u ∷ [])))
          ⊛ some (λ (ws : Unit {0} × (Unit {0} × (Unit {0} × Unit {0}))). ‵ (fsep ftrue (fsep ftrue (fsep ftrue ftrue))) ⊛ raw (fact 𝓤 (LiesOver v)))))) (id⊢ 𝓤 _) $
          await ! tt $ pick ! (λ v. split ! $ move ! (1 ∷ []) $ pick ! (λ ws. split ! $ drop ! $ heard ! (LiesOver v) (λ is. split ! $ drop ! $ now ! $
          show ! (λ (z : Vec ℕ Lodged). guard 𝓤 (LiesOver z) (sem 𝓛 (Lodger.own_val z (u ∷ [])))) v $ check ! is $ done !)))

    module _ (d : Vec ℕ Lodged) (u : Val) where
      -- what a caller picks of the contract of `dislodge`
      abbrev pub at_dislodge : Dislodges.Ghost
      at_dislodge = ((([], tt), (full_share, tt), tt, (d, tt), (u ∷ [], tt)), tt)

      pub dislodge_pre : ent 𝓤 (sem 𝓛 (Lodger.own_val d (u ∷ []))) (Dislodges.pre at_dislodge)
      dislodge_pre =
          qed 𝓛 (‵ (Lodger.own_val d (u ∷ [])) ∷ []) ∵
          nothing ! $ use0 𝓛 (raw (fact 𝓤 ([] ⊑ []))) (fact_i 𝓤 ([] ⊑ []) (emp 𝓤) (⊑_refl [])) $ join ! $
          nothing ! $ move ! (2 ∷ 0 ∷ []) $ fjoin ! $
          nothing ! $ use0 𝓛 (‵ (flft [] full_share)) (𝓛.lfts.lft-nil full_share) $ join ! $ join ! $ done !

      -- the length comes back, and the room
      abbrev pub IsLen : Val → Type 0
      IsLen n = (n ≡ vint w64 d.len) × (d.len < 2 ^ 64)

      pub dislodge_post : 0 < d.cap → (n : Val) → ent 𝓤 (Dislodges.post at_dislodge n) (𝓛.H.⇛ (guard 𝓤 (IsLen n) (sem 𝓛 (room_lies d.ptr d.cap))))
      dislodge_post wide n =
          qed 𝓛 (raw (Dislodges.post at_dislodge n) ∷ []) ∵ updating ! $
          use1 𝓛 (later (some (λ (k : ℕ). ((‵ (flft [] full_share) ⊛ ‵ ftrue) ⊛ ‵ (usize.own_val k (n ∷ [])))
          ⊛ some (λ (ws : Unit {0} × Unit {0}). ‵ (fsep (left ((V.the_row (param 0 u8) L.the_row ghosts).exit no) d ws.0) ftrue) ⊛ raw (fact 𝓤 (k ≡ d.len)) ⊛ ‵ (lodged u8 d.ptr d.len d.cap d.items))))) (id⊢ 𝓤 _) $
          await ! tt $ pick ! (λ k. split ! $ move ! (1 ∷ []) $ pick ! (λ ws. split3 ! $ drop ! $ heard ! (k ≡ d.len) (λ is.
          use1 𝓛 (‵ (room_lies d.ptr d.cap)) (leave d wide) $ move ! (1 ∷ []) $ split ! $ drop ! $ fsplit ! $ feq_l ! (λ e. flt_l ! (λ fits.
          now ! $ check ! (ap only e ∙ ap (vint w64) is, omega arith) $ done !)))))
