-- `over` hands the room to `lodge`. Assumes `Logic`.
use Rattle.std.proofs.Common.{◌≡◌, ℕ, ◌^◌, ◌<◌, [], ◌∷◌, ◌++◌, refl, w64, Vec}
use base.Fml.{ftrue}
use base.Logic.{id⊢}
use contract.Monad.{fact}
use contract.Running.{tables}
use denote.Builtin.{u8, usize}
use denote.Exit.{yes}
use denote.Plain.{uint_vals, uint_Tells}
use denote.RawPtr.{Ptr, RawPtr, block_ptr, rawptr_vals, rawptr_Tells, in_a_block}
use denote.Signature.{plain}
use denote.Laws.{shows}
use denote.Steps.{nothing, heard, peeks}
use denote.Triple.Call.{calls_at_last}
use denote.Triple.Table.{framed}
use denote.Triple.Walked.{Stays, walk_of, says, stay_dropped, ends_at}
use prog.Wp.{WpFn}
use types.ByLocal.{alloc_all, pass_all, free_all, look_at, get, sets, lands_last, env}
use types.Kit.{‵, raw, ◌⊛◌, some, given, later, prop, at_ret, ◌$◌, ◌∵◌, !, qed, move, keep, use1, split, join, pick, learn, await, regoal, rewrite, suffices, done}
use types.Run.{enter, of_opd, lit, and_then, no_more, first, blocks, exec, returns}
use Rattle.std.proofs.alloc.Calls.{Goes-blank}
use Rattle.std.proofs.raw_atomic.Walks.{proved}
use Rattle.std_alloc.specs.declared.vec.lodged.Lodged.{Lodged}
use Rattle.std_alloc.proofs.vec.lodge.Met as callee
use Rattle.pm_region.specs.Memory.{room_lies}
use Rattle.pm_region.proofs.Lodging.{byte_laws, Lodger, lodger_laws, Lodges, at_lodge, LiesOver, lodge_pre, lodge_post}
use Rattle.pm_region.proofs.Spans.{span_vals, span_tells, span_had}
use Rattle.pm_region.specs.contracts.memory.Span as Span
use Rattle.pm_region.specs.contracts.memory.over as f
use Rattle.pm_region.proofs.memory.over.Statement.{statement}
use Rattle.pm_region.proofs.memory.over.Code as code

abbrev stayed : Stays f.ended.signature.params f.ended.kept
stayed = (stay_dropped _ yes, (stay_dropped _ yes, (stay_dropped _ yes, tt)))

pub over_spec : {M : Type 1} → statement M
over_spec 𝓤 𝓛 𝓜 𝓡 wired =
    let c = f.clauses 𝓛 𝓜.mem 𝓡.returns in let W = walk_of 𝓛 f.ended stayed c in let 𝓣 = tables 𝓤 𝓛.H 𝓜 𝓡 𝓡.env in
    let Callee = Lodges 𝓛 𝓜.mem 𝓡.returns in
    let met = callee.met 𝓤 𝓛 𝓜 𝓡 (code.calls-std_alloc::vec::lodge 𝓡.env wired) u8 byte_laws in
    proved 𝓛 f.ended stayed c 𝓜 𝓡
    (Goes-blank 𝓛 0 (plain (λ _. RawPtr)) yes (λ κs x w. tt), (Goes-blank 𝓛 0 (plain (λ _. usize)) yes (λ κs x w. tt), (Goes-blank 𝓛 0 (plain (λ _. Span.the_row)) yes (λ κs x w. tt), tt)))
    f.Key.name code.function (code.unfolded 𝓤 𝓛.H 𝓜 𝓡 wired)
    (λ κs. (rawptr_vals, (uint_vals w64, (span_vals, tt)))) (λ κs. (rawptr_Tells, (uint_Tells w64, (span_tells, tt)))) (λ κs qs bounds a _ are.
    let n = a.1.0 in let s = a.1.1.0 in
    let y : Ptr → W.Ghost = λ p. ((κs, qs, bounds, (p, (n, (s, tt))), (rawptr_vals p, (uint_vals w64 n, (span_vals s, tt)))), tt) in
    let Fits = λ (p : Ptr). (s.origin ≡ p) × (s.len ≡ n) × (0 < n) × (n < 2 ^ 63) in
    qed 𝓛 ((‵ ftrue ⊛ ‵ (RawPtr.own_val a.0 (rawptr_vals a.0)) ⊛ ‵ (usize.own_val n (uint_vals w64 n)) ⊛ ‵ ((Span.the_row).own_val s (span_vals s)) ⊛ ‵ ftrue) ∷ raw (fact 𝓤 (Fits a.0)) ∷ []) ∵
    move ! (1 ∷ []) $ heard ! (Fits a.0) (λ fits. split ! $ move ! (1 ∷ []) $ split ! $ move ! (1 ∷ []) $ split ! $ move ! (1 ∷ []) $ split ! $ keep ! (0 ∷ []) $
    use1 𝓛 (‵ (room_lies s.origin s.len)) (span_had 𝓛 s) $ rewrite ! 0 (λ p. ‵ (room_lies p s.len)) fits.0 refl $ rewrite ! 0 (λ k. ‵ (room_lies a.0 k)) fits.1 refl $
    in_a_block ! a.0 (λ p. room_lies p n) (id⊢ 𝓤 _) (λ b o at.
    regoal ! (λ p. prop (WpFn 𝓤 𝓛.H 𝓣.C 𝓣.Λ code.function (rawptr_vals p ++ (uint_vals w64 n ++ (span_vals s ++ []))) (W.post (y p)))) at refl $
    use1 𝓛 (raw (Callee.pre (at_lodge 𝓛 𝓜.mem 𝓡.returns b o n))) (lodge_pre 𝓛 𝓜.mem 𝓡.returns b o n fits.2 fits.3) $
    enter ! _ _ _ _ _ $ alloc_all ! (λ l. pass_all ! refl ((tt, tt), ((tt, record { fits = are.1.0.1 }), ((tt, tt), tt))) $
    first ! $ blocks ! $ calls_at_last ! (framed 𝓤 𝓛.H 𝓜 𝓣) Callee met (at_lodge 𝓛 𝓜.mem 𝓡.returns b o n)
    (and_then ! (get ! refl) (and_then ! (lit ! tt) (and_then ! (get ! refl) (no_more !)))) (λ u.
    use1 𝓛 (later (some (λ (v : Vec ℕ Lodged). given (LiesOver 𝓛 𝓜.mem 𝓡.returns b o n v) (‵ (Lodger.own_val v (u ∷ [])))))) (lodge_post 𝓛 𝓜.mem 𝓡.returns b o n u) $
    await ! tt $ pick ! (λ v. learn ! (λ is. peeks ! Lodger _ (shows 𝓛 Lodger) v (u ∷ []) (λ told.
    let fine = ((lodger_laws.lawful 𝓛).typed v (u ∷ []) told).0 in
    lands_last ! refl fine $
    exec ! 𝓣.C 𝓣.Λ (env code.Mir.locals l) code.Mir.t-2 (at_ret _ (W.post (y (block_ptr b o)))) $
    sets ! (of_opd ! (get ! refl)) refl fine $ returns ! (look_at ! 0 refl) $ free_all ! refl $
    suffices ! _ (ends_at 𝓛 f.ended stayed c (y (block_ptr b o)) u v (tt, (tt, (tt, tt))) (tt, (tt, (tt, tt)))) $ says ! (is.3, is.2, is.1) $
    nothing ! $ nothing ! $ join ! $ nothing ! $ join ! $ nothing ! $ join ! $ nothing ! $ done !))))))))
