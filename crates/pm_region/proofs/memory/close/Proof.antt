-- `close` makes the vector whole, which the machine doesn't see. Assumes `Logic`.
use Rattle.std.proofs.Common.{◌≡◌, [], ◌∷◌, ◌++◌, refl, sym, ◌∙◌, subst}
use base.Fml.{ftrue}
use contract.Monad.{fact}
use contract.Running.{tables}
use denote.Exit.{yes}
use denote.Laws.{Typed}
use denote.Param.{layout}
use denote.Signature.{plain}
use denote.Steps.{nothing, heard}
use denote.Triple.Walked.{Stays, walk_of, says, stay_dropped, ends_at}
use mir.Val.{Val}
use prog.Wp.{WpFn}
use types.ByLocal.{alloc_all, pass_all, free_all, look_at, get, get_in, sets}
use types.Kit.{‵, raw, ◌⊛◌, some, given, prop, ◌$◌, ◌∵◌, !, qed, move, keep, drop, use1, use2, split, split3, join, pick, learn, fsplit, fpick, regoal, rewrite, suffices, done}
use types.Part.{sub, whole}
use types.Run.{enter, of_opd, fld, stop, returns}
use Rattle.std.proofs.alloc.Calls.{Goes-blank}
use Rattle.std.proofs.raw_atomic.Walks.{proved_at}
use Rattle.pm_region.specs.Memory.{room_lies}
use Rattle.pm_region.proofs.Shells.{Full, Fine, wrapped, field_had, filled_up}
use Rattle.pm_region.proofs.Spans.{span_vals, span_tells, span_had}
use Rattle.pm_region.specs.contracts.memory.Shell as Shell
use Rattle.pm_region.specs.contracts.memory.Shell.TheInside as fields
use Rattle.pm_region.specs.contracts.memory.Span as Span
use Rattle.pm_region.specs.contracts.memory.close as f
use Rattle.pm_region.proofs.memory.close.Statement.{statement}
use Rattle.pm_region.proofs.memory.close.Code as code

abbrev stayed : Stays f.ended.signature.params f.ended.kept
stayed = (stay_dropped _ yes, (stay_dropped _ yes, tt))

pub close_spec : {M : Type 1} → statement M
close_spec 𝓤 𝓛 𝓜 𝓡 wired =
    let c = f.clauses 𝓛 𝓜.mem 𝓡.returns in let W = walk_of 𝓛 f.ended stayed c in let 𝓣 = tables 𝓤 𝓛.H 𝓜 𝓡 𝓡.env in
    proved_at 𝓛 f.ended stayed c 𝓜 𝓡
    (Goes-blank 𝓛 0 (plain (λ _. Span.the_row)) yes (λ κs x w. tt), (Goes-blank 𝓛 0 (plain (λ _. Shell.the_row)) yes (λ κs x w. tt), tt))
    f.Key.name code.function (code.unfolded 𝓤 𝓛.H 𝓜 𝓡 wired) (λ z are.
    let s = z.0.3.0 in let h = z.0.3.1.0 in let us = z.0.4.1.0 in
    let Fits = (s.origin ≡ h.origin) × (s.len ≡ h.len) in
    let no_val = span_tells s z.0.4.0 are.0 in
    qed 𝓛 ((‵ ftrue ⊛ ‵ ((Span.the_row).own_val s z.0.4.0) ⊛ ‵ ((Shell.the_row).own_val h us) ⊛ ‵ ftrue) ∷ raw (fact 𝓤 Fits) ∷ []) ∵
    move ! (1 ∷ []) $ heard ! Fits (λ fits. split ! $ move ! (1 ∷ []) $ split3 ! $ keep ! (1 ∷ 0 ∷ []) $
    -- [what the shell owns; what the span owns]
    fsplit ! $ fpick ! (λ typed. drop ! $ move ! (1 ∷ []) $
    rewrite ! 0 (λ ss. ‵ ((Span.the_row).own_val s ss)) no_val refl $ use1 𝓛 (‵ (room_lies s.origin s.len)) (span_had 𝓛 s) $
    rewrite ! 0 (λ p. ‵ (room_lies p s.len)) fits.0 refl $ rewrite ! 0 (λ n. ‵ (room_lies h.origin n)) fits.1 refl $
    use2 𝓛 (some (λ (v : Full.Denot). given (v.cap ≡ h.len) (‵ ((fields.the_row).own_val (record { vec = v }) us)))) (filled_up 𝓛 h us) $
    pick ! (λ v. learn ! (λ back.
    use1 𝓛 (some (λ (u : Val). given ((us ≡ wrapped u ∷ []) × Fine u) (‵ (Full.own_val v (u ∷ []))))) (field_had 𝓛 v us) $ pick ! (λ u. learn ! (λ is.
    regoal ! (λ vs. prop (WpFn 𝓤 𝓛.H 𝓣.C 𝓣.Λ code.function (vs ++ (us ++ [])) (W.post z))) no_val refl $
    regoal ! (λ vs. prop (WpFn 𝓤 𝓛.H 𝓣.C 𝓣.Λ code.function (span_vals s ++ (vs ++ [])) (W.post z))) is.0 refl $
    enter ! _ _ _ _ _ $ alloc_all ! (λ l. pass_all ! refl ((tt, tt), ((subst (Typed (Shell.the_row).mir) is.0 typed).0, tt)) $
    sets ! (of_opd ! (get_in ! (fld ! {τ = layout Full} {d = 0} refl (stop !)) (sub ! 0 {τ = layout Full} refl (whole !)))) refl is.1 $ sets ! (of_opd ! (get ! refl)) refl is.1 $
    returns ! (look_at ! 0 refl) $ free_all ! refl $
    suffices ! _ (ends_at 𝓛 f.ended stayed c z u v (tt, (tt, tt)) (tt, (tt, tt))) $ says ! (back ∙ sym fits.1) $
    nothing ! $ nothing ! $ join ! $ nothing ! $ join ! $ nothing ! $ done !))))))))
