-- The parts own what `from_raw` asks for.
use Rattle.std.proofs.Common.{◌≡◌, List, [], ◌∷◌, ◌++◌, T, refl, ap, sym, subst}
use Rattle.std.proofs.raw_atomic.Walks.{proved_at}
use Rattle.std.proofs.alloc.Calls.{Goes-blank}
use Rattle.std.proofs.BoxSteps.Form.{Bx, D, R, P, B, args, box_ty, word, box_typed}
use Rattle.std.proofs.BoxSteps.Steps.{box_out, box_in}
use Rattle.std.proofs.VecSteps.Shapes.{after}
use base.Fml.{ftrue, fsep, flft}
use base.Logic.{SProp, ent, id⊢}
use contract.BorrowLft.{◌⊑◌}
use contract.Monad.{fact}
use contract.Running.{tables}
use mir.MapTy.{inst_fn}
use mir.Val.{Val, vptr, has_ty, WT}
use prog.Wp.{WpFn}
use types.Kit.{‵, raw, ◌⊛◌, some, later, at_ret, ◌$◌, ◌∵◌, !, qed, drop, use1, join, split, split3, pick, move}
use types.Kit.{rewrite, fsplit, fjoin, feq_i, suffices, await, done}
use types.Run.{stop, fld, no_more, and_then, of_opd, returns, enter, first, blocks, exec}
use types.Part.{sub, whole}
use types.ByLocal.{alloc_all, pass_all, free_all, look_at, get, get_in, sets, lands_last, env}
use denote.Exit.{no}
use denote.RawPtr.{block_ptr}
use denote.Signature.{plain}
use denote.Steps.{heard, nothing, only}
use denote.Triple.Call.{calls_at_last}
use denote.Triple.Clauses.{Lasts, lasts}
use denote.Triple.Spec.{triple_of}
use denote.Triple.Table.{framed}
use denote.Triple.Walked.{says, Stays, stay_dropped, walk_of, ends_at}
use Rattle.std.specs.contracts.boxed.Box.from_raw as g
use Rattle.std.proofs.boxed.Box.from_raw.Met.{met}
use Rattle.fle_c.specs.contracts.parts.Parts as Parts
use Rattle.fle_c.specs.contracts.parts.Parts.into_box as f
use Rattle.fle_c.proofs.parts.Parts.into_box.Statement.{statement}
use Rattle.fle_c.proofs.parts.Parts.into_box.Code as code

pub into_box_spec : {M : Type 1} → statement M
into_box_spec 𝓤 𝓛 𝓜 𝓡 wired X A L LA ghosts d dd allocator frees =
    let E : Bx = record { row = X; laws = L; al = record { row = A; laws = LA; g = ghosts; d = d; drops = dd } } in
    let 𝓣 = tables 𝓤 𝓛.H 𝓜 𝓡 𝓡.env in let fn = inst_fn (args E) code.function in
    let ended = f.ended X A ghosts d dd in let c = f.clauses X A ghosts d dd 𝓛 𝓜.mem 𝓡.returns in
    let slot = plain (λ _. Parts.the_row (R E) (P E) ghosts) in
    let left : Stays ended.signature.params ended.kept = (stay_dropped slot no, tt) in
    let G = triple_of 𝓛 (g.signature X A ghosts d dd) (g.spec X A ghosts d dd 𝓛 𝓜.mem 𝓡.returns) in
    proved_at 𝓛 ended left c 𝓜 𝓡 (Goes-blank 𝓛 2 slot no (λ κs x w. tt), tt)
    (f.Key.name (args E)) fn (code.unfolded 𝓤 𝓛.H 𝓜 𝓡 wired (X, (A, tt)) d dd) (λ y are.
    let κs = y.0.0 in let qs = y.0.1 in let parts = y.0.3.0 in
    let x : D E = record { ptr = parts.at; alloc = parts.alloc; value = parts.value } in
    let End : Val → SProp 𝓤 = (walk_of 𝓛 ended left c).post y in
    let Runs : List Val → SProp 𝓤 = λ vs. WpFn 𝓤 𝓛.H 𝓣.C 𝓣.Λ fn vs End in
    let alive = ‵ (flft κs.0 qs.0) ⊛ ‵ (flft κs.1.0 qs.1.0) ⊛ ‵ ftrue in
    let in_x = raw (fact 𝓤 (κs.0 ⊑ X.lives)) in let in_a = raw (fact 𝓤 (κs.1.0 ⊑ A.lives)) in
    qed 𝓛 ((alive ⊛ ‵ (fsep ((B E).own_val x y.0.4.0) ftrue)) ∷ (in_x ⊛ in_a ⊛ ‵ ftrue) ∷ []) ∵
    split ! $ move ! (1 ∷ []) $ fsplit ! $ box_out E ! x y.0.4.0 (λ b o h e vs fits. fjoin ! $
    -- [what a box owns; the handle; nothing; the tokens; what outlives them]
    let v = word E h b o in let typed = box_typed E h b o fits in
    let z : G.Ghost = ((κs, qs, tt, (parts.alloc, (block_ptr b o, tt)), (h ∷ [], (vptr b o ∷ [], tt))), parts.value) in
    move ! (4 ∷ []) $ split3 ! $ move ! (2 ∷ []) $ drop ! $ move ! (1 ∷ 2 ∷ []) $ join ! $ move ! (1 ∷ 0 ∷ []) $
    join ! $
    move ! (2 ∷ []) $ feq_i ! (List Val) (vptr b o ∷ []) (vptr b o ∷ []) refl $ fjoin ! $ move ! (2 ∷ 0 ∷ []) $
    fjoin ! $
    move ! (2 ∷ 0 ∷ []) $ join ! $ join ! $ use1 𝓛 (raw (G.pre z)) (id⊢ 𝓤 _) $
    suffices ! (Runs (v ∷ [])) (subst (λ (us : List Val). ent 𝓤 (Runs (v ∷ [])) (Runs (us ++ []))) (sym vs) (id⊢ 𝓤
    (Runs (v ∷ [])))) $
    enter ! _ _ _ _ _ $ alloc_all ! (λ l. pass_all ! refl (typed, tt) $
    sets ! (of_opd ! (get_in ! (fld ! refl (stop !)) (sub ! 0 refl (whole !)))) refl (tt, tt) $
    sets ! (of_opd ! (get_in ! (fld ! refl (stop !)) (sub ! 1 refl (whole !)))) refl fits $
    first ! $ blocks ! $ sets ! (of_opd ! (get ! refl)) refl fits $
    calls_at_last ! (framed 𝓤 𝓛.H 𝓜 𝓣) G (met 𝓤 𝓛 𝓜 𝓡 (code.calls-std::boxed::Box::from_raw 𝓡.env wired) X A L LA
    ghosts d dd allocator frees) z
    (and_then ! (get ! refl) (and_then ! (get ! refl) (no_more !))) (λ u.
    use1 𝓛 (later (some (λ (r : D E). (alive ⊛ ‵ ((B E).own_val r (u ∷ []))) ⊛
    some (λ (ws : Lasts (g.ended X A ghosts d dd) κs z.0.3). ‵ (lasts (g.ended X A ghosts d dd) κs z.0.3 ws) ⊛
    (raw (fact 𝓤 (r.value ≡ parts.value)) ⊛ raw (fact 𝓤 (r.alloc ≡ parts.alloc))))))) (id⊢ 𝓤 _) $
    await ! tt $ pick ! (λ r. split ! $ move ! (1 ∷ []) $ pick ! (λ ws. split3 ! $ drop ! $
    heard ! (r.value ≡ parts.value) (λ same. drop ! $
    split ! $ move ! (1 ∷ []) $ box_out E ! r (u ∷ []) (λ b' o' h' e' us fits'. box_in E ! r b' o' r.value e' refl $
    rewrite ! 0 (λ (ws : List Val). ‵ ((B E).own_val r ws)) (sym us) refl $
    let back : T (has_ty (box_ty E) u) × WT u = subst (λ (w : Val). T (has_ty (box_ty E) w) × WT w) (sym (ap only
    us)) (box_typed E h' b' o' fits') in
    lands_last ! refl back $ exec ! 𝓣.C 𝓣.Λ (env fn.locals l) (after 3 fn.body) (at_ret _ End) $
    sets ! (of_opd ! (get ! refl)) refl back $ returns ! (look_at ! 0 refl) $ free_all ! refl $
    suffices ! _ (ends_at 𝓛 ended left c y u r ((tt, (tt, tt)), tt) (tt, tt)) $ says ! same $
    nothing ! $ nothing ! $ fjoin ! $ join ! $ move ! (1 ∷ 0 ∷ []) $ join ! $ done !))))))))
