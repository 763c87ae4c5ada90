-- What `into_raw_with_allocator` gives is what the parts own.
use Rattle.std.proofs.Common.{◌≡◌, List, [], ◌∷◌, ◌++◌, refl, ap, ◌∙◌, sym, subst}
use Rattle.std.proofs.raw_atomic.Walks.{proved_at}
use Rattle.std.proofs.alloc.Calls.{token, handle_tells, Goes-blank}
use Rattle.std.proofs.BoxSteps.Form.{Bx, D, τ, R, P, B, word, box_typed}
use Rattle.std.proofs.BoxSteps.Steps.{box_out, box_in}
use Rattle.std.specs.Box.Ownership.{box_owns}
use base.Fml.{ftrue, fsep, flft}
use base.Logic.{SProp, ent, never, fst∗, id⊢}
use contract.BorrowLft.{◌⊑◌}
use contract.Monad.{fact}
use contract.Running.{tables}
use mir.MapTy.{inst_fn}
use mir.Raw.{raw as bare}
use mir.Syntax.{a_type, dcons, dnil}
use mir.Val.{Val, vstruct, of_list}
use prog.Wp.{WpFn}
use types.Logic.{sem}
use types.Kit.{‵, raw, ◌⊛◌, some, later, ◌$◌, ◌∵◌, !, qed, drop, use1, join, split, split3, pick, move, rewrite}
use types.Kit.{fsplit, fjoin, fpick, feq_l, suffices, await, done}
use types.Run.{stop, fld, no_more, and_then, of_opd, returns, enter}
use types.Part.{agg, sub, whole}
use types.ByLocal.{alloc_all, pass_all, free_all, look_at, get, get_in, sets, lands_as}
use denote.Exit.{no}
use denote.Param.{bounded}
use denote.RawPtr.{Ptr, RawPtr, block_ptr, null_ptr, ptr_val, in_a_block}
use denote.Signature.{plain}
use denote.Steps.{heard, nothing, only}
use denote.Struct.Tuple.{Tuple}
use denote.Triple.Call.{calls_at}
use denote.Triple.Clauses.{Lasts, lasts}
use denote.Triple.Spec.{triple_of}
use denote.Triple.Table.{framed}
use denote.Triple.Walked.{says, Stays, stay_dropped, walk_of, ends_at}
use Rattle.std.specs.contracts.boxed.Box.into_raw_with_allocator as g
use Rattle.std.proofs.boxed.Box.into_raw_with_allocator.Met.{met}
use Rattle.fle_c.specs.contracts.parts.Parts as Parts
use Rattle.fle_c.specs.contracts.parts.Parts.of as f
use Rattle.fle_c.proofs.parts.Parts.of.Statement.{statement}
use Rattle.fle_c.proofs.parts.Parts.of.Code as code

pub of_spec : {M : Type 1} → statement M
of_spec 𝓤 𝓛 𝓜 𝓡 wired X A L LA ghosts d dd dx allocator frees glue =
    let E : Bx = record { row = X; laws = L; al = record { row = A; laws = LA; g = ghosts; d = d; drops = dd } } in
    let at = bounded (a_type ∷ a_type ∷ []) (X, (A, tt)) (dcons d (dcons dd (dcons dx dnil))) in
    let 𝓣 = tables 𝓤 𝓛.H 𝓜 𝓡 𝓡.env in let fn = inst_fn at code.function in
    let ended = f.ended X A ghosts d dd dx in let c = f.clauses X A ghosts d dd dx 𝓛 𝓜.mem 𝓡.returns in
    let slot = plain (λ _. B E) in let left : Stays ended.signature.params ended.kept = (stay_dropped slot no, tt) in
    let G = triple_of 𝓛 (g.signature X A ghosts d dd dx) (g.spec X A ghosts d dd dx 𝓛 𝓜.mem 𝓡.returns) in
    let To = Parts.the_row (R E) (P E) ghosts in let Pair = Tuple (RawPtr ∷ P E ∷ []) in
    proved_at 𝓛 ended left c 𝓜 𝓡 (Goes-blank 𝓛 2 slot no (λ κs x w. tt), tt)
    (f.Key.name at) fn (code.unfolded 𝓤 𝓛.H 𝓜 𝓡 wired (X, (A, tt)) d dd dx) (λ y are.
    let κs = y.0.0 in let qs = y.0.1 in let x = y.0.3.0 in
    let End : Val → SProp 𝓤 = (walk_of 𝓛 ended left c).post y in
    let Runs : List Val → SProp 𝓤 = λ vs. WpFn 𝓤 𝓛.H 𝓣.C 𝓣.Λ fn vs End in
    let alive = ‵ (flft κs.0 qs.0) ⊛ ‵ (flft κs.1.0 qs.1.0) ⊛ ‵ ftrue in
    let in_x = raw (fact 𝓤 (κs.0 ⊑ X.lives)) in let in_a = raw (fact 𝓤 (κs.1.0 ⊑ A.lives)) in
    qed 𝓛 ((alive ⊛ ‵ (fsep ((B E).own_val x y.0.4.0) ftrue)) ∷ (in_x ⊛ in_a ⊛ ‵ ftrue) ∷ []) ∵
    split ! $ move ! (1 ∷ []) $ fsplit ! $ box_out E ! x y.0.4.0 (λ b o h e vs fits. box_in E ! x b o x.value e refl $
    let v = word E h b o in let z : G.Ghost = ((κs, qs, tt, (x, tt), (v ∷ [], tt)), tt) in
    fjoin ! $ move ! (1 ∷ 0 ∷ []) $ join ! $ join ! $ use1 𝓛 (raw (G.pre z)) (id⊢ 𝓤 _) $
    suffices ! (Runs (v ∷ [])) (subst (λ (us : List Val). ent 𝓤 (Runs (v ∷ [])) (Runs (us ++ []))) (sym vs) (id⊢ 𝓤
    (Runs (v ∷ [])))) $
    enter ! _ _ _ _ _ $ alloc_all ! (λ l. pass_all ! refl (box_typed E h b o fits, tt) $
    sets ! (of_opd ! (get ! refl)) refl (box_typed E h b o fits) $
    calls_at ! (framed 𝓤 𝓛.H 𝓜 𝓣) G (met 𝓤 𝓛 𝓜 𝓡 (code.calls-std::boxed::Box::into_raw_with_allocator 𝓡.env wired) X
    A L LA ghosts d dd dx allocator frees glue) z
    (and_then ! (get ! refl) (no_more !)) (λ u.
    use1 𝓛 (later (some (λ (r : Ptr × A.Denot). (alive ⊛ ‵ (Pair.own_val r (u ∷ []))) ⊛
    some (λ (ws : Lasts (g.ended X A ghosts d dd dx) κs z.0.3). ‵ (lasts (g.ended X A ghosts d dd dx) κs z.0.3 ws) ⊛
    (raw (fact 𝓤 (r.1 ≡ x.alloc)) ⊛ ‵ (box_owns (token E.al x.alloc) (R E) r.0 x.value)))))) (id⊢ 𝓤 _) $
    await ! tt $ pick ! (λ r. split ! $ move ! (1 ∷ []) $ pick ! (λ ws. split3 ! $ drop ! $
    heard ! (r.1 ≡ x.alloc) (λ same.
    in_a_block ! r.0 (λ p. box_owns (token E.al x.alloc) (R E) p x.value) (fst∗ 𝓤 (never 𝓤) (sem 𝓛 (token E.al
    x.alloc (bare (τ E)) null_ptr))) (λ b' o' e'.
    -- [what a box owns; the tokens with the pair]
    move ! (1 ∷ []) $ split ! $ move ! (1 ∷ []) $ fpick ! (λ us. fsplit ! $ feq_l ! (λ is. fsplit ! $
    feq_l ! (λ is_at. fsplit ! $
    rewrite ! 0 (λ (a : A.Denot). ‵ (A.own_val a us.1.0)) same refl $
    handle_tells E.al ! x.alloc us.1.0 (λ h' is_h fits'.
    let w = word E h' b' o' in let typed = box_typed E h' b' o' fits' in
    let made : To.Denot = record { at = block_ptr b' o'; alloc = x.alloc; value = x.value } in
    let box : D E = record { ptr = block_ptr b' o'; alloc = x.alloc; value = x.value } in
    lands_as ! (ap only (is ∙ (λ j. vstruct (of_list ((is_at ∙ ap (λ (p : Ptr). ptr_val p ∷ []) e') j ++ (is_h j ++
    []))) ∷ []))) refl typed $
    sets ! (of_opd ! (get_in ! (fld ! refl (stop !)) (sub ! 0 refl (whole !)))) refl (tt, tt) $
    sets ! (of_opd ! (get_in ! (fld ! refl (stop !)) (sub ! 1 refl (whole !)))) refl fits' $
    sets ! (of_opd ! (get ! refl)) refl fits' $
    sets ! (agg ! (and_then ! (get ! refl) (and_then ! (get ! refl) (no_more !)))) refl typed $
    returns ! (look_at ! 0 refl) $ free_all ! refl $
    -- [the handle; nothing; the tokens; what a box owns]
    move ! (3 ∷ []) $ fsplit ! $ box_in E ! box b' o' x.value refl refl $
    use1 𝓛 (‵ (To.own_val made (w ∷ []))) (id⊢ 𝓤 _) $ move ! (1 ∷ []) $ drop ! $
    suffices ! _ (ends_at 𝓛 ended left c y w made ((tt, (tt, tt)), tt) (tt, tt)) $ says ! refl $
    nothing ! $ nothing ! $ fjoin ! $ join ! $ move ! (1 ∷ 0 ∷ []) $ join ! $ done !))))))))))))
