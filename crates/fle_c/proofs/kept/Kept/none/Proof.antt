-- No address is kept: nothing is owned but the allocator.
use Rattle.std.proofs.Common.{None, List, [], ◌∷◌, ◌++◌, refl, sym, subst}
use Rattle.std.proofs.raw_atomic.Walks.{proved_at}
use Rattle.std.proofs.ResultValues.{and_tt}
use Rattle.std.proofs.alloc.Calls.{α, handle_tells}
use base.Fml.{ftrue}
use base.Logic.{SProp, ent, emp, id⊢}
use contract.Running.{tables}
use lib.Dec.{lit<}
use mir.Val.{Val, has_ty, vstruct, vcons, vnil}
use prog.Wp.{WpFn}
use types.Kit.{‵, raw, ◌⊛◌, ◌$◌, ◌∵◌, !, qed, use1, join, split, fjoin, feq_i, fpack, move, keep, suffices, group, done}
use types.Run.{no_more, and_then, lit, returns, enter}
use types.Part.{agg}
use types.ByLocal.{alloc_all, pass_all, free_all, look_at, get, sets}
use denote.Exit.{yes}
use denote.RattleType.{Valss}
use denote.RawPtr.{RawPtr, null_ptr, ptr_val}
use denote.Signature.{type_at}
use denote.Steps.{nothing}
use denote.Struct.Owning.{shape}
use denote.Struct.Struct.{within}
use denote.Triple.Walked.{says, Stays, stay_dropped, walk_of, ends_at, Goes-dropped}
use Rattle.std.specs.contracts.alloc.Global as Heap
use Rattle.fle_c.proofs.Boxed.{E, FromHeap}
use Rattle.std.proofs.BoxSteps.Form.{P, owning}
use Rattle.fle_c.specs.contracts.kept.Kept.none as f
use Rattle.fle_c.proofs.kept.Kept.none.Statement.{statement}
use Rattle.fle_c.proofs.kept.Kept.none.Code as code

abbrev stayed : Stays f.ended.signature.params f.ended.kept
stayed = (stay_dropped FromHeap yes, tt)

pub none_spec : {M : Type 1} → statement M
none_spec 𝓤 𝓛 𝓜 𝓡 wired =
    let c = f.clauses 𝓛 𝓜.mem 𝓡.returns in let 𝓣 = tables 𝓤 𝓛.H 𝓜 𝓡 𝓡.env in
    proved_at 𝓛 f.ended stayed c 𝓜 𝓡 (Goes-dropped 𝓛 0 FromHeap yes (λ κs x w. refl), tt)
    f.Key.name code.function (code.unfolded 𝓤 𝓛.H 𝓜 𝓡 wired) (λ y are.
    let alloc = y.0.3.0 in
    let End : Val → SProp 𝓤 = (walk_of 𝓛 f.ended stayed c).post y in
    let Runs : List Val → SProp 𝓤 = λ vs. WpFn 𝓤 𝓛.H 𝓣.C 𝓣.Λ code.function vs End in
    let Made = type_at f.ended.signature.result tt in
    qed 𝓛 ((‵ ftrue ⊛ (‵ (Heap.the_row.own_val alloc y.0.4.0) ⊛ ‵ ftrue)) ∷ raw (emp 𝓤) ∷ []) ∵
    split ! $ move ! (1 ∷ []) $ split ! $
    handle_tells E.al ! alloc y.0.4.0 (λ h is fits. keep ! (0 ∷ []) $
    let v = vstruct (vcons (ptr_val null_ptr) (vcons h vnil)) in
    let made : Made.Denot = record { at = null_ptr; alloc = alloc; value = None } in
    suffices ! (Runs (h ∷ [])) (subst (λ (us : List Val). ent 𝓤 (Runs (h ∷ [])) (Runs (us ++ []))) (sym is) (id⊢ 𝓤
    (Runs (h ∷ [])))) $
    enter ! _ _ _ _ _ $ alloc_all ! (λ l. pass_all ! refl (fits, tt) $
    sets ! (agg ! (and_then ! (lit ! tt) (and_then ! (get ! refl) (no_more !)))) refl (
      and_tt (has_ty (α E.al) h)
          fits.0,
      (record { fits = lit< tt }, (fits.1, tt)),
    ) $
    returns ! (look_at ! 0 refl) $ free_all ! refl $
    suffices ! _ (ends_at 𝓛 f.ended stayed c y v made (tt, tt) (tt, tt)) $ says ! refl $
    nothing ! $ move ! (1 ∷ 0 ∷ []) $ fjoin ! $
    feq_i ! (List Val) (ptr_val null_ptr ∷ []) (ptr_val null_ptr ∷ []) refl $ fjoin ! $
    feq_i ! (List Val) (v ∷ []) (v ∷ []) refl $ fjoin ! $
    fpack ! (Valss (RawPtr ∷ P E ∷ [])) (within (shape (owning E)) (null_ptr, (alloc, tt)) (v ∷ [])) (
      ptr_val
          null_ptr ∷ [],
      (h ∷ [], tt),
    ) $
    nothing ! $ move ! (1 ∷ 0 ∷ []) $ fjoin ! $ use1 𝓛 (‵ (Made.own_val made (v ∷ []))) (id⊢ 𝓤 _) $
    nothing ! $ nothing ! $ join ! $ nothing ! $ group ! 3 $ done !)))
