-- An address is kept with what it owns.
use Rattle.std.proofs.Common.{List, [], ◌∷◌, ◌++◌, refl, sym, subst}
use Rattle.std.proofs.raw_atomic.Walks.{proved_at}
use Rattle.std.proofs.BoxSteps.Form.{D, B, word, box_typed}
use Rattle.std.proofs.BoxSteps.Steps.{box_out, box_in}
use base.Fml.{ftrue, fsep}
use base.Logic.{SProp, ent, emp, id⊢}
use contract.Running.{tables}
use mir.Val.{Val}
use prog.Wp.{WpFn}
use types.Kit.{‵, raw, ◌⊛◌, ◌$◌, ◌∵◌, !, qed, drop, use1, join, split, fsplit, keep, suffices, group, done}
use types.Run.{stop, fld, no_more, and_then, of_opd, returns, enter}
use types.Part.{agg, sub, whole}
use types.ByLocal.{alloc_all, pass_all, free_all, look_at, get, get_in, sets}
use denote.Exit.{yes}
use denote.Signature.{type_at}
use denote.Steps.{nothing}
use denote.Triple.Walked.{says, Stays, stay_dropped, walk_of, ends_at, Goes-dropped}
use Rattle.fle_c.proofs.Boxed.{E, FromParts}
use Rattle.fle_c.specs.contracts.kept.Kept.of_parts as f
use Rattle.fle_c.proofs.kept.Kept.of_parts.Statement.{statement}
use Rattle.fle_c.proofs.kept.Kept.of_parts.Code as code

abbrev stayed : Stays f.ended.signature.params f.ended.kept
stayed = (stay_dropped FromParts yes, tt)

pub of_parts_spec : {M : Type 1} → statement M
of_parts_spec 𝓤 𝓛 𝓜 𝓡 wired =
    let c = f.clauses 𝓛 𝓜.mem 𝓡.returns in let 𝓣 = tables 𝓤 𝓛.H 𝓜 𝓡 𝓡.env in
    proved_at 𝓛 f.ended stayed c 𝓜 𝓡 (Goes-dropped 𝓛 0 FromParts yes (λ κs x w. refl), tt)
    f.Key.name code.function (code.unfolded 𝓤 𝓛.H 𝓜 𝓡 wired) (λ y are.
    let parts = y.0.3.0 in
    let x : D E = record { ptr = parts.at; alloc = parts.alloc; value = parts.value } in
    let End : Val → SProp 𝓤 = (walk_of 𝓛 f.ended stayed c).post y in
    let Runs : List Val → SProp 𝓤 = λ vs. WpFn 𝓤 𝓛.H 𝓣.C 𝓣.Λ code.function vs End in
    let Made = type_at f.ended.signature.result tt in
    qed 𝓛 ((‵ ftrue ⊛ ‵ (fsep ((B E).own_val x y.0.4.0) ftrue)) ∷ raw (emp 𝓤) ∷ []) ∵ split ! $ drop ! $ fsplit ! $
    box_out E ! x y.0.4.0 (λ b o h e vs fits.
    let v = word E h b o in let typed = box_typed E h b o fits in
    let made : Made.Denot = record {
      at = parts.at;
      alloc = parts.alloc;
      value = Rattle.std.specs.Prelude.Some
          parts.value;
    } in
    box_in E ! x b o parts.value e refl $ keep ! (0 ∷ []) $
    suffices ! (Runs (v ∷ [])) (subst (λ (us : List Val). ent 𝓤 (Runs (v ∷ [])) (Runs (us ++ []))) (sym vs) (id⊢ 𝓤
    (Runs (v ∷ [])))) $
    enter ! _ _ _ _ _ $ alloc_all ! (λ l. pass_all ! refl (typed, tt) $
    sets ! (of_opd ! (get_in ! (fld ! refl (stop !)) (sub ! 0 refl (whole !)))) refl (tt, tt) $
    sets ! (of_opd ! (get_in ! (fld ! refl (stop !)) (sub ! 1 refl (whole !)))) refl fits $
    sets ! (of_opd ! (get ! refl)) refl (tt, tt) $
    sets ! (agg ! (and_then ! (get ! refl) (and_then ! (get ! refl) (no_more !)))) refl typed $
    returns ! (look_at ! 0 refl) $ free_all ! refl $
    suffices ! _ (ends_at 𝓛 f.ended stayed c y v made (tt, tt) (tt, tt)) $ says ! refl $
    use1 𝓛 (‵ (Made.own_val made (v ∷ []))) (id⊢ 𝓤 _) $
    nothing ! $ nothing ! $ join ! $ nothing ! $ group ! 3 $ done !)))
