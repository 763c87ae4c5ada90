-- A raw value has its layout exactly where reading takes all of its bytes.
use Rattle.std.proofs.Common.{◌≡◌, ℕ, Bool, true, false, eqb, List, length, take, Ok, Err, sym, ap, subst, ◌∙◌, refl}
use Rattle.std.specs.Prelude.{MatchBool}
use Rattle.std.proofs.lemmas.Bool.{eqb-true, eqb-false}
use Rattle.bson_codec.specs.declared.fault.BsonFault.{BsonFault}
use Rattle.bson_codec.specs.declared.table.RawLayout.{RawLayout}
use Rattle.bson_codec.specs.Layout.{IsRaw, IsItems}
use Rattle.bson_codec.specs.Reading.{raw_at, inside_at}
use Rattle.bson_codec.proofs.Steps.{ok_is, refused}
use Rattle.bson_codec.specs.Bytes.{AreBytes}
use Rattle.bson_codec.proofs.Pieces.{begins_all, begins_is}
use Rattle.bson_codec.proofs.Raws.{raw_takes, raw_again}
use Rattle.bson_codec.proofs.Documents.{inside_reads}

module _ (levels : ℕ) (layout : RawLayout) (bs : List ℕ) where
  laid_read : IsRaw (IsItems levels) layout bs → raw_at (inside_at levels) layout 0 bs ≡ Ok (length bs)
  laid_read laid = raw_again (IsItems levels) (inside_at levels) (inside_reads levels) layout 0 bs bs (length bs) laid
      (begins_all bs)

  measured : (n : ℕ) (same : Bool) → eqb n (length bs) ≡ same → AreBytes bs
      → raw_at (inside_at levels) layout 0 bs ≡ Ok n
      → MatchBool same (IsRaw (IsItems levels) layout bs) (IsRaw (IsItems levels) layout bs → ⊥)
  measured n true e fits read =
      let all : take n bs ≡ bs = ap (λ (k : ℕ). take k bs) (eqb-true _ _ e)
      ∙ begins_is bs bs (length bs) (begins_all bs) in
      subst (λ (x : List ℕ). IsRaw (IsItems levels) layout x) all
      (raw_takes (IsItems levels) (inside_at levels) (inside_reads levels) layout 0 bs n fits read).laid
  measured n false e fits read = λ laid. eqb-false _ _ e (ok_is n (length bs) (sym read ∙ laid_read laid))

  pub raw_is_laid : (n : ℕ) → AreBytes bs → raw_at (inside_at levels) layout 0 bs ≡ Ok n
      → MatchBool (eqb n (length bs)) (IsRaw (IsItems levels) layout bs) (IsRaw (IsItems levels) layout bs → ⊥)
  raw_is_laid n fits read = measured n (eqb n (length bs)) refl fits read

  pub raw_is_not : (d : BsonFault) → raw_at (inside_at levels) layout 0 bs ≡ Err d → IsRaw (IsItems levels) layout bs
      → ⊥
  raw_is_not d read laid = refused d (length bs) (sym read ∙ laid_read laid)
