-- What is made of the files of the words judges as the words ask.
use Rattle.std.proofs.Common.{◌≡◌, ◌∙◌, ℕ, List, ap₂, sym}
use Rattle.context_machine.specs.Rings.{finder, ring}
use Rattle.data_key.specs.declared.key_doc.KeyDoc.{KeyDoc}
use Rattle.encrypt_schema.specs.Language.Collection.{Collection}
use Rattle.fle_engine.specs.declared.engine.Engine.{Engine}
use Rattle.fle_engine.specs.declared.marker.Marker.{Marker}
use Rattle.fle_engine.specs.declared.opener.Opener.{Opener}
use Rattle.fle_stream.specs.Task.{each, pairs}
use Rattle.fle_runner.specs.Decrypt.{decrypt_verdict}
use Rattle.fle_runner.specs.Encrypt.{encrypt_verdict}
use Rattle.fle_runner.specs.EncryptWith.{encrypt_pairing}
use Rattle.fle_runner.specs.Mark.{mark_verdict}
use Rattle.fle_runner.specs.declared.decrypt.OpeningFiles.{OpeningFiles}
use Rattle.fle_runner.specs.declared.encrypt.SealingFiles.{SealingFiles}

pub marks_as : (infos : List Collection) (db : List ℕ) (m : Marker) → (m.db.items ≡ db) × (m.infos ≡ infos)
    → each (mark_verdict infos db) ≡ each (mark_verdict m.infos m.db.items)
marks_as infos db m made =
    ap₂ (λ (is : List Collection) (name : List ℕ). each (mark_verdict is name)) (sym made.1) (sym made.0)

pub opens_as : (held : OpeningFiles) (o : Opener) → (o.keys ≡ held.keys) × (o.cache.master ≡ held.master)
    → each (decrypt_verdict (ring held.keys held.master)) ≡ each (decrypt_verdict (ring o.keys o.cache.master))
opens_as held o made =
    ap₂ (λ (ks : List KeyDoc) (m : List ℕ). each (decrypt_verdict (ring ks m))) (sym made.0) (sym made.1)

pub seals_as : (held : SealingFiles) (db : List ℕ) (e : Engine)
    → (e.marker.db.items ≡ db) × (e.marker.infos ≡ held.infos)
    → (e.opener.keys ≡ held.keys) × (e.opener.cache.master ≡ held.master)
    → each (encrypt_verdict (finder held.keys held.master) held.infos db)
    ≡ each (encrypt_verdict (finder e.opener.keys e.opener.cache.master) e.marker.infos e.marker.db.items)
seals_as held db e rules secrets =
    ap₂ (λ (ks : List KeyDoc) (m : List ℕ). each (encrypt_verdict (finder ks m) held.infos db)) (sym secrets.0)
    (sym secrets.1)
    ∙ ap₂ (λ (is : List Collection) (name : List ℕ). each (encrypt_verdict (finder e.opener.keys e.opener.cache.master)
    is name)) (sym rules.1) (sym rules.0)

pub answers_as : (held : SealingFiles) (db : List ℕ) (e : Engine)
    → (e.marker.db.items ≡ db) × (e.marker.infos ≡ held.infos)
    → (e.opener.keys ≡ held.keys) × (e.opener.cache.master ≡ held.master)
    → pairs (encrypt_pairing (finder held.keys held.master) held.infos db)
    ≡ pairs (encrypt_pairing (finder e.opener.keys e.opener.cache.master) e.marker.infos e.marker.db.items)
answers_as held db e rules secrets =
    ap₂ (λ (ks : List KeyDoc) (m : List ℕ). pairs (encrypt_pairing (finder ks m) held.infos db)) (sym secrets.0)
    (sym secrets.1)
    ∙ ap₂ (λ (is : List Collection) (name : List ℕ). pairs (encrypt_pairing (finder e.opener.keys e.opener.cache.master)
    is name)) (sym rules.1) (sym rules.0)
