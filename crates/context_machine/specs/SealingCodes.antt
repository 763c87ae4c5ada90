-- The codes of the states in which a command is sealed, by which a proof tells their values apart
use Rattle.std.specs.Prelude.{ℕ, List, Option, refl}
use Rattle.std.specs.Coded.{Coded, code_by, coded×, coded_list, coded_option, coded_ℕ}
use Rattle.bson_codec.specs.Borrowed.{At, coded_at}
use Rattle.data_key.specs.contracts.key_doc.KeyDoc as keys
use Rattle.data_key.specs.declared.key_doc.KeyDoc.{KeyDoc}
use Rattle.doc_rewrite.specs.contracts.key_table.KeyTable as tables
use Rattle.doc_rewrite.specs.Keys.{Table}
use Rattle.encrypt_schema.specs.contracts.schema.collections.Info as infos
use Rattle.encrypt_schema.specs.Language.Collection.{Collection}
use Rattle.context_machine.specs.States.{Asks, Finished, Readied, Started, Waits}

abbrev pub coded_started : Coded Started
coded_started = code_by (List ℕ × At) (coded× (coded_list coded_ℕ) coded_at) (λ s. (s.db, s.command))
    (λ p. record { db = p.0; command = p.1 }) (λ _. refl)

-- the code of a command with the info of its collection, once one is kept
abbrev pub coded_asks : Coded Asks
coded_asks = code_by (At × Option Collection) (coded× coded_at (coded_option infos.the_row.coded))
    (λ a. (a.command, a.info)) (λ p. record { command = p.0; info = p.1 }) (λ _. refl)

-- the code of the same with the keys kept so far
abbrev pub coded_waits : Coded Waits
coded_waits = code_by (Asks × List KeyDoc) (coded× coded_asks (coded_list keys.the_row.coded))
    (λ w. (record { command = w.command; info = w.info }, w.kept))
    (λ p. record { command = p.0.command; info = p.0.info; kept = p.1 }) (λ _. refl)

-- the code of the same with the data keys of its values
abbrev pub coded_readied : Coded Readied
coded_readied = code_by (Waits × Table) (coded× coded_waits tables.the_row.coded)
    (λ r. (record { command = r.command; info = r.info; kept = r.kept }, r.table))
    (λ p. record { command = p.0.command; info = p.0.info; kept = p.0.kept; table = p.1 }) (λ _. refl)

-- the code of the same with the sealed command's bytes
abbrev pub coded_finished : Coded Finished
coded_finished = code_by (Readied × List ℕ) (coded× coded_readied (coded_list coded_ℕ))
    (λ f. (record { command = f.command; info = f.info; kept = f.kept; table = f.table }, f.bytes))
    (λ p. record { command = p.0.command; info = p.0.info; kept = p.0.kept; table = p.0.table; bytes = p.1 })
    (λ _. refl)
