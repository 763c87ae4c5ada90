-- The numbers of reasons and of faults of named files, for the diagnostic line.
use Rattle.std.specs.Prelude.{ℕ, ◌+◌}
use Rattle.encrypt_schema.specs.Commands.Reasons.{reason_code}
use Rattle.encrypt_schema.specs.declared.command.reason.Reason.{Reason}
use Rattle.encrypt_schema.specs.declared.schema.faults.InfoKind.{InfoKind}
use Rattle.encrypt_schema.specs.declared.schema.faults.InfoKind.TheVariants as kinds
use Rattle.encrypt_schema.specs.declared.schema.faults.SchemaFault.{SchemaFault}
use Rattle.encrypt_schema.specs.declared.schema.faults.SchemaFault.TheVariants as schemas
use Rattle.key_vault.specs.declared.faults.VaultKind.{VaultKind}
use Rattle.key_vault.specs.declared.faults.VaultKind.TheVariants as vaults
use Rattle.local_kms.specs.declared.master.MasterFault.{MasterFault}
use Rattle.local_kms.specs.declared.master.MasterFault.TheVariants as masters
use Rattle.fle_stream.specs.declared.why.Number.{Number}

-- the number of a reason
abbrev pub reason_number : Reason → Number
reason_number reason = record { value = reason_code reason }

-- the number of a schema's fault among those of schemas
abbrev pub schema_code : SchemaFault → ℕ
schema_code schemas.Keyword = 1
schema_code schemas.Shape = 2
schema_code schemas.Misplaced = 3
schema_code schemas.Sibling = 4
schema_code schemas.NoKey = 5
schema_code schemas.NoAlgorithm = 6
schema_code schemas.Algorithm = 7
schema_code schemas.TypeName = 8
schema_code schemas.DeterministicType = 9
schema_code schemas.Name = 10
schema_code schemas.TooMany = 11
schema_code schemas.DeterministicPointer = 14
schema_code schemas.Memory = 12

-- the number of a fault of a document of collection infos
abbrev pub infos_code : InfoKind → ℕ
infos_code kinds.Bson = 30
infos_code kinds.Shape = 31
infos_code kinds.Twice = 32
infos_code (kinds.Schema fault) = 40 + schema_code fault

-- the number of a fault of collection infos, as the line has it
abbrev pub infos_number : InfoKind → Number
infos_number kind = record { value = infos_code kind }

-- the number of a fault of a master key's file
abbrev pub master_code : MasterFault → ℕ
master_code masters.Length = 10
master_code masters.Base64 = 11

-- the number of a fault of a master key's file, as the line has it
abbrev pub master_number : MasterFault → Number
master_number fault = record { value = master_code fault }

-- the number of a fault of a document of a vault
abbrev pub vault_code : VaultKind → ℕ
vault_code vaults.Bson = 20
vault_code vaults.Id = 21
vault_code vaults.AltNames = 22
vault_code vaults.Material = 23
vault_code vaults.Provider = 24
vault_code vaults.IdTwice = 25
vault_code vaults.NameTwice = 26
vault_code vaults.TooMany = 27

-- the number of a fault of a vault, as the line has it
abbrev pub vault_number : VaultKind → Number
vault_number kind = record { value = vault_code kind }
