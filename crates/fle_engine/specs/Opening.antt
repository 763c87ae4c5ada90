-- Opening a document: the values of their original types in the place of its payloads.
use Rattle.std.specs.Prelude.{Result, Ok, Err}
use Rattle.bson_tree.specs.Spelling.{doc_bytes}
use Rattle.bson_tree.specs.Tree.{Items}
use Rattle.doc_rewrite.specs.Opened.{Keyring, opened}
use Rattle.encrypt_schema.specs.Commands.Visits.{Refusal}
use Rattle.fle_engine.specs.Rulings.{Ruling, at_front, makes, plain_plan, refused}

-- the document that was opened, or the refusal
abbrev pub opened_or : Result Items Refusal → Ruling
opened_or (Ok e) = makes (plain_plan (doc_bytes e))
opened_or (Err r) = refused r

-- what a document comes to under these keys
unfoldable pub open_ruling : Keyring → Items → Ruling
open_ruling keys d = opened_or (opened keys (at_front d))
