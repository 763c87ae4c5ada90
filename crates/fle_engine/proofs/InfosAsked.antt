-- What a command comes to whose info is asked for, by what is said of its fields.
use Rattle.std.proofs.Common.{◌≡◌, ◌∙◌, ℕ, Bool, true, false, cond, List, [], Option, None, Some, Ok, Err, Vec, Global}
use Rattle.std.proofs.Common.{refl, sym, ap, subst}
use Rattle.bson_codec.specs.Borrowed.{At}
use Rattle.bson_tree.specs.Spelling.{doc_bytes}
use Rattle.bson_tree.specs.Tree.{Items}
use Rattle.command_marker.specs.Commands.{collection_in, passes}
use Rattle.command_marker.proofs.Targets.{marked_read}
use Rattle.context_machine.specs.Asks.{collection_filter}
use Rattle.context_machine.specs.Beginning.{BeginsAs}
use Rattle.context_machine.specs.States.{Asks}
use Rattle.context_machine.specs.declared.begun.Begun.TheVariants as begins
use Rattle.encrypt_schema.specs.Commands.Visits.{Refusal, target_verdict}
use Rattle.encrypt_schema.specs.declared.command.marks.MarkFault.{MarkFault}
use Rattle.encrypt_schema.specs.declared.command.marks.MarkFault.TheVariants as faults
use Rattle.fle_outside.specs.Seen.{EntropySeen}
use Rattle.fle_outside.proofs.Drawings.{draws_none}
use Rattle.fle_engine.specs.Answers.{AnswerIs}
use Rattle.fle_engine.specs.Asked.{info_filter, info_ruling}
use Rattle.fle_engine.specs.Rulings.{Ruling, Tells, by_refusal, makes, plain_plan}
use Rattle.fle_engine.specs.declared.answer.Answer.TheVariants as answers

-- the filter of a collection's infos is made
abbrev named : Items → Ruling
named c = makes (plain_plan (doc_bytes (collection_filter (collection_in c))))

-- by the verdict on its fields, wherever it stands, and by whether it passes
fields_by : (db : List ℕ) (d : At) (r : Option Refusal) → d.start ≡ 0 → target_verdict db d.start d.tree ≡ r
    → info_ruling db d.tree ≡ by_refusal r (makes (plain_plan (info_filter d.tree)))
unfolding info_ruling
fields_by db d r whole is =
    ap (λ (o : Option Refusal). by_refusal o (makes (plain_plan (info_filter d.tree))))
    (ap (λ (n : ℕ). target_verdict db n d.tree) (sym whole) ∙ is)

filter_by : (c : Items) (b : Bool) → passes c ≡ b
    → makes (plain_plan (info_filter c))
    ≡ makes (plain_plan (cond b [] (doc_bytes (collection_filter (collection_in c)))))
filter_by c b is =
    ap (λ (x : Bool). makes (plain_plan (cond x [] (doc_bytes (collection_filter (collection_in c)))))) is

pub passing_info : (db : List ℕ) (d kept : At) (output : Vec ℕ Global) (e : EntropySeen) → d.start ≡ 0
    → BeginsAs (record { db = db; command = d }) (Ok (begins.Pass kept)) → output.items ≡ []
    → AnswerIs (info_ruling db d.tree) d.tree e e (answers.Made output)
passing_info db d kept output e whole begun none =
    subst (λ (v : Ruling). AnswerIs v d.tree e e (answers.Made output))
    (sym (fields_by db d None whole begun.1 ∙ filter_by d.tree true begun.2)) ([], refl, draws_none e, none, refl)

pub asking_info : (db : List ℕ) (d : At) (asks : Asks) (output : Vec ℕ Global) (e : EntropySeen) → d.start ≡ 0
    → BeginsAs (record { db = db; command = d }) (Ok (begins.Ask asks))
    → output.items ≡ doc_bytes (collection_filter (collection_in asks.command.tree))
    → AnswerIs (info_ruling db d.tree) d.tree e e (answers.Made output)
asking_info db d asks output e whole begun filter =
    subst (λ (v : Ruling). AnswerIs v d.tree e e (answers.Made output))
    (ap (λ (x : Asks). named x.command.tree) begun.0
    ∙ sym (fields_by db d None whole begun.1 ∙ filter_by d.tree false (marked_read d.tree begun.2)))
    ([], refl, draws_none e, filter, refl)

pub refused_info : (db : List ℕ) (d : At) (fault : MarkFault) → d.start ≡ 0
    → BeginsAs (record { db = db; command = d }) (Err fault) → Tells fault (info_ruling db d.tree)
refused_info db d (faults.Refused reason at) whole begun =
    fields_by db d (Some (record { reason = reason; at = at })) whole begun
refused_info db d faults.Memory whole begun = absurd begun
