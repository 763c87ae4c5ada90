-- The spot that was written has one rule more for all fields but listed ones.
use Rattle.std.proofs.Common.{refl, rules}
use Rattle.encrypt_schema.proofs.Paths.Written.{kept_paths, kept_children, kept_rules, written_other}
use Rattle.encrypt_schema.proofs.path.spots.note_others.Goals as goal

pub returns-clause-paths : goal.returns-clause-paths
returns-clause-paths c = kept_paths c.args.spots.now.items c.args.at c.index_mut.result.now _ c.requires.inside
    c.index_mut.ensures.value refl refl

pub returns-clause-children : goal.returns-clause-children
returns-clause-children c = kept_children c.args.spots.now.items c.args.at c.index_mut.result.now _ c.requires.inside
    c.index_mut.ensures.value refl

pub returns-clause-rules : goal.returns-clause-rules
returns-clause-rules c = kept_rules c.args.spots.now.items c.args.at c.index_mut.result.now _ c.requires.inside
    c.index_mut.ensures.value refl

pub returns-clause-others : goal.returns-clause-others
returns-clause-others c = written_other c.args.spots.now.items c.args.at c.index_mut.result.now _ c.requires.inside
    c.index_mut.ensures.value c.args.others (search rules)
