use Rattle.std.proofs.Common.{◌≡◌, Some, sym, ap, ◌∙◌}
use Rattle.bson_tree.specs.Tree.{tag_of}
use Rattle.ext_json.specs.declared.form.Form.{Form}
use Rattle.ext_json.specs.Forms.{form_of}
use Rattle.ext_json.proofs.Layouts.{value_laid, scope_only}
use Rattle.ext_json.proofs.bad_text.is_bad_plain.Goals as goal

pub is_bad_form-requires : goal.is_bad_form-requires
is_bad_form-requires c =
    rw c.requires.bytes (value_laid c.args.item.now.tree c.in-Some.form c.requires.laid
    (ap form_of (sym c.tag-tag.ensures.tag) ∙ (sym c.form_of.ensures.form ∙ c.in-Some.is)))

pub returns-in-Some : goal.returns-in-Some
returns-in-Some c B at other =
    let is : form_of (tag_of c.args.item.now.tree) ≡ Some c.in-Some.form =
    ap form_of (sym c.tag-tag.ensures.tag) ∙ (sym c.form_of.ensures.form ∙ c.in-Some.is) in
    rw (is, sym c.requires.bytes) (c.is_bad_form.ensures B at
    (λ h. other (scope_only (tag_of c.args.item.now.tree) (is ∙ ap (λ (f : Form). Some f) h))))
