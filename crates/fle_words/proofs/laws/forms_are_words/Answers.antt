-- The words of a form are its own, and have it.
use Rattle.std.proofs.Common.{ap, ◌∙◌}
use Rattle.fle_words.specs.Words.{form_of}
use Rattle.fle_words.proofs.Forms.{decrypt_form_had, decrypt_form_is, encrypt_form_had, encrypt_form_is}
use Rattle.fle_words.proofs.OtherForms.{encrypt_with_form_had, encrypt_with_form_is, rewrap_form_had, rewrap_form_is}
use Rattle.fle_words.proofs.laws.forms_are_words.Goals as goal

pub returns : goal.returns
returns c = record {
  sealing = λ words db keys schemas master. (
    encrypt_form_had words db keys schemas master,
    λ h. ap form_of h.0 ∙ encrypt_form_is db keys schemas master h.1 h.2 h.3 h.4 h.5,
  );
  opening = λ words keys master. (
    decrypt_form_had words keys master,
    λ h. ap form_of h.0 ∙ decrypt_form_is keys master h.1 h.2,
  );
  sealing_with = λ words db keys schemas master. (
    encrypt_with_form_had words db keys schemas master,
    λ h. ap form_of h.0 ∙ encrypt_with_form_is db keys schemas master h.1 h.2 h.3 h.4 h.5,
  );
  rewrapping = λ words from to keys. (
    rewrap_form_had words from to keys,
    λ h. ap form_of h.0 ∙ rewrap_form_is from to keys h.1 h.2 h.3,
  );
}
