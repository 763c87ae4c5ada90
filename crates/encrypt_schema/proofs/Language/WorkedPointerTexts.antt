-- RFC 6901: texts that spell pointers, and texts that don't, computed from the definitions.
use Rattle.std.proofs.Common.{◌≡◌, [], ◌∷◌, codes, refl}
use Rattle.std.specs.Prelude.{None, Some}
use Rattle.encrypt_schema.specs.Language.Pointers.{pointer_of, tokens}

pub one_name : pointer_of (codes "/owner") ≡ Some (codes "owner" ∷ [])
unfolding pointer_of tokens
one_name = refl

pub names_of_several_levels : pointer_of (codes "/a/bc/d") ≡ Some (codes "a" ∷ codes "bc" ∷ codes "d" ∷ [])
unfolding pointer_of tokens
names_of_several_levels = refl

-- a dot and a dollar sign are bytes like any other, and so are digits
pub a_dot_and_a_dollar : pointer_of (codes "/a.b/$c/0") ≡ Some (codes "a.b" ∷ codes "$c" ∷ codes "0" ∷ [])
unfolding pointer_of tokens
a_dot_and_a_dollar = refl

-- RFC 6901, section 5
pub an_escaped_slash : pointer_of (codes "/a~1b") ≡ Some (codes "a/b" ∷ [])
unfolding pointer_of tokens
an_escaped_slash = refl

-- RFC 6901, section 5
pub an_escaped_tilde : pointer_of (codes "/m~0n") ≡ Some (codes "m~n" ∷ [])
unfolding pointer_of tokens
an_escaped_tilde = refl

-- RFC 6901, section 4: `~01` is `~1`, and never a slash
pub a_tilde_before_1 : pointer_of (codes "/~01") ≡ Some (codes "~1" ∷ [])
unfolding pointer_of tokens
a_tilde_before_1 = refl

pub a_tilde_and_a_slash : pointer_of (codes "/~0~1") ≡ Some (codes "~/" ∷ [])
unfolding pointer_of tokens
a_tilde_and_a_slash = refl

-- RFC 6901 reads it as the whole document, which is no field
pub no_bytes : pointer_of [] ≡ None
unfolding pointer_of
no_bytes = refl

pub an_empty_name : pointer_of (codes "/") ≡ None
unfolding pointer_of tokens
an_empty_name = refl

pub no_slash_in_front : pointer_of (codes "a") ≡ None
unfolding pointer_of
no_slash_in_front = refl

pub no_slash_in_front_of_several : pointer_of (codes "a/b") ≡ None
unfolding pointer_of
no_slash_in_front_of_several = refl

pub a_slash_behind : pointer_of (codes "/a/") ≡ None
unfolding pointer_of tokens
a_slash_behind = refl

pub two_slashes : pointer_of (codes "/a//b") ≡ None
unfolding pointer_of tokens
two_slashes = refl

pub two_slashes_in_front : pointer_of (codes "//a") ≡ None
unfolding pointer_of tokens
two_slashes_in_front = refl

pub a_tilde_alone : pointer_of (codes "/~") ≡ None
unfolding pointer_of tokens
a_tilde_alone = refl

pub a_tilde_before_2 : pointer_of (codes "/~2") ≡ None
unfolding pointer_of tokens
a_tilde_before_2 = refl

pub two_tildes : pointer_of (codes "/~~0") ≡ None
unfolding pointer_of tokens
two_tildes = refl

-- a name ends at the slash, and the tilde before it stands before nothing
pub a_tilde_before_a_slash : pointer_of (codes "/a~/0") ≡ None
unfolding pointer_of tokens
a_tilde_before_a_slash = refl
