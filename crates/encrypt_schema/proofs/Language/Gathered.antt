-- What one walk over the keywords of a schema gathers is what stands in it by name, where each has its form.
use Rattle.std.proofs.Common.{◌≡◌, ◌∙◌, ℕ, ◌==◌, Bool, true, false, ◌&&◌, ◌||◌, not, cond, List, [], ◌∷◌, codes, Option}
use Rattle.std.proofs.Common.{Some, None, is_some, Result, Ok, refl, sym, ap, ap₂, subst, ⊎_elim}
use Rattle.std.proofs.lemmas.Bool.{cases_Bool, false≢true}
use Rattle.std.specs.Prelude.{option_and_then, option_map}
use Rattle.bson_tree.specs.Tree.{Tree, Items, no_items, item, kids_of}
use Rattle.encrypt_schema.specs.declared.schema.faults.SchemaFault.{SchemaFault}
use Rattle.encrypt_schema.specs.declared.schema.faults.SchemaFault.TheVariants as faults
use Rattle.encrypt_schema.specs.declared.schema.keyword.Form.{Form}
use Rattle.encrypt_schema.specs.declared.schema.settings.Settings.{Settings}
use Rattle.encrypt_schema.specs.Language.Keywords.{keyword_at}
use Rattle.encrypt_schema.specs.Language.Names.{named, is_among}
use Rattle.encrypt_schema.specs.Language.Rules.{◌>>=◌, are_keywords, demand, has_number, or_child, wanted}
use Rattle.encrypt_schema.specs.Language.Rules.{setting_of, stated}
use Rattle.encrypt_schema.specs.Language.Shapes.{all_settings, are_settings, fits, is_setting, is_types, key_of}
use Rattle.encrypt_schema.specs.Language.Values.{are_distinct, distinct_behind, find, is_document_value}
use Rattle.encrypt_schema.specs.Language.Values.{is_string_value}
use Rattle.encrypt_schema.specs.Views.Gathered.{Read, Gathered, no_settings, none_gathered, with_keyword}
use Rattle.encrypt_schema.specs.Views.Gathered.{settings_behind, settings_by, settings_at, gathered_behind, gathered_of}
use Rattle.encrypt_schema.specs.Views.Gathered.{settings_seen}
use Rattle.encrypt_schema.proofs.Paths.Paths.{named_same}

or_none : (o : Option Tree) → o ≡ or_child o None
or_none None = refl
or_none (Some t) = refl

or_first : (t : Tree) (o : Option Tree) → is_some o ≡ false → Some t ≡ or_child o (Some t)
or_first t None new = refl
or_first t (Some u) new = absurd (false≢true (sym new))

-- the settings so far, or else those that follow
abbrev joined : Read → Items → Read
joined r is = record {
  key = or_child r.key (find (codes "keyId") is);
  algorithm = or_child r.algorithm (find (codes "algorithm") is);
  types = or_child r.types (find (codes "bsonType") is);
}

abbrev judged : Bool → List (List ℕ) → Read → Items → Option Read
judged typed before r is = cond (all_settings typed is && distinct_behind before is) (Some (joined r is)) None

-- the names before are those of the settings so far
record Knows (before : List (List ℕ)) (r : Read) : Type 0 where
  key : is_among (codes "keyId") before ≡ is_some r.key
  algorithm : is_among (codes "algorithm") before ≡ is_some r.algorithm
  types : is_among (codes "bsonType") before ≡ is_some r.types

-- one setting, by whether it stands already, has its form, and what follows is in order
step_by : (there form all apart : Bool) (f : Read → Option Read) (next whole : Read)
    → (there ≡ false → f next ≡ cond (all && apart) (Some whole) None)
    → option_and_then f (cond there None (cond form (Some next) None))
    ≡ cond ((form && all) && (not there && apart)) (Some whole) None
step_by true true true apart f next whole h = refl
step_by true true false apart f next whole h = refl
step_by true false all apart f next whole h = refl
step_by false true all apart f next whole h = h refl
step_by false false all apart f next whole h = refl

abbrev Goes : Bool → List (List ℕ) → Read → Items → Type 0
Goes typed before r is = settings_behind typed r is ≡ judged typed before r is

at_key : (typed : Bool) (before : List (List ℕ)) (r : Read) (t : Tree) (is : Items) → Knows before r
    → ((more : Read) → Knows (codes "keyId" ∷ before) more → Goes typed (codes "keyId" ∷ before) more is)
    → Goes typed before r (item (codes "keyId") t is)
unfolding named find is_setting
at_key typed before r t is k on =
    step_by (is_some r.key) (is_some (key_of t)) (all_settings typed is)
    (distinct_behind (codes "keyId" ∷ before) is) (λ more. settings_behind typed more is) (record r { key = Some t })
    (joined r (item (codes "keyId") t is))
    (λ new. on (record r { key = Some t }) (record { key = refl; algorithm = k.algorithm; types = k.types })
    ∙ ap (λ (o : Option Tree). cond (all_settings typed is && distinct_behind (codes "keyId" ∷ before) is)
    (Some (record {
      key = o;
      algorithm = or_child r.algorithm (find (codes "algorithm") is);
      types = or_child r.types (find (codes "bsonType") is);
    })) None) (or_first t r.key new))
    ∙ ap (λ (b : Bool). cond ((is_some (key_of t) && all_settings typed is)
    && (not b && distinct_behind (codes "keyId" ∷ before) is)) (Some (joined r (item (codes "keyId") t is))) None)
    (sym k.key)

at_algorithm : (typed : Bool) (before : List (List ℕ)) (r : Read) (t : Tree) (is : Items) → Knows before r
    → ((more : Read) → Knows (codes "algorithm" ∷ before) more → Goes typed (codes "algorithm" ∷ before) more is)
    → Goes typed before r (item (codes "algorithm") t is)
unfolding named find is_setting
at_algorithm typed before r t is k on =
    step_by (is_some r.algorithm) (is_string_value t) (all_settings typed is)
    (distinct_behind (codes "algorithm" ∷ before) is) (λ more. settings_behind typed more is)
    (record r { algorithm = Some t }) (joined r (item (codes "algorithm") t is))
    (λ new. on (record r { algorithm = Some t }) (record { key = k.key; algorithm = refl; types = k.types })
    ∙ ap (λ (o : Option Tree). cond (all_settings typed is && distinct_behind (codes "algorithm" ∷ before) is)
    (Some (record {
      key = or_child r.key (find (codes "keyId") is);
      algorithm = o;
      types = or_child r.types (find (codes "bsonType") is);
    })) None) (or_first t r.algorithm new))
    ∙ ap (λ (b : Bool). cond ((is_string_value t && all_settings typed is)
    && (not b && distinct_behind (codes "algorithm" ∷ before) is)) (Some (joined r (item
    (codes "algorithm") t is))) None)
    (sym k.algorithm)

at_types : (typed : Bool) (before : List (List ℕ)) (r : Read) (t : Tree) (is : Items) → Knows before r
    → ((more : Read) → Knows (codes "bsonType" ∷ before) more → Goes typed (codes "bsonType" ∷ before) more is)
    → Goes typed before r (item (codes "bsonType") t is)
unfolding named find is_setting
at_types typed before r t is k on =
    step_by (is_some r.types) (typed && is_types t) (all_settings typed is)
    (distinct_behind (codes "bsonType" ∷ before) is) (λ more. settings_behind typed more is)
    (record r { types = Some t }) (joined r (item (codes "bsonType") t is))
    (λ new. on (record r { types = Some t }) (record { key = k.key; algorithm = k.algorithm; types = refl })
    ∙ ap (λ (o : Option Tree). cond (all_settings typed is && distinct_behind (codes "bsonType" ∷ before) is)
    (Some (record {
      key = or_child r.key (find (codes "keyId") is);
      algorithm = or_child r.algorithm (find (codes "algorithm") is);
      types = o;
    })) None) (or_first t r.types new))
    ∙ ap (λ (b : Bool). cond (((typed && is_types t) && all_settings typed is)
    && (not b && distinct_behind (codes "bsonType" ∷ before) is)) (Some (joined r (item (codes "bsonType") t is))) None)
    (sym k.types)

at_another : (typed : Bool) (before : List (List ℕ)) (r : Read) (name : List ℕ) (t : Tree) (is : Items)
    → named name (codes "keyId") ≡ false → named name (codes "algorithm") ≡ false
    → named name (codes "bsonType") ≡ false → Goes typed before r (item name t is)
unfolding is_setting
at_another typed before r name t is a b c = rw (a, b, c) refl

-- the settings of elements behind those before
goes : (typed : Bool) (before : List (List ℕ)) (r : Read) (is : Items) → Knows before r → Goes typed before r is
unfolding find
goes typed before r no_items k =
    ap (λ (o : Option Tree). Some (record { key = o; algorithm = r.algorithm; types = r.types })) (or_none r.key)
    ∙ ap (λ (o : Option Tree). Some (record { key = or_child r.key None; algorithm = o; types = r.types }))
    (or_none r.algorithm)
    ∙ ap (λ (o : Option Tree). Some (record {
      key = or_child r.key None;
      algorithm = or_child r.algorithm None;
      types = o;
    })) (or_none r.types)
goes typed before r (item name t is) k =
    ⊎_elim
    (λ y. subst (λ (n : List ℕ). Goes typed before r (item n t is)) (sym (named_same name (codes "keyId") y))
    (at_key typed before r t is k (λ more. goes typed (codes "keyId" ∷ before) more is)))
    (λ a. ⊎_elim
    (λ y. subst (λ (n : List ℕ). Goes typed before r (item n t is)) (sym (named_same name (codes "algorithm") y))
    (at_algorithm typed before r t is k (λ more. goes typed (codes "algorithm" ∷ before) more is)))
    (λ b. ⊎_elim
    (λ y. subst (λ (n : List ℕ). Goes typed before r (item n t is)) (sym (named_same name (codes "bsonType") y))
    (at_types typed before r t is k (λ more. goes typed (codes "bsonType" ∷ before) more is)))
    (at_another typed before r name t is a b)
    (cases_Bool (named name (codes "bsonType"))))
    (cases_Bool (named name (codes "algorithm"))))
    (cases_Bool (named name (codes "keyId")))

document_by : (b all apart : Bool) (o : Option Read) (r : Read) → o ≡ cond (all && apart) (Some r) None
    → cond b o None ≡ cond (b && all && apart) (Some r) None
document_by true all apart o r h = h
document_by false all apart o r h = refl

-- the settings of a keyword's value are read exactly where it has its form, and are what stands there by name
settings_read : (typed : Bool) (t : Tree)
    → settings_by typed t ≡ cond (are_settings typed t) (Some (settings_at t)) None
settings_read typed t =
    document_by (is_document_value t) (all_settings typed (kids_of t)) (are_distinct (kids_of t))
    (settings_behind typed no_settings (kids_of t)) (settings_at t)
    (goes typed [] no_settings (kids_of t) (record { key = refl; algorithm = refl; types = refl }))

some_by : {A : Type 0} (b : Bool) (x : A) → is_some (cond b (Some x) None) ≡ b
some_by true x = refl
some_by false x = refl

settings_form : (typed : Bool) (t : Tree) → is_some (settings_by typed t) ≡ are_settings typed t
settings_form typed t = ap is_some (settings_read typed t) ∙ some_by (are_settings typed t) (settings_at t)

pub settings_told : (o : Option Settings) (typed : Bool) (t : Tree)
    → option_map settings_seen o ≡ settings_by typed t → is_some o ≡ are_settings typed t
settings_told None typed t e = ap is_some e ∙ settings_form typed t
settings_told (Some s) typed t e = ap is_some e ∙ settings_form typed t

-- what is gathered so far, or else what follows
abbrev or_read : Option Read → Option Tree → Option Read
or_read (Some r) o = Some r
or_read None o = option_map settings_at o

abbrev behind : Gathered → Items → Gathered
behind g is = record {
  encrypt = or_read g.encrypt (find (codes "encrypt") is);
  metadata = or_read g.metadata (find (codes "encryptMetadata") is);
}

read_none : (o : Option Read) → o ≡ or_read o None
read_none None = refl
read_none (Some r) = refl

read_first : (o : Option Read) (t : Tree) (again : Bool) → (is_some o ≡ true → again ≡ true) → again ≡ false
    → Some (settings_at t) ≡ or_read o (Some t)
read_first None t again known new = refl
read_first (Some r) t again known new = absurd (false≢true (sym new ∙ known refl))

-- the keywords before have the numbers of what is gathered
record Numbers (before : List ℕ) (g : Gathered) : Type 0 where
  encrypt : is_some g.encrypt ≡ true → has_number 7 before ≡ true
  metadata : is_some g.metadata ≡ true → has_number 8 before ≡ true

-- one keyword, by whether it stands already and its value has its form
keyword_by : {A B : Type 0} (again form : Bool) (g : A) (f : A → Result B SchemaFault)
    (others : Result (Unit {0}) SchemaFault) (whole : B)
    → (again ≡ false → f g ≡ (others >>= λ _. Ok whole))
    → (demand (not again) faults.Shape >>= λ _. wanted (cond form (Some g) None) faults.Shape >>= f)
    ≡ ((demand (not again && form) faults.Shape >>= λ _. others) >>= λ _. Ok whole)
keyword_by true form g f others whole h = refl
keyword_by false true g f others whole h = h refl
keyword_by false false g f others whole h = refl

map_by : {A B : Type 0} (form : Bool) (x : A) (f : A → B)
    → option_map f (cond form (Some x) None) ≡ cond form (Some (f x)) None
map_by true x f = refl
map_by false x f = refl

abbrev Gathers : List ℕ → Gathered → Items → Type 0
Gathers before g is = gathered_behind before g is ≡ (are_keywords before is >>= λ _. Ok (behind g is))

at_encrypt : (before : List ℕ) (g : Gathered) (t : Tree) (is : Items) → Numbers before g
    → ((more : Gathered) → Numbers (7 ∷ before) more → Gathers (7 ∷ before) more is)
    → Gathers before g (item (codes "encrypt") t is)
unfolding named find keyword_at fits
at_encrypt before g t is n on =
    ap (λ (o : Option Read). demand (not (has_number 7 before)) faults.Shape >>= λ _.
    wanted (option_map (λ r. record { encrypt = Some r; metadata = g.metadata }) o) faults.Shape >>= λ more.
    gathered_behind (7 ∷ before) more is) (settings_read true t)
    ∙ ap (λ (o : Option Gathered). demand (not (has_number 7 before)) faults.Shape >>= λ _.
    wanted o faults.Shape >>= λ more. gathered_behind (7 ∷ before) more is)
    (map_by (are_settings true t) (settings_at t) (λ r. record { encrypt = Some r; metadata = g.metadata }))
    ∙ keyword_by (has_number 7 before) (are_settings true t) (record g { encrypt = Some (settings_at t) })
    (λ more. gathered_behind (7 ∷ before) more is) (are_keywords (7 ∷ before) is)
    (behind g (item (codes "encrypt") t is))
    (λ new. on (record g { encrypt = Some (settings_at t) })
    (record { encrypt = λ _. refl; metadata = λ y. n.metadata y })
    ∙ ap (λ (o : Option Read). are_keywords (7 ∷ before) is >>= λ _. Ok (record {
      encrypt = o;
      metadata = or_read g.metadata (find (codes "encryptMetadata") is);
    })) (read_first g.encrypt t (has_number 7 before) n.encrypt new))

at_metadata : (before : List ℕ) (g : Gathered) (t : Tree) (is : Items) → Numbers before g
    → ((more : Gathered) → Numbers (8 ∷ before) more → Gathers (8 ∷ before) more is)
    → Gathers before g (item (codes "encryptMetadata") t is)
unfolding named find keyword_at fits
at_metadata before g t is n on =
    ap (λ (o : Option Read). demand (not (has_number 8 before)) faults.Shape >>= λ _.
    wanted (option_map (λ r. record { encrypt = g.encrypt; metadata = Some r }) o) faults.Shape >>= λ more.
    gathered_behind (8 ∷ before) more is) (settings_read false t)
    ∙ ap (λ (o : Option Gathered). demand (not (has_number 8 before)) faults.Shape >>= λ _.
    wanted o faults.Shape >>= λ more. gathered_behind (8 ∷ before) more is)
    (map_by (are_settings false t) (settings_at t) (λ r. record { encrypt = g.encrypt; metadata = Some r }))
    ∙ keyword_by (has_number 8 before) (are_settings false t) (record g { metadata = Some (settings_at t) })
    (λ more. gathered_behind (8 ∷ before) more is) (are_keywords (8 ∷ before) is)
    (behind g (item (codes "encryptMetadata") t is))
    (λ new. on (record g { metadata = Some (settings_at t) })
    (record { encrypt = λ y. n.encrypt y; metadata = λ _. refl })
    ∙ ap (λ (o : Option Read). are_keywords (8 ∷ before) is >>= λ _. Ok (record {
      encrypt = or_read g.encrypt (find (codes "encrypt") is);
      metadata = o;
    })) (read_first g.metadata t (has_number 8 before) n.metadata new))

or_true : (a b : Bool) → b ≡ true → (a || b) ≡ true
or_true true b y = refl
or_true false b y = y

more_numbers : (k : ℕ) (before : List ℕ) (g : Gathered) → Numbers before g → Numbers (k ∷ before) g
more_numbers k before g n = record {
  encrypt = λ y. or_true (k == 7) (has_number 7 before) (n.encrypt y);
  metadata = λ y. or_true (k == 8) (has_number 8 before) (n.metadata y);
}

at_keyword : (before : List ℕ) (g : Gathered) (name : List ℕ) (t : Tree) (is : Items) (o : Option (ℕ × Form))
    → named name (codes "encrypt") ≡ false → named name (codes "encryptMetadata") ≡ false
    → ((k : ℕ) → gathered_behind (k ∷ before) g is ≡ (are_keywords (k ∷ before) is >>= λ _. Ok (behind g is)))
    → (wanted o faults.Keyword >>= λ k. demand (not (has_number k.0 before)) faults.Shape >>= λ _.
    wanted (with_keyword g name k.1 t) faults.Shape >>= λ more. gathered_behind (k.0 ∷ before) more is)
    ≡ ((wanted o faults.Keyword >>= λ k. demand (not (has_number k.0 before) && fits k.1 t) faults.Shape >>= λ _.
    are_keywords (k.0 ∷ before) is) >>= λ _. Ok (behind g is))
at_keyword before g name t is None a b on = refl
at_keyword before g name t is (Some k) a b on =
    let plain : with_keyword g name k.1 t ≡ cond (fits k.1 t) (Some g) None = rw (a, b) refl in
    ap (λ (x : Option Gathered). demand (not (has_number k.0 before)) faults.Shape >>= λ _.
    wanted x faults.Shape >>= λ more. gathered_behind (k.0 ∷ before) more is) plain
    ∙ keyword_by (has_number k.0 before) (fits k.1 t) g (λ more. gathered_behind (k.0 ∷ before) more is)
    (are_keywords (k.0 ∷ before) is) (behind g is) (λ _. on k.0)

behind_others : (g : Gathered) (name : List ℕ) (t : Tree) (is : Items)
    → named name (codes "encrypt") ≡ false → named name (codes "encryptMetadata") ≡ false
    → behind g is ≡ behind g (item name t is)
unfolding find
behind_others g name t is a b = rw (a, b) refl

gathers : (before : List ℕ) (g : Gathered) (is : Items) → Numbers before g → Gathers before g is
unfolding find
gathers before g no_items n =
    ap (λ (o : Option Read). Ok (record { encrypt = o; metadata = g.metadata })) (read_none g.encrypt)
    ∙ ap (λ (o : Option Read). Ok (record { encrypt = or_read g.encrypt None; metadata = o })) (read_none g.metadata)
gathers before g (item name t is) n =
    ⊎_elim
    (λ y. subst (λ (m : List ℕ). Gathers before g (item m t is)) (sym (named_same name (codes "encrypt") y))
    (at_encrypt before g t is n (λ more. gathers (7 ∷ before) more is)))
    (λ a. ⊎_elim
    (λ y. subst (λ (m : List ℕ). Gathers before g (item m t is)) (sym (named_same name (codes "encryptMetadata") y))
    (at_metadata before g t is n (λ more. gathers (8 ∷ before) more is)))
    (λ b. at_keyword before g name t is (keyword_at name) a b
    (λ k. gathers (k ∷ before) g is (more_numbers k before g n))
    ∙ ap (λ (h : Gathered). are_keywords before (item name t is) >>= λ _. Ok h) (behind_others g name t is a b))
    (cases_Bool (named name (codes "encryptMetadata"))))
    (cases_Bool (named name (codes "encrypt")))

-- what is gathered of a schema
pub gathered_whole : (is : Items)
    → gathered_behind [] none_gathered is ≡ (are_keywords [] is >>= λ _. Ok (gathered_of is))
gathered_whole is = gathers [] none_gathered is (record {
  encrypt = λ y. absurd (false≢true y);
  metadata = λ y. absurd (false≢true y);
})

-- the settings in force by a schema's own words
-- the setting of the first keyword, or else of the second
abbrev pub setting_by : (Read → Option Tree) → Gathered → Option Tree
setting_by of g = or_child (option_and_then of g.encrypt) (option_and_then of g.metadata)

through : (of : Read → Option Tree) (o : Option Tree)
    → option_and_then of (option_map settings_at o) ≡ option_and_then (λ t. of (settings_at t)) o
through of None = refl
through of (Some t) = refl

pub algorithm_stated : (g : Gathered) (is : Items) → g ≡ gathered_of is
    → setting_by (λ r. r.algorithm) g ≡ stated (codes "algorithm") is
unfolding stated setting_of
algorithm_stated g is e =
    ap (setting_by (λ r. r.algorithm)) e
    ∙ ap₂ or_child (through (λ r. r.algorithm) (find (codes "encrypt") is))
    (through (λ r. r.algorithm) (find (codes "encryptMetadata") is))

pub key_stated : (g : Gathered) (is : Items) → g ≡ gathered_of is
    → setting_by (λ r. r.key) g ≡ stated (codes "keyId") is
unfolding stated setting_of
key_stated g is e =
    ap (setting_by (λ r. r.key)) e
    ∙ ap₂ or_child (through (λ r. r.key) (find (codes "encrypt") is))
    (through (λ r. r.key) (find (codes "encryptMetadata") is))

pub types_stated : (g : Gathered) (is : Items) → g ≡ gathered_of is
    → option_and_then (λ r. r.types) g.encrypt ≡ setting_of (codes "encrypt") (codes "bsonType") is
unfolding setting_of
types_stated g is e =
    ap (λ (h : Gathered). option_and_then (λ r. r.types) h.encrypt) e
    ∙ through (λ r. r.types) (find (codes "encrypt") is)
