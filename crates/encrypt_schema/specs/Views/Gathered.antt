-- What one walk over the keywords of a schema gathers: the settings of `encrypt` and of `encryptMetadata`
use Rattle.std.specs.Prelude.{ℕ, Bool, true, false, not, ◌&&◌, List, ◌∷◌, codes, option_map, option_and_then, is_some}
use Rattle.std.specs.Prelude.{Option}
use Rattle.std.specs.Prelude.{Some, None, Result, Ok, if◌then◌else◌}
use Rattle.bson_tree.specs.Tree.{Tree, Items, no_items, item, kids_of}
use Rattle.encrypt_schema.specs.declared.schema.faults.SchemaFault.{SchemaFault}
use Rattle.encrypt_schema.specs.declared.schema.faults.SchemaFault.TheVariants as faults
use Rattle.encrypt_schema.specs.declared.schema.keyword.Form.{Form}
use Rattle.encrypt_schema.specs.declared.schema.settings.Settings.{Settings}
use Rattle.encrypt_schema.specs.declared.schema.stated.Found.{Found}
use Rattle.encrypt_schema.specs.Language.Keywords.{keyword_at}
use Rattle.encrypt_schema.specs.Language.Names.{named}
use Rattle.encrypt_schema.specs.Language.Rules.{◌>>=◌, demand, wanted, has_number}
use Rattle.encrypt_schema.specs.Language.Shapes.{key_of, is_types, fits}
use Rattle.encrypt_schema.specs.Language.Values.{find, is_document_value, is_string_value}

-- the settings of a keyword, each where it stands
pub record Read : Type 0 where
  pub key : Option Tree
  pub algorithm : Option Tree
  pub types : Option Tree

-- no setting
abbrev pub no_settings : Read
no_settings = record { key = None; algorithm = None; types = None }

-- one setting more, which has its form and stands for the first time
abbrev pub with_key : Read → Tree → Option Read
with_key r t = if is_some r.key then None else (if is_some (key_of t) then Some (record r { key = Some t }) else None)

-- the algorithm, which is named by a string
abbrev pub with_algorithm : Read → Tree → Option Read
with_algorithm r t =
    if is_some r.algorithm then None else (if is_string_value t then Some (record r { algorithm = Some t }) else None)

-- the types, which stand in `encrypt` alone
abbrev pub with_types : Bool → Read → Tree → Option Read
with_types typed r t =
    if is_some r.types then None else (if typed && is_types t then Some (record r { types = Some t }) else None)

-- a setting by its name; there are three
abbrev pub with_setting : Bool → Read → List ℕ → Tree → Option Read
with_setting typed r name t =
    if named name (codes "keyId") then with_key r t
    else (if named name (codes "algorithm") then with_algorithm r t
    else (if named name (codes "bsonType") then with_types typed r t else None))

-- the settings of these elements behind those before; nothing, where one has not its form or stands twice
abbrev pub settings_behind : Bool → Read → Items → Option Read
settings_behind typed r no_items = Some r
settings_behind typed r (item name t is) =
    option_and_then (λ more. settings_behind typed more is) (with_setting typed r name t)

-- the settings in a keyword's value, where it has its form
abbrev pub settings_by : Bool → Tree → Option Read
settings_by typed t = if is_document_value t then settings_behind typed no_settings (kids_of t) else None

-- this, where a judgement refuses nothing
abbrev pub giving : {A : Type 0} → A → Result (Unit {0}) SchemaFault → Result A SchemaFault
giving x judgement = judgement >>= λ _. Ok x

-- the settings in a keyword's value by their names
abbrev pub settings_at : Tree → Read
settings_at t = record {
  key = find (codes "keyId") (kids_of t);
  algorithm = find (codes "algorithm") (kids_of t);
  types = find (codes "bsonType") (kids_of t);
}

-- the settings of the two keywords that have some
pub record Gathered : Type 0 where
  pub encrypt : Option Read
  pub metadata : Option Read

-- neither keyword
abbrev pub none_gathered : Gathered
none_gathered = record { encrypt = None; metadata = None }

-- one keyword more, whose value has its form
abbrev pub with_keyword : Gathered → List ℕ → Form → Tree → Option Gathered
with_keyword g name form t =
    if named name (codes "encrypt") then option_map (λ r. record g { encrypt = Some r }) (settings_by true t)
    else (if named name (codes "encryptMetadata") then option_map (λ r. record g { metadata = Some r })
    (settings_by false t) else (if fits form t then Some g else None))

-- what is gathered of these elements behind those before, or the first rule of keywords that they break
abbrev pub gathered_behind : List ℕ → Gathered → Items → Result Gathered SchemaFault
gathered_behind before g no_items = Ok g
gathered_behind before g (item name t is) = do
  keyword ← wanted (keyword_at name) faults.Keyword
  _ ← demand (not (has_number keyword.0 before)) faults.Shape
  more ← wanted (with_keyword g name keyword.1 t) faults.Shape
  gathered_behind (keyword.0 ∷ before) more is

-- what is gathered of a schema, by the names of its keywords
abbrev pub gathered_of : Items → Gathered
gathered_of is = record {
  encrypt = option_map settings_at (find (codes "encrypt") is);
  metadata = option_map settings_at (find (codes "encryptMetadata") is);
}

-- the same as the code holds it
abbrev pub settings_seen : Settings → Read
settings_seen s = record {
  key = option_map (λ i. i.tree) s.key;
  algorithm = option_map (λ i. i.tree) s.algorithm;
  types = option_map (λ i. i.tree) s.types;
}

-- the same of both keywords
abbrev pub found_seen : Found → Gathered
found_seen f = record { encrypt = option_map settings_seen f.encrypt; metadata = option_map settings_seen f.metadata }
