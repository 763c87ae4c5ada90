-- The numbers of a key that was put, what is answered by what the numbers tell of it, and that they are taken back.
use Rattle.std.proofs.Common.{◌≡◌, ◌∙◌, ◌++◌, ◌∷◌, [], None, Some, length, refl, sym, rules}
use Rattle.key_vault.proofs.Distinct.{distinct_more}
use Rattle.key_vault.proofs.Numbered.{accepted, ids_told, is_new, kind_told, last_is, names_told, of_told, refused}
use Rattle.key_vault.proofs.Put.{put_accepted, put_refused}
use Rattle.key_vault.proofs.Undone.{front_is, keeps_numbers}
use Rattle.key_vault.specs.Keys.{has_id, has_name}
use Rattle.key_vault.proofs.vault.Vault.put_new.Goals as goal

pub invariant_of-self-in-Ok-None : goal.invariant_of-self-in-Ok-None
invariant_of-self-in-Ok-None c =
    let keys = c.self.inside.keys.items in
    let ids = c.self.inside.ids in
    let names = c.self.inside.names in
    let inv = c.self.invariant in
    let all : c.as_slice-keys.result.now ≡ c.self.inside.keys.items ++ c.args.key ∷ [] = search rules in
    let count : c.len-number.result ≡ length c.self.inside.keys.items = search rules in
    let same : c.index-keys-number.result ≡ c.args.key = search (rules, last_is) in
    let new = is_new _ _ (kind_told keys c.args.key c.index-keys-number.result c.as_slice-keys.result.now ids names None
    all same inv.2 inv.3 inv.0 inv.1 (sym c.in-Ok-None.field-0-is ∙ c.in-Ok-None.ensures.kind)) in
    rw c.in-Ok.ensures.items (
      ids_told keys c.args.key c.index-keys-number.result c.as_slice-keys.result.now ids c.put_numbers.new.ids
          c.len-number.result all same inv.2 inv.0 new.0 count (c.in-Ok-None.ensures.ids c.in-Ok-None.field-0-is),
      names_told keys c.args.key c.index-keys-number.result c.as_slice-keys.result.now names c.put_numbers.new.names
          c.len-number.result all same inv.3 inv.1 new.1 count (c.in-Ok-None.ensures.names c.in-Ok-None.field-0-is),
      of_told keys c.args.key c.as_slice-keys.result.now ids c.put_numbers.new.ids all inv.2
          c.in-Ok-None.ensures.of_ids,
      of_told keys c.args.key c.as_slice-keys.result.now names c.put_numbers.new.names all inv.3
          c.in-Ok-None.ensures.of_names,
      distinct_more keys c.args.key inv.4 new.0 new.1,
    )

pub returns-in-Ok-None : goal.returns-in-Ok-None
returns-in-Ok-None c =
    let inv = c.self.invariant in
    let all : c.as_slice-keys.result.now ≡ c.self.inside.keys.items ++ c.args.key ∷ [] = search rules in
    let same : c.index-keys-number.result ≡ c.args.key = search (rules, last_is) in
    rw (sym c.self.view_is) (rw c.in-Ok.ensures.items record {
      put = put_accepted c.self.inside.keys.items _ c.args.key
          (accepted c.self.inside.keys.items c.args.key (kind_told c.self.inside.keys.items c.args.key
          c.index-keys-number.result c.as_slice-keys.result.now c.self.inside.ids c.self.inside.names None
          all same inv.2 inv.3 inv.0 inv.1 (sym c.in-Ok-None.field-0-is ∙ c.in-Ok-None.ensures.kind)));
    })

pub invariant_of-self-in-Ok-Some : goal.invariant_of-self-in-Ok-Some
invariant_of-self-in-Ok-Some c =
    let keys = c.self.inside.keys.items in
    let ids = c.self.inside.ids in
    let names = c.self.inside.names in
    let inv = c.self.invariant in
    let count : c.len-number.result ≡ length c.self.inside.keys.items = search rules in
    let same : c.index-keys-number.result ≡ c.args.key = search (rules, last_is) in
    let back : c.truncate.new.self.items ≡ c.self.inside.keys.items = search (rules, front_is) in
    let by_id = keeps_numbers keys has_id c.len-number.result (c.index-keys-number.result.id ∷ []) ids
    c.put_numbers.new.ids c.take_numbers.new.ids count inv.0 inv.2 c.put_numbers.ensures.only_ids
    c.take_numbers.ensures.ids in
    let by_name = keeps_numbers keys has_name c.len-number.result c.index-keys-number.result.names names
    c.put_numbers.new.names c.take_numbers.new.names count inv.1 inv.3 c.put_numbers.ensures.only_names
    c.take_numbers.ensures.names in
    rw back (by_id.numbers, by_name.numbers, by_id.places, by_name.places, inv.4)

pub returns-in-Ok-Some : goal.returns-in-Ok-Some
returns-in-Ok-Some c =
    let inv = c.self.invariant in
    let all : c.as_slice-keys.result.now ≡ c.self.inside.keys.items ++ c.args.key ∷ [] = search rules in
    let same : c.index-keys-number.result ≡ c.args.key = search (rules, last_is) in
    let back : c.truncate.new.self.items ≡ c.self.inside.keys.items = search (rules, front_is) in
    rw (sym c.self.view_is) (rw back record {
      put = (
        put_refused c.self.inside.keys.items _ c.in-Ok-Some.kind
            (refused c.self.inside.keys.items c.args.key c.in-Ok-Some.kind
            (kind_told c.self.inside.keys.items c.args.key
            c.index-keys-number.result c.as_slice-keys.result.now c.self.inside.ids c.self.inside.names
            (Some c.in-Ok-Some.kind) all same inv.2 inv.3 inv.0 inv.1
            (sym c.in-Ok-Some.field-0-is ∙ c.in-Ok-Some.ensures.kind))),
        refl,
      );
    })

pub invariant_of-self-in-Err-put_numbers : goal.invariant_of-self-in-Err-put_numbers
invariant_of-self-in-Err-put_numbers c =
    let keys = c.self.inside.keys.items in
    let ids = c.self.inside.ids in
    let names = c.self.inside.names in
    let inv = c.self.invariant in
    let count : c.len-number.result ≡ length c.self.inside.keys.items = search rules in
    let same : c.index-keys-number.result ≡ c.args.key = search (rules, last_is) in
    let back : c.truncate-in-Err-put_numbers.new.self.items ≡ c.self.inside.keys.items = search (rules, front_is) in
    let by_id = keeps_numbers keys has_id c.len-number.result (c.index-keys-number.result.id ∷ []) ids
    c.put_numbers.new.ids c.take_numbers-in-Err-put_numbers.new.ids count inv.0 inv.2 c.put_numbers.ensures.only_ids
    c.take_numbers-in-Err-put_numbers.ensures.ids in
    let by_name = keeps_numbers keys has_name c.len-number.result c.index-keys-number.result.names names
    c.put_numbers.new.names c.take_numbers-in-Err-put_numbers.new.names count inv.1 inv.3
    c.put_numbers.ensures.only_names c.take_numbers-in-Err-put_numbers.ensures.names in
    rw back (by_id.numbers, by_name.numbers, by_id.places, by_name.places, inv.4)
