use Rattle.std.proofs.Common.{ℕ, List, map, refl, ap, ◌∙◌}
use Rattle.aes_block.specs.Block.{IsBlock, xor_bytes}
use Rattle.aes_block.specs.Cipher.{rounds}
use Rattle.aes_block.specs.Steps.{round_key}
use Rattle.aes_block.proofs.Blocks.{IsBlock-round_key}
use Rattle.aes_block.proofs.Rounds.{rounds-next, cipher-last}
use Rattle.aes_block.specs.declared.tables.TheConstants.{PLACES_0, PLACES_1, PLACES_2, PLACES_3}
use Rattle.aes_block.specs.Sealing.{into, placed}
use Rattle.aes_block.proofs.Bytes.{begun, IsBlock-rounds}
use Rattle.aes_block.proofs.sealing.sealed.Goals as goal

pub returns : goal.returns
unfolding rounds
returns c w keys =
    let b : List ℕ = c.args.block in
    let is : IsBlock b = c.begin-s0.ensures.bytes in
    let e0 = c.begin-s0.ensures.sum ∙ ap (xor_bytes (map into b)) (c.key_of.ensures ∙ keys.key_0)
    ∙ begun b (round_key w 0) is (IsBlock-round_key w 0) in
    let e1 = c.round_1-s1.ensures (rounds w b 0) (round_key w 1) (IsBlock-rounds w b 0 is) (IsBlock-round_key w 1) e0
    (c.key_of-2.ensures ∙ keys.key_1) ∙ ap (λ s. placed (map into s) PLACES_1)
    (rounds-next w b (rounds w b 0) 0 1 1 refl refl refl) in
    let e2 = c.round_2-s2.ensures (rounds w b 1) (round_key w 2) (IsBlock-rounds w b 1 is) (IsBlock-round_key w 2) e1
    (c.key_of-3.ensures ∙ keys.key_2) ∙ ap (λ s. placed (map into s) PLACES_2)
    (rounds-next w b (rounds w b 1) 1 2 2 refl refl refl) in
    let e3 = c.round_3-s3.ensures (rounds w b 2) (round_key w 3) (IsBlock-rounds w b 2 is) (IsBlock-round_key w 3) e2
    (c.key_of-4.ensures ∙ keys.key_3) ∙ ap (λ s. placed (map into s) PLACES_3)
    (rounds-next w b (rounds w b 2) 2 3 3 refl refl refl) in
    let e4 = c.round_0-s4.ensures (rounds w b 3) (round_key w 4) (IsBlock-rounds w b 3 is) (IsBlock-round_key w 4) e3
    (c.key_of-5.ensures ∙ keys.key_4) ∙ ap (λ s. placed (map into s) PLACES_0)
    (rounds-next w b (rounds w b 3) 3 4 4 refl refl refl) in
    let e5 = c.round_1-s5.ensures (rounds w b 4) (round_key w 5) (IsBlock-rounds w b 4 is) (IsBlock-round_key w 5) e4
    (c.key_of-6.ensures ∙ keys.key_5) ∙ ap (λ s. placed (map into s) PLACES_1)
    (rounds-next w b (rounds w b 4) 4 5 5 refl refl refl) in
    let e6 = c.round_2-s6.ensures (rounds w b 5) (round_key w 6) (IsBlock-rounds w b 5 is) (IsBlock-round_key w 6) e5
    (c.key_of-7.ensures ∙ keys.key_6) ∙ ap (λ s. placed (map into s) PLACES_2)
    (rounds-next w b (rounds w b 5) 5 6 6 refl refl refl) in
    let e7 = c.round_3-s7.ensures (rounds w b 6) (round_key w 7) (IsBlock-rounds w b 6 is) (IsBlock-round_key w 7) e6
    (c.key_of-8.ensures ∙ keys.key_7) ∙ ap (λ s. placed (map into s) PLACES_3)
    (rounds-next w b (rounds w b 6) 6 7 7 refl refl refl) in
    let e8 = c.round_0-s8.ensures (rounds w b 7) (round_key w 8) (IsBlock-rounds w b 7 is) (IsBlock-round_key w 8) e7
    (c.key_of-9.ensures ∙ keys.key_8) ∙ ap (λ s. placed (map into s) PLACES_0)
    (rounds-next w b (rounds w b 7) 7 8 8 refl refl refl) in
    let e9 = c.round_1-s9.ensures (rounds w b 8) (round_key w 9) (IsBlock-rounds w b 8 is) (IsBlock-round_key w 9) e8
    (c.key_of-10.ensures ∙ keys.key_9) ∙ ap (λ s. placed (map into s) PLACES_1)
    (rounds-next w b (rounds w b 8) 8 9 9 refl refl refl) in
    let e10 = c.round_2-s10.ensures (rounds w b 9) (round_key w 10) (IsBlock-rounds w b 9 is)
    (IsBlock-round_key w 10) e9 (c.key_of-11.ensures ∙ keys.key_10)
    ∙ ap (λ s. placed (map into s) PLACES_2) (rounds-next w b (rounds w b 9) 9 10 10 refl refl refl) in
    let e11 = c.round_3-s11.ensures (rounds w b 10) (round_key w 11) (IsBlock-rounds w b 10 is)
    (IsBlock-round_key w 11) e10 (c.key_of-12.ensures ∙ keys.key_11)
    ∙ ap (λ s. placed (map into s) PLACES_3) (rounds-next w b (rounds w b 10) 10 11 11 refl refl refl) in
    let e12 = c.round_0-s12.ensures (rounds w b 11) (round_key w 12) (IsBlock-rounds w b 11 is)
    (IsBlock-round_key w 12) e11 (c.key_of-13.ensures ∙ keys.key_12)
    ∙ ap (λ s. placed (map into s) PLACES_0) (rounds-next w b (rounds w b 11) 11 12 12 refl refl refl) in
    let e13 = c.round_1-s13.ensures (rounds w b 12) (round_key w 13) (IsBlock-rounds w b 12 is)
    (IsBlock-round_key w 13) e12 (c.key_of-14.ensures ∙ keys.key_13)
    ∙ ap (λ s. placed (map into s) PLACES_1) (rounds-next w b (rounds w b 12) 12 13 13 refl refl refl) in
    c.round_14.ensures (rounds w b 13) (round_key w 14) (IsBlock-rounds w b 13 is) (IsBlock-round_key w 14) e13
    (c.key_of-15.ensures ∙ keys.key_14) ∙ cipher-last w b (rounds w b 13) 13 refl refl
