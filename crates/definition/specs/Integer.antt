-- The Marshal integer: its bytes and its 32 bits, as a word below 2^32 in two's complement (01, "Integer" and "dump"; 02, 2.6).
use Rattle.std.specs.Prelude.{ℕ, zero, suc, ◌+◌, ◌-◌, ◌*◌, ◌/◌, ◌%◌, ◌^◌, Bool, ◌&&◌, List, [], ◌∷◌, ltb, leb, eqb}
use Rattle.std.specs.Int.Count.{count_leading_zeros}
use Rattle.definition.specs.Run.{pick}

-- ---- reading

-- what the first byte says: a value, or how many data bytes there are and the bits above them
pub data Form : Type 0 where
  value : ℕ → Form
  data_bytes : ℕ → ℕ → Form

-- "First byte 00 is 0; 05 to 7F is signed byte − 5; 80 to FB is signed byte + 5. 01 to 04: that many little-endian bytes over zeros; FF to FC: 1 to 4 bytes over all ones"
unfoldable pub form : ℕ → Form
form b =
    pick (eqb b 0) (value 0)
    (pick (leb b 4) (data_bytes b 0)
    (pick (leb b 127) (value (b - 5))
    (pick (leb b 251) (value ((2 ^ 32 + b - 251) % 2 ^ 32))
    (data_bytes (256 - b) (256 ^ (b - 252) - 1)))))

-- "little-endian bytes over" the bits above them
unfoldable pub little : List ℕ → ℕ → ℕ
little [] above = above
little (b ∷ bs) above = little bs above * 256 + b

-- "Size byte 04 with the top data bit set", or "FC with it clear": does the size byte b disagree with the sign of the word read?
unfoldable pub wrong_sign : ℕ → ℕ → Bool
wrong_sign b w = pick (eqb b 4) (leb 2147483648 w) (eqb b 252 && ltb w 2147483648)

-- ---- writing

-- the lowest n bytes of a word, lowest first
unfoldable pub low_bytes : ℕ → ℕ → List ℕ
low_bytes zero w = []
low_bytes (suc n) w = (w % 256) ∷ low_bytes n (w / 256)

-- "the fewest data bytes, found from the leading zero bits of the value"
unfoldable pub fewest : ℕ → ℕ
fewest v = (39 - count_leading_zeros 32 v) / 8

-- "0 is 00; 1 to 122 is value + 5; −123 to −1 is value − 5; otherwise the fewest data bytes, found from the leading zero bits of the value, or of −1 − value when negative"
unfoldable pub integer_bytes : ℕ → List ℕ
integer_bytes w =
    pick (eqb w 0) (0 ∷ [])
    (pick (leb w 122) ((w + 5) ∷ [])
    (pick (ltb w 2147483648) (fewest w ∷ low_bytes (fewest w) w)
    (pick (ltb w 4294967173) ((256 - fewest (4294967295 - w)) ∷ low_bytes (fewest (4294967295 - w)) w)
    (((w - 5) % 256) ∷ []))))
