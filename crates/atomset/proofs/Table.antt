-- The words of the rows: bytes joined to words keep their bits, and a word's bits are those of its row.
-- A place of a word is a byte and a place in it.
use Prim.Native.Nat.{ℕ, zero, suc, ◌+◌, ◌-◌, ◌*◌, ◌/◌, ◌%◌, ◌^◌, ◌≤◌, ◌<◌}
use native.Mathlib.Nat.{add-zero, mul-le-mul_right}
use Rattle.std.proofs.lemmas.Nat.{pow-add}
use native.Mathlib.Omega.{arith}
use mathlib.Core.Path.{◌≡◌, refl, ap, ap₂, sym, ◌∙◌}
use mathlib.Core.Bool.{true, false, ◌&&◌}
use mathlib.Core.List.{List, [], ◌∷◌}
use mathlib.Core.Logic.{◌⊎◌, inl, inr}
use lib.ListN.{length, get_or}
use lib.Dec.{leb, ltb}
use borrow.Author.Tests.{le-leb, leb-true, ltb-true, ltb-false}
use Rattle.std.specs.Int.{w64, from_le_bytes}
use Rattle.graph.proofs.Below.{either, and_parts}
use Rattle.molecule.specs.Record.{bit, cell, is_atom}
use Rattle.atomset.specs.Set.{has, linked_by, Reads, WordsOf}
use Rattle.atomset.proofs.Digits.{bit-low, bit_high}

pub reads_byte : (bytes : List ℕ) (at : ℕ) → Reads bytes at 8 (get_or bytes at 0)
unfolding Reads
reads_byte bytes at j h =
    let byte : at + j / 8 ≡ at = omega arith in
    let place : j % 8 ≡ j = omega arith in
    rw (byte, place)

-- m bytes, and a number above them that is read after them
pub reads-join :
    (bytes : List ℕ) (at m count lo hi : ℕ) → lo < 2 ^ (8 * m) → Reads bytes at (8 * m) lo →
    Reads bytes (at + m) count hi → Reads bytes at (8 * m + count) (hi * 2 ^ (8 * m) + lo)
unfolding Reads
reads-join bytes at m count lo hi small low high j h = split (either (ltb j (8 * m)))
  where
    split :
        (ltb j (8 * m) ≡ true) ⊎ (ltb j (8 * m) ≡ false) →
        bit (hi * 2 ^ (8 * m) + lo) j ≡ bit (get_or bytes (at + j / 8) 0) (j % 8)
    split (inl t) = let below = ltb-true j (8 * m) t in bit-low hi (8 * m) lo j below ∙ low j below
    split (inr t) =
        let above = ltb-false j (8 * m) t in
        let rest : 8 * m + (j - 8 * m) ≡ j = omega arith in
        let byte : at + m + (j - 8 * m) / 8 ≡ at + j / 8 = omega arith in
        let place : (j - 8 * m) % 8 ≡ j % 8 = omega arith in
        ap (λ (k : ℕ). bit (hi * 2 ^ (8 * m) + lo) k) (sym rest) ∙ bit_high hi (8 * m) lo (j - 8 * m) small ∙
        high (j - 8 * m) (omega arith)
        ∙ ap₂ (λ (i k : ℕ). bit (get_or bytes i 0) k) byte place

-- the number that m bytes make, the lowest first
record Joined (bytes : List ℕ) (at m word : ℕ) : Type 0 where
  small : word < 2 ^ (8 * m)
  bits : Reads bytes at (8 * m) word

module _ (bytes : List ℕ) (at : ℕ) (fits : (i : ℕ) → get_or bytes i 0 < 256) where
  first-byte : Joined bytes at 1 (get_or bytes at 0)
  first-byte = record { small = fits at; bits = reads_byte bytes at }

  more-bytes :
      {lo : ℕ} (m : ℕ) → Joined bytes at m lo → Joined bytes at (m + 1) (lo + get_or bytes (at + m) 0 * 2 ^ (8 * m))
  more-bytes {lo} m r =
      let byte = get_or bytes (at + m) 0 in
      let size : 8 * (m + 1) ≡ 8 * m + 8 = omega arith in
      let power : 2 ^ (8 * m + 8) ≡ 2 ^ (8 * m) * 256 = pow-add 2 (8 * m) 8 in
      let most : byte * 2 ^ (8 * m) ≤ 255 * 2 ^ (8 * m) =
      mul-le-mul_right (2 ^ (8 * m)) (omega (arith, fits (at + m))) in
      let order : byte * 2 ^ (8 * m) + lo ≡ lo + byte * 2 ^ (8 * m) = omega arith in
      let bits = reads-join bytes at m 8 lo byte r.small r.bits (reads_byte bytes (at + m)) in
      record { small = rw (size, power) (omega (arith, r.small)); bits = rw (size, ← order) bits }

  pub eight-bytes :
      {word : ℕ} →
      word ≡
      from_le_bytes w64
      (get_or bytes at 0 ∷ get_or bytes (at + 1) 0 ∷ get_or bytes (at + 2) 0 ∷ get_or bytes (at + 3) 0 ∷
      get_or bytes (at + 4) 0 ∷ get_or bytes (at + 5) 0 ∷ get_or bytes (at + 6) 0 ∷ get_or bytes (at + 7) 0 ∷ []) →
      Reads bytes at 64 word
  eight-bytes e =
      let four = more-bytes 3 (more-bytes 2 (more-bytes 1 first-byte)) in
      rw e (more-bytes 7 (more-bytes 6 (more-bytes 5 (more-bytes 4 four)))).bits

-- a table that has every word of the rows has their bits
pub table-linked :
    (rows table : List ℕ) → ((i : ℕ) → i < 256 → Reads rows (8 * i) 64 (get_or table i 0)) → WordsOf rows table
unfolding linked_by cell Reads
table-linked rows table words a b la ha lb hb =
    let i = 2 * (a - 1) + (b - 1) / 64 in
    let j = (b - 1) % 64 in
    let byte : 8 * i + j / 8 ≡ 16 * (a - 1) + (b - 1) / 8 = omega arith in
    let place : j % 8 ≡ (b - 1) % 8 = omega arith in
    let same : bit (get_or table i 0) j ≡ bit (get_or rows (8 * i + j / 8) 0) (j % 8) =
    words i (omega arith) j (omega arith) in
    rw (le-leb 1 a la, le-leb a 128 ha, le-leb 1 b lb, le-leb b 128 hb)
    (same ∙ ap₂ (λ (p q : ℕ). bit (get_or rows p 0) q) byte place)

-- the row of an atom: two words of the table
abbrev row_of : List ℕ → ℕ → List ℕ
row_of table a = get_or table (2 * (a - 1)) 0 ∷ get_or table (2 * (a - 1) + 1) 0 ∷ []

pub row-linked : (table : List ℕ) (a : ℕ) → 1 ≤ a → a ≤ 128 → (b : ℕ) → has (row_of table a) b ≡ linked_by table a b
unfolding has linked_by
row-linked table a l h b = rw (le-leb 1 a l, le-leb a 128 h) (split (either (is_atom 128 b)))
  where
    pick : (w : ℕ) → w < 2 → get_or (row_of table a) w 0 ≡ get_or table (2 * (a - 1) + w) 0
    pick zero p = ap (λ (i : ℕ). get_or table i 0) (sym (add-zero (2 * (a - 1))))
    pick (suc zero) p = refl
    pick (suc (suc w)) p = absurd (omega arith)

    split :
        (is_atom 128 b ≡ true) ⊎ (is_atom 128 b ≡ false) →
        (is_atom 128 b && bit (get_or (row_of table a) ((b - 1) / 64) 0) ((b - 1) % 64)) ≡
        (is_atom 128 b && bit (get_or table (2 * (a - 1) + (b - 1) / 64) 0) ((b - 1) % 64))
    split (inr e) = rw e
    split (inl e) =
        let top = leb-true b 128 (and_parts (leb 1 b) (leb b 128) e).1 in
        rw e (ap (λ (n : ℕ). bit n ((b - 1) % 64)) (pick ((b - 1) / 64) (omega arith)))

-- the first i words of the table are read
pub record ReadTo (rows table : List ℕ) (i : ℕ) : Type 0 where
  pub within : i ≤ 256
  pub size : length table ≡ 256
  pub read : (k : ℕ) → k < i → Reads rows (8 * k) 64 (get_or table k 0)

pub read_all : {rows table : List ℕ} {i : ℕ} → ReadTo rows table i → 256 ≤ i → WordsOf rows table
read_all {rows} {table} t h = table-linked rows table (λ k below. t.read k (omega arith))
