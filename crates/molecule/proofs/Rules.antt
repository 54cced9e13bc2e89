-- The tests of the record check together are the rules of the rows: every bit that is set is within n, off the
-- diagonal and mirrored. A place of the rows is a row and a column, and the other way round.
use Prim.Native.Nat.{ℕ, ◌+◌, ◌*◌, ◌/◌, ◌%◌, ◌≤◌, ◌<◌}
use native.Mathlib.Decide.{dec_lt}
use native.Mathlib.Omega.{arith}
use mathlib.Core.Path.{◌≡◌, refl, ap, sym, ◌∙◌}
use mathlib.Core.Bool.{Bool, true, false, ◌&&◌, ◌||◌, not, beq}
use mathlib.Core.List.{List}
use lib.ListN.{length, get_or, get_or-eq_default}
use lib.Dec.{leb, ltb, eqb}
use borrow.Author.Tests.{lt-ltb, ltb-true, le-leb, leb-true, eq-eqb, eqb-true, ne_eqb, eqb-false, not-true}
use Rattle.graph.specs.Every.{all_below}
use Rattle.graph.proofs.Below.{all_below-at, all_below-of, and_parts, and_both, same_test, beq-true, beq_same}
use Rattle.graph.proofs.Below.{false_of, not-of, apart, implies-intro, implies-elim}
use Rattle.molecule.specs.Record.{bit, cell, ones_of, every_cell, rows_of_bytes, symmetric}
use Rattle.molecule.specs.Record.{loopless, within, well_formed}
use Rattle.molecule.specs.declared.Molecule.{Molecule}
use Rattle.molecule.specs.Parts.{mirrored, bit_sound, byte_sound, rows_sound}

-- rows of 2,048 bytes
pub record Rows (rows : List ℕ) : Type 0 where
  pub size : length rows ≡ 2048
  pub byte : (at : ℕ) → get_or rows at 0 < 256

pub rows-of-bytes : {rows : List ℕ} → Rows rows → rows_of_bytes rows ≡ true
unfolding rows_of_bytes
rows-of-bytes {rows} f =
    and_both _ _ (eq-eqb (length rows) 2048 f.size)
    (all_below-of 2048 (λ at. ltb (get_or rows at 0) 256) (λ at h. lt-ltb (get_or rows at 0) 256 (f.byte at)))

pub bytes-of-rows : (rows : List ℕ) → rows_of_bytes rows ≡ true → Rows rows
unfolding rows_of_bytes
bytes-of-rows rows e =
    let (size, bytes) = and_parts (eqb (length rows) 2048) (all_below 2048 (λ at. ltb (get_or rows at 0) 256)) e in
    let whole = eqb-true (length rows) 2048 size in
    record { size = whole; byte = λ at. go at bytes whole (dec_lt at 2048) }
  where
    go :
        (at : ℕ) → all_below 2048 (λ at. ltb (get_or rows at 0) 256) ≡ true → length rows ≡ 2048 → Dec (at < 2048) →
        get_or rows at 0 < 256
    go at bytes size (yes h) =
        ltb-true (get_or rows at 0) 256 (all_below-at 2048 (λ at. ltb (get_or rows at 0) 256) bytes at h)
    go at bytes size (no h) =
        let past : length rows ≤ at = omega arith in
        omega (arith, get_or-eq_default rows 0 past)

-- tests over rows and columns

pub every-elim : (test : ℕ → ℕ → Bool) → every_cell test ≡ true → (i j : ℕ) → i < 128 → j < 128 → test i j ≡ true
every-elim test e i j hi hj = all_below-at 128 (test i) (all_below-at 128 (λ i. all_below 128 (test i)) e i hi) j hj

pub every-intro : (test : ℕ → ℕ → Bool) → ((i j : ℕ) → i < 128 → j < 128 → test i j ≡ true) → every_cell test ≡ true
every-intro test f =
    all_below-of 128 (λ i. all_below 128 (test i)) (λ i hi. all_below-of 128 (test i) (λ j hj. f i j hi hj))

-- what is known of a bit that is set
pub record Mirror (rows : List ℕ) (n i j : ℕ) : Type 0 where
  pub row_within : i < n
  pub column_within : j < n
  pub off_diagonal : i ≡ j → ⊥
  pub image : cell rows j i ≡ true

mirror-of : (rows : List ℕ) (n i j : ℕ) → mirrored rows n i j ≡ true → Mirror rows n i j
unfolding mirrored
mirror-of rows n i j e =
    let outer = and_parts (ltb i n && ltb j n && not (eqb i j)) (cell rows j i) e in
    let middle = and_parts (ltb i n && ltb j n) (not (eqb i j)) outer.0 in
    let inner = and_parts (ltb i n) (ltb j n) middle.0 in
    record {
      row_within = ltb-true i n inner.0;
      column_within = ltb-true j n inner.1;
      off_diagonal = eqb-false i j (not-true (eqb i j) middle.1);
      image = outer.1;
    }

of-mirror : (rows : List ℕ) (n i j : ℕ) → Mirror rows n i j → mirrored rows n i j ≡ true
unfolding mirrored
of-mirror rows n i j m =
    rw (lt-ltb i n m.row_within, lt-ltb j n m.column_within, ne_eqb i j m.off_diagonal) m.image

-- every bit that is set has its mirror image, by row and column
unfoldable pub Sound : List ℕ → ℕ → Type 0
Sound rows n = (i j : ℕ) → i < 128 → j < 128 → cell rows i j ≡ true → Mirror rows n i j

-- a bit by the place of its byte
mirrored-at :
    (rows : List ℕ) (n : ℕ) → rows_sound rows n ≡ true →
    (at k : ℕ) → at < 2048 → k < 8 → bit (get_or rows at 0) k ≡ true →
    mirrored rows n (at / 16) (at % 16 * 8 + k) ≡ true
unfolding rows_sound byte_sound bit_sound
mirrored-at rows n e at k place offset set =
    let byte = all_below-at 2048 (byte_sound rows n) e at place in
    let here = all_below-at 8 (bit_sound rows n at) byte k offset in
    implies-elim (bit (get_or rows at 0) k) (mirrored rows n (at / 16) (at % 16 * 8 + k)) here set

sound-of-bytes : (rows : List ℕ) (n : ℕ) → rows_sound rows n ≡ true → Sound rows n
unfolding Sound cell
sound-of-bytes rows n e i j hi hj set =
    let row : (16 * i + j / 8) / 16 ≡ i = omega arith in
    let column : (16 * i + j / 8) % 16 * 8 + j % 8 ≡ j = omega arith in
    let m = mirrored-at rows n e (16 * i + j / 8) (j % 8) (omega arith) (omega arith) set in
    mirror-of rows n i j (rw (row, column) at m)

pub bytes-of-sound : (rows : List ℕ) (n : ℕ) → Sound rows n → rows_sound rows n ≡ true
unfolding Sound rows_sound byte_sound bit_sound cell
bytes-of-sound rows n sound =
    all_below-of 2048 (byte_sound rows n)
    (λ at place. all_below-of 8 (bit_sound rows n at) (λ k offset. here at k place offset))
  where
    here : (at k : ℕ) → at < 2048 → k < 8 → bit_sound rows n at k ≡ true
    here at k place offset =
        let i = at / 16 in
        let j = at % 16 * 8 + k in
        let same_byte : 16 * (at / 16) + (at % 16 * 8 + k) / 8 ≡ at = omega arith in
        let same_bit : (at % 16 * 8 + k) % 8 ≡ k = omega arith in
        implies-intro (bit (get_or rows at 0) k) (mirrored rows n i j)
        (λ set. of-mirror rows n i j (sound i j (omega arith) (omega arith) (rw (same_byte, same_bit) set)))

-- the tests of a row and a column in `symmetric` and in `within`
abbrev mirrors : List ℕ → ℕ → ℕ → Bool
mirrors rows i j = beq (cell rows i j) (cell rows j i)

abbrev inside : List ℕ → ℕ → ℕ → ℕ → Bool
inside rows n i j = not (cell rows i j) || ltb i n && ltb j n

-- the rules of the rows, one by one
rules-of-sound : (rows : List ℕ) (n : ℕ) → Sound rows n → (symmetric rows && loopless rows && within n rows) ≡ true
unfolding Sound symmetric loopless within
rules-of-sound rows n sound =
    let symmetric = every-intro (mirrors rows) mirrored-here in
    let loopless = all_below-of 128 (λ i. not (cell rows i i)) clear-here in
    and_both _ _ (and_both _ _ symmetric loopless) (every-intro (inside rows n) inside-here)
  where
    mirrored-here : (i j : ℕ) → i < 128 → j < 128 → mirrors rows i j ≡ true
    mirrored-here i j hi hj =
        beq_same (cell rows i j) (cell rows j i)
        (same_test (cell rows i j) (cell rows j i) (λ e. (sound i j hi hj e).image) (λ e. (sound j i hj hi e).image))

    clear-here : (i : ℕ) → i < 128 → not (cell rows i i) ≡ true
    clear-here i hi = not-of (cell rows i i) (false_of (cell rows i i) (λ e. (sound i i hi hi e).off_diagonal refl))

    inside-here : (i j : ℕ) → i < 128 → j < 128 → inside rows n i j ≡ true
    inside-here i j hi hj =
        implies-intro (cell rows i j) (ltb i n && ltb j n)
        (λ e. let m = sound i j hi hj e in and_both _ _ (lt-ltb i n m.row_within) (lt-ltb j n m.column_within))

pub sound-of-rules : (rows : List ℕ) (n : ℕ) → (symmetric rows && loopless rows && within n rows) ≡ true → Sound rows n
unfolding Sound symmetric loopless within
sound-of-rules rows n e i j hi hj set =
    let outer = and_parts (symmetric rows && loopless rows) (within n rows) e in
    let inner = and_parts (symmetric rows) (loopless rows) outer.0 in
    let mirror = every-elim (mirrors rows) inner.0 i j hi hj in
    let clear = all_below-at 128 (λ i. not (cell rows i i)) inner.1 i hi in
    let within = every-elim (inside rows n) outer.1 i j hi hj in
    let parts = and_parts (ltb i n) (ltb j n) (implies-elim (cell rows i j) (ltb i n && ltb j n) within set) in
    record {
      row_within = ltb-true i n parts.0;
      column_within = ltb-true j n parts.1;
      off_diagonal = λ d. apart (sym set ∙ ap (λ k. cell rows i k) (sym d) ∙ not-true (cell rows i i) clear);
      image = sym (beq-true (cell rows i j) (cell rows j i) mirror) ∙ set;
    }

-- The check of the rows decides their rules
pub rows-rules : (rows : List ℕ) (n : ℕ) → (symmetric rows && loopless rows && within n rows) ≡ rows_sound rows n
rows-rules rows n =
    same_test (symmetric rows && loopless rows && within n rows) (rows_sound rows n)
    (λ e. bytes-of-sound rows n (sound-of-rules rows n e))
    (λ e. rules-of-sound rows n (sound-of-bytes rows n e))

-- Rule 9 where n and m are in range, the rows are bytes and keep their rules
pub rule-in-range :
    (mol : Molecule) → mol.atoms ≤ 128 → mol.bonds ≤ 1024 →
    rows_of_bytes mol.rows ≡ true → rows_sound mol.rows mol.atoms ≡ true →
    well_formed mol ≡ eqb (ones_of mol.rows) (2 * mol.bonds)
unfolding well_formed
rule-in-range mol hn hm bytes e =
    rw (le-leb mol.atoms 128 hn, le-leb mol.bonds 1024 hm, bytes, rows-rules mol.rows mol.atoms, e)

-- Rule 9 by the tests before the count of ones: one of them fails, or the count decides
module _ (mol : Molecule) where
  abbrev pub tests_kept : Bool
  tests_kept = leb mol.atoms 128 && leb mol.bonds 1024 && rows_sound mol.rows mol.atoms

  pub rule-broken : tests_kept ≡ false → well_formed mol ≡ false
  unfolding well_formed
  rule-broken e =
      go (leb mol.atoms 128 && leb mol.bonds 1024) (rows_of_bytes mol.rows)
      (rw (← rows-rules mol.rows mol.atoms) at e)
    where
      go :
          (in_range bytes : Bool) →
          (in_range && (symmetric mol.rows && loopless mol.rows && within mol.atoms mol.rows)) ≡ false →
          (in_range && bytes && symmetric mol.rows && loopless mol.rows && within mol.atoms mol.rows
          && eqb (ones_of mol.rows) (2 * mol.bonds)) ≡ false
      go true true e = rw e
      go true false e = refl
      go false bytes e = refl

  pub rule-counts :
      rows_of_bytes mol.rows ≡ true → tests_kept ≡ true → well_formed mol ≡ eqb (ones_of mol.rows) (2 * mol.bonds)
  rule-counts bytes e =
      let (ranges, sound) = and_parts (leb mol.atoms 128 && leb mol.bonds 1024) (rows_sound mol.rows mol.atoms) e in
      let (few, light) = and_parts (leb mol.atoms 128) (leb mol.bonds 1024) ranges in
      rule-in-range mol (leb-true mol.atoms 128 few) (leb-true mol.bonds 1024 light) bytes sound
