-- The plain lines of some symbols and bonds name them, and fit the lines of a file.
-- A written number reads back from its columns; line i of the text is the line of symbol or bond i.
use Rattle.std.specs.Prelude.{None}
use Prim.Native.Nat.{ℕ, zero, suc, ◌+◌, ◌-◌, ◌*◌, ◌/◌, ◌%◌, ◌≤◌, ◌<◌}
use native.Mathlib.Omega.{arith}
use mathlib.Core.Path.{◌≡◌, refl, ap, sym, ◌∙◌}
use mathlib.Core.Bool.{Bool, true, false, not, cond}
use mathlib.Core.List.{List, [], ◌∷◌, ◌++◌, map, append_assoc}
use lib.ListN.{length, get_or, take, drop, length-append, length-map, get_or-append}
use lib.Seq.{take_at, drop_at, take_all, drop-append-add, get_or-append-add}
use lib.Dec.{eqb}
use borrow.Author.Tests.{le-leb, eq-eqb, ne_eqb}
use Rattle.graph.proofs.Below.{and_left, and_right, and_parts, and_both, not-of, all_below-of}
use Rattle.fields.specs.Field.{number, limit, is_digit, digits, after_blanks, column, columns, field_text}
use Rattle.fields.proofs.Digits.{passed, digits-end-value, digit-read}
use Rattle.fields.proofs.Blanks.{text-read}
use Rattle.fields.proofs.Laws.{field-length}
use Rattle.bonds.specs.Bonds.{Bond}
use Rattle.sheet.specs.Text.{bond_at}
use Rattle.molfile.specs.Lines.{file_line, stands}
use Rattle.molfile.specs.Molfile.{number_at, numbers_kept, numbers_in, version, end_word, counts_line_kept, symbol_in}
use Rattle.molfile.specs.Molfile.{bond_line_kept, is_end, has_end, atom_line}
use Rattle.molfile.specs.Text.{lacks, last_byte, fits_line, all_fit, Names, Symbol, Small, blank_columns, pair_text}
use Rattle.molfile.specs.Text.{counts_text, atom_text, bond_text, plain_lines, unreturned}
use Rattle.molfile.proofs.Texts.{lacks-append}

-- ---- a number in three columns

-- what is a number filled with blanks is one where leading zeros are allowed
digits-zeros :
    (w : ℕ) (bs : List ℕ) (v : ℕ) (filled : Bool) → digits false w bs ≡ number v filled →
    digits true w bs ≡ number v true
unfolding digits
digits-zeros w [] v filled e = ap (λ x. number x true) (digits-end-value false w v filled e).0
digits-zeros w (b ∷ bs) v filled e =
    let digit = digit-read false w b bs v filled e in
    let now = w * 10 + (b - 48) in
    rw (le-leb 48 b digit.low, le-leb b 57 digit.high, le-leb now limit digit.fits)
    (digits-zeros now bs v filled digit.rest)

blanks-zeros :
    (bs : List ℕ) (v : ℕ) (filled : Bool) → after_blanks false bs ≡ number v filled →
    after_blanks true bs ≡ number v true
unfolding after_blanks
blanks-zeros [] v filled e = let z : ◌≡◌ {A = ℕ} 0 1 = cc in absurd (omega arith)
blanks-zeros (b ∷ bs) v filled e = go (blanks-zeros bs v filled) (eqb b 32) e
  where
    go :
        (after_blanks false bs ≡ number v filled → after_blanks true bs ≡ number v true) → (t : Bool) →
        cond t (after_blanks false bs) (cond (is_digit b) (digits false (b - 48) bs) None) ≡ number v filled →
        cond t (after_blanks true bs) (cond (is_digit b) (digits true (b - 48) bs) None) ≡ number v true
    go more true e = more e
    go more false e =
        let (digit, rest) = passed (is_digit b) (digits false (b - 48) bs) v filled e in
        rw digit (digits-zeros (b - 48) bs v filled rest)

number_read : (v : ℕ) → v ≤ 999 → after_blanks true (field_text 3 v) ≡ number v true
number_read v small =
    blanks-zeros (field_text 3 v) v false (text-read 3 v (omega arith) (omega arith) (omega arith))

-- ---- two numbers, and what follows them

module _ {a b : ℕ} (left : a ≤ 999) (right : b ≤ 999) (rest : List ℕ) where
  left-number : number_at (pair_text a b rest) 0 ≡ number a true
  left-number = rw (take_at (field_text 3 a) (field_text 3 b ++ rest) 3 (field-length 3 a)) (number_read a left)

  right-number : number_at (pair_text a b rest) 3 ≡ number b true
  right-number =
      let skip = drop_at (field_text 3 a) (field_text 3 b ++ rest) 3 (field-length 3 a) in
      let field = take_at (field_text 3 b) rest 3 (field-length 3 b) in
      rw (skip, field) (number_read b right)

  pair-kept : numbers_kept (pair_text a b rest) ≡ true
  pair-kept = rw (left-number, right-number)

  pair_is : numbers_in (pair_text a b rest) ≡ (a, b)
  pair_is = rw (left-number, right-number)

pair-length : (a b : ℕ) (rest : List ℕ) → length (pair_text a b rest) ≡ 6 + length rest
pair-length a b rest = simp (length-append, field-length) (omega arith)

-- the line of counts
counts-line-kept : {n m : ℕ} → n ≤ 999 → m ≤ 999 → counts_line_kept (counts_text n m) ≡ true
unfolding counts_line_kept stands
counts-line-kept {n} {m} few light =
    let kept = pair-kept few light (blank_columns 28 ++ version) in
    let word = all_below-of 5 (λ k. eqb (get_or (counts_text n m) (34 + k) 0) (get_or version k 0)) here in
    rw (pair-length n m (blank_columns 28 ++ version), kept, word)
  where
    front : List ℕ
    front = pair_text n m (blank_columns 28)

    front_length : length front ≡ 34
    front_length = pair-length n m (blank_columns 28)

    here : (k : ℕ) → k < 5 → eqb (get_or (counts_text n m) (34 + k) 0) (get_or version k 0) ≡ true
    here k h =
        let whole : front ++ version ≡ counts_text n m = simp append_assoc in
        let at = ap (λ j. get_or (front ++ version) (j + k) 0) front_length in
        eq-eqb _ _ (rw whole at (sym at ∙ get_or-append-add front version k 0))

-- a bond line
bond-line-kept : (bond : Bond) → Small bond → bond_line_kept (bond_text bond) ≡ true
unfolding bond_line_kept
bond-line-kept bond small =
    rw (pair-length bond.0 bond.1 [], pair-kept small.left small.right [])

-- ---- lines that fit

column-high : (v : ℕ) → 32 ≤ column v
unfolding column
column-high v = go (eqb v 0)
  where
    go : (t : Bool) → 32 ≤ cond t 32 (48 + v % 10)
    go true = omega arith
    go false = omega arith

-- a byte below the blank is in no number
module _ {b : ℕ} (low : b < 32) where
  byte-lacks : (x : ℕ) → 32 ≤ x → lacks b (x ∷ []) ≡ true
  unfolding lacks
  byte-lacks x high = rw (ne_eqb x b (λ e. omega arith))

  columns-lack : (k v : ℕ) → lacks b (columns k v) ≡ true
  unfolding columns lacks
  columns-lack zero v = refl
  columns-lack (suc k) v =
      let last = byte-lacks (column v) (column-high v) in
      lacks-append b (columns k (v / 10)) (column v ∷ []) (columns-lack k (v / 10)) last

  field-lacks : (k v : ℕ) → lacks b (field_text k v) ≡ true
  unfolding field_text lacks
  field-lacks zero v = refl
  field-lacks (suc k) v =
      let last = byte-lacks (48 + v % 10) (omega arith) in
      lacks-append b (columns k (v / 10)) ((48 + v % 10) ∷ []) (columns-lack k (v / 10)) last

  pair-lacks : (x y : ℕ) (rest : List ℕ) → lacks b rest ≡ true → lacks b (pair_text x y rest) ≡ true
  pair-lacks x y rest none =
      lacks-append b (field_text 3 x) (field_text 3 y ++ rest) (field-lacks 3 x)
      (lacks-append b (field_text 3 y) rest (field-lacks 3 y) none)

-- a byte that is in a text nowhere is not its last one
lacks-at : (b : ℕ) → 0 < b → (xs : List ℕ) (i : ℕ) → lacks b xs ≡ true → not (eqb (get_or xs i 0) b) ≡ true
unfolding lacks
lacks-at b some [] i none = not-of (eqb 0 b) (ne_eqb 0 b (λ e. omega arith))
lacks-at b some (x ∷ xs) zero none = and_left (not (eqb x b)) (lacks b xs) none
lacks-at b some (x ∷ xs) (suc i) none = lacks-at b some xs i (and_right (not (eqb x b)) (lacks b xs) none)

unreturned-fits : (text : List ℕ) → lacks 10 text ≡ true → lacks 13 text ≡ true → fits_line (text, false) ≡ true
unfolding fits_line
unreturned-fits text no_feed no_return =
    and_both (lacks 10 text) (not (eqb (last_byte text) 13)) no_feed
    (lacks-at 13 (omega arith) text (length text - 1) no_return)

-- lines one by one
fit_then :
    (xs ys : List (List ℕ)) → all_fit (unreturned xs) ≡ true → all_fit (unreturned ys) ≡ true →
    all_fit (unreturned (xs ++ ys)) ≡ true
unfolding all_fit
fit_then [] ys left right = right
fit_then (x ∷ xs) ys left right =
    let parts = and_parts (fits_line (x, false)) (all_fit (unreturned xs)) left in
    and_both _ _ parts.0 (fit_then xs ys parts.1 right)

fit-map :
    {A : Type 0} (f : A → List ℕ) (d : A) (xs : List A) →
    ((i : ℕ) → i < length xs → fits_line (f (get_or xs i d), false) ≡ true) → all_fit (unreturned (map f xs)) ≡ true
unfolding all_fit
fit-map f d [] fits = refl
fit-map f d (x ∷ xs) fits =
    and_both _ _ (fits 0 (omega arith)) (fit-map f d xs (λ i h. fits (suc i) (omega arith)))

pair_fits :
    (a b : ℕ) (rest : List ℕ) → lacks 10 rest ≡ true → lacks 13 rest ≡ true → fits_line (pair_text a b rest, false) ≡
    true
pair_fits a b rest no_feed no_return =
    unreturned-fits (pair_text a b rest) (pair-lacks (omega arith) a b rest no_feed)
    (pair-lacks (omega arith) a b rest no_return)

-- ---- line i

map_at :
    {A B : Type 0} (f : A → B) (xs : List A) (i : ℕ) (d : A) (e : B) → i < length xs →
    get_or (map f xs) i e ≡ f (get_or xs i d)
map_at f [] i d e h = absurd (omega arith)
map_at f (x ∷ xs) zero d e h = refl
map_at f (x ∷ xs) (suc i) d e h = map_at f xs i d e (omega arith)

module _ (symbols : List (List ℕ)) (bonds : List Bond) where
  abbrev n : ℕ
  n = length symbols

  abbrev m : ℕ
  m = length bonds

  abbrev lines : List (List ℕ)
  lines = plain_lines symbols bonds

  -- the lines up to the last atom line, and the rest
  abbrev heads : List (List ℕ)
  heads = [] ∷ [] ∷ [] ∷ counts_text n m ∷ map atom_text symbols

  abbrev bond_lines : List (List ℕ)
  bond_lines = map bond_text bonds

  abbrev tail : List (List ℕ)
  tail = end_word ∷ []

  heads-length : length heads ≡ 4 + n
  heads-length = let all = length-map symbols atom_text in omega arith

  counts-at : file_line lines 3 ≡ counts_text n m
  unfolding plain_lines
  counts-at = refl

  atom-at : (i : ℕ) → i < n → atom_line lines i ≡ atom_text (get_or symbols i [])
  unfolding plain_lines
  atom-at i h =
      let all = length-map symbols atom_text in
      get_or-append-add (take 4 heads) (map atom_text symbols ++ (bond_lines ++ tail)) i []
      ∙ get_or-append (map atom_text symbols) (bond_lines ++ tail) [] i (omega arith)
      ∙ map_at atom_text symbols i [] [] h

  bond-at : (k : ℕ) → k < m → file_line lines (4 + n + k) ≡ bond_text (bond_at bonds k)
  unfolding plain_lines
  bond-at k h =
      let all = length-map bonds bond_text in
      ap (λ j. file_line lines (j + k)) (sym heads-length)
      ∙ get_or-append-add heads (bond_lines ++ tail) k []
      ∙ get_or-append bond_lines tail [] k (omega arith)
      ∙ map_at bond_text bonds k (0, 0) [] h

  past-at : drop (4 + n + m) lines ≡ tail
  unfolding plain_lines
  past-at =
      ap (λ j. drop (j + m) lines) (sym heads-length)
      ∙ drop-append-add heads (bond_lines ++ tail) m
      ∙ drop_at bond_lines tail m (length-map bonds bond_text)

  -- The plain lines name the symbols and bonds
  pub plain-names :
      n ≤ 999 → m ≤ 999 → ((i : ℕ) → i < n → Symbol (get_or symbols i [])) →
      ((k : ℕ) → k < m → Small (bond_at bonds k)) → Names symbols bonds lines
  unfolding has_end is_end stands
  plain-names few light symbol small =
      record {
        counts-kept = rw counts-at (counts-line-kept few light);
        counts = rw counts-at (pair_is few light (blank_columns 28 ++ version));
        atom_kept = λ i h. rw (atom-at i h, (symbol i h).size);
        symbol = λ i h. ap symbol_in (atom-at i h) ∙
            take_all 3 (get_or symbols i []) (omega (arith, (symbol i h).size));
        bond_kept = λ k h. rw (bond-at k h) (bond-line-kept (bond_at bonds k) (small k h));
        bond = λ k h. rw (bond-at k h) (pair_is (small k h).left (small k h).right []);
        ended = rw past-at;
      }

  -- and fit
  pub plain-fit : ((i : ℕ) → i < n → Symbol (get_or symbols i [])) → all_fit (unreturned lines) ≡ true
  unfolding plain_lines all_fit fits_line lacks
  plain-fit symbol =
      let ended = fit_then bond_lines tail (fit-map bond_text (0, 0) bonds bond) refl in
      let named = fit_then (map atom_text symbols) (bond_lines ++ tail) (fit-map atom_text [] symbols atom) ended in
      fit_then (take 4 heads) (map atom_text symbols ++ (bond_lines ++ tail)) first named
    where
      first : all_fit (unreturned (take 4 heads)) ≡ true
      first = and_both _ _ (pair_fits n m (blank_columns 28 ++ version) refl refl) refl

      atom : (i : ℕ) → i < n → fits_line (atom_text (get_or symbols i []), false) ≡ true
      atom i h = unreturned-fits (atom_text (get_or symbols i [])) (symbol i h).no_feed (symbol i h).no_return

      bond : (k : ℕ) → k < m → fits_line (bond_text (bond_at bonds k), false) ≡ true
      bond k h = pair_fits (bond_at bonds k).0 (bond_at bonds k).1 [] refl refl
