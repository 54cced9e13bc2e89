-- What a host reads off a mark at the start of a buffer: its bytes and its listed count (document 01, "Marks").
-- A saved mark restores its search, so its fields hold that search's numbers; bytes past the mark are not looked at.
use Prim.Native.Nat.{ℕ, ◌+◌, ◌*◌, ◌≤◌, ◌<◌}
use native.Mathlib.Omega.{arith}
use mathlib.Core.Path.{◌≡◌, refl, ap, sym, ◌∙◌}
use mathlib.Core.Bool.{true}
use mathlib.Core.List.{List, ◌++◌}
use lib.ListN.{length, take, drop, length-append, length-drop}
use lib.Seq.{take-append-le, drop-append-le}
use Rattle.graph.proofs.Below.{all_below-at}
use Rattle.fields.specs.Field.{read_field}
use Rattle.molecule.specs.declared.Molecule.{Molecule}
use Rattle.molecule.specs.Record.{well_formed}
use Rattle.molecule.specs.BondList.{bond_list}
use Rattle.search.specs.declared.Search.{Search}
use Rattle.search.specs.Place.{search_at, restorable}
use Rattle.search.specs.Mark.{field_at, blanks_only, field_kept, value_of, fields_kept, three_lines, bond_lines, mark_text}
use Rattle.search.specs.Mark.{mark_bonds, mark_length, mark_search}
use Rattle.search.proofs.Lines.{ThreeLines, layout-facts}
use Rattle.search.proofs.Restores.{Restored, restored-facts, three-length}
use Rattle.search.proofs.MarkLaws.{saved-restores}
use Rattle.host.specs.Resume.{mark_size, listed_in}
use Rattle.host.proofs.Answers.{listed-read, SizeRead, size-read}

-- a field within the front of some bytes
front-field :
    (c at : ℕ) (front rest : List ℕ) → at + c ≤ length front → field_at c (front ++ rest) at ≡ field_at c front at
front-field c at front rest h =
    ap (λ (l : List ℕ). read_field (take c l)) (drop-append-le at front rest (omega arith))
    ∙ ap read_field (take-append-le c (drop at front) rest (rw length-drop (omega arith)))

-- the field of the listed count
listed_kept : {per_bond : ℕ} {bytes : List ℕ} → ThreeLines per_bond bytes → field_kept 20 bytes 69 ≡ true
listed_kept {bytes = bytes} lines =
    all_below-at 3 (λ (i : ℕ). field_kept 20 bytes (29 + 20 * i))
    (unfold fields_kept in lines.counts-kept) 2 (omega arith)

-- the fields of the first line
head_kept :
    {per_bond : ℕ} {bytes : List ℕ} → ThreeLines per_bond bytes → (i : ℕ) → i < 7 → field_kept 4 bytes (4 * i) ≡ true
head_kept {bytes = bytes} lines =
    all_below-at 7 (λ (i : ℕ). field_kept 4 bytes (4 * i)) (unfold fields_kept in lines.head_kept)

-- the listed count of a mark that is accepted
pub listed-restored : (mol : Molecule) (bytes : List ℕ) (q : Search) → Restored mol bytes q → listed_in bytes ≡ q.listed
unfolding mark_search search_at
listed-restored mol bytes q f =
    let lines = (layout-facts bytes f.layout).lines in
    sym (listed-read bytes (omega (arith, lines.size)) (listed_kept lines))
    ∙ ap (λ (x : Search). x.listed) f.search

-- a mark has bytes
pub mark-some : (mol : Molecule) (q : Search) → length (mark_text mol q) ≡ 0 → ⊥
unfolding mark_text
mark-some mol q none =
    omega (arith, length-append (three_lines mol q) (bond_lines (bond_list mol.rows)), three-length mol q)

module _ (mol : Molecule) (q : Search) (formed : well_formed mol ≡ true) (kept : restorable mol q ≡ true)
    (full : length q.prefix ≡ 128) where
  saved : Restored mol (mark_text mol q) q
  saved = restored-facts mol (mark_text mol q) q (saved-restores mol q formed kept full)

  lines : ThreeLines 9 (mark_text mol q)
  lines = (layout-facts (mark_text mol q) saved.layout).lines

  module _ (rest : List ℕ) where
    abbrev buffer : List ℕ
    buffer = mark_text mol q ++ rest

    whole : length buffer ≡ length (mark_text mol q) + length rest
    whole = length-append (mark_text mol q) rest

    -- the fields of the bonds and of the length
    bonds-same : field_at 4 buffer 16 ≡ field_at 4 (mark_text mol q) 16
    bonds-same = front-field 4 16 (mark_text mol q) rest (omega (arith, lines.size))

    length-same : field_at 4 buffer 20 ≡ field_at 4 (mark_text mol q) 20
    length-same = front-field 4 20 (mark_text mol q) rest (omega (arith, lines.size))

    size-known : SizeRead buffer (mark_bonds buffer) (mark_length buffer)
    size-known =
        record {
          room = omega (arith, lines.size, whole);
          bonds-kept = ap blanks_only bonds-same ∙ head_kept lines 4 (omega arith);
          length-kept = ap blanks_only length-same ∙ head_kept lines 5 (omega arith);
          bonds-are = refl;
          length-is = refl;
        }

    pub mark-size : mark_size buffer ≡ length (mark_text mol q)
    mark-size =
        let bonds : mark_bonds buffer ≡ mark_bonds (mark_text mol q) = ap value_of bonds-same in
        let len : mark_length buffer ≡ mark_length (mark_text mol q) = ap value_of length-same in
        sym (size-read size-known (omega (arith, lines.size, whole)))
        ∙ omega (arith, lines.size)

    pub mark-listed : listed_in buffer ≡ q.listed
    mark-listed =
        let same = front-field 20 69 (mark_text mol q) rest (omega (arith, lines.size)) in
        let kept = ap blanks_only same ∙ listed_kept lines in
        sym (listed-read buffer (omega (arith, lines.size, whole)) kept)
        ∙ ap value_of same
        ∙ listed-read (mark_text mol q) (omega (arith, lines.size)) (listed_kept lines)
        ∙ listed-restored mol (mark_text mol q) q saved
