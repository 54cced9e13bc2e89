-- Marks (document 01, as request F-5 amends them): the text of a search on a molecule, and what bytes restore to.
use Rattle.std.specs.Prelude.{ℕ, zero, suc, ◌+◌, ◌*◌, Bool, true, ◌&&◌, cond, List, [], ◌∷◌, ◌++◌, reverse, length, get_or, drop, leb, eqb, Err, Ok, Result}
use Rattle.graph.specs.Every.{all_below}
pub use Rattle.fields.specs.Field.{field_at, blanks_only, value_of, value_at}
use Rattle.fields.specs.Field.{field_text}
use Rattle.refusal.specs.declared.Refusal.TheVariants as refusal
use Rattle.refusal.specs.Answers.{◌>>=◌, unless_refused}
use Rattle.molecule.specs.declared.Molecule.{Molecule}
use Rattle.molecule.specs.Record.{well_formed}
use Rattle.molecule.specs.BondList.{Bond, bond_list, ascending, same_bonds}
use Rattle.search.specs.declared.Search.{Search}
use Rattle.search.specs.Place.{beginning, family_of, search_at, kind_kept, place_kept, restorable}
use Rattle.refusal.specs.declared.Refusal.{Refusal}

-- numbers, each in a field of so many columns
unfoldable pub fields_text : ℕ → List ℕ → List ℕ
fields_text columns [] = []
fields_text columns (v ∷ vs) = field_text columns v ++ fields_text columns vs

abbrev pub line_feed : List ℕ
line_feed = 10 ∷ []

-- The three lines of a mark: kind, s, t, n, m, length of p, c; the three counts; the atoms of p
unfoldable pub three_lines : Molecule → Search → List ℕ
three_lines mol q =
    fields_text 4 (q.kind ∷ q.s ∷ q.t ∷ mol.atoms ∷ mol.bonds ∷ q.len ∷ q.next ∷ []) ++ line_feed
    ++ fields_text 20 (q.trials ∷ q.extensions ∷ q.listed ∷ []) ++ line_feed
    ++ fields_text 4 (beginning q) ++ line_feed

-- Bond lines, laid out as on a blank-filled sheet: two atoms in 4 columns each, and a line feed
unfoldable pub bond_lines : List Bond → List ℕ
bond_lines [] = []
bond_lines (x ∷ xs) = fields_text 4 (x.0 ∷ x.1 ∷ []) ++ line_feed ++ bond_lines xs

-- A mark: the three lines, and then one line for each bond of the molecule
unfoldable pub mark_text : Molecule → Search → List ℕ
mark_text mol q = three_lines mol q ++ bond_lines (bond_list mol.rows)

-- Rule 13: a mark is written where the output has its bytes; the number of bytes written
abbrev pub write_answer : List ℕ → List ℕ → Result ℕ Refusal
write_answer text out = cond (leb (length text) (length out)) (Ok (length text)) (Err refusal.MarkRoom)

-- the bytes that an answer leaves in the output: the mark, and then the bytes that were there
abbrev pub written_bytes : Result ℕ Refusal → List ℕ → List ℕ → List ℕ
written_bytes (Ok k) text out = text ++ drop k out
written_bytes (Err r) text out = out

-- The same where rules were tried before that the text comes of: the first refusal is the answer and leaves every byte
abbrev pub answer_with : Result (List ℕ) Refusal → List ℕ → Result ℕ Refusal
answer_with text out = text >>= λ t. write_answer t out

abbrev pub output_with : Result (List ℕ) Refusal → List ℕ → List ℕ
output_with text out = unless_refused text (λ r. out) (λ t. written_bytes (write_answer t out) t out)

-- A save: rule 9, rule 12, rule 13
unfoldable pub save_answer : Molecule → Search → List ℕ → Result ℕ Refusal
save_answer mol q out =
    cond (well_formed mol)
    (cond (restorable mol q) (write_answer (mark_text mol q) out) (Err refusal.Search))
    (Err refusal.Record)

-- Its output
unfoldable pub save_output : Molecule → Search → List ℕ → List ℕ
save_output mol q out = written_bytes (save_answer mol q out) (mark_text mol q) out

-- a field that a mark may have: a number field that zeros do not fill
abbrev pub field_kept : ℕ → List ℕ → ℕ → Bool
field_kept columns bytes at = blanks_only (field_at columns bytes at)

-- the first k fields from a place on are such fields
unfoldable pub fields_kept : ℕ → List ℕ → ℕ → ℕ → Bool
fields_kept columns bytes at k = all_below k (λ i. field_kept columns bytes (at + columns * i))

abbrev pub is_feed : List ℕ → ℕ → Bool
is_feed bytes at = eqb (get_or bytes at 0) 10

-- the number of bonds that a mark names, in the fifth field, and the length of p, in the sixth
abbrev pub mark_bonds : List ℕ → ℕ
mark_bonds bytes = value_at 4 bytes 16

abbrev pub mark_length : List ℕ → ℕ
mark_length bytes = value_at 4 bytes 20

-- Three lines of number fields, none filled with zeros, the length of p at most 127, and past them so many bytes for
-- each bond
unfoldable pub three_lines_kept : ℕ → List ℕ → Bool
three_lines_kept per_bond bytes =
    leb 91 (length bytes)
    && fields_kept 4 bytes 0 7
    && is_feed bytes 28
    && fields_kept 20 bytes 29 3
    && is_feed bytes 89
    && leb (mark_length bytes) 127
    && eqb (length bytes) (91 + 4 * mark_length bytes + per_bond * mark_bonds bytes)
    && fields_kept 4 bytes 90 (mark_length bytes)
    && is_feed bytes (90 + 4 * mark_length bytes)

-- k bond lines from a place on: two fields that zeros do not fill and a line feed each
unfoldable pub bond_lines_kept : List ℕ → ℕ → ℕ → Bool
bond_lines_kept bytes at zero = true
bond_lines_kept bytes at (suc k) = fields_kept 4 bytes at 2 && is_feed bytes (at + 8) &&
    bond_lines_kept bytes (at + 9) k

-- the bonds of k bond lines from a place on
unfoldable pub bonds_at : List ℕ → ℕ → ℕ → List Bond
bonds_at bytes at zero = []
bonds_at bytes at (suc k) = (value_at 4 bytes at, value_at 4 bytes (at + 4)) ∷ bonds_at bytes (at + 9) k

-- where the bond lines of a mark begin, and the bonds that it names
abbrev pub bonds_from : List ℕ → ℕ
bonds_from bytes = 91 + 4 * mark_length bytes

abbrev pub bonds_named : List ℕ → List Bond
bonds_named bytes = bonds_at bytes (bonds_from bytes) (mark_bonds bytes)

-- Rule 14 kept: three lines and m bond lines, 91 + 4 × length + 9 × m bytes; every bond with its lower atom first and
-- later in dictionary order than the one above it (the first than 0 0, as any such bond is)
unfoldable pub layout_kept : List ℕ → Bool
layout_kept bytes =
    three_lines_kept 9 bytes
    && bond_lines_kept bytes (bonds_from bytes) (mark_bonds bytes)
    && ascending (0, 0) (bonds_named bytes)

-- the values of k fields of 4 columns from a place on
unfoldable pub values_at : List ℕ → ℕ → ℕ → List ℕ
values_at bytes at zero = []
values_at bytes at (suc k) = value_at 4 bytes at ∷ values_at bytes (at + 4) k

-- the beginning that a mark names
abbrev pub mark_beginning : List ℕ → List ℕ
mark_beginning bytes = values_at bytes 90 (mark_length bytes)

-- the search that a mark names
unfoldable pub mark_search : List ℕ → Search
mark_search bytes =
    search_at (value_at 4 bytes 0) (value_at 4 bytes 4) (value_at 4 bytes 8)
    (record {
      stack = reverse (mark_beginning bytes);
      next = value_at 4 bytes 24;
      trials = value_at 20 bytes 29;
      extensions = value_at 20 bytes 49;
      listed = value_at 20 bytes 69;
    })

-- Rule 15 kept: the mark belongs to the molecule, by the same n and the same bonds
unfoldable pub belongs : Molecule → List ℕ → Bool
belongs mol bytes = eqb (value_at 4 bytes 12) mol.atoms && same_bonds (bonds_named bytes) (bond_list mol.rows)

-- Rules 16 and 17 on the kind and the place that a mark names, and its search
unfoldable pub placed_search : Molecule → List ℕ → Result Search Refusal
placed_search mol bytes =
    cond (kind_kept mol.atoms (value_at 4 bytes 0) (value_at 4 bytes 4) (value_at 4 bytes 8))
    (cond (place_kept (family_of mol (value_at 4 bytes 0) (value_at 4 bytes 4) (value_at 4 bytes 8))
    (mark_beginning bytes)
    (value_at 4 bytes 24))
    (Ok (mark_search bytes))
    (Err refusal.MarkPlace))
    (Err refusal.MarkKind)

-- Rules 9, 14 and 15, the last two by whether each is kept, then 16 and 17
unfoldable pub restore_by : Bool → Bool → Molecule → List ℕ → Result Search Refusal
restore_by layout own mol bytes =
    cond (well_formed mol)
    (cond layout
    (cond own (placed_search mol bytes) (Err refusal.MarkMolecule))
    (Err refusal.MarkBytes))
    (Err refusal.Record)

-- A restore: rules 9, 14, 15, 16, 17
unfoldable pub restore_mark : Molecule → List ℕ → Result Search Refusal
restore_mark mol bytes = restore_by (layout_kept bytes) (belongs mol bytes) mol bytes
