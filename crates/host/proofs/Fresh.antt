-- The fresh mark, from which a host starts a search of any kind: its bytes, what it restores, its room in the output.
-- The bytes by computing; a fresh search keeps rule 12 where its kind, s and t keep rule 16, so its mark restores it.
use Rattle.std.specs.Prelude.{Ok}
use Prim.Native.Nat.{ℕ, ◌≤◌}
use native.Mathlib.Omega.{arith}
use mathlib.Core.Path.{◌≡◌, refl, ap, sym, ◌∙◌}
use mathlib.Core.Bool.{true}
use mathlib.Core.List.{List, [], ◌∷◌, ◌++◌, append-nil}
use lib.ListN.{length}
use Rattle.enumeration.specs.Machine.{fresh}
use Rattle.molecule.specs.declared.Molecule.{Molecule}
use Rattle.molecule.specs.Record.{well_formed}
use Rattle.molecule.specs.BondList.{bond_list}
use Rattle.molecule.proofs.Bonds.{rule9}
use Rattle.search.specs.Place.{beginning, search_at, fresh_search, kind_kept}
use Rattle.search.specs.Entries.{start_search}
use Rattle.search.specs.Mark.{fields_text, line_feed, three_lines, bond_lines, mark_text, restore_mark}
use Rattle.search.proofs.MarkLaws.{fresh-restorable, saved-restores}
use Rattle.search.proofs.Views.{search-length}
use Rattle.search.proofs.Accepts.{started-fresh}
use Rattle.mark_writer.specs.Parts.{MarkFits}
use Rattle.host.specs.Gate.{mark_room}
use Rattle.search.specs.declared.Search.{Search}

-- the array of a fresh search has 128 places
pub fresh-full : (kind s t : ℕ) → length (fresh_search kind s t).prefix ≡ 128
unfolding fresh_search fresh
fresh-full kind s t = search-length kind s t fresh (omega arith)

module _ (R : Molecule) (kind s t : ℕ) where
  -- the beginning is empty
  no-atoms : fields_text 4 (beginning (fresh_search kind s t)) ≡ []
  unfolding fresh_search search_at fresh beginning fields_text
  no-atoms = refl

  -- Its bytes: kind, s, t, n, m, 0 and 1 in line 1, three counts 0 in line 2, an empty line 3, and the bond lines
  pub fresh-mark :
      mark_text R (fresh_search kind s t)
      ≡ fields_text 4 (kind ∷ s ∷ t ∷ R.atoms ∷ R.bonds ∷ 0 ∷ 1 ∷ []) ++ line_feed
      ++ fields_text 20 (0 ∷ 0 ∷ 0 ∷ []) ++ line_feed
      ++ line_feed
      ++ bond_lines (bond_list R.rows)
  unfolding mark_text three_lines fresh_search search_at fresh
  fresh-mark =
      let line1 = fields_text 4 (kind ∷ s ∷ t ∷ R.atoms ∷ R.bonds ∷ 0 ∷ 1 ∷ []) in
      let line2 = fields_text 20 (0 ∷ 0 ∷ 0 ∷ []) in
      let bonds = bond_lines (bond_list R.rows) in
      ap (λ (l : List ℕ). (line1 ++ line_feed ++ line2 ++ line_feed ++ l ++ line_feed) ++ bonds) no-atoms
      ∙ ap (λ (l : List ℕ). (l ++ line_feed) ++ bonds) (append-nil (line1 ++ line_feed ++ line2 ++ line_feed))

  pub fresh-restores :
      well_formed R ≡ true → kind_kept R.atoms kind s t ≡ true →
      restore_mark R (mark_text R (fresh_search kind s t)) ≡ Ok (fresh_search kind s t)
  fresh-restores good kept =
      saved-restores R (fresh_search kind s t) good (fresh-restorable R kind s t good kept) (fresh-full kind s t)

-- ---- its room

-- the search of an accepted start is the fresh one
pub started-same :
    (mol : Molecule) (kind s t : ℕ) (q : Search) → start_search mol kind s t ≡ Ok q → fresh_search kind s t ≡ q
started-same mol kind s t q e = let both = sym (started-fresh mol kind s t e) ∙ e in cc

-- its mark has room
pub start_fits :
    (mol : Molecule) (kind s t : ℕ) (q : Search) (next : List ℕ) → well_formed mol ≡ true →
    start_search mol kind s t ≡ Ok q → mark_room ≤ length next → MarkFits mol q next
unfolding fresh_search search_at fresh
start_fits mol kind s t q next formed made room =
    let same : fresh_search kind s t ≡ q = started-same mol kind s t q made in
    rw (← same)
    (record {
      formed = formed;
      lines = record { short = omega arith; full = fresh-full kind s t; room = omega arith };
      room = omega (arith, (rule9 mol formed).bonds_high);
    })
