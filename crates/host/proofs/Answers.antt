-- What the entries return and leave, and what a host reads off a mark.
-- From the definitions, at the tests that were made on the way.
use Rattle.std.specs.Prelude.{Err, Ok, Result, ⊤, Some, None, Option}
use Rattle.std.specs.Option.{unwrap_or}
use Prim.Native.Nat.{ℕ, ◌+◌, ◌*◌, ◌≤◌, ◌<◌}
use native.Mathlib.Omega.{arith}
use mathlib.Core.Path.{◌≡◌, refl, ap, ap₂, sym, ◌∙◌}
use mathlib.Core.Bool.{Bool, true, false, ◌&&◌, cond}
use mathlib.Core.Logic.{◌⊎◌, inl, inr}
use mathlib.Core.List.{List}
use lib.ListN.{length}
use lib.Dec.{leb}
use borrow.Author.Tests.{eq-eqb, ne_eqb, le-leb, lt-leb, leb-true}
use Rattle.fields.proofs.Laws.{value-fits}
use Rattle.refusal.specs.declared.Refusal.{Refusal}
use Rattle.refusal.specs.declared.Refusal.TheVariants as refusal
use Rattle.refusal.proofs.Passed.{passed}
use Rattle.molecule.specs.declared.Molecule.{Molecule}
use Rattle.molecule.specs.Record.{well_formed}
use Rattle.search.specs.Place.{fresh_search}
use Rattle.search.specs.Mark.{field_kept, value_at, mark_bonds, mark_length, restore_mark}
use Rattle.search.proofs.Starts.{rings-started}
use Rattle.host.specs.Gate.{mark_room, room_asked}
use Rattle.host.specs.Parts.{filled_value}
use Rattle.host.specs.Resume.{search_for, named_size, mark_size, listed_in}

module _ (mol : Molecule) (mark : List ℕ) where
  pub search-fresh : well_formed mol ≡ true → length mark ≡ 0 → Ok (fresh_search 0 0 0) ≡
      search_for mol mark
  unfolding search_for
  search-fresh formed e = rw (eq-eqb (length mark) 0 e, rings-started mol formed)

  pub search-restored : (length mark ≡ 0 → ⊥) → restore_mark mol mark ≡ search_for mol mark
  unfolding search_for
  search-restored h = rw (ne_eqb (length mark) 0 h)

-- ---- what is returned and left

-- rule 13 was asked, and kept
pub room-kept : (size : ℕ) {x : ⊤} → room_asked size ≡ Ok x → mark_room ≤ size
room-kept size e = leb-true mark_room size (passed (leb mark_room size) (Ok tt) refusal.MarkRoom e).0

-- an answer is either of the two
pub saved-ways : (x : Result ℕ Refusal) → ((k : ℕ) × (x ≡ Ok k)) ⊎ ((r : Refusal) × (x ≡ Err r))
saved-ways (Ok k) = inl (k, refl)
saved-ways (Err r) = inr (r, refl)

-- ---- what a host reads off a mark

-- a field of a mark, or none
told-some : (kept : Bool) {v w : ℕ} → ◌≡◌ {A = Option ℕ} (Some v) (cond kept (Some w) None) → (kept ≡ true) × (v ≡ w)
told-some true e = (refl, cc)
told-some false e = absurd (let z : ◌≡◌ {A = ℕ} 0 1 = cc in omega arith)

told-none : (kept : Bool) (w : ℕ) → ◌≡◌ {A = Option ℕ} None (cond kept (Some w) None) → kept ≡ false
told-none true w e = absurd (let z : ◌≡◌ {A = ℕ} 0 1 = cc in omega arith)
told-none false w e = refl

told-or-zero : (kept : Bool) (v : ℕ) → unwrap_or (cond kept (Some v) None) 0 ≡ cond kept v 0
told-or-zero true v = refl
told-or-zero false v = refl

module _ (columns : ℕ) (bytes : List ℕ) (at : ℕ) where
  pub value-read :
      {v : ℕ} → Some v ≡ filled_value columns bytes at →
      (field_kept columns bytes at ≡ true) × (v ≡ value_at columns bytes at)
  value-read e = told-some (field_kept columns bytes at) e

  pub value-none : None ≡ filled_value columns bytes at → field_kept columns bytes at ≡ false
  value-none e = told-none (field_kept columns bytes at) (value_at columns bytes at) e

module _ (bytes : List ℕ) where
  pub size-short : length bytes < 91 → 0 ≡ mark_size bytes
  unfolding mark_size
  size-short h = rw (lt-leb 91 (length bytes) h)

  pub listed-short : length bytes < 91 → 0 ≡ listed_in bytes
  unfolding listed_in
  listed-short h = rw (lt-leb 91 (length bytes) h)

  module _ (room : 91 ≤ length bytes) where
    pub listed-none : field_kept 20 bytes 69 ≡ false → 0 ≡ listed_in bytes
    unfolding listed_in
    listed-none e = rw (le-leb 91 (length bytes) room) (sym (ap (λ (t : Bool). cond t (value_at 20 bytes 69) 0) e))

    pub listed-read : field_kept 20 bytes 69 ≡ true → value_at 20 bytes 69 ≡ listed_in bytes
    unfolding listed_in
    listed-read e = rw (le-leb 91 (length bytes) room) (sym (ap (λ (t : Bool). cond t (value_at 20 bytes 69) 0) e))

    pub listed-value : {x : Option ℕ} → x ≡ filled_value 20 bytes 69 → unwrap_or x 0 ≡ listed_in bytes
    unfolding listed_in
    listed-value e =
        rw (le-leb 91 (length bytes) room, e) (told-or-zero (field_kept 20 bytes 69) (value_at 20 bytes 69))

    pub bonds-none : field_kept 4 bytes 16 ≡ false → 0 ≡ mark_size bytes
    unfolding mark_size
    bonds-none e =
        let size = named_size bytes in
        rw (le-leb 91 (length bytes) room)
        (sym (ap (λ (t : Bool). cond (t && field_kept 4 bytes 20 && leb size (length bytes)) size 0) e))

    pub length_none : field_kept 4 bytes 16 ≡ true → field_kept 4 bytes 20 ≡ false → 0 ≡ mark_size bytes
    unfolding mark_size
    length_none kept e =
        let size = named_size bytes in
        rw (le-leb 91 (length bytes) room)
        (sym (ap₂ (λ (t u : Bool). cond (t && u && leb size (length bytes)) size 0) kept e))

-- What is known where the bonds and the length of p were read from fields of a mark
pub record SizeRead (bytes : List ℕ) (bonds len : ℕ) : Type 0 where
  pub room : 91 ≤ length bytes
  pub bonds-kept : field_kept 4 bytes 16 ≡ true
  pub length-kept : field_kept 4 bytes 20 ≡ true
  pub bonds-are : bonds ≡ mark_bonds bytes
  pub length-is : len ≡ mark_length bytes

pub size-fields :
    {bytes : List ℕ} {bonds len : ℕ} → 91 ≤ length bytes → Some bonds ≡ filled_value 4 bytes 16 →
    Some len ≡ filled_value 4 bytes 20 → SizeRead bytes bonds len
size-fields {bytes} room bonds-read length-read =
    let (bonds-kept, bonds-are) = value-read 4 bytes 16 bonds-read in
    let (length-kept, length-is) = value-read 4 bytes 20 length-read in
    record {
      room = room;
      bonds-kept = bonds-kept;
      length-kept = length-kept;
      bonds-are = bonds-are;
      length-is = length-is;
    }

module _ {bytes : List ℕ} {bonds len : ℕ} (f : SizeRead bytes bonds len) where
  -- fields of 4 columns
  pub bonds-small : bonds < 10000
  bonds-small = rw f.bonds-are (value-fits 4 bytes 16)

  pub length-small : len < 10000
  length-small = rw f.length-is (value-fits 4 bytes 20)

  size-is : 91 + 4 * len + 9 * bonds ≡ named_size bytes
  size-is = rw (f.bonds-are, f.length-is)

  -- the last test decides
  size-by : (fits : Bool) → leb (named_size bytes) (length bytes) ≡ fits → cond fits (named_size bytes) 0 ≡
      mark_size bytes
  unfolding mark_size
  size-by fits e =
      rw (le-leb 91 (length bytes) f.room)
      (sym (ap₂ (λ (t u : Bool). cond (t && u && leb (named_size bytes) (length bytes)) (named_size bytes) 0)
      f.bonds-kept f.length-kept ∙ ap (λ (t : Bool). cond t (named_size bytes) 0) e))

  pub size-past : length bytes < 91 + 4 * len + 9 * bonds → 0 ≡ mark_size bytes
  size-past h = size-by false (lt-leb (named_size bytes) (length bytes) (rw size-is at h))

  pub size-read : 91 + 4 * len + 9 * bonds ≤ length bytes → 91 + 4 * len + 9 * bonds ≡ mark_size bytes
  size-read h = size-is ∙ size-by true (le-leb (named_size bytes) (length bytes) (rw size-is at h))
