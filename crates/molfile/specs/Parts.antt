-- What the parts of the molfile reader hold. Nothing to believe: the reader's contract is `read_molfile`.
use Rattle.std.specs.Prelude.{ℕ, ◌+◌, ◌-◌, ◌≤◌, ◌<◌, ◌≡◌, Bool, true, false, not, List, [], ◌∷◌, length, get_or, take, drop, eqb, Option, Some, None}
use Rattle.graph.specs.Every.{all_below}
use Rattle.bonds.specs.Parts.{listed}
use Rattle.molfile.specs.declared.Line.{Line}
use Rattle.bonds.specs.Bonds.{Bond}
use Rattle.molfile.specs.declared.Counts.{Counts}
use Rattle.molfile.specs.Lines.{lines_in, file_line, reaches}
use Rattle.molfile.specs.Elements.{built_in, limit_of}
use Rattle.molfile.specs.Molfile.{numbers_kept, numbers_in, counts_line_kept, atom_line_kept, symbol_in, bond_line_kept}
use Rattle.molfile.specs.Molfile.{atoms_in, bonds_in, bond_in, form_kept, limits_of}

-- the lines from a place on, and the bytes between two places
abbrev pub lines_from : List ℕ → ℕ → List (List ℕ)
lines_from s from = lines_in (drop from s)

abbrev pub between : List ℕ → ℕ → ℕ → List ℕ
between s from end = take (end - from) (drop from s)

-- byte j from a place on is no line feed
abbrev pub no_feed_at : List ℕ → ℕ → ℕ → Bool
no_feed_at s at j = not (eqb (get_or s (at + j) 0) 10)

-- no line feed stands between two places
pub record NoFeed (s : List ℕ) (from to : ℕ) : Type 0 where
  pub ordered : from ≤ to
  pub inside : to ≤ length s
  pub none : (j : ℕ) → from ≤ j → j < to → get_or s j 0 ≡ 10 → ⊥

-- the first line feed from a place on, if there is one
pub record FirstFeed (s : List ℕ) (from feed : ℕ) : Type 0 where
  pub none_before : NoFeed s from feed
  pub here : get_or s feed 0 ≡ 10
  pub inside : feed < length s

abbrev pub FindsFeed : List ℕ → ℕ → Option ℕ → Type 0
FindsFeed s from None = NoFeed s from (length s)
FindsFeed s from (Some feed) = FirstFeed s from feed

-- a line stands between two places, and the next one begins at a third
pub record LineFound (s : List ℕ) (from end next : ℕ) : Type 0 where
  pub starts : from ≤ end
  pub ends : end < next
  pub inside : next ≤ length s
  pub first : lines_from s from ≡ between s from end ∷ lines_from s next

-- the line at a place, if one stands there
abbrev pub ReadsFileLine : List ℕ → ℕ → Option Line → Type 0
ReadsFileLine s from None = lines_from s from ≡ []
ReadsFileLine s from (Some line) = LineFound s from line.end line.next

-- a line that reaches so many columns
pub record LongLine (s : List ℕ) (from columns : ℕ) (line : Line) : Type 0 where
  pub found : LineFound s from line.end line.next
  pub long : columns ≤ line.end - from

-- the line at a place, if it reaches so many columns
abbrev pub ReadsLongLine : List ℕ → ℕ → ℕ → Option Line → Type 0
ReadsLongLine s from columns None = reaches columns (file_line (lines_from s from) 0) ≡ false
ReadsLongLine s from columns (Some line) = LongLine s from columns line

-- so many lines were passed from a place on
pub record LinesPassed (s : List ℕ) (from i at : ℕ) : Type 0 where
  pub inside : at ≤ length s
  pub rest : lines_from s at ≡ drop i (lines_from s from)

-- so many lines are skipped; no line follows where one is missing
abbrev pub SkipsLines : List ℕ → ℕ → Option ℕ → Type 0
SkipsLines s count None = drop count (lines_from s 0) ≡ []
SkipsLines s count (Some at) = LinesPassed s 0 count at

-- the two numbers of a line, of at most three digits
pub record SmallPair (line : List ℕ) (x : Bond) : Type 0 where
  pub kept : numbers_kept line ≡ true
  pub is : x ≡ numbers_in line
  pub small_left : x.0 ≤ 999
  pub small_right : x.1 ≤ 999

abbrev pub ReadsPair : List ℕ → Option Bond → Type 0
ReadsPair line None = numbers_kept line ≡ false
ReadsPair line (Some x) = SmallPair line x

-- the counts line, first of the lines from a place on
pub record CountsRead (s : List ℕ) (from : ℕ) (r : Counts) : Type 0 where
  pub kept : counts_line_kept (file_line (lines_from s from) 0) ≡ true
  pub is : (r.atoms, r.bonds) ≡ numbers_in (file_line (lines_from s from) 0)
  pub passed : LinesPassed s from 1 r.next
  pub few-atoms : r.atoms ≤ 999
  pub few-bonds : r.bonds ≤ 999

abbrev pub ReadsCounts : List ℕ → ℕ → Option Counts → Type 0
ReadsCounts s from None = counts_line_kept (file_line (lines_from s from) 0) ≡ false
ReadsCounts s from (Some r) = CountsRead s from r

-- so many lines from a place on keep a part of rule 18, each by itself, and the next one begins at a place
pub record LinesKept (kept : List ℕ → Bool) (s : List ℕ) (from n at : ℕ) : Type 0 where
  pub passed : LinesPassed s from n at
  pub all : all_below n (λ i. kept (file_line (lines_from s from) i)) ≡ true

-- one of them breaks it
abbrev pub LinesBroken : (List ℕ → Bool) → List ℕ → ℕ → ℕ → Type 0
LinesBroken kept s from n = all_below n (λ i. kept (file_line (lines_from s from) i)) ≡ false

-- the most neighbours of atom i, counted from 0, in the list that the reader fills
abbrev pub held_limit : List ℕ → ℕ → ℕ
held_limit limits i = get_or limits i 0

-- those of the first n atoms are there
pub record LimitsStored (lines : List (List ℕ)) (n : ℕ) (limits : List ℕ) : Type 0 where
  pub at : (i : ℕ) → i < n → held_limit limits i ≡ limit_of built_in (symbol_in (file_line lines i))

-- n atom lines from a place on
abbrev pub ReadsAtomLines : List ℕ → ℕ → ℕ → Option ℕ → List ℕ → Type 0
ReadsAtomLines s from n None limits = LinesBroken atom_line_kept s from n
ReadsAtomLines s from n (Some at) limits =
    LinesKept atom_line_kept s from n at × LimitsStored (lines_from s from) n limits

-- the atoms of the first m bonds are there
pub record BondsStored (lines : List (List ℕ)) (m : ℕ) (bonds : List Bond) : Type 0 where
  pub at : (k : ℕ) → k < m → listed bonds k ≡ numbers_in (file_line lines k)

-- m bond lines from a place on
abbrev pub ReadsBondLines : List ℕ → ℕ → ℕ → Option ℕ → List Bond → Type 0
ReadsBondLines s from m None bonds = LinesBroken bond_line_kept s from m
ReadsBondLines s from m (Some at) bonds =
    LinesKept bond_line_kept s from m at × BondsStored (lines_from s from) m bonds

-- the lists have a place for each atom, and for each bond
pub record ListsFit (n m : ℕ) (limits : List ℕ) (bonds : List Bond) : Type 0 where
  pub limits_fit : n ≤ length limits
  pub bonds_fit : m ≤ length bonds

-- lines that keep rule 18: n and m, the most neighbours of each atom, and the atoms of each bond
pub record LinesNamed (lines : List (List ℕ)) (x : ℕ × ℕ) (limits : List ℕ) (bonds : List Bond) : Type 0 where
  pub form : form_kept lines ≡ true
  pub counts : x ≡ (atoms_in lines, bonds_in lines)
  pub fit : ListsFit x.0 x.1 limits bonds
  pub limits_are : (i : ℕ) → i < x.0 → held_limit limits i ≡ limits_of built_in lines i
  pub bonds_are : (k : ℕ) → k < x.1 → listed bonds k ≡ bond_in lines k

-- what the lines of a file name, if they keep rule 18
abbrev pub ReadsFileLines : List ℕ → Option (ℕ × ℕ) → List ℕ → List Bond → Type 0
ReadsFileLines s None limits bonds = form_kept (lines_in s) ≡ false
ReadsFileLines s (Some x) limits bonds = LinesNamed (lines_in s) x limits bonds
