-- Number fields of document 01, as request F-2 amends them: blanks or zeros, then decimal digits, right-justified.
-- A field has one filling; filled with blanks it has no leading zero, and zero is one digit 0.
-- A field of 4 columns and one of 20 are the same text at another width.
use Rattle.std.specs.Prelude.{ℕ, zero, suc, ◌+◌, ◌-◌, ◌*◌, ◌/◌, ◌%◌, ◌^◌, ◌≤◌, ◌<◌, ◌≡◌, Bool, true, false, ◌&&◌, ◌||◌, not, cond, List, [], ◌∷◌, ◌++◌, ◌⊎◌, get_or, take, drop, leb, ltb, eqb, Option, Some, None}
use Rattle.fields.specs.declared.Number.{Number}

-- what a number field holds: its value, and whether zeros fill the field
abbrev pub number : ℕ → Bool → Option Number
number v zeros = Some (record { value = v; zeros = zeros })

-- The limit of a count, and so of what a field may hold
abbrev pub limit : ℕ
limit = 9999999999999999999

abbrev pub is_digit : ℕ → Bool
is_digit b = leb 48 b && leb b 57

-- whether a digit may follow digits worth v: unless leading zeros are allowed, a 0 stands alone
abbrev pub may_follow : Bool → ℕ → Bool
may_follow zeros v = zeros || ltb 0 v

-- digits that follow digits worth v
unfoldable pub digits : Bool → ℕ → List ℕ → Option Number
digits zeros v [] = number v zeros
digits zeros v (b ∷ bs) =
    cond (is_digit b && may_follow zeros v && leb (v * 10 + (b - 48)) limit) (digits zeros (v * 10 + (b - 48)) bs) None

-- blanks, then one digit or more; leading zeros where they are allowed, which is handed on with the value
unfoldable pub after_blanks : Bool → List ℕ → Option Number
after_blanks zeros [] = None
after_blanks zeros (b ∷ bs) =
    cond (eqb b 32) (after_blanks zeros bs) (cond (is_digit b) (digits zeros (b - 48) bs) None)

-- Zeros fill a field that has a digit 0 in its first column
abbrev pub zero_first : List ℕ → Bool
zero_first bytes = eqb (get_or bytes 0 0) 48

-- What the bytes of a field say: its value and whether zeros fill it, or that they are no number
unfoldable pub read_field : List ℕ → Option Number
read_field bytes = after_blanks (zero_first bytes) bytes

-- the byte of a column where v is what is left of the number: its last digit, or a blank
unfoldable pub column : ℕ → ℕ
column v = cond (eqb v 0) 32 (48 + v % 10)

-- k columns that end with the digits of v, and hold blanks before them
unfoldable pub columns : ℕ → ℕ → List ℕ
columns zero v = []
columns (suc k) v = columns k (v / 10) ++ (column v ∷ [])

-- A field of k columns that holds v, filled with blanks; the last column has a digit even where v is 0
unfoldable pub field_text : ℕ → ℕ → List ℕ
field_text zero v = []
field_text (suc k) v = columns k (v / 10) ++ ((48 + v % 10) ∷ [])

-- A field of k columns that holds v, filled with zeros: a digit in every column
unfoldable pub zero_text : ℕ → ℕ → List ℕ
zero_text zero v = []
zero_text (suc k) v = zero_text k (v / 10) ++ ((48 + v % 10) ∷ [])

-- The two texts of a number, by whether zeros fill them
abbrev pub filled_text : Bool → ℕ → ℕ → List ℕ
filled_text true k v = zero_text k v
filled_text false k v = field_text k v

-- The field of so many columns at a place of some bytes (fewer where
-- the bytes end: who uses it checks their number), whether it is a
-- number field, and its value (0 where it is none)
abbrev pub field_at : ℕ → List ℕ → ℕ → Option Number
field_at columns bytes at = read_field (take columns (drop at bytes))

abbrev pub is_value : Option Number → Bool
is_value (Some x) = true
is_value None = false

-- What a mark accepts: a number field that zeros do not fill
abbrev pub blanks_only : Option Number → Bool
blanks_only (Some x) = not x.zeros
blanks_only None = false

abbrev pub value_of : Option Number → ℕ
value_of (Some x) = x.value
value_of None = 0

abbrev pub value_at : ℕ → List ℕ → ℕ → ℕ
value_at columns bytes at = value_of (field_at columns bytes at)

-- Two texts of one number of k columns, in any fillings
pub record SameNumber (k : ℕ) (a b : List ℕ) : Type 0 where
  pub value : ℕ
  pub below : value < 10 ^ k
  pub most : value ≤ limit
  pub zeros_left : Bool
  pub zeros_right : Bool
  pub left : a ≡ filled_text zeros_left k value
  pub right : b ≡ filled_text zeros_right k value

-- Two fields that differ in filling only, as texts of k columns, or not at all
abbrev pub Refilled : ℕ → List ℕ → List ℕ → Type 0
Refilled k a b = (a ≡ b) ⊎ SameNumber k a b
