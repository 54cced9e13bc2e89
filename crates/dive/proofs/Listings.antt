-- The records of the fast loop in the output: one more stands after those that were listed.
-- What was there before and the records so far are the first bytes, and what follows them is as it was.
use Prim.Native.Nat.{ℕ, ◌+◌, ◌-◌, ◌≤◌}
use native.Mathlib.Omega.{arith}
use mathlib.Core.Path.{◌≡◌, sym, ap, ◌∙◌}
use mathlib.Core.List.{List, [], ◌++◌, append_assoc}
use lib.ListN.{length, take, drop, length-append, length-drop, take-append-drop}
use lib.Seq.{take_at, drop_at, drop-drop, length-take-le}
use Rattle.trial.proofs.Bytes.{part_length}
use Rattle.dive.specs.Parts.{Listed}

pub listed-none : {out : List ℕ} {start : ℕ} → start ≤ length out → Listed out start [] out start
listed-none {out} {start} h = record {
  used_is = omega arith;
  fits = omega arith;
  output = sym (take-append-drop start out);
}

module _ {before : List ℕ} {start : ℕ} {bytes after : List ℕ} {used : ℕ}
    (k : Listed before start bytes after used) where
  -- the bytes before the place, and those after it
  abbrev front : List ℕ
  front = take start before ++ bytes

  abbrev back : List ℕ
  back = drop (length bytes) (drop start before)

  front_length : length front ≡ used
  front_length =
      let taken = length-take-le start before (omega (arith, k.fits)) in
      omega (arith, length-append (take start before) bytes, k.used_is)

  split : after ≡ front ++ back
  split = k.output ∙ sym (append_assoc (take start before) bytes back)

  pub listed-length : length after ≡ length before
  listed-length =
      let left = length-drop (length bytes) (drop start before) in
      let all = length-drop start before in
      omega (arith, ap length split, length-append front back, front_length, k.fits, k.used_is)

  pub listed-within : used ≤ length after
  listed-within = omega (arith, listed-length, k.fits, k.used_is)

  -- a record that fits the rest of the output fits the part that is lent
  pub room-in-part :
      {size : ℕ} → size ≤ length after - used → size ≤ length (take (length after - used) (drop used after))
  room-in-part h = omega (arith, part_length after used listed-within)

  -- one record more
  pub listed_more :
      {after' : List ℕ} {used' : ℕ} (more : List ℕ) → length more ≤ length after - used →
      after' ≡ take used after ++ (more ++ drop (length more) (drop used after)) → used' ≡ used + length more →
      Listed before start (bytes ++ more) after' used'
  listed_more more room e u = record {
    used_is = omega (arith, both, k.used_is);
    fits = omega (arith, both, k.used_is, listed-length, listed-within);
    output = e ∙ rw (taken, dropped, both, drop-drop (length more) (length bytes) (drop start before)) joined;
  }
    where
      both : length (bytes ++ more) ≡ length bytes + length more
      both = length-append bytes more

      taken : take used after ≡ front
      taken = ap (take used) split ∙ take_at front back used front_length

      dropped : drop used after ≡ back
      dropped = ap (drop used) split ∙ drop_at front back used front_length

      rest : List ℕ
      rest = drop (length bytes + length more) (drop start before)

      joined : front ++ (more ++ rest) ≡ take start before ++ ((bytes ++ more) ++ rest)
      joined =
          append_assoc (take start before) bytes (more ++ rest) ∙
          ap (λ (xs : List ℕ). take start before ++ xs) (sym (append_assoc bytes more rest))
