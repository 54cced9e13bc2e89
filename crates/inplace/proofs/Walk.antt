-- A local as a walk over a function's code reads and writes it: the local itself, its value, and a field of its value.
-- Each is some steps of the kit, and assumes what they assume.
use Prim.Native.Nat.{ℕ, zero, ◌+◌}
use mathlib.Core.Path.{◌≡◌, sym, subst}
use mathlib.Core.List.{List, [], ◌∷◌}
use mathlib.Core.Option.{some}
use seplogic.Ra.Ura.{Ura}
use mir.Syntax.{Sym, Tys, Ty, ty_struct, place, field, copy}
use mir.Val.{Val, Vals, vstruct}
use mir.Fields.{get_v, set_v}
use base.Fml.{Share, fat}
use prog.Memory.{field_at}
use prog.Wp.{Env, Spot, spot_of}
use types.Logic.{Logic}
use types.Kit.{Item, ‵, nth}
use types.Run.{Finds, Walks, Opd, from, stop, fld, load, look}
use types.Part.{Part, whole, sub, look_in}

module _ {M : Type 1} {𝓤 : Ura M} {𝓛 : Logic 𝓤} {K : Type 0} {Γ : List (Item 𝓤)}
    {E : Env 𝓤 𝓛.H} {i : ℕ} where
  -- the local, and no part of it
  open 𝓛 use {H}

  pub local : K → Finds K 𝓛 Γ E (place i []) (spot_of 𝓤 H E i)
  local t = from t (stop t)

  -- its value, where its cell is entry n of the context
  pub value :
      K → (n : ℕ) {q : Share} {v : Val} →
      nth 𝓛 n Γ ≡ ‵ (fat q (spot_of 𝓤 H E i).0 (spot_of 𝓤 H E i).1 zero v) → Opd K 𝓛 Γ E (copy (place i [])) v
  value t n e = load t (local t) (look t n e)

  -- the value of its field k, where it is a struct
  pub part :
      K → (n k : ℕ) {q : Share} {ν : Sym} {τs : Tys} {b : ℕ} {vs : Vals} {τ : Ty} {d : ℕ} →
      spot_of 𝓤 H E i ≡ (ty_struct ν τs, b, zero) → nth 𝓛 n Γ ≡ ‵ (fat q (ty_struct ν τs) b zero (vstruct vs)) →
      field_at zero τs k ≡ some (τ, d) → Opd K 𝓛 Γ E (copy (place i (field k ∷ []))) (get_v vs k)
  part t n k {q} {ν} {τs} {b} {vs} {τ} {d} spot cell at-k = load t (from t walks) (look_in t n held)
    where
      walks : Walks K 𝓛 Γ E (spot_of 𝓤 H E i) (field k ∷ []) (τ, b, zero + d)
      walks =
          subst (λ (sp : Spot 𝓤 H). Walks K 𝓛 Γ E sp (field k ∷ []) (τ, b, zero + d)) (sym spot) (fld t at-k (stop t))

      -- the cell with another value in that field
      back : Val → Item 𝓤
      back u = ‵ (fat q (ty_struct ν τs) b zero (vstruct (set_v vs k u)))

      held : Part K 𝓛 (nth 𝓛 n Γ) q τ b (zero + d) (get_v vs k) back
      held =
          subst (λ (j : Item 𝓤). Part K 𝓛 j q τ b (zero + d) (get_v vs k) back) (sym cell) (sub t k at-k (whole t))
