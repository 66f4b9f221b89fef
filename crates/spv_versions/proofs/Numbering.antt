-- The kinds of operands by their numbers.
use Rattle.std.proofs.Common.{◌≡◌, ◌<◌, ◌+◌, ◌∙◌, ◌↔◌, ◌⊎◌, ℕ, List, Bool, Option, Some, None, IsTrue, length, get_or, set}
use Rattle.std.proofs.Common.{refl, sym, ap, subst, inl, inr, arith, get_or-set_other, get_or-set_same}
use Rattle.std.specs.Prelude.{slice_get, slice_index_or}
use Rattle.std.proofs.lemmas.Bool.{cases_eq}
use Rattle.std.proofs.lemmas.Option.{none-some, same_Some, slice_get_within}
use Rattle.spv_table.specs.Table.{Table}
use Rattle.spv_versions.specs.declared.table.Kind.{Kind}
use Rattle.spv_versions.specs.declared.table.Kind.TheVariants as kind
use Rattle.spv_versions.specs.Table.{lines, name_of}
use Rattle.spv_versions.specs.inner.Lines.{IsListed}
use Rattle.spv_versions.specs.inner.Told.{IsHit, IsHitAt, kinds, number_of}

count_kinds : length kinds ≡ 9
unfolding kinds
count_kinds = refl

pub kind_within : (p : ℕ) (k : Kind) → slice_get kinds p ≡ Some k → p < 9
kind_within p k e = let w = slice_get_within kinds p k e in omega (arith, w, count_kinds)

-- each kind that has a name is there
pub kind_place : (k : Kind) (name : List ℕ) → name_of k ≡ Some name → (p : ℕ) × (slice_get kinds p ≡ Some k)
unfolding kinds
kind_place kind.Opcode name e = absurd (none-some name e)
kind_place kind.Capability name e = (0, refl)
kind_place kind.ExecutionMode name e = (1, refl)
kind_place kind.Decoration name e = (2, refl)
kind_place kind.BuiltIn name e = (3, refl)
kind_place kind.LoopControl name e = (4, refl)
kind_place kind.ImageOperands name e = (5, refl)
kind_place kind.GroupOperation name e = (6, refl)
kind_place kind.PackedVectorFormat name e = (7, refl)
kind_place kind.LinkageType name e = (8, refl)

-- one number more
pub numbered_more : (G : Table) (ks : List Kind) (ns : List (Option ℕ)) (m : ℕ) (x : Kind) (v : Option ℕ)
    → slice_get ks m ≡ Some x → v ≡ number_of G x → m < length ns
    → ((p : ℕ) (k : Kind) → p < m → slice_get ks p ≡ Some k → get_or ns p None ≡ number_of G k)
    → (p : ℕ) (k : Kind) → p < m + 1 → slice_get ks p ≡ Some k → get_or (set ns m v) p None ≡ number_of G k
numbered_more G ks ns m x v at says l before p k b e = elim (cases_eq p m) [
  | inl same ↦
      let one : Some x ≡ Some k = sym at ∙ ap (slice_get ks) (sym same) ∙ e in
      let here : get_or (set ns m v) m None ≡ v = rw get_or-set_same refl in
      ap (λ (q : ℕ). get_or (set ns m v) q None) same ∙ here ∙ says ∙ ap (number_of G) (same_Some x k one)
  | inr apart ↦
      let below : p < m = omega (arith, apart) in
      rw get_or-set_other (before p k below e)
]

abbrev pub IsKnown : Table → List Bool → Kind → Option ℕ → Type 0
IsKnown G flags k v = (v ≡ number_of G k) ⊎ ((v ≡ None) × ((n : ℕ) → ¬ (IsListed lines flags k n)))

pub known_more : (G : Table) (flags : List Bool) (ks : List Kind) (ns : List (Option ℕ)) (m : ℕ) (x : Kind) (v : Option ℕ)
    → slice_get ks m ≡ Some x → IsKnown G flags x v → m < length ns
    → ((p : ℕ) (k : Kind) → p < m → slice_get ks p ≡ Some k → IsKnown G flags k (get_or ns p None))
    → (p : ℕ) (k : Kind) → p < m + 1 → slice_get ks p ≡ Some k → IsKnown G flags k (get_or (set ns m v) p None)
known_more G flags ks ns m x v at says l before p k b e = elim (cases_eq p m) [
  | inl same ↦
      let one : Some x ≡ Some k = sym at ∙ ap (slice_get ks) (sym same) ∙ e in
      let here : get_or (set ns m v) m None ≡ v = rw get_or-set_same refl in
      let there : get_or (set ns m v) p None ≡ v =
      ap (λ (q : ℕ). get_or (set ns m v) q None) same ∙ here in
      subst (λ (o : Option ℕ). IsKnown G flags k o) (sym there)
      (subst (λ (q : Kind). IsKnown G flags q v) (same_Some x k one) says)
  | inr apart ↦
      let below : p < m = omega (arith, apart) in
      rw get_or-set_other (before p k below e)
]

-- the kind at a place is one
pub hit_here : (flags : List Bool) (ns : List (Option ℕ)) (j : ℕ) (is_mask : Bool) (v p : ℕ) (ks : List Kind) (k : Kind)
    (r : Bool) → ks ≡ kinds → slice_get ks p ≡ Some k → slice_index_or ns p None ≡ Some j
    → IsTrue r ↔ IsHit flags k is_mask v → IsTrue r ↔ IsHitAt flags ns j is_mask v p
hit_here flags ns j is_mask v p ks k r same at n h =
    let e = subst (λ (qs : List Kind). slice_get qs p ≡ Some k) same at in (
      λ t. (k, e, n, h.0 t),
      λ i.
          h.1 (subst (λ (q : Kind). IsHit flags q is_mask v) (same_Some i.0 k (sym i.1 ∙ e)) i.3),
    )

pub as_many : (ks : List Kind) → ks ≡ kinds → length ks ≡ 9
as_many ks same = ap length same ∙ count_kinds
