-- Numbers that are missing, by the lines that say so.
use Rattle.std.proofs.Common.{◌≡◌, ◌<◌, ◌≤◌, ◌/◌, ◌%◌, ◌^◌, ◌∙◌, ℕ, List, Bool, true, false, Option, Some, None, map}
use Rattle.std.proofs.Common.{sym, subst, arith}
use Rattle.std.specs.Prelude.{MatchOption, slice_get, slice_index_or}
use Rattle.std.proofs.lemmas.Option.{same_Some}
use Rattle.spv_versions.specs.declared.hits.Hit.{Hit}
use Rattle.spv_versions.specs.declared.table.Kind.{Kind}
use Rattle.spv_versions.specs.Table.{IsOf}
use Rattle.spv_versions.specs.inner.Hits.{IsBitHitBy, IsHitAtBy, IsHitBy}
use Rattle.spv_versions.specs.inner.Lines.{IsListedAt, Read, plain_line}
use Rattle.spv_versions.specs.inner.Told.{IsBitHit, IsHit, IsHitAt, kinds}
use Rattle.spv_versions.proofs.Listed.{read_at}

pub listed_at : (ls : List Read) (flags : List Bool) (k : Kind) (n m : ℕ) (x : Read) → slice_get ls m ≡ Some x
    → slice_index_or flags m false ≡ true → IsOf (plain_line x) k n → IsListedAt (map plain_line ls) flags k n m
listed_at ls flags k n m x e t of = (plain_line x, read_at ls m x e, t, of)

-- the bit at a position, as a number
pub bit_by : (flags : List Bool) (k : Kind) (m p b : ℕ) (o : Option Hit) → m / 2 ^ p % 2 ≡ 1 → b ≡ 2 ^ p
    → MatchOption o (¬ (IsHit flags k false b)) (λ h. IsHitBy flags k false b h.number h.line)
    → MatchOption o (¬ (IsBitHit flags k m p)) (λ h. IsBitHitBy flags k m p h.number h.line)
bit_by flags k m p b None set e none = λ h. none (subst (λ (n : ℕ). IsHit flags k false n) (sym e) h.1)
bit_by flags k m p b (Some h) set e (same, at) = (set, same ∙ e, at)

pub set_by : (flags : List Bool) (k : Kind) (m p v l : ℕ) → p < 32 → IsBitHitBy flags k m p v l
    → IsHitBy flags k true m v l
set_by flags k m p v l lt (set, e, at) = ((p, lt, set, e), at)

pub none_set : (flags : List Bool) (k : Kind) (m n : ℕ) → 32 ≤ n → ((p : ℕ) → p < n → ¬ (IsBitHit flags k m p))
    → ¬ (IsHit flags k true m)
none_set flags k m n all none (v, (p, lt, set, e), listed) =
    none p (omega (arith, lt, all)) (set, subst (λ (b : ℕ). IsHit flags k false b) e listed)

-- the kind at a place is one
pub hit_by : (flags : List Bool) (ns : List (Option ℕ)) (j : ℕ) (is_mask : Bool) (v p : ℕ) (ks : List Kind) (k : Kind)
    (o : Option Hit) → ks ≡ kinds → slice_get ks p ≡ Some k → slice_index_or ns p None ≡ Some j
    → MatchOption o (¬ (IsHit flags k is_mask v)) (λ h. IsHitBy flags k is_mask v h.number h.line)
    → MatchOption o (¬ (IsHitAt flags ns j is_mask v p)) (λ h. IsHitAtBy flags ns j is_mask v p h.number h.line)
hit_by flags ns j is_mask v p ks k None same at n none =
    let e = subst (λ (qs : List Kind). slice_get qs p ≡ Some k) same at in
    λ i. none (subst (λ (q : Kind). IsHit flags q is_mask v) (same_Some i.0 k (sym i.1 ∙ e)) i.3)
hit_by flags ns j is_mask v p ks k (Some h) same at n found =
    (k, subst (λ (qs : List Kind). slice_get qs p ≡ Some k) same at, n, found)

pub no_number : (flags : List Bool) (ns : List (Option ℕ)) (j : ℕ) (is_mask : Bool) (v p : ℕ)
    → ¬ (slice_index_or ns p None ≡ Some j) → ¬ (IsHitAt flags ns j is_mask v p)
no_number flags ns j is_mask v p not h = not h.2
