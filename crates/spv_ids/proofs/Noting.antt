-- What is kept of ids, in the list and past it.
use Rattle.std.proofs.Common.{◌≡◌, ◌<◌, ◌≤◌, ◌+◌, ℕ, zero, suc, nat_eq, nat_lt, if◌then◌else◌, Bool, true, false, List}
use Rattle.std.proofs.Common.{length, get_or, set, refl, ap, Option, Some, None, arith}
use Rattle.std.specs.Prelude.{replicate, slice_index}
use Rattle.std.proofs.lemmas.Bool.Decides.{nat_tests}
use Rattle.spv_ranks.specs.Rank.{rank_in, value_at, at_rank}
use Rattle.spv_ranks.proofs.Ranking.{at_rank-set}
use Rattle.spv_ids.specs.declared.notes.Notes.{Notes}
use Rattle.spv_ids.specs.inner.Notes.{number_in, number_or, kept}

number_more : (n : ℕ) → number_in (n + 1) ≡ Some n
number_more n = let e : n + 1 ≡ suc n = omega arith in rw e refl

zero_at : (n x : ℕ) → get_or (replicate {A = ℕ} n zero) x zero ≡ zero
zero_at zero x = refl
zero_at (suc n) zero = refl
zero_at (suc n) (suc x) = zero_at n x

-- places with 0 say nothing
unset_rank : (n : ℕ) (o : Option ℕ) → ◌≡◌ {A = ℕ} (value_at 0 (replicate n 0) o) 0
unset_rank n None = refl
unset_rank n (Some k) = zero_at n k

-- nothing is kept in a list of 0, at ranks with 0 and in a map without ids
pub nothing_kept : (near ranked ids : List ℕ) (n m x : ℕ) (far : Option ℕ) → near ≡ replicate n 0
    → ranked ≡ replicate m 0 → far ≡ None
    → (if nat_lt x (length near) then number_in (slice_index near x) else number_or (at_rank 0 ranked ids x) far) ≡ None
nothing_kept near ranked ids n m x far e u f = by (nat_lt x (length near)) where
  by : (b : Bool) → (if b then number_in (slice_index near x) else number_or (at_rank 0 ranked ids x) far) ≡ None
  by true = let z : slice_index near x ≡ 0 = rw e (zero_at n x) in ap number_in z
  by false = let z : at_rank 0 ranked ids x ≡ 0 = rw u (unset_rank m (rank_in ids x)) in rw (f, z) refl

-- a number that is written at the rank of an id
pub written_far : (ranked ids : List ℕ) (id n k x : ℕ) (other : Option ℕ) → rank_in ids id ≡ Some k → k < length ranked
    → number_or (at_rank 0 (set ranked k (n + 1)) ids x) other ≡
    (if nat_eq id x then Some n else number_or (at_rank 0 ranked ids x) other)
written_far ranked ids id n k x other e lt = rw (at_rank-set 0 ranked ids id x k (n + 1) e lt) (by (nat_eq id x)) where
  by : (b : Bool) → number_or (if b then n + 1 else at_rank 0 ranked ids x) other ≡
      (if b then Some n else number_or (at_rank 0 ranked ids x) other)
  by true = let e : n + 1 ≡ suc n = omega arith in rw e refl
  by false = refl

-- the same of an id past the list
pub put_ranked : (near ranked ids : List ℕ) (id n k x : ℕ) (far : Option ℕ) → length near ≤ id → rank_in ids id ≡ Some k
    → k < length ranked
    → (if nat_lt x (length near) then number_in (slice_index near x) else number_or
    (at_rank 0 (set ranked k (n + 1)) ids x) far)
    ≡ (if nat_eq id x then Some n else (if nat_lt x (length near) then number_in (slice_index near x) else number_or
    (at_rank 0 ranked ids x) far))
put_ranked near ranked ids id n k x far past e lt = by (nat_lt x (length near)) refl where
  by : (b : Bool) → nat_lt x (length near) ≡ b
      → (if b then number_in (slice_index near x) else number_or (at_rank 0 (set ranked k (n + 1)) ids x) far)
      ≡ (if nat_eq id x then Some n else (if b then number_in (slice_index near x) else number_or
      (at_rank 0 ranked ids x) far))
  by true t = let f : nat_eq id x ≡ false = grind (arith, nat_tests, t) in rw f refl
  by false t = written_far ranked ids id n k x far e lt

-- an id of the list
pub kept_near : (notes : Notes) (near : List ℕ) (x n : ℕ) → near ≡ notes.near.items → x < length near
    → number_in (slice_index near x) ≡ Some n → kept notes x ≡ Some n
kept_near notes near x n e l h =
    let k : x < length notes.near.items = rw e at l in
    let g : number_in (slice_index notes.near.items x) ≡ Some n = rw e at h in
    let t : nat_lt x (length notes.near.items) ≡ true = grind (arith, nat_tests) in
    rw t g
