-- The instructions of a block, and of the blocks of a path, the last of them first.
use Rattle.std.proofs.Common.{◌≡◌, ◌<◌, ◌≤◌, ◌++◌, ◌+◌, ◌-◌, ◌∙◌, ℕ, zero, suc, List, [], ◌∷◌, ap, subst, inl, inr}
use Rattle.std.proofs.Common.{arith}
use Rattle.std.specs.Prelude.{Any, All, slice_index}
use Rattle.std.proofs.lemmas.Bool.{cases_lt}
use Rattle.spv_table.specs.Table.{Table}
use Rattle.spv_module.specs.Operand.{PlainInst}
use Rattle.spv_ids.specs.Definition.{IsDefinedAt}
use Rattle.spv_graphs.specs.declared.graph.Graph.{Graph}
use Rattle.spv_graphs.specs.Path.{IsPath, IsDefinedOn}
use Rattle.spv_flow.specs.branches.Walk.{IsResultAmong}
use Rattle.spv_flow.specs.walks.inner.Divided.{IsGraphOf}
use Rattle.spv_flow.proofs.lemmas.walks.Lists.{any_cons, any_head, any_tail, any_none, any_cases, any_left, any_right}
use Rattle.spv_flow.proofs.lemmas.walks.Lists.{all_cons}

-- the instructions from s on, so many
abbrev pub run : ℕ → ℕ → List ℕ
run s zero = []
run s (suc k) = (s + k) ∷ run s k

abbrev pub size : List ℕ → ℕ → ℕ
size starts b = slice_index starts (b + 1) - slice_index starts b

abbrev pub trail : List ℕ → List ℕ → List ℕ
trail starts [] = []
trail starts (h ∷ past) = run (slice_index starts h) (size starts h) ++ trail starts past

pub any_run : (P : ℕ → Type 0) (s k n : ℕ) → s ≤ n → n < s + k → P n → Any P (run s k)
any_run P s zero n from to p = absurd (omega arith)
any_run P s (suc k) n from to p = elim (cases_lt n (s + k)) [
  | inl below ↦ any_tail P (s + k) (run s k) (any_run P s k n from below p)
  | inr above ↦ (let e : n ≡ s + k = omega arith in any_head P (s + k) (run s k) (subst P e p))
]

pub run_any : (P : ℕ → Type 0) (s k : ℕ) → Any P (run s k) → (n : ℕ) × (s ≤ n) × (n < s + k) × P n
run_any P s zero a = absurd (any_none P a)
run_any P s (suc k) a = elim (any_cons P (s + k) (run s k) a) [
  | inl p ↦ (s + k, omega arith, omega arith, p)
  | inr r ↦ (let h = run_any P s k r in (h.0, h.1, omega (arith, h.2), h.3))
]

pub all_run : (P : ℕ → Type 0) (s k : ℕ) → ((n : ℕ) → s ≤ n → n < s + k → P n) → All P (run s k)
all_run P s zero f = λ k d lt. absurd (omega (arith, lt))
all_run P s (suc k) f =
    all_cons P (s + k) (run s k) (f (s + k) (omega arith) (omega arith))
    (all_run P s k (λ n from to. f n from (omega (arith, to))))

-- the first comes last
pub run_split : (s k : ℕ) (ys : List ℕ) → run s (suc k) ++ ys ≡ run (s + 1) k ++ (s ∷ ys)
run_split s zero ys = (let e : s + 0 ≡ s = omega arith in ap (λ (n : ℕ). n ∷ ys) e)
run_split s (suc k) ys =
    let e : s + suc k ≡ (s + 1) + k = omega arith in
    let h = run_split s k ys in
    ap (λ (n : ℕ). n ∷ (run s (suc k) ++ ys)) e ∙ ap (λ (xs : List ℕ). ((s + 1) + k) ∷ xs) h

-- what is defined on a path is a result on its trail
pub trail_defined : (G : Table) (is : List PlainInst) (f : ℕ) (starts : List ℕ) (graph : Graph)
    → IsGraphOf G is f starts graph
    → (x d : ℕ) → IsDefinedAt is x d → (past : List ℕ) → IsDefinedOn graph past d
    → IsResultAmong is (trail starts past) x
trail_defined G is f starts graph g x d at [] on = absurd on
trail_defined G is f starts graph g x d at (h ∷ past) (inl here) =
    let i = (g.values h d).0 here in
    any_left (λ n. IsDefinedAt is x n) (run (slice_index starts h) (size starts h)) (trail starts past)
    (any_run (λ n. IsDefinedAt is x n) (slice_index starts h) (size starts h) d i.from (omega (arith, i.from, i.to)) at)
trail_defined G is f starts graph g x d at (h ∷ past) (inr later) =
    any_right (λ n. IsDefinedAt is x n) (run (slice_index starts h) (size starts h)) (trail starts past)
    (trail_defined G is f starts graph g x d at past later)

-- and the other way, where an id has one definition
pub trail_only : (G : Table) (is : List PlainInst) (f : ℕ) (starts : List ℕ) (graph : Graph)
    → IsGraphOf G is f starts graph
    → (x d : ℕ) → ((k : ℕ) → IsDefinedAt is x k → k ≡ d) → (past : List ℕ) (b : ℕ) → IsPath graph past b
    → IsResultAmong is (trail starts past) x → IsDefinedOn graph past d
trail_only G is f starts graph g x d one [] b path among = absurd (any_none (λ n. IsDefinedAt is x n) among)
trail_only G is f starts graph g x d one (h ∷ past) b path among =
    elim (any_cases (λ n. IsDefinedAt is x n) (run (slice_index starts h) (size starts h)) (trail starts past) among) [
      | inl here ↦ (
          let r = run_any (λ n. IsDefinedAt is x n) (slice_index starts h) (size starts h) here in
          let e : r.0 ≡ d = one r.0 r.3 in
          inl ((g.values h d).1 (record {
            block = omega (arith, g.count, path.0);
            from = omega (arith, r.1, e);
            to = omega (arith, r.1, r.2, e);
          })))
      | inr later ↦ inr (trail_only G is f starts graph g x d one past h path.2 later)
    ]
