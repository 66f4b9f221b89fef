use Rattle.std.proofs.Common.{◌≡◌, ◌<◌, inl, inr, ℕ, zero, suc, List, [], ◌∷◌, refl, sym, subst, arith}
use Rattle.std.specs.Prelude.{Contains}
use Rattle.spv_graphs.specs.declared.graph.Graph.{Graph}
use Rattle.spv_graphs.specs.Graph.{block_count, targets_of, Defines}
use Rattle.spv_graphs.specs.Path.{IsPath, IsDefinedOn, IsUnavailable}
use Rattle.spv_graphs.specs.Example.{IsDiamond}
use Rattle.spv_graphs.proofs.laws.path_examples.Goals as goal

leads : (graph : Graph) (b t : ℕ) (ts : List ℕ) → targets_of graph b ≡ ts → Contains ts t → Contains (targets_of graph b) t
leads graph b t ts e h = let P : List ℕ → Type 0 = λ us. Contains us t in subst P (sym e) h

right : (graph : Graph) → IsDiamond graph → IsPath graph (2 ∷ 0 ∷ []) 3
right graph d =
    let count = d.count in
    (omega arith, leads graph 2 3 (3 ∷ []) d.targets_2 (0, omega arith, refl), (omega arith, leads graph 0 2 (1 ∷ 2 ∷ []) d.targets_0 (1, omega arith, refl), refl))

join : (graph : Graph) (v : ℕ) → IsDiamond graph → ¬ (Defines graph 0 v) → ¬ (Defines graph 2 v) → IsUnavailable graph v 3
join graph v d not_0 not_2 = record {
  past = 2 ∷ 0 ∷ [];
  path = right graph d;
  undefined = λ h. elim h [ inl here ↦ not_2 here | inr past ↦ elim past [ inl there ↦ not_0 there | inr none ↦ none ] ];
}

not_in_3 : ¬ (Contains {X = ℕ} (3 ∷ []) 1)
not_in_3 (zero, lt, e) = absurd (omega (arith, e))
not_in_3 (suc k, lt, e) = absurd (omega (arith, lt))

-- only the first block leads to block 1
from_first : (graph : Graph) → IsDiamond graph → (h : ℕ) → h < block_count graph → Contains (targets_of graph h) 1 → h ≡ 0
from_first graph d zero lt has = refl
from_first graph d (suc zero) lt has = let P : List ℕ → Type 0 = λ us. Contains us 1 in let c = subst P d.targets_1 has in absurd (not_in_3 c)
from_first graph d (suc (suc zero)) lt has = let P : List ℕ → Type 0 = λ us. Contains us 1 in let c = subst P d.targets_2 has in absurd (not_in_3 c)
from_first graph d (suc (suc (suc zero))) lt has = let P : List ℕ → Type 0 = λ us. Contains us 1 in let c = subst P d.targets_3 has in absurd (omega (arith, c.1))
from_first graph d (suc (suc (suc (suc h)))) lt has = let count = d.count in absurd (omega arith)

first : (graph : Graph) (v : ℕ) → IsDiamond graph → Defines graph 0 v → (past : List ℕ) → IsPath graph past 1 → IsDefinedOn graph past v
first graph v d defines [] path = absurd (omega (arith, path))
first graph v d defines (h ∷ past) path =
    let e : h ≡ 0 = from_first graph d h path.0 path.1 in
    let P : ℕ → Type 0 = λ b. Defines graph b v in
    inl (subst P (sym e) defines)

pub returns-clause-join : goal.returns-clause-join
returns-clause-join c = join

pub returns-clause-first : goal.returns-clause-first
returns-clause-first c = first
