-- The examples, worked out.
use Rattle.std.proofs.Common.{◌≡◌, ◌∙◌, ◌<◌, ◌≤◌, ℕ, zero, suc, List, [], ◌∷◌, refl, sym, ap, Some, length, arith}
use Rattle.std.specs.Prelude.{slice_get, slice_index_or}
use Rattle.std.proofs.lemmas.List.{length-reverse}
use Rattle.std.proofs.lemmas.Option.{same_Some}
use Rattle.spv_graphs.specs.declared.edge.Edge.{Edge}
use Rattle.spv_graphs.specs.Way.{HasEdge, IsWay, IsShortest}
use Rattle.spv_graphs.specs.Ring.{ring, all_open, second_closed}

first : HasEdge ring 0 1
first = record { place = 0; edge = record { from = 0; to = 1 }; there = refl; from = refl; to = refl }

second : HasEdge ring 1 2
second = record { place = 1; edge = record { from = 1; to = 2 }; there = refl; from = refl; to = refl }

pub round : IsWay ring (0 ∷ []) all_open (1 ∷ 0 ∷ []) 2
round = (second, refl, (first, refl, (0, omega arith, refl)))

pub to_closed : IsWay ring (0 ∷ []) second_closed (0 ∷ []) 1
to_closed = (first, refl, (0, omega arith, refl))

no_edge : (place : ℕ) (e : Edge) → slice_get ring place ≡ Some e → e.from ≡ 0 → e.to ≡ 2 → ⊥
no_edge zero e h f t = let g : ◌≡◌ {A = ℕ} 1 e.to = ap (λ (x : Edge). x.to) (same_Some (record { from = 0; to = 1 }) e h) in omega (arith, g, t)
no_edge (suc zero) e h f t = let g : ◌≡◌ {A = ℕ} 1 e.from = ap (λ (x : Edge). x.from) (same_Some (record { from = 1; to = 2 }) e h) in omega (arith, g, f)
no_edge (suc (suc zero)) e h f t = let g : ◌≡◌ {A = ℕ} 2 e.from = ap (λ (x : Edge). x.from) (same_Some (record { from = 2; to = 0 }) e h) in omega (arith, g, f)
no_edge (suc (suc (suc k))) e h f t = cc

only_start : (k b : ℕ) → k < 1 → slice_index_or (0 ∷ []) k b ≡ b → b ≡ 0
only_start zero b l e = sym e
only_start (suc k) b l e = absurd (omega (arith, l))

two_steps : (past : List ℕ) → IsWay ring (0 ∷ []) all_open past 2 → 2 ≤ length past
two_steps [] w = let e = only_start w.0 2 w.1 w.2 in absurd (omega (arith, e))
two_steps (h ∷ []) w =
    let s = w.2 in
    let e = only_start s.0 h s.1 s.2 in
    absurd (no_edge w.0.place w.0.edge w.0.there (w.0.from ∙ e) w.0.to)
two_steps (h ∷ g ∷ past) w = omega arith

pub shortest : IsShortest ring (0 ∷ []) all_open 2 (0 ∷ 1 ∷ 2 ∷ [])
shortest = record { past = 1 ∷ 0 ∷ []; way = round; listed = refl; least = two_steps }

pub longer : ¬ (IsShortest ring (0 ∷ []) all_open 0 (0 ∷ 1 ∷ 2 ∷ 0 ∷ []))
longer s =
    let l = s.least [] (0, omega arith, refl) in
    let e = ap length s.listed ∙ length-reverse (0 ∷ s.past) in
    omega (arith, l, e)
