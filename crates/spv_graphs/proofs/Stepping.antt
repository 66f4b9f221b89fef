-- Laws of steps.
use Rattle.std.proofs.Common.{◌≡◌, ◌≢◌, ◌<◌, ◌≤◌, ◌+◌, ◌∙◌, ℕ, List, [], ◌∷◌, refl, sym, ap, inl, inr, Some, Bool, false, cond, leb, length, get_or-set_same, get_or-set_other, arith}
use Rattle.std.specs.Prelude.{slice_get, Contains}
use Rattle.std.proofs.Math.ListN.{set, length-set}
use Rattle.std.proofs.lemmas.Bool.{cases_eq, cases_lt, le-leb, lt-leb}
use Rattle.std.proofs.lemmas.Option.{slice_get_read}
use Rattle.std.proofs.lemmas.List.Sums.{sum_by-set}
use Rattle.spv_graphs.specs.Graph.{most_blocks}
use Rattle.spv_graphs.specs.declared.edge.Edge.{Edge}
use Rattle.spv_graphs.specs.declared.steps.Step.{Step}
use Rattle.spv_graphs.specs.Way.{HasEdge, IsWay, IsShortest}
use Rattle.spv_graphs.specs.inner.Steps.{unknown, step_of, level_of, before_of, unknown_count, step_by, come, IsReached, start, along, AreSteps, AreFirst, Keeps, Shortens, AreSettled, AreFalling, IsTrail, IsTrace}

pub step_same : (steps : List Step) (b : ℕ) (s : Step) → b < length steps → step_of (set steps b s) b ≡ s
step_same steps b s h = get_or-set_same steps b s (record { level = unknown; before = 0 }) h

pub step_other : (steps : List Step) (b c : ℕ) (s : Step) → c ≢ b → step_of (set steps b s) c ≡ step_of steps c
step_other steps b c s n = get_or-set_other steps b c s (record { level = unknown; before = 0 }) n

-- what a test of a level tells
unknown_test : (n : ℕ) → n < unknown → ◌≡◌ {A = ℕ} (cond (leb unknown n) 1 0) 0
unknown_test n h = rw lt-leb refl

unknown_passes : (n : ℕ) → unknown ≤ n → ◌≡◌ {A = ℕ} (cond (leb unknown n) 1 0) 1
unknown_passes n h = rw le-leb refl

count_set : (steps : List Step) (b : ℕ) (s : Step) → b < length steps
    → unknown_count (set steps b s) + cond (leb unknown (level_of steps b)) 1 0 ≡ unknown_count steps + cond (leb unknown s.level) 1 0
count_set steps b s h = sum_by-set (λ (x : Step). cond (leb unknown x.level) 1 0) steps b s (record { level = unknown; before = 0 }) h

-- how many are not known after a node is come to
pub count_known : (steps : List Step) (b : ℕ) (s : Step) → b < length steps → s.level < unknown → level_of steps b < unknown → unknown_count (set steps b s) ≡ unknown_count steps
count_known steps b s h l k =
    let e = count_set steps b s h in
    let p = unknown_test s.level l in
    let q = unknown_test (level_of steps b) k in
    omega (arith, e, p, q)

pub count_found : (steps : List Step) (b : ℕ) (s : Step) → b < length steps → s.level < unknown → unknown ≤ level_of steps b → unknown_count (set steps b s) + 1 ≡ unknown_count steps
count_found steps b s h l k =
    let e = count_set steps b s h in
    let p = unknown_test s.level l in
    let q = unknown_passes (level_of steps b) k in
    omega (arith, e, p, q)

module _ (edges : List Edge) (starts : List ℕ) (closed : List Bool) (steps : List Step) (a : AreSteps edges starts closed steps)
    (e : Edge) (s : Shortens closed steps e) (w : e.to < length steps) where
  low_from : level_of steps e.from + unknown_count steps < length closed
  low_from = a.low e.from s.known

  come_known : level_of steps e.from + 1 < unknown
  come_known = let l = low_from in let f = a.few in omega (arith, l, f)

  come_to : step_of (come steps e) e.to ≡ step_by steps e
  come_to = step_same steps e.to (step_by steps e) w

  come_level : level_of (come steps e) e.to ≡ level_of steps e.from + 1
  come_level = ap (λ (x : Step). x.level) come_to

  come_other : (b : ℕ) → b ≢ e.to → step_of (come steps e) b ≡ step_of steps b
  come_other b n = step_other steps e.to b (step_by steps e) n

  apart : e.from ≢ e.to
  apart q = let h = s.higher in let l : level_of steps e.from ≡ level_of steps e.to = ap (level_of steps) q in absurd (omega (arith, h, l))

  come_count : unknown_count (come steps e) ≤ unknown_count steps
  come_count = elim (cases_lt (level_of steps e.to) unknown) [
    | inl l ↦ (let c = count_known steps e.to (step_by steps e) w come_known l in omega (arith, c))
    | inr l ↦ (let c = count_found steps e.to (step_by steps e) w come_known l in omega (arith, c))
  ]

  come_low : level_of steps e.from + 1 + unknown_count (come steps e) < length closed
  come_low = elim (cases_lt (level_of steps e.to) unknown) [
    | inl l ↦ (let c = count_known steps e.to (step_by steps e) w come_known l in let h = s.higher in let g = a.low e.to l in omega (arith, c, h, g))
    | inr l ↦ (let c = count_found steps e.to (step_by steps e) w come_known l in let g = low_from in omega (arith, c, g))
  ]

  come_begun : (k b : ℕ) → slice_get starts k ≡ Some b → level_of (come steps e) b ≡ 0
  come_begun k b h = elim (cases_eq b e.to) [
    | inl q ↦ (let z = a.begun k b h in let g = s.higher in let l : level_of steps b ≡ level_of steps e.to = ap (level_of steps) q in absurd (omega (arith, g, l, z)))
    | inr n ↦ ap (λ (x : Step). x.level) (come_other b n) ∙ a.begun k b h
  ]

  -- no level is higher than before
  come_lower : (b : ℕ) → level_of (come steps e) b ≤ level_of steps b
  come_lower b = elim (cases_eq b e.to) [
    | inl q ↦ (
        let l : level_of steps b ≡ level_of steps e.to = ap (level_of steps) q in
        let m : level_of (come steps e) b ≡ level_of (come steps e) e.to = ap (level_of (come steps e)) q in
        let c = come_level in
        let g = s.higher in
        omega (arith, l, m, c, g))
    | inr n ↦ (let l : level_of (come steps e) b ≡ level_of steps b = ap (λ (x : Step). x.level) (come_other b n) in omega (arith, l))
  ]

  reached_on : (b : ℕ) → step_of (come steps e) b ≡ step_of steps b → IsReached edges starts closed steps b → IsReached edges starts closed (come steps e) b
  reached_on b q (start z c) = start (ap (λ (x : Step). x.level) q ∙ z) c
  reached_on b q (along h o l) =
      let p : before_of (come steps e) b ≡ before_of steps b = ap (λ (x : Step). x.before) q in
      let m : level_of (come steps e) b ≡ level_of steps b = ap (λ (x : Step). x.level) q in
      let g = come_lower (before_of steps b) in
      along (rw p h) (rw p o) (rw p (omega (arith, l, m, g)))

  reached_here : (place : ℕ) → slice_get edges place ≡ Some e → IsReached edges starts closed (come steps e) e.to
  reached_here k h =
      let p : before_of (come steps e) e.to ≡ e.from = ap (λ (x : Step). x.before) come_to in
      let c = come_level in
      let g = come_lower e.from in
      let here : HasEdge edges e.from e.to = record { place = k; edge = e; there = h; from = refl; to = refl } in
      along (rw p here) (rw p s.«open») (rw p (omega (arith, c, g)))

  come_reached : (place : ℕ) → slice_get edges place ≡ Some e → (b : ℕ) → level_of (come steps e) b < unknown → IsReached edges starts closed (come steps e) b
  come_reached k h b l = elim (cases_eq b e.to) [
    | inl q ↦ rw q (reached_here k h)
    | inr n ↦ (
        let r = come_other b n in
        let m : level_of (come steps e) b ≡ level_of steps b = ap (λ (x : Step). x.level) r in
        reached_on b r (a.reached b (omega (arith, l, m))))
  ]

  come_lows : (b : ℕ) → level_of (come steps e) b < unknown → level_of (come steps e) b + unknown_count (come steps e) < length closed
  come_lows b l = elim (cases_eq b e.to) [
    | inl q ↦ (let m : level_of (come steps e) b ≡ level_of (come steps e) e.to = ap (level_of (come steps e)) q in let c = come_level in let g = come_low in omega (arith, m, c, g))
    | inr n ↦ (
        let m : level_of (come steps e) b ≡ level_of steps b = ap (λ (x : Step). x.level) (come_other b n) in
        let g = a.low b (omega (arith, l, m)) in
        let c = come_count in
        omega (arith, m, g, c))
  ]

  pub steps_more : (place : ℕ) → slice_get edges place ≡ Some e → AreSteps edges starts closed (come steps e)
  steps_more k h = record {
    count = length-set steps e.to (step_by steps e) ∙ a.count;
    few = a.few;
    begun = come_begun;
    reached = come_reached k h;
    low = come_lows;
  }

pub keeps_not : (edges : List Edge) (closed : List Bool) (steps : List Step) → Keeps edges closed steps steps
keeps_not edges closed steps = record { count = refl; kept = λ starts a. a }

pub keeps_on : (edges : List Edge) (closed : List Bool) (a b c : List Step) → Keeps edges closed a b → Keeps edges closed b c → Keeps edges closed a c
keeps_on edges closed a b c g h = record { count = h.count ∙ g.count; kept = λ starts x. h.kept starts (g.kept starts x) }

pub keeps_by : (edges : List Edge) (closed : List Bool) (steps : List Step) (k : ℕ) (e : Edge) → slice_get edges k ≡ Some e → e.to < length steps → Shortens closed steps e
    → Keeps edges closed steps (come steps e)
keeps_by edges closed steps k e h w s = record {
  count = length-set steps e.to (step_by steps e);
  kept = λ starts a. steps_more edges starts closed steps a e s w k h;
}

-- the starts, each come to by itself
pub first_is : (edges : List Edge) (starts : List ℕ) (closed : List Bool) (steps : List Step) → length closed ≤ most_blocks → AreFirst (length closed) starts steps → AreSteps edges starts closed steps
first_is edges starts closed steps few f = record {
  count = f.count;
  few = few;
  begun = f.begun;
  reached = λ b l. let r = f.reached b l in start r.0 r.1;
  low = λ b l. let r = (f.reached b l).0 in let g = f.low b l in omega (arith, r, g);
}

listed : (starts : List ℕ) (b : ℕ) → Contains starts b → (k : ℕ) × (slice_get starts k ≡ Some b)
listed starts b c = (c.0, slice_get_read starts (length starts) c.0 b refl c.1 (sym c.2))

-- no way is shorter than the level of where it ends, once nothing is shorter
pub record IsLow (steps : List Step) (past : List ℕ) (b : ℕ) : Type 0 where
  pub level : level_of steps b ≤ length past
  pub known : level_of steps b < unknown

low_on : (edges : List Edge) (starts : List ℕ) (closed : List Bool) (steps : List Step) → AreSteps edges starts closed steps → AreSettled edges closed steps
    → (h b : ℕ) (past : List ℕ) → HasEdge edges h b → slice_get closed h ≡ Some false → IsLow steps past h → IsLow steps (h ∷ past) b
low_on edges starts closed steps a s h b past e o i =
    let f : level_of steps e.edge.from ≡ level_of steps h = ap (level_of steps) e.from in
    let t : level_of steps e.edge.to ≡ level_of steps b = ap (level_of steps) e.to in
    let l = i.level in
    let k = i.known in
    let w = a.low h k in
    let few = a.few in
    let o' : slice_get closed e.edge.from ≡ Some false = rw e.from o in
    elim (cases_lt (level_of steps e.edge.from + 1) (level_of steps e.edge.to)) [
      | inl g ↦ absurd (s.each e.place e.edge e.there (record { «open» = o'; known = omega (arith, f, k); higher = g }))
      | inr g ↦ record { level = omega (arith, f, t, l, g); known = omega (arith, f, t, g, w, few) }
    ]

pub way_low : (edges : List Edge) (starts : List ℕ) (closed : List Bool) (steps : List Step) → AreSteps edges starts closed steps → AreSettled edges closed steps
    → (past : List ℕ) (b : ℕ) → IsWay edges starts closed past b → IsLow steps past b
way_low edges starts closed steps a s [] b c =
    let l = listed starts b c in
    let z = a.begun l.0 b l.1 in
    record { level = omega (arith, z); known = omega (arith, z) }
way_low edges starts closed steps a s (h ∷ past) b w = low_on edges starts closed steps a s h b past w.0 w.1 (way_low edges starts closed steps a s past h w.2)

-- the steps lead along a way, which is no longer than the level
pub record IsWayAsLow (edges : List Edge) (starts : List ℕ) (closed : List Bool) (steps : List Step) (past : List ℕ) (b : ℕ) : Type 0 where
  pub way : IsWay edges starts closed past b
  pub short : length past ≤ level_of steps b

started : (edges : List Edge) (starts : List ℕ) (closed : List Bool) (steps : List Step) (b : ℕ) → level_of steps b ≡ 0 → IsReached edges starts closed steps b → Contains starts b
started edges starts closed steps b z (start y c) = c
started edges starts closed steps b z (along h o l) = absurd (omega (arith, z, l))

record CameAlong (edges : List Edge) (closed : List Bool) (steps : List Step) (b : ℕ) : Type 0 where
  pub edge : HasEdge edges (before_of steps b) b
  pub «open» : slice_get closed (before_of steps b) ≡ Some false
  pub lower : level_of steps (before_of steps b) < level_of steps b

came_along : (edges : List Edge) (starts : List ℕ) (closed : List Bool) (steps : List Step) (b : ℕ) → 0 < level_of steps b → IsReached edges starts closed steps b → CameAlong edges closed steps b
came_along edges starts closed steps b p (start z c) = absurd (omega (arith, p, z))
came_along edges starts closed steps b p (along h o l) = record { edge = h; «open» = o; lower = l }

pub falling : (edges : List Edge) (starts : List ℕ) (closed : List Bool) (steps : List Step) → AreSteps edges starts closed steps → AreFalling steps
falling edges starts closed steps a = record { each = λ b p l. (came_along edges starts closed steps b p (a.reached b l)).lower }

pub trail_way : (edges : List Edge) (starts : List ℕ) (closed : List Bool) (steps : List Step) → AreSteps edges starts closed steps
    → (past : List ℕ) (b : ℕ) → level_of steps b < unknown → IsTrail steps past b → IsWayAsLow edges starts closed steps past b
trail_way edges starts closed steps a [] b l z = record { way = started edges starts closed steps b z (a.reached b l); short = omega arith }
trail_way edges starts closed steps a (h ∷ past) b l t =
    let c = came_along edges starts closed steps b t.0 (a.reached b l) in
    let lower = c.lower in
    let m : level_of steps (before_of steps b) ≡ level_of steps h = ap (level_of steps) t.1 in
    let i = trail_way edges starts closed steps a past h (omega (arith, m, lower, l)) t.2 in
    let short = i.short in
    let e : HasEdge edges h b = rw t.1 at c.edge in
    let o : slice_get closed h ≡ Some false = rw t.1 at c.«open» in
    record { way = (e, o, i.way); short = omega (arith, m, lower, short) }

-- what is known once nothing is shorter
pub way_none : (edges : List Edge) (starts : List ℕ) (closed : List Bool) (steps : List Step) (goal : ℕ) → AreSteps edges starts closed steps → AreSettled edges closed steps
    → unknown ≤ level_of steps goal → (past : List ℕ) → ¬ (IsWay edges starts closed past goal)
way_none edges starts closed steps goal a s e past w = let k = (way_low edges starts closed steps a s past goal w).known in absurd (omega (arith, e, k))

pub way_shortest : (edges : List Edge) (starts : List ℕ) (closed : List Bool) (steps : List Step) (goal : ℕ) (nodes : List ℕ) → AreSteps edges starts closed steps
    → AreSettled edges closed steps → level_of steps goal < unknown → IsTrace steps goal nodes → IsShortest edges starts closed goal nodes
way_shortest edges starts closed steps goal nodes a s l t =
    let w = trail_way edges starts closed steps a t.past goal l t.trail in
    let short = w.short in
    record {
      past = t.past;
      way = w.way;
      listed = t.listed;
      least = λ other v. let k = (way_low edges starts closed steps a s other goal v).level in omega (arith, short, k);
    }
