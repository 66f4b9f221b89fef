-- The first steps, and the way back.
use Rattle.std.proofs.Common.{◌≡◌, ◌≢◌, ◌<◌, ◌≤◌, ◌+◌, ◌++◌, ◌∙◌, ◌⊎◌, ℕ, zero, suc, List, [], ◌∷◌, refl, sym, ap, inl, inr, Some, take, leb, length, get_or, arith}
use Rattle.std.specs.Prelude.{slice_get, reverse, Contains}
use Rattle.std.proofs.Math.ListN.{set, length-set}
use Rattle.std.proofs.lemmas.Bool.{cases_eq, cases_lt}
use Rattle.std.proofs.lemmas.List.{take_more, append_assoc, append-nil}
use Rattle.std.proofs.lemmas.List.Elements.{Contains-append_left, Contains-push}
use Rattle.std.proofs.lemmas.List.Sums.{count_by-le-length}
use Rattle.spv_graphs.specs.declared.steps.Step.{Step}
use Rattle.spv_graphs.specs.inner.Steps.{unknown, level_of, before_of, unknown_count, AreFirst, AreFalling, IsTraced, IsTrace}
use Rattle.spv_graphs.proofs.Stepping.{step_same, step_other, count_found}

-- a node of a list with one more at its end
pushed_cases : (bs : List ℕ) (c k b : ℕ) → slice_get (bs ++ c ∷ []) k ≡ Some b → (slice_get bs k ≡ Some b) ⊎ (b ≡ c)
pushed_cases [] c zero b h = inr cc
pushed_cases [] c (suc k) b h = cc
pushed_cases (d ∷ bs) c zero b h = inl h
pushed_cases (d ∷ bs) c (suc k) b h = pushed_cases bs c k b h

-- the step to a start
abbrev pub first_step : Step
first_step = record { level = 0; before = 0 }

module _ (n : ℕ) (starts : List ℕ) (steps : List Step) (b : ℕ) (a : AreFirst n starts steps) where
  again_begun : level_of steps b ≡ 0 → (k c : ℕ) → slice_get (starts ++ b ∷ []) k ≡ Some c → level_of steps c ≡ 0
  again_begun z k c h = elim (pushed_cases starts b k c h) [ inl g ↦ a.begun k c g | inr e ↦ ap (level_of steps) e ∙ z ]

  -- a start that was come to
  pub first_again : level_of steps b ≡ 0 → AreFirst n (starts ++ b ∷ []) steps
  first_again z = record {
    count = a.count;
    begun = again_begun z;
    reached = λ c l. let r = a.reached c l in (r.0, Contains-append_left starts (b ∷ []) c r.1);
    low = a.low;
  }

  module _ (w : b < length steps) (l : 0 < level_of steps b) where
    here : level_of (set steps b first_step) b ≡ 0
    here = ap (λ (x : Step). x.level) (step_same steps b first_step w)

    there : (c : ℕ) → c ≢ b → level_of (set steps b first_step) c ≡ level_of steps c
    there c m = ap (λ (x : Step). x.level) (step_other steps b c first_step m)

    new_begun : (k c : ℕ) → slice_get (starts ++ b ∷ []) k ≡ Some c → level_of (set steps b first_step) c ≡ 0
    new_begun k c h = elim (cases_eq c b) [
      | inl e ↦ ap (level_of (set steps b first_step)) e ∙ here
      | inr m ↦ elim (pushed_cases starts b k c h) [ inl g ↦ there c m ∙ a.begun k c g | inr e ↦ absurd (m e) ]
    ]

    new_reached : (c : ℕ) → level_of (set steps b first_step) c < unknown → (level_of (set steps b first_step) c ≡ 0) × Contains (starts ++ b ∷ []) c
    new_reached c k = elim (cases_eq c b) [
      | inl e ↦ (ap (level_of (set steps b first_step)) e ∙ here, rw e (Contains-push starts b))
      | inr m ↦ (let e = there c m in let r = a.reached c (omega (arith, k, e)) in (e ∙ r.0, Contains-append_left starts (b ∷ []) c r.1))
    ]

    unknown_here : unknown ≤ level_of steps b
    unknown_here = elim (cases_lt (level_of steps b) unknown) [ inl k ↦ (let z = (a.reached b k).0 in absurd (omega (arith, z, l))) | inr k ↦ k ]

    new_low : unknown_count (set steps b first_step) < n
    new_low =
        let c = count_found steps b first_step w (omega arith) unknown_here in
        let k = count_by-le-length (λ (s : Step). leb unknown s.level) steps in
        let e = a.count in
        omega (arith, c, k, e)

    -- a start that is come to
    pub first_push : AreFirst n (starts ++ b ∷ []) (set steps b first_step)
    first_push = record { count = length-set steps b first_step ∙ a.count; begun = new_begun; reached = new_reached; low = λ c k. new_low }

pub one_more : (n : ℕ) (starts : List ℕ) (i : ℕ) (steps : List Step) → i < length starts → AreFirst n (take i starts ++ get_or starts i 0 ∷ []) steps → AreFirst n (take (i + 1) starts) steps
one_more n starts i steps l a = rw (take_more starts i 0 l) a

-- the way back goes on to the node before
pub traced_on : (steps : List Step) (goal : ℕ) (nodes : List ℕ) (b : ℕ) → AreFalling steps → IsTraced steps goal nodes b → 0 < level_of steps b
    → IsTraced steps goal (nodes ++ before_of steps b ∷ []) (before_of steps b)
traced_on steps goal nodes b f t l =
    let lower = f.each b l t.known in
    let k = t.known in
    record {
      known = omega (arith, lower, k);
      on = λ past r. let s = t.on (before_of steps b ∷ past) (l, refl, r) in (s.0, s.1, s.2 ∙ sym (append_assoc nodes (before_of steps b ∷ []) past));
    }

pub traced_all : (steps : List Step) (goal : ℕ) (nodes : List ℕ) (b : ℕ) → IsTraced steps goal nodes b → level_of steps b ≡ 0 → IsTrace steps goal (reverse nodes)
traced_all steps goal nodes b t z = let s = t.on [] z in record { past = s.0; trail = s.1; listed = ap reverse (sym (s.2 ∙ append-nil nodes)) }
