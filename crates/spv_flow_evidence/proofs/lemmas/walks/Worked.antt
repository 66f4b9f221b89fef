-- The worked examples.
use Rattle.std.proofs.Common.{◌≡◌, ◌<◌, ◌≤◌, ℕ, zero, suc, List, [], ◌∷◌, refl, ap, subst, length, arith}
use Rattle.std.proofs.lemmas.List.{length-reverse}
use Rattle.std.proofs.lemmas.Option.{same_Some}
use Rattle.std.specs.List.{filter}
use Rattle.spv_module.specs.Example.{small}
use Rattle.spv_module.specs.Operand.{Id}
use Rattle.spv_module.specs.declared.fault.Rule.TheVariants.{A1}
use Rattle.spv_layout.specs.declared.form.Role.TheVariants as role
use Rattle.spv_layout.specs.Place.{IsAt, IsOfFunction}
use Rattle.spv_layout.specs.Rows.{rows}
use Rattle.spv_layout.specs.declared.class.Class.TheVariants.{Function, FunctionEnd}
use Rattle.spv_layout.specs.inner.Row.{v, T, R}
use Rattle.spv_flow.specs.branches.Target.{is_label, is_phi, IsOp}
use Rattle.spv_flow.specs.branches.inner.Target.{is_function}
use Rattle.spv_flow.specs.branches.Walk.{Next, IsWalk, IsResultAmong}
use Rattle.spv_flow.specs.branches.Ready.{IsMissing}
use Rattle.spv_flow.specs.branches.Example.{label, function, negation, early}
use Rattle.spv_flow.proofs.lemmas.branches.Worked.{local_7, negation_forms}
use Rattle.spv_evidence.specs.declared.evidence.Evidence.{Evidence}
use Rattle.spv_evidence.specs.declared.evidence.Evidence.TheVariants.{Walk}
use Rattle.spv_flow_evidence.specs.walks.Evidence.{is_label_at, blocks_of, IsEvidence}
use Rattle.spv_flow_evidence.proofs.lemmas.Small.{no_result, of_first}

undefined : ¬ (IsResultAmong early (1 ∷ 0 ∷ []) 7)
undefined (zero, n, lt, e, d) = let f : n ≡ 1 = cc in
    no_result early 1 n 7 (label 1) f refl (λ r. absurd (omega (arith, same_Some 1 7 r))) d
undefined (suc zero, n, lt, e, d) = let f : n ≡ 0 = cc in no_result early 0 n 7 function f refl (λ r. cc) d
undefined (suc (suc k), n, lt, e, d) = absurd (omega (arith, lt))

-- all instructions are of the function

no_function : (k : ℕ) → 0 < k → k ≤ 3 → ¬ (IsAt early k (Function ∷ []))
unfolding rows
no_function zero a b h = absurd (omega (arith, a))
no_function (suc (suc (suc (suc k)))) a b h = absurd (omega (arith, b))
no_function _ a b h = cc

no_end : (k : ℕ) → k ≤ 3 → ¬ (IsAt early k (FunctionEnd ∷ []))
unfolding rows
no_end (suc (suc (suc (suc k)))) b h = absurd (omega (arith, b))
no_end _ b h = cc

of_function : (n : ℕ) → n ≤ 3 → IsOfFunction early n 0
unfolding rows
of_function n lt = of_first early n (omega (arith, lt)) refl (λ k a b. no_function k a (omega (arith, b, lt)))
    (λ k b. no_end k (omega (arith, b, lt)))

walked : IsWalk small early 0 (1 ∷ 0 ∷ []) 2
walked =
    let w0 : IsWalk small early 0 [] 0 = IsWalk.begins refl in
    let w1 : IsWalk small early 0 (0 ∷ []) 1 =
    IsWalk.goes [] 0 1 w0 (Next.follows (λ t. let e = t in cc)) (of_function 1 (omega arith)) in
    IsWalk.goes (0 ∷ []) 1 2 w1 (Next.follows (λ t. let e = t in cc)) (of_function 2 (omega arith))

no_phi : ¬ (IsOp early 2 is_phi)
no_phi op = let e = op in cc

abbrev unavailable : IsMissing small early 2
unavailable = record {
  other = no_phi;
  function = 0;
  past = 1 ∷ 0 ∷ [];
  walk = walked;
  operand = 2;
  id = 7;
  role = role.Value;
  used = record {
    inst = negation 6 7;
    there = refl;
    used = record {
      forms = T ∷ R ∷ v ∷ [];
      has = negation_forms 6 7;
      form = v;
      operand = Id 7;
      form_at = refl;
      operand_at = refl;
      role = refl;
      id = refl;
    };
  };
  local = local_7;
  undefined = undefined;
}

-- Every walk to instruction 2 comes by the OpLabel before it.

function_2 : ¬ (IsOp early 2 is_function)
function_2 op = let e = op in cc

label_2 : ¬ (IsOp early 2 is_label)
label_2 op = let e = op in cc

passes : (past : List ℕ) → 0 < length (blocks_of early (1 ∷ past))
passes past =
    let l = length-reverse (1 ∷ filter (is_label_at early) past) in
    omega (arith, l)

by_last : (past : List ℕ) (m n : ℕ) → n ≡ 2 → Next small early m n → 0 < length (blocks_of early (m ∷ past))
by_last past m n e (Next.jumps x _ target of) =
    absurd (label_2 (subst (λ (k : ℕ). IsOp early k is_label) e of.label))
by_last past m _ e (Next.follows not) =
    let k : 1 ≡ m = omega (arith, e) in
    subst (λ (j : ℕ). 0 < length (blocks_of early (j ∷ past))) k (passes past)

by_walk : (f : ℕ) (past : List ℕ) (n : ℕ) → n ≡ 2 → IsWalk small early f past n → 0 < length (blocks_of early past)
by_walk f _ _ e (IsWalk.begins op) = absurd (function_2 (subst (λ (k : ℕ). IsOp early k is_function) e op))
by_walk f _ _ e (IsWalk.goes past m n walk next of) = by_last past m n e next

pub walk_shown : IsEvidence small early A1 2 (Walk 2 3 (1 ∷ []))
walk_shown = IsEvidence.missing 2 3 unavailable (record { inst = negation 7 6; there = refl; result = refl })
    (λ f past walk none. let h = by_walk f past 2 refl walk in omega (arith, h))

some_blocks : (n : ℕ) (e : Evidence) → n ≡ 2 → e ≡ Walk 2 3 [] → IsEvidence small early A1 n e → ⊥
some_blocks _ _ k e (IsEvidence.missing n d m at least) =
    let h = by_walk m.function m.past n k m.walk in
    let none : blocks_of early m.past ≡ [] = cc in
    let l = ap length none in
    omega (arith, h, l)

pub no_walk : ¬ (IsEvidence small early A1 2 (Walk 2 3 []))
no_walk h = some_blocks 2 (Walk 2 3 []) refl refl h
