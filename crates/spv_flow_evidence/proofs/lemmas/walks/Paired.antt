-- The worked example of an OpPhi that pairs its own result with the first block.
use Rattle.std.proofs.Common.{◌≡◌, ◌<◌, ◌≤◌, ◌+◌, ◌++◌, ◌∙◌, ℕ, zero, suc, List, [], ◌∷◌, refl, ap, length, arith}
use Rattle.std.specs.Prelude.{slice_index_or}
use Rattle.std.specs.List.{filter}
use Rattle.std.proofs.lemmas.List.{length-append, length-reverse}
use Rattle.std.proofs.lemmas.List.Elements.{filter-append}
use Rattle.std.proofs.lemmas.Option.{same_Some}
use Rattle.spv_module.specs.Example.{small}
use Rattle.spv_module.specs.Operand.{Id, OfType, Result, PlainInst}
use Rattle.spv_module.specs.declared.fault.Rule.TheVariants.{A2}
use Rattle.spv_module.specs.declared.opcode.TheConstants as opcode
use Rattle.spv_layout.specs.declared.class.Class.TheVariants.{Function, FunctionEnd, Phi}
use Rattle.spv_layout.specs.declared.form.Role.TheVariants as role
use Rattle.spv_layout.specs.Row.{repeated}
use Rattle.spv_layout.specs.inner.Row.{row, v, l, T, R}
use Rattle.spv_layout.specs.Rows.{rows}
use Rattle.spv_layout.specs.Shape.{AreOf, Ends, HasForms}
use Rattle.spv_layout.specs.Place.{IsAt, IsOfFunction}
use Rattle.spv_ids.specs.Definition.{IsUsedAt}
use Rattle.spv_flow.specs.branches.Target.{is_label, IsOp, IsTarget}
use Rattle.spv_flow.specs.branches.Walk.{Next, IsWalk, IsResultAmong, IsLastLabel}
use Rattle.spv_flow.specs.branches.Ready.{ComesFrom, IsLocalValue, IsPairMissing}
use Rattle.spv_flow.specs.branches.Example.{branch, label, function, phi_of, valued}
use Rattle.spv_flow.proofs.lemmas.branches.Worked.{branch_used}
use Rattle.spv_evidence.specs.declared.evidence.Evidence.{Evidence}
use Rattle.spv_evidence.specs.declared.evidence.Evidence.TheVariants.{Walk}
use Rattle.spv_flow_evidence.specs.walks.Evidence.{is_label_at, blocks_of, IsEvidence}
use Rattle.spv_flow_evidence.proofs.lemmas.Small.{no_result, of_first}
use Rattle.spv_flow_evidence.proofs.lemmas.walks.Labels.{label_there}

abbrev selfish : List PlainInst
selfish = valued 9 1

-- what the OpPhi uses

forms : HasForms small (phi_of 9 1) (T ∷ R ∷ v ∷ l ∷ [])
unfolding rows
forms = record {
  row = row opcode.PHI opcode.PHI Phi (T ∷ R ∷ []) (repeated (v ∷ l ∷ []));
  rest = v ∷ l ∷ [];
  known = refl;
  forms = refl;
  ending = Ends.again (v ∷ l ∷ []) [] (Ends.done (v ∷ l ∷ []));
  each = AreOf.more T (OfType 20) (R ∷ v ∷ l ∷ []) (Result 9 ∷ Id 9 ∷ Id 1 ∷ []) refl
      (AreOf.more R (Result 9) (v ∷ l ∷ []) (Id 9 ∷ Id 1 ∷ []) refl
      (AreOf.more v (Id 9) (l ∷ []) (Id 1 ∷ []) refl (AreOf.more l (Id 1) [] [] refl AreOf.none)));
}

uses_value : IsUsedAt small selfish 4 2 9 role.Value
uses_value = record {
  inst = phi_of 9 1;
  there = refl;
  used = record {
    forms = T ∷ R ∷ v ∷ l ∷ [];
    has = forms;
    form = v;
    operand = Id 9;
    form_at = refl;
    operand_at = refl;
    role = refl;
    id = refl;
  };
}

uses_label : IsUsedAt small selfish 4 3 1 role.Label
uses_label = record {
  inst = phi_of 9 1;
  there = refl;
  used = record {
    forms = T ∷ R ∷ v ∷ l ∷ [];
    has = forms;
    form = l;
    operand = Id 1;
    form_at = refl;
    operand_at = refl;
    role = refl;
    id = refl;
  };
}

-- all instructions are of the function

no_function : (k : ℕ) → 0 < k → k ≤ 4 → ¬ (IsAt selfish k (Function ∷ []))
unfolding rows
no_function zero a b h = absurd (omega (arith, a))
no_function (suc (suc (suc (suc (suc k))))) a b h = absurd (omega (arith, b))
no_function _ a b h = cc

no_end : (k : ℕ) → k ≤ 4 → ¬ (IsAt selfish k (FunctionEnd ∷ []))
unfolding rows
no_end (suc (suc (suc (suc (suc k))))) b h = absurd (omega (arith, b))
no_end _ b h = cc

of_function : (n : ℕ) → n ≤ 4 → IsOfFunction selfish n 0
unfolding rows
of_function n lt = of_first selfish n (omega (arith, lt)) refl (λ k a b. no_function k a (omega (arith, b, lt)))
    (λ k b. no_end k (omega (arith, b, lt)))

-- the walk to the OpPhi

target : IsTarget small selfish 2 2
target = record {
  branch = refl;
  operand = 0;
  used = record { inst = branch 2; there = refl; used = branch_used 2 };
}

walked : IsWalk small selfish 0 (3 ∷ 2 ∷ 1 ∷ 0 ∷ []) 4
walked =
    let w0 : IsWalk small selfish 0 [] 0 = IsWalk.begins refl in
    let w1 : IsWalk small selfish 0 (0 ∷ []) 1 =
    IsWalk.goes [] 0 1 w0 (Next.follows (λ t. let e = t in cc)) (of_function 1 (omega arith)) in
    let w2 : IsWalk small selfish 0 (1 ∷ 0 ∷ []) 2 =
    IsWalk.goes (0 ∷ []) 1 2 w1 (Next.follows (λ t. let e = t in cc)) (of_function 2 (omega arith)) in
    let jump = Next.jumps 2 3 target
    (record { defined = record { inst = label 2; there = refl; result = refl }; label = refl }) in
    let w3 : IsWalk small selfish 0 (2 ∷ 1 ∷ 0 ∷ []) 3 =
    IsWalk.goes (1 ∷ 0 ∷ []) 2 3 w2 jump (of_function 3 (omega arith)) in
    IsWalk.goes (2 ∷ 1 ∷ 0 ∷ []) 3 4 w3 (Next.follows (λ t. let e = t in cc)) (of_function 4 (omega arith))

no_label : (k d : ℕ) → k < 1 → ¬ (IsOp selfish (slice_index_or (2 ∷ []) k d) is_label)
no_label zero d lt o = let e = o in cc
no_label (suc k) d lt o = absurd (omega (arith, lt))

abbrev comes : ComesFrom small selfish 4 1 (2 ∷ 1 ∷ 0 ∷ [])
comes = record {
  function = 0;
  past = 3 ∷ 2 ∷ 1 ∷ 0 ∷ [];
  walk = walked;
  block = 3;
  here = record { later = []; divided = refl; label = refl; last = λ k d lt. absurd (nothing k lt) };
  earlier = 0 ∷ [];
  from = record { later = 2 ∷ []; divided = refl; label = refl; last = λ k d lt. no_label k d lt };
}
  where
    nothing : (k : ℕ) → ¬ (k < 0)
    nothing k lt = omega (arith, lt)

-- the result of the OpPhi is local, and not defined before it

local_9 : IsLocalValue selfish 9
local_9 = record {
  local = (
    0,
    record {
      place = 4;
      defined = record { inst = phi_of 9 1; there = refl; result = refl };
      of = of_function 4 (omega arith);
      after = omega arith;
      before = no_end 4 (omega arith);
    },
  );
  place = 4;
  defined = record { inst = phi_of 9 1; there = refl; result = refl };
  inst = phi_of 9 1;
  there = refl;
  of_type = 20;
  typed = refl;
}

undefined : ¬ (IsResultAmong selfish (2 ∷ 1 ∷ 0 ∷ []) 9)
undefined (zero, n, lt, e, d) = let f : n ≡ 2 = cc in no_result selfish 2 n 9 (branch 2) f refl (λ r. cc) d
undefined (suc zero, n, lt, e, d) = let f : n ≡ 1 = cc in
    no_result selfish 1 n 9 (label 1) f refl (λ r. absurd (omega (arith, same_Some 1 9 r))) d
undefined (suc (suc zero), n, lt, e, d) = let f : n ≡ 0 = cc in no_result selfish 0 n 9 function f refl (λ r. cc) d
undefined (suc (suc (suc k)), n, lt, e, d) = absurd (omega (arith, lt))

abbrev unavailable : IsPairMissing small selfish 4
unavailable = record {
  phi = refl;
  value = 9;
  parent = 1;
  before = 2 ∷ 1 ∷ 0 ∷ [];
  pair = record {
    operand = 2;
    paired = uses_value;
    id = 1;
    named = uses_label;
    label = record { defined = record { inst = label 1; there = refl; result = refl }; label = refl };
  };
  comes = comes;
  local = local_9;
  undefined = undefined;
}

-- A walk to an OpPhi that comes from a block passes two.

one_more : (is : List PlainInst) (past : List ℕ) (b : ℕ) (before : List ℕ) → IsLastLabel is past b before
    → length (filter (is_label_at is) before) + 1 ≤ length (filter (is_label_at is) past)
one_more is past b before h =
    let p = is_label_at is in
    let here = label_there is b h.label in
    let one : filter p (b ∷ before) ≡ b ∷ filter p before = rw here refl in
    let e = ap (filter p) h.divided ∙ filter-append p h.later (b ∷ before)
    ∙ ap (λ (xs : List ℕ). filter p h.later ++ xs) one in
    let n = ap length e in
    let m = length-append (filter p h.later) (b ∷ filter p before) in
    omega (arith, n, m)

two_blocks : (is : List PlainInst) (past before earlier : List ℕ) (b parent : ℕ) → IsLastLabel is past b before
    → IsLastLabel is before parent earlier → 2 ≤ length (blocks_of is past)
two_blocks is past before earlier b parent here from =
    let m = one_more is past b before here in
    let n = one_more is before parent earlier from in
    let r = length-reverse (filter (is_label_at is) past) in
    omega (arith, m, n, r)

pub pair_shown : IsEvidence small selfish A2 4 (Walk 2 4 (1 ∷ 3 ∷ []))
pair_shown = IsEvidence.pair_missing 4 4 unavailable (record { inst = phi_of 9 1; there = refl; result = refl })
    (λ before from none. two_blocks selfish from.past before from.earlier from.block 1 from.here from.from)

one_block : (n : ℕ) (e : Evidence) → e ≡ Walk 2 4 (1 ∷ []) → IsEvidence small selfish A2 n e → ⊥
one_block _ _ k (IsEvidence.pair_missing n d m at fewest) =
    let h = two_blocks selfish m.comes.past m.before m.comes.earlier m.comes.block m.parent m.comes.here m.comes.from in
    let one : blocks_of selfish m.comes.past ≡ 1 ∷ [] = cc in
    let o = ap length one in
    omega (arith, h, o)

pub no_parent : ¬ (IsEvidence small selfish A2 4 (Walk 2 4 (1 ∷ [])))
no_parent h = one_block 4 (Walk 2 4 (1 ∷ [])) refl h
