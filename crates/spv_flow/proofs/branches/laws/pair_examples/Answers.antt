use Rattle.std.proofs.Common.{◌≡◌, ◌<◌, ◌+◌, ℕ, zero, suc, [], ◌∷◌, refl, subst, arith}
use Rattle.std.specs.Prelude.{slice_index_or}
use Rattle.std.proofs.lemmas.Option.{same_Some}
use Rattle.spv_module.specs.declared.opcode.TheConstants as opcode
use Rattle.spv_module.specs.Example.{small}
use Rattle.spv_module.specs.Operand.{Id, OfType, Result}
use Rattle.spv_layout.specs.declared.class.Class.TheVariants.{FunctionEnd, Phi}
use Rattle.spv_layout.specs.declared.form.Role.{Role}
use Rattle.spv_layout.specs.declared.form.Role.TheVariants as role
use Rattle.spv_layout.specs.Row.{repeated}
use Rattle.spv_layout.specs.inner.Row.{row, v, l, T, R}
use Rattle.spv_layout.specs.Rows.{rows}
use Rattle.spv_layout.specs.Shape.{AreOf, Ends, HasForms}
use Rattle.spv_ids.specs.Definition.{IsDefinedAt, IsUsedAt}
use Rattle.spv_flow.specs.branches.Target.{is_label, IsOp, IsLabelOf, IsTarget}
use Rattle.spv_flow.specs.branches.Walk.{Next, IsWalk, IsResultAmong}
use Rattle.spv_flow.specs.branches.Ready.{ComesFrom, IsLocalValue, IsPair, IsPairMissing, IsReady}
use Rattle.spv_flow.specs.branches.Broken.{Broken}
use Rattle.spv_flow.specs.branches.Example.{branch, label, function, two_blocks, phi_of, valued, paired, early}
use Rattle.spv_flow.proofs.lemmas.branches.Labelled.{use_in, one_id}
use Rattle.spv_flow.proofs.lemmas.branches.Laid.{not_at}
use Rattle.spv_flow.proofs.lemmas.branches.Worked.{branch_used, branch_only, laid, valued_classes, of_function}
use Rattle.spv_flow.proofs.lemmas.branches.Worked.{not_local, missed, label_place, label_name}
use Rattle.spv_flow.proofs.branches.laws.pair_examples.Goals as goal

-- what the OpPhi uses
forms : (x : ℕ) → HasForms small (phi_of x 1) (T ∷ R ∷ v ∷ l ∷ [])
unfolding rows
forms x = record {
  row = row opcode.PHI opcode.PHI Phi (T ∷ R ∷ []) (repeated (v ∷ l ∷ []));
  rest = v ∷ l ∷ [];
  known = refl;
  forms = refl;
  ending = Ends.again (v ∷ l ∷ []) [] (Ends.done (v ∷ l ∷ []));
  each = AreOf.more T (OfType 20) (R ∷ v ∷ l ∷ []) (Result 9 ∷ Id x ∷ Id 1 ∷ []) refl
      (AreOf.more R (Result 9) (v ∷ l ∷ []) (Id x ∷ Id 1 ∷ []) refl
      (AreOf.more v (Id x) (l ∷ []) (Id 1 ∷ []) refl (AreOf.more l (Id 1) [] [] refl AreOf.none)));
}

uses_value : (x : ℕ) → IsUsedAt small (valued x 1) 4 2 x role.Value
uses_value x = record {
  inst = phi_of x 1;
  there = refl;
  used = record {
    forms = T ∷ R ∷ v ∷ l ∷ [];
    has = forms x;
    form = v;
    operand = Id x;
    form_at = refl;
    operand_at = refl;
    role = refl;
    id = refl;
  };
}

uses_label : (x : ℕ) → IsUsedAt small (valued x 1) 4 3 1 role.Label
uses_label x = record {
  inst = phi_of x 1;
  there = refl;
  used = record {
    forms = T ∷ R ∷ v ∷ l ∷ [];
    has = forms x;
    form = l;
    operand = Id 1;
    form_at = refl;
    operand_at = refl;
    role = refl;
    id = refl;
  };
}

label_1 : (x : ℕ) → IsLabelOf (valued x 1) 1 1
label_1 x = record { defined = record { inst = label 1; there = refl; result = refl }; label = refl }

label_2 : (x : ℕ) → IsLabelOf (valued x 1) 2 3
label_2 x = record { defined = record { inst = label 2; there = refl; result = refl }; label = refl }

pairs : (x : ℕ) → IsPair small (valued x 1) 4 x 1
pairs x = record { operand = 2; paired = uses_value x; id = 1; named = uses_label x; label = label_1 x }

-- the walk to the OpPhi
target : (x : ℕ) → IsTarget small (valued x 1) 2 2
target x = record { branch = refl; operand = 0; used = record { inst = branch 2; there = refl; used = branch_used 2 } }

walked : (x : ℕ) → IsWalk small (valued x 1) 0 (3 ∷ 2 ∷ 1 ∷ 0 ∷ []) 4
walked x =
    let w0 : IsWalk small (valued x 1) 0 [] 0 = IsWalk.begins refl in
    let w1 : IsWalk small (valued x 1) 0 (0 ∷ []) 1 = IsWalk.goes [] 0 1 w0 (Next.follows (λ t. let e = t in cc))
    (of_function x 1 (omega arith)) in
    let w2 : IsWalk small (valued x 1) 0 (1 ∷ 0 ∷ []) 2 = IsWalk.goes (0 ∷ []) 1 2 w1
    (Next.follows (λ t. let e = t in cc)) (of_function x 2 (omega arith)) in
    let w3 : IsWalk small (valued x 1) 0 (2 ∷ 1 ∷ 0 ∷ []) 3 = IsWalk.goes (1 ∷ 0 ∷ []) 2 3 w2
    (Next.jumps 2 3 (target x) (label_2 x)) (of_function x 3 (omega arith)) in
    IsWalk.goes (2 ∷ 1 ∷ 0 ∷ []) 3 4 w3 (Next.follows (λ t. let e = t in cc)) (of_function x 4 (omega arith))

-- the branch alone stands after the first label
no_label : (x k d : ℕ) → k < 1 → ¬ (IsOp (valued x 1) (slice_index_or (2 ∷ []) k d) is_label)
no_label x zero d lt o = let e = o in cc
no_label x (suc k) d lt o = absurd (omega (arith, lt))

comes : (x : ℕ) → ComesFrom small (valued x 1) 4 1 (2 ∷ 1 ∷ 0 ∷ [])
comes x = record {
  function = 0;
  past = 3 ∷ 2 ∷ 1 ∷ 0 ∷ [];
  walk = walked x;
  block = 3;
  here = record { later = []; divided = refl; label = refl; last = λ k d lt. absurd (omega (arith, lt)) };
  earlier = 0 ∷ [];
  from = record { later = 2 ∷ []; divided = refl; label = refl; last = λ k d lt. no_label x k d lt };
}

-- the result of the OpPhi is local, and not defined before it
local_9 : IsLocalValue (valued 9 1) 9
local_9 = record {
  local = (
    0,
    record {
      place = 4;
      defined = record { inst = phi_of 9 1; there = refl; result = refl };
      of = of_function 9 4 (omega arith);
      after = omega arith;
      before =
          not_at (valued 9 1) laid (FunctionEnd ∷ []) 0 5 4 (valued_classes 9) refl (omega arith) (omega arith);
    },
  );
  place = 4;
  defined = record { inst = phi_of 9 1; there = refl; result = refl };
  inst = phi_of 9 1;
  there = refl;
  of_type = 20;
  typed = refl;
}

none_at_2 : ¬ (IsDefinedAt (valued 9 1) 9 2)
none_at_2 d = let t = d.there in let e : branch 2 ≡ d.inst = cc in let r = rw (← e) at d.result in cc

none_at_1 : ¬ (IsDefinedAt (valued 9 1) 9 1)
none_at_1 d = let t = d.there in let e : label 1 ≡ d.inst = cc in let r = rw (← e) at d.result in
    absurd (omega (arith, same_Some 1 9 r))

none_at_0 : ¬ (IsDefinedAt (valued 9 1) 9 0)
none_at_0 d = let t = d.there in let e : function ≡ d.inst = cc in let r = rw (← e) at d.result in cc

none_at : (m n : ℕ) → n ≡ m → ¬ (IsDefinedAt (valued 9 1) 9 m) → ¬ (IsDefinedAt (valued 9 1) 9 n)
none_at m n f none d = none (subst (λ (k : ℕ). IsDefinedAt (valued 9 1) 9 k) f d)

undefined : ¬ (IsResultAmong (valued 9 1) (2 ∷ 1 ∷ 0 ∷ []) 9)
undefined (zero, n, lt, e, d) = let f : n ≡ 2 = cc in none_at 2 n f none_at_2 d
undefined (suc zero, n, lt, e, d) = let f : n ≡ 1 = cc in none_at 1 n f none_at_1 d
undefined (suc (suc zero), n, lt, e, d) = let f : n ≡ 0 = cc in none_at 0 n f none_at_0 d
undefined (suc (suc (suc k)), n, lt, e, d) = absurd (omega (arith, lt))

pair_missed : IsPairMissing small (valued 9 1) 4
pair_missed = record {
  phi = refl;
  value = 9;
  parent = 1;
  before = 2 ∷ 1 ∷ 0 ∷ [];
  pair = pairs 9;
  comes = comes 9;
  local = local_9;
  undefined = undefined;
}

-- no instruction defines %5
undefined_5 : (m : ℕ) → ¬ (IsDefinedAt (paired 1) 5 m)
undefined_5 zero d = let t = d.there in let e : function ≡ d.inst = cc in let r = rw (← e) at d.result in cc
undefined_5 (suc zero) d = let t = d.there in let e : label 1 ≡ d.inst = cc in let r = rw (← e) at d.result in
    absurd (omega (arith, same_Some 1 5 r))
undefined_5 (suc (suc zero)) d = let t = d.there in let e : branch 2 ≡ d.inst = cc in let r = rw (← e) at d.result in cc
undefined_5 (suc (suc (suc zero))) d = let t = d.there in let e : label 2 ≡ d.inst = cc in
    let r = rw (← e) at d.result in absurd (omega (arith, same_Some 2 5 r))
undefined_5 (suc (suc (suc (suc zero)))) d = let t = d.there in let e : phi_of 5 1 ≡ d.inst = cc in
    let r = rw (← e) at d.result in absurd (omega (arith, same_Some 9 5 r))
undefined_5 (suc (suc (suc (suc (suc k))))) d = let t = d.there in cc

-- the pair's operands are 2 and 3, and its value %5
value_is_5 : (value parent : ℕ) → IsPair small (paired 1) 4 value parent → value ≡ 5
value_is_5 value parent h =
    let p = label_place (h.operand + 1) h.id h.named in
    let q : h.operand ≡ 2 = omega (arith, p) in
    let u : IsUsedAt small (paired 1) 4 2 value role.Value = subst
    (λ (k : ℕ). IsUsedAt small (paired 1) 4 k value role.Value) q h.paired in
    one_id small (paired 1) 4 2 value 5 role.Value role.Value u (uses_value 5)

not_pair_missed : ¬ (IsPairMissing small (paired 1) 4)
not_pair_missed h =
    let e = value_is_5 h.value h.parent h.pair in
    undefined_5 h.local.place (subst (λ (x : ℕ). IsDefinedAt (paired 1) x h.local.place) e h.local.defined)

other_label : ¬ (IsDefinedAt (paired 1) 1 3)
other_label d = let t = d.there in let e : label 2 ≡ d.inst = cc in let r = rw (← e) at d.result in
    absurd (omega (arith, same_Some 2 1 r))

not_3 : ¬ (IsPair small (paired 1) 4 5 3)
not_3 h = other_label (subst (λ (x : ℕ). IsDefinedAt (paired 1) x 3)
    (label_name (h.operand + 1) h.id h.named) h.label.defined)

-- a branch uses a label alone
no_local_used : (k x : ℕ) (r : Role) → IsUsedAt small two_blocks 2 k x r → ¬ (IsLocalValue two_blocks x)
no_local_used k x r u o =
    let e = (branch_only k 2 x r (use_in small two_blocks 2 k x r (branch 2) refl u)).0 in
    not_local (subst (λ (y : ℕ). IsLocalValue two_blocks y) e o)

ready : IsReady small two_blocks 2
ready = record {
  uses = λ n f past k x r w u o. absurd (no_local_used k x r u o);
  pairs = λ p. let e = p in cc;
}

unready : ¬ (IsReady small early 2)
unready h = missed.undefined (h.uses missed.other missed.function missed.past missed.operand missed.id missed.role
    missed.walk missed.used missed.local)

pub returns : goal.returns
returns c = record {
  pair = pairs 5;
  no_pair = not_3;
  comes = comes 5;
  not_from = λ h. (let e = h.from.label in cc);
  pair_missing = Broken.pair_missing 4 pair_missed;
  not_missing = not_pair_missed;
  ready = ready;
  unready = unready;
}
