use Rattle.std.specs.Prelude.{slice_get}
use Rattle.std.proofs.Common.{◌≡◌, ◌<◌, ◌≤◌, ℕ, zero, suc, [], ◌∷◌, Some, true, false, length, refl, sym, subst, arith}
use Rattle.spv_layout.specs.declared.class.Class.TheVariants.{Function, FunctionEnd}
use Rattle.spv_layout.specs.Rows.{rows}
use Rattle.spv_layout.specs.Place.{IsAt, IsDefinition}
use Rattle.spv_check.specs.flow.Example.{alone}
use Rattle.spv_check.specs.flow.Definitions.{CountsDefinitions}
use Rattle.spv_check.proofs.Flowing.Counts.{one_count}
use Rattle.spv_check.proofs.flow.laws.count_examples.Goals as goal

-- the label is of the function
no_function : (k : ℕ) → 0 < k → k ≤ 1 → ¬ (IsAt alone k (Function ∷ []))
unfolding rows
no_function zero l h a = absurd (omega (arith, l))
no_function (suc zero) l h a = cc
no_function (suc (suc k)) l h a = absurd (omega (arith, h))

no_end : (k : ℕ) → k < 1 → ¬ (IsAt alone k (FunctionEnd ∷ []))
unfolding rows
no_end zero h a = cc
no_end (suc k) h a = absurd (omega (arith, h))

defined : IsDefinition alone 0
unfolding rows
defined = record {
  label = 1;
  there = refl;
  of = record {
    begun = record { within = omega arith; up_to = omega arith; there = refl; last = λ k l h. no_function k l h };
    not_ended = λ k l h. no_end k h;
  };
}

-- no other instruction is an OpFunction
only : (f : ℕ) → IsAt alone f (Function ∷ []) → f ≡ 0
unfolding rows
only zero a = refl
only (suc zero) a = absurd (let e : false ≡ true = a in cc)
only (suc (suc zero)) a = absurd (let e : false ≡ true = a in cc)
only (suc (suc (suc zero))) a = absurd (let e : false ≡ true = a in cc)
only (suc (suc (suc (suc f)))) a = absurd a

each : (k f : ℕ) → slice_get (0 ∷ []) k ≡ Some f → IsDefinition alone f × (f < length alone)
each zero f h = let e : 0 ≡ f = cc in (subst (λ (n : ℕ). IsDefinition alone n) e defined, omega (arith, e))
each (suc k) f h = absurd (let no = h in cc)

all : (f : ℕ) → f < length alone → IsDefinition alone f → (k : ℕ) × (slice_get (0 ∷ []) k ≡ Some f)
all f l d = (let e = only f d.of.begun.there in (0, subst (λ (n : ℕ). slice_get (0 ∷ []) 0 ≡ Some n) (sym e) refl))

rising : (j k f g : ℕ) → j < k → slice_get (0 ∷ []) j ≡ Some f → slice_get (0 ∷ []) k ≡ Some g → f < g
rising j zero f g l h i = absurd (omega (arith, l))
rising j (suc k) f g l h i = absurd (let no = i in cc)

one : CountsDefinitions alone 1
one = record {
  functions = 0 ∷ [];
  definitions = record { each = each; all = all; rising = rising };
  counted = refl;
}

pub returns : goal.returns
returns c = record {
  one = one;
  not_none = λ h. (let e = one_count alone (length alone) 0 1 h one in omega (arith, e));
}
