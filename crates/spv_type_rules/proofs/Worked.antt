-- What the small modules of the worked examples have.
use Rattle.std.proofs.Common.{◌≡◌, ◌<◌, ℕ, zero, suc, List, [], ◌∷◌, Option, Some, None, true, false, refl, sym, subst}
use Rattle.std.proofs.Common.{inl, inr, arith, lit<, lit≤}
use Rattle.std.specs.Prelude.{slice_get, take, IsSomeAnd}
use Rattle.spv_module.specs.declared.opcode.TheConstants as opcode
use Rattle.spv_module.specs.Operand.{Plain, OfType, Result, Id, Word, Value, PlainInst, type_in}
use Rattle.spv_module.specs.declared.fault.Rule.TheVariants as rule
use Rattle.spv_layout.specs.declared.class.Class.TheVariants.{Function, FunctionEnd}
use Rattle.spv_layout.specs.Rows.{rows}
use Rattle.spv_layout.specs.Place.{IsAt, IsOfFunction}
use Rattle.spv_type_forms.specs.Example.{inst}
use Rattle.spv_type_forms.specs.declared.form.Form.TheVariants as form
use Rattle.spv_type_forms.specs.Form.{form_in, form_of}
use Rattle.spv_type_kinds.specs.Operands.{ids_in}
use Rattle.spv_type_forms.specs.Types.{class_in}
use Rattle.spv_type_forms.specs.Values.{types_of}
use Rattle.spv_type_rules.specs.Declaration.{IsPointerAfter}
use Rattle.spv_type_rules.specs.Asked.{IsVectorCount}
use Rattle.spv_type_rules.specs.Keeps.{Keeps, KeepsFunctions, KeepsReturns}
use Rattle.spv_type_rules.specs.inner.Keeps.{CallsAreSound}
use Rattle.spv_type_rules.specs.Repeat.{Repeats}
use Rattle.spv_type_rules.specs.inner.Rules.{Unasked, IsFirstRule}
use Rattle.spv_type_rules.proofs.Firsts.{keeps_below, first_y8}
use Rattle.spv_type_rules.specs.Function.{OfFunction, ReturnsNothing, ReturnsTyped, parameter_type_of}
use Rattle.spv_type_rules.specs.Function.{parameters_between}
use Rattle.spv_type_rules.specs.inner.Function.{IsSoundParameter, IsSoundReturn, IsSoundReturnValue}
use Rattle.spv_type_rules.specs.Example.{small, pointers, returning, again, short_call, function, parameter}

-- the class of each pointer
class_at : (n : ℕ) (i : PlainInst) → slice_get pointers n ≡ Some i → class_in (form_in i) ≡ Some 7 → ⊥
class_at zero i at e =
    let same : inst opcode.TYPE_FORWARD_POINTER (Id 1 ∷ Value 0 5 ∷ []) ≡ i = cc in
    let f : ◌≡◌ {A = Option ℕ} None (Some 7) = subst (λ (j : PlainInst). class_in (form_in j) ≡ Some 7) (sym same) e in
    cc
class_at (suc zero) i at e =
    let same : inst opcode.TYPE_POINTER (Result 1 ∷ Value 0 5 ∷ Id 1 ∷ []) ≡ i = cc in
    let f : ◌≡◌ {A = Option ℕ} (Some 5) (Some 7) = subst (λ (j : PlainInst). class_in (form_in j) ≡ Some 7)
    (sym same) e in
    cc
class_at (suc (suc n)) i at e = cc

pub no_other_class : ¬ (IsPointerAfter pointers 0 1 7)
no_other_class p = class_at p.place p.defined.inst p.defined.there p.pointer

-- the function of the small module, and that of the other
pub of_small : IsOfFunction small 5 4
unfolding rows
of_small = record {
  begun = record {
    within = omega arith;
    up_to = omega arith;
    there = refl;
    last = λ k l u h. let e : k ≡ 5 = omega arith in
        let a : IsAt small 5 (Function ∷ []) = subst (λ (n : ℕ). IsAt small n (Function ∷ [])) e h in
        absurd (let no : false ≡ true = a in cc);
  };
  not_ended = λ k l u h. let e : k ≡ 4 = omega arith in
      let a : IsAt small 4 (FunctionEnd ∷ []) = subst (λ (n : ℕ). IsAt small n (FunctionEnd ∷ [])) e h in
      absurd (let no : false ≡ true = a in cc);
}

no_more : (k : ℕ) → 1 < k → k < 4 → IsAt returning k (Function ∷ []) → ⊥
unfolding rows
no_more zero a b h = absurd (omega arith)
no_more (suc zero) a b h = absurd (omega arith)
no_more (suc (suc zero)) a b h = let no : false ≡ true = h in cc
no_more (suc (suc (suc zero))) a b h = let no : false ≡ true = h in cc
no_more (suc (suc (suc (suc k)))) a b h = absurd (omega arith)

no_end : (k : ℕ) → IsAt returning k (FunctionEnd ∷ []) → ⊥
unfolding rows
no_end zero h = let no : false ≡ true = h in cc
no_end (suc zero) h = let no : false ≡ true = h in cc
no_end (suc (suc zero)) h = let no : false ≡ true = h in cc
no_end (suc (suc (suc zero))) h = let no : false ≡ true = h in cc
no_end (suc (suc (suc (suc k)))) h = absurd h

pub of_returning : IsOfFunction returning 3 1
unfolding rows
of_returning = record {
  begun = record {
    within = omega arith;
    up_to = omega arith;
    there = refl;
    last = λ k l u h. no_more k l (omega arith) h;
  };
  not_ended = λ k l u h. no_end k h;
}

-- the one OpFunction of the small module
one_function : (f : ℕ) → IsAt small f (Function ∷ []) → f ≡ 4
unfolding rows
one_function zero h = absurd (let no : false ≡ true = h in cc)
one_function (suc zero) h = absurd (let no : false ≡ true = h in cc)
one_function (suc (suc zero)) h = absurd (let no : false ≡ true = h in cc)
one_function (suc (suc (suc zero))) h = absurd (let no : false ≡ true = h in cc)
one_function (suc (suc (suc (suc zero)))) h = refl
one_function (suc (suc (suc (suc (suc zero))))) h = absurd (let no : false ≡ true = h in cc)
one_function (suc (suc (suc (suc (suc (suc zero)))))) h = absurd (let no : false ≡ true = h in cc)
one_function (suc (suc (suc (suc (suc (suc (suc f))))))) h = absurd h

-- what is asked of the function that instruction 5 is of is asked of that one
at_four : (P : ℕ → PlainInst → Type 0) → OfFunction small 5 P → IsSomeAnd (slice_get small 4) (P 4)
at_four P o = subst (λ (f : ℕ). IsSomeAnd (slice_get small f) (P f)) (one_function o.0 o.1.begun.there) o.2

pub no_parameter : ¬ (IsSoundParameter small 5 (inst opcode.FUNCTION_PARAMETER (OfType 2 ∷ Result 8 ∷ [])))
no_parameter o =
    let e : ◌≡◌ {A = Option ℕ} (Some 1) (Some 2) = at_four
    (λ f d. IsSomeAnd (type_in (OfType 2 ∷ Result 8 ∷ []))
    (λ t. parameter_type_of small d (parameters_between small f 5) ≡ Some t)) o in
    cc

pub no_value : ¬ (IsSoundReturnValue small 5 (inst opcode.RETURN_VALUE (Id 2 ∷ [])))
no_value o = at_four (λ f d. IsSomeAnd (types_of small (take 1 (ids_in (Id 2 ∷ [])))) (ReturnsTyped d)) o

pub no_return : ¬ (IsSoundReturn small 5)
no_return o = let e : form_of small 1 ≡ Some form.Void = at_four (λ f d. ReturnsNothing small d) o in cc

-- What the rules demand of single instructions.

pub repeated : Repeats small 7 again
repeated = record {
  once = refl;
  place = 0;
  earlier = lit< tt;
  other = inst opcode.TYPE_INT (Result 1 ∷ Word 8 ∷ Word 0 ∷ []);
  there = refl;
  alike = (refl, refl);
}

pub not_earlier : ¬ (Repeats small 0 again)
not_earlier r = let l = r.earlier in absurd (omega (arith, l))

pub function_kept : KeepsFunctions small 4 function
function_kept = record { function = λ e. (refl, refl); parameter = λ e. absurd (omega (arith, e)) }

pub function_not_kept : ¬ (KeepsFunctions small 5 function)
function_not_kept k = let e = (k.function refl).1 in absurd (omega (arith, e))

pub parameter_kept : KeepsFunctions small 5 parameter
parameter_kept = record { function = λ e. absurd (omega (arith, e)); parameter = λ e. (4, of_small, refl) }

pub parameter_not_kept : ¬ (KeepsFunctions small 5 (inst opcode.FUNCTION_PARAMETER (OfType 2 ∷ Result 8 ∷ [])))
parameter_not_kept k = no_parameter (k.parameter refl)

pub return_kept : KeepsReturns returning 3 (inst opcode.RETURN [])
return_kept = record { nothing = λ e. (1, of_returning, refl); value = λ e. absurd (omega (arith, e)) }

pub return_not_kept : ¬ (KeepsReturns small 5 (inst opcode.RETURN []))
return_not_kept k = no_return (k.nothing refl)

-- Which rule is broken first.

pub not_five : ¬ (IsVectorCount 5)
not_five (inl e) = absurd (omega (arith, e))
not_five (inr (inl e)) = absurd (omega (arith, e))
not_five (inr (inr (inl e))) = absurd (omega (arith, e))
not_five (inr (inr (inr (inl e)))) = absurd (omega (arith, e))
not_five (inr (inr (inr (inr e)))) = absurd (omega (arith, e))

abbrev vector_of_five : PlainInst
vector_of_five = inst opcode.TYPE_VECTOR (Result 9 ∷ Id 1 ∷ Word 5 ∷ [])

pub vector_first : IsFirstRule small 7 vector_of_five rule.Y2
vector_first = record {
  of_stage = refl;
  last = lit≤ tt;
  broken = not_five;
  least = λ q l. keeps_below small 7 vector_of_five 26 (λ k. absurd (omega arith)) (λ k. absurd (omega arith))
      (λ k. absurd (omega arith)) (λ k. absurd (omega arith)) (λ k. absurd (omega arith))
      (λ k. absurd (omega arith)) q l;
}

pub vector_before : ¬ (IsFirstRule small 7 vector_of_five rule.Y3)
vector_before f = not_five (f.least rule.Y2 (lit< tt))

short_not_sound : ¬ (CallsAreSound small short_call)
short_not_sound k = let e : ◌≡◌ {A = Option (List Plain)} (Some (Id 1 ∷ Id 1 ∷ [])) (Some (Id 1 ∷ [])) = k refl in cc

short_not_again : ¬ (Repeats small 7 short_call)
short_not_again r = let no : false ≡ true = r.once in cc

pub call_first : IsFirstRule small 7 short_call rule.Y8
call_first =
    first_y8 small 7 short_call tt short_not_again tt
    (record { function = λ e. absurd (omega (arith, e)); parameter = λ e. absurd (omega (arith, e)) })
    (record { nothing = λ e. absurd (omega (arith, e)); value = λ e. absurd (omega (arith, e)) })
    short_not_sound

pub call_broken : ¬ (Keeps Unasked small rule.Y8 7 short_call)
call_broken = short_not_sound
