-- What opcodes tell of classes, and where functions are.
use Rattle.std.proofs.Common.{◌≡◌, ◌<◌, ◌≤◌, ◌⊎◌, ℕ, List, [], ◌∷◌, true, refl, inl, inr, Some, None, arith}
use Rattle.std.specs.Prelude.{slice_get, nat_le, ◌&&◌}
use Rattle.std.proofs.lemmas.Bool.{cases_lt, eqb-true, or_cases}
use Rattle.std.proofs.lemmas.Bool.Decides.{nat_tests}
use Rattle.std.proofs.lemmas.Option.{slice_get_within}
use Rattle.spv_module.specs.declared.opcode.TheConstants as opcode
use Rattle.spv_module.specs.Operand.{PlainInst}
use Rattle.spv_layout.specs.declared.class.Class.{Class}
use Rattle.spv_layout.specs.declared.class.Class.TheVariants.{Function, FunctionEnd, Label}
use Rattle.spv_layout.specs.declared.place.Place.{Place}
use Rattle.spv_layout.specs.Class.{is_among}
use Rattle.spv_layout.specs.Rows.{rows, class_of}
use Rattle.spv_layout.specs.Layout.{classes}
use Rattle.spv_layout.specs.Place.{IsAt, IsOfFunction, IsOfSection, section_of, terminators}
use Rattle.spv_layout.specs.inner.Outcome.{ArePlacesOf}
use Rattle.spv_ids.specs.Order.{IsScoped}
use Rattle.spv_flow.specs.branches.Target.{is_label, is_branch, IsOp}
use Rattle.spv_flow.specs.branches.inner.Target.{is_function, is_terminator}
use Rattle.spv_flow.proofs.lemmas.branches.Firsts.{holds}
use Rattle.spv_flow.proofs.lemmas.walks.Ended.{class_at}

at_by : (is : List PlainInst) (n k : ℕ) (i : PlainInst) (cs : List Class) → slice_get is n ≡ Some i → i.opcode ≡ k
    → is_among (class_of k) cs ≡ true → IsAt is n cs
at_by is n k i cs h e c = rw (class_at is n i h, e) c

function_class : is_among (class_of opcode.FUNCTION) (Function ∷ []) ≡ true
unfolding rows
function_class = refl

end_class : is_among (class_of opcode.FUNCTION_END) (FunctionEnd ∷ []) ≡ true
unfolding rows
end_class = refl

label_class : is_among (class_of opcode.LABEL) (Label ∷ []) ≡ true
unfolding rows
label_class = refl

branch_class : is_among (class_of opcode.BRANCH) terminators ≡ true
unfolding rows
branch_class = refl

conditional_class : is_among (class_of opcode.BRANCH_CONDITIONAL) terminators ≡ true
unfolding rows
conditional_class = refl

switch_class : is_among (class_of opcode.SWITCH) terminators ≡ true
unfolding rows
switch_class = refl

return_class : is_among (class_of opcode.RETURN) terminators ≡ true
unfolding rows
return_class = refl

return_value_class : is_among (class_of opcode.RETURN_VALUE) terminators ≡ true
unfolding rows
return_value_class = refl

unreachable_class : is_among (class_of opcode.UNREACHABLE) terminators ≡ true
unfolding rows
unreachable_class = refl

branch_late : section_of (class_of opcode.BRANCH) ≡ None
unfolding rows
branch_late = refl

conditional_late : section_of (class_of opcode.BRANCH_CONDITIONAL) ≡ None
unfolding rows
conditional_late = refl

switch_late : section_of (class_of opcode.SWITCH) ≡ None
unfolding rows
switch_late = refl

pub function_at : (is : List PlainInst) (n : ℕ) → IsOp is n is_function → IsAt is n (Function ∷ [])
function_at is n op = let h = holds is n is_function op in
    at_by is n opcode.FUNCTION h.inst (Function ∷ []) h.there
    (eqb-true h.inst.opcode opcode.FUNCTION h.holds) function_class

-- no OpFunction stands among the first instructions
pub no_function : (is : List PlainInst) (places : List Place) (count : ℕ) → ArePlacesOf is places
    → ((js : List PlainInst) (n : ℕ) → ArePlacesOf js places → n < count → ¬ (IsAt js n (Function ∷ [])))
    → (k : ℕ) → k < count → ¬ (IsOp is k is_function)
no_function is places count p before k lt op = before is k p lt (function_at is k op)

pub end_at : (is : List PlainInst) (n : ℕ) (i : PlainInst) → slice_get is n ≡ Some i → i.opcode ≡ opcode.FUNCTION_END
    → IsAt is n (FunctionEnd ∷ [])
end_at is n i there e = at_by is n opcode.FUNCTION_END i (FunctionEnd ∷ []) there e end_class

pub label_at : (is : List PlainInst) (n : ℕ) → IsOp is n is_label → IsAt is n (Label ∷ [])
label_at is n op = let h = holds is n is_label op in
    at_by is n opcode.LABEL h.inst (Label ∷ []) h.there (eqb-true h.inst.opcode opcode.LABEL h.holds) label_class

-- the opcodes of branches, and of the other terminators
branch_cases : (x : ℕ) → is_branch x ≡ true
    → (x ≡ opcode.BRANCH) ⊎ (x ≡ opcode.BRANCH_CONDITIONAL) ⊎ (x ≡ opcode.SWITCH)
branch_cases x h =
    let low : opcode.BRANCH ≤ x = grind (arith, nat_tests) in
    let high : x ≤ opcode.SWITCH = grind (arith, nat_tests) in
    elim (cases_lt x opcode.BRANCH_CONDITIONAL) [
      | inl a ↦ inl (omega (arith, a, low))
      | inr a ↦ elim (cases_lt x opcode.SWITCH) [
        | inl b ↦ inr (inl (omega (arith, a, b)))
        | inr b ↦ inr (inr (omega (arith, b, high)))
      ]
    ]

other_cases : (x : ℕ) → (nat_le opcode.RETURN x && nat_le x opcode.UNREACHABLE) ≡ true
    → (x ≡ opcode.RETURN) ⊎ (x ≡ opcode.RETURN_VALUE) ⊎ (x ≡ opcode.UNREACHABLE)
other_cases x h =
    let low : opcode.RETURN ≤ x = grind (arith, nat_tests) in
    let high : x ≤ opcode.UNREACHABLE = grind (arith, nat_tests) in
    elim (cases_lt x opcode.RETURN_VALUE) [
      | inl a ↦ inl (omega (arith, a, low))
      | inr a ↦ elim (cases_lt x opcode.UNREACHABLE) [
        | inl b ↦ inr (inl (omega (arith, a, b)))
        | inr b ↦ inr (inr (omega (arith, b, high)))
      ]
    ]

pub terminator_at : (is : List PlainInst) (n : ℕ) → IsOp is n is_terminator → IsAt is n terminators
terminator_at is n op =
    let h = holds is n is_terminator op in
    elim (or_cases (is_branch h.inst.opcode)
    (nat_le opcode.RETURN h.inst.opcode && nat_le h.inst.opcode opcode.UNREACHABLE) h.holds) [
      | inl b ↦ elim (branch_cases h.inst.opcode b) [
        | inl e ↦ at_by is n opcode.BRANCH h.inst terminators h.there e branch_class
        | inr other ↦ elim other [
          | inl e ↦ at_by is n opcode.BRANCH_CONDITIONAL h.inst terminators h.there e conditional_class
          | inr e ↦ at_by is n opcode.SWITCH h.inst terminators h.there e switch_class
        ]
      ]
      | inr o ↦ elim (other_cases h.inst.opcode o) [
        | inl e ↦ at_by is n opcode.RETURN h.inst terminators h.there e return_class
        | inr other ↦ elim other [
          | inl e ↦ at_by is n opcode.RETURN_VALUE h.inst terminators h.there e return_value_class
          | inr e ↦ at_by is n opcode.UNREACHABLE h.inst terminators h.there e unreachable_class
        ]
      ]
    ]

late_by : (x k : ℕ) → x ≡ k → section_of (class_of k) ≡ None → section_of (class_of x) ≡ None
late_by x k e h = rw e h

branch_is_late : (x : ℕ) → is_branch x ≡ true → section_of (class_of x) ≡ None
branch_is_late x b = elim (branch_cases x b) [
  | inl e ↦ late_by x opcode.BRANCH e branch_late
  | inr other ↦ elim other [
    | inl e ↦ late_by x opcode.BRANCH_CONDITIONAL e conditional_late
    | inr e ↦ late_by x opcode.SWITCH e switch_late
  ]
]

scoped_by : (is : List PlainInst) (n s : ℕ) (d : Class) → slice_get (classes is) n ≡ Some d → section_of d ≡ None
    → IsOfSection is n s → IsScoped is n
scoped_by is n _ d there late (IsOfSection.early c s h k) =
    absurd (let e : c ≡ d = cc in let m : section_of d ≡ Some s = rw (← e) k in cc)
scoped_by is n _ d there late (IsOfSection.global c h k none) = inl (IsOfSection.global c h k none)
scoped_by is n _ d there late (IsOfSection.declaration c f h k last none) =
    inr (inl (IsOfSection.declaration c f h k last none))
scoped_by is n _ d there late (IsOfSection.definition c f h k last def) =
    inr (inr (IsOfSection.definition c f h k last def))

-- a branch stands where uses come in scope
pub branch_scoped : (is : List PlainInst) (n s : ℕ) → IsOp is n is_branch → IsOfSection is n s → IsScoped is n
branch_scoped is n s op of =
    let h = holds is n is_branch op in
    scoped_by is n s (class_of h.inst.opcode) (class_at is n h.inst h.there) (branch_is_late h.inst.opcode h.holds) of

-- an OpFunction is of its function
pub of_itself : (is : List PlainInst) (f : ℕ) → IsOp is f is_function → IsOfFunction is f f
of_itself is f op =
    let h = holds is f is_function op in
    let w = slice_get_within is f h.inst h.there in
    record {
      begun = record {
        within = w;
        up_to = omega arith;
        there = function_at is f op;
        last = λ k l u. absurd (omega (arith, l, u));
      };
      not_ended = λ k l u. absurd (omega (arith, l, u));
    }

-- what comes before an instruction of a function, from its OpFunction on, is of it
pub of_before : (is : List PlainInst) (f n m : ℕ) → IsOfFunction is n f → f ≤ m → m ≤ n → IsOfFunction is m f
of_before is f n m of from to =
    let w = of.begun.within in
    record {
      begun = record {
        within = omega (arith, w, to);
        up_to = from;
        there = of.begun.there;
        last = λ k l u. of.begun.last k l (omega (arith, u, to));
      };
      not_ended = λ k l u. of.not_ended k l (omega (arith, u, to));
    }
