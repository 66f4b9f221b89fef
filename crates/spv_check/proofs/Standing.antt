-- Where instructions stand, and how ids are defined: decided.
use Rattle.std.proofs.Common.{◌≡◌, ◌<◌, ◌≤◌, ◌∙◌, ℕ, zero, suc, List, [], ◌∷◌, Option, Some, None, refl, sym, ap, subst}
use Rattle.std.proofs.Common.{inl, inr, length, arith}
use Rattle.std.specs.Prelude.{IsTrue, slice_get}
use Rattle.std.proofs.lemmas.Bool.{cases_eq, cases_lt}
use Rattle.std.proofs.lemmas.Option.{same_Some, slice_get_within}
use Rattle.spv_module.specs.Operand.{PlainInst, result_in}
use Rattle.spv_layout.specs.declared.class.Class.{Class}
use Rattle.spv_layout.specs.declared.class.Class.TheVariants.{Capability, Extension, Import, MemoryModel, EntryPoint}
use Rattle.spv_layout.specs.declared.class.Class.TheVariants.{ExecutionMode, Source, Name, Processed, Decoration}
use Rattle.spv_layout.specs.declared.class.Class.TheVariants.{Function, FunctionEnd, Label}
use Rattle.spv_layout.specs.Class.{is_among}
use Rattle.spv_layout.specs.Layout.{classes}
use Rattle.spv_layout.specs.Place.{IsAt, IsLast, IsWithin, IsOfFunction, IsOfBlock, IsDefinition, IsOfSection}
use Rattle.spv_layout.specs.Place.{section_of, terminators}
use Rattle.spv_layout.proofs.Places.{last_same, function_same}
use Rattle.spv_layout.proofs.Spans.{at_moved}
use Rattle.spv_ids.specs.Definition.{IsDefinedAt}
use Rattle.spv_ids.specs.Order.{HasOpcode}
use Rattle.spv_type_forms.specs.Definitions.{IsGlobal}
use Rattle.spv_check.proofs.Decided.{Decided, anew, both, some_and, pinned, number_same, is_true, given, opposite}
use Rattle.spv_check.proofs.Decided.{somewhere, all_below}

pub at_or_not : (is : List PlainInst) (n : ℕ) (cs : List Class) → Decided (IsAt is n cs)
at_or_not is n cs = some_and (slice_get (classes is) n) (λ c. IsTrue (is_among c cs)) (λ c. is_true (is_among c cs))

pub least_or_not : (f k : ℕ) → Decided (f ≤ k)
least_or_not f k = elim (cases_lt k f) [ inl l ↦ inr (λ h. omega (arith, h, l)) | inr g ↦ inl g ]

pub less_or_not : (m n : ℕ) → Decided (m < n)
less_or_not m n = elim (cases_lt m n) [ inl l ↦ inl l | inr g ↦ inr (λ h. omega (arith, g, h)) ]

-- the last of a class up to instruction n, if there is one

module _ (is : List PlainInst) (c : Class) (n : ℕ) (within : n < length is) where
  seek : (m : ℕ) → m ≤ n → ((k : ℕ) → m < k → k ≤ n → ¬ (IsAt is k (c ∷ []))) → Decided ((f : ℕ) × IsLast is c n f)
  seek zero le above = elim (at_or_not is 0 (c ∷ [])) [
    | inl t ↦ inl (0, record { within = within; up_to = le; there = t; last = above })
    | inr apart ↦ inr (λ h. elim (cases_lt 0 h.0) [
      | inl g ↦ above h.0 g h.1.up_to h.1.there
      | inr z ↦ apart (at_moved is h.0 0 (c ∷ []) (omega (arith, z)) h.1.there)
    ])
  ]
  seek (suc m) le above = elim (at_or_not is (suc m) (c ∷ [])) [
    | inl t ↦ inl (suc m, record { within = within; up_to = le; there = t; last = above })
    | inr apart ↦ seek m (omega (arith, le)) (λ k lt up. elim (cases_lt (suc m) k) [
      | inl g ↦ above k g up
      | inr z ↦ λ t. apart (at_moved is k (suc m) (c ∷ []) (omega (arith, z, lt)) t)
    ])
  ]

pub last_or_none : (is : List PlainInst) (c : Class) (n : ℕ) → Decided ((f : ℕ) × IsLast is c n f)
last_or_none is c n = elim (cases_lt n (length is)) [
  | inl w ↦ seek is c n w n (omega arith) (λ k lt up. absurd (omega (arith, lt, up)))
  | inr out ↦ inr (λ h. let w = h.1.within in omega (arith, out, w))
]

within_or_not : (is : List PlainInst) (c : Class) (others : List Class) (n : ℕ)
    → Decided ((f : ℕ) × IsWithin is c others n f)
within_or_not is c others n = elim (last_or_none is c n) [
  | inr none ↦ inr (λ h. none (h.0, h.1.begun))
  | inl l ↦ anew (λ q. (l.0, record { begun = l.1; not_ended = λ k a b. q k b a }))
      (λ h k b a. (
      let e : h.0 ≡ l.0 = last_same is c n h.0 l.0 h.1.begun l.1 in
      h.1.not_ended k (omega (arith, a, e)) b))
      (all_below (λ (k : ℕ). l.0 ≤ k
      → ¬ (IsAt is k others)) (λ k. given (least_or_not l.0 k) (opposite (at_or_not is k others))) n)
]

pub function_or_none : (is : List PlainInst) (n : ℕ) → Decided ((f : ℕ) × IsOfFunction is n f)
function_or_none is n = within_or_not is Function (FunctionEnd ∷ []) n

pub block_or_none : (is : List PlainInst) (n : ℕ) → Decided ((b : ℕ) × IsOfBlock is n b)
block_or_none is n = within_or_not is Label terminators n

pub of_function_or_not : (is : List PlainInst) (n f : ℕ) → Decided (IsOfFunction is n f)
of_function_or_not is n f = elim (function_or_none is n) [
  | inr none ↦ inr (λ h. none (f, h))
  | inl g ↦ anew (λ e. subst (λ (k : ℕ). IsOfFunction is n k) e g.1) (λ h. function_same is n g.0 f g.1 h)
      (cases_eq g.0 f)
]

pub definition_or_not : (is : List PlainInst) (f : ℕ) → Decided (IsDefinition is f)
definition_or_not is f = anew (λ h. record { label = h.0; there = h.1.0; of = h.1.1 }) (λ d. (d.label, (d.there, d.of)))
    (somewhere (λ (k : ℕ). IsAt is k (Label ∷ []) × IsOfFunction is k f)
    (λ k. both (at_or_not is k (Label ∷ [])) (of_function_or_not is k f)) (length is) (λ k p. p.1.begun.within))

-- section 9, which is the 11th

no_early : (c : Class) (s : ℕ) → section_of c ≡ Some s → s ≡ 11 → ⊥
no_early Capability s e q = (let a = same_Some 1 s e in omega (arith, a, q))
no_early Extension s e q = (let a = same_Some 2 s e in omega (arith, a, q))
no_early Import s e q = (let a = same_Some 3 s e in omega (arith, a, q))
no_early MemoryModel s e q = (let a = same_Some 4 s e in omega (arith, a, q))
no_early EntryPoint s e q = (let a = same_Some 5 s e in omega (arith, a, q))
no_early ExecutionMode s e q = (let a = same_Some 6 s e in omega (arith, a, q))
no_early Source s e q = (let a = same_Some 7 s e in omega (arith, a, q))
no_early Name s e q = (let a = same_Some 8 s e in omega (arith, a, q))
no_early Processed s e q = (let a = same_Some 9 s e in omega (arith, a, q))
no_early Decoration s e q = (let a = same_Some 10 s e in omega (arith, a, q))
no_early _ s e q = cc

record IsGlobalAt (is : List PlainInst) (n : ℕ) : Type 0 where
  pub class : Class
  pub there : slice_get (classes is) n ≡ Some class
  pub late : section_of class ≡ None
  pub none : (f : ℕ) → ¬ (IsLast is Function n f)

global_at : (is : List PlainInst) (n s : ℕ) → IsOfSection is n s → s ≡ 11 → IsGlobalAt is n
global_at is n _ (IsOfSection.early c s at e) q = absurd (no_early c s e q)
global_at is n _ (IsOfSection.global c at e none) q = record { class = c; there = at; late = e; none = none }
global_at is n _ (IsOfSection.declaration c f at e l d) q = absurd (omega (arith, q))
global_at is n _ (IsOfSection.definition c f at e l d) q = absurd (omega (arith, q))

by_section : (is : List PlainInst) (n : ℕ) (c : Class) (o : Option ℕ) → slice_get (classes is) n ≡ Some c
    → section_of c ≡ o → Decided (IsOfSection is n 11)
by_section is n c (Some s) at e = inr (λ h.
    let g = global_at is n 11 h refl in
    let same : c ≡ g.class = same_Some c g.class (sym at ∙ g.there) in
    let late : section_of c ≡ None = ap section_of same ∙ g.late in
    let no : Some s ≡ None = sym e ∙ late in
    cc)
by_section is n c None at e = elim (last_or_none is Function n) [
  | inl l ↦ inr (λ h. (global_at is n 11 h refl).none l.0 l.1)
  | inr none ↦ inl (IsOfSection.global c at e (λ f l. none (f, l)))
]

by_class : (is : List PlainInst) (n : ℕ) (o : Option Class) → slice_get (classes is) n ≡ o
    → Decided (IsOfSection is n 11)
by_class is n None at = inr (λ h.
    let g = global_at is n 11 h refl in
    let apart : None ≡ Some g.class = sym at ∙ g.there in
    cc)
by_class is n (Some c) at = by_section is n c (section_of c) at refl

pub global_section_or_not : (is : List PlainInst) (n : ℕ) → Decided (IsOfSection is n 11)
global_section_or_not is n = by_class is n (slice_get (classes is) n) refl

-- ids

pub defined_or_not : (is : List PlainInst) (x n : ℕ) → Decided (IsDefinedAt is x n)
defined_or_not is x n = anew (λ h. record { inst = h.0; there = h.1; result = h.2 }) (λ d. (d.inst, d.there, d.result))
    (pinned (slice_get is n) (λ i. result_in i.operands ≡ Some x) (λ i. number_same (result_in i.operands) (Some x)))

pub opcode_or_not : (is : List PlainInst) (n k : ℕ) → Decided (HasOpcode is n k)
opcode_or_not is n k = anew (λ h. record { inst = h.0; there = h.1; same = h.2 }) (λ d. (d.inst, d.there, d.same))
    (pinned (slice_get is n) (λ i. i.opcode ≡ k) (λ i. cases_eq i.opcode k))

pub place_within : (is : List PlainInst) (x n : ℕ) → IsDefinedAt is x n → n < length is
place_within is x n d = slice_get_within is n d.inst d.there

-- an id is defined somewhere with what holds there
pub defined_with : (is : List PlainInst) (x : ℕ) (P : ℕ → Type 0) → ((n : ℕ) → Decided (P n))
    → Decided ((n : ℕ) × (IsDefinedAt is x n × P n))
defined_with is x P d = somewhere (λ (n : ℕ). IsDefinedAt is x n × P n) (λ n. both (defined_or_not is x n) (d n))
    (length is) (λ n p. place_within is x n p.0)

opcode_of : (is : List PlainInst) (x n k : ℕ) (d : IsDefinedAt is x n) → HasOpcode is n k → d.inst.opcode ≡ k
opcode_of is x n k d h = ap (λ (i : PlainInst). i.opcode) (same_Some d.inst h.inst (sym d.there ∙ h.there)) ∙ h.same

pub global_or_not : (is : List PlainInst) (x : ℕ) → Decided (IsGlobal is x)
global_or_not is x = anew
    (λ h. record { place = h.0; defined = h.1.0; variable = opcode_of is x h.0 59 h.1.0 h.1.1.0; section = h.1.1.1 })
    (λ g. (
    let d = g.defined in
    let opcode : HasOpcode is g.place 59 = record { inst = d.inst; there = d.there; same = g.variable } in
    (g.place, (d, (opcode, g.section)))))
    (defined_with is x (λ (n : ℕ). HasOpcode is n 59 × IsOfSection is n 11)
    (λ n. both (opcode_or_not is n 59) (global_section_or_not is n)))
