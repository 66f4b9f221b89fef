-- Which function is open, by opcodes alone.
use Rattle.std.proofs.Common.{◌≡◌, ◌∙◌, ◌≤◌, ◌+◌, ◌&&◌, ◌||◌, ℕ, List, [], ◌∷◌, refl, ap, inl, inr, Bool, true, false}
use Rattle.std.proofs.Common.{Option, Some, None, arith, nat_eq, nat_le, ◌<◌}
use Rattle.std.specs.Prelude.{slice_get, not}
use Rattle.std.proofs.lemmas.Bool.{leb-true}
use Rattle.std.proofs.lemmas.Option.{slice_get_within}
use Rattle.spv_module.specs.Operand.{PlainInst}
use Rattle.spv_module.specs.declared.opcode.TheConstants as opcode
use Rattle.spv_layout.specs.declared.class.Class.{Class}
use Rattle.spv_layout.specs.declared.class.Class.TheVariants.{Capability, Function, FunctionEnd, Outside}
use Rattle.spv_layout.specs.Class.{is_among}
use Rattle.spv_layout.specs.Row.{PlainRow}
use Rattle.spv_layout.specs.Rows.{rows, row_of, class_of, class_in}
use Rattle.spv_layout.specs.Layout.{classes}
use Rattle.spv_layout.specs.Place.{IsAt, IsOfFunction, IsOfSection, section_of}
use Rattle.spv_layout.proofs.Spans.{is_at, at_moved}
use Rattle.spv_ids.specs.inner.Known.{IsOpen}
use Rattle.spv_ids.specs.Order.{IsOrdered}
use Rattle.spv_ids.proofs.Bools.{and_first, and_second, eq_tells}
use Rattle.spv_ids.proofs.Defining.{below_or}
use Rattle.spv_ids.proofs.Used.{all_rows, row_tells, end_by, class_at}

-- a class that only one opcode has
row_only : Class → ℕ → PlainRow → Bool
row_only c m r = not (is_among r.class (c ∷ [])) || (nat_eq r.from m && nat_eq r.to m)

functions_only : all_rows (row_only Function opcode.FUNCTION) rows ≡ true
unfolding rows all_rows row_only
functions_only = refl

ends_only : all_rows (row_only FunctionEnd opcode.FUNCTION_END) rows ≡ true
unfolding rows all_rows row_only
ends_only = refl

same : (from to m n : ℕ) → from ≤ n → n ≤ to → (nat_eq from m && nat_eq to m) ≡ true → n ≡ m
same from to m n a b h =
    let f = eq_tells from m (and_first (nat_eq from m) (nat_eq to m) h) in
    let g = eq_tells to m (and_second (nat_eq from m) (nat_eq to m) h) in
    omega arith

only : (c : Class) (m n : ℕ) (o : Option PlainRow) → is_among Outside (c ∷ []) ≡ false
    → all_rows (row_only c m) rows ≡ true → row_of n ≡ o → is_among (class_in o) (c ∷ []) ≡ true → n ≡ m
unfolding row_only
only c m n None x a e h = cc
only c m n (Some r) x a e h =
    let t = row_tells (row_only c m) rows n r a e in
    same r.from r.to m n t.from t.to (end_by (is_among r.class (c ∷ [])) (nat_eq r.from m && nat_eq r.to m) t.passes h)

not_function : (is : List PlainInst) (n : ℕ) (i : PlainInst) → slice_get is n ≡ Some i
    → (i.opcode ≡ opcode.FUNCTION → ⊥) → ¬ (IsAt is n (Function ∷ []))
not_function is n i h x a = let c = rw (class_at is n i h) at a in
    x (only Function opcode.FUNCTION i.opcode (row_of i.opcode) refl functions_only refl c)

not_end : (is : List PlainInst) (n : ℕ) (i : PlainInst) → slice_get is n ≡ Some i → (i.opcode ≡ opcode.FUNCTION_END → ⊥)
    → ¬ (IsAt is n (FunctionEnd ∷ []))
not_end is n i h x a = let c = rw (class_at is n i h) at a in
    x (only FunctionEnd opcode.FUNCTION_END i.opcode (row_of i.opcode) refl ends_only refl c)

class_54 : class_of opcode.FUNCTION ≡ Function
unfolding rows
class_54 = refl

function_here : (is : List PlainInst) (n : ℕ) (i : PlainInst) → slice_get is n ≡ Some i → i.opcode ≡ opcode.FUNCTION
    → IsAt is n (Function ∷ [])
function_here is n i h e =
    let k : slice_get (classes is) n ≡ Some Function = class_at is n i h ∙ ap (λ m. Some (class_of m)) e
    ∙ ap Some class_54 in
    is_at is n Function (Function ∷ []) k refl

-- at an OpFunction, and at another instruction
pub opened : (is : List PlainInst) (n : ℕ) (i : PlainInst) → slice_get is n ≡ Some i → i.opcode ≡ opcode.FUNCTION
    → IsOfFunction is n n
opened is n i h e =
    let w = slice_get_within is n i h in
    record {
      begun = record {
        within = w;
        up_to = omega arith;
        there = function_here is n i h e;
        last = λ k a b. absurd (omega arith);
      };
      not_ended = λ k a b. absurd (omega arith);
    }

pub goes_on : (is : List PlainInst) (n f : ℕ) (i : PlainInst) → slice_get is n ≡ Some i
    → (i.opcode ≡ opcode.FUNCTION → ⊥) → IsOpen is n f → IsOfFunction is n f
goes_on is n f i h x o =
    let w = slice_get_within is n i h in
    let l = o.below in
    record {
      begun = record {
        within = w;
        up_to = omega arith;
        there = o.there;
        last = λ k a b c. elim (below_or k n b) [
          | inl g ↦ o.last k a g c
          | inr e ↦
              not_function is n i h x (at_moved is k n (Function ∷ []) e c)
        ];
      };
      not_ended = o.not_ended;
    }

-- after an instruction that ends no function
pub stays_open : (is : List PlainInst) (n f : ℕ) (i : PlainInst) → slice_get is n ≡ Some i
    → (i.opcode ≡ opcode.FUNCTION_END → ⊥) → IsOfFunction is n f → IsOpen is (n + 1) f
stays_open is n f i h x o =
    let u = o.begun.up_to in
    record {
      below = omega arith;
      there = o.begun.there;
      last = λ k a b. o.begun.last k a (omega arith);
      not_ended = λ k a b c. elim (below_or k n (omega arith)) [
        | inl g ↦ o.not_ended k a g c
        | inr e ↦
            not_end is n i h x (at_moved is k n (FunctionEnd ∷ []) e c)
      ];
    }

-- Section 7a has opcodes up to 7 alone.

abbrev is_sources : Option ℕ → Bool
is_sources None = false
is_sources (Some s) = nat_eq s 7

row_low : PlainRow → Bool
row_low r = not (is_sources (section_of r.class)) || nat_le r.to 7

sources_low : all_rows row_low rows ≡ true
unfolding rows all_rows row_low
sources_low = refl

low : (n : ℕ) (o : Option PlainRow) → row_of n ≡ o → is_sources (section_of (class_in o)) ≡ true → n ≤ 7
unfolding row_low
low n None e h = cc
low n (Some r) e h =
    let t = row_tells row_low rows n r sources_low e in
    let p = leb-true r.to 7 (end_by (is_sources (section_of r.class)) (nat_le r.to 7) t.passes h) in
    let q = t.to in
    omega arith

no_sources : (is : List PlainInst) (n k : ℕ) (i : PlainInst) → slice_get is n ≡ Some i → opcode.STRING < i.opcode
    → k ≡ 7 → ¬ (IsOfSection is n k)
no_sources is n _ i h l e (IsOfSection.early c s t q) =
    let p = class_at is n i h in
    let x : class_of i.opcode ≡ c = cc in
    let y : section_of (class_of i.opcode) ≡ Some 7 = rw (x, q, e) refl in
    let z : is_sources (section_of (class_of i.opcode)) ≡ true = rw y refl in
    let w = low i.opcode (row_of i.opcode) refl z in
    omega arith
no_sources is n _ i h l e (IsOfSection.global c t q g) = absurd (omega (arith, e))
no_sources is n _ i h l e (IsOfSection.declaration c f t q g d) = absurd (omega (arith, e))
no_sources is n _ i h l e (IsOfSection.definition c f t q g d) = absurd (omega (arith, e))

pub not_global : (c : Class) → section_of c ≡ Some 11 → ⊥
not_global Capability h = cc
not_global _ h = cc

no_globals : (is : List PlainInst) (n k f : ℕ) → IsOfFunction is n f → k ≡ 11 → ¬ (IsOfSection is n k)
no_globals is n _ f o e (IsOfSection.early c s t q) = not_global c (rw e at q)
no_globals is n _ f o e (IsOfSection.global c t q g) = g f o.begun
no_globals is n _ f o e (IsOfSection.declaration c g t q l d) = absurd (omega (arith, e))
no_globals is n _ f o e (IsOfSection.definition c g t q l d) = absurd (omega (arith, e))

-- in a function, uses need not come in order
pub unordered : (is : List PlainInst) (n f : ℕ) (i : PlainInst) → slice_get is n ≡ Some i → opcode.STRING < i.opcode
    → IsOfFunction is n f → ¬ (IsOrdered is n)
unordered is n f i h l o (inl s) = no_sources is n 7 i h l refl s
unordered is n f i h l o (inr s) = no_globals is n 11 f o refl s
