-- How spans go on from instruction to instruction.
use Rattle.std.proofs.Common.{◌≡◌, ◌<◌, ◌≤◌, ◌+◌, ℕ, List, [], ◌∷◌, refl, Bool, true, false, ◌⊎◌, inl, inr, if◌then◌else◌, Some, length, arith}
use Rattle.std.specs.Prelude.{slice_get, MatchOption}
use Rattle.std.proofs.lemmas.Bool.{cases_order}
use Rattle.spv_module.specs.Operand.{PlainInst}
use Rattle.spv_layout.specs.declared.class.Class.{Class}
use Rattle.spv_layout.specs.Class.{is_among}
use Rattle.spv_layout.specs.Layout.{classes}
use Rattle.spv_layout.specs.Place.{IsAt, IsLast, IsWithin}
use Rattle.spv_layout.specs.inner.Span.{Span, Outside, In, entered, left, inside, UpTo, Before}
use Rattle.spv_layout.proofs.Places.{last_same}

-- what the class of an instruction says
pub is_at : (is : List PlainInst) (n : ℕ) (d : Class) (cs : List Class) → slice_get (classes is) n ≡ Some d → is_among d cs ≡ true → IsAt is n cs
is_at is n d cs e h = rw e h

pub is_not_at : (is : List PlainInst) (n : ℕ) (d : Class) (cs : List Class) → slice_get (classes is) n ≡ Some d → is_among d cs ≡ false → ¬ (IsAt is n cs)
is_not_at is n d cs e h a = let b : is_among d cs ≡ true = rw e at a in cc

pub at_moved : (is : List PlainInst) (k n : ℕ) (cs : List Class) → k ≡ n → IsAt is k cs → IsAt is n cs
at_moved is k n cs e a = rw (← e) a

-- below n, or n
pub below_or : (k n : ℕ) → k ≤ n → (k < n) ⊎ (k ≡ n)
below_or k n h = elim (cases_order k n) [ inl e ↦ inr e | inr r ↦ elim r [ inl l ↦ inl l | inr g ↦ absurd (omega arith) ] ]

none_up_to : (is : List PlainInst) (cs : List Class) (n : ℕ) (P : ℕ → Type 0) → ¬ (IsAt is n cs) → ((k : ℕ) → P k → k < n → ¬ (IsAt is k cs)) → (k : ℕ) → P k → k ≤ n → ¬ (IsAt is k cs)
none_up_to is cs n P h g k p l a = elim (below_or k n l) [ inl b ↦ g k p b a | inr e ↦ h (at_moved is k n cs e a) ]

pub before_first : (is : List PlainInst) (c : Class) (es : List Class) → Before is c es 0 Outside
before_first is c es = Before.outside (λ k h. absurd (omega arith))

begun_here : (is : List PlainInst) (c : Class) (n : ℕ) → n < length is → IsAt is n (c ∷ []) → IsLast is c n n
begun_here is c n h a = record { within = h; up_to = omega arith; there = a; last = λ k l m. absurd (omega arith) }

last_on : (is : List PlainInst) (c : Class) (n f : ℕ) → n < length is → f < n → IsAt is f (c ∷ []) → ((k : ℕ) → f < k → k < n → ¬ (IsAt is k (c ∷ []))) → ¬ (IsAt is n (c ∷ [])) → IsLast is c n f
last_on is c n f h l a g x = record { within = h; up_to = omega arith; there = a; last = none_up_to is (c ∷ []) n (λ k. f < k) x g }

pub enter_true : (is : List PlainInst) (c : Class) (es : List Class) (n : ℕ) → n < length is → IsAt is n (c ∷ []) → UpTo is c es n (In n)
enter_true is c es n h a = UpTo.within n (record { begun = begun_here is c n h a; not_ended = λ k l m. absurd (omega arith) })

enter_false : (is : List PlainInst) (c : Class) (es : List Class) (n : ℕ) (s : Span) → n < length is → ¬ (IsAt is n (c ∷ [])) → Before is c es n s → UpTo is c es n s
enter_false is c es n _ h x (Before.outside g) =
    let none = none_up_to is (c ∷ []) n (λ k. Unit {0}) x (λ k t l. g k l) in
    UpTo.outside (λ f l. none f tt l.up_to l.there) (λ k l. none k tt l)
enter_false is c es n _ h x (Before.within f l a g e) = UpTo.within f (record { begun = last_on is c n f h l a g x; not_ended = e })
enter_false is c es n _ h x (Before.after f k l a g m o e) = UpTo.after f k (last_on is c n f h l a g x) m o e

enter_by : (b : Bool) (is : List PlainInst) (c : Class) (es : List Class) (n : ℕ) (d : Class) (s : Span) → n < length is → slice_get (classes is) n ≡ Some d → is_among d (c ∷ []) ≡ b
    → Before is c es n s → UpTo is c es n (if b then In n else s)
enter_by true is c es n d s h e g b = enter_true is c es n h (is_at is n d (c ∷ []) e g)
enter_by false is c es n d s h e g b = enter_false is c es n s h (is_not_at is n d (c ∷ []) e g) b

-- at an instruction
pub enters : (is : List PlainInst) (c : Class) (es : List Class) (n : ℕ) (d : Class) (s : Span) → n < length is → slice_get (classes is) n ≡ Some d
    → Before is c es n s → UpTo is c es n (entered s (is_among d (c ∷ [])) n)
enters is c es n d s h e b = enter_by (is_among d (c ∷ [])) is c es n d s h e refl b

below : (k n : ℕ) → k < n + 1 → k ≤ n
below k n h = omega arith

leave_true : (is : List PlainInst) (c : Class) (es : List Class) (n : ℕ) (s : Span) → IsAt is n es → UpTo is c es n s → Before is c es (n + 1) (left s true)
leave_true is c es n _ a (UpTo.outside g h) = Before.outside (λ k l. h k (below k n l))
leave_true is c es n _ a (UpTo.within f w) =
    let b = w.begun in let u = b.up_to in
    Before.after f n (omega arith) b.there (λ k l m. b.last k l (below k n m)) u (omega arith) a
leave_true is c es n _ a (UpTo.after f k b l m e) =
    let u = b.up_to in
    Before.after f k (omega arith) b.there (λ j l m. b.last j l (below j n m)) l (omega arith) e

leave_false : (is : List PlainInst) (c : Class) (es : List Class) (n : ℕ) (s : Span) → ¬ (IsAt is n es) → UpTo is c es n s → Before is c es (n + 1) (left s false)
leave_false is c es n _ x (UpTo.outside g h) = Before.outside (λ k l. h k (below k n l))
leave_false is c es n _ x (UpTo.within f w) =
    let b = w.begun in let u = b.up_to in
    Before.within f (omega arith) b.there (λ k l m. b.last k l (below k n m)) (λ k l m. none_up_to is es n (λ j. f ≤ j) x w.not_ended k l (below k n m))
leave_false is c es n _ x (UpTo.after f k b l m e) =
    let u = b.up_to in
    Before.after f k (omega arith) b.there (λ j l m. b.last j l (below j n m)) l (omega arith) e

leave_by : (b : Bool) (is : List PlainInst) (c : Class) (es : List Class) (n : ℕ) (d : Class) (s : Span) → slice_get (classes is) n ≡ Some d → is_among d es ≡ b → UpTo is c es n s → Before is c es (n + 1) (left s b)
leave_by true is c es n d s e g u = leave_true is c es n s (is_at is n d es e g) u
leave_by false is c es n d s e g u = leave_false is c es n s (is_not_at is n d es e g) u

-- after an instruction
pub leaves : (is : List PlainInst) (c : Class) (es : List Class) (n : ℕ) (d : Class) (s : Span) → slice_get (classes is) n ≡ Some d → UpTo is c es n s → Before is c es (n + 1) (left s (is_among d es))
leaves is c es n d s e u = leave_by (is_among d es) is c es n d s e refl u

-- where a span is open
pub within : (is : List PlainInst) (c : Class) (es : List Class) (n : ℕ) (s : Span) → UpTo is c es n s → MatchOption (inside s) ((f : ℕ) → ¬ (IsWithin is c es n f)) (λ f. IsWithin is c es n f)
within is c es n _ (UpTo.outside h g) = λ f w. h f w.begun
within is c es n _ (UpTo.within f w) = w
within is c es n _ (UpTo.after g k b l m e) = λ f w. let x = last_same is c n f g w.begun b in w.not_ended k (omega arith) m e
