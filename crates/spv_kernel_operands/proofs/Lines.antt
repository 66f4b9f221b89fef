-- The table of scopes and semantics, by where its lines leave opcodes out.
use Rattle.std.proofs.Common.{◌≡◌, ◌<◌, ◌⊎◌, ◌∙◌, ◌&&◌, ◌||◌, ℕ, List, [], ◌∷◌, Bool, true, false, nat_le, refl, ap}
use Rattle.std.proofs.Common.{if◌then◌else◌, inl, inr, arith}
use Rattle.std.proofs.lemmas.Bool.{and_parts, leb-true, false_from_ne_true}
use Rattle.spv_module.specs.declared.opcode.TheConstants as opcode
use Rattle.spv_kernel_operands.specs.Seats.{Line, is_of, lines, scopes_in, scopes_of, semantics_in, semantics_of}

-- none of some lines has an opcode
NoneHas : List Line → ℕ → Type 0
NoneHas [] code = Unit {0}
NoneHas (l ∷ ls) code = (is_of code l ≡ false) × NoneHas ls code

no_scopes : (ls : List Line) (code : ℕ) → NoneHas ls code → scopes_in ls code ≡ []
unfolding NoneHas
no_scopes [] code h = refl
no_scopes (l ∷ ls) code h =
    ap (λ (b : Bool). if b then l.2.now else scopes_in ls code) h.0 ∙ no_scopes ls code h.1

no_semantics : (ls : List Line) (code : ℕ) → NoneHas ls code → semantics_in ls code ≡ []
unfolding NoneHas
no_semantics [] code h = refl
no_semantics (l ∷ ls) code h =
    ap (λ (b : Bool). if b then l.3.now else semantics_in ls code) h.0 ∙ no_semantics ls code h.1

none_of_table : (code : ℕ) → NoneHas lines code → (scopes_of code ≡ []) × (semantics_of code ≡ [])
none_of_table code h = (no_scopes lines code h, no_semantics lines code h)

-- each of some lines is of opcodes from that one on
are_from : ℕ → List Line → Bool
are_from k [] = true
are_from k (l ∷ ls) = nat_le k l.0 && are_from k ls

not_of : (l : Line) (k code : ℕ) → nat_le k l.0 ≡ true → code < k → is_of code l ≡ false
not_of l k code from below = false_from_ne_true (is_of code l) (λ t.
    let a = leb-true l.0 code (and_parts (nat_le l.0 code) (nat_le code l.1) t).0 in
    let b = leb-true k l.0 from in
    absurd (omega (arith, a, b, below)))

none_before : (ls : List Line) (k code : ℕ) → are_from k ls ≡ true → code < k → NoneHas ls code
unfolding are_from NoneHas
none_before [] k code from below = tt
none_before (l ∷ ls) k code from below =
    let both = and_parts (nat_le k l.0) (are_from k ls) from in
    (not_of l k code both.0 below, none_before ls k code both.1 below)

from_barrier : are_from opcode.CONTROL_BARRIER lines ≡ true
unfolding are_from lines
from_barrier = refl

-- an opcode below OpControlBarrier has no such operands
pub none_below : (code : ℕ) → code < opcode.CONTROL_BARRIER → (scopes_of code ≡ []) × (semantics_of code ≡ [])
none_below code below = none_of_table code (none_before lines opcode.CONTROL_BARRIER code from_barrier below)

-- each of some lines is of opcodes up to one, or of opcodes from another on
are_apart : ℕ → ℕ → List Line → Bool
are_apart k m [] = true
are_apart k m (l ∷ ls) = (nat_le l.1 k || nat_le m l.0) && are_apart k m ls

either_of : (a b : Bool) → (a || b) ≡ true → (a ≡ true) ⊎ (b ≡ true)
either_of true b e = inl refl
either_of false b e = inr e

not_between : (l : Line) (k m code : ℕ) → (nat_le l.1 k || nat_le m l.0) ≡ true → k < code → code < m
    → is_of code l ≡ false
not_between l k m code either above below = false_from_ne_true (is_of code l) (λ t.
    let from = leb-true l.0 code (and_parts (nat_le l.0 code) (nat_le code l.1) t).0 in
    let to = leb-true code l.1 (and_parts (nat_le l.0 code) (nat_le code l.1) t).1 in
    elim (either_of (nat_le l.1 k) (nat_le m l.0) either) [
      | inl a ↦ let b = leb-true l.1 k a in absurd (omega (arith, to, b, above))
      | inr a ↦ let b = leb-true m l.0 a in absurd (omega (arith, from, b, below))
    ])

none_within : (ls : List Line) (k m code : ℕ) → are_apart k m ls ≡ true → k < code → code < m → NoneHas ls code
unfolding are_apart NoneHas
none_within [] k m code apart above below = tt
none_within (l ∷ ls) k m code apart above below =
    let both = and_parts (nat_le l.1 k || nat_le m l.0) (are_apart k m ls) apart in
    (not_between l k m code both.0 above below, none_within ls k m code both.1 above below)

apart_from_both : are_apart opcode.ATOMIC_XOR opcode.GROUP_ASYNC_COPY lines ≡ true
unfolding are_apart lines
apart_from_both = refl

-- nor has one between OpAtomicXor and OpGroupAsyncCopy
pub none_between : (code : ℕ) → opcode.ATOMIC_XOR < code → code < opcode.GROUP_ASYNC_COPY
    → (scopes_of code ≡ []) × (semantics_of code ≡ [])
none_between code above below = none_of_table code
    (none_within lines opcode.ATOMIC_XOR opcode.GROUP_ASYNC_COPY code apart_from_both above below)
