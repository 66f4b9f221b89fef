-- What an instruction calls, where it calls what OpenCL.std does not have, and the other way round.
use Rattle.std.proofs.Common.{◌≡◌, ℕ, Bool, true, false, List, ◌∷◌, Option, Some, None, refl, sym, subst, nat_eq}
use Rattle.std.specs.Prelude.{◌&&◌, slice_get, option_and_then, if◌then◌else◌}
use Rattle.spv_module.specs.Operand.{Plain, OfType, Result, Id, Word, PlainInst}
use Rattle.spv_module.specs.declared.opcode.TheConstants.{EXT_INST}
use Rattle.spv_extended.specs.declared.call.Call.{Call}
use Rattle.spv_extended.specs.declared.set.Set.{Set}
use Rattle.spv_extended.specs.declared.set.Set.TheVariants.{OpenClStd, OpenClDebugInfo, DebugInfo, Other}
use Rattle.spv_extended.specs.Call.{call_at, call_in, call_of}
use Rattle.spv_extended.specs.Miscalled.{IsMiscalled, is_miscall, miscalls, misses}
use Rattle.spv_extended.specs.Sets.{set_in}

-- the set has not what is called
abbrev pub Misses : Option Call → Type 0
Misses None = ⊥
Misses (Some c) = misses c.set c.number c.operands ≡ true

in_operands : (sets : ℕ → Set) (os : List Plain) → is_miscall sets os ≡ true → Misses (call_in sets os)
in_operands sets (OfType t ∷ Result x ∷ Id set ∷ Word number ∷ os) h = h
in_operands sets os h = absurd cc

of_inst : (sets : ℕ → Set) (i : PlainInst) → miscalls sets i ≡ true → Misses (call_of sets i)
of_inst sets i h = by (nat_eq i.opcode EXT_INST) h
  where
    by : (b : Bool) → (b && is_miscall sets i.operands) ≡ true → Misses (if b then call_in sets i.operands else None)
    by true e = in_operands sets i.operands e
    by false e = absurd cc

pub called : (is : List PlainInst) (n : ℕ) → IsMiscalled is n → Misses (call_at is n)
called is n m = subst (λ o. Misses (option_and_then (call_of (set_in is)) o)) (sym m.there)
    (of_inst (set_in is) m.inst m.missed)

from_operands : (sets : ℕ → Set) (os : List Plain) → Misses (call_in sets os) → is_miscall sets os ≡ true
from_operands sets (OfType t ∷ Result x ∷ Id set ∷ Word number ∷ os) h = h
from_operands sets os h = absurd h

from_inst : (sets : ℕ → Set) (i : PlainInst) → Misses (call_of sets i) → miscalls sets i ≡ true
from_inst sets i h = by (nat_eq i.opcode EXT_INST) h
  where
    by : (b : Bool) → Misses (if b then call_in sets i.operands else None) → (b && is_miscall sets i.operands) ≡ true
    by true e = from_operands sets i.operands e
    by false e = absurd e

pub miscalled : (is : List PlainInst) (n : ℕ) → Misses (call_at is n) → IsMiscalled is n
miscalled is n h = by (slice_get is n) refl h
  where
    by : (o : Option PlainInst) → slice_get is n ≡ o → Misses (option_and_then (call_of (set_in is)) o)
        → IsMiscalled is n
    by None e m = absurd m
    by (Some i) e m = record { inst = i; there = e; missed = from_inst (set_in is) i m }

-- only OpenCL.std is asked
pub of_std : (s : Set) (number count : ℕ) → misses s number count ≡ true → s ≡ OpenClStd
of_std OpenClStd number count h = refl
of_std OpenClDebugInfo number count h = absurd cc
of_std DebugInfo number count h = absurd cc
of_std Other number count h = absurd cc
