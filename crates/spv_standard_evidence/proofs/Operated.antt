-- The rules on operands, each by its part.
use Rattle.std.proofs.Common.{◌≡◌, ◌≢◌, ◌<◌, ◌∙◌, ℕ, List, Some, Contains, get_or, length, sym, subst, refl, arith}
use Rattle.std.specs.Prelude.{slice_get}
use Rattle.std.proofs.lemmas.Option.{same_Some, slice_get-get_or, slice_get_within}
use Rattle.spv_table.specs.Table.{Table}
use Rattle.spv_module.specs.declared.opcode.TheConstants as opcode
use Rattle.spv_module.specs.Operand.{Plain, PlainInst}
use Rattle.spv_module.specs.declared.fault.Rule.{Rule}
use Rattle.spv_module.specs.declared.fault.Rule.TheVariants.{O14, O15, O16, O17, O18, O19, O23}
use Rattle.spv_evidence.specs.declared.evidence.Evidence.{Evidence}
use Rattle.spv_evidence.specs.declared.evidence.Evidence.TheVariants.{Operand, Pair}
use Rattle.spv_kernel_operands.specs.Broken.{Broken, IsBrokenBy}
use Rattle.spv_kernel_operands.specs.Scopes.{IsMisscoped}
use Rattle.spv_kernel_operands.specs.Pointers.{pointer_seat}
use Rattle.spv_kernel_operands.specs.Control.{IsMiscontrolled}
use Rattle.spv_kernel_operands.specs.Switch.{HasWide, IsMisswitched, literals_of}
use Rattle.spv_standard_evidence.specs.Operands.{IsEvidence, IsWide, Shows}
use Rattle.spv_standard_evidence.proofs.Switched.{twice_at, indexed}

-- what is broken, by the rule
pub by_14 : (G : Table) (is : List PlainInst) (i : PlainInst) → IsBrokenBy G is i O14 → IsMisscoped is i
by_14 G is i (IsBrokenBy.scopes h) = h

pub by_18 : (G : Table) (is : List PlainInst) (i : PlainInst) → IsBrokenBy G is i O18 → IsMiscontrolled i
by_18 G is i (IsBrokenBy.control h) = h

pub by_19 : (G : Table) (is : List PlainInst) (i : PlainInst) → IsBrokenBy G is i O19 → IsMisswitched is i
by_19 G is i (IsBrokenBy.switch h) = h

-- the operand that shows it
pub shown_15 : (G : Table) (is : List PlainInst) (i : PlainInst) (k : ℕ) → k ≡ pointer_seat i.opcode
    → IsBrokenBy G is i O15 → Shows G is i O15 (Operand k)
shown_15 G is i k e (IsBrokenBy.atomic h) = subst (λ (m : ℕ). Shows G is i O15 (Operand m)) (sym e) (Shows.atomic h)

pub shown_16 : (G : Table) (is : List PlainInst) (i : PlainInst) (k : ℕ) → k ≡ pointer_seat i.opcode
    → IsBrokenBy G is i O16 → Shows G is i O16 (Operand k)
shown_16 G is i k e (IsBrokenBy.written h) = subst (λ (m : ℕ). Shows G is i O16 (Operand m)) (sym e) (Shows.written h)

pub shown_17 : (G : Table) (is : List PlainInst) (i : PlainInst) → IsBrokenBy G is i O17
    → Shows G is i O17 (Operand 2)
shown_17 G is i (IsBrokenBy.empty h) = Shows.empty h

pub shown_loop : (G : Table) (is : List PlainInst) (i : PlainInst) → i.opcode ≡ opcode.LOOP_MERGE
    → IsMiscontrolled i → Shows G is i O18 (Operand 2)
shown_loop G is i e (IsMiscontrolled.loop o h) = Shows.loop o h
shown_loop G is i e (IsMiscontrolled.weights o h) =
    absurd (let no : opcode.LOOP_MERGE ≡ opcode.BRANCH_CONDITIONAL = sym e ∙ o in omega (arith, no))

pub shown_weights : (G : Table) (is : List PlainInst) (i : PlainInst) → i.opcode ≢ opcode.LOOP_MERGE
    → IsMiscontrolled i → Shows G is i O18 (Pair 3 4)
shown_weights G is i e (IsMiscontrolled.loop o h) = absurd (e o)
shown_weights G is i e (IsMiscontrolled.weights o h) = Shows.weights o h

-- of the rules that are left: O20
pub shown_20 : (G : Table) (is : List PlainInst) (i : PlainInst) (r : Rule) → r ≢ O14 → r ≢ O15 → r ≢ O16 → r ≢ O17
    → r ≢ O18 → r ≢ O19 → IsBrokenBy G is i r → Shows G is i r (Operand 0)
shown_20 G is i _ a b c d e f (IsBrokenBy.scopes h) = absurd (a refl)
shown_20 G is i _ a b c d e f (IsBrokenBy.atomic h) = absurd (b refl)
shown_20 G is i _ a b c d e f (IsBrokenBy.written h) = absurd (c refl)
shown_20 G is i _ a b c d e f (IsBrokenBy.empty h) = absurd (d refl)
shown_20 G is i _ a b c d e f (IsBrokenBy.control h) = absurd (e refl)
shown_20 G is i _ a b c d e f (IsBrokenBy.switch h) = absurd (f refl)
shown_20 G is i _ a b c d e f (IsBrokenBy.void h) = Shows.void h

-- the instruction at which it is broken
pub broken_inst : (G : Table) (is : List PlainInst) (n : ℕ) (i : PlainInst) (r : Rule) → slice_get is n ≡ Some i
    → r ≢ O23 → Broken G is r n → IsBrokenBy G is i r
broken_inst G is _ i _ there not (Broken.operands r n j t b) =
    subst (λ (x : PlainInst). IsBrokenBy G is x r) (same_Some j i (sym t ∙ there)) b
broken_inst G is _ i _ there not (Broken.elsewhere n e) = absurd (not refl)

pub broken_within : (G : Table) (is : List PlainInst) (n : ℕ) (r : Rule) → Broken G is r n → n < length is
broken_within G is _ _ (Broken.operands r n i t b) = slice_get_within is n i t
broken_within G is _ _ (Broken.elsewhere n e) = slice_get_within is n e.inst e.there

no_other : (G : Table) (is : List PlainInst) (i : PlainInst) → ¬ (IsBrokenBy G is i O23)
no_other G is i b = elim b [ ]

pub shown_23 : (G : Table) (is : List PlainInst) (n : ℕ) → Broken G is O23 n → IsEvidence G is O23 n (Operand 2)
shown_23 G is _ (Broken.operands _ n i t b) = absurd (no_other G is i b)
shown_23 G is _ (Broken.elsewhere n e) = IsEvidence.elsewhere n e

-- what stands at a place is in a list
contains_at : (xs : List ℕ) (k x : ℕ) → slice_get xs k ≡ Some x → Contains xs x
contains_at xs k x e =
    let l = slice_get_within xs k x e in
    (k, l, same_Some (get_or xs k x) x (sym (slice_get-get_or xs k x l) ∙ e))

-- evidence suffices
wide_there : (is : List PlainInst) (os : List Plain) (k : ℕ) → IsWide is os k → HasWide is os
wide_there is os k h =
    let at = indexed os k h.literal h.there in
    record {
      selector = h.selector;
      typed = h.typed;
      width = h.width;
      int = h.int;
      literal = h.literal;
      there = contains_at (literals_of os) at.place h.literal at.there;
      wide = h.wide;
    }

shows_broken : (G : Table) (is : List PlainInst) (i : PlainInst) (r : Rule) (e : Evidence) → Shows G is i r e
    → IsBrokenBy G is i r
shows_broken G is i _ _ (Shows.scopes m) = IsBrokenBy.scopes m
shows_broken G is i _ _ (Shows.atomic h) = IsBrokenBy.atomic h
shows_broken G is i _ _ (Shows.written h) = IsBrokenBy.written h
shows_broken G is i _ _ (Shows.empty h) = IsBrokenBy.empty h
shows_broken G is i _ _ (Shows.loop o h) = IsBrokenBy.control (IsMiscontrolled.loop o h)
shows_broken G is i _ _ (Shows.weights o h) = IsBrokenBy.control (IsMiscontrolled.weights o h)
shows_broken G is i _ _ (Shows.twice j k o h) = IsBrokenBy.switch
    (IsMisswitched.twice o (twice_at i.operands j k h.literal h.before h.one h.other))
shows_broken G is i _ _ (Shows.wide k o h) = IsBrokenBy.switch (IsMisswitched.wide o (wide_there is i.operands k h))
shows_broken G is i _ _ (Shows.void h) = IsBrokenBy.void h

pub operands_suffice : (G : Table) (is : List PlainInst) (r : Rule) (n : ℕ) (e : Evidence) → IsEvidence G is r n e
    → Broken G is r n
operands_suffice G is _ _ _ (IsEvidence.operands r n i e t s) = Broken.operands r n i t (shows_broken G is i r e s)
operands_suffice G is _ _ _ (IsEvidence.elsewhere n h) = Broken.elsewhere n h
