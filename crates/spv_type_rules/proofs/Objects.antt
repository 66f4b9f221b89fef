-- No type of queues is declared in the small module of samplers.
use Rattle.std.proofs.Common.{◌≡◌, ℕ, zero, suc, [], ◌∷◌, Some, subst, sym, arith}
use Rattle.std.specs.Prelude.{slice_get}
use Rattle.spv_module.specs.declared.opcode.TheConstants as opcode
use Rattle.spv_module.specs.Operand.{Result, PlainInst}
use Rattle.spv_type_forms.specs.Example.{inst}
use Rattle.spv_type_rules.specs.Repeat.{Repeats}
use Rattle.spv_type_rules.specs.Example.{samplers}

no_queue_at : (n : ℕ) (i : PlainInst) → slice_get samplers n ≡ Some i → opcode.TYPE_QUEUE ≡ i.opcode → ⊥
no_queue_at zero i at e =
    let same : inst opcode.TYPE_SAMPLER (Result 1 ∷ []) ≡ i = cc in
    let no : opcode.TYPE_QUEUE ≡ opcode.TYPE_SAMPLER = subst (λ (j : PlainInst). opcode.TYPE_QUEUE ≡ j.opcode)
    (sym same) e in
    absurd (omega (arith, no))
no_queue_at (suc n) i at e = cc

pub no_queue_before : ¬ (Repeats samplers 1 (inst opcode.TYPE_QUEUE (Result 2 ∷ [])))
no_queue_before r = no_queue_at r.place r.other r.there r.alike.0
