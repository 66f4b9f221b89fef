-- The instruction of a number.
use Rattle.std.proofs.Common.{◌≡◌, ◌<◌, ℕ, zero, suc, List, [], ◌∷◌, length, map, get_or, refl, arith}
use Rattle.spv_module.specs.declared.module.Inst.{Inst}
use Rattle.spv_module.specs.Module.{plain_inst}
use Rattle.spv_annotate.specs.Module.{inst_at}

pub plain_at : (xs : List Inst) (n : ℕ) (d : Inst) → n < length xs
    → inst_at (map plain_inst xs) n ≡ plain_inst (get_or xs n d)
plain_at [] n d l = absurd (omega arith)
plain_at (x ∷ xs) zero d l = refl
plain_at (x ∷ xs) (suc n) d l = plain_at xs n d (omega arith)
