-- What holds at an instruction where no rule is broken that is told before another.
use Rattle.std.proofs.Common.{◌≡◌, ◌<◌, ℕ, List, refl, inl, inr, arith}
use Rattle.std.proofs.lemmas.Bool.{cases_lt}
use Rattle.spv_table.specs.Table.{Table}
use Rattle.spv_module.specs.Operand.{PlainInst}
use Rattle.spv_module.specs.declared.fault.Rule.{Rule}
use Rattle.spv_module.specs.declared.fault.Rule.TheVariants.{D1, D3}
use Rattle.spv_layout.specs.declared.form.Role.{Role}
use Rattle.spv_layout.specs.First.{IsFirst, rank_of, stage_of}
use Rattle.spv_layout.specs.Stage.{of_ids}
use Rattle.spv_ids.specs.Definition.{IsDefinedAt, IsUsedAt, IsMentionedAt}
use Rattle.spv_ids.specs.Broken.{Broken}

not_before : (G : Table) (bound : ℕ) (is : List PlainInst) (q r : Rule) (n : ℕ) → IsFirst (Broken G bound is) of_ids r n
    → stage_of q ≡ of_ids → rank_of q < rank_of r → ¬ (Broken G bound is q n)
not_before G bound is q r n f s l b =
    elim (f.least q n s b) [ inl h ↦ omega arith | inr h ↦ let k = h.1 in omega arith ]

-- where D1 is not broken, the ids that are used or mentioned are below the bound
pub in_range : (G : Table) (bound : ℕ) (is : List PlainInst) (r : Rule) (n : ℕ) → IsFirst (Broken G bound is) of_ids r n
    → rank_of D1 < rank_of r → (k x : ℕ) (q : Role) → IsUsedAt G is n k x q → x < bound
in_range G bound is r n f l k x q u = elim (cases_lt x bound) [
  | inl h ↦ h
  | inr h ↦ absurd (not_before G bound is D1 r n f refl l (Broken.use_out_of_range n k x q u (inr h)))
]

pub mention_in_range : (G : Table) (bound : ℕ) (is : List PlainInst) (r : Rule) (n : ℕ)
    → IsFirst (Broken G bound is) of_ids r n → rank_of D1 < rank_of r → (k x : ℕ) → IsMentionedAt is n k x → x < bound
mention_in_range G bound is r n f l k x m = elim (cases_lt x bound) [
  | inl h ↦ h
  | inr h ↦ absurd (not_before G bound is D1 r n f refl l (Broken.mention_out_of_range n k x m (inr h)))
]

-- where D3 is not, they have definitions
pub not_undefined : (G : Table) (bound : ℕ) (is : List PlainInst) (r : Rule) (n : ℕ)
    → IsFirst (Broken G bound is) of_ids r n → rank_of D3 < rank_of r → (k x : ℕ) (q : Role) → IsUsedAt G is n k x q
    → ((m : ℕ) → ¬ (IsDefinedAt is x m)) → ⊥
not_undefined G bound is r n f l k x q u h = not_before G bound is D3 r n f refl l (Broken.undefined n k x q u h)
