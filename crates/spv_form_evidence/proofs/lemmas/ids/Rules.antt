-- Where a rule on ids is broken.
use Rattle.std.proofs.Common.{◌≡◌, ◌<◌, ◌∙◌, ℕ, List, Some, sym, subst, length, map, get_or, arith}
use Rattle.std.specs.Prelude.{slice_get}
use Rattle.std.proofs.lemmas.List.{length-map}
use Rattle.std.proofs.lemmas.Option.{slice_get_within}
use Rattle.spv_table.specs.Table.{Table}
use Rattle.spv_module.specs.Operand.{PlainInst, result_in}
use Rattle.spv_module.specs.Module.{plain_inst}
use Rattle.spv_module.specs.declared.module.Inst.{Inst}
use Rattle.spv_module.specs.declared.fault.Rule.{Rule}
use Rattle.spv_module.specs.declared.fault.Rule.TheVariants.{D2}
use Rattle.spv_ids.specs.Definition.{IsDefinedAt}
use Rattle.spv_ids.specs.Broken.{Broken}
use Rattle.spv_layout.proofs.Misfits.{inst_there}
use Rattle.spv_form_evidence.proofs.lemmas.ids.Using.{same_inst}

pub within : (G : Table) (bound : ℕ) (is : List PlainInst) (r : Rule) (n : ℕ) → Broken G bound is r n → n < length is
within G bound is _ _ (Broken.result_out_of_range n x d o) = slice_get_within is n d.inst d.there
within G bound is _ _ (Broken.use_out_of_range n k x r u o) = slice_get_within is n u.inst u.there
within G bound is _ _ (Broken.mention_out_of_range n k x m o) = slice_get_within is n m.inst m.there
within G bound is _ _ (Broken.defined_again n m x d l e) = slice_get_within is n d.inst d.there
within G bound is _ _ (Broken.undefined n k x r u h) = slice_get_within is n u.inst u.there
within G bound is _ _ (Broken.mention_undefined n k x m h) = slice_get_within is n m.inst m.there
within G bound is _ _ (Broken.not_in_order n k x r u o h) = slice_get_within is n u.inst u.there
within G bound is _ _ (Broken.not_in_scope n k x r u s l h) = slice_get_within is n u.inst u.there

-- the instruction at which it is broken
pub broken_there : (G : Table) (bound : ℕ) (insts : List Inst) (r : Rule) (n : ℕ) (i : Inst)
    → Broken G bound (map plain_inst insts) r n → i ≡ get_or insts n i
    → slice_get (map plain_inst insts) n ≡ Some (plain_inst i)
broken_there G bound insts r n i b e =
    let w = within G bound (map plain_inst insts) r n b in
    let l = length-map insts plain_inst in
    inst_there insts n i (omega arith) e

pub defined_here : (is : List PlainInst) (n x : ℕ) (i : PlainInst) → slice_get is n ≡ Some i
    → result_in i.operands ≡ Some x → IsDefinedAt is x n
defined_here is n x i h g = record { inst = i; there = h; result = g }

pub result_here : (is : List PlainInst) (n x : ℕ) (i : PlainInst) → slice_get is n ≡ Some i → IsDefinedAt is x n
    → result_in i.operands ≡ Some x
result_here is n x i h d =
    let e : d.inst ≡ i = same_inst is n d.inst i d.there h in
    rw e at d.result

-- an earlier instruction that has the same result
pub record HasEarlier (is : List PlainInst) (n x : ℕ) : Type 0 where
  pub inst : ℕ
  pub below : inst < n
  pub there : IsDefinedAt is x inst

pub again : (G : Table) (bound : ℕ) (is : List PlainInst) (r : Rule) (n x : ℕ) (i : PlainInst) → r ≡ D2
    → slice_get is n ≡ Some i → result_in i.operands ≡ Some x → Broken G bound is r n → HasEarlier is n x
again G bound is _ _ x i q t g (Broken.defined_again n m y d l e) =
    let h = result_here is n y i t d in
    let s : y ≡ x = (let p : Some y ≡ Some x = sym h ∙ g in cc) in
    record { inst = m; below = l; there = subst (λ z. IsDefinedAt is z m) s e }
again G bound is _ _ x i q t g _ = cc
