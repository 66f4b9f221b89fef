use Rattle.std.proofs.Common.{◌≡◌, ℕ, Bool, true, false, Some, nat_eq, List, get_or, refl}
use Rattle.std.specs.Prelude.{slice_get, MatchBool}
use Rattle.spv_module.specs.Operand.{PlainInst}
use Rattle.spv_module.specs.Module.{plain_inst}
use Rattle.spv_flow.specs.branches.inner.Code.{insts_of}
use Rattle.spv_flow.specs.branches.Target.{is_opcode, IsOp}
use Rattle.spv_flow.proofs.lemmas.branches.Labelled.{inst_get, op_holds, op_tells}
use Rattle.spv_flow.proofs.branches.code.Code.has_opcode.Goals as goal

by_test : (is : List PlainInst) (n code : ℕ) (i : PlainInst) (b : Bool) → slice_get is n ≡ Some i
    → nat_eq i.opcode code ≡ b → MatchBool b (IsOp is n (is_opcode code)) (¬ (IsOp is n (is_opcode code)))
by_test is n code i true there e = op_holds is n i (is_opcode code) there e
by_test is n code i false there e = λ o. let t = op_tells is n i (is_opcode code) there o in cc

pub returns : goal.returns
returns c =
    let insts = c.args.self.now.insts.now in
    let i : PlainInst = plain_inst (get_or insts c.args.inst c.index-self-inst.result) in
    by_test (insts_of c.args.self.now) c.args.inst c.args.opcode i (nat_eq i.opcode c.args.opcode)
    (inst_get insts c.args.inst c.index-self-inst.result c.requires) refl
