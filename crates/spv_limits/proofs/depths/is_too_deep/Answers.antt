use Rattle.std.proofs.Common.{List, subst}
use Rattle.spv_module.specs.declared.operand.Operand.{Operand}
use Rattle.spv_module.specs.Module.{plain_inst, plain_operands}
use Rattle.spv_limits.specs.inner.Counting.{IsStructDepth}
use Rattle.spv_limits.proofs.Deep.{depths_more, depths_same, no_struct, struct_depth}
use Rattle.spv_limits.proofs.Deepest.{depth_answer}
use Rattle.spv_limits.proofs.depths.is_too_deep.Goals as goal

pub returns-then-inst-ne-TYPE_STRUCT : goal.returns-then-inst-ne-TYPE_STRUCT
returns-then-inst-ne-TYPE_STRUCT c =
    let is = c.args.definitions.now in
    let i = plain_inst c.args.inst.now in (
      λ t. no_struct is c.args.number i c.requires.there c.if-inst-ne-TYPE_STRUCT.true t.0 t.1,
      depths_same is c.args.number i c.args.depths.now c.requires.there c.if-inst-ne-TYPE_STRUCT.true c.requires.depths,
    )

pub returns : goal.returns
returns c =
    let is = c.args.definitions.now in
    let i = plain_inst c.args.inst.now in
    let s = subst (λ (os : List Operand). IsStructDepth is c.args.depths.now (plain_operands os) c.struct_depth-depth.result)
    c.as_slice.ensures.value c.struct_depth-depth.ensures in
    let depth = struct_depth is c.args.number i c.args.depths.now c.struct_depth-depth.result c.requires.lower
    c.requires.depths c.requires.there c.if-inst-ne-TYPE_STRUCT.false s in
    depth_answer is c.args.number c.struct_depth-depth.result c.most.result _ c.most.ensures depth (λ small.
    depths_more is c.args.number c.struct_depth-depth.result c.args.depths.now c.keep.new.map c.requires.depths depth small
    c.in_ok-keep.ensures)
