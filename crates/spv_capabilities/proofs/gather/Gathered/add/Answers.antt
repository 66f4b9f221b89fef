use Rattle.std.proofs.Common.{◌≡◌, ◌∙◌, ap, arith}
use Rattle.spv_module.specs.Module.{plain_inst, plain_operands}
use Rattle.spv_module.specs.declared.opcode.TheConstants as opcode
use Rattle.spv_capabilities.specs.Capable.{first_value}
use Rattle.spv_capabilities.specs.Entry.{called_by, entered_by, imported_by, third_id, second_id, linked_id}
use Rattle.spv_capabilities.proofs.Marked.{marks_none}
use Rattle.spv_capabilities.proofs.Gathering.{declared_none, declared_one, entry_here, entry_other, declared_here}
use Rattle.spv_capabilities.proofs.Gathering.{called_here, entered_here, imported_here, not_declared, not_called}
use Rattle.spv_capabilities.proofs.Gathering.{not_entered, not_imported}
use Rattle.spv_capabilities.proofs.gather.Gathered.add.Goals as goal

pub returns-in_ok-push-in-17 : goal.returns-in_ok-push-in-17
returns-in_ok-push-in-17 c = λ is to d h a.
    let i = plain_inst c.args.inst.now in
    let g = c.args.self.now in
    let o : i.opcode ≡ opcode.CAPABILITY = c.in-17.is in
    let f : c.first_value.result ≡ first_value i.operands = c.first_value.ensures
    ∙ ap (λ os. first_value (plain_operands os)) c.as_slice.ensures.value in
    record {
      declared = c.in_ok-push-in-17.ensures.items
          ∙ declared_one is to c.in-Some.capability i g.declared.items h
          (declared_here i c.first_value.result o f ∙ c.in-Some.is) a.declared;
      entry = entry_other is to i g.entry h (λ q. omega (arith, o, q)) a.entry;
      called = marks_none called_by is to i g.called.items h (not_called i (λ q. omega (arith, o, q))) a.called;
      entered = marks_none entered_by is to i g.entered.items h (not_entered i (λ q. omega (arith, o, q))) a.entered;
      imported = marks_none (imported_by c.args.linkage) is to i g.imported.items h
          (not_imported c.args.linkage i (λ q. omega (arith, o, q))) a.imported;
    }

pub returns-in_default-first_value : goal.returns-in_default-first_value
returns-in_default-first_value c = λ is to d h a.
    let i = plain_inst c.args.inst.now in
    let g = c.args.self.now in
    let o : i.opcode ≡ opcode.CAPABILITY = c.in-17.is in
    let f : c.first_value.result ≡ first_value i.operands = c.first_value.ensures
    ∙ ap (λ os. first_value (plain_operands os)) c.as_slice.ensures.value in
    record {
      declared = declared_none is to i g.declared.items h
          (declared_here i c.first_value.result o f ∙ c.in_default-first_value.is) a.declared;
      entry = entry_other is to i g.entry h (λ q. omega (arith, o, q)) a.entry;
      called = marks_none called_by is to i g.called.items h (not_called i (λ q. omega (arith, o, q))) a.called;
      entered = marks_none entered_by is to i g.entered.items h (not_entered i (λ q. omega (arith, o, q))) a.entered;
      imported = marks_none (imported_by c.args.linkage) is to i g.imported.items h
          (not_imported c.args.linkage i (λ q. omega (arith, o, q))) a.imported;
    }

pub returns-in-15 : goal.returns-in-15
returns-in-15 c = λ is to d h a.
    let i = plain_inst c.args.inst.now in
    let g = c.args.self.now in
    let o : i.opcode ≡ opcode.ENTRY_POINT = c.in-15.is in
    let f : c.second_id.result ≡ second_id i.operands = c.second_id.ensures
    ∙ ap (λ os. second_id (plain_operands os)) c.as_slice-in-15.ensures.value in
    record {
      declared = declared_none is to i g.declared.items h (not_declared i (λ q. omega (arith, o, q))) a.declared;
      entry = entry_here is to i h o;
      called = marks_none called_by is to i g.called.items h (not_called i (λ q. omega (arith, o, q))) a.called;
      entered = c.mark.ensures entered_by is to i d h (entered_here i c.second_id.result o f) a.entered;
      imported = marks_none (imported_by c.args.linkage) is to i g.imported.items h
          (not_imported c.args.linkage i (λ q. omega (arith, o, q))) a.imported;
    }

pub returns-in-57 : goal.returns-in-57
returns-in-57 c = λ is to d h a.
    let i = plain_inst c.args.inst.now in
    let g = c.args.self.now in
    let o : i.opcode ≡ opcode.FUNCTION_CALL = c.in-57.is in
    let f : c.third_id.result ≡ third_id i.operands = c.third_id.ensures
    ∙ ap (λ os. third_id (plain_operands os)) c.as_slice-in-57.ensures.value in
    record {
      declared = declared_none is to i g.declared.items h (not_declared i (λ q. omega (arith, o, q))) a.declared;
      entry = entry_other is to i g.entry h (λ q. omega (arith, o, q)) a.entry;
      called = c.mark-in-57.ensures called_by is to i d h (called_here i c.third_id.result o f) a.called;
      entered = marks_none entered_by is to i g.entered.items h (not_entered i (λ q. omega (arith, o, q))) a.entered;
      imported = marks_none (imported_by c.args.linkage) is to i g.imported.items h
          (not_imported c.args.linkage i (λ q. omega (arith, o, q))) a.imported;
    }

pub returns-in-71 : goal.returns-in-71
returns-in-71 c = λ is to d h a.
    let i = plain_inst c.args.inst.now in
    let g = c.args.self.now in
    let o : i.opcode ≡ opcode.DECORATE = c.in-71.is in
    let f : c.linked_id.result ≡ linked_id c.args.linkage i.operands = c.linked_id.ensures
    ∙ ap (λ os. linked_id c.args.linkage (plain_operands os)) c.as_slice-in-71.ensures.value in
    record {
      declared = declared_none is to i g.declared.items h (not_declared i (λ q. omega (arith, o, q))) a.declared;
      entry = entry_other is to i g.entry h (λ q. omega (arith, o, q)) a.entry;
      called = marks_none called_by is to i g.called.items h (not_called i (λ q. omega (arith, o, q))) a.called;
      entered = marks_none entered_by is to i g.entered.items h (not_entered i (λ q. omega (arith, o, q))) a.entered;
      imported = c.mark-in-71.ensures (imported_by c.args.linkage) is to i d h
          (imported_here c.args.linkage i c.linked_id.result o f) a.imported;
    }

pub returns-in_default : goal.returns-in_default
returns-in_default c = λ is to d h a.
    let i = plain_inst c.args.inst.now in
    let g = c.args.self.now in
    record {
      declared = declared_none is to i g.declared.items h (not_declared i (λ q. omega (arith, q))) a.declared;
      entry = entry_other is to i g.entry h (λ q. omega (arith, q)) a.entry;
      called = marks_none called_by is to i g.called.items h (not_called i (λ q. omega (arith, q))) a.called;
      entered = marks_none entered_by is to i g.entered.items h (not_entered i (λ q. omega (arith, q))) a.entered;
      imported = marks_none (imported_by c.args.linkage) is to i g.imported.items h
          (not_imported c.args.linkage i (λ q. omega (arith, q))) a.imported;
    }
