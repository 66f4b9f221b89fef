use Rattle.std.proofs.Common.{◌≡◌, ◌++◌, string_bytes}
use Rattle.spv_commands.specs.Assemble.{explained, text_fault_line}
use Rattle.spv_commands.proofs.assembling.told_fault.Goals as goal

pub returns : goal.returns
returns c = λ f.
    let e : c.extend_from_slice.new.self.items ≡ text_fault_line c.args.error.code c.args.error.line
    ++ string_bytes c.in_ok-lines.lines =
    cc (
      c.in_ok-extend_from_slice.ensures.items,
      c.in_ok-told.ensures.items,
      c.as_slice.ensures,
      c.text_fault-line.ensures,
      c.as_bytes.ensures.value,
    ) in
    rw e (explained _ _ (c.in_ok-lines.ensures f))
