use Rattle.spv_standard.proofs.passes.in_order.Goals as goal

pub returns-in-Ok : goal.returns-in-Ok
returns-in-Ok c = λ fork G plan ids branches values. c.in-Ok.ensures.unbroken fork G plan ids branches values

pub returns-in-Err-Fault : goal.returns-in-Err-Fault
returns-in-Err-Fault c = λ fork G plan ids branches values.
    let r = rw c.in-Err-Fault.field-0-is at (c.in-Err-Fault.ensures.refused fork G plan ids branches values) in r.0
