use Rattle.std.proofs.Common.{refl}
use Rattle.spv_streams.proofs.Written.{made_written, told_written}
use Rattle.spv_streams.proofs.writing.write_reply.Goals as goal

pub returns-in-Done-clause-written : goal.returns-in-Done-clause-written
returns-in-Done-clause-written g c =
    rw c.in-Done.is (told_written _ _ _ _ refl refl (λ f. f refl) (λ q. refl) c.put_output.ensures)

pub returns-in-Fault-clause-written : goal.returns-in-Fault-clause-written
returns-in-Fault-clause-written g c =
    rw c.in-Fault.is (told_written _ _ _ _ refl refl (λ f. f refl) (λ q. refl) c.put_output-in-Fault.ensures)

pub returns-in-Made-clause-written : goal.returns-in-Made-clause-written
returns-in-Made-clause-written g c =
    rw c.in-Made.is (made_written _ _ _ _ refl refl (λ f. f refl) (λ q. refl)
    (rw c.as_slice.ensures.value at c.put_bytes.ensures.put))
