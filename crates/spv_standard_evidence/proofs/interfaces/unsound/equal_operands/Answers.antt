use Rattle.std.proofs.Common.{refl}
use Rattle.spv_standard_evidence.proofs.interfaces.unsound.equal_operands.Goals as goal

pub returns : goal.returns
returns c =
    let e = c.first_place-earlier.ensures in
    let r = rw c.in-Some.is at c.in_ok-found.ensures in (
      c.in-Some.x,
      record {
        first = c.first_place-earlier.result;
        second = c.in-Some.second;
        order = e.before;
        one = e.there;
        other = r.1.0;
      },
      refl,
    )
