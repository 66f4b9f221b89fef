use Rattle.std.proofs.Common.{List, [], ◌∷◌, arith, subst, sym}
use Rattle.spv_module.specs.Instruction.{IsListing, Listing}
use Rattle.spv_module.specs.Malformed.{IsMalformed}
use Rattle.spv_module.specs.Operand.{PlainInst}
use Rattle.spv_module.specs.declared.fault.Rule.TheVariants.{I1}
use Rattle.spv_views.proofs.laws.beginning_examples.Goals as goal

pub returns-clause-begun : goal.returns-clause-begun
returns-clause-begun c = λ G bytes words order m h d e f. record {
  words = words;
  order = order;
  is_module = h;
  header = d;
  part = [];
  rest = 0 ∷ [];
  all = f;
  listed = subst (λ (is : List PlainInst). IsListing G is []) (sym e) (Listing.end []);
  rule = I1;
  word = 0;
  malformed = IsMalformed.no_count 0 [] (omega arith);
}
