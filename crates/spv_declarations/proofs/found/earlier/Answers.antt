use Rattle.std.proofs.Common.{subst, arith, ℕ, Option}
use Rattle.spv_declarations.specs.Broken.{Broken}
use Rattle.spv_declarations.specs.declared.found.Found.{Found}
use Rattle.spv_declarations.specs.inner.First.{IsFirstAmong, IsFirstOf}
use Rattle.spv_declarations.proofs.Firsts.{among_none, among_kept}
use Rattle.spv_declarations.proofs.found.earlier.Goals as goal

pub returns-in_default : goal.returns-in_default
returns-in_default c = λ G is rs h b f. among_none G is rs c.args.rule c.args.before
    (subst (λ (o : Option ℕ). IsFirstOf (Broken G is c.args.rule) o) c.in_default.is f) h

pub returns-then-found-inst : goal.returns-then-found-inst
returns-then-found-inst c = λ G is rs h b f.
    among_kept G is rs c.args.rule c.in-Some-before.found c.in-Some.inst b (omega arith)
    (subst (λ (o : Option ℕ). IsFirstOf (Broken G is c.args.rule) o) c.in-Some.is f)
    (subst (λ (o : Option Found). IsFirstAmong G is rs o) c.in-Some-before.is h)
