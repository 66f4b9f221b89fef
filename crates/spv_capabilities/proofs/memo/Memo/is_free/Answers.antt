use Rattle.std.proofs.Common.{◌≡◌, ℕ, List, Some, subst}
use Rattle.std.specs.Prelude.{slice_get}
use Rattle.spv_capabilities.specs.declared.memo.Answer.{Answer}
use Rattle.spv_capabilities.specs.declared.memo.Answer.TheVariants.{Free}
use Rattle.spv_capabilities.proofs.Knowing.{kept_at}
use Rattle.spv_capabilities.proofs.memo.Memo.is_free.Goals as goal

pub returns-in-Some-Free : goal.returns-in-Some-Free
returns-in-Some-Free c = λ s k t.
    let e = kept_at c.deref.result.now c.from.result c.in-Some-Free.field-0.now Free c.in-Some-Free.ensures.lookup.0
    c.in-Some-Free.ensures.lookup.1 c.in-Some-Free.field-0-is in
    let f = subst (λ (n : ℕ). slice_get c.deref.result.now n ≡ Some Free) c.from.ensures e in
    let g = subst (λ (l : List Answer). slice_get l c.args.number ≡ Some Free) c.deref.ensures.value f in
    k.entries c.args.number Free g
