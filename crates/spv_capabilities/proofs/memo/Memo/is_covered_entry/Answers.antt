use Rattle.std.proofs.Common.{◌≡◌, ℕ, List, Some, refl, subst, true, false}
use Rattle.std.specs.Prelude.{slice_get}
use Rattle.spv_capabilities.specs.declared.memo.Answer.{Answer}
use Rattle.spv_capabilities.specs.declared.memo.Answer.TheVariants.{Yes, No, Free}
use Rattle.spv_capabilities.proofs.Knowing.{kept_at}
use Rattle.spv_capabilities.proofs.memo.Memo.is_covered_entry.Goals as goal

pub returns-in-Some-Yes-clause-answer : goal.returns-in-Some-Yes-clause-answer
returns-in-Some-Yes-clause-answer c =
    let e = kept_at c.deref.result.now c.from.result c.in-Some-Yes.field-0.now Yes c.in-Some-Yes.ensures.lookup.0
    c.in-Some-Yes.ensures.lookup.1 c.in-Some-Yes.field-0-is in
    let f = subst (λ (n : ℕ). slice_get c.deref.result.now n ≡ Some Yes) c.from.ensures e in
    let g = subst (λ (l : List Answer). slice_get l c.args.opcode ≡ Some Yes) c.deref.ensures.value f in
    (λ t. c.requires.entries c.args.opcode Yes g, λ p. refl)

pub returns-in-Some-Free-clause-answer : goal.returns-in-Some-Free-clause-answer
returns-in-Some-Free-clause-answer c =
    let e = kept_at c.deref.result.now c.from.result c.in-Some-Free.field-0.now Free c.in-Some-Free.ensures.lookup.0
    c.in-Some-Free.ensures.lookup.1 c.in-Some-Free.field-0-is in
    let f = subst (λ (n : ℕ). slice_get c.deref.result.now n ≡ Some Free) c.from.ensures e in
    let g = subst (λ (l : List Answer). slice_get l c.args.opcode ≡ Some Free) c.deref.ensures.value f in
    (λ t. (c.requires.entries c.args.opcode Free g).0, λ p. refl)

pub returns-in-Some-No-clause-answer : goal.returns-in-Some-No-clause-answer
returns-in-Some-No-clause-answer c =
    let e = kept_at c.deref.result.now c.from.result c.in-Some-No.field-0.now No c.in-Some-No.ensures.lookup.0
    c.in-Some-No.ensures.lookup.1 c.in-Some-No.field-0-is in
    let f = subst (λ (n : ℕ). slice_get c.deref.result.now n ≡ Some No) c.from.ensures e in
    let g = subst (λ (l : List Answer). slice_get l c.args.opcode ≡ Some No) c.deref.ensures.value f in
    (λ t. absurd (let no : false ≡ true = t in cc), λ p. absurd (c.requires.entries c.args.opcode No g p))
