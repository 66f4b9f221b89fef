-- Evidence shows that the rule is broken, and is found where it is; there is no other.
use Rattle.std.proofs.Common.{◌≡◌, ℕ, List, IsTrue, Some, true, refl, sym, ap, ◌∙◌, subst}
use Rattle.spv_module.specs.Operand.{PlainInst}
use Rattle.spv_module.specs.declared.fault.Rule.{Rule}
use Rattle.spv_module.specs.declared.fault.Rule.TheVariants.{Y9}
use Rattle.spv_extended.specs.declared.call.Call.{Call}
use Rattle.spv_extended.specs.declared.reach.Reach.{Reach}
use Rattle.spv_extended.specs.Reach.{opens}
use Rattle.spv_extended.specs.declared.set.Set.TheVariants.{OpenClStd}
use Rattle.spv_extended.specs.Broken.{Broken}
use Rattle.spv_extended.specs.Call.{call_at}
use Rattle.spv_extended.specs.Facts.{signature_of}
use Rattle.spv_extended.specs.Miscalled.{IsMiscalled, misses}
use Rattle.spv_evidence.specs.declared.evidence.Evidence.{Evidence}
use Rattle.spv_evidence.specs.declared.evidence.Evidence.TheVariants.{Miscalled}
use Rattle.spv_form_evidence.specs.extended.Evidence.{IsEvidence, least_of, most_of}
use Rattle.spv_form_evidence.proofs.lemmas.extended.Calls.{Misses, called, miscalled, of_std}
use Rattle.spv_form_evidence.proofs.lemmas.extended.Counting.{misfit, outside}

pub miscall : (is : List PlainInst) (r : Rule) (n : ℕ) (e : Evidence) → IsEvidence is r n e → IsMiscalled is n
miscall is _ _ _ (IsEvidence.miscalled n number count at out) =
    let s = signature_of OpenClStd number in
    miscalled is n (subst Misses (sym at) (misfit s.more s.least count out))

pub suffices : (reach : Reach) (is : List PlainInst) (r : Rule) (n : ℕ) (e : Evidence) → IsTrue (opens reach)
    → IsEvidence is r n e → Broken reach is r n
suffices reach is _ _ _ on (IsEvidence.miscalled n number count at out) =
    Broken.miscalled n on (miscall is _ _ _ (IsEvidence.miscalled n number count at out))

same_call : (a b c d : ℕ)
    → (let one : Call = record { set = OpenClStd; number = a; operands = b } in Some one) ≡ Some
    (record { set = OpenClStd; number = c; operands = d }) → (a ≡ c) × (b ≡ d)
same_call a b c d h =
    let one : Call = record { set = OpenClStd; number = a; operands = b } in
    let other : Call = record { set = OpenClStd; number = c; operands = d } in
    let e : one ≡ other = cc in
    (ap (λ (x : Call). x.number) e, ap (λ (x : Call). x.operands) e)

pub one : (is : List PlainInst) (r : Rule) (n : ℕ) (e f : Evidence) → IsEvidence is r n e → IsEvidence is r n f → e ≡ f
one is _ _ _ _ (IsEvidence.miscalled n a b at out) (IsEvidence.miscalled _ c d also _) =
    let same = same_call a b c d (sym at ∙ also) in
    ap (λ x. Miscalled x b (least_of x) (most_of x)) same.0 ∙ ap (λ y. Miscalled c y (least_of c) (most_of c)) same.1

pub found : (is : List PlainInst) (n : ℕ) (c : Call) → IsMiscalled is n → Some c ≡ call_at is n
    → IsEvidence is Y9 n (Miscalled c.number c.operands (least_of c.number) (most_of c.number))
found is n c m e =
    let h = subst Misses (sym e) (called is n m) in
    let s = of_std c.set c.number c.operands h in
    let at : call_at is n ≡ Some (record { set = OpenClStd; number = c.number; operands = c.operands })
    = sym e ∙ ap (λ set. let d : Call = record { set = set; number = c.number; operands = c.operands } in Some d) s in
    let signature = signature_of OpenClStd c.number in
    IsEvidence.miscalled n c.number c.operands at
    (outside signature.more signature.least c.operands (subst (λ set. misses set c.number c.operands ≡ true) s h))
