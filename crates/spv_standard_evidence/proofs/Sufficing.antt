-- Evidence of the rules on declarations suffices.
use Rattle.std.proofs.Common.{◌≡◌, ◌<◌, ◌≤◌, ◌⊎◌, ℕ, zero, suc, List, [], ◌∷◌, Some, refl, subst, inl, inr, arith}
use Rattle.std.specs.Prelude.{slice_get}
use Rattle.std.proofs.lemmas.Option.{none-some, same_Some}
use Rattle.spv_table.specs.Table.{Table}
use Rattle.spv_module.specs.Operand.{Plain, Result, Id, PlainInst}
use Rattle.spv_module.specs.declared.fault.Rule.{Rule}
use Rattle.spv_evidence.specs.declared.evidence.Evidence.{Evidence}
use Rattle.spv_declarations.specs.Broken.{Broken}
use Rattle.spv_declarations.specs.Decorated.{Has, HasOnMember, IsHalfBuiltIn, IsLeastBy, IsMisplaced, IsSecond}
use Rattle.spv_declarations.specs.Given.{HasId, behind_first}
use Rattle.spv_declarations.specs.Shown.{IsHalfBy}
use Rattle.spv_declarations.specs.declared.shown.members.Mixture.{Mixture}
use Rattle.spv_declarations.specs.declared.shown.members.Mixture.TheVariants.{Members, Within}
use Rattle.spv_standard_evidence.specs.Declarations.{IsEvidence, Misplaces}
use Rattle.spv_standard_evidence.proofs.Declared.{has_at, has_behind}

target_has : (os : List Plain) (k x : ℕ) → 0 < k → slice_get os k ≡ Some (Id x) → HasId (behind_first os) x
target_has [] k x lt e = absurd (none-some (Id x) e)
target_has (o ∷ os) zero x lt e = absurd (omega (arith, lt))
target_has (o ∷ os) (suc k) x lt e = has_at os k x e

misplaces : (is : List PlainInst) (n : ℕ) (i : PlainInst) (e : Evidence) → slice_get is n ≡ Some i → Misplaces is i e
    → IsMisplaced is n
misplaces is n i _ t (Misplaces.with_id k h) =
    IsMisplaced.with_id i t h.called (has_behind i.operands k h.id h.behind h.there)
misplaces is n i _ t (Misplaces.on_id x d g other not) = IsMisplaced.on_id x d (Has.own i t g other) not
misplaces is n i _ t (Misplaces.on_target g x d k m j e lt at u gives not) =
    IsMisplaced.on_id x d (Has.by_group i j g m t (e, target_has i.operands k x lt at) u gives) not
misplaces is n i _ t (Misplaces.on_member s k d e never) =
    IsMisplaced.on_member s k d (HasOnMember.own i t e) never
misplaces is n i _ t (Misplaces.on_member_target g s k d m j names u gives never) =
    IsMisplaced.on_member s k d (HasOnMember.by_group i j g m t names u gives) never

member_has : (os ms : List Plain) (t k u : ℕ) → os ≡ Result t ∷ ms → slice_get os k ≡ Some (Id u) → HasId ms u
member_has os ms t k u e at = by k (subst (λ (ps : List Plain). slice_get ps k ≡ Some (Id u)) e at) where
  by : (j : ℕ) → slice_get (Result t ∷ ms) j ≡ Some (Id u) → HasId ms u
  by zero h = absurd (let no : Result t ≡ Id u = same_Some (Result t) (Id u) h in cc)
  by (suc j) h = has_at ms j u h

second : (is : List PlainInst) (n m : ℕ) → m ≤ n → (x : ℕ)
    → (IsLeastBy is x 19 m × IsLeastBy is x 20 n) ⊎ (IsLeastBy is x 20 m × IsLeastBy is x 19 n) → IsSecond is n
second is n m le x (inl b) = record {
  id = x;
  restricted = m;
  aliased = n;
  one = b.0;
  other = b.1;
  greater = (le, omega arith, inr refl);
}
second is n m le x (inr b) = record {
  id = x;
  restricted = n;
  aliased = m;
  one = b.1;
  other = b.0;
  greater = (omega arith, le, inl refl);
}

half : (is : List PlainInst) (n : ℕ) (m : Mixture) → IsHalfBy is n m → IsHalfBuiltIn is n
half is n _ (IsHalfBy.in_part i t j k ms there d b m not) =
    IsHalfBuiltIn.in_part i t j k ms there d.called d.operands b m not
half is n _ (IsHalfBy.within i t u k ms there d at h) =
    IsHalfBuiltIn.within i t u ms there d.called d.operands (member_has i.operands ms t k u d.operands at) h

pub declarations_suffice : (G : Table) (is : List PlainInst) (r : Rule) (n : ℕ) (e : Evidence) → IsEvidence G is r n e
    → Broken G is r n
declarations_suffice G is _ _ _ (IsEvidence.repeated n e) = Broken.repeated n e
declarations_suffice G is _ _ _ (IsEvidence.takes_id n k i t h) =
    Broken.takes_id n (i, t, (h.called, has_behind i.operands k h.id h.behind h.there))
declarations_suffice G is _ _ _ (IsEvidence.of_no_member n h) = Broken.of_no_member n h
declarations_suffice G is _ _ _ (IsEvidence.misplaced n i e t m) = Broken.misplaced n (misplaces is n i e t m)
declarations_suffice G is _ _ _ (IsEvidence.second n m o) = Broken.second n (second is n m o.0 o.1.0 o.1.1)
declarations_suffice G is _ _ _ (IsEvidence.linked_entry n x e h) = Broken.linked_entry n (x, e, h)
declarations_suffice G is _ _ _ (IsEvidence.input n e c) = Broken.initialized n e
declarations_suffice G is _ _ _ (IsEvidence.imported n m e h) = Broken.initialized n e
declarations_suffice G is _ _ _ (IsEvidence.in_part n j k h) = Broken.half_built_in n (half is n (Members j k) h)
declarations_suffice G is _ _ _ (IsEvidence.within n k h) = Broken.half_built_in n (half is n (Within k) h)
declarations_suffice G is _ _ _ (IsEvidence.elsewhere n h) = Broken.forward_elsewhere n h
declarations_suffice G is _ _ _ (IsEvidence.bytes n i t f b) = Broken.incapable n (i, t, inl (f, b))
declarations_suffice G is _ _ _ (IsEvidence.vulkan n i t o h) = Broken.incapable n (i, t, inr (o, h))
