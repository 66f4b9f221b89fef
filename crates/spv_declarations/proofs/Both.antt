-- Ids that are in both of two sets.
use Rattle.std.proofs.Common.{◌≡◌, ◌∙◌, ◌↔◌, inl, inr, ℕ, Bool, true, false, sym, subst, List, [], ◌∷◌, Some, None}
use Rattle.std.proofs.Common.{IsTrue}
use Rattle.std.specs.BTreeSet.{BTreeSet}
use Rattle.spv_module.specs.declared.opcode.TheConstants as opcode
use Rattle.spv_module.specs.Operand.{Plain, Id, PlainInst}
use Rattle.spv_declarations.specs.Given.{HasId, Gives, NamesTarget, given_by, group_by, behind_first}
use Rattle.spv_declarations.specs.inner.Said.{HasAt}
use Rattle.spv_declarations.specs.inner.Sets.{AnyId, HasBoth, IsIn}
use Rattle.spv_declarations.proofs.Misplacing.{any_id, id_any}
use Rattle.spv_declarations.proofs.Stated.{by_group_only}

pub both_found : (a b : BTreeSet ℕ) (os : List Plain) → AnyId (λ x. IsIn a x × IsIn b x) os
    → (x : ℕ) × IsIn a x × IsIn b x
both_found a b [] h = absurd h
both_found a b (Id y ∷ os) (inl p) = (y, p.0, p.1)
both_found a b (Id y ∷ os) (inr r) = both_found a b os r
both_found a b (_ ∷ os) h = both_found a b os h

pub both_none : (a b : BTreeSet ℕ) (i : PlainInst) (os : List Plain) (t : Bool) → os ≡ behind_first i.operands
    → given_by i ≡ None → (IsTrue t ↔ AnyId (λ x. IsIn a x × IsIn b x) os) → t ≡ false → (is : List PlainInst) (d x : ℕ)
    → HasAt is (Gives d) x i → IsIn a x → IsIn b x → ⊥
both_none a b i os t e n k f is d x h p q =
    let g = by_group_only is i x d n h in
    let m : HasId os x = subst (λ (l : List Plain). HasId l x) (sym e) g.1.1 in
    let no : false ≡ true = sym f ∙ k.1 (id_any (λ y. IsIn a y × IsIn b y) os x m (p, q)) in
    cc

-- a target of the group that an instruction names
pub target_tells : (pairs : BTreeSet (ℕ × ℕ)) (entered : BTreeSet ℕ) (i : PlainInst) (g : ℕ) (os : List Plain)
    (b : Bool)
    → group_by opcode.GROUP_DECORATE i ≡ Some g → os ≡ behind_first i.operands → HasBoth pairs g 41
    → (IsTrue b ↔ AnyId (IsIn entered) os)
    → IsTrue b ↔ ((x h : ℕ) × IsIn entered x × NamesTarget i h x × HasBoth pairs h 41)
target_tells pairs entered i g os b e q k t = (
  λ y. let a = any_id (IsIn entered) os (t.0 y) in
      (a.0, g, a.2, (e, subst (λ (l : List Plain). HasId l a.0) q a.1), k),
  λ h. t.1 (id_any (IsIn entered) os h.0 (subst (λ (l : List Plain). HasId l h.0) (sym q) h.3.1) h.2),
)
