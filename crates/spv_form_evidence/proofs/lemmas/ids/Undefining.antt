-- Ids that have no definition.
use Rattle.std.proofs.Common.{◌≡◌, ◌<◌, ◌↔◌, ℕ, List, Bool, true, false, Option, Some, None, refl, subst, length, arith}
use Rattle.std.proofs.Common.{MatchBool}
use Rattle.std.specs.Prelude.{slice_get, IsTrue}
use Rattle.std.proofs.lemmas.Option.{slice_get_within}
use Rattle.spv_table.specs.Table.{Table}
use Rattle.spv_module.specs.Operand.{PlainInst}
use Rattle.spv_module.specs.declared.fault.Rule.{Rule}
use Rattle.spv_module.specs.declared.fault.Rule.TheVariants.{D3}
use Rattle.spv_layout.specs.declared.form.Role.{Role}
use Rattle.spv_layout.specs.First.{IsFirst}
use Rattle.spv_layout.specs.Shape.{IsUse}
use Rattle.spv_layout.specs.Stage.{of_ids}
use Rattle.spv_ids.specs.Definition.{IsDefinedAt, IsUsedAt, IsMentionedAt}
use Rattle.spv_ids.specs.Broken.{Broken}
use Rattle.spv_evidence.specs.declared.evidence.Evidence.TheVariants.{Operand}
use Rattle.spv_form_evidence.specs.ids.Evidence.{IsEvidence}
use Rattle.spv_form_evidence.specs.declared.ids.kept.Kept.{Kept}
use Rattle.spv_form_evidence.specs.ids.inner.Known.{kept, IsFirstBefore, AreFirst}
use Rattle.spv_form_evidence.specs.ids.inner.Undefined.{IsUndefined}
use Rattle.spv_form_evidence.specs.ids.inner.Uses.{IsNamedAt, HasNamed}
use Rattle.spv_form_evidence.proofs.lemmas.ids.Using.{same_inst, used_within, not_named, named_within, mention_here}
use Rattle.spv_form_evidence.proofs.lemmas.ids.Telling.{in_range, mention_in_range}

undefined_here : (bound : ℕ) (is : List PlainInst) (l : Kept) (x : ℕ) → AreFirst bound is (length is) l
    → (x < l.bound) × (kept l x ≡ None) → IsUndefined bound is x
undefined_here bound is l x a h =
    let c = a.same in
    let w = h.0 in
    let b : x < bound = omega arith in
    let f : IsFirstBefore is (length is) x None = subst (λ o. IsFirstBefore is (length is) x o) h.1 (a.each x b) in
    record { below = b; none = λ m d. f m (slice_get_within is m d.inst d.there) d }

no_first : (is : List PlainInst) (n x : ℕ) (o : Option ℕ) → ((m : ℕ) → ¬ (IsDefinedAt is x m)) → IsFirstBefore is n x o
    → o ≡ None
no_first is n x None h f = refl
no_first is n x (Some m) h f = absurd (h m f.there)

free_here : (bound : ℕ) (is : List PlainInst) (l : Kept) (x : ℕ) → AreFirst bound is (length is) l
    → IsUndefined bound is x → (x < l.bound) × (kept l x ≡ None)
free_here bound is l x a u =
    let c = a.same in
    let b = u.below in
    (omega arith, no_first is (length is) x (kept l x) u.none (a.each x b))

pub undefined_or_not : (G : Table) (bound : ℕ) (is : List PlainInst) (i : PlainInst) (l : Kept) (k x : ℕ) (b : Bool)
    → IsNamedAt G i k x → AreFirst bound is (length is) l
    → (IsTrue b ↔ ((x < l.bound) × (kept l x ≡ None)))
    → MatchBool b (HasNamed G i (IsUndefined bound is) k) (¬ (HasNamed G i (IsUndefined bound is) k))
undefined_or_not G bound is i l k x true u a h =
    record { id = x; named = u; holds = undefined_here bound is l x a (h.0 refl) }
undefined_or_not G bound is i l k x false u a h =
    not_named G i (IsUndefined bound is) k x u (λ d. let p = h.1 (free_here bound is l x a d) in cc)

shows : (G : Table) (bound : ℕ) (is : List PlainInst) (n : ℕ) (i : PlainInst) (k x : ℕ) → slice_get is n ≡ Some i
    → IsNamedAt G i k x → ((m : ℕ) → ¬ (IsDefinedAt is x m)) → IsEvidence G bound is D3 n (Operand k)
shows G bound is n i k x t (IsNamedAt.as_use q u) h =
    IsEvidence.undefined n k x q (record { inst = i; there = t; used = u }) h
shows G bound is n i k x t (IsNamedAt.as_mention m) h =
    IsEvidence.mention_undefined n k x (record { inst = i; there = t; named = m }) h

pub undefined_shows : (G : Table) (bound : ℕ) (is : List PlainInst) (n : ℕ) (i : PlainInst) (k : ℕ)
    → slice_get is n ≡ Some i → HasNamed G i (IsUndefined bound is) k → IsEvidence G bound is D3 n (Operand k)
undefined_shows G bound is n i k t u = shows G bound is n i k u.id t u.named u.holds.none

some_by : (G : Table) (bound : ℕ) (is : List PlainInst) (r : Rule) (n : ℕ) (i : PlainInst) → r ≡ D3
    → slice_get is n ≡ Some i → Broken G bound is r n
    → ((k x : ℕ) (q : Role) → IsUsedAt G is n k x q → x < bound) → ((k x : ℕ) → IsMentionedAt is n k x → x < bound)
    → ((k : ℕ) → k < length i.operands → ¬ (HasNamed G i (IsUndefined bound is) k)) → ⊥
some_by G bound is _ _ i q t (Broken.undefined n k x r u h) w v none =
    let e : u.inst ≡ i = same_inst is n u.inst i u.there t in
    let p : IsUse G i k x r = subst (λ j. IsUse G j k x r) e u.used in
    none k (used_within G i k x r p) (record
    { id = x; named = IsNamedAt.as_use r p; holds = record { below = w k x r u; none = h } })
some_by G bound is _ _ i q t (Broken.mention_undefined n k x m h) w v none =
    let p = mention_here G is n i k x t m in
    none k (named_within G i k x p) (record { id = x; named = p; holds = record { below = v k x m; none = h } })
some_by G bound is _ _ i q t _ w v none = cc

-- some operand of the instruction uses or mentions an id that has no definition
pub some_undefined : (G : Table) (bound : ℕ) (is : List PlainInst) (n : ℕ) (i : PlainInst) → slice_get is n ≡ Some i
    → IsFirst (Broken G bound is) of_ids D3 n
    → ((k : ℕ) → k < length i.operands → ¬ (HasNamed G i (IsUndefined bound is) k)) → ⊥
some_undefined G bound is n i t f none =
    some_by G bound is D3 n i refl t f.broken (in_range G bound is D3 n f (omega arith))
    (mention_in_range G bound is D3 n f (omega arith)) none
