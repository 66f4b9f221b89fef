-- Ids of an instruction that are out of range.
use Rattle.std.proofs.Common.{◌≡◌, ◌<◌, ◌∙◌, ◌↔◌, ℕ, suc, List, [], ◌∷◌, Bool, true, false, Option, Some, None, refl}
use Rattle.std.proofs.Common.{sym, ap, subst, length, MatchBool}
use Rattle.std.specs.Prelude.{slice_get, IsTrue, MatchOption}
use Rattle.std.proofs.lemmas.Option.{slice_get_within}
use Rattle.spv_table.specs.Table.{Table}
use Rattle.spv_module.specs.Operand.{Plain, PlainInst, result_in}
use Rattle.spv_module.specs.Operand as operand
use Rattle.spv_module.specs.declared.fault.Rule.{Rule}
use Rattle.spv_module.specs.declared.fault.Rule.TheVariants.{D1}
use Rattle.spv_layout.specs.Shape.{IsUse, id_of}
use Rattle.spv_ids.specs.Broken.{Broken, IsOutOfRange}
use Rattle.spv_evidence.specs.declared.evidence.Evidence.TheVariants.{Operand}
use Rattle.spv_form_evidence.specs.ids.Evidence.{IsEvidence}
use Rattle.spv_form_evidence.specs.ids.inner.Uses.{IsNamedAt}
use Rattle.spv_form_evidence.specs.ids.inner.Range.{IsOwnResult, IsIdAt, IsAstray}
use Rattle.spv_form_evidence.proofs.lemmas.ids.Using.{same_inst, used_within, named_there, named_told, named_within}
use Rattle.spv_form_evidence.proofs.lemmas.ids.Using.{mention_here}
use Rattle.spv_form_evidence.proofs.lemmas.ids.Rules.{result_here}

-- the place of a result
pub result_place : (os : List Plain) (x : ℕ) → result_in os ≡ Some x
    → (k : ℕ) × (slice_get os k ≡ Some (operand.Result x))
result_place [] x h = cc
result_place (operand.Result y ∷ os) x h = let e : y ≡ x = cc in (0, ap (λ z. Some (operand.Result z)) e)
result_place (_ ∷ os) x h = let p = result_place os x h in (suc p.0, p.1)

-- an operand is one id
id_told : (G : Table) (i : PlainInst) (k x : ℕ) → IsIdAt G i k x → (o : Plain) → slice_get i.operands k ≡ Some o
    → id_of o ≡ Some x
id_told G i k x (IsIdAt.as_result r) o h =
    let e : operand.Result x ≡ o = (let q : Some (operand.Result x) ≡ Some o = sym r.operand ∙ h in cc) in rw (← e) refl
id_told G i k x (IsIdAt.as_named u) o h = named_told G i k x u o h

operand_there : (G : Table) (i : PlainInst) (k x : ℕ) → IsIdAt G i k x → (o : Plain) × (slice_get i.operands k ≡ Some o)
operand_there G i k x (IsIdAt.as_result r) = (operand.Result x, r.operand)
operand_there G i k x (IsIdAt.as_named u) = named_there G i k x u

id_same : (G : Table) (i : PlainInst) (k x y : ℕ) → IsIdAt G i k x → IsIdAt G i k y → x ≡ y
id_same G i k x y a b =
    let o = operand_there G i k x a in
    let p = id_told G i k x a o.0 o.1 in
    let q = id_told G i k y b o.0 o.1 in
    let e : Some x ≡ Some y = sym p ∙ q in
    cc

pub id_or_none : (G : Table) (i : PlainInst) (k : ℕ) (o : Option ℕ) → ((x : ℕ) → ¬ (IsNamedAt G i k x))
    → MatchOption o ((x : ℕ) → ¬ (IsOwnResult i k x)) (λ x. IsOwnResult i k x)
    → MatchOption o ((x : ℕ) → ¬ (IsIdAt G i k x)) (λ x. IsIdAt G i k x)
id_or_none G i k None u h = no_id where
  no_id : (x : ℕ) → ¬ (IsIdAt G i k x)
  no_id x (IsIdAt.as_result r) = h x r
  no_id x (IsIdAt.as_named w) = u x w
id_or_none G i k (Some x) u h = IsIdAt.as_result h

pub astray_or_not : (G : Table) (bound : ℕ) (i : PlainInst) (k x : ℕ) (b : Bool) → IsIdAt G i k x
    → (IsTrue b ↔ IsOutOfRange bound x) → MatchBool b (IsAstray G bound i k) (¬ (IsAstray G bound i k))
astray_or_not G bound i k x true a h = record { id = x; at = a; out = h.0 refl }
astray_or_not G bound i k x false a h = λ s. let e = id_same G i k s.id x s.at a in
    let w = h.1 (subst (λ y. IsOutOfRange bound y) e s.out) in cc

shows : (G : Table) (bound : ℕ) (is : List PlainInst) (n : ℕ) (i : PlainInst) (k x : ℕ) → slice_get is n ≡ Some i
    → IsIdAt G i k x → IsOutOfRange bound x → IsEvidence G bound is D1 n (Operand k)
shows G bound is n i k x t (IsIdAt.as_result r) o =
    IsEvidence.result_out_of_range n k x (record
    { defined = record { inst = i; there = t; result = r.first }; operand = r.operand }) o
shows G bound is n i k x t (IsIdAt.as_named (IsNamedAt.as_use q u)) o =
    IsEvidence.use_out_of_range n k x q (record { inst = i; there = t; used = u }) o
shows G bound is n i k x t (IsIdAt.as_named (IsNamedAt.as_mention m)) o =
    IsEvidence.mention_out_of_range n k x (record { inst = i; there = t; named = m }) o

pub astray_shows : (G : Table) (bound : ℕ) (is : List PlainInst) (n : ℕ) (i : PlainInst) (k : ℕ)
    → slice_get is n ≡ Some i → IsAstray G bound i k → IsEvidence G bound is D1 n (Operand k)
astray_shows G bound is n i k t a = shows G bound is n i k a.id t a.at a.out

-- some operand of the instruction is astray
pub some_astray : (G : Table) (bound : ℕ) (is : List PlainInst) (r : Rule) (n : ℕ) (i : PlainInst) → r ≡ D1
    → slice_get is n ≡ Some i → Broken G bound is r n
    → ((k : ℕ) → k < length i.operands → ¬ (IsAstray G bound i k)) → ⊥
some_astray G bound is _ _ i q t (Broken.result_out_of_range n x d o) none =
    let h = result_here is n x i t d in
    let p = result_place i.operands x h in
    none p.0 (slice_get_within i.operands p.0 (operand.Result x) p.1)
    (record { id = x; at = IsIdAt.as_result (record { operand = p.1; first = h }); out = o })
some_astray G bound is _ _ i q t (Broken.use_out_of_range n k x r u o) none =
    let e : u.inst ≡ i = same_inst is n u.inst i u.there t in
    let v : IsUse G i k x r = subst (λ j. IsUse G j k x r) e u.used in
    none k (used_within G i k x r v) (record { id = x; at = IsIdAt.as_named (IsNamedAt.as_use r v); out = o })
some_astray G bound is _ _ i q t (Broken.mention_out_of_range n k x m o) none =
    let v = mention_here G is n i k x t m in
    none k (named_within G i k x v) (record { id = x; at = IsIdAt.as_named v; out = o })
some_astray G bound is _ _ i q t _ none = cc
