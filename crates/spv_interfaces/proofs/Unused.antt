-- Where nothing is used, nothing is unnamed.
use Rattle.std.proofs.Common.{◌≡◌, ℕ, List, [], ◌∷◌, None, refl, sym, subst, arith, length, map}
use Rattle.std.proofs.lemmas.List.{length-map}
use Rattle.spv_table.specs.Table.{Table}
use Rattle.spv_module.specs.declared.module.Inst.{Inst}
use Rattle.spv_module.specs.Module.{plain_inst}
use Rattle.spv_module.specs.Operand.{PlainInst}
use Rattle.spv_layout.specs.declared.place.Place.{Place}
use Rattle.spv_layout.specs.Plan.{IsPlan}
use Rattle.spv_type_forms.specs.Definitions.{IsGlobal}
use Rattle.spv_interfaces.specs.declared.used.Use.{Use}
use Rattle.spv_interfaces.specs.inner.Entries.{IsFirstAmong, IsUnnamed}
use Rattle.spv_interfaces.specs.inner.Uses.{AreUses, Fit, HasUse}

-- by the variables
pub none_without : (G : Table) (minor : ℕ) (is : List PlainInst) (entries : List ℕ)
    → ((x : ℕ) → ¬ (IsGlobal is x)) → IsFirstAmong (IsUnnamed G minor is) entries None
none_without G minor is entries none k n at u = none u.id u.used.variable

-- the use of what is unnamed
pub used_there : (G : Table) (minor : ℕ) (is : List PlainInst) (n : ℕ) (uses : List Use)
    (w : IsUnnamed G minor is n) → AreUses G minor is (length is) uses
    → HasUse uses w.used.function w.used.variable.place
used_there G minor is n uses w used =
    let t = w.used in
    (used.each t.function t.variable.place).1 (record {
      inst = t.inst;
      below = t.of.begun.within;
      within = record { of = t.of; definition = t.definition };
      operand = t.operand;
      id = w.id;
      role = t.role;
      used = t.used;
      variable = record { defined = t.variable.defined; wanted = w.wanted };
    })

-- By a plan.
pub fit_by : (G : Table) (is js : List PlainInst) (places : List Place) → is ≡ js → IsPlan G js places → Fit G is
fit_by G is js places e plan = subst (λ (ks : List PlainInst). Fit G ks) (sym e) (record { each = plan.fits })

pub same_length : (is : List PlainInst) (insts : List Inst) → is ≡ map plain_inst insts → length is ≡ length insts
same_length is insts e = subst (λ (js : List PlainInst). length js ≡ length insts) (sym e) (length-map insts plain_inst)

-- a list of no length
pub no_numbers : (list : List ℕ) → length list ≡ 0 → list ≡ []
no_numbers [] e = refl
no_numbers (n ∷ ns) e = absurd (omega (arith, e))
