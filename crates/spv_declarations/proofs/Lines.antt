-- The table, by the opcode of an id's definition.
use Rattle.std.proofs.Common.{◌≡◌, ◌∙◌, ◌↔◌, inl, inr, ℕ, Bool, true, false, not, refl, sym, subst, List, [], ◌∷◌, Option}
use Rattle.std.proofs.Common.{Some, None, IsTrue}
use Rattle.std.specs.Prelude.{IsSomeAnd}
use Rattle.spv_module.specs.Operand.{PlainInst}
use Rattle.spv_module.specs.Width.{definition_of}
use Rattle.spv_declarations.specs.Table.{Line, IsOnSome, StandsOn, is_among, is_listed, lines}
use Rattle.spv_declarations.specs.inner.Table.{IsOnLine}

on_some : (is : List PlainInst) (ls : List Line) (d x : ℕ) (i : PlainInst) → definition_of is x ≡ Some i
    → IsOnLine is ls d i.opcode x → IsOnSome is ls d x
on_some is [] d x i e h = h
on_some is (l ∷ ls) d x i e (inl h) = inl (
  h.0,
  (
    subst (λ (o : Option PlainInst). IsSomeAnd o (λ (j : PlainInst). IsTrue (is_among l.1.now j.opcode))) (sym e) h.1.0,
    h.1.1,
  ),
)
on_some is (l ∷ ls) d x i e (inr h) = inr (on_some is ls d x i e h)

on_line : (is : List PlainInst) (ls : List Line) (d x : ℕ) (i : PlainInst) → definition_of is x ≡ Some i
    → IsOnSome is ls d x → IsOnLine is ls d i.opcode x
on_line is [] d x i e h = h
on_line is (l ∷ ls) d x i e (inl h) = inl (
  h.0,
  (
    subst (λ (o : Option PlainInst). IsSomeAnd o (λ (j : PlainInst). IsTrue (is_among l.1.now j.opcode))) e h.1.0,
    h.1.1,
  ),
)
on_line is (l ∷ ls) d x i e (inr h) = inr (on_line is ls d x i e h)

on_none : (is : List PlainInst) (ls : List Line) (d x : ℕ) → definition_of is x ≡ None → IsOnSome is ls d x → ⊥
on_none is [] d x e h = h
on_none is (l ∷ ls) d x e (inl h) = absurd
    (subst (λ (o : Option PlainInst). IsSomeAnd o (λ (j : PlainInst). IsTrue (is_among l.1.now j.opcode))) e h.1.0)
on_none is (l ∷ ls) d x e (inr h) = on_none is ls d x e h

-- The id is such a one as a line says of the decoration; it is not, and the decoration is on some line, or on none; or
-- it has no definition.
pub stands_on_line : (is : List PlainInst) (d x : ℕ) (i : PlainInst) (c : Bool) → definition_of is x ≡ Some i
    → (IsTrue c ↔ IsOnLine is lines d i.opcode x) → c ≡ true → IsTrue c ↔ StandsOn is d x
stands_on_line is d x i c at t f = (λ y l. on_some is lines d x i at (t.0 y), λ h. f)

pub stands_by : (is : List PlainInst) (d x : ℕ) (i : PlainInst) (b c : Bool) → b ≡ is_listed lines d
    → definition_of is x ≡ Some i → (IsTrue c ↔ IsOnLine is lines d i.opcode x) → c ≡ false
    → IsTrue (not b) ↔ StandsOn is d x
stands_by is d x i true c e at t f = (
  λ y. let no : false ≡ true = y in absurd (cc),
  λ h. let on : c ≡ true = t.1 (on_line is lines d x i at (h (sym e))) in absurd (cc),
)
stands_by is d x i false c e at t f = (
  λ y l. let no : false ≡ true = e ∙ l in absurd (cc),
  λ h. refl,
)

pub stands_nowhere : (is : List PlainInst) (d x : ℕ) (b : Bool) → b ≡ is_listed lines d → definition_of is x ≡ None
    → IsTrue (not b) ↔ StandsOn is d x
stands_nowhere is d x true e at = (
  λ y. let no : false ≡ true = y in absurd (cc),
  λ h. absurd (on_none is lines d x at (h (sym e))),
)
stands_nowhere is d x false e at = (
  λ y l. let no : false ≡ true = e ∙ l in absurd (cc),
  λ h. refl,
)
