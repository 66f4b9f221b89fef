-- The places of names.
use Rattle.std.proofs.Common.{◌≡◌, ◌∙◌, ℕ, Bool, true, cond, Option, Some, nat_cmp, refl, sym, ap, arith}
use Rattle.std.specs.declared.cmp.Ordering.{Ordering}
use Rattle.std.specs.declared.cmp.Ordering.TheVariants.{Less, Equal, Greater}
use Rattle.std.specs.Ordering.{is_eq}
use Rattle.std.proofs.lemmas.Map.Lookups.{exact_unsigned, exact_pairs}
use Rattle.spv_table.specs.Table.{Table}
use Rattle.spv_printer.specs.declared.named.Named.{Named}
use Rattle.spv_printer.specs.declared.named.Named.TheVariants.{Opcode, Value, Mask}
use Rattle.spv_printer.specs.inner.Names.{IsPlace, IsShownBy, named_cmp}

-- what has one place is one
pub one_place : (G : Table) (a b : Named) (at : ℕ) → IsPlace a at → IsPlace b at → IsShownBy G a true
    → IsShownBy G b true
one_place G (Opcode x) (Opcode y) at p q h = let e : x ≡ y = sym p.1 ∙ q.1 in rw e at h
one_place G (Opcode x) (Value k y) at p q h = let a = p.0 in let b = p.1 in let d = q.2 in absurd (omega arith)
one_place G (Opcode x) (Mask k y) at p q h = let a = p.0 in let b = p.1 in let d = q.2 in absurd (omega arith)
one_place G (Value j x) (Opcode y) at p q h = let a = q.0 in let b = q.1 in let d = p.2 in absurd (omega arith)
one_place G (Value j x) (Value k y) at p q h =
    let a = p.1 in
    let b = q.1 in
    let c = p.2 in
    let d = q.2 in
    let e : j ≡ k = omega arith in
    let f : x ≡ y = omega arith in
    rw (e, f) at h
one_place G (Value j x) (Mask k y) at p q h =
    let a = p.0 in
    let b = p.1 in
    let c = p.2 in
    let d = q.2 in
    absurd (omega arith)
one_place G (Mask j x) (Opcode y) at p q h = let a = q.0 in let b = q.1 in let d = p.2 in absurd (omega arith)
one_place G (Mask j x) (Value k y) at p q h =
    let a = q.0 in
    let b = q.1 in
    let c = p.2 in
    let d = q.2 in
    absurd (omega arith)
one_place G (Mask j x) (Mask k y) at p q h =
    let a = p.1 in
    let b = q.1 in
    let c = p.2 in
    let d = q.2 in
    let e : j ≡ k = omega arith in
    let f : x ≡ y = omega arith in
    rw (e, f) at h

-- what is in one place of the order is one
pub same_named : (a b : Named) → named_cmp a b ≡ Equal → a ≡ b
same_named (Opcode x) (Opcode y) h = ap Opcode (exact_unsigned x y h)
same_named (Opcode x) _ h = cc
same_named (Value j x) (Value k y) h =
    let e : (j, x) ≡ (k, y) = exact_pairs nat_cmp nat_cmp exact_unsigned exact_unsigned (j, x) (k, y) h in
    ap (λ p. Value p.0 p.1) e
same_named (Value j x) _ h = cc
same_named (Mask j x) (Mask k y) h =
    let e : (j, x) ≡ (k, y) = exact_pairs nat_cmp nat_cmp exact_unsigned exact_unsigned (j, x) (k, y) h in
    ap (λ p. Mask p.0 p.1) e
same_named (Mask j x) _ h = cc

-- what is kept of something, where something was kept
pub one_kept : (G : Table) (key named : Named) (w b : Bool) (old new : Option Bool)
    → new ≡ cond (is_eq (named_cmp key named)) (Some w) old → new ≡ Some b → IsShownBy G key w
    → (old ≡ Some b → IsShownBy G named b)
    → IsShownBy G named b
one_kept G key named w b old new e n k h = step (named_cmp key named) refl
  where
    step : (o : Ordering) → named_cmp key named ≡ o → IsShownBy G named b
    step Less r = h (sym (ap (λ x. cond (is_eq x) (Some w) old) r) ∙ (sym e ∙ n))
    step Greater r = h (sym (ap (λ x. cond (is_eq x) (Some w) old) r) ∙ (sym e ∙ n))
    step Equal r =
        let s : Some w ≡ Some b = sym (ap (λ x. cond (is_eq x) (Some w) old) r) ∙ (sym e ∙ n) in
        let v : w ≡ b = cc in
        rw (← same_named key named r, ← v) k
