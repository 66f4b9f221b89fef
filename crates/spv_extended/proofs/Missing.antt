-- Which instructions call what OpenCL.std does not have.
use Rattle.std.proofs.Common.{◌≡◌, ◌<◌, ◌≤◌, ℕ, zero, suc, true, false, List, [], ◌∷◌, Some, None, map, length, get_or, slice_get, sym, ap, ◌∙◌, arith, inl, inr}
use Rattle.std.proofs.Math.Path.{fun_ext}
use Rattle.std.proofs.lemmas.Bool.{cases_lt}
use Rattle.std.proofs.lemmas.List.{length-map}
use Rattle.std.proofs.lemmas.Option.{slice_get_past}
use Rattle.spv_module.specs.declared.module.Inst.{Inst}
use Rattle.spv_module.specs.Operand.{PlainInst}
use Rattle.spv_module.specs.Module.{plain_inst}
use Rattle.spv_extended.specs.declared.set.Set.{Set}
use Rattle.spv_extended.specs.Miscalled.{IsMiscalled, miscalls}
use Rattle.spv_extended.specs.Sets.{set_in}

at_place : (xs : List Inst) (k : ℕ) (x : Inst) → k < length xs → x ≡ get_or xs k x → slice_get (map plain_inst xs) k ≡ Some (plain_inst x)
at_place [] k x h e = absurd (omega arith)
at_place (y ∷ xs) zero x h e = ap (λ z. Some (plain_inst z)) (sym e)
at_place (y ∷ xs) (suc k) x h e = at_place xs k x (omega arith) e

same_answer : (f g : ℕ → Set) → ((x : ℕ) → f x ≡ g x) → (i : PlainInst) → miscalls f i ≡ miscalls g i
same_answer f g h i = ap (λ (sets : ℕ → Set). miscalls sets i) (fun_ext h)

pub missed_at : (f : ℕ → Set) (xs : List Inst) (k : ℕ) (x : Inst) → k < length xs → x ≡ get_or xs k x → ((y : ℕ) → f y ≡ set_in (map plain_inst xs) y) → miscalls f (plain_inst x) ≡ true
    → IsMiscalled (map plain_inst xs) k
missed_at f xs k x h is same e = record {
  inst = plain_inst x;
  there = at_place xs k x h is;
  missed = sym (same_answer f (set_in (map plain_inst xs)) same (plain_inst x)) ∙ e;
}

pub not_at : (is : List PlainInst) (n : ℕ) (i : PlainInst) → slice_get is n ≡ Some i → miscalls (set_in is) i ≡ false → ¬ (IsMiscalled is n)
not_at is n i t e m =
    let one : Some m.inst ≡ Some i = sym m.there ∙ t in
    let s : m.inst ≡ i = cc in
    let no : true ≡ false = sym m.missed ∙ (ap (miscalls (set_in is)) s ∙ e) in
    cc

pub not_missed_at : (f : ℕ → Set) (xs : List Inst) (k : ℕ) (x : Inst) → k < length xs → x ≡ get_or xs k x → ((y : ℕ) → f y ≡ set_in (map plain_inst xs) y) → miscalls f (plain_inst x) ≡ false
    → ¬ (IsMiscalled (map plain_inst xs) k)
not_missed_at f xs k x h is same e =
    not_at (map plain_inst xs) k (plain_inst x) (at_place xs k x h is) (sym (same_answer f (set_in (map plain_inst xs)) same (plain_inst x)) ∙ e)

pub none_missed : (xs : List Inst) (n : ℕ) → ((k : ℕ) → k < n → ¬ (IsMiscalled (map plain_inst xs) k)) → length xs ≤ n → (k : ℕ) → ¬ (IsMiscalled (map plain_inst xs) k)
none_missed xs n h l k m = elim (cases_lt k n) [
  | inl a ↦ h k a m
  | inr b ↦
      let past : length (map plain_inst xs) ≤ k = let e = length-map xs plain_inst in omega arith in
      let no : Some m.inst ≡ None = sym m.there ∙ slice_get_past (map plain_inst xs) k past in
      cc
]
