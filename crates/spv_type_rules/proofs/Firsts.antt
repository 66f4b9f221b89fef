-- The rules Y2 to Y8 in their order.
use Rattle.std.proofs.Common.{◌≡◌, ◌<◌, ℕ, suc, List, Bool, true, false, refl, arith, lit≤}
use Rattle.spv_module.specs.Operand.{PlainInst}
use Rattle.spv_module.specs.declared.fault.Rule.{Rule}
use Rattle.spv_module.specs.declared.fault.Rule.TheVariants as rule
use Rattle.spv_layout.specs.First.{rank_of}
use Rattle.spv_type_rules.specs.Keeps.{Keeps, KeepsFunctions, KeepsReturns}
use Rattle.spv_type_rules.specs.inner.Keeps.{CallsAreSound}
use Rattle.spv_type_rules.specs.inner.Rules.{Unasked, IsFirstRule}

-- The rules of rank below b are unbroken, if those of Y2 to Y8 are that are among them.
pub keeps_below : (is : List PlainInst) (n : ℕ) (i : PlainInst) (b : ℕ)
    → (26 < b → Keeps Unasked is rule.Y2 n i)
    → (27 < b → Keeps Unasked is rule.Y3 n i)
    → (28 < b → Keeps Unasked is rule.Y4 n i)
    → (30 < b → Keeps Unasked is rule.Y6 n i)
    → (31 < b → Keeps Unasked is rule.Y7 n i)
    → (32 < b → Keeps Unasked is rule.Y8 n i)
    → (q : Rule) → rank_of q < b → Keeps Unasked is q n i
keeps_below is n i b y2 y3 y4 y6 y7 y8 rule.Y2 l = y2 l
keeps_below is n i b y2 y3 y4 y6 y7 y8 rule.Y3 l = y3 l
keeps_below is n i b y2 y3 y4 y6 y7 y8 rule.Y4 l = y4 l
keeps_below is n i b y2 y3 y4 y6 y7 y8 rule.Y6 l = y6 l
keeps_below is n i b y2 y3 y4 y6 y7 y8 rule.Y7 l = y7 l
keeps_below is n i b y2 y3 y4 y6 y7 y8 rule.Y8 l = y8 l
keeps_below is n i b y2 y3 y4 y6 y7 y8 _ l = tt

untrue : (b : Bool) → b ≡ false → b ≡ true → ⊥
untrue true e y = let no : true ≡ false = e in cc
untrue false e y = let no : false ≡ true = y in cc

pub first_y6 : (is : List PlainInst) (n : ℕ) (i : PlainInst) → Keeps Unasked is rule.Y2 n i
    → Keeps Unasked is rule.Y3 n i → Keeps Unasked is rule.Y4 n i
    → (KeepsFunctions is n i → ⊥) → IsFirstRule is n i rule.Y6
first_y6 is n i y2 y3 y4 never = record {
  of_stage = refl;
  last = lit≤ tt;
  broken = never;
  least = λ q l. keeps_below is n i 30 (λ _. y2) (λ _. y3) (λ _. y4) (λ k. absurd (omega arith))
      (λ k. absurd (omega arith)) (λ k. absurd (omega arith)) q l;
}

pub first_y7 : (is : List PlainInst) (n : ℕ) (i : PlainInst) → Keeps Unasked is rule.Y2 n i
    → Keeps Unasked is rule.Y3 n i → Keeps Unasked is rule.Y4 n i → KeepsFunctions is n i
    → (KeepsReturns is n i → ⊥) → IsFirstRule is n i rule.Y7
first_y7 is n i y2 y3 y4 y6 never = record {
  of_stage = refl;
  last = lit≤ tt;
  broken = never;
  least = λ q l. keeps_below is n i 31 (λ _. y2) (λ _. y3) (λ _. y4) (λ _. y6) (λ k. absurd (omega arith))
      (λ k. absurd (omega arith)) q l;
}

pub first_y8 : (is : List PlainInst) (n : ℕ) (i : PlainInst) → Keeps Unasked is rule.Y2 n i
    → Keeps Unasked is rule.Y3 n i → Keeps Unasked is rule.Y4 n i → KeepsFunctions is n i
    → KeepsReturns is n i → (CallsAreSound is i → ⊥) → IsFirstRule is n i rule.Y8
first_y8 is n i y2 y3 y4 y6 y7 never = record {
  of_stage = refl;
  last = lit≤ tt;
  broken = never;
  least = λ q l. keeps_below is n i 32 (λ _. y2) (λ _. y3) (λ _. y4) (λ _. y6) (λ _. y7)
      (λ k. absurd (omega arith)) q l;
}

pub all_kept : (is : List PlainInst) (n : ℕ) (i : PlainInst) → Keeps Unasked is rule.Y2 n i
    → Keeps Unasked is rule.Y3 n i → Keeps Unasked is rule.Y4 n i → KeepsFunctions is n i
    → KeepsReturns is n i → CallsAreSound is i → (q : Rule) → Keeps Unasked is q n i
all_kept is n i y2 y3 y4 y6 y7 y8 q =
    keeps_below is n i (suc (rank_of q)) (λ _. y2) (λ _. y3) (λ _. y4) (λ _. y6) (λ _. y7) (λ _. y8) q (omega arith)
