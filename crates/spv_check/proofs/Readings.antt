-- What is read of words, as far as it is looked at.
use Rattle.std.proofs.Common.{◌≡◌, ◌+◌, ◌∙◌, ℕ, List, [], ◌∷◌, map, length, refl, sym, ap, arith}
use Rattle.std.specs.Prelude.{sum_by}
use Rattle.std.proofs.lemmas.List.Sums.{sum_by-cons}
use Rattle.spv_table.specs.Table.{Table}
use Rattle.spv_module.specs.Operand.{PlainInst}
use Rattle.spv_module.specs.Instruction.{Listing}
use Rattle.spv_extended.specs.Opened.{opened}
use Rattle.spv_extended.specs.Reach.{looked_at}
use Rattle.spv_extended.specs.declared.reach.Reach.{Reach}
use Rattle.spv_extended.specs.declared.reach.Reach.TheVariants.{Profile, Extended, OpenCl}
use Rattle.spv_layout.specs.Place.{IsShort, operand_words, word_count}
use Rattle.spv_check.specs.Reading.{IsReading}

-- opening keeps how many instructions there are, and how many words their operands take
pub record KeepsWords : Type 0 where
  pub count : (is : List PlainInst) → length (opened is) ≡ length is
  pub words : (is : List PlainInst)
      → map (λ (i : PlainInst). sum_by operand_words i.operands) (opened is) ≡ map
      (λ (i : PlainInst). sum_by operand_words i.operands) is

pub same_count : KeepsWords → (reach : Reach) (is : List PlainInst) → length (looked_at reach is) ≡ length is
same_count law Profile is = refl
same_count law Extended is = law.count is
same_count law (OpenCl minor) is = law.count is

same_sums : (is js : List PlainInst)
    → map (λ (i : PlainInst). sum_by operand_words i.operands) is ≡ map
    (λ (i : PlainInst). sum_by operand_words i.operands) js → sum_by word_count is ≡ sum_by word_count js
same_sums [] [] e = refl
same_sums [] (j ∷ js) e = absurd cc
same_sums (i ∷ is) [] e = absurd cc
same_sums (i ∷ is) (j ∷ js) e =
    let one : sum_by operand_words i.operands ≡ sum_by operand_words j.operands = cc in
    let rest = same_sums is js cc in
    sum_by-cons word_count i is ∙ ap (λ n. 1 + n + sum_by word_count is) one ∙ ap (λ n. word_count j + n) rest
    ∙ sym (sum_by-cons word_count j js)

pub opened_short : KeepsWords → (is : List PlainInst) → IsShort is → IsShort (opened is)
opened_short law is h = let e = same_sums (opened is) is (law.words is) in omega (arith, e, h)

no_words : (G : Table) (before is : List PlainInst) (ws : List ℕ) → Listing G before is ws → length is ≡ 0 → ws ≡ []
no_words G before _ _ (Listing.end _) e = refl
no_words G before _ _ (Listing.more _ i is ws vs a l) e = absurd (omega (arith, e))

-- no instructions have no words
pub not_nothing : KeepsWords → (G : Table) (reach : Reach) (n : ℕ) (ns : List ℕ) → ¬ (IsReading G reach [] (n ∷ ns))
not_nothing law G reach n ns r =
    let e : length r.spelled ≡ 0 = sym (same_count law reach r.spelled)
    ∙ sym (ap (λ (is : List PlainInst). length is) r.seen) in
    let no : n ∷ ns ≡ [] = no_words G [] r.spelled (n ∷ ns) r.listing e in
    cc
