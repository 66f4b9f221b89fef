-- The first operand of a constant of which what is asked does not hold.
use Rattle.std.proofs.Common.{◌≡◌, ◌∙◌, ◌≤◌, ◌+◌, ◌↔◌, Bool, true, ℕ, List, [], ◌∷◌, Option, Some, sym, ap, subst, length}
use Rattle.std.proofs.Common.{arith, refl}
use Rattle.std.specs.Prelude.{slice_get, IsTrue, IsSomeAnd, MatchOption, sum_by}
use Rattle.spv_table.specs.Table.{Table}
use Rattle.spv_module.specs.Operand.{Plain, PlainInst, type_in}
use Rattle.spv_module.specs.Operand as operand
use Rattle.spv_module.specs.Width.{definition_of}
use Rattle.spv_module.specs.declared.fault.Rule.TheVariants.{Y4}
use Rattle.spv_layout.specs.Place.{operand_words, AreFew}
use Rattle.spv_type_kinds.specs.Operands.{ids_in, after_head}
use Rattle.spv_type_forms.specs.Parts.{part_of, count_of}
use Rattle.spv_type_forms.specs.Types.{IsNumber}
use Rattle.spv_type_rules.specs.declared.constant.Constant.{Constant}
use Rattle.spv_type_rules.specs.declared.constant.Constant.TheVariants as kind
use Rattle.spv_type_rules.specs.Constant.{Constitutes, FitsWidth, constant_of}
use Rattle.spv_type_rules.specs.inner.Constant.{IsSoundConstant}
use Rattle.spv_type_rules.specs.inner.Found.{is_typed_part}
use Rattle.spv_evidence.specs.declared.evidence.Evidence.TheVariants as evidence
use Rattle.spv_readings.specs.Named.{IsDefinedBy}
use Rattle.spv_type_evidence.specs.types.Constant.{IsPartOf, AsksParts, AsksOf, Asks, condition_in, wanted_at, found_at}
use Rattle.spv_type_evidence.specs.types.Constant.{read_at}
use Rattle.spv_type_evidence.specs.types.Evidence.{Shows}
use Rattle.spv_type_evidence.specs.types.inner.First.{IsFirstOf}
use Rattle.spv_type_evidence.specs.types.inner.Known.{IsKnown}
use Rattle.spv_type_evidence.specs.types.inner.Operands.{low_in}
use Rattle.spv_type_evidence.proofs.lemmas.types.Firsts.{first_moved}
use Rattle.spv_type_evidence.proofs.lemmas.types.Making.{part_told, asks_makes}
use Rattle.spv_type_evidence.proofs.lemmas.types.Shaped.{few_ids, few_words, one_word}

-- a part that is told by its test
pub is_part : (is : List PlainInst) (spec : Bool) (r k x : ℕ) (part : Option ℕ) (b : Bool) → part ≡ part_of is r k
    → b ≡ is_typed_part spec part (definition_of is x) → (b ≡ true) ↔ IsPartOf is spec r k x
is_part is spec r k x part b e f =
    let told = part_told spec (part_of is r k) (definition_of is x) in
    let g : b ≡ is_typed_part spec (part_of is r k) (definition_of is x) = f
    ∙ ap (λ p. is_typed_part spec p (definition_of is x)) e in
    (λ y. told.0 (sym g ∙ y), λ p. g ∙ told.1 p)

pub parts_first : (is : List PlainInst) (spec : Bool) (r : ℕ) (xs : List ℕ) (o : Option ℕ)
    → count_of is r ≡ Some (length xs)
    → IsFirstOf (λ k. (j x : ℕ) → k ≡ 2 + j → slice_get xs j ≡ Some x → IsPartOf is spec r j x) o
    → IsFirstOf (AsksParts is spec r xs) o
parts_first is spec r xs o e h =
    first_moved (λ k. (j x : ℕ) → k ≡ 2 + j → slice_get xs j ≡ Some x → IsPartOf is spec r j x)
    (AsksParts is spec r xs) o (λ k. (λ a. (λ z. e, a), λ p. p.1)) h

pub unless_moved : (A : Type 0) (b : Bool) (o : Option ℕ) → (IsTrue b ↔ A) → IsFirstOf (λ k. k ≡ 0 → IsTrue b) o
    → IsFirstOf (λ k. k ≡ 0 → A) o
unless_moved A b o f h =
    first_moved (λ k. k ≡ 0 → IsTrue b) (λ k. k ≡ 0 → A) o (λ k. (λ p e. f.0 (p e), λ p e. f.1 (p e))) h

-- a number that does not fit its type
pub unfit_number : (is : List PlainInst) (r low : ℕ) (os : List Plain) → Some low ≡ low_in os → IsNumber is r
    → ¬ (FitsWidth is r low) → IsFirstOf (AsksOf is kind.Number r os) (Some 2)
unfit_number is r low (operand.Number m high words ∷ []) e n f =
    let same : low ≡ m = cc in
    (λ a. f (subst (FitsWidth is r) (sym same) (a.1 refl)), λ j l. (λ z. n, λ z. absurd (omega arith)))
unfit_number is r low _ e n f = cc

-- Y4, by the first operand that fails.

pub constant_sound : (is : List PlainInst) (i : PlainInst) (c : Constant) → Some c ≡ constant_of i.opcode
    → ((k : ℕ) → Asks is c i.operands k) → IsSoundConstant is i
constant_sound is i c e h =
    subst (λ o. MatchOption o (Unit {0}) (λ d. IsSomeAnd (type_in i.operands)
    (λ r. Constitutes is d r (after_head i.operands)))) e (asks_makes is c i.operands h)

pub constant_shows : (G : Table) (is : List PlainInst) (n k : ℕ) (i : PlainInst) (c : Constant)
    → Some c ≡ constant_of i.opcode → IsFirstOf (Asks is c i.operands) (Some k)
    → (m : Option ℕ) → IsDefinedBy is i (Some k) m
    → Shows G is n i Y4 (evidence.Condition (condition_in is c i k) (Some k) m (wanted_at is c i k) (found_at is c i k)
    (read_at is c i k))
constant_shows G is n k i c e h m by =
    Shows.constant k m (record { kind = c; makes = sym e; fails = h.0; before = h.1 }) by

-- how many parts there are

after_words : (os : List Plain) → sum_by operand_words (after_head os) ≤ sum_by operand_words os
after_words (operand.OfType t ∷ operand.Result x ∷ os) =
    let a = one_word (operand.Result x) os in
    let b = one_word (operand.OfType t) (operand.Result x ∷ os) in
    omega arith
after_words _ = omega arith

pub few_parts : (G : Table) (is : List PlainInst) (n : ℕ) (i : PlainInst) → IsKnown G is → slice_get is n ≡ Some i
    → AreFew (ids_in (after_head i.operands))
few_parts G is n i known at =
    let a = few_ids (after_head i.operands) in
    let b = after_words i.operands in
    let c = few_words is n i at in
    let d = known.words in
    omega arith
