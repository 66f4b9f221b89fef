-- What is told of words that spell no instruction.
use Rattle.std.proofs.Common.{◌≡◌, ◌++◌, ◌∙◌, ◌+◌, ◌-◌, ℕ, List, [], ◌∷◌, Option, ap, arith}
use Rattle.std.specs.Prelude.{slice_get}
use Rattle.spv_module.specs.Operand.{PlainInst}
use Rattle.spv_evidence.specs.declared.evidence.Evidence.{Evidence}
use Rattle.spv_facts.specs.Facts.{evidence_facts}
use Rattle.spv_facts.specs.Words.{begin_of, malformed_facts, words_fact}
use Rattle.spv_facts.specs.inner.Parts.{word_facts}
use Rattle.spv_facts.specs.declared.fact.Fact.{Fact}
use Rattle.spv_facts.specs.declared.fact.Fact.TheVariants as fact

pub words_told : (ws : List ℕ) (n word first offset at : ℕ) (f : Fact) (w : Option ℕ) (none one two : List Fact)
    → first ≡ 5 + begin_of ws n → offset ≡ word - (first - 5) → f ≡ words_fact ws (first - 5) offset
    → w ≡ slice_get ws (at - 5) → at - 5 ≡ word
    → none ≡ [] → one ≡ none ++ (f ∷ []) → two ≡ one ++ (fact.Word offset w ∷ []) → two ≡ word_facts ws n word
words_told ws n word first offset at f w none one two p q r s t h₀ h₁ h₂ =
    let begin = begin_of ws n in
    let b : first - 5 ≡ begin = omega (arith, p) in
    let o : offset ≡ word - begin = q ∙ ap (λ z. word - z) b in
    let g : f ≡ words_fact ws begin (word - begin) = r
    ∙ (ap (λ z. words_fact ws z offset) b ∙ ap (λ z. words_fact ws begin z) o) in
    let v : w ≡ slice_get ws word = s ∙ ap (λ z. slice_get ws z) t in
    let last = fact.Word offset w ∷ [] in
    let begun : two ≡ f ∷ fact.Word offset w ∷ [] = h₂ ∙ ap (λ z. z ++ last) (h₁ ∙ ap (λ z. z ++ (f ∷ [])) h₀) in
    begun ∙ (ap (λ z. z ∷ fact.Word offset w ∷ []) g
    ∙ (ap (λ z. words_fact ws begin (word - begin) ∷ fact.Word z w ∷ []) o ∙
    ap (λ z. words_fact ws begin (word - begin) ∷ fact.Word (word - begin) z ∷ []) v))

pub malformed_told : (ws : List ℕ) (n word : ℕ) (e : Evidence) (is : List PlainInst) (two all : List Fact) → is ≡ []
    → two ≡ word_facts ws n word
    → all ≡ two ++ evidence_facts is n e → all ≡ malformed_facts ws n word e
malformed_told ws n word e is two all i h₀ h₁ =
    h₁ ∙ (ap (λ z. z ++ evidence_facts is n e) h₀ ∙ ap (λ z. word_facts ws n word ++ evidence_facts z n e) i)
