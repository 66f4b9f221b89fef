-- The members of the worked examples.
use Rattle.std.proofs.Common.{◌≡◌, [], ◌∷◌, codes, decimal, refl, arith}
use Rattle.std.proofs.lemmas.Fmt.{decimal_digit}
use Rattle.json.specs.Token.{begin_array, begin_object, end_array, end_object, key as name, null, number, string}
use Rattle.spv_module.specs.Example.{small, string as one_string}
use Rattle.spv_facts.specs.declared.fact.Fact.TheVariants as fact
use Rattle.spv_facts.specs.declared.fact.Thing.TheVariants as thing
use Rattle.spv_fault_json.specs.Members.{member_of}

pub bound_told : member_of small [] [] (fact.Bound 9) ≡ name (codes "bound") ∷ number (codes "9") ∷ []
bound_told = rw (decimal_digit 9 (omega arith)) refl

pub not_text_told : ¬ (member_of small [] [] (fact.Bound 9) ≡ name (codes "bound") ∷ string (codes "9") ∷ [])
not_text_told h = (let e : name (codes "bound") ∷ number (decimal 9) ∷ [] ≡ name (codes "bound") ∷ string (codes "9")
    ∷ [] = h in absurd cc)

pub earlier_told : member_of small (one_string ∷ []) (codes "%5 = OpString \"abc\"" ∷ []) (fact.Earlier 0)
    ≡ name (codes "earlier") ∷ begin_object ∷ name (codes "inst") ∷ number (codes "0") ∷ name (codes "text")
    ∷ string (codes "%5 = OpString \"abc\"") ∷ end_object ∷ []
earlier_told = rw (decimal_digit 0 (omega arith)) refl

pub operand_told : member_of small (one_string ∷ []) [] (fact.Operand 0 0)
    ≡ name (codes "operand") ∷ begin_object ∷ name (codes "index") ∷ number (codes "0") ∷ name (codes "id")
    ∷ number (codes "5") ∷ end_object ∷ []
operand_told = rw (decimal_digit 0 (omega arith), decimal_digit 5 (omega arith)) refl

pub types_told : member_of small [] [] (fact.Types (thing.Id 3 ∷ thing.Nothing ∷ []))
    ≡ name (codes "types") ∷ begin_array ∷ begin_object ∷ name (codes "id") ∷ number (codes "3") ∷ end_object
    ∷ null ∷ end_array ∷ []
types_told = rw (decimal_digit 3 (omega arith)) refl
