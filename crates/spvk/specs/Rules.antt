-- What is put of the code of a number, and of a status. (Own.)
use Rattle.std.specs.Prelude.{◌≡◌, ◌++◌, ℕ, Bool, true, false, List, [], ◌∷◌, Option, Some, None}
use Rattle.spv_rules.specs.declared.rules.Code.{Code}
use Rattle.spv_rules.specs.Rules.{number_of}
use Rattle.spvk.specs.declared.static_text.StaticText.{StaticText}

-- The text of the code of that number lies at the pointer, with a zero octet at its end; or no code has the number, and
-- the pointer is as it was.
pub data Puts (text_of : Code → List ℕ) (number : ℕ) (old new : StaticText) : Bool → Type 0 where
  put : (code : Code) → number ≡ number_of code → new.octets ≡ Some (text_of code ++ 0 ∷ [])
      → Puts text_of number old new true
  missing : ((code : Code) → ¬ (number ≡ number_of code)) → new ≡ old → Puts text_of number old new false

-- The text, if there is one, lies at the pointer, with a zero octet at its end; or there is none, and the pointer is as
-- it was.
pub data PutsIfAny (text : Option (List ℕ)) (old new : StaticText) : Bool → Type 0 where
  put : (said : List ℕ) → text ≡ Some said → new.octets ≡ Some (said ++ 0 ∷ []) → PutsIfAny text old new true
  missing : text ≡ None → new ≡ old → PutsIfAny text old new false
